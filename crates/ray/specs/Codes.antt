-- RULES 6, the code table, as a table. Definitions only. Assumes nothing.
use Rattle.std.specs.Prelude.{◌+◌, not, ◌||◌, List, [], ◌∷◌, ◌++◌, ltb, eqb, length}
use Rattle.axis.specs.Leg.{moving}
use Rattle.axis.specs.declared.Limits.{Limits}
use Rattle.axis.specs.Codes.{inside, Row, row, each, axis_rows}
use Rattle.ray.specs.Axes.{Grid}
use Rattle.ray.specs.declared.Ray.{Ray}
use Rattle.ray.specs.declared.Lent.{Lent}
use Rattle.ray.specs.declared.axes.Side.TheVariants.{X, Y, Z}
use Rattle.ray.specs.Length.{leg, volume, count, list_of}

-- RULES 6: 1, 2 and 3, each asked of x, y and z
abbrev pub grid_rows : Limits → Grid → List Row
grid_rows m g = axis_rows m (g.x ∷ g.y ∷ g.z ∷ [])

-- RULES 6: 5, an end beyond the limits on some axis; 6, no axis on which the ends differ
abbrev pub end_rows : Limits → Ray → List Row
end_rows m r =
    each 5 (λ c. not (inside m c)) (r.p.x ∷ r.q.x ∷ r.p.y ∷ r.q.y ∷ r.p.z ∷ r.q.z ∷ [])
    ++ (row 6 (not (moving (leg r X) || (moving (leg r Y) || moving (leg r Z)))) ∷ [])

-- RULES 6, a trace, codes 1 to 7: those on the grid, 4, those on the ends, 7; then 8 with `filled` places taken (RULES 7)
abbrev pub front_rows : Limits → Grid → Ray → Lent → List Row
front_rows m g r l =
    grid_rows m g ++ (row 4 (not (eqb l.densities (count (volume g)))) ∷ []) ++ end_rows m r ++ (row 7 (not (eqb l.voxels l.parts)) ∷ [])

abbrev pub trace_rows : Limits → Grid → Ray → Lent → List Row
trace_rows m g r l = front_rows m g r l ++ (row 8 (ltb l.voxels (l.filled + length (list_of (volume g) r))) ∷ [])
