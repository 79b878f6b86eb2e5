-- RULES 10.5: what a RAY line prints. Definitions only. Assumes nothing.
use Rattle.std.specs.Prelude.{ℕ, cond, List, [], ◌∷◌, ◌++◌, map, eqb}
use Rattle.axis.specs.declared.Limits.{Limits}
use Rattle.axis.specs.Codes.{first}
use Rattle.ray.specs.Axes.{Grid}
use Rattle.ray.specs.declared.Ray.{Ray}
use Rattle.ray.specs.declared.axes.Side.TheVariants.{X, Y, Z}
use Rattle.ray.specs.Length.{Volume, volume, index, part_of, list_of}
use Rattle.ray.specs.Codes.{end_rows}
use Rattle.tracing.specs.declared.Trace.{Trace}
use Rattle.tracing.specs.Answer.{refused, accepted}
use Rattle.text.specs.Line.{line_of}

-- the words as bytes
abbrev pub RAY : List ℕ
RAY = 82 ∷ 65 ∷ 89 ∷ []

abbrev pub CELL : List ℕ
CELL = 67 ∷ 69 ∷ 76 ∷ 76 ∷ []

-- RULES 10.4: 5 or 6; no other code is left, since the grid is accepted and the lists suffice
abbrev pub ray_code : Limits → Ray → ℕ
ray_code m r = first (end_rows m r)

unfoldable pub traced : Limits → Grid → List ℕ → Ray → Trace
traced m g densities r = cond (eqb (ray_code m r) 0) (accepted (volume g) r densities) (refused (ray_code m r))

-- the voxels passed; of a refused ray none
unfoldable pub passed : Limits → Grid → Ray → List ℕ
passed m g r = cond (eqb (ray_code m r) 0) (list_of (volume g) r) []

-- the seven numbers of RULES 5
abbrev pub figures : Trace → List ℕ
figures t = t.code ∷ t.entries ∷ t.crossed ∷ t.span ∷ t.denominator ∷ t.squared ∷ t.sum ∷ []

-- an entry
abbrev pub cell : Volume → ℕ → ℕ → List ℕ
cell v m part = line_of CELL (index v m X ∷ index v m Y ∷ index v m Z ∷ part ∷ [])

unfoldable pub cells : Volume → List ℕ → List ℕ → List ℕ
cells v [] parts = []
cells v (m ∷ ms) [] = []
cells v (m ∷ ms) (part ∷ parts) = cell v m part ++ cells v ms parts

unfoldable pub ray_text : Limits → Grid → List ℕ → Ray → List ℕ
ray_text m g densities r =
    line_of RAY (figures (traced m g densities r)) ++ cells (volume g) (passed m g r) (map (part_of (volume g) r) (passed m g r))
