-- What the codes of a grid and of ends say, at any limits. Assumes nothing.
use Prim.Native.Nat.{ℕ}
use mathlib.Core.Path.{◌≡◌, refl, ap, ◌∙◌}
use mathlib.Core.Bool.{Bool, true, false, not, ◌&&◌, ◌||◌, cond}
use borrow.Author.Tests.{not-false}
use Rattle.axis.specs.declared.Limits.{Limits}
use lib.IntN.{ℤ}
use Rattle.std.specs.Int.Signed.{lt_z}
use Rattle.std.specs.Ordering.{int_eq, is_eq}
use Rattle.std.proofs.Common.{Less, Equal, Greater}
use Rattle.axis.specs.Leg.{moving}
use Rattle.axis.specs.Codes.{inside, first, beyond, planes_out}
use Rattle.axis.proofs.Table.{off, either}
use Rattle.axis.proofs.Bounds.{AxisOk, axis_ok}
use Rattle.ray.specs.Axes.{Grid}
use Rattle.ray.specs.declared.Ray.{Ray}
use Rattle.ray.specs.Side.{of_side}
use Rattle.ray.specs.declared.axes.Side.{Side}
use Rattle.ray.specs.declared.axes.Side.TheVariants.{X, Y, Z}
use Rattle.ray.specs.Length.{leg}
use Rattle.ray.specs.Codes.{grid_rows, end_rows}
use Rattle.ray.proofs.Tests.{any}

-- one code asked of x, y and z
asked : (c : ℕ) (b : Side → Bool) (d : ℕ) → cond (b X) c (cond (b Y) c (cond (b Z) c d)) ≡ cond (any b) c d
asked c b d = ap (cond (b X) c) (either c (b Y) (b Z) d) ∙ either c (b X) (b Y || b Z) d

-- the codes of a grid, each by a test of some side
module _ (m : Limits) (g : Grid) where
  abbrev no_n : Side → Bool
  no_n o = beyond m.n (of_side g o).n

  abbrev no_d : Side → Bool
  no_d o = beyond m.d (of_side g o).d

  abbrev no_planes : Side → Bool
  no_planes o = planes_out m (of_side g o)

  pub grid_are : first (grid_rows m g) ≡ cond (any no_n) 1 (cond (any no_d) 2 (cond (any no_planes) 3 0))
  grid_are = asked 1 no_n _ ∙ ap (cond (any no_n) 1) (asked 2 no_d _ ∙ ap (cond (any no_d) 2) (asked 3 no_planes 0))

-- and those of the ends
abbrev pub moves : Ray → Side → Bool
moves r o = moving (leg r o)

module _ (m : Limits) (r : Ray) where
  abbrev no_p : Side → Bool
  no_p o = not (inside m (leg r o).p)

  abbrev no_q : Side → Bool
  no_q o = not (inside m (leg r o).q)

  abbrev pub out : Side → Bool
  out o = no_p o || no_q o

  pub ends_are : first (end_rows m r) ≡ cond (any out) 5 (cond (not (any (moves r))) 6 0)
  ends_are =
      either 5 (no_p X) (no_q X) _
      ∙ ap (cond (out X) 5) (either 5 (no_p Y) (no_q Y) _ ∙ ap (cond (out Y) 5) (either 5 (no_p Z) (no_q Z) _))
      ∙ asked 5 out _

-- equal on an axis where it does not move, and equal ends where none does
still : (p q : ℤ) → int_eq p q ≡ not (moving (record { p = p; q = q }))
still p q = by (lt_z p q) (lt_z q p)
  where
    by : (a b : Bool) → is_eq (cond a Less (cond b Greater Equal)) ≡ not (a || b)
    by true b = refl
    by false true = refl
    by false false = refl

pub ends_equal : (r : Ray) → (int_eq r.p.x r.q.x && (int_eq r.p.y r.q.y && int_eq r.p.z r.q.z)) ≡ not (any (moves r))
ends_equal r = rw (still r.p.x r.q.x, still r.p.y r.q.y, still r.p.z r.q.z) (none (moves r X) (moves r Y) (moves r Z))
  where
    none : (a b c : Bool) → (not a && (not b && not c)) ≡ not (a || (b || c))
    none true b c = refl
    none false true c = refl
    none false false c = refl

module _ (m : Limits) where
  pub axes_ok : (g : Grid) → first (grid_rows m g) ≡ 0 → (o : Side) → AxisOk m (of_side g o)
  axes_ok g h X = let o = off (grid_rows m g) refl h in axis_ok m g.x o.0 o.1.1.1.0 o.1.1.1.1.1.1.0
  axes_ok g h Y = let o = off (grid_rows m g) refl h in axis_ok m g.y o.1.0 o.1.1.1.1.0 o.1.1.1.1.1.1.1.0
  axes_ok g h Z = let o = off (grid_rows m g) refl h in axis_ok m g.z o.1.1.0 o.1.1.1.1.1.0 o.1.1.1.1.1.1.1.1.0

  pub ends_inside : (r : Ray) → first (end_rows m r) ≡ 0 → (o : Side) → (inside m (leg r o).p ≡ true) × (inside m (leg r o).q ≡ true)
  ends_inside r h X = let o = off (end_rows m r) refl h in (not-false _ o.0, not-false _ o.1.0)
  ends_inside r h Y = let o = off (end_rows m r) refl h in (not-false _ o.1.1.0, not-false _ o.1.1.1.0)
  ends_inside r h Z = let o = off (end_rows m r) refl h in (not-false _ o.1.1.1.1.0, not-false _ o.1.1.1.1.1.0)
