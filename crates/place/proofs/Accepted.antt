-- A grid and a ray that no row refuses, at any limits. Assumes nothing.
use mathlib.Core.Path.{◌≡◌, refl, sym, ◌∙◌}
use Rattle.axis.specs.declared.Limits.{Limits}
use Rattle.axis.specs.Codes.{first}
use Rattle.axis.proofs.Table.{then, then_none, joined}
use Rattle.ray.specs.Axes.{Grid}
use Rattle.ray.specs.declared.Ray.{Ray}
use Rattle.ray.specs.Codes.{grid_rows, end_rows}
use Rattle.place.specs.Answers.{refusal_of}

module _ (m : Limits) (g : Grid) (r : Ray) where
  pub refusal_is : refusal_of m g r ≡ then (first (grid_rows m g)) (first (end_rows m r))
  refusal_is = joined (grid_rows m g) (end_rows m r) refl

  pub record Accepted : Type 0 where
    pub grid : first (grid_rows m g) ≡ 0
    pub ends : first (end_rows m r) ≡ 0

  pub accepted : refusal_of m g r ≡ 0 → Accepted
  accepted h = let o = then_none _ _ (sym refusal_is ∙ h) in record { grid = o.0; ends = o.1 }
