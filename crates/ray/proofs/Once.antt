-- Two answers allowed by the promise of a public call of this crate are equal. Assumes nothing.
use mathlib.Core.Path.{◌≡◌}
use Rattle.std.specs.Prelude.{Result}
use Rattle.axis.specs.declared.Limits.{Limits}
use Rattle.axis.specs.declared.refusal.Refusal.{Refusal}
use Rattle.axis.specs.Refusal.{number_of}
use Rattle.axis.specs.Codes.{first}
use Rattle.axis.proofs.Once.{number_once}
use Rattle.ray.specs.declared.axes.Axes.{Axes}
use Rattle.ray.specs.Axes.{Grid}
use Rattle.ray.specs.declared.Ray.{Ray}
use Rattle.ray.specs.Codes.{grid_rows, end_rows}

module _ (m : Limits) where
  pub grid_code_once : (g : Grid) (c e : Result (Unit {0}) Refusal) → number_of c ≡ first (grid_rows m g) → number_of e ≡ first (grid_rows m g) → c ≡ e
  grid_code_once g c e = number_once

  pub ends_code_once : (r : Ray) (c e : Result (Unit {0}) Refusal) → number_of c ≡ first (end_rows m r) → number_of e ≡ first (end_rows m r) → c ≡ e
  ends_code_once r c e = number_once

-- `map`, where each of its three answers is one that `may` allows, and that allows one
pub map_once : {A B : Type 0} {may : A → B → Type 0} (one : (a : A) (b c : B) → may a b → may a c → b ≡ c) (a : Axes A) (r s : Axes B)
    → may a.x r.x × (may a.y r.y × may a.z r.z) → may a.x s.x × (may a.y s.y × may a.z s.z) → r ≡ s
map_once one a r s p q = λ i. record { x = one a.x r.x s.x p.0 q.0 i; y = one a.y r.y s.y p.1.0 q.1.0 i; z = one a.z r.z s.z p.1.1 q.1.1 i }
