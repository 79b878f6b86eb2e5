-- Two answers allowed by a promise are equal. A promise that is one equation is a case of `once`; here stand the functions of an axis
-- whose promise is no single equation. Assumes nothing.
use Prim.Native.Nat.{ℕ, ◌+◌, ◌*◌, ◌^◌, ◌≤◌, ◌<◌}
use mathlib.Core.Path.{◌≡◌, sym, ◌∙◌}
use native.Mathlib.Nat.{mul-one}
use native.Mathlib.Decide.{dec_lt}
use native.Mathlib.Omega.{arith}
use Rattle.axis.proofs.Once.{once}
use Rattle.line.specs.declared.line.Line.{Line}
use Rattle.line.specs.declared.reach.Reach.{Reach}
use Rattle.line.specs.Scene.{Sized, Window, Within}
use Rattle.line.specs.Reach.{Reached}
use Rattle.line.specs.Beyond.{First}
use Rattle.line.proofs.Stretch.{one_voxel}
use Rattle.line.proofs.Rounded.{voxel_of}

-- `enter` and `leave`
pub units_once : (ticks : ℕ → ℕ) (r r' : ℕ) → ((rest : ℕ) → r * rest ≡ ticks rest) → ((rest : ℕ) → r' * rest ≡ ticks rest) → r ≡ r'
units_once ticks r r' x y = sym (mul-one r) ∙ once (x 1) (y 1) ∙ mul-one r'

pub reach_once : (a : Line) (c : ℕ) (r r' : Reach) → Reached a c r → Reached a c r' → r ≡ r'
reach_once a c r r' x y = λ i. record {
  from = once x.from_is y.from_is i;
  to = once x.to_is y.to_is i;
  held = once x.held_is y.held_is i;
}

pub jump_once : (p q unit r r' : ℕ) → (p < q → r ≡ 2 ^ 32 + unit) × (q ≤ p → r + unit ≡ 2 ^ 32) → (p < q → r' ≡ 2 ^ 32 + unit) × (q ≤ p → r' + unit ≡ 2 ^ 32) → r ≡ r'
jump_once p q unit r r' x y = elim (dec_lt p q) [
  | yes h ↦ once (x.0 h) (y.0 h)
  | no h ↦ let up = x.1 (omega arith) in let down = y.1 (omega arith) in omega (arith, up, down)
]

-- `index`
pub index_once : (a : Line) (c t i j : ℕ) → Sized a → Within a c t i → Within a c t j → i ≡ j
index_once a c t i j sized = one_voxel a sized c t

-- `ahead`
pub ahead_once : (a : Line) (c t i j : ℕ) → Sized a → Window a c t → First a c t i → First a c t j → i ≡ j
ahead_once a c t i j sized window x y = let v = voxel_of a c t window sized in once (x.ahead v.0 v.1) (y.ahead v.0 v.1)
