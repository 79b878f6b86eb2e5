-- Equal steps: where the next plane lies, and the tick at which it is met. Beside the rounded quotients (`Rounded`) and `Raised` nothing else that is
-- proved of a line knows more of its planes than that they rise. Assumes nothing.
use Prim.Native.Nat.{ℕ, ◌+◌, ◌-◌, ◌*◌, ◌<◌}
use mathlib.Core.Path.{◌≡◌, sym, ap, ◌∙◌}
use native.Mathlib.Omega.{arith}
use native.Mathlib.Nat.{add-mul, one-mul}
use Rattle.line.specs.declared.line.Line.{Line}
use Rattle.line.specs.Scene.{plane, leaves_at}
use Rattle.ray.proofs.Way.{Way, up, down, still}
use Rattle.line.proofs.Units.{leave_by}
use Rattle.line.proofs.Stretch.{way_of, going, leave_voxel, onward, Left, both_some}

plane_next : (a : Line) (i : ℕ) → plane a (i + 1) ≡ plane a i + a.d
plane_next a i = omega (arith, add-mul i 1 a.d, one-mul a.d)

-- ---- from a voxel to the next the tick at which it is left grows by the ticks of a step
module _ (a : Line) (i : ℕ) where
  step_unit : (w : Way) → Left w i → 0 < leave_by w a.p (plane a i) (plane a (i + 1))
      → leave_by w a.p (plane a (onward w i)) (plane a (onward w i + 1)) ≡ leave_by w a.p (plane a i) (plane a (i + 1)) + a.d
  step_unit up l s = omega (arith, plane_next a (i + 1))
  step_unit down l s =
      let back : i - 1 + 1 ≡ i = omega arith in
      omega (arith, plane_next a (i - 1), ap (plane a) back)
  step_unit still l s = absurd l

  pub stride : (c : ℕ) → Left (way_of a) i → 0 < leaves_at a c i (i + 1) → leaves_at a c (onward (way_of a) i) (onward (way_of a) i + 1) ≡ leaves_at a c i (i + 1) + a.d * c
  stride c l s =
      let w = way_of a in
      let left = leave_voxel a c w (going a) i in
      let some = both_some (leave_by w a.p (plane a i) (plane a (i + 1))) c (omega arith) in
      leave_voxel a c w (going a) (onward w i) ∙ ap (λ (x : ℕ). x * c) (step_unit w l some.0)
      ∙ add-mul (leave_by w a.p (plane a i) (plane a (i + 1))) a.d c ∙ ap (λ (x : ℕ). x + a.d * c) (sym left)
