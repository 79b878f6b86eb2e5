-- What an accepted axis and an accepted coordinate may be relied on for, at any limits. Assumes nothing.
use Prim.Native.Nat.{ℕ, ◌+◌, ◌*◌, ◌≤◌, ◌<◌}
use mathlib.Core.Path.{◌≡◌, sym, ap, ◌∙◌}
use mathlib.Core.Bool.{Bool, true, false, not, ◌&&◌}
use native.Mathlib.Omega.{arith}
use lib.IntN.{ℤ, pos, neg_ℤ, ◌+ℤ◌}
use lib.Signed.{le_z}
use lib.Dec.{leb, eqb}
use borrow.Author.Tests.{leb-true, ltb-false, eqb-false, not-false}
use Rattle.axis.specs.declared.Axis.{Axis}
use Rattle.axis.specs.Leg.{planes}
use Rattle.axis.specs.declared.Limits.{Limits}
use Rattle.axis.specs.Codes.{inside, beyond, planes_out}
use Rattle.axis.proofs.Flag.{holds, is_true, and_left, and_right, or_left, or_right}
use Rattle.axis.proofs.Shift.{shift, Low, low_pos, shift_order, shift_add, low_add}

module _ (m : Limits) where
  pub inside_low : (z : ℤ) → inside m z ≡ true → Low m.coord z
  inside_low z h = holds (and_left (le_z (neg_ℤ (pos m.coord)) z) _ h)

  pub inside_most : (z : ℤ) → inside m z ≡ true → shift m.coord z ≤ m.coord + m.coord
  inside_most z h =
      leb-true _ _ (sym (shift_order m.coord z (pos m.coord) (inside_low z h) (low_pos m.coord m.coord)) ∙ and_right (le_z (neg_ℤ (pos m.coord)) z) _ h)

  -- the far plane within its bounds, read off shifted numbers
  pub far_inside : (b : ℤ) (k : ℕ) → inside m b ≡ true → inside m (b +ℤ pos k) ≡ leb (shift m.coord b + k) (m.coord + m.coord)
  far_inside b k h =
      let low : Low m.coord (b +ℤ pos k) = low_add m.coord b k (inside_low b h) in
      ap (λ (t : Bool). t && le_z (b +ℤ pos k) (pos m.coord)) (is_true (le_z (neg_ℤ (pos m.coord)) (b +ℤ pos k)) low)
      ∙ shift_order m.coord (b +ℤ pos k) (pos m.coord) low (low_pos m.coord m.coord)
      ∙ ap (λ (x : ℕ). leb x (m.coord + m.coord)) (shift_add m.coord b k (inside_low b h))

  -- 0 is the code of an axis that no row refuses
  pub record AxisOk (a : Axis) : Type 0 where
    pub some : 0 < a.n
    pub few : a.n ≤ m.n
    pub wide : 0 < a.d
    pub narrow : a.d ≤ m.d
    pub near : inside m a.b ≡ true
    pub far : shift m.coord a.b + a.n * a.d ≤ m.coord + m.coord

  within : (most x : ℕ) → beyond most x ≡ false → (0 < x) × (x ≤ most)
  within most x h = let e = eqb-false x 0 (or_left (eqb x 0) _ h) in let l = ltb-false most x (or_right (eqb x 0) _ h) in (omega arith, omega arith)

  pub axis_ok : (a : Axis) → beyond m.n a.n ≡ false → beyond m.d a.d ≡ false → planes_out m a ≡ false → AxisOk a
  axis_ok a hn hd hp =
      let near : inside m a.b ≡ true = not-false _ (or_left (not (inside m a.b)) _ hp) in
      let far : inside m ((planes a).at a.n) ≡ true = not-false _ (or_right (not (inside m a.b)) _ hp) in
      record {
        some = (within m.n a.n hn).0;
        few = (within m.n a.n hn).1;
        wide = (within m.d a.d hd).0;
        narrow = (within m.d a.d hd).1;
        near = near;
        far = leb-true _ _ (sym (far_inside a.b (a.n * a.d) near) ∙ far);
      }
