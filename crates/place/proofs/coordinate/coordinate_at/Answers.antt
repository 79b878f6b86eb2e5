-- What is divided is the exact coordinate times f's denominator, and each number is small enough for a float. Assumes nothing.
use Rattle.std.proofs.Common.{ℕ, ◌≡◌, true, ◌*◌, ◌^◌, ◌≤◌, ◌<◌, sym, ap, ◌∙◌, ℤ, pos, ◌-ℤ◌, w32, w64, FitsSigned, to_z, of_z, arith}
use lib.IntN.{negsuc, nat_abs}
use lib.Dec.{T}
use lib.Ieee.{binary64, in_float, of_int, div}
use mir.ValLaws.{to_z-of_z, to_z_pos}
use Rattle.axis.specs.declared.Limits.{Limits}
use Rattle.axis.specs.Codes.{inside}
use Rattle.axis.specs.Leg.{Leg}
use Rattle.axis.proofs.Shift.{shift}
use Rattle.axis.proofs.Bounds.{inside_most}
use Rattle.line.specs.Raised.{Small}
use Rattle.line.proofs.Sizes.{two_sizes}
use Rattle.place.specs.Ratio.{Ratio, Short}
use Rattle.place.specs.Answers.{nearest, coordinate}
use Rattle.place.proofs.Difference.{diff_size}
use Rattle.place.proofs.Quotient.{whole_in, quotient_is}
use Rattle.place.proofs.Within.{spot, spot_short}
use Rattle.place.proofs.OnLeg.{exactly_is}
use Rattle.place.proofs.coordinate.coordinate_at.Goals as goal

fits64 : (z : ℤ) → nat_abs z < 2 ^ 63 → FitsSigned w64 z
fits64 (pos n) h = record { sfits = omega arith }
fits64 (negsuc n) h = record { sfits = omega arith }

-- both ends as they are read and told from -k up, and the place between them
told_by : (k : ℕ) (p q : ℤ) (f : Ratio) → FitsSigned w32 p → FitsSigned w32 q → {a b told : ℕ} → a ≡ shift k (to_z w32 (of_z w32 p)) → b ≡ shift k (to_z w32 (of_z w32 q))
    → told ≡ spot a b f.num f.den → told ≡ spot (shift k p) (shift k q) f.num f.den
told_by k p q f p_fits q_fits p_is q_is h =
    h ∙ (λ i. spot ((rw (to_z-of_z w32 p p_fits) at p_is) i) ((rw (to_z-of_z w32 q q_fits) at q_is) i) f.num f.den)

-- the numbers of the body, and that each is small
module _ (m : Limits) (leg : Leg) (f : Ratio) (small : Small m) (both : (inside m leg.p ≡ true) × (inside m leg.q ≡ true)) (short : Short f) (on_ray : f.num ≤ f.den) where
  abbrev k : ℕ
  k = m.coord

  room : k * 2 ≤ 2 ^ 20
  room = omega (arith, small.coord_size)

  p_most : shift k leg.p ≤ 2 ^ 20
  p_most = omega (arith, inside_most m leg.p both.0, room)

  q_most : shift k leg.q ≤ 2 ^ 20
  q_most = omega (arith, inside_most m leg.q both.1, room)

  abbrev v : ℕ
  v = spot (shift k leg.p) (shift k leg.q) f.num f.den

  v_most : v ≤ 2 ^ 40
  v_most = spot_short (shift k leg.p) (shift k leg.q) f p_most q_most short on_ray

  abbrev by : ℕ
  by = k * f.den

  by_most : by ≤ 2 ^ 40
  by_most = two_sizes (omega (arith, room)) short.den_size

  abbrev z : ℤ
  z = pos v -ℤ pos by

  z_most : nat_abs z ≤ 2 ^ 53
  z_most = omega (arith, diff_size v by, v_most, by_most)

  z_fits : FitsSigned w64 z
  z_fits = fits64 z (omega (arith, diff_size v by, v_most, by_most))

  -- what the casts read back
  parts_are : to_z w64 v -ℤ to_z w64 by ≡ z
  parts_are = rw (to_z_pos w64 v (omega (arith, v_most)), to_z_pos w64 by (omega (arith, by_most)))

  back : to_z w64 (of_z w64 (to_z w64 v -ℤ to_z w64 by)) ≡ z
  back = ap (λ (y : ℤ). to_z w64 (of_z w64 y)) parts_are ∙ to_z-of_z w64 z z_fits

  -- and what the division gives, where its numerator is one that a float holds
  module _ {told : ℕ} (told_is : told ≡ v) where
    told_fits : told < 2 ^ 63
    told_fits = omega (arith, told_is, v_most)

    num_fits : FitsSigned w64 (to_z w64 told -ℤ to_z w64 by)
    num_fits = rw (told_is, parts_are) z_fits

    num_whole : nat_abs z ≤ 2 ^ 53 → T (in_float binary64 (to_z w64 (of_z w64 (to_z w64 told -ℤ to_z w64 by))))
    num_whole few = rw (told_is, back) (whole_in z few)

    value : nat_abs z ≤ 2 ^ 53 → div binary64 (of_int binary64 (to_z w64 (of_z w64 (to_z w64 told -ℤ to_z w64 by)))) (of_int binary64 (pos f.den)) ≡ coordinate leg f.num f.den
    value few =
        rw (told_is, back)
        (quotient_is z f.den few (omega (arith, short.den_size)) short.some
        ∙ ap (λ (y : ℤ). nearest y f.den) (sym (exactly_is m leg both f.num f.den on_ray)))

pub overflow_mul-by : goal.overflow_mul-by
overflow_mul-by c =
    let a = c.args in
    let l : Leg = record { p = a.p; q = a.q } in
    let r = c.requires in
    let short = rw c.f.view_is at c.f.invariant in
    rw (c.from.ensures, ap (λ (f : Ratio). f.den) c.f.view_is) record { fits = omega (arith, by_most a.m l a.f r.small r.both_inside short r.on_ray) }

pub overflow_cast-num : goal.overflow_cast-num
overflow_cast-num c =
    let a = c.args in
    let l : Leg = record { p = a.p; q = a.q } in
    let r = c.requires in
    let short = rw c.f.view_is at c.f.invariant in
    let told_is = told_by a.m.coord a.p a.q a.f c.ranges.p c.ranges.q c.raised.ensures c.raised-2.ensures c.along-told.ensures in
    record { sfits = told_fits a.m l a.f r.small r.both_inside short r.on_ray told_is }

pub overflow_sub-num : goal.overflow_sub-num
overflow_sub-num c =
    let a = c.args in
    let l : Leg = record { p = a.p; q = a.q } in
    let r = c.requires in
    let short = rw c.f.view_is at c.f.invariant in
    let told_is = told_by a.m.coord a.p a.q a.f c.ranges.p c.ranges.q c.raised.ensures c.raised-2.ensures c.along-told.ensures in
    rw (c.from.ensures, ap (λ (f : Ratio). f.den) c.f.view_is) (num_fits a.m l a.f r.small r.both_inside short r.on_ray told_is)

pub int_to_float-result : goal.int_to_float-result
int_to_float-result c =
    let a = c.args in
    let l : Leg = record { p = a.p; q = a.q } in
    let r = c.requires in
    let short = rw c.f.view_is at c.f.invariant in
    let told_is = told_by a.m.coord a.p a.q a.f c.ranges.p c.ranges.q c.raised.ensures c.raised-2.ensures c.along-told.ensures in
    rw (c.from.ensures, ap (λ (f : Ratio). f.den) c.f.view_is) (num_whole a.m l a.f r.small r.both_inside short r.on_ray told_is (z_most a.m l a.f r.small r.both_inside short r.on_ray))

pub returns : goal.returns
returns c =
    let a = c.args in
    let l : Leg = record { p = a.p; q = a.q } in
    let r = c.requires in
    let short = rw c.f.view_is at c.f.invariant in
    let told_is = told_by a.m.coord a.p a.q a.f c.ranges.p c.ranges.q c.raised.ensures c.raised-2.ensures c.along-told.ensures in
    rw (c.from.ensures, ap (λ (f : Ratio). f.den) c.f.view_is) (value a.m l a.f r.small r.both_inside short r.on_ray told_is (z_most a.m l a.f r.small r.both_inside short r.on_ray))
