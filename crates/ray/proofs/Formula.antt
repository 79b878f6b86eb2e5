-- The length in one voxel, αmin and αmax (RULES 3, 4), and equations (2), (12) and (13), in whole numbers and fractions; and that part,
-- start and stop over D are those. Assumes nothing.
use Prim.Native.Nat.{ℕ, zero, suc, ◌+◌, ◌*◌, ◌≤◌, ◌<◌, min, max}
use mathlib.Core.Path.{◌≡◌, refl, sym, ap, ap₂, ◌∙◌}
use mathlib.Core.Bool.{Bool, true, false, cond, true≢false}
use mathlib.Core.List.{List, [], ◌∷◌, map}
use mathlib.Core.Logic.{inl, inr}
use native.Mathlib.Nat.{mul_assoc, mul_comm, mul_left_comm, mul-pos, min-eq_right, min-le_right, min_comm, zero-max, max-zero, le_refl, le_trans}
use native.Mathlib.Omega.{arith}
use lib.IntN.{ℤ, pos, negsuc, neg_ℤ, nat_abs, ◌+ℤ◌, ◌-ℤ◌, ◌*ℤ◌, *ℤ_comm, *ℤ-zero, zero-*ℤ}
use lib.Signed.{lt_z, le_z}
use lib.Dec.{leb, leb-zero}
use borrow.Author.Tests.{not-true}
use Rattle.axis.specs.Leg.{Leg, moving, factor, run, natural, Slab, enters, leaves}
use Rattle.ray.specs.declared.Ray.{Ray}
use Rattle.ray.specs.declared.axes.Side.{Side}
use Rattle.ray.specs.declared.axes.Side.TheVariants.{X, Y, Z}
use Rattle.ray.specs.Length.{leg, d_of, rest, Volume, voxel, holds, start, stop, part_of}
use Rattle.ray.proofs.Through.{min_rises, max_rises, times_rises}
use Rattle.ray.proofs.Tests.{tested}
use Rattle.ray.proofs.Told.{lt_le, le_diff, neg_diff}
use Rattle.ray.proofs.Way.{factor_pos}
use Rattle.ray.proofs.Capped.{d_side, d_pos, still_rest, part, part_voxel}
use Rattle.ray.proofs.Fraction.{Fraction, lesser, greater, minus, plus, whole, or_zero, least, greatest, At, Is, at, least0, plus_is, none_is, above_zero, or_zero_lem, lesser_at, greater_at, greater_is, minus_at}

-- α of the place c, (c - p) / (q - p), equation (4), with no sign below the line
abbrev pub α : Leg → ℤ → Fraction
α l c = record { num = cond (lt_z l.p l.q) (c -ℤ l.p) (l.p -ℤ c); den = nat_abs (l.q -ℤ l.p) }

-- P + α(Q - P) on one axis, equation (2)
abbrev pub along : Leg → Fraction → Fraction
along l α = record { num = l.p *ℤ pos α.den +ℤ α.num *ℤ (l.q -ℤ l.p); den = α.den }

-- the middle of two α, equation (13)
abbrev pub αmid : Fraction → Fraction → Fraction
αmid x y = record { num = (plus x y).num; den = (plus x y).den * 2 }

-- [P + α(Q - P) - b] / d, where the first plane is at b: equation (12), counted from 0, before it is rounded
abbrev pub equation12 : Leg → (b : ℤ) → (d : ℕ) → Fraction → Fraction
equation12 l b d α = record { num = (along l α).num -ℤ b *ℤ pos α.den; den = α.den * d }

-- of some axes the moving ones
unfoldable pub movers : Ray → List Side → List Side
movers r [] = []
movers r (s ∷ ss) = cond (moving (leg r s)) (s ∷ movers r ss) (movers r ss)

abbrev pub lesserα : Ray → (Side → Slab) → Side → Fraction
lesserα r b s = lesser (α (leg r s) (b s).lo) (α (leg r s) (b s).hi)

abbrev pub greaterα : Ray → (Side → Slab) → Side → Fraction
greaterα r b s = greater (α (leg r s) (b s).lo) (α (leg r s) (b s).hi)

-- RULES 3 and 4, enter and leave of a box, equation (5): over the moving axes the largest of 0 and the lesser α, the smallest of 1 and
-- the greater α
abbrev pub αmin : Ray → (Side → Slab) → Fraction
αmin r b = greatest (whole 0) (map (lesserα r b) (movers r (X ∷ Y ∷ Z ∷ [])))

abbrev pub αmax : Ray → (Side → Slab) → Fraction
αmax r b = least (whole 1) (map (greaterα r b) (movers r (X ∷ Y ∷ Z ∷ [])))

-- RULES 3: the length in a box. Nothing where a still axis does not hold the ray; else leave less enter, and never below 0.
abbrev pub length_in : Ray → (Side → Slab) → Fraction
length_in r b = cond (holds r b) (or_zero (minus (αmax r b) (αmin r b))) (whole 0)

-- ---- equation 4

both_neg : (z : ℤ) (n : ℕ) → neg_ℤ z *ℤ neg_ℤ (pos n) ≡ pos (nat_abs (neg_ℤ (pos n))) *ℤ z
both_neg z zero = *ℤ-zero (neg_ℤ z) ∙ sym (zero-*ℤ z)
both_neg (pos zero) (suc n) = zero-*ℤ (negsuc n) ∙ sym (*ℤ-zero (pos (suc n)))
both_neg (pos (suc a)) (suc n) = ap pos (mul_comm (suc a) (suc n))
both_neg (negsuc a) (suc n) = ap (λ (x : ℕ). neg_ℤ (pos x)) (mul_comm (suc a) (suc n))

-- α times (q - p) is c - p
pub α_is : (l : Leg) (c : ℤ) → moving l ≡ true → (α l c).num *ℤ (l.q -ℤ l.p) ≡ pos (α l c).den *ℤ (c -ℤ l.p)
α_is l c m = elim (tested (lt_z l.p l.q)) [
  | inl h ↦ rw h (ap (λ (z : ℤ). (c -ℤ l.p) *ℤ z) (ahead l.p l.q h) ∙ *ℤ_comm (c -ℤ l.p) (pos (nat_abs (l.q -ℤ l.p))))
  | inr h ↦
      let n : ℕ = nat_abs (l.p -ℤ l.q) in
      let e : l.q -ℤ l.p ≡ neg_ℤ (pos n) = sym (neg_diff l.p l.q) ∙ ap neg_ℤ (ahead l.q l.p (rw h at m)) in
      rw h (ap₂ ◌*ℤ◌ (sym (neg_diff c l.p)) e ∙ both_neg (c -ℤ l.p) n ∙ ap (λ (z : ℤ). pos (nat_abs z) *ℤ (c -ℤ l.p)) (sym e))
]
  where
    -- x below y: the difference is a number without a sign
    ahead : (x y : ℤ) → lt_z x y ≡ true → y -ℤ x ≡ pos (nat_abs (y -ℤ x))
    ahead x y h = positive (y -ℤ x) (sym (le_diff y x) ∙ not-true (le_z y x) (sym (lt_le x y) ∙ h))
      where
        positive : (z : ℤ) → leb (natural z) 0 ≡ false → z ≡ pos (nat_abs z)
        positive (pos n) e = refl
        positive (negsuc n) e = absurd (true≢false (sym (leb-zero 0) ∙ e))

-- ---- in units of 1/D

-- a fraction by a whole number
pub over_is : {d : ℕ} {x : Fraction} {n : ℕ} (k : ℕ) → 0 < k → Is d x n → Is (k * d) (record { num = x.num; den = x.den * k }) n
over_is {d} {x} {n} k some p = record {
  d_pos = mul-pos some p.d_pos;
  den_pos = mul-pos p.den_pos some;
  is =
      ap (λ (z : ℤ). z *ℤ pos (k * d)) (least0 p)
      ∙ ap pos (mul_left_comm (natural x.num) k d ∙ ap (λ (t : ℕ). k * t) (at p) ∙ mul_comm k (n * x.den) ∙ mul_assoc n x.den k);
}

pub αmid_is : {d : ℕ} {x y : Fraction} {n m : ℕ} → Is d x n → Is d y m → Is (2 * d) (αmid x y) (n + m)
αmid_is p q = over_is 2 (omega arith) (plus_is p q)

natural_cond : (t : Bool) (x y : ℤ) → natural (cond t x y) ≡ cond t (natural x) (natural y)
natural_cond true x y = refl
natural_cond false x y = refl

one_last : (d x y z : ℕ) → min x (min y (min z d)) ≡ min d (min x (min y z))
one_last d x y z = ap (min x) (assoc y z d) ∙ assoc x (min y z) d ∙ min_comm (min x (min y z)) d
  where
    assoc : (a b c : ℕ) → min a (min b c) ≡ min (min a b) c
    assoc a b c = omega arith

module _ (r : Ray) where
  -- a plane's α, or 0 where it lies behind the start
  pub α_at : (s : Side) (c : ℤ) → moving (leg r s) ≡ true → At (d_of r) (α (leg r s) c) (run (leg r s) c * rest r s)
  α_at s c h =
      let f : factor (leg r s) ≡ nat_abs ((leg r s).q -ℤ (leg r s).p) = rw h in
      record {
        d_pos = d_pos r;
        den_pos = rw (← f) (factor_pos (leg r s));
        at =
            rw (natural_cond (lt_z (leg r s).p (leg r s).q) (c -ℤ (leg r s).p) ((leg r s).p -ℤ c), ← f, d_side r s)
            (ap (λ (x : ℕ). run (leg r s) c * x) (mul_comm (factor (leg r s)) (rest r s)) ∙ sym (mul_assoc (run (leg r s) c) (rest r s) (factor (leg r s))));
      }

  module _ (b : Side → Slab) where
    enter : Side → ℕ
    enter s = enters (rest r s) (leg r s) (b s)

    leave : Side → ℕ
    leave s = leaves (rest r s) (leg r s) (b s)

    lowest : List Side → ℕ
    lowest [] = d_of r
    lowest (s ∷ ss) = min (leave s) (lowest ss)

    highest : List Side → ℕ
    highest [] = 0
    highest (s ∷ ss) = max (enter s) (highest ss)

    lowest_cap : (ss : List Side) → lowest ss ≤ d_of r
    unfolding lowest
    lowest_cap [] = le_refl (d_of r)
    lowest_cap (s ∷ ss) = le_trans (min-le_right (leave s) (lowest ss)) (lowest_cap ss)

    least_at : (ss : List Side) → At (d_of r) (least (whole 1) (map (greaterα r b) (movers r ss))) (lowest ss)
    unfolding lowest least movers leave
    least_at [] = record { d_pos = d_pos r; den_pos = omega arith; at = mul_comm 1 (d_of r) }
    least_at (s ∷ ss) = elim (tested (moving (leg r s))) [
      | inl h ↦ rw (h, ← max_rises (λ x. x * rest r s) (times_rises (rest r s)) (run (leg r s) (b s).lo) (run (leg r s) (b s).hi))
          (lesser_at (greater_at (α_at s (b s).lo h) (α_at s (b s).hi h)) (least_at ss))
      | inr h ↦ rw (h, ← still_rest r s h, min-eq_right (lowest_cap ss)) (least_at ss)
    ]

    greatest_is : (ss : List Side) → Is (d_of r) (greatest (whole 0) (map (lesserα r b) (movers r ss))) (highest ss)
    unfolding highest greatest movers enter
    greatest_is [] = none_is (d_pos r)
    greatest_is (s ∷ ss) = elim (tested (moving (leg r s))) [
      | inl h ↦ rw (h, ← min_rises (λ x. x * rest r s) (times_rises (rest r s)) (run (leg r s) (b s).lo) (run (leg r s) (b s).hi))
          (greater_is (lesser_at (α_at s (b s).lo h) (α_at s (b s).hi h)) (greatest_is ss))
      | inr h ↦ rw (h, zero-max (highest ss)) (greatest_is ss)
    ]

    -- αmin is start over D, whatever the ray. αmax, or zero if it is negative, is stop over D, and αmax itself where the ray meets the box.
    pub αmin_is : Is (d_of r) (αmin r b) (start r b)
    unfolding highest enter
    αmin_is = rw (← max-zero (enter Z)) (greatest_is (X ∷ Y ∷ Z ∷ []))

    pub αmax_at : At (d_of r) (αmax r b) (stop r b)
    unfolding lowest leave
    αmax_at = rw (← one_last (d_of r) (leave X) (leave Y) (leave Z)) (least_at (X ∷ Y ∷ Z ∷ []))

    pub αmax_or_zero : Is (d_of r) (or_zero (αmax r b)) (stop r b)
    αmax_or_zero = or_zero_lem αmax_at

    pub αmax_is : start r b < stop r b → Is (d_of r) (αmax r b) (stop r b)
    αmax_is h = above_zero αmax_at (omega (arith, h))

    -- The length in a box is part over D.
    pub length_is : Is (d_of r) (length_in r b) (part r b)
    unfolding part
    length_is = elim (tested (holds r b)) [
      | inl h ↦ rw h (or_zero_lem (minus_at αmax_at αmin_is))
      | inr h ↦ rw h (none_is (d_pos r))
    ]

-- So of every voxel.
pub voxel_length : (v : Volume) (r : Ray) (m : ℕ) → Is (d_of r) (length_in r (voxel v m)) (part_of v r m)
voxel_length v r m = rw (part_voxel v r m) (length_is r (voxel v m))
