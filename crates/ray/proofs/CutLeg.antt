-- One leg of a ray, cut at a whole coordinate. Assumes nothing.
use Prim.Native.Nat.{ℕ, ◌+◌, ◌-◌, ◌*◌, ◌≤◌, ◌<◌, min}
use mathlib.Core.Path.{◌≡◌, refl, sym, ap, ◌∙◌}
use mathlib.Core.Bool.{true}
use mathlib.Core.Logic.{◌⊎◌, inl, inr}
use native.Mathlib.Nat.{mul-zero, mul-pos, mul-lt-mul_of_pos_right, lt_of_mul-lt-mul_left, eq_of_mul-eq-mul_left}
use native.Mathlib.Omega.{arith}
use lib.IntN.{ℤ, pos, ◌-ℤ◌, ◌*ℤ◌}
use lib.Signed.{le_z}
use Rattle.axis.specs.Leg.{Leg, moving, factor, run, Slab, held}
use Rattle.axis.proofs.Flag.{off_or_on}
use Rattle.axis.proofs.Shift.{shift, Low, above_shift}
use Rattle.ray.proofs.Told.{neg_diff, shift_le, share_above, share_below}
use Rattle.ray.proofs.Way.{Way, up, down, still, Goes, Going, moving_by, factor_by_lem, run_by_lem, passed, told, still_same, held_same}

-- the leg as far as m, and from m on
abbrev pub before : Leg → ℤ → Leg
before l m = record { p = l.p; q = m }

abbrev pub after : Leg → ℤ → Leg
after l m = record { p = m; q = l.q }

-- n/d of a length that is not 0 is less, and not 0
inner : (n d x y : ℕ) → 0 < n → n < d → 0 < y → d * x ≡ n * y → (0 < x) × (x < y)
inner n d x y hn hd hy e = (
  lt_of_mul-lt-mul_left d (omega (arith, mul-zero d, mul-pos {m = n} {n = y} hn hy)),
  lt_of_mul-lt-mul_left d (omega (arith, mul-lt-mul_of_pos_right {m = n} {n = d} {k = y} hd hy)),
)

outer : (n d x : ℕ) → n < d → d * x ≡ n * 0 → x ≡ 0
outer n d x h e = eq_of_mul-eq-mul_left d (omega arith) x 0 (e ∙ mul-zero n ∙ sym (mul-zero d))

cap_cap : (a f u : ℕ) → a ≤ f → min a u ≡ min a (min f u)
cap_cap a f u h = omega arith

cap_rest : (a b f u : ℕ) → a + b ≡ f → min b (u - a) ≡ min f u - a
cap_rest a b f u e = omega arith

-- m is at n/d of the leg, strictly between its ends where it moves
pub record CutAt (n d : ℕ) (l : Leg) (m : ℤ) : Type 0 where
  pub some : 0 < n
  pub less : n < d
  pub at : pos d *ℤ (m -ℤ l.p) ≡ pos n *ℤ (l.q -ℤ l.p)

-- t is a piece of l: where l has passed x of its length, t has passed `of x` of its own
pub record LegPiece (of : ℕ → ℕ) (l t : Leg) : Type 0 where
  pub moves : moving t ≡ moving l
  pub holds : (s : Slab) → held t s ≡ held l s
  pub length : moving l ≡ true → factor t ≡ of (factor l)
  pub passes : moving l ≡ true → (c : ℤ) → passed t c ≡ of (passed l c)

-- the leg l in two pieces, n/d of it being the first
pub record LegPieces (n d : ℕ) (l t u : Leg) : Type 0 where
  pub near : LegPiece (min (factor t)) l t
  pub far : LegPiece (λ x. x - factor t) l u
  pub share : moving l ≡ true → d * factor t ≡ n * factor l

module _ {n d : ℕ} {l : Leg} {m : ℤ} (cut : CutAt n d l m) where
  module _ {k : ℕ} (hm : Low k m) where
    module _ {w : Way} (t : Going k w l) where
      above : d * (shift k m - shift k l.p) ≡ n * (shift k l.q - shift k l.p)
      above = rw (← above_shift k m l.p hm t.low_p, ← above_shift k l.q l.p t.low_q t.low_p) (share_above n d (m -ℤ l.p) (l.q -ℤ l.p) cut.at)

      below : d * (shift k l.p - shift k m) ≡ n * (shift k l.p - shift k l.q)
      below =
          rw (← above_shift k l.p m t.low_p hm, ← above_shift k l.p l.q t.low_p t.low_q, ← neg_diff m l.p, ← neg_diff l.q l.p)
          (share_below n d (m -ℤ l.p) (l.q -ℤ l.p) cut.at)

    goes : (w : Way) → Going k w l → Goes w (shift k l.p) (shift k m) × Goes w (shift k m) (shift k l.q)
    goes up t = let i = inner n d (shift k m - shift k l.p) (shift k l.q - shift k l.p) cut.some cut.less (omega arith) (above t) in (omega arith, omega arith)
    goes down t = let i = inner n d (shift k l.p - shift k m) (shift k l.p - shift k l.q) cut.some cut.less (omega arith) (below t) in (omega arith, omega arith)
    goes still t =
        let a : shift k m - shift k l.p ≡ 0 = outer n d (shift k m - shift k l.p) cut.less (above t ∙ ap (λ (x : ℕ). n * x) (omega arith)) in
        let b : shift k l.p - shift k m ≡ 0 = outer n d (shift k l.p - shift k m) cut.less (below t ∙ ap (λ (x : ℕ). n * x) (omega arith)) in
        (omega arith, omega arith)

    first : (w : Way) → Going k w l → Going k w (before l m)
    first w t = record { low_p = t.low_p; low_q = hm; goes = (goes w t).0 }

    last : (w : Way) → Going k w l → Going k w (after l m)
    last w t = record { low_p = hm; low_q = t.low_q; goes = (goes w t).1 }

    -- what the pieces of a leg that moves have of its length
    lengths : moving l ≡ true → (w : Way) → Going k w l
        → (factor (before l m) + factor (after l m) ≡ factor l) × (d * factor (before l m) ≡ n * factor l) × ((c : ℤ) → Low k c → run (after l m) c ≡ run l c - factor (before l m))
    lengths moved up t =
        let f = first up t in
        let g = last up t in
        (omega (arith, factor_by_lem up f, factor_by_lem up g, factor_by_lem up t), rw (factor_by_lem up f, factor_by_lem up t) (above t), λ c hc. omega (arith, factor_by_lem up f, run_by_lem c hc up g, run_by_lem c hc up t))
    lengths moved down t =
        let f = first down t in
        let g = last down t in
        (omega (arith, factor_by_lem down f, factor_by_lem down g, factor_by_lem down t), rw (factor_by_lem down f, factor_by_lem down t) (below t), λ c hc. omega (arith, factor_by_lem down f, run_by_lem c hc down g, run_by_lem c hc down t))
    lengths moved still t = off_or_on (moving l) moved (moving_by still t)

  -- m lies between the ends, whichever is the lower
  pub ordered : ((le_z l.p m ≡ true) × (le_z m l.q ≡ true)) ⊎ ((le_z l.q m ≡ true) × (le_z m l.p ≡ true))
  ordered = told l m m (λ k hm hm' w. elim w as (λ v. Going k v l → ((le_z l.p m ≡ true) × (le_z m l.q ≡ true)) ⊎ ((le_z l.q m ≡ true) × (le_z m l.p ≡ true))) [
    | up ↦ λ t. let i = goes hm up t in inl (shift_le k l.p m t.low_p hm (omega arith), shift_le k m l.q hm t.low_q (omega arith))
    | down ↦ λ t. let i = goes hm down t in inr (shift_le k l.q m t.low_q hm (omega arith), shift_le k m l.p hm t.low_p (omega arith))
    | still ↦ λ t. let i = goes hm still t in inl (shift_le k l.p m t.low_p hm (omega arith), shift_le k m l.q hm t.low_q (omega arith))
  ])

  moving_before : moving (before l m) ≡ moving l
  moving_before = told l m m (λ k hm hm' w t. moving_by w (first hm w t) ∙ sym (moving_by w t))

  moving_after : moving (after l m) ≡ moving l
  moving_after = told l m m (λ k hm hm' w t. moving_by w (last hm w t) ∙ sym (moving_by w t))

  module _ (moved : moving l ≡ true) where
    factors : factor (before l m) + factor (after l m) ≡ factor l
    factors = told l m m (λ k hm hm' w t. (lengths hm moved w t).0)

    module _ (c : ℤ) where
      run_before : run (before l m) c ≡ run l c
      run_before = told l c m (λ k hc hm w t. run_by_lem c hc w (first hm w t) ∙ sym (run_by_lem c hc w t))

      run_after : run (after l m) c ≡ run l c - factor (before l m)
      run_after = told l c m (λ k hc hm w t. (lengths hm moved w t).2 c hc)

  pub pieces : LegPieces n d l (before l m) (after l m)
  pieces = record {
    near = record {
      moves = moving_before;
      holds = held_same l (before l m) moving_before (λ h. refl);
      length = λ h. omega (arith, factors h);
      passes = λ h c. rw (run_before h c) (cap_cap (factor (before l m)) (factor l) (run l c) (omega (arith, factors h)));
    };
    far = record {
      moves = moving_after;
      holds = held_same l (after l m) moving_after (λ h. sym (still_same (before l m) (moving_before ∙ h)));
      length = λ h. omega (arith, factors h);
      passes = λ h c. rw (run_after h c) (cap_rest (factor (before l m)) (factor (after l m)) (factor l) (run l c) (factors h));
    };
    share = λ h. told l m m (λ k hm hm' w t. (lengths hm h w t).1);
  }
