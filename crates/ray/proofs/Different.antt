-- RULES 4: on a hit the entries are counted by the different α of the planes crossed. How many there are, over the ticks below D: a tick
-- is an α times D. Assumes nothing.
use Prim.Native.Nat.{ℕ, zero, suc, ◌+◌, ◌*◌, ◌≤◌, ◌<◌}
use mathlib.Core.Path.{◌≡◌, refl, ap, ◌∙◌}
use mathlib.Core.Bool.{Bool, true, false, ◌&&◌, ◌||◌, cond, or-true}
use mathlib.Core.Logic.{inl, inr}
use native.Mathlib.Omega.{arith}
use native.Mathlib.Decide.{dec_lt}
use lib.IntN.{pos}
use lib.Dec.{eqb}
use borrow.Author.Tests.{eq-eqb, ne_eqb}
use Rattle.axis.specs.Leg.{moving, run}
use Rattle.axis.proofs.Flag.{and_left, and_right}
use Rattle.ray.specs.declared.Ray.{Ray}
use Rattle.ray.specs.declared.axes.Side.{Side}
use Rattle.ray.specs.declared.axes.Side.TheVariants.{X, Y, Z}
use Rattle.ray.specs.Length.{leg, d_of, rest, Volume, volume, array, start, stop, total, crosses}
use Rattle.ray.proofs.Tests.{tested, any_by, between_means, means_between}
use Rattle.ray.proofs.Bench.{grid, ray}

-- α of a plane, times D
abbrev pub alpha_of : Volume → Ray → Side → ℕ → ℕ
alpha_of v r s i = run (leg r s) ((v s).at i) * rest r s

-- one of the numbers below n passes
unfoldable pub some : (ℕ → Bool) → ℕ → Bool
some test zero = false
some test (suc n) = some test n || test n

-- a plane that is crossed has its α, times D, at x
abbrev pub crosses_at : Volume → Ray → ℕ → Side → ℕ → Bool
crosses_at v r x s i = crosses v r s i && eqb (alpha_of v r s i) x

unfoldable pub crossed_at : Volume → Ray → ℕ → Bool
crossed_at v r x = let on : Side → Bool = λ s. some (crosses_at v r x s) ((v s).n + 1) in on X || (on Y || on Z)

-- RULES 4, entries: how many different α
unfoldable pub different_of : Volume → Ray → ℕ
different_of v r = total (λ x. cond (crossed_at v r x) 1 0) (d_of r)

-- three planes of ray C at three α, two of ray D at one
pub bench_alphas : (different_of (volume grid) (ray (pos 0) (pos 0) (pos 5) (pos 30) (pos 20) (pos 5)) ≡ 3)
    × (different_of (volume grid) (ray (pos 0) (pos 0) (pos 5) (pos 20) (pos 20) (pos 5)) ≡ 1)
unfolding total crosses some crossed_at different_of
bench_alphas = (refl, refl)

-- ---- what the tests decide
module _ (test : ℕ → Bool) where
  some_yes : (n i : ℕ) → i < n → test i ≡ true → some test n ≡ true
  unfolding some
  some_yes zero i h e = absurd (omega arith)
  some_yes (suc n) i h e = elim (dec_lt i n) [
    | yes k ↦ rw (some_yes n i k e) refl
    | no k ↦ let same : n ≡ i = omega arith in rw (ap test same ∙ e) (or-true (some test n))
  ]

  some_no : (n : ℕ) → ((i : ℕ) → i < n → test i ≡ false) → some test n ≡ false
  unfolding some
  some_no zero h = refl
  some_no (suc n) h = rw (some_no n (λ i k. h i (omega arith)), h n (omega arith)) refl

-- RULES 4, planes crossed: above αmin and below αmax
module _ (v : Volume) (r : Ray) (s : Side) (i : ℕ) where
  pub crosses_means : crosses v r s i ≡ true → (moving (leg r s) ≡ true) × (start r (array v) < alpha_of v r s i) × (alpha_of v r s i < stop r (array v))
  unfolding crosses
  crosses_means h =
      let b = between_means (start r (array v)) (alpha_of v r s i) (stop r (array v)) (and_right (moving (leg r s)) _ h) in
      (and_left (moving (leg r s)) _ h, b.0, b.1)

  pub means_crosses : moving (leg r s) ≡ true → start r (array v) < alpha_of v r s i → alpha_of v r s i < stop r (array v) → crosses v r s i ≡ true
  unfolding crosses
  means_crosses m a b = rw m (means_between (start r (array v)) (alpha_of v r s i) (stop r (array v)) (a, b))

module _ (v : Volume) (r : Ray) (x : ℕ) where
  pub crossed_yes : (s : Side) (i : ℕ) → i < (v s).n + 1 → crosses v r s i ≡ true → alpha_of v r s i ≡ x → crossed_at v r x ≡ true
  unfolding crossed_at
  crossed_yes s i h c e = any_by (λ o. some (crosses_at v r x o) ((v o).n + 1)) s (some_yes (crosses_at v r x s) ((v s).n + 1) i h (rw (c, eq-eqb (alpha_of v r s i) x e) refl))

  pub crossed_no : ((s : Side) (i : ℕ) → i < (v s).n + 1 → crosses v r s i ≡ true → alpha_of v r s i ≡ x → ⊥) → crossed_at v r x ≡ false
  unfolding crossed_at
  crossed_no none = rw (on X, on Y, on Z) refl
    where
      on : (s : Side) → some (crosses_at v r x s) ((v s).n + 1) ≡ false
      on s = some_no (crosses_at v r x s) ((v s).n + 1)
          (λ i h. elim (tested (crosses v r s i)) [ inl c ↦ rw (c, ne_eqb (alpha_of v r s i) x (none s i h c)) | inr c ↦ rw c ])

  pub crossed_since : x ≤ start r (array v) → crossed_at v r x ≡ false
  crossed_since h = crossed_no (λ s i k c e. omega (arith, (crosses_means v r s i c).1))

  pub crossed_until : stop r (array v) ≤ x → crossed_at v r x ≡ false
  crossed_until h = crossed_no (λ s i k c e. omega (arith, (crosses_means v r s i c).2))
