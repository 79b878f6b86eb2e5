-- Each plane that is crossed has one α: there are not more different α than planes crossed. Assumes nothing.
use Prim.Native.Nat.{ℕ, zero, suc, ◌+◌, ◌≤◌}
use mathlib.Core.Path.{◌≡◌, refl, sym, ap, ◌∙◌}
use mathlib.Core.Bool.{Bool, true, false, ◌&&◌, ◌||◌, cond}
use native.Mathlib.Omega.{arith}
use native.Mathlib.Decide.{ℕ_discrete}
use lib.Dec.{eqb}
use borrow.Author.Tests.{eq-eqb, ne_eqb}
use Rattle.ray.specs.declared.Ray.{Ray}
use Rattle.ray.specs.declared.axes.Side.{Side}
use Rattle.ray.specs.declared.axes.Side.TheVariants.{X, Y, Z}
use Rattle.ray.specs.Length.{d_of, Volume, misses, total, crosses, crossed_of}
use Rattle.ray.proofs.Total.{total_le, total_add, total_zero}
use Rattle.ray.proofs.Different.{alpha_of, some, crosses_at, crossed_at, different_of}

-- a sum over pairs, either way round
total_swap : (f : ℕ → ℕ → ℕ) (m n : ℕ) → total (λ x. total (f x) n) m ≡ total (λ i. total (λ x. f x i) m) n
unfolding total
total_swap f zero n = sym (total_zero (λ i. 0) n (λ i h. refl))
total_swap f (suc m) n = ap (λ (t : ℕ). t + total (f m) n) (total_swap f m n) ∙ sym (total_add (λ i. total (λ x. f x i) m) (f m) n)

or_few : (a b : Bool) → cond (a || b) 1 0 ≤ cond a 1 0 + cond b 1 0
or_few true b = omega arith
or_few false b = omega arith

some_few : (test : ℕ → Bool) (n : ℕ) → cond (some test n) 1 0 ≤ total (λ i. cond (test i) 1 0) n
unfolding some total
some_few test zero = omega arith
some_few test (suc n) = omega (arith, some_few test n, or_few (some test n) (test n))

-- a number is equal to one number at most
total_once : (b : Bool) (k n : ℕ) → total (λ x. cond (b && eqb k x) 1 0) n ≤ cond b 1 0
unfolding total
total_once b k zero = omega arith
total_once false k (suc n) = omega (arith, total_once false k n)
total_once true k (suc n) = elim (ℕ_discrete k n) [
  | yes e ↦ rw (eq-eqb k n e) (omega (arith, total_zero (λ x. cond (eqb k x) 1 0) n (λ x h. rw (ne_eqb k x (λ d. omega arith)) refl)))
  | no e ↦ rw (ne_eqb k n e) (omega (arith, total_once true k n))
]

module _ (v : Volume) (r : Ray) where
  -- the planes of one side crossed, in all and at one x
  abbrev on : Side → ℕ
  on s = total (λ i. cond (crosses v r s i) 1 0) ((v s).n + 1)

  abbrev on_at : Side → ℕ → ℕ
  on_at s x = total (λ i. cond (crosses_at v r x s i) 1 0) ((v s).n + 1)

  side_few : (s : Side) → total (on_at s) (d_of r) ≤ on s
  side_few s = rw (total_swap (λ x i. cond (crosses_at v r x s i) 1 0) (d_of r) ((v s).n + 1))
      (total_le _ _ ((v s).n + 1) (λ i h. total_once (crosses v r s i) (alpha_of v r s i) (d_of r)))

  at_few : (x : ℕ) → cond (crossed_at v r x) 1 0 ≤ on_at X x + (on_at Y x + on_at Z x)
  unfolding crossed_at
  at_few x =
      let any : Side → Bool = λ s. some (crosses_at v r x s) ((v s).n + 1) in
      let few : (s : Side) → cond (any s) 1 0 ≤ on_at s x = λ s. some_few (crosses_at v r x s) ((v s).n + 1) in
      omega (arith, few X, few Y, few Z, or_few (any X) (any Y || any Z), or_few (any Y) (any Z))

  pub different_few : misses v r ≡ false → different_of v r ≤ crossed_of v r
  unfolding different_of crossed_of
  different_few hit =
      rw hit
      (omega (
        arith,
        total_le (λ x. cond (crossed_at v r x) 1 0) (λ x. on_at X x + (on_at Y x + on_at Z x)) (d_of r) (λ x h. at_few x),
        total_add (on_at X) (λ x. on_at Y x + on_at Z x) (d_of r),
        total_add (on_at Y) (on_at Z) (d_of r),
        side_few X,
        side_few Y,
        side_few Z,
      ))
