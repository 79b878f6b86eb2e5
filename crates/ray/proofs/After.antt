-- The numbers above t that pass a test, counted up to n: one less from the next of them on. Assumes nothing.
use Prim.Native.Nat.{ℕ, ◌+◌, ◌≤◌, ◌<◌}
use mathlib.Core.Path.{◌≡◌, refl, ◌∙◌}
use mathlib.Core.Bool.{Bool, true, false, ◌&&◌, cond}
use native.Mathlib.Omega.{arith}
use native.Mathlib.Decide.{dec_lt}
use lib.Dec.{ltb}
use borrow.Author.Tests.{lt-ltb, le-ltb}
use Rattle.ray.specs.Length.{total}
use Rattle.ray.proofs.Total.{total_same, total_zero, total_but}

module _ (test : ℕ → Bool) (n : ℕ) where
  abbrev passing : ℕ → ℕ → ℕ
  passing t x = cond (ltb t x && test x) 1 0

  abbrev pub after : ℕ → ℕ
  after t = total (passing t) n

  fails : (t x : ℕ) → test x ≡ false → passing t x ≡ 0
  fails t x e = elim (dec_lt t x) [ yes h ↦ rw (lt-ltb t x h, e) refl | no h ↦ rw (le-ltb t x (omega arith)) refl ]

  module _ (t : ℕ) where
    pub none_after : ((x : ℕ) → t < x → test x ≡ false) → after t ≡ 0
    none_after h = total_zero (passing t) n (λ x k. elim (dec_lt t x) [ yes l ↦ fails t x (h x l) | no l ↦ rw (le-ltb t x (omega arith)) refl ])

    pub all_after : ((x : ℕ) → x ≤ t → test x ≡ false) → after t ≡ total (λ x. cond (test x) 1 0) n
    all_after h = total_same (passing t) (λ x. cond (test x) 1 0) n
        (λ x k. elim (dec_lt t x) [ yes l ↦ rw (lt-ltb t x l) refl | no l ↦ fails t x (h x (omega arith)) ∙ rw (h x (omega arith)) refl ])

    pub one_after : (u : ℕ) → t < u → u < n → test u ≡ true → ((x : ℕ) → t < x → x < u → test x ≡ false) → after t ≡ 1 + after u
    one_after u tu un yes-u none =
        let here : passing t u ≡ 1 = rw (lt-ltb t u tu, yes-u) refl in
        let gone : passing u u ≡ 0 = rw (le-ltb u u (omega arith)) refl in
        omega (arith, total_but (passing t) (passing u) u n un same)
      where
        same : (x : ℕ) → (x ≡ u → ⊥) → passing t x ≡ passing u x
        same x e = elim (dec_lt u x) [
          | yes h ↦ rw (lt-ltb t x (omega arith), lt-ltb u x h) refl
          | no h ↦ elim (dec_lt t x) [
            | yes k ↦ fails t x (none x k (omega arith)) ∙ rw (le-ltb u x (omega arith)) refl
            | no k ↦ rw (le-ltb t x (omega arith), le-ltb u x (omega arith)) refl
          ]
        ]
