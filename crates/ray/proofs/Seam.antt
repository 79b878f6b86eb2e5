-- Two lists joined, the two numbers at the seam becoming one where they are the same; and that the joined list rises. Assumes nothing.
use Prim.Native.Nat.{ℕ, suc, ◌≤◌, ◌<◌}
use mathlib.Core.Path.{◌≡◌, refl, sym, ap, ◌∙◌}
use mathlib.Core.Bool.{cond}
use mathlib.Core.List.Memᴰ
use mathlib.Core.List.{List, [], ◌∷◌, Memᴰ}
use mathlib.Core.Logic.{◌⊎◌, inl, inr, ⊎_elim}
use native.Mathlib.Omega.{arith}
use native.Mathlib.Decide.{ℕ_discrete}
use lib.Dec.{eqb}
use lib.ListN.{length}
use borrow.Author.Tests.{eq-eqb, ne_eqb}
use Rattle.ray.proofs.Tests.{tested}
use Rattle.ray.proofs.Rising.{Rising}

-- what comes after x, x itself left out at the head
unfoldable pub past : ℕ → List ℕ → List ℕ
past x [] = []
past x (y ∷ ys) = cond (eqb x y) ys (y ∷ ys)

unfoldable pub joined : List ℕ → List ℕ → List ℕ
joined [] ys = ys
joined (x ∷ []) ys = x ∷ past x ys
joined (x ∷ z ∷ xs) ys = x ∷ joined (z ∷ xs) ys

past_old : (x w : ℕ) (ys : List ℕ) → Memᴰ w (past x ys) → Memᴰ w ys
unfolding past
past_old x w [] h = h
past_old x w (y ∷ ys) h = elim (tested (eqb x y)) [ inl e ↦ Memᴰ.tail (rw e at h) | inr e ↦ rw e at h ]

past_all : (x w : ℕ) (ys : List ℕ) → Memᴰ w ys → Memᴰ w (x ∷ past x ys)
unfolding past
past_all x w [] h = absurd (Memᴰ.not-nil h)
past_all x w (y ∷ ys) h = elim (ℕ_discrete x y) [
  | yes e ↦ rw (eq-eqb x y e) (⊎_elim (λ k. Memᴰ.head (k ∙ sym e)) (λ k. Memᴰ.tail k) (Memᴰ.cases_cons h))
  | no e ↦ rw (ne_eqb x y e) (Memᴰ.tail h)
]

module _ (ys : List ℕ) (w : ℕ) where
  -- a member of the joined list is one of either list, and the other way round
  pub joined_cases : (xs : List ℕ) → Memᴰ w (joined xs ys) → Memᴰ w xs ⊎ Memᴰ w ys
  unfolding joined
  joined_cases [] h = inr h
  joined_cases (x ∷ []) h = ⊎_elim (λ e. inl (Memᴰ.head e)) (λ k. inr (past_old x w ys k)) (Memᴰ.cases_cons h)
  joined_cases (x ∷ z ∷ xs) h =
      ⊎_elim (λ e. inl (Memᴰ.head e)) (λ k. ⊎_elim (λ l. inl (Memᴰ.tail l)) (λ l. inr l) (joined_cases (z ∷ xs) k)) (Memᴰ.cases_cons h)

  pub joined_all : (xs : List ℕ) → Memᴰ w xs ⊎ Memᴰ w ys → Memᴰ w (joined xs ys)
  unfolding joined
  joined_all [] (inl h) = absurd (Memᴰ.not-nil h)
  joined_all [] (inr h) = h
  joined_all (x ∷ []) (inl h) = Memᴰ.head (Memᴰ.eq_of_singleton h)
  joined_all (x ∷ []) (inr h) = past_all x w ys h
  joined_all (x ∷ z ∷ xs) (inl h) = ⊎_elim (λ e. Memᴰ.head e) (λ k. Memᴰ.tail (joined_all (z ∷ xs) (inl k))) (Memᴰ.cases_cons h)
  joined_all (x ∷ z ∷ xs) (inr h) = Memᴰ.tail (joined_all (z ∷ xs) (inr h))

past_long : (x : ℕ) (ys : List ℕ) → length ys ≤ suc (length (past x ys))
unfolding past
past_long x [] = omega arith
past_long x (y ∷ ys) = elim (tested (eqb x y)) [ inl e ↦ rw e (omega arith) | inr e ↦ rw e (omega arith) ]

-- neither list is longer than the joined one
pub joined_long : (xs ys : List ℕ) → (length xs ≤ length (joined xs ys)) × (length ys ≤ length (joined xs ys))
unfolding joined
joined_long [] ys = (omega arith, omega arith)
joined_long (x ∷ []) ys = (omega arith, past_long x ys)
joined_long (x ∷ z ∷ xs) ys = let l = joined_long (z ∷ xs) ys in (omega (arith, l.0), omega (arith, l.1))

module _ (f : ℕ → ℕ) where
  -- Each number of the first list lies below each other number of the second.
  abbrev pub Below : List ℕ → List ℕ → Type 0
  Below xs ys = (x y : ℕ) → Memᴰ x xs → Memᴰ y ys → (x ≡ y → ⊥) → f x < f y

  past_rising : (x : ℕ) (ys : List ℕ) → Rising f ys → Below (x ∷ []) ys → Rising f (x ∷ past x ys)
  unfolding past
  past_rising x [] r b = ((λ y m. absurd (Memᴰ.not-nil m)), tt)
  past_rising x (y ∷ ys) r b = elim (ℕ_discrete x y) [
    | yes e ↦ rw (eq-eqb x y e) ((λ w m. omega (arith, r.0 w m, ap f e)), r.1)
    | no e ↦ rw (ne_eqb x y e) (
      (λ w m. let l : f x < f y = b x y (Memᴰ.head refl) (Memᴰ.head refl) e in
          ⊎_elim (λ k. omega (arith, ap f k)) (λ k. omega (arith, r.0 w k)) (Memᴰ.cases_cons m)),
      r,
    )
  ]

  pub joined_rising : (xs ys : List ℕ) → Rising f xs → Rising f ys → Below xs ys → Rising f (joined xs ys)
  unfolding joined
  joined_rising [] ys r s b = s
  joined_rising (x ∷ []) ys r s b = past_rising x ys s b
  joined_rising (x ∷ z ∷ xs) ys r s b = (
    (λ w m. ⊎_elim (λ k. r.0 w k) (λ k. first w k) (joined_cases ys w (z ∷ xs) m)),
    joined_rising (z ∷ xs) ys r.1 s (λ a c m n. b a c (Memᴰ.tail m) n),
  )
    where
      first : (w : ℕ) → Memᴰ w ys → f x < f w
      first w k =
          let l : f x < f z = r.0 z (Memᴰ.head refl) in
          elim (ℕ_discrete z w) [ yes e ↦ omega (arith, ap f e) | no e ↦ omega (arith, b z w (Memᴰ.tail (Memᴰ.head refl)) k e) ]
