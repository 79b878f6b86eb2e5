-- Lists that rise strictly by a key: one such list for given members, and what appending and turning round do to it. Assumes nothing.
use Prim.Native.Nat.{ℕ, ◌<◌}
use mathlib.Core.Path.{◌≡◌, refl, sym, ap}
use mathlib.Core.List.{List, [], ◌∷◌, ◌++◌, reverse, reverse-cons, reverse-reverse, Memᴰ}
use mathlib.Core.Logic.{⊎_elim}
use native.Mathlib.Omega.{arith}

abbrev pub Rising : (ℕ → ℕ) → List ℕ → Type 0
Rising f [] = Unit
Rising f (x ∷ xs) = ((y : ℕ) → Memᴰ y xs → f x < f y) × Rising f xs

module _ (f : ℕ → ℕ) where
  heads : (x y : ℕ) (xs ys : List ℕ) → Rising f (x ∷ xs) → Rising f (y ∷ ys) → Memᴰ x (y ∷ ys) → Memᴰ y (x ∷ xs) → x ≡ y
  heads x y xs ys r s m n =
      ⊎_elim (λ e. e) (λ m'. ⊎_elim (λ e. sym e) (λ n'. absurd (omega (arith, s.0 x m', r.0 y n'))) (mathlib.Core.List.Memᴰ.cases_cons n)) (mathlib.Core.List.Memᴰ.cases_cons m)

  tail_mem : (x y v : ℕ) (xs ys : List ℕ) → x ≡ y → Rising f (x ∷ xs) → Memᴰ v xs → Memᴰ v (y ∷ ys) → Memᴰ v ys
  tail_mem x y v xs ys e r m n = ⊎_elim (λ k. absurd (omega (arith, r.0 v m, ap f e, ap f k))) (λ n'. n') (mathlib.Core.List.Memᴰ.cases_cons n)

  pub same_rising : (xs ys : List ℕ) → Rising f xs → Rising f ys → ((v : ℕ) → Memᴰ v xs → Memᴰ v ys) → ((v : ℕ) → Memᴰ v ys → Memᴰ v xs) → xs ≡ ys
  same_rising [] [] r s a b = refl
  same_rising [] (y ∷ ys) r s a b = absurd (mathlib.Core.List.Memᴰ.not-nil (b y (mathlib.Core.List.Memᴰ.head refl)))
  same_rising (x ∷ xs) [] r s a b = absurd (mathlib.Core.List.Memᴰ.not-nil (a x (mathlib.Core.List.Memᴰ.head refl)))
  same_rising (x ∷ xs) (y ∷ ys) r s a b =
      let e : x ≡ y = heads x y xs ys r s (a x (mathlib.Core.List.Memᴰ.head refl)) (b y (mathlib.Core.List.Memᴰ.head refl)) in
      let t : xs ≡ ys = same_rising xs ys r.1 s.1
      (λ v m. tail_mem x y v xs ys e r m (a v (mathlib.Core.List.Memᴰ.tail m)))
      (λ v m. tail_mem y x v ys xs (sym e) s m (b v (mathlib.Core.List.Memᴰ.tail m))) in
      cc

  pub rising_append : (xs ys : List ℕ) → Rising f xs → Rising f ys → ((x y : ℕ) → Memᴰ x xs → Memᴰ y ys → f x < f y) → Rising f (xs ++ ys)
  rising_append [] ys r s below = s
  rising_append (x ∷ xs) ys r s below = (
    (λ y m. ⊎_elim (λ m'. r.0 y m') (λ m'. below x y (mathlib.Core.List.Memᴰ.head refl) m') (mathlib.Core.List.Memᴰ.append_cases xs m)),
    rising_append xs ys r.1 s (λ a b m n. below a b (mathlib.Core.List.Memᴰ.tail m) n),
  )

  pub rising_snoc : (xs : List ℕ) (v : ℕ) → Rising f xs → ((x : ℕ) → Memᴰ x xs → f x < f v) → Rising f (xs ++ (v ∷ []))
  rising_snoc xs v r below =
      rising_append xs (v ∷ []) r ((λ y m. absurd (mathlib.Core.List.Memᴰ.not-nil m)), tt) (λ x y m n. omega (arith, below x m, ap f (mathlib.Core.List.Memᴰ.eq_of_singleton n)))

-- by another key that keeps its order
pub rising_as : (f g : ℕ → ℕ) (xs : List ℕ) → ((a b : ℕ) → Memᴰ a xs → Memᴰ b xs → f a < f b → g a < g b) → Rising f xs → Rising g xs
rising_as f g [] h r = tt
rising_as f g (x ∷ xs) h r = (
  (λ y m. h x y (mathlib.Core.List.Memᴰ.head refl) (mathlib.Core.List.Memᴰ.tail m) (r.0 y m)),
  rising_as f g xs (λ a b m n. h a b (mathlib.Core.List.Memᴰ.tail m) (mathlib.Core.List.Memᴰ.tail n)) r.1,
)

-- a list turned round has the same members
pub mem_turned : (xs : List ℕ) (v : ℕ) → Memᴰ v xs → Memᴰ v (reverse xs)
mem_turned [] v m = m
mem_turned (x ∷ xs) v m =
    rw reverse-cons (⊎_elim (λ e. mathlib.Core.List.Memᴰ.append_right (reverse xs) (mathlib.Core.List.Memᴰ.head e)) (λ m'. mathlib.Core.List.Memᴰ.append_left (x ∷ []) (mem_turned xs v m')) (mathlib.Core.List.Memᴰ.cases_cons m))

pub turned_mem : (xs : List ℕ) (v : ℕ) → Memᴰ v (reverse xs) → Memᴰ v xs
turned_mem xs v m = rw (reverse-reverse xs) at (mem_turned (reverse xs) v m)

-- and rises by any key that falls along it
pub rising_reverse : (f g : ℕ → ℕ) (xs : List ℕ) → ((a b : ℕ) → Memᴰ a xs → Memᴰ b xs → f a < f b → g b < g a) → Rising f xs → Rising g (reverse xs)
rising_reverse f g [] falls r = tt
rising_reverse f g (x ∷ xs) falls r =
    rw reverse-cons
    (rising_snoc g (reverse xs) x (rising_reverse f g xs (λ a b m n. falls a b (mathlib.Core.List.Memᴰ.tail m) (mathlib.Core.List.Memᴰ.tail n)) r.1)
    (λ y m. let n : Memᴰ y xs = turned_mem xs y m in falls x y (mathlib.Core.List.Memᴰ.head refl) (mathlib.Core.List.Memᴰ.tail n) (r.0 y n)))
