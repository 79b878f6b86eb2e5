-- `insert` adds its number to a list and keeps the order, whatever the key. Assumes nothing.
use Prim.Native.Nat.{ℕ}
use mathlib.Core.Path.{◌≡◌, refl, ap}
use mathlib.Core.Bool.{Bool, true, false, cond}
use mathlib.Core.List.Memᴰ
use mathlib.Core.List.{List, [], ◌∷◌, Memᴰ}
use mathlib.Core.Logic.{◌⊎◌, inl, inr, ⊎_elim}
use native.Mathlib.Omega.{arith}
use native.Mathlib.Decide.{dec_lt}
use lib.Dec.{ltb}
use borrow.Author.Tests.{lt-ltb, le-ltb}
use Rattle.ray.specs.Length.{insert}
use Rattle.ray.proofs.Rising.{Rising}

pub either : (b : Bool) (xs ys : List ℕ) (P : List ℕ → Type 0) → P xs → P ys → P (cond b xs ys)
either true xs ys P p q = p
either false xs ys P p q = q

module _ (f : ℕ → ℕ) (m : ℕ) where
  pub insert_new : (ws : List ℕ) → Memᴰ m (insert f m ws)
  unfolding insert
  insert_new [] = Memᴰ.head refl
  insert_new (w ∷ ws) = either (ltb (f m) (f w)) _ _ (Memᴰ m) (Memᴰ.head refl) (Memᴰ.tail (insert_new ws))

  pub insert_old : (ws : List ℕ) (x : ℕ) → Memᴰ x ws → Memᴰ x (insert f m ws)
  unfolding insert
  insert_old [] x h = absurd (Memᴰ.not-nil h)
  insert_old (w ∷ ws) x h =
      either (ltb (f m) (f w)) _ _ (Memᴰ x) (Memᴰ.tail h)
      (⊎_elim (λ e. Memᴰ.head e) (λ k. Memᴰ.tail (insert_old ws x k)) (Memᴰ.cases_cons h))

  pub insert_cases : (ws : List ℕ) (x : ℕ) → Memᴰ x (insert f m ws) → (x ≡ m) ⊎ Memᴰ x ws
  unfolding insert
  insert_cases [] x h = Memᴰ.cases_cons h
  insert_cases (w ∷ ws) x h =
      either (ltb (f m) (f w)) _ _ (λ (l : List ℕ). Memᴰ x l → (x ≡ m) ⊎ Memᴰ x (w ∷ ws)) (λ k. Memᴰ.cases_cons k)
      (λ k. ⊎_elim (λ e. inr (Memᴰ.head e)) (λ k'. ⊎_elim (λ e. inl e) (λ k''. inr (Memᴰ.tail k'')) (insert_cases ws x k')) (Memᴰ.cases_cons k)) h

  pub insert_rising : (ws : List ℕ) → ((w : ℕ) → Memᴰ w ws → f m ≡ f w → ⊥) → Rising f ws → Rising f (insert f m ws)
  unfolding insert
  insert_rising [] other r = ((λ y h. absurd (Memᴰ.not-nil h)), tt)
  insert_rising (w ∷ ws) other r = elim (dec_lt (f m) (f w)) [
    | yes h ↦ rw (lt-ltb (f m) (f w) h) ((λ y k. ⊎_elim (λ e. omega (arith, ap f e)) (λ k'. omega (arith, r.0 y k')) (Memᴰ.cases_cons k)), r)
    | no h ↦ rw (le-ltb (f m) (f w) (omega arith)) (
      (λ y k. ⊎_elim (λ e. let n = other w (Memᴰ.head refl) in omega (arith, ap f e)) (λ k'. r.0 y k') (insert_cases ws y k)),
      insert_rising ws (λ y k. other y (Memᴰ.tail k)) r.1,
    )
  ]
