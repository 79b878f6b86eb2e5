-- Pieces of a line written one behind the other. Assumes nothing.
use Prim.Native.Nat.{ℕ, ◌+◌, ◌/◌, ◌%◌, ◌≤◌, ◌<◌}
use mathlib.Core.List.{List, [], ◌∷◌, ◌++◌, append_assoc, append-nil}
use mathlib.Core.Path.{◌≡◌, refl, sym, ap, ◌∙◌}
use lib.ListN.{length, take, get_or, set}
use lib.Seq.{take-suc, take-suc-set}
use native.Mathlib.Nat.{add-zero}
use native.Mathlib.Numerals.{add-one}
use native.Mathlib.Omega.{arith}
use Rattle.text.specs.Decimal.{decimal}
use Rattle.text.proofs.Decimal.{decimal_many}
use Rattle.text.specs.Line.{spaced, line_of}

-- one element behind the first `at`
pub one_put : {A : Type 0} (l : List A) (at : ℕ) (b : A) → at < length l → take (at + 1) (set l at b) ≡ take at l ++ b ∷ []
one_put l at b h = rw (add-one, take-suc-set l at b h) refl

-- a copy: i bytes of src behind the first `at`
pub copy_begins : (l src : List ℕ) (at : ℕ) → take (at + 0) l ≡ take at l ++ take 0 src
copy_begins l src at = rw (add-zero, append-nil) refl

pub copy_on : (out out₀ src : List ℕ) (at i : ℕ) → at + i < length out → i < length src → take (at + i) out ≡ take at out₀ ++ take i src
    → take (at + (i + 1)) (set out (at + i) (get_or src i 0)) ≡ take at out₀ ++ take (i + 1) src
copy_on out out₀ src at i h g e =
    let n : at + (i + 1) ≡ at + i + 1 = omega arith in
    rw n (one_put out (at + i) (get_or src i 0) h ∙ rw (e, add-one, take-suc src i 0 g) (simp append_assoc))

-- the tens, and the last digit
pub decimal_more : (p : List ℕ) (n : ℕ) → 10 ≤ n → (p ++ decimal (n / 10)) ++ (48 + n % 10) ∷ [] ≡ p ++ decimal n
decimal_more p n h = rw (decimal_many n h) (append_assoc p (decimal (n / 10)) ((48 + n % 10) ∷ []))

pub spaced_none : (p : List ℕ) → p ++ spaced [] ≡ p
unfolding spaced
spaced_none p = append-nil p

spaced_append : (xs ys : List ℕ) → spaced (xs ++ ys) ≡ spaced xs ++ spaced ys
unfolding spaced
spaced_append [] ys = refl
spaced_append (x ∷ xs) ys = ap (λ (l : List ℕ). 32 ∷ (decimal x ++ l)) (spaced_append xs ys) ∙ ap (λ (l : List ℕ). 32 ∷ l) (sym (append_assoc (decimal x) (spaced xs) (spaced ys)))

-- one number more
pub spaced_more : (p xs : List ℕ) (i : ℕ) → i < length xs → (p ++ spaced (take i xs)) ++ (32 ∷ decimal (get_or xs i 0)) ≡ p ++ spaced (take (i + 1) xs)
unfolding spaced
spaced_more p xs i h = append_assoc p (spaced (take i xs)) (32 ∷ decimal (get_or xs i 0)) ∙ ap (λ (l : List ℕ). p ++ l) (sym more)
  where
    more : spaced (take (i + 1) xs) ≡ spaced (take i xs) ++ (32 ∷ decimal (get_or xs i 0))
    more = rw (add-one, take-suc xs i 0 h) (spaced_append (take i xs) (get_or xs i 0 ∷ []) ∙ ap (λ (l : List ℕ). spaced (take i xs) ++ (32 ∷ l)) (append-nil (decimal (get_or xs i 0))))

pub line_made : {o₁ o₂ o₃ : List ℕ} (p word numbers : List ℕ) → o₁ ≡ p ++ word → o₂ ≡ o₁ ++ spaced numbers → o₃ ≡ o₂ ++ 10 ∷ [] → o₃ ≡ p ++ line_of word numbers
unfolding line_of
line_made p word numbers e₁ e₂ e₃ = e₃ ∙ rw (e₂, e₁) (simp append_assoc)
