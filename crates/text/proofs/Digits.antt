-- Digits read from the front: what the loop that reads a numeral does at an index. Assumes nothing.
use Prim.Native.Nat.{ℕ, suc, ◌+◌, ◌*◌, ◌-◌, ◌≤◌, ◌<◌}
use mathlib.Core.List.{List, [], ◌∷◌}
use Rattle.std.specs.Prelude.{None, Some}
use mathlib.Core.Path.{◌≡◌, refl, ◌∙◌}
use lib.ListN.{length, get_or, drop, drop_of_length-le}
use lib.Seq.{drop-cons}
use native.Mathlib.Numerals.{add-one}
use native.Mathlib.Omega.{arith}
use borrow.Author.Tests.{eq-eqb, ne_eqb, le-leb, lt-leb}
use Rattle.text.specs.Number.{digits, natural_of}

pub digits_step : (v d : ℕ) (ds : List ℕ) → 48 ≤ d → d ≤ 57 → v ≤ 99999 → digits v (d ∷ ds) ≡ digits (v * 10 + (d - 48)) ds
unfolding digits
digits_step v d ds e f g = rw (le-leb 48 d e, le-leb d 57 f, le-leb v 99999 g) refl

pub natural_empty : (t : List ℕ) → length t ≡ 0 → None ≡ natural_of t
unfolding natural_of
natural_empty [] h = refl
natural_empty (d ∷ ds) h = absurd (omega arith)

-- a leading 0 is the whole of its numeral
pub natural_zero : (t : List ℕ) → get_or t 0 0 ≡ 48 → length t ≡ 1 → Some 0 ≡ natural_of t
unfolding natural_of
natural_zero [] e h = absurd (omega arith)
natural_zero (d ∷ []) e h = rw (eq-eqb d 48 e) refl
natural_zero (d ∷ x ∷ xs) e h = absurd (omega arith)

pub natural_padded : (t : List ℕ) → get_or t 0 0 ≡ 48 → (length t ≡ 1 → ⊥) → None ≡ natural_of t
unfolding natural_of
natural_padded [] e h = absurd (omega arith)
natural_padded (d ∷ []) e h = absurd (h refl)
natural_padded (d ∷ x ∷ xs) e h = rw (eq-eqb d 48 e) refl

-- of the numeral t the first i digits are read, and are those of v
pub record SoFar (t : List ℕ) (v i : ℕ) : Type 0 where
  pub says : natural_of t ≡ digits v (drop i t)

pub digits_begin : (t : List ℕ) → (length t ≡ 0 → ⊥) → (get_or t 0 0 ≡ 48 → ⊥) → SoFar t 0 0
unfolding natural_of
digits_begin [] h e = absurd (h refl)
digits_begin (d ∷ ds) h e = record { says = rw (ne_eqb d 48 e) refl }

module _ {t : List ℕ} {v i : ℕ} (r : SoFar t v i) where
  pub digits_end : length t ≤ i → Some v ≡ natural_of t
  unfolding digits
  digits_end h = rw (r.says, drop_of_length-le t h) refl

  module _ (h : i < length t) where
    pub digits_low : get_or t i 0 < 48 → None ≡ natural_of t
    unfolding digits
    digits_low e = rw (r.says, drop-cons t i 0, lt-leb 48 (get_or t i 0) e) refl

    pub digits_high : 48 ≤ get_or t i 0 → 57 < get_or t i 0 → None ≡ natural_of t
    unfolding digits
    digits_high e f = rw (r.says, drop-cons t i 0, le-leb 48 (get_or t i 0) e, lt-leb (get_or t i 0) 57 f) refl

    module _ (e : 48 ≤ get_or t i 0) (f : get_or t i 0 ≤ 57) where
      pub digits_full : 99999 < v → None ≡ natural_of t
      unfolding digits
      digits_full g = rw (r.says, drop-cons t i 0, le-leb 48 (get_or t i 0) e, le-leb (get_or t i 0) 57 f, lt-leb v 99999 g) refl

      pub digits_on : v ≤ 99999 → SoFar t (v * 10 + (get_or t i 0 - 48)) (i + 1)
      digits_on g = record { says = r.says ∙ rw (add-one, drop-cons t i 0) (digits_step v (get_or t i 0) (drop (suc i) t) e f g) }

-- what reads a numeral
pub ruleset reads = (natural_empty, natural_zero, natural_padded, digits_begin, digits_end, digits_low, digits_high, digits_full, digits_on)
