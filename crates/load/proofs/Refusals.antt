-- The order of the refusals 21, 22 and 23. Assumes nothing.
use Prim.Native.Nat.{ℕ}
use mathlib.Core.List.{List, []}
use mathlib.Core.Path.{◌≡◌, refl}
use lib.ListN.{length, get_or}
use borrow.Author.Tests.{eq-eqb, ne_eqb}
use Rattle.axis.specs.Codes.{first}
use Rattle.text.specs.Word.{word_of}
use Rattle.load.specs.Line.{kind_of, fields_of, head_rows}

-- a line of these fields begins with a word of this kind
pub record Headed (word : List ℕ) (own due nx : ℕ) (fields : List (List ℕ)) (kind : ℕ) : Type 0 where
  pub is : kind ≡ kind_of (word_of word (get_or fields 0 []))

module _ {word : List ℕ} {own due nx kind : ℕ} {fields : List (List ℕ)} (h : Headed word own due nx fields kind) where
  pub unknown : kind ≡ 3 → 21 ≡ first (head_rows word own due nx fields)
  unknown e = rw (← h.is, eq-eqb kind 3 e) refl

  module _ (known : kind ≡ 3 → ⊥) where
    pub not_due : (kind ≡ due → ⊥) → 22 ≡ first (head_rows word own due nx fields)
    not_due e = rw (← h.is, ne_eqb kind 3 known, ne_eqb kind due e) refl

    module _ (right : kind ≡ due) where
      pub miscounted : (length fields ≡ fields_of own nx due → ⊥) → 23 ≡ first (head_rows word own due nx fields)
      miscounted e = rw (← h.is, ne_eqb kind 3 known, eq-eqb kind due right, ne_eqb (length fields) (fields_of own nx due) e) refl

      pub well_headed : length fields ≡ fields_of own nx due → 0 ≡ first (head_rows word own due nx fields)
      well_headed e = rw (← h.is, ne_eqb kind 3 known, eq-eqb kind due right, eq-eqb (length fields) (fields_of own nx due) e) refl
