-- RULES 10.2: what bytes are a number. Definitions only. Assumes nothing.
use Rattle.std.specs.Prelude.{ℕ, zero, suc, ◌+◌, ◌*◌, ◌-◌, Bool, false, cond, List, [], ◌∷◌, eqb, leb, ℤ, pos, negsuc, drop, Option, None, Some, option_map}
use Rattle.text.specs.Decimal.{decimal}

-- the digits ds read behind those of v: none where a byte is no digit, or v has six digits already
unfoldable pub digits : ℕ → List ℕ → Option ℕ
digits v [] = Some v
digits v (d ∷ ds) = cond (leb 48 d) (cond (leb d 57) (cond (leb v 99999) (digits (v * 10 + (d - 48)) ds) None) None) None

-- a leading 0 stands alone
abbrev pub alone : List ℕ → Option ℕ
alone [] = Some 0
alone (d ∷ ds) = None

unfoldable pub natural_of : List ℕ → Option ℕ
natural_of [] = None
natural_of (d ∷ ds) = cond (eqb d 48) (alone ds) (digits 0 (d ∷ ds))

unfoldable pub has_minus : List ℕ → Bool
has_minus [] = false
has_minus (d ∷ ds) = eqb d 45

-- behind a minus; -0 is refused
abbrev pub negative : Option ℕ → Option ℤ
negative None = None
negative (Some zero) = None
negative (Some (suc v)) = Some (negsuc v)

unfoldable pub integer_of : List ℕ → Option ℤ
integer_of t = cond (has_minus t) (negative (natural_of (drop 1 t))) (option_map pos (natural_of t))

-- a number as it is spelt: the two readers know these, up to six digits, and nothing else (the laws are in proofs/)
abbrev pub numeral : ℤ → List ℕ
numeral (pos v) = decimal v
numeral (negsuc v) = 45 ∷ decimal (suc v)
