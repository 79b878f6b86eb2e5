-- RULES 10.1: lines and fields, parted by one byte. Definitions only. Assumes nothing.
use Rattle.std.specs.Prelude.{ℕ, zero, suc, cond, List, [], ◌∷◌, eqb, Option, Some, None}
use denote.Ref.{Bor}

-- x ahead of the first field
abbrev pub grow : ℕ → List (List ℕ) → List (List ℕ)
grow x [] = (x ∷ []) ∷ []
grow x (f ∷ fs) = (x ∷ f) ∷ fs

-- the fields that sep parts: one more than there are seps
unfoldable pub split : ℕ → List ℕ → List (List ℕ)
split sep [] = [] ∷ []
split sep (x ∷ xs) = cond (eqb x sep) ([] ∷ split sep xs) (grow x (split sep xs))

-- how many bytes stand ahead of the first sep
unfoldable pub until : ℕ → List ℕ → ℕ
until sep [] = zero
until sep (x ∷ xs) = cond (eqb x sep) zero (suc (until sep xs))

-- the fields behind one that ended where this begins: with the line, or at a sep
unfoldable pub after : ℕ → List ℕ → List (List ℕ)
after sep [] = []
after sep (x ∷ xs) = split sep xs

-- the fields of what is left of a line, and none where nothing is
abbrev pub left : Option (Bor (List ℕ)) → List (List ℕ)
left None = []
left (Some rest) = split 9 rest.now
