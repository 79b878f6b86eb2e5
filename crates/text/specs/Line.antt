-- RULES 10.5: a printed line, one space between its fields. Definitions only. Assumes nothing.
use Rattle.std.specs.Prelude.{ℕ, List, [], ◌∷◌, ◌++◌}
use Rattle.text.specs.Decimal.{decimal}

-- each number in decimal, after one space
unfoldable pub spaced : List ℕ → List ℕ
spaced [] = []
spaced (x ∷ xs) = 32 ∷ (decimal x ++ spaced xs)

-- a word, some numbers, LF
unfoldable pub line_of : List ℕ → List ℕ → List ℕ
line_of word numbers = word ++ (spaced numbers ++ 10 ∷ [])
