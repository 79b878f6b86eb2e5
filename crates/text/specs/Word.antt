-- RULES 10.1: the words that a line may begin with. Definitions only. Assumes nothing.
use Rattle.std.specs.Prelude.{ℕ, cond, List, [], ◌∷◌, Option, Some, None, bytes_eq}
use Rattle.text.specs.declared.word.Kind.{Kind}
use Rattle.text.specs.declared.word.Kind.TheVariants.{Grid, Dens, Own}

-- the words as bytes
abbrev pub GRID : List ℕ
GRID = 71 ∷ 82 ∷ 73 ∷ 68 ∷ []

abbrev pub DENS : List ℕ
DENS = 68 ∷ 69 ∷ 78 ∷ 83 ∷ []

-- RULES 10.4, code 21: every field but these two and the program's own word is none, an empty one too; compared byte for byte
abbrev pub word_of : (own : List ℕ) → List ℕ → Option Kind
word_of own t = cond (bytes_eq t GRID) (Some Grid) (cond (bytes_eq t DENS) (Some Dens) (cond (bytes_eq t own) (Some Own) None))
