-- RULES 10.3 and 10.4: what a line is to the loader, and what is then loaded. Definitions only. Assumes nothing.
use Rattle.std.specs.Prelude.{ℕ, ◌+◌, ◌-◌, ◌*◌, not, cond, List, [], ◌∷◌, ◌++◌, eqb, ltb, length, get_or, Option, None, Some}
use Rattle.axis.specs.declared.Limits.{Limits}
use Rattle.axis.specs.Codes.{Row, row, first}
use Rattle.ray.specs.Axes.{Grid}
use Rattle.ray.specs.Length.{volume, count}
use Rattle.ray.specs.Codes.{grid_rows}
use Rattle.text.specs.declared.word.Kind.{Kind}
use Rattle.text.specs.Split.{split}
use Rattle.text.specs.Word.{word_of}
use Rattle.text.specs.Line.{line_of}
use Rattle.load.specs.Loaded.{Loaded, kind_number, due_at}
use Rattle.load.specs.Numbers.{grid_in, dens_in}

abbrev pub BAD : List ℕ
BAD = 66 ∷ 65 ∷ 68 ∷ []

-- RULES 10.5: BAD, the number of the line behind so many, and the code
abbrev pub bad_line : (lines code : ℕ) → List ℕ
bad_line lines code = line_of BAD ((lines + 1) ∷ code ∷ [])

-- the line is taken in; a code refuses it; or it is left to the program, and what is loaded stays
pub data Reading : Type 0 where
  takes : Loaded → Reading
  refuses : ℕ → Reading
  leaves : Loaded → Reading

-- a line that a code refuses, and else
abbrev pub unless : ℕ → Reading → Reading
unless code reading = cond (eqb code 0) reading (refuses code)

-- RULES 10.3: the kind of a line that begins with a word, and 3 of an unknown one
abbrev pub kind_of : Option Kind → ℕ
kind_of None = 3
kind_of (Some kind) = kind_number kind

-- RULES 10.1: the fields of the line that is due: its word, and 9 numbers or nx densities; the program says its own
abbrev pub fields_of : (own nx due : ℕ) → ℕ
fields_of own nx due = cond (eqb due 0) 10 (cond (eqb due 1) (nx + 1) own)

-- RULES 10.4: 21, an unknown word; 22, not the line that is due; 23, another number of fields
abbrev pub head_rows : (word : List ℕ) → (own due nx : ℕ) → List (List ℕ) → List Row
head_rows word own due nx fields =
    let kind : ℕ = kind_of (word_of word (get_or fields 0 [])) in
    row 21 (eqb kind 3) ∷ row 22 (not (eqb kind due)) ∷ row 23 (not (eqb (length fields) (fields_of own nx due))) ∷ []

-- RULES 10.4 on a GRID line whose numbers are read: 1, 2, 3, then 25
abbrev pub grid_code : Limits → Grid → ℕ
grid_code m g = first (grid_rows m g ++ (row 25 (ltb 4096 (count (volume g))) ∷ []))

-- RULES 10.4: code 24, and then the numbers of a line that is due
abbrev pub grid_read : Limits → Option Grid → Reading
grid_read m None = refuses 24
grid_read m (Some g) = unless (grid_code m g) (takes (record { limits = m; lines = 1; grid = g; left = g.y.n * g.z.n; densities = [] }))

abbrev pub dens_read : Loaded → Option (List ℕ) → Reading
dens_read s None = refuses 24
dens_read s (Some ds) = takes (record { limits = s.limits; lines = s.lines + 1; grid = s.grid; left = s.left - 1; densities = s.densities ++ ds })

unfoldable pub numbers_read : Loaded → List (List ℕ) → Reading
numbers_read s fields =
    let due : ℕ = due_at s.lines s.left in
    cond (eqb due 0) (grid_read s.limits (grid_in fields)) (cond (eqb due 1) (dens_read s (dens_in s.grid.x.n fields)) (leaves s))

-- RULES 10.4: a line that LF ends: 20, the refusals behind it in their order, and its numbers
unfoldable pub line_read : (word : List ℕ) → (own : ℕ) → Loaded → List ℕ → Reading
line_read word own s l =
    let fields : List (List ℕ) = split 9 l in
    unless (first (row 20 (ltb 4096 (length l)) ∷ head_rows word own (due_at s.lines s.left) s.grid.x.n fields)) (numbers_read s fields)
