-- RULES 10.4: the refusals of a line and their codes. Definitions only. Assumes nothing.
use Rattle.std.specs.Prelude.{ℕ, Result, Ok, Err}
use Rattle.axis.specs.Refusal.{number}
use Rattle.load.specs.declared.refusal.Bad.{Bad}
use Rattle.load.specs.declared.refusal.Bad.TheVariants.{Long, Word, Due, Fields, Number, Grid, Voxels}

-- those of a grid as in RULES 6
abbrev pub bad_number : Bad → ℕ
bad_number Long = 20
bad_number Word = 21
bad_number Due = 22
bad_number Fields = 23
bad_number Number = 24
bad_number (Grid r) = number r
bad_number Voxels = 25

-- the code of an answer: 0 where it is accepted
abbrev pub bad_number_of : {A : Type 0} → Result A Bad → ℕ
bad_number_of (Ok a) = 0
bad_number_of (Err b) = bad_number b
