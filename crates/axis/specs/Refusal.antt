-- RULES 6: the refusals and their numbers. Definitions only. Assumes nothing.
use Rattle.std.specs.Prelude.{ℕ, Result, Ok, Err}
use Rattle.axis.specs.declared.refusal.Refusal.{Refusal}
use Rattle.axis.specs.declared.refusal.Refusal.TheVariants.{Count, Spacing, Planes, Densities, Outside, EqualEnds, Lists, Room, Answer}

abbrev pub number : Refusal → ℕ
number Count = 1
number Spacing = 2
number Planes = 3
number Densities = 4
number Outside = 5
number EqualEnds = 6
number Lists = 7
number Room = 8
number Answer = 17

-- the code of an answer: 0 where it is accepted
abbrev pub number_of : {A : Type 0} → Result A Refusal → ℕ
number_of (Ok a) = 0
number_of (Err r) = number r
