-- What became of a line, told by what is then loaded. Definitions only. Assumes nothing.
use Rattle.std.specs.Prelude.{List, ℕ, Option, None, Some, Result, Ok, Err}
use Rattle.load.specs.declared.refusal.Bad.{Bad}
use Rattle.load.specs.declared.state.Load.{Load}
use Rattle.load.specs.Loaded.{loaded_of}
use Rattle.load.specs.Line.{Reading, takes, refuses, leaves}
use Rattle.load.specs.Refusal.{bad_number}

-- a GRID or a DENS line
abbrev pub taking_of : Result Load Bad → (densities : List ℕ) → Reading
taking_of (Ok next) densities = takes (loaded_of next densities)
taking_of (Err bad) densities = refuses (bad_number bad)

-- any line, where this is loaded ahead of it
abbrev pub reading_of : Load → Result (Option Load) Bad → (densities : List ℕ) → Reading
reading_of st (Ok (Some next)) densities = takes (loaded_of next densities)
reading_of st (Ok None) densities = leaves (loaded_of st densities)
reading_of st (Err bad) densities = refuses (bad_number bad)
