-- What a line asks of the state ahead of it, and what it moves it to. Definitions only. Assumes nothing.
use Rattle.std.specs.Prelude.{ℕ, ◌+◌, ◌^◌, ◌≤◌, ◌<◌, Bool, true, false, List, ◌++◌, ◌≡◌, take}
use Rattle.load.specs.Loaded.{due_at}
use Rattle.job.specs.declared.state.State.{State}
use Rattle.job.specs.declared.state.Moved.{Moved}
use Rattle.job.specs.Stand.{Stand, stand_of}
use Rattle.job.specs.Line.{Step, goes, stops}
use Rattle.job.specs.Sound.{room}

-- the line that is due, and the lines read
abbrev pub due : State → ℕ
due st = due_at st.load.lines st.load.left

abbrev pub read : State → ℕ
read st = st.load.lines + st.rays

-- there is room for an answer behind `at`, and the next line has a number of 64 bits
pub record Ready (st : State) (at out : ℕ) : Type 0 where
  pub room : at + room ≤ out
  pub number : read st + 1 < 2 ^ 64

pub record Kept (st : State) (at : ℕ) (m : Moved) : Type 0 where
  pub have : m.state.have ≡ st.have
  pub lines : read m.state ≤ read st + 1
  pub room : m.at ≤ at + room

-- what a step came to, read off the output and the densities behind it
abbrev pub step_is : Bool → List ℕ → Stand → Step
step_is true o s = goes o s
step_is false o s = stops o

abbrev pub came_to : Moved → (out densities : List ℕ) → Step
came_to m out densities = step_is m.going (take m.at out) (stand_of m.state densities)

-- a step, printed behind what was printed before
abbrev pub after : List ℕ → Step → Step
after before (goes o s) = goes (before ++ o) s
after before (stops o) = stops (before ++ o)
