-- All that the job prints (RULES 10), seen from one place in it. Definitions only. Assumes nothing.
use Rattle.std.specs.Prelude.{ℕ, ◌+◌, ◌-◌, ◌≤◌, ◌<◌, Bool, true, false, ◌&&◌, List, [], ◌++◌, ◌≡◌, ltb, leb, length, take, drop}
use Rattle.load.specs.Cut.{Begun}
use Rattle.job.specs.declared.state.State.{State}
use Rattle.job.specs.declared.step.Pumped.{Pumped}
use Rattle.job.specs.Stand.{stand_of}
use Rattle.job.specs.Job.{job_from}
use Rattle.job.specs.Sound.{room}
use Rattle.job.specs.Move.{read}

-- what stands in the lists lent
pub record Held : Type 0 where
  pub line : List ℕ
  pub densities : List ℕ
  pub out : List ℕ

abbrev pub held : (line densities out : List ℕ) → Held
held line densities out = record { line = line; densities = densities; out = out }

-- the job goes on, and the piece is still to be taken from `from` on
abbrev pub starting : State → (at from : ℕ) → Pumped
starting st at from = record { moved = record { state = st; at = at; going = true }; next = from }

-- what comes behind a step, unless the job has stopped
abbrev pub more : Bool → List ℕ → List ℕ
more true l = l
more false l = []

-- what the job prints from a state on, where `rest` is still to be read
abbrev pub onward : State → (line densities rest : List ℕ) → List ℕ
onward st line densities rest = job_from (stand_of st densities) (take st.have line ++ rest)

-- the bytes that stand in the output, and behind them what the job prints on the line that has begun, the rest of the piece, and
-- whatever comes later
abbrev pub in_all : Pumped → Held → (piece later : List ℕ) → List ℕ
in_all p k piece later =
    take p.moved.at k.out ++ more p.moved.going (onward p.moved.state k.line k.densities (drop p.next piece ++ later))

-- from both places the job prints the same in all, whatever comes later
abbrev pub Alike : (piece : List ℕ) → Pumped → Held → Pumped → Held → Type 0
Alike piece p k p' k' = (later : List ℕ) → in_all p k piece later ≡ in_all p' k' piece later

-- The piece is taken in from `from` on and answered behind `at`. Each line that is read took a byte of the piece, and so did each byte
-- that stands of the next line.
pub record Pumping (st : State) (at from : ℕ) (piece : List ℕ) (k : Held) (r : Pumped) (k' : Held) : Type 0 where
  pub begun : Begun r.moved.state.have k'.line
  pub lines : read r.moved.state + from ≤ read st + r.next
  pub counted : read r.moved.state + r.moved.state.have + from ≤ read st + st.have + r.next
  pub room : r.moved.at ≤ length k.out
  pub back : from ≤ r.next
  pub within : r.next ≤ length piece
  pub same : Alike piece (starting st at from) k r k'

-- another line can be answered: the job goes on, the piece has bytes left, and an output of so many bytes has room
abbrev pub another : Pumped → (piece out : ℕ) → Bool
another p piece out = p.moved.going && (ltb p.next piece && leb room (out - p.moved.at))

-- The next part of the output is answered from the start of the list `out`, up to the end of the input or not, and then the job goes
-- on behind it or is over.
pub record Turned (input : List ℕ) (st : State) (next : ℕ) (k : Held) (r : Pumped) (k' : Held) : Type 0 where
  pub begun : Begun r.moved.state.have k'.line
  pub counted : read r.moved.state + r.moved.state.have ≤ r.next
  pub within : r.next ≤ length input
  pub room : r.moved.at ≤ length k.out
  pub moves : r.moved.going ≡ true → next < r.next
  pub same : in_all (starting st 0 next) k input [] ≡ in_all r k' input []
