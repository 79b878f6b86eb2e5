-- Where the job (RULES 10) stands behind a piece of the input. Definitions only. Assumes nothing.
use Rattle.std.specs.Prelude.{List, ◌++◌, ◌≡◌, ℕ}
use Rattle.job.specs.declared.state.State.{State}
use Rattle.load.specs.Cut.{Begun}
use Rattle.job.specs.InAll.{onward}

-- The piece is used up. Whatever comes later, what the job prints on the piece and behind it is the bytes `gone`, and then what it
-- prints from where it now stands.
pub record Behind (st : State) (line densities piece : List ℕ) (st' : State) (line' densities' : List ℕ) : Type 0 where
  pub begun : Begun st'.have line'
  pub gone : List ℕ
  pub same : (later : List ℕ) → onward st line densities (piece ++ later) ≡ gone ++ onward st' line' densities' later
