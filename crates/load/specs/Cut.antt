-- RULES 10.1: what a piece of the input is cut into. Definitions only. Assumes nothing.
use Rattle.std.specs.Prelude.{ℕ, ◌≤◌, ◌<◌, List, ◌∷◌, ◌++◌, ◌≡◌, length, take, drop}
use Rattle.text.specs.Split.{until}
use Rattle.load.specs.declared.cut.Cut.{Cut}
use Rattle.load.specs.declared.cut.Cut.TheVariants.{Line, More, Long}

-- what stands of a line that has begun: no LF, and not too much
pub record Begun (have : ℕ) (line : List ℕ) : Type 0 where
  pub short : have ≤ 4096
  pub unended : until 10 (take have line) ≡ have

-- A line that has begun with `before` goes on with `piece`, from `from` on. An LF ended it: it stands in `line`, and `next` is
-- behind the LF. Or there is no LF, and all stands in `line`. Or there are more than 4096 bytes ahead of any LF.
abbrev pub CutInto : Cut → (before piece : List ℕ) → (from : ℕ) → (line : List ℕ) → Type 0
CutInto (Line len next) before piece from line =
    Begun len line × (before ++ drop from piece ≡ take len line ++ (10 ∷ drop next piece)) × (from < next) × (next ≤ length piece)
CutInto (More len) before piece from line = Begun len line × (before ++ drop from piece ≡ take len line)
CutInto Long before piece from line = 4096 < until 10 (before ++ drop from piece)
