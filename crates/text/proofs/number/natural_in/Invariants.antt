-- The loop keeps `SoFar`. Assumes nothing.
use Rattle.text.proofs.Digits.{SoFar}
use Rattle.text.proofs.number.natural_in.Given as goal

abbrev pub invariant-loop-d : goal.invariant-loop-d
invariant-loop-d l = SoFar l.t l.v l.d-index
