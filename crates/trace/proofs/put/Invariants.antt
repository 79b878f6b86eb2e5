-- `trace::put` ends: with each write less is left. Assumes nothing.
use Rattle.std.proofs.Common.{length}
use Rattle.trace.proofs.put.Given as goal

abbrev pub decreases-loop-rest : goal.decreases-loop-rest
decreases-loop-rest g l = length l.rest
