-- `trace::drain` keeps `Draining`, and with each turn less of the piece is left. Assumes nothing.
use Rattle.std.proofs.Common.{length, ◌-◌}
use Rattle.job.specs.InAll.{held}
use Rattle.trace.proofs.Draining.{Draining}
use Rattle.trace.proofs.drain.Given as goal

abbrev pub invariant-loop-next : goal.invariant-loop-next
invariant-loop-next g l =
    Draining l.initial.here l.piece (held l.initial.line l.initial.densities l.initial.out) (held l.line l.densities l.out) l.here l.next

abbrev pub decreases-loop-next : goal.decreases-loop-next
decreases-loop-next g l = length l.piece - l.next
