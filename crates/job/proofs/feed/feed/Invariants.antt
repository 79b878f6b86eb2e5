-- The loop keeps `Feeding`. Assumes nothing.
use Rattle.std.proofs.Common.{◌-◌, length}
use Rattle.job.specs.InAll.{held}
use Rattle.job.proofs.Feeding.{Feeding}
use Rattle.job.proofs.feed.feed.Given as goal

abbrev pub invariant-loop-m : goal.invariant-loop-m
invariant-loop-m l = Feeding l.initial.p.moved.state l.from l.piece (held l.initial.line l.initial.densities l.initial.out) l.p (held l.line l.densities l.out)

abbrev pub decreases-loop-m : goal.decreases-loop-m
decreases-loop-m l = length l.piece - l.p.next
