-- The loop keeps `Running`. Assumes nothing.
use Rattle.std.proofs.Common.{◌-◌, length}
use Rattle.job.specs.Stand.{stand_of}
use Rattle.job.specs.Job.{job_from}
use Rattle.job.specs.InAll.{held}
use Rattle.job.proofs.Running.{Running}
use Rattle.job.proofs.whole.run.Given as goal

abbrev pub invariant-loop-out : goal.invariant-loop-out
invariant-loop-out l =
    Running (job_from (stand_of l.initial.here l.initial.densities) l.input) l.input (held l.initial.line l.initial.densities l.initial.answer) l.initial.out
    (held l.line l.densities l.answer) l.out l.here l.next l.to

abbrev pub decreases-loop-out : goal.decreases-loop-out
decreases-loop-out l = length l.input - l.next
