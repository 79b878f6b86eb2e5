-- `trace::serve` keeps `Serving`. Assumes nothing.
use Rattle.job.specs.InAll.{held}
use Rattle.trace.proofs.Draining.{Serving}
use Rattle.trace.proofs.serve.Given as goal

abbrev pub invariant-loop : goal.invariant-loop
invariant-loop g l = Serving l.initial.piece (held l.initial.line l.initial.densities l.initial.out) l.piece (held l.line l.densities l.out) l.st
