use Rattle.std.proofs.Common.{◌-◌}
use Rattle.walk.specs.Model.{entries}
use Rattle.walk.proofs.Turns.{Counting}
use Rattle.walk.proofs.entries.count.Given as goal

abbrev pub invariant-loop-s : goal.invariant-loop-s
invariant-loop-s l = Counting l.s l.to (entries l.s l.to l.initial.w) l.w l.r

abbrev pub decreases-loop-s : goal.decreases-loop-s
decreases-loop-s l = l.to - l.w.t
