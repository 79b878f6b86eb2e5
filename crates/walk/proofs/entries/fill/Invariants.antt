use Rattle.std.proofs.Common.{◌-◌}
use Rattle.walk.specs.Model.{entries}
use Rattle.walk.proofs.Filling.{Filling}
use Rattle.walk.proofs.entries.fill.Given as goal

abbrev pub invariant-loop-s : goal.invariant-loop-s
invariant-loop-s l = Filling l.s l.to l.densities (entries l.s l.to l.initial.w) l.w l.r l.sum l.voxels l.parts l.initial.voxels l.initial.parts

abbrev pub decreases-loop-s : goal.decreases-loop-s
decreases-loop-s l = l.to - l.w.t
