-- The loop keeps `Printing`. Assumes nothing.
use Rattle.std.proofs.Common.{length}
use Rattle.ray.specs.Length.{volume}
use Rattle.job.proofs.Printing.{Printing}
use Rattle.job.proofs.rays.put_cells.Given as goal

abbrev pub invariant-loop-voxel : goal.invariant-loop-voxel
invariant-loop-voxel l = Printing (volume l.g) l.voxels l.parts l.initial.out l.at l.out (length l.yielded) l.to
