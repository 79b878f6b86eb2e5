-- The RAY line, and the CELL lines behind it. Assumes nothing.
use Rattle.std.proofs.Common.{take}
use Rattle.job.proofs.Printing.{ray_printed}
use Rattle.job.proofs.rays.put_ray.Goals as goal

pub returns-clause-out_after : goal.returns-clause-out_after
returns-clause-out_after c =
    let a = c.args in
    let t = c.traced_ray-t.ensures in
    ray_printed (take a.at a.out.now) a.m a.g a.densities.now a.r t.value.0 t.voxels_after t.parts_after (rw c.from.ensures at c.put_line-to.ensures.out_after) c.put_cells.ensures.out_after
