-- `Tracing` has why no other code than 0, 5 and 6 is given. Assumes nothing.
use Rattle.job.proofs.Tracing.{traced_so}
use Rattle.job.proofs.rays.traced_ray.Goals as goal

pub returns : goal.returns
returns c =
    let so = traced_so c.trace.ensures c.requires.0 c.requires.1 c.requires.2 in
    record { value = (so.answer, so.few); voxels_after = so.voxels_are; parts_after = so.parts_are }
