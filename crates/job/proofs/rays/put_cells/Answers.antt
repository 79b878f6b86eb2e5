-- A cell more is printed. Assumes nothing.
use Rattle.std.proofs.Common.{arith, rules, length-append}
use Rattle.std.proofs.lemmas.Slice.Zip.{zip_turn, zip_end}
use Rattle.job.proofs.Printing.{cells_on, cells_end}
use Rattle.job.proofs.rays.put_cells.Goals as goal

pub loop-voxel-preserved : goal.loop-voxel-preserved
loop-voxel-preserved c =
    let l = c.loop-voxel in
    let t = zip_turn c.args.voxels.now c.args.parts.now l.yielded c.into_iter-voxel-iterator.result l.voxel-iterator c.next.new.self c.next.result (search rules) (search rules) l.yielded_by (c.in-Some.voxel, c.in-Some.part) c.in-Some.is c.next.ensures.steps in
    rw (length-append l.yielded) (cells_on l.invariant t.0 t.1 c.put_cell-to.ensures.upper_bound c.put_cell-to.auto.out (rw (t.2 0, t.3 0) at c.put_cell-to.ensures.out_after))

pub returns-clause-out_after : goal.returns-clause-out_after
returns-clause-out_after c =
    let l = c.loop-voxel in
    let n = zip_end c.args.voxels.now c.args.parts.now l.yielded c.into_iter-voxel-iterator.result l.voxel-iterator c.next.new.self c.next.result (search rules) (search rules) l.yielded_by c.in-None.is c.next.ensures.steps in
    cells_end l.invariant (omega (arith, n, c.requires.2))
