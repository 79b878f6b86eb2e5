-- A trace on the tails of the lists; more places filled than there are is code 8. Assumes nothing.
use Rattle.std.proofs.Common.{◌<◌, length, refl, sym, arith}
use Rattle.axis.proofs.Table.{number_some}
use Rattle.tracing.specs.Answer.{lists, lent}
use Rattle.tracing.proofs.Accepting.{stopped, accepted, no_room}
use Rattle.tracing.proofs.Answering.{refuses}
use Rattle.tracing.proofs.Appending.{tail_answers}
use Rattle.tracing.proofs.device.append.Goals as goal
use Rattle.tracing.proofs.device.append.Goals.{else-filled-voxels-via-then-filled-voxels+else-filled-parts, else-filled-voxels-via-else-filled-voxels}

pub returns-then-filled-parts : goal.returns-then-filled-parts
returns-then-filled-parts c =
    let a = c.args in
    tail_answers a.m a.g a.r a.densities.now a.voxels.now a.parts.now a.filled (omega (arith, c.if-filled-voxels.true)) (omega (arith, c.if-filled-parts.true)) c.trace.ensures

pub returns-in-Ok : goal.returns-in-Ok
returns-in-Ok c =
    let a = c.args in
    let l = lent (lists a.densities.now a.voxels.now a.parts.now a.filled) in
    let front = sym c.in-Ok.ensures in
    let same = (accepted a.m a.g a.r l front).lists_are in
    let beyond : length a.voxels.now < a.filled = elim c.else-filled-voxels.branch [
      | else-filled-voxels-via-then-filled-voxels+else-filled-parts w ↦ omega (arith, w.if-filled-parts.false)
      | else-filled-voxels-via-else-filled-voxels w ↦ omega (arith, w.if-filled-voxels.false)
    ] in
    refuses a.m a.g a.r _ _ (no_room a.m a.g a.r l front (omega arith)) (λ z. omega arith) c.from.ensures refl refl

pub returns-in-Err : goal.returns-in-Err
returns-in-Err c =
    let a = c.args in
    let l = lists a.densities.now a.voxels.now a.parts.now a.filled in
    refuses a.m a.g a.r l _ (stopped a.m a.g a.r (lent l) c.in-Err.ensures (number_some _)) (number_some _) c.from-in-Err.ensures refl refl
