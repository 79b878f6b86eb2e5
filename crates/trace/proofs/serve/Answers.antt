-- `trace::serve` meets its contract: nothing is read when it begins. Assumes nothing.
use Rattle.std.proofs.Common.{refl}
use Rattle.job.specs.InAll.{held}
use Rattle.job.proofs.Lengths.{as_long}
use Rattle.job.proofs.Running.{new_begun}
use Rattle.trace.proofs.serve.Goals as goal

pub loop-init : goal.loop-init
loop-init g c =
    record { piece_kept = refl; kept = as_long {k = held c.args.line.now c.args.densities.now c.args.out.now}; begun = new_begun c.args.line.now c.new-st.ensures.unbegun }
