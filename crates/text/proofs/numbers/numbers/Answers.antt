-- A field that is not read, and one number more. Assumes nothing.
use Rattle.std.proofs.Common.{arith}
use Rattle.text.proofs.Every.{reading_bad, reading_on}
use Rattle.text.proofs.numbers.numbers.Goals as goal

pub returns-in_err-slot : goal.returns-in_err-slot
returns-in_err-slot g c =
    rw c.from_residual-in_err-slot.ensures
    (reading_bad c.loop-slot.invariant (omega arith) c.in_ok-next.ensures.steps c.in_err-slot.ensures)

pub loop-slot-preserved : goal.loop-slot-preserved
loop-slot-preserved g c = reading_on c.loop-slot.invariant (omega arith) c.in_ok-next.ensures.steps c.in_ok-slot.ensures
