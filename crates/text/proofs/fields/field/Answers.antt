-- One field on, past the last field, and at field k. Assumes nothing.
use Rattle.std.proofs.Common.{arith}
use Rattle.text.proofs.Split.{walk_on, walk_there, walk_past}
use Rattle.text.proofs.fields.field.Goals as goal

pub loop-preserved : goal.loop-preserved
loop-preserved c = walk_on c.loop.invariant c.field_end-end.ensures (omega arith) (omega arith)

pub returns-then-line-end : goal.returns-then-line-end
returns-then-line-end c =
    let f = walk_past c.loop.invariant c.field_end-end.ensures (omega arith) (omega arith) in
    record { inside = f.0; field = f.1.0; behind = f.1.1 }

pub returns : goal.returns
returns c =
    let f = walk_there c.loop.invariant c.field_end.ensures (omega arith) in
    record { inside = f.0; field = f.1.0; behind = f.1.1 }
