-- `traced::trace_into`: the answer of the trace, told in a list.
use Rattle.std.proofs.Common.{◌∙◌, ap}
use Rattle.ilvoresta.specs.Entry.{after}
use Rattle.ilvoresta.proofs.Answered.{untraced, traced}
use Rattle.ilvoresta.proofs.traced.trace_into.Goals as goal

-- src/traced.rt
-- the trace refuses: its code is handed on,
-- and every list is as it was
pub returns-then-t-ne0 : goal.returns-then-t-ne0
returns-then-t-ne0 c = untraced _ c.trace_when-t.ensures c.if-t-ne0.true

-- a trace, and the list filled where its length is right
pub returns : goal.returns
returns c =
    let list_now = c.fill.ensures.answer_after ∙ ap (λ new. after c.fill.result new c.args.answer.now) c.six_of.ensures in
    traced c.trace_when-t.ensures c.if-t-ne0.false c.fill.ensures.value list_now
