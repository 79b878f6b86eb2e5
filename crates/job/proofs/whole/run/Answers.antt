-- From the job's first line on; where the room does not suffice; and behind the last turn. Assumes nothing.
use Rattle.std.proofs.Common.{arith, rules}
use Rattle.job.specs.InAll.{held}
use Rattle.job.proofs.Running.{run_begins, part_length, run_short, run_ends}
use Rattle.job.proofs.whole.run.Goals as goal

pub loop-out-init : goal.loop-out-init
loop-out-init c =
    let a = c.args in
    run_begins a.input.now (held a.line.now a.densities.now a.answer.now) a.out.now c.requires.unread.0 c.requires.unread.1

pub returns-then-out-to : goal.returns-then-out-to
returns-then-out-to c =
    let r = c.loop-out.invariant in
    run_short r c.turn-p.ensures c.turn-p.auto.answer c.loop-out.out (omega (arith, c.if-out-to.true, r.room))

pub returns-then-not-m : goal.returns-then-not-m
returns-then-not-m c =
    let r = c.loop-out.invariant in
    let put = c.put_bytes-to in
    let long = part_length r c.turn-p.ensures c.turn-p.auto.answer in
    run_ends r c.turn-p.ensures put.auto.out put.ensures.out_after (omega (arith, put.ensures.value, long, c.if-out-to.false, r.room)) (search rules)
