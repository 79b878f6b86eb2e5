-- A turn counts an entry. Assumes nothing.
use Rattle.std.proofs.Common.{arith}
use Rattle.walk.proofs.Turns.{step_fits, next_tick, none_counted, counted_few, last_counted, one_counted}
use Rattle.walk.proofs.entries.count.Goals as goal

pub loop-s-init : goal.loop-s-init
loop-s-init c = none_counted c.requires

pub step-next-requires : goal.step-next-requires
step-next-requires c = step_fits c.loop-s.invariant.forward

pub overflow_add-r : goal.overflow_add-r
overflow_add-r c = record { fits = omega (arith, counted_few c.loop-s.invariant) }

pub returns-then-to-next : goal.returns-then-to-next
returns-then-to-next c = let v = c.loop-s.invariant in last_counted v (omega (arith, next_tick v.forward c.step-next.ensures, c.if-to-next.true))

pub loop-s-smaller : goal.loop-s-smaller
loop-s-smaller c = let f = c.loop-s.invariant.forward in omega (arith, next_tick f c.step-next.ensures, f.later, f.before)

pub loop-s-preserved : goal.loop-s-preserved
loop-s-preserved c =
    let v = c.loop-s.invariant in
    rw c.step-next.ensures (one_counted v (omega (arith, next_tick v.forward c.step-next.ensures, c.if-to-next.false)))
