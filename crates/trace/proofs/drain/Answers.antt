-- `trace::drain` meets its contract: a turn goes on behind what is written. Assumes nothing.
use Rattle.std.proofs.Common.{rules}
use Rattle.job.specs.InAll.{held}
use Rattle.trace.proofs.Draining.{drain_on}
use Rattle.trace.proofs.drain.Goals as goal

pub loop-next-preserved : goal.loop-next-preserved
loop-next-preserved g c =
    let long = c.feed-p.auto in
    let before = held c.loop-next.line c.loop-next.densities c.loop-next.out in
    let behind = held c.feed-p.new.line c.feed-p.new.densities c.feed-p.new.out in
    drain_on
    {k₀ = held c.args.line.now c.args.densities.now c.args.out.now}
    {k = before}
    c.loop-next.invariant
    {p = c.feed-p.result}
    {k' = behind}
    (search rules)
    (record { line = long.line; densities = long.densities; out = long.out })
    c.feed-p.ensures.pumping
