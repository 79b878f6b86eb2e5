-- A still axis comes in at once; a moving one at the plane that its way meets first. Assumes nothing.
use Rattle.std.proofs.Common.{◌*◌, arith}
use Rattle.ray.proofs.Way.{up, down}
use Rattle.line.proofs.Units.{enters_is, aimed_is}
use Rattle.line.proofs.line.Line.enter.Goals as goal

pub returns : goal.returns
returns c = λ rest.
    let p = c.args.self.p in
    let q = c.args.self.q in
    let lo = c.args.lo in
    let hi = c.args.hi in
    aimed_is p q lo hi (λ n. n * rest) c.select_unpredictable.ensures c.run.ensures
    (λ g. enters_is up p q lo hi rest g c.requires) (λ g. enters_is down p q lo hi rest (omega arith) c.requires)
