-- An axis' units and its difference are as small as its coordinates. Assumes nothing.
use Rattle.place.proofs.Deciding.{short}
use Rattle.place.proofs.crossing.stretch_of.Goals as goal

pub invariant_of-enter : goal.invariant_of-enter
invariant_of-enter c = rw (c.reach-reach.ensures.from_is, c.factor-den.ensures) (short c.args.a c.requires).0

pub invariant_of-leave : goal.invariant_of-leave
invariant_of-leave c = rw (c.reach-reach.ensures.to_is, c.factor-den.ensures) (short c.args.a c.requires).1
