-- The three that were set out make a plan. Assumes nothing.
use Rattle.walk.proofs.Plans.{planned}
use Rattle.walk.proofs.plan.plan_of.Goals as goal

pub returns-clause-planned : goal.returns-clause-planned
returns-clause-planned c = planned c.requires.0 c.requires.1 c.requires.2 c.walk_of.ensures c.strides_of.ensures
