-- Each turn's branch is the step of the model, with a flag for each axis that is crossed. Assumes nothing.
use Rattle.std.proofs.Common.{true, false, arith}
use Rattle.walk.proofs.Turns.{step_is_lem}
use Rattle.walk.proofs.steps.Walk.step.Goals as goal

pub returns-then-x-z : goal.returns-then-x-z
returns-then-x-z c = rw c.over.ensures (step_is_lem c.args.s c.args.self c.args.self.leave.x true false false (omega arith) (omega arith) (omega arith) (omega arith))

pub returns-then-x-z-2 : goal.returns-then-x-z-2
returns-then-x-z-2 c =
    rw (c.over-then-x-z-2-2.ensures, c.over-then-x-z-2.ensures) (step_is_lem c.args.s c.args.self c.args.self.leave.z true false true (omega arith) (omega arith) (omega arith) (omega arith))

pub returns-then-x-y : goal.returns-then-x-y
returns-then-x-y c = rw c.over-then-x-y.ensures (step_is_lem c.args.s c.args.self c.args.self.leave.z false false true (omega arith) (omega arith) (omega arith) (omega arith))

pub returns-then-x-y-2 : goal.returns-then-x-y-2
returns-then-x-y-2 c =
    rw (c.over-then-x-y-2-2.ensures, c.over-then-x-y-2.ensures) (step_is_lem c.args.s c.args.self c.args.self.leave.y true true false (omega arith) (omega arith) (omega arith) (omega arith))

pub returns-then-y-z : goal.returns-then-y-z
returns-then-y-z c = rw c.over-then-y-z.ensures (step_is_lem c.args.s c.args.self c.args.self.leave.y false true false (omega arith) (omega arith) (omega arith) (omega arith))

pub returns-then-x-z-3 : goal.returns-then-x-z-3
returns-then-x-z-3 c =
    rw (c.over-then-x-z-3-3.ensures, c.over-then-x-z-3-2.ensures, c.over-then-x-z-3.ensures) (step_is_lem c.args.s c.args.self c.args.self.leave.z true true true (omega arith) (omega arith) (omega arith) (omega arith))

pub returns-then-y-z-2 : goal.returns-then-y-z-2
returns-then-y-z-2 c =
    rw (c.over-then-y-z-2-2.ensures, c.over-then-y-z-2.ensures) (step_is_lem c.args.s c.args.self c.args.self.leave.z false true true (omega arith) (omega arith) (omega arith) (omega arith))

pub returns : goal.returns
returns c = rw c.over-2.ensures (step_is_lem c.args.s c.args.self c.args.self.leave.z false false true (omega arith) (omega arith) (omega arith) (omega arith))
