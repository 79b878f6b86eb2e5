-- `Turns` has a law for each way that a line is cut. Assumes nothing.
use Rattle.job.proofs.Turns.{as_cut, answered, refused, used_up}
use Rattle.job.proofs.step.pump.Goals as goal

pub returns-in-Line-clause-pumping : goal.returns-in-Line-clause-pumping
returns-in-Line-clause-pumping c =
    let t = as_cut c.in-Line.is (record { ready = c.requires.2; within = c.requires.3; parted = c.cut_line.ensures }) in
    answered t c.take_line-moved.ensures.kept c.take_line-moved.ensures.densities_after

pub returns-in-More-clause-pumping : goal.returns-in-More-clause-pumping
returns-in-More-clause-pumping c = used_up (as_cut c.in-More.is (record { ready = c.requires.2; within = c.requires.3; parted = c.cut_line.ensures }))

pub returns-in-Long-clause-pumping : goal.returns-in-Long-clause-pumping
returns-in-Long-clause-pumping c =
    let no = c.refuse-moved.ensures in
    refused (as_cut c.in-Long.is (record { ready = c.requires.2; within = c.requires.3; parted = c.cut_line.ensures })) no.state_value.2 no.state_value.0 no.state_value.1 (rw c.from.ensures at no.out_after)
