-- What a line comes to, by what the loader says of it. Assumes nothing.
use Rattle.std.proofs.Common.{take, sym, ap, ◌∙◌, append-nil, Ok, Err, Some, None}
use Rattle.job.specs.Move.{after}
use Rattle.job.proofs.Steps.{stopped, went, step_read}
use Rattle.job.proofs.step.take_line.Goals as goal

pub returns-in-Ok-Some-clause-densities_after : goal.returns-in-Ok-Some-clause-densities_after
returns-in-Ok-Some-clause-densities_after c =
    let a = c.args in
    went (take a.at a.out.now) (sym (append-nil (take a.at a.out.now))) (step_read a.st a.line.now a.densities.now c.take_line.new.densities (Ok (Some c.in-Ok-Some.load)) (rw c.in-Ok-Some.field-0-is at c.in-Ok-Some.ensures.reading))

pub returns-in-Err-clause-densities_after : goal.returns-in-Err-clause-densities_after
returns-in-Err-clause-densities_after c =
    let a = c.args in
    let no = c.refuse.ensures in
    stopped (take a.at a.out.now) _ no.state_value.1 (rw c.from.ensures at no.out_after) (step_read a.st a.line.now a.densities.now c.take_line.new.densities (Err c.in-Err.bad) c.in-Err.ensures.reading)

pub returns-in-Ok-None-clause-densities_after : goal.returns-in-Ok-None-clause-densities_after
returns-in-Ok-None-clause-densities_after c =
    let a = c.args in
    c.take_ray.ensures.densities_after ∙ ap (after (take a.at a.out.now)) (sym (step_read a.st a.line.now a.densities.now c.take_line.new.densities (Ok None) (rw c.in-Ok-None.field-0-is at c.in-Ok-None.ensures.reading)))
