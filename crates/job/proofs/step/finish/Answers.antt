-- What is printed at the end of the input, by where it ends. Assumes nothing.
use Rattle.std.proofs.Common.{List, ℕ, ◌≡◌, ◌++◌, take, sym, ap, ◌∙◌, rules}
use Rattle.text.specs.declared.word.Kind.TheVariants.{Own}
use Rattle.load.specs.Loaded.{kind_number}
use Rattle.job.proofs.Ending.{end_short, not_own, end_early, end_well}
use Rattle.job.proofs.step.finish.Goals as goal

-- a line is put, and it is what the job prints
put_so : (printed : List ℕ) {o l m : List ℕ} → o ≡ printed ++ l → l ≡ m → o ≡ printed ++ m
put_so printed e f = e ∙ ap (λ (l : List ℕ). printed ++ l) f

pub returns-then-st-ne0-clause-printed : goal.returns-then-st-ne0-clause-printed
returns-then-st-ne0-clause-printed c =
    λ line densities b. put_so (take c.args.at c.args.out.now) (rw c.from.ensures at c.put_bad.ensures.out_after) (end_short c.args.st densities b c.if-st-ne0.true)

pub returns-then-ne-clause-printed : goal.returns-then-ne-clause-printed
returns-then-ne-clause-printed c =
    λ line densities b. put_so (take c.args.at c.args.out.now) (rw c.from-then-ne.ensures at c.put_bad-then-ne.ensures.out_after)
    (end_early c.args.st densities b c.if-st-ne0.false (not_own c.due.result (search rules) c.due.ensures))

pub returns-clause-printed : goal.returns-clause-printed
returns-clause-printed c =
    let own : c.due.result ≡ Own = search rules in
    λ line densities b. put_so (take c.args.at c.args.out.now) c.put_line.ensures.out_after
    (end_well c.args.st densities b c.if-st-ne0.false (sym c.due.ensures ∙ ap kind_number own))
