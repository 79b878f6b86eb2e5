-- Six numbers and three, and what is read of them. Assumes nothing.
use Rattle.std.proofs.Common.{rules, refl, ◌∙◌}
use Rattle.load.proofs.Fields.{Plain, six_digits}
use Rattle.load.proofs.grid.grid_in.Goals as goal

pub returns : goal.returns
returns c =
    let bs = c.numbers-2.new.out in
    let e0 : Plain bs 0 = search rules in
    let e1 : Plain bs 1 = search rules in
    let e2 : Plain bs 2 = search rules in
    rw (e0, e1, e2, ← (c.in_ok-numbers.ensures ∙ six_digits _ _), ← c.in_ok-numbers-2.ensures) refl
