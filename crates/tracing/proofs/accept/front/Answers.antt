-- The table of a trace, stage by stage. Assumes nothing.
use Rattle.std.proofs.Common.{sym, ◌∙◌}
use Rattle.axis.proofs.Table.{number_some, handed_on}
use Rattle.tracing.proofs.Accepting.{at_grid, at_densities, at_ends, at_lists}
use Rattle.tracing.proofs.accept.front.Goals as goal

pub returns-in_err-grid : goal.returns-in_err-grid
returns-in_err-grid c =
    let a = c.args in
    handed_on _ _ c.from_residual.ensures.1 ∙ at_grid a.m a.g a.r a.lent _ c.in_err-grid.ensures (number_some _)

pub returns-then-lent-voxels_of : goal.returns-then-lent-voxels_of
returns-then-lent-voxels_of c =
    let a = c.args in
    at_densities a.m a.g a.r a.lent (sym c.in_ok-grid.ensures) (λ e. c.if-lent-voxels_of.true (e ∙ sym c.voxels_of.ensures))

pub returns-in_err-ends : goal.returns-in_err-ends
returns-in_err-ends c =
    let a = c.args in
    handed_on _ _ c.from_residual-in_err-ends.ensures.1
    ∙ at_ends a.m a.g a.r a.lent (sym c.in_ok-grid.ensures) (c.if-lent-voxels_of.false ∙ c.voxels_of.ensures) _ c.in_err-ends.ensures (number_some _)

pub returns-then-lent : goal.returns-then-lent
returns-then-lent c =
    let a = c.args in
    at_lists a.m a.g a.r a.lent (sym c.in_ok-grid.ensures) (c.if-lent-voxels_of.false ∙ c.voxels_of.ensures) (sym c.in_ok-ends.ensures) c.if-lent.true
