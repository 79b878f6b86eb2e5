-- A GRID line, whatever the densities are. Assumes nothing.
use Rattle.std.proofs.Common.{arith}
use Rattle.std.proofs.lemmas.Grind.{common_steps}
use Rattle.load.specs.Line.{line_read, numbers_read}
use Rattle.load.proofs.line.take_line.Goals as goal

pub returns-in_err-take_grid-in-Grid-clause-reading : goal.returns-in_err-take_grid-in-Grid-clause-reading
unfolding line_read numbers_read
returns-in_err-take_grid-in-Grid-clause-reading c = grind (arith, common_steps, c.take_grid.ensures.reading c.args.densities.now)

pub returns-in_ok-take_grid-in-Grid-clause-reading : goal.returns-in_ok-take_grid-in-Grid-clause-reading
unfolding line_read numbers_read
returns-in_ok-take_grid-in-Grid-clause-reading c = grind (arith, common_steps, c.take_grid.ensures.reading c.args.densities.now)
