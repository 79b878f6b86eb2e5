-- The row that is read stands behind the densities that were filled. Assumes nothing.
use Rattle.std.proofs.Common.{arith, ◌+◌, ◌∙◌, sym, ◌≡◌, ap, rules}
use Rattle.std.specs.Prelude.{Some}
use Rattle.load.specs.declared.refusal.Bad.TheVariants.{Number}
use Rattle.load.specs.Loaded.{loaded_of}
use Rattle.load.specs.Line.{dens_read}
use Rattle.load.proofs.Fields.{row_read, row_in}
use Rattle.load.proofs.Loading.{its_sides, line_fits, dens_put}
use Rattle.load.proofs.dens.take_dens.Goals as goal

pub returns-clause-reading : goal.returns-clause-reading
returns-clause-reading c =
    let st = c.args.st in
    let ds = c.args.densities.now in
    let fits = line_fits c.requires.0 c.requires.1 c.requires.2 in
    let copied : c.copy_from_slice.new.self ≡ c.numbers.new.out = c.copy_from_slice.ensures.after in
    let read = row_in _ _ st.grid.x.n _ (omega (arith, (its_sides c.requires.0 c.requires.1).x.1)) c.numbers.auto.out (row_read c.numbers.result Number c.numbers.ensures (sym c.ok_or.ensures.value ∙ c.in_ok-ok_or.was)) in
    rw copied (dens_put st ds c.numbers.new.out (omega (arith, fits)) read.0)
    ∙ ap (dens_read (loaded_of st ds)) (sym read.1)
