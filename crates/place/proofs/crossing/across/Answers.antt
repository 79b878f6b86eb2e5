-- A check that refuses is the refusal; where both accept the scene is able, and what is found in it is found of the grid and the ray. Assumes nothing.
use Rattle.std.proofs.Common.{sym, ap, ◌∙◌, Ok}
use Rattle.std.proofs.lemmas.Result.{err_from_is_err_and}
use Rattle.place.specs.Deciding.{through_of}
use Rattle.place.proofs.Accepted.{accepted}
use Rattle.place.proofs.Found.{able, crossed, grid_refused, ends_refused, none_refused}
use Rattle.place.proofs.crossing.across.Goals as goal

pub returns-in_err-grid : goal.returns-in_err-grid
returns-in_err-grid c =
    let a = c.args in
    let out = err_from_is_err_and c.from_residual.result c.from_residual.ensures.1 in
    grid_refused a.m a.g a.r _ c.grid.ensures c.in_err-grid.was (rw out.2 at out.1)

pub returns-in_err-ends : goal.returns-in_err-ends
returns-in_err-ends c =
    let a = c.args in
    let out = err_from_is_err_and c.from_residual-in_err-ends.result c.from_residual-in_err-ends.ensures.1 in
    ends_refused a.m a.g a.r _ c.grid.ensures c.in_ok-grid.was c.ends.ensures c.in_err-ends.was (rw out.2 at out.1)

pub through-requires : goal.through-requires
through-requires c =
    let a = c.args in
    let none = none_refused a.m a.g a.r c.grid.ensures c.in_ok-grid.was c.ends.ensures c.in_ok-ends.was in
    rw c.scene_of.ensures (able a.m a.g a.r c.requires (accepted a.m a.g a.r none))

pub returns : goal.returns
returns c =
    let a = c.args in
    let none = none_refused a.m a.g a.r c.grid.ensures c.in_ok-grid.was c.ends.ensures c.in_ok-ends.was in
    ap Ok (c.through.ensures ∙ ap through_of c.scene_of.ensures) ∙ sym (crossed a.m a.g a.r none)
