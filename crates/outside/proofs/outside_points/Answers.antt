-- `outside_points`: the whole answer, at the grid and the ray that the numbers stand for.
use mathlib.Core.Path.{ap, ◌∙◌}
use mathlib.Core.List.{[], ◌∷◌}
use Rattle.place.specs.declared.Points.{Points}
use Rattle.place.specs.Answers.{mark_code}
use Rattle.ilvoresta.proofs.Again.{grid_again, ray_again}
use Rattle.outside.specs.Doors.{put, mark_of, floats_of}
use Rattle.outside.proofs.outside_points.Goals as goal

pub returns : goal.returns
returns c =
    let f = c.ranges in
    let g = c.grid_of-g.ensures ∙ grid_again f.bx f.by f.bz in
    let r = c.ray_of-r.ensures ∙ ray_again f.px f.py f.pz f.qx f.qy f.qz in
    let e = c.points-a.ensures.value in
    rw (← g, ← r) (record {
      code_is = c.code_in.ensures ∙ ap (λ (u : Points). mark_code u.mark) e;
      mark_now = c.put-2.ensures ∙ ap (λ n. put (n ∷ []) c.args.mark.now) (c.mark_of.ensures ∙ ap (λ (u : Points). mark_of u.mark) e);
      floats_now = c.put.ensures ∙ ap (λ new. put new c.args.floats.now) (c.floats_of.ensures ∙ ap (λ (u : Points). floats_of u) e);
    })
