-- `outside_append`: the whole answer, at the grid and the ray that the numbers stand for.
use mathlib.Core.Path.{ap, ◌∙◌}
use Rattle.tracing.specs.declared.Trace.{Trace}
use Rattle.ilvoresta.proofs.Again.{grid_again, ray_again}
use Rattle.ilvoresta.specs.Entry.{six_of}
use Rattle.outside.specs.Doors.{put}
use Rattle.outside.proofs.outside_append.Goals as goal

pub returns : goal.returns
returns c =
    let f = c.ranges in
    let g = c.grid_of-g.ensures ∙ grid_again f.bx f.by f.bz in
    let r = c.ray_of-r.ensures ∙ ray_again f.px f.py f.pz f.qx f.qy f.qz in
    let t = c.append-t.ensures in
    rw (← g, ← r) (record {
      code_is = ap (λ (u : Trace). u.code) t.answer;
      voxels_now = t.voxels_now;
      parts_now = t.parts_now;
      answer_now = c.put.ensures ∙ ap (λ new. put new c.args.answer.now) (c.six_of.ensures ∙ ap (λ (u : Trace). six_of u) t.answer);
    })
