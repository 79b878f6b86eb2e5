-- `ilvoresta_place`: the place at the grid and the ray that the numbers stand for.
use mathlib.Core.Path.{◌∙◌}
use Rattle.ilvoresta.proofs.Again.{grid_again, ray_again}
use Rattle.ilvoresta.proofs.ilvoresta_place.Goals as goal

pub returns : goal.returns
returns c =
    let f = c.ranges in
    let g = c.grid_of-g.ensures ∙ grid_again f.bx f.by f.bz in
    let r = c.ray_of-r.ensures ∙ ray_again f.px f.py f.pz f.qx f.qy f.qz in
    rw (← g, ← r) c.place_into.ensures
