-- `ilvoresta_place`: what the function of `ilvoresta` says of the same numbers, handed on.
use Rattle.ilvoresta.proofs.Again.{grid_again, ray_again}
use Rattle.ilvoresta_c.proofs.ilvoresta_place.Goals as goal

pub returns : goal.returns
returns c =
    let a = c.args in
    let f = c.ranges in
    let g = grid_again {nx = a.nx} {ny = a.ny} {nz = a.nz} {dx = a.dx} {dy = a.dy} {dz = a.dz} f.bx f.by f.bz in
    let r = ray_again f.px f.py f.pz f.qx f.qy f.qz in
    rw (← g, ← r) c.ilvoresta_place.ensures
