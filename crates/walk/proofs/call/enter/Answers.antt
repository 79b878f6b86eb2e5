-- Where it comes to filling, there is room: as much as always suffices, or as the count says. The search finds this too, and the like of the
-- other list; it is written out so that must-fail/one_short.edit is refused with the numbers at which it fails. Assumes nothing.
use Rattle.std.proofs.Common.{◌≤◌, length, arith}
use Rattle.walk.specs.Model.{entries}
use Rattle.walk.proofs.call.enter.Goals.{then-room-most+else-room-n, else-room-most}
use Rattle.walk.proofs.call.enter.Goals as goal

pub fill-requires-clause-voxels_room : goal.fill-requires-clause-voxels_room
fill-requires-clause-voxels_room c =
    let room : length (entries c.args.p.strides c.args.to c.args.p.walk) ≤ c.args.room = elim c.if-room-most.branch [
      | then-room-most+else-room-n w ↦ omega (arith, w.count-n.ensures, w.if-room-n.false)
      | else-room-most w ↦ omega (arith, c.requires.enough, w.if-room-most.false)
    ] in
    omega (arith, room, c.requires.room_in_bounds.0)
