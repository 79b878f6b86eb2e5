-- Both ends are within the limits on each axis. Assumes nothing.
use Rattle.std.proofs.Common.{rules}
use Rattle.ray.specs.declared.axes.Side.TheVariants.{Y, Z}
use Rattle.ray.proofs.Accepted.{ends_inside}
use Rattle.place.proofs.coordinate.point_at.Goals as goal

pub coordinate_at-requires-2-clause-both_inside : goal.coordinate_at-requires-2-clause-both_inside
coordinate_at-requires-2-clause-both_inside c = search (rules, ends_inside c.args.m c.args.r c.requires.ends Y)

pub coordinate_at-requires-3-clause-both_inside : goal.coordinate_at-requires-3-clause-both_inside
coordinate_at-requires-3-clause-both_inside c = search (rules, ends_inside c.args.m c.args.r c.requires.ends Z)
