-- The quotient at the middle of the stretch is the voxel that holds its start. Assumes nothing.
use Rattle.std.proofs.Common.{ℕ, ◌≡◌, ◌+◌, ◌*◌, ◌^◌, ◌≤◌, ◌<◌, ◌∙◌, arith}
use Rattle.line.specs.declared.line.Line.{Line}
use Rattle.line.specs.Scene.{Sized, Window, leaves_at, Within}
use Rattle.line.specs.Beyond.{Stretch}
use Rattle.line.specs.Quotient.{spot_of}
use Rattle.line.proofs.Sizes.{leave_ticks}
use Rattle.line.proofs.Rounded.{voxel_of, capped}
use Rattle.line.proofs.Middle.{middle_low, middle_down, middle_is}
use Rattle.line.proofs.line.Line.index.Goals as goal

-- the voxel that the stretch lies in
module _ (a : Line) (c from next first : ℕ) (sized : Sized a × (c ≤ 2 ^ 40) × Window a c from × (first ≤ a.n)) (stretch : Stretch a c from next) where
  abbrev i : ℕ
  i = (voxel_of a c from sized.2 sized.0).0

  within : Within a c from i
  within = (voxel_of a c from sized.2 sized.0).1

  until : next ≤ leaves_at a c i (i + 1)
  until = stretch.clear i within

  twice_few : from + next ≤ 2 ^ 61
  twice_few = omega (arith, stretch.some, until, leave_ticks a sized.0 {i = i} {j = i + 1} (omega arith) (omega (arith, within.inside)) sized.1)

  -- what the division asks of the middle
  down : a.q < a.p → from + next ≤ a.p * (2 * c)
  down = middle_down a sized.0 c from next within stretch.some until

  low : a.b * (2 * c) ≤ spot_of a (2 * c) (from + next)
  low = middle_low a sized.0 c from next within stretch.some until

  is : capped a (2 * c) (spot_of a (2 * c) (from + next)) ≡ i
  is = middle_is a sized.0 c from next within stretch.some until

pub overflow_add-from : goal.overflow_add-from
overflow_add-from c = let a = c.args in record { fits = omega (arith, twice_few a.self a.c a.from a.next a.first c.requires.sized c.requires.stretch) }

pub spot-middle-requires-clause-sized : goal.spot-middle-requires-clause-sized
spot-middle-requires-clause-sized c =
    let a = c.args in
    (c.requires.sized.0, omega (arith, c.requires.sized.1), twice_few a.self a.c a.from a.next a.first c.requires.sized c.requires.stretch)

pub spot-middle-requires-clause-t_bound : goal.spot-middle-requires-clause-t_bound
spot-middle-requires-clause-t_bound c = let a = c.args in down a.self a.c a.from a.next a.first c.requires.sized c.requires.stretch

pub quotient_near-i-requires : goal.quotient_near-i-requires
quotient_near-i-requires c =
    let a = c.args in
    let at_least = low a.self a.c a.from a.next a.first c.requires.sized c.requires.stretch in
    (c.requires.sized.0, omega (arith, c.requires.sized.2.some), omega (arith, c.requires.sized.1), rw c.spot-middle.ensures.value at_least, omega (arith, c.saturating_sub-near.ensures, c.requires.sized.3))

pub returns : goal.returns
returns c =
    let a = c.args in
    let e : c.min.result ≡ i a.self a.c a.from a.next a.first c.requires.sized c.requires.stretch =
    c.min.ensures ∙ rw (c.quotient_near-i.ensures, c.spot-middle.ensures.value) (is a.self a.c a.from a.next a.first c.requires.sized c.requires.stretch) in
    rw e (within a.self a.c a.from a.next a.first c.requires.sized c.requires.stretch)
