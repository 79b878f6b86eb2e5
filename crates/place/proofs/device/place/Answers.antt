-- The answer follows from what was found. Assumes nothing.
use Rattle.std.proofs.Common.{◌≡◌, ap, ◌∙◌}
use Rattle.axis.specs.declared.Limits.{Limits}
use Rattle.ray.specs.Axes.{Grid}
use Rattle.ray.specs.declared.Ray.{Ray}
use Rattle.line.specs.Raised.{Small}
use Rattle.place.specs.Deciding.{Crossing, crossing_of}
use Rattle.place.specs.Answers.{place_of, told, told_of}
use Rattle.place.proofs.Placed.{placed, place_is}
use Rattle.place.proofs.Told.{told_is}
use Rattle.place.proofs.device.place.Goals as goal

-- what was found, and the answer that follows
module _ (m : Limits) (g : Grid) (r : Ray) (small : Small m) {found : Crossing} (found_is : found ≡ crossing_of m g r) where
  value : placed found ≡ place_of m g r
  value = ap placed found_is ∙ place_is m g r small

  numbers : told (placed found) ≡ told_of m g r
  numbers = ap told value ∙ told_is m g r

pub returns-in-Err-clause-value : goal.returns-in-Err-clause-value
returns-in-Err-clause-value c = let a = c.args in rw c.from.ensures (value a.m a.g a.r c.requires.small c.in-Err.ensures)

pub returns-in-Err-clause-numbers : goal.returns-in-Err-clause-numbers
returns-in-Err-clause-numbers c = let a = c.args in rw c.from.ensures (numbers a.m a.g a.r c.requires.small c.in-Err.ensures)

pub returns-in-Ok-None-clause-value : goal.returns-in-Ok-None-clause-value
returns-in-Ok-None-clause-value c = let a = c.args in value a.m a.g a.r c.requires.small (rw c.in-Ok-None.field-0-is at c.in-Ok-None.ensures)

pub returns-in-Ok-None-clause-numbers : goal.returns-in-Ok-None-clause-numbers
returns-in-Ok-None-clause-numbers c = let a = c.args in numbers a.m a.g a.r c.requires.small (rw c.in-Ok-None.field-0-is at c.in-Ok-None.ensures)

pub returns-in-Ok-Some-clause-value : goal.returns-in-Ok-Some-clause-value
returns-in-Ok-Some-clause-value c =
    let a = c.args in
    rw (c.nearest.ensures, c.nearest-in-Ok-Some.ensures) (value a.m a.g a.r c.requires.small (rw c.in-Ok-Some.field-0-is at c.in-Ok-Some.ensures))

pub returns-in-Ok-Some-clause-numbers : goal.returns-in-Ok-Some-clause-numbers
returns-in-Ok-Some-clause-numbers c =
    let a = c.args in
    rw (c.nearest.ensures, c.nearest-in-Ok-Some.ensures) (numbers a.m a.g a.r c.requires.small (rw c.in-Ok-Some.field-0-is at c.in-Ok-Some.ensures))
