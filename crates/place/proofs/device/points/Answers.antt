-- The answer follows from what was found, and on a hit both fractions are places on the ray. Assumes nothing.
use Rattle.std.proofs.Common.{◌≡◌, refl, sym, ap, ◌∙◌}
use Rattle.axis.specs.declared.Limits.{Limits}
use Rattle.ray.specs.Axes.{Grid}
use Rattle.ray.specs.declared.Ray.{Ray}
use Rattle.line.specs.Raised.{Small}
use Rattle.place.specs.declared.Points.{Points}
use Rattle.place.specs.Deciding.{Crossing, crossing_of}
use Rattle.place.specs.Answers.{refusal_of, mark_code, points_of}
use Rattle.place.proofs.Found.{hit}
use Rattle.place.proofs.Placed.{enter_on, leave_on}
use Rattle.place.proofs.Pointed.{pointed, points_is}
use Rattle.place.proofs.Told.{mark_is}
use Rattle.place.proofs.device.points.Goals as goal

-- what was found, and the answer that follows
module _ (m : Limits) (g : Grid) (r : Ray) (small : Small m) {found : Crossing} (found_is : found ≡ crossing_of m g r) (a : Points) (a_is : a ≡ pointed r found) where
  value : a ≡ points_of m g r
  value = a_is ∙ ap (pointed r) found_is ∙ points_is m g r small

  code : mark_code a.mark ≡ refusal_of m g r
  code = ap (λ (x : Points). mark_code x.mark) value ∙ mark_is m g r

pub point_at-requires-clause-ends : goal.point_at-requires-clause-ends
point_at-requires-clause-ends c = let a = c.args in (hit a.m a.g a.r c.requires.small _ (sym (rw c.in-Ok-Some.field-0-is at c.in-Ok-Some.ensures))).ok.ends

pub point_at-requires-clause-on_ray : goal.point_at-requires-clause-on_ray
point_at-requires-clause-on_ray c = let a = c.args in enter_on (hit a.m a.g a.r c.requires.small _ (sym (rw c.in-Ok-Some.field-0-is at c.in-Ok-Some.ensures)))

pub point_at-requires-in-Ok-Some-clause-ends : goal.point_at-requires-in-Ok-Some-clause-ends
point_at-requires-in-Ok-Some-clause-ends c = let a = c.args in (hit a.m a.g a.r c.requires.small _ (sym (rw c.in-Ok-Some.field-0-is at c.in-Ok-Some.ensures))).ok.ends

pub point_at-requires-in-Ok-Some-clause-on_ray : goal.point_at-requires-in-Ok-Some-clause-on_ray
point_at-requires-in-Ok-Some-clause-on_ray c = let a = c.args in leave_on (hit a.m a.g a.r c.requires.small _ (sym (rw c.in-Ok-Some.field-0-is at c.in-Ok-Some.ensures)))

pub returns-in-Err-clause-value : goal.returns-in-Err-clause-value
returns-in-Err-clause-value c = let a = c.args in value a.m a.g a.r c.requires.small c.in-Err.ensures _ (rw c.from.ensures at c.unplaced.ensures)

pub returns-in-Err-clause-code : goal.returns-in-Err-clause-code
returns-in-Err-clause-code c = let a = c.args in code a.m a.g a.r c.requires.small c.in-Err.ensures _ (rw c.from.ensures at c.unplaced.ensures)

pub returns-in-Ok-None-clause-value : goal.returns-in-Ok-None-clause-value
returns-in-Ok-None-clause-value c = let a = c.args in value a.m a.g a.r c.requires.small (rw c.in-Ok-None.field-0-is at c.in-Ok-None.ensures) _ c.unplaced-in-Ok-None.ensures

pub returns-in-Ok-None-clause-code : goal.returns-in-Ok-None-clause-code
returns-in-Ok-None-clause-code c = let a = c.args in code a.m a.g a.r c.requires.small (rw c.in-Ok-None.field-0-is at c.in-Ok-None.ensures) _ c.unplaced-in-Ok-None.ensures

pub returns-in-Ok-Some-clause-value : goal.returns-in-Ok-Some-clause-value
returns-in-Ok-Some-clause-value c =
    let a = c.args in
    rw (c.point_at.ensures, c.point_at-in-Ok-Some.ensures) (value a.m a.g a.r c.requires.small (rw c.in-Ok-Some.field-0-is at c.in-Ok-Some.ensures) _ refl)

pub returns-in-Ok-Some-clause-code : goal.returns-in-Ok-Some-clause-code
returns-in-Ok-Some-clause-code c =
    let a = c.args in
    code a.m a.g a.r c.requires.small (rw c.in-Ok-Some.field-0-is at c.in-Ok-Some.ensures) _ refl
