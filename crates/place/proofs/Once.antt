-- Two answers allowed by the promise of a public call of this crate are equal. Assumes nothing.
use mathlib.Core.Path.{◌≡◌}
use Rattle.axis.specs.declared.Limits.{Limits}
use Rattle.axis.proofs.Once.{once}
use Rattle.ray.specs.Axes.{Grid}
use Rattle.ray.specs.declared.Ray.{Ray}
use Rattle.place.specs.declared.Place.{Place}
use Rattle.place.specs.declared.Points.{Points}
use Rattle.place.specs.Answers.{place_of, points_of}

pub place_once : (m : Limits) (g : Grid) (r : Ray) (a b : Place) → a ≡ place_of m g r → b ≡ place_of m g r → a ≡ b
place_once m g r a b = once

pub points_once : (m : Limits) (g : Grid) (r : Ray) (a b : Points) → a ≡ points_of m g r → b ≡ points_of m g r → a ≡ b
points_once m g r a b = once
