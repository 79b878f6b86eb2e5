-- RULES 8: places and points. Definitions only. Assumes nothing.
use Rattle.std.specs.Prelude.{ℕ, suc, Bool, true, false, ◌&&◌, not, cond, ◌++◌, ℤ, pos, negsuc, ◌+ℤ◌, ◌-ℤ◌, ◌*ℤ◌, eqb, Float}
use Rattle.std.specs.Float.{fin, binary64}
use Rattle.std.specs.Float.Ieee.{round}
use Rattle.axis.specs.Leg.{Leg}
use Rattle.axis.specs.declared.Limits.{Limits}
use Rattle.axis.specs.Codes.{first}
use Rattle.ray.specs.Axes.{Grid}
use Rattle.ray.specs.declared.Ray.{Ray}
use Rattle.ray.specs.declared.axes.Side.TheVariants.{X, Y, Z}
use Rattle.ray.specs.Length.{leg, d_of, volume, array, start, stop, misses}
use Rattle.ray.specs.Codes.{grid_rows, end_rows}
use Rattle.place.specs.declared.Place.{Place}
use Rattle.place.specs.declared.Place.TheVariants.{Refused, Miss, Hit}
use Rattle.place.specs.declared.Point.{Point}
use Rattle.place.specs.declared.Points.{Points}
use Rattle.place.specs.declared.Mark.{Mark}
use Rattle.place.specs.declared.Mark.TheVariants as mark

-- the float nearest z / d
abbrev pub nearest : ℤ → ℕ → Float
nearest (pos n) d = round binary64 false n d
nearest (negsuc n) d = round binary64 true (suc n) d

-- RULES 8: the codes of grid and ends
abbrev pub refusal_of : Limits → Grid → Ray → ℕ
refusal_of m g r = first (grid_rows m g ++ end_rows m r)

-- RULES 8: the floats nearest αmin and αmax
abbrev pub enter_of : Grid → Ray → Float
enter_of g r = round binary64 false (start r (array (volume g))) (d_of r)

abbrev pub leave_of : Grid → Ray → Float
leave_of g r = round binary64 false (stop r (array (volume g))) (d_of r)

-- RULES 8: the place call, αmin and αmax each rounded once
unfoldable pub place_of : Limits → Grid → Ray → Place
place_of m g r = cond (eqb (refusal_of m g r) 0) (cond (misses (volume g) r) Miss (Hit (enter_of g r) (leave_of g r))) (Refused (refusal_of m g r))

-- positive zero
abbrev pub zero : Float
zero = fin false 0 (pos 0)

-- RULES 8, the place call's answer in numbers: a refusal is its code and zeros, a miss 0 and zeros, a hit 0 and its two floats
pub record Told : Type 0 where
  pub code : ℕ
  pub enter : Float
  pub leave : Float

abbrev pub told : Place → Told
told (Refused c) = record { code = c; enter = zero; leave = zero }
told Miss = record { code = 0; enter = zero; leave = zero }
told (Hit enter leave) = record { code = 0; enter = enter; leave = leave }

-- and what these numbers are: the floats on a hit only
abbrev pub told_of : Limits → Grid → Ray → Told
told_of m g r =
    let hit : Bool = eqb (refusal_of m g r) 0 && not (misses (volume g) r) in
    record { code = refusal_of m g r; enter = cond hit (enter_of g r) zero; leave = cond hit (leave_of g r) zero }

-- RULES 8, the number of the point call's mark, beside which the six floats stand: a refusal's code, and 0 on a miss and on a hit
abbrev pub mark_code : Mark → ℕ
mark_code (mark.Refused c) = c
mark_code mark.Miss = 0
mark_code mark.Hit = 0

-- RULES 8: equation (2) at α = t / d, rounded once
abbrev pub coordinate : Leg → ℕ → ℕ → Float
coordinate l t d = nearest (l.p *ℤ pos d +ℤ pos t *ℤ (l.q -ℤ l.p)) d

abbrev pub point_at : Ray → ℕ → ℕ → Point
point_at r t d = record { x = coordinate (leg r X) t d; y = coordinate (leg r Y) t d; z = coordinate (leg r Z) t d }

-- RULES 8: no points: six times +0, beside a mark
abbrev pub nowhere : Mark → Points
nowhere k =
    let p : Point = record { x = zero; y = zero; z = zero } in
    record { mark = k; enter = p; leave = p }

-- RULES 8: the point call
unfoldable pub points_of : Limits → Grid → Ray → Points
points_of m g r =
    cond (eqb (refusal_of m g r) 0)
    (cond (misses (volume g) r) (nowhere mark.Miss)
    (record { mark = mark.Hit; enter = point_at r (start r (array (volume g))) (d_of r); leave = point_at r (stop r (array (volume g))) (d_of r) }))
    (nowhere (mark.Refused (refusal_of m g r)))
