-- One coordinate of a place on the ray: it is the same at equal fractions, and it is between the planes of an accepted
-- axis that the place is between. Assumes nothing.
use Prim.Native.Nat.{ℕ, ◌*◌, ◌≤◌, ◌<◌}
use mathlib.Core.Path.{◌≡◌, sym, ap, ◌∙◌, subst}
use mathlib.Core.Bool.{true}
use native.Mathlib.Nat.{mul_right_comm}
use lib.IntN.{ℤ, pos, ◌+ℤ◌, ◌-ℤ◌, ◌*ℤ◌}
use lib.Dec.{T}
use lib.Ieee.{binary64, le, of_int}
use Rattle.axis.specs.declared.Axis.{Axis}
use Rattle.axis.specs.Leg.{Leg, planes}
use Rattle.axis.specs.declared.Limits.{Limits}
use Rattle.axis.specs.Codes.{inside}
use Rattle.axis.proofs.Shift.{shift, shift_add, low_add}
use Rattle.axis.proofs.Bounds.{inside_low}
use Rattle.line.specs.declared.line.Line.{Line}
use Rattle.line.specs.Scene.{plane}
use Rattle.line.specs.Raised.{line_of}
use Rattle.place.specs.Ratio.{Ratio}
use Rattle.place.specs.Answers.{coordinate}
use Rattle.place.proofs.Deciding.{Is, up_to_one}
use Rattle.place.proofs.Difference.{told, diff_times, diff_order, point_is}
use Rattle.place.proofs.Signed.{nearest_same, at_least, at_most, nearest_plain}
use Rattle.place.proofs.Shown.{ZeroPlain}
use Rattle.place.proofs.Within.{spot, Between, same_spot}

-- the exact value of a coordinate, times d
abbrev pub exactly : Leg → ℕ → ℕ → ℤ
exactly l t d = l.p *ℤ pos d +ℤ pos t *ℤ (l.q -ℤ l.p)

-- one leg
module _ (m : Limits) (l : Leg) (in_both : (inside m l.p ≡ true) × (inside m l.q ≡ true)) where
  abbrev k : ℕ
  k = m.coord

  abbrev p : ℕ
  p = shift k l.p

  abbrev q : ℕ
  q = shift k l.q

  pub exactly_is : (t d : ℕ) → t ≤ d → exactly l t d ≡ pos (spot p q t d) -ℤ pos (k * d)
  exactly_is = point_is k l (inside_low m l.p in_both.0) (inside_low m l.q in_both.1)

  exactly_times : (t d c : ℕ) → t ≤ d → exactly l t d *ℤ pos c ≡ pos (spot p q t d * c) -ℤ pos (k * d * c)
  exactly_times t d c h = ap (λ (z : ℤ). z *ℤ pos c) (exactly_is t d h) ∙ diff_times (spot p q t d) (k * d) c

  -- at a/b as at t/d, where the two are equal
  pub coordinate_is : (a b t d : ℕ) → 0 < b → 0 < d → t ≤ d → a * d ≡ t * b → coordinate l a b ≡ coordinate l t d
  coordinate_is a b t d B D h e =
      nearest_same (exactly l a b) (exactly l t d) b d B D
      (exactly_times a b d (up_to_one a b t d D e h)
      ∙ (λ i. pos (same_spot p q t d a b e i) -ℤ pos (mul_right_comm k b d i))
      ∙ sym (exactly_times t d b h))

  pub coordinate_plain : (f : Ratio) (t d : ℕ) → t ≤ d → Is f t d → ZeroPlain (coordinate l t d)
  coordinate_plain f t d h F =
      subst ZeroPlain (coordinate_is f.num f.den t d F.at.den_pos F.at.d_pos h F.at.at)
      (nearest_plain (exactly l f.num f.den) f.den F.at.den_pos F.short.den_size)

  -- and an axis against it
  module _ (a : Axis) (near : inside m a.b ≡ true) (t d : ℕ) (h : t ≤ d) (D : 0 < d) where
    abbrev x : Line
    x = line_of m a l.p l.q

    plane_is : (j : ℕ) → (planes a).at j *ℤ pos d ≡ pos (plane x j * d) -ℤ pos (k * d)
    plane_is j =
        let low = inside_low m a.b near in
        ap (λ (z : ℤ). z *ℤ pos d) (told k ((planes a).at j) (low_add k a.b (j * a.d) low))
        ∙ diff_times (shift k ((planes a).at j)) k d
        ∙ ap (λ (y : ℕ). pos (y * d) -ℤ pos (k * d)) (shift_add k a.b (j * a.d) low)

    pub planes_hold : Between (plane x 0) (plane x x.n) p q t d
        → T (le (of_int binary64 ((planes a).at 0)) (coordinate l t d)) × T (le (coordinate l t d) (of_int binary64 ((planes a).at a.n)))
    planes_hold b = (
      at_least ((planes a).at 0) (exactly l t d) d D (diff_order _ _ (k * d) (plane_is 0) (exactly_is t d h) b.0),
      at_most (exactly l t d) ((planes a).at a.n) d D (diff_order _ _ (k * d) (exactly_is t d h) (plane_is a.n) b.1),
    )
