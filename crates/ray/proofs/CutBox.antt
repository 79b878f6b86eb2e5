-- A ray cut at a point of whole coordinates, and one box: what the two pieces have of it, in units of the ray's own D. Assumes nothing.
use Prim.Native.Nat.{ℕ, ◌+◌, ◌-◌, ◌*◌, ◌<◌, min}
use mathlib.Core.Path.{◌≡◌, sym, ap, ap₂, ◌∙◌}
use mathlib.Core.Bool.{true, false}
use mathlib.Core.Logic.{inl, inr}
use native.Mathlib.Nat.{zero-sub, sub-eq-zero_of_le, sub-pos_iff_lt, min-eq_left, min-eq_right, zero-mul, min-zero, mul_assoc, mul_comm, mul_left_comm, mul-pos, add-mul, mul-lt-mul_of_pos_right, lt_of_mul-lt-mul_right, eq_of_mul-eq-mul_left}
use native.Mathlib.Omega.{arith}
use native.Mathlib.Decide.{dec_le}
use lib.IntN.{ℤ, pos, ◌-ℤ◌, ◌*ℤ◌}
use Rattle.axis.specs.Leg.{moving, factor, Slab}
use Rattle.ray.specs.Axes.{End}
use Rattle.ray.specs.declared.Ray.{Ray}
use Rattle.ray.specs.Side.{of_side}
use Rattle.ray.specs.declared.axes.Side.{Side}
use Rattle.ray.specs.declared.axes.Side.TheVariants.{X, Y, Z}
use Rattle.ray.specs.Length.{leg, d_of, rest, holds, start, stop}
use Rattle.ray.proofs.Through.{Rises, rises_back, min_cap_rises, times_rises, sub_times, min_rises}
use Rattle.ray.proofs.Tests.{tested}
use Rattle.ray.proofs.Way.{passed, factor_pos}
use Rattle.ray.proofs.Capped.{on_passed, d_side, rest_pos, begin, part, part_held, part_not_held, Met, met, Alike, begin_as, stop_as}
use Rattle.ray.proofs.CutLeg.{CutAt, LegPiece, LegPieces, pieces}

abbrev pub coordinate : End → Side → ℤ
coordinate = of_side

-- M is P + α(Q - P) with α, the fraction n/d, strictly between 0 and 1 (equation (2))
pub record Between (r : Ray) (m : End) : Type 0 where
  pub n : ℕ
  pub d : ℕ
  pub some : 0 < n
  pub less : n < d
  pub at : (s : Side) → pos d *ℤ (coordinate m s -ℤ (leg r s).p) ≡ pos n *ℤ ((leg r s).q -ℤ (leg r s).p)

-- P to M, and M to Q
abbrev pub near : Ray → End → Ray
near r m = record { p = r.p; q = m }

abbrev pub far : Ray → End → Ray
far r m = record { p = m; q = r.q }

swap : (x u a w : ℕ) → x * u * (a * w) ≡ x * w * (a * u)
swap x u a w = simp (mul_assoc, mul_comm, mul_left_comm)

-- a stretch from b to e is what lies of it before c and what lies after
split_at : (c b e : ℕ) → e - b ≡ min c e - min c b + (e - c - (b - c))
split_at c b e = elim (dec_le b c) [ yes h ↦ rw (min-eq_right h, sub-eq-zero_of_le h) (omega arith) | no h ↦ rw (min-eq_left {n = c} {m = b} (omega arith)) (omega arith) ]

scaled : (e b c e' b' d : ℕ) → e * c ≡ e' * d → b * c ≡ b' * d → (e - b) * c ≡ (e' - b') * d
scaled e b c e' b' d h k = sub_times e b c ∙ ap₂ ◌-◌ h k ∙ sym (sub_times e' b' d)

pub scaled_order : (b e c b' e' d : ℕ) → 0 < c → b * c ≡ b' * d → e * c ≡ e' * d → b < e → b' < e'
scaled_order b e c b' e' d hc hb he l = lt_of_mul-lt-mul_right d (omega (arith, mul-lt-mul_of_pos_right {m = b} {n = e} {k = c} l hc))

weighed : (p x y pn pf dn df : ℕ) → p ≡ x + y → pn ≡ x * dn → pf ≡ y * df → p * (dn * df) ≡ pn * df + pf * dn
weighed p x y pn pf dn df hp hn hf =
    rw (hp, hn, hf, add-mul x y (dn * df)) (ap₂ ◌+◌ (sym (mul_assoc x dn df)) (ap (λ (t : ℕ). y * t) (mul_comm dn df) ∙ sym (mul_assoc y df dn)))

-- ---- one piece

-- t is a piece of the ray r: where r has come to x, in units of its D, t has come to `of x` of its own size
pub record Piece (of : ℕ → ℕ) (r t : Ray) : Type 0 where
  pub rises : Rises of
  pub none : of 0 ≡ 0
  pub one : Side → ℕ → ℕ
  pub side : (s : Side) → LegPiece (one s) (leg r s) (leg t s)
  pub scale : (s : Side) → moving (leg r s) ≡ true → (x : ℕ) → of (x * rest r s) ≡ one s x * rest r s

module _ {of : ℕ → ℕ} {r t : Ray} (piece : Piece of r t) where
  holds_piece : (b : Side → Slab) → holds t b ≡ holds r b
  holds_piece b = rw ((piece.side X).holds (b X), (piece.side Y).holds (b Y), (piece.side Z).holds (b Z))

  module _ (s : Side) (moves : moving (leg r s) ≡ true) where
    pub size_side : of (d_of r) ≡ factor (leg t s) * rest r s
    size_side = ap of (d_side r s) ∙ piece.scale s moves (factor (leg r s)) ∙ ap (λ (x : ℕ). x * rest r s) (sym ((piece.side s).length moves))

    pub size_pos : 0 < of (d_of r)
    size_pos = rw size_side (mul-pos (factor_pos (leg t s)) (rest_pos r s))

  alike : Alike (λ x. x * of (d_of r)) (λ x. of x * d_of t) r t
  alike = record {
    moves = λ s. (piece.side s).moves;
    g_rises = times_rises (of (d_of r));
    h_rises = λ x y l. times_rises (d_of t) (of x) (of y) (piece.rises x y l);
    none = rw (piece.none, zero-mul (of (d_of r)), zero-mul (d_of t));
    all = mul_comm (d_of t) (of (d_of r));
    each = λ s c h. rw (on_passed t s c, on_passed r s c, size_side s h, d_side t s, piece.scale s h (passed (leg r s) c), (piece.side s).passes h c)
        (swap (piece.one s (passed (leg r s) c)) (rest t s) (factor (leg t s)) (rest r s));
  }

  -- what it has of a box
  module _ (b : Side → Slab) where
    part_piece : holds r b ≡ true → part t b * of (d_of r) ≡ (of (stop r b) - of (begin r b)) * d_of t
    part_piece h = rw (part_held t b (holds_piece b ∙ h)) (scaled _ _ _ _ _ _ (stop_as alike b) (begin_as alike b))

    part_none : holds r b ≡ false → part t b * of (d_of r) ≡ 0 * d_of t
    part_none h = rw (part_not_held t b (holds_piece b ∙ h), zero-mul (of (d_of r)), zero-mul (d_of t))

    -- a box that the piece meets
    pub record PieceMet : Type 0 where
      pub some : 0 < part r b
      pub ahead : of (start r b) < of (stop r b)
      pub at : start t b * of (d_of r) ≡ of (start r b) * d_of t

    pub piece_met : (s : Side) → moving (leg r s) ≡ true → 0 < part t b → PieceMet
    piece_met s moves h =
        let n : Met t b = met t b h in
        let l : of (begin r b) < of (stop r b) = scaled_order _ _ _ _ _ _ (size_pos s moves) (begin_as alike b) (stop_as alike b) (rw n.begins n.some) in
        let ahead : begin r b < stop r b = rises_back piece.rises (begin r b) (stop r b) l in
        let some : 0 < part r b = rw (part_held r b (sym (holds_piece b) ∙ n.held)) (sub-pos_iff_lt.1 ahead) in
        let w : Met r b = met r b some in
        record { some = some; ahead = rw w.begins at l; at = rw (← w.begins, ← n.begins) (begin_as alike b) }

-- ---- both

pub cut : (r : Ray) (m : End) (between : Between r m) (s : Side) → CutAt between.n between.d (leg r s) (coordinate m s)
cut r m between s = record { some = between.some; less = between.less; at = between.at s }

module _ {r : Ray} {m : End} (between : Between r m) where
  pub sides : (s : Side) → LegPieces between.n between.d (leg r s) (leg (near r m) s) (leg (far r m) s)
  sides X = pieces (cut r m between X)
  sides Y = pieces (cut r m between Y)
  sides Z = pieces (cut r m between Z)

  -- the place of M on a moving side, in units of D; it is the same on each
  module _ (o : Side) (moves : moving (leg r o) ≡ true) where
    unfoldable pub up_to : ℕ
    up_to = factor (leg (near r m) o) * rest r o

    cut_share : (s : Side) → moving (leg r s) ≡ true → between.d * (factor (leg (near r m) s) * rest r s) ≡ between.n * d_of r
    cut_share s h =
        sym (mul_assoc between.d (factor (leg (near r m) s)) (rest r s))
        ∙ ap (λ (x : ℕ). x * rest r s) ((sides s).share h)
        ∙ mul_assoc between.n (factor (leg r s)) (rest r s)
        ∙ ap (λ (x : ℕ). between.n * x) (sym (d_side r s))

    up_to_side : (s : Side) → moving (leg r s) ≡ true → up_to ≡ factor (leg (near r m) s) * rest r s
    unfolding up_to
    up_to_side s h =
        eq_of_mul-eq-mul_left between.d (omega (arith, between.less)) (factor (leg (near r m) o) * rest r o) (factor (leg (near r m) s) * rest r s)
        (cut_share o moves ∙ sym (cut_share s h))

    pub near_piece : Piece (min up_to) r (near r m)
    near_piece = record {
      rises = min_cap_rises up_to;
      none = min-zero up_to;
      one = λ s. min (factor (leg (near r m) s));
      side = λ s. (sides s).near;
      scale = λ s h x. rw (up_to_side s h) (min_rises (λ x. x * rest r s) (times_rises (rest r s)) (factor (leg (near r m) s)) x);
    }

    pub far_piece : Piece (λ x. x - up_to) r (far r m)
    far_piece = record {
      rises = λ x y l. omega arith;
      none = zero-sub up_to;
      one = λ s x. x - factor (leg (near r m) s);
      side = λ s. (sides s).far;
      scale = λ s h x. rw (up_to_side s h) (sym (sub_times x (factor (leg (near r m) s)) (rest r s)));
    }

    pub parts : (b : Side → Slab)
        → part r b * (d_of (near r m) * d_of (far r m)) ≡ part (near r m) b * min up_to (d_of r) * d_of (far r m) + part (far r m) b * (d_of r - up_to) * d_of (near r m)
    parts b = elim (tested (holds r b)) [
      | inl h ↦ weighed _ _ _ _ _ (d_of (near r m)) (d_of (far r m)) (part_held r b h ∙ split_at up_to (begin r b) (stop r b)) (part_piece near_piece b h) (part_piece far_piece b h)
      | inr h ↦ weighed _ 0 0 _ _ (d_of (near r m)) (d_of (far r m)) (part_not_held r b h) (part_none near_piece b h) (part_none far_piece b h)
    ]

module _ (r : Ray) (m : End) (between : Between r m) where
  pub moving_near : (s : Side) → moving (leg (near r m) s) ≡ moving (leg r s)
  moving_near s = (sides between s).near.moves

  pub moving_far : (s : Side) → moving (leg (far r m) s) ≡ moving (leg r s)
  moving_far s = (sides between s).far.moves
