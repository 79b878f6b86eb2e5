-- The model's entries, turn by turn, and what a loop that counts them keeps. Assumes nothing.
use Rattle.std.proofs.Common.{◌≡◌, ℕ, zero, suc, ◌+◌, ◌-◌, ◌%◌, ◌^◌, ◌<◌, ◌≤◌, Bool, true, false, cond, eqb, List, [], ◌∷◌, length, refl, ap, ◌∙◌, arith, eq-eqb, ne_eqb, le-leb}
use native.Mathlib.Decide.{dec_le, ℕ_discrete}
use borrow.Author.Tests.{lt-leb}
use Rattle.ray.specs.declared.axes.Side.{Side}
use Rattle.ray.specs.declared.axes.Side.TheVariants.{X, Y, Z}
use Rattle.line.proofs.Three.{each, least_le, lt_least}
use Rattle.walk.specs.declared.steps.Walk.{Walk}
use Rattle.walk.specs.declared.steps.Strides.{Strides}
use Rattle.walk.specs.Model.{leave_of, soonest, next, further, stepped, Entry, entry, go, entries, Forward}

-- whether an axis is left at u, or later
abbrev At : Bool → ℕ → ℕ → Type 0
At true leave u = leave ≡ u
At false leave u = u < leave

at_is : (b : Bool) (leave u : ℕ) → At b leave u → eqb leave u ≡ b
at_is true leave u h = eq-eqb leave u h
at_is false leave u h = ne_eqb leave u (omega arith)

-- the turn, once it is known which axes are left at u
pub step_is_lem : (s : Strides) (w : Walk) (u : ℕ) (bx by bz : Bool) → soonest w ≡ u → At bx w.leave.x u → At by w.leave.y u → At bz w.leave.z u
    → ◌≡◌ {A = Walk} (record {
      leave = record { x = cond bx (next s w X) w.leave.x; y = cond by (next s w Y) w.leave.y; z = cond bz (next s w Z) w.leave.z };
      v = let vx : ℕ = cond bx ((w.v + s.jump.x) % 2 ^ 64) w.v in let vy : ℕ = cond by ((vx + s.jump.y) % 2 ^ 64) vx in cond bz ((vy + s.jump.z) % 2 ^ 64) vy;
      t = u;
    }) (stepped s w)
unfolding stepped
step_is_lem s w u bx by bz e ex ey ez = rw (e, at_is bx w.leave.x u ex, at_is by w.leave.y u ey, at_is bz w.leave.z u ez) refl

pub step_tick : (s : Strides) (w : Walk) → (stepped s w).t ≡ soonest w
unfolding stepped
step_tick s w = refl

pub step_leave : (s : Strides) (w : Walk) (o : Side) → leave_of (stepped s w) o ≡ further s w (soonest w) o
unfolding stepped
step_leave s w = each _ refl refl refl

module _ {s : Strides} {to : ℕ} {w : Walk} (f : Forward s to w) where
  further_later : (o : Side) → soonest w < further s w (soonest w) o
  further_later o =
      let k = least_le (leave_of w) o in
      let some = f.steps_some o in
      elim (ℕ_discrete (leave_of w o) (soonest w)) [ yes e ↦ rw (eq-eqb (leave_of w o) (soonest w) e) (omega arith) | no e ↦ rw (ne_eqb (leave_of w o) (soonest w) e) (omega arith) ]

  further_size : soonest w < to → (o : Side) → further s w (soonest w) o ≤ 2 ^ 61
  further_size h o = elim (ℕ_discrete (leave_of w o) (soonest w)) [
    | yes e ↦ rw (eq-eqb (leave_of w o) (soonest w) e) (omega (arith, f.steps_size o, f.to_size))
    | no e ↦ rw (ne_eqb (leave_of w o) (soonest w) e) (f.leaves_size o)
  ]

  pub next_tick : {next : Walk} → next ≡ stepped s w → next.t ≡ soonest w
  next_tick e = ap (λ (x : Walk). x.t) e ∙ step_tick s w

  -- the turn's tick lies ahead, and so does every tick after it
  pub forward_on : soonest w < to → Forward s to (stepped s w)
  forward_on h = record {
    steps_some = f.steps_some;
    steps_size = f.steps_size;
    leaves_size = λ o. rw (step_leave s w o) (further_size h o);
    to_size = f.to_size;
    later = rw (step_tick s w) (lt_least (leave_of (stepped s w)) (soonest w) (λ o. rw (step_leave s w o) (further_later o)));
    before = rw (step_tick s w) h;
  }

  fits : (o : Side) → next s w o < 2 ^ 64
  fits o = omega (arith, f.leaves_size o, f.steps_size o)

  pub step_fits : (next s w X < 2 ^ 64) × (next s w Y < 2 ^ 64) × (next s w Z < 2 ^ 64)
  step_fits = (fits X, fits Y, fits Z)

module _ (s : Strides) (to : ℕ) where
  -- more turns than ticks make no difference
  go_enough : (m n : ℕ) (w : Walk) → Forward s to w → to - w.t ≤ m → to - w.t ≤ n → go m s to w ≡ go n s to w
  unfolding go
  go_enough zero n w f h k = absurd (omega (arith, f.before))
  go_enough (suc m) zero w f h k = absurd (omega (arith, f.before))
  go_enough (suc m) (suc n) w f h k = elim (dec_le to (soonest w)) [
    | yes e ↦ rw (le-leb to (soonest w) e) refl
    | no e ↦ rw (lt-leb to (soonest w) (omega arith)) (ap (λ (es : List Entry). entry w (soonest w) ∷ es)
        (go_enough m n (stepped s w) (forward_on f (omega arith)) (omega (arith, step_tick s w, f.later)) (omega (arith, step_tick s w, f.later))))
  ]

  go_length : (m : ℕ) (w : Walk) → length (go m s to w) ≤ m
  unfolding go
  go_length zero w = omega arith
  go_length (suc m) w = elim (dec_le to (soonest w)) [
    | yes e ↦ rw (le-leb to (soonest w) e) (omega arith)
    | no e ↦ rw (lt-leb to (soonest w) (omega arith)) (omega (arith, go_length m (stepped s w)))
  ]

  go_last : (m : ℕ) (w : Walk) → to ≤ soonest w → go (suc m) s to w ≡ entry w to ∷ []
  unfolding go
  go_last m w h = rw (le-leb to (soonest w) h) refl

  go_more : (m : ℕ) (w : Walk) → soonest w < to → go (suc m) s to w ≡ entry w (soonest w) ∷ go m s to (stepped s w)
  unfolding go
  go_more m w h = rw (lt-leb to (soonest w) h) refl

module _ {s : Strides} {to : ℕ} {w : Walk} (f : Forward s to w) where
  some_turns : to - w.t ≡ suc (to - w.t - 1)
  some_turns = one_less (to - w.t) (omega (arith, f.before))
    where
      one_less : (n : ℕ) → 0 < n → n ≡ suc (n - 1)
      one_less n h = omega arith

  pub entries_last : to ≤ soonest w → entries s to w ≡ entry w to ∷ []
  entries_last h = ap (λ (n : ℕ). go n s to w) some_turns ∙ go_last s to (to - w.t - 1) w h

  pub entries_more : soonest w < to → entries s to w ≡ entry w (soonest w) ∷ entries s to (stepped s w)
  entries_more h =
      ap (λ (n : ℕ). go n s to w) some_turns ∙ go_more s to (to - w.t - 1) w h
      ∙ ap (λ (es : List Entry). entry w (soonest w) ∷ es)
      (go_enough s to (to - w.t - 1) (to - (stepped s w).t) (stepped s w) (forward_on f h) (omega (arith, step_tick s w, f.later)) (omega arith))

  pub few_entries : length (entries s to w) ≤ 2 ^ 60
  few_entries = omega (arith, go_length s to (to - w.t) w, f.to_size)

-- ---- a loop that counts the entries es: r of them so far, and the walk's own still to come
pub record Counting (s : Strides) (to : ℕ) (es : List Entry) (w : Walk) (r : ℕ) : Type 0 where
  pub forward : Forward s to w
  pub number : length es ≡ r + length (entries s to w)
  pub few : length es ≤ 2 ^ 60

pub none_counted : {s : Strides} {to : ℕ} {w : Walk} → Forward s to w → Counting s to (entries s to w) w 0
none_counted f = record { forward = f; number = omega arith; few = few_entries f }

module _ {s : Strides} {to : ℕ} {es : List Entry} {w : Walk} {r : ℕ} (c : Counting s to es w r) where
  pub last_counted : to ≤ soonest w → r + 1 ≡ length es
  last_counted h = omega (arith, c.number, ap length (entries_last c.forward h))

  pub one_counted : soonest w < to → Counting s to es (stepped s w) (r + 1)
  one_counted h = record {
    forward = forward_on c.forward h;
    number = omega (arith, c.number, ap length (entries_more c.forward h));
    few = c.few;
  }

  pub counted_below : r < length es
  counted_below = elim (dec_le to (soonest w)) [
    | yes h ↦ omega (arith, last_counted h)
    | no h ↦ let k = one_counted (omega arith) in omega (arith, k.number)
  ]

  pub counted_few : r < 2 ^ 60
  counted_few = omega (arith, counted_below, c.few)
