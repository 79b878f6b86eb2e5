-- One axis in its own units, by the way the ray goes on it: what ray's definitions come to where coordinates have no sign.
-- A law has a clause for each way, or for a slab that is closed and one that is not. Assumes nothing.
use Prim.Native.Nat.{ℕ, zero, suc, ◌+◌, ◌-◌, ◌*◌, ◌≤◌, ◌<◌}
use mathlib.Core.Path.{◌≡◌, refl, sym, ap, ◌∙◌}
use mathlib.Core.Bool.{Bool, true, false, ◌&&◌, cond}
use mathlib.Core.Logic.{◌⊎◌, inl, inr}
use native.Mathlib.Omega.{arith}
use native.Mathlib.Decide.{dec_lt}
use native.Mathlib.Nat.{zero-mul, one-mul}
use lib.Dec.{ltb, leb}
use lib.IntN.{pos, nat_abs, ◌-ℤ◌}
use borrow.Author.Tests.{lt-ltb, le-ltb, le-leb, ltb-true, leb-true}
use Rattle.axis.specs.Leg.{moving, factor, run, Slab, held, enters, leaves}
use Rattle.axis.proofs.Flag.{and_left, and_right}
use Rattle.ray.proofs.Way.{Way, up, down, still, Goes, factor_by}
use Rattle.axis.proofs.Shift.{natural_diff, sub_lt, sub_ge}
use Rattle.line.specs.Scene.{leg_n, slab_n}

-- what is said of a slab is said of its planes by any name
pub slab_same : {A : Type 0} (f : Slab → A) {lo hi lo' hi' : ℕ} → lo ≡ lo' → hi ≡ hi' → f (slab_n lo hi true) ≡ f (slab_n lo' hi' true)
slab_same f e k = rw (e, k) refl

abbrev pub enter_by : Way → ℕ → ℕ → ℕ → ℕ
enter_by up p lo hi = lo - p
enter_by down p lo hi = p - hi
enter_by still p lo hi = 0

abbrev pub leave_by : Way → ℕ → ℕ → ℕ → ℕ
leave_by up p lo hi = hi - p
leave_by down p lo hi = p - lo
leave_by still p lo hi = 1

-- up to the upper plane, the plane itself where it is held
abbrev pub Upto : Bool → ℕ → ℕ → Type 0
Upto true p hi = p ≤ hi
Upto false p hi = p < hi

abbrev pub HeldBy : Way → Bool → ℕ → ℕ → ℕ → Type 0
HeldBy up closed p lo hi = Unit {0}
HeldBy down closed p lo hi = Unit {0}
HeldBy still closed p lo hi = (lo ≤ p) × Upto closed p hi

pub diff_ge : (a b : ℕ) → b ≤ a → pos a -ℤ pos b ≡ pos (a - b)
diff_ge a zero h = ap pos (omega arith)
diff_ge a (suc b) h = sub_ge a (suc b) h

abs_diff : (a b : ℕ) → b ≤ a → nat_abs (pos a -ℤ pos b) ≡ a - b
abs_diff a b h = ap nat_abs (diff_ge a b h)

abs_diff' : (a b : ℕ) → a < b → nat_abs (pos a -ℤ pos b) ≡ b - a
abs_diff' a zero h = absurd (omega arith)
abs_diff' a (suc b) h = rw (sub_lt a (suc b) h) (omega arith)

pub abs_gap : (p q : ℕ) → nat_abs (pos q -ℤ pos p) ≡ (p - q) + (q - p)
abs_gap p q = elim (dec_lt q p) [ yes h ↦ abs_diff' q p h ∙ omega arith | no h ↦ abs_diff q p (omega arith) ∙ omega arith ]

pub moves : (p q : ℕ) → (p ≡ q → ⊥) → moving (leg_n p q) ≡ true
moves p q h = elim (dec_lt p q) [ yes k ↦ rw (lt-ltb p q k) refl | no k ↦ rw (le-ltb p q (omega arith), lt-ltb q p (omega arith)) refl ]

pub stays : (p q : ℕ) → p ≡ q → moving (leg_n p q) ≡ false
stays p q h = rw (le-ltb p q (omega arith), le-ltb q p (omega arith)) refl

pub factor_is : (w : Way) (p q : ℕ) → Goes w p q → factor (leg_n p q) ≡ factor_by w p q
factor_is up p q g = rw (lt-ltb p q g) (abs_diff q p (omega arith))
factor_is down p q g = rw (le-ltb p q (omega arith), lt-ltb q p g) (abs_diff' q p g)
factor_is still p q g = rw (le-ltb p q (omega arith), le-ltb q p (omega arith)) refl

-- how far along a place is
pub run_up : (p q x : ℕ) → p < q → run (leg_n p q) (pos x) ≡ x - p
run_up p q x g = rw (lt-ltb p q g) (natural_diff x p)

pub run_down : (p q x : ℕ) → q ≤ p → run (leg_n p q) (pos x) ≡ p - x
run_down p q x g = rw (le-ltb p q (omega arith)) (natural_diff p x)

-- the same by numbers chosen, with no branch on the way: of a place, and of one of two
pub run_is : (p q x : ℕ) → cond (ltb p q) x p - cond (ltb p q) p x ≡ run (leg_n p q) (pos x)
run_is p q x = elim (dec_lt p q) [ yes g ↦ rw (lt-ltb p q g) (sym (natural_diff x p)) | no g ↦ rw (le-ltb p q (omega arith)) (sym (natural_diff p x)) ]

pub aimed_is : (p q x y : ℕ) (f : ℕ → ℕ) {c n r : ℕ} → c ≡ cond (ltb p q) x y → n ≡ run (leg_n p q) (pos c) → (p < q → r ≡ f (x - p)) → (q ≤ p → r ≡ f (p - y)) → f n ≡ r
aimed_is p q x y f e k g h = elim (dec_lt p q) [
  | yes l ↦ ap f (k ∙ run_up p q _ l ∙ ap (λ (z : ℕ). z - p) (e ∙ rw (lt-ltb p q l) refl)) ∙ sym (g l)
  | no l ↦ ap f (k ∙ run_down p q _ (omega arith) ∙ ap (λ (z : ℕ). p - z) (e ∙ rw (le-ltb p q (omega arith)) refl)) ∙ sym (h (omega arith))
]

pub enters_is : (w : Way) (p q lo hi rest : ℕ) → Goes w p q → lo ≤ hi → enters rest (leg_n p q) (slab_n lo hi true) ≡ enter_by w p lo hi * rest
enters_is up p q lo hi rest g h = rw (lt-ltb p q g, natural_diff lo p, natural_diff hi p) (ap (λ (x : ℕ). x * rest) (omega arith))
enters_is down p q lo hi rest g h =
    rw (le-ltb p q (omega arith), lt-ltb q p g, natural_diff p lo, natural_diff p hi) (ap (λ (x : ℕ). x * rest) (omega arith))
enters_is still p q lo hi rest g h = rw (le-ltb p q (omega arith), le-ltb q p (omega arith)) (sym (zero-mul rest))

pub leaves_is : (w : Way) (p q lo hi rest : ℕ) → Goes w p q → lo ≤ hi → leaves rest (leg_n p q) (slab_n lo hi true) ≡ leave_by w p lo hi * rest
leaves_is up p q lo hi rest g h = rw (lt-ltb p q g, natural_diff lo p, natural_diff hi p) (ap (λ (x : ℕ). x * rest) (omega arith))
leaves_is down p q lo hi rest g h =
    rw (le-ltb p q (omega arith), lt-ltb q p g, natural_diff p lo, natural_diff p hi) (ap (λ (x : ℕ). x * rest) (omega arith))
leaves_is still p q lo hi rest g h = rw (le-ltb p q (omega arith), le-ltb q p (omega arith)) (sym (one-mul rest))

-- ---- up to the upper plane, by the test
abbrev upto : Bool → ℕ → ℕ → Bool
upto closed p hi = cond closed (leb p hi) (ltb p hi)

upto_by : (closed : Bool) (p hi : ℕ) → upto closed p hi ≡ true → Upto closed p hi
upto_by true p hi h = leb-true p hi h
upto_by false p hi h = ltb-true p hi h

by_upto : (closed : Bool) (p hi : ℕ) → Upto closed p hi → upto closed p hi ≡ true
by_upto true p hi h = le-leb p hi h
by_upto false p hi h = lt-ltb p hi h

pub upto_any : (closed : Bool) {p hi : ℕ} → p < hi → Upto closed p hi
upto_any true h = omega arith
upto_any false h = h

upto_most : (closed : Bool) {p hi : ℕ} → Upto closed p hi → p ≤ hi
upto_most true h = h
upto_most false h = omega (arith, h)

-- ---- what is held, and that it is
pub held_by : (w : Way) (closed : Bool) (p q lo hi : ℕ) → Goes w p q → held (leg_n p q) (slab_n lo hi closed) ≡ true → HeldBy w closed p lo hi
held_by up closed p q lo hi g h = tt
held_by down closed p q lo hi g h = tt
held_by still closed p q lo hi g h =
    let k : (leb lo p && upto closed p hi) ≡ true = rw (le-ltb p q (omega arith), le-ltb q p (omega arith)) at h in
    (leb-true lo p (and_left (leb lo p) (upto closed p hi) k), upto_by closed p hi (and_right (leb lo p) (upto closed p hi) k))

pub by_held : (w : Way) (closed : Bool) (p q lo hi : ℕ) → Goes w p q → HeldBy w closed p lo hi → held (leg_n p q) (slab_n lo hi closed) ≡ true
by_held up closed p q lo hi g h = rw (lt-ltb p q g) refl
by_held down closed p q lo hi g h = rw (le-ltb p q (omega arith), lt-ltb q p g) refl
by_held still closed p q lo hi g h = rw (le-ltb p q (omega arith), le-ltb q p (omega arith), le-leb lo p h.0, by_upto closed p hi h.1) refl

-- ---- laws of the ways
pub enter_within : (w : Way) (p : ℕ) {lo hi lo₀ hi₁ : ℕ} → lo₀ ≤ lo → hi ≤ hi₁ → enter_by w p lo₀ hi₁ ≤ enter_by w p lo hi
enter_within up p a b = omega arith
enter_within down p a b = omega arith
enter_within still p a b = omega arith

pub leave_within : (w : Way) (p : ℕ) {lo hi lo₀ hi₁ : ℕ} → lo₀ ≤ lo → hi ≤ hi₁ → leave_by w p lo hi ≤ leave_by w p lo₀ hi₁
leave_within up p a b = omega arith
leave_within down p a b = omega arith
leave_within still p a b = omega arith

pub held_within : (w : Way) (closed : Bool) (p : ℕ) {lo hi lo₀ hi₁ : ℕ} → lo₀ ≤ lo → hi ≤ hi₁ → HeldBy w closed p lo hi → HeldBy w true p lo₀ hi₁
held_within up closed p a b h = tt
held_within down closed p a b h = tt
held_within still closed p a b h = (omega (arith, h.0), omega (arith, upto_most closed h.1))

-- two stretches with no place in common: the ray is out of one before it is in the other
pub apart : (w : Way) (closed : Bool) (p : ℕ) {lo hi lo' hi' : ℕ} → lo < hi → lo' < hi' → hi ≤ lo' → HeldBy w false p lo hi → HeldBy w closed p lo' hi'
    → (leave_by w p lo hi ≤ enter_by w p lo' hi') ⊎ (leave_by w p lo' hi' ≤ enter_by w p lo hi)
apart up closed p a b c h k = inl (omega arith)
apart down closed p a b c h k = inr (omega arith)
apart still closed p a b c h k = absurd (omega (arith, h.1, k.0))
