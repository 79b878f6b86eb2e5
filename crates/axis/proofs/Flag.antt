-- Tests that compute, and what they decide. Assumes nothing.
use Prim.Native.Nat.{ℕ, ◌≤◌}
use mathlib.Core.Path.{◌≡◌, refl, sym, ◌∙◌, subst}
use mathlib.Core.Bool.{Bool, true, false, not, ◌&&◌, ◌||◌, true≢false}
use native.Mathlib.Omega.{arith}
use native.Mathlib.Decide.{dec_le}
use lib.Dec.{T, ltb, leb}
use borrow.Author.Tests.{le-ltb, lt-ltb, le-leb, lt-leb}

pub holds : {b : Bool} → b ≡ true → T b
holds e = subst T (sym e) tt

pub is_true : (b : Bool) → T b → b ≡ true
is_true true h = refl
is_true false h = elim h [ ]

pub off_or_on : (b : Bool) {X : Type 0} → b ≡ true → b ≡ false → X
off_or_on b e f = absurd (true≢false (sym e ∙ f))

-- both of an `&&`, neither of an `||`
pub and_left : (a b : Bool) → (a && b) ≡ true → a ≡ true
and_left true b h = refl
and_left false b h = h

pub and_right : (a b : Bool) → (a && b) ≡ true → b ≡ true
and_right true b h = h
and_right false b h = absurd (true≢false (sym h))

pub or_left : (a b : Bool) → (a || b) ≡ false → a ≡ false
or_left false b h = refl
or_left true b h = h

pub or_right : (a b : Bool) → (a || b) ≡ false → b ≡ false
or_right false b h = h
or_right true b h = absurd (true≢false h)

pub lt_not_le : (a b : ℕ) → ltb a b ≡ not (leb b a)
lt_not_le a b = elim (dec_le b a) [ yes h ↦ rw (le-ltb a b h, le-leb b a h) | no h ↦ rw (lt-ltb a b (omega arith), lt-leb b a (omega arith)) ]

-- two tests that decide the same
pub leb_same : (a b c d : ℕ) → (a ≤ b → c ≤ d) → (c ≤ d → a ≤ b) → leb a b ≡ leb c d
leb_same a b c d f g = elim (dec_le a b) [
  | yes h ↦ le-leb a b h ∙ sym (le-leb c d (f h))
  | no h ↦ lt-leb a b (omega arith) ∙ sym (lt-leb c d (elim (dec_le c d) [ yes k ↦ absurd (h (g k)) | no k ↦ omega arith ]))
]
