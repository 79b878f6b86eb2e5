-- Two answers allowed by a promise of this crate are equal, and so is what it says of a lent list. Assumes nothing.
use Prim.Native.Nat.{ℕ, suc, ◌+◌, ◌-◌, ◌≤◌}
use mathlib.Core.Bool.{Bool, true, false, cond}
use mathlib.Core.List.{List, [], ◌∷◌, ◌++◌}
use Rattle.std.specs.Prelude.{⊤, Option, Some, None}
use mathlib.Core.Path.{◌≡◌, refl, sym, ap, ◌∙◌}
use native.Mathlib.Omega.{arith}
use lib.Dec.{eqb}
use lib.IntN.{ℤ}
use lib.ListN.{length, take, drop, get_or, length-drop}
use lib.Seq.{length-take-le}
use Rattle.text.specs.declared.fields.Span.{Span}
use Rattle.text.specs.declared.word.Kind.{Kind}
use Rattle.text.specs.Split.{grow, split, after}
use Rattle.text.specs.Number.{natural_of, integer_of}
use Rattle.text.specs.Numbers.{every, told}
use Rattle.text.specs.Word.{word_of}
use Rattle.text.proofs.Split.{Field, split_first}

-- as in axis, on which this crate does not stand
once : {A : Type 0} {x y z : A} → x ≡ z → y ≡ z → x ≡ y
once e f = e ∙ sym f

pub count_once : (line : List ℕ) (r r' : ℕ) → r ≡ length (split 9 line) → r' ≡ length (split 9 line) → r ≡ r'
count_once line r r' = once

pub first_word_once : (line own : List ℕ) (r r' : Option Kind) → r ≡ word_of own (get_or (split 9 line) 0 []) → r' ≡ word_of own (get_or (split 9 line) 0 []) → r ≡ r'
first_word_once line own r r' = once

pub natural_once : (t : List ℕ) (r r' : Option ℕ) → r ≡ natural_of t → r' ≡ natural_of t → r ≡ r'
natural_once t r r' = once

pub integer_once : (t : List ℕ) (r r' : Option ℤ) → r ≡ integer_of t → r' ≡ integer_of t → r ≡ r'
integer_once t r r' = once

-- what a list tells is told by one answer only, and by one list where there is an answer
told_once : {A : Type 0} (r r' : Option ⊤) (vs vs' : List A) → told r vs ≡ told r' vs' → (r ≡ r') × (r ≡ Some tt → vs ≡ vs')
told_once (Some u) (Some w) vs vs' e = (refl, λ h. cc)
told_once None None vs vs' e = (refl, λ h. cc)
told_once (Some u) None vs vs' e = cc
told_once None (Some w) vs vs' e = cc

-- `numbers`: whether the line is taken, and where it is, the numbers
pub numbers_once : {A : Type 0} (read : List ℕ → Option A) (line : List ℕ) (k n : ℕ) (r r' : Option ⊤) (out out' : List A)
    → told r out ≡ every read n (drop (k + 1) (split 9 line)) → told r' out' ≡ every read n (drop (k + 1) (split 9 line))
    → (r ≡ r') × (r ≡ Some tt → out ≡ out')
numbers_once read line k n r r' out out' e f = told_once r r' out out' (once e f)

-- the writers: the place behind what was written, and all bytes ahead of it
pub put_once : (before text : List ℕ) (at r r' : ℕ) (out out' : List ℕ) → r ≤ length out → r' ≤ length out'
    → take r out ≡ take at before ++ text → take r' out' ≡ take at before ++ text → (r ≡ r') × (take r out ≡ take r' out')
put_once before text at r r' out out' h h' e f =
    let same : length (take r out) ≡ length (take r' out') = ap length (once e f) in
    (omega (arith, same, length-take-le r out h, length-take-le r' out' h'), once e f)

-- how many bytes some fields take, with what parts each from the one ahead
abbrev spread : List (List ℕ) → ℕ
spread [] = 0
spread (f ∷ fs) = length f + 1 + spread fs

split_spread : (sep : ℕ) (xs : List ℕ) → spread (split sep xs) ≡ length xs + 1
unfolding split
split_spread sep [] = refl
split_spread sep (x ∷ xs) = go (eqb x sep) (split_spread sep xs)
  where
    go : (b : Bool) → spread (split sep xs) ≡ length xs + 1 → spread (cond b ([] ∷ split sep xs) (grow x (split sep xs))) ≡ suc (length xs) + 1
    go true e = omega (arith, e)
    go false e = omega (arith, e, ap spread (split_first sep xs), ap (λ (l : List (List ℕ)). spread (grow x l)) (split_first sep xs))

after_spread : (sep : ℕ) (xs : List ℕ) → spread (after sep xs) ≡ length xs
unfolding after
after_spread sep [] = refl
after_spread sep (x ∷ xs) = omega (arith, split_spread sep xs)

module _ (line : List ℕ) (k at e : ℕ) (x : Field 9 line k at e) where
  behind : length line - e ≡ spread (drop (k + 1) (split 9 line))
  behind = sym (length-drop e line) ∙ sym (after_spread 9 (drop e line)) ∙ ap spread x.1.1

  long : e - at ≡ length (get_or (split 9 line) k [])
  long = sym (length-take-le (e - at) (drop at line) (omega (arith, length-drop at line))) ∙ ap length x.1.0

pub field_once : (line : List ℕ) (k : ℕ) (r r' : Span) → Field 9 line k r.start r.end → Field 9 line k r'.start r'.end → r ≡ r'
field_once line k r r' x y =
    let ends : r.end ≡ r'.end = omega (arith, behind line k r.start r.end x, behind line k r'.start r'.end y) in
    let starts : r.start ≡ r'.start = omega (arith, long line k r.start r.end x, long line k r'.start r'.end y) in
    λ i. record { start = starts i; end = ends i }
