-- Two answers allowed by a promise are equal. A promise that is one equation allows one answer; a promise on the number of a
-- refusal allows one too, since `number` tells the refusals apart and is never 0. The public calls of this crate follow, each at
-- its promise. Assumes nothing.
use Prim.Native.Nat.{ℕ, zero, suc}
use mathlib.Core.Path.{◌≡◌, refl, sym, ap, ◌∙◌}
use mathlib.Core.Bool.{Bool, cond}
use lib.Dec.{eqb}
use lib.IntN.{ℤ, pos, ◌+ℤ◌}
use Rattle.std.specs.Prelude.{Result, Ok, Err, [], ◌∷◌, get_or}
use Rattle.axis.specs.declared.Axis.{Axis}
use Rattle.axis.specs.declared.refusal.Refusal.{Refusal}
use Rattle.axis.specs.declared.refusal.Refusal.TheVariants.{Count, Spacing, Planes, Densities, Outside, EqualEnds, Lists, Room, Answer}
use Rattle.axis.specs.Leg.{natural}
use Rattle.axis.specs.Refusal.{number, number_of}
use Rattle.axis.specs.declared.Limits.{Limits}
use Rattle.axis.specs.Codes.{tenths, inside, beyond, planes_out, axis_code, told}

pub once : {A : Type 0} {x y z : A} → x ≡ z → y ≡ z → x ≡ y
once e f = e ∙ sym f

-- the answer of a number, where an accepted one holds a
abbrev answer_of : {A : Type 0} → A → ℕ → Result A Refusal
answer_of a zero = Ok a
answer_of a (suc n) = Err (get_or (Count ∷ Spacing ∷ Planes ∷ Densities ∷ Outside ∷ EqualEnds ∷ Lists ∷ Room ∷ []) n Answer)

err_back : {A : Type 0} (a : A) (r : Refusal) → answer_of a (number r) ≡ Err r
err_back a Count = refl
err_back a Spacing = refl
err_back a Planes = refl
err_back a Densities = refl
err_back a Outside = refl
err_back a EqualEnds = refl
err_back a Lists = refl
err_back a Room = refl
err_back a Answer = refl

-- an answer that holds nothing is its number
unit_back : (r : Result (Unit {0}) Refusal) → answer_of tt (number_of r) ≡ r
unit_back (Ok a) = refl
unit_back (Err r) = err_back tt r

pub number_once : {n : ℕ} {r s : Result (Unit {0}) Refusal} → number_of r ≡ n → number_of s ≡ n → r ≡ s
number_once {n} {r} {s} e f = sym (unit_back r) ∙ ap (answer_of tt) (once e f) ∙ unit_back s

-- an answer that holds an axis is what it is told as
told_back : (r : Result Axis Refusal) → answer_of (told r).1 (told r).0 ≡ r
told_back (Ok a) = refl
told_back (Err r) = err_back _ r

pub told_once : {t : ℕ × Axis} {r s : Result Axis Refusal} → told r ≡ t → told s ≡ t → r ≡ s
told_once {t} {r} {s} e f = sym (told_back r) ∙ ap (λ (u : ℕ × Axis). answer_of u.1 u.0) (once e f) ∙ told_back s

-- the promise of `checked`
abbrev pub Checks : Axis → Result Axis Refusal → Type 0
Checks a r = ((told r).0 ≡ axis_code tenths a) × ((told r).1 ≡ cond (eqb (told r).0 0) a (record { n = 0; d = 0; b = pos 0 }))

pub checked_once : (n d : ℕ) (b : ℤ) (r s : Result Axis Refusal)
    → Checks (record { n = n; d = d; b = b }) r → Checks (record { n = n; d = d; b = b }) s → r ≡ s
checked_once n d b r s e f = told_once (at r e) (at s f)
  where
    a : Axis
    a = record { n = n; d = d; b = b }

    at : (r : Result Axis Refusal) → Checks a r → told r ≡ (axis_code tenths a, cond (eqb (axis_code tenths a) 0) a (record { n = 0; d = 0; b = pos 0 }))
    at r e = λ i. (e.0 i, (e.1 ∙ ap (λ (c : ℕ). cond (eqb c 0) a (record { n = 0; d = 0; b = pos 0 })) e.0) i)

module _ (m : Limits) where
  -- `check`
  pub code_once : (a : Axis) (r s : Result (Unit {0}) Refusal) → number_of r ≡ axis_code m a → number_of s ≡ axis_code m a → r ≡ s
  code_once a r s = number_once

  pub planes_out_once : (a : Axis) (r s : Bool) → r ≡ planes_out m a → s ≡ planes_out m a → r ≡ s
  planes_out_once a r s = once

  pub holds_once : (c : ℤ) (r s : Bool) → r ≡ inside m c → s ≡ inside m c → r ≡ s
  holds_once c r s = once

-- `count_out` and `spacing_out`
pub beyond_once : (most x : ℕ) (r s : Bool) → r ≡ beyond most x → s ≡ beyond most x → r ≡ s
beyond_once most x r s = once

pub raised_once : (c : ℤ) (by r s : ℕ) → r ≡ natural (c +ℤ pos by) → s ≡ natural (c +ℤ pos by) → r ≡ s
raised_once c by r s = once
