-- Laws of a table of refusals: two tables joined, code 0, one code in two rows, a refusal's number. Assumes nothing.
use Prim.Native.Nat.{ℕ, ◌<◌}
use mathlib.Core.Path.{◌≡◌, refl, sym, ap, ◌∙◌}
use mathlib.Core.Bool.{Bool, true, false, ◌&&◌, ◌||◌, cond}
use mathlib.Core.List.{List, [], ◌∷◌, ◌++◌}
use native.Mathlib.Omega.{arith}
use native.Mathlib.Decide.{ℕ_discrete}
use lib.Dec.{eqb, ltb}
use borrow.Author.Tests.{ltb-true, eq-eqb, ne_eqb}
use Rattle.std.specs.Prelude.{Result, Ok, Err}
use Rattle.std.specs.Result.{IsErrAnd}
use Rattle.std.specs.List.{list_any}
use Rattle.axis.specs.declared.refusal.Refusal.{Refusal}
use Rattle.axis.specs.declared.refusal.Refusal.TheVariants.{Count, Spacing, Planes, Densities, Outside, EqualEnds, Lists, Room, Answer}
use Rattle.axis.specs.Refusal.{number, number_of}
use Rattle.axis.specs.Codes.{Row, first, each}
use Rattle.axis.proofs.Flag.{and_left, and_right}

-- a code that is not 0 is the answer, 0 asks on
abbrev pub then : ℕ → ℕ → ℕ
then c d = cond (eqb c 0) d c

pub then_on : (c d : ℕ) → c ≡ 0 → then c d ≡ d
then_on c d e = rw (eq-eqb c 0 e) refl

pub then_stop : (c d : ℕ) → (c ≡ 0 → ⊥) → then c d ≡ c
then_stop c d h = rw (ne_eqb c 0 h) refl

pub then_none : (c d : ℕ) → then c d ≡ 0 → (c ≡ 0) × (d ≡ 0)
then_none c d h = elim (ℕ_discrete c 0) [ yes e ↦ (e, sym (then_on c d e) ∙ h) | no e ↦ absurd (e (sym (then_stop c d e) ∙ h)) ]

-- every row has a code that tells it from 0
abbrev pub coded : List Row → Bool
coded [] = true
coded (r ∷ rs) = ltb 0 r.code && coded rs

-- no row applies
abbrev pub Off : List Row → Type 0
Off [] = Unit {0}
Off (r ∷ rs) = (r.applies ≡ false) × Off rs

row_then : (c : ℕ) (t : Bool) (d e : ℕ) → 0 < c → cond t c (then d e) ≡ then (cond t c d) e
row_then c true d e h = sym (then_stop c e (λ z. omega arith))
row_then c false d e h = refl

pub joined : (xs ys : List Row) → coded xs ≡ true → first (xs ++ ys) ≡ then (first xs) (first ys)
joined [] ys h = refl
joined (r ∷ rs) ys h =
    ap (cond r.applies r.code) (joined rs ys (and_right (ltb 0 r.code) _ h))
    ∙ row_then r.code r.applies (first rs) (first ys) (ltb-true 0 r.code (and_left (ltb 0 r.code) _ h))

pub row_off : (c : ℕ) (t : Bool) (d : ℕ) → 0 < c → cond t c d ≡ 0 → (t ≡ false) × (d ≡ 0)
row_off c true d some h = absurd (omega arith)
row_off c false d some h = (refl, h)

-- code 0 means that no row applies
pub off : (xs : List Row) → coded xs ≡ true → first xs ≡ 0 → Off xs
off [] h e = tt
off (r ∷ rs) h e =
    let o = row_off r.code r.applies (first rs) (ltb-true 0 r.code (and_left (ltb 0 r.code) _ h)) e in
    (o.0, off rs (and_right (ltb 0 r.code) _ h) o.1)

-- one code in two rows applies where either does
pub either : (c : ℕ) (t u : Bool) (d : ℕ) → cond t c (cond u c d) ≡ cond (t || u) c d
either c true u d = refl
either c false u d = refl

-- one code asked of each in turn applies where some one has it
pub asked : {A : Type 0} (c : ℕ) (test : A → Bool) (xs : List A) (rows : List Row) → first (each c test xs ++ rows) ≡ cond (list_any test xs) c (first rows)
asked c test [] rows = refl
asked c test (x ∷ xs) rows = ap (cond (test x) c) (asked c test xs rows) ∙ either c (test x) (list_any test xs) (first rows)

-- a refusal's number tells it from 0
pub number_some : (r : Refusal) → number r ≡ 0 → ⊥
number_some r = elim r as (λ s. number s ≡ 0 → ⊥) [
  | Count ↦ λ e. omega arith
  | Spacing ↦ λ e. omega arith
  | Planes ↦ λ e. omega arith
  | Densities ↦ λ e. omega arith
  | Outside ↦ λ e. omega arith
  | EqualEnds ↦ λ e. omega arith
  | Lists ↦ λ e. omega arith
  | Room ↦ λ e. omega arith
  | Answer ↦ λ e. omega arith
]

-- a refusal handed on by `?`
pub handed_on : {A : Type 0} (r : Result A Refusal) (x : Refusal) → IsErrAnd r (λ e. e ≡ x) → number_of r ≡ number x
handed_on (Ok a) x h = absurd h
handed_on (Err e) x h = ap number h
