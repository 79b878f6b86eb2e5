-- Fields, walked from the front of the line. Assumes nothing.
use Prim.Native.Nat.{ℕ, zero, suc, ◌+◌, ◌-◌, ◌≤◌, ◌<◌}
use mathlib.Core.Bool.{Bool, true, false, cond, true≢false}
use mathlib.Core.List.{List, [], ◌∷◌}
use mathlib.Core.Path.{◌≡◌, refl, ap, sym, ◌∙◌}
use lib.Dec.{eqb}
use lib.ListN.{length, get_or, take, drop, drop_of_length-le, length-drop, get_or-eq_default}
use lib.Seq.{take_all, drop-cons, drop-drop, get_or-drop}
use native.Mathlib.Nat.{add-zero}
use native.Mathlib.Omega.{arith}
use native.Mathlib.Numerals.{add-one}
use borrow.Author.Tests.{eq-eqb, ne_eqb}
use denote.Ref.{Bor}
use Rattle.std.specs.Prelude.{Option, Some, None}
use Rattle.std.specs.Slice.{IsGetRangeResult}
use Rattle.text.specs.Split.{grow, split, until, after, left}

-- cut at n: the field ahead, and those behind
abbrev cut : ℕ → ℕ → List ℕ → List (List ℕ)
cut sep n xs = take n xs ∷ after sep (drop n xs)

-- the first field ends ahead of the first sep, and the others are those of what stands behind it
pub split_first : (sep : ℕ) (xs : List ℕ) → split sep xs ≡ take (until sep xs) xs ∷ after sep (drop (until sep xs) xs)
unfolding split until after
split_first sep [] = refl
split_first sep (x ∷ xs) = go (eqb x sep) (split_first sep xs)
  where
    go : (b : Bool) → split sep xs ≡ cut sep (until sep xs) xs → cond b ([] ∷ split sep xs) (grow x (split sep xs)) ≡ cut sep (cond b zero (suc (until sep xs))) (x ∷ xs)
    go true e = refl
    go false e = ap (grow x) e

pub until_within : (sep : ℕ) (xs : List ℕ) → until sep xs ≤ length xs
unfolding until
until_within sep [] = omega arith
until_within sep (x ∷ xs) = go (eqb x sep) (until_within sep xs)
  where
    go : (b : Bool) → until sep xs ≤ length xs → cond b zero (suc (until sep xs)) ≤ suc (length xs)
    go true h = omega arith
    go false h = omega arith

module _ (sep : ℕ) where
  pub until_none : until sep [] ≡ 0
  unfolding until
  until_none = refl

  pub until_first : (x : ℕ) (xs : List ℕ) → x ≡ sep → until sep (x ∷ xs) ≡ 0
  unfolding until
  until_first x xs e = rw (eq-eqb x sep e) refl

  pub until_more : (x : ℕ) (xs : List ℕ) → (x ≡ sep → ⊥) → until sep (x ∷ xs) ≡ until sep xs + 1
  unfolding until
  until_more x xs e = rw (ne_eqb x sep e, add-one) refl

grown : (x sep : ℕ) (xs : List ℕ) → length (grow x (split sep xs)) ≡ length (split sep xs)
grown x sep xs = ap (λ (l : List (List ℕ)). length (grow x l)) (split_first sep xs) ∙ sym (ap length (split_first sep xs))

-- at an index of a line
module _ (sep : ℕ) (s : List ℕ) (i : ℕ) where
  pub count_here : i < length s → get_or s i 0 ≡ sep → length (split sep (drop i s)) ≡ suc (length (split sep (drop (i + 1) s)))
  unfolding split
  count_here h e = rw (add-one, drop-cons s i 0, eq-eqb (get_or s i 0) sep e) refl

  pub count_on : i < length s → (get_or s i 0 ≡ sep → ⊥) → length (split sep (drop i s)) ≡ length (split sep (drop (i + 1) s))
  unfolding split
  count_on h e = rw (add-one, drop-cons s i 0, ne_eqb (get_or s i 0) sep e) (grown (get_or s i 0) sep (drop (suc i) s))

  pub count_end : length s ≤ i → length (split sep (drop i s)) ≡ 1
  unfolding split
  count_end h = rw (drop_of_length-le s h) refl

  pub end_within : i ≤ length s → i + until sep (drop i s) ≤ length s
  end_within h = omega (arith, until_within sep (drop i s), length-drop i s)

  -- behind the line nothing is left
  pub end_behind : length s ≤ i → i ≡ i + until sep (drop i s)
  unfolding until
  end_behind h = rw (drop_of_length-le s h, add-zero) refl

  -- behind the place where a field ended
  pub after_end : length s ≤ i → after sep (drop i s) ≡ []
  unfolding after
  after_end h = rw (drop_of_length-le s h) refl

  pub after_sep : i < length s → after sep (drop i s) ≡ split sep (drop (i + 1) s)
  unfolding after
  after_sep h = rw (add-one, drop-cons s i 0) refl

-- the bytes from `at` up to e
abbrev pub part : List ℕ → ℕ → ℕ → List ℕ
part s at e = take (e - at) (drop at s)

-- the field that starts at `at` and ends at e, and those behind it
fields_from : (sep : ℕ) (s : List ℕ) (at e : ℕ) → e ≡ at + until sep (drop at s) → split sep (drop at s) ≡ part s at e ∷ after sep (drop e s)
fields_from sep s at e ends =
    let n : e - at ≡ until sep (drop at s) = omega arith in
    split_first sep (drop at s)
    ∙ rw (n, ends, drop-drop (until sep (drop at s)) at s) refl

-- what is left of a line behind the field that ended where ys begins
pub left_behind : (ys : List ℕ) (r : Option (Bor (List ℕ))) → IsGetRangeResult ys 1 (length ys) r → left r ≡ after 9 ys
unfolding after
left_behind [] None g = refl
left_behind [] (Some x) g = absurd (omega (arith, g.0.0))
left_behind (y ∷ ys) None g = absurd (true≢false (sym (g.1 (omega arith, omega arith))))
left_behind (y ∷ ys) (Some x) g =
    let n : suc (length ys) - 1 ≡ length ys = omega arith in
    let whole : take (suc (length ys) - 1) ys ≡ ys = rw n (take_all (length ys) ys (omega arith)) in
    ap (split 9) (g.0.2 ∙ whole)

-- and the field ahead
pub left_first : (rest : Option (Bor (List ℕ))) (line : Bor (List ℕ)) (n : ℕ) → rest ≡ Some line → n ≡ until 9 line.now → left rest ≡ take n line.now ∷ after 9 (drop n line.now)
left_first rest line n e f = ap left e ∙ rw f (split_first 9 line.now)

-- what `field` promises of field k: it starts at `at` and ends at e, and the others follow
abbrev pub Field : ℕ → List ℕ → ℕ → ℕ → ℕ → Type 0
Field sep s k at e = ((at ≤ e) × (e ≤ length s)) × ((part s at e ≡ get_or (split sep s) k []) × (after sep (drop e s) ≡ drop (k + 1) (split sep s)))

-- a walk to field k: the fields from j on are those of the line from `at` on
pub record Walk (sep : ℕ) (s : List ℕ) (k j at : ℕ) : Type 0 where
  pub within : at ≤ length s
  pub few : j ≤ k
  pub rest : drop j (split sep s) ≡ split sep (drop at s)

pub walk_begins : {sep : ℕ} (s : List ℕ) (k : ℕ) → Walk sep s k 0 0
walk_begins s k = record { within = omega arith; few = omega arith; rest = refl }

-- and the first of them ends at e
module _ {sep : ℕ} {s : List ℕ} {k j at : ℕ} (w : Walk sep s k j at) {e : ℕ} (ends : e ≡ at + until sep (drop at s)) where
  from_here : drop j (split sep s) ≡ part s at e ∷ after sep (drop e s)
  from_here = w.rest ∙ fields_from sep s at e ends

  here : part s at e ≡ get_or (split sep s) j []
  here = sym (ap (λ (l : List (List ℕ)). get_or l 0 []) from_here) ∙ get_or-drop j (split sep s) 0 [] ∙ rw add-zero refl

  behind : after sep (drop e s) ≡ drop (j + 1) (split sep s)
  behind = sym (sym (drop-drop 1 j (split sep s)) ∙ ap (drop 1) from_here)

  inside : e ≤ length s
  inside = rw ends (end_within sep s at w.within)

  pub walk_on : j < k → e < length s → Walk sep s k (j + 1) (e + 1)
  walk_on more h = record { within = omega arith; few = omega arith; rest = sym behind ∙ after_sep sep s e h }

  pub walk_there : k ≤ j → Field sep s k at e
  walk_there h =
      let there : k ≡ j = omega (arith, w.few) in
      ((omega arith, inside), rw there (here, behind))

  -- past the last field
  pub walk_past : j < k → length s ≤ e → Field sep s k e e
  walk_past more out =
      let few : length (split sep s) ≤ k = omega (arith, length-drop (j + 1) (split sep s), ap length (sym behind ∙ after_end sep s e out)) in
      let fewer : length (split sep s) ≤ k + 1 = omega arith in
      let none : e - e ≡ 0 = omega arith in
      ((omega arith, inside), (rw none (sym (get_or-eq_default (split sep s) [] few)), after_end sep s e out ∙ sym (drop_of_length-le (split sep s) fewer)))
