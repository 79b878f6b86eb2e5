-- A trace lent the tails of the lists answers for the lists, behind the places filled; and the code where there is no tail. Assumes nothing.
use Prim.Native.Nat.{ℕ, ◌+◌, ◌-◌, ◌≤◌, ◌<◌}
use mathlib.Core.Path.{◌≡◌, refl, sym, ap, ◌∙◌}
use mathlib.Core.Bool.{Bool, true, false, cond}
use mathlib.Core.List.{List, [], ◌∷◌, ◌++◌, map, append-nil}
use mathlib.Core.Logic.{◌⊎◌, ⊎_elim}
use native.Mathlib.Omega.{arith}
use native.Mathlib.Decide.{ℕ_discrete, dec_lt}
use native.Mathlib.Nat.{zero-add, le_refl}
use lib.Dec.{eqb, ltb}
use lib.ListN.{length, take, drop, length-drop, drop_of_length-le, take-append-drop}
use lib.Seq.{drop-drop, take-length}
use borrow.Author.Tests.{eq-eqb, ne_eqb, lt-ltb, le-ltb}
use borrow.Rule.Slice.PartMut.{mid_of, put_mid, Post-is}
use Rattle.axis.specs.declared.Limits.{Limits}
use Rattle.axis.specs.Codes.{first, row}
use Rattle.ray.specs.Axes.{Grid}
use Rattle.ray.specs.declared.Ray.{Ray}
use Rattle.ray.specs.declared.Lent.{Lent}
use Rattle.ray.specs.Length.{volume, part_of, list_of}
use Rattle.ray.specs.Codes.{front_rows}
use Rattle.tracing.specs.declared.Trace.{Trace}
use Rattle.tracing.specs.Answer.{Lists, lists, lent, code_of, answer_of, written, voxels_after, parts_after, Answers}

-- what is put behind the places filled is put at the front of the tail
behind : (filled : ℕ) (xs new : List ℕ) (b : Bool) → cond b (written filled new xs) xs ≡ take filled xs ++ cond b (written 0 new (drop filled xs)) (drop filled xs)
behind filled xs new true = rw zero-add (ap (λ (ys : List ℕ). take filled xs ++ (new ++ ys)) (sym (drop-drop (length new) filled xs)))
behind filled xs new false = sym (take-append-drop filled xs)

-- a part of a lent list from `filled` on, and it put back
abbrev tail : ℕ → List ℕ → List ℕ
tail filled xs = mid_of filled (length xs - filled) xs

tail_is : (filled : ℕ) (xs : List ℕ) → tail filled xs ≡ drop filled xs
tail_is filled xs = ap (λ (n : ℕ). take n (drop filled xs)) (sym (length-drop filled xs)) ∙ take-length (drop filled xs)

put_back : (filled : ℕ) (xs ys : List ℕ) → filled ≤ length xs → put_mid filled (length xs - filled) xs ys ≡ take filled xs ++ ys
put_back filled xs ys h = rw (Post-is filled (length xs) xs h, drop_of_length-le xs (le_refl (length xs)), append-nil ys) refl

eqb_less : (a b c : ℕ) → c ≤ a → c ≤ b → eqb (a - c) (b - c) ≡ eqb a b
eqb_less a b c h k = elim (ℕ_discrete a b) [
  | yes e ↦ eq-eqb (a - c) (b - c) (omega arith) ∙ sym (eq-eqb a b e)
  | no e ↦ ne_eqb (a - c) (b - c) (λ z. e (omega arith)) ∙ sym (ne_eqb a b e)
]

ltb_less : (a b c : ℕ) → c ≤ a → ltb (a - c) (0 + b) ≡ ltb a (c + b)
ltb_less a b c h = elim (dec_lt a (c + b)) [
  | yes l ↦ lt-ltb (a - c) (0 + b) (omega arith) ∙ sym (lt-ltb a (c + b) l)
  | no l ↦ le-ltb (a - c) (0 + b) (omega arith) ∙ sym (le-ltb a (c + b) (omega arith))
]

module _ (m : Limits) (g : Grid) (r : Ray) (densities vs ps : List ℕ) (filled : ℕ) (hv : filled ≤ length vs) (hp : filled ≤ length ps) where
  abbrev whole : Lists
  whole = lists densities vs ps filled

  abbrev tails : Lists
  tails = lists densities (drop filled vs) (drop filled ps) 0

  same_code : code_of m g r (lent whole) ≡ code_of m g r (lent tails)
  same_code =
      rw (
        length-drop filled vs,
        length-drop filled ps,
        eqb_less (length vs) (length ps) filled hv hp,
        ltb_less (length vs) (length (list_of (volume g) r)) filled hv,
      ) refl

  abbrev free : Bool
  free = eqb (code_of m g r (lent tails)) 0

  -- Behind the places filled the answer and the lists are those of a trace with the tails as its lists (RULES 7).
  pub answer_behind : answer_of m g r whole ≡ answer_of m g r tails
  unfolding answer_of
  answer_behind = rw same_code refl

  pub voxels_behind : voxels_after m g r whole ≡ take filled vs ++ voxels_after m g r tails
  unfolding voxels_after
  voxels_behind = rw same_code (behind filled vs (list_of (volume g) r) free)

  pub parts_behind : parts_after m g r whole ≡ take filled ps ++ parts_after m g r tails
  unfolding parts_after
  parts_behind = rw same_code (behind filled ps (map (part_of (volume g) r) (list_of (volume g) r)) free)

  -- the same as the code has it: what a trace left in the tails, put back
  pub tail_answers : {a : Trace} {tv tp : List ℕ} → Answers m g r (lists densities (tail filled vs) (tail filled ps) 0) a tv tp
      → Answers m g r whole a (put_mid filled (length vs - filled) vs tv) (put_mid filled (length ps - filled) ps tp)
  tail_answers {a} {tv} {tp} t =
      let u = rw (tail_is filled vs, tail_is filled ps) at t in
      record {
        answer = u.answer ∙ sym answer_behind;
        voxels_now = put_back filled vs tv hv ∙ ap (λ (ys : List ℕ). take filled vs ++ ys) u.voxels_now ∙ sym voxels_behind;
        parts_now = put_back filled ps tp hp ∙ ap (λ (ys : List ℕ). take filled ps ++ ys) u.parts_now ∙ sym parts_behind;
      }

-- Where `filled` lies beyond the end of a list, the code is the table's with row 8 applying: the first of 1 to 7 that applies, else 8.
pub code_beyond : (m : Limits) (g : Grid) (r : Ray) (l : Lent) → (l.voxels < l.filled) ⊎ (l.parts < l.filled)
    → code_of m g r l ≡ first (front_rows m g r l ++ (row 8 true ∷ []))
code_beyond m g r l h = elim (dec_lt l.voxels (l.filled + length (list_of (volume g) r))) [
  | yes k ↦ rw (lt-ltb l.voxels (l.filled + length (list_of (volume g) r)) k) refl
  | no k ↦ rw (ne_eqb l.voxels l.parts (⊎_elim (λ z e. omega arith) (λ z e. omega arith) h)) refl
]
