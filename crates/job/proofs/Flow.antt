-- The job goes from line to line, wherever its input is cut. Assumes nothing.
use Prim.Native.Nat.{ℕ, zero, suc, ◌≤◌, ◌<◌}
use mathlib.Core.Bool.{Bool, true, false, cond}
use mathlib.Core.List.{List, [], ◌∷◌, ◌++◌, append_assoc, append-nil}
use mathlib.Core.Path.{◌≡◌, refl, ap, sym, ◌∙◌, subst}
use lib.Dec.{eqb}
use lib.ListN.{length, take, drop}
use lib.Seq.{take-length, drop-length, take-append_seam, drop-append_seam, length-take-le}
use native.Mathlib.Nat.{add-zero}
use native.Mathlib.Omega.{arith}
use borrow.Author.Tests.{lt-ltb}
use Rattle.text.specs.Split.{split, until, after}
use Rattle.text.proofs.Split.{split_first, end_within}
use Rattle.job.specs.Stand.{Stand}
use Rattle.load.specs.Line.{line_read}
use Rattle.load.proofs.Cutting.{until_behind}
use Rattle.job.specs.Line.{Step, goes, stops, refusal, line_step}
use Rattle.job.specs.Job.{at_end, and_then, lines_from, job_from}
use Rattle.job.specs.Move.{step_is}
use Rattle.job.specs.Move as move
use Rattle.job.specs.InAll.{more}

-- bytes with no LF, up to an LF and up to the end
line_first : (l rest : List ℕ) → until 10 l ≡ length l → split 10 (l ++ (10 ∷ rest)) ≡ l ∷ split 10 rest
unfolding until after
line_first l rest e =
    let u : until 10 (l ++ (10 ∷ rest)) ≡ length l = until_behind 10 l (10 ∷ rest) e ∙ add-zero (length l) in
    split_first 10 (l ++ (10 ∷ rest)) ∙ rw (u, take-append_seam l (10 ∷ rest), drop-append_seam l (10 ∷ rest)) refl

line_last : (l : List ℕ) → until 10 l ≡ length l → split 10 l ≡ l ∷ []
unfolding after
line_last l e = split_first 10 l ∙ rw (e, take-length l, drop-length l) refl

-- a line that LF ends, and the rest
job_line : (s : Stand) (l rest : List ℕ) → until 10 l ≡ length l → job_from s (l ++ (10 ∷ rest)) ≡ and_then (line_step s l) (λ s'. job_from s' rest)
unfolding job_from lines_from
job_line s l rest e =
    ap (lines_from s) (line_first l rest e)
    ∙ subst (λ (ls : List (List ℕ)). lines_from s (l ∷ ls) ≡ and_then (line_step s l) (λ s'. lines_from s' ls)) (sym (split_first 10 rest)) refl

pub job_end : (s : Stand) (l : List ℕ) → until 10 l ≡ length l → job_from s l ≡ at_end s l
unfolding job_from lines_from
job_end s l e = ap (lines_from s) (line_last l e)

-- more than 4096 bytes ahead of any LF
job_long : (s : Stand) (bytes : List ℕ) → 4096 < until 10 bytes → job_from s bytes ≡ refusal s 20
unfolding job_from lines_from line_step line_read
job_long s bytes h =
    let first : List ℕ = take (until 10 bytes) bytes in
    let long : length first ≡ until 10 bytes = length-take-le (until 10 bytes) bytes (omega (arith, end_within 10 bytes 0 (omega arith))) in
    ap (lines_from s) (split_first 10 bytes) ∙ go first (after 10 (drop (until 10 bytes) bytes)) (omega arith)
  where
    go : (l : List ℕ) (ls : List (List ℕ)) → 4096 < length l → lines_from s (l ∷ ls) ≡ refusal s 20
    go [] [] g = absurd (omega arith)
    go (b ∷ bs) [] g = refl
    go l (m ∷ ms) g = rw (lt-ltb 4096 (length l) g) refl

until_more : (sep : ℕ) (xs ys : List ℕ) → until sep xs ≤ until sep (xs ++ ys)
unfolding until
until_more sep [] ys = omega arith
until_more sep (x ∷ xs) ys = go (eqb x sep) (until_more sep xs ys)
  where
    go : (b : Bool) → until sep xs ≤ until sep (xs ++ ys) → cond b zero (suc (until sep xs)) ≤ cond b zero (suc (until sep (xs ++ ys)))
    go true h = omega arith
    go false h = omega arith

and_then_lem : (printed : List ℕ) (step : Step) (rest : Stand → List ℕ) → printed ++ and_then step rest ≡ and_then (move.after printed step) rest
and_then_lem printed (goes o s) rest = sym (append_assoc printed o (rest s))
and_then_lem printed (stops o) rest = refl

step_then : (going : Bool) (o : List ℕ) (s : Stand) (rest : Stand → List ℕ) → and_then (step_is going o s) rest ≡ o ++ more going (rest s)
step_then true o s rest = refl
step_then false o s rest = sym (append-nil o)

-- `begun` stands of a line, `here` is at hand, and `later` comes later
module _ (begun here later : List ℕ) where
  on : {l : List ℕ} → begun ++ here ≡ l → begun ++ (here ++ later) ≡ l ++ later
  on e = sym (append_assoc begun here later) ∙ ap (λ (b : List ℕ). b ++ later) e

  pub line_turn : (s : Stand) (going : Bool) (o : List ℕ) (s' : Stand) (printed l rest : List ℕ) → until 10 l ≡ length l → begun ++ here ≡ l ++ (10 ∷ rest)
      → step_is going o s' ≡ move.after printed (line_step s l) → printed ++ job_from s (begun ++ (here ++ later)) ≡ o ++ more going (job_from s' (rest ++ later))
  line_turn s going o s' printed l rest plain e f =
      let then : Stand → List ℕ = λ t. job_from t (rest ++ later) in
      ap (λ (b : List ℕ). printed ++ job_from s b) (on e ∙ append_assoc l (10 ∷ rest) later)
      ∙ ap (λ (b : List ℕ). printed ++ b) (job_line s l (rest ++ later) plain)
      ∙ and_then_lem printed (line_step s l) then
      ∙ ap (λ (t : Step). and_then t then) (sym f)
      ∙ step_then going o s' then

  pub more_turn : (s : Stand) {l : List ℕ} → begun ++ here ≡ l → job_from s (begun ++ (here ++ later)) ≡ job_from s (l ++ later)
  more_turn s e = ap (job_from s) (on e)

  pub long_turn : (s : Stand) {going : Bool} {o : List ℕ} (printed rest : List ℕ) → 4096 < until 10 (begun ++ here) → going ≡ false → o ≡ printed ++ refusal s 20
      → printed ++ job_from s (begun ++ (here ++ later)) ≡ o ++ more going rest
  long_turn s {o = o} printed rest h g e =
      ap (λ (b : List ℕ). printed ++ job_from s b) (on refl)
      ∙ ap (λ (b : List ℕ). printed ++ b) (job_long s ((begun ++ here) ++ later) (omega (arith, until_more 10 (begun ++ here) later)))
      ∙ sym e ∙ rw g (sym (append-nil o))
