-- From what the trace answers to what its entry point promises. Assumes nothing.
use Prim.Native.Nat.{ℕ}
use mathlib.Core.Path.{◌≡◌, refl, sym, ap, ◌∙◌}
use mathlib.Core.Bool.{Bool}
use mathlib.Core.List.{List}
use native.Mathlib.Decide.{ℕ_discrete}
use lib.Dec.{eqb}
use lib.ListN.{length}
use borrow.Author.Tests.{eq-eqb, ne_eqb}
use Rattle.axis.specs.declared.Limits.{Limits}
use Rattle.axis.specs.Codes.{first}
use Rattle.axis.proofs.Table.{then, then_stop, then_on, joined}
use Rattle.ray.specs.Axes.{Grid}
use Rattle.ray.specs.declared.Ray.{Ray}
use Rattle.ray.specs.Codes.{trace_rows}
use Rattle.tracing.specs.declared.Trace.{Trace}
use Rattle.tracing.specs.Answer.{Lists, lent, code_of, voxels_after, parts_after}
use Rattle.tracing.specs.Inside.{AnswersWhen}
use Rattle.tracing.proofs.OneCall.{fields, made, when_code, when_refused}
use Rattle.ilvoresta.specs.Entry.{length_row, trace_code, after, six_of, Traced}

module _ (m : Limits) (g : Grid) (r : Ray) (l : Lists) (ans : List ℕ) where
  in_turn : trace_code m g r (lent l) (length ans) ≡ then (code_of m g r (lent l)) (first (length_row 6 (length ans)))
  in_turn = joined (trace_rows m g r (lent l)) (length_row 6 (length ans)) refl

module _ {m : Limits} {g : Grid} {r : Ray} {l : Lists} {ans : List ℕ} {t : Trace} {vs ps : List ℕ} where
  -- the trace refuses, whether or not it may write: no list is touched
  pub untraced : (ready : Bool) → AnswersWhen ready m g r l t vs ps → (t.code ≡ 0 → ⊥) → Traced m g r l ans t.code vs ps ans
  untraced ready a h =
      let old = when_refused ready a h in
      record {
        code_is = sym (in_turn m g r l ans ∙ rw (← when_code ready a) (then_stop t.code _ h));
        voxels_now = rw (ne_eqb t.code 0 h) old.0;
        parts_now = rw (ne_eqb t.code 0 h) old.1;
        answer_now = rw (ne_eqb t.code 0 h) refl;
      }

  -- a trace that is not refused: the length of the list is all that is left
  pub traced : AnswersWhen (eqb (length ans) 6) m g r l t vs ps → t.code ≡ 0 → {c : ℕ} {ans' : List ℕ} → c ≡ first (length_row 6 (length ans)) → ans' ≡ after c (six_of t) ans
      → Traced m g r l ans c vs ps ans'
  unfolding voxels_after parts_after
  traced a e {c} {ans'} k f = elim (ℕ_discrete (length ans) 6) [ yes six ↦ filled six | no other ↦ left other ]
    where
      free : code_of m g r (lent l) ≡ 0
      free = sym (when_code _ a) ∙ e

      code : c ≡ trace_code m g r (lent l) (length ans)
      code = k ∙ sym (in_turn m g r l ans ∙ then_on _ _ free)

      -- the list has six places, and holds the six numbers
      filled : length ans ≡ 6 → Traced m g r l ans c vs ps ans'
      filled six =
          let b = made a (eq-eqb _ 6 six) in
          let c_0 : c ≡ 0 = k ∙ rw (eq-eqb _ 6 six) refl in
          record {
            code_is = code;
            voxels_now = rw c_0 (b.voxels_now ∙ rw free refl);
            parts_now = rw c_0 (b.parts_now ∙ rw free refl);
            answer_now = rw c_0 (f ∙ rw c_0 (ap six_of (fields b e)));
          }

      -- it has not, and nothing is written
      left : (length ans ≡ 6 → ⊥) → Traced m g r l ans c vs ps ans'
      left other =
          let off = ne_eqb _ 6 other in
          let c_17 : c ≡ 17 = k ∙ rw off refl in
          record {
            code_is = code;
            voxels_now = rw c_17 (a.voxels_now ∙ rw off refl);
            parts_now = rw c_17 (a.parts_now ∙ rw off refl);
            answer_now = rw c_17 (f ∙ rw c_17 refl);
          }
