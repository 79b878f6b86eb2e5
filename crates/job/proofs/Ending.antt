-- The end of the input. Assumes nothing.
use Prim.Native.Nat.{ℕ, ◌+◌, ◌^◌, ◌<◌}
use mathlib.Core.List.{List, [], ◌∷◌}
use mathlib.Core.Path.{◌≡◌, refl, sym, ◌∙◌}
use lib.ListN.{length, take}
use native.Mathlib.Omega.{arith}
use borrow.Author.Tests.{ne_eqb}
use Rattle.text.specs.Line.{line_of}
use Rattle.text.specs.declared.word.Kind.{Kind}
use Rattle.text.specs.declared.word.Kind.TheVariants.{Grid, Dens, Own}
use Rattle.load.specs.Loaded.{kind_number}
use Rattle.load.specs.Cut.{Begun}
use Rattle.load.proofs.Cutting.{begun_length, begun_plain}
use Rattle.job.specs.declared.state.State.{State}
use Rattle.job.specs.Stand.{stand_of}
use Rattle.job.specs.Line.{refusal}
use Rattle.job.specs.Job.{END, at_end, job_from}
use Rattle.job.specs.Move.{due, read}
use Rattle.job.proofs.Flow.{job_end}

module _ (st : State) {line : List ℕ} (densities : List ℕ) (b : Begun st.have line) where
  at_end_lem : at_end (stand_of st densities) (take st.have line) ≡ job_from (stand_of st densities) (take st.have line)
  at_end_lem = sym (job_end (stand_of st densities) (take st.have line) (begun_plain b))

  pub end_short : (st.have ≡ 0 → ⊥) → refusal (stand_of st densities) 20 ≡ job_from (stand_of st densities) (take st.have line)
  end_short h = go (take st.have line) (begun_length b) ∙ at_end_lem
    where
      go : (l : List ℕ) → length l ≡ st.have → refusal (stand_of st densities) 20 ≡ at_end (stand_of st densities) l
      go [] e = absurd (h (sym e))
      go (x ∷ xs) e = refl

  module _ (e : st.have ≡ 0) where
    pub end_early : (due st ≡ 2 → ⊥) → refusal (stand_of st densities) 22 ≡ job_from (stand_of st densities) (take st.have line)
    end_early h = rw (e, ne_eqb (due st) 2 h) refl ∙ at_end_lem

    pub end_well : due st ≡ 2 → line_of END (st.rays ∷ []) ≡ job_from (stand_of st densities) (take st.have line)
    end_well h = rw (e, h) refl ∙ at_end_lem

-- the line that is due is of another kind than the job's own
pub not_own : (kind : Kind) {due : ℕ} → (kind ≡ Own → ⊥) → kind_number kind ≡ due → due ≡ 2 → ⊥
not_own Grid h e f = omega (arith, e, f)
not_own Dens h e f = omega (arith, e, f)
not_own Own h e f = h refl

-- ahead of the RAY lines there are few lines
pub early_number : (st : State) → (due st ≡ 2 → ⊥) → read st + 1 < 2 ^ 64
early_number st h = let s = st.sound in omega (arith, s.early h, s.load.early, s.load.loaded, s.load.few)
