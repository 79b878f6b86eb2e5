-- A piece of the input, answered and written in turns: what is kept from turn to turn. Assumes nothing.
use Prim.Native.Nat.{ℕ, ◌+◌, ◌≤◌}
use mathlib.Core.Bool.{true}
use mathlib.Core.List.{List, [], ◌++◌, append_assoc}
use mathlib.Core.Path.{◌≡◌, refl, ap, sym, ◌∙◌, subst}
use lib.ListN.{length, take, drop, drop_of_length-le}
use native.Mathlib.Omega.{arith}
use Rattle.std.specs.Prelude.{Result, Ok, IfOk}
use Rattle.job.specs.declared.state.State.{State}
use Rattle.job.specs.Sound.{Sound}
use Rattle.job.specs.declared.step.Pumped.{Pumped}
use Rattle.load.specs.Cut.{Begun}
use Rattle.job.specs.Move.{read}
use Rattle.job.specs.InAll.{Held, onward, Pumping}
use Rattle.job.proofs.Lengths.{AsLong, as_long, still}
use Rattle.trace.specs.declared.Stop.{Stop}
use Rattle.trace.specs.Behind.{Behind}

-- the bytes `gone` were handed out for writing, and the piece goes on at `next`
pub record Draining (st : State) (piece : List ℕ) (k₀ k : Held) (here : State) (next : ℕ) : Type 0 where
  pub kept : AsLong k₀ k
  pub begun : Begun here.have k.line
  pub lines : read here ≤ read st + next
  pub within : next ≤ length piece
  pub gone : List ℕ
  pub same : (later : List ℕ) → onward st k₀.line k₀.densities (piece ++ later) ≡ gone ++ onward here k.line k.densities (drop next piece ++ later)

module _ {st : State} {piece : List ℕ} {k₀ : Held} where
  pub drain_begins : Begun st.have k₀.line → Draining st piece k₀ k₀ st 0
  drain_begins b = record { kept = as_long; begun = b; lines = omega arith; within = omega arith; gone = []; same = λ later. refl }

  module _ {k : Held} {here : State} {next : ℕ} (d : Draining st piece k₀ k here next) where
    pub drain_on : {p : Pumped} {k' : Held} → p.moved.going ≡ true → AsLong k k' → Pumping here 0 next piece k p k' → Draining st piece k₀ k' p.moved.state p.next
    drain_on {p} {k'} e l h = record {
      kept = still d.kept l;
      begun = h.begun;
      lines = omega (arith, d.lines, h.lines);
      within = h.within;
      gone = d.gone ++ take p.moved.at k'.out;
      same = λ later. d.same later ∙ ap (λ (l : List ℕ). d.gone ++ l) (rw e at (h.same later)) ∙ sym (append_assoc d.gone (take p.moved.at k'.out) _);
    }

    pub drain_ends : length piece ≤ next → Behind st k₀.line k₀.densities piece here k.line k.densities
    drain_ends h = record { begun = d.begun; gone = d.gone; same = λ later. rw (drop_of_length-le piece h) at (d.same later) }

pub as_standing : {r : Result State Stop} {st : State} (line : List ℕ) → r ≡ Ok st → IfOk r (λ now. Begun now.have line) → Sound st.load st.rays × Begun st.have line
as_standing {st = st} line e h = (st.sound, subst (λ (r : Result State Stop). IfOk r (λ now. Begun now.have line)) e h)

-- the program's loop: the lists keep their lengths, and the job stands somewhere
pub record Serving (piece₀ : List ℕ) (k₀ : Held) (piece : List ℕ) (k : Held) (st : State) : Type 0 where
  pub piece_kept : length piece ≡ length piece₀
  pub kept : AsLong k₀ k
  pub begun : Begun st.have k.line
