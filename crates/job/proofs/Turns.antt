-- A piece of the input is taken in, up to the end of one line: what holds behind each way that the line was cut. Assumes nothing.
use Prim.Native.Nat.{ℕ, ◌+◌, ◌≤◌}
use mathlib.Core.Bool.{false}
use mathlib.Core.List.{List, ◌++◌}
use mathlib.Core.Path.{◌≡◌, refl, ap, ◌∙◌, subst}
use lib.ListN.{length, take, drop, length-append, length-drop, length-take}
use lib.Seq.{drop-length}
use native.Mathlib.Omega.{arith}
use Rattle.text.specs.Split.{until}
use Rattle.load.specs.declared.cut.Cut.{Cut}
use Rattle.load.specs.declared.cut.Cut.TheVariants.{Line, More, Long}
use Rattle.load.specs.Line.{bad_line}
use Rattle.load.specs.Cut.{CutInto}
use Rattle.load.proofs.Cutting.{begun_length, begun_plain}
use Rattle.job.specs.declared.state.State.{State}
use Rattle.job.specs.declared.state.Moved.{Moved}
use Rattle.job.specs.Stand.{stand_of}
use Rattle.job.specs.Line.{line_step}
use Rattle.job.specs.Sound.{Sound}
use Rattle.job.specs.Move.{Ready, Kept, came_to, after, read}
use Rattle.job.specs.InAll.{Held, held, starting, Alike, Pumping}
use Rattle.job.proofs.Flow.{line_turn, more_turn, long_turn}

-- the same state with so many bytes of the next line
abbrev pub with : (st : State) → ℕ → Sound st.load st.rays → State
with st have s = record { load = st.load; rays = st.rays; have = have; sound = s }

-- the piece is at hand from `from` on, and is cut into this
pub record Turn (st : State) (at from : ℕ) (piece : List ℕ) (k : Held) (cut : Cut) (line : List ℕ) : Type 0 where
  pub ready : Ready st at (length k.out)
  pub within : from ≤ length piece
  pub parted : CutInto cut (take st.have k.line) piece from line

module _ {st : State} {at from : ℕ} {piece line : List ℕ} {k : Held} where
  pub as_cut : {t u : Cut} → t ≡ u → Turn st at from piece k t line → Turn st at from piece k u line
  as_cut e h = subst (λ (t : Cut). Turn st at from piece k t line) e h

  module _ {cut : Cut} (t : Turn st at from piece k cut line) where
    pub ready_with : (have : ℕ) {s : Sound st.load st.rays} → Ready (with st have s) at (length k.out)
    ready_with have = record { room = t.ready.room; number = t.ready.number }

    -- the line is done with, by an answer or by a refusal
    done : {s : Sound st.load st.rays} {m : Moved} {next : ℕ} {k' : Held} → Kept (with st 0 s) at m → read m.state + from ≤ read st + next → from ≤ next → next ≤ length piece
        → Alike piece (starting st at from) k (record { moved = m; next = next }) k' → Pumping st at from piece k (record { moved = m; next = next }) k'
    unfolding until
    done kept lines back within same = record {
      begun = record { short = omega (arith, kept.have); unended = rw kept.have refl };
      lines = lines;
      counted = omega (arith, kept.have);
      room = omega (arith, kept.room, t.ready.room);
      back = back;
      within = within;
      same = same;
    }

  pub answered : {s : Sound st.load st.rays} {len next : ℕ} {m : Moved} {densities out : List ℕ} → Turn st at from piece k (Line len next) line → Kept (with st 0 s) at m
      → came_to m out densities ≡ after (take at k.out) (line_step (stand_of st k.densities) (take len line))
      → Pumping st at from piece k (record { moved = m; next = next }) (held line densities out)
  answered {len = len} {next = next} {m = m} {densities = densities} {out = out} t kept step =
      let w = t.parted in
      done t kept (omega (arith, kept.lines, w.2)) (omega (arith, w.2)) w.3
      (λ later.
      line_turn (take st.have k.line) (drop from piece) later (stand_of st k.densities) m.going (take m.at out) (stand_of m.state densities)
      (take at k.out) (take len line) (drop next piece) (begun_plain w.0) w.1 step
      ∙ rw kept.have refl)

  pub refused : {s : Sound st.load st.rays} {m : Moved} {densities out : List ℕ} → Turn st at from piece k Long line → Kept (with st 0 s) at m → m.state ≡ with st 0 s → m.going ≡ false
      → take m.at out ≡ take at k.out ++ bad_line (read st) 20 → Pumping st at from piece k (record { moved = m; next = length piece }) (held line densities out)
  refused t kept is g e =
      done t kept (omega (arith, t.within, ap read is)) t.within (omega arith)
      (λ later. long_turn (take st.have k.line) (drop from piece) later (stand_of st k.densities) (take at k.out) _ t.parted g e)

  -- the piece is used up
  pub used_up : {s : Sound st.load st.rays} {len : ℕ} → Turn st at from piece k (More len) line → Pumping st at from piece k (starting (with st len s) at (length piece)) (held line k.densities k.out)
  used_up {len = len} t =
      let begun = begun_length t.parted.0 in
      record {
        begun = t.parted.0;
        lines = omega (arith, t.within);
        counted = omega (arith, t.within, begun, ap length t.parted.1, length-append (take st.have k.line) (drop from piece), length-take st.have k.line, length-drop from piece);
        room = omega (arith, t.ready.room);
        back = t.within;
        within = omega arith;
        same = λ later.
            ap (λ (l : List ℕ). take at k.out ++ l) (more_turn (take st.have k.line) (drop from piece) later (stand_of st k.densities) t.parted.1)
            ∙ rw (drop-length piece) refl;
      }
