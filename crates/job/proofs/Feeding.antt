-- The loop over the lines of a piece: what it keeps from line to line. Assumes nothing.
use Prim.Native.Nat.{ℕ, ◌+◌, ◌-◌, ◌≤◌, ◌<◌}
use mathlib.Core.Bool.{Bool, true, false, ◌&&◌}
use mathlib.Core.List.{List}
use mathlib.Core.Logic.{⊎_elim}
use mathlib.Core.Path.{◌≡◌, refl, ◌∙◌}
use lib.Dec.{ltb, leb}
use lib.ListN.{length}
use native.Mathlib.Nat.{eq-or-lt_of_le}
use native.Mathlib.Omega.{arith}
use borrow.Author.Tests.{ltb-true, leb-true, lt-ltb, le-leb}
use Rattle.job.specs.declared.state.State.{State}
use Rattle.job.specs.declared.step.Pumped.{Pumped}
use Rattle.load.specs.Cut.{Begun}
use Rattle.job.specs.Sound.{room}
use Rattle.job.specs.InAll.{Held, starting, Pumping, another}
use Rattle.job.proofs.Lengths.{AsLong, as_long, still}

module _ (p : Pumped) (piece out : ℕ) (fits : p.moved.at ≤ out) where
  pub goes_on : another p piece out ≡ true → (p.moved.going ≡ true) × (p.next < piece) × (p.moved.at + room ≤ out)
  goes_on = go p.moved.going (ltb p.next piece) (leb room (out - p.moved.at)) refl refl refl
    where
      go : (b c d : Bool) → p.moved.going ≡ b → ltb p.next piece ≡ c → leb room (out - p.moved.at) ≡ d
          → (b && (c && d)) ≡ true → (p.moved.going ≡ true) × (p.next < piece) × (p.moved.at + room ≤ out)
      go true true true e f g h = (e, ltb-true p.next piece f, omega (arith, leb-true room (out - p.moved.at) g))
      go true true false e f g h = let z : ◌≡◌ {A = ℕ} 0 1 = cc in absurd (omega arith)
      go true false d e f g h = let z : ◌≡◌ {A = ℕ} 0 1 = cc in absurd (omega arith)
      go false c d e f g h = let z : ◌≡◌ {A = ℕ} 0 1 = cc in absurd (omega arith)

  pub stops_not : another p piece out ≡ false → p.moved.going ≡ true → p.next < piece → p.moved.at + room ≤ out → ⊥
  stops_not h e f g =
      let room-left : leb room (out - p.moved.at) ≡ true = le-leb room (out - p.moved.at) (omega arith) in
      let t : true ≡ false = rw (e, lt-ltb p.next piece f, room-left) at h in
      let z : ◌≡◌ {A = ℕ} 0 1 = cc in omega arith

-- The piece is taken from `from` on and answered from the start of the output. Until a byte is taken, all is as it was.
pub record Feeding (st : State) (from : ℕ) (piece : List ℕ) (k₀ : Held) (p : Pumped) (k : Held) : Type 0 where
  pub kept : AsLong k₀ k
  pub taken : Pumping st 0 from piece k₀ p k
  pub first : from ≡ p.next → (p.moved.going ≡ true) × (p.moved.at ≡ 0)

module _ {st : State} {from : ℕ} {piece : List ℕ} {k₀ : Held} where
  pub feed_begins : Begun st.have k₀.line → from ≤ length piece → Feeding st from piece k₀ (starting st 0 from) k₀
  feed_begins b h = record {
    kept = as_long;
    taken = record { begun = b; lines = omega arith; counted = omega arith; room = omega arith; back = omega arith; within = h; same = λ later. refl };
    first = λ e. (refl, refl);
  }

  module _ {k : Held} {p : Pumped} (f : Feeding st from piece k₀ p k) where
    pub room_now : p.moved.at ≤ length k.out
    room_now = omega (arith, f.taken.room, f.kept.out)

    pub feed_on : {q : Pumped} {k' : Held} → p.moved.going ≡ true → p.next < q.next → AsLong k k'
        → Pumping p.moved.state p.moved.at p.next piece k q k' → Feeding st from piece k₀ q k'
    feed_on e on l h = record {
      kept = still f.kept l;
      taken = record {
        begun = h.begun;
        lines = omega (arith, f.taken.lines, h.lines);
        counted = omega (arith, f.taken.counted, h.counted);
        room = omega (arith, h.room, f.kept.out);
        back = omega (arith, f.taken.back);
        within = h.within;
        same = λ later. f.taken.same later ∙ rw e (h.same later);
      };
      first = λ n. absurd (omega (arith, f.taken.back));
    }

    pub feed_moves : another p (length piece) (length k₀.out) ≡ false → room ≤ length k₀.out → from < length piece → from < p.next
    feed_moves stop roomy h =
        ⊎_elim
        (λ (e : from ≡ p.next). let i = f.first e in absurd (stops_not p (length piece) (length k₀.out) f.taken.room stop i.0 (omega arith) (omega (arith, i.1))))
        (λ (g : from < p.next). g)
        (eq-or-lt_of_le f.taken.back)
