-- The whole job in memory: what its loop keeps, and what it comes to. Assumes nothing.
use Prim.Native.Nat.{ℕ, suc, ◌+◌, ◌-◌, ◌≤◌, ◌<◌}
use mathlib.Core.Bool.{Bool, true, false, cond}
use mathlib.Core.List.{List, [], ◌++◌, append_assoc, append-nil}
use mathlib.Core.Path.{◌≡◌, refl, ap, sym, ◌∙◌, subst}
use lib.Dec.{leb}
use lib.ListN.{length, take, drop, length-append, drop_of_length-le}
use lib.Seq.{length-take-le}
use native.Mathlib.Omega.{arith}
use borrow.Author.Tests.{le-leb, lt-leb, leb-true}
use Rattle.axis.specs.declared.Limits.{Limits}
use Rattle.text.specs.Split.{until}
use Rattle.load.specs.Cut.{Begun}
use Rattle.job.specs.declared.state.State.{State}
use Rattle.job.specs.declared.step.Pumped.{Pumped}
use Rattle.std.specs.Prelude.{Option, None, Some}
use Rattle.job.specs.Stand.{Stand, at_first, stand_of}
use Rattle.job.specs.Job.{job_from, job_of}
use Rattle.job.specs.Move.{read}
use Rattle.job.specs.InAll.{Held, held, more, onward, Pumping, Turned}
use Rattle.job.specs.Read.{written, Wrote}
use Rattle.job.proofs.Lengths.{AsLong, as_long, still}

pub wrote_all : {text : List ℕ} (out : List ℕ) {to room : ℕ} → text ≡ take to out → to ≤ length out → length out ≡ room → Wrote text room out (Some to)
wrote_all {text} out {to} {room} e h l =
    let n : length text ≡ to = ap length e ∙ length-take-le to out h in
    record { told = rw (n, le-leb to room (omega arith)) refl; stands = λ g. rw n (sym e) }

pub wrote_short : (text out : List ℕ) (room : ℕ) → room < length text → Wrote text room out None
wrote_short text out room h = record { told = rw (lt-leb (length text) room h) refl; stands = λ g. absurd (omega arith) }

-- from the first line on, it is the whole job
pub wrote_job : (m : Limits) (st : State) (densities input : List ℕ) {room : ℕ} {out : List ℕ} {r : Option ℕ} → ((ds : List ℕ) → stand_of st ds ≡ at_first m)
    → Wrote (job_from (stand_of st densities) input) room out r → Wrote (job_of m input) room out r
unfolding job_of
wrote_job m st densities input {room} {out} {r} e w = subst (λ (s : Stand). Wrote (job_from s input) room out r) (e densities) w

-- what is written has room
pub written_fits : (text : List ℕ) (room n : ℕ) → written text room ≡ Some n → n ≤ room
written_fits text room n = go (leb (length text) room) refl
  where
    go : (b : Bool) → leb (length text) room ≡ b → cond b (Some (length text)) None ≡ Some n → n ≤ room
    go true e h = let m : length text ≡ n = cc in omega (arith, leb-true (length text) room e)
    go false e h = let z : ◌≡◌ {A = ℕ} 0 1 = cc in absurd (omega arith)

-- ---- one turn: lines of the input, or its end
module _ {st : State} {next : ℕ} {input : List ℕ} {k : Held} (counted : read st + st.have ≤ next) where
  pub fed : {r : Pumped} {k' : Held} → Pumping st 0 next input k r k' → next < r.next → Turned input st next k r k'
  fed h on = record {
    begun = h.begun;
    counted = omega (arith, h.counted);
    within = h.within;
    room = h.room;
    moves = λ e. on;
    same = h.same [];
  }

  pub ended : {at : ℕ} (out : List ℕ) → Begun st.have k.line → next ≤ length input → length input ≤ next → at ≤ length k.out
      → take at out ≡ job_from (stand_of st k.densities) (take st.have k.line)
      → Turned input st next k (record { moved = record { state = st; at = at; going = false }; next = next }) (held k.line k.densities out)
  ended {at} out b h all fits e = record {
    begun = b;
    counted = counted;
    within = h;
    room = fits;
    moves = λ z. let no : ◌≡◌ {A = ℕ} 0 1 = cc in absurd (omega arith);
    same = rw (drop_of_length-le input all, append-nil (take at out), append-nil (take st.have k.line)) (sym e);
  }

-- ---- the loop
pub record Running (text input : List ℕ) (k₀ : Held) (out₀ : List ℕ) (k : Held) (out : List ℕ) (st : State) (next to : ℕ) : Type 0 where
  pub kept : AsLong k₀ k
  pub out_kept : length out ≡ length out₀
  pub begun : Begun st.have k.line
  pub counted : read st + st.have ≤ next
  pub within : next ≤ length input
  pub room : to ≤ length out
  pub same : text ≡ take to out ++ onward st k.line k.densities (drop next input)

-- what is left to do
abbrev pub left : Bool → (input : List ℕ) → ℕ → ℕ
left going input next = cond going (suc (length input - next)) 0

-- where the job is over, what stands is all of it
pub run_over : (going : Bool) (text input out₀ out : List ℕ) (st : State) (k : Held) (next to : ℕ) → going ≡ false
    → text ≡ take to out ++ more going (onward st k.line k.densities (drop next input)) → to ≤ length out → length out ≡ length out₀
    → Wrote text (length out₀) out (Some to)
run_over going text input out₀ out st k next to over same room kept = wrote_all out (same ∙ rw over (append-nil (take to out))) room kept

pub new_begun : {have : ℕ} (line : List ℕ) → have ≡ 0 → Begun have line
unfolding until
new_begun line h = record { short = omega arith; unended = rw h refl }

pub run_begins : (input : List ℕ) (k : Held) (out : List ℕ) {st : State} → read st ≡ 0 → st.have ≡ 0
    → Running (job_from (stand_of st k.densities) input) input k out k out st 0 0
run_begins input k out {st} r h = record {
  kept = as_long;
  out_kept = refl;
  begun = new_begun k.line h;
  counted = omega arith;
  within = omega arith;
  room = omega arith;
  same = rw h refl;
}

module _ {text input out₀ out : List ℕ} {k₀ k : Held} {st : State} {next to : ℕ} (r : Running text input k₀ out₀ k out st next to) where
  -- a turn was taken
  module _ {p : Pumped} {k' : Held} (t : Turned input st next k p k') where
    abbrev rest : List ℕ
    rest = more p.moved.going (onward p.moved.state k'.line k'.densities (drop p.next input))

    behind : text ≡ (take to out ++ take p.moved.at k'.out) ++ rest
    behind =
        r.same
        ∙ ap (λ (l : List ℕ). take to out ++ l) (rw (append-nil, append-nil) at t.same)
        ∙ sym (append_assoc (take to out) (take p.moved.at k'.out) rest)

    pub run_less : {going : Bool} → going ≡ true → left p.moved.going input p.next < left going input next
    run_less {going} go = subst (λ (b : Bool). left p.moved.going input p.next < left b input next) (sym go) (less p.moved.going t.moves)
      where
        less : (b : Bool) → (b ≡ true → next < p.next) → left b input p.next < suc (length input - next)
        less true h = omega (arith, h refl, t.within)
        less false h = omega arith

    module _ (same-room : length k'.out ≡ length k.out) where
      pub part_length : length (take p.moved.at k'.out) ≡ p.moved.at
      part_length = length-take-le p.moved.at k'.out (omega (arith, t.room))

      pub run_short : (out' : List ℕ) → length out < to + p.moved.at → Wrote text (length out₀) out' None
      run_short out' h =
          wrote_short text out' (length out₀)
          (omega (arith, simp length-append at (ap length behind), length-take-le to out r.room, part_length, r.out_kept))

    -- what was answered is put behind the rest
    module _ {out' : List ℕ} {to' : ℕ} (lo : length out' ≡ length out) (put : take to' out' ≡ take to out ++ take p.moved.at k'.out) (fits : to' ≤ length out) where
      pub run_ends : p.moved.going ≡ false → Wrote text (length out₀) out' (Some to')
      run_ends e = wrote_all out' (behind ∙ rw (put, e) (append-nil _)) (omega (arith, lo)) (lo ∙ r.out_kept)

      pub run_on : AsLong k k' → p.moved.going ≡ true → Running text input k₀ out₀ k' out' p.moved.state p.next to'
      run_on l e = record {
        kept = still r.kept l;
        out_kept = lo ∙ r.out_kept;
        begun = t.begun;
        counted = t.counted;
        within = t.within;
        room = omega (arith, lo);
        same = behind ∙ rw (put, e) refl;
      }
