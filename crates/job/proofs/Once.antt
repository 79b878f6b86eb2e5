-- Two answers that a promise allows are equal, and so are the bytes of both outputs as far as the job prints. Of `feed` and `pump`,
-- which do not say how much of a piece one call takes, two allowed answers print the same in all, whatever comes later.
-- Assumes nothing.
use Prim.Native.Nat.{ℕ, zero, suc, ◌+◌, ◌≤◌}
use mathlib.Core.Bool.{Bool, false}
use mathlib.Core.List.{List, [], ◌∷◌, ◌++◌, append-nil}
use mathlib.Core.HLevel.{is_prop→PathP}
use mathlib.Core.Path.{◌≡◌, refl, ap, sym, ◌∙◌}
use native.Mathlib.Omega.{arith}
use lib.ListN.{length, take, drop}
use lib.Seq.{length-take-le}
use Rattle.axis.specs.declared.Limits.{Limits}
use Rattle.axis.proofs.Once.{once}
use Rattle.text.proofs.Once.{put_once}
use Rattle.job.specs.declared.state.State.{State}
use Rattle.job.specs.declared.step.Pumped.{Pumped}
use Rattle.std.specs.Prelude.{Option}
use Rattle.std.proofs.Props.{props}
use Rattle.load.specs.declared.state.Load.{Load}
use Rattle.load.specs.Cut.{Begun}
use Rattle.load.specs.Loaded.{loaded_of}
use Rattle.job.specs.Stand.{Stand, at_first, stand_of}
use Rattle.job.specs.Job.{job_from, job_of}
use Rattle.job.specs.Read.{written}
use Rattle.job.specs.Sound.{Sound, room}
use Rattle.job.specs.InAll.{Held, more, Alike}

pub job_once : (m : Limits) (input : List ℕ) (room : ℕ) (r s : Option ℕ) (out out' : List ℕ)
    → r ≡ written (job_of m input) room → (length (job_of m input) ≤ room → take (length (job_of m input)) out ≡ job_of m input)
    → s ≡ written (job_of m input) room → (length (job_of m input) ≤ room → take (length (job_of m input)) out' ≡ job_of m input)
    → (r ≡ s) × (length (job_of m input) ≤ room → take (length (job_of m input)) out ≡ take (length (job_of m input)) out')
job_once m input room r s out out' e f e' f' = (once e e', λ h. once (f h) (f' h))

none_filled : (n : ℕ) → take {A = ℕ} n (0 ∷ []) ≡ [] → n ≡ 0
none_filled zero e = refl
none_filled (suc n) e = let z : ◌≡◌ {A = ℕ} 0 1 = cc in absurd (omega arith)

-- states are equal where their numbers are: the fact that they carry has one proof
same_state : (r s : State) → r.load ≡ s.load → r.rays ≡ s.rays → r.have ≡ s.have → r ≡ s
same_state r s e f g = λ i. record {
  load = e i;
  rays = f i;
  have = g i;
  sound = is_prop→PathP (λ j. Sound (e j) (f j)) (λ j. hlevel props) r.sound s.sound i;
}

-- The laws on a state are told of its numbers, whether they are sound or not.
abbrev stand : (load : Load) (rays : ℕ) → List ℕ → Stand
stand load rays densities = record { load = loaded_of load densities; rays = rays }

module _ (m : Limits) (l l' : Load) (n n' h h' : ℕ) where
  pub numbers_once : ((ds : List ℕ) → stand l n ds ≡ at_first m) → h ≡ 0 → ((ds : List ℕ) → stand l' n' ds ≡ at_first m) → h' ≡ 0
      → (l ≡ l') × ((n ≡ n') × (h ≡ h'))
  numbers_once x z y z' =
      let e : stand l n [] ≡ stand l' n' [] = once (x []) (y []) in
      let empty : (l : Load) (n : ℕ) → ((ds : List ℕ) → stand l n ds ≡ at_first m) → l.filled ≡ 0 = λ l n w. none_filled l.filled (ap (λ (t : Stand). t.load.densities) (w (0 ∷ []))) in (
        λ i. record { limits = (e i).load.limits; grid = (e i).load.grid; lines = (e i).load.lines; left = (e i).load.left; filled = once (empty l n x) (empty l' n' y) i },
        (λ i. (e i).rays, once z z'),
      )

pub new_once : (m : Limits) (r s : State) → ((ds : List ℕ) → stand_of r ds ≡ at_first m) → r.have ≡ 0 → ((ds : List ℕ) → stand_of s ds ≡ at_first m) → s.have ≡ 0 → r ≡ s
new_once m r s x h y k =
    let t = numbers_once m r.load s.load r.rays s.rays r.have s.have x h y k in
    same_state r s t.0 t.1.0 t.1.1

-- `finish`, where a line has begun as the state says: the place behind what is printed, and all bytes ahead of it
pub finish_once : (stands : List ℕ → Stand) (have : ℕ) (before line densities : List ℕ) (at r r' : ℕ) (out out' : List ℕ) → at + room ≤ length out → at + room ≤ length out' → Begun have line
    → r ≤ at + room → ((line densities : List ℕ) → Begun have line → take r out ≡ take at before ++ job_from (stands densities) (take have line))
    → r' ≤ at + room → ((line densities : List ℕ) → Begun have line → take r' out' ≡ take at before ++ job_from (stands densities) (take have line))
    → (r ≡ r') × (take r out ≡ take r' out')
finish_once stands have before line densities at r r' out out' o o' begun h e h' e' =
    put_once before (job_from (stands densities) (take have line)) at r r' out out' (omega arith) (omega arith) (e line densities begun) (e' line densities begun)

-- what the job prints in all (`in_all`), from where its numbers are these
pub record Spot : Type 0 where
  pub load : Load
  pub rays : ℕ
  pub have : ℕ
  pub at : ℕ
  pub going : Bool
  pub next : ℕ

abbrev pub printed : Spot → Held → (piece later : List ℕ) → List ℕ
printed p k piece later = take p.at k.out ++ more p.going (job_from (stand p.load p.rays k.densities) (take p.have k.line ++ (drop p.next piece ++ later)))

module _ (piece : List ℕ) (p r s : Spot) (k₀ k k' : Held) where
  module _ (e : (later : List ℕ) → printed p k₀ piece later ≡ printed r k piece later) (e' : (later : List ℕ) → printed p k₀ piece later ≡ printed s k' piece later) where
    pub printed_once : (later : List ℕ) → printed r k piece later ≡ printed s k' piece later
    printed_once later = sym (e later) ∙ e' later

    -- where the job has stopped, all that it prints is printed
    pub printed_stopped : r.going ≡ false → s.going ≡ false → r.at ≤ length k.out → s.at ≤ length k'.out → (r.at ≡ s.at) × (take r.at k.out ≡ take s.at k'.out)
    printed_stopped f f' h h' =
        let same : take r.at k.out ≡ take s.at k'.out = rw (f, f', append-nil, append-nil) at (printed_once []) in
        (sym (length-take-le r.at k.out h) ∙ ap length same ∙ length-take-le s.at k'.out h', same)

abbrev spot_of : Pumped → Spot
spot_of p = record { load = p.moved.state.load; rays = p.moved.state.rays; have = p.moved.state.have; at = p.moved.at; going = p.moved.going; next = p.next }

-- `r` and `s` are answers of `feed`, or of `pump`, called where `p` says
module _ (piece : List ℕ) (p r s : Pumped) (k₀ k k' : Held) (e : Alike piece p k₀ r k) (e' : Alike piece p k₀ s k') where
  pub feed_once : Alike piece r k s k'
  feed_once = printed_once piece (spot_of p) (spot_of r) (spot_of s) k₀ k k' e e'

  pub stopped_once : r.moved.going ≡ false → s.moved.going ≡ false → r.moved.at ≤ length k.out → s.moved.at ≤ length k'.out
      → (r.moved.at ≡ s.moved.at) × (take r.moved.at k.out ≡ take s.moved.at k'.out)
  stopped_once = printed_stopped piece (spot_of p) (spot_of r) (spot_of s) k₀ k k' e e'
