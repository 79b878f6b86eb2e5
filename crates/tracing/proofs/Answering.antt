-- From what the code finds to the answer of RULES 5: the code, the fields and both lists afterwards. Assumes nothing.
use Prim.Native.Nat.{ℕ}
use mathlib.Core.Path.{◌≡◌, refl, sym, ap, ◌∙◌, subst}
use mathlib.Core.Bool.{Bool, true, false}
use mathlib.Core.List.{List, map}
use lib.IntN.{ℤ, pos}
use borrow.Author.Tests.{ne_eqb}
use Rattle.std.specs.Prelude.{Result, Ok, Err}
use Rattle.std.specs.Result.{IsErrAnd}
use Rattle.axis.specs.declared.Limits.{Limits}
use Rattle.axis.specs.declared.refusal.Refusal.{Refusal}
use Rattle.axis.specs.Refusal.{number}
use Rattle.ray.specs.Axes.{Grid}
use Rattle.ray.specs.declared.Ray.{Ray}
use Rattle.ray.specs.declared.Lent.{Lent}
use Rattle.ray.specs.Length.{volume, d_of, count, part_of, list_of}
use Rattle.ray.proofs.TurnedList.{map_same}
use Rattle.ray.proofs.Moved.{Moved, d_moved, squared_moved, part_moved, span_moved, list_moved, crossed_moved, sum_moved, count_moved}
use Rattle.line.specs.Scene.{Scene}
use Rattle.line.specs.Scene.{volume_of, ray_of, Able}
use Rattle.line.specs.Raised.{Small, scene_of}
use Rattle.line.proofs.Raised.{moved, able}
use Rattle.walk.specs.declared.call.Walked.{Walked}
use Rattle.walk.specs.Walked.{walked_of, Fitted}
use Rattle.tracing.specs.declared.Trace.{Trace}
use Rattle.tracing.specs.Answer.{Lists, lent, code_of, refused, accepted, answer_of, written, voxels_after, parts_after, Answers}
use Rattle.tracing.specs.Inside.{Accepted, trace_of, AnswersWhen}

-- a refusal handed on by `?`
pub trace_handed_on : (t : Result Trace Refusal) (x : Refusal) → IsErrAnd t (λ e. e ≡ x) → trace_of t ≡ refused (number x)
trace_handed_on (Ok t) x h = absurd h
trace_handed_on (Err e) x h = ap (λ (y : Refusal). refused (number y)) h

module _ (m : Limits) (g : Grid) (r : Ray) (l : Lists) where
  pub refuses : (c : ℕ) {a : Trace} {vs ps : List ℕ} → c ≡ code_of m g r (lent l) → (c ≡ 0 → ⊥) → a ≡ refused c → vs ≡ l.voxels → ps ≡ l.parts → Answers m g r l a vs ps
  unfolding answer_of voxels_after parts_after
  refuses c e h k v p = record { answer = rw (← e, ne_eqb c 0 h) k; voxels_now = rw (← e, ne_eqb c 0 h) v; parts_now = rw (← e, ne_eqb c 0 h) p }

  pub accepts : {a : Trace} {vs ps : List ℕ} → code_of m g r (lent l) ≡ 0 → a ≡ accepted (volume g) r l.densities
      → vs ≡ written l.filled (list_of (volume g) r) l.voxels → ps ≡ written l.filled (map (part_of (volume g) r) (list_of (volume g) r)) l.parts
      → Answers m g r l a vs ps
  unfolding answer_of voxels_after parts_after
  accepts e k v p = record { answer = rw e k; voxels_now = rw e v; parts_now = rw e p }

  -- where the call may write, and where it may not
  module _ {a : Trace} {vs ps : List ℕ} where
    pub refuses_when : (ready : Bool) (c : ℕ) → c ≡ code_of m g r (lent l) → (c ≡ 0 → ⊥) → a ≡ refused c → vs ≡ l.voxels → ps ≡ l.parts → AnswersWhen ready m g r l a vs ps
    refuses_when true c e h k v p = let t = refuses c e h k v p in record { answer = t.answer; voxels_now = t.voxels_now; parts_now = t.parts_now }
    refuses_when false c e h k v p = record { answer = k ∙ ap refused e; voxels_now = v; parts_now = p }

    pub accepts_when : {ready : Bool} → ready ≡ true → Answers m g r l a vs ps → AnswersWhen ready m g r l a vs ps
    accepts_when e t = rw e (record { answer = t.answer; voxels_now = t.voxels_now; parts_now = t.parts_now })

    pub asks_when : {ready : Bool} → ready ≡ false → code_of m g r (lent l) ≡ 0 → a ≡ refused 0 → vs ≡ l.voxels → ps ≡ l.parts → AnswersWhen ready m g r l a vs ps
    asks_when e h k v p = rw e (record { answer = k ∙ ap refused (sym h); voxels_now = v; parts_now = p })

-- ---- what the walk finds of the scene is the grid's and the ray's
module _ (m : Limits) (small : Small m) (g : Grid) (r : Ray) (l : Lent) (ok : Accepted m g r l) (s : Scene) (e : s ≡ scene_of m g r) where
  abbrev raised : Scene
  raised = scene_of m g r

  abbrev k : ℤ
  k = pos m.coord

  on : Moved k (volume g) (volume_of raised) r (ray_of raised)
  on = moved m g r ok.grid ok.ends

  pub able_so : Able s
  able_so = subst Able (sym e) (able m g r ok.grid ok.ends small)

  list_so : list_of (volume_of s) (ray_of s) ≡ list_of (volume g) r
  list_so = ap (λ (x : Scene). list_of (volume_of x) (ray_of x)) e ∙ list_moved on

  parts_so : map (part_of (volume_of s) (ray_of s)) (list_of (volume_of s) (ray_of s)) ≡ map (part_of (volume g) r) (list_of (volume g) r)
  parts_so =
      ap (λ (x : Scene). map (part_of (volume_of x) (ray_of x)) (list_of (volume_of x) (ray_of x))) e
      ∙ ap (map (part_of (volume_of raised) (ray_of raised))) (list_moved on)
      ∙ map_same _ _ (part_moved on) (list_of (volume g) r)

  pub d_so : d_of (ray_of s) ≡ d_of r
  d_so = ap (λ (x : Scene). d_of (ray_of x)) e ∙ d_moved on

  pub count_so : count (volume_of s) ≡ count (volume g)
  count_so = ap (λ (x : Scene). count (volume_of x)) e ∙ count_moved on

  pub walked_so : {w : Walked} (densities : List ℕ) (room : ℕ) → w ≡ walked_of (volume_of s) (ray_of s) densities room → w ≡ walked_of (volume g) r densities room
  walked_so densities room h =
      h
      ∙ ap (λ (x : Scene). walked_of (volume_of x) (ray_of x) densities room) e
      ∙ rw (
        list_moved on,
        crossed_moved on,
        span_moved on,
        d_moved on,
        squared_moved on,
        sum_moved on densities,
      ) refl

  pub fitted_so : {room : ℕ} {vs ps vs₀ ps₀ : List ℕ} → Fitted (volume_of s) (ray_of s) room vs ps vs₀ ps₀ → Fitted (volume g) r room vs ps vs₀ ps₀
  fitted_so f = record { voxels_now = rw list_so at f.voxels_now; parts_now = rw parts_so at f.parts_now }
