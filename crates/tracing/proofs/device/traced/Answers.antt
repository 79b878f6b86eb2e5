-- From what the walk leaves to the answer of RULES 5; without leave to write, the code alone. Assumes nothing.
use Rattle.std.proofs.Common.{rules, ◌≡◌, ℕ, ◌≤◌, Bool, true, false, cond, List, length, refl, sym, ap, ◌∙◌, arith}
use Rattle.axis.specs.declared.Limits.{Limits}
use Rattle.axis.proofs.Table.{number_some}
use Rattle.ray.specs.Axes.{Grid}
use Rattle.ray.specs.declared.Ray.{Ray}
use Rattle.ray.specs.Length.{volume, list_of}
use Rattle.line.specs.Scene.{Scene}
use Rattle.line.specs.Raised.{scene_of}
use Rattle.line.specs.Scene.{volume_of, ray_of}
use Rattle.walk.specs.declared.call.Walked.{Walked}
use Rattle.walk.specs.Walked.{walked_of, Fitted}
use Rattle.tracing.specs.Answer.{Lists, lists, lent}
use Rattle.tracing.specs.Inside.{Suited, Accepted}
use Rattle.tracing.proofs.Accepting.{stopped, accepted, no_room, free_code}
use Rattle.tracing.proofs.Counted.{d_small}
use Rattle.tracing.proofs.Fitting.{both_put, both_kept, both_nowhere, all_told}
use Rattle.tracing.proofs.Answering.{trace_handed_on, accepts, refuses_when, accepts_when, asks_when, able_so, d_so, count_so, walked_so, fitted_so}
use Rattle.tracing.proofs.device.traced.Goals as goal

few : (ready : Bool) (n : ℕ) → cond ready n 0 ≤ n
few true n = omega arith
few false n = omega arith

-- the walk of a trace that no code from 1 to 7 refuses, read off the grid and the ray
record Walking (m : Limits) (g : Grid) (r : Ray) (l : Lists) (room : ℕ) (w : Walked) (vs ps : List ℕ) : Type 0 where
  ok : Accepted m g r (lent l)
  walked : w ≡ walked_of (volume g) r l.densities room
  fit : Fitted (volume g) r room vs ps l.voxels l.parts
  number : w.entries ≡ length (list_of (volume g) r)

walking : (m : Limits) (g : Grid) (r : Ray) (l : Lists) → Suited m → Accepted m g r (lent l) → (s : Scene) → s ≡ scene_of m g r → (room : ℕ) (w : Walked) (vs ps : List ℕ)
    → w ≡ walked_of (volume_of s) (ray_of s) l.densities room → Fitted (volume_of s) (ray_of s) room vs ps l.voxels l.parts → Walking m g r l room w vs ps
walking m g r l suited ok s at room w vs ps told fitted =
    let walked : w ≡ walked_of (volume g) r l.densities room = walked_so m suited.small g r (lent l) ok s at _ _ told in
    record {
      ok = ok;
      walked = walked;
      fit = fitted_so m suited.small g r (lent l) ok s at fitted;
      number = ap (λ (x : Walked). x.entries) walked;
    }

pub returns-in_err-front : goal.returns-in_err-front
returns-in_err-front c =
    let a = c.args in
    let l = lists a.densities.now a.voxels.now a.parts.now 0 in
    refuses_when a.m a.g a.r l a.ready _ (stopped a.m a.g a.r (lent l) c.in_err-front.ensures (number_some _)) (number_some _) (trace_handed_on _ _ c.from_residual.ensures.1) refl refl

pub walk-w-requires-clause-able : goal.walk-w-requires-clause-able
walk-w-requires-clause-able c =
    let a = c.args in
    let l = lent (lists a.densities.now a.voxels.now a.parts.now 0) in
    let ok = accepted a.m a.g a.r l (sym c.in_ok-front.ensures) in (
      able_so a.m c.requires.small a.g a.r l ok _ c.scene_of-s.ensures,
      omega (arith, d_so a.m c.requires.small a.g a.r l ok _ c.scene_of-s.ensures, d_small a.m c.requires a.g a.r ok.grid ok.ends),
    )

pub walk-w-requires-clause-densities_len : goal.walk-w-requires-clause-densities_len
walk-w-requires-clause-densities_len c =
    let a = c.args in
    let l = lent (lists a.densities.now a.voxels.now a.parts.now 0) in
    let ok = accepted a.m a.g a.r l (sym c.in_ok-front.ensures) in
    ok.densities_are ∙ sym (count_so a.m c.requires.small a.g a.r l ok _ c.scene_of-s.ensures)

pub walk-w-requires-clause-room_in_bounds : goal.walk-w-requires-clause-room_in_bounds
walk-w-requires-clause-room_in_bounds c =
    let a = c.args in
    let l = lent (lists a.densities.now a.voxels.now a.parts.now 0) in
    let ok = accepted a.m a.g a.r l (sym c.in_ok-front.ensures) in
    let some = few a.ready (length a.voxels.now) in
    (omega (arith, c.room_of-room.ensures), omega (arith, c.room_of-room.ensures, ok.lists_are))

pub returns-then-lent-w : goal.returns-then-lent-w
returns-then-lent-w c =
    let a = c.args in
    let l = lists a.densities.now a.voxels.now a.parts.now 0 in
    let front = sym c.in_ok-front.ensures in
    let w = walking a.m a.g a.r l c.requires (accepted a.m a.g a.r (lent l) front) _ c.scene_of-s.ensures _ _ _ _ c.walk-w.ensures.value c.walk-w.ensures.fitted in
    let some = few a.ready (length a.voxels.now) in
    let short = c.if-lent-w.true in
    let old = both_kept w.fit (omega (arith, c.room_of-room.ensures, w.number)) in
    refuses_when a.m a.g a.r l a.ready 8 (no_room a.m a.g a.r (lent l) front (omega (arith, w.number))) (λ z. omega arith) refl old.0 old.1

pub returns-then-ready : goal.returns-then-ready
returns-then-ready c =
    let a = c.args in
    let l = lists a.densities.now a.voxels.now a.parts.now 0 in
    let w = walking a.m a.g a.r l c.requires (accepted a.m a.g a.r (lent l) (sym c.in_ok-front.ensures)) _ c.scene_of-s.ensures _ _ _ _ c.walk-w.ensures.value c.walk-w.ensures.fitted in
    let room_is : c.room_of-room.result ≡ length a.voxels.now = c.room_of-room.ensures ∙ ap (λ (b : Bool). cond b (length a.voxels.now) 0) c.if-ready.true in
    let enough = c.if-lent-w.false in
    let fits : length (list_of (volume a.g) a.r) ≤ c.room_of-room.result = omega (arith, w.number) in
    let new = both_put w.fit fits in
    let free = free_code a.m a.g a.r (lent l) (record { accepted = w.ok; room = omega (arith, w.number) }) in
    accepts_when a.m a.g a.r l c.if-ready.true (accepts a.m a.g a.r l free (all_told (volume a.g) a.r a.densities.now _ _ w.walked fits) new.0 new.1)

pub returns : goal.returns
returns c =
    let a = c.args in
    let l = lists a.densities.now a.voxels.now a.parts.now 0 in
    let w = walking a.m a.g a.r l c.requires (accepted a.m a.g a.r (lent l) (sym c.in_ok-front.ensures)) _ c.scene_of-s.ensures _ _ _ _ c.walk-w.ensures.value c.walk-w.ensures.fitted in
    let enough = c.if-lent-w.false in
    let old = both_nowhere w.fit (c.room_of-room.ensures ∙ ap (λ (b : Bool). cond b (length a.voxels.now) 0) c.if-ready.false) in
    let free = free_code a.m a.g a.r (lent l) (record { accepted = w.ok; room = omega (arith, w.number) }) in
    asks_when a.m a.g a.r l c.if-ready.false free (search rules) old.0 old.1
