-- RULES 7 read off the promises: a call of `append` beside a call of `trace` that is lent the tails of the same lists, and a call of
-- `append` where there is no tail. Assumes nothing.
use Prim.Native.Nat.{ℕ, ◌≤◌, ◌<◌}
use mathlib.Core.Path.{◌≡◌, sym, ap, ◌∙◌}
use mathlib.Core.Bool.{true}
use mathlib.Core.List.{List, [], ◌∷◌, ◌++◌}
use mathlib.Core.Logic.{◌⊎◌, ⊎_elim}
use native.Mathlib.Omega.{arith}
use lib.ListN.{length, take, drop}
use Rattle.axis.specs.declared.Limits.{Limits}
use Rattle.axis.specs.Codes.{first, row}
use Rattle.ray.specs.Axes.{Grid}
use Rattle.ray.specs.declared.Ray.{Ray}
use Rattle.ray.specs.declared.Lent.{Lent}
use Rattle.ray.specs.Codes.{front_rows}
use Rattle.tracing.specs.declared.Trace.{Trace}
use Rattle.tracing.specs.Answer.{lists, lent, refused, Answers}
use Rattle.tracing.proofs.Appending.{answer_behind, voxels_behind, parts_behind, code_beyond}
use Rattle.tracing.proofs.OneCall.{Traced, code_is, free, zeros, voxels_unchanged, parts_unchanged}

module _ {m : Limits} {g : Grid} {r : Ray} {densities vs ps vs' ps' : List ℕ} {filled : ℕ} {a : Trace}
    (t : Answers m g r (lists densities vs ps filled) a vs' ps') where
  -- the answer is that of the trace, and each list is its filled places and then what the trace leaves of its tail
  module _ (hv : filled ≤ length vs) (hp : filled ≤ length ps) {b : Trace} {tv tp : List ℕ} (u : Traced m g r densities (drop filled vs) (drop filled ps) b tv tp) where
    pub append_answer : a ≡ b
    append_answer = t.answer ∙ answer_behind m g r densities vs ps filled hv hp ∙ sym u.answer

    pub append_voxels : vs' ≡ take filled vs ++ tv
    append_voxels = t.voxels_now ∙ voxels_behind m g r densities vs ps filled hv hp ∙ ap (λ (ys : List ℕ). take filled vs ++ ys) (sym u.voxels_now)

    pub append_parts : ps' ≡ take filled ps ++ tp
    append_parts = t.parts_now ∙ parts_behind m g r densities vs ps filled hv hp ∙ ap (λ (ys : List ℕ). take filled ps ++ ys) (sym u.parts_now)

  abbrev l : Lent
  l = lent (lists densities vs ps filled)

  -- beyond the end of a list: the first of the codes 1 to 7 that applies, else 8, and both lists unchanged
  module _ (beyond : (length vs < filled) ⊎ (length ps < filled)) where
    not_accepted : a.code ≡ 0 → ⊥
    not_accepted h = let f = free t h in ⊎_elim (λ k. omega (arith, f.room)) (λ k. omega (arith, f.room, f.accepted.lists_are)) beyond

    pub beyond_refused : a ≡ refused (first (front_rows m g r l ++ (row 8 true ∷ [])))
    beyond_refused = zeros t not_accepted ∙ ap refused (code_is t ∙ code_beyond m g r l beyond)

    pub beyond_voxels : vs' ≡ vs
    beyond_voxels = voxels_unchanged t not_accepted

    pub beyond_parts : ps' ≡ ps
    beyond_parts = parts_unchanged t not_accepted
