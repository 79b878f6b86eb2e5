-- What one call holds, accepted or refused: read off the promises of `trace`, `append` and `trace_when`, and nothing else. Assumes nothing.
use Prim.Native.Nat.{ℕ, ◌+◌, ◌≤◌, ◌<◌}
use mathlib.Core.Path.{◌≡◌, refl, sym, ap, ◌∙◌}
use mathlib.Core.Bool.{Bool, true, false, cond}
use mathlib.Core.List.{List, ◌++◌, map, Memᴰ}
use native.Mathlib.Omega.{arith}
use native.Mathlib.Decide.{ℕ_discrete}
use native.Mathlib.Nat.{zero-add}
use lib.Dec.{eqb}
use lib.ListN.{length, take, drop, get_or, set, length-map, length-set}
use lib.Seq.{length-take-le, take_at, drop_at, take-append_seam, drop-append_seam, drop-drop, get_or-take}
use borrow.Author.Tests.{eq-eqb, ne_eqb}
use Rattle.axis.specs.declared.Limits.{Limits}
use Rattle.axis.specs.Codes.{first}
use Rattle.ray.specs.Axes.{Grid}
use Rattle.ray.specs.declared.Ray.{Ray}
use Rattle.ray.specs.Length.{volume, voxel, d_of, part_of, list_of, sum_of, crossed_of}
use Rattle.ray.specs.Codes.{end_rows, trace_rows}
use Rattle.ray.proofs.Fraction.{Is}
use Rattle.ray.proofs.Formula.{length_in}
use Rattle.ray.proofs.Equation1.{equation1}
use Rattle.tracing.specs.declared.Trace.{Trace}
use Rattle.tracing.specs.Answer.{Lists, lists, lent, code_of, refused, accepted, answer_of, written, voxels_after, parts_after, Answers}
use Rattle.tracing.specs.Inside.{AnswersWhen}
use Rattle.tracing.proofs.Demand2.{lengths, sum_over_all, answer_altered}
use Rattle.tracing.proofs.Accepting.{Free, code_free, free_code}

-- a call of `trace`: lent lists vs and ps, none of their places being filled, it answered a and left vs' and ps'
abbrev pub Traced : Limits → Grid → Ray → (densities vs ps : List ℕ) → Trace → (vs' ps' : List ℕ) → Type 0
Traced m g r densities vs ps a vs' ps' = Answers m g r (lists densities vs ps 0) a vs' ps'

-- the first n places behind those filled hold the new values, and every other place what it held
pub record Put (filled n : ℕ) (new old now : List ℕ) : Type 0 where
  pub ahead : take filled now ≡ take filled old
  pub here : take n (drop filled now) ≡ new
  pub later : drop (filled + n) now ≡ drop (filled + n) old

module _ (filled : ℕ) (new old : List ℕ) (h : filled ≤ length old) where
  behind : drop filled (written filled new old) ≡ new ++ drop (filled + length new) old
  behind = drop_at (take filled old) (new ++ drop (filled + length new) old) filled (length-take-le filled old h)

  put : (n : ℕ) → n ≡ length new → Put filled n new old (written filled new old)
  put n e = rw e (record {
    ahead = take_at (take filled old) (new ++ drop (filled + length new) old) filled (length-take-le filled old h);
    here = ap (take (length new)) behind ∙ take-append_seam new (drop (filled + length new) old);
    later =
        sym (drop-drop (length new) filled (written filled new old))
        ∙ ap (drop (length new)) behind
        ∙ drop-append_seam new (drop (filled + length new) old);
  })

-- the same at 0 places filled
pub record Front (n : ℕ) (new old now : List ℕ) : Type 0 where
  pub here : take n now ≡ new
  pub later : drop n now ≡ drop n old

front : (n : ℕ) (new old now : List ℕ) → Put 0 n new old now → Front n new old now
front n new old now p = record { here = p.here; later = rw zero-add at p.later }

module _ {m : Limits} {g : Grid} {r : Ray} {l : Lists} {a : Trace} {vs' ps' : List ℕ} (t : Answers m g r l a vs' ps') where
  -- the code is that of the first row that applies
  pub code_is : a.code ≡ first (trace_rows m g r (lent l))
  unfolding answer_of
  code_is = ap (λ (x : Trace). x.code) t.answer ∙ either (code_of m g r (lent l))
    where
      either : (c : ℕ) → (cond (eqb c 0) (accepted (volume g) r l.densities) (refused c)).code ≡ c
      either c = elim (ℕ_discrete c 0) [ yes e ↦ rw (eq-eqb c 0 e) (sym e) | no e ↦ rw (ne_eqb c 0 e) refl ]

  -- ---- accepted
  pub free : a.code ≡ 0 → Free m g r (lent l)
  free h = code_free m g r (lent l) (sym code_is ∙ h)

  pub accepts_free : Free m g r (lent l) → a.code ≡ 0
  accepts_free f = code_is ∙ free_code m g r (lent l) f

  module _ (h : a.code ≡ 0) where
    code_0 : code_of m g r (lent l) ≡ 0
    code_0 = sym code_is ∙ h

    -- every field is the definition's
    pub fields : a ≡ accepted (volume g) r l.densities
    unfolding answer_of
    fields = t.answer ∙ rw code_0 refl

    pub entries_are : a.entries ≡ length (list_of (volume g) r)
    entries_are = ap (λ (x : Trace). x.entries) fields

    pub crossed_is : a.crossed ≡ crossed_of (volume g) r
    crossed_is = ap (λ (x : Trace). x.crossed) fields

    pub denominator_is : a.denominator ≡ d_of r
    denominator_is = ap (λ (x : Trace). x.denominator) fields

    pub sum_is : a.sum ≡ sum_of (volume g) r l.densities
    sum_is = ap (λ (x : Trace). x.sum) fields

    -- sum over D is equation (1), over all voxels
    pub sum_equation1 : Is a.denominator (equation1 (volume g) r l.densities) a.sum
    sum_equation1 = rw (denominator_is, sum_is) (sum_over_all g r l.densities)

    -- RULES 5: the answer in front of both lists, and nothing else touched
    pub voxels_are : Put l.filled a.entries (list_of (volume g) r) l.voxels vs'
    unfolding voxels_after
    voxels_are = rw (t.voxels_now, code_0) (put l.filled (list_of (volume g) r) l.voxels (omega (arith, (free h).room)) a.entries entries_are)

    pub parts_are : Put l.filled a.entries (map (part_of (volume g) r) (list_of (volume g) r)) l.parts ps'
    unfolding parts_after
    parts_are =
        rw (t.parts_now, code_0)
        (put l.filled (map (part_of (volume g) r) (list_of (volume g) r)) l.parts (omega (arith, (free h).room, (free h).accepted.lists_are)) a.entries
        (entries_are ∙ sym (length-map (list_of (volume g) r) (part_of (volume g) r))))

  -- ---- refused (RULES 5)
  module _ (h : a.code ≡ 0 → ⊥) where
    code_not_0 : eqb (code_of m g r (lent l)) 0 ≡ false
    code_not_0 = ne_eqb (code_of m g r (lent l)) 0 (λ e. h (code_is ∙ e))

    pub zeros : a ≡ refused a.code
    unfolding answer_of
    zeros = t.answer ∙ rw code_not_0 refl ∙ ap refused (sym code_is)

    pub voxels_unchanged : vs' ≡ l.voxels
    unfolding voxels_after
    voxels_unchanged = t.voxels_now ∙ rw code_not_0 refl

    pub parts_unchanged : ps' ≡ l.parts
    unfolding parts_after
    parts_unchanged = t.parts_now ∙ rw code_not_0 refl

-- ---- a call that is told whether it may write: where it may it is a trace; its code, and a refusal
module _ {m : Limits} {g : Grid} {r : Ray} {l : Lists} {a : Trace} {vs' ps' : List ℕ} where
  pub made : {ready : Bool} → AnswersWhen ready m g r l a vs' ps' → ready ≡ true → Answers m g r l a vs' ps'
  made t e = record { answer = t.answer ∙ rw e refl; voxels_now = t.voxels_now ∙ rw e refl; parts_now = t.parts_now ∙ rw e refl }

  pub when_code : (ready : Bool) → AnswersWhen ready m g r l a vs' ps' → a.code ≡ code_of m g r (lent l)
  when_code true t = code_is (made t refl)
  when_code false t = ap (λ (x : Trace). x.code) t.answer

  pub when_refused : (ready : Bool) → AnswersWhen ready m g r l a vs' ps' → (a.code ≡ 0 → ⊥) → (vs' ≡ l.voxels) × (ps' ≡ l.parts)
  when_refused true t h = (voxels_unchanged (made t refl) h, parts_unchanged (made t refl) h)
  when_refused false t h = (t.voxels_now, t.parts_now)

-- ---- a trace that is accepted
module _ {m : Limits} {g : Grid} {r : Ray} {densities vs ps vs' ps' : List ℕ} {a : Trace} (t : Traced m g r densities vs ps a vs' ps') (h : a.code ≡ 0) where
  pub voxels_front : Front a.entries (list_of (volume g) r) vs vs'
  voxels_front = front a.entries (list_of (volume g) r) vs vs' (voxels_are t h)

  pub parts_front : Front a.entries (map (part_of (volume g) r) (list_of (volume g) r)) ps ps'
  parts_front = front a.entries (map (part_of (volume g) r) (list_of (volume g) r)) ps ps' (parts_are t h)

  -- RULES 3: the part beside each voxel that was written, over D, is the length
  pub lengths_are : (i : ℕ) → i < a.entries → Is a.denominator (length_in r (voxel (volume g) (get_or vs' i 0))) (get_or ps' i 0)
  lengths_are i k =
      let e : get_or vs' i 0 ≡ get_or (list_of (volume g) r) i 0 = sym (get_or-take a.entries vs' i 0 k) ∙ ap (λ (xs : List ℕ). get_or xs i 0) voxels_front.here in
      let f : get_or ps' i 0 ≡ get_or (map (part_of (volume g) r) (list_of (volume g) r)) i 0 = sym (get_or-take a.entries ps' i 0 k) ∙ ap (λ (xs : List ℕ). get_or xs i 0) parts_front.here in
      rw (e, f, denominator_is t h) (lengths g r i (omega (arith, entries_are t h)))

-- ---- two calls
-- Where a call is accepted, so is one of another ray through the same densities, if its ends are, it has no more entries, and it is lent
-- lists as long.
pub accepted_too : {m : Limits} {g : Grid} {r r' : Ray} {densities vs ps vs' ps' ws qs ws' qs' : List ℕ} {a b : Trace}
    → Traced m g r densities vs ps a vs' ps' → a.code ≡ 0 → Traced m g r' densities ws qs b ws' qs'
    → first (end_rows m r') ≡ 0 → length (list_of (volume g) r') ≤ length (list_of (volume g) r)
    → length ws ≡ length qs → length vs ≤ length ws → b.code ≡ 0
accepted_too t h u ends few lists long =
    let f = free t h in
    accepts_free u (record {
      accepted = record { grid = f.accepted.grid; ends = ends; densities_are = f.accepted.densities_are; lists_are = lists };
      room = omega (arith, f.room);
    })

module _ {m : Limits} {g : Grid} {r : Ray} {densities vs ps : List ℕ} {filled : ℕ} where
  -- RULES 5: with another density outside the list the call answers and leaves what it would have
  pub altered : {a : Trace} {vs' ps' : List ℕ} (w new : ℕ) → (Memᴰ w (list_of (volume g) r) → ⊥)
      → Answers m g r (lists (set densities w new) vs ps filled) a vs' ps' → Answers m g r (lists densities vs ps filled) a vs' ps'
  unfolding voxels_after parts_after
  altered w new outside t = record {
    answer = t.answer ∙ answer_altered g r densities w new outside m vs ps filled;
    voxels_now = t.voxels_now ∙ rw (length-set densities w new) refl;
    parts_now = t.parts_now ∙ rw (length-set densities w new) refl;
  }
