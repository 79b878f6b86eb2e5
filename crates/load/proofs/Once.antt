-- Two answers allowed by a promise of this crate are equal, and so is what it says of a lent list. Assumes nothing.
use Prim.Native.Nat.{ℕ, ◌+◌, ◌-◌, ◌*◌}
use mathlib.Core.Bool.{cond}
use mathlib.Core.List.{List, [], ◌∷◌, ◌++◌, append-nil}
use mathlib.Core.Path.{◌≡◌, refl, ap, sym, ◌∙◌}
use native.Mathlib.Omega.{arith}
use lib.Dec.{ltb}
use lib.ListN.{length, get_or, take, drop, length-append, length-drop}
use lib.Seq.{take-append_seam}
use borrow.Author.Tests.{le-ltb, lt-ltb}
use Rattle.std.specs.Prelude.{Option, None, Some, Result, Ok, Err}
use Rattle.axis.specs.declared.Limits.{Limits}
use Rattle.axis.specs.declared.refusal.Refusal.{Refusal}
use Rattle.axis.specs.declared.refusal.Refusal.TheVariants.{Count, Spacing, Planes, Densities, Outside, EqualEnds, Lists, Room, Answer}
use Rattle.axis.proofs.Once.{once}
use Rattle.ray.specs.Length.{volume, count}
use Rattle.text.specs.Split.{until}
use Rattle.text.specs.declared.word.Kind.{Kind}
use Rattle.text.specs.declared.word.Kind.TheVariants as kind
use Rattle.load.specs.declared.cut.Cut.{Cut}
use Rattle.load.specs.declared.cut.Cut.TheVariants.{Line, More}
use Rattle.load.specs.declared.cut.Cut.TheVariants as cut
use Rattle.load.specs.declared.refusal.Bad.{Bad}
use Rattle.load.specs.declared.refusal.Bad.TheVariants.{Grid, Long, Word, Due, Fields, Number, Voxels}
use Rattle.load.specs.declared.state.Load.{Load}
use Rattle.load.specs.Cut.{Begun, CutInto}
use Rattle.load.specs.Loaded.{Loaded, nothing, kind_number, due_at, loaded_of}
use Rattle.load.specs.Line.{Reading, takes, refuses, leaves, line_read}
use Rattle.load.specs.Refusal.{bad_number}
use Rattle.load.specs.Read.{reading_of}
use Rattle.load.specs.Sound.{Sound, Kept}
use Rattle.load.proofs.Cutting.{until_behind, begun_length, begun_plain}

-- the bytes of a line that an answer speaks of: none where it is too long
abbrev pub standing : Cut → List ℕ → List ℕ
standing (Line len next) line = take len line
standing (More len) line = take len line
standing cut.Long line = []

-- the answer, out of the line that has begun with the rest of the piece
abbrev cut_of : (whole piece : List ℕ) → Cut
cut_of whole piece =
    let len : ℕ = until 10 whole in
    cond (ltb 4096 len) cut.Long (cond (ltb len (length whole)) (Line len (length piece + len + 1 - length whole)) (More len))

module _ (before piece : List ℕ) (from : ℕ) where
  abbrev whole : List ℕ
  whole = before ++ drop from piece

  -- where it is so many bytes with no LF, and then the rest
  parted : {len : ℕ} {line : List ℕ} (rest : List ℕ) → Begun len line → until 10 rest ≡ 0 → whole ≡ take len line ++ rest
      → (until 10 whole ≡ len) × (length whole ≡ len + length rest) × (take len line ≡ take len whole)
  parted {len} {line} rest b z e =
      let begun = take len line in
      let n : length begun ≡ len = begun_length b in
      let front : take (length begun) whole ≡ begun = ap (take (length begun)) e ∙ take-append_seam begun rest in
      (omega (arith, n, ap (until 10) e, until_behind 10 begun rest (begun_plain b)), omega (arith, n, ap length e, length-append begun rest), sym front ∙ ap (λ k. take k whole) n)

  cut_is : (r : Cut) (line : List ℕ) → CutInto r before piece from line → (r ≡ cut_of whole piece) × (standing r line ≡ standing (cut_of whole piece) whole)
  unfolding until
  cut_is (Line len next) line (b, e, h, k) =
      let t = parted (10 ∷ drop next piece) b refl e in
      let n : length piece + len + 1 - length whole ≡ next = omega (arith, t.1, length-drop next piece) in
      rw (t.0, n, le-ltb 4096 len b.short, lt-ltb len (length whole) (omega (arith, t.1))) (refl, t.2)
  cut_is (More len) line (b, e) =
      let t = parted [] b refl (e ∙ sym (append-nil (take len line))) in
      rw (t.0, le-ltb 4096 len b.short, le-ltb len (length whole) (omega (arith, t.1))) (refl, t.2)
  cut_is cut.Long line h = rw (lt-ltb 4096 (until 10 whole) h) (refl, refl)

  pub cut_once : (r r' : Cut) (line line' : List ℕ) → CutInto r before piece from line → CutInto r' before piece from line' → (r ≡ r') × (standing r line ≡ standing r' line')
  cut_once r r' line line' x y = (once (cut_is r line x).0 (cut_is r' line' y).0, once (cut_is r line x).1 (cut_is r' line' y).1)

-- a sound state is told by what is loaded: the lines that are left say how many densities are filled
abbrev state_of : Loaded → Load
state_of l = record { limits = l.limits; grid = l.grid; lines = l.lines; left = l.left; filled = count (volume l.grid) - l.left * l.grid.x.n }

state_is : (st : Load) (ds : List ℕ) → Sound st → st ≡ state_of (loaded_of st ds)
state_is st ds s = ap (λ (n : ℕ). record { limits = st.limits; grid = st.grid; lines = st.lines; left = st.left; filled = n }) (omega (arith, s.loaded))

pub new_once : (m : Limits) (r s : Load) → ((ds : List ℕ) → loaded_of r ds ≡ nothing m) → Sound r → ((ds : List ℕ) → loaded_of s ds ≡ nothing m) → Sound s → r ≡ s
new_once m r s e x f y = once (state_is r [] x ∙ ap state_of (once (e []) (f []))) (state_is s [] y)

-- a kind of line by its number
abbrev kind_at : ℕ → Kind
kind_at n = get_or (kind.Grid ∷ kind.Dens ∷ []) n kind.Own

kind_back : (k : Kind) → kind_at (kind_number k) ≡ k
kind_back kind.Grid = refl
kind_back kind.Dens = refl
kind_back kind.Own = refl

-- `due`
pub due_once : (st : Load) (r s : Kind) → kind_number r ≡ due_at st.lines st.left → kind_number s ≡ due_at st.lines st.left → r ≡ s
due_once st r s e f = sym (kind_back r) ∙ ap kind_at (once e f) ∙ kind_back s

-- a refusal by its code
abbrev bad_of : ℕ → Bad
bad_of n =
    let grids : List Refusal = Count ∷ Count ∷ Spacing ∷ Planes ∷ Densities ∷ Outside ∷ EqualEnds ∷ Lists ∷ Room ∷ [] in
    cond (ltb n 20) (Grid (get_or grids n Answer)) (get_or (Long ∷ Word ∷ Due ∷ Fields ∷ Number ∷ []) (n - 20) Voxels)

bad_back : (b : Bad) → bad_of (bad_number b) ≡ b
bad_back (Grid Count) = refl
bad_back (Grid Spacing) = refl
bad_back (Grid Planes) = refl
bad_back (Grid Densities) = refl
bad_back (Grid Outside) = refl
bad_back (Grid EqualEnds) = refl
bad_back (Grid Lists) = refl
bad_back (Grid Room) = refl
bad_back (Grid Answer) = refl
bad_back Long = refl
bad_back Word = refl
bad_back Due = refl
bad_back Fields = refl
bad_back Number = refl
bad_back Voxels = refl

abbrev took_of : Reading → Result (Option Load) Bad
took_of (takes l) = Ok (Some (state_of l))
took_of (refuses code) = Err (bad_of code)
took_of (leaves l) = Ok None

took_is : (st : Load) (r : Result (Option Load) Bad) (ds : List ℕ) → Kept st r → r ≡ took_of (reading_of st r ds)
took_is st (Ok (Some next)) ds f = ap (λ l. Ok (Some l)) (state_is next ds f.sound)
took_is st (Ok None) ds f = refl
took_is st (Err b) ds f = ap Err (sym (bad_back b))

pub take_once : (st : Load) (r r' : Result (Option Load) Bad) (word line before ds ds' : List ℕ) (fields : ℕ)
    → Kept st r → reading_of st r ds ≡ line_read word fields (loaded_of st before) line
    → Kept st r' → reading_of st r' ds' ≡ line_read word fields (loaded_of st before) line → (r ≡ r') × (reading_of st r ds ≡ reading_of st r' ds')
take_once st r r' word line before ds ds' fields k e k' e' = (once (took_is st r ds k ∙ ap took_of (once e e')) (took_is st r' ds' k'), once e e')
