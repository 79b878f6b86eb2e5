-- A line that grows out of a piece of the input. Assumes nothing.
use Prim.Native.Nat.{ℕ, zero, suc, ◌+◌, ◌-◌, ◌≤◌, ◌<◌}
use mathlib.Core.Bool.{Bool, true, false, cond}
use mathlib.Core.List.{List, [], ◌∷◌, ◌++◌, append_assoc}
use mathlib.Core.Path.{◌≡◌, refl, ap, sym, ◌∙◌}
use lib.Dec.{eqb}
use lib.ListN.{length, take, drop, length-take, length-drop}
use lib.Seq.{take_all, drop-drop, length-take-le}
use native.Mathlib.Omega.{arith}
use borrow.Author.Tests.{eqb-true}
use Rattle.std.proofs.lemmas.List.{take_rest}
use Rattle.std.proofs.lemmas.Slice.{take-put_mid}
use borrow.Rule.Slice.PartMut.{put_mid}
use Rattle.std.specs.Prelude.{min}
use Rattle.text.specs.Split.{until}
use Rattle.text.proofs.Split.{until_within}
use Rattle.load.specs.declared.cut.Cut.TheVariants.{Line, More}
use Rattle.load.specs.Cut.{Begun, CutInto}

-- behind bytes with no sep
pub until_behind : (sep : ℕ) (p q : List ℕ) → until sep p ≡ length p → until sep (p ++ q) ≡ length p + until sep q
unfolding until
until_behind sep [] q e = omega arith
until_behind sep (x ∷ xs) q e = go (eqb x sep) (until_behind sep xs q) e
  where
    go : (b : Bool) → (until sep xs ≡ length xs → until sep (xs ++ q) ≡ length xs + until sep q) → cond b zero (suc (until sep xs)) ≡ suc (length xs)
        → cond b zero (suc (until sep (xs ++ q))) ≡ suc (length xs) + until sep q
    go true rest f = absurd (omega arith)
    go false rest f = omega (arith, rest (omega arith))

-- no sep stands ahead of it, and it stands there
pub until_front : (sep : ℕ) (xs : List ℕ) → until sep (take (until sep xs) xs) ≡ until sep xs
unfolding until
until_front sep [] = refl
until_front sep (x ∷ xs) = go (eqb x sep) refl (until_front sep xs)
  where
    go : (b : Bool) → eqb x sep ≡ b → until sep (take (until sep xs) xs) ≡ until sep xs
        → until sep (take (cond b zero (suc (until sep xs))) (x ∷ xs)) ≡ cond b zero (suc (until sep xs))
    go true e f = refl
    go false e f = rw (e, f) refl

-- the first m bytes tell as much of it as lies among them
pub until_take : (sep m : ℕ) (xs : List ℕ) → until sep (take m xs) ≡ min m (until sep xs)
unfolding until
until_take sep zero xs = omega arith
until_take sep (suc m) [] = omega arith
until_take sep (suc m) (x ∷ xs) = go (eqb x sep) (until_take sep m xs)
  where
    go : (b : Bool) → until sep (take m xs) ≡ min m (until sep xs) → cond b zero (suc (until sep (take m xs))) ≡ min (suc m) (cond b zero (suc (until sep xs)))
    go true e = omega arith
    go false e = omega arith

pub until_met : (sep : ℕ) (xs : List ℕ) → until sep xs < length xs → xs ≡ take (until sep xs) xs ++ (sep ∷ drop (suc (until sep xs)) xs)
unfolding until
until_met sep [] h = absurd (omega arith)
until_met sep (x ∷ xs) h = go (eqb x sep) refl (until_met sep xs) h
  where
    go : (b : Bool) → eqb x sep ≡ b → (until sep xs < length xs → xs ≡ take (until sep xs) xs ++ (sep ∷ drop (suc (until sep xs)) xs))
        → cond b zero (suc (until sep xs)) < suc (length xs)
        → x ∷ xs ≡ take (cond b zero (suc (until sep xs))) (x ∷ xs) ++ (sep ∷ drop (suc (cond b zero (suc (until sep xs)))) (x ∷ xs))
    go true e rest g = ap (λ (y : ℕ). y ∷ xs) (eqb-true x sep e)
    go false e rest g = ap (λ (ys : List ℕ). x ∷ ys) (rest (omega arith))

-- what has begun of a line is as long as it is said to be, and has no LF
pub begun_length : {have : ℕ} {line : List ℕ} → Begun have line → length (take have line) ≡ have
begun_length {have} {line} b = omega (arith, b.unended, until_within 10 (take have line), length-take have line)

pub begun_plain : {have : ℕ} {line : List ℕ} → Begun have line → until 10 (take have line) ≡ length (take have line)
begun_plain b = b.unended ∙ sym (begun_length b)

module _ {have : ℕ} {line : List ℕ} (b : Begun have line) (piece : List ℕ) (from : ℕ) where
  -- what is left of the piece, as the code takes it
  abbrev rest : List ℕ
  rest = take (length piece - from) (drop from piece)

  rest_is : rest ≡ drop from piece
  rest_is = take_rest piece from

  -- how many bytes of it are looked at, and how many of these stand ahead of an LF
  module _ {m n : ℕ} (seen : m ≡ min (length rest) (4097 - have)) (is : n ≡ until 10 (take m rest)) where
    among : n ≡ min m (until 10 rest)
    among = is ∙ until_take 10 m rest

    pub cut_long : 4096 - have < n → 4096 < until 10 (take have line ++ drop from piece)
    cut_long h = rw (← rest_is) (omega (arith, among, until_behind 10 (take have line) rest (begun_plain b), begun_length b))

    -- where the bytes ahead of the next LF are put behind those that stand
    module _ {new : List ℕ} (copied : new ≡ take n rest) (room : n ≤ 4096 - have) (long : 4096 ≤ length line) where
      -- where they are not too many, the whole piece was as good as looked at
      told : n ≡ until 10 rest
      told = omega (arith, among, seen, until_within 10 rest)

      abbrev line' : List ℕ
      line' = put_mid have (have + n - have) line new

      within : n ≤ length rest
      within = omega (arith, told, until_within 10 rest)

      put : take (have + n) line' ≡ take have line ++ take n rest
      put =
          let as_long : length new ≡ n = ap length copied ∙ length-take-le n rest within in
          take-put_mid have (have + n - have) line new (have + n) (omega (arith, as_long)) (omega (arith, b.short)) ∙ ap (λ r. take have line ++ r) copied

      cut_begun : Begun (have + n) line'
      cut_begun = record {
        short = omega (arith, b.short);
        unended = ap (until 10) put ∙ until_behind 10 (take have line) (take n rest) (begun_plain b) ∙ rw (begun_length b, told, until_front 10 rest) refl;
      }

      pub cut_more : length rest ≤ n → CutInto (More (have + n)) (take have line) piece from line'
      cut_more h = (cut_begun, rw (put, take_all n rest h, rest_is) refl)

      pub cut_ends : n < length rest → CutInto (Line (have + n) (from + n + 1)) (take have line) piece from line'
      cut_ends h =
          let behind : from + suc n ≡ from + n + 1 = omega arith in
          let met = rw (← told) at (until_met 10 rest (rw (← told) h)) in
          let parts : drop from piece ≡ take n rest ++ (10 ∷ drop (suc n) (drop from piece)) = sym rest_is ∙ met ∙ ap (λ r. take n rest ++ (10 ∷ drop (suc n) r)) rest_is in
          (cut_begun, ap (λ r. take have line ++ r) parts ∙ rw (put, append_assoc, drop-drop, behind) refl, omega arith, omega (arith, ap length rest_is, length-drop from piece))

-- The same byte by byte: up to i the piece is cut, and the first n bytes of the line are what has begun.
pub record Cutting (before piece : List ℕ) (from : ℕ) (line₀ line : List ℕ) (i n : ℕ) : Type 0 where
  pub within : i ≤ length piece
  pub since : from ≤ i
  pub kept : length line ≡ length line₀
  pub begun : Begun n line
  pub same : before ++ drop from piece ≡ take n line ++ drop i piece

pub cut_begins : {piece : List ℕ} {from : ℕ} {line₀ : List ℕ} {have : ℕ} → from ≤ length piece → Begun have line₀ → Cutting (take have line₀) piece from line₀ line₀ from have
cut_begins h b = record { within = h; since = omega arith; kept = refl; begun = b; same = refl }
