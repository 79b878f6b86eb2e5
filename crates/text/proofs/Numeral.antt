-- The readers know the numerals and nothing else: a number read is spelt so, and every number of 1 to 6 digits that is
-- spelt so is read. Assumes nothing.
use Prim.Native.Nat.{ℕ, zero, suc, ◌+◌, ◌*◌, ◌-◌, ◌/◌, ◌%◌, ◌≤◌, ◌<◌}
use mathlib.Core.Bool.{Bool, true, false, cond}
use mathlib.Core.List.{List, [], ◌∷◌, ◌++◌, append_assoc, append-nil}
use Rattle.std.specs.Prelude.{Option, None, Some, option_map}
use Rattle.std.proofs.lemmas.Option.{same_Some}
use mathlib.Core.Path.{◌≡◌, refl, ap, sym, ◌∙◌}
use native.Mathlib.Omega.{arith}
use lib.Dec.{eqb, leb}
use lib.IntN.{ℤ, pos, negsuc, nat_abs}
use lib.ListN.{length}
use borrow.Author.Tests.{eqb-true, eqb-false, leb-true, ne_eqb}
use Rattle.text.specs.Decimal.{decimal}
use Rattle.text.specs.Number.{digits, alone, natural_of, has_minus, negative, integer_of, numeral}
use Rattle.text.proofs.Decimal.{decimal_one, decimal_many, decimal_snoc, by_tens, headed, length_six, six_length}
use Rattle.text.proofs.Digits.{digits_step}
use Rattle.text.proofs.Told.{none_some, cond_some}

-- COMPLETE

-- the digits of n, at most six, are read as n, whatever follows
abbrev Read : ℕ → Type 0
Read n = n < 1000000 → (ds : List ℕ) → digits 0 (decimal n ++ ds) ≡ digits n ds

read_decimal : (n : ℕ) → Read n
read_decimal = by_tens Read one many
  where
    one : (n : ℕ) → n < 10 → Read n
    one n w g ds =
        let s : 0 * 10 + (48 + n - 48) ≡ n = omega arith in
        rw (decimal_one n w) (digits_step 0 (48 + n) ds (omega arith) (omega arith) (omega arith) ∙ rw s)

    many : (n : ℕ) → 10 ≤ n → Read (n / 10) → Read n
    many n w tens g ds =
        let s : n / 10 * 10 + (48 + n % 10 - 48) ≡ n = omega arith in
        rw (decimal_many n w, append_assoc) (tens (omega arith) ((48 + n % 10) ∷ ds) ∙ digits_step (n / 10) (48 + n % 10) ds (omega arith) (omega arith) (omega arith) ∙ rw s)

small_complete : (v : ℕ) → v < 1000000 → natural_of (decimal v) ≡ Some v
unfolding natural_of digits
small_complete zero g = rw (decimal_one 0 (omega arith)) refl
small_complete (suc v) g =
    let h = headed (suc v) in
    ap natural_of h.spelt ∙ rw (ne_eqb h.first 48 (λ z. omega (arith, h.leading (omega arith)))) (ap (digits 0) (sym h.spelt ∙ sym (append-nil _)) ∙ read_decimal (suc v) g [])

pub natural_complete : (v : ℕ) → length (decimal v) ≤ 6 → natural_of (decimal v) ≡ Some v
natural_complete v six = small_complete v (six_length v six)

no_minus : (v : ℕ) → has_minus (decimal v) ≡ false
unfolding has_minus
no_minus v = let h = headed v in ap has_minus h.spelt ∙ ne_eqb h.first 45 (λ z. omega (arith, h.digit))

pub integer_complete : (z : ℤ) → length (decimal (nat_abs z)) ≤ 6 → integer_of (numeral z) ≡ Some z
unfolding integer_of has_minus
integer_complete (pos v) six = rw (no_minus v, natural_complete v six) refl
integer_complete (negsuc v) six = rw (natural_complete (suc v) six) refl

-- SOUND

-- a digit that was read
record Took (acc d : ℕ) (ds : List ℕ) (v : ℕ) : Type 0 where
  low : 48 ≤ d
  high : d ≤ 57
  room : acc ≤ 99999
  rest : digits (acc * 10 + (d - 48)) ds ≡ Some v

took : (acc d : ℕ) (ds : List ℕ) {v : ℕ} → digits acc (d ∷ ds) ≡ Some v → Took acc d ds v
unfolding digits
took acc d ds e =
    let a = cond_some (leb 48 d) _ e in
    let b = cond_some (leb d 57) _ a.1 in
    let c = cond_some (leb acc 99999) _ b.1 in
    record { low = leb-true _ _ a.0; high = leb-true _ _ b.0; room = leb-true _ _ c.0; rest = c.1 }

digits_sound : (acc : ℕ) (ds : List ℕ) {v : ℕ} → 0 < acc → acc < 1000000 → digits acc ds ≡ Some v → (decimal v ≡ decimal acc ++ ds) × (v < 1000000)
unfolding digits
digits_sound acc [] {v} p g e = rw (← same_Some acc v e) (sym (append-nil (decimal acc)), g)
digits_sound acc (d ∷ ds) {v} p g e =
    let t = took acc d ds e in
    let r = digits_sound (acc * 10 + (d - 48)) ds (omega (arith, t.room)) (omega (arith, t.low, t.high, t.room)) t.rest in
    let s : 48 + (d - 48) ≡ d = omega (arith, t.low) in
    (r.0 ∙ ap (λ (l : List ℕ). l ++ ds) (decimal_snoc acc (d - 48) p (omega (arith, t.high))) ∙ rw (append_assoc, s) refl, r.1)

alone_sound : (ds : List ℕ) {v : ℕ} → alone ds ≡ Some v → (48 ∷ ds ≡ decimal v) × (v < 1000000)
alone_sound [] {v} e = rw (← same_Some 0 v e) (sym (decimal_one 0 (omega arith)), omega arith)
alone_sound (x ∷ xs) e = none_some e

leading_sound : (d : ℕ) (ds : List ℕ) {v : ℕ} → (d ≡ 48 → ⊥) → digits 0 (d ∷ ds) ≡ Some v → (d ∷ ds ≡ decimal v) × (v < 1000000)
leading_sound d ds {v} z e =
    let t = took 0 d ds e in
    let more : 48 < d = omega (arith, t.low) in
    let a : 0 * 10 + (d - 48) ≡ d - 48 = omega arith in
    let s : 48 + (d - 48) ≡ d = omega arith in
    let r = digits_sound (d - 48) ds (omega arith) (omega (arith, t.high)) (ap (λ (m : ℕ). digits m ds) (sym a) ∙ t.rest) in
    (sym (r.0 ∙ rw (decimal_one (d - 48) (omega (arith, t.high)), s) refl), r.1)

small_sound : (t : List ℕ) {v : ℕ} → natural_of t ≡ Some v → (t ≡ decimal v) × (v < 1000000)
unfolding natural_of
small_sound [] e = none_some e
small_sound (d ∷ ds) {v} e = go (eqb d 48) refl e
  where
    go : (b : Bool) → eqb d 48 ≡ b → cond b (alone ds) (digits 0 (d ∷ ds)) ≡ Some v → (d ∷ ds ≡ decimal v) × (v < 1000000)
    go true q r = let z = eqb-true d 48 q in rw z (alone_sound ds r)
    go false q r = leading_sound d ds (eqb-false d 48 q) r

pub natural_small : (t : List ℕ) {v : ℕ} → natural_of t ≡ Some v → v < 1000000
natural_small t e = (small_sound t e).1

pub natural_sound : (t : List ℕ) {v : ℕ} → natural_of t ≡ Some v → (t ≡ decimal v) × (length (decimal v) ≤ 6)
natural_sound t {v} e = let r = small_sound t e in (r.0, length_six v r.1)

negative_sound : (t : List ℕ) (o : Option ℕ) {z : ℤ} → natural_of t ≡ o → negative o ≡ Some z → (45 ∷ t ≡ numeral z) × (length (decimal (nat_abs z)) ≤ 6)
negative_sound t None q e = none_some e
negative_sound t (Some zero) q e = none_some e
negative_sound t (Some (suc v)) {z} q e =
    let r = natural_sound t q in
    rw (← same_Some (negsuc v) z e) (ap (λ (l : List ℕ). 45 ∷ l) r.0, r.1)

plain_sound : (t : List ℕ) (o : Option ℕ) {z : ℤ} → natural_of t ≡ o → option_map pos o ≡ Some z → (t ≡ numeral z) × (length (decimal (nat_abs z)) ≤ 6)
plain_sound t None q e = none_some e
plain_sound t (Some v) {z} q e = rw (← same_Some (pos v) z e) (natural_sound t q)

pub integer_sound : (t : List ℕ) {z : ℤ} → integer_of t ≡ Some z → (t ≡ numeral z) × (length (decimal (nat_abs z)) ≤ 6)
unfolding integer_of has_minus
integer_sound [] e = plain_sound [] (natural_of []) refl e
integer_sound (d ∷ ds) {z} e = go (eqb d 45) refl e
  where
    go : (b : Bool) → eqb d 45 ≡ b → cond b (negative (natural_of ds)) (option_map pos (natural_of (d ∷ ds))) ≡ Some z → (d ∷ ds ≡ numeral z) × (length (decimal (nat_abs z)) ≤ 6)
    go true q r = let w = eqb-true d 45 q in rw w (negative_sound ds (natural_of ds) refl r)
    go false q r = plain_sound (d ∷ ds) (natural_of (d ∷ ds)) refl r
