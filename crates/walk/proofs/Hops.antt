-- What a turn adds to v: a plane for each axis that is left, and one voxel more or less on it. Though the code adds modulo 2^64, nothing
-- is lost. Assumes nothing.
use Rattle.std.proofs.Common.{◌≡◌, ℕ, zero, suc, ◌+◌, ◌-◌, ◌*◌, ◌/◌, ◌%◌, ◌^◌, ◌<◌, ◌≤◌, Bool, true, false, cond, sym, refl, ap, ◌∙◌, mod-eq_of_lt, mul_assoc, suc-mul, add-mul, mul-le-mul, one-mul, zero-add, arith}
use native.Mathlib.Nat.{div-eq_of_lt, add-mul-mod_self_left, add-mul-div_left}
use Rattle.ray.specs.declared.axes.Side.{Side}
use Rattle.ray.specs.declared.axes.Side.TheVariants.{X, Y, Z}
use Rattle.ray.specs.Length.{Volume}
use Rattle.line.proofs.Three.{each}
use Rattle.line.proofs.Stretch.{onward, Left}
use Rattle.walk.specs.Plan.{unit}
use Rattle.ray.proofs.Way.{Way, up, down, still}
use Rattle.ray.proofs.Indices.{number}

-- what the code adds for one plane
abbrev pub Jump : Way → ℕ → ℕ → Type 0
Jump up unit x = x ≡ 2 ^ 32 + unit
Jump down unit x = x + unit ≡ 2 ^ 32
Jump still unit x = Unit {0}

-- a voxel's number, and planes
abbrev pub counted : ℕ → ℕ → ℕ
counted number planes = number + 2 ^ 32 * planes

pub counted_number : (number planes : ℕ) → number < 2 ^ 32 → counted number planes % 2 ^ 32 ≡ number
counted_number number planes h = add-mul-mod_self_left number (2 ^ 32) planes ∙ mod-eq_of_lt h

pub counted_planes : (number planes : ℕ) → number < 2 ^ 32 → counted number planes / 2 ^ 32 ≡ planes
counted_planes number planes h = add-mul-div_left number planes {y = 2 ^ 32} (omega arith) ∙ ap (λ (x : ℕ). x + planes) (div-eq_of_lt h) ∙ zero-add planes

jump : (w : Way) (unit x base i k : ℕ) → Jump w unit x → Left w i → base + i * unit + unit + 2 ^ 32 * (k + 1) < 2 ^ 64
    → (counted (base + i * unit) k + x) % 2 ^ 64 ≡ counted (base + onward w i * unit) (k + 1)
jump up unit x base i k j l h =
    let e : counted (base + i * unit) k + x ≡ counted (base + (i + 1) * unit) (k + 1) = omega (arith, add-mul i 1 unit, one-mul unit) in
    rw e (mod-eq_of_lt (omega (arith, add-mul i 1 unit, one-mul unit)))
jump down unit x base zero k j l h = absurd (omega arith)
jump down unit x base (suc i) k j l h =
    let back : suc i - 1 ≡ i = omega arith in
    let e : counted (base + suc i * unit) k + x ≡ counted (base + i * unit) (k + 1) = omega (arith, suc-mul i unit) in
    rw (e, back) (mod-eq_of_lt (omega (arith, suc-mul i unit)))
jump still unit x base i k j l h = absurd l

-- one axis' part in a turn
hopped : (b : Bool) (w : Way) (unit x base i k : ℕ) → Jump w unit x → (b ≡ true → Left w i) → base + i * unit + unit + 2 ^ 32 * (k + 1) < 2 ^ 64
    → cond b ((counted (base + i * unit) k + x) % 2 ^ 64) (counted (base + i * unit) k) ≡ counted (base + cond b (onward w i) i * unit) (k + cond b 1 0)
hopped true w unit x base i k j l h = jump w unit x base i k j (l refl) h
hopped false w unit x base i k j l h = omega arith

-- the number by one axis: what the two others give, and the axis' own part
abbrev others : Volume → (Side → ℕ) → Side → ℕ
others v at X = (at Z * (v Y).n + at Y) * (v X).n
others v at Y = at Z * ((v Y).n * (v X).n) + at X
others v at Z = at Y * (v X).n + at X

by_side : (v : Volume) (at : Side → ℕ) (o : Side) → number v at ≡ others v at o + at o * unit v o
by_side v at X = omega arith
by_side v at Y = omega (arith, add-mul (at Z * (v Y).n) (at Y) (v X).n, mul_assoc (at Z) (v Y).n (v X).n)
by_side v at Z = omega (arith, add-mul (at Z * (v Y).n) (at Y) (v X).n, mul_assoc (at Z) (v Y).n (v X).n)

-- numbers lie far below 2^32
module _ (v : Volume) (few : (o : Side) → (v o).n ≤ 2 ^ 9) where
  pub unit_small : (o : Side) → unit v o ≤ 2 ^ 18
  unit_small = each _ (omega arith) (omega (arith, few X)) (mul-le-mul {n₂ = 2 ^ 9} {m₂ = 2 ^ 9} (few Y) (few X))

  module _ (at : Side → ℕ) (h : (o : Side) → at o < (v o).n) where
    pub row_small : at Z * (v Y).n + at Y ≤ 2 ^ 19
    row_small =
        let z : at Z ≤ 2 ^ 9 = omega (arith, h Z, few Z) in
        omega (arith, mul-le-mul {n₂ = 2 ^ 9} {m₂ = 2 ^ 9} z (few Y), h Y, few Y)

    pub number_small : number v at ≤ 2 ^ 29
    number_small = omega (arith, mul-le-mul {n₂ = 2 ^ 19} {m₂ = 2 ^ 9} row_small (few X), h X, few X)

  module _ (way : Side → Way) (at : Side → ℕ) (flag : Side → Bool) (x : Side → ℕ) (jumps : (o : Side) → Jump (way o) (unit v o) (x o))
      (left : (o : Side) → flag o ≡ true → Left (way o) (at o)) (inside : (o : Side) → at o < (v o).n)
      (inside' : (o : Side) → cond (flag o) (onward (way o) (at o)) (at o) < (v o).n) where
    abbrev to : Side → ℕ
    to o = cond (flag o) (onward (way o) (at o)) (at o)

    abbrev one : Side → ℕ
    one o = cond (flag o) 1 0

    abbrev add : Side → ℕ → ℕ
    add o n = cond (flag o) ((n + x o) % 2 ^ 64) n

    -- one axis from a to b, where the others stay
    over : (o : Side) (a b : Side → ℕ) (k : ℕ) → k ≤ 2 ^ 12 → ((s : Side) → a s < (v s).n) → (flag o ≡ true → Left (way o) (a o)) → others v a o ≡ others v b o
        → cond (flag o) (onward (way o) (a o)) (a o) ≡ b o → add o (counted (number v a) k) ≡ counted (number v b) (k + one o)
    over o a b k few h l same e =
        ap (λ (n : ℕ). add o (counted n k)) (by_side v a o)
        ∙ hopped (flag o) (way o) (unit v o) (x o) (others v a o) (a o) k (jumps o) l (omega (arith, by_side v a o, number_small a h, unit_small o))
        ∙ rw (same, e) (ap (λ (n : ℕ). counted n (k + one o)) (sym (by_side v b o)))

    one_few : (o : Side) → one o ≤ 1
    one_few o = at_most (flag o)
      where
        at_most : (b : Bool) → cond b 1 0 ≤ 1
        at_most true = omega arith
        at_most false = omega arith

    pub all_over : (k : ℕ) → k ≤ 2 ^ 11 → add Z (add Y (add X (counted (number v at) k))) ≡ counted (number v to) (k + one X + one Y + one Z)
    all_over k less =
        let x : Side → ℕ = each _ (to X) (at Y) (at Z) in
        let xy : Side → ℕ = each _ (to X) (to Y) (at Z) in
        ap (λ (n : ℕ). add Z (add Y n)) (over X at x k (omega arith) inside (left X) refl refl)
        ∙ ap (add Z) (over Y x xy (k + one X) (omega (arith, one_few X)) (each _ (inside' X) (inside Y) (inside Z)) (left Y) refl refl)
        ∙ over Z xy to (k + one X + one Y) (omega (arith, one_few X, one_few Y)) (each _ (inside' X) (inside' Y) (inside Z)) (left Z) refl refl
