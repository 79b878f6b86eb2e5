-- A voxel's number and its indices: a number below the count has indices within the volume and is their number, and the other way round. Assumes nothing.
use Prim.Native.Nat.{ℕ, zero, suc, ◌+◌, ◌*◌, ◌/◌, ◌≤◌, ◌<◌}
use mathlib.Core.Path.{◌≡◌, sym, ap, ◌∙◌}
use native.Mathlib.Omega.{arith}
use native.Mathlib.Nat.{zero-mul, mul-zero, mul_comm, mul_assoc, mod-lt, div-lt_iff_lt-mul, div-add-mod', mul-add-div_right, mul-add-mod_self_right, mod-eq_of_lt, div-eq_of_lt, add-zero, mul-le-mul_right, suc-mul}
use Rattle.ray.specs.declared.axes.Side.{Side}
use Rattle.ray.specs.declared.axes.Side.TheVariants.{X, Y, Z}
use Rattle.ray.specs.Length.{Volume, count, index}

-- i + nx·(j + ny·k), written the way that division takes it apart
abbrev pub number : Volume → (Side → ℕ) → ℕ
number v at = (at Z * (v Y).n + at Y) * (v X).n + at X

turned : (a b c : ℕ) → c * b * a ≡ a * b * c
turned a b c = mul_comm (c * b) a ∙ ap (λ (x : ℕ). a * x) (mul_comm c b) ∙ sym (mul_assoc a b c)

some_of : (a b c m : ℕ) → m < a * b * c → (0 < a) × (0 < b) × (0 < c)
some_of zero b c m h = absurd (omega (arith, ap (λ (x : ℕ). x * c) (zero-mul b), zero-mul c))
some_of (suc a) zero c m h = absurd (omega (arith, ap (λ (x : ℕ). x * c) (mul-zero (suc a)), zero-mul c))
some_of (suc a) (suc b) zero m h = absurd (omega (arith, mul-zero (suc a * suc b)))
some_of (suc a) (suc b) (suc c) m h = (omega arith, omega arith, omega arith)

module _ (v : Volume) (m : ℕ) where
  pub number_index : number v (index v m) ≡ m
  number_index = rw (div-add-mod' (m / (v X).n) (v Y).n, div-add-mod' m (v X).n)

  module _ (h : m < count v) where
    some : (0 < (v X).n) × (0 < (v Y).n) × (0 < (v Z).n)
    some = some_of (v X).n (v Y).n (v Z).n m h

    pub index_below : (s : Side) → index v m s < (v s).n
    index_below X = mod-lt m some.0
    index_below Y = mod-lt (m / (v X).n) some.1
    index_below Z =
        let e : (v Z).n * (v Y).n * (v X).n ≡ count v = turned (v X).n (v Y).n (v Z).n in
        (div-lt_iff_lt-mul some.1).1 ((div-lt_iff_lt-mul some.0).1 (omega arith))

pub index_same : (v : Volume) (m w : ℕ) → ((s : Side) → index v m s ≡ index v w s) → m ≡ w
index_same v m w e = sym (number_index v m) ∙ rw (e X, e Y, e Z) (number_index v w)

module _ (v : Volume) (at : Side → ℕ) (h : (s : Side) → at s < (v s).n) where
  rest_is : number v at / (v X).n ≡ at Z * (v Y).n + at Y
  rest_is =
      mul-add-div_right (omega (arith, h X)) (at Z * (v Y).n + at Y) (at X)
      ∙ ap (λ (x : ℕ). (at Z * (v Y).n + at Y) + x) (div-eq_of_lt (h X)) ∙ add-zero (at Z * (v Y).n + at Y)

  pub index_number : (s : Side) → index v (number v at) s ≡ at s
  index_number X = mul-add-mod_self_right (at Z * (v Y).n + at Y) (v X).n (at X) ∙ mod-eq_of_lt (h X)
  index_number Y = rw rest_is (mul-add-mod_self_right (at Z) (v Y).n (at Y) ∙ mod-eq_of_lt (h Y))
  index_number Z =
      rw rest_is (mul-add-div_right (omega (arith, h Y)) (at Z) (at Y) ∙ ap (λ (x : ℕ). at Z + x) (div-eq_of_lt (h Y)) ∙ add-zero (at Z))

  pub number_below : number v at < count v
  number_below =
      let a : at Z * (v Y).n + (v Y).n ≤ (v Z).n * (v Y).n = omega (arith, mul-le-mul_right (v Y).n (h Z), suc-mul (at Z) (v Y).n) in
      let b : suc (at Z * (v Y).n + at Y) ≤ (v Z).n * (v Y).n = omega (arith, h Y) in
      let e : (v Z).n * (v Y).n * (v X).n ≡ count v = turned (v X).n (v Y).n (v Z).n in
      omega (arith, mul-le-mul_right (v X).n b, suc-mul (at Z * (v Y).n + at Y) (v X).n, h X)
