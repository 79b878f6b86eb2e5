-- What one division of two whole numbers converted to floats gives: the float nearest to their fraction. Assumes nothing.
use mathlib.Core.Path.{◌≡◌, sym, ap, ◌∙◌, subst}
use Prim.Native.Nat.{ℕ, suc, ◌*◌, ◌^◌, ◌≤◌, ◌<◌}
use native.Mathlib.Nat.{mul_comm, mul_assoc, mul_left_comm, mul-one, mul-pos}
use native.Mathlib.Omega.{arith}
use mathlib.Core.Bool.{Bool, true, false, cond}
use lib.IntN.{ℤ, pos, negsuc, nat_abs}
use lib.Dec.{T, eqb, le→leb, lt→ltb}
use lib.Ieee.{Float, nan, inf, fin, Format, binary64, up, down, unlike, round, div, of_int, in_float}
use lib.Ieee.Fits.{up_pos, down_pos}
use lib.Ieee.Exact.{HasValue}
use lib.Ieee.Scale.{round_same}
use lib.Ieee.Back.{round_whole}
use lib.Ieee.Positive.{first_pos}
use borrow.Author.Tests.{ne_eqb}
use Rattle.place.specs.Answers.{nearest}

ne_zero : (n : ℕ) → 0 < n → eqb n 0 ≡ false
ne_zero n h = ne_eqb n 0 (λ e. omega arith)

div_at : (f : Format) (x y : Float) (s t : Bool) (a b : ℕ) → 0 < b → HasValue x s a 1 → HasValue y t b 1 → div f x y ≡ round f (unlike s t) a b
unfolding div
div_at f nan y s t a b B v w = elim v [ ]
div_at f (inf _) y s t a b B v w = elim v [ ]
div_at f (fin s' m e) nan s t a b B v w = elim w [ ]
div_at f (fin s' m e) (inf _) s t a b B v w = elim w [ ]
div_at f (fin s' m e) (fin t' n d) s t a b B v w =
    let N : 0 < n = first_pos n (up d) (first_pos (n * up d) 1 (subst (λ (z : ℕ). 0 < z) (sym w.1) (mul-pos B (down_pos d)))) in
    ap (λ (z : Bool). cond z (cond (eqb m 0) nan (inf (unlike s' t'))) (round f (unlike s' t') (m * up e * down d) (n * up d * down e))) (ne_zero n N)
    ∙ ap (λ (z : Bool). round f (unlike z t') (m * up e * down d) (n * up d * down e)) v.0
    ∙ ap (λ (z : Bool). round f (unlike s z) (m * up e * down d) (n * up d * down e)) w.0
    ∙ round_same f (unlike s t) (m * up e * down d) (n * up d * down e) a b (mul-pos (mul-pos N (up_pos d)) (down_pos e)) B
    (let p : m * up e ≡ a * down e = sym (mul-one (m * up e)) ∙ v.1 in
    let q : n * up d ≡ b * down d = sym (mul-one (n * up d)) ∙ w.1 in
    rw (p, q) (simp (mul_assoc, mul_comm, mul_left_comm)))

pub whole_in : (z : ℤ) → nat_abs z ≤ 2 ^ 53 → T (in_float binary64 z)
unfolding in_float
whole_in (pos n) h = le→leb n (2 ^ 53) h
whole_in (negsuc n) h = lt→ltb n (2 ^ 53) h

pub quotient_is : (z : ℤ) (d : ℕ) → nat_abs z ≤ 2 ^ 53 → d ≤ 2 ^ 53 → 0 < d → div binary64 (of_int binary64 z) (of_int binary64 (pos d)) ≡ nearest z d
unfolding of_int
quotient_is (pos n) d h k D = div_at binary64 (round binary64 false n 1) (round binary64 false d 1) false false n d D (round_whole binary64 false n h) (round_whole binary64 false d k)
quotient_is (negsuc n) d h k D = div_at binary64 (round binary64 true (suc n) 1) (round binary64 false d 1) true false (suc n) d D (round_whole binary64 true (suc n) h) (round_whole binary64 false d k)
