-- One axis moved by a whole number k, ray and planes alike: nothing changes that is told from differences and the order.
-- No bound on any number. Assumes nothing.
use Prim.Native.Nat.{ℕ, ◌*◌, min, max}
use mathlib.Core.Path.{◌≡◌, sym, ap, ap₂, ◌∙◌}
use mathlib.Core.Bool.{Bool, ◌&&◌, ◌||◌, not, cond}
use lib.IntN.{ℤ, neg_ℤ, nat_abs, ◌+ℤ◌, ◌-ℤ◌, +ℤ_assoc, +ℤ_comm, +ℤ_invr, +ℤ_idl, neg_ℤ-+ℤ}
use lib.Signed.{le_z, lt_z}
use lib.Dec.{leb}
use Rattle.axis.specs.Leg.{Leg, Slab, natural, moving, factor, run, held, enters, leaves}
use Rattle.ray.proofs.Told.{lt_le, le_diff}

module _ (k : ℤ) where
  pub diff_on : (a b : ℤ) → (a +ℤ k) -ℤ (b +ℤ k) ≡ a -ℤ b
  diff_on a b =
      ap (λ (z : ℤ). a +ℤ k +ℤ z) (neg_ℤ-+ℤ b k ∙ +ℤ_comm (neg_ℤ b) (neg_ℤ k))
      ∙ +ℤ_assoc a k (neg_ℤ k +ℤ neg_ℤ b)
      ∙ ap (λ (z : ℤ). a +ℤ z) (sym (+ℤ_assoc k (neg_ℤ k) (neg_ℤ b)) ∙ ap (λ (z : ℤ). z +ℤ neg_ℤ b) (+ℤ_invr k) ∙ +ℤ_idl (neg_ℤ b))

  pub le_on : (a b : ℤ) → le_z (a +ℤ k) (b +ℤ k) ≡ le_z a b
  le_on a b = le_diff (a +ℤ k) (b +ℤ k) ∙ ap (λ (z : ℤ). leb (natural z) 0) (diff_on a b) ∙ sym (le_diff a b)

  lt_on : (a b : ℤ) → lt_z (a +ℤ k) (b +ℤ k) ≡ lt_z a b
  lt_on a b = lt_le (a +ℤ k) (b +ℤ k) ∙ ap not (le_on b a) ∙ sym (lt_le a b)

  abbrev pub leg_on : Leg → Leg
  leg_on l = record { p = l.p +ℤ k; q = l.q +ℤ k }

  abbrev pub slab_on : Slab → Slab
  slab_on s = record { lo = s.lo +ℤ k; hi = s.hi +ℤ k; closed = s.closed }

  module _ (l : Leg) where
    pub moving_on : moving (leg_on l) ≡ moving l
    moving_on = ap₂ ◌||◌ (lt_on l.p l.q) (lt_on l.q l.p)

    pub factor_on : factor (leg_on l) ≡ factor l
    factor_on = ap₂ (λ (b : Bool) (z : ℤ). cond b (nat_abs z) 1) moving_on (diff_on l.q l.p)

    pub run_on : (c : ℤ) → run (leg_on l) (c +ℤ k) ≡ run l c
    run_on c = λ i. cond (lt_on l.p l.q i) (natural (diff_on c l.p i)) (natural (diff_on l.p c i))

    module _ (s : Slab) where
      pub held_on : held (leg_on l) (slab_on s) ≡ held l s
      held_on = λ i. moving_on i || (le_on s.lo l.p i && cond s.closed (le_on l.p s.hi i) (lt_on l.p s.hi i))

      pub enters_on : (rest : ℕ) → enters rest (leg_on l) (slab_on s) ≡ enters rest l s
      enters_on rest = λ i. cond (moving_on i) (min (run_on s.lo i) (run_on s.hi i) * rest) 0

      pub leaves_on : (rest : ℕ) → leaves rest (leg_on l) (slab_on s) ≡ leaves rest l s
      leaves_on rest = λ i. cond (moving_on i) (max (run_on s.lo i) (run_on s.hi i) * rest) rest
