-- RULES 2 and 3 on one axis: its planes against the ray's leg. Definitions only. Assumes nothing.
use Rattle.std.specs.Prelude.{ℕ, ◌*◌, min, max, Bool, ◌&&◌, ◌||◌, cond, ℤ, pos, negsuc, nat_abs, ◌+ℤ◌, ◌-ℤ◌, eqb}
use Rattle.std.specs.Int.Signed.{lt_z, le_z}
use Rattle.axis.specs.declared.Axis.{Axis}

-- what a ray meets of an axis: n voxels, and the places of its planes
pub record Planes : Type 0 where
  pub n : ℕ
  pub at : ℕ → ℤ

-- RULES 2: where plane i lies; equation (3), counted from 0
abbrev pub planes : Axis → Planes
planes a = record { n = a.n; at = λ i. a.b +ℤ pos (i * a.d) }

-- RULES 2: the ray on one axis, from p to q; equation (2)
pub record Leg : Type 0 where
  pub p : ℤ
  pub q : ℤ

-- RULES 2: moving, or else still
abbrev pub moving : Leg → Bool
moving l = lt_z l.p l.q || lt_z l.q l.p

-- RULES 3: an axis' share in D, the absolute difference; a still axis counts 1, so that D is a product over all three
abbrev pub factor : Leg → ℕ
factor l = cond (moving l) (nat_abs (l.q -ℤ l.p)) 1

abbrev pub natural : ℤ → ℕ
natural (pos n) = n
natural (negsuc n) = 0

-- RULES 3: α of the place c, equation (4), times the absolute difference; 0 where c lies behind the start
abbrev pub run : Leg → ℤ → ℕ
run l c = cond (lt_z l.p l.q) (natural (c -ℤ l.p)) (natural (l.p -ℤ c))

-- RULES 2, boundary rule: a slab holds its lower plane, and its upper one where it is closed
pub record Slab : Type 0 where
  pub lo : ℤ
  pub hi : ℤ
  pub closed : Bool

-- RULES 2, boundary rule: what lies between the planes i and j is closed where j is the axis' last plane
abbrev pub slab : Planes → (i j : ℕ) → Slab
slab a i j = record { lo = a.at i; hi = a.at j; closed = eqb j a.n }

-- RULES 2: whether a still ray lies in a slab; a moving axis is not asked
abbrev pub held : Leg → Slab → Bool
held l s = moving l || (le_z s.lo l.p && cond s.closed (le_z l.p s.hi) (lt_z l.p s.hi))

-- RULES 3: α times D, which is factor times rest, at the lesser and the greater plane; a still axis leaves the ray whole, from 0 to D
abbrev pub enters : ℕ → Leg → Slab → ℕ
enters rest l s = cond (moving l) (min (run l s.lo) (run l s.hi) * rest) 0

abbrev pub leaves : ℕ → Leg → Slab → ℕ
leaves rest l s = cond (moving l) (max (run l s.lo) (run l s.hi) * rest) rest
