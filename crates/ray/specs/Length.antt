-- RULES 3 and 4: part, list, sum, span and planes crossed. Nothing here walks. Definitions only. Assumes nothing.
use Rattle.std.specs.Prelude.{ℕ, zero, suc, ◌+◌, ◌-◌, ◌*◌, ◌/◌, ◌%◌, min, max, Bool, ◌&&◌, ◌||◌, not, cond, List, [], ◌∷◌, nat_abs, ◌-ℤ◌, leb, ltb, get_or}
use Rattle.ray.specs.declared.axes.Side.{Side}
use Rattle.ray.specs.declared.axes.Side.TheVariants.{X, Y, Z}
use Rattle.axis.specs.Leg.{Planes, planes, Leg, moving, factor, run, Slab, slab, held, enters, leaves}
use Rattle.ray.specs.Axes.{Grid}
use Rattle.ray.specs.declared.Ray.{Ray}

abbrev pub leg : Ray → Side → Leg
leg r X = record { p = r.p.x; q = r.q.x }
leg r Y = record { p = r.p.y; q = r.q.y }
leg r Z = record { p = r.p.z; q = r.q.z }

-- RULES 3: D, over all axes, as a still one counts 1; then what is left of it without one axis
abbrev pub d_of : Ray → ℕ
d_of r = factor (leg r X) * (factor (leg r Y) * factor (leg r Z))

abbrev pub rest : Ray → Side → ℕ
rest r X = factor (leg r Y) * factor (leg r Z)
rest r Y = factor (leg r X) * factor (leg r Z)
rest r Z = factor (leg r X) * factor (leg r Y)

-- RULES 5: the squared length, equation (11)
abbrev pub squared_of : Ray → ℕ
squared_of r = let d : Side → ℕ = λ s. nat_abs ((leg r s).q -ℤ (leg r s).p) in d X * d X + d Y * d Y + d Z * d Z

abbrev pub Volume : Type 0
Volume = Side → Planes

abbrev pub volume : Grid → Volume
volume g X = planes g.x
volume g Y = planes g.y
volume g Z = planes g.z

abbrev pub count : Volume → ℕ
count v = (v X).n * (v Y).n * (v Z).n

-- a box lies between two planes of each axis: the whole array; a voxel
abbrev pub array : Volume → Side → Slab
array v s = slab (v s) 0 (v s).n

-- RULES 1: the indices i, j, k of a voxel number
abbrev pub index : Volume → ℕ → Side → ℕ
index v m X = m % (v X).n
index v m Y = m / (v X).n % (v Y).n
index v m Z = m / (v X).n / (v Y).n

abbrev pub voxel : Volume → ℕ → Side → Slab
voxel v m s = slab (v s) (index v m s) (index v m s + 1)

-- RULES 3: whether every still axis holds the ray; enter and leave times D, which for the array are αmin and αmax, equation (5) (RULES 4)
abbrev pub holds : Ray → (Side → Slab) → Bool
holds r b = held (leg r X) (b X) && (held (leg r Y) (b Y) && held (leg r Z) (b Z))

abbrev pub start : Ray → (Side → Slab) → ℕ
start r b = let e : Side → ℕ = λ s. enters (rest r s) (leg r s) (b s) in max (e X) (max (e Y) (e Z))

abbrev pub stop : Ray → (Side → Slab) → ℕ
stop r b = let l : Side → ℕ = λ s. leaves (rest r s) (leg r s) (b s) in min (d_of r) (min (l X) (min (l Y) (l Z)))

-- RULES 3: the length in a voxel, times D
unfoldable pub part_of : Volume → Ray → ℕ → ℕ
part_of v r m = cond (holds r (voxel v m)) (stop r (voxel v m) - start r (voxel v m)) 0

-- RULES 4: αmax not above αmin, or a still coordinate that the array does not hold
unfoldable pub misses : Volume → Ray → Bool
misses v r = leb (stop r (array v)) (start r (array v)) || not (holds r (array v))

-- RULES 4: αmax less αmin, times D; 0 on a miss
unfoldable pub span_of : Volume → Ray → ℕ
span_of v r = cond (misses v r) 0 (stop r (array v) - start r (array v))

-- RULES 4, entries: of the voxels below n those with a part above zero, each ahead of the first that starts later
unfoldable pub insert : (ℕ → ℕ) → ℕ → List ℕ → List ℕ
insert starts m [] = m ∷ []
insert starts m (w ∷ ws) = cond (ltb (starts m) (starts w)) (m ∷ w ∷ ws) (w ∷ insert starts m ws)

unfoldable pub list_to : Volume → Ray → ℕ → List ℕ
list_to v r zero = []
list_to v r (suc m) = cond (ltb 0 (part_of v r m)) (insert (λ w. start r (voxel v w)) m (list_to v r m)) (list_to v r m)

unfoldable pub list_of : Volume → Ray → List ℕ
list_of v r = list_to v r (count v)

unfoldable pub total : (ℕ → ℕ) → ℕ → ℕ
total f zero = 0
total f (suc m) = total f m + f m

-- RULES 3: the weighted sum, over all voxels as in equation (1)
unfoldable pub sum_of : Volume → Ray → List ℕ → ℕ
sum_of v r densities = total (λ m. part_of v r m * get_or densities m 0) (count v)

-- RULES 4, planes crossed: on a moving axis, above αmin and below αmax; each counted for its axis, and none on a miss
unfoldable pub crosses : Volume → Ray → Side → ℕ → Bool
crosses v r s i = let α : ℕ = run (leg r s) ((v s).at i) * rest r s in moving (leg r s) && (ltb (start r (array v)) α && ltb α (stop r (array v)))

unfoldable pub crossed_of : Volume → Ray → ℕ
crossed_of v r = let on : Side → ℕ = λ s. total (λ i. cond (crosses v r s i) 1 0) ((v s).n + 1) in cond (misses v r) 0 (on X + on Y + on Z)
