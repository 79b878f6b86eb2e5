-- What a line comes to, as the code goes through it. Assumes nothing.
use Prim.Native.Nat.{ℕ, ◌+◌}
use mathlib.Core.Bool.{Bool, false}
use mathlib.Core.List.{List, ◌++◌}
use mathlib.Core.Path.{◌≡◌, refl, sym, ap, ◌∙◌, subst}
use native.Mathlib.Omega.{arith}
use Rattle.ray.specs.declared.Ray.{Ray}
use Rattle.load.specs.declared.state.Load.{Load}
use Rattle.load.specs.declared.refusal.Bad.{Bad}
use Rattle.std.specs.Prelude.{Option, Result}
use Rattle.load.specs.Loaded.{loaded_of, due_at}
use Rattle.load.specs.Line.{line_read}
use Rattle.load.specs.Read.{reading_of}
use Rattle.load.specs.Sound as load
use Rattle.load.proofs.Due.{own_due}
use Rattle.job.specs.declared.state.State.{State}
use Rattle.job.specs.Rays.{RAY}
use Rattle.job.specs.Stand.{Stand, stand_of}
use Rattle.job.specs.Line.{Step, goes, stops, step_of, line_step}
use Rattle.job.specs.Sound.{Taken, Sound}
use Rattle.job.specs.Move.{step_is, after}

-- the job stops behind what was printed before, or goes on
pub stopped : {going : Bool} {o text : List ℕ} {step : Step} (before : List ℕ) (s : Stand) → going ≡ false → o ≡ before ++ text → step ≡ stops text → step_is going o s ≡ after before step
stopped before s g e f = rw (g, e, f) refl

pub went : {o text : List ℕ} {s : Stand} {step : Step} (before : List ℕ) → o ≡ before ++ text → step ≡ goes text s → goes o s ≡ after before step
went before e f = rw (e, f) refl

-- the reader answers what is read
pub ray_told : (o : Option Ray) {r : Option Ray} (a : Option Ray) → r ≡ o → r ≡ a → o ≡ a
ray_told o a e f = sym e ∙ f

-- what is kept by a line that the loader took, by what it is told to be
pub as_kept : (st : Load) {r t : Result (Option Load) Bad} → r ≡ t → load.Kept st r → load.Kept st t
as_kept st e h = subst (load.Kept st) e h

pub step_read : (st : State) (l densities densities' : List ℕ) (r : Result (Option Load) Bad) → reading_of st.load r densities' ≡ line_read RAY 7 (loaded_of st.load densities) l
    → line_step (stand_of st densities) l ≡ step_of (stand_of st densities) l (reading_of st.load r densities')
unfolding line_step
step_read st l densities densities' r f = ap (step_of (stand_of st densities) l) (sym f)

module _ {loaded : Load} {rays : ℕ} (s : Sound loaded rays) where
  pub sound_in : {next : Load} → load.Further loaded next → Sound next rays
  sound_in f = record { suited = rw f.limits s.suited; load = f.sound; early = λ h. s.early f.loading }

  module _ (all : due_at loaded.lines loaded.left ≡ 2) where
    pub sound_ray : Sound loaded (rays + 1)
    sound_ray = record { suited = s.suited; load = s.load; early = λ h. absurd (h all) }

    pub taken : Taken loaded.limits loaded.grid loaded.filled
    taken =
        let d = own_due loaded.lines loaded.left all in
        record { suited = s.suited; accepted = s.load.accepted (λ z. omega (arith, d.0)); few = s.load.few; whole = omega (arith, rw d.1 at s.load.loaded) }
