-- Fields read one after the other into a list: what the loop that reads the numbers of a line keeps. Assumes nothing.
use Prim.Native.Nat.{ℕ, zero, suc, ◌+◌, ◌-◌, ◌≤◌, ◌<◌}
use mathlib.Core.List.{List, [], ◌∷◌, ◌++◌, append_assoc, append-nil}
use Rattle.std.specs.Prelude.{true, Option, None, Some, option_map}
use mathlib.Core.Path.{◌≡◌, refl, ap, sym, ◌∙◌}
use lib.ListN.{length, get_or, take, set, length-set}
use lib.Seq.{take_all}
use native.Mathlib.Omega.{arith}
use lib.Dec.{leb}
use borrow.Author.Tests.{le-leb, lt-leb, leb-true}
use Rattle.text.specs.Number.{natural_of}
use Rattle.text.specs.Numbers.{up_to, natural_to, ahead, every}
use Rattle.text.proofs.Told.{none_some}
use Rattle.std.proofs.lemmas.Option.{cond_some}
use Rattle.std.proofs.lemmas.List.{take_more_set}

-- what was read, and then what is read of the rest
abbrev pub behind : {A : Type 0} → List A → Option (List A) → Option (List A)
behind p vs = option_map (λ ws. p ++ ws) vs

behind_ahead : {A : Type 0} (p : List A) (v : A) (vs : Option (List A)) → behind p (ahead (Some v) vs) ≡ behind (p ++ v ∷ []) vs
behind_ahead p v None = refl
behind_ahead p v (Some ws) = ap Some (sym (append_assoc p (v ∷ []) ws))

pub behind_nil : {A : Type 0} (vs : Option (List A)) → vs ≡ behind [] vs
behind_nil None = refl
behind_nil (Some ws) = refl

-- of the n fields wanted the first j are read and stand in `out`, and these are left
pub record Reading {A : Type 0} (read : List ℕ → Option A) (n : ℕ) (all left : List (List ℕ)) (out : List A) (j : ℕ) : Type 0 where
  pub few : j ≤ n
  pub kept : length out ≡ n
  pub so_far : every read n all ≡ behind (take j out) (every read (n - j) left)

module _ {A : Type 0} {read : List ℕ → Option A} {n : ℕ} {all : List (List ℕ)} where
  pub reading_begins : {out : List A} → length out ≡ n → Reading read n all all out 0
  reading_begins kept = record { few = omega arith; kept = kept; so_far = let whole : n - 0 ≡ n = omega arith in rw whole (behind_nil (every read n all)) }

  module _ {left : List (List ℕ)} {out : List A} {j : ℕ} (r : Reading read n all left out j) where
    pub reading_ends : n ≤ j → Some out ≡ every read n all
    unfolding every
    reading_ends h =
        let none_left : n - j ≡ 0 = omega arith in
        sym (r.so_far ∙ rw none_left (ap Some (append-nil (take j out) ∙ take_all j out (omega (arith, r.kept)))))

    module _ (more : j < n) where
      one_left : n - j ≡ suc (n - (j + 1))
      one_left = omega arith

      -- too few fields
      pub reading_short : left ≡ [] → None ≡ every read n all
      unfolding every
      reading_short h = sym (r.so_far ∙ rw (one_left, h) refl)

      module _ {t : List ℕ} {left' : List (List ℕ)} (next : left ≡ t ∷ left') where
        turn : every read n all ≡ behind (take j out) (ahead (read t) (every read (n - (j + 1)) left'))
        unfolding every
        turn = r.so_far ∙ rw (one_left, next) refl

        pub reading_bad : None ≡ read t → None ≡ every read n all
        reading_bad bad = sym (turn ∙ rw (← bad) refl)

        pub reading_on : {v : A} → Some v ≡ read t → Reading read n all left' (set out j v) (j + 1)
        reading_on {v} good = record {
          few = omega arith;
          kept = length-set out j v ∙ r.kept;
          so_far = turn ∙ rw (← good, take_more_set out j v (omega (arith, r.kept))) (behind_ahead (take j out) v (every read (n - (j + 1)) left'));
        }

-- what reads the fields that are left
pub ruleset reads = (reading_begins, reading_ends, reading_short)

module _ (most : ℕ) (t : List ℕ) where
  pub to_bad : natural_of t ≡ None → natural_to most t ≡ None
  to_bad e = rw e refl

  pub to_over : {v : ℕ} → natural_of t ≡ Some v → most < v → natural_to most t ≡ None
  to_over {v} e h = rw (e, lt-leb v most h) refl

  pub to_good : {v : ℕ} → natural_of t ≡ Some v → v ≤ most → natural_to most t ≡ Some v
  to_good {v} e h = rw (e, le-leb v most h) refl

  pub to_within : {v : ℕ} → natural_to most t ≡ Some v → v ≤ most
  to_within {v} e = bounded (natural_of t) e
    where
      bounded : (o : Option ℕ) → up_to most o ≡ Some v → v ≤ most
      bounded None f = none_some f
      bounded (Some w) f = let kept = cond_some (leb w most) w v f in omega (arith, leb-true w most kept.0, kept.1)

-- what holds of every number that can be read holds of all that were
pub every_holds : {A : Type 0} (read : List ℕ → Option A) (P : A → Type 0) (d : A) → ((t : List ℕ) (v : A) → read t ≡ Some v → P v)
    → (n : ℕ) (fs : List (List ℕ)) {vs : List A} → every read n fs ≡ Some vs → (i : ℕ) → i < n → P (get_or vs i d)
unfolding every
every_holds read P d holds zero fs e i h = absurd (omega arith)
every_holds read P d holds (suc n) [] e i h = none_some e
every_holds {A} read P d holds (suc n) (f ∷ fs) {vs} e i h = first (read f) (every read n fs) refl (λ ws q. every_holds read P d holds n fs {vs = ws} q) e i h
  where
    first : (o : Option A) (os : Option (List A)) → read f ≡ o → ((ws : List A) → os ≡ Some ws → (j : ℕ) → j < n → P (get_or ws j d))
        → ahead o os ≡ Some vs → (j : ℕ) → j < suc n → P (get_or vs j d)
    first None os p rest r j g = none_some r
    first (Some v) None p rest r j g = none_some r
    first (Some v) (Some ws) p rest r zero g = rw (← (cond_some true (v ∷ ws) vs r).1) (holds f v p)
    first (Some v) (Some ws) p rest r (suc j) g = rw (← (cond_some true (v ∷ ws) vs r).1) (rest ws refl j (omega arith))
