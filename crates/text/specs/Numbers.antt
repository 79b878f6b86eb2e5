-- The numbers of several fields, all of them or none. Definitions only. Assumes nothing.
use Rattle.std.specs.Prelude.{ℕ, zero, suc, ⊤, cond, List, [], ◌∷◌, leb, Option, None, Some, option_map}
use Rattle.text.specs.Number.{natural_of}

-- a number that is at most `most`
abbrev pub up_to : ℕ → Option ℕ → Option ℕ
up_to most None = None
up_to most (Some v) = cond (leb v most) (Some v) None

abbrev pub natural_to : ℕ → List ℕ → Option ℕ
natural_to most t = up_to most (natural_of t)

abbrev pub ahead : {A : Type 0} → Option A → Option (List A) → Option (List A)
ahead None vs = None
ahead (Some v) vs = option_map (λ ws. v ∷ ws) vs

-- the first n fields read, where there are n and each says something
unfoldable pub every : {A : Type 0} → (List ℕ → Option A) → ℕ → List (List ℕ) → Option (List A)
every read zero fs = Some []
every read (suc n) [] = None
every read (suc n) (f ∷ fs) = ahead (read f) (every read n fs)

-- what a list tells that was filled only if there is an answer
abbrev pub told : {A : Type 0} → Option ⊤ → List A → Option (List A)
told r vs = option_map (λ _. vs) r
