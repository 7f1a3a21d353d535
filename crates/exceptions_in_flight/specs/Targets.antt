-- Which open call stops an exception on its way.
use Rattle.std.specs.Prelude.{⊤, ◌≡◌, ◌≢◌, ◌⊎◌, ℕ, ℤ, List, [], ◌∷◌, ◌++◌, length, Option}
use Rattle.std.specs.List.{AllByRecursion}
use Rattle.linear_forms.specs.Tables.{Cover, bare, unpadded, padded}
use Rattle.linear_forms.specs.Verdict.{Verdict, target, no_way, clean, nothing_here, pad_verdict}
use Rattle.linear_forms.specs.Activation.{Code, Activation, look, sense}

-- what covers the place of an open call, and what a pad there says of an exception with a type, or of a foreign one
abbrev pub cover_of : Code → Activation → Cover
cover_of code a = look code a.function a.place

abbrev pub judged_by : Code → Activation → Option ℕ → List ℤ → Verdict
judged_by code a t chain = pad_verdict code.rows (sense code a.function) chain t

-- a pad does not stop it
abbrev pub Lets : Verdict → Type 0
Lets (target n) = ⊥
Lets no_way = ⊥
Lets clean = ⊤
Lets nothing_here = ⊤

-- a call lets it pass outwards
abbrev pub LetsPass : Code → Option ℕ → Activation → Cover → Type 0
LetsPass code t a bare = ⊥
LetsPass code t a unpadded = ⊤
LetsPass code t a (padded p chain) = Lets (judged_by code a t chain)

-- a call stops it at a pad
pub record StopsAt (code : Code) (t : Option ℕ) (a : Activation) : Type 0 where
  pub pad : ℕ
  pub chain : List ℤ
  pub covers : cover_of code a ≡ padded pad chain
  pub selector : ℤ
  pub stops : judged_by code a t chain ≡ target selector

-- among open calls, innermost first, that below which d wait stops it, and those inside let it pass
abbrev pub AimsAt : Code → Option ℕ → ℕ → List Activation → Type 0
AimsAt code t d [] = ⊥
AimsAt code t d (a ∷ fs) = ((length fs ≡ d) × StopsAt code t a) ⊎ (LetsPass code t a (cover_of code a) × AimsAt code t d fs)

-- the same, with the calls named
pub record HasTarget (code : Code) (t : Option ℕ) (d : ℕ) (frames : List Activation) : Type 0 where
  pub inner : List Activation
  pub stopping : Activation
  pub outer : List Activation
  pub split : frames ≡ inner ++ stopping ∷ outer
  pub passed : AllByRecursion (λ b. cover_of code b ≢ bare) inner
  pub depth : length outer ≡ d
  pub pad : ℕ
  pub chain : List ℤ
  pub covers : cover_of code stopping ≡ padded pad chain
  pub selector : ℤ
  pub stops : judged_by code stopping t chain ≡ target selector
