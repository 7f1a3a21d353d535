-- What is known of the exceptions that are handled.
use Rattle.std.specs.Prelude.{⊤, ◌≡◌, ℕ, ◌+◌, ◌≤◌, ◌<◌, ◌==◌, true, false, List, [], ◌∷◌, length}
use Rattle.std.specs.List.{AllByRecursion}
use Rattle.eh_outer.specs.Domain.{RepliesAreInts}
use Rattle.region_forms.specs.Caught.{Entry}
use Rattle.region_forms.specs.World.{World}
use Rattle.region_forms.specs.Lives.{is_being_built, can_travel}

-- no handler has the exception
abbrev pub Unhandled : ℕ → List Entry → Type 0
Unhandled e [] = ⊤
Unhandled e (x ∷ xs) = ((x.number == e) ≡ false) × Unhandled e xs

-- each entry is of an exception of its own
abbrev pub EachOnce : List Entry → Type 0
EachOnce [] = ⊤
EachOnce (x ∷ xs) = Unhandled x.number xs × EachOnce xs

-- what is handled is live and built
abbrev pub AllBuilt : World → List Entry → Type 0
AllBuilt w [] = ⊤
AllBuilt w (x ∷ xs) = (can_travel w x.number ≡ true) × AllBuilt w xs

-- how many handlers are open
abbrev pub open_handlers : List Entry → ℕ
open_handlers [] = 0
open_handlers (x ∷ xs) = x.more + 1 + open_handlers xs

-- An exception for whose destructor a call waits: it was given its number, no handler has it, and it is not being built.
pub record IsGone (w : World) (e : ℕ) : Type 0 where
  pub given : e ≤ w.last_number
  pub unhandled : Unhandled e w.caught
  pub built : is_being_built w e ≡ false

-- what is given to a program from outside: bytes, and the replies of at most 64 modules, which are ints and tokens
pub record IsGiven (w : World) : Type 0 where
  pub bytes : AllByRecursion (λ b. b < 256) w.input
  pub few : length w.replies ≤ 64
  pub fit : AllByRecursion RepliesAreInts w.replies

-- What holds of the world after so many steps: each step opens one handler at most.
pub record WorldKeeps (steps : ℕ) (w : World) : Type 0 where
  pub built : AllBuilt w w.caught
  pub once : EachOnce w.caught
  pub few : open_handlers w.caught ≤ steps
  pub given : IsGiven w
