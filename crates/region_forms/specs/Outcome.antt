-- How a region comes out, and how computations follow one another.
use Rattle.std.specs.Prelude.{ℕ, Option, Some, None, Bool, true, false}
use Rattle.meaning_forms.specs.Outcome.{Stop, undefined}
use Rattle.region_forms.specs.World.{Frame, World}
use Rattle.region_forms.specs.Guard.{Guard}
use Rattle.std.specs.Prelude.{List, ◌∷◌}

-- the frame of the call that runs, the world, and the turns left
pub record State : Type 0 where
  pub frame : Frame
  pub world : World
  pub turns : ℕ

-- what is given from outside and never handed on outwards: the guards, innermost first, and the number of open calls
pub record Context : Type 0 where
  pub guards : List Guard
  pub depth : ℕ

-- a region is done, or goes to the end of the region of this number that holds it, the innermost being 1
pub data Flow : Type 0 where
  normal : Flow
  leaves : ℕ → Flow

-- a computation is done with an answer, or stopped
pub data Result (A : Type 0) : Type 0 where
  done : A → State → Result A
  stopped : Stop → State → Result A

-- a computation: it is given a state, and comes out in one
abbrev pub Action : Type 0 → Type 0
Action A = State → Result A

-- done with an answer
abbrev pub pure : {A : Type 0} → A → Action A
pure a s = done a s

-- stopped
abbrev pub stop : {A : Type 0} → Stop → Action A
stop x s = stopped x s

-- what is done next has the answer; a stop passes outwards
abbrev pub continued : {A B : Type 0} → Result A → (A → Action B) → Result B
continued (done a s) next = next a s
continued (stopped x s) next = stopped x s

infixl 1 ◌>>=◌
infixl 1 ◌>>◌
abbrev pub ◌>>=◌ : {A B : Type 0} → Action A → (A → Action B) → Action B
◌>>=◌ first next s = continued (first s) next

-- one computation, then another
abbrev pub ◌>>◌ : {A B : Type 0} → Action A → Action B → Action B
first >> second = first >>= (λ a. second)

-- the state
abbrev pub state : Action State
state s = done s s

-- a change of the world
abbrev pub change : (World → World) → Action (Unit {0})
change f s = done tt (record s { world = f s.world })

-- another world
abbrev pub set_world : World → Action (Unit {0})
set_world w s = done tt (record s { world = w })

-- what may not be defined
abbrev pub some : {A : Type 0} → Option A → Action A
some None = stop undefined
some (Some a) = pure a

-- what is defined only where a test holds
abbrev pub only_if : {A : Type 0} → Bool → Action A → Action A
only_if true act = act
only_if false act = stop undefined

-- inside a guard
abbrev pub guarded_by : Guard → Context → Context
guarded_by g c = record c { guards = g ∷ c.guards }
