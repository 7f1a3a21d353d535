-- How a computation comes out, and how computations follow one another.
use Rattle.std.specs.Prelude.{ℕ, ℤ, [], ◌∷◌, ◌++◌, length, Option, Some}
use Rattle.run_items.specs.declared.item.Item.{Item}
use Rattle.meaning_forms.specs.Part.{Part, cell}
use Rattle.meaning_forms.specs.World.{World, Reference, part_of, written}

-- how a program ends of itself
pub data End : Type 0 where
  exit : ℤ → End
  aborted : End

-- why a computation stops before it is done: an exception travels, every frame is unwound, the program ends, or nothing more is defined
pub data Stop : Type 0 where
  thrown : ℕ → Stop
  cancelled : ℤ → Stop
  ended : End → Stop
  undefined : Stop
  out_of_turns : Stop
  deep : Stop

-- how a statement that is done goes on: a normal exit, with a value or without where it returns
pub data Flow : Type 0 where
  normal : Flow
  breaks : Flow
  continues : Flow
  returns : Option ℤ → Flow

-- a computation is done with an answer, or stopped, and leaves a world
pub data Result (A : Type 0) : Type 0 where
  done : A → World → Result A
  stopped : Stop → World → Result A

-- the turns left in the world that a result leaves
abbrev pub turns_left : {A : Type 0} → Result A → ℕ
turns_left (done a w) = w.turns
turns_left (stopped s w) = w.turns

-- a computation with an answer of type A
abbrev pub Action : Type 0 → Type 0
Action A = World → Result A

-- nothing but an answer
abbrev pub pure : {A : Type 0} → A → Action A
pure a w = done a w

-- nothing but a stop
abbrev pub stop : {A : Type 0} → Stop → Action A
stop s w = stopped s w

-- what is done next has the answer; a stop passes outwards
abbrev pub continued : {A B : Type 0} → Result A → (A → Action B) → Result B
continued (done a w) next = next a w
continued (stopped s w) next = stopped s w

infixl 1 ◌>>=◌
infixl 1 ◌>>◌
-- one computation, then another that has its answer
abbrev pub ◌>>=◌ : {A B : Type 0} → Action A → (A → Action B) → Action B
◌>>=◌ first next w = continued (first w) next

-- one computation, then another
abbrev pub ◌>>◌ : {A B : Type 0} → Action A → Action B → Action B
first >> second = first >>= (λ a. second)

-- the world as it stands
abbrev pub world : Action World
world w = done w w

-- a change of the world
abbrev pub change : (World → World) → Action (Unit {0})
change f w = done tt (f w)

-- an item comes after those so far
abbrev pub emit : Item → Action (Unit {0})
emit i = change (λ w. record w { items = w.items ++ i ∷ [] })

-- a new object, whose number is the answer
abbrev pub new_object : Part → Action ℕ
new_object a w = done (length w.objects) (record w { objects = w.objects ++ a ∷ [] })

-- the int in a cell; reading one that was never set is undefined
abbrev pub read_part : Part → Action ℤ
read_part (cell (Some v)) = pure v
read_part _ = stop undefined

-- the int that a reference names
abbrev pub read : Reference → Action ℤ
read r w = read_part (part_of w r) w

-- the int that a reference names is set
abbrev pub write : Reference → ℤ → Action (Unit {0})
write r v = change (λ w. written w r v)
