-- Which steps of the machine are calls of compiled functions or loops that turn back, and that no other step opens such a call.
use Rattle.std.specs.Prelude.{◌≡◌, ℕ, ◌≤◌, pos, nat_le, Bool, true, false, ◌∷◌, Option, Some}
use Rattle.region_forms.specs.World.{Word, number_word}
use Rattle.region_forms.specs.Effect.{Effect, calls, effect}
use Rattle.linear_forms.specs.Linear.{plain, jump}
use Rattle.linear_forms.specs.Stub.{CodeOp, linear, runtime, destroy_held, call_held}
use Rattle.linear_forms.specs.Activation.{Code, State, Next, goes_to, finishes, fetch, place_of, kinds, depth_of}
use Rattle.linear_forms.specs.Machine.{step}

-- a function is called
abbrev pub is_calling : Effect → Bool
is_calling (calls p n given) = true
is_calling x = false

-- a slot holds the number of a function
abbrev pub holds_function : Word → Bool
holds_function (number_word (pos n)) = true
holds_function x = false

-- An operation calls a function of the program, as one of its own or one that a slot holds; or it jumps to no later place, as the end of a
-- loop does.
abbrev pub counts_op : Code → Option CodeOp → State → Bool
counts_op code (Some (linear (plain o))) st = is_calling (effect (kinds code st.top.function) o st.top.frame st.world)
counts_op code (Some (linear (jump l))) st = nat_le (place_of code st.top.function l) st.top.place
counts_op code (Some (runtime (destroy_held d o))) st = holds_function (st.top.frame.slots d)
counts_op code (Some (runtime (call_held h))) st = holds_function (st.top.frame.slots h)
counts_op code o st = false

-- so does that at which a state stands
abbrev pub counts_at : Code → State → Bool
counts_at code st = counts_op code (fetch code st.top.function st.top.place) st

-- so many calls of compiled functions are open in what is next
abbrev pub Within : ℕ → Next → Type 0
Within d (goes_to st) = depth_of (st.top ∷ st.frames) ≤ d
Within d (finishes e w) = Unit {0}

-- A step after which more calls of compiled functions are open is a call that counts; and a jump, which may count too, opens none.
pub record OnlyCallsDeepen : Type 0 where
  pub quiet : (code : Code) (st : State) → counts_at code st ≡ false → Within (depth_of (st.top ∷ st.frames)) (step code st)
  pub jumps : (code : Code) (st : State) (l : ℕ) → fetch code st.top.function st.top.place ≡ Some (linear (jump l)) → Within (depth_of (st.top ∷ st.frames)) (step code st)
