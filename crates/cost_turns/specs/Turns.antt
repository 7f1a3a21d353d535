-- The turns of a run: calls of compiled functions, loops that turn back, and beginnings of terminate.
use Rattle.std.specs.Prelude.{ℕ, ◌+◌, ◌==◌, ◌&&◌, Bool, true, false, nat_le, nat_lt, ◌∷◌, Option, Some}
use Rattle.linear_forms.specs.Linear.{jump}
use Rattle.linear_forms.specs.Stub.{Function, terminating, CodeOp, linear}
use Rattle.linear_forms.specs.Activation.{Code, State, fetch, place_of, depth_of}

abbrev pub flag : Bool → ℕ
flag true = 1
flag false = 0

abbrev pub is_terminating : Function → Bool
is_terminating terminating = true
is_terminating f = false

-- a compiled function is called
abbrev pub calls : State → State → Bool
calls st next = nat_lt (depth_of (st.top ∷ st.frames)) (depth_of (next.top ∷ next.frames))

-- an operation at a place is a jump to no later place
abbrev pub back_from : Code → Function → ℕ → Option CodeOp → Bool
back_from code f p (Some (linear (jump l))) = nat_le (place_of code f l) p
back_from code f p o = false

abbrev pub jumps_back : Code → State → Bool
jumps_back code st = back_from code st.top.function st.top.place (fetch code st.top.function st.top.place)

-- terminate begins
abbrev pub begins_terminate : State → Bool
begins_terminate next = is_terminating next.top.function && next.top.place == 0

-- how many turns begin by the step from a state to the next
abbrev pub turned : Code → State → State → ℕ
turned code st next = flag (calls st next) + flag (jumps_back code st) + flag (begins_terminate next)
