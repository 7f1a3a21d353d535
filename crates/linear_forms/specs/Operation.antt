-- What the machine does at one operation of linear code.
use Rattle.std.specs.Prelude.{ℕ, ℤ, Bool, false, List, [], ◌∷◌, Option, Some, None, if◌then◌else◌}
use Rattle.meaning_forms.specs.Arithmetic.{is_zero, int_equal}
use Rattle.meaning_forms.specs.Outcome.{exit}
use Rattle.region_forms.specs.Form.{Place, store}
use Rattle.region_forms.specs.World.{Word, nothing, number_word, flying, unwinding, World, exception_in_slot}
use Rattle.region_forms.specs.Lives.{is_live, is_being_built}
use Rattle.region_forms.specs.Evaluation.{value_in}
use Rattle.region_forms.specs.Effect.{Effect, goes, calls, raises, terminates, ends, cancels, leaves_newest, meaningless, effect, finished, freed, result_in}
use Rattle.linear_forms.specs.Linear.{LinearOp, plain, label, jump, jump_zero, pad, jump_filter, free, resume, unexpected, return}
use Rattle.linear_forms.specs.Stub.{Function, compiled, end_catch, call_unexpected, CodeOp, linear}
use Rattle.linear_forms.specs.Activation.{Code, Activation, Next, finishes, by_program, not_defined, fault, next_if, fetch, look, place_of, kinds, at, on, enters_function, stub_frame, function_word, terminated}
use Rattle.linear_forms.specs.Unwinding.{unwind, raise}
use Rattle.linear_forms.specs.Forced.{force}

-- an operation whose effect needs nothing more is done
abbrev pub settled : Effect → Activation → List Activation → World → Next
settled (goes x v) a fs w = on a x fs v
settled _ a fs w = finishes not_defined w

-- the effect of an operation
abbrev pub performed : Code → Effect → Activation → List Activation → World → Next
performed code (goes x v) a fs w = on a x fs v
performed code (calls p n given) a fs w = enters_function code n given (a ∷ fs) w
performed code (raises e v) a fs w = raise code e a fs v
performed code (terminates h v) a fs w = terminated h (a ∷ fs) v
performed code (ends e v) a fs w = finishes (by_program e) v
performed code (cancels n v) a fs w = force code (look code a.function a.place) n a.function a.frame fs v
performed code leaves_newest a fs w = at end_catch 0 (stub_frame nothing nothing nothing) (a ∷ fs) w
performed code meaningless a fs w = finishes not_defined w

-- where the value of a call goes: a store's place
abbrev pub wanted_by : Option CodeOp → Option Place
wanted_by (Some (linear (plain (store p v)))) = Some p
wanted_by _ = None

-- a call comes back with a value; what main gives ends the program
abbrev pub returned : Code → ℤ → List Activation → World → Next
returned code v [] w = finishes (by_program (exit v)) w
returned code v (a ∷ fs) w = settled (finished (kinds code a.function) (wanted_by (fetch code a.function a.place)) v a.frame w) a fs w

-- a call comes back with what may not be defined
abbrev pub returned_with : Code → Option ℤ → List Activation → World → Next
returned_with code None fs w = finishes not_defined w
returned_with code (Some v) fs w = returned code v fs w

-- a jump to a label
abbrev pub jumped : Code → ℕ → Activation → List Activation → World → Next
jumped code l a fs w = at a.function (place_of code a.function l) a.frame fs w

-- a jump where a value is 0
abbrev pub jumped_zero : Code → Option ℤ → ℕ → Activation → List Activation → World → Next
jumped_zero code None l a fs w = finishes not_defined w
jumped_zero code (Some v) l a fs w = if is_zero v then jumped code l a fs w else on a a.frame fs w

-- a slot holds a number
abbrev pub holds_number : Word → ℤ → Bool
holds_number (number_word v) n = int_equal v n
holds_number _ n = false

-- the interrupted raise or forced unwind goes on from the place of the call
abbrev pub resumed : Code → Word → Activation → List Activation → World → Next
resumed code (flying e t) a fs w = unwind code (look code a.function a.place) t e a.function a.frame fs w
resumed code (unwinding n) a fs w = force code (look code a.function a.place) n a.function a.frame fs w
resumed code _ a fs w = finishes fault w

-- the number of a compiled function
abbrev pub number_of : Function → Option ℕ
number_of (compiled n) = Some n
number_of _ = None

-- a compiled function frees the object of an exception that is being built, and the runtime's own that of a live one
abbrev pub may_free : Function → World → ℕ → Bool
may_free (compiled n) w e = is_being_built w e
may_free _ w e = is_live w e

-- one operation of linear code
abbrev pub act : Code → LinearOp → Activation → List Activation → World → Next
act code (plain o) a fs w = performed code (effect (kinds code a.function) o a.frame w) a fs w
act code (label l) a fs w = on a a.frame fs w
act code (jump l) a fs w = jumped code l a fs w
act code (jump_zero v l) a fs w = jumped_zero code (value_in (kinds code a.function) a.frame w v) l a fs w
act code (pad o s) a fs w = finishes fault w
act code (jump_filter s n l) a fs w = if holds_number (a.frame.slots s) n then jumped code l a fs w else on a a.frame fs w
act code (free s) a fs w =
    next_if (may_free a.function w (exception_in_slot a.frame s)) w (on a a.frame fs (freed (exception_in_slot a.frame s) w))
act code (resume s) a fs w = resumed code (a.frame.slots s) a fs w
act code (unexpected o s) a fs w =
    at call_unexpected 0 (stub_frame (a.frame.slots o) (a.frame.slots s) (function_word (number_of a.function))) (a ∷ fs) w
act code (return result) a fs w = returned_with code (result_in result a.frame w (kinds code a.function)) fs w
