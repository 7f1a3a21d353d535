-- What one operation does, the same for regions and for linear code. Where it makes a call, raises, ends or terminates, only that is
-- said here: how a call runs, and what stops an exception, is said by each level for itself.
use Rattle.std.specs.Prelude.{ℕ, zero, suc, ◌+◌, ◌-◌, ℤ, pos, negsuc, nat_le, not, ◌==◌, ◌&&◌, Bool, true, false, List, [], ◌∷◌, ◌++◌, length, max, Option, Some, None, slice_get, slice_set, if◌then◌else◌}
use Rattle.cxx_ast.specs.declared.name.Builtin.{Builtin}
use Rattle.cxx_ast.specs.declared.name.Builtin.TheVariants.{WriteInt, ReadByte, Exit, Module, Cancel, Terminate, SetTerminate, SetUnexpected, Uncaught, BadException}
use Rattle.run_items.specs.declared.item.Item.TheVariants.{Line, Make, Foreign, Enter, Leave, Free, Clean}
use Rattle.meaning_forms.specs.Arithmetic.{truth}
use Rattle.meaning_forms.specs.Outcome.{End, exit}
use Rattle.eh_outer.specs.declared.module.Reply.{Reply}
use Rattle.eh_outer.specs.declared.module.Reply.TheVariants.{Value as ValueReply, Raise}
use Rattle.region_forms.specs.Form.{Kinds, SlotKind, int_slot, in_slot, Place, Callee, defined, builtin, Value, load, call_value, Op, evaluate, store, bind, call, construct, destroy, make, throw, rethrow, enter, leave}
use Rattle.region_forms.specs.Caught.{Entry, entered_on, left_of, flown, holds_other}
use Rattle.region_forms.specs.World.{Word, nothing, number_word, address_word, Frame, World, Exception, building, native, foreign, of_variable, written, with_slot, object_address, exception_in_slot, with_item, exception_at, with_exception, without_exception}
use Rattle.region_forms.specs.Lives.{is_there, is_being_built, can_travel, may_enter}
use Rattle.region_forms.specs.Evaluation.{Location, in_memory, in_frame, locate, value_in, address_of, words_in}

-- An operation is done; or it calls a function and stores the value in a place, if one is given; raises an exception; calls
-- terminate with a handler; ends the program; begins a forced unwind; leaves the newest handler; or is not defined.
pub data Effect : Type 0 where
  goes : Frame → World → Effect
  calls : Option Place → ℕ → List Word → Effect
  raises : ℕ → World → Effect
  terminates : Option ℕ → World → Effect
  ends : End → World → Effect
  cancels : ℤ → World → Effect
  leaves_newest : Effect
  meaningless : Effect

-- what follows from what may not be defined
abbrev pub if_some : {A : Type 0} → Option A → (A → Effect) → Effect
if_some None next = meaningless
if_some (Some a) next = next a

-- what is defined only where a test holds
abbrev pub only_where : Bool → Effect → Effect
only_where true x = x
only_where false x = meaningless

-- an int is written to a location; the object of an exception that is no longer live is nowhere
abbrev pub stored_at : Location → ℤ → Frame → World → Effect
stored_at (in_memory a) v f w = only_where (is_there w a.base) (goes f (written a v w))
stored_at (in_frame s) v f w = goes (with_slot s (number_word v) f) w

-- a value is stored in a place, or dropped
abbrev pub finished : Kinds → Option Place → ℤ → Frame → World → Effect
finished kinds None v f w = goes f w
finished kinds (Some p) v f w = if_some (locate kinds f p) (λ l. stored_at l v f w)

-- at most 1,024 exceptions are live
abbrev pub is_full : World → Bool
is_full w = nat_le 1024 (length w.live)

-- a new live exception with the next number
abbrev pub with_new : Exception → World → World
with_new x w = record w { last_number = w.last_number + 1; live = w.live ++ record { number = w.last_number + 1; exception = x } ∷ [] }

-- an exception begins to travel: a new one, or the newest handled one again
abbrev pub flies : ℕ → World → World
flies e w = record w { uncaught = w.uncaught + 1; caught = flown e w.caught }

-- an exception is entered after it travelled
abbrev pub entered : ℕ → World → World
entered e w = with_item (Enter e) (record w { uncaught = w.uncaught - 1; caught = entered_on e w.caught })

-- a doomed exception is entered, which never travelled
abbrev pub entered_doomed : ℕ → World → World
entered_doomed e w = with_item (Enter e) (record w { caught = entered_on e w.caught })

-- an exception object is given back
abbrev pub freed : ℕ → World → World
freed e w = without_exception e (with_item (Free e) w)

-- a foreign exception, with its module and token
abbrev pub is_foreign : Exception → Bool
is_foreign (foreign k t) = true
is_foreign _ = false

-- the i-th number passed
abbrev pub number_at : List Word → ℕ → ℤ
number_at (number_word v ∷ given) zero = v
number_at (x ∷ given) (suc i) = number_at given i
number_at _ _ = pos 0

-- the function passed to set_terminate or set_unexpected
abbrev pub handler_at : List Word → Option ℕ
handler_at (number_word (pos n) ∷ given) = Some n
handler_at _ = None

-- the world before an input byte is read gives it, or -1 at the end
abbrev pub byte_of : List ℕ → ℤ
byte_of [] = negsuc 0
byte_of (b ∷ bytes) = pos b

-- the input after a byte is read
abbrev pub bytes_after : List ℕ → List ℕ
bytes_after [] = []
bytes_after (b ∷ bytes) = bytes

-- a reply is the value of the call, or raises an exception
abbrev pub answered : Kinds → Option Place → ℕ → Reply → Frame → World → Effect
answered kinds p k (ValueReply v) f w = finished kinds p v f w
answered kinds p k (Raise t) f w =
    if is_full w then terminates w.installed.terminate_handler w else
    raises (w.last_number + 1) (with_item (Foreign (w.last_number + 1) k t) (with_new (foreign k t) w))

-- the first reply left to module k
abbrev pub replied : Kinds → Option Place → ℕ → Option (List Reply) → Frame → World → Effect
replied kinds p k None f w = finished kinds p (pos 0) f w
replied kinds p k (Some []) f w = finished kinds p (pos 0) f w
replied kinds p k (Some (x ∷ left)) f w = answered kinds p k x f (record w { replies = slice_set w.replies k left })

-- a negative number has no module
abbrev pub module_called : Kinds → Option Place → ℤ → Frame → World → Effect
module_called kinds p (negsuc k) f w = finished kinds p (pos 0) f w
module_called kinds p (pos k) f w = replied kinds p k (slice_get w.replies k) f w

-- some exception travels
abbrev pub some_travel : ℕ → Bool
some_travel n = not (n == 0)

-- a built-in function is called
abbrev pub built_in : Kinds → Builtin → Option Place → List Word → Frame → World → Effect
built_in kinds WriteInt p given f w = finished kinds p (pos 0) f (with_item (Line (number_at given 0)) w)
built_in kinds ReadByte p given f w = finished kinds p (byte_of w.input) f (record w { input = bytes_after w.input })
built_in kinds Exit p given f w = ends (exit (number_at given 0)) w
built_in kinds Module p given f w = module_called kinds p (number_at given 0) f w
built_in kinds Cancel p given f w = cancels (number_at given 0) w
built_in kinds Terminate p given f w = terminates w.installed.terminate_handler w
built_in kinds SetTerminate p given f w =
    finished kinds p (pos 0) f (record w { installed = record (w.installed) { terminate_handler = handler_at given } })
built_in kinds SetUnexpected p given f w =
    finished kinds p (pos 0) f (record w { installed = record (w.installed) { unexpected_handler = handler_at given } })
built_in kinds Uncaught p given f w = finished kinds p (truth (some_travel w.uncaught)) f w
built_in kinds BadException p given f w = meaningless

-- a function is called, or a built-in one
abbrev pub called : Kinds → Callee → Option Place → List Word → Frame → World → Effect
called kinds (defined n) p given f w = calls p n given
called kinds (builtin b) p given f w = built_in kinds b p given f w

-- a value is stored or dropped; a call may stand at its top
abbrev pub valued : Kinds → Value → Option Place → Frame → World → Effect
valued kinds (call_value c args) p f w = if_some (words_in kinds f w args) (λ given. called kinds c p given f w)
valued kinds v p f w = if_some (value_in kinds f w v) (λ x. finished kinds p x f w)

-- after building, the exception is native, and the handlers then in effect are kept with it
abbrev pub kept : ℕ → ℕ → Option ℕ → World → World
kept e t d w = with_exception e (native t d w.installed) w

-- the newest handled exception travels again; with none, or while it travels, terminate is called
abbrev pub rethrown : List Entry → World → Effect
rethrown [] w = terminates w.installed.terminate_handler w
rethrown (x ∷ xs) w = if x.again then terminates w.installed.terminate_handler w else only_where (can_travel w x.number) (raises x.number w)

-- an exception is entered, but entering a foreign one while another is handled calls terminate
abbrev pub enters : ℕ → Frame → World → Effect
enters e f w =
    only_where (may_enter w e)
    (if is_foreign (exception_at w e) && holds_other e w.caught then terminates w.installed.terminate_handler w else goes f (entered e w))

-- what an operation does in a frame
abbrev pub effect : Kinds → Op → Frame → World → Effect
effect kinds (evaluate v) f w = valued kinds v None f w
effect kinds (store p v) f w = valued kinds v (Some p) f w
effect kinds (bind s p) f w = if_some (address_of kinds f p) (λ a. goes (with_slot s (address_word a) f) w)
effect kinds (call c args) f w = if_some (words_in kinds f w args) (λ given. called kinds c None given f w)
effect kinds (construct p n args) f w =
    if_some (address_of kinds f p) (λ a. if_some (words_in kinds f w args) (λ given. calls None n (address_word a ∷ given)))
effect kinds (destroy p n) f w = if_some (address_of kinds f p) (λ a. calls None n (address_word a ∷ []))
effect kinds (make s) f w =
    if is_full w then terminates w.installed.terminate_handler w else
    goes (with_slot s (address_word (object_address (w.last_number + 1))) f) (with_item (Make (w.last_number + 1)) (with_new building w))
effect kinds (throw s t d) f w =
    only_where (is_being_built w (exception_in_slot f s)) (raises (exception_in_slot f s) (kept (exception_in_slot f s) t d w))
effect kinds rethrow f w = rethrown w.caught w
effect kinds (enter s) f w = enters (exception_in_slot f s) f w
effect kinds leave f w = leaves_newest

-- the number of the newest handled exception, and whether it is given back when it is left
abbrev pub newest_of : List Entry → ℕ
newest_of [] = 0
newest_of (x ∷ xs) = x.number

-- the newest handler is left
abbrev pub left : World → World
left w = with_item (Leave (newest_of w.caught)) (record w { caught = left_of w.caught })

-- a foreign exception's module cleans up, in place of destroying and freeing
abbrev pub cleaned_up : ℕ → (module_number token : ℕ) → World → World
cleaned_up e k t w = without_exception e (with_item (Clean k t) w)

-- a call begins: its number is new
abbrev pub call_begun : ℕ → World → World
call_begun depth w = record w { calls = w.calls + 1; deepest = max w.deepest depth }

-- a parameter's slot gets what is passed: an int variable in memory, anything else in the frame
abbrev pub passed_to : SlotKind → ℕ → Word → Frame → Frame
passed_to int_slot s x f = f
passed_to _ s x f = with_slot s x f

-- an int parameter's address gets the number that is passed
abbrev pub int_passed_to : SlotKind → ℕ → ℕ → Word → World → World
int_passed_to int_slot c s (number_word v) w = written (record { base = of_variable c s; offset = 0 }) v w
int_passed_to _ c s x w = w

-- the slots and the memory of a call at its beginning, from the s-th parameter on
abbrev pub frame_passed : Kinds → ℕ → List Word → Frame → Frame
frame_passed kinds s [] f = f
frame_passed kinds s (x ∷ given) f = frame_passed kinds (s + 1) given (passed_to (kinds s) s x f)

-- the memory with the int parameters of a call, from the s-th parameter on
abbrev pub world_passed : Kinds → ℕ → ℕ → List Word → World → World
world_passed kinds c s [] w = w
world_passed kinds c s (x ∷ given) w = world_passed kinds c (s + 1) given (int_passed_to (kinds s) c s x w)

-- the frame of a new call
abbrev pub new_frame : Kinds → List Word → World → Frame
new_frame kinds given w = frame_passed kinds 0 given (record { call = w.calls; slots = λ s. nothing })

-- the world of a new call, which is open call number `depth`
abbrev pub new_world : Kinds → List Word → ℕ → World → World
new_world kinds given depth w = call_begun depth (world_passed kinds w.calls 0 given w)

-- the value that a function returns: what its result slot holds
abbrev pub result_in : Option ℕ → Frame → World → Kinds → Option ℤ
result_in None f w kinds = Some (pos 0)
result_in (Some s) f w kinds = value_in kinds f w (load (record { root = in_slot s; offset = 0 }))
