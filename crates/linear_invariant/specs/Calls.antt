-- What holds of each open call between two steps.
use Rattle.std.specs.Prelude.{⊤, ◌≡◌, ◌⊎◌, ℕ, zero, suc, ℤ, pos, Bool, true, false, List, [], ◌∷◌, length, Option, Some, None}
use Rattle.std.specs.List.{AllByRecursion}
use Rattle.meaning_forms.specs.Class.{contains}
use Rattle.region_forms.specs.World.{Word, number_word, address_word, flying, unwinding, object_address, address_in, Frame, World, type_at}
use Rattle.region_forms.specs.Lives.{can_travel}
use Rattle.region_forms.specs.Form.{leave}
use Rattle.linear_forms.specs.Linear.{plain, unexpected}
use Rattle.linear_forms.specs.Stub.{Function, compiled, end_catch, terminating, call_unexpected, CodeOp, linear, runtime, destroy_held, call_held}
use Rattle.linear_forms.specs.Activation.{Code, Activation, fetch, function_word}
use Rattle.exceptions_in_flight.specs.Targets.{AimsAt}
use Rattle.flight_homes.specs.Homes.{is_one_of}
use Rattle.flight_homes.specs.Keeps.{Carrying, Carried, destroyed_in, is_help_in, TravelsAgain}
use Rattle.flight_homes.specs.Lives.{Known}
use Rattle.linear_invariant.specs.Held.{carried_below, NoneHolds}
use Rattle.linear_invariant.specs.Handled.{IsGone}

-- a number is that of no filter still to be tested, or the 0 of a cleanup
abbrev pub IsOther : ℤ → List ℤ → Type 0
IsOther n left = (is_one_of n left ≡ false) ⊎ (n ≡ pos 0)

-- An exception on its way, carried by an open call: it can travel, the call itself does not wait for its destructor, and no handler has it that could leave it;
-- it has come to its target, where a filter of the pad is still to be tested for it, or, with another number, it aims at one from the place from which it goes on.
pub record OnItsWay (code : Code) (a : Activation) (outer : List Activation) (c : Carried) (e d : ℕ) (w : World) : Type 0 where
  pub can : can_travel w e ≡ true
  pub apart : contains (destroyed_in a.function a.frame) e ≡ false
  pub again : TravelsAgain e w.caught
  pub selector : ℤ
  pub number : c.number ≡ number_word selector
  pub goes : (is_one_of selector c.left ≡ true × (d ≡ length outer)) ⊎ (IsOther selector c.left × AimsAt code (type_at w e) d (record { function = a.function; place = c.home; frame = a.frame } ∷ outer))

-- what is known of destructors, and of each word that a call carries
pub record Marks : Type 1 where
  pub known : Known
  pub words : Word → Type 0

-- where nothing is said of words
abbrev pub unmarked : Known → Marks
unmarked known = record { known = known; words = λ word. ⊤ }

abbrev pub WordGoes : Marks → Code → Activation → List Activation → Carried → Word → World → Type 0
WordGoes marks code a outer c (flying e d) w = OnItsWay code a outer c e d w × marks.words (flying e d)
WordGoes marks code a outer c (unwinding n) w = (c.number ≡ number_word (pos 0)) × marks.words (unwinding n)
WordGoes marks code a outer c x w = ⊥

abbrev pub FlightGoes : Marks → Code → Activation → List Activation → Option Carried → World → Type 0
FlightGoes marks code a outer None w = ⊤
FlightGoes marks code a outer (Some c) w = WordGoes marks code a outer c c.word w

-- what stopped an unwind out of an unexpected handler: its pad has an exception with the number of `catch (...)`, or a forced unwind with 0
abbrev pub IsStopped : Marks → Word → Word → Type 0
IsStopped marks (flying e d) x = x ≡ number_word (pos 1)
IsStopped marks (unwinding n) x = (x ≡ number_word (pos 0)) × marks.words (unwinding n)
IsStopped marks y x = ⊥

-- what is to be destroyed, with its destructor
pub record HasDestructor (destructors : Option ℕ → Type 0) (x : Frame) : Type 0 where
  pub number : ℕ
  pub object : x.slots 0 ≡ address_word (object_address number)
  pub destructor : Option ℕ
  pub held : x.slots 1 ≡ function_word destructor
  pub known : destructors destructor

-- what the runtime's own functions have in their slots
abbrev pub StubHolds : Marks → Function → ℕ → Frame → Type 0
StubHolds marks (compiled n) p x = ⊤
StubHolds marks terminating p x = ⊤
StubHolds marks end_catch (suc zero) x = HasDestructor marks.known.destructors x
StubHolds marks end_catch p x = ⊤
StubHolds marks call_unexpected (suc (suc (suc (suc zero)))) x = IsStopped marks (x.slots 4) (x.slots 5)
StubHolds marks call_unexpected p x = ⊤

-- which functions come back to their callers
abbrev pub comes_back : Function → Bool
comes_back (compiled n) = true
comes_back end_catch = true
comes_back terminating = false
comes_back call_unexpected = false

-- an operation that calls a function of the program, or may
abbrev pub makes_call : CodeOp → Bool
makes_call (linear (plain o)) = true
makes_call (linear o) = false
makes_call (runtime (destroy_held d o)) = true
makes_call (runtime (call_held h)) = true
makes_call (runtime o) = false

-- the operation at which the caller of a function waits
abbrev pub MadeBy : Function → CodeOp → Type 0
MadeBy (compiled n) op = makes_call op ≡ true
MadeBy end_catch op = op ≡ linear (plain leave)
MadeBy terminating op = ⊤
MadeBy call_unexpected op = (o : ℕ) × (s : ℕ) × (op ≡ linear (unexpected o s))

pub record WaitsAt (code : Code) (f : Function) (a : Activation) : Type 0 where
  pub op : CodeOp
  pub there : fetch code a.function a.place ≡ Some op
  pub made : MadeBy f op

-- terminate can be called from anywhere, and never comes back
abbrev pub Waits : Code → Option Function → Activation → Type 0
Waits code None a = ⊤
Waits code (Some (compiled n)) a = WaitsAt code (compiled n) a
Waits code (Some end_catch) a = WaitsAt code end_catch a
Waits code (Some terminating) a = ⊤
Waits code (Some call_unexpected) a = WaitsAt code call_unexpected a

-- An open call below one of a function, or the newest: what its slots for help have of exceptions no older call holds; what it carries goes on; that for
-- whose destructor it waits is gone.
pub record CallKeeps (code : Code) (k : Carrying) (marks : Marks) (f : Option Function) (a : Activation) (outer : List Activation) (w : World) : Type 0 where
  pub forgets : (s e : ℕ) → is_help_in code a.function s → address_in (a.frame.slots s) ≡ Some (object_address e) → NoneHolds k (Some a.function) outer e
  pub carries : FlightGoes marks code a outer (carried_below f k a) w
  pub gone : AllByRecursion (IsGone w) (destroyed_in a.function a.frame)
  pub slots : StubHolds marks a.function a.place a.frame
  pub waits : Waits code f a

abbrev pub CallsKeep : Code → Carrying → Marks → Option Function → List Activation → World → Type 0
CallsKeep code k marks f [] w = ⊤
CallsKeep code k marks f (a ∷ fs) w = CallKeeps code k marks f a fs w × CallsKeep code k marks (Some a.function) fs w
