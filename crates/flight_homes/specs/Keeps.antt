-- What a state of the machine for linear code keeps of exceptions: what their slots hold, which are on their way, and that newer calls know nothing of those.
use Rattle.std.specs.Prelude.{⊤, ◌≡◌, ◌⊎◌, ℕ, ◌+◌, ◌≤◌, ℤ, pos, Bool, true, false, List, [], ◌∷◌, ◌++◌, length, Option, Some, None, if◌then◌else◌}
use Rattle.meaning_forms.specs.Class.{contains}
use Rattle.region_forms.specs.Form.{SlotKind, help_slot}
use Rattle.region_forms.specs.Caught.{Entry}
use Rattle.region_forms.specs.World.{Base, of_exception, Address, Word, number_word, flying, unwinding, object_address, address_in, exception_in_slot, Frame, World, type_at}
use Rattle.region_forms.specs.Lives.{is_live, can_travel}
use Rattle.linear_forms.specs.Stub.{Function, compiled, end_catch, terminating, call_unexpected}
use Rattle.linear_forms.specs.Activation.{Code, Activation}
use Rattle.exceptions_in_flight.specs.Targets.{AimsAt}
use Rattle.flight_homes.specs.Homes.{is_one_of}

-- What is known of the places of functions: those where a call carries what a pad caught, their homes, the filters left, and the slots of pads.
pub record Carrying : Type 0 where
  pub carries : ℕ → ℕ → Bool
  pub home : ℕ → ℕ → ℕ
  pub left : ℕ → ℕ → List ℤ
  pub object : ℕ → ℕ
  pub selector : ℕ → ℕ

-- a place is one of a few
abbrev pub stub_carries : Function → ℕ → Bool
stub_carries end_catch p = contains (5 ∷ 6 ∷ []) p
stub_carries call_unexpected p = contains (15 ∷ 16 ∷ 17 ∷ []) p
stub_carries f p = false

-- where it goes on outwards: each of the runtime's own functions has one such place
abbrev pub stub_home : Function → ℕ
stub_home end_catch = 6
stub_home f = 17

-- what an open call carries: the word in its pad's first slot, the place from which it goes on, the number in the second slot, and the filters left
pub record Carried : Type 0 where
  pub word : Word
  pub home : ℕ
  pub number : Word
  pub left : List ℤ

abbrev pub compiled_carried : Carrying → ℕ → Activation → Option Carried
compiled_carried k n a =
    if k.carries n a.place then Some (record { word = a.frame.slots (k.object n); home = k.home n a.place; number = a.frame.slots (k.selector n); left = k.left n a.place }) else None

abbrev pub stub_carried : (object selector : ℕ) → Activation → Option Carried
stub_carried o s a =
    if stub_carries a.function a.place then Some (record { word = a.frame.slots o; home = stub_home a.function; number = a.frame.slots s; left = [] }) else None

abbrev pub carried_in : Carrying → Function → Activation → Option Carried
carried_in k (compiled n) a = compiled_carried k n a
carried_in k end_catch a = stub_carried 2 3 a
carried_in k call_unexpected a = stub_carried 4 5 a
carried_in k terminating a = None

abbrev pub carried : Carrying → Activation → Option Carried
carried k a = carried_in k a.function a

-- the exceptions that an open call keeps back from newer ones: that on its way, and that whose destructor runs
abbrev pub flying_in : Option Carried → List ℕ
flying_in None = []
flying_in (Some c) = elim c.word [ flying e d ↦ e ∷ [] | _ ↦ [] ]

abbrev pub destroyed_in : Function → Frame → List ℕ
destroyed_in end_catch x = exception_in_slot x 0 ∷ []
destroyed_in f x = []

abbrev pub kept_back : Carrying → List Activation → List ℕ
kept_back k [] = []
kept_back k (a ∷ fs) = flying_in (carried k a) ++ (destroyed_in a.function a.frame ++ kept_back k fs)

-- a slot that holds the address of an exception's object: of a compiled function one for help, of the runtime's own any
abbrev pub is_help_in : Code → Function → ℕ → Type 0
is_help_in code (compiled n) s = code.kinds_at n s ≡ help_slot
is_help_in code f s = ⊤

-- such a slot has the object itself, and no newer call's has one that an older call keeps back
pub record SlotsForget (code : Code) (k : Carrying) (a : Activation) (outer : List Activation) : Type 0 where
  pub whole : (s e o : ℕ) → is_help_in code a.function s → address_in (a.frame.slots s) ≡ Some (record { base = of_exception e; offset = o }) → o ≡ 0
  pub forgets : (s e : ℕ) → is_help_in code a.function s → address_in (a.frame.slots s) ≡ Some (object_address e) → contains (kept_back k outer) e ≡ false

abbrev pub CallsForget : Code → Carrying → List Activation → Type 0
CallsForget code k [] = ⊤
CallsForget code k (a ∷ fs) = SlotsForget code k a fs × CallsForget code k fs

-- the entries of an exception that is on its way travel again
abbrev pub TravelsAgain : ℕ → List Entry → Type 0
TravelsAgain e [] = ⊤
TravelsAgain e (x ∷ xs) = (x.number ≡ e → x.again ≡ true) × TravelsAgain e xs

-- the exceptions whose destructors run in open calls
abbrev pub gone : List Activation → List ℕ
gone [] = []
gone (a ∷ fs) = destroyed_in a.function a.frame ++ gone fs

-- An exception on its way, carried by an open call: it can travel, no destructor of it runs, and no handler has it that could leave it; it has come to its
-- target, where a filter of the pad is still to be tested for it, or aims at one from the place from which it goes on.
pub record Flies (code : Code) (a : Activation) (outer : List Activation) (c : Carried) (e d : ℕ) (w : World) : Type 0 where
  pub can : can_travel w e ≡ true
  pub whole : contains (gone outer) e ≡ false
  pub again : TravelsAgain e w.caught
  pub selector : ℤ
  pub number : c.number ≡ number_word selector
  pub goes : (is_one_of selector c.left ≡ true × (d ≡ length outer)) ⊎ AimsAt code (type_at w e) d (record { function = a.function; place = c.home; frame = a.frame } ∷ outer)

abbrev pub CarriesWord : Code → Activation → List Activation → Carried → Word → World → Type 0
CarriesWord code a outer c (flying e d) w = Flies code a outer c e d w
CarriesWord code a outer c (unwinding n) w = c.number ≡ number_word (pos 0)
CarriesWord code a outer c x w = ⊥

abbrev pub CarriesFlight : Code → Activation → List Activation → Option Carried → World → Type 0
CarriesFlight code a outer None w = ⊤
CarriesFlight code a outer (Some c) w = CarriesWord code a outer c c.word w

abbrev pub CallsCarry : Code → Carrying → List Activation → World → Type 0
CallsCarry code k [] w = ⊤
CallsCarry code k (a ∷ fs) w = CarriesFlight code a fs (carried k a) w × CallsCarry code k fs w
