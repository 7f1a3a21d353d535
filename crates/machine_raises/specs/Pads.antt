-- A landing pad's two words.
use Rattle.std.specs.Prelude.{◌≡◌, ℕ, ◌+◌, ◌^◌, ◌<◌, ◌≤◌, false, ℤ, List, [], length, slice_get, Some}
use Rattle.rv64_isa.specs.Step.{x}
use Rattle.cxa_runtime.specs.World as abi
use Rattle.cxa_runtime.specs.Raising.{Image}
use Rattle.region_forms.specs.World.{of_exception, Word, number_word, flying, unwinding, World, with_slot}
use Rattle.region_forms.specs.WellFormed.{is_variable}
use Rattle.linear_forms.specs.Linear.{pad}
use Rattle.linear_forms.specs.Stub.{compiled}
use Rattle.linear_forms.specs.Tables.{padded}
use Rattle.linear_forms.specs.Activation.{Activation, State, look}
use Rattle.linear_forms.specs.UnitRun.{code_of}
use Rattle.std.specs.List.{AllByRecursion}
use Rattle.machine_forms.specs.Registers.{a0, a1, sp}
use Rattle.machine_forms.specs.Routine.{op_word}
use Rattle.machine_pieces.specs.Keeping.{saved_of}
use Rattle.machine_pieces.specs.Numbers.{IsInt, extended}
use Rattle.machine_pieces.specs.Standing.{address}
use Rattle.machine_pieces.specs.Turning.{SameRuntime}
use Rattle.machine_simulation.specs.Plan.{Plan, function, shape, slot_kinds, routine, first_word, setting}
use Rattle.machine_simulation.specs.KeptCalls.{RegistersMatch}
use Rattle.machine_simulation.specs.Matches.{RuntimeMatches, MemoryMatches, Matches}
use Rattle.machine_simulation.specs.Operations.{Matched}

-- a slot of a function's frame that is no variable
pub record PlainSlot (p : Plan) (n s : ℕ) : Type 0 where
  pub inside : s < length (shape p n).slots
  pub plain : is_variable (slot_kinds p n s) ≡ false

-- each pad's slots are no variables of its function
abbrev pub PadsArePlain : Plan → Type 0
PadsArePlain p = (m place object selector : ℕ) → slice_get (function p m).ops place ≡ Some (pad object selector) → PlainSlot p m object × PlainSlot p m selector

-- the filters of each chain are ints
abbrev pub FiltersAreInts : Plan → Type 0
FiltersAreInts p = (m place q : ℕ) (chain : List ℤ) → look (code_of p.unit) (compiled m) place ≡ padded q chain → AllByRecursion IsInt chain

-- what a pad gets in a0 for the word that linear code puts in its first slot: the address of the object of an exception that travels, or 0
-- in a forced unwind
abbrev pub PadGets : Plan → World → Word → ℕ → Type 0
PadGets p v (flying e d) a = (e ≤ v.last_number) × (a ≡ p.at (of_exception e)) × (a < 2 ^ 64)
PadGets p v (unwinding n) a = a ≡ 0
PadGets p v word a = ⊥

-- a hart at the first word of a pad, with what the pad gets, and the ints of kept variables in registers
pub record AtPad (p : Plan) (n place object selector back : ℕ) (a : Activation) (fs : List Activation) (v : World) (word : Word) (filter : ℤ) (w : abi.World) : Type 0 where
  pub runs : a.function ≡ compiled n
  pub there : slice_get (function p n).ops place ≡ Some (pad object selector)
  pub object_slot : PlainSlot p n object
  pub selector_slot : PlainSlot p n selector
  pub pc : w.hart.pc ≡ address (setting p n).ground (first_word p n + op_word (routine p n) place)
  pub registers : length w.hart.regs ≡ 32
  pub gets : PadGets p v word (x w.hart a0)
  pub filter_is : x w.hart a1 ≡ extended filter
  pub int : IsInt filter
  pub memory : MemoryMatches p n a.frame fs v w.hart.memory (x w.hart sp) back
  pub kept : RegistersMatch p n a.frame fs v w.hart.memory (x w.hart sp) (saved_of w.hart)
  pub runtime : RuntimeMatches p fs v w

-- the state of the machine for linear code behind a pad
abbrev pub behind_pad : (place object selector : ℕ) → Activation → List Activation → World → Word → ℤ → State
behind_pad place object selector a fs v word filter = record {
  top = record { function = a.function; place = place + 1; frame = with_slot selector (number_word filter) (with_slot object word a.frame) };
  frames = fs;
  world = v;
}

-- The two words of a pad put into its slots what it gets, and the next operation begins. What the runtime keeps stays.
abbrev pub PadsRun : Type 0
PadsRun = (image : Image) (p : Plan) (n place object selector back : ℕ) (a : Activation) (fs : List Activation) (v : World) (word : Word) (filter : ℤ) (w : abi.World) →
    AtPad p n place object selector back a fs v word filter w → Matched image 2 w [] (λ u. Matches p (behind_pad place object selector a fs v word filter) u × SameRuntime w u)
