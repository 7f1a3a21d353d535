-- What registers hold for the calls that wait, one at a time, and the words of a frame that the unwinder reads for them.
use Rattle.std.proofs.Common.{◌≡◌, refl, ap, arith, ℕ, suc, ◌+◌, ◌%◌, ◌==◌, true, List, [], ◌∷◌, length, map, Ok}
use Rattle.std.proofs.lemmas.Bool.Decides.{nat_tests}
use Rattle.rv64_isa.specs.State.{State, Part}
use Rattle.rv64_machine.specs.Load.{word_loaded}
use Rattle.region_forms.specs.World.{World}
use Rattle.linear_forms.specs.Stub.{compiled}
use Rattle.linear_forms.specs.Activation.{Activation}
use Rattle.machine_forms.specs.Shape.{Shape, slot_offset}
use Rattle.machine_pieces.specs.Frames.{AddressAt}
use Rattle.machine_pieces.specs.Saving.{SavedAt}
use Rattle.machine_stubs.specs.Stretches.{frame_size}
use Rattle.raise_simulation.specs.OpenCalls.{AreSaved}
use Rattle.machine_simulation.specs.Plan.{Plan, shape}
use Rattle.machine_simulation.specs.StubCalls.{StubWaits}
use Rattle.machine_simulation.specs.KeptCalls.{kept_of, KeptCall, KeptCalls}
use Rattle.machine_simulation.proofs.KeptCalls.{behind_call, behind_stub, stub_is}

-- ---- one call that waits, and those behind it
pub record KeptBehind (p : Plan) (n : ℕ) (a : Activation) (fs : List Activation) (v : World) (memory : List Part) (stack : ℕ) (regs : List ℕ) : Type 0 where
  pub before : List ℕ
  pub call : KeptCall p n a.frame v memory stack regs before
  pub others : KeptCalls p fs v memory (stack + (shape p n).size) before

pub kept_call : (p : Plan) (n : ℕ) (a : Activation) (fs : List Activation) (v : World) (memory : List Part) (stack : ℕ) (regs : List ℕ) → a.function ≡ compiled n → KeptCalls p (a ∷ fs) v memory stack regs → KeptBehind p n a fs v memory stack regs
kept_call p n a fs v memory stack regs callee h =
    let k = behind_call p a.frame v memory stack regs (λ next outer. KeptCalls p fs v memory next outer) a.function n callee h in
    record { before = k.0; call = k.1; others = k.2 }

-- one of the runtime's own functions leaves the registers
pub kept_stub : (p : Plan) (a : Activation) (fs : List Activation) (v : World) (memory : List Part) (stack back outer : ℕ) (regs : List ℕ) → StubWaits p a v memory stack back outer → KeptCalls p (a ∷ fs) v memory stack regs →
    KeptCalls p fs v memory (stack + frame_size a.function) regs
kept_stub p a fs v memory stack back outer regs w h =
    behind_stub p a.frame v memory stack regs (λ next outer. KeptCalls p fs v memory next outer) a.function (stub_is p a v memory stack back outer w) h

-- ---- words of a frame
-- where a function's calls save registers, from sp on
abbrev pub places_of : Plan → ℕ → List ℕ
places_of p n = map (slot_offset (shape p n)) (kept_of p n)

saved_word : (s : State) (place value : ℕ) → AddressAt s.memory place value → word_loaded s place ≡ Ok value
saved_word s place value h =
    let test : (place % 8 == 0) ≡ true = grind (arith, nat_tests, h.aligned) in
    rw test (rw h.holds.there (ap Ok h.holds.is))

pub saved_words : (f : Shape) (s : State) (stack : ℕ) (kept values : List ℕ) → SavedAt f s.memory stack kept values → AreSaved s stack f.size (map (slot_offset f) kept) values
saved_words f s stack [] [] h = tt
saved_words f s stack [] (v ∷ values) h = absurd h
saved_words f s stack (k ∷ kept) [] h = absurd h
saved_words f s stack (k ∷ kept) (v ∷ values) h = (omega arith, saved_word s (stack + slot_offset f k) v h.0, saved_words f s stack kept values h.1)

-- a word for each slot
pub saved_count : (f : Shape) (memory : List Part) (stack : ℕ) (kept values : List ℕ) → SavedAt f memory stack kept values → length values ≡ length kept
saved_count f memory stack [] [] h = refl
saved_count f memory stack [] (v ∷ values) h = absurd h
saved_count f memory stack (k ∷ kept) [] h = absurd h
saved_count f memory stack (k ∷ kept) (v ∷ values) h = ap suc (saved_count f memory stack kept values h.1)
