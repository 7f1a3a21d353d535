-- The words of terminate.
use Rattle.std.proofs.Common.{◌≡◌, ◌∙◌, refl, arith, ℕ, ◌+◌, ◌-◌, ◌^◌, ◌<◌, ◌≤◌, List}
use Rattle.std.proofs.lemmas.Bool.{ne_eqb}
use Rattle.rv64_isa.specs.State.{State, Part, with_value}
use Rattle.rv64_isa.specs.Step.{x}
use Rattle.linear_forms.specs.Linear.{UnitCode}
use Rattle.linear_forms.specs.Stub.{terminating}
use Rattle.machine_pieces.specs.Standing.{address}
use Rattle.machine_stubs.specs.Stretches.{stub_ground, stub_word, Stands}
use Rattle.machine_stubs.specs.Terminate.{TerminateRuns}
use Rattle.machine_stubs.proofs.Walking.{Walks, update, walk_begins, walk_addi, walk_load, walk_store, slot_there, down, up, small_number, no_room}
use Rattle.machine_stubs.proofs.Jumping.{walk_same, walk_not_same, walk_call, walk_out}
use Rattle.machine_stubs.proofs.Ending.{path, word_at, ends_at, ends_aborted}

-- ---- up to the test of the handler

abbrev first_file : State → ℕ → ℕ → ℕ → ℕ
first_file s low h = update 10 h (update 2 low (λ r. x s r))

abbrev first_memory : State → ℕ → ℕ → List Part
first_memory s low h = with_value (with_value s.memory (low + 8) 8 (x s 1)) (low + 24) 8 h

tested : (u : UnitCode) (base h low : ℕ) (s : State) → low ≡ x s 2 - 32 → 32 ≤ x s 2 → (stands : Stands u base terminating 0 low 32 s) → x s 10 ≡ h → h < 2 ^ 64 →
    Walks (path u base terminating low 32 s stands.room) 4 (address (stub_ground u base terminating) 8) (first_file s low h) (first_memory s low h)
tested u base h low s is room stands handler small =
    let p = path u base terminating low 32 s stands.room in
    let below = stands.room.below in
    let file1 : ℕ → ℕ = update 2 low (λ r. x s r) in
    let m1 : List Part = with_value s.memory (low + 8) 8 (x s 1) in
    let m2 : List Part = with_value m1 (low + 24) 8 h in
    let w0 = walk_begins p 4 stands.pc stands.registers in
    let w1 = walk_addi p 0 4 2 2 4064 low (λ r. x s r) s.memory (omega arith) (omega arith) w0 (word_at stands 0 refl) (down (x s 2) 32 (omega arith) (omega arith) room (omega (arith, below, is)) ∙ omega (arith, is)) in
    let w2 = walk_store p 1 5 2 1 8 8 (x s 1) file1 s.memory w1 (word_at stands 1 refl) (up low 8 (omega arith) (omega (arith, below))) refl refl (omega arith) in
    let w3 = walk_store p 2 6 2 10 24 24 h file1 m1 w2 (word_at stands 2 refl) (up low 24 (omega arith) (omega (arith, below))) handler refl (omega arith) in
    walk_load p 3 7 10 2 24 (low + 24) h file1 m2 (omega arith) (omega arith) w3 (word_at stands 3 refl) (up low 24 (omega arith) (omega (arith, below)))
    (slot_there p 2 (address p.ground 6) 24 h file1 m1 w2 refl (omega arith) small)

pub terminate_runs : TerminateRuns
terminate_runs = record {
  calls_the_handler = λ image u base h w enough stands is some aligned small.
      let s : State = w.hart in
      let low : ℕ = x s 2 - 32 in
      let p = path u base terminating low 32 s stands.room in
      let file = first_file s low h in
      let parts = first_memory s low h in
      let w4 = tested u base h low s refl enough stands is small in
      let w5 = walk_not_same p 4 8 10 0 4 file parts w4 (word_at stands 4 refl) (ne_eqb h 0 some) in
      let w6 = walk_call p 5 9 10 h file parts w5 (word_at stands 5 refl) refl aligned small in
      let back : ℕ = stub_word base terminating 6 in
      ends_at image p w 6 6 h low (update 1 back file) parts (λ t. (x t 1 ≡ back) × (x t 10 ≡ h)) refl (omega arith) w6 refl refl (w6.hart.regs 1, w6.hart.regs 10);
  aborts_without = λ image pick n u base w enough stands is many.
      let s : State = w.hart in
      let low : ℕ = x s 2 - 32 in
      let p = path u base terminating low 32 s stands.room in
      let file = first_file s low 0 in
      let parts = first_memory s low 0 in
      let w4 = tested u base 0 low s refl enough stands is (omega arith) in
      let w5 = walk_same p 4 8 10 0 2 file parts w4 (word_at stands 4 refl) (omega arith) (omega (arith, (word_at stands 6 refl).word.below)) refl in
      let w6 = walk_addi p 5 10 17 0 16 16 file parts (omega arith) (omega arith) w5 (word_at stands 6 refl) (small_number 16 (omega arith)) in
      let out = walk_out p 6 11 (update 17 16 file) parts w6 (word_at stands 7 refl) in
      ends_aborted image pick n 6 n 12 p w (update 17 16 file) parts refl many out refl;
  aborts_behind = λ image pick n u base w at regs code many.
      let s : State = w.hart in
      let p = path u base terminating 0 0 s (no_room s.memory) in
      let rest = code.1.1.1.1.1.1 in
      let file : ℕ → ℕ = update 17 16 (λ r. x s r) in
      let w0 = walk_begins p 10 at regs in
      let w1 = walk_addi p 0 10 17 0 16 16 (λ r. x s r) s.memory (omega arith) (omega arith) w0 rest.0 (small_number 16 (omega arith)) in
      let out = walk_out p 1 11 file s.memory w1 rest.1.0 in
      ends_aborted image pick n 1 n 12 p w file s.memory refl many out refl;
}
