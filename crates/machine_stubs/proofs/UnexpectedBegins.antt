-- The words of call_unexpected up to its handler.
use Rattle.std.proofs.Common.{◌≡◌, ◌∙◌, refl, sym, subst, arith, ℕ, ◌+◌, ◌-◌, ◌^◌, ◌<◌, ◌≤◌, List, [], inl, inr}
use Rattle.std.proofs.lemmas.Bool.{eq-eqb, ne_eqb}
use Rattle.rv64_isa.specs.State.{State, Part, with_value}
use Rattle.rv64_isa.specs.Step.{x}
use Rattle.cxa_runtime.specs.World.{World}
use Rattle.cxa_runtime.specs.Raising.{Image}
use Rattle.linear_forms.specs.Linear.{UnitCode}
use Rattle.linear_forms.specs.Stub.{call_unexpected}
use Rattle.machine_pieces.specs.Standing.{address}
use Rattle.machine_pieces.specs.Frames.{AddressAt}
use Rattle.machine_pieces.specs.Turning.{Reaches}
use Rattle.machine_stubs.specs.Stretches.{stub_ground, stub_word, Beside, Stands, AtRuntimeCall}
use Rattle.machine_stubs.specs.CallUnexpected.{UnexpectedBegins}
use Rattle.machine_stubs.proofs.Walking.{Walks, update, beside_none, walk_begins, walk_addi, walk_load, walk_store, slot_there, slot_stays, down, up, small_number}
use Rattle.machine_stubs.proofs.Jumping.{walk_same, walk_not_same, walk_call, walk_out}
use Rattle.machine_stubs.proofs.Ending.{path, word_at, ends_at, ends_out}
use Rattle.machine_stubs.proofs.Reaching.{beside_at, slot_may}

-- ---- up to the call that enters the exception

begins : (image : Image) (u : UnitCode) (base stopped : ℕ) (w : World) → let s = w.hart in let low = x s 2 - 80 in
    80 ≤ x s 2 → Stands u base call_unexpected 0 low 80 s → x s 1 < 2 ^ 64 → AddressAt s.memory (low + 72) stopped →
    Reaches image 4 w [] (AtRuntimeCall u base call_unexpected 18 5 low low 80 w (λ t. (x t 10 ≡ stopped) × AddressAt t.memory (low + 8) (x s 1) × Beside (low + 8) 8 s.memory t.memory))
begins image u base stopped w enough stands small held =
    let s : State = w.hart in
    let low : ℕ = x s 2 - 80 in
    let p = path u base call_unexpected low 80 s stands.room in
    let below = stands.room.below in
    let file1 : ℕ → ℕ = update 2 low (λ r. x s r) in
    let file3 : ℕ → ℕ = update 10 stopped file1 in
    let file4 : ℕ → ℕ = update 17 18 file3 in
    let m1 : List Part = with_value s.memory (low + 8) 8 (x s 1) in
    let w0 = walk_begins p 40 stands.pc stands.registers in
    let w1 = walk_addi p 0 40 2 2 4016 low (λ r. x s r) s.memory (omega arith) (omega arith) w0 (word_at stands 0 refl) (down (x s 2) 80 (omega arith) (omega arith) enough (omega (arith, below))) in
    let w2 = walk_store p 1 41 2 1 8 8 (x s 1) file1 s.memory w1 (word_at stands 1 refl) (up low 8 (omega arith) (omega (arith, below))) refl refl (omega arith) in
    let w3 = walk_load p 2 42 10 2 72 (low + 72) stopped file1 m1 (omega arith) (omega arith) w2 (word_at stands 2 refl) (up low 72 (omega arith) (omega (arith, below))) (slot_stays low 8 (x s 1) 72 stopped s.memory (inl (omega arith)) held) in
    let w4 = walk_addi p 3 43 17 0 18 18 file3 m1 (omega arith) (omega arith) w3 (word_at stands 3 refl) (small_number 18 (omega arith)) in
    let out = walk_out p 4 44 file4 m1 w4 (word_at stands 4 refl) in
    let saved : AddressAt m1 (low + 8) (x s 1) = slot_there p 1 (address p.ground 41) 8 (x s 1) file1 s.memory w1 refl (omega arith) small in
    let beside : Beside (low + 8) 8 s.memory m1 = beside_at (low + 8) 8 (low + 8) (x s 1) s.memory s.memory (beside_none (low + 8) 8 s.memory) (omega arith) (omega arith) (slot_may p 1 (address p.ground 41) 8 file1 s.memory w1 (omega arith)) in
    ends_out image p u base call_unexpected w 4 4 18 5 low file4 m1 (λ t. (x t 10 ≡ stopped) × AddressAt t.memory (low + 8) (x s 1) × Beside (low + 8) 8 s.memory t.memory) refl refl stands.code (omega arith) out refl refl refl
    (subst (λ ps. (x out.behind 10 ≡ stopped) × AddressAt ps (low + 8) (x s 1) × Beside (low + 8) 8 s.memory ps) (sym out.hart.memory) (out.hart.regs 10, saved, beside))

-- ---- behind it: the handler and the table are kept

abbrev kept_memory : State → List Part
kept_memory s = with_value (with_value s.memory (x s 2 + 48) 8 (x s 10)) (x s 2 + 56) 8 (x s 11)

record Kept (u : UnitCode) (base : ℕ) (s : State) (stands : Stands u base call_unexpected 5 (x s 2) 80 s) : Type 0 where
  walk : Walks (path u base call_unexpected (x s 2) 80 s stands.room) 3 (address (stub_ground u base call_unexpected) 48) (update 10 (x s 10) (λ r. x s r)) (kept_memory s)
  table : x s 11 < 2 ^ 64 → AddressAt (kept_memory s) (x s 2 + 56) (x s 11)
  beside : Beside (x s 2 + 48) 16 s.memory (kept_memory s)
  stopped : (e : ℕ) → AddressAt s.memory (x s 2 + 72) e → AddressAt (kept_memory s) (x s 2 + 72) e

kept : (u : UnitCode) (base : ℕ) (s : State) → x s 10 < 2 ^ 64 → (stands : Stands u base call_unexpected 5 (x s 2) 80 s) → Kept u base s stands
kept u base s small stands =
    let low : ℕ = x s 2 in
    let p = path u base call_unexpected low 80 s stands.room in
    let below = stands.room.below in
    let file : ℕ → ℕ = λ r. x s r in
    let m1 : List Part = with_value s.memory (low + 48) 8 (x s 10) in
    let m2 : List Part = kept_memory s in
    let w0 = walk_begins p 45 stands.pc stands.registers in
    let w1 = walk_store p 0 45 2 10 48 48 (x s 10) file s.memory w0 (word_at stands 5 refl) (up low 48 (omega arith) (omega (arith, below))) refl refl (omega arith) in
    let w2 = walk_store p 1 46 2 11 56 56 (x s 11) file m1 w1 (word_at stands 6 refl) (up low 56 (omega arith) (omega (arith, below))) refl refl (omega arith) in
    let handler : AddressAt m2 (low + 48) (x s 10) = slot_stays low 56 (x s 11) 48 (x s 10) m1 (inr (omega arith)) (slot_there p 0 (address p.ground 45) 48 (x s 10) file s.memory w0 refl (omega arith) small) in
    record {
      walk = walk_load p 2 47 10 2 48 (low + 48) (x s 10) file m2 (omega arith) (omega arith) w2 (word_at stands 7 refl) (up low 48 (omega arith) (omega (arith, below))) handler;
      table = λ less. slot_there p 1 (address p.ground 46) 56 (x s 11) file m1 w1 refl (omega arith) less;
      beside = beside_at (low + 48) 16 (low + 56) (x s 11) s.memory m1
          (beside_at (low + 48) 16 (low + 48) (x s 10) s.memory s.memory (beside_none (low + 48) 16 s.memory) (omega arith) (omega arith) (slot_may p 0 (address p.ground 45) 48 file s.memory w0 (omega arith))) (omega arith) (omega arith)
          (slot_may p 1 (address p.ground 46) 56 file m1 w1 (omega arith));
      stopped = λ e h. slot_stays low 56 (x s 11) 72 e m1 (inl (omega arith)) (slot_stays low 48 (x s 10) 72 e s.memory (inl (omega arith)) h);
    }

-- ---- the stretches

pub unexpected_begins : UnexpectedBegins
unexpected_begins = record {
  begins = begins;
  calls_the_handler = λ image u base handler table w stands given some aligned small given_too table_small.
      let s : State = w.hart in
      let low : ℕ = x s 2 in
      let p = path u base call_unexpected low 80 s stands.room in
      let parts = kept_memory s in
      let k = kept u base s (omega (arith, given, small)) stands in
      let file : ℕ → ℕ = update 10 (x s 10) (λ r. x s r) in
      let back : ℕ = stub_word base call_unexpected 10 in
      let w4 = walk_not_same p 3 48 10 0 4 file parts k.walk (word_at stands 8 refl) (ne_eqb (x s 10) 0 (λ e. some (sym given ∙ e))) in
      let w5 = walk_call p 4 49 10 handler file parts w4 (word_at stands 9 refl) given aligned small in
      let held : AddressAt parts (low + 56) table = subst (AddressAt parts (low + 56)) given_too (k.table (omega (arith, given_too, table_small))) in
      ends_at image p w 5 5 handler low (update 1 back file) parts (λ t. (x t 1 ≡ back) × AddressAt t.memory (low + 56) table × Beside (low + 48) 16 s.memory t.memory) refl (omega arith) w5 refl refl
      (subst (λ ps. (x w5.after 1 ≡ back) × AddressAt ps (low + 56) table × Beside (low + 48) 16 s.memory ps) (sym w5.hart.memory) (w5.hart.regs 1, held, k.beside));
  terminates_without = λ image u base stopped w stands given held.
      let s : State = w.hart in
      let low : ℕ = x s 2 in
      let p = path u base call_unexpected low 80 s stands.room in
      let below = stands.room.below in
      let parts = kept_memory s in
      let k = kept u base s (omega (arith, given)) stands in
      let file : ℕ → ℕ = update 10 (x s 10) (λ r. x s r) in
      let file5 : ℕ → ℕ = update 10 stopped file in
      let file6 : ℕ → ℕ = update 17 20 file5 in
      let w4 = walk_same p 3 48 10 0 2 file parts k.walk (word_at stands 8 refl) (omega arith) (omega (arith, (word_at stands 10 refl).word.below)) (eq-eqb (x s 10) 0 given) in
      let w5 = walk_load p 4 50 10 2 72 (low + 72) stopped file parts (omega arith) (omega arith) w4 (word_at stands 10 refl) (up low 72 (omega arith) (omega (arith, below))) (k.stopped stopped held) in
      let w6 = walk_addi p 5 51 17 0 20 20 file5 parts (omega arith) (omega arith) w5 (word_at stands 11 refl) (small_number 20 (omega arith)) in
      let out = walk_out p 6 52 file6 parts w6 (word_at stands 12 refl) in
      ends_out image p u base call_unexpected w 6 6 20 13 low file6 parts (λ t. x t 10 ≡ stopped) refl refl stands.code (omega arith) out refl refl refl (out.hart.regs 10);
  terminates_behind = λ image u base stopped w stands held.
      let s : State = w.hart in
      let low : ℕ = x s 2 in
      let p = path u base call_unexpected low 80 s stands.room in
      let below = stands.room.below in
      let file1 : ℕ → ℕ = update 10 stopped (λ r. x s r) in
      let file2 : ℕ → ℕ = update 17 20 file1 in
      let w0 = walk_begins p 50 stands.pc stands.registers in
      let w1 = walk_load p 0 50 10 2 72 (low + 72) stopped (λ r. x s r) s.memory (omega arith) (omega arith) w0 (word_at stands 10 refl) (up low 72 (omega arith) (omega (arith, below))) held in
      let w2 = walk_addi p 1 51 17 0 20 20 file1 s.memory (omega arith) (omega arith) w1 (word_at stands 11 refl) (small_number 20 (omega arith)) in
      let out = walk_out p 2 52 file2 s.memory w2 (word_at stands 12 refl) in
      ends_out image p u base call_unexpected w 2 2 20 13 low file2 s.memory (λ t. x t 10 ≡ stopped) refl refl stands.code (omega arith) out refl refl refl (out.hart.regs 10);
}
