-- The words of call_unexpected from where what is thrown in the end comes out of it.
use Rattle.std.proofs.Common.{◌≡◌, refl, sym, subst, arith, ℕ, ◌+◌}
use Rattle.rv64_isa.specs.State.{State}
use Rattle.rv64_isa.specs.Step.{x}
use Rattle.linear_forms.specs.Stub.{end_catch, call_unexpected}
use Rattle.machine_forms.specs.Piece.{entry}
use Rattle.machine_pieces.specs.Frames.{AddressAt}
use Rattle.machine_stubs.specs.Stretches.{stub_ground, stub_word, Beside}
use Rattle.machine_stubs.specs.CallUnexpected.{UnexpectedEnds}
use Rattle.machine_stubs.proofs.Walking.{update, walk_begins, walk_addi, walk_load, up, small_number}
use Rattle.machine_stubs.proofs.Jumping.{walk_out}
use Rattle.machine_stubs.proofs.Ending.{path, word_at, ends_at, ends_out}
use Rattle.machine_stubs.proofs.Reaching.{walk_function}
use Rattle.machine_stubs.proofs.UnexpectedChecks.{kept_memory, kept}
use Rattle.machine_stubs.proofs.Start.{reached_word}

pub unexpected_ends : UnexpectedEnds
unexpected_ends = record {
  leaves_the_thrown = λ image u base thrown w few stands given small.
      let s : State = w.hart in
      let low : ℕ = x s 2 in
      let p = path u base call_unexpected low 80 s stands.room in
      let below = stands.room.below in
      let g = stub_ground u base call_unexpected in
      let parts = kept_memory s in
      let k = kept u base 51 s stands (word_at stands 51 refl) (word_at stands 52 refl) in
      let held : AddressAt parts (low + 40) thrown = subst (AddressAt parts (low + 40)) given (k.thrown (omega (arith, given, small))) in
      let back : ℕ = stub_word base call_unexpected 55 in
      let callee : ℕ = stub_word base end_catch 0 in
      let w4 = walk_function p 2 93 callee (entry end_catch) (λ r. x s r) parts k.walk (word_at stands 53 refl) (word_at stands 54 refl) (reached_word g (entry end_catch) 12 few (omega arith) refl) (omega (arith, (word_at stands 53 refl).word.aligned)) (omega (arith, (word_at stands 53 refl).word.below)) in
      ends_at image p w 4 4 callee low (update 1 back (λ r. x s r)) parts (λ t. (x t 1 ≡ back) × AddressAt t.memory (low + 40) thrown × Beside (low + 32) 16 s.memory t.memory) refl (omega arith) w4 refl refl
      (subst (λ ps. (x w4.after 1 ≡ back) × AddressAt ps (low + 40) thrown × Beside (low + 32) 16 s.memory ps) (sym w4.hart.memory) (w4.hart.regs 1, held, k.beside));
  leaves_the_stopped = λ image u base w few stands.
      let s : State = w.hart in
      let low : ℕ = x s 2 in
      let p = path u base call_unexpected low 80 s stands.room in
      let g = stub_ground u base call_unexpected in
      let back : ℕ = stub_word base call_unexpected 57 in
      let callee : ℕ = stub_word base end_catch 0 in
      let w0 = walk_begins p 95 stands.pc stands.registers in
      let w2 = walk_function p 0 95 callee (entry end_catch) (λ r. x s r) s.memory w0 (word_at stands 55 refl) (word_at stands 56 refl) (reached_word g (entry end_catch) 12 few (omega arith) refl) (omega (arith, (word_at stands 55 refl).word.aligned)) (omega (arith, (word_at stands 55 refl).word.below)) in
      ends_at image p w 2 2 callee low (update 1 back (λ r. x s r)) s.memory (λ t. (x t 1 ≡ back) × (t.memory ≡ s.memory)) refl (omega arith) w2 refl refl (w2.hart.regs 1, w2.hart.memory);
  resumes = λ image u base thrown w stands held.
      let s : State = w.hart in
      let low : ℕ = x s 2 in
      let p = path u base call_unexpected low 80 s stands.room in
      let below = stands.room.below in
      let file1 : ℕ → ℕ = update 10 thrown (λ r. x s r) in
      let file2 : ℕ → ℕ = update 17 9 file1 in
      let w0 = walk_begins p 97 stands.pc stands.registers in
      let w1 = walk_load p 0 97 10 2 40 (low + 40) thrown (λ r. x s r) s.memory (omega arith) (omega arith) w0 (word_at stands 57 refl) (up low 40 (omega arith) (omega (arith, below))) held in
      let w2 = walk_addi p 1 98 17 0 9 9 file1 s.memory (omega arith) (omega arith) w1 (word_at stands 58 refl) (small_number 9 (omega arith)) in
      let out = walk_out p 2 99 file2 s.memory w2 (word_at stands 59 refl) in
      ends_out image p u base call_unexpected w 2 2 9 60 low file2 s.memory (λ t. (t.memory ≡ s.memory) × (x t 10 ≡ thrown)) refl refl stands.code (omega arith) out refl refl refl (out.hart.memory, out.hart.regs 10);
}
