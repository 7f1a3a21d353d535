-- The words of call_unexpected behind the answer of the check.
use Rattle.std.proofs.Common.{◌≡◌, ◌≢◌, refl, sym, ap, subst, arith, ℕ, ◌+◌, ◌-◌, ◌^◌, ◌<◌, ℤ, List, inl}
use Rattle.std.proofs.lemmas.Bool.{ne_eqb}
use Rattle.std.proofs.lemmas.Int.{ints}
use Rattle.rv64_isa.specs.Arithmetic.{add, subw, sign_extended}
use Rattle.rv64_isa.specs.State.{State, Part, with_value}
use Rattle.rv64_isa.specs.Step.{x, imm12, imm20}
use Rattle.linear_forms.specs.Linear.{UnitCode}
use Rattle.linear_forms.specs.Stub.{call_unexpected}
use Rattle.machine_forms.specs.Immediate.{upper}
use Rattle.machine_forms.specs.Piece.{type_record, distance}
use Rattle.machine_pieces.specs.Memory.{Holds}
use Rattle.machine_pieces.specs.Standing.{address}
use Rattle.machine_stubs.specs.Stretches.{stub_ground, Beside, Stands}
use Rattle.machine_stubs.specs.CallUnexpected.{UnexpectedAnswers}
use Rattle.machine_stubs.proofs.Walking.{Walks, update, beside_none, walk_begins, walk_addi, walk_load, walk_store, slot_there, slot_stays, up, small_number}
use Rattle.machine_stubs.proofs.Jumping.{walk_other, walk_not_other, walk_label, walk_out}
use Rattle.machine_stubs.proofs.Ending.{path, word_at, ends_out}
use Rattle.machine_stubs.proofs.Reaching.{beside_at, slot_may, low_half, walk_word, walk_less, walk_nothing, walk_record}

-- ---- the answer is kept, and read again

abbrev kept_memory : State → List Part
kept_memory s = with_value s.memory (x s 2 + 24) 8 (x s 10)

record Kept (u : UnitCode) (base n : ℕ) (s : State) (stands : Stands u base call_unexpected 27 (x s 2) 80 s) : Type 0 where
  walk : Walks (path u base call_unexpected (x s 2) 80 s stands.room) 2 (address (stub_ground u base call_unexpected) 69) (update 10 (sign_extended 32 n) (λ r. x s r)) (kept_memory s)
  answer : Holds (kept_memory s) (x s 2 + 24) 4 n
  beside : Beside (x s 2 + 24) 8 s.memory (kept_memory s)

kept : (u : UnitCode) (base n : ℕ) (s : State) → x s 10 ≡ n → n < 2 ^ 32 → (stands : Stands u base call_unexpected 27 (x s 2) 80 s) → Kept u base n s stands
kept u base n s is small stands =
    let low : ℕ = x s 2 in
    let p = path u base call_unexpected low 80 s stands.room in
    let below = stands.room.below in
    let file : ℕ → ℕ = λ r. x s r in
    let w0 = walk_begins p 67 stands.pc stands.registers in
    let w1 = walk_store p 0 67 2 10 24 24 (x s 10) file s.memory w0 (word_at stands 27 refl) (up low 24 (omega arith) (omega (arith, below))) refl refl (omega arith) in
    let answer : Holds (kept_memory s) (low + 24) 4 n = subst (Holds (kept_memory s) (low + 24) 4) (omega (arith, is, small)) (low_half p 0 (address p.ground 67) 24 (x s 10) file s.memory w0 (omega arith)) in
    record {
      walk = walk_word p 1 68 10 2 24 (low + 24) n file (kept_memory s) (omega arith) (omega arith) w1 (word_at stands 28 refl) (up low 24 (omega arith) (omega (arith, below))) (omega (arith, stands.room.aligned)) answer;
      answer = answer;
      beside = beside_at (low + 24) 8 (low + 24) (x s 10) s.memory s.memory (beside_none (low + 24) 8 s.memory) (omega arith) (omega arith) (slot_may p 0 (address p.ground 67) 24 file s.memory w0 (omega arith));
    }

-- where it is not 0, it less 1 is tested
abbrev less_file : State → ℕ → ℕ → ℕ
less_file s n = update 10 (subw (sign_extended 32 n) 1) (update 11 1 (update 10 (sign_extended 32 n) (update 10 (sign_extended 32 n) (λ r. x s r))))

tested : (u : UnitCode) (base n : ℕ) (s : State) (stands : Stands u base call_unexpected 27 (x s 2) 80 s) → Kept u base n s stands → sign_extended 32 n ≢ 0 →
    Walks (path u base call_unexpected (x s 2) 80 s stands.room) 6 (address (stub_ground u base call_unexpected) 74) (less_file s n) (kept_memory s)
tested u base n s stands k some =
    let low : ℕ = x s 2 in
    let p = path u base call_unexpected low 80 s stands.room in
    let below = stands.room.below in
    let parts = kept_memory s in
    let v : ℕ = sign_extended 32 n in
    let file1 : ℕ → ℕ = update 10 v (λ r. x s r) in
    let file2 : ℕ → ℕ = update 10 v file1 in
    let w3 = walk_other p 2 69 10 0 2 file1 parts k.walk (word_at stands 29 refl) (omega arith) (omega (arith, (word_at stands 31 refl).word.below)) (ne_eqb v 0 some) in
    let w4 = walk_word p 3 71 10 2 24 (low + 24) n file1 parts (omega arith) (omega arith) w3 (word_at stands 31 refl) (up low 24 (omega arith) (omega (arith, below))) (omega (arith, stands.room.aligned)) k.answer in
    let w5 = walk_addi p 4 72 11 0 1 1 file2 parts (omega arith) (omega arith) w4 (word_at stands 32 refl) (small_number 1 (omega arith)) in
    walk_less p 5 73 10 10 11 (subw v 1) (update 11 1 file2) parts (omega arith) (omega arith) w5 (word_at stands 33 refl) refl

-- ---- the stretches

pub unexpected_answers : UnexpectedAnswers
unexpected_answers = record {
  rethrows = λ image u base w stands given.
      let s : State = w.hart in
      let low : ℕ = x s 2 in
      let p = path u base call_unexpected low 80 s stands.room in
      let parts = kept_memory s in
      let k = kept u base 0 s given (omega arith) stands in
      let file : ℕ → ℕ = update 10 0 (λ r. x s r) in
      let file5 : ℕ → ℕ = update 17 8 file in
      let w3 = walk_not_other p 2 69 10 0 4 file parts k.walk (word_at stands 29 refl) refl in
      let w4 = walk_label p 3 70 10 file parts w3 (word_at stands 30 refl) (omega arith) (omega arith) (omega (arith, (word_at stands 39 refl).word.below)) in
      let w5 = walk_addi p 4 79 17 0 8 8 file parts (omega arith) (omega arith) w4 (word_at stands 39 refl) (small_number 8 (omega arith)) in
      let out = walk_out p 5 80 file5 parts w5 (word_at stands 40 refl) in
      ends_out image p u base call_unexpected w 5 5 8 41 low file5 parts (λ t. Beside (low + 24) 8 s.memory t.memory) refl refl stands.code (omega arith) out refl refl refl (subst (Beside (low + 24) 8 s.memory) (sym out.hart.memory) k.beside);
  makes_a_bad_exception = λ image u base w stands given.
      let s : State = w.hart in
      let low : ℕ = x s 2 in
      let p = path u base call_unexpected low 80 s stands.room in
      let parts = kept_memory s in
      let k = kept u base 1 s given (omega arith) stands in
      let file : ℕ → ℕ = less_file s 1 in
      let file9 : ℕ → ℕ = update 17 3 file in
      let w6 = tested u base 1 s stands k (λ e. absurd (omega (arith, e))) in
      let w7 = walk_not_other p 6 74 10 0 4 file parts w6 (word_at stands 34 refl) refl in
      let w8 = walk_label p 7 75 11 file parts w7 (word_at stands 35 refl) (omega arith) (omega arith) (omega (arith, (word_at stands 41 refl).word.below)) in
      let w9 = walk_addi p 8 81 17 0 3 3 file parts (omega arith) (omega arith) w8 (word_at stands 41 refl) (small_number 3 (omega arith)) in
      let out = walk_out p 9 82 file9 parts w9 (word_at stands 42 refl) in
      ends_out image p u base call_unexpected w 9 9 3 43 low file9 parts (λ t. Beside (low + 24) 8 s.memory t.memory) refl refl stands.code (omega arith) out refl refl refl (subst (Beside (low + 24) 8 s.memory) (sym out.hart.memory) k.beside);
  terminates_unlisted = λ image u base stopped w stands given held.
      let s : State = w.hart in
      let low : ℕ = x s 2 in
      let p = path u base call_unexpected low 80 s stands.room in
      let below = stands.room.below in
      let parts = kept_memory s in
      let k = kept u base 2 s given (omega arith) stands in
      let file : ℕ → ℕ = less_file s 2 in
      let file8 : ℕ → ℕ = update 10 stopped file in
      let file9 : ℕ → ℕ = update 17 20 file8 in
      let w6 = tested u base 2 s stands k (λ e. absurd (omega (arith, e))) in
      let w7 = walk_other p 6 74 10 0 2 file parts w6 (word_at stands 34 refl) (omega arith) (omega (arith, (word_at stands 36 refl).word.below)) refl in
      let w8 = walk_load p 7 76 10 2 72 (low + 72) stopped file parts (omega arith) (omega arith) w7 (word_at stands 36 refl) (up low 72 (omega arith) (omega (arith, below))) (slot_stays low 24 (x s 10) 72 stopped s.memory (inl (omega arith)) held) in
      let w9 = walk_addi p 8 77 17 0 20 20 file8 parts (omega arith) (omega arith) w8 (word_at stands 37 refl) (small_number 20 (omega arith)) in
      let out = walk_out p 9 78 file9 parts w9 (word_at stands 38 refl) in
      ends_out image p u base call_unexpected w 9 9 20 39 low file9 parts (λ t. x t 10 ≡ stopped) refl refl stands.code (omega arith) out refl refl refl (out.hart.regs 10);
  throws_a_bad_exception = λ image u base bad w deep stands given small.
      let s : State = w.hart in
      let low : ℕ = x s 2 in
      let p = path u base call_unexpected low 80 s stands.room in
      let below = stands.room.below in
      let g = stub_ground u base call_unexpected in
      let parts : List Part = with_value s.memory (low + 16) 8 bad in
      let there : ℕ = base - 48 in
      let d : ℤ = distance g.places 86 (type_record 1) in
      let file3 : ℕ → ℕ = update 10 bad (λ r. x s r) in
      let file4 : ℕ → ℕ = update 11 (add (address g 86) (imm20 (upper d))) file3 in
      let file5 : ℕ → ℕ = update 11 there file4 in
      let file6 : ℕ → ℕ = update 12 0 file5 in
      let file7 : ℕ → ℕ = update 17 5 file6 in
      let far : address g 86 < 2 ^ 64 = omega (arith, (word_at stands 46 refl).word.below) in
      let w0 = walk_begins p 83 stands.pc stands.registers in
      let w1 = walk_store p 0 83 2 10 16 16 bad (λ r. x s r) s.memory w0 (word_at stands 43 refl) (up low 16 (omega arith) (omega (arith, below))) given refl (omega arith) in
      let w2 = walk_nothing p 1 84 (λ r. x s r) parts w1 (word_at stands 44 refl) in
      let w3 = walk_load p 2 85 10 2 16 (low + 16) bad (λ r. x s r) parts (omega arith) (omega arith) w2 (word_at stands 45 refl) (up low 16 (omega arith) (omega (arith, below))) (slot_there p 0 (address p.ground 83) 16 bad (λ r. x s r) s.memory w0 refl (omega arith) small) in
      let w5 = walk_record p 3 86 11 1 there file3 parts (omega arith) (omega arith) w3 (word_at stands 46 refl) (word_at stands 47 refl) (omega (arith, ints, deep)) (omega (arith, far)) (omega arith) (omega (arith, deep)) in
      let w6 = walk_addi p 5 88 12 0 0 0 file5 parts (omega arith) (omega arith) w5 (word_at stands 48 refl) (ap (λ a. add a (imm12 0)) (sym (w5.hart.regs 0))) in
      let w7 = walk_addi p 6 89 17 0 5 5 file6 parts (omega arith) (omega arith) w6 (word_at stands 49 refl) (small_number 5 (omega arith)) in
      let out = walk_out p 7 90 file7 parts w7 (word_at stands 50 refl) in
      let beside : Beside (low + 16) 8 s.memory parts = beside_at (low + 16) 8 (low + 16) bad s.memory s.memory (beside_none (low + 16) 8 s.memory) (omega arith) (omega arith) (slot_may p 0 (address p.ground 83) 16 (λ r. x s r) s.memory w0 (omega arith)) in
      ends_out image p u base call_unexpected w 7 7 5 51 low file7 parts (λ t. (x t 10 ≡ bad) × (x t 11 ≡ there) × (x t 12 ≡ 0) × Beside (low + 16) 8 s.memory t.memory) refl refl stands.code (omega arith) out refl refl refl
      (out.hart.regs 10, out.hart.regs 11, out.hart.regs 12, subst (Beside (low + 16) 8 s.memory) (sym out.hart.memory) beside);
}
