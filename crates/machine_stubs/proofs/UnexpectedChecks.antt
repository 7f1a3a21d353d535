-- The words of call_unexpected that ask the list about what the handler threw.
use Rattle.std.proofs.Common.{◌≡◌, refl, sym, ap, subst, arith, ℕ, ◌+◌, ◌%◌, ◌^◌, ◌<◌, List, inl}
use Rattle.std.proofs.lemmas.Bool.{ne_eqb}
use Rattle.rv64_isa.specs.Arithmetic.{add, sign_extended}
use Rattle.rv64_isa.specs.State.{State, Part, with_value}
use Rattle.rv64_isa.specs.Step.{x, imm12}
use Rattle.linear_forms.specs.Linear.{UnitCode}
use Rattle.linear_forms.specs.Stub.{end_catch, call_unexpected}
use Rattle.machine_forms.specs.PlaceCode.{slot_stored}
use Rattle.machine_forms.specs.StubCode.{stub_shape}
use Rattle.machine_forms.specs.Piece.{entry}
use Rattle.machine_pieces.specs.Memory.{Holds}
use Rattle.machine_pieces.specs.Numbers.{extended}
use Rattle.machine_pieces.specs.Standing.{address, PieceAt}
use Rattle.machine_pieces.specs.Frames.{AddressAt}
use Rattle.machine_stubs.specs.Stretches.{stub_ground, stub_word, Beside, Stands}
use Rattle.machine_stubs.specs.CallUnexpected.{UnexpectedChecks}
use Rattle.machine_stubs.proofs.Walking.{Walks, update, beside_none, walk_begins, walk_addi, walk_load, walk_store, slot_there, slot_stays, up, small_number}
use Rattle.machine_stubs.proofs.Jumping.{walk_other, walk_not_other, walk_label, walk_out}
use Rattle.machine_stubs.proofs.Ending.{path, word_at, ends_at, ends_out}
use Rattle.machine_stubs.proofs.Reaching.{beside_at, slot_may, low_half, walk_word, walk_int, still_other, walk_function}
use Rattle.machine_stubs.proofs.Start.{reached_word}

-- ---- a pad: what it gets is kept

abbrev pub kept_memory : State → List Part
kept_memory s = with_value (with_value s.memory (x s 2 + 40) 8 (x s 10)) (x s 2 + 32) 8 (x s 11)

-- from a pad at the k-th word
pub record Kept (u : UnitCode) (base k : ℕ) (s : State) (stands : Stands u base call_unexpected k (x s 2) 80 s) : Type 0 where
  pub walk : Walks (path u base call_unexpected (x s 2) 80 s stands.room) 2 (address (stub_ground u base call_unexpected) (40 + k + 1 + 1)) (λ r. x s r) (kept_memory s)
  pub thrown : x s 10 < 2 ^ 64 → AddressAt (kept_memory s) (x s 2 + 40) (x s 10)
  pub selector : Holds (kept_memory s) (x s 2 + 32) 4 (x s 11 % 2 ^ 32)
  pub beside : Beside (x s 2 + 32) 16 s.memory (kept_memory s)

pub kept : (u : UnitCode) (base k : ℕ) (s : State) (stands : Stands u base call_unexpected k (x s 2) 80 s) → PieceAt s.memory (stub_ground u base call_unexpected) (40 + k) (slot_stored (stub_shape call_unexpected) 10 4) →
    PieceAt s.memory (stub_ground u base call_unexpected) (40 + k + 1) (slot_stored (stub_shape call_unexpected) 11 5) → Kept u base k s stands
kept u base k s stands one two =
    let low : ℕ = x s 2 in
    let p = path u base call_unexpected low 80 s stands.room in
    let below = stands.room.below in
    let file : ℕ → ℕ = λ r. x s r in
    let m1 : List Part = with_value s.memory (low + 40) 8 (x s 10) in
    let w0 = walk_begins p (40 + k) stands.pc stands.registers in
    let w1 = walk_store p 0 (40 + k) 2 10 40 40 (x s 10) file s.memory w0 one (up low 40 (omega arith) (omega (arith, below))) refl refl (omega arith) in
    let w2 = walk_store p 1 (40 + k + 1) 2 11 32 32 (x s 11) file m1 w1 two (up low 32 (omega arith) (omega (arith, below))) refl refl (omega arith) in
    record {
      walk = w2;
      thrown = λ small. slot_stays low 32 (x s 11) 40 (x s 10) m1 (inl (omega arith)) (slot_there p 0 (address p.ground (40 + k)) 40 (x s 10) file s.memory w0 refl (omega arith) small);
      selector = low_half p 1 (address p.ground (40 + k + 1)) 32 (x s 11) file m1 w1 (omega arith);
      beside = beside_at (low + 32) 16 (low + 32) (x s 11) s.memory m1
          (beside_at (low + 32) 16 (low + 40) (x s 10) s.memory s.memory (beside_none (low + 32) 16 s.memory) (omega arith) (omega arith) (slot_may p 0 (address p.ground (40 + k)) 40 file s.memory w0 (omega arith))) (omega arith) (omega arith)
          (slot_may p 1 (address p.ground (40 + k + 1)) 32 file m1 w1 (omega arith));
    }

-- the selector and 0 in registers, to be compared
abbrev compared_file : State → ℕ → ℕ → ℕ
compared_file s v = update 11 0 (update 10 (sign_extended 32 v) (λ r. x s r))

compared : (u : UnitCode) (base v : ℕ) (s : State) (stands : Stands u base call_unexpected 13 (x s 2) 80 s) → Kept u base 13 s stands → x s 11 % 2 ^ 32 ≡ v →
    Walks (path u base call_unexpected (x s 2) 80 s stands.room) 4 (address (stub_ground u base call_unexpected) 57) (compared_file s v) (kept_memory s)
compared u base v s stands k is =
    let low : ℕ = x s 2 in
    let p = path u base call_unexpected low 80 s stands.room in
    let below = stands.room.below in
    let parts = kept_memory s in
    let file : ℕ → ℕ = update 10 (sign_extended 32 v) (λ r. x s r) in
    let w3 = walk_word p 2 55 10 2 32 (low + 32) v (λ r. x s r) parts (omega arith) (omega arith) k.walk (word_at stands 15 refl) (up low 32 (omega arith) (omega (arith, below))) (omega (arith, stands.room.aligned)) (subst (Holds parts (low + 32) 4) is k.selector) in
    walk_addi p 3 56 11 0 0 0 file parts (omega arith) (omega arith) w3 (word_at stands 16 refl) (ap (λ a. add a (imm12 0)) (sym (w3.hart.regs 0)))

-- ---- the stretches

pub unexpected_checks : UnexpectedChecks
unexpected_checks = record {
  enters = λ image u base thrown w stands given small some.
      let s : State = w.hart in
      let low : ℕ = x s 2 in
      let p = path u base call_unexpected low 80 s stands.room in
      let below = stands.room.below in
      let parts = kept_memory s in
      let k = kept u base 13 s stands (word_at stands 13 refl) (word_at stands 14 refl) in
      let v : ℕ = x s 11 % 2 ^ 32 in
      let file : ℕ → ℕ = compared_file s v in
      let file6 : ℕ → ℕ = update 10 thrown file in
      let file7 : ℕ → ℕ = update 17 6 file6 in
      let held : AddressAt parts (low + 40) thrown = subst (AddressAt parts (low + 40)) given (k.thrown (omega (arith, given, small))) in
      let w4 = compared u base v s stands k refl in
      let w5 = walk_other p 4 57 10 11 2 file parts w4 (word_at stands 17 refl) (omega arith) (omega (arith, (word_at stands 19 refl).word.below)) (ne_eqb (sign_extended 32 v) 0 (still_other v some)) in
      let w6 = walk_load p 5 59 10 2 40 (low + 40) thrown file parts (omega arith) (omega arith) w5 (word_at stands 19 refl) (up low 40 (omega arith) (omega (arith, below))) held in
      let w7 = walk_addi p 6 60 17 0 6 6 file6 parts (omega arith) (omega arith) w6 (word_at stands 20 refl) (small_number 6 (omega arith)) in
      let out = walk_out p 7 61 file7 parts w7 (word_at stands 21 refl) in
      ends_out image p u base call_unexpected w 7 7 6 22 low file7 parts (λ t. (x t 10 ≡ thrown) × AddressAt t.memory (low + 40) thrown × Beside (low + 32) 16 s.memory t.memory) refl refl stands.code (omega arith) out refl refl refl
      (subst (λ ps. (x out.behind 10 ≡ thrown) × AddressAt ps (low + 40) thrown × Beside (low + 32) 16 s.memory ps) (sym out.hart.memory) (out.hart.regs 10, held, k.beside));
  leaves_canceled = λ image u base thrown w few stands given small none.
      let s : State = w.hart in
      let low : ℕ = x s 2 in
      let p = path u base call_unexpected low 80 s stands.room in
      let below = stands.room.below in
      let g = stub_ground u base call_unexpected in
      let parts = kept_memory s in
      let k = kept u base 13 s stands (word_at stands 13 refl) (word_at stands 14 refl) in
      let file : ℕ → ℕ = compared_file s 0 in
      let held : AddressAt parts (low + 40) thrown = subst (AddressAt parts (low + 40)) given (k.thrown (omega (arith, given, small))) in
      let back : ℕ = stub_word base call_unexpected 57 in
      let callee : ℕ = stub_word base end_catch 0 in
      let w4 = compared u base 0 s stands k none in
      let w5 = walk_not_other p 4 57 10 11 4 file parts w4 (word_at stands 17 refl) refl in
      let w6 = walk_label p 5 58 16 file parts w5 (word_at stands 18 refl) (omega arith) (omega arith) (omega (arith, (word_at stands 55 refl).word.below)) in
      let w8 = walk_function p 6 95 callee (entry end_catch) file parts w6 (word_at stands 55 refl) (word_at stands 56 refl) (reached_word g (entry end_catch) 12 few (omega arith) refl) (omega (arith, (word_at stands 55 refl).word.aligned)) (omega (arith, (word_at stands 55 refl).word.below)) in
      ends_at image p w 8 8 callee low (update 1 back file) parts (λ t. (x t 1 ≡ back) × AddressAt t.memory (low + 40) thrown × Beside (low + 32) 16 s.memory t.memory) refl (omega arith) w8 refl refl
      (subst (λ ps. (x w8.after 1 ≡ back) × AddressAt ps (low + 40) thrown × Beside (low + 32) 16 s.memory ps) (sym w8.hart.memory) (w8.hart.regs 1, held, k.beside));
  checks = λ image u base thrown table list w stands table_held list_held thrown_held.
      let s : State = w.hart in
      let low : ℕ = x s 2 in
      let p = path u base call_unexpected low 80 s stands.room in
      let below = stands.room.below in
      let file1 : ℕ → ℕ = update 10 table (λ r. x s r) in
      let file2 : ℕ → ℕ = update 11 (extended list) file1 in
      let file3 : ℕ → ℕ = update 12 thrown file2 in
      let file4 : ℕ → ℕ = update 17 19 file3 in
      let w0 = walk_begins p 62 stands.pc stands.registers in
      let w1 = walk_load p 0 62 10 2 56 (low + 56) table (λ r. x s r) s.memory (omega arith) (omega arith) w0 (word_at stands 22 refl) (up low 56 (omega arith) (omega (arith, below))) table_held in
      let w2 = walk_int p 1 63 11 2 64 (low + 64) list file1 s.memory (omega arith) (omega arith) w1 (word_at stands 23 refl) (up low 64 (omega arith) (omega (arith, below))) list_held in
      let w3 = walk_load p 2 64 12 2 40 (low + 40) thrown file2 s.memory (omega arith) (omega arith) w2 (word_at stands 24 refl) (up low 40 (omega arith) (omega (arith, below))) thrown_held in
      let w4 = walk_addi p 3 65 17 0 19 19 file3 s.memory (omega arith) (omega arith) w3 (word_at stands 25 refl) (small_number 19 (omega arith)) in
      let out = walk_out p 4 66 file4 s.memory w4 (word_at stands 26 refl) in
      ends_out image p u base call_unexpected w 4 4 19 27 low file4 s.memory (λ t. (t.memory ≡ s.memory) × (x t 10 ≡ table) × (x t 11 ≡ extended list) × (x t 12 ≡ thrown)) refl refl stands.code (omega arith) out refl refl refl
      (out.hart.memory, out.hart.regs 10, out.hart.regs 11, out.hart.regs 12);
}
