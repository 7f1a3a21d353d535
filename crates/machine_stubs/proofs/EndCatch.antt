-- The words of end_catch.
use Rattle.std.proofs.Common.{◌≡◌, ◌∙◌, refl, arith, subst, sym, ap, ℕ, ◌+◌, ◌-◌, ◌%◌, ◌^◌, ◌<◌, ◌≤◌, List, [], inl, inr}
use Rattle.std.proofs.lemmas.Bool.{eq-eqb, ne_eqb}
use Rattle.rv64_isa.specs.State.{State, Part, with_value}
use Rattle.rv64_isa.specs.Arithmetic.{add}
use Rattle.rv64_isa.specs.Step.{x, imm12}
use Rattle.cxa_runtime.specs.World.{World}
use Rattle.cxa_runtime.specs.Raising.{Image}
use Rattle.linear_forms.specs.Linear.{UnitCode}
use Rattle.linear_forms.specs.Stub.{end_catch}
use Rattle.machine_pieces.specs.Standing.{address}
use Rattle.machine_pieces.specs.Frames.{AddressAt}
use Rattle.machine_pieces.specs.Turning.{Reaches}
use Rattle.machine_stubs.specs.Stretches.{BackStays, stub_ground, stub_word, Stands, AtRuntimeCall}
use Rattle.machine_stubs.specs.EndCatch.{EndCatchRuns}
use Rattle.machine_stubs.proofs.Walking.{Walks, update, walk_begins, walk_addi, walk_load, walk_store, slot_there, slot_stays, down, up, small_number}
use Rattle.machine_stubs.proofs.Jumping.{walk_same, walk_not_same, walk_other, walk_not_other, walk_label, walk_call, walk_back, walk_out}
use Rattle.machine_stubs.proofs.Ending.{path, word_at, ends_at, ends_out}

-- ---- up to the call that leaves the handler

leaves : (image : Image) (u : UnitCode) (base : ℕ) (w : World) → let s = w.hart in let low = x s 2 - 48 in
    48 ≤ x s 2 → Stands u base end_catch 0 low 48 s → x s 1 < 2 ^ 64 → Reaches image 3 w [] (AtRuntimeCall u base end_catch 7 4 low low 48 w (λ t. AddressAt t.memory (low + 8) (x s 1)))
leaves image u base w enough stands small =
    let s : State = w.hart in
    let low : ℕ = x s 2 - 48 in
    let p = path u base end_catch low 48 s stands.room in
    let below = stands.room.below in
    let file1 : ℕ → ℕ = update 2 low (λ r. x s r) in
    let parts : List Part = with_value s.memory (low + 8) 8 (x s 1) in
    let w0 = walk_begins p 12 stands.pc stands.registers in
    let w1 = walk_addi p 0 12 2 2 4048 low (λ r. x s r) s.memory (omega arith) (omega arith) w0 (word_at stands 0 refl) (down (x s 2) 48 (omega arith) (omega arith) enough (omega (arith, below))) in
    let w2 = walk_store p 1 13 2 1 8 8 (x s 1) file1 s.memory w1 (word_at stands 1 refl) (up low 8 (omega arith) (omega (arith, below))) refl refl (omega arith) in
    let w3 = walk_addi p 2 14 17 0 7 7 file1 parts (omega arith) (omega arith) w2 (word_at stands 2 refl) (small_number 7 (omega arith)) in
    let out = walk_out p 3 15 (update 17 7 file1) parts w3 (word_at stands 3 refl) in
    ends_out image p u base end_catch w 3 3 7 4 low (update 17 7 file1) parts (λ t. AddressAt t.memory (low + 8) (x s 1)) refl refl stands.code (omega arith) out refl refl refl
    (subst (λ ps. AddressAt ps (low + 8) (x s 1)) (sym out.hart.memory) (slot_there p 1 (address p.ground 13) 8 (x s 1) file1 s.memory w1 refl (omega arith) small))

-- ---- behind it: the object and its destructor are kept

-- sp is so many bytes above the lowest one that is written
abbrev kept_once : State → (low e : ℕ) → List Part
kept_once s low e = with_value s.memory (low + (e + 40)) 8 (x s 10)

abbrev kept_memory : State → (low e : ℕ) → List Part
kept_memory s low e = with_value (kept_once s low e) (low + (e + 32)) 8 (x s 11)

record Kept (u : UnitCode) (base low e : ℕ) (s : State) (stands : Stands u base end_catch 4 low (e + 48) s) : Type 0 where
  walk : Walks (path u base end_catch low (e + 48) s stands.room) 2 (address (stub_ground u base end_catch) 18) (λ r. x s r) (kept_memory s low e)
  object : x s 10 < 2 ^ 64 → AddressAt (kept_memory s low e) (low + (e + 40)) (x s 10)
  destructor : x s 11 < 2 ^ 64 → AddressAt (kept_memory s low e) (low + (e + 32)) (x s 11)
  back : (b : ℕ) → AddressAt s.memory (low + (e + 8)) b → AddressAt (kept_memory s low e) (low + (e + 8)) b

kept : (u : UnitCode) (base low e : ℕ) (s : State) → low + e ≡ x s 2 → e % 8 ≡ 0 → (stands : Stands u base end_catch 4 low (e + 48) s) → Kept u base low e s stands
kept u base low e s is even stands =
    let p = path u base end_catch low (e + 48) s stands.room in
    let below = stands.room.below in
    let w0 = walk_begins p 16 stands.pc stands.registers in
    let w1 = walk_store p 0 16 2 10 40 (e + 40) (x s 10) (λ r. x s r) s.memory w0 (word_at stands 4 refl) (up (x s 2) 40 (omega arith) (omega (arith, below, is)) ∙ omega (arith, is)) refl (omega (arith, even)) (omega arith) in
    let w2 = walk_store p 1 17 2 11 32 (e + 32) (x s 11) (λ r. x s r) (kept_once s low e) w1 (word_at stands 5 refl) (up (x s 2) 32 (omega arith) (omega (arith, below, is)) ∙ omega (arith, is)) refl (omega (arith, even)) (omega arith) in
    record {
      walk = w2;
      object = λ small. slot_stays low (e + 32) (x s 11) (e + 40) (x s 10) (kept_once s low e) (inl (omega arith))
          (slot_there p 0 (address p.ground 16) (e + 40) (x s 10) (λ r. x s r) s.memory w0 (omega (arith, even)) (omega arith) small);
      destructor = λ small. slot_there p 1 (address p.ground 17) (e + 32) (x s 11) (λ r. x s r) (kept_once s low e) w1 (omega (arith, even)) (omega arith) small;
      back = λ b h. slot_stays low (e + 32) (x s 11) (e + 8) b (kept_once s low e) (inr (omega arith)) (slot_stays low (e + 40) (x s 10) (e + 8) b s.memory (inr (omega arith)) h);
    }

-- ---- the return

-- from the word that gives 0 to the caller
back_from : (u : UnitCode) (base k low n back : ℕ) (s : State) (file : ℕ → ℕ) (parts : List Part) → (stands : Stands u base end_catch k low 48 s) →
    Walks (path u base end_catch low 48 s stands.room) n (address (stub_ground u base end_catch) 28) file parts → file 2 ≡ low → AddressAt parts (low + 8) back → back % 4 ≡ 0 → back < 2 ^ 64 →
    Walks (path u base end_catch low 48 s stands.room) (n + 1 + 1 + 1 + 1) back (update 2 (low + 48) (update 1 back (update 10 0 file))) parts
back_from u base k low n back s file parts stands h pointer held aligned small =
    let p = path u base end_catch low 48 s stands.room in
    let below = stands.room.below in
    let file1 : ℕ → ℕ = update 10 0 file in
    let file2 : ℕ → ℕ = update 1 back file1 in
    let w1 = walk_addi p n 28 10 0 0 0 file parts (omega arith) (omega arith) h (word_at stands 16 refl) (zero_plus file h) in
    let w2 = walk_load p (n + 1) 29 1 2 8 (low + 8) back file1 parts (omega arith) (omega arith) w1 (word_at stands 17 refl) (up (file 2) 8 (omega arith) (omega (arith, below, pointer)) ∙ ap (λ a. a + 8) pointer) held in
    let w3 = walk_addi p (n + 1 + 1) 30 2 2 48 (low + 48) file2 parts (omega arith) (omega arith) w2 (word_at stands 18 refl) (up (file 2) 48 (omega arith) (omega (arith, below, pointer)) ∙ ap (λ a. a + 48) pointer) in
    walk_back p (n + 1 + 1 + 1) 31 1 back (update 2 (low + 48) file2) parts w3 (word_at stands 19 refl) refl aligned small
  where
    zero_plus : (file : ℕ → ℕ) → Walks (path u base end_catch low 48 s stands.room) n (address (stub_ground u base end_catch) 28) file parts → add (file 0) (imm12 0) ≡ 0
    zero_plus file h = ap (λ a. add a (imm12 0)) (sym (h.hart.regs 0))

-- ---- the stretches

pub end_catch_runs : EndCatchRuns
end_catch_runs = record {
  leaves = leaves;
  returns_at_once = λ image u base back w stands given held aligned small.
      let s : State = w.hart in
      let low : ℕ = x s 2 in
      let p = path u base end_catch low 48 s stands.room in
      let parts = kept_memory s low 0 in
      let k = kept u base low 0 s (omega arith) refl stands in
      let w3 = walk_not_other p 2 18 10 0 4 (λ r. x s r) parts k.walk (word_at stands 6 refl) (eq-eqb (x s 10) 0 given) in
      let w4 = walk_label p 3 19 3 (λ r. x s r) parts w3 (word_at stands 7 refl) (omega arith) (omega arith) (omega (arith, (word_at stands 16 refl).word.below)) in
      let w8 = back_from u base 4 low 4 back s (λ r. x s r) parts stands w4 refl (k.back back held) aligned small in
      ends_at image p w 8 8 back (low + 48) (update 2 (low + 48) (update 1 back (update 10 0 (λ r. x s r)))) parts (λ t. x t 10 ≡ 0) refl (omega arith) w8 refl refl (w8.hart.regs 10);
  destroys = λ image u base object destructor w enough stands given some object_small given_too some_too aligned small.
      let s : State = w.hart in
      let low : ℕ = x s 2 - 8 in
      let p = path u base end_catch low 56 s stands.room in
      let below = stands.room.below in
      let m2 = kept_memory s low 8 in
      let k = kept u base low 8 s (omega (arith, enough)) refl stands in
      let object_kept : AddressAt m2 (low + 48) object = subst (AddressAt m2 (low + 48)) given (k.object (omega (arith, object_small, given))) in
      let destructor_kept : AddressAt m2 (low + 40) destructor = subst (AddressAt m2 (low + 40)) given_too (k.destructor (omega (arith, small, given_too))) in
      let file4 : ℕ → ℕ = update 11 destructor (λ r. x s r) in
      let file6 : ℕ → ℕ = update 10 object file4 in
      let m3 : List Part = with_value m2 (low + 0) 8 object in
      let back : ℕ = stub_word base end_catch 13 in
      let w3 = walk_other p 2 18 10 0 2 (λ r. x s r) m2 k.walk (word_at stands 6 refl) (omega arith) (omega (arith, (word_at stands 8 refl).word.below)) (ne_eqb (x s 10) 0 (λ e. some (sym given ∙ e))) in
      let w4 = walk_load p 3 20 11 2 32 (low + 40) destructor (λ r. x s r) m2 (omega arith) (omega arith) w3 (word_at stands 8 refl) (up (x s 2) 32 (omega arith) (omega (arith, below, enough)) ∙ omega (arith, enough)) destructor_kept in
      let w5 = walk_not_same p 4 21 11 0 8 file4 m2 w4 (word_at stands 9 refl) (ne_eqb destructor 0 some_too) in
      let w6 = walk_load p 5 22 10 2 40 (low + 48) object file4 m2 (omega arith) (omega arith) w5 (word_at stands 10 refl) (up (x s 2) 40 (omega arith) (omega (arith, below, enough)) ∙ omega (arith, enough)) object_kept in
      let w7 = walk_store p 6 23 2 10 4088 0 object file6 m2 w6 (word_at stands 11 refl) (down (x s 2) 8 (omega arith) (omega arith) enough (omega (arith, below, enough)) ∙ omega arith) refl refl (omega arith) in
      let w8 = walk_call p 7 24 11 destructor file6 m3 w7 (word_at stands 12 refl) refl aligned small in
      let t : State = w8.after in
      let passed : AddressAt m3 low object = subst (λ a. AddressAt m3 a object) (omega arith) (slot_there p 6 (address p.ground 23) 0 object file6 m2 w6 refl (omega arith) object_small) in
      let still : AddressAt m3 (x s 2 + 40) object = subst (λ a. AddressAt m3 a object) (omega (arith, enough)) (slot_stays low 0 object 48 object m2 (inl (omega arith)) object_kept) in
      let same : m3 ≡ t.memory = sym {a = t.memory} w8.hart.memory in
      ends_at image p w 8 8 destructor (x s 2) (update 1 back file6) m3
      (λ t. (x t 1 ≡ back) × AddressAt t.memory low object × AddressAt t.memory (x s 2 + 40) object × BackStays (x s 2) s.memory t.memory) refl (omega arith) w8 refl refl (
        w8.hart.regs 1,
        subst (λ ps. AddressAt ps low object) same passed,
        subst (λ ps. AddressAt ps (x s 2 + 40) object) same still,
        λ b h. subst (λ ps. AddressAt ps (x s 2 + 8) b) same (subst (λ a. AddressAt m3 a b) (omega (arith, enough))
            (slot_stays low 0 object 16 b m2 (inl (omega arith)) (k.back b (subst (λ a. AddressAt s.memory a b) (omega (arith, enough)) h)))),
      );
  frees_at_once = λ image u base object w stands given some object_small none.
      let s : State = w.hart in
      let low : ℕ = x s 2 in
      let p = path u base end_catch low 48 s stands.room in
      let below = stands.room.below in
      let parts = kept_memory s low 0 in
      let k = kept u base low 0 s (omega arith) refl stands in
      let object_kept : AddressAt parts (low + 40) object = subst (AddressAt parts (low + 40)) given (k.object (omega (arith, object_small, given))) in
      let destructor_kept : AddressAt parts (low + 32) 0 = subst (AddressAt parts (low + 32)) none (k.destructor (omega (arith, none))) in
      let file4 : ℕ → ℕ = update 11 0 (λ r. x s r) in
      let file6 : ℕ → ℕ = update 10 object file4 in
      let file7 : ℕ → ℕ = update 17 4 file6 in
      let w3 = walk_other p 2 18 10 0 2 (λ r. x s r) parts k.walk (word_at stands 6 refl) (omega arith) (omega (arith, (word_at stands 8 refl).word.below)) (ne_eqb (x s 10) 0 (λ e. some (sym given ∙ e))) in
      let w4 = walk_load p 3 20 11 2 32 (low + 32) 0 (λ r. x s r) parts (omega arith) (omega arith) w3 (word_at stands 8 refl) (up low 32 (omega arith) (omega (arith, below))) destructor_kept in
      let w5 = walk_same p 4 21 11 0 4 file4 parts w4 (word_at stands 9 refl) (omega arith) (omega (arith, (word_at stands 13 refl).word.below)) refl in
      let w6 = walk_load p 5 25 10 2 40 (low + 40) object file4 parts (omega arith) (omega arith) w5 (word_at stands 13 refl) (up low 40 (omega arith) (omega (arith, below))) object_kept in
      let w7 = walk_addi p 6 26 17 0 4 4 file6 parts (omega arith) (omega arith) w6 (word_at stands 14 refl) (small_number 4 (omega arith)) in
      let out = walk_out p 7 27 file7 parts w7 (word_at stands 15 refl) in
      ends_out image p u base end_catch w 7 7 4 16 low file7 parts (λ t. (x t 10 ≡ object) × BackStays low s.memory t.memory) refl refl stands.code (omega arith) out refl refl refl
      (out.hart.regs 10, λ b h. subst (λ ps. AddressAt ps (low + 8) b) (sym out.hart.memory) (k.back b h));
  frees = λ image u base object w stands held.
      let s : State = w.hart in
      let low : ℕ = x s 2 in
      let p = path u base end_catch low 48 s stands.room in
      let file2 : ℕ → ℕ = update 17 4 (update 10 object (λ r. x s r)) in
      let w0 = walk_begins p 25 stands.pc stands.registers in
      let w1 = walk_load p 0 25 10 2 40 (low + 40) object (λ r. x s r) s.memory (omega arith) (omega arith) w0 (word_at stands 13 refl) (up low 40 (omega arith) (omega (arith, stands.room.below))) held in
      let w2 = walk_addi p 1 26 17 0 4 4 (update 10 object (λ r. x s r)) s.memory (omega arith) (omega arith) w1 (word_at stands 14 refl) (small_number 4 (omega arith)) in
      let out = walk_out p 2 27 file2 s.memory w2 (word_at stands 15 refl) in
      ends_out image p u base end_catch w 2 2 4 16 low file2 s.memory (λ t. (t.memory ≡ s.memory) × (x t 10 ≡ object)) refl refl stands.code (omega arith) out refl refl refl (out.hart.memory, out.hart.regs 10);
  returns = λ image u base back w stands held aligned small.
      let s : State = w.hart in
      let low : ℕ = x s 2 in
      let p = path u base end_catch low 48 s stands.room in
      let w0 = walk_begins p 28 stands.pc stands.registers in
      let w4 = back_from u base 16 low 0 back s (λ r. x s r) s.memory stands w0 refl held aligned small in
      ends_at image p w 4 4 back (low + 48) (update 2 (low + 48) (update 1 back (update 10 0 (λ r. x s r)))) s.memory (λ t. (t.memory ≡ s.memory) × (x t 10 ≡ 0)) refl (omega arith) w4 refl refl (w4.hart.memory, w4.hart.regs 10);
  frees_on_the_way = λ image u base object flying w stands given small held.
      let s : State = w.hart in
      let low : ℕ = x s 2 in
      let p = path u base end_catch low 48 s stands.room in
      let below = stands.room.below in
      let m1 : List Part = with_value s.memory (low + 24) 8 flying in
      let m2 : List Part = with_value m1 (low + 16) 8 (x s 11) in
      let file3 : ℕ → ℕ = update 10 object (λ r. x s r) in
      let file4 : ℕ → ℕ = update 17 4 file3 in
      let w0 = walk_begins p 32 stands.pc stands.registers in
      let w1 = walk_store p 0 32 2 10 24 24 flying (λ r. x s r) s.memory w0 (word_at stands 20 refl) (up low 24 (omega arith) (omega (arith, below))) given refl (omega arith) in
      let w2 = walk_store p 1 33 2 11 16 16 (x s 11) (λ r. x s r) m1 w1 (word_at stands 21 refl) (up low 16 (omega arith) (omega (arith, below))) refl refl (omega arith) in
      let object_kept : AddressAt m2 (low + 40) object = slot_stays low 16 (x s 11) 40 object m1 (inl (omega arith)) (slot_stays low 24 flying 40 object s.memory (inl (omega arith)) held) in
      let flying_kept : AddressAt m2 (low + 24) flying = slot_stays low 16 (x s 11) 24 flying m1 (inl (omega arith)) (slot_there p 0 (address p.ground 32) 24 flying (λ r. x s r) s.memory w0 refl (omega arith) small) in
      let w3 = walk_load p 2 34 10 2 40 (low + 40) object (λ r. x s r) m2 (omega arith) (omega arith) w2 (word_at stands 22 refl) (up low 40 (omega arith) (omega (arith, below))) object_kept in
      let w4 = walk_addi p 3 35 17 0 4 4 file3 m2 (omega arith) (omega arith) w3 (word_at stands 23 refl) (small_number 4 (omega arith)) in
      let out = walk_out p 4 36 file4 m2 w4 (word_at stands 24 refl) in
      ends_out image p u base end_catch w 4 4 4 25 low file4 m2 (λ t. (x t 10 ≡ object) × AddressAt t.memory (low + 24) flying × BackStays low s.memory t.memory) refl refl stands.code (omega arith) out refl refl refl (
        out.hart.regs 10,
        subst (λ ps. AddressAt ps (low + 24) flying) (sym out.hart.memory) flying_kept,
        λ b h. subst (λ ps. AddressAt ps (low + 8) b) (sym out.hart.memory)
            (slot_stays low 16 (x s 11) 8 b m1 (inr (omega arith)) (slot_stays low 24 flying 8 b s.memory (inr (omega arith)) h)),
      );
  resumes = λ image u base flying w stands held.
      let s : State = w.hart in
      let low : ℕ = x s 2 in
      let p = path u base end_catch low 48 s stands.room in
      let file2 : ℕ → ℕ = update 17 9 (update 10 flying (λ r. x s r)) in
      let w0 = walk_begins p 37 stands.pc stands.registers in
      let w1 = walk_load p 0 37 10 2 24 (low + 24) flying (λ r. x s r) s.memory (omega arith) (omega arith) w0 (word_at stands 25 refl) (up low 24 (omega arith) (omega (arith, stands.room.below))) held in
      let w2 = walk_addi p 1 38 17 0 9 9 (update 10 flying (λ r. x s r)) s.memory (omega arith) (omega arith) w1 (word_at stands 26 refl) (small_number 9 (omega arith)) in
      let out = walk_out p 2 39 file2 s.memory w2 (word_at stands 27 refl) in
      ends_out image p u base end_catch w 2 2 9 28 low file2 s.memory (λ t. (t.memory ≡ s.memory) × (x t 10 ≡ flying)) refl refl stands.code (omega arith) out refl refl refl (out.hart.memory, out.hart.regs 10);
}
