-- call_unexpected behind its first pad: the first turns show nothing.
use Rattle.std.proofs.Common.{◌≡◌, refl, sym, ap, arith, ℕ, ◌+◌, ◌%◌, ◌^◌, ◌<◌, pos, List, [], inl}
use Rattle.std.proofs.lemmas.Bool.{ne_eqb}
use Rattle.rv64_isa.specs.Arithmetic.{add, sign_extended}
use Rattle.rv64_isa.specs.State.{State as Hart, Part, with_value}
use Rattle.rv64_isa.specs.Step.{x, imm12}
use Rattle.cxa_runtime.specs.World as abi
use Rattle.cxa_runtime.specs.Raising.{Image}
use Rattle.region_forms.specs.World.{flying, number_word}
use Rattle.linear_forms.specs.Linear.{UnitCode}
use Rattle.linear_forms.specs.Stub.{call_unexpected}
use Rattle.linear_forms.specs.Activation.{State}
use Rattle.machine_pieces.specs.Memory.{Holds}
use Rattle.machine_pieces.specs.Standing.{address}
use Rattle.machine_pieces.specs.Frames.{AddressAt}
use Rattle.machine_pieces.specs.Turning.{Turns}
use Rattle.machine_pieces.proofs.Turning.{executes_turns}
use Rattle.machine_simulation.specs.Plan.{Plan}
use Rattle.machine_stubs.specs.Stretches.{Stands}
use Rattle.machine_stubs.proofs.Walking.{update, walk_begins, walk_addi, walk_load, walk_store, slot_there, slot_stays, up, small_number}
use Rattle.machine_stubs.proofs.Jumping.{walk_other}
use Rattle.machine_stubs.proofs.Ending.{path, word_at}
use Rattle.machine_stubs.proofs.Reaching.{low_half, walk_word, still_other}
use Rattle.stub_landings.specs.Rests.{ChecksThrown}
use Rattle.unexpected_calls.specs.Leaves.{CalledByCompiled}
use Rattle.unexpected_calls.proofs.Leaving.{rests_over, selector_held}
use Rattle.unexpected_calls.proofs.Thrown.{gets_flying}

pub record FirstUnshown (image : Image) (many : ℕ) (w : abi.World) : Type 0 where
  pub after : abi.World
  pub runs : Turns image many w after []

-- what the pad gets is kept, the selector is compared with 0, and what was thrown is passed on
seven_words : (image : Image) (u : UnitCode) (base : ℕ) (w : abi.World) → (stands : Stands u base call_unexpected 13 (x w.hart 2) 80 w.hart) → x w.hart 10 < 2 ^ 64 → (x w.hart 11 % 2 ^ 32 ≡ 0 → ⊥) → FirstUnshown image 7 w
seven_words image u base w stands small some =
    let s : Hart = w.hart in
    let low : ℕ = x s 2 in
    let p = path u base call_unexpected low 80 s stands.room in
    let below = stands.room.below in
    let v : ℕ = x s 11 % 2 ^ 32 in
    let file : ℕ → ℕ = λ r. x s r in
    let m1 : List Part = with_value s.memory (low + 40) 8 (x s 10) in
    let m2 : List Part = with_value m1 (low + 32) 8 (x s 11) in
    let w0 = walk_begins p 53 stands.pc stands.registers in
    let w1 = walk_store p 0 53 2 10 40 40 (x s 10) file s.memory w0 (word_at stands 13 refl) (up low 40 (omega arith) (omega (arith, below))) refl refl (omega arith) in
    let w2 = walk_store p 1 54 2 11 32 32 (x s 11) file m1 w1 (word_at stands 14 refl) (up low 32 (omega arith) (omega (arith, below))) refl refl (omega arith) in
    let held : AddressAt m2 (low + 40) (x s 10) = slot_stays low 32 (x s 11) 40 (x s 10) m1 (inl (omega arith)) (slot_there p 0 (address p.ground 53) 40 (x s 10) file s.memory w0 refl (omega arith) small) in
    let selector : Holds m2 (low + 32) 4 v = low_half p 1 (address p.ground 54) 32 (x s 11) file m1 w1 (omega arith) in
    let file3 : ℕ → ℕ = update 10 (sign_extended 32 v) file in
    let w3 = walk_word p 2 55 10 2 32 (low + 32) v file m2 (omega arith) (omega arith) w2 (word_at stands 15 refl) (up low 32 (omega arith) (omega (arith, below))) (omega (arith, stands.room.aligned)) selector in
    let file4 : ℕ → ℕ = update 11 0 file3 in
    let w4 = walk_addi p 3 56 11 0 0 0 file3 m2 (omega arith) (omega arith) w3 (word_at stands 16 refl) (ap (λ a. add a (imm12 0)) (sym (w3.hart.regs 0))) in
    let w5 = walk_other p 4 57 10 11 2 file4 m2 w4 (word_at stands 17 refl) (omega arith) (omega (arith, (word_at stands 19 refl).word.below)) (ne_eqb (sign_extended 32 v) 0 (still_other v some)) in
    let w6 = walk_load p 5 59 10 2 40 (low + 40) (x s 10) file4 m2 (omega arith) (omega arith) w5 (word_at stands 19 refl) (up low 40 (omega arith) (omega (arith, below))) held in
    let file6 : ℕ → ℕ = update 10 (x s 10) file4 in
    let w7 = walk_addi p 6 60 17 0 6 6 file6 m2 (omega arith) (omega arith) w6 (word_at stands 20 refl) (small_number 6 (omega arith)) in
    let ran = executes_turns image 7 w s w7.after refl w7.runs in
    record { after = ran.after; runs = ran.turns }

pub checks_unshown : (image : Image) (p : Plan) (e d : ℕ) (st : State) (w : abi.World) (h : ChecksThrown p st w) → CalledByCompiled st → st.top.frame.slots 4 ≡ flying e d → st.top.frame.slots 5 ≡ number_word (pos 1) → FirstUnshown image 7 w
checks_unshown image p e d st w h called flies selector =
    let o = rests_over p 13 st w called h.rests in
    let gets = gets_flying p st.world (st.top.frame.slots 4) e d (x w.hart 10) flies h.gets in
    let is : x w.hart 11 ≡ 1 = selector_held p st w h (pos 1) selector in
    seven_words image p.unit p.base w o.stands gets.1 (λ zero. absurd (omega (arith, zero, is)))
