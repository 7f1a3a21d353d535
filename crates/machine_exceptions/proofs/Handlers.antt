-- The terminate handler begins.
use Rattle.std.proofs.Common.{◌≡◌, ◌∙◌, refl, sym, ap, subst, arith, ℕ, ◌+◌, ◌-◌, ◌%◌, ◌^◌, ◌<◌, ◌≤◌, Bool, true, false, List, [], ◌∷◌, length, inr}
use Rattle.rv64_isa.specs.State.{State, Part, with_value}
use Rattle.rv64_isa.specs.Step.{x}
use Rattle.cxa_runtime.specs.World as abi
use Rattle.cxa_runtime.specs.Raising.{Image}
use Rattle.region_forms.specs.World.{Frame, World}
use Rattle.region_forms.specs.Effect.{new_frame, new_world}
use Rattle.linear_forms.specs.Stub.{terminating}
use Rattle.linear_forms.specs.Activation.{Activation, State as LinearState, depth_of}
use Rattle.machine_forms.specs.Registers.{ra, sp, saved_registers}
use Rattle.machine_forms.specs.Shape.{return_offset, prologue}
use Rattle.machine_forms.specs.KeptCode.{saves}
use Rattle.machine_pieces.specs.Memory.{Holds, MayWrite}
use Rattle.machine_pieces.specs.Standing.{address}
use Rattle.machine_pieces.specs.Frames.{AddressAt}
use Rattle.machine_pieces.specs.Turning.{Turns, SameRuntime}
use Rattle.machine_pieces.proofs.Storing.{eight_stored}
use Rattle.machine_pieces.proofs.Turning.{executes_turns, turns_then, same_then}
use Rattle.machine_pieces.specs.Transfers.{lowest_sp, entry_steps}
use Rattle.machine_pieces.specs.Keeping.{saved_of, AreSmall}
use Rattle.machine_pieces.proofs.Keeping.{same_saved}
use Rattle.machine_stubs.specs.Stretches.{stub_word}
use Rattle.machine_simulation.specs.Plan.{Plan, function, shape, slot_kinds, first_word, setting}
use Rattle.machine_simulation.specs.Calls.{open_bytes, stack_end}
use Rattle.machine_simulation.specs.Matches.{FrameIs, RuntimeMatches, MemoryMatches, Matches}
use Rattle.machine_simulation.specs.Entering.{opened, entry_turns}
use Rattle.machine_simulation.proofs.Matching.{runtime_stays}
use Rattle.machine_simulation.proofs.Calling.{runtime_opened}
use Rattle.machine_simulation.proofs.Freeing.{free_matches}
use Rattle.machine_simulation.proofs.Beneath.{Beneath, beneath_call, Begins}
use Rattle.machine_simulation.specs.KeptCalls.{KeptCalls}
use Rattle.machine_simulation.proofs.KeptCalls.{terminating_behind}
use Rattle.machine_simulation.proofs.KeptEntered.{BegunCall, begins_saved}
use Rattle.machine_simulation.proofs.Floors.{lowest_floor}
use Rattle.machine_exceptions.specs.Terminates.{waiting_terminate, ending_world, in_handler, HandlerFits}
use Rattle.machine_exceptions.proofs.Saving.{saves_run}
use Rattle.machine_exceptions.proofs.Destroying.{entered_at, beneath_lower}

-- Behind the handler's prologue: its frame, below that of terminate, has the return address into terminate.
pub record HandlerEntered (image : Image) (p : Plan) (m : ℕ) (v : World) (w : abi.World) : Type 0 where
  pub after : abi.World
  pub runs : Turns image (entry_steps (shape p m).leaf) w after []
  pub runtime : SameRuntime w after
  pub registers : length after.hart.regs ≡ 32
  pub pc : after.hart.pc ≡ address (setting p m).ground (first_word p m + length (prologue (shape p m)))
  pub stack : x after.hart sp ≡ x w.hart sp - (shape p m).size
  pub saved : saved_of after.hart ≡ saved_of w.hart
  pub known : m < length p.unit.functions
  pub low : lowest_sp (shape p m).leaf (shape p m).size ≤ x w.hart sp
  pub below : Beneath p v after.hart.memory (x w.hart sp)
  pub returns : AddressAt after.hart.memory (x w.hart sp - (shape p m).size + return_offset) (stub_word p.base terminating 6)

-- the newest compiled call has its frame from `high` on, at terminate's or above it
pub handler_entered : (image : Image) (p : Plan) (n m : ℕ) (frame : Frame) (fs : List Activation) (v : World) (high back : ℕ) (w : abi.World) → m < length p.unit.functions → w.hart.pc ≡ address (setting p m).ground (first_word p m) →
    length w.hart.regs ≡ 32 → x w.hart ra ≡ stub_word p.base terminating 6 → MemoryMatches p n frame fs v w.hart.memory high back → x w.hart sp ≤ high → x w.hart sp % 8 ≡ 0 → lowest_sp (shape p m).leaf (shape p m).size ≤ x w.hart sp →
    HandlerEntered image p m v w
handler_entered image p n m frame fs v high back w known at regs returns held above even least =
    let s : State = w.hart in
    let unit = held.unit in
    let frame_is : FrameIs (function p m) = unit.frames m known in
    let room = lowest_floor (shape p m).leaf (shape p m).size (x s sp) frame_is.small least in
    let enters = entered_at p m s unit held.may known regs at least (omega (arith, above, held.top.below)) even in
    let ran = executes_turns image (entry_steps (shape p m).leaf) w s enters.after refl enters.runs in
    let put : ℕ = x s sp - (shape p m).size + return_offset in
    let new : List Part = with_value s.memory put 8 (x s ra) in
    let memory : ran.after.hart.memory ≡ new = ap (λ (u : State). u.memory) ran.hart ∙ enters.memory in
    let kept = free_matches p n frame fs v s.memory high back put 8 (x s ra) held (record { low = omega (arith, room); high = omega (arith, room, frame_is.size, above) }) in
    let small : x s ra < 2 ^ 64 = omega (arith, returns, unit.stubs.call_unexpected.0.word.below) in
    let whole : x s ra % 2 ^ 64 ≡ x s ra = omega (arith, small) in
    let may : MayWrite s.memory put 8 = held.may put 8 (omega (arith, room)) (omega (arith, room, frame_is.size, above, held.top.below)) in
    let under : Beneath p v new (x s sp) = beneath_lower p v new high (x s sp) above (beneath_call p n frame fs v new high back kept) in
    let return_at : AddressAt new put (stub_word p.base terminating 6) = subst (AddressAt new put) returns (record {
      aligned = omega (arith, even, frame_is.size, room);
      below = omega (arith, above, held.top.below);
      holds = subst (Holds new put 8) whole (eight_stored s.memory put (x s ra) may);
    }) in
    record {
      after = ran.after;
      runs = ran.turns;
      runtime = ran.runtime;
      registers = ap (λ (u : State). length u.regs) ran.hart ∙ enters.registers;
      pc = ap (λ (u : State). u.pc) ran.hart ∙ enters.pc;
      stack = ap (λ (u : State). x u sp) ran.hart ∙ enters.stack;
      saved = ap saved_of ran.hart ∙ same_saved s enters.after (λ r k. enters.kept r (λ e. absurd (omega (arith, k.above, e))) (λ e. absurd (omega (arith, k.above, e))));
      known = known;
      low = least;
      below = subst (λ ps. Beneath p v ps (x s sp)) (sym memory) under;
      returns = subst (λ ps. AddressAt ps put (stub_word p.base terminating 6)) (sym memory) return_at;
    }

-- how far up a frame begins, at least
pub lowest_least : (leaf : Bool) (size : ℕ) → 0x7000_0800 ≤ lowest_sp leaf size
lowest_least true size = omega arith
lowest_least false size = omega arith

-- terminate waits for the handler, which saves registers; nothing is asked of those below it
handler_begun : (image : Image) (p : Plan) (m depth : ℕ) (waiting : LinearState) (w : abi.World) (h : HandlerEntered image p m waiting.world w) → let active = waiting_terminate m ∷ waiting.top ∷ waiting.frames in let v = waiting.world in let t = h.after.hart in
    HandlerFits p m active → x w.hart sp + 32 + p.hidden + open_bytes p (waiting.top ∷ waiting.frames) ≡ stack_end → AreSmall (saved_of w.hart) →
    BegunCall (opened p m v.calls (x t sp)) m (new_frame (slot_kinds p m) [] v) active (new_world (slot_kinds p m) [] depth v) (stub_word p.base terminating 6)
    (length (saves (shape p m) (function p m).parameters saved_registers (shape p m).kept)) t
handler_begun image p m depth waiting w h fits end small =
    let ret : ℕ = stub_word p.base terminating 6 in
    let v : World = waiting.world in
    let t : State = h.after.hart in
    let mid : ℕ = x w.hart sp in
    let low : ℕ = x t sp in
    let below : List Activation = waiting.top ∷ waiting.frames in
    let q : Plan = opened p m v.calls low in
    let u : World = new_world (slot_kinds p m) [] depth v in
    let frame_is : FrameIs (function p m) = h.below.unit.frames m h.known in
    let floor = lowest_floor (shape p m).leaf (shape p m).size mid frame_is.small h.low in
    let least = lowest_least (shape p m).leaf (shape p m).size in
    let begins : Begins p 0 m v t.memory mid low ret [] = record {
      below = h.below;
      known = h.known;
      frame = omega (arith, h.stack, floor);
      room = h.low;
      passed = tt;
      may = λ j word b got found. absurd (cc got);
      few = omega arith;
      taken = fits.taken;
      fits = tt;
      saved = subst (λ a. AddressAt t.memory (a + return_offset) ret) (sym h.stack) h.returns;
    } in
    begins_saved p 0 m v mid ret [] depth (waiting_terminate m ∷ below) t begins h.registers h.pc (subst AreSmall (sym h.saved) small)
    (λ ints. inr (inr (record { callee = refl; place = refl; returns = refl; above = omega (arith, h.low, least) }, end)))
    (terminating_behind q (waiting_terminate m).frame u t.memory mid (saved_of t) (λ next others. KeptCalls q below u t.memory next others) terminating refl)

-- from terminate's call to the handler's first operation
pub record HandlerRuns (image : Image) (p : Plan) (m low : ℕ) (waiting : LinearState) (w : abi.World) : Type 0 where
  pub after : abi.World
  pub runs : Turns image (entry_turns p m) w after []
  pub holds : Matches (opened p m waiting.world.calls low) (in_handler p m waiting) after
  pub runtime : SameRuntime w after

pub handler_runs : (image : Image) (p : Plan) (m : ℕ) (waiting : LinearState) (low : ℕ) (w : abi.World) → HandlerEntered image p m (ending_world waiting.world) w → let active = waiting_terminate m ∷ waiting.top ∷ waiting.frames in HandlerFits p m active →
    x w.hart sp + 32 + p.hidden + open_bytes p (waiting.top ∷ waiting.frames) ≡ stack_end → AreSmall (saved_of w.hart) → RuntimeMatches p active (ending_world waiting.world) w → x w.hart sp - (shape p m).size ≡ low → HandlerRuns image p m low waiting w
handler_runs image p m waiting low w h fits end small runtime low_is =
    let v : World = ending_world waiting.world in
    let active : List Activation = waiting_terminate m ∷ waiting.top ∷ waiting.frames in
    let depth : ℕ = depth_of active + 1 in
    let place : ℕ = x h.after.hart sp in
    let q : Plan = opened p m v.calls place in
    let u : World = new_world (slot_kinds p m) [] depth v in
    let words : ℕ = length (saves (shape p m) (function p m).parameters saved_registers (shape p m).kept) in
    let begun = handler_begun image p m depth (record { top = waiting.top; frames = waiting.frames; world = v }) w h fits end small in
    let saved = saves_run image q m (new_frame (slot_kinds p m) [] v) active u (stub_word p.base terminating 6) words h.after begun (runtime_stays q active u w h.after h.runtime (runtime_opened p m place active [] depth v w runtime)) in
    record {
      after = saved.after;
      runs = turns_then image (entry_steps (shape p m).leaf) words w h.after saved.after [] [] h.runs saved.runs;
      holds = subst (λ a. Matches (opened p m v.calls a) (in_handler p m waiting) saved.after) (h.stack ∙ low_is) saved.holds;
      runtime = same_then w h.after saved.after h.runtime saved.runtime;
    }
