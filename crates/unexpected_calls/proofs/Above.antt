-- One of the runtime's own functions above a call of a compiled function: a function that it calls begins.
use Rattle.std.proofs.Common.{◌≡◌, ◌∙◌, refl, sym, ap, subst, arith, ℕ, ◌+◌, ◌-◌, ◌%◌, ◌^◌, ◌<◌, ◌≤◌, true, List, [], length, inl, inr}
use Rattle.std.specs.Prelude.{◌⊎◌}
use Rattle.rv64_isa.specs.State.{State, Part, with_value}
use Rattle.rv64_isa.specs.Step.{x}
use Rattle.cxa_runtime.specs.World as abi
use Rattle.cxa_runtime.specs.Raising.{Image}
use Rattle.region_forms.specs.World.{Base, Frame, World}
use Rattle.linear_forms.specs.Activation.{Activation}
use Rattle.machine_forms.specs.Registers.{ra, sp}
use Rattle.machine_forms.specs.Shape.{return_offset, prologue}
use Rattle.machine_pieces.specs.Memory.{Holds, MayWrite, Apart}
use Rattle.machine_pieces.specs.Standing.{address}
use Rattle.machine_pieces.specs.Frames.{AddressAt}
use Rattle.machine_pieces.specs.Turning.{Turns, SameRuntime}
use Rattle.machine_pieces.proofs.Storing.{eight_stored, holds_apart}
use Rattle.machine_pieces.proofs.Turning.{executes_turns}
use Rattle.machine_simulation.specs.Plan.{Plan, function, shape, first_word, setting}
use Rattle.machine_simulation.specs.Matches.{FrameIs, MemoryMatches}
use Rattle.machine_simulation.proofs.Freeing.{free_matches}
use Rattle.machine_exceptions.proofs.Destroying.{entered_at}
use Rattle.machine_pieces.specs.Keeping.{saved_of}
use Rattle.machine_pieces.specs.Transfers.{lowest_sp, entry_steps}
use Rattle.machine_simulation.proofs.Floors.{lowest_floor}
use Rattle.machine_pieces.proofs.Keeping.{same_saved}

-- bytes of a place that a store at another leaves
pub holds_above : (memory : List Part) (put value a n v : ℕ) → put + 8 ≤ a → Holds memory a n v → Holds (with_value memory put 8 value) a n v
holds_above memory put value a n v over h = holds_apart memory put 8 value a n v (λ i j hi hj same. omega (arith, over, hi, hj, same)) h

-- From a function's first word to its first operation, where so many bytes lie between its caller's sp and the frame of the newest compiled call:
-- what lies above its frame stays, and that has the return address.
pub record FunctionEntered (image : Image) (p : Plan) (n m gap : ℕ) (frame : Frame) (fs : List Activation) (v : World) (back : ℕ) (w : abi.World) : Type 0 where
  pub after : abi.World
  pub runs : Turns image (entry_steps (shape p m).leaf) w after []
  pub runtime : SameRuntime w after
  pub registers : length after.hart.regs ≡ 32
  pub pc : after.hart.pc ≡ address (setting p m).ground (first_word p m + length (prologue (shape p m)))
  pub stack : x after.hart sp ≡ x w.hart sp - (shape p m).size
  pub matches : MemoryMatches p n frame fs v after.hart.memory (x w.hart sp + gap) back
  pub returns : AddressAt after.hart.memory (x w.hart sp - (shape p m).size + return_offset) (x w.hart ra)
  pub saved : saved_of after.hart ≡ saved_of w.hart
  pub above : (a k c : ℕ) → x w.hart sp ≤ a → Holds w.hart.memory a k c → Holds after.hart.memory a k c

pub function_entered : (image : Image) (p : Plan) (n m gap : ℕ) (frame : Frame) (fs : List Activation) (v : World) (back : ℕ) (w : abi.World) → m < length p.unit.functions → w.hart.pc ≡ address (setting p m).ground (first_word p m) →
    length w.hart.regs ≡ 32 → x w.hart ra < 2 ^ 64 → MemoryMatches p n frame fs v w.hart.memory (x w.hart sp + gap) back → gap % 8 ≡ 0 → lowest_sp (shape p m).leaf (shape p m).size ≤ x w.hart sp → FunctionEntered image p n m gap frame fs v back w
function_entered image p n m gap frame fs v back w known at regs small held even least =
    let s : State = w.hart in
    let unit = held.unit in
    let frame_is : FrameIs (function p m) = unit.frames m known in
    let room = lowest_floor (shape p m).leaf (shape p m).size (x s sp) frame_is.small least in
    let aligned : x s sp % 8 ≡ 0 = omega (arith, held.top.saved.aligned, even) in
    let enters = entered_at p m s unit held.may known regs at least (omega (arith, held.top.below)) aligned in
    let ran = executes_turns image (entry_steps (shape p m).leaf) w s enters.after refl enters.runs in
    let put : ℕ = x s sp - (shape p m).size + return_offset in
    let new : List Part = with_value s.memory put 8 (x s ra) in
    let memory : ran.after.hart.memory ≡ new = ap (λ (u : State). u.memory) ran.hart ∙ enters.memory in
    let under : put + 8 ≤ x s sp = omega (arith, room, frame_is.size) in
    let kept = free_matches p n frame fs v s.memory (x s sp + gap) back put 8 (x s ra) held (record { low = omega (arith, room); high = omega (arith, under) }) in
    let whole : x s ra % 2 ^ 64 ≡ x s ra = omega (arith, small) in
    let may : MayWrite s.memory put 8 = held.may put 8 (omega (arith, room)) (omega (arith, under, held.top.below)) in
    let saved : AddressAt new put (x s ra) = record {
      aligned = omega (arith, aligned, frame_is.size, room);
      below = omega (arith, held.top.below, under);
      holds = subst (Holds new put 8) whole (eight_stored s.memory put (x s ra) may);
    } in
    record {
      after = ran.after;
      runs = ran.turns;
      runtime = ran.runtime;
      registers = ap (λ (u : State). length u.regs) ran.hart ∙ enters.registers;
      pc = ap (λ (u : State). u.pc) ran.hart ∙ enters.pc;
      stack = ap (λ (u : State). x u sp) ran.hart ∙ enters.stack;
      matches = subst (λ ps. MemoryMatches p n frame fs v ps (x s sp + gap) back) (sym memory) kept;
      returns = subst (λ ps. AddressAt ps put (x s ra)) (sym memory) saved;
      saved = ap saved_of ran.hart ∙ same_saved s enters.after (λ r n. enters.kept r (λ e. absurd (omega (arith, n.above, e))) (λ e. absurd (omega (arith, n.above, e))));
      above = λ a k c over h. subst (λ ps. Holds ps a k c) (sym memory) (holds_above s.memory put (x s ra) a k c (omega (arith, under, over)) h);
    }

-- what is live is apart from bytes of the stack below the newest compiled call's frame
pub stack_apart : (p : Plan) (n : ℕ) (frame : Frame) (fs : List Activation) (v : World) (memory : List Part) (stack back low size : ℕ) → MemoryMatches p n frame fs v memory stack back → 0x7000_0000 ≤ low → low + size ≤ stack →
    (b : Base) → p.live b ≡ true → Apart (p.at b) (p.size b) low size
stack_apart p n frame fs v memory stack back low size h from to b live i j hi hj same = by (h.top.clear b live (h.last b live))
  where
    by : (p.at b + p.size b ≤ 0x7000_0000) ⊎ (stack ≤ p.at b) → ⊥
    by (inl below) = omega (arith, below, from, hi, hj, same)
    by (inr above) = omega (arith, above, to, hi, hj, same)
