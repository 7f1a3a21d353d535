-- A function is called, takes its frame, and begins.
use Rattle.std.proofs.Common.{◌≡◌, ◌∙◌, sym, ap, subst, arith, ℕ, ◌+◌, ◌-◌, ◌*◌, ◌%◌, ◌^◌, ◌<◌, ◌≤◌, pos, List, ◌++◌, length, flat_map, Some}
use Rattle.std.specs.Prelude.{slice_get}
use Rattle.rv64_isa.specs.State.{State, Part, with_value}
use Rattle.rv64_isa.specs.Step.{x}
use Rattle.region_forms.specs.World.{Address, Word, address_in, Frame, World}
use Rattle.linear_forms.specs.Stub.{compiled}
use Rattle.linear_forms.specs.Activation.{Activation}
use Rattle.machine_forms.specs.Registers.{ra, sp, saved_registers}
use Rattle.machine_forms.specs.KeptCode.{saves}
use Rattle.machine_forms.specs.Piece.{entry, Piece}
use Rattle.machine_forms.specs.Shape.{Shape, return_offset, prologue}
use Rattle.machine_forms.specs.CallCode.{passed, function_called}
use Rattle.machine_pieces.specs.Memory.{Holds, MayWrite}
use Rattle.machine_pieces.specs.Executes.{Executes}
use Rattle.machine_pieces.specs.Standing.{Ground, address, PiecesAt}
use Rattle.machine_pieces.specs.Frames.{Reached}
use Rattle.machine_pieces.specs.Keeping.{saved_of}
use Rattle.machine_pieces.specs.Transfers.{lowest_sp, entry_steps, HasRoom}
use Rattle.machine_pieces.proofs.Keeping.{same_saved}
use Rattle.machine_pieces.proofs.Storing.{eight_stored, holds_apart}
use Rattle.machine_pieces.proofs.Fetching.{pieces_split}
use Rattle.machine_pieces.proofs.Stepping.{steps_then}
use Rattle.machine_pieces.proofs.Framing.{function_calls, prologue_enters}
use Rattle.machine_simulation.specs.Plan.{Plan, function, shape, slot_kinds, routine, first_word, setting}
use Rattle.machine_simulation.specs.Calls.{HeldBy}
use Rattle.machine_simulation.specs.Matches.{UnitStands, FrameIs, MemoryMatches}
use Rattle.machine_simulation.specs.Entering.{WordsFit}
use Rattle.machine_simulation.proofs.Words.{even_base}
use Rattle.machine_simulation.proofs.Floors.{lowest_floor}
use Rattle.machine_simulation.proofs.Freeing.{free_matches}
use Rattle.machine_simulation.proofs.Passing.{PassedAt, passed_still}
use Rattle.machine_simulation.proofs.Slots.{given_bytes, bytes_most}
use Rattle.machine_simulation.proofs.Beneath.{beneath_call, held_passes, Begins}

-- ---- where the function is

pub entry_reached : (p : Plan) (n m : ℕ) (memory : List Part) → UnitStands p memory → m < length p.unit.functions →
    Reached (setting p n).ground (entry (compiled m)) (address (setting p m).ground (first_word p m))
entry_reached p n m memory h known =
    let first = (h.functions m known).0 in
    record {
      is = ap pos (omega arith);
      near = λ here inside. (omega (arith, h.few, first.inside, inside), omega (arith, h.few, first.inside, inside));
    }

-- behind what is passed, the function is called and takes its frame
pub record CalleeEntered (p : Plan) (n m here : ℕ) (s : State) : Type 0 where
  pub after : State
  pub runs : Executes (2 + entry_steps (shape p m).leaf) s after
  pub registers : length after.regs ≡ 32
  pub pc : after.pc ≡ address (setting p m).ground (first_word p m + length (prologue (shape p m)))
  pub memory : after.memory ≡ with_value s.memory (x s sp - (shape p m).size + return_offset) 8 (address (setting p n).ground (here + 2))
  pub stack : x after sp ≡ x s sp - (shape p m).size
  pub saved : saved_of after ≡ saved_of s

pub callee_entered : (p : Plan) (n m here : ℕ) (frame : Frame) (fs : List Activation) (v : World) (back : ℕ) (s : State) → MemoryMatches p n frame fs v s.memory (x s sp) back → length s.regs ≡ 32 →
    s.pc ≡ address (setting p n).ground here → PiecesAt s.memory (setting p n).ground here (function_called (compiled m)) → m < length p.unit.functions → lowest_sp (shape p m).leaf (shape p m).size ≤ x s sp →
    CalleeEntered p n m here s
callee_entered p n m here frame fs v back s h regs at code known room =
    let g : Ground = (setting p n).ground in
    let gm : Ground = (setting p m).ground in
    let fm : Shape = shape p m in
    let first : ℕ = address gm (first_word p m) in
    let pieces = h.unit.functions m known in
    let even = even_base p s.memory h.unit in
    let frame_is : FrameIs (function p m) = h.unit.frames m known in
    let floor = lowest_floor fm.leaf fm.size (x s sp) frame_is.small room in
    let called = function_calls g here first (entry (compiled m)) s code at regs (entry_reached p n m s.memory h.unit known) (omega (arith, even)) (omega (arith, pieces.0.word.below)) in
    let m2 : State = called.after in
    let stack2 : x m2 sp ≡ x s sp = called.kept sp (λ e. absurd (omega (arith, e))) in
    let has_room : HasRoom fm m2 = record {
      registers = called.registers;
      size = (frame_is.small, omega (arith, frame_is.size), omega (arith, frame_is.size));
      aligned = omega (arith, stack2, h.top.saved.aligned);
      above = subst (λ a. lowest_sp fm.leaf fm.size ≤ a) (sym stack2) room;
      below = omega (arith, stack2, h.top.below);
      may = subst (λ ps. MayWrite ps (x m2 sp - fm.size + return_offset) 8) (sym called.memory)
          (h.may (x m2 sp - fm.size + return_offset) 8 (omega (arith, stack2, floor)) (omega (arith, stack2, floor, frame_is.size, h.top.below)));
    } in
    let front : List Piece = prologue fm in
    let parts = pieces_split s.memory gm (first_word p m) (front ++ saves fm (function p m).parameters saved_registers fm.kept) (flat_map (λ b. b) (routine p m).blocks) pieces in
    let heads = pieces_split s.memory gm (first_word p m) front (saves fm (function p m).parameters saved_registers fm.kept) parts.0 in
    let front2 : PiecesAt m2.memory gm (first_word p m) front = subst (λ ps. PiecesAt ps gm (first_word p m) front) (sym called.memory) heads.0 in
    let entered = prologue_enters gm (first_word p m) fm m2 front2 called.pc has_room in
    record {
      after = entered.after;
      runs = steps_then 2 (entry_steps fm.leaf) s m2 entered.after called.runs entered.runs;
      registers = entered.registers;
      pc = entered.pc;
      memory = entered.memory ∙ ap (λ ps. with_value ps (x m2 sp - fm.size + return_offset) 8 (x m2 ra)) called.memory ∙ ap (λ a. with_value s.memory (a - fm.size + return_offset) 8 (x m2 ra)) stack2
          ∙ ap (with_value s.memory (x s sp - fm.size + return_offset) 8) called.back;
      stack = entered.stack ∙ ap (λ a. a - fm.size) stack2;
      saved = same_saved m2 entered.after (λ r k. entered.kept r (λ e. absurd (omega (arith, k.above, e))) (λ e. absurd (omega (arith, k.above, e))))
          ∙ same_saved s m2 (λ r k. called.kept r (λ e. absurd (omega (arith, k.above, e))));
    }

-- what is passed is less than the frame
pub given_less : (p : Plan) (m : ℕ) (given : List Word) → FrameIs (function p m) → length given ≤ length (shape p m).slots → WordsFit (slot_kinds p m) 0 given → 8 * length given + 16 ≤ (shape p m).size
given_less p m given is few fits = omega (arith, given_bytes (function p m) given (length given) is few fits (omega arith), bytes_most (shape p m).slots (length given), is.size)

-- behind the prologue the new call begins
pub call_begins : (p : Plan) (n m here : ℕ) (frame : Frame) (fs : List Activation) (v : World) (back : ℕ) (given : List Word) (memory : List Part) (stack : ℕ) → MemoryMatches p n frame fs v memory stack back →
    m < length p.unit.functions → lowest_sp (shape p m).leaf (shape p m).size ≤ stack → PassedAt (setting p n) memory stack 0 given →
    ((j : ℕ) (word : Word) (b : Address) → slice_get given j ≡ Some word → address_in word ≡ Some b → HeldBy p v frame.call b.base) → length given ≤ length (shape p m).slots → length given ≡ (function p m).parameters →
    WordsFit (slot_kinds p m) 0 given → address (setting p n).ground here < 2 ^ 64 →
    let new = with_value memory (stack - (shape p m).size + return_offset) 8 (address (setting p n).ground here) in
    MemoryMatches p n frame fs v new stack back × Begins p n m v new stack (stack - (shape p m).size) (address (setting p n).ground here) given
call_begins p n m here frame fs v back given memory stack h known room passed held few taken fits small =
    let fm : Shape = shape p m in
    let low : ℕ = stack - fm.size in
    let ret : ℕ = address (setting p n).ground here in
    let new : List Part = with_value memory (low + return_offset) 8 ret in
    let frame_is : FrameIs (function p m) = h.unit.frames m known in
    let most = given_less p m given frame_is few fits in
    let floor = lowest_floor fm.leaf fm.size stack frame_is.small room in
    let under = free_matches p n frame fs v memory stack back (low + return_offset) 8 ret h (record { low = omega (arith, floor); high = omega (arith, floor, most) }) in
    let may : MayWrite memory (low + return_offset) 8 = h.may (low + return_offset) 8 (omega (arith, floor)) (omega (arith, floor, most, h.top.below)) in
    let whole : ret % 2 ^ 64 ≡ ret = omega (arith, small) in (
      under,
      record {
        below = beneath_call p n frame fs v new stack back under;
        known = known;
        frame = omega (arith, floor);
        room = room;
        passed = passed_still (setting p n) memory new stack 0 given (λ b k z high holds. holds_apart memory (low + return_offset) 8 ret b k z (λ i j hi hj e. omega (arith, high, hi, most, floor, e)) holds)
            (omega (arith, most, floor)) passed;
        may = λ j word b e is. held_passes p v frame.call b.base h.newest (held j word b e is);
        few = few;
        taken = taken;
        fits = fits;
        saved = record {
          aligned = omega (arith, h.top.saved.aligned, frame_is.size, floor);
          below = omega (arith, h.top.below);
          holds = subst (Holds new (low + return_offset) 8) whole (eight_stored memory (low + return_offset) ret may);
        };
      },
    )
