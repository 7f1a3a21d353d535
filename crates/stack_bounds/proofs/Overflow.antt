-- At the first word of a function that finds no room the run ends.
use Rattle.std.proofs.Common.{◌≡◌, ◌∙◌, refl, sym, ap, subst, arith, ℕ, suc, ◌+◌, ◌-◌, List, [], ◌++◌}
use Rattle.std.specs.Prelude.{flat_map}
use Rattle.rv64_isa.specs.State.{State}
use Rattle.rv64_isa.specs.Step.{step_of, x}
use Rattle.rv64_isa.specs.declared.step.Step.TheVariants as steps
use Rattle.cxa_runtime.specs.declared.effect.End.TheVariants as end_kinds
use Rattle.cxa_runtime.specs.declared.effect.Turn.TheVariants.{Ended}
use Rattle.cxa_runtime.specs.Call.{call_effect, numbered}
use Rattle.cxa_runtime.specs.Raising.{Image}
use Rattle.cxa_runtime.specs.Run.{Ran, and_more, called, run, stepped, turn}
use Rattle.cxa_runtime.specs.World.{World, a7, at_hart}
use Rattle.machine_forms.specs.Registers.{sp, saved_registers}
use Rattle.machine_forms.specs.Piece.{Piece}
use Rattle.machine_forms.specs.KeptCode.{saves}
use Rattle.machine_forms.specs.RuntimeCall.{stack_call}
use Rattle.machine_forms.specs.Shape.{Shape, prologue, return_offset}
use Rattle.machine_pieces.specs.Laws.{CallsAreTurns, ControlGoes}
use Rattle.machine_pieces.specs.Standing.{Ground}
use Rattle.machine_pieces.specs.Transfers.{LacksRoom}
use Rattle.machine_pieces.specs.Turning.{with_items}
use Rattle.machine_pieces.proofs.Fetching.{pieces_split}
use Rattle.machine_pieces.proofs.Stepping.{steps_then}
use Rattle.machine_simulation.specs.Matches.{FrameIs}
use Rattle.machine_simulation.specs.Plan.{function, shape, routine, first_word, setting}
use Rattle.stack_bounds.specs.Overflow.{RunOverflows, FunctionsOverflow}

-- the runtime call ends the run
pub stack_ends : (image : Image) (pick : ℕ → ℕ) (k : ℕ) (w : World) (s : State) → step_of w.hart ≡ (steps.Ecall, s) → x s a7 ≡ stack_call → RunOverflows image pick (suc k) w
unfolding run turn call_effect numbered
stack_ends image pick k w s e is =
    let wish : ℕ = pick (w.last_number + 1) in
    let v : World = at_hart s (record w { shown = [] }) in
    let one : turn image wish w ≡ (Ended end_kinds.Stack, _) = ap (stepped image wish (record w { shown = [] })) e ∙ ap (λ n. called w.hart.pc (call_effect n image wish v)) is in
    let all = ap (and_more (run image pick k)) one in
    record { items = ap (λ (r : Ran). r.items) all; end = ap (λ (r : Ran). r.end) all }

-- turns that show nothing lead there
pub overflows_later : (image : Image) (pick : ℕ → ℕ) (m k : ℕ) (w v : World) → run image pick (m + k) w ≡ with_items [] (run image pick k v) → RunOverflows image pick k v → RunOverflows image pick (m + k) w
overflows_later image pick m k w v e h = record { items = ap (λ (r : Ran). r.items) e ∙ h.items; end = ap (λ (r : Ran). r.end) e ∙ h.end }

pub functions_overflow : CallsAreTurns → ControlGoes → FunctionsOverflow
functions_overflow turns control image pick n p m w h many =
    let g : Ground = (setting p m).ground in
    let f : Shape = shape p m in
    let s : State = w.hart in
    let frame_is : FrameIs (function p m) = h.unit.frames m h.known in
    let lacks : LacksRoom f s = record {
      looks = h.looks;
      registers = h.registers;
      size = (frame_is.small, omega (arith, frame_is.size), omega (arith, frame_is.size));
      aligned = h.aligned;
      above = h.above;
      short = h.short;
      may = h.may (x s sp - f.size + return_offset) 8 (omega (arith, h.above)) (omega (arith, h.above, h.below, frame_is.size));
    } in
    let behind : List Piece = saves f (function p m).parameters saved_registers f.kept in
    let whole = (pieces_split s.memory g (first_word p m) (prologue f ++ behind) (flat_map (λ b. b) (routine p m).blocks) (h.unit.functions m h.known)).0 in
    let front = (pieces_split s.memory g (first_word p m) (prologue f) behind whole).0 in
    let over = control.overflows g (first_word p m) f s front h.pc lacks in
    let at = turns.call g (first_word p m + 4) stack_call over.after (omega arith) over.code over.pc over.registers in
    let ran = turns.steps image 5 w s at.called refl (steps_then 4 1 s over.after at.called over.runs at.first) in
    let left : ℕ = n - 6 in
    let count : n ≡ 5 + suc left = omega (arith, many) in
    let last = stack_ends image pick left ran.after at.behind (ap step_of ran.hart ∙ at.calls) at.is in
    subst (λ i. RunOverflows image pick i w) (sym count) (overflows_later image pick 5 (suc left) w ran.after (ran.turns.run pick (suc left)) last)
