-- A forced unwind goes on on both machines.
use Rattle.std.proofs.Common.{◌≡◌, ◌∙◌, refl, sym, ap, subst, arith, ℕ, ◌+◌, ◌==◌, ℤ, pos, List, [], ◌∷◌, ◌++◌, length, append-nil, Some, inl, inr}
use Rattle.std.specs.Prelude.{◌⊎◌, if◌then◌else◌}
use Rattle.meaning_forms.specs.Outcome.{exit}
use Rattle.rv64_isa.specs.Arithmetic.{add}
use Rattle.rv64_isa.specs.declared.instr.Instr.TheVariants.{Ld}
use Rattle.rv64_isa.specs.State.{State}
use Rattle.rv64_isa.specs.Step.{x, imm12}
use Rattle.elf_image.specs.Clean.{CleanImage}
use Rattle.raise_core.specs.declared.raised.Raised.{Raised}
use Rattle.raise_core.specs.declared.raised.Raised.TheVariants.{Terminate, NoHandler}
use Rattle.raise_core.specs.Raise as unwinder
use Rattle.cxa_runtime.specs.World as abi
use Rattle.cxa_runtime.specs.World.{argument, needs, at_hart}
use Rattle.cxa_runtime.specs.Raising.{Image, at_pad}
use Rattle.cxa_runtime.specs.Cancel.{forced_as, unwinds}
use Rattle.cxa_runtime.specs.Throw.{resume_object, resume_unwind}
use Rattle.cxa_runtime.specs.Call.{call_effect}
use Rattle.cxa_runtime.specs.Run.{counted}
use Rattle.eh_run.specs.Program.{program_of}
use Rattle.region_forms.specs.World.{unwinding, World}
use Rattle.linear_forms.specs.Linear.{resume}
use Rattle.linear_forms.specs.Stub.{terminating}
use Rattle.linear_forms.specs.Activation.{Activation, State as LinearState, Next, goes_to, finishes, by_program}
use Rattle.linear_forms.specs.Operation.{resumed}
use Rattle.linear_forms.specs.Forced.{forced_above}
use Rattle.linear_forms.specs.UnitRun.{code_of}
use Rattle.machine_forms.specs.Immediate.{immediate}
use Rattle.machine_forms.specs.Registers.{sp, a0}
use Rattle.machine_forms.specs.Piece.{instruction}
use Rattle.machine_forms.specs.PlaceCode.{within, slot_loaded}
use Rattle.machine_forms.specs.Shape.{slot_offset}
use Rattle.machine_forms.specs.LinearCode.{linear_code}
use Rattle.machine_forms.specs.Routine.{op_word}
use Rattle.machine_pieces.specs.Standing.{Ground, address, PieceAt}
use Rattle.machine_pieces.specs.Frames.{AddressAt, WordHolds}
use Rattle.machine_pieces.specs.Going.{Computes}
use Rattle.machine_pieces.specs.Laws.{CallsAreTurns}
use Rattle.machine_pieces.specs.Turning.{SameRuntime}
use Rattle.machine_pieces.proofs.Going.{sets_value}
use Rattle.machine_pieces.proofs.Places.{near_address, address_done}
use Rattle.machine_pieces.proofs.Turning.{turns_then}
use Rattle.machine_stubs.specs.Calls.{asked, CallsAreMade}
use Rattle.image_tables.specs.Functions.{operation_at as operation_byte}
use Rattle.raise_simulation.specs.Verdicts.{forced_by_table}
use Rattle.raise_simulation.specs.Opens.{activations}
use Rattle.raise_simulation.specs.Raises.{Lands, IsTerminated}
use Rattle.raise_simulation.specs.Resumes.{ForcedAgree}
use Rattle.machine_simulation.specs.Plan.{Plan, shape, routine, first_word, setting}
use Rattle.machine_simulation.specs.Matches.{RuntimeMatches}
use Rattle.machine_simulation.specs.Operations.{Matched}
use Rattle.machine_simulation.specs.Steps.{StepAt}
use Rattle.machine_simulation.proofs.Words.{operation_at}
use Rattle.machine_simulation.proofs.Matching.{Stands, stands_by}
use Rattle.machine_simulation.proofs.Quiet.{step_is}
use Rattle.machine_exceptions.proofs.Ecalls.{ecall_reached}
use Rattle.machine_raises.specs.Stacks.{IsRunning}
use Rattle.machine_raises.specs.Pads.{PadsArePlain, FiltersAreInts}
use Rattle.machine_raises.specs.Forced.{ForcedAsked, KeepsAll, ForcedRun}
use Rattle.machine_raises.proofs.OnStack.{OnStack}
use Rattle.machine_raises.proofs.AtCalls.{AtCall, call_at, when_asked, then_called}
use Rattle.machine_raises.proofs.Stacks.{top_opens, top_tail, top_are, top_unwound}
use Rattle.machine_raises.proofs.Passing.{forced_goes, forced_stops}
use Rattle.machine_raises.proofs.Selectors.{forced_zero, forced_selects}
use Rattle.machine_raises.proofs.Passing.{begins_terminating}
use Rattle.machine_raises.proofs.Resuming.{resume_is}
use Rattle.machine_raises.proofs.Entered.{EntersPad, Arrived, pad_entered_runs, compiled_lives}
use Rattle.machine_raises.proofs.Arriving.{LandsTo, lands_to}

-- 0 comes into a0
zero_loaded : (p : Plan) (n : ℕ) (st : LinearState) (w : abi.World) (back here s : ℕ) (k : ℤ) → Stands p n st w back → ForcedAsked p n st w s k → PieceAt w.hart.memory (setting p n).ground here (slot_loaded (shape p n) a0 s) →
    w.hart.pc ≡ address (setting p n).ground here → Computes (setting p n).ground here 1 0 w.hart 0
zero_loaded p n st w back here s k h asks code at =
    let m : State = w.hart in
    let field : ℕ = within (shape p n) s 0 in
    let zero : AddressAt m.memory (x m sp + slot_offset (shape p n) s) 0
    = subst (WordHolds (setting p n) m.memory (x m sp + slot_offset (shape p n) s)) asks.is (h.memory.top.holds.slots s asks.inside) in
    let place : add (x m sp) (imm12 field) ≡ x m sp + slot_offset (shape p n) s
    = ap (λ o. add (x m sp) (imm12 (immediate (pos o)))) (omega arith) ∙ near_address (x m sp) (slot_offset (shape p n) s) asks.near zero.below in
    sets_value (setting p n).ground here 0 (instruction (Ld 10 2 field)) m 0 code at h.registers (omega arith) (address_done 10 2 field (x m sp + slot_offset (shape p n) s) 0 m place zero)

forced_step : (p : Plan) (n s : ℕ) (k : ℤ) (st next : LinearState) → StepAt p st next n (resume s) → st.top.frame.slots s ≡ unwinding k → forced_above (code_of p.unit) k (st.top ∷ st.frames) st.world ≡ goes_to next
forced_step p n s k st next at is = sym (ap (λ y. resumed (code_of p.unit) y st.top st.frames st.world) is) ∙ sym (step_is p n st (resume s) at.runs at.there) ∙ at.step

pub unwinds_so : (image : Image) (y : abi.World) (k : ℤ) → argument y 10 ≡ 0 → y.unwinding ≡ Some k → resume_unwind image y ≡ unwinds image k y
unwinds_so image y k is on = ap (λ a. if a == 0 then needs y y.unwinding (λ n. unwinds image n y) else resume_object image y) is ∙ ap (λ o. needs y o (λ n. unwinds image n y)) on

-- ---- where the unwinder goes on to
module _ (p : Plan) (i : CleanImage) (a : Activation) (fs : List Activation) (v : World) (s : State) (running : IsRunning p i s) (h : OnStack p a fs v s) where
  pub forced_lands : ForcedAgree → (words : ℕ) (R : Plan → abi.World → Type 0) (st : LinearState) → EntersPad i a st words R → (st.top.function ≡ terminating → ⊥) → (w : abi.World) (k : ℤ) → forced_above (code_of p.unit) k (a ∷ fs) v ≡ goes_to st →
      PadsArePlain p → FiltersAreInts p → RuntimeMatches p fs v w → LandsTo (program_of i).image st words (R p) v w 0 0 0 (λ z. z ≡ pos 0) (unwinder.forced_unwind (program_of i).image.fdes s)
  forced_lands agree words R st enters live w k to plain ints runtime =
      let code = code_of p.unit in
      let fdes = (program_of i).image.fdes in
      let opens = top_opens p a fs v s h in
      let tail = top_tail p a fs v s h in
      let came : forced_above code k (activations opens ++ tail) v ≡ goes_to st = ap (λ xs. forced_above code k xs v) (top_are p a fs v s h) ∙ to in
      by (unwinder.forced_unwind fdes s) came (agree code (operation_byte p.unit) fdes k v s (x s sp) opens tail (top_unwound p i a fs v s running h))
    where
      next : Next
      next = forced_above (code_of p.unit) k (activations (top_opens p a fs v s h) ++ top_tail p a fs v s h) v

      by : (result : Raised × State) → next ≡ goes_to st →
          Lands (code_of p.unit) (operation_byte p.unit) (unwinding k) v s (x s sp) (top_opens p a fs v s h) (top_tail p a fs v s h) 0 0 next result
          ⊎ (IsTerminated v (top_opens p a fs v s h) (top_tail p a fs v s h) next × (result ≡ (Terminate, s))) ⊎ ((next ≡ finishes (by_program (exit k)) v) × (result ≡ (NoHandler, s))) →
          LandsTo (program_of i).image st words (R p) v w 0 0 0 (λ z. z ≡ pos 0) result
      by result came (inl lands) =
          let goes = forced_goes (code_of p.unit) k v in
          lands_to p i a fs v s running h words R st enters live (forced_by_table (code_of p.unit)) (λ xs. forced_above (code_of p.unit) k xs v) v w (unwinding k) 0 0 0 (λ z. z ≡ pos 0) result lands goes
          (forced_stops (code_of p.unit)) (forced_selects (code_of p.unit) k v goes) (forced_zero (code_of p.unit) k v goes) to plain ints refl refl (omega arith) runtime refl
      by result came (inr (inl (ends, is))) =
          absurd (live (begins_terminating v.installed.terminate_handler (record { function = ends.barring.function; place = 0; frame = ends.barring.frame } ∷ ends.outer) v st (sym ends.terminates ∙ came)))
      by result came (inr (inr (ends, is))) = absurd (let both : finishes (by_program (exit k)) v ≡ goes_to st = sym ends ∙ came in cc both)

-- ---- the step
-- at the call, with 0 for the object's address
pub forced_call : CallsAreMade → ForcedAgree → (pads : ℕ) (R : Plan → abi.World → Type 0) (i : CleanImage) (p : Plan) (k : ℤ) (st next : LinearState) (w : abi.World) (behind : State) → EntersPad i st.top next pads R → (next.top.function ≡ terminating → ⊥) →
    AtCall p i 9 st.top st.frames st.world w behind → x behind a0 ≡ 0 → w.unwinding ≡ Some k → forced_above (code_of p.unit) k (st.top ∷ st.frames) st.world ≡ goes_to next → PadsArePlain p → FiltersAreInts p →
    (next.world ≡ st.world) × Matched (program_of i).image (1 + pads) w [] (λ u. R p u × KeepsAll w u)
forced_call made agree pads R i p k st next w behind enters alive c zero on unwinds plains ints =
    let image : Image = (program_of i).image in
    let v : World = st.world in
    let y : abi.World = asked behind w in
    let r = when_asked p st.frames v behind w c.runtime in
    let lands = forced_lands p i st.top st.frames v behind c.running c.on agree pads R next enters alive y k unwinds plains ints r in
    let to : abi.World = at_pad 0 (pos 0) (at_hart lands.after y) in
    let effect : (wish : ℕ) → call_effect 9 image wish y ≡ abi.goes to = λ wish. resume_is image wish y ∙ unwinds_so image y k zero on ∙ ap (forced_as image.places k y) lands.installs in
    let called = made.goes_on image 9 w to behind c.calls c.asks effect refl in
    let ran : Matched image pads (counted to) [] (λ u. R p u × SameRuntime y u) = subst (λ z. Matched image pads (counted (at_pad 0 z (at_hart lands.after y))) [] (λ u. R p u × SameRuntime y u)) lands.chosen lands.ran in (
      lands.world,
      record {
        turns = 1 + ran.turns;
        few = omega (arith, ran.few);
        some = λ some. omega arith;
        after = ran.after;
        runs = turns_then image 1 ran.turns w (counted to) ran.after [] [] called ran.runs;
        holds = (ran.holds.0, record { exceptions = ran.holds.1.exceptions; unwinding = ran.holds.1.unwinding });
      },
    )

pub forced_runs : CallsAreTurns → CallsAreMade → ForcedAgree → (pads : ℕ) (R : Plan → abi.World → Type 0) (i : CleanImage) (p : Plan) (n s : ℕ) (k : ℤ) (st next : LinearState) (w : abi.World) (back : ℕ) → EntersPad i st.top next pads R →
    (next.top.function ≡ terminating → ⊥) → Stands p n st w back → IsRunning p i w.hart → StepAt p st next n (resume s) → ForcedAsked p n st w s k → PadsArePlain p → FiltersAreInts p →
    (next.world ≡ st.world) × Matched (program_of i).image (length (linear_code (shape p n) (resume s)) + pads) w [] (λ u. R p u × KeepsAll w u)
forced_runs turns made agree pads R i p n s k st next w back enters alive h running at asks plains ints =
    let image : Image = (program_of i).image in
    let g : Ground = (setting p n).ground in
    let here : ℕ = first_word p n + op_word (routine p n) st.top.place in
    let code : ℕ = length (linear_code (shape p n) (resume s)) in
    let own = operation_at p w.hart.memory n st.top.place (resume s) h.memory.unit h.memory.top.known at.there in
    let first = zero_loaded p n st w back here s k h asks own.code.0 h.pc in
    let ec = ecall_reached turns image g here 1 0 9 w first.goes (omega arith) own.code.1 in
    let c = call_at i image p n st w back g here 1 9 first.goes.after h running ec (record { operation = resume s; there = at.there; word = 2; inside = omega arith; is = ec.pc ∙ omega arith }) in
    let went = forced_call made agree pads R i p k st next ec.at ec.behind enters alive c (ec.kept a0 (λ b. absurd (omega (arith, b))) ∙ first.is) (ec.runtime.unwinding ∙ asks.on) (forced_step p n s k st next at asks.is) plains ints in
    let ran = went.1 in
    let kept : Matched image (1 + pads) ec.at [] (λ u. R p u × KeepsAll w u) = record {
      turns = ran.turns;
      few = ran.few;
      some = ran.some;
      after = ran.after;
      runs = ran.runs;
      holds = (ran.holds.0, record { exceptions = ran.holds.1.exceptions ∙ ec.runtime.exceptions; unwinding = ran.holds.1.unwinding ∙ ec.runtime.unwinding });
    } in
    (went.0, then_called image g here 1 9 pads code w first.goes.after (λ u. R p u × KeepsAll w u) ec (omega arith) kept)

pub forced_run : CallsAreTurns → CallsAreMade → ForcedAgree → ForcedRun
forced_run turns made agree i p n m s k st next w h running at asks plains ints callee =
    let all = forced_runs turns made agree 2 (Arrived next) i p n s k st next w h.back (pad_entered_runs i st.top next m callee) (compiled_lives next m callee) (stands_by p n st w h at.runs) running at asks plains ints in
    (ap (λ (u : World). u.items) all.0 ∙ sym (append-nil st.world.items), all.1)
