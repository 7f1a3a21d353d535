-- A forced unwind comes to the end of the stack on both machines.
use Rattle.std.proofs.Common.{◌≡◌, ◌∙◌, sym, ap, subst, arith, ℕ, suc, ◌+◌, ◌-◌, Bool, true, false, ℤ, List, [], ◌∷◌, length, Option, inl, inr}
use Rattle.std.specs.Prelude.{◌⊎◌}
use Rattle.meaning_forms.specs.Outcome.{exit}
use Rattle.rv64_isa.specs.declared.step.Step.TheVariants.{Ecall}
use Rattle.rv64_isa.specs.State.{State}
use Rattle.rv64_isa.specs.Step.{step_of, x}
use Rattle.elf_image.specs.Clean.{CleanImage}
use Rattle.raise_core.specs.declared.raised.Raised.TheVariants.{Terminate, NoHandler}
use Rattle.raise_core.specs.Raise as unwinder
use Rattle.cxa_runtime.specs.declared.effect.End.TheVariants.{Exit}
use Rattle.cxa_runtime.specs.declared.effect.Turn.TheVariants.{Ended}
use Rattle.cxa_runtime.specs.World as abi
use Rattle.cxa_runtime.specs.Raising.{Image}
use Rattle.cxa_runtime.specs.Cancel.{forced_as}
use Rattle.cxa_runtime.specs.Call.{call_effect}
use Rattle.cxa_runtime.specs.Run.{Ran, called, counted, turn, and_more, run}
use Rattle.eh_run.specs.Program.{program_of}
use Rattle.region_forms.specs.World.{World}
use Rattle.linear_forms.specs.Activation.{Activation, State as LinearState, finishes, by_program, terminated}
use Rattle.linear_forms.specs.Forced.{forced_above}
use Rattle.linear_forms.specs.UnitRun.{code_of}
use Rattle.machine_forms.specs.Registers.{a7}
use Rattle.machine_forms.specs.LinearCode.{linear_code}
use Rattle.machine_pieces.specs.Laws.{CallsAreTurns, ValuesAreComputed}
use Rattle.machine_stubs.specs.Calls.{asked, CallsAreMade}
use Rattle.raise_simulation.specs.Resumes.{ForcedAgree}
use Rattle.machine_simulation.specs.Plan.{Plan, shape}
use Rattle.machine_simulation.proofs.Matching.{Stands, stands_by}
use Rattle.machine_raises.specs.Stacks.{IsRunning, InCall}
use Rattle.machine_raises.proofs.AtCalls.{running_still}
use Rattle.raise_ends.specs.Ends.{RunEnds}
use Rattle.raise_ends.specs.Exits.{ForcedUnwindsExit}
use Rattle.raise_ends.proofs.Comes.{ends_later}
use Rattle.raise_ends.proofs.Steps.{first_step}
use Rattle.raise_ends.proofs.Unwinding.{UnwindAsked, unwind_step, unwind_asked}
use Rattle.raise_ends.proofs.Barring.{pad_no_end, IsBarred, EntersPad, unwound}

-- ---- the unwinder's answer, from where the operation calls it

pub unwound_here : ForcedAgree → (i : CleanImage) (p : Plan) (n : ℕ) (k : ℤ) (st : LinearState) (w : abi.World) (back words : ℕ) → Stands p n st w back → IsRunning p i w.hart → (c : UnwindAsked i p n k st w back words) →
    let next = forced_above (code_of p.unit) k (st.top ∷ st.frames) st.world in let result = unwinder.forced_unwind (program_of i).image.fdes c.call.behind in
    EntersPad (code_of p.unit) st.world next ⊎ (IsBarred st.world next × (result ≡ (Terminate, c.call.behind))) ⊎ ((next ≡ finishes (by_program (exit k)) st.world) × (result ≡ (NoHandler, c.call.behind)))
unwound_here agree i p n k st w back words h running c =
    let there = running_still p i w.hart c.call.behind c.call.memory_is running in
    let incall : InCall p n back st.top st.frames st.world c.call.behind = record { runs = h.runs; registers = c.call.registers; goes_on = c.goes_on; memory = c.call.memory; kept = c.call.variables } in
    unwound p i n back st.top st.frames st.world c.call.behind there incall agree k

-- ---- ends that are not alike

-- terminate doesn't exit
no_exit : (h : Option ℕ) (fs : List Activation) (v u : World) (z : ℤ) → terminated h fs v ≡ finishes (by_program (exit z)) u → ⊥
no_exit h fs v u z = by v.ending
  where
    by : (b : Bool) → first_step h fs v b ≡ finishes (by_program (exit z)) u → ⊥
    by true e = cc e
    by false e = cc e

-- an exit has one number and one world
one_exit : (k z : ℤ) (v u : World) → finishes (by_program (exit k)) v ≡ finishes (by_program (exit z)) u → (z ≡ k) × (u ≡ v)
one_exit k z v u e = (cc e, cc e)

-- ---- the run exits

exit_turn : CallsAreMade → (image : Image) (pick : ℕ → ℕ) (number : ℕ) (k : ℤ) (w to : abi.World) (behind : State) → step_of w.hart ≡ (Ecall, behind) → x behind a7 ≡ number →
    call_effect number image (pick (w.last_number + 1)) (asked behind w) ≡ abi.exits k to → (j : ℕ) → RunEnds image pick (suc j) w to.shown (Exit k)
unfolding run
exit_turn made image pick number k w to behind calls asks effect j =
    let one : turn image (pick (w.last_number + 1)) w ≡ (Ended (Exit k), counted to) = made.made image (pick (w.last_number + 1)) number w behind calls asks ∙ ap (called w.hart.pc) effect in
    let all = ap (and_more (run image pick j)) one in
    (ap (λ (r : Ran). r.items) all, ap (λ (r : Ran). r.end) all)

pub forced_unwinds_exit : CallsAreTurns → CallsAreMade → ValuesAreComputed → ForcedAgree → ForcedUnwindsExit
forced_unwinds_exit turns made values agree i pick j p n k z st v w h running at ends many = by (unwound_here agree i p n k st w h.back words stood running c)
  where
    image : Image
    image = (program_of i).image

    words : ℕ
    words = length (linear_code (shape p n) at.operation)

    stood : Stands p n st w h.back
    stood = stands_by p n st w h at.runs

    c : UnwindAsked i p n k st w h.back words
    c = unwind_asked turns values i p n k st w h.back stood at

    came : forced_above (code_of p.unit) k (st.top ∷ st.frames) st.world ≡ finishes (by_program (exit z)) v
    came = sym (unwind_step p n k st w at) ∙ ends

    by : (let next = forced_above (code_of p.unit) k (st.top ∷ st.frames) st.world in let result = unwinder.forced_unwind image.fdes c.call.behind in
        EntersPad (code_of p.unit) st.world next ⊎ (IsBarred st.world next × (result ≡ (Terminate, c.call.behind))) ⊎ ((next ≡ finishes (by_program (exit k)) st.world) × (result ≡ (NoHandler, c.call.behind)))) →
        (z ≡ k) × (v ≡ st.world) × RunEnds image pick j w [] (Exit k)
    by (inl pad) = absurd (pad_no_end _ pad.word pad.selector pad.activation.function pad.pad pad.activation.frame pad.rest st.world (exit z) v (sym pad.enters ∙ came))
    by (inr (inl (barred, is))) = absurd (no_exit st.world.installed.terminate_handler _ st.world v z (sym barred.terminates ∙ came))
    by (inr (inr (out, is))) =
        let same = one_exit k z st.world v (sym out ∙ came) in
        let left : ℕ = j - c.call.turns - 1 in
        let more = c.more in
        let count : suc left ≡ j - c.call.turns = omega (arith, many, more) in
        let effect : call_effect c.number image (pick (c.call.at.last_number + 1)) (asked c.call.behind c.call.at) ≡ abi.exits k c.to = c.effect (pick (c.call.at.last_number + 1)) ∙ ap (forced_as image.places k c.to) is in
        let last = exit_turn made image pick c.number k c.call.at c.to c.call.behind c.call.calls c.call.asks effect left in
        let ended : RunEnds image pick (j - c.call.turns) c.call.at [] (Exit k) = subst (λ l. RunEnds image pick l c.call.at [] (Exit k)) count (last.0 ∙ c.shown, last.1) in
        (same.0, same.1, ends_later image pick j c.call.turns w c.call.at [] (Exit k) c.call.runs (omega (arith, many, more)) ended)
