-- What a turn and a run make of the foreign exceptions that are live, and show of them.
use Rattle.std.proofs.Common.{◌≡◌, ◌∙◌, refl, ap, ℕ, zero, suc, ◌+◌, [], ◌∷◌, length, replicate, Option, None, arith}
use Rattle.std.proofs.lemmas.List.Sums.{sum_by-cons}
use Rattle.rv64_isa.specs.declared.step.Step.{Step}
use Rattle.rv64_isa.specs.declared.step.Step.TheVariants as steps
use Rattle.rv64_isa.specs.State.{State, reg_of}
use Rattle.rv64_isa.specs.Step.{step_of}
use Rattle.caught_stack.specs.declared.header.Header.{Header}
use Rattle.caught_stack.specs.Live.{slots, all_vacant}
use Rattle.cxa_runtime.specs.declared.effect.Effect.TheVariants.{Goes, Exits, Aborts, Overflows, Fails}
use Rattle.cxa_runtime.specs.declared.effect.Turn.TheVariants.{On, Ended as EndedTurn}
use Rattle.cxa_runtime.specs.Laws.{slot_counts, live_of, raised_of, cleaned_of, TurnsBalance, RunsBalance}
use Rattle.cxa_runtime.specs.Raising.{Image}
use Rattle.cxa_runtime.specs.Run.{Ran, Turned, and_more, called, run, stepped, turn}
use Rattle.cxa_runtime.specs.World.{World, Outcome, begins}
use Rattle.cxa_runtime.proofs.ForeignCounts.{EndsFit, Fits, cleaned_both, raised_both}
use Rattle.cxa_runtime.proofs.ForeignCalls.{fits_effect}

-- a step
abbrev TurnFits : (k token x : ℕ) → Turned → Type 0
TurnFits k token x t = Fits k token x t.1.exceptions.live t.1.shown

fits_called : (k token x place : ℕ) (o : Outcome) → EndsFit k token x o → TurnFits k token x (called place o)
fits_called k token x place (Goes, w) f = f
fits_called k token x place (Exits n, w) f = f
fits_called k token x place (Aborts, w) f = f
fits_called k token x place (Overflows, w) f = f
fits_called k token x place (Fails kind, w) f = f

fits_stepped : (k token x : ℕ) (image : Image) (wish : ℕ) (w : World) (step : Step × State) → EndsFit k token x (Goes, w) →
    TurnFits k token x (stepped image wish w step)
fits_stepped k token x image wish w (steps.Done, s) f = f
fits_stepped k token x image wish w (steps.Ecall, s) f =
    fits_called k token x w.hart.pc _ (fits_effect k token x (reg_of s.regs 17) image wish (record w { hart = s }) f)
fits_stepped k token x image wish w (steps.Fault kind, s) f = f

turn_fits : (k token : ℕ) (image : Image) (wish : ℕ) (w : World) → length w.exceptions.live ≡ slots →
    TurnFits k token (live_of k token w.exceptions.live) (turn image wish w)
unfolding turn
turn_fits k token image wish w long =
    fits_stepped k token (live_of k token w.exceptions.live) image wish (record w { shown = [] }) (step_of w.hart) (long, refl)

pub turns_balance : TurnsBalance
turns_balance image wish k token w long = (turn_fits k token image wish w long).1

-- a run
abbrev RanFits : (k token x : ℕ) → Ran → Type 0
RanFits k token x r = live_of k token r.world.exceptions.live + cleaned_of k token r.items ≡ x + raised_of k token r.items

after_turn : (k token x : ℕ) (more : World → Ran) (t : Turned) → TurnFits k token x t →
    ((w : World) → length w.exceptions.live ≡ slots → RanFits k token (live_of k token w.exceptions.live) (more w)) → RanFits k token x (and_more more t)
after_turn k token x more (On, w) f rest =
    let behind = rest w f.0 in
    let here = f.1 in
    let raised = raised_both k token w.shown (more w).items in
    let cleaned = cleaned_both k token w.shown (more w).items in
    omega arith
after_turn k token x more (EndedTurn end, w) f rest = f.1

run_fits : (k token : ℕ) (image : Image) (pick : ℕ → ℕ) (n : ℕ) (w : World) → length w.exceptions.live ≡ slots →
    RanFits k token (live_of k token w.exceptions.live) (run image pick n w)
unfolding run
run_fits k token image pick zero w long = refl
run_fits k token image pick (suc n) w long =
    after_turn k token (live_of k token w.exceptions.live) (run image pick n) (turn image (pick (w.last_number + 1)) w)
    (turn_fits k token image (pick (w.last_number + 1)) w long) (λ v. run_fits k token image pick n v)

none_live : (k token n : ℕ) → live_of k token (replicate n None) ≡ 0
none_live k token zero = refl
none_live k token (suc n) =
    let first : live_of k token (None ∷ replicate n None) ≡ 0 + live_of k token (replicate n None) = sum_by-cons (slot_counts k token) None (replicate n None) in
    let rest = none_live k token n in
    omega arith

all_slots : (n : ℕ) → length (replicate {A = Option Header} n None) ≡ n
all_slots zero = refl
all_slots (suc n) = ap suc (all_slots n)

none_at_first : (k token : ℕ) → live_of k token all_vacant ≡ 0
unfolding all_vacant
none_at_first k token = none_live k token slots

slots_at_first : length all_vacant ≡ slots
unfolding all_vacant
slots_at_first = all_slots slots

pub runs_balance : RunsBalance
runs_balance image pick n k token s input replies =
    let ran = run_fits k token image pick n (begins s input replies) slots_at_first in
    let none : live_of k token (begins s input replies).exceptions.live ≡ 0 = none_at_first k token in
    omega arith
