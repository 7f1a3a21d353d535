-- A forced unwind that comes to no landing pad: the runtime call, and what tells its ends apart.
use Rattle.std.proofs.Common.{◌≡◌, ◌∙◌, refl, sym, ap, arith, ℕ, suc, ◌+◌, ◌-◌, ◌≤◌, ◌==◌, Bool, true, false, ℤ, List, [], ◌++◌, append-nil, Option, Some}
use Rattle.std.specs.Prelude.{if◌then◌else◌}
use Rattle.meaning_forms.specs.Outcome.{exit, aborted}
use Rattle.run_items.specs.declared.item.Item.{Item}
use Rattle.rv64_isa.specs.declared.step.Step.TheVariants.{Ecall}
use Rattle.rv64_isa.specs.State as hart
use Rattle.rv64_isa.specs.Step.{step_of, x}
use Rattle.cxa_runtime.specs.declared.effect.End as machine
use Rattle.cxa_runtime.specs.declared.effect.End.TheVariants.{Exit}
use Rattle.cxa_runtime.specs.declared.effect.Turn.TheVariants.{Ended}
use Rattle.cxa_runtime.specs.World as abi
use Rattle.cxa_runtime.specs.World.{a0, argument, needs}
use Rattle.cxa_runtime.specs.Raising.{Image}
use Rattle.cxa_runtime.specs.Cancel.{unwinds}
use Rattle.cxa_runtime.specs.Throw.{resume_object, resume_unwind}
use Rattle.cxa_runtime.specs.Call.{call_effect}
use Rattle.cxa_runtime.specs.Run.{Ran, called, counted, turn, and_more, run}
use Rattle.region_forms.specs.World.{World}
use Rattle.linear_forms.specs.Activation.{Activation, State, goes_to, finishes, by_program, terminated}
use Rattle.machine_forms.specs.Registers.{a7}
use Rattle.machine_pieces.specs.Turning.{with_items, Turns}
use Rattle.machine_stubs.specs.Calls.{asked, CallsAreMade}
use Rattle.flight_homes.specs.Nest.{waits_terminate}
use Rattle.flight_homes.specs.OpenCalls.{CallsStand}
use Rattle.raise_ends.specs.Ends.{RunEnds}
use Rattle.raise_ends.proofs.Steps.{first_step}

-- ---- the runtime call

pub unwinds_so : (image : Image) (y : abi.World) (k : ℤ) → argument y 10 ≡ 0 → y.unwinding ≡ Some k → resume_unwind image y ≡ unwinds image k y
unwinds_so image y k is on = ap (λ a. if a == 0 then needs y y.unwinding (λ n. unwinds image n y) else resume_object image y) is ∙ ap (λ o. needs y o (λ n. unwinds image n y)) on

-- behind turns that show items
pub ends_behind : (image : Image) (pick : ℕ → ℕ) (j n : ℕ) (w v : abi.World) (items : List Item) (end : machine.End) → Turns image n w v items → n ≤ j → RunEnds image pick (j - n) v [] end → RunEnds image pick j w items end
ends_behind image pick j n w v items end runs few rest =
    let whole : n + (j - n) ≡ j = omega (arith, few) in
    let same : run image pick j w ≡ with_items items (run image pick (j - n) v) = ap (λ m. run image pick m w) (sym whole) ∙ runs.run pick (j - n) in
    (ap (λ (r : Ran). r.items) same ∙ ap (λ is. items ++ is) rest.0 ∙ append-nil items, ap (λ (r : Ran). r.end) same ∙ rest.1)

pub exit_turn : CallsAreMade → (image : Image) (pick : ℕ → ℕ) (number : ℕ) (k : ℤ) (w to : abi.World) (behind : hart.State) → step_of w.hart ≡ (Ecall, behind) → x behind a7 ≡ number →
    call_effect number image (pick (w.last_number + 1)) (asked behind w) ≡ abi.exits k to → (j : ℕ) → RunEnds image pick (suc j) w to.shown (Exit k)
unfolding run
exit_turn made image pick number k w to behind calls asks effect j =
    let one : turn image (pick (w.last_number + 1)) w ≡ (Ended (Exit k), counted to) = made.made image (pick (w.last_number + 1)) number w behind calls asks ∙ ap (called w.hart.pc) effect in
    let all = ap (and_more (run image pick j)) one in
    (ap (λ (r : Ran). r.items) all, ap (λ (r : Ran). r.end) all)

-- ---- the kinds of ends tell each other apart

pub no_exit : (h : Option ℕ) (fs : List Activation) (v u : World) (z : ℤ) → terminated h fs v ≡ finishes (by_program (exit z)) u → ⊥
no_exit h fs v u z = by v.ending
  where
    by : (b : Bool) → first_step h fs v b ≡ finishes (by_program (exit z)) u → ⊥
    by true e = cc e
    by false e = cc e

pub one_exit : (k z : ℤ) (v u : World) → finishes (by_program (exit k)) v ≡ finishes (by_program (exit z)) u → (z ≡ k) × (u ≡ v)
one_exit k z v u e = (cc e, cc e)

pub not_both : (k : ℤ) (v : World) (next : State) → finishes (by_program (exit k)) v ≡ goes_to next → ⊥
not_both k v next e = cc e

pub no_abort : (k : ℤ) (v u : World) → finishes (by_program (exit k)) v ≡ finishes (by_program aborted) u → ⊥
no_abort k v u e = cc e

pub quiet_of : (h : Option ℕ) (fs : List Activation) (v : World) (next : State) → terminated h fs v ≡ goes_to next → v.ending ≡ false
quiet_of h fs v next = by v.ending refl
  where
    by : (b : Bool) → v.ending ≡ b → first_step h fs v b ≡ goes_to next → v.ending ≡ false
    by true is e = absurd (cc e)
    by false is e = is

pub running_of : (h : Option ℕ) (fs : List Activation) (v u : World) → terminated h fs v ≡ finishes (by_program aborted) u → (v.ending ≡ true) × (u ≡ v)
running_of h fs v u = by v.ending refl
  where
    by : (b : Bool) → v.ending ≡ b → first_step h fs v b ≡ finishes (by_program aborted) u → (v.ending ≡ true) × (u ≡ v)
    by true is e = (is, cc e)
    by false is e = absurd (cc e)

pub none_waits : (st : State) → CallsStand st → st.world.ending ≡ false → waits_terminate st.frames ≡ false
none_waits st stand quiet = by (waits_terminate st.frames) refl
  where
    by : (b : Bool) → waits_terminate st.frames ≡ b → waits_terminate st.frames ≡ false
    by false is = is
    by true is = absurd (let both : true ≡ false = sym (stand.waits is) ∙ quiet in cc both)
