-- The ABI machine: one step, and a run of at most so many steps.
use Rattle.std.specs.Prelude.{ℕ, zero, suc, ◌+◌, ◌≡◌, List, [], ◌++◌}
use Rattle.run_items.specs.declared.item.Item.{Item}
use Rattle.rv64_isa.specs.declared.step.Step.{Step}
use Rattle.rv64_isa.specs.declared.step.Step.TheVariants as steps
use Rattle.rv64_isa.specs.State.{State, reg_of}
use Rattle.rv64_isa.specs.Step.{step_of}
use Rattle.cxa_runtime.specs.declared.effect.Effect.TheVariants.{Goes, Exits, Aborts, Overflows, Fails}
use Rattle.cxa_runtime.specs.declared.effect.End.{End}
use Rattle.cxa_runtime.specs.declared.effect.End.TheVariants as end_kinds
use Rattle.cxa_runtime.specs.declared.effect.Turn.{Turn}
use Rattle.cxa_runtime.specs.declared.effect.Turn.TheVariants.{On, Ended}
use Rattle.cxa_runtime.specs.World.{World, Outcome, at_hart, a7}
use Rattle.cxa_runtime.specs.Raising.{Image}
use Rattle.cxa_runtime.specs.Call.{call_effect}

-- what a step answers, and the state behind it
abbrev pub Turned : Type 0
Turned = Turn × World

abbrev pub counted : World → World
counted w = record w { count = w.count + 1 }

-- a runtime call counts as one step; one that can't be done does not count, and what it showed stays
abbrev pub called : ℕ → Outcome → Turned
called place (Goes, w) = (On, counted w)
called place (Exits n, w) = (Ended (end_kinds.Exit n), counted w)
called place (Aborts, w) = (Ended end_kinds.Aborted, counted w)
called place (Overflows, w) = (Ended end_kinds.Stack, counted w)
called place (Fails kind, w) = (Ended (end_kinds.Fault kind place), w)

-- one instruction, or one runtime call, which is reported at its ECALL where it can't be done
abbrev pub stepped : Image → ℕ → World → Step × State → Turned
stepped image wish w (steps.Done, s) = (On, counted (at_hart s w))
stepped image wish w (steps.Ecall, s) = called w.hart.pc (call_effect (reg_of s.regs a7) image wish (at_hart s w))
stepped image wish w (steps.Fault kind, s) = (Ended (end_kinds.Fault kind w.hart.pc), at_hart s w)

-- one step of the machine, which has shown nothing before
unfoldable pub turn : Image → ℕ → World → Turned
turn image wish w = stepped image wish (record w { shown = [] }) (step_of w.hart)

-- what a run has shown, how it ended, and what there was then
pub record Ran : Type 0 where
  pub items : List Item
  pub end : End
  pub world : World

-- after a step comes the rest of the run, unless that was its end
abbrev pub and_more : (World → Ran) → Turned → Ran
and_more more (On, w) = record (more w) { items = w.shown ++ (more w).items }
and_more more (Ended end, w) = record { items = w.shown; end = end; world = w }

-- A run of at most so many steps. `pick` gives for each number of an exception the slot that it is to have. Numbers are never given
-- again, so every choice of vacant slots in a run is that of some `pick`.
unfoldable pub run : Image → (ℕ → ℕ) → ℕ → World → Ran
run image pick zero w = record { items = []; end = end_kinds.Budget; world = w }
run image pick (suc n) w = and_more (run image pick n) (turn image (pick (w.last_number + 1)) w)

-- the machine as a relation: some choice of vacant slots gives this run
abbrev pub Runs : Image → ℕ → World → Ran → Type 0
Runs image n w r = (pick : ℕ → ℕ) × (run image pick n w ≡ r)
