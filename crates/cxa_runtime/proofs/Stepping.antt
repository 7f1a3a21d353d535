-- A step of the machine, by what the hart did.
use Rattle.std.proofs.Common.{◌≡◌, ap, sym, ℕ, [], Some, None}
use Rattle.rv64_isa.specs.declared.step.Step.TheVariants as steps
use Rattle.rv64_isa.specs.declared.step.FaultKind.{FaultKind}
use Rattle.rv64_isa.specs.State.{State, reg_of}
use Rattle.rv64_isa.specs.Step.{step_of}
use Rattle.run_items.specs.declared.item.Item.{Item}
use Rattle.run_items.specs.Line.{lines_of}
use Rattle.run_items.specs.Output.{TakesAll}
use Rattle.eh_outer.specs.Sink.{SinkView}
use Rattle.std.proofs.Common.{Bool, List}
use Rattle.cxa_runtime.specs.declared.call.Call.{Call}
use Rattle.cxa_runtime.specs.declared.effect.End.TheVariants as end_kinds
use Rattle.cxa_runtime.specs.declared.effect.Turn.{Turn}
use Rattle.cxa_runtime.specs.declared.effect.Turn.TheVariants.{On, Ended}
use Rattle.cxa_runtime.specs.World.{World, at_hart, needs, refused}
use Rattle.cxa_runtime.specs.Raising.{Image}
use Rattle.cxa_runtime.specs.Call.{call_effect, made_call, numbered}
use Rattle.cxa_runtime.specs.Run.{called, counted, stepped, turn}
use Rattle.cxa_runtime.specs.Turns.{IsOwn, Writes}

pub effect_none : (n : ℕ) (image : Image) (wish : ℕ) (w : World) → numbered n ≡ None → refused w ≡ call_effect n image wish w
unfolding call_effect
effect_none n image wish w h = ap (λ o. needs w o (made_call image wish w)) (sym h)

pub effect_some : (n : ℕ) (image : Image) (wish : ℕ) (w : World) (call : Call) → numbered n ≡ Some call → made_call image wish w call ≡ call_effect n image wish w
unfolding call_effect
effect_some n image wish w call h = ap (λ o. needs w o (made_call image wish w)) (sym h)

abbrev pub cleared : World → World
cleared w = record w { shown = [] }

pub turn_done : (image : Image) (wish : ℕ) (w : World) (s : State) → (steps.Done, s) ≡ step_of w.hart → (On, counted (at_hart s (cleared w))) ≡ turn image wish w
unfolding turn
turn_done image wish w s h = ap (stepped image wish (cleared w)) h

pub turn_fault : (image : Image) (wish : ℕ) (w : World) (s : State) (kind : FaultKind) → (steps.Fault kind, s) ≡ step_of w.hart → (Ended (end_kinds.Fault kind w.hart.pc), at_hart s (cleared w)) ≡ turn image wish w
unfolding turn
turn_fault image wish w s kind h = ap (stepped image wish (cleared w)) h

pub turn_call : (image : Image) (wish : ℕ) (w : World) (s : State) → (steps.Ecall, s) ≡ step_of w.hart →
    called w.hart.pc (call_effect (reg_of s.regs 17) image wish (at_hart s (cleared w))) ≡ turn image wish w
unfolding turn
turn_call image wish w s h = ap (stepped image wish (cleared w)) h

-- what was taken is written
pub written : (trace : Bool) (shown : List Item) (old new : SinkView) (answer : Turn) → IsOwn answer → TakesAll (lines_of trace shown) old new → Writes trace shown old new answer
written trace shown old new On own h = h
written trace shown old new (Ended end_kinds.WriteFault) own h = absurd own
written trace shown old new (Ended (end_kinds.Exit n)) own h = h
written trace shown old new (Ended end_kinds.Aborted) own h = h
written trace shown old new (Ended end_kinds.Budget) own h = h
written trace shown old new (Ended end_kinds.Stack) own h = h
written trace shown old new (Ended (end_kinds.Fault kind place)) own h = h
