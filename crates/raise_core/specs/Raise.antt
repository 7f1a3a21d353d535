-- The two phases (Itanium C++ ABI: Exception Handling, level I, "Throwing an Exception" and "Forced unwinding"): the search for a target, and where control enters.
use Rattle.std.specs.Prelude.{ℕ, zero, suc, ℤ, pos, ◌+◌, Bool, List, slice_index, Option, Some, None, if◌then◌else◌}
use Rattle.table_forms.specs.declared.found.Verdict.{Verdict}
use Rattle.table_forms.specs.declared.found.Verdict.TheVariants as verdicts
use Rattle.table_forms.specs.Fde.{Fde}
use Rattle.table_forms.specs.Verdict.{Thrown, forced}
use Rattle.rv64_isa.specs.State.{State, with_reg}
use Rattle.rv64_isa.specs.declared.step.FaultKind.TheVariants as faults
use Rattle.frame_walk.specs.declared.frame.Frame.{Frame}
use Rattle.raise_core.specs.declared.raised.Raised.{Raised}
use Rattle.raise_core.specs.declared.raised.Raised.TheVariants as answers
use Rattle.raise_core.specs.declared.asked.Target.{Target}
use Rattle.raise_core.specs.declared.goal.Goal.TheVariants as goals
use Rattle.raise_core.specs.Stack.{Ending, end_of_stack, broken, frames}
use Rattle.raise_core.specs.Asked.{verdict_of, target_at}
use Rattle.raise_core.specs.First.{is_at, first_of}

-- so many registers from one on get the values of a list
unfoldable pub with_registers : ℕ → ℕ → List ℕ → List ℕ → List ℕ
with_registers n zero values regs = regs
with_registers n (suc k) values regs = with_registers (n + 1) k values (with_reg regs n (slice_index values n))

-- _Unwind_SetIP and the registers of a frame: x1 to x31 become those of the frame, and x0 stays 0
abbrev pub installed : Frame → ℕ → State → State
installed f pad s = record { pc = pad; regs = with_registers 0 32 f.regs s.regs; memory = s.memory }

-- what a call answers, and the state after it
abbrev pub Outcome : Type 0
Outcome = Raised × State

-- the stack can't be walked to the target, or the target has no pad any more
abbrev pub lost : State → Outcome
lost s = (answers.Fault faults.Walk, s)

-- _URC_INSTALL_CONTEXT: control enters a frame at its pad, with the target's canonical frame address and table
abbrev pub installs : State → Frame → Target → ℕ → ℤ → Outcome
installs s f target pad selector = (answers.Install pad selector target.cfa target.lsda, installed f pad s)

-- by the frame's verdict; a cleanup's selector is 0
abbrev pub enters : State → Frame → Target → Verdict → Outcome
enters s f target (verdicts.Cleanup pad) = installs s f target pad (pos 0)
enters s f target (verdicts.Handler pad selector) = installs s f target pad selector
enters s f target (verdicts.Spec pad selector) = installs s f target pad selector
enters s f target _ = lost s

-- a frame that ends the program is not entered, and nothing changes
abbrev pub stops_at : State → Frame → Target → Verdict → Outcome
stops_at s f target verdicts.Terminate = (answers.Terminate, s)
stops_at s f target v = enters s f target v

-- _URC_END_OF_STACK, or the stack can't be walked to its end; nothing changes
abbrev pub ended : Ending → State → Outcome
ended end_of_stack s = (answers.NoHandler, s)
ended (broken kind) s = (answers.Fault kind, s)

-- phase two: the first frame with a pad, which is the target where no frame before it has a cleanup
abbrev pub entered_by : State → List Fde → Thrown → Target → Option Frame → Outcome
entered_by s fdes thrown target None = lost s
entered_by s fdes thrown target (Some f) = enters s f target (verdict_of s fdes thrown f)

abbrev pub entered : State → List Fde → Thrown → Option Target → Outcome
entered s fdes thrown None = lost s
entered s fdes thrown (Some target) = entered_by s fdes thrown target (first_of s fdes thrown goals.Pad)

abbrev pub towards : State → List Fde → Thrown → Frame → Verdict → Outcome
towards s fdes thrown f verdicts.Terminate = (answers.Terminate, s)
towards s fdes thrown f _ = entered s fdes thrown (target_at fdes f)

abbrev pub raised_to : State → List Fde → Thrown → Option Frame → Outcome
raised_to s fdes thrown None = ended (frames s fdes).ending s
raised_to s fdes thrown (Some f) = towards s fdes thrown f (verdict_of s fdes thrown f)

-- _Unwind_RaiseException: the search for a target, and phase two up to the first frame that control enters
unfoldable pub raise : List Fde → Thrown → State → Outcome
raise fdes thrown s = raised_to s fdes thrown (first_of s fdes thrown goals.Target)

-- the target of a raise that goes on: a handler or a specification, or the end of the program
abbrev pub arrives : State → Frame → Target → Verdict → Outcome
arrives s f target (verdicts.Cleanup pad) = lost s
arrives s f target v = stops_at s f target v

-- the target that a raise was given, whose table is not asked for again
abbrev pub at_cfa : ℕ → Target
at_cfa cfa = record { cfa = cfa; lsda = 0 }

abbrev pub goes_on : State → Frame → Bool → Target → Verdict → Outcome
goes_on s f is_target target v = if is_target then arrives s f target v else stops_at s f target v

abbrev pub resumed_at : State → List Fde → ℕ → Frame → Verdict → Outcome
resumed_at s fdes cfa f v = goes_on s f (is_at fdes cfa f) (at_cfa cfa) v

abbrev pub resumed_to : State → List Fde → Thrown → ℕ → Option Frame → Outcome
resumed_to s fdes thrown cfa None = lost s
resumed_to s fdes thrown cfa (Some f) = resumed_at s fdes cfa f (verdict_of s fdes thrown f)

-- _Unwind_Resume: phase two goes on from the frame that resumes up to the target with this canonical frame address, and passes over a handler before it
unfoldable pub resume : List Fde → Thrown → ℕ → State → Outcome
resume fdes thrown cfa s = resumed_to s fdes thrown cfa (first_of s fdes thrown (goals.UpTo cfa))

abbrev pub forced_to : State → List Fde → Option Frame → Outcome
forced_to s fdes None = ended (frames s fdes).ending s
forced_to s fdes (Some f) = stops_at s f (at_cfa 0) (verdict_of s fdes forced f)

-- _Unwind_ForcedUnwind: the first frame with a cleanup, or one that ends the program; no handler stops it
unfoldable pub forced_unwind : List Fde → State → Outcome
forced_unwind fdes s = forced_to s fdes (first_of s fdes forced goals.Cleanup)
