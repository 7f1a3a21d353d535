-- The frames of a stack, from the one that makes a runtime call outward (Itanium C++ ABI: Exception Handling, level I, "Context Management").
use Rattle.std.specs.Prelude.{ℕ, zero, suc, ◌+◌, true, false, List, [], ◌∷◌, ◌++◌, replicate}
use Rattle.table_forms.specs.Fde.{Fde}
use Rattle.rv64_isa.specs.State.{State, reg_of}
use Rattle.rv64_isa.specs.declared.step.FaultKind.{FaultKind}
use Rattle.rv64_isa.specs.declared.step.FaultKind.TheVariants as faults
use Rattle.frame_walk.specs.declared.frame.Frame.{Frame}
use Rattle.frame_walk.specs.declared.frame.Walk.{Walk}
use Rattle.frame_walk.specs.declared.frame.Walk.TheVariants as walks
use Rattle.frame_walk.specs.Outward.{next_frame}

-- so many registers from one on
unfoldable pub registers_at : ℕ → ℕ → List ℕ → List ℕ
registers_at n zero regs = []
registers_at n (suc k) regs = reg_of regs n ∷ registers_at (n + 1) k regs

-- the frame that makes a runtime call: it goes on behind the call, and no signal interrupted it; f0 to f31 begin as 0
abbrev pub first_frame : State → Frame
first_frame s = record { pc = s.pc; cfa = 0; regs = registers_at 0 32 s.regs ++ replicate 32 0; top = true; signal = false }

-- how the frames end: at the end of the stack, or where it can't be told what is outward
pub data Ending : Type 0 where
  end_of_stack : Ending
  broken : FaultKind → Ending

pub record Stack : Type 0 where
  pub frames : List Frame
  pub ending : Ending

abbrev pub inside : Frame → Stack → Stack
inside f outer = record { frames = f ∷ outer.frames; ending = outer.ending }

abbrev pub walked : (Frame → Stack) → Walk → Stack
walked more (walks.Next f) = more f
walked more walks.EndOfStack = record { frames = []; ending = end_of_stack }
walked more (walks.Fault kind) = record { frames = []; ending = broken kind }

-- at most so many frames, from one outward
unfoldable pub frames_within : ℕ → State → List Fde → Frame → Stack
frames_within zero s fdes f = record { frames = []; ending = broken faults.Walk }
frames_within (suc n) s fdes f = inside f (walked (frames_within n s fdes) (next_frame s fdes f))

-- more than there can be, since canonical frame addresses rise inside the 16 MiB of the stack
abbrev pub most_frames : ℕ
most_frames = 0x1000004

-- all frames; the last one has no FDE, or none outward
abbrev pub frames : State → List Fde → Stack
frames s fdes = frames_within most_frames s fdes (first_frame s)
