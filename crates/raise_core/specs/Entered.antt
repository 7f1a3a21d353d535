-- What a call does to a machine, in words of its registers.
use Rattle.std.specs.Prelude.{◌≡◌, ◌<◌, ℕ, List, Contains, length, slice_index}
use Rattle.rv64_isa.specs.State.{State, reg_of}
use Rattle.frame_walk.specs.declared.frame.Frame.{Frame}
use Rattle.raise_core.specs.declared.raised.Raised.{Raised}
use Rattle.raise_core.specs.declared.raised.Raised.TheVariants as answers

-- control enters one of these frames: the pc is its pad, and x1 to x31 are those of the frame
pub record Enters (frames : List Frame) (pad : ℕ) (new : State) : Type 0 where
  pub frame : Frame
  pub stands : Contains frames frame
  pub at : new.pc ≡ pad
  pub registers : (n : ℕ) → 0 < n → n < 32 → reg_of new.regs n ≡ slice_index frame.regs n

-- a machine with 32 registers enters a frame, or nothing changes
abbrev pub EntersOrStays : List Frame → Raised → State → State → Type 0
EntersOrStays frames (answers.Install pad selector cfa lsda) old new = length old.regs ≡ 32 → Enters frames pad new
EntersOrStays frames _ old new = new ≡ old
