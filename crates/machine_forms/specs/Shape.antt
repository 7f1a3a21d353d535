-- A function's frame. Its slots stand from its upper end down in their order, so the parameters, which are the first and of 8 bytes each,
-- have the same place for every caller: 8 bytes each below the caller's sp. At the frame's lower end stand a word that is free and the
-- return address.
use Rattle.std.specs.Prelude.{ℕ, ◌+◌, ◌-◌, pos, ◌-ℤ◌, Bool, true, false, List, [], ◌∷◌, ◌++◌, take, replicate}
use Rattle.rv64_isa.specs.declared.instr.Instr.TheVariants.{Lui, Bgeu, Ld, Sd, Addi, Jalr}
use Rattle.eh_bytes.specs.declared.frames.FrameMove.{FrameMove}
use Rattle.eh_bytes.specs.declared.frames.FrameChange.{FrameChange}
use Rattle.eh_bytes.specs.declared.frames.FrameChange.TheVariants.{Cfa, Saved}
use Rattle.region_forms.specs.Form.{Slot}
use Rattle.region_forms.specs.LowerProgram.{help}
use Rattle.linear_forms.specs.Frame.{slot_bytes, frame_bytes}
use Rattle.machine_forms.specs.Immediate.{immediate}
use Rattle.machine_forms.specs.Registers.{zero_register, ra, sp, t0}
use Rattle.machine_forms.specs.Piece.{Piece, instruction}
use Rattle.machine_forms.specs.RuntimeCall.{runtime_call, stack_call}

-- the slots of a function, the bytes of its frame, the slots of its kept variables, and whether it calls nothing
pub record Shape : Type 0 where
  pub slots : List Slot
  pub size : ℕ
  pub kept : List ℕ
  pub leaf : Bool

-- the frame of one of the runtime's own functions, with n slots
abbrev pub help_shape : ℕ → Shape
help_shape n = record { slots = replicate n help; size = frame_bytes (replicate n help); kept = []; leaf = false }

-- the first byte of a slot, from sp on
abbrev pub slot_offset : Shape → ℕ → ℕ
slot_offset f s = f.size - slot_bytes (take (s + 1) f.slots)

-- the first byte of the return address, from sp on
abbrev pub return_offset : ℕ
return_offset = 8

-- The stack begins at 0x70000000. Below its lowest 4 KiB no call of a compiled function begins, but for one that calls nothing: so what is
-- passed to a call, the frame of such a call and those of the runtime's own functions, which do not look, have room.
abbrev pub lowest_page : ℕ
lowest_page = 0x70001

-- a frame is taken, and the return address is saved
abbrev pub frame_taken : Shape → List Piece
frame_taken f = instruction (Addi sp sp (immediate (pos 0 -ℤ pos f.size))) ∷ instruction (Sd sp ra return_offset) ∷ []

-- where too little of the stack is left the program ends; a function that calls nothing does not look
abbrev pub stack_tested : Bool → List Piece
stack_tested true = []
stack_tested false = instruction (Lui t0 lowest_page) ∷ instruction (Bgeu sp t0 6) ∷ runtime_call stack_call

-- the beginning of a compiled function
abbrev pub prologue : Shape → List Piece
prologue f = frame_taken f ++ stack_tested f.leaf

-- a frame is given back, and the call comes back
abbrev pub epilogue : Shape → List Piece
epilogue f =
    instruction (Ld ra sp return_offset) ∷ instruction (Addi sp sp (immediate (pos f.size))) ∷ instruction (Jalr zero_register ra 0) ∷ []

-- a change of the frame from a byte of the function on
abbrev pub move_at : ℕ → FrameChange → FrameMove
move_at n change = record { location = n; change = change }

-- the frame of a function behind the first and the second word of its prologue
abbrev pub frame_moves : Shape → List FrameMove
frame_moves f = move_at 4 (Cfa (pos f.size)) ∷ move_at 8 (Saved ra (pos return_offset -ℤ pos f.size)) ∷ []
