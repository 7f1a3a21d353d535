-- The code of kept variables. A kept variable has no place in memory: in its slot's eight bytes stands what its register held for the
-- caller. So the frame is laid out as without registers, and has the same size.
use Rattle.std.specs.Prelude.{ℕ, ◌+◌, ◌*◌, ◌==◌, nat_lt, pos, ◌-ℤ◌, List, [], ◌∷◌, ◌++◌, length, Option, Some, None, if◌then◌else◌}
use Rattle.rv64_isa.specs.declared.instr.Instr.{Instr}
use Rattle.rv64_isa.specs.declared.instr.Instr.TheVariants.{Lw, Ld, Sd, Addi}
use Rattle.eh_bytes.specs.declared.frames.FrameMove.{FrameMove}
use Rattle.eh_bytes.specs.declared.frames.FrameChange.TheVariants.{Saved}
use Rattle.region_forms.specs.Form.{Root, in_slot}
use Rattle.machine_forms.specs.Immediate.{immediate}
use Rattle.machine_forms.specs.Registers.{sp, t0, saved_registers}
use Rattle.machine_forms.specs.Piece.{Piece, instruction}
use Rattle.machine_forms.specs.Shape.{Shape, slot_offset, move_at}

-- the register of a slot, if the variable there is kept
abbrev pub register_among : (registers kept : List ℕ) → ℕ → Option ℕ
register_among [] kept s = None
register_among (r ∷ rs) [] s = None
register_among (r ∷ rs) (k ∷ ks) s = if k == s then Some r else register_among rs ks s

abbrev pub register_of : List ℕ → ℕ → Option ℕ
register_of kept s = register_among saved_registers kept s

-- the register of what a place begins at
abbrev pub root_register : Shape → Root → Option ℕ
root_register f (in_slot s) = register_of f.kept s
root_register f root = None

-- a register gets what another one holds
abbrev pub copied : (rd r : ℕ) → Instr
copied rd r = Addi rd r 0

-- a register gets the int of a slot, in one word whether or not the variable there is kept
abbrev pub int_read : Option ℕ → (rd offset : ℕ) → Instr
int_read None rd offset = Lw rd sp offset
int_read (Some r) rd offset = copied rd r

-- a register is saved in its variable's slot; where that is a parameter, its int is taken from there before and put in the register behind
abbrev pub one_saved : (parameters offset r s : ℕ) → List Piece
one_saved parameters offset r s =
    if nat_lt s parameters then instruction (Lw t0 sp offset) ∷ instruction (Sd sp r offset) ∷ instruction (copied r t0) ∷ []
    else instruction (Sd sp r offset) ∷ []

-- the registers are saved, each for the variable with its place in the other list
abbrev pub saves : Shape → (parameters : ℕ) → (registers kept : List ℕ) → List Piece
saves f parameters [] kept = []
saves f parameters (r ∷ rs) [] = []
saves f parameters (r ∷ rs) (s ∷ kept) = one_saved parameters (immediate (pos (slot_offset f s))) r s ++ saves f parameters rs kept

-- they get back what they held
abbrev pub restores : Shape → (registers kept : List ℕ) → List Piece
restores f [] kept = []
restores f (r ∷ rs) [] = []
restores f (r ∷ rs) (s ∷ kept) = instruction (Ld r sp (immediate (pos (slot_offset f s)))) ∷ restores f rs kept

-- the changes of the frame behind each word that saves a register, where the first of these words is the n-th of the function
abbrev pub save_moves : Shape → (parameters n : ℕ) → (registers kept : List ℕ) → List FrameMove
save_moves f parameters n [] kept = []
save_moves f parameters n (r ∷ rs) [] = []
save_moves f parameters n (r ∷ rs) (s ∷ kept) =
    move_at (4 * (n + (if nat_lt s parameters then 2 else 1))) (Saved r (pos (slot_offset f s) -ℤ pos f.size)) ∷
    save_moves f parameters (n + length (one_saved parameters (immediate (pos (slot_offset f s))) r s)) rs kept
