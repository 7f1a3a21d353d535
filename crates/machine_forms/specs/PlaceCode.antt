-- Loads, stores and addresses of places. An int has 4 bytes and an address 8, whatever slot it stands in. An int in a register of 64 bits
-- has its sign extended. Within the limits of a frame and of an object, 12 bits hold every offset.
use Rattle.std.specs.Prelude.{ℕ, ℤ, pos, ◌+◌, ◌==◌, List, [], ◌∷◌, if◌then◌else◌}
use Rattle.rv64_isa.specs.declared.instr.Instr.TheVariants.{Lui, Lw, Ld, Sw, Sd, Addi, Addiw}
use Rattle.region_forms.specs.Form.{Root, in_slot, through, in_global, Place}
use Rattle.machine_forms.specs.Immediate.{immediate, is_small, upper, lower}
use Rattle.machine_forms.specs.Registers.{zero_register, sp}
use Rattle.machine_forms.specs.Piece.{Target, global_at, Piece, instruction, upper_part, add_rest, load_rest, store_rest}
use Rattle.machine_forms.specs.Shape.{Shape, slot_offset}
use Rattle.machine_forms.specs.KeptCode.{register_of, int_read}

-- an offset from sp into a slot
abbrev pub within : Shape → ℕ → ℕ → ℕ
within f s n = immediate (pos (slot_offset f s + n))

-- a register gets the 8 bytes of a slot, or is written there
abbrev pub slot_loaded : Shape → (rd s : ℕ) → Piece
slot_loaded f rd s = instruction (Ld rd sp (within f s 0))

abbrev pub slot_stored : Shape → (value s : ℕ) → Piece
slot_stored f value s = instruction (Sd sp value (within f s 0))

-- a register gets the int of a slot
abbrev pub int_loaded : Shape → (rd s : ℕ) → Piece
int_loaded f rd s = instruction (int_read (register_of f.kept s) rd (within f s 0))

-- a register gets the address of a target
abbrev pub target_address : ℕ → Target → List Piece
target_address rd t = upper_part rd t ∷ add_rest rd t ∷ []

-- a number is added to a register, unless it is 0
abbrev pub added : ℕ → ℕ → List Piece
added rd n = if n == 0 then [] else instruction (Addi rd rd (immediate (pos n))) ∷ []

-- a register gets the address so many bytes behind where a root is, which is no kept variable
abbrev pub root_address : Shape → ℕ → Root → ℕ → List Piece
root_address f rd (in_slot s) n = instruction (Addi rd sp (within f s n)) ∷ []
root_address f rd (through s) n = slot_loaded f rd s ∷ added rd n
root_address f rd (in_global g) n = target_address rd (global_at g n)

-- a register gets the int there
abbrev pub root_loaded : Shape → ℕ → Root → ℕ → List Piece
root_loaded f rd (in_slot s) n = instruction (int_read (register_of f.kept s) rd (within f s n)) ∷ []
root_loaded f rd (through s) n = slot_loaded f rd s ∷ instruction (Lw rd rd (immediate (pos n))) ∷ []
root_loaded f rd (in_global g) n = upper_part rd (global_at g n) ∷ load_rest rd (global_at g n) ∷ []

-- the int in a register is written there, by means of another register; what is kept is never written so
abbrev pub root_stored : Shape → (value base : ℕ) → Root → ℕ → List Piece
root_stored f value base (in_slot s) n = instruction (Sw sp value (within f s n)) ∷ []
root_stored f value base (through s) n = slot_loaded f base s ∷ instruction (Sw base value (immediate (pos n))) ∷ []
root_stored f value base (in_global g) n = upper_part base (global_at g n) ∷ store_rest value base (global_at g n) ∷ []

-- the same of a place
abbrev pub place_address : Shape → ℕ → Place → List Piece
place_address f rd p = root_address f rd p.root p.offset

abbrev pub place_loaded : Shape → ℕ → Place → List Piece
place_loaded f rd p = root_loaded f rd p.root p.offset

abbrev pub place_stored : Shape → (value base : ℕ) → Place → List Piece
place_stored f value base p = root_stored f value base p.root p.offset

-- a register gets a number
abbrev pub number_set : ℕ → ℤ → List Piece
number_set rd v =
    if is_small v then instruction (Addi rd zero_register (immediate v)) ∷ []
    else instruction (Lui rd (upper v)) ∷ instruction (Addiw rd rd (lower v)) ∷ []
