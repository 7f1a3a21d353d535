-- The bytes of frames that are written (LSB Core, "The .eh_frame section"; DWARF 5, 6.4 and 7.24).
use Rattle.std.specs.Prelude.{ℕ, ◌+◌, ◌-◌, ◌/◌, ◌%◌, ◌^◌, ◌==◌, nat_lt, Bool, true, false, List, [], ◌∷◌, ◌++◌, length, replicate, unsigned_abs, if◌then◌else◌}
use Rattle.std.specs.Int.{w32, to_le_bytes}
use Rattle.eh_bytes.specs.declared.frames.FrameChange.{FrameChange}
use Rattle.eh_bytes.specs.declared.frames.FrameChange.TheVariants.{Cfa, Saved, Undefined}
use Rattle.eh_bytes.specs.declared.frames.FrameMove.{FrameMove}
use Rattle.eh_bytes.specs.Listed.{ListedFrame, ListedFrames}
use Rattle.eh_bytes.specs.Spelling.{uleb_spelling}
use Rattle.eh_write.specs.Distance.{distance_bytes}

-- version 1, code factor 4, data factor -8, return register x1; with tables L and R say 0x1b, relative to themselves in four bytes with a sign,
-- else R alone does; then def_cfa x2 + 0, and nops up to a multiple of 4
abbrev pub cie_bytes : Bool → List ℕ
cie_bytes true = 20 ∷ 0 ∷ 0 ∷ 0 ∷ 0 ∷ 0 ∷ 0 ∷ 0 ∷ 1 ∷ 0x7a ∷ 0x4c ∷ 0x52 ∷ 0 ∷ 4 ∷ 0x78 ∷ 1 ∷ 2 ∷ 0x1b ∷ 0x1b ∷ 0x0c ∷ 2 ∷ 0 ∷ 0 ∷ 0 ∷ []
cie_bytes false = 16 ∷ 0 ∷ 0 ∷ 0 ∷ 0 ∷ 0 ∷ 0 ∷ 0 ∷ 1 ∷ 0x7a ∷ 0x52 ∷ 0 ∷ 4 ∷ 0x78 ∷ 1 ∷ 1 ∷ 0x1b ∷ 0x0c ∷ 2 ∷ 0 ∷ []

-- over so many instructions of four bytes: nothing, advance_loc or advance_loc4
abbrev pub advance_bytes : ℕ → List ℕ
advance_bytes steps =
    if steps == 0 then []
    else if nat_lt steps 64 then (64 + steps) ∷ []
    else 0x04 ∷ to_le_bytes w32 steps

-- def_cfa_offset, offset with the data factor, or undefined
abbrev pub change_bytes : FrameChange → List ℕ
change_bytes (Cfa n) = 0x0e ∷ uleb_spelling (unsigned_abs n)
change_bytes (Saved r n) = (128 + r % 64) ∷ uleb_spelling (unsigned_abs n / 8)
change_bytes (Undefined r) = 0x07 ∷ uleb_spelling r

-- from a location on
abbrev pub move_bytes : ℕ → FrameMove → List ℕ
move_bytes location move = advance_bytes ((move.location - location) / 4 % 2 ^ 32) ++ change_bytes move.change

abbrev pub moves_bytes : ℕ → List FrameMove → List ℕ
moves_bytes location [] = []
moves_bytes location (m ∷ ms) = move_bytes location m ++ moves_bytes m.location ms

-- the data of an FDE at a place: its size, and with tables where its table is; 0 is none
abbrev pub data_bytes : Bool → ℕ → ℕ → List ℕ
data_bytes true place lsda = 4 ∷ (if lsda == 0 then to_le_bytes w32 0 else distance_bytes (place + 1) lsda)
data_bytes false place lsda = 0 ∷ []

-- an FDE behind its length: the distance back to the CIE, the region, the data and the instructions
unfoldable pub fde_body : Bool → ℕ → ℕ → ListedFrame → List ℕ
fde_body lsda cie place f =
    to_le_bytes w32 ((place + 4 - cie) % 2 ^ 32) ++ distance_bytes (place + 8) f.region.start ++ to_le_bytes w32 (f.region.length % 2 ^ 32) ++
    data_bytes lsda (place + 16) f.lsda ++ moves_bytes f.region.start f.moves

-- nops up to a multiple of 4
abbrev pub nops : ℕ → List ℕ
nops size = replicate ((4 - size % 4) % 4) 0

abbrev pub padded : List ℕ → List ℕ
padded bytes = bytes ++ nops (length bytes)

unfoldable pub fde_bytes : Bool → ℕ → ℕ → ListedFrame → List ℕ
fde_bytes lsda cie place f = to_le_bytes w32 (length (padded (fde_body lsda cie place f)) % 2 ^ 32) ++ padded (fde_body lsda cie place f)

abbrev pub fdes_bytes : Bool → ℕ → ℕ → List ListedFrame → List ℕ
fdes_bytes lsda cie place [] = []
fdes_bytes lsda cie place (f ∷ fs) = fde_bytes lsda cie place f ++ fdes_bytes lsda cie (place + length (fde_bytes lsda cie place f)) fs

-- one CIE, the FDEs, and the length 0 that ends the list
unfoldable pub frames_bytes : ListedFrames → ℕ → List ℕ
frames_bytes list address =
    cie_bytes list.lsda ++ fdes_bytes list.lsda address (address + length (cie_bytes list.lsda)) list.frames ++ to_le_bytes w32 0
