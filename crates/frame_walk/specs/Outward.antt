-- The frame outward of a frame (Itanium C++ ABI: Exception Handling, level I, "Context Management"; DWARF 5, 6.4.4).
use Rattle.std.specs.Prelude.{ℕ, ◌&&◌, ◌||◌, nat_lt, nat_le, Bool, true, false, List, map, drop, slice_index_or, Option, Some, None, option_map, if◌then◌else◌}
use Rattle.eh_bytes.specs.Memory as read
use Rattle.table_forms.specs.declared.found.Rule.{Rule}
use Rattle.table_forms.specs.declared.found.Rule.TheVariants as rules
use Rattle.table_forms.specs.declared.found.Row.{Row}
use Rattle.table_forms.specs.Fde.{Fde, fde_for, row_at}
use Rattle.table_forms.specs.Verdict.{look_up_place}
use Rattle.frame_read.specs.Listed.{fde_listed}
use Rattle.frame_read.specs.declared.listed.Fde as shown
use Rattle.rv64_isa.specs.State.{State, Part}
use Rattle.rv64_isa.specs.declared.step.FaultKind.TheVariants as faults
use Rattle.frame_walk.specs.declared.frame.Frame.{Frame}
use Rattle.frame_walk.specs.declared.frame.Walk.{Walk}
use Rattle.frame_walk.specs.declared.frame.Walk.TheVariants as walks
use Rattle.frame_walk.specs.Registers.{offset_by, registers_from}

-- the segments that a machine was given, as they are now
abbrev pub part_read : Part → read.Part
part_read p = record { address = p.address; bytes = p.bytes; file_at = p.file_at; write = p.write; exec = p.exec }

abbrev pub tables_of : State → read.Memory
tables_of s = map part_read (drop 2 s.memory)

-- the canonical frame address
abbrev pub cfa_of : Row → Frame → ℕ
cfa_of row f = offset_by (slice_index_or f.regs row.cfa_register 0) row.cfa_offset

-- it lies in the stack, and farther out than that of the frame before
abbrev pub is_outward : Frame → ℕ → Bool
is_outward f cfa = nat_le 0x7000_0000 cfa && nat_le cfa 0x7100_0000 && (f.top || nat_lt f.cfa cfa)

-- the FDE that holds the look-up place, as it is listed, with its row there
abbrev pub with_row : Frame → Fde → shown.Fde × Row
with_row f fde = (fde_listed fde, row_at fde (look_up_place f.pc f.signal))

abbrev pub row_for : List Fde → Frame → Option (shown.Fde × Row)
row_for fdes f = option_map (with_row f) (fde_for fdes (look_up_place f.pc f.signal))

abbrev pub with_registers : ℕ → Bool → ℕ → Option (List ℕ) → Walk
with_registers return_register signal cfa None = walks.Fault faults.Walk
with_registers return_register signal cfa (Some regs) =
    walks.Next (record { pc = slice_index_or regs return_register 0; cfa = cfa; regs = regs; top = false; signal = signal })

abbrev pub is_lost : Rule → Bool
is_lost rules.Undefined = true
is_lost _ = false

-- by a row; where it marks the return register undefined there is no frame outward
abbrev pub out_by : State → Frame → ℕ → Bool → Row → Walk
out_by s f return_register signal row =
    if is_lost (slice_index_or row.rules return_register rules.Unspecified) then walks.EndOfStack
    else if is_outward f (cfa_of row f) then with_registers return_register signal (cfa_of row f) (registers_from s (cfa_of row f) f.regs 0 row.rules)
    else walks.Fault faults.Walk

abbrev pub out_of : State → Frame → Option Fde → Walk
out_of s f None = walks.EndOfStack
out_of s f (Some fde) = out_by s f fde.cie.return_register fde.cie.signal (row_at fde (look_up_place f.pc f.signal))

-- by the FDEs of the image; where none holds the look-up place there is no frame outward
unfoldable pub next_frame : State → List Fde → Frame → Walk
next_frame s fdes f = out_of s f (fde_for fdes (look_up_place f.pc f.signal))
