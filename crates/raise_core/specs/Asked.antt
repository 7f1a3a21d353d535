-- What the tables say of a frame.
use Rattle.std.specs.Prelude.{ℕ, ◌==◌, List, Option, Some, None, option_map, option_and_then, Result, Ok, Err, if◌then◌else◌}
use Rattle.eh_bytes.specs.declared.frames.Region64.{Region64}
use Rattle.eh_bytes.specs.Memory.{Memory}
use Rattle.table_forms.specs.declared.found.Verdict.{Verdict}
use Rattle.table_forms.specs.declared.found.Row.{Row}
use Rattle.table_forms.specs.Fault.{Fault}
use Rattle.table_forms.specs.Lsda.{Table, lsda}
use Rattle.table_forms.specs.Fde.{Fde, fde_for}
use Rattle.table_forms.specs.Verdict.{Thrown, look_up_place, verdict}
use Rattle.rv64_isa.specs.State.{State}
use Rattle.frame_read.specs.declared.listed.Fde as shown
use Rattle.frame_walk.specs.declared.frame.Frame.{Frame}
use Rattle.frame_walk.specs.Outward.{tables_of, cfa_of, row_for}
use Rattle.raise_core.specs.declared.asked.Target.{Target}

-- each table that is named can be read
abbrev pub readable : Result Table Fault → Option Table
readable (Ok table) = Some table
readable (Err fault) = None

-- the exception table at an address; the address 0 names none
abbrev pub table_named : Memory → ℕ → Region64 → Option Table
table_named memory address region = if address == 0 then None else readable (lsda memory address region)

abbrev pub table_of : Memory → Fde → Option Table
table_of memory fde = table_named memory fde.lsda fde.region

-- the FDE that holds a frame's look-up place
abbrev pub fde_of : List Fde → Frame → Option Fde
fde_of fdes f = fde_for fdes (look_up_place f.pc f.signal)

-- what the personality routine says of a frame, the same in both phases (Itanium C++ ABI: Exception Handling, "The Personality Routine")
unfoldable pub verdict_of : State → List Fde → Thrown → Frame → Verdict
verdict_of s fdes thrown f = verdict (option_and_then (table_of (tables_of s)) (fde_of fdes f)) f.pc f.signal thrown

-- a frame as a target: its canonical frame address by its row, and the address of its exception table
abbrev pub as_target : Frame → shown.Fde × Row → Target
as_target f (fde, row) = record { cfa = cfa_of row f; lsda = fde.lsda }

unfoldable pub target_at : List Fde → Frame → Option Target
target_at fdes f = option_map (as_target f) (row_for fdes f)
