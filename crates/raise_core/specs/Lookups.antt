-- What the tables say of a place, kept for each frame that stands there.
use Rattle.std.specs.Prelude.{◌≡◌, ℕ, Bool, false, List, [], Option, option_map}
use Rattle.eh_bytes.specs.Memory.{Memory}
use Rattle.table_forms.specs.declared.found.Row.{Row}
use Rattle.table_forms.specs.Lsda.{Table}
use Rattle.table_forms.specs.Fde.{Fde}
use Rattle.table_forms.specs.Verdict.{Thrown}
use Rattle.rv64_isa.specs.State.{State}
use Rattle.frame_read.specs.declared.listed.Fde as shown
use Rattle.frame_walk.specs.declared.frame.Frame.{Frame}
use Rattle.frame_walk.specs.Located.{located_seen}
use Rattle.frame_walk.specs.Outward.{row_for}
use Rattle.raise_core.specs.declared.lookup.Lookup.{Lookup}
use Rattle.raise_core.specs.Asked.{table_named, verdict_of}

-- the exception table that an FDE with a row names
abbrev pub table_by : Memory → shown.Fde × Row → Option Table
table_by memory (fde, row) = table_named memory fde.lsda fde.region

-- a frame that stands at a place
abbrev pub standing : ℕ → Bool → Frame
standing pc signal = record { pc = pc; cfa = 0; regs = []; top = false; signal = signal }

-- it says what the tables say of each frame that stands there
pub record IsLookup (s : State) (fdes : List Fde) (thrown : Thrown) (lookup : Lookup) : Type 0 where
  pub entry : option_map located_seen lookup.entry ≡ row_for fdes (standing lookup.pc lookup.signal)
  pub verdict : lookup.verdict ≡ verdict_of s fdes thrown (standing lookup.pc lookup.signal)
