-- What the table of a routine says.
use Rattle.std.specs.Prelude.{◌≡◌, ◌≤◌, ◌<◌, ℕ, ◌+◌, ◌^◌, false, List, length, Option, Some, Ok}
use Rattle.eh_bytes.specs.declared.frames.Region64.{Region64}
use Rattle.eh_bytes.specs.Memory.{Memory}
use Rattle.table_forms.specs.Lsda.{Table, lsda}
use Rattle.table_forms.specs.Verdict.{forced, verdict}
use Rattle.table_forms.specs.WrittenTable.{TableStands}
use Rattle.region_forms.specs.Form.{TypeRow}
use Rattle.linear_forms.specs.Tables.{look_up, sense_in}
use Rattle.linear_forms.specs.Verdict.{pad_verdict}
use Rattle.machine_forms.specs.Routine.{Routine, op_byte, routine_table}
use Rattle.image_forms.specs.Linkable.{BaseIsThere}
use Rattle.image_forms.specs.Tables.{linked_table}
use Rattle.table_verdicts.specs.Verdicts.{told_of, forced_judge}
use Rattle.table_verdicts.specs.Types.{thrown_as}
use Rattle.table_verdicts.specs.Asked.{TableIsAsked, TypesAreAsked}

-- For a frame that goes on behind byte k of a routine, which is one of operation p's: an exception is decided by the chain of the pad that
-- covers the operation, and a forced unwind by whether that has a cleanup.
pub record Tells (r : Routine) (rows : List TypeRow) (end first : ℕ) (table : Table) (p k : ℕ) : Type 0 where
  pub raised : (t : Option ℕ) → BaseIsThere (length rows) t →
      verdict (Some table) (first + k + 1) false (thrown_as end rows t) ≡ told_of (λ q. first + op_byte r q) (look_up r.sites p) (λ chain. pad_verdict rows (sense_in r.types r.lists) chain t)
  pub unwound : verdict (Some table) (first + k + 1) false forced ≡ told_of (λ q. first + op_byte r q) (look_up r.sites p) (forced_judge (sense_in r.types r.lists))

-- So where a table is read that stands for the routine's. Its type entries lead to records that end at an address.
abbrev pub TablesDecide : Type 0
TablesDecide = (r : Routine) (rows : List TypeRow) (end address : ℕ) (memory : Memory) (region : Region64) (table : Table) (p k : ℕ) → TableIsAsked (length rows) r → TypesAreAsked end rows →
    lsda memory address region ≡ Ok table → TableStands (linked_table end (routine_table r)) region table → op_byte r p ≤ k → k < op_byte r (p + 1) → region.start + k + 1 < 2 ^ 64 →
    Tells r rows end region.start table p k
