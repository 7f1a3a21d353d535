-- Where a run begins.
use Rattle.std.specs.Prelude.{ℕ, List}
use Rattle.eh_outer.specs.declared.module.Reply.{Reply}
use Rattle.cxx_ast.specs.Plain.{Checked}
use Rattle.elf_image.specs.Clean.{CleanImage}
use Rattle.linear_forms.specs.UnitRun.{first_state}
use Rattle.flight_homes.specs.Keeps.{Carrying}
use Rattle.source_bounds.specs.Compiled.{unit_for}
use Rattle.compiled_runs.specs.Given.{IsGiven}
use Rattle.compiled_runs.specs.Starts.{Started}
use Rattle.step_law.specs.Facts.{Facts}
use Rattle.step_law.specs.Standing.{Standing}

-- the first state of a run stands, where main begins on the machine
abbrev pub StartsStand : Type 0
StartsStand = (p : Checked) (i : CleanImage) (k : Carrying) (tables : ℕ → ℕ) (input : List ℕ) (replies : List (List Reply)) → Facts p i k tables → IsGiven input replies → (s : Started p i tables input replies) →
    Standing p i k tables s.turns (first_state (unit_for p) input replies) s.after
