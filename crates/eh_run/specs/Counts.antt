-- What a run counts of what it shows.
use Rattle.std.specs.Prelude.{◌≡◌, ℕ, Bool, true, false, List, count_by}
use Rattle.eh_outer.specs.Module.{ModuleView}
use Rattle.run_items.specs.declared.item.Item.{Item}
use Rattle.run_items.specs.declared.item.Item.TheVariants.{Make}
use Rattle.run_items.specs.Line.{is_written}
use Rattle.cxa_runtime.specs.Run as machine
use Rattle.eh_run.specs.declared.counting.Counted.{Counted}
use Rattle.eh_run.specs.Program.{Program}
use Rattle.eh_run.specs.Runs.{IsRun}

-- a native exception object is made
abbrev pub is_make : Item → Bool
is_make (Make n) = true
is_make _ = false

-- a run of at most n steps: its end, its count, how many ints it wrote, and how many exception objects it made
pub record CountsTo (program : Program) (input : List ℕ) (before : List ModuleView) (n : ℕ) (counted : Counted) : Type 0 where
  pub whole : machine.Ran
  pub runs : IsRun program input before n whole
  pub end : whole.end ≡ counted.ran.end
  pub count : whole.world.count ≡ counted.ran.count
  pub lines : counted.lines ≡ count_by is_written whole.items
  pub makes : counted.makes ≡ count_by is_make whole.items
