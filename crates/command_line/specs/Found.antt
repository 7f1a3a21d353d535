-- What clap found for the operands and for each option.
use Rattle.std.specs.Prelude.{List, map, string_bytes}
use Rattle.clap.specs.Walk.{Row}
use Rattle.command_line.specs.declared.found.Found.{Found}
use Rattle.command_line.specs.declared.setting.Setting.TheVariants.{Input, Max, Trace, Count, Standard, Foreign, Thrown}
use Rattle.command_line.specs.Command.{FoundView}
use Rattle.command_line.specs.Matches.{operand_name, values_under}
use Rattle.command_line.specs.Setting.{name_of}

abbrev pub found_seen : Found → FoundView
found_seen f = record {
  operands = map string_bytes f.operands.items;
  inputs = map string_bytes f.inputs.items;
  max = map string_bytes f.max.items;
  std = map string_bytes f.std.items;
  trace = map string_bytes f.trace.items;
  count = map string_bytes f.count.items;
  scripts = map string_bytes f.scripts.items;
  raised = map string_bytes f.raised.items;
}

-- what rows have under the names of the operands and of the options
abbrev pub found_under : List Row → FoundView
found_under rows = record {
  operands = values_under operand_name rows;
  inputs = values_under (name_of Input) rows;
  max = values_under (name_of Max) rows;
  std = values_under (name_of Standard) rows;
  trace = values_under (name_of Trace) rows;
  count = values_under (name_of Count) rows;
  scripts = values_under (name_of Foreign) rows;
  raised = values_under (name_of Thrown) rows;
}
