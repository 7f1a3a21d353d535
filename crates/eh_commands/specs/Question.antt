-- What is asked of a file.
use Rattle.std.specs.Prelude.{List, map, option_map, string_bytes}
use Rattle.eh_outer.specs.Module.{ModuleView}
use Rattle.eh_commands.specs.declared.file.Question.{Question}
use Rattle.eh_commands.specs.File.{Asked}

-- by a question, where the modules tell this of themselves
abbrev pub asked_by : Question → List ModuleView → Asked
asked_by q modules = record {
  source = q.source.now;
  image = q.image.now;
  places = q.places.now;
  raised = q.raised;
  input = option_map (λ name. name.now) q.input;
  inputs = map string_bytes q.inputs.now;
  turns = q.turns;
  std = q.std;
  trace = q.trace;
  count = q.count;
  modules = modules;
}
