-- What the words of a command name.
use Rattle.std.specs.Prelude.{ℕ, List, [], ◌∷◌, map, slice_get, String, string_bytes}
use Rattle.std.specs.declared.alloc.Global.{Global}
use Rattle.command_line.specs.Command.{CommandView}
use Rattle.eh_outer.specs.Module.{ModuleView}
use Rattle.eh_commands.specs.File.{Asked}

-- the texts of words
abbrev pub texts : List (String Global) → List (List ℕ)
texts words = map string_bytes words

-- the first of some names
abbrev pub first_of : List (List ℕ) → List ℕ
first_of [] = []
first_of (name ∷ names) = name

-- the second
abbrev pub second_of : List (List ℕ) → List ℕ
second_of [] = []
second_of (name ∷ names) = first_of names

-- the file that a command is given
abbrev pub file_of : CommandView → List ℕ
file_of command = first_of command.operands

-- what a command asks of a source, where the modules tell this of themselves
abbrev pub asked : List ModuleView → CommandView → Asked
asked modules command = record {
  source = file_of command;
  image = second_of command.operands;
  places = command.places;
  raised = command.raised;
  input = slice_get command.inputs 0;
  inputs = command.inputs;
  turns = command.max;
  std = command.std;
  trace = command.trace;
  count = command.count;
  modules = modules;
}
