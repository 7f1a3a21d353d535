use Rattle.std.proofs.Common.{◌≡◌, ◌++◌, length, map}
use Rattle.eh_bytes.specs.Listed.{listed_function}
use Rattle.image_forms.specs.Placed.{placed_from}
use Rattle.image_forms.specs.Symbols.{function_symbols}
use Rattle.image_link.proofs.symbols.put_functions.Given as goal

abbrev pub invariant-functions : goal.invariant-functions
invariant-functions l =
    l.initial.symbols.items ++ function_symbols l.names (placed_from l.code (map listed_function l.functions)) ≡ l.symbols.items ++ function_symbols l.named (placed_from l.code (map listed_function l.rest))

abbrev pub decreases-functions : goal.decreases-functions
decreases-functions l = length l.named
