use Rattle.std.proofs.Common.{◌≡◌, ◌++◌, length}
use Rattle.image_forms.specs.Symbols.{global_symbols}
use Rattle.image_link.proofs.symbols.put_globals.Given as goal

abbrev pub invariant-globals : goal.invariant-globals
invariant-globals l =
    l.initial.symbols.items ++ global_symbols l.end l.names l.globals ≡ l.symbols.items ++ global_symbols l.address l.named l.rest

abbrev pub decreases-globals : goal.decreases-globals
decreases-globals l = length l.named
