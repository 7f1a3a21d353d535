use Rattle.std.proofs.Common.{◌≡◌, ◌++◌, length}
use Rattle.image_forms.specs.Symbols.{record_symbols}
use Rattle.image_link.proofs.symbols.put_records.Given as goal

abbrev pub invariant-types : goal.invariant-types
invariant-types l =
    l.initial.symbols.items ++ record_symbols l.end l.names l.types ≡ l.symbols.items ++ record_symbols l.address l.named l.rest

abbrev pub decreases-types : goal.decreases-types
decreases-types l = length l.named
