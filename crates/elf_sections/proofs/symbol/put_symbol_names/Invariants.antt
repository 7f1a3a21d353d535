use Rattle.std.proofs.Common.{◌≡◌, ◌++◌, length}
use Rattle.elf_sections.specs.Symbol.{symbol_names}
use Rattle.elf_sections.proofs.symbol.put_symbol_names.Given as goal

abbrev pub invariant-symbols : goal.invariant-symbols
invariant-symbols l = l.initial.out.items ++ symbol_names l.symbols ≡ l.out.items ++ symbol_names l.rest

abbrev pub decreases-symbols : goal.decreases-symbols
decreases-symbols l = length l.rest
