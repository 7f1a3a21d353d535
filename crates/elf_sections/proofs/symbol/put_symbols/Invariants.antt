use Rattle.std.proofs.Common.{◌≡◌, ◌++◌, length}
use Rattle.elf_sections.specs.Symbol.{symbols_from}
use Rattle.elf_sections.proofs.symbol.put_symbols.Given as goal

abbrev pub invariant-symbols : goal.invariant-symbols
invariant-symbols l = l.initial.out.items ++ symbols_from l.name_at l.symbols ≡ l.out.items ++ symbols_from l.place l.rest

abbrev pub decreases-symbols : goal.decreases-symbols
decreases-symbols l = length l.rest
