use Rattle.std.proofs.Common.{◌≡◌, ◌++◌, length}
use Rattle.elf_sections.specs.Section.{headers_from}
use Rattle.elf_sections.proofs.section.put_sections.Given as goal

abbrev pub invariant-sections : goal.invariant-sections
invariant-sections l = l.initial.out.items ++ headers_from l.name_at l.sections ≡ l.out.items ++ headers_from l.place l.rest

abbrev pub decreases-sections : goal.decreases-sections
decreases-sections l = length l.rest
