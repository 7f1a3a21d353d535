use Rattle.std.proofs.Common.{◌≡◌, ◌++◌, length}
use Rattle.elf_sections.specs.Section.{section_names}
use Rattle.elf_sections.proofs.section.put_section_names.Given as goal

abbrev pub invariant-kinds : goal.invariant-kinds
invariant-kinds l = l.initial.out.items ++ section_names l.kinds ≡ l.out.items ++ section_names l.rest

abbrev pub decreases-kinds : goal.decreases-kinds
decreases-kinds l = length l.rest
