use Rattle.elf_sections.proofs.Kept.{sections_change_no_reading}
use Rattle.elf_sections.proofs.laws.sections_change_no_reading.Goals as goal

pub returns : goal.returns
returns c = sections_change_no_reading
