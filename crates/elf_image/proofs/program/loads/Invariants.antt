use Rattle.std.proofs.Common.{◌≡◌, ◌++◌, ◌+◌, ◌≤◌, length}
use Rattle.elf_image.specs.Programs.{loaded}
use Rattle.elf_image.proofs.program.loads.Given as goal

abbrev pub invariant-headers : goal.invariant-headers
invariant-headers l = (loaded l.headers ≡ l.found.items ++ loaded l.rest) × (length l.found.items + length l.rest ≤ length l.headers)

abbrev pub decreases-headers : goal.decreases-headers
decreases-headers l = length l.rest
