use Rattle.std.proofs.Common.{◌≡◌, ◌++◌, length}
use Rattle.std.specs.Prelude.{flat_map}
use Rattle.elf_image.specs.Written.{program_bytes}
use Rattle.elf_image.proofs.put.put_programs.Given as goal

abbrev pub invariant-headers : goal.invariant-headers
invariant-headers l = l.initial.out.items ++ flat_map program_bytes l.headers ≡ l.out.items ++ flat_map program_bytes l.rest

abbrev pub decreases-headers : goal.decreases-headers
decreases-headers l = length l.rest
