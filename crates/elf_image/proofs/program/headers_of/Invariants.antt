use Rattle.std.proofs.Common.{◌≡◌, ◌++◌, ◌+◌, ◌*◌, ◌<◌, ◌≤◌, ◌^◌, length}
use Rattle.std.specs.Int.{w64}
use Rattle.elf_image.specs.Numbers.{field}
use Rattle.elf_image.specs.Programs.{headers_from}
use Rattle.elf_image.proofs.program.headers_of.Given as goal

abbrev pub invariant-headers : goal.invariant-headers
invariant-headers l =
    (headers_from l.count l.file (field w64 l.file 32) ≡ l.headers.items ++ headers_from l.left l.file l.place) ×
    (l.place + 56 * l.left < 2 ^ 65) × (length l.headers.items + l.left ≤ 2 ^ 16)

abbrev pub decreases-headers : goal.decreases-headers
decreases-headers l = l.left
