use Rattle.std.proofs.Common.{◌≡◌, ◌++◌, length}
use Rattle.elf_image.specs.Written.{words}
use Rattle.elf_image.proofs.put.put_words.Given as goal

abbrev pub invariant-numbers : goal.invariant-numbers
invariant-numbers l = l.initial.out.items ++ words l.numbers ≡ l.out.items ++ words l.rest

abbrev pub decreases-numbers : goal.decreases-numbers
decreases-numbers l = length l.rest
