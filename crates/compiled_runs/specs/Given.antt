-- What a program is given.
use Rattle.std.specs.Prelude.{ℕ, ◌<◌, ◌≤◌, List, length}
use Rattle.std.specs.List.{AllByRecursion}
use Rattle.eh_outer.specs.declared.module.Reply.{Reply}
use Rattle.eh_outer.specs.Domain.{RepliesAreInts}

-- bytes of input, and at most 64 modules, whose replies are ones that a call can give
pub record IsGiven (input : List ℕ) (replies : List (List Reply)) : Type 0 where
  pub bytes : AllByRecursion (λ b. b < 256) input
  pub few : length replies ≤ 64
  pub ints : AllByRecursion RepliesAreInts replies
