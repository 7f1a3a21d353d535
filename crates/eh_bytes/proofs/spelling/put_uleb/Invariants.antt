use Rattle.std.proofs.Common.{◌≡◌, ◌≤◌, ◌<◌, ◌-◌, ◌^◌, ◌++◌, ℕ, List, length, take}
use Rattle.eh_bytes.specs.Spelling.{uleb_spelling, uleb_spelling_within}
use Rattle.eh_bytes.proofs.spelling.put_uleb.Given as goal

-- the bytes spelled so far, before the spelling of what is left
pub record Before (value rest done : ℕ) (bytes : List ℕ) : Type 0 where
  pub few : done ≤ 9
  pub size : length bytes ≡ 10
  pub small : rest < 128 ^ (10 - done)
  pub spelled : uleb_spelling value ≡ take done bytes ++ uleb_spelling_within (10 - done) rest

abbrev pub invariant-loop-rest : goal.invariant-loop-rest
invariant-loop-rest l = Before l.value l.rest l.length l.spelling

abbrev pub decreases-loop-rest : goal.decreases-loop-rest
decreases-loop-rest l = l.rest
