use Rattle.std.proofs.Common.{◌≡◌, ◌≤◌, ◌<◌, ◌-◌, ◌*◌, ◌^◌, ◌++◌, ℕ, ℤ, List, length, take}
use Rattle.eh_bytes.specs.Spelling.{sleb_spelling, sleb_spelling_within}
use Rattle.eh_bytes.proofs.Spelled.{magnitude}
use Rattle.eh_bytes.proofs.spelling.put_sleb.Given as goal

-- the bytes spelled so far, before the spelling of what is left
pub record Before (value rest : ℤ) (done : ℕ) (bytes : List ℕ) : Type 0 where
  pub few : done ≤ 9
  pub size : length bytes ≡ 10
  pub small : magnitude rest < 64 * 128 ^ (9 - done)
  pub spelled : sleb_spelling value ≡ take done bytes ++ sleb_spelling_within (10 - done) rest

abbrev pub invariant-loop-spelling : goal.invariant-loop-spelling
invariant-loop-spelling l = Before l.value l.rest l.length l.spelling

abbrev pub decreases-loop-spelling : goal.decreases-loop-spelling
decreases-loop-spelling l = magnitude l.rest
