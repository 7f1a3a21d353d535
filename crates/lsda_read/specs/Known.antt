-- What is known of the records of a table that were judged.
use Rattle.std.specs.Prelude.{◌≡◌, ◌≤◌, ◌+◌, ◌-◌, ◌==◌, ◌⊎◌, ℕ, zero, suc, Bool, true, is_some, List, length, Option, Some, None, if◌then◌else◌}
use Rattle.std.specs.List.{AllByRecursion, list_any}
use Rattle.eh_bytes.specs.Memory.{Part, Memory}
use Rattle.table_forms.specs.declared.reason.Reason.TheVariants.{ActionOutside, ActionLoop}
use Rattle.table_forms.specs.Fault.{Fault, fault, joined}
use Rattle.table_forms.specs.LsdaHead.{Head}
use Rattle.table_forms.specs.LsdaChain.{first_record}
use Rattle.lsda_read.specs.Rests.{chain_rest}
use Rattle.lsda_read.specs.declared.known.ChainEnd.{ChainEnd}
use Rattle.lsda_read.specs.declared.known.ChainEnd.TheVariants as ends

-- what is refused of a chain for its end alone, at a site that names its action
abbrev pub end_fault : Part → Head → ℕ → ℕ → ChainEnd → Option Fault
end_fault part h site a ends.Ended = None
end_fault part h site a ends.Outside = Some (fault ActionOutside (part.file_at + site))
end_fault part h site a ends.Repeated = Some (fault ActionLoop (part.file_at + first_record h a))

-- to what stands already a chain that goes on at p adds what its end does, and nothing else, read for so many records
abbrev pub AddsWithin : Memory → Part → Head → Option Fault → ℕ → ℕ → ChainEnd → Type 0
AddsWithin memory part h stands n p e =
    (site a : ℕ) → joined stands (chain_rest memory part h site a n p) ≡ joined stands (end_fault part h site a e)

-- the same for as many or more
abbrev pub AddsFrom : Memory → Part → Head → Option Fault → ℕ → ℕ → ChainEnd → Type 0
AddsFrom memory part h stands b p e = (n : ℕ) → b ≤ n → AddsWithin memory part h stands n p e

-- how many places below this one are no keys
unfoldable pub unknown : {X : Type 0} → (ℕ → Option X) → ℕ → ℕ
unknown known zero = 0
unknown known (suc n) = (if is_some (known n) then 0 else 1) + unknown known n

-- more records than the keys need not be read
abbrev pub enough : {X : Type 0} → Part → (ℕ → Option X) → ℕ
enough part known = 1 + length part.bytes - unknown known (length part.bytes)

abbrev pub IsKnown : Memory → Part → Head → Option Fault → (ℕ → Option ChainEnd) → Type 0
IsKnown memory part h stands known = (p : ℕ) (e : ChainEnd) → known p ≡ Some e → AddsFrom memory part h stands (enough part known) p e

-- p is among the places
abbrev pub is_on : List ℕ → ℕ → Bool
is_on path p = list_any (λ q. q == p) path

-- what was known, but for the places of a path, which have this end
abbrev pub with_path : List ℕ → ChainEnd → (ℕ → Option ChainEnd) → ℕ → Option ChainEnd
with_path path e known p = if is_on path p then Some e else known p

-- a chain was walked to its end: what is refused of it stands, and so is known how it ends for each record of the path
pub record Walked (memory : Memory) (part : Part) (h : Head) (whole : ℕ → ℕ → Option Fault) (stands : Option Fault) (known : ℕ → Option ChainEnd) (path : List ℕ) (e : ChainEnd) : Type 0 where
  pub total : (site a : ℕ) → whole site a ≡ joined stands (end_fault part h site a e)
  pub walked : AllByRecursion (λ p. AddsFrom memory part h stands (enough part known) p e) path
  pub others : (p : ℕ) (e' : ChainEnd) → known p ≡ Some e' → AddsFrom memory part h stands (enough part known) p e' ⊎ (is_on path p ≡ true)
