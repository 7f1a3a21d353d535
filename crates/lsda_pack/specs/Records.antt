-- The records of an action table as they are found, by the numbers of the ends of chains.
use Rattle.std.specs.Prelude.{◌≡◌, ℕ, ℤ, List, [], ◌∷◌, Option, Some, None}
use Rattle.std.specs.Ordering.{nat_cmp}
use Rattle.std.specs.BTreeMap.{get}
use Rattle.lsda_pack.specs.EndNumbers.{IsNumbered, TellsApart, end_number}
use Rattle.lsda_pack.specs.Suffixes.{Actions, Suffix, add_records, place_of}
use Rattle.lsda_pack.specs.declared.actions.Records.{Records}
use Rattle.lsda_pack.specs.declared.numbers.NumberedChain.{NumberedChain}

-- the place of an end's records is found under its number
pub record ArePlaces (known : ℤ × ℕ → Option ℕ) (suffixes : List Suffix) (places : ℕ → Option ℕ) : Type 0 where
  pub none : place_of suffixes [] ≡ None
  pub each : (f : ℤ) (fs : List ℤ) (n : ℕ) → end_number known (f ∷ fs) ≡ Some n → places n ≡ place_of suffixes (f ∷ fs)

pub record AreRecords (known : ℤ × ℕ → Option ℕ) (records : Records) (a : Actions) : Type 0 where
  pub bytes : records.bytes.items ≡ a.bytes
  pub places : ArePlaces known a.suffixes (get nat_cmp records.places)

-- those of one more chain
abbrev pub AddsRecords : Records → Records → NumberedChain → Type 0
AddsRecords old new c =
    (known : ℤ × ℕ → Option ℕ) (a : Actions) → TellsApart known → IsNumbered known c → AreRecords known old a → AreRecords known new (add_records c.filters.now a)
