-- What is known of a table, as its reader holds it.
use Rattle.std.specs.Prelude.{option_map}
use Rattle.std.specs.Ordering.{nat_cmp}
use Rattle.std.specs.BTreeMap.{get}
use Rattle.eh_bytes.specs.Memory.{Part, Memory}
use Rattle.table_forms.specs.LsdaHead.{Head}
use Rattle.table_forms.specs.Seen.{fault_of}
use Rattle.lsda_read.specs.declared.known.Known.{Known}
use Rattle.lsda_read.specs.Known.{IsKnown}
use Rattle.lsda_read.specs.KnownLists.{AreListsKnown}

-- what it says of chains is so
abbrev pub ChainsHold : Memory → Part → Head → Known → Type 0
ChainsHold memory part h known = IsKnown memory part h (option_map fault_of known.least) (get nat_cmp known.chains)

-- what it says of lists is so
abbrev pub ListsHold : Memory → Part → Head → Known → Type 0
ListsHold memory part h known = AreListsKnown memory part h (option_map fault_of known.least) (get nat_cmp known.lists)
