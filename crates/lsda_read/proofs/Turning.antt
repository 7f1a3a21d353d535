-- What one record adds to what is refused of its chain.
use Rattle.std.proofs.Common.{◌≡◌, ◌+◌, ℕ, ℤ, Option, Some, None}
use Rattle.eh_bytes.specs.Memory.{Part, Memory}
use Rattle.table_forms.specs.declared.found.Next.TheVariants.{Ends, Leaves}
use Rattle.table_forms.specs.declared.found.Action.TheVariants.{Record, Outside, Ranged}
use Rattle.table_forms.specs.declared.reason.Reason.TheVariants.{LebRange}
use Rattle.table_forms.specs.Fault.{Fault, fault, joined, least}
use Rattle.table_forms.specs.LsdaHead.{Head}
use Rattle.table_forms.specs.LsdaChain.{action_at}
use Rattle.table_forms.specs.LsdaTypes.{filter_faults}
use Rattle.table_forms.proofs.Least.{joined_none}
use Rattle.lsda_read.specs.declared.known.ChainEnd.TheVariants as ends
use Rattle.lsda_read.specs.Turns.{IsOver}
use Rattle.lsda_read.proofs.Chains.{chain_outside, chain_ranged, chain_ends, chain_leaves}

pub over_outside : (memory : Memory) (part : Part) (h : Head) (stands : Option Fault) (p : ℕ) → action_at part h p ≡ Outside →
    IsOver memory part h stands stands p ends.Outside
over_outside memory part h stands p read =
    record { more = None; stands = joined_none stands; rest = λ site a n. chain_outside memory part h site a p n read }

pub over_ranged : (memory : Memory) (part : Part) (h : Head) (stands now : Option Fault) (p q : ℕ) → action_at part h p ≡ Ranged q →
    now ≡ joined stands (Some (fault LebRange (part.file_at + q))) → IsOver memory part h stands now p ends.Ended
over_ranged memory part h stands now p q read is =
    record { more = Some (fault LebRange (part.file_at + q)); stands = is; rest = λ site a n. chain_ranged memory part h site a p n q read }

pub over_ends : (memory : Memory) (part : Part) (h : Head) (stands now : Option Fault) (p : ℕ) (filter : ℤ) → action_at part h p ≡ Record filter Ends →
    now ≡ joined stands (least (filter_faults memory part h h.types p filter)) → IsOver memory part h stands now p ends.Ended
over_ends memory part h stands now p filter read is =
    record { more = least (filter_faults memory part h h.types p filter); stands = is; rest = λ site a n. chain_ends memory part h site a p n filter read }

pub over_leaves : (memory : Memory) (part : Part) (h : Head) (stands now : Option Fault) (p : ℕ) (filter : ℤ) → action_at part h p ≡ Record filter Leaves →
    now ≡ joined stands (least (filter_faults memory part h h.types p filter)) → IsOver memory part h stands now p ends.Outside
over_leaves memory part h stands now p filter read is =
    record { more = least (filter_faults memory part h h.types p filter); stands = is; rest = λ site a n. chain_leaves memory part h site a p n filter read }
