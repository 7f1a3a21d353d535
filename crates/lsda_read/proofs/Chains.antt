-- What answers of the rest of a chain.
use Rattle.std.proofs.Common.{◌≡◌, ◌+◌, ℕ, ℤ, suc, Some, None, refl, ap, ◌∙◌, append_assoc}
use Rattle.std.specs.Prelude.{flat_map}
use Rattle.eh_bytes.specs.Memory.{Part, Memory}
use Rattle.table_forms.specs.declared.found.Next.{Next}
use Rattle.table_forms.specs.declared.found.Next.TheVariants.{Ends, Leaves, Goes}
use Rattle.table_forms.specs.declared.found.Action.TheVariants.{Record, Outside, Ranged}
use Rattle.table_forms.specs.declared.reason.Reason.TheVariants.{LebRange, ActionOutside, ActionLoop}
use Rattle.table_forms.specs.Fault.{fault, joined, least}
use Rattle.table_forms.specs.LsdaHead.{Head}
use Rattle.table_forms.specs.LsdaChain.{action_at, links_from, next_links, links_within, ending_faults, first_record}
use Rattle.table_forms.specs.LsdaTypes.{filter_faults}
use Rattle.lsda_read.specs.Rests.{faults_in, chain_rest}
use Rattle.table_forms.proofs.Least.{least-append}

pub chain_record : (memory : Memory) (part : Part) (h : Head) (site a p n : ℕ) (filter : ℤ) (next : Next) → action_at part h p ≡ Record filter next →
    chain_rest memory part h site a (suc n) p ≡ joined (least (filter_faults memory part h h.types p filter)) (least (faults_in memory part h site a (next_links next (links_within n part h))))
unfolding links_within
chain_record memory part h site a p n filter next read =
    let rest = next_links next (links_within n part h) in
    ap (λ r. least (faults_in memory part h site a (links_from p r (links_within n part h)))) read ∙
    ap least (append_assoc (filter_faults memory part h h.types p filter) (flat_map (λ l. filter_faults memory part h h.types l.at l.filter) rest.links) (ending_faults part h site a rest.ending)) ∙
    least-append (filter_faults memory part h h.types p filter) (faults_in memory part h site a rest)

pub chain_outside : (memory : Memory) (part : Part) (h : Head) (site a p n : ℕ) → action_at part h p ≡ Outside →
    chain_rest memory part h site a (suc n) p ≡ Some (fault ActionOutside (part.file_at + site))
unfolding links_within least
chain_outside memory part h site a p n read = ap (λ r. least (faults_in memory part h site a (links_from p r (links_within n part h)))) read

pub chain_ranged : (memory : Memory) (part : Part) (h : Head) (site a p n q : ℕ) → action_at part h p ≡ Ranged q →
    chain_rest memory part h site a (suc n) p ≡ Some (fault LebRange (part.file_at + q))
unfolding links_within least
chain_ranged memory part h site a p n q read = ap (λ r. least (faults_in memory part h site a (links_from p r (links_within n part h)))) read

pub chain_ends : (memory : Memory) (part : Part) (h : Head) (site a p n : ℕ) (filter : ℤ) → action_at part h p ≡ Record filter Ends →
    chain_rest memory part h site a (suc n) p ≡ joined (least (filter_faults memory part h h.types p filter)) None
unfolding least
chain_ends memory part h site a p n filter read = chain_record memory part h site a p n filter Ends read

pub chain_leaves : (memory : Memory) (part : Part) (h : Head) (site a p n : ℕ) (filter : ℤ) → action_at part h p ≡ Record filter Leaves →
    chain_rest memory part h site a (suc n) p ≡ joined (least (filter_faults memory part h h.types p filter)) (Some (fault ActionOutside (part.file_at + site)))
unfolding least
chain_leaves memory part h site a p n filter read = chain_record memory part h site a p n filter Leaves read

pub chain_loops : (memory : Memory) (part : Part) (h : Head) (site a p : ℕ) → chain_rest memory part h site a 0 p ≡ Some (fault ActionLoop (part.file_at + first_record h a))
unfolding links_within least
chain_loops memory part h site a p = refl

pub chain_goes : (memory : Memory) (part : Part) (h : Head) (site a p n q : ℕ) (filter : ℤ) → action_at part h p ≡ Record filter (Goes q) →
    chain_rest memory part h site a (suc n) p ≡ joined (least (filter_faults memory part h h.types p filter)) (chain_rest memory part h site a n q)
chain_goes memory part h site a p n q filter read = chain_record memory part h site a p n filter (Goes q) read
