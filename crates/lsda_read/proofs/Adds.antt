-- What a chain adds to the refusals that stand, record by record.
use Rattle.std.proofs.Common.{◌≡◌, ◌≤◌, ℕ, ℤ, zero, suc, Option, ap, ◌∙◌, arith}
use Rattle.eh_bytes.specs.Memory.{Part, Memory}
use Rattle.table_forms.specs.declared.found.Next.TheVariants.{Goes}
use Rattle.table_forms.specs.declared.found.Action.TheVariants.{Record}
use Rattle.table_forms.specs.Fault.{Fault, joined, least}
use Rattle.table_forms.specs.LsdaHead.{Head}
use Rattle.table_forms.specs.LsdaChain.{action_at}
use Rattle.table_forms.specs.LsdaTypes.{filter_faults}
use Rattle.lsda_read.specs.declared.known.ChainEnd.{ChainEnd}
use Rattle.lsda_read.specs.declared.known.ChainEnd.TheVariants as ends
use Rattle.lsda_read.specs.Rests.{chain_rest}
use Rattle.lsda_read.specs.Known.{AddsWithin, AddsFrom, end_fault}
use Rattle.lsda_read.specs.Turns.{IsOver}
use Rattle.lsda_read.proofs.Absorbed.{same_added, skipped, taken_in}
use Rattle.lsda_read.proofs.Chains.{chain_goes, chain_loops}

pub adds_more : (memory : Memory) (part : Part) (h : Head) (stands now more : Option Fault) (b p : ℕ) (e : ChainEnd) → now ≡ joined stands more →
    AddsFrom memory part h stands b p e → AddsFrom memory part h now b p e
adds_more memory part h stands now more b p e is adds n enough site a =
    rw is (same_added stands more (chain_rest memory part h site a n p) (end_fault part h site a e) (adds n enough site a))

pub adds_later : (memory : Memory) (part : Part) (h : Head) (stands : Option Fault) (b c p : ℕ) (e : ChainEnd) → b ≤ c →
    AddsFrom memory part h stands b p e → AddsFrom memory part h stands c p e
adds_later memory part h stands b c p e order adds n enough = adds n (omega (arith, order, enough))

-- a record whose filter refuses nothing more adds what the next one does
pub adds_through : (memory : Memory) (part : Part) (h : Head) (stands : Option Fault) (n p q : ℕ) (filter : ℤ) (e : ChainEnd) → action_at part h p ≡ Record filter (Goes q) →
    joined stands (least (filter_faults memory part h h.types p filter)) ≡ stands →
    AddsWithin memory part h stands n q e → AddsWithin memory part h stands (suc n) p e
adds_through memory part h stands n p q filter e next taken adds site a =
    ap (joined stands) (chain_goes memory part h site a p n q filter next) ∙
    skipped stands (least (filter_faults memory part h h.types p filter)) (chain_rest memory part h site a n q) taken ∙ adds site a

pub adds_back : (memory : Memory) (part : Part) (h : Head) (stands : Option Fault) (b p q : ℕ) (filter : ℤ) (e : ChainEnd) → action_at part h p ≡ Record filter (Goes q) →
    joined stands (least (filter_faults memory part h h.types p filter)) ≡ stands →
    AddsFrom memory part h stands b q e → AddsFrom memory part h stands (suc b) p e
adds_back memory part h stands b p q filter e next taken adds zero enough = absurd (omega (arith, enough))
adds_back memory part h stands b p q filter e next taken adds (suc n) enough =
    adds_through memory part h stands n p q filter e next taken (adds n (omega (arith, enough)))

-- no record left to be read counts as a loop
pub adds_loop : (memory : Memory) (part : Part) (h : Head) (stands : Option Fault) (p : ℕ) → AddsWithin memory part h stands 0 p ends.Repeated
adds_loop memory part h stands p site a = ap (joined stands) (chain_loops memory part h site a p)

pub adds_over : (memory : Memory) (part : Part) (h : Head) (stands now : Option Fault) (p : ℕ) (e : ChainEnd) → IsOver memory part h stands now p e →
    AddsFrom memory part h now 1 p e
adds_over memory part h stands now p e over zero enough site a = absurd (omega (arith, enough))
adds_over memory part h stands now p e over (suc n) enough site a =
    ap (joined now) (over.rest site a n) ∙ skipped now over.more (end_fault part h site a e) (rw over.stands (taken_in stands over.more))
