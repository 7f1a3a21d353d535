-- What answers of the rest of a list.
use Rattle.std.proofs.Common.{◌≡◌, ◌<◌, ℕ, zero, suc, Option, Some, None, Ok, Err, ap, ◌∙◌, arith, append_assoc}
use Rattle.std.specs.Prelude.{flat_map}
use Rattle.eh_bytes.specs.Memory.{Part, Memory}
use Rattle.table_forms.specs.Fault.{Fault, joined, least, refusal_of}
use Rattle.table_forms.specs.LsdaHead.{Head, Types}
use Rattle.table_forms.specs.LsdaTypes.{entry_at, index_at, indices_from, indices_within, list_faults}
use Rattle.table_forms.proofs.Least.{least-append}

abbrev pub list_rest : Memory → Part → Head → Types → ℕ → ℕ → ℕ → ℕ → Option Fault
list_rest memory part h types named_at first n p = least (list_faults memory part h types named_at (indices_within n part first p))

pub list_more : (memory : Memory) (part : Part) (h : Head) (types : Types) (named_at first p k next n : ℕ) → index_at part first p ≡ Ok (suc k, next) →
    list_rest memory part h types named_at first (suc n) p ≡ joined (least (refusal_of (entry_at memory part h types named_at (suc k)))) (list_rest memory part h types named_at first n next)
unfolding indices_within
list_more memory part h types named_at first p k next n read =
    ap (λ r. least (list_faults memory part h types named_at (indices_from r (indices_within n part first)))) read ∙
    ap least (append_assoc (refusal_of (entry_at memory part h types named_at (suc k))) (flat_map (λ i. refusal_of (entry_at memory part h types named_at i)) (indices_within n part first next).indices) (indices_within n part first next).cut) ∙
    least-append (refusal_of (entry_at memory part h types named_at (suc k))) (list_faults memory part h types named_at (indices_within n part first next))

pub list_ends : (memory : Memory) (part : Part) (h : Head) (types : Types) (named_at first p next n : ℕ) → index_at part first p ≡ Ok (zero, next) →
    list_rest memory part h types named_at first (suc n) p ≡ None
unfolding indices_within least
list_ends memory part h types named_at first p next n read =
    ap (λ r. least (list_faults memory part h types named_at (indices_from r (indices_within n part first)))) read

pub list_fails : (memory : Memory) (part : Part) (h : Head) (types : Types) (named_at first p n : ℕ) (f : Fault) → index_at part first p ≡ Err f →
    list_rest memory part h types named_at first (suc n) p ≡ Some f
unfolding indices_within least
list_fails memory part h types named_at first p n f read =
    ap (λ r. least (list_faults memory part h types named_at (indices_from r (indices_within n part first)))) read

pub list_goes : (memory : Memory) (part : Part) (h : Head) (types : Types) (named_at first p k next n : ℕ) → 0 < k → index_at part first p ≡ Ok (k, next) →
    list_rest memory part h types named_at first (suc n) p ≡ joined (least (refusal_of (entry_at memory part h types named_at k))) (list_rest memory part h types named_at first n next)
list_goes memory part h types named_at first p zero next n some read = absurd (omega (arith, some))
list_goes memory part h types named_at first p (suc k) next n some read = list_more memory part h types named_at first p k next n read
