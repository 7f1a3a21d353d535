-- A table of which it is known that nothing is refused, by its head.
use Rattle.std.proofs.Common.{◌≡◌, ℕ, true, false, List, Option, Some, None, Ok, Err, Result, refl, ap, subst, ◌∙◌}
use Rattle.std.specs.Prelude.{IsOk}
use Rattle.eh_bytes.specs.declared.frames.Region64.{Region64}
use Rattle.eh_bytes.specs.Memory.{Part, Memory}
use Rattle.table_forms.specs.Fault.{Fault, ◌>>=◌, answer, least}
use Rattle.table_forms.specs.LsdaHead.{Head, head_at}
use Rattle.table_forms.specs.Lsda.{Table, lsda_in, table_faults, table_of}

-- there is a head
pub has_head : (memory : Memory) (region : Region64) (p : ℕ) (part : Part) (f : Fault) → IsOk (lsda_in memory region p part) → head_at part region p ≡ Err f → ⊥
unfolding lsda_in
has_head memory region p part f known head =
    let rest : Head → Result Table Fault = λ k. answer (least (table_faults memory part region k)) (table_of memory part region k) in
    let wrong : false ≡ true = subst IsOk (ap (λ r. r >>= rest) head) known in cc

-- and nothing is refused behind it
pub no_faults : (memory : Memory) (region : Region64) (p : ℕ) (part : Part) (h : Head) → IsOk (lsda_in memory region p part) → head_at part region p ≡ Ok h →
    least (table_faults memory part region h) ≡ None
unfolding lsda_in
no_faults memory region p part h known head =
    let rest : Head → Result Table Fault = λ k. answer (least (table_faults memory part region k)) (table_of memory part region k) in
    answers (least (table_faults memory part region h)) (table_of memory part region h) (subst IsOk (ap (λ r. r >>= rest) head) known)
  where
    answers : (o : Option Fault) (t : Table) → IsOk (answer o t) → o ≡ None
    answers None t ok = refl
    answers (Some f) t ok = absurd cc

-- so the table is that of the head
pub table_known : (memory : Memory) (region : Region64) (p : ℕ) (part : Part) (h : Head) → IsOk (lsda_in memory region p part) → head_at part region p ≡ Ok h →
    lsda_in memory region p part ≡ Ok (table_of memory part region h)
unfolding lsda_in
table_known memory region p part h known head =
    let rest : Head → Result Table Fault = λ k. answer (least (table_faults memory part region k)) (table_of memory part region k) in
    ap (λ r. r >>= rest) head ∙ ap (λ o. answer o (table_of memory part region h)) (no_faults memory region p part h known head)
