-- What answers of the rest of the call-site table.
use Rattle.std.proofs.Common.{◌≡◌, ◌+◌, ℕ, suc, true, false, nat_lt, List, ◌++◌, Some, None, Ok, Err, ap, ◌∙◌, append_assoc}
use Rattle.eh_bytes.specs.declared.frames.Region64.{Region64}
use Rattle.eh_bytes.specs.Memory.{Part, Memory}
use Rattle.table_forms.specs.Fault.{Fault, joined, least}
use Rattle.table_forms.specs.LsdaHead.{Head}
use Rattle.table_forms.specs.LsdaSites.{SiteRecord, record_at, records_from, records_within, site_of, site_faults}
use Rattle.table_forms.specs.Lsda.{records_faults, action_faults}
use Rattle.lsda_read.specs.SiteRests.{faults_of, site_rest}
use Rattle.table_forms.proofs.Least.{least-append}

pub three : (a b c : List Fault) → least (a ++ b ++ c) ≡ joined (joined (least a) (least b)) (least c)
three a b c = least-append (a ++ b) c ∙ ap (λ o. joined o (least c)) (least-append a b)

pub site_more : (memory : Memory) (part : Part) (region : Region64) (h : Head) (bytes : List ℕ) (before p next n : ℕ) (r : SiteRecord) →
    nat_lt p h.actions_at ≡ true → record_at bytes part.file_at h p ≡ Ok (r, next) →
    site_rest memory part region h bytes before (suc n) p ≡
    joined (joined (least (site_faults memory (part.file_at + r.at) region before (site_of h region r))) (least (action_faults memory part h r)))
    (site_rest memory part region h bytes (site_of h region r).end n next)
unfolding records_within
site_more memory part region h bytes before p next n r inside read =
    let more = records_within n bytes part.file_at h in
    let A = site_faults memory (part.file_at + r.at) region before (site_of h region r) in
    let B = action_faults memory part h r in
    let C = records_faults memory part region h (site_of h region r).end (more next).records in
    let D = (more next).cut in
    ap (λ b. least (faults_of memory part region h before (records_from b (record_at bytes part.file_at h p) more))) inside ∙
    ap (λ x. least (faults_of memory part region h before (records_from true x more))) read ∙
    ap least (append_assoc (A ++ B) C D) ∙ three A B (C ++ D)

pub site_ends : (memory : Memory) (part : Part) (region : Region64) (h : Head) (bytes : List ℕ) (before p n : ℕ) →
    nat_lt p h.actions_at ≡ false → site_rest memory part region h bytes before (suc n) p ≡ None
unfolding records_within least
site_ends memory part region h bytes before p n outside =
    ap (λ b. least (faults_of memory part region h before (records_from b (record_at bytes part.file_at h p) (records_within n bytes part.file_at h)))) outside

pub site_cut : (memory : Memory) (part : Part) (region : Region64) (h : Head) (bytes : List ℕ) (before p n : ℕ) (f : Fault) →
    nat_lt p h.actions_at ≡ true → record_at bytes part.file_at h p ≡ Err f → site_rest memory part region h bytes before (suc n) p ≡ Some f
unfolding records_within least
site_cut memory part region h bytes before p n f inside read =
    ap (λ b. least (faults_of memory part region h before (records_from b (record_at bytes part.file_at h p) (records_within n bytes part.file_at h)))) inside ∙
    ap (λ x. least (faults_of memory part region h before (records_from true x (records_within n bytes part.file_at h)))) read
