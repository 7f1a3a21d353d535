use Rattle.std.proofs.Common.{rules, ◌≡◌, ◌+◌, ◌==◌, List, ℕ, true, Ok, Err, length, vec_len, ap, sym, subst, ◌∙◌}
use Rattle.eh_bytes.specs.Memory.{part_of, is_code}
use Rattle.table_forms.specs.LsdaSites.{site_records, records_within}
use Rattle.eh_bytes.specs.Field.{at, byte}
use Rattle.table_forms.specs.Fault.{table_reason, with_reason}
use Rattle.table_forms.specs.LsdaHead.{in_table}
use Rattle.table_forms.specs.Seen.{fault_of}
use Rattle.lsda_read.specs.Heads.{head_seen}
use Rattle.lsda_read.specs.Demands.{AreCode, Covers, IsRising}
use Rattle.lsda_read.proofs.Asking.{all_from_keys, keys_rise}
use Rattle.lsda_read.proofs.Suited.{suited, no_head, no_byte}
use Rattle.lsda_read.proofs.demands.demands_in.Goals as goal

pub returns-in_default-clause-serve : goal.returns-in_default-clause-serve
returns-in_default-clause-serve c = λ m t other given suits.
    let s = part_of c.args.segment.now in let p = c.args.place in let f = fault_of c.in_default.field-0 in
    let read : in_table byte s p ≡ Err f = ap (λ bytes. with_reason table_reason (s.file_at + p) (at byte bytes p)) (sym c.as_slice.ensures.value) ∙ c.in_default.ensures.reads in
    absurd (no_head m s c.args.region p f t (no_byte s c.args.region p f read) given)

pub returns-in_default-head_of-clause-serve : goal.returns-in_default-head_of-clause-serve
returns-in_default-head_of-clause-serve c = λ m t other given suits.
    absurd (no_head m (part_of c.args.segment.now) c.args.region c.args.place (fault_of c.in_default-head_of.field-0) t c.in_default-head_of.ensures.reads given)

pub returns-clause-rising : goal.returns-clause-rising
returns-clause-rising c = subst IsRising (sym c.in_ok-keys_of.ensures) (keys_rise c.as_slice-2.result.now)

pub returns-clause-serve : goal.returns-clause-serve
returns-clause-serve c = λ m t other given suits.
    let s = part_of c.args.segment.now in let p = c.args.place in let h = head_seen c.in-Ok-head_of.head in
    let moves = c.in-Ok.lp_start == 255 in let pads = c.in_ok-reach.pads.items in
    let read : in_table byte s p ≡ Ok (c.in-Ok.lp_start, c.in-Ok.field-0-1) =
    ap (λ bytes. with_reason table_reason (s.file_at + p) (at byte bytes p)) (sym c.as_slice.ensures.value) ∙ c.in-Ok.ensures.reads in
    let len : vec_len c.args.segment.now.bytes ≡ length s.bytes = search rules in
    let P : ℕ → Type 0 = λ n. Covers moves c.in_ok-reach.reach pads (records_within (1 + n) c.site_bytes.result.now s.file_at h h.sites_at).records in
    let Q : List ℕ → Type 0 = λ bytes. Covers moves c.in_ok-reach.reach pads (records_within (1 + length s.bytes) bytes s.file_at h h.sites_at).records in
    let covers : Covers moves c.in_ok-reach.reach pads (site_records s h).records = subst Q c.site_bytes.ensures.bytes (subst P len c.in_ok-reach.ensures) in
    let R : List ℕ → Type 0 = λ xs. AreCode m other.start xs in
    let code = subst R c.as_slice-2.ensures.value (all_from_keys (λ pad. is_code m (other.start + pad) ≡ true) c.as_slice-2.result.now (subst R c.in_ok-keys_of.ensures suits.1)) in
    suited m s c.args.region other p c.in-Ok.lp_start c.in-Ok.field-0-1 c.in_ok-reach.reach h pads t read c.in-Ok-head_of.ensures.reads covers given suits.0 code
