use Rattle.std.proofs.Common.{rules, ◌≡◌, ◌+◌, None, option_map, ap, sym, ◌∙◌}
use Rattle.eh_bytes.specs.Memory.{memory_of, part_of}
use Rattle.table_forms.specs.Header.{header_at}
use Rattle.table_forms.specs.Frames.{parts_behind, table_disagreement}
use Rattle.table_forms.specs.Seen.{fault_of}
use Rattle.frame_read.specs.Whole.{whole}
use Rattle.frame_read.proofs.Reading.{parts_there, fails_first, fails_table, reads_whole, reads_err, reads_ok, order_there, order_read}
use Rattle.frame_read.proofs.read.read_in.Goals as goal

pub returns-in-Some : goal.returns-in-Some
returns-in-Some c =
    let m = memory_of c.args.memory.now in let s = part_of c.args.segment.now in let p = c.args.place in
    let seen = c.in_ok-read.ensures in
    let parts = c.in_ok-parts.ensures ∙ ap (λ o. whole (parts_behind m (s.file_at + (p + 4)) o)) (ap (λ x. x.frames_at) seen) in
    let first = c.in-Some.ensures (header_at s p) (parts_there m p s) seen parts in
    reads_err _ (fault_of c.in-Some.refusal) c.into.result (fails_first m p s (fault_of c.in-Some.refusal) (sym first)) c.into.ensures

pub returns-in-Some-table_refusal : goal.returns-in-Some-table_refusal
returns-in-Some-table_refusal c =
    let m = memory_of c.args.memory.now in let s = part_of c.args.segment.now in let p = c.args.place in
    let seen = c.in_ok-read.ensures in
    let parts = c.in_ok-parts.ensures ∙ ap (λ o. whole (parts_behind m (s.file_at + (p + 4)) o)) (ap (λ x. x.frames_at) seen) in
    let none : c.first_refusal.result ≡ None = search rules in
    let first = ap (option_map fault_of) (sym none) ∙ c.first_refusal.ensures (header_at s p) (parts_there m p s) seen parts in
    let listed = c.deref.ensures.value ∙ ap (λ w. w.fdes) parts in
    let order = order_there m p s c.deref.result.now c.in_ok-order.order.items listed c.in_ok-order.ensures.permutation c.in_ok-order.ensures.order c.in_ok-order.ensures.stable in
    let table = c.in-Some-table_refusal.ensures (parts_there m p s).fdes (c.deref-2.ensures.value ∙ order) ∙
    ap (λ o. table_disagreement (s.file_at + (p + 12)) o (parts_there m p s).fdes) (ap (λ x. x.rows) seen) in
    reads_err _ (fault_of c.in-Some-table_refusal.refusal) c.into-in-Some-table_refusal.result (fails_table m p s (fault_of c.in-Some-table_refusal.refusal) (sym first) (sym table)) c.into-in-Some-table_refusal.ensures

pub of-requires : goal.of-requires
of-requires c =
    let m = memory_of c.args.memory.now in let s = part_of c.args.segment.now in let p = c.args.place in
    let seen = c.in_ok-read.ensures in
    let parts = c.in_ok-parts.ensures ∙ ap (λ o. whole (parts_behind m (s.file_at + (p + 4)) o)) (ap (λ x. x.frames_at) seen) in
    let none : c.first_refusal.result ≡ None = search rules in
    let first = ap (option_map fault_of) (sym none) ∙ c.first_refusal.ensures (header_at s p) (parts_there m p s) seen parts in
    let listed = ap (λ w. w.fdes) parts in
    let order = order_there m p s c.deref.result.now c.in_ok-order.order.items (c.deref.ensures.value ∙ listed)
    c.in_ok-order.ensures.permutation c.in_ok-order.ensures.order c.in_ok-order.ensures.stable in
    order_read m p s c.in_ok-parts.parts.fdes.items c.in_ok-order.order.items c.with_places.result.items (sym first) listed order c.with_places.ensures

pub returns : goal.returns
returns c =
    let m = memory_of c.args.memory.now in let s = part_of c.args.segment.now in let p = c.args.place in
    let seen = c.in_ok-read.ensures in
    let parts = c.in_ok-parts.ensures ∙ ap (λ o. whole (parts_behind m (s.file_at + (p + 4)) o)) (ap (λ x. x.frames_at) seen) in
    let none : c.first_refusal.result ≡ None = search rules in
    let first = ap (option_map fault_of) (sym none) ∙ c.first_refusal.ensures (header_at s p) (parts_there m p s) seen parts in
    let listed = c.deref.ensures.value ∙ ap (λ w. w.fdes) parts in
    let order = order_there m p s c.deref.result.now c.in_ok-order.order.items listed c.in_ok-order.ensures.permutation c.in_ok-order.ensures.order c.in_ok-order.ensures.stable in
    let agrees : c.table_refusal.result ≡ None = search rules in
    let table = ap (option_map fault_of) (sym agrees) ∙ c.table_refusal.ensures (parts_there m p s).fdes (c.deref-2.ensures.value ∙ order) ∙
    ap (λ o. table_disagreement (s.file_at + (p + 12)) o (parts_there m p s).fdes) (ap (λ x. x.rows) seen) in
    reads_ok m p s c.of.result (reads_whole m p s (sym first) (sym table)) (c.of.ensures ∙ ap (λ w. record { cies = w.cies; fdes = w.fdes }) parts)
