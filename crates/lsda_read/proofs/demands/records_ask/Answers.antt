use Rattle.std.proofs.Common.{◌≡◌, ◌≤◌, ◌+◌, true, false, nat_lt, vec_len, arith}
use Rattle.std.proofs.lemmas.Bool.Decides.{nat_tests}
use Rattle.table_forms.specs.LsdaSites.{records_within}
use Rattle.table_forms.specs.Seen.{fault_of}
use Rattle.lsda_read.specs.Heads.{head_seen}
use Rattle.lsda_read.specs.Sites.{record_of}
use Rattle.lsda_read.proofs.Asking.{asking, asks_more, asks_all, none_behind, none_read}
use Rattle.lsda_read.proofs.demands.records_ask.Goals as goal

pub records-init : goal.records-init
records-init c =
    let h = head_seen c.args.head.now in let bs = c.args.bytes.now in let file_at = c.args.segment.now.file_at in let len = vec_len c.args.segment.now.bytes in
    (c.requires.start, asking bs file_at h len c.args.moves c.new-pads.result.items c.args.head.now.sites_at)

pub returns-in-Err : goal.returns-in-Err
returns-in-Err c =
    let h = head_seen c.args.head.now in let bs = c.args.bytes.now in let file_at = c.args.segment.now.file_at in let len = vec_len c.args.segment.now.bytes in
    let p = c.records.place in
    let whole = (records_within (1 + len) bs file_at h c.args.head.now.sites_at).records in
    let short : p ≤ len = omega (arith, c.records.invariant.0, c.requires.short) in
    let within : nat_lt p h.actions_at ≡ true = grind (arith, nat_tests, c.records-test.true) in
    asks_all whole bs file_at h len c.args.moves c.records.reach c.records.pads.items p short (λ n. none_read bs file_at h n p (fault_of c.in-Err.field-0) within c.in-Err.ensures.reads) c.records.invariant.1

pub records-preserved : goal.records-preserved
records-preserved c =
    let h = head_seen c.args.head.now in let bs = c.args.bytes.now in let file_at = c.args.segment.now.file_at in let len = vec_len c.args.segment.now.bytes in
    let p = c.records.place in
    let whole = (records_within (1 + len) bs file_at h c.args.head.now.sites_at).records in
    let short : p ≤ len = omega (arith, c.records.invariant.0, c.requires.short) in
    let within : nat_lt p h.actions_at ≡ true = grind (arith, nat_tests, c.records-test.true) in (
      c.in-Ok.ensures.inside,
      asks_more whole bs file_at h len c.args.moves c.records.reach c.further-reach.result c.records.pads.items c.note_pad.new.pads.items p c.in-Ok.next (record_of c.in-Ok.row) within
          c.in-Ok.ensures.reads c.in-Ok.ensures.on short c.further-reach.ensures.first c.further-reach.ensures.second c.in_ok-note_pad-in-Ok.ensures c.records.invariant.1,
    )

pub returns : goal.returns
returns c =
    let h = head_seen c.args.head.now in let bs = c.args.bytes.now in let file_at = c.args.segment.now.file_at in let len = vec_len c.args.segment.now.bytes in
    let p = c.records.place in
    let whole = (records_within (1 + len) bs file_at h c.args.head.now.sites_at).records in
    let short : p ≤ len = omega (arith, c.records.invariant.0, c.requires.short) in
    let outside : nat_lt p h.actions_at ≡ false = grind (arith, nat_tests, c.records-test.false) in
    asks_all whole bs file_at h len c.args.moves c.records.reach c.records.pads.items p short (λ n. none_behind bs file_at h n p outside) c.records.invariant.1
