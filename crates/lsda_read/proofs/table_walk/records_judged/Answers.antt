use Rattle.std.proofs.Common.{rules, ◌≡◌, ◌+◌, ◌≤◌, true, false, nat_lt, option_map, vec_len, ap, sym, subst, ◌∙◌, Option, Some, None, arith}
use Rattle.std.proofs.lemmas.Bool.Decides.{nat_tests}
use Rattle.eh_bytes.specs.Memory.{part_of, memory_of}
use Rattle.table_forms.specs.Fault.{Fault, least, joined}
use Rattle.table_forms.specs.LsdaSites.{site_of, site_faults}
use Rattle.table_forms.specs.Lsda.{action_faults}
use Rattle.table_forms.proofs.Least.{joined_none}
use Rattle.table_forms.specs.Seen.{fault_of}
use Rattle.lsda_read.specs.Heads.{head_seen}
use Rattle.lsda_read.specs.Sites.{record_of}
use Rattle.lsda_read.specs.SiteRests.{site_rest}
use Rattle.lsda_read.proofs.KnownMore.{no_key}
use Rattle.lsda_read.proofs.OnWay.{OnWay, begins, goes_on, is_done}
use Rattle.lsda_read.proofs.Records.{site_more, site_ends, site_cut}
use Rattle.lsda_read.proofs.table_walk.records_judged.Goals as goal

pub records-init : goal.records-init
records-init c =
    let m = memory_of c.args.memory.now in let s = part_of c.args.segment.now in let h = head_seen c.args.head.now in
    let len = vec_len c.args.segment.now.bytes in
    let total = site_rest m s c.args.region h c.args.bytes.now 0 (1 + len) c.args.head.now.sites_at in
    let P : Option Fault → Type 0 = λ o. OnWay (site_rest m s c.args.region h c.args.bytes.now 0) len total o c.args.head.now.sites_at in (
      c.requires.start,
      search rules,
      subst P (ap (option_map fault_of) (sym c.new-known.ensures.least)) (begins (site_rest m s c.args.region h c.args.bytes.now 0) len c.args.head.now.sites_at),
      (λ p e at. absurd (no_key c.new-known.result.chains p e c.new-known.ensures.chains at)),
      λ types p e typed at. absurd (no_key c.new-known.result.lists p e c.new-known.ensures.lists at),
    )

pub record_of-requires : goal.record_of-requires
record_of-requires c = c.records.invariant.0

pub returns-in-Err : goal.returns-in-Err
returns-in-Err c =
    let m = memory_of c.args.memory.now in let s = part_of c.args.segment.now in let h = head_seen c.args.head.now in
    let region = c.args.region in let bs = c.args.bytes.now in let p = c.records.place in
    let len = vec_len c.args.segment.now.bytes in
    let L = option_map fault_of c.records.known.least in
    let R = site_rest m s region h bs in
    let total = R 0 (1 + len) c.args.head.now.sites_at in
    let short : p ≤ len = omega (arith, c.records.invariant.0, c.requires.short) in
    let inside : nat_lt p h.actions_at ≡ true = grind (arith, nat_tests, c.records-test.true) in
    c.joined.ensures ∙
    is_done (R c.records.before) len total L (Some (fault_of c.in-Err.e)) p short
    (λ n. site_cut m s region h bs c.records.before p n (fault_of c.in-Err.e) inside c.in-Err.ensures.reads) c.records.invariant.2

pub judge_site-requires-clause-chains : goal.judge_site-requires-clause-chains
judge_site-requires-clause-chains c = c.records.invariant.3

pub judge_site-requires-clause-lists : goal.judge_site-requires-clause-lists
judge_site-requires-clause-lists c = c.records.invariant.4

pub records-preserved : goal.records-preserved
records-preserved c =
    let m = memory_of c.args.memory.now in let s = part_of c.args.segment.now in let h = head_seen c.args.head.now in
    let region = c.args.region in let bs = c.args.bytes.now in let p = c.records.place in
    let len = vec_len c.args.segment.now.bytes in
    let L = option_map fault_of c.records.known.least in
    let R = site_rest m s region h bs in
    let total = R 0 (1 + len) c.args.head.now.sites_at in
    let short : p ≤ len = omega (arith, c.records.invariant.0, c.requires.short) in
    let inside : nat_lt p h.actions_at ≡ true = grind (arith, nat_tests, c.records-test.true) in
    let r = record_of c.in-Ok.row in
    let end' = region.start + c.in-Ok.row.start + c.in-Ok.row.length in
    let here = least (site_faults m (s.file_at + r.at) region c.records.before (site_of h region r)) in
    let chain = least (action_faults m s h r) in
    let P : Option Fault → Type 0 = λ o. OnWay (R end') len total o c.in-Ok.next in (
      c.in-Ok.ensures.inside,
      search rules,
      subst P (sym c.in_ok-judge_site-in-Ok.ensures.stands)
          (goes_on (R c.records.before) (R end') len total L (joined here chain) p c.in-Ok.next c.in-Ok.ensures.on short
          (λ n. site_more m s region h bs c.records.before p c.in-Ok.next n r inside c.in-Ok.ensures.reads) c.records.invariant.2),
      c.in_ok-judge_site-in-Ok.ensures.chains,
      c.in_ok-judge_site-in-Ok.ensures.lists,
    )

pub returns : goal.returns
returns c =
    let m = memory_of c.args.memory.now in let s = part_of c.args.segment.now in let h = head_seen c.args.head.now in
    let region = c.args.region in let bs = c.args.bytes.now in let p = c.records.place in
    let len = vec_len c.args.segment.now.bytes in
    let L = option_map fault_of c.records.known.least in
    let R = site_rest m s region h bs in
    let total = R 0 (1 + len) c.args.head.now.sites_at in
    let short : p ≤ len = omega (arith, c.records.invariant.0, c.requires.short) in
    let outside : nat_lt p h.actions_at ≡ false = grind (arith, nat_tests, c.records-test.false) in
    joined_none L ∙ is_done (R c.records.before) len total L None p short (λ n. site_ends m s region h bs c.records.before p n outside) c.records.invariant.2
