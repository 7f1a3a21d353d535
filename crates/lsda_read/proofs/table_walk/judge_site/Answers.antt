use Rattle.std.specs.Ordering.{nat_cmp}
use Rattle.std.specs.BTreeMap.{get}
use Rattle.std.proofs.Common.{◌≡◌, ◌+◌, option_map, ap, sym, ◌∙◌}
use Rattle.eh_bytes.specs.Memory.{part_of, memory_of}
use Rattle.table_forms.specs.Fault.{joined, least}
use Rattle.table_forms.specs.LsdaSites.{site_of, site_faults}
use Rattle.table_forms.specs.Lsda.{action_faults}
use Rattle.table_forms.specs.Seen.{fault_of}
use Rattle.table_forms.proofs.Least.{joined_joined}
use Rattle.lsda_read.specs.Heads.{head_seen}
use Rattle.lsda_read.specs.Sites.{record_of}
use Rattle.lsda_read.proofs.KnownMore.{chains_stay, lists_stay, on_ok}
use Rattle.lsda_read.proofs.table_walk.judge_site.Goals as goal

pub judge_action-requires-clause-chains : goal.judge_action-requires-clause-chains
judge_action-requires-clause-chains c =
    chains_stay (memory_of c.args.memory.now) (part_of c.args.segment.now) (head_seen c.args.head.now) (option_map fault_of c.args.known.now.least) (option_map fault_of c.joined-known.result)
    (option_map fault_of c.site_refusal-here.result) (get nat_cmp c.args.known.now.chains) c.joined-known.ensures c.requires.chains

pub judge_action-requires-clause-lists : goal.judge_action-requires-clause-lists
judge_action-requires-clause-lists c =
    lists_stay (memory_of c.args.memory.now) (part_of c.args.segment.now) (head_seen c.args.head.now) (option_map fault_of c.args.known.now.least) (option_map fault_of c.joined-known.result)
    (option_map fault_of c.site_refusal-here.result) (get nat_cmp c.args.known.now.lists) c.joined-known.ensures c.requires.lists

pub returns-clause-stands : goal.returns-clause-stands
returns-clause-stands c =
    let m = memory_of c.args.memory.now in let s = part_of c.args.segment.now in let h = head_seen c.args.head.now in
    let L = option_map fault_of c.args.known.now.least in
    let here = least (site_faults m (c.args.segment.now.file_at + c.args.row.now.at) c.args.region c.args.before (site_of h c.args.region (record_of c.args.row.now))) in
    let chain = least (action_faults m s h (record_of c.args.row.now)) in
    on_ok c.judge_action.result (option_map fault_of c.judge_action.new.known.least ≡ joined (option_map fault_of c.joined-known.result) chain)
    (option_map fault_of c.judge_action.new.known.least ≡ joined L (joined here chain))
    (λ e. e ∙ ap (λ o. joined o chain) (c.joined-known.ensures ∙ ap (joined L) c.site_refusal-here.ensures) ∙ sym (joined_joined L here chain)) c.judge_action.ensures.stands
