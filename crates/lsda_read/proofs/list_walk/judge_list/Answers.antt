use Rattle.std.specs.Ordering.{nat_cmp}
use Rattle.std.specs.BTreeMap.{get}
use Rattle.std.proofs.Common.{◌+◌, length, option_map, ap, ◌∙◌}
use Rattle.eh_bytes.specs.Memory.{part_of, memory_of}
use Rattle.table_forms.specs.Fault.{joined}
use Rattle.table_forms.specs.Seen.{fault_of}
use Rattle.lsda_read.specs.Heads.{head_seen, types_of}
use Rattle.lsda_read.specs.KnownLists.{rest_of_list, with_indices}
use Rattle.lsda_read.proofs.KnownMore.{lists_stay}
use Rattle.lsda_read.proofs.ListWalking.{list_walked_known}
use Rattle.lsda_read.proofs.list_walk.judge_list.Goals as goal

pub returns-clause-lists : goal.returns-clause-lists
returns-clause-lists c =
    let m = memory_of c.args.memory.now in let s = part_of c.args.segment.now in let h = head_seen c.args.head.now in let t = types_of c.args.types.now in
    let L = option_map fault_of c.args.known.now.least in let stands = option_map fault_of c.walk_list.new.known.least in
    let lists = get nat_cmp c.walk_list.new.known.lists in
    let whole = joined L (rest_of_list m s h t c.args.named_at c.args.first (1 + length c.args.segment.now.bytes.items) c.args.first) in
    lists_stay m s h stands (option_map fault_of c.joined-known.result) (option_map fault_of c.list_end_refusal.result) (get nat_cmp c.keep_list.new.lists) c.joined-known.ensures
    (list_walked_known m s h t c.args.named_at c.args.first whole stands lists (get nat_cmp c.keep_list.new.lists) c.walk_list.new.path.items c.in_ok-end.end c.requires.typed
    c.in_ok-end.ensures.walked (λ p. c.in_ok-keep_list.ensures p ∙ ap (λ path. with_indices path c.in_ok-end.end lists p) c.as_slice.ensures.value))
