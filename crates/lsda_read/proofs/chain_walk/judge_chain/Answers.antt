use Rattle.std.specs.Ordering.{nat_cmp}
use Rattle.std.specs.BTreeMap.{get}
use Rattle.std.proofs.Common.{◌+◌, length, ℕ, Option, option_map, ap, ◌∙◌}
use Rattle.eh_bytes.specs.Memory.{part_of, memory_of}
use Rattle.table_forms.specs.Fault.{Fault, joined}
use Rattle.table_forms.specs.LsdaChain.{first_record}
use Rattle.table_forms.specs.Seen.{fault_of}
use Rattle.lsda_read.specs.Heads.{head_seen}
use Rattle.lsda_read.specs.Rests.{chain_rest}
use Rattle.lsda_read.specs.Known.{with_path}
use Rattle.lsda_read.proofs.KnownMore.{chains_stay, lists_stay, walked_known}
use Rattle.lsda_read.proofs.chain_walk.judge_chain.Goals as goal

pub returns-clause-chains : goal.returns-clause-chains
returns-clause-chains c =
    let m = memory_of c.args.memory.now in let s = part_of c.args.segment.now in let h = head_seen c.args.head.now in
    let L = option_map fault_of c.args.known.now.least in let stands = option_map fault_of c.walk.new.known.least in
    let whole : ℕ → ℕ → Option Fault = λ site a. joined L (chain_rest m s h site a (1 + length c.args.segment.now.bytes.items) (first_record h c.args.action)) in
    chains_stay m s h stands (option_map fault_of c.joined-known.result) (option_map fault_of c.end_refusal.result) (get nat_cmp c.keep.new.chains) c.joined-known.ensures
    (walked_known m s h whole stands (get nat_cmp c.walk.new.known.chains) (get nat_cmp c.keep.new.chains) c.walk.new.path.items c.in_ok-end.end c.in_ok-end.ensures.walked
    (λ p. c.in_ok-keep.ensures p ∙ ap (λ path. with_path path c.in_ok-end.end (get nat_cmp c.walk.new.known.chains) p) c.as_slice.ensures.value))

pub returns-clause-lists : goal.returns-clause-lists
returns-clause-lists c =
    lists_stay (memory_of c.args.memory.now) (part_of c.args.segment.now) (head_seen c.args.head.now) (option_map fault_of c.walk.new.known.least) (option_map fault_of c.joined-known.result)
    (option_map fault_of c.end_refusal.result) (get nat_cmp c.walk.new.known.lists) c.joined-known.ensures c.in_ok-end.ensures.lists
