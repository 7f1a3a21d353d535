use Rattle.std.specs.Ordering.{nat_cmp}
use Rattle.std.specs.BTreeMap.{get}
use Rattle.std.proofs.Common.{◌≤◌, ◌<◌, ◌+◌, List, ℕ, Option, length, option_map, arith, ap, refl, sym, subst, ◌∙◌}
use Rattle.eh_bytes.specs.Memory.{part_of, memory_of}
use Rattle.table_forms.specs.Fault.{Fault, joined}
use Rattle.table_forms.specs.Seen.{fault_of}
use Rattle.lsda_read.specs.Heads.{head_seen, types_of}
use Rattle.lsda_read.specs.declared.list_walk.ListTurn.{ListTurn}
use Rattle.lsda_read.specs.declared.list_walk.Met.{Met}
use Rattle.lsda_read.specs.declared.known.ListEnd.{ListEnd}
use Rattle.lsda_read.specs.KnownLists.{IsListTurn, IsListWalked, IsEntryJudged, rest_of_list}
use Rattle.lsda_read.proofs.ListWalking.{ListWalking, list_begins, list_goes_on, list_is_met, list_is_over}
use Rattle.lsda_read.proofs.list_walk.walk_list.Goals as goal

pub indices-init : goal.indices-init
indices-init c =
    let m = memory_of c.args.memory.now in let s = part_of c.args.segment.now in let h = head_seen c.args.head.now in let t = types_of c.args.types.now in
    let L = option_map fault_of c.args.known.now.least in let lists = get nat_cmp c.args.known.now.lists in
    let inside : c.args.first ≤ length c.args.segment.now.bytes.items = omega (arith, c.requires.inside) in
    let whole = joined L (rest_of_list m s h t c.args.named_at c.args.first (1 + length c.args.segment.now.bytes.items) c.args.first) in
    let P : List Met → Type 0 = λ path. ListWalking m s h t c.args.named_at c.args.first whole L lists path c.args.first in
    (subst P (sym c.requires.path) (list_begins m s h t c.args.named_at c.args.first L lists inside c.requires.typed c.requires.lists), refl)

pub returns-in-Some-clause-walked : goal.returns-in-Some-clause-walked
returns-in-Some-clause-walked c =
    let m = memory_of c.args.memory.now in let s = part_of c.args.segment.now in let h = head_seen c.args.head.now in let t = types_of c.args.types.now in
    let L = option_map fault_of c.args.known.now.least in
    let whole = joined L (rest_of_list m s h t c.args.named_at c.args.first (1 + length c.args.segment.now.bytes.items) c.args.first) in
    list_is_met m s h t c.args.named_at c.args.first whole (option_map fault_of c.indices.known.least) (get nat_cmp c.indices.known.lists) c.indices.path.items c.indices.place c.in-Some.end.now
    c.indices.invariant.0 (sym c.in-Some.ensures.value)

pub returns-in-Some-clause-chains : goal.returns-in-Some-clause-chains
returns-in-Some-clause-chains c = c.indices.invariant.1

pub judge_index-requires : goal.judge_index-requires
judge_index-requires c = omega (arith, c.indices.invariant.0.inside)

pub returns-in-Over-clause-walked : goal.returns-in-Over-clause-walked
returns-in-Over-clause-walked c =
    let m = memory_of c.args.memory.now in let s = part_of c.args.segment.now in let h = head_seen c.args.head.now in let t = types_of c.args.types.now in
    let L = option_map fault_of c.args.known.now.least in
    let before = option_map fault_of c.indices.known.least in let now = option_map fault_of c.judge_index.new.known.least in
    let whole = joined L (rest_of_list m s h t c.args.named_at c.args.first (1 + length c.args.segment.now.bytes.items) c.args.first) in
    let P : ListTurn → Type 0 = λ turn. IsListTurn m s h t before now c.indices.place turn in
    let over = subst P c.in-Over.is (c.judge_index.ensures.turn m h t) in
    let W : (ℕ → Option ListEnd) → Type 0 = λ lists. IsListWalked m s h t c.args.named_at c.args.first whole now lists c.indices.path.items c.in-Over.end in
    subst W (ap (get nat_cmp) (sym c.judge_index.ensures.lists))
    (list_is_over m s h t c.args.named_at c.args.first whole before now (get nat_cmp c.indices.known.lists) c.indices.path.items c.indices.place c.in-Over.end c.indices.invariant.0 over)

pub returns-in-Over-clause-chains : goal.returns-in-Over-clause-chains
returns-in-Over-clause-chains c = c.judge_index.ensures.chains ∙ c.indices.invariant.1

pub returns-in_err-push-in-On-clause-chains : goal.returns-in_err-push-in-On-clause-chains
returns-in_err-push-in-On-clause-chains c = c.judge_entry-outside.ensures.chains ∙ c.judge_index.ensures.chains ∙ c.indices.invariant.1

pub indices-smaller : goal.indices-smaller
indices-smaller c =
    let m = memory_of c.args.memory.now in let s = part_of c.args.segment.now in let h = head_seen c.args.head.now in let t = types_of c.args.types.now in
    let P : ListTurn → Type 0 = λ turn. IsListTurn m s h t (option_map fault_of c.indices.known.least) (option_map fault_of c.judge_index.new.known.least) c.indices.place turn in
    let on = subst P c.in-On.is (c.judge_index.ensures.turn m h t) in
    let further : c.indices.place < c.in-On.next = on.0.on in
    let inside : c.in-On.next ≤ length c.args.segment.now.bytes.items = on.0.inside in
    omega (arith, further, inside)

pub indices-preserved : goal.indices-preserved
indices-preserved c =
    let m = memory_of c.args.memory.now in let s = part_of c.args.segment.now in let h = head_seen c.args.head.now in let t = types_of c.args.types.now in
    let L = option_map fault_of c.args.known.now.least in
    let before = option_map fault_of c.indices.known.least in let middle = option_map fault_of c.judge_index.new.known.least in let now = option_map fault_of c.judge_entry-outside.new.known.least in
    let whole = joined L (rest_of_list m s h t c.args.named_at c.args.first (1 + length c.args.segment.now.bytes.items) c.args.first) in
    let P : ListTurn → Type 0 = λ turn. IsListTurn m s h t before middle c.indices.place turn in
    let on = subst P c.in-On.is (c.judge_index.ensures.turn m h t) in
    let met : Met = record { place = c.indices.place; outside = c.judge_entry-outside.result } in
    let J : Option Fault → Type 0 = λ o. IsEntryJudged m s h t o now c.args.named_at c.in-On.index c.judge_entry-outside.result in
    let judged = subst J on.1 c.judge_entry-outside.ensures.entry in
    let lists = c.judge_entry-outside.ensures.lists ∙ c.judge_index.ensures.lists in
    let W : (ℕ → Option ListEnd) → Type 0 = λ k. ListWalking m s h t c.args.named_at c.args.first whole now k c.push.new.self.items c.in-On.next in
    let V : List Met → Type 0 = λ path. ListWalking m s h t c.args.named_at c.args.first whole now (get nat_cmp c.indices.known.lists) path c.in-On.next in (
      subst W (ap (get nat_cmp) (sym lists)) (subst V (sym c.in_ok-push-in-On.ensures.items)
          (list_goes_on m s h t c.args.named_at c.args.first whole before now (get nat_cmp c.indices.known.lists) c.indices.path.items met c.in-On.index c.in-On.next c.indices.invariant.0 on.0 judged)),
      c.judge_entry-outside.ensures.chains ∙ c.judge_index.ensures.chains ∙ c.indices.invariant.1,
    )
