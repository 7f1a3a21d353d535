use Rattle.std.specs.Ordering.{nat_cmp}
use Rattle.std.specs.BTreeMap.{get}
use Rattle.std.proofs.Common.{◌≡◌, ◌+◌, ◌==◌, ℕ, Some, None, Option, option_map, length, ap, sym, subst, ◌∙◌, if◌then◌else◌, List}
use Rattle.eh_bytes.specs.Memory.{part_of, memory_of}
use Rattle.table_forms.specs.Fault.{Fault, joined}
use Rattle.table_forms.specs.Seen.{fault_of}
use Rattle.lsda_read.specs.Heads.{head_seen}
use Rattle.lsda_read.specs.Rests.{chain_rest}
use Rattle.lsda_read.specs.declared.known.ChainEnd.{ChainEnd}
use Rattle.lsda_read.specs.declared.known.ChainEnd.TheVariants as ends
use Rattle.lsda_read.specs.Known.{Walked, unknown}
use Rattle.lsda_read.specs.Turns.{IsTurn}
use Rattle.lsda_read.specs.declared.chain_walk.Turn.{Turn}
use Rattle.lsda_read.proofs.Path.{at_key}
use Rattle.lsda_read.proofs.Walking.{Walking, Puts, fewer, begins, goes_on, is_over, is_met}
use Rattle.lsda_read.proofs.chain_walk.walk.Goals as goal

pub walk-init : goal.walk-init
walk-init c =
    let m = memory_of c.args.memory.now in let s = part_of c.args.segment.now in let h = head_seen c.args.head.now in
    let L = option_map fault_of c.args.known.now.least in let chains = get nat_cmp c.args.known.now.chains in
    let whole : ℕ → ℕ → Option Fault = λ site a. joined L (chain_rest m s h site a (1 + length c.args.segment.now.bytes.items) c.args.first) in
    let P : List ℕ → Type 0 = λ path. Walking m s h whole (unknown chains (length c.args.segment.now.bytes.items)) L chains path c.args.first in (
      c.requires.near,
      subst P (sym c.requires.path) (begins m s h L chains c.args.first c.requires.chains),
      c.requires.lists,
    )

pub returns-in-Some-clause-walked : goal.returns-in-Some-clause-walked
returns-in-Some-clause-walked c =
    let m = memory_of c.args.memory.now in let s = part_of c.args.segment.now in let h = head_seen c.args.head.now in
    let L = option_map fault_of c.args.known.now.least in
    let whole : ℕ → ℕ → Option Fault = λ site a. joined L (chain_rest m s h site a (1 + length c.args.segment.now.bytes.items) c.args.first) in
    is_met m s h whole (unknown (get nat_cmp c.args.known.now.chains) (length c.args.segment.now.bytes.items)) (option_map fault_of c.walk.known.least) (get nat_cmp c.walk.known.chains)
    c.walk.path.items c.walk.place c.in-Some.end.now c.walk.invariant.1 (sym c.in-Some.ensures.value)

pub returns-in-Some-clause-lists : goal.returns-in-Some-clause-lists
returns-in-Some-clause-lists c = c.walk.invariant.2

pub judge_record-requires-clause-near : goal.judge_record-requires-clause-near
judge_record-requires-clause-near c = c.walk.invariant.0

pub judge_record-requires-clause-lists : goal.judge_record-requires-clause-lists
judge_record-requires-clause-lists c = c.walk.invariant.2

pub returns-in-Over-clause-walked : goal.returns-in-Over-clause-walked
returns-in-Over-clause-walked c =
    let m = memory_of c.args.memory.now in let s = part_of c.args.segment.now in let h = head_seen c.args.head.now in
    let L = option_map fault_of c.args.known.now.least in let before = option_map fault_of c.walk.known.least in let now = option_map fault_of c.judge_record.new.known.least in
    let whole : ℕ → ℕ → Option Fault = λ site a. joined L (chain_rest m s h site a (1 + length c.args.segment.now.bytes.items) c.args.first) in
    let P : Turn → Type 0 = λ t. IsTurn m s h before now c.walk.place t in
    let over = subst P c.in-Over.is c.in_ok-end.ensures.turn in
    let W : (ℕ → Option ChainEnd) → Type 0 = λ chains. Walked m s h whole now chains c.walk.path.items c.in-Over.end in
    subst W (ap (get nat_cmp) (sym c.in_ok-end.ensures.chains))
    (is_over m s h whole (unknown (get nat_cmp c.args.known.now.chains) (length c.args.segment.now.bytes.items)) before now (get nat_cmp c.walk.known.chains)
    c.walk.path.items c.walk.place c.in-Over.end c.walk.invariant.1 over)

pub walk-smaller : goal.walk-smaller
walk-smaller c =
    let m = memory_of c.args.memory.now in let s = part_of c.args.segment.now in let h = head_seen c.args.head.now in
    let P : Turn → Type 0 = λ t. IsTurn m s h (option_map fault_of c.walk.known.least) (option_map fault_of c.judge_record.new.known.least) c.walk.place t in
    let on = subst P c.in-On.is c.in_ok-end.ensures.turn in
    let chains = get nat_cmp c.walk.known.chains in
    let puts : Puts chains (get nat_cmp c.insert.new.self) c.walk.place ends.Repeated = λ q.
    c.in_ok-insert-in-On.ensures.updates.0 q ∙ ap (λ b. if b then Some ends.Repeated else get nat_cmp c.judge_record.new.known.chains q) (at_key c.walk.place q) ∙
    ap (λ k. if c.walk.place == q then Some ends.Repeated else get nat_cmp k q) c.in_ok-end.ensures.chains in
    let none : chains c.walk.place ≡ None = sym c.in_default.ensures.value in
    fewer s h chains (get nat_cmp c.insert.new.self) c.walk.place c.in-On.next on.filter on.next none puts

pub walk-preserved : goal.walk-preserved
walk-preserved c =
    let m = memory_of c.args.memory.now in let s = part_of c.args.segment.now in let h = head_seen c.args.head.now in
    let L = option_map fault_of c.args.known.now.least in let before = option_map fault_of c.walk.known.least in let now = option_map fault_of c.judge_record.new.known.least in
    let whole : ℕ → ℕ → Option Fault = λ site a. joined L (chain_rest m s h site a (1 + length c.args.segment.now.bytes.items) c.args.first) in
    let room = unknown (get nat_cmp c.args.known.now.chains) (length c.args.segment.now.bytes.items) in
    let P : Turn → Type 0 = λ t. IsTurn m s h before now c.walk.place t in
    let on = subst P c.in-On.is c.in_ok-end.ensures.turn in
    let chains = get nat_cmp c.walk.known.chains in
    let chains' = get nat_cmp c.insert.new.self in
    let puts : Puts chains chains' c.walk.place ends.Repeated = λ q.
    c.in_ok-insert-in-On.ensures.updates.0 q ∙ ap (λ b. if b then Some ends.Repeated else get nat_cmp c.judge_record.new.known.chains q) (at_key c.walk.place q) ∙
    ap (λ k. if c.walk.place == q then Some ends.Repeated else get nat_cmp k q) c.in_ok-end.ensures.chains in
    let none : chains c.walk.place ≡ None = sym c.in_default.ensures.value in
    let W : List ℕ → Type 0 = λ path. Walking m s h whole room now chains' path c.in-On.next in (
      on.near,
      subst W (sym c.in_ok-push-in-On.ensures.items) (goes_on m s h whole room before now chains chains' c.walk.path.items c.walk.place c.in-On.next c.walk.invariant.1 on none puts),
      c.in_ok-end.ensures.lists,
    )
