use Rattle.std.proofs.lemmas.Int.{to_z-of_z}
use mir.Val.{SFits}
use Rattle.std.specs.Ordering.{nat_cmp}
use Rattle.std.specs.BTreeMap.{get}
use Rattle.std.proofs.Common.{rules, w64, option_map, Some, ap, sym, ◌∙◌}
use Rattle.eh_bytes.specs.Memory.{part_of, memory_of}
use Rattle.table_forms.specs.declared.found.Action.TheVariants.{Record}
use Rattle.table_forms.specs.Fault.{least, joined}
use Rattle.table_forms.specs.LsdaTypes.{filter_faults}
use Rattle.table_forms.specs.Seen.{fault_of}
use Rattle.lsda_read.specs.Heads.{head_seen}
use Rattle.lsda_read.proofs.KnownMore.{lists_stay}
use Rattle.lsda_read.proofs.Turning.{over_outside, over_ranged, over_ends, over_leaves}
use Rattle.lsda_read.proofs.chain_walk.judge_record.Goals as goal

pub returns-in-Outside-clause-turn : goal.returns-in-Outside-clause-turn
returns-in-Outside-clause-turn c =
    over_outside (memory_of c.args.memory.now) (part_of c.args.segment.now) (head_seen c.args.head.now) (option_map fault_of c.args.known.now.least) c.args.place
    (sym c.in-Outside.ensures.action)

pub returns-in-Ranged-clause-turn : goal.returns-in-Ranged-clause-turn
returns-in-Ranged-clause-turn c =
    over_ranged (memory_of c.args.memory.now) (part_of c.args.segment.now) (head_seen c.args.head.now) (option_map fault_of c.args.known.now.least) (option_map fault_of c.joined-known.result)
    c.args.place c.in-Ranged.at (sym c.in-Ranged.ensures.action)
    (c.joined-known.ensures ∙ ap (λ f. joined (option_map fault_of c.args.known.now.least) (Some f)) c.refused-ranged.ensures)

pub returns-in-Ranged-clause-lists : goal.returns-in-Ranged-clause-lists
returns-in-Ranged-clause-lists c =
    lists_stay (memory_of c.args.memory.now) (part_of c.args.segment.now) (head_seen c.args.head.now) (option_map fault_of c.args.known.now.least) (option_map fault_of c.joined-known.result)
    (Some (fault_of c.refused-ranged.result)) (get nat_cmp c.args.known.now.lists) c.joined-known.ensures c.requires.lists

pub returns-in-Ends-clause-turn : goal.returns-in-Ends-clause-turn
returns-in-Ends-clause-turn c =
    let m = memory_of c.args.memory.now in let s = part_of c.args.segment.now in let h = head_seen c.args.head.now in
    let fits : SFits w64 c.in-Record.filter = search rules in
    let was = option_map fault_of c.args.known.now.least in
    over_ends m s h was (option_map fault_of c.judge_filter.new.known.least) c.args.place c.in-Record.filter
    (sym c.in-Record.ensures.action ∙ ap (Record c.in-Record.filter) c.in-Ends.is)
    (c.in_ok-judge_filter-in-Record.ensures.stands ∙ ap (λ z. joined was (least (filter_faults m s h h.types c.args.place z))) (to_z-of_z w64 c.in-Record.filter fits))

pub returns-in-Leaves-clause-turn : goal.returns-in-Leaves-clause-turn
returns-in-Leaves-clause-turn c =
    let m = memory_of c.args.memory.now in let s = part_of c.args.segment.now in let h = head_seen c.args.head.now in
    let fits : SFits w64 c.in-Record.filter = search rules in
    let was = option_map fault_of c.args.known.now.least in
    over_leaves m s h was (option_map fault_of c.judge_filter.new.known.least) c.args.place c.in-Record.filter
    (sym c.in-Record.ensures.action ∙ ap (Record c.in-Record.filter) c.in-Leaves.is)
    (c.in_ok-judge_filter-in-Record.ensures.stands ∙ ap (λ z. joined was (least (filter_faults m s h h.types c.args.place z))) (to_z-of_z w64 c.in-Record.filter fits))
