use Rattle.std.proofs.lemmas.Int.{to_z-of_z}
use mir.Val.{SFits}
use Rattle.std.proofs.Common.{rules, w64, ◌≡◌, ◌+◌, ◌-◌, ◌<◌, ◌^◌, suc, option_map, vec_len, ap, sym, subst, ◌∙◌, Some, arith}
use Rattle.eh_bytes.specs.Memory.{part_of, memory_of}
use Rattle.table_forms.specs.declared.found.Next.{Next}
use Rattle.table_forms.specs.declared.found.Action.TheVariants.{Record}
use Rattle.table_forms.specs.declared.reason.Reason.TheVariants.{ActionOutside}
use Rattle.table_forms.specs.Fault.{fault, least, joined}
use Rattle.table_forms.specs.LsdaTypes.{filter_faults}
use Rattle.table_forms.proofs.Least.{joined_joined, joined_none}
use Rattle.table_forms.specs.Seen.{fault_of}
use Rattle.lsda_read.specs.Heads.{head_seen}
use Rattle.lsda_read.specs.Filters.{IsNear}
use Rattle.lsda_read.specs.Rests.{chain_rest}
use Rattle.lsda_read.proofs.Chains.{chain_outside, chain_ranged, chain_ends, chain_leaves, chain_goes, chain_loops}
use Rattle.lsda_read.proofs.chain.chain_refusal.Goals as goal

pub returns-in-Outside : goal.returns-in-Outside
returns-in-Outside c =
    let m = memory_of c.args.memory.now in let s = part_of c.args.segment.now in let h = head_seen c.args.head.now in
    let site = c.args.site in let a = c.args.action in let p = c.loop.place in
    let L = option_map fault_of c.loop.least in
    let n = 1 + vec_len c.args.segment.now.bytes - (c.loop.counter + 1) in
    let count : 1 + vec_len c.args.segment.now.bytes - c.loop.counter ≡ suc n = omega (arith, c.loop-test.true) in
    let inv = c.loop.invariant.1 ∙ ap (λ k. joined L (chain_rest m s h site a k p)) count in
    c.joined.ensures ∙ ap (joined L) (ap Some c.refused.ensures ∙ sym (chain_outside m s h site a p n (sym c.in-Outside.ensures.action))) ∙ sym inv

pub returns-in-Ranged : goal.returns-in-Ranged
returns-in-Ranged c =
    let m = memory_of c.args.memory.now in let s = part_of c.args.segment.now in let h = head_seen c.args.head.now in
    let site = c.args.site in let a = c.args.action in let p = c.loop.place in
    let L = option_map fault_of c.loop.least in
    let n = 1 + vec_len c.args.segment.now.bytes - (c.loop.counter + 1) in
    let count : 1 + vec_len c.args.segment.now.bytes - c.loop.counter ≡ suc n = omega (arith, c.loop-test.true) in
    let inv = c.loop.invariant.1 ∙ ap (λ k. joined L (chain_rest m s h site a k p)) count in
    c.joined-in-Ranged.ensures ∙ ap (joined L) (ap Some c.refused-in-Ranged.ensures ∙ sym (chain_ranged m s h site a p n c.in-Ranged.at (sym c.in-Ranged.ensures.action))) ∙ sym inv

pub returns-in-Ends : goal.returns-in-Ends
returns-in-Ends c =
    let m = memory_of c.args.memory.now in let s = part_of c.args.segment.now in let h = head_seen c.args.head.now in
    let site = c.args.site in let a = c.args.action in let p = c.loop.place in
    let L = option_map fault_of c.loop.least in
    let n = 1 + vec_len c.args.segment.now.bytes - (c.loop.counter + 1) in
    let count : 1 + vec_len c.args.segment.now.bytes - c.loop.counter ≡ suc n = omega (arith, c.loop-test.true) in
    let inv = c.loop.invariant.1 ∙ ap (λ k. joined L (chain_rest m s h site a k p)) count in
    let ff = least (filter_faults m s h h.types p c.in-Record.filter) in
    let fits : SFits w64 c.in-Record.filter = search rules in
    let so_far = c.joined-least.ensures ∙ ap (joined L) (c.filter_refusal.ensures ∙ ap (λ z. least (filter_faults m s h h.types p z)) (to_z-of_z w64 c.in-Record.filter fits)) in
    let read = sym c.in-Record.ensures.action ∙ ap (Record c.in-Record.filter) c.in-Ends.is in
    so_far ∙ ap (joined L) (joined_none ff ∙ sym (chain_ends m s h site a p n c.in-Record.filter read)) ∙ sym inv

pub returns-in-Leaves : goal.returns-in-Leaves
returns-in-Leaves c =
    let m = memory_of c.args.memory.now in let s = part_of c.args.segment.now in let h = head_seen c.args.head.now in
    let site = c.args.site in let a = c.args.action in let p = c.loop.place in
    let L = option_map fault_of c.loop.least in
    let n = 1 + vec_len c.args.segment.now.bytes - (c.loop.counter + 1) in
    let count : 1 + vec_len c.args.segment.now.bytes - c.loop.counter ≡ suc n = omega (arith, c.loop-test.true) in
    let inv = c.loop.invariant.1 ∙ ap (λ k. joined L (chain_rest m s h site a k p)) count in
    let ff = least (filter_faults m s h h.types p c.in-Record.filter) in
    let fits : SFits w64 c.in-Record.filter = search rules in
    let so_far = c.joined-least.ensures ∙ ap (joined L) (c.filter_refusal.ensures ∙ ap (λ z. least (filter_faults m s h h.types p z)) (to_z-of_z w64 c.in-Record.filter fits)) in
    let read = sym c.in-Record.ensures.action ∙ ap (Record c.in-Record.filter) c.in-Leaves.is in
    let outside = Some (fault ActionOutside (s.file_at + site)) in
    c.joined-in-Leaves.ensures ∙ ap (λ o. joined o (Some (fault_of c.refused-in-Leaves.result))) so_far ∙
    ap (λ f. joined (joined L ff) (Some f)) c.refused-in-Leaves.ensures ∙
    sym (joined_joined L ff outside) ∙ ap (joined L) (sym (chain_leaves m s h site a p n c.in-Record.filter read)) ∙ sym inv

pub loop-preserved : goal.loop-preserved
loop-preserved c =
    let m = memory_of c.args.memory.now in let s = part_of c.args.segment.now in let h = head_seen c.args.head.now in
    let site = c.args.site in let a = c.args.action in let p = c.loop.place in
    let L = option_map fault_of c.loop.least in
    let n = 1 + vec_len c.args.segment.now.bytes - (c.loop.counter + 1) in
    let count : 1 + vec_len c.args.segment.now.bytes - c.loop.counter ≡ suc n = omega (arith, c.loop-test.true) in
    let inv = c.loop.invariant.1 ∙ ap (λ k. joined L (chain_rest m s h site a k p)) count in
    let ff = least (filter_faults m s h h.types p c.in-Record.filter) in
    let fits : SFits w64 c.in-Record.filter = search rules in
    let so_far = c.joined-least.ensures ∙ ap (joined L) (c.filter_refusal.ensures ∙ ap (λ z. least (filter_faults m s h h.types p z)) (to_z-of_z w64 c.in-Record.filter fits)) in
    let read = sym c.in-Record.ensures.action ∙ ap (Record c.in-Record.filter) c.in-Goes.is in
    let rest = chain_rest m s h site a n c.in-Goes.next in
    let P : Next → Type 0 = λ x. IsNear x in
    let near : c.in-Goes.next < 2 ^ 65 = subst P c.in-Goes.is c.in-Record.ensures.near in (
      omega (arith, near),
      inv ∙ ap (joined L) (chain_goes m s h site a p n c.in-Goes.next c.in-Record.filter read) ∙ joined_joined L ff rest ∙ ap (λ o. joined o rest) (sym so_far),
    )

pub returns : goal.returns
returns c =
    let m = memory_of c.args.memory.now in let s = part_of c.args.segment.now in let h = head_seen c.args.head.now in
    let site = c.args.site in let a = c.args.action in let p = c.loop.place in
    let L = option_map fault_of c.loop.least in
    let none : 1 + vec_len c.args.segment.now.bytes - c.loop.counter ≡ 0 = omega (arith, c.loop-test.false) in
    let inv = c.loop.invariant.1 ∙ ap (λ k. joined L (chain_rest m s h site a k p)) none in
    c.joined-2.ensures ∙ ap (joined L) (ap Some c.refused-2.ensures ∙ sym (chain_loops m s h site a p)) ∙ sym inv
