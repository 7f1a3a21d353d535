use Rattle.std.proofs.Common.{◌∙◌, ◌-◌, ◌+◌, ℕ, List, Bor, map, drop, sym, ap}
use Rattle.std.proofs.lemmas.List.{drop_all}
use Rattle.eh_outer.specs.declared.module.Reply.{Reply}
use Rattle.command_line.specs.Script.{run_of, runs_within}
use Rattle.command_line.proofs.Lists.{all_read, with_front}
use Rattle.command_line.proofs.Runs.{next_text, read_end, read_many, read_none, read_one}
use Rattle.command_line.proofs.script.runs_in.Goals as goal

pub returns-in_default : goal.returns-in_default
returns-in_default c =
    let next = next_text c.args.items.now c.loop-item.item-index _ c.loop-item-test.true in
    let none = ap run_of (sym c.as_bytes.ensures.value) ∙ sym c.run_of.ensures ∙ c.in_default.is in
    sym c.loop-item.invariant ∙ ap (with_front c.loop-item.runs.items) (ap (runs_within c.loop-item.left) next ∙ read_none c.loop-item.left _ _ none)

pub returns-then-count-left : goal.returns-then-count-left
returns-then-count-left c =
    let next = next_text c.args.items.now c.loop-item.item-index _ c.loop-item-test.true in
    let some = ap run_of (sym c.as_bytes.ensures.value) ∙ sym c.run_of.ensures ∙ c.in-Some.is in
    sym c.loop-item.invariant ∙ ap (with_front c.loop-item.runs.items) (ap (runs_within c.loop-item.left) next ∙ read_many c.loop-item.left _ _ _ some c.if-count-left.true)

pub loop-item-preserved : goal.loop-item-preserved
loop-item-preserved c =
    let left = c.loop-item.left in
    let runs = c.loop-item.runs.items in
    let others = map (λ (x : Bor (List ℕ)). x.now) (drop (c.loop-item.item-index + 1) c.args.items.now) in
    let next = next_text c.args.items.now c.loop-item.item-index _ c.loop-item-test.true in
    let some = ap run_of (sym c.as_bytes.ensures.value) ∙ sym c.run_of.ensures ∙ c.in-Some.is in
    ap (λ (xs : List (Reply × ℕ)). with_front xs (runs_within (left - c.in-Some.count) others)) c.in_ok-push.ensures.items
    ∙ (read_one left _ others runs _ some c.if-count-left.false
    ∙ (ap (λ ts. with_front runs (runs_within left ts)) (sym next)
    ∙ c.loop-item.invariant))

pub returns : goal.returns
returns c =
    let left = c.loop-item.left in
    let runs = c.loop-item.runs.items in
    let none = drop_all c.loop-item.item-index c.args.items.now c.loop-item-test.false in
    sym c.loop-item.invariant
    ∙ (ap (λ (xs : List (Bor (List ℕ))). with_front runs (runs_within left (map (λ x. x.now) xs))) none
    ∙ (ap (with_front runs) (read_end left)
    ∙ all_read runs))
