use Rattle.std.proofs.Common.{rules, ◌≡◌, ◌+◌, ◌<◌, ◌≤◌, ◌^◌, sym, subst, List, [], ◌∷◌, ◌++◌, length, take, drop, Some}
use Rattle.hart_sched.specs.Schedule.{Slice}
use Rattle.hart_sched.specs.Reads.{ReadsLine}
use Rattle.plain_text.proofs.Texts.{empty}
use Rattle.hart_sched.proofs.Walks.{SlicesIf, if_first, if_next, if_all, if_so, refuses_hart, refuses_turns, form_next_kept, form_fails, form_refused}
use Rattle.hart_sched.proofs.schedule.slices_of.Goals as goal

pub loop-rest-init : goal.loop-rest-init
loop-rest-init c = subst (λ (s : List Slice). SlicesIf c.args.harts c.args.text.now c.args.text.now s 0) (sym c.new-slices.ensures.items) (if_first c.args.harts c.args.text.now)

pub returns-in_default : goal.returns-in_default
returns-in_default c =
    let none = rw c.split_at.ensures.front at c.in_default.ensures.reads in
    form_refused c.args.harts c.args.text.now _ (form_fails c.args.text.now c.loop-rest.rest.now c.line_length.result c.loop-rest.invariant.form c.line_length.ensures none)

pub refusal_at-requires-clause-so_far : goal.refusal_at-requires-clause-so_far
refusal_at-requires-clause-so_far c =
    let read : ReadsLine (take c.line_length.result c.loop-rest.rest.now) (Some c.in-Some.numbers) = rw c.split_at.ensures.front at c.in-Some.ensures.reads in
    rw c.split_at.ensures.back (form_next_kept c.args.text.now c.loop-rest.rest.now c.line_length.result c.in-Some.numbers c.loop-rest.invariant.form c.line_length.ensures read)

pub returns-then-numbers-from : goal.returns-then-numbers-from
returns-then-numbers-from c =
    let read : ReadsLine (take c.line_length.result c.loop-rest.rest.now) (Some c.in-Some.numbers) = rw c.split_at.ensures.front at c.in-Some.ensures.reads in
    let high : c.args.harts ≤ c.in-Some.numbers.hart = search rules in
    c.refusal_at.ensures c.args.harts (λ forms.
    refuses_hart c.args.harts c.args.text.now c.loop-rest.rest.now c.loop-rest.slices.items c.loop-rest.turns c.line_length.result c.in-Some.numbers
    (if_so c.args.harts c.args.text.now c.loop-rest.rest.now c.loop-rest.slices.items c.loop-rest.turns c.loop-rest.invariant forms) c.line_length.ensures read high)

pub refusal_at-requires-then-turns-gt-MOST_TURNS-clause-so_far : goal.refusal_at-requires-then-turns-gt-MOST_TURNS-clause-so_far
refusal_at-requires-then-turns-gt-MOST_TURNS-clause-so_far c =
    let read : ReadsLine (take c.line_length.result c.loop-rest.rest.now) (Some c.in-Some.numbers) = rw c.split_at.ensures.front at c.in-Some.ensures.reads in
    rw c.split_at.ensures.back (form_next_kept c.args.text.now c.loop-rest.rest.now c.line_length.result c.in-Some.numbers c.loop-rest.invariant.form c.line_length.ensures read)

pub returns-then-turns-gt-MOST_TURNS : goal.returns-then-turns-gt-MOST_TURNS
returns-then-turns-gt-MOST_TURNS c =
    let read : ReadsLine (take c.line_length.result c.loop-rest.rest.now) (Some c.in-Some.numbers) = rw c.split_at.ensures.front at c.in-Some.ensures.reads in
    let few : c.args.harts < 2 ^ 32 = search rules in
    let low : c.in-Some.numbers.hart < c.args.harts = search rules in
    let many : 2 ^ 40 < c.loop-rest.turns + c.in-Some.numbers.turns = search rules in
    c.refusal_at-then-turns-gt-MOST_TURNS.ensures c.args.harts (λ forms.
    refuses_turns c.args.harts c.args.text.now c.loop-rest.rest.now c.loop-rest.slices.items c.loop-rest.turns c.line_length.result c.in-Some.numbers few
    (if_so c.args.harts c.args.text.now c.loop-rest.rest.now c.loop-rest.slices.items c.loop-rest.turns c.loop-rest.invariant forms) c.line_length.ensures read low many)

pub loop-rest-preserved : goal.loop-rest-preserved
loop-rest-preserved c =
    let read : ReadsLine (take c.line_length.result c.loop-rest.rest.now) (Some c.in-Some.numbers) = rw c.split_at.ensures.front at c.in-Some.ensures.reads in
    let few : c.args.harts < 2 ^ 32 = search rules in
    let low : c.in-Some.numbers.hart < c.args.harts = search rules in
    let fits : c.loop-rest.turns + c.in-Some.numbers.turns ≤ 2 ^ 40 = search rules in
    let pushed : c.push.new.self.items ≡ c.loop-rest.slices.items ++ (c.in-Some.numbers.hart, c.in-Some.numbers.turns) ∷ [] = search rules in
    let sum : c.loop-rest.turns + c.in-Some.numbers.turns ≡ c.loop-rest.turns + c.from-turns.result = search rules in
    rw c.split_at.ensures.back (subst (λ (s : List Slice). SlicesIf c.args.harts c.args.text.now (drop c.line_length.result c.loop-rest.rest.now) s (c.loop-rest.turns + c.from-turns.result)) (sym pushed)
    (subst (λ t. SlicesIf c.args.harts c.args.text.now (drop c.line_length.result c.loop-rest.rest.now) (c.loop-rest.slices.items ++ (c.in-Some.numbers.hart, c.in-Some.numbers.turns) ∷ []) t) sum
    (if_next c.args.harts c.args.text.now c.loop-rest.rest.now c.loop-rest.slices.items c.loop-rest.turns c.line_length.result c.in-Some.numbers few c.loop-rest.invariant c.line_length.ensures read low fits)))

pub returns : goal.returns
returns c =
    let none : length c.loop-rest.rest.now ≡ 0 = search rules in
    if_all c.args.harts c.args.text.now c.loop-rest.rest.now c.loop-rest.slices.items c.loop-rest.turns c.loop-rest.invariant (empty c.loop-rest.rest.now none)
