use Rattle.std.proofs.Common.{◌<◌, ◌≤◌, ◌+◌, ap, ◌∙◌, sym, subst, ◌∷◌, [], drop, length, arith}
use Rattle.std.proofs.lemmas.List.{drop_all, drop_more}
use Rattle.cxx_rules.specs.NamesOf.{function_texts}
use Rattle.cxx_rules.specs.Positions.{AreAmong, AreWith}
use Rattle.cxx_rules.proofs.MemberNames.{with_none, with_both}
use Rattle.cxx_rules.proofs.environment.add_functions.Goals as goal

pub loop-function-init : goal.loop-function-init
loop-function-init c = record { kept = λ q h. h; added = λ new h. h }

pub loop-function-preserved : goal.loop-function-preserved
loop-function-preserved c =
    let i = c.loop-function.function-index in
    let items = c.args.functions.now in
    let item = c.function-item.result in
    let within : i < length items = omega arith in
    let next = drop_more items i item within ∙ ap (λ x. x ∷ drop (i + 1) items) (sym c.function-item.is) in
    let before = c.loop-function.members in
    let members = c.add_once.new.self in
    let one = subst (λ text. AreAmong (text ∷ []) members) (c.as_bytes.ensures ∙ ap (λ name. name.text) c.name.ensures) c.in_ok-add_once.ensures.added in
    record {
      kept = λ q h. c.add_once.ensures.kept q (c.loop-function.invariant.kept q h);
      added = λ new h. c.loop-function.invariant.added new (subst (λ fs. AreWith before (function_texts fs) new) (sym next)
          (with_both before members new (item.name.text ∷ []) (function_texts (drop (i + 1) items)) (c.add_once.ensures.kept, one) h));
    }

pub returns-in_err-add_once-clause-kept : goal.returns-in_err-add_once-clause-kept
returns-in_err-add_once-clause-kept c q h = c.add_once.ensures.kept q (c.loop-function.invariant.kept q h)

pub returns-clause-kept : goal.returns-clause-kept
returns-clause-kept c = c.loop-function.invariant.kept

pub returns-clause-added : goal.returns-clause-added
returns-clause-added c =
    let over : length c.args.functions.now ≤ c.loop-function.function-index = omega arith in
    let none = drop_all c.loop-function.function-index c.args.functions.now over in
    let members = c.loop-function.members in
    (c.loop-function.invariant.added members (subst (λ fs. AreWith members (function_texts fs) members) (sym none) (with_none members))).1
