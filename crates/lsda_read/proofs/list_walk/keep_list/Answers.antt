use Rattle.std.specs.Ordering.{nat_cmp}
use Rattle.std.specs.BTreeMap.{get}
use Rattle.std.proofs.Common.{rules, ◌≡◌, ◌==◌, [], ◌∷◌, ◌++◌, Some, ap, sym, ◌∙◌, if◌then◌else◌}
use Rattle.lsda_read.specs.KnownLists.{with_indices}
use Rattle.lsda_read.proofs.ListWalking.{with_last}
use Rattle.lsda_read.proofs.Path.{at_key, nothing}
use Rattle.lsda_read.proofs.list_walk.keep_list.Goals as goal

pub path-preserved : goal.path-preserved
path-preserved c = λ p.
    let m = c.in-Some.met.now in let others = c.in-Some.others.now in
    let end = c.path.end in let known = get nat_cmp c.path.lists in let now = get nat_cmp c.insert.new.self in
    let split : c.path.rest.now ≡ others ++ m ∷ [] = search rules in
    c.path.invariant p ∙ ap (λ path. with_indices path end known p) split ∙
    with_last others m end known now p (c.in_ok-insert.ensures.updates.0 p ∙ ap (λ b. if b then Some c.with_outside-end.result else known p) (at_key m.place p) ∙
    ap (λ e. if m.place == p then Some e else known p) c.with_outside-end.ensures) ∙
    ap (λ e. with_indices others e now p) (sym c.with_outside-end.ensures)

pub returns : goal.returns
returns c = λ p.
    let none : c.path.rest.now ≡ [] = nothing c.path.rest.now c.in_default.ensures.cases in
    sym (c.path.invariant p ∙ ap (λ path. with_indices path c.path.end (get nat_cmp c.path.lists) p) none)
