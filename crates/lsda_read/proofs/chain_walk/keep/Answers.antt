use Rattle.std.specs.Ordering.{nat_cmp}
use Rattle.std.specs.BTreeMap.{get}
use Rattle.std.proofs.Common.{rules, ◌≡◌, [], ◌∷◌, Some, ap, sym, ◌∙◌, if◌then◌else◌}
use Rattle.lsda_read.specs.Known.{with_path}
use Rattle.lsda_read.proofs.Path.{at_key, nothing, with_put}
use Rattle.lsda_read.proofs.chain_walk.keep.Goals as goal

pub path-preserved : goal.path-preserved
path-preserved c = λ p.
    let q = c.in-Some.place.now in let others = c.in-Some.others.now in
    let end = c.args.end in let known = get nat_cmp c.path.chains in let now = get nat_cmp c.insert.new.self in
    let split : c.path.rest.now ≡ q ∷ others = search rules in
    c.path.invariant p ∙ ap (λ path. with_path path end known p) split ∙
    with_put q p others end known now (c.in_ok-insert.ensures.updates.0 p ∙ ap (λ b. if b then Some end else known p) (at_key q p))

pub returns : goal.returns
returns c = λ p.
    let none : c.path.rest.now ≡ [] = nothing c.path.rest.now c.in_default.ensures.cases in
    sym (c.path.invariant p ∙ ap (λ path. with_path path c.args.end (get nat_cmp c.path.chains) p) none)
