use Rattle.std.proofs.Common.{rules, ◌≡◌, ◌++◌, ◌∷◌, [], sym, ◌∙◌}
use Rattle.std.specs.Ordering.{nat_cmp}
use Rattle.std.specs.BTreeMap.{get}
use Rattle.lsda_pack.proofs.LeastOf.{empty}
use Rattle.lsda_pack.proofs.RecordPlaces.{no_place, place_found}
use Rattle.lsda_pack.proofs.actions.place_of.Goals as goal

pub returns-in-None : goal.returns-in-None
returns-in-None c = λ known a fs are have.
    sym (no_place known a.suffixes (get nat_cmp c.args.places.now) fs c.args.ends.now (empty c.args.ends.now c.in-None.ensures.cases) are have)

pub returns-in-Some : goal.returns-in-Some
returns-in-Some c = λ known a fs are have.
    let split : c.args.ends.now ≡ c.in-Some.field-0-1.now ++ c.in-Some.number.now ∷ [] = search rules in
    c.copied.ensures ∙ c.get.ensures.value ∙ place_found known a.suffixes (get nat_cmp c.args.places.now) fs c.args.ends.now c.in-Some.field-0-1.now c.in-Some.number.now split are have
