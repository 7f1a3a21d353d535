use Rattle.std.proofs.Common.{◌<◌, ◌++◌, ◌∷◌, [], ap, ◌∙◌, sym, subst, take, length, arith}
use Rattle.std.proofs.lemmas.List.{map_more}
use Rattle.cxx_check.specs.OwnParts.{names_now}
use Rattle.cxx_check.specs.PlacesOf.{Hold}
use Rattle.cxx_check.proofs.own.places_of.Goals as goal

pub loop-name-preserved : goal.loop-name-preserved
loop-name-preserved c =
    let i = c.loop-name.name-index in
    let names = c.args.names.now in
    let within : i < length names = omega arith in
    subst (Hold c.add.new.self)
    (sym (map_more (λ n. n.now) names i c.name-item.result within ∙ ap (λ n. names_now (take i names) ++ n.now ∷ []) (sym c.name-item.is)))
    (c.in_ok-add.ensures (names_now (take i names)) c.loop-name.invariant)
