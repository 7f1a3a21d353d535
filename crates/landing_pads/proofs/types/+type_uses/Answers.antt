use Rattle.std.proofs.Common.{◌∙◌, ◌<◌, ◌+◌, ◌∷◌, drop, length, map, ap, sym, arith}
use Rattle.std.proofs.lemmas.List.{drop_more}
use Rattle.region_forms.specs.Form.{regions_from}
use Rattle.linear_forms.specs.Distinct.{added_all, same_number}
use Rattle.linear_forms.specs.Filters.{type_uses, type_uses_all, type_uses_clauses}
use Rattle.region_ir.specs.View.{clauses_of, region_of}
use Rattle.landing_pads.proofs.Distinct.{kept_onward}
use Rattle.landing_pads.proofs.types.+type_uses.Goals as goal

pub put_types_of_all-loop-region-preserved : goal.put_types_of_all-loop-region-preserved
put_types_of_all-loop-region-preserved t c =
    let all = c.args.regions.now in
    let i = c.loop-region.region-index in
    let r = c.region-item.result in
    let within : i < length all = omega (arith, c.loop-region-test.true) in
    let first = drop_more all i r within ∙ ap (λ ys. ys ∷ drop (i + 1) all) (sym c.region-item.is) in
    kept_onward same_number c.loop-region.types.keys c.put_types.new.types.keys (type_uses (region_of r)) (type_uses_all (regions_from (map region_of (drop (i + 1) all))))
    (type_uses_all (regions_from (map region_of (drop i all)))) (added_all same_number c.args.types.now.keys (type_uses_all (regions_from (map region_of (all))))) (ap (λ x. type_uses_all (regions_from (map region_of x))) first)
    c.in_ok-put_types.ensures c.loop-region.invariant

pub put_types_of_clauses-loop-clause-preserved : goal.put_types_of_clauses-loop-clause-preserved
put_types_of_clauses-loop-clause-preserved t c =
    let all = c.args.clauses.now in
    let i = c.loop-clause.clause-index in
    let r = c.clause-item.result in
    let within : i < length all = omega (arith, c.loop-clause-test.true) in
    let first = drop_more all i r within ∙ ap (λ ys. ys ∷ drop (i + 1) all) (sym c.clause-item.is) in
    kept_onward same_number c.loop-clause.types.keys c.put_types.new.types.keys (type_uses (region_of r.body)) (type_uses_clauses (clauses_of (drop (i + 1) all)))
    (type_uses_clauses (clauses_of (drop i all))) (added_all same_number c.args.types.now.keys (type_uses_clauses (clauses_of (all)))) (ap (λ x. type_uses_clauses (clauses_of x)) first)
    c.in_ok-put_types.ensures c.loop-clause.invariant
