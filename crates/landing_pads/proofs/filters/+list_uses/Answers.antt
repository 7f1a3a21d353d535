use Rattle.std.proofs.Common.{◌∙◌, ◌<◌, ◌+◌, ◌∷◌, drop, length, map, ap, sym, arith}
use Rattle.std.proofs.lemmas.List.{drop_more}
use Rattle.std.proofs.lemmas.List.{map-append}
use Rattle.region_forms.specs.Form.{regions_from}
use Rattle.linear_forms.specs.Distinct.{added_all, same_list}
use Rattle.linear_forms.specs.Filters.{indices_of, list_uses, list_uses_all, list_uses_clauses}
use Rattle.region_ir.specs.View.{clauses_of, region_of}
use Rattle.landing_pads.proofs.Distinct.{kept_onward}
use Rattle.landing_pads.proofs.filters.+list_uses.Goals as goal

pub put_lists_of_all-loop-region-preserved : goal.put_lists_of_all-loop-region-preserved
put_lists_of_all-loop-region-preserved t c =
    let all = c.args.regions.now in
    let i = c.loop-region.region-index in
    let r = c.region-item.result in
    let within : i < length all = omega (arith, c.loop-region-test.true) in
    let first = drop_more all i r within ∙ ap (λ ys. ys ∷ drop (i + 1) all) (sym c.region-item.is) in
    kept_onward same_list (map (λ l. l.items) c.loop-region.lists.items) (map (λ l. l.items) c.put_lists.new.lists.items) (map (indices_of c.args.types.now.keys) (list_uses (region_of r))) (map (indices_of c.args.types.now.keys) (list_uses_all (regions_from (map region_of (drop (i + 1) all)))))
    (map (indices_of c.args.types.now.keys) (list_uses_all (regions_from (map region_of (drop i all))))) (added_all same_list (map (λ l. l.items) c.args.lists.now.items) (map (indices_of c.args.types.now.keys) (list_uses_all (regions_from (map region_of (all)))))) (ap (λ x. map (indices_of c.args.types.now.keys) (list_uses_all (regions_from (map region_of x)))) first ∙ map-append (indices_of c.args.types.now.keys) (list_uses (region_of r)) (list_uses_all (regions_from (map region_of (drop (i + 1) all)))))
    c.in_ok-put_lists.ensures c.loop-region.invariant

pub put_lists_of_clauses-loop-clause-preserved : goal.put_lists_of_clauses-loop-clause-preserved
put_lists_of_clauses-loop-clause-preserved t c =
    let all = c.args.clauses.now in
    let i = c.loop-clause.clause-index in
    let r = c.clause-item.result in
    let within : i < length all = omega (arith, c.loop-clause-test.true) in
    let first = drop_more all i r within ∙ ap (λ ys. ys ∷ drop (i + 1) all) (sym c.clause-item.is) in
    kept_onward same_list (map (λ l. l.items) c.loop-clause.lists.items) (map (λ l. l.items) c.put_lists.new.lists.items) (map (indices_of c.args.types.now.keys) (list_uses (region_of r.body))) (map (indices_of c.args.types.now.keys) (list_uses_clauses (clauses_of (drop (i + 1) all))))
    (map (indices_of c.args.types.now.keys) (list_uses_clauses (clauses_of (drop i all)))) (added_all same_list (map (λ l. l.items) c.args.lists.now.items) (map (indices_of c.args.types.now.keys) (list_uses_clauses (clauses_of (all))))) (ap (λ x. map (indices_of c.args.types.now.keys) (list_uses_clauses (clauses_of x))) first ∙ map-append (indices_of c.args.types.now.keys) (list_uses (region_of r.body)) (list_uses_clauses (clauses_of (drop (i + 1) all))))
    c.in_ok-put_lists.ensures c.loop-clause.invariant
