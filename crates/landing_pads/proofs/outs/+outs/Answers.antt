use Rattle.std.proofs.Common.{◌∙◌, ◌<◌, ◌+◌, ◌∷◌, drop, length, map, ap, sym, arith}
use Rattle.std.proofs.lemmas.List.{drop_more}
use Rattle.region_forms.specs.Form.{regions_from}
use Rattle.linear_forms.specs.Distinct.{added_all, same_number}
use Rattle.linear_forms.specs.Exits.{outs_of, outs_of_all, outs_of_clauses}
use Rattle.region_ir.specs.View.{clauses_of, region_of}
use Rattle.landing_pads.specs.Past.{past}
use Rattle.landing_pads.proofs.Past.{past_both}
use Rattle.landing_pads.proofs.Distinct.{kept_onward}
use Rattle.landing_pads.proofs.outs.+outs.Goals as goal

pub put_outs_of_all-loop-region-preserved : goal.put_outs_of_all-loop-region-preserved
put_outs_of_all-loop-region-preserved t c =
    let all = c.args.regions.now in
    let i = c.loop-region.region-index in
    let r = c.region-item.result in
    let within : i < length all = omega (arith, c.loop-region-test.true) in
    let first = drop_more all i r within ∙ ap (λ ys. ys ∷ drop (i + 1) all) (sym c.region-item.is) in
    kept_onward same_number c.loop-region.outs.items c.put_outs.new.outs.items (past c.args.depth (outs_of (region_of r))) (past c.args.depth (outs_of_all (regions_from (map region_of (drop (i + 1) all)))))
    (past c.args.depth (outs_of_all (regions_from (map region_of (drop i all))))) (added_all same_number c.args.outs.now.items (past c.args.depth (outs_of_all (regions_from (map region_of (all)))))) (ap (λ x. past c.args.depth (outs_of_all (regions_from (map region_of x)))) first ∙ past_both c.args.depth (outs_of (region_of r)) (outs_of_all (regions_from (map region_of (drop (i + 1) all)))))
    c.in_ok-put_outs.ensures c.loop-region.invariant

pub put_outs_of_clauses-loop-clause-preserved : goal.put_outs_of_clauses-loop-clause-preserved
put_outs_of_clauses-loop-clause-preserved t c =
    let all = c.args.clauses.now in
    let i = c.loop-clause.clause-index in
    let r = c.clause-item.result in
    let within : i < length all = omega (arith, c.loop-clause-test.true) in
    let first = drop_more all i r within ∙ ap (λ ys. ys ∷ drop (i + 1) all) (sym c.clause-item.is) in
    kept_onward same_number c.loop-clause.outs.items c.put_outs.new.outs.items (past c.args.depth (outs_of (region_of r.body))) (past c.args.depth (outs_of_clauses (clauses_of (drop (i + 1) all))))
    (past c.args.depth (outs_of_clauses (clauses_of (drop i all)))) (added_all same_number c.args.outs.now.items (past c.args.depth (outs_of_clauses (clauses_of (all))))) (ap (λ x. past c.args.depth (outs_of_clauses (clauses_of x))) first ∙ past_both c.args.depth (outs_of (region_of r.body)) (outs_of_clauses (clauses_of (drop (i + 1) all))))
    c.in_ok-put_outs.ensures c.loop-clause.invariant
