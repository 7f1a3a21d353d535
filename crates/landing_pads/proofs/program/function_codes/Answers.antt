use Rattle.std.proofs.Common.{◌∙◌, ◌<◌, [], ◌∷◌, ◌++◌, length, map, take, ap, sym, arith}
use Rattle.std.proofs.lemmas.List.{map_push, take_more}
use Rattle.linear_forms.specs.Unit.{function_code}
use Rattle.region_ir.specs.View.{function_of}
use Rattle.landing_pads.proofs.program.function_codes.Goals as goal

pub loop-function-preserved : goal.loop-function-preserved
loop-function-preserved c =
    let all = c.args.functions.now in
    let i = c.loop-function.function-index in
    let f = c.function-item.result in
    let within : i < length all = omega (arith, c.loop-function-test.true) in
    let first = take_more all i f within ∙ ap (λ y. take i all ++ y ∷ []) (sym c.function-item.is) in
    c.in_ok-put_code.ensures ∙ (ap (λ ys. ys ++ function_code (function_of f) ∷ []) c.loop-function.invariant
    ∙ sym (ap (λ ys. map function_code (map function_of ys)) first
    ∙ (ap (map function_code) (map_push function_of (take i all) f) ∙ map_push function_code (map function_of (take i all)) (function_of f))))
