use Rattle.std.proofs.Common.{◌≡◌, ◌∙◌, ◌<◌, ◌+◌, [], ◌∷◌, ◌++◌, drop, length, map, take, ap, sym, subst, arith}
use Rattle.std.proofs.lemmas.List.{drop_more, map_push, take_more}
use Rattle.landing_pads.specs.View.{code_of}
use Rattle.eh_bytes.specs.Listed.{listed_function}
use Rattle.machine_forms.specs.Emitted.{function_routine}
use Rattle.machine_forms.specs.Routine.{all_words, listed_routines, routine_words}
use Rattle.rv64_emit.specs.Body.{AllStandFor}
use Rattle.rv64_emit.proofs.Bodies.{one_more}
use Rattle.rv64_emit.proofs.Composed.{next_listed}
use Rattle.rv64_emit.proofs.unit.lay_out.Goals as goal

pub loop-function-preserved : goal.loop-function-preserved
loop-function-preserved c =
    let fs = c.args.functions.now in
    let i = c.loop-function.function-index in
    let f = c.function-item.result in
    let r = function_routine (code_of f) in
    let bodies = c.loop-function.bodies.items in
    let body = c.in_ok-body.body in
    let within : i < length fs = omega (arith, c.loop-function-test.true) in
    let behind = map function_routine (map code_of (drop (i + 1) fs)) in
    let left = drop_more fs i f within ∙ ap (λ y. y ∷ drop (i + 1) fs) (sym c.function-item.is) in
    let gone = take_more fs i f within ∙ ap (λ y. take i fs ++ y ∷ []) (sym c.function-item.is) in
    let done = ap (λ l. map function_routine (map code_of l)) gone
    ∙ (ap (map function_routine) (map_push code_of (take i fs) f) ∙ map_push function_routine (map code_of (take i fs)) (code_of f)) in
    let end : c.in_ok-end.end ≡ c.loop-function.end + routine_words r = c.in_ok-end.ensures ∙ ap (λ n. c.loop-function.end + n) c.in_ok-body.ensures.starts.end in
    let there = ap (λ l. map function_routine (map code_of l)) left in
    record {
      functions =
          ap (λ l. map listed_function l ++ listed_routines c.in_ok-end.end behind) c.in_ok-push.ensures.items
          ∙ (next_listed c.loop-function.listed.items c.in_ok-emitted_function.field-0 c.loop-function.end c.in_ok-end.end r behind c.in_ok-emitted_function.ensures end
          ∙ (ap (λ l. map listed_function c.loop-function.listed.items ++ listed_routines c.loop-function.end l) (sym there) ∙ c.loop-function.invariant.functions));
      bodies =
          subst (λ l. AllStandFor l (map function_routine (map code_of (take (i + 1) fs)))) (sym c.in_ok-push-2.ensures.items)
          (subst (AllStandFor (bodies ++ body ∷ [])) (sym done)
          (one_more bodies (map function_routine (map code_of (take i fs))) body r c.loop-function.invariant.bodies c.in_ok-body.ensures));
      end =
          omega (arith, end, ap all_words there, c.loop-function.invariant.end);
    }
