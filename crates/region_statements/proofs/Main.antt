-- Main: where it flows off its end, its regions store what a return of 0 does.
use Rattle.cxx_ast.specs.Plain.{number as source_number}
use Rattle.std.proofs.Common.{◌≡◌, ℕ, suc, ◌+◌, pos, true, false, List, [], ◌∷◌, ◌++◌, Some, None, refl, sym, ap, ◌∙◌, subst, arith, length}
use Rattle.std.specs.Prelude.{◌==◌}
use Rattle.std.proofs.lemmas.Bool.Decides.{nat_tests}
use Rattle.cxx_ast.specs.declared.types.Ty.{Ty}
use Rattle.cxx_ast.specs.declared.types.Ty.TheVariants.{Int}
use Rattle.meaning_forms.specs.Call.{statements_in, body_of, new_frame, value_returned, run_function as source_run_function, opened, after_call, open_call}
use Rattle.meaning_forms.specs.Class.{function_at as source_function_at}
use Rattle.meaning_forms.specs.Expression.{types_of}
use Rattle.meaning_forms.specs.Frame.{Frame as SourceFrame}
use Rattle.meaning_forms.specs.Outcome.{Result as SourceResult, done as source_done, stopped as source_stopped, Action as SourceAction, continued as source_continued, pure as source_pure, Flow as SourceFlow, normal as source_normal, breaks, continues, returns, ◌>>=◌}
use Rattle.meaning_forms.specs.Specification.{under_specification}
use Rattle.meaning_forms.specs.Statement.{followed as source_followed, ◌then◌}
use Rattle.meaning_forms.specs.World.{World as SourceWorld, Reference}
use Rattle.region_forms.specs.Form.{number, Region, op, store, leave_region, in_order, regions_from, RegionFunction, kinds_of}
use Rattle.region_forms.specs.Outcome.{State, Context, Flow, normal, leaves, Result, done, stopped, continued, pure}
use Rattle.region_forms.specs.Ending.{Running}
use Rattle.region_forms.specs.Meaning.{outwards, followed, after_call as regions_after_call, called_state, function_result}
use Rattle.linear_simulation.specs.Watched.{watched as region, watched_all as regions, watched_function as run_function, watched_call as call_with}
use Rattle.region_forms.specs.Numbering.{variables_of}
use Rattle.region_forms.specs.LowerExpression.{result_slot, first_temporary, slot_place}
use Rattle.region_forms.specs.LowerStatement.{statements}
use Rattle.region_forms.specs.LowerProgram.{lowering, limited}
use Rattle.region_simulation.specs.Reach.{KindsFit}
use Rattle.region_simulation.specs.Stands.{context_of}
use Rattle.region_simulation.specs.Alike.{Alike}
use Rattle.region_simulation.specs.Flows.{DoesAlike}
use Rattle.region_simulation.specs.Statements.{AreTypedStatements}
use Rattle.region_simulation.proofs.Evaluating.{meant_case}
use Rattle.region_simulation.proofs.Joining.{joined}
use Rattle.region_simulation.proofs.Flowing.{does_then}
use Rattle.region_statements.specs.Fueled.{fueled, fueled_call}
use Rattle.region_statements.specs.Functions.{gives_int, all_declared_to}
use Rattle.region_statements.specs.Calls.{regions_running}
use Rattle.region_statements.specs.Main.{main_regions, main_function, NotJumped, MainRunsAlike}
use Rattle.region_statements.proofs.Ending.{does_return_value}
use Rattle.region_statements.proofs.SlotKinds.{slots_fit}
use Rattle.region_statements.proofs.Parameters.{arguments_kept}
use Rattle.region_statements.proofs.Entering.{function_begins}
use Rattle.region_statements.proofs.Returning.{SameValue, function_runs}
use Rattle.region_statements.proofs.Functions.{results_agree, body_does, same_for, opened_call}

-- at the end of the outermost region nothing is left to be left
left_at_end : (b : Running) (xs : List Region) (c : Context) (s : State) → region b (in_order (xs ++ leave_region 1 ∷ [])) c s ≡ region b (in_order xs) c s
left_at_end b xs c s = ap (λ q. continued q (λ f. pure (outwards f))) (joined b c xs (leave_region 1 ∷ []) s) ∙ go (regions b (regions_from xs) c s)
  where
    go : (r : Result Flow) → continued (continued r (followed (regions b (regions_from (leave_region 1 ∷ [])) c))) (λ f. pure (outwards f)) ≡ continued r (λ f. pure (outwards f))
    go (done normal t) = refl
    go (done (leaves n) t) = refl
    go (stopped x t) = refl

-- without jumps, flowing off the end of main is returning 0
returns_zero : (r : SourceResult SourceFlow) → NotJumped r
    → source_continued (source_continued r (source_followed (source_pure (returns (Some (pos 0)))))) (value_returned false Int) ≡ source_continued r (value_returned true Int)
returns_zero (source_done source_normal w) h = refl
returns_zero (source_done (returns None) w) h = refl
returns_zero (source_done (returns (Some v)) w) h = refl
returns_zero (source_done breaks w) h = absurd h
returns_zero (source_done continues w) h = absurd h
returns_zero (source_stopped x w) h = refl

zero_behind : (t : Ty) → t ≡ Int → (r : SourceResult SourceFrame) (act : SourceFrame → SourceAction SourceFlow) → ((v : SourceFrame) (w : SourceWorld) → NotJumped (act v w))
    → source_continued r (λ v. (act v then source_pure (returns (Some (pos 0)))) >>= value_returned false t) ≡ source_continued r (λ v. act v >>= value_returned true t)
zero_behind t int (source_done v w) act stays =
    subst (λ u. source_continued (source_continued (act v w) (source_followed (source_pure (returns (Some (pos 0)))))) (value_returned false u)
    ≡ source_continued (act v w) (value_returned true u)) (sym int) (returns_zero (act v w) (stays v w))
zero_behind t int (source_stopped x w) act stays = refl

itself : (n : ℕ) → (n == n) ≡ true
itself n = grind (arith, nat_tests)

pub main_runs_alike : MainRunsAlike
main_runs_alike p layout q limit fuel apart same int there typed alike stays at this given words k c w s stands passed =
    let f = source_function_at p p.main in
    let l = lowering p layout false (variables_of f) in
    let g = main_function p layout f in
    let kinds = kinds_of g.slots in
    let fit : KindsFit l kinds = slots_fit p layout false (variables_of f) g.body in
    let r = fueled p limit fuel in
    let b = regions_running q limit fuel kinds in
    let call = fueled_call p limit fuel in
    let h : RegionFunction = record g { body = in_order (main_regions l f ++ leave_region 1 ∷ []) } in
    let act : SourceFrame → SourceAction SourceFlow = (λ v. under_specification r f.specification (body_of r f v) c) in
    let acts : SourceFrame → SourceAction SourceFlow = (λ v. act v then source_pure (returns (Some (pos 0)))) in
    subst (λ z. Alike layout p at k c w s SameValue (open_call limit (source_run_function r z f this given c) w)
    (call_with q limit (suc fuel) p.main words (context_of w.open_calls c) s)) (sym (itself p.main))
    (opened_call p layout q limit fuel apart same p.main g there (source_run_function r true f this given c) words at k c w s stands
    (λ w2 s2 on.
    let s3 = called_state kinds words (w2.open_calls + 1) s2 in
    let begun = function_begins l kinds fit c f.parameters typed.parameters on.places w2 s2 on.stands given this words refl
    (arguments_kept layout p at k w s c c w2 s2 stands on (types_of f.parameters) given words passed) in
    subst (λ z. Alike layout p on.places k c w2 s2 SameValue (after_call z)
    (run_function (regions_running q limit fuel (kinds_of [])) g words (context_of (w2.open_calls + 1) c) s2))
    (zero_behind f.result int (new_frame f this given (opened w2)) act (λ v u. stays v c u))
    (subst (λ z. Alike layout p on.places k c w2 s2 SameValue (after_call (source_continued (new_frame f this given (opened w2)) (λ v. acts v >>= value_returned false f.result)))
    (regions_after_call s2.frame (continued z (λ u. function_result kinds g.result)))) (left_at_end b (main_regions l f) (context_of (w2.open_calls + 1) c) s3)
    (function_runs l None (gives_int f.result) b c f.parameters (main_regions l f ++ leave_region 1 ∷ []) h refl acts (value_returned false f.result)
    (results_agree l kinds fit f.result) (λ v references counted variables. does v references counted variables) on.places k w2 s2 words (new_frame f this given (opened w2)) begun))))
  where
    does : (v : SourceFrame) (references : List Reference) → length references ≡ length (source_function_at p p.main).parameters
        → v.variables ≡ all_declared_to (source_function_at p p.main).parameters references []
        → DoesAlike (lowering p layout false (variables_of (source_function_at p p.main))) None (gives_int (source_function_at p p.main).result)
        (regions_running q limit fuel (kinds_of (main_function p layout (source_function_at p p.main)).slots)) v c (length (source_function_at p p.main).parameters) 0 1
        (under_specification (fueled p limit fuel) (source_function_at p p.main).specification (body_of (fueled p limit fuel) (source_function_at p p.main) v) c
        then source_pure (returns (Some (pos 0))))
        (main_regions (lowering p layout false (variables_of (source_function_at p p.main))) (source_function_at p p.main) ++ leave_region 1 ∷ [])
    does v references counted variables =
        let f = source_function_at p p.main in
        let l = lowering p layout false (variables_of f) in
        let g = main_function p layout f in
        let kinds = kinds_of g.slots in
        let fit : KindsFit l kinds = slots_fit p layout false (variables_of f) g.body in
        let r = fueled p limit fuel in
        let b = regions_running q limit fuel kinds in
        let n = length f.parameters in
        does_then l None (gives_int f.result) b v c n 0 1 (under_specification r f.specification (body_of r f v) c) (source_pure (returns (Some (pos 0))))
        (limited l f.specification (λ d. statements l (statements_in f.body) 0 n d) 1 ∷ []) (op (store (slot_place (result_slot l)) (number (pos 0))) ∷ leave_region 1 ∷ [])
        (body_does l None (fueled_call p limit fuel) b fit apart (same_for p layout q limit fuel apart same kinds) f (alike kinds fit).0 (alike kinds fit).1 v c
        (subst (λ xs. AreTypedStatements l None (gives_int f.result) (statements_in f.body) xs n) (sym variables) (typed.statements references counted)))
        (does_return_value l None (gives_int f.result) b v c fit n 0 1 (source_pure (pos 0)) (source_number (pos 0) 0) (ap gives_int int)
        (meant_case l None b v c fit (first_temporary l) (first_temporary l) (source_pure (pos 0)) [] (number (pos 0)) refl (λ at w s stands reach. (refl, refl))))
