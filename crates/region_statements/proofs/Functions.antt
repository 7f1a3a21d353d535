-- Calls of functions, whether of the program or of a class.
use Rattle.std.specs.Prelude.{slice_get}
use Rattle.std.proofs.Common.{◌≡◌, ℕ, suc, ◌+◌, ℤ, Bool, true, false, List, [], ◌∷◌, Option, Some, None, refl, sym, ap, subst, arith, length}
use Rattle.class_layout.specs.StandApart.{StandApart}
use Rattle.cxx_ast.specs.declared.declaration.FuncKind.TheVariants.{Plain, Method}
use Rattle.cxx_ast.specs.declared.types.Ty.{Ty}
use Rattle.cxx_ast.specs.declared.types.Ty.TheVariants.{Int, Void, Object, IntRef, ObjectRef}
use Rattle.cxx_ast.specs.Plain.{Checked, Function, Specification}
use Rattle.meaning_forms.specs.Call.{statements_in, body_of, new_frame, value_returned, run_function as source_run_function, opened, after_call, open_call}
use Rattle.meaning_forms.specs.Class.{class_type, function_at as source_function_at, method_at}
use Rattle.meaning_forms.specs.Context.{Context as SourceContext}
use Rattle.meaning_forms.specs.Expression.{types_of}
use Rattle.meaning_forms.specs.Frame.{Frame as SourceFrame}
use Rattle.meaning_forms.specs.Outcome.{Action as SourceAction, Flow as SourceFlow, normal, breaks, continues, returns}
use Rattle.meaning_forms.specs.Running.{Argument, method}
use Rattle.meaning_forms.specs.Specification.{under_specification}
use Rattle.meaning_forms.specs.World.{World as SourceWorld, Reference}
use Rattle.region_forms.specs.Form.{Kinds, help_slot, Regions, RegionFunction, in_order, kinds_of}
use Rattle.region_forms.specs.Layout.{Layout}
use Rattle.region_forms.specs.World.{Word}
use Rattle.region_forms.specs.Effect.{result_in}
use Rattle.region_forms.specs.Outcome.{State, Flow}
use Rattle.region_forms.specs.Ending.{Running}
use Rattle.region_forms.specs.Meaning.{called_state}
use Rattle.linear_simulation.specs.Watched.{watched_call_of, watched_function as run_function, watched_call as call_with}
use Rattle.region_forms.specs.Numbering.{number_of, variables_of}
use Rattle.region_forms.specs.LowerExpression.{Lowering, result_slot}
use Rattle.region_forms.specs.LowerStatement.{statements}
use Rattle.region_forms.specs.LowerProgram.{lowering, limited, result_for, body_of as lowered_body, declared_function}
use Rattle.region_simulation.specs.Places.{Places}
use Rattle.region_simulation.specs.Reach.{KindsFit}
use Rattle.region_simulation.specs.Value.{IsValue}
use Rattle.region_simulation.specs.Stands.{Stands, context_of}
use Rattle.region_simulation.specs.Alike.{Follows, Alike}
use Rattle.region_simulation.specs.Calls.{SameOwn, SameCalls}
use Rattle.region_simulation.specs.Expressions.{source_running}
use Rattle.region_simulation.specs.Flows.{FlowAgrees, DoesAlike}
use Rattle.region_simulation.specs.Statements.{AreTypedStatements}
use Rattle.region_simulation.proofs.Following.{refers_kept}
use Rattle.region_simulation.proofs.Storing.{stored_value}
use Rattle.region_simulation.proofs.Flowing.{does_inside}
use Rattle.region_statements.specs.Fueled.{fueled, fueled_call}
use Rattle.region_statements.specs.Statements.{SourceCalls, SameExceptions}
use Rattle.region_statements.specs.Functions.{gives_int, all_declared_to, IsTypedBody}
use Rattle.region_statements.specs.Calls.{regions_running, SameExtents, RunsAlike, FunctionsRunAlike, MethodsRunAlike}
use Rattle.region_statements.proofs.Statements.{statements_do_alike}
use Rattle.region_statements.proofs.SlotKinds.{slots_fit}
use Rattle.region_statements.proofs.Parameters.{arguments_kept}
use Rattle.region_statements.proofs.Entering.{Begun, function_begins, method_begins}
use Rattle.region_statements.proofs.Returning.{SameValue, call_opens, function_runs}

-- the result of a function by its type
pub results_agree : (l : Lowering) (kinds : Kinds) → KindsFit l kinds → (t : Ty) (x : SourceFlow) (flow : Flow) (w : SourceWorld) (at : Places) (s : State)
    → FlowAgrees l (gives_int t) 0 1 x flow w at s → IsValue w (value_returned false t x w) (result_in (result_for l t) s.frame s.world kinds)
results_agree l kinds fit Int normal flow w at s h = tt
results_agree l kinds fit Int breaks flow w at s h = tt
results_agree l kinds fit Int continues flow w at s h = tt
results_agree l kinds fit Int (returns None) flow w at s h = absurd (cc h.1)
results_agree l kinds fit Int (returns (Some v)) flow w at s h = (refl, stored_value kinds (result_slot l) s.frame s.world v (fit.behind (result_slot l) (omega arith)) h.2)
results_agree l kinds fit Void normal flow w at s h = (refl, refl)
results_agree l kinds fit Void breaks flow w at s h = (refl, refl)
results_agree l kinds fit Void continues flow w at s h = (refl, refl)
results_agree l kinds fit Void (returns None) flow w at s h = (refl, refl)
results_agree l kinds fit Void (returns (Some v)) flow w at s h = absurd (cc h.1)
results_agree l kinds fit (Object k) normal flow w at s h = (refl, refl)
results_agree l kinds fit (Object k) breaks flow w at s h = (refl, refl)
results_agree l kinds fit (Object k) continues flow w at s h = (refl, refl)
results_agree l kinds fit (Object k) (returns None) flow w at s h = (refl, refl)
results_agree l kinds fit (Object k) (returns (Some v)) flow w at s h = absurd (cc h.1)
results_agree l kinds fit (IntRef k) normal flow w at s h = (refl, refl)
results_agree l kinds fit (IntRef k) breaks flow w at s h = (refl, refl)
results_agree l kinds fit (IntRef k) continues flow w at s h = (refl, refl)
results_agree l kinds fit (IntRef k) (returns None) flow w at s h = (refl, refl)
results_agree l kinds fit (IntRef k) (returns (Some v)) flow w at s h = absurd (cc h.1)
results_agree l kinds fit (ObjectRef k n) normal flow w at s h = (refl, refl)
results_agree l kinds fit (ObjectRef k n) breaks flow w at s h = (refl, refl)
results_agree l kinds fit (ObjectRef k n) continues flow w at s h = (refl, refl)
results_agree l kinds fit (ObjectRef k n) (returns None) flow w at s h = (refl, refl)
results_agree l kinds fit (ObjectRef k n) (returns (Some v)) flow w at s h = absurd (cc h.1)

-- the body of a function, under its specification if it has one
pub body_does : (l : Lowering) (own : Option ℕ) (call : SourceCalls) (b : Running) (fit : KindsFit l b.kinds) → StandApart l.layout.classes l.program.classes
    → SameCalls l.layout (source_running l call) b → (f : Function) → SameExceptions l own (gives_int f.result) call b → SameExtents l own (gives_int f.result) call b
    → (v : SourceFrame) (c : SourceContext) → AreTypedStatements l own (gives_int f.result) (statements_in f.body) v.variables (length f.parameters)
    → DoesAlike l own (gives_int f.result) b v c (length f.parameters) 0 1
    (under_specification (source_running l call) f.specification (body_of (source_running l call) f v) c)
    (limited l f.specification (λ d. statements l (statements_in f.body) 0 (length f.parameters) d) 1 ∷ [])
body_does l own call b fit apart same f exceptions extents v c typed = go f.specification
  where
    go : (s : Option Specification) → DoesAlike l own (gives_int f.result) b v c (length f.parameters) 0 1
        (under_specification (source_running l call) s (body_of (source_running l call) f v) c)
        (limited l s (λ d. statements l (statements_in f.body) 0 (length f.parameters) d) 1 ∷ [])
    go None =
        does_inside l own (gives_int f.result) b v c (length f.parameters) 0 1 (body_of (source_running l call) f v c)
        (statements l (statements_in f.body) 0 (length f.parameters) 2) (omega arith)
        (statements_do_alike l own (gives_int f.result) call b fit apart same exceptions (statements_in f.body) v c (length f.parameters) 0 2 (omega arith) typed)
    go (Some s) =
        extents v c (length f.parameters) s (statements_in f.body)
        (statements_do_alike l own (gives_int f.result) call b fit apart same exceptions (statements_in f.body)) typed

-- what is passed to a function of a class still is
pub own_kept : (l : Layout) (p : Checked) (at : Places) (k : ℕ) (w : SourceWorld) (s : State) (c : SourceContext) (w2 : SourceWorld) (s2 : State) → Stands l p at c w s
    → (h : Follows l p at k w s c w2 s2) (j : ℕ) (this : Reference) (types : List Ty) (given : List Argument) (words : List Word) → SameOwn l p at j this types given words
    → SameOwn l p h.places j this types given words
own_kept l p at k w s c w2 s2 stands h j this types given [] same = absurd same
own_kept l p at k w s c w2 s2 stands h j this types given (x ∷ words) (a, refers, is, same) = (
  a,
  refers_kept l p at k w s c c w2 s2 stands h this (class_type j) a refers,
  is,
  arguments_kept l p at k w s c c w2 s2 stands h types given words same,
)

module _ (p : Checked) (layout : Layout) (q : Regions) (limit fuel : ℕ) (apart : StandApart layout.classes p.classes)
    (same : SameCalls layout (fueled p limit fuel) (regions_running q limit fuel (λ s. help_slot))) where
  -- calls are the same whatever the kinds of the slots of the caller
  pub same_for : (kinds : Kinds) → SameCalls layout (fueled p limit fuel) (regions_running q limit fuel kinds)
  same_for kinds at callee this given words k c w s there stands passed = same at callee this given words k c w s there stands passed

  -- the regions of a body that is no constructor's nor destructor's
  abbrev PlainBody : (is_member : Bool) (j : ℕ) → Function → Type 0
  PlainBody is_member j f =
      (declared_function p layout is_member false j f).body
      ≡ in_order (limited (lowering p layout is_member (variables_of f)) f.specification (λ d. statements (lowering p layout is_member (variables_of f)) (statements_in f.body) 0 (length f.parameters) d) 1 ∷ [])

  plain_body : (is_member : Bool) (j : ℕ) (f : Function) → f.kind ≡ Plain → PlainBody is_member j f
  plain_body is_member j f kind = ap (λ z. in_order (limited (lowering p layout is_member (variables_of f)) f.specification (λ d. lowered_body (lowering p layout is_member (variables_of f)) z j f d) 1 ∷ [])) kind

  method_body : (is_member : Bool) (j : ℕ) (f : Function) → f.kind ≡ Method → PlainBody is_member j f
  method_body is_member j f kind = ap (λ z. in_order (limited (lowering p layout is_member (variables_of f)) f.specification (λ d. lowered_body (lowering p layout is_member (variables_of f)) z j f d) 1 ∷ [])) kind

  -- what is done in a call
  runs : (is_member : Bool) (own : Option ℕ) (k : ℕ) (f : Function) → IsTypedBody (lowering p layout is_member (variables_of f)) own f
      → RunsAlike p layout q limit fuel own is_member f
      → (c : SourceContext) (v : SourceFrame) (references : List Reference) → length references ≡ length f.parameters → v.variables ≡ all_declared_to f.parameters references []
      → DoesAlike (lowering p layout is_member (variables_of f)) own (gives_int f.result)
      (regions_running q limit fuel (kinds_of (declared_function p layout is_member false k f).slots)) v c (length f.parameters) 0 1
      (under_specification (fueled p limit fuel) f.specification (body_of (fueled p limit fuel) f v) c)
      (limited (lowering p layout is_member (variables_of f)) f.specification (λ d. statements (lowering p layout is_member (variables_of f)) (statements_in f.body) 0 (length f.parameters) d) 1 ∷ [])
  runs is_member own k f typed alike c v references counted variables =
      let l = lowering p layout is_member (variables_of f) in
      let g = declared_function p layout is_member false k f in
      let kinds = kinds_of g.slots in
      let fit : KindsFit l kinds = slots_fit p layout is_member (variables_of f) g.body in
      let (exceptions, extents) = alike kinds fit in
      body_does l own (fueled_call p limit fuel) (regions_running q limit fuel kinds) fit apart (same_for kinds) f exceptions extents v c
      (subst (λ xs. AreTypedStatements l own (gives_int f.result) (statements_in f.body) xs (length f.parameters)) (sym variables) (typed.statements references counted))

  -- from where it begins
  function_call : (is_member : Bool) (own : Option ℕ) (j : ℕ) (f : Function) → PlainBody is_member j f → IsTypedBody (lowering p layout is_member (variables_of f)) own f
      → RunsAlike p layout q limit fuel own is_member f → (this : Reference) (given : List Argument) (words : List Word)
      → (at : Places) (k : ℕ) (c : SourceContext) (w : SourceWorld) (s : State)
      → Begun (lowering p layout is_member (variables_of f)) own c at w s f.parameters (new_frame f this given (opened w))
      (called_state (kinds_of (declared_function p layout is_member false j f).slots) words (w.open_calls + 1) s)
      → Alike layout p at k c w s SameValue (after_call (source_run_function (fueled p limit fuel) false f this given c (opened w)))
      (run_function (regions_running q limit fuel (kinds_of [])) (declared_function p layout is_member false j f) words (context_of (w.open_calls + 1) c) s)
  function_call is_member own j f body typed alike this given words at k c w s begun =
      let l = lowering p layout is_member (variables_of f) in
      let g = declared_function p layout is_member false j f in
      let kinds = kinds_of g.slots in
      function_runs l own (gives_int f.result) (regions_running q limit fuel kinds) c f.parameters
      (limited l f.specification (λ d. statements l (statements_in f.body) 0 (length f.parameters) d) 1 ∷ []) g body
      (λ v. under_specification (fueled p limit fuel) f.specification (body_of (fueled p limit fuel) f v) c) (value_returned false f.result)
      (results_agree l kinds (slots_fit p layout is_member (variables_of f) g.body) f.result)
      (λ v references counted variables. runs is_member own j f typed alike c v references counted variables) at k w s words (new_frame f this given (opened w)) begun

  -- from where it is opened
  pub opened_call : (m : ℕ) (g : RegionFunction) → slice_get q.functions m ≡ Some g → (act : SourceAction ℤ) (words : List Word)
      → (at : Places) (k : ℕ) (c : SourceContext) (w : SourceWorld) (s : State) → Stands layout p at c w s
      → ((w2 : SourceWorld) (s2 : State) (h : Follows layout p at k w s c w2 s2)
      → Alike layout p h.places k c w2 s2 SameValue (after_call (act (opened w2))) (run_function (regions_running q limit fuel (kinds_of [])) g words (context_of (w2.open_calls + 1) c) s2))
      → Alike layout p at k c w s SameValue (open_call limit act w) (call_with q limit (suc fuel) m words (context_of w.open_calls c) s)
  opened_call m g there act words at k c w s stands next =
      subst (λ o. Alike layout p at k c w s SameValue (open_call limit act w) (watched_call_of o (regions_running q limit fuel (kinds_of [])) words (context_of w.open_calls c) s)) (sym there)
      (call_opens layout p limit at k c w s act (run_function (regions_running q limit fuel (kinds_of [])) g words (context_of (w.open_calls + 1) c)) stands
      (λ w2 s2 h.
      subst (λ n. Alike layout p h.places k c w2 s2 SameValue (after_call (act (opened w2))) (run_function (regions_running q limit fuel (kinds_of [])) g words (context_of (n + 1) c) s2))
      h.open_calls (next w2 s2 h)))

pub functions_run_alike : FunctionsRunAlike
functions_run_alike p layout q limit fuel n apart same main kind there typed alike at this given words k c w s stands passed =
    let f = source_function_at p n in
    let g = declared_function p layout false false 0 f in
    let l = lowering p layout false (variables_of f) in
    let fit : KindsFit l (kinds_of g.slots) = slots_fit p layout false (variables_of f) g.body in
    subst (λ z. Alike layout p at k c w s SameValue (open_call limit (source_run_function (fueled p limit fuel) z f this given c) w)
    (call_with q limit (suc fuel) n words (context_of w.open_calls c) s)) (sym main)
    (opened_call p layout q limit fuel apart same n g there (source_run_function (fueled p limit fuel) false f this given c) words at k c w s stands
    (λ w2 s2 h.
    function_call p layout q limit fuel apart same false None 0 f (plain_body p layout q limit fuel apart same false 0 f kind) typed alike this given words h.places k c w2 s2
    (function_begins l (kinds_of g.slots) fit c f.parameters typed.parameters h.places w2 s2 h.stands given this words refl
    (arguments_kept layout p at k w s c c w2 s2 stands h (types_of f.parameters) given words passed))))

pub methods_run_alike : MethodsRunAlike
methods_run_alike p layout q limit fuel j i apart same kind there typed alike at this given words k c w s stands passed =
    let f = method_at p j i in
    let g = declared_function p layout true false j f in
    let l = lowering p layout true (variables_of f) in
    let fit : KindsFit l (kinds_of g.slots) = slots_fit p layout true (variables_of f) g.body in
    opened_call p layout q limit fuel apart same (number_of p (method j i)) g there (source_run_function (fueled p limit fuel) false f this given c) words at k c w s stands
    (λ w2 s2 h.
    function_call p layout q limit fuel apart same true (Some j) j f (method_body p layout q limit fuel apart same true j f kind) typed alike this given words h.places k c w2 s2
    (method_begins l (kinds_of g.slots) fit c f.parameters typed.parameters h.places w2 s2 h.stands given j this words refl refl
    (own_kept layout p at k w s c w2 s2 stands h j this (types_of f.parameters) given words passed)))
