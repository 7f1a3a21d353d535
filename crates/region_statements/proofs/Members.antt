-- Calls of constructors and destructors, declared or not.
use Rattle.std.proofs.Common.{◌≡◌, ℕ, suc, ◌+◌, ◌<◌, ℤ, pos, Bool, true, false, List, [], ◌∷◌, Option, Some, None, refl, sym, ap, ◌∙◌, subst, arith, length}
use Rattle.std.specs.Prelude.{slice_get, if◌then◌else◌}
use Rattle.class_layout.specs.StandApart.{StandApart}
use Rattle.cxx_ast.specs.declared.declaration.FuncKind.TheVariants.{Constructor as ConstructorKind, Destructor as DestructorKind}
use Rattle.cxx_ast.specs.declared.types.Param.{Param}
use Rattle.cxx_ast.specs.declared.types.Ty.{Ty}
use Rattle.cxx_ast.specs.Plain.{Checked, Function, Specification}
use Rattle.meaning_forms.specs.Call.{statements_in, body_of as source_body_of, new_frame, initialiser_for, construction, destruction, build_parts as source_build_parts, destroy_parts as source_destroy_parts, default_part as source_default_part, initial_part as source_initial_part, run_constructor, run_destructor, opened, after_call, open_call}
use Rattle.meaning_forms.specs.Class.{method_at, parts_of}
use Rattle.meaning_forms.specs.Context.{Context as SourceContext}
use Rattle.meaning_forms.specs.Expression.{types_of}
use Rattle.meaning_forms.specs.Frame.{Frame as SourceFrame, with_arguments}
use Rattle.meaning_forms.specs.Outcome.{Action as SourceAction, continued as source_continued, Flow as SourceFlow, normal as source_normal, pure as source_pure, ◌>>=◌, ◌>>◌}
use Rattle.meaning_forms.specs.Running.{Argument, constructor, declared, implicit_default, destructor}
use Rattle.meaning_forms.specs.Specification.{under_specification}
use Rattle.meaning_forms.specs.World.{World as SourceWorld, Reference}
use Rattle.region_forms.specs.Form.{Kinds, address_slot, help_slot, Region, Regions, RegionFunction, in_order, kinds_of}
use Rattle.region_forms.specs.Layout.{Layout}
use Rattle.region_forms.specs.World.{Word}
use Rattle.region_forms.specs.Effect.{result_in}
use Rattle.region_forms.specs.Outcome.{State}
use Rattle.region_forms.specs.Ending.{Running}
use Rattle.linear_simulation.specs.Watched.{watched_function as run_function, watched_call as call_with}
use Rattle.region_forms.specs.Numbering.{number_of, variables_of}
use Rattle.region_forms.specs.LowerExpression.{Lowering}
use Rattle.region_forms.specs.LowerStatement.{statements, nothing_more}
use Rattle.region_forms.specs.LowerProgram.{lowering, limited, result_for, body_of, build_parts, destroy_parts, default_part, initial_part, declared_function, implicit_default_function, implicit_destructor_function}
use Rattle.region_simulation.specs.Places.{Places}
use Rattle.region_simulation.specs.Reach.{KindsFit}
use Rattle.region_simulation.specs.Stands.{Stands, context_of}
use Rattle.region_simulation.specs.Alike.{Alike}
use Rattle.region_simulation.specs.Calls.{SameOwn, SameCalls}
use Rattle.region_simulation.specs.Flows.{DoesAlike}
use Rattle.region_simulation.specs.Statements.{AreTypedStatements}
use Rattle.region_simulation.proofs.Standard.{builtins_same}
use Rattle.region_simulation.proofs.Flowing.{does_inside}
use Rattle.region_statements.specs.Fueled.{fueled, fueled_call}
use Rattle.region_statements.specs.Functions.{gives_int, AreDeclared, all_declared_to, IsTypedBody}
use Rattle.region_statements.specs.Calls.{regions_running}
use Rattle.region_statements.specs.Members.{CanInitialise, CanInitialiseParts, MemberRunsAlike, ConstructorsRunAlike, DefaultConstructorsRunAlike, DestructorsRunAlike, ImplicitDestructorsRunAlike}
use Rattle.region_statements.proofs.Naming.{does_nothing}
use Rattle.region_statements.proofs.Locals.{regrouped}
use Rattle.region_statements.proofs.Statements.{statements_do_alike}
use Rattle.region_statements.proofs.SlotKinds.{slots_fit}
use Rattle.region_statements.proofs.Entering.{method_begins}
use Rattle.region_statements.proofs.Returning.{SameValue, function_runs}
use Rattle.region_statements.proofs.Functions.{own_kept, same_for, opened_call}
use Rattle.region_statements.proofs.Parts.{parts_build_alike, parts_destroy_alike}
use Rattle.region_statements.proofs.PartsBuilt.{initial_goes, default_goes}

module _ (p : Checked) (layout : Layout) (q : Regions) (limit fuel k : ℕ) (apart : StandApart layout.classes p.classes)
    (same : SameCalls layout (fueled p limit fuel) (regions_running q limit fuel (λ s. help_slot))) where
  -- whatever a constructor or a destructor does, its call gives nothing
  pub member_call : (types : List Ty) (g : RegionFunction) (rs : List Region) (params : List Param) (gives : Bool) → g.body ≡ in_order rs → g.result ≡ None
      → KindsFit (lowering p layout true types) (kinds_of g.slots) → kinds_of g.slots 0 ≡ address_slot → AreDeclared (lowering p layout true types) 0 params
      → (m : ℕ) → slice_get q.functions m ≡ Some g → (act : SourceContext → SourceFrame → SourceAction SourceFlow)
      → ((c : SourceContext) (v : SourceFrame) (rs2 : List Reference) → length rs2 ≡ length params → v.variables ≡ all_declared_to params rs2 []
      → DoesAlike (lowering p layout true types) (Some k) gives (regions_running q limit fuel (kinds_of g.slots)) v c (length params) 0 1 (act c v) rs)
      → (at : Places) (this : Reference) (given : List Argument) (words : List Word) (n : ℕ) (c : SourceContext) (w : SourceWorld) (s : State)
      → Stands layout p at c w s → SameOwn layout p at k this (types_of params) given words → (run : SourceAction ℤ)
      → ((u : SourceWorld) → source_continued (with_arguments params given (record { this = this; variables = [] }) u) (λ v. act c v >>= (λ flow. source_pure (pos 0))) ≡ run u)
      → Alike layout p at n c w s SameValue (open_call limit run w)
      (call_with q limit (suc fuel) m words (context_of w.open_calls c) s)
  member_call types g rs params gives body result fit kind declares m there act does at this given words n c w s stands passed run is =
      opened_call p layout q limit fuel apart same m g there run words at n c w s stands
      (λ w2 s2 h.
      subst (λ z. Alike layout p h.places n c w2 s2 SameValue (after_call z)
      (run_function (regions_running q limit fuel (kinds_of [])) g words (context_of (w2.open_calls + 1) c) s2)) (is (opened w2))
      (function_runs (lowering p layout true types) (Some k) gives (regions_running q limit fuel (kinds_of g.slots)) c params rs g body (act c) (λ flow. source_pure (pos 0))
      (λ x flow u at2 t agrees. (refl, ap (λ z. result_in z t.frame t.world (kinds_of g.slots)) result)) (does c) h.places n w2 s2 words
      (with_arguments params given (record { this = this; variables = [] }) (opened w2))
      (method_begins (lowering p layout true types) (kinds_of g.slots) fit c params declares h.places w2 s2 h.stands given k this words refl kind
      (own_kept layout p at n w s c w2 s2 stands h k this (types_of params) given words passed))))

  -- the extent of the specification of a declared constructor or destructor
  module _ (f : Function) (kinds : Kinds) (fit : KindsFit (lowering p layout true (variables_of f)) kinds)
      (typed : IsTypedBody (lowering p layout true (variables_of f)) (Some k) f) (alike : MemberRunsAlike p layout q limit fuel k (gives_int f.result) (variables_of f))
      (v : SourceFrame) (references : List Reference) (counted : length references ≡ length f.parameters) (variables : v.variables ≡ all_declared_to f.parameters references []) where
    abbrev l : Lowering
    l = lowering p layout true (variables_of f)

    abbrev b : Running
    b = regions_running q limit fuel kinds

    body_does : (c : SourceContext) (e : ℕ) → 0 < e
        → DoesAlike l (Some k) (gives_int f.result) b v c (length f.parameters) 0 e (source_body_of (fueled p limit fuel) f v c) (statements l (statements_in f.body) 0 (length f.parameters) e)
    body_does c e lt =
        statements_do_alike l (Some k) (gives_int f.result) (fueled_call p limit fuel) b fit apart (same_for p layout q limit fuel apart same kinds) (alike kinds fit).0
        (statements_in f.body) v c (length f.parameters) 0 e lt
        (subst (λ xs. AreTypedStatements l (Some k) (gives_int f.result) (statements_in f.body) xs (length f.parameters)) (sym variables) (typed.statements references counted))

    construction_does : f.kind ≡ ConstructorKind → CanInitialiseParts l k f → (c : SourceContext) (e : ℕ) → 0 < e
        → DoesAlike l (Some k) (gives_int f.result) b v c (length f.parameters) 0 e (construction (fueled p limit fuel) k f v c) (body_of l f.kind k f e)
    construction_does kind can c e lt =
        subst (λ z. DoesAlike l (Some k) (gives_int f.result) b v c (length f.parameters) 0 e (construction (fueled p limit fuel) k f v c) (body_of l z k f e)) (sym kind)
        (parts_build_alike l k (gives_int f.result) (fueled_call p limit fuel) b v c (alike kinds fit).1 (length f.parameters) e lt
        (λ i. source_initial_part (fueled p limit fuel) v c i (initialiser_for p f.initialisers i)) (λ i. initial_part l k i (initialiser_for p f.initialisers i))
        (λ i t is.
        initial_goes l k (fueled_call p limit fuel) b v c fit apart (same_for p layout q limit fuel apart same kinds)
        (builtins_same l (Some k) (fueled_call p limit fuel) b v c fit ((alike kinds fit).0.terminates v c) ((alike kinds fit).0.modules v c)) i t is (initialiser_for p f.initialisers i)
        (subst (λ xs. CanInitialise l (Some k) xs (initialiser_for p f.initialisers i) t) (sym variables) (can references counted i t is)))
        (source_body_of (fueled p limit fuel) f v c) (λ d. statements l (statements_in f.body) 0 (length f.parameters) d) (λ d more. body_does c d more))

    constructor_does : f.kind ≡ ConstructorKind → CanInitialiseParts l k f → (c : SourceContext)
        → DoesAlike l (Some k) (gives_int f.result) b v c (length f.parameters) 0 1 (under_specification (fueled p limit fuel) f.specification (construction (fueled p limit fuel) k f v) c)
        (limited l f.specification (body_of l f.kind k f) 1 ∷ [])
    constructor_does kind can c = go f.specification
      where
        go : (s : Option Specification) → DoesAlike l (Some k) (gives_int f.result) b v c (length f.parameters) 0 1
            (under_specification (fueled p limit fuel) s (construction (fueled p limit fuel) k f v) c) (limited l s (body_of l f.kind k f) 1 ∷ [])
        go None =
            does_inside l (Some k) (gives_int f.result) b v c (length f.parameters) 0 1 (construction (fueled p limit fuel) k f v c) (body_of l f.kind k f 2) (omega arith)
            (construction_does kind can c 2 (omega arith))
        go (Some s) = (alike kinds fit).2.constructions v c f s (λ d e lt. construction_does kind can d e lt)

    destruction_does : f.kind ≡ DestructorKind → v.variables ≡ [] → (c : SourceContext) (e : ℕ) → 0 < e
        → DoesAlike l (Some k) (gives_int f.result) b v c (length f.parameters) 0 e (destruction (fueled p limit fuel) k f v.this c) (body_of l f.kind k f e)
    destruction_does kind none c e lt =
        subst (λ z. DoesAlike l (Some k) (gives_int f.result) b v c (length f.parameters) 0 e (destruction (fueled p limit fuel) k f v.this c) (body_of l z k f e)) (sym kind)
        (subst (λ xs. DoesAlike l (Some k) (gives_int f.result) b v c (length f.parameters) 0 e
        (source_destroy_parts (fueled p limit fuel) v.this 0 (parts_of p k) c (source_body_of (fueled p limit fuel) f (record { this = v.this; variables = xs }) c))
        (destroy_parts l k 0 (parts_of p k) (λ d. statements l (statements_in f.body) 0 (length f.parameters) d) e)) none
        (parts_destroy_alike l k (gives_int f.result) (fueled_call p limit fuel) b v c (alike kinds fit).1 (length f.parameters) e lt (source_body_of (fueled p limit fuel) f v c)
        (λ d. statements l (statements_in f.body) 0 (length f.parameters) d) (λ d more. body_does c d more)))

    destructor_does : f.kind ≡ DestructorKind → v.variables ≡ [] → (c : SourceContext)
        → DoesAlike l (Some k) (gives_int f.result) b v c (length f.parameters) 0 1 (under_specification (fueled p limit fuel) f.specification (destruction (fueled p limit fuel) k f v.this) c)
        (limited l f.specification (body_of l f.kind k f) 1 ∷ [])
    destructor_does kind none c = go f.specification
      where
        go : (s : Option Specification) → DoesAlike l (Some k) (gives_int f.result) b v c (length f.parameters) 0 1
            (under_specification (fueled p limit fuel) s (destruction (fueled p limit fuel) k f v.this) c) (limited l s (body_of l f.kind k f) 1 ∷ [])
        go None =
            does_inside l (Some k) (gives_int f.result) b v c (length f.parameters) 0 1 (destruction (fueled p limit fuel) k f v.this c) (body_of l f.kind k f 2) (omega arith)
            (destruction_does kind none c 2 (omega arith))
        go (Some s) = (alike kinds fit).2.destructions v c f s (λ d e lt. destruction_does kind none d e lt)

pub constructors_run_alike : ConstructorsRunAlike
constructors_run_alike p layout q limit fuel k i apart same kind void there typed can alike at this given words n c w s stands passed =
    let f = method_at p k i in
    let g = declared_function p layout true false k f in
    let l = lowering p layout true (variables_of f) in
    let fit : KindsFit l (kinds_of g.slots) = slots_fit p layout true (variables_of f) g.body in
    let r = fueled p limit fuel in
    member_call p layout q limit fuel k apart same (variables_of f) g (limited l f.specification (body_of l f.kind k f) 1 ∷ []) f.parameters (gives_int f.result) refl
    (ap (λ t. result_for l t) void) fit refl typed.parameters (number_of p (constructor k (declared i))) there
    (λ d v. under_specification r f.specification (construction r k f v) d)
    (λ d v references counted variables. constructor_does p layout q limit fuel k apart same f (kinds_of g.slots) fit typed alike v references counted variables kind can d)
    at this given words n c w s stands passed (run_constructor r k (declared i) this given c >> source_pure (pos 0))
    (λ u. regrouped (new_frame f this given u) (λ v. under_specification r f.specification (construction r k f v) c) (λ flow. source_pure (pos 0)))

-- the types of a member function's arguments, where it has none
no_parameters : (l : Layout) (p : Checked) (at : Places) (k : ℕ) (this : Reference) (params : List Param) (given : List Argument) (words : List Word) → params ≡ []
    → SameOwn l p at k this [] given words → SameOwn l p at k this (types_of params) given words
no_parameters l p at k this params given words e same = subst (λ ps. SameOwn l p at k this (types_of ps) given words) (sym e) same

pub default_constructors_run_alike : DefaultConstructorsRunAlike
default_constructors_run_alike p layout q limit fuel k apart same none there can alike at this given words n c w s stands passed =
    let g = implicit_default_function p layout k in
    let l = lowering p layout true [] in
    let kinds = kinds_of g.slots in
    let fit : KindsFit l kinds = slots_fit p layout true [] g.body in
    let call = fueled_call p limit fuel in
    let b = regions_running q limit fuel kinds in
    let r = fueled p limit fuel in
    member_call p layout q limit fuel k apart same [] g (build_parts l k (default_part l k) 0 (parts_of p k) nothing_more 1) [] false
    (ap (λ z. in_order (if z then [] else build_parts l k (default_part l k) 0 (parts_of p k) nothing_more 1)) none) refl fit refl tt
    (number_of p (constructor k implicit_default)) there
    (λ d v. source_build_parts r (source_default_part r v.this d) v.this 0 (parts_of p k) d (source_pure source_normal))
    (λ d v references counted variables.
    parts_build_alike l k false call b v d (alike kinds fit).1 0 1 (omega arith) (source_default_part r v.this d) (default_part l k)
    (λ i t is.
    default_goes l k call b v d fit apart (same_for p layout q limit fuel apart same kinds)
    (builtins_same l (Some k) call b v d fit ((alike kinds fit).0.terminates v d) ((alike kinds fit).0.modules v d)) i t is (can i t is))
    (source_pure source_normal) nothing_more (λ e lt. does_nothing l (Some k) false b v d fit 0 0 e))
    at this given words n c w s stands passed (run_constructor r k implicit_default this given c >> source_pure (pos 0)) (λ u. refl)

pub destructors_run_alike : DestructorsRunAlike
destructors_run_alike p layout q limit fuel k i apart same place kind void none there typed alike at this given words n c w s stands passed =
    let f = method_at p k i in
    let g = declared_function p layout true false k f in
    let l = lowering p layout true (variables_of f) in
    let fit : KindsFit l (kinds_of g.slots) = slots_fit p layout true (variables_of f) g.body in
    let r = fueled p limit fuel in
    subst (λ o. Alike layout p at n c w s SameValue (open_call limit (run_destructor r k o this c >> source_pure (pos 0)) w)
    (call_with q limit (suc fuel) (number_of p (destructor k)) words (context_of w.open_calls c) s)) (sym place)
    (member_call p layout q limit fuel k apart same (variables_of f) g (limited l f.specification (body_of l f.kind k f) 1 ∷ []) f.parameters (gives_int f.result) refl
    (ap (λ t. result_for l t) void) fit refl typed.parameters (number_of p (destructor k)) there
    (λ d v. under_specification r f.specification (destruction r k f v.this) d)
    (λ d v references counted variables.
    destructor_does p layout q limit fuel k apart same f (kinds_of g.slots) fit typed alike v references counted variables kind
    (variables ∙ ap (λ ps. all_declared_to ps references []) none) d)
    at this given words n c w s stands (no_parameters layout p at k this f.parameters given words none passed)
    (run_destructor r k (Some i) this c >> source_pure (pos 0))
    (λ u. ap (λ ps. source_continued (with_arguments ps given (record { this = this; variables = [] }) u)
    (λ v. under_specification r f.specification (destruction r k f v.this) c >>= (λ flow. source_pure (pos 0)))) none))

pub implicit_destructors_run_alike : ImplicitDestructorsRunAlike
implicit_destructors_run_alike p layout q limit fuel k apart same place there alike at this given words n c w s stands passed =
    let g = implicit_destructor_function p layout k in
    let l = lowering p layout true [] in
    let kinds = kinds_of g.slots in
    let fit : KindsFit l kinds = slots_fit p layout true [] g.body in
    let r = fueled p limit fuel in
    subst (λ o. Alike layout p at n c w s SameValue (open_call limit (run_destructor r k o this c >> source_pure (pos 0)) w)
    (call_with q limit (suc fuel) (number_of p (destructor k)) words (context_of w.open_calls c) s)) (sym place)
    (member_call p layout q limit fuel k apart same [] g (destroy_parts l k 0 (parts_of p k) nothing_more 1) [] false refl refl fit refl tt (number_of p (destructor k)) there
    (λ d v. source_destroy_parts r v.this 0 (parts_of p k) d (source_pure source_normal))
    (λ d v references counted variables.
    parts_destroy_alike l k false (fueled_call p limit fuel) (regions_running q limit fuel kinds) v d (alike kinds fit).1 0 1 (omega arith) (source_pure source_normal) nothing_more
    (λ e lt. does_nothing l (Some k) false (regions_running q limit fuel kinds) v d fit 0 0 e))
    at this given words n c w s stands passed (run_destructor r k None this c >> source_pure (pos 0)) (λ u. refl))
