-- The objects of exceptions are built alike: objects from arguments, and copies.
use Rattle.std.proofs.Common.{◌≡◌, ℕ, ◌<◌, ◌≤◌, ℤ, List, [], ◌∷◌, ◌++◌, Option, Some, None, refl, sym, ap, ◌∙◌, subst, arith, length, true}
use Rattle.std.specs.Prelude.{if◌then◌else◌}
use Rattle.cxx_ast.specs.declared.types.Ty.{Ty}
use Rattle.cxx_ast.specs.declared.name.Name.{Name}
use Rattle.cxx_ast.specs.Plain.{Expressions, no_expressions, expression_then}
use Rattle.meaning_forms.specs.Class.{class_type, derives}
use Rattle.meaning_forms.specs.Part.{unset}
use Rattle.meaning_forms.specs.World.{World as SourceWorld, Reference, whole, part_of}
use Rattle.meaning_forms.specs.Context.{Context as SourceContext}
use Rattle.meaning_forms.specs.Frame.{Frame as SourceFrame, lvalue}
use Rattle.meaning_forms.specs.Outcome.{Action as SourceAction, pure as source_pure, continued as source_continued}
use Rattle.meaning_forms.specs.Running.{Running as SourceRunning, Argument as SourceArgument, Callee, constructor}
use Rattle.meaning_forms.specs.Construct.{copy_constructor, constructor_for, copy_object}
use Rattle.meaning_forms.specs.Handler.{new_copy}
use Rattle.meaning_forms.specs.Terminate.{behind_barrier as source_behind_barrier}
use Rattle.meaning_forms.specs.Expression.{lvalue_of, count_of, arguments, constructor_types, is_of_class, constructor_chosen as source_constructor_chosen, construct as source_construct}
use Rattle.meaning_forms.specs.Statement.{object_thrown as source_object_thrown}
use Rattle.region_forms.specs.Form.{Place, construct, op, arguments_from, regions_from}
use Rattle.region_forms.specs.Numbering.{number_of}
use Rattle.region_forms.specs.World.{of_exception, address_word, object_address, address_in}
use Rattle.region_forms.specs.Evaluation.{with_some, location_behind, location_address}
use Rattle.region_forms.specs.Outcome.{State, Flow, normal, Result}
use Rattle.region_forms.specs.Ending.{Running}
use Rattle.region_forms.specs.Meaning.{followed, operation}
use Rattle.linear_simulation.specs.Watched.{watched as region, watched_all as regions}
use Rattle.region_forms.specs.LowerExpression.{Lowering, result_slot, exception_slot, first_temporary, lvalue_type, copies, constructor_chosen, lower_arguments, lower_construct, place_of}
use Rattle.region_forms.specs.LowerStatement.{thrown_place, copied}
use Rattle.region_simulation.specs.Places.{Places, Stood}
use Rattle.region_simulation.specs.Reach.{Reaches, KindsFit}
use Rattle.region_simulation.specs.Stands.{Stands, context_of}
use Rattle.region_simulation.specs.Alike.{Follows, Alike}
use Rattle.region_simulation.specs.Calls.{SameArguments}
use Rattle.region_simulation.specs.Names.{AreNamed}
use Rattle.region_simulation.specs.Passes.{IsGiven}
use Rattle.region_simulation.specs.Typing.{types_for}
use Rattle.region_simulation.specs.Statements.{CanCopy, CanConstruct, DecidesByType, DecidesAlone}
use Rattle.region_simulation.specs.Expressions.{source_running, SameBuiltins}
use Rattle.region_simulation.proofs.Following.{follows_now, alike_on, alike_then, refers_kept, reaches_kept}
use Rattle.region_simulation.proofs.Flowing.{alike_after, single}
use Rattle.region_simulation.proofs.Evaluating.{alike_map}
use Rattle.region_simulation.proofs.Joining.{joined, alone}
use Rattle.region_simulation.proofs.Keeping.{names_addressed}
use Rattle.region_simulation.proofs.Members.{refers_shaped}
use Rattle.region_simulation.proofs.Expressions.{expressions_pass}
use Rattle.region_simulation.proofs.Standing.{with_place, with_object, placed_new, one_more, follows_new}
use Rattle.region_exceptions.specs.Same.{RunAlike}
use Rattle.region_exceptions.specs.Barred.{CallsAreBarred}
use Rattle.region_exceptions.specs.Scopes.{Any, LeadsTo}
use Rattle.region_exceptions.specs.Throws.{IsBuilt}
use Rattle.region_exceptions.proofs.Unset.{unset_is_shaped, unset_is_not_set}
use Rattle.region_exceptions.proofs.Kept.{shaped_type}
use Rattle.region_exceptions.proofs.Protecting.{leads_on}
use Rattle.region_exceptions.proofs.Constructing.{built_by, copied_both}
use Rattle.region_simulation.specs.Lives.{is_live}

-- each argument has its parameter
types_all : (types : List Ty) (es : Expressions) → count_of es ≡ length types → types_for types es ≡ types
types_all [] no_expressions e = refl
types_all [] (expression_then x es) e = absurd (omega (arith, e))
types_all (t ∷ types) no_expressions e = absurd (omega (arith, e))
types_all (t ∷ types) (expression_then x es) e = ap (λ ts. t ∷ ts) (types_all types es (omega (arith, e)))

module _ (l : Lowering) (own : Option ℕ) (call : Callee → Reference → List SourceArgument → SourceContext → SourceAction ℤ) (b : Running) (v : SourceFrame) (c : SourceContext)
    (fit : KindsFit l b.kinds) (same : RunAlike l.layout (source_running l call) b) (builtins : SameBuiltins l own call b v c) where
  abbrev a : SourceRunning
  a = source_running l call

  module _ (at : Places) (w : SourceWorld) (s : State) (stands : Stands l.layout l.program at c w s) (reach : Reaches l own at v s.frame) where
    -- the same constructor is chosen by the type of what is named
    chosen_by : (k : ℕ) (names : Option (List Name)) → DecidesByType l own v.variables names → is_of_class l.program w v k names ≡ copies l k names
    chosen_by k None h = refl
    chosen_by k (Some names) h =
        let x = names_addressed l own b.kinds v at c w s (result_slot l) (omega arith) fit reach stands names (lvalue_type l names) h in
        ap (λ t. derives l.program t (class_type k))
        (shaped_type l.program (lvalue_type l names) (part_of w (lvalue l.program w v names)) (refers_shaped w stands.memory x.refers))

    chosen_same : (k : ℕ) (es : Expressions) → DecidesAlone l own v.variables es → source_constructor_chosen l.program w v k es ≡ constructor_chosen l k es
    chosen_same k no_expressions h = refl
    chosen_same k (expression_then e no_expressions) h =
        ap (λ z. if z then copy_constructor l.program k else constructor_for l.program k 1) (chosen_by k (lvalue_of e) h)
    chosen_same k (expression_then e (expression_then f es)) h = refl

    -- an object is built from arguments, where a place leads to it
    pub constructs : (k : ℕ) (es : Expressions) (place : Place) (target : Reference) → CanConstruct l own v.variables k es
        → LeadsTo l.layout l.program at (first_temporary l) b.kinds s.frame place target k
        → Alike l.layout l.program at (first_temporary l) c w s (λ u flow w2 at2 s2. flow ≡ normal) (source_construct a v k es target c w)
        (regions b (regions_from (lower_construct l k es place (first_temporary l))) (context_of w.open_calls c) s)
    constructs k es place target can leads =
        let ctx = context_of w.open_calls c in
        let t = first_temporary l in
        let which = constructor_chosen l k es in
        let types = constructor_types l.program k which in
        let y = lower_arguments l es types t in
        let o = construct place (number_of l.program (constructor k which)) (arguments_from y.arguments) in
        let next : Unit {0} → Flow → SourceWorld → Places → State → Type 0 = (λ u flow w2 at2 s2. flow ≡ normal) in
        let act : List SourceArgument → SourceAction (Unit {0}) = (λ given w. source_continued (a.call (constructor k which) target given c w) (λ z. source_pure (tt {0}))) in
        subst (λ q. Alike l.layout l.program at t c w s next
        (source_continued (arguments a v es (constructor_types l.program k q) c w) (λ given w. source_continued (a.call (constructor k q) target given c w) (λ z. source_pure (tt {0}))))
        (regions b (regions_from (y.before ++ op o ∷ [])) ctx s)) (sym (chosen_same k es can.decided))
        (subst (λ z. Alike l.layout l.program at t c w s next (source_continued (arguments a v es types c w) act) z) (sym (joined b ctx y.before (op o ∷ []) s))
        (alike_then l.layout l.program (IsGiven l.layout l.program b.kinds (types_for types es) y.arguments) next at t c w s (arguments a v es types c w)
        (regions b (regions_from y.before) ctx s) act (followed (regions b (regions_from (op o ∷ [])) ctx))
        (expressions_pass l own call b v c fit same.calls builtins es types t (omega arith) can.typed at w s stands reach)
        (λ given flow w2 s2 h (fl, (words, is, passes)).
        subst (λ f. Alike l.layout l.program h.places t c w2 s2 next (act given w2) (followed (regions b (regions_from (op o ∷ [])) ctx) f s2)) (sym fl)
        (subst (λ z. Alike l.layout l.program h.places t c w2 s2 next (act given w2) z) (sym (alone b ctx o s2))
        (alike_after l.layout l.program Any next h.places t c w2 s2 (act given w2) (operation b o ctx s2) (λ u. normal) (λ u z w3 at3 s3 any. refl)
        (subst (λ n. Alike l.layout l.program h.places t c w2 s2 Any (act given w2) (operation b o (context_of n c) s2)) h.open_calls
        (built_by l.layout a b same h.places t t c w2 s2 place target k which given y.arguments words can.callable h.stands
        (leads_on l.layout l.program at t b.kinds c c w w2 s s2 place target k stands h leads) is
        (subst (λ ts. SameArguments l.layout l.program h.places ts given words) (types_all types es can.counted) passes))))))))

  -- a new object stands at an exception that is being built
  module _ (at : Places) (w : SourceWorld) (s : State) (e : ℕ) (stands : Stands l.layout l.program at c w s) (reach : Reaches l own at v s.frame)
      (slot : s.frame.slots (exception_slot l) ≡ address_word (object_address e)) (made : (e ≤ w.last_number) × (is_live w.live e ≡ true))
      (empty : (o : ℕ) (x : Stood) → at o ≡ Some x → x.base ≡ of_exception e → ⊥) (k : ℕ) (there : k < length l.program.classes) where
    abbrev o : ℕ
    o = length w.objects

    abbrev w1 : SourceWorld
    w1 = with_object (unset l.program (class_type k)) w

    abbrev stood : Stood
    stood = record { base = of_exception e; type = class_type k }

    abbrev h1 : Follows l.layout l.program at (first_temporary l) w s c w1 s
    h1 = follows_new l.layout l.program at c w s stands (of_exception e) (class_type k) (unset l.program (class_type k)) s.world.memory empty made
        (unset_is_shaped l.program same.ordered k there) (λ q other. refl) (λ path n is. absurd (unset_is_not_set l.program (class_type k) path n is)) (first_temporary l)

    reach1 : Reaches l own (with_place at o stood) v s.frame
    reach1 = reaches_kept l own v at (first_temporary l) w s c c w1 s stands h1 (omega arith) reach

    leads1 : LeadsTo l.layout l.program (with_place at o stood) (first_temporary l) b.kinds s.frame (thrown_place l) (whole o) k
    leads1 = record {
      there = there;
      address = object_address e;
      refers = record { stood = stood; stands = placed_new at o stood; typed = refl; address = refl };
      stays = λ g keeps. ap (λ x. with_some (location_behind 0 (address_in x)) location_address) (keeps.slots (exception_slot l) (omega arith) ∙ slot);
    }

    -- where it is built, it stands there still
    built_on : (act : SourceAction (Unit {0})) (rs : State → Result Flow)
        → Alike l.layout l.program (with_place at o stood) (first_temporary l) c w1 s (λ u flow w2 at2 s2. flow ≡ normal) (act w1) (rs s)
        → Alike l.layout l.program at (first_temporary l) c w s (IsBuilt e (class_type k)) (source_continued (act w1) (λ u. source_pure o)) (rs s)
    built_on act rs h =
        alike_on l.layout l.program (IsBuilt e (class_type k)) at (first_temporary l) c c w s w1 s h1 (source_continued (act w1) (λ u. source_pure o)) (rs s)
        (alike_map l.layout l.program (λ u flow w2 at2 s2. flow ≡ normal) (IsBuilt e (class_type k)) (with_place at o stood) (first_temporary l) c w1 s (act w1) (rs s) (λ u. source_pure o) h
        (λ u flow w2 s2 g fl. (
          flow,
          s2,
          refl,
          (follows_now l.layout l.program g.places (first_temporary l) c w2 s2 g.stands, (fl, g.stay o (let more = one_more (unset l.program (class_type k)) w in omega (arith, more)) ∙ placed_new at o stood)),
        )))

    pub object_built : (es : Expressions) → CanConstruct l own v.variables k es
        → Alike l.layout l.program at (first_temporary l) c w s (IsBuilt e (class_type k)) (source_object_thrown a v k es c w)
        (regions b (regions_from (lower_construct l k es (thrown_place l) (first_temporary l))) (context_of w.open_calls c) s)
    object_built es can =
        built_on (source_construct a v k es (whole o) c) (regions b (regions_from (lower_construct l k es (thrown_place l) (first_temporary l))) (context_of w.open_calls c))
        (constructs (with_place at o stood) w1 s h1.stands reach1 k es (thrown_place l) (whole o) can leads1)

    pub copy_built : CallsAreBarred a → (names : List Name) → AreNamed l own v.variables names (class_type k) → CanCopy l.program k
        → Alike l.layout l.program at (first_temporary l) c w s (IsBuilt e (class_type k)) (new_copy a k (lvalue l.program w v names) c w)
        (regions b (regions_from (copied l k (thrown_place l) (place_of l names) ∷ [])) (context_of w.open_calls c) s)
    copy_built bar names named can =
        let source = lvalue l.program w v names in
        let x = names_addressed l own b.kinds v at c w s (first_temporary l) (omega arith) fit reach stands names (class_type k) named in
        let comes : LeadsTo l.layout l.program (with_place at o stood) (first_temporary l) b.kinds s.frame (place_of l names) source k = record {
          there = there;
          address = x.address;
          refers = refers_kept l.layout l.program at (first_temporary l) w s c c w1 s stands h1 source (class_type k) x.address x.refers;
          stays = x.stays;
        } in
        subst (λ z. Alike l.layout l.program at (first_temporary l) c w s (IsBuilt e (class_type k)) (new_copy a k source c w) z)
        (sym (single b (copied l k (thrown_place l) (place_of l names)) (context_of w.open_calls c) s))
        (built_on (source_behind_barrier a c (copy_object a k (whole o) source)) (region b (copied l k (thrown_place l) (place_of l names)) (context_of w.open_calls c))
        (copied_both l.layout a b same bar (with_place at o stood) (first_temporary l) (first_temporary l) c w1 s (thrown_place l) (place_of l names) (whole o) source k can h1.stands leads1 comes).1)
