-- Each part of an object is built alike, by its initialiser, by default, or as a copy.
use Rattle.std.proofs.Common.{◌≡◌, ℕ, ℤ, List, [], ◌∷◌, Option, Some, None, refl, sym, ap, ◌∙◌, subst, arith}
use Rattle.std.specs.Prelude.{if◌then◌else◌}
use Rattle.class_layout.specs.StandApart.{StandApart}
use Rattle.cxx_ast.specs.declared.name.Name.{Name}
use Rattle.cxx_ast.specs.Plain.{Checked, Expressions, no_expressions, expression_then}
use Rattle.meaning_forms.specs.Class.{ObjectType, int_type, class_type, derives}
use Rattle.meaning_forms.specs.Construct.{constructor_for, copy_constructor}
use Rattle.meaning_forms.specs.Context.{Context as SourceContext}
use Rattle.meaning_forms.specs.Expression.{lvalue_of, is_of_class, constructor_chosen as source_constructor_chosen, constructor_types, arguments, construct as source_construct}
use Rattle.meaning_forms.specs.Frame.{Frame as SourceFrame, lvalue}
use Rattle.meaning_forms.specs.Outcome.{pure as source_pure, read, read_part, write, ◌>>=◌}
use Rattle.meaning_forms.specs.Part.{Part, cell, object, part_type}
use Rattle.meaning_forms.specs.Running.{by_reference, constructor}
use Rattle.meaning_forms.specs.World.{World as SourceWorld, Reference, part_of}
use Rattle.region_forms.specs.Form.{Place, number, load, address_argument, op, store, regions_from}
use Rattle.linear_simulation.specs.Watched.{watched_all as regions}
use Rattle.region_forms.specs.LowerStatement.{with_value}
use Rattle.region_forms.specs.World.{address_word}
use Rattle.region_forms.specs.Evaluation.{with_some, read_location, location_address, value_in}
use Rattle.region_forms.specs.Numbering.{number_of}
use Rattle.region_forms.specs.Outcome.{State, normal}
use Rattle.region_forms.specs.Ending.{Running}
use Rattle.region_forms.specs.LowerExpression.{Lowering, first_temporary, copies, constructor_chosen, lvalue_type, lower_arguments, constructed}
use Rattle.region_simulation.specs.Typed.{Shaped}
use Rattle.region_simulation.specs.Places.{Places, Refers}
use Rattle.region_simulation.specs.Reach.{Reaches, KindsFit}
use Rattle.region_simulation.specs.Stands.{Stands, context_of}
use Rattle.region_simulation.specs.Value.{IsValue}
use Rattle.region_simulation.specs.Alike.{Alike}
use Rattle.region_simulation.specs.Calls.{SameCalls}
use Rattle.region_simulation.specs.Expressions.{source_running, SameBuiltins}
use Rattle.region_simulation.specs.Passes.{IsGiven, Passes}
use Rattle.region_simulation.specs.Statements.{DecidesByType, CanConstruct}
use Rattle.region_simulation.proofs.Following.{keeps_all}
use Rattle.region_simulation.proofs.Members.{refers_shaped}
use Rattle.region_simulation.proofs.Naming.{names_placed}
use Rattle.region_simulation.proofs.Evaluating.{meant_case}
use Rattle.region_simulation.proofs.Passing.{words_address, done_alike}
use Rattle.region_simulation.proofs.Given.{pass_none}
use Rattle.region_simulation.proofs.Expressions.{types_all, expressions_pass}
use Rattle.region_statements.specs.Sequences.{GoesOn}
use Rattle.region_statements.specs.Statements.{SourceCalls}
use Rattle.region_statements.specs.Members.{CanDefault, CanCopyFrom}
use Rattle.region_statements.proofs.OwnParts.{Leads, construct_here, AlwaysLeads, store_goes, construct_goes}
use Rattle.region_simulation.proofs.There.{refers_there}

shaped_type : (p : Checked) (t : ObjectType) (a : Part) → Shaped p t a → part_type a ≡ t
shaped_type p int_type (cell v) h = refl
shaped_type p int_type (object k parts) h = absurd h
shaped_type p (class_type k) (cell v) h = absurd h
shaped_type p (class_type k) (object c parts) h = ap class_type h.0

module _ (l : Lowering) (own : Option ℕ) (call : SourceCalls) (b : Running) (v : SourceFrame) (c : SourceContext) (fit : KindsFit l b.kinds)
    (same : SameCalls l.layout (source_running l call) b) (builtins : SameBuiltins l own call b v c) where
  -- which constructor is called is known by types
  chosen_same : (k : ℕ) (es : Expressions) → CanConstruct l own v.variables k es → (at : Places) (w : SourceWorld) (s : State)
      → Stands l.layout l.program at c w s → Reaches l own at v s.frame → source_constructor_chosen l.program w v k es ≡ constructor_chosen l k es
  chosen_same k no_expressions can at w s stands reach = refl
  chosen_same k (expression_then e (expression_then f es)) can at w s stands reach = refl
  chosen_same k (expression_then e no_expressions) can at w s stands reach =
      ap (λ z. if z then copy_constructor l.program k else constructor_for l.program k 1) (go (lvalue_of e) can.decided)
    where
      go : (o : Option (List Name)) → DecidesByType l own v.variables o → is_of_class l.program w v k o ≡ copies l k o
      go None h = refl
      go (Some names) h =
          let (a, refers, located) = names_placed l own b.kinds v at c w s fit reach stands names (lvalue_type l names) h in
          ap (λ t. derives l.program t (class_type k)) (shaped_type l.program (lvalue_type l names) (part_of w (lvalue l.program w v names)) (refers_shaped w stands.memory refers))

  -- an object is built from arguments
  pub arguments_here : (place : Place) (r : Reference) (j : ℕ) (es : Expressions) → CanConstruct l own v.variables j es
      → (at : Places) (w : SourceWorld) (s : State) → Stands l.layout l.program at c w s → Reaches l own at v s.frame
      → Leads l.layout l.program at (first_temporary l) b.kinds s.frame place r (class_type j)
      → Alike l.layout l.program at (first_temporary l) c w s (λ u flow w2 at2 s2. flow ≡ normal) (source_construct (source_running l call) v j es r c w)
      (regions b (regions_from (constructed (number_of l.program (constructor j (constructor_chosen l j es))) place
      (lower_arguments l es (constructor_types l.program j (constructor_chosen l j es)) (first_temporary l)))) (context_of w.open_calls c) s)
  arguments_here place r j es can at w s stands reach leads =
      let which = constructor_chosen l j es in
      let types = constructor_types l.program j which in
      let y = lower_arguments l es types (first_temporary l) in
      let passes : Passes l own b v c (first_temporary l) types (arguments (source_running l call) v es types c) y =
      subst (λ ts. Passes l own b v c (first_temporary l) ts (arguments (source_running l call) v es types c) y) (types_all types es can.counted)
      (expressions_pass l own call b v c fit same builtins es types (first_temporary l) (omega arith) can.typed) in
      subst (λ q. Alike l.layout l.program at (first_temporary l) c w s (λ u flow w2 at2 s2. flow ≡ normal)
      ((arguments (source_running l call) v es (constructor_types l.program j q) c >>= (λ given. call (constructor j q) r given c >>= (λ n. source_pure (tt {0})))) w)
      (regions b (regions_from (constructed (number_of l.program (constructor j which)) place y)) (context_of w.open_calls c) s))
      (sym (chosen_same j es can at w s stands reach))
      (construct_here l own b v c call same place r j which can.callable (arguments (source_running l call) v es types c) y passes at w s stands reach leads)

  pub arguments_construct : (place : Place) (r : Reference) (j : ℕ) (es : Expressions) → AlwaysLeads l own b v c place r (class_type j) → CanConstruct l own v.variables j es
      → GoesOn l own b v c (source_construct (source_running l call) v j es r c)
      (constructed (number_of l.program (constructor j (constructor_chosen l j es))) place
      (lower_arguments l es (constructor_types l.program j (constructor_chosen l j es)) (first_temporary l)))
  arguments_construct place r j es leads can at w s stands reach = arguments_here place r j es can at w s stands reach (leads at w s stands reach)

  -- an object is built by default
  pub default_constructs : (place : Place) (r : Reference) (j : ℕ) → AlwaysLeads l own b v c place r (class_type j) → CanDefault l.program j
      → GoesOn l own b v c (λ w. (source_pure [] >>= (λ given. call (constructor j (constructor_for l.program j 0)) r given c >>= (λ n. source_pure (tt {0})))) w)
      (constructed (number_of l.program (constructor j (constructor_for l.program j 0))) place (record { before = []; arguments = []; next = 0 }))
  default_constructs place r j leads can =
      construct_goes l own b v c call same place r j leads (constructor_for l.program j 0) can.there (source_pure []) (record { before = []; arguments = []; next = 0 })
      (subst (λ ts. Passes l own b v c (first_temporary l) ts (source_pure []) (record { before = []; arguments = []; next = 0 })) (sym can.none) (pass_none l own b v c fit (first_temporary l) 0))

  -- an object is copied from where another place leads
  pub copy_constructs : (place from : Place) (r source : Reference) (j : ℕ) → AlwaysLeads l own b v c place r (class_type j) → AlwaysLeads l own b v c from source (class_type j)
      → CanCopyFrom l.program j
      → GoesOn l own b v c (λ w. (source_pure (by_reference source ∷ []) >>= (λ given. call (constructor j (copy_constructor l.program j)) r given c >>= (λ n. source_pure (tt {0})))) w)
      (constructed (number_of l.program (constructor j (copy_constructor l.program j))) place (record { before = []; arguments = address_argument from ∷ []; next = 0 }))
  copy_constructs place from r source j leads comes can =
      construct_goes l own b v c call same place r j leads (copy_constructor l.program j) can.there (source_pure (by_reference source ∷ [])) (record { before = []; arguments = address_argument from ∷ []; next = 0 })
      (subst (λ ts. Passes l own b v c (first_temporary l) ts (source_pure (by_reference source ∷ [])) (record { before = []; arguments = address_argument from ∷ []; next = 0 })) (sym can.one)
      (λ at w s stands reach.
      let x = comes at w s stands reach in
      done_alike l.layout l.program (IsGiven l.layout l.program b.kinds (can.type ∷ []) (address_argument from ∷ [])) at (first_temporary l) c w s (by_reference source ∷ []) normal stands (
        refl,
        (
          address_word x.address ∷ [],
          words_address b.kinds s.frame s.world from [] x.address [] (ap (λ q. with_some q location_address) (x.located s.frame (keeps_all (first_temporary l) s.frame))) refl,
          ((can.reference, x.address, subst (λ t. Refers l.layout l.program at source t x.address) (sym can.named) x.refers, refl), tt),
        ),
      )))

  -- an int is copied from there
  pub int_copies : StandApart l.layout.classes l.program.classes → (place from : Place) (r source : Reference) → AlwaysLeads l own b v c place r int_type
      → AlwaysLeads l own b v c from source int_type
      → GoesOn l own b v c (read source >>= (λ z. write r z)) (with_value (record { before = []; value = load from; next = 0 }) (λ y. op (store place y)))
  int_copies apart place from r source leads comes =
      store_goes l own b v c apart place r leads (read source) (record { before = []; value = load from; next = 0 })
      (meant_case l own b v c fit (first_temporary l) 0 (read source) [] (load from) refl
      (λ at w s stands reach. go at w s stands (comes at w s stands reach) (part_of w source) refl))
    where
      go : (at : Places) (w : SourceWorld) (s : State) → Stands l.layout l.program at c w s → Leads l.layout l.program at (first_temporary l) b.kinds s.frame from source int_type
          → (x : Part) → part_of w source ≡ x → IsValue w (read_part x w) (value_in b.kinds s.frame s.world (load from))
      go at w s stands x (object k parts) is = tt
      go at w s stands x (cell None) is = tt
      go at w s stands x (cell (Some n)) is = (
        refl,
        ap (λ q. with_some q (read_location s.frame s.world)) (x.located s.frame (keeps_all (first_temporary l) s.frame)) ∙
            ap (λ z. if z then s.world.memory x.address else None) (refers_there l.layout l.program at c w s stands source int_type x.address x.refers) ∙
            ap s.world.memory x.refers.address ∙
            stands.memory.holds source.object x.refers.stood source.path n x.refers.stands is,
      )

  -- an int gets a number, or the value of an expression
  pub int_set_to : StandApart l.layout.classes l.program.classes → (place : Place) (r : Reference) → AlwaysLeads l own b v c place r int_type → (n : ℤ)
      → GoesOn l own b v c (λ w. (source_pure n >>= (λ z. write r z)) w) (with_value (record { before = []; value = number n; next = 0 }) (λ y. op (store place y)))
  int_set_to apart place r leads n =
      store_goes l own b v c apart place r leads (source_pure n) (record { before = []; value = number n; next = 0 })
      (meant_case l own b v c fit (first_temporary l) 0 (source_pure n) [] (number n) refl (λ at w s stands reach. (refl, refl)))
