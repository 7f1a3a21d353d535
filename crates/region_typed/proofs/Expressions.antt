-- Expressions that break no rule are typed.
use Rattle.std.proofs.Common.{◌≡◌, ◌==◌, ℕ, suc, ◌&&◌, Bool, true, false, not, List, [], ◌∷◌, drop, length, Option, Some, None, bytes_eq, codes, if◌then◌else◌, refl, sym, ap, subst, arith}
use Rattle.std.proofs.lemmas.Bool.Decides.{nat_tests}
use Rattle.std.proofs.lemmas.List.{length-map}
use Rattle.cxx_ast.specs.declared.name.Name.{Name}
use Rattle.cxx_ast.specs.declared.name.Bound.{Bound}
use Rattle.cxx_ast.specs.declared.name.Bound.TheVariants.{Free, Class, Builtin as BuiltinBound}
use Rattle.cxx_ast.specs.declared.name.Builtin.{Builtin}
use Rattle.cxx_ast.specs.declared.name.Builtin.TheVariants.{WriteInt, ReadByte, Exit, Module, Cancel, Terminate, SetTerminate, SetUnexpected, Uncaught, BadException}
use Rattle.cxx_ast.specs.declared.types.Ty.{Ty}
use Rattle.cxx_ast.specs.declared.types.Ty.TheVariants.{Int, Void, Object, IntRef, ObjectRef}
use Rattle.cxx_ast.specs.declared.types.Param.{Param}
use Rattle.cxx_ast.specs.Plain.{Expression, number, path, paren, unary, binary, call, std_call, Expressions, no_expressions, expression_then}
use Rattle.cxx_ast.specs.Rule.{arity, main_use, handler_form}
use Rattle.cxx_ast.specs.Finding.{breaks, breaks_if}
use Rattle.cxx_ast.specs.Environment.{Kind, int_kind, truth_kind, void_kind, class_kind, no_kind, same_kind, Passing, Signature, Scope, Meaning, unknown, a_local, a_field, a_method, a_global, a_function, a_class, a_builtin}
use Rattle.cxx_ast.specs.Lookup.{look}
use Rattle.cxx_ast.specs.Reference.{Judgement, int_wanted, int_found}
use Rattle.cxx_ast.specs.Calls.{std_builtin, broken_call, if_sound, ints_found, handler_meant, handler_found, builtin_ints, builtin_kind}
use Rattle.cxx_ast.specs.ExpressionRules.{judged, all_judged}
use Rattle.cxx_ast.specs.Resolve.{std_bound, bound_of, resolve_path, resolve_expression, resolve_expressions}
use Rattle.cxx_ast.specs.Grammatical.{IsExpression, AreExpressions, IsCall}
use Rattle.meaning_forms.specs.Class.{int_type, function_at, method_at}
use Rattle.meaning_forms.specs.Expression.{receiver, callee_bound, types_of, parameter_types, function_named, function_number, count_of}
use Rattle.meaning_forms.specs.Frame.{Variable as FrameVariable}
use Rattle.region_forms.specs.LowerExpression.{lvalue_type}
use Rattle.region_simulation.specs.Names.{AreNamed}
use Rattle.region_simulation.specs.Stands.{IsHandler}
use Rattle.region_simulation.specs.Typing.{CanPass, UnlessHandler, CanCall, IsStandard, IsTyped, AreTyped}
use Rattle.region_formed.proofs.Fine.{Fine, fine_parts, held}
use Rattle.region_formed.proofs.Meant.{Typed, ParamsMeant, numbered, Given, lowering_in, classes_in, Reach, MeaningMeant}
use Rattle.region_formed.proofs.Meanings.{look_meant}
use Rattle.region_formed.proofs.Paths.{path_meant}
use Rattle.region_formed.proofs.Constructors.{lengths_same}
use Rattle.region_formed.proofs.Fitting.{same_number}
use Rattle.region_formed.proofs.Called.{Callable, calls_function, calls_method, calls_builtin, builds, bound_called}
use Rattle.region_formed.proofs.Expressions.{NotBuilt}
use Rattle.region_typed.specs.Known.{InReach, SettledIn}
use Rattle.region_typed.proofs.Meaning.{NameIn, look_in}
use Rattle.region_typed.proofs.Paths.{path_typed}
use Rattle.region_typed.proofs.Callees.{CalledTyped, CallTyped, call_typed, std_typed}
use Rattle.region_typed.proofs.Arguments.{IsInt, int_is, IntFine, Suits, suits, ints_suit}

-- what holds of an argument by value, by what does
passes_by : (g : Given) (xs : List FrameVariable) (sc : Scope) (types : List Ty) (e : Expression) (A B : Type 0) → (A → B) → CanPass (lowering_in g) sc.own xs types e A →
    CanPass (lowering_in g) sc.own xs types e B
passes_by g xs sc [] e A B f h = f h
passes_by g xs sc (Int ∷ types) e A B f h = f h
passes_by g xs sc (Void ∷ types) e A B f h = h
passes_by g xs sc (Object n ∷ types) e A B f h = h
passes_by g xs sc (IntRef const ∷ types) e A B f h = h
passes_by g xs sc (ObjectRef const n ∷ types) e A B f h = h

-- so many parameters
pub no_parameters : (n : ℕ) (qs : List Passing) (ps : List Param) → ParamsMeant n qs ps → (length qs == 0) ≡ true → ps ≡ []
no_parameters n [] [] h e = refl
no_parameters n [] (x ∷ ps) h e = absurd h
no_parameters n (q ∷ qs) ps h e = absurd (none (length qs) e)
  where
    none : (m : ℕ) → (suc m == 0) ≡ true → ⊥
    none m q = grind (arith, nat_tests, q)

second : (a b : Bool) → (a && b) ≡ true → b ≡ true
second true b h = h
second false b h = absurd (cc h)

module _ (g : Given) (settled : SettledIn g) (xs : List FrameVariable) (sc : Scope) (r : Reach g sc) (o : InReach xs sc) where
  -- the function that is given to be set as a handler is one without parameters
  handler_named : (m : Meaning) (place : ℕ) → MeaningMeant g m → NameIn g.program g.env xs sc.own m → Fine g.defined (handler_meant place m) →
      IsHandler g.program (function_number (bound_of g.env m))
  handler_named (a_function s) place h q f =
      let main = breaks_if (bytes_eq s.name.text (codes "main")) main_use place in
      let form = breaks_if (not (same_kind s.result void_kind && length s.parameters == 0)) handler_form place in
      let right = held g.defined (same_kind s.result void_kind && length s.parameters == 0) handler_form place (fine_parts g.defined main form f.1).1 in
      let none = second (same_kind s.result void_kind) (length s.parameters == 0) right in
      let n = numbered g.defined s.name.text in
      subst (λ d. IsHandler g.program (Some (numbered d s.name.text))) (sym g.meant.definitions)
      ((h.there f.0).0, no_parameters (classes_in g) s.parameters (function_at g.program n).parameters (settled.functions q.0 s q.1 f.0) none)
  handler_named unknown place h q f = absurd f
  handler_named (a_local v) place h q f = absurd f
  handler_named (a_field k i kind) place h q f = absurd f
  handler_named (a_method k i s) place h q f = absurd f
  handler_named (a_global x) place h q f = absurd f
  handler_named (a_class k) place h q f = absurd f
  handler_named (a_builtin b) place h q f = absurd f

  module _ (place : ℕ) where
    -- one name of a function is given
    abbrev OneHandler : Expressions → Type 0
    OneHandler es = (1 ≡ count_of (resolve_expressions g.env sc es)) × IsHandler g.program (function_named (resolve_expressions g.env sc es))

    handler_typed : (es : Expressions) → Fine g.defined (handler_found g.env sc place (all_judged g.env sc es)) → OneHandler es
    handler_typed no_expressions f = absurd f
    handler_typed (expression_then e (expression_then x es)) f = absurd f
    handler_typed (expression_then (path (n ∷ [])) no_expressions) f =
        (refl, handler_named (look g.env sc n) n.place (look_meant g sc r n) (look_in g.program g.checked g.defined g.special g.env g.meant settled.classes xs sc o n) f)
    handler_typed (expression_then (path []) no_expressions) f = absurd f
    handler_typed (expression_then (path (n ∷ m ∷ names)) no_expressions) f = absurd f
    handler_typed (expression_then (number v other) no_expressions) f = absurd f
    handler_typed (expression_then (paren e other) no_expressions) f = absurd f
    handler_typed (expression_then (unary op e other) no_expressions) f = absurd f
    handler_typed (expression_then (binary op x y) no_expressions) f = absurd f
    handler_typed (expression_then (call names es) no_expressions) f = absurd f
    handler_typed (expression_then (std_call n es other) no_expressions) f = absurd f

  module _ (thrown : Bool) (object : List Name) (es : Expressions) (i : AreExpressions es)
      (rest : (types : List Ty) → Suits g settled xs sc r o types es → AreTyped (lowering_in g) sc.own xs (resolve_expressions g.env sc es) types) where
    -- a call of what is bound can be made
    abbrev CanBeMade : Bound → Type 0
    CanBeMade b =
        CanCall (lowering_in g) sc.own xs b object (resolve_expressions g.env sc es) ×
        UnlessHandler b (AreTyped (lowering_in g) sc.own xs (resolve_expressions g.env sc es) (parameter_types g.program b))

    -- as many arguments as parameters
    counts : (s : Signature) (ps : List Param) → ParamsMeant (classes_in g) s.parameters ps → (length (all_judged g.env sc es) == length s.parameters) ≡ true →
        count_of (resolve_expressions g.env sc es) ≡ length (types_of ps)
    counts s ps h c =
        let number = same_number g.env sc es in
        let same = lengths_same (classes_in g) s.parameters ps h in
        let mapped = length-map ps (λ x. x.ty) in
        grind (arith, nat_tests, number, same, mapped, c)

    -- a built-in function that takes ints
    ints_made : (b : Builtin) (place n : ℕ) → builtin_ints b ≡ n →
        Fine g.defined (if length (all_judged g.env sc es) == builtin_ints b then if_sound (builtin_kind b) (ints_found (all_judged g.env sc es))
        else broken_call (breaks arity place ∷ []) (all_judged g.env sc es)).found →
        (Some n ≡ Some (count_of (resolve_expressions g.env sc es))) × AreTyped (lowering_in g) sc.own xs (resolve_expressions g.env sc es) []
    ints_made b place n e f = go (length (all_judged g.env sc es) == builtin_ints b) refl f
      where
        go : (c : Bool) → (length (all_judged g.env sc es) == builtin_ints b) ≡ c → Fine g.defined (if c then if_sound (builtin_kind b) (ints_found (all_judged g.env sc es))
            else broken_call (breaks arity place ∷ []) (all_judged g.env sc es)).found →
            (Some n ≡ Some (count_of (resolve_expressions g.env sc es))) × AreTyped (lowering_in g) sc.own xs (resolve_expressions g.env sc es) []
        go true c h =
            let number = same_number g.env sc es in
            let same : n ≡ count_of (resolve_expressions g.env sc es) = grind (arith, nat_tests, number, c, e) in
            (ap Some same, rest [] (ints_suit g settled xs sc r o es h i))
        go false c h = absurd h

    call_made : (what : Callable) → CalledTyped g xs sc thrown (all_judged g.env sc es) object what → NotBuilt what → CanBeMade (bound_called what)
    call_made (calls_function n s) h not_built =
        let ps = (function_at g.program n).parameters in
        ((h.0, counts s ps h.1 h.2.counted), rest (types_of ps) (suits g settled xs sc r o s.parameters ps es h.1 h.2.counted h.2.found i))
    call_made (calls_method k j s) h not_built =
        let ps = (method_at g.program k j).parameters in (
          ((h.0.below, h.0.place, h.1), counts s ps h.0.parameters h.3.counted, h.2),
          rest (types_of ps) (suits g settled xs sc r o s.parameters ps es h.0.parameters h.3.counted h.3.found i),
        )
    call_made (calls_builtin WriteInt place) h not_built = let m = ints_made WriteInt place 1 refl h.1 in ((m.0, tt), m.1)
    call_made (calls_builtin ReadByte place) h not_built = let m = ints_made ReadByte place 0 refl h.1 in ((m.0, tt), m.1)
    call_made (calls_builtin Exit place) h not_built = let m = ints_made Exit place 1 refl h.1 in ((m.0, tt), m.1)
    call_made (calls_builtin Module place) h not_built = let m = ints_made Module place 2 refl h.1 in ((m.0, tt), m.1)
    call_made (calls_builtin Cancel place) h not_built = let m = ints_made Cancel place 1 refl h.1 in ((m.0, tt), m.1)
    call_made (calls_builtin Terminate place) h not_built = let m = ints_made Terminate place 0 refl h.1 in ((m.0, tt), m.1)
    call_made (calls_builtin Uncaught place) h not_built = let m = ints_made Uncaught place 0 refl h.1 in ((m.0, tt), m.1)
    call_made (calls_builtin SetTerminate place) h not_built = let m = handler_typed place es h.1 in ((ap Some m.0, m.1), tt)
    call_made (calls_builtin SetUnexpected place) h not_built = let m = handler_typed place es h.1 in ((ap Some m.0, m.1), tt)
    call_made (calls_builtin BadException place) h not_built = absurd h.0
    call_made (builds k place) h not_built = absurd not_built

    -- by what its names are bound to
    pub call_can : (b : Bound) → (c : CallTyped g xs sc thrown (all_judged g.env sc es) b object) → NotBuilt c.what → CanBeMade b
    call_can b c not_built = subst CanBeMade (sym c.bound) (call_made c.what c.fine not_built)

  -- no object is built by a call that is not the operand of a throw
  not_thrown : (given : List Judgement) (object : List Name) (what : Callable) → CalledTyped g xs sc false given object what → NotBuilt what
  not_thrown given object (builds k place) h = absurd (cc h.0)
  not_thrown given object (calls_function n s) h = tt
  not_thrown given object (calls_method k i s) h = tt
  not_thrown given object (calls_builtin b place) h = tt

  -- names of an int
  pub int_named : (n : Name) (names : List Name) (kind : Kind) → Typed (classes_in g) kind (lvalue_type (lowering_in g) (resolve_path g.env sc (n ∷ names))) → IsInt kind →
      AreNamed (lowering_in g) sc.own xs (resolve_path g.env sc (n ∷ names)) (lvalue_type (lowering_in g) (resolve_path g.env sc (n ∷ names))) →
      AreNamed (lowering_in g) sc.own xs (resolve_path g.env sc (n ∷ names)) int_type
  int_named n names int_kind typed is h = subst (AreNamed (lowering_in g) sc.own xs (resolve_path g.env sc (n ∷ names))) typed h
  int_named n names (class_kind k) typed is h = absurd is
  int_named n names truth_kind typed is h = absurd typed
  int_named n names void_kind typed is h = absurd typed
  int_named n names no_kind typed is h = absurd typed

  -- a call of `std::` something that can be made is typed
  pub std_can : (n : Name) (es : Expressions) (place : ℕ) →
      CanCall (lowering_in g) sc.own xs (std_bound n.text) [] (resolve_expressions g.env sc es) ×
      UnlessHandler (std_bound n.text) (AreTyped (lowering_in g) sc.own xs (resolve_expressions g.env sc es) (parameter_types g.program (std_bound n.text))) →
      IsTyped (lowering_in g) sc.own xs (resolve_expression g.env sc (std_call n es place))
  std_can n es place h = by (bytes_eq n.text (codes "bad_exception")) (std_builtin n.text) h
    where
      by : (b : Bool) (x : Option Builtin) →
          CanCall (lowering_in g) sc.own xs (if b then Class 0 else elim x [ None ↦ Free | Some y ↦ BuiltinBound y ]) [] (resolve_expressions g.env sc es) ×
          UnlessHandler (if b then Class 0 else elim x [ None ↦ Free | Some y ↦ BuiltinBound y ])
          (AreTyped (lowering_in g) sc.own xs (resolve_expressions g.env sc es) (parameter_types g.program (if b then Class 0 else elim x [ None ↦ Free | Some y ↦ BuiltinBound y ]))) →
          IsStandard g.program (if b then Class 0 else elim x [ None ↦ Free | Some y ↦ BuiltinBound y ]) (resolve_expressions g.env sc es) ×
          UnlessHandler (if b then Class 0 else elim x [ None ↦ Free | Some y ↦ BuiltinBound y ]) (AreTyped (lowering_in g) sc.own xs (resolve_expressions g.env sc es) [])
      by true x q = absurd q.0
      by false None q = absurd q.0
      by false (Some x) q = q

  -- calls whose arguments are typed
  named_call : (names : List Name) (es : Expressions) → IsExpression (call names es) → Fine g.defined (judged g.env sc (call names es)).found →
      ((types : List Ty) → Suits g settled xs sc r o types es → AreTyped (lowering_in g) sc.own xs (resolve_expressions g.env sc es) types) →
      IsTyped (lowering_in g) sc.own xs (resolve_expression g.env sc (call names es))
  named_call names es i f rest =
      let c = call_typed g settled xs sc r o false (all_judged g.env sc es) names i.0 f in
      call_can false (receiver (resolve_path g.env sc names)) es i.1 rest (callee_bound (resolve_path g.env sc names)) c
      (not_thrown (all_judged g.env sc es) (receiver (resolve_path g.env sc names)) c.what c.fine)

  std_named_call : (n : Name) (es : Expressions) (place : ℕ) → IsExpression (std_call n es place) → Fine g.defined (judged g.env sc (std_call n es place)).found →
      ((types : List Ty) → Suits g settled xs sc r o types es → AreTyped (lowering_in g) sc.own xs (resolve_expressions g.env sc es) types) →
      IsTyped (lowering_in g) sc.own xs (resolve_expression g.env sc (std_call n es place))
  std_named_call n es place i f rest =
      let c = std_typed g settled xs sc r o false (all_judged g.env sc es) place n f in
      std_can n es place (call_can false [] es i rest (std_bound n.text) c (not_thrown (all_judged g.env sc es) [] c.what c.fine))

  mutual
    pub typed : (e : Expression) → IntFine g settled xs sc r o e → IsTyped (lowering_in g) sc.own xs (resolve_expression g.env sc e)
    typed (number v place) h = tt
    typed (path []) h = absurd h.2
    typed (path (n ∷ names)) h = int_named n names _ (path_meant g sc r n names h.0).typed h.1 (path_typed g settled xs sc r o n names h.0)
    typed (paren e place) h = typed e (h.0, h.1, h.2)
    typed (unary op e place) h =
        let a = judged g.env sc e in
        let parts = fine_parts g.defined a.found (int_wanted a.kind a.place) h.0 in
        typed e (parts.0, int_is g.defined a.kind a.place parts.1, h.2.0)
    typed (binary op x y) h =
        let a = judged g.env sc x in
        let b = judged g.env sc y in
        let both = fine_parts g.defined (int_found a) (int_found b) h.0 in
        let left = fine_parts g.defined a.found (int_wanted a.kind a.place) both.0 in
        let right = fine_parts g.defined b.found (int_wanted b.kind b.place) both.1 in
        (typed x (left.0, int_is g.defined a.kind a.place left.1, h.2.0), typed y (right.0, int_is g.defined b.kind b.place right.1, h.2.1))
    typed (call names es) h = named_call names es h.2 h.0 (λ types s. all_typed es types s)
    typed (std_call n es place) h = std_named_call n es place h.2 h.0 (λ types s. all_typed es types s)

    pub all_typed : (es : Expressions) (types : List Ty) → Suits g settled xs sc r o types es → AreTyped (lowering_in g) sc.own xs (resolve_expressions g.env sc es) types
    all_typed no_expressions types s = tt
    all_typed (expression_then e es) types s =
        (passes_by g xs sc types (resolve_expression g.env sc e) _ _ (λ h. typed e h) s.0, all_typed es (drop 1 types) s.1)

  -- a call as a statement
  pub call_alone : (e : Expression) → IsExpression e → IsCall e → Fine g.defined (judged g.env sc e).found → IsTyped (lowering_in g) sc.own xs (resolve_expression g.env sc e)
  call_alone (call names es) i is f = named_call names es i f (λ types s. all_typed es types s)
  call_alone (std_call n es place) i is f = std_named_call n es place i f (λ types s. all_typed es types s)
  call_alone (number v place) i is f = absurd is
  call_alone (path names) i is f = absurd is
  call_alone (paren e place) i is f = absurd is
  call_alone (unary op e place) i is f = absurd is
  call_alone (binary op a b) i is f = absurd is
