-- In an expression that breaks no rule each call of a built-in function is given what it takes, and its value is wanted only where it gives one.
use Rattle.std.proofs.Common.{◌≡◌, ◌==◌, inl, inr, ℕ, Bool, true, false, List, [], ◌∷◌, length, if◌then◌else◌, refl, sym, subst}
use Rattle.cxx_ast.specs.declared.name.Name.{Name}
use Rattle.cxx_ast.specs.declared.name.Bound.{Bound}
use Rattle.cxx_ast.specs.declared.name.Builtin.{Builtin}
use Rattle.cxx_ast.specs.declared.name.Builtin.TheVariants.{WriteInt, ReadByte, Exit, Module, Cancel, Terminate, SetTerminate, SetUnexpected, Uncaught, BadException}
use Rattle.cxx_ast.specs.Rule.{arity}
use Rattle.cxx_ast.specs.Finding.{breaks}
use Rattle.cxx_ast.specs.Plain.{Expression, number, path, paren, unary, binary, call, std_call, Expressions, no_expressions, expression_then}
use Rattle.cxx_ast.specs.Environment.{Kind, int_kind, truth_kind, void_kind, class_kind, no_kind, Scope}
use Rattle.cxx_ast.specs.Lvalue.{first_place}
use Rattle.cxx_ast.specs.Reference.{Judgement, int_found}
use Rattle.cxx_ast.specs.Calls.{broken_call, if_sound, ints_found, builtin_ints, builtin_kind, names_valued, std_valued}
use Rattle.cxx_ast.specs.ExpressionRules.{judged, all_judged, no_lvalue, thrown_kind_found, operand_found, thrown_found}
use Rattle.cxx_ast.specs.Resolve.{std_bound, resolve_path, resolve_expression, resolve_expressions}
use Rattle.cxx_ast.specs.Grammatical.{IsExpression, AreExpressions}
use Rattle.meaning_forms.specs.Class.{function_at, method_at}
use Rattle.meaning_forms.specs.Expression.{types_of, receiver, callee_bound}
use Rattle.region_formed.proofs.Fine.{Fine, fine_parts}
use Rattle.region_formed.proofs.Meant.{Given, Reach}
use Rattle.region_formed.proofs.Called.{Callable, calls_function, calls_method, calls_builtin, builds, bound_called, kind_called, CalledFine, CallMeant, called, std_called}
use Rattle.region_formed.proofs.Expressions.{params_shaped}
use Rattle.builtin_calls.proofs.Trees.{HasCount, GivesValue, BoundTakes, BoundGives, Gives, Fits, AllFit, IsValued}
use Rattle.builtin_calls.proofs.Rules.{NotVoid, EachFine, value_fine, arguments_fine, ints_fine, counted, construction_fine, handler_given}

-- a built-in function with a value gives one
builtin_gives : (b : Builtin) → NotVoid (builtin_kind b) → GivesValue b
builtin_gives ReadByte h = tt
builtin_gives Module h = tt
builtin_gives Uncaught h = tt
builtin_gives WriteInt h = absurd h
builtin_gives Exit h = absurd h
builtin_gives Cancel h = absurd h
builtin_gives Terminate h = absurd h
builtin_gives SetTerminate h = absurd h
builtin_gives SetUnexpected h = absurd h
builtin_gives BadException h = absurd h

gives_by : (what : Callable) → NotVoid (kind_called what) → BoundGives (bound_called what)
gives_by (calls_function n s) h = tt
gives_by (calls_method k i s) h = tt
gives_by (calls_builtin b place) h = builtin_gives b h
gives_by (builds k place) h = tt

-- the operand of a throw has a value
thrown_there : (defined : List (List ℕ)) (built : Bool) (a : Judgement) (kind : Kind) → Fine defined (thrown_kind_found built a kind) → NotVoid kind
thrown_there defined built a int_kind f = tt
thrown_there defined built a truth_kind f = tt
thrown_there defined built a (class_kind k) f = tt
thrown_there defined built a no_kind f = tt
thrown_there defined built a void_kind f = absurd f

module _ (g : Given) (sc : Scope) (r : Reach g sc) where
  -- what is called takes what is given
  module _ (thrown : Bool) (object : List Name) (es : Expressions) (rest : EachFine g sc es → AllFit (resolve_expressions g.env sc es)) where
    abbrev TakesThem : Bound → Type 0
    TakesThem b = BoundTakes b (resolve_expressions g.env sc es) × AllFit (resolve_expressions g.env sc es)

    ints_taken : (b : Builtin) (n : ℕ) → builtin_ints b ≡ n → (place : ℕ) →
        Fine g.defined (if length (all_judged g.env sc es) == builtin_ints b then if_sound (builtin_kind b) (ints_found (all_judged g.env sc es))
        else broken_call (breaks arity place ∷ []) (all_judged g.env sc es)).found →
        HasCount n (resolve_expressions g.env sc es) × AllFit (resolve_expressions g.env sc es)
    ints_taken b n e place f = go (length (all_judged g.env sc es) == builtin_ints b) refl f
      where
        go : (c : Bool) → (length (all_judged g.env sc es) == builtin_ints b) ≡ c → Fine g.defined (if c then if_sound (builtin_kind b) (ints_found (all_judged g.env sc es))
            else broken_call (breaks arity place ∷ []) (all_judged g.env sc es)).found →
            HasCount n (resolve_expressions g.env sc es) × AllFit (resolve_expressions g.env sc es)
        go true c h = (counted g sc n es (subst (λ m. (length (all_judged g.env sc es) == m) ≡ true) e c), rest (ints_fine g sc es h))
        go false c h = absurd h

    taken : (what : Callable) → CalledFine g sc thrown (all_judged g.env sc es) object what → TakesThem (bound_called what)
    taken (calls_function n s) h =
        (tt, rest (arguments_fine g sc s.parameters (types_of (function_at g.program n).parameters) es h.0.1 h.2.counted h.2.found))
    taken (calls_method k j s) h =
        let f = method_at g.program k j in
        (tt, rest (arguments_fine g sc s.parameters (types_of f.parameters) es (params_shaped (length g.program.classes) s.parameters f.parameters h.0.parameters) h.2.counted h.2.found))
    taken (calls_builtin WriteInt place) h = ints_taken WriteInt 1 refl place h.1
    taken (calls_builtin ReadByte place) h = ints_taken ReadByte 0 refl place h.1
    taken (calls_builtin Exit place) h = ints_taken Exit 1 refl place h.1
    taken (calls_builtin Module place) h = ints_taken Module 2 refl place h.1
    taken (calls_builtin Cancel place) h = ints_taken Cancel 1 refl place h.1
    taken (calls_builtin Terminate place) h = ints_taken Terminate 0 refl place h.1
    taken (calls_builtin Uncaught place) h = ints_taken Uncaught 0 refl place h.1
    taken (calls_builtin SetTerminate place) h = handler_given g sc place es h.1
    taken (calls_builtin SetUnexpected place) h = handler_given g sc place es h.1
    taken (calls_builtin BadException place) h = absurd h.0
    taken (builds k place) h = (tt, rest (construction_fine g sc k es place place h.2))

    call_taken : (b : Bound) (kind : Kind) → CallMeant g sc thrown (all_judged g.env sc es) b object kind → TakesThem b
    call_taken b kind c = subst TakesThem (sym c.bound) (taken c.what c.fine)

  call_gives : (thrown : Bool) (given : List Judgement) (b : Bound) (object : List Name) (kind : Kind) → CallMeant g sc thrown given b object kind → NotVoid kind → BoundGives b
  call_gives thrown given b object kind c h = subst BoundGives (sym c.bound) (gives_by c.what (subst NotVoid c.type h))

  -- an expression with a value
  pub gives : (e : Expression) → IsExpression e → Fine g.defined (judged g.env sc e).found → NotVoid (judged g.env sc e).kind → Gives (resolve_expression g.env sc e)
  gives (number v place) i f h = tt
  gives (path names) i f h = tt
  gives (paren e place) i f h = gives e i f h
  gives (unary o e place) i f h = tt
  gives (binary o x y) i f h = tt
  gives (call names es) i f h =
      let given = all_judged g.env sc es in
      call_gives false given (callee_bound (resolve_path g.env sc names)) (receiver (resolve_path g.env sc names)) (names_valued g.env sc false names given).kind
      (called g sc r false names given i.0 f) h
  gives (std_call n es place) i f h =
      let given = all_judged g.env sc es in
      call_gives false given (std_bound n.text) [] (std_valued g.env sc false place n given).kind (std_called g sc false place n given f) h

  mutual
    pub fits : (e : Expression) → IsExpression e → Fine g.defined (judged g.env sc e).found → Fits (resolve_expression g.env sc e)
    fits (number v place) i f = tt
    fits (path names) i f = tt
    fits (paren e place) i f = fits e i f
    fits (unary o e place) i f = let v = value_fine g sc e f in (fits e i.0 v.0, gives e i.0 v.0 v.1)
    fits (binary o x y) i f =
        let parts = fine_parts g.defined (int_found (judged g.env sc x)) (int_found (judged g.env sc y)) f in
        let a = value_fine g sc x parts.0 in
        let b = value_fine g sc y parts.1 in
        ((fits x i.0 a.0, gives x i.0 a.0 a.1), (fits y i.1 b.0, gives y i.1 b.0 b.1))
    fits (call names es) i f =
        let given = all_judged g.env sc es in
        call_taken false (receiver (resolve_path g.env sc names)) es (λ h. all_fit es i.1 h) (callee_bound (resolve_path g.env sc names)) (names_valued g.env sc false names given).kind
        (called g sc r false names given i.0 f)
    fits (std_call n es place) i f =
        let given = all_judged g.env sc es in
        call_taken false [] es (λ h. all_fit es i h) (std_bound n.text) (std_valued g.env sc false place n given).kind (std_called g sc false place n given f)

    pub all_fit : (es : Expressions) → AreExpressions es → EachFine g sc es → AllFit (resolve_expressions g.env sc es)
    all_fit no_expressions i h = tt
    all_fit (expression_then (path names) es) i (inl p, h) = ((tt, tt), all_fit es i.1 h)
    all_fit (expression_then e es) i (inl p, h) = absurd p
    all_fit (expression_then e es) i (inr f, h) = ((fits e i.0 f.0, gives e i.0 f.0 f.1), all_fit es i.1 h)

  -- an expression whose value is wanted
  pub valued : (e : Expression) → IsExpression e → Fine g.defined (int_found (judged g.env sc e)) → IsValued (resolve_expression g.env sc e)
  valued e i f = let v = value_fine g sc e f in (fits e i v.0, gives e i v.0 v.1)

  -- the operand of a throw
  abbrev plainly : (e : Expression) → IsExpression e → Fine g.defined (operand_found false (judged g.env sc e)) → IsValued (resolve_expression g.env sc e)
  plainly e i f =
      let a = judged g.env sc e in
      let parts = fine_parts g.defined a.found (thrown_kind_found false a a.kind) f in
      (fits e i parts.0, gives e i parts.0 (thrown_there g.defined false a a.kind parts.1))

  pub thrown : (e : Expression) → IsExpression e → Fine g.defined (thrown_found g.env sc e) → IsValued (resolve_expression g.env sc e)
  thrown (call names es) i f =
      let given = all_judged g.env sc es in
      let a = no_lvalue (first_place names) (names_valued g.env sc true names given) in
      let parts = fine_parts g.defined a.found (thrown_kind_found true a a.kind) f in
      let c = called g sc r true names given i.0 parts.0 in
      let b = callee_bound (resolve_path g.env sc names) in
      let object = receiver (resolve_path g.env sc names) in (
        call_taken true object es (λ h. all_fit es i.1 h) b a.kind c,
        call_gives true given b object a.kind c (thrown_there g.defined true a a.kind parts.1),
      )
  thrown (std_call n es place) i f =
      let given = all_judged g.env sc es in
      let a = no_lvalue place (std_valued g.env sc true place n given) in
      let parts = fine_parts g.defined a.found (thrown_kind_found true a a.kind) f in
      let c = std_called g sc true place n given parts.0 in (
        call_taken true [] es (λ h. all_fit es i h) (std_bound n.text) a.kind c,
        call_gives true given (std_bound n.text) [] a.kind c (thrown_there g.defined true a a.kind parts.1),
      )
  thrown (number v place) i f = plainly (number v place) i f
  thrown (path names) i f = plainly (path names) i f
  thrown (paren e place) i f = plainly (paren e place) i f
  thrown (unary o e place) i f = plainly (unary o e place) i f
  thrown (binary o x y) i f = plainly (binary o x y) i f
