-- Arguments that break no rule: each for a reference has a place, and each expression has a type.
use Rattle.std.proofs.Common.{◌≡◌, ◌==◌, ℕ, suc, Bool, true, false, List, [], ◌∷◌, drop, length, Some, if◌then◌else◌, refl, sym, subst, arith}
use Rattle.std.proofs.lemmas.Bool.Decides.{nat_tests}
use Rattle.std.specs.Cmp.Derive.{both_true}
use Rattle.cxx_ast.specs.declared.name.Name.{Name}
use Rattle.cxx_ast.specs.declared.types.Ty.{Ty}
use Rattle.cxx_ast.specs.declared.name.Builtin.{Builtin}
use Rattle.cxx_ast.specs.declared.name.Builtin.TheVariants.{WriteInt, ReadByte, Exit, Module, Cancel, Terminate, SetTerminate, SetUnexpected, Uncaught, BadException}
use Rattle.cxx_ast.specs.declared.expression.UnaryOp.{UnaryOp}
use Rattle.cxx_ast.specs.declared.expression.UnaryOp.TheVariants.{Minus, Not}
use Rattle.cxx_ast.specs.declared.expression.BinaryOp.{BinaryOp}
use Rattle.cxx_ast.specs.declared.expression.BinaryOp.TheVariants.{Add, Subtract, Multiply, Divide, Remainder, Less, Greater, LessEqual, GreaterEqual, Equal, NotEqual, And, Or}
use Rattle.cxx_ast.specs.Plain.{Expression, number, path, paren, unary, binary, call, std_call, Expressions, no_expressions, expression_then}
use Rattle.cxx_ast.specs.Environment.{Kind, int_kind, truth_kind, void_kind, class_kind, no_kind, Passing, Scope}
use Rattle.cxx_ast.specs.Reference.{Judgement, no_lvalue_found, bound_found, int_wanted, int_found, argument_found, arguments_found}
use Rattle.cxx_ast.specs.Lvalue.{reached}
use Rattle.cxx_ast.specs.Calls.{ints_found, builtin_kind}
use Rattle.cxx_ast.specs.ExpressionRules.{is_int, unary_kind, binary_kind, judged, all_judged}
use Rattle.cxx_ast.specs.Resolve.{resolve_path, resolve_expression}
use Rattle.cxx_ast.specs.Grammatical.{IsExpression, AreExpressions}
use Rattle.meaning_forms.specs.Class.{ObjectType}
use Rattle.meaning_forms.specs.Expression.{lvalue_of, names_of, receiver, is_reference}
use Rattle.region_forms.specs.LowerExpression.{place_of, refers}
use Rattle.region_forms.specs.WellFormed.{address_place}
use Rattle.region_formed.proofs.Fine.{Fine, fine_parts}
use Rattle.region_formed.proofs.Meant.{Typed, HasKind, Shaped, Given, lowering_in, slots_in, regions_in, classes_in, Reach}
use Rattle.region_formed.proofs.Paths.{PathMeant, path_meant}
use Rattle.region_formed.proofs.Called.{Callable, calls_function, calls_method, calls_builtin, builds, kind_called, CalledFine, called, std_called}

-- a typed variable has a type
pub typed_kind : (n : ℕ) (kind : Kind) (t : ObjectType) → Typed n kind t → HasKind kind
typed_kind n int_kind t h = tt
typed_kind n (class_kind k) t h = tt
typed_kind n truth_kind t h = tt
typed_kind n void_kind t h = tt
typed_kind n no_kind t h = h

builtin_has_kind : (b : Builtin) → HasKind (builtin_kind b)
builtin_has_kind WriteInt = tt
builtin_has_kind ReadByte = tt
builtin_has_kind Exit = tt
builtin_has_kind Module = tt
builtin_has_kind Cancel = tt
builtin_has_kind Terminate = tt
builtin_has_kind SetTerminate = tt
builtin_has_kind SetUnexpected = tt
builtin_has_kind Uncaught = tt
builtin_has_kind BadException = tt

-- so has what is called
call_has_kind : (g : Given) (sc : Scope) (thrown : Bool) (given : List Judgement) (object : List Name) (what : Callable) →
    CalledFine g sc thrown given object what → HasKind (kind_called what)
call_has_kind g sc thrown given object (calls_function n s) h = h.1
call_has_kind g sc thrown given object (calls_method k i s) h = h.0.result
call_has_kind g sc thrown given object (calls_builtin b place) h = builtin_has_kind b
call_has_kind g sc thrown given object (builds k place) h = tt

unary_has_kind : (o : UnaryOp) → HasKind (unary_kind o)
unary_has_kind Minus = tt
unary_has_kind Not = tt

binary_has_kind : (o : BinaryOp) → HasKind (binary_kind o)
binary_has_kind Add = tt
binary_has_kind Subtract = tt
binary_has_kind Multiply = tt
binary_has_kind Divide = tt
binary_has_kind Remainder = tt
binary_has_kind Less = tt
binary_has_kind Greater = tt
binary_has_kind LessEqual = tt
binary_has_kind GreaterEqual = tt
binary_has_kind Equal = tt
binary_has_kind NotEqual = tt
binary_has_kind And = tt
binary_has_kind Or = tt

-- where an int is needed there is one
int_given : (defined : List (List ℕ)) (kind : Kind) (place : ℕ) → HasKind kind → Fine defined (int_wanted kind place) → is_int kind ≡ true
int_given defined int_kind place h f = refl
int_given defined truth_kind place h f = refl
int_given defined void_kind place h f = absurd f
int_given defined (class_kind k) place h f = absurd f
int_given defined no_kind place h f = absurd h

-- a reference binds to no value
no_value : (g : Given) (wanted kind : Kind) (place : ℕ) → HasKind wanted → HasKind kind → Fine g.defined (no_lvalue_found g.env wanted kind place) → ⊥
no_value g no_kind kind place h k f = h
no_value g wanted no_kind place h k f = k
no_value g wanted kind place h k f = f

module _ (g : Given) (sc : Scope) (r : Reach g sc) where
  -- each expression has a type
  pub kinded : (e : Expression) → IsExpression e → Fine g.defined (judged g.env sc e).found → HasKind (judged g.env sc e).kind
  kinded (number v place) i f = tt
  kinded (path []) i f = absurd i
  kinded (path (n ∷ names)) i f = typed_kind (classes_in g) _ _ (path_meant g sc r n names f).typed
  kinded (paren e place) i f = kinded e i f
  kinded (unary o e place) i f =
      let a = judged g.env sc e in
      let parts = fine_parts g.defined a.found (int_wanted a.kind a.place) f in
      let int = int_given g.defined a.kind a.place (kinded e i.0 parts.0) parts.1 in
      subst (λ b. HasKind (if b then unary_kind o else no_kind)) (sym int) (unary_has_kind o)
  kinded (binary o x y) i f =
      let a = judged g.env sc x in
      let b = judged g.env sc y in
      let both = fine_parts g.defined (int_found a) (int_found b) f in
      let left = fine_parts g.defined a.found (int_wanted a.kind a.place) both.0 in
      let right = fine_parts g.defined b.found (int_wanted b.kind b.place) both.1 in
      let ints = both_true (int_given g.defined a.kind a.place (kinded x i.0 left.0) left.1) (int_given g.defined b.kind b.place (kinded y i.1 right.0) right.1) in
      subst (λ c. HasKind (if c then binary_kind o else no_kind)) (sym ints) (binary_has_kind o)
  kinded (call names es) i f =
      let c = called g sc r false names (all_judged g.env sc es) i.0 f in
      subst HasKind (sym c.type) (call_has_kind g sc false (all_judged g.env sc es) (receiver (resolve_path g.env sc names)) c.what c.fine)
  kinded (std_call n es place) i f =
      let c = std_called g sc false place n (all_judged g.env sc es) f in
      subst HasKind (sym c.type) (call_has_kind g sc false (all_judged g.env sc es) [] c.what c.fine)

  -- an lvalue, in parentheses or not
  pub lvalue_meant : (e : Expression) → IsExpression e → Fine g.defined (judged g.env sc e).found → (names : List Name) →
      lvalue_of (resolve_expression g.env sc e) ≡ Some names → PathMeant g (judged g.env sc e).kind names
  lvalue_meant (path []) i f names q = absurd i
  lvalue_meant (path (n ∷ others)) i f names q =
      let same : resolve_path g.env sc (n ∷ others) ≡ names = cc q in
      subst (PathMeant g (reached g.env sc (n ∷ others)).kind) same (path_meant g sc r n others f)
  lvalue_meant (paren e place) i f names q = lvalue_meant e i f names q
  lvalue_meant (number v place) i f names q = absurd (cc q)
  lvalue_meant (unary o e place) i f names q = absurd (cc q)
  lvalue_meant (binary o x y) i f names q = absurd (cc q)
  lvalue_meant (call others es) i f names q = absurd (cc q)
  lvalue_meant (std_call n es place) i f names q = absurd (cc q)

  -- an argument by reference has a place; any other breaks no rule
  abbrev pub SuitedOne : Bool → Expression → Type 0
  SuitedOne true e = address_place (regions_in g) (slots_in g) (place_of (lowering_in g) (names_of (lvalue_of (resolve_expression g.env sc e)))) ≡ true
  SuitedOne false e = Fine g.defined (judged g.env sc e).found × IsExpression e

  -- so do arguments for parameters of some types
  abbrev pub Suited : List Ty → Expressions → Type 0
  Suited types no_expressions = Unit {0}
  Suited types (expression_then e es) = SuitedOne (refers types) e × Suited (drop 1 types) es

  -- where a reference is needed there is an lvalue
  reference_suited : (e : Expression) (q : Passing) → HasKind q.kind → IsExpression e → Fine g.defined (bound_found g.env q (judged g.env sc e)) → SuitedOne true e
  reference_suited (path []) q h i f = absurd i
  reference_suited (path (n ∷ names)) q h i f = (path_meant g sc r n names (fine_parts g.defined (reached g.env sc (n ∷ names)).found _ f).0).address
  reference_suited (number v place) q h i f = absurd (no_value g q.kind int_kind place h tt f)
  reference_suited (paren e place) q h i f =
      let a = judged g.env sc e in
      let parts = fine_parts g.defined a.found (no_lvalue_found g.env q.kind a.kind place) f in
      absurd (no_value g q.kind a.kind place h (kinded e i parts.0) parts.1)
  reference_suited (unary o e place) q h i f =
      let a = judged g.env sc (unary o e place) in
      let parts = fine_parts g.defined a.found (no_lvalue_found g.env q.kind a.kind a.place) f in
      absurd (no_value g q.kind a.kind a.place h (kinded (unary o e place) i parts.0) parts.1)
  reference_suited (binary o x y) q h i f =
      let a = judged g.env sc (binary o x y) in
      let parts = fine_parts g.defined a.found (no_lvalue_found g.env q.kind a.kind a.place) f in
      absurd (no_value g q.kind a.kind a.place h (kinded (binary o x y) i parts.0) parts.1)
  reference_suited (call names es) q h i f =
      let a = judged g.env sc (call names es) in
      let parts = fine_parts g.defined a.found (no_lvalue_found g.env q.kind a.kind a.place) f in
      absurd (no_value g q.kind a.kind a.place h (kinded (call names es) i parts.0) parts.1)
  reference_suited (std_call n es place) q h i f =
      let a = judged g.env sc (std_call n es place) in
      let parts = fine_parts g.defined a.found (no_lvalue_found g.env q.kind a.kind a.place) f in
      absurd (no_value g q.kind a.kind a.place h (kinded (std_call n es place) i parts.0) parts.1)

  one_suited : (e : Expression) (q : Passing) (b : Bool) → q.is_reference ≡ b → HasKind q.kind → IsExpression e →
      Fine g.defined (argument_found g.env q (judged g.env sc e)) → SuitedOne b e
  one_suited e q true s h i f =
      reference_suited e q h i (subst (λ c. Fine g.defined (if c then bound_found g.env q (judged g.env sc e) else int_found (judged g.env sc e))) s f)
  one_suited e q false s h i f =
      let a = judged g.env sc e in
      let ints = subst (λ c. Fine g.defined (if c then bound_found g.env q a else int_found a)) s f in
      ((fine_parts g.defined a.found (int_wanted a.kind a.place) ints).0, i)

  -- as many arguments as parameters
  same_count : (n m : ℕ) → (suc n == suc m) ≡ true → (n == m) ≡ true
  same_count n m h = grind (arith, nat_tests, h)

  too_many : (n : ℕ) → (suc n == 0) ≡ true → ⊥
  too_many n h = grind (arith, nat_tests, h)

  pub suited : (qs : List Passing) (types : List Ty) (es : Expressions) → Shaped qs types → (length (all_judged g.env sc es) == length qs) ≡ true →
      Fine g.defined (arguments_found g.env qs (all_judged g.env sc es)) → AreExpressions es → Suited types es
  suited qs types no_expressions h c f i = tt
  suited [] [] (expression_then e es) h c f i = absurd (too_many (length (all_judged g.env sc es)) c)
  suited [] (t ∷ types) (expression_then e es) h c f i = absurd h
  suited (q ∷ qs) [] (expression_then e es) h c f i = absurd h
  suited (q ∷ qs) (t ∷ types) (expression_then e es) h c f i =
      let parts = fine_parts g.defined (argument_found g.env q (judged g.env sc e)) (arguments_found g.env qs (all_judged g.env sc es)) f in (
        one_suited e q (is_reference t) h.0 h.2 i.0 parts.0,
        suited qs types es h.3 (same_count (length (all_judged g.env sc es)) (length qs) c) parts.1 i.1,
      )

  -- arguments that are ints
  pub ints_suited : (es : Expressions) → Fine g.defined (ints_found (all_judged g.env sc es)) → AreExpressions es → Suited [] es
  ints_suited no_expressions f i = tt
  ints_suited (expression_then e es) f i =
      let a = judged g.env sc e in
      let parts = fine_parts g.defined (int_found a) (ints_found (all_judged g.env sc es)) f in
      (((fine_parts g.defined a.found (int_wanted a.kind a.place) parts.0).0, i.0), ints_suited es parts.1 i.1)
