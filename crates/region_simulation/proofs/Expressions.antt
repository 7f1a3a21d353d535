-- What an expression is lowered to evaluates to what it means.
use Rattle.std.proofs.Common.{◌≡◌, ℕ, ◌+◌, ◌≤◌, ℤ, Bool, true, false, List, [], ◌∷◌, Option, None, refl, sym, ap, subst, arith, length}
use Rattle.cxx_ast.specs.declared.expression.BinaryOp.{BinaryOp}
use Rattle.cxx_ast.specs.declared.expression.BinaryOp.TheVariants.{Add, Subtract, Multiply, Divide, Remainder, Less, Greater, LessEqual, GreaterEqual, Equal, NotEqual, And, Or}
use Rattle.cxx_ast.specs.declared.name.Bound.{Bound}
use Rattle.cxx_ast.specs.declared.name.Bound.TheVariants.{Free, Global, Local, Field, Class, Func, Method, Builtin as BuiltinBound}
use Rattle.cxx_ast.specs.declared.name.Builtin.TheVariants.{WriteInt, ReadByte, Exit, Module, Cancel, Terminate, SetTerminate, SetUnexpected, Uncaught, BadException}
use Rattle.cxx_ast.specs.declared.name.Name.{Name}
use Rattle.cxx_ast.specs.declared.types.Ty.{Ty}
use Rattle.cxx_ast.specs.declared.types.Ty.TheVariants.{Int, Void, Object, IntRef, ObjectRef}
use Rattle.cxx_ast.specs.Plain.{Expression, number, path, paren, unary, binary, call, std_call, Expressions, no_expressions, expression_then}
use Rattle.meaning_forms.specs.Arithmetic.{decided}
use Rattle.meaning_forms.specs.Class.{int_type, class_named}
use Rattle.meaning_forms.specs.World.{Reference, nowhere, as_class}
use Rattle.meaning_forms.specs.Context.{Context as SourceContext}
use Rattle.meaning_forms.specs.Frame.{Frame as SourceFrame, lvalue}
use Rattle.meaning_forms.specs.Running.{Argument as SourceArgument, Callee, function, method}
use Rattle.meaning_forms.specs.Outcome.{Action as SourceAction, ◌>>=◌}
use Rattle.meaning_forms.specs.Expression.{lvalue_of, names_of, count_of, callee_bound, receiver, parameter_types, with_right_side, value_of, arguments, called}
use Rattle.region_forms.specs.Form.{address_argument}
use Rattle.region_forms.specs.World.{address_word}
use Rattle.region_forms.specs.Ending.{Running}
use Rattle.region_forms.specs.LowerExpression.{Lowering, first_temporary, place_of, has_call, some_call, both, int_passed, lower, lower_arguments, left_stored, call_of, call_stored}
use Rattle.region_simulation.specs.Reach.{KindsFit}
use Rattle.region_simulation.specs.Typing.{IsStandard, UnlessHandler, CanCall, IsTyped, AreTyped, types_for}
use Rattle.region_simulation.specs.Calls.{SameArguments, SameCalls}
use Rattle.region_simulation.specs.Evaluates.{Evaluates, IsMeant}
use Rattle.region_simulation.specs.Passes.{Passes, GivesMeant}
use Rattle.region_simulation.specs.Expressions.{source_running, SameBuiltins}
use Rattle.region_simulation.proofs.Following.{keeps_all}
use Rattle.region_simulation.proofs.Values.{neither, value_means}
use Rattle.region_simulation.proofs.Evaluating.{meant_case, unary_case, quiet_case, stored_case}
use Rattle.region_simulation.proofs.Deciding.{and_case, or_case}
use Rattle.region_simulation.proofs.Keeping.{names_addressed, class_addressed}
use Rattle.region_simulation.proofs.Passing.{words_address, by_its_value, before_others, meant_int, pass_quiet}
use Rattle.region_simulation.proofs.Given.{pass_none, meant_none, NamesAddressed, pass_address, meant_address, pass_stored}
use Rattle.region_simulation.proofs.Calling.{call_case}

unless_handler : {A B : Type 0} (f : Bound) → (A → B) → UnlessHandler f A → UnlessHandler f B
unless_handler (BuiltinBound SetTerminate) g h = tt
unless_handler (BuiltinBound SetUnexpected) g h = tt
unless_handler (BuiltinBound WriteInt) g h = g h
unless_handler (BuiltinBound ReadByte) g h = g h
unless_handler (BuiltinBound Exit) g h = g h
unless_handler (BuiltinBound Module) g h = g h
unless_handler (BuiltinBound Cancel) g h = g h
unless_handler (BuiltinBound Terminate) g h = g h
unless_handler (BuiltinBound Uncaught) g h = g h
unless_handler (BuiltinBound BadException) g h = g h
unless_handler Free g h = g h
unless_handler (Global n) g h = g h
unless_handler (Local n) g h = g h
unless_handler (Field k n) g h = g h
unless_handler (Class n) g h = g h
unless_handler (Func n) g h = g h
unless_handler (Method k n) g h = g h

-- each argument has its parameter
pub types_all : (types : List Ty) (es : Expressions) → count_of es ≡ length types → types_for types es ≡ types
types_all [] no_expressions e = refl
types_all [] (expression_then x es) e = absurd (omega (arith, e))
types_all (t ∷ types) no_expressions e = absurd (omega (arith, e))
types_all (t ∷ types) (expression_then x es) e = ap (λ ts. t ∷ ts) (types_all types es (omega (arith, e)))

module _ (l : Lowering) (own : Option ℕ) (calls : Callee → Reference → List SourceArgument → SourceContext → SourceAction ℤ) (b : Running) (v : SourceFrame) (c : SourceContext)
    (fit : KindsFit l b.kinds) (same : SameCalls l.layout (source_running l calls) b) (builtins : SameBuiltins l own calls b v c) where
  value_meant : (e : Expression) (t : ℕ) → has_call e ≡ false → IsTyped l own v.variables e → IsMeant l own b v c (value_of (source_running l calls) v e c) (lower l e t).value
  value_meant e t quiet typed at w s stands reach = (value_means l own b.kinds v at c w s fit reach stands (source_running l calls) c refl e t quiet typed).1

  binary_evaluates : (op : BinaryOp) (x y : Expression) (t : ℕ) → first_temporary l ≤ t → IsTyped l own v.variables y
      → Evaluates l own b v c t (value_of (source_running l calls) v x c) (lower l x t)
      → ((u : ℕ) → first_temporary l ≤ u → Evaluates l own b v c u (value_of (source_running l calls) v y c) (lower l y u))
      → Evaluates l own b v c t (value_of (source_running l calls) v (binary op x y) c) (lower l (binary op x y) t)
  binary_evaluates op x y t high typed first second = go (has_call y) refl op
    where
      other : (op : BinaryOp) → ((n : ℤ) → decided op n ≡ None)
          → Evaluates l own b v c t (value_of (source_running l calls) v x c >>= (λ n. with_right_side op n (decided op n) (value_of (source_running l calls) v y c)))
          (left_stored op t (lower l x t) (lower l y (t + 1)))
      other op none = stored_case l own b v c fit t high op (value_of (source_running l calls) v x c) (value_of (source_running l calls) v y c) (lower l x t) (lower l y (t + 1)) none
          first (second (t + 1) (omega (arith, high)))

      go : (d : Bool) → has_call y ≡ d → (op : BinaryOp)
          → Evaluates l own b v c t (value_of (source_running l calls) v x c >>= (λ n. with_right_side op n (decided op n) (value_of (source_running l calls) v y c)))
          (both op d t (lower l x t) (λ u. lower l y u))
      go false e op = quiet_case l own b v c fit t op (value_of (source_running l calls) v x c) (value_of (source_running l calls) v y c) (lower l x t) (lower l y (lower l x t).next).value
          (omega (arith, high)) first (value_meant y (lower l x t).next e typed)
      go true e And = and_case l own b v c fit t high (value_of (source_running l calls) v x c) (value_of (source_running l calls) v y c) (lower l x t) (lower l y t) first (second t high)
      go true e Or = or_case l own b v c fit t high (value_of (source_running l calls) v x c) (value_of (source_running l calls) v y c) (lower l x t) (lower l y t) first (second t high)
      go true e Add = other Add (λ n. refl)
      go true e Subtract = other Subtract (λ n. refl)
      go true e Multiply = other Multiply (λ n. refl)
      go true e Divide = other Divide (λ n. refl)
      go true e Remainder = other Remainder (λ n. refl)
      go true e Less = other Less (λ n. refl)
      go true e Greater = other Greater (λ n. refl)
      go true e LessEqual = other LessEqual (λ n. refl)
      go true e GreaterEqual = other GreaterEqual (λ n. refl)
      go true e Equal = other Equal (λ n. refl)
      go true e NotEqual = other NotEqual (λ n. refl)

  -- a call of what a name is bound to
  call_evaluates : (f : Bound) (object : List Name) (es : Expressions) (t : ℕ) → first_temporary l ≤ t → CanCall l own v.variables f object es
      → UnlessHandler f (Passes l own b v c t (types_for (parameter_types l.program f) es) (arguments (source_running l calls) v es (parameter_types l.program f) c)
      (lower_arguments l es (parameter_types l.program f) t))
      → Evaluates l own b v c t (called (source_running l calls) v f object es (arguments (source_running l calls) v es (parameter_types l.program f) c) c)
      (call_stored t (call_of l f object es (lower_arguments l es (parameter_types l.program f) t)))
  call_evaluates (Func n) object es t high can passes =
      call_case l own b v c fit t high calls same (types_for (parameter_types l.program (Func n)) es)
      (arguments (source_running l calls) v es (parameter_types l.program (Func n)) c) (lower_arguments l es (parameter_types l.program (Func n)) t)
      (lower_arguments l es (parameter_types l.program (Func n)) t).arguments (function n) (λ w. nowhere) can.0
      (λ at w s stands reach given words i ok.
      (words, i, subst (λ ts. SameArguments l.layout l.program at ts given words) (types_all (parameter_types l.program (Func n)) es can.1) ok)) passes
  call_evaluates (Method k i) object es t high can passes =
      call_case l own b v c fit t high calls same (types_for (parameter_types l.program (Method k i)) es)
      (arguments (source_running l calls) v es (parameter_types l.program (Method k i)) c) (lower_arguments l es (parameter_types l.program (Method k i)) t)
      (address_argument (place_of l object) ∷ (lower_arguments l es (parameter_types l.program (Method k i)) t).arguments) (method k i)
      (λ w. as_class w k (lvalue l.program w v object)) can.0
      (λ at w s stands reach given words j ok.
      let x = class_addressed l own b.kinds v at c w s t (omega (arith, high)) fit reach stands object k can.2 in (
        address_word x.address ∷ words,
        words_address b.kinds s.frame s.world (place_of l object) (lower_arguments l es (parameter_types l.program (Method k i)) t).arguments x.address words (x.stays s.frame (keeps_all t s.frame)) j,
        (x.address, x.refers, refl, subst (λ ts. SameArguments l.layout l.program at ts given words) (types_all (parameter_types l.program (Method k i)) es can.1) ok),
      )) passes
  call_evaluates (BuiltinBound f) object es t high can passes = builtins f object es t high can passes
  call_evaluates Free object es t high can passes = absurd can
  call_evaluates (Global n) object es t high can passes = absurd can
  call_evaluates (Local n) object es t high can passes = absurd can
  call_evaluates (Field k n) object es t high can passes = absurd can
  call_evaluates (Class n) object es t high can passes = absurd can

  -- a function of the language, which takes ints
  std_evaluates : (f : Bound) (es : Expressions) (t : ℕ) → first_temporary l ≤ t → IsStandard l.program f es
      → UnlessHandler f (Passes l own b v c t (types_for [] es) (arguments (source_running l calls) v es [] c) (lower_arguments l es [] t))
      → Evaluates l own b v c t (called (source_running l calls) v f [] es (arguments (source_running l calls) v es [] c) c) (call_stored t (call_of l f [] es (lower_arguments l es [] t)))
  std_evaluates (BuiltinBound f) es t high can passes = builtins f [] es t high can passes
  std_evaluates Free es t high can passes = absurd can
  std_evaluates (Global k) es t high can passes = absurd can
  std_evaluates (Local k) es t high can passes = absurd can
  std_evaluates (Field j k) es t high can passes = absurd can
  std_evaluates (Class k) es t high can passes = absurd can
  std_evaluates (Func k) es t high can passes = absurd can
  std_evaluates (Method j k) es t high can passes = absurd can

  -- references among arguments
  int_names : (t : ℕ) → first_temporary l ≤ t → (k : Bool) (e : Expression) → AreTyped l own v.variables (expression_then e no_expressions) (IntRef k ∷ [])
      → NamesAddressed l own b v c fit t (λ w. lvalue l.program w v (names_of (lvalue_of e))) (IntRef k) (names_of (lvalue_of e))
  int_names t high k e typed at w s stands reach =
      names_addressed l own b.kinds v at c w s t (omega (arith, high)) fit reach stands (names_of (lvalue_of e)) int_type typed.0

  object_names : (t : ℕ) → first_temporary l ≤ t → (k : Bool) (n : Name) (e : Expression) → AreTyped l own v.variables (expression_then e no_expressions) (ObjectRef k n ∷ [])
      → NamesAddressed l own b v c fit t (λ w. as_class w (class_named n) (lvalue l.program w v (names_of (lvalue_of e)))) (ObjectRef k n) (names_of (lvalue_of e))
  object_names t high k n e typed at w s stands reach =
      class_addressed l own b.kinds v at c w s t (omega (arith, high)) fit reach stands (names_of (lvalue_of e)) (class_named n) typed.0

  -- arguments that make no call
  arguments_meant : (es : Expressions) (types : List Ty) (t u : ℕ) → first_temporary l ≤ u → some_call es ≡ false → AreTyped l own v.variables es types
      → GivesMeant l own b v c (types_for types es) (arguments (source_running l calls) v es types c) (lower_arguments l es types t).arguments
  arguments_meant no_expressions types t u high quiet typed = meant_none l own b v c fit
  arguments_meant (expression_then e es) types t u high quiet typed =
      let (first, rest) = neither (has_call e) (some_call es) quiet in go types typed first rest (λ ts n ok. arguments_meant es ts n u high rest ok)
    where
      value : (ts : List Ty) → has_call e ≡ false → some_call es ≡ false → IsTyped l own v.variables e
          → ((n : ℕ) → GivesMeant l own b v c (types_for ts es) (arguments (source_running l calls) v es ts c) (lower_arguments l es ts n).arguments)
          → GivesMeant l own b v c (Int ∷ types_for ts es) (by_its_value (value_of (source_running l calls) v e c) >>= before_others (arguments (source_running l calls) v es ts c))
          (int_passed (some_call es) t (lower l e t) (λ n. lower_arguments l es ts n)).arguments
      value ts first rest typed others =
          subst (λ d. GivesMeant l own b v c (Int ∷ types_for ts es) (by_its_value (value_of (source_running l calls) v e c) >>= before_others (arguments (source_running l calls) v es ts c))
          (int_passed d t (lower l e t) (λ n. lower_arguments l es ts n)).arguments) (sym rest)
          (meant_int l own b v c fit (types_for ts es) Int (value_of (source_running l calls) v e c) (lower l e t).value (arguments (source_running l calls) v es ts c)
          (lower_arguments l es ts (lower l e t).next).arguments refl (value_meant e t first typed) (others (lower l e t).next))

      go : (types : List Ty) → AreTyped l own v.variables (expression_then e es) types → has_call e ≡ false → some_call es ≡ false
          → ((ts : List Ty) (n : ℕ) → AreTyped l own v.variables es ts
          → GivesMeant l own b v c (types_for ts es) (arguments (source_running l calls) v es ts c) (lower_arguments l es ts n).arguments)
          → GivesMeant l own b v c (types_for types (expression_then e es)) (arguments (source_running l calls) v (expression_then e es) types c) (lower_arguments l (expression_then e es) types t).arguments
      go [] typed first rest others = value [] first rest typed.0 (λ n. others [] n typed.1)
      go (Int ∷ ts) typed first rest others = value ts first rest typed.0 (λ n. others ts n typed.1)
      go (Void ∷ ts) typed first rest others = absurd typed.0
      go (Object k ∷ ts) typed first rest others = absurd typed.0
      go (IntRef k ∷ ts) typed first rest others =
          meant_address l own b v c fit u (types_for ts es) (IntRef k) (λ w. lvalue l.program w v (names_of (lvalue_of e))) (names_of (lvalue_of e))
          (arguments (source_running l calls) v es ts c) (lower_arguments l es ts t).arguments refl (int_names u high k e (typed.0, tt)) (others ts t typed.1)
      go (ObjectRef k n ∷ ts) typed first rest others =
          meant_address l own b v c fit u (types_for ts es) (ObjectRef k n) (λ w. as_class w (class_named n) (lvalue l.program w v (names_of (lvalue_of e)))) (names_of (lvalue_of e))
          (arguments (source_running l calls) v es ts c) (lower_arguments l es ts t).arguments refl (object_names u high k n e (typed.0, tt)) (others ts t typed.1)

  -- an int before others
  int_passes : (e : Expression) (es : Expressions) (ts : List Ty) (t : ℕ) → first_temporary l ≤ t → AreTyped l own v.variables es ts
      → Evaluates l own b v c t (value_of (source_running l calls) v e c) (lower l e t)
      → ((u : ℕ) → first_temporary l ≤ u → Passes l own b v c u (types_for ts es) (arguments (source_running l calls) v es ts c) (lower_arguments l es ts u))
      → Passes l own b v c t (Int ∷ types_for ts es) (by_its_value (value_of (source_running l calls) v e c) >>= before_others (arguments (source_running l calls) v es ts c))
      (int_passed (some_call es) t (lower l e t) (λ u. lower_arguments l es ts u))
  int_passes e es ts t high typed first rest = go (some_call es) refl
    where
      go : (d : Bool) → some_call es ≡ d
          → Passes l own b v c t (Int ∷ types_for ts es) (by_its_value (value_of (source_running l calls) v e c) >>= before_others (arguments (source_running l calls) v es ts c))
          (int_passed d t (lower l e t) (λ u. lower_arguments l es ts u))
      go false quiet =
          pass_quiet l own b v c fit t (lower_arguments l es ts (lower l e t).next).next (types_for ts es) Int (value_of (source_running l calls) v e c) (lower l e t)
          (arguments (source_running l calls) v es ts c) (lower_arguments l es ts (lower l e t).next).arguments refl (omega (arith, high)) first
          (arguments_meant es ts (lower l e t).next t high quiet typed)
      go true loud =
          pass_stored l own b v c fit t high (types_for ts es) Int refl (value_of (source_running l calls) v e c) (lower l e t) (arguments (source_running l calls) v es ts c)
          (lower_arguments l es ts (t + 1)) first (rest (t + 1) (omega (arith, high)))

  -- one argument before others
  argument_passes : (types : List Ty) (e : Expression) (es : Expressions) (t : ℕ) → first_temporary l ≤ t → AreTyped l own v.variables (expression_then e es) types
      → (IsTyped l own v.variables e → Evaluates l own b v c t (value_of (source_running l calls) v e c) (lower l e t))
      → ((ts : List Ty) (u : ℕ) → first_temporary l ≤ u → AreTyped l own v.variables es ts
      → Passes l own b v c u (types_for ts es) (arguments (source_running l calls) v es ts c) (lower_arguments l es ts u))
      → Passes l own b v c t (types_for types (expression_then e es)) (arguments (source_running l calls) v (expression_then e es) types c) (lower_arguments l (expression_then e es) types t)
  argument_passes [] e es t high typed first rest = int_passes e es [] t high typed.1 (first typed.0) (λ u h. rest [] u h typed.1)
  argument_passes (Int ∷ ts) e es t high typed first rest = int_passes e es ts t high typed.1 (first typed.0) (λ u h. rest ts u h typed.1)
  argument_passes (Void ∷ ts) e es t high typed first rest = absurd typed.0
  argument_passes (Object k ∷ ts) e es t high typed first rest = absurd typed.0
  argument_passes (IntRef k ∷ ts) e es t high typed first rest =
      pass_address l own b v c fit t (types_for ts es) (IntRef k) (λ w. lvalue l.program w v (names_of (lvalue_of e))) (names_of (lvalue_of e))
      (arguments (source_running l calls) v es ts c) (lower_arguments l es ts t) refl (int_names t high k e (typed.0, tt)) (rest ts t high typed.1)
  argument_passes (ObjectRef k n ∷ ts) e es t high typed first rest =
      pass_address l own b v c fit t (types_for ts es) (ObjectRef k n) (λ w. as_class w (class_named n) (lvalue l.program w v (names_of (lvalue_of e)))) (names_of (lvalue_of e))
      (arguments (source_running l calls) v es ts c) (lower_arguments l es ts t) refl (object_names t high k n e (typed.0, tt)) (rest ts t high typed.1)

  mutual
    pub expression_evaluates : (e : Expression) (t : ℕ) → first_temporary l ≤ t → IsTyped l own v.variables e
        → Evaluates l own b v c t (value_of (source_running l calls) v e c) (lower l e t)
    expression_evaluates (number n place) t high typed =
        meant_case l own b v c fit t t (value_of (source_running l calls) v (number n place) c) [] (lower l (number n place) t).value refl (value_meant (number n place) t refl typed)
    expression_evaluates (path names) t high typed =
        meant_case l own b v c fit t t (value_of (source_running l calls) v (path names) c) [] (lower l (path names) t).value refl (value_meant (path names) t refl typed)
    expression_evaluates (paren e place) t high typed = expression_evaluates e t high typed
    expression_evaluates (unary op e place) t high typed =
        unary_case l own b v c fit t op (value_of (source_running l calls) v e c) (lower l e t) (expression_evaluates e t high typed)
    expression_evaluates (binary op x y) t high typed =
        binary_evaluates op x y t high typed.1 (expression_evaluates x t high typed.0) (λ u h. expression_evaluates y u h typed.1)
    expression_evaluates (call names es) t high typed =
        call_evaluates (callee_bound names) (receiver names) es t high typed.0
        (unless_handler (callee_bound names) (λ ok. expressions_pass es (parameter_types l.program (callee_bound names)) t high ok) typed.1)
    expression_evaluates (std_call n es place) t high typed =
        std_evaluates n.bound es t high typed.0 (unless_handler n.bound (λ ok. expressions_pass es [] t high ok) typed.1)

    pub expressions_pass : (es : Expressions) (types : List Ty) (t : ℕ) → first_temporary l ≤ t → AreTyped l own v.variables es types
        → Passes l own b v c t (types_for types es) (arguments (source_running l calls) v es types c) (lower_arguments l es types t)
    expressions_pass no_expressions types t high typed = pass_none l own b v c fit t t
    expressions_pass (expression_then e es) types t high typed =
        argument_passes types e es t high typed (λ ok. expression_evaluates e t high ok) (λ ts u h ok. expressions_pass es ts u h ok)
