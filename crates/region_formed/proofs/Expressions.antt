-- What an expression that breaks no rule becomes passes its tests, as does a call.
use Rattle.std.proofs.Common.{◌≡◌, ◌+◌, ◌==◌, ℕ, pos, codes, bytes_eq, Bool, true, false, List, [], ◌∷◌, drop, length, Option, Some, None, if◌then◌else◌, refl, sym, subst, arith, not}
use Rattle.std.proofs.lemmas.Bool.Decides.{nat_tests}
use Rattle.std.specs.Cmp.Derive.{both_true}
use Rattle.cxx_ast.specs.declared.name.Name.{Name}
use Rattle.cxx_ast.specs.declared.name.Bound.{Bound}
use Rattle.cxx_ast.specs.declared.name.Bound.TheVariants.{Free, Class, Builtin as BuiltinBound}
use Rattle.cxx_ast.specs.declared.name.Builtin.{Builtin}
use Rattle.cxx_ast.specs.declared.name.Builtin.TheVariants.{SetTerminate, SetUnexpected}
use Rattle.cxx_ast.specs.declared.types.Ty.{Ty}
use Rattle.cxx_ast.specs.declared.expression.BinaryOp.{BinaryOp}
use Rattle.cxx_ast.specs.declared.expression.BinaryOp.TheVariants.{And, Or, NotEqual}
use Rattle.cxx_ast.specs.Rule.{arity, main_use, handler_form}
use Rattle.cxx_ast.specs.Finding.{breaks, breaks_if}
use Rattle.cxx_ast.specs.Plain.{Expression, number, path, paren, unary, binary, call, std_call, Expressions, no_expressions, expression_then}
use Rattle.cxx_ast.specs.declared.types.Param.{Param}
use Rattle.region_ir.specs.AtNumber.{called_function}
use Rattle.region_formed.proofs.Slots.{temporary_at, int_in}
use Rattle.std.proofs.lemmas.List.{length-map}
use Rattle.cxx_ast.specs.Environment.{Kind, Passing, Scope, Meaning, unknown, a_local, a_field, a_method, a_global, a_function, a_class, a_builtin, Signature, same_kind, void_kind}
use Rattle.cxx_ast.specs.Lookup.{look}
use Rattle.cxx_ast.specs.Reference.{Judgement, int_wanted, int_found}
use Rattle.cxx_ast.specs.Calls.{std_builtin, broken_call, if_sound, ints_found, handler_meant, handler_found, builtin_ints, builtin_kind}
use Rattle.cxx_ast.specs.ExpressionRules.{judged, all_judged}
use Rattle.cxx_ast.specs.Resolve.{std_bound, bound_of, resolve_path, resolve_expression, resolve_expressions}
use Rattle.cxx_ast.specs.Grammatical.{IsExpression, AreExpressions}
use Rattle.meaning_forms.specs.Class.{object_type, function_at, method_at}
use Rattle.meaning_forms.specs.Running.{function, method}
use Rattle.meaning_forms.specs.Expression.{lvalue_of, names_of, receiver, callee_bound, types_of, parameter_types, function_named, function_number as function_number_bound, count_of as expressions_count}
use Rattle.region_forms.specs.Form.{Place, handler_argument, address_argument, arguments_from}
use Rattle.region_forms.specs.LowerExpression.{handler_arguments, call_dropped, call_placed, Lowered, LoweredArguments, LoweredCall, has_call, some_call, both, call_of, call_stored, address_passed, int_passed, refers, place_of, lower, lower_arguments}
use Rattle.region_forms.specs.Mentioned.{slots_of, slots_of_root, slots_of_arguments}
use Rattle.region_forms.specs.WellFormed.{count_of, int_place}
use Rattle.region_forms.specs.Layout.{layout_of}
use Rattle.region_formed.proofs.Fine.{Fine, fine_parts, held}
use Rattle.region_formed.proofs.Meant.{ParamsMeant, Shaped, numbered, Given, lowering_in, slots_in, regions_in, Reach, MeaningMeant, FunctionThere}
use Rattle.region_formed.proofs.Meanings.{look_meant}
use Rattle.region_formed.proofs.Paths.{path_meant}
use Rattle.region_formed.proofs.Called.{Callable, calls_function, calls_method, calls_builtin, builds, bound_called, CalledFine, CallMeant, called, std_called}
use Rattle.region_formed.proofs.Arguments.{typed_kind, Suited, SuitedOne, suited, ints_suited}
use Rattle.region_formed.proofs.Passing.{Pass, ArgumentsPass, Behind, of_max, then_pass, one_then, none_pass, one_pass, with_last, stored_passes, branch_passes, number_passes, binary_passes, loaded_passes, no_arguments_pass, int_first, address_first, LoweredPasses, GivenPass, CallPasses, temporary_passes}
use Rattle.region_formed.proofs.Fitting.{call_fits, shaped_passed, same_number, arguments_counted, arguments_fit, parameter_slots, handler_fits}
use Rattle.std.specs.Prelude.{◌&&◌}
use Rattle.std.proofs.lemmas.Bool.{and_parts}

-- two operands
both_pass : {g : Given} {a : Lowered} → (o : BinaryOp) (calls : Bool) (t : ℕ) (b : ℕ → Lowered) → Behind g t → LoweredPasses g a →
    ((u : ℕ) → Behind g u → LoweredPasses g (b u)) → LoweredPasses g (both o calls t a b)
both_pass o false t b free h k = let right = k _ h.next in record { before = h.before; value = binary_passes o h.value right.value; next = h.next }
both_pass And true t b free h k =
    let right = k t free in
    temporary_passes t (with_last h.before (branch_passes h.value
    (with_last right.before (stored_passes t free (binary_passes NotEqual right.value (number_passes (pos 0)))))
    (one_pass (stored_passes t free (number_passes (pos 0)))))) free
both_pass Or true t b free h k =
    let right = k t free in
    temporary_passes t (with_last h.before (branch_passes h.value (one_pass (stored_passes t free (number_passes (pos 1))))
    (with_last right.before (stored_passes t free (binary_passes NotEqual right.value (number_passes (pos 0))))))) free
both_pass o true t b free h k =
    let right = k (t + 1) (omega (arith, free)) in
    record {
      before = then_pass h.before (one_then (stored_passes t free h.value) right.before);
      value = binary_passes o (loaded_passes t free) right.value;
      next = right.next;
    }

-- an int, then other arguments
int_given : {g : Given} {a : Lowered} → (c : Bool) (t : ℕ) (rest : ℕ → LoweredArguments) → Behind g t → LoweredPasses g a →
    ((u : ℕ) → Behind g u → GivenPass g (rest u)) → GivenPass g (int_passed c t a rest)
int_given false t rest free h k = let r = k _ h.next in record { before = h.before; given = int_first h.value r.given; next = r.next }
int_given true t rest free h k =
    let r = k (t + 1) (omega (arith, free)) in
    record {
      before = then_pass h.before (one_then (stored_passes t free h.value) r.before);
      given = int_first (loaded_passes t free) r.given;
      next = r.next;
    }

-- an argument by reference, or an int
either_given : (g : Given) (sc : Scope) (r : Reach g sc) (b c : Bool) (e : Expression) (t : ℕ) (rest : ℕ → LoweredArguments) → Behind g t → SuitedOne g sc r b e →
    (Fine g.defined (judged g.env sc e).found → IsExpression e → LoweredPasses g (lower (lowering_in g) (resolve_expression g.env sc e) t)) →
    ((u : ℕ) → Behind g u → GivenPass g (rest u)) →
    GivenPass g (if b then address_passed (place_of (lowering_in g) (names_of (lvalue_of (resolve_expression g.env sc e)))) (rest t)
    else int_passed c t (lower (lowering_in g) (resolve_expression g.env sc e) t) rest)
either_given g sc r true c e t rest free s own k =
    let others = k t free in record { before = others.before; given = address_first s others.given; next = others.next }
either_given g sc r false c e t rest free s own k = int_given c t rest free (own s.0 s.1) k

-- what is called takes the arguments
module _ (g : Given) (sc : Scope) (r : Reach g sc) (es : Expressions) where
  abbrev pub args : List Ty → ℕ → LoweredArguments
  args types t = lower_arguments (lowering_in g) (resolve_expressions g.env sc es) types t

  -- a call of a function that is given arguments of some types
  pub count_given : (types : List Ty) (t n : ℕ) → length types ≡ n → (length (all_judged g.env sc es) == n) ≡ true →
      (count_of (arguments_from (args types t).arguments) ≡ n) × (length types ≡ expressions_count (resolve_expressions g.env sc es))
  count_given types t n e c =
      let counted = arguments_counted (lowering_in g) (resolve_expressions g.env sc es) types t in
      let number = same_number g.env sc es in
      let same : length (all_judged g.env sc es) ≡ n = grind (arith, nat_tests, c) in
      (omega (arith, counted, number, same), omega (arith, e, number, same))

pub params_shaped : (n : ℕ) (qs : List Passing) (xs : List Param) → ParamsMeant n qs xs → Shaped qs (types_of xs)
params_shaped n [] [] h = tt
params_shaped n [] (x ∷ xs) h = absurd h
params_shaped n (q ∷ qs) [] h = absurd h
params_shaped n (q ∷ qs) (x ∷ xs) h = (h.0.reference, h.0.passed, typed_kind n q.kind (object_type x.ty) h.0.typed, params_shaped n qs xs h.1)

-- the function that is given to set_terminate or set_unexpected is there, and has no parameters
handler_given : (g : Given) (sc : Scope) → Reach g sc → (place : ℕ) (es : Expressions) → Fine g.defined (handler_found g.env sc place (all_judged g.env sc es)) →
    ArgumentsPass g (handler_arguments (function_named (resolve_expressions g.env sc es)))
handler_given g sc r place no_expressions f = absurd f
handler_given g sc r place (expression_then e (expression_then x es)) f = absurd f
handler_given g sc r place (expression_then (path (n ∷ [])) no_expressions) f = by (look g.env sc n) (look_meant g sc r n) f
  where
    there : (n : ℕ) (s : Signature) → FunctionThere g.program n s → (length s.parameters == 0) ≡ true → ArgumentsPass g (handler_argument n ∷ [])
    there n s h none =
        let f = function_at g.program n in
        let same = (shaped_passed s.parameters (types_of f.parameters) h.1).1 in
        let parameters = length-map f.parameters (λ x. x.ty) in
        let nothing : (0 + length f.parameters == 0) ≡ true = grind (arith, nat_tests, same, parameters, none) in
        record { holds = λ few. both_true (handler_fits g.program (layout_of g.program) (function n) (slots_in g) h.0 nothing) refl }

    by : (m : Meaning) → MeaningMeant g m → Fine g.defined (handler_meant n.place m) → ArgumentsPass g (handler_arguments (function_number_bound (bound_of g.env m)))
    by (a_function s) h q =
        subst (λ d. ArgumentsPass g (handler_argument (numbered d s.name.text) ∷ [])) (sym g.meant.definitions)
        (there (numbered g.defined s.name.text) s (h.there q.0)
        (and_parts (same_kind s.result void_kind) (length s.parameters == 0) (held g.defined (same_kind s.result void_kind && length s.parameters == 0) handler_form n.place
        (fine_parts g.defined (breaks_if (bytes_eq s.name.text (codes "main")) main_use n.place) (breaks_if (not (same_kind s.result void_kind && length s.parameters == 0)) handler_form n.place) q.1).1)).1)
    by unknown h q = absurd q
    by (a_local v) h q = absurd q
    by (a_field k i kind) h q = absurd q
    by (a_method k i s) h q = absurd q
    by (a_global x) h q = absurd q
    by (a_class k) h q = absurd q
    by (a_builtin b) h q = absurd q
handler_given g sc r place (expression_then (path []) no_expressions) f = absurd f
handler_given g sc r place (expression_then (path (n ∷ m ∷ names)) no_expressions) f = absurd f
handler_given g sc r place (expression_then (number v other) no_expressions) f = absurd f
handler_given g sc r place (expression_then (paren e other) no_expressions) f = absurd f
handler_given g sc r place (expression_then (unary o e other) no_expressions) f = absurd f
handler_given g sc r place (expression_then (binary o x y) no_expressions) f = absurd f
handler_given g sc r place (expression_then (call names es) no_expressions) f = absurd f
handler_given g sc r place (expression_then (std_call n es other) no_expressions) f = absurd f

-- no object is built
abbrev pub NotBuilt : Callable → Type 0
NotBuilt (builds k place) = ⊥
NotBuilt what = Unit {0}

module _ (g : Given) (sc : Scope) (r : Reach g sc) (thrown : Bool) (object : List Name) (es : Expressions) (i : AreExpressions es) (t : ℕ)
    (rest : (types : List Ty) → Suited g sc r types es → GivenPass g (args g sc r es types t)) where
  -- the call of what takes ints
  ints_called : (b : Builtin) (place : ℕ) →
      Fine g.defined (if length (all_judged g.env sc es) == builtin_ints b then if_sound (builtin_kind b) (ints_found (all_judged g.env sc es))
      else broken_call (breaks arity place ∷ []) (all_judged g.env sc es)).found → GivenPass g (args g sc r es [] t)
  ints_called b place f = go (length (all_judged g.env sc es) == builtin_ints b) f
    where
      go : (c : Bool) → Fine g.defined (if c then if_sound (builtin_kind b) (ints_found (all_judged g.env sc es))
          else broken_call (breaks arity place ∷ []) (all_judged g.env sc es)).found → GivenPass g (args g sc r es [] t)
      go true h = rest [] (ints_suited g sc r es h i)
      go false h = absurd h

  pub call_passes : (what : Callable) → CalledFine g sc thrown (all_judged g.env sc es) object what → NotBuilt what →
      CallPasses g (call_of (lowering_in g) (bound_called what) object (resolve_expressions g.env sc es)
      (args g sc r es (parameter_types g.program (bound_called what)) t))
  call_passes (calls_function n s) h not_built =
      let p = g.program in
      let f = function_at p n in
      let types = types_of f.parameters in
      let shaped = shaped_passed s.parameters types h.0.1 in
      let a = rest types (suited g sc r s.parameters types es h.0.1 h.2.counted h.2.found i) in
      let count = count_given g sc r es types t (length s.parameters) shaped.1 h.2.counted in
      let counted = count.0 in
      let parameters = length-map f.parameters (λ x. x.ty) in
      let same = shaped.1 in
      let counts : (0 + count_of (arguments_from (args g sc r es types t).arguments) == 0 + length f.parameters) ≡ true =
      grind (arith, nat_tests, counted, parameters, same) in
      record {
        before = a.before;
        given = a.given;
        callee = call_fits p (layout_of p) (function n) 0 (arguments_from (args g sc r es types t).arguments) h.0.0 counts
            (arguments_fit (layout_of p) (called_function p (layout_of p) (function n)).slots (lowering_in g) (resolve_expressions g.env sc es) types 0 t
            shaped.0 count.1 (parameter_slots (layout_of p) false f (called_function p (layout_of p) (function n)).body));
      }
  call_passes (calls_method k j s) h not_built =
      let p = g.program in
      let f = method_at p k j in
      let types = types_of f.parameters in
      let shape = params_shaped (length p.classes) s.parameters f.parameters h.0.parameters in
      let shaped = shaped_passed s.parameters types shape in
      let a = rest types (suited g sc r s.parameters types es shape h.2.counted h.2.found i) in
      let count = count_given g sc r es types t (length s.parameters) shaped.1 h.2.counted in
      let counted = count.0 in
      let parameters = length-map f.parameters (λ x. x.ty) in
      let same = shaped.1 in
      let counts : (0 + (count_of (arguments_from (args g sc r es types t).arguments) + 1) == 1 + length f.parameters) ≡ true =
      grind (arith, nat_tests, counted, parameters, same) in
      record {
        before = a.before;
        given = address_first h.1 a.given;
        callee = call_fits p (layout_of p) (method k j) 0
            (arguments_from (address_argument (place_of (lowering_in g) object) ∷ (args g sc r es types t).arguments)) (h.0.below, h.0.place) counts
            (arguments_fit (layout_of p) (called_function p (layout_of p) (method k j)).slots (lowering_in g) (resolve_expressions g.env sc es) types 1 t
            shaped.0 count.1 (parameter_slots (layout_of p) true f (called_function p (layout_of p) (method k j)).body));
      }
  call_passes (calls_builtin SetTerminate place) h not_built = record { before = none_pass; given = handler_given g sc r place es h.1; callee = refl }
  call_passes (calls_builtin SetUnexpected place) h not_built = record { before = none_pass; given = handler_given g sc r place es h.1; callee = refl }
  call_passes (calls_builtin b place) h not_built = let a = ints_called b place h.1 in record { before = a.before; given = a.given; callee = refl }
  call_passes (builds k place) h not_built = absurd not_built

-- a call that is stored
pub call_put : {g : Given} {c : LoweredCall} → (t : ℕ) → Behind g t → CallPasses g c → LoweredPasses g (call_stored t c)
call_put {g = g} {c = c} t free h =
    temporary_passes t (with_last h.before (record {
      holds = λ few. let parts = of_max (t + 1) (slots_of_arguments (arguments_from c.arguments)) (slots_of g.body) few in
          both_true (int_in g t (temporary_at g t free parts.0)) (both_true (h.given.holds parts.1) h.callee);
    })) free

-- a call whose value is dropped
pub call_dropped_passes : {g : Given} {c : LoweredCall} → CallPasses g c → Pass g (call_dropped c)
call_dropped_passes h = with_last h.before (record { holds = λ few. both_true (h.given.holds few) h.callee })

-- a call whose value is stored in a place
pub call_placed_passes : {g : Given} {c : LoweredCall} → (p : Place) → int_place (regions_in g) (slots_in g) p ≡ true → CallPasses g c → Pass g (call_placed p c)
call_placed_passes {g = g} {c = c} p there h =
    with_last h.before (record {
      holds = λ few. let parts = of_max (slots_of_root p.root) (slots_of_arguments (arguments_from c.arguments)) (slots_of g.body) few in
          both_true there (both_true (h.given.holds parts.1) h.callee);
    })

-- what is called of `std` has ints alone as parameters
std_types : (g : Given) (b : Bool) (o : Option Builtin) →
    parameter_types g.program (if b then Class 0 else elim o [ None ↦ Free | Some x ↦ BuiltinBound x ]) ≡ []
std_types g true o = refl
std_types g false None = refl
std_types g false (Some x) = refl

module _ (g : Given) (sc : Scope) (r : Reach g sc) where
  -- no object is built by a call that is not the operand of a throw
  pub not_thrown : (given : List Judgement) (object : List Name) (what : Callable) → CalledFine g sc false given object what → NotBuilt what
  not_thrown given object (builds k place) h = absurd (cc h.0)
  not_thrown given object (calls_function n s) h = tt
  not_thrown given object (calls_method k i s) h = tt
  not_thrown given object (calls_builtin b place) h = tt

  -- a call by what its names are bound to
  pub call_meant : (thrown : Bool) (es : Expressions) → AreExpressions es → (t : ℕ) (b : Bound) (object : List Name) (kind : Kind) →
      (c : CallMeant g sc thrown (all_judged g.env sc es) b object kind) → NotBuilt c.what →
      ((types : List Ty) → Suited g sc r types es → GivenPass g (args g sc r es types t)) →
      CallPasses g (call_of (lowering_in g) b object (resolve_expressions g.env sc es) (args g sc r es (parameter_types g.program b) t))
  call_meant thrown es i t b object kind c not_built rest =
      subst (λ x. CallPasses g (call_of (lowering_in g) x object (resolve_expressions g.env sc es) (args g sc r es (parameter_types g.program x) t)))
      (sym c.bound) (call_passes g sc r thrown object es i t rest c.what c.fine not_built)

  -- a call of `std::` something, dropped or stored
  pub std_meant : (thrown : Bool) (n : Name) (es : Expressions) (place : ℕ) → AreExpressions es → (kind : Kind) →
      (c : CallMeant g sc thrown (all_judged g.env sc es) (std_bound n.text) [] kind) → NotBuilt c.what → (t : ℕ) →
      ((types : List Ty) → Suited g sc r types es → GivenPass g (args g sc r es types t)) →
      CallPasses g (call_of (lowering_in g) (std_bound n.text) [] (resolve_expressions g.env sc es) (args g sc r es [] t))
  std_meant thrown n es place i kind c not_built t rest =
      subst (λ ts. CallPasses g (call_of (lowering_in g) (std_bound n.text) [] (resolve_expressions g.env sc es) (args g sc r es ts t)))
      (std_types g (bytes_eq n.text (codes "bad_exception")) (std_builtin n.text)) (call_meant thrown es i t (std_bound n.text) [] kind c not_built rest)

  pub std_put : (thrown : Bool) (n : Name) (es : Expressions) (place : ℕ) → AreExpressions es → (kind : Kind) →
      (c : CallMeant g sc thrown (all_judged g.env sc es) (std_bound n.text) [] kind) → NotBuilt c.what → (t : ℕ) → Behind g t →
      ((types : List Ty) → Suited g sc r types es → GivenPass g (args g sc r es types t)) →
      LoweredPasses g (lower (lowering_in g) (resolve_expression g.env sc (std_call n es place)) t)
  std_put thrown n es place i kind c not_built t free rest = call_put t free (std_meant thrown n es place i kind c not_built t rest)

  mutual
    pub lowered : (e : Expression) → IsExpression e → Fine g.defined (judged g.env sc e).found → (t : ℕ) → Behind g t →
        LoweredPasses g (lower (lowering_in g) (resolve_expression g.env sc e) t)
    lowered (number v place) i f t free = record { before = none_pass; value = number_passes v; next = free }
    lowered (path []) i f t free = absurd i
    lowered (path (n ∷ names)) i f t free =
        record { before = none_pass; value = record { holds = λ few. (path_meant g sc r n names f).int }; next = free }
    lowered (paren e place) i f t free = lowered e i f t free
    lowered (unary o e place) i f t free =
        let a = judged g.env sc e in
        let x = lowered e i.0 (fine_parts g.defined a.found (int_wanted a.kind a.place) f).0 t free in
        record { before = x.before; value = record { holds = x.value.holds }; next = x.next }
    lowered (binary o x y) i f t free =
        let a = judged g.env sc x in
        let b = judged g.env sc y in
        let both = fine_parts g.defined (int_found a) (int_found b) f in
        let left = fine_parts g.defined a.found (int_wanted a.kind a.place) both.0 in
        let right = fine_parts g.defined b.found (int_wanted b.kind b.place) both.1 in
        both_pass o (has_call (resolve_expression g.env sc y)) t (λ u. lower (lowering_in g) (resolve_expression g.env sc y) u) free
        (lowered x i.0 left.0 t free) (λ u more. lowered y i.1 right.0 u more)
    lowered (call names es) i f t free =
        let c = called g sc r false names (all_judged g.env sc es) i.0 f in
        call_put t free (call_meant false es i.1 t (callee_bound (resolve_path g.env sc names)) (receiver (resolve_path g.env sc names)) _ c
        (not_thrown (all_judged g.env sc es) (receiver (resolve_path g.env sc names)) c.what c.fine)
        (λ types s. arguments_lowered es types s t free))
    lowered (std_call n es place) i f t free =
        let c = std_called g sc false place n (all_judged g.env sc es) f in
        std_put false n es place i _ c (not_thrown (all_judged g.env sc es) [] c.what c.fine) t free (λ types s. arguments_lowered es types s t free)

    pub arguments_lowered : (es : Expressions) (types : List Ty) → Suited g sc r types es → (t : ℕ) → Behind g t → GivenPass g (args g sc r es types t)
    arguments_lowered no_expressions types s t free = record { before = none_pass; given = no_arguments_pass; next = free }
    arguments_lowered (expression_then e es) types s t free =
        either_given g sc r (refers types) (some_call (resolve_expressions g.env sc es)) e t (λ u. args g sc r es (drop 1 types) u) free s.0
        (λ f i. lowered e i f t free) (λ u more. arguments_lowered es (drop 1 types) s.1 u more)
