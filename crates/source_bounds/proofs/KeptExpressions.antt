-- What an expression becomes takes the address of an int variable where the expression binds a reference to it.
use Rattle.std.proofs.Common.{◌≡◌, ◌∙◌, refl, sym, ap, arith, ℕ, ◌+◌, ◌==◌, ◌||◌, Bool, true, false, List, [], ◌∷◌, ◌++◌, drop, Option, Some, None, if◌then◌else◌}
use Rattle.std.proofs.lemmas.Bool.Decides.{nat_tests}
use Rattle.cxx_ast.specs.declared.expression.BinaryOp.{BinaryOp}
use Rattle.cxx_ast.specs.declared.expression.BinaryOp.TheVariants.{And, Or}
use Rattle.cxx_ast.specs.declared.name.Bound.{Bound}
use Rattle.cxx_ast.specs.declared.name.Bound.TheVariants.{Global, Local, Field, Method, Builtin as BuiltinBound}
use Rattle.cxx_ast.specs.declared.name.Builtin.TheVariants.{SetTerminate, SetUnexpected}
use Rattle.cxx_ast.specs.declared.name.Name.{Name}
use Rattle.cxx_ast.specs.declared.types.Ty.{Ty}
use Rattle.cxx_ast.specs.declared.types.Ty.TheVariants.{Int, IntRef, ObjectRef}
use Rattle.cxx_ast.specs.Plain.{Expression, number, path, paren, unary, binary, call, std_call, Expressions, no_expressions, expression_then}
use Rattle.meaning_forms.specs.Expression.{lvalue_of, names_of, callee_bound, receiver, parameter_types, constructor_types, function_named}
use Rattle.region_forms.specs.Form.{Place, arguments_from, Region, op, evaluate, store, branch, regions_from, in_order}
use Rattle.region_forms.specs.LowerExpression.{Lowering, Lowered, LoweredArguments, LoweredCall, variable_type, variable_root, named_place, place_of, has_call, some_call, both, stored_in, truth_of, call_of, handler_arguments, int_passed, address_passed, refers, lower, lower_arguments, dropped, lower_store, constructor_chosen, lower_construct}
use Rattle.machine_forms.specs.Kept.{root_is, arguments_take, value_takes}
use Rattle.source_bounds.specs.KeptChoice.{region_takes, some_take}
use Rattle.source_bounds.specs.KeptVariables.{is_local, begins_at, receiver_binds, unless_given, expression_binds, arguments_bind, construction_binds}
use Rattle.source_bounds.proofs.KeptChoice.{or_false, or_behind, both_or}

-- ---- truths

last_false : (a : Bool) → ((a || false) || false) ≡ a
last_false true = refl
last_false false = refl

swapped : (a b c : Bool) → (a || (b || c)) ≡ (b || (a || c))
swapped true true c = refl
swapped true false c = refl
swapped false b c = refl

neither : (a b : Bool) → (a || b) ≡ false → (a ≡ false) × (b ≡ false)
neither true b e = absurd (cc e)
neither false b e = (refl, e)

none_or : {a b : Bool} → a ≡ false → b ≡ false → (a || b) ≡ false
none_or {a} {b} e f = ap (λ t. t || b) e ∙ f

-- regions take a slot's address
abbrev pub list_takes : ℕ → List Region → Bool
list_takes s rs = some_take s (regions_from rs)

pub lists_take : (s : ℕ) (a b : List Region) → list_takes s (a ++ b) ≡ (list_takes s a || list_takes s b)
lists_take s [] b = refl
lists_take s (r ∷ a) b = ap (λ t. region_takes s r || t) (lists_take s a b) ∙ sym (or_behind (region_takes s r) (list_takes s a) (list_takes s b))

pub one_takes : (s : ℕ) (a : List Region) (r : Region) → list_takes s (a ++ r ∷ []) ≡ (list_takes s a || region_takes s r)
one_takes s a r = lists_take s a (r ∷ []) ∙ ap (λ t. list_takes s a || t) (or_false (region_takes s r))

-- ---- one int variable

module _ (l : Lowering) (v : ℕ) (int : variable_type l v ≡ Int) where
  -- its slot
  abbrev pub slot : ℕ
  slot = l.first_variable + v

  pub same_slot : (m : ℕ) → (l.first_variable + m == slot) ≡ (m == v)
  same_slot m = by (m == v) refl
    where
      by : (b : Bool) → (m == v) ≡ b → (l.first_variable + m == slot) ≡ b
      by true e = grind (arith, nat_tests, e)
      by false e = grind (arith, nat_tests, e)

  root_elsewhere : (t : Ty) (m : ℕ) → (m == slot) ≡ false → root_is slot (variable_root t m) ≡ false
  root_elsewhere (IntRef const) m e = refl
  root_elsewhere (ObjectRef const k) m e = refl
  root_elsewhere t m e = e

  local_takes : (m : ℕ) → root_is slot (variable_root (variable_type l m) (l.first_variable + m)) ≡ (m == v)
  local_takes m = by (m == v) refl
    where
      by : (b : Bool) → (m == v) ≡ b → root_is slot (variable_root (variable_type l m) (l.first_variable + m)) ≡ b
      by true e =
          let same : m ≡ v = grind (arith, nat_tests, e) in
          let type : variable_type l m ≡ Int = ap (variable_type l) same ∙ int in
          ap (λ t. root_is slot (variable_root t (l.first_variable + m))) type ∙ (same_slot m ∙ e)
      by false e = root_elsewhere (variable_type l m) (l.first_variable + m) (same_slot m ∙ e)

  named_takes : (b : Bound) → root_is slot (named_place l b).root ≡ is_local v b
  named_takes (Global g) = refl
  named_takes (Local m) = local_takes m
  named_takes (Field k i) = refl
  named_takes b = refl

  pub place_takes : (names : List Name) → root_is slot (place_of l names).root ≡ begins_at v names
  place_takes [] = refl
  place_takes (x ∷ names) = named_takes x.bound

  -- ---- expressions

  -- without calls none is bound
  mutual
    pub quiet_binds : (e : Expression) → has_call e ≡ false → expression_binds l.program v e ≡ false
    quiet_binds (number z place) h = refl
    quiet_binds (path names) h = refl
    quiet_binds (paren e place) h = quiet_binds e h
    quiet_binds (unary o e place) h = quiet_binds e h
    quiet_binds (binary o a b) h = let parts = neither (has_call a) (has_call b) h in none_or (quiet_binds a parts.0) (quiet_binds b parts.1)
    quiet_binds (call names es) h = absurd (cc h)
    quiet_binds (std_call n es place) h = absurd (cc h)

  value_both : (o : BinaryOp) (c : Bool) (t : ℕ) (a : Lowered) (b : ℕ → Lowered) → value_takes slot (both o c t a b).value ≡ false
  value_both o false t a b = refl
  value_both And true t a b = refl
  value_both Or true t a b = refl
  value_both o true t a b = refl

  -- no value takes an address: calls stand in operations of their own
  value_free : (e : Expression) (t : ℕ) → value_takes slot (lower l e t).value ≡ false
  value_free (number z place) t = refl
  value_free (path names) t = refl
  value_free (paren e place) t = value_free e t
  value_free (unary o e place) t = refl
  value_free (binary o a b) t = value_both o (has_call b) t (lower l a t) (λ u. lower l b u)
  value_free (call names es) t = refl
  value_free (std_call n es place) t = refl

  both_take : (o : BinaryOp) (c : Bool) (t : ℕ) (a : Lowered) (b : ℕ → Lowered) (left right : Bool) → list_takes slot a.before ≡ left → value_takes slot a.value ≡ false →
      ((u : ℕ) → list_takes slot (b u).before ≡ right) → (c ≡ false → right ≡ false) → list_takes slot (both o c t a b).before ≡ (left || right)
  both_take o false t a b left right h free k quiet = h ∙ sym (ap (λ r. left || r) (quiet refl) ∙ or_false left)
  both_take And true t a b left right h free k quiet =
      let last : Region = stored_in t (truth_of (b t).value) in
      lists_take slot a.before (branch a.value (in_order ((b t).before ++ last ∷ [])) _ ∷ [])
      ∙ both_or h (last_false (list_takes slot ((b t).before ++ last ∷ [])) ∙ (one_takes slot (b t).before last ∙ (or_false (list_takes slot (b t).before) ∙ k t)))
  both_take Or true t a b left right h free k quiet =
      let last : Region = stored_in t (truth_of (b t).value) in
      lists_take slot a.before (branch a.value _ (in_order ((b t).before ++ last ∷ [])) ∷ [])
      ∙ both_or h (or_false (list_takes slot ((b t).before ++ last ∷ [])) ∙ (one_takes slot (b t).before last ∙ (or_false (list_takes slot (b t).before) ∙ k t)))
  both_take o true t a b left right h free k quiet =
      lists_take slot a.before (stored_in t a.value ∷ (b (t + 1)).before) ∙ both_or h (ap (λ r. r || list_takes slot (b (t + 1)).before) free ∙ k (t + 1))

  -- what comes before arguments, and the arguments
  abbrev arguments_of : LoweredArguments → Bool
  arguments_of x = list_takes slot x.before || arguments_take slot (arguments_from x.arguments)

  abbrev call_takes : LoweredCall → Bool
  call_takes c = list_takes slot c.before || arguments_take slot (arguments_from c.arguments)

  handler_free : (o : Option ℕ) → arguments_take slot (arguments_from (handler_arguments o)) ≡ false
  handler_free None = refl
  handler_free (Some n) = refl

  given_takes : (b : Bound) (object : List Name) (es : Expressions) (given : LoweredArguments) (bound : Bool) → arguments_of given ≡ bound →
      call_takes (call_of l b object es given) ≡ (receiver_binds v b object || unless_given b bound)
  given_takes (BuiltinBound SetTerminate) object es given bound h = handler_free (function_named es)
  given_takes (BuiltinBound SetUnexpected) object es given bound h = handler_free (function_named es)
  given_takes (Method k i) object es given bound h =
      swapped (list_takes slot given.before) (root_is slot (place_of l object).root) (arguments_take slot (arguments_from given.arguments)) ∙ both_or (place_takes object) h
  given_takes b object es given bound h = h

  passed_take : (c : Bool) (t : ℕ) (a : Lowered) (rest : ℕ → LoweredArguments) (left right : Bool) → list_takes slot a.before ≡ left → value_takes slot a.value ≡ false →
      ((u : ℕ) → arguments_of (rest u) ≡ right) → (c ≡ false → (u : ℕ) → list_takes slot (rest u).before ≡ false) → arguments_of (int_passed c t a rest) ≡ (left || right)
  passed_take false t a rest left right h free k quiet =
      both_or h (sym (ap (λ r. r || arguments_take slot (arguments_from (rest a.next).arguments)) (quiet refl a.next)) ∙ k a.next)
  passed_take true t a rest left right h free k quiet =
      ap (λ r. r || arguments_take slot (arguments_from (rest (t + 1)).arguments))
      (lists_take slot a.before (stored_in t a.value ∷ (rest (t + 1)).before) ∙ both_or h (ap (λ r. r || list_takes slot (rest (t + 1)).before) free))
      ∙ (or_behind left (list_takes slot (rest (t + 1)).before) (arguments_take slot (arguments_from (rest (t + 1)).arguments)) ∙ ap (λ r. left || r) (k (t + 1)))

  either_takes : (by_address : Bool) (x y : LoweredArguments) (left right other : Bool) → arguments_of x ≡ (left || other) → arguments_of y ≡ (right || other) →
      arguments_of (if by_address then x else y) ≡ ((if by_address then left else right) || other)
  either_takes true x y left right other h k = h
  either_takes false x y left right other h k = k

  either_free : (by_address : Bool) (x y : LoweredArguments) → list_takes slot x.before ≡ false → list_takes slot y.before ≡ false → list_takes slot (if by_address then x else y).before ≡ false
  either_free true x y h k = h
  either_free false x y h k = k

  passed_free : (c : Bool) (t : ℕ) (a : Lowered) (rest : ℕ → LoweredArguments) → c ≡ false → list_takes slot a.before ≡ false → list_takes slot (int_passed c t a rest).before ≡ false
  passed_free false t a rest e h = h
  passed_free true t a rest e h = absurd (cc e)

  -- no object is named
  nobody : (b : Bound) (bound : Bool) → (receiver_binds v b [] || bound) ≡ bound
  nobody (Method k i) bound = refl
  nobody b bound = refl

  mutual
    pub lowered_takes : (e : Expression) (t : ℕ) → list_takes slot (lower l e t).before ≡ expression_binds l.program v e
    lowered_takes (number z place) t = refl
    lowered_takes (path names) t = refl
    lowered_takes (paren e place) t = lowered_takes e t
    lowered_takes (unary o e place) t = lowered_takes e t
    lowered_takes (binary o a b) t =
        both_take o (has_call b) t (lower l a t) (λ u. lower l b u) (expression_binds l.program v a) (expression_binds l.program v b) (lowered_takes a t) (value_free a t) (λ u. lowered_takes b u)
        (quiet_binds b)
    lowered_takes (call names es) t =
        let types = parameter_types l.program (callee_bound names) in
        let given = lower_arguments l es types t in
        let c = call_of l (callee_bound names) (receiver names) es given in
        one_takes slot c.before _ ∙ given_takes (callee_bound names) (receiver names) es given (arguments_bind l.program v es types) (lowered_arguments_take es types t)
    lowered_takes (std_call n es place) t =
        let given = lower_arguments l es [] t in
        let c = call_of l n.bound [] es given in
        one_takes slot c.before _ ∙ (given_takes n.bound [] es given (arguments_bind l.program v es []) (lowered_arguments_take es [] t) ∙ nobody n.bound (unless_given n.bound (arguments_bind l.program v es [])))

    pub lowered_arguments_take : (es : Expressions) (types : List Ty) (t : ℕ) → arguments_of (lower_arguments l es types t) ≡ arguments_bind l.program v es types
    lowered_arguments_take no_expressions types t = refl
    lowered_arguments_take (expression_then e es) types t =
        let p = place_of l (names_of (lvalue_of e)) in
        let rest = lower_arguments l es (drop 1 types) t in
        either_takes (refers types) (address_passed p rest) (int_passed (some_call es) t (lower l e t) (λ u. lower_arguments l es (drop 1 types) u))
        (begins_at v (names_of (lvalue_of e))) (expression_binds l.program v e) (arguments_bind l.program v es (drop 1 types))
        (swapped (list_takes slot rest.before) (root_is slot p.root) (arguments_take slot (arguments_from rest.arguments)) ∙ both_or (place_takes (names_of (lvalue_of e))) (lowered_arguments_take es (drop 1 types) t))
        (passed_take (some_call es) t (lower l e t) (λ u. lower_arguments l es (drop 1 types) u) (expression_binds l.program v e) (arguments_bind l.program v es (drop 1 types)) (lowered_takes e t) (value_free e t)
        (λ u. lowered_arguments_take es (drop 1 types) u) (λ none u. quiet_arguments es (drop 1 types) u none))

    quiet_arguments : (es : Expressions) (types : List Ty) (t : ℕ) → some_call es ≡ false → list_takes slot (lower_arguments l es types t).before ≡ false
    quiet_arguments no_expressions types t h = refl
    quiet_arguments (expression_then e es) types t h =
        let parts = neither (has_call e) (some_call es) h in
        either_free (refers types) (address_passed (place_of l (names_of (lvalue_of e))) (lower_arguments l es (drop 1 types) t)) (int_passed (some_call es) t (lower l e t) (λ u. lower_arguments l es (drop 1 types) u))
        (quiet_arguments es (drop 1 types) t parts.1) (passed_free (some_call es) t (lower l e t) (λ u. lower_arguments l es (drop 1 types) u) parts.1 (lowered_takes e t ∙ quiet_binds e parts.0))

  -- an expression for its effects, and one whose value is stored
  pub dropped_take : (e : Expression) (t : ℕ) → list_takes slot (dropped l e t) ≡ expression_binds l.program v e
  dropped_take (call names es) t =
      let types = parameter_types l.program (callee_bound names) in
      let given = lower_arguments l es types t in
      let c = call_of l (callee_bound names) (receiver names) es given in
      one_takes slot c.before _ ∙ given_takes (callee_bound names) (receiver names) es given (arguments_bind l.program v es types) (lowered_arguments_take es types t)
  dropped_take (std_call n es place) t =
      let given = lower_arguments l es [] t in
      let c = call_of l n.bound [] es given in
      one_takes slot c.before _ ∙ (given_takes n.bound [] es given (arguments_bind l.program v es []) (lowered_arguments_take es [] t) ∙ nobody n.bound (unless_given n.bound (arguments_bind l.program v es [])))
  dropped_take (paren e place) t = dropped_take e t
  dropped_take e t =
      one_takes slot (lower l e t).before (op (evaluate (lower l e t).value)) ∙ (ap (λ r. list_takes slot (lower l e t).before || r) (value_free e t) ∙ (or_false (list_takes slot (lower l e t).before) ∙ lowered_takes e t))

  pub valued_take : (e : Expression) (p : Place) (t : ℕ) → list_takes slot ((lower l e t).before ++ op (store p (lower l e t).value) ∷ []) ≡ expression_binds l.program v e
  valued_take e p t =
      one_takes slot (lower l e t).before (op (store p (lower l e t).value)) ∙ (ap (λ r. list_takes slot (lower l e t).before || r) (value_free e t) ∙ (or_false (list_takes slot (lower l e t).before) ∙ lowered_takes e t))

  pub stored_take : (e : Expression) (p : Place) (t : ℕ) → list_takes slot (lower_store l e p t) ≡ expression_binds l.program v e
  stored_take (call names es) p t =
      let types = parameter_types l.program (callee_bound names) in
      let given = lower_arguments l es types t in
      let c = call_of l (callee_bound names) (receiver names) es given in
      one_takes slot c.before _ ∙ given_takes (callee_bound names) (receiver names) es given (arguments_bind l.program v es types) (lowered_arguments_take es types t)
  stored_take (std_call n es place) p t =
      let given = lower_arguments l es [] t in
      let c = call_of l n.bound [] es given in
      one_takes slot c.before _ ∙ (given_takes n.bound [] es given (arguments_bind l.program v es []) (lowered_arguments_take es [] t) ∙ nobody n.bound (unless_given n.bound (arguments_bind l.program v es [])))
  stored_take (paren e place) p t = stored_take e p t
  stored_take e p t = valued_take e p t

  -- an object is built in a place
  pub construction_takes : (k : ℕ) (es : Expressions) (p : Place) (t : ℕ) → list_takes slot (lower_construct l k es p t) ≡ (root_is slot p.root || construction_binds l v k es)
  construction_takes k es p t =
      let types = constructor_types l.program k (constructor_chosen l k es) in
      let given = lower_arguments l es types t in
      one_takes slot given.before _ ∙ (swapped (list_takes slot given.before) (root_is slot p.root) (arguments_take slot (arguments_from given.arguments)) ∙ ap (λ r. root_is slot p.root || r) (lowered_arguments_take es types t))
