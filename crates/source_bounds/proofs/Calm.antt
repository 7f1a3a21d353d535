-- What becomes of statements that declare no object, throw nothing and try nothing has no landing pad.
use Rattle.std.proofs.Common.{◌≡◌, ◌+◌, ℕ, Bool, true, false, ◌||◌, List, [], ◌∷◌, ◌++◌, drop, length, Option, Some, None, refl, if◌then◌else◌}
use Rattle.cxx_ast.specs.declared.declaration.FuncKind.{FuncKind}
use Rattle.cxx_ast.specs.declared.declaration.FuncKind.TheVariants.{Constructor, Destructor}
use Rattle.cxx_ast.specs.declared.name.Bound.{Bound}
use Rattle.cxx_ast.specs.declared.name.Bound.TheVariants.{Builtin as BuiltinBound}
use Rattle.cxx_ast.specs.declared.name.Builtin.TheVariants.{SetTerminate, SetUnexpected}
use Rattle.cxx_ast.specs.declared.name.Name.{Name}
use Rattle.cxx_ast.specs.declared.types.Ty.{Ty}
use Rattle.cxx_ast.specs.declared.expression.BinaryOp.{BinaryOp}
use Rattle.cxx_ast.specs.declared.expression.BinaryOp.TheVariants.{And, Or}
use Rattle.cxx_ast.specs.Plain.{Checked, Expression, number, path, paren, unary, binary, call, std_call, Expressions, no_expressions, expression_then, Statement, block, empty, if_else, while, return, break, continue, throw, try, assign, evaluate as evaluate_statement, local_int, local_ref, local_object, Else, no_else, else_do, Statements, no_statements, statement_then, Specification, Function}
use Rattle.meaning_forms.specs.Call.{statements_in}
use Rattle.meaning_forms.specs.Expression.{lvalue_of, names_of, callee_bound, parameter_types}
use Rattle.meaning_forms.specs.Frame.{local_number}
use Rattle.region_forms.specs.Form.{Place, Region, op, branch, evaluate, store, regions_from, in_order}
use Rattle.region_forms.specs.Layout.{Layout}
use Rattle.region_forms.specs.LowerExpression.{Lowering, Lowered, LoweredArguments, result_slot, first_temporary, slot_place, has_call, some_call, both, given_before, int_passed, address_passed, refers, place_of, lower, lower_arguments, dropped, lower_store}
use Rattle.region_forms.specs.LowerProgram.{limited, last_result, body_of, lowering, declared_function}
use Rattle.region_forms.specs.LowerStatement.{variable_slot, returning, initialised, bound_to, looping, nothing_more, statement, otherwise, statements}
use Rattle.region_forms.specs.Numbering.{declared_in, variables_of}
use Rattle.linear_forms.specs.Frame.{has_pad, some_has_pad}
use Rattle.source_bounds.specs.KeptFrames.{IsCalm, ElseIsCalm, AreCalm, BodyIsCalm, IsOrdinary, IsPlain}

-- regions without a landing pad
abbrev Unpadded : List Region → Type 0
Unpadded rs = some_has_pad (regions_from rs) ≡ false

neither : (a b : Bool) → a ≡ false → b ≡ false → (a || b) ≡ false
neither false b h k = k
neither true b h k = absurd (cc h)

first_of : (a b : Bool) → (a || b) ≡ false → a ≡ false
first_of false b h = refl
first_of true b h = absurd (cc h)

second_of : (a b : Bool) → (a || b) ≡ false → b ≡ false
second_of false b h = h
second_of true b h = absurd (cc h)

behind : (rs others : List Region) → Unpadded rs → Unpadded others → Unpadded (rs ++ others)
behind [] others h k = k
behind (r ∷ rs) others h k =
    let here = first_of (has_pad r) (some_has_pad (regions_from rs)) h in
    let rest = behind rs others (second_of (has_pad r) (some_has_pad (regions_from rs)) h) k in
    neither (has_pad r) (some_has_pad (regions_from (rs ++ others))) here rest

one : (r : Region) → has_pad r ≡ false → Unpadded (r ∷ [])
one r h = neither (has_pad r) false h refl

with_last : (rs : List Region) (r : Region) → Unpadded rs → has_pad r ≡ false → Unpadded (rs ++ r ∷ [])
with_last rs r h k = behind rs (r ∷ []) h (one r k)

-- two operands
both_quiet : (o : BinaryOp) (calls : Bool) (t : ℕ) (a : Lowered) (b : ℕ → Lowered) → Unpadded a.before → ((u : ℕ) → Unpadded (b u).before) → Unpadded (both o calls t a b).before
both_quiet o false t a b h k = h
both_quiet And true t a b h k = with_last a.before _ h (neither _ false (with_last (b t).before _ (k t) refl) refl)
both_quiet Or true t a b h k = with_last a.before _ h (with_last (b t).before _ (k t) refl)
both_quiet o true t a b h k = behind a.before _ h (k (t + 1))

-- what comes before a call
given_quiet : (b : Bound) (given : LoweredArguments) → Unpadded given.before → Unpadded (given_before b given)
given_quiet (BuiltinBound SetTerminate) given h = refl
given_quiet (BuiltinBound SetUnexpected) given h = refl
given_quiet b given h = h

-- an argument with those behind it
passed_quiet : (calls : Bool) (t : ℕ) (a : Lowered) (rest : ℕ → LoweredArguments) → Unpadded a.before → ((u : ℕ) → Unpadded (rest u).before) → Unpadded (int_passed calls t a rest).before
passed_quiet false t a rest h k = h
passed_quiet true t a rest h k = behind a.before _ h (k (t + 1))

either : (by_address : Bool) (x y : LoweredArguments) → Unpadded x.before → Unpadded y.before → Unpadded (if by_address then x else y).before
either true x y h k = h
either false x y h k = k

mutual
  lowered : (l : Lowering) (e : Expression) (t : ℕ) → Unpadded (lower l e t).before
  lowered l (number v place) t = refl
  lowered l (path names) t = refl
  lowered l (paren e place) t = lowered l e t
  lowered l (unary o e place) t = lowered l e t
  lowered l (binary o a b) t = both_quiet o (has_call b) t (lower l a t) (λ u. lower l b u) (lowered l a t) (λ u. lowered l b u)
  lowered l (call names es) t =
      let types = parameter_types l.program (callee_bound names) in
      with_last (given_before (callee_bound names) (lower_arguments l es types t)) _ (given_quiet (callee_bound names) (lower_arguments l es types t) (lowered_arguments l es types t)) refl
  lowered l (std_call n es place) t =
      with_last (given_before n.bound (lower_arguments l es [] t)) _ (given_quiet n.bound (lower_arguments l es [] t) (lowered_arguments l es [] t)) refl

  lowered_arguments : (l : Lowering) (es : Expressions) (types : List Ty) (t : ℕ) → Unpadded (lower_arguments l es types t).before
  lowered_arguments l no_expressions types t = refl
  lowered_arguments l (expression_then e es) types t =
      either (refers types) (address_passed (place_of l (names_of (lvalue_of e))) (lower_arguments l es (drop 1 types) t))
      (int_passed (some_call es) t (lower l e t) (λ u. lower_arguments l es (drop 1 types) u))
      (lowered_arguments l es (drop 1 types) t)
      (passed_quiet (some_call es) t (lower l e t) (λ u. lower_arguments l es (drop 1 types) u) (lowered l e t) (λ u. lowered_arguments l es (drop 1 types) u))

-- an expression for its effects, and one whose value is stored
evaluated : (x : Lowered) → Unpadded x.before → Unpadded (x.before ++ op (evaluate x.value) ∷ [])
evaluated x h = with_last x.before (op (evaluate x.value)) h refl

valued : (x : Lowered) (p : Place) → Unpadded x.before → Unpadded (x.before ++ op (store p x.value) ∷ [])
valued x p h = with_last x.before _ h refl

dropped_quiet : (l : Lowering) (e : Expression) (t : ℕ) → Unpadded (dropped l e t)
dropped_quiet l (call names es) t =
    let types = parameter_types l.program (callee_bound names) in
    with_last (given_before (callee_bound names) (lower_arguments l es types t)) _ (given_quiet (callee_bound names) (lower_arguments l es types t) (lowered_arguments l es types t)) refl
dropped_quiet l (std_call n es place) t =
    with_last (given_before n.bound (lower_arguments l es [] t)) _ (given_quiet n.bound (lower_arguments l es [] t) (lowered_arguments l es [] t)) refl
dropped_quiet l (paren e place) t = dropped_quiet l e t
dropped_quiet l e t = evaluated (lower l e t) (lowered l e t)

stored_quiet : (l : Lowering) (e : Expression) (p : Place) (t : ℕ) → Unpadded (lower_store l e p t)
stored_quiet l (call names es) p t =
    let types = parameter_types l.program (callee_bound names) in
    with_last (given_before (callee_bound names) (lower_arguments l es types t)) _ (given_quiet (callee_bound names) (lower_arguments l es types t) (lowered_arguments l es types t)) refl
stored_quiet l (std_call n es place) p t =
    with_last (given_before n.bound (lower_arguments l es [] t)) _ (given_quiet n.bound (lower_arguments l es [] t) (lowered_arguments l es [] t)) refl
stored_quiet l (paren e place) p t = stored_quiet l e p t
stored_quiet l e p t = valued (lower l e t) p (lowered l e t)

-- ---- statements

returning_quiet : (l : Lowering) (e : Option Expression) (d : ℕ) → Unpadded (returning l e d)
returning_quiet l None d = refl
returning_quiet l (Some e) d = with_last (lower_store l e (slot_place (result_slot l)) (first_temporary l)) _ (stored_quiet l e (slot_place (result_slot l)) (first_temporary l)) refl

initialised_quiet : (l : Lowering) (n : Name) (e : Option Expression) → Unpadded (initialised l n e)
initialised_quiet l n None = refl
initialised_quiet l n (Some e) = stored_quiet l e (slot_place (variable_slot l (local_number n.bound))) (first_temporary l)

bound_quiet : (l : Lowering) (n : Option Name) (p : Place) → Unpadded (bound_to l n p)
bound_quiet l None p = refl
bound_quiet l (Some n) p = refl

loop_quiet : (calls : Bool) (x : Lowered) (body : ℕ → Region) (d : ℕ) → Unpadded x.before → ((b : ℕ) → has_pad (body b) ≡ false) → has_pad (looping calls x body d) ≡ false
loop_quiet false x body d h k = k (d + 2)
loop_quiet true x body d h k = with_last x.before _ h (neither (has_pad (body (d + 4))) false (k (d + 4)) refl)

-- the rest of a block
abbrev Rest : (ℕ → List Region) → Type 0
Rest rest = (d : ℕ) → Unpadded (rest d)

mutual
  calm : (l : Lowering) (s : Statement) (rest : ℕ → List Region) (i n d : ℕ) → IsCalm s → Rest rest → Unpadded (statement l s rest i n d)
  calm l (block ss) rest i n d h r = neither _ (some_has_pad (regions_from (rest d))) (all_calm l ss i n (d + 1) h) (r d)
  calm l empty rest i n d h r = r d
  calm l (if_else e s t) rest i n d h r =
      let x = lower l e (first_temporary l) in
      let both : Region = branch x.value (in_order (statement l s nothing_more i n (d + 2))) (in_order (otherwise l t i (n + length (declared_in s)) (d + 2))) in
      behind (x.before ++ both ∷ []) (rest d) (with_last x.before both (lowered l e (first_temporary l)) (neither (some_has_pad (regions_from (statement l s nothing_more i n (d + 2))))
      (some_has_pad (regions_from (otherwise l t i (n + length (declared_in s)) (d + 2)))) (calm l s nothing_more i n (d + 2) h.0 (λ b. refl)) (else_calm l t i (n + length (declared_in s)) (d + 2) h.1))) (r d)
  calm l (while e s) rest i n d h r =
      neither _ (some_has_pad (regions_from (rest d)))
      (loop_quiet (has_call e) (lower l e (first_temporary l)) (λ b. in_order (statement l s nothing_more (d + 1) n b)) d (lowered l e (first_temporary l)) (λ b. calm l s nothing_more (d + 1) n b h (λ c. refl))) (r d)
  calm l (return place e) rest i n d h r = returning_quiet l e d
  calm l (break place) rest i n d h r = refl
  calm l (continue place) rest i n d h r = refl
  calm l (throw place e) rest i n d h r = absurd h
  calm l (try ss hs) rest i n d h r = absurd h
  calm l (assign names e) rest i n d h r = behind (lower_store l e (place_of l names) (first_temporary l)) (rest d) (stored_quiet l e (place_of l names) (first_temporary l)) (r d)
  calm l (evaluate_statement e) rest i n d h r = behind (dropped l e (first_temporary l)) (rest d) (dropped_quiet l e (first_temporary l)) (r d)
  calm l (local_int x e) rest i n d h r = behind (initialised l x e) (rest d) (initialised_quiet l x e) (r d)
  calm l (local_ref x names) rest i n d h r = behind (bound_to l x.name (place_of l names)) (rest d) (bound_quiet l x.name (place_of l names)) (r d)
  calm l (local_object k x es) rest i n d h r = absurd h

  else_calm : (l : Lowering) (t : Else) (i n d : ℕ) → ElseIsCalm t → Unpadded (otherwise l t i n d)
  else_calm l no_else i n d h = refl
  else_calm l (else_do s) i n d h = calm l s nothing_more i n d h (λ b. refl)

  all_calm : (l : Lowering) (ss : Statements) (i n d : ℕ) → AreCalm ss → Unpadded (statements l ss i n d)
  all_calm l no_statements i n d h = refl
  all_calm l (statement_then s ss) i n d h =
      calm l s (λ b. statements l ss i (n + length (declared_in s)) b) i n d h.0 (λ b. all_calm l ss i (n + length (declared_in s)) b h.1)

body_calm : (l : Lowering) (b : Option Statements) (n d : ℕ) → BodyIsCalm b → Unpadded (statements l (statements_in b) 0 n d)
body_calm l None n d h = refl
body_calm l (Some ss) n d h = all_calm l ss 0 n d h

-- the body of a plain function
ordinary_calm : (l : Lowering) (kind : FuncKind) (k : ℕ) (f : Function) (d : ℕ) → IsOrdinary kind → BodyIsCalm f.body → Unpadded (body_of l kind k f d)
ordinary_calm l Constructor k f d o h = absurd o
ordinary_calm l Destructor k f d o h = absurd o
ordinary_calm l kind k f d o h = body_calm l f.body (length f.parameters) d h

limited_calm : (l : Lowering) (s : Option Specification) (act : ℕ → List Region) (d : ℕ) → s ≡ None → Rest act → has_pad (limited l s act d) ≡ false
limited_calm l None act d e h = h (d + 1)
limited_calm l (Some s) act d e h = absurd (cc e)

last_quiet : (l : Lowering) (is_main : Bool) → Unpadded (last_result l is_main)
last_quiet l false = refl
last_quiet l true = refl

pub plain_unpadded : (p : Checked) (layout : Layout) (is_member is_main : Bool) (k : ℕ) (f : Function) → IsPlain f → has_pad (declared_function p layout is_member is_main k f).body ≡ false
plain_unpadded p layout is_member is_main k f h =
    let l = lowering p layout is_member (variables_of f) in
    neither (has_pad (limited l f.specification (body_of l f.kind k f) 1)) (some_has_pad (regions_from (last_result l is_main)))
    (limited_calm l f.specification (body_of l f.kind k f) 1 h.unspecified (λ d. ordinary_calm l f.kind k f d h.kind h.body)) (last_quiet l is_main)
