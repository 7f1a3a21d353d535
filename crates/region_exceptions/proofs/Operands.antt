-- Throws with operands do the same.
use Rattle.std.proofs.Common.{◌≡◌, ℕ, ◌<◌, ℤ, Bool, List, [], ◌∷◌, ◌++◌, Option, Some, None, refl, sym, subst, arith, length}
use Rattle.cxx_ast.specs.declared.name.Bound.{Bound}
use Rattle.cxx_ast.specs.declared.name.Bound.TheVariants.{Free, Global, Local, Field, Class, Func, Method, Builtin as BuiltinBound}
use Rattle.cxx_ast.specs.declared.name.Builtin.TheVariants.{WriteInt, ReadByte, Exit, Module, Cancel, Terminate, SetTerminate, SetUnexpected, Uncaught, BadException}
use Rattle.cxx_ast.specs.declared.name.Name.{Name}
use Rattle.cxx_ast.specs.Plain.{Checked, Expression, number, path, paren, unary, binary, call as call_tree, std_call, Expressions}
use Rattle.meaning_forms.specs.Class.{ObjectType, int_type, class_type}
use Rattle.meaning_forms.specs.World.{Reference, part_of}
use Rattle.meaning_forms.specs.Context.{Context as SourceContext}
use Rattle.meaning_forms.specs.Frame.{Frame as SourceFrame, lvalue}
use Rattle.meaning_forms.specs.Outcome.{Action as SourceAction}
use Rattle.meaning_forms.specs.Running.{Running as SourceRunning, Argument as SourceArgument, Callee, Constructor, constructor, declared, implicit_default, implicit_copy}
use Rattle.meaning_forms.specs.Construct.{copy_constructor}
use Rattle.meaning_forms.specs.Expression.{value_of, lvalue_of, callee_bound}
use Rattle.meaning_forms.specs.Throw.{throw_new}
use Rattle.meaning_forms.specs.Statement.{int_thrown as source_int_thrown, object_thrown as source_object_thrown, call_thrown as source_call_thrown, part_thrown as source_part_thrown, lvalue_thrown as source_lvalue_thrown, operand_thrown as source_operand_thrown, throwing as source_throwing}
use Rattle.region_forms.specs.Form.{regions_from, op, store}
use Rattle.region_forms.specs.Laws.{CaughtListFollows}
use Rattle.region_forms.specs.Ending.{Running}
use Rattle.linear_simulation.specs.Watched.{watched_all as regions}
use Rattle.region_forms.specs.LowerExpression.{Lowering, result_slot, first_temporary, lvalue_type, lower, lower_construct, place_of}
use Rattle.region_forms.specs.LowerStatement.{thrown_place, copied, int_thrown, object_thrown, call_thrown, part_thrown, lvalue_thrown, operand_thrown, throwing}
use Rattle.region_simulation.specs.Reach.{KindsFit}
use Rattle.region_simulation.specs.Names.{AreNamed}
use Rattle.region_simulation.specs.Stands.{context_of}
use Rattle.region_simulation.specs.Alike.{Alike}
use Rattle.region_simulation.specs.Calls.{IsCallable}
use Rattle.region_simulation.specs.Typing.{IsTyped}
use Rattle.region_simulation.specs.Statements.{CanConstruct, PartCanBeThrown, LvalueCanBeThrown, CallCanBeThrown, CanBeThrown, CanThrow}
use Rattle.region_simulation.specs.Expressions.{source_running, SameBuiltins}
use Rattle.region_simulation.specs.Flows.{DoesAlike}
use Rattle.region_simulation.proofs.Keeping.{names_addressed}
use Rattle.region_simulation.proofs.Members.{refers_shaped}
use Rattle.region_simulation.proofs.Expressions.{expression_evaluates}
use Rattle.region_simulation.proofs.Standard.{builtins_same}
use Rattle.region_exceptions.specs.Same.{RunAlike}
use Rattle.region_exceptions.specs.Fares.{CallsFare}
use Rattle.region_exceptions.proofs.Faring.{faring_calls_are_barred}
use Rattle.region_exceptions.proofs.FaringTrees.{int_thrown_fares, lvalue_thrown_fares, object_thrown_fares}
use Rattle.region_exceptions.specs.Throws.{IsBuilt, BuildsAlike}
use Rattle.region_exceptions.specs.Operands.{LeavesUnbuilt, OperandsThrowAlike}
use Rattle.region_exceptions.proofs.Kept.{shaped_type}
use Rattle.region_exceptions.proofs.Modules.{modules_answer_alike}
use Rattle.region_exceptions.proofs.Throws.{throws_alike}
use Rattle.region_exceptions.proofs.Rethrows.{rethrows_alike}
use Rattle.region_exceptions.proofs.Building.{object_built, copy_built}
use Rattle.region_exceptions.proofs.Ints.{int_built}

-- a class whose constructor can be called is there
class_there : (p : Checked) (k : ℕ) (which : Constructor) → IsCallable p (constructor k which) → k < length p.classes
class_there p k (declared i) h = h.0
class_there p k implicit_default h = h.0
class_there p k implicit_copy h = h

module _ (laws : CaughtListFollows) (l : Lowering) (own : Option ℕ) (gives : Bool) (calls : Callee → Reference → List SourceArgument → SourceContext → SourceAction ℤ) (b : Running)
    (v : SourceFrame) (c : SourceContext) (same : RunAlike l.layout (source_running l calls) b) (fit : KindsFit l b.kinds)
    (fare : CallsFare (source_running l calls)) (leaves : (e : Expression) → LeavesUnbuilt c (value_of (source_running l calls) v e c)) (n i d : ℕ) where
  abbrev a : SourceRunning
  a = source_running l calls

  builtins : SameBuiltins l own calls b v c
  builtins = let h = modules_answer_alike laws l own calls b v c fit same in builtins_same l own calls b v c fit h.0 h.1

  int_builds : (e : Expression) → IsTyped l own v.variables e → BuildsAlike l own b v c int_type (source_int_thrown a v e c)
      ((lower l e (first_temporary l)).before ++ op (store (thrown_place l) (lower l e (first_temporary l)).value) ∷ [])
  int_builds e typed =
      int_built l own b v c (value_of a v e c) (lower l e (first_temporary l))
      (expression_evaluates l own calls b v c fit same.calls builtins e (first_temporary l) (omega arith) typed) (leaves e)

  int_case : (e : Expression) → IsTyped l own v.variables e → DoesAlike l own gives b v c n i d (throw_new a c (source_int_thrown a v e c)) (int_thrown l e)
  int_case e typed = throws_alike laws l own gives calls b v c same n i d int_type (source_int_thrown a v e c)
      ((lower l e (first_temporary l)).before ++ op (store (thrown_place l) (lower l e (first_temporary l)).value) ∷ []) tt (int_thrown_fares a v e c fare).at (int_builds e typed)

  object_case : (k : ℕ) (es : Expressions) → CanConstruct l own v.variables k es → DoesAlike l own gives b v c n i d (throw_new a c (source_object_thrown a v k es c)) (object_thrown l k es)
  object_case k es can =
      throws_alike laws l own gives calls b v c same n i d (class_type k) (source_object_thrown a v k es c) (lower_construct l k es (thrown_place l) (first_temporary l)) can.there (object_thrown_fares a v k es c fare).at
      (λ at w s e stands reach slot made unbuilt empty. object_built l own calls b v c fit same builtins at w s e stands reach slot (made, unbuilt.0) empty k can.there es can)

  -- what names stand for, of a type
  part_case : (e : Expression) (names : List Name) (t : ObjectType) → lvalue_type l names ≡ t → AreNamed l own v.variables names t → PartCanBeThrown l own v.variables e names t
      → DoesAlike l own gives b v c n i d (throw_new a c (source_lvalue_thrown a v e (Some names) c)) (part_thrown l e names t)
  part_case e names int_type is named can =
      throws_alike laws l own gives calls b v c same n i d int_type (source_lvalue_thrown a v e (Some names) c)
      ((lower l e (first_temporary l)).before ++ op (store (thrown_place l) (lower l e (first_temporary l)).value) ∷ [])
      tt (lvalue_thrown_fares a v e (Some names) c fare).at
      (λ at w s f stands reach slot made unbuilt empty.
      let x = names_addressed l own b.kinds v at c w s (result_slot l) (omega arith) fit reach stands names int_type named in
      let is_int = shaped_type l.program int_type (part_of w (lvalue l.program w v names)) (refers_shaped w stands.memory x.refers) in
      subst (λ u. Alike l.layout l.program at (first_temporary l) c w s (IsBuilt f int_type) (source_part_thrown a v e (lvalue l.program w v names) u c w)
      (regions b (regions_from ((lower l e (first_temporary l)).before ++ op (store (thrown_place l) (lower l e (first_temporary l)).value) ∷ [])) (context_of w.open_calls c) s))
      (sym is_int) (int_builds e can at w s f stands reach slot made unbuilt empty))
  part_case e names (class_type k) is named can =
      throws_alike laws l own gives calls b v c same n i d (class_type k) (source_lvalue_thrown a v e (Some names) c) (copied l k (thrown_place l) (place_of l names) ∷ [])
      (class_there l.program k (copy_constructor l.program k) can.1) (lvalue_thrown_fares a v e (Some names) c fare).at
      (λ at w s f stands reach slot made unbuilt empty.
      let x = names_addressed l own b.kinds v at c w s (result_slot l) (omega arith) fit reach stands names (class_type k) named in
      let is_class = shaped_type l.program (class_type k) (part_of w (lvalue l.program w v names)) (refers_shaped w stands.memory x.refers) in
      subst (λ u. Alike l.layout l.program at (first_temporary l) c w s (IsBuilt f (class_type k)) (source_part_thrown a v e (lvalue l.program w v names) u c w)
      (regions b (regions_from (copied l k (thrown_place l) (place_of l names) ∷ [])) (context_of w.open_calls c) s))
      (sym is_class) (copy_built l own calls b v c fit same builtins at w s f stands reach slot (made, unbuilt.0) empty k (class_there l.program k (copy_constructor l.program k) can.1) (faring_calls_are_barred a fare) names named can.1))

  lvalue_case : (e : Expression) (names : Option (List Name)) → LvalueCanBeThrown l own v.variables e names
      → DoesAlike l own gives b v c n i d (throw_new a c (source_lvalue_thrown a v e names c)) (lvalue_thrown l e names)
  lvalue_case e None can = int_case e can
  lvalue_case e (Some names) can = part_case e names (lvalue_type l names) refl can.0 can.1

  call_case : (f : Bound) (e : Expression) (es : Expressions) → CallCanBeThrown l own v.variables f e es
      → DoesAlike l own gives b v c n i d (throw_new a c (source_call_thrown a v f e es c)) (call_thrown l f e es)
  call_case (Class k) e es can = object_case k es can
  call_case (BuiltinBound BadException) e es can = object_case 0 es can
  call_case (BuiltinBound WriteInt) e es can = int_case e can
  call_case (BuiltinBound ReadByte) e es can = int_case e can
  call_case (BuiltinBound Exit) e es can = int_case e can
  call_case (BuiltinBound Module) e es can = int_case e can
  call_case (BuiltinBound Cancel) e es can = int_case e can
  call_case (BuiltinBound Terminate) e es can = int_case e can
  call_case (BuiltinBound SetTerminate) e es can = int_case e can
  call_case (BuiltinBound SetUnexpected) e es can = int_case e can
  call_case (BuiltinBound Uncaught) e es can = int_case e can
  call_case Free e es can = int_case e can
  call_case (Global k) e es can = int_case e can
  call_case (Local k) e es can = int_case e can
  call_case (Field j k) e es can = int_case e can
  call_case (Func k) e es can = int_case e can
  call_case (Method j k) e es can = int_case e can

  operand_case : (e : Expression) → CanBeThrown l own v.variables e → DoesAlike l own gives b v c n i d (throw_new a c (source_operand_thrown a v e c)) (operand_thrown l e)
  operand_case (call_tree names es) can = call_case (callee_bound names) (call_tree names es) es can
  operand_case (std_call f es place) can = call_case f.bound (std_call f es place) es can
  operand_case (number x place) can = lvalue_case (number x place) (lvalue_of (number x place)) can
  operand_case (path names) can = lvalue_case (path names) (lvalue_of (path names)) can
  operand_case (paren e place) can = lvalue_case (paren e place) (lvalue_of (paren e place)) can
  operand_case (unary o e place) can = lvalue_case (unary o e place) (lvalue_of (unary o e place)) can
  operand_case (binary o x y) can = lvalue_case (binary o x y) (lvalue_of (binary o x y)) can

  pub throwing_case : (e : Option Expression) → CanThrow l own v.variables e → DoesAlike l own gives b v c n i d (source_throwing a v e c) (throwing l e)
  throwing_case None can = rethrows_alike laws l own gives calls b v c same n i d
  throwing_case (Some e) can = operand_case e can

pub operands_throw_alike : CaughtListFollows → OperandsThrowAlike
operands_throw_alike laws l own gives call b v c same fit fare leaves n i d e can =
    throwing_case laws l own gives call b v c same fit fare leaves n i d e can
