-- How arguments and calls in memory are those that are lowered.
use Rattle.std.specs.Prelude.{ℕ, ◌+◌, ◌≡◌, Bool, true, false, List, [], ◌++◌, map, if◌then◌else◌}
use Rattle.cxx_ast.specs.declared.name.Bound.{Bound}
use Rattle.cxx_ast.specs.declared.name.Bound.TheVariants.{Builtin as BuiltinBound}
use Rattle.cxx_ast.specs.declared.name.Builtin.TheVariants.{SetTerminate, SetUnexpected}
use Rattle.cxx_ast.specs.declared.name.Name.{Name}
use Rattle.cxx_ast.specs.Plain.{Expression, Expressions, no_expressions, expression_then}
use Rattle.meaning_forms.specs.Expression.{callee_bound, lvalue_of, names_of, parameter_types, receiver}
use Rattle.region_forms.specs.Form.{Argument, Region}
use Rattle.region_forms.specs.LowerExpression.{Lowering, LoweredArguments, LoweredCall, place_of, has_call, lower, lower_arguments, call_of, address_passed, int_passed}
use Rattle.region_ir.specs.declared.value.Arg.{Arg as ArgTree}
use Rattle.region_ir.specs.declared.value.Callee.{Callee as CalleeValue}
use Rattle.region_ir.specs.declared.region.Region.{Region as RegionTree}
use Rattle.region_ir.specs.View.{argument_of, callee_of, region_of}

-- how many expressions make calls
abbrev pub calls_among : Expressions → ℕ
calls_among no_expressions = 0
calls_among (expression_then e es) = (if has_call e then 1 else 0) + calls_among es

-- set_terminate and set_unexpected take a function, which is not evaluated
abbrev pub takes_handler : Bound → Bool
takes_handler (BuiltinBound SetTerminate) = true
takes_handler (BuiltinBound SetUnexpected) = true
takes_handler _ = false

-- no arguments; the slots from t on are free
abbrev pub none_passed : ℕ → LoweredArguments
none_passed t = record { before = []; arguments = []; next = t }

-- one argument, for a reference or not, and stored or not
abbrev pub one_passed : Lowering → Bool → Bool → Expression → ℕ → LoweredArguments
one_passed l refers stored e t =
    if refers then address_passed (place_of l (names_of (lvalue_of e))) (none_passed t) else int_passed stored t (lower l e t) none_passed

-- a call of what `a.b.f` names
abbrev pub named_call : Lowering → List Name → Expressions → ℕ → LoweredCall
named_call l names es t =
    call_of l (callee_bound names) (receiver names) es (lower_arguments l es (parameter_types l.program (callee_bound names)) t)

-- a call of `std::` and a name
abbrev pub named_std_call : Lowering → Bound → Expressions → ℕ → LoweredCall
named_std_call l b es t = call_of l b [] es (lower_arguments l es [] t)

-- what comes before arguments is put behind other regions, and the arguments behind others
pub record Passes (x : LoweredArguments) (others : List Region) (now : List RegionTree) (first : List Argument) (given : List ArgTree) : Type 0 where
  pub put : map region_of now ≡ others ++ x.before
  pub passed : map argument_of given ≡ first ++ x.arguments

-- one argument, and the first slot that is free behind it
pub record PassesOne (x : LoweredArguments) (others : List Region) (now : List RegionTree) (first : List Argument) (given : List ArgTree) (free : ℕ) : Type 0 where
  pub pass : Passes x others now first given
  pub behind : free ≡ x.next

-- what comes before a call is put behind other regions; what is called, and its arguments
pub record CallLowers (x : LoweredCall) (others : List Region) (now : List RegionTree) (callee : CalleeValue) (given : List ArgTree) : Type 0 where
  pub put : map region_of now ≡ others ++ x.before
  pub called : callee_of callee ≡ x.callee
  pub passed : map argument_of given ≡ x.arguments
