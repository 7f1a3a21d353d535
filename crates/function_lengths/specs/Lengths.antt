-- How many words functions have.
use Rattle.std.specs.Prelude.{ℕ, ◌+◌, ◌*◌, ◌^◌, ◌<◌, ◌≤◌, Bool, ◌∷◌, length, Option, Some, None}
use Rattle.std.specs.List.{AllByRecursion}
use Rattle.cxx_ast.specs.declared.declaration.FuncKind.TheVariants.{Destructor}
use Rattle.cxx_ast.specs.Checked.{IsChecked}
use Rattle.cxx_ast.specs.Plain.{Checked, Function, Specification, listed, noexcept}
use Rattle.meaning_forms.specs.Class.{parts_of}
use Rattle.meaning_forms.specs.Call.{statements_in}
use Rattle.region_forms.specs.Form.{in_order}
use Rattle.region_forms.specs.LowerExpression.{Lowering}
use Rattle.region_forms.specs.LowerProgram.{limited, last_result, body_of}
use Rattle.machine_forms.specs.Routine.{routine_words}
use Rattle.machine_forms.specs.Emitted.{function_routine}
use Rattle.source_bounds.specs.Compiled.{unit_for}
use Rattle.source_bounds.specs.LeastTokens.{statements_tokens}
use Rattle.source_bounds.specs.RegionWords.{region_words}

-- what the extent of a specification has beside what is done in it: a pad where types are listed, a handler where it is `noexcept`
abbrev pub extent_words : Option Specification → ℕ
extent_words None = 0
extent_words (Some (listed types)) = 273
extent_words (Some (noexcept place b)) = 573

-- A destructor of class k has at most so many words, by the parts of the class, by the tokens of its statements and by its specification,
-- though a call of one of the runtime's own functions counts as 257.
abbrev pub DestructorsAreShort : Type 0
DestructorsAreShort = (l : Lowering) (is_main : Bool) (k : ℕ) (f : Function) →
    region_words (in_order (limited l f.specification (body_of l Destructor k f) 1 ∷ last_result l is_main)) ≤
    47 * length (parts_of l.program k) + 104 * statements_tokens (statements_in f.body) + extent_words f.specification + 4

-- A jump inside a function reaches fewer than 2^18 words either way. No function of a checked program has as many.
abbrev pub CheckedFunctionsAreShort : Type 0
CheckedFunctionsAreShort = (p : Checked) → IsChecked p → AllByRecursion (λ g. routine_words (function_routine g) < 2 ^ 18) (unit_for p).functions
