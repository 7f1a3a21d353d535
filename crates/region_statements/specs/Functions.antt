-- Functions, and calls of them.
use Rattle.std.specs.Prelude.{◌≡◌, ℕ, ◌+◌, Bool, true, false, List, [], ◌∷◌, length, Option}
use Rattle.cxx_ast.specs.declared.types.Ty.{Ty}
use Rattle.cxx_ast.specs.declared.types.Ty.TheVariants.{Int}
use Rattle.cxx_ast.specs.declared.types.Param.{Param}
use Rattle.cxx_ast.specs.Plain.{Function}
use Rattle.meaning_forms.specs.Call.{statements_in}
use Rattle.meaning_forms.specs.Frame.{Variable}
use Rattle.meaning_forms.specs.World.{Reference}
use Rattle.region_forms.specs.LowerExpression.{Lowering}
use Rattle.region_simulation.specs.Statements.{DeclaresNext, declared_to, AreTypedStatements}

-- a function gives an int, or no value
abbrev pub gives_int : Ty → Bool
gives_int Int = true
gives_int _ = false

-- the parameters are the first variables, from the n-th on
abbrev pub AreDeclared : Lowering → ℕ → List Param → Type 0
AreDeclared l n [] = Unit {0}
AreDeclared l n (x ∷ xs) = DeclaresNext l n x.name x.ty × AreDeclared l (n + 1) xs

-- the variables in reach behind parameters, by what they stand for
abbrev pub all_declared_to : List Param → List Reference → List Variable → List Variable
all_declared_to [] rs xs = xs
all_declared_to (x ∷ params) [] xs = xs
all_declared_to (x ∷ params) (r ∷ rs) xs = all_declared_to params rs (declared_to x.name r xs)

-- parameters are the first variables, and the statements of the body are typed behind them, whatever they stand for
pub record IsTypedBody (l : Lowering) (own : Option ℕ) (f : Function) : Type 0 where
  pub parameters : AreDeclared l 0 f.parameters
  pub statements : (rs : List Reference) → length rs ≡ length f.parameters
      → AreTypedStatements l own (gives_int f.result) (statements_in f.body) (all_declared_to f.parameters rs []) (length f.parameters)
