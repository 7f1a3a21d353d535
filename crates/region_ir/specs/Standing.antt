-- Where statements stand.
use Rattle.std.specs.Prelude.{ℕ, ◌+◌, Bool, true, false, [], Option, Some, None}
use Rattle.cxx_ast.specs.Plain.{Statement, return, break, continue, throw, local_object, Statements}
use Rattle.cxx_ast.specs.declared.types.Ty.{Ty}
use Rattle.region_forms.specs.Form.{Region}
use Rattle.region_forms.specs.LowerExpression.{Lowering}
use Rattle.region_forms.specs.LowerStatement.{variable_slot, caught_parameter, handler, statements, with_caught}

-- what stands behind a statement is never reached
abbrev pub leaves : Statement → Bool
leaves (return place e) = true
leaves (break place) = true
leaves (continue place) = true
leaves (throw place e) = true
leaves _ = false

-- the rest of the block is the scope of an object
abbrev pub opens : Statement → Bool
opens (local_object k x es) = true
opens _ = false

-- how many regions of a loop hold its body: one whose test makes calls holds the test too
abbrev pub loop_regions : Bool → ℕ
loop_regions true = 4
loop_regions false = 2

-- a handler with or without a type
abbrev pub handler_in : Lowering → Option Ty → Statements → (loop n d : ℕ) → Region
handler_in l None ss i n d = handler l [] (λ b. statements l ss i n b) d
handler_in l (Some t) ss i n d =
    handler l (caught_parameter l t (variable_slot l n)) (λ b. with_caught l t (variable_slot l n) (λ c. statements l ss i (n + 1) c) b) d
