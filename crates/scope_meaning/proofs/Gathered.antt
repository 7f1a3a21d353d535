-- Arguments that are gathered from left to right.
use Rattle.std.proofs.Common.{◌≡◌, ◌∙◌, List, [], ◌∷◌, ◌++◌, drop, refl, ap, sym, append_assoc}
use Rattle.cxx_ast.specs.declared.types.Ty.{Ty}
use Rattle.cxx_ast.specs.Plain.{Expression, Expressions, expression_then}
use Rattle.meaning_forms.specs.World.{World}
use Rattle.meaning_forms.specs.Context.{Context}
use Rattle.meaning_forms.specs.Outcome.{Result, done, stopped, pure, continued, ◌>>=◌}
use Rattle.meaning_forms.specs.Running.{Running, Argument}
use Rattle.meaning_forms.specs.Frame.{Frame}
use Rattle.meaning_forms.specs.Expression.{passed, value_of, arguments}
use Rattle.scope_world.specs.declared.outcome.Halt.{Halt}
use Rattle.scope_world.specs.Gives.{Halts}
use Rattle.scope_flow.proofs.Passing.{halts_continued}

-- those gathered so far, and then those that a computation gives
abbrev pub gathered : List Argument → Result (List Argument) → Result (List Argument)
gathered given m = continued m (λ more. pure (given ++ more))

pub none_gathered : (m : Result (List Argument)) → m ≡ gathered [] m
none_gathered (done given w) = refl
none_gathered (stopped s w) = refl

one_more : (given : List Argument) (a : Argument) (m : Result (List Argument)) → gathered given (continued m (λ more. pure (a ∷ more))) ≡ gathered (given ++ a ∷ []) m
one_more given a (done more w) = ap (λ all. done all w) (sym (append_assoc given (a ∷ []) more))
one_more given a (stopped s w) = refl

-- one more is passed
pub gathered_more : (r : Running) (f : Frame) (e : Expression) (es : Expressions) (types : List Ty) (c : Context) (w w' : World) (given : List Argument) (a : Argument)
    → passed r f types e (value_of r f e c) w ≡ done a w' → gathered given (arguments r f (expression_then e es) types c w) ≡ gathered (given ++ a ∷ []) (arguments r f es (drop 1 types) c w')
gathered_more r f e es types c w w' given a h =
    ap (λ m. gathered given (continued m (λ a. arguments r f es (drop 1 types) c >>= (λ more. pure (a ∷ more))))) h
    ∙ one_more given a (arguments r f es (drop 1 types) c w')

-- one that is stopped stops them all
pub gathered_halted : (r : Running) (f : Frame) (e : Expression) (es : Expressions) (types : List Ty) (c : Context) (w w' : World) (given : List Argument) (h : Halt)
    → Halts (passed r f types e (value_of r f e c) w) h w' → Halts (gathered given (arguments r f (expression_then e es) types c w)) h w'
gathered_halted r f e es types c w w' given h g =
    halts_continued (arguments r f (expression_then e es) types c w) (λ more. pure (given ++ more)) h w'
    (halts_continued (passed r f types e (value_of r f e c) w) (λ a. arguments r f es (drop 1 types) c >>= (λ more. pure (a ∷ more))) h w' g)
