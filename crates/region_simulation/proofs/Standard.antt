-- Each built-in function that neither raises nor terminates does the same.
use Rattle.std.proofs.Common.{◌≡◌, ℕ, ℤ, pos, negsuc, false, List, [], ◌∷◌, ◌++◌, Option, Some, None, refl, sym, ap, ◌∙◌, subst, arith, length}
use Rattle.std.specs.Prelude.{not, ◌==◌}
use Rattle.std.proofs.lemmas.Bool.Decides.{nat_tests}
use Rattle.cxx_ast.specs.declared.name.Builtin.TheVariants.{WriteInt, ReadByte, Exit, Module, Cancel, Terminate, SetTerminate, SetUnexpected, Uncaught, BadException}
use Rattle.cxx_ast.specs.Plain.{no_expressions, expression_then}
use Rattle.run_items.specs.declared.item.Item.TheVariants.{Line}
use Rattle.meaning_forms.specs.Arithmetic.{truth}
use Rattle.meaning_forms.specs.World.{World as SourceWorld, Reference}
use Rattle.meaning_forms.specs.Context.{Context as SourceContext}
use Rattle.meaning_forms.specs.Frame.{Frame as SourceFrame}
use Rattle.meaning_forms.specs.Running.{Argument as SourceArgument, Callee as SourceCallee}
use Rattle.meaning_forms.specs.Outcome.{done as source_done, ended, exit, cancelled, Action as SourceAction, pure as source_pure, stop as source_stop, emit, ◌>>◌}
use Rattle.meaning_forms.specs.Expression.{value_at, next_byte, is_travelling, function_named, count_of, arguments}
use Rattle.region_forms.specs.Form.{builtin, arguments_from}
use Rattle.region_forms.specs.World.{World, with_item}
use Rattle.region_forms.specs.Evaluation.{words_in}
use Rattle.region_forms.specs.Effect.{if_some, called, number_at, byte_of, bytes_after, some_travel}
use Rattle.region_forms.specs.Outcome.{stopped}
use Rattle.region_forms.specs.Ending.{Running, perform}
use Rattle.region_forms.specs.LowerExpression.{Lowering, slot_place, lower_arguments, handler_arguments}
use Rattle.region_simulation.specs.Reach.{KindsFit}
use Rattle.region_simulation.specs.Stands.{IsHandler, context_of}
use Rattle.region_simulation.specs.Typing.{types_for}
use Rattle.region_simulation.specs.Alike.{Alike}
use Rattle.region_simulation.specs.Expressions.{source_running, SameBuiltin, SameBuiltins, ExpressionsEvaluate}
use Rattle.region_simulation.proofs.Paths.{some_same}
use Rattle.region_simulation.proofs.Following.{follows_now}
use Rattle.region_simulation.proofs.Expressions.{expression_evaluates}
use Rattle.region_simulation.proofs.Builtins.{number_passed, ending, Next, seen_alike, builtin_case}

-- the next byte, and the input behind it
next_is : (bytes : List ℕ) (w : SourceWorld) → w.input ≡ bytes → next_byte bytes w ≡ source_done (byte_of bytes) (record w { input = bytes_after bytes })
next_is [] w e = ap (λ i. source_done (negsuc 0) (record w { input = i })) e
next_is (x ∷ bytes) w e = refl

-- some exception travels
travels : (es : List ℕ) → some_travel (length es) ≡ is_travelling es
travels [] = refl
travels (e ∷ es) = ap (λ b. not b) (not_none es)
  where
    not_none : (es : List ℕ) → (length (e ∷ es) == 0) ≡ false
    not_none es = grind (arith, nat_tests)

module _ (l : Lowering) (own : Option ℕ) (calls : SourceCallee → Reference → List SourceArgument → SourceContext → SourceAction ℤ) (b : Running) (v : SourceFrame) (c : SourceContext)
    (fit : KindsFit l b.kinds) where
  pub write_int : SameBuiltin l own calls b v c WriteInt
  write_int object es t high can passes =
      builtin_case l own b v c fit t high (types_for [] es) (arguments (source_running l calls) v es [] c) (lower_arguments l es [] t) (builtin WriteInt)
      (λ vs. emit (Line (value_at vs 0)) >> source_pure (pos 0))
      (λ at w s d given words stands ok.
      seen_alike l own b v c fit t high at w (record w { items = w.items ++ Line (value_at given 0) ∷ [] }) s d (with_item (Line (number_at words 0)) s.world) (pos 0) (pos 0) stands refl
      (ap (λ n. with_item (Line n) s.world) (number_passed l.layout l.program at (types_for [] es) given words 0 ok) ∙ ap (λ y. with_item (Line (value_at given 0)) y) stands.world)
      refl refl refl refl refl stands.handlers) passes

  pub exits : SameBuiltin l own calls b v c Exit
  exits object es t high can passes =
      builtin_case l own b v c fit t high (types_for [] es) (arguments (source_running l calls) v es [] c) (lower_arguments l es [] t) (builtin Exit)
      (λ vs. source_stop (ended (exit (value_at vs 0))))
      (λ at w s d given words stands ok. (
        s,
        ap (λ n. stopped (ended (exit n)) s) (number_passed l.layout l.program at (types_for [] es) given words 0 ok),
        record { items = ap (λ y. y.items) stands.world; replies = ap (λ y. y.replies) stands.world; deepest = ap (λ y. y.deepest) stands.world },
      )) passes

  pub cancels : SameBuiltin l own calls b v c Cancel
  cancels object es t high can passes =
      builtin_case l own b v c fit t high (types_for [] es) (arguments (source_running l calls) v es [] c) (lower_arguments l es [] t) (builtin Cancel)
      (λ vs. source_stop (cancelled (value_at vs 0)))
      (λ at w s d given words stands ok. (
        s,
        ap (λ n. stopped (cancelled n) s) (number_passed l.layout l.program at (types_for [] es) given words 0 ok),
        follows_now l.layout l.program at t c w s stands,
      )) passes

  pub read_byte : SameBuiltin l own calls b v c ReadByte
  read_byte object (expression_then e es) t high can passes = let n = some_same can.0 in absurd (omega (arith, n))
  read_byte object no_expressions t high can passes =
      builtin_case l own b v c fit t high [] (source_pure []) (lower_arguments l no_expressions [] t) (builtin ReadByte)
      (λ vs w. next_byte w.input w)
      (λ at w s d given words stands ok.
      subst (λ z. Alike l.layout l.program at t c w s (Next l own b v c fit t high) z
      (ending (perform b (called b.kinds (builtin ReadByte) (Some (slot_place t)) words s.frame s.world) d s))) (sym (next_is w.input w refl))
      (seen_alike l own b v c fit t high at w (record w { input = bytes_after w.input }) s d (record (s.world) { input = bytes_after s.world.input }) (byte_of w.input) (byte_of s.world.input) stands
      (ap (λ y. byte_of y.input) stands.world) (ap {A = World} (λ y. record y { input = bytes_after y.input }) stands.world) refl refl refl refl refl stands.handlers)) passes

  pub uncaught : SameBuiltin l own calls b v c Uncaught
  uncaught object (expression_then e es) t high can passes = let n = some_same can.0 in absurd (omega (arith, n))
  uncaught object no_expressions t high can passes =
      builtin_case l own b v c fit t high [] (source_pure []) (lower_arguments l no_expressions [] t) (builtin Uncaught)
      (λ vs. source_pure (truth (is_travelling c.travelling)))
      (λ at w s d given words stands ok.
      seen_alike l own b v c fit t high at w w s d s.world (truth (is_travelling c.travelling)) (truth (some_travel s.world.uncaught)) stands
      (ap (λ y. truth (some_travel y.uncaught)) stands.world ∙ ap (λ x. truth x) (travels c.travelling)) stands.world refl refl refl refl refl stands.handlers) passes

  pub set_terminate : SameBuiltin l own calls b v c SetTerminate
  set_terminate object es t high can passes at w s stands reach = go (function_named es) can.1
    where
      go : (h : Option ℕ) → IsHandler l.program h → Alike l.layout l.program at t c w s (Next l own b v c fit t high)
          (source_done (pos 0) (record w { installed = record (w.installed) { terminate_handler = h } }))
          (ending (perform b (if_some (words_in b.kinds s.frame s.world (arguments_from (handler_arguments h)))
          (λ given. called b.kinds (builtin SetTerminate) (Some (slot_place t)) given s.frame s.world)) (context_of w.open_calls c) s))
      go None there = seen_alike l own b v c fit t high at w (record w { installed = record (w.installed) { terminate_handler = None } }) s (context_of w.open_calls c)
          (record (s.world) { installed = record (s.world.installed) { terminate_handler = None } }) (pos 0) (pos 0) stands refl
          (ap {A = World} (λ y. record y { installed = record (y.installed) { terminate_handler = None } }) stands.world) refl refl refl refl refl (there, stands.handlers.1)
      go (Some n) there = seen_alike l own b v c fit t high at w (record w { installed = record (w.installed) { terminate_handler = Some n } }) s (context_of w.open_calls c)
          (record (s.world) { installed = record (s.world.installed) { terminate_handler = Some n } }) (pos 0) (pos 0) stands refl
          (ap {A = World} (λ y. record y { installed = record (y.installed) { terminate_handler = Some n } }) stands.world) refl refl refl refl refl (there, stands.handlers.1)

  pub set_unexpected : SameBuiltin l own calls b v c SetUnexpected
  set_unexpected object es t high can passes at w s stands reach = go (function_named es) can.1
    where
      go : (h : Option ℕ) → IsHandler l.program h → Alike l.layout l.program at t c w s (Next l own b v c fit t high)
          (source_done (pos 0) (record w { installed = record (w.installed) { unexpected_handler = h } }))
          (ending (perform b (if_some (words_in b.kinds s.frame s.world (arguments_from (handler_arguments h)))
          (λ given. called b.kinds (builtin SetUnexpected) (Some (slot_place t)) given s.frame s.world)) (context_of w.open_calls c) s))
      go None there = seen_alike l own b v c fit t high at w (record w { installed = record (w.installed) { unexpected_handler = None } }) s (context_of w.open_calls c)
          (record (s.world) { installed = record (s.world.installed) { unexpected_handler = None } }) (pos 0) (pos 0) stands refl
          (ap {A = World} (λ y. record y { installed = record (y.installed) { unexpected_handler = None } }) stands.world) refl refl refl refl refl (stands.handlers.0, there)
      go (Some n) there = seen_alike l own b v c fit t high at w (record w { installed = record (w.installed) { unexpected_handler = Some n } }) s (context_of w.open_calls c)
          (record (s.world) { installed = record (s.world.installed) { unexpected_handler = Some n } }) (pos 0) (pos 0) stands refl
          (ap {A = World} (λ y. record y { installed = record (y.installed) { unexpected_handler = Some n } }) stands.world) refl refl refl refl refl (stands.handlers.0, there)

  -- so each does, where the two that raise or terminate do
  pub builtins_same : SameBuiltin l own calls b v c Terminate → SameBuiltin l own calls b v c Module → SameBuiltins l own calls b v c
  builtins_same terminates modules WriteInt = write_int
  builtins_same terminates modules ReadByte = read_byte
  builtins_same terminates modules Exit = exits
  builtins_same terminates modules Module = modules
  builtins_same terminates modules Cancel = cancels
  builtins_same terminates modules Terminate = terminates
  builtins_same terminates modules SetTerminate = set_terminate
  builtins_same terminates modules SetUnexpected = set_unexpected
  builtins_same terminates modules Uncaught = uncaught
  builtins_same terminates modules BadException = λ object es t high can passes. absurd (none_is (count_of es) can.0)
    where
      none_is : (n : ℕ) → None ≡ Some n → ⊥
      none_is n e = cc e

pub expressions_evaluate : ExpressionsEvaluate
expressions_evaluate l own calls b v c fit same terminates modules e t high typed =
    expression_evaluates l own calls b v c fit same (builtins_same l own calls b v c fit terminates modules) e t high typed
