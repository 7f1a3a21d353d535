-- The two built-in functions that may raise or terminate.
use Rattle.std.proofs.Common.{◌≡◌, ℕ, ◌+◌, ◌≤◌, ℤ, pos, negsuc, Bool, true, false, List, [], ◌∷◌, ◌++◌, Option, Some, None, refl, sym, ap, subst, arith}
use Rattle.std.specs.Prelude.{slice_get, slice_set, if◌then◌else◌}
use Rattle.cxx_ast.specs.declared.types.Ty.{Ty}
use Rattle.cxx_ast.specs.declared.name.Builtin.TheVariants.{Module, Terminate}
use Rattle.cxx_ast.specs.Plain.{no_expressions, expression_then}
use Rattle.eh_outer.specs.declared.module.Reply.{Reply}
use Rattle.eh_outer.specs.declared.module.Reply.TheVariants.{Value, Raise}
use Rattle.run_items.specs.declared.item.Item.{Item}
use Rattle.run_items.specs.declared.item.Item.TheVariants.{Foreign}
use Rattle.meaning_forms.specs.World.{World as SourceWorld, Reference, foreign as source_foreign}
use Rattle.meaning_forms.specs.Context.{Context as SourceContext}
use Rattle.meaning_forms.specs.Frame.{Frame as SourceFrame}
use Rattle.meaning_forms.specs.Running.{Running as SourceRunning, Argument as SourceArgument, Callee as SourceCallee}
use Rattle.meaning_forms.specs.Outcome.{Result as SourceResult, done as source_done, Action as SourceAction, pure as source_pure, ◌>>=◌}
use Rattle.meaning_forms.specs.Terminate.{terminate as source_terminate}
use Rattle.meaning_forms.specs.Throw.{is_full as source_is_full, new_exception, raise_exception, raise_foreign, answered as source_answered, take_reply, call_module}
use Rattle.meaning_forms.specs.Expression.{value_at, arguments}
use Rattle.region_forms.specs.Laws.{CaughtListFollows}
use Rattle.region_forms.specs.Form.{call_value, builtin, Callee, arguments_from, regions_from}
use Rattle.region_forms.specs.World.{Word, World, foreign, with_item}
use Rattle.region_forms.specs.Effect.{if_some, called, finished, terminates, raises, answered, replied, module_called, with_new}
use Rattle.region_forms.specs.Outcome.{Context, Flow, Result, State, continued, normal, pure}
use Rattle.region_forms.specs.Ending.{Running, perform, terminate, raise}
use Rattle.region_forms.specs.Meaning.{followed}
use Rattle.linear_simulation.specs.Watched.{watched_all as regions}
use Rattle.region_forms.specs.LowerExpression.{Lowering, first_temporary, LoweredArguments, in_temporary, slot_place, stored_in, lower_arguments}
use Rattle.region_simulation.specs.Places.{Places}
use Rattle.region_simulation.specs.Reach.{KindsFit}
use Rattle.region_simulation.specs.Stands.{world_of, Stands, context_of}
use Rattle.region_simulation.specs.Alike.{Alike}
use Rattle.region_simulation.specs.Calls.{SameArguments}
use Rattle.region_simulation.specs.Typing.{types_for}
use Rattle.region_simulation.specs.Evaluates.{Evaluates}
use Rattle.region_simulation.specs.Passes.{IsGiven, Passes}
use Rattle.region_simulation.specs.Expressions.{source_running, SameBuiltin}
use Rattle.region_simulation.proofs.Paths.{some_same}
use Rattle.region_simulation.proofs.Following.{Agreement, alike_on, alike_then}
use Rattle.region_simulation.proofs.Joining.{joined}
use Rattle.region_simulation.proofs.Builtins.{number_passed, ending, Next, seen_alike}
use Rattle.region_simulation.proofs.Standard.{expressions_evaluate}
use Rattle.region_exceptions.specs.Same.{RunAlike}
use Rattle.region_exceptions.specs.Raises.{Never, ModulesAnswerAlike, AllExpressionsEvaluate}
use Rattle.region_exceptions.proofs.Standing.{all_old, stands_on, follows_changed}
use Rattle.region_exceptions.proofs.Ends.{ends_out, never_on, terminates as terminates_out}
use Rattle.region_exceptions.proofs.Raises.{raises as raises_out}
use Rattle.region_exceptions.proofs.New.{newly, full_same, new_on, new_can}
use Rattle.region_simulation.specs.Lives.{is_built}
use Rattle.region_exceptions.proofs.Lives.{added_new}

module _ (l : Lowering) (own : Option ℕ) (call : SourceCallee → Reference → List SourceArgument → SourceContext → SourceAction ℤ) (b : Running) (v : SourceFrame) (c : SourceContext)
    (fit : KindsFit l b.kinds) (same : RunAlike l.layout (source_running l call) b) (laws : CaughtListFollows) (t : ℕ) (high : first_temporary l ≤ t) where
  -- what never is done comes out of an operation as it is
  stops_alike : {A : Type 0} (next : Agreement A Flow) (at : Places) (w : SourceWorld) (s : State) (x : SourceResult A) (y : Result (Unit {0}))
      → Alike l.layout l.program at t c w s Never x y → Alike l.layout l.program at t c w s next x (ending y)
  stops_alike next at w s x y h =
      let a = source_running l call in
      never_on l.layout a b same next at t c w s x (continued y (λ u. pure normal)) (followed (pure normal))
      (never_on l.layout a b same Never at t c w s x y (λ u. pure normal) h)

  -- a reply that is taken
  module _ (at : Places) (w : SourceWorld) (s : State) (stands : Stands l.layout l.program at c w s) where
    abbrev a : SourceRunning
    a = source_running l call

    abbrev ctx : Context
    ctx = context_of w.open_calls c

    value_given : (m : ℤ) → Alike l.layout l.program at t c w s (Next l own b v c fit t high) (source_done m w)
        (ending (perform b (finished b.kinds (Some (slot_place t)) m s.frame s.world) ctx s))
    value_given m = seen_alike l own b v c fit t high at w w s ctx s.world m m stands refl stands.world refl refl refl refl refl stands.handlers

    module _ (k : ℕ) (left : List Reply) where
      abbrev taken : SourceWorld
      taken = record w { replies = slice_set w.replies k left }

      abbrev there : World
      there = record (s.world) { replies = slice_set s.world.replies k left }

      there_is : there ≡ world_of l.program c taken s.world.memory s.world.calls
      there_is = ap {A = World} (λ y. record y { replies = slice_set y.replies k left }) stands.world

      abbrev s2 : State
      s2 = record s { world = there }

      standing : Stands l.layout l.program at c taken s2
      standing = stands_on l.layout l.program at c c w taken s there there_is refl refl (omega arith) stands.sound stands.handlers (all_old w.live) stands

      -- a module raises an exception
      abbrev made : ℕ → ℕ → Item
      made n m = Foreign (m + 1) k n

      abbrev new : ℕ → SourceWorld
      new n = newly (source_foreign k n) (made n w.last_number) taken

      abbrev after : ℕ → World
      after n = with_item (made n w.last_number) (with_new (foreign k n) there)

      raised : (n : ℕ) → Alike l.layout l.program at t c w s (Next l own b v c fit t high) (raise_foreign a k n c taken)
          (ending (perform b (answered b.kinds (Some (slot_place t)) k (Raise n) s.frame there) ctx s))
      raised n =
          subst (λ z. Alike l.layout l.program at t c w s (Next l own b v c fit t high) (raise_foreign a k n c taken)
          (ending (perform b (if z then terminates there.installed.terminate_handler there else
          raises (there.last_number + 1) (with_item (Foreign (there.last_number + 1) k n) (with_new (foreign k n) there))) ctx s)))
          (sym (full_same l.layout l.program at c taken s2 standing)) (go (source_is_full taken))
        where
          flies_on : Alike l.layout l.program at t c w s Never (raise_exception {A = ℤ} a (w.last_number + 1) c (new n))
              (raise {A = Unit {0}} b (w.last_number + 1) ctx (record s { world = after n }))
          flies_on =
              let stands3 = new_on l.layout l.program at c taken s2 standing (source_foreign k n) (made n w.last_number) tt in
              let h = follows_changed l.layout l.program at t c w (new n) s (after n) refl refl refl stands3 in
              alike_on l.layout l.program Never at t c c w s (new n) (record s { world = after n }) h
              (raise_exception a (w.last_number + 1) c (new n)) (raise b (w.last_number + 1) ctx (record s { world = after n }))
              (raises_out l.layout a b same laws ℤ (Unit {0}) at c (new n) (record s { world = after n }) stands3 (w.last_number + 1)
              (new_can l.layout l.program at c taken s2 standing (source_foreign k n) (made n w.last_number))
              (ap is_built (added_new w.live w.last_number (source_foreign k n) stands.sound.live)) Never t)

          go : (z : Bool) → Alike l.layout l.program at t c w s (Next l own b v c fit t high)
              ((if z then source_terminate {A = ℤ} a c else (new_exception (source_foreign k n) (λ m. Foreign m k n) >>= (λ e. raise_exception a e c))) taken)
              (ending (perform b (if z then terminates there.installed.terminate_handler there else
              raises (there.last_number + 1) (with_item (made n there.last_number) (with_new (foreign k n) there))) ctx s))
          go true = stops_alike (Next l own b v c fit t high) at w s (source_terminate a c taken) (terminate b ctx s2)
              (ends_out l.layout a b same Never at t c w s (source_terminate a c taken) (terminate b ctx s2) (terminates_out l.layout a b same ℤ (Unit {0}) at c taken s2 standing))
          go false =
              subst (λ m. Alike l.layout l.program at t c w s (Next l own b v c fit t high) (raise_exception a (w.last_number + 1) c (new n))
              (ending (raise b (m + 1) ctx (record s { world = with_item (made n m) (with_new (foreign k n) there) })))) (sym (ap (λ y. y.last_number) stands.world))
              (stops_alike (Next l own b v c fit t high) at w s (raise_exception a (w.last_number + 1) c (new n))
              (raise b (w.last_number + 1) ctx (record s { world = after n })) flies_on)

      answers : (x : Reply) → Alike l.layout l.program at t c w s (Next l own b v c fit t high) (source_answered a k x c taken)
          (ending (perform b (answered b.kinds (Some (slot_place t)) k x s.frame there) ctx s))
      answers (Value m) = seen_alike l own b v c fit t high at w taken s ctx there m m stands refl there_is refl refl refl refl refl stands.handlers
      answers (Raise n) = raised n

    replies : (k : ℕ) (xs : Option (List Reply)) → Alike l.layout l.program at t c w s (Next l own b v c fit t high) (take_reply a k xs c w)
        (ending (perform b (replied b.kinds (Some (slot_place t)) k xs s.frame s.world) ctx s))
    replies k None = value_given (pos 0)
    replies k (Some []) = value_given (pos 0)
    replies k (Some (x ∷ left)) = answers k left x

    modules : (m : ℤ) → Alike l.layout l.program at t c w s (Next l own b v c fit t high) (call_module a m c w)
        (ending (perform b (module_called b.kinds (Some (slot_place t)) m s.frame s.world) ctx s))
    modules (negsuc k) = value_given (pos 0)
    modules (pos k) =
        subst (λ xs. Alike l.layout l.program at t c w s (Next l own b v c fit t high) (call_module a (pos k) c w)
        (ending (perform b (replied b.kinds (Some (slot_place t)) k xs s.frame s.world) ctx s)))
        (sym (ap (λ y. slice_get y.replies k) stands.world)) (replies k (slice_get w.replies k))

  -- a built-in function, behind its arguments
  builtin_with : (types : List Ty) (act : SourceAction (List SourceArgument)) (y : LoweredArguments) (f : Callee) (k : List SourceArgument → SourceAction ℤ)
      → ((at : Places) (w : SourceWorld) (s : State) (given : List SourceArgument) (words : List Word) → Stands l.layout l.program at c w s
      → SameArguments l.layout l.program at types given words
      → Alike l.layout l.program at t c w s (Next l own b v c fit t high) (k given w)
      (ending (perform b (called b.kinds f (Some (slot_place t)) words s.frame s.world) (context_of w.open_calls c) s)))
      → Passes l own b v c t types act y
      → Evaluates l own b v c t (act >>= k) (in_temporary (y.before ++ stored_in t (call_value f (arguments_from y.arguments)) ∷ []) t)
  builtin_with types act y f k does first at w s stands reach =
      let ctx = context_of w.open_calls c in
      let last = stored_in t (call_value f (arguments_from y.arguments)) in
      let after = regions b (regions_from (last ∷ [])) ctx in
      let next = Next l own b v c fit t high in
      subst (λ z. Alike l.layout l.program at t c w s next ((act >>= k) w) z) (sym (joined b ctx y.before (last ∷ []) s))
      (alike_then l.layout l.program (IsGiven l.layout l.program b.kinds types y.arguments) next at t c w s (act w) (regions b (regions_from y.before) ctx s) k (followed after)
      (first at w s stands reach)
      (λ given flow w2 s2 h (fl, (words, i, passes)).
      subst (λ z. Alike l.layout l.program h.places t c w2 s2 next (k given w2) (followed after z s2)) (sym fl)
      (subst (λ z. Alike l.layout l.program h.places t c w2 s2 next (k given w2)
      (ending (perform b (if_some z (λ q. called b.kinds f (Some (slot_place t)) q s2.frame s2.world)) ctx s2))) (sym i)
      (subst (λ n. Alike l.layout l.program h.places t c w2 s2 next (k given w2)
      (ending (perform b (called b.kinds f (Some (slot_place t)) words s2.frame s2.world) (context_of n c) s2))) h.open_calls
      (does h.places w2 s2 given words h.stands passes)))))

module _ (l : Lowering) (own : Option ℕ) (call : SourceCallee → Reference → List SourceArgument → SourceContext → SourceAction ℤ) (b : Running) (v : SourceFrame) (c : SourceContext)
    (fit : KindsFit l b.kinds) (same : RunAlike l.layout (source_running l call) b) (laws : CaughtListFollows) where
  terminate_same : SameBuiltin l own call b v c Terminate
  terminate_same object (expression_then e es) t high can passes = let n = some_same can.0 in absurd (omega (arith, n))
  terminate_same object no_expressions t high can passes =
      let a = source_running l call in
      builtin_with l own call b v c fit same laws t high [] (source_pure []) (lower_arguments l no_expressions [] t) (builtin Terminate)
      (λ vs w. source_terminate a c w)
      (λ at w s given words stands ok.
      stops_alike l own call b v c fit same laws t high (Next l own b v c fit t high) at w s (source_terminate a c w) (terminate b (context_of w.open_calls c) s)
      (ends_out l.layout a b same Never at t c w s (source_terminate a c w) (terminate b (context_of w.open_calls c) s) (terminates_out l.layout a b same ℤ (Unit {0}) at c w s stands))) passes

  module_same : SameBuiltin l own call b v c Module
  module_same object es t high can passes =
      let a = source_running l call in
      builtin_with l own call b v c fit same laws t high (types_for [] es) (arguments a v es [] c) (lower_arguments l es [] t) (builtin Module)
      (λ vs. call_module a (value_at vs 0) c)
      (λ at w s given words stands ok.
      subst (λ m. Alike l.layout l.program at t c w s (Next l own b v c fit t high) (call_module a (value_at given 0) c w)
      (ending (perform b (module_called b.kinds (Some (slot_place t)) m s.frame s.world) (context_of w.open_calls c) s)))
      (sym (number_passed l.layout l.program at (types_for [] es) given words 0 ok))
      (modules l own call b v c fit same laws t high at w s stands (value_at given 0))) passes

pub modules_answer_alike : CaughtListFollows → ModulesAnswerAlike
modules_answer_alike laws l own call b v c fit same = (terminate_same l own call b v c fit same laws, module_same l own call b v c fit same laws)

pub all_expressions_evaluate : CaughtListFollows → AllExpressionsEvaluate
all_expressions_evaluate laws l own call b v c fit same e t high typed =
    expressions_evaluate l own call b v c fit same.calls (terminate_same l own call b v c fit same laws) (module_same l own call b v c fit same laws) e t high typed
