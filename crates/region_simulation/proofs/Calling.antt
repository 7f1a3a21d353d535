-- Calls whose values are stored.
use Rattle.std.proofs.Common.{◌≡◌, ℕ, ◌≤◌, ℤ, List, [], ◌∷◌, ◌++◌, Option, Some, refl, sym, ap, ◌∙◌, subst, arith}
use Rattle.cxx_ast.specs.declared.types.Ty.{Ty}
use Rattle.meaning_forms.specs.World.{Reference, World as SourceWorld}
use Rattle.meaning_forms.specs.Context.{Context as SourceContext}
use Rattle.meaning_forms.specs.Frame.{Frame as SourceFrame}
use Rattle.meaning_forms.specs.Running.{Argument as SourceArgument, Callee}
use Rattle.meaning_forms.specs.Outcome.{Result as SourceResult, done as source_done, stopped as source_stopped, thrown, cancelled, ended, undefined, out_of_turns, deep, Action as SourceAction, ◌>>=◌}
use Rattle.region_forms.specs.Form.{load, call_value, defined, Argument, arguments_from, regions_from}
use Rattle.region_forms.specs.World.{Word}
use Rattle.region_forms.specs.Evaluation.{slot_location, words_in}
use Rattle.region_forms.specs.Effect.{if_some, called, finished, stored_at}
use Rattle.region_forms.specs.Outcome.{State, Flow, normal, Result, continued, pure}
use Rattle.region_forms.specs.Ending.{Running, perform, settled}
use Rattle.region_forms.specs.Meaning.{followed}
use Rattle.linear_simulation.specs.Watched.{watched_all as regions}
use Rattle.region_forms.specs.Numbering.{number_of}
use Rattle.region_forms.specs.LowerExpression.{Lowering, first_temporary, LoweredArguments, in_temporary, slot_place, stored_in}
use Rattle.region_simulation.specs.Places.{Places}
use Rattle.region_simulation.specs.Reach.{KindsFit}
use Rattle.region_simulation.specs.Stands.{context_of}
use Rattle.region_simulation.specs.Alike.{Alike}
use Rattle.region_simulation.specs.Calls.{IsCallable, SameArguments, SamePassed, SameCalls}
use Rattle.region_simulation.specs.Evaluates.{IsComputed, Evaluates, Everywhere}
use Rattle.region_simulation.specs.Passes.{IsGiven, Passes}
use Rattle.region_simulation.proofs.Following.{follows_on, alike_then, reaches_kept}
use Rattle.region_simulation.proofs.Joining.{joined}
use Rattle.region_simulation.proofs.Storing.{with_temporary, stored_value, temporary_is, follows_stored}
use Rattle.region_simulation.proofs.Evaluating.{help_there}

-- what is done with the value of a call
abbrev stored_result : Running → ℕ → Result ℤ → Result Flow
stored_result b t y =
    continued (continued (continued y (λ n s. settled (finished b.kinds (Some (slot_place t)) n s.frame s.world) s)) (λ u. pure normal)) (followed (pure normal))

module _ (l : Lowering) (own : Option ℕ) (b : Running) (v : SourceFrame) (c : SourceContext) (fit : KindsFit l b.kinds) (t : ℕ) (high : first_temporary l ≤ t) where
  stores_call : (at : Places) (w : SourceWorld) (s : State) (r : SourceResult ℤ) (y : Result ℤ) → Alike l.layout l.program at t c w s (λ m n w2 at2 s2. m ≡ n) r y
      → Alike l.layout l.program at t c w s (IsComputed b.kinds (load (slot_place t))) r (stored_result b t y)
  stores_call at w s (source_done m w2) y (n, s2, e, (h, same)) = (
    normal,
    with_temporary t n s2,
    ap (stored_result b t) e ∙
        ap (λ k. continued (continued (settled (stored_at (slot_location k s2.frame.call t 0) n s2.frame s2.world) s2) (λ u. pure normal)) (followed (pure normal))) (help_there l own b v c fit t high),
    (
      follows_on l.layout l.program at t w s c w2 s2 c w2 (with_temporary t n s2) h (follows_stored l.layout l.program h.places t c w2 s2 t n (omega arith) h.stands),
      (refl, stored_value b.kinds t (with_temporary t n s2).frame s2.world n (help_there l own b v c fit t high) (temporary_is t n s2) ∙ ap (λ x. Some x) (sym same)),
    ),
  )
  stores_call at w s (source_stopped (thrown x) w2) y (s2, e, h) = (s2, ap (stored_result b t) e, h)
  stores_call at w s (source_stopped (cancelled n) w2) y (s2, e, h) = (s2, ap (stored_result b t) e, h)
  stores_call at w s (source_stopped undefined w2) y h = tt
  stores_call at w s (source_stopped (ended x) w2) y (s2, e, h) = (s2, ap (stored_result b t) e, h)
  stores_call at w s (source_stopped out_of_turns w2) y (s2, e, h) = (s2, ap (stored_result b t) e, h)
  stores_call at w s (source_stopped deep w2) y (s2, e, h) = (s2, ap (stored_result b t) e, h)

  -- with the arguments, all that is passed for a call is ready
  abbrev pub IsReady : List Ty → List Argument → List Argument → Callee → (SourceWorld → Reference) → Type 0
  IsReady types args all callee this = Everywhere l own v c (λ at w s.
      (given : List SourceArgument) (words : List Word) → words_in b.kinds s.frame s.world (arguments_from args) ≡ Some words
      → SameArguments l.layout l.program at types given words
      → (passed : List Word) × (words_in b.kinds s.frame s.world (arguments_from all) ≡ Some passed) × SamePassed l.layout l.program at callee (this w) given passed)

  pub call_case : (call : Callee → Reference → List SourceArgument → SourceContext → SourceAction ℤ)
      → SameCalls l.layout (record { program = l.program; call = call }) b
      → (types : List Ty) (act : SourceAction (List SourceArgument)) (y : LoweredArguments) (all : List Argument) (callee : Callee) (this : SourceWorld → Reference)
      → IsCallable l.program callee → IsReady types y.arguments all callee this → Passes l own b v c t types act y
      → Evaluates l own b v c t (act >>= (λ given w. call callee (this w) given c w))
      (in_temporary (y.before ++ stored_in t (call_value (defined (number_of l.program callee)) (arguments_from all)) ∷ []) t)
  call_case call same types act y all callee this there ready first at w s stands reach =
      let ctx = context_of w.open_calls c in
      let next = IsComputed b.kinds (load (slot_place t)) in
      let last = stored_in t (call_value (defined (number_of l.program callee)) (arguments_from all)) in
      let after = regions b (regions_from (last ∷ [])) ctx in
      subst (λ z. Alike l.layout l.program at t c w s next ((act >>= (λ given w. call callee (this w) given c w)) w) z) (sym (joined b ctx y.before (last ∷ []) s))
      (alike_then l.layout l.program (IsGiven l.layout l.program b.kinds types y.arguments) next at t c w s (act w) (regions b (regions_from y.before) ctx s)
      (λ given w. call callee (this w) given c w) (followed after) (first at w s stands reach)
      (λ given flow w2 s2 h (fl, (words, i, passes)).
      let (passed, is, ok) = ready h.places w2 s2 h.stands (reaches_kept l own v at t w s c c w2 s2 stands h (omega (arith, high)) reach) given words i passes in
      let made : Alike l.layout l.program h.places t c w2 s2 (λ m n w3 at3 s3. m ≡ n) (call callee (this w2) given c w2) (b.call (number_of l.program callee) passed ctx s2) =
      subst (λ m. Alike l.layout l.program h.places t c w2 s2 (λ m n w3 at3 s3. m ≡ n) (call callee (this w2) given c w2)
      (b.call (number_of l.program callee) passed (context_of m c) s2)) h.open_calls (same h.places callee (this w2) given passed t c w2 s2 there h.stands ok) in
      subst (λ f. Alike l.layout l.program h.places t c w2 s2 next (call callee (this w2) given c w2) (followed after f s2)) (sym fl)
      (subst (λ z. Alike l.layout l.program h.places t c w2 s2 next (call callee (this w2) given c w2)
      (continued (continued (perform b (if_some z (λ q. called b.kinds (defined (number_of l.program callee)) (Some (slot_place t)) q s2.frame s2.world)) ctx s2) (λ u. pure normal))
      (followed (pure normal)))) (sym is)
      (stores_call h.places w2 s2 (call callee (this w2) given c w2) (b.call (number_of l.program callee) passed ctx s2) made))))
