-- Built-in functions that neither raise nor terminate.
use Rattle.std.proofs.Common.{◌≡◌, ℕ, zero, suc, ◌<◌, ◌≤◌, ℤ, List, [], ◌∷◌, ◌++◌, Option, Some, None, refl, sym, ap, ◌∙◌, subst, arith, length}
use Rattle.std.specs.Prelude.{slice_get, unwrap_or}
use Rattle.cxx_ast.specs.declared.types.Ty.{Ty}
use Rattle.cxx_ast.specs.Plain.{Checked}
use Rattle.meaning_forms.specs.Part.{cell, part_at}
use Rattle.meaning_forms.specs.World.{World as SourceWorld, native}
use Rattle.meaning_forms.specs.Context.{Context as SourceContext}
use Rattle.meaning_forms.specs.Frame.{Frame as SourceFrame}
use Rattle.meaning_forms.specs.Running.{Argument as SourceArgument, by_value, by_reference}
use Rattle.meaning_forms.specs.Outcome.{done as source_done, Action as SourceAction, ◌>>=◌}
use Rattle.meaning_forms.specs.Expression.{value_at}
use Rattle.region_forms.specs.Form.{load, call_value, Callee, arguments_from, regions_from}
use Rattle.region_forms.specs.Layout.{Layout}
use Rattle.region_forms.specs.World.{Address, Word, World}
use Rattle.region_forms.specs.Evaluation.{slot_location}
use Rattle.region_forms.specs.Effect.{if_some, called, finished, stored_at, number_at}
use Rattle.region_forms.specs.Outcome.{State, Context, Flow, normal, Result, continued, pure}
use Rattle.region_forms.specs.Ending.{Running, perform}
use Rattle.region_forms.specs.Meaning.{followed}
use Rattle.linear_simulation.specs.Watched.{watched_all as regions}
use Rattle.region_forms.specs.LowerExpression.{Lowering, first_temporary, LoweredArguments, in_temporary, slot_place, stored_in}
use Rattle.region_simulation.specs.Typed.{Shaped}
use Rattle.region_simulation.specs.Places.{Places, Remembers}
use Rattle.region_simulation.specs.Reach.{KindsFit}
use Rattle.region_simulation.specs.Stands.{world_of, IsMade, IsSound, AreHandlers, Stands, context_of}
use Rattle.region_simulation.specs.Alike.{Follows, Alike}
use Rattle.region_simulation.specs.Calls.{SameArguments}
use Rattle.region_simulation.specs.Evaluates.{IsComputed, Evaluates}
use Rattle.region_simulation.specs.Passes.{IsGiven, Passes}
use Rattle.region_simulation.proofs.Following.{keeps_all, follows_on, alike_then}
use Rattle.region_simulation.proofs.Joining.{joined}
use Rattle.region_simulation.proofs.Storing.{with_temporary, stored_value, temporary_is, follows_stored}
use Rattle.region_simulation.proofs.Evaluating.{help_there}

-- memory holds the same where the objects are the same
pub remembers_same : (l : Layout) (p : Checked) (at : Places) (w w2 : SourceWorld) (memory : Address → Option ℤ) → w2.objects ≡ w.objects
    → Remembers l p at w memory → Remembers l p at w2 memory
remembers_same l p at w w2 memory e m = record {
  made = λ o x h. subst (λ os. o < length os) (sym e) (m.made o x h);
  apart = m.apart;
  shaped = λ o x h. subst (λ os. Shaped p x.type (unwrap_or (slice_get os o) (cell None))) (sym e) (m.shaped o x h);
  holds = λ o x path n h is. m.holds o x path n h (subst (λ os. part_at (unwrap_or (slice_get os o) (cell None)) path ≡ cell (Some n)) e is);
}

-- a change of what is neither memory nor an object
pub stands_changed : (l : Layout) (p : Checked) (at : Places) (c : SourceContext) (w w2 : SourceWorld) (s : State) (y : World)
    → y ≡ world_of p c w2 s.world.memory s.world.calls → w2.objects ≡ w.objects → w2.live ≡ w.live → w2.last_number ≡ w.last_number → w2.turns ≡ w.turns → AreHandlers p w2.installed
    → Stands l p at c w s → Stands l p at c w2 (record s { world = y })
stands_changed l p at c w w2 s y is objects live last turns handlers h =
    subst (λ z. Stands l p at c w2 (record s { world = z })) (sym is) (record {
      world = refl;
      turns = h.turns ∙ sym turns;
      memory = remembers_same l p at w w2 s.world.memory objects h.memory;
      globals = h.globals;
      exceptions = λ i e o t kept there. h.exceptions i e o t kept (subst (λ xs. slice_get xs i ≡ Some (record { number = e; exception = native t o kept })) live there);
      made = λ o x there. subst (λ n. IsMade s.world.calls n w2.live x.base) (sym last) (subst (λ xs. IsMade s.world.calls w.last_number xs x.base) (sym live) (h.made o x there));
      sound = subst (λ n. IsSound c n w2.live) (sym last) (subst (λ xs. IsSound c w.last_number xs) (sym live) h.sound);
      handlers = handlers;
      kept = λ i e o t kept there. h.kept i e o t kept (subst (λ xs. slice_get xs i ≡ Some (record { number = e; exception = native t o kept })) live there);
    })

-- the ints among arguments are those among the words that are passed
pub number_passed : (l : Layout) (p : Checked) (at : Places) (types : List Ty) (given : List SourceArgument) (words : List Word) (i : ℕ)
    → SameArguments l p at types given words → number_at words i ≡ value_at given i
number_passed l p at [] [] [] i h = refl
number_passed l p at [] [] (x ∷ words) i h = absurd h
number_passed l p at [] (a ∷ given) words i h = absurd h
number_passed l p at (t ∷ types) [] words i h = absurd h
number_passed l p at (t ∷ types) (a ∷ given) [] i h = absurd h
number_passed l p at (t ∷ types) (by_value n ∷ given) (x ∷ words) zero h = ap (λ y. number_at (y ∷ words) 0) h.0.1
number_passed l p at (t ∷ types) (by_value n ∷ given) (x ∷ words) (suc i) h =
    ap (λ y. number_at (y ∷ words) (suc i)) h.0.1 ∙ number_passed l p at types given words i h.1
number_passed l p at (t ∷ types) (by_reference r ∷ given) (x ∷ words) zero h = ap (λ y. number_at (y ∷ words) 0) h.0.3
number_passed l p at (t ∷ types) (by_reference r ∷ given) (x ∷ words) (suc i) h =
    ap (λ y. number_at (y ∷ words) (suc i)) h.0.3 ∙ number_passed l p at types given words i h.1

-- what is done with an operation
abbrev pub ending : Result (Unit {0}) → Result Flow
ending y = continued (continued y (λ u. pure normal)) (followed (pure normal))

module _ (l : Lowering) (own : Option ℕ) (b : Running) (v : SourceFrame) (c : SourceContext) (fit : KindsFit l b.kinds) (t : ℕ) (high : first_temporary l ≤ t) where
  abbrev pub Next : ℤ → Flow → SourceWorld → Places → State → Type 0
  Next = IsComputed b.kinds (load (slot_place t))

  -- a value is stored in a world that changed
  pub seen_alike : (at : Places) (w w2 : SourceWorld) (s : State) (d : Context) (y : World) (m n : ℤ) → Stands l.layout l.program at c w s → n ≡ m
      → y ≡ world_of l.program c w2 s.world.memory s.world.calls → w2.objects ≡ w.objects → w2.live ≡ w.live → w2.last_number ≡ w.last_number → w2.turns ≡ w.turns
      → w2.open_calls ≡ w.open_calls → AreHandlers l.program w2.installed
      → Alike l.layout l.program at t c w s Next (source_done m w2) (ending (perform b (finished b.kinds (Some (slot_place t)) n s.frame y) d s))
  seen_alike at w w2 s d y m n stands same is objects live last turns opened handlers =
      let s2 = record s { world = y } in
      let stands2 = stands_changed l.layout l.program at c w w2 s y is objects live last turns handlers stands in
      let calls : y.calls ≡ s.world.calls = ap (λ z. z.calls) is in
      let more = ap (λ os. length os) objects in
      let h : Follows l.layout l.program at t w s c w2 s2 = record {
        places = at;
        stay = λ o lt. refl;
        objects = omega (arith, more);
        calls = omega (arith, calls);
        open_calls = opened;
        keeps = keeps_all t s.frame;
        stands = stands2;
      } in (
        normal,
        with_temporary t n s2,
        ap (λ k. ending (perform b (stored_at (slot_location k s.frame.call t 0) n s.frame y) d s)) (help_there l own b v c fit t high),
        (
          follows_on l.layout l.program at t w s c w2 s2 c w2 (with_temporary t n s2) h (follows_stored l.layout l.program at t c w2 s2 t n (omega arith) stands2),
          (refl, stored_value b.kinds t (with_temporary t n s2).frame y n (help_there l own b v c fit t high) (temporary_is t n s2) ∙ ap (λ x. Some x) same),
        ),
      )

  pub builtin_case : (types : List Ty) (act : SourceAction (List SourceArgument)) (y : LoweredArguments) (f : Callee) (k : List SourceArgument → SourceAction ℤ)
      → ((at : Places) (w : SourceWorld) (s : State) (d : Context) (given : List SourceArgument) (words : List Word) → Stands l.layout l.program at c w s
      → SameArguments l.layout l.program at types given words
      → Alike l.layout l.program at t c w s Next (k given w) (ending (perform b (called b.kinds f (Some (slot_place t)) words s.frame s.world) d s)))
      → Passes l own b v c t types act y
      → Evaluates l own b v c t (act >>= k) (in_temporary (y.before ++ stored_in t (call_value f (arguments_from y.arguments)) ∷ []) t)
  builtin_case types act y f k does first at w s stands reach =
      let ctx = context_of w.open_calls c in
      let last = stored_in t (call_value f (arguments_from y.arguments)) in
      let after = regions b (regions_from (last ∷ [])) ctx in
      subst (λ z. Alike l.layout l.program at t c w s Next ((act >>= k) w) z) (sym (joined b ctx y.before (last ∷ []) s))
      (alike_then l.layout l.program (IsGiven l.layout l.program b.kinds types y.arguments) Next at t c w s (act w) (regions b (regions_from y.before) ctx s) k (followed after)
      (first at w s stands reach)
      (λ given flow w2 s2 h (fl, (words, i, passes)).
      subst (λ z. Alike l.layout l.program h.places t c w2 s2 Next (k given w2) (followed after z s2)) (sym fl)
      (subst (λ z. Alike l.layout l.program h.places t c w2 s2 Next (k given w2)
      (ending (perform b (if_some z (λ q. called b.kinds f (Some (slot_place t)) q s2.frame s2.world)) ctx s2))) (sym i)
      (does h.places w2 s2 ctx given words h.stands passes))))
