-- Arguments before others that make calls, and references.
use Rattle.std.proofs.Common.{◌≡◌, ℕ, ◌+◌, ◌≤◌, ℤ, true, List, [], ◌∷◌, ◌++◌, Option, refl, sym, ◌∙◌, subst, arith}
use Rattle.cxx_ast.specs.declared.types.Ty.{Ty}
use Rattle.cxx_ast.specs.declared.types.Ty.TheVariants.{Int}
use Rattle.cxx_ast.specs.declared.name.Name.{Name}
use Rattle.meaning_forms.specs.Class.{object_type}
use Rattle.meaning_forms.specs.Expression.{is_reference}
use Rattle.meaning_forms.specs.World.{Reference, World as SourceWorld}
use Rattle.meaning_forms.specs.Context.{Context as SourceContext}
use Rattle.meaning_forms.specs.Frame.{Frame as SourceFrame}
use Rattle.meaning_forms.specs.Running.{Argument as SourceArgument, by_value, by_reference}
use Rattle.meaning_forms.specs.Outcome.{Action as SourceAction, pure as source_pure, ◌>>=◌}
use Rattle.region_forms.specs.Form.{load, Argument, int_argument, address_argument, arguments_from, regions_from}
use Rattle.region_forms.specs.World.{number_word, address_word}
use Rattle.region_forms.specs.Evaluation.{words_in}
use Rattle.region_forms.specs.Outcome.{normal}
use Rattle.region_forms.specs.Ending.{Running}
use Rattle.region_forms.specs.Meaning.{followed}
use Rattle.linear_simulation.specs.Watched.{watched_all as regions}
use Rattle.region_forms.specs.LowerExpression.{Lowering, first_temporary, Lowered, LoweredArguments, slot_place, stored_in, place_of, address_passed}
use Rattle.region_simulation.specs.Reach.{KindsFit}
use Rattle.region_simulation.specs.Stands.{context_of}
use Rattle.region_simulation.specs.Alike.{Alike}
use Rattle.region_simulation.specs.Evaluates.{Evaluates, Everywhere}
use Rattle.region_simulation.specs.Passes.{IsGiven, Passes, GivesMeant}
use Rattle.region_simulation.proofs.Following.{keeps_all, alike_less, alike_on, alike_then, reaches_kept, refers_kept}
use Rattle.region_simulation.proofs.Joining.{joined}
use Rattle.region_simulation.proofs.Storing.{with_temporary, stores_first, stored_value, temporary_is, follows_stored}
use Rattle.region_simulation.proofs.Evaluating.{alike_map, help_there}
use Rattle.region_simulation.proofs.Keeping.{Addressed}
use Rattle.region_simulation.proofs.Passing.{words_int, words_address, by_its_value, before_others, IsArgument, done_alike, others_meant, value_argument}

module _ (l : Lowering) (own : Option ℕ) (b : Running) (v : SourceFrame) (c : SourceContext) (fit : KindsFit l b.kinds) where
  -- no arguments
  pub pass_none : (k next : ℕ) → Passes l own b v c k [] (source_pure []) (record { before = []; arguments = []; next = next })
  pass_none k next at w s stands reach =
      done_alike l.layout l.program (IsGiven l.layout l.program b.kinds [] []) at k c w s [] normal stands (refl, ([], refl, tt))

  pub meant_none : GivesMeant l own b v c [] (source_pure []) []
  meant_none at w s stands reach = (refl, ([], refl, tt))

  -- the address of what names stand for, wherever they are in reach
  abbrev pub NamesAddressed : ℕ → (SourceWorld → Reference) → Ty → List Name → Type 0
  NamesAddressed k r t names = Everywhere l own v c (λ at w s. Addressed l b.kinds at k s.frame (r w) (object_type t) names)

  pub pass_address : (k : ℕ) (types : List Ty) (t : Ty) (r : SourceWorld → Reference) (names : List Name) (others : SourceAction (List SourceArgument)) (y : LoweredArguments)
      → is_reference t ≡ true → NamesAddressed k r t names → Passes l own b v c k types others y
      → Passes l own b v c k (t ∷ types) (λ w. before_others others (by_reference (r w)) w) (address_passed (place_of l names) y)
  pass_address k types t r names others y reference addressed rest at w s stands reach =
      let x = addressed at w s stands reach in
      let agree = IsGiven l.layout l.program b.kinds (t ∷ types) (address_argument (place_of l names) ∷ y.arguments) in
      alike_map l.layout l.program (IsGiven l.layout l.program b.kinds types y.arguments) agree at k c w s (others w) _ (λ given. source_pure (by_reference (r w) ∷ given))
      (rest at w s stands reach)
      (λ given flow w2 s2 h (fl, (words, i, same)).
      done_alike l.layout l.program agree h.places k c w2 s2 (by_reference (r w) ∷ given) flow h.stands (
        fl,
        (
          address_word x.address ∷ words,
          words_address b.kinds s2.frame s2.world (place_of l names) y.arguments x.address words (x.stays s2.frame h.keeps) i,
          ((reference, x.address, refers_kept l.layout l.program at k w s c c w2 s2 stands h (r w) (object_type t) x.address x.refers, refl), same),
        ),
      ))

  pub meant_address : (k : ℕ) (types : List Ty) (t : Ty) (r : SourceWorld → Reference) (names : List Name) (others : SourceAction (List SourceArgument)) (args : List Argument)
      → is_reference t ≡ true → NamesAddressed k r t names → GivesMeant l own b v c types others args
      → GivesMeant l own b v c (t ∷ types) (λ w. before_others others (by_reference (r w)) w) (address_argument (place_of l names) ∷ args)
  meant_address k types t r names others args reference addressed rest at w s stands reach =
      let x = addressed at w s stands reach in
      others_meant l.layout l.program at types t w (by_reference (r w)) (address_word x.address) (others w) (words_in b.kinds s.frame s.world (arguments_from args)) _
      (rest at w s stands reach) (reference, x.address, x.refers, refl)
      (λ words i. words_address b.kinds s.frame s.world (place_of l names) args x.address words (x.stays s.frame (keeps_all k s.frame)) i)

  -- an int is stored before the calls of others
  pub pass_stored : (t : ℕ) → first_temporary l ≤ t → (types : List Ty) (u : Ty) → u ≡ Int → (act : SourceAction ℤ) (x : Lowered) (others : SourceAction (List SourceArgument)) (y : LoweredArguments)
      → Evaluates l own b v c t act x → Passes l own b v c (t + 1) types others y
      → Passes l own b v c t (u ∷ types) (by_its_value act >>= before_others others)
      (record { before = x.before ++ stored_in t x.value ∷ y.before; arguments = int_argument (load (slot_place t)) ∷ y.arguments; next = y.next })
  pass_stored t high types u int act x others y first rest at w s stands reach =
      let ctx = context_of w.open_calls c in
      let agree = IsGiven l.layout l.program b.kinds (u ∷ types) (int_argument (load (slot_place t)) ∷ y.arguments) in
      let after = regions b (regions_from (stored_in t x.value ∷ y.before)) ctx in
      subst (λ z. Alike l.layout l.program at t c w s agree ((by_its_value act >>= before_others others) w) z) (sym (joined b ctx x.before (stored_in t x.value ∷ y.before) s))
      (alike_then l.layout l.program (IsArgument b.kinds x.value) agree at t c w s (by_its_value act w) (regions b (regions_from x.before) ctx s) (before_others others) (followed after)
      (value_argument l own b v c fit at t w s x.value (act w) _ (first at w s stands reach))
      (λ a flow w2 s2 h (n, e, (fl, val)).
      let s3 = with_temporary t n s2 in
      let g = follows_stored l.layout l.program h.places t c w2 s2 t n (omega arith) h.stands in
      let reach2 = reaches_kept l own v at t w s c c w2 s2 stands h (omega (arith, high)) reach in
      let reach3 = reaches_kept l own v h.places t w2 s2 c c w2 s3 h.stands g (omega (arith, high)) reach2 in
      let inner : Alike l.layout l.program h.places (t + 1) c w2 s3 (IsGiven l.layout l.program b.kinds types y.arguments) (others w2) (regions b (regions_from y.before) ctx s3) =
      subst (λ m. Alike l.layout l.program h.places (t + 1) c w2 s3 (IsGiven l.layout l.program b.kinds types y.arguments) (others w2)
      (regions b (regions_from y.before) (context_of m c) s3)) h.open_calls (rest h.places w2 s3 g.stands reach3) in
      subst (λ q. Alike l.layout l.program h.places t c w2 s2 agree (before_others others q w2) (followed after flow s2)) (sym e)
      (subst (λ f. Alike l.layout l.program h.places t c w2 s2 agree (before_others others (by_value n) w2) (followed after f s2)) (sym fl)
      (subst (λ z. Alike l.layout l.program h.places t c w2 s2 agree (before_others others (by_value n) w2) z) (sym (stores_first b t x.value n y.before ctx s2 (help_there l own b v c fit t high) val))
      (alike_on l.layout l.program agree h.places t c c w2 s2 w2 s3 g (before_others others (by_value n) w2) (regions b (regions_from y.before) ctx s3)
      (alike_less l.layout l.program agree h.places t (t + 1) c w2 s3 (before_others others (by_value n) w2) (regions b (regions_from y.before) ctx s3) (omega arith)
      (alike_map l.layout l.program (IsGiven l.layout l.program b.kinds types y.arguments) agree h.places (t + 1) c w2 s3 (others w2) (regions b (regions_from y.before) ctx s3)
      (λ given. source_pure (by_value n ∷ given)) inner
      (λ given flow4 w4 s4 h4 (fl4, (words, i, same)).
      let slot : s4.frame.slots t ≡ number_word n = h4.keeps.slots t (omega arith) ∙ temporary_is t n s2 in
      let loaded = stored_value b.kinds t s4.frame s4.world n (help_there l own b v c fit t high) slot in
      done_alike l.layout l.program agree h4.places (t + 1) c w4 s4 (by_value n ∷ given) flow4 h4.stands
      (fl4, (number_word n ∷ words, words_int b.kinds s4.frame s4.world (load (slot_place t)) y.arguments n words loaded i, ((int, refl), same)))))))))))
