-- Arguments, one before the others.
use Rattle.std.proofs.Common.{◌≡◌, ℕ, ◌≤◌, ℤ, List, ◌∷◌, Option, Some, refl, sym, ap, ◌∙◌, subst}
use Rattle.cxx_ast.specs.declared.types.Ty.{Ty}
use Rattle.cxx_ast.specs.declared.types.Ty.TheVariants.{Int}
use Rattle.cxx_ast.specs.Plain.{Checked}
use Rattle.meaning_forms.specs.Class.{object_type}
use Rattle.meaning_forms.specs.World.{World as SourceWorld}
use Rattle.meaning_forms.specs.Context.{Context as SourceContext}
use Rattle.meaning_forms.specs.Frame.{Frame as SourceFrame}
use Rattle.meaning_forms.specs.Running.{Argument as SourceArgument, by_value, by_reference}
use Rattle.meaning_forms.specs.Outcome.{Result as SourceResult, done as source_done, stopped as source_stopped, thrown, cancelled, ended, undefined, out_of_turns, deep, Action as SourceAction, continued as source_continued, pure as source_pure, ◌>>=◌}
use Rattle.region_forms.specs.Form.{Kinds, Value, Argument, int_argument, address_argument, arguments_from, Place}
use Rattle.region_forms.specs.Layout.{Layout}
use Rattle.region_forms.specs.World.{Address, Word, number_word, address_word, Frame, World}
use Rattle.region_forms.specs.Evaluation.{with_some, value_in, address_of, words_in}
use Rattle.region_forms.specs.Outcome.{State, Flow, Result, done}
use Rattle.region_forms.specs.Ending.{Running}
use Rattle.region_forms.specs.LowerExpression.{Lowering, result_slot, Lowered}
use Rattle.region_simulation.specs.Places.{Places}
use Rattle.region_simulation.specs.Reach.{KindsFit}
use Rattle.region_simulation.specs.Stands.{Stands}
use Rattle.region_simulation.specs.Value.{IsValue}
use Rattle.region_simulation.specs.Alike.{Follows, Alike}
use Rattle.region_simulation.specs.Calls.{SameArgument, SameArguments}
use Rattle.region_simulation.specs.Evaluates.{IsComputed, Evaluates, IsMeant}
use Rattle.region_simulation.specs.Passes.{ArePassed, IsGiven, Passes, GivesMeant}
use Rattle.region_simulation.proofs.Following.{Agreement, follows_now, reaches_kept, refers_kept}
use Rattle.region_simulation.proofs.Evaluating.{alike_map}

-- the words of arguments, the first before the others
pub words_int : (kinds : Kinds) (f : Frame) (w : World) (y : Value) (args : List Argument) (n : ℤ) (words : List Word) → value_in kinds f w y ≡ Some n
    → words_in kinds f w (arguments_from args) ≡ Some words → words_in kinds f w (arguments_from (int_argument y ∷ args)) ≡ Some (number_word n ∷ words)
words_int kinds f w y args n words e i =
    ap (λ z. with_some (with_some z (λ x. Some (number_word x))) (λ x. with_some (words_in kinds f w (arguments_from args)) (λ xs. Some (x ∷ xs)))) e ∙
    ap (λ z. with_some z (λ xs. Some (number_word n ∷ xs))) i

pub words_address : (kinds : Kinds) (f : Frame) (w : World) (p : Place) (args : List Argument) (a : Address) (words : List Word) → address_of kinds f p ≡ Some a
    → words_in kinds f w (arguments_from args) ≡ Some words → words_in kinds f w (arguments_from (address_argument p ∷ args)) ≡ Some (address_word a ∷ words)
words_address kinds f w p args a words e i =
    ap (λ z. with_some (with_some z (λ x. Some (address_word x))) (λ x. with_some (words_in kinds f w (arguments_from args)) (λ xs. Some (x ∷ xs)))) e ∙
    ap (λ z. with_some z (λ xs. Some (address_word a ∷ xs))) i

-- a value as an argument
abbrev pub by_its_value : SourceAction ℤ → SourceAction SourceArgument
by_its_value act = act >>= (λ v. source_pure (by_value v))

-- an argument before others
abbrev pub before_others : SourceAction (List SourceArgument) → SourceArgument → SourceAction (List SourceArgument)
before_others others a = others >>= (λ given. source_pure (a ∷ given))

-- an argument by value, computed
abbrev pub IsArgument : Kinds → Value → SourceArgument → Flow → SourceWorld → Places → State → Type 0
IsArgument kinds y a flow w at s = (n : ℤ) × (a ≡ by_value n) × IsComputed kinds y n flow w at s

module _ (l : Layout) (p : Checked) where
  pub done_alike : {A B : Type 0} (agree : Agreement A B) (at : Places) (k : ℕ) (c : SourceContext) (w : SourceWorld) (s : State) (a : A) (b : B)
      → Stands l p at c w s → agree a b w at s → Alike l p at k c w s agree (source_done a w) (done b s)
  done_alike agree at k c w s a b stands same = (b, s, refl, (follows_now l p at k c w s stands, same))

  -- others that are computed without a change, behind a first
  pub others_meant : (at : Places) (types : List Ty) (t : Ty) (w : SourceWorld) (a : SourceArgument) (x : Word) (r : SourceResult (List SourceArgument)) (z u : Option (List Word))
      → ArePassed l p at types w r z → SameArgument l p at t a x → ((words : List Word) → z ≡ Some words → u ≡ Some (x ∷ words))
      → ArePassed l p at (t ∷ types) w (source_continued r (λ given. source_pure (a ∷ given))) u
  others_meant at types t w a x (source_done given w2) z u (e, (words, i, same)) first is = (e, (x ∷ words, is words i, (first, same)))
  others_meant at types t w a x (source_stopped undefined w2) z u h first is = tt
  others_meant at types t w a x (source_stopped (thrown e) w2) z u h first is = absurd h
  others_meant at types t w a x (source_stopped (cancelled e) w2) z u h first is = absurd h
  others_meant at types t w a x (source_stopped (ended e) w2) z u h first is = absurd h
  others_meant at types t w a x (source_stopped out_of_turns w2) z u h first is = absurd h
  others_meant at types t w a x (source_stopped deep w2) z u h first is = absurd h

  pub passed_alike : {B : Type 0} (kinds : Kinds) (agree : Agreement (List SourceArgument) B) (at : Places) (k : ℕ) (c : SourceContext) (w : SourceWorld) (s : State) (b : B) (types : List Ty)
      (r : SourceResult (List SourceArgument)) (z : Option (List Word)) → Stands l p at c w s → ArePassed l p at types w r z
      → ((given : List SourceArgument) (words : List Word) → z ≡ Some words → SameArguments l p at types given words → agree given b w at s)
      → Alike l p at k c w s agree r (done b s)
  passed_alike kinds agree at k c w s b types (source_done given w2) z stands (e, (words, i, same)) is =
      subst (λ x. Alike l p at k c w s agree (source_done given x) (done b s)) (sym e) (b, s, refl, (follows_now l p at k c w s stands, is given words i same))
  passed_alike kinds agree at k c w s b types (source_stopped undefined w2) z stands h is = tt
  passed_alike kinds agree at k c w s b types (source_stopped (thrown x) w2) z stands h is = absurd h
  passed_alike kinds agree at k c w s b types (source_stopped (cancelled x) w2) z stands h is = absurd h
  passed_alike kinds agree at k c w s b types (source_stopped (ended x) w2) z stands h is = absurd h
  passed_alike kinds agree at k c w s b types (source_stopped out_of_turns w2) z stands h is = absurd h
  passed_alike kinds agree at k c w s b types (source_stopped deep w2) z stands h is = absurd h

  -- what is passed still is
  pub same_kept : (at : Places) (k : ℕ) (w : SourceWorld) (s : State) (c d : SourceContext) (w2 : SourceWorld) (s2 : State) → Stands l p at c w s
      → (h : Follows l p at k w s d w2 s2) (t : Ty) (a : SourceArgument) (x : Word) → SameArgument l p at t a x → SameArgument l p h.places t a x
  same_kept at k w s c d w2 s2 stands h t (by_value n) x e = e
  same_kept at k w s c d w2 s2 stands h t (by_reference r) x (is, a, refers, e) = (is, a, refers_kept l p at k w s c d w2 s2 stands h r (object_type t) a refers, e)

module _ (l : Lowering) (own : Option ℕ) (b : Running) (v : SourceFrame) (c : SourceContext) (fit : KindsFit l b.kinds) where
  -- without calls: an int, then the others
  pub meant_int : (types : List Ty) (t : Ty) (act : SourceAction ℤ) (y : Value) (others : SourceAction (List SourceArgument)) (args : List Argument) → t ≡ Int
      → IsMeant l own b v c act y → GivesMeant l own b v c types others args
      → GivesMeant l own b v c (t ∷ types) (by_its_value act >>= before_others others) (int_argument y ∷ args)
  meant_int types t act y others args int first rest at w s stands reach =
      go (act w) (value_in b.kinds s.frame s.world y) refl (first at w s stands reach)
    where
      go : (r : SourceResult ℤ) (z : Option ℤ) → value_in b.kinds s.frame s.world y ≡ z → IsValue w r z
          → ArePassed l.layout l.program at (t ∷ types) w (source_continued (source_continued r (λ n. source_pure (by_value n))) (before_others others))
          (words_in b.kinds s.frame s.world (arguments_from (int_argument y ∷ args)))
      go (source_done n w2) z is (e, i) =
          subst (λ u. ArePassed l.layout l.program at (t ∷ types) w (before_others others (by_value n) u) (words_in b.kinds s.frame s.world (arguments_from (int_argument y ∷ args)))) (sym e)
          (others_meant l.layout l.program at types t w (by_value n) (number_word n) (others w) (words_in b.kinds s.frame s.world (arguments_from args)) _ (rest at w s stands reach) (int, refl)
          (λ words j. words_int b.kinds s.frame s.world y args n words (is ∙ i) j))
      go (source_stopped undefined w2) z is h = tt
      go (source_stopped (thrown e) w2) z is h = absurd h
      go (source_stopped (cancelled e) w2) z is h = absurd h
      go (source_stopped (ended e) w2) z is h = absurd h
      go (source_stopped out_of_turns w2) z is h = absurd h
      go (source_stopped deep w2) z is h = absurd h

  pub value_argument : (at : Places) (k : ℕ) (w : SourceWorld) (s : State) (y : Value) (r : SourceResult ℤ) (z : Result Flow)
      → Alike l.layout l.program at k c w s (IsComputed b.kinds y) r z
      → Alike l.layout l.program at k c w s (IsArgument b.kinds y) (source_continued r (λ n. source_pure (by_value n))) z
  value_argument at k w s y r z h =
      alike_map l.layout l.program (IsComputed b.kinds y) (IsArgument b.kinds y) at k c w s r z (λ n. source_pure (by_value n)) h
      (λ n flow w2 s2 g same. done_alike l.layout l.program (IsArgument b.kinds y) g.places k c w2 s2 (by_value n) flow g.stands (n, refl, same))

  -- an int, then others that make no call
  pub pass_quiet : (k next : ℕ) (types : List Ty) (t : Ty) (act : SourceAction ℤ) (x : Lowered) (others : SourceAction (List SourceArgument)) (args : List Argument) → t ≡ Int → result_slot l ≤ k
      → Evaluates l own b v c k act x → GivesMeant l own b v c types others args
      → Passes l own b v c k (t ∷ types) (by_its_value act >>= before_others others) (record { before = x.before; arguments = int_argument x.value ∷ args; next = next })
  pass_quiet k next types t act x others args int le first rest at w s stands reach =
      let agree = IsGiven l.layout l.program b.kinds (t ∷ types) (int_argument x.value ∷ args) in
      alike_map l.layout l.program (IsArgument b.kinds x.value) agree at k c w s (by_its_value act w) _ (before_others others)
      (value_argument at k w s x.value (act w) _ (first at w s stands reach))
      (λ a flow w2 s2 h (n, e, (fl, val)).
      subst (λ q. Alike l.layout l.program h.places k c w2 s2 agree (before_others others q w2) (done flow s2)) (sym e)
      (passed_alike l.layout l.program b.kinds agree h.places k c w2 s2 flow (t ∷ types) (before_others others (by_value n) w2)
      (words_in b.kinds s2.frame s2.world (arguments_from (int_argument x.value ∷ args))) h.stands
      (others_meant l.layout l.program h.places types t w2 (by_value n) (number_word n) (others w2) (words_in b.kinds s2.frame s2.world (arguments_from args)) _
      (rest h.places w2 s2 h.stands (reaches_kept l own v at k w s c c w2 s2 stands h le reach)) (int, refl)
      (λ words j. words_int b.kinds s2.frame s2.world x.value args n words val j))
      (λ given words i same. (fl, (words, i, same)))))
