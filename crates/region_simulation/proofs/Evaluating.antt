-- Values whose operands may make calls.
use Rattle.std.proofs.Common.{◌≡◌, ℕ, ◌+◌, ◌≤◌, ℤ, List, [], ◌∷◌, Option, Some, None, refl, sym, ap, ◌∙◌, subst, arith}
use Rattle.cxx_ast.specs.declared.expression.UnaryOp.{UnaryOp}
use Rattle.cxx_ast.specs.declared.expression.BinaryOp.{BinaryOp}
use Rattle.cxx_ast.specs.Plain.{Checked}
use Rattle.meaning_forms.specs.Arithmetic.{unary_value, binary_value, decided}
use Rattle.meaning_forms.specs.World.{World as SourceWorld}
use Rattle.meaning_forms.specs.Context.{Context as SourceContext}
use Rattle.meaning_forms.specs.Frame.{Frame as SourceFrame}
use Rattle.meaning_forms.specs.Expression.{with_right_side}
use Rattle.meaning_forms.specs.Outcome.{Result as SourceResult, done as source_done, stopped as source_stopped, thrown, cancelled, ended, undefined, out_of_turns, deep, Action as SourceAction, continued as source_continued, ◌>>=◌}
use Rattle.region_forms.specs.Form.{Value, load, unary, binary, help_slot, Region, regions_from}
use Rattle.region_forms.specs.Layout.{Layout}
use Rattle.region_forms.specs.World.{number_word}
use Rattle.region_forms.specs.Evaluation.{with_some, unary_result, binary_result, with_right, value_in}
use Rattle.region_forms.specs.Outcome.{State, Context, Flow, normal, Result, done, stopped, Action, continued, pure}
use Rattle.region_forms.specs.Ending.{Running}
use Rattle.region_forms.specs.Meaning.{followed}
use Rattle.linear_simulation.specs.Watched.{watched_all as regions}
use Rattle.region_forms.specs.LowerExpression.{Lowering, result_slot, first_temporary, Lowered, slot_place, stored_in, left_stored}
use Rattle.region_simulation.specs.Places.{Places}
use Rattle.region_simulation.specs.Reach.{KindsFit}
use Rattle.region_simulation.specs.Stands.{Stands, context_of}
use Rattle.region_simulation.specs.Value.{IsValue}
use Rattle.region_simulation.specs.Alike.{Follows, Alike}
use Rattle.region_simulation.specs.Evaluates.{IsComputed, Evaluates, IsMeant}
use Rattle.region_simulation.proofs.Values.{unary_means, binary_means, right_means}
use Rattle.region_simulation.proofs.Following.{Agreement, follows_now, alike_less, alike_on, alike_then, reaches_kept}
use Rattle.region_simulation.proofs.Joining.{joined}
use Rattle.region_simulation.proofs.Storing.{with_temporary, stores_first, stored_value, temporary_is, follows_stored}

module _ (l : Layout) (p : Checked) where
  -- a value of the source in a state that stays
  pub value_alike : {B : Type 0} (agree : Agreement ℤ B) (at : Places) (k : ℕ) (c : SourceContext) (w : SourceWorld) (s : State) (b : B) (r : SourceResult ℤ) (z : Option ℤ)
      → Stands l p at c w s → IsValue w r z → ((u : ℤ) → z ≡ Some u → agree u b w at s) → Alike l p at k c w s agree r (done b s)
  value_alike agree at k c w s b (source_done u w2) z stands (e, i) same =
      subst (λ x. Alike l p at k c w s agree (source_done u x) (done b s)) (sym e) (b, s, refl, (follows_now l p at k c w s stands, same u i))
  value_alike agree at k c w s b (source_stopped undefined w2) z stands is same = tt
  value_alike agree at k c w s b (source_stopped (thrown e) w2) z stands is same = absurd is
  value_alike agree at k c w s b (source_stopped (cancelled n) w2) z stands is same = absurd is
  value_alike agree at k c w s b (source_stopped (ended e) w2) z stands is same = absurd is
  value_alike agree at k c w s b (source_stopped out_of_turns w2) z stands is same = absurd is
  value_alike agree at k c w s b (source_stopped deep w2) z stands is same = absurd is

  -- the source goes on where regions are done
  pub alike_map : {A B C : Type 0} (agree : Agreement A B) (next : Agreement C B) (at : Places) (k : ℕ) (c : SourceContext) (w : SourceWorld) (s : State)
      (x : SourceResult A) (y : Result B) (f : A → SourceAction C) → Alike l p at k c w s agree x y
      → ((a : A) (b : B) (w2 : SourceWorld) (s2 : State) (h : Follows l p at k w s c w2 s2) → agree a b w2 h.places s2 → Alike l p h.places k c w2 s2 next (f a w2) (done b s2))
      → Alike l p at k c w s next (source_continued x f) y
  alike_map agree next at k c w s x y f first after =
      subst (λ z. Alike l p at k c w s next (source_continued x f) z) (done_is y) (alike_then l p agree next at k c w s x y f pure first after)
    where
      done_is : {B : Type 0} (y : Result B) → continued y pure ≡ y
      done_is (done b s) = refl
      done_is (stopped x s) = refl

  -- a region that is done normally is bounded, and may stand alone
  pub alike_inside : {A : Type 0} (agree : A → SourceWorld → Places → State → Type 0) (at : Places) (k : ℕ) (c : SourceContext) (w : SourceWorld) (s : State)
      (x : SourceResult A) (y : Result Flow) (g : Flow → Action Flow) → ((t : State) → g normal t ≡ done normal t)
      → Alike l p at k c w s (λ a flow w2 at2 s2. (flow ≡ normal) × agree a w2 at2 s2) x y
      → Alike l p at k c w s (λ a flow w2 at2 s2. (flow ≡ normal) × agree a w2 at2 s2) x (continued y g)
  alike_inside agree at k c w s (source_done a w2) y g on (flow, s2, e, (h, same)) =
      (normal, s2, ap (λ z. continued z g) e ∙ ap (λ z. g z s2) same.0 ∙ on s2, (h, (refl, same.1)))
  alike_inside agree at k c w s (source_stopped (thrown x) w2) y g on (s2, e, h) = (s2, ap (λ z. continued z g) e, h)
  alike_inside agree at k c w s (source_stopped (cancelled n) w2) y g on (s2, e, h) = (s2, ap (λ z. continued z g) e, h)
  alike_inside agree at k c w s (source_stopped undefined w2) y g on h = tt
  alike_inside agree at k c w s (source_stopped (ended x) w2) y g on (s2, e, h) = (s2, ap (λ z. continued z g) e, h)
  alike_inside agree at k c w s (source_stopped out_of_turns w2) y g on (s2, e, h) = (s2, ap (λ z. continued z g) e, h)
  alike_inside agree at k c w s (source_stopped deep w2) y g on (s2, e, h) = (s2, ap (λ z. continued z g) e, h)

module _ (l : Lowering) (own : Option ℕ) (b : Running) (v : SourceFrame) (c : SourceContext) (fit : KindsFit l b.kinds) where
  -- nothing comes before a value that is meant
  pub meant_case : (k next : ℕ) (act : SourceAction ℤ) (before : List Region) (y : Value) → before ≡ [] → IsMeant l own b v c act y
      → Evaluates l own b v c k act (record { before = before; value = y; next = next })
  meant_case k next act before y none is at w s stands reach =
      subst (λ rs. Alike l.layout l.program at k c w s (IsComputed b.kinds y) (act w) (regions b (regions_from rs) (context_of w.open_calls c) s)) (sym none)
      (value_alike l.layout l.program (IsComputed b.kinds y) at k c w s normal (act w) (value_in b.kinds s.frame s.world y) stands (is at w s stands reach)
      (λ u e. (refl, e)))

  -- a unary operator
  pub unary_case : (k : ℕ) (op : UnaryOp) (act : SourceAction ℤ) (x : Lowered) → Evaluates l own b v c k act x
      → Evaluates l own b v c k (act >>= unary_value op) (record { before = x.before; value = unary op x.value; next = x.next })
  unary_case k op act x first at w s stands reach =
      alike_map l.layout l.program (IsComputed b.kinds x.value) (IsComputed b.kinds (unary op x.value)) at k c w s (act w) _ (unary_value op) (first at w s stands reach)
      (λ a flow w2 s2 h same. value_alike l.layout l.program (IsComputed b.kinds (unary op x.value)) h.places k c w2 s2 flow (unary_value op a w2) (unary_result op a)
      h.stands (unary_means w2 op a) (λ u e. (same.0, ap (λ z. with_some z (unary_result op)) same.1 ∙ e)))

  -- two operands of which the right one makes no call
  pub quiet_case : (k : ℕ) (op : BinaryOp) (left right : SourceAction ℤ) (x : Lowered) (y : Value) → result_slot l ≤ k → Evaluates l own b v c k left x → IsMeant l own b v c right y
      → Evaluates l own b v c k (left >>= (λ a. with_right_side op a (decided op a) right)) (record { before = x.before; value = binary op x.value y; next = x.next })
  quiet_case k op left right x y le first second at w s stands reach =
      alike_map l.layout l.program (IsComputed b.kinds x.value) (IsComputed b.kinds (binary op x.value y)) at k c w s (left w) _
      (λ a. with_right_side op a (decided op a) right) (first at w s stands reach)
      (λ a flow w2 s2 h same. value_alike l.layout l.program (IsComputed b.kinds (binary op x.value y)) h.places k c w2 s2 flow
      (with_right_side op a (decided op a) right w2) (with_right op a (decided op a) (value_in b.kinds s2.frame s2.world y)) h.stands
      (right_means w2 op a (decided op a) right (value_in b.kinds s2.frame s2.world y)
      (second h.places w2 s2 h.stands (reaches_kept l own v at k w s c c w2 s2 stands h le reach)))
      (λ u e. (same.0, ap (λ z. with_some z (λ n. with_right op n (decided op n) (value_in b.kinds s2.frame s2.world y))) same.1 ∙ e)))

  module _ (t : ℕ) (high : first_temporary l ≤ t) where
    pub help_there : b.kinds t ≡ help_slot
    help_there = fit.behind t (omega (arith, high))

    -- a value is stored in the slot, and nothing comes after
    pub store_last : (at : Places) (w : SourceWorld) (s : State) (d : Context) (y : Value) (n : ℤ) → Stands l.layout l.program at c w s → value_in b.kinds s.frame s.world y ≡ Some n
        → Alike l.layout l.program at t c w s (IsComputed b.kinds (load (slot_place t))) (source_done n w) (regions b (regions_from (stored_in t y ∷ [])) d s)
    store_last at w s d y n stands e = (
      normal,
      with_temporary t n s,
      stores_first b t y n [] d s help_there e,
      (
        follows_stored l.layout l.program at t c w s t n (omega arith) stands,
        (refl, stored_value b.kinds t (with_temporary t n s).frame s.world n help_there (temporary_is t n s)),
      ),
    )

    -- the left operand is stored before the calls of the right one
    pub stored_case : (op : BinaryOp) (left right : SourceAction ℤ) (x y : Lowered) → ((a : ℤ) → decided op a ≡ None)
        → Evaluates l own b v c t left x → Evaluates l own b v c (t + 1) right y
        → Evaluates l own b v c t (left >>= (λ a. with_right_side op a (decided op a) right)) (left_stored op t x y)
    stored_case op left right x y none first second at w s stands reach =
        let ctx = context_of w.open_calls c in
        let value = binary op (load (slot_place t)) y.value in
        let next = IsComputed b.kinds value in
        subst (λ z. Alike l.layout l.program at t c w s next ((left >>= (λ a. with_right_side op a (decided op a) right)) w) z)
        (sym (joined b ctx x.before (stored_in t x.value ∷ y.before) s))
        (alike_then l.layout l.program (IsComputed b.kinds x.value) next at t c w s (left w) (regions b (regions_from x.before) ctx s)
        (λ a. with_right_side op a (decided op a) right) (followed (regions b (regions_from (stored_in t x.value ∷ y.before)) ctx)) (first at w s stands reach)
        (λ a flow w2 s2 h same.
        let s3 = with_temporary t a s2 in
        let g = follows_stored l.layout l.program h.places t c w2 s2 t a (omega arith) h.stands in
        let reach2 = reaches_kept l own v at t w s c c w2 s2 stands h (omega (arith, high)) reach in
        let reach3 = reaches_kept l own v h.places t w2 s2 c c w2 s3 h.stands g (omega (arith, high)) reach2 in
        let inner : Alike l.layout l.program h.places (t + 1) c w2 s3 (IsComputed b.kinds y.value) (right w2) (regions b (regions_from y.before) ctx s3) =
        subst (λ n. Alike l.layout l.program h.places (t + 1) c w2 s3 (IsComputed b.kinds y.value) (right w2) (regions b (regions_from y.before) (context_of n c) s3))
        h.open_calls (second h.places w2 s3 g.stands reach3) in
        subst (λ f. Alike l.layout l.program h.places t c w2 s2 next (with_right_side op a (decided op a) right w2)
        (followed (regions b (regions_from (stored_in t x.value ∷ y.before)) ctx) f s2)) (sym same.0)
        (subst (λ z. Alike l.layout l.program h.places t c w2 s2 next (with_right_side op a (decided op a) right w2) z)
        (sym (stores_first b t x.value a y.before ctx s2 help_there same.1))
        (subst (λ d. Alike l.layout l.program h.places t c w2 s2 next (with_right_side op a d right w2) (regions b (regions_from y.before) ctx s3)) (sym (none a))
        (alike_on l.layout l.program next h.places t c c w2 s2 w2 s3 g (source_continued (right w2) (binary_value op a)) (regions b (regions_from y.before) ctx s3)
        (alike_less l.layout l.program next h.places t (t + 1) c w2 s3 (source_continued (right w2) (binary_value op a)) (regions b (regions_from y.before) ctx s3) (omega arith)
        (alike_map l.layout l.program (IsComputed b.kinds y.value) next h.places (t + 1) c w2 s3 (right w2) (regions b (regions_from y.before) ctx s3) (binary_value op a) inner
        (λ n flow3 w4 s4 h4 same4.
        let slot : s4.frame.slots t ≡ number_word a = h4.keeps.slots t (omega arith) ∙ temporary_is t a s2 in
        let loaded = stored_value b.kinds t s4.frame s4.world a help_there slot in
        value_alike l.layout l.program next h4.places (t + 1) c w4 s4 flow3 (binary_value op a n w4) (binary_result op a n) h4.stands (binary_means w4 op a n)
        (λ u e. (
          same4.0,
          ap (λ z. with_some z (λ m. with_right op m (decided op m) (value_in b.kinds s4.frame s4.world y.value))) loaded ∙
              ap (λ d. with_right op a d (value_in b.kinds s4.frame s4.world y.value)) (none a) ∙ ap (λ z. with_some z (binary_result op a)) same4.1 ∙ e,
        ))))))))))
