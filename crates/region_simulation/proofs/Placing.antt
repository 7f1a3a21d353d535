-- The value of an expression goes to a place: that of a call by the operation that makes the call.
use Rattle.std.specs.Prelude.{if◌then◌else◌}
use Rattle.std.proofs.Common.{◌≡◌, ℕ, ◌≤◌, ℤ, List, [], ◌∷◌, ◌++◌, Option, Some, refl, sym, ap, ◌∙◌, subst, arith, append_assoc}
use Rattle.cxx_ast.specs.Plain.{Expression, number, path, paren, unary, binary, call, std_call}
use Rattle.meaning_forms.specs.World.{World as SourceWorld}
use Rattle.meaning_forms.specs.Context.{Context as SourceContext}
use Rattle.meaning_forms.specs.Outcome.{Result as SourceResult, done as source_done, stopped as source_stopped, thrown, cancelled, ended, undefined, out_of_turns, deep, Action as SourceAction, continued as source_continued}
use Rattle.meaning_forms.specs.Frame.{Frame as SourceFrame}
use Rattle.meaning_forms.specs.Expression.{callee_bound, receiver, parameter_types}
use Rattle.region_forms.specs.Form.{Place, help_slot, load, call_value, arguments_from, Region, op, store, regions_from}
use Rattle.region_forms.specs.World.{number_word}
use Rattle.region_forms.specs.Effect.{finished}
use Rattle.region_forms.specs.Outcome.{State, Context, Flow, normal, leaves, Result, done, stopped, continued, pure}
use Rattle.region_forms.specs.Ending.{Running, perform, settled}
use Rattle.region_forms.specs.Meaning.{followed, operation}
use Rattle.linear_simulation.specs.Watched.{watched_all as regions}
use Rattle.region_forms.specs.LowerExpression.{Lowering, first_temporary, slot_place, stored_in, Lowered, LoweredCall, call_of, call_placed, call_stored, lower, lower_arguments, lower_store}
use Rattle.region_simulation.specs.Places.{Places}
use Rattle.region_simulation.specs.Reach.{KindsFit, Reaches}
use Rattle.region_simulation.specs.Stands.{Stands, context_of}
use Rattle.region_simulation.specs.Alike.{Follows, Alike}
use Rattle.region_simulation.specs.Evaluates.{IsComputed, Evaluates}
use Rattle.region_simulation.proofs.Following.{Agreement, follows_less, alike_less}
use Rattle.region_simulation.proofs.Joining.{joined, alone}
use Rattle.region_simulation.proofs.Paths.{some_same}
use Rattle.region_simulation.proofs.Storing.{with_temporary, valued_as, stored_value, temporary_is, other_number}
use Rattle.region_simulation.proofs.Flowing.{alike_seq}
use Rattle.region_simulation.proofs.Giving.{Gives, settles, calls_give}

module _ (l : Lowering) (own : Option ℕ) (b : Running) (v : SourceFrame) (c : SourceContext) (fit : KindsFit l b.kinds) (t : ℕ) (high : first_temporary l ≤ t)
    (k : ℕ) (le : k ≤ t) (q : Place) (ys : List Region) where
  -- regions came out with the value of a call in slot t; others come out in what follows its storing in the place
  abbrev Brings : Context → Result Flow → Result Flow → Type 0
  Brings d (done normal s2) y =
      (n : ℤ) × (s : State) × (s2 ≡ with_temporary t n s) × ((s3 : State) → settled (finished b.kinds (Some q) n s.frame s.world) s ≡ done tt s3 → y ≡ regions b (regions_from ys) d s3)
  Brings d (done (leaves m) s2) y = Unit {0}
  Brings d (stopped x s) y = y ≡ stopped x s

  brings : (d : Context) (y : LoweredCall) (s : State)
      → Brings d (regions b (regions_from (y.before ++ stored_in t (call_value y.callee (arguments_from y.arguments)) ∷ [])) d s) (regions b (regions_from (call_placed q y ++ ys)) d s)
  brings d y s =
      let value = call_value y.callee (arguments_from y.arguments) in
      let last = stored_in t value ∷ [] in
      let placed = op (store q value) ∷ ys in
      subst (λ rs. Brings d (regions b (regions_from (y.before ++ last)) d s) (regions b (regions_from rs) d s)) (sym (append_assoc y.before (op (store q value) ∷ []) ys))
      (subst (λ z. Brings d z (regions b (regions_from (y.before ++ placed)) d s)) (sym (joined b d y.before last s))
      (subst (λ z. Brings d (continued (regions b (regions_from y.before) d s) (followed (regions b (regions_from last) d))) z) (sym (joined b d y.before placed s))
      (go (regions b (regions_from y.before) d s))))
    where
      stored : (r o : Result (Unit {0})) → Gives b.kinds t (Some q) r o → Brings d (continued r (λ u. pure normal)) (continued (continued o (λ u. pure normal)) (followed (regions b (regions_from ys) d)))
      stored (done u s2) o (n, s0, e, so) = (n, s0, e, λ s3 is. ap (λ z. continued (continued z (λ u. pure normal)) (followed (regions b (regions_from ys) d))) (so s3 is))
      stored (stopped x s2) o e = ap (λ z. continued (continued z (λ u. pure normal)) (followed (regions b (regions_from ys) d))) e

      go : (x : Result Flow) → Brings d (continued x (followed (regions b (regions_from (stored_in t (call_value y.callee (arguments_from y.arguments)) ∷ [])) d)))
          (continued x (followed (regions b (regions_from (op (store q (call_value y.callee (arguments_from y.arguments))) ∷ ys)) d)))
      go (stopped x u) = refl
      go (done (leaves m) u) = tt
      go (done normal u) =
          let value = call_value y.callee (arguments_from y.arguments) in
          subst (λ z. Brings d z (regions b (regions_from (op (store q value) ∷ ys)) d u)) (sym (alone b d (store (slot_place t) value) u))
          (stored (operation b (store (slot_place t) value) d u) (operation b (store q value) d u)
          (calls_give b d t (fit.behind t (omega (arith, high))) (Some q) y.callee (arguments_from y.arguments) u))

  -- what follows a value that is stored in the place
  abbrev Then : {C : Type 0} → Agreement C Flow → (ℤ → SourceAction C) → Places → SourceWorld → State → Type 0
  Then {C} next f at w s =
      (n : ℤ) (w2 : SourceWorld) (s2 : State) (h : Follows l.layout l.program at k w s c w2 s2)
      → (s3 : State) × (settled (finished b.kinds (Some q) n s2.frame s2.world) s2 ≡ done tt s3)
      × Alike l.layout l.program at k c w s next (f n w2) (regions b (regions_from ys) (context_of w.open_calls c) s3)

  module _ {C : Type 0} (next : Agreement C Flow) (f : ℤ → SourceAction C) (at : Places) (w : SourceWorld) (s : State) where
    -- a call's value
    alike_brought : (r : SourceResult ℤ) (y z : Result Flow) → Brings (context_of w.open_calls c) y z
        → Alike l.layout l.program at t c w s (IsComputed b.kinds (load (slot_place t))) r y → Then next f at w s → Alike l.layout l.program at k c w s next (source_continued r f) z
    alike_brought (source_done m w2) y z brought (flow, s2, e, (h, same)) after =
        go (subst (λ x. Brings (context_of w.open_calls c) (done x s2) z) same.0 (subst (λ x. Brings (context_of w.open_calls c) x z) e brought))
      where
        help : b.kinds t ≡ help_slot
        help = fit.behind t (omega (arith, high))

        before : (n : ℤ) (s0 : State) → Follows l.layout l.program at t w s c w2 (with_temporary t n s0) → Follows l.layout l.program at k w s c w2 s0
        before n s0 g = record {
          places = g.places;
          stay = g.stay;
          objects = g.objects;
          calls = g.calls;
          open_calls = g.open_calls;
          keeps = record {
            call = g.keeps.call;
            slots = λ j lt. sym (ap (λ x. if x then number_word n else s0.frame.slots j) (other_number j t (omega (arith, lt, le)))) ∙ g.keeps.slots j (omega (arith, lt, le));
          };
          stands = record {
            world = g.stands.world;
            turns = g.stands.turns;
            memory = g.stands.memory;
            globals = g.stands.globals;
            exceptions = g.stands.exceptions;
            made = g.stands.made;
            sound = g.stands.sound;
            handlers = g.stands.handlers;
            kept = g.stands.kept;
          };
        }

        go : Brings (context_of w.open_calls c) (done normal s2) z → Alike l.layout l.program at k c w s next (f m w2) z
        go (n, s0, is, so) =
            let read = stored_value b.kinds t s2.frame s2.world n help (ap (λ u. u.frame.slots t) is ∙ temporary_is t n s0) in
            let is_m : n ≡ m = some_same (sym read ∙ same.1) in
            let (s3, stored, alike) = after m w2 s0 (before n s0 (subst (λ u. Follows l.layout l.program at t w s c w2 u) is h)) in
            subst (λ x. Alike l.layout l.program at k c w s next (f m w2) x)
            (sym (so s3 (ap (λ i. settled (finished b.kinds (Some q) i s0.frame s0.world) s0) is_m ∙ stored))) alike
    alike_brought (source_stopped (thrown x) w2) y z brought (s2, e, h) after =
        (s2, subst (λ u. Brings (context_of w.open_calls c) u z) e brought, follows_less l.layout l.program at k t w s _ w2 s2 le h)
    alike_brought (source_stopped (cancelled n) w2) y z brought (s2, e, h) after =
        (s2, subst (λ u. Brings (context_of w.open_calls c) u z) e brought, follows_less l.layout l.program at k t w s _ w2 s2 le h)
    alike_brought (source_stopped undefined w2) y z brought h after = tt
    alike_brought (source_stopped (ended x) w2) y z brought (s2, e, h) after = (s2, subst (λ u. Brings (context_of w.open_calls c) u z) e brought, h)
    alike_brought (source_stopped out_of_turns w2) y z brought (s2, e, h) after = (s2, subst (λ u. Brings (context_of w.open_calls c) u z) e brought, h)
    alike_brought (source_stopped deep w2) y z brought (s2, e, h) after = (s2, subst (λ u. Brings (context_of w.open_calls c) u z) e brought, h)

    -- a value that is no call
    alike_valued : (x : Lowered) (r : SourceResult ℤ)
        → Alike l.layout l.program at t c w s (IsComputed b.kinds x.value) r (regions b (regions_from x.before) (context_of w.open_calls c) s) → Then next f at w s
        → Alike l.layout l.program at k c w s next (source_continued r f) (regions b (regions_from ((x.before ++ op (store q x.value) ∷ []) ++ ys)) (context_of w.open_calls c) s)
    alike_valued x r computed after =
        let d = context_of w.open_calls c in
        let placed = op (store q x.value) ∷ ys in
        subst (λ rs. Alike l.layout l.program at k c w s next (source_continued r f) (regions b (regions_from rs) d s)) (sym (append_assoc x.before (op (store q x.value) ∷ []) ys))
        (subst (λ z. Alike l.layout l.program at k c w s next (source_continued r f) z) (sym (joined b d x.before placed s))
        (alike_seq l.layout l.program (IsComputed b.kinds x.value) next at k c w s r (regions b (regions_from x.before) d s) f (followed (regions b (regions_from placed) d))
        (alike_less l.layout l.program (IsComputed b.kinds x.value) at k t c w s r (regions b (regions_from x.before) d s) le computed)
        (λ n flow w2 s2 h same.
        let (s3, stored, alike) = after n w2 s2 h in
        subst (λ z. Alike l.layout l.program at k c w s next (f n w2) (followed (regions b (regions_from placed) d) z s2)) (sym same.0)
        (subst (λ z. Alike l.layout l.program at k c w s next (f n w2) (continued (continued z (λ u. pure normal)) (followed (regions b (regions_from ys) d))))
        (sym (ap (λ z. perform b z d s2) (valued_as b.kinds x.value (Some q) s2.frame s2.world n same.1) ∙ settles b d (Some q) n s2.frame s2.world s2 s3 stored)) alike))))

  -- any expression
  pub stored_then : {C : Type 0} (next : Agreement C Flow) (f : ℤ → SourceAction C) (e : Expression) (act : SourceAction ℤ) → Evaluates l own b v c t act (lower l e t)
      → (at : Places) (w : SourceWorld) (s : State) → Stands l.layout l.program at c w s → Reaches l own at v s.frame → Then next f at w s
      → Alike l.layout l.program at k c w s next (source_continued (act w) f) (regions b (regions_from (lower_store l e q t ++ ys)) (context_of w.open_calls c) s)
  stored_then next f e act evaluates at w s stands reach after = go e (evaluates at w s stands reach)
    where
      d : Context
      d = context_of w.open_calls c

      called : (y : LoweredCall) → Alike l.layout l.program at t c w s (IsComputed b.kinds (load (slot_place t))) (act w) (regions b (regions_from (call_stored t y).before) d s)
          → Alike l.layout l.program at k c w s next (source_continued (act w) f) (regions b (regions_from (call_placed q y ++ ys)) d s)
      called y computed =
          alike_brought next f at w s (act w) (regions b (regions_from (y.before ++ stored_in t (call_value y.callee (arguments_from y.arguments)) ∷ [])) d s)
          (regions b (regions_from (call_placed q y ++ ys)) d s) (brings d y s) computed after

      go : (e : Expression) → Alike l.layout l.program at t c w s (IsComputed b.kinds (lower l e t).value) (act w) (regions b (regions_from (lower l e t).before) d s)
          → Alike l.layout l.program at k c w s next (source_continued (act w) f) (regions b (regions_from (lower_store l e q t ++ ys)) d s)
      go (paren e place) computed = go e computed
      go (call names es) computed = called (call_of l (callee_bound names) (receiver names) es (lower_arguments l es (parameter_types l.program (callee_bound names)) t)) computed
      go (std_call n es place) computed = called (call_of l n.bound [] es (lower_arguments l es [] t)) computed
      go (number x place) computed = alike_valued next f at w s (lower l (number x place) t) (act w) computed after
      go (path names) computed = alike_valued next f at w s (lower l (path names) t) (act w) computed after
      go (unary o e place) computed = alike_valued next f at w s (lower l (unary o e place) t) (act w) computed after
      go (binary o x y) computed = alike_valued next f at w s (lower l (binary o x y) t) (act w) computed after
