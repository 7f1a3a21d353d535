-- Expressions whose values are dropped. Calls do what those do whose values are stored.
use Rattle.std.proofs.Common.{◌≡◌, ℕ, ◌≤◌, ℤ, List, [], ◌∷◌, ◌++◌, Option, None, refl, sym, ap, ◌∙◌, subst, arith}
use Rattle.std.specs.Prelude.{if◌then◌else◌}
use Rattle.cxx_ast.specs.Plain.{Checked, Expression, number, path, paren, unary, binary, call, std_call}
use Rattle.meaning_forms.specs.World.{World as SourceWorld}
use Rattle.meaning_forms.specs.Context.{Context as SourceContext}
use Rattle.meaning_forms.specs.Outcome.{Result as SourceResult, done as source_done, stopped as source_stopped, thrown, cancelled, ended, undefined, out_of_turns, deep, Action as SourceAction}
use Rattle.meaning_forms.specs.Frame.{Frame as SourceFrame}
use Rattle.meaning_forms.specs.Expression.{callee_bound, receiver, parameter_types}
use Rattle.region_forms.specs.Form.{Callee, Arguments, arguments_from, load, call_value, help_slot, Region, op, store, evaluate, call as call_only, regions_from}
use Rattle.region_forms.specs.Layout.{Layout}
use Rattle.region_forms.specs.World.{number_word, Frame}
use Rattle.region_forms.specs.Outcome.{State, Context, Flow, normal, leaves, Result, done, stopped, Action, continued, pure}
use Rattle.region_forms.specs.Ending.{Running, perform}
use Rattle.region_forms.specs.Meaning.{followed, operation}
use Rattle.linear_simulation.specs.Watched.{watched_all as regions}
use Rattle.region_forms.specs.LowerExpression.{Lowering, first_temporary, slot_place, stored_in, Lowered, LoweredCall, call_of, call_stored, call_dropped, lower, lower_arguments, dropped}
use Rattle.region_forms.specs.LowerStatement.{with_value}
use Rattle.region_simulation.specs.Places.{Places}
use Rattle.region_simulation.specs.Reach.{KindsFit}
use Rattle.region_simulation.specs.Stands.{context_of}
use Rattle.region_simulation.specs.Alike.{Keeps, Alike}
use Rattle.region_simulation.specs.Evaluates.{IsComputed, Evaluates}
use Rattle.region_statements.specs.Sequences.{GoesOn}
use Rattle.region_simulation.proofs.Following.{Agreement, keeps_all, keeps_on}
use Rattle.region_simulation.proofs.Joining.{joined, alone}
use Rattle.region_simulation.proofs.Storing.{valued_as, other_number}
use Rattle.region_simulation.proofs.Giving.{Gives, calls_give}

-- the same, but for the frame's slots from the t-th on
abbrev pub Nearly : {A : Type 0} → ℕ → Result A → Result A → Type 0
Nearly {A} t (done a s) y = (g : Frame) × (y ≡ done a (record s { frame = g })) × Keeps t s.frame g
Nearly {A} t (stopped x s) y = y ≡ stopped x s

nearly_itself : {A : Type 0} (t : ℕ) (y : Result A) → Nearly t y y
nearly_itself t (done a s) = (s.frame, refl, keeps_all t s.frame)
nearly_itself t (stopped x s) = refl

-- before others too
nearly_behind : {A B : Type 0} (t : ℕ) (y : Result A) (f g : A → State → Result B) → ((a : A) (s : State) → Nearly t (f a s) (g a s)) → Nearly t (continued y f) (continued y g)
nearly_behind t (done a s) f g so = so a s
nearly_behind t (stopped x s) f g so = refl

-- what follows changes nothing
nearly_answer : {A B : Type 0} (t : ℕ) (y z : Result A) (f : A → B) → Nearly t y z → Nearly t (continued y (λ a. pure (f a))) (continued z (λ a. pure (f a)))
nearly_answer t (done a s) z f (g, e, keeps) = (g, ap (λ q. continued q (λ a. pure (f a))) e, keeps)
nearly_answer t (stopped x s) z f e = ap (λ q. continued q (λ a. pure (f a))) e

module _ (b : Running) (t : ℕ) (help : b.kinds t ≡ help_slot) (c : Context) where
  -- whatever is called
  calls_nearly : (n : Callee) (args : Arguments) (s : State)
      → Nearly t (operation b (store (slot_place t) (call_value n args)) c s) (operation b (call_only n args) c s)
  calls_nearly n args s = go (operation b (store (slot_place t) (call_value n args)) c s) (operation b (call_only n args) c s) (calls_give b c t help None n args s)
    where
      go : (y z : Result (Unit {0})) → Gives b.kinds t None y z → Nearly t y z
      go (stopped x s2) z e = e
      go (done u s2) z (n, s3, is, so) =
          subst (λ s2. Nearly t (done u s2) z) (sym is) (
            s3.frame,
            so s3 refl,
            record { call = refl; slots = λ q lt. sym (ap (λ m. if m then number_word n else s3.frame.slots q) (other_number q t lt)) },
          )

  -- behind what comes before a call
  pub drops_nearly : (before : List Region) (n : Callee) (args : Arguments) (s : State)
      → Nearly t (regions b (regions_from (before ++ stored_in t (call_value n args) ∷ [])) c s) (regions b (regions_from (before ++ op (call_only n args) ∷ [])) c s)
  drops_nearly before n args s =
      subst (λ q. Nearly t q (regions b (regions_from (before ++ op (call_only n args) ∷ [])) c s)) (sym (joined b c before (stored_in t (call_value n args) ∷ []) s))
      (subst (λ q. Nearly t (continued (regions b (regions_from before) c s) (followed (regions b (regions_from (stored_in t (call_value n args) ∷ [])) c))) q)
      (sym (joined b c before (op (call_only n args) ∷ []) s))
      (nearly_behind t (regions b (regions_from before) c s) (followed (regions b (regions_from (stored_in t (call_value n args) ∷ [])) c))
      (followed (regions b (regions_from (op (call_only n args) ∷ [])) c)) (λ flow u. go flow u)))
    where
      go : (flow : Flow) (u : State) → Nearly t (followed (regions b (regions_from (stored_in t (call_value n args) ∷ [])) c) flow u)
          (followed (regions b (regions_from (op (call_only n args) ∷ [])) c) flow u)
      go normal u =
          subst (λ q. Nearly t q (regions b (regions_from (op (call_only n args) ∷ [])) c u)) (sym (alone b c (store (slot_place t) (call_value n args)) u))
          (subst (λ q. Nearly t (continued (operation b (store (slot_place t) (call_value n args)) c u) (λ x. pure normal)) q) (sym (alone b c (call_only n args) u))
          (nearly_answer t (operation b (store (slot_place t) (call_value n args)) c u) (operation b (call_only n args) c u) (λ x. normal) (calls_nearly n args u)))
      go (leaves m) u = nearly_itself t (done (leaves m) u)

module _ (l : Layout) (p : Checked) where
  -- what came out alike still does
  pub alike_nearly : {A B : Type 0} (agree : Agreement A B) (next : A → B → Type 0) (at : Places) (k t : ℕ) (c : SourceContext) (w : SourceWorld) (s : State)
      (x : SourceResult A) (y z : Result B) → k ≤ t → ((a : A) (b : B) (w2 : SourceWorld) (at2 : Places) (s2 : State) → agree a b w2 at2 s2 → next a b)
      → Nearly t y z → Alike l p at k c w s agree x y → Alike l p at k c w s (λ a b w2 at2 s2. next a b) x z
  alike_nearly agree next at k t c w s (source_done a w2) y z le so nearly (b, s2, e, (h, same)) =
      go (subst (λ q. Nearly t q z) e nearly)
    where
      go : Nearly t (done b s2) z → Alike l p at k c w s (λ a b w2 at2 s2. next a b) (source_done a w2) z
      go (g, is, keeps) = (
        b,
        record s2 { frame = g },
        is,
        (
          record {
            places = h.places;
            stay = h.stay;
            objects = h.objects;
            calls = h.calls;
            open_calls = h.open_calls;
            keeps = keeps_on h.keeps (record { call = keeps.call; slots = λ q lt. keeps.slots q (omega (arith, lt, le)) });
            stands = record {
              world = h.stands.world;
              turns = h.stands.turns;
              memory = h.stands.memory;
              globals = h.stands.globals;
              exceptions = h.stands.exceptions;
              made = h.stands.made;
              sound = h.stands.sound;
              handlers = h.stands.handlers;
              kept = h.stands.kept;
            };
          },
          so a b w2 h.places s2 same,
        ),
      )
  alike_nearly agree next at k t c w s (source_stopped (thrown x) w2) y z le so nearly (s2, e, h) = (s2, subst (λ q. Nearly t q z) e nearly, h)
  alike_nearly agree next at k t c w s (source_stopped (cancelled n) w2) y z le so nearly (s2, e, h) = (s2, subst (λ q. Nearly t q z) e nearly, h)
  alike_nearly agree next at k t c w s (source_stopped undefined w2) y z le so nearly h = tt
  alike_nearly agree next at k t c w s (source_stopped (ended x) w2) y z le so nearly (s2, e, h) = (s2, subst (λ q. Nearly t q z) e nearly, h)
  alike_nearly agree next at k t c w s (source_stopped out_of_turns w2) y z le so nearly (s2, e, h) = (s2, subst (λ q. Nearly t q z) e nearly, h)
  alike_nearly agree next at k t c w s (source_stopped deep w2) y z le so nearly (s2, e, h) = (s2, subst (λ q. Nearly t q z) e nearly, h)

  -- regions go on in the state that they came out in
  alike_stays : {A B D : Type 0} (agree : Agreement A B) (next : A → D → Type 0) (at : Places) (k : ℕ) (c : SourceContext) (w : SourceWorld) (s : State)
      (x : SourceResult A) (y : Result B) (g : B → Action D) (q : D)
      → ((a : A) (b : B) (w2 : SourceWorld) (at2 : Places) (s2 : State) → agree a b w2 at2 s2 → (g b s2 ≡ done q s2) × next a q)
      → Alike l p at k c w s agree x y → Alike l p at k c w s (λ a b w2 at2 s2. next a b) x (continued y g)
  alike_stays agree next at k c w s (source_done a w2) y g q so (b, s2, e, (h, same)) =
      let (is, on) = so a b w2 h.places s2 same in (q, s2, ap (λ z. continued z g) e ∙ is, (h, on))
  alike_stays agree next at k c w s (source_stopped (thrown x) w2) y g q so (s2, e, h) = (s2, ap (λ z. continued z g) e, h)
  alike_stays agree next at k c w s (source_stopped (cancelled n) w2) y g q so (s2, e, h) = (s2, ap (λ z. continued z g) e, h)
  alike_stays agree next at k c w s (source_stopped undefined w2) y g q so h = tt
  alike_stays agree next at k c w s (source_stopped (ended x) w2) y g q so (s2, e, h) = (s2, ap (λ z. continued z g) e, h)
  alike_stays agree next at k c w s (source_stopped out_of_turns w2) y g q so (s2, e, h) = (s2, ap (λ z. continued z g) e, h)
  alike_stays agree next at k c w s (source_stopped deep w2) y g q so (s2, e, h) = (s2, ap (λ z. continued z g) e, h)

module _ (l : Lowering) (own : Option ℕ) (b : Running) (v : SourceFrame) (c : SourceContext) (fit : KindsFit l b.kinds) where
  -- a value without calls at its top is computed, and dropped
  evaluate_goes : (act : SourceAction ℤ) (x : Lowered) → Evaluates l own b v c (first_temporary l) act x → GoesOn l own b v c act (with_value x (λ y. op (evaluate y)))
  evaluate_goes act x evaluates at w s stands reach =
      let ctx = context_of w.open_calls c in
      let last = op (evaluate x.value) ∷ [] in
      subst (λ q. Alike l.layout l.program at (first_temporary l) c w s (λ a flow w2 at2 s2. flow ≡ normal) (act w) q) (sym (joined b ctx x.before last s))
      (alike_stays l.layout l.program (IsComputed b.kinds x.value) (λ a flow. flow ≡ normal) at (first_temporary l) c w s (act w) (regions b (regions_from x.before) ctx s)
      (followed (regions b (regions_from last) ctx)) normal
      (λ z flow w2 at2 s2 same. (
        ap (λ q. followed (regions b (regions_from last) ctx) q s2) same.0 ∙
            ap (λ q. continued (continued (perform b q ctx s2) (λ u. pure normal)) (followed (pure normal))) (valued_as b.kinds x.value None s2.frame s2.world z same.1),
        refl,
      )) (evaluates at w s stands reach))

  -- a call
  call_goes : (act : SourceAction ℤ) (y : LoweredCall) → Evaluates l own b v c (first_temporary l) act (call_stored (first_temporary l) y) → GoesOn l own b v c act (call_dropped y)
  call_goes act y evaluates at w s stands reach =
      let t = first_temporary l in
      let ctx = context_of w.open_calls c in
      alike_nearly l.layout l.program (IsComputed b.kinds (load (slot_place t))) (λ a flow. flow ≡ normal) at t t c w s (act w)
      (regions b (regions_from (y.before ++ stored_in t (call_value y.callee (arguments_from y.arguments)) ∷ [])) ctx s)
      (regions b (regions_from (call_dropped y)) ctx s) (omega arith)
      (λ a flow w2 at2 s2 same. same.0) (drops_nearly b t (fit.behind t (omega arith)) ctx y.before y.callee (arguments_from y.arguments) s) (evaluates at w s stands reach)

  -- any expression
  pub dropped_goes : (e : Expression) (act : SourceAction ℤ) → Evaluates l own b v c (first_temporary l) act (lower l e (first_temporary l))
      → GoesOn l own b v c act (dropped l e (first_temporary l))
  dropped_goes (paren e place) act evaluates = dropped_goes e act evaluates
  dropped_goes (call names es) act evaluates =
      call_goes act (call_of l (callee_bound names) (receiver names) es (lower_arguments l es (parameter_types l.program (callee_bound names)) (first_temporary l))) evaluates
  dropped_goes (std_call n es place) act evaluates = call_goes act (call_of l n.bound [] es (lower_arguments l es [] (first_temporary l))) evaluates
  dropped_goes (number x place) act evaluates = evaluate_goes act (lower l (number x place) (first_temporary l)) evaluates
  dropped_goes (path names) act evaluates = evaluate_goes act (lower l (path names) (first_temporary l)) evaluates
  dropped_goes (unary o e place) act evaluates = evaluate_goes act (lower l (unary o e place) (first_temporary l)) evaluates
  dropped_goes (binary o x y) act evaluates = evaluate_goes act (lower l (binary o x y) (first_temporary l)) evaluates
