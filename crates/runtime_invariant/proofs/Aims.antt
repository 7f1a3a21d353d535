-- No runtime call but one that enters an exception changes its header while it is on its way.
use Rattle.std.proofs.Common.{◌≡◌, ◌∙◌, refl, sym, ap, subst, ℕ, zero, suc, ◌+◌, ◌==◌, drop, slice_get, slice_set, Bool, true, false, cond, ◌||◌, not, List, [], ◌∷◌, ◌++◌, Option, Some, None, is_some, inl, inr, ℤ, pos, negsuc}
use Rattle.eh_bytes.specs.declared.unit.RuntimeRecord.{RuntimeRecord}
use Rattle.eh_outer.specs.Module.{reply_of}
use Rattle.eh_outer.specs.declared.module.Reply.{Reply}
use Rattle.eh_outer.specs.declared.module.Reply.TheVariants.{Value, Raise}
use Rattle.run_items.specs.declared.item.Item.{Item}
use Rattle.run_items.specs.declared.item.Item.TheVariants as items
use Rattle.rv64_isa.specs.State.{State}
use Rattle.rv64_isa.specs.Step.{step_of}
use Rattle.rv64_isa.specs.declared.step.Step.{Step}
use Rattle.rv64_isa.specs.declared.step.Step.TheVariants as steps
use Rattle.table_forms.specs.Verdict.{native, foreign}
use Rattle.raise_core.specs.declared.raised.Raised.{Raised}
use Rattle.raise_core.specs.declared.raised.Raised.TheVariants as answers
use Rattle.raise_core.specs.Raise as unwinder
use Rattle.caught_stack.specs.declared.header.Header.{Header}
use Rattle.caught_stack.specs.declared.header.HeaderKind.{HeaderKind}
use Rattle.caught_stack.specs.declared.header.HeaderKind.TheVariants as kinds
use Rattle.caught_stack.specs.Caught.{Caught, newest}
use Rattle.caught_stack.specs.End.{ended, ended_on}
use Rattle.caught_stack.specs.Exceptions.{Exceptions}
use Rattle.caught_stack.specs.Live.{Live, header_of, is_vacant}
use Rattle.caught_stack.specs.Rethrow.{rethrown_on}
use Rattle.caught_stack.proofs.Headers.{header_changed, vacant_not_live}
use Rattle.cxa_runtime.specs.declared.call.Call.{Call}
use Rattle.cxa_runtime.specs.declared.call.Call.TheVariants as calls
use Rattle.cxa_runtime.specs.declared.effect.Effect.TheVariants.{Goes, Exits, Aborts, Overflows, Fails}
use Rattle.cxa_runtime.specs.declared.effect.Turn.TheVariants.{On, Ended as EndedTurn}
use Rattle.cxa_runtime.specs.declared.object.Object.{Object}
use Rattle.cxa_runtime.specs.Allocate.{made_in, new_header}
use Rattle.cxa_runtime.specs.Call.{call_effect, made_call, numbered}
use Rattle.cxa_runtime.specs.Cancel.{forced_as}
use Rattle.cxa_runtime.specs.Catch.{begins_catch, entered, is_crowded, leaves, told}
use Rattle.cxa_runtime.specs.Flying.{one_uncaught}
use Rattle.cxa_runtime.specs.Foreign.{asked, foreign_made, foreign_object, module_number, raised_in, replied}
use Rattle.cxa_runtime.specs.Leaving.{left_by, let_go, newest_object}
use Rattle.cxa_runtime.specs.MayBegin.{may_begin}
use Rattle.cxa_runtime.specs.Number.{as_int}
use Rattle.cxa_runtime.specs.Objects.{is_building, is_native, is_thrown, object_in, object_where, slot_for, first_vacant_from}
use Rattle.cxa_runtime.specs.Plain.{read_from}
use Rattle.cxa_runtime.specs.Raising.{Image, raised_as, resumed_as, thrown_of, unhandled}
use Rattle.cxa_runtime.specs.Run.{Turned, Ran, and_more, called, run, stepped, turn}
use Rattle.cxa_runtime.specs.Terminate.{terminates}
use Rattle.cxa_runtime.specs.Throw.{flying, native_object, rethrows, rethrows_object}
use Rattle.cxa_runtime.specs.Types.{type_records}
use Rattle.cxa_runtime.specs.Unexpected.{answer_of, begins_unexpected}
use Rattle.cxa_runtime.specs.World.{World, Outcome, argument, a0, a1, a2, needs, shows, with_exceptions}
use Rattle.cxa_runtime.proofs.Changes.{below_of, newest_known, object_known}
use Rattle.cxa_runtime.proofs.ForeignCounts.{first_known, where_known}
use Rattle.machine_pieces.specs.Turning.{with_items}
use Rattle.runtime_invariant.specs.Aims.{TravelsFrom, IsOnItsWay, is_entered, HeadersStayAimed}
use Rattle.runtime_invariant.proofs.Calls.{Stays, entered_both, other_set, other_caught, ended_travels, stays_entered}

module _ (slot : ℕ) (h : Header) where
  -- the exception is on its way
  abbrev Flies : World → Type 0
  Flies w = IsOnItsWay slot h w.exceptions

  abbrev EndsStay : Outcome → Type 0
  EndsStay o = Stays slot h o.1

  -- ---- what calls are made of

  stays_either : (b : Bool) (y z : Outcome) → EndsStay y → EndsStay z → EndsStay (cond b y z)
  stays_either true y z f g = f
  stays_either false y z f g = g

  stays_needs : {A : Type 0} (w : World) (o : Option A) (call : A → Outcome) → Flies w → ((a : A) → o ≡ Some a → EndsStay (call a)) → EndsStay (needs w o call)
  stays_needs w None call f g = inl f
  stays_needs w (Some a) call f g = g a refl

  stays_terminates : (places : RuntimeRecord) (handler : ℕ) (w : World) → Stays slot h w → EndsStay (terminates places handler w)
  stays_terminates places handler w f = stays_either w.terminating _ _ f f

  -- what travels is not what a call changes: it was thrown, and what is built was not
  unbuilt : (w : World) (s : ℕ) (x : Header) → header_of w.exceptions.live s ≡ Some x → is_building x.kind ≡ true → Flies w → s ≡ slot → ⊥
  unbuilt w s x at builds f same =
      let headers : Some x ≡ Some h = sym at ∙ ap (header_of w.exceptions.live) same ∙ f.there in
      let one : x ≡ h = cc headers in
      let both : false ≡ true = ap not (sym builds) ∙ ap (λ (y : Header). is_thrown y.kind) one ∙ f.thrown in
      cc both

  stays_unhandled : (places : RuntimeRecord) (before : Exceptions) (o : Object) (w : World) (kind : HeaderKind) → (is_native kind ≡ true → header_of w.exceptions.live o.slot ≡ Some o.header) → TravelsFrom slot before.caught → Flies w →
      EndsStay (unhandled places before o w kind)
  stays_unhandled places before o w (kinds.Native type destructor) at g f =
      stays_either w.terminating _ _ (stays_terminates places o.header.handlers.0 w (inl f)) (stays_terminates places o.header.handlers.0 (entered o w) (stays_entered slot h o w (at refl) f))
  stays_unhandled places before o w kinds.Building at g f = stays_either w.terminating _ _ (inl (other_caught slot h w.exceptions before.caught before.uncaught g f)) (inl (other_caught slot h w.exceptions before.caught before.uncaught g f))
  stays_unhandled places before o w (kinds.Foreign j t) at g f = stays_either w.terminating _ _ (inl (other_caught slot h w.exceptions before.caught before.uncaught g f)) (inl (other_caught slot h w.exceptions before.caught before.uncaught g f))

  stays_raised : (places : RuntimeRecord) (before : Exceptions) (o : Object) (w : World) (answer : Raised × State) → (o.slot ≡ slot → ⊥) → (is_native o.header.kind ≡ true → header_of w.exceptions.live o.slot ≡ Some o.header) →
      TravelsFrom slot before.caught → Flies w → EndsStay (raised_as places before o w answer)
  stays_raised places before o w (answers.Install pad selector cfa lsda, s) apart at g f = inl (other_set slot h w.exceptions o.slot _ apart f)
  stays_raised places before o w (answers.NoHandler, s) apart at g f = stays_unhandled places before o w o.header.kind at g f
  stays_raised places before o w (answers.Terminate, s) apart at g f = stays_unhandled places before o w o.header.kind at g f
  stays_raised places before o w (answers.Fault kind, s) apart at g f = inl f

  stays_resumed : (places : RuntimeRecord) (o : Object) (w : World) (answer : Raised × State) → Flies w → EndsStay (resumed_as places o w answer)
  stays_resumed places o w (answers.Install pad selector cfa lsda, s) f = inl f
  stays_resumed places o w (answers.NoHandler, s) f = inl f
  stays_resumed places o w (answers.Terminate, s) f = stays_terminates places w.terminate_handler w (inl f)
  stays_resumed places o w (answers.Fault kind, s) f = inl f

  stays_forced : (places : RuntimeRecord) (n : ℤ) (w : World) (answer : Raised × State) → Flies w → EndsStay (forced_as places n w answer)
  stays_forced places n w (answers.Install pad selector cfa lsda, s) f = inl f
  stays_forced places n w (answers.NoHandler, s) f = inl f
  stays_forced places n w (answers.Terminate, s) f = stays_terminates places w.terminate_handler w (inl f)
  stays_forced places n w (answers.Fault kind, s) f = inl f

  -- ---- new exceptions

  none_of : (x : Option Header) → is_some x ≡ false → x ≡ None
  none_of None e = refl
  none_of (Some y) e = absurd (cc e)

  given_none : (live : Live) (wish given : ℕ) → slot_for live wish ≡ Some given → header_of live given ≡ None
  given_none live wish given e = by (is_vacant live wish) refl
    where
      by : (b : Bool) → is_vacant live wish ≡ b → header_of live given ≡ None
      by true v =
          let is : Some wish ≡ Some given = sym (ap (λ c. cond c (Some wish) (first_vacant_from 0 live)) v) ∙ e in
          let same : wish ≡ given = cc is in
          ap (header_of live) (sym same) ∙ none_of (header_of live wish) (vacant_not_live live wish v)
      by false v = (first_known live given (sym (ap (λ c. cond c (Some wish) (first_vacant_from 0 live)) v) ∙ e)).1

  new_apart : (w : World) (wish given : ℕ) → slot_for w.exceptions.live wish ≡ Some given → Flies w → given ≡ slot → ⊥
  new_apart w wish given e f same = let both : None ≡ Some h = sym (given_none w.exceptions.live wish given e) ∙ ap (header_of w.exceptions.live) same ∙ f.there in cc both

  stays_made_in : (places : RuntimeRecord) (w : World) (wish : ℕ) (given : Option ℕ) → slot_for w.exceptions.live wish ≡ given → Flies w → EndsStay (made_in places w given)
  stays_made_in places w wish None e f = stays_terminates places w.terminate_handler w (inl f)
  stays_made_in places w wish (Some given) e f = inl (other_set slot h w.exceptions given _ (new_apart w wish given e f) f)

  stays_raised_in : (image : Image) (w : World) (j t wish : ℕ) (given : Option ℕ) → slot_for w.exceptions.live wish ≡ given → Flies w → EndsStay (raised_in image w j t given)
  stays_raised_in image w j t wish None e f = stays_terminates image.places w.terminate_handler w (inl f)
  stays_raised_in image w j t wish (Some given) e f =
      let made = foreign_made j t given w in
      let apart = new_apart w wish given e f in
      let kept = other_set slot h w.exceptions given (Some (new_header (w.last_number + 1) (kinds.Foreign j t))) apart f in
      stays_raised image.places made.exceptions (foreign_object w j t given) (with_exceptions (one_uncaught made.exceptions) made) (unwinder.raise image.fdes foreign w.hart) apart (λ n. absurd (cc n)) f.travels
      (record { there = kept.there; thrown = kept.thrown; travels = kept.travels })

  stays_replied : (image : Image) (wish : ℕ) (w : World) (j : ℕ) (reply : Reply) → Flies w → EndsStay (replied image wish w j reply)
  stays_replied image wish w j (Value n) f = inl f
  stays_replied image wish w j (Raise t) f = stays_raised_in image w j t wish (slot_for w.exceptions.live wish) refl f

  stays_asked : (image : Image) (wish : ℕ) (w : World) (j : ℕ) (left : Option (List Reply)) → Flies w → EndsStay (asked image wish w j left)
  stays_asked image wish w j None f = inl f
  stays_asked image wish w j (Some replies) f = stays_replied image wish (record w { replies = slice_set w.replies j (drop 1 replies) }) j (reply_of replies) f

  stays_read : (w : World) (left : List ℕ) → Flies w → EndsStay (read_from w left)
  stays_read w [] f = inl f
  stays_read w (b ∷ bytes) f = inl f

  -- ---- what is thrown, and thrown again

  stays_throw : (image : Image) (w : World) (o : Object) (type destructor : ℕ) (records : List ℕ) → header_of w.exceptions.live o.slot ≡ Some o.header → is_building o.header.kind ≡ true → Flies w →
      EndsStay (raised_as image.places w.exceptions (native_object w o type destructor) (flying (native_object w o type destructor) w) (unwinder.raise image.fdes (native records) w.hart))
  stays_throw image w o type destructor records at builds f =
      let new = native_object w o type destructor in
      let apart = unbuilt w o.slot o.header at builds f in
      let kept = other_set slot h w.exceptions o.slot (Some new.header) apart f in
      stays_raised image.places w.exceptions new (flying new w) (unwinder.raise image.fdes (native records) w.hart) apart
      (λ n. header_changed w.exceptions.live o.slot (Some new.header) (below_of w.exceptions.live o.slot o.header at)) f.travels
      (record { there = kept.there; thrown = kept.thrown; travels = kept.travels })

  stays_rethrows : (image : Image) (w : World) (caught : Caught) → w.exceptions.caught ≡ caught → Flies w → EndsStay (rethrows image w (rethrown_on caught w.exceptions))
  stays_rethrows image w [] is f = stays_terminates image.places w.terminate_handler w (inl f)
  stays_rethrows image w ((s, pos zero) ∷ more) is f = stays_terminates image.places w.terminate_handler w (inl f)
  stays_rethrows image w ((s, negsuc n) ∷ more) is f = stays_terminates image.places w.terminate_handler w (inl f)
  stays_rethrows image w ((s, pos (suc n)) ∷ more) is f =
      let travels = subst (TravelsFrom slot) is f.travels in
      let apart : s ≡ slot → ⊥ = λ same. let none : false ≡ true = travels.0 same in cc none in
      let e : Exceptions = record w.exceptions { caught = (s, negsuc n) ∷ more; uncaught = w.exceptions.uncaught + 1 } in
      stays_needs w (object_in w.exceptions.live s) (rethrows_object image w e) f
      (λ o found. stays_needs w (thrown_of w.hart o.header.kind) _ f
      (λ thrown read.
      let known = object_known s (header_of w.exceptions.live s) o found in
      stays_raised image.places w.exceptions o (with_exceptions e w) (unwinder.raise image.fdes thrown w.hart) (λ same. apart (known.0 ∙ same)) (λ n. ap (header_of w.exceptions.live) (sym known.0) ∙ known.1) f.travels
      (record { there = f.there; thrown = f.thrown; travels = ((λ same. refl), travels.1) })))

  -- ---- what is left

  stays_let_go : (o : Object) (kind : HeaderKind) (e : Exceptions) (w : World) → (o.slot ≡ slot → ⊥) → IsOnItsWay slot h e → Stays slot h (told o kind (with_exceptions (let_go o kind e) w))
  stays_let_go o kinds.Building e w apart f = inl f
  stays_let_go o (kinds.Native type destructor) e w apart f = inl (other_set slot h e o.slot _ apart f)
  stays_let_go o (kinds.Foreign j t) e w apart f = inl (other_set slot h e o.slot None apart f)

  stays_left : (o : Object) (caught : Caught) (e : Exceptions) (w : World) → newest caught ≡ Some o.slot → TravelsFrom slot caught → IsOnItsWay slot h (record e { caught = (ended_on caught).1 }) →
      EndsStay (leaves o w (left_by o ((ended_on caught).0, record e { caught = (ended_on caught).1 })))
  stays_left o [] e w is g f = absurd (cc is)
  stays_left o ((s, pos zero) ∷ more) e w is g f = stays_let_go o o.header.kind (record e { caught = (ended_on ((s, pos zero) ∷ more)).1 }) (shows (items.Leave o.header.number) w) (λ same. let at : Some s ≡ Some o.slot = is in let there : s ≡ o.slot = cc at in let none : false ≡ true = g.0 (there ∙ same) in cc none) f
  stays_left o ((s, pos (suc zero)) ∷ more) e w is g f = stays_let_go o o.header.kind (record e { caught = (ended_on ((s, pos (suc zero)) ∷ more)).1 }) (shows (items.Leave o.header.number) w) (λ same. let at : Some s ≡ Some o.slot = is in let there : s ≡ o.slot = cc at in let none : false ≡ true = g.0 (there ∙ same) in cc none) f
  stays_left o ((s, pos (suc (suc n))) ∷ more) e w is g f = inl f
  stays_left o ((s, negsuc n) ∷ more) e w is g f = inl f

  -- ---- the calls

  stays_call : (image : Image) (wish : ℕ) (w : World) (call : Call) → Flies w → EndsStay (made_call image wish w call)
  stays_call image wish w calls.Exit f = inl f
  stays_call image wish w calls.WriteInt f = inl f
  stays_call image wish w calls.ReadByte f = stays_read w w.input f
  stays_call image wish w calls.Allocate f = stays_made_in image.places w wish (slot_for w.exceptions.live wish) refl f
  stays_call image wish w calls.Free f =
      stays_needs w (object_where is_building w.exceptions.live (argument w a0)) _ f
      (λ o found.
      let known = where_known is_building w.exceptions.live (argument w a0) o found in
      inl (other_set slot h w.exceptions o.slot None (unbuilt w o.slot o.header known.0 known.1 f) f))
  stays_call image wish w calls.Throw f =
      stays_needs w (object_where is_building w.exceptions.live (argument w a0)) _ f
      (λ o found. stays_needs w (type_records w.hart (argument w a1)) _ f
      (λ records read.
      let known = where_known is_building w.exceptions.live (argument w a0) o found in
      stays_throw image w o (argument w a1) (argument w a2) records known.0 known.1 f))
  stays_call image wish w calls.BeginCatch f =
      stays_needs w (object_where is_thrown w.exceptions.live (argument w a0)) (begins_catch image.places w) f
      (λ o found. stays_either (may_begin w.exceptions o.slot) _ _
      (stays_either (is_crowded w o) _ _ (stays_terminates image.places w.terminate_handler w (inl f)) (stays_entered slot h o w (where_known is_thrown w.exceptions.live (argument w a0) o found).0 f)) (inl f))
  stays_call image wish w calls.EndCatch f =
      stays_needs w (newest_object w.exceptions) (λ o. leaves o w (left_by o (ended w.exceptions))) f
      (λ o found. stays_left o w.exceptions.caught w.exceptions w (newest_known w.exceptions o found).0 f.travels
      (record { there = f.there; thrown = f.thrown; travels = ended_travels slot w.exceptions.caught f.travels }))
  stays_call image wish w calls.Rethrow f = stays_rethrows image w w.exceptions.caught refl f
  stays_call image wish w calls.Resume f =
      stays_either (argument w a0 == 0) _ _
      (stays_needs w w.unwinding _ f (λ n on. stays_forced image.places n w (unwinder.forced_unwind image.fdes w.hart) f))
      (stays_needs w (object_where is_thrown w.exceptions.live (argument w a0)) _ f
      (λ o found. stays_needs w (thrown_of w.hart o.header.kind) _ f
      (λ thrown read. stays_resumed image.places o w (unwinder.resume image.fdes thrown o.header.target w.hart) f)))
  stays_call image wish w calls.UncaughtException f = inl f
  stays_call image wish w calls.SetTerminate f = inl f
  stays_call image wish w calls.SetUnexpected f = inl f
  stays_call image wish w calls.Terminate f = stays_terminates image.places w.terminate_handler w (inl f)
  stays_call image wish w calls.Module f = stays_asked image wish w (module_number w) (slice_get w.replies (module_number w)) f
  stays_call image wish w calls.Cancel f =
      stays_forced image.places (as_int (argument w a0)) (record w { unwinding = Some (as_int (argument w a0)) }) (unwinder.forced_unwind image.fdes w.hart) f
  stays_call image wish w calls.Abort f = inl f
  stays_call image wish w calls.Stack f = inl f
  stays_call image wish w calls.UnexpectedBegin f =
      stays_needs w (object_where is_native w.exceptions.live (argument w a0)) (begins_unexpected w) f
      (λ o found. stays_either (may_begin w.exceptions o.slot) _ _ (stays_entered slot h o w (where_known is_native w.exceptions.live (argument w a0) o found).0 f) (inl f))
  stays_call image wish w calls.UnexpectedCheck f = stays_needs w (answer_of image w) _ f (λ n found. inl f)
  stays_call image wish w calls.TerminateFor f =
      stays_needs w (object_where is_native w.exceptions.live (argument w a0)) _ f (λ o found. stays_terminates image.places o.header.handlers.0 w (inl f))

  stays_effect : (n : ℕ) (image : Image) (wish : ℕ) (w : World) → Flies w → EndsStay (call_effect n image wish w)
  unfolding call_effect
  stays_effect n image wish w f = stays_needs w (numbered n) (made_call image wish w) f (λ call is. stays_call image wish w call f)

  -- ---- turns and runs

  abbrev TurnStays : Turned → Type 0
  TurnStays t = Stays slot h t.1

  stays_called : (place : ℕ) (o : Outcome) → EndsStay o → TurnStays (called place o)
  stays_called place (Goes, w) f = f
  stays_called place (Exits n, w) f = f
  stays_called place (Aborts, w) f = f
  stays_called place (Overflows, w) f = f
  stays_called place (Fails kind, w) f = f

  stays_stepped : (image : Image) (wish : ℕ) (w : World) (step : Step × State) → Flies w → TurnStays (stepped image wish w step)
  stays_stepped image wish w (steps.Done, s) f = inl f
  stays_stepped image wish w (steps.Ecall, s) f = stays_called w.hart.pc _ (stays_effect _ image wish (record w { hart = s }) f)
  stays_stepped image wish w (steps.Fault kind, s) f = inl f

  stays_turn : (image : Image) (wish : ℕ) (w : World) → Flies w → TurnStays (turn image wish w)
  unfolding turn
  stays_turn image wish w f = stays_stepped image wish (record w { shown = [] }) (step_of w.hart) f

  -- where nothing that was shown enters it, it is on its way
  abbrev RanStays : Ran → Type 0
  RanStays r = is_entered h.number r.items ≡ false → Flies r.world

  neither : (a b : Bool) → (a || b) ≡ false → (a ≡ false) × (b ≡ false)
  neither true b e = absurd (cc e)
  neither false b e = (refl, e)

  not_entered : (w : World) → Stays slot h w → is_entered h.number w.shown ≡ false → Flies w
  not_entered w (inl f) none = f
  not_entered w (inr e) none = let both : true ≡ false = sym e ∙ none in absurd (cc both)

  after_turn : (more : World → Ran) (t : Turned) → TurnStays t → ((w : World) → Flies w → RanStays (more w)) → RanStays (and_more more t)
  after_turn more (On, w) f rest none =
      let both = neither (is_entered h.number w.shown) (is_entered h.number (more w).items) (sym (entered_both h.number w.shown (more w).items) ∙ none) in
      rest w (not_entered w f both.0) both.1
  after_turn more (EndedTurn end, w) f rest none = not_entered w f none

  stays_run : (image : Image) (pick : ℕ → ℕ) (n : ℕ) (w : World) → Flies w → RanStays (run image pick n w)
  unfolding run
  stays_run image pick zero w f none = f
  stays_run image pick (suc n) w f none =
      after_turn (run image pick n) (turn image (pick (w.last_number + 1)) w) (stays_turn image (pick (w.last_number + 1)) w f) (λ v g. stays_run image pick n v g) none

  -- a run of no more than so many turns ends in the world to which they lead
  stays_behind : (image : Image) (pick : ℕ → ℕ) (n : ℕ) (w v : World) (shown : List Item) → run image pick (n + 0) w ≡ with_items shown (run image pick 0 v) → Flies w → is_entered h.number shown ≡ false → Flies v
  unfolding run
  stays_behind image pick n w v shown e f none =
      let items_are : (run image pick (n + 0) w).items ≡ shown ++ [] = ap (λ (r : Ran). r.items) e in
      let clear : is_entered h.number (shown ++ []) ≡ false = entered_both h.number shown [] ∙ ap (λ b. b || false) none in
      subst (λ (u : World). Flies u) (ap (λ (r : Ran). r.world) e) (stays_run image pick (n + 0) w f (ap (is_entered h.number) items_are ∙ clear))

pub headers_stay_aimed : HeadersStayAimed
headers_stay_aimed = record {
  runs = λ image pick n w slot h f none. stays_run slot h image pick n w f none;
  turns = λ image n w v shown slot h t f none. stays_behind slot h image (λ k. k) n w v shown (t.run (λ k. k) 0) f none;
  forced = λ image n w v shown slot h t f none. stays_behind slot h image (λ k. k) n w v shown (t.run (λ k. k) 0) f none;
  picked = λ image pick n w v shown slot h t f none. stays_behind slot h image pick n w v shown (t.run 0) f none;
}
