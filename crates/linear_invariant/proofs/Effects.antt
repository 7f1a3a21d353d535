-- What an operation of the newest call does keeps what the open calls keep.
use Rattle.std.proofs.Common.{◌≡◌, ℕ, ◌+◌, ◌≤◌, ℤ, pos, negsuc, Bool, true, false, ◌==◌, List, [], ◌∷◌, ◌++◌, Option, Some, None, refl, sym, ap, ◌∙◌, subst, if◌then◌else◌, arith}
use Rattle.std.specs.Prelude.{⊤, not, ◌&&◌, ◌||◌, slice_get, slice_set}
use Rattle.std.specs.List.{AllByRecursion}
use Rattle.std.proofs.lemmas.Bool.{and_parts}
use Rattle.std.proofs.lemmas.Bool.Decides.{nat_tests}
use Rattle.eh_outer.specs.declared.module.Reply.{Reply}
use Rattle.eh_outer.specs.declared.module.Reply.TheVariants.{Value as ValueReply, Raise}
use Rattle.cxx_ast.specs.declared.name.Builtin.{Builtin}
use Rattle.cxx_ast.specs.declared.name.Builtin.TheVariants.{WriteInt, ReadByte, Exit, Module, Cancel, Terminate, SetTerminate, SetUnexpected, Uncaught, BadException}
use Rattle.run_items.specs.declared.item.Item.TheVariants.{Make, Foreign}
use Rattle.meaning_forms.specs.Class.{some_of}
use Rattle.region_forms.specs.Form.{Kinds, Place, through, Callee, defined, builtin, Value, number, load, unary, binary, call_value, Arguments, Op, evaluate, store, bind, call, construct, destroy, make, throw, rethrow, enter, leave}
use Rattle.region_forms.specs.Caught.{Entry, holds_other, flown}
use Rattle.region_forms.specs.Lives.{is_built, is_there, is_being_built, can_travel, may_enter, is_on_top}
use Rattle.region_forms.specs.World.{Base, of_global, of_variable, of_exception, Address, Word, nothing, number_word, address_word, flying, unwinding, object_address, address_in, exception_of, exception_in_slot, behind, Frame, World, building, foreign, exception_in, exception_at, with_item, with_slot, written, type_at}
use Rattle.region_forms.specs.Evaluation.{Location, in_memory, in_frame, locate, value_in, words_in, address_of, with_some, location_behind, location_address}
use Rattle.region_forms.specs.Effect.{Effect, goes, calls, raises, terminates, cancels, if_some, only_where, is_full, with_new, kept, entered, is_foreign, stored_at, finished, answered, replied, module_called, built_in, called as called_by, valued, rethrown, effect, bytes_after, new_frame, new_world}
use Rattle.linear_forms.specs.Stub.{Function, compiled, end_catch}
use Rattle.linear_forms.specs.Activation.{Code, Activation, Next, kinds, at, depth_of, enters_function, stub_frame, look}
use Rattle.linear_forms.specs.Operation.{performed}
use Rattle.flight_homes.specs.Keeps.{Carrying, carried, destroyed_in, is_help_in, TravelsAgain}
use Rattle.flight_homes.proofs.Kept.{NotLeave}
use Rattle.flight_homes.specs.Lives.{WorldKnown}
use Rattle.linear_invariant.specs.Held.{NoneHolds}
use Rattle.linear_invariant.specs.Handled.{Unhandled, EachOnce, AllBuilt, IsGone, WorldKeeps}
use Rattle.linear_forms.specs.Search.{found}
use Rattle.linear_invariant.specs.Calls.{Marks, FlightGoes, StubHolds, WaitsAt, CallKeeps, CallsKeep}
use Rattle.linear_invariant.specs.Code.{StartsEmpty, CalleeStarts, ValueStarts, OpStarts, CodeCarries}
use Rattle.linear_invariant.proofs.Given.{quiet, bytes_left, fewer_replies, call_quiet, built_number, live_number, found_new, some_same, unhandled_top}
use Rattle.linear_invariant.proofs.Lists.{unhandled_flown, unhandled_again}
use Rattle.linear_invariant.proofs.Worlds.{But, changes_then, Quiet, itself, quiet_then, quiet_changes, quiet_keeps, more_steps, new_changes, new_keeps, unhandled_building, building_waits, kept_changes, kept_can, kept_keeps, entered_changes, entered_keeps}
use Rattle.linear_invariant.proofs.Calls.{all_spared, others_spared, calls_kept, calls_quiet, building_held, new_held, newest_held, waits_now}
use Rattle.linear_invariant.proofs.Tops.{called, WordForgets, FrameForgets, slot_forgets, number_forgets, nothing_forgets, object_forgets, Goes, top_goes, first_carries, newest_ends}
use Rattle.linear_invariant.proofs.Raising.{raise_goes, force_goes}

-- what is asked of an operation: what is bound to a slot for help is what another has, and a handler's slot is for help
abbrev pub Fine : Code → Function → Op → Type 0
Fine code f (bind s q) = is_help_in code f s → (h : ℕ) × is_help_in code f h × (q ≡ record { root = through h; offset = 0 })
Fine code f (enter s) = is_help_in code f s
Fine code f o = ⊤

module _ (marks : Marks) (code : Code) (k : Carrying) (c : CodeCarries code k) (m : ℕ) (f : Function) (p : ℕ) (x : Frame) (fs : List Activation) (w : World)
    (own : CallKeeps code k marks None (called f p x) fs w) (rest : CallsKeep code k marks (Some f) fs w) (world : WorldKeeps m w) (lives : WorldKnown marks.known w)
    (whole : (s e o : ℕ) → is_help_in code f s → address_in (x.slots s) ≡ Some (record { base = of_exception e; offset = o }) → o ≡ 0) where
  abbrev top : Activation
  top = called f p x

  abbrev Onward : Next → Type 0
  Onward next = Goes marks code k (m + 1) next

  abbrev all : CallsKeep code k marks None (top ∷ fs) w
  all = (own, rest)

  more : WorldKeeps (m + 1) w
  more = more_steps m (m + 1) w (omega arith) world

  pub numbered : (e : ℕ) → can_travel w e ≡ true → (1 ≤ e) × (e ≤ w.last_number)
  numbered e can = built_number marks.known w.last_number w.live e lives.lives can

  -- the slot of an exception that is there has its object
  pub has_object : (s : ℕ) → is_help_in code f s → 1 ≤ exception_in_slot x s → address_in (x.slots s) ≡ Some (object_address (exception_in_slot x s))
  has_object s help first = go (address_in (x.slots s)) refl
    where
      none : {X : Type 0} → exception_in_slot x s ≡ 0 → X
      none i = absurd (omega (arith, i, first))

      by : (b : Base) (o : ℕ) → address_in (x.slots s) ≡ Some (record { base = b; offset = o }) → address_in (x.slots s) ≡ Some (object_address (exception_in_slot x s))
      by (of_global g) o i = none (ap exception_of i)
      by (of_variable n t) o i = none (ap exception_of i)
      by (of_exception y) o i =
          let zero : o ≡ 0 = whole s y o help i in
          let same : exception_in_slot x s ≡ y = ap exception_of i in
          i ∙ ap (λ z. Some (record { base = of_exception y; offset = z })) zero ∙ ap (λ z. Some (object_address z)) (sym same)

      go : (a : Option Address) → address_in (x.slots s) ≡ a → address_in (x.slots s) ≡ Some (object_address (exception_in_slot x s))
      go None i = none (ap exception_of i)
      go (Some a) i = by a.base a.offset i

  -- an exception that a slot has is held by no older call
  pub slot_free : (s : ℕ) → is_help_in code f s → 1 ≤ exception_in_slot x s → NoneHolds k (Some f) fs (exception_in_slot x s)
  slot_free s help first = own.forgets s (exception_in_slot x s) help (has_object s help first)

  -- calls

  module _ (waits : (n : ℕ) → WaitsAt code (compiled n) top) where
    pub calls_go : (n : ℕ) (given : List Word) → StartsEmpty code n given → Onward (enters_function code n given (top ∷ fs) w)
    calls_go n given empty =
        let ks = code.kinds_at n in
        let v = new_world ks given (depth_of (top ∷ fs) + 1) w in
        let q = call_quiet ks given (depth_of (top ∷ fs) + 1) w in
        top_goes marks code k (m + 1) (compiled n) 0 (new_frame ks given w) (top ∷ fs) v
        (λ s e help i. let never : None ≡ Some (object_address e) = sym (ap address_in (empty w s help)) ∙ i in absurd (cc never))
        (first_carries marks code k c (compiled n) (new_frame ks given w) (top ∷ fs) v) tt tt
        (calls_quiet code k marks w v (Some (compiled n)) (top ∷ fs) q (waits_now code k marks (compiled n) top fs w (waits n) own, rest))
        (quiet_keeps (m + 1) w v q more)

  -- a handler is left
  module _ (waits : WaitsAt code end_catch top) where
    pub leaves_go : Onward (at end_catch 0 (stub_frame nothing nothing nothing) (top ∷ fs) w)
    leaves_go =
        top_goes marks code k (m + 1) end_catch 0 (stub_frame nothing nothing nothing) (top ∷ fs) w (λ s e help i. one_of (s == 0) (s == 1) (s == 2) e i) tt (none_gone, tt) tt
        (waits_now code k marks end_catch top fs w waits own, rest) more
      where
        one_of : (a b d : Bool) → WordForgets marks code k end_catch (top ∷ fs) (if a then nothing else if b then nothing else if d then nothing else nothing)
        one_of true b d = nothing_forgets marks code k end_catch (top ∷ fs)
        one_of false true d = nothing_forgets marks code k end_catch (top ∷ fs)
        one_of false false true = nothing_forgets marks code k end_catch (top ∷ fs)
        one_of false false false = nothing_forgets marks code k end_catch (top ∷ fs)

        not_handled : (xs : List Entry) → AllBuilt w xs → Unhandled 0 xs
        not_handled [] h = tt
        not_handled (y ∷ ys) h = let first = (numbered y.number h.0).0 in (grind (arith, nat_tests, first), not_handled ys h.1)

        not_live : (b : Bool) → some_of (λ y. y.number == 0) w.live ≡ b → is_being_built w 0 ≡ false
        not_live true i = absurd (omega (arith, (live_number marks.known w.last_number w.live 0 lives.lives i).0))
        not_live false i = ap (λ b. b && not (is_built (exception_at w 0))) i

        none_gone : IsGone w 0
        none_gone = record { given = omega arith; unhandled = not_handled w.caught world.built; built = not_live (some_of (λ y. y.number == 0) w.live) refl }

  -- where the call goes on, it carries nothing and has nothing to keep
  module _ (calm : (y : Frame) (v : World) → FlightGoes marks code (called f (p + 1) y) fs (carried k (called f (p + 1) y)) v) (slots : (y : Frame) → StubHolds marks f (p + 1) y)
      (none : (y : Frame) → destroyed_in f y ≡ []) where
    gone_none : (y : Frame) (v : World) → AllByRecursion (IsGone v) (destroyed_in f y)
    gone_none y v = subst (AllByRecursion (IsGone v)) (sym (none y)) tt

    pub goes_on : (y : Frame) (v : World) → FrameForgets marks code k f fs y → CallsKeep code k marks (Some f) fs v → WorldKeeps (m + 1) v → Onward (at f (p + 1) y fs v)
    goes_on y v forgets rest world = top_goes marks code k (m + 1) f (p + 1) y fs v forgets (calm y v) (gone_none y v) (slots y) rest world

    pub quiet_goes : (y : Frame) (v : World) → FrameForgets marks code k f fs y → Quiet w v → Onward (at f (p + 1) y fs v)
    quiet_goes y v forgets q = goes_on y v forgets (calls_quiet code k marks w v (Some f) fs q rest) (quiet_keeps (m + 1) w v q more)

    -- what an effect leads to
    abbrev pub Leads : Effect → Type 0
    Leads e = Onward (performed code e top fs w)

    some_leads : {A : Type 0} (o : Option A) (next : A → Effect) → ((a : A) → o ≡ Some a → Leads (next a)) → Leads (if_some o next)
    some_leads None next h = tt
    some_leads (Some a) next h = h a refl

    where_leads : (b : Bool) (e : Effect) → (b ≡ true → Leads e) → Leads (only_where b e)
    where_leads true e h = h refl
    where_leads false e h = tt

    stored_leads : (l : Location) (z : ℤ) (v : World) → Quiet w v → Leads (stored_at l z x v)
    stored_leads (in_memory a) z v q =
        where_leads (is_there v a.base) (goes x (written a z v)) (λ i. quiet_goes x (written a z v) own.forgets (quiet_then w v (written a z v) q (quiet v _ refl refl refl refl refl)))
    stored_leads (in_frame s) z v q =
        quiet_goes (with_slot s (number_word z) x) v (slot_forgets marks code k f fs s (number_word z) x (λ h. number_forgets marks code k f fs z) own.forgets) q

    pub finished_leads : (ks : Kinds) (o : Option Place) (z : ℤ) (v : World) → Quiet w v → Leads (finished ks o z x v)
    finished_leads ks None z v q = quiet_goes x v own.forgets q
    finished_leads ks (Some o) z v q = some_leads (locate ks x o) (λ l. stored_at l z x v) (λ l i. stored_leads l z v q)

    -- where an effect is that of an operation, and what that raises or cancels is marked
    module _ (own_effect : Effect) (raised : (e : ℕ) (v : World) (d : ℕ) → own_effect ≡ raises e v → found code f (look code f p) (type_at v e) fs ≡ Some d → marks.words (flying e d))
        (cancelled : (n : ℤ) (v : World) → own_effect ≡ cancels n v → marks.words (unwinding n)) where
      abbrev Does : Effect → Type 0
      Does e = own_effect ≡ e → Leads e

      either_does : (b : Bool) (e d : Effect) → Does e → Does d → Does (if b then e else d)
      either_does true e d h i = h
      either_does false e d h i = i

      some_does : {A : Type 0} (o : Option A) (next : A → Effect) → ((a : A) → o ≡ Some a → Does (next a)) → Does (if_some o next)
      some_does None next h j = tt
      some_does (Some a) next h j = h a refl j

      where_does : (b : Bool) (e : Effect) → (b ≡ true → Does e) → Does (only_where b e)
      where_does true e h j = h refl j
      where_does false e h j = tt

      finished_does : (ks : Kinds) (o : Option Place) (z : ℤ) (v : World) → Quiet w v → Does (finished ks o z x v)
      finished_does ks o z v q j = finished_leads ks o z v q

      terminates_does : (h : Option ℕ) (v : World) → Quiet w v → Does (terminates h v)
      terminates_does h v q j =
          let kept = calls_quiet code k marks w v None (top ∷ fs) q all in
          newest_ends marks code k (m + 1) h top fs v kept.0 kept.1 (quiet_keeps (m + 1) w v q more)

      -- an exception with a new number is raised
      new_unhandled : (v : World) → Quiet w v → (xs : List Entry) → AllBuilt w xs → Unhandled (v.last_number + 1) xs
      new_unhandled v q [] h = tt
      new_unhandled v q (y ∷ ys) h =
          let le = (numbered y.number h.0).1 in
          let last = q.last in
          (grind (arith, nat_tests, le, last), new_unhandled v q ys h.1)

      raised_new : (i token : ℕ) (v u : World) → Quiet w v → Quiet (with_new (foreign i token) v) u → Does (raises (v.last_number + 1) u)
      raised_new i token v u q after j =
          let e = v.last_number + 1 in
          let n = with_new (foreign i token) v in
          let change = changes_then (λ j. ⊤) w v u (quiet_changes (λ j. ⊤) w v q) (changes_then (λ j. ⊤) v n u (new_changes (λ j. ⊤) (foreign i token) v) (quiet_changes (λ j. ⊤) n u after)) in
          let kept = calls_kept code k marks (λ j. ⊤) w u change None (top ∷ fs) (all_spared k (λ j. ⊤) (λ j. tt) None (top ∷ fs)) all in
          let caught : u.caught ≡ w.caught = after.caught ∙ q.caught in
          let none : Unhandled e u.caught = subst (Unhandled e) (sym caught) (new_unhandled v q w.caught world.built) in
          let last = q.last in
          let is_new : exception_in (v.live ++ record { number = e; exception = foreign i token } ∷ []) e ≡ foreign i token =
          subst (λ xs. exception_in (xs ++ record { number = e; exception = foreign i token } ∷ []) e ≡ foreign i token) (sym q.live)
          (subst (λ l. exception_in (w.live ++ record { number = l + 1; exception = foreign i token } ∷ []) (l + 1) ≡ foreign i token) (sym q.last) (found_new marks.known w.last_number (foreign i token) w.live lives.lives)) in
          let can : can_travel u e ≡ true = ap (λ xs. is_built (exception_in xs e)) after.live ∙ ap is_built is_new in
          raise_goes marks code k c m e top fs u kept.0 kept.1 (quiet_keeps m n u after (new_keeps m (foreign i token) v (quiet_keeps m w v q world))) can
          (unhandled_again e (flown e u.caught) (unhandled_flown e e u.caught none)) (unhandled_top e u.caught none)
          (new_held code k marks w None (top ∷ fs) all e (omega (arith, last)) (λ i can. (numbered i can).1)) (λ d there. raised e u d j there)

      answered_does : (ks : Kinds) (o : Option Place) (i : ℕ) (y : Reply) (v : World) → Quiet w v → Does (answered ks o i y x v)
      answered_does ks o i (ValueReply z) v q = finished_does ks o z v q
      answered_does ks o i (Raise t) v q =
          let n = with_new (foreign i t) v in
          let u = with_item (Foreign (v.last_number + 1) i t) n in
          either_does (is_full v) (terminates v.installed.terminate_handler v) (raises (v.last_number + 1) u) (terminates_does v.installed.terminate_handler v q)
          (raised_new i t v u q (quiet n u refl refl refl refl refl))

      replied_does : (ks : Kinds) (o : Option Place) (i : ℕ) (ys : Option (List Reply)) → slice_get w.replies i ≡ ys → Does (replied ks o i ys x w)
      replied_does ks o i None e = finished_does ks o (pos 0) w (itself w)
      replied_does ks o i (Some []) e = finished_does ks o (pos 0) w (itself w)
      replied_does ks o i (Some (y ∷ left)) e = answered_does ks o i y (record w { replies = slice_set w.replies i left }) (fewer_replies w i y left e)

      module_does : (ks : Kinds) (o : Option Place) (z : ℤ) → Does (module_called ks o z x w)
      module_does ks o (negsuc i) = finished_does ks o (pos 0) w (itself w)
      module_does ks o (pos i) = replied_does ks o i (slice_get w.replies i) refl

      cancels_does : (z : ℤ) → Does (cancels z w)
      cancels_does z j = force_goes marks code k c (m + 1) w more z (cancelled z w j) top fs own rest

      built_in_does : (ks : Kinds) (b : Builtin) (o : Option Place) (given : List Word) → Does (built_in ks b o given x w)
      built_in_does ks WriteInt o given = finished_does ks o (pos 0) _ (quiet w _ refl refl refl refl refl)
      built_in_does ks ReadByte o given =
          finished_does ks o _ (record w { input = bytes_after w.input })
          (record { live = refl; caught = refl; last = refl; given = λ g. record { bytes = bytes_left w.input g.bytes; few = g.few; fit = g.fit } })
      built_in_does ks Exit o given = λ j. tt
      built_in_does ks Module o given = module_does ks o _
      built_in_does ks Cancel o given = cancels_does _
      built_in_does ks Terminate o given = terminates_does w.installed.terminate_handler w (itself w)
      built_in_does ks SetTerminate o given = finished_does ks o (pos 0) _ (quiet w _ refl refl refl refl refl)
      built_in_does ks SetUnexpected o given = finished_does ks o (pos 0) _ (quiet w _ refl refl refl refl refl)
      built_in_does ks Uncaught o given = finished_does ks o _ w (itself w)
      built_in_does ks BadException o given = λ j. tt

      -- an exception that was being built is thrown
      thrown_does : (e t : ℕ) (d : Option ℕ) → is_being_built w e ≡ true → Does (raises e (kept e t d w))
      thrown_does e t d built j =
          let free : NoneHolds k None (top ∷ fs) e = building_held code k marks w None (top ∷ fs) all e built (building_waits w e built) in
          let v = kept e t d w in
          let stay = calls_kept code k marks (But e) w v (kept_changes e t d w) None (top ∷ fs) (others_spared k e None (top ∷ fs) free) all in
          let none : Unhandled e w.caught = unhandled_building w e w.caught (building_waits w e built) world.built in
          raise_goes marks code k c m e top fs v stay.0 stay.1 (kept_keeps e t d w m built world) (kept_can e t d w built)
          (unhandled_again e (flown e w.caught) (unhandled_flown e e w.caught none)) (unhandled_top e w.caught none) free (λ i there. raised e v i j there)

      -- the newest that is handled is thrown again
      rethrown_does : (es : List Entry) → w.caught ≡ es → Does (rethrown es w)
      rethrown_does [] i = terminates_does w.installed.terminate_handler w (itself w)
      rethrown_does (y ∷ ys) i = go y.again refl
        where
          self : (y.number == y.number) ≡ true
          self = grind (arith, nat_tests)

          once : EachOnce (y ∷ ys)
          once = subst EachOnce i world.once

          again : TravelsAgain y.number (flown y.number (y ∷ ys))
          again =
              subst (λ b. TravelsAgain y.number ((if b then record y { again = true } else y) ∷ ys)) (sym self)
              ((λ j. refl), unhandled_again y.number ys once.0)

          raises_it : y.again ≡ false → can_travel w y.number ≡ true → Does (raises y.number w)
          raises_it stays can j =
              raise_goes marks code k c m y.number top fs w own rest world can (subst (λ xs. TravelsAgain y.number (flown y.number xs)) (sym i) again)
              (subst (λ xs. is_on_top y.number xs ≡ true) (sym i) (ap (λ b. b || not (some_of (λ z. z.number == y.number) ys)) self))
              (newest_held code k marks w None (top ∷ fs) all y ys i stays) (λ d there. raised y.number w d j there)

          go : (b : Bool) → y.again ≡ b → Does (if b then terminates w.installed.terminate_handler w else only_where (can_travel w y.number) (raises y.number w))
          go true j = terminates_does w.installed.terminate_handler w (itself w)
          go false j = where_does (can_travel w y.number) (raises y.number w) (λ can. raises_it j can)

      -- a new object
      made_does : (s : ℕ) → Does (goes (with_slot s (address_word (object_address (w.last_number + 1))) x) (with_item (Make (w.last_number + 1)) (with_new building w)))
      made_does s j =
          let n = w.last_number + 1 in
          let v = with_new building w in
          let u = with_item (Make n) v in
          let q = quiet v u refl refl refl refl refl in
          let change = changes_then (λ j. ⊤) w v u (new_changes (λ j. ⊤) building w) (quiet_changes (λ j. ⊤) v u q) in
          let free = new_held code k marks w (Some f) fs rest n (omega arith) (λ i can. (numbered i can).1) in
          goes_on (with_slot s (address_word (object_address n)) x) u
          (slot_forgets marks code k f fs s (address_word (object_address n)) x (λ h. object_forgets marks code k f fs n (address_word (object_address n)) refl free) own.forgets)
          (calls_kept code k marks (λ j. ⊤) w u change (Some f) fs (all_spared k (λ j. ⊤) (λ j. tt) (Some f) fs) rest)
          (quiet_keeps (m + 1) v u q (new_keeps (m + 1) building w more))

      -- an exception is entered
      entered_does : (s : ℕ) → is_help_in code f s → may_enter w (exception_in_slot x s) ≡ true → Does (goes x (entered (exception_in_slot x s) w))
      entered_does s help may j =
          let e = exception_in_slot x s in
          let both = and_parts (can_travel w e) (not (w.uncaught == 0) && is_on_top e w.caught) may in
          let top = (and_parts (not (w.uncaught == 0)) (is_on_top e w.caught) both.1).1 in
          let free = slot_free s help (numbered e both.0).0 in
          goes_on x (entered e w) own.forgets
          (calls_kept code k marks (But e) w (entered e w) (entered_changes e w) (Some f) fs (others_spared k e (Some f) fs free) rest) (entered_keeps e w m both.0 top world)

      -- what a handler is bound to is what the pad's slot has
      bound_does : (s h : ℕ) (a : Address) → is_help_in code f h → address_of (kinds code f) x (record { root = through h; offset = 0 }) ≡ Some a → WordForgets marks code k f fs (address_word a)
      bound_does s h a help there e is = go (address_in (x.slots h)) refl there
        where
          go : (o : Option Address) → address_in (x.slots h) ≡ o → with_some (location_behind 0 o) location_address ≡ Some a → NoneHolds k (Some f) fs e
          go None i j = absurd (cc j)
          go (Some b) i j =
              let same : behind b 0 ≡ object_address e = some_same (j ∙ is) in
              let offsets : b.offset + 0 ≡ 0 = ap (λ y. y.offset) same in
              let zero : b.offset ≡ 0 = omega (arith, offsets) in
              let bases : b.base ≡ of_exception e = ap (λ y. y.base) same in
              own.forgets h e help (i ∙ ap (λ y. Some (record { base = y; offset = b.offset })) bases ∙ ap (λ y. Some (record { base = of_exception e; offset = y })) zero)

      module _ (waits : (n : ℕ) → WaitsAt code (compiled n) top) where
        passed_does : (ks : Kinds) (b : Callee) (args : Arguments) (o : Option Place) → CalleeStarts code b args → Does (if_some (words_in ks x w args) (λ given. called_by ks b o given x w))
        passed_does ks (defined n) args o h = some_does (words_in ks x w args) (λ given. calls o n given) (λ given e j. calls_go waits n given (h ks x w given e))
        passed_does ks (builtin b) args o h = some_does (words_in ks x w args) (λ given. built_in ks b o given x w) (λ given e. built_in_does ks b o given)

        valued_does : (ks : Kinds) (v : Value) (o : Option Place) → ValueStarts code v → Does (valued ks v o x w)
        valued_does ks (call_value b args) o h = passed_does ks b args o h
        valued_does ks (number z) o h = some_does (value_in ks x w (number z)) (λ y. finished ks o y x w) (λ y e. finished_does ks o y w (itself w))
        valued_does ks (load q) o h = some_does (value_in ks x w (load q)) (λ y. finished ks o y x w) (λ y e. finished_does ks o y w (itself w))
        valued_does ks (unary u v) o h = some_does (value_in ks x w (unary u v)) (λ y. finished ks o y x w) (λ y e. finished_does ks o y w (itself w))
        valued_does ks (binary u a b) o h = some_does (value_in ks x w (binary u a b)) (λ y. finished ks o y x w) (λ y e. finished_does ks o y w (itself w))

        pub op_does : (o : Op) → NotLeave o → Fine code f o → OpStarts code o → Does (effect (kinds code f) o x w)
        op_does (evaluate v) other h i = valued_does (kinds code f) v None i
        op_does (store q v) other h i = valued_does (kinds code f) v (Some q) i
        op_does (bind s q) other h i =
            some_does (address_of (kinds code f) x q) (λ a. goes (with_slot s (address_word a) x) w)
            (λ a e j. quiet_goes (with_slot s (address_word a) x) w (slot_forgets marks code k f fs s (address_word a) x (λ help. by a e (h help)) own.forgets) (itself w))
          where
            by : (a : Address) → address_of (kinds code f) x q ≡ Some a → (b : ℕ) × is_help_in code f b × (q ≡ record { root = through b; offset = 0 }) → WordForgets marks code k f fs (address_word a)
            by a e b = bound_does s b.0 a b.1 (ap (address_of (kinds code f) x) (sym b.2) ∙ e)
        op_does (call b args) other h i = passed_does (kinds code f) b args None i
        op_does (construct q n args) other h i =
            some_does (address_of (kinds code f) x q) (λ a. if_some (words_in (kinds code f) x w args) (λ given. calls None n (address_word a ∷ given)))
            (λ a e. some_does (words_in (kinds code f) x w args) (λ given. calls None n (address_word a ∷ given)) (λ given u j. calls_go waits n (address_word a ∷ given) (i (kinds code f) x w a given u)))
        op_does (destroy q n) other h i = some_does (address_of (kinds code f) x q) (λ a. calls None n (address_word a ∷ [])) (λ a e j. calls_go waits n (address_word a ∷ []) (i a))
        op_does (make s) other h i = either_does (is_full w) (terminates _ _) (goes _ _) (terminates_does w.installed.terminate_handler w (itself w)) (made_does s)
        op_does (throw s t d) other h i = let e = exception_in_slot x s in where_does (is_being_built w e) (raises e (kept e t d w)) (λ built. thrown_does e t d built)
        op_does rethrow other h i = rethrown_does w.caught refl
        op_does (enter s) other h i =
            let e = exception_in_slot x s in
            let stops = is_foreign (exception_at w e) && holds_other e w.caught in
            let ended = terminates w.installed.terminate_handler w in
            let done = goes x (entered e w) in
            where_does (may_enter w e) (if stops then ended else done) (λ may. either_does stops ended done (terminates_does w.installed.terminate_handler w (itself w)) (entered_does s h may))
        op_does leave other h i = absurd other
