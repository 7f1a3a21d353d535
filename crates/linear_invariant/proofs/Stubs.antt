-- An operation of the runtime's own functions keeps what the open calls keep.
use Rattle.std.proofs.Common.{◌≡◌, ◌⊎◌, inl, inr, ℕ, zero, suc, ◌+◌, ◌≤◌, ℤ, pos, negsuc, Bool, true, false, ◌==◌, List, [], ◌∷◌, length, Option, Some, None, refl, sym, ap, ◌∙◌, subst, if◌then◌else◌, arith}
use Rattle.std.specs.Prelude.{⊤, not, ◌&&◌}
use Rattle.std.specs.List.{AllByRecursion}
use Rattle.std.proofs.lemmas.Bool.{and_parts}
use Rattle.meaning_forms.specs.Arithmetic.{is_zero}
use Rattle.run_items.specs.declared.item.Item.TheVariants.{Destroy, Free, Clean}
use Rattle.meaning_forms.specs.World.{Installed}
use Rattle.region_forms.specs.Form.{enter, leave, make, rethrow, throw}
use Rattle.region_forms.specs.Caught.{Entry, gives_back, is_last, last_count, left_of, left_count}
use Rattle.region_forms.specs.Ending.{bad_row}
use Rattle.region_forms.specs.Unexpected.{kept_with}
use Rattle.region_forms.specs.Lives.{is_built, is_live, is_native, can_travel, may_enter, may_leave, is_on_top}
use Rattle.region_forms.specs.World.{Word, nothing, number_word, address_word, flying, unwinding, object_address, address_in, exception_of, exception_in_slot, Frame, World, Exception, building, native, foreign, Live, exception_in, exception_at, type_at, with_slot, with_item, without_exception}
use Rattle.region_forms.specs.Effect.{effect, entered, left, newest_of, cleaned_up, freed}
use Rattle.linear_forms.specs.Linear.{plain}
use Rattle.linear_forms.specs.Stub.{end_catch, terminating, call_unexpected, linear, runtime, destroy_held, call_held}
use Rattle.linear_forms.specs.Activation.{Code, Activation, kinds, fetch, on, at, function_word}
use Rattle.linear_forms.specs.Operation.{jumped, jumped_zero, holds_number, resumed}
use Rattle.linear_forms.specs.StubOperation.{given_back, is_bad, empty_call, called_held, destroyed, checked, sense_held}
use Rattle.linear_forms.specs.Machine.{act_on}
use Rattle.exceptions_in_flight.specs.Targets.{AimsAt}
use Rattle.flight_homes.specs.Keeps.{Carrying, Carried, carried, destroyed_in}
use Rattle.flight_homes.specs.Lives.{Known, ExceptionKnown, LiveKnown, WorldKnown}
use Rattle.flight_homes.specs.Whole.{IsWhole}
use Rattle.flight_homes.specs.WholeCalls.{CallsWhole}
use Rattle.linear_invariant.specs.Held.{NoneHolds}
use Rattle.linear_invariant.specs.Handled.{Unhandled, EachOnce, IsGone, WorldKeeps}
use Rattle.linear_invariant.specs.Calls.{IsOther, Marks, WordGoes, FlightGoes, IsStopped, StubHolds, CallKeeps, CallsKeep}
use Rattle.linear_invariant.specs.Code.{CodeCarries, CodeFits}
use Rattle.linear_invariant.specs.Stands.{NewMarked}
use Rattle.linear_invariant.proofs.Lists.{other_way}
use Rattle.linear_invariant.proofs.Worlds.{But, Changes, Quiet, itself, more_steps, changes_then, quiet_changes, quiet_keeps, travelling_is_built, left_changes, left_keeps, without_changes, without_gone, without_keeps, entered_changes, entered_keeps}
use Rattle.linear_invariant.proofs.Calls.{neither, each, all_spared, others_spared, word_goes, gone_kept, calls_kept, calls_quiet, newest_held}
use Rattle.linear_invariant.proofs.Tops.{called, slot_forgets, number_forgets, function_forgets, object_forgets, Goes, either, next_goes, top_goes, newest_ends}
use Rattle.linear_invariant.proofs.Raising.{resumed_goes, force_goes}
use Rattle.linear_invariant.proofs.Effects.{slot_free, calls_go, leaves_go, op_does}
use Rattle.linear_invariant.proofs.Given.{quiet, built_number, live_number}
use Rattle.linear_invariant.proofs.Returns.{helps_whole, same_goes, returned_goes}

-- the destructor of a live exception is known
destructor_known : (known : Known) (n t : ℕ) (d : Option ℕ) (kept : Installed) (xs : List Live) (e : ℕ) → AllByRecursion (LiveKnown known n) xs → exception_in xs e ≡ native t d kept → known.destructors d
destructor_known known n t d kept [] e h i = absurd (cc i)
destructor_known known n t d kept (y ∷ ys) e h i = go (y.number == e) i (λ j. destructor_known known n t d kept ys e h.1 j)
  where
    of : (z : Exception) → ExceptionKnown known z → z ≡ native t d kept → known.destructors d
    of building own j = absurd (cc j)
    of (native u b others) own j = let same : b ≡ d = cc j in subst known.destructors same own.1
    of (foreign u token) own j = absurd (cc j)

    go : (b : Bool) → (if b then y.exception else exception_in ys e) ≡ native t d kept → (exception_in ys e ≡ native t d kept → known.destructors d) → known.destructors d
    go true j rest = of y.exception h.0.exception j
    go false j rest = rest j

-- what the last handler of an exception is
last_parts : (b : Bool) (n : ℕ) → last_count b n ≡ true → (b ≡ false) × (n ≡ 0)
last_parts true n e = absurd (cc e)
last_parts false zero e = (refl, refl)
last_parts false (suc n) e = absurd (cc e)

module _ (marks : Marks) (code : Code) (k : Carrying) (fits : CodeFits marks.known code k) (m : ℕ) (fs : List Activation) (w : World) (world : WorldKeeps m w) (lives : WorldKnown marks.known w) (others : CallsWhole code fs) where
  abbrev c : CodeCarries code k
  c = fits.carries

  more : WorldKeeps (m + 1) w
  more = more_steps m (m + 1) w (omega arith) world

  -- leaving a handler
  module _ (x : Frame) (rest : CallsKeep code k marks (Some end_catch) fs w) (whole : IsWhole (kinds code end_catch) x) where
    -- it goes on at a place at which it carries nothing
    catch_on : (p q : ℕ) (v : World) → CallKeeps code k marks None (called end_catch p x) fs w → FlightGoes marks code (called end_catch q x) fs (carried k (called end_catch q x)) v → StubHolds marks end_catch q x → Quiet w v →
        Goes marks code k (m + 1) (at end_catch q x fs v)
    catch_on p q v own carries slots qu =
        top_goes marks code k (m + 1) end_catch q x fs v own.forgets carries
        (gone_kept code k marks (λ e. ⊤) w v (quiet_changes (λ e. ⊤) w v qu) (destroyed_in end_catch x) (each (λ e. ⊤) (λ e. tt) (destroyed_in end_catch x)) own.gone) slots
        (calls_quiet code k marks w v (Some end_catch) fs qu rest) (quiet_keeps (m + 1) w v qu more)

    module _ (own : CallKeeps code k marks None (called end_catch 0 x) fs w) where
      -- the handler is left, and its exception stays
      stays : Goes marks code k (m + 1) (at end_catch 3 x fs (left w))
      stays =
          top_goes marks code k (m + 1) end_catch 3 x fs (left w) own.forgets tt
          (gone_kept code k marks (λ e. ⊤) w (left w) (left_changes (λ e. ⊤) w) (destroyed_in end_catch x) (each (λ e. ⊤) (λ e. tt) (destroyed_in end_catch x)) own.gone) tt
          (calls_kept code k marks (λ e. ⊤) w (left w) (left_changes (λ e. ⊤) w) (Some end_catch) fs (all_spared k (λ e. ⊤) (λ e. tt) (Some end_catch) fs) rest) (left_keeps (m + 1) w more)

      module _ (y : Entry) (ys : List Entry) (is : w.caught ≡ y ∷ ys) (can : can_travel w y.number ≡ true) (stops : y.again ≡ false) (last : y.more ≡ 0) where
        abbrev e : ℕ
        e = y.number

        free : NoneHolds k (Some end_catch) fs y.number
        free = newest_held code k marks w (Some end_catch) fs rest y ys is stops

        none_left : Unhandled y.number (left w).caught
        none_left =
            subst (λ xs. Unhandled y.number (left_of xs)) (sym is)
            (subst (λ n. Unhandled y.number (left_count y.again n y.number ys)) (sym last) (subst EachOnce is world.once).0)

        -- it is destroyed next
        destroys : (t : ℕ) (d : Option ℕ) → marks.known.destructors d →
            Goes marks code k (m + 1) (at end_catch 1 (with_slot 1 (function_word d) (with_slot 0 (address_word (object_address y.number)) x)) fs (with_item (Destroy y.number) (left w)))
        destroys t d there =
            let v = with_item (Destroy y.number) (left w) in
            let q = quiet (left w) v refl refl refl refl refl in
            let change = changes_then (λ i. ⊤) w (left w) v (left_changes (λ i. ⊤) w) (quiet_changes (λ i. ⊤) (left w) v q) in
            let one = slot_forgets marks code k end_catch fs 0 (address_word (object_address y.number)) x (λ h. object_forgets marks code k end_catch fs y.number (address_word (object_address y.number)) refl free) own.forgets in
            top_goes marks code k (m + 1) end_catch 1 (with_slot 1 (function_word d) (with_slot 0 (address_word (object_address y.number)) x)) fs v
            (slot_forgets marks code k end_catch fs 1 (function_word d) (with_slot 0 (address_word (object_address y.number)) x) (λ h. function_forgets marks code k end_catch fs d) one) tt
            (record { given = (number_of y.number can).1; unhandled = none_left; built = travelling_is_built w y.number can }, tt)
            (record { number = y.number; object = refl; destructor = d; held = refl; known = there })
            (calls_kept code k marks (λ i. ⊤) w v change (Some end_catch) fs (all_spared k (λ i. ⊤) (λ i. tt) (Some end_catch) fs) rest) (quiet_keeps (m + 1) (left w) v q (left_keeps (m + 1) w more))
          where
            number_of : (i : ℕ) → can_travel w i ≡ true → (1 ≤ i) × (i ≤ w.last_number)
            number_of i h = built_number marks.known w.last_number w.live i lives.lives h

        -- its module cleans up
        cleans : (i t : ℕ) → Goes marks code k (m + 1) (at end_catch 3 x fs (cleaned_up y.number i t (left w)))
        cleans i t =
            let v = with_item (Clean i t) (left w) in
            let u = without_exception y.number v in
            let q = quiet (left w) v refl refl refl refl refl in
            let change = changes_then (But y.number) w (left w) u (left_changes (But y.number) w) (changes_then (But y.number) (left w) v u (quiet_changes (But y.number) (left w) v q) (without_changes y.number v)) in
            let there = subst (Unhandled (exception_in_slot x 0)) is own.gone.0.unhandled in
            let apart = other_way y.number (exception_in_slot x 0) there.0 in
            top_goes marks code k (m + 1) end_catch 3 x fs u own.forgets tt (gone_kept code k marks (But y.number) w u change (destroyed_in end_catch x) (apart, tt) own.gone) tt
            (calls_kept code k marks (But y.number) w u change (Some end_catch) fs (others_spared k y.number (Some end_catch) fs free) rest)
            (without_keeps y.number v (m + 1) none_left (quiet_keeps (m + 1) (left w) v q (left_keeps (m + 1) w more)))

        gives : (z : Exception) → exception_at w y.number ≡ z → Goes marks code k (m + 1) (given_back z y.number 0 1 3 (called end_catch 0 x) fs (left w))
        gives building i = let never : true ≡ false = sym can ∙ ap is_built i in absurd (cc never)
        gives (native t d kept) i = destroys t d (destructor_known marks.known w.last_number t d kept w.live y.number lives.lives i)
        gives (foreign i t) j = cleans i t

      leaves : (es : List Entry) → w.caught ≡ es → may_leave w es ≡ true →
          Goes marks code k (m + 1) (if gives_back es then given_back (exception_at w (newest_of es)) (newest_of es) 0 1 3 (called end_catch 0 x) fs (left w) else at end_catch 3 x fs (left w))
      leaves [] is may = absurd (cc may)
      leaves (y ∷ ys) is may = go (is_last y) refl
        where
          go : (b : Bool) → is_last y ≡ b → Goes marks code k (m + 1) (if b then given_back (exception_at w y.number) y.number 0 1 3 (called end_catch 0 x) fs (left w) else at end_catch 3 x fs (left w))
          go true i = let parts = last_parts y.again y.more i in gives y ys is may parts.0 parts.1 (exception_at w y.number) refl
          go false i = stays

    -- the destructor runs, if there is one
    module _ (own : CallKeeps code k marks None (called end_catch 1 x) fs w) where
      bad : (b : Bool) → Goes marks code k (m + 1) (at end_catch 2 x fs (if b then empty_call fs w else w))
      bad true = catch_on 1 2 (empty_call fs w) own tt tt (quiet w (empty_call fs w) refl refl refl refl refl)
      bad false = catch_on 1 2 w own tt tt (itself w)

      runs : (d : Option ℕ) → marks.known.destructors d → Goes marks code k (m + 1) (destroyed code (function_word d) (x.slots 0) (called end_catch 1 x) fs w)
      runs None there = bad (is_bad (type_at w (exception_of (address_in (x.slots 0)))))
      runs (Some n) there =
          calls_go marks code k c m end_catch 1 x fs w own rest world lives (helps_whole code end_catch x whole) (λ d. record { op = runtime (destroy_held 1 0); there = refl; made = refl }) n (x.slots 0 ∷ []) (fits.destructors n there (x.slots 0))

      run_goes : Goes marks code k (m + 1) (destroyed code (x.slots 1) (x.slots 0) (called end_catch 1 x) fs w)
      run_goes = subst (λ word. Goes marks code k (m + 1) (destroyed code word (x.slots 0) (called end_catch 1 x) fs w)) (sym own.slots.held) (runs own.slots.destructor own.slots.known)

    -- the object is given back
    module _ (p q : ℕ) (own : CallKeeps code k marks None (called end_catch p x) fs w) (live : is_live w (exception_in_slot x 0) ≡ true) where
      abbrev object : ℕ
      object = exception_in_slot x 0

      abbrev told : World
      told = with_item (Free (exception_in_slot x 0)) w

      frees : Changes (But (exception_in_slot x 0)) w (freed (exception_in_slot x 0) w)
      frees = changes_then (But object) w told (freed object w) (quiet_changes (But object) w told (quiet w told refl refl refl refl refl)) (without_changes object told)

      free_goes : FlightGoes marks code (called end_catch q x) fs (carried k (called end_catch q x)) (freed (exception_in_slot x 0) w) → StubHolds marks end_catch q x → Goes marks code k (m + 1) (at end_catch q x fs (freed (exception_in_slot x 0) w))
      free_goes carries slots =
          let first = (live_number marks.known w.last_number w.live object lives.lives live).0 in
          let held = slot_free marks code k c m end_catch p x fs w own rest world lives (helps_whole code end_catch x whole) 0 tt first in
          let qu = quiet w told refl refl refl refl refl in
          let gone : IsGone told object = record { given = own.gone.0.given; unhandled = own.gone.0.unhandled; built = own.gone.0.built } in
          top_goes marks code k (m + 1) end_catch q x fs (freed object w) own.forgets carries (without_gone object told gone, tt) slots
          (calls_kept code k marks (But object) w (freed object w) frees (Some end_catch) fs (others_spared k object (Some end_catch) fs held) rest)
          (without_keeps object told (m + 1) own.gone.0.unhandled (quiet_keeps (m + 1) w told qu more))

    -- what a pad got
    abbrev got : Carried
    got = record { word = x.slots 2; home = 6; number = x.slots 3; left = [] }

    word_apart : (word : Word) → WordGoes marks code (called end_catch 5 x) fs got word w → AllByRecursion (But (exception_in_slot x 0)) (elim word [ flying e d ↦ e ∷ [] | _ ↦ [] ])
    word_apart (flying e d) h = (other_way (exception_in_slot x 0) e (neither (exception_in_slot x 0 == e) false h.0.apart).0, tt)
    word_apart (unwinding z) h = tt
    word_apart nothing h = tt
    word_apart (number_word z) h = tt
    word_apart (address_word a) h = tt

    frees_on_way : CallKeeps code k marks None (called end_catch 5 x) fs w → is_live w (exception_in_slot x 0) ≡ true → Goes marks code k (m + 1) (at end_catch 6 x fs (freed (exception_in_slot x 0) w))
    frees_on_way own live =
        let e = exception_in_slot x 0 in
        let v = freed e w in
        free_goes 5 6 own live
        (same_goes marks code end_catch 5 6 x fs got v (x.slots 2) (word_goes code k marks (But e) w v (frees 5 6 own live) (called end_catch 5 x) fs got (x.slots 2) (word_apart (x.slots 2) own.carries) own.carries)) tt

    resumes : CallKeeps code k marks None (called end_catch 6 x) fs w → (word : Word) → x.slots 2 ≡ word → WordGoes marks code (called end_catch 6 x) fs got word w → Goes marks code k (m + 1) (resumed code word (called end_catch 6 x) fs w)
    resumes own (flying e d) i h =
        resumed_goes marks code k c (m + 1) e d (called end_catch 6 x) fs w (by h.0.goes) own rest more h.0.can h.0.again h.0.apart (own.forgets 2 e tt (ap address_in i)) h.1
      where
        by : ((false ≡ true) × (d ≡ length fs)) ⊎ (IsOther h.0.selector [] × AimsAt code (type_at w e) d (called end_catch 6 x ∷ fs)) → AimsAt code (type_at w e) d (called end_catch 6 x ∷ fs)
        by (inl j) = absurd (cc j.0)
        by (inr j) = j.1
    resumes own (unwinding z) i h = force_goes marks code k c (m + 1) w more z h.1 (called end_catch 6 x) fs own rest
    resumes own nothing i h = absurd h
    resumes own (number_word z) i h = absurd h
    resumes own (address_word a) i h = absurd h

    pub catch_goes : (p : ℕ) → CallKeeps code k marks None (called end_catch p x) fs w → Goes marks code k (m + 1) (act_on code (fetch code end_catch p) (called end_catch p x) fs w)
    catch_goes zero own = next_goes marks code k (m + 1) (may_leave w w.caught) w (if gives_back w.caught then given_back (exception_at w (newest_of w.caught)) (newest_of w.caught) 0 1 3 (called end_catch 0 x) fs (left w) else at end_catch 3 x fs (left w)) (leaves own w.caught refl)
    catch_goes (suc zero) own = run_goes own
    catch_goes (suc (suc zero)) own = next_goes marks code k (m + 1) (is_live w (exception_in_slot x 0)) w (at end_catch 3 x fs (freed (exception_in_slot x 0) w)) (λ live. free_goes 2 3 own live tt tt)
    catch_goes (suc (suc (suc zero))) own = returned_goes marks code k c m w world lives end_catch refl refl (Some (pos 0)) fs rest others
    catch_goes (suc (suc (suc (suc zero)))) own = tt
    catch_goes (suc (suc (suc (suc (suc zero))))) own = next_goes marks code k (m + 1) (is_live w (exception_in_slot x 0)) w (at end_catch 6 x fs (freed (exception_in_slot x 0) w)) (λ live. frees_on_way own live)
    catch_goes (suc (suc (suc (suc (suc (suc zero)))))) own = resumes own (x.slots 2) refl own.carries
    catch_goes (suc (suc (suc (suc (suc (suc (suc p))))))) own = tt

  -- terminate
  module _ (x : Frame) (rest : CallsKeep code k marks (Some terminating) fs w) (whole : IsWhole (kinds code terminating) x) where
    ending_held : CallKeeps code k marks None (called terminating 0 x) fs w → (word : Word) → Goes marks code k (m + 1) (called_held code word (called terminating 0 x) fs w)
    ending_held own (number_word (pos n)) =
        calls_go marks code k c m terminating 0 x fs w own rest world lives (helps_whole code terminating x whole) (λ d. record { op = runtime (call_held 0); there = refl; made = refl }) n [] (λ v t help. refl)
    ending_held own (number_word (negsuc n)) = top_goes marks code k (m + 1) terminating 1 x fs w own.forgets tt tt tt rest more
    ending_held own nothing = top_goes marks code k (m + 1) terminating 1 x fs w own.forgets tt tt tt rest more
    ending_held own (address_word a) = top_goes marks code k (m + 1) terminating 1 x fs w own.forgets tt tt tt rest more
    ending_held own (flying e d) = top_goes marks code k (m + 1) terminating 1 x fs w own.forgets tt tt tt rest more
    ending_held own (unwinding z) = top_goes marks code k (m + 1) terminating 1 x fs w own.forgets tt tt tt rest more

    pub ending_goes : (p : ℕ) → CallKeeps code k marks None (called terminating p x) fs w → Goes marks code k (m + 1) (act_on code (fetch code terminating p) (called terminating p x) fs w)
    ending_goes zero own = ending_held own (x.slots 0)
    ending_goes (suc zero) own = tt
    ending_goes (suc (suc p)) own = tt

  -- what a specification stopped
  module _ (x : Frame) (rest : CallsKeep code k marks (Some call_unexpected) fs w) (whole : IsWhole (kinds code call_unexpected) x) where
    -- it goes on at a place at which it carries nothing
    passing_on : (p q : ℕ) (v : World) → CallKeeps code k marks None (called call_unexpected p x) fs w → FlightGoes marks code (called call_unexpected q x) fs (carried k (called call_unexpected q x)) v → StubHolds marks call_unexpected q x →
        Quiet w v → Goes marks code k (m + 1) (at call_unexpected q x fs v)
    passing_on p q v own carries slots qu =
        top_goes marks code k (m + 1) call_unexpected q x fs v own.forgets carries tt slots (calls_quiet code k marks w v (Some call_unexpected) fs qu rest) (quiet_keeps (m + 1) w v qu more)

    -- it is entered
    begins : CallKeeps code k marks None (called call_unexpected 0 x) fs w → (h : Option ℕ) → (is_native (exception_at w (exception_in_slot x 0)) && may_enter w (exception_in_slot x 0)) ≡ true →
        Goes marks code k (m + 1) (at call_unexpected 1 (with_slot 3 (function_word h) x) fs (entered (exception_in_slot x 0) w))
    begins own h may =
        let e = exception_in_slot x 0 in
        let enters = (and_parts (is_native (exception_at w e)) (may_enter w e) may).1 in
        let both = and_parts (can_travel w e) (not (w.uncaught == 0) && is_on_top e w.caught) enters in
        let top = (and_parts (not (w.uncaught == 0)) (is_on_top e w.caught) both.1).1 in
        let first = (built_number marks.known w.last_number w.live e lives.lives both.0).0 in
        let held = slot_free marks code k c m call_unexpected 0 x fs w own rest world lives (helps_whole code call_unexpected x whole) 0 tt first in
        top_goes marks code k (m + 1) call_unexpected 1 (with_slot 3 (function_word h) x) fs (entered e w)
        (slot_forgets marks code k call_unexpected fs 3 (function_word h) x (λ i. function_forgets marks code k call_unexpected fs h) own.forgets) tt tt tt
        (calls_kept code k marks (But e) w (entered e w) (entered_changes e w) (Some call_unexpected) fs (others_spared k e (Some call_unexpected) fs held) rest) (entered_keeps e w m both.0 top world)

    held : CallKeeps code k marks None (called call_unexpected 1 x) fs w → (word : Word) → Goes marks code k (m + 1) (called_held code word (called call_unexpected 1 x) fs w)
    held own (number_word (pos n)) =
        calls_go marks code k c m call_unexpected 1 x fs w own rest world lives (helps_whole code call_unexpected x whole) (λ d. record { op = runtime (call_held 3); there = refl; made = refl }) n [] (λ v t help. refl)
    held own (number_word (negsuc n)) = passing_on 1 2 w own tt tt (itself w)
    held own nothing = passing_on 1 2 w own tt tt (itself w)
    held own (address_word a) = passing_on 1 2 w own tt tt (itself w)
    held own (flying e d) = passing_on 1 2 w own tt tt (itself w)
    held own (unwinding z) = passing_on 1 2 w own tt tt (itself w)

    -- what came out of the handler: an exception is entered, and a forced unwind goes on
    abbrev stopped : Carried
    stopped = record { word = x.slots 4; home = 17; number = x.slots 5; left = [] }

    forced_goes : (word : Word) → holds_number (x.slots 5) (pos 0) ≡ true → IsStopped marks word (x.slots 5) → WordGoes marks code (called call_unexpected 16 x) fs stopped word w
    forced_goes (flying e d) i h = let never : false ≡ true = sym (ap (λ y. holds_number y (pos 0)) h) ∙ i in absurd (cc never)
    forced_goes (unwinding z) i h = h
    forced_goes nothing i h = absurd h
    forced_goes (number_word z) i h = absurd h
    forced_goes (address_word a) i h = absurd h

    tests : CallKeeps code k marks None (called call_unexpected 4 x) fs w → (b : Bool) → holds_number (x.slots 5) (pos 0) ≡ b →
        Goes marks code k (m + 1) (if b then jumped code 16 (called call_unexpected 4 x) fs w else on (called call_unexpected 4 x) x fs w)
    tests own true i = passing_on 4 16 w own (forced_goes (x.slots 4) i own.slots) tt (itself w)
    tests own false i = passing_on 4 5 w own tt tt (itself w)

    zero_at : (p l : ℕ) → CallKeeps code k marks None (called call_unexpected p x) fs w → FlightGoes marks code (called call_unexpected l x) fs (carried k (called call_unexpected l x)) w → StubHolds marks call_unexpected l x →
        FlightGoes marks code (called call_unexpected (p + 1) x) fs (carried k (called call_unexpected (p + 1) x)) w → StubHolds marks call_unexpected (p + 1) x → (o : Option ℤ) → Goes marks code k (m + 1) (jumped_zero code o l (called call_unexpected p x) fs w)
    zero_at p l own there slots here others None = tt
    zero_at p l own there slots here others (Some z) =
        either marks code k (m + 1) (is_zero z) (jumped code l (called call_unexpected p x) fs w) (on (called call_unexpected p x) x fs w) (passing_on p l w own there slots (itself w)) (passing_on p (p + 1) w own here others (itself w))

    resumes_out : CallKeeps code k marks None (called call_unexpected 17 x) fs w → (word : Word) → x.slots 4 ≡ word → WordGoes marks code (called call_unexpected 17 x) fs stopped word w →
        Goes marks code k (m + 1) (resumed code word (called call_unexpected 17 x) fs w)
    resumes_out own (flying e d) i h =
        resumed_goes marks code k c (m + 1) e d (called call_unexpected 17 x) fs w (by h.0.goes) own rest more h.0.can h.0.again h.0.apart (own.forgets 4 e tt (ap address_in i)) h.1
      where
        by : ((false ≡ true) × (d ≡ length fs)) ⊎ (IsOther h.0.selector [] × AimsAt code (type_at w e) d (called call_unexpected 17 x ∷ fs)) → AimsAt code (type_at w e) d (called call_unexpected 17 x ∷ fs)
        by (inl j) = absurd (cc j.0)
        by (inr j) = j.1
    resumes_out own (unwinding z) i h = force_goes marks code k c (m + 1) w more z h.1 (called call_unexpected 17 x) fs own rest
    resumes_out own nothing i h = absurd h
    resumes_out own (number_word z) i h = absurd h
    resumes_out own (address_word a) i h = absurd h

    pub passing_goes : (p : ℕ) → NewMarked marks code (record { top = called call_unexpected p x; frames = fs; world = w }) → CallKeeps code k marks None (called call_unexpected p x) fs w → Goes marks code k (m + 1) (act_on code (fetch code call_unexpected p) (called call_unexpected p x) fs w)
    passing_goes zero news own =
        let e = exception_in_slot x 0 in
        next_goes marks code k (m + 1) (is_native (exception_at w e) && may_enter w e) w
        (at call_unexpected 1 (with_slot 3 (function_word (kept_with (exception_at w e)).unexpected_handler) x) fs (entered e w)) (λ may. begins own (kept_with (exception_at w e)).unexpected_handler may)
    passing_goes (suc zero) news own = held own (x.slots 3)
    passing_goes (suc (suc zero)) news own = newest_ends marks code k (m + 1) _ (called call_unexpected 2 x) fs w own rest more
    passing_goes (suc (suc (suc zero))) news own = tt
    passing_goes (suc (suc (suc (suc zero)))) news own = tests own (holds_number (x.slots 5) (pos 0)) refl
    passing_goes (suc (suc (suc (suc (suc zero))))) news own =
        op_does marks code k c m call_unexpected 5 x fs w own rest world lives (helps_whole code call_unexpected x whole) (λ y v. tt) (λ y. tt) (λ y. refl) (effect (kinds code call_unexpected) (enter 4) x w)
        (λ e v d i there. news.raised (enter 4) e v d refl i there) (λ z v i. news.cancelled (enter 4) z v refl i) (λ d. record { op = linear (plain (enter 4)); there = refl; made = refl }) (enter 4) tt tt tt refl
    passing_goes (suc (suc (suc (suc (suc (suc zero)))))) news own =
        let answer = checked code.rows (sense_held code (x.slots 2) (x.slots 1)) (type_at w (exception_in_slot x 4)) in
        top_goes marks code k (m + 1) call_unexpected 7 (with_slot 6 (number_word answer) x) fs w
        (slot_forgets marks code k call_unexpected fs 6 (number_word answer) x (λ i. number_forgets marks code k call_unexpected fs answer) own.forgets) tt tt tt rest more
    passing_goes (suc (suc (suc (suc (suc (suc (suc zero))))))) news own = zero_at 7 10 own tt tt tt tt _
    passing_goes (suc (suc (suc (suc (suc (suc (suc (suc zero)))))))) news own = zero_at 8 11 own tt tt tt tt _
    passing_goes (suc (suc (suc (suc (suc (suc (suc (suc (suc zero))))))))) news own = newest_ends marks code k (m + 1) _ (called call_unexpected 9 x) fs w own rest more
    passing_goes (suc (suc (suc (suc (suc (suc (suc (suc (suc (suc zero)))))))))) news own =
        op_does marks code k c m call_unexpected 10 x fs w own rest world lives (helps_whole code call_unexpected x whole) (λ y v. tt) (λ y. tt) (λ y. refl) (effect (kinds code call_unexpected) rethrow x w)
        (λ e v d i there. news.raised rethrow e v d refl i there) (λ z v i. news.cancelled rethrow z v refl i) (λ d. record { op = linear (plain rethrow); there = refl; made = refl }) rethrow tt tt tt refl
    passing_goes (suc (suc (suc (suc (suc (suc (suc (suc (suc (suc (suc zero))))))))))) news own =
        op_does marks code k c m call_unexpected 11 x fs w own rest world lives (helps_whole code call_unexpected x whole) (λ y v. tt) (λ y. tt) (λ y. refl) (effect (kinds code call_unexpected) (make 7) x w)
        (λ e v d i there. news.raised (make 7) e v d refl i there) (λ z v i. news.cancelled (make 7) z v refl i) (λ d. record { op = linear (plain (make 7)); there = refl; made = refl }) (make 7) tt tt tt refl
    passing_goes (suc (suc (suc (suc (suc (suc (suc (suc (suc (suc (suc (suc zero)))))))))))) news own = passing_on 12 13 (empty_call fs w) own tt tt (quiet w (empty_call fs w) refl refl refl refl refl)
    passing_goes (suc (suc (suc (suc (suc (suc (suc (suc (suc (suc (suc (suc (suc zero))))))))))))) news own =
        op_does marks code k c m call_unexpected 13 x fs w own rest world lives (helps_whole code call_unexpected x whole) (λ y v. tt) (λ y. tt) (λ y. refl) (effect (kinds code call_unexpected) (throw 7 bad_row None) x w)
        (λ e v d i there. news.raised (throw 7 bad_row None) e v d refl i there) (λ z v i. news.cancelled (throw 7 bad_row None) z v refl i) (λ d. record { op = linear (plain (throw 7 bad_row None)); there = refl; made = refl }) (throw 7 bad_row None) tt tt tt refl
    passing_goes (suc (suc (suc (suc (suc (suc (suc (suc (suc (suc (suc (suc (suc (suc zero)))))))))))))) news own = tt
    passing_goes (suc (suc (suc (suc (suc (suc (suc (suc (suc (suc (suc (suc (suc (suc (suc zero))))))))))))))) news own =
        leaves_go marks code k c m call_unexpected 15 x fs w own rest world lives (helps_whole code call_unexpected x whole) (record { op = linear (plain leave); there = refl; made = refl })
    passing_goes (suc (suc (suc (suc (suc (suc (suc (suc (suc (suc (suc (suc (suc (suc (suc (suc zero)))))))))))))))) news own =
        leaves_go marks code k c m call_unexpected 16 x fs w own rest world lives (helps_whole code call_unexpected x whole) (record { op = linear (plain leave); there = refl; made = refl })
    passing_goes (suc (suc (suc (suc (suc (suc (suc (suc (suc (suc (suc (suc (suc (suc (suc (suc (suc zero))))))))))))))))) news own = resumes_out own (x.slots 4) refl own.carries
    passing_goes (suc (suc (suc (suc (suc (suc (suc (suc (suc (suc (suc (suc (suc (suc (suc (suc (suc (suc p)))))))))))))))))) news own = tt
