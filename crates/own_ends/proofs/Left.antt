-- call_unexpected leaves its handlers.
use Rattle.std.proofs.Common.{◌≡◌, ◌∙◌, refl, sym, ap, subst, arith, ℕ, ◌+◌, ◌==◌, ◌||◌, Bool, true, false, List, [], ◌∷◌, ◌++◌, append_assoc, Some, None, inl, inr}
use Rattle.std.specs.Prelude.{if◌then◌else◌}
use Rattle.meaning_forms.specs.Class.{some_of, contains}
use Rattle.meaning_forms.specs.World.{Installed}
use Rattle.run_items.specs.declared.item.Item.{Item}
use Rattle.run_items.specs.declared.item.Item.TheVariants.{Leave, Destroy, Free, Clean}
use Rattle.rv64_isa.specs.Step.{x}
use Rattle.caught_stack.specs.declared.ended.Ended.TheVariants.{Last}
use Rattle.caught_stack.specs.declared.header.Header.{Header}
use Rattle.caught_stack.specs.declared.header.HeaderKind.TheVariants.{Native, Foreign}
use Rattle.caught_stack.specs.Allocate.{freed as slot_freed, with_header}
use Rattle.caught_stack.specs.Exceptions.{Exceptions}
use Rattle.caught_stack.specs.End.{ended}
use Rattle.caught_stack.proofs.Headers.{header_changed}
use Rattle.cxa_runtime.specs.declared.object.Object.{Object}
use Rattle.cxa_runtime.specs.Leaving.{building_again}
use Rattle.cxa_runtime.specs.World as abi
use Rattle.cxa_runtime.specs.Raising.{Image}
use Rattle.region_forms.specs.Caught.{Entry, is_last, gives_back}
use Rattle.region_forms.specs.World.{World, native, foreign, exception_type, type_at, Frame, with_slot, address_word, object_address, nothing, exception_at}
use Rattle.region_forms.specs.Effect.{left, cleaned_up, freed, newest_of}
use Rattle.region_forms.specs.Lives.{is_live, is_built, may_leave}
use Rattle.linear_forms.specs.Stub.{end_catch, call_unexpected}
use Rattle.linear_forms.specs.Activation.{Activation, State as LinearState, Next, goes_to, not_defined, next_if, at as linear_at}
use Rattle.linear_forms.specs.StubOperation.{given_back, is_bad, empty_call}
use Rattle.linear_forms.specs.Machine.{act_on, step, go_on, over, exec}
use Rattle.linear_forms.specs.UnitRun.{code_of}
use Rattle.machine_forms.specs.Registers.{sp}
use Rattle.machine_pieces.specs.Turning.{Turns, Reaches}
use Rattle.machine_pieces.proofs.Turning.{turns_then}
use Rattle.machine_pieces.specs.Keeping.{saved_of}
use Rattle.machine_stubs.specs.Calls.{CallsAreMade}
use Rattle.machine_stubs.specs.CallUnexpected.{UnexpectedEnds}
use Rattle.machine_stubs.specs.EndCatch.{EndCatchRuns}
use Rattle.machine_stubs.specs.ComesBack.{EndCatchComesBack}
use Rattle.machine_stubs.specs.Frees.{EndCatchFrees}
use Rattle.machine_simulation.specs.Plan.{Plan}
use Rattle.machine_simulation.specs.Exceptions.{Addresses, LinearExceptions, addresses_of, exceptions_in, kept_by, destroyed, live_in, record_address, HeaderIs, HasHeader, ExceptionsMatch, PlanHas}
use Rattle.machine_simulation.specs.Objects.{without_object, Shows}
use Rattle.machine_simulation.proofs.Holding.{same_number}
use Rattle.machine_exceptions.specs.Leaves.{StepsTo, behind, destroying, destroyed_world}
use Rattle.machine_exceptions.proofs.LiveLists.{without}
use Rattle.machine_exceptions.proofs.Headers.{slot_below}
use Rattle.machine_exceptions.proofs.Freed.{freed_match}
use Rattle.machine_exceptions.proofs.Frees.{plan_without}
use Rattle.machine_exceptions.proofs.Enters.{exception_is, live_is}
use Rattle.machine_exceptions.proofs.Left.{left_match, ended_last, last_out, let_go_match}
use Rattle.machine_exceptions.proofs.CatchSteps.{in_catch, no_words, still_step, last_step}
use Rattle.machine_exceptions.proofs.Cleaning.{foreign_left}
use Rattle.machine_exceptions.proofs.Leaves.{leave_shown}
use Rattle.machine_exceptions.proofs.LastLeft.{caught_whole, caught_header, items_then}
use Rattle.stub_landings.specs.Rests.{LeavesOn}
use Rattle.own_ends.specs.Callers.{CalledBy}
use Rattle.own_ends.specs.Leaving.{CatchBegins, Leaving, AtOwnLeave}
use Rattle.own_ends.specs.Left.{OwnHandlersLeft}
use Rattle.own_ends.proofs.Memory.{stub_alike, stub_without}
use Rattle.own_ends.proofs.Registers.{registers_gone}
use Rattle.own_ends.proofs.Calling.{own_leave, call_step, return_step, catch_begins, at_catch}
use Rattle.own_ends.proofs.Leaving.{newest_left, goes_on, still_left}

-- ---- a foreign one

foreign_gone : EndCatchRuns → CallsAreMade → (image : Image) (p : Plan) (place k : ℕ) (st : LinearState) (y : Entry) (ys : List Entry) (number token : ℕ) (w : abi.World) → CatchBegins p place k st w → CalledBy st.frames → st.world.caught ≡ y ∷ ys →
    is_last y ≡ true → live_in st.world.live y.number ≡ Some (foreign number token) →
    Reaches image 12 w (Leave y.number ∷ Clean number token ∷ []) (λ u. LeavesOn (without_object p y.number) k (place + 1) (behind st (cleaned_up y.number number token (left st.world))) u)
foreign_gone catches made image p place k st y ys number token w b c caught last there =
    let v : World = st.world in
    let e : ℕ = y.number in
    let at = at_catch p place k st w b c in
    let m = b.runtime.exceptions in
    let places : Addresses = addresses_of p in
    let gone : List ℕ = destroyed (st.top ∷ st.frames) in
    let l = newest_left p st y ys w m caught in
    let slot : ℕ = l.new.slot in
    let o : Object = record { slot = slot; header = l.new.here.0.header } in
    let es : Exceptions = (ended w.exceptions).1 in
    let kind : o.header.kind ≡ Foreign number token = caught_header places gone (exceptions_in v) (kept_by w) e slot (foreign number token) m l.new.here there in
    let ends : ended w.exceptions ≡ (Some (Last slot), es) = l.ends ∙ ap (λ z. (Some z, es)) (ended_last y slot l.new.count l.new.counted last) in
    let come = foreign_left catches made image p.unit p.base o number token es w (omega (arith, at.low)) at.stands at.aligned at.small l.object kind ends in
    let t : abi.World = come.after in
    let u : World = cleaned_up e number token (left v) in
    let whole = caught_whole places gone (exceptions_in v) (kept_by w) e slot m l.new.here in
    let m1 = left_match places gone (exceptions_in v) (kept_by w) y ys m caught in
    let m2 = freed_match places gone gone (record (exceptions_in v) { caught = (left v).caught }) (record (kept_by w) { exceptions = es }) e slot (foreign number token) m1 l.new.here.0
    (last_out w.exceptions.live y ys w.exceptions l.new m.sound.once last) there m.distinct whole (λ d other. refl) in
    record {
      turns = come.turns;
      few = come.few;
      after = t;
      runs = subst (λ i. Turns image come.turns w t (Leave i ∷ Clean number token ∷ [])) l.new.here.0.number come.runs;
      holds = goes_on p (without_object p e) place k st u w t (slot_freed slot es) b c come.holds refl (λ d. refl) refl refl refl refl
          (λ h. stub_without p call_unexpected st.frames u t.hart.memory (x t.hart sp) b.back e (stub_alike p call_unexpected st.frames v u t.hart.memory (x t.hart sp) b.back refl refl (same_number v) h))
          (λ h rs. registers_gone p call_unexpected st.frames v u t.hart.memory (x t.hart sp) b.back e (saved_of t.hart) refl refl (same_number v) h rs) m2
          (plan_without p e v.live b.runtime.plan);
    }

-- ---- one without a destructor

-- worlds that match alike
record Alike (a b : World) : Type 0 where
  memory : a.memory ≡ b.memory
  calls : a.calls ≡ b.calls
  exceptions : exceptions_in a ≡ exceptions_in b
  input : a.input ≡ b.input
  replies : a.replies ≡ b.replies
  ending : a.ending ≡ b.ending

no_destructor : (t : Addresses) (type : ℕ) (kept : Installed) (h : Header) → HeaderIs t false (native type None kept) h → h.kind ≡ Native (record_address t.base type) 0
no_destructor t type kept h is = is.0.1 ∙ ap (Native (record_address t.base type)) is.0.2

freed_then : EndCatchFrees → (image : Image) (p : Plan) (place k : ℕ) (st : LinearState) (y : Entry) (ys : List Entry) (type : ℕ) (kept : Installed) (w : abi.World) (d : World) → CatchBegins p place k st w → CalledBy st.frames →
    st.world.caught ≡ y ∷ ys → is_last y ≡ true → live_in st.world.live y.number ≡ Some (native type None kept) → Alike d (left st.world) →
    Reaches image 16 w (Leave y.number ∷ Destroy y.number ∷ Free y.number ∷ []) (λ u. LeavesOn (without_object p y.number) k (place + 1) (behind st (freed y.number d)) u)
freed_then frees image p place k st y ys type kept w d b c caught last there alike =
    let v : World = st.world in
    let e : ℕ = y.number in
    let at = at_catch p place k st w b c in
    let m = b.runtime.exceptions in
    let places : Addresses = addresses_of p in
    let gone : List ℕ = destroyed (st.top ∷ st.frames) in
    let l = newest_left p st y ys w m caught in
    let slot : ℕ = l.new.slot in
    let header : Header = l.new.here.0.header in
    let o : Object = record { slot = slot; header = header } in
    let es : Exceptions = (ended w.exceptions).1 in
    let again : Exceptions = with_header slot (building_again header) es in
    let kind : header.kind ≡ Native (record_address p.base type) 0 = no_destructor places type kept header (caught_header places gone (exceptions_in v) (kept_by w) e slot (native type None kept) m l.new.here there) in
    let ends : ended w.exceptions ≡ (Some (Last slot), es) = l.ends ∙ ap (λ z. (Some z, es)) (ended_last y slot l.new.count l.new.counted last) in
    let low = slot_below w.exceptions.live slot header l.new.here.0.there in
    let come = frees image p.unit p.base o (record_address p.base type) es w (omega (arith, at.low)) at.stands at.aligned at.small l.object kind ends m.sound.slots (omega (arith, low, m.sound.slots)) in
    let t : abi.World = come.after in
    let u : World = freed e d in
    let whole = caught_whole places gone (exceptions_in v) (kept_by w) e slot m l.new.here in
    let out = last_out w.exceptions.live y ys w.exceptions l.new m.sound.once last in
    let after_left : LinearExceptions = record (exceptions_in v) { caught = (left v).caught } in
    let m1 = left_match places gone (exceptions_in v) (kept_by w) y ys m caught in
    let m2 = let_go_match places gone after_left (record (kept_by w) { exceptions = es }) e slot type None kept m1 l.new.here.0 out there whole in
    let has : HasHeader again.live e slot = record { header = building_again header; there = header_changed es.live slot (Some (building_again header)) low; number = l.new.here.0.number } in
    let m3 = freed_match places (e ∷ gone) gone after_left (record (kept_by w) { exceptions = again }) e slot (native type None kept) m2 has out there m.distinct whole
    (λ n other. sym (ap (λ z. z || contains gone n) other)) in
    let m4 = subst (λ z. ExceptionsMatch places gone (record z { live = (exceptions_in (freed e d)).live }) (record (kept_by w) { exceptions = slot_freed slot again })) (sym alike.exceptions)
    (subst (λ (z : LinearExceptions). ExceptionsMatch places gone (record (exceptions_in (left v)) { live = without e z.live }) (record (kept_by w) { exceptions = slot_freed slot again })) (sym alike.exceptions) m3) in
    let numbers : d.last_number ≡ v.last_number = ap (λ (z : LinearExceptions). z.last_number) alike.exceptions in
    let lives : d.live ≡ v.live = ap (λ (z : LinearExceptions). z.live) alike.exceptions in
    record {
      turns = come.turns;
      few = come.few;
      after = t;
      runs = subst (λ i. Turns image come.turns w t (Leave i ∷ Destroy i ∷ Free i ∷ [])) l.new.here.0.number come.runs;
      holds = goes_on p (without_object p e) place k st u w t (slot_freed slot again) b c come.holds refl (λ n. refl) numbers alike.input alike.replies alike.ending
          (λ h. stub_without p call_unexpected st.frames u t.hart.memory (x t.hart sp) b.back e
          (stub_alike p call_unexpected st.frames v u t.hart.memory (x t.hart sp) b.back alike.memory alike.calls (omega (arith, numbers)) h))
          (λ h rs. registers_gone p call_unexpected st.frames v u t.hart.memory (x t.hart sp) b.back e (saved_of t.hart) alike.memory alike.calls (omega (arith, numbers)) h rs) m4 (plan_without p e d.live (subst (PlanHas p) (sym lives) b.runtime.plan));
    }

-- ---- the steps, and what they show

-- behind the turns up to end_catch
pub after_calling : (image : Image) (most more : ℕ) (w : abi.World) (items : List Item) (B P : abi.World → Type 0) → Reaches image most w [] B → ((u : abi.World) → B u → Reaches image more u items P) → Reaches image (most + more) w items P
after_calling image most more w items B P one rest =
    let two = rest one.after one.holds in
    record { turns = one.turns + two.turns; few = omega (arith, one.few, two.few); after = two.after; runs = turns_then image one.turns two.turns w one.after two.after [] items one.runs two.runs; holds = two.holds }

-- the steps do not depend on where the hart is
pub record CallsAt (p : Plan) (st : LinearState) : Type 0 where
  pub calls : step (code_of p.unit) st ≡ goes_to (in_catch st 0 no_words st.world)
  pub returns : (frame : Frame) (v : World) → step (code_of p.unit) (in_catch st 3 frame v) ≡ goes_to (behind st v)

pub calls_at : UnexpectedEnds → (image : Image) (p : Plan) (place k : ℕ) (st : LinearState) (w : abi.World) → Leaving p place k st w → CallsAt p st
calls_at ends image p place k st w h =
    let came = catch_begins ends image p place k st w h in
    record { calls = call_step p place k st came.after came.holds; returns = λ frame v. return_step p place k st came.after frame v came.holds }

-- the destructor's place is passed where there is none
none_step : (p : Plan) (st : LinearState) (e type : ℕ) (kept : Installed) → live_in st.world.live e ≡ Some (native type None kept) → (frame : Frame) → frame ≡ with_slot 1 nothing (with_slot 0 (address_word (object_address e)) no_words) →
    let fs = st.top ∷ st.frames in
    step (code_of p.unit) (in_catch st 1 frame (destroying e st.world)) ≡ goes_to (in_catch st 2 frame (if is_bad (Some type) then empty_call fs (destroying e st.world) else destroying e st.world))
none_step p st e type kept there frame is =
    let v : World = destroying e st.world in
    let fs : List Activation = st.top ∷ st.frames in
    let known : type_at v e ≡ Some type = ap exception_type (exception_is st.world.live e (native type None kept) there) in
    ap (λ (f : Frame). step (code_of p.unit) (in_catch st 1 f v)) is ∙ ap (λ o. goes_to (in_catch st 2 (with_slot 1 nothing (with_slot 0 (address_word (object_address e)) no_words)) (if is_bad o then empty_call fs v else v))) known
    ∙ ap (λ f. goes_to (in_catch st 2 f (if is_bad (Some type) then empty_call fs v else v))) (sym is)

-- no handler may be left
leaving_step : (p : Plan) (place k : ℕ) (st : LinearState) (w : abi.World) → Leaving p place k st w → step (code_of p.unit) st ≡ goes_to (in_catch st 0 no_words st.world)
leaving_step p place k st w (inl (h, at, word)) = ap (λ o. act_on (code_of p.unit) o st.top st.frames st.world) (own_leave (code_of p.unit) st.top.function st.top.place 15 55 h.rests.runs h.place (inl (refl, refl)))
leaving_step p place k st w (inr (inl (h, at, word))) = ap (λ o. act_on (code_of p.unit) o st.top st.frames st.world) (own_leave (code_of p.unit) st.top.function st.top.place 16 57 h.rests.runs h.there (inr (refl, refl)))
leaving_step p place k st w (inr (inr c)) = call_step p place k st w c

none_left : (p : Plan) (st : LinearState) → step (code_of p.unit) st ≡ goes_to (in_catch st 0 no_words st.world) → may_leave st.world st.world.caught ≡ false → exec (code_of p.unit) 2 st ≡ over not_defined st.world
none_left p st called none =
    let v : World = st.world in
    let a : Activation = record { function = end_catch; place = 0; frame = no_words } in
    let fs : List Activation = st.top ∷ st.frames in
    let more : Next = if gives_back v.caught then given_back (exception_at v (newest_of v.caught)) (newest_of v.caught) 0 1 3 a fs (left v) else linear_at end_catch 3 no_words fs (left v) in
    ap (go_on (exec (code_of p.unit) 1)) called ∙ ap (λ b. go_on (exec (code_of p.unit) 0) (next_if b v more)) none

pub own_handlers_left : UnexpectedEnds → EndCatchRuns → CallsAreMade → EndCatchComesBack → EndCatchFrees → OwnHandlersLeft
own_handlers_left ends catches made comes frees = record {
  breaks = λ p place k st w h none. none_left p st (leaving_step p place k st w h) none;
  still_handled = λ image p place k st y ys w h built last.
      let s = calls_at ends image p place k st w h.leaves in (
        (in_catch st 0 no_words st.world, s.calls, (in_catch st 3 no_words (left st.world), still_step p st y ys h.caught built last, (behind st (left st.world), s.returns no_words (left st.world), refl))),
        leave_shown st.world y ys h.caught,
        after_calling image 4 12 w (Leave y.number ∷ []) (λ u. CatchBegins p place k st u) (λ u. LeavesOn p k (place + 1) (behind st (left st.world)) u) (catch_begins ends image p place k st w h.leaves)
            (λ u b. still_left comes image p place k st y ys u b h.called h.caught last),
      );
  foreign_cleaned = λ image p place k st y ys number token w h last there.
      let u : World = cleaned_up y.number number token (left st.world) in
      let s = calls_at ends image p place k st w h.leaves in (
        (
          in_catch st 0 no_words st.world,
          s.calls,
          (
            in_catch st 3 no_words u,
            last_step p st y ys (foreign number token) h.caught (ap is_built (exception_is st.world.live y.number (foreign number token) there)) last (exception_is st.world.live y.number (foreign number token) there),
            (behind st u, s.returns no_words u, refl),
          ),
        ),
        items_then st.world y ys (Clean number token ∷ []) h.caught,
        after_calling image 4 12 w (Leave y.number ∷ Clean number token ∷ []) (λ t. CatchBegins p place k st t) (λ t. LeavesOn (without_object p y.number) k (place + 1) (behind st u) t) (catch_begins ends image p place k st w h.leaves)
            (λ t b. foreign_gone catches made image p place k st y ys number token t b h.called h.caught last there),
      );
  freed_at_once = λ image p place k st y ys type kept w h last there. at_once image p place k st y ys type kept w h last there (is_bad (Some type)) refl;
}
  where
    at_once : (image : Image) (p : Plan) (place k : ℕ) (st : LinearState) (y : Entry) (ys : List Entry) (type : ℕ) (kept : Installed) (w : abi.World) → AtOwnLeave p place k st w y ys → is_last y ≡ true →
        live_in st.world.live y.number ≡ Some (native type None kept) → (b : Bool) → is_bad (Some type) ≡ b → let e = y.number in let fs = st.top ∷ st.frames in let next = behind st (destroyed_world type e fs st.world) in
        let items = Leave e ∷ Destroy e ∷ Free e ∷ [] in StepsTo (code_of p.unit) 5 st next × Shows st next items × Reaches image 20 w items (λ u. LeavesOn (without_object p e) k (place + 1) next u)
    at_once image p place k st y ys type kept w h last there b is =
        let e : ℕ = y.number in
        let fs : List Activation = st.top ∷ st.frames in
        let d : World = destroying e st.world in
        let frame : Frame = with_slot 1 nothing (with_slot 0 (address_word (object_address e)) no_words) in
        let u : World = if is_bad (Some type) then empty_call fs d else d in
        let by_case : Alike u (left st.world) × (u.items ≡ d.items) = subst (λ c. let z = (if c then empty_call fs d else d) in Alike z (left st.world) × (z.items ≡ d.items)) (sym is) (cases b) in
        let lives : u.live ≡ st.world.live = ap (λ (z : LinearExceptions). z.live) by_case.0.exceptions in
        let live_u : is_live u e ≡ true = ap (some_of (λ x. x.number == e)) lives ∙ live_is st.world.live e (native type None kept) there in
        let s = calls_at ends image p place k st w h.leaves in (
          (
            in_catch st 0 no_words st.world,
            s.calls,
            (
              in_catch st 1 frame d,
              last_step p st y ys (native type None kept) h.caught (ap is_built (exception_is st.world.live e (native type None kept) there)) last (exception_is st.world.live e (native type None kept) there),
              (
                in_catch st 2 frame u,
                none_step p st e type kept there frame refl,
                (in_catch st 3 frame (freed e u), ap (λ z. next_if z u (goes_to (in_catch st 3 frame (freed e u)))) live_u, (behind st (freed e u), s.returns frame (freed e u), refl)),
              ),
            ),
          ),
          ap (λ i. i ++ Free e ∷ []) by_case.1 ∙ append_assoc (left st.world).items (Destroy e ∷ []) (Free e ∷ []) ∙ items_then st.world y ys (Destroy e ∷ Free e ∷ []) h.caught,
          after_calling image 4 16 w (Leave e ∷ Destroy e ∷ Free e ∷ []) (λ t. CatchBegins p place k st t) (λ t. LeavesOn (without_object p e) k (place + 1) (behind st (freed e u)) t) (catch_begins ends image p place k st w h.leaves)
              (λ t c. freed_then frees image p place k st y ys type kept t u c h.called h.caught last there by_case.0),
        )
      where
        cases : (c : Bool) → let d = destroying y.number st.world in let z = (if c then empty_call (st.top ∷ st.frames) d else d) in Alike z (left st.world) × (z.items ≡ d.items)
        cases true = (record { memory = refl; calls = refl; exceptions = refl; input = refl; replies = refl; ending = refl }, refl)
        cases false = (record { memory = refl; calls = refl; exceptions = refl; input = refl; replies = refl; ending = refl }, refl)
