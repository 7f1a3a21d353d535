-- Leaving the last handler of an exception is matched.
use Rattle.std.proofs.Common.{◌≡◌, ◌∙◌, refl, sym, ap, subst, arith, ℕ, ◌+◌, ◌==◌, ◌||◌, Bool, true, false, List, [], ◌∷◌, ◌++◌, append_assoc, Some, None}
use Rattle.std.specs.Prelude.{if◌then◌else◌}
use Rattle.std.proofs.lemmas.Bool.Decides.{nat_tests}
use Rattle.meaning_forms.specs.Class.{some_of, contains}
use Rattle.meaning_forms.specs.World.{Installed}
use Rattle.run_items.specs.declared.item.Item.{Item}
use Rattle.run_items.specs.declared.item.Item.TheVariants.{Leave, Destroy, Free, Clean}
use Rattle.rv64_isa.specs.Step.{x}
use Rattle.caught_stack.specs.declared.ended.Ended.TheVariants.{Last}
use Rattle.caught_stack.specs.declared.header.Header.{Header}
use Rattle.caught_stack.specs.declared.header.HeaderKind.TheVariants.{Building, Native, Foreign}
use Rattle.caught_stack.specs.Allocate.{freed as slot_freed, with_header}
use Rattle.caught_stack.specs.Exceptions.{Exceptions}
use Rattle.caught_stack.specs.End.{ended}
use Rattle.caught_stack.proofs.Headers.{header_changed}
use Rattle.cxa_runtime.specs.declared.object.Object.{Object}
use Rattle.cxa_runtime.specs.Objects.{is_thrown}
use Rattle.cxa_runtime.specs.Leaving.{building_again}
use Rattle.cxa_runtime.specs.World as abi
use Rattle.cxa_runtime.specs.Raising.{Image}
use Rattle.region_forms.specs.Caught.{Entry, is_last}
use Rattle.region_forms.specs.World.{World, Exception, native, foreign, exception_type, type_at, Frame, with_slot, address_word, object_address, nothing}
use Rattle.region_forms.specs.Effect.{left, cleaned_up, freed}
use Rattle.region_forms.specs.Lives.{is_live, is_built}
use Rattle.linear_forms.specs.Activation.{Activation, State as LinearState, goes_to, next_if}
use Rattle.linear_forms.specs.StubOperation.{is_bad, empty_call}
use Rattle.linear_forms.specs.Machine.{step}
use Rattle.linear_forms.specs.UnitRun.{code_of}
use Rattle.machine_forms.specs.Registers.{sp}
use Rattle.machine_pieces.specs.Turning.{Turns, Reaches}
use Rattle.machine_pieces.proofs.Turning.{turns_then}
use Rattle.machine_pieces.specs.Keeping.{saved_of}
use Rattle.machine_stubs.specs.Calls.{CallsAreMade}
use Rattle.machine_stubs.specs.EndCatch.{EndCatchRuns}
use Rattle.machine_stubs.specs.ComesBack.{EndCatchComesBack}
use Rattle.machine_stubs.specs.Frees.{EndCatchFrees}
use Rattle.machine_simulation.specs.Plan.{Plan}
use Rattle.machine_simulation.specs.Exceptions.{Addresses, LinearExceptions, KeptExceptions, addresses_of, exceptions_in, kept_by, destroyed, live_in, record_address, HeaderIs, HasHeader, IsCaught, ExceptionsMatch, PlanHas}
use Rattle.machine_simulation.specs.Matches.{Matches}
use Rattle.machine_simulation.proofs.Matching.{stands_by, runtime_stays}
use Rattle.machine_simulation.proofs.Holding.{same_number}
use Rattle.machine_simulation.proofs.Lines.{matches_alike, registers_alike}
use Rattle.machine_simulation.specs.Objects.{without_object, Shows}
use Rattle.machine_exceptions.specs.Leaves.{StepsTo, behind, AtLeave, destroying, destroyed_world, LeavesRun}
use Rattle.machine_exceptions.proofs.LiveLists.{without}
use Rattle.machine_exceptions.proofs.Headers.{slot_below, thrown_or}
use Rattle.machine_exceptions.proofs.Freed.{freed_match}
use Rattle.machine_exceptions.proofs.Frees.{plan_without, memory_without, registers_without}
use Rattle.machine_exceptions.proofs.Enters.{exception_is, live_is}
use Rattle.machine_exceptions.proofs.Left.{left_match, ended_last, last_out, let_go_match}
use Rattle.machine_exceptions.proofs.EndCatching.{catch_called}
use Rattle.machine_exceptions.proofs.ComingBack.{runtime_then, returned}
use Rattle.machine_exceptions.proofs.CatchSteps.{in_catch, no_words, leave_step, still_step, last_step, back_step}
use Rattle.machine_exceptions.proofs.Cleaning.{foreign_left}
use Rattle.machine_exceptions.proofs.Leaves.{catch_stands, leaving, leave_shown, still_handled}

-- ---- a caught exception

-- no destructor of it runs
pub caught_whole : (t : Addresses) (gone : List ℕ) (v : LinearExceptions) (w : KeptExceptions) (e slot : ℕ) → ExceptionsMatch t gone v w → IsCaught w.exceptions.live e slot → contains gone e ≡ false
caught_whole t gone v w e slot m c = by (contains gone e) refl
  where
    by : (b : Bool) → contains gone e ≡ b → contains gone e ≡ false
    by false is = is
    by true is =
        let s = m.headers slot c.0.header c.0.there in
        let flag : contains gone c.0.header.number ≡ true = ap (contains gone) c.0.number ∙ is in
        let kind : c.0.header.kind ≡ Building = subst (λ b. HeaderIs t b s.exception c.0.header) flag s.is in
        absurd (thrown_or (is_thrown c.0.header.kind) c.1 (ap is_thrown kind))

-- what its header is
pub caught_header : (t : Addresses) (gone : List ℕ) (v : LinearExceptions) (w : KeptExceptions) (e slot : ℕ) (y : Exception) → ExceptionsMatch t gone v w → (c : IsCaught w.exceptions.live e slot) → live_in v.live e ≡ Some y →
    HeaderIs t false y c.0.header
caught_header t gone v w e slot y m c there =
    let s = m.headers slot c.0.header c.0.there in
    let both : Some s.exception ≡ Some y = sym s.live ∙ ap (live_in v.live) c.0.number ∙ there in
    let same : s.exception ≡ y = cc both in
    let whole : contains gone c.0.header.number ≡ false = ap (contains gone) c.0.number ∙ caught_whole t gone v w e slot m c in
    subst (λ b. HeaderIs t b y c.0.header) whole (subst (λ z. HeaderIs t (contains gone c.0.header.number) z c.0.header) same s.is)

pub itself : (e : ℕ) → (e == e) ≡ true
itself e = grind (arith, nat_tests)

-- ---- a foreign one

foreign_cleaned : EndCatchRuns → CallsAreMade → (image : Image) (p : Plan) (n : ℕ) (st middle : LinearState) (y : Entry) (ys : List Entry) (k token : ℕ) (w : abi.World) → Matches p st w → AtLeave p n st middle y ys → is_last y ≡ true →
    live_in st.world.live y.number ≡ Some (foreign k token) →
    Reaches image 14 w (Leave y.number ∷ Clean k token ∷ []) (λ u. Matches (without_object p y.number) (behind st (cleaned_up y.number k token (left st.world))) u)
foreign_cleaned catches made image p n st middle y ys k token w h at last there =
    let v : World = st.world in
    let e : ℕ = y.number in
    let stood = stands_by p n st w h at.at.runs in
    let c = catch_called image p n st w h.back stood at.at.there in
    let w1 : abi.World = c.after in
    let r = runtime_stays p st.frames v w w1 c.runtime stood.runtime in
    let m = r.exceptions in
    let places : Addresses = addresses_of p in
    let gone : List ℕ = destroyed st.frames in
    let l = leaving p st y ys w1 m at.caught in
    let slot : ℕ = l.new.slot in
    let o : Object = record { slot = slot; header = l.new.here.0.header } in
    let es : Exceptions = (ended w1.exceptions).1 in
    let kind : o.header.kind ≡ Foreign k token = caught_header places gone (exceptions_in v) (kept_by w1) e slot (foreign k token) m l.new.here there in
    let ends : ended w1.exceptions ≡ (Some (Last slot), es) = l.ends ∙ ap (λ z. (Some z, es)) (ended_last y slot l.new.count l.new.counted last) in
    let come = foreign_left catches made image p.unit p.base o k token es w1 (omega (arith, c.high)) (catch_stands image p n st w c) c.back_aligned c.back_below l.object kind ends in
    let t : abi.World = come.after in
    let back = returned image p n st w h.back c t (slot_freed slot es) stood come.holds in
    let u : World = cleaned_up e k token (left v) in
    let whole = caught_whole places gone (exceptions_in v) (kept_by w1) e slot m l.new.here in
    let m1 = left_match places gone (exceptions_in v) (kept_by w1) y ys m at.caught in
    let m2 = freed_match places gone gone (record (exceptions_in v) { caught = (left v).caught }) (record (kept_by w1) { exceptions = es }) e slot (foreign k token) m1 l.new.here.0
    (last_out w1.exceptions.live y ys w1.exceptions l.new m.sound.once last) there m.distinct whole (λ d other. refl) in
    let alike = matches_alike p n st.top.frame st.frames v u t.hart.memory (x t.hart sp) h.back refl refl (same_number v) back.memory in
    record {
      turns = 2 + come.turns;
      few = omega (arith, come.few);
      after = t;
      runs = subst (λ i. Turns image (2 + come.turns) w t (Leave i ∷ Clean k token ∷ [])) l.new.here.0.number (turns_then image 2 come.turns w w1 t [] (Leave o.header.number ∷ Clean k token ∷ []) c.runs come.runs);
      holds = record {
        number = n;
        back = h.back;
        runs = at.at.runs;
        registers = back.registers;
        pc = back.pc;
        memory = memory_without p n st.top.frame st.frames u t.hart.memory (x t.hart sp) h.back e alike;
        kept = registers_without p n st.top.frame st.frames u t.hart.memory (x t.hart sp) h.back e (saved_of t.hart) alike
            (registers_alike p n st.top.frame st.frames v u t.hart.memory (x t.hart sp) h.back (saved_of t.hart) refl back.memory back.kept);
        runtime = runtime_then p (without_object p e) st.frames st.frames v u w1 t (slot_freed slot es) r come.holds.rest come.holds.exceptions refl refl refl refl m2 (plan_without p e v.live r.plan);
      };
    }

-- ---- one without a destructor

-- worlds that match alike
pub record Alike (a b : World) : Type 0 where
  pub memory : a.memory ≡ b.memory
  pub calls : a.calls ≡ b.calls
  pub exceptions : exceptions_in a ≡ exceptions_in b
  pub input : a.input ≡ b.input
  pub replies : a.replies ≡ b.replies
  pub ending : a.ending ≡ b.ending

no_destructor : (t : Addresses) (type : ℕ) (kept : Installed) (h : Header) → HeaderIs t false (native type None kept) h → h.kind ≡ Native (record_address t.base type) 0
no_destructor t type kept h is = is.0.1 ∙ ap (Native (record_address t.base type)) is.0.2

freed_by_then : EndCatchFrees → (image : Image) (p : Plan) (n : ℕ) (st middle : LinearState) (y : Entry) (ys : List Entry) (type : ℕ) (kept : Installed) (w : abi.World) (d : World) → Matches p st w → AtLeave p n st middle y ys → is_last y ≡ true →
    live_in st.world.live y.number ≡ Some (native type None kept) → Alike d (left st.world) →
    Reaches image 18 w (Leave y.number ∷ Destroy y.number ∷ Free y.number ∷ []) (λ u. Matches (without_object p y.number) (behind st (freed y.number d)) u)
freed_by_then frees image p n st middle y ys type kept w d h at last there alike =
    let v : World = st.world in
    let e : ℕ = y.number in
    let stood = stands_by p n st w h at.at.runs in
    let c = catch_called image p n st w h.back stood at.at.there in
    let w1 : abi.World = c.after in
    let r = runtime_stays p st.frames v w w1 c.runtime stood.runtime in
    let m = r.exceptions in
    let places : Addresses = addresses_of p in
    let gone : List ℕ = destroyed st.frames in
    let l = leaving p st y ys w1 m at.caught in
    let slot : ℕ = l.new.slot in
    let header : Header = l.new.here.0.header in
    let o : Object = record { slot = slot; header = header } in
    let es : Exceptions = (ended w1.exceptions).1 in
    let again : Exceptions = with_header slot (building_again header) es in
    let kind : header.kind ≡ Native (record_address p.base type) 0 = no_destructor places type kept header (caught_header places gone (exceptions_in v) (kept_by w1) e slot (native type None kept) m l.new.here there) in
    let ends : ended w1.exceptions ≡ (Some (Last slot), es) = l.ends ∙ ap (λ z. (Some z, es)) (ended_last y slot l.new.count l.new.counted last) in
    let low = slot_below w1.exceptions.live slot header l.new.here.0.there in
    let come = frees image p.unit p.base o (record_address p.base type) es w1 (omega (arith, c.high)) (catch_stands image p n st w c) c.back_aligned c.back_below l.object kind ends m.sound.slots (omega (arith, low, m.sound.slots)) in
    let t : abi.World = come.after in
    let back = returned image p n st w h.back c t (slot_freed slot again) stood come.holds in
    let u : World = freed e d in
    let whole = caught_whole places gone (exceptions_in v) (kept_by w1) e slot m l.new.here in
    let out = last_out w1.exceptions.live y ys w1.exceptions l.new m.sound.once last in
    let after_left : LinearExceptions = record (exceptions_in v) { caught = (left v).caught } in
    let m1 = left_match places gone (exceptions_in v) (kept_by w1) y ys m at.caught in
    let m2 = let_go_match places gone after_left (record (kept_by w1) { exceptions = es }) e slot type None kept m1 l.new.here.0 out there whole in
    let has : HasHeader again.live e slot = record { header = building_again header; there = header_changed es.live slot (Some (building_again header)) low; number = l.new.here.0.number } in
    let m3 = freed_match places (e ∷ gone) gone after_left (record (kept_by w1) { exceptions = again }) e slot (native type None kept) m2 has out there m.distinct whole
    (λ k other. sym (ap (λ b. b || contains gone k) other)) in
    let m4 = subst (λ z. ExceptionsMatch places gone (record z { live = (exceptions_in (freed e d)).live }) (record (kept_by w1) { exceptions = slot_freed slot again })) (sym alike.exceptions)
    (subst (λ (z : LinearExceptions). ExceptionsMatch places gone (record (exceptions_in (left v)) { live = without e z.live }) (record (kept_by w1) { exceptions = slot_freed slot again })) (sym alike.exceptions) m3) in
    let numbers : d.last_number ≡ v.last_number = ap (λ (z : LinearExceptions). z.last_number) alike.exceptions in
    let lives : d.live ≡ v.live = ap (λ (z : LinearExceptions). z.live) alike.exceptions in
    let held = matches_alike p n st.top.frame st.frames v u t.hart.memory (x t.hart sp) h.back alike.memory alike.calls (omega (arith, numbers)) back.memory in
    let items : List Item = Leave header.number ∷ Destroy header.number ∷ Free header.number ∷ [] in
    record {
      turns = 2 + come.turns;
      few = omega (arith, come.few);
      after = t;
      runs = subst (λ i. Turns image (2 + come.turns) w t (Leave i ∷ Destroy i ∷ Free i ∷ [])) l.new.here.0.number (turns_then image 2 come.turns w w1 t [] items c.runs come.runs);
      holds = record {
        number = n;
        back = h.back;
        runs = at.at.runs;
        registers = back.registers;
        pc = back.pc;
        memory = memory_without p n st.top.frame st.frames u t.hart.memory (x t.hart sp) h.back e held;
        kept = registers_without p n st.top.frame st.frames u t.hart.memory (x t.hart sp) h.back e (saved_of t.hart) held
            (registers_alike p n st.top.frame st.frames v u t.hart.memory (x t.hart sp) h.back (saved_of t.hart) alike.memory back.memory back.kept);
        runtime = runtime_then p (without_object p e) st.frames st.frames v u w1 t (slot_freed slot again) r come.holds.rest come.holds.exceptions alike.input alike.replies numbers alike.ending m4
            (plan_without p e d.live (subst (PlanHas p) (sym lives) r.plan));
      };
    }

-- ---- the steps, and what they show

-- the destructor's place is passed where there is none
none_step : (p : Plan) (st : LinearState) (e type : ℕ) (kept : Installed) → live_in st.world.live e ≡ Some (native type None kept) → (frame : Frame) → frame ≡ with_slot 1 nothing (with_slot 0 (address_word (object_address e)) no_words) →
    let fs = st.top ∷ st.frames in
    step (code_of p.unit) (in_catch st 1 frame (destroying e st.world)) ≡ goes_to (in_catch st 2 frame (if is_bad (Some type) then empty_call fs (destroying e st.world) else destroying e st.world))
none_step p st e type kept there frame is =
    let v : World = destroying e st.world in
    let fs : List Activation = st.top ∷ st.frames in
    let known : type_at v e ≡ Some type = ap exception_type (exception_is st.world.live e (native type None kept) there) in
    ap (λ (f : Frame). step (code_of p.unit) (in_catch st 1 f v)) is ∙ ap (λ o. goes_to (in_catch st 2 (with_slot 1 nothing (with_slot 0 (address_word (object_address e)) no_words)) (if is_bad o then empty_call fs v else v))) known
    ∙ ap (λ f. goes_to (in_catch st 2 f (if is_bad (Some type) then empty_call fs v else v))) (sym is)

pub items_then : (v : World) (x : Entry) (xs : List Entry) (more : List Item) → v.caught ≡ x ∷ xs → (left v).items ++ more ≡ v.items ++ Leave x.number ∷ more
items_then v x xs more caught = ap (λ is. is ++ more) (leave_shown v x xs caught) ∙ append_assoc v.items (Leave x.number ∷ []) more

pub leaves_run : EndCatchRuns → CallsAreMade → EndCatchComesBack → EndCatchFrees → LeavesRun
leaves_run catches made comes frees = record {
  still_handled = λ image p n st middle y ys w h at built last. (
    (in_catch st 0 no_words st.world, leave_step p n st middle at.at, (in_catch st 3 no_words (left st.world), still_step p st y ys at.caught built last, (behind st (left st.world), back_step p n st middle no_words (left st.world) at.at, refl))),
    leave_shown st.world y ys at.caught,
    still_handled comes image p n st middle y ys w h at last,
  );
  foreign_cleaned = λ image p n st middle y ys k token w h at last there.
      let u : World = cleaned_up y.number k token (left st.world) in (
        (
          in_catch st 0 no_words st.world,
          leave_step p n st middle at.at,
          (
            in_catch st 3 no_words u,
            last_step p st y ys (foreign k token) at.caught (ap is_built (exception_is st.world.live y.number (foreign k token) there)) last (exception_is st.world.live y.number (foreign k token) there),
            (behind st u, back_step p n st middle no_words u at.at, refl),
          ),
        ),
        items_then st.world y ys (Clean k token ∷ []) at.caught,
        foreign_cleaned catches made image p n st middle y ys k token w h at last there,
      );
  freed_at_once = λ image p n st middle y ys type kept w h at last there. at_once image p n st middle y ys type kept w h at last there (is_bad (Some type)) refl;
}
  where
    at_once : (image : Image) (p : Plan) (n : ℕ) (st middle : LinearState) (y : Entry) (ys : List Entry) (type : ℕ) (kept : Installed) (w : abi.World) → Matches p st w → AtLeave p n st middle y ys → is_last y ≡ true →
        live_in st.world.live y.number ≡ Some (native type None kept) → (b : Bool) → is_bad (Some type) ≡ b → let e = y.number in let fs = st.top ∷ st.frames in let next = behind st (destroyed_world type e fs st.world) in
        let items = Leave e ∷ Destroy e ∷ Free e ∷ [] in StepsTo (code_of p.unit) 5 st next × Shows st next items × Reaches image 18 w items (λ u. Matches (without_object p e) next u)
    at_once image p n st middle y ys type kept w h at last there b is =
        let e : ℕ = y.number in
        let fs : List Activation = st.top ∷ st.frames in
        let d : World = destroying e st.world in
        let frame : Frame = with_slot 1 nothing (with_slot 0 (address_word (object_address e)) no_words) in
        let u : World = if is_bad (Some type) then empty_call fs d else d in
        let by_case : Alike u (left st.world) × (u.items ≡ d.items) = subst (λ c. let z = (if c then empty_call fs d else d) in Alike z (left st.world) × (z.items ≡ d.items)) (sym is) (cases b) in
        let lives : u.live ≡ st.world.live = ap (λ (z : LinearExceptions). z.live) by_case.0.exceptions in
        let live_u : is_live u e ≡ true = ap (some_of (λ x. x.number == e)) lives ∙ live_is st.world.live e (native type None kept) there in (
          (
            in_catch st 0 no_words st.world,
            leave_step p n st middle at.at,
            (
              in_catch st 1 frame d,
              last_step p st y ys (native type None kept) at.caught (ap is_built (exception_is st.world.live e (native type None kept) there)) last (exception_is st.world.live e (native type None kept) there),
              (
                in_catch st 2 frame u,
                none_step p st e type kept there frame refl,
                (in_catch st 3 frame (freed e u), ap (λ b. next_if b u (goes_to (in_catch st 3 frame (freed e u)))) live_u, (behind st (freed e u), back_step p n st middle frame (freed e u) at.at, refl)),
              ),
            ),
          ),
          ap (λ is. is ++ Free e ∷ []) by_case.1 ∙ append_assoc (left st.world).items (Destroy e ∷ []) (Free e ∷ []) ∙ items_then st.world y ys (Destroy e ∷ Free e ∷ []) at.caught,
          freed_by_then frees image p n st middle y ys type kept w u h at last there by_case.0,
        )
      where
        cases : (c : Bool) → let d = destroying y.number st.world in let z = (if c then empty_call (st.top ∷ st.frames) d else d) in Alike z (left st.world) × (z.items ≡ d.items)
        cases true = (record { memory = refl; calls = refl; exceptions = refl; input = refl; replies = refl; ending = refl }, refl)
        cases false = (record { memory = refl; calls = refl; exceptions = refl; input = refl; replies = refl; ending = refl }, refl)
