-- The runtime's own functions go on with what is on its way.
use Rattle.std.proofs.Common.{◌≡◌, ◌∙◌, refl, sym, ap, subst, arith, ℕ, ◌+◌, ◌<◌, ◌≤◌, ◌==◌, ◌||◌, nat_eq, Bool, true, false, ℤ, List, [], ◌∷◌, ◌++◌, length, append-nil, Some, None, inl, inr}
use Rattle.std.specs.Prelude.{if◌then◌else◌}
use Rattle.meaning_forms.specs.Class.{contains}
use Rattle.run_items.specs.declared.item.Item.{Item}
use Rattle.run_items.specs.declared.item.Item.TheVariants.{Free}
use Rattle.rv64_isa.specs.State as hart
use Rattle.rv64_isa.specs.Step.{x}
use Rattle.caught_stack.specs.Allocate.{freed as slot_freed}
use Rattle.caught_stack.specs.Exceptions.{Exceptions}
use Rattle.caught_stack.specs.Live.{header_of}
use Rattle.caught_stack.proofs.Headers.{header_kept}
use Rattle.cxa_runtime.specs.World as abi
use Rattle.cxa_runtime.specs.World.{a0}
use Rattle.cxa_runtime.specs.Raising.{Image}
use Rattle.eh_run.specs.Program.{program_of}
use Rattle.region_forms.specs.World.{of_exception, Word, flying, unwinding, address_in, exception_of, object_address, exception_type, World}
use Rattle.linear_forms.specs.Stub.{Function, compiled, end_catch, terminating, call_unexpected}
use Rattle.linear_forms.specs.Activation.{Activation, State}
use Rattle.linear_forms.specs.UnitRun.{code_of}
use Rattle.machine_forms.specs.Registers.{sp}
use Rattle.machine_pieces.specs.Frames.{AddressAt}
use Rattle.machine_pieces.specs.Turning.{Turns}
use Rattle.machine_pieces.proofs.Turning.{turns_then}
use Rattle.machine_stubs.specs.Calls.{CallsAreMade}
use Rattle.machine_stubs.specs.CallUnexpected.{thrown_slot, UnexpectedEnds}
use Rattle.machine_stubs.specs.EndCatch.{EndCatchRuns}
use Rattle.exceptions_in_flight.specs.Targets.{HasTarget}
use Rattle.machine_simulation.specs.Plan.{Plan}
use Rattle.machine_simulation.specs.StubCalls.{KeepsFlying}
use Rattle.machine_simulation.specs.Exceptions.{kept_by, destroyed}
use Rattle.machine_simulation.specs.Operations.{Matched}
use Rattle.machine_simulation.specs.Objects.{without_object, Shows}
use Rattle.machine_exceptions.proofs.LiveLists.{kept_in}
use Rattle.machine_exceptions.proofs.Freed.{other_slot}
use Rattle.machine_raises.specs.Pads.{PadGets, PadsArePlain}
use Rattle.machine_raises.specs.Forced.{KeepsAll}
use Rattle.machine_raises.specs.Targets.{call_size, target_end}
use Rattle.machine_raises.specs.Throws.{AimedAt}
use Rattle.runtime_invariant.specs.Memory.{RunsKeepMemory}
use Rattle.stub_landings.specs.Rests.{FreesOnTheWay, Rests}
use Rattle.stub_landings.specs.Landings.{resting, pad_words}
use Rattle.stub_landings.specs.OwnRaises.{OwnResumeAsked, OwnResumesLand, OwnForcedLands}
use Rattle.own_ends.specs.Resumes.{OwnFlightsGoOn, held_back, freed_on_the_way, CatchFreesOnTheWay}
use Rattle.own_ends.proofs.Running.{unexpected_comes}
use Rattle.own_ends.proofs.Freeing.{held_first, frees_step, Held, catch_comes}

-- ---- turns in front

pub matched_then : (image : Image) (turns total more : ℕ) (w v : abi.World) (first second : List Item) (P Q : abi.World → Type 0) → turns + (1 + more) ≤ total → Turns image turns w v first → ((u : abi.World) → P u → Q u) → Matched image (1 + more) v second P →
    Matched image total w (first ++ second) Q
matched_then image turns total more w v first second P Q few runs to m =
    let some : 0 < m.turns = m.some (omega arith) in
    record {
      turns = turns + m.turns;
      few = omega (arith, few, m.few);
      some = λ any. omega (arith, some);
      after = m.after;
      runs = turns_then image turns m.turns w v m.after first second runs m.runs;
      holds = to m.after m.holds;
    }

-- ---- call_unexpected

-- the word that it keeps
thrown_is : (p : Plan) (word : Word) (v : World) (memory : List hart.Part) (at e d : ℕ) → word ≡ flying e d → KeepsFlying p word v memory at → AddressAt memory at (p.at (of_exception e))
thrown_is p word v memory at e d is (inl k) =
    let both : Some (object_address e) ≡ Some (object_address k.number) = sym (ap address_in is) ∙ k.is in
    subst (λ n. AddressAt memory at (p.at (of_exception n))) (sym (ap exception_of both)) k.there
thrown_is p word v memory at e d is (inr k) = absurd (let both : flying e d ≡ unwinding k.0 = sym is ∙ k.1 in cc both)

pub zero_is : (p : Plan) (word : Word) (v : World) (memory : List hart.Part) (at : ℕ) (k : ℤ) → word ≡ unwinding k → KeepsFlying p word v memory at → AddressAt memory at 0
zero_is p word v memory at k is (inl e) = absurd (let none : address_in (unwinding k) ≡ Some (object_address e.number) = sym (ap address_in is) ∙ e.is in cc none)
zero_is p word v memory at k is (inr e) = e.2

-- a call at its place
placed : (a : Activation) (n : ℕ) → a.place ≡ n → record { function = a.function; place = n; frame = a.frame } ≡ a
placed a n is = ap (λ k. record { function = a.function; place = k; frame = a.frame }) (sym is)

pub own_flights_go_on : UnexpectedEnds → RunsKeepMemory → OwnResumesLand → OwnForcedLands → OwnFlightsGoOn
own_flights_go_on ends keeps resumes forced = record {
  resumes = λ i p e d st next w h running f goes plain ints on.
      let image : Image = (program_of i).image in
      let c = unexpected_comes ends keeps i p (p.at (of_exception e)) st w h running (thrown_is p (st.top.frame.slots 4) st.world w.hart.memory (x w.hart sp + thrown_slot) e d f.is h.thrown) in
      let gone : destroyed (st.top ∷ st.frames) ≡ destroyed st.frames = ap (λ g. destroyed (record { function = g; place = st.top.place; frame = st.top.frame } ∷ st.frames)) h.rests.runs in
      let at : AimedAt c.at e (target_end p d (x c.behind sp) (st.top ∷ st.frames)) = subst (λ a. AimedAt c.at e (target_end p d a (st.top ∷ st.frames))) (sym c.stack) (aimed_same w c.at e (target_end p d (x w.hart sp) (st.top ∷ st.frames)) c.exceptions f.aimed) in
      let asks : OwnResumeAsked p st c.at e d (x c.behind sp) = record {
        exception = f.exception;
        travels = record { live = f.live; thrown = f.thrown; whole = sym (ap (λ ds. contains ds e) gone) ∙ f.whole; type = f.type };
        target = subst (λ a. HasTarget (code_of p.unit) (exception_type f.exception) d (a ∷ st.frames)) (placed st.top 17 h.there) f.target;
        aimed = at;
      } in
      let all = resumes i p call_unexpected 17 4 e d st next c.at c.behind c.call (inr (refl, refl, refl)) (record { there = h.there; step = goes }) f.is c.given asks plain ints on in (
        all.0,
        matched_then image c.turns (3 + pad_words next.top.function) (pad_words next.top.function) w c.at [] [] (λ u. Rests (resting p next) next u × (u.exceptions ≡ c.at.exceptions)) (λ u. Rests (resting p next) next u × (u.exceptions ≡ w.exceptions)) (omega (arith, c.few)) c.runs
            (λ u r. (r.0, r.1 ∙ c.exceptions)) all.1,
      );
  unwinds = λ i p k st next w h running f goes plain ints on.
      let image : Image = (program_of i).image in
      let c = unexpected_comes ends keeps i p 0 st w h running (zero_is p (st.top.frame.slots 4) st.world w.hart.memory (x w.hart sp + thrown_slot) k f.is h.thrown) in
      let all = forced i p call_unexpected 17 4 k st next c.at c.behind c.call (inr (refl, refl, refl)) (record { there = h.there; step = goes }) f.is c.given (c.runs.unwinding ∙ f.on) plain ints on in (
        all.0,
        matched_then image c.turns (3 + pad_words next.top.function) (pad_words next.top.function) w c.at [] [] (λ u. Rests (resting p next) next u × KeepsAll c.at u) (λ u. Rests (resting p next) next u × KeepsAll w u) (omega (arith, c.few)) c.runs
            (λ u r. (r.0, record { exceptions = r.1.exceptions ∙ c.exceptions; unwinding = r.1.unwinding ∙ c.runs.unwinding })) all.1,
      );
}
  where
    aimed_same : (w v : abi.World) (e cfa : ℕ) → v.exceptions ≡ w.exceptions → AimedAt w e cfa → AimedAt v e cfa
    aimed_same w v e cfa same h = record {
      slot = h.slot;
      has = record { header = h.has.header; there = ap (λ (es : Exceptions). header_of es.live h.slot) same ∙ h.has.there; number = h.has.number };
      aimed = h.aimed;
    }

-- ---- end_catch

-- where the objects are does not say where frames end
ends_alike : (p : Plan) (e d stack : ℕ) (fs : List Activation) → target_end (without_object p e) d stack fs ≡ target_end p d stack fs
ends_alike p e d stack [] = refl
ends_alike p e d stack (a ∷ fs) =
    let size = size_alike a.function in
    ap (λ k. if length fs == d then stack + k else target_end (without_object p e) d (stack + k) fs) size
    ∙ ap (λ k. if length fs == d then stack + call_size p a.function else k) (ends_alike p e d (stack + call_size p a.function) fs)
  where
    size_alike : (f : Function) → call_size (without_object p e) f ≡ call_size p f
    size_alike (compiled n) = refl
    size_alike end_catch = refl
    size_alike terminating = refl
    size_alike call_unexpected = refl

-- one that is on its way is another
both_others : (a b : Bool) → (a || b) ≡ false → (a ≡ false) × (b ≡ false)
both_others false b e = (refl, e)
both_others true b e = absurd (cc e)

another : (p : Plan) (st : State) (w : abi.World) (e : ℕ) → FreesOnTheWay p st w → contains (destroyed (st.top ∷ st.frames)) e ≡ false → ((held_back st == e) ≡ false) × (contains (destroyed st.frames) e ≡ false)
another p st w e h whole = both_others (held_back st == e) (contains (destroyed st.frames) e) (sym (ap (λ ds. contains ds e) (held_first p st w h)) ∙ whole)

aimed_still : (p : Plan) (st : State) (w v : abi.World) (e cfa : ℕ) (held : Held p st w) → (held_back st == e) ≡ false → v.exceptions ≡ slot_freed held.slot w.exceptions → AimedAt w e cfa → AimedAt v e cfa
aimed_still p st w v e cfa held other same h =
    let apart : nat_eq held.slot h.slot ≡ false = other_slot (kept_by w) (held_back st) held.slot e h.slot held.has h.has other in
    record {
      slot = h.slot;
      has = record { header = h.has.header; there = ap (λ (es : Exceptions). header_of es.live h.slot) same ∙ (header_kept w.exceptions.live held.slot h.slot None apart ∙ h.has.there); number = h.has.number };
      aimed = h.aimed;
    }

gets_address : (p : Plan) (v : World) (word : Word) (a e d : ℕ) → word ≡ flying e d → PadGets p v word a → a ≡ p.at (of_exception e)
gets_address p v word a e d is h = (subst (λ y. PadGets p v y a) is h).1

pub gets_zero : (p : Plan) (v : World) (word : Word) (a : ℕ) (k : ℤ) → word ≡ unwinding k → PadGets p v word a → a ≡ 0
gets_zero p v word a k is h = subst (λ y. PadGets p v y a) is h

plain_without : (p : Plan) (e : ℕ) → PadsArePlain p → PadsArePlain (without_object p e)
plain_without p e plain m place object selector there =
    let both = plain m place object selector there in (record { inside = both.0.inside; plain = both.0.plain }, record { inside = both.1.inside; plain = both.1.plain })

shown_both : (st next : State) (e : ℕ) → Shows (freed_on_the_way st) next [] → Shows st next (Free (held_back st) ∷ [])
shown_both st next e h = h ∙ append-nil (freed_on_the_way st).world.items

pub catch_frees_on_the_way : EndCatchRuns → CallsAreMade → RunsKeepMemory → OwnResumesLand → OwnForcedLands → CatchFreesOnTheWay
catch_frees_on_the_way catches made keeps resumes forced = record {
  frees = λ i p st w h. frees_step p st w h;
  resumes = λ i p e d st next w h running f goes plain ints on.
      let image : Image = (program_of i).image in
      let held : ℕ = held_back st in
      let q : Plan = without_object p held in
      let st1 : State = freed_on_the_way st in
      let all_come = catch_comes catches made keeps i p st w h running in
      let c = all_come.comes in
      let other = another p st w e h f.whole in
      let there : st1.top.place ≡ 6 = ap (λ n. n + 1) h.place in
      let aim : AimedAt c.at e (target_end p d (x w.hart sp) (st.top ∷ st.frames)) = aimed_still p st w c.at e (target_end p d (x w.hart sp) (st.top ∷ st.frames)) all_come.held other.0 c.exceptions f.aimed in
      let asks : OwnResumeAsked q st1 c.at e d (x c.behind sp) = record {
        exception = f.exception;
        travels = record { live = kept_in st.world.live held e other.0 ∙ f.live; thrown = f.thrown; whole = other.1; type = f.type };
        target = subst (λ a. HasTarget (code_of p.unit) (exception_type f.exception) d (a ∷ st.frames)) (placed st1.top 6 there) f.target;
        aimed = subst (λ a. AimedAt c.at e (target_end q d a (st1.top ∷ st.frames))) (sym c.stack) (subst (AimedAt c.at e) (sym (ends_alike p held d (x w.hart sp) (st1.top ∷ st.frames))) aim);
      } in
      let all = resumes i q end_catch 6 2 e d st1 next c.at c.behind c.call (inl (refl, refl, refl)) (record { there = there; step = goes }) f.is (c.given ∙ gets_address p st.world (st.top.frame.slots 2) (x w.hart a0) e d f.is h.gets) asks (plain_without p held plain) ints on in (
        (st1, frees_step p st w h, (next, goes, refl)),
        shown_both st next held all.0,
        matched_then image c.turns (8 + pad_words next.top.function) (pad_words next.top.function) w c.at (Free held ∷ []) [] (λ u. Rests (resting q next) next u × (u.exceptions ≡ c.at.exceptions)) (λ u. Rests (resting q next) next u) (omega (arith, c.few)) c.runs (λ u r. r.0) all.1,
      );
  unwinds = λ i p k st next w h running f goes plain ints on.
      let image : Image = (program_of i).image in
      let held : ℕ = held_back st in
      let q : Plan = without_object p held in
      let st1 : State = freed_on_the_way st in
      let c = (catch_comes catches made keeps i p st w h running).comes in
      let there : st1.top.place ≡ 6 = ap (λ n. n + 1) h.place in
      let all = forced i q end_catch 6 2 k st1 next c.at c.behind c.call (inl (refl, refl, refl)) (record { there = there; step = goes }) f.is (c.given ∙ gets_zero p st.world (st.top.frame.slots 2) (x w.hart a0) k f.is h.gets) (c.runs.unwinding ∙ f.on) (plain_without p held plain) ints on in (
        (st1, frees_step p st w h, (next, goes, refl)),
        shown_both st next held all.0,
        matched_then image c.turns (8 + pad_words next.top.function) (pad_words next.top.function) w c.at (Free held ∷ []) [] (λ u. Rests (resting q next) next u × KeepsAll c.at u) (λ u. Rests (resting q next) next u) (omega (arith, c.few)) c.runs (λ u r. r.0) all.1,
      );
}
