-- call_unexpected leaves a handler whose exception has another one, or travels again.
use Rattle.std.proofs.Common.{◌≡◌, ◌∙◌, refl, ap, subst, arith, ℕ, ◌+◌, ◌-◌, false, List, [], ◌∷◌, Some}
use Rattle.run_items.specs.declared.item.Item.TheVariants.{Leave}
use Rattle.rv64_isa.specs.Step.{x}
use Rattle.caught_stack.specs.declared.ended.Ended.{Ended}
use Rattle.caught_stack.specs.Exceptions.{Exceptions}
use Rattle.caught_stack.specs.End.{ended_as, ended}
use Rattle.cxa_runtime.specs.declared.object.Object.{Object}
use Rattle.cxa_runtime.specs.Leaving.{left_by}
use Rattle.cxa_runtime.specs.World as abi
use Rattle.cxa_runtime.specs.Raising.{Image}
use Rattle.region_forms.specs.Caught.{Entry, is_last}
use Rattle.region_forms.specs.World.{of_exception, World}
use Rattle.region_forms.specs.Effect.{left}
use Rattle.linear_forms.specs.Stub.{call_unexpected}
use Rattle.linear_forms.specs.Activation.{State as LinearState}
use Rattle.machine_forms.specs.Registers.{ra, sp}
use Rattle.machine_pieces.specs.Turning.{Turns, Reaches}
use Rattle.machine_pieces.specs.Keeping.{saved_of}
use Rattle.machine_stubs.specs.CallUnexpected.{thrown_slot}
use Rattle.machine_stubs.specs.ComesBack.{TellsNothing, CameBack, EndCatchComesBack}
use Rattle.machine_simulation.specs.Plan.{Plan}
use Rattle.machine_simulation.specs.Exceptions.{addresses_of, exceptions_in, kept_by, destroyed, ExceptionsMatch, PlanHas}
use Rattle.machine_simulation.proofs.Holding.{same_number}
use Rattle.machine_exceptions.specs.Leaves.{behind}
use Rattle.machine_exceptions.proofs.CatchSteps.{in_catch, no_words}
use Rattle.machine_exceptions.proofs.Left.{left_match, ended_still}
use Rattle.machine_exceptions.proofs.ComingBack.{runtime_then}
use Rattle.machine_exceptions.proofs.Leaves.{Leaving as Newest, leaving}
use Rattle.stub_landings.specs.Rests.{StubMemory, StubRegisters, LeavesOn}
use Rattle.own_ends.specs.Callers.{CalledBy}
use Rattle.own_ends.specs.Leaving.{CatchBegins}
use Rattle.own_ends.proofs.Registers.{registers_alike}
use Rattle.own_ends.proofs.Memory.{stub_alike, flying_kept}
use Rattle.own_ends.proofs.Calling.{at_catch, came_back}

-- the newest handler, where end_catch begins
pub newest_left : (p : Plan) (st : LinearState) (y : Entry) (ys : List Entry) (w : abi.World) → ExceptionsMatch (addresses_of p) (destroyed (st.top ∷ st.frames)) (exceptions_in st.world) (kept_by w) → st.world.caught ≡ y ∷ ys →
    Newest p (in_catch st 0 no_words st.world) y ys w
newest_left p st y ys w m caught = leaving p (in_catch st 0 no_words st.world) y ys w m caught

-- What end_catch leaves matches, where it has come back: the world may differ in exceptions, and the plan in what is live.
pub goes_on : (p q : Plan) (place k : ℕ) (st : LinearState) (u : World) (w t : abi.World) (e : Exceptions) (b : CatchBegins p place k st w) → CalledBy st.frames → CameBack (x w.hart ra) (x w.hart sp) (x w.hart sp - 48) 48 e w t → q.base ≡ p.base →
    ((d : ℕ) → q.at (of_exception d) ≡ p.at (of_exception d)) → u.last_number ≡ st.world.last_number → u.input ≡ st.world.input → u.replies ≡ st.world.replies → u.ending ≡ st.world.ending →
    (StubMemory p call_unexpected st.frames st.world t.hart.memory (x t.hart sp) b.back → StubMemory q call_unexpected st.frames u t.hart.memory (x t.hart sp) b.back) →
    (StubMemory p call_unexpected st.frames st.world t.hart.memory (x t.hart sp) b.back → StubRegisters p call_unexpected st.frames st.world t.hart.memory (x t.hart sp) (saved_of t.hart) →
    StubRegisters q call_unexpected st.frames u t.hart.memory (x t.hart sp) (saved_of t.hart)) →
    ExceptionsMatch (addresses_of q) (destroyed (st.top ∷ st.frames)) (exceptions_in u) (record { exceptions = e; terminate_handler = w.terminate_handler; unexpected_handler = w.unexpected_handler }) → PlanHas q u.live → LeavesOn q k (place + 1) (behind st u) t
goes_on p q place k st u w t e b c came base at number input replies ending memory registers m plan =
    let back = came_back p place k st w t e b c (at_catch p place k st w b c) came in
    record {
      rests = record {
        back = b.back;
        runs = b.runs;
        registers = back.registers;
        pc = back.pc ∙ omega (arith, base);
        memory = memory back.memory;
        kept = registers back.memory back.kept;
        runtime = runtime_then p q (st.top ∷ st.frames) ((behind st u).top ∷ st.frames) st.world u w t e b.runtime came.rest came.exceptions input replies number ending m plan;
      };
      there = ap (λ n. n + 1) b.there;
      thrown = flying_kept p q (st.top.frame.slots 4) st.world u t.hart.memory (x t.hart sp + thrown_slot) at (omega (arith, number)) back.thrown;
    }

-- nothing else becomes of it
Silent : Object → Exceptions → Ended → Type 0
Silent o e l = (left_by o (Some l, e) ≡ (Some l, e)) × TellsNothing o l

pub still_left : EndCatchComesBack → (image : Image) (p : Plan) (place k : ℕ) (st : LinearState) (y : Entry) (ys : List Entry) (w : abi.World) → CatchBegins p place k st w → CalledBy st.frames → st.world.caught ≡ y ∷ ys → is_last y ≡ false →
    Reaches image 12 w (Leave y.number ∷ []) (λ u. LeavesOn p k (place + 1) (behind st (left st.world)) u)
unfolding Silent
still_left comes image p place k st y ys w b c caught last =
    let v : World = st.world in
    let at = at_catch p place k st w b c in
    let l = newest_left p st y ys w b.runtime.exceptions caught in
    let o : Object = record { slot = l.new.slot; header = l.new.here.0.header } in
    let e : Exceptions = (ended w.exceptions).1 in
    let became : Ended = ended_as l.new.slot l.new.count in
    let silent : Silent o e became = ended_still y l.new.slot l.new.count (Silent o e) l.new.counted last (refl, λ t. refl) (refl, λ t. refl) in
    let by : left_by o (ended w.exceptions) ≡ (Some became, e) = ap (left_by o) l.ends ∙ silent.0 in
    let come = comes image p.unit p.base o became e w (omega (arith, at.low)) at.stands at.aligned at.small l.object by silent.1 in
    let t : abi.World = come.after in
    let u : World = left v in
    let m = left_match (addresses_of p) (destroyed (st.top ∷ st.frames)) (exceptions_in v) (kept_by w) y ys b.runtime.exceptions caught in
    record {
      turns = come.turns;
      few = come.few;
      after = t;
      runs = subst (λ i. Turns image come.turns w t (Leave i ∷ [])) l.new.here.0.number come.runs;
      holds = goes_on p p place k st u w t e b c come.holds refl (λ d. refl) refl refl refl refl
          (λ h. stub_alike p call_unexpected st.frames v u t.hart.memory (x t.hart sp) b.back refl refl (same_number v) h)
          (λ h rs. registers_alike p call_unexpected st.frames v u t.hart.memory (x t.hart sp) b.back (saved_of t.hart) refl h rs) m b.runtime.plan;
    }
