-- A bad_exception is thrown in place of what is not allowed.
use Rattle.std.proofs.Common.{◌≡◌, ◌∙◌, refl, sym, ap, subst, arith, ℕ, ◌+◌, ◌*◌, ◌<◌, ◌≤◌, false, pos, List, [], ◌∷◌, append-nil, append_assoc, length, Option}
use Rattle.std.specs.Prelude.{if◌then◌else◌}
use Rattle.meaning_forms.specs.World.{Installed}
use Rattle.run_items.specs.declared.item.Item.{Item}
use Rattle.run_items.specs.declared.item.Item.TheVariants.{Enter, Make}
use Rattle.rv64_isa.specs.State as hart
use Rattle.rv64_isa.specs.Step.{x}
use Rattle.elf_image.specs.Clean.{CleanImage}
use Rattle.cxa_runtime.specs.Objects.{object_of}
use Rattle.cxa_runtime.specs.World as abi
use Rattle.eh_run.specs.Program.{program_of}
use Rattle.region_forms.specs.Ending.{bad_row}
use Rattle.region_forms.specs.Unexpected.{made as made_in}
use Rattle.region_forms.specs.World.{of_exception, World, Frame, address_word, object_address, with_slot, number_word}
use Rattle.region_forms.specs.Effect.{goes, terminates, entered, is_full}
use Rattle.linear_forms.specs.Stub.{call_unexpected}
use Rattle.linear_forms.specs.StubOperation.{empty_call}
use Rattle.linear_forms.specs.Activation.{Activation, State, goes_to}
use Rattle.linear_forms.specs.Machine.{step}
use Rattle.linear_forms.specs.Operation.{performed}
use Rattle.linear_forms.specs.UnitRun.{code_of}
use Rattle.machine_forms.specs.Registers.{sp, a0, a1, a2}
use Rattle.machine_stubs.specs.Calls.{CallsAreMade}
use Rattle.machine_stubs.specs.CallUnexpected.{UnexpectedChecks, UnexpectedAnswers, bad_record}
use Rattle.image_tables.proofs.Told.{types_count}
use Rattle.machine_simulation.specs.Plan.{Plan}
use Rattle.machine_simulation.specs.Objects.{with_object}
use Rattle.machine_simulation.proofs.Matching.{runtime_stays}
use Rattle.machine_simulation.proofs.Holding.{same_number}
use Rattle.machine_exceptions.specs.Leaves.{StepsTo}
use Rattle.machine_exceptions.specs.Picks.{TurnsFor}
use Rattle.machine_exceptions.proofs.Picking.{turns_for, then_for}
use Rattle.machine_raises.specs.Pads.{PadsArePlain}
use Rattle.machine_raises.specs.Throws.{RaisedTo}
use Rattle.machine_raises.specs.Modules.{RaisedForTo}
use Rattle.runtime_invariant.specs.Memory.{RunsKeepMemory}
use Rattle.stub_landings.specs.Rests.{StubMemory, Rests, StubRegisters}
use Rattle.stub_landings.specs.OwnCalls.{AtOwnCall}
use Rattle.stub_landings.specs.OwnRaises.{OwnThrowsLand}
use Rattle.stub_landings.specs.Landings.{resting, pad_words}
use Rattle.stub_landings.proofs.Own.{unexpected_throws}
use Rattle.unexpected_calls.specs.Leaves.{CalledByCompiled}
use Rattle.unexpected_calls.specs.Lists.{ListsAnswer}
use Rattle.unexpected_calls.specs.Thrown.{ThrownOut, list_says, checked_state}
use Rattle.unexpected_calls.specs.Bad.{bad_state, BadIsThrown}
use Rattle.unexpected_calls.proofs.Steps.{steps_on}
use Rattle.unexpected_calls.proofs.OverCall.{over_stub, over_beside, over_alike, over_registers, over_at}
use Rattle.unexpected_calls.proofs.Thrown.{running_then, running_behind, thrown_checked}
use Rattle.unexpected_calls.proofs.CheckSteps.{steps_to_bad}
use Rattle.unexpected_calls.proofs.BadMade.{BadMade, at_make, bad_made}
use Rattle.machine_pieces.specs.Keeping.{saved_of}

-- ---- the steps

-- where it is made
made_state : ℕ → State → State
made_state e st = record {
  top = record { function = call_unexpected; place = 12; frame = with_slot 7 (address_word (object_address (st.world.last_number + 1))) (with_slot 6 (number_word (pos 1)) st.top.frame) };
  frames = st.frames;
  world = made_in (entered e st.world);
}

make_step : (p : Plan) (e : ℕ) (st : State) → is_full st.world ≡ false → step (code_of p.unit) (checked_state 11 e (pos 1) st) ≡ goes_to (made_state e st)
unfolding made_state
make_step p e st free =
    let v : World = entered e st.world in
    let a : Activation = (checked_state 11 e (pos 1) st).top in
    let frame : Frame = with_slot 7 (address_word (object_address (st.world.last_number + 1))) a.frame in
    ap (λ b. performed (code_of p.unit) (if b then terminates v.installed.terminate_handler v else goes frame (made_in v)) a st.frames v) free

construct_step : (p : Plan) (e : ℕ) (st : State) → step (code_of p.unit) (made_state e st) ≡ goes_to (bad_state e st)
unfolding made_state
construct_step p e st = refl

pub steps_to_throw : (i : CleanImage) (p : Plan) (e d type : ℕ) (destructor : Option ℕ) (kept : Installed) (j : ℕ) (st : State) (w : abi.World) → (h : ThrownOut i p e d type destructor kept j st w) → list_says p h.rests.kept.owner j type ≡ pos 1 → is_full st.world ≡ false →
    StepsTo (code_of p.unit) 7 st (bad_state e st)
steps_to_throw i p e d type destructor kept j st w h says free = steps_on (code_of p.unit) 5 2 st (checked_state 11 e (pos 1) st) (bad_state e st) (steps_to_bad i p e d type destructor kept j st w h says)
    (made_state e st, make_step p e st free, (bad_state e st, construct_step p e st, refl))

-- ---- the ECALL of the throw

pub record AtThrow (i : CleanImage) (pick : ℕ → ℕ) (p : Plan) (e slot stack : ℕ) (st : State) (w : abi.World) : Type 0 where
  pub turns : ℕ
  pub few : turns ≤ 30
  pub at : abi.World
  pub runs : TurnsFor (program_of i).image pick turns w at (Enter e ∷ Make (st.world.last_number + 1) ∷ [])
  pub behind : hart.State
  pub call : AtOwnCall (with_object p (st.world.last_number + 1) slot) i 5 call_unexpected (bad_state e st) at behind
  pub object : x behind a0 ≡ (with_object p (st.world.last_number + 1) slot).at (of_exception (st.world.last_number + 1))
  pub type : x behind a1 ≡ bad_record p.base
  pub none : x behind a2 ≡ 0
  pub pointer : x behind sp ≡ stack

pub at_throw : UnexpectedAnswers → RunsKeepMemory → (i : CleanImage) (pick : ℕ → ℕ) (p : Plan) (e back slot : ℕ) (st : State) (w : abi.World) (c : CalledByCompiled st) → bad_row < length p.unit.types → BadMade i pick p e c.number back slot c.caller c.others st w →
    AtThrow i pick p e slot (x w.hart sp) st w
at_throw answers keeps i pick p e back slot st w c there b =
    let image = (program_of i).image in
    let q : Plan = with_object p (st.world.last_number + 1) slot in
    let u : World = made_in (entered e st.world) in
    let v : World = empty_call st.frames u in
    let low : ℕ = x b.after.hart sp in
    let types = types_count p.unit in
    let room : 24 * (bad_row + 1) ≤ p.base = omega (arith, b.running.base, types, there) in
    let come = answers.throws_a_bad_exception image p.unit p.base (object_of slot) b.after room b.stands b.given (omega (arith, b.below)) in
    let r = come.holds in
    let over = over_alike q c.number c.caller c.others u v r.behind.memory low back (saved_of b.after.hart) refl refl (same_number u) (over_beside q c.number c.caller c.others u b.after.hart.memory r.behind.memory low back (low + 16) 8 (saved_of b.after.hart) b.over (omega arith) (omega arith) r.holds.3) in
    let run = runtime_stays q st.frames u b.after come.after r.kept.runtime b.runtime in
    record {
      turns = b.turns + come.turns;
      few = omega (arith, b.few, come.few);
      at = come.after;
      runs = then_for image pick b.turns come.turns w b.after come.after (Enter e ∷ Make (st.world.last_number + 1) ∷ []) [] b.runs (turns_for image pick come.turns b.after come.after [] come.runs);
      behind = r.behind;
      call = record {
        calls = r.calls;
        asks = r.asks;
        running = running_behind i q come.after.hart r.behind r.calls (running_then keeps image i q come.turns b.after come.after [] come.runs b.running);
        back = back;
        inside = record {
          own = tt;
          runs = refl;
          registers = r.stands.registers;
          goes_on = unexpected_throws q r.behind.pc r.stands.pc;
          memory = subst (λ gs. StubMemory q call_unexpected gs v r.behind.memory (x r.behind sp) back) (sym c.frames)
              (subst (λ a. StubMemory q call_unexpected (c.caller ∷ c.others) v r.behind.memory a back) (sym r.pointer) (over_stub q c.number c.caller c.others v r.behind.memory low back (saved_of b.after.hart) c.compiled over));
          kept = subst (λ gs. StubRegisters q call_unexpected gs v r.behind.memory (x r.behind sp) (saved_of r.behind)) (sym c.frames)
              (over_registers q c.number c.caller c.others v r.behind.memory (x r.behind sp) back (saved_of r.behind) c.compiled
              (over_at q c.number c.caller c.others v r.behind.memory low back (saved_of b.after.hart) r.behind refl r.pointer r.variables over));
        };
        runtime = record { input = run.input; replies = run.replies; last_number = run.last_number; terminating = run.terminating; exceptions = run.exceptions; plan = run.plan };
      };
      object = r.holds.0 ∙ sym b.object;
      type = r.holds.1;
      none = r.holds.2;
      pointer = r.pointer ∙ b.pointer;
    }

-- ---- both

-- pads are those of the unit
pub pads_with : (p : Plan) (e slot : ℕ) → PadsArePlain p → PadsArePlain (with_object p e slot)
pads_with p e slot h m place object selector there =
    let both = h m place object selector there in
    (record { inside = both.0.inside; plain = both.0.plain }, record { inside = both.1.inside; plain = both.1.plain })

-- turns in front of a raise, for the slots that are picked
raised_for : (i : CleanImage) (pick : ℕ → ℕ) (p : Plan) (st next : State) (w at : abi.World) (e stack turns most words : ℕ) (items : List Item) (R : abi.World → Type 0) → TurnsFor (program_of i).image pick turns w at items → turns ≤ most → stack ≡ x w.hart sp →
    RaisedTo p i st next at e stack (1 + words) R → RaisedForTo p i pick st next w e (most + (1 + words)) items R
raised_for i pick p st next w at e stack turns most words items R runs few pointer r0 =
    let r = subst (λ a. RaisedTo p i st next at e a (1 + words) R) pointer r0 in
    let ran = r.ran in
    record {
      depth = r.depth;
      found = r.found;
      ran = record {
        turns = turns + ran.turns;
        few = omega (arith, few, ran.few);
        some = λ some. omega (arith, ran.some (omega arith));
        after = ran.after;
        runs = subst (TurnsFor (program_of i).image pick (turns + ran.turns) w ran.after) (append-nil items)
            (then_for (program_of i).image pick turns ran.turns w at ran.after items [] runs (turns_for (program_of i).image pick ran.turns at ran.after [] ran.runs));
        holds = ran.holds;
      };
    }

pub bad_is_thrown : CallsAreMade → UnexpectedChecks → UnexpectedAnswers → RunsKeepMemory → ListsAnswer → OwnThrowsLand → BadIsThrown
bad_is_thrown made checks answers keeps lists lands i pick p e d type destructor kept j st next w h says free bases went on plain ints =
    let raising : State = bad_state e st in
    let c = h.called in
    let back : ℕ = h.rests.rests.back in
    let chk = thrown_checked made checks keeps lists i p e d type destructor kept j 1 st w h says in
    let b = bad_made made i pick p e c.number back c.caller c.others st w (at_make answers keeps i p e c.number back c.caller c.others st w chk) free in
    let slot : ℕ = b.0 in
    let bad : ℕ = st.world.last_number + 1 in
    let q : Plan = with_object p bad slot in
    let t = at_throw answers keeps i pick p e back slot st w c h.bad b.1 in
    let all = lands i q bad raising next t.at t.behind t.call (record { there = refl; step = went }) refl t.object t.type t.none h.bad bases (pads_with p bad slot plain) ints on in
    let raised = raised_for i pick q raising next w t.at bad (x t.behind sp) t.turns 30 (pad_words next.top.function) (Enter e ∷ Make bad ∷ []) (λ u. Rests (resting q next) next u) t.runs t.few t.pointer all.1 in
    let ran = raised.ran in (
      steps_on (code_of p.unit) 7 1 st raising next (steps_to_throw i p e d type destructor kept j st w h says free) (next, went, refl),
      all.0 ∙ append-nil raising.world.items ∙ append_assoc st.world.items (Enter e ∷ []) (Make bad ∷ []),
      slot,
      omega (arith, b.1.below),
      record { depth = raised.depth; found = raised.found; ran = record { turns = ran.turns; few = omega (arith, ran.few); some = λ some. omega (arith, ran.some (omega arith)); after = ran.after; runs = ran.runs; holds = ran.holds } },
    )
