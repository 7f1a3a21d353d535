-- What is allowed is thrown again.
use Rattle.std.proofs.Common.{◌≡◌, ◌∙◌, refl, sym, ap, subst, arith, ℕ, ◌+◌, ◌≤◌, ◌==◌, Bool, true, false, pos, List, [], ◌∷◌, append-nil, Option, Some}
use Rattle.meaning_forms.specs.World.{Installed}
use Rattle.run_items.specs.declared.item.Item.{Item}
use Rattle.run_items.specs.declared.item.Item.TheVariants.{Enter}
use Rattle.rv64_isa.specs.State as hart
use Rattle.rv64_isa.specs.Step.{x}
use Rattle.elf_image.specs.Clean.{CleanImage}
use Rattle.cxa_runtime.specs.World as abi
use Rattle.eh_run.specs.Program.{program_of}
use Rattle.region_forms.specs.Caught.{Entry, entered_on, counted}
use Rattle.region_forms.specs.World.{World, native, exception_type, type_at}
use Rattle.region_forms.specs.Effect.{entered, newest_of}
use Rattle.linear_forms.specs.Stub.{call_unexpected}
use Rattle.linear_forms.specs.Activation.{State}
use Rattle.linear_forms.specs.UnitRun.{code_of}
use Rattle.machine_forms.specs.Registers.{sp}
use Rattle.machine_pieces.specs.Turning.{Turns}
use Rattle.machine_pieces.proofs.Turning.{turns_then}
use Rattle.machine_simulation.specs.Exceptions.{live_in}
use Rattle.machine_stubs.specs.Calls.{CallsAreMade}
use Rattle.machine_stubs.specs.CallUnexpected.{UnexpectedChecks, UnexpectedAnswers}
use Rattle.machine_simulation.specs.Plan.{Plan}
use Rattle.machine_simulation.proofs.Matching.{runtime_stays}
use Rattle.machine_exceptions.proofs.Enters.{exception_is}
use Rattle.machine_raises.specs.Resumes.{TypeIsThere}
use Rattle.machine_raises.specs.Throws.{RaisedTo}
use Rattle.runtime_invariant.specs.Memory.{RunsKeepMemory}
use Rattle.stub_landings.specs.Rests.{StubMemory, Rests, StubRegisters}
use Rattle.stub_landings.specs.OwnCalls.{AtOwnCall}
use Rattle.stub_landings.specs.OwnRaises.{OwnRethrowsLand}
use Rattle.stub_landings.specs.Landings.{resting, pad_words}
use Rattle.stub_landings.proofs.Own.{unexpected_rethrows}
use Rattle.unexpected_calls.specs.Lists.{ListsAnswer}
use Rattle.unexpected_calls.specs.Thrown.{ThrownOut, list_says, checked_state}
use Rattle.unexpected_calls.specs.Allowed.{RaisedFrom, AllowedIsThrown}
use Rattle.unexpected_calls.proofs.Steps.{steps_on}
use Rattle.unexpected_calls.proofs.OverCall.{over_stub, over_beside, over_registers, over_at}
use Rattle.unexpected_calls.proofs.Thrown.{running_then, running_behind, thrown_checked}
use Rattle.unexpected_calls.proofs.CheckSteps.{steps_to_allowed}
use Rattle.machine_pieces.specs.Keeping.{saved_of}

-- what is entered is the newest
pub newest_entered : (e : ℕ) (xs : List Entry) → newest_of (entered_on e xs) ≡ e
newest_entered e [] = refl
newest_entered e (y ∷ ys) = by (y.number == e)
  where
    by : (b : Bool) → newest_of (counted b e false y ys) ≡ e
    by true = refl
    by false = refl

-- it is live still, with its type
pub type_entered : (v : World) (e type : ℕ) (destructor : Option ℕ) (kept : Installed) → live_in v.live e ≡ Some (native type destructor kept) → type_at (entered e v) (newest_of (entered e v).caught) ≡ Some type
type_entered v e type destructor kept live = ap (type_at (entered e v)) (newest_entered e v.caught) ∙ ap exception_type (exception_is v.live e (native type destructor kept) live)

-- turns in front of a raise
pub raised_behind : (i : CleanImage) (p : Plan) (st next : State) (w at : abi.World) (e stack turns most words : ℕ) (items : List Item) (R : abi.World → Type 0) → Turns (program_of i).image turns w at items → turns ≤ most → RaisedTo p i st next at e stack words R →
    RaisedFrom p i st next w e stack (most + words) items R
raised_behind i p st next w at e stack turns most words items R runs few r =
    let ran = r.ran in
    record {
      depth = r.depth;
      found = r.found;
      ran = record {
        turns = turns + ran.turns;
        few = omega (arith, few, ran.few);
        after = ran.after;
        runs = subst (Turns (program_of i).image (turns + ran.turns) w ran.after) (append-nil items) (turns_then (program_of i).image turns ran.turns w at ran.after items [] runs ran.runs);
        holds = ran.holds;
      };
    }

-- ---- the ECALL of the rethrow

pub record AtRethrow (i : CleanImage) (p : Plan) (e stack : ℕ) (st : State) (w : abi.World) : Type 0 where
  pub turns : ℕ
  pub few : turns ≤ 18
  pub at : abi.World
  pub runs : Turns (program_of i).image turns w at (Enter e ∷ [])
  pub behind : hart.State
  pub call : AtOwnCall p i 8 call_unexpected (checked_state 10 e (pos 0) st) at behind
  pub pointer : x behind sp ≡ stack

pub at_rethrow : CallsAreMade → UnexpectedChecks → UnexpectedAnswers → RunsKeepMemory → ListsAnswer → (i : CleanImage) (p : Plan) (e d type : ℕ) (destructor : Option ℕ) (kept : Installed) (j : ℕ) (st : State) (w : abi.World) → (h : ThrownOut i p e d type destructor kept j st w) →
    list_says p h.rests.kept.owner j type ≡ pos 0 → AtRethrow i p e (x w.hart sp) st w
at_rethrow made checks answers keeps lists i p e d type destructor kept j st w h says =
    let image = (program_of i).image in
    let v : World = entered e st.world in
    let c = h.called in
    let back : ℕ = h.rests.rests.back in
    let chk = thrown_checked made checks keeps lists i p e d type destructor kept j 0 st w h says in
    let low : ℕ = x chk.after.hart sp in
    let come = answers.rethrows image p.unit p.base chk.after chk.stands chk.given in
    let r = come.holds in
    let over = over_beside p c.number c.caller c.others v chk.after.hart.memory r.behind.memory low back (low + 24) 8 (saved_of chk.after.hart) chk.over (omega arith) (omega arith) r.holds in
    let running = running_behind i p come.after.hart r.behind r.calls (running_then keeps image i p come.turns chk.after come.after [] come.runs chk.running) in
    record {
      turns = chk.turns + come.turns;
      few = omega (arith, chk.few, come.few);
      at = come.after;
      runs = turns_then image chk.turns come.turns w chk.after come.after (Enter e ∷ []) [] chk.runs come.runs;
      behind = r.behind;
      call = record {
        calls = r.calls;
        asks = r.asks;
        running = running;
        back = back;
        inside = record {
          own = tt;
          runs = refl;
          registers = r.stands.registers;
          goes_on = unexpected_rethrows p r.behind.pc r.stands.pc;
          memory = subst (λ gs. StubMemory p call_unexpected gs v r.behind.memory (x r.behind sp) back) (sym c.frames)
              (subst (λ b. StubMemory p call_unexpected (c.caller ∷ c.others) v r.behind.memory b back) (sym r.pointer) (over_stub p c.number c.caller c.others v r.behind.memory low back (saved_of chk.after.hart) c.compiled over));
          kept = subst (λ gs. StubRegisters p call_unexpected gs v r.behind.memory (x r.behind sp) (saved_of r.behind)) (sym c.frames)
              (over_registers p c.number c.caller c.others v r.behind.memory (x r.behind sp) back (saved_of r.behind) c.compiled
              (over_at p c.number c.caller c.others v r.behind.memory low back (saved_of chk.after.hart) r.behind refl r.pointer r.variables over));
        };
        runtime = runtime_stays p st.frames v chk.after come.after r.kept.runtime chk.runtime;
      };
      pointer = r.pointer ∙ chk.pointer;
    }

pub allowed_is_thrown : CallsAreMade → UnexpectedChecks → UnexpectedAnswers → RunsKeepMemory → ListsAnswer → OwnRethrowsLand → AllowedIsThrown
allowed_is_thrown made checks answers keeps lists lands i p e d type destructor kept j st next w h says went on plain ints =
    let raising : State = checked_state 10 e (pos 0) st in
    let c = at_rethrow made checks answers keeps lists i p e d type destructor kept j st w h says in
    let newest : newest_of raising.world.caught ≡ e = newest_entered e st.world.caught in
    let types : TypeIsThere p (type_at raising.world (newest_of raising.world.caught)) = subst (TypeIsThere p) (sym (type_entered st.world e type destructor kept h.native)) h.type_is in
    let all = lands i p raising next c.at c.behind c.call (record { there = refl; step = went }) types plain ints on in
    let words : ℕ = 1 + pad_words next.top.function in
    let to : abi.World → Type 0 = λ u. Rests (resting p next) next u in
    let raised : RaisedTo p i raising next c.at e (x w.hart sp) words to
    = subst (λ a. RaisedTo p i raising next c.at e a words to) c.pointer (subst (λ n. RaisedTo p i raising next c.at n (x c.behind sp) words to) newest all.1) in
    let from = raised_behind i p raising next w c.at e (x w.hart sp) c.turns 18 words (Enter e ∷ []) to c.runs c.few raised in (
      steps_on (code_of p.unit) 4 1 st raising next (steps_to_allowed i p e d type destructor kept j st w h says) (next, went, refl),
      all.0 ∙ append-nil raising.world.items,
      record { depth = from.depth; found = from.found; ran = record { turns = from.ran.turns; few = omega (arith, from.ran.few); after = from.ran.after; runs = from.ran.runs; holds = from.ran.holds } },
    )
