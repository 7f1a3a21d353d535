-- The hart has been sent to terminate: its handler begins, below frames that may be of calls that linear code has closed.
use Rattle.std.proofs.Common.{◌≡◌, ◌∙◌, refl, sym, subst, arith, ℕ, ◌+◌, ◌-◌, ◌%◌, ◌<◌, ◌≤◌, List, [], ◌∷◌, length}
use Rattle.rv64_isa.specs.State.{State, Part}
use Rattle.rv64_isa.specs.Step.{x}
use Rattle.cxa_runtime.specs.declared.effect.End.TheVariants.{Aborted}
use Rattle.cxa_runtime.specs.World as abi
use Rattle.cxa_runtime.specs.Raising.{Image}
use Rattle.cxa_runtime.specs.Terminate.{at_stub}
use Rattle.region_forms.specs.World.{Frame, World}
use Rattle.linear_forms.specs.Linear.{UnitCode}
use Rattle.linear_forms.specs.Stub.{terminating}
use Rattle.linear_forms.specs.Activation.{Activation, State as LinearState}
use Rattle.machine_forms.specs.Registers.{sp}
use Rattle.machine_pieces.specs.Standing.{address}
use Rattle.machine_pieces.specs.Turning.{Reaches, SameRuntime}
use Rattle.machine_pieces.proofs.Registers.{set_length, read_same, read_other}
use Rattle.machine_pieces.proofs.Turning.{turns_then, same_then}
use Rattle.machine_pieces.specs.Transfers.{lowest_sp}
use Rattle.machine_pieces.specs.Keeping.{saved_of, AreSmall}
use Rattle.machine_stubs.specs.Stretches.{Stands, Room, stub_word, AtAddress}
use Rattle.machine_stubs.specs.Terminate.{TerminateRuns}
use Rattle.machine_stubs.specs.Terminates.{MayTerminate, sent}
use Rattle.machine_simulation.specs.Plan.{Plan, shape, first_word, setting}
use Rattle.machine_simulation.specs.Calls.{frames_bytes, stack_end}
use Rattle.machine_simulation.specs.Extents.{StandApart}
use Rattle.machine_simulation.specs.Matches.{UnitStands, ObjectsStand, RuntimeMatches, MemoryMatches, Matches}
use Rattle.machine_simulation.specs.Entering.{frame_for, begin_room, entry_turns}
use Rattle.machine_simulation.proofs.Words.{even_base}
use Rattle.machine_simulation.proofs.Matching.{runtime_stays}
use Rattle.machine_simulation.proofs.Holding.{same_number}
use Rattle.machine_simulation.proofs.Lines.{matches_alike}
use Rattle.machine_simulation.proofs.Freeing.{beside_matches}
use Rattle.machine_simulation.proofs.Beneath.{Beneath}
use Rattle.machine_exceptions.specs.Terminates.{waiting_terminate, ending_world, in_handler}
use Rattle.machine_exceptions.proofs.Ecalls.{given_in_first}
use Rattle.machine_exceptions.proofs.Handlers.{HandlerEntered, handler_entered, handler_runs, lowest_least}
use Rattle.machine_exceptions.proofs.Terminates.{room_left}
use Rattle.raise_ends.specs.Ends.{RunEnds, HandlerFits, plan_in_handler, hiding}

-- ---- what stands, where more bytes are hidden

unit_hiding : (p : Plan) (hidden : ℕ) (memory : List Part) → UnitStands p memory → UnitStands (hiding p hidden) memory
unit_hiding p hidden memory h = record { few = h.few; short = h.short; frames = h.frames; registers = h.registers; stubs = h.stubs; functions = h.functions }

apart_hiding : (p : Plan) (hidden : ℕ) (memory : List Part) → StandApart p memory → StandApart (hiding p hidden) memory
apart_hiding p hidden memory h = record { apart = h.apart; may = h.may; below = h.below; aligned = h.aligned }

objects_hiding : (p : Plan) (hidden : ℕ) (v : World) (memory : List Part) → ObjectsStand p v memory → ObjectsStand (hiding p hidden) v memory
objects_hiding p hidden v memory h = record { may = h.may; made = h.made; fresh = h.fresh; away = h.away; placed = h.placed }

beneath_hiding : (p : Plan) (hidden : ℕ) (v : World) (memory : List Part) (stack : ℕ) → Beneath p v memory stack → Beneath (hiding p hidden) v memory stack
beneath_hiding p hidden v memory stack h = record {
  unit = unit_hiding p hidden memory h.unit;
  apart = apart_hiding p hidden memory h.apart;
  inside = h.inside;
  ints = h.ints;
  fresh = h.fresh;
  objects = objects_hiding p hidden v memory h.objects;
  may = h.may;
  end = h.end;
  begun = h.begun;
  clear = h.clear;
  reached = λ g inside. let r = h.reached g inside in record { is = r.is; near = r.near };
  all_globals = h.all_globals;
}

runtime_hiding : (p : Plan) (hidden : ℕ) (fs : List Activation) (v : World) (w : abi.World) → RuntimeMatches p fs v w → RuntimeMatches (hiding p hidden) fs v w
runtime_hiding p hidden fs v w h = record {
  input = h.input;
  replies = h.replies;
  last_number = h.last_number;
  terminating = h.terminating;
  exceptions = h.exceptions;
  plan = record { live = h.plan.live; size = h.plan.size; ints = h.plan.ints };
}

-- ---- the hart at the first word of terminate

pub record AtFirst (u : UnitCode) (base handler stack : ℕ) (s : State) : Type 0 where
  pub pointer : x s 2 ≡ stack
  pub stands : Stands u base terminating 0 (x s 2 - 32) 32 s
  pub deep : 32 ≤ x s 2
  pub handler_is : x s 10 ≡ handler

pub at_first : (u : UnitCode) (base handler : ℕ) (image : Image) (t : abi.World) → MayTerminate u base image t → AtFirst u base handler (x t.hart 2) (at_stub image.places handler t.hart)
at_first u base handler image t h =
    let s : State = at_stub image.places handler t.hart in
    let pointer : x s 2 ≡ x t.hart 2 = read_other t.hart.regs 10 2 handler (λ z. absurd (omega (arith, z))) in
    record {
      pointer = pointer;
      stands = record {
        pc = h.named;
        registers = set_length t.hart.regs 10 handler ∙ h.registers;
        code = h.code;
        room = subst (λ a. Room (a - 32) 32 t.hart.memory) (sym pointer) h.room;
      };
      deep = omega (arith, pointer, h.deep);
      handler_is = read_same t.hart.regs 10 handler (λ z. absurd (omega (arith, z))) (omega (arith, h.registers));
    }

-- without a handler the run aborts
pub sent_aborts : TerminateRuns → (image : Image) (pick : ℕ → ℕ) (k : ℕ) (u : UnitCode) (base : ℕ) (t : abi.World) → MayTerminate u base image t → 7 ≤ k → RunEnds image pick k (sent image.places 0 t) [] Aborted
sent_aborts runs image pick k u base t may many =
    let a = at_first u base 0 image t may in
    runs.aborts_without image pick k u base (sent image.places 0 t) a.deep a.stands a.handler_is many

-- ---- the handler

-- A world in which terminate is called, and what matches there: the calls of linear code that are open, of which the newest has its frame from sp
-- on or above it, and those that wait for terminate, whose frames end the stack but for bytes that are hidden.
pub record SentFrom (image : Image) (p : Plan) (n : ℕ) (frame : Frame) (fs below : List Activation) (v : World) (t : abi.World) (high back hidden : ℕ) : Type 0 where
  pub may : MayTerminate p.unit p.base image t
  pub memory : MemoryMatches p n frame fs v t.hart.memory high back
  pub above : x t.hart sp ≤ high
  pub even : x t.hart sp % 8 ≡ 0
  pub small : AreSmall (saved_of t.hart)
  pub runtime : RuntimeMatches p below v t
  pub end : x t.hart sp + hidden + frames_bytes p.unit hidden below ≡ stack_end

-- the handler's prologue is the same where bytes are hidden
entered_hiding : (image : Image) (p : Plan) (hidden m : ℕ) (v : World) (w : abi.World) → HandlerEntered image p m v w → HandlerEntered image (hiding p hidden) m v w
entered_hiding image p hidden m v w h = record {
  after = h.after;
  runs = h.runs;
  runtime = h.runtime;
  registers = h.registers;
  pc = h.pc;
  stack = h.stack;
  saved = h.saved;
  known = h.known;
  low = h.low;
  below = beneath_hiding p hidden v h.after.hart.memory (x w.hart sp) h.below;
  returns = h.returns;
}

few_sent : (a b : ℕ) → a ≤ 6 → a + b ≤ 6 + b
few_sent a b h = omega (arith, h)

pub handler_sent : TerminateRuns → (image : Image) (p : Plan) (n m : ℕ) (frame : Frame) (fs : List Activation) (waiting : LinearState) (t : abi.World) (high back hidden : ℕ) →
    SentFrom image p n frame fs (waiting.top ∷ waiting.frames) waiting.world t high back hidden → m < length p.unit.functions → HandlerFits (hiding p hidden) m waiting → let begins = sent image.places (address (setting p m).ground (first_word p m)) t in
    Reaches image (6 + entry_turns p m) begins [] (λ u. Matches (plan_in_handler (hiding p hidden) m waiting) (in_handler p m waiting) u × SameRuntime begins u)
handler_sent runs image p n m frame fs waiting t high back hidden h known fits =
    let q : Plan = hiding p hidden in
    let v : World = waiting.world in
    let ve : World = ending_world v in
    let below : List Activation = waiting.top ∷ waiting.frames in
    let active : List Activation = waiting_terminate m ∷ below in
    let first : ℕ = address (setting p m).ground (first_word p m) in
    let ret : ℕ = stub_word p.base terminating 6 in
    let code = (h.memory.unit.functions m known).0 in
    let even = even_base p t.hart.memory h.memory.unit in
    let begins : abi.World = sent image.places first t in
    let a = at_first p.unit p.base first image t h.may in
    let come = runs.calls_the_handler image p.unit p.base first begins a.deep a.stands a.handler_is (λ zero. absurd (omega (arith, zero))) (omega (arith, even)) (omega (arith, code.word.below)) in
    let v2 : abi.World = come.after in
    let ad = subst (λ y. AtAddress first (y - 32) (y - 32) 32 begins (λ s. (x s 1 ≡ ret) × (x s 10 ≡ first)) v2) a.pointer come.holds in
    let stack : ℕ = x t.hart sp in
    let taken : ℕ = hidden + frames_bytes p.unit hidden below in
    let least : lowest_sp (shape p m).leaf (shape p m).size ≤ stack - 32
    = room_left stack taken (shape p m).leaf (shape p m).size (omega (arith, h.end)) (subst (λ k. k + begin_room (shape p m).leaf (shape p m).size ≤ 0x100_0000) (omega arith) fits.room) in
    let deep : 0x7000_0800 ≤ stack - 32 = omega (arith, least, lowest_least (shape p m).leaf (shape p m).size) in
    let held2 = beside_matches p n frame fs v t.hart.memory v2.hart.memory high back (stack - 32) 32 h.memory (record { low = omega (arith, deep); high = omega (arith, deep, h.above) }) ad.kept.beside in
    let held3 = matches_alike p n frame fs v ve v2.hart.memory high back refl refl (same_number v) held2 in
    let place : stack ≡ x v2.hart sp + 32 = omega (arith, ad.pointer, deep) in
    let entered = handler_entered image p n m frame fs ve high back v2 known ad.there ad.registers ad.holds.0 held3 (omega (arith, place, h.above)) (omega (arith, place, h.even))
    (subst (λ b. lowest_sp (shape p m).leaf (shape p m).size ≤ b) (omega (arith, place)) least) in
    let r = h.runtime in
    let runtime1 : RuntimeMatches p active ve begins = record { input = r.input; replies = r.replies; last_number = r.last_number; terminating = refl; exceptions = r.exceptions; plan = r.plan } in
    let runtime2 = runtime_hiding p hidden active ve v2 (runtime_stays p active ve begins v2 ad.kept.runtime runtime1) in
    let small = subst AreSmall (sym (ad.variables ∙ given_in_first t.hart begins.hart first refl)) h.small in
    let ran = handler_runs image q m waiting (frame_for q m active) v2 (entered_hiding image p hidden m ve v2 entered) fits (omega (arith, place, h.end)) small runtime2 (omega (arith, place, h.end)) in
    record {
      turns = come.turns + entry_turns p m;
      few = few_sent come.turns (entry_turns p m) come.few;
      after = ran.after;
      runs = turns_then image come.turns (entry_turns p m) begins v2 ran.after [] [] come.runs ran.runs;
      holds = (ran.holds, same_then begins v2 ran.after ad.kept.runtime ran.runtime);
    }
