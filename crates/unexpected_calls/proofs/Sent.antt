-- Behind a call of call_unexpected that terminates for an exception: the terminate handler kept with it begins, or the run aborts.
use Rattle.std.proofs.Common.{◌≡◌, ◌∙◌, refl, sym, ap, subst, arith, ℕ, ◌+◌, ◌-◌, ◌<◌, ◌≤◌, Bool, true, false, List, [], ◌∷◌, ◌++◌, append-nil, length, Option, Some, None}
use Rattle.std.specs.Prelude.{if◌then◌else◌}
use Rattle.meaning_forms.specs.Class.{contains}
use Rattle.meaning_forms.specs.World.{Installed}
use Rattle.run_items.specs.declared.item.Item.{Item}
use Rattle.rv64_isa.specs.declared.step.Step.TheVariants.{Ecall}
use Rattle.rv64_isa.specs.State.{State}
use Rattle.rv64_isa.specs.Step.{step_of, x}
use Rattle.cxa_runtime.specs.declared.effect.End as machine
use Rattle.cxa_runtime.specs.declared.effect.End.TheVariants.{Aborted, Stack}
use Rattle.cxa_runtime.specs.declared.object.Object.{Object}
use Rattle.cxa_runtime.specs.Objects.{object_where, is_native}
use Rattle.cxa_runtime.specs.World as abi
use Rattle.cxa_runtime.specs.World.{needs}
use Rattle.cxa_runtime.specs.Raising.{Image}
use Rattle.cxa_runtime.specs.Terminate.{at_stub, terminates}
use Rattle.cxa_runtime.specs.Unexpected.{terminate_for}
use Rattle.cxa_runtime.specs.Call.{call_effect, numbered}
use Rattle.cxa_runtime.specs.Run.{Ran, run}
use Rattle.region_forms.specs.World.{of_exception, World, native}
use Rattle.linear_forms.specs.Stub.{terminating}
use Rattle.linear_forms.specs.Activation.{Activation, State as LinearState}
use Rattle.machine_forms.specs.Registers.{sp, a0, a7}
use Rattle.machine_pieces.specs.Standing.{address}
use Rattle.machine_pieces.specs.Turning.{with_items, Turns, Reaches}
use Rattle.machine_pieces.proofs.Registers.{set_length, read_same, read_other}
use Rattle.machine_pieces.proofs.Turning.{no_turns, turns_then}
use Rattle.machine_stubs.specs.Calls.{asked, CallsAreMade}
use Rattle.machine_stubs.specs.Stretches.{StubAt, Stands, stub_word, Room, AtAddress}
use Rattle.machine_stubs.specs.Terminate.{TerminateRuns}
use Rattle.machine_stubs.specs.Terminates.{MayTerminate, sent}
use Rattle.machine_simulation.specs.Plan.{Plan, function, first_word, setting}
use Rattle.machine_simulation.specs.Calls.{open_bytes, stack_end}
use Rattle.machine_simulation.specs.Exceptions.{addresses_of, exceptions_in, kept_by, destroyed, live_in, IsFunction}
use Rattle.machine_simulation.specs.Matches.{FrameIs, RuntimeMatches, MemoryMatches, Matches}
use Rattle.machine_simulation.specs.Entering.{entry_turns}
use Rattle.machine_simulation.proofs.Words.{even_base}
use Rattle.machine_simulation.proofs.Freeing.{beside_matches}
use Rattle.machine_exceptions.specs.Terminates.{ending_world, in_handler}
use Rattle.machine_exceptions.proofs.EndCatching.{room_below}
use Rattle.machine_exceptions.proofs.Finding.{live_header}
use Rattle.machine_exceptions.specs.Picks.{TurnsFor}
use Rattle.machine_exceptions.proofs.Picking.{turns_for}
use Rattle.raise_ends.specs.Ends.{RunEnds, NoneIsCalled, HandlerFits, plan_in_handler}
use Rattle.raise_ends.proofs.Aborting.{no_handler, no_address}
use Rattle.raise_ends.proofs.Comes.{aborts_again, aborts_without}
use Rattle.stack_bounds.specs.Overflow.{FindsNoRoom, FunctionsOverflow}
use Rattle.unexpected_calls.specs.Terminates.{NamesTerminate}
use Rattle.unexpected_calls.specs.Overflow.{TerminateLacksRoom}
use Rattle.unexpected_calls.proofs.Entering.{native_found}
use Rattle.machine_pieces.specs.Keeping.{saved_of, AreSmall}
use Rattle.raise_ends.proofs.Sent.{handler_sent, SentFrom}

-- ---- a runtime call that terminates

-- A runtime call, reached in call_unexpected above a call of a compiled function, and the world in which it calls terminate with a handler.
pub record Asks (image : Image) (p : Plan) (n : ℕ) (caller : Activation) (others : List Activation) (waiting : LinearState) (h : Option ℕ) (at : abi.World) (back : ℕ) (items : List Item) : Type 0 where
  pub number : ℕ
  pub behind : State
  pub calls : step_of at.hart ≡ (Ecall, behind)
  pub asks : x behind a7 ≡ number
  pub registers : length behind.regs ≡ 32
  pub handler : ℕ
  pub is : IsFunction (addresses_of p) h handler
  pub to : abi.World
  pub effect : (wish : ℕ) → call_effect number image wish (asked behind at) ≡ terminates image.places handler to
  pub same : to.hart ≡ behind
  pub unwinding : to.unwinding ≡ at.unwinding
  pub shown : to.shown ≡ items
  pub memory : MemoryMatches p n caller.frame others waiting.world behind.memory (x behind sp + 80) back
  pub high : 0x7000_1000 ≤ x behind sp + 80
  pub small : AreSmall (saved_of behind)
  pub end : x behind sp + open_bytes p (waiting.top ∷ waiting.frames) ≡ stack_end
  pub runtime : RuntimeMatches p (waiting.top ∷ waiting.frames) waiting.world to
  pub named : NamesTerminate image p

module _ (image : Image) (p : Plan) (n : ℕ) (caller : Activation) (others : List Activation) (waiting : LinearState) (h : Option ℕ) (at : abi.World) (back : ℕ) (items : List Item) (c : Asks image p n caller others waiting h at back items) where
  abbrev below : List Activation
  below = waiting.top ∷ waiting.frames

  abbrev v : World
  v = waiting.world

  may : MayTerminate p.unit p.base image c.to
  may = record {
    named = c.named;
    registers = ap (λ (s : State). length s.regs) c.same ∙ c.registers;
    code = subst (λ (s : State). StubAt p.unit p.base terminating s.memory) (sym c.same) c.memory.unit.stubs.terminate;
    deep = omega (arith, ap (λ (s : State). x s sp) c.same, c.high);
    room = subst (λ (s : State). Room (x s sp - 32) 32 s.memory) (sym c.same)
        (room_below c.behind.memory (x c.behind sp) 32 c.memory.may (omega (arith, c.high)) (omega (arith, c.memory.top.below)) (omega (arith, c.memory.top.saved.aligned)) refl);
  }

  -- ---- the run aborts

  pub asks_aborts : CallsAreMade → TerminateRuns → (pick : ℕ → ℕ) (k : ℕ) → v.ending ≡ false → h ≡ None → 8 ≤ k → RunEnds image pick k at items Aborted
  asks_aborts made runs pick k quiet none many = aborts_without made runs image pick k 0 c.number c.handler p.unit p.base at at c.to c.behind items (no_turns image at) c.calls c.asks (c.effect (pick (at.last_number + 1))) (c.runtime.terminating ∙ quiet)
      (no_address (addresses_of p) h c.handler c.is none) may c.shown many

  pub asks_again : CallsAreMade → (pick : ℕ → ℕ) (k : ℕ) → v.ending ≡ true → 1 ≤ k → RunEnds image pick k at items Aborted
  asks_again made pick k ends many = aborts_again made image pick k 0 c.number c.handler at at c.to c.behind items (no_turns image at) c.calls c.asks (c.effect (pick (at.last_number + 1))) (c.runtime.terminating ∙ ends) c.shown many

  -- ---- the handler begins

  module _ (made : CallsAreMade) (runs : TerminateRuns) (m : ℕ) (quiet : v.ending ≡ false) (some : h ≡ Some m) (hidden : p.hidden ≡ 0) where
    abbrev ve : World
    ve = ending_world v

    abbrev first : ℕ
    first = address (setting p m).ground (first_word p m)

    abbrev begins : abi.World
    begins = sent image.places first c.to

    known_as : IsFunction (addresses_of p) (Some m) c.handler
    known_as = subst (λ k. IsFunction (addresses_of p) k c.handler) some c.is

    abbrev next_world : abi.World
    next_world = record c.to { hart = at_stub image.places first c.to.hart; terminating = true }

    goes : (wish : ℕ) → call_effect c.number image wish (asked c.behind at) ≡ abi.goes next_world
    goes wish = c.effect wish ∙ ap (λ a. terminates image.places a c.to) known_as.0 ∙ ap (λ b. if b then abi.aborts c.to else abi.goes next_world) (c.runtime.terminating ∙ quiet)

    one : Turns image 1 at begins items
    one = subst (Turns image 1 at begins) c.shown (made.goes_on image c.number at next_world c.behind c.calls c.asks goes c.unwinding)

    pointer : x begins.hart sp ≡ x c.behind sp
    pointer = read_other c.to.hart.regs 10 2 first (λ z. absurd (omega (arith, z))) ∙ ap (λ (s : State). x s sp) c.same

    long : length c.to.hart.regs ≡ 32
    long = may.registers

    stands : Stands p.unit p.base terminating 0 (x begins.hart sp - 32) 32 begins.hart
    stands = record {
      pc = c.named;
      registers = set_length c.to.hart.regs 10 first ∙ long;
      code = may.code;
      room = subst (λ a. Room (a - 32) 32 c.to.hart.memory) (sym (read_other c.to.hart.regs 10 2 first (λ z. absurd (omega (arith, z))))) may.room;
    }

    held : MemoryMatches p n caller.frame others v begins.hart.memory (x c.behind sp + 80) back
    held = subst (λ (s : State). MemoryMatches p n caller.frame others v s.memory (x c.behind sp + 80) back) (sym c.same) c.memory

    -- the world in which terminate is called, above the compiled call
    from : SentFrom image p n caller.frame others below v c.to (x c.behind sp + 80) back p.hidden
    from = record {
      may = may;
      memory = subst (λ (s : State). MemoryMatches p n caller.frame others v s.memory (x c.behind sp + 80) back) (sym c.same) c.memory;
      above = omega (arith, ap (λ (s : State). x s sp) c.same);
      even = omega (arith, ap (λ (s : State). x s sp) c.same, c.memory.top.saved.aligned);
      small = subst (λ (s : State). AreSmall (saved_of s)) (sym c.same) c.small;
      runtime = c.runtime;
      end = omega (arith, ap (λ (s : State). x s sp) c.same, c.end, hidden);
    }

    handler_begins : HandlerFits p m waiting → Reaches image (6 + entry_turns p m) begins [] (λ u. Matches (plan_in_handler p m waiting) (in_handler p m waiting) u)
    handler_begins fits =
        let reached = handler_sent runs image p n m caller.frame others waiting c.to (x c.behind sp + 80) back p.hidden from known_as.1 fits in
        record { turns = reached.turns; few = reached.few; after = reached.after; runs = reached.runs; holds = reached.holds.0 }

    pub asks_begins : HandlerFits p m waiting → Reaches image (7 + entry_turns p m) at items (λ u. Matches (plan_in_handler p m waiting) (in_handler p m waiting) u)
    asks_begins fits =
        let rest = handler_begins fits in
        let all = turns_then image 1 rest.turns at begins rest.after items [] one rest.runs in
        record {
          turns = 1 + rest.turns;
          few = omega (arith, rest.few);
          after = rest.after;
          runs = subst (Turns image (1 + rest.turns) at rest.after) (append-nil items) all;
          holds = rest.holds;
        }

    -- or it finds no room
    pub asks_overflows : FunctionsOverflow → (pick : ℕ → ℕ) (k : ℕ) → TerminateLacksRoom p m waiting → 13 ≤ k → RunEnds image pick k at items Stack
    asks_overflows over pick k lacks many =
        let known : m < length p.unit.functions = known_as.1 in
        let ret : ℕ = stub_word p.base terminating 6 in
        let code = (held.unit.functions m known).0 in
        let even = even_base p begins.hart.memory held.unit in
        let come = runs.calls_the_handler image p.unit p.base first begins (omega (arith, pointer, c.high)) stands (read_same c.to.hart.regs 10 first (λ z. absurd (omega (arith, z))) (omega (arith, long))) (λ zero. absurd (omega (arith, zero)))
        (omega (arith, even)) (omega (arith, code.word.below)) in
        let v2 : abi.World = come.after in
        let ad = subst (λ y. AtAddress first (y - 32) (y - 32) 32 begins (λ s. (x s 1 ≡ ret) × (x s 10 ≡ first)) v2) pointer come.holds in
        let stack : ℕ = x c.behind sp + 80 in
        let mid_is : x v2.hart sp + 112 ≡ stack = omega (arith, ad.pointer, c.high) in
        let held2 = beside_matches p n caller.frame others v begins.hart.memory v2.hart.memory stack back (x c.behind sp - 32) 32 held (record { low = omega (arith, c.high); high = omega (arith, c.high) }) ad.kept.beside in
        let frame_is : FrameIs (function p m) = held2.unit.frames m known in
        let finds : FindsNoRoom p m v2 = record {
          known = known;
          looks = lacks.looks;
          registers = ad.registers;
          pc = ad.there;
          aligned = omega (arith, mid_is, c.memory.top.saved.aligned);
          above = omega (arith, mid_is, c.high, frame_is.small);
          short = omega (arith, mid_is, c.end, lacks.lacks, hidden);
          below = omega (arith, mid_is, c.memory.top.below);
          unit = held2.unit;
          may = held2.may;
        } in
        let ended = over image pick (k - 1 - come.turns) p m v2 finds (omega (arith, come.few, many)) in
        let front = turns_then image 1 come.turns at begins v2 items [] one come.runs in
        let count : (1 + come.turns) + (k - 1 - come.turns) ≡ k = omega (arith, come.few, many) in
        let same : run image pick k at ≡ with_items (items ++ []) (run image pick (k - 1 - come.turns) v2) = ap (λ i. run image pick i at) (sym count) ∙ front.run pick (k - 1 - come.turns) in (
          ap (λ (r : Ran). r.items) same ∙ ap (λ is. items ++ [] ++ is) ended.items ∙ append-nil (items ++ []) ∙ append-nil items,
          ap (λ (r : Ran). r.end) same ∙ ended.end,
        )

-- ---- behind other turns

-- in turns of which no more are counted
pub reaches_most : (image : Image) (a b : ℕ) (w : abi.World) (items : List Item) (P : abi.World → Type 0) → a ≤ b → Reaches image a w items P → Reaches image b w items P
reaches_most image a b w items P le r = record { turns = r.turns; few = omega (arith, r.few, le); after = r.after; runs = r.runs; holds = r.holds }

pub then_reaches : (image : Image) (n most : ℕ) (w at : abi.World) (items more : List Item) (P : abi.World → Type 0) (few : ℕ) → Turns image n w at items → n ≤ few → Reaches image most at more P → Reaches image (few + most) w (items ++ more) P
then_reaches image n most w at items more P few runs small r = record {
  turns = n + r.turns;
  few = omega (arith, small, r.few);
  after = r.after;
  runs = turns_then image n r.turns w at r.after items more runs r.runs;
  holds = r.holds;
}

pub then_ends : (image : Image) (pick : ℕ → ℕ) (k n : ℕ) (w at : abi.World) (items more : List Item) → TurnsFor image pick n w at items → n ≤ k → (end : machine.End) → RunEnds image pick (k - n) at more end → RunEnds image pick k w (items ++ more) end
then_ends image pick k n w at items more runs few end rest =
    let whole : n + (k - n) ≡ k = omega (arith, few) in
    let same : run image pick k w ≡ with_items items (run image pick (k - n) at) = ap (λ m. run image pick m w) (sym whole) ∙ runs.run (k - n) in
    (ap (λ (r : Ran). r.items) same ∙ ap (λ is. items ++ is) rest.0, ap (λ (r : Ran). r.end) same ∙ rest.1)

-- ---- for an exception, with the handler that is kept with it

terminate_for_is : (image : Image) (wish : ℕ) (t : abi.World) → call_effect 20 image wish t ≡ terminate_for image.places t
unfolding call_effect numbered
terminate_for_is image wish t = refl

-- Runtime call 20 is reached in call_unexpected, above a call of a compiled function, for a live exception of this language.
pub record AsksFor (image : Image) (p : Plan) (n e : ℕ) (kept : Installed) (caller : Activation) (others : List Activation) (waiting : LinearState) (w : abi.World) (back most : ℕ) (items : List Item) : Type 0 where
  pub turns : ℕ
  pub few : turns ≤ most
  pub at : abi.World
  pub runs : Turns image turns w at items
  pub behind : State
  pub calls : step_of at.hart ≡ (Ecall, behind)
  pub asks : x behind a7 ≡ 20
  pub registers : length behind.regs ≡ 32
  pub given : x behind a0 ≡ p.at (of_exception e)
  pub memory : MemoryMatches p n caller.frame others waiting.world behind.memory (x behind sp + 80) back
  pub high : 0x7000_1000 ≤ x behind sp + 80
  pub small : AreSmall (saved_of behind)
  pub end : x behind sp + open_bytes p (waiting.top ∷ waiting.frames) ≡ stack_end
  pub runtime : RuntimeMatches p (waiting.top ∷ waiting.frames) waiting.world at
  pub type : ℕ
  pub destructor : Option ℕ
  pub live : live_in waiting.world.live e ≡ Some (native type destructor kept)
  pub whole : contains (destroyed (waiting.top ∷ waiting.frames)) e ≡ false
  pub named : NamesTerminate image p

pub for_asks : (image : Image) (p : Plan) (n e : ℕ) (kept : Installed) (caller : Activation) (others : List Activation) (waiting : LinearState) (w : abi.World) (back most : ℕ) (items : List Item) → (c : AsksFor image p n e kept caller others waiting w back most items) →
    Asks image p n caller others waiting kept.terminate_handler c.at back []
for_asks image p n e kept caller others waiting w back most items c =
    let t : abi.World = asked c.behind c.at in
    let below : List Activation = waiting.top ∷ waiting.frames in
    let m = c.runtime.exceptions in
    let header = live_header (addresses_of p) (destroyed below) (exceptions_in waiting.world) (kept_by c.at) e (native c.type c.destructor kept) m c.live in
    let found = native_found p (destroyed below) waiting.world c.at e header.slot c.type c.destructor kept header.has m c.live c.whole in
    let o : Object = record { slot = header.slot; header = header.has.header } in
    let r = c.runtime in
    record {
      number = 20;
      behind = c.behind;
      calls = c.calls;
      asks = c.asks;
      registers = c.registers;
      handler = o.header.handlers.0;
      is = found.handlers.0;
      to = t;
      effect = λ wish. terminate_for_is image wish t ∙ ap (λ k. needs t k (λ (b : Object). terminates image.places b.header.handlers.0 t)) (ap (object_where is_native c.at.exceptions.live) c.given ∙ found.found);
      same = refl;
      unwinding = refl;
      shown = refl;
      memory = c.memory;
      high = c.high;
      small = c.small;
      end = c.end;
      runtime = record { input = r.input; replies = r.replies; last_number = r.last_number; terminating = r.terminating; exceptions = r.exceptions; plan = r.plan };
      named = c.named;
    }

pub for_begins : (image : Image) (p : Plan) (n e : ℕ) (kept : Installed) (caller : Activation) (others : List Activation) (waiting : LinearState) (w : abi.World) (back most : ℕ) (items : List Item) → (c : AsksFor image p n e kept caller others waiting w back most items) →
    CallsAreMade → TerminateRuns → (m : ℕ) → waiting.world.ending ≡ false → kept.terminate_handler ≡ Some m → p.hidden ≡ 0 → HandlerFits p m waiting → Reaches image (most + 7 + entry_turns p m) w items (λ u. Matches (plan_in_handler p m waiting) (in_handler p m waiting) u)
for_begins image p n e kept caller others waiting w back most items c made runs m quiet some hidden fits =
    let P : abi.World → Type 0 = λ u. Matches (plan_in_handler p m waiting) (in_handler p m waiting) u in
    let rest = asks_begins image p n caller others waiting kept.terminate_handler c.at back [] (for_asks image p n e kept caller others waiting w back most items c) made runs m quiet some hidden fits in
    subst (λ is. Reaches image (most + 7 + entry_turns p m) w is P) (append-nil items)
    (reaches_most image (most + (7 + entry_turns p m)) (most + 7 + entry_turns p m) w (items ++ []) P (omega arith) (then_reaches image c.turns (7 + entry_turns p m) w c.at items [] P most c.runs c.few rest))

pub for_aborts : (image : Image) (p : Plan) (n e : ℕ) (kept : Installed) (caller : Activation) (others : List Activation) (waiting : LinearState) (w : abi.World) (back most : ℕ) (items : List Item) → (c : AsksFor image p n e kept caller others waiting w back most items) →
    CallsAreMade → TerminateRuns → (pick : ℕ → ℕ) (k : ℕ) → NoneIsCalled waiting.world kept.terminate_handler → most + 8 ≤ k → RunEnds image pick k w items Aborted
for_aborts image p n e kept caller others waiting w back most items c made runs pick k none many =
    subst (λ is. RunEnds image pick k w is Aborted) (append-nil items) (then_ends image pick k c.turns w c.at items [] (turns_for image pick c.turns w c.at items c.runs) (omega (arith, c.few, many)) Aborted (by waiting.world.ending refl))
  where
    asks : Asks image p n caller others waiting kept.terminate_handler c.at back []
    asks = for_asks image p n e kept caller others waiting w back most items c

    by : (b : Bool) → waiting.world.ending ≡ b → RunEnds image pick (k - c.turns) c.at [] Aborted
    by true ends = asks_again image p n caller others waiting kept.terminate_handler c.at back [] asks made pick (k - c.turns) ends (omega (arith, c.few, many))
    by false quiet = asks_aborts image p n caller others waiting kept.terminate_handler c.at back [] asks made runs pick (k - c.turns) quiet (no_handler waiting.world kept.terminate_handler none quiet) (omega (arith, c.few, many))
