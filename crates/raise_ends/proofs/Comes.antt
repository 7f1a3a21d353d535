-- A runtime call that terminates: its handler begins, or the run aborts.
use Rattle.std.proofs.Common.{◌≡◌, ◌∙◌, sym, ap, subst, arith, ℕ, suc, ◌+◌, ◌-◌, ◌≤◌, true, false, List, [], ◌++◌, append-nil, Some}
use Rattle.std.specs.Prelude.{if◌then◌else◌, ◌∷◌}
use Rattle.run_items.specs.declared.item.Item.{Item}
use Rattle.rv64_isa.specs.declared.step.Step.TheVariants.{Ecall}
use Rattle.rv64_isa.specs.State.{State}
use Rattle.rv64_isa.specs.Step.{step_of, x}
use Rattle.cxa_runtime.specs.declared.effect.End as machine
use Rattle.cxa_runtime.specs.declared.effect.End.TheVariants.{Aborted}
use Rattle.cxa_runtime.specs.declared.effect.Turn.TheVariants.{Ended}
use Rattle.cxa_runtime.specs.World as abi
use Rattle.cxa_runtime.specs.Raising.{Image}
use Rattle.cxa_runtime.specs.Call.{call_effect}
use Rattle.cxa_runtime.specs.Run.{Ran, called, counted, turn, and_more, run}
use Rattle.cxa_runtime.specs.Terminate.{at_stub, terminates}
use Rattle.region_forms.specs.World.{Frame, World}
use Rattle.linear_forms.specs.Linear.{UnitCode}
use Rattle.linear_forms.specs.Activation.{Activation, State as LinearState}
use Rattle.machine_forms.specs.Registers.{sp, a7}
use Rattle.machine_pieces.specs.Standing.{address}
use Rattle.machine_pieces.specs.Turning.{with_items, Turns, ForcedTurns, Reaches, ForcedReaches, SameRuntime}
use Rattle.machine_pieces.proofs.Turning.{turns_then, forced_then, as_forced}
use Rattle.machine_stubs.specs.Calls.{asked, CallsAreMade}
use Rattle.machine_stubs.specs.Terminate.{TerminateRuns}
use Rattle.machine_stubs.specs.Terminates.{MayTerminate, sent}
use Rattle.machine_simulation.specs.Plan.{Plan, first_word, setting}
use Rattle.machine_simulation.specs.Exceptions.{addresses_of, IsFunction}
use Rattle.machine_simulation.specs.Matches.{Matches}
use Rattle.machine_simulation.specs.Entering.{entry_turns}
use Rattle.machine_exceptions.specs.Picks.{TurnsFor, MatchedFor}
use Rattle.machine_exceptions.specs.Terminates.{in_handler}
use Rattle.machine_exceptions.proofs.Picking.{turns_for, then_for, call_for}
use Rattle.raise_ends.specs.Ends.{RunEnds, HandlerFits, plan_in_handler, hiding}
use Rattle.raise_ends.proofs.Sent.{SentFrom, handler_sent, sent_aborts}

-- A runtime call, reached from a world, and the world in which it calls terminate with a handler.
pub record Comes (image : Image) (p : Plan) (n : ℕ) (frame : Frame) (fs below : List Activation) (v : World) (w : abi.World) (back hidden most : ℕ) (items : List Item) : Type 0 where
  pub turns : ℕ
  pub few : turns ≤ most
  pub at : abi.World
  pub runs : Turns image turns w at []
  pub number : ℕ
  pub behind : State
  pub calls : step_of at.hart ≡ (Ecall, behind)
  pub asks : x behind a7 ≡ number
  pub handler : ℕ
  pub to : abi.World
  pub from : SentFrom image p n frame fs below v to (x to.hart sp) back hidden
  pub shown : to.shown ≡ items

-- It calls terminate with a handler that is a function of the unit, while terminate does not run yet: whichever slot is wished for, of some.
pub record Sends (image : Image) (p : Plan) (n m : ℕ) (frame : Frame) (fs below : List Activation) (v : World) (w : abi.World) (back hidden most : ℕ) (items : List Item) (wished : abi.World → ℕ → Type 0) : Type 0 where
  pub comes : Comes image p n frame fs below v w back hidden most items
  pub quiet : v.ending ≡ false
  pub known : IsFunction (addresses_of p) (Some m) comes.handler
  pub effect : (wish : ℕ) → wished comes.at wish → call_effect comes.number image wish (asked comes.behind comes.at) ≡ terminates image.places comes.handler comes.to

-- any slot; the one that is picked for the next exception
abbrev pub any_wish : abi.World → ℕ → Type 0
any_wish at wish = Unit {0}

abbrev pub picked_wish : (pick : ℕ → ℕ) → abi.World → ℕ → Type 0
picked_wish pick at wish = wish ≡ pick (at.last_number + 1)

-- ---- the turn of the call

-- behind the call of terminate, where it does not run yet
abbrev next_of : Image → ℕ → abi.World → abi.World
next_of image handler t = record t { hart = at_stub image.places handler t.hart; terminating = true }

goes_there : (image : Image) (handler : ℕ) (t : abi.World) → t.terminating ≡ false → terminates image.places handler t ≡ abi.goes (next_of image handler t)
goes_there image handler t quiet = ap (λ b. if b then abi.aborts t else abi.goes (next_of image handler t)) quiet

-- one turn, for the slot that is wished for
one_turn : CallsAreMade → (image : Image) (pick : ℕ → ℕ) (number : ℕ) (w next : abi.World) (behind : State) → step_of w.hart ≡ (Ecall, behind) → x behind a7 ≡ number →
    call_effect number image (pick (w.last_number + 1)) (asked behind w) ≡ abi.goes next → (j : ℕ) → run image pick (suc j) w ≡ with_items next.shown (run image pick j (counted next))
unfolding run
one_turn made image pick number w next behind calls asks effect j =
    ap (and_more (run image pick j)) (made.made image (pick (w.last_number + 1)) number w behind calls asks ∙ ap (called w.hart.pc) effect)

last_turn : CallsAreMade → (image : Image) (pick : ℕ → ℕ) (number handler : ℕ) (w t : abi.World) (behind : State) → step_of w.hart ≡ (Ecall, behind) → x behind a7 ≡ number →
    call_effect number image (pick (w.last_number + 1)) (asked behind w) ≡ terminates image.places handler t → t.terminating ≡ true → (j : ℕ) → RunEnds image pick (suc j) w t.shown Aborted
unfolding run
last_turn made image pick number handler w t behind calls asks effect running j =
    let one : turn image (pick (w.last_number + 1)) w ≡ (Ended Aborted, counted t)
    = made.made image (pick (w.last_number + 1)) number w behind calls asks ∙ ap (called w.hart.pc) (effect ∙ ap (λ b. if b then abi.aborts t else abi.goes (next_of image handler t)) running) in
    let all = ap (and_more (run image pick j)) one in
    (ap (λ (r : Ran). r.items) all, ap (λ (r : Ran). r.end) all)

-- behind turns that show nothing
pub ends_later : (image : Image) (pick : ℕ → ℕ) (k n : ℕ) (w v : abi.World) (items : List Item) (end : machine.End) → Turns image n w v [] → n ≤ k → RunEnds image pick (k - n) v items end → RunEnds image pick k w items end
ends_later image pick k n w v items end runs few rest =
    let whole : n + (k - n) ≡ k = omega (arith, few) in
    let same : run image pick k w ≡ with_items [] (run image pick (k - n) v) = ap (λ m. run image pick m w) (sym whole) ∙ runs.run pick (k - n) in
    (ap (λ (r : Ran). r.items) same ∙ rest.0, ap (λ (r : Ran). r.end) same ∙ rest.1)

-- ---- the run aborts

-- terminate runs already
pub aborts_again : CallsAreMade → (image : Image) (pick : ℕ → ℕ) (k turns number handler : ℕ) (w at t : abi.World) (behind : State) (items : List Item) → Turns image turns w at [] → step_of at.hart ≡ (Ecall, behind) → x behind a7 ≡ number →
    call_effect number image (pick (at.last_number + 1)) (asked behind at) ≡ terminates image.places handler t → t.terminating ≡ true → t.shown ≡ items → turns + 1 ≤ k → RunEnds image pick k w items Aborted
aborts_again made image pick k turns number handler w at t behind items runs calls asks effect running shown many =
    let left : ℕ = k - turns - 1 in
    let count : suc left ≡ k - turns = omega (arith, many) in
    let last = last_turn made image pick number handler at t behind calls asks effect running left in
    let ends : RunEnds image pick (k - turns) at items Aborted = subst (λ j. RunEnds image pick j at items Aborted) count (last.0 ∙ shown, last.1) in
    ends_later image pick k turns w at items Aborted runs (omega (arith, many)) ends

-- there is no handler
pub aborts_without : CallsAreMade → TerminateRuns → (image : Image) (pick : ℕ → ℕ) (k turns number handler : ℕ) (u : UnitCode) (base : ℕ) (w at t : abi.World) (behind : State) (items : List Item) → Turns image turns w at [] →
    step_of at.hart ≡ (Ecall, behind) → x behind a7 ≡ number → call_effect number image (pick (at.last_number + 1)) (asked behind at) ≡ terminates image.places handler t → t.terminating ≡ false → handler ≡ 0 → MayTerminate u base image t →
    t.shown ≡ items → turns + 8 ≤ k → RunEnds image pick k w items Aborted
aborts_without made runs image pick k turns number handler u base w at t behind items goes calls asks effect quiet none may shown many =
    let left : ℕ = k - turns - 1 in
    let count : suc left ≡ k - turns = omega (arith, many) in
    let there = effect ∙ ap (λ h. terminates image.places h t) none ∙ goes_there image 0 t quiet in
    let one = one_turn made image pick number at (next_of image 0 t) behind calls asks there left in
    let rest = sent_aborts runs image pick left u base t may (omega (arith, many)) in
    let whole : run image pick (k - turns) at ≡ with_items t.shown (run image pick left (sent image.places 0 t)) = ap (λ j. run image pick j at) (sym count) ∙ one in
    let ends : RunEnds image pick (k - turns) at items Aborted = (
      ap (λ (r : Ran). r.items) whole ∙ ap (λ is. t.shown ++ is) rest.0 ∙ append-nil t.shown ∙ shown,
      ap (λ (r : Ran). r.end) whole ∙ rest.1,
    ) in
    ends_later image pick k turns w at items Aborted goes (omega (arith, many)) ends

-- ---- the handler begins

pub few_all : (c t most e : ℕ) → c ≤ most → t ≤ 6 + e → c + 1 + t ≤ most + 7 + e
few_all c t most e few more = omega (arith, few, more)

-- its address
first_of : (p : Plan) (m handler : ℕ) → IsFunction (addresses_of p) (Some m) handler → handler ≡ address (setting p m).ground (first_word p m)
first_of p m handler h = h.0

module _ (made : CallsAreMade) (runs : TerminateRuns) (image : Image) (p : Plan) (n m : ℕ) (frame : Frame) (fs : List Activation) (waiting : LinearState) (w : abi.World) (back hidden most : ℕ) (items : List Item)
    (c : Comes image p n frame fs (waiting.top ∷ waiting.frames) waiting.world w back hidden most items) (quiet : waiting.world.ending ≡ false) (known : IsFunction (addresses_of p) (Some m) c.handler)
    (fits : HandlerFits (hiding p hidden) m waiting) where
  abbrev first : ℕ
  first = address (setting p m).ground (first_word p m)

  abbrev begins : abi.World
  begins = sent image.places first c.to

  there : (wish : ℕ) → call_effect c.number image wish (asked c.behind c.at) ≡ terminates image.places c.handler c.to → call_effect c.number image wish (asked c.behind c.at) ≡ abi.goes (next_of image first c.to)
  there wish effect = effect ∙ ap (λ h. terminates image.places h c.to) (first_of p m c.handler known) ∙ goes_there image first c.to (c.from.runtime.terminating ∙ quiet)

  reached : Reaches image (6 + entry_turns p m) begins [] (λ u. Matches (plan_in_handler (hiding p hidden) m waiting) (in_handler p m waiting) u × SameRuntime begins u)
  reached = handler_sent runs image p n m frame fs waiting c.to (x c.to.hart sp) back hidden c.from known.1 fits

  -- whatever slot is wished for, and no forced unwind begins
  pub handler_called : ((wish : ℕ) → call_effect c.number image wish (asked c.behind c.at) ≡ terminates image.places c.handler c.to) → c.to.unwinding ≡ c.at.unwinding →
      Reaches image (most + 7 + entry_turns p m) w items (λ u. Matches (plan_in_handler (hiding p hidden) m waiting) (in_handler p m waiting) u)
  handler_called effect kept =
      let one : Turns image 1 c.at begins c.to.shown = made.goes_on image c.number c.at (next_of image first c.to) c.behind c.calls c.asks (λ wish. there wish (effect wish)) kept in
      let front = turns_then image c.turns 1 w c.at begins [] c.to.shown c.runs one in
      let all = turns_then image (c.turns + 1) reached.turns w begins reached.after c.to.shown [] front reached.runs in
      record {
        turns = c.turns + 1 + reached.turns;
        few = few_all c.turns reached.turns most (entry_turns p m) c.few reached.few;
        after = reached.after;
        runs = subst (Turns image (c.turns + 1 + reached.turns) w reached.after) (append-nil c.to.shown ∙ c.shown) all;
        holds = reached.holds.0;
      }

  -- a forced unwind may begin
  pub handler_unwound : ((wish : ℕ) → call_effect c.number image wish (asked c.behind c.at) ≡ terminates image.places c.handler c.to) →
      ForcedReaches image (most + 7 + entry_turns p m) w items (λ u. Matches (plan_in_handler (hiding p hidden) m waiting) (in_handler p m waiting) u × (u.exceptions ≡ c.to.exceptions) × (u.unwinding ≡ c.to.unwinding))
  handler_unwound effect =
      let one : ForcedTurns image 1 c.at begins c.to.shown = made.unwinds image c.number c.at (next_of image first c.to) c.behind c.calls c.asks (λ wish. there wish (effect wish)) in
      let front = forced_then image c.turns 1 w c.at begins [] c.to.shown (as_forced image c.turns w c.at [] c.runs) one in
      let all = forced_then image (c.turns + 1) reached.turns w begins reached.after c.to.shown [] front (as_forced image reached.turns begins reached.after [] reached.runs) in
      record {
        turns = c.turns + 1 + reached.turns;
        few = few_all c.turns reached.turns most (entry_turns p m) c.few reached.few;
        after = reached.after;
        runs = subst (ForcedTurns image (c.turns + 1 + reached.turns) w reached.after) (append-nil c.to.shown ∙ c.shown) all;
        holds = (reached.holds.0, reached.holds.1.exceptions, reached.holds.1.unwinding);
      }

  -- for the slot that is picked
  pub handler_picked : (pick : ℕ → ℕ) → call_effect c.number image (pick (c.at.last_number + 1)) (asked c.behind c.at) ≡ terminates image.places c.handler c.to → c.to.unwinding ≡ c.at.unwinding →
      MatchedFor image pick (most + 7 + entry_turns p m) w items (λ u. Matches (plan_in_handler (hiding p hidden) m waiting) (in_handler p m waiting) u)
  handler_picked pick effect kept =
      let one : TurnsFor image pick 1 c.at begins c.to.shown = call_for made image pick c.number c.at (next_of image first c.to) c.behind c.calls c.asks (there (pick (c.at.last_number + 1)) effect) kept in
      let front = then_for image pick c.turns 1 w c.at begins [] c.to.shown (turns_for image pick c.turns w c.at [] c.runs) one in
      let all = then_for image pick (c.turns + 1) reached.turns w begins reached.after c.to.shown [] front (turns_for image pick reached.turns begins reached.after [] reached.runs) in
      record {
        turns = c.turns + 1 + reached.turns;
        few = few_all c.turns reached.turns most (entry_turns p m) c.few reached.few;
        some = λ some. omega arith;
        after = reached.after;
        runs = subst (TurnsFor image pick (c.turns + 1 + reached.turns) w reached.after) (append-nil c.to.shown ∙ c.shown) all;
        holds = reached.holds.0;
      }
