-- A runtime call terminates, the handler finds no room, and the run ends.
use Rattle.std.proofs.Common.{◌≡◌, ◌∙◌, sym, ap, arith, ℕ, suc, ◌+◌, ◌-◌, ◌<◌, ◌≤◌, true, false, List, [], ◌++◌, append-nil, Some}
use Rattle.std.specs.Prelude.{if◌then◌else◌}
use Rattle.run_items.specs.declared.item.Item.{Item}
use Rattle.rv64_isa.specs.declared.step.Step.TheVariants.{Ecall}
use Rattle.rv64_isa.specs.State.{State}
use Rattle.rv64_isa.specs.Step.{step_of, x}
use Rattle.cxa_runtime.specs.declared.effect.End.TheVariants.{Stack}
use Rattle.cxa_runtime.specs.World as abi
use Rattle.cxa_runtime.specs.Raising.{Image}
use Rattle.cxa_runtime.specs.Call.{call_effect}
use Rattle.cxa_runtime.specs.Run.{Ran, called, counted, and_more, run}
use Rattle.cxa_runtime.specs.Terminate.{at_stub, terminates}
use Rattle.region_forms.specs.World.{Frame, World}
use Rattle.linear_forms.specs.Activation.{Activation}
use Rattle.machine_forms.specs.Registers.{sp, a7}
use Rattle.machine_pieces.specs.Standing.{address}
use Rattle.machine_pieces.specs.Turning.{with_items, Turns}
use Rattle.machine_stubs.specs.Calls.{asked, CallsAreMade}
use Rattle.machine_stubs.specs.Terminate.{TerminateRuns}
use Rattle.machine_stubs.specs.Terminates.{MayTerminate, sent}
use Rattle.machine_simulation.specs.Plan.{Plan, shape, first_word, setting}
use Rattle.machine_simulation.specs.Calls.{frames_bytes, stack_end}
use Rattle.machine_simulation.specs.Exceptions.{addresses_of, IsFunction}
use Rattle.machine_simulation.specs.Matches.{MemoryMatches}
use Rattle.stack_bounds.specs.Overflow.{FunctionsOverflow}
use Rattle.raise_ends.specs.Ends.{RunEnds}
use Rattle.raise_ends.proofs.Comes.{Sends, ends_later}
use Rattle.own_ends.proofs.Sent.{handler_overflows}

-- A runtime call, reached from a world, and the world in which it calls terminate with a handler: its memory matches, and the frames of calls take so
-- many bytes of the stack.
pub record Called (image : Image) (pick : ℕ → ℕ) (p : Plan) (n m : ℕ) (frame : Frame) (fs : List Activation) (v : World) (w : abi.World) (back taken : ℕ) (items : List Item) : Type 0 where
  pub turns : ℕ
  pub at : abi.World
  pub runs : Turns image turns w at []
  pub number : ℕ
  pub behind : State
  pub calls : step_of at.hart ≡ (Ecall, behind)
  pub asks : x behind a7 ≡ number
  pub handler : ℕ
  pub to : abi.World
  pub effect : call_effect number image (pick (at.last_number + 1)) (asked behind at) ≡ terminates image.places handler to
  pub quiet : to.terminating ≡ false
  pub known : IsFunction (addresses_of p) (Some m) handler
  pub may : MayTerminate p.unit p.base image to
  pub memory : MemoryMatches p n frame fs v to.hart.memory (x to.hart sp) back
  pub end : x to.hart sp + taken ≡ stack_end
  pub shown : to.shown ≡ items

-- the world behind the call
abbrev next_of : Image → ℕ → abi.World → abi.World
next_of image handler t = record t { hart = at_stub image.places handler t.hart; terminating = true }

one_turn : CallsAreMade → (image : Image) (pick : ℕ → ℕ) (number : ℕ) (w next : abi.World) (behind : State) → step_of w.hart ≡ (Ecall, behind) → x behind a7 ≡ number →
    call_effect number image (pick (w.last_number + 1)) (asked behind w) ≡ abi.goes next → (j : ℕ) → run image pick (suc j) w ≡ with_items next.shown (run image pick j (counted next))
unfolding run
one_turn made image pick number w next behind calls asks effect j =
    ap (and_more (run image pick j)) (made.made image (pick (w.last_number + 1)) number w behind calls asks ∙ ap (called w.hart.pc) effect)

pub called_overflows : CallsAreMade → TerminateRuns → FunctionsOverflow → (image : Image) (pick : ℕ → ℕ) (k : ℕ) (p : Plan) (n m : ℕ) (frame : Frame) (fs : List Activation) (v : World) (w : abi.World) (back taken : ℕ) (items : List Item) →
    (c : Called image pick p n m frame fs v w back taken items) → taken + 0x1000 ≤ 0x100_0000 → (shape p m).leaf ≡ false → 0x100_0000 < 32 + taken + (shape p m).size + 0x1000 → c.turns + 13 ≤ k → RunEnds image pick k w items Stack
called_overflows made runs over image pick k p n m frame fs v w back taken items c free looks lacks many =
    let t : abi.World = c.to in
    let first : ℕ = address (setting p m).ground (first_word p m) in
    let begins : abi.World = sent image.places first t in
    let left : ℕ = k - c.turns - 1 in
    let count : suc left ≡ k - c.turns = omega (arith, many) in
    let there : call_effect c.number image (pick (c.at.last_number + 1)) (asked c.behind c.at) ≡ abi.goes (next_of image first t)
    = c.effect ∙ ap (λ h. terminates image.places h t) c.known.0 ∙ ap (λ b. if b then abi.aborts t else abi.goes (next_of image first t)) c.quiet in
    let one = one_turn made image pick c.number c.at (next_of image first t) c.behind c.calls c.asks there left in
    let top = c.memory.top in
    let rest = handler_overflows over runs image pick left p m t c.may c.memory.unit c.memory.may (omega (arith, c.end, free)) (omega (arith, c.end)) (omega (arith, top.saved.aligned)) c.known.1 looks (omega (arith, c.end, lacks)) (omega (arith, many)) in
    let whole : run image pick (k - c.turns) c.at ≡ with_items t.shown (run image pick left begins) = ap (λ j. run image pick j c.at) (sym count) ∙ one in
    let ends : RunEnds image pick (k - c.turns) c.at items Stack = (
      ap (λ (r : Ran). r.items) whole ∙ ap (λ is. t.shown ++ is) rest.0 ∙ append-nil t.shown ∙ c.shown,
      ap (λ (r : Ran). r.end) whole ∙ rest.1,
    ) in
    ends_later image pick k c.turns w c.at items Stack c.runs (omega (arith, many)) ends

-- what comes to terminate so, by frames of calls of which some may be closed in linear code
abbrev pub called_by : (image : Image) (pick : ℕ → ℕ) (p : Plan) (n m : ℕ) (frame : Frame) (fs below : List Activation) (v : World) (w : abi.World) (back hidden most : ℕ) (items : List Item) (wished : abi.World → ℕ → Type 0)
    (s : Sends image p n m frame fs below v w back hidden most items wished) → wished s.comes.at (pick (s.comes.at.last_number + 1)) → Called image pick p n m frame fs v w back (hidden + frames_bytes p.unit hidden below) items
called_by image pick p n m frame fs below v w back hidden most items wished s picked = record {
  turns = s.comes.turns;
  at = s.comes.at;
  runs = s.comes.runs;
  number = s.comes.number;
  behind = s.comes.behind;
  calls = s.comes.calls;
  asks = s.comes.asks;
  handler = s.comes.handler;
  to = s.comes.to;
  effect = s.effect (pick (s.comes.at.last_number + 1)) picked;
  quiet = s.comes.from.runtime.terminating ∙ s.quiet;
  known = s.known;
  may = s.comes.from.may;
  memory = s.comes.from.memory;
  end = omega (arith, s.comes.from.end);
  shown = s.comes.shown;
}

pub sends_overflow : CallsAreMade → TerminateRuns → FunctionsOverflow → (image : Image) (pick : ℕ → ℕ) (k : ℕ) (p : Plan) (n m : ℕ) (frame : Frame) (fs below : List Activation) (v : World) (w : abi.World) (back hidden most : ℕ) (items : List Item)
    (wished : abi.World → ℕ → Type 0) (s : Sends image p n m frame fs below v w back hidden most items wished) → wished s.comes.at (pick (s.comes.at.last_number + 1)) →
    hidden + frames_bytes p.unit hidden below + 0x1000 ≤ 0x100_0000 → (shape p m).leaf ≡ false → 0x100_0000 < 32 + hidden + frames_bytes p.unit hidden below + (shape p m).size + 0x1000 → most + 13 ≤ k → RunEnds image pick k w items Stack
sends_overflow made runs over image pick k p n m frame fs below v w back hidden most items wished s picked free looks lacks many =
    called_overflows made runs over image pick k p n m frame fs v w back (hidden + frames_bytes p.unit hidden below) items (called_by image pick p n m frame fs below v w back hidden most items wished s picked) (omega (arith, free)) looks (omega (arith, lacks))
    (omega (arith, s.comes.few, many))
