-- The unexpected handler finds no room, and the run ends.
use Rattle.std.proofs.Common.{◌≡◌, ◌∙◌, sym, ap, subst, arith, ℕ, ◌+◌, ◌-◌, ◌<◌, ◌≤◌, ℤ, List, [], ◌∷◌, ◌++◌, append-nil, length, Option, Some}
use Rattle.meaning_forms.specs.World.{Installed}
use Rattle.run_items.specs.declared.item.Item.{Item}
use Rattle.run_items.specs.declared.item.Item.TheVariants.{Enter}
use Rattle.rv64_isa.specs.Step.{x}
use Rattle.cxa_runtime.specs.declared.effect.End.TheVariants.{Stack}
use Rattle.cxa_runtime.specs.World as abi
use Rattle.cxa_runtime.specs.Raising.{Image}
use Rattle.cxa_runtime.specs.Run.{Ran, run}
use Rattle.region_forms.specs.World.{World}
use Rattle.region_forms.specs.Effect.{entered}
use Rattle.linear_forms.specs.Linear.{unexpected}
use Rattle.linear_forms.specs.Activation.{State as LinearState}
use Rattle.machine_forms.specs.Registers.{sp}
use Rattle.machine_forms.specs.LinearCode.{linear_code}
use Rattle.machine_pieces.specs.Standing.{address}
use Rattle.machine_pieces.specs.Turning.{with_items, Turns}
use Rattle.machine_pieces.proofs.Turning.{turns_then}
use Rattle.machine_stubs.specs.Calls.{CallsAreMade}
use Rattle.machine_stubs.specs.CallUnexpected.{UnexpectedBegins}
use Rattle.machine_simulation.specs.Plan.{Plan, function, shape, first_word, setting}
use Rattle.machine_simulation.specs.Exceptions.{addresses_of, IsFunction}
use Rattle.machine_simulation.specs.Matches.{FrameIs, Matches}
use Rattle.machine_simulation.proofs.Words.{even_base}
use Rattle.machine_simulation.proofs.Matching.{stands_by}
use Rattle.machine_simulation.proofs.Freeing.{beside_matches}
use Rattle.raise_ends.specs.Ends.{RunEnds}
use Rattle.stack_bounds.specs.Overflow.{FindsNoRoom, FunctionsOverflow}
use Rattle.unexpected_calls.specs.Begins.{AtStopped, waiting_unexpected}
use Rattle.unexpected_calls.specs.Overflow.{HandlerLacksRoom, UnexpectedHandlersOverflow}
use Rattle.unexpected_calls.proofs.Begins.{stopped_entered, steps_to_handler}

-- turns in front
ends_behind : (image : Image) (pick : ℕ → ℕ) (k n : ℕ) (w at : abi.World) (items : List Item) → Turns image n w at items → n ≤ k → RunEnds image pick (k - n) at [] Stack → RunEnds image pick k w items Stack
ends_behind image pick k n w at items runs few rest =
    let whole : n + (k - n) ≡ k = omega (arith, few) in
    let same : run image pick k w ≡ with_items items (run image pick (k - n) at) = ap (λ m. run image pick m w) (sym whole) ∙ runs.run pick (k - n) in
    (ap (λ (r : Ran). r.items) same ∙ ap (λ is. items ++ is) rest.0 ∙ append-nil items, ap (λ (r : Ran). r.end) same ∙ rest.1)

overflows : CallsAreMade → UnexpectedBegins → FunctionsOverflow → (image : Image) (pick : ℕ → ℕ) (k : ℕ) (p : Plan) (n o s e : ℕ) (z : ℤ) (type : ℕ) (d : Option ℕ) (kept : Installed) (m : ℕ) (st : LinearState) (w : abi.World) → Matches p st w → AtStopped p n o s e z type d kept st w →
    kept.unexpected_handler ≡ Some m → HandlerLacksRoom p m (waiting_unexpected n o s m st ∷ st.top ∷ st.frames) → length (linear_code (shape p n) (unexpected o s)) + 16 ≤ k → RunEnds image pick k w (Enter e ∷ []) Stack
overflows made begins over image pick k p n o s e z type d kept m st w h at has lacks many =
    let ve : World = entered e st.world in
    let stood = stands_by p n st w h at.at.runs in
    let en = stopped_entered made begins image p n o s e z type d kept st w h.back stood at in
    let w3 : abi.World = en.after in
    let low : ℕ = x w3.hart sp in
    let is : IsFunction (addresses_of p) (Some m) en.header.handlers.1 = subst (λ y. IsFunction (addresses_of p) y en.header.handlers.1) has en.handlers.1 in
    let known : m < length p.unit.functions = is.1 in
    let first : ℕ = address (setting p m).ground (first_word p m) in
    let code = (en.matches.unit.functions m known).0 in
    let even = even_base p w3.hart.memory en.matches.unit in
    let come = begins.calls_the_handler image p.unit p.base first (p.tables n) w3 en.stands (en.handler ∙ is.0) (λ zero. absurd (omega (arith, zero))) (omega (arith, even)) (omega (arith, code.word.below)) en.table at.near in
    let w4 : abi.World = come.after in
    let ad = come.holds in
    let high : 0x7000_1000 ≤ low + 80 = en.high in
    let held = beside_matches p n st.top.frame st.frames ve w3.hart.memory w4.hart.memory (low + 80) h.back low 80 en.matches (record { low = omega (arith, high); high = omega arith }) ad.kept.beside in
    let frame_is : FrameIs (function p m) = held.unit.frames m known in
    let finds : FindsNoRoom p m w4 = record {
      known = known;
      looks = lacks.looks;
      registers = ad.registers;
      pc = ad.there;
      aligned = omega (arith, ad.pointer, en.matches.top.saved.aligned);
      above = omega (arith, ad.pointer, high, frame_is.small);
      short = omega (arith, ad.pointer, en.end, lacks.lacks);
      below = omega (arith, ad.pointer, en.matches.top.below);
      unit = held.unit;
      may = held.may;
    } in
    let turns : ℕ = en.turns + come.turns in
    let ended = over image pick (k - turns) p m w4 finds (omega (arith, en.few, come.few, many)) in
    ends_behind image pick k turns w w4 (Enter e ∷ []) (turns_then image en.turns come.turns w w3 w4 (Enter e ∷ []) [] en.runs come.runs) (omega (arith, en.few, come.few, many)) (ended.items, ended.end)

pub unexpected_handlers_overflow : CallsAreMade → UnexpectedBegins → FunctionsOverflow → UnexpectedHandlersOverflow
unexpected_handlers_overflow made begins over image pick k p n o s e z type d kept m st w h at has lacks many =
    let steps = steps_to_handler image p n o s e z type d kept m st w h at has in
    (steps.0, steps.1, overflows made begins over image pick k p n o s e z type d kept m st w h at has lacks many)
