-- The hart has been sent to terminate, whose handler finds no room for its frame.
use Rattle.std.proofs.Common.{◌≡◌, subst, arith, ℕ, ◌+◌, ◌-◌, ◌%◌, ◌<◌, ◌≤◌, false, [], length}
use Rattle.rv64_isa.specs.Step.{x}
use Rattle.cxa_runtime.specs.declared.effect.End.TheVariants.{Stack}
use Rattle.cxa_runtime.specs.World as abi
use Rattle.cxa_runtime.specs.Raising.{Image}
use Rattle.linear_forms.specs.Stub.{terminating}
use Rattle.machine_forms.specs.Registers.{sp}
use Rattle.machine_pieces.specs.Standing.{address}
use Rattle.machine_stubs.specs.Stretches.{stub_word, AtAddress}
use Rattle.machine_stubs.specs.Terminate.{TerminateRuns}
use Rattle.machine_stubs.specs.Terminates.{MayTerminate, sent}
use Rattle.machine_simulation.specs.Plan.{Plan, function, shape, first_word, setting}
use Rattle.machine_simulation.specs.Matches.{FrameIs, UnitStands, StackMay}
use Rattle.machine_simulation.proofs.Words.{even_base}
use Rattle.machine_simulation.proofs.Holding.{unit_stays, stack_stays}
use Rattle.stack_bounds.specs.Overflow.{FindsNoRoom, FunctionsOverflow}
use Rattle.raise_ends.specs.Ends.{RunEnds}
use Rattle.raise_ends.proofs.Sent.{at_first}
use Rattle.own_ends.proofs.Overflow.{ends_later}

pub handler_overflows : FunctionsOverflow → TerminateRuns → (image : Image) (pick : ℕ → ℕ) (j : ℕ) (p : Plan) (m : ℕ) (t : abi.World) → MayTerminate p.unit p.base image t → UnitStands p t.hart.memory → StackMay t.hart.memory → 0x7000_0d00 ≤ x t.hart sp →
    x t.hart sp ≤ 0x7100_0000 → x t.hart sp % 8 ≡ 0 → m < length p.unit.functions → (shape p m).leaf ≡ false → x t.hart sp < 0x7000_1000 + (shape p m).size + 32 → 12 ≤ j → RunEnds image pick j (sent image.places (address (setting p m).ground (first_word p m)) t) [] Stack
handler_overflows overflow runs image pick j p m t may unit writes low high even known looks short many =
    let first : ℕ = address (setting p m).ground (first_word p m) in
    let code = (unit.functions m known).0 in
    let base = even_base p t.hart.memory unit in
    let begins : abi.World = sent image.places first t in
    let a = at_first p.unit p.base first image t may in
    let come = runs.calls_the_handler image p.unit p.base first begins a.deep a.stands a.handler_is (λ zero. absurd (omega (arith, zero))) (omega (arith, base)) (omega (arith, code.word.below)) in
    let v2 : abi.World = come.after in
    let ad = subst (λ y. AtAddress first (y - 32) (y - 32) 32 begins (λ s. (x s 1 ≡ stub_word p.base terminating 6) × (x s 10 ≡ first)) v2) a.pointer come.holds in
    let pointer : x v2.hart sp ≡ x t.hart sp - 32 = ad.pointer in
    let frame_is : FrameIs (function p m) = unit.frames m known in
    let few = come.few in
    let no_room : FindsNoRoom p m v2 = record {
      known = known;
      looks = looks;
      registers = ad.registers;
      pc = ad.there;
      aligned = omega (arith, pointer, even, low);
      above = omega (arith, pointer, low, frame_is.small);
      short = omega (arith, pointer, short, low);
      below = omega (arith, pointer, high);
      unit = unit_stays p t.hart.memory v2.hart.memory ad.kept.beside.written unit;
      may = stack_stays t.hart.memory v2.hart.memory ad.kept.beside.written writes;
    } in
    let over = overflow image pick (j - come.turns) p m v2 no_room (omega (arith, few, many)) in
    ends_later image pick j come.turns begins v2 [] [] Stack come.runs (omega (arith, few, many)) (over.items, over.end)
