-- A whole call of end_catch that has nothing to destroy.
use Rattle.std.proofs.Common.{◌≡◌, ◌∙◌, refl, sym, ap, subst, arith, ℕ, ◌+◌, ◌-◌, List, [], ◌∷◌, length, Some}
use Rattle.run_items.specs.declared.item.Item.{Item}
use Rattle.run_items.specs.declared.item.Item.TheVariants.{Leave}
use Rattle.rv64_isa.specs.State.{State, Part, with_reg}
use Rattle.rv64_isa.specs.Step.{x}
use Rattle.caught_stack.specs.declared.ended.Ended.{Ended}
use Rattle.caught_stack.specs.Exceptions.{Exceptions}
use Rattle.caught_stack.specs.End.{ended}
use Rattle.cxa_runtime.specs.declared.object.Object.{Object}
use Rattle.cxa_runtime.specs.Leaving.{newest_object, left_by}
use Rattle.cxa_runtime.specs.Catch.{leaves, end_catch as runtime_end_catch}
use Rattle.cxa_runtime.specs.World.{World, goes, gives_both, needs, shows, with_exceptions}
use Rattle.cxa_runtime.specs.Raising.{Image}
use Rattle.cxa_runtime.specs.Call.{numbered, call_effect}
use Rattle.cxa_runtime.specs.Run.{counted}
use Rattle.linear_forms.specs.Stub.{end_catch}
use Rattle.machine_pieces.specs.Frames.{AddressAt}
use Rattle.machine_pieces.specs.Turning.{Turns}
use Rattle.machine_pieces.proofs.Storing.{written_more}
use Rattle.machine_pieces.proofs.Registers.{set_length, read_same, read_other}
use Rattle.machine_pieces.proofs.Keeping.{given_saved}
use Rattle.machine_pieces.proofs.Turning.{turns_then}
use Rattle.machine_stubs.specs.Stretches.{Beside, Stands}
use Rattle.machine_stubs.specs.Calls.{asked}
use Rattle.machine_stubs.specs.ComesBack.{TellsNothing, EndCatchComesBack}
use Rattle.machine_stubs.proofs.Calls.{calls_are_made}
use Rattle.machine_stubs.proofs.EndCatch.{end_catch_runs}

pub beside_then : (low size : ℕ) (a b c : List Part) → Beside low size a b → Beside low size b c → Beside low size a c
beside_then low size a b c first second = record { written = written_more a b c first.written second.written; others = λ k n v out h. second.others k n v out (first.others k n v out h) }

-- the world that the runtime's call goes on to
abbrev left_world : Object → Exceptions → World → World
left_world o e t = gives_both 0 0 (shows (Leave o.header.number) (with_exceptions e t))

pub call_is : (image : Image) (wish : ℕ) (t : World) → call_effect 7 image wish t ≡ runtime_end_catch t
unfolding call_effect numbered
call_is image wish t = refl

left_is : (image : Image) (wish : ℕ) (o : Object) (left : Ended) (e was : Exceptions) (t : World) → t.exceptions ≡ was → newest_object was ≡ Some o → left_by o (ended was) ≡ (Some left, e) → TellsNothing o left →
    call_effect 7 image wish t ≡ goes (left_world o e t)
left_is image wish o left e was t same newest by nothing =
    call_is image wish t ∙ ap (λ n. needs t n (λ y. leaves y t (left_by y (ended t.exceptions)))) (ap newest_object same ∙ newest) ∙ ap (λ es. leaves o t (left_by o (ended es))) same
    ∙ ap (leaves o t) by ∙ ap goes (nothing (shows (Leave o.header.number) (with_exceptions e t)))

pub end_catch_comes_back : EndCatchComesBack
end_catch_comes_back image u base o left e w enough stands aligned small newest by nothing =
    let s : State = w.hart in
    let low : ℕ = x s 2 - 48 in
    let back : ℕ = x s 1 in
    let items : List Item = Leave o.header.number ∷ [] in
    let one = end_catch_runs.leaves image u base w enough stands small in
    let v1 : World = one.after in
    let h = one.holds in
    let t : World = asked h.behind v1 in
    let next : World = left_world o e t in
    let v2 : World = counted next in
    let two : Turns image 1 v1 v2 items = calls_are_made.goes_on image 7 v1 next h.behind h.calls h.asks (λ wish. left_is image wish o left e w.exceptions t h.kept.runtime.exceptions newest by nothing) refl in
    let s2 : State = v2.hart in
    let regs : List ℕ = h.behind.regs in
    let once : List ℕ = with_reg regs 10 0 in
    let all : length s2.regs ≡ 32 = set_length once 11 0 ∙ set_length regs 10 0 ∙ h.stands.registers in
    let pointer : x s2 2 ≡ low = read_other once 11 2 0 (λ z. absurd (omega (arith, z))) ∙ read_other regs 10 2 0 (λ z. absurd (omega (arith, z))) ∙ h.pointer in
    let given : x s2 10 ≡ 0 = read_other once 11 10 0 (λ z. absurd (omega (arith, z))) ∙ read_same regs 10 0 (λ z. absurd (omega (arith, z))) (omega (arith, h.stands.registers)) in
    let stands2 : Stands u base end_catch 4 low 48 s2 = record { pc = h.stands.pc; registers = all; code = h.stands.code; room = h.stands.room } in
    let three = end_catch_runs.returns_at_once image u base back v2 (subst (λ a. Stands u base end_catch 4 a 48 s2) (sym pointer) stands2) given (subst (λ a. AddressAt s2.memory (a + 8) back) (sym pointer) h.holds) aligned small in
    let v3 : World = three.after in
    let r = three.holds.kept.runtime in
    let q = h.kept.runtime in
    record {
      turns = one.turns + 1 + three.turns;
      few = omega (arith, one.few, three.few);
      after = v3;
      runs = turns_then image (one.turns + 1) three.turns w v2 v3 items [] (turns_then image one.turns 1 w v1 v2 [] items one.runs two) three.runs;
      holds = record {
        pc = three.holds.there;
        registers = three.holds.registers;
        pointer = three.holds.pointer ∙ omega (arith, pointer, enough);
        variables = three.holds.variables ∙ (given_saved h.behind s2 0 0 refl ∙ h.variables);
        value = three.holds.holds;
        beside = beside_then low 48 w.hart.memory s2.memory v3.hart.memory h.kept.beside (subst (λ a. Beside a 48 s2.memory v3.hart.memory) pointer three.holds.kept.beside);
        exceptions = r.exceptions;
        rest = record {
          terminate_handler = r.terminate_handler ∙ q.terminate_handler;
          unexpected_handler = r.unexpected_handler ∙ q.unexpected_handler;
          last_number = r.last_number ∙ q.last_number;
          unwinding = r.unwinding ∙ q.unwinding;
          input = r.input ∙ q.input;
          replies = r.replies ∙ q.replies;
          terminating = r.terminating ∙ q.terminating;
        };
      };
    }
