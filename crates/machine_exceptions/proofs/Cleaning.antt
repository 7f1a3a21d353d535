-- A call of end_catch that leaves the last handler of a foreign exception.
use Rattle.std.proofs.Common.{◌≡◌, ◌∙◌, refl, sym, ap, subst, arith, ℕ, ◌+◌, ◌-◌, ◌%◌, ◌^◌, ◌<◌, ◌≤◌, List, [], ◌∷◌, length, Some}
use Rattle.run_items.specs.declared.item.Item.{Item}
use Rattle.run_items.specs.declared.item.Item.TheVariants.{Leave, Clean}
use Rattle.rv64_isa.specs.State.{State, Part, with_reg}
use Rattle.rv64_isa.specs.Step.{x}
use Rattle.caught_stack.specs.declared.ended.Ended.TheVariants.{Last}
use Rattle.caught_stack.specs.declared.header.HeaderKind.TheVariants.{Foreign}
use Rattle.caught_stack.specs.Allocate.{freed}
use Rattle.caught_stack.specs.Exceptions.{Exceptions}
use Rattle.caught_stack.specs.End.{ended}
use Rattle.cxa_runtime.specs.declared.object.Object.{Object}
use Rattle.cxa_runtime.specs.Leaving.{newest_object, let_go, left_by}
use Rattle.cxa_runtime.specs.Catch.{told, leaves, end_catch as end_catch_effect}
use Rattle.cxa_runtime.specs.World.{World, goes, needs, shows, with_exceptions, gives_both}
use Rattle.cxa_runtime.specs.Raising.{Image}
use Rattle.cxa_runtime.specs.Call.{call_effect, numbered}
use Rattle.cxa_runtime.specs.Run.{counted}
use Rattle.linear_forms.specs.Linear.{UnitCode}
use Rattle.linear_forms.specs.Stub.{end_catch}
use Rattle.machine_forms.specs.Registers.{ra, sp}
use Rattle.machine_pieces.specs.Frames.{AddressAt}
use Rattle.machine_pieces.specs.Turning.{Turns, Reaches}
use Rattle.machine_pieces.proofs.Registers.{set_length, read_same, read_other}
use Rattle.machine_pieces.proofs.Storing.{written_more}
use Rattle.machine_pieces.proofs.Turning.{turns_then}
use Rattle.machine_pieces.proofs.Keeping.{given_saved}
use Rattle.machine_stubs.specs.Stretches.{Beside, Stands}
use Rattle.machine_stubs.specs.Calls.{asked, CallsAreMade}
use Rattle.machine_stubs.specs.EndCatch.{EndCatchRuns}
use Rattle.machine_stubs.specs.ComesBack.{CameBack}

end_catch_is : (image : Image) (wish : ℕ) (t : World) → call_effect 7 image wish t ≡ end_catch_effect t
unfolding call_effect numbered
end_catch_is image wish t = refl

beside_then : (low size : ℕ) (old mid new : List Part) → Beside low size old mid → Beside low size mid new → Beside low size old new
beside_then low size old mid new one two = record { written = written_more old mid new one.written two.written; others = λ b n v out h. two.others b n v out (one.others b n v out h) }

-- the world behind the runtime call
cleaned_world : Object → (k token : ℕ) → Exceptions → World → World
cleaned_world o k token e t = gives_both 0 0 (shows (Clean k token) (shows (Leave o.header.number) (with_exceptions (freed o.slot e) t)))

cleaned_is : (image : Image) (wish : ℕ) (o : Object) (k token : ℕ) (e was : Exceptions) (t : World) → t.exceptions ≡ was → newest_object was ≡ Some o → o.header.kind ≡ Foreign k token → ended was ≡ (Some (Last o.slot), e) →
    call_effect 7 image wish t ≡ goes (cleaned_world o k token e t)
unfolding cleaned_world
cleaned_is image wish o k token e was t same newest kind by =
    end_catch_is image wish t ∙ ap (λ n. needs t n (λ y. leaves y t (left_by y (ended t.exceptions)))) (ap newest_object same ∙ newest) ∙ ap (λ es. leaves o t (left_by o (ended es))) same
    ∙ ap (λ l. leaves o t (left_by o l)) by ∙ ap (λ h. goes (told o h (shows (Leave o.header.number) (with_exceptions (let_go o h e) t)))) kind

pub foreign_left : EndCatchRuns → CallsAreMade → (image : Image) (u : UnitCode) (base : ℕ) (o : Object) (k token : ℕ) (e : Exceptions) (w : World) → let s = w.hart in let low = x s sp - 48 in
    48 ≤ x s sp → Stands u base end_catch 0 low 48 s → x s ra % 4 ≡ 0 → x s ra < 2 ^ 64 → newest_object w.exceptions ≡ Some o → o.header.kind ≡ Foreign k token → ended w.exceptions ≡ (Some (Last o.slot), e) →
    Reaches image 12 w (Leave o.header.number ∷ Clean k token ∷ []) (CameBack (x s ra) (x s sp) low 48 (freed o.slot e) w)
unfolding cleaned_world
foreign_left catches made image u base o k token e w enough stands aligned small newest kind by =
    let s : State = w.hart in
    let low : ℕ = x s sp - 48 in
    let back : ℕ = x s ra in
    let items : List Item = Leave o.header.number ∷ Clean k token ∷ [] in
    let one = catches.leaves image u base w enough stands small in
    let v1 : World = one.after in
    let h = one.holds in
    let t : World = asked h.behind v1 in
    let next : World = cleaned_world o k token e t in
    let v2 : World = counted next in
    let two : Turns image 1 v1 v2 items = made.goes_on image 7 v1 next h.behind h.calls h.asks (λ wish. cleaned_is image wish o k token e w.exceptions t h.kept.runtime.exceptions newest kind by) refl in
    let s2 : State = v2.hart in
    let regs : List ℕ = h.behind.regs in
    let once : List ℕ = with_reg regs 10 0 in
    let all : length s2.regs ≡ 32 = set_length once 11 0 ∙ set_length regs 10 0 ∙ h.stands.registers in
    let pointer : x s2 2 ≡ low = read_other once 11 2 0 (λ z. absurd (omega (arith, z))) ∙ read_other regs 10 2 0 (λ z. absurd (omega (arith, z))) ∙ h.pointer in
    let given : x s2 10 ≡ 0 = read_other once 11 10 0 (λ z. absurd (omega (arith, z))) ∙ read_same regs 10 0 (λ z. absurd (omega (arith, z))) (omega (arith, h.stands.registers)) in
    let stands2 : Stands u base end_catch 4 low 48 s2 = record { pc = h.stands.pc; registers = all; code = h.stands.code; room = h.stands.room } in
    let three = catches.returns_at_once image u base back v2 (subst (λ a. Stands u base end_catch 4 a 48 s2) (sym pointer) stands2) given (subst (λ a. AddressAt s2.memory (a + 8) back) (sym pointer) h.holds) aligned small in
    let v3 : World = three.after in
    let r = three.holds.kept.runtime in
    let q = h.kept.runtime in
    record {
      turns = one.turns + 1 + three.turns;
      few = omega (arith, one.few, three.few);
      after = v3;
      runs = turns_then image (one.turns + 1) three.turns w v2 v3 items [] (turns_then image one.turns 1 w v1 v2 [] items one.runs two) three.runs;
      holds = record {
        pc = three.holds.there;
        registers = three.holds.registers;
        pointer = three.holds.pointer ∙ omega (arith, pointer, enough);
        variables = three.holds.variables ∙ given_saved h.behind s2 0 0 refl ∙ h.variables;
        value = three.holds.holds;
        beside = beside_then low 48 w.hart.memory s2.memory v3.hart.memory h.kept.beside (subst (λ a. Beside a 48 s2.memory v3.hart.memory) pointer three.holds.kept.beside);
        exceptions = r.exceptions;
        rest = record {
          terminate_handler = r.terminate_handler ∙ q.terminate_handler;
          unexpected_handler = r.unexpected_handler ∙ q.unexpected_handler;
          last_number = r.last_number ∙ q.last_number;
          unwinding = r.unwinding ∙ q.unwinding;
          input = r.input ∙ q.input;
          replies = r.replies ∙ q.replies;
          terminating = r.terminating ∙ q.terminating;
        };
      };
    }
