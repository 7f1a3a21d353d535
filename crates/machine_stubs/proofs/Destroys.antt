-- A call of end_catch that destroys an object, up to the destructor and from there on.
use Rattle.std.proofs.Common.{◌≡◌, ◌∙◌, refl, sym, ap, subst, arith, ℕ, ◌+◌, ◌-◌, ◌%◌, ◌≤◌, List, [], ◌∷◌, Some}
use Rattle.run_items.specs.declared.item.Item.TheVariants.{Leave, Destroy, Free}
use Rattle.rv64_isa.specs.State.{State, Part}
use Rattle.rv64_isa.specs.Step.{x}
use Rattle.caught_stack.specs.Allocate.{freed}
use Rattle.caught_stack.specs.Exceptions.{Exceptions}
use Rattle.cxa_runtime.specs.declared.object.Object.{Object}
use Rattle.cxa_runtime.specs.Objects.{object_of, object_where, is_building}
use Rattle.cxa_runtime.specs.World.{World, goes, needs, shows, with_exceptions, argument}
use Rattle.cxa_runtime.specs.Raising.{Image}
use Rattle.cxa_runtime.specs.Call.{call_effect}
use Rattle.cxa_runtime.specs.Run.{counted}
use Rattle.linear_forms.specs.Stub.{end_catch}
use Rattle.machine_pieces.specs.Memory.{MayWrite}
use Rattle.machine_pieces.specs.Frames.{AddressAt}
use Rattle.machine_pieces.specs.Turning.{Turns}
use Rattle.machine_pieces.proofs.Keeping.{given_saved}
use Rattle.machine_pieces.proofs.Turning.{turns_then}
use Rattle.machine_stubs.specs.Stretches.{Beside, Stands}
use Rattle.machine_stubs.specs.Calls.{asked}
use Rattle.machine_stubs.specs.Destroys.{EndCatchDestroys}
use Rattle.machine_stubs.proofs.Calls.{calls_are_made}
use Rattle.machine_stubs.proofs.ComesBack.{beside_then}
use Rattle.machine_stubs.proofs.EndCatch.{end_catch_runs}
use Rattle.machine_stubs.proofs.Walking.{room_still}
use Rattle.machine_stubs.proofs.Frees.{left_world, left_is, free_is, given}
use Rattle.machine_stubs.specs.Stretches.{Room}

-- ---- less room

room_part : (low size o n : ℕ) (memory : List Part) → Room low size memory → o % 8 ≡ 0 → o + n ≤ size → Room (low + o) n memory
room_part low size o n memory h even inside = record {
  aligned = omega (arith, h.aligned, even);
  below = omega (arith, h.below, inside);
  may = λ i k small. subst (λ a. MayWrite memory a k) (omega arith) (h.may (o + i) k (omega (arith, inside, small)));
}

-- what lies apart from more bytes lies apart from fewer
beside_more : (low size o n : ℕ) (old new : List Part) → Beside (low + o) n old new → o + n ≤ size → Beside low size old new
beside_more low size o n old new h inside = record {
  written = h.written;
  others = λ b k v out held. h.others b k v (λ i j hi hj e. out (o + i) j (omega (arith, hi, inside)) hj (omega (arith, e))) held;
}

-- ---- the call that frees

freed_by : (image : Image) (wish object : ℕ) (o : Object) (was : Exceptions) (t : World) → t.exceptions ≡ was → argument t 10 ≡ object → object_where is_building was.live object ≡ Some o →
    call_effect 4 image wish t ≡ goes (with_exceptions (freed o.slot t.exceptions) (shows (Free o.header.number) t))
freed_by image wish object o was t same given there =
    free_is image wish t
    ∙ ap (λ n. needs t n (λ (y : Object). goes (with_exceptions (freed y.slot t.exceptions) (shows (Free y.header.number) t))))
    (ap (λ es. object_where is_building es.live (argument t 10)) same ∙ ap (object_where is_building was.live) given ∙ there)

-- ---- the two halves

pub end_catch_destroys : EndCatchDestroys
end_catch_destroys = record {
  calls = λ image u base o type destructor e w enough stands small newest kind by slot_small some aligned fits.
      let s : State = w.hart in
      let low : ℕ = x s 2 - 56 in
      let up : ℕ = x s 2 - 48 in
      let n : ℕ = o.header.number in
      let object : ℕ = object_of o.slot in
      let up_is : low + 8 ≡ up = omega (arith, enough) in
      let inner : Room up 48 s.memory = subst (λ a. Room a 48 s.memory) up_is (room_part low 56 8 48 s.memory stands.room refl (omega arith)) in
      let one = end_catch_runs.leaves image u base w (omega (arith, enough)) (record { pc = stands.pc; registers = stands.registers; code = stands.code; room = inner }) small in
      let v1 : World = one.after in
      let h1 = one.holds in
      let v2 : World = counted (left_world o destructor e (asked h1.behind v1)) in
      let two : Turns image 1 v1 v2 (Leave n ∷ Destroy n ∷ []) = calls_are_made.goes_on image 7 v1 (left_world o destructor e (asked h1.behind v1)) h1.behind h1.calls h1.asks
      (λ wish. left_is image wish o type destructor e w.exceptions (asked h1.behind v1) h1.kept.runtime.exceptions newest kind by) refl in
      let s2 : State = v2.hart in
      let g2 = given u base end_catch 4 up 48 object destructor up h1.behind h1.stands h1.pointer in
      let low_is : low ≡ x s2 2 - 8 = omega (arith, g2.pointer, enough) in
      let room2 : Room low 56 s2.memory = room_still low 56 s.memory s2.memory h1.kept.beside.written stands.room in
      let stands2 : Stands u base end_catch 4 (x s2 2 - 8) 56 s2
      = record { pc = g2.stands.pc; registers = g2.stands.registers; code = g2.stands.code; room = subst (λ a. Room a 56 s2.memory) low_is room2 } in
      let three = end_catch_runs.destroys image u base object destructor v2 (omega (arith, g2.pointer, enough)) stands2 g2.first (λ z. absurd (omega (arith, z))) (omega (arith, slot_small)) g2.second some aligned fits in
      let v3 : World = three.after in
      let m3 : List Part = v3.hart.memory in
      let h3 = three.holds in
      let q = h1.kept.runtime in
      let r = h3.kept.runtime in
      let above : x s2 2 ≡ low + 8 = omega (arith, g2.pointer, up_is) in
      let held2 : AddressAt s2.memory (x s2 2 + 8) (x s 1) = subst (λ a. AddressAt s2.memory (a + 8) (x s 1)) (sym g2.pointer) h1.holds in
      record {
        turns = one.turns + 1 + three.turns;
        few = omega (arith, one.few, three.few);
        after = v3;
        runs = turns_then image (one.turns + 1) three.turns w v2 v3 (Leave n ∷ Destroy n ∷ []) [] (turns_then image one.turns 1 w v1 v2 [] (Leave n ∷ Destroy n ∷ []) one.runs two) three.runs;
        holds = record {
          pc = h3.there;
          registers = h3.registers;
          returns = h3.holds.0;
          pointer = h3.pointer ∙ above;
          variables = h3.variables ∙ (given_saved h1.behind s2 object destructor refl ∙ h1.variables);
          passed = subst (λ a. AddressAt m3 a object) (sym low_is) h3.holds.1;
          kept = subst (λ a. AddressAt m3 (a + 40) object) above h3.holds.2;
          saved = subst (λ a. AddressAt m3 (a + 8) (x s 1)) above (h3.holds.3 (x s 1) held2);
          beside = beside_then low 56 s.memory s2.memory m3 (beside_more low 56 8 48 s.memory s2.memory (subst (λ a. Beside a 48 s.memory s2.memory) (sym up_is) h1.kept.beside) (omega arith))
              (subst (λ a. Beside a 56 s2.memory m3) (sym low_is) h3.kept.beside);
          exceptions = r.exceptions;
          rest = record {
            terminate_handler = r.terminate_handler ∙ q.terminate_handler;
            unexpected_handler = r.unexpected_handler ∙ q.unexpected_handler;
            last_number = r.last_number ∙ q.last_number;
            unwinding = r.unwinding ∙ q.unwinding;
            input = r.input ∙ q.input;
            replies = r.replies ∙ q.replies;
            terminating = r.terminating ∙ q.terminating;
          };
        };
      };
  comes_back = λ image u base object back o w stands kept saved aligned small there.
      let s : State = w.hart in
      let low : ℕ = x s 2 in
      let one = end_catch_runs.frees image u base object w stands kept in
      let v1 : World = one.after in
      let h1 = one.holds in
      let t : World = asked h1.behind v1 in
      let next : World = with_exceptions (freed o.slot t.exceptions) (shows (Free o.header.number) t) in
      let v2 : World = counted next in
      let s2 : State = v2.hart in
      let two : Turns image 1 v1 v2 (Free o.header.number ∷ []) = calls_are_made.goes_on image 4 v1 next h1.behind h1.calls h1.asks
      (λ wish. freed_by image wish object o w.exceptions t h1.kept.runtime.exceptions h1.holds.1 there) refl in
      let saved2 : AddressAt s2.memory (x s2 2 + 8) back = subst (λ a. AddressAt s2.memory (a + 8) back) (sym h1.pointer) (subst (λ ps. AddressAt ps (low + 8) back) (sym h1.holds.0) saved) in
      let three = end_catch_runs.returns image u base back v2 (subst (λ a. Stands u base end_catch 16 a 48 s2) (sym h1.pointer) h1.stands) saved2 aligned small in
      let v3 : World = three.after in
      let h3 = three.holds in
      let q = h1.kept.runtime in
      let r = h3.kept.runtime in
      record {
        turns = one.turns + 1 + three.turns;
        few = omega (arith, one.few, three.few);
        after = v3;
        runs = turns_then image (one.turns + 1) three.turns w v2 v3 (Free o.header.number ∷ []) [] (turns_then image one.turns 1 w v1 v2 [] (Free o.header.number ∷ []) one.runs two) three.runs;
        holds = record {
          pc = h3.there;
          registers = h3.registers;
          pointer = h3.pointer ∙ ap (λ a. a + 48) h1.pointer;
          variables = h3.variables ∙ h1.variables;
          value = h3.holds.1;
          beside = beside_then low 48 s.memory s2.memory v3.hart.memory h1.kept.beside (subst (λ a. Beside a 48 s2.memory v3.hart.memory) h1.pointer h3.kept.beside);
          exceptions = r.exceptions ∙ ap (freed o.slot) q.exceptions;
          rest = record {
            terminate_handler = r.terminate_handler ∙ q.terminate_handler;
            unexpected_handler = r.unexpected_handler ∙ q.unexpected_handler;
            last_number = r.last_number ∙ q.last_number;
            unwinding = r.unwinding ∙ q.unwinding;
            input = r.input ∙ q.input;
            replies = r.replies ∙ q.replies;
            terminating = r.terminating ∙ q.terminating;
          };
        };
      };
}
