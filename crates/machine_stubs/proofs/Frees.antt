-- A whole call of end_catch that frees an object without a destructor.
use Rattle.std.proofs.Common.{◌≡◌, ◌∙◌, refl, sym, ap, subst, arith, ℕ, ◌+◌, ◌-◌, ◌/◌, ◌%◌, ◌<◌, ◌==◌, true, List, [], ◌∷◌, length, Option, Some, option_and_then, option_map}
use Rattle.std.specs.Prelude.{◌&&◌, nat_le, nat_lt}
use Rattle.std.proofs.lemmas.Bool.Decides.{nat_tests}
use Rattle.caught_stack.proofs.Headers.{header_changed}
use Rattle.run_items.specs.declared.item.Item.TheVariants.{Leave, Destroy, Free}
use Rattle.rv64_isa.specs.State.{State, with_reg}
use Rattle.rv64_isa.specs.Step.{x}
use Rattle.caught_stack.specs.declared.ended.Ended.{Ended}
use Rattle.caught_stack.specs.declared.ended.Ended.TheVariants.{Last}
use Rattle.caught_stack.specs.declared.header.Header.{Header}
use Rattle.caught_stack.specs.declared.header.HeaderKind.{HeaderKind}
use Rattle.caught_stack.specs.declared.header.HeaderKind.TheVariants.{Native}
use Rattle.caught_stack.specs.Allocate.{freed, with_header}
use Rattle.caught_stack.specs.Exceptions.{Exceptions}
use Rattle.caught_stack.specs.End.{ended}
use Rattle.caught_stack.specs.Live.{Live}
use Rattle.cxa_runtime.specs.declared.object.Object.{Object}
use Rattle.cxa_runtime.specs.Objects.{object_of, slot_of, object_in, object_where, passing, is_building}
use Rattle.cxa_runtime.specs.Leaving.{newest_object, left_by, let_go, building_again}
use Rattle.cxa_runtime.specs.Allocate.{free}
use Rattle.cxa_runtime.specs.Catch.{told, leaves}
use Rattle.cxa_runtime.specs.World.{World, goes, gives_both, needs, shows, with_exceptions, argument}
use Rattle.cxa_runtime.specs.Raising.{Image}
use Rattle.cxa_runtime.specs.Call.{numbered, call_effect}
use Rattle.cxa_runtime.specs.Run.{counted}
use Rattle.linear_forms.specs.Linear.{UnitCode}
use Rattle.linear_forms.specs.Stub.{Function, end_catch}
use Rattle.machine_pieces.specs.Frames.{AddressAt}
use Rattle.machine_pieces.specs.Turning.{Turns}
use Rattle.machine_pieces.proofs.Registers.{set_length, read_same, read_other}
use Rattle.machine_pieces.proofs.Keeping.{given_saved}
use Rattle.machine_pieces.proofs.Turning.{turns_then}
use Rattle.machine_stubs.specs.Stretches.{Beside, Stands}
use Rattle.machine_stubs.specs.Calls.{asked}
use Rattle.machine_stubs.specs.Frees.{EndCatchFrees}
use Rattle.machine_stubs.proofs.Calls.{calls_are_made}
use Rattle.machine_stubs.proofs.ComesBack.{beside_then, call_is}
use Rattle.machine_stubs.proofs.EndCatch.{end_catch_runs}

-- ---- what the runtime's calls do

slot_is : (slot : ℕ) → slot < 1024 → slot_of (object_of slot) ≡ Some slot
slot_is slot small =
    let a : ℕ = object_of slot in
    let test : (nat_le 0x6000_0000 a && nat_lt a 0x6040_0000 && (a % 0x1000 == 0)) ≡ true = grind (arith, nat_tests, small) in
    let number : (a - 0x6000_0000) / 0x1000 ≡ slot = omega (arith, small) in
    rw test (ap Some number)

abbrev pub left_exceptions : Object → Exceptions → Exceptions
left_exceptions o e = with_header o.slot (building_again o.header) e

-- the object counts as building
building : (o : Object) (e : Exceptions) → o.slot < length e.live → o.slot < 1024 →
    object_where is_building (left_exceptions o e).live (object_of o.slot) ≡ Some (record { slot = o.slot; header = building_again o.header })
building o e inside small =
    let live : Live = (left_exceptions o e).live in
    ap (λ n. passing is_building (option_and_then (object_in live) n)) (slot_is o.slot small)
    ∙ ap (λ h. passing is_building (option_map (λ (y : Header). record { slot = o.slot; header = y }) h)) (header_changed e.live o.slot (Some (building_again o.header)) inside)

abbrev pub left_world : Object → ℕ → Exceptions → World → World
left_world o d e t = gives_both (object_of o.slot) d (shows (Destroy o.header.number) (shows (Leave o.header.number) (with_exceptions (left_exceptions o e) t)))

told_of : (o : Object) (type d : ℕ) (e : Exceptions) (t : World) (kind : HeaderKind) → kind ≡ Native type d →
    goes (told o kind (shows (Leave o.header.number) (with_exceptions (let_go o kind e) t))) ≡ goes (left_world o d e t)
told_of o type d e t kind is = ap (λ k. goes (told o k (shows (Leave o.header.number) (with_exceptions (let_go o k e) t)))) is

pub left_is : (image : Image) (wish : ℕ) (o : Object) (type d : ℕ) (e was : Exceptions) (t : World) → t.exceptions ≡ was → newest_object was ≡ Some o → o.header.kind ≡ Native type d → ended was ≡ (Some (Last o.slot), e) →
    call_effect 7 image wish t ≡ goes (left_world o d e t)
left_is image wish o type d e was t same newest kind by =
    call_is image wish t ∙ ap (λ n. needs t n (λ y. leaves y t (left_by y (ended t.exceptions)))) (ap newest_object same ∙ newest) ∙ ap (λ es. leaves o t (left_by o (ended es))) same
    ∙ ap (λ l. leaves o t (left_by o l)) by ∙ told_of o type d e t o.header.kind kind

pub free_is : (image : Image) (wish : ℕ) (t : World) → call_effect 4 image wish t ≡ free t
unfolding call_effect numbered
free_is image wish t = refl

freed_is : (image : Image) (wish : ℕ) (o : Object) (e : Exceptions) (t : World) → t.exceptions ≡ left_exceptions o e → argument t 10 ≡ object_of o.slot → o.slot < length e.live → o.slot < 1024 →
    call_effect 4 image wish t ≡ goes (with_exceptions (freed o.slot t.exceptions) (shows (Free o.header.number) t))
freed_is image wish o e t same given inside small =
    free_is image wish t
    ∙ ap (λ n. needs t n (λ (y : Object). goes (with_exceptions (freed y.slot t.exceptions) (shows (Free y.header.number) t))))
    (ap (λ es. object_where is_building es.live (argument t 10)) same ∙ ap (object_where is_building (left_exceptions o e).live) given ∙ building o e inside small)

-- ---- the hart behind a call that gives two numbers

pub record Given (u : UnitCode) (base : ℕ) (f : Function) (k low size p q stack : ℕ) (t : State) : Type 0 where
  pub stands : Stands u base f k low size t
  pub pointer : x t 2 ≡ stack
  pub first : x t 10 ≡ p
  pub second : x t 11 ≡ q

pub given : (u : UnitCode) (base : ℕ) (f : Function) (k low size p q stack : ℕ) (s : State) → Stands u base f k low size s → x s 2 ≡ stack →
    Given u base f k low size p q stack (record s { regs = with_reg (with_reg s.regs 10 p) 11 q })
given u base f k low size p q stack s h at =
    let once : List ℕ = with_reg s.regs 10 p in
    record {
      stands = record { pc = h.pc; registers = set_length once 11 q ∙ set_length s.regs 10 p ∙ h.registers; code = h.code; room = h.room };
      pointer = read_other once 11 2 q (λ z. absurd (omega (arith, z))) ∙ read_other s.regs 10 2 p (λ z. absurd (omega (arith, z))) ∙ at;
      first = read_other once 11 10 q (λ z. absurd (omega (arith, z))) ∙ read_same s.regs 10 p (λ z. absurd (omega (arith, z))) (omega (arith, h.registers));
      second = read_same once 11 q (λ z. absurd (omega (arith, z))) (omega (arith, h.registers, set_length s.regs 10 p));
    }

-- ---- the whole call

pub end_catch_frees : EndCatchFrees
end_catch_frees image u base o type e w enough stands aligned small newest kind by all_slots slot_small =
    let s : State = w.hart in
    let low : ℕ = x s 2 - 48 in
    let back : ℕ = x s 1 in
    let n : ℕ = o.header.number in
    let object : ℕ = object_of o.slot in
    let live_is : w.exceptions.live ≡ e.live = ap (λ (l : Option Ended × Exceptions). l.1.live) by in
    let inside : o.slot < length e.live = omega (arith, slot_small, all_slots, ap length live_is) in
    let one = end_catch_runs.leaves image u base w enough stands small in
    let v1 : World = one.after in
    let h1 = one.holds in
    let v2 : World = counted (left_world o 0 e (asked h1.behind v1)) in
    let two : Turns image 1 v1 v2 (Leave n ∷ Destroy n ∷ []) = calls_are_made.goes_on image 7 v1 (left_world o 0 e (asked h1.behind v1)) h1.behind h1.calls h1.asks
    (λ wish. left_is image wish o type 0 e w.exceptions (asked h1.behind v1) h1.kept.runtime.exceptions newest kind by) refl in
    let s2 : State = v2.hart in
    let g2 = given u base end_catch 4 low 48 object 0 low h1.behind h1.stands h1.pointer in
    let three = end_catch_runs.frees_at_once image u base object v2 (subst (λ a. Stands u base end_catch 4 a 48 s2) (sym g2.pointer) g2.stands) g2.first (λ z. absurd (omega (arith, z))) (omega (arith, slot_small)) g2.second in
    let v3 : World = three.after in
    let h3 = three.holds in
    let t3 : World = asked h3.behind v3 in
    let same3 : t3.exceptions ≡ left_exceptions o e = h3.kept.runtime.exceptions in
    let v4 : World = counted (with_exceptions (freed o.slot t3.exceptions) (shows (Free n) t3)) in
    let four : Turns image 1 v3 v4 (Free n ∷ []) = calls_are_made.goes_on image 4 v3 (with_exceptions (freed o.slot t3.exceptions) (shows (Free n) t3)) h3.behind h3.calls h3.asks
    (λ wish. freed_is image wish o e t3 same3 h3.holds.0 inside slot_small) refl in
    let s4 : State = v4.hart in
    let pointer4 : x s4 2 ≡ low = h3.pointer ∙ g2.pointer in
    let held2 : AddressAt s2.memory (x s2 2 + 8) back = subst (λ a. AddressAt s2.memory (a + 8) back) (sym g2.pointer) h1.holds in
    let held4 : AddressAt s4.memory (x s4 2 + 8) back = subst (λ a. AddressAt s4.memory (a + 8) back) (sym h3.pointer) (h3.holds.1 back held2) in
    let five = end_catch_runs.returns image u base back v4
    (subst (λ a. Stands u base end_catch 16 a 48 s4) (sym h3.pointer) h3.stands) held4 aligned small in
    let v5 : World = five.after in
    let q = h1.kept.runtime in
    let r = h3.kept.runtime in
    let z = five.holds.kept.runtime in
    record {
      turns = one.turns + 1 + three.turns + 1 + five.turns;
      few = omega (arith, one.few, three.few, five.few);
      after = v5;
      runs = turns_then image (one.turns + 1 + three.turns + 1) five.turns w v4 v5 (Leave n ∷ Destroy n ∷ Free n ∷ []) []
          (turns_then image (one.turns + 1 + three.turns) 1 w v3 v4 (Leave n ∷ Destroy n ∷ []) (Free n ∷ [])
          (turns_then image (one.turns + 1) three.turns w v2 v3 (Leave n ∷ Destroy n ∷ []) [] (turns_then image one.turns 1 w v1 v2 [] (Leave n ∷ Destroy n ∷ []) one.runs two) three.runs) four) five.runs;
      holds = record {
        pc = five.holds.there;
        registers = five.holds.registers;
        pointer = five.holds.pointer ∙ omega (arith, pointer4, enough);
        variables = five.holds.variables ∙ (h3.variables ∙ (given_saved h1.behind s2 object 0 refl ∙ h1.variables));
        value = five.holds.holds.1;
        beside = beside_then low 48 w.hart.memory s2.memory v5.hart.memory h1.kept.beside
            (beside_then low 48 s2.memory s4.memory v5.hart.memory (subst (λ a. Beside a 48 s2.memory s4.memory) g2.pointer h3.kept.beside)
            (subst (λ a. Beside a 48 s4.memory v5.hart.memory) pointer4 five.holds.kept.beside));
        exceptions = z.exceptions ∙ ap (freed o.slot) same3;
        rest = record {
          terminate_handler = z.terminate_handler ∙ r.terminate_handler ∙ q.terminate_handler;
          unexpected_handler = z.unexpected_handler ∙ r.unexpected_handler ∙ q.unexpected_handler;
          last_number = z.last_number ∙ r.last_number ∙ q.last_number;
          unwinding = z.unwinding ∙ r.unwinding ∙ q.unwinding;
          input = z.input ∙ r.input ∙ q.input;
          replies = z.replies ∙ r.replies ∙ q.replies;
          terminating = z.terminating ∙ r.terminating ∙ q.terminating;
        };
      };
    }
