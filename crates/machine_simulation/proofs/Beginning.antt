-- The beginning of main is matched.
use Rattle.std.proofs.Common.{◌≡◌, ◌≢◌, ◌∙◌, refl, sym, ap, subst, arith, ℕ, zero, suc, ◌+◌, ◌-◌, ◌*◌, ◌%◌, ◌^◌, ◌<◌, ◌≤◌, ℤ, pos, ◌+ℤ◌, List, [], ◌∷◌, ◌++◌, flat_map, length, Option, Some, None, inl}
use Rattle.std.specs.List.{IsDistinct}
use Rattle.std.specs.Prelude.{nat_eq, replicate, ◌==◌, Bool, true, false, slice_get, if◌then◌else◌}
use Rattle.std.proofs.lemmas.Int.{ints}
use Rattle.std.proofs.lemmas.Bool.Decides.{nat_tests}
use Rattle.rv64_isa.specs.State.{State, Part, with_value}
use Rattle.rv64_isa.specs.Step.{x}
use Rattle.eh_outer.specs.declared.module.Reply.{Reply}
use Rattle.caught_stack.specs.declared.header.Header.{Header}
use Rattle.caught_stack.specs.Live.{slots, all_vacant, header_of, live_count}
use Rattle.cxa_runtime.specs.World as abi
use Rattle.region_forms.specs.World.{Base, of_global, of_variable, of_exception, Address, World}
use Rattle.region_forms.specs.Meaning.{global_memory, first_world}
use Rattle.linear_forms.specs.Linear.{UnitCode}
use Rattle.linear_forms.specs.Stub.{compiled}
use Rattle.linear_forms.specs.Activation.{State as LinearState}
use Rattle.linear_forms.specs.UnitRun.{first_state}
use Rattle.machine_forms.specs.Registers.{ra, sp, saved_registers}
use Rattle.machine_forms.specs.KeptCode.{saves}
use Rattle.machine_forms.specs.Piece.{Target, entry, unit_entry}
use Rattle.machine_forms.specs.Shape.{Shape, return_offset, prologue}
use Rattle.machine_forms.specs.StubCode.{start_routine, stub_words}
use Rattle.machine_forms.specs.Emitted.{main_jump, target_byte, stub_target}
use Rattle.machine_pieces.specs.Memory.{Holds, MayWrite, Apart, Written}
use Rattle.machine_pieces.specs.Executes.{Executes}
use Rattle.machine_pieces.specs.Standing.{Ground, address, PiecesAt}
use Rattle.machine_pieces.specs.Frames.{IntAt, Reached}
use Rattle.machine_pieces.specs.Keeping.{saved_of, AreSmall}
use Rattle.machine_pieces.specs.Turning.{Reaches}
use Rattle.machine_pieces.specs.Transfers.{lowest_sp, entry_steps, HasRoom}
use Rattle.machine_pieces.proofs.Keeping.{same_saved}
use Rattle.machine_pieces.specs.UnitAt.{ground_at, routine_ground}
use Rattle.machine_pieces.proofs.Storing.{eight_stored, may_still, value_written}
use Rattle.machine_pieces.proofs.Fetching.{pieces_split}
use Rattle.machine_pieces.proofs.Stepping.{steps_then}
use Rattle.machine_pieces.proofs.Framing.{function_calls, prologue_enters}
use Rattle.machine_simulation.specs.Plan.{Plan, function, shape, routine, first_word, setting}
use Rattle.machine_simulation.specs.Calls.{IsBegun, start_back, stack_end}
use Rattle.machine_simulation.specs.Exceptions.{Addresses, addresses_of, exceptions_in, kept_by, ExceptionsMatch}
use Rattle.machine_simulation.specs.Matches.{FrameIs, RuntimeMatches, Matches}
use Rattle.machine_simulation.specs.Entering.{opened, entry_turns}
use Rattle.machine_simulation.specs.Beginning.{global_byte, is_global, plan_before, StandsBefore, MainBegins}
use Rattle.machine_simulation.proofs.Words.{even_base}
use Rattle.machine_simulation.proofs.Keeping.{int_stays}
use Rattle.machine_simulation.proofs.Holding.{unit_stays, stack_stays}
use Rattle.machine_simulation.proofs.Matching.{Arrives, matched}
use Rattle.machine_simulation.proofs.Beneath.{Beneath, Begins}
use Rattle.machine_simulation.proofs.KeptEntered.{begins_saved}
use Rattle.machine_simulation.proofs.Jumping.{jumps_far}

-- ---- globals

-- what is live before main is a global
live_global : (u : UnitCode) (b : Base) → is_global (length u.globals) b ≡ true → (g : ℕ) × (b ≡ of_global g) × (g < length u.globals)
live_global u (of_global g) e = (g, refl, grind (arith, nat_tests, e))
live_global u (of_variable c s) e = absurd (cc e)
live_global u (of_exception d) e = absurd (cc e)

int_inside : (values : List ℤ) (n : ℕ) (z : ℤ) → slice_get values n ≡ Some z → n < length values
int_inside [] n z e = absurd (cc e)
int_inside (v ∷ values) zero z e = omega arith
int_inside (v ∷ values) (suc n) z e = omega (arith, int_inside values n z e)

-- an int before main is a global's
first_int : (values : List ℤ) (a : Address) (z : ℤ) → global_memory values a.base a.offset ≡ Some z → (g : ℕ) × (a.base ≡ of_global g) × (a.offset ≡ 0) × (slice_get values g ≡ Some z)
first_int values a z e = by a.base a.offset e
  where
    at_zero : (g o : ℕ) (t : Bool) → (o == 0) ≡ t → (if t then slice_get values g else None) ≡ Some z → (o ≡ 0) × (slice_get values g ≡ Some z)
    at_zero g o true is got = (grind (arith, nat_tests, is), got)
    at_zero g o false is got = absurd (cc got)

    by : (b : Base) (o : ℕ) → global_memory values b o ≡ Some z → (g : ℕ) × (b ≡ of_global g) × (o ≡ 0) × (slice_get values g ≡ Some z)
    by (of_global g) o got = let both = at_zero g o (o == 0) refl got in (g, refl, both.0, both.1)
    by (of_variable c s) o got = absurd (cc got)
    by (of_exception d) o got = absurd (cc got)

-- what a global's place is
record GlobalPlace (u : UnitCode) (base g : ℕ) : Type 0 where
  at : global_byte u base g + (24 * length u.types + 4 * (g + 1)) ≡ base
  low : global_byte u base g + 4 ≤ 0x6000_0000
  even : global_byte u base g % 4 ≡ 0

global_place : (u : UnitCode) (base g : ℕ) → 24 * length u.types + 4 * length u.globals ≤ base → base ≤ 0x6000_0000 → base % 4 ≡ 0 → g < length u.globals → GlobalPlace u base g
global_place u base g deep low even inside = record { at = omega (arith, deep, inside); low = omega (arith, deep, inside, low); even = omega (arith, deep, inside, even) }

globals_apart : (x y t g h i j base : ℕ) → x + (t + 4 * (g + 1)) ≡ base → y + (t + 4 * (h + 1)) ≡ base → i < 4 → j < 4 → x + i ≡ y + j → g ≡ h
globals_apart x y t g h i j base ex ey hi hj e = omega (arith, ex, ey, hi, hj, e)

-- ---- what main's frame stands above

beneath_first : (u : UnitCode) (base : ℕ) (tables : ℕ → ℕ) (s : State) (input : List ℕ) (replies : List (List Reply)) (place value : ℕ) → StandsBefore u base tables s → 0x7000_0000 ≤ place → place + 8 ≤ stack_end →
    Beneath (plan_before u base tables) (first_world u.globals input replies) (with_value s.memory place 8 value) stack_end
beneath_first u base tables s input replies place value h low high = record {
  unit = unit_stays p s.memory new w h.unit;
  apart = record {
    apart = λ a b la lb differ. apart_at a b (live_global u a la) (live_global u b lb) differ;
    may = λ b o n live inside. may_at b o n inside (live_global u b live);
    below = λ b live. below_at b (live_global u b live);
    aligned = λ b live. aligned_at b (live_global u b live);
  };
  inside = λ a z live there. let first = first_int u.globals a z there in (omega (arith, first.2), refl);
  ints = λ a z live there. int_at a z (first_int u.globals a z there);
  fresh = λ c s o later. refl;
  objects = record {
    may = λ a n low high. may_still s.memory new a n w (h.objects a n low high);
    made = λ e live. absurd (cc live);
    fresh = λ e o more. refl;
    away = λ b live plain. inl (away_at b (live_global u b live));
    placed = λ e. omega arith;
  };
  may = stack_stays s.memory new w h.may;
  end = omega arith;
  begun = λ b live. let global = live_global u b live in subst (IsBegun (first_world u.globals input replies)) (sym global.1) tt;
  clear = λ b live. inl (clear_at b (live_global u b live));
  reached = λ g inside.
      let here = place_of g inside in
      record {
        is = omega (arith, ints, here.at);
        near = λ word there. (omega (arith, here.at), omega (arith, here.at, h.near, there, inside));
      };
  all_globals = λ g inside. grind (arith, nat_tests, inside);
}
  where
    p : Plan
    p = plan_before u base tables

    new : List Part
    new = with_value s.memory place 8 value

    w : Written s.memory new
    w = value_written s.memory place 8 value (h.may place 8 low high)

    place_of : (g : ℕ) → g < length u.globals → GlobalPlace u base g
    place_of g inside = global_place u base g h.deep h.low (even_base p s.memory h.unit) inside

    apart_at : (a b : Base) → (g : ℕ) × (a ≡ of_global g) × (g < length u.globals) → (g : ℕ) × (b ≡ of_global g) × (g < length u.globals) → a ≢ b → Apart (p.at a) 4 (p.at b) 4
    apart_at a b x y differ i j hi hj e =
        let at_a : p.at a ≡ global_byte u base x.0 = ap (λ c. p.at c) x.1 in
        let at_b : p.at b ≡ global_byte u base y.0 = ap (λ c. p.at c) y.1 in
        let same : x.0 ≡ y.0 = globals_apart (global_byte u base x.0) (global_byte u base y.0) (24 * length u.types) x.0 y.0 i j base (place_of x.0 x.2).at (place_of y.0 y.2).at hi hj (omega (arith, at_a, at_b, e)) in
        differ (x.1 ∙ ap of_global same ∙ sym y.1)

    may_at : (b : Base) (o n : ℕ) → o + n ≤ 4 → (g : ℕ) × (b ≡ of_global g) × (g < length u.globals) → MayWrite new (p.at b + o) n
    may_at b o n inside x =
        let at : global_byte u base x.0 ≡ p.at b = ap (λ c. p.at c) (sym x.1) in
        subst (λ a. MayWrite new (a + o) n) at (may_still s.memory new (global_byte u base x.0 + o) n w (h.writable x.0 o n x.2 inside))

    below_at : (b : Base) → (g : ℕ) × (b ≡ of_global g) × (g < length u.globals) → p.at b + 4 < 2 ^ 64
    below_at b x = let at : p.at b ≡ global_byte u base x.0 = ap (λ c. p.at c) x.1 in omega (arith, at, (place_of x.0 x.2).low)

    aligned_at : (b : Base) → (g : ℕ) × (b ≡ of_global g) × (g < length u.globals) → p.at b % 4 ≡ 0
    aligned_at b x = let at : p.at b ≡ global_byte u base x.0 = ap (λ c. p.at c) x.1 in omega (arith, at, (place_of x.0 x.2).even)

    clear_at : (b : Base) → (g : ℕ) × (b ≡ of_global g) × (g < length u.globals) → p.at b + 4 ≤ 0x7000_0000
    clear_at b x = let at : p.at b ≡ global_byte u base x.0 = ap (λ c. p.at c) x.1 in omega (arith, at, (place_of x.0 x.2).low)

    away_at : (b : Base) → (g : ℕ) × (b ≡ of_global g) × (g < length u.globals) → p.at b + 4 ≤ 0x6000_0000
    away_at b x = let at : p.at b ≡ global_byte u base x.0 = ap (λ c. p.at c) x.1 in omega (arith, at, (place_of x.0 x.2).low)

    int_at : (a : Address) (z : ℤ) → (g : ℕ) × (a.base ≡ of_global g) × (a.offset ≡ 0) × (slice_get u.globals g ≡ Some z) → IntAt new (p.at a.base + a.offset) z
    int_at a z x =
        let at : global_byte u base x.0 ≡ p.at a.base + a.offset = omega (arith, ap (λ c. p.at c) x.1, x.2) in
        let here = place_of x.0 (int_inside u.globals x.0 z x.3) in
        subst (λ b. IntAt new b z) at
        (int_stays s.memory place 8 value (global_byte u base x.0) z (λ i j hi hj e. absurd (omega (arith, here.low, low, hj, e))) (h.globals x.0 z x.3))

-- ---- up to main

reached_word : (g : Ground) (t : Target) (k : ℕ) → g.words < 2 ^ 28 → k < g.words → g.places.target t ≡ pos (4 * k) → Reached g t (address g k)
reached_word g t k few inside is = record {
  is = ap pos (omega arith) ∙ ap (λ d. pos g.base +ℤ d) (sym is);
  near = λ here at. (omega (arith, few, inside, at), omega (arith, few, inside, at));
}

-- main's frame is taken, and the return address is that behind the call of main
record MainEntered (u : UnitCode) (base : ℕ) (tables : ℕ → ℕ) (s : State) : Type 0 where
  after : State
  runs : Executes (4 + entry_steps (shape (plan_before u base tables) u.main).leaf) s after
  pc : after.pc ≡ address (setting (plan_before u base tables) u.main).ground (first_word (plan_before u base tables) u.main + length (prologue (shape (plan_before u base tables) u.main)))
  registers : length after.regs ≡ 32
  memory : after.memory ≡ with_value s.memory (stack_end - (shape (plan_before u base tables) u.main).size + return_offset) 8 (start_back (plan_before u base tables))
  stack : x after sp ≡ stack_end - (shape (plan_before u base tables) u.main).size
  saved : saved_of after ≡ saved_of s

first_above : (leaf : Bool) (size : ℕ) → size < 2 ^ 11 → lowest_sp leaf size ≤ stack_end
first_above true size small = omega arith
first_above false size small = omega (arith, small)

main_entered : (u : UnitCode) (base : ℕ) (tables : ℕ → ℕ) (s : State) → StandsBefore u base tables s → MainEntered u base tables s
main_entered u base tables s h =
    let p : Plan = plan_before u base tables in
    let g0 : Ground = routine_ground u base (λ t. stub_target t) 0 start_routine in
    let g1 : Ground = ground_at u base (record { target = target_byte u; label = λ l. l }) in
    let gm : Ground = (setting p u.main).ground in
    let f : Shape = shape p u.main in
    let start = h.unit.stubs.start in
    let pieces = h.unit.functions u.main h.main in
    let even = even_base p s.memory h.unit in
    let frame_is : FrameIs (function p u.main) = h.unit.frames u.main h.main in
    let first = function_calls g0 0 (address g0 stub_words) unit_entry s (start.0, (start.1.0, tt)) (h.pc ∙ omega arith) h.registers
    (reached_word g0 unit_entry stub_words h.unit.few h.jump.0.inside refl) (omega (arith, even)) (omega (arith, h.jump.0.word.below)) in
    let s1 : State = first.after in
    let jump1 = subst (λ ps. PiecesAt ps g1 stub_words (main_jump u)) (sym first.memory) h.jump in
    let second = jumps_far g1 stub_words (address g1 (first_word p u.main)) (entry (compiled u.main)) s1 jump1 first.pc first.registers
    (reached_word g1 (entry (compiled u.main)) (first_word p u.main) h.unit.few pieces.0.inside refl) (omega (arith, even)) (omega (arith, pieces.0.word.below)) in
    let s2 : State = second.after in
    let same_memory : s2.memory ≡ s.memory = second.memory ∙ first.memory in
    let same_stack : x s2 sp ≡ stack_end = second.kept sp (λ e. absurd (omega (arith, e))) ∙ first.kept sp (λ e. absurd (omega (arith, e))) ∙ h.stack in
    let back_there : x s2 ra ≡ start_back p = second.kept ra (λ e. absurd (omega (arith, e))) ∙ first.back in
    let room : HasRoom f s2 = record {
      registers = second.registers;
      size = (frame_is.small, omega (arith, frame_is.size), omega (arith, frame_is.size));
      aligned = omega (arith, same_stack);
      above = subst (λ a. lowest_sp f.leaf f.size ≤ a) (sym same_stack) (first_above f.leaf f.size frame_is.small);
      below = omega (arith, same_stack);
      may = subst (λ ps. MayWrite ps (x s2 sp - f.size + return_offset) 8) (sym same_memory) (h.may (x s2 sp - f.size + return_offset) 8 (omega (arith, same_stack, frame_is.small)) (omega (arith, same_stack, frame_is.small, frame_is.size)));
    } in
    let parts = pieces_split s.memory gm (first_word p u.main) (prologue f ++ saves f (function p u.main).parameters saved_registers f.kept) (flat_map (λ b. b) (routine p u.main).blocks) pieces in
    let heads = pieces_split s.memory gm (first_word p u.main) (prologue f) (saves f (function p u.main).parameters saved_registers f.kept) parts.0 in
    let prologue2 = subst (λ ps. PiecesAt ps gm (first_word p u.main) (prologue f)) (sym same_memory) heads.0 in
    let third = prologue_enters gm (first_word p u.main) f s2 prologue2 second.pc room in
    record {
      after = third.after;
      runs = steps_then 4 (entry_steps f.leaf) s s2 third.after (steps_then 2 2 s s1 s2 first.runs second.runs) third.runs;
      pc = third.pc;
      registers = third.registers;
      memory = third.memory ∙ ap (λ ps. with_value ps (x s2 sp - f.size + return_offset) 8 (x s2 ra)) same_memory ∙ ap (λ a. with_value s.memory (a - f.size + return_offset) 8 (x s2 ra)) same_stack
          ∙ ap (with_value s.memory (stack_end - f.size + return_offset) 8) back_there;
      stack = third.stack ∙ ap (λ a. a - f.size) same_stack;
      saved = same_saved s2 third.after (λ r k. third.kept r (λ e. absurd (omega (arith, k.above, e))) (λ e. absurd (omega (arith, k.above, e))))
          ∙ same_saved s1 s2 (λ r k. second.kept r (λ e. absurd (omega (arith, k.above, e)))) ∙ same_saved s s1 (λ r k. first.kept r (λ e. absurd (omega (arith, k.above, e))));
    }

first_begins : (u : UnitCode) (base : ℕ) (tables : ℕ → ℕ) (s : State) (input : List ℕ) (replies : List (List Reply)) → StandsBefore u base tables s →
    let p = plan_before u base tables in let low = stack_end - (shape p u.main).size in
    Begins p 0 u.main (first_world u.globals input replies) (with_value s.memory (low + return_offset) 8 (start_back p)) stack_end low (start_back p) []
first_begins u base tables s input replies h =
    let p : Plan = plan_before u base tables in
    let f : Shape = shape p u.main in
    let low : ℕ = stack_end - f.size in
    let back : ℕ = start_back p in
    let frame_is : FrameIs (function p u.main) = h.unit.frames u.main h.main in
    let new : List Part = with_value s.memory (low + return_offset) 8 back in
    let may : MayWrite s.memory (low + return_offset) 8 = h.may (low + return_offset) 8 (omega (arith, frame_is.small)) (omega (arith, frame_is.small, frame_is.size)) in
    let whole : back % 2 ^ 64 ≡ back = omega (arith, h.low) in
    record {
      below = beneath_first u base tables s input replies (low + return_offset) back h (omega (arith, frame_is.small)) (omega (arith, frame_is.small, frame_is.size));
      known = h.main;
      frame = omega (arith, frame_is.small);
      room = first_above f.leaf f.size frame_is.small;
      passed = tt;
      may = λ j word b got found. absurd (cc got);
      few = omega arith;
      taken = sym h.takes_nothing;
      fits = tt;
      saved = record {
        aligned = omega (arith, frame_is.size, frame_is.small);
        below = omega arith;
        holds = subst (Holds new (low + return_offset) 8) whole (eight_stored s.memory (low + return_offset) back may);
      };
    }

-- ---- a new runtime

none_live : (n slot : ℕ) → header_of (replicate n None) slot ≡ None
none_live zero slot = refl
none_live (suc n) zero = refl
none_live (suc n) (suc slot) = none_live n slot

none_counted : (n : ℕ) → live_count (replicate n None) ≡ 0
none_counted zero = refl
none_counted (suc n) = none_counted n

as_many : {A : Type 0} (a : A) (n : ℕ) → length (replicate n a) ≡ n
as_many a zero = refl
as_many a (suc n) = ap suc (as_many a n)

no_headers : (slot : ℕ) → header_of all_vacant slot ≡ None
unfolding all_vacant
no_headers slot = none_live slots slot

no_count : live_count all_vacant ≡ 0
unfolding all_vacant
no_count = none_counted slots

all_slots : length all_vacant ≡ slots
unfolding all_vacant
all_slots = let none : Option Header = None in as_many none slots

none_twice : IsDistinct nat_eq []
unfolding IsDistinct
none_twice = tt

new_exceptions : (t : Addresses) (s : State) (globals : List ℤ) (input : List ℕ) (replies : List (List Reply)) → ExceptionsMatch t [] (exceptions_in (first_world globals input replies)) (kept_by (abi.begins s input replies))
new_exceptions t s globals input replies = record {
  sound = record { slots = all_slots; live = refl; once = none_twice; counted = refl };
  headers = λ slot h there. absurd (let none : Some h ≡ None = sym there ∙ no_headers slot in cc none);
  live = λ e x there. absurd (cc there);
  count = no_count;
  once = tt;
  numbers = λ e x there. absurd (cc there);
  caught = tt;
  uncaught = refl;
  terminate_handler = refl;
  unexpected_handler = refl;
  distinct = tt;
  left = λ e there. absurd (cc there);
}

pub main_begins : MainBegins
main_begins image u base tables s input replies h =
    let p : Plan = plan_before u base tables in
    let m : ℕ = u.main in
    let low : ℕ = stack_end - (shape p m).size in
    let w : abi.World = abi.begins s input replies in
    let entered = main_entered u base tables s h in
    let v : World = first_world u.globals input replies in
    let new : List Part = with_value s.memory (low + return_offset) 8 (start_back p) in
    let s1 : State = entered.after in
    let begins : Begins p 0 m v s1.memory stack_end (x s1 sp) (start_back p) []
    = subst (λ a. Begins p 0 m v s1.memory stack_end a (start_back p) []) (sym entered.stack) (subst (λ ps. Begins p 0 m v ps stack_end low (start_back p) []) (sym entered.memory) (first_begins u base tables s input replies h)) in
    let begun = begins_saved p 0 m v stack_end (start_back p) [] 1 [] s1 begins entered.registers entered.pc (subst AreSmall (sym entered.saved) h.saved) (λ ints. (refl, refl)) tt in
    let q : Plan = opened p m 0 (x s1 sp) in
    let to : LinearState = first_state u input replies in
    let words : ℕ = length (saves (shape p m) (function p m).parameters saved_registers (shape p m).kept) in
    let there : Arrives q m to (start_back p) begun.after = record { runs = refl; registers = begun.registers; pc = begun.pc; memory = begun.memory; kept = begun.kept } in
    let runtime : RuntimeMatches q [] to.world w = record {
      input = refl;
      replies = refl;
      last_number = refl;
      terminating = refl;
      exceptions = new_exceptions (addresses_of q) s u.globals input replies;
      plan = record { live = λ e. refl; size = λ e live. absurd (cc live); ints = λ e live. absurd (cc live) };
    } in
    let most : ℕ = 4 + entry_turns p m in
    let first : ℕ = 4 + entry_steps (shape p m).leaf in
    let came = matched image q m to w (start_back p) most (first + words) begun.after (omega arith) (λ some. omega arith) (steps_then first words s s1 begun.after entered.runs begun.runs) there runtime in
    subst (λ a. Reaches image most w [] (λ b. Matches (opened p m 0 a) to b)) entered.stack (record { turns = came.turns; few = came.few; after = came.after; runs = came.runs; holds = came.holds })
