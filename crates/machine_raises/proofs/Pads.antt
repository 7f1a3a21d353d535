-- The words of a pad.
use Rattle.std.proofs.Common.{◌≡◌, ◌∙◌, refl, sym, ap, subst, arith, ℕ, ◌+◌, ◌%◌, ◌^◌, ◌<◌, ◌≤◌, List, [], Some}
use Rattle.rv64_isa.specs.Arithmetic.{add}
use Rattle.rv64_isa.specs.State.{State, Part, with_value}
use Rattle.rv64_isa.specs.Step.{x, imm12}
use Rattle.region_forms.specs.World.{Address, Word, nothing, number_word, address_word, flying, unwinding, address_in, object_address, World, with_slot}
use Rattle.linear_forms.specs.Linear.{pad}
use Rattle.linear_forms.specs.Activation.{Activation, State as LinearState}
use Rattle.machine_forms.specs.PlaceCode.{within}
use Rattle.machine_forms.specs.Registers.{a0, sp}
use Rattle.machine_forms.specs.Routine.{op_word}
use Rattle.machine_forms.specs.Shape.{Shape, slot_offset}
use Rattle.machine_pieces.specs.Memory.{Holds}
use Rattle.machine_pieces.specs.Numbers.{extended}
use Rattle.machine_pieces.specs.Standing.{Ground, address}
use Rattle.machine_pieces.specs.Frames.{AddressAt, IntAt, WordHolds}
use Rattle.machine_pieces.proofs.Numbers.{int_stored}
use Rattle.machine_pieces.proofs.Places.{near_address}
use Rattle.machine_stubs.specs.Stretches.{Room}
use Rattle.machine_stubs.proofs.Walking.{Path, walk_begins, walk_store, slot_there}
use Rattle.machine_stubs.proofs.Reaching.{low_half}
use Rattle.machine_simulation.specs.Plan.{Plan, function, shape, routine, first_word, setting}
use Rattle.machine_simulation.specs.Calls.{HeldBy}
use Rattle.machine_simulation.specs.Matches.{RuntimeMatches, MemoryMatches, Matches}
use Rattle.machine_simulation.proofs.Words.{operation_at}
use Rattle.machine_simulation.proofs.Slots.{slot_place_of, plain_room}
use Rattle.machine_simulation.proofs.Holding.{slot_matches}
use Rattle.machine_simulation.proofs.Matching.{runtime_stays, Arrives, kept_at}
use Rattle.machine_simulation.proofs.Floors.{call_floor}
use Rattle.machine_simulation.proofs.KeptStores.{slot_kept}
use Rattle.machine_pieces.specs.Keeping.{saved_of}
use Rattle.machine_pieces.proofs.Keeping.{same_saved}
use Rattle.machine_pieces.specs.Executes.{Executes}
use Rattle.machine_pieces.specs.Turning.{SameRuntime}
use Rattle.machine_pieces.proofs.Turning.{executes_turns}
use Rattle.machine_simulation.specs.Operations.{Matched}
use Rattle.cxa_runtime.specs.World as abi
use Rattle.cxa_runtime.specs.Raising.{Image}
use Rattle.machine_raises.specs.Pads.{PlainSlot, PadGets, behind_pad, PadsRun}

-- ---- a slot in its frame
pub record SlotFits (p : Plan) (n s : ℕ) : Type 0 where
  pub even : slot_offset (shape p n) s % 8 ≡ 0
  pub inside : slot_offset (shape p n) s + 8 ≤ (shape p n).size
  pub near : slot_offset (shape p n) s < 2 ^ 11

module _ (p : Plan) (n : ℕ) (a : Activation) (fs : List Activation) (v : World) (memory : List Part) (stack back : ℕ) (h : MemoryMatches p n a.frame fs v memory stack back) where
  pub slot_fits : (s : ℕ) → PlainSlot p n s → SlotFits p n s
  slot_fits s there =
      let frame = h.unit.frames n h.top.known in
      let place = slot_place_of (function p n) s frame there.inside in
      let room = plain_room (function p n) s frame there.inside there.plain in
      let small = h.top.small in
      record { even = place.even; inside = omega (arith, place.high, room); near = omega (arith, place.high, room, small) }

  pub frame_room : Room stack (shape p n).size memory
  frame_room =
      let high = h.top.below in
      let low = call_floor p n a.frame v memory stack back h.top in
      record { aligned = omega (arith, h.top.saved.aligned); below = omega (arith, high); may = λ o k inside. h.may (stack + o) k (omega (arith, low)) (omega (arith, inside, high)) }

-- ---- what the slots hold
gets_word : (p : Plan) (n : ℕ) (v : World) (word : Word) (value at : ℕ) (memory : List Part) → PadGets p v word value → AddressAt memory at value → WordHolds (setting p n) memory at word
gets_word p n v nothing value at memory gets held = tt
gets_word p n v (number_word z) value at memory gets held = absurd gets
gets_word p n v (address_word b) value at memory gets held = absurd gets
gets_word p n v (flying e d) value at memory gets held = subst (AddressAt memory at) (omega (arith, gets.1)) held
gets_word p n v (unwinding k) value at memory gets held = subst (AddressAt memory at) gets held

gets_held : (p : Plan) (v : World) (c : ℕ) (word : Word) (value : ℕ) → PadGets p v word value → (b : Address) → address_in word ≡ Some b → HeldBy p v c b.base
gets_held p v c nothing value gets b is = absurd (cc is)
gets_held p v c (number_word z) value gets b is = absurd gets
gets_held p v c (address_word d) value gets b is = absurd gets
gets_held p v c (flying e d) value gets b is =
    let same : object_address e ≡ b = cc is in
    subst (λ (y : Address). HeldBy p v c y.base) same gets.0
gets_held p v c (unwinding k) value gets b is = absurd (cc is)

gets_small : (p : Plan) (v : World) (word : Word) (value : ℕ) → PadGets p v word value → value < 2 ^ 64
gets_small p v nothing value gets = absurd gets
gets_small p v (number_word z) value gets = absurd gets
gets_small p v (address_word b) value gets = absurd gets
gets_small p v (flying e d) value gets = gets.2
gets_small p v (unwinding k) value gets = omega (arith, gets)

-- ---- turns to where the next state stands
stays_matched : (image : Image) (p : Plan) (n : ℕ) (next : LinearState) (w : abi.World) (back words k : ℕ) (t : State) → k ≤ words → (0 < words → 0 < k) → Executes k w.hart t → Arrives p n next back t → RuntimeMatches p next.frames next.world w →
    Matched image words w [] (λ v. Matches p next v × SameRuntime w v)
stays_matched image p n next w back words k t few some runs there runtime =
    let ran = executes_turns image k w w.hart t refl runs in
    let at : Arrives p n next back ran.after.hart = subst (Arrives p n next back) (sym ran.hart) there in
    record {
      turns = k;
      few = few;
      some = some;
      after = ran.after;
      runs = ran.turns;
      holds = (
        record {
          number = n;
          back = back;
          runs = at.runs;
          registers = at.registers;
          pc = at.pc;
          memory = at.memory;
          kept = at.kept;
          runtime = runtime_stays p next.frames next.world w ran.after ran.runtime runtime;
        },
        ran.runtime,
      );
    }

-- ---- both words
pub pads_run : PadsRun
pads_run image p n place object selector back a fs v word filter w h =
    let f : Shape = shape p n in
    let g : Ground = (setting p n).ground in
    let s : State = w.hart in
    let stack : ℕ = x s sp in
    let here : ℕ = first_word p n + op_word (routine p n) place in
    let own = operation_at p s.memory n place (pad object selector) h.memory.unit h.memory.top.known h.there in
    let one = slot_fits p n a fs v s.memory stack back h.memory object h.object_slot in
    let two = slot_fits p n a fs v s.memory stack back h.memory selector h.selector_slot in
    let below = h.memory.top.below in
    let path : Path = record { ground = g; first = s; low = stack; size = f.size; room = frame_room p n a fs v s.memory stack back h.memory } in
    let value : ℕ = x s a0 in
    let number : ℕ = extended filter in
    let begun = walk_begins path here h.pc h.registers in
    let target_one : add stack (imm12 (within f object 0)) ≡ stack + slot_offset f object = near_address stack (slot_offset f object + 0) (omega (arith, one.near)) (omega (arith, below, one.inside)) ∙ omega arith in
    let target_two : add stack (imm12 (within f selector 0)) ≡ stack + slot_offset f selector = near_address stack (slot_offset f selector + 0) (omega (arith, two.near)) (omega (arith, below, two.inside)) ∙ omega arith in
    let first = walk_store path 0 here 2 10 (within f object 0) (slot_offset f object) value (λ r. x s r) s.memory begun own.code.0 target_one refl one.even one.inside in
    let mid : List Part = with_value s.memory (stack + slot_offset f object) 8 value in
    let second = walk_store path 1 (here + 1) 2 11 (within f selector 0) (slot_offset f selector) number (λ r. x s r) mid first own.code.1.0 target_two h.filter_is two.even two.inside in
    let new : List Part = with_value mid (stack + slot_offset f selector) 8 number in
    let small = gets_small p v word value h.gets in
    let word_there : WordHolds (setting p n) mid (stack + slot_offset f object) word
    = gets_word p n v word value (stack + slot_offset f object) mid h.gets (slot_there path 0 (address g here) (slot_offset f object) value (λ r. x s r) s.memory begun one.even one.inside small) in
    let with_object = slot_matches p n a.frame fs v s.memory stack back object 8 value word h.memory h.object_slot.inside h.object_slot.plain (omega arith) word_there (gets_held p v a.frame.call word value h.gets) in
    let int_there : IntAt new (stack + slot_offset f selector) filter = record {
      int = h.int;
      aligned = omega (arith, two.even, h.memory.top.saved.aligned);
      below = omega (arith, below, two.inside);
      holds = subst (Holds new (stack + slot_offset f selector) 4) (int_stored filter h.int) (low_half path 1 (address g (here + 1)) (slot_offset f selector) number (λ r. x s r) mid first two.inside);
    } in
    let with_both = slot_matches p n (with_slot object word a.frame) fs v mid stack back selector 8 number (number_word filter) with_object h.selector_slot.inside h.selector_slot.plain (omega arith) int_there
    (λ b none. absurd (cc none)) in
    let kept_one = slot_kept p n a.frame fs v s.memory stack back object 8 value word (saved_of s) h.memory h.object_slot.inside h.object_slot.plain (omega arith) h.kept in
    let kept_both = slot_kept p n (with_slot object word a.frame) fs v mid stack back selector 8 number (number_word filter) (saved_of s) with_object h.selector_slot.inside h.selector_slot.plain (omega arith) kept_one in
    let u : State = second.after in
    let to : LinearState = behind_pad place object selector a fs v word filter in
    let same_stack : x u sp ≡ stack = second.hart.regs 2 in
    stays_matched image p n to w back 2 2 u (omega arith) (λ some. omega arith) second.runs
    (record {
      runs = h.runs;
      registers = second.hart.all;
      pc = second.hart.pc ∙ ap (address g) (omega (arith, own.next));
      memory = subst (λ ps. MemoryMatches p n to.top.frame fs v ps (x u sp) back) (sym second.hart.memory) (subst (λ k. MemoryMatches p n to.top.frame fs v new k back) (sym same_stack) with_both);
      kept = kept_at p n to stack new (saved_of s) u second.hart.memory same_stack (same_saved s u (λ r out. second.hart.regs r)) kept_both;
    }) h.runtime
