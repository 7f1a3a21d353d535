-- What a caller passes stands below its frame, where the first slots of the called function will be.
use Rattle.std.proofs.Common.{◌≡◌, ◌∙◌, refl, sym, ap, subst, arith, ℕ, zero, suc, ◌+◌, ◌-◌, ◌*◌, ◌/◌, ◌%◌, ◌^◌, ◌<◌, ◌≤◌, ℤ, negsuc, List, [], ◌∷◌, ◌++◌, length, length-append, append_assoc, Option, Some, None}
use Rattle.std.specs.Prelude.{slice_get}
use Rattle.std.proofs.lemmas.Bool.{eq-eqb}
use Rattle.std.proofs.lemmas.Bool.Decides.{nat_tests}
use Rattle.rv64_isa.specs.declared.step.Step.TheVariants.{Done}
use Rattle.rv64_isa.specs.declared.instr.Instr.TheVariants.{Sd}
use Rattle.rv64_isa.specs.Arithmetic.{add}
use Rattle.rv64_isa.specs.State.{State, Part, state, with_value}
use Rattle.rv64_isa.specs.Step.{step_of, next, stores, x, imm12, done}
use Rattle.region_forms.specs.Form.{Argument, int_argument, address_argument, handler_argument, Arguments, no_arguments, argument_then}
use Rattle.region_forms.specs.World.{Base, Address, address_in, Word, number_word, address_word, Frame, World}
use Rattle.region_forms.specs.Evaluation.{with_some, value_in, address_of, word_in, words_in}
use Rattle.linear_forms.specs.Activation.{Activation}
use Rattle.machine_forms.specs.Bounds.{ArgumentFits, ArgumentsFit}
use Rattle.machine_forms.specs.Immediate.{immediate}
use Rattle.machine_forms.specs.Registers.{sp, register}
use Rattle.machine_forms.specs.Piece.{Piece}
use Rattle.machine_forms.specs.Shape.{Shape}
use Rattle.machine_forms.specs.ValueCode.{read_in, brought, operand}
use Rattle.machine_forms.specs.CallCode.{argument_code, passed, argument_passed, arguments_passed}
use Rattle.machine_pieces.specs.Memory.{Holds, MayWrite, Written}
use Rattle.machine_pieces.specs.Executes.{Executes}
use Rattle.machine_pieces.specs.Numbers.{IsInt, extended}
use Rattle.machine_pieces.specs.Standing.{Ground, address, PieceAt, PiecesAt}
use Rattle.machine_pieces.specs.Going.{Goes}
use Rattle.machine_pieces.specs.Keeping.{saved_of, KeptHolds}
use Rattle.machine_pieces.specs.Frames.{Setting, byte_of, WordHolds}
use Rattle.machine_pieces.specs.Laws.{AddressesAreComputed}
use Rattle.machine_pieces.proofs.Numbers.{int_stored}
use Rattle.machine_pieces.proofs.Storing.{stores_done, four_stored, eight_stored, holds_apart, value_written, written_none, written_more}
use Rattle.machine_pieces.proofs.Fetching.{piece_done, pieces_split, pieces_still}
use Rattle.machine_pieces.proofs.Stepping.{no_steps, one_step, steps_then}
use Rattle.machine_pieces.proofs.Going.{next_is, kept_low}
use Rattle.machine_pieces.proofs.Testing.{values_are_computed}
use Rattle.machine_simulation.specs.Plan.{Plan, shape, slot_kinds, setting}
use Rattle.machine_simulation.specs.Calls.{HeldBy}
use Rattle.machine_simulation.specs.KeptCalls.{kept_of}
use Rattle.machine_simulation.specs.Matches.{MemoryMatches}
use Rattle.machine_simulation.specs.Entering.{ArgumentStands, ArgumentsStand}
use Rattle.machine_simulation.proofs.Held.{address_held, address_below}
use Rattle.machine_simulation.proofs.KeptSlots.{ready_of}
use Rattle.machine_simulation.proofs.Matching.{values_saved}
use Rattle.machine_simulation.proofs.Freeing.{word_kept, free_matches}

-- ---- a word in eight bytes

-- the bits of a word that is passed
abbrev pub word_bits : Setting → Word → ℕ
word_bits t (number_word z) = extended z
word_bits t (address_word b) = byte_of t b
word_bits t word = 0

in_halves : (memory : List Part) (a v : ℕ) → with_value memory a 8 v ≡ with_value (with_value memory a 4 v) (a + 1 + 1 + 1 + 1) 4 (v / 2 ^ 8 / 2 ^ 8 / 2 ^ 8 / 2 ^ 8)
unfolding with_value
in_halves memory a v = refl

-- the lower four of eight bytes that are stored
pub four_of_eight : (memory : List Part) (a v : ℕ) → MayWrite memory a 4 → Holds (with_value memory a 8 v) a 4 (v % 2 ^ 32)
four_of_eight memory a v may =
    subst (λ ps. Holds ps a 4 (v % 2 ^ 32)) (sym (in_halves memory a v))
    (holds_apart (with_value memory a 4 v) (a + 1 + 1 + 1 + 1) 4 (v / 2 ^ 8 / 2 ^ 8 / 2 ^ 8 / 2 ^ 8) a 4 (v % 2 ^ 32) (λ i j hi hj e. omega (arith, hi, hj, e)) (four_stored memory a v may))

-- a word that has its bits in eight bytes
pub record IsPassed (t : Setting) (word : Word) : Type 0 where
  pub holds : (memory : List Part) (a : ℕ) → a % 8 ≡ 0 → a < 2 ^ 64 → MayWrite memory a 4 → MayWrite memory a 8 → WordHolds t (with_value memory a 8 (word_bits t word)) a word

pub number_passed : (t : Setting) (z : ℤ) → IsInt z → IsPassed t (number_word z)
number_passed t z int = record {
  holds = λ memory a even below may4 may8.
      record { int = int; aligned = omega (arith, even); below = below; holds = subst (Holds (with_value memory a 8 (extended z)) a 4) (int_stored z int) (four_of_eight memory a (extended z) may4) };
}

pub address_passed : (t : Setting) (b : Address) → byte_of t b < 2 ^ 64 → IsPassed t (address_word b)
address_passed t b small = record {
  holds = λ memory a even below may4 may8.
      let whole : byte_of t b % 2 ^ 64 ≡ byte_of t b = omega (arith, small) in
      record { aligned = even; below = below; holds = subst (Holds (with_value memory a 8 (byte_of t b)) a 8) whole (eight_stored memory a (byte_of t b) may8) };
}

-- ---- an argument in a register

-- the pieces of an argument, and the register in which it is then
abbrev pub argument_front : Shape → Argument → List Piece
argument_front f (int_argument v) = brought (operand f v) 0
argument_front f a = argument_code f 0 a

abbrev pub argument_register : Shape → Argument → ℕ
argument_register f (int_argument v) = read_in (operand f v) 0
argument_register f a = register 0

argument_parts : (f : Shape) (i : ℕ) (a : Argument) → argument_passed f i a ≡ argument_front f a ++ passed (argument_register f a) i ∷ []
argument_parts f i (int_argument v) = refl
argument_parts f i (address_argument q) = refl
argument_parts f i (handler_argument m) = refl

pub record ArgumentComes (p : Plan) (v : World) (c : ℕ) (t : Setting) (here words : ℕ) (s : State) (r : ℕ) (word : Word) : Type 0 where
  pub goes : Goes t.ground here words 0 s
  pub is : x goes.after r ≡ word_bits t word
  pub passes : IsPassed t word
  pub held : (b : Address) → address_in word ≡ Some b → HeldBy p v c b.base

argument_comes : AddressesAreComputed → (p : Plan) (n : ℕ) (frame : Frame) (fs : List Activation) (v : World) (back here : ℕ) (s : State) (a : Argument) (word : Word) →
    MemoryMatches p n frame fs v s.memory (x s sp) back → KeptHolds (kept_of p n) frame v (saved_of s) → length s.regs ≡ 32 → s.pc ≡ address (setting p n).ground here →
    PiecesAt s.memory (setting p n).ground here (argument_front (shape p n) a) → length (argument_front (shape p n) a) < 2 ^ 18 → ArgumentStands p n frame v a → ArgumentFits 0 a → word_in (slot_kinds p n) frame v a ≡ Some word →
    ArgumentComes p v frame.call (setting p n) here (length (argument_front (shape p n) a)) s (argument_register (shape p n) a) word
argument_comes addresses p n frame fs v back here s (int_argument e) word h keeps regs at code short stands few is = by (value_in (slot_kinds p n) frame v e) refl is
  where
    by : (o : Option ℤ) → value_in (slot_kinds p n) frame v e ≡ o → with_some o (λ z. Some (number_word z)) ≡ Some word →
        ArgumentComes p v frame.call (setting p n) here (length (argument_front (shape p n) (int_argument e))) s (argument_register (shape p n) (int_argument e)) word
    by None none got = absurd (cc got)
    by (Some z) some got =
        let same : number_word z ≡ word = cc got in
        let ready = ready_of p n frame v s regs h.top.holds keeps in
        let value = values_are_computed.reads (setting p n) (shape p n) (slot_kinds p n) frame v e z 0 here s stands some few short code at ready in
        subst (ArgumentComes p v frame.call (setting p n) here (length (argument_front (shape p n) (int_argument e))) s (argument_register (shape p n) (int_argument e))) same
        (record { goes = value.goes; is = value.is; passes = number_passed (setting p n) z value.int; held = λ b none. absurd (cc none) })
argument_comes addresses p n frame fs v back here s (address_argument q) word h keeps regs at code short stands few is = by (address_of (slot_kinds p n) frame q) refl is
  where
    by : (o : Option Address) → address_of (slot_kinds p n) frame q ≡ o → with_some o (λ b. Some (address_word b)) ≡ Some word →
        ArgumentComes p v frame.call (setting p n) here (length (argument_front (shape p n) (address_argument q))) s (argument_register (shape p n) (address_argument q)) word
    by None none got = absurd (cc got)
    by (Some b) some got =
        let same : address_word b ≡ word = cc got in
        let ready = ready_of p n frame v s regs h.top.holds keeps in
        let may_hold : HeldBy p v frame.call b.base = address_held p n frame v s.memory (x s sp) back h.top q b stands.0 stands.1 some in
        let small : byte_of (setting p n) b < 2 ^ 64 = address_below p n frame fs v s.memory (x s sp) back b h may_hold (stands.2 b some) in
        let value = addresses.place (setting p n) (shape p n) (slot_kinds p n) frame v 0 here s q b ready (omega arith) stands.0 code at small some in
        subst (ArgumentComes p v frame.call (setting p n) here (length (argument_front (shape p n) (address_argument q))) s (argument_register (shape p n) (address_argument q))) same
        (record { goes = value.goes; is = value.is; passes = address_passed (setting p n) b small; held = λ d is. let eq : b ≡ d = cc is in subst (λ (k : Address). HeldBy p v frame.call k.base) eq may_hold })
argument_comes addresses p n frame fs v back here s (handler_argument m) word h keeps regs at code short stands few is = absurd stands

-- ---- one word is passed

-- words stand below the caller's frame, the i-th first
abbrev pub PassedAt : Setting → List Part → (stack i : ℕ) → List Word → Type 0
PassedAt t memory stack i [] = Unit {0}
PassedAt t memory stack i (word ∷ given) = WordHolds t memory (stack - 8 * (i + 1)) word × PassedAt t memory stack (i + 1) given

-- a run that passes words, from the i-th on, and keeps what lies above them
pub record Passes (p : Plan) (n : ℕ) (frame : Frame) (fs : List Activation) (v : World) (back here words i : ℕ) (given : List Word) (s : State) : Type 0 where
  pub steps : ℕ
  pub most : steps ≤ words
  pub after : State
  pub runs : Executes steps s after
  pub pc : after.pc ≡ address (setting p n).ground (here + words)
  pub registers : length after.regs ≡ 32
  pub stack : x after sp ≡ x s sp
  pub saved : saved_of after ≡ saved_of s
  pub written : Written s.memory after.memory
  pub memory : MemoryMatches p n frame fs v after.memory (x s sp) back
  pub passed : PassedAt (setting p n) after.memory (x s sp) i given
  pub above : (a k z : ℕ) → x s sp ≤ a + 8 * i → Holds s.memory a k z → Holds after.memory a k z
  pub held : (j : ℕ) (word : Word) (b : Address) → slice_get given j ≡ Some word → address_in word ≡ Some b → HeldBy p v frame.call b.base

sd_done : (base value imm : ℕ) (s : State) → done (Sd base value imm) s ≡ stores s 8 (add (x s base) (imm12 imm)) (x s value)
unfolding done
sd_done base value imm s = refl

below_address : (a i : ℕ) → 8 * i + 8 < 2 ^ 11 → 8 * i + 8 ≤ a → a < 2 ^ 64 → add a (imm12 (immediate (negsuc (8 * i + 7)))) ≡ a - 8 * (i + 1)
below_address a i small le below = grind (arith, nat_tests, small, le, below)

-- the one word of a list
one_word : (P : Base → Type 0) (word other : Word) (j : ℕ) (b : Address) → ((d : Address) → address_in word ≡ Some d → P d.base) → slice_get (word ∷ []) j ≡ Some other → address_in other ≡ Some b → P b.base
one_word P word other zero b live e is = let same : word ≡ other = cc e in live b (ap address_in same ∙ is)
one_word P word other (suc j) b live e is = absurd (cc e)

-- a value in a register is passed
pub word_passed : (p : Plan) (n : ℕ) (frame : Frame) (fs : List Activation) (v : World) (back here words i : ℕ) (word : Word) (r : ℕ) (s : State) (goes : Goes (setting p n).ground here words 0 s) →
    x goes.after r ≡ word_bits (setting p n) word → IsPassed (setting p n) word → ((b : Address) → address_in word ≡ Some b → HeldBy p v frame.call b.base) → MemoryMatches p n frame fs v s.memory (x s sp) back → 8 * i + 8 < 2 ^ 11 → 0x7000_0000 + 8 * (i + 1) ≤ x s sp →
    PieceAt s.memory (setting p n).ground (here + words) (passed r i) → Passes p n frame fs v back here (words + 1) i (word ∷ []) s
word_passed p n frame fs v back here words i word r s goes is is_passed may_hold h small room code =
    let g : Ground = (setting p n).ground in
    let m : State = goes.after in
    let a : ℕ = x s sp - 8 * (i + 1) in
    let bits : ℕ = word_bits (setting p n) word in
    let new : List Part = with_value s.memory a 8 bits in
    let y : Piece = passed r i in
    let code_m : PieceAt m.memory g (here + words) y = subst (λ ps. PieceAt ps g (here + words) y) (sym goes.memory) code in
    let stack : x m sp ≡ x s sp = goes.kept sp (kept_low 0 sp (omega arith)) in
    let target : add (x m sp) (imm12 (immediate (negsuc (8 * i + 7)))) ≡ a
    = ap (λ b. add b (imm12 (immediate (negsuc (8 * i + 7))))) stack ∙ below_address (x s sp) i small (omega (arith, room)) (omega (arith, h.top.below)) in
    let even : a % 8 ≡ 0 = omega (arith, h.top.saved.aligned, room) in
    let low : 0x7000_0000 ≤ a = omega (arith, room) in
    let below : a < 2 ^ 64 = omega (arith, h.top.below) in
    let may8 : MayWrite s.memory a 8 = h.may a 8 low (omega (arith, h.top.below, room)) in
    let may4 : MayWrite s.memory a 4 = h.may a 4 low (omega (arith, h.top.below, room)) in
    let may_m : MayWrite m.memory a 8 = subst (λ ps. MayWrite ps a 8) (sym goes.memory) may8 in
    let u : State = state (next m) m.regs (with_value m.memory a 8 bits) in
    let step : step_of m ≡ (Done, u)
    = piece_done g (here + words) y m code_m goes.pc ∙ sd_done sp r (immediate (negsuc (8 * i + 7))) m ∙ ap (λ b. stores m 8 b (x m r)) target ∙ ap (stores m 8 a) is
    ∙ stores_done m 8 a bits (eq-eqb (a % 8) 0 even) may_m in
    let memory : u.memory ≡ new = ap (λ ps. with_value ps a 8 bits) goes.memory in
    let word_there : WordHolds (setting p n) new a word = is_passed.holds s.memory a even below may4 may8 in
    record {
      steps = goes.steps + 1;
      most = omega (arith, goes.most);
      after = u;
      runs = steps_then goes.steps 1 s m u goes.runs (one_step m u step);
      pc = next_is g (here + words) y m code_m goes.pc ∙ omega arith;
      registers = goes.registers;
      stack = stack;
      saved = values_saved s m goes.kept;
      written = subst (Written s.memory) (sym memory) (value_written s.memory a 8 bits may8);
      memory = subst (λ ps. MemoryMatches p n frame fs v ps (x s sp) back) (sym memory)
          (free_matches p n frame fs v s.memory (x s sp) back a 8 bits h (record { low = low; high = omega (arith, room) }));
      passed = (subst (λ ps. WordHolds (setting p n) ps a word) (sym memory) word_there, tt);
      above = λ b k z high holds. subst (λ ps. Holds ps b k z) (sym memory)
          (holds_apart s.memory a 8 bits b k z (λ i1 j1 hi hj e. omega (arith, high, hi, e, room)) holds);
      held = λ j other b e is. one_word (λ d. HeldBy p v frame.call d) word other j b may_hold e is;
    }

-- ---- words one after the other

-- one run, then another that passes what comes behind
pub passes_then : (p : Plan) (n : ℕ) (frame : Frame) (fs : List Activation) (v : World) (back here m k i : ℕ) (word : Word) (given : List Word) (s : State) (first : Passes p n frame fs v back here m i (word ∷ []) s) →
    8 * (i + 1) ≤ x s sp → Passes p n frame fs v back (here + m) k (i + 1) given first.after → Passes p n frame fs v back here (m + k) i (word ∷ given) s
passes_then p n frame fs v back here m k i word given s first room second =
    let u : State = second.after in
    record {
      steps = first.steps + second.steps;
      most = omega (arith, first.most, second.most);
      after = u;
      runs = steps_then first.steps second.steps s first.after u first.runs second.runs;
      pc = second.pc ∙ omega arith;
      registers = second.registers;
      stack = second.stack ∙ first.stack;
      saved = second.saved ∙ first.saved;
      written = written_more s.memory first.after.memory u.memory first.written second.written;
      memory = subst (λ a. MemoryMatches p n frame fs v u.memory a back) first.stack second.memory;
      passed = (
        word_kept (setting p n) first.after.memory u.memory (x s sp - 8 * (i + 1)) word (λ c z holds. second.above (x s sp - 8 * (i + 1)) c z (omega (arith, first.stack, room)) holds) first.passed.0,
        subst (λ a. PassedAt (setting p n) u.memory a (i + 1) given) first.stack second.passed,
      );
      above = λ a c z high holds. second.above a c z (omega (arith, first.stack, high)) (first.above a c z high holds);
      held = λ j other b e is. first_or_later j other b e is;
    }
  where
    first_or_later : (j : ℕ) (other : Word) (b : Address) → slice_get (word ∷ given) j ≡ Some other → address_in other ≡ Some b → HeldBy p v frame.call b.base
    first_or_later zero other b e is = first.held 0 other b e is
    first_or_later (suc j) other b e is = second.held j other b e is

-- what keeps all that lies above the last word keeps the words
pub passed_still : (t : Setting) (old new : List Part) (stack i : ℕ) (given : List Word) → ((a k z : ℕ) → stack ≤ a + 8 * (i + length given) → Holds old a k z → Holds new a k z) → 8 * (i + length given) ≤ stack →
    PassedAt t old stack i given → PassedAt t new stack i given
passed_still t old new stack i [] keep room h = tt
passed_still t old new stack i (word ∷ given) keep room h = (
  word_kept t old new (stack - 8 * (i + 1)) word (λ k z holds. keep (stack - 8 * (i + 1)) k z (omega (arith, room)) holds) h.0,
  passed_still t old new stack (i + 1) given (λ a k z high holds. keep a k z (omega (arith, high)) holds) (omega (arith, room)) h.1,
)

pub arguments_pass : AddressesAreComputed → (p : Plan) (n : ℕ) (frame : Frame) (fs : List Activation) (v : World) (back here i : ℕ) (args : Arguments) (given : List Word) (s : State) →
    MemoryMatches p n frame fs v s.memory (x s sp) back → KeptHolds (kept_of p n) frame v (saved_of s) → length s.regs ≡ 32 → s.pc ≡ address (setting p n).ground here →
    PiecesAt s.memory (setting p n).ground here (arguments_passed (shape p n) i args) →
    length (arguments_passed (shape p n) i args) < 2 ^ 18 → ArgumentsStand p n frame v args → ArgumentsFit 0 0 args → words_in (slot_kinds p n) frame v args ≡ Some given →
    8 * (i + length given) < 2 ^ 11 → 0x7000_0000 + 8 * (i + length given) ≤ x s sp → Passes p n frame fs v back here (length (arguments_passed (shape p n) i args)) i given s
arguments_pass addresses p n frame fs v back here i no_arguments given s h keeps regs at code short stands few is small room =
    let none : [] ≡ given = cc is in
    subst (λ ws. Passes p n frame fs v back here 0 i ws s) none (record {
      steps = 0;
      most = omega arith;
      after = s;
      runs = no_steps s;
      pc = at ∙ omega arith;
      registers = regs;
      stack = refl;
      saved = refl;
      written = written_none s.memory;
      memory = h;
      passed = tt;
      above = λ a k z high holds. holds;
      held = λ j word b e is. absurd (cc e);
    })
arguments_pass addresses p n frame fs v back here i (argument_then a args) given s h keeps regs at code short stands few is small room =
    by (word_in (slot_kinds p n) frame v a) (words_in (slot_kinds p n) frame v args) refl refl is
    (λ others m first keeps_m next_here at_m regs_m code_m short_m few_m room_m. arguments_pass addresses p n frame fs v back next_here (i + 1) args others m first keeps_m regs_m at_m code_m short_m stands.1 few.1 few_m.0 few_m.1 room_m)
  where
    Rest : Type 0
    Rest = (others : List Word) (m : State) → MemoryMatches p n frame fs v m.memory (x m sp) back → KeptHolds (kept_of p n) frame v (saved_of m) → (next_here : ℕ) → m.pc ≡ address (setting p n).ground next_here → length m.regs ≡ 32 →
        PiecesAt m.memory (setting p n).ground next_here (arguments_passed (shape p n) (i + 1) args) → length (arguments_passed (shape p n) (i + 1) args) < 2 ^ 18 →
        (words_in (slot_kinds p n) frame v args ≡ Some others) × (8 * (i + 1 + length others) < 2 ^ 11) → 0x7000_0000 + 8 * (i + 1 + length others) ≤ x m sp →
        Passes p n frame fs v back next_here (length (arguments_passed (shape p n) (i + 1) args)) (i + 1) others m

    by : (o : Option Word) (os : Option (List Word)) → word_in (slot_kinds p n) frame v a ≡ o → words_in (slot_kinds p n) frame v args ≡ os →
        with_some o (λ w. with_some os (λ ws. Some (w ∷ ws))) ≡ Some given → Rest → Passes p n frame fs v back here (length (arguments_passed (shape p n) i (argument_then a args))) i given s
    by None os e es got rest = absurd (cc got)
    by (Some word) None e es got rest = absurd (cc got)
    by (Some word) (Some others) e es got rest =
        let same : word ∷ others ≡ given = cc got in
        let count : length given ≡ length others + 1 = ap length (sym same) ∙ omega arith in
        let g : Ground = (setting p n).ground in
        let front : List Piece = argument_front (shape p n) a in
        let r : ℕ = argument_register (shape p n) a in
        let rear : List Piece = arguments_passed (shape p n) (i + 1) args in
        let whole : arguments_passed (shape p n) i (argument_then a args) ≡ front ++ passed r i ∷ rear
        = ap (λ ps. ps ++ rear) (argument_parts (shape p n) i a) ∙ append_assoc front (passed r i ∷ []) rear in
        let total : length (arguments_passed (shape p n) i (argument_then a args)) ≡ length (front ++ passed r i ∷ rear) = ap length whole in
        let sum : length (front ++ passed r i ∷ rear) ≡ length front + (length rear + 1) = length-append front (passed r i ∷ rear) ∙ omega arith in
        let parts = pieces_split s.memory g here front (passed r i ∷ rear) (subst (PiecesAt s.memory g here) whole code) in
        let value = argument_comes addresses p n frame fs v back here s a word h keeps regs at parts.0 (omega (arith, short, sum, total)) stands.0 few.0 e in
        let first = word_passed p n frame fs v back here (length front) i word r s value.goes value.is value.passes value.held h (omega (arith, small, count)) (omega (arith, room, count)) parts.1.0 in
        let m : State = first.after in
        let code_m : PiecesAt m.memory g (here + (length front + 1)) rear
        = subst (λ k. PiecesAt m.memory g k rear) (omega arith) (pieces_still s.memory m.memory g (here + length front + 1) rear first.written parts.1.1) in
        let memory_m : MemoryMatches p n frame fs v m.memory (x m sp) back = subst (λ b. MemoryMatches p n frame fs v m.memory b back) (sym first.stack) first.memory in
        let keeps_m : KeptHolds (kept_of p n) frame v (saved_of m) = subst (λ rs. KeptHolds (kept_of p n) frame v rs) (sym first.saved) keeps in
        let behind = rest others m memory_m keeps_m (here + (length front + 1)) first.pc first.registers code_m (omega (arith, short, sum, total)) (es, omega (arith, small, count)) (omega (arith, room, count, first.stack)) in
        let all = passes_then p n frame fs v back here (length front + 1) (length rear) i word others s first (omega (arith, room, count)) behind in
        subst (λ ws. Passes p n frame fs v back here (length (arguments_passed (shape p n) i (argument_then a args))) i ws s) same
        (subst (λ k. Passes p n frame fs v back here k i (word ∷ others) s) (omega (arith, sum, total)) all)
