-- A call's frame and the world in memory: where the bytes are that an address of linear code means, and what they hold.
use Rattle.std.specs.Prelude.{Bool, true, List, ⊤, ◌≡◌, ℕ, ◌+◌, ◌%◌, ◌^◌, ◌<◌, ℤ, pos, ◌+ℤ◌, length, Some, None}
use Rattle.rv64_isa.specs.State.{Part, State}
use Rattle.rv64_isa.specs.Step.{x}
use Rattle.meaning_forms.specs.Arithmetic.{decided}
use Rattle.region_forms.specs.Form.{SlotKind, int_slot, address_slot, object_slot, help_slot, Kinds, Root, in_slot, through, in_global, Value, number, load, unary, binary, call_value}
use Rattle.region_forms.specs.World.{Base, of_global, of_variable, Address, Word, nothing, number_word, address_word, flying, unwinding, Frame, World, object_address, address_in}
use Rattle.region_forms.specs.Evaluation.{Location, in_memory, in_frame, value_in}
use Rattle.machine_forms.specs.Registers.{sp}
use Rattle.machine_forms.specs.Piece.{Target, global_at}
use Rattle.machine_forms.specs.Shape.{Shape, slot_offset}
use Rattle.machine_forms.specs.KeptCode.{register_of}
use Rattle.machine_pieces.specs.Memory.{Holds}
use Rattle.machine_pieces.specs.Numbers.{IsInt, int_bits}
use Rattle.machine_pieces.specs.Standing.{Ground, address}
use Rattle.machine_pieces.specs.Keeping.{saved_of, KeptHolds}

-- Where code and data stand: the code, the first byte of what an address begins at, and how many globals there are. What an address
-- begins at is live while it has bytes of its own: a global always, a variable while its call is open, an exception until it is freed.
pub record Setting : Type 0 where
  pub ground : Ground
  pub at : Base → ℕ
  pub live : Base → Bool
  pub globals : ℕ

-- the byte that an address means
abbrev pub byte_of : Setting → Address → ℕ
byte_of t a = t.at a.base + a.offset

-- four bytes hold an int
pub record IntAt (memory : List Part) (a : ℕ) (z : ℤ) : Type 0 where
  pub int : IsInt z
  pub aligned : a % 4 ≡ 0
  pub below : a < 2 ^ 64
  pub holds : Holds memory a 4 (int_bits z)

-- eight bytes hold an address
pub record AddressAt (memory : List Part) (a b : ℕ) : Type 0 where
  pub aligned : a % 8 ≡ 0
  pub below : a < 2 ^ 64
  pub holds : Holds memory a 8 b

-- bytes hold what a slot holds that is no variable: of an exception that travels, the address of its object, and of a forced unwind 0
abbrev pub WordHolds : Setting → List Part → ℕ → Word → Type 0
WordHolds t memory a nothing = ⊤
WordHolds t memory a (number_word z) = IntAt memory a z
WordHolds t memory a (address_word b) = AddressAt memory a (byte_of t b)
WordHolds t memory a (flying e target) = AddressAt memory a (byte_of t (object_address e))
WordHolds t memory a (unwinding n) = AddressAt memory a 0

-- a target outside the function is at an address, so near to each word that two pieces reach it
pub record Reached (g : Ground) (target : Target) (a : ℕ) : Type 0 where
  pub is : pos a ≡ pos g.base +ℤ g.places.target target
  pub near : (here : ℕ) → here < g.words → (a < address g here + 2 ^ 30) × (address g here < a + 2 ^ 30)

-- a slot that is no variable is used as a whole
abbrev pub SlotFits : SlotKind → ℕ → Type 0
SlotFits int_slot n = ⊤
SlotFits address_slot n = n ≡ 0
SlotFits object_slot n = ⊤
SlotFits help_slot n = n ≡ 0

-- offsets into a frame and behind an address fit 12 bits, a kept variable is used as a whole, and a global is an int
abbrev pub RootFits : Setting → Shape → Kinds → Frame → Root → ℕ → Type 0
RootFits t f kinds frame (in_slot s) n =
    (s < length f.slots) × (slot_offset f s + n < 2 ^ 11) × SlotFits (kinds s) n × ((r : ℕ) → register_of f.kept s ≡ Some r → n ≡ 0)
RootFits t f kinds frame (through s) n = (s < length f.slots) × (slot_offset f s < 2 ^ 11) × (n < 2 ^ 11)
RootFits t f kinds frame (in_global g) n = (g < t.globals) × (n ≡ 0)

-- what the address in a slot begins at is live
abbrev pub RootIsLive : Setting → Frame → Root → Type 0
RootIsLive t frame (in_slot s) = ⊤
RootIsLive t frame (through s) = (b : Address) → address_in (frame.slots s) ≡ Some b → t.live b.base ≡ true
RootIsLive t frame (in_global g) = ⊤

-- The numbers of a value are ints, and its places fit and are of what is live. Of the right side of `&&` and `||` this is asked only where
-- the left one does not decide.
abbrev pub ValueStands : Setting → Shape → Kinds → Frame → World → Value → Type 0
ValueStands t f kinds frame w (number v) = IsInt v
ValueStands t f kinds frame w (load p) = RootFits t f kinds frame p.root p.offset × RootIsLive t frame p.root
ValueStands t f kinds frame w (unary o v) = ValueStands t f kinds frame w v
ValueStands t f kinds frame w (binary o a b) =
    ValueStands t f kinds frame w a × ((x : ℤ) → value_in kinds frame w a ≡ Some x → decided o x ≡ None → ValueStands t f kinds frame w b)
ValueStands t f kinds frame w (call_value c args) = ⊤

-- A call's frame from sp on, and the world's ints: what each slot holds; where its variables are, which are live but for those in registers; what
-- each live address in memory holds; and where the globals are.
pub record FrameHolds (t : Setting) (f : Shape) (kinds : Kinds) (frame : Frame) (w : World) (memory : List Part) (stack : ℕ) : Type 0 where
  pub room : stack + f.size < 2 ^ 64
  pub slots : (s : ℕ) → s < length f.slots → WordHolds t memory (stack + slot_offset f s) (frame.slots s)
  pub variables : (s : ℕ) → s < length f.slots → t.at (of_variable frame.call s) ≡ stack + slot_offset f s
  pub own : (s : ℕ) → s < length f.slots → register_of f.kept s ≡ None → t.live (of_variable frame.call s) ≡ true
  pub ints : (a : Address) (z : ℤ) → t.live a.base ≡ true → w.memory a ≡ Some z → IntAt memory (byte_of t a) z
  pub reached : (n : ℕ) → n < t.globals → Reached t.ground (global_at n 0) (t.at (of_global n))
  pub all_globals : (n : ℕ) → n < t.globals → t.live (of_global n) ≡ true

-- a state in which a call's frame stands, with the ints of its kept variables in their registers
pub record Ready (t : Setting) (f : Shape) (kinds : Kinds) (frame : Frame) (w : World) (s : State) : Type 0 where
  pub registers : length s.regs ≡ 32
  pub holds : FrameHolds t f kinds frame w s.memory (x s sp)
  pub ints : (v r : ℕ) → register_of f.kept v ≡ Some r → kinds v ≡ int_slot
  pub keeps : KeptHolds f.kept frame w (saved_of s)

-- the byte where a place is: at an address, or at the beginning of a slot
abbrev pub location_byte : Setting → Shape → (stack : ℕ) → Location → ℕ
location_byte t f stack (in_memory a) = byte_of t a
location_byte t f stack (in_frame s) = stack + slot_offset f s
