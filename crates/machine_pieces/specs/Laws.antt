-- What the calls of laws state.
use Rattle.std.specs.Prelude.{◌≡◌, ◌≢◌, ℕ, ◌+◌, ◌%◌, ◌^◌, ◌<◌, ◌≤◌, ℤ, List, [], ◌∷◌, ◌++◌, map, length, slice_get, slice_set, Some, suc, negsuc}
use Rattle.std.specs.List.{flat_map}
use Rattle.run_items.specs.declared.item.Item.TheVariants.{Line}
use Rattle.cxa_runtime.specs.declared.effect.End.TheVariants.{Exit}
use Rattle.cxa_runtime.specs.Raising.{Image}
use Rattle.cxa_runtime.specs.Run.{run}
use Rattle.cxa_runtime.specs.World as machine
use Rattle.machine_pieces.specs.Numbers.{IsInt, extended}
use Rattle.rv64_isa.specs.Format.{IsInRange}
use Rattle.rv64_isa.specs.Listing.{form_of}
use Rattle.rv64_isa.specs.State.{State, Part, with_value}
use Rattle.rv64_isa.specs.Step.{step_of, done, x}
use Rattle.region_forms.specs.Form.{Kinds, Place, Value}
use Rattle.region_forms.specs.World.{Address, of_variable, Frame, World, written}
use Rattle.region_forms.specs.Evaluation.{Location, value_in, locate, address_of}
use Rattle.machine_forms.specs.Piece.{entry, Piece, jump_to, Places, placed}
use Rattle.machine_forms.specs.Shape.{Shape, prologue, epilogue}
use Rattle.machine_forms.specs.Registers.{sp, a0, a7, register, saved_registers}
use Rattle.machine_forms.specs.Kept.{kept_slots}
use Rattle.machine_forms.specs.KeptCode.{saves, restores}
use Rattle.machine_forms.specs.RuntimeCall.{runtime_call}
use Rattle.rv64_isa.specs.declared.step.Step.TheVariants.{Ecall}
use Rattle.machine_pieces.specs.Executes.{Executes}
use Rattle.machine_pieces.specs.RuntimeCalls.{AtCall}
use Rattle.machine_pieces.specs.Turning.{Turns, Stepped, after_step, after_line, after_byte}
use Rattle.machine_forms.specs.PlaceCode.{place_stored, place_address}
use Rattle.machine_forms.specs.CallCode.{function_called}
use Rattle.machine_forms.specs.OperationCode.{value_kept}
use Rattle.machine_forms.specs.Routine.{Routine, op_word}
use Rattle.linear_forms.specs.Linear.{FunctionCode}
use Rattle.linear_forms.specs.Stub.{Function}
use Rattle.machine_forms.specs.ValueCode.{needs, read_in, brought, value_code, operand, test_code}
use Rattle.machine_pieces.specs.Memory.{Written, WordAt, Holds, MayWrite, shape_of, Apart}
use Rattle.machine_pieces.specs.Standing.{Ground, address, PieceFits, PieceAt, PiecesAt}
use Rattle.machine_pieces.specs.Going.{IsKept, Goes, Computes, Gives, Reads, MaySet, Sets, passed_over, Stores}
use Rattle.machine_pieces.specs.Frames.{Setting, byte_of, RootFits, ValueStands, Ready, Reached, location_byte}
use Rattle.machine_pieces.specs.Keeping.{saved_of, KeptHolds, AreSmall}
use Rattle.machine_pieces.specs.Saving.{SavedAt, SavedIn, AreNear, AreApartFrom, MaySave, Saves, Restores}
use Rattle.machine_pieces.specs.Transfers.{HasRoom, LacksRoom, Overflows, HasFrame, Enters, Leaves, Jumps, Calls}

-- The fields of a piece's instruction are in their ranges wherever it stands. Where its word stands at the pc, a step does what the
-- instruction does.
pub record WordsAreFetched : Type 0 where
  pub fields : (places : Places) (here : ℕ) (x : Piece) → PieceFits x → IsInRange (form_of (placed places here x))
  pub step : (g : Ground) (here : ℕ) (x : Piece) (s : State) → PieceAt s.memory g here x → s.pc ≡ address g here → step_of s ≡ done (placed g.places here x) s

-- Four and eight bytes that may be written hold what was stored there, and what is apart from them holds what it held. With each byte the
-- same may be done as before, code stays, and every part of memory keeps its place and size.
pub record StoresAreRead : Type 0 where
  pub four : (memory : List Part) (a value : ℕ) → MayWrite memory a 4 → Holds (with_value memory a 4 value) a 4 (value % 2 ^ 32)
  pub eight : (memory : List Part) (a value : ℕ) → MayWrite memory a 8 → Holds (with_value memory a 8 value) a 8 (value % 2 ^ 64)
  pub apart : (memory : List Part) (a n value b k x : ℕ) → Apart a n b k → Holds memory b k x → Holds (with_value memory a n value) b k x
  pub written : (memory : List Part) (a n value : ℕ) → MayWrite memory a n → Written memory (with_value memory a n value)
  pub code : (old new : List Part) (a word : ℕ) → Written old new → WordAt old a word → WordAt new a word
  pub may : (old new : List Part) (a n : ℕ) → Written old new → MayWrite old a n → MayWrite new a n
  pub shapes : (memory : List Part) (a n value : ℕ) → map shape_of (with_value memory a n value) ≡ map shape_of memory

-- A value without calls whose int is defined: where its words stand and its call's frame is in memory, the machine runs from the first of
-- them to behind the last in at most as many steps as there are words. Then the register of choice has that int, with its sign extended; memory
-- is as before, and so is each other register but those that values take from there on. As an operand it is read in a register of those or of a
-- kept variable; and it is written to the register of such a variable. The test of a jump on a condition comes to the word behind it where the value is 0, and over that word where it is not.
pub record ValuesAreComputed : Type 0 where
  pub choice : (t : Setting) (f : Shape) (kinds : Kinds) (frame : Frame) (w : World) (v : Value) (z : ℤ) (rd k here : ℕ) (s : State) → ValueStands t f kinds frame w v → value_in kinds frame w v ≡ Some z →
      MaySet rd → k + needs v ≤ 15 → length (value_code f rd k v) < 2 ^ 18 → PiecesAt s.memory t.ground here (value_code f rd k v) → s.pc ≡ address t.ground here → Ready t f kinds frame w s →
      Sets t.ground here (length (value_code f rd k v)) k rd s z
  pub value : (t : Setting) (f : Shape) (kinds : Kinds) (frame : Frame) (w : World) (v : Value) (z : ℤ) (k here : ℕ) (s : State) → ValueStands t f kinds frame w v → value_in kinds frame w v ≡ Some z →
      k + needs v ≤ 15 → length (value_code f (register k) k v) < 2 ^ 18 → PiecesAt s.memory t.ground here (value_code f (register k) k v) → s.pc ≡ address t.ground here → Ready t f kinds frame w s →
      Gives t.ground here (length (value_code f (register k) k v)) k s z
  pub reads : (t : Setting) (f : Shape) (kinds : Kinds) (frame : Frame) (w : World) (v : Value) (z : ℤ) (k here : ℕ) (s : State) → ValueStands t f kinds frame w v → value_in kinds frame w v ≡ Some z →
      k + needs v ≤ 15 → length (brought (operand f v) k) < 2 ^ 18 → PiecesAt s.memory t.ground here (brought (operand f v) k) → s.pc ≡ address t.ground here → Ready t f kinds frame w s →
      Reads t.ground here (length (brought (operand f v) k)) k s (read_in (operand f v) k) z
  pub kept : (t : Setting) (f : Shape) (kinds : Kinds) (frame : Frame) (w : World) (v : Value) (z : ℤ) (rd here : ℕ) (s : State) → ValueStands t f kinds frame w v → value_in kinds frame w v ≡ Some z →
      MaySet rd → needs v ≤ 15 → length (value_kept f rd v) < 2 ^ 18 → PiecesAt s.memory t.ground here (value_kept f rd v) → s.pc ≡ address t.ground here → Ready t f kinds frame w s →
      Sets t.ground here (length (value_kept f rd v)) 0 rd s z
  pub aside : (f : Shape) (v : Value) (k : ℕ) → k < 15 → IsKept (k + 1) (read_in (operand f v) k)
  pub test : (t : Setting) (f : Shape) (kinds : Kinds) (frame : Frame) (w : World) (v : Value) (z : ℤ) (here : ℕ) (s : State) (y : Piece) → ValueStands t f kinds frame w v → value_in kinds frame w v ≡ Some z →
      needs v ≤ 15 → length (test_code f v) < 2 ^ 18 → PiecesAt s.memory t.ground here (test_code f v ++ y ∷ []) → s.pc ≡ address t.ground here → Ready t f kinds frame w s →
      Goes t.ground here (length (test_code f v) + passed_over z) 0 s

-- The address of a place, if it has one, is computed in the k-th register: that of the byte which the address means.
pub record AddressesAreComputed : Type 0 where
  pub place : (t : Setting) (f : Shape) (kinds : Kinds) (frame : Frame) (w : World) (k here : ℕ) (s : State) (p : Place) (b : Address) → Ready t f kinds frame w s → k < 15 →
      RootFits t f kinds frame p.root p.offset → PiecesAt s.memory t.ground here (place_address f (register k) p) → s.pc ≡ address t.ground here → byte_of t b < 2 ^ 64 →
      address_of kinds frame p ≡ Some b → Computes t.ground here (length (place_address f (register k) p)) k s (byte_of t b)

-- An int in a register that values leave from the k-th on, with its sign extended, is written to a place, by means of the k-th register: the four
-- bytes of the place get the int, and nothing else of memory is changed.
pub record PlacesAreWritten : Type 0 where
  pub place : (t : Setting) (f : Shape) (kinds : Kinds) (frame : Frame) (w : World) (r k here : ℕ) (s : State) (z : ℤ) (p : Place) (l : Location) → Ready t f kinds frame w s → IsKept k r → k < 15 →
      RootFits t f kinds frame p.root p.offset → PiecesAt s.memory t.ground here (place_stored f r (register k) p) → s.pc ≡ address t.ground here → x s r ≡ extended z →
      locate kinds frame p ≡ Some l → location_byte t f (x s sp) l % 4 ≡ 0 → location_byte t f (x s sp) l < 2 ^ 64 → MayWrite s.memory (location_byte t f (x s sp) l) 4 →
      Stores t.ground here (length (place_stored f r (register k) p)) k s (location_byte t f (x s sp) l) z

-- An int that is written to a kept variable is in its register. So the ints of its call's kept variables are in their registers, and those of
-- another call are where they were.
pub record KeptAreWritten : Type 0 where
  pub own : (g : FunctionCode) (frame : Frame) (w : World) (regs : List ℕ) (j s : ℕ) (z : ℤ) → slice_get (kept_slots g) j ≡ Some s → IsInt z → length regs ≡ 10 → KeptHolds (kept_slots g) frame w regs →
      KeptHolds (kept_slots g) frame (written (record { base = of_variable frame.call s; offset = 0 }) z w) (slice_set regs j (extended z))
  pub other : (kept : List ℕ) (frame : Frame) (w : World) (regs : List ℕ) (c s : ℕ) (z : ℤ) → frame.call ≢ c → KeptHolds kept frame w regs →
      KeptHolds kept frame (written (record { base = of_variable c s; offset = 0 }) z w) regs

-- A function's beginning saves the registers of its kept variables, and its end gives them back what they held. What is saved stays where other
-- bytes are written; and what registers hold outward of a call are numbers of 64 bits, where those of the call are.
pub record RegistersAreSaved : Type 0 where
  pub saves : (g : Ground) (here : ℕ) (f : Shape) (parameters : ℕ) (kept : List ℕ) (ints : List ℤ) (s : State) → length kept ≤ 10 → MaySave f s.memory parameters (x s sp) kept ints → AreSmall (saved_of s) →
      PiecesAt s.memory g here (saves f parameters saved_registers kept) → s.pc ≡ address g here → length s.regs ≡ 32 → Saves g here (length (saves f parameters saved_registers kept)) f parameters kept ints s
  pub restores : (g : Ground) (here : ℕ) (f : Shape) (kept values : List ℕ) (s : State) → length kept ≤ 10 → AreNear f kept → SavedAt f s.memory (x s sp) kept values →
      PiecesAt s.memory g here (restores f saved_registers kept) → s.pc ≡ address g here → length s.regs ≡ 32 → Restores g here (length (restores f saved_registers kept)) values s
  pub stay : (f : Shape) (kept : List ℕ) (memory : List Part) (stack place size value : ℕ) (regs before : List ℕ) → AreApartFrom f stack place size kept → SavedIn f kept memory stack regs before →
      SavedIn f kept (with_value memory place size value) stack regs before
  pub outward : (f : Shape) (kept : List ℕ) (memory : List Part) (stack : ℕ) (regs before : List ℕ) → length kept ≤ 10 → SavedIn f kept memory stack regs before → AreSmall regs → length regs ≡ 10 →
      AreSmall before × (length before ≡ 10)

-- A function's prologue takes a frame where the stack has room, and, unless the function calls nothing, ends the run where it has none above its
-- lowest 4 KiB; its epilogue gives the frame back and goes to the return address. A jump to a
-- label comes to the label's word, and a call of a function to the function's first word, with the address behind the call in ra. Where a
-- routine's pieces stand, those of each operation stand from its first word on.
pub record ControlGoes : Type 0 where
  pub enters : (g : Ground) (here : ℕ) (f : Shape) (s : State) → PiecesAt s.memory g here (prologue f) → s.pc ≡ address g here → HasRoom f s → Enters g here f s
  pub overflows : (g : Ground) (here : ℕ) (f : Shape) (s : State) → PiecesAt s.memory g here (prologue f) → s.pc ≡ address g here → LacksRoom f s → Overflows g here f s
  pub leaves : (g : Ground) (here back : ℕ) (f : Shape) (s : State) → PiecesAt s.memory g here (epilogue f) → s.pc ≡ address g here → HasFrame f back s → Leaves f back s
  pub jumps : (g : Ground) (here l : ℕ) (s : State) → PieceAt s.memory g here (jump_to l) → s.pc ≡ address g here → g.places.label l < here + 2 ^ 18 → here < g.places.label l + 2 ^ 18 →
      address g (g.places.label l) < 2 ^ 64 → Jumps g (g.places.label l) s
  pub calls : (g : Ground) (here first : ℕ) (callee : Function) (s : State) → PiecesAt s.memory g here (function_called callee) → s.pc ≡ address g here → length s.regs ≡ 32 →
      Reached g (entry callee) first → first % 4 ≡ 0 → first < 2 ^ 64 → Calls g here first s
  pub operation : (memory : List Part) (g : Ground) (first : ℕ) (r : Routine) (p : ℕ) (b : List Piece) → PiecesAt memory g first (r.front ++ flat_map (λ x. x) r.blocks) → slice_get r.blocks p ≡ Some b →
      PiecesAt memory g first r.front × PiecesAt memory g (first + op_word r p) b

-- Steps of the hart are as many turns of the ABI machine, which show nothing and leave what the runtime keeps. A runtime call is one step
-- and then its ECALL: write_int shows the int in a0, read_byte takes a byte of the input or gives -1 at its end, and exit ends the run.
pub record CallsAreTurns : Type 0 where
  pub steps : (image : Image) (n : ℕ) (w : machine.World) (s t : State) → w.hart ≡ s → Executes n s t → Stepped image n w t
  pub call : (g : Ground) (here number : ℕ) (s : State) → number < 2 ^ 11 → PiecesAt s.memory g here (runtime_call number) → s.pc ≡ address g here → length s.regs ≡ 32 → AtCall g here number s
  pub line : (image : Image) (w : machine.World) (s : State) (z : ℤ) → step_of w.hart ≡ (Ecall, s) → x s a7 ≡ 1 → x s a0 ≡ extended z → IsInt z → Turns image 1 w (after_line z s w) (Line z ∷ [])
  pub byte : (image : Image) (w : machine.World) (s : State) (b : ℕ) (bytes : List ℕ) → step_of w.hart ≡ (Ecall, s) → x s a7 ≡ 2 → w.input ≡ b ∷ bytes → Turns image 1 w (after_byte b bytes s w) []
  pub no_byte : (image : Image) (w : machine.World) (s : State) → step_of w.hart ≡ (Ecall, s) → x s a7 ≡ 2 → w.input ≡ [] →
      Turns image 1 w (machine.gives a0 (extended (negsuc 0)) (after_step s w)) []
  pub exit : (image : Image) (pick : ℕ → ℕ) (k : ℕ) (w : machine.World) (s : State) (z : ℤ) → step_of w.hart ≡ (Ecall, s) → x s a7 ≡ 0 → x s a0 ≡ extended z → IsInt z →
      run image pick (suc k) w ≡ record { items = []; end = Exit z; world = after_step s w }
