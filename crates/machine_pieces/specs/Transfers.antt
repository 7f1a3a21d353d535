-- Where control goes: a call's frame is taken and given back, jumps inside a function and calls.
use Rattle.std.specs.Prelude.{◌≡◌, ◌≢◌, Bool, true, false, ℕ, ◌+◌, ◌-◌, ◌%◌, ◌^◌, ◌<◌, ◌≤◌, length}
use Rattle.rv64_isa.specs.State.{State, state, with_value}
use Rattle.rv64_isa.specs.Step.{x}
use Rattle.machine_forms.specs.Registers.{ra, sp, t0}
use Rattle.machine_forms.specs.RuntimeCall.{runtime_call, stack_call}
use Rattle.machine_forms.specs.Shape.{Shape, return_offset, prologue}
use Rattle.machine_pieces.specs.Memory.{MayWrite}
use Rattle.machine_pieces.specs.Standing.{Ground, address, PiecesAt}
use Rattle.machine_pieces.specs.Executes.{Executes}
use Rattle.machine_pieces.specs.Frames.{AddressAt}

-- how far up sp is at least where a call begins: above the lowest 4 KiB is room for its frame; one that calls nothing has 2 KiB, more than its frame
abbrev pub lowest_sp : (leaf : Bool) → (size : ℕ) → ℕ
lowest_sp true size = 0x70000800
lowest_sp false size = 0x70001000 + size

-- how many steps take a frame, with or without a look at the stack
abbrev pub entry_steps : Bool → ℕ
entry_steps true = 2
entry_steps false = 4

-- below sp is room for a frame
pub record HasRoom (f : Shape) (s : State) : Type 0 where
  pub registers : length s.regs ≡ 32
  pub size : (f.size < 2 ^ 11) × (f.size % 8 ≡ 0) × (return_offset + 8 ≤ f.size)
  pub aligned : x s sp % 8 ≡ 0
  pub above : lowest_sp f.leaf f.size ≤ x s sp
  pub below : x s sp < 2 ^ 63
  pub may : MayWrite s.memory (x s sp - f.size + return_offset) 8

-- the prologue of a function takes its frame, saves the return address and comes to the word behind it
pub record Enters (g : Ground) (here : ℕ) (f : Shape) (s : State) : Type 0 where
  pub after : State
  pub runs : Executes (entry_steps f.leaf) s after
  pub pc : after.pc ≡ address g (here + length (prologue f))
  pub memory : after.memory ≡ with_value s.memory (x s sp - f.size + return_offset) 8 (x s ra)
  pub registers : length after.regs ≡ 32
  pub stack : x after sp ≡ x s sp - f.size
  pub kept : (r : ℕ) → r ≢ sp → r ≢ t0 → x after r ≡ x s r

-- below sp is room for a frame in the stack, but not above its lowest 4 KiB, and the function looks
pub record LacksRoom (f : Shape) (s : State) : Type 0 where
  pub looks : f.leaf ≡ false
  pub registers : length s.regs ≡ 32
  pub size : (f.size < 2 ^ 11) × (f.size % 8 ≡ 0) × (return_offset + 8 ≤ f.size)
  pub aligned : x s sp % 8 ≡ 0
  pub above : 0x70000000 + f.size ≤ x s sp
  pub short : x s sp < 0x70001000 + f.size
  pub may : MayWrite s.memory (x s sp - f.size + return_offset) 8

-- the prologue of a function comes to the runtime call that ends the run for want of stack
pub record Overflows (g : Ground) (here : ℕ) (f : Shape) (s : State) : Type 0 where
  pub after : State
  pub runs : Executes 4 s after
  pub pc : after.pc ≡ address g (here + 4)
  pub registers : length after.regs ≡ 32
  pub code : PiecesAt after.memory g (here + 4) (runtime_call stack_call)

-- a frame with a return address stands at sp
pub record HasFrame (f : Shape) (back : ℕ) (s : State) : Type 0 where
  pub registers : length s.regs ≡ 32
  pub size : f.size < 2 ^ 11
  pub below : x s sp + f.size < 2 ^ 64
  pub saved : AddressAt s.memory (x s sp + return_offset) back
  pub back_aligned : back % 4 ≡ 0
  pub back_below : back < 2 ^ 64

-- the epilogue gives the frame back and goes to the return address
pub record Leaves (f : Shape) (back : ℕ) (s : State) : Type 0 where
  pub after : State
  pub runs : Executes 3 s after
  pub pc : after.pc ≡ back
  pub memory : after.memory ≡ s.memory
  pub registers : length after.regs ≡ 32
  pub stack : x after sp ≡ x s sp + f.size
  pub kept : (r : ℕ) → r ≢ sp → r ≢ ra → x after r ≡ x s r

-- a jump changes the pc alone
pub record Jumps (g : Ground) (there : ℕ) (s : State) : Type 0 where
  pub runs : Executes 1 s (state (address g there) s.regs s.memory)

-- a call goes to an address, and leaves in ra that of the word behind the call
pub record Calls (g : Ground) (here entry : ℕ) (s : State) : Type 0 where
  pub after : State
  pub runs : Executes 2 s after
  pub pc : after.pc ≡ entry
  pub back : x after ra ≡ address g (here + 2)
  pub memory : after.memory ≡ s.memory
  pub registers : length after.regs ≡ 32
  pub kept : (r : ℕ) → r ≢ ra → x after r ≡ x s r
