-- Calls that are open on the machine's stack, one above the other, as the frame information describes them (DWARF 5, 6.4; RISC-V ELF psABI,
-- "DWARF Register Numbers").
use Rattle.std.specs.Prelude.{⊤, ◌≡◌, ℕ, zero, suc, ◌+◌, ◌≤◌, pos, ◌-ℤ◌, false, List, [], ◌∷◌, length, replicate, slice_set, slice_index_or, Some, Ok}
use Rattle.table_forms.specs.declared.found.Rule.{Rule}
use Rattle.table_forms.specs.declared.found.Rule.TheVariants as rules
use Rattle.table_forms.specs.declared.found.Row.{Row}
use Rattle.table_forms.specs.Fde.{Fde, fde_for, row_at}
use Rattle.table_forms.specs.Verdict.{look_up_place}
use Rattle.rv64_isa.specs.State.{State}
use Rattle.rv64_machine.specs.Load.{word_loaded}
use Rattle.frame_walk.specs.declared.frame.Frame.{Frame}
use Rattle.machine_forms.specs.Registers.{saved_registers}
use Rattle.machine_pieces.specs.Keeping as keeping

-- rules where the first of some registers are saved, each so many bytes above sp, and the CFA is `size` bytes above sp
abbrev pub saved_rules : (size : ℕ) → (registers places : List ℕ) → List Rule → List Rule
saved_rules size [] places rs = rs
saved_rules size (r ∷ more) [] rs = rs
saved_rules size (r ∷ more) (n ∷ places) rs = saved_rules size more places (slice_set rs r (rules.Offset (pos n -ℤ pos size)))

-- The row of a function behind its beginning: the CFA is so many bytes above sp, the return address is saved 8 bytes above sp, and the registers
-- of its kept variables in their places.
abbrev pub call_rules : (size : ℕ) → (places : List ℕ) → List Rule
call_rules size places = saved_rules size saved_registers places (rules.Unspecified ∷ rules.Offset (pos 8 -ℤ pos size) ∷ replicate 62 rules.Unspecified)

abbrev pub call_row : (size : ℕ) → (places : List ℕ) → Row
call_row size places = record { cfa_register = 2; cfa_offset = pos size; rules = call_rules size places }

-- the frame information has that row for a place
pub record HasRow (fdes : List Fde) (place size : ℕ) (places : List ℕ) : Type 0 where
  pub fde : Fde
  pub found : fde_for fdes place ≡ Some fde
  pub returns : fde.cie.return_register ≡ 1
  pub plain : fde.cie.signal ≡ false
  pub row : row_at fde place ≡ call_row size places

-- nothing is outward of a place: its row marks the return address undefined
pub record IsOutermost (fdes : List Fde) (place : ℕ) : Type 0 where
  pub fde : Fde
  pub found : fde_for fdes place ≡ Some fde
  pub returns : fde.cie.return_register ≡ 1
  pub undefined : slice_index_or (row_at fde place).rules 1 rules.Unspecified ≡ rules.Undefined

-- an open call: the bytes of its frame, the address that it returns to, and where it has saved registers of kept variables, with what they held
pub record OpenCall : Type 0 where
  pub size : ℕ
  pub back : ℕ
  pub places : List ℕ
  pub saved : List ℕ

-- words of a frame hold these numbers
abbrev pub AreSaved : State → (sp size : ℕ) → (places values : List ℕ) → Type 0
AreSaved s sp size [] [] = ⊤
AreSaved s sp size (n ∷ places) (v ∷ values) = (n ≤ size) × (word_loaded s (sp + n) ≡ Ok v) × AreSaved s sp size places values
AreSaved s sp size places values = ⊥

-- A call that goes on at `ip`, with its frame at sp: its row, its frame inside the stack, and the return address and the registers that it saved,
-- ten at most, in their places.
pub record CallStands (s : State) (fdes : List Fde) (ip sp : ℕ) (c : OpenCall) : Type 0 where
  pub row : HasRow fdes (look_up_place ip false) c.size c.places
  pub some : 16 ≤ c.size
  pub low : 0x7000_0000 ≤ sp
  pub high : sp + c.size ≤ 0x7100_0000
  pub saved : word_loaded s (sp + 8) ≡ Ok c.back
  pub kept : AreSaved s sp c.size c.places c.saved
  pub few : length c.saved ≤ 10

-- calls from the innermost one outwards: each goes on where the one inside it returns to, above its frame
abbrev pub CallsStand : State → List Fde → (ip sp : ℕ) → List OpenCall → Type 0
CallsStand s fdes ip sp [] = ⊤
CallsStand s fdes ip sp (c ∷ cs) = CallStands s fdes ip sp c × CallsStand s fdes c.back (sp + c.size) cs

-- where the call that is outward of all these goes on, and where its frame begins
abbrev pub outer_ip : ℕ → List OpenCall → ℕ
outer_ip ip [] = ip
outer_ip ip (c ∷ cs) = outer_ip c.back cs

abbrev pub outer_sp : ℕ → List OpenCall → ℕ
outer_sp sp [] = sp
outer_sp sp (c ∷ cs) = outer_sp (sp + c.size) cs

-- what the registers of kept variables hold outward of these calls
abbrev pub regs_at : List OpenCall → List ℕ → List ℕ
regs_at [] regs = regs
regs_at (c ∷ cs) regs = regs_at cs (keeping.outward c.saved regs)

-- some registers get values, as far as there are any
abbrev pub with_values : (registers values regs : List ℕ) → List ℕ
with_values [] values regs = regs
with_values (r ∷ more) [] regs = regs
with_values (r ∷ more) (v ∷ values) regs = with_values more values (slice_set regs r v)

-- so many registers from one on
abbrev pub registers_kept : (from count : ℕ) → List ℕ → List ℕ
registers_kept n zero regs = []
registers_kept n (suc k) regs = slice_index_or regs n 0 ∷ registers_kept (n + 1) k regs

-- the frame outward of one whose sp is given: the return address, sp above the frame, and what is saved; other registers stay
abbrev pub outward : Frame → ℕ → OpenCall → Frame
outward f sp c = record {
  pc = c.back;
  cfa = sp + c.size;
  regs = with_values saved_registers c.saved (slice_index_or f.regs 0 0 ∷ c.back ∷ (sp + c.size) ∷ registers_kept 3 61 f.regs);
  top = false;
  signal = false;
}

-- the frames of these calls, and the one outward of them
abbrev pub frames_of : Frame → ℕ → List OpenCall → List Frame
frames_of f sp [] = []
frames_of f sp (c ∷ cs) = f ∷ frames_of (outward f sp c) (sp + c.size) cs

abbrev pub frame_behind : Frame → ℕ → List OpenCall → Frame
frame_behind f sp [] = f
frame_behind f sp (c ∷ cs) = frame_behind (outward f sp c) (sp + c.size) cs
