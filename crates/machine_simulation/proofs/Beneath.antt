-- What a new call stands below.
use Rattle.std.proofs.Common.{◌≡◌, refl, subst, arith, ℕ, zero, suc, ◌+◌, ◌-◌, ◌*◌, ◌<◌, ◌≤◌, ℤ, List, [], ◌∷◌, length, Option, Some, None}
use Rattle.std.specs.Prelude.{◌⊎◌, true, false, slice_get}
use Rattle.std.proofs.lemmas.Bool.Decides.{nat_tests}
use Rattle.rv64_isa.specs.State.{Part}
use Rattle.region_forms.specs.Form.{SlotKind, int_slot, address_slot, object_slot, help_slot}
use Rattle.region_forms.specs.WellFormed.{is_variable}
use Rattle.region_forms.specs.World.{Base, of_global, of_variable, of_exception, Address, Word, nothing, address_in, Frame, World}
use Rattle.linear_forms.specs.Activation.{Activation}
use Rattle.machine_forms.specs.Piece.{global_at}
use Rattle.machine_forms.specs.Shape.{return_offset}
use Rattle.machine_pieces.specs.Frames.{Reached, AddressAt, WordHolds}
use Rattle.machine_pieces.specs.Transfers.{lowest_sp}
use Rattle.machine_simulation.specs.Plan.{Plan, function, shape, slot_kinds, setting}
use Rattle.machine_simulation.specs.Extents.{newer, StandApart, IntsInside}
use Rattle.machine_simulation.specs.Calls.{HeldBy, IsBegun, stack_end}
use Rattle.machine_simulation.specs.Matches.{UnitStands, StackMay, StillFresh, ObjectsStand, MemoryMatches}
use Rattle.machine_simulation.specs.Entering.{WordFits, WordsFit}
use Rattle.machine_simulation.proofs.Keeping.{IntsHold}
use Rattle.machine_simulation.proofs.Holding.{live_begun}
use Rattle.machine_simulation.proofs.Passing.{PassedAt}

-- where a word was passed it is
pub passed_there : (p : Plan) (n : ℕ) (memory : List Part) (stack i j : ℕ) (given : List Word) (word : Word) → PassedAt (setting p n) memory stack i given → slice_get given j ≡ Some word →
    WordHolds (setting p n) memory (stack - 8 * (i + j + 1)) word
passed_there p n memory stack i j [] word h e = absurd (cc e)
passed_there p n memory stack i zero (x ∷ given) word h e =
    let same : x ≡ word = cc e in
    let count : i + 1 ≡ i + 0 + 1 = omega arith in
    subst (λ k. WordHolds (setting p n) memory (stack - 8 * k) word) count (subst (WordHolds (setting p n) memory (stack - 8 * (i + 1))) same h.0)
passed_there p n memory stack i (suc j) (x ∷ given) word h e =
    let count : i + 1 + j + 1 ≡ i + suc j + 1 = omega arith in
    subst (λ k. WordHolds (setting p n) memory (stack - 8 * k) word) count (passed_there p n memory stack (i + 1) j given word h.1 e)

-- what has begun is in no newer call than the next
pub begun_last : (v : World) (b : Base) → IsBegun v b → newer v.calls b ≡ false
begun_last v (of_global g) h = refl
begun_last v (of_variable e s) h = grind (arith, nat_tests, h)
begun_last v (of_exception e) h = refl

pub not_newer : (c s : ℕ) → newer c (of_variable c s) ≡ false
not_newer c s = grind (arith, nat_tests)

-- a variable gets no word in the frame
pub no_word : (k : SlotKind) (word : Word) → is_variable k ≡ true → (k ≡ int_slot → ⊥) → WordFits k word → word ≡ nothing
no_word int_slot word e other fits = absurd (other refl)
no_word address_slot word e other fits = absurd (cc e)
no_word object_slot word e other fits = absurd fits
no_word help_slot word e other fits = absurd (cc e)

pub none_by : (o : Option ℤ) → ((z : ℤ) → o ≡ Some z → ⊥) → o ≡ None
none_by None never = refl
none_by (Some z) never = absurd (never z refl)

-- All that is live has begun, and lies below the stack or from a byte of the stack on; below that byte a new frame has room.
pub record Beneath (p : Plan) (v : World) (memory : List Part) (stack : ℕ) : Type 0 where
  pub unit : UnitStands p memory
  pub apart : StandApart p memory
  pub inside : IntsInside p v
  pub ints : IntsHold p v memory
  pub fresh : StillFresh v
  pub objects : ObjectsStand p v memory
  pub may : StackMay memory
  pub end : stack ≤ stack_end
  pub begun : (b : Base) → p.live b ≡ true → IsBegun v b
  pub clear : (b : Base) → p.live b ≡ true → (p.at b + p.size b ≤ 0x7000_0000) ⊎ (stack ≤ p.at b)
  pub reached : (g : ℕ) → g < length p.unit.globals → Reached (setting p 0).ground (global_at g 0) (p.at (of_global g))
  pub all_globals : (g : ℕ) → g < length p.unit.globals → p.live (of_global g) ≡ true

pub beneath_call : (p : Plan) (n : ℕ) (frame : Frame) (fs : List Activation) (v : World) (memory : List Part) (stack back : ℕ) → MemoryMatches p n frame fs v memory stack back → Beneath p v memory stack
beneath_call p n frame fs v memory stack back h = record {
  unit = h.unit;
  apart = h.apart;
  inside = h.inside;
  ints = h.top.holds.ints;
  fresh = h.fresh;
  objects = h.objects;
  may = h.may;
  end = omega (arith, h.top.below);
  begun = λ b live. live_begun p v b frame.call h.objects.made live h.newest (h.last b live);
  clear = λ b live. h.top.clear b live (h.last b live);
  reached = λ g inside. let r = h.top.holds.reached g inside in record { is = r.is; near = r.near };
  all_globals = h.top.holds.all_globals;
}

-- What a new call may be passed the address of: a global or a variable that is live, and an exception that was made.
abbrev pub MayPass : Plan → World → Base → Type 0
MayPass p v (of_global g) = p.live (of_global g) ≡ true
MayPass p v (of_variable d s) = (p.live (of_variable d s) ≡ true) × (d < v.calls)
MayPass p v (of_exception e) = e ≤ v.last_number

pub passed_begun : (p : Plan) (v : World) (b : Base) → MayPass p v b → IsBegun v b
passed_begun p v (of_global g) h = tt
passed_begun p v (of_variable d s) h = h.1
passed_begun p v (of_exception e) h = h

-- what an open call may hold the address of
pub held_passes : (p : Plan) (v : World) (c : ℕ) (b : Base) → c < v.calls → HeldBy p v c b → MayPass p v b
held_passes p v c (of_global g) there h = h
held_passes p v c (of_variable d s) there h = (h.0, omega (arith, there, h.1))
held_passes p v c (of_exception e) there h = h

-- What is there when a new call begins: words passed below its frame, which are its parameters, and the return address.
pub record Begins (p : Plan) (n m : ℕ) (v : World) (memory : List Part) (stack low back : ℕ) (given : List Word) : Type 0 where
  pub below : Beneath p v memory stack
  pub known : m < length p.unit.functions
  pub frame : low + (shape p m).size ≡ stack
  pub room : lowest_sp (shape p m).leaf (shape p m).size ≤ stack
  pub passed : PassedAt (setting p n) memory stack 0 given
  pub may : (j : ℕ) (word : Word) (b : Address) → slice_get given j ≡ Some word → address_in word ≡ Some b → MayPass p v b.base
  pub few : length given ≤ length (shape p m).slots
  pub taken : length given ≡ (function p m).parameters
  pub fits : WordsFit (slot_kinds p m) 0 given
  pub saved : AddressAt memory (low + return_offset) back
