-- The words of a throw up to its runtime call.
use Rattle.std.proofs.Common.{◌≡◌, ◌∙◌, refl, sym, subst, arith, ℕ, ◌+◌, ◌^◌, ◌<◌, List, ◌∷◌, ◌++◌, length, Option, Some, None}
use Rattle.rv64_isa.specs.declared.instr.Instr.TheVariants.{Addi}
use Rattle.rv64_isa.specs.State.{State, Part}
use Rattle.rv64_isa.specs.Step.{x}
use Rattle.elf_image.specs.Clean.{CleanImage}
use Rattle.cxa_runtime.specs.World as abi
use Rattle.region_forms.specs.Form.{throw}
use Rattle.region_forms.specs.World.{of_exception}
use Rattle.linear_forms.specs.Linear.{plain}
use Rattle.linear_forms.specs.Stub.{compiled}
use Rattle.linear_forms.specs.Activation.{State as LinearState}
use Rattle.machine_forms.specs.Registers.{a0, a1, a2}
use Rattle.machine_forms.specs.Piece.{Piece, entry, type_record, instruction}
use Rattle.machine_forms.specs.PlaceCode.{slot_loaded, target_address}
use Rattle.machine_forms.specs.OperationCode.{destructor_set}
use Rattle.machine_forms.specs.RuntimeCall.{runtime_call}
use Rattle.machine_forms.specs.LinearCode.{linear_code}
use Rattle.machine_pieces.specs.Standing.{Ground, address, PiecesAt}
use Rattle.machine_pieces.specs.Going.{Goes, Computes}
use Rattle.machine_pieces.proofs.Fetching.{pieces_split}
use Rattle.machine_pieces.proofs.Framing.{addi_done}
use Rattle.machine_pieces.proofs.Going.{kept_register, goes_then, sets_value}
use Rattle.machine_pieces.proofs.Values.{code_after}
use Rattle.image_forms.specs.Placed.{record_at}
use Rattle.image_tables.specs.Functions.{records_end}
use Rattle.machine_simulation.specs.Plan.{Plan, shape, first_word, setting}
use Rattle.machine_simulation.specs.Exceptions.{addresses_of, IsFunction}
use Rattle.machine_simulation.specs.Matches.{UnitStands}
use Rattle.machine_simulation.proofs.Matching.{Stands}
use Rattle.machine_simulation.specs.Objects.{HoldsObject}
use Rattle.machine_exceptions.proofs.Ecalls.{object_loaded}
use Rattle.machine_raises.specs.Stacks.{IsRunning}
use Rattle.machine_raises.specs.Throws.{DestructorIsThere}
use Rattle.machine_raises.proofs.Targets.{target_computes, entry_reached, record_reached}

-- a destructor's address, or 0, comes into a2
record DestructorSet (p : Plan) (n here : ℕ) (d : Option ℕ) (s : State) : Type 0 where
  pub address : ℕ
  pub is : IsFunction (addresses_of p) d address
  pub computes : Computes (setting p n).ground here (length (destructor_set a2 d)) 2 s address

destructor_sets : (p : Plan) (n here : ℕ) (d : Option ℕ) (s : State) → UnitStands p s.memory → DestructorIsThere p d → PiecesAt s.memory (setting p n).ground here (destructor_set a2 d) → s.pc ≡ address (setting p n).ground here →
    length s.regs ≡ 32 → DestructorSet p n here d s
destructor_sets p n here None s unit there code at regs =
    record { address = 0; is = refl; computes = sets_value (setting p n).ground here 2 (instruction (Addi 12 0 0)) s 0 code.0 at regs (omega arith) (addi_done 12 0 0 s) }
destructor_sets p n here (Some m) s unit there code at regs =
    let pieces = unit.functions m there in
    record {
      address = address (setting p m).ground (first_word p m);
      is = (refl, there);
      computes = target_computes (setting p n).ground here 2 (address (setting p m).ground (first_word p m)) (entry (compiled m)) s (omega arith) code at regs (entry_reached p n m s.memory unit there) (omega (arith, pieces.0.word.below));
    }

pub record ThrowGiven (p : Plan) (n here words e t : ℕ) (d : Option ℕ) (w : abi.World) : Type 0 where
  pub goes : Goes (setting p n).ground here words 0 w.hart
  pub object : x goes.after a0 ≡ p.at (of_exception e)
  pub type : x goes.after a1 ≡ record_at (records_end p.unit) t
  pub function : ℕ
  pub is : IsFunction (addresses_of p) d function
  pub destructor : x goes.after a2 ≡ function
  pub call : PiecesAt w.hart.memory (setting p n).ground (here + words) (runtime_call 5)

pub throw_given : (p : Plan) (i : CleanImage) (n here s e t : ℕ) (d : Option ℕ) (st : LinearState) (w : abi.World) (back : ℕ) → Stands p n st w back → IsRunning p i w.hart → HoldsObject p n st.top.frame s e → t < length p.unit.types →
    DestructorIsThere p d → PiecesAt w.hart.memory (setting p n).ground here (linear_code (shape p n) (plain (throw s t d))) → w.hart.pc ≡ address (setting p n).ground here → record_at (records_end p.unit) t < 2 ^ 64 →
    ThrowGiven p n here (3 + length (destructor_set a2 d)) e t d w
throw_given p i n here s e t d st w back h running holds known there code at below =
    let g : Ground = (setting p n).ground in
    let memory : List Part = w.hart.memory in
    let rest : List Piece = destructor_set a2 d in
    let front = pieces_split memory g here (slot_loaded (shape p n) a0 s ∷ target_address a1 (type_record t)) (rest ++ runtime_call 5) code in
    let behind = pieces_split memory g (here + 3) rest (runtime_call 5) front.1 in
    let one = object_loaded p n st w back here s e h holds front.0.0 at in
    let m1 : State = one.goes.after in
    let two = target_computes g (here + 1) 1 (record_at (records_end p.unit) t) (type_record t) m1 (omega arith) (code_after g here 1 0 (here + 1) (target_address a1 (type_record t)) w.hart one.goes front.0.1) one.goes.pc one.goes.registers
    (record_reached p i w.hart n t running known) below in
    let both : Goes g here 3 0 w.hart = goes_then g here 1 2 0 1 w.hart one.goes (omega arith) two.goes in
    let unit = subst (UnitStands p) (sym both.memory) h.memory.unit in
    let three = destructor_sets p n (here + 3) d both.after unit there (code_after g here 3 0 (here + 3) rest w.hart both behind.0) both.pc both.registers in
    let all : Goes g here (3 + length rest) 0 w.hart = goes_then g here 3 (length rest) 0 2 w.hart both (omega arith) three.computes.goes in
    let kept0 : x all.after a0 ≡ x m1 a0 = three.computes.goes.kept a0 (kept_register 0 2 (omega arith) (omega arith)) ∙ two.goes.kept a0 (kept_register 0 1 (omega arith) (omega arith)) in
    let kept1 : x all.after a1 ≡ x both.after a1 = three.computes.goes.kept a1 (kept_register 1 2 (omega arith) (omega arith)) in
    record {
      goes = all;
      object = kept0 ∙ one.is ∙ omega arith;
      type = kept1 ∙ two.is;
      function = three.address;
      is = three.is;
      destructor = three.computes.is;
      call = subst (λ k. PiecesAt memory g k (runtime_call 5)) (omega arith) behind.1;
    }
