-- Addresses of functions and of records of types come into registers.
use Rattle.std.proofs.Common.{◌≡◌, ◌∙◌, ap, arith, ℕ, ◌+◌, ◌-◌, ◌^◌, ◌<◌, ℤ, pos, List, length}
use Rattle.rv64_isa.specs.State.{State, Part}
use Rattle.rv64_isa.specs.Step.{sets, x, imm12, imm20}
use Rattle.rv64_isa.specs.Arithmetic.{add}
use Rattle.linear_forms.specs.Stub.{compiled}
use Rattle.machine_forms.specs.Immediate.{upper, lower}
use Rattle.machine_forms.specs.Registers.{register}
use Rattle.machine_forms.specs.Piece.{Target, entry, type_record, upper_part, add_rest, distance}
use Rattle.machine_forms.specs.PlaceCode.{target_address}
use Rattle.machine_forms.specs.Emitted.{listed_type, emitted_of}
use Rattle.machine_forms.proofs.Words.{words_stand}
use Rattle.image_link.proofs.Bounds.{types_length}
use Rattle.machine_pieces.specs.Standing.{Ground, address, PiecesAt}
use Rattle.machine_pieces.specs.Going.{Computes}
use Rattle.machine_pieces.specs.Frames.{Reached}
use Rattle.machine_pieces.proofs.Going.{sets_value, then_sets}
use Rattle.machine_pieces.proofs.Places.{far_address, reached_from}
use Rattle.machine_pieces.proofs.Framing.{auipc_done, addi_done}
use Rattle.image_forms.specs.Placed.{record_at}
use Rattle.std.proofs.lemmas.Int.{ints}
use Rattle.std.proofs.lemmas.List.{length-map}
use Rattle.image_tables.specs.Functions.{records_end}
use Rattle.machine_simulation.specs.Plan.{Plan, first_word, setting}
use Rattle.machine_simulation.specs.Matches.{UnitStands}
use Rattle.machine_raises.specs.Stacks.{IsRunning}
use Rattle.elf_image.specs.Clean.{CleanImage}

pub target_computes : (g : Ground) (here k a : ℕ) (u : Target) (s : State) → k < 15 → PiecesAt s.memory g here (target_address (register k) u) → s.pc ≡ address g here → length s.regs ≡ 32 → Reached g u a → a < 2 ^ 64 →
    Computes g here 2 k s a
target_computes g here k a u s inside code at regs reached below =
    let rd : ℕ = register k in
    let d : ℤ = distance g.places here u in
    let high : ℕ = add s.pc (imm20 (upper d)) in
    let first = sets_value g here k (upper_part rd u) s high code.0 at regs inside (auipc_done rd (upper d) s) in
    let m : State = first.goes.after in
    let here_again : here + 1 - 1 ≡ here = omega arith in
    let low : lower (distance g.places (here + 1 - 1) u) ≡ lower d = ap (λ i. lower (distance g.places i u)) here_again in
    let near = reached.near here code.0.inside in
    let value : add (x m rd) (imm12 (lower (distance g.places (here + 1 - 1) u))) ≡ a
    = ap (λ v. add v (imm12 (lower (distance g.places (here + 1 - 1) u)))) first.is ∙ ap (λ i. add high (imm12 i)) low ∙ ap (λ p. add (add p (imm20 (upper d))) (imm12 (lower d))) at
    ∙ far_address (address g here) a d (omega (arith, code.0.word.below)) below near.0 near.1 (reached_from g here u a reached) in
    then_sets g here 1 k (add_rest rd u) s a first.goes code.1.0 inside (addi_done rd rd (lower (distance g.places (here + 1 - 1) u)) m ∙ ap (sets m rd) value)

-- ---- what is reached
pub entry_reached : (p : Plan) (n m : ℕ) (memory : List Part) → UnitStands p memory → m < length p.unit.functions → Reached (setting p n).ground (entry (compiled m)) (address (setting p m).ground (first_word p m))
entry_reached p n m memory h known =
    let first = (h.functions m known).0 in
    record {
      is = ap pos (omega arith);
      near = λ here inside. (omega (arith, h.few, first.inside, inside), omega (arith, h.few, first.inside, inside));
    }

pub record_reached : (p : Plan) (i : CleanImage) (s : State) (n t : ℕ) → IsRunning p i s → t < length p.unit.types → Reached (setting p n).ground (type_record t) (record_at (records_end p.unit) t)
record_reached p i s n t running known =
    let e = emitted_of p.unit in
    let can = running.image.linkable in
    let types = length-map p.unit.types listed_type in
    let rooms = types_length e.types in
    let words = words_stand.unit p.unit in
    record {
      is = omega (arith, ints, running.base, known, types);
      near = λ here inside. (omega (arith, running.base, known, types, rooms, words, can.source, can.words, can.room, inside), omega (arith, running.base, known, types, rooms, words, can.source, can.words, can.room, inside));
    }
