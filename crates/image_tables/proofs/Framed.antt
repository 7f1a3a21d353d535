-- The frames of functions of an image.
use Rattle.std.proofs.Common.{◌≡◌, ◌∙◌, refl, sym, ap, arith, ℕ, ◌+◌, ◌*◌, ◌≤◌, nat_le, nat_lt, ℤ, pos, Bool, true, false, List, [], ◌∷◌, take, length, length-append, map, if◌then◌else◌}
use Rattle.std.specs.Prelude.{◌-ℤ◌, fold, filter, slice_set, slice_index_or}
use Rattle.std.proofs.lemmas.Bool.Decides.{nat_tests}
use Rattle.rv64_isa.specs.declared.instr.Instr.TheVariants.{Lw, Sd}
use Rattle.table_forms.specs.declared.found.Rule.{Rule}
use Rattle.table_forms.specs.declared.found.Rule.TheVariants as rules
use Rattle.table_forms.specs.Fde.{is_in, fde_for, row_at}
use Rattle.table_forms.specs.Row.{first_row}
use Rattle.table_forms.specs.WrittenFrames.{changed, moved_row}
use Rattle.linear_forms.specs.Linear.{UnitCode}
use Rattle.linear_forms.specs.Stub.{Function, compiled, end_catch, terminating, call_unexpected}
use Rattle.linear_forms.specs.UnitRun.{code_at}
use Rattle.machine_forms.specs.Immediate.{immediate}
use Rattle.machine_forms.specs.Registers.{sp, t0, saved_registers}
use Rattle.machine_forms.specs.Piece.{instruction}
use Rattle.machine_forms.specs.Shape.{Shape, slot_offset, frame_taken, stack_tested, prologue, frame_moves}
use Rattle.machine_forms.specs.KeptCode.{copied, one_saved, saves, save_moves}
use Rattle.machine_forms.specs.Routine.{routine_words, all_words}
use Rattle.machine_forms.specs.StubCode.{stub_shape, start_routine, stub_routines}
use Rattle.machine_forms.specs.Emitted.{shape_of, function_front, function_moves}
use Rattle.image_forms.specs.Tables.{placed_moves}
use Rattle.eh_run.specs.Program.{program_of}
use Rattle.image_tables.specs.Functions.{routine_of, frame_of, saved_places, records_end, first_byte}
use Rattle.image_tables.specs.Rows.{saved_rules, call_row}
use Rattle.image_tables.specs.FrameLaws.{FramesSay, StartIsOutermost}
use Rattle.image_tables.proofs.Placed.{placed, function_stands, start_stands}
use Rattle.image_tables.proofs.Found.{image_function}

-- ---- rows
-- a register's change stands behind a word of those that save it
save_inside : (parameters offset r s : ℕ) → (if nat_lt s parameters then 2 else 1) ≤ length (one_saved parameters offset r s)
save_inside parameters offset r s = by (nat_lt s parameters)
  where
    by : (b : Bool) → (if b then 2 else 1) ≤ length (if b then instruction (Lw t0 sp offset) ∷ instruction (Sd sp r offset) ∷ instruction (copied r t0) ∷ [] else instruction (Sd sp r offset) ∷ [])
    by true = omega arith
    by false = omega arith

-- a row behind all words that save registers
after_saves : (a parameters place : ℕ) (f : Shape) (n : ℕ) (registers kept : List ℕ) (cfa : ℕ) (offset : ℤ) (rs : List Rule) → a + 4 * (n + length (saves f parameters registers kept)) ≤ place →
    fold (λ row move. changed row move.change) (record { cfa_register = cfa; cfa_offset = offset; rules = rs }) (filter (λ move. nat_le move.location place) (placed_moves a (save_moves f parameters n registers kept)))
    ≡ record { cfa_register = cfa; cfa_offset = offset; rules = saved_rules f.size registers (map (slot_offset f) kept) rs }
after_saves a parameters place f n [] kept cfa offset rs behind = refl
after_saves a parameters place f n (r ∷ more) [] cfa offset rs behind = refl
after_saves a parameters place f n (r ∷ more) (s ∷ kept) cfa offset rs behind =
    let at : ℕ = immediate (pos (slot_offset f s)) in
    let words = length (one_saved parameters at r s) in
    let word : ℕ = if nat_lt s parameters then 2 else 1 in
    let count = length-append (one_saved parameters at r s) (saves f parameters more kept) in
    let inside = save_inside parameters at r s in
    let passed : a + 4 * (n + word) ≤ place = omega (arith, behind, count, inside) in
    let test : nat_le (a + 4 * (n + word)) place ≡ true = grind (arith, nat_tests, passed) in
    rw test (after_saves a parameters place f (n + words) more kept cfa offset (slice_set rs r (rules.Offset (pos (slot_offset f s) -ℤ pos f.size))) (omega (arith, behind, count)))

-- behind the changes for the return address and for the registers of kept variables
after_all : (a parameters place : ℕ) (f : Shape) → a + 4 * length (function_front f parameters) ≤ place →
    moved_row (placed_moves a (function_moves f parameters)) place ≡ call_row f.size (map (slot_offset f) f.kept)
unfolding moved_row first_row
after_all a parameters place f behind =
    let count = length-append (prologue f) (saves f parameters saved_registers f.kept) in
    let taken = length-append (frame_taken f) (stack_tested f.leaf) in
    let first : nat_le (a + 4) place ≡ true = grind (arith, nat_tests, behind, count, taken) in
    let second : nat_le (a + 8) place ≡ true = grind (arith, nat_tests, behind, count, taken) in
    rw first (rw second (after_saves a parameters place f (length (prologue f)) saved_registers f.kept 2 (pos f.size) _ (omega (arith, behind, count))))

-- behind the two changes of the frame of one of the runtime's own functions
after_both : (a place : ℕ) (f : Shape) → a + 8 ≤ place → moved_row (placed_moves a (frame_moves f)) place ≡ call_row f.size []
unfolding moved_row first_row
after_both a place f behind =
    let first : nat_le (a + 4) place ≡ true = grind (arith, nat_tests, behind) in
    let second : nat_le (a + 8) place ≡ true = grind (arith, nat_tests, behind) in
    rw first (rw second refl)

-- the change at the first byte of the first function
at_start : (a place : ℕ) → a ≤ place → slice_index_or (moved_row (placed_moves a start_routine.moves) place).rules 1 rules.Unspecified ≡ rules.Undefined
unfolding moved_row first_row
at_start a place behind =
    let first : nat_le (a + 0) place ≡ true = grind (arith, nat_tests, behind) in
    rw first refl

-- ---- functions
row_is : (u : UnitCode) (f : Function) (a k : ℕ) → 4 * length (routine_of u f).front ≤ k → moved_row (placed_moves a (routine_of u f).moves) (a + k) ≡ call_row (frame_of u f) (saved_places u f)
row_is u (compiled n) a k far = after_all a (code_at u n).parameters (a + k) (shape_of (code_at u n)) (omega (arith, far))
row_is u end_catch a k far = after_both a (a + k) (stub_shape end_catch) (omega (arith, far))
row_is u terminating a k far = after_both a (a + k) (stub_shape terminating) (omega (arith, far))
row_is u call_unexpected a k far = after_both a (a + k) (stub_shape call_unexpected) (omega (arith, far))

pub frames_say : FramesSay
frames_say u i f k image there inside =
    let r = routine_of u f in
    let a = first_byte u f in
    let stands = function_stands u f there in
    let x = placed a stands.first r in
    let here = image_function u i stands.number x (a + k) image stands.there (omega arith) (omega (arith, inside)) in
    let held : is_in (record { start = a; length = 4 * routine_words r }) (a + k) ≡ true = grind (arith, nat_tests, inside) in
    record {
      fde = here.function.fde;
      found = here.found;
      region = here.frame.region;
      returns = here.frame.cie.returns;
      plain = here.frame.cie.ordinary;
      row = λ far. here.frame.rows (a + k) held ∙ row_is u f a k far;
    }

pub start_is_outermost : StartIsOutermost
start_is_outermost u i k image inside =
    let a = records_end u + 4 * all_words (take 0 stub_routines) in
    let first : a ≡ records_end u = omega arith in
    let stands = start_stands u in
    let x = placed a stands.first start_routine in
    let here = image_function u i stands.number x (a + k) image stands.there (omega arith) (omega (arith, inside)) in
    let held : is_in (record { start = a; length = 4 * routine_words start_routine }) (a + k) ≡ true = grind (arith, nat_tests, inside) in
    let row = here.frame.rows (a + k) held in
    let lost : slice_index_or (row_at here.function.fde (a + k)).rules 1 rules.Unspecified ≡ rules.Undefined
    = ap (λ y. slice_index_or y.rules 1 rules.Unspecified) row ∙ at_start a (a + k) (omega arith) in
    record {
      fde = here.function.fde;
      found = ap (λ b. fde_for (program_of i).image.fdes (b + k)) (sym first) ∙ here.found;
      returns = here.frame.cie.returns;
      plain = here.frame.cie.ordinary;
      undefined = ap (λ b. slice_index_or (row_at here.function.fde (b + k)).rules 1 rules.Unspecified) (sym first) ∙ lost;
    }
