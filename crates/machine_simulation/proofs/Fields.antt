-- The fields of the pieces of operations and functions are in their ranges.
use Rattle.std.proofs.Common.{◌≡◌, refl, arith, ℕ, ◌+◌, ◌*◌, ◌<◌, ◌^◌, pos, negsuc, List, [], ◌∷◌, ◌++◌, map, flat_map, length, Option, Some, None}
use Rattle.std.specs.Prelude.{◌-ℤ◌, nat_lt, Bool, true, false}
use Rattle.std.specs.List.{AllByRecursion}
use Rattle.std.proofs.lemmas.Bool.{cond_both}
use Rattle.rv64_isa.specs.declared.instr.Instr.TheVariants.{Lw, Sd}
use Rattle.cxx_ast.specs.declared.name.Builtin.{Builtin}
use Rattle.cxx_ast.specs.declared.name.Builtin.TheVariants.{WriteInt, ReadByte, Exit, Module, Cancel, Terminate, SetTerminate, SetUnexpected, Uncaught, BadException}
use Rattle.region_forms.specs.Form.{Place, Callee, defined, builtin, Value, number, load, unary, binary, call_value, Argument, int_argument, address_argument, handler_argument, Arguments, no_arguments, argument_then, Op, evaluate, store, bind, call, construct, destroy, make, throw, rethrow, enter, leave}
use Rattle.linear_forms.specs.Linear.{LinearOp, plain, label, jump, jump_zero, pad, jump_filter, free, resume, unexpected, return}
use Rattle.linear_forms.specs.Stub.{Function, compiled, end_catch, call_unexpected}
use Rattle.machine_forms.specs.Registers.{sp, t0, a0, a1, a2, register, saved_registers}
use Rattle.machine_forms.specs.Piece.{Target, entry, type_record, Piece, instruction, jump_to}
use Rattle.machine_forms.specs.Immediate.{immediate}
use Rattle.machine_forms.specs.KeptCode.{copied, root_register, one_saved, saves, restores}
use Rattle.machine_forms.specs.Shape.{Shape, slot_offset, frame_taken, stack_tested, prologue, epilogue}
use Rattle.machine_forms.specs.PlaceCode.{slot_loaded, slot_stored, int_loaded, target_address, place_address, place_stored, number_set}
use Rattle.machine_forms.specs.ValueCode.{read_in, brought, operand, test_code}
use Rattle.machine_forms.specs.CallCode.{argument_code, passed, argument_passed, arguments_passed, arguments_held, function_called, call_code, value_given}
use Rattle.machine_forms.specs.RuntimeCall.{zero_given, runtime_call, builtin_call, builtin_value, allocate_call, free_call, throw_call, begin_catch_call, rethrow_call, resume_call}
use Rattle.machine_forms.specs.OperationCode.{whole_value, whole_register, value_kept, value_stored, destructor_set, op_code}
use Rattle.machine_forms.specs.LinearCode.{jump_same, result_set, linear_code}
use Rattle.machine_forms.specs.Routine.{block_words}
use Rattle.machine_forms.specs.Emitted.{shape_of}
use Rattle.machine_pieces.specs.Standing.{PieceFits}
use Rattle.machine_pieces.proofs.Fetching.{immediate_small}
use Rattle.machine_simulation.specs.Fields.{PiecesFit}
use Rattle.machine_simulation.proofs.ValueFields.{AllFit, all_then, register_small, number_fits, address_fits, store_fits, root_small, read_fits, brought_fits, read_small, front_short, rear_short, value_fits, operand_fits, test_fits}

-- ---- runtime calls, slots, calls of functions

pub runtime_fits : (n : ℕ) → n < 2 ^ 12 → AllFit (runtime_call n)
runtime_fits n small = ((omega arith, omega arith, small), ((omega arith, omega arith, omega arith), tt))

loaded_fits : (f : Shape) (rd s : ℕ) → rd < 32 → PieceFits (slot_loaded f rd s)
loaded_fits f rd s small = (small, omega arith, immediate_small (pos (slot_offset f s + 0)))

stored_fits : (f : Shape) (value s : ℕ) → value < 32 → PieceFits (slot_stored f value s)
stored_fits f value s small = (omega arith, small, immediate_small (pos (slot_offset f s + 0)))

passed_fits : (value i : ℕ) → value < 32 → PieceFits (passed value i)
passed_fits value i small = (omega arith, small, immediate_small (negsuc (8 * i + 7)))

called_fits : (g : Function) → AllFit (function_called g)
called_fits g = (omega arith, ((omega arith, omega arith), tt))

target_fits : (rd : ℕ) (t : Target) → rd < 32 → AllFit (target_address rd t)
target_fits rd t small = (small, (small, tt))

builtin_fits : (b : Builtin) → AllFit (builtin_call b)
builtin_fits WriteInt = runtime_fits 1 (omega arith)
builtin_fits ReadByte = runtime_fits 2 (omega arith)
builtin_fits Exit = runtime_fits 0 (omega arith)
builtin_fits Module = runtime_fits 14 (omega arith)
builtin_fits Cancel = runtime_fits 15 (omega arith)
builtin_fits Terminate = runtime_fits 13 (omega arith)
builtin_fits SetTerminate = runtime_fits 11 (omega arith)
builtin_fits SetUnexpected = runtime_fits 12 (omega arith)
builtin_fits Uncaught = runtime_fits 10 (omega arith)
builtin_fits BadException = tt

zero_fits : AllFit zero_given
zero_fits = ((omega arith, omega arith, omega arith), tt)

given_fits : (b : Builtin) → AllFit (builtin_value b)
given_fits WriteInt = zero_fits
given_fits ReadByte = tt
given_fits Exit = zero_fits
given_fits Module = tt
given_fits Cancel = zero_fits
given_fits Terminate = zero_fits
given_fits SetTerminate = zero_fits
given_fits SetUnexpected = zero_fits
given_fits Uncaught = tt
given_fits BadException = zero_fits

-- ---- arguments

argument_fits : (f : Shape) (k : ℕ) (a : Argument) → length (argument_code f k a) < 2 ^ 18 → AllFit (argument_code f k a)
argument_fits f k (int_argument v) short = value_fits f v (register k) k (register_small k) short
argument_fits f k (address_argument p) short = address_fits f (register k) p.root p.offset (register_small k)
argument_fits f k (handler_argument n) short = target_fits (register k) (entry (compiled n)) (register_small k)

argument_passed_fits : (f : Shape) (i : ℕ) (a : Argument) → length (argument_passed f i a) < 2 ^ 18 → AllFit (argument_passed f i a)
argument_passed_fits f i (int_argument v) short =
    let code : List Piece = brought (operand f v) 0 in
    let last : List Piece = passed (read_in (operand f v) 0) i ∷ [] in
    all_then code last (brought_fits (operand f v) 0 (operand_fits f v) (front_short code last short)) (passed_fits (read_in (operand f v) 0) i (read_small (operand f v) 0 (operand_fits f v)), tt)
argument_passed_fits f i (address_argument p) short =
    let code : List Piece = argument_code f 0 (address_argument p) in
    let last : List Piece = passed (register 0) i ∷ [] in
    all_then code last (argument_fits f 0 (address_argument p) (front_short code last short)) (passed_fits (register 0) i (register_small 0), tt)
argument_passed_fits f i (handler_argument n) short =
    let code : List Piece = argument_code f 0 (handler_argument n) in
    let last : List Piece = passed (register 0) i ∷ [] in
    all_then code last (argument_fits f 0 (handler_argument n) (front_short code last short)) (passed_fits (register 0) i (register_small 0), tt)

passed_all_fit : (f : Shape) (i : ℕ) (args : Arguments) → length (arguments_passed f i args) < 2 ^ 18 → AllFit (arguments_passed f i args)
passed_all_fit f i no_arguments short = tt
passed_all_fit f i (argument_then a args) short =
    let code : List Piece = argument_passed f i a in
    let rest : List Piece = arguments_passed f (i + 1) args in
    all_then code rest (argument_passed_fits f i a (front_short code rest short)) (passed_all_fit f (i + 1) args (rear_short code rest short))

held_all_fit : (f : Shape) (k : ℕ) (args : Arguments) → length (arguments_held f k args) < 2 ^ 18 → AllFit (arguments_held f k args)
held_all_fit f k no_arguments short = tt
held_all_fit f k (argument_then a args) short =
    let code : List Piece = argument_code f k a in
    let rest : List Piece = arguments_held f (k + 1) args in
    all_then code rest (argument_fits f k a (front_short code rest short)) (held_all_fit f (k + 1) args (rear_short code rest short))

call_fits : (f : Shape) (c : Callee) (args : Arguments) → length (call_code f c args) < 2 ^ 18 → AllFit (call_code f c args)
call_fits f (defined n) args short =
    all_then (arguments_passed f 0 args) (function_called (compiled n)) (passed_all_fit f 0 args (front_short (arguments_passed f 0 args) (function_called (compiled n)) short)) (called_fits (compiled n))
call_fits f (builtin b) args short =
    all_then (arguments_held f 0 args) (builtin_call b) (held_all_fit f 0 args (front_short (arguments_held f 0 args) (builtin_call b) short)) (builtin_fits b)

value_given_fits : (c : Callee) → AllFit (value_given c)
value_given_fits (defined n) = tt
value_given_fits (builtin b) = given_fits b

-- ---- operations of regions

dropped_fits : (f : Shape) (v : Value) → length (op_code f (evaluate v)) < 2 ^ 18 → AllFit (op_code f (evaluate v))
dropped_fits f (number v) short = tt
dropped_fits f (load p) short = tt
dropped_fits f (unary o v) short = tt
dropped_fits f (binary o a b) short = tt
dropped_fits f (call_value c args) short = call_fits f c args short

whole_fits : (f : Shape) (v : Value) → length (whole_value f v) < 2 ^ 18 → AllFit (whole_value f v)
whole_fits f (number v) short = brought_fits (operand f (number v)) 0 (operand_fits f (number v)) short
whole_fits f (load p) short = brought_fits (operand f (load p)) 0 (operand_fits f (load p)) short
whole_fits f (unary o v) short = brought_fits (operand f (unary o v)) 0 (operand_fits f (unary o v)) short
whole_fits f (binary o a b) short = brought_fits (operand f (binary o a b)) 0 (operand_fits f (binary o a b)) short
whole_fits f (call_value c args) short = all_then (call_code f c args) (value_given c) (call_fits f c args (front_short (call_code f c args) (value_given c) short)) (value_given_fits c)

-- a kept variable gets a value
copied_fits : (f : Shape) (rd : ℕ) (v : Value) → rd < 32 → length (whole_value f v ++ instruction (copied rd (whole_register f v)) ∷ []) < 2 ^ 18 → AllFit (whole_value f v ++ instruction (copied rd (whole_register f v)) ∷ [])
copied_fits f rd v small short =
    let code : List Piece = whole_value f v in
    let last : List Piece = instruction (copied rd (whole_register f v)) ∷ [] in
    all_then code last (whole_fits f v (front_short code last short)) ((small, read_small (operand f v) 0 (operand_fits f v), omega arith), tt)

value_kept_fits : (f : Shape) (rd : ℕ) (v : Value) → rd < 32 → length (value_kept f rd v) < 2 ^ 18 → AllFit (value_kept f rd v)
value_kept_fits f rd (number v) small short = value_fits f (number v) rd 0 small short
value_kept_fits f rd (unary o v) small short = value_fits f (unary o v) rd 0 small short
value_kept_fits f rd (binary o a b) small short = value_fits f (binary o a b) rd 0 small short
value_kept_fits f rd (load p) small short = copied_fits f rd (load p) small short
value_kept_fits f rd (call_value c args) small short = copied_fits f rd (call_value c args) small short

value_stored_fits : (f : Shape) (o : Option ℕ) (p : Place) (v : Value) → ((r : ℕ) → o ≡ Some r → r < 32) → length (value_stored f o p v) < 2 ^ 18 → AllFit (value_stored f o p v)
value_stored_fits f (Some rd) p v small short = value_kept_fits f rd v (small rd refl) short
value_stored_fits f None p v small short =
    let value : List Piece = whole_value f v in
    let put : List Piece = place_stored f (whole_register f v) (register 1) p in
    all_then value put (whole_fits f v (front_short value put short)) (store_fits f (whole_register f v) (register 1) p.root p.offset (read_small (operand f v) 0 (operand_fits f v)) (register_small 1))

called_at_fits : (f : Shape) (p : Place) (n : ℕ) (args : Arguments) → length (op_code f (construct p n args)) < 2 ^ 18 → AllFit (op_code f (construct p n args))
called_at_fits f p n args short =
    let front : List Piece = place_address f a0 p ++ passed a0 0 ∷ arguments_passed f 1 args in
    let call : List Piece = function_called (compiled n) in
    let first : List Piece = place_address f a0 p in
    let rest : List Piece = passed a0 0 ∷ arguments_passed f 1 args in
    let before : length (first ++ rest) < 2 ^ 18 = front_short (first ++ rest) call short in
    let later : length rest < 2 ^ 18 = rear_short first rest before in
    all_then (first ++ rest) call (all_then first rest (address_fits f a0 p.root p.offset (omega arith)) (passed_fits a0 0 (omega arith), passed_all_fit f 1 args (omega (arith, later)))) (called_fits (compiled n))

destructor_fits : (rd : ℕ) (d : Option ℕ) → rd < 32 → AllFit (destructor_set rd d)
destructor_fits rd None small = number_fits rd (pos 0) small
destructor_fits rd (Some d) small = target_fits rd (entry (compiled d)) small

op_fits : (f : Shape) (o : Op) → length (op_code f o) < 2 ^ 18 → AllFit (op_code f o)
op_fits f (evaluate v) short = dropped_fits f v short
op_fits f (store p v) short = value_stored_fits f (root_register f p.root) p v (λ r e. root_small f p.root r e) short
op_fits f (bind s p) short = all_then (place_address f a0 p) (slot_stored f a0 s ∷ []) (address_fits f a0 p.root p.offset (omega arith)) (stored_fits f a0 s (omega arith), tt)
op_fits f (call c args) short = call_fits f c args short
op_fits f (construct p n args) short = called_at_fits f p n args short
op_fits f (destroy p n) short = called_at_fits f p n no_arguments short
op_fits f (make s) short = all_then (runtime_call allocate_call) (slot_stored f a0 s ∷ []) (runtime_fits allocate_call (omega arith)) (stored_fits f a0 s (omega arith), tt)
op_fits f (throw s t d) short =
    let type_set : List Piece = target_address a1 (type_record t) in
    let destructor : List Piece = destructor_set a2 d in
    all_then ((slot_loaded f a0 s ∷ type_set) ++ destructor) (runtime_call throw_call)
    (all_then (slot_loaded f a0 s ∷ type_set) destructor (loaded_fits f a0 s (omega arith), target_fits a1 (type_record t) (omega arith)) (destructor_fits a2 d (omega arith))) (runtime_fits throw_call (omega arith))
op_fits f rethrow short = runtime_fits rethrow_call (omega arith)
op_fits f (enter s) short = (loaded_fits f a0 s (omega arith), runtime_fits begin_catch_call (omega arith))
op_fits f leave short = called_fits end_catch

-- ---- operations of linear code

epilogue_fits : (f : Shape) → AllFit (epilogue f)
epilogue_fits f = ((omega arith, omega arith, omega arith), ((omega arith, omega arith, immediate_small (pos f.size)), ((omega arith, omega arith, omega arith), tt)))

result_fits : (f : Shape) (r : Option ℕ) → AllFit (result_set f r)
result_fits f None = zero_fits
result_fits f (Some s) = (read_fits f s a0 (slot_offset f s + 0) (omega arith), tt)

ten_small : AllByRecursion (λ r. r < 32) saved_registers
ten_small = (omega arith, (omega arith, (omega arith, (omega arith, (omega arith, (omega arith, (omega arith, (omega arith, (omega arith, (omega arith, tt))))))))))

restores_fit : (f : Shape) (rs kept : List ℕ) → AllByRecursion (λ r. r < 32) rs → AllFit (restores f rs kept)
restores_fit f [] kept small = tt
restores_fit f (r ∷ rs) [] small = tt
restores_fit f (r ∷ rs) (s ∷ kept) small = ((small.0, omega arith, immediate_small (pos (slot_offset f s))), restores_fit f rs kept small.1)

operation_fits : (f : Shape) (o : LinearOp) → length (linear_code f o) < 2 ^ 18 → AllFit (linear_code f o)
operation_fits f (plain o) short = op_fits f o short
operation_fits f (label l) short = tt
operation_fits f (jump l) short = (tt, tt)
operation_fits f (jump_zero v l) short = all_then (test_code f v) (jump_to l ∷ []) (test_fits f v (front_short (test_code f v) (jump_to l ∷ []) short)) (tt, tt)
operation_fits f (pad o s) short = (stored_fits f a0 o (omega arith), (stored_fits f a1 s (omega arith), tt))
operation_fits f (jump_filter s n l) short =
    all_then (int_loaded f a0 s ∷ number_set a1 n) (jump_same a0 a1 l) (read_fits f s a0 (slot_offset f s + 0) (omega arith), number_fits a1 n (omega arith)) ((omega arith, omega arith, omega arith), (tt, tt))
operation_fits f (free s) short = (loaded_fits f a0 s (omega arith), runtime_fits free_call (omega arith))
operation_fits f (resume s) short = (loaded_fits f a0 s (omega arith), runtime_fits resume_call (omega arith))
operation_fits f (unexpected o s) short =
    (loaded_fits f a0 o (omega arith), (passed_fits a0 0 (omega arith), (loaded_fits f a0 s (omega arith), (passed_fits a0 1 (omega arith), called_fits call_unexpected))))
operation_fits f (return r) short =
    let back : List Piece = restores f saved_registers f.kept in
    all_then (result_set f r ++ back) (epilogue f) (all_then (result_set f r) back (result_fits f r) (restores_fit f saved_registers f.kept ten_small)) (epilogue_fits f)

-- ---- functions

tested_fits : (leaf : Bool) → AllFit (stack_tested leaf)
tested_fits true = tt
tested_fits false = ((omega arith, omega arith), ((omega arith, omega arith, omega arith), ((omega arith, omega arith, omega arith), ((omega arith, omega arith, omega arith), tt))))

prologue_fits : (f : Shape) → AllFit (prologue f)
prologue_fits f = all_then (frame_taken f) (stack_tested f.leaf) ((omega arith, omega arith, immediate_small (pos 0 -ℤ pos f.size)), ((omega arith, omega arith, omega arith), tt)) (tested_fits f.leaf)

one_saved_fits : (parameters n r s : ℕ) → r < 32 → AllFit (one_saved parameters (immediate (pos n)) r s)
one_saved_fits parameters n r s small =
    cond_both (nat_lt s parameters) (instruction (Lw t0 sp (immediate (pos n))) ∷ instruction (Sd sp r (immediate (pos n))) ∷ instruction (copied r t0) ∷ []) (instruction (Sd sp r (immediate (pos n))) ∷ []) AllFit
    (λ e. ((omega arith, omega arith, immediate_small (pos n)), ((omega arith, small, immediate_small (pos n)), ((small, omega arith, omega arith), tt)))) (λ e. ((omega arith, small, immediate_small (pos n)), tt))

saves_fit : (f : Shape) (parameters : ℕ) (rs kept : List ℕ) → AllByRecursion (λ r. r < 32) rs → AllFit (saves f parameters rs kept)
saves_fit f parameters [] kept small = tt
saves_fit f parameters (r ∷ rs) [] small = tt
saves_fit f parameters (r ∷ rs) (s ∷ kept) small =
    all_then (one_saved parameters (immediate (pos (slot_offset f s))) r s) (saves f parameters rs kept) (one_saved_fits parameters (slot_offset f s) r s small.0) (saves_fit f parameters rs kept small.1)

blocks_fit : (f : Shape) (ops : List LinearOp) → block_words (map (linear_code f) ops) < 2 ^ 18 → AllFit (flat_map (λ b. b) (map (linear_code f) ops))
blocks_fit f [] short = tt
blocks_fit f (o ∷ ops) short =
    all_then (linear_code f o) (flat_map (λ b. b) (map (linear_code f) ops)) (operation_fits f o (omega (arith, short))) (blocks_fit f ops (omega (arith, short)))

pub pieces_fit : PiecesFit
pieces_fit = record {
  operation = operation_fits;
  function = λ g short.
      let f : Shape = shape_of g in
      let kept : List Piece = saves f g.parameters saved_registers f.kept in
      all_then (prologue f ++ kept) (flat_map (λ b. b) (map (linear_code f) g.ops)) (all_then (prologue f) kept (prologue_fits f) (saves_fit f g.parameters saved_registers f.kept ten_small))
      (blocks_fit f g.ops (omega (arith, short)));
}
