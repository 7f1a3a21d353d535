-- The bytes of operations behind which calls go on.
use Rattle.std.proofs.Common.{◌≡◌, ◌∙◌, sym, ap, arith, ℕ, ◌+◌, ◌*◌, ◌<◌, ◌≤◌, List, [], ◌++◌, length, length-append, inl, inr}
use Rattle.linear_forms.specs.Linear.{LinearOp, unexpected}
use Rattle.linear_forms.specs.Stub.{compiled, end_catch}
use Rattle.linear_forms.proofs.Lists.{mapped}
use Rattle.machine_forms.specs.Piece.{Piece}
use Rattle.machine_forms.specs.Bounds.{LinearFits}
use Rattle.machine_forms.specs.CallCode.{function_called}
use Rattle.machine_forms.specs.Shape.{Shape}
use Rattle.machine_forms.specs.LinearCode.{linear_code}
use Rattle.machine_forms.specs.Routine.{op_word, op_byte}
use Rattle.image_tables.specs.Functions.{records_end, first_byte}
use Rattle.machine_simulation.specs.Plan.{Plan, function, shape, routine}
use Rattle.machine_simulation.specs.Calls.{IsCalling, stored_behind}
use Rattle.machine_simulation.proofs.Words.{next_word}
use Rattle.machine_simulation.proofs.Entering.{passing, call_code_of}
use Rattle.machine_raises.specs.Stacks.{GoesOnIn}

-- the last byte before an address where a compiled function goes on
pub record ByteBefore (p : Plan) (n place ip : ℕ) : Type 0 where
  pub byte : ℕ
  pub first : op_byte (routine p n) place ≤ byte
  pub last : byte < op_byte (routine p n) (place + 1)
  pub is : ip ≡ first_byte p.unit (compiled n) + byte + 1

pub byte_before : (p : Plan) (n place ip : ℕ) → p.base ≡ records_end p.unit → GoesOnIn p n place ip → ByteBefore p n place ip
byte_before p n place ip base g =
    let r = routine p n in
    let code = linear_code (shape p n) g.operation in
    let block = mapped (linear_code (shape p n)) (function p n).ops place g.operation g.there in
    let next : op_word r (place + 1) ≡ op_word r place + length code = next_word r place code block in
    let inside = g.inside in
    record {
      byte = 4 * (op_word r place + g.word) + 3;
      first = omega arith;
      last = omega (arith, next, inside);
      is = omega (arith, g.is, base);
    }

-- ---- an operation that calls has a word before what is behind its call
behind_some : (a b c front : List Piece) → 0 < length b → a ++ (b ++ c) ≡ front ++ c → 0 < length front
behind_some a b c front some e =
    omega (arith, some, ap length e, length-append a (b ++ c), length-append b c, length-append front c)

pub calls_a_word : (f : Shape) (o : LinearOp) (front : List Piece) → LinearFits o → IsCalling o → linear_code f o ≡ front ++ stored_behind f o → 0 < length front
calls_a_word f o front fits (inl call) is =
    let code = call_code_of f o call.0 call.1 fits in
    behind_some (passing f call.0) (function_called (compiled call.0.number)) (stored_behind f o) front (omega arith) (sym code.pieces ∙ is)
calls_a_word f o front fits (inr (inl leaves)) is =
    let e : function_called end_catch ≡ front ++ [] = sym (ap (linear_code f) leaves) ∙ is ∙ ap (λ x. front ++ stored_behind f x) leaves in
    omega (arith, ap length e, length-append front [])
calls_a_word f o front fits (inr (inr passes)) is =
    let e : linear_code f (unexpected passes.0 passes.1) ≡ front ++ [] = sym (ap (linear_code f) passes.2) ∙ is ∙ ap (λ x. front ++ stored_behind f x) passes.2 in
    omega (arith, ap length e, length-append front [])
