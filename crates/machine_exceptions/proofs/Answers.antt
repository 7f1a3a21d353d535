-- Calls of built-in functions that come back are matched.
use Rattle.std.proofs.Common.{◌≡◌, ◌∙◌, refl, ap, subst, arith, ℕ, ◌+◌, ◌<◌, ◌==◌, not, Bool, true, false, pos, List, [], ◌++◌, length, Option, Some, None, inl, inr}
use Rattle.std.specs.Prelude.{slice_get, if◌then◌else◌}
use Rattle.cxx_ast.specs.declared.name.Builtin.{Builtin}
use Rattle.cxx_ast.specs.declared.name.Builtin.TheVariants.{SetTerminate, SetUnexpected, Uncaught}
use Rattle.meaning_forms.specs.Arithmetic.{truth}
use Rattle.rv64_isa.specs.State.{State}
use Rattle.rv64_isa.specs.Step.{x}
use Rattle.cxa_runtime.specs.World as abi
use Rattle.cxa_runtime.specs.World.{argument, goes, gives}
use Rattle.cxa_runtime.specs.Raising.{Image}
use Rattle.cxa_runtime.specs.Plain.{uncaught_exception, set_terminate, set_unexpected}
use Rattle.cxa_runtime.specs.Call.{call_effect, numbered}
use Rattle.cxa_runtime.specs.Run.{counted}
use Rattle.region_forms.specs.Form.{Place, handler_argument, no_arguments, argument_then}
use Rattle.region_forms.specs.World.{World}
use Rattle.region_forms.specs.Effect.{some_travel}
use Rattle.linear_forms.specs.Linear.{LinearOp}
use Rattle.linear_forms.specs.Stub.{compiled}
use Rattle.linear_forms.specs.Activation.{State as LinearState}
use Rattle.linear_forms.specs.UnitRun.{code_of}
use Rattle.machine_forms.specs.Registers.{sp, a0, register}
use Rattle.machine_forms.specs.Piece.{Piece, entry}
use Rattle.machine_forms.specs.PlaceCode.{target_address}
use Rattle.machine_forms.specs.CallCode.{arguments_held}
use Rattle.machine_forms.specs.RuntimeCall.{builtin_call, runtime_call}
use Rattle.machine_forms.specs.LinearCode.{linear_code}
use Rattle.machine_forms.specs.Routine.{op_word}
use Rattle.machine_pieces.specs.Numbers.{IsInt, extended}
use Rattle.machine_pieces.specs.Standing.{Ground, address}
use Rattle.machine_pieces.specs.Going.{Computes}
use Rattle.machine_pieces.specs.Laws.{PlacesAreWritten, CallsAreTurns}
use Rattle.machine_pieces.proofs.Fetching.{pieces_split}
use Rattle.machine_pieces.proofs.Going.{goes_none}
use Rattle.machine_pieces.proofs.Registers.{set_length, read_same, read_other}
use Rattle.machine_stubs.specs.Calls.{asked, CallsAreMade}
use Rattle.machine_simulation.specs.Plan.{Plan, function, shape, slot_kinds, routine, first_word, setting}
use Rattle.machine_simulation.specs.Matches.{RuntimeMatches, Matches}
use Rattle.machine_simulation.specs.Operations.{Matched}
use Rattle.machine_simulation.specs.Asked.{WantedAsked}
use Rattle.machine_simulation.specs.Steps.{StepAt}
use Rattle.machine_simulation.proofs.Words.{OperationAt, operation_at}
use Rattle.machine_simulation.proofs.Asked.{wanted_stands}
use Rattle.machine_simulation.proofs.Matching.{Stands, stands_by, runtime_stays}
use Rattle.machine_simulation.proofs.Holding.{same_number}
use Rattle.machine_simulation.proofs.Reading.{finished_step}
use Rattle.machine_simulation.proofs.Entered.{entry_reached}
use Rattle.machine_exceptions.specs.Answers.{CallsBuiltin, AnswersRun}
use Rattle.machine_exceptions.proofs.Ecalls.{AtEcall, given_in_first}
use Rattle.machine_exceptions.proofs.Answering.{Answer, answered}
use Rattle.machine_exceptions.proofs.Builtins.{builtin_op}
use Rattle.machine_exceptions.proofs.Targets.{target_computes}
use Rattle.machine_exceptions.proofs.Modules.{module_run}

-- ---- whether an exception travels

uncaught_is : (image : Image) (wish : ℕ) (t : abi.World) → call_effect 10 image wish t ≡ uncaught_exception t
unfolding call_effect numbered
uncaught_is image wish t = refl

truth_int : (b : Bool) → IsInt (truth b)
truth_int true = refl
truth_int false = refl

flag_of : (b : Bool) → (if b then 0 else 1) ≡ extended (truth (not b))
flag_of true = refl
flag_of false = refl

uncaught_answers : CallsAreMade → (image : Image) (p : Plan) (n : ℕ) (st : LinearState) (w : abi.World) (wants : Option Place) (g : Ground) (here : ℕ) (m : State) → RuntimeMatches p st.frames st.world w → (ec : AtEcall image g here 0 10 w m) →
    Answer image p st.frames wants ec.at ec.behind st.world (truth (some_travel st.world.uncaught))
uncaught_answers made image p n st w wants g here m h ec =
    let t : abi.World = asked ec.behind ec.at in
    let r = runtime_stays p st.frames st.world w ec.at ec.runtime h in
    let value : ℕ = if ec.at.exceptions.uncaught == 0 then 0 else 1 in
    let end : abi.World = gives 10 value t in
    let effect : (wish : ℕ) → call_effect 10 image wish t ≡ abi.goes end = λ wish. uncaught_is image wish t in
    let is : value ≡ extended (truth (some_travel st.world.uncaught)) = ap (λ k. if k == 0 then 0 else 1) r.exceptions.uncaught ∙ flag_of (st.world.uncaught == 0) in
    record {
      after = counted end;
      turn = made.goes_on image 10 ec.at end ec.behind ec.calls ec.asks effect refl;
      pc = refl;
      memory = refl;
      registers = set_length ec.behind.regs 10 value ∙ ec.registers;
      stack = read_other ec.behind.regs 10 sp value (λ d. absurd (omega (arith, d)));
      saved = given_in_first ec.behind end.hart value refl;
      value = inr (truth_int (some_travel st.world.uncaught), read_same ec.behind.regs 10 value (λ d. absurd (omega (arith, d))) (omega (arith, ec.registers)) ∙ is);
      runtime = record { input = r.input; replies = r.replies; last_number = r.last_number; terminating = r.terminating; exceptions = r.exceptions; plan = r.plan };
    }

uncaught_run : PlacesAreWritten → CallsAreTurns → CallsAreMade → (image : Image) (p : Plan) (n : ℕ) (st next : LinearState) (w : abi.World) (o : LinearOp) (wants : Option Place) → Matches p st w → StepAt p st next n o →
    CallsBuiltin Uncaught no_arguments wants o → WantedAsked p n st.top.frame wants → Matched image (length (linear_code (shape p n) o)) w [] (λ u. Matches p next u)
uncaught_run places turns made image p n st next w o wants h at calls asks =
    let stood = stands_by p n st w h at.runs in
    let op = builtin_op p n Uncaught no_arguments st o at.runs at.there wants calls (inr refl) in
    let went = finished_step (code_of p.unit) (slot_kinds p n) wants (truth (some_travel st.world.uncaught)) st.world st next (op.steps next at.step) in
    let none = goes_none (setting p n).ground (first_word p n + op_word (routine p n) st.top.place) 0 w.hart stood.pc stood.registers in
    answered places turns image p n 10 st next w h.back o wants [] st.world (truth (some_travel st.world.uncaught)) stood at.there op.pieces (omega arith) none
    (record { memory = refl; calls = refl; later = same_number st.world }) (wanted_stands p n st.top.frame st.world w.hart.memory (x w.hart sp) h.back stood.memory.top wants asks) went
    (λ ec. uncaught_answers made image p n st w wants (setting p n).ground (first_word p n + op_word (routine p n) st.top.place) none.after stood.runtime ec)

-- ---- handlers

set_terminate_is : (image : Image) (wish : ℕ) (t : abi.World) → call_effect 11 image wish t ≡ set_terminate t
unfolding call_effect numbered
set_terminate_is image wish t = refl

set_unexpected_is : (image : Image) (wish : ℕ) (t : abi.World) → call_effect 12 image wish t ≡ set_unexpected t
unfolding call_effect numbered
set_unexpected_is image wish t = refl

-- the function's address comes into a0
handler_held : (p : Plan) (n m : ℕ) (st : LinearState) (w : abi.World) (back : ℕ) (o : LinearOp) (rest : List Piece) → Stands p n st w back → slice_get (function p n).ops st.top.place ≡ Some o → m < length p.unit.functions →
    linear_code (shape p n) o ≡ target_address (register 0) (entry (compiled m)) ++ rest →
    Computes (setting p n).ground (first_word p n + op_word (routine p n) st.top.place) 2 0 w.hart (address (setting p m).ground (first_word p m))
handler_held p n m st w back o rest h there known pieces =
    let here : ℕ = first_word p n + op_word (routine p n) st.top.place in
    let own = subst (OperationAt p w.hart.memory n st.top.place) pieces (operation_at p w.hart.memory n st.top.place o h.memory.unit h.memory.top.known there) in
    let parts = pieces_split w.hart.memory (setting p n).ground here (target_address (register 0) (entry (compiled m))) rest own.code in
    target_computes (setting p n).ground here 0 (address (setting p m).ground (first_word p m)) (entry (compiled m)) w.hart (entry_reached p n m w.hart.memory h.memory.unit known)
    (omega (arith, (h.memory.unit.functions m known).0.word.below)) (omega arith) h.registers parts.0 h.pc

handler_pieces : (p : Plan) (n m number : ℕ) (b : Builtin) (o : LinearOp) → builtin_call b ≡ runtime_call number → linear_code (shape p n) o ≡ arguments_held (shape p n) 0 (argument_then (handler_argument m) no_arguments) ++ (builtin_call b ++ []) →
    linear_code (shape p n) o ≡ target_address (register 0) (entry (compiled m)) ++ (runtime_call number ++ [])
handler_pieces p n m number b o is pieces = pieces ∙ ap (λ c. target_address (register 0) (entry (compiled m)) ++ (c ++ [])) is

-- the world with another handler
abbrev with_terminate : ℕ → World → World
with_terminate m v = record v { installed = record v.installed { terminate_handler = Some m } }

abbrev with_unexpected : ℕ → World → World
with_unexpected m v = record v { installed = record v.installed { unexpected_handler = Some m } }

terminate_set_run : PlacesAreWritten → CallsAreTurns → CallsAreMade → (image : Image) (p : Plan) (n m : ℕ) (st next : LinearState) (w : abi.World) (o : LinearOp) → Matches p st w → StepAt p st next n o →
    CallsBuiltin SetTerminate (argument_then (handler_argument m) no_arguments) None o → m < length p.unit.functions → Matched image (length (linear_code (shape p n) o)) w [] (λ u. Matches p next u)
terminate_set_run places turns made image p n m st next w o h at calls known =
    let stood = stands_by p n st w h at.runs in
    let op = builtin_op p n SetTerminate (argument_then (handler_argument m) no_arguments) st o at.runs at.there None calls (inl refl) in
    let pieces = handler_pieces p n m 11 SetTerminate o refl op.pieces in
    let went = finished_step (code_of p.unit) (slot_kinds p n) None (pos 0) (with_terminate m st.world) st next (op.steps next at.step) in
    let first = handler_held p n m st w h.back o (runtime_call 11 ++ []) stood at.there known pieces in
    answered places turns image p n 11 st next w h.back o None (target_address (register 0) (entry (compiled m))) (with_terminate m st.world) (pos 0) stood at.there pieces (omega arith) first.goes
    (record { memory = refl; calls = refl; later = same_number st.world }) tt went (λ ec.
    let t : abi.World = asked ec.behind ec.at in
    let r = runtime_stays p st.frames st.world w ec.at ec.runtime stood.runtime in
    let e = r.exceptions in
    let end : abi.World = record t { terminate_handler = argument t 10 } in
    let effect : (wish : ℕ) → call_effect 11 image wish t ≡ abi.goes end = λ wish. set_terminate_is image wish t in
    let given : argument t 10 ≡ address (setting p m).ground (first_word p m) = ec.kept a0 (λ d. absurd (omega (arith, d))) ∙ first.is in
    record {
      after = counted end;
      turn = made.goes_on image 11 ec.at end ec.behind ec.calls ec.asks effect refl;
      pc = refl;
      memory = refl;
      registers = ec.registers;
      stack = refl;
      saved = refl;
      value = inl refl;
      runtime = record {
        input = r.input;
        replies = r.replies;
        last_number = r.last_number;
        terminating = r.terminating;
        exceptions = record {
          sound = e.sound;
          headers = e.headers;
          live = e.live;
          count = e.count;
          once = e.once;
          numbers = e.numbers;
          caught = e.caught;
          uncaught = e.uncaught;
          terminate_handler = (given, known);
          unexpected_handler = e.unexpected_handler;
          distinct = e.distinct;
          left = e.left;
        };
        plan = r.plan;
      };
    })

unexpected_set_run : PlacesAreWritten → CallsAreTurns → CallsAreMade → (image : Image) (p : Plan) (n m : ℕ) (st next : LinearState) (w : abi.World) (o : LinearOp) → Matches p st w → StepAt p st next n o →
    CallsBuiltin SetUnexpected (argument_then (handler_argument m) no_arguments) None o → m < length p.unit.functions → Matched image (length (linear_code (shape p n) o)) w [] (λ u. Matches p next u)
unexpected_set_run places turns made image p n m st next w o h at calls known =
    let stood = stands_by p n st w h at.runs in
    let op = builtin_op p n SetUnexpected (argument_then (handler_argument m) no_arguments) st o at.runs at.there None calls (inl refl) in
    let pieces = handler_pieces p n m 12 SetUnexpected o refl op.pieces in
    let went = finished_step (code_of p.unit) (slot_kinds p n) None (pos 0) (with_unexpected m st.world) st next (op.steps next at.step) in
    let first = handler_held p n m st w h.back o (runtime_call 12 ++ []) stood at.there known pieces in
    answered places turns image p n 12 st next w h.back o None (target_address (register 0) (entry (compiled m))) (with_unexpected m st.world) (pos 0) stood at.there pieces (omega arith) first.goes
    (record { memory = refl; calls = refl; later = same_number st.world }) tt went (λ ec.
    let t : abi.World = asked ec.behind ec.at in
    let r = runtime_stays p st.frames st.world w ec.at ec.runtime stood.runtime in
    let e = r.exceptions in
    let end : abi.World = record t { unexpected_handler = argument t 10 } in
    let effect : (wish : ℕ) → call_effect 12 image wish t ≡ abi.goes end = λ wish. set_unexpected_is image wish t in
    let given : argument t 10 ≡ address (setting p m).ground (first_word p m) = ec.kept a0 (λ d. absurd (omega (arith, d))) ∙ first.is in
    record {
      after = counted end;
      turn = made.goes_on image 12 ec.at end ec.behind ec.calls ec.asks effect refl;
      pc = refl;
      memory = refl;
      registers = ec.registers;
      stack = refl;
      saved = refl;
      value = inl refl;
      runtime = record {
        input = r.input;
        replies = r.replies;
        last_number = r.last_number;
        terminating = r.terminating;
        exceptions = record {
          sound = e.sound;
          headers = e.headers;
          live = e.live;
          count = e.count;
          once = e.once;
          numbers = e.numbers;
          caught = e.caught;
          uncaught = e.uncaught;
          terminate_handler = e.terminate_handler;
          unexpected_handler = (given, known);
          distinct = e.distinct;
          left = e.left;
        };
        plan = r.plan;
      };
    })

pub answers_run : PlacesAreWritten → CallsAreTurns → CallsAreMade → AnswersRun
answers_run places turns made = record {
  uncaught = λ image p n st next w o wants h at calls asks. uncaught_run places turns made image p n st next w o wants h at calls asks;
  terminate_set = λ image p n m st next w o h at calls known. terminate_set_run places turns made image p n m st next w o h at calls known;
  unexpected_set = λ image p n m st next w o h at calls known. unexpected_set_run places turns made image p n m st next w o h at calls known;
  module_called = λ image p n st next w o wants k z replies h at calls asks few answers int. module_run places turns made image p n st next w o wants k z replies h at calls asks few answers int;
}
