-- An exception is thrown, and nothing stops it: what the runtime call does.
use Rattle.std.proofs.Common.{◌≡◌, ◌∙◌, refl, sym, ap, arith, ℕ, ◌+◌, ◌^◌, ◌<◌, ◌∷◌, length, map, Option, Some, None}
use Rattle.std.specs.Prelude.{slice_get}
use Rattle.meaning_forms.specs.Class.{contains}
use Rattle.rv64_isa.specs.Step.{x}
use Rattle.elf_image.specs.Clean.{CleanImage}
use Rattle.raise_core.specs.Raise as unwinder
use Rattle.caught_stack.specs.declared.header.Header.{Header}
use Rattle.caught_stack.specs.declared.header.HeaderKind.TheVariants.{Building}
use Rattle.cxa_runtime.specs.declared.object.Object.{Object}
use Rattle.cxa_runtime.specs.Types.{type_records}
use Rattle.cxa_runtime.specs.Objects.{object_of, object_where, is_building}
use Rattle.cxa_runtime.specs.World as abi
use Rattle.cxa_runtime.specs.World.{argument}
use Rattle.cxa_runtime.specs.Raising.{Image, native_unhandled}
use Rattle.cxa_runtime.specs.Throw.{flying}
use Rattle.cxa_runtime.specs.Call.{call_effect}
use Rattle.eh_run.specs.Program.{program_of}
use Rattle.region_forms.specs.Form.{throw}
use Rattle.region_forms.specs.World.{World, building}
use Rattle.linear_forms.specs.Search.{found_above}
use Rattle.linear_forms.specs.Linear.{plain}
use Rattle.linear_forms.specs.Activation.{State as LinearState}
use Rattle.linear_forms.specs.UnitRun.{code_of}
use Rattle.machine_forms.specs.Registers.{sp, a0, a1, a2}
use Rattle.machine_forms.specs.OperationCode.{destructor_set}
use Rattle.machine_forms.specs.LinearCode.{linear_code}
use Rattle.machine_forms.specs.Routine.{op_word}
use Rattle.machine_pieces.specs.Standing.{Ground}
use Rattle.machine_pieces.specs.Laws.{CallsAreTurns}
use Rattle.machine_stubs.specs.Calls.{asked}
use Rattle.image_forms.specs.Placed.{record_at}
use Rattle.table_verdicts.specs.Types.{with_bases, thrown_as}
use Rattle.image_tables.specs.Functions.{records_end, operation_at as image_operation_at}
use Rattle.image_tables.proofs.TypesRead.{types_are_read}
use Rattle.raise_simulation.specs.Raises.{RaisesAgree}
use Rattle.machine_simulation.specs.Plan.{Plan, function, shape, routine, first_word, setting}
use Rattle.machine_simulation.specs.Exceptions.{addresses_of, exceptions_in, kept_by, destroyed, live_in, HasHeader, IsFunction, record_address}
use Rattle.machine_simulation.proofs.Words.{operation_at}
use Rattle.machine_simulation.proofs.Matching.{Stands}
use Rattle.machine_exceptions.proofs.Ecalls.{ecall_reached}
use Rattle.machine_exceptions.proofs.Finding.{live_header, object_found}
use Rattle.machine_raises.specs.Stacks.{IsRunning, InCall}
use Rattle.machine_raises.specs.Throws.{MayThrow}
use Rattle.machine_raises.proofs.Native.{counts_building, thrown_object}
use Rattle.machine_raises.proofs.Stacks.{all_opens, all_tail, opens_are, stack_raised}
use Rattle.machine_raises.proofs.ThrowWords.{throw_given}
use Rattle.machine_raises.proofs.Throwing.{throw_is, throws_as, throw_words}
use Rattle.machine_raises.proofs.AtCalls.{running_still}
use Rattle.raise_ends.proofs.Asking.{AtCall, high_at, at_call, lost_as}

-- the exception that was being built is native now, and the runtime is left with it
pub record ThrowLost (i : CleanImage) (p : Plan) (n s e t : ℕ) (d : Option ℕ) (st : LinearState) (w : abi.World) (back : ℕ) : Type 0 where
  pub call : AtCall (program_of i).image p n st w back 5 (length (linear_code (shape p n) (plain (throw s t d))))
  pub slot : ℕ
  pub function : ℕ
  pub has : HasHeader call.at.exceptions.live e slot
  pub kind : has.header.kind ≡ Building
  pub is : IsFunction (addresses_of p) d function
  pub effect : (wish : ℕ) → let y = asked call.behind call.at in let o = thrown_object p y slot t function has.header in call_effect 5 (program_of i).image wish y ≡ native_unhandled (program_of i).image.places o (flying o y)

pub throw_lost : CallsAreTurns → RaisesAgree → (i : CleanImage) (p : Plan) (n s e t : ℕ) (d : Option ℕ) (st : LinearState) (w : abi.World) (back : ℕ) → Stands p n st w back → IsRunning p i w.hart →
    slice_get (function p n).ops st.top.place ≡ Some (plain (throw s t d)) → MayThrow p n st.top.frame s e t d → live_in st.world.live e ≡ Some building → found_above (code_of p.unit) (Some t) (st.top ∷ st.frames) ≡ None → ThrowLost i p n s e t d st w back
throw_lost turns agree i p n s e t d st w back h running at may being none =
    let image : Image = (program_of i).image in
    let g : Ground = (setting p n).ground in
    let here : ℕ = first_word p n + op_word (routine p n) st.top.place in
    let v : World = st.world in
    let words : ℕ = 3 + length (destructor_set a2 d) in
    let all = throw_words p n s t d in
    let low : record_at (records_end p.unit) t < 2 ^ 64 = omega (arith, running.base, h.memory.unit.stubs.start.0.word.below) in
    let own = operation_at p w.hart.memory n st.top.place (plain (throw s t d)) h.memory.unit h.memory.top.known at in
    let given = throw_given p i n here s e t d st w back h running may.holds may.type may.destructor own.code h.pc low in
    let ec = ecall_reached turns image g here words 0 5 w given.goes (omega arith) given.call in
    let c = at_call image p n st w back g here words 5 (length (linear_code (shape p n) (plain (throw s t d)))) given.goes.after h ec (omega (arith, all)) (high_at p n st w back (plain (throw s t d)) h at refl) in
    let y : abi.World = asked c.behind c.at in
    let live = live_header (addresses_of p) (destroyed st.frames) (exceptions_in v) (kept_by y) e building c.runtime.exceptions being in
    let slot : ℕ = live.slot in
    let header : Header = live.has.header in
    let kind : header.kind ≡ Building = counts_building (addresses_of p) (contains (destroyed st.frames) e) header live.is in
    let rec : ℕ = record_address p.base t in
    let types = map (record_at (records_end p.unit)) (with_bases p.unit.types t) in
    let o : Object = thrown_object p y slot t given.function header in
    let is0 : argument y 10 ≡ object_of slot = ec.kept a0 (λ b. absurd (omega (arith, b))) ∙ given.object ∙ live.object in
    let is1 : argument y 11 ≡ rec = ec.kept a1 (λ b. absurd (omega (arith, b))) ∙ given.type ∙ sym (ap (λ b. record_at b t) running.base) in
    let is2 : argument y 12 ≡ given.function = ec.kept a2 (λ b. absurd (omega (arith, b))) ∙ given.destructor in
    let object : object_where is_building y.exceptions.live (argument y 10) ≡ Some (record { slot = slot; header = header })
    = ap (object_where is_building ec.at.exceptions.live) is0 ∙ object_found is_building ec.at.exceptions.live slot header live.below live.has.there (ap is_building kind) in
    let there = running_still p i w.hart ec.behind ec.memory running in
    let read : type_records y.hart rec ≡ Some types = ap (λ b. type_records ec.behind (record_at b t)) running.base ∙ types_are_read p.unit i ec.behind t there.image there.run may.type may.bases in
    let incall : InCall p n back st.top st.frames v ec.behind = record {
      runs = h.runs;
      registers = ec.registers;
      goes_on = record { operation = plain (throw s t d); there = at; word = words + 1; inside = omega (arith, all); is = ec.pc ∙ omega arith };
      memory = c.memory;
      kept = c.variables;
    } in
    let lost = agree.lost (code_of p.unit) (image_operation_at p.unit) image.fdes (thrown_as (records_end p.unit) p.unit.types (Some t)) (Some t) ec.behind (x ec.behind sp) (all_opens p i n back st.top st.frames v ec.behind there incall)
    (all_tail p i n back st.top st.frames v ec.behind there incall) (stack_raised p i n back st.top st.frames v ec.behind there incall (Some t) may.type)
    (ap (found_above (code_of p.unit) (Some t)) (opens_are p i n back st.top st.frames v ec.behind there incall) ∙ none) in
    let end = lost_as image.places y.exceptions o (flying o y) (unwinder.raise image.fdes (thrown_as (records_end p.unit) p.unit.types (Some t)) ec.behind) ec.behind lost in
    record {
      call = c;
      slot = slot;
      function = given.function;
      has = live.has;
      kind = kind;
      is = given.is;
      effect = λ wish. throw_is image wish y ∙ throws_as image y slot rec given.function header types (native_unhandled image.places o (flying o y)) object is1 read is2 end;
    }
