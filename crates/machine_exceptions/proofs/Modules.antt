-- A call of a module that answers with a value is matched.
use Rattle.std.proofs.Common.{◌≡◌, ◌∙◌, refl, sym, ap, subst, arith, ℕ, zero, suc, ◌%◌, ◌^◌, ◌<◌, ◌≤◌, ℤ, pos, negsuc, List, [], ◌∷◌, length, Option, Some, None, inr}
use Rattle.std.specs.Prelude.{slice_get, slice_set}
use Rattle.eh_outer.specs.declared.module.Reply.{Reply}
use Rattle.eh_outer.specs.declared.module.Reply.TheVariants.{Value as ValueReply, Raise}
use Rattle.rv64_isa.specs.Step.{x}
use Rattle.cxa_runtime.specs.World as abi
use Rattle.cxa_runtime.specs.World.{argument, goes, gives}
use Rattle.cxa_runtime.specs.Raising.{Image}
use Rattle.cxa_runtime.specs.Foreign.{module_call, module_number, asked as module_asked}
use Rattle.cxa_runtime.specs.Call.{call_effect, numbered}
use Rattle.cxa_runtime.specs.Run.{counted}
use Rattle.region_forms.specs.Form.{Kinds, Place}
use Rattle.region_forms.specs.World.{Frame, World}
use Rattle.region_forms.specs.Effect.{finished, module_called, replied}
use Rattle.linear_forms.specs.Linear.{LinearOp}
use Rattle.linear_forms.specs.Activation.{State as LinearState, goes_to}
use Rattle.linear_forms.specs.Operation.{performed}
use Rattle.linear_forms.specs.UnitRun.{code_of}
use Rattle.machine_forms.specs.Registers.{sp, a0}
use Rattle.machine_forms.specs.LinearCode.{linear_code}
use Rattle.machine_pieces.specs.Numbers.{IsInt, extended}
use Rattle.machine_pieces.specs.Laws.{PlacesAreWritten, CallsAreTurns}
use Rattle.machine_pieces.proofs.Numbers.{small_pos, small_neg}
use Rattle.machine_pieces.proofs.Registers.{set_length, read_same, read_other}
use Rattle.machine_stubs.specs.Calls.{asked, CallsAreMade}
use Rattle.machine_simulation.specs.Plan.{Plan, shape, slot_kinds}
use Rattle.machine_simulation.specs.Matches.{Matches}
use Rattle.machine_simulation.specs.Operations.{Matched}
use Rattle.machine_simulation.specs.Asked.{WantedAsked}
use Rattle.machine_simulation.specs.Steps.{StepAt}
use Rattle.machine_simulation.proofs.Asked.{wanted_stands}
use Rattle.machine_simulation.proofs.Matching.{stands_by, runtime_stays}
use Rattle.machine_simulation.proofs.Holding.{same_number}
use Rattle.machine_simulation.proofs.Reading.{finished_step}
use Rattle.machine_exceptions.specs.Answers.{CallsModule, answer_in, answer_of}
use Rattle.machine_exceptions.proofs.Answering.{answered}
use Rattle.machine_exceptions.proofs.ModuleCalls.{module_begins}
use Rattle.machine_exceptions.proofs.Ecalls.{given_in_first}

module_is : (image : Image) (wish : ℕ) (t : abi.World) → call_effect 14 image wish t ≡ module_call image wish t
unfolding call_effect numbered
module_is image wish t = refl

-- ---- the machine for linear code

abbrev with_replies : List (List Reply) → World → World
with_replies replies v = record v { replies = replies }

some_same : {A : Type 0} (x y : A) → Some x ≡ Some y → x ≡ y
some_same x y e = cc e

abbrev both_given : ℤ → List (List Reply) → Option (ℤ × List (List Reply))
both_given a r = Some (a, r)

pair_same : (a b : ℤ) (r s : List (List Reply)) → both_given a r ≡ both_given b s → (a ≡ b) × (r ≡ s)
pair_same a b r s e =
    let x : ℤ × List (List Reply) = (a, r) in
    let y : ℤ × List (List Reply) = (b, s) in
    let both : x ≡ y = some_same x y e in
    (ap (λ (q : ℤ × List (List Reply)). q.0) both, ap (λ (q : ℤ × List (List Reply)). q.1) both)

-- a module that answers with a value gives it
module_gives : (kinds : Kinds) (wants : Option Place) (k z : ℤ) (replies : List (List Reply)) (f : Frame) (v : World) → answer_of k v.replies ≡ Some (z, replies) → module_called kinds wants k f v ≡ finished kinds wants z f (with_replies replies v)
module_gives kinds wants (negsuc k) z replies f v e =
    let both = pair_same (pos 0) z (v.replies) replies e in
    let number : pos 0 ≡ z = both.0 in
    let same : v.replies ≡ replies = both.1 in
    ap (λ y. finished kinds wants y f v) number ∙ ap (λ rs. finished kinds wants z f (with_replies rs v)) same
module_gives kinds wants (pos k) z replies f v e = by (slice_get v.replies k) e
  where
    by : (o : Option (List Reply)) → answer_in k v.replies o ≡ Some (z, replies) → replied kinds wants k o f v ≡ finished kinds wants z f (with_replies replies v)
    by None e =
        let both = pair_same (pos 0) z (v.replies) replies e in
        let number : pos 0 ≡ z = both.0 in
        let same : v.replies ≡ replies = both.1 in
        ap (λ y. finished kinds wants y f v) number ∙ ap (λ rs. finished kinds wants z f (with_replies rs v)) same
    by (Some []) e =
        let both = pair_same (pos 0) z (v.replies) replies e in
        let number : pos 0 ≡ z = both.0 in
        let same : v.replies ≡ replies = both.1 in
        ap (λ y. finished kinds wants y f v) number ∙ ap (λ rs. finished kinds wants z f (with_replies rs v)) same
    by (Some (ValueReply y ∷ left)) e =
        let both = pair_same (y) z (slice_set v.replies k left) replies e in
        let number : y ≡ z = both.0 in
        let same : slice_set v.replies k left ≡ replies = both.1 in
        ap (λ n. finished kinds wants n f (with_replies (slice_set v.replies k left) v)) number ∙ ap (λ rs. finished kinds wants z f (with_replies rs v)) same
    by (Some (Raise t ∷ left)) e = absurd (cc e)

-- ---- the runtime

set_same : (xs : List (List Reply)) (k : ℕ) (ys : List Reply) → slice_get xs k ≡ Some ys → slice_set xs k ys ≡ xs
set_same [] k ys h = absurd (cc h)
set_same (x ∷ xs) zero ys h = let same : x ≡ ys = cc h in ap (λ y. y ∷ xs) (sym same)
set_same (x ∷ xs) (suc k) ys h = ap (λ rest. x ∷ rest) (set_same xs k ys h)

none_beyond : (xs : List (List Reply)) (k : ℕ) → length xs ≤ k → slice_get xs k ≡ None
none_beyond [] k h = refl
none_beyond (x ∷ xs) zero h = absurd (omega (arith, h))
none_beyond (x ∷ xs) (suc k) h = none_beyond xs k (omega (arith, h))

-- what the runtime answers, and the replies that are left
runtime_gives : (image : Image) (wish k : ℕ) (z : ℤ) (replies : List (List Reply)) (t : abi.World) (o : Option (List Reply)) → slice_get t.replies k ≡ o → answer_in k t.replies o ≡ Some (z, replies) →
    module_asked image wish t k o ≡ goes (gives 10 (extended z) (record t { replies = replies }))
runtime_gives image wish k z replies t None is e =
    let both = pair_same (pos 0) z (t.replies) replies e in
    let number : pos 0 ≡ z = both.0 in
    let same : t.replies ≡ replies = both.1 in
    ap (λ y. goes (gives 10 (extended y) t)) number ∙ ap (λ rs. goes (gives 10 (extended z) (record t { replies = rs }))) same
runtime_gives image wish k z replies t (Some []) is e =
    let both = pair_same (pos 0) z (t.replies) replies e in
    let number : pos 0 ≡ z = both.0 in
    let same : t.replies ≡ replies = both.1 in
    ap (λ rs. goes (gives 10 (extended (pos 0)) (record t { replies = rs }))) (set_same t.replies k [] is ∙ same) ∙ ap (λ y. goes (gives 10 (extended y) (record t { replies = replies }))) number
runtime_gives image wish k z replies t (Some (ValueReply y ∷ left)) is e =
    let both = pair_same (y) z (slice_set t.replies k left) replies e in
    let number : y ≡ z = both.0 in
    let same : slice_set t.replies k left ≡ replies = both.1 in
    ap (λ rs. goes (gives 10 (extended y) (record t { replies = rs }))) same ∙ ap (λ n. goes (gives 10 (extended n) (record t { replies = replies }))) number
runtime_gives image wish k z replies t (Some (Raise token ∷ left)) is e = absurd (cc e)

-- the number of a module in 32 bits
module_answers : (image : Image) (wish : ℕ) (k z : ℤ) (replies : List (List Reply)) (t : abi.World) → IsInt k → argument t 10 ≡ extended k → length t.replies ≤ 2 ^ 31 → answer_of k t.replies ≡ Some (z, replies) →
    module_call image wish t ≡ goes (gives 10 (extended z) (record t { replies = replies }))
module_answers image wish (pos k) z replies t int given few e =
    let small = small_pos k int in
    let number : module_number t ≡ k = ap (λ a. a % 2 ^ 32) given ∙ omega (arith, small) in
    ap (λ n. module_asked image wish t n (slice_get t.replies n)) number ∙ runtime_gives image wish k z replies t (slice_get t.replies k) refl e
module_answers image wish (negsuc k) z replies t int given few e =
    let small = small_neg k int in
    let beyond : length t.replies ≤ module_number t = omega (arith, few, high given small) in
    let none : slice_get t.replies (module_number t) ≡ None = none_beyond t.replies (module_number t) beyond in
    ap (module_asked image wish t (module_number t)) none ∙ runtime_gives image wish (module_number t) z replies t None none e
  where
    high : argument t 10 ≡ extended (negsuc k) → k < 2 ^ 31 → 2 ^ 31 ≤ module_number t
    high given small = subst (λ a. 2 ^ 31 ≤ a % 2 ^ 32) (sym given) (omega (arith, small))

-- ---- all of it

pub module_run : PlacesAreWritten → CallsAreTurns → CallsAreMade → (image : Image) (p : Plan) (n : ℕ) (st next : LinearState) (w : abi.World) (o : LinearOp) (wants : Option Place) (k z : ℤ) (replies : List (List Reply)) → Matches p st w →
    StepAt p st next n o → CallsModule p n st wants o k → WantedAsked p n st.top.frame wants → length st.world.replies ≤ 2 ^ 31 → answer_of k st.world.replies ≡ Some (z, replies) → IsInt z →
    Matched image (length (linear_code (shape p n) o)) w [] (λ u. Matches p next u)
module_run places turns made image p n st next w o wants k z replies h at calls asks few answers int =
    let stood = stands_by p n st w h at.runs in
    let begins = module_begins p n st w h.back wants o k stood at.there calls in
    let u : World = with_replies replies st.world in
    let gave : performed (code_of p.unit) (finished (slot_kinds p n) wants z st.top.frame u) st.top st.frames st.world ≡ goes_to next
    = ap (λ f. performed (code_of p.unit) f st.top st.frames st.world) (sym (module_gives (slot_kinds p n) wants k z replies st.top.frame st.world answers)) ∙ begins.steps next at.step in
    let went = finished_step (code_of p.unit) (slot_kinds p n) wants z u st next gave in
    answered places turns image p n 14 st next w h.back o wants begins.front u z stood at.there begins.pieces (omega arith) begins.value.computes.goes (record { memory = refl; calls = refl; later = same_number st.world })
    (wanted_stands p n st.top.frame st.world w.hart.memory (x w.hart sp) h.back stood.memory.top wants asks) went (λ ec.
    let t : abi.World = asked ec.behind ec.at in
    let r = runtime_stays p st.frames st.world w ec.at ec.runtime stood.runtime in
    let end : abi.World = gives 10 (extended z) (record t { replies = replies }) in
    let given : argument t 10 ≡ extended k = ec.kept a0 (λ d. absurd (omega (arith, d))) ∙ begins.value.computes.is in
    let effect : (wish : ℕ) → call_effect 14 image wish t ≡ abi.goes end = λ wish.
    module_is image wish t ∙ module_answers image wish k z replies t begins.value.int given (omega (arith, few, ap length r.replies)) (ap (answer_of k) r.replies ∙ answers) in
    record {
      after = counted end;
      turn = made.goes_on image 14 ec.at end ec.behind ec.calls ec.asks effect refl;
      pc = refl;
      memory = refl;
      registers = set_length ec.behind.regs 10 (extended z) ∙ ec.registers;
      stack = read_other ec.behind.regs 10 sp (extended z) (λ d. absurd (omega (arith, d)));
      saved = given_in_first ec.behind end.hart (extended z) refl;
      value = inr (int, read_same ec.behind.regs 10 (extended z) (λ d. absurd (omega (arith, d))) (omega (arith, ec.registers)));
      runtime = record { input = r.input; replies = refl; last_number = r.last_number; terminating = r.terminating; exceptions = r.exceptions; plan = r.plan };
    })
