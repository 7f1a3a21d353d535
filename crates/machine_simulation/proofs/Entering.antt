-- What an operation that calls a compiled function is, on the machine for linear code and as pieces.
use Rattle.std.proofs.Common.{◌≡◌, ◌∙◌, refl, sym, ap, subst, ℕ, List, [], ◌∷◌, ◌++◌, append_assoc, append-nil, Option, Some, None}
use Rattle.std.specs.Prelude.{slice_get}
use Rattle.region_forms.specs.Form.{Place, call_value, defined, Arguments, no_arguments, evaluate, store, call, construct, destroy}
use Rattle.region_forms.specs.World.{Address, Word, address_word, World}
use Rattle.region_forms.specs.Evaluation.{with_some, address_of, words_in}
use Rattle.region_forms.specs.Effect.{calls, if_some}
use Rattle.linear_forms.specs.Linear.{LinearOp, plain}
use Rattle.linear_forms.specs.Stub.{compiled}
use Rattle.linear_forms.specs.Activation.{Code, Activation, State, goes_to, kinds, enters_function}
use Rattle.linear_forms.specs.Machine.{step}
use Rattle.linear_forms.specs.Operation.{act, performed}
use Rattle.linear_forms.specs.UnitRun.{code_of}
use Rattle.machine_forms.specs.Bounds.{LinearFits, ArgumentsFit}
use Rattle.machine_forms.specs.Registers.{a0}
use Rattle.machine_forms.specs.Piece.{Piece}
use Rattle.machine_forms.specs.Shape.{Shape}
use Rattle.machine_forms.specs.PlaceCode.{place_address}
use Rattle.machine_forms.specs.CallCode.{passed, arguments_passed, function_called}
use Rattle.machine_forms.specs.KeptCode.{root_register}
use Rattle.machine_forms.specs.OperationCode.{whole_value, value_stored}
use Rattle.machine_forms.specs.LinearCode.{linear_code}
use Rattle.machine_simulation.specs.Plan.{Plan, function, slot_kinds}
use Rattle.machine_simulation.specs.Calls.{CallOf, call_of, given_in, stored_behind}
use Rattle.machine_simulation.specs.Entering.{given_to}
use Rattle.machine_simulation.proofs.Quiet.{step_is}

-- ---- the step

object_calls : (code : Code) (n : ℕ) (given : List Word) (a : Activation) (fs : List Activation) (w : World) (oa : Option Address) (ow : Option (List Word)) →
    with_some oa (λ b. with_some ow (λ ws. Some (address_word b ∷ ws))) ≡ Some given →
    performed code (if_some oa (λ b. if_some ow (λ ws. calls None n (address_word b ∷ ws)))) a fs w ≡ enters_function code n given (a ∷ fs) w
object_calls code n given a fs w None ow e = absurd (cc e)
object_calls code n given a fs w (Some b) None e = absurd (cc e)
object_calls code n given a fs w (Some b) (Some ws) e = let same : address_word b ∷ ws ≡ given = cc e in ap (λ g. enters_function code n g (a ∷ fs) w) same

alone_calls : (code : Code) (n : ℕ) (given : List Word) (a : Activation) (fs : List Activation) (w : World) (oa : Option Address) → with_some oa (λ b. Some (address_word b ∷ [])) ≡ Some given →
    performed code (if_some oa (λ b. calls None n (address_word b ∷ []))) a fs w ≡ enters_function code n given (a ∷ fs) w
alone_calls code n given a fs w None e = absurd (cc e)
alone_calls code n given a fs w (Some b) e = let same : address_word b ∷ [] ≡ given = cc e in ap (λ g. enters_function code n g (a ∷ fs) w) same

act_calls : (code : Code) (o : LinearOp) (c : CallOf) (a : Activation) (fs : List Activation) (w : World) (given : List Word) → call_of o ≡ Some c → given_to (kinds code a.function) a.frame w c ≡ Some given →
    act code o a fs w ≡ enters_function code c.number given (a ∷ fs) w
act_calls code (plain (evaluate (call_value (defined n) args))) c a fs w given is e =
    let same : record { number = n; object = None; arguments = args } ≡ c = cc is in
    let words : words_in (kinds code a.function) a.frame w args ≡ Some given = ap (given_to (kinds code a.function) a.frame w) same ∙ e in
    ap (λ o. performed code (if_some o (λ g. calls None n g)) a fs w) words ∙ ap (λ (k : CallOf). enters_function code k.number given (a ∷ fs) w) same
act_calls code (plain (store q (call_value (defined n) args))) c a fs w given is e =
    let same : record { number = n; object = None; arguments = args } ≡ c = cc is in
    let words : words_in (kinds code a.function) a.frame w args ≡ Some given = ap (given_to (kinds code a.function) a.frame w) same ∙ e in
    ap (λ o. performed code (if_some o (λ g. calls (Some q) n g)) a fs w) words ∙ ap (λ (k : CallOf). enters_function code k.number given (a ∷ fs) w) same
act_calls code (plain (call (defined n) args)) c a fs w given is e =
    let same : record { number = n; object = None; arguments = args } ≡ c = cc is in
    let words : words_in (kinds code a.function) a.frame w args ≡ Some given = ap (given_to (kinds code a.function) a.frame w) same ∙ e in
    ap (λ o. performed code (if_some o (λ g. calls None n g)) a fs w) words ∙ ap (λ (k : CallOf). enters_function code k.number given (a ∷ fs) w) same
act_calls code (plain (construct q n args)) c a fs w given is e =
    let same : record { number = n; object = Some q; arguments = args } ≡ c = cc is in
    object_calls code n given a fs w (address_of (kinds code a.function) a.frame q) (words_in (kinds code a.function) a.frame w args) (ap (given_to (kinds code a.function) a.frame w) same ∙ e)
    ∙ ap (λ (k : CallOf). enters_function code k.number given (a ∷ fs) w) same
act_calls code (plain (destroy q n)) c a fs w given is e =
    let same : record { number = n; object = Some q; arguments = no_arguments } ≡ c = cc is in
    alone_calls code n given a fs w (address_of (kinds code a.function) a.frame q) (ap (given_to (kinds code a.function) a.frame w) same ∙ e)
    ∙ ap (λ (k : CallOf). enters_function code k.number given (a ∷ fs) w) same
act_calls code o c a fs w given is e = absurd (cc is)

pub call_step : (p : Plan) (n : ℕ) (st next : State) (o : LinearOp) (c : CallOf) (given : List Word) → st.top.function ≡ compiled n → slice_get (function p n).ops st.top.place ≡ Some o → call_of o ≡ Some c →
    given_to (slot_kinds p n) st.top.frame st.world c ≡ Some given → step (code_of p.unit) st ≡ goes_to next → enters_function (code_of p.unit) c.number given (st.top ∷ st.frames) st.world ≡ goes_to next
call_step p n st next o c given runs there is e h =
    sym (act_calls (code_of p.unit) o c st.top st.frames st.world given is (ap (λ f. given_to (kinds (code_of p.unit) f) st.top.frame st.world c) runs ∙ e)) ∙ sym (step_is p n st o runs there) ∙ h

-- ---- the pieces

-- the object's address is passed first
abbrev pub object_passed : Shape → Option Place → List Piece
object_passed f None = []
object_passed f (Some q) = place_address f a0 q ++ passed a0 0 ∷ []

-- how many words are passed before the arguments
abbrev pub before : Option Place → ℕ
before None = 0
before (Some q) = 1

abbrev pub passing : Shape → CallOf → List Piece
passing f c = object_passed f c.object ++ arguments_passed f (before c.object) c.arguments

-- the pieces of an operation that calls, and the registers that its arguments need
pub record CallCode (f : Shape) (o : LinearOp) (c : CallOf) : Type 0 where
  pub pieces : linear_code f o ≡ passing f c ++ (function_called (compiled c.number) ++ stored_behind f o)
  pub fits : ArgumentsFit 0 0 c.arguments

-- the same for a call that is known
code_for : (f : Shape) (o : LinearOp) (c d : CallOf) → c ≡ d → CallCode f o c → CallCode f o d
code_for f o c d same h = subst (CallCode f o) same h

at_end : (front rear : List Piece) → front ++ rear ≡ front ++ (rear ++ [])
at_end front rear = ap (λ ps. front ++ ps) (sym (append-nil rear))

-- the value of a call is stored behind it
stored_value : (f : Shape) (o : Option ℕ) (q : Place) (n : ℕ) (args : Arguments) → value_stored f o q (call_value (defined n) args) ≡ whole_value f (call_value (defined n) args) ++ given_in f o q
stored_value f (Some rd) q n args = refl
stored_value f None q n args = refl

pub call_code_of : (f : Shape) (o : LinearOp) (c : CallOf) → call_of o ≡ Some c → LinearFits o → CallCode f o c
call_code_of f (plain (evaluate (call_value (defined n) args))) c is fits =
    code_for f (plain (evaluate (call_value (defined n) args))) (record { number = n; object = None; arguments = args }) c (cc is)
    (record { pieces = at_end (arguments_passed f 0 args) (function_called (compiled n)); fits = fits })
call_code_of f (plain (store q (call_value (defined n) args))) c is fits =
    let rear : List Piece = stored_behind f (plain (store q (call_value (defined n) args))) in
    code_for f (plain (store q (call_value (defined n) args))) (record { number = n; object = None; arguments = args }) c (cc is)
    (record {
      pieces = stored_value f (root_register f q.root) q n args ∙ ap (λ ps. ps ++ rear) (append-nil (arguments_passed f 0 args ++ function_called (compiled n))) ∙ append_assoc (arguments_passed f 0 args) (function_called (compiled n)) rear;
      fits = fits;
    })
call_code_of f (plain (call (defined n) args)) c is fits =
    code_for f (plain (call (defined n) args)) (record { number = n; object = None; arguments = args }) c (cc is)
    (record { pieces = at_end (arguments_passed f 0 args) (function_called (compiled n)); fits = fits })
call_code_of f (plain (construct q n args)) c is fits =
    let call : List Piece = function_called (compiled n) in
    let front : List Piece = place_address f a0 q in
    code_for f (plain (construct q n args)) (record { number = n; object = Some q; arguments = args }) c (cc is)
    (record {
      pieces = ap (λ ps. ps ++ call) (sym (append_assoc front (passed a0 0 ∷ []) (arguments_passed f 1 args))) ∙ at_end ((front ++ passed a0 0 ∷ []) ++ arguments_passed f 1 args) call;
      fits = fits;
    })
call_code_of f (plain (destroy q n)) c is fits =
    let call : List Piece = function_called (compiled n) in
    let front : List Piece = place_address f a0 q in
    code_for f (plain (destroy q n)) (record { number = n; object = Some q; arguments = no_arguments }) c (cc is)
    (record {
      pieces = ap (λ ps. ps ++ call) (sym (append-nil (front ++ passed a0 0 ∷ []))) ∙ at_end ((front ++ passed a0 0 ∷ []) ++ []) call;
      fits = tt;
    })
call_code_of f o c is fits = absurd (cc is)
