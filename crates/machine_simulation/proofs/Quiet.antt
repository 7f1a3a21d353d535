-- What a step of the machine for linear code is at an operation that calls nothing.
use Rattle.std.proofs.Common.{◌≡◌, ◌∙◌, refl, sym, ap, subst, arith, ℕ, ◌+◌, ◌≤◌, ℤ, List, [], Option, Some, None}
use Rattle.std.specs.Prelude.{Bool, true, false, slice_get, if◌then◌else◌}
use Rattle.meaning_forms.specs.Arithmetic.{is_zero}
use Rattle.region_forms.specs.Form.{Kinds, Place, Value, number, load, unary, binary, call_value, Op, evaluate, store, bind}
use Rattle.region_forms.specs.World.{Address, Frame, World, with_slot, address_word, written, number_word}
use Rattle.region_forms.specs.Evaluation.{Location, in_memory, in_frame, value_in, locate, address_of}
use Rattle.region_forms.specs.Effect.{goes, if_some, finished, valued, stored_at, effect, only_where}
use Rattle.linear_forms.specs.Linear.{LinearOp, plain, label, jump, jump_zero}
use Rattle.linear_forms.specs.Tables.{label_place}
use Rattle.linear_forms.specs.Stub.{compiled}
use Rattle.linear_forms.specs.Activation.{Activation, State, goes_to, compiled_op, fetch, place_of, at, on, kinds}
use Rattle.linear_forms.specs.Machine.{act_on, step}
use Rattle.linear_forms.specs.Operation.{act, performed, jumped, jumped_zero}
use Rattle.linear_forms.specs.UnitRun.{code_of}
use Rattle.machine_forms.specs.Shape.{Shape}
use Rattle.machine_forms.specs.Bounds.{ValueFits}
use Rattle.machine_forms.specs.ValueCode.{needs, read_in, brought, operand}
use Rattle.machine_forms.specs.OperationCode.{dropped_code, whole_value, whole_register}
use Rattle.machine_simulation.specs.Plan.{Plan, function, slot_kinds}
use Rattle.cxa_runtime.specs.World as abi
use Rattle.machine_simulation.specs.Matches.{RuntimeMatches}
use Rattle.machine_simulation.specs.Operations.{NoCall}
use Rattle.machine_simulation.proofs.Stored.{stored_there}
use Rattle.region_forms.specs.Lives.{is_there}

-- the state at another place of the same call
abbrev pub moved : State → ℕ → Frame → World → State
moved st place frame v = record { top = record { function = st.top.function; place = place; frame = frame }; frames = st.frames; world = v }

pub step_is : (p : Plan) (n : ℕ) (st : State) (o : LinearOp) → st.top.function ≡ compiled n → slice_get (function p n).ops st.top.place ≡ Some o →
    step (code_of p.unit) st ≡ act (code_of p.unit) o st.top st.frames st.world
step_is p n st o runs there =
    ap (λ f. act_on (code_of p.unit) (fetch (code_of p.unit) f st.top.place) st.top st.frames st.world) runs
    ∙ ap (λ q. act_on (code_of p.unit) (compiled_op q) st.top st.frames st.world) there

pub plain_is : (p : Plan) (n : ℕ) (st : State) (o : Op) → st.top.function ≡ compiled n →
    act (code_of p.unit) (plain o) st.top st.frames st.world ≡ performed (code_of p.unit) (effect (slot_kinds p n) o st.top.frame st.world) st.top st.frames st.world
plain_is p n st o runs = ap (λ f. performed (code_of p.unit) (effect (kinds (code_of p.unit) f) o st.top.frame st.world) st.top st.frames st.world) runs

-- ---- values without calls

pub plain_valued : (kinds : Kinds) (v : Value) (q : Option Place) (frame : Frame) (w : World) → NoCall v → valued kinds v q frame w ≡ if_some (value_in kinds frame w v) (λ z. finished kinds q z frame w)
plain_valued kinds (number v) q frame w h = refl
plain_valued kinds (load a) q frame w h = refl
plain_valued kinds (unary o v) q frame w h = refl
plain_valued kinds (binary o a b) q frame w h = refl
plain_valued kinds (call_value c args) q frame w h = absurd h

pub plain_whole : (f : Shape) (v : Value) → NoCall v → whole_value f v ≡ brought (operand f v) 0
plain_whole f (number v) h = refl
plain_whole f (load a) h = refl
plain_whole f (unary o v) h = refl
plain_whole f (binary o a b) h = refl
plain_whole f (call_value c args) h = absurd h

pub plain_register : (f : Shape) (v : Value) → NoCall v → whole_register f v ≡ read_in (operand f v) 0
plain_register f (number v) h = refl
plain_register f (load a) h = refl
plain_register f (unary o v) h = refl
plain_register f (binary o a b) h = refl
plain_register f (call_value c args) h = absurd h

pub plain_dropped : (f : Shape) (v : Value) → NoCall v → dropped_code f v ≡ []
plain_dropped f (number v) h = refl
plain_dropped f (load a) h = refl
plain_dropped f (unary o v) h = refl
plain_dropped f (binary o a b) h = refl
plain_dropped f (call_value c args) h = absurd h

pub plain_needs : (v : Value) → NoCall v → ValueFits v → 0 + needs v ≤ 15
plain_needs (number v) h few = omega (arith, few)
plain_needs (load a) h few = omega (arith, few)
plain_needs (unary o v) h few = omega (arith, few)
plain_needs (binary o a b) h few = omega (arith, few)
plain_needs (call_value c args) h few = absurd h

-- ---- stores, binds, values

-- an int is stored
pub record StoreStep (kinds : Kinds) (v : Value) (q : Place) (st next : State) : Type 0 where
  pub value : ℤ
  pub location : Location
  pub frame : Frame
  pub world : World
  pub value_is : value_in kinds st.top.frame st.world v ≡ Some value
  pub located : locate kinds st.top.frame q ≡ Some location
  pub stored : stored_at location value st.top.frame st.world ≡ goes frame world
  pub next_is : moved st (st.top.place + 1) frame world ≡ next

pub store_step : (p : Plan) (n : ℕ) (st next : State) (v : Value) (q : Place) → st.top.function ≡ compiled n → slice_get (function p n).ops st.top.place ≡ Some (plain (store q v)) → NoCall v →
    step (code_of p.unit) st ≡ goes_to next → StoreStep (slot_kinds p n) v q st next
store_step p n st next v q runs there no_call h =
    by (value_in (slot_kinds p n) st.top.frame st.world v) (locate (slot_kinds p n) st.top.frame q) refl refl
    (ap (λ e. performed (code_of p.unit) e st.top st.frames st.world) (sym (plain_valued (slot_kinds p n) v (Some q) st.top.frame st.world no_call))
    ∙ sym (plain_is p n st (store q v) runs) ∙ sym (step_is p n st (plain (store q v)) runs there) ∙ h)
  where
    by : (ov : Option ℤ) (ol : Option Location) → value_in (slot_kinds p n) st.top.frame st.world v ≡ ov → locate (slot_kinds p n) st.top.frame q ≡ ol →
        performed (code_of p.unit) (if_some ov (λ z. if_some ol (λ l. stored_at l z st.top.frame st.world))) st.top st.frames st.world ≡ goes_to next → StoreStep (slot_kinds p n) v q st next
    by None ol ev el e = absurd (cc e)
    by (Some z) None ev el e = absurd (cc e)
    by (Some z) (Some (in_memory a)) ev el e = to (is_there st.world a.base) refl e
      where
        to : (b : Bool) → is_there st.world a.base ≡ b →
            performed (code_of p.unit) (only_where b (goes st.top.frame (written a z st.world))) st.top st.frames st.world ≡ goes_to next → StoreStep (slot_kinds p n) v q st next
        to true is e = record {
          value = z;
          location = in_memory a;
          frame = st.top.frame;
          world = written a z st.world;
          value_is = ev;
          located = el;
          stored = ap (λ b. only_where b (goes st.top.frame (written a z st.world))) is;
          next_is = cc e;
        }
        to false is e = absurd (cc e)
    by (Some z) (Some (in_frame s)) ev el e =
        record { value = z; location = in_frame s; frame = with_slot s (number_word z) st.top.frame; world = st.world; value_is = ev; located = el; stored = refl; next_is = cc e }

-- an address is bound
pub record BindStep (kinds : Kinds) (s : ℕ) (q : Place) (st next : State) : Type 0 where
  pub address : Address
  pub is : address_of kinds st.top.frame q ≡ Some address
  pub next_is : moved st (st.top.place + 1) (with_slot s (address_word address) st.top.frame) st.world ≡ next

pub bind_step : (p : Plan) (n : ℕ) (st next : State) (s : ℕ) (q : Place) → st.top.function ≡ compiled n → slice_get (function p n).ops st.top.place ≡ Some (plain (bind s q)) →
    step (code_of p.unit) st ≡ goes_to next → BindStep (slot_kinds p n) s q st next
bind_step p n st next s q runs there h =
    by (address_of (slot_kinds p n) st.top.frame q) refl (sym (plain_is p n st (bind s q) runs) ∙ sym (step_is p n st (plain (bind s q)) runs there) ∙ h)
  where
    by : (o : Option Address) → address_of (slot_kinds p n) st.top.frame q ≡ o →
        performed (code_of p.unit) (if_some o (λ a. goes (with_slot s (address_word a) st.top.frame) st.world)) st.top st.frames st.world ≡ goes_to next → BindStep (slot_kinds p n) s q st next
    by None is e = absurd (cc e)
    by (Some a) is e = record { address = a; is = is; next_is = cc e }

-- a value is computed for nothing
pub value_step : (p : Plan) (n : ℕ) (st next : State) (v : Value) → st.top.function ≡ compiled n → slice_get (function p n).ops st.top.place ≡ Some (plain (evaluate v)) → NoCall v →
    step (code_of p.unit) st ≡ goes_to next → moved st (st.top.place + 1) st.top.frame st.world ≡ next
value_step p n st next v runs there no_call h =
    by (value_in (slot_kinds p n) st.top.frame st.world v)
    (ap (λ e. performed (code_of p.unit) e st.top st.frames st.world) (sym (plain_valued (slot_kinds p n) v None st.top.frame st.world no_call))
    ∙ sym (plain_is p n st (evaluate v) runs) ∙ sym (step_is p n st (plain (evaluate v)) runs there) ∙ h)
  where
    by : (o : Option ℤ) → performed (code_of p.unit) (if_some o (λ z. finished (slot_kinds p n) None z st.top.frame st.world)) st.top st.frames st.world ≡ goes_to next →
        moved st (st.top.place + 1) st.top.frame st.world ≡ next
    by None e = absurd (cc e)
    by (Some z) e = cc e

-- ---- jumps

jump_is : (p : Plan) (n : ℕ) (st : State) (l : ℕ) → st.top.function ≡ compiled n →
    jumped (code_of p.unit) l st.top st.frames st.world ≡ goes_to (moved st (label_place (function p n).ops l 0) st.top.frame st.world)
jump_is p n st l runs = ap (λ f. at st.top.function (place_of (code_of p.unit) f l) st.top.frame st.frames st.world) runs

pub jump_step : (p : Plan) (n : ℕ) (st next : State) (l : ℕ) → st.top.function ≡ compiled n → slice_get (function p n).ops st.top.place ≡ Some (jump l) → step (code_of p.unit) st ≡ goes_to next →
    moved st (label_place (function p n).ops l 0) st.top.frame st.world ≡ next
jump_step p n st next l runs there h =
    let e : goes_to (moved st (label_place (function p n).ops l 0) st.top.frame st.world) ≡ goes_to next = sym (jump_is p n st l runs) ∙ sym (step_is p n st (jump l) runs there) ∙ h in
    cc e

pub label_step : (p : Plan) (n : ℕ) (st next : State) (l : ℕ) → st.top.function ≡ compiled n → slice_get (function p n).ops st.top.place ≡ Some (label l) → step (code_of p.unit) st ≡ goes_to next →
    moved st (st.top.place + 1) st.top.frame st.world ≡ next
label_step p n st next l runs there h =
    let e : goes_to (moved st (st.top.place + 1) st.top.frame st.world) ≡ goes_to next = sym (step_is p n st (label l) runs there) ∙ h in
    cc e

-- a value is 0, and control goes to the label; or it is not
pub record TestStep (p : Plan) (n l : ℕ) (v : Value) (st next : State) : Type 0 where
  pub value : ℤ
  pub value_is : value_in (slot_kinds p n) st.top.frame st.world v ≡ Some value
  pub next_is : moved st (if is_zero value then label_place (function p n).ops l 0 else st.top.place + 1) st.top.frame st.world ≡ next

pub test_step : (p : Plan) (n : ℕ) (st next : State) (v : Value) (l : ℕ) → st.top.function ≡ compiled n → slice_get (function p n).ops st.top.place ≡ Some (jump_zero v l) →
    step (code_of p.unit) st ≡ goes_to next → TestStep p n l v st next
test_step p n st next v l runs there h =
    by (value_in (slot_kinds p n) st.top.frame st.world v) refl
    (ap (λ f. jumped_zero (code_of p.unit) (value_in (kinds (code_of p.unit) f) st.top.frame st.world v) l st.top st.frames st.world) (sym runs)
    ∙ sym (step_is p n st (jump_zero v l) runs there) ∙ h)
  where
    by : (o : Option ℤ) → value_in (slot_kinds p n) st.top.frame st.world v ≡ o → jumped_zero (code_of p.unit) o l st.top st.frames st.world ≡ goes_to next → TestStep p n l v st next
    by None is e = absurd (cc e)
    by (Some z) is e = record { value = z; value_is = is; next_is = to (is_zero z) e }
      where
        to : (t : Bool) → (if t then jumped (code_of p.unit) l st.top st.frames st.world else on st.top st.top.frame st.frames st.world) ≡ goes_to next →
            moved st (if t then label_place (function p n).ops l 0 else st.top.place + 1) st.top.frame st.world ≡ next
        to true e = let f : goes_to (moved st (label_place (function p n).ops l 0) st.top.frame st.world) ≡ goes_to next = sym (jump_is p n st l runs) ∙ e in cc f
        to false e = cc e

-- ---- what the runtime has

pub runtime_stored : (p : Plan) (fs : List Activation) (l : Location) (z : ℤ) (frame new_frame : Frame) (v new_world : World) (w : abi.World) → stored_at l z frame v ≡ goes new_frame new_world →
    RuntimeMatches p fs v w → RuntimeMatches p fs new_world w
runtime_stored p fs (in_memory a) z frame new_frame v new_world w e h =
    let (there, kept, same) = stored_there a z frame new_frame v new_world e in
    subst (λ u. RuntimeMatches p fs u w) same
    (record { input = h.input; replies = h.replies; last_number = h.last_number; terminating = h.terminating; exceptions = h.exceptions; plan = h.plan })
runtime_stored p fs (in_frame s) z frame new_frame v new_world w e h = let same : v ≡ new_world = cc e in subst (λ u. RuntimeMatches p fs u w) same h
