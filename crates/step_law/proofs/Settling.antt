-- Operations that stay in their call: where they are done, and what they leave.
use Rattle.std.proofs.Common.{◌≡◌, refl, sym, subst, ℕ, ℤ, Bool, true, false, Option, Some, None, if◌then◌else◌}
use Rattle.meaning_forms.specs.Arithmetic.{is_zero}
use Rattle.region_forms.specs.Form.{Kinds, Place, Value, Op, evaluate, store, bind}
use Rattle.region_forms.specs.Lives.{is_there}
use Rattle.region_forms.specs.World.{Address, address_word, with_slot, written, Frame, World}
use Rattle.region_forms.specs.Evaluation.{Location, in_memory, in_frame, locate, value_in, address_of}
use Rattle.region_forms.specs.Effect.{Effect, goes, calls, raises, terminates, ends, cancels, leaves_newest, meaningless, if_some, only_where, stored_at, finished, valued, effect}
use Rattle.linear_forms.specs.Linear.{LinearOp, plain, label, jump, jump_zero}
use Rattle.linear_forms.specs.Activation.{Code, State, Next, goes_to, finishes, not_defined, kinds, on}
use Rattle.linear_forms.specs.Operation.{act, performed, jumped, jumped_zero}
use Rattle.machine_simulation.specs.Operations.{NoCall, IsQuiet}
use Rattle.machine_simulation.proofs.Quiet.{plain_valued}
use Rattle.step_law.proofs.Keeping.{IsCalm}

-- what of a world these leave
pub record SameBeside (w v : World) : Type 0 where
  pub calls : v.calls ≡ w.calls
  pub deepest : v.deepest ≡ w.deepest
  pub ending : v.ending ≡ w.ending
  pub last : v.last_number ≡ w.last_number
  pub caught : v.caught ≡ w.caught

pub unchanged : (w : World) → SameBeside w w
unchanged w = record { calls = refl; deepest = refl; ending = refl; last = refl; caught = refl }

-- an effect is done, or not defined, and leaves that, and the number of the call
abbrev pub Settles : Frame → World → Effect → Type 0
Settles x w (goes y v) = (y.call ≡ x.call) × SameBeside w v
Settles x w meaningless = Unit {0}
Settles x w e = ⊥

pub settles_calmly : (x : Frame) (w : World) (e : Effect) → Settles x w e → IsCalm e
settles_calmly x w (goes y v) h = tt
settles_calmly x w meaningless h = tt
settles_calmly x w (calls o n given) h = absurd h
settles_calmly x w (raises e v) h = absurd h
settles_calmly x w (terminates m v) h = absurd h
settles_calmly x w (ends e v) h = absurd h
settles_calmly x w (cancels z v) h = absurd h
settles_calmly x w leaves_newest h = absurd h

written_settles : (x : Frame) (w v : World) (a : Address) (z : ℤ) (b : Bool) → SameBeside w v → Settles x w (only_where b (goes x (written a z v)))
written_settles x w v a z true h = (refl, record { calls = h.calls; deepest = h.deepest; ending = h.ending; last = h.last; caught = h.caught })
written_settles x w v a z false h = tt

stored_settles : (x : Frame) (w v : World) (l : Location) (z : ℤ) → SameBeside w v → Settles x w (stored_at l z x v)
stored_settles x w v (in_memory a) z h = written_settles x w v a z (is_there v a.base) h
stored_settles x w v (in_frame s) z h = (refl, h)

pub finished_settles : (ks : Kinds) (q : Option Place) (z : ℤ) (x : Frame) (w v : World) → SameBeside w v → Settles x w (finished ks q z x v)
finished_settles ks None z x w v h = (refl, h)
finished_settles ks (Some q) z x w v h = by (locate ks x q)
  where
    by : (o : Option Location) → Settles x w (if_some o (λ l. stored_at l z x v))
    by None = tt
    by (Some l) = stored_settles x w v l z h

pub plain_settles : (ks : Kinds) (v : Value) (q : Option Place) (x : Frame) (w : World) → NoCall v → Settles x w (valued ks v q x w)
plain_settles ks v q x w none = subst (Settles x w) (sym (plain_valued ks v q x w none)) (by (value_in ks x w v))
  where
    by : (o : Option ℤ) → Settles x w (if_some o (λ z. finished ks q z x w))
    by None = tt
    by (Some z) = finished_settles ks q z x w w (unchanged w)

bound_settles : (s : ℕ) (x : Frame) (w : World) (o : Option Address) → Settles x w (if_some o (λ a. goes (with_slot s (address_word a) x) w))
bound_settles s x w None = tt
bound_settles s x w (Some a) = (refl, unchanged w)

-- the next state is in the same call
pub record StaysIn (st next : State) : Type 0 where
  pub function : next.top.function ≡ st.top.function
  pub frames : next.frames ≡ st.frames
  pub call : next.top.frame.call ≡ st.top.frame.call
  pub world : SameBeside st.world next.world

-- what comes next stays in the call, or is not defined
abbrev pub StaysOrStops : State → Next → Type 0
StaysOrStops st (goes_to next) = StaysIn st next
StaysOrStops st (finishes e v) = e ≡ not_defined

pub settled_stays : (code : Code) (st : State) (e : Effect) → Settles st.top.frame st.world e → StaysOrStops st (performed code e st.top st.frames st.world)
settled_stays code st (goes y v) h = record { function = refl; frames = refl; call = h.0; world = h.1 }
settled_stays code st meaningless h = refl
settled_stays code st (calls o n given) h = absurd h
settled_stays code st (raises e v) h = absurd h
settled_stays code st (terminates m v) h = absurd h
settled_stays code st (ends e v) h = absurd h
settled_stays code st (cancels z v) h = absurd h
settled_stays code st leaves_newest h = absurd h

tested_stays : (code : Code) (st : State) (l : ℕ) (o : Option ℤ) → StaysOrStops st (jumped_zero code o l st.top st.frames st.world)
tested_stays code st l None = refl
tested_stays code st l (Some z) = by (is_zero z)
  where
    by : (b : Bool) → StaysOrStops st (if b then jumped code l st.top st.frames st.world else on st.top st.top.frame st.frames st.world)
    by true = record { function = refl; frames = refl; call = refl; world = unchanged st.world }
    by false = record { function = refl; frames = refl; call = refl; world = unchanged st.world }

-- an operation settles where it is one of regions, and stays in its call
pub record StaysCalmly (code : Code) (st : State) (o : LinearOp) : Type 0 where
  pub stays : StaysOrStops st (act code o st.top st.frames st.world)
  pub calm : (op : Op) → o ≡ plain op → IsCalm (effect (kinds code st.top.function) op st.top.frame st.world)

pub op_stays : (code : Code) (st : State) (op : Op) → Settles st.top.frame st.world (effect (kinds code st.top.function) op st.top.frame st.world) → StaysCalmly code st (plain op)
op_stays code st op h = record {
  stays = settled_stays code st (effect (kinds code st.top.function) op st.top.frame st.world) h;
  calm = λ other same. let one : op ≡ other = cc same in subst (λ x. IsCalm (effect (kinds code st.top.function) x st.top.frame st.world)) one (settles_calmly st.top.frame st.world (effect (kinds code st.top.function) op st.top.frame st.world) h);
}

pub quiet_stays : (code : Code) (st : State) (o : LinearOp) → IsQuiet o → StaysCalmly code st o
quiet_stays code st (plain (evaluate v)) quiet = op_stays code st (evaluate v) (plain_settles (kinds code st.top.function) v None st.top.frame st.world quiet)
quiet_stays code st (plain (store q v)) quiet = op_stays code st (store q v) (plain_settles (kinds code st.top.function) v (Some q) st.top.frame st.world quiet)
quiet_stays code st (plain (bind s q)) quiet = op_stays code st (bind s q) (bound_settles s st.top.frame st.world (address_of (kinds code st.top.function) st.top.frame q))
quiet_stays code st (label l) quiet = record { stays = record { function = refl; frames = refl; call = refl; world = unchanged st.world }; calm = λ op same. absurd (cc same) }
quiet_stays code st (jump l) quiet = record { stays = record { function = refl; frames = refl; call = refl; world = unchanged st.world }; calm = λ op same. absurd (cc same) }
quiet_stays code st (jump_zero v l) quiet =
    record { stays = tested_stays code st l (value_in (kinds code st.top.function) st.top.frame st.world v); calm = λ op same. absurd (cc same) }
quiet_stays code st o quiet = absurd quiet
