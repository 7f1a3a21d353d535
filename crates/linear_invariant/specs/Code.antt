-- What is known of the linear code of a program where open calls carry exceptions.
use Rattle.std.specs.Prelude.{⊤, ◌≡◌, ◌⊎◌, ℕ, ◌+◌, ℤ, pos, ◌==◌, Bool, true, false, List, [], ◌∷◌, Option, Some}
use Rattle.region_forms.specs.Form.{Kinds, help_slot, Callee, defined, builtin, Value, call_value, Arguments, Op, evaluate, store, call, construct, destroy, throw, enter, leave}
use Rattle.region_forms.specs.World.{Address, Word, nothing, address_word, Frame, World}
use Rattle.region_forms.specs.Evaluation.{words_in}
use Rattle.region_forms.specs.Effect.{new_frame}
use Rattle.linear_forms.specs.Linear.{LinearOp, plain, label, jump_filter, pad, free, resume, unexpected}
use Rattle.linear_forms.specs.Tables.{bare, padded}
use Rattle.meaning_forms.specs.Arithmetic.{int_equal}
use Rattle.linear_forms.specs.Verdict.{Verdict, target, clean, pad_verdict}
use Rattle.linear_forms.specs.Activation.{Code}
use Rattle.cost_paths.specs.Control.{goes_on, label_of}
use Rattle.flight_homes.specs.Homes.{is_one_of, GoesOnAs}
use Rattle.flight_homes.specs.Keeps.{Carrying}
use Rattle.flight_homes.specs.Lives.{Known, CodeKnown}
use Rattle.flight_homes.specs.WholeCalls.{CodeWhole}

-- a step of control inside a call: to the next operation, or to the label of a jump
abbrev pub StepsTo : Code → ℕ → ℕ → LinearOp → ℕ → Type 0
StepsTo code n p o q = ((goes_on o ≡ true) × (q ≡ p + 1)) ⊎ ((l : ℕ) × (label_of o ≡ Some l) × (q ≡ code.label_at n l))

-- what can stand between a pad and what goes on outwards
abbrev pub carries_on : LinearOp → Bool
carries_on (plain (destroy p n)) = true
carries_on (plain leave) = true
carries_on (plain o) = false
carries_on (label l) = true
carries_on (jump_filter s n l) = true
carries_on (free s) = true
carries_on (resume s) = true
carries_on (unexpected o s) = true
carries_on o = false

-- the slot of an exception's object is for help
abbrev pub NamesHelp : Kinds → LinearOp → Type 0
NamesHelp kinds (plain (throw s t d)) = kinds s ≡ help_slot
NamesHelp kinds (plain (enter s)) = kinds s ≡ help_slot
NamesHelp kinds (free s) = kinds s ≡ help_slot
NamesHelp kinds o = ⊤

-- a new call of a function has nothing in its slots for help
abbrev pub StartsEmpty : Code → ℕ → List Word → Type 0
StartsEmpty code n given = (v : World) (t : ℕ) → code.kinds_at n t ≡ help_slot → (new_frame (code.kinds_at n) given v).slots t ≡ nothing

abbrev pub CalleeStarts : Code → Callee → Arguments → Type 0
CalleeStarts code (defined n) args = (kinds : Kinds) (x : Frame) (w : World) (given : List Word) → words_in kinds x w args ≡ Some given → StartsEmpty code n given
CalleeStarts code (builtin b) args = ⊤

abbrev pub ValueStarts : Code → Value → Type 0
ValueStarts code (call_value c args) = CalleeStarts code c args
ValueStarts code v = ⊤

abbrev pub OpStarts : Code → Op → Type 0
OpStarts code (evaluate v) = ValueStarts code v
OpStarts code (store p v) = ValueStarts code v
OpStarts code (call c args) = CalleeStarts code c args
OpStarts code (construct p n args) = (kinds : Kinds) (x : Frame) (w : World) (a : Address) (given : List Word) → words_in kinds x w args ≡ Some given → StartsEmpty code n (address_word a ∷ given)
OpStarts code (destroy p n) = (a : Address) → StartsEmpty code n (address_word a ∷ [])
OpStarts code o = ⊤

-- The places at which calls carry what a pad caught: a call does not begin at one, and control comes to one from another or from a pad. Each is in front of
-- what goes on outwards from its home, with the filters of the pad that are left; what a pad lets on goes on there. Control stays among them up to what goes
-- on outwards, nothing comes out of an operation there, and no test there is of the number 0, which a forced unwind has.
pub record CodeCarries (code : Code) (k : Carrying) : Type 0 where
  pub first : (n : ℕ) → k.carries n 0 ≡ false
  pub form : (n p : ℕ) (o : LinearOp) → code.op_at n p ≡ Some o → k.carries n p ≡ true → carries_on o ≡ true
  pub comes : (n p q : ℕ) (o : LinearOp) → code.op_at n p ≡ Some o → StepsTo code n p o q → k.carries n q ≡ true → (k.carries n p ≡ true) ⊎ (o ≡ pad (k.object n) (k.selector n))
  pub pads : (n p o s : ℕ) → code.op_at n p ≡ Some (pad o s) → (o ≡ k.object n) × (s ≡ k.selector n) × ((s == o) ≡ false)
  pub resumes : (n p s : ℕ) → code.op_at n p ≡ Some (resume s) → (k.carries n p ≡ true) × (s ≡ k.object n)
  pub passes : (n p o s : ℕ) → code.op_at n p ≡ Some (unexpected o s) → (k.carries n p ≡ true) × (o ≡ k.object n) × (s ≡ k.selector n)
  pub filters : (n p s l : ℕ) (z : ℤ) → code.op_at n p ≡ Some (jump_filter s z l) → k.carries n p ≡ true
  pub ends : (n p s : ℕ) → code.op_at n p ≡ Some (resume s) → (k.home n p ≡ p) × (k.left n p ≡ [])
  pub stays : (n p q : ℕ) (o : LinearOp) → code.op_at n p ≡ Some o → StepsTo code n p o q → k.carries n p ≡ true → k.carries n q ≡ true → k.home n q ≡ k.home n p
  pub tests : (n p s l : ℕ) (z : ℤ) → code.op_at n p ≡ Some (jump_filter s z l) → k.carries n p ≡ true → (s ≡ k.selector n) × (k.left n p ≡ z ∷ k.left n (p + 1))
  pub taken : (n p s l : ℕ) (z : ℤ) → code.op_at n p ≡ Some (jump_filter s z l) → k.carries n p ≡ true → k.carries n (code.label_at n l) ≡ true → k.left n (code.label_at n l) ≡ z ∷ []
  pub others : (n p : ℕ) (o : LinearOp) → code.op_at n p ≡ Some o → k.carries n p ≡ true → goes_on o ≡ true → ((s l : ℕ) (z : ℤ) → o ≡ jump_filter s z l → ⊥) → k.left n (p + 1) ≡ k.left n p
  pub lets_on : (n p q : ℕ) (chain : List ℤ) (t : Option ℕ) (v : Verdict) → code.cover_at n p ≡ padded q chain → pad_verdict code.rows (code.sense_at n) chain t ≡ v →
      ((z : ℤ) → v ≡ target z → is_one_of z (k.left n (q + 1)) ≡ false) → ((v ≡ clean) ⊎ ((z : ℤ) × (v ≡ target z))) → GoesOnAs code.rows (code.sense_at n) t v (code.cover_at n (k.home n (q + 1)))
  pub on : (n p : ℕ) (o : LinearOp) → code.op_at n p ≡ Some o → k.carries n p ≡ true → goes_on o ≡ true → k.carries n (p + 1) ≡ true
  pub behind : (n p o s : ℕ) → code.op_at n p ≡ Some (pad o s) → k.carries n (p + 1) ≡ true
  pub quiet : (n p : ℕ) (o : Op) → code.op_at n p ≡ Some (plain o) → k.carries n p ≡ true → code.cover_at n p ≡ bare
  pub named : (n p s l : ℕ) (z : ℤ) → code.op_at n p ≡ Some (jump_filter s z l) → int_equal (pos 0) z ≡ false
  pub object : (n : ℕ) → code.kinds_at n (k.object n) ≡ help_slot
  pub selector : (n : ℕ) → code.kinds_at n (k.selector n) ≡ help_slot
  pub helps : (n p : ℕ) (o : LinearOp) → code.op_at n p ≡ Some o → NamesHelp (code.kinds_at n) o

-- All that is asked of the code of a program: what it names is there, where `known` says what that means.
pub record CodeFits (known : Known) (code : Code) (k : Carrying) : Type 0 where
  pub names : CodeKnown known code
  pub carries : CodeCarries code k
  pub whole : CodeWhole code
  pub starts : (n p : ℕ) (o : Op) → code.op_at n p ≡ Some (plain o) → OpStarts code o
  pub destructors : (n : ℕ) → known.destructors (Some n) → (x : Word) → StartsEmpty code n (x ∷ [])
