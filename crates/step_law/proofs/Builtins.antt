-- Calls of built-in functions that come back: what they do, and what is known of what they are given.
use Rattle.std.proofs.Common.{◌≡◌, ◌∙◌, refl, sym, ap, subst, ℕ, ◌+◌, inl, inr, ℤ, List, [], ◌∷◌, Option, Some, None}
use Rattle.cxx_ast.specs.declared.name.Builtin.{Builtin}
use Rattle.cxa_runtime.specs.World as abi
use Rattle.region_forms.specs.Form.{Kinds, Place, Value, builtin, call_value, int_argument, Arguments, no_arguments, argument_then, Op, evaluate, store, call}
use Rattle.region_forms.specs.World.{Word, number_word, Frame, World}
use Rattle.region_forms.specs.Evaluation.{Location, in_memory, in_frame, locate, value_in, with_some, words_in}
use Rattle.region_forms.specs.Effect.{Effect, goes, calls, raises, terminates, ends, cancels, leaves_newest, meaningless, if_some, stored_at, finished, built_in, effect}
use Rattle.linear_forms.specs.Linear.{FunctionCode, UnitCode, LinearOp, plain}
use Rattle.linear_forms.specs.Activation.{Code, Activation, State, goes_to, kinds}
use Rattle.linear_forms.specs.Operation.{act, performed}
use Rattle.linear_forms.specs.UnitRun.{code_of}
use Rattle.machine_simulation.specs.Plan.{Plan, function, slot_kinds}
use Rattle.machine_simulation.specs.Asked.{ValueAsked, WantedAsked}
use Rattle.machine_simulation.specs.Exceptions.{PlanHas}
use Rattle.machine_simulation.proofs.Stored.{stored_there}
use Rattle.machine_exceptions.specs.Answers.{CallsBuiltin}
use Rattle.address_bounds.specs.Rooms.{Reach, HasRoom}
use Rattle.address_bounds.specs.Reaches.{Needs, LinearReaches}
use Rattle.operation_premises.specs.Static.{PlaceStatic, BuiltinArguments, LinearStatic}
use Rattle.operation_premises.proofs.Asked.{all_is_asked}
use Rattle.step_law.specs.Facts.{needs_for, code_for}
use Rattle.step_law.specs.Rows.{Run, IsAt}
use Rattle.step_law.proofs.At.{is_inside, is_static}
use Rattle.step_law.proofs.Quiet.{stored_live}
use Rattle.step_law.proofs.Settling.{Settles, StaysCalmly, op_stays}

abbrev pub given_effect : Builtin → Option Place → Arguments → Kinds → Frame → World → Effect
given_effect b wants args ks x w = if_some (words_in ks x w args) (λ given. built_in ks b wants given x w)

-- such an operation is one of regions, with this effect
pub builtin_is : (b : Builtin) (args : Arguments) (wants : Option Place) (o : LinearOp) → CallsBuiltin b args wants o →
    (op : Op) × (o ≡ plain op) × ((ks : Kinds) (x : Frame) (w : World) → effect ks op x w ≡ given_effect b wants args ks x w)
builtin_is b args wants o (inl (q, none, is)) =
    (store q (call_value (builtin b) args), is, λ ks x w. ap (λ y. given_effect b y args ks x w) (sym none))
builtin_is b args wants o (inr (inl (none, is))) = (evaluate (call_value (builtin b) args), is, λ ks x w. ap (λ y. given_effect b y args ks x w) (sym none))
builtin_is b args wants o (inr (inr (none, is))) = (call (builtin b) args, is, λ ks x w. ap (λ y. given_effect b y args ks x w) (sym none))

pub some_settles : (x : Frame) (w : World) (o : Option (List Word)) (next : List Word → Effect) → ((given : List Word) → Settles x w (next given)) → Settles x w (if_some o next)
some_settles x w None next h = tt
some_settles x w (Some given) next h = h given

pub builtin_stays : (code : Code) (st : State) (b : Builtin) (args : Arguments) (wants : Option Place) (o : LinearOp) → CallsBuiltin b args wants o →
    ((given : List Word) → Settles st.top.frame st.world (built_in (kinds code st.top.function) b wants given st.top.frame st.world)) → StaysCalmly code st o
builtin_stays code st b args wants o h settles =
    let (op, is, does) = builtin_is b args wants o h in
    let ks = kinds code st.top.function in
    subst (StaysCalmly code st) (sym is) (op_stays code st op (subst (Settles st.top.frame st.world) (sym (does ks st.top.frame st.world))
    (some_settles st.top.frame st.world (words_in ks st.top.frame st.world args) (λ given. built_in ks b wants given st.top.frame st.world) settles)))

-- what is passed where a step goes on
pub record IsGivenTo (ks : Kinds) (b : Builtin) (args : Arguments) (wants : Option Place) (x : Frame) (w : World) (next : State) : Type 0 where
  pub given : List Word
  pub passed : words_in ks x w args ≡ Some given
  pub frame : Frame
  pub world : World
  pub does : built_in ks b wants given x w ≡ goes frame world
  pub behind : next.world ≡ world

pub settled_goes : (code : Code) (e : Effect) (a : Activation) (fs : List Activation) (w : World) (next : State) → Settles a.frame w e → performed code e a fs w ≡ goes_to next → (y : Frame) × (v : World) × (e ≡ goes y v) × (next.world ≡ v)
settled_goes code (goes y v) a fs w next h e = let went : record { top = record { function = a.function; place = a.place + 1; frame = y }; frames = fs; world = v } ≡ next = cc e in (y, v, refl, ap (λ (m : State). m.world) (sym went))
settled_goes code meaningless a fs w next h e = absurd (cc e)
settled_goes code (calls o n given) a fs w next h e = absurd h
settled_goes code (raises n v) a fs w next h e = absurd h
settled_goes code (terminates m v) a fs w next h e = absurd h
settled_goes code (ends n v) a fs w next h e = absurd h
settled_goes code (cancels z v) a fs w next h e = absurd h
settled_goes code leaves_newest a fs w next h e = absurd h

pub is_given : (code : Code) (st next : State) (b : Builtin) (args : Arguments) (wants : Option Place) (o : LinearOp) → CallsBuiltin b args wants o →
    ((given : List Word) → Settles st.top.frame st.world (built_in (kinds code st.top.function) b wants given st.top.frame st.world)) → act code o st.top st.frames st.world ≡ goes_to next →
    IsGivenTo (kinds code st.top.function) b args wants st.top.frame st.world next
is_given code st next b args wants o h settles e =
    let (op, is, does) = builtin_is b args wants o h in
    let performs : performed code (given_effect b wants args (kinds code st.top.function) st.top.frame st.world) st.top st.frames st.world ≡ goes_to next =
    ap (λ y. performed code y st.top st.frames st.world) (sym (does (kinds code st.top.function) st.top.frame st.world)) ∙ ap (λ y. act code y st.top st.frames st.world) (sym is) ∙ e in
    by (words_in (kinds code st.top.function) st.top.frame st.world args) refl performs
  where
    by : (y : Option (List Word)) → words_in (kinds code st.top.function) st.top.frame st.world args ≡ y →
        performed code (if_some y (λ given. built_in (kinds code st.top.function) b wants given st.top.frame st.world)) st.top st.frames st.world ≡ goes_to next → IsGivenTo (kinds code st.top.function) b args wants st.top.frame st.world next
    by None is performs = absurd (cc performs)
    by (Some given) is performs =
        let (y, v, does, behind) = settled_goes code (built_in (kinds code st.top.function) b wants given st.top.frame st.world) st.top st.frames st.world next (settles given) performs in
        record { given = given; passed = is; frame = y; world = v; does = does; behind = behind }

-- what is stored is no item
stored_items : (l : Location) (z : ℤ) (x y : Frame) (v u : World) → stored_at l z x v ≡ goes y u → u.items ≡ v.items
stored_items (in_memory d) z x y v u e = let (there, kept, same) = stored_there d z x y v u e in ap (λ (k : World). k.items) (sym same)
stored_items (in_frame s) z x y v u e = let same : v ≡ u = cc e in ap (λ (k : World). k.items) (sym same)

pub finished_items : (ks : Kinds) (q : Option Place) (z : ℤ) (x y : Frame) (v u : World) → finished ks q z x v ≡ goes y u → u.items ≡ v.items
finished_items ks None z x y v u e = let same : v ≡ u = cc e in ap (λ (k : World). k.items) (sym same)
finished_items ks (Some q) z x y v u e = by (locate ks x q) e
  where
    by : (o : Option Location) → if_some o (λ l. stored_at l z x v) ≡ goes y u → u.items ≡ v.items
    by None got = absurd (cc got)
    by (Some l) got = stored_items l z x y v u got

-- an int that is passed alone has a value
pub one_value : (ks : Kinds) (x : Frame) (w : World) (v : Value) (given : List Word) → words_in ks x w (argument_then (int_argument v) no_arguments) ≡ Some given → (z : ℤ) × (value_in ks x w v ≡ Some z) × (given ≡ number_word z ∷ [])
one_value ks x w v given e = by (value_in ks x w v) refl e
  where
    by : (o : Option ℤ) → value_in ks x w v ≡ o → with_some (with_some o (λ z. Some (number_word z))) (λ y. with_some (Some []) (λ ys. Some (y ∷ ys))) ≡ Some given → (z : ℤ) × (value_in ks x w v ≡ Some z) × (given ≡ number_word z ∷ [])
    by None is got = absurd (cc got)
    by (Some z) is got = (z, is, cc got)

-- ---- what is known of arguments, and of the place that wants the value

abbrev pub WantedStatic : UnitCode → FunctionCode → Option Place → Type 0
WantedStatic u g None = Unit {0}
WantedStatic u g (Some q) = PlaceStatic u g q

abbrev pub WantedRoom : Reach → FunctionCode → Option Place → Type 0
WantedRoom reach g None = Unit {0}
WantedRoom reach g (Some q) = HasRoom reach g.slots q 4

pub builtin_static : (u : UnitCode) (g : FunctionCode) (b : Builtin) (args : Arguments) (wants : Option Place) (o : LinearOp) → CallsBuiltin b args wants o → LinearStatic u g o → BuiltinArguments u g args × WantedStatic u g wants
builtin_static u g b args wants o (inl (q, some, is)) s = let t = subst (LinearStatic u g) is s in (t.1, subst (WantedStatic u g) (sym some) t.0)
builtin_static u g b args wants o (inr (inl (none, is))) s = (subst (LinearStatic u g) is s, subst (WantedStatic u g) (sym none) tt)
builtin_static u g b args wants o (inr (inr (none, is))) s = (subst (LinearStatic u g) is s, subst (WantedStatic u g) (sym none) tt)

pub builtin_room : (needs : Needs) (reach : Reach) (g : FunctionCode) (b : Builtin) (args : Arguments) (wants : Option Place) (o : LinearOp) → CallsBuiltin b args wants o → LinearReaches needs reach g.slots o → WantedRoom reach g wants
builtin_room needs reach g b args wants o (inl (q, some, is)) s = let t = subst (LinearReaches needs reach g.slots) is s in subst (WantedRoom reach g) (sym some) t.0
builtin_room needs reach g b args wants o (inr (inl (none, is))) s = subst (WantedRoom reach g) (sym none) tt
builtin_room needs reach g b args wants o (inr (inr (none, is))) s = subst (WantedRoom reach g) (sym none) tt

module _ (x : Run) (q : Plan) (before n : ℕ) (o : LinearOp) (st : State) (w : abi.World) (a : IsAt x q before n o st w) where
  -- an int may be stored where a value is wanted and stored
  pub wanted_asked : (wants : Option Place) (z : ℤ) (v u : World) (y : Frame) → WantedStatic q.unit (function q n) wants → WantedRoom ((needs_for x.program) n) (function q n) wants → PlanHas q v.live →
      finished (slot_kinds q n) wants z st.top.frame v ≡ goes y u → WantedAsked q n st.top.frame wants
  wanted_asked None z v u y static room has e = tt
  wanted_asked (Some d) z v u y static room has e = by (locate (slot_kinds q n) st.top.frame d) refl e
    where
      by : (l : Option Location) → locate (slot_kinds q n) st.top.frame d ≡ l → if_some l (λ m. stored_at m z st.top.frame v) ≡ goes y u → WantedAsked q n st.top.frame (Some d)
      by None is got = absurd (cc got)
      by (Some l) is got = all_is_asked.targets q (needs_for x.program) n st d (is_inside x q before n o st w a) static room (stored_live q n st.top.frame y v u d l z has is got)

  pub kinds_same : kinds (code_for x.program) st.top.function ≡ slot_kinds q n
  kinds_same = ap (λ f. kinds (code_for x.program) f) a.runs ∙ ap (λ u. (code_of u).kinds_at n) (sym a.stands.unit)

  -- an int that is passed alone is one that may be computed
  pub one_asked : (b : Builtin) (v : Value) (wants : Option Place) (z : ℤ) → CallsBuiltin b (argument_then (int_argument v) no_arguments) wants o → value_in (slot_kinds q n) st.top.frame st.world v ≡ Some z → ValueAsked q n st.top.frame st.world v
  one_asked b v wants z h is =
      let static = builtin_static q.unit (function q n) b (argument_then (int_argument v) no_arguments) wants o h (is_static x q before n o st w a) in
      all_is_asked.values q n st.top.frame st.world v static.0.0 (all_is_asked.loads q n st.top.frame st.world v z a.matches.runtime.plan is)
