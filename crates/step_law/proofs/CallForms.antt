-- Operations that call compiled functions: what they are, and what is known of what they pass.
use Rattle.std.proofs.Common.{◌≡◌, refl, sym, subst, arith, ℕ, ◌+◌, ◌≤◌, ◌<◌, true, false, List, [], ◌∷◌, length, Option, Some, None}
use Rattle.region_forms.specs.Form.{SlotKind, int_slot, address_slot, object_slot, help_slot, Kinds, kinds_of, Place, defined, call_value, Argument, int_argument, address_argument, handler_argument, Arguments, no_arguments, argument_then, Op, evaluate, store, call, construct, destroy}
use Rattle.region_forms.specs.World.{Address, Word, number_word, address_word, Frame, World}
use Rattle.region_forms.specs.WellFormed.{holds_address, count_of}
use Rattle.region_forms.specs.Evaluation.{with_some, value_in, address_of, word_in, words_in}
use Rattle.region_forms.specs.Effect.{Effect, calls, meaningless, if_some, effect}
use Rattle.linear_forms.specs.Linear.{FunctionCode, UnitCode, LinearOp, plain}
use Rattle.linear_forms.specs.UnitRun.{code_at}
use Rattle.machine_simulation.specs.Plan.{Plan, slot_kinds}
use Rattle.machine_simulation.specs.Calls.{CallOf, call_of}
use Rattle.machine_simulation.specs.Entering.{given_to, with_object, WordFits, WordsFit}
use Rattle.machine_simulation.specs.Exceptions.{PlanHas}
use Rattle.address_bounds.specs.Rooms.{Reach, HasRoom}
use Rattle.address_bounds.specs.Reaches.{Needs, ArgumentsReach, LinearReaches}
use Rattle.operation_premises.specs.Asked.{ArgumentsLive}
use Rattle.operation_premises.specs.Static.{PlaceStatic, ArgumentStatic, ArgumentsStatic, LinearStatic}
use Rattle.operation_premises.proofs.Asked.{all_is_asked}
use Rattle.machine_forms.specs.Leaf.{linear_stays}

-- what is called, if what is passed is defined
abbrev pub calls_or : Option Place → ℕ → Option (List Word) → Effect
calls_or wants n None = meaningless
calls_or wants n (Some given) = calls wants n given

pub record IsCallOp (o : LinearOp) (c : CallOf) : Type 0 where
  pub op : Op
  pub is : o ≡ plain op
  pub wants : Option Place
  pub does : (ks : Kinds) (x : Frame) (w : World) → effect ks op x w ≡ calls_or wants c.number (given_to ks x w c)

words_call : (wants : Option Place) (n : ℕ) (o : Option (List Word)) → if_some o (λ given. calls wants n given) ≡ calls_or wants n o
words_call wants n None = refl
words_call wants n (Some given) = refl

object_call : (n : ℕ) (oa : Option Address) (o : Option (List Word)) →
    if_some oa (λ a. if_some o (λ given. calls None n (address_word a ∷ given))) ≡ calls_or None n (with_some oa (λ a. with_some o (λ words. Some (address_word a ∷ words))))
object_call n None o = refl
object_call n (Some a) None = refl
object_call n (Some a) (Some given) = refl

alone_call : (n : ℕ) (oa : Option Address) → if_some oa (λ a. calls None n (address_word a ∷ [])) ≡ calls_or None n (with_some oa (λ a. Some (address_word a ∷ [])))
alone_call n None = refl
alone_call n (Some a) = refl

pub call_is : (o : LinearOp) (c : CallOf) → call_of o ≡ Some c → IsCallOp o c
call_is (plain (evaluate (call_value (defined n) args))) c is =
    let same : record { number = n; object = None; arguments = args } ≡ c = cc is in
    subst (IsCallOp (plain (evaluate (call_value (defined n) args)))) same
    (record { op = evaluate (call_value (defined n) args); is = refl; wants = None; does = λ ks x w. words_call None n (words_in ks x w args) })
call_is (plain (store q (call_value (defined n) args))) c is =
    let same : record { number = n; object = None; arguments = args } ≡ c = cc is in
    subst (IsCallOp (plain (store q (call_value (defined n) args)))) same
    (record { op = store q (call_value (defined n) args); is = refl; wants = Some q; does = λ ks x w. words_call (Some q) n (words_in ks x w args) })
call_is (plain (call (defined n) args)) c is =
    let same : record { number = n; object = None; arguments = args } ≡ c = cc is in
    subst (IsCallOp (plain (call (defined n) args))) same (record { op = call (defined n) args; is = refl; wants = None; does = λ ks x w. words_call None n (words_in ks x w args) })
call_is (plain (construct q n args)) c is =
    let same : record { number = n; object = Some q; arguments = args } ≡ c = cc is in
    subst (IsCallOp (plain (construct q n args))) same
    (record { op = construct q n args; is = refl; wants = None; does = λ ks x w. object_call n (address_of ks x q) (words_in ks x w args) })
call_is (plain (destroy q n)) c is =
    let same : record { number = n; object = Some q; arguments = no_arguments } ≡ c = cc is in
    subst (IsCallOp (plain (destroy q n))) same (record { op = destroy q n; is = refl; wants = None; does = λ ks x w. alone_call n (address_of ks x q) })
call_is o c is = absurd (cc is)

-- it leaves its function
pub call_leaves : (o : LinearOp) (c : CallOf) → call_of o ≡ Some c → linear_stays o ≡ false
call_leaves (plain (evaluate (call_value (defined n) args))) c is = refl
call_leaves (plain (store q (call_value (defined n) args))) c is = refl
call_leaves (plain (call (defined n) args)) c is = refl
call_leaves (plain (construct q n args)) c is = refl
call_leaves (plain (destroy q n)) c is = refl
call_leaves o c is = absurd (cc is)

-- ---- what is known of it

abbrev pub ObjectKnown : UnitCode → FunctionCode → Reach → (wants : Reach) → Kinds → Option Place → Type 0
ObjectKnown u g reach wants ks None = Unit {0}
ObjectKnown u g reach wants ks (Some q) = PlaceStatic u g q × HasRoom reach g.slots q (wants 0) × (holds_address (ks 0) ≡ true)

-- how many slots are filled before the arguments
abbrev pub filled : Option Place → ℕ
filled None = 0
filled (Some q) = 1

pub record CallKnown (u : UnitCode) (g : FunctionCode) (needs : Needs) (reach : Reach) (c : CallOf) : Type 0 where
  pub known : c.number < length u.functions
  pub few : filled c.object + count_of c.arguments ≤ length (code_at u c.number).slots
  pub taken : filled c.object + count_of c.arguments ≡ (code_at u c.number).parameters
  pub object : ObjectKnown u g reach (needs c.number) (kinds_of (code_at u c.number).slots) c.object
  pub static : ArgumentsStatic u g (kinds_of (code_at u c.number).slots) (filled c.object) c.arguments
  pub room : ArgumentsReach needs reach g.slots (needs c.number) (filled c.object) c.arguments

pub call_known : (u : UnitCode) (g : FunctionCode) (needs : Needs) (reach : Reach) (o : LinearOp) (c : CallOf) → call_of o ≡ Some c → LinearStatic u g o → LinearReaches needs reach g.slots o → CallKnown u g needs reach c
call_known u g needs reach (plain (evaluate (call_value (defined n) args))) c is s r =
    let same : record { number = n; object = None; arguments = args } ≡ c = cc is in
    subst (CallKnown u g needs reach) same (record { known = s.known; few = s.few; taken = s.taken; object = tt; static = s.arguments; room = r })
call_known u g needs reach (plain (store q (call_value (defined n) args))) c is s r =
    let same : record { number = n; object = None; arguments = args } ≡ c = cc is in
    subst (CallKnown u g needs reach) same (record { known = s.1.known; few = s.1.few; taken = s.1.taken; object = tt; static = s.1.arguments; room = r.1 })
call_known u g needs reach (plain (call (defined n) args)) c is s r =
    let same : record { number = n; object = None; arguments = args } ≡ c = cc is in
    subst (CallKnown u g needs reach) same (record { known = s.known; few = s.few; taken = s.taken; object = tt; static = s.arguments; room = r })
call_known u g needs reach (plain (construct q n args)) c is s r =
    let same : record { number = n; object = Some q; arguments = args } ≡ c = cc is in
    subst (CallKnown u g needs reach) same (record { known = s.1.known; few = s.1.few; taken = s.1.taken; object = (s.0, r.0, s.2.held); static = s.1.arguments; room = r.1 })
call_known u g needs reach (plain (destroy q n)) c is s r =
    let same : record { number = n; object = Some q; arguments = no_arguments } ≡ c = cc is in
    let some = s.1.some in
    subst (CallKnown u g needs reach) same (record { known = s.1.known; few = omega (arith, some); taken = s.2; object = (s.0, r, s.1.held); static = tt; room = tt })
call_known u g needs reach o c is s r = absurd (cc is)

-- ---- what is passed

-- what has a result
pub some_first : {A B : Type 0} (o : Option A) (next : A → Option B) (z : B) → with_some o next ≡ Some z → (x : A) × (o ≡ Some x) × (next x ≡ Some z)
some_first None next z e = cc e
some_first (Some x) next z e = (x, refl, e)

-- words of arguments go to slots of their kinds
pub record ArgumentsPass (p : Plan) (n : ℕ) (kinds : Kinds) (i : ℕ) (x : Frame) (w : World) (args : Arguments) (given : List Word) : Type 0 where
  pub fit : WordsFit kinds i given
  pub count : length given ≡ count_of args
  pub live : ArgumentsLive p n x w args

module _ (p : Plan) (n : ℕ) (u : UnitCode) (g : FunctionCode) (x : Frame) (w : World) (has : PlanHas p w.live) (kinds : Kinds) where
  pub arguments_pass : (i : ℕ) (args : Arguments) (given : List Word) → ArgumentsStatic u g kinds i args → words_in (slot_kinds p n) x w args ≡ Some given → ArgumentsPass p n kinds i x w args given
  arguments_pass i no_arguments given s e =
      let none : [] ≡ given = cc e in subst (ArgumentsPass p n kinds i x w no_arguments) none (record { fit = tt; count = refl; live = tt })
  arguments_pass i (argument_then a args) given s e =
      let first = some_first (word_in (slot_kinds p n) x w a) (λ y. with_some (words_in (slot_kinds p n) x w args) (λ ys. Some (y ∷ ys))) given e in
      let second = some_first (words_in (slot_kinds p n) x w args) (λ ys. Some (first.0 ∷ ys)) given first.2 in
      let both : first.0 ∷ second.0 ≡ given = cc second.2 in
      let rest = arguments_pass (i + 1) args second.0 s.1 second.1 in
      subst (ArgumentsPass p n kinds i x w (argument_then a args)) both (one a first.0 second.0 s.0 first.1 rest)
    where
      one : (b : Argument) (y : Word) (ys : List Word) → ArgumentStatic u g (kinds i) b → word_in (slot_kinds p n) x w b ≡ Some y → ArgumentsPass p n kinds (i + 1) x w args ys →
          ArgumentsPass p n kinds i x w (argument_then b args) (y ∷ ys)
      one (int_argument v) y ys t is rest =
          let value = some_first (value_in (slot_kinds p n) x w v) (λ z. Some (number_word z)) y is in
          let word : number_word value.0 ≡ y = cc value.2 in
          let fits : WordFits (kinds i) (number_word value.0) = subst (λ k. WordFits k (number_word value.0)) (sym t.1) tt in
          let count = rest.count in
          record { fit = (subst (WordFits (kinds i)) word fits, rest.fit); count = omega (arith, count); live = (all_is_asked.loads p n x w v value.0 has value.1, rest.live) }
      one (address_argument q) y ys t is rest =
          let value = some_first (address_of (slot_kinds p n) x q) (λ b. Some (address_word b)) y is in
          let word : address_word value.0 ≡ y = cc value.2 in
          let fits : WordFits (kinds i) (address_word value.0) = subst (λ k. WordFits k (address_word value.0)) (sym t.1) tt in
          let count = rest.count in
          record { fit = (subst (WordFits (kinds i)) word fits, rest.fit); count = omega (arith, count); live = (tt, rest.live) }
      one (handler_argument m) y ys t is rest = absurd t

  -- so do they with the object's address before them
  object_fits : (k : SlotKind) (b : Address) → holds_address k ≡ true → WordFits k (address_word b)
  object_fits address_slot b h = tt
  object_fits help_slot b h = tt
  object_fits int_slot b h = absurd (cc h)
  object_fits object_slot b h = absurd (cc h)

  pub record GivenFits (object : Option Place) (args : Arguments) (given : List Word) : Type 0 where
    pub fit : WordsFit kinds 0 given
    pub count : length given ≡ filled object + count_of args
    pub live : ArgumentsLive p n x w args

  pub given_fits : (needs reach : Reach) (object : Option Place) (args : Arguments) (given : List Word) → ObjectKnown u g reach needs kinds object → ArgumentsStatic u g kinds (filled object) args →
      with_object object (slot_kinds p n) x (words_in (slot_kinds p n) x w args) ≡ Some given → GivenFits object args given
  given_fits needs reach None args given k s e = let h = arguments_pass 0 args given s e in let count = h.count in record { fit = h.fit; count = omega (arith, count); live = h.live }
  given_fits needs reach (Some q) args given k s e =
      let first = some_first (address_of (slot_kinds p n) x q) (λ a. with_some (words_in (slot_kinds p n) x w args) (λ words. Some (address_word a ∷ words))) given e in
      let second = some_first (words_in (slot_kinds p n) x w args) (λ words. Some (address_word first.0 ∷ words)) given first.2 in
      let both : address_word first.0 ∷ second.0 ≡ given = cc second.2 in
      let h = arguments_pass 1 args second.0 s second.1 in
      let count = h.count in
      subst (GivenFits (Some q) args) both (record { fit = (object_fits (kinds 0) first.0 k.2, h.fit); count = omega (arith, count); live = h.live })
