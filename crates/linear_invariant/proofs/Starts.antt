-- With what the calls of a well-formed program begin.
use Rattle.std.proofs.Common.{◌≡◌, ℕ, zero, suc, ◌+◌, true, ◌==◌, List, [], ◌∷◌, length, map, Option, Some, None, refl, sym, ap, ◌∙◌, subst}
use Rattle.std.specs.Prelude.{slice_get, unwrap_or, nat_lt, ◌&&◌}
use Rattle.std.proofs.lemmas.Bool.{and_parts}
use Rattle.region_forms.specs.Form.{Kinds, SlotKind, int_slot, address_slot, object_slot, help_slot, kinds_of, Callee, defined, builtin, Value, number, load, unary, binary, call_value, Arguments, no_arguments, Op, evaluate, store, bind, call, construct, destroy, make, throw, rethrow, enter, leave, RegionFunction, Regions, no_function, function_at}
use Rattle.region_forms.specs.WellFormed.{is_reference, slot_test, fit, count_of, call_test, takes_object}
use Rattle.region_forms.specs.World.{Word, nothing, address_word, address_in, Frame, World}
use Rattle.region_forms.specs.Meaning.{first_world}
use Rattle.region_forms.specs.Evaluation.{words_in}
use Rattle.region_forms.specs.Effect.{new_frame}
use Rattle.linear_forms.specs.Linear.{LinearOp}
use Rattle.linear_forms.specs.Frame.{code_slots}
use Rattle.linear_forms.specs.Unit.{function_code, unit_of}
use Rattle.linear_forms.specs.UnitRun.{no_code, code_at, code_of}
use Rattle.linear_forms.specs.Activation.{Code}
use Rattle.flight_homes.specs.NewFrames.{IsEmpty}
use Rattle.flight_homes.specs.WholeCalls.{BeginsWhole, CalleeBegins, ValueBegins, OpBegins}
use Rattle.flight_homes.proofs.NewFrames.{new_frames_are_empty}
use Rattle.flight_homes.proofs.Programs.{code_is}
use Rattle.flight_homes.proofs.Whole.{nothing_whole}
use Rattle.linear_invariant.specs.Code.{StartsEmpty, CalleeStarts, ValueStarts, OpStarts}
use Rattle.linear_invariant.proofs.Tested.{CalleeCalls, ValueCalls, OpCalls}

nothing_there : {A B : Type 0} (f : A → B) (xs : List A) (n : ℕ) → slice_get xs n ≡ None → slice_get (map f xs) n ≡ None
nothing_there f [] n e = refl
nothing_there f (x ∷ xs) zero e = absurd (cc e)
nothing_there f (x ∷ xs) (suc n) e = nothing_there f xs n e

pub empty : {X : Type 0} (p : ℕ) (o : LinearOp) → slice_get {X = LinearOp} [] p ≡ Some o → X
empty p o e = absurd (cc e)

module _ (r : Regions) where
  abbrev code : Code
  code = code_of (unit_of r)

  -- a function that is not there has no code
  pub no_code_there : (n : ℕ) → slice_get r.functions n ≡ None → code_at (unit_of r) n ≡ no_code
  no_code_there n e = ap (λ x. unwrap_or x no_code) (nothing_there function_code r.functions n e)

  -- new calls

  slots_are : (n : ℕ) → (code_at (unit_of r) n).slots ≡ code_slots (function_at r n)
  slots_are n = go (slice_get r.functions n) refl
    where
      go : (o : Option RegionFunction) → slice_get r.functions n ≡ o → (code_at (unit_of r) n).slots ≡ code_slots (unwrap_or o no_function)
      go None e = ap (λ g. g.slots) (no_code_there n e)
      go (Some f) e = ap (λ g. g.slots) (code_is r n f e)

  starts_empty : (n : ℕ) (given : List Word) → IsEmpty (function_at r n) given → StartsEmpty code n given
  starts_empty n given h = subst (λ xs. (v : World) (t : ℕ) → kinds_of xs t ≡ help_slot → (new_frame (kinds_of xs) given v).slots t ≡ nothing) (sym (slots_are n)) h

  fits_slots : (n filled : ℕ) (args : Arguments) → call_test r n filled args ≡ true → fit (function_at r n).slots filled args ≡ true
  fits_slots n filled args h =
      (and_parts (filled + count_of args == (function_at r n).parameters) (fit (function_at r n).slots filled args)
      (and_parts (nat_lt n (length r.functions)) (filled + count_of args == (function_at r n).parameters && fit (function_at r n).slots filled args) h).1).1

  call_starts : (n : ℕ) (args : Arguments) → call_test r n 0 args ≡ true → CalleeStarts code (defined n) args
  call_starts n args h kinds x w given e = starts_empty n given (new_frames_are_empty.calls (function_at r n) args kinds x w given (fits_slots n 0 args h) e)

  no_help : (s : SlotKind) → is_reference s ≡ true → s ≡ help_slot → ⊥
  no_help int_slot h e = cc e
  no_help address_slot h e = cc e
  no_help object_slot h e = cc e
  no_help help_slot h e = cc h

  object_starts : (n : ℕ) (args : Arguments) → takes_object r n args ≡ true → (kinds : Kinds) (x : Frame) (w : World) (object : Word) (given : List Word) → words_in kinds x w args ≡ Some given → StartsEmpty code n (object ∷ given)
  object_starts n args h kinds x w object given e =
      let both = and_parts (call_test r n 1 args) (slot_test is_reference (function_at r n).slots 0) h in
      let own = (and_parts (nat_lt 0 (length (function_at r n).slots)) (is_reference (kinds_of (function_at r n).slots 0)) both.1).1 in
      starts_empty n (object ∷ given)
      (new_frames_are_empty.objects (function_at r n) args kinds x w object given (λ i. no_help (kinds_of (function_at r n).slots 0) own i) (fits_slots n 1 args both.0) e)

  pub alone_starts : (n : ℕ) → takes_object r n no_arguments ≡ true → (object : Word) → StartsEmpty code n (object ∷ [])
  alone_starts n h object = object_starts n no_arguments h (λ s. help_slot) (record { call = 0; slots = λ s. nothing }) (first_world [] [] []) object [] refl

  callee_starts : (b : Callee) (args : Arguments) → CalleeCalls r b args → CalleeStarts code b args
  callee_starts (defined n) args h = call_starts n args h
  callee_starts (builtin b) args h = tt

  value_starts : (v : Value) → ValueCalls r v → ValueStarts code v
  value_starts (number z) h = tt
  value_starts (load q) h = tt
  value_starts (unary u v) h = tt
  value_starts (binary u a b) h = tt
  value_starts (call_value b args) h = callee_starts b args h

  pub op_starts : (o : Op) → OpCalls r o → OpStarts code o
  op_starts (evaluate v) h = value_starts v h
  op_starts (store q v) h = value_starts v h
  op_starts (bind s q) h = tt
  op_starts (call b args) h = callee_starts b args h
  op_starts (construct q n args) h = λ kinds y v a given e. object_starts n args h kinds y v (address_word a) given e
  op_starts (destroy q n) h = λ a. alone_starts n h (address_word a)
  op_starts (make s) h = tt
  op_starts (throw s t d) h = tt
  op_starts rethrow h = tt
  op_starts (enter s) h = tt
  op_starts leave h = tt

  -- what begins empty begins whole

  begins_whole : (n : ℕ) (given : List Word) → StartsEmpty code n given → BeginsWhole code n given
  begins_whole n given h v s e o k a = nothing_whole e o (ap address_in (sym (h v s k)) ∙ a)

  callee_begins : (b : Callee) (args : Arguments) → CalleeStarts code b args → CalleeBegins code b args
  callee_begins (defined n) args h = λ kinds x w given e. begins_whole n given (h kinds x w given e)
  callee_begins (builtin b) args h = tt

  value_begins : (v : Value) → ValueStarts code v → ValueBegins code v
  value_begins (number z) h = tt
  value_begins (load q) h = tt
  value_begins (unary u v) h = tt
  value_begins (binary u a b) h = tt
  value_begins (call_value b args) h = callee_begins b args h

  pub op_begins : (o : Op) → OpStarts code o → OpBegins code o
  op_begins (evaluate v) h = value_begins v h
  op_begins (store q v) h = value_begins v h
  op_begins (bind s q) h = tt
  op_begins (call b args) h = callee_begins b args h
  op_begins (construct q n args) h = λ kinds x w a given e. begins_whole n (address_word a ∷ given) (h kinds x w a given e)
  op_begins (destroy q n) h = λ a. begins_whole n (address_word a ∷ []) (h a)
  op_begins (make s) h = tt
  op_begins (throw s t d) h = tt
  op_begins rethrow h = tt
  op_begins (enter s) h = tt
  op_begins leave h = tt
