-- Whatever operation runs, it is paid.
use Rattle.std.proofs.Common.{◌≡◌, ℤ, ℕ, ◌≤◌, Bool, true, false, [], ◌∷◌, Option, Some, None, refl, ap, ◌∙◌, ⊎_elim, if◌then◌else◌, arith}
use Rattle.std.specs.Prelude.{pos, negsuc, nat_le, ◌&&◌}
use Rattle.std.proofs.lemmas.Bool.Decides.{nat_tests}
use Rattle.meaning_forms.specs.Arithmetic.{is_zero}
use Rattle.region_forms.specs.Form.{Value, Op, evaluate, store, bind, call, construct, destroy, make, throw, rethrow, enter, leave}
use Rattle.region_forms.specs.World.{Word, nothing, number_word, address_word, flying, unwinding, World, Exception, building, native, foreign, exception_at, type_at, exception_in_slot, exception_of, address_in, object_address, with_slot, with_item}
use Rattle.run_items.specs.declared.item.Item.TheVariants.{Destroy}
use Rattle.region_forms.specs.Caught.{gives_back}
use Rattle.region_forms.specs.Lives.{is_native, may_enter, may_leave}
use Rattle.region_forms.specs.Unexpected.{kept_with}
use Rattle.region_forms.specs.Evaluation.{value_in}
use Rattle.region_forms.specs.Effect.{effect, entered, cleaned_up, freed, newest_of, left as left_world, result_in}
use Rattle.linear_forms.specs.Linear.{LinearOp, plain, label, jump, jump_zero, pad, jump_filter, free, resume, unexpected, return}
use Rattle.linear_forms.specs.Stub.{StubOp, Function, end_catch, call_unexpected, CodeOp, linear, runtime, leave_newest, destroy_held, call_held, begin_unexpected, check_unexpected, construct_bad, terminate_for, abort, terminating_rows}
use Rattle.linear_forms.specs.Activation.{Code, State, Next, next_if, fetch, place_of, kinds, at, on, stub_frame, function_word}
use Rattle.linear_forms.specs.Operation.{performed, jumped, jumped_zero, holds_number, resumed, number_of, may_free, act}
use Rattle.linear_forms.specs.StubOperation.{is_bad, empty_call, checked, sense_held, given_back, newest_left, called_held, destroyed, act_stub}
use Rattle.linear_forms.specs.Machine.{act_on, step}
use Rattle.cost_paths.specs.Control.{label_of}
use Rattle.cost_turns.specs.Weights.{rows_weight}
use Rattle.cost_turns.specs.Turns.{back_from, jumps_back}
use Rattle.cost_turns.specs.Runs.{may_land}
use Rattle.cost_turns.proofs.Pace.{Paced}
use Rattle.cost_turns.proofs.Effects.{NotLeave, effect_not}
use Rattle.cost_turns.proofs.Credit.{Linked}
use Rattle.cost_turns.proofs.Unwound.{unwind_reached, force_reached}
use Rattle.cost_turns.proofs.Steps.{Paid, reached_paid, on_paid, at_paid, terminated_paid, call_paid, stub_paid, back_paid, performed_paid}
use Rattle.cost_turns.proofs.Returns.{return_paid}

-- a jump comes to no landing pad
calm_jump : (o : LinearOp) (l : ℕ) → label_of o ≡ Some l → may_land (Some (linear o)) ≡ false
calm_jump (plain o) l e = absurd (cc e)
calm_jump (label m) l e = refl
calm_jump (jump m) l e = refl
calm_jump (jump_zero v m) l e = refl
calm_jump (pad o s) l e = refl
calm_jump (jump_filter s n m) l e = refl
calm_jump (free s) l e = refl
calm_jump (resume s) l e = absurd (cc e)
calm_jump (unexpected o s) l e = refl
calm_jump (return r) l e = refl

is_low : (q p : ℕ) → q ≤ p → nat_le q p ≡ true
is_low q p le = grind (arith, nat_tests, le)

module _ (code : Code) (weigh : Bool → CodeOp → ℕ) (longest : ℕ) (rank : Function → ℕ → ℕ) (pace : Paced code weigh longest rank) (ending : rows_weight (weigh true) terminating_rows ≤ longest) (st : State)
    (linked : Linked code weigh longest rank pace ending st.top.function st.frames) where
  abbrev P : Next → Type 0
  P next = Paid code weigh longest rank pace ending st next

  abbrev Here : CodeOp → Type 0
  Here o = fetch code st.top.function st.top.place ≡ Some o

  -- what is done only where a test is true
  where_paid : (b : Bool) (w : World) (next : Next) → P next → P (next_if b w next)
  where_paid true w next paid = paid
  where_paid false w next paid = tt

  -- a jump
  jump_paid : (o : LinearOp) (l : ℕ) → Here (linear o) → label_of o ≡ Some l → P (jumped code l st.top st.frames st.world)
  jump_paid o l there own =
      ⊎_elim (λ up. at_paid code weigh longest rank pace ending st (linear o) there linked (calm_jump o l own) (place_of code st.top.function l) st.top.frame st.world up)
      (λ back.
      let is : fetch code st.top.function st.top.place ≡ Some (linear (jump l)) = there ∙ ap (λ x. Some (linear x)) back.1 in
      let turns : jumps_back code st ≡ true = ap (back_from code st.top.function st.top.place) is ∙ is_low (place_of code st.top.function l) st.top.place back.0 in
      back_paid code weigh longest rank pace ending st (linear o) there linked (calm_jump o l own) (place_of code st.top.function l) st.top.frame st.world back.2 turns)
      (pace.jumps st.top.function st.top.place l o there own)

  zero_paid : (v : Value) (l : ℕ) → Here (linear (jump_zero v l)) → (z : Option ℤ) → P (jumped_zero code z l st.top st.frames st.world)
  zero_paid v l there None = tt
  zero_paid v l there (Some z) = go (is_zero z)
    where
      go : (b : Bool) → P (if b then jumped code l st.top st.frames st.world else on st.top st.top.frame st.frames st.world)
      go true = jump_paid (jump_zero v l) l there refl
      go false = on_paid code weigh longest rank pace ending st (linear (jump_zero v l)) there linked st.top.frame st.world refl

  filter_paid : (s : ℕ) (n : ℤ) (l : ℕ) → Here (linear (jump_filter s n l)) → (b : Bool) → P (if b then jumped code l st.top st.frames st.world else on st.top st.top.frame st.frames st.world)
  filter_paid s n l there true = jump_paid (jump_filter s n l) l there refl
  filter_paid s n l there false = on_paid code weigh longest rank pace ending st (linear (jump_filter s n l)) there linked st.top.frame st.world refl

  resume_paid : (s : ℕ) → Here (linear (resume s)) → (x : Word) → P (resumed code x st.top st.frames st.world)
  resume_paid s there (flying e t) =
      reached_paid code weigh longest rank pace ending st (linear (resume s)) there linked _
      (unwind_reached code weigh longest rank pace ending _ st.top (linear (resume s)) st.frames there (λ l e. cc e) (omega arith) linked t e st.world)
  resume_paid s there (unwinding z) =
      reached_paid code weigh longest rank pace ending st (linear (resume s)) there linked _
      (force_reached code weigh longest rank pace ending _ st.top (linear (resume s)) st.frames there (λ l e. cc e) (omega arith) linked z st.world)
  resume_paid s there nothing = tt
  resume_paid s there (number_word z) = tt
  resume_paid s there (address_word a) = tt

  -- an operation of regions but leaving
  other_paid : (o : Op) → Here (linear (plain o)) → NotLeave o → P (performed code (effect (kinds code st.top.function) o st.top.frame st.world) st.top st.frames st.world)
  other_paid o there other =
      performed_paid code weigh longest rank pace ending st (linear (plain o)) there linked (effect (kinds code st.top.function) o st.top.frame st.world) st.world (λ l e. cc e) refl (λ n. tt)
      (effect_not (kinds code st.top.function) o st.top.frame st.world other)

  plain_paid : (o : Op) → Here (linear (plain o)) → P (act code (plain o) st.top st.frames st.world)
  plain_paid (evaluate v) there = other_paid (evaluate v) there tt
  plain_paid (store p v) there = other_paid (store p v) there tt
  plain_paid (bind s p) there = other_paid (bind s p) there tt
  plain_paid (call c args) there = other_paid (call c args) there tt
  plain_paid (construct p n args) there = other_paid (construct p n args) there tt
  plain_paid (destroy p n) there = other_paid (destroy p n) there tt
  plain_paid (make s) there = other_paid (make s) there tt
  plain_paid (throw s t d) there = other_paid (throw s t d) there tt
  plain_paid rethrow there = other_paid rethrow there tt
  plain_paid (enter s) there = other_paid (enter s) there tt
  plain_paid leave there = stub_paid code weigh longest rank pace ending st (linear (plain leave)) there linked end_catch (stub_frame nothing nothing nothing) st.world tt refl (omega arith) tt

  act_paid : (o : LinearOp) → Here (linear o) → P (act code o st.top st.frames st.world)
  act_paid (plain o) there = plain_paid o there
  act_paid (label l) there = on_paid code weigh longest rank pace ending st (linear (label l)) there linked st.top.frame st.world refl
  act_paid (jump l) there = jump_paid (jump l) l there refl
  act_paid (jump_zero v l) there = zero_paid v l there (value_in (kinds code st.top.function) st.top.frame st.world v)
  act_paid (pad o s) there = tt
  act_paid (jump_filter s n l) there = filter_paid s n l there (holds_number (st.top.frame.slots s) n)
  act_paid (free s) there = where_paid (may_free st.top.function st.world (exception_in_slot st.top.frame s)) st.world _
      (on_paid code weigh longest rank pace ending st (linear (free s)) there linked st.top.frame (freed (exception_in_slot st.top.frame s) st.world) refl)
  act_paid (resume s) there = resume_paid s there (st.top.frame.slots s)
  act_paid (unexpected o s) there = stub_paid code weigh longest rank pace ending st (linear (unexpected o s)) there linked call_unexpected (stub_frame (st.top.frame.slots o) (st.top.frame.slots s) (function_word (number_of st.top.function))) st.world tt refl (omega arith) refl
  act_paid (return r) there = return_paid code weigh longest rank pace ending st r there linked (result_in r st.top.frame st.world (kinds code st.top.function)) st.world

  -- what the runtime alone does

  held_paid : (s : ℕ) → Here (runtime (call_held s)) → (x : Word) → P (called_held code x st.top st.frames st.world)
  held_paid s there (number_word (pos n)) = call_paid code weigh longest rank pace ending st (runtime (call_held s)) there linked n [] st.world tt
  held_paid s there (number_word (negsuc n)) = on_paid code weigh longest rank pace ending st (runtime (call_held s)) there linked st.top.frame st.world refl
  held_paid s there nothing = on_paid code weigh longest rank pace ending st (runtime (call_held s)) there linked st.top.frame st.world refl
  held_paid s there (address_word a) = on_paid code weigh longest rank pace ending st (runtime (call_held s)) there linked st.top.frame st.world refl
  held_paid s there (flying e t) = on_paid code weigh longest rank pace ending st (runtime (call_held s)) there linked st.top.frame st.world refl
  held_paid s there (unwinding z) = on_paid code weigh longest rank pace ending st (runtime (call_held s)) there linked st.top.frame st.world refl

  destroyed_paid : (s o : ℕ) → Here (runtime (destroy_held s o)) → (x y : Word) → P (destroyed code x y st.top st.frames st.world)
  destroyed_paid s o there (number_word (pos n)) y = call_paid code weigh longest rank pace ending st (runtime (destroy_held s o)) there linked n (y ∷ []) st.world tt
  destroyed_paid s o there (number_word (negsuc n)) y = on_paid code weigh longest rank pace ending st (runtime (destroy_held s o)) there linked st.top.frame (if is_bad (type_at st.world (exception_of (address_in y))) then empty_call st.frames st.world else st.world) refl
  destroyed_paid s o there nothing y = on_paid code weigh longest rank pace ending st (runtime (destroy_held s o)) there linked st.top.frame (if is_bad (type_at st.world (exception_of (address_in y))) then empty_call st.frames st.world else st.world) refl
  destroyed_paid s o there (address_word a) y = on_paid code weigh longest rank pace ending st (runtime (destroy_held s o)) there linked st.top.frame (if is_bad (type_at st.world (exception_of (address_in y))) then empty_call st.frames st.world else st.world) refl
  destroyed_paid s o there (flying e t) y = on_paid code weigh longest rank pace ending st (runtime (destroy_held s o)) there linked st.top.frame (if is_bad (type_at st.world (exception_of (address_in y))) then empty_call st.frames st.world else st.world) refl
  destroyed_paid s o there (unwinding z) y = on_paid code weigh longest rank pace ending st (runtime (destroy_held s o)) there linked st.top.frame (if is_bad (type_at st.world (exception_of (address_in y))) then empty_call st.frames st.world else st.world) refl

  newest_paid : (o d l : ℕ) → Here (runtime (leave_newest o d l)) → P (newest_left o d l st.top st.frames st.world)
  newest_paid o d l there = where_paid (may_leave st.world st.world.caught) st.world _ (go (gives_back st.world.caught))
    where
      at_label : (w : World) → P (at st.top.function l st.top.frame st.frames w)
      at_label w = at_paid code weigh longest rank pace ending st (runtime (leave_newest o d l)) there linked refl l st.top.frame w (pace.skips st.top.function st.top.place o d l there)

      by : (e : Exception) (k : ℕ) (w : World) → P (given_back e k o d l st.top st.frames w)
      by (native t h kept) k w =
          on_paid code weigh longest rank pace ending st (runtime (leave_newest o d l)) there linked
          (with_slot d (function_word h) (with_slot o (address_word (object_address k)) st.top.frame)) (with_item (Destroy k) w) refl
      by building k w = at_label w
      by (foreign m t) k w = at_label (cleaned_up k m t w)

      go : (b : Bool) → P (if b then given_back (exception_at st.world (newest_of st.world.caught)) (newest_of st.world.caught) o d l st.top st.frames (left_world st.world)
          else at st.top.function l st.top.frame st.frames (left_world st.world))
      go true = by (exception_at st.world (newest_of st.world.caught)) (newest_of st.world.caught) (left_world st.world)
      go false = at_label (left_world st.world)

  stub_act_paid : (o : StubOp) → Here (runtime o) → P (act_stub code o st.top st.frames st.world)
  stub_act_paid (leave_newest o d l) there = newest_paid o d l there
  stub_act_paid (destroy_held s o) there = destroyed_paid s o there (st.top.frame.slots s) (st.top.frame.slots o)
  stub_act_paid (call_held s) there = held_paid s there (st.top.frame.slots s)
  stub_act_paid (begin_unexpected o s) there = where_paid (is_native (exception_at st.world (exception_in_slot st.top.frame o)) && may_enter st.world (exception_in_slot st.top.frame o)) st.world _
      (on_paid code weigh longest rank pace ending st (runtime (begin_unexpected o s)) there linked
      (with_slot s (function_word (kept_with (exception_at st.world (exception_in_slot st.top.frame o))).unexpected_handler) st.top.frame) (entered (exception_in_slot st.top.frame o) st.world) refl)
  stub_act_paid (check_unexpected s f o x) there = on_paid code weigh longest rank pace ending st (runtime (check_unexpected s f o x)) there linked
      (with_slot x (number_word (checked code.rows (sense_held code (st.top.frame.slots f) (st.top.frame.slots s)) (type_at st.world (exception_in_slot st.top.frame o)))) st.top.frame) st.world refl
  stub_act_paid construct_bad there = on_paid code weigh longest rank pace ending st (runtime construct_bad) there linked st.top.frame (empty_call st.frames st.world) refl
  stub_act_paid (terminate_for o) there = terminated_paid code weigh longest rank pace ending st (runtime (terminate_for o)) there linked
      (kept_with (exception_at st.world (exception_in_slot st.top.frame o))).terminate_handler (st.top ∷ st.frames) st.world
  stub_act_paid abort there = tt

  pub step_paid : P (step code st)
  step_paid = go (fetch code st.top.function st.top.place) refl
    where
      go : (o : Option CodeOp) → fetch code st.top.function st.top.place ≡ o → P (act_on code o st.top st.frames st.world)
      go None e = tt
      go (Some (linear o)) e = act_paid o e
      go (Some (runtime o)) e = stub_act_paid o e
