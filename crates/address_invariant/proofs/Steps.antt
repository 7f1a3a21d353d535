-- What a step comes to.
use Rattle.std.proofs.Common.{◌≡◌, ◌∙◌, refl, sym, ap, subst, arith, ℕ, zero, suc, ◌+◌, ◌≤◌, List, [], ◌∷◌, Option, Some, None, inl, inr}
use Rattle.std.specs.Prelude.{◌&&◌, ⊤, Bool, true, false, pos, negsuc, slice_get, unwrap_or, if◌then◌else◌}
use Rattle.run_items.specs.declared.item.Item.TheVariants.{Destroy}
use Rattle.region_forms.specs.Caught.{gives_back}
use Rattle.region_forms.specs.World.{Word, nothing, number_word, address_word, flying, unwinding, address_in, object_address, exception_of, exception_in_slot, with_slot, with_item, World, Exception, building, native, foreign, exception_at, type_at}
use Rattle.region_forms.specs.Unexpected.{kept_with}
use Rattle.region_forms.specs.Lives.{is_native, may_enter, may_leave}
use Rattle.region_forms.specs.Effect.{entered, left, cleaned_up, newest_of}
use Rattle.linear_forms.specs.Linear.{UnitCode, FunctionCode, LinearOp}
use Rattle.linear_forms.specs.Stub.{Function, compiled, end_catch, terminating, call_unexpected, StubOp, leave_newest, destroy_held, call_held, begin_unexpected, check_unexpected, construct_bad, terminate_for, abort, CodeOp, linear, runtime, StubRow, stub_rows, stub_op}
use Rattle.linear_forms.specs.StubOperation.{given_back, newest_left, is_bad, empty_call, called_held, destroyed, checked, sense_held, act_stub}
use Rattle.linear_forms.specs.Activation.{Activation, State, at, on, fetch, compiled_op, function_word}
use Rattle.linear_forms.specs.Machine.{act_on, step}
use Rattle.linear_forms.specs.UnitRun.{no_code, code_at, code_of}
use Rattle.region_forms.specs.Form.{in_slot}
use Rattle.address_bounds.specs.Rooms.{HasRoom}
use Rattle.address_bounds.specs.Reaches.{Needs, exception_bytes, LinearReaches}
use Rattle.address_invariant.specs.Extents.{Extents}
use Rattle.address_invariant.specs.Reaching.{reach_in, CallReaches, CallsReach, ObjectsReach, Reaches}
use Rattle.address_invariant.specs.Laws.{UnitReaches, StepsReachInside}
use Rattle.address_invariant.proofs.Places.{none_there, slots_in}
use Rattle.address_invariant.proofs.Following.{Grows, WordComes, Reached, number_comes, follows_reach}
use Rattle.address_invariant.proofs.Unwinding.{reach_small, function_comes, terminate_reached}
use Rattle.address_invariant.proofs.Given.{GivenComes}
use Rattle.address_invariant.proofs.Effects.{same_slots, with_word}
use Rattle.address_invariant.proofs.Operations.{grown, where_defined, same_call, still_at, entered_reached, act_reached}

-- what is asked of an operation: end_catch alone passes an address, that of an exception object
abbrev pub CodeReaches : UnitCode → Needs → Function → CodeOp → Type 0
CodeReaches u needs f (linear o) = LinearReaches needs (reach_in needs f) (slots_in u f) o
CodeReaches u needs f (runtime (destroy_held s o)) = exception_bytes ≤ reach_in needs f o
CodeReaches u needs f (runtime o) = ⊤

-- ---- operations of the runtime's own functions

module _ (x : Extents) (u : UnitCode) (needs : Needs) (v : World) (small : (n s : ℕ) → needs n s ≤ exception_bytes) (objects : ObjectsReach x v) (a : Activation) (fs : List Activation)
    (call : CallReaches x u needs v a.function a.frame) (waiting : CallsReach x u needs v fs) where
  stays : (place : ℕ) (w : World) → Grows v w → Reached x u needs v (at a.function place a.frame fs w)
  stays place w grows = still_at x u needs v small objects a.function place a.frame fs w grows call waiting

  -- a word comes to a slot
  gets : (s : ℕ) (word : Word) (w : World) → Grows v w → WordComes x v w word (reach_in needs a.function s) → Reached x u needs v (on a (with_slot s word a.frame) fs w)
  gets s word w grows comes =
      same_call x u needs v small objects a.function (a.place + 1) a.frame (with_slot s word a.frame) fs w grows call (with_word x u needs v small a.function a.frame call w s word comes) waiting

  held_reached : (word : Word) → Reached x u needs v (called_held (code_of u) word a fs v)
  held_reached (number_word (pos n)) = entered_reached x u needs v small objects n [] (a ∷ fs) (λ j word there. none_there j word there) (call, waiting)
  held_reached (number_word (negsuc n)) = stays (a.place + 1) v (grown x u needs v small objects)
  held_reached nothing = stays (a.place + 1) v (grown x u needs v small objects)
  held_reached (address_word b) = stays (a.place + 1) v (grown x u needs v small objects)
  held_reached (flying e t) = stays (a.place + 1) v (grown x u needs v small objects)
  held_reached (unwinding n) = stays (a.place + 1) v (grown x u needs v small objects)

  not_called : (b : Bool) → Reached x u needs v (on a a.frame fs (if b then empty_call fs v else v))
  not_called true = stays (a.place + 1) (empty_call fs v) (record { calls = omega arith; last_number = omega arith })
  not_called false = stays (a.place + 1) v (grown x u needs v small objects)

  destroyed_reached : (word : Word) (o : ℕ) → exception_bytes ≤ reach_in needs a.function o → Reached x u needs v (destroyed (code_of u) word (a.frame.slots o) a fs v)
  destroyed_reached (number_word (pos n)) o large = entered_reached x u needs v small objects n (a.frame.slots o ∷ []) (a ∷ fs) one (call, waiting)
    where
      one : GivenComes x v v (needs n) 0 (a.frame.slots o ∷ [])
      one zero word there b is =
          let first : a.frame.slots o ≡ word = cc there in
          let lies = call.held o b (ap address_in first ∙ is) in
          inl (record { begun = lies.begun; ints = lies.ints; within = omega (arith, lies.within, large, small n 0); whole = lies.whole })
      one (suc j) word there b is = none_there j word there
  destroyed_reached (number_word (negsuc n)) o large = not_called (is_bad (type_at v (exception_of (address_in (a.frame.slots o)))))
  destroyed_reached nothing o large = not_called (is_bad (type_at v (exception_of (address_in (a.frame.slots o)))))
  destroyed_reached (address_word b) o large = not_called (is_bad (type_at v (exception_of (address_in (a.frame.slots o)))))
  destroyed_reached (flying e t) o large = not_called (is_bad (type_at v (exception_of (address_in (a.frame.slots o)))))
  destroyed_reached (unwinding n) o large = not_called (is_bad (type_at v (exception_of (address_in (a.frame.slots o)))))

  given_reached : (y : Exception) (e o s l : ℕ) (w : World) → Grows v w → e ≤ w.last_number → Reached x u needs v (given_back y e o s l a fs w)
  given_reached (native t d handlers) e o s l w grows made =
      let next = with_item (Destroy e) w in
      let first = with_word x u needs v small a.function a.frame call next o (address_word (object_address e)) (λ b is. inr (e, sym (cc is), made, reach_small needs small a.function o)) in
      same_call x u needs v small objects a.function (a.place + 1) a.frame (with_slot s (function_word d) (with_slot o (address_word (object_address e)) a.frame)) fs next (record { calls = grows.calls; last_number = grows.last_number }) call
      (same_slots x u needs v small a.function a.frame call next (with_slot o (address_word (object_address e)) a.frame) first s (function_word d) (function_comes x u needs v small next d (reach_in needs a.function s))) waiting
  given_reached (foreign k t) e o s l w grows made = stays l (cleaned_up e k t w) (record { calls = grows.calls; last_number = grows.last_number })
  given_reached building e o s l w grows made = stays l w grows

  left_reached : (o s l : ℕ) → newest_of v.caught ≤ v.last_number → Reached x u needs v (newest_left o s l a fs v)
  left_reached o s l newest =
      where_defined x u needs v small objects (may_leave v v.caught)
      (if gives_back v.caught then given_back (exception_at v (newest_of v.caught)) (newest_of v.caught) o s l a fs (left v) else at a.function l a.frame fs (left v)) (by (gives_back v.caught))
    where
      less : Grows v (left v)
      less = record { calls = omega arith; last_number = omega arith }

      by : (b : Bool) → Reached x u needs v (if b then given_back (exception_at v (newest_of v.caught)) (newest_of v.caught) o s l a fs (left v) else at a.function l a.frame fs (left v))
      by true = given_reached (exception_at v (newest_of v.caught)) (newest_of v.caught) o s l (left v) less newest
      by false = stays l (left v) less

  pub stub_reached : (o : StubOp) → CodeReaches u needs a.function (runtime o) → newest_of v.caught ≤ v.last_number → Reached x u needs v (act_stub (code_of u) o a fs v)
  stub_reached (leave_newest o s l) h newest = left_reached o s l newest
  stub_reached (destroy_held s o) h newest = destroyed_reached (a.frame.slots s) o h
  stub_reached (call_held s) h newest = held_reached (a.frame.slots s)
  stub_reached (begin_unexpected o s) h newest =
      let e = exception_in_slot a.frame o in
      let w = entered e v in
      let handler = (kept_with (exception_at v e)).unexpected_handler in
      where_defined x u needs v small objects (is_native (exception_at v e) && may_enter v e) (on a (with_slot s (function_word handler) a.frame) fs w)
      (gets s (function_word handler) w (record { calls = omega arith; last_number = omega arith }) (function_comes x u needs v small w handler (reach_in needs a.function s)))
  stub_reached (check_unexpected s f o y) h newest =
      let answer = checked (code_of u).rows (sense_held (code_of u) (a.frame.slots f) (a.frame.slots s)) (type_at v (exception_in_slot a.frame o)) in
      gets y (number_word answer) v (grown x u needs v small objects) (number_comes x u needs v v answer (reach_in needs a.function y))
  stub_reached construct_bad h newest = stays (a.place + 1) (empty_call fs v) (record { calls = omega arith; last_number = omega arith })
  stub_reached (terminate_for o) h newest =
      terminate_reached x u needs v small (kept_with (exception_at v (exception_in_slot a.frame o))).terminate_handler (a ∷ fs) v (grown x u needs v small objects) (call, waiting)
  stub_reached abort h newest = tt

-- ---- what stands in functions

abbrev RowsReach : UnitCode → Needs → Function → List StubRow → Type 0
RowsReach u needs f [] = ⊤
RowsReach u needs f (r ∷ rs) = CodeReaches u needs f r.op × RowsReach u needs f rs

row_reaches : (u : UnitCode) (needs : Needs) (f : Function) (rs : List StubRow) (p : ℕ) (r : StubRow) → RowsReach u needs f rs → slice_get rs p ≡ Some r → CodeReaches u needs f r.op
row_reaches u needs f [] p r h e = none_there p r e
row_reaches u needs f (y ∷ rs) zero r h e = let one : y ≡ r = cc e in subst (λ t. CodeReaches u needs f t.op) one h.0
row_reaches u needs f (y ∷ rs) (suc p) r h e = row_reaches u needs f rs p r h.1 e

end_catch_reaches : (u : UnitCode) (needs : Needs) → RowsReach u needs end_catch (stub_rows end_catch)
end_catch_reaches u needs = (tt, (omega arith, (tt, (tt, (tt, (tt, (tt, (tt))))))))

terminating_reaches : (u : UnitCode) (needs : Needs) → RowsReach u needs terminating (stub_rows terminating)
terminating_reaches u needs = (tt, (tt, tt))

unexpected_reaches : (u : UnitCode) (needs : Needs) → RowsReach u needs call_unexpected (stub_rows call_unexpected)
unexpected_reaches u needs =
    let answer : HasRoom (reach_in needs call_unexpected) [] (record { root = in_slot 6; offset = 0 }) 4 = (refl, λ slot e. none_there 6 slot e) in
    (tt, (tt, (tt, (tt, (tt, (tt, (tt, (answer, ((answer, tt), (tt, (tt, (omega arith, (tt, (tt, (tt, (tt, (tt, (tt, (tt)))))))))))))))))))

op_of_row : (t : Option StubRow) (o : CodeOp) → elim t [ None ↦ None | Some y ↦ Some y.op ] ≡ Some o → (r : StubRow) × (t ≡ Some r) × (r.op ≡ o)
op_of_row None o e = cc e
op_of_row (Some r) o e = (r, refl, cc e)

stub_code : (u : UnitCode) (needs : Needs) (f : Function) (p : ℕ) (o : CodeOp) → RowsReach u needs f (stub_rows f) → stub_op f p ≡ Some o → CodeReaches u needs f o
stub_code u needs f p o rows e =
    let row = op_of_row (slice_get (stub_rows f) p) o e in
    subst (λ c. CodeReaches u needs f c) row.2 (row_reaches u needs f (stub_rows f) p row.0 rows row.1)

compiled_code : (u : UnitCode) (needs : Needs) (n p : ℕ) (o : CodeOp) → UnitReaches u needs → (t : Option FunctionCode) → slice_get u.functions n ≡ t → (op : Option LinearOp) →
    slice_get (unwrap_or t no_code).ops p ≡ op → compiled_op op ≡ Some o → CodeReaches u needs (compiled n) o
compiled_code u needs n p o unit t is None at e = cc e
compiled_code u needs n p o unit None is (Some c) at e = none_there p c at
compiled_code u needs n p o unit (Some g) is (Some c) at e =
    let one : linear c ≡ o = cc e in
    let slots : slots_in u (compiled n) ≡ g.slots = ap (λ t. (unwrap_or t no_code).slots) is in
    subst (λ d. CodeReaches u needs (compiled n) d) one (subst (λ l. LinearReaches needs (needs n) l c) (sym slots) (unit.code n g p c is at))

code_reaches : (u : UnitCode) (needs : Needs) (f : Function) (p : ℕ) (o : CodeOp) → UnitReaches u needs → fetch (code_of u) f p ≡ Some o → CodeReaches u needs f o
code_reaches u needs (compiled n) p o unit e = compiled_code u needs n p o unit (slice_get u.functions n) refl (slice_get (code_at u n).ops p) refl e
code_reaches u needs end_catch p o unit e = stub_code u needs end_catch p o (end_catch_reaches u needs) e
code_reaches u needs terminating p o unit e = stub_code u needs terminating p o (terminating_reaches u needs) e
code_reaches u needs call_unexpected p o unit e = stub_code u needs call_unexpected p o (unexpected_reaches u needs) e

-- ---- steps

step_reached : (x : Extents) (u : UnitCode) (needs : Needs) (st : State) → UnitReaches u needs → Reaches x u needs st → newest_of st.world.caught ≤ st.world.last_number → Reached x u needs st.world (step (code_of u) st)
step_reached x u needs st unit h newest = by (fetch (code_of u) st.top.function st.top.place) refl
  where
    one : (o : CodeOp) → CodeReaches u needs st.top.function o → Reached x u needs st.world (act_on (code_of u) (Some o) st.top st.frames st.world)
    one (linear o) fits = act_reached x u needs st.world unit.small h.objects st.top st.frames h.calls.0 h.calls.1 o fits newest
    one (runtime o) fits = stub_reached x u needs st.world unit.small h.objects st.top st.frames h.calls.0 h.calls.1 o fits newest

    by : (t : Option CodeOp) → fetch (code_of u) st.top.function st.top.place ≡ t → Reached x u needs st.world (act_on (code_of u) t st.top st.frames st.world)
    by None e = tt
    by (Some o) e = one o (code_reaches u needs st.top.function st.top.place o unit e)

pub steps_reach : StepsReachInside
steps_reach x y u needs st next unit h newest e goes_on =
    follows_reach x y u needs st.world next goes_on (subst (λ n. Reached x u needs st.world n) e (step_reached x u needs st unit h newest))
