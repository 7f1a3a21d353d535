-- A call comes back only to where it was made by an operation behind which the next one runs.
use Rattle.std.proofs.Common.{◌≡◌, ℤ, ℕ, zero, suc, ◌+◌, ◌≤◌, true, false, List, [], ◌∷◌, Option, Some, None, refl, ap, subst, arith, Bool}
use Rattle.std.specs.Prelude.{slice_get}
use Rattle.region_forms.specs.World.{Frame, World}
use Rattle.region_forms.specs.Effect.{Effect, goes, calls, raises, terminates, ends, cancels, leaves_newest, meaningless, finished}
use Rattle.linear_forms.specs.Linear.{plain, label, jump, jump_zero, pad, jump_filter, free, resume, unexpected, return}
use Rattle.linear_forms.specs.Stub.{Function, compiled, end_catch, terminating, call_unexpected, CodeOp, linear, runtime, leave_newest, destroy_held, call_held, begin_unexpected, check_unexpected, construct_bad, terminate_for, abort, StubRow, terminating_rows, call_unexpected_rows, stub_op}
use Rattle.linear_forms.specs.Activation.{Code, Activation, State, fetch, kinds, on}
use Rattle.linear_forms.specs.Operation.{settled, wanted_by, returned, returned_with}
use Rattle.cost_turns.specs.Weights.{is_own, rows_weight, whole, weight_of}
use Rattle.cost_turns.specs.Turns.{is_terminating}
use Rattle.cost_turns.proofs.Pace.{op_goes_on, Paced}
use Rattle.cost_turns.proofs.Credit.{beneath, WaitsAt, below_left, Linked, at_comes}
use Rattle.cost_turns.proofs.Unwound.{unlink}
use Rattle.cost_turns.proofs.Steps.{Paid, from_calm}

-- rows without a return

abbrev NoReturn : CodeOp → Type 0
NoReturn (linear (return r)) = ⊥
NoReturn o = Unit {0}

abbrev AllNoReturn : List StubRow → Type 0
AllNoReturn [] = Unit {0}
AllNoReturn (x ∷ rows) = NoReturn x.op × AllNoReturn rows

some_op : (a b : CodeOp) → Some a ≡ Some b → a ≡ b
some_op a b e = cc e

row_no_return : (rows : List StubRow) (p : ℕ) (o : CodeOp) → AllNoReturn rows → elim (slice_get rows p) [ None ↦ None | Some x ↦ Some x.op ] ≡ Some o → NoReturn o
row_no_return [] p o h e = absurd (cc e)
row_no_return (x ∷ rows) zero o h e = subst NoReturn (some_op x.op o e) h.0
row_no_return (x ∷ rows) (suc p) o h e = row_no_return rows p o h.1 e

terminate_no_return : (p : ℕ) (r : Option ℕ) → stub_op terminating p ≡ Some (linear (return r)) → ⊥
terminate_no_return p r e = row_no_return terminating_rows p (linear (return r)) (tt, (tt, tt)) e

unexpected_no_return : (p : ℕ) (r : Option ℕ) → stub_op call_unexpected p ≡ Some (linear (return r)) → ⊥
unexpected_no_return p r e =
    row_no_return call_unexpected_rows p (linear (return r)) (tt, (tt, (tt, (tt, (tt, (tt, (tt, (tt, (tt, (tt, (tt, (tt, (tt, (tt, (tt, (tt, (tt, (tt, tt)))))))))))))))))) e

module _ (code : Code) (weigh : Bool → CodeOp → ℕ) (longest : ℕ) (rank : Function → ℕ → ℕ) (pace : Paced code weigh longest rank) (ending : rows_weight (weigh true) terminating_rows ≤ longest) where
  not_terminate : (f : Function) (p : ℕ) (r : Option ℕ) → fetch code f p ≡ Some (linear (return r)) → is_terminating f ≡ false
  not_terminate (compiled n) p r e = refl
  not_terminate end_catch p r e = refl
  not_terminate terminating p r e = absurd (terminate_no_return p r e)
  not_terminate call_unexpected p r e = refl

  -- the operation at which a call waits to which another comes back goes on
  record GoesOn (o : Option CodeOp) : Type 0 where
    op : CodeOp
    is : o ≡ Some op
    on : op_goes_on op ≡ true

  waits_on : (f : Function) (p : ℕ) (r : Option ℕ) (o : Option CodeOp) → fetch code f p ≡ Some (linear (return r)) → WaitsAt f o → GoesOn o
  waits_on f p r None e h = absurd h
  waits_on f p r (Some (linear (plain o))) e h = record { op = linear (plain o); is = refl; on = refl }
  waits_on f p r (Some (linear (unexpected a b))) e h = absurd (unexpected_no_return p r (subst (λ g. fetch code g p ≡ Some (linear (return r))) h e))
  waits_on f p r (Some (runtime (destroy_held s o))) e h = record { op = runtime (destroy_held s o); is = refl; on = refl }
  waits_on f p r (Some (runtime (call_held s))) e h = record { op = runtime (call_held s); is = refl; on = refl }
  waits_on f p r (Some (linear (label l))) e h = absurd h
  waits_on f p r (Some (linear (jump l))) e h = absurd h
  waits_on f p r (Some (linear (jump_zero v l))) e h = absurd h
  waits_on f p r (Some (linear (pad o s))) e h = absurd h
  waits_on f p r (Some (linear (jump_filter s n l))) e h = absurd h
  waits_on f p r (Some (linear (free s))) e h = absurd h
  waits_on f p r (Some (linear (resume s))) e h = absurd h
  waits_on f p r (Some (linear (return x))) e h = absurd h
  waits_on f p r (Some (runtime (leave_newest o d l))) e h = absurd h
  waits_on f p r (Some (runtime (begin_unexpected o s))) e h = absurd h
  waits_on f p r (Some (runtime (check_unexpected s g o x))) e h = absurd h
  waits_on f p r (Some (runtime construct_bad)) e h = absurd h
  waits_on f p r (Some (runtime (terminate_for o))) e h = absurd h
  waits_on f p r (Some (runtime abort)) e h = absurd h

  module _ (st : State) (r : Option ℕ) (there : fetch code st.top.function st.top.place ≡ Some (linear (return r)))
      (linked : Linked code weigh longest rank pace ending st.top.function st.frames) where
    back_in : (b : Activation) (fs : List Activation) → st.frames ≡ b ∷ fs → (x : Frame) (w : World) → Paid code weigh longest rank pace ending st (on b x fs w)
    back_in b fs e x w =
        let own = not_terminate st.top.function st.top.place r there in
        let both = unlink code weigh longest rank pace ending st.top.function b fs own (subst (Linked code weigh longest rank pace ending st.top.function) e linked) in
        let o = waits_on st.top.function st.top.place r (fetch code b.function b.place) there both.0 in
        let up = pace.next b.function b.place o.op o.is o.on in
        let weights = ap (weight_of (whole weigh (is_own b.function))) o.is in
        let below = ap (below_left code weigh longest rank pace ending) e in
        let top = ap (λ t. beneath t (below_left code weigh longest rank pace ending st.frames)) own in
        let inside = pace.inside st.top.function st.top.place (linear (return r)) there in
        from_calm code weigh longest rank pace ending st (linear (return r)) there linked refl (below_left code weigh longest rank pace ending (b ∷ fs)) (on b x fs w) (omega (arith, inside, below, top))
        (at_comes code weigh longest rank pace ending (below_left code weigh longest rank pace ending (b ∷ fs)) b.function (b.place + 1) x fs w (omega (arith, up, weights)) both.1)

    settled_in : (b : Activation) (fs : List Activation) → st.frames ≡ b ∷ fs → (e : Effect) (w : World) → Paid code weigh longest rank pace ending st (settled e b fs w)
    settled_in b fs is (goes x v) w = back_in b fs is x v
    settled_in b fs is (calls p n given) w = tt
    settled_in b fs is (raises e v) w = tt
    settled_in b fs is (terminates h v) w = tt
    settled_in b fs is (ends e v) w = tt
    settled_in b fs is (cancels z v) w = tt
    settled_in b fs is leaves_newest w = tt
    settled_in b fs is meaningless w = tt

    returned_in : (fs : List Activation) → st.frames ≡ fs → (v : ℤ) (w : World) → Paid code weigh longest rank pace ending st (returned code v fs w)
    returned_in [] e v w = tt
    returned_in (b ∷ fs) e v w = settled_in b fs e (finished (kinds code b.function) (wanted_by (fetch code b.function b.place)) v b.frame w) w

    pub return_paid : (v : Option ℤ) (w : World) → Paid code weigh longest rank pace ending st (returned_with code v st.frames w)
    return_paid None w = tt
    return_paid (Some v) w = returned_in st.frames refl v w
