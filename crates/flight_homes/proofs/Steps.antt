-- A step from any open call.
use Rattle.std.proofs.Common.{◌≡◌, ◌⊎◌, inl, inr, ℕ, zero, suc, ◌+◌, ◌≤◌, pos, negsuc, true, false, List, [], ◌∷◌, Option, Some, None, refl, sym, ◌∙◌, subst, arith}
use Rattle.std.specs.Prelude.{slice_get}
use Rattle.region_forms.specs.World.{Word, nothing, number_word, address_word, flying, unwinding, Frame, World}
use Rattle.linear_forms.specs.Linear.{LinearOp}
use Rattle.linear_forms.specs.Stub.{Function, compiled, end_catch, terminating, call_unexpected, CodeOp, linear, runtime, StubRow, end_catch_rows, call_unexpected_rows, stub_op}
use Rattle.linear_forms.specs.Activation.{Code, Activation, compiled_op, fetch, on, counts}
use Rattle.linear_forms.specs.StubOperation.{called_held}
use Rattle.linear_forms.specs.Machine.{act_on}
use Rattle.flight_homes.specs.Nest.{CallsNest, is_terminate}
use Rattle.flight_homes.specs.OpenCalls.{CallsStand, StepsKeepCalls}
use Rattle.flight_homes.proofs.Below.{Below, Goes, below_state, called_goes}
use Rattle.flight_homes.proofs.Calls.{May, act_goes, stub_act_goes, compiled_may}

abbrev called : Function → ℕ → Frame → Activation
called f p x = record { function = f; place = p; frame = x }

-- what the runtime's own functions may do
abbrev OpMay : Function → Option CodeOp → Type 0
OpMay f None = Unit {0}
OpMay f (Some (linear o)) = May f o
OpMay f (Some (runtime o)) = Unit {0}

abbrev RowsMay : Function → List StubRow → Type 0
RowsMay f [] = Unit {0}
RowsMay f (x ∷ xs) = OpMay f (Some x.op) × RowsMay f xs

row_may : (f : Function) (rows : List StubRow) → RowsMay f rows → (p : ℕ) → OpMay f (elim (slice_get rows p) [ None ↦ None | Some x ↦ Some x.op ])
row_may f [] h p = tt
row_may f (x ∷ xs) h zero = h.0
row_may f (x ∷ xs) h (suc p) = row_may f xs h.1 p

catch_may : RowsMay end_catch end_catch_rows
catch_may = (tt, (tt, (tt, (tt, (tt, (tt, (tt, tt)))))))

passing_may : RowsMay call_unexpected call_unexpected_rows
passing_may = (tt, (tt, (tt, (tt, (tt, (tt, (tt, (tt, (tt, (tt, (tt, (tt, (tt, (tt, (tt, (refl, (refl, (tt, tt))))))))))))))))))

module _ (code : Code) (d : ℕ) (x : Frame) (fs : List Activation) (w : World) where
  -- of a function that is not terminate's
  own_goes : (f : Function) (p : ℕ) → is_terminate f ≡ false → counts f ≡ 0 → (o : Option CodeOp) → OpMay f o → Below d (called f p x ∷ fs) w → Goes d (act_on code o (called f p x) fs w)
  own_goes f p other none None h b = tt
  own_goes f p other none (Some (linear o)) h b = act_goes code d (called f p x) fs w other b o h
  own_goes f p other none (Some (runtime o)) h b = stub_act_goes code d (called f p x) fs w other b none o

  compiled_goes : (n p : ℕ) (o : Option LinearOp) → Below d (called (compiled n) p x ∷ fs) w → Goes d (act_on code (compiled_op o) (called (compiled n) p x) fs w)
  compiled_goes n p None b = tt
  compiled_goes n p (Some o) b = act_goes code d (called (compiled n) p x) fs w refl b o (compiled_may n o)

  -- terminate calls its handler only where it has one, and so runs with it
  module _ (p : ℕ) (s : CallsStand (record { top = called terminating p x; frames = fs; world = w })) (more : d ≤ w.deepest) where
    stays : Goes d (on (called terminating p x) x fs w)
    stays = (record { nest = nest_on fs s.nest; deep = s.deep; waits = s.waits; ends = s.ends; held = s.held }, more)
      where
        nest_on : (fs : List Activation) → CallsNest (called terminating p x ∷ fs) → CallsNest (called terminating (p + 1) x ∷ fs)
        nest_on [] h = tt
        nest_on (b ∷ fs) h = h

    runs : (n : ℕ) → x.slots 0 ≡ number_word (pos n) → w.ending ≡ true
    runs n e = go (s.held refl)
      where
        go : (w.ending ≡ true) ⊎ (x.slots 0 ≡ nothing) → w.ending ≡ true
        go (inl h) = h
        go (inr h) = let never : nothing ≡ number_word (pos n) = sym h ∙ e in absurd (cc never)

    calls_held : (word : Word) → x.slots 0 ≡ word → Goes d (called_held code word (called terminating p x) fs w)
    calls_held (number_word (pos n)) e =
        called_goes d code n [] (called terminating p x) fs w (record { nest = s.nest; deep = s.deep; waits = λ h. runs n e; ends = s.ends; more = more })
    calls_held (number_word (negsuc n)) e = stays
    calls_held nothing e = stays
    calls_held (address_word q) e = stays
    calls_held (flying i t) e = stays
    calls_held (unwinding z) e = stays

  ending_goes : (p : ℕ) → CallsStand (record { top = called terminating p x; frames = fs; world = w }) → d ≤ w.deepest → Goes d (act_on code (fetch code terminating p) (called terminating p x) fs w)
  ending_goes zero s more = calls_held 0 s more (x.slots 0) refl
  ending_goes (suc zero) s more = tt
  ending_goes (suc (suc p)) s more = tt

  step_goes : (f : Function) (p : ℕ) → CallsStand (record { top = called f p x; frames = fs; world = w }) → d ≤ w.deepest → Goes d (act_on code (fetch code f p) (called f p x) fs w)
  step_goes (compiled n) p s more = compiled_goes n p (code.op_at n p) (below_state d (record { top = called (compiled n) p x; frames = fs; world = w }) refl more s)
  step_goes end_catch p s more = own_goes end_catch p refl refl (stub_op end_catch p) (row_may end_catch end_catch_rows catch_may p) (below_state d (record { top = called end_catch p x; frames = fs; world = w }) refl more s)
  step_goes terminating p s more = ending_goes p s more
  step_goes call_unexpected p s more = own_goes call_unexpected p refl refl (stub_op call_unexpected p) (row_may call_unexpected call_unexpected_rows passing_may p) (below_state d (record { top = called call_unexpected p x; frames = fs; world = w }) refl more s)

pub steps_keep_calls : StepsKeepCalls
steps_keep_calls code st next s e =
    subst (Goes st.world.deepest) e (step_goes code st.world.deepest st.top.frame st.frames st.world st.top.function st.top.place s (omega arith))
