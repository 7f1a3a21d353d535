-- A call that comes back leaves what the others keep.
use Rattle.std.proofs.Common.{◌≡◌, inl, ℕ, zero, suc, ◌+◌, ℤ, true, false, List, [], ◌∷◌, Option, Some, None, refl, sym, ap, ◌∙◌, subst, if◌then◌else◌, arith}
use Rattle.region_forms.specs.Form.{Place, Value, Op, evaluate, store, bind, call, construct, destroy, make, throw, rethrow, enter, leave}
use Rattle.region_forms.specs.World.{of_exception, Word, nothing, number_word, address_word, flying, unwinding, address_in, Frame, World}
use Rattle.region_forms.specs.Effect.{Effect, goes, calls, raises, terminates, ends, cancels, leaves_newest, meaningless, finished}
use Rattle.linear_forms.specs.Linear.{LinearOp, plain, label, jump, jump_zero, pad, jump_filter, free, resume, unexpected, return}
use Rattle.linear_forms.specs.Stub.{Function, compiled, end_catch, terminating, call_unexpected, CodeOp, linear, stub_op}
use Rattle.linear_forms.specs.Activation.{Code, Activation, compiled_op, fetch, kinds, on}
use Rattle.linear_forms.specs.Operation.{settled, performed, wanted_by, returned_with}
use Rattle.flight_homes.specs.Keeps.{Carrying, Carried, carried, is_help_in}
use Rattle.flight_homes.specs.Lives.{WorldKnown}
use Rattle.flight_homes.specs.Whole.{IsWhole}
use Rattle.flight_homes.specs.WholeCalls.{CallsWhole}
use Rattle.flight_homes.specs.Homes.{is_one_of}
use Rattle.linear_invariant.specs.Held.{takes_over}
use Rattle.linear_invariant.specs.Handled.{WorldKeeps}
use Rattle.linear_invariant.specs.Calls.{Marks, WordGoes, FlightGoes, comes_back, makes_call, MadeBy, WaitsAt, Waits, CallKeeps, CallsKeep}
use Rattle.linear_invariant.specs.Code.{CodeCarries}
use Rattle.linear_invariant.proofs.Worlds.{itself, more_steps}
use Rattle.linear_invariant.proofs.Tops.{called, Goes, top_goes, not_carried, off_path, moves}
use Rattle.linear_invariant.proofs.Effects.{finished_leads}
use Rattle.linear_invariant.proofs.Given.{some_same}

-- slots for help of a call are whole
pub helps_whole : (code : Code) (f : Function) (x : Frame) → IsWhole (kinds code f) x → (s e o : ℕ) → is_help_in code f s → address_in (x.slots s) ≡ Some (record { base = of_exception e; offset = o }) → o ≡ 0
helps_whole code (compiled n) x h s e o help i = h s e o help i
helps_whole code end_catch x h s e o help i = h s e o refl i
helps_whole code terminating x h s e o help i = h s e o refl i
helps_whole code call_unexpected x h s e o help i = h s e o refl i

-- the same call carries the same at another place
pub same_goes : (marks : Marks) (code : Code) (f : Function) (p q : ℕ) (x : Frame) (fs : List Activation) (c : Carried) (w : World) (word : Word) → WordGoes marks code (called f p x) fs c word w → WordGoes marks code (called f q x) fs c word w
same_goes marks code f p q x fs c w (flying e d) h = (record { can = h.0.can; apart = h.0.apart; again = h.0.again; selector = h.0.selector; number = h.0.number; goes = h.0.goes }, h.1)
same_goes marks code f p q x fs c w (unwinding z) h = h
same_goes marks code f p q x fs c w nothing h = h
same_goes marks code f p q x fs c w (number_word z) h = h
same_goes marks code f p q x fs c w (address_word a) h = h

-- who comes back was called by an operation that calls
pub calls_made : (f : Function) → comes_back f ≡ true → (op : CodeOp) → MadeBy f op → makes_call op ≡ true
calls_made (compiled n) comes op h = h
calls_made end_catch comes op h = ap makes_call h
calls_made terminating comes op h = absurd (cc comes)
calls_made call_unexpected comes op h = absurd (cc comes)

pub waits_there : (code : Code) (f : Function) → comes_back f ≡ true → (a : Activation) → Waits code (Some f) a → WaitsAt code f a
waits_there code (compiled n) comes a h = h
waits_there code end_catch comes a h = h
waits_there code terminating comes a h = absurd (cc comes)
waits_there code call_unexpected comes a h = absurd (cc comes)

module _ (marks : Marks) (code : Code) (k : Carrying) (c : CodeCarries code k) (m : ℕ) (w : World) (world : WorldKeeps m w) (lives : WorldKnown marks.known w) where
  more : WorldKeeps (m + 1) w
  more = more_steps m (m + 1) w (omega arith) world

  module _ (g : Function) (q : ℕ) (y : Frame) (fs : List Activation) where
    abbrev back : Activation
    back = called g q y

    settled_as : (e : Effect) → Goes marks code k (m + 1) (performed code e back fs w) → Goes marks code k (m + 1) (settled e back fs w)
    settled_as (goes x v) h = h
    settled_as (calls p n given) h = tt
    settled_as (raises e v) h = tt
    settled_as (terminates t v) h = tt
    settled_as (ends e v) h = tt
    settled_as (cancels z v) h = tt
    settled_as leaves_newest h = tt
    settled_as meaningless h = tt

  module _ (below : Option Function) (z : ℤ) (fs : List Activation) where
    -- a compiled function goes on
    module _ (n q : ℕ) (y : Frame) (own : CallKeeps code k marks below (called (compiled n) q y) fs w) (rest : CallsKeep code k marks (Some (compiled n)) fs w)
        (carries : FlightGoes marks code (called (compiled n) q y) fs (carried k (called (compiled n) q y)) w) (whole : IsWhole (code.kinds_at n) y) where
      as_newest : CallKeeps code k marks None (called (compiled n) q y) fs w
      as_newest = record { forgets = own.forgets; carries = carries; gone = tt; slots = tt; waits = tt }

      goes_behind : (o : Op) → code.op_at n q ≡ Some (plain o) → Goes marks code k (m + 1) (on (called (compiled n) q y) y fs w)
      goes_behind o there =
          top_goes marks code k (m + 1) (compiled n) (q + 1) y fs w own.forgets
          (moves marks code k c n q (plain o) there refl (q + 1) (inl (refl, refl)) y fs w
          (λ here next u number. ap (is_one_of u) (c.others n q (plain o) there here refl (λ s l v e. cc e))) carries)
          tt tt rest more

      stores : (p : Place) (v : Value) → code.op_at n q ≡ Some (plain (store p v)) → Goes marks code k (m + 1) (settled (finished (code.kinds_at n) (Some p) z y w) (called (compiled n) q y) fs w)
      stores p v there =
          settled_as (compiled n) q y fs (finished (code.kinds_at n) (Some p) z y w)
          (finished_leads marks code k c m (compiled n) q y fs w as_newest rest world lives (helps_whole code (compiled n) y whole)
          (λ x u. not_carried marks code k (called (compiled n) (q + 1) x) fs u (k.carries n (q + 1)) _ (off_path marks code k c n q (plain (store p v)) there refl (q + 1) (inl (refl, refl)) refl))
          (λ x. tt) (λ x. refl) (code.kinds_at n) (Some p) z w (itself w))

      -- behind the operation at which it waits
      by_op : (o : LinearOp) → makes_call (linear o) ≡ true → code.op_at n q ≡ Some o → Goes marks code k (m + 1) (settled (finished (code.kinds_at n) (wanted_by (Some (linear o))) z y w) (called (compiled n) q y) fs w)
      by_op (plain (evaluate v)) h there = goes_behind (evaluate v) there
      by_op (plain (store p v)) h there = stores p v there
      by_op (plain (bind s p)) h there = goes_behind (bind s p) there
      by_op (plain (call b args)) h there = goes_behind (call b args) there
      by_op (plain (construct p d args)) h there = goes_behind (construct p d args) there
      by_op (plain (destroy p d)) h there = goes_behind (destroy p d) there
      by_op (plain (make s)) h there = goes_behind (make s) there
      by_op (plain (throw s t d)) h there = goes_behind (throw s t d) there
      by_op (plain rethrow) h there = goes_behind rethrow there
      by_op (plain (enter s)) h there = goes_behind (enter s) there
      by_op (plain leave) h there = goes_behind leave there
      by_op (label l) h there = absurd (cc h)
      by_op (jump l) h there = absurd (cc h)
      by_op (jump_zero v l) h there = absurd (cc h)
      by_op (pad o s) h there = absurd (cc h)
      by_op (jump_filter s u l) h there = absurd (cc h)
      by_op (free s) h there = absurd (cc h)
      by_op (resume s) h there = absurd (cc h)
      by_op (unexpected o s) h there = absurd (cc h)
      by_op (return r) h there = absurd (cc h)

      compiled_back : (op : CodeOp) → fetch code (compiled n) q ≡ Some op → makes_call op ≡ true → Goes marks code k (m + 1) (settled (finished (code.kinds_at n) (wanted_by (fetch code (compiled n) q)) z y w) (called (compiled n) q y) fs w)
      compiled_back op there makes = go (code.op_at n q) refl op there makes
        where
          go : (o : Option LinearOp) → code.op_at n q ≡ o → (op : CodeOp) → fetch code (compiled n) q ≡ Some op → makes_call op ≡ true →
              Goes marks code k (m + 1) (settled (finished (code.kinds_at n) (wanted_by (fetch code (compiled n) q)) z y w) (called (compiled n) q y) fs w)
          go None e op there makes = let never : None ≡ Some op = sym (ap compiled_op e) ∙ there in absurd (cc never)
          go (Some o) e op there makes =
              let fetched : fetch code (compiled n) q ≡ Some (linear o) = ap compiled_op e in
              let same : op ≡ linear o = some_same (sym there ∙ fetched) in
              subst (λ i. Goes marks code k (m + 1) (settled (finished (code.kinds_at n) (wanted_by i) z y w) (called (compiled n) q y) fs w)) (sym fetched)
              (by_op o (ap makes_call (sym same) ∙ makes) e)

    -- the runtime's own functions go on

    catch_back : (q : ℕ) (y : Frame) → CallKeeps code k marks below (called end_catch q y) fs w → CallsKeep code k marks (Some end_catch) fs w → (op : CodeOp) → stub_op end_catch q ≡ Some op → makes_call op ≡ true →
        Goes marks code k (m + 1) (settled (finished (kinds code end_catch) (wanted_by (fetch code end_catch q)) z y w) (called end_catch q y) fs w)
    catch_back zero y own rest op there makes = let never : false ≡ true = ap makes_call (some_same there) ∙ makes in absurd (cc never)
    catch_back (suc zero) y own rest op there makes = top_goes marks code k (m + 1) end_catch 2 y fs w own.forgets tt own.gone tt rest more
    catch_back (suc (suc zero)) y own rest op there makes = let never : false ≡ true = ap makes_call (some_same there) ∙ makes in absurd (cc never)
    catch_back (suc (suc (suc zero))) y own rest op there makes = let never : false ≡ true = ap makes_call (some_same there) ∙ makes in absurd (cc never)
    catch_back (suc (suc (suc (suc zero)))) y own rest op there makes = let never : false ≡ true = ap makes_call (some_same there) ∙ makes in absurd (cc never)
    catch_back (suc (suc (suc (suc (suc zero))))) y own rest op there makes = let never : false ≡ true = ap makes_call (some_same there) ∙ makes in absurd (cc never)
    catch_back (suc (suc (suc (suc (suc (suc zero)))))) y own rest op there makes = let never : false ≡ true = ap makes_call (some_same there) ∙ makes in absurd (cc never)
    catch_back (suc (suc (suc (suc (suc (suc (suc q))))))) y own rest op there makes = absurd (cc there)

    ending_back : (q : ℕ) (y : Frame) → CallKeeps code k marks below (called terminating q y) fs w → CallsKeep code k marks (Some terminating) fs w → (op : CodeOp) → stub_op terminating q ≡ Some op → makes_call op ≡ true →
        Goes marks code k (m + 1) (settled (finished (kinds code terminating) (wanted_by (fetch code terminating q)) z y w) (called terminating q y) fs w)
    ending_back zero y own rest op there makes = top_goes marks code k (m + 1) terminating 1 y fs w own.forgets tt tt tt rest more
    ending_back (suc zero) y own rest op there makes = let never : false ≡ true = ap makes_call (some_same there) ∙ makes in absurd (cc never)
    ending_back (suc (suc q)) y own rest op there makes = absurd (cc there)

    module _ (y : Frame) where
      abbrev passed_on : Carried
      passed_on = record { word = y.slots 4; home = 17; number = y.slots 5; left = [] }

      passing_back : (q : ℕ) → CallKeeps code k marks below (called call_unexpected q y) fs w → CallsKeep code k marks (Some call_unexpected) fs w →
          FlightGoes marks code (called call_unexpected q y) fs (carried k (called call_unexpected q y)) w → (op : CodeOp) → stub_op call_unexpected q ≡ Some op → makes_call op ≡ true →
          Goes marks code k (m + 1) (settled (finished (kinds code call_unexpected) (wanted_by (fetch code call_unexpected q)) z y w) (called call_unexpected q y) fs w)
      passing_back zero own rest carries op there makes = let never : false ≡ true = ap makes_call (some_same there) ∙ makes in absurd (cc never)
      passing_back (suc zero) own rest carries op there makes = top_goes marks code k (m + 1) call_unexpected 2 y fs w own.forgets tt tt tt rest more
      passing_back (suc (suc zero)) own rest carries op there makes = let never : false ≡ true = ap makes_call (some_same there) ∙ makes in absurd (cc never)
      passing_back (suc (suc (suc zero))) own rest carries op there makes = let never : false ≡ true = ap makes_call (some_same there) ∙ makes in absurd (cc never)
      passing_back (suc (suc (suc (suc zero)))) own rest carries op there makes = let never : false ≡ true = ap makes_call (some_same there) ∙ makes in absurd (cc never)
      passing_back (suc (suc (suc (suc (suc zero))))) own rest carries op there makes = top_goes marks code k (m + 1) call_unexpected 6 y fs w own.forgets tt tt tt rest more
      passing_back (suc (suc (suc (suc (suc (suc zero)))))) own rest carries op there makes = let never : false ≡ true = ap makes_call (some_same there) ∙ makes in absurd (cc never)
      passing_back (suc (suc (suc (suc (suc (suc (suc zero))))))) own rest carries op there makes = let never : false ≡ true = ap makes_call (some_same there) ∙ makes in absurd (cc never)
      passing_back (suc (suc (suc (suc (suc (suc (suc (suc zero)))))))) own rest carries op there makes = let never : false ≡ true = ap makes_call (some_same there) ∙ makes in absurd (cc never)
      passing_back (suc (suc (suc (suc (suc (suc (suc (suc (suc zero))))))))) own rest carries op there makes = let never : false ≡ true = ap makes_call (some_same there) ∙ makes in absurd (cc never)
      passing_back (suc (suc (suc (suc (suc (suc (suc (suc (suc (suc zero)))))))))) own rest carries op there makes = top_goes marks code k (m + 1) call_unexpected 11 y fs w own.forgets tt tt tt rest more
      passing_back (suc (suc (suc (suc (suc (suc (suc (suc (suc (suc (suc zero))))))))))) own rest carries op there makes = top_goes marks code k (m + 1) call_unexpected 12 y fs w own.forgets tt tt tt rest more
      passing_back (suc (suc (suc (suc (suc (suc (suc (suc (suc (suc (suc (suc zero)))))))))))) own rest carries op there makes = let never : false ≡ true = ap makes_call (some_same there) ∙ makes in absurd (cc never)
      passing_back (suc (suc (suc (suc (suc (suc (suc (suc (suc (suc (suc (suc (suc zero))))))))))))) own rest carries op there makes = top_goes marks code k (m + 1) call_unexpected 14 y fs w own.forgets tt tt tt rest more
      passing_back (suc (suc (suc (suc (suc (suc (suc (suc (suc (suc (suc (suc (suc (suc zero)))))))))))))) own rest carries op there makes = let never : false ≡ true = ap makes_call (some_same there) ∙ makes in absurd (cc never)
      passing_back (suc (suc (suc (suc (suc (suc (suc (suc (suc (suc (suc (suc (suc (suc (suc zero))))))))))))))) own rest carries op there makes =
          top_goes marks code k (m + 1) call_unexpected 16 y fs w own.forgets (same_goes marks code call_unexpected 15 16 y fs passed_on w (y.slots 4) carries) tt tt rest more
      passing_back (suc (suc (suc (suc (suc (suc (suc (suc (suc (suc (suc (suc (suc (suc (suc (suc zero)))))))))))))))) own rest carries op there makes =
          top_goes marks code k (m + 1) call_unexpected 17 y fs w own.forgets (same_goes marks code call_unexpected 16 17 y fs passed_on w (y.slots 4) carries) tt tt rest more
      passing_back (suc (suc (suc (suc (suc (suc (suc (suc (suc (suc (suc (suc (suc (suc (suc (suc (suc zero))))))))))))))))) own rest carries op there makes = let never : false ≡ true = ap makes_call (some_same there) ∙ makes in absurd (cc never)
      passing_back (suc (suc (suc (suc (suc (suc (suc (suc (suc (suc (suc (suc (suc (suc (suc (suc (suc (suc q)))))))))))))))))) own rest carries op there makes = absurd (cc there)

    back_goes : (g : Function) (q : ℕ) (y : Frame) → CallKeeps code k marks below (called g q y) fs w → CallsKeep code k marks (Some g) fs w →
        FlightGoes marks code (called g q y) fs (carried k (called g q y)) w → IsWhole (kinds code g) y → (op : CodeOp) → fetch code g q ≡ Some op → makes_call op ≡ true →
        Goes marks code k (m + 1) (settled (finished (kinds code g) (wanted_by (fetch code g q)) z y w) (called g q y) fs w)
    back_goes (compiled n) q y own rest carries whole op there makes = compiled_back n q y own rest carries whole op there makes
    back_goes end_catch q y own rest carries whole op there makes = catch_back q y own rest op there makes
    back_goes terminating q y own rest carries whole op there makes = ending_back q y own rest op there makes
    back_goes call_unexpected q y own rest carries whole op there makes = passing_back y q own rest carries op there makes

  -- what came back leaves the call below it
  pub returned_goes : (f : Function) → comes_back f ≡ true → takes_over (Some f) ≡ false → (o : Option ℤ) (fs : List Activation) → CallsKeep code k marks (Some f) fs w → CallsWhole code fs →
      Goes marks code k (m + 1) (returned_with code o fs w)
  returned_goes f comes takes None fs h whole = tt
  returned_goes f comes takes (Some z) [] h whole = tt
  returned_goes f comes takes (Some z) (r ∷ fs) h whole =
      let waits = waits_there code f comes r h.0.waits in
      back_goes (Some f) z fs r.function r.place r.frame h.0 h.1 (subst (λ b. FlightGoes marks code r fs (if b then None else carried k r) w) takes h.0.carries) whole.0 waits.op waits.there (calls_made f comes waits.op waits.made)
