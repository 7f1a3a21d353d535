-- Each step keeps which forced unwind is on its way.
use Rattle.std.proofs.Common.{◌≡◌, ◌⊎◌, inl, inr, ℕ, zero, suc, ◌+◌, ℤ, Bool, true, false, List, [], ◌∷◌, Option, Some, None, refl, sym, ap, ◌∙◌, subst, if◌then◌else◌}
use Rattle.region_forms.specs.Form.{Place, Value, Op, evaluate, store, bind, call, construct, destroy, make, throw, rethrow, enter, leave}
use Rattle.region_forms.specs.World.{Word, nothing, Frame, World}
use Rattle.region_forms.specs.Effect.{Effect, goes, calls, raises, terminates, ends, cancels, leaves_newest, meaningless, finished, new_frame}
use Rattle.linear_forms.specs.Linear.{LinearOp, plain, pad}
use Rattle.linear_forms.specs.Stub.{Function, compiled, end_catch, terminating, call_unexpected, CodeOp, linear, stub_op}
use Rattle.linear_forms.specs.Activation.{Code, Activation, compiled_op, fetch, kinds, at, enters_function, stub_frame}
use Rattle.linear_forms.specs.Operation.{settled, wanted_by, returned_with}
use Rattle.cost_paths.specs.Control.{goes_on}
use Rattle.flight_homes.specs.Keeps.{Carrying, Carried}
use Rattle.flight_homes.specs.Nest.{is_terminate}
use Rattle.linear_invariant.specs.Held.{takes_over}
use Rattle.linear_invariant.specs.Calls.{Marks, comes_back, makes_call, CallsKeep}
use Rattle.linear_invariant.specs.Code.{StepsTo, carries_on, CodeCarries}
use Rattle.linear_invariant.specs.Forced.{forced_word, forced_carried, or_else, newest_forced}
use Rattle.linear_invariant.proofs.Given.{some_same}
use Rattle.linear_invariant.proofs.Forced.{plain_calls, below_same, none_carried, at_place, Stays}
use Rattle.linear_invariant.proofs.Returns.{calls_made, waits_there}
use Rattle.linear_invariant.proofs.Tops.{called, is_pad, off_path}

-- the same word, carried or not
same_both : (b d : Bool) → b ≡ d → (cd ce : Carried) → forced_word cd.word ≡ forced_word ce.word → forced_carried (if b then Some cd else None) ≡ forced_carried (if d then Some ce else None)
same_both true true e cd ce same = same
same_both true false e cd ce same = absurd (cc e)
same_both false true e cd ce same = absurd (cc e)
same_both false false e cd ce same = refl

module _ (code : Code) (k : Carrying) (c : CodeCarries code k) (before : Option ℤ) (Begins : ℤ → Type 0) where
  -- one of the program's functions is called, or the runtime's for leaving a handler
  module _ (f : Function) (p : ℕ) (x : Frame) (fs : List Activation) (is : before ≡ newest_forced k None (called f p x ∷ fs)) where
    below : (g : Function) → takes_over (Some g) ≡ false → newest_forced k (Some g) (called f p x ∷ fs) ≡ before
    below g e = ap (λ o. if is_terminate f then None else or_else o (newest_forced k (Some f) fs)) (below_same code k c g e f p (called f p x)) ∙ sym is

    pub call_stays : (d : ℕ) (given : List Word) (w : World) → Stays code k c before Begins (enters_function code d given (called f p x ∷ fs) w)
    call_stays d given w =
        let y = new_frame (code.kinds_at d) given w in
        inr (inl (ap (λ o. or_else o (newest_forced k (Some (compiled d)) (called f p x ∷ fs))) (none_carried code k c (k.carries d 0) (at_place code k c d 0 y) (c.first d)) ∙ below (compiled d) refl))

    pub leave_stays : (w : World) → Stays code k c before Begins (at end_catch 0 (stub_frame nothing nothing nothing) (called f p x ∷ fs) w)
    leave_stays w = inr (inl (below end_catch refl))

  -- a compiled function
  module _ (n p : ℕ) (x : Frame) (fs : List Activation) (is : before ≡ newest_forced k None (called (compiled n) p x ∷ fs)) where
    pub moved : (q : ℕ) (y : Frame) (v : World) → forced_carried (if k.carries n q then Some (at_place code k c n q y) else None) ≡ forced_carried (if k.carries n p then Some (at_place code k c n p x) else None) →
        Stays code k c before Begins (at (compiled n) q y fs v)
    moved q y v e = inr (inl (ap (λ o. or_else o (newest_forced k (Some (compiled n)) fs)) e ∙ sym is))

    module _ (o : LinearOp) (there : code.op_at n p ≡ Some o) (other : is_pad o ≡ false) where
      next_same : goes_on o ≡ true → k.carries n (p + 1) ≡ k.carries n p
      next_same more = go (k.carries n p) refl
        where
          never : k.carries n p ≡ false → (k.carries n p ≡ true) ⊎ (o ≡ pad (k.object n) (k.selector n)) → false ≡ true
          never e (inl i) = sym e ∙ i
          never e (inr i) = sym other ∙ ap is_pad i

          not_next : k.carries n p ≡ false → (b : Bool) → k.carries n (p + 1) ≡ b → b ≡ false
          not_next e true i = absurd (cc (never e (c.comes n p (p + 1) o there (inl (more, refl)) i)))
          not_next e false i = refl

          go : (b : Bool) → k.carries n p ≡ b → k.carries n (p + 1) ≡ k.carries n p
          go true e = c.on n p o there e more ∙ sym e
          go false e = not_next e (k.carries n (p + 1)) refl ∙ sym e

      pub on_stays : goes_on o ≡ true → (v : World) → Stays code k c before Begins (at (compiled n) (p + 1) x fs v)
      on_stays more v = moved (p + 1) x v (same_both (k.carries n (p + 1)) (k.carries n p) (next_same more) (at_place code k c n (p + 1) x) (at_place code k c n p x) refl)

      pub not_here : carries_on o ≡ false → k.carries n p ≡ false
      not_here none = go (k.carries n p) refl
        where
          go : (b : Bool) → k.carries n p ≡ b → b ≡ false
          go true e = let never : true ≡ false = sym (c.form n p o there e) ∙ none in absurd (cc never)
          go false e = refl

      pub off_stays : (marks : Marks) → carries_on o ≡ false → (q : ℕ) → StepsTo code n p o q → (y : Frame) (v : World) → Stays code k c before Begins (at (compiled n) q y fs v)
      off_stays marks none q s y v =
          moved q y v (none_carried code k c (k.carries n q) (at_place code k c n q y) (off_path marks code k c n p o there other q s none) ∙ sym (none_carried code k c (k.carries n p) (at_place code k c n p x) (not_here none)))

    -- behind the operation at which it waited
    back_settled : (marks : Marks) (place : Place) (v : Value) → code.op_at n p ≡ Some (plain (store place v)) → (w : World) (e : Effect) → Stays code k c before Begins (settled e (called (compiled n) p x) fs w)
    back_settled marks place v there w (goes y u) = off_stays (plain (store place v)) there refl marks refl (p + 1) (inl (refl, refl)) y u
    back_settled marks place v there w (calls q d given) = tt
    back_settled marks place v there w (raises e u) = tt
    back_settled marks place v there w (terminates h u) = tt
    back_settled marks place v there w (ends e u) = tt
    back_settled marks place v there w (cancels z u) = tt
    back_settled marks place v there w leaves_newest = tt
    back_settled marks place v there w meaningless = tt

    by_op : (marks : Marks) (z : ℤ) (w : World) (o : Op) → code.op_at n p ≡ Some (plain o) → Stays code k c before Begins (settled (finished (code.kinds_at n) (wanted_by (Some (linear (plain o)))) z x w) (called (compiled n) p x) fs w)
    by_op marks z w (store q v) there = back_settled marks q v there w (finished (code.kinds_at n) (Some q) z x w)
    by_op marks z w (evaluate v) there = on_stays (plain (evaluate v)) there refl refl w
    by_op marks z w (bind s q) there = on_stays (plain (bind s q)) there refl refl w
    by_op marks z w (call b args) there = on_stays (plain (call b args)) there refl refl w
    by_op marks z w (construct q d args) there = on_stays (plain (construct q d args)) there refl refl w
    by_op marks z w (destroy q d) there = on_stays (plain (destroy q d)) there refl refl w
    by_op marks z w (make s) there = on_stays (plain (make s)) there refl refl w
    by_op marks z w (throw s t d) there = on_stays (plain (throw s t d)) there refl refl w
    by_op marks z w rethrow there = on_stays (plain rethrow) there refl refl w
    by_op marks z w (enter s) there = on_stays (plain (enter s)) there refl refl w
    by_op marks z w leave there = on_stays (plain leave) there refl refl w

    compiled_back : (marks : Marks) (z : ℤ) (w : World) (op : CodeOp) → fetch code (compiled n) p ≡ Some op → makes_call op ≡ true →
        Stays code k c before Begins (settled (finished (code.kinds_at n) (wanted_by (fetch code (compiled n) p)) z x w) (called (compiled n) p x) fs w)
    compiled_back marks z w op there made = go (code.op_at n p) refl
      where
        go : (o : Option LinearOp) → code.op_at n p ≡ o → Stays code k c before Begins (settled (finished (code.kinds_at n) (wanted_by (fetch code (compiled n) p)) z x w) (called (compiled n) p x) fs w)
        go None e = let never : None ≡ Some op = sym (ap compiled_op e) ∙ there in absurd (cc never)
        go (Some o) e =
            let fetched : fetch code (compiled n) p ≡ Some (linear o) = ap compiled_op e in
            let same : op ≡ linear o = some_same (sym there ∙ fetched) in
            let i = plain_calls o (ap makes_call (sym same) ∙ made) in
            subst (λ j. Stays code k c before Begins (settled (finished (code.kinds_at n) (wanted_by j) z x w) (called (compiled n) p x) fs w)) (sym (fetched ∙ ap (λ u. Some (linear u)) i.1))
            (by_op marks z w i.0 (e ∙ ap (λ u. Some u) i.1))

  -- the runtime's own functions go on behind calls
  module _ (marks : Marks) (z : ℤ) (w : World) (fs : List Activation) (y : Frame) where
    catch_back : (q : ℕ) → before ≡ newest_forced k None (called end_catch q y ∷ fs) → (op : CodeOp) → stub_op end_catch q ≡ Some op → makes_call op ≡ true →
        Stays code k c before Begins (settled (finished (kinds code end_catch) (wanted_by (fetch code end_catch q)) z y w) (called end_catch q y) fs w)
    catch_back zero is op there made = let never : false ≡ true = ap makes_call (some_same there) ∙ made in absurd (cc never)
    catch_back (suc zero) is op there made = inr (inl (sym is))
    catch_back (suc (suc zero)) is op there made = let never : false ≡ true = ap makes_call (some_same there) ∙ made in absurd (cc never)
    catch_back (suc (suc (suc zero))) is op there made = let never : false ≡ true = ap makes_call (some_same there) ∙ made in absurd (cc never)
    catch_back (suc (suc (suc (suc zero)))) is op there made = let never : false ≡ true = ap makes_call (some_same there) ∙ made in absurd (cc never)
    catch_back (suc (suc (suc (suc (suc zero))))) is op there made = let never : false ≡ true = ap makes_call (some_same there) ∙ made in absurd (cc never)
    catch_back (suc (suc (suc (suc (suc (suc zero)))))) is op there made = let never : false ≡ true = ap makes_call (some_same there) ∙ made in absurd (cc never)
    catch_back (suc (suc (suc (suc (suc (suc (suc q))))))) is op there made = absurd (cc there)

    ending_back : (q : ℕ) → (op : CodeOp) → stub_op terminating q ≡ Some op → makes_call op ≡ true → Stays code k c before Begins (settled (finished (kinds code terminating) (wanted_by (fetch code terminating q)) z y w) (called terminating q y) fs w)
    ending_back zero op there made = inl refl
    ending_back (suc zero) op there made = let never : false ≡ true = ap makes_call (some_same there) ∙ made in absurd (cc never)
    ending_back (suc (suc q)) op there made = absurd (cc there)

    passing_back : (q : ℕ) → before ≡ newest_forced k None (called call_unexpected q y ∷ fs) → (op : CodeOp) → stub_op call_unexpected q ≡ Some op → makes_call op ≡ true →
        Stays code k c before Begins (settled (finished (kinds code call_unexpected) (wanted_by (fetch code call_unexpected q)) z y w) (called call_unexpected q y) fs w)
    passing_back zero is op there made = let never : false ≡ true = ap makes_call (some_same there) ∙ made in absurd (cc never)
    passing_back (suc zero) is op there made = inr (inl (sym is))
    passing_back (suc (suc zero)) is op there made = let never : false ≡ true = ap makes_call (some_same there) ∙ made in absurd (cc never)
    passing_back (suc (suc (suc zero))) is op there made = let never : false ≡ true = ap makes_call (some_same there) ∙ made in absurd (cc never)
    passing_back (suc (suc (suc (suc zero)))) is op there made = let never : false ≡ true = ap makes_call (some_same there) ∙ made in absurd (cc never)
    passing_back (suc (suc (suc (suc (suc zero))))) is op there made = inr (inl (sym is))
    passing_back (suc (suc (suc (suc (suc (suc zero)))))) is op there made = let never : false ≡ true = ap makes_call (some_same there) ∙ made in absurd (cc never)
    passing_back (suc (suc (suc (suc (suc (suc (suc zero))))))) is op there made = let never : false ≡ true = ap makes_call (some_same there) ∙ made in absurd (cc never)
    passing_back (suc (suc (suc (suc (suc (suc (suc (suc zero)))))))) is op there made = let never : false ≡ true = ap makes_call (some_same there) ∙ made in absurd (cc never)
    passing_back (suc (suc (suc (suc (suc (suc (suc (suc (suc zero))))))))) is op there made = let never : false ≡ true = ap makes_call (some_same there) ∙ made in absurd (cc never)
    passing_back (suc (suc (suc (suc (suc (suc (suc (suc (suc (suc zero)))))))))) is op there made = inr (inl (sym is))
    passing_back (suc (suc (suc (suc (suc (suc (suc (suc (suc (suc (suc zero))))))))))) is op there made = inr (inl (sym is))
    passing_back (suc (suc (suc (suc (suc (suc (suc (suc (suc (suc (suc (suc zero)))))))))))) is op there made = let never : false ≡ true = ap makes_call (some_same there) ∙ made in absurd (cc never)
    passing_back (suc (suc (suc (suc (suc (suc (suc (suc (suc (suc (suc (suc (suc zero))))))))))))) is op there made = inr (inl (sym is))
    passing_back (suc (suc (suc (suc (suc (suc (suc (suc (suc (suc (suc (suc (suc (suc zero)))))))))))))) is op there made = let never : false ≡ true = ap makes_call (some_same there) ∙ made in absurd (cc never)
    passing_back (suc (suc (suc (suc (suc (suc (suc (suc (suc (suc (suc (suc (suc (suc (suc zero))))))))))))))) is op there made = inr (inl (sym is))
    passing_back (suc (suc (suc (suc (suc (suc (suc (suc (suc (suc (suc (suc (suc (suc (suc (suc zero)))))))))))))))) is op there made = inr (inl (sym is))
    passing_back (suc (suc (suc (suc (suc (suc (suc (suc (suc (suc (suc (suc (suc (suc (suc (suc (suc zero))))))))))))))))) is op there made = let never : false ≡ true = ap makes_call (some_same there) ∙ made in absurd (cc never)
    passing_back (suc (suc (suc (suc (suc (suc (suc (suc (suc (suc (suc (suc (suc (suc (suc (suc (suc (suc q)))))))))))))))))) is op there made = absurd (cc there)

    back_stays : (g : Function) (q : ℕ) → before ≡ newest_forced k None (called g q y ∷ fs) → (op : CodeOp) → fetch code g q ≡ Some op → makes_call op ≡ true →
        Stays code k c before Begins (settled (finished (kinds code g) (wanted_by (fetch code g q)) z y w) (called g q y) fs w)
    back_stays (compiled n) q is op there made = compiled_back n q y fs is marks z w op there made
    back_stays end_catch q is op there made = catch_back q is op there made
    back_stays terminating q is op there made = ending_back q op there made
    back_stays call_unexpected q is op there made = passing_back q is op there made

  pub returned_stays : (marks : Marks) (w : World) (f : Function) → comes_back f ≡ true → takes_over (Some f) ≡ false → (o : Option ℤ) (fs : List Activation) → CallsKeep code k marks (Some f) fs w →
      before ≡ newest_forced k (Some f) fs → Stays code k c before Begins (returned_with code o fs w)
  returned_stays marks w f comes takes None fs h is = tt
  returned_stays marks w f comes takes (Some z) [] h is = tt
  returned_stays marks w f comes takes (Some z) (r ∷ fs) h is =
      let waits = waits_there code f comes r h.0.waits in
      let same = ap (λ o. if is_terminate r.function then None else or_else o (newest_forced k (Some r.function) fs)) (below_same code k c f takes r.function r.place r) in
      back_stays marks z w fs r.frame r.function r.place (is ∙ same) waits.op waits.there (calls_made f comes waits.op waits.made)
