-- `&&` and `||` whose right side makes calls.
use Rattle.std.proofs.Common.{◌≡◌, ℕ, zero, suc, ◌+◌, ◌≤◌, ℤ, pos, negsuc, Bool, true, false, List, [], ◌∷◌, ◌++◌, Option, Some, None, refl, sym, ap, ◌∙◌, subst, arith}
use Rattle.std.specs.Prelude.{not, if◌then◌else◌}
use Rattle.std.proofs.lemmas.Bool.Decides.{nat_tests}
use Rattle.cxx_ast.specs.declared.expression.BinaryOp.{BinaryOp}
use Rattle.cxx_ast.specs.declared.expression.BinaryOp.TheVariants.{And, Or, NotEqual}
use Rattle.meaning_forms.specs.Arithmetic.{is_zero, truth, int_equal, binary_value, decided}
use Rattle.meaning_forms.specs.World.{World as SourceWorld}
use Rattle.meaning_forms.specs.Context.{Context as SourceContext}
use Rattle.meaning_forms.specs.Frame.{Frame as SourceFrame}
use Rattle.meaning_forms.specs.Expression.{with_right_side}
use Rattle.meaning_forms.specs.Outcome.{Result as SourceResult, done as source_done, Action as SourceAction, ◌>>=◌}
use Rattle.region_forms.specs.Form.{Value, number, load, Region, branch, regions_from, in_order}
use Rattle.region_forms.specs.World.{Frame, World}
use Rattle.region_forms.specs.Evaluation.{with_some, with_right, value_in}
use Rattle.region_forms.specs.Form.{Kinds}
use Rattle.region_forms.specs.Outcome.{State, Context, normal, continued, pure, some}
use Rattle.region_forms.specs.Ending.{Running}
use Rattle.region_forms.specs.Meaning.{outwards, followed}
use Rattle.linear_simulation.specs.Watched.{watched as region, watched_all as regions}
use Rattle.region_forms.specs.LowerExpression.{Lowering, first_temporary, Lowered, slot_place, stored_in, truth_of, if_true, if_false}
use Rattle.region_simulation.specs.Places.{Places}
use Rattle.region_simulation.specs.Reach.{Reaches, KindsFit}
use Rattle.region_simulation.specs.Stands.{Stands, context_of}
use Rattle.region_simulation.specs.Alike.{Alike}
use Rattle.region_simulation.specs.Evaluates.{IsComputed, Evaluates}
use Rattle.region_simulation.proofs.Following.{alike_then, reaches_kept}
use Rattle.region_simulation.proofs.Joining.{joined}
use Rattle.region_simulation.proofs.Evaluating.{alike_inside, store_last}

-- a number is 0 or not
equal_zero : (n : ℤ) → int_equal n (pos 0) ≡ is_zero n
equal_zero (pos zero) = refl
equal_zero (pos (suc n)) = grind (arith, nat_tests)
equal_zero (negsuc n) = refl

truth_value : (kinds : Kinds) (f : Frame) (w : World) (y : Value) (n : ℤ) → value_in kinds f w y ≡ Some n
    → value_in kinds f w (truth_of y) ≡ Some (truth (not (is_zero n)))
truth_value kinds f w y n e =
    ap (λ z. with_some z (λ m. with_right NotEqual m (decided NotEqual m) (Some (pos 0)))) e ∙ ap (λ z. Some (truth (not z))) (equal_zero n)

-- a branch on a value
branched : (b : Running) (d : Context) (y : Value) (first_side second_side : List Region) (s : State) (n : ℤ) → value_in b.kinds s.frame s.world y ≡ Some n
    → regions b (regions_from (branch y (in_order first_side) (in_order second_side) ∷ [])) d s
    ≡ continued (continued ((if is_zero n then region b (in_order second_side) d else region b (in_order first_side) d) s) (λ f. pure (outwards f))) (followed (pure normal))
branched b d y first_side second_side s n e =
    ap (λ z. continued (continued (continued (some z s) (λ m. if is_zero m then region b (in_order second_side) d else region b (in_order first_side) d)) (λ f. pure (outwards f)))
    (followed (pure normal))) e

module _ (l : Lowering) (own : Option ℕ) (b : Running) (v : SourceFrame) (c : SourceContext) (fit : KindsFit l b.kinds) (t : ℕ) (high : first_temporary l ≤ t) where
  -- the side that is chosen stands in two regions
  chosen : (at : Places) (w : SourceWorld) (s : State) (d : Context) (x : SourceResult ℤ) (rs : List Region)
      → Alike l.layout l.program at t c w s (IsComputed b.kinds (load (slot_place t))) x (regions b (regions_from rs) d s)
      → Alike l.layout l.program at t c w s (IsComputed b.kinds (load (slot_place t))) x
      (continued (continued (region b (in_order rs) d s) (λ f. pure (outwards f))) (followed (pure normal)))
  chosen at w s d x rs h =
      let agree : ℤ → SourceWorld → Places → State → Type 0 = (λ n w2 at2 s2. value_in b.kinds s2.frame s2.world (load (slot_place t)) ≡ Some n) in
      alike_inside l.layout l.program agree at t c w s x _ (followed (pure normal)) (λ u. refl)
      (alike_inside l.layout l.program agree at t c w s x _ (λ f. pure (outwards f)) (λ u. refl)
      (alike_inside l.layout l.program agree at t c w s x _ (λ f. pure (outwards f)) (λ u. refl) h))

  -- the right side, whose truth is stored
  right_side : (op : BinaryOp) (m : ℤ) (right : SourceAction ℤ) (y : Lowered) → ((n : ℤ) (w : SourceWorld) → binary_value op m n w ≡ source_done (truth (not (is_zero n))) w)
      → (at : Places) (w : SourceWorld) (s : State) (d : Context)
      → Alike l.layout l.program at t c w s (IsComputed b.kinds y.value) (right w) (regions b (regions_from y.before) d s)
      → Alike l.layout l.program at t c w s (IsComputed b.kinds (load (slot_place t))) (with_right_side op m None right w)
      (regions b (regions_from (y.before ++ stored_in t (truth_of y.value) ∷ [])) d s)
  right_side op m right y is at w s d h =
      let next = IsComputed b.kinds (load (slot_place t)) in
      subst (λ z. Alike l.layout l.program at t c w s next (with_right_side op m None right w) z) (sym (joined b d y.before (stored_in t (truth_of y.value) ∷ []) s))
      (alike_then l.layout l.program (IsComputed b.kinds y.value) next at t c w s (right w) (regions b (regions_from y.before) d s)
      (binary_value op m) (followed (regions b (regions_from (stored_in t (truth_of y.value) ∷ [])) d)) h
      (λ n flow w2 s2 g same.
      subst (λ z. Alike l.layout l.program g.places t c w2 s2 next z (followed (regions b (regions_from (stored_in t (truth_of y.value) ∷ [])) d) flow s2)) (sym (is n w2))
      (subst (λ f. Alike l.layout l.program g.places t c w2 s2 next (source_done (truth (not (is_zero n))) w2) (followed (regions b (regions_from (stored_in t (truth_of y.value) ∷ [])) d) f s2))
      (sym same.0)
      (store_last l own b v c fit t high g.places w2 s2 d (truth_of y.value) (truth (not (is_zero n))) g.stands (truth_value b.kinds s2.frame s2.world y.value n same.1)))))

  -- the left side decides which side of the branch is done
  decides : (op : BinaryOp) (left right : SourceAction ℤ) (x : Lowered) (first_side second_side : List Region)
      → Evaluates l own b v c t left x
      → ((m : ℤ) (at : Places) (w : SourceWorld) (s : State) (n : ℕ) → n ≡ w.open_calls → Stands l.layout l.program at c w s → Reaches l own at v s.frame
      → Alike l.layout l.program at t c w s (IsComputed b.kinds (load (slot_place t))) (with_right_side op m (decided op m) right w)
      (continued (continued ((if is_zero m then region b (in_order second_side) (context_of n c) else region b (in_order first_side) (context_of n c)) s) (λ f. pure (outwards f))) (followed (pure normal))))
      → Evaluates l own b v c t (left >>= (λ a. with_right_side op a (decided op a) right))
      (record { before = x.before ++ branch x.value (in_order first_side) (in_order second_side) ∷ []; value = load (slot_place t); next = t + 1 })
  decides op left right x first_side second_side first second at w s stands reach =
      let ctx = context_of w.open_calls c in
      let next = IsComputed b.kinds (load (slot_place t)) in
      let test = branch x.value (in_order first_side) (in_order second_side) in
      subst (λ z. Alike l.layout l.program at t c w s next ((left >>= (λ a. with_right_side op a (decided op a) right)) w) z) (sym (joined b ctx x.before (test ∷ []) s))
      (alike_then l.layout l.program (IsComputed b.kinds x.value) next at t c w s (left w) (regions b (regions_from x.before) ctx s)
      (λ a. with_right_side op a (decided op a) right) (followed (regions b (regions_from (test ∷ [])) ctx)) (first at w s stands reach)
      (λ a flow w2 s2 h same.
      subst (λ f. Alike l.layout l.program h.places t c w2 s2 next (with_right_side op a (decided op a) right w2) (followed (regions b (regions_from (test ∷ [])) ctx) f s2)) (sym same.0)
      (subst (λ z. Alike l.layout l.program h.places t c w2 s2 next (with_right_side op a (decided op a) right w2) z)
      (sym (branched b ctx x.value first_side second_side s2 a same.1))
      (second a h.places w2 s2 w.open_calls (sym h.open_calls) h.stands (reaches_kept l own v at t w s c c w2 s2 stands h (omega (arith, high)) reach)))))

  pub and_case : (left right : SourceAction ℤ) (x y : Lowered) → Evaluates l own b v c t left x → Evaluates l own b v c t right y
      → Evaluates l own b v c t (left >>= (λ a. with_right_side And a (decided And a) right)) (if_true t x y)
  and_case left right x y first second =
      decides And left right x (y.before ++ stored_in t (truth_of y.value) ∷ []) (stored_in t (number (pos 0)) ∷ []) first
      (λ m at w s n e stands reach. go m at w s n e stands reach (is_zero m))
    where
      go : (m : ℤ) (at : Places) (w : SourceWorld) (s : State) (n : ℕ) → n ≡ w.open_calls → Stands l.layout l.program at c w s → Reaches l own at v s.frame → (z : Bool)
          → Alike l.layout l.program at t c w s (IsComputed b.kinds (load (slot_place t))) (with_right_side And m (if z then Some (pos 0) else None) right w)
          (continued (continued ((if z then region b (in_order (stored_in t (number (pos 0)) ∷ [])) (context_of n c)
          else region b (in_order (y.before ++ stored_in t (truth_of y.value) ∷ [])) (context_of n c)) s) (λ f. pure (outwards f))) (followed (pure normal)))
      go m at w s n e stands reach true =
          chosen at w s (context_of n c) (with_right_side And m (Some (pos 0)) right w) (stored_in t (number (pos 0)) ∷ [])
          (store_last l own b v c fit t high at w s (context_of n c) (number (pos 0)) (pos 0) stands refl)
      go m at w s n e stands reach false =
          chosen at w s (context_of n c) (with_right_side And m None right w) (y.before ++ stored_in t (truth_of y.value) ∷ [])
          (right_side And m right y (λ k u. refl) at w s (context_of n c)
          (subst (λ k. Alike l.layout l.program at t c w s (IsComputed b.kinds y.value) (right w) (regions b (regions_from y.before) (context_of k c) s)) (sym e) (second at w s stands reach)))

  pub or_case : (left right : SourceAction ℤ) (x y : Lowered) → Evaluates l own b v c t left x → Evaluates l own b v c t right y
      → Evaluates l own b v c t (left >>= (λ a. with_right_side Or a (decided Or a) right)) (if_false t x y)
  or_case left right x y first second =
      decides Or left right x (stored_in t (number (pos 1)) ∷ []) (y.before ++ stored_in t (truth_of y.value) ∷ []) first
      (λ m at w s n e stands reach. go m at w s n e stands reach (is_zero m))
    where
      go : (m : ℤ) (at : Places) (w : SourceWorld) (s : State) (n : ℕ) → n ≡ w.open_calls → Stands l.layout l.program at c w s → Reaches l own at v s.frame → (z : Bool)
          → Alike l.layout l.program at t c w s (IsComputed b.kinds (load (slot_place t))) (with_right_side Or m (if z then None else Some (pos 1)) right w)
          (continued (continued ((if z then region b (in_order (y.before ++ stored_in t (truth_of y.value) ∷ [])) (context_of n c)
          else region b (in_order (stored_in t (number (pos 1)) ∷ [])) (context_of n c)) s) (λ f. pure (outwards f))) (followed (pure normal)))
      go m at w s n e stands reach false =
          chosen at w s (context_of n c) (with_right_side Or m (Some (pos 1)) right w) (stored_in t (number (pos 1)) ∷ [])
          (store_last l own b v c fit t high at w s (context_of n c) (number (pos 1)) (pos 1) stands refl)
      go m at w s n e stands reach true =
          chosen at w s (context_of n c) (with_right_side Or m None right w) (y.before ++ stored_in t (truth_of y.value) ∷ [])
          (right_side Or m right y (λ k u. refl) at w s (context_of n c)
          (subst (λ k. Alike l.layout l.program at t c w s (IsComputed b.kinds y.value) (right w) (regions b (regions_from y.before) (context_of k c) s)) (sym e) (second at w s stands reach)))
