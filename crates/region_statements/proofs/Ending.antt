-- Statements that go on normally before what follows, and `return`.
use Rattle.std.proofs.Common.{◌≡◌, ℕ, ℤ, Bool, true, false, List, [], ◌∷◌, ◌++◌, Option, Some, None, refl, sym, ap, subst, arith}
use Rattle.cxx_ast.specs.Plain.{Expression}
use Rattle.meaning_forms.specs.Context.{Context as SourceContext}
use Rattle.meaning_forms.specs.Frame.{Frame as SourceFrame}
use Rattle.meaning_forms.specs.Outcome.{Action as SourceAction, Flow as SourceFlow, returns, pure as source_pure, ◌>>=◌}
use Rattle.region_forms.specs.Form.{Region, leave_region, regions_from}
use Rattle.region_forms.specs.Evaluation.{slot_location}
use Rattle.region_forms.specs.Effect.{stored_at}
use Rattle.region_forms.specs.Outcome.{Flow, normal, leaves, done}
use Rattle.region_forms.specs.Ending.{Running, settled}
use Rattle.region_forms.specs.Meaning.{followed}
use Rattle.linear_simulation.specs.Watched.{watched_all as regions}
use Rattle.region_forms.specs.LowerExpression.{Lowering, result_slot, first_temporary, slot_place, lower, lower_store}
use Rattle.region_forms.specs.LowerStatement.{variable_slot}
use Rattle.region_simulation.specs.Reach.{KindsFit}
use Rattle.region_simulation.specs.Stands.{context_of}
use Rattle.region_simulation.specs.Alike.{Alike}
use Rattle.region_simulation.specs.Evaluates.{Evaluates}
use Rattle.region_simulation.specs.Flows.{FlowAgrees, DoesAlike}
use Rattle.region_statements.specs.Sequences.{GoesOn}
use Rattle.region_simulation.proofs.Following.{Agreement, alike_less, alike_on, follows_now}
use Rattle.region_simulation.proofs.Joining.{joined}
use Rattle.region_simulation.proofs.Storing.{with_temporary, temporary_is, follows_stored}
use Rattle.region_simulation.proofs.Leaving.{follows_forgetting, scope_left}
use Rattle.region_simulation.proofs.Flowing.{alike_seq}
use Rattle.region_simulation.proofs.Placing.{stored_then}

module _ (l : Lowering) (own : Option ℕ) (gives : Bool) (b : Running) (v : SourceFrame) (c : SourceContext) where
  -- then what follows is done
  pub does_next : {A : Type 0} (n i d : ℕ) (act : SourceAction A) (f : A → SourceAction SourceFlow) (xs ys : List Region) → GoesOn l own b v c act xs
      → ((a : A) → DoesAlike l own gives b v c n i d (f a) ys) → DoesAlike l own gives b v c n i d (act >>= f) (xs ++ ys)
  does_next {A} n i d act f xs ys goes next at w s stands scope =
      let ctx = context_of w.open_calls c in
      let k = variable_slot l n in
      let there = scope.there in
      let agree = FlowAgrees l gives i d in
      let after = regions b (regions_from ys) in
      let on : Agreement A Flow = (λ a flow w2 at2 s2. flow ≡ normal) in
      subst (λ q. Alike l.layout l.program at k c w s agree ((act >>= f) w) q) (sym (joined b ctx xs ys s))
      (alike_seq l.layout l.program on agree at k c w s (act w) (regions b (regions_from xs) ctx s) f (followed (after ctx))
      (alike_less l.layout l.program on at k (first_temporary l) c w s (act w) (regions b (regions_from xs) ctx s) (omega (arith, there)) (goes at w s stands scope.reach))
      (λ a flow w2 s2 h same.
      let g = follows_forgetting l.layout l.program at k c w s c w2 s2 h in
      subst (λ q. Alike l.layout l.program at k c w s agree (f a w2) (followed (after ctx) q s2)) (sym same)
      (alike_on l.layout l.program agree at k c c w s w2 s2 g (f a w2) (after ctx s2)
      (subst (λ m. Alike l.layout l.program g.places k c w2 s2 agree (f a w2) (after (context_of m c) s2)) h.open_calls
      (next a g.places w2 s2 g.stands (scope_left l own v n at w s c c w2 s2 stands h scope))))))

  -- `return;`
  pub does_return : (n i d : ℕ) → gives ≡ false → DoesAlike l own gives b v c n i d (source_pure (returns None)) (leave_region d ∷ [])
  does_return n i d e at w s stands scope = (leaves d, s, refl, (follows_now l.layout l.program at (variable_slot l n) c w s stands, (refl, e)))

  -- `return` with a value, which the result's slot gets
  pub does_return_value : KindsFit l b.kinds → (n i d : ℕ) (act : SourceAction ℤ) (e : Expression) → gives ≡ true
      → Evaluates l own b v c (first_temporary l) act (lower l e (first_temporary l))
      → DoesAlike l own gives b v c n i d (act >>= (λ z. source_pure (returns (Some z)))) (lower_store l e (slot_place (result_slot l)) (first_temporary l) ++ leave_region d ∷ [])
  does_return_value fit n i d act e is evaluates at w s stands scope =
      let there = scope.there in
      let k = variable_slot l n in
      let r = result_slot l in
      let agree = FlowAgrees l gives i d in
      let act2 : ℤ → SourceAction SourceFlow = (λ z. source_pure (returns (Some z))) in
      stored_then l own b v c fit (first_temporary l) (omega arith) k (omega (arith, there)) (slot_place r) (leave_region d ∷ []) agree act2 e act evaluates at w s stands scope.reach
      (λ z w2 s2 h.
      let s3 = with_temporary r z s2 in (
        s3,
        ap (λ q. settled (stored_at (slot_location q s2.frame.call r 0) z s2.frame s2.world) s2) (fit.behind r (omega arith)),
        alike_on l.layout l.program agree at k c c w s w2 s2 h (act2 z w2) (done (leaves d) s3)
            (leaves d, s3, refl, (follows_stored l.layout l.program h.places k c w2 s2 r z (omega (arith, there)) h.stands, (refl, is, temporary_is r z s2))),
      ))
