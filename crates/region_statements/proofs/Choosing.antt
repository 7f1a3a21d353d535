-- Branches on the value of a test.
use Rattle.std.proofs.Common.{◌≡◌, ℕ, ◌+◌, ◌<◌, ℤ, Bool, true, false, List, [], ◌∷◌, ◌++◌, Option, Some, sym, ap, ◌∙◌, subst, arith}
use Rattle.std.specs.Prelude.{if◌then◌else◌}
use Rattle.meaning_forms.specs.Arithmetic.{is_zero}
use Rattle.meaning_forms.specs.World.{World as SourceWorld}
use Rattle.meaning_forms.specs.Context.{Context as SourceContext}
use Rattle.meaning_forms.specs.Frame.{Frame as SourceFrame}
use Rattle.meaning_forms.specs.Outcome.{Action as SourceAction, Flow as SourceFlow, ◌>>=◌}
use Rattle.region_forms.specs.Form.{Value, Region, branch, regions_from}
use Rattle.region_forms.specs.Evaluation.{value_in}
use Rattle.region_forms.specs.Outcome.{State, Context, continued, pure, some}
use Rattle.region_forms.specs.Ending.{Running}
use Rattle.region_forms.specs.Meaning.{outwards, followed}
use Rattle.linear_simulation.specs.Watched.{watched as region, watched_all as regions}
use Rattle.region_forms.specs.LowerExpression.{Lowering, first_temporary, Lowered}
use Rattle.region_forms.specs.LowerStatement.{variable_slot, with_value}
use Rattle.region_simulation.specs.Places.{Places}
use Rattle.region_simulation.specs.Stands.{Stands, context_of}
use Rattle.region_simulation.specs.Alike.{Alike}
use Rattle.region_simulation.specs.Evaluates.{IsComputed, Evaluates}
use Rattle.region_simulation.specs.Flows.{FlowAgrees, InScope, DoesAlike}
use Rattle.region_simulation.proofs.Following.{alike_less, alike_on}
use Rattle.region_simulation.proofs.Joining.{joined}
use Rattle.region_simulation.proofs.Leaving.{follows_forgetting, scope_left}
use Rattle.region_simulation.proofs.Flowing.{alike_seq, alike_after, outwards_agrees, single}

-- a branch on a value that is there
branched : (b : Running) (d : Context) (y : Value) (first other : Region) (s : State) (z : ℤ) → value_in b.kinds s.frame s.world y ≡ Some z
    → regions b (regions_from (branch y first other ∷ [])) d s
    ≡ continued ((if is_zero z then region b other d else region b first d) s) (λ f. pure (outwards f))
branched b d y first other s z e =
    single b (branch y first other) d s ∙
    ap (λ q. continued (continued (some q s) (λ m. if is_zero m then region b other d else region b first d)) (λ f. pure (outwards f))) e

module _ (l : Lowering) (own : Option ℕ) (gives : Bool) (b : Running) (v : SourceFrame) (c : SourceContext) where
  -- a value is computed, and what then is done with it comes out alike
  pub value_then : (n i d : ℕ) (test : SourceAction ℤ) (x : Lowered) (f : ℤ → SourceAction SourceFlow) (rs : List Region)
      → Evaluates l own b v c (first_temporary l) test x
      → ((z : ℤ) (at : Places) (w : SourceWorld) (s : State) → Stands l.layout l.program at c w s → InScope l own n at v s → value_in b.kinds s.frame s.world x.value ≡ Some z
      → Alike l.layout l.program at (variable_slot l n) c w s (FlowAgrees l gives i d) (f z w) (regions b (regions_from rs) (context_of w.open_calls c) s))
      → DoesAlike l own gives b v c n i d (test >>= f) (x.before ++ rs)
  value_then n i d test x f rs evaluates next at w s stands scope =
      let ctx = context_of w.open_calls c in
      let k = variable_slot l n in
      let there = scope.there in
      let agree = FlowAgrees l gives i d in
      let after = regions b (regions_from rs) in
      subst (λ q. Alike l.layout l.program at k c w s agree ((test >>= f) w) q) (sym (joined b ctx x.before rs s))
      (alike_seq l.layout l.program (IsComputed b.kinds x.value) agree at k c w s (test w) (regions b (regions_from x.before) ctx s) f (followed (after ctx))
      (alike_less l.layout l.program (IsComputed b.kinds x.value) at k (first_temporary l) c w s (test w) (regions b (regions_from x.before) ctx s) (omega (arith, there))
      (evaluates at w s stands scope.reach))
      (λ z flow w2 s2 h same.
      let g = follows_forgetting l.layout l.program at k c w s c w2 s2 h in
      subst (λ q. Alike l.layout l.program at k c w s agree (f z w2) (followed (after ctx) q s2)) (sym same.0)
      (alike_on l.layout l.program agree at k c c w s w2 s2 g (f z w2) (after ctx s2)
      (subst (λ m. Alike l.layout l.program g.places k c w2 s2 agree (f z w2) (after (context_of m c) s2)) h.open_calls
      (next z g.places w2 s2 g.stands (scope_left l own v n at w s c c w2 s2 stands h scope) same.1)))))

  -- one of two regions is done
  pub does_branch : (n i d : ℕ) (test : SourceAction ℤ) (x : Lowered) (first other : SourceAction SourceFlow) (chosen left_out : Region) → i < d
      → Evaluates l own b v c (first_temporary l) test x
      → DoesAlike l own gives b v c n i (d + 1) first (chosen ∷ []) → DoesAlike l own gives b v c n i (d + 1) other (left_out ∷ [])
      → DoesAlike l own gives b v c n i d (test >>= (λ z. if is_zero z then other else first)) (with_value x (λ y. branch y chosen left_out))
  does_branch n i d test x first other chosen left_out lt evaluates does_first does_other =
      value_then n i d test x (λ z. if is_zero z then other else first) (branch x.value chosen left_out ∷ []) evaluates
      (λ z at w s stands scope is.
      subst (λ q. Alike l.layout l.program at (variable_slot l n) c w s (FlowAgrees l gives i d) ((if is_zero z then other else first) w) q)
      (sym (branched b (context_of w.open_calls c) x.value chosen left_out s z is)) (go (is_zero z) at w s stands scope))
    where
      side : (act : SourceAction SourceFlow) (r : Region) → DoesAlike l own gives b v c n i (d + 1) act (r ∷ []) → (at : Places) (w : SourceWorld) (s : State)
          → Stands l.layout l.program at c w s → InScope l own n at v s
          → Alike l.layout l.program at (variable_slot l n) c w s (FlowAgrees l gives i d) (act w) (continued (region b r (context_of w.open_calls c) s) (λ f. pure (outwards f)))
      side act r does at w s stands scope =
          alike_after l.layout l.program (FlowAgrees l gives i (d + 1)) (FlowAgrees l gives i d) at (variable_slot l n) c w s (act w) (region b r (context_of w.open_calls c) s) outwards
          (λ x flow w2 at2 s2 same. outwards_agrees l gives i d lt x flow w2 at2 s2 same)
          (subst (λ q. Alike l.layout l.program at (variable_slot l n) c w s (FlowAgrees l gives i (d + 1)) (act w) q) (single b r (context_of w.open_calls c) s)
          (does at w s stands scope))

      go : (z : Bool) (at : Places) (w : SourceWorld) (s : State) → Stands l.layout l.program at c w s → InScope l own n at v s
          → Alike l.layout l.program at (variable_slot l n) c w s (FlowAgrees l gives i d) ((if z then other else first) w)
          (continued ((if z then region b left_out (context_of w.open_calls c) else region b chosen (context_of w.open_calls c)) s) (λ f. pure (outwards f)))
      go true at w s stands scope = side other left_out does_other at w s stands scope
      go false at w s stands scope = side first chosen does_first at w s stands scope
