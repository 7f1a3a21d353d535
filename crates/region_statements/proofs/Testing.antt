-- `while`: a test that makes calls is tested inside the body.
use Rattle.std.proofs.Common.{◌≡◌, ℕ, zero, suc, ◌+◌, ◌<◌, ℤ, pos, Bool, true, false, List, [], ◌∷◌, Option, refl, ap, subst, arith}
use Rattle.std.specs.Prelude.{◌-◌, if◌then◌else◌}
use Rattle.meaning_forms.specs.Arithmetic.{is_zero}
use Rattle.meaning_forms.specs.World.{World as SourceWorld}
use Rattle.meaning_forms.specs.Context.{Context as SourceContext}
use Rattle.meaning_forms.specs.Frame.{Frame as SourceFrame}
use Rattle.meaning_forms.specs.Statement.{spend as source_spend, looped, loop as source_loop}
use Rattle.meaning_forms.specs.Outcome.{Result as SourceResult, done as source_done, stopped as source_stopped, Action as SourceAction, continued as source_continued, pure as source_pure, Flow as SourceFlow, normal as source_normal, breaks, continues, returns, world, ◌>>=◌}
use Rattle.region_forms.specs.Form.{number, Region, branch, leave_region, in_order}
use Rattle.region_forms.specs.Outcome.{leaves}
use Rattle.region_forms.specs.Ending.{Running}
use Rattle.region_forms.specs.LowerExpression.{Lowering, Lowered}
use Rattle.region_forms.specs.LowerStatement.{variable_slot, with_value, looping}
use Rattle.region_forms.specs.Form.{regions_from}
use Rattle.linear_simulation.specs.Watched.{watched_all as regions}
use Rattle.region_simulation.specs.Stands.{context_of}
use Rattle.region_simulation.specs.Alike.{Alike}
use Rattle.region_simulation.specs.Flows.{FlowAgrees, DoesAlike}
use Rattle.region_simulation.proofs.Following.{follows_now}
use Rattle.region_simulation.proofs.Flowing.{does_inside}
use Rattle.region_statements.specs.Sequences.{IsTested}
use Rattle.region_statements.proofs.Choosing.{does_branch}
use Rattle.region_statements.proofs.Looping.{does_loop}

-- a turn of a loop whose test is inside its body
abbrev turn : SourceAction ℤ → SourceAction SourceFlow → SourceAction SourceFlow
turn test body = test >>= (λ z. if is_zero z then source_pure breaks else body)

-- it makes no difference to a loop where its test stands
same_turn : (again more : SourceAction SourceFlow) → ((w : SourceWorld) → again w ≡ more w) → (r : SourceResult SourceFlow)
    → source_continued r (looped again) ≡ source_continued r (looped more)
same_turn again more same (source_done source_normal w) = same w
same_turn again more same (source_done continues w) = same w
same_turn again more same (source_done breaks w) = refl
same_turn again more same (source_done (returns v) w) = refl
same_turn again more same (source_stopped x w) = refl

same_test : (again more body : SourceAction SourceFlow) → ((w : SourceWorld) → again w ≡ more w) → (r : SourceResult ℤ)
    → source_continued (source_continued r (λ z. if is_zero z then source_pure breaks else body)) (looped again)
    ≡ source_continued r (λ z. if is_zero z then source_pure source_normal else (body >>= looped more))
same_test again more body same (source_done z w) = go (is_zero z)
  where
    go : (q : Bool) → source_continued ((if q then source_pure breaks else body) w) (looped again) ≡ (if q then source_pure source_normal else (body >>= looped more)) w
    go true = refl
    go false = same_turn again more same (body w)
same_test again more body same (source_stopped x w) = refl

same_loop : (test : SourceAction ℤ) (body : SourceAction SourceFlow) (m : ℕ) (w : SourceWorld)
    → source_loop m (source_pure (pos 1)) (turn test body) w ≡ source_loop m test body w
same_loop test body zero w = refl
same_loop test body (suc m) w = go (λ u. same_loop test body m u) (source_spend w.turns w)
  where
    go : ((u : SourceWorld) → source_loop m (source_pure (pos 1)) (turn test body) u ≡ source_loop m test body u) → (r : SourceResult (Unit {0}))
        → source_continued r (λ x. turn test body >>= looped (source_loop m (source_pure (pos 1)) (turn test body)))
        ≡ source_continued r (λ x. test >>= (λ z. if is_zero z then source_pure source_normal else (body >>= looped (source_loop m test body))))
    go same (source_done x u) = same_test (source_loop m (source_pure (pos 1)) (turn test body)) (source_loop m test body) body same (test u)
    go same (source_stopped x u) = refl

module _ (l : Lowering) (own : Option ℕ) (gives : Bool) (b : Running) (v : SourceFrame) (c : SourceContext) where
  pub does_break : (n i d m : ℕ) → m ≡ d - i + 1 → DoesAlike l own gives b v c n i d (source_pure breaks) (leave_region m ∷ [])
  does_break n i d m e at w s stands scope = (leaves m, s, refl, (follows_now l.layout l.program at (variable_slot l n) c w s stands, ap (λ q. leaves q) e))

  pub does_continue : (n i d : ℕ) → DoesAlike l own gives b v c n i d (source_pure continues) (leave_region (d - i) ∷ [])
  does_continue n i d at w s stands scope = (leaves (d - i), s, refl, (follows_now l.layout l.program at (variable_slot l n) c w s stands, refl))

  pub does_while : (calls : Bool) (n i d : ℕ) (test : SourceAction ℤ) (x : Lowered) (body : SourceAction SourceFlow) (bs : ℕ → List Region) → i < d
      → IsTested l own b v c calls test x → ((e : ℕ) → d + 1 < e → DoesAlike l own gives b v c n (d + 1) e body (bs e))
      → DoesAlike l own gives b v c n i d (world >>= (λ w. source_loop (suc w.turns) test body)) (looping calls x (λ e. in_order (bs e)) d ∷ [])
  does_while false n i d test x body bs lt tested does at w s stands scope =
      does_loop l own gives b v c n i d lt test x.value body (bs (d + 2)) tested (does (d + 2) (omega arith)) at w s stands scope
  does_while true n i d test x body bs lt tested does at w s stands scope =
      subst (λ q. Alike l.layout l.program at (variable_slot l n) c w s (FlowAgrees l gives i d) q
      (regions b (regions_from (looping true x (λ e. in_order (bs e)) d ∷ [])) (context_of w.open_calls c) s)) (same_loop test body (suc w.turns) w)
      (does_loop l own gives b v c n i d lt (source_pure (pos 1)) (number (pos 1)) (turn test body)
      (with_value x (λ y. branch y (in_order (bs (d + 4))) (leave_region 3))) (λ at w s stands reach. (refl, refl))
      (does_branch l own gives b v c n (d + 1) (d + 2) test x body (source_pure breaks) (in_order (bs (d + 4))) (leave_region 3) (omega arith) tested
      (subst (λ q. DoesAlike l own gives b v c n (d + 1) q body (in_order (bs (d + 4)) ∷ [])) three
      (does_inside l own gives b v c n (d + 1) (d + 3) body (bs (d + 4)) (omega arith)
      (subst (λ q. DoesAlike l own gives b v c n (d + 1) q body (bs (d + 4))) four (does (d + 4) (omega arith)))))
      (does_break n (d + 1) (d + 2 + 1) 3 (omega arith))) at w s stands scope)
    where
      three : d + 3 ≡ d + 2 + 1
      three = omega arith

      four : d + 4 ≡ d + 3 + 1
      four = omega arith
