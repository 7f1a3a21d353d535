-- Try blocks do the same.
use Rattle.std.proofs.Common.{◌≡◌, ℕ, ◌+◌, ◌<◌, Bool, List, [], ◌∷◌, Option, refl, sym, ap, subst, arith}
use Rattle.std.specs.Prelude.{map}
use Rattle.meaning_forms.specs.World.{World as SourceWorld}
use Rattle.meaning_forms.specs.Context.{Context as SourceContext, Clause, try_block, guarded_by, with_travelling}
use Rattle.meaning_forms.specs.Frame.{Frame as SourceFrame}
use Rattle.meaning_forms.specs.Outcome.{Result as SourceResult, done as source_done, stopped as source_stopped, thrown, cancelled, ended, undefined, out_of_turns, deep, Action as SourceAction, Flow as SourceFlow}
use Rattle.meaning_forms.specs.Statement.{after_try as source_after_try}
use Rattle.region_forms.specs.Form.{Region, Clauses, catch, in_order, regions_from}
use Rattle.region_forms.specs.Guard.{clauses as clauses_guard, types_of}
use Rattle.region_forms.specs.Outcome.{State, Context, Flow, Result, continued, pure, guarded_by as region_guarded_by}
use Rattle.region_forms.specs.Ending.{Running}
use Rattle.region_forms.specs.Meaning.{outwards, after_try}
use Rattle.linear_simulation.specs.Watched.{watched_caught as caught, watched as region, watched_all as regions}
use Rattle.region_forms.specs.LowerExpression.{Lowering}
use Rattle.region_forms.specs.LowerStatement.{variable_slot}
use Rattle.region_simulation.specs.Places.{Places}
use Rattle.region_simulation.specs.Stands.{clause_of, context_of, Stands}
use Rattle.region_simulation.specs.Alike.{Alike}
use Rattle.region_simulation.specs.Flows.{FlowAgrees, InScope, DoesAlike}
use Rattle.region_simulation.proofs.Leaving.{follows_forgetting, scope_left}
use Rattle.region_simulation.proofs.Flowing.{alike_after, outwards_agrees, single}
use Rattle.region_exceptions.specs.Tries.{CanBeCaught, CatchesAlike, TriesAlike}
use Rattle.region_exceptions.proofs.Standing.{stands_guarded, stands_outside}
use Rattle.region_exceptions.proofs.Barriers.{follows_outside}
use Rattle.region_exceptions.proofs.Since.{alike_since, left_newly}

module _ (l : Lowering) (own : Option ℕ) (gives : Bool) (b : Running) (v : SourceFrame) (c : SourceContext) (n i d : ℕ) (lt : i < d) (clauses : List Clause) (cs : Clauses)
    (act : SourceAction SourceFlow) (rs : List Region) (handled : ℕ → SourceAction SourceFlow) (fresh : CanBeCaught (guarded_by (try_block clauses) c) act)
    (does : DoesAlike l own gives b v (guarded_by (try_block clauses) c) n i (d + 2) act rs) (catches : CatchesAlike l own gives b v c n i (d + 1) handled cs)
    (at : Places) (w : SourceWorld) (s : State) (stands : Stands l.layout l.program at c w s) (scope : InScope l own n at v s) where
  abbrev k : ℕ
  k = variable_slot l n

  abbrev ctx : Context
  ctx = context_of w.open_calls c

  abbrev inside : SourceContext
  inside = guarded_by (try_block clauses) c

  abbrev inner : Result Flow
  inner = region b (in_order rs) (context_of w.open_calls inside) s

  stands_inside : Stands l.layout l.program at inside w s
  stands_inside = stands_guarded l.layout l.program at (try_block clauses) c w s stands

  body : Alike l.layout l.program at k inside w s (FlowAgrees l gives i (d + 1)) (act w) inner
  body =
      let e : d + 2 ≡ d + 1 + 1 = omega arith in
      let h = subst (λ m. Alike l.layout l.program at k inside w s (FlowAgrees l gives i m) (act w) (regions b (regions_from rs) (context_of w.open_calls inside) s)) e
      (does at w s stands_inside scope) in
      alike_after l.layout l.program (FlowAgrees l gives i (d + 1 + 1)) (FlowAgrees l gives i (d + 1)) at k inside w s (act w)
      (regions b (regions_from rs) (context_of w.open_calls inside) s) outwards (outwards_agrees l gives i (d + 1) (omega (arith, lt))) h

  -- what comes out is caught
  tried : (x : SourceResult SourceFlow) → act w ≡ x → (y : Result Flow) → Alike l.layout l.program at k inside w s (FlowAgrees l gives i (d + 1)) x y
      → Alike l.layout l.program at k c w s (FlowAgrees l gives i (d + 1)) (source_after_try handled x) (after_try (caught b cs ctx) y)
  tried (source_done u w2) is y (flow, s2, same, (h, agrees)) =
      (flow, s2, ap (after_try (caught b cs ctx)) same, (follows_outside l.layout l.program (try_block clauses) at k w s c w2 s2 h, agrees))
  tried (source_stopped (thrown e) w2) is y (s2, same, h) =
      let comes = fresh w w2 e stands_inside.sound is in
      let g = follows_forgetting l.layout l.program at k inside w s (with_travelling e inside) w2 s2 h in
      let standing = stands_outside l.layout l.program g.places (try_block clauses) (with_travelling e c) w2 s2 g.stands in
      subst (λ z. Alike l.layout l.program at k c w s (FlowAgrees l gives i (d + 1)) (handled e w2) z) (sym (ap (after_try (caught b cs ctx)) same))
      (alike_since l.layout l.program (FlowAgrees l gives i (d + 1)) at k c (with_travelling e inside) w s w2 s2 g (handled e w2) (caught b cs ctx e s2)
      (subst (λ m. Alike l.layout l.program g.places k c w s2 (FlowAgrees l gives i (d + 1)) (handled e w2) (caught b cs (context_of m c) e s2)) h.open_calls
      (catches e g.places w w2 s2 standing (scope_left l own v n at w s inside (with_travelling e inside) w2 s2 stands_inside h scope) (record { rests = comes.0.rests; front = comes.0.front })
      (left_newly l.layout l.program at k c w s stands e (with_travelling e inside) w2 s2 g comes.1))))
  tried (source_stopped (cancelled q) w2) is y (s2, same, h) = (s2, ap (after_try (caught b cs ctx)) same, follows_outside l.layout l.program (try_block clauses) at k w s c w2 s2 h)
  tried (source_stopped undefined w2) is y h = tt
  tried (source_stopped (ended x) w2) is y (s2, same, h) = (s2, ap (after_try (caught b cs ctx)) same, h)
  tried (source_stopped out_of_turns w2) is y (s2, same, h) = (s2, ap (after_try (caught b cs ctx)) same, h)
  tried (source_stopped deep w2) is y (s2, same, h) = (s2, ap (after_try (caught b cs ctx)) same, h)

  pub try_done : types_of cs ≡ map clause_of clauses
      → Alike l.layout l.program at k c w s (FlowAgrees l gives i d) (source_after_try handled (act w)) (regions b (regions_from (catch (in_order rs) cs ∷ [])) ctx s)
  try_done types =
      subst (λ z. Alike l.layout l.program at k c w s (FlowAgrees l gives i d) (source_after_try handled (act w)) z) (sym (single b (catch (in_order rs) cs) ctx s))
      (subst (λ ts. Alike l.layout l.program at k c w s (FlowAgrees l gives i d) (source_after_try handled (act w))
      (continued (after_try (caught b cs ctx) (region b (in_order rs) (region_guarded_by (clauses_guard ts) ctx) s)) (λ flow. pure (outwards flow)))) (sym types)
      (alike_after l.layout l.program (FlowAgrees l gives i (d + 1)) (FlowAgrees l gives i d) at k c w s (source_after_try handled (act w)) (after_try (caught b cs ctx) inner) outwards
      (outwards_agrees l gives i d lt) (tried (act w) refl inner body)))

pub tries_alike : TriesAlike
tries_alike l own gives b v c n i d lt clauses cs types act rs handled fresh does catches at w s stands scope =
    try_done l own gives b v c n i d lt clauses cs act rs handled fresh does catches at w s stands scope types
