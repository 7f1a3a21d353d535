-- The parameters of handlers, then the handlers.
use Rattle.std.proofs.Common.{◌≡◌, ℕ, ◌+◌, ◌<◌, ◌≤◌, ℤ, Bool, List, [], ◌∷◌, ◌++◌, Option, Some, None, refl, sym, subst, arith, ◌∙◌}
use Rattle.cxx_ast.specs.declared.name.Name.{Name}
use Rattle.cxx_ast.specs.declared.types.Ty.{Ty}
use Rattle.cxx_ast.specs.declared.types.Ty.TheVariants.{Int, Void, Object, IntRef, ObjectRef}
use Rattle.run_items.specs.declared.item.Item.TheVariants.{Enter}
use Rattle.meaning_forms.specs.World.{World as SourceWorld, Reference, exception_at as source_exception_at}
use Rattle.meaning_forms.specs.Context.{Context as SourceContext, handling, with_travelling}
use Rattle.meaning_forms.specs.Frame.{Frame as SourceFrame, with_parameter}
use Rattle.meaning_forms.specs.Outcome.{Result as SourceResult, done as source_done, stopped as source_stopped, thrown, cancelled, ended, undefined, out_of_turns, deep, Action as SourceAction, Flow as SourceFlow, continued as source_continued, pure as source_pure, ◌>>◌}
use Rattle.meaning_forms.specs.Running.{Running as SourceRunning, Argument as SourceArgument, Callee}
use Rattle.region_simulation.specs.Expressions.{source_running}
use Rattle.meaning_forms.specs.Scope.{after_scope as source_after_scope, scope}
use Rattle.meaning_forms.specs.Handler.{enter as source_enter, while_handled, catch_parameter, destroy_parameter, exception_object, handle}
use Rattle.region_forms.specs.Form.{Region, op, enter, protect, leave_handler, in_order, regions_from}
use Rattle.region_forms.specs.Laws.{CaughtListFollows}
use Rattle.region_forms.specs.World.{address_word, object_address}
use Rattle.region_forms.specs.Effect.{entered}
use Rattle.region_forms.specs.Outcome.{State, Flow, normal, continued}
use Rattle.region_forms.specs.Ending.{Running}
use Rattle.region_forms.specs.Meaning.{outwards, followed}
use Rattle.linear_simulation.specs.Watched.{watched as region, watched_all as regions}
use Rattle.region_forms.specs.LowerExpression.{Lowering, exception_slot}
use Rattle.region_forms.specs.LowerStatement.{variable_slot}
use Rattle.region_simulation.specs.Places.{Places}
use Rattle.region_simulation.specs.Stands.{Stands, context_of}
use Rattle.region_simulation.specs.Alike.{Alike}
use Rattle.region_simulation.specs.Flows.{FlowAgrees, InScope, DoesAlike}
use Rattle.region_simulation.proofs.Following.{alike_less}
use Rattle.region_simulation.proofs.Flowing.{alike_after, outwards_agrees}
use Rattle.region_simulation.proofs.Joining.{joined}
use Rattle.region_exceptions.specs.Fares.{CallsFare}
use Rattle.region_exceptions.specs.Same.{RunAlike}
use Rattle.region_exceptions.specs.Barred.{StaysInside}
use Rattle.region_exceptions.specs.Handlers.{CanBeEntered, EmptyDestructor}
use Rattle.region_exceptions.proofs.Handling.{entry_stands, handled_from}
use Rattle.region_exceptions.specs.Left.{CanBeLeft}
use Rattle.region_exceptions.proofs.Since.{alike_older, inside_since, left_on}
use Rattle.meaning_forms.specs.Class.{contains}

-- nothing is done at the end of a scope
scope_none : {A : Type 0} (a : SourceRunning) (c : SourceContext) (x : SourceResult A) → source_after_scope a c (λ d. source_pure (tt {0})) x ≡ x
scope_none a c (source_done u w) = refl
scope_none a c (source_stopped (thrown e) w) = refl
scope_none a c (source_stopped (cancelled n) w) = refl
scope_none a c (source_stopped undefined w) = refl
scope_none a c (source_stopped (ended e) w) = refl
scope_none a c (source_stopped out_of_turns w) = refl
scope_none a c (source_stopped deep w) = refl

-- a parameter that is not an object by value needs no destruction
abbrev pub IsNoObject : Option Ty → Type 0
IsNoObject (Some (Object n)) = ⊥
IsNoObject t = Unit {0}

not_destroyed : (a : SourceRunning) (t : Option Ty) (r : Reference) → IsNoObject t
    → ◌≡◌ {A = SourceContext → SourceAction (Unit {0})} (destroy_parameter a t r) (λ c. source_pure (tt {0}))
not_destroyed a None r h = refl
not_destroyed a (Some Int) r h = refl
not_destroyed a (Some Void) r h = refl
not_destroyed a (Some (IntRef k)) r h = refl
not_destroyed a (Some (ObjectRef k n)) r h = refl
not_destroyed a (Some (Object n)) r h = absurd h

module _ (laws : CaughtListFollows) (l : Lowering) (own : Option ℕ) (gives : Bool) (n i d : ℕ) (lt : i < d) (call : Callee → Reference → List SourceArgument → SourceContext → SourceAction ℤ) (b : Running)
    (same : RunAlike l.layout (source_running l call) b) (fare : CallsFare (source_running l call)) (empty : EmptyDestructor l.layout (source_running l call) b)
    (v : SourceFrame) (c : SourceContext) (e : ℕ)
    (fresh : CanBeEntered c e) (t : Option Ty) (x : Option Name) (body : SourceFrame → SourceContext → SourceAction SourceFlow) where
  abbrev k : ℕ
  k = variable_slot l n

  abbrev a : SourceRunning
  a = source_running l call

  -- what is done in the handler
  abbrev pub in_handler : Reference → SourceContext → SourceAction SourceFlow
  in_handler r d = scope a d (destroy_parameter a t r) (body (with_parameter x r v) d)

  -- the body does alike behind the entry
  abbrev pub BodyAlike : List Region → Reference → SourceWorld → Places → State → Type 0
  BodyAlike inner r w at s =
      Alike l.layout a.program at k (handling e c) (record w { items = w.items ++ Enter e ∷ [] }) (record s { world = entered e s.world }) (FlowAgrees l gives i (d + 1))
      (in_handler r (handling e c) (record w { items = w.items ++ Enter e ∷ [] })) (region b (in_order inner) (context_of w.open_calls c) (record s { world = entered e s.world }))

  -- the parameter is there, and the body does alike
  abbrev pub Passed : List Region → Reference → Flow → SourceWorld → Places → State → Type 0
  Passed inner r flow w at s = (flow ≡ normal) × (s.frame.slots (exception_slot l) ≡ address_word (object_address e)) × BodyAlike inner r w at s

  -- so the handler does
  pub parameter_then : (at : Places) (w0 w : SourceWorld) (s : State) → CanBeLeft (contains c.handled e) e at w0 w → (P inner : List Region) (source : Reference) → source ≡ exception_object (source_exception_at w e)
      → StaysInside (catch_parameter a t source (with_travelling e c) w)
      → Alike l.layout a.program at k (with_travelling e c) w s (Passed inner) (catch_parameter a t source (with_travelling e c) w) (regions b (regions_from P) (context_of w.open_calls c) s)
      → Alike l.layout a.program at k c w0 s (FlowAgrees l gives i d) (handle a e t x body v c w)
      (regions b (regions_from (P ++ op (enter (exception_slot l)) ∷ protect (in_order inner) leave_handler ∷ [])) (context_of w.open_calls c) s)
  parameter_then at w0 w s can P inner source is inside passes =
      let ctx = context_of w.open_calls c in
      let behind = op (enter (exception_slot l)) ∷ protect (in_order inner) leave_handler ∷ [] in
      let next : Reference → SourceAction SourceFlow = (λ r. source_enter a e c >> while_handled a e c (in_handler r)) in
      subst (λ z. Alike l.layout a.program at k c w0 s (FlowAgrees l gives i d) (handle a e t x body v c w) z) (sym (joined b ctx P behind s))
      (subst (λ q. Alike l.layout a.program at k c w0 s (FlowAgrees l gives i d) (source_continued (catch_parameter a t q (with_travelling e c) w) next)
      (continued (regions b (regions_from P) ctx s) (followed (regions b (regions_from behind) ctx)))) is
      (inside_since l.layout a.program (Passed inner) (FlowAgrees l gives i d) at k (with_travelling e c) c w0 s (catch_parameter a t source (with_travelling e c) w)
      (regions b (regions_from P) ctx s) next (followed (regions b (regions_from behind) ctx)) inside
      (alike_older l.layout a.program (Passed inner) at k (with_travelling e c) w0 w s (catch_parameter a t source (with_travelling e c) w) (regions b (regions_from P) ctx s) can.objects can.open_calls passes)
      (λ r flow w2 s2 h (fl, slot, does).
      subst (λ f. Alike l.layout a.program h.places k c w0 s2 (FlowAgrees l gives i d) (next r w2) (followed (regions b (regions_from behind) ctx) f s2)) (sym fl)
      (subst (λ m. Alike l.layout a.program h.places k c w0 s2 (FlowAgrees l gives i d) (next r w2) (regions b (regions_from behind) (context_of m c) s2)) (h.open_calls ∙ sym can.open_calls)
      (handled_from laws l gives i d lt a b same fare empty h.places k c w2 s2 e h.stands fresh (in_handler r) inner w0
      (left_on l.layout a.program (contains c.handled e) e at k w0 w s (with_travelling e c) w2 s2 can h) does slot)))))

  -- the body of a handler whose parameter needs no destruction
  pub body_alike : (at : Places) (w : SourceWorld) (s : State) (r : Reference) (m : ℕ) (rs : List Region) → IsNoObject t → n ≤ m → Stands l.layout a.program at (with_travelling e c) w s
      → InScope l own m at (with_parameter x r v) s
      → DoesAlike l own gives b (with_parameter x r v) (handling e c) m i (d + 2) (body (with_parameter x r v) (handling e c)) rs
      → BodyAlike rs r w at s
  body_alike at w s r m rs plain le stands scope does =
      let w2 = record w { items = w.items ++ Enter e ∷ [] } in
      let s2 = record s { world = entered e s.world } in
      let ctx = context_of w.open_calls c in
      let standing = entry_stands laws l gives i d lt a b same fare empty at k c w s e stands fresh (in_handler r) rs in
      let inside : InScope l own m at (with_parameter x r v) s2 =
      record { reach = scope.reach; before = scope.before; free = scope.free; there = scope.there; running = scope.running } in
      let more : d + 2 ≡ d + 1 + 1 = omega arith in
      let y = body (with_parameter x r v) (handling e c) w2 in
      let h : Alike l.layout a.program at (variable_slot l m) (handling e c) w2 s2 (FlowAgrees l gives i (d + 1 + 1)) y (regions b (regions_from rs) ctx s2) =
      subst (λ q. Alike l.layout l.program at (variable_slot l m) (handling e c) w2 s2 (FlowAgrees l gives i q) y (regions b (regions_from rs) ctx s2)) more
      (does at w2 s2 standing inside) in
      let g = alike_after l.layout a.program (FlowAgrees l gives i (d + 1 + 1)) (FlowAgrees l gives i (d + 1)) at (variable_slot l m) (handling e c) w2 s2 y (regions b (regions_from rs) ctx s2)
      outwards (outwards_agrees l gives i (d + 1) (omega (arith, lt))) h in
      subst (λ z. Alike l.layout a.program at k (handling e c) w2 s2 (FlowAgrees l gives i (d + 1)) (source_after_scope a (handling e c) z y) (region b (in_order rs) ctx s2))
      (sym (not_destroyed a t r plain))
      (subst (λ z. Alike l.layout a.program at k (handling e c) w2 s2 (FlowAgrees l gives i (d + 1)) z (region b (in_order rs) ctx s2)) (sym (scope_none a (handling e c) y))
      (alike_less l.layout a.program (FlowAgrees l gives i (d + 1)) at k (variable_slot l m) (handling e c) w2 s2 y (region b (in_order rs) ctx s2) (omega (arith, le)) g))
