-- Handlers by the kind of their parameter: none, a reference, an int.
use Rattle.std.proofs.Common.{◌≡◌, ℕ, ◌+◌, ◌<◌, ℤ, Bool, true, false, List, [], ◌∷◌, Option, Some, None, refl, sym, ap, subst, arith, length}
use Rattle.std.specs.Prelude.{◌==◌, if◌then◌else◌}
use Rattle.cxx_ast.specs.declared.name.Name.{Name}
use Rattle.cxx_ast.specs.declared.types.Ty.{Ty}
use Rattle.meaning_forms.specs.Class.{object_type, contains}
use Rattle.meaning_forms.specs.World.{World as SourceWorld, Reference, whole, nowhere, exception_at as source_exception_at}
use Rattle.meaning_forms.specs.Context.{Context as SourceContext, handling, with_travelling}
use Rattle.meaning_forms.specs.Frame.{Frame as SourceFrame, with_parameter, bound_as}
use Rattle.meaning_forms.specs.Outcome.{done as source_done, Action as SourceAction, Flow as SourceFlow}
use Rattle.meaning_forms.specs.Running.{Running as SourceRunning, Argument as SourceArgument, Callee}
use Rattle.meaning_forms.specs.Handler.{catch_parameter, exception_object, handle}
use Rattle.region_forms.specs.Form.{Region, op, bind, enter, protect, leave_handler, in_order, regions_from}
use Rattle.region_forms.specs.Laws.{CaughtListFollows}
use Rattle.region_forms.specs.World.{address_word, object_address, with_slot}
use Rattle.region_forms.specs.Outcome.{State, Context, normal}
use Rattle.region_forms.specs.Ending.{Running}
use Rattle.linear_simulation.specs.Watched.{watched_all as regions}
use Rattle.region_forms.specs.LowerExpression.{Lowering, exception_slot, variable_type}
use Rattle.region_forms.specs.LowerStatement.{variable_slot, thrown_place}
use Rattle.region_simulation.specs.Places.{Places}
use Rattle.region_simulation.specs.Stands.{Stands, context_of}
use Rattle.region_simulation.specs.Alike.{Keeps, Alike}
use Rattle.region_simulation.specs.Reach.{IsReachedBy}
use Rattle.region_simulation.specs.Flows.{FlowAgrees, InScope, DoesAlike}
use Rattle.region_simulation.specs.Statements.{HasNumber}
use Rattle.region_simulation.specs.Expressions.{source_running}
use Rattle.region_simulation.proofs.Following.{follows_now}
use Rattle.region_exceptions.specs.Fares.{CallsFare}
use Rattle.region_exceptions.specs.Same.{RunAlike}
use Rattle.region_exceptions.specs.Barred.{StaysInside}
use Rattle.region_exceptions.specs.Handlers.{CanBeEntered, EmptyDestructor}
use Rattle.region_exceptions.proofs.Standing.{stands_framed}
use Rattle.region_exceptions.proofs.Parameters.{IsNoObject, Passed, parameter_then, body_alike}
use Rattle.region_exceptions.proofs.Catching.{CaughtAs, IsReference, caught_reference, variable_newly, scope_parameter, follows_framed, slot_keeps, bound_there}
use Rattle.region_exceptions.specs.Left.{CanBeLeft}

module _ (laws : CaughtListFollows) (l : Lowering) (own : Option ℕ) (gives : Bool) (n i d : ℕ) (lt : i < d) (call : Callee → Reference → List SourceArgument → SourceContext → SourceAction ℤ) (b : Running)
    (same : RunAlike l.layout (source_running l call) b) (fare : CallsFare (source_running l call)) (empty : EmptyDestructor l.layout (source_running l call) b)
    (v : SourceFrame) (c : SourceContext) (e : ℕ) (fresh : CanBeEntered c e)
    (body : SourceFrame → SourceContext → SourceAction SourceFlow) (rs : List Region) (at : Places) (w : SourceWorld) (s : State)
    (stands : Stands l.layout l.program at (with_travelling e c) w s) (inside : InScope l own n at v s) (slot : s.frame.slots (exception_slot l) ≡ address_word (object_address e)) where
  abbrev a : SourceRunning
  a = source_running l call

  abbrev k : ℕ
  k = variable_slot l n

  abbrev ctx : Context
  ctx = context_of w.open_calls c

  -- the entry, the body and the leaving
  abbrev pub last : List Region
  last = op (enter (exception_slot l)) ∷ protect (in_order rs) leave_handler ∷ []

  -- a handler for all exceptions
  pub all_handled : (w0 : SourceWorld) → CanBeLeft (contains c.handled e) e at w0 w → DoesAlike l own gives b v (handling e c) n i (d + 2) (body v (handling e c)) rs
      → Alike l.layout l.program at k c w0 s (FlowAgrees l gives i d) (handle a e None None body v c w) (regions b (regions_from last) ctx s)
  all_handled w0 can does =
      parameter_then laws l own gives n i d lt call b same fare empty v c e fresh None None body at w0 w s can [] rs (exception_object (source_exception_at w e)) refl tt (
        normal,
        s,
        refl,
        (
          follows_now l.layout l.program at k (with_travelling e c) w s stands,
          (refl, slot, body_alike laws l own gives n i d lt call b same fare empty v c e fresh None None body at w s nowhere n rs tt (omega arith) stands inside does),
        ),
      )

  module _ (w0 : SourceWorld) (can : CanBeLeft (contains c.handled e) e at w0 w) (x : Option Name) (numbered : HasNumber x n) (there : n < length l.variables)
      (does : (r : Reference) → DoesAlike l own gives b (with_parameter x r v) (handling e c) (n + 1) i (d + 2) (body (with_parameter x r v) (handling e c)) rs) where
    abbrev s1 : State
    s1 = record s { frame = with_slot k (address_word (object_address e)) s.frame }

    keeps1 : Keeps k s.frame s1.frame
    keeps1 = slot_keeps k k (address_word (object_address e)) s.frame (omega arith)

    pub reference_handled : (t : Ty) → IsReference t → IsNoObject (Some t) → variable_type l n ≡ t → (y : CaughtAs l.program w e (object_type t))
        → IsReachedBy t k s1.frame (object_address e)
        → ((q : Reference) (f : SourceContext) → catch_parameter a (Some t) q f w ≡ source_done (bound_as w t q) w)
        → Alike l.layout l.program at k c w0 s (FlowAgrees l gives i d) (handle a e (Some t) x body v c w)
        (regions b (regions_from (op (bind k (thrown_place l)) ∷ last)) ctx s)
    reference_handled t is_reference plain typed y reached catches =
        let r = bound_as w t (whole y.object) in
        let h = follows_framed l.layout l.program at k (with_travelling e c) w s s1.frame keeps1 stands in
        let refers = caught_reference l.layout l.program at (with_travelling e c) w s stands e t is_reference y in
        let newly = variable_newly l at v s1.frame n t r (object_address e) there typed refers reached in
        let inside1 = scope_parameter l own v n at w s (with_travelling e c) (with_travelling e c) w s1 stands h inside x numbered r there newly
        (λ o m z is base. (let less = inside.free o m z is base in omega (arith, less))) in
        let slot1 : s1.frame.slots (exception_slot l) ≡ address_word (object_address e) = bound_slot k (exception_slot l) in
        parameter_then laws l own gives n i d lt call b same fare empty v c e fresh (Some t) x body at w0 w s can (op (bind k (thrown_place l)) ∷ []) rs (whole y.object)
        (sym (ap exception_object y.is))
        (subst StaysInside (sym (catches (whole y.object) (with_travelling e c))) tt)
        (subst (λ z. Alike l.layout l.program at k (with_travelling e c) w s
        (Passed laws l own gives n i d lt call b same fare empty v c e fresh (Some t) x body rs) z
        (regions b (regions_from (op (bind k (thrown_place l)) ∷ [])) ctx s)) (sym (catches (whole y.object) (with_travelling e c))) (
          normal,
          s1,
          bound_there l b e k ctx s slot,
          (
            h,
            (
              refl,
              slot1,
              body_alike laws l own gives n i d lt call b same fare empty v c e fresh (Some t) x body at w s1 r (n + 1) rs plain (omega arith)
                  (stands_framed l.layout l.program at (with_travelling e c) w s s1.frame stands) inside1 (does r),
            ),
          ),
        ))
      where
        bound_slot : (p q : ℕ) → (with_slot p (address_word (object_address e)) s.frame).slots (exception_slot l) ≡ address_word (object_address e)
        bound_slot p q = go (p == exception_slot l)
          where
            go : (z : Bool) → (if z then address_word (object_address e) else s.frame.slots (exception_slot l)) ≡ address_word (object_address e)
            go true = refl
            go false = slot
