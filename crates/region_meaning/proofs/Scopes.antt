-- Scopes of parts and of local objects are the same.
use Rattle.std.proofs.Common.{◌≡◌, ℕ, zero, suc, ◌+◌, ◌<◌, Bool, List, [], ◌∷◌, Option, Some, sym, ap, ◌∙◌, subst, arith, length}
use Rattle.std.specs.Prelude.{slice_get, ◌||◌, if◌then◌else◌}
use Rattle.cxx_ast.specs.declared.name.Name.{Name}
use Rattle.cxx_ast.specs.declared.types.Ty.TheVariants.{Object}
use Rattle.class_layout.specs.Fit.{IsBefore, AreBefore}
use Rattle.meaning_forms.specs.Class.{ObjectType, class_type, class_named, object_type, parts_of}
use Rattle.meaning_forms.specs.Construct.{destroy}
use Rattle.meaning_forms.specs.Context.{Context as SourceContext}
use Rattle.meaning_forms.specs.Frame.{Frame as SourceFrame, with_variable, local_number, variable_in}
use Rattle.meaning_forms.specs.Outcome.{Action as SourceAction, Flow as SourceFlow}
use Rattle.meaning_forms.specs.Running.{destructor}
use Rattle.meaning_forms.specs.Scope.{scope, until_complete}
use Rattle.meaning_forms.specs.World.{World as SourceWorld, Reference, whole, part}
use Rattle.region_forms.specs.Form.{Place, Region, regions_from, in_order, protect, destroy_scope, destroy_part}
use Rattle.region_forms.specs.Evaluation.{with_some, location_address, slot_location}
use Rattle.region_forms.specs.Outcome.{State}
use Rattle.region_forms.specs.Ending.{Running}
use Rattle.region_forms.specs.Meaning.{outwards}
use Rattle.linear_simulation.specs.Watched.{watched as region, watched_all as regions}
use Rattle.region_forms.specs.Numbering.{number_of}
use Rattle.region_forms.specs.LowerExpression.{Lowering, variable_type, slot_place}
use Rattle.region_forms.specs.LowerProgram.{part_place}
use Rattle.region_forms.specs.LowerStatement.{variable_slot}
use Rattle.region_simulation.specs.Places.{Places, Refers}
use Rattle.region_simulation.specs.Reach.{is_in_reach, IsReachedBy, slot_address, KindsFit, kind_for}
use Rattle.region_simulation.specs.Stands.{Stands, context_of}
use Rattle.region_simulation.specs.Alike.{Alike}
use Rattle.region_simulation.specs.Expressions.{source_running}
use Rattle.region_simulation.specs.Flows.{FlowAgrees, InScope, DoesAlike}
use Rattle.region_simulation.specs.Statements.{DeclaresNext}
use Rattle.region_simulation.proofs.Flowing.{alike_after, outwards_agrees, single}
use Rattle.region_simulation.proofs.Writing.{number_itself}
use Rattle.region_statements.specs.Statements.{SourceCalls}
use Rattle.region_statements.proofs.OwnParts.{part_leads}
use Rattle.region_exceptions.specs.Fares.{CallsFare}
use Rattle.region_exceptions.specs.Same.{RunAlike}
use Rattle.region_exceptions.specs.Scopes.{LeadsTo}
use Rattle.region_exceptions.proofs.Protecting.{protects_alike}
use Rattle.region_meaning.specs.Scopes.{PartsAreSame, ObjectScopesAreSame}

module _ (l : Lowering) (own : Option ℕ) (gives : Bool) (call : SourceCalls) (b : Running) (v : SourceFrame) (c : SourceContext) where
  -- what is done in a region is done in one more, which ends where it does
  inside : (n i d : ℕ) → i < d → (act : SourceAction SourceFlow) (rs : List Region) → DoesAlike l own gives b v c n i (d + 2) act rs
      → (at : Places) (w : SourceWorld) (s : State) → Stands l.layout l.program at c w s → InScope l own n at v s
      → Alike l.layout l.program at (variable_slot l n) c w s (FlowAgrees l gives i (d + 1)) (act w) (region b (in_order rs) (context_of w.open_calls c) s)
  inside n i d lt act rs does at w s stands scope =
      let two : d + 2 ≡ d + 1 + 1 = omega arith in
      alike_after l.layout l.program (FlowAgrees l gives i (d + 1 + 1)) (FlowAgrees l gives i (d + 1)) at (variable_slot l n) c w s (act w)
      (regions b (regions_from rs) (context_of w.open_calls c) s) outwards
      (λ x flow w2 at2 s2 same. outwards_agrees l gives i (d + 1) (omega (arith, lt)) x flow w2 at2 s2 same)
      (subst (λ e. Alike l.layout l.program at (variable_slot l n) c w s (FlowAgrees l gives i e) (act w) (regions b (regions_from rs) (context_of w.open_calls c) s)) two
      (does at w s stands scope))

  module _ (run : RunAlike l.layout (source_running l call) b) (fare : CallsFare (source_running l call)) (n i d : ℕ) (lt : i < d) (place : Place) (target : Reference) (j : ℕ)
      (leads : (at : Places) (w : SourceWorld) (s : State) → Stands l.layout l.program at c w s → InScope l own n at v s
      → LeadsTo l.layout l.program at (variable_slot l n) b.kinds s.frame place target j)
      (act : SourceAction SourceFlow) (rs : List Region) (does : DoesAlike l own gives b v c n i (d + 2) act rs) where
    both_protect : (at : Places) (w : SourceWorld) (s : State) → Stands l.layout l.program at c w s → InScope l own n at v s
        → Alike l.layout l.program at (variable_slot l n) c w s (FlowAgrees l gives i d) (scope (source_running l call) c (destroy (source_running l call) (class_type j) target) act w)
        (region b (protect (in_order rs) (destroy_scope place (number_of l.program (destructor j)))) (context_of w.open_calls c) s) ×
        Alike l.layout l.program at (variable_slot l n) c w s (FlowAgrees l gives i d) (until_complete (source_running l call) c (destroy (source_running l call) (class_type j) target) act w)
        (region b (protect (in_order rs) (destroy_part place (number_of l.program (destructor j)))) (context_of w.open_calls c) s)
    both_protect at w s stands in_scope =
        protects_alike l gives i d lt (source_running l call) b run fare at (variable_slot l n) c w s place target j stands (leads at w s stands in_scope) act (in_order rs)
        (inside n i d lt act rs does at w s stands in_scope)

    scope_does : DoesAlike l own gives b v c n i d (scope (source_running l call) c (destroy (source_running l call) (class_type j) target) act)
        (protect (in_order rs) (destroy_scope place (number_of l.program (destructor j))) ∷ [])
    scope_does at w s stands in_scope =
        subst (λ q. Alike l.layout l.program at (variable_slot l n) c w s (FlowAgrees l gives i d)
        (scope (source_running l call) c (destroy (source_running l call) (class_type j) target) act w) q)
        (sym (single b (protect (in_order rs) (destroy_scope place (number_of l.program (destructor j)))) (context_of w.open_calls c) s)) (both_protect at w s stands in_scope).0

    part_does : DoesAlike l own gives b v c n i d (until_complete (source_running l call) c (destroy (source_running l call) (class_type j) target) act)
        (protect (in_order rs) (destroy_part place (number_of l.program (destructor j))) ∷ [])
    part_does at w s stands in_scope =
        subst (λ q. Alike l.layout l.program at (variable_slot l n) c w s (FlowAgrees l gives i d)
        (until_complete (source_running l call) c (destroy (source_running l call) (class_type j) target) act w) q)
        (sym (single b (protect (in_order rs) (destroy_part place (number_of l.program (destructor j)))) (context_of w.open_calls c) s)) (both_protect at w s stands in_scope).1

part_before : (m : ℕ) (types : List ObjectType) (i j : ℕ) → AreBefore m types → slice_get types i ≡ Some (class_type j) → j < m
part_before m [] i j h is = absurd (cc is)
part_before m (t ∷ types) zero j h is = let same : t ≡ class_type j = cc is in subst (IsBefore m) same h.0
part_before m (t ∷ types) (suc i) j h is = part_before m types i j h.1 is

-- a part of the own object stands through the first slot
own_part : (l : Lowering) (k : ℕ) (b : Running) (v : SourceFrame) (n i j : ℕ) → j < length l.program.classes → slice_get (parts_of l.program k) i ≡ Some (class_type j)
    → (at : Places) (s : State) → InScope l (Some k) n at v s
    → LeadsTo l.layout l.program at (variable_slot l n) b.kinds s.frame (part_place l.layout l.program k 0 i) (part i v.this) j
own_part l k b v n i j there is at s in_scope =
    let first = in_scope.reach.this.first in
    let x = part_leads l k b.kinds v at s.frame in_scope.reach (variable_slot l n) i (class_type j) (omega (arith, first)) is in
    record { there = there; address = x.address; refers = x.refers; stays = λ g keeps. ap (λ q. with_some q location_address) (x.located g keeps) }

pub parts_are_same : PartsAreSame
parts_are_same l k gives call b run fare below = record {
  completes = λ v c n d i j act rs lt is does.
      part_does l (Some k) gives call b v c run fare n 0 d lt (part_place l.layout l.program k 0 i) (part i v.this) j
      (λ at w s stands in_scope. own_part l k b v n i j (there i j is) is at s in_scope) act rs does;
  scopes = λ v c n d i j act rs lt is does.
      scope_does l (Some k) gives call b v c run fare n 0 d lt (part_place l.layout l.program k 0 i) (part i v.this) j
      (λ at w s stands in_scope. own_part l k b v n i j (there i j is) is at s in_scope) act rs does;
}
  where
    there : (i j : ℕ) → slice_get (parts_of l.program k) i ≡ Some (class_type j) → j < length l.program.classes
    there i j is = let lt = part_before k (parts_of l.program k) i j (run.ordered.before k) is in omega (arith, lt, below)

-- a local object stands at its slot
object_leads : (l : Lowering) (own : Option ℕ) (b : Running) → KindsFit l b.kinds → (v : SourceFrame) (n : ℕ) (k x : Name) (o : ℕ) → DeclaresNext l n (Some x) (Object k)
    → class_named k < length l.program.classes → (at : Places) (s : State) → InScope l own (n + 1) at (with_variable x (whole o) v) s
    → LeadsTo l.layout l.program at (variable_slot l (n + 1)) b.kinds s.frame (slot_place (variable_slot l (local_number x.bound))) (whole o) (class_named k)
object_leads l own b fit v n k x o declares there at s in_scope =
    let m = local_number x.bound in
    let slot = variable_slot l m in
    let y = in_scope.reach.variables m (ap (λ z. z || is_in_reach v.variables m) (number_itself m)) in
    let typed : variable_type l m ≡ Object k = ap (variable_type l) declares.numbered ∙ declares.typed in
    let at_slot : y.address ≡ slot_address s.frame.call slot = subst (λ t. IsReachedBy t slot s.frame y.address) typed y.reached in
    record {
      there = there;
      address = y.address;
      refers = subst (λ r. Refers l.layout l.program at r (class_type (class_named k)) y.address) (ap (λ z. if z then whole o else variable_in v.variables m) (number_itself m))
          (subst (λ t. Refers l.layout l.program at (variable_in (with_variable x (whole o) v).variables m) (object_type t) y.address) typed y.refers);
      stays = λ g keeps.
          ap (λ q. location_address (slot_location q g.call slot 0)) (fit.variables m y.there ∙ ap kind_for typed) ∙ ap (λ q. Some (slot_address q slot)) keeps.call ∙ ap (λ q. Some q) (sym at_slot);
    }

pub object_scopes_are_same : ObjectScopesAreSame
object_scopes_are_same l own gives call b run fare fit v c n i d k x o act ys lt declares there does =
    scope_does l own gives call b (with_variable x (whole o) v) c run fare (n + 1) i d lt (slot_place (variable_slot l (local_number x.bound))) (whole o) (class_named k)
    (λ at w s stands in_scope. object_leads l own b fit v n k x o declares there at s in_scope) act (ys (d + 2)) does
