-- Handlers that catch an object by value: it is copied behind a barrier, and destroyed when the body is left.
use Rattle.std.proofs.Common.{◌≡◌, ℕ, ◌+◌, ◌<◌, ℤ, Bool, List, [], ◌∷◌, ◌++◌, Option, Some, refl, sym, ap, ◌∙◌, subst, arith, length}
use Rattle.cxx_ast.specs.declared.name.Name.{Name}
use Rattle.cxx_ast.specs.declared.types.Ty.TheVariants.{Object}
use Rattle.run_items.specs.declared.item.Item.TheVariants.{Enter}
use Rattle.meaning_forms.specs.Class.{class_type, class_named, contains}
use Rattle.meaning_forms.specs.Part.{unset}
use Rattle.meaning_forms.specs.World.{World as SourceWorld, Reference, whole, as_class}
use Rattle.meaning_forms.specs.Context.{Context as SourceContext, handling, with_travelling}
use Rattle.meaning_forms.specs.Frame.{Frame as SourceFrame, with_parameter}
use Rattle.meaning_forms.specs.Outcome.{Result as SourceResult, done as source_done, stopped as source_stopped, thrown, cancelled, ended, undefined, out_of_turns, deep, Action as SourceAction, Flow as SourceFlow, continued as source_continued, pure as source_pure}
use Rattle.meaning_forms.specs.Running.{Running as SourceRunning, Argument as SourceArgument, Callee, destructor}
use Rattle.meaning_forms.specs.Construct.{copy_object, destroy as source_destroy}
use Rattle.meaning_forms.specs.Scope.{after_scope as source_after_scope}
use Rattle.meaning_forms.specs.Terminate.{behind_barrier as source_behind_barrier}
use Rattle.meaning_forms.specs.Handler.{exception_object, handle}
use Rattle.region_forms.specs.Form.{Region, protect, destroy_scope, in_order, regions_from}
use Rattle.region_forms.specs.Laws.{CaughtListFollows}
use Rattle.region_forms.specs.Numbering.{number_of}
use Rattle.region_forms.specs.World.{Base, of_variable, address_word, object_address, address_in, Frame}
use Rattle.region_forms.specs.Evaluation.{location_behind, location_address, slot_location, with_some}
use Rattle.region_forms.specs.Effect.{entered}
use Rattle.region_forms.specs.Outcome.{State, Context, Flow, normal, Result, done, stopped, continued, pure}
use Rattle.region_forms.specs.Ending.{Running}
use Rattle.region_forms.specs.Meaning.{outwards}
use Rattle.linear_simulation.specs.Watched.{watched as region, watched_all as regions}
use Rattle.region_forms.specs.LowerExpression.{Lowering, result_slot, exception_slot, first_temporary, variable_type, slot_place}
use Rattle.region_forms.specs.LowerStatement.{variable_slot, thrown_place, copied}
use Rattle.region_simulation.specs.Places.{Places, Stood}
use Rattle.region_simulation.specs.Stands.{Stands, context_of}
use Rattle.region_simulation.specs.Alike.{Follows, Alike}
use Rattle.region_simulation.specs.Reach.{KindsFit, slot_address, kind_for}
use Rattle.region_simulation.specs.Flows.{FlowAgrees, InScope, DoesAlike}
use Rattle.region_simulation.specs.Statements.{HasNumber, CanCopy}
use Rattle.region_simulation.specs.Expressions.{source_running}
use Rattle.region_simulation.proofs.Following.{follows_less, alike_less, alike_on, refers_kept}
use Rattle.region_simulation.proofs.Leaving.{follows_forgetting, scope_left}
use Rattle.region_simulation.proofs.Flowing.{alike_seq, alike_after, outwards_agrees, single}
use Rattle.region_simulation.proofs.Standing.{with_place, with_object, placed_new, one_more, follows_new}
use Rattle.region_simulation.proofs.Declaring.{free_placed, variable_empty}
use Rattle.region_exceptions.specs.Fares.{CallsFare}
use Rattle.region_exceptions.proofs.Faring.{faring_calls_are_barred}
use Rattle.region_exceptions.specs.Same.{RunAlike}
use Rattle.region_exceptions.specs.Barred.{StaysInside}
use Rattle.region_exceptions.specs.Scopes.{LeadsTo}
use Rattle.region_exceptions.specs.Handlers.{CanBeEntered, EmptyDestructor}
use Rattle.region_exceptions.proofs.Unset.{unset_is_shaped, unset_is_not_set}
use Rattle.region_exceptions.proofs.Constructing.{copied_both}
use Rattle.region_exceptions.proofs.Scopes.{flows_steady}
use Rattle.region_exceptions.proofs.Protecting.{scope_protects}
use Rattle.region_exceptions.proofs.Handling.{entry_stands}
use Rattle.region_exceptions.proofs.Parameters.{in_handler, BodyAlike, Passed, parameter_then}
use Rattle.region_exceptions.proofs.Catching.{CaughtAs, caught_class, variable_newly, scope_parameter}
use Rattle.region_exceptions.proofs.Handlers.{last}
use Rattle.region_exceptions.specs.Left.{CanBeLeft}

module _ (laws : CaughtListFollows) (l : Lowering) (own : Option ℕ) (gives : Bool) (n i d : ℕ) (lt : i < d) (call : Callee → Reference → List SourceArgument → SourceContext → SourceAction ℤ) (b : Running)
    (same : RunAlike l.layout (source_running l call) b) (fare : CallsFare (source_running l call)) (empty : EmptyDestructor l.layout (source_running l call) b)
    (v : SourceFrame) (c : SourceContext) (e : ℕ) (fresh : CanBeEntered c e)
    (body : SourceFrame → SourceContext → SourceAction SourceFlow) (rs : List Region) (fit : KindsFit l b.kinds) (x : Option Name) (numbered : HasNumber x n)
    (there : n < length l.variables) (q : Name) (typed : variable_type l n ≡ Object q) (class_there : class_named q < length l.program.classes) where
  abbrev a : SourceRunning
  a = source_running l call

  abbrev k : ℕ
  k = variable_slot l n

  abbrev j : ℕ
  j = class_named q

  abbrev scoped_regions : List Region
  scoped_regions = protect (in_order rs) (destroy_scope (slot_place k) (number_of l.program (destructor j))) ∷ []

  -- the slot of the variable leads to its object
  leads_here : (at : Places) (m : ℕ) (f : Frame) (o : ℕ) → at o ≡ Some (record { base = of_variable f.call k; type = class_type j }) → LeadsTo l.layout l.program at m b.kinds f (slot_place k) (whole o) j
  leads_here at m f o placed = record {
    there = class_there;
    address = slot_address f.call k;
    refers = record { stood = record { base = of_variable f.call k; type = class_type j }; stands = placed; typed = refl; address = refl };
    stays = λ g keeps. ap (λ z. with_some (Some (slot_location z g.call k 0)) location_address) (fit.variables n there ∙ ap kind_for typed) ∙
        ap (λ z. Some (slot_address z k)) keeps.call;
  }

  -- the body, in the scope of the copy
  object_body : (at : Places) (w : SourceWorld) (s : State) (o : ℕ) → Stands l.layout l.program at (with_travelling e c) w s → InScope l own (n + 1) at (with_parameter x (whole o) v) s
      → at o ≡ Some (record { base = of_variable s.frame.call k; type = class_type j })
      → DoesAlike l own gives b (with_parameter x (whole o) v) (handling e c) (n + 1) i (d + 4) (body (with_parameter x (whole o) v) (handling e c)) rs
      → BodyAlike laws l own gives n i d lt call b same fare empty v c e fresh (Some (Object q)) x body scoped_regions (whole o) w at s
  object_body at w s o stands scope placed does =
      let w2 = record w { items = w.items ++ Enter e ∷ [] } in
      let s2 = record s { world = entered e s.world } in
      let ctx = context_of w.open_calls c in
      let dd = handling e c in
      let act = body (with_parameter x (whole o) v) dd in
      let standing = entry_stands laws l gives i d lt a b same fare empty at k c w s e stands fresh
      (in_handler laws l own gives n i d lt call b same fare empty v c e fresh (Some (Object q)) x body (whole o)) scoped_regions in
      let inside : InScope l own (n + 1) at (with_parameter x (whole o) v) s2 =
      record { reach = scope.reach; before = scope.before; free = scope.free; there = scope.there; running = scope.running } in
      let four : d + 4 ≡ d + 1 + 1 + 1 + 1 = omega arith in
      let y4 = subst (λ m. Alike l.layout l.program at (variable_slot l (n + 1)) dd w2 s2 (FlowAgrees l gives i m) (act w2) (regions b (regions_from rs) ctx s2)) four (does at w2 s2 standing inside) in
      let y3 = alike_after l.layout l.program (FlowAgrees l gives i (d + 1 + 1 + 1 + 1)) (FlowAgrees l gives i (d + 1 + 1 + 1)) at (variable_slot l (n + 1)) dd w2 s2 (act w2) (regions b (regions_from rs) ctx s2)
      outwards (outwards_agrees l gives i (d + 1 + 1 + 1) (omega (arith, lt))) y4 in
      let low = alike_less l.layout l.program (FlowAgrees l gives i (d + 1 + 1 + 1)) at k (variable_slot l (n + 1)) dd w2 s2 (act w2) (region b (in_order rs) ctx s2) (omega arith) y3 in
      let y2 = scope_protects l.layout a b same fare (FlowAgrees l gives i (d + 1 + 1 + 1)) (FlowAgrees l gives i (d + 1 + 1)) (result_slot l + 1) (flows_steady l gives i (d + 1 + 1 + 1))
      (outwards_agrees l gives i (d + 1 + 1) (omega (arith, lt))) at k dd w2 s2 (slot_place k) (whole o) j standing (leads_here at k s2.frame o placed) act (in_order rs) low in
      let r = source_after_scope a dd (source_destroy a (class_type j) (whole o)) (act w2) in
      let one = protect (in_order rs) (destroy_scope (slot_place k) (number_of l.program (destructor j))) in
      alike_after l.layout l.program (FlowAgrees l gives i (d + 1 + 1)) (FlowAgrees l gives i (d + 1)) at k dd w2 s2 r (regions b (regions_from scoped_regions) ctx s2)
      outwards (outwards_agrees l gives i (d + 1) (omega (arith, lt)))
      (subst (λ z. Alike l.layout l.program at k dd w2 s2 (FlowAgrees l gives i (d + 1 + 1)) r z) (sym (single b one ctx s2)) y2)

  module _ (does : (r : Reference) → DoesAlike l own gives b (with_parameter x r v) (handling e c) (n + 1) i (d + 4) (body (with_parameter x r v) (handling e c)) rs)
      (at : Places) (w : SourceWorld) (s : State) (stands : Stands l.layout l.program at (with_travelling e c) w s) (inside : InScope l own n at v s)
      (slot : s.frame.slots (exception_slot l) ≡ address_word (object_address e)) (y : CaughtAs l.program w e (class_type j)) (can : CanCopy l.program j) where
    abbrev ctx : Context
    ctx = context_of w.open_calls c

    abbrev base : Base
    base = of_variable s.frame.call k

    abbrev stood : Stood
    stood = record { base = base; type = class_type j }

    abbrev o : ℕ
    o = length w.objects

    abbrev w1 : SourceWorld
    w1 = with_object (unset l.program (class_type j)) w

    abbrev P : List Region
    P = copied l j (slot_place k) (thrown_place l) ∷ []

    abbrev source : Reference
    source = as_class w j (whole y.object)

    abbrev h1 : (m : ℕ) → Follows l.layout l.program at m w s (with_travelling e c) w1 s
    h1 m = follows_new l.layout l.program at (with_travelling e c) w s stands base (class_type j) (unset l.program (class_type j)) s.world.memory
        (λ z u f g. variable_empty l own v n at s inside z u f g) inside.running (unset_is_shaped l.program same.ordered j class_there) (λ z other. refl)
        (λ path m is. absurd (unset_is_not_set l.program (class_type j) path m is)) m

    places1 : Places
    places1 = with_place at o stood

    inside1 : InScope l own (n + 1) (with_place at o stood) (with_parameter x (whole o) v) s
    inside1 =
        let newly = variable_newly l (with_place at o stood) v s.frame n (Object q) (whole o) (slot_address s.frame.call k) there typed
        (record { stood = stood; stands = placed_new at o stood; typed = refl; address = refl }) refl in
        scope_parameter l own v n at w s (with_travelling e c) (with_travelling e c) w1 s stands (h1 k) inside x numbered (whole o) there newly
        (λ z m u f g. free_placed l own v n at s inside o z m stood u refl f g)

    comes : LeadsTo l.layout l.program (with_place at o stood) (first_temporary l) b.kinds s.frame (thrown_place l) source j
    comes = record {
      there = class_there;
      address = object_address e;
      refers = refers_kept l.layout l.program at k w s (with_travelling e c) (with_travelling e c) w1 s stands (h1 k) source (class_type j) (object_address e)
          (caught_class l.layout l.program at (with_travelling e c) w s stands e j y);
      stays = λ g keeps. ap (λ z. with_some (location_behind 0 (address_in z)) location_address) (keeps.slots (exception_slot l) (omega arith) ∙ slot);
    }

    abbrev copying : SourceResult (Unit {0})
    copying = source_behind_barrier a (with_travelling e c) (copy_object a j (whole o) source) w1

    both : StaysInside copying × Alike l.layout l.program (with_place at o stood) (first_temporary l) (with_travelling e c) w1 s (λ u flow w2 at2 s2. flow ≡ normal) copying
        (region b (copied l j (slot_place k) (thrown_place l)) ctx s)
    both =
        copied_both l.layout a b same (faring_calls_are_barred a fare) (with_place at o stood) (first_temporary l) (first_temporary l) (with_travelling e c) w1 s (slot_place k) (thrown_place l) (whole o) source j can
        (h1 k).stands (leads_here (with_place at o stood) (first_temporary l) s.frame o (placed_new at o stood)) comes

    abbrev passed : Reference → Flow → SourceWorld → Places → State → Type 0
    passed = Passed laws l own gives n i d lt call b same fare empty v c e fresh (Some (Object q)) x body scoped_regions

    regrouped : (r : SourceResult (Unit {0})) → source_continued (source_continued r (λ u. source_pure o)) (λ z. source_pure (whole z)) ≡ source_continued r (λ u. source_pure (whole o))
    regrouped (source_done u z) = refl
    regrouped (source_stopped z u) = refl

    stays_on : (r : SourceResult (Unit {0})) → StaysInside r → StaysInside (source_continued r (λ u. source_pure (whole o)))
    stays_on (source_done u z) h = tt
    stays_on (source_stopped (thrown z) u) h = h
    stays_on (source_stopped (cancelled z) u) h = h
    stays_on (source_stopped undefined u) h = tt
    stays_on (source_stopped (ended z) u) h = tt
    stays_on (source_stopped out_of_turns u) h = tt
    stays_on (source_stopped deep u) h = tt

    parameter_copied : Alike l.layout l.program at k (with_travelling e c) w s passed (source_continued copying (λ u. source_pure (whole o)))
        (region b (copied l j (slot_place k) (thrown_place l)) ctx s)
    parameter_copied =
        let y = region b (copied l j (slot_place k) (thrown_place l)) ctx s in
        let act : Unit {0} → SourceAction Reference = (λ u. source_pure (whole o)) in
        alike_on l.layout l.program passed at k (with_travelling e c) (with_travelling e c) w s w1 s (h1 k) (source_continued copying act) y
        (alike_less l.layout l.program passed (with_place at o stood) k (first_temporary l) (with_travelling e c) w1 s (source_continued copying act) y (omega (arith, there))
        (subst (λ z. Alike l.layout l.program (with_place at o stood) (first_temporary l) (with_travelling e c) w1 s passed (source_continued copying act) z) (done_is y)
        (alike_seq l.layout l.program (λ u flow w2 at2 s2. flow ≡ normal) passed (with_place at o stood) (first_temporary l) (with_travelling e c) w1 s copying y act pure both.1
        (λ u flow w2 s2 h fl.
        let h2 = follows_less l.layout l.program (with_place at o stood) (variable_slot l (n + 1)) (first_temporary l) w1 s (with_travelling e c) w2 s2 (omega (arith, there)) h in
        let g = follows_forgetting l.layout l.program (with_place at o stood) (first_temporary l) (with_travelling e c) w1 s (with_travelling e c) w2 s2 h in
        let more = one_more (unset l.program (class_type j)) w in
        let placed = g.stay o (omega (arith, more)) ∙ placed_new at o stood ∙ ap (λ m. Some (record { base = of_variable m k; type = class_type j })) (sym h.keeps.call) in
        let inside2 = scope_left l own (with_parameter x (whole o) v) (n + 1) (with_place at o stood) w1 s (with_travelling e c) (with_travelling e c) w2 s2 (h1 k).stands h2 inside1 in
        (flow, s2, refl, (g, (fl, h.keeps.slots (exception_slot l) (omega arith) ∙ slot, object_body g.places w2 s2 o g.stands inside2 placed (does (whole o)))))))))
      where
        done_is : (y : Result Flow) → continued y pure ≡ y
        done_is (done flow t) = refl
        done_is (stopped z t) = refl

    pub object_handled : (w0 : SourceWorld) → CanBeLeft (contains c.handled e) e at w0 w
        → Alike l.layout l.program at k c w0 s (FlowAgrees l gives i d) (handle a e (Some (Object q)) x body v c w)
        (regions b (regions_from (copied l j (slot_place k) (thrown_place l) ∷
        last laws l own gives n i d lt call b same fare empty v c e fresh body scoped_regions at w s stands inside slot)) ctx s)
    object_handled w0 can =
        parameter_then laws l own gives n i d lt call b same fare empty v c e fresh (Some (Object q)) x body at w0 w s can P scoped_regions (whole y.object) (sym (ap exception_object y.is))
        (subst StaysInside (sym (regrouped copying)) (stays_on copying both.0))
        (subst (λ z. Alike l.layout l.program at k (with_travelling e c) w s passed z (regions b (regions_from P) ctx s)) (sym (regrouped copying))
        (subst (λ z. Alike l.layout l.program at k (with_travelling e c) w s passed (source_continued copying (λ u. source_pure (whole o))) z)
        (sym (single b (copied l j (slot_place k) (thrown_place l)) ctx s)) parameter_copied))
