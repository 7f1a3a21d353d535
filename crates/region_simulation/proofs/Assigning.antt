-- Assignments.
use Rattle.std.proofs.Common.{◌≡◌, ℤ, List, [], Some, refl, ap, ◌∙◌, subst, arith, true}
use Rattle.std.proofs.lemmas.List.{append-nil}
use Rattle.cxx_ast.specs.declared.name.Name.{Name}
use Rattle.meaning_forms.specs.Class.{int_type}
use Rattle.meaning_forms.specs.World.{object_at, written as source_written}
use Rattle.meaning_forms.specs.Part.{cell, with_part_at}
use Rattle.meaning_forms.specs.Frame.{lvalue}
use Rattle.meaning_forms.specs.Outcome.{Action as SourceAction, write}
use Rattle.region_forms.specs.Form.{regions_from}
use Rattle.region_forms.specs.World.{Address, written}
use Rattle.region_forms.specs.Evaluation.{in_memory, locate}
use Rattle.region_forms.specs.Effect.{if_some, stored_at, finished, only_where, goes}
use Rattle.region_forms.specs.Outcome.{State, Flow, normal, done}
use Rattle.region_forms.specs.Ending.{Running, settled}
use Rattle.linear_simulation.specs.Watched.{watched_all as regions}
use Rattle.region_forms.specs.LowerExpression.{Lowering, place_of, lower_store}
use Rattle.region_simulation.specs.Stands.{context_of}
use Rattle.region_simulation.specs.Alike.{Follows, Alike}
use Rattle.region_simulation.specs.Writing.{WritesStand, assigned, AssignmentsStore}
use Rattle.region_simulation.proofs.Following.{Agreement, keeps_all, alike_on, reaches_kept}
use Rattle.region_simulation.proofs.Placing.{stored_then}
use Rattle.region_simulation.proofs.Naming.{names_placed}
use Rattle.region_simulation.proofs.Writing.{set_length, stands_written}
use Rattle.region_forms.specs.Lives.{is_there}
use Rattle.region_simulation.proofs.There.{refers_there}

pub writes_stand : WritesStand
writes_stand = stands_written

-- a value is stored in memory
stores_at : (l : Lowering) (b : Running) (names : List Name) (n : ℤ) (a : Address) (s : State) → locate b.kinds s.frame (place_of l names) ≡ Some (in_memory a)
    → is_there s.world a.base ≡ true → settled (finished b.kinds (Some (place_of l names)) n s.frame s.world) s ≡ done tt (record s { world = written a n s.world })
stores_at l b names n a s located there =
    ap (λ z. settled (if_some z (λ q. stored_at q n s.frame s.world)) s) located ∙ ap (λ z. settled (only_where z (goes s.frame (written a n s.world))) s) there

pub assignments_store : AssignmentsStore
assignments_store l own b v c fit apart t act e names high named evaluates at w s stands reach =
    let ctx = context_of w.open_calls c in
    let place = place_of l names in
    let next : Agreement (Unit {0}) Flow = (λ u flow w2 at2 s2. flow ≡ normal) in
    let f : ℤ → SourceAction (Unit {0}) = (λ n w2. write (lvalue l.program w2 v names) n w2) in
    subst (λ rs. Alike l.layout l.program at t c w s next (assigned l v names act w) (regions b (regions_from rs) ctx s)) (append-nil (lower_store l e place t))
    (stored_then l own b v c fit t high t (omega arith) place [] next f e act evaluates at w s stands reach
    (λ n w2 s2 h.
    let (a, refers, located) = names_placed l own b.kinds v h.places c w2 s2 fit (reaches_kept l own v at t w s c c w2 s2 stands h (omega (arith, high)) reach) h.stands names int_type named in
    let r = lvalue l.program w2 v names in
    let s3 = record s2 { world = written a n s2.world } in
    let longer = set_length w2.objects r.object (with_part_at (object_at w2 r.object) r.path (cell (Some n))) in
    let g : Follows l.layout l.program h.places t w2 s2 c (source_written w2 r n) s3 = record {
      places = h.places;
      stay = λ o lt. refl;
      objects = omega (arith, longer);
      calls = omega arith;
      open_calls = refl;
      keeps = keeps_all t s2.frame;
      stands = stands_written l.layout l.program apart h.places c w2 s2 r a n h.stands refers;
    } in (
      s3,
      stores_at l b names n a s2 located (refers_there l.layout l.program h.places c w2 s2 h.stands r int_type a refers),
      alike_on l.layout l.program next at t c c w s w2 s2 h (f n w2) (done normal s3) (normal, s3, refl, (g, refl)),
    )))
