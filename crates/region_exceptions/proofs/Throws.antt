-- Objects are thrown alike.
use Rattle.std.proofs.Common.{◌≡◌, ℕ, ◌+◌, ◌≤◌, ℤ, Bool, true, false, List, [], ◌∷◌, Option, Some, refl, sym, ap, ap₂, ◌∙◌, subst, arith}
use Rattle.std.specs.Prelude.{if◌then◌else◌}
use Rattle.run_items.specs.declared.item.Item.TheVariants.{Make, Free}
use Rattle.meaning_forms.specs.Class.{ObjectType, contains}
use Rattle.meaning_forms.specs.World.{World as SourceWorld, Reference, building as source_building, type_at as source_type_at}
use Rattle.meaning_forms.specs.Context.{Context as SourceContext, with_travelling}
use Rattle.meaning_forms.specs.Outcome.{Result as SourceResult, done as source_done, stopped as source_stopped, thrown, cancelled, ended, undefined, out_of_turns, deep, Action as SourceAction, continued as source_continued, ◌>>=◌, ◌>>◌}
use Rattle.meaning_forms.specs.Frame.{Frame as SourceFrame}
use Rattle.meaning_forms.specs.Running.{Running as SourceRunning, Argument as SourceArgument, Callee}
use Rattle.meaning_forms.specs.Terminate.{terminate as source_terminate}
use Rattle.meaning_forms.specs.Throw.{is_full as source_is_full, new_exception, after_building as source_after_building, keep, raise_exception, throw_new}
use Rattle.region_forms.specs.Form.{Region, op, throw as throw_op, protect, free_object, in_order, regions_from}
use Rattle.region_forms.specs.Laws.{CaughtListFollows}
use Rattle.region_forms.specs.Numbering.{type_number, destructor_of}
use Rattle.region_forms.specs.World.{of_exception, type_at, address_word, object_address, exception_of, exception_in_slot, address_in, building, with_item, with_slot}
use Rattle.region_forms.specs.Effect.{terminates, goes, with_new, freed, kept, only_where, raises}
use Rattle.region_forms.specs.Outcome.{State, Context, Flow, normal, Result, done, continued, pure, stop, only_if, change}
use Rattle.region_forms.specs.Ending.{Running, perform, terminate, raise}
use Rattle.region_forms.specs.Meaning.{outwards, followed, after_building, give_up}
use Rattle.linear_simulation.specs.Watched.{kept_on as watched_kept_on, same_type, still, watched_all as regions, kept_type}
use Rattle.region_forms.specs.LowerExpression.{Lowering, result_slot, exception_slot, first_temporary}
use Rattle.region_forms.specs.LowerStatement.{variable_slot, thrown_as}
use Rattle.region_simulation.specs.Places.{Places, Stood}
use Rattle.region_simulation.specs.Reach.{Reaches}
use Rattle.region_simulation.specs.Stands.{IsMade, IsOfProgram, Stands, context_of}
use Rattle.region_simulation.specs.Alike.{Keeps, Follows, Alike}
use Rattle.region_simulation.specs.Flows.{FlowAgrees}
use Rattle.region_simulation.specs.Expressions.{source_running}
use Rattle.region_simulation.proofs.Following.{Agreement, alike_less, alike_on, alike_then, reaches_kept}
use Rattle.region_simulation.proofs.Storing.{same_number, other_number}
use Rattle.region_exceptions.specs.Same.{RunAlike}
use Rattle.region_exceptions.specs.Raises.{CanBeRaised, Never}
use Rattle.region_exceptions.specs.Unbuilt.{IsUnbuilt}
use Rattle.region_exceptions.specs.Throws.{IsBuilt, BuildsAlike, ThrowsAlike}
use Rattle.region_exceptions.specs.Doomed.{numbered}
use Rattle.region_exceptions.specs.Fares.{Fares, FaresIn}
use Rattle.region_exceptions.proofs.Faring.{orderly_sound}
use Rattle.region_exceptions.proofs.FaringThrows.{removed_type}
use Rattle.region_exceptions.proofs.Keeping.{same_itself}
use Rattle.region_exceptions.proofs.Standing.{stands_framed, follows_changed}
use Rattle.region_exceptions.proofs.Ends.{ends_out, never_on, terminates as terminates_out}
use Rattle.region_exceptions.proofs.Raises.{raises as raises_out, type_same}
use Rattle.region_exceptions.proofs.New.{newly, new_number, new_unbuilt, full_same, new_on}
use Rattle.region_exceptions.proofs.Caught.{front_unhandled}
use Rattle.region_exceptions.proofs.Kept.{after_keeping, kept_on, kept_thrown}
use Rattle.region_exceptions.proofs.Freeing.{follows_without, unbuilt_rests, without}
use Rattle.region_exceptions.proofs.Asked.{being_built}
use Rattle.region_forms.specs.Lives.{is_being_built}

-- what is done in the region that a freeing protects
abbrev freeing : ℕ → Result Flow → Result Flow
freeing x y =
    continued (watched_kept_on (continued y (λ flow. pure (outwards flow))) (after_building x (continued y (λ flow. pure (outwards flow))))) (λ flow. pure (outwards flow))

module _ (l : Lowering) (call : Callee → Reference → List SourceArgument → SourceContext → SourceAction ℤ) (b : Running) (c : SourceContext)
    (same : RunAlike l.layout (source_running l call) b) (laws : CaughtListFollows) where
  abbrev a : SourceRunning
  a = source_running l call

  -- the object is built, and the exception still is to be
  abbrev IsBuiltYet : ℕ → ObjectType → ℕ → Flow → SourceWorld → Places → State → Type 0
  IsBuiltYet e t o flow w at s = IsBuilt e t o flow w at s × IsUnbuilt e w

  -- where building exits, the object is freed
  built_or_freed : (t : ObjectType) (e : ℕ) (at : Places) (w : SourceWorld) (s : State) (x : SourceResult ℕ) (y : Result Flow)
      → s.frame.slots (exception_slot l) ≡ address_word (object_address e) → e ≤ w.last_number → IsUnbuilt e w
      → ((o : ℕ) (x : Stood) → at o ≡ Some x → x.base ≡ of_exception e → ⊥) → Fares l.program 0 c w x
      → Alike l.layout l.program at (first_temporary l) c w s (IsBuilt e t) x y
      → Alike l.layout l.program at (first_temporary l) c w s (IsBuiltYet e t) (source_after_building e x) (freeing (exception_slot l) y)
  built_or_freed t e at w s (source_done o w2) y slot le unbuilt empty fares (flow, s2, is, (h, (fl, placed))) =
      (normal, s2, ap (freeing (exception_slot l)) is ∙ ap (λ f. done (outwards (outwards f)) s2) fl, (h, ((refl, placed), fares.unbuilt e le unbuilt)))
  built_or_freed t e at w s (source_stopped (thrown f) w2) y slot le unbuilt empty fares (s2, is, h) =
      let d = with_travelling f c in
      let yet = fares.0.unbuilt e le unbuilt in
      let resting = unbuilt_rests l.layout l.program h.places d w2 s2 e h.stands yet.1 in
      let g = follows_without l.layout l.program h.places e (Free e) at (first_temporary l) w s d w2 s2 resting.0 resting.1 (λ o z lt there base. empty o z there base) h refl in
      let outwards_on : Flow → State → Result Flow = (λ flow. pure (outwards flow)) in
      let same_kept : same_type (type_at s2.world f) (type_at (freed e s2.world) f) ≡ true =
      ap₂ same_type (type_same l.layout l.program h.places d w2 s2 h.stands f)
      (type_same l.layout l.program g.places d (without l.layout l.program h.places e (Free e) w2) (record s2 { world = freed e s2.world }) g.stands f ∙
      ap numbered (removed_type w2 e f (Free e) yet)) ∙ same_itself (numbered (source_type_at w2 f)) in
      let address : exception_in_slot s2.frame (exception_slot l) ≡ e = ap (λ x. exception_of (address_in x)) (h.keeps.slots (exception_slot l) (omega arith) ∙ slot) in (
        record s2 { world = freed e s2.world },
        ap (freeing (exception_slot l)) is ∙
            ap (λ n. continued (kept_type (type_at s2.world f) (continued {B = Flow} (give_up n s2) (λ u. stop (thrown f)))) outwards_on) address ∙
            ap (λ z. continued (kept_type (type_at s2.world f) (continued {B = Flow} (only_if z (change (freed e)) s2) (λ u. stop (thrown f)))) outwards_on)
            (being_built l.layout l.program h.places d w2 s2 h.stands e yet) ∙
            ap (λ z. continued (still z f (record s2 { world = freed e s2.world })) outwards_on) same_kept,
        g,
      )
  built_or_freed t e at w s (source_stopped (cancelled n) w2) y slot le unbuilt empty fares (s2, is, h) =
      let resting = unbuilt_rests l.layout l.program h.places c w2 s2 e h.stands (fares.unbuilt e le unbuilt).1 in
      let g = follows_without l.layout l.program h.places e (Free e) at (first_temporary l) w s c w2 s2 resting.0 resting.1 (λ o z lt there base. empty o z there base) h refl in
      let address : exception_in_slot s2.frame (exception_slot l) ≡ e = ap (λ x. exception_of (address_in x)) (h.keeps.slots (exception_slot l) (omega arith) ∙ slot) in (
        record s2 { world = freed e s2.world },
        ap (freeing (exception_slot l)) is ∙
            ap (λ q. continued {B = Flow} (continued {B = Flow} (give_up q s2) (λ u. stop (cancelled n))) (λ flow. pure (outwards flow))) address ∙
            ap (λ z. continued {B = Flow} (continued {B = Flow} (only_if z (change (freed e)) s2) (λ u. stop (cancelled n))) (λ flow. pure (outwards flow)))
            (being_built l.layout l.program h.places c w2 s2 h.stands e (fares.unbuilt e le unbuilt)),
        g,
      )
  built_or_freed t e at w s (source_stopped undefined w2) y slot le unbuilt empty fares h = tt
  built_or_freed t e at w s (source_stopped (ended x) w2) y slot le unbuilt empty fares (s2, is, h) = (s2, ap (freeing (exception_slot l)) is, h)
  built_or_freed t e at w s (source_stopped out_of_turns w2) y slot le unbuilt empty fares (s2, is, h) = (s2, ap (freeing (exception_slot l)) is, h)
  built_or_freed t e at w s (source_stopped deep w2) y slot le unbuilt empty fares (s2, is, h) = (s2, ap (freeing (exception_slot l)) is, h)

  -- an object that is built is kept and raised
  abbrev threw : ObjectType → Context → State → Result Flow
  threw t ctx s = regions b (regions_from (op (throw_op (exception_slot l) (type_number t) (destructor_of l.program t)) ∷ [])) ctx s

  raised : {A : Type 0} (agree : Agreement A Flow) (t : ObjectType) (e o k : ℕ) (at : Places) (w : SourceWorld) (s : State) → Stands l.layout l.program at c w s
      → s.frame.slots (exception_slot l) ≡ address_word (object_address e) → at o ≡ Some (record { base = of_exception e; type = t }) → IsOfProgram l.program t
      → contains c.travelling e ≡ false → contains c.handled e ≡ false → IsUnbuilt e w
      → Alike l.layout l.program at k c w s agree ((keep e o >> raise_exception a e c) w) (threw t (context_of w.open_calls c) s)
  raised {A} agree t e o k at w s stands slot placed known rests unhandled yet =
      let ctx = context_of w.open_calls c in
      let w2 = after_keeping l.layout l.program at c w s stands e o t placed in
      let after : ℕ → State = (λ n. record s { world = kept n (type_number t) (destructor_of l.program t) s.world }) in
      let stands2 = kept_on l.layout l.program at c w s stands e o t placed known in
      let can : CanBeRaised c w2 e = record { made = (stands.made o (record { base = of_exception e; type = t }) placed).0; rests = rests; front = front_unhandled e c.handled unhandled } in
      let address : exception_in_slot s.frame (exception_slot l) ≡ e = ap (λ x. exception_of (address_in x)) slot in
      let h = follows_changed l.layout l.program at k c w w2 s (after e).world refl refl refl stands2 in
      subst (λ n. Alike l.layout l.program at k c w s agree (raise_exception {A = A} a e c w2)
      (continued (continued (perform b (only_where (is_being_built s.world n) (raises n (after n).world)) ctx s) (λ u. pure normal)) (followed (pure normal)))) (sym address)
      (subst (λ z. Alike l.layout l.program at k c w s agree (raise_exception {A = A} a e c w2)
      (continued (continued (perform b (only_where z (raises e (after e).world)) ctx s) (λ u. pure normal)) (followed (pure normal))))
      (sym (being_built l.layout l.program at c w s stands e yet))
      (alike_on l.layout l.program agree at k c c w s w2 (after e) h (raise_exception {A = A} a e c w2)
      (continued (continued (raise {A = Unit {0}} b e ctx (after e)) (λ u. pure normal)) (followed (pure normal)))
      (never_on l.layout a b same agree at k c w2 (after e) (raise_exception {A = A} a e c w2) (continued (raise {A = Unit {0}} b e ctx (after e)) (λ u. pure normal)) (followed (pure normal))
      (never_on l.layout a b same Never at k c w2 (after e) (raise_exception {A = A} a e c w2) (raise {A = Unit {0}} b e ctx (after e)) (λ u. pure normal)
      (raises_out l.layout a b same laws A (Unit {0}) at c w2 (after e) stands2 e can (kept_thrown l.layout l.program at c w s stands e o t placed) Never k)))))

  -- an exception object is made, then built, kept and raised
  module _ (own : Option ℕ) (v : SourceFrame) (t : ObjectType) (build : SourceAction ℕ) (rs : List Region) (known : IsOfProgram l.program t) (fares : FaresIn l.program c build) (builds : BuildsAlike l own b v c t build rs)
      {A : Type 0} (agree : Agreement A Flow) (k : ℕ) (low : k ≤ exception_slot l)
      (at : Places) (w : SourceWorld) (s : State) (stands : Stands l.layout l.program at c w s) (reach : Reaches l own at v s.frame) where
    abbrev ctx : Context
    ctx = context_of w.open_calls c

    abbrev e : ℕ
    e = w.last_number + 1

    abbrev made : SourceWorld
    made = newly source_building (Make e) w

    abbrev rest : List Region
    rest = protect (in_order rs) (free_object (exception_slot l)) ∷ op (throw_op (exception_slot l) (type_number t) (destructor_of l.program t)) ∷ []

    abbrev made_state : ℕ → State
    made_state n = record s {
      frame = with_slot (exception_slot l) (address_word (object_address (n + 1))) s.frame;
      world = with_item (Make (n + 1)) (with_new building s.world);
    }

    abbrev s2 : State
    s2 = made_state w.last_number

    slot : s2.frame.slots (exception_slot l) ≡ address_word (object_address e)
    slot = ap (λ z. if z then address_word (object_address e) else s.frame.slots (exception_slot l)) (same_number (exception_slot l))

    keeps : (m : ℕ) → m ≤ exception_slot l → Keeps m s.frame s2.frame
    keeps m le = record {
      call = refl;
      slots = λ q lt. ap (λ z. if z then address_word (object_address e) else s.frame.slots q) (other_number q (exception_slot l) (omega (arith, lt, le)));
    }

    made_stands : Stands l.layout l.program at c made s2
    made_stands =
        let h = new_on l.layout l.program at c w s stands source_building (Make e) tt in
        stands_framed l.layout l.program at c made (record s { world = with_item (Make e) (with_new building s.world) }) s2.frame h

    abbrev made_follows : (m : ℕ) → m ≤ exception_slot l → Follows l.layout l.program at m w s c made s2
    made_follows m le = record {
      places = at;
      stay = λ o lt. refl;
      objects = omega arith;
      calls = omega arith;
      open_calls = refl;
      keeps = keeps m le;
      stands = made_stands;
    }

    nothing_there : (o : ℕ) (x : Stood) → at o ≡ Some x → x.base ≡ of_exception e → ⊥
    nothing_there o x is base = let le = (subst (IsMade s.world.calls w.last_number w.live) base (stands.made o x is)).0 in omega (arith, le)

    unbuilt : IsUnbuilt e made
    unbuilt = new_unbuilt w (Make e) stands.sound.live

    built : Alike l.layout l.program at (first_temporary l) c made s2 (IsBuilt e t) (build made) (regions b (regions_from rs) ctx s2)
    built =
        builds at made s2 e made_stands
        (reaches_kept l own v at (result_slot l) w s c c made s2 stands (made_follows (result_slot l) (omega arith)) (omega arith) reach)
        slot (omega arith) unbuilt nothing_there

    building_on : Alike l.layout l.program at k c made s2 agree
        (source_continued (source_after_building e (build made)) (λ o. keep e o >> raise_exception a e c)) (regions b (regions_from rest) ctx s2)
    building_on =
        alike_less l.layout l.program agree at k (first_temporary l) c made s2
        (source_continued (source_after_building e (build made)) (λ o. keep e o >> raise_exception a e c)) (regions b (regions_from rest) ctx s2) (omega (arith, low))
        (alike_then l.layout l.program (IsBuiltYet e t) agree at (first_temporary l) c made s2 (source_after_building e (build made))
        (freeing (exception_slot l) (regions b (regions_from rs) ctx s2)) (λ o. keep e o >> raise_exception a e c) (followed (threw t ctx))
        (built_or_freed t e at made s2 (build made) (regions b (regions_from rs) ctx s2) slot (omega arith) unbuilt nothing_there (fares 0 made (omega arith) (orderly_sound c made made_stands.sound)) built)
        (λ o flow w3 s3 h ((fl, placed), yet).
        subst (λ f. Alike l.layout l.program h.places (first_temporary l) c w3 s3 agree ((keep e o >> raise_exception a e c) w3) (followed (threw t ctx) f s3)) (sym fl)
        (subst (λ n. Alike l.layout l.program h.places (first_temporary l) c w3 s3 agree ((keep e o >> raise_exception a e c) w3) (threw t (context_of n c) s3)) h.open_calls
        (raised agree t e o (first_temporary l) h.places w3 s3 h.stands (h.keeps.slots (exception_slot l) (omega arith) ∙ slot) placed known
        (new_number w.last_number c.travelling stands.sound.travelling) (new_number w.last_number c.handled stands.sound.handled) yet))))

    abbrev thrown_regions : Bool → Result Flow
    thrown_regions z =
        continued (continued (perform b (if z then terminates s.world.installed.terminate_handler s.world else
        goes (made_state s.world.last_number).frame (made_state s.world.last_number).world) ctx s) (λ u. pure normal)) (followed (regions b (regions_from rest) ctx))

    pub thrown_out : Alike l.layout l.program at k c w s agree (throw_new a c build w) (regions b (regions_from (thrown_as l t rs)) ctx s)
    thrown_out =
        subst (λ z. Alike l.layout l.program at k c w s agree (throw_new a c build w) (thrown_regions z)) (sym (full_same l.layout l.program at c w s stands)) (go (source_is_full w))
      where
        go : (z : Bool) → Alike l.layout l.program at k c w s agree
            ((if z then source_terminate {A = A} a c else (new_exception source_building Make >>= (λ e. (λ w. source_after_building e (build w)) >>= (λ o. keep e o >> raise_exception a e c)))) w)
            (thrown_regions z)
        go true =
            never_on l.layout a b same agree at k c w s (source_terminate a c w) (continued (terminate b ctx s) (λ u. pure normal)) (followed (regions b (regions_from rest) ctx))
            (never_on l.layout a b same Never at k c w s (source_terminate a c w) (terminate b ctx s) (λ u. pure normal)
            (ends_out l.layout a b same Never at k c w s (source_terminate a c w) (terminate b ctx s) (terminates_out l.layout a b same A (Unit {0}) at c w s stands)))
        go false =
            subst (λ n. Alike l.layout l.program at k c w s agree
            (source_continued (source_after_building e (build made)) (λ o. keep e o >> raise_exception a e c)) (regions b (regions_from rest) ctx (made_state n)))
            (sym (ap (λ y. y.last_number) stands.world))
            (alike_on l.layout l.program agree at k c c w s made s2 (made_follows k low)
            (source_continued (source_after_building e (build made)) (λ o. keep e o >> raise_exception a e c)) (regions b (regions_from rest) ctx s2) building_on)

pub throws_alike : CaughtListFollows → ThrowsAlike
throws_alike laws l own gives call b v c same n i d t build rs known fares builds at w s stands scope =
    let there = scope.there in
    thrown_out l call b c same laws own v t build rs known fares builds (FlowAgrees l gives i d) (variable_slot l n) (omega (arith, there)) at w s stands scope.reach
