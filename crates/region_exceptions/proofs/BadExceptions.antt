-- A bad_exception is thrown alike, though regions build it without a call of a function.
use Rattle.std.proofs.Common.{◌≡◌, ℕ, zero, suc, ◌+◌, ℤ, Bool, true, false, [], Some, None, refl, sym, ap, ◌∙◌, subst, arith, length}
use Rattle.std.specs.Prelude.{max, nat_le, if◌then◌else◌}
use Rattle.run_items.specs.declared.item.Item.TheVariants.{Make}
use Rattle.meaning_forms.specs.Class.{class_type}
use Rattle.meaning_forms.specs.Part.{unset}
use Rattle.meaning_forms.specs.World.{World as SourceWorld, whole, building as source_building}
use Rattle.meaning_forms.specs.Context.{Context as SourceContext}
use Rattle.meaning_forms.specs.Outcome.{Result as SourceResult, done as source_done, stopped as source_stopped, thrown, cancelled, ended, undefined, out_of_turns, deep, continued as source_continued, pure as source_pure, ◌>>=◌, ◌>>◌}
use Rattle.meaning_forms.specs.Running.{Running as SourceRunning, constructor}
use Rattle.meaning_forms.specs.Construct.{constructor_for}
use Rattle.meaning_forms.specs.Terminate.{terminate as source_terminate}
use Rattle.meaning_forms.specs.Throw.{is_full as source_is_full, new_exception, after_building as source_after_building, keep, raise_exception, throw_new}
use Rattle.meaning_forms.specs.Specification.{new_bad_exception}
use Rattle.region_forms.specs.Laws.{CaughtListFollows}
use Rattle.region_forms.specs.Layout.{Layout}
use Rattle.region_forms.specs.World.{of_exception, building, with_item}
use Rattle.region_forms.specs.Effect.{with_new, kept}
use Rattle.region_forms.specs.Outcome.{State, Context, Result, done, stopped, change, continued, stop, only_if}
use Rattle.region_forms.specs.Ending.{Running, bad_row, spend, spend_turn, empty_call, terminate, raise}
use Rattle.region_forms.specs.Unexpected.{throw_bad, keep_bad}
use Rattle.region_simulation.specs.Places.{Places, Stood}
use Rattle.region_simulation.specs.Stands.{IsMade, Stands, context_of}
use Rattle.region_simulation.specs.Alike.{Follows, Alike}
use Rattle.region_simulation.proofs.Following.{Agreement, follows_on, alike_on}
use Rattle.region_simulation.proofs.Standing.{with_place, with_object, placed_new, one_more, follows_new}
use Rattle.region_exceptions.specs.Same.{RunAlike}
use Rattle.region_exceptions.specs.Raises.{CanBeRaised, Never}
use Rattle.region_exceptions.specs.Scopes.{Any}
use Rattle.region_exceptions.specs.Extents.{EmptyConstructor, BadExceptionsAlike}
use Rattle.region_exceptions.proofs.Standing.{follows_changed}
use Rattle.region_exceptions.proofs.Ends.{ends_out, terminates as terminates_out}
use Rattle.region_exceptions.proofs.Raises.{raises as raises_out}
use Rattle.region_exceptions.proofs.New.{newly, new_number, full_same, new_on, new_unbuilt}
use Rattle.region_exceptions.proofs.Caught.{front_unhandled}
use Rattle.region_exceptions.proofs.Unset.{unset_is_shaped, unset_is_not_set}
use Rattle.region_exceptions.proofs.Kept.{after_keeping, kept_on, kept_thrown}
use Rattle.region_exceptions.proofs.Lives.{live_new}
use Rattle.region_exceptions.proofs.Asked.{being_built}
use Rattle.region_exceptions.specs.Fares.{CallsFare, Fares}
use Rattle.region_exceptions.proofs.Faring.{orderly_sound}

-- an empty call is done, or stops for want of turns or of room
abbrev IsBrief : Result (Unit {0}) → Type 0
IsBrief (done u s) = Unit {0}
IsBrief (stopped deep s) = Unit {0}
IsBrief (stopped out_of_turns s) = Unit {0}
IsBrief x = ⊥

empty_is_brief : (b : Running) (c : Context) (s : State) → IsBrief (empty_call b c s)
empty_is_brief b c s = go (nat_le b.limit c.depth)
  where
    turns : (n : ℕ) → IsBrief (continued (spend n s) (λ u. change (λ w. record w { deepest = max w.deepest (c.depth + 1) })))
    turns zero = tt
    turns (suc n) = tt

    go : (z : Bool) → IsBrief (continued ((if z then stop deep else spend_turn) s) (λ u. change (λ w. record w { deepest = max w.deepest (c.depth + 1) })))
    go true = tt
    go false = turns s.turns

module _ (laws : CaughtListFollows) (l : Layout) (a : SourceRunning) (b : Running) (same : RunAlike l a b) (makes : EmptyConstructor l a b) (fare : CallsFare a) {A B : Type 0} (agree : Agreement A B)
    (at : Places) (k : ℕ) (c : SourceContext) (w : SourceWorld) (s : State) (stands : Stands l a.program at c w s) where
  abbrev ctx : Context
  ctx = context_of w.open_calls c

  abbrev e : ℕ
  e = w.last_number + 1

  abbrev w1 : SourceWorld
  w1 = newly source_building (Make e) w

  abbrev made_state : ℕ → State
  made_state n = record s { world = with_item (Make (n + 1)) (with_new building s.world) }

  abbrev s1 : State
  s1 = made_state w.last_number

  stands1 : Stands l a.program at c w1 s1
  stands1 = new_on l a.program at c w s stands source_building (Make e) tt

  abbrev o : ℕ
  o = length w.objects

  abbrev stood : Stood
  stood = record { base = of_exception e; type = class_type 0 }

  abbrev w2 : SourceWorld
  w2 = with_object (unset a.program (class_type 0)) w1

  nothing_there : (q : ℕ) (x : Stood) → at q ≡ Some x → x.base ≡ of_exception e → ⊥
  nothing_there q x is base = let le = (subst (IsMade s.world.calls w.last_number w.live) base (stands.made q x is)).0 in omega (arith, le)

  abbrev h2 : Follows l a.program at k w1 s1 c w2 s1
  h2 = follows_new l a.program at c w1 s1 stands1 (of_exception e) (class_type 0) (unset a.program (class_type 0)) s1.world.memory nothing_there (omega arith, live_new w.live e source_building)
      (unset_is_shaped a.program same.ordered 0 same.ordered.some) (λ q other. refl) (λ path n is. absurd (unset_is_not_set a.program (class_type 0) path n is)) k

  abbrev rest : ℕ → Result (Unit {0}) → Result B
  rest n y = continued y (λ u t. continued (keep_bad (n + 1) t) (λ z. raise b (n + 1) ctx))

  abbrev built : SourceResult ℤ → SourceResult A
  built x = source_continued (source_after_building e (source_continued (source_continued x (λ v. source_pure (tt {0}))) (λ u. source_pure o))) (λ q. keep e q >> raise_exception a e c)

  called : (x : SourceResult ℤ) (y : Result (Unit {0})) → IsBrief y → Fares a.program 0 c w2 x → Alike l a.program (with_place at o stood) k c w2 s1 Any x y → Alike l a.program (with_place at o stood) k c w2 s1 agree (built x) (rest w.last_number y)
  called (source_done v w3) y brief fares (u, s3, is, (h, any)) =
      let more = one_more (unset a.program (class_type 0)) w1 in
      let placed = h.stay o (omega (arith, more)) ∙ placed_new at o stood in
      let stands4 = kept_on l a.program h.places c w3 s3 h.stands e o (class_type 0) placed same.ordered.some in
      let w4 = after_keeping l a.program h.places c w3 s3 h.stands e o (class_type 0) placed in
      let s4 = record s3 { world = kept e bad_row None s3.world } in
      let can : CanBeRaised c w4 e = record {
        made = (h.stands.made o stood placed).0;
        rests = new_number w.last_number c.travelling stands.sound.travelling;
        front = front_unhandled e c.handled (new_number w.last_number c.handled stands.sound.handled);
      } in
      let g = follows_changed l a.program h.places k c w3 w4 s3 s4.world refl refl refl stands4 in
      subst (λ z. Alike l a.program (with_place at o stood) k c w2 s1 agree (built (source_done v w3)) z)
      (sym (ap (rest w.last_number) is ∙ ap (λ z. continued (only_if z (change (kept e bad_row None)) s3) (λ q. raise b e ctx))
      (being_built l a.program h.places c w3 s3 h.stands e (fares.unbuilt e (omega arith) (new_unbuilt w (Make e) stands.sound.live)))))
      (alike_on l a.program agree (with_place at o stood) k c c w2 s1 w4 s4 (follows_on l a.program (with_place at o stood) k w2 s1 c w3 s3 c w4 s4 h g)
      (raise_exception a e c w4) (raise b e ctx s4)
      (subst (λ n. Alike l a.program h.places k c w4 s4 agree (raise_exception a e c w4) (raise b e (context_of n c) s4)) h.open_calls
      (raises_out l a b same laws A B h.places c w4 s4 stands4 e can (kept_thrown l a.program h.places c w3 s3 h.stands e o (class_type 0) placed) agree k)))
  called (source_stopped (thrown f) w3) y brief fares (s3, is, h) = absurd (subst IsBrief is brief)
  called (source_stopped (cancelled v) w3) y brief fares (s3, is, h) = absurd (subst IsBrief is brief)
  called (source_stopped undefined w3) y brief fares h = tt
  called (source_stopped (ended x) w3) y brief fares (s3, is, h) = absurd (subst IsBrief is brief)
  called (source_stopped out_of_turns w3) y brief fares (s3, is, h) = (s3, ap (rest w.last_number) is, h)
  called (source_stopped deep w3) y brief fares (s3, is, h) = (s3, ap (rest w.last_number) is, h)

  abbrev thrown_bad : ℕ → Result B
  thrown_bad n = rest n (empty_call b ctx (made_state n))

  -- what regions do where there is room
  abbrev act_bad : State → Result B
  act_bad t = rest s.world.last_number (empty_call b ctx (record t { world = with_item (Make (t.world.last_number + 1)) (with_new building t.world) }))

  built_bad : Alike l a.program at k c w s agree (built (a.call (constructor 0 (constructor_for a.program 0 0)) (whole o) [] c w2)) (thrown_bad w.last_number)
  built_bad =
      let h1 = follows_changed l a.program at k c w w1 s s1.world refl refl refl stands1 in
      let x = a.call (constructor 0 (constructor_for a.program 0 0)) (whole o) [] c w2 in
      let y = empty_call b ctx s1 in
      alike_on l a.program agree at k c c w s w1 s1 h1 (built x) (rest w.last_number y)
      (alike_on l a.program agree at k c c w1 s1 w2 s1 h2 (built x) (rest w.last_number y)
      (called x y (empty_is_brief b ctx s1)
      (fare (constructor 0 (constructor_for a.program 0 0)) (whole o) [] c 0 w2 (omega arith) (orderly_sound c w2 h2.stands.sound)) (makes (whole o) (with_place at o stood) k c w2 s1 h2.stands)))

  pub bad_out : Alike l a.program at k c w s agree (throw_new a c (new_bad_exception a c) w) (throw_bad b ctx s)
  bad_out =
      subst (λ z. Alike l a.program at k c w s agree (throw_new a c (new_bad_exception a c) w) ((if z then terminate b ctx else act_bad) s)) (sym (full_same l a.program at c w s stands))
      (go (source_is_full w))
    where
      go : (z : Bool) → Alike l a.program at k c w s agree
          ((if z then source_terminate {A = A} a c else (new_exception source_building Make >>= (λ e. (λ w. source_after_building e (new_bad_exception a c w)) >>= (λ o. keep e o >> raise_exception a e c)))) w)
          ((if z then terminate b ctx else act_bad) s)
      go true = ends_out l a b same agree at k c w s (source_terminate a c w) (terminate b ctx s) (terminates_out l a b same A B at c w s stands)
      go false =
          subst (λ n. Alike l a.program at k c w s agree (built (a.call (constructor 0 (constructor_for a.program 0 0)) (whole o) [] c w2)) (thrown_bad n))
          (sym (ap (λ y. y.last_number) stands.world)) built_bad

pub bad_exceptions_alike : CaughtListFollows → BadExceptionsAlike
bad_exceptions_alike laws l a b same makes fare at k c w s stands = bad_out laws l a b same makes fare Never at k c w s stands
