-- Leaving a handler: the runtime's function does what leaving the newest handler is, in whichever open call it is called.
use Rattle.std.proofs.Common.{◌≡◌, ℕ, zero, suc, ◌+◌, ◌<◌, inl, inr, Bool, true, false, List, [], ◌∷◌, filter, Some, None, refl, sym, ap, ◌∙◌, subst, arith}
use Rattle.std.specs.Prelude.{ℤ, pos, not, ◌==◌, max, nat_le, if◌then◌else◌}
use Rattle.std.proofs.lemmas.Bool.Decides.{nat_tests}
use Rattle.run_items.specs.declared.item.Item.TheVariants.{Destroy}
use Rattle.meaning_forms.specs.Outcome.{thrown, cancelled, ended, undefined, out_of_turns, deep}
use Rattle.region_forms.specs.World.{Word, nothing, number_word, address_word, flying, Frame, World, Live, Exception, building, native, foreign, object_address, with_slot, with_item, exception_in, exception_at, exception_type, type_at, unwinding}
use Rattle.region_forms.specs.Guard.{Guard}
use Rattle.region_forms.specs.Caught.{gives_back}
use Rattle.region_forms.specs.Effect.{freed, left, newest_of, cleaned_up, finished}
use Rattle.region_forms.specs.Outcome.{State as RegionState, Result, done, stopped, Action, stop, change, pure, continued, only_if, ◌>>◌}
use Rattle.region_forms.specs.Ending.{Running, after_destructor, empty_call, give_back, spend, spend_turn, bad_row}
use Rattle.linear_forms.specs.Stub.{end_catch}
use Rattle.linear_forms.specs.Activation.{Code, Activation, State, goes_to, look, fetch, kinds, on, at, stub_frame, depth_of, next_if, Next, finishes, not_defined}
use Rattle.linear_forms.specs.Operation.{wanted_by, returned, settled}
use Rattle.linear_forms.specs.StubOperation.{is_bad, given_back}
use Rattle.linear_forms.specs.StubOperation
use Rattle.linear_forms.specs.Search.{found}
use Rattle.linear_forms.specs.Forced.{force}
use Rattle.linear_forms.specs.Unwinding.{unwind}
use Rattle.linear_forms.specs.Machine.{step}
use Rattle.linear_forms.specs.Agrees.{Agrees}
use Rattle.linear_forms.specs.Pace.{pays_at, Paced}
use Rattle.linear_forms.specs.CodeRuns.{context_of}
use Rattle.linear_forms.proofs.Running
use Rattle.linear_simulation.specs.Watched.{still, not_its_own, watched_leave}
use Rattle.linear_simulation.specs.Comes.{Comes, comes_back, goes_on, BackOrEnd, CallsRun, state_after}
use Rattle.linear_simulation.proofs.Coming.{none_more}
use Rattle.linear_simulation.proofs.Coming
use Rattle.region_forms.specs.Lives.{is_live, may_leave}

-- an exception that is freed changes no other
other_freed : (f e : ℕ) → (f == e) ≡ false → (xs : List Live) → exception_in (filter (λ x. not (x.number == e)) xs) f ≡ exception_in xs f
other_freed f e ne [] = refl
other_freed f e ne (x ∷ xs) = go (x.number == e) refl (other_freed f e ne xs)
  where
    same : (x.number == e) ≡ true → (x.number == f) ≡ false
    same h = grind (arith, nat_tests)

    go : (b : Bool) → (x.number == e) ≡ b → exception_in (filter (λ x. not (x.number == e)) xs) f ≡ exception_in xs f
        → exception_in (if not b then x ∷ filter (λ x. not (x.number == e)) xs else filter (λ x. not (x.number == e)) xs) f
        ≡ (if x.number == f then x.exception else exception_in xs f)
    go true h rest = rest ∙ ap (λ b. if b then x.exception else exception_in xs f) (sym (same h))
    go false h rest = ap (λ y. if x.number == f then x.exception else y) rest

pub type_freed : (f e : ℕ) (w : World) → (f == e) ≡ false → type_at (freed e w) f ≡ type_at w f
type_freed f e w ne = ap exception_type (other_freed f e ne w.live)

module _ (code : Code) (most fuel : ℕ) (run : Running) (calls : CallsRun code most fuel run) where
  -- what one of the runtime's functions gives is dropped
  pub drops : (a : Activation) (fs : List Activation) (v : ℤ) (w : World) → wanted_by (fetch code a.function a.place) ≡ None
      → returned code v (a ∷ fs) w ≡ on a a.frame fs w
  drops a fs v w e = ap (λ p. settled (finished (kinds code a.function) p v a.frame w) a fs w) e

  -- a call of what does nothing
  pub empty_back : {m : State} {t c : ℕ} (a b : Activation) (fs ds : List Activation) (gs : List Guard) (st : RegionState) (mid : State) → mid.world ≡ st.world
      → step code mid ≡ on b b.frame ds (StubOperation.empty_call (a ∷ fs) st.world) → pays_at code mid ≡ true
      → Paced code most m t (goes_to mid) st.turns c
      → BackOrEnd code most st.frame b ds m t (empty_call run (context_of gs a fs) st) c
  empty_back {m} {t} {c} a b fs ds gs st mid we se pay r = go (nat_le run.limit (depth_of (a ∷ fs)))
    where
      after : Unit {0} → Action (Unit {0})
      after x = change (λ w. record w { deepest = max w.deepest (depth_of (a ∷ fs) + 1) })

      spent : (u : ℕ) → Paced code most m t (goes_to mid) u c → BackOrEnd code most st.frame b ds m t (continued (spend u st) after) c
      spent zero r = inr (record { why = out_of_turns; state = st; is = refl; next = goes_to mid; reaches = r; ends = (mid, refl, we, pay) })
      spent (suc u) r = inl (
        record st { turns = u; world = record (st.world) { deepest = max st.world.deepest (depth_of (a ∷ fs) + 1) } },
        refl,
        refl,
        Running.slower code most 0 c (omega arith) (Running.reaches_on code most 0 r
            (Running.turn_step code most 0 u se pay (Running.reaches_now code most 0 _ u) (omega (arith, calls.room)))),
      )

      go : (d : Bool) → BackOrEnd code most st.frame b ds m t (continued ((if d then stop deep else spend_turn) st) after) c
      go true = inr (record { why = deep; state = st; is = refl; next = goes_to mid; reaches = r; ends = (mid, refl, we) })
      go false = spent st.turns r

  back_comes : {m : State} {t c : ℕ} (x0 : Frame) (b : Activation) (ds : List Activation) (r : Result (Unit {0})) → BackOrEnd code most x0 b ds m t r c
      → Comes code most x0 b ds (goes_on x0 b ds) m t r c
  back_comes {m} {t} {c} x0 b ds r (inl (st, is, fr, re)) =
      subst (λ z. Comes code most x0 b ds (goes_on x0 b ds) m t z c) (sym is) (record { next = on b b.frame ds st.world; reaches = re; comes = (fr, refl) })
  back_comes x0 b ds r (inr e) = Coming.ends_come code most b ds (goes_on x0 b ds) e

  pub dropped_comes : {f : Frame} {m : State} {t c : ℕ} (a : Activation) (fs : List Activation) → wanted_by (fetch code a.function a.place) ≡ None → (r : Result ℤ)
      → (state_after r).frame ≡ f → Comes code most f a fs (comes_back code a fs) m t r c → Comes code most f a fs (goes_on f a fs) m t (continued r (λ v. pure tt)) c
  dropped_comes a fs want (done v s) q k = record { next = k.next; reaches = k.reaches; comes = (q, k.comes ∙ drops a fs v s.world want) }
  dropped_comes a fs want (stopped x s) q k = record { next = k.next; reaches = k.reaches; comes = k.comes }

  module _ (a : Activation) (fs : List Activation) (gs : List Guard) (agrees : Agrees code a.function gs (look code a.function a.place) fs)
      (want : wanted_by (fetch code a.function a.place) ≡ None) where
    -- the end of the runtime's function
    ended_at : {m : State} {t u c : ℕ} (x : Frame) (w : World) → Paced code most m t (at end_catch 3 x (a ∷ fs) w) u c
        → Paced code most m t (on a a.frame fs w) u (c + 1)
    ended_at x w r = Coming.on_step code most r (drops a fs (pos 0) w want) refl

    abbrev held : Word → ℕ → Frame
    held d e = with_slot 1 d (with_slot 0 (address_word (object_address e)) (stub_frame nothing nothing nothing))

    -- what frees a live exception, or is not defined
    abbrev frees : ℕ → Frame → World → ℕ → Bool → Next
    frees p x w e b = next_if b w (at end_catch p x (a ∷ fs) (freed e w))

    freed_at : {m : State} {t u c : ℕ} (d : Word) (e : ℕ) (w : World) → is_live w e ≡ true → Paced code most m t (at end_catch 2 (held d e) (a ∷ fs) w) u c
        → Paced code most m t (on a a.frame fs (freed e w)) u (c + 2)
    freed_at {c = c} d e w live r =
        Running.slower code most 0 (c + 2) (omega arith) (ended_at (held d e) (freed e w) (Coming.on_step code most r (ap (frees 3 (held d e) w e) live) refl))

    abbrev destroying : Word → ℕ → Activation
    destroying d e = record { function = end_catch; place = 1; frame = held d e }

    -- what the destructor comes to
    destroyed_comes : {x0 : Frame} {m : State} {t c : ℕ} (d : Word) (e : ℕ) (r : Result (Unit {0}))
        → Comes code most x0 (destroying d e) (a ∷ fs) (goes_on x0 (destroying d e) (a ∷ fs)) m t r c
        → Comes code most x0 a fs (goes_on x0 a fs) m t (not_its_own e (after_destructor e r)) (c + 4)
    destroyed_comes {x0} {m} {t} {c} d e (done v s) k = go (is_live s.world e) refl
      where
        r2 : Paced code most m t (at end_catch 2 (held d e) (a ∷ fs) s.world) s.turns c
        r2 = Running.reaches_to code most 0 k.comes.1 k.reaches

        go : (b : Bool) → is_live s.world e ≡ b → Comes code most x0 a fs (goes_on x0 a fs) m t (not_its_own e (only_if b (change (freed e)) s)) (c + 4)
        go true live = record {
          next = on a a.frame fs (freed e s.world);
          reaches = Running.slower code most 0 (c + 4) (omega arith) (freed_at d e s.world live r2);
          comes = (k.comes.0, refl);
        }
        go false live = record {
          next = finishes not_defined s.world;
          reaches = Running.slower code most 0 (c + 4) (omega arith) (Coming.on_step code most r2 (ap (frees 3 (held d e) s.world e) live) refl);
          comes = refl;
        }
    destroyed_comes {x0} {m} {t} {c} d e (stopped (thrown f) s) k = either (is_live s.world e) refl
      where
        tg : ℕ
        tg = k.comes.0

        x : Frame
        x = with_slot 3 (number_word (pos 0)) (with_slot 2 (flying f tg) (held d e))

        r6 : (b : Bool) → is_live s.world e ≡ b → Paced code most m t (frees 6 x s.world e b) s.turns (c + 1)
        r6 b live = Coming.on_step code most (Running.reaches_to code most 0 k.comes.3 k.reaches) (ap (frees 6 x s.world e) live) refl

        go : Paced code most m t (at end_catch 6 x (a ∷ fs) (freed e s.world)) s.turns (c + 1) → (b : Bool) → (f == e) ≡ b
            → Comes code most x0 a fs (goes_on x0 a fs) m t (still (not b) f (record s { world = freed e s.world })) (c + 4)
        go r6 true q = record {
          next = at end_catch 6 x (a ∷ fs) (freed e s.world);
          reaches = Running.slower code most 0 (c + 4) (omega arith) r6;
          comes = (_, refl, refl);
        }
        go r6 false q = record {
          next = unwind code (look code a.function a.place) tg f a.function a.frame fs (freed e s.world);
          reaches = Running.slower code most 0 (c + 4) (omega arith) (Coming.on_step code most r6 refl refl);
          comes = (tg, ap (λ y. found code a.function (look code a.function a.place) y fs) (type_freed f e s.world q) ∙ k.comes.1, k.comes.2, refl);
        }

        either : (b : Bool) → is_live s.world e ≡ b
            → Comes code most x0 a fs (goes_on x0 a fs) m t (not_its_own {A = Unit {0}} e (continued (only_if b (change (freed e)) s) (λ u. stop (thrown f)))) (c + 4)
        either true live = go (r6 true live) (f == e) refl
        either false live = record { next = finishes not_defined s.world; reaches = Running.slower code most 0 (c + 4) (omega arith) (r6 false live); comes = refl }
    destroyed_comes {x0} {m} {t} {c} d e (stopped (cancelled z) s) k = go (is_live s.world e) refl
      where
        x : Frame
        x = with_slot 3 (number_word (pos 0)) (with_slot 2 (unwinding z) (held d e))

        r6 : (b : Bool) → is_live s.world e ≡ b → Paced code most m t (frees 6 x s.world e b) s.turns (c + 1)
        r6 b live = Coming.on_step code most (Running.reaches_to code most 0 k.comes.1 k.reaches) (ap (frees 6 x s.world e) live) refl

        go : (b : Bool) → is_live s.world e ≡ b
            → Comes code most x0 a fs (goes_on x0 a fs) m t (not_its_own {A = Unit {0}} e (continued (only_if b (change (freed e)) s) (λ u. stop (cancelled z)))) (c + 4)
        go true live = record {
          next = force code (look code a.function a.place) z a.function a.frame fs (freed e s.world);
          reaches = Running.slower code most 0 (c + 4) (omega arith) (Coming.on_step code most (r6 true live) refl refl);
          comes = (k.comes.0, refl);
        }
        go false live = record { next = finishes not_defined s.world; reaches = Running.slower code most 0 (c + 4) (omega arith) (r6 false live); comes = refl }
    destroyed_comes {c = c} d e (stopped (ended x) s) k = record { next = k.next; reaches = Running.slower code most 0 (c + 4) (omega arith) k.reaches; comes = k.comes }
    destroyed_comes {c = c} d e (stopped undefined s) k = record { next = k.next; reaches = Running.slower code most 0 (c + 4) (omega arith) k.reaches; comes = k.comes }
    destroyed_comes {c = c} d e (stopped out_of_turns s) k = record { next = k.next; reaches = Running.slower code most 0 (c + 4) (omega arith) k.reaches; comes = k.comes }
    destroyed_comes {c = c} d e (stopped deep s) k = record { next = k.next; reaches = Running.slower code most 0 (c + 4) (omega arith) k.reaches; comes = k.comes }

    -- what a native exception without a destructor to be called comes to
    empty_destroyed : {m : State} {t c : ℕ} (b : Bool) (e : ℕ) (st : RegionState) → is_bad (type_at st.world e) ≡ b
        → Paced code most m t (goes_to (record { top = destroying nothing e; frames = a ∷ fs; world = st.world })) st.turns c
        → Comes code most st.frame (destroying nothing e) (a ∷ fs) (goes_on st.frame (destroying nothing e) (a ∷ fs)) m t
        ((if b then empty_call run (context_of gs a fs) else pure tt) st) (c + 1)
    empty_destroyed {c = c} true e st q r =
        Coming.comes_slower code most (c + 1) (omega arith) (back_comes st.frame (destroying nothing e) (a ∷ fs) _ (empty_back a (destroying nothing e) fs (a ∷ fs) gs st _ refl
        (ap (λ y. on (destroying nothing e) (held nothing e) (a ∷ fs) (if y then StubOperation.empty_call (a ∷ fs) st.world else st.world)) q) refl r))
    empty_destroyed false e st q r = record {
      next = on (destroying nothing e) (held nothing e) (a ∷ fs) st.world;
      reaches = Coming.on_step code most r
          (ap (λ y. on (destroying nothing e) (held nothing e) (a ∷ fs) (if y then StubOperation.empty_call (a ∷ fs) st.world else st.world)) q) refl;
      comes = (refl, refl);
    }

    abbrev leaving : Activation
    leaving = record { function = end_catch; place = 0; frame = stub_frame nothing nothing nothing }

    -- the exception that was left is given back
    given_back_comes : {m : State} {t c : ℕ} (e : ℕ) (st : RegionState) (x : Exception) → st.turns < fuel → exception_at st.world e ≡ x
        → Paced code most m t (given_back x e 0 1 3 leaving (a ∷ fs) st.world) st.turns c
        → Comes code most st.frame a fs (goes_on st.frame a fs) m t (not_its_own e (give_back run e x (context_of gs a fs) st)) (c + 6)
    given_back_comes {c = c} e st (foreign k ty) lt q r = record {
      next = on a a.frame fs (cleaned_up e k ty st.world);
      reaches = Running.slower code most 0 (c + 6) (omega arith) (ended_at (stub_frame nothing nothing nothing) (cleaned_up e k ty st.world) r);
      comes = (refl, refl);
    }
    given_back_comes {c = c} e st building lt q r = record {
      next = on a a.frame fs st.world;
      reaches = Running.slower code most 0 (c + 6) (omega arith) (ended_at (stub_frame nothing nothing nothing) st.world r);
      comes = (refl, refl);
    }
    given_back_comes {c = c} e st (native ty None kept) lt q r =
        let s2 : RegionState = record st { world = with_item (Destroy e) st.world } in
        Coming.comes_slower code most (c + 6) (omega arith) (destroyed_comes nothing e _ (empty_destroyed (ty == bad_row) e s2 (ap (λ y. is_bad (exception_type y)) q) r))
    given_back_comes {m} {t} {c} e st (native ty (Some d) kept) lt q r =
        let s2 : RegionState = record st { world = with_item (Destroy e) st.world } in
        let w = number_word (pos d) in
        let ag : Agrees code end_catch gs (look code end_catch 1) (a ∷ fs) = record { same = agrees.same } in
        let k = Coming.call_comes code most fuel run calls d (address_word (object_address e) ∷ []) (destroying w e) (a ∷ fs) gs s2
        (record { top = destroying w e; frames = a ∷ fs; world = s2.world }) refl refl refl lt ag r in
        Coming.comes_slower code most (c + 6) (omega arith) (destroyed_comes w e _
        (subst (λ n. Comes code most st.frame (destroying w e) (a ∷ fs) (goes_on st.frame (destroying w e) (a ∷ fs)) m t
        (continued (run.call d (address_word (object_address e) ∷ []) (record { guards = gs; depth = n }) s2) (λ v. pure tt)) (c + 1)) (none_more (depth_of (a ∷ fs)))
        (dropped_comes (destroying w e) (a ∷ fs) refl _ (calls.frames d (address_word (object_address e) ∷ []) (destroying w e) (a ∷ fs) gs s2) k)))

    -- the newest handler is left
    pub leave_comes : {m : State} {t c : ℕ} (st : RegionState) → st.turns < fuel
        → Paced code most m t (at end_catch 0 (stub_frame nothing nothing nothing) (a ∷ fs) st.world) st.turns c
        → Comes code most st.frame a fs (goes_on st.frame a fs) m t (watched_leave run (context_of gs a fs) st) (c + 7)
    leave_comes {m} {t} {c} st lt r = either (may_leave st.world st.world.caught) (Coming.on_step code most r refl refl)
      where
        e : ℕ
        e = newest_of st.world.caught

        s1 : RegionState
        s1 = record st { world = left st.world }

        go : (b : Bool) → Paced code most m t (if b then given_back (exception_at st.world e) e 0 1 3 leaving (a ∷ fs) (left st.world)
            else at end_catch 3 (stub_frame nothing nothing nothing) (a ∷ fs) (left st.world)) st.turns (c + 1)
            → Comes code most st.frame a fs (goes_on st.frame a fs) m t (not_its_own e ((if b then give_back run e (exception_at st.world e) (context_of gs a fs) else pure tt) s1)) (c + 7)
        go true k = Coming.comes_slower code most (c + 7) (omega arith) (given_back_comes e s1 (exception_at st.world e) lt refl k)
        go false k = record {
          next = on a a.frame fs (left st.world);
          reaches = Running.slower code most 0 (c + 7) (omega arith) (ended_at (stub_frame nothing nothing nothing) (left st.world) k);
          comes = (refl, refl);
        }

        either : (b : Bool) → Paced code most m t (next_if b st.world (if gives_back st.world.caught then given_back (exception_at st.world e) e 0 1 3 leaving (a ∷ fs) (left st.world)
            else at end_catch 3 (stub_frame nothing nothing nothing) (a ∷ fs) (left st.world))) st.turns (c + 1)
            → Comes code most st.frame a fs (goes_on st.frame a fs) m t (not_its_own e (only_if b
            (change left >> (if gives_back st.world.caught then give_back run e (exception_at st.world e) (context_of gs a fs) else pure tt)) st)) (c + 7)
        either true k = go (gives_back st.world.caught) k
        either false k = record { next = finishes not_defined st.world; reaches = Running.slower code most 0 (c + 7) (omega arith) k; comes = refl }
