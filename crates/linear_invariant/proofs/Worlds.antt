-- What changes of the world keep of exceptions.
use Rattle.std.proofs.Common.{◌≡◌, ℕ, zero, suc, ◌+◌, ◌≤◌, Bool, true, false, ◌==◌, List, [], ◌∷◌, map, Option, refl, sym, ap, ◌∙◌, subst, if◌then◌else◌, arith}
use Rattle.std.specs.Prelude.{not, ◌&&◌}
use Rattle.std.proofs.lemmas.Bool.{and_parts}
use Rattle.std.proofs.lemmas.Bool.Decides.{nat_tests}
use Rattle.region_forms.specs.Caught.{Entry, entered_on, flown, left_of, counted, left_count}
use Rattle.region_forms.specs.Lives.{is_built, is_live, is_being_built, can_travel, is_on_top}
use Rattle.region_forms.specs.World.{World, Exception, native, replaced, exception_in, exception_at, without_exception}
use Rattle.region_forms.specs.Effect.{with_new, kept, flies, entered, entered_doomed, left}
use Rattle.flight_homes.specs.Keeps.{TravelsAgain}
use Rattle.linear_invariant.specs.Handled.{Unhandled, EachOnce, AllBuilt, open_handlers, IsGone, IsGiven, WorldKeeps}
use Rattle.linear_invariant.proofs.Lists.{being, found_appended, being_appended, found_replaced, among_replaced, built_replaced, found_without, among_without, none_without, none_is_building, again_flown, again_entered, again_left, unhandled_flown, unhandled_entered, unhandled_left, once_entered, once_flown, once_left, few_flown, few_entered, few_left}

-- others than one
abbrev pub But : ℕ → ℕ → Type 0
But x e = (e == x) ≡ false

-- What a change keeps of some exceptions: those that are built, whether they travel again, and those that are gone.
pub record Changes (P : ℕ → Type 0) (w v : World) : Type 0 where
  pub same : (e : ℕ) → P e → can_travel w e ≡ true → exception_at v e ≡ exception_at w e
  pub again : (e : ℕ) → P e → TravelsAgain e w.caught → TravelsAgain e v.caught
  pub gone : (e : ℕ) → P e → IsGone w e → IsGone v e

pub still_can : (w v : World) (e : ℕ) → exception_at v e ≡ exception_at w e → can_travel w e ≡ true → can_travel v e ≡ true
still_can w v e same can = ap is_built same ∙ can

pub changes_then : (P : ℕ → Type 0) (w v u : World) → Changes P w v → Changes P v u → Changes P w u
changes_then P w v u a b = record {
  same = λ e other can. b.same e other (still_can w v e (a.same e other can) can) ∙ a.same e other can;
  again = λ e other h. b.again e other (a.again e other h);
  gone = λ e other h. b.gone e other (a.gone e other h);
}

-- nothing is changed of exceptions
pub record Quiet (w v : World) : Type 0 where
  pub live : v.live ≡ w.live
  pub caught : v.caught ≡ w.caught
  pub last : v.last_number ≡ w.last_number
  pub given : IsGiven w → IsGiven v

pub itself : (w : World) → Quiet w w
itself w = record { live = refl; caught = refl; last = refl; given = λ g. g }

pub quiet_then : (w v u : World) → Quiet w v → Quiet v u → Quiet w u
quiet_then w v u a b = record { live = b.live ∙ a.live; caught = b.caught ∙ a.caught; last = b.last ∙ a.last; given = λ g. b.given (a.given g) }

pub quiet_changes : (P : ℕ → Type 0) (w v : World) → Quiet w v → Changes P w v
quiet_changes P w v q = record {
  same = λ e other can. ap (λ xs. exception_in xs e) q.live;
  again = λ e other h. subst (TravelsAgain e) (sym q.caught) h;
  gone = λ e other h. record {
    given = subst (λ n. e ≤ n) (sym q.last) h.given;
    unhandled = subst (Unhandled e) (sym q.caught) h.unhandled;
    built = ap (λ xs. being xs e) q.live ∙ h.built;
  };
}

built_as : (w v : World) (xs : List Entry) → v.live ≡ w.live → AllBuilt w xs → AllBuilt v xs
built_as w v [] same h = tt
built_as w v (y ∷ ys) same h = (ap (λ zs. is_built (exception_in zs y.number)) same ∙ h.0, built_as w v ys same h.1)

pub quiet_keeps : (n : ℕ) (w v : World) → Quiet w v → WorldKeeps n w → WorldKeeps n v
quiet_keeps n w v q h = record {
  built = built_as w v v.caught q.live (subst (AllBuilt w) (sym q.caught) h.built);
  once = subst EachOnce (sym q.caught) h.once;
  few = subst (λ xs. open_handlers xs ≤ n) (sym q.caught) h.few;
  given = q.given h.given;
}

pub more_steps : (n m : ℕ) (w : World) → n ≤ m → WorldKeeps n w → WorldKeeps m w
more_steps n m w le h = record { built = h.built; once = h.once; few = omega (arith, le, h.few); given = h.given }

-- a new exception

pub new_changes : (P : ℕ → Type 0) (y : Exception) (w : World) → Changes P w (with_new y w)
new_changes P y w = record {
  same = λ e other can. found_appended w.live (record { number = w.last_number + 1; exception = y }) e can;
  again = λ e other h. h;
  gone = λ e other h.
      let less = h.given in
      let apart : (w.last_number + 1 == e) ≡ false = grind (arith, nat_tests, less) in
      record {
        given = omega (arith, h.given);
        unhandled = h.unhandled;
        built = being_appended w.live (record { number = w.last_number + 1; exception = y }) e apart ∙ h.built;
      };
}

built_appended : (y : Exception) (w : World) (xs : List Entry) → AllBuilt w xs → AllBuilt (with_new y w) xs
built_appended y w [] h = tt
built_appended y w (z ∷ zs) h = (ap is_built (found_appended w.live (record { number = w.last_number + 1; exception = y }) z.number h.0) ∙ h.0, built_appended y w zs h.1)

pub new_keeps : (n : ℕ) (y : Exception) (w : World) → WorldKeeps n w → WorldKeeps n (with_new y w)
new_keeps n y w h = record {
  built = built_appended y w w.caught h.built;
  once = h.once;
  few = h.few;
  given = record { bytes = h.given.bytes; few = h.given.few; fit = h.given.fit };
}

-- an exception that was being built is native

pub unhandled_building : (w : World) (e : ℕ) (xs : List Entry) → can_travel w e ≡ false → AllBuilt w xs → Unhandled e xs
unhandled_building w e [] none h = tt
unhandled_building w e (y ∷ ys) none h = (go (y.number == e) refl, unhandled_building w e ys none h.1)
  where
    go : (b : Bool) → (y.number == e) ≡ b → b ≡ false
    go true i =
        let same : y.number ≡ e = grind (arith, nat_tests, i) in
        let never : true ≡ false = sym h.0 ∙ (ap (can_travel w) same ∙ none) in absurd (cc never)
    go false i = refl

pub building_waits : (w : World) (e : ℕ) → is_being_built w e ≡ true → can_travel w e ≡ false
building_waits w e h = go (is_built (exception_at w e)) (and_parts (is_live w e) (not (is_built (exception_at w e))) h).1
  where
    go : (b : Bool) → not b ≡ true → b ≡ false
    go true i = absurd (cc i)
    go false i = refl

-- what can travel is not being built
pub travelling_is_built : (w : World) (e : ℕ) → can_travel w e ≡ true → is_being_built w e ≡ false
travelling_is_built w e h = go (is_live w e) (is_built (exception_at w e)) h
  where
    go : (b c : Bool) → c ≡ true → (b && not c) ≡ false
    go true true i = refl
    go true false i = absurd (cc i)
    go false c i = refl

-- others than one are as they were
built_kept : (x : ℕ) (w v : World) (xs : List Entry) → ((e : ℕ) → (e == x) ≡ false → can_travel w e ≡ true → exception_at v e ≡ exception_at w e) → Unhandled x xs → AllBuilt w xs → AllBuilt v xs
built_kept x w v [] same other h = tt
built_kept x w v (y ∷ ys) same other h = (still_can w v y.number (same y.number other.0 h.0) h.0, built_kept x w v ys same other.1 h.1)

module _ (e t : ℕ) (d : Option ℕ) (w : World) where
  pub kept_changes : Changes (But e) w (kept e t d w)
  kept_changes = record {
    same = λ i other can. found_replaced e (native t d w.installed) w.live i other;
    again = λ i other h. h;
    gone = λ i other h. record {
      given = h.given;
      unhandled = h.unhandled;
      built = ap (λ b. b && not (is_built (exception_in (map (replaced e (native t d w.installed)) w.live) i))) (among_replaced e (native t d w.installed) w.live i)
          ∙ (ap (λ y. is_live w i && not (is_built y)) (found_replaced e (native t d w.installed) w.live i other) ∙ h.built);
    };
  }

  pub kept_can : is_being_built w e ≡ true → can_travel (kept e t d w) e ≡ true
  kept_can h = built_replaced e (native t d w.installed) w.live refl (and_parts (is_live w e) (not (is_built (exception_at w e))) h).0

  pub kept_keeps : (n : ℕ) → is_being_built w e ≡ true → WorldKeeps n w → WorldKeeps n (kept e t d w)
  kept_keeps n h k = record {
    built = built_kept e w (kept e t d w) w.caught (λ i other can. kept_changes.same i other can) (unhandled_building w e w.caught (building_waits w e h) k.built) k.built;
    once = k.once;
    few = k.few;
    given = record { bytes = k.given.bytes; few = k.given.few; fit = k.given.fit };
  }

-- an exception begins to travel

built_flown : (w : World) (x : ℕ) (xs : List Entry) → AllBuilt w xs → AllBuilt w (flown x xs)
built_flown w x [] h = tt
built_flown w x (y ∷ ys) h = (go (y.number == x), h.1)
  where
    go : (b : Bool) → can_travel w (if b then record y { again = true } else y).number ≡ true
    go true = h.0
    go false = h.0

pub flies_changes : (P : ℕ → Type 0) (e : ℕ) (w : World) → Changes P w (flies e w)
flies_changes P e w = record {
  same = λ i other can. refl;
  again = λ i other h. again_flown i e w.caught h;
  gone = λ i other h. record { given = h.given; unhandled = unhandled_flown i e w.caught h.unhandled; built = h.built };
}

pub flies_keeps : (n e : ℕ) (w : World) → WorldKeeps n w → WorldKeeps n (flies e w)
flies_keeps n e w h = record {
  built = built_as w (flies e w) (flown e w.caught) refl (built_flown w e w.caught h.built);
  once = once_flown e w.caught h.once;
  few = subst (λ m. m ≤ n) (sym (few_flown e w.caught)) h.few;
  given = record { bytes = h.given.bytes; few = h.given.few; fit = h.given.fit };
}

-- an exception is entered

built_entered : (w : World) (x : ℕ) (xs : List Entry) → can_travel w x ≡ true → AllBuilt w xs → AllBuilt w (entered_on x xs)
built_entered w x [] can h = (can, tt)
built_entered w x (y ∷ ys) can h = go (y.number == x)
  where
    go : (b : Bool) → AllBuilt w (counted b x false y ys)
    go true = (can, h.1)
    go false = (can, h)

module _ (e : ℕ) (w : World) where
  pub entered_changes : Changes (But e) w (entered e w)
  entered_changes = record {
    same = λ i other can. refl;
    again = λ i other h. again_entered i e w.caught other h;
    gone = λ i other h. record { given = h.given; unhandled = unhandled_entered i e w.caught other h.unhandled; built = h.built };
  }

  pub doomed_changes : Changes (But e) w (entered_doomed e w)
  doomed_changes = record {
    same = λ i other can. refl;
    again = λ i other h. again_entered i e w.caught other h;
    gone = λ i other h. record { given = h.given; unhandled = unhandled_entered i e w.caught other h.unhandled; built = h.built };
  }

  module _ (n : ℕ) (can : can_travel w e ≡ true) (top : is_on_top e w.caught ≡ true) (h : WorldKeeps n w) where
    pub entered_keeps : WorldKeeps (n + 1) (entered e w)
    entered_keeps =
        let count = few_entered e w.caught in
        let few = h.few in
        record {
          built = built_as w (entered e w) (entered_on e w.caught) refl (built_entered w e w.caught can h.built);
          once = once_entered e w.caught top h.once;
          few = omega (arith, count, few);
          given = record { bytes = h.given.bytes; few = h.given.few; fit = h.given.fit };
        }

    pub doomed_keeps : WorldKeeps (n + 1) (entered_doomed e w)
    doomed_keeps =
        let count = few_entered e w.caught in
        let few = h.few in
        record {
          built = built_as w (entered_doomed e w) (entered_on e w.caught) refl (built_entered w e w.caught can h.built);
          once = once_entered e w.caught top h.once;
          few = omega (arith, count, few);
          given = record { bytes = h.given.bytes; few = h.given.few; fit = h.given.fit };
        }

-- a handler is left

built_left : (w : World) (xs : List Entry) → AllBuilt w xs → AllBuilt w (left_of xs)
built_left w [] h = tt
built_left w (y ∷ ys) h = go y.more
  where
    go : (n : ℕ) → AllBuilt w (left_count y.again n y.number ys)
    go zero = h.1
    go (suc n) = h

pub left_changes : (P : ℕ → Type 0) (w : World) → Changes P w (left w)
left_changes P w = record {
  same = λ i other can. refl;
  again = λ i other h. again_left i w.caught h;
  gone = λ i other h. record { given = h.given; unhandled = unhandled_left i w.caught h.unhandled; built = h.built };
}

pub left_keeps : (n : ℕ) (w : World) → WorldKeeps n w → WorldKeeps n (left w)
left_keeps n w h =
    let less = few_left w.caught in
    let few = h.few in
    record {
      built = built_as w (left w) (left_of w.caught) refl (built_left w w.caught h.built);
      once = once_left w.caught h.once;
      few = omega (arith, less, few);
      given = record { bytes = h.given.bytes; few = h.given.few; fit = h.given.fit };
    }

-- an exception is no longer live

module _ (e : ℕ) (w : World) where
  pub without_changes : Changes (But e) w (without_exception e w)
  without_changes = record {
    same = λ i other can. found_without e w.live i other;
    again = λ i other h. h;
    gone = λ i other h. record {
      given = h.given;
      unhandled = h.unhandled;
      built = ap (λ b. b && not (is_built (exception_at (without_exception e w) i))) (among_without e w.live i other)
          ∙ (ap (λ y. is_live w i && not (is_built y)) (found_without e w.live i other) ∙ h.built);
    };
  }

  -- it is gone as well
  pub without_gone : IsGone w e → IsGone (without_exception e w) e
  without_gone h = record { given = h.given; unhandled = h.unhandled; built = none_is_building (without_exception e w).live e (none_without e w.live) }

  pub without_keeps : (n : ℕ) → Unhandled e w.caught → WorldKeeps n w → WorldKeeps n (without_exception e w)
  without_keeps n other h = record {
    built = built_kept e w (without_exception e w) w.caught (λ i apart can. without_changes.same i apart can) other h.built;
    once = h.once;
    few = h.few;
    given = record { bytes = h.given.bytes; few = h.given.few; fit = h.given.fit };
  }
