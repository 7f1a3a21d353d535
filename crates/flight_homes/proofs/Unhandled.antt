-- No handler begins at a place at which a call carries what a pad caught.
use Rattle.std.proofs.Common.{◌≡◌, ◌⊎◌, inl, inr, ℕ, ◌+◌, Bool, true, false, Option, Some, None, refl, sym, ap, ◌∙◌}
use Rattle.std.specs.Prelude.{slice_get, if◌then◌else◌}
use Rattle.region_forms.specs.Form.{Place, bind, evaluate, store, call, construct, destroy, make, throw, rethrow, enter, leave, RegionFunction}
use Rattle.linear_forms.specs.Linear.{FunctionCode, LinearOp, plain, label, jump, jump_zero, pad, jump_filter, free, resume, unexpected, return}
use Rattle.linear_forms.specs.Unit.{emitting, function_code}
use Rattle.exceptions_in_flight.specs.Carrying.{CarriesOn, Steps}
use Rattle.exceptions_in_flight.specs.Flights.{AreFlights}

abbrev pub is_bind : Option LinearOp → Bool
is_bind None = false
is_bind (Some (plain (bind s q))) = true
is_bind (Some o) = false

-- a handler begins at a label in front of a bind
abbrev pub is_handler : Option LinearOp → Option LinearOp → Bool
is_handler None next = false
is_handler (Some (label l)) next = is_bind next
is_handler (Some o) next = false

abbrev pub begins_handler : FunctionCode → ℕ → Bool
begins_handler g p = is_handler (slice_get g.ops p) (slice_get g.ops (p + 1))

-- the places at which none begins
abbrev pub unhandled : FunctionCode → (ℕ → Bool) → ℕ → Bool
unhandled g carries p = if begins_handler g p then false else carries p

was_carried : (b c : Bool) → (if b then false else c) ≡ true → c ≡ true
was_carried true c e = absurd (cc e)
was_carried false c e = e

still_carried : (b c : Bool) → b ≡ false → c ≡ true → (if b then false else c) ≡ true
still_carried true c e h = absurd (cc e)
still_carried false c e h = h

never_both : {X : Type 0} (b c : Bool) → b ≡ true → (if b then false else c) ≡ true → X
never_both true c e h = absurd (cc h)
never_both false c e h = absurd (cc e)

module _ (f : RegionFunction) (carries : ℕ → Bool) (flights : AreFlights f carries) where
  abbrev g : FunctionCode
  g = function_code f

  abbrev fewer : ℕ → Bool
  fewer = unhandled g carries

  pub carried_before : (p : ℕ) → fewer p ≡ true → carries p ≡ true
  carried_before p e = was_carried (begins_handler g p) (carries p) e

  -- a carried operation that does not begin a handler
  kept : (p : ℕ) (o : LinearOp) → slice_get g.ops p ≡ Some o → is_handler (Some o) (slice_get g.ops (p + 1)) ≡ false → carries p ≡ true → fewer p ≡ true
  kept p o e other h = still_carried (begins_handler g p) (carries p) (ap (λ x. is_handler x (slice_get g.ops (p + 1))) e ∙ other) h

  -- what carries on binds nothing
  no_bind : (o : LinearOp) → CarriesOn (emitting f) o → is_bind (Some o) ≡ false
  no_bind (plain (evaluate v)) h = absurd h
  no_bind (plain (store q v)) h = absurd h
  no_bind (plain (bind s q)) h = absurd h
  no_bind (plain (call c args)) h = absurd h
  no_bind (plain (construct q n args)) h = absurd h
  no_bind (plain (destroy q n)) h = refl
  no_bind (plain (make s)) h = absurd h
  no_bind (plain (throw s t d)) h = absurd h
  no_bind (plain rethrow) h = absurd h
  no_bind (plain (enter s)) h = absurd h
  no_bind (plain leave) h = refl
  no_bind (label l) h = refl
  no_bind (jump l) h = absurd h
  no_bind (jump_zero v l) h = absurd h
  no_bind (pad o s) h = absurd h
  no_bind (jump_filter s n l) h = refl
  no_bind (free s) h = refl
  no_bind (resume s) h = refl
  no_bind (unexpected o s) h = refl
  no_bind (return result) h = absurd h

  next_no_bind : (q : ℕ) (x : Option LinearOp) → slice_get g.ops q ≡ x → carries q ≡ true → is_bind x ≡ false
  next_no_bind q None e h = refl
  next_no_bind q (Some o) e h = no_bind o (flights.form q o e h)

  -- control comes to such a place from such a one
  stays : (p q : ℕ) (o : LinearOp) → slice_get g.ops p ≡ Some o → Steps g p o q → carries q ≡ true → carries p ≡ true → fewer p ≡ true
  stays p q (plain o) e s there h = kept p (plain o) e refl h
  stays p q (label l) e (inl s) there h =
      kept p (label l) e (next_no_bind (p + 1) (slice_get g.ops (p + 1)) refl (ap carries (sym s.1) ∙ there)) h
  stays p q (label l) e (inr s) there h = absurd (cc s.1)
  stays p q (jump l) e s there h = kept p (jump l) e refl h
  stays p q (jump_zero v l) e s there h = kept p (jump_zero v l) e refl h
  stays p q (pad a b) e s there h = kept p (pad a b) e refl h
  stays p q (jump_filter a n l) e s there h = kept p (jump_filter a n l) e refl h
  stays p q (free a) e s there h = kept p (free a) e refl h
  stays p q (resume a) e s there h = kept p (resume a) e refl h
  stays p q (unexpected a b) e s there h = kept p (unexpected a b) e refl h
  stays p q (return a) e s there h = kept p (return a) e refl h

  comes : (p q : ℕ) (o : LinearOp) → slice_get g.ops p ≡ Some o → Steps g p o q → fewer q ≡ true → (fewer p ≡ true) ⊎ ((o ≡ pad (emitting f).object (emitting f).selector) × (q ≡ p + 1))
  comes p q o e s there = go (flights.comes p q o e s (carried_before q there))
    where
      go : (carries p ≡ true) ⊎ ((o ≡ pad (emitting f).object (emitting f).selector) × (q ≡ p + 1)) → (fewer p ≡ true) ⊎ ((o ≡ pad (emitting f).object (emitting f).selector) × (q ≡ p + 1))
      go (inl h) = inl (stays p q o e s (carried_before q there) h)
      go (inr h) = inr h

  not_first : (b : Bool) → (if b then false else carries 0) ≡ false
  not_first true = refl
  not_first false = flights.first

  pub fewer_flights : AreFlights f fewer
  fewer_flights = record {
    first = not_first (begins_handler g 0);
    form = λ p o e h. flights.form p o e (carried_before p h);
    resumes = λ p s e. let old = flights.resumes p s e in (kept p (resume s) e refl old.0, old.1);
    passes = λ p o s e. let old = flights.passes p o s e in (kept p (unexpected o s) e refl old.0, old.1, old.2);
    comes = comes;
    pads = flights.pads;
    entered = flights.entered;
  }

  -- a handler is none of them
  pub handlers_free : {X : Type 0} (p l s : ℕ) (q : Place) → slice_get g.ops p ≡ Some (label l) → slice_get g.ops (p + 1) ≡ Some (plain (bind s q)) → fewer p ≡ true → X
  handlers_free p l s q first second h =
      never_both (begins_handler g p) (carries p) (ap (λ x. is_handler x (slice_get g.ops (p + 1))) first ∙ ap is_bind second) h
