-- Among the places at which a function carries, those that stand behind its pads do.
use Rattle.std.proofs.Common.{◌≡◌, ◌⊎◌, inl, inr, ℕ, zero, suc, ◌+◌, ℤ, pos, Bool, true, false, List, [], ◌∷◌, map, Some, refl, sym, ap, ◌∙◌, subst, arith}
use Rattle.std.specs.Prelude.{slice_get}
use Rattle.meaning_forms.specs.Arithmetic.{int_equal}
use Rattle.region_forms.specs.Form.{TypeRow, Op, evaluate, store, bind, call, construct, destroy, make, throw, rethrow, enter, leave, RegionFunction}
use Rattle.linear_forms.specs.Linear.{LinearOp, plain, label, jump, jump_zero, pad, jump_filter, free, resume, unexpected, return}
use Rattle.linear_forms.specs.Tables.{Cover, bare, Sense, look_up}
use Rattle.linear_forms.specs.Sites.{Placed, cover_in}
use Rattle.linear_forms.specs.Unit.{emitting, placed_code, function_code}
use Rattle.linear_forms.proofs.Merging.{sites_are_right}
use Rattle.cost_paths.specs.Control.{goes_on, label_of, place_of}
use Rattle.exceptions_in_flight.specs.Carrying.{CarriesOn, Steps}
use Rattle.exceptions_in_flight.specs.Flights.{AreFlights}
use Rattle.flight_homes.specs.Homes.{AreHomes}
use Rattle.linear_invariant.specs.Phases.{Kind, opens, cleans, marks, kind_of, Phase, off, next_phase, carries_in}
use Rattle.linear_invariant.proofs.Phases.{kinds_of_code, op_in, cover_at_place, ends_part, kind_goes_on, stays_on, begins_there, ends_carry, not_forced, quiet_there}
use Rattle.linear_invariant.proofs.Comes.{LeadsOut, came_from, leads_out}
use Rattle.linear_invariant.proofs.Regions.{function_shaped}
use Rattle.linear_invariant.proofs.Filtered.{filters_carry}

-- the places of a function's operations
abbrev pub places_of : List LinearOp → ℕ → Bool
places_of ops p = carries_in off (map kind_of ops) p

kinds_same : (is : List Placed) → map kind_of (map (λ x. x.op) is) ≡ kinds_of_code is
kinds_same [] = refl
kinds_same (x ∷ xs) = ap (λ ks. kind_of x.op ∷ ks) (kinds_same xs)

none_first : (ks : List Kind) → carries_in off ks 0 ≡ false
none_first [] = refl
none_first (k ∷ ks) = refl

on_kind : (o : LinearOp) → goes_on o ≡ true → kind_goes_on (kind_of o) ≡ true
on_kind (plain (evaluate v)) e = refl
on_kind (plain (store q v)) e = refl
on_kind (plain (bind s q)) e = refl
on_kind (plain (call b args)) e = refl
on_kind (plain (construct q n args)) e = refl
on_kind (plain (destroy q n)) e = refl
on_kind (plain (make s)) e = refl
on_kind (plain (throw s t d)) e = refl
on_kind (plain rethrow) e = refl
on_kind (plain (enter s)) e = refl
on_kind (plain leave) e = refl
on_kind (label l) e = refl
on_kind (jump l) e = refl
on_kind (jump_zero v l) e = refl
on_kind (pad o s) e = refl
on_kind (jump_filter s z l) e = refl
on_kind (free s) e = refl
on_kind (resume s) e = absurd (cc e)
on_kind (unexpected o s) e = absurd (cc e)
on_kind (return r) e = refl

-- cleanups and labels go on
kind_on : (o : LinearOp) → (kind_of o ≡ cleans) ⊎ (kind_of o ≡ marks) → goes_on o ≡ true
kind_on (plain o) e = refl
kind_on (label l) e = refl
kind_on (jump l) (inl e) = absurd (cc e)
kind_on (jump l) (inr e) = absurd (cc e)
kind_on (jump_zero v l) e = refl
kind_on (pad o s) e = refl
kind_on (jump_filter s z l) e = refl
kind_on (free s) e = refl
kind_on (resume s) (inl e) = absurd (cc e)
kind_on (resume s) (inr e) = absurd (cc e)
kind_on (unexpected o s) (inl e) = absurd (cc e)
kind_on (unexpected o s) (inr e) = absurd (cc e)
kind_on (return r) (inl e) = absurd (cc e)
kind_on (return r) (inr e) = absurd (cc e)

no_pad : {X : Type 0} (a b : ℕ) (o : LinearOp) → (kind_of o ≡ cleans) ⊎ (kind_of o ≡ marks) → o ≡ pad a b → X
no_pad a b o (inl i) e = let never : opens ≡ cleans = ap kind_of (sym e) ∙ i in absurd (cc never)
no_pad a b o (inr i) e = let never : opens ≡ marks = ap kind_of (sym e) ∙ i in absurd (cc never)

-- an operation of a region that is at such a place is a cleanup
plain_cleans : (o : Op) → (ends_part (kind_of (plain o)) ≡ true) ⊎ ((kind_of (plain o) ≡ cleans) ⊎ (kind_of (plain o) ≡ marks)) → kind_of (plain o) ≡ cleans
plain_cleans (evaluate v) (inl e) = absurd (cc e)
plain_cleans (evaluate v) (inr (inl e)) = e
plain_cleans (evaluate v) (inr (inr e)) = absurd (cc e)
plain_cleans (store q v) (inl e) = absurd (cc e)
plain_cleans (store q v) (inr (inl e)) = e
plain_cleans (store q v) (inr (inr e)) = absurd (cc e)
plain_cleans (bind s q) (inl e) = absurd (cc e)
plain_cleans (bind s q) (inr (inl e)) = e
plain_cleans (bind s q) (inr (inr e)) = absurd (cc e)
plain_cleans (call b args) (inl e) = absurd (cc e)
plain_cleans (call b args) (inr (inl e)) = e
plain_cleans (call b args) (inr (inr e)) = absurd (cc e)
plain_cleans (construct q n args) (inl e) = absurd (cc e)
plain_cleans (construct q n args) (inr (inl e)) = e
plain_cleans (construct q n args) (inr (inr e)) = absurd (cc e)
plain_cleans (destroy q n) h = refl
plain_cleans (make s) (inl e) = absurd (cc e)
plain_cleans (make s) (inr (inl e)) = e
plain_cleans (make s) (inr (inr e)) = absurd (cc e)
plain_cleans (throw s t d) (inl e) = absurd (cc e)
plain_cleans (throw s t d) (inr (inl e)) = e
plain_cleans (throw s t d) (inr (inr e)) = absurd (cc e)
plain_cleans rethrow (inl e) = absurd (cc e)
plain_cleans rethrow (inr (inl e)) = e
plain_cleans rethrow (inr (inr e)) = absurd (cc e)
plain_cleans (enter s) (inl e) = absurd (cc e)
plain_cleans (enter s) (inr (inl e)) = e
plain_cleans (enter s) (inr (inr e)) = absurd (cc e)
plain_cleans leave h = refl

covered_there : (is : List Placed) (p : ℕ) (c : Cover) → cover_at_place is p ≡ Some c → cover_in is p ≡ c
covered_there [] p c e = absurd (cc e)
covered_there (x ∷ xs) zero c e = cc e
covered_there (x ∷ xs) (suc p) c e = covered_there xs p c e

-- where something carries an operation stands
record Stands (is : List Placed) (p : ℕ) : Type 0 where
  op : LinearOp
  there : op_in is p ≡ Some op

stands : (ph : Phase) (is : List Placed) (p : ℕ) → carries_in ph (kinds_of_code is) p ≡ true → Stands is p
stands ph [] p e = absurd (cc e)
stands ph (x ∷ xs) zero e = record { op = x.op; there = refl }
stands ph (x ∷ xs) (suc p) e = go (stands (next_phase ph (kind_of x.op)) xs p e)
  where
    go : Stands xs p → Stands (x ∷ xs) (suc p)
    go s = record { op = s.op; there = s.there }

module _ (f : RegionFunction) where
  abbrev ops : List LinearOp
  ops = (function_code f).ops

  abbrev is : List Placed
  is = placed_code f

  abbrev fewer : ℕ → Bool
  fewer = places_of ops

  to_kinds : (p : ℕ) → fewer p ≡ true → carries_in off (kinds_of_code is) p ≡ true
  to_kinds p e = subst (λ ks. carries_in off ks p ≡ true) (kinds_same is) e

  from_kinds : (p : ℕ) → carries_in off (kinds_of_code is) p ≡ true → fewer p ≡ true
  from_kinds p e = subst (λ ks. carries_in off ks p ≡ true) (sym (kinds_same is)) e

  from_next : (p : ℕ) → carries_in off (kinds_of_code is) (suc p) ≡ true → fewer (p + 1) ≡ true
  from_next p e = let same : suc p ≡ p + 1 = omega arith in subst (λ q. fewer q ≡ true) same (from_kinds (suc p) e)

  to_next : (p : ℕ) → fewer (p + 1) ≡ true → carries_in off (kinds_of_code is) (suc p) ≡ true
  to_next p e = let same : p + 1 ≡ suc p = omega arith in subst (λ q. carries_in off (kinds_of_code is) q ≡ true) same (to_kinds (p + 1) e)

  pub ends_there : (p : ℕ) (o : LinearOp) → slice_get ops p ≡ Some o → ends_part (kind_of o) ≡ true → fewer p ≡ true
  ends_there p o e k = from_kinds p (ends_carry off is p o (function_shaped f) e k)

  -- what is known of these places beside
  pub stays_there : (p : ℕ) (o : LinearOp) → slice_get ops p ≡ Some o → fewer p ≡ true → goes_on o ≡ true → fewer (p + 1) ≡ true
  stays_there p o e h g = from_next p (stays_on off is p o (function_shaped f) e (to_kinds p h) (on_kind o g))

  pub behind_pads : (p a b : ℕ) → slice_get ops p ≡ Some (pad a b) → fewer (p + 1) ≡ true
  behind_pads p a b e = from_next p (begins_there off is p (pad a b) (function_shaped f) e refl)

  pub quiet_places : (p : ℕ) (o : Op) → slice_get ops p ≡ Some (plain o) → fewer p ≡ true → look_up (function_code f).sites p ≡ bare
  quiet_places p o e h =
      sites_are_right.said is p ∙ covered_there is p bare (quiet_there off is p (plain o) (function_shaped f) e (to_kinds p h) (plain_cleans o (leads (leads_out off is p (plain o) (function_shaped f) e (to_kinds p h)))))
    where
      leads : (ends_part (kind_of (plain o)) ≡ true) ⊎ LeadsOut is p (plain o) → (ends_part (kind_of (plain o)) ≡ true) ⊎ ((kind_of (plain o) ≡ cleans) ⊎ (kind_of (plain o) ≡ marks))
      leads (inl i) = inl i
      leads (inr i) = inr i.is_on

  pub filters_named : (p s l : ℕ) (z : ℤ) → slice_get ops p ≡ Some (jump_filter s z l) → int_equal (pos 0) z ≡ false
  filters_named p s l z e = not_forced off is p (jump_filter s z l) (function_shaped f) e

  module _ (carries : ℕ → Bool) (flights : AreFlights f carries) where
    end_carries : (p : ℕ) (o : LinearOp) → slice_get ops p ≡ Some o → ends_part (kind_of o) ≡ true → carries p ≡ true
    end_carries p (jump_filter s z l) e h = filters_carry f carries flights p s l z e
    end_carries p (resume s) e h = (flights.resumes p s e).0
    end_carries p (unexpected o s) e h = (flights.passes p o s e).0
    end_carries p (plain (evaluate v)) e h = absurd (cc h)
    end_carries p (plain (store q v)) e h = absurd (cc h)
    end_carries p (plain (bind s q)) e h = absurd (cc h)
    end_carries p (plain (call b args)) e h = absurd (cc h)
    end_carries p (plain (construct q n args)) e h = absurd (cc h)
    end_carries p (plain (destroy q n)) e h = absurd (cc h)
    end_carries p (plain (make s)) e h = absurd (cc h)
    end_carries p (plain (throw s t d)) e h = absurd (cc h)
    end_carries p (plain rethrow) e h = absurd (cc h)
    end_carries p (plain (enter s)) e h = absurd (cc h)
    end_carries p (plain leave) e h = absurd (cc h)
    end_carries p (label l) e h = absurd (cc h)
    end_carries p (jump l) e h = absurd (cc h)
    end_carries p (jump_zero v l) e h = absurd (cc h)
    end_carries p (pad o s) e h = absurd (cc h)
    end_carries p (free s) e h = absurd (cc h)
    end_carries p (return r) e h = absurd (cc h)

    -- they carry
    carried_too : (p : ℕ) (o : LinearOp) → slice_get ops p ≡ Some o → fewer p ≡ true → carries p ≡ true
    carried_too p o e h = go (leads_out off is p o (function_shaped f) e (to_kinds p h))
      where
        come : (kind_of o ≡ cleans) ⊎ (kind_of o ≡ marks) → (carries p ≡ true) ⊎ ((o ≡ pad (emitting f).object (emitting f).selector) × (p + 1 ≡ p + 1)) → carries p ≡ true
        come k (inl i) = i
        come k (inr i) = no_pad (emitting f).object (emitting f).selector o k i.0

        go : (ends_part (kind_of o) ≡ true) ⊎ LeadsOut is p o → carries p ≡ true
        go (inl i) = end_carries p o e i
        go (inr i) =
            let next : suc p ≡ p + 1 = omega arith in
            let there : slice_get ops (p + 1) ≡ Some i.op = ap (slice_get ops) (sym next) ∙ i.there in
            come i.is_on (flights.comes p (p + 1) o e (inl (kind_on o i.is_on, refl)) (end_carries (p + 1) i.op there i.ends_it))

    carried_place : (p : ℕ) → fewer p ≡ true → carries p ≡ true
    carried_place p h = let s = stands off is p (to_kinds p h) in carried_too p s.op s.there h

    -- a jump that carries is a test
    jumps_test : (p l : ℕ) (o : LinearOp) → slice_get ops p ≡ Some o → label_of o ≡ Some l → CarriesOn (emitting f) o → fewer p ≡ true
    jumps_test p l (jump_filter s z m) e i h = ends_there p (jump_filter s z m) e refl
    jumps_test p l (jump m) e i h = absurd h
    jumps_test p l (jump_zero v m) e i h = absurd h
    jumps_test p l (plain o) e i h = absurd (cc i)
    jumps_test p l (label m) e i h = absurd (cc i)
    jumps_test p l (pad o s) e i h = absurd (cc i)
    jumps_test p l (free s) e i h = absurd (cc i)
    jumps_test p l (resume s) e i h = absurd (cc i)
    jumps_test p l (unexpected o s) e i h = absurd (cc i)
    jumps_test p l (return r) e i h = absurd (cc i)

    pad_is : (p : ℕ) (o : LinearOp) → slice_get ops p ≡ Some o → kind_of o ≡ opens → o ≡ pad (emitting f).object (emitting f).selector
    pad_is p (pad a b) e h = let i = flights.pads p a b e in ap (λ x. pad x b) i.0 ∙ ap (pad (emitting f).object) i.1
    pad_is p (plain (evaluate v)) e h = absurd (cc h)
    pad_is p (plain (store q v)) e h = absurd (cc h)
    pad_is p (plain (bind s q)) e h = absurd (cc h)
    pad_is p (plain (call b args)) e h = absurd (cc h)
    pad_is p (plain (construct q n args)) e h = absurd (cc h)
    pad_is p (plain (destroy q n)) e h = absurd (cc h)
    pad_is p (plain (make s)) e h = absurd (cc h)
    pad_is p (plain (throw s t d)) e h = absurd (cc h)
    pad_is p (plain rethrow) e h = absurd (cc h)
    pad_is p (plain (enter s)) e h = absurd (cc h)
    pad_is p (plain leave) e h = absurd (cc h)
    pad_is p (label l) e h = absurd (cc h)
    pad_is p (jump l) e h = absurd (cc h)
    pad_is p (jump_zero v l) e h = absurd (cc h)
    pad_is p (jump_filter s z l) e h = absurd (cc h)
    pad_is p (free s) e h = absurd (cc h)
    pad_is p (resume s) e h = absurd (cc h)
    pad_is p (unexpected o s) e h = absurd (cc h)
    pad_is p (return r) e h = absurd (cc h)

    comes : (p q : ℕ) (o : LinearOp) → slice_get ops p ≡ Some o → Steps (function_code f) p o q → fewer q ≡ true → (fewer p ≡ true) ⊎ ((o ≡ pad (emitting f).object (emitting f).selector) × (q ≡ p + 1))
    comes p q o e (inl s) there = go (came_from off is p o (function_shaped f) e (to_next p (subst (λ i. fewer i ≡ true) s.1 there)) (on_kind o s.0))
      where
        go : (carries_in off (kinds_of_code is) p ≡ true) ⊎ (kind_of o ≡ opens) → (fewer p ≡ true) ⊎ ((o ≡ pad (emitting f).object (emitting f).selector) × (q ≡ p + 1))
        go (inl i) = inl (from_kinds p i)
        go (inr i) = inr (pad_is p o e i, s.1)
    comes p q o e (inr s) there = go (flights.comes p q o e (inr s) (carried_place q there))
      where
        go : (carries p ≡ true) ⊎ ((o ≡ pad (emitting f).object (emitting f).selector) × (q ≡ p + 1)) → (fewer p ≡ true) ⊎ ((o ≡ pad (emitting f).object (emitting f).selector) × (q ≡ p + 1))
        go (inl i) = inl (jumps_test p s.0 o e s.1 (flights.form p o e i))
        go (inr i) = inr i

    fewer_flights : AreFlights f fewer
    fewer_flights = record {
      first = none_first (map kind_of ops);
      form = λ p o e h. flights.form p o e (carried_too p o e h);
      resumes = λ p s e. (ends_there p (resume s) e refl, (flights.resumes p s e).1);
      passes = λ p o s e. let i = flights.passes p o s e in (ends_there p (unexpected o s) e refl, i.1, i.2);
      comes = comes;
      pads = flights.pads;
      entered = flights.entered;
    }

  pub fewer_homes : (rows : List TypeRow) (senses : ℤ → Sense) (carries : ℕ → Bool) (home : ℕ → ℕ) (left : ℕ → List ℤ) → AreHomes rows senses f carries home left → AreHomes rows senses f fewer home left
  fewer_homes rows senses carries home left h = record {
    flights = fewer_flights carries h.flights;
    ends = h.ends;
    stays = λ p q o e s here next. h.stays p q o e s (carried_too carries h.flights p o e here) (carried_place carries h.flights q next);
    tests = λ p s l z e here. h.tests p s l z e (carried_too carries h.flights p (jump_filter s z l) e here);
    taken = λ p s l z e here next. h.taken p s l z e (carried_too carries h.flights p (jump_filter s z l) e here) (carried_place carries h.flights (place_of (function_code f) l) next);
    others = λ p o e here goes other. h.others p o e (carried_too carries h.flights p o e here) goes other;
    lets_on = h.lets_on;
  }
