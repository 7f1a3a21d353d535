-- What single changes make of an exception on its way, and of what is shown.
use Rattle.std.proofs.Common.{◌≡◌, ◌∙◌, refl, sym, ap, subst, ℕ, zero, suc, ◌-◌, ◌==◌, nat_eq, slice_set, Bool, true, false, cond, ◌||◌, List, [], ◌∷◌, ◌++◌, Option, Some, ◌⊎◌, inl, inr, pos, negsuc, arith}
use Rattle.std.proofs.lemmas.Bool.Decides.{nat_tests}
use Rattle.run_items.specs.declared.item.Item.{Item}
use Rattle.run_items.specs.declared.item.Item.TheVariants as items
use Rattle.caught_stack.specs.declared.header.Header.{Header}
use Rattle.caught_stack.specs.Begin.{begun_on, one_more}
use Rattle.caught_stack.specs.Caught.{Caught}
use Rattle.caught_stack.specs.End.{ended_on, with_count}
use Rattle.caught_stack.specs.Exceptions.{Exceptions}
use Rattle.caught_stack.specs.Live.{header_of}
use Rattle.caught_stack.proofs.Headers.{header_kept}
use Rattle.cxa_runtime.specs.declared.object.Object.{Object}
use Rattle.cxa_runtime.specs.Catch.{entered}
use Rattle.cxa_runtime.specs.World.{World}
use Rattle.runtime_invariant.specs.Aims.{TravelsFrom, IsOnItsWay, is_entered}

-- an exception is on its way still, or it was shown that it is entered
abbrev pub Stays : ℕ → Header → World → Type 0
Stays slot h w = IsOnItsWay slot h w.exceptions ⊎ (is_entered h.number w.shown ≡ true)

-- ---- what is shown

pub entered_both : (n : ℕ) (a b : List Item) → is_entered n (a ++ b) ≡ (is_entered n a || is_entered n b)
entered_both n [] b = refl
entered_both n (items.Enter k ∷ a) b = by (k == n) (entered_both n a b)
  where
    by : (t : Bool) → is_entered n (a ++ b) ≡ (is_entered n a || is_entered n b) → (t || is_entered n (a ++ b)) ≡ ((t || is_entered n a) || is_entered n b)
    by true rest = refl
    by false rest = rest
entered_both n (items.Line k ∷ a) b = entered_both n a b
entered_both n (items.Make k ∷ a) b = entered_both n a b
entered_both n (items.Foreign k j t ∷ a) b = entered_both n a b
entered_both n (items.Leave k ∷ a) b = entered_both n a b
entered_both n (items.Destroy k ∷ a) b = entered_both n a b
entered_both n (items.Free k ∷ a) b = entered_both n a b
entered_both n (items.Clean j t ∷ a) b = entered_both n a b

same_number : (n : ℕ) → (n == n) ≡ true
same_number n = grind (arith, nat_tests)

or_true : (b : Bool) → (b || true) ≡ true
or_true true = refl
or_true false = refl

entered_last : (n : ℕ) (shown : List Item) → is_entered n (shown ++ items.Enter n ∷ []) ≡ true
entered_last n shown = entered_both n shown (items.Enter n ∷ []) ∙ ap (λ t. is_entered n shown || (t || false)) (same_number n) ∙ or_true (is_entered n shown)

-- ---- headers

different : (s slot : ℕ) → (s ≡ slot → ⊥) → nat_eq s slot ≡ false
different s slot apart = by (nat_eq s slot) refl
  where
    by : (b : Bool) → nat_eq s slot ≡ b → nat_eq s slot ≡ false
    by true e = absurd (apart (grind (arith, nat_tests, e)))
    by false e = e

-- the header of another slot is set
pub other_set : (slot : ℕ) (h : Header) (e : Exceptions) (s : ℕ) (new : Option Header) → (s ≡ slot → ⊥) → IsOnItsWay slot h e → IsOnItsWay slot h (record e { live = slice_set e.live s new })
other_set slot h e s new apart f = record { there = header_kept e.live s slot new (different s slot apart) ∙ f.there; thrown = f.thrown; travels = f.travels }

-- what else changes of what is caught and uncaught
pub other_caught : (slot : ℕ) (h : Header) (e : Exceptions) (caught : Caught) (uncaught : ℕ) → TravelsFrom slot caught → IsOnItsWay slot h e → IsOnItsWay slot h (record e { caught = caught; uncaught = uncaught })
other_caught slot h e caught uncaught g f = record { there = f.there; thrown = f.thrown; travels = g }

-- ---- handlers

begun_travels : (slot s : ℕ) (caught : Caught) → (s ≡ slot → ⊥) → TravelsFrom slot caught → TravelsFrom slot (begun_on s caught)
begun_travels slot s [] apart g = (λ e. absurd (apart e), tt)
begun_travels slot s ((top, n) ∷ more) apart g = by (top == s) refl
  where
    by : (b : Bool) → (top == s) ≡ b → TravelsFrom slot (cond b ((top, one_more n) ∷ more) ((s, pos 1) ∷ (top, n) ∷ more))
    by true same = (λ e. absurd (apart (grind (arith, nat_tests, same, e))), g.1)
    by false same = (λ e. absurd (apart e), g)

-- the handler of another exception, or one that travels already, is left
pub ended_travels : (slot : ℕ) (caught : Caught) → TravelsFrom slot caught → TravelsFrom slot (ended_on caught).1
ended_travels slot [] g = tt
ended_travels slot ((s, pos zero) ∷ more) g = g.1
ended_travels slot ((s, pos (suc zero)) ∷ more) g = g.1
ended_travels slot ((s, pos (suc (suc n))) ∷ more) g =
    let count : suc n ≡ suc (suc n) - 1 = omega arith in
    subst (λ k. TravelsFrom slot (with_count s (pos k) more)) count (λ e. absurd (let none : false ≡ true = g.0 e in cc none), g.1)
ended_travels slot ((s, negsuc zero) ∷ more) g = g.1
ended_travels slot ((s, negsuc (suc n)) ∷ more) g = (λ e. refl, g.1)

-- ---- an exception is entered

pub stays_entered : (slot : ℕ) (h : Header) (o : Object) (w : World) → header_of w.exceptions.live o.slot ≡ Some o.header → IsOnItsWay slot h w.exceptions → Stays slot h (entered o w)
stays_entered slot h o w at f = by (nat_eq o.slot slot) refl
  where
    by : (b : Bool) → nat_eq o.slot slot ≡ b → Stays slot h (entered o w)
    by true e =
        let same : o.slot ≡ slot = grind (arith, nat_tests, e) in
        let headers : Some o.header ≡ Some h = sym at ∙ ap (header_of w.exceptions.live) same ∙ f.there in
        let one : o.header ≡ h = cc headers in
        inr (ap (λ (x : Header). is_entered h.number (w.shown ++ items.Enter x.number ∷ [])) one ∙ entered_last h.number w.shown)
    by false e =
        let apart : o.slot ≡ slot → ⊥ = λ same. grind (arith, nat_tests, e, same) in
        inl (record { there = f.there; thrown = f.thrown; travels = begun_travels slot o.slot w.exceptions.caught apart f.travels })
