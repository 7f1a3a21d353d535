-- Lists of live exceptions in which one becomes another.
use Rattle.std.proofs.Common.{◌≡◌, ◌∙◌, refl, sym, ap, arith, ℕ, ◌==◌, Bool, true, false, List, [], ◌∷◌, map, Some, None, is_some}
use Rattle.std.specs.Prelude.{if◌then◌else◌}
use Rattle.std.proofs.lemmas.Bool.Decides.{nat_tests}
use Rattle.region_forms.specs.World.{Exception, Live, replaced}
use Rattle.machine_simulation.specs.Plan.{Plan}
use Rattle.machine_simulation.specs.Exceptions.{live_in, AreOnce, PlanHas}

same_number : (e : ℕ) → (e == e) ≡ true
same_number e = grind (arith, nat_tests)

pub replaced_in : (xs : List Live) (e : ℕ) (x y : Exception) → live_in xs e ≡ Some y → live_in (map (replaced e x) xs) e ≡ Some x
replaced_in [] e x y h = absurd (cc h)
replaced_in (z ∷ xs) e x y h = by (z.number == e) refl (replaced_in xs e x y)
  where
    by : (b : Bool) → (z.number == e) ≡ b → (live_in xs e ≡ Some y → live_in (map (replaced e x) xs) e ≡ Some x) →
        live_in ((if b then record { number = e; exception = x } else z) ∷ map (replaced e x) xs) e ≡ Some x
    by true is rest = ap (λ c. if c then Some x else live_in (map (replaced e x) xs) e) (same_number e)
    by false is rest = ap (λ c. if c then Some z.exception else live_in (map (replaced e x) xs) e) is ∙ rest (sym (ap (λ c. if c then Some z.exception else live_in xs e) is) ∙ h)

pub other_replaced : (xs : List Live) (e d : ℕ) (x : Exception) → (e == d) ≡ false → live_in (map (replaced e x) xs) d ≡ live_in xs d
other_replaced [] e d x h = refl
other_replaced (z ∷ xs) e d x h = by (z.number == e) refl (other_replaced xs e d x h)
  where
    by : (b : Bool) → (z.number == e) ≡ b → live_in (map (replaced e x) xs) d ≡ live_in xs d →
        live_in ((if b then record { number = e; exception = x } else z) ∷ map (replaced e x) xs) d ≡ (if z.number == d then Some z.exception else live_in xs d)
    by true is rest =
        let other : (z.number == d) ≡ false = grind (arith, nat_tests, is, h) in
        ap (λ c. if c then Some x else live_in (map (replaced e x) xs) d) h ∙ rest ∙ sym (ap (λ c. if c then Some z.exception else live_in xs d) other)
    by false is rest = ap (λ o. if z.number == d then Some z.exception else o) rest

none_replaced : (xs : List Live) (e d : ℕ) (x : Exception) → live_in xs d ≡ None → live_in (map (replaced e x) xs) d ≡ None
none_replaced xs e d x h = by (e == d) refl
  where
    none : (zs : List Live) → live_in zs e ≡ None → live_in (map (replaced e x) zs) e ≡ None
    none [] h = refl
    none (z ∷ zs) h = each (z.number == e) refl (none zs)
      where
        each : (b : Bool) → (z.number == e) ≡ b → (live_in zs e ≡ None → live_in (map (replaced e x) zs) e ≡ None) → live_in ((if b then record { number = e; exception = x } else z) ∷ map (replaced e x) zs) e ≡ None
        each true is rest = absurd (let both : Some z.exception ≡ None = sym (ap (λ c. if c then Some z.exception else live_in zs e) is) ∙ h in cc both)
        each false is rest = ap (λ c. if c then Some z.exception else live_in (map (replaced e x) zs) e) is ∙ rest (sym (ap (λ c. if c then Some z.exception else live_in zs e) is) ∙ h)

    by : (b : Bool) → (e == d) ≡ b → live_in (map (replaced e x) xs) d ≡ None
    by true is =
        let same : e ≡ d = grind (arith, nat_tests, is) in
        ap (live_in (map (replaced e x) xs)) (sym same) ∙ none xs (ap (live_in xs) same ∙ h)
    by false is = other_replaced xs e d x is ∙ h

pub once_replaced : (xs : List Live) (e : ℕ) (x : Exception) → AreOnce xs → AreOnce (map (replaced e x) xs)
once_replaced [] e x once = tt
once_replaced (z ∷ xs) e x once = by (z.number == e) refl (once_replaced xs e x once.1)
  where
    by : (b : Bool) → (z.number == e) ≡ b → AreOnce (map (replaced e x) xs) → AreOnce ((if b then record { number = e; exception = x } else z) ∷ map (replaced e x) xs)
    by true is rest =
        let same : z.number ≡ e = grind (arith, nat_tests, is) in
        (none_replaced xs e e x (ap (live_in xs) (sym same) ∙ once.0), rest)
    by false is rest = (none_replaced xs e z.number x once.0, rest)

-- the plan has the same exceptions
pub plan_replaced : (p : Plan) (e : ℕ) (x y : Exception) (lives : List Live) → live_in lives e ≡ Some y → PlanHas p lives → PlanHas p (map (replaced e x) lives)
plan_replaced p e x y lives there h = record { live = λ d. h.live d ∙ by d (e == d) refl; size = h.size; ints = h.ints }
  where
    by : (d : ℕ) (b : Bool) → (e == d) ≡ b → is_some (live_in lives d) ≡ is_some (live_in (map (replaced e x) lives) d)
    by d true is =
        let same : e ≡ d = grind (arith, nat_tests, is) in
        ap (λ k. is_some (live_in lives k)) (sym same) ∙ ap is_some there ∙ sym (ap is_some (replaced_in lives e x y there)) ∙ ap (λ k. is_some (live_in (map (replaced e x) lives) k)) same
    by d false is = sym (ap is_some (other_replaced lives e d x is))
