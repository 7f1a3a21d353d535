-- What a test of an exception says, where it holds: that the exception is live, and more.
use Rattle.std.proofs.Common.{◌≡◌, ◌∙◌, refl, sym, ap, arith, ℕ, ◌^◌, ◌<◌, ◌==◌, ◌&&◌, ◌||◌, Bool, true, false, List, [], ◌∷◌, Some}
use Rattle.std.specs.Prelude.{not, if◌then◌else◌}
use Rattle.std.proofs.lemmas.Bool.Decides.{nat_tests}
use Rattle.meaning_forms.specs.Class.{some_of, contains}
use Rattle.region_forms.specs.Caught.{Entry}
use Rattle.region_forms.specs.World.{World, Exception, building, native, foreign, exception_at}
use Rattle.region_forms.specs.Lives.{is_live, is_built, is_being_built, can_travel, is_on_top, may_enter}
use Rattle.linear_forms.specs.Activation.{Activation}
use Rattle.machine_simulation.specs.Exceptions.{destroyed, live_in}
use Rattle.machine_simulation.proofs.LiveThere.{live_there, built_there}
use Rattle.machine_exceptions.specs.Enters.{handlers_of, IsThrown, MayEnter}

-- ---- tests

pub both_hold : (a b : Bool) → (a && b) ≡ true → (a ≡ true) × (b ≡ true)
both_hold true b h = (refl, h)
both_hold false b h = absurd (cc h)

pub not_so : (b : Bool) → not b ≡ true → b ≡ false
not_so false h = refl
not_so true h = absurd (cc h)

-- ---- exceptions that are being built

unbuilt : (x : Exception) → is_built x ≡ false → x ≡ building
unbuilt building h = refl
unbuilt (native t d k) h = absurd (cc h)
unbuilt (foreign k t) h = absurd (cc h)

-- one that is being built
pub building_there : (v : World) (e : ℕ) → is_being_built v e ≡ true → live_in v.live e ≡ Some building
building_there v e h =
    let two = both_hold (is_live v e) (not (is_built (exception_at v e))) h in
    live_there v.live e two.0 ∙ ap (λ x. Some x) (unbuilt (exception_at v e) (not_so (is_built (exception_at v e)) two.1))

-- ---- an exception that may be entered

abbrev pub is_handled : List Entry → ℕ → Bool
is_handled [] e = false
is_handled (x ∷ xs) e = if x.number == e then true else is_handled xs e

abbrev pub is_in_front : List Entry → ℕ → Bool
is_in_front [] e = true
is_in_front (x ∷ xs) e = if x.number == e then true else not (is_handled xs e)

handled_alike : (xs : List Entry) (e : ℕ) → some_of (λ y. y.number == e) xs ≡ is_handled xs e
handled_alike [] e = refl
handled_alike (x ∷ xs) e = by (x.number == e) (handled_alike xs e)
  where
    by : (b : Bool) → some_of (λ y. y.number == e) xs ≡ is_handled xs e → (b || some_of (λ y. y.number == e) xs) ≡ (if b then true else is_handled xs e)
    by true same = refl
    by false same = same

in_front : (xs : List Entry) (e : ℕ) → is_on_top e xs ≡ true → is_in_front xs e ≡ true
in_front [] e h = refl
in_front (x ∷ xs) e h = by (x.number == e) h
  where
    by : (b : Bool) → (b || not (some_of (λ y. y.number == e) xs)) ≡ true → (if b then true else not (is_handled xs e)) ≡ true
    by true h = refl
    by false h = sym (ap not (handled_alike xs e)) ∙ h

thrown_where : (x : Exception) → is_built x ≡ true → IsThrown x
thrown_where building h = absurd (cc h)
thrown_where (native t d k) h = tt
thrown_where (foreign k t) h = tt

pub record CanEnter (fs : List Activation) (v : World) (e : ℕ) : Type 0 where
  pub exception : Exception
  pub live : live_in v.live e ≡ Some exception
  pub thrown : IsThrown exception
  pub whole : contains (destroyed fs) e ≡ false
  pub travels : 0 < v.uncaught
  pub few : handlers_of v.caught e < 2 ^ 62
  pub front : is_in_front v.caught e ≡ true

pub can_enter : (fs : List Activation) (v : World) (e : ℕ) → MayEnter fs v e → may_enter v e ≡ true → CanEnter fs v e
can_enter fs v e ok may =
    let two = both_hold (can_travel v e) (not (v.uncaught == 0) && is_on_top e v.caught) may in
    let more = both_hold (not (v.uncaught == 0)) (is_on_top e v.caught) two.1 in
    let some : (v.uncaught == 0) ≡ false = not_so (v.uncaught == 0) more.0 in
    record {
      exception = exception_at v e;
      live = built_there v.live e two.0;
      thrown = thrown_where (exception_at v e) two.0;
      whole = ok.whole;
      travels = grind (arith, nat_tests, some);
      few = ok.few;
      front = in_front v.caught e more.1;
    }
