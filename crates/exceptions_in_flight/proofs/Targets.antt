-- What the search finds, and to which pad an unwind comes.
use Rattle.std.proofs.Common.{◌≡◌, inl, inr, ℕ, ℤ, pos, ◌==◌, true, List, [], ◌∷◌, length, Option, Some, refl, sym, ap, ◌∙◌, subst, ⊎_elim, if◌then◌else◌, arith}
use Rattle.std.proofs.lemmas.Bool.Decides.{nat_tests}
use Rattle.region_forms.specs.World.{flying, World, type_at}
use Rattle.region_forms.specs.Effect.{flies}
use Rattle.linear_forms.specs.Tables.{Cover, bare, unpadded, padded}
use Rattle.linear_forms.specs.Verdict.{Verdict, target, no_way, clean, nothing_here}
use Rattle.linear_forms.specs.Activation.{Code, Activation, Next, finishes, fault, fetch, look, sense}
use Rattle.linear_forms.specs.Search.{found_by, found_at, found_above}
use Rattle.linear_forms.specs.Unwinding.{pad_entered, unwound_by, unwound_at, unwound_above, raised_to, unwind}
use Rattle.exceptions_in_flight.specs.Targets.{cover_of, judged_by, Lets, LetsPass, StopsAt, AimsAt}
use Rattle.exceptions_in_flight.specs.Aims.{SearchesAim, AimsHaveTargets, ComesToPad, UnwindsComeToPads, FlightsComeToPads}

some_depth : (m d : ℕ) → Some m ≡ Some d → m ≡ d
some_depth m d e = cc e

module _ (code : Code) (t : Option ℕ) (d : ℕ) (a : Activation) (fs : List Activation) where
  abbrev outside : Option ℕ
  outside = found_above code t fs

  -- what is found is aimed at
  aims_by : (p : ℕ) (chain : List ℤ) (v : Verdict) → cover_of code a ≡ padded p chain → judged_by code a t chain ≡ v → found_by v (length fs) outside ≡ Some d → (outside ≡ Some d → AimsAt code t d fs) →
      AimsAt code t d (a ∷ fs)
  aims_by p chain (target n) c v e rest = inl (some_depth (length fs) d e, record { pad = p; chain = chain; covers = c; selector = n; stops = v })
  aims_by p chain no_way c v e rest = absurd (cc e)
  aims_by p chain clean c v e rest = inr (subst (LetsPass code t a) (sym c) (subst Lets (sym v) tt), rest e)
  aims_by p chain nothing_here c v e rest = inr (subst (LetsPass code t a) (sym c) (subst Lets (sym v) tt), rest e)

  aims_from : (c : Cover) → cover_of code a ≡ c → found_at code.rows (sense code a.function) c t (length fs) outside ≡ Some d → (outside ≡ Some d → AimsAt code t d fs) → AimsAt code t d (a ∷ fs)
  aims_from bare c e rest = absurd (cc e)
  aims_from unpadded c e rest = inr (subst (LetsPass code t a) (sym c) tt, rest e)
  aims_from (padded p chain) c e rest = aims_by p chain (judged_by code a t chain) c refl e rest

  -- what lets pass leads on
  finds_by : (v : Verdict) → Lets v → found_by v (length fs) outside ≡ outside
  finds_by (target n) h = absurd h
  finds_by no_way h = absurd h
  finds_by clean h = refl
  finds_by nothing_here h = refl

  finds_from : (c : Cover) → LetsPass code t a c → found_at code.rows (sense code a.function) c t (length fs) outside ≡ outside
  finds_from bare h = absurd h
  finds_from unpadded h = refl
  finds_from (padded p chain) h = finds_by (judged_by code a t chain) h

  finds_here : StopsAt code t a → length fs ≡ d → found_above code t (a ∷ fs) ≡ Some d
  finds_here h e = ap (λ c. found_at code.rows (sense code a.function) c t (length fs) outside) h.covers ∙ ap (λ v. found_by v (length fs) outside) h.stops ∙ ap (λ n. Some n) e

aims : (code : Code) (t : Option ℕ) (d : ℕ) (frames : List Activation) → found_above code t frames ≡ Some d → AimsAt code t d frames
aims code t d [] e = absurd (cc e)
aims code t d (a ∷ fs) e = aims_from code t d a fs (cover_of code a) refl e (aims code t d fs)

finds : (code : Code) (t : Option ℕ) (d : ℕ) (frames : List Activation) → AimsAt code t d frames → found_above code t frames ≡ Some d
finds code t d [] h = absurd h
finds code t d (a ∷ fs) h = ⊎_elim (λ here. finds_here code t d a fs here.1 here.0) (λ on. finds_from code t d a fs (cover_of code a) on.0 ∙ finds code t d fs on.1) h

pub searches_aim : SearchesAim
searches_aim code t d frames = record { aims = aims code t d frames; finds = finds code t d frames }

pub aims_have_targets : AimsHaveTargets
aims_have_targets code t d [] h = absurd h
aims_have_targets code t d (a ∷ fs) h = ⊎_elim
    (λ here. record { inner = []; stopping = a; outer = fs; split = refl; passed = tt; depth = here.0; pad = here.1.pad; chain = here.1.chain; covers = here.1.covers; selector = here.1.selector; stops = here.1.stops })
    (λ on.
    let rest = aims_have_targets code t d fs on.1 in
    record {
      inner = a ∷ rest.inner;
      stopping = rest.stopping;
      outer = rest.outer;
      split = ap (λ xs. a ∷ xs) rest.split;
      passed = (λ e. subst (LetsPass code t a) e on.0, rest.passed);
      depth = rest.depth;
      pad = rest.pad;
      chain = rest.chain;
      covers = rest.covers;
      selector = rest.selector;
      stops = rest.stops;
    })
    h

-- unwinding

is_equal : (m d : ℕ) → m ≡ d → (m == d) ≡ true
is_equal m d e = grind (arith, nat_tests, e)

module _ (code : Code) (d e : ℕ) (a : Activation) (fs : List Activation) (w : World) where
  abbrev t : Option ℕ
  t = type_at w e

  abbrev rest : Next
  rest = unwound_above code d e fs w

  abbrev C : Next → Type 0
  C next = ComesToPad code t d e (a ∷ fs) w next

  stops_here : length fs ≡ d → StopsAt code t a → C (unwound_above code d e (a ∷ fs) w)
  stops_here depth h = record {
    inner = [];
    call = a;
    outer = fs;
    split = refl;
    pad = h.pad;
    chain = h.chain;
    covers = h.covers;
    number = h.selector;
    why = inl (depth, h.stops);
    comes = ap (λ c. unwound_at code c d e a.function a.frame fs w rest) h.covers ∙ ap (λ v. unwound_by code v h.pad d e a.function a.frame fs w rest) h.stops
        ∙ ap (λ b. if b then pad_entered (fetch code a.function h.pad) (flying e d) h.selector a.function h.pad a.frame fs w else finishes fault w) (is_equal (length fs) d depth);
  }

  farther : ComesToPad code t d e fs w rest → C rest
  farther x = record {
    inner = a ∷ x.inner;
    call = x.call;
    outer = x.outer;
    split = ap (λ xs. a ∷ xs) x.split;
    pad = x.pad;
    chain = x.chain;
    covers = x.covers;
    number = x.number;
    why = x.why;
    comes = x.comes;
  }

  passes_by : (p : ℕ) (chain : List ℤ) (v : Verdict) → cover_of code a ≡ padded p chain → judged_by code a t chain ≡ v → Lets v → AimsAt code t d fs → ComesToPad code t d e fs w rest →
      C (unwound_by code v p d e a.function a.frame fs w rest)
  passes_by p chain (target n) c v h aimed x = absurd h
  passes_by p chain no_way c v h aimed x = absurd h
  passes_by p chain clean c v h aimed x =
      record { inner = []; call = a; outer = fs; split = refl; pad = p; chain = chain; covers = c; number = pos 0; why = inr (v, refl, aimed); comes = refl }
  passes_by p chain nothing_here c v h aimed x = farther x

  passes : (c : Cover) → cover_of code a ≡ c → LetsPass code t a c → AimsAt code t d fs → ComesToPad code t d e fs w rest → C (unwound_at code c d e a.function a.frame fs w rest)
  passes bare c h aimed x = absurd h
  passes unpadded c h aimed x = farther x
  passes (padded p chain) c h aimed x = passes_by p chain (judged_by code a t chain) c refl h aimed x

pub unwinds_come_to_pads : UnwindsComeToPads
unwinds_come_to_pads code d e [] w h = absurd h
unwinds_come_to_pads code d e (a ∷ fs) w h =
    ⊎_elim (λ here. stops_here code d e a fs w here.0 here.1) (λ on. passes code d e a fs w (cover_of code a) refl on.0 on.1 (unwinds_come_to_pads code d e fs w on.1)) h

pub flights_come_to_pads : FlightsComeToPads
flights_come_to_pads code e a fs w = record {
  raised = λ d is.
      subst (λ next. ComesToPad code (type_at w e) d e (a ∷ fs) (flies e w) next)
      (sym (ap (λ o. raised_to o e (a ∷ fs) w (λ t. unwind code (look code a.function a.place) t e a.function a.frame fs (flies e w))) is))
      (unwinds_come_to_pads code d e (a ∷ fs) (flies e w) (aims code (type_at w e) d (a ∷ fs) is));
  goes_on = λ d aimed. unwinds_come_to_pads code d e (a ∷ fs) w aimed;
}
