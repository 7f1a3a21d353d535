-- What open calls keep as the world changes, and what none of them holds.
use Rattle.std.proofs.Common.{◌≡◌, ◌⊎◌, inl, inr, ℕ, ◌≤◌, Bool, true, false, ◌==◌, List, [], ◌∷◌, ◌++◌, length, Option, Some, None, refl, sym, ap, ◌∙◌, subst, if◌then◌else◌, arith}
use Rattle.std.specs.Prelude.{⊤, ◌||◌, ◌<◌}
use Rattle.std.specs.List.{AllByRecursion}
use Rattle.std.proofs.lemmas.Bool.Decides.{nat_tests}
use Rattle.meaning_forms.specs.Class.{contains}
use Rattle.region_forms.specs.Caught.{Entry}
use Rattle.region_forms.specs.Lives.{is_being_built, can_travel}
use Rattle.region_forms.specs.World.{Word, nothing, number_word, address_word, flying, unwinding, World, exception_at, exception_type}
use Rattle.linear_forms.specs.Stub.{Function}
use Rattle.linear_forms.specs.Activation.{Code, Activation}
use Rattle.exceptions_in_flight.specs.Targets.{AimsAt}
use Rattle.flight_homes.specs.Homes.{is_one_of}
use Rattle.flight_homes.specs.Keeps.{Carrying, Carried, carried, flying_in, destroyed_in, TravelsAgain}
use Rattle.linear_invariant.specs.Held.{takes_over, carried_below, NoneHolds}
use Rattle.linear_invariant.specs.Handled.{Unhandled, IsGone}
use Rattle.linear_invariant.specs.Calls.{IsOther, Marks, OnItsWay, WordGoes, FlightGoes, Waits, CallKeeps, CallsKeep}
use Rattle.linear_invariant.proofs.Lists.{other_way}
use Rattle.linear_invariant.proofs.Worlds.{But, Changes, still_can, Quiet, quiet_changes}

or_none : (b c : Bool) → b ≡ false → c ≡ false → (b || c) ≡ false
or_none true c h i = absurd (cc h)
or_none false c h i = i

pub neither : (b c : Bool) → (b || c) ≡ false → (b ≡ false) × (c ≡ false)
neither true c h = absurd (cc h)
neither false c h = (refl, h)

-- the exceptions of a list, apart from one
pub all_but : (x : ℕ) (xs : List ℕ) → contains xs x ≡ false → AllByRecursion (But x) xs
all_but x [] h = tt
all_but x (y ∷ ys) h = let both = neither (y == x) (contains ys x) h in (both.0, all_but x ys both.1)

pub none_of : (x : ℕ) (xs : List ℕ) → AllByRecursion (But x) xs → contains xs x ≡ false
none_of x [] h = refl
none_of x (y ∷ ys) h = or_none (y == x) (contains ys x) h.0 (none_of x ys h.1)

pub each : (P : ℕ → Type 0) → ((e : ℕ) → P e) → (xs : List ℕ) → AllByRecursion P xs
each P h [] = tt
each P h (y ∷ ys) = (h y, each P h ys)

module _ (k : Carrying) where
  -- each exception that open calls hold is one of some
  abbrev pub Spared : (P : ℕ → Type 0) → Option Function → List Activation → Type 0
  Spared P f [] = ⊤
  Spared P f (a ∷ fs) = AllByRecursion P (flying_in (carried_below f k a)) × AllByRecursion P (destroyed_in a.function a.frame) × Spared P (Some a.function) fs

  pub all_spared : (P : ℕ → Type 0) → ((e : ℕ) → P e) → (f : Option Function) (fs : List Activation) → Spared P f fs
  all_spared P h f [] = tt
  all_spared P h f (a ∷ fs) = (each P h (flying_in (carried_below f k a)), each P h (destroyed_in a.function a.frame), all_spared P h (Some a.function) fs)

  pub others_spared : (x : ℕ) (f : Option Function) (fs : List Activation) → NoneHolds k f fs x → Spared (But x) f fs
  others_spared x f [] h = tt
  others_spared x f (a ∷ fs) h = (all_but x (flying_in (carried_below f k a)) h.0, all_but x (destroyed_in a.function a.frame) h.1, others_spared x (Some a.function) fs h.2)

  pub spared_none : (x : ℕ) (f : Option Function) (fs : List Activation) → Spared (But x) f fs → NoneHolds k f fs x
  spared_none x f [] h = tt
  spared_none x f (a ∷ fs) h = (none_of x (flying_in (carried_below f k a)) h.0, none_of x (destroyed_in a.function a.frame) h.1, spared_none x (Some a.function) fs h.2)

module _ (code : Code) (k : Carrying) (marks : Marks) where
  module _ (P : ℕ → Type 0) (w v : World) (ch : Changes P w v) where
    flight_goes : (a : Activation) (outer : List Activation) (c : Carried) (e d : ℕ) → P e → OnItsWay code a outer c e d w → OnItsWay code a outer c e d v
    flight_goes a outer c e d own h = record {
      can = still_can w v e same h.can;
      apart = h.apart;
      again = ch.again e own h.again;
      selector = h.selector;
      number = h.number;
      goes = by h.goes;
    }
      where
        same : exception_at v e ≡ exception_at w e
        same = ch.same e own h.can

        by : ((is_one_of h.selector c.left ≡ true) × (d ≡ length outer)) ⊎ (IsOther h.selector c.left × AimsAt code (exception_type (exception_at w e)) d (record { function = a.function; place = c.home; frame = a.frame } ∷ outer)) →
            ((is_one_of h.selector c.left ≡ true) × (d ≡ length outer)) ⊎ (IsOther h.selector c.left × AimsAt code (exception_type (exception_at v e)) d (record { function = a.function; place = c.home; frame = a.frame } ∷ outer))
        by (inl here) = inl here
        by (inr aims) = inr (aims.0, subst (λ y. AimsAt code (exception_type y) d (record { function = a.function; place = c.home; frame = a.frame } ∷ outer)) (sym same) aims.1)

    pub word_goes : (a : Activation) (outer : List Activation) (c : Carried) (word : Word) → AllByRecursion P (elim word [ flying e d ↦ e ∷ [] | _ ↦ [] ]) → WordGoes marks code a outer c word w → WordGoes marks code a outer c word v
    word_goes a outer c (flying e d) own h = (flight_goes a outer c e d own.0 h.0, h.1)
    word_goes a outer c (unwinding n) own h = h
    word_goes a outer c nothing own h = h
    word_goes a outer c (number_word n) own h = h
    word_goes a outer c (address_word q) own h = h

    carried_goes : (a : Activation) (outer : List Activation) (o : Option Carried) → AllByRecursion P (flying_in o) → FlightGoes marks code a outer o w → FlightGoes marks code a outer o v
    carried_goes a outer None own h = tt
    carried_goes a outer (Some c) own h = word_goes a outer c c.word own h

    pub gone_kept : (xs : List ℕ) → AllByRecursion P xs → AllByRecursion (IsGone w) xs → AllByRecursion (IsGone v) xs
    gone_kept [] own h = tt
    gone_kept (e ∷ xs) own h = (ch.gone e own.0 h.0, gone_kept xs own.1 h.1)

    pub call_kept : (f : Option Function) (a : Activation) (outer : List Activation) → AllByRecursion P (flying_in (carried_below f k a)) → AllByRecursion P (destroyed_in a.function a.frame) →
        CallKeeps code k marks f a outer w → CallKeeps code k marks f a outer v
    call_kept f a outer own gone h = record {
      forgets = h.forgets;
      carries = carried_goes a outer (carried_below f k a) own h.carries;
      gone = gone_kept (destroyed_in a.function a.frame) gone h.gone;
      slots = h.slots;
      waits = h.waits;
    }

    pub calls_kept : (f : Option Function) (fs : List Activation) → Spared k P f fs → CallsKeep code k marks f fs w → CallsKeep code k marks f fs v
    calls_kept f [] own h = tt
    calls_kept f (a ∷ fs) own h = (call_kept f a fs own.0 own.1 h.0, calls_kept (Some a.function) fs own.2 h.1)

  -- where nothing is changed of exceptions, all is kept
  pub calls_quiet : (w v : World) (f : Option Function) (fs : List Activation) → Quiet w v → CallsKeep code k marks f fs w → CallsKeep code k marks f fs v
  calls_quiet w v f fs q h = calls_kept (λ e. ⊤) w v (quiet_changes (λ e. ⊤) w v q) f fs (all_spared k (λ e. ⊤) (λ e. tt) f fs) h

  -- What is neither on its way nor gone is held by none.
  module _ (w : World) (P : ℕ → Type 0) (flies : (i : ℕ) → can_travel w i ≡ true → TravelsAgain i w.caught → P i) (gone : (i : ℕ) → IsGone w i → P i) where
    word_spared : (a : Activation) (outer : List Activation) (c : Carried) (word : Word) → WordGoes marks code a outer c word w → AllByRecursion P (elim word [ flying e d ↦ e ∷ [] | _ ↦ [] ])
    word_spared a outer c (flying e d) h = (flies e h.0.can h.0.again, tt)
    word_spared a outer c (unwinding n) h = tt
    word_spared a outer c nothing h = tt
    word_spared a outer c (number_word n) h = tt
    word_spared a outer c (address_word q) h = tt

    flight_spared : (a : Activation) (outer : List Activation) (o : Option Carried) → FlightGoes marks code a outer o w → AllByRecursion P (flying_in o)
    flight_spared a outer None h = tt
    flight_spared a outer (Some c) h = word_spared a outer c c.word h

    gone_spared : (xs : List ℕ) → AllByRecursion (IsGone w) xs → AllByRecursion P xs
    gone_spared [] h = tt
    gone_spared (e ∷ xs) h = (gone e h.0, gone_spared xs h.1)

    pub spared : (f : Option Function) (fs : List Activation) → CallsKeep code k marks f fs w → Spared k P f fs
    spared f [] h = tt
    spared f (a ∷ fs) h = (flight_spared a fs (carried_below f k a) h.0.carries, gone_spared (destroyed_in a.function a.frame) h.0.gone, spared (Some a.function) fs h.1)

  module _ (w : World) (f : Option Function) (fs : List Activation) (h : CallsKeep code k marks f fs w) where
    -- so it is with an exception that is being built
    pub building_held : (e : ℕ) → is_being_built w e ≡ true → can_travel w e ≡ false → NoneHolds k f fs e
    building_held e built waits = spared_none k e f fs (spared w (But e) flies gone f fs h)
      where
        flies : (i : ℕ) → can_travel w i ≡ true → TravelsAgain i w.caught → (i == e) ≡ false
        flies i can again = go (i == e) refl
          where
            go : (b : Bool) → (i == e) ≡ b → b ≡ false
            go true same = let is : i ≡ e = grind (arith, nat_tests, same) in let never : true ≡ false = sym can ∙ (ap (can_travel w) is ∙ waits) in absurd (cc never)
            go false same = refl

        gone : (i : ℕ) → IsGone w i → (i == e) ≡ false
        gone i g = go (i == e) refl
          where
            go : (b : Bool) → (i == e) ≡ b → b ≡ false
            go true same = let is : i ≡ e = grind (arith, nat_tests, same) in let never : true ≡ false = sym built ∙ (ap (is_being_built w) (sym is) ∙ g.built) in absurd (cc never)
            go false same = refl

    -- with one that is new
    pub new_held : (e : ℕ) → w.last_number < e → ((i : ℕ) → can_travel w i ≡ true → i ≤ w.last_number) → NoneHolds k f fs e
    new_held e more given = spared_none k e f fs (spared w (But e) (λ i can again. let le = given i can in grind (arith, nat_tests, le, more)) (λ i g. let le = g.given in grind (arith, nat_tests, le, more)) f fs h)

    -- and with the newest that is handled, where it does not travel again
    pub newest_held : (x : Entry) (xs : List Entry) → w.caught ≡ x ∷ xs → x.again ≡ false → NoneHolds k f fs x.number
    newest_held x xs e stays = spared_none k x.number f fs (spared w (But x.number) flies gone f fs h)
      where
        flies : (i : ℕ) → can_travel w i ≡ true → TravelsAgain i w.caught → (i == x.number) ≡ false
        flies i can again = go (i == x.number) refl (subst (TravelsAgain i) e again)
          where
            go : (b : Bool) → (i == x.number) ≡ b → TravelsAgain i (x ∷ xs) → b ≡ false
            go true same t = let is : x.number ≡ i = grind (arith, nat_tests, same) in let never : true ≡ false = sym (t.0 is) ∙ stays in absurd (cc never)
            go false same t = refl

        gone : (i : ℕ) → IsGone w i → (i == x.number) ≡ false
        gone i g = let there : Unhandled i (x ∷ xs) = subst (Unhandled i) e g.unhandled in other_way x.number i there.0

  -- A call to which an unwind comes, with what is known of the exception there.
  pub record Reached (e : ℕ) (w : World) (call : Activation) (outer : List Activation) : Type 0 where
    pub below : Option Function
    pub own : CallKeeps code k marks below call outer w
    pub rest : CallsKeep code k marks (Some call.function) outer w
    pub apart : contains (destroyed_in call.function call.frame) e ≡ false
    pub free : NoneHolds k (Some call.function) outer e

  inside : (e : ℕ) (w : World) (call : Activation) (outer inner : List Activation) (f : Function) (fs : List Activation) → fs ≡ inner ++ call ∷ outer → CallsKeep code k marks (Some f) fs w → NoneHolds k (Some f) fs e →
      Reached e w call outer
  inside e w call outer [] f fs s h n =
      let hs = subst (λ xs. CallsKeep code k marks (Some f) xs w) s h in
      let ns = subst (λ xs. NoneHolds k (Some f) xs e) s n in
      record { below = Some f; own = hs.0; rest = hs.1; apart = ns.1; free = ns.2 }
  inside e w call outer (b ∷ inner) f fs s h n =
      let hs = subst (λ xs. CallsKeep code k marks (Some f) xs w) s h in
      let ns = subst (λ xs. NoneHolds k (Some f) xs e) s n in
      inside e w call outer inner b.function (inner ++ call ∷ outer) refl hs.1 ns.2

  pub reached : (e : ℕ) (w : World) (call : Activation) (outer inner : List Activation) (f : Option Function) (a : Activation) (fs : List Activation) → a ∷ fs ≡ inner ++ call ∷ outer →
      CallKeeps code k marks f a fs w → CallsKeep code k marks (Some a.function) fs w → contains (destroyed_in a.function a.frame) e ≡ false → NoneHolds k (Some a.function) fs e → Reached e w call outer
  reached e w call outer [] f a fs s own rest apart free =
      let first : a ≡ call = cc s in
      let others : fs ≡ outer = cc s in
      subst (λ c. Reached e w c outer) first (subst (λ xs. Reached e w a xs) others (record { below = f; own = own; rest = rest; apart = apart; free = free }))
  reached e w call outer (b ∷ inner) f a fs s own rest apart free =
      let others : fs ≡ inner ++ call ∷ outer = cc s in
      inside e w call outer inner a.function fs others rest free

  -- the newest call begins to wait
  carries_below : (a : Activation) (fs : List Activation) (w : World) (b : Bool) (c : Option Carried) → FlightGoes marks code a fs c w → FlightGoes marks code a fs (if b then None else c) w
  carries_below a fs w true c h = tt
  carries_below a fs w false c h = h

  pub waits_now : (g : Function) (a : Activation) (fs : List Activation) (w : World) → Waits code (Some g) a → CallKeeps code k marks None a fs w → CallKeeps code k marks (Some g) a fs w
  waits_now g a fs w waits h = record {
    forgets = h.forgets;
    carries = carries_below a fs w (takes_over (Some g)) (carried k a) h.carries;
    gone = h.gone;
    slots = h.slots;
    waits = waits;
  }
