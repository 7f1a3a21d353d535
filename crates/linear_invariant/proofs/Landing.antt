-- An unwind that comes to a landing pad keeps what the open calls keep.
use Rattle.std.proofs.Common.{◌≡◌, ◌⊎◌, inl, inr, ℕ, zero, suc, ◌+◌, ℤ, pos, Bool, true, false, ◌==◌, List, [], ◌∷◌, length, Option, Some, None, refl, sym, ap, ◌∙◌, subst, if◌then◌else◌, arith}
use Rattle.std.proofs.lemmas.Bool.Decides.{nat_tests}
use Rattle.region_forms.specs.Lives.{can_travel}
use Rattle.region_forms.specs.World.{Word, number_word, flying, unwinding, with_slot, Frame, World, type_at}
use Rattle.linear_forms.specs.Linear.{LinearOp, plain, label, jump, jump_zero, pad, jump_filter, free, resume, unexpected, return}
use Rattle.linear_forms.specs.Tables.{Cover, bare, unpadded, padded}
use Rattle.linear_forms.specs.Verdict.{target, clean}
use Rattle.linear_forms.specs.Stub.{Function, compiled, end_catch, terminating, call_unexpected, stub_cover}
use Rattle.linear_forms.specs.Activation.{Code, Activation, compiled_op, fetch, look, at}
use Rattle.linear_forms.specs.Unwinding.{pad_entered}
use Rattle.exceptions_in_flight.specs.Targets.{judged_by, Lets, LetsPass, StopsAt, AimsAt}
use Rattle.flight_homes.specs.Homes.{is_one_of, GoesOnAs}
use Rattle.flight_homes.specs.Keeps.{Carrying, Carried, TravelsAgain}
use Rattle.linear_invariant.specs.Handled.{WorldKeeps}
use Rattle.linear_invariant.specs.Calls.{IsOther, Marks, WordGoes, FlightGoes, CallKeeps, CallsKeep}
use Rattle.linear_invariant.specs.Code.{CodeCarries}
use Rattle.linear_invariant.proofs.Calls.{Reached}
use Rattle.linear_invariant.proofs.Tops.{called, WordForgets, slot_forgets, number_forgets, unwinding_forgets, object_forgets, Goes, top_goes}

-- the slots of a pad behind it
pub pad_object : (o s : ℕ) (word number : Word) (x : Frame) → (s == o) ≡ false → (with_slot s number (with_slot o word x)).slots o ≡ word
pad_object o s word number x apart =
    let self : (o == o) ≡ true = grind (arith, nat_tests) in
    ap (λ b. if b then number else (if o == o then word else x.slots o)) apart ∙ ap (λ b. if b then word else x.slots o) self

pad_selector : (o s : ℕ) (word number : Word) (x : Frame) → (with_slot s number (with_slot o word x)).slots s ≡ number
pad_selector o s word number x =
    let self : (s == s) ≡ true = grind (arith, nat_tests) in
    ap (λ b. if b then number else (with_slot o word x).slots s) self

-- the pads of the runtime's own functions
pub catch_pads : (p q : ℕ) (chain : List ℤ) → stub_cover end_catch p ≡ padded q chain → (4 ≡ q) × (pos 0 ∷ [] ≡ chain)
catch_pads zero q chain e = absurd (cc e)
catch_pads (suc zero) q chain e = (cc e, cc e)
catch_pads (suc (suc zero)) q chain e = absurd (cc e)
catch_pads (suc (suc (suc zero))) q chain e = absurd (cc e)
catch_pads (suc (suc (suc (suc zero)))) q chain e = absurd (cc e)
catch_pads (suc (suc (suc (suc (suc zero))))) q chain e = absurd (cc e)
catch_pads (suc (suc (suc (suc (suc (suc zero)))))) q chain e = absurd (cc e)
catch_pads (suc (suc (suc (suc (suc (suc (suc p))))))) q chain e = absurd (cc e)

abbrev pub PassingPads : ℕ → List ℤ → Type 0
PassingPads q chain = ((3 ≡ q) × (pos 1 ∷ pos 0 ∷ [] ≡ chain)) ⊎ ((14 ≡ q) × (pos 0 ∷ [] ≡ chain))

pub passing_pads : (p q : ℕ) (chain : List ℤ) → stub_cover call_unexpected p ≡ padded q chain → PassingPads q chain
passing_pads zero q chain e = absurd (cc e)
passing_pads (suc zero) q chain e = inl (cc e, cc e)
passing_pads (suc (suc zero)) q chain e = absurd (cc e)
passing_pads (suc (suc (suc zero))) q chain e = absurd (cc e)
passing_pads (suc (suc (suc (suc zero)))) q chain e = absurd (cc e)
passing_pads (suc (suc (suc (suc (suc zero))))) q chain e = absurd (cc e)
passing_pads (suc (suc (suc (suc (suc (suc zero)))))) q chain e = absurd (cc e)
passing_pads (suc (suc (suc (suc (suc (suc (suc zero))))))) q chain e = absurd (cc e)
passing_pads (suc (suc (suc (suc (suc (suc (suc (suc zero)))))))) q chain e = absurd (cc e)
passing_pads (suc (suc (suc (suc (suc (suc (suc (suc (suc zero))))))))) q chain e = absurd (cc e)
passing_pads (suc (suc (suc (suc (suc (suc (suc (suc (suc (suc zero)))))))))) q chain e = inr (cc e, cc e)
passing_pads (suc (suc (suc (suc (suc (suc (suc (suc (suc (suc (suc zero))))))))))) q chain e = absurd (cc e)
passing_pads (suc (suc (suc (suc (suc (suc (suc (suc (suc (suc (suc (suc zero)))))))))))) q chain e = absurd (cc e)
passing_pads (suc (suc (suc (suc (suc (suc (suc (suc (suc (suc (suc (suc (suc zero))))))))))))) q chain e = inr (cc e, cc e)
passing_pads (suc (suc (suc (suc (suc (suc (suc (suc (suc (suc (suc (suc (suc (suc zero)))))))))))))) q chain e = absurd (cc e)
passing_pads (suc (suc (suc (suc (suc (suc (suc (suc (suc (suc (suc (suc (suc (suc (suc zero))))))))))))))) q chain e = absurd (cc e)
passing_pads (suc (suc (suc (suc (suc (suc (suc (suc (suc (suc (suc (suc (suc (suc (suc (suc zero)))))))))))))))) q chain e = absurd (cc e)
passing_pads (suc (suc (suc (suc (suc (suc (suc (suc (suc (suc (suc (suc (suc (suc (suc (suc (suc zero))))))))))))))))) q chain e = absurd (cc e)
passing_pads (suc (suc (suc (suc (suc (suc (suc (suc (suc (suc (suc (suc (suc (suc (suc (suc (suc (suc p)))))))))))))))))) q chain e = absurd (cc e)

pub no_pads : (p q : ℕ) (chain : List ℤ) → stub_cover terminating p ≡ padded q chain → ⊥
no_pads zero q chain e = cc e
no_pads (suc zero) q chain e = cc e
no_pads (suc (suc p)) q chain e = cc e

module _ (marks : Marks) (code : Code) (k : Carrying) (c : CodeCarries code k) where
  -- why an unwind comes to a pad: it is the target, with the number of its filter, or a cleanup, and the target is farther out
  abbrev pub Why : Activation → List Activation → Option ℕ → ℕ → List ℤ → ℤ → Type 0
  Why a outer t d chain z = ((length outer ≡ d) × (judged_by code a t chain ≡ target z)) ⊎ ((judged_by code a t chain ≡ clean) × (z ≡ pos 0) × AimsAt code t d outer)

  module _ (n p q : ℕ) (x y : Frame) (outer : List Activation) (t : Option ℕ) (d : ℕ) (chain : List ℤ) (z : ℤ) (covers : code.cover_at n p ≡ padded q chain) where
    abbrev home : ℕ
    home = k.home n (q + 1)

    abbrev there : Activation
    there = called (compiled n) home y

    stops : (cv : Cover) → code.cover_at n home ≡ cv → GoesOnAs code.rows (code.sense_at n) t (target z) cv → StopsAt code t there
    stops bare e h = absurd h
    stops unpadded e h = absurd h
    stops (padded q chain) e h = record { pad = q; chain = chain; covers = e; selector = z; stops = h }

    lets : (cv : Cover) → GoesOnAs code.rows (code.sense_at n) t clean cv → LetsPass code t there cv
    lets bare h = absurd h
    lets unpadded h = tt
    lets (padded q chain) (inl h) = subst Lets (sym h) tt
    lets (padded q chain) (inr h) = subst Lets (sym h) tt

    pub goes_from : Why (called (compiled n) p x) outer t d chain z → ((is_one_of z (k.left n (q + 1)) ≡ true) × (d ≡ length outer)) ⊎ (IsOther z (k.left n (q + 1)) × AimsAt code t d (there ∷ outer))
    goes_from (inl h) = go (is_one_of z (k.left n (q + 1))) refl
      where
        other : is_one_of z (k.left n (q + 1)) ≡ false → (u : ℤ) → target z ≡ target u → is_one_of u (k.left n (q + 1)) ≡ false
        other e u i = let same : z ≡ u = cc i in subst (λ m. is_one_of m (k.left n (q + 1)) ≡ false) same e

        go : (b : Bool) → is_one_of z (k.left n (q + 1)) ≡ b → ((is_one_of z (k.left n (q + 1)) ≡ true) × (d ≡ length outer)) ⊎ (IsOther z (k.left n (q + 1)) × AimsAt code t d (there ∷ outer))
        go true e = inl (e, sym h.0)
        go false e = inr (inl e, inl (h.0, stops (code.cover_at n home) refl (c.lets_on n p q chain t (target z) covers h.1 (other e) (inr (z, refl)))))
    goes_from (inr h) = inr (inr h.1, inr (lets (code.cover_at n home) (c.lets_on n p q chain t clean covers h.0 (λ u i. absurd (cc i)) (inl refl)), h.2))

  module _ (m : ℕ) (w : World) (outer : List Activation) where
    -- a pad of a compiled function gets a word
    module _ (n p q o s : ℕ) (x : Frame) (word : Word) (z : ℤ) where
      abbrev y : Frame
      y = with_slot s (number_word z) (with_slot o word x)

      abbrev cr : Carried
      cr = record { word = y.slots (k.object n); home = k.home n (q + 1); number = y.slots (k.selector n); left = k.left n (q + 1) }

      compiled_lands : (below : Option Function) → code.op_at n q ≡ Some (pad o s) → CallKeeps code k marks below (called (compiled n) p x) outer w →
          CallsKeep code k marks (Some (compiled n)) outer w → WorldKeeps m w → WordForgets marks code k (compiled n) outer word →
          ((v : Frame) (cd : Carried) → cd.home ≡ k.home n (q + 1) → cd.number ≡ number_word z → cd.left ≡ k.left n (q + 1) → WordGoes marks code (called (compiled n) (q + 1) v) outer cd word w) →
          Goes marks code k m (at (compiled n) (q + 1) (with_slot s (number_word z) (with_slot o word x)) outer w)
      compiled_lands below there own rest world forgets goes =
          top_goes marks code k m (compiled n) (q + 1) y outer w
          (slot_forgets marks code k (compiled n) outer s (number_word z) (with_slot o word x) (λ h. number_forgets marks code k (compiled n) outer z)
          (slot_forgets marks code k (compiled n) outer o word x (λ h. forgets) own.forgets))
          (go (k.carries n (q + 1))) tt tt rest world
        where
          slots : (o ≡ k.object n) × (s ≡ k.selector n) × ((s == o) ≡ false)
          slots = c.pads n q o s there

          holds : y.slots (k.object n) ≡ word
          holds = ap y.slots (sym slots.0) ∙ pad_object o s word (number_word z) x slots.2

          number : y.slots (k.selector n) ≡ number_word z
          number = ap y.slots (sym slots.1) ∙ pad_selector o s word (number_word z) x

          go : (b : Bool) → FlightGoes marks code (called (compiled n) (q + 1) y) outer (if b then Some cr else None) w
          go true = subst (λ u. WordGoes marks code (called (compiled n) (q + 1) y) outer cr u w) (sym holds) (goes y cr refl number refl)
          go false = tt

    pad_by : (f : Function) (q : ℕ) (x : Frame) (word : Word) (z : ℤ) (o : Option LinearOp) → ((a b : ℕ) → o ≡ Some (pad a b) → Goes marks code k m (at f (q + 1) (with_slot b (number_word z) (with_slot a word x)) outer w)) →
        Goes marks code k m (pad_entered (compiled_op o) word z f q x outer w)
    pad_by f q x word z None h = tt
    pad_by f q x word z (Some (plain o)) h = tt
    pad_by f q x word z (Some (label l)) h = tt
    pad_by f q x word z (Some (jump l)) h = tt
    pad_by f q x word z (Some (jump_zero v l)) h = tt
    pad_by f q x word z (Some (pad a b)) h = h a b refl
    pad_by f q x word z (Some (jump_filter s u l)) h = tt
    pad_by f q x word z (Some (free s)) h = tt
    pad_by f q x word z (Some (resume s)) h = tt
    pad_by f q x word z (Some (unexpected a b)) h = tt
    pad_by f q x word z (Some (return r)) h = tt

    -- an exception comes to a pad
    module _ (e d : ℕ) (z : ℤ) (can : can_travel w e ≡ true) (again : TravelsAgain e w.caught) (world : WorldKeeps m w) (marked : marks.words (flying e d)) where
      abbrev t : Option ℕ
      t = type_at w e

      in_catch : (p : ℕ) (x : Frame) → Reached code k marks e w (called end_catch p x) outer → Why (called end_catch p x) outer t d (pos 0 ∷ []) z →
          Goes marks code k m (pad_entered (fetch code end_catch 4) (flying e d) z end_catch 4 x outer w)
      in_catch p x r why =
          top_goes marks code k m end_catch 5 (with_slot 3 (number_word z) (with_slot 2 (flying e d) x)) outer w
          (slot_forgets marks code k end_catch outer 3 (number_word z) (with_slot 2 (flying e d) x) (λ h. number_forgets marks code k end_catch outer z)
          (slot_forgets marks code k end_catch outer 2 (flying e d) x (λ h. object_forgets marks code k end_catch outer e (flying e d) refl r.free) r.own.forgets))
          (record { can = can; apart = r.apart; again = again; selector = z; number = refl; goes = by why }, marked) r.own.gone tt r.rest world
        where
          by : Why (called end_catch p x) outer t d (pos 0 ∷ []) z → ((false ≡ true) × (d ≡ length outer)) ⊎ (IsOther z [] × AimsAt code t d (called end_catch 6 (with_slot 3 (number_word z) (with_slot 2 (flying e d) x)) ∷ outer))
          by (inl h) = absurd (cc h.1)
          by (inr h) = inr (inl refl, inr (tt, h.2))

      in_handler : (p : ℕ) (x : Frame) → Reached code k marks e w (called call_unexpected p x) outer → Why (called call_unexpected p x) outer t d (pos 1 ∷ pos 0 ∷ []) z →
          Goes marks code k m (pad_entered (fetch code call_unexpected 3) (flying e d) z call_unexpected 3 x outer w)
      in_handler p x r why =
          top_goes marks code k m call_unexpected 4 (with_slot 5 (number_word z) (with_slot 4 (flying e d) x)) outer w
          (slot_forgets marks code k call_unexpected outer 5 (number_word z) (with_slot 4 (flying e d) x) (λ h. number_forgets marks code k call_unexpected outer z)
          (slot_forgets marks code k call_unexpected outer 4 (flying e d) x (λ h. object_forgets marks code k call_unexpected outer e (flying e d) refl r.free) r.own.forgets))
          tt tt (by why) r.rest world
        where
          by : Why (called call_unexpected p x) outer t d (pos 1 ∷ pos 0 ∷ []) z → number_word z ≡ number_word (pos 1)
          by (inl h) = let same : pos 1 ≡ z = cc h.1 in ap number_word (sym same)
          by (inr h) = absurd (cc h.0)

      in_rethrown : (p : ℕ) (x : Frame) → Reached code k marks e w (called call_unexpected p x) outer → Why (called call_unexpected p x) outer t d (pos 0 ∷ []) z →
          Goes marks code k m (pad_entered (fetch code call_unexpected 14) (flying e d) z call_unexpected 14 x outer w)
      in_rethrown p x r why =
          top_goes marks code k m call_unexpected 15 (with_slot 5 (number_word z) (with_slot 4 (flying e d) x)) outer w
          (slot_forgets marks code k call_unexpected outer 5 (number_word z) (with_slot 4 (flying e d) x) (λ h. number_forgets marks code k call_unexpected outer z)
          (slot_forgets marks code k call_unexpected outer 4 (flying e d) x (λ h. object_forgets marks code k call_unexpected outer e (flying e d) refl r.free) r.own.forgets))
          (record { can = can; apart = r.apart; again = again; selector = z; number = refl; goes = by why }, marked) tt tt r.rest world
        where
          by : Why (called call_unexpected p x) outer t d (pos 0 ∷ []) z → ((false ≡ true) × (d ≡ length outer)) ⊎ (IsOther z [] × AimsAt code t d (called call_unexpected 17 (with_slot 5 (number_word z) (with_slot 4 (flying e d) x)) ∷ outer))
          by (inl h) = absurd (cc h.1)
          by (inr h) = inr (inl refl, inr (tt, h.2))

      pub excepted : (f : Function) (p : ℕ) (x : Frame) (q : ℕ) (chain : List ℤ) → look code f p ≡ padded q chain → Reached code k marks e w (called f p x) outer → Why (called f p x) outer t d chain z →
          Goes marks code k m (pad_entered (fetch code f q) (flying e d) z f q x outer w)
      excepted (compiled n) p x q chain covers r why =
          pad_by (compiled n) q x (flying e d) z (code.op_at n q) (λ o s i. compiled_lands n p q o s x (flying e d) z r.below i r.own r.rest world
          (object_forgets marks code k (compiled n) outer e (flying e d) refl r.free)
          (λ v cd at_home number own. (
            record {
              can = can;
              apart = refl;
              again = again;
              selector = z;
              number = number;
              goes = by v cd at_home own (goes_from n p q x v outer t d chain z covers why);
            },
            marked,
          )))
        where
          by : (v : Frame) (cd : Carried) → cd.home ≡ k.home n (q + 1) → cd.left ≡ k.left n (q + 1) →
              ((is_one_of z (k.left n (q + 1)) ≡ true) × (d ≡ length outer)) ⊎ (IsOther z (k.left n (q + 1)) × AimsAt code t d (called (compiled n) (k.home n (q + 1)) v ∷ outer)) →
              ((is_one_of z cd.left ≡ true) × (d ≡ length outer)) ⊎ (IsOther z cd.left × AimsAt code t d (called (compiled n) cd.home v ∷ outer))
          by v cd at_home own (inl h) = inl (ap (is_one_of z) own ∙ h.0, h.1)
          by v cd at_home own (inr h) = inr (subst (IsOther z) (sym own) h.0, subst (λ i. AimsAt code t d (called (compiled n) i v ∷ outer)) (sym at_home) h.1)
      excepted end_catch p x q chain covers r why = go (catch_pads p q chain covers)
        where
          go : (4 ≡ q) × (pos 0 ∷ [] ≡ chain) → Goes marks code k m (pad_entered (fetch code end_catch q) (flying e d) z end_catch q x outer w)
          go s = subst (λ i. Goes marks code k m (pad_entered (fetch code end_catch i) (flying e d) z end_catch i x outer w)) s.0 (in_catch p x r (subst (λ i. Why (called end_catch p x) outer t d i z) (sym s.1) why))
      excepted terminating p x q chain covers r why = absurd (no_pads p q chain covers)
      excepted call_unexpected p x q chain covers r why = go (passing_pads p q chain covers)
        where
          go : PassingPads q chain → Goes marks code k m (pad_entered (fetch code call_unexpected q) (flying e d) z call_unexpected q x outer w)
          go (inl s) = subst (λ i. Goes marks code k m (pad_entered (fetch code call_unexpected i) (flying e d) z call_unexpected i x outer w)) s.0 (in_handler p x r (subst (λ i. Why (called call_unexpected p x) outer t d i z) (sym s.1) why))
          go (inr s) = subst (λ i. Goes marks code k m (pad_entered (fetch code call_unexpected i) (flying e d) z call_unexpected i x outer w)) s.0 (in_rethrown p x r (subst (λ i. Why (called call_unexpected p x) outer t d i z) (sym s.1) why))

    -- a forced unwind comes to one
    module _ (z : ℤ) (below : Option Function) (marked : marks.words (unwinding z)) where
      pub forced_in : (f : Function) (p : ℕ) (x : Frame) (q : ℕ) (chain : List ℤ) → look code f p ≡ padded q chain → CallKeeps code k marks below (called f p x) outer w → CallsKeep code k marks (Some f) outer w → WorldKeeps m w →
          Goes marks code k m (pad_entered (fetch code f q) (unwinding z) (pos 0) f q x outer w)
      forced_in (compiled n) p x q chain covers own rest world =
          pad_by (compiled n) q x (unwinding z) (pos 0) (code.op_at n q)
          (λ o s i. compiled_lands n p q o s x (unwinding z) (pos 0) below i own rest world (unwinding_forgets marks code k (compiled n) outer z) (λ v cd at_home number own. (number, marked)))
      forced_in end_catch p x q chain covers own rest world =
          subst (λ i. Goes marks code k m (pad_entered (fetch code end_catch i) (unwinding z) (pos 0) end_catch i x outer w)) (catch_pads p q chain covers).0
          (top_goes marks code k m end_catch 5 (with_slot 3 (number_word (pos 0)) (with_slot 2 (unwinding z) x)) outer w
          (slot_forgets marks code k end_catch outer 3 (number_word (pos 0)) (with_slot 2 (unwinding z) x) (λ h. number_forgets marks code k end_catch outer (pos 0))
          (slot_forgets marks code k end_catch outer 2 (unwinding z) x (λ h. unwinding_forgets marks code k end_catch outer z) own.forgets))
          (refl, marked) own.gone tt rest world)
      forced_in terminating p x q chain covers own rest world = absurd (no_pads p q chain covers)
      forced_in call_unexpected p x q chain covers own rest world = go (passing_pads p q chain covers)
        where
          go : PassingPads q chain → Goes marks code k m (pad_entered (fetch code call_unexpected q) (unwinding z) (pos 0) call_unexpected q x outer w)
          go (inl s) =
              subst (λ i. Goes marks code k m (pad_entered (fetch code call_unexpected i) (unwinding z) (pos 0) call_unexpected i x outer w)) s.0
              (top_goes marks code k m call_unexpected 4 (with_slot 5 (number_word (pos 0)) (with_slot 4 (unwinding z) x)) outer w
              (slot_forgets marks code k call_unexpected outer 5 (number_word (pos 0)) (with_slot 4 (unwinding z) x) (λ h. number_forgets marks code k call_unexpected outer (pos 0))
              (slot_forgets marks code k call_unexpected outer 4 (unwinding z) x (λ h. unwinding_forgets marks code k call_unexpected outer z) own.forgets))
              tt tt (refl, marked) rest world)
          go (inr s) =
              subst (λ i. Goes marks code k m (pad_entered (fetch code call_unexpected i) (unwinding z) (pos 0) call_unexpected i x outer w)) s.0
              (top_goes marks code k m call_unexpected 15 (with_slot 5 (number_word (pos 0)) (with_slot 4 (unwinding z) x)) outer w
              (slot_forgets marks code k call_unexpected outer 5 (number_word (pos 0)) (with_slot 4 (unwinding z) x) (λ h. number_forgets marks code k call_unexpected outer (pos 0))
              (slot_forgets marks code k call_unexpected outer 4 (unwinding z) x (λ h. unwinding_forgets marks code k call_unexpected outer z) own.forgets))
              (refl, marked) tt tt rest world)
