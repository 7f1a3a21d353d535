-- What comes next keeps what the open calls keep.
use Rattle.std.proofs.Common.{◌≡◌, ◌⊎◌, inl, inr, ℕ, ℤ, pos, Bool, true, false, ◌==◌, List, ◌∷◌, length, Option, Some, None, is_some, refl, sym, ap, ◌∙◌, subst, if◌then◌else◌, arith}
use Rattle.std.specs.List.{AllByRecursion}
use Rattle.std.proofs.lemmas.Bool.Decides.{nat_tests}
use Rattle.meaning_forms.specs.Outcome.{aborted}
use Rattle.region_forms.specs.World.{Word, nothing, number_word, address_word, flying, unwinding, object_address, address_in, exception_of, with_slot, Frame, World, type_at}
use Rattle.linear_forms.specs.Linear.{LinearOp, pad}
use Rattle.linear_forms.specs.Stub.{Function, compiled, end_catch, terminating, call_unexpected}
use Rattle.linear_forms.specs.Activation.{Code, Activation, Next, goes_to, finishes, by_program, next_if, at, stub_frame, function_word, terminated}
use Rattle.exceptions_in_flight.specs.Targets.{AimsAt}
use Rattle.flight_homes.specs.Homes.{is_one_of}
use Rattle.flight_homes.specs.Keeps.{Carrying, Carried, carried, compiled_carried, destroyed_in, is_help_in}
use Rattle.linear_invariant.specs.Held.{NoneHolds}
use Rattle.linear_invariant.specs.Handled.{WorldKeeps, IsGone}
use Rattle.linear_invariant.specs.Calls.{IsOther, Marks, WordGoes, FlightGoes, StubHolds, CallKeeps, CallsKeep}
use Rattle.linear_invariant.specs.Code.{StepsTo, carries_on, CodeCarries}
use Rattle.linear_invariant.proofs.Worlds.{Quiet, quiet_keeps}
use Rattle.linear_invariant.proofs.Calls.{waits_now, calls_quiet}

abbrev pub called : Function → ℕ → Frame → Activation
called f p x = record { function = f; place = p; frame = x }

-- an operation that begins a landing pad
abbrev pub is_pad : LinearOp → Bool
is_pad (pad o s) = true
is_pad o = false

module _ (marks : Marks) (code : Code) (k : Carrying) where
  -- a word that a slot for help may get
  abbrev pub WordForgets : Function → List Activation → Word → Type 0
  WordForgets f fs word = (e : ℕ) → address_in word ≡ Some (object_address e) → NoneHolds k (Some f) fs e

  abbrev pub FrameForgets : Function → List Activation → Frame → Type 0
  FrameForgets f fs x = (s e : ℕ) → is_help_in code f s → address_in (x.slots s) ≡ Some (object_address e) → NoneHolds k (Some f) fs e

  pub slot_forgets : (f : Function) (fs : List Activation) (s : ℕ) (word : Word) (x : Frame) → (is_help_in code f s → WordForgets f fs word) → FrameForgets f fs x → FrameForgets f fs (with_slot s word x)
  slot_forgets f fs s word x own h t e help a = go (s == t) refl a
    where
      go : (b : Bool) → (s == t) ≡ b → address_in (if b then word else x.slots t) ≡ Some (object_address e) → NoneHolds k (Some f) fs e
      go true i a = let same : t ≡ s = grind (arith, nat_tests, i) in own (subst (is_help_in code f) same help) e a
      go false i a = h t e help a

  pub number_forgets : (f : Function) (fs : List Activation) (z : ℤ) → WordForgets f fs (number_word z)
  number_forgets f fs z e h = absurd (cc h)

  pub nothing_forgets : (f : Function) (fs : List Activation) → WordForgets f fs nothing
  nothing_forgets f fs e h = absurd (cc h)

  pub function_forgets : (f : Function) (fs : List Activation) (h : Option ℕ) → WordForgets f fs (function_word h)
  function_forgets f fs None = nothing_forgets f fs
  function_forgets f fs (Some n) = number_forgets f fs (pos n)

  pub unwinding_forgets : (f : Function) (fs : List Activation) (z : ℤ) → WordForgets f fs (unwinding z)
  unwinding_forgets f fs z e h = absurd (cc h)

  -- the word has this exception's object and no other
  pub object_forgets : (f : Function) (fs : List Activation) (i : ℕ) (word : Word) → address_in word ≡ Some (object_address i) → NoneHolds k (Some f) fs i → WordForgets f fs word
  object_forgets f fs i word is own e h = subst (NoneHolds k (Some f) fs) (same_object i e (sym is ∙ h)) own
    where
      same_object : (i e : ℕ) → Some (object_address i) ≡ Some (object_address e) → i ≡ e
      same_object i e h = ap exception_of h

  -- what comes next keeps it
  abbrev pub Goes : ℕ → Next → Type 0
  Goes n (finishes e w) = Unit {0}
  Goes n (goes_to st) = CallsKeep code k marks None (st.top ∷ st.frames) st.world × WorldKeeps n st.world

  pub either : (n : ℕ) (b : Bool) (x y : Next) → Goes n x → Goes n y → Goes n (if b then x else y)
  either n true x y h i = h
  either n false x y h i = i

  pub next_goes : (n : ℕ) (b : Bool) (w : World) (x : Next) → (b ≡ true → Goes n x) → Goes n (next_if b w x)
  next_goes n true w x h = h refl
  next_goes n false w x h = tt

  -- the newest call at a place
  pub top_goes : (n : ℕ) (f : Function) (p : ℕ) (x : Frame) (fs : List Activation) (w : World) → FrameForgets f fs x → FlightGoes marks code (called f p x) fs (carried k (called f p x)) w →
      AllByRecursion (IsGone w) (destroyed_in f x) → StubHolds marks f p x → CallsKeep code k marks (Some f) fs w → WorldKeeps n w → Goes n (at f p x fs w)
  top_goes n f p x fs w forgets carries gone slots rest world = ((record { forgets = forgets; carries = carries; gone = gone; slots = slots; waits = tt }, rest), world)

  -- where a call carries nothing
  pub not_carried : (a : Activation) (fs : List Activation) (w : World) (b : Bool) (c : Carried) → b ≡ false → FlightGoes marks code a fs (if b then Some c else None) w
  not_carried a fs w true c e = absurd (cc e)
  not_carried a fs w false c e = tt

  -- nothing is carried at the first place of a call
  pub first_carries : CodeCarries code k → (f : Function) (x : Frame) (fs : List Activation) (w : World) → FlightGoes marks code (called f 0 x) fs (carried k (called f 0 x)) w
  first_carries c (compiled n) x fs w =
      let a = called (compiled n) 0 x in
      not_carried a fs w (k.carries n 0) (record { word = x.slots (k.object n); home = k.home n 0; number = x.slots (k.selector n); left = k.left n 0 }) (c.first n)
  first_carries c end_catch x fs w = tt
  first_carries c terminating x fs w = tt
  first_carries c call_unexpected x fs w = tt

  -- terminate begins
  ending_goes : (n : ℕ) (h : Option ℕ) (a : Activation) (fs : List Activation) (w : World) → CallKeeps code k marks (Some terminating) a fs w → CallsKeep code k marks (Some a.function) fs w → WorldKeeps n w →
      Goes n (at terminating 0 (stub_frame (function_word h) nothing nothing) (a ∷ fs) (record w { ending = is_some h }))
  ending_goes n h a fs w own rest world =
      let v = record w { ending = is_some h } in
      let q : Quiet w v = record { live = refl; caught = refl; last = refl; given = λ g. record { bytes = g.bytes; few = g.few; fit = g.fit } } in
      let x = stub_frame (function_word h) nothing nothing in
      top_goes n terminating 0 x (a ∷ fs) v (held_forgets h) tt tt tt (calls_quiet code k marks w v (Some terminating) (a ∷ fs) q (own, rest)) (quiet_keeps n w v q world)
    where
      one_of : (b c d : Bool) (word : Word) → WordForgets terminating (a ∷ fs) word → WordForgets terminating (a ∷ fs) (if b then word else if c then nothing else if d then nothing else nothing)
      one_of true c d word own = own
      one_of false true d word own = nothing_forgets terminating (a ∷ fs)
      one_of false false true word own = nothing_forgets terminating (a ∷ fs)
      one_of false false false word own = nothing_forgets terminating (a ∷ fs)

      held_forgets : (h : Option ℕ) → FrameForgets terminating (a ∷ fs) (stub_frame (function_word h) nothing nothing)
      held_forgets h s e help i = one_of (s == 0) (s == 1) (s == 2) (function_word h) (function_forgets terminating (a ∷ fs) h) e i

  pub terminated_goes : (n : ℕ) (h : Option ℕ) (a : Activation) (fs : List Activation) (w : World) → CallKeeps code k marks (Some terminating) a fs w → CallsKeep code k marks (Some a.function) fs w → WorldKeeps n w →
      Goes n (terminated h (a ∷ fs) w)
  terminated_goes n h a fs w own rest world =
      either n w.ending (finishes (by_program aborted) w) (at terminating 0 (stub_frame (function_word h) nothing nothing) (a ∷ fs) (record w { ending = is_some h })) tt (ending_goes n h a fs w own rest world)

  pub newest_ends : (n : ℕ) (h : Option ℕ) (a : Activation) (fs : List Activation) (w : World) → CallKeeps code k marks None a fs w → CallsKeep code k marks (Some a.function) fs w → WorldKeeps n w →
      Goes n (terminated h (a ∷ fs) w)
  newest_ends n h a fs w own rest world = terminated_goes n h a fs w (waits_now code k marks terminating a fs w tt own) rest world

  -- a call that nothing may come out of stands at its first place
  pub first_place : CodeCarries code k → (below : Option Function) (f : Function) (p : ℕ) (x : Frame) (fs : List Activation) (w : World) → CallKeeps code k marks below (called f p x) fs w →
      CallKeeps code k marks (Some terminating) (called f 0 x) fs w
  first_place c below f p x fs w h = record {
    forgets = h.forgets;
    carries = first_carries c f x fs w;
    gone = h.gone;
    slots = by f;
    waits = tt;
  }
    where
      by : (f : Function) → StubHolds marks f 0 x
      by (compiled n) = tt
      by end_catch = tt
      by terminating = tt
      by call_unexpected = tt

  -- control moves on inside a call
  module _ (c : CodeCarries code k) (n p : ℕ) (o : LinearOp) (there : code.op_at n p ≡ Some o) (other : is_pad o ≡ false) where
    carried_here : (q : ℕ) → StepsTo code n p o q → k.carries n q ≡ true → k.carries n p ≡ true
    carried_here q s e = go (c.comes n p q o there s e)
      where
        go : (k.carries n p ≡ true) ⊎ (o ≡ pad (k.object n) (k.selector n)) → k.carries n p ≡ true
        go (inl h) = h
        go (inr h) = let never : true ≡ false = sym (ap is_pad h) ∙ other in absurd (cc never)

    -- not to a place at which it carries, but from one
    pub off_path : (q : ℕ) → StepsTo code n p o q → carries_on o ≡ false → k.carries n q ≡ false
    off_path q s none = go (k.carries n q) refl
      where
        go : (b : Bool) → k.carries n q ≡ b → b ≡ false
        go true e = let never : true ≡ false = sym (c.form n p o there (carried_here q s e)) ∙ none in absurd (cc never)
        go false e = refl

    abbrev at_place : ℕ → Frame → Carried
    at_place q x = record { word = x.slots (k.object n); home = k.home n q; number = x.slots (k.selector n); left = k.left n q }

    module _ (q : ℕ) (s : StepsTo code n p o q) (x : Frame) (fs : List Activation) (w : World)
        (left : k.carries n p ≡ true → k.carries n q ≡ true → (z : ℤ) → x.slots (k.selector n) ≡ number_word z → is_one_of z (k.left n q) ≡ is_one_of z (k.left n p)) where
      word_moves : (word : Word) → k.carries n p ≡ true → k.carries n q ≡ true → WordGoes marks code (called (compiled n) p x) fs (at_place p x) word w → WordGoes marks code (called (compiled n) q x) fs (at_place q x) word w
      word_moves (flying e d) here next h = (record { can = h.0.can; apart = h.0.apart; again = h.0.again; selector = h.0.selector; number = h.0.number; goes = by h.0.goes }, h.1)
        where
          same : k.home n q ≡ k.home n p
          same = c.stays n p q o there s here next

          still : is_one_of h.0.selector (k.left n q) ≡ is_one_of h.0.selector (k.left n p)
          still = left here next h.0.selector h.0.number

          still_other : IsOther h.0.selector (k.left n p) → IsOther h.0.selector (k.left n q)
          still_other (inl i) = inl (still ∙ i)
          still_other (inr i) = inr i

          by : ((is_one_of h.0.selector (k.left n p) ≡ true) × (d ≡ length fs)) ⊎ (IsOther h.0.selector (k.left n p) × AimsAt code (type_at w e) d (called (compiled n) (k.home n p) x ∷ fs)) →
              ((is_one_of h.0.selector (k.left n q) ≡ true) × (d ≡ length fs)) ⊎ (IsOther h.0.selector (k.left n q) × AimsAt code (type_at w e) d (called (compiled n) (k.home n q) x ∷ fs))
          by (inl i) = inl (still ∙ i.0, i.1)
          by (inr i) = inr (still_other i.0, subst (λ m. AimsAt code (type_at w e) d (called (compiled n) m x ∷ fs)) (sym same) i.1)
      word_moves (unwinding z) here next h = h
      word_moves nothing here next h = h
      word_moves (number_word z) here next h = h
      word_moves (address_word a) here next h = h

      pub moves : FlightGoes marks code (called (compiled n) p x) fs (compiled_carried k n (called (compiled n) p x)) w → FlightGoes marks code (called (compiled n) q x) fs (compiled_carried k n (called (compiled n) q x)) w
      moves h = go (k.carries n q) refl
        where
          old : (b : Bool) → k.carries n p ≡ b → b ≡ true → FlightGoes marks code (called (compiled n) p x) fs (if b then Some (at_place p x) else None) w → WordGoes marks code (called (compiled n) p x) fs (at_place p x) (x.slots (k.object n)) w
          old true e i h = h
          old false e i h = absurd (cc i)

          go : (b : Bool) → k.carries n q ≡ b → FlightGoes marks code (called (compiled n) q x) fs (if b then Some (at_place q x) else None) w
          go true e = let here = carried_here q s e in word_moves (x.slots (k.object n)) here e (old (k.carries n p) refl here h)
          go false e = tt
