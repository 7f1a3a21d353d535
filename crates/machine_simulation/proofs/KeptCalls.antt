-- What registers hold for open calls stays where their slots and the ints of their kept variables do.
use Rattle.std.proofs.Common.{◌≡◌, ◌∙◌, refl, sym, subst, arith, ℕ, zero, suc, ◌+◌, ◌<◌, ◌≤◌, List, [], ◌∷◌, Some, inl, inr}
use Rattle.std.specs.Prelude.{◌⊎◌, Bool, true, false, slice_get}
use Rattle.rv64_isa.specs.State.{Part}
use Rattle.region_forms.specs.World.{Base, of_variable, Frame, World}
use Rattle.linear_forms.specs.Stub.{Function, compiled, end_catch, terminating, call_unexpected}
use Rattle.linear_forms.specs.Activation.{Activation}
use Rattle.machine_forms.specs.Shape.{Shape, slot_offset}
use Rattle.machine_forms.specs.KeptCode.{register_of}
use Rattle.machine_pieces.specs.Memory.{Apart}
use Rattle.machine_pieces.specs.Frames.{AddressAt}
use Rattle.machine_pieces.specs.Saving.{SavedAt, AreApartFrom}
use Rattle.machine_stubs.specs.Stretches.{frame_size}
use Rattle.machine_simulation.specs.Plan.{Plan, function, shape}
use Rattle.machine_simulation.specs.StubCalls.{StubWaits, DestructorWaits, UnexpectedWaits, LeavingWaits}
use Rattle.machine_simulation.specs.Calls.{CallStands, CallsWait}
use Rattle.machine_simulation.specs.KeptCalls.{kept_of, KeptCall, kept_behind, KeptCalls}
use Rattle.machine_simulation.proofs.KeptSlots.{kept_register}

-- ---- slot by slot

pub apart_from : (f : Shape) (stack a n : ℕ) (kept : List ℕ) → ((j s : ℕ) → slice_get kept j ≡ Some s → Apart (stack + slot_offset f s) 8 a n) → AreApartFrom f stack a n kept
apart_from f stack a n [] h = tt
apart_from f stack a n (s ∷ kept) h = (h 0 s refl, apart_from f stack a n kept (λ j t e. h (suc j) t e))

pub apart_at : (f : Shape) (stack a n : ℕ) (kept : List ℕ) (j s : ℕ) → AreApartFrom f stack a n kept → slice_get kept j ≡ Some s → Apart (stack + slot_offset f s) 8 a n
apart_at f stack a n [] j s h e = absurd (cc e)
apart_at f stack a n (t ∷ kept) zero s h e = let same : t ≡ s = cc e in subst (λ k. Apart (stack + slot_offset f k) 8 a n) same h.0
apart_at f stack a n (t ∷ kept) (suc j) s h e = apart_at f stack a n kept j s h.1 e

pub saved_still : (f : Shape) (old new : List Part) (stack : ℕ) (kept values : List ℕ) → ((j s b : ℕ) → slice_get kept j ≡ Some s → AddressAt old (stack + slot_offset f s) b → AddressAt new (stack + slot_offset f s) b) →
    SavedAt f old stack kept values → SavedAt f new stack kept values
saved_still f old new stack [] [] keep h = tt
saved_still f old new stack [] (v ∷ values) keep h = absurd h
saved_still f old new stack (s ∷ kept) [] keep h = absurd h
saved_still f old new stack (s ∷ kept) (v ∷ values) keep h = (keep 0 s v refl h.0, saved_still f old new stack kept values (λ j t b e. keep (suc j) t b e) h.1)

-- ---- one call

-- a plan with other places
abbrev pub replaced : Plan → (at size : Base → ℕ) → (live ints : Base → Bool) → Plan
replaced p at size live ints = record p { at = at; live = live; size = size; ints = ints }

-- what is asked of a call's kept variables: their ints and what is saved in their slots stay, and nothing live lies there
pub record KeptStays (p : Plan) (at size : Base → ℕ) (live : Base → Bool) (n call : ℕ) (v u : World) (old new : List Part) (stack : ℕ) : Type 0 where
  pub ints : (s r : ℕ) → register_of (kept_of p n) s ≡ Some r → u.memory (record { base = of_variable call s; offset = 0 }) ≡ v.memory (record { base = of_variable call s; offset = 0 })
  pub saved : (s r b : ℕ) → register_of (kept_of p n) s ≡ Some r → AddressAt old (stack + slot_offset (shape p n) s) b → AddressAt new (stack + slot_offset (shape p n) s) b
  pub dead : (s r : ℕ) → register_of (kept_of p n) s ≡ Some r → live (of_variable call s) ≡ false
  pub alone : (b : Base) (s r : ℕ) → live b ≡ true → register_of (kept_of p n) s ≡ Some r → Apart (stack + slot_offset (shape p n) s) 8 (at b) (size b)

module _ (p : Plan) (at size : Base → ℕ) (live ints : Base → Bool) where
  pub kept_still : (n : ℕ) (frame : Frame) (v u : World) (old new : List Part) (stack : ℕ) (regs before : List ℕ) → KeptStays p at size live n frame.call v u old new stack →
      KeptCall p n frame v old stack regs before → KeptCall (replaced p at size live ints) n frame u new stack regs before
  kept_still n frame v u old new stack regs before stays h = record {
    keeps = λ j s z there got. let r = kept_register (function p n) j s there in h.keeps j s z there (sym (stays.ints s r.0 r.1) ∙ got);
    saves = record {
      values = h.saves.values;
      there = saved_still (shape p n) old new stack (kept_of p n) h.saves.values (λ j s b there held. let r = kept_register (function p n) j s there in stays.saved s r.0 b r.1 held) h.saves.there;
      before_is = h.saves.before_is;
      small = h.saves.small;
    };
    dead = stays.dead;
    alone = λ b is_live. apart_from (shape p n) stack (at b) (size b) (kept_of p n) (λ j s there. let r = kept_register (function p n) j s there in stays.alone b s r.0 is_live r.1);
  }

-- the bytes of a live thing are apart from a kept variable's slot
pub kept_alone : (p : Plan) (n : ℕ) (frame : Frame) (v : World) (memory : List Part) (stack : ℕ) (regs before : List ℕ) (b : Base) (s r : ℕ) → KeptCall p n frame v memory stack regs before → p.live b ≡ true →
    register_of (kept_of p n) s ≡ Some r → (j : ℕ) → slice_get (kept_of p n) j ≡ Some s → Apart (stack + slot_offset (shape p n) s) 8 (p.at b) (p.size b)
kept_alone p n frame v memory stack regs before b s r h live is j there = apart_at (shape p n) stack (p.at b) (p.size b) (kept_of p n) j s (h.alone b live) there

-- ---- all calls that wait

-- a function of the runtime's own that comes back
abbrev pub IsStub : Function → Type 0
IsStub f = (f ≡ end_catch) ⊎ (f ≡ call_unexpected)

pub stub_is : (p : Plan) (a : Activation) (v : World) (memory : List Part) (stack back outer : ℕ) → StubWaits p a v memory stack back outer → IsStub a.function
stub_is p a v memory stack back outer h = by h.waits
  where
    by : DestructorWaits p a v memory stack back ⊎ UnexpectedWaits p a v memory stack back ⊎ LeavingWaits p a v memory stack back → IsStub a.function
    by (inl w) = inl w.callee
    by (inr (inl w)) = inr w.callee
    by (inr (inr w)) = inr w.callee

module _ (p : Plan) (frame : Frame) (v : World) (memory : List Part) (stack : ℕ) (regs : List ℕ) (others : ℕ → List ℕ → Type 0) where
  -- what is asked of those behind one call, by its function
  pub behind_stub : (f : Function) → IsStub f → kept_behind p f frame v memory stack regs others → others (stack + frame_size f) regs
  behind_stub (compiled n) (inl e) h = absurd (cc e)
  behind_stub (compiled n) (inr e) h = absurd (cc e)
  behind_stub end_catch is h = h
  behind_stub terminating (inl e) h = absurd (cc e)
  behind_stub terminating (inr e) h = absurd (cc e)
  behind_stub call_unexpected is h = h

  pub stub_behind : (f : Function) → IsStub f → others (stack + frame_size f) regs → kept_behind p f frame v memory stack regs others
  stub_behind (compiled n) (inl e) h = absurd (cc e)
  stub_behind (compiled n) (inr e) h = absurd (cc e)
  stub_behind end_catch is h = h
  stub_behind terminating (inl e) h = absurd (cc e)
  stub_behind terminating (inr e) h = absurd (cc e)
  stub_behind call_unexpected is h = h

  pub behind_call : (f : Function) (n : ℕ) → f ≡ compiled n → kept_behind p f frame v memory stack regs others → kept_behind p (compiled n) frame v memory stack regs others
  behind_call f n e h = subst (λ g. kept_behind p g frame v memory stack regs others) e h

  pub call_behind : (f : Function) (n : ℕ) → f ≡ compiled n → kept_behind p (compiled n) frame v memory stack regs others → kept_behind p f frame v memory stack regs others
  call_behind f n e h = subst (λ g. kept_behind p g frame v memory stack regs others) (sym e) h

  pub terminating_behind : (f : Function) → f ≡ terminating → kept_behind p f frame v memory stack regs others
  terminating_behind f e = subst (λ g. kept_behind p g frame v memory stack regs others) (sym e) tt

module _ (p : Plan) (at size : Base → ℕ) (live ints : Base → Bool) (v u : World) (old new : List Part) (low : ℕ) where
  abbrev q : Plan
  q = replaced p at size live ints

  abbrev rest : (w : World) → List Part → List Activation → ℕ → List ℕ → Type 0
  rest w memory fs next outer = KeptCalls p fs w memory next outer

  pub kept_calls_still : (fs : List Activation) (stack back limit : ℕ) (regs : List ℕ) → low ≤ stack →
      ((n : ℕ) (frame : Frame) (stack back : ℕ) (regs before : List ℕ) → low ≤ stack → frame.call < limit → CallStands p n frame v old stack back → KeptCall p n frame v old stack regs before →
      KeptStays p at size live n frame.call v u old new stack) → CallsWait p fs v old stack back limit → KeptCalls p fs v old stack regs → KeptCalls (replaced p at size live ints) fs u new stack regs
  kept_calls_still [] stack back limit regs above keep w h = tt
  kept_calls_still (a ∷ fs) stack back limit regs above keep (inl w) h =
      let n : ℕ = w.1 in
      let k = behind_call p a.frame v old stack regs (λ next outer. KeptCalls p fs v old next outer) a.function n w.3.callee h in
      call_behind (replaced p at size live ints) a.frame u new stack regs (λ next outer. KeptCalls (replaced p at size live ints) fs u new next outer) a.function n w.3.callee (
        k.0,
        kept_still p at size live ints n a.frame v u old new stack regs k.0 (keep n a.frame stack w.2 regs k.0 above w.0 w.3.stands k.1) k.1,
        kept_calls_still fs (stack + (shape p n).size) w.2 a.frame.call k.0 (omega (arith, above))
            (λ m frame s b rs before high less st one. keep m frame s b rs before high (omega (arith, less, w.0)) st one) w.4 k.2,
      )
  kept_calls_still (a ∷ fs) stack back limit regs above keep (inr (inl w)) h =
      let is = stub_is p a v old stack back w.0 w.1 in
      let k = behind_stub p a.frame v old stack regs (λ next outer. KeptCalls p fs v old next outer) a.function is h in
      stub_behind (replaced p at size live ints) a.frame u new stack regs (λ next outer. KeptCalls (replaced p at size live ints) fs u new next outer) a.function is
      (kept_calls_still fs (stack + frame_size a.function) w.0 limit regs (omega (arith, above)) keep w.2 k)
  kept_calls_still (a ∷ fs) stack back limit regs above keep (inr (inr w)) h =
      terminating_behind (replaced p at size live ints) a.frame u new stack regs (λ next outer. KeptCalls (replaced p at size live ints) fs u new next outer) a.function w.0.callee
