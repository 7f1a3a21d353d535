-- The header of an exception on its way: what laws of raises say of it is what stands, and the other way round.
use Rattle.std.proofs.Common.{◌≡◌, ◌∙◌, refl, sym, ap, subst, arith, ℕ, zero, suc, ◌+◌, ◌-◌, ◌<◌, inl, inr, pos, negsuc, Bool, true, false, List, [], ◌∷◌, length, Option, Some, if◌then◌else◌}
use Rattle.std.specs.Prelude.{◌==◌}
use Rattle.std.proofs.lemmas.Bool.Decides.{nat_tests}
use Rattle.meaning_forms.specs.Class.{contains}
use Rattle.caught_stack.specs.declared.header.Header.{Header}
use Rattle.caught_stack.specs.Caught.{Caught}
use Rattle.caught_stack.specs.Live.{Live as Headers, header_of}
use Rattle.cxa_runtime.specs.Objects.{is_thrown}
use Rattle.cxa_runtime.specs.World as abi
use Rattle.region_forms.specs.Caught.{Entry}
use Rattle.region_forms.specs.Lives.{is_built, can_travel}
use Rattle.region_forms.specs.World.{Exception, building, native, foreign, World, exception_in}
use Rattle.linear_forms.specs.Tables.{bare, padded}
use Rattle.linear_forms.specs.Stub.{Function, compiled, end_catch, terminating, call_unexpected, stub_cover}
use Rattle.linear_forms.specs.Activation.{Code, Activation, look}
use Rattle.exceptions_in_flight.specs.Targets.{cover_of, LetsPass, StopsAt, AimsAt}
use Rattle.flight_homes.specs.Keeps.{TravelsAgain}
use Rattle.machine_simulation.specs.Plan.{Plan}
use Rattle.machine_simulation.specs.Calls.{stack_end, frame_of, open_bytes}
use Rattle.machine_simulation.specs.Exceptions.{Addresses, addresses_of, live_in, destroyed, HeaderIs, HasHeader, count_of, AreCaught}
use Rattle.machine_simulation.specs.Matches.{RuntimeMatches}
use Rattle.machine_simulation.proofs.LiveThere.{built_there}
use Rattle.machine_raises.specs.Targets.{call_size, target_end}
use Rattle.machine_raises.specs.Throws.{AimedAt, HasAim}
use Rattle.runtime_invariant.specs.Aims.{is_again, TravelsFrom, IsOnItsWay}
use Rattle.step_law.specs.Standing.{call_end, HeaderAims}

-- ---- what the runtime keeps of what can travel

thrown_kind : (t : Addresses) (x : Exception) (h : Header) → is_built x ≡ true → HeaderIs t false x h → is_thrown h.kind ≡ true
thrown_kind t building h b is = absurd (cc b)
thrown_kind t (native type d kept) h b is = ap is_thrown is.0.1
thrown_kind t (foreign k token) h b is = ap is_thrown is

again_counts : (x : Entry) → x.again ≡ true → is_again (count_of x) ≡ true
again_counts x h = ap (λ b. is_again (if b then negsuc x.more else pos (suc x.more))) h

module _ (headers : Headers) (e slot : ℕ) (a : HasHeader headers e slot) where
  travels_from : (xs : List Entry) (ys : Caught) → AreCaught headers xs ys → TravelsAgain e xs → TravelsFrom slot ys
  travels_from [] [] c h = tt
  travels_from [] ((s, n) ∷ more) c h = absurd c
  travels_from (x ∷ xs) [] c h = absurd c
  travels_from (x ∷ xs) ((s, n) ∷ more) c h = (one, travels_from xs more c.2 h.1)
    where
      one : s ≡ slot → is_again n ≡ true
      one same =
          let here : Some a.header ≡ Some c.0.0.header = sym a.there ∙ ap (header_of headers) (sym same) ∙ c.0.0.there in
          let header : a.header ≡ c.0.0.header = cc here in
          let number : x.number ≡ e = sym c.0.0.number ∙ ap (λ (y : Header). y.number) (sym header) ∙ a.number in
          ap is_again c.1 ∙ again_counts x (h.0 number)

-- an exception that can travel, of which no destructor runs and which no handler could leave, is on its way
pub on_its_way : (p : Plan) (fs : List Activation) (v : World) (w : abi.World) (e slot : ℕ) → RuntimeMatches p fs v w → can_travel v e ≡ true → contains (destroyed fs) e ≡ false → TravelsAgain e v.caught →
    (a : HasHeader w.exceptions.live e slot) → IsOnItsWay slot a.header w.exceptions
on_its_way p fs v w e slot m can whole again a =
    let s = m.exceptions.headers slot a.header a.there in
    let found : Some s.exception ≡ Some (exception_in v.live e) = sym s.live ∙ ap (live_in v.live) a.number ∙ built_there v.live e can in
    let one : s.exception ≡ exception_in v.live e = cc found in
    let none : contains (destroyed fs) a.header.number ≡ false = ap (contains (destroyed fs)) a.number ∙ whole in
    record {
      there = a.there;
      thrown = thrown_kind (addresses_of p) s.exception a.header (ap is_built one ∙ can) (subst (λ b. HeaderIs (addresses_of p) b s.exception a.header) none s.is);
      travels = travels_from w.exceptions.live e slot a v.caught w.exceptions.caught m.exceptions.caught again;
    }

-- ---- where targets end

terminating_bare : (place : ℕ) → stub_cover terminating place ≡ bare
terminating_bare zero = refl
terminating_bare (suc zero) = refl
terminating_bare (suc (suc n)) = refl

module _ (code : Code) (t : Option ℕ) (q : Plan) where
  lets_by : (a : Activation) → a.function ≡ terminating → LetsPass code t a (cover_of code a) → ⊥
  lets_by a is h = subst (LetsPass code t a) (ap (λ f. look code f a.place) is ∙ terminating_bare a.place) h

  stops_by : (a : Activation) → a.function ≡ terminating → StopsAt code t a → ⊥
  stops_by a is h = let no : bare ≡ padded h.pad h.chain = sym (ap (λ f. look code f a.place) is ∙ terminating_bare a.place) ∙ h.covers in cc no

  size_of : (f : Function) → (f ≡ terminating → ⊥) → frame_of q.unit q.hidden f ≡ call_size q f
  size_of (compiled n) h = refl
  size_of end_catch h = refl
  size_of call_unexpected h = refl
  size_of terminating h = absurd (h refl)

  -- the frame of the call that stops an exception ends where the frames of those below it begin
  pub ends_meet : (d : ℕ) (fs : List Activation) (stack : ℕ) → AimsAt code t d fs → stack + open_bytes q fs ≡ stack_end → target_end q d stack fs ≡ call_end q d fs
  ends_meet d [] stack aims whole = absurd aims
  ends_meet d (a ∷ fs) stack (inl stops) whole =
      let size = size_of a.function (λ is. stops_by a is stops.1) in
      here (length fs == d) (subst (λ n. (n == d) ≡ true) (sym stops.0) (same_test d)) (omega (arith, whole, size))
    where
      same_test : (n : ℕ) → (n == n) ≡ true
      same_test n = grind (arith, nat_tests)

      here : (b : Bool) → b ≡ true → stack + call_size q a.function ≡ stack_end - open_bytes q fs →
          (if b then stack + call_size q a.function else target_end q d (stack + call_size q a.function) fs) ≡ (if b then stack_end - open_bytes q fs else call_end q d fs)
      here true is e = e
      here false is e = absurd (cc is)
  ends_meet d (a ∷ fs) stack (inr lets) whole =
      let size = size_of a.function (λ is. lets_by a is lets.0) in
      either (length fs == d) (omega (arith, whole, size)) (ends_meet d fs (stack + call_size q a.function) lets.1 (omega (arith, whole, size)))
    where
      either : (b : Bool) → stack + call_size q a.function ≡ stack_end - open_bytes q fs → target_end q d (stack + call_size q a.function) fs ≡ call_end q d fs →
          (if b then stack + call_size q a.function else target_end q d (stack + call_size q a.function) fs) ≡ (if b then stack_end - open_bytes q fs else call_end q d fs)
      either true e rest = e
      either false e rest = rest

  -- what stands of a header is what an exception that goes on asks
  pub aimed_at : (fs : List Activation) (w : abi.World) (e d stack : ℕ) → HeaderAims q fs w e d → AimsAt code t d fs → stack + open_bytes q fs ≡ stack_end → AimedAt w e (target_end q d stack fs)
  aimed_at fs w e d stack h aims whole =
      record { slot = h.slot; has = record { header = h.header; there = h.way.there; number = h.number }; aimed = h.target ∙ sym (ends_meet d fs stack aims whole) }

  -- and what a raise says of it stands, where the exception is on its way
  pub header_aims : (fs : List Activation) (w : abi.World) (e d stack : ℕ) → (h : HasAim q w e d stack fs) → AimsAt code t d fs → stack + open_bytes q fs ≡ stack_end → IsOnItsWay h.at.slot h.at.has.header w.exceptions → d < length fs →
      HeaderAims q fs w e d
  header_aims fs w e d stack h aims whole way below =
      record { inside = below; slot = h.at.slot; header = h.at.has.header; way = way; number = h.at.has.number; target = h.at.aimed ∙ ends_meet d fs stack aims whole; table = h.table }
