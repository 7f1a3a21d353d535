-- How many of a few steps may pay for a turn: of those that leave a handler, and of those that terminate, at most one.
use Rattle.std.proofs.Common.{◌≡◌, ℕ, zero, suc, ◌+◌, ◌≤◌, ◌⊎◌, inl, inr, Bool, true, false, List, Option, Some, None, refl, sym, ap, subst, arith, if◌then◌else◌}
use Rattle.region_forms.specs.World.{nothing, Frame, World, address_in, exception_in_slot, exception_of, type_at}
use Rattle.linear_forms.specs.Stub.{Function, end_catch, terminating}
use Rattle.linear_forms.specs.Activation.{Code, Activation, State, Next, goes_to, finishes, next_if, terminated, stub_frame}
use Rattle.linear_forms.specs.Operation.{may_free}
use Rattle.linear_forms.specs.StubOperation.{is_bad, empty_call, destroyed}
use Rattle.region_forms.specs.Effect.{freed}
use Rattle.linear_forms.specs.Machine.{step}
use Rattle.linear_forms.specs.Pace.{pays_at, one_if, after, tally, paying}
use Rattle.linear_forms.proofs.Paces

-- a state at a place of one of the runtime's own functions
abbrev pub own_state : Function → (place : ℕ) → Frame → List Activation → World → State
own_state f place frame fs v = record { top = record { function = f; place = place; frame = frame }; frames = fs; world = v }

module _ (code : Code) where
  -- no more than there are steps
  pub at_most : (n : ℕ) (st : State) → paying code n st ≤ n
  at_most zero st = omega arith
  at_most (suc n) st = let one = Paces.one_at_most (pays_at code st) in let rest = go (step code st) (at_most n) in omega (arith, one, rest)
    where
      go : (x : Next) → ((m : State) → paying code n m ≤ n) → after (tally (pays_at code) code n) x ≤ n
      go (goes_to m) h = h m
      go (finishes e w) h = omega arith

  -- one that does not pay
  pub quiet_then : (n : ℕ) (st mid : State) → pays_at code st ≡ false → step code st ≡ goes_to mid → paying code (suc n) st ≡ paying code n mid
  quiet_then n st mid quiet h =
      let none : one_if (pays_at code st) ≡ 0 = ap one_if quiet in
      let both = Paces.tally_step code (pays_at code) n st mid h in
      omega (arith, none, both)

  -- and another
  pub quiet_once : (st : State) → pays_at code st ≡ false → paying code 2 st ≤ 1
  quiet_once st quiet = let none : one_if (pays_at code st) ≡ 0 = ap one_if quiet in let rest = go (step code st) in omega (arith, none, rest)
    where
      go : (x : Next) → after (tally (pays_at code) code 1) x ≤ 1
      go (goes_to m) = at_most 1 m
      go (finishes e w) = omega arith

  -- two that do not pay, and another
  pub quiet_twice : (st mid : State) → pays_at code st ≡ false → step code st ≡ goes_to mid → pays_at code mid ≡ false → paying code 3 st ≤ 1
  quiet_twice st mid quiet h still = let same = quiet_then 2 st mid quiet h in let rest = quiet_once mid still in omega (arith, same, rest)

  -- a handler is left, and its exception stays, is cleaned up, or its destructor is called
  pub leaves_once : (st : State) (frame : Frame) (fs : List Activation) (v : World) → pays_at code st ≡ false → step code st ≡ goes_to (own_state end_catch 0 frame fs v) → paying code 3 st ≤ 1
  leaves_once st frame fs v quiet h = quiet_twice st (own_state end_catch 0 frame fs v) quiet h refl

  -- a destructor comes back to end_catch
  pub destroyed_once : (st : State) (frame : Frame) (fs : List Activation) (v : World) → pays_at code st ≡ false → step code st ≡ goes_to (own_state end_catch 2 frame fs v) → paying code 3 st ≤ 1
  destroyed_once st frame fs v quiet h = quiet_twice st (own_state end_catch 2 frame fs v) quiet h refl

  -- end_catch behind a destructor
  catch_tail : (frame : Frame) (fs : List Activation) (v : World) → paying code 2 (own_state end_catch 2 frame fs v) ≡ 0
  catch_tail frame fs v = go (may_free end_catch v (exception_in_slot frame 0))
    where
      none_at_return : (u : World) → paying code 1 (own_state end_catch 3 frame fs u) ≡ 0
      none_at_return u = Paces.tally_once code (pays_at code) (own_state end_catch 3 frame fs u)

      go : (b : Bool) → 0 + after (tally (pays_at code) code 1) (next_if b v (goes_to (own_state end_catch 3 frame fs (freed (exception_in_slot frame 0) v)))) ≡ 0
      go true = let none = none_at_return (freed (exception_in_slot frame 0) v) in omega (arith, none)
      go false = refl

  -- a handler is left of an exception without a destructor
  pub freed_once : (st mid : State) (frame : Frame) (fs : List Activation) (v : World) → pays_at code st ≡ false → step code st ≡ goes_to mid → pays_at code mid ≡ false → step code mid ≡ goes_to (own_state end_catch 1 frame fs v)
      → frame.slots 1 ≡ nothing → paying code 5 st ≤ 1
  freed_once st mid frame fs v quiet h still g none =
      let held : step code (own_state end_catch 1 frame fs v) ≡ goes_to (own_state end_catch 2 frame fs (given v)) = ap (λ x. destroyed code x (frame.slots 0) (record { function = end_catch; place = 1; frame = frame }) fs v) none in
      let first = quiet_then 4 st mid quiet h in
      let second = quiet_then 3 mid (own_state end_catch 1 frame fs v) still g in
      let third = Paces.tally_step code (pays_at code) 2 (own_state end_catch 1 frame fs v) (own_state end_catch 2 frame fs (given v)) held in
      let pays : one_if (pays_at code (own_state end_catch 1 frame fs v)) ≡ 1 = refl in
      let tail = catch_tail frame fs (given v) in
      omega (arith, first, second, third, pays, tail)
    where
      given : World → World
      given u = if is_bad (type_at u (exception_of (address_in (frame.slots 0)))) then empty_call fs u else u

  -- terminate without a handler
  none_called : (fs : List Activation) (v : World) → paying code 2 (own_state terminating 0 (stub_frame nothing nothing nothing) fs v) ≤ 1
  none_called fs v =
      let last = Paces.tally_once code (pays_at code) (own_state terminating 1 (stub_frame nothing nothing nothing) fs v) in
      let both = Paces.tally_step code (pays_at code) 1 (own_state terminating 0 (stub_frame nothing nothing nothing) fs v) (own_state terminating 1 (stub_frame nothing nothing nothing) fs v) refl in
      let none : one_if (pays_at code (own_state terminating 1 (stub_frame nothing nothing nothing) fs v)) ≡ 0 = refl in
      let one : one_if (pays_at code (own_state terminating 0 (stub_frame nothing nothing nothing) fs v)) ≡ 1 = refl in
      omega (arith, last, both, none, one)

  -- an operation that terminates, where no handler is called
  pub aborts_once : (st : State) (h : Option ℕ) (fs : List Activation) (v : World) → pays_at code st ≡ false → step code st ≡ terminated h fs v → (v.ending ≡ true) ⊎ (h ≡ None) → paying code 3 st ≤ 1
  aborts_once st h fs v quiet is none =
      let first : one_if (pays_at code st) ≡ 0 = ap one_if quiet in
      let rest = ap (after (tally (pays_at code) code 2)) is in
      let few = by none in omega (arith, first, rest, few)
    where
      without : (b : Bool) (o : Option ℕ) → v.ending ≡ b → (b ≡ true) ⊎ (o ≡ None) → after (tally (pays_at code) code 2) (terminated o fs v) ≤ 1
      without true o e g = subst (λ x. x ≤ 1) (sym (ap (λ b. after (tally (pays_at code) code 2) (ends_or b o)) e)) (omega arith)
        where
          ends_or : Bool → Option ℕ → Next
          ends_or b p = terminated p fs (record v { ending = b })
      without false None e g = subst (λ b. after (tally (pays_at code) code 2) (terminated None fs (record v { ending = b })) ≤ 1) (sym e) (none_called fs (record v { ending = false }))
      without false (Some m) e (inl no_such) = absurd (cc no_such)
      without false (Some m) e (inr no_such) = absurd (cc no_such)

      by : (v.ending ≡ true) ⊎ (h ≡ None) → after (tally (pays_at code) code 2) (terminated h fs v) ≤ 1
      by (inl e) = without v.ending h refl (inl e)
      by (inr e) = without v.ending h refl (inr e)
