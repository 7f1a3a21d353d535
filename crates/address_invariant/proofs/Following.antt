-- What a step comes to: the calls that wait stay, and each address in the slots of the call that runs is an old one or that of an exception.
use Rattle.std.proofs.Common.{◌≡◌, ◌∙◌, refl, sym, subst, arith, ℕ, ◌<◌, ◌≤◌, List, [], ◌∷◌, Some, inl, inr}
use Rattle.std.specs.Prelude.{⊤, ◌⊎◌, ◌==◌, Bool, true, false, if◌then◌else◌}
use Rattle.region_forms.specs.World.{Base, of_global, of_variable, of_exception, Address, Word, number_word, address_in, object_address, with_slot, Frame, World}
use Rattle.std.proofs.lemmas.Bool.Decides.{nat_tests}
use Rattle.linear_forms.specs.Linear.{UnitCode}
use Rattle.linear_forms.specs.Stub.{Function, compiled, end_catch, terminating, call_unexpected}
use Rattle.linear_forms.specs.Activation.{Activation, State, Next, goes_to, finishes, at}
use Rattle.machine_simulation.specs.Calls.{IsBegun}
use Rattle.address_bounds.specs.Reaches.{Needs, exception_bytes}
use Rattle.address_invariant.specs.Extents.{Extents, LiesInside}
use Rattle.address_invariant.specs.Reaching.{reach_in, IsBegunCall, VariablesLie, CallReaches, CallsReach, Reaches}
use Rattle.address_invariant.specs.Laws.{GoesOn}

-- calls and exceptions are counted on
pub record Grows (v w : World) : Type 0 where
  pub calls : v.calls ≤ w.calls
  pub last_number : v.last_number ≤ w.last_number

-- an address with so many bytes behind it is an old one, or begins an exception object
abbrev pub Comes : Extents → (v w : World) → Address → ℕ → Type 0
Comes x v w b n = LiesInside x v b n ⊎ ((e : ℕ) × (b ≡ object_address e) × (e ≤ w.last_number) × (n ≤ exception_bytes))

-- the addresses in a call's slots
abbrev pub FrameComes : Extents → Needs → (v w : World) → Function → Frame → Type 0
FrameComes x needs v w f frame = (s : ℕ) (b : Address) → address_in (frame.slots s) ≡ Some b → Comes x v w b (reach_in needs f s)

-- the address in a word
abbrev pub WordComes : Extents → (v w : World) → Word → ℕ → Type 0
WordComes x v w word n = (b : Address) → address_in word ≡ Some b → Comes x v w b n

-- a call is one that was open, or has a new number
abbrev pub CallComes : Extents → UnitCode → (v w : World) → Function → ℕ → Type 0
CallComes x u v w f c = (IsBegunCall v f c × VariablesLie x u f c) ⊎ ((c ≡ v.calls) × (v.calls < w.calls))

-- a state comes after a world
pub record Follows (x : Extents) (u : UnitCode) (needs : Needs) (v : World) (next : State) : Type 0 where
  pub grows : Grows v next.world
  pub top : CallComes x u v next.world next.top.function next.top.frame.call
  pub held : FrameComes x needs v next.world next.top.function next.top.frame
  pub waiting : CallsReach x u needs v next.frames

abbrev pub Reached : Extents → UnitCode → Needs → World → Next → Type 0
Reached x u needs v (goes_to next) = Follows x u needs v next
Reached x u needs v (finishes e w) = ⊤

module _ (x y : Extents) (u : UnitCode) (needs : Needs) (v : World) (next : State) (goes_on : GoesOn x y u v next) where
  still_begun : Grows v next.world → (b : Base) → IsBegun v b → IsBegun next.world b
  still_begun grows (of_global g) h = h
  still_begun grows (of_variable c s) h = omega (arith, h, grows.calls)
  still_begun grows (of_exception e) h = omega (arith, h, grows.last_number)

  still_inside : Grows v next.world → (b : Address) (n : ℕ) → LiesInside x v b n → LiesInside y next.world b n
  still_inside grows b n h =
      let same = goes_on.same b.base h.begun in
      record { begun = still_begun grows b.base h.begun; ints = same.0 ∙ h.ints; within = omega (arith, h.within, same.1); whole = h.whole }

  comes_inside : Grows v next.world → (b : Address) (n : ℕ) → Comes x v next.world b n → LiesInside y next.world b n
  comes_inside grows b n (inl h) = still_inside grows b n h
  comes_inside grows b n (inr (e, is, made, few)) =
      let object = goes_on.objects.exceptions e made in
      subst (λ a. LiesInside y next.world a n) (sym is) (record { begun = made; ints = object.0; within = omega (arith, object.1, few); whole = refl })

  -- variables of a call that was open
  still_variables : (f : Function) (c : ℕ) → IsBegunCall v f c → VariablesLie x u f c → VariablesLie y u f c
  still_variables (compiled n) c begun h = λ s slot there is.
      let lies = h s slot there is in
      let same = goes_on.same (of_variable c s) begun in (same.0 ∙ lies.0, omega (arith, lies.1, same.1))
  still_variables end_catch c begun h = tt
  still_variables terminating c begun h = tt
  still_variables call_unexpected c begun h = tt

  begun_call : Grows v next.world → (f : Function) (c : ℕ) → IsBegunCall v f c → IsBegunCall next.world f c
  begun_call grows (compiled n) c h = omega (arith, h, grows.calls)
  begun_call grows end_catch c h = tt
  begun_call grows terminating c h = tt
  begun_call grows call_unexpected c h = tt

  new_call : (f : Function) (c : ℕ) → c < next.world.calls → IsBegunCall next.world f c
  new_call (compiled n) c h = h
  new_call end_catch c h = tt
  new_call terminating c h = tt
  new_call call_unexpected c h = tt

  still_reaches : Grows v next.world → (f : Function) (frame : Frame) → CallReaches x u needs v f frame → CallReaches y u needs next.world f frame
  still_reaches grows f frame h = record {
    begun = begun_call grows f frame.call h.begun;
    variables = still_variables f frame.call h.begun h.variables;
    held = λ s b e. still_inside grows b (reach_in needs f s) (h.held s b e);
  }

  still_wait : Grows v next.world → (fs : List Activation) → CallsReach x u needs v fs → CallsReach y u needs next.world fs
  still_wait grows [] h = tt
  still_wait grows (a ∷ fs) h = (still_reaches grows a.function a.frame h.0, still_wait grows fs h.1)

  pub follows_reach : Follows x u needs v next → Reaches y u needs next
  follows_reach h = record { objects = goes_on.objects; calls = (top h.top, still_wait h.grows next.frames h.waiting) }
    where
      top : CallComes x u v next.world next.top.function next.top.frame.call → CallReaches y u needs next.world next.top.function next.top.frame
      top (inl old) = record {
        begun = begun_call h.grows next.top.function next.top.frame.call old.0;
        variables = still_variables next.top.function next.top.frame.call old.0 old.1;
        held = λ s b e. comes_inside h.grows b (reach_in needs next.top.function s) (h.held s b e);
      }
      top (inr new) = record {
        begun = new_call next.top.function next.top.frame.call (omega (arith, new.0, new.1));
        variables = goes_on.opened new.0;
        held = λ s b e. comes_inside h.grows b (reach_in needs next.top.function s) (h.held s b e);
      }

module _ (x : Extents) (u : UnitCode) (needs : Needs) (v : World) where
  -- ---- words in slots

  pub number_comes : (w : World) (z : _) (n : ℕ) → WordComes x v w (number_word z) n
  number_comes w z n b e = cc e

  pub slot_comes : (w : World) (f : Function) (frame : Frame) (s : ℕ) (word : Word) → FrameComes x needs v w f frame → WordComes x v w word (reach_in needs f s) → FrameComes x needs v w f (with_slot s word frame)
  slot_comes w f frame s word h new t b = by (s == t) refl
    where
      by : (test : Bool) → (s == t) ≡ test → address_in (if test then word else frame.slots t) ≡ Some b → Comes x v w b (reach_in needs f t)
      by true same e =
          let one : s ≡ t = grind (arith, nat_tests, same) in
          subst (λ k. Comes x v w b (reach_in needs f k)) one (new b e)
      by false same e = h t b e

  -- an open call's slots
  pub old_frame : (w : World) (f : Function) (frame : Frame) → CallReaches x u needs v f frame → FrameComes x needs v w f frame
  old_frame w f frame h s b e = inl (h.held s b e)

  pub goes_at : (f : Function) (place : ℕ) (frame : Frame) (fs : List Activation) (w : World) → Grows v w → CallComes x u v w f frame.call → FrameComes x needs v w f frame → CallsReach x u needs v fs →
      Reached x u needs v (at f place frame fs w)
  goes_at f place frame fs w grows call held waiting = record { grows = grows; top = call; held = held; waiting = waiting }
