-- What unwinding and terminate come to.
use Rattle.std.proofs.Common.{arith, ℕ, ◌+◌, ◌≤◌, List, [], ◌∷◌, Option, Some, None, inl, inr}
use Rattle.std.specs.Prelude.{ℤ, pos, ◌==◌, Bool, true, false, length, is_some, if◌then◌else◌}
use Rattle.region_forms.specs.World.{Word, nothing, number_word, flying, unwinding, with_slot, Frame, World, Exception, building, native, foreign, exception_at, type_at}
use Rattle.region_forms.specs.Effect.{flies, entered_doomed}
use Rattle.linear_forms.specs.Linear.{UnitCode, plain, label, jump, jump_zero, pad, jump_filter, free, resume, unexpected, return}
use Rattle.linear_forms.specs.Tables.{Cover, bare, unpadded, padded}
use Rattle.linear_forms.specs.Verdict.{Verdict, target, no_way, clean, nothing_here, pad_verdict, has_cleanup}
use Rattle.linear_forms.specs.Stub.{Function, compiled, end_catch, terminating, call_unexpected, CodeOp, linear, runtime}
use Rattle.meaning_forms.specs.Outcome.{aborted}
use Rattle.linear_forms.specs.Activation.{Activation, Next, finishes, by_program, fault, at, fetch, look, sense, terminated, stub_frame, function_word}
use Rattle.linear_forms.specs.Search.{found}
use Rattle.linear_forms.specs.Unwinding.{pad_entered, unwound_by, unwound_at, unwound_above, unwind, doomed_by, doomed, raised_to, raise}
use Rattle.linear_forms.specs.Forced.{forced_by, forced_at, forced_above, force}
use Rattle.linear_forms.specs.UnitRun.{code_of}
use Rattle.address_bounds.specs.Reaches.{Needs, exception_bytes}
use Rattle.address_invariant.specs.Extents.{Extents}
use Rattle.address_invariant.specs.Reaching.{reach_in, CallReaches, CallsReach}
use Rattle.address_invariant.proofs.Following.{Grows, FrameComes, WordComes, CallComes, Reached, number_comes, slot_comes, old_frame, goes_at}

-- no function needs more than an exception object has
pub reach_small : (needs : Needs) → ((n s : ℕ) → needs n s ≤ exception_bytes) → (f : Function) (s : ℕ) → reach_in needs f s ≤ exception_bytes
reach_small needs small (compiled n) s = small n s
reach_small needs small end_catch s = omega arith
reach_small needs small terminating s = omega arith
reach_small needs small call_unexpected s = omega arith

-- a call of one of the runtime's own, whose slots hold these words
pub stub_slots : (P : Word → Type 0) (a b c : Word) (s : ℕ) → P a → P b → P c → P nothing → P ((stub_frame a b c).slots s)
stub_slots P a b c s ha hb hc hn = one (s == 0)
  where
    three : (t : Bool) → P (if t then c else nothing)
    three true = hc
    three false = hn

    two : (t : Bool) → P (if t then b else if s == 2 then c else nothing)
    two true = hb
    two false = three (s == 2)

    one : (t : Bool) → P (if t then a else if s == 1 then b else if s == 2 then c else nothing)
    one true = ha
    one false = two (s == 1)

module _ (x : Extents) (u : UnitCode) (needs : Needs) (v : World) (small : (n s : ℕ) → needs n s ≤ exception_bytes) where
  pub function_comes : (w : World) (h : Option ℕ) (n : ℕ) → WordComes x v w (function_word h) n
  function_comes w None n b e = cc e
  function_comes w (Some h) n b e = cc e

  pub nothing_comes : (w : World) (n : ℕ) → WordComes x v w nothing n
  nothing_comes w n b e = cc e

  pub call_comes : (w : World) (f : Function) (frame : Frame) → CallReaches x u needs v f frame → CallComes x u v w f frame.call
  call_comes w f frame h = inl (h.begun, h.variables)

  pub terminate_reached : (h : Option ℕ) (fs : List Activation) (w : World) → Grows v w → CallsReach x u needs v fs → Reached x u needs v (terminated h fs w)
  terminate_reached h fs w grows waiting = by w.ending
    where
      held : (w : World) → FrameComes x needs v w terminating (stub_frame (function_word h) nothing nothing)
      held w s = stub_slots (λ word. WordComes x v w word 0) (function_word h) nothing nothing s (function_comes w h 0) (nothing_comes w 0) (nothing_comes w 0) (nothing_comes w 0)

      begun : World
      begun = record w { ending = is_some h }

      by : (t : Bool) → Reached x u needs v (if t then finishes (by_program aborted) w else at terminating 0 (stub_frame (function_word h) nothing nothing) fs begun)
      by true = tt
      by false = record { grows = record { calls = grows.calls; last_number = grows.last_number }; top = inl (tt, tt); held = held begun; waiting = waiting }

  -- what is on its way and enters pads
  abbrev pub IsOnWay : World → Word → Type 0
  IsOnWay w word = (f : Function) (s : ℕ) → WordComes x v w word (reach_in needs f s)

  pub flight_comes : (w : World) (e t : ℕ) → e ≤ w.last_number → IsOnWay w (flying e t)
  flight_comes w e t made f s b is = inr (e, cc is, made, reach_small needs small f s)

  pub forced_comes : (w : World) (n : ℤ) → IsOnWay w (unwinding n)
  forced_comes w n f s b is = cc is

  pub pad_reached : (o : Option CodeOp) (word : Word) (n : ℤ) (f : Function) (p : ℕ) (frame : Frame) (fs : List Activation) (w : World) → Grows v w → IsOnWay w word → CallReaches x u needs v f frame →
      CallsReach x u needs v fs → Reached x u needs v (pad_entered o word n f p frame fs w)
  pad_reached (Some (linear (pad o s))) word n f p frame fs w grows way call waiting =
      goes_at x u needs v f (p + 1) (with_slot s (number_word n) (with_slot o word frame)) fs w grows (call_comes w f frame call)
      (slot_comes x u needs v w f (with_slot o word frame) s (number_word n) (slot_comes x u needs v w f frame o word (old_frame x u needs v w f frame call) (way f o)) (number_comes x u needs v w n (reach_in needs f s)))
      waiting
  pad_reached None word n f p frame fs w grows way call waiting = tt
  pad_reached (Some (runtime o)) word n f p frame fs w grows way call waiting = tt
  pad_reached (Some (linear (plain o))) word n f p frame fs w grows way call waiting = tt
  pad_reached (Some (linear (label l))) word n f p frame fs w grows way call waiting = tt
  pad_reached (Some (linear (jump l))) word n f p frame fs w grows way call waiting = tt
  pad_reached (Some (linear (jump_zero a l))) word n f p frame fs w grows way call waiting = tt
  pad_reached (Some (linear (jump_filter s a l))) word n f p frame fs w grows way call waiting = tt
  pad_reached (Some (linear (free s))) word n f p frame fs w grows way call waiting = tt
  pad_reached (Some (linear (resume s))) word n f p frame fs w grows way call waiting = tt
  pad_reached (Some (linear (unexpected o s))) word n f p frame fs w grows way call waiting = tt
  pad_reached (Some (linear (return r))) word n f p frame fs w grows way call waiting = tt

  -- ---- an exception

  by_reached : (verdict : Verdict) (p t e : ℕ) (f : Function) (frame : Frame) (fs : List Activation) (w : World) (rest : Next) → Grows v w → e ≤ w.last_number → CallReaches x u needs v f frame →
      CallsReach x u needs v fs → Reached x u needs v rest → Reached x u needs v (unwound_by (code_of u) verdict p t e f frame fs w rest)
  by_reached (target n) p t e f frame fs w rest grows made call waiting ok = by (length fs == t)
    where
      by : (b : Bool) → Reached x u needs v (if b then pad_entered (fetch (code_of u) f p) (flying e t) n f p frame fs w else finishes fault w)
      by true = pad_reached (fetch (code_of u) f p) (flying e t) n f p frame fs w grows (flight_comes w e t made) call waiting
      by false = tt
  by_reached no_way p t e f frame fs w rest grows made call waiting ok = terminate_reached w.installed.terminate_handler (record { function = f; place = 0; frame = frame } ∷ fs) w grows (call, waiting)
  by_reached clean p t e f frame fs w rest grows made call waiting ok = pad_reached (fetch (code_of u) f p) (flying e t) (pos 0) f p frame fs w grows (flight_comes w e t made) call waiting
  by_reached nothing_here p t e f frame fs w rest grows made call waiting ok = ok

  at_reached : (cover : Cover) (t e : ℕ) (f : Function) (frame : Frame) (fs : List Activation) (w : World) (rest : Next) → Grows v w → e ≤ w.last_number → CallReaches x u needs v f frame →
      CallsReach x u needs v fs → Reached x u needs v rest → Reached x u needs v (unwound_at (code_of u) cover t e f frame fs w rest)
  at_reached bare t e f frame fs w rest grows made call waiting ok = terminate_reached w.installed.terminate_handler (record { function = f; place = 0; frame = frame } ∷ fs) w grows (call, waiting)
  at_reached unpadded t e f frame fs w rest grows made call waiting ok = ok
  at_reached (padded p chain) t e f frame fs w rest grows made call waiting ok =
      by_reached (pad_verdict (code_of u).rows (sense (code_of u) f) chain (type_at w e)) p t e f frame fs w rest grows made call waiting ok

  above_reached : (t e : ℕ) (fs : List Activation) (w : World) → Grows v w → e ≤ w.last_number → CallsReach x u needs v fs → Reached x u needs v (unwound_above (code_of u) t e fs w)
  above_reached t e [] w grows made waiting = tt
  above_reached t e (a ∷ fs) w grows made waiting =
      at_reached (look (code_of u) a.function a.place) t e a.function a.frame fs w (unwound_above (code_of u) t e fs w) grows made waiting.0 waiting.1 (above_reached t e fs w grows made waiting.1)

  pub unwind_reached : (cover : Cover) (t e : ℕ) (f : Function) (frame : Frame) (fs : List Activation) (w : World) → Grows v w → e ≤ w.last_number → CallReaches x u needs v f frame →
      CallsReach x u needs v fs → Reached x u needs v (unwind (code_of u) cover t e f frame fs w)
  unwind_reached cover t e f frame fs w grows made call waiting = at_reached cover t e f frame fs w (unwound_above (code_of u) t e fs w) grows made call waiting (above_reached t e fs w grows made waiting)

  doomed_reached : (e : ℕ) (fs : List Activation) (w : World) → Grows v w → CallsReach x u needs v fs → Reached x u needs v (doomed e fs w)
  doomed_reached e fs w grows waiting = by w.ending
    where
      one : (y : Exception) → Reached x u needs v (doomed_by e y fs w)
      one (native t d handlers) = terminate_reached handlers.terminate_handler fs (entered_doomed e w) (record { calls = grows.calls; last_number = grows.last_number }) waiting
      one building = terminate_reached w.installed.terminate_handler fs w grows waiting
      one (foreign k t) = terminate_reached w.installed.terminate_handler fs w grows waiting

      by : (b : Bool) → Reached x u needs v (if b then finishes (by_program aborted) w else doomed_by e (exception_at w e) fs w)
      by true = tt
      by false = one (exception_at w e)

  pub raise_reached : (e : ℕ) (a : Activation) (fs : List Activation) (w : World) → Grows v w → e ≤ w.last_number → CallReaches x u needs v a.function a.frame → CallsReach x u needs v fs →
      Reached x u needs v (raise (code_of u) e a fs w)
  raise_reached e a fs w grows made call waiting = by (found (code_of u) a.function (look (code_of u) a.function a.place) (type_at w e) fs)
    where
      by : (t : Option ℕ) → Reached x u needs v (raised_to t e (a ∷ fs) w (λ t. unwind (code_of u) (look (code_of u) a.function a.place) t e a.function a.frame fs (flies e w)))
      by None = doomed_reached e (a ∷ fs) w grows (call, waiting)
      by (Some t) = unwind_reached (look (code_of u) a.function a.place) t e a.function a.frame fs (flies e w) (record { calls = grows.calls; last_number = grows.last_number }) made call waiting

  -- ---- a forced unwind

  forced_by_reached : (b : Bool) (p : ℕ) (n : ℤ) (f : Function) (frame : Frame) (fs : List Activation) (w : World) (rest : Next) → Grows v w → CallReaches x u needs v f frame → CallsReach x u needs v fs →
      Reached x u needs v rest → Reached x u needs v (forced_by (code_of u) b p n f frame fs w rest)
  forced_by_reached true p n f frame fs w rest grows call waiting ok = pad_reached (fetch (code_of u) f p) (unwinding n) (pos 0) f p frame fs w grows (forced_comes w n) call waiting
  forced_by_reached false p n f frame fs w rest grows call waiting ok = ok

  forced_at_reached : (cover : Cover) (n : ℤ) (f : Function) (frame : Frame) (fs : List Activation) (w : World) (rest : Next) → Grows v w → CallReaches x u needs v f frame → CallsReach x u needs v fs →
      Reached x u needs v rest → Reached x u needs v (forced_at (code_of u) cover n f frame fs w rest)
  forced_at_reached bare n f frame fs w rest grows call waiting ok = terminate_reached w.installed.terminate_handler (record { function = f; place = 0; frame = frame } ∷ fs) w grows (call, waiting)
  forced_at_reached unpadded n f frame fs w rest grows call waiting ok = ok
  forced_at_reached (padded p chain) n f frame fs w rest grows call waiting ok = forced_by_reached (has_cleanup (sense (code_of u) f) chain) p n f frame fs w rest grows call waiting ok

  forced_above_reached : (n : ℤ) (fs : List Activation) (w : World) → Grows v w → CallsReach x u needs v fs → Reached x u needs v (forced_above (code_of u) n fs w)
  forced_above_reached n [] w grows waiting = tt
  forced_above_reached n (a ∷ fs) w grows waiting =
      forced_at_reached (look (code_of u) a.function a.place) n a.function a.frame fs w (forced_above (code_of u) n fs w) grows waiting.0 waiting.1 (forced_above_reached n fs w grows waiting.1)

  pub force_reached : (cover : Cover) (n : ℤ) (f : Function) (frame : Frame) (fs : List Activation) (w : World) → Grows v w → CallReaches x u needs v f frame → CallsReach x u needs v fs →
      Reached x u needs v (force (code_of u) cover n f frame fs w)
  force_reached cover n f frame fs w grows call waiting = forced_at_reached cover n f frame fs w (forced_above (code_of u) n fs w) grows call waiting (forced_above_reached n fs w grows waiting)
