-- Where an exception or a forced unwind comes to a landing pad, this is in front of the place that linear code comes to, and its words are paid for.
use Rattle.std.proofs.Common.{◌≡◌, ℤ, pos, ℕ, suc, ◌+◌, ◌⊎◌, inl, inr, Bool, true, false, List, [], ◌∷◌, length, Option, Some, None, refl, ap, ◌∙◌, subst, ◌==◌, is_some, if◌then◌else◌, arith}
use Rattle.meaning_forms.specs.Outcome.{aborted}
use Rattle.region_forms.specs.World.{Word, nothing, flying, unwinding, Frame, World, Exception, building, native, foreign, exception_at, type_at}
use Rattle.region_forms.specs.Effect.{entered_doomed, flies}
use Rattle.linear_forms.specs.Linear.{plain, label, jump, jump_zero, pad, jump_filter, free, resume, unexpected, return}
use Rattle.linear_forms.specs.Tables.{Cover, bare, unpadded, padded}
use Rattle.linear_forms.specs.Verdict.{Verdict, target, no_way, clean, nothing_here, pad_verdict, has_cleanup}
use Rattle.linear_forms.specs.Stub.{Function, terminating, CodeOp, linear, runtime}
use Rattle.linear_forms.specs.Activation.{Code, Activation, State, Next, goes_to, finishes, by_program, fault, fetch, look, sense, at, stub_frame, function_word, terminated}
use Rattle.linear_forms.specs.Search.{found}
use Rattle.linear_forms.specs.Unwinding.{pad_entered, unwound_by, unwound_at, unwound_above, unwind, doomed_by, doomed, raised_to, raise}
use Rattle.linear_forms.specs.Forced.{forced_by, forced_at, forced_above, force}
use Rattle.cost_turns.specs.Weights.{is_own, pad_weight}
use Rattle.cost_turns.specs.Runs.{in_front, may_land, entered}
use Rattle.cost_words.specs.Spends.{op_weight}

-- a landing pad is in front of the place of a state
pub record AtPad (code : Code) (next : State) : Type 0 where
  pub object : ℕ
  pub selector : ℕ
  pub front : in_front code next.top.function next.top.place ≡ Some (linear (pad object selector))

-- so it is of the next state, or terminate begins
abbrev pub Lands : Code → Next → Type 0
Lands code (finishes e w) = Unit {0}
Lands code (goes_to next) = (next.top.function ≡ terminating) ⊎ AtPad code next

module _ (code : Code) where
  terminated_lands : (h : Option ℕ) (fs : List Activation) (w : World) → Lands code (terminated h fs w)
  terminated_lands h fs w = go w.ending
    where
      go : (b : Bool) → Lands code (if b then finishes (by_program aborted) w else at terminating 0 (stub_frame (function_word h) nothing nothing) fs (record w { ending = is_some h }))
      go true = tt
      go false = inl refl

  pad_lands : (f : Function) (q : ℕ) (x : Word) (z : ℤ) (frame : Frame) (fs : List Activation) (w : World) → Lands code (pad_entered (fetch code f q) x z f q frame fs w)
  pad_lands f q x z frame fs w = go (fetch code f q) refl
    where
      behind : in_front code f (q + 1) ≡ fetch code f q
      behind = let count : q + 1 ≡ suc q = omega arith in ap (in_front code f) count

      go : (o : Option CodeOp) → fetch code f q ≡ o → Lands code (pad_entered o x z f q frame fs w)
      go None e = tt
      go (Some (linear (pad o s))) e = inr (record { object = o; selector = s; front = behind ∙ e })
      go (Some (linear (plain o))) e = tt
      go (Some (linear (label l))) e = tt
      go (Some (linear (jump l))) e = tt
      go (Some (linear (jump_zero v l))) e = tt
      go (Some (linear (jump_filter s m l))) e = tt
      go (Some (linear (free s))) e = tt
      go (Some (linear (resume s))) e = tt
      go (Some (linear (unexpected o s))) e = tt
      go (Some (linear (return r))) e = tt
      go (Some (runtime o)) e = tt

  unwound_lands : (c : Cover) (t e : ℕ) (f : Function) (x : Frame) (fs : List Activation) (w : World) (rest : Next) → Lands code rest → Lands code (unwound_at code c t e f x fs w rest)
  unwound_lands bare t e f x fs w rest h = terminated_lands w.installed.terminate_handler (record { function = f; place = 0; frame = x } ∷ fs) w
  unwound_lands unpadded t e f x fs w rest h = h
  unwound_lands (padded q chain) t e f x fs w rest h = by (pad_verdict code.rows (sense code f) chain (type_at w e))
    where
      by : (v : Verdict) → Lands code (unwound_by code v q t e f x fs w rest)
      by (target z) = go (length fs == t)
        where
          go : (b : Bool) → Lands code (if b then pad_entered (fetch code f q) (flying e t) z f q x fs w else finishes fault w)
          go true = pad_lands f q (flying e t) z x fs w
          go false = tt
      by no_way = terminated_lands w.installed.terminate_handler (record { function = f; place = 0; frame = x } ∷ fs) w
      by clean = pad_lands f q (flying e t) (pos 0) x fs w
      by nothing_here = h

  above_lands : (t e : ℕ) (fs : List Activation) (w : World) → Lands code (unwound_above code t e fs w)
  above_lands t e [] w = tt
  above_lands t e (a ∷ fs) w = unwound_lands (look code a.function a.place) t e a.function a.frame fs w (unwound_above code t e fs w) (above_lands t e fs w)

  pub unwind_lands : (c : Cover) (t e : ℕ) (f : Function) (x : Frame) (fs : List Activation) (w : World) → Lands code (unwind code c t e f x fs w)
  unwind_lands c t e f x fs w = unwound_lands c t e f x fs w (unwound_above code t e fs w) (above_lands t e fs w)

  forced_lands : (c : Cover) (z : ℤ) (f : Function) (x : Frame) (fs : List Activation) (w : World) (rest : Next) → Lands code rest → Lands code (forced_at code c z f x fs w rest)
  forced_lands bare z f x fs w rest h = terminated_lands w.installed.terminate_handler (record { function = f; place = 0; frame = x } ∷ fs) w
  forced_lands unpadded z f x fs w rest h = h
  forced_lands (padded q chain) z f x fs w rest h = by (has_cleanup (sense code f) chain)
    where
      by : (b : Bool) → Lands code (forced_by code b q z f x fs w rest)
      by true = pad_lands f q (unwinding z) (pos 0) x fs w
      by false = h

  all_forced_land : (z : ℤ) (fs : List Activation) (w : World) → Lands code (forced_above code z fs w)
  all_forced_land z [] w = tt
  all_forced_land z (a ∷ fs) w = forced_lands (look code a.function a.place) z a.function a.frame fs w (forced_above code z fs w) (all_forced_land z fs w)

  pub force_lands : (c : Cover) (z : ℤ) (f : Function) (x : Frame) (fs : List Activation) (w : World) → Lands code (force code c z f x fs w)
  force_lands c z f x fs w = forced_lands c z f x fs w (forced_above code z fs w) (all_forced_land z fs w)

  doomed_lands : (e : ℕ) (fs : List Activation) (w : World) → Lands code (doomed e fs w)
  doomed_lands e fs w = go w.ending
    where
      by : (x : Exception) → Lands code (doomed_by e x fs w)
      by (native t d handlers) = terminated_lands handlers.terminate_handler fs (entered_doomed e w)
      by building = terminated_lands w.installed.terminate_handler fs w
      by (foreign k t) = terminated_lands w.installed.terminate_handler fs w

      go : (b : Bool) → Lands code (if b then finishes (by_program aborted) w else doomed_by e (exception_at w e) fs w)
      go true = tt
      go false = by (exception_at w e)

  pub raise_lands : (e : ℕ) (a : Activation) (fs : List Activation) (w : World) → Lands code (raise code e a fs w)
  raise_lands e a fs w = go (found code a.function (look code a.function a.place) (type_at w e) fs)
    where
      go : (t : Option ℕ) → Lands code (raised_to t e (a ∷ fs) w (λ t. unwind code (look code a.function a.place) t e a.function a.frame fs (flies e w)))
      go None = doomed_lands e (a ∷ fs) w
      go (Some t) = unwind_lands (look code a.function a.place) t e a.function a.frame fs (flies e w)

  -- where terminate does not begin
  pub at_pad : (x : Next) (next : State) → Lands code x → x ≡ goes_to next → (next.top.function ≡ terminating → ⊥) → AtPad code next
  at_pad x next h e other = by (subst (Lands code) e h)
    where
      by : Lands code (goes_to next) → AtPad code next
      by (inl ends) = absurd (other ends)
      by (inr p) = p

  -- such a pad weighs 2
  pub pad_weighs : (st next : State) → may_land (fetch code st.top.function st.top.place) ≡ true → AtPad code next → entered code op_weight st next ≡ 2
  pad_weighs st next may p =
      ap (λ b. if b then pad_weight (op_weight (is_own next.top.function)) (in_front code next.top.function next.top.place) else 0) may ∙ ap (pad_weight (op_weight (is_own next.top.function))) p.front
      ∙ by (is_own next.top.function)
    where
      by : (b : Bool) → pad_weight (op_weight b) (Some (linear (pad p.object p.selector))) ≡ 2
      by true = refl
      by false = refl
