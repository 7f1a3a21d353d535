-- Whatever call an unwind comes to, the calls stand.
use Rattle.std.proofs.Common.{◌≡◌, ℕ, zero, suc, ◌+◌, ℤ, pos, Bool, true, false, List, [], ◌∷◌, length, ◌==◌, Option, Some, None, refl, sym, ap, ◌∙◌, subst}
use Rattle.meaning_forms.specs.Outcome.{aborted}
use Rattle.region_forms.specs.World.{Word, number_word, flying, unwinding, Frame, World, Exception, building, native, foreign, with_slot, exception_at, type_at}
use Rattle.region_forms.specs.Effect.{entered_doomed, flies}
use Rattle.linear_forms.specs.Linear.{plain, label, jump, jump_zero, pad, jump_filter, free, resume, unexpected, return}
use Rattle.linear_forms.specs.Tables.{Cover, bare, unpadded, padded}
use Rattle.linear_forms.specs.Verdict.{Verdict, target, no_way, clean, nothing_here, pad_verdict, has_cleanup}
use Rattle.linear_forms.specs.Stub.{Function, compiled, end_catch, terminating, call_unexpected, CodeOp, linear, runtime, stub_cover}
use Rattle.linear_forms.specs.Activation.{Code, Activation, Next, finishes, by_program, fault, fetch, look, sense}
use Rattle.linear_forms.specs.Search.{found}
use Rattle.linear_forms.specs.Unwinding.{pad_entered, terminated_in, unwound_by, unwound_at, unwound_above, unwind, doomed_by, raised_to, raise}
use Rattle.linear_forms.specs.Forced.{forced_by, forced_at, forced_above, force}
use Rattle.flight_homes.specs.Nest.{is_terminate}
use Rattle.flight_homes.proofs.Below.{Below, Goes, either, below_as, below_world, below_out, stand, terminated_goes}

is_terminating : (f : Function) → is_terminate f ≡ true → f ≡ terminating
is_terminating (compiled n) e = absurd (cc e)
is_terminating end_catch e = absurd (cc e)
is_terminating terminating e = refl
is_terminating call_unexpected e = absurd (cc e)

-- nothing may come out of terminate
bare_there : (p : ℕ) → stub_cover terminating p ≡ bare
bare_there zero = refl
bare_there (suc zero) = refl
bare_there (suc (suc p)) = refl

module _ (code : Code) (d : ℕ) where
  no_cover : (f : Function) (p : ℕ) → is_terminate f ≡ true → look code f p ≡ bare
  no_cover f p e = ap (λ g. look code g p) (is_terminating f e) ∙ bare_there p

  module _ (f : Function) (q : ℕ) (x : Frame) (fs : List Activation) (w : World) (b : Below d (record { function = f; place = q; frame = x } ∷ fs) w) where
    pad_goes : (o : Option CodeOp) (word : Word) (n : ℤ) (p : ℕ) → Goes d (pad_entered o word n f p x fs w)
    pad_goes None word n p = tt
    pad_goes (Some (runtime o)) word n p = tt
    pad_goes (Some (linear (plain o))) word n p = tt
    pad_goes (Some (linear (label l))) word n p = tt
    pad_goes (Some (linear (jump l))) word n p = tt
    pad_goes (Some (linear (jump_zero v l))) word n p = tt
    pad_goes (Some (linear (pad o s))) word n p =
        let y = with_slot s (number_word n) (with_slot o word x) in stand d f (p + 1) y fs w (below_as d f q (p + 1) x y fs w b)
    pad_goes (Some (linear (jump_filter s z l))) word n p = tt
    pad_goes (Some (linear (free s))) word n p = tt
    pad_goes (Some (linear (resume s))) word n p = tt
    pad_goes (Some (linear (unexpected o s))) word n p = tt
    pad_goes (Some (linear (return r))) word n p = tt

    ends_here : Goes d (terminated_in f x fs w)
    ends_here = terminated_goes d w.installed.terminate_handler (record { function = f; place = 0; frame = x }) fs w (below_as d f q 0 x x fs w b)

    module _ (rest : Next) (on : Goes d rest) where
      verdict_goes : (v : Verdict) (p t e : ℕ) → Goes d (unwound_by code v p t e f x fs w rest)
      verdict_goes (target n) p t e = either d (length fs == t) (pad_entered (fetch code f p) (flying e t) n f p x fs w) (finishes fault w) (pad_goes (fetch code f p) (flying e t) n p) tt
      verdict_goes no_way p t e = ends_here
      verdict_goes clean p t e = pad_goes (fetch code f p) (flying e t) (pos 0) p
      verdict_goes nothing_here p t e = on

      pub unwound_goes : (c : Cover) (t e : ℕ) → Goes d (unwound_at code c t e f x fs w rest)
      unwound_goes bare t e = ends_here
      unwound_goes unpadded t e = on
      unwound_goes (padded p chain) t e = verdict_goes (pad_verdict code.rows (sense code f) chain (type_at w e)) p t e

      cleanup_goes : (c : Bool) (p : ℕ) (z : ℤ) → Goes d (forced_by code c p z f x fs w rest)
      cleanup_goes true p z = pad_goes (fetch code f p) (unwinding z) (pos 0) p
      cleanup_goes false p z = on

      pub forced_goes : (c : Cover) (z : ℤ) → Goes d (forced_at code c z f x fs w rest)
      forced_goes bare z = ends_here
      forced_goes unpadded z = on
      forced_goes (padded p chain) z = cleanup_goes (has_cleanup (sense code f) chain) p z

  above_goes : (t e : ℕ) (fs : List Activation) (w : World) → Below d fs w → Goes d (unwound_above code t e fs w)
  above_goes t e [] w b = tt
  above_goes t e (a ∷ fs) w b = go (is_terminate a.function) refl (λ other. above_goes t e fs w (below_out d a fs w other b))
    where
      go : (c : Bool) → is_terminate a.function ≡ c → (is_terminate a.function ≡ false → Goes d (unwound_above code t e fs w)) →
          Goes d (unwound_at code (look code a.function a.place) t e a.function a.frame fs w (unwound_above code t e fs w))
      go true i rest =
          subst (λ c. Goes d (unwound_at code c t e a.function a.frame fs w (unwound_above code t e fs w))) (sym (no_cover a.function a.place i)) (ends_here a.function a.place a.frame fs w b)
      go false i rest = unwound_goes a.function a.place a.frame fs w b (unwound_above code t e fs w) (rest i) (look code a.function a.place) t e

  pub forced_above_goes : (z : ℤ) (fs : List Activation) (w : World) → Below d fs w → Goes d (forced_above code z fs w)
  forced_above_goes z [] w b = tt
  forced_above_goes z (a ∷ fs) w b = go (is_terminate a.function) refl (λ other. forced_above_goes z fs w (below_out d a fs w other b))
    where
      go : (c : Bool) → is_terminate a.function ≡ c → (is_terminate a.function ≡ false → Goes d (forced_above code z fs w)) →
          Goes d (forced_at code (look code a.function a.place) z a.function a.frame fs w (forced_above code z fs w))
      go true i rest =
          subst (λ c. Goes d (forced_at code c z a.function a.frame fs w (forced_above code z fs w))) (sym (no_cover a.function a.place i)) (ends_here a.function a.place a.frame fs w b)
      go false i rest = forced_goes a.function a.place a.frame fs w b (forced_above code z fs w) (rest i) (look code a.function a.place) z

  -- from a call that is not terminate's
  module _ (a : Activation) (fs : List Activation) (other : is_terminate a.function ≡ false) where
    pub unwind_goes : (c : Cover) (t e : ℕ) (w : World) → Below d (a ∷ fs) w → Goes d (unwind code c t e a.function a.frame fs w)
    unwind_goes c t e w b = unwound_goes a.function a.place a.frame fs w b (unwound_above code t e fs w) (above_goes t e fs w (below_out d a fs w other b)) c t e

    pub force_goes : (c : Cover) (z : ℤ) (w : World) → Below d (a ∷ fs) w → Goes d (force code c z a.function a.frame fs w)
    force_goes c z w b = forced_goes a.function a.place a.frame fs w b (forced_above code z fs w) (forced_above_goes z fs w (below_out d a fs w other b)) c z

    doomed_goes : (e : ℕ) (x : Exception) (w : World) → Below d (a ∷ fs) w → Goes d (doomed_by e x (a ∷ fs) w)
    doomed_goes e building w b = terminated_goes d w.installed.terminate_handler a fs w b
    doomed_goes e (native t k handlers) w b =
        terminated_goes d handlers.terminate_handler a fs (entered_doomed e w) (below_world d (a ∷ fs) (entered_doomed e w) w (record { ending = refl; deepest = refl }) b)
    doomed_goes e (foreign k t) w b = terminated_goes d w.installed.terminate_handler a fs w b

    raised_goes : (o : Option ℕ) (e : ℕ) (w : World) → Below d (a ∷ fs) w →
        Goes d (raised_to o e (a ∷ fs) w (λ t. unwind code (look code a.function a.place) t e a.function a.frame fs (flies e w)))
    raised_goes None e w b = either d w.ending (finishes (by_program aborted) w) (doomed_by e (exception_at w e) (a ∷ fs) w) tt (doomed_goes e (exception_at w e) w b)
    raised_goes (Some t) e w b =
        unwind_goes (look code a.function a.place) t e (flies e w) (below_world d (a ∷ fs) (flies e w) w (record { ending = refl; deepest = refl }) b)

    pub raise_goes : (e : ℕ) (w : World) → Below d (a ∷ fs) w → Goes d (raise code e a fs w)
    raise_goes e w b = raised_goes (found code a.function (look code a.function a.place) (type_at w e) fs) e w b
