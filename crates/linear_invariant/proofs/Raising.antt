-- An exception that is raised, one that goes on, and a forced unwind keep what the open calls keep.
use Rattle.std.proofs.Common.{◌≡◌, ℕ, ◌+◌, ℤ, Bool, true, false, List, [], ◌∷◌, Option, Some, None, refl, sym, subst, arith}
use Rattle.std.specs.Prelude.{⊤}
use Rattle.meaning_forms.specs.Class.{contains}
use Rattle.meaning_forms.specs.Outcome.{aborted}
use Rattle.region_forms.specs.Lives.{can_travel, is_on_top}
use Rattle.region_forms.specs.World.{Frame, World, Exception, building, native, foreign, exception_at, type_at, flying, unwinding}
use Rattle.region_forms.specs.Effect.{entered_doomed, flies}
use Rattle.linear_forms.specs.Tables.{Cover, bare, unpadded, padded}
use Rattle.linear_forms.specs.Verdict.{has_cleanup}
use Rattle.linear_forms.specs.Stub.{Function, terminating}
use Rattle.linear_forms.specs.Activation.{Code, Activation, Next, finishes, by_program, look, sense}
use Rattle.linear_forms.specs.Search.{found}
use Rattle.linear_forms.specs.Unwinding.{terminated_in, unwind, doomed_by, raised_to, raise}
use Rattle.linear_forms.specs.Forced.{forced_by, forced_at, forced_above, force}
use Rattle.exceptions_in_flight.specs.Targets.{AimsAt}
use Rattle.exceptions_in_flight.specs.Aims.{ComesToPad}
use Rattle.exceptions_in_flight.proofs.Targets.{flights_come_to_pads}
use Rattle.flight_homes.specs.Keeps.{Carrying, destroyed_in, TravelsAgain}
use Rattle.linear_invariant.specs.Held.{NoneHolds}
use Rattle.linear_invariant.specs.Handled.{WorldKeeps}
use Rattle.linear_invariant.specs.Calls.{Marks, CallKeeps, CallsKeep}
use Rattle.linear_invariant.specs.Code.{CodeCarries}
use Rattle.linear_invariant.proofs.Worlds.{But, doomed_changes, doomed_keeps, flies_changes, flies_keeps, more_steps}
use Rattle.linear_invariant.proofs.Calls.{others_spared, all_spared, calls_kept, reached, waits_now}
use Rattle.linear_invariant.proofs.Tops.{called, Goes, either, terminated_goes, first_place}
use Rattle.linear_invariant.proofs.Landing.{excepted, forced_in}

module _ (marks : Marks) (code : Code) (k : Carrying) (c : CodeCarries code k) where
  -- an unwind that comes to a pad
  arrives : (m e d : ℕ) (a : Activation) (fs : List Activation) (w : World) (next : Next) → ComesToPad code (type_at w e) d e (a ∷ fs) w next → CallKeeps code k marks None a fs w →
      CallsKeep code k marks (Some a.function) fs w → WorldKeeps m w → can_travel w e ≡ true → TravelsAgain e w.caught → contains (destroyed_in a.function a.frame) e ≡ false → NoneHolds k (Some a.function) fs e → marks.words (flying e d) →
      Goes marks code k m next
  arrives m e d a fs w next comes own rest world can again apart free marked =
      let r = reached code k marks e w comes.call comes.outer comes.inner None a fs comes.split own rest apart free in
      subst (Goes marks code k m) (sym comes.comes)
      (excepted marks code k c m w comes.outer e d comes.number can again world marked comes.call.function comes.call.place comes.call.frame comes.pad comes.chain comes.covers r comes.why)

  -- an exception that goes on
  pub resumed_goes : (m e d : ℕ) (a : Activation) (fs : List Activation) (w : World) → AimsAt code (type_at w e) d (a ∷ fs) → CallKeeps code k marks None a fs w → CallsKeep code k marks (Some a.function) fs w →
      WorldKeeps m w → can_travel w e ≡ true → TravelsAgain e w.caught → contains (destroyed_in a.function a.frame) e ≡ false → NoneHolds k (Some a.function) fs e → marks.words (flying e d) →
      Goes marks code k m (unwind code (look code a.function a.place) d e a.function a.frame fs w)
  resumed_goes m e d a fs w aims own rest world can again apart free marked =
      arrives m e d a fs w (unwind code (look code a.function a.place) d e a.function a.frame fs w) ((flights_come_to_pads code e a fs w).goes_on d aims) own rest world can again apart free marked

  -- an exception is raised: none of the open calls holds it
  module _ (m e : ℕ) (a : Activation) (fs : List Activation) (w : World) (own : CallKeeps code k marks None a fs w) (rest : CallsKeep code k marks (Some a.function) fs w) (world : WorldKeeps m w)
      (can : can_travel w e ≡ true) (again : TravelsAgain e (flies e w).caught) (top : is_on_top e w.caught ≡ true) (free : NoneHolds k None (a ∷ fs) e)
      (marked : (d : ℕ) → found code a.function (look code a.function a.place) (type_at w e) fs ≡ Some d → marks.words (flying e d)) where
    waiting : CallsKeep code k marks (Some terminating) (a ∷ fs) w
    waiting = (waits_now code k marks terminating a fs w tt own, rest)

    entering : CallsKeep code k marks (Some terminating) (a ∷ fs) (entered_doomed e w)
    entering =
        calls_kept code k marks (But e) w (entered_doomed e w) (doomed_changes e w) (Some terminating) (a ∷ fs)
        (others_spared k e (Some terminating) (a ∷ fs) (below free)) waiting
      where
        below : NoneHolds k None (a ∷ fs) e → NoneHolds k (Some terminating) (a ∷ fs) e
        below h = h

    doomed_goes : (x : Exception) → Goes marks code k (m + 1) (doomed_by e x (a ∷ fs) w)
    doomed_goes building = terminated_goes marks code k (m + 1) w.installed.terminate_handler a fs w waiting.0 waiting.1 (more_steps m (m + 1) w (omega arith) world)
    doomed_goes (native t d handlers) = terminated_goes marks code k (m + 1) handlers.terminate_handler a fs (entered_doomed e w) entering.0 entering.1 (doomed_keeps e w m can top world)
    doomed_goes (foreign i t) = terminated_goes marks code k (m + 1) w.installed.terminate_handler a fs w waiting.0 waiting.1 (more_steps m (m + 1) w (omega arith) world)

    pub raise_goes : Goes marks code k (m + 1) (raise code e a fs w)
    raise_goes = go (found code a.function (look code a.function a.place) (type_at w e) fs) refl
      where
        flown : CallsKeep code k marks None (a ∷ fs) (flies e w)
        flown = calls_kept code k marks (λ i. ⊤) w (flies e w) (flies_changes (λ i. ⊤) e w) None (a ∷ fs) (all_spared k (λ i. ⊤) (λ i. tt) None (a ∷ fs)) (own, rest)

        go : (o : Option ℕ) → found code a.function (look code a.function a.place) (type_at w e) fs ≡ o → Goes marks code k (m + 1) (raise code e a fs w)
        go None none =
            subst (λ o. Goes marks code k (m + 1) (raised_to o e (a ∷ fs) w (λ t. unwind code (look code a.function a.place) t e a.function a.frame fs (flies e w)))) (sym none)
            (either marks code k (m + 1) w.ending (finishes (by_program aborted) w) (doomed_by e (exception_at w e) (a ∷ fs) w) tt (doomed_goes (exception_at w e)))
        go (Some d) some =
            arrives (m + 1) e d a fs (flies e w) (raise code e a fs w) ((flights_come_to_pads code e a fs w).raised d some) flown.0 flown.1
            (more_steps m (m + 1) (flies e w) (omega arith) (flies_keeps m e w world)) can again free.1 free.2 (marked d some)

  -- a forced unwind
  module _ (m : ℕ) (w : World) (world : WorldKeeps m w) (z : ℤ) (marked : marks.words (unwinding z)) where
    ends_here : (below : Option Function) (f : Function) (p : ℕ) (x : Frame) (fs : List Activation) → CallKeeps code k marks below (called f p x) fs w → CallsKeep code k marks (Some f) fs w →
        Goes marks code k m (terminated_in f x fs w)
    ends_here below f p x fs own rest = terminated_goes marks code k m w.installed.terminate_handler (called f 0 x) fs w (first_place marks code k c below f p x fs w own) rest world

    module _ (below : Option Function) (f : Function) (p : ℕ) (x : Frame) (fs : List Activation) (own : CallKeeps code k marks below (called f p x) fs w) (rest : CallsKeep code k marks (Some f) fs w)
        (next : Next) (on : Goes marks code k m next) where
      by_cover : (cv : Cover) → look code f p ≡ cv → Goes marks code k m (forced_at code cv z f x fs w next)
      by_cover bare e = ends_here below f p x fs own rest
      by_cover unpadded e = on
      by_cover (padded q chain) e = go (has_cleanup (sense code f) chain)
        where
          go : (b : Bool) → Goes marks code k m (forced_by code b q z f x fs w next)
          go true = forced_in marks code k c m w fs z below marked f p x q chain e own rest world
          go false = on

    above_goes : (f : Function) (fs : List Activation) → CallsKeep code k marks (Some f) fs w → Goes marks code k m (forced_above code z fs w)
    above_goes f [] h = tt
    above_goes f (a ∷ fs) h =
        by_cover (Some f) a.function a.place a.frame fs h.0 h.1 (forced_above code z fs w) (above_goes a.function fs h.1) (look code a.function a.place) refl

    pub force_goes : (a : Activation) (fs : List Activation) → CallKeeps code k marks None a fs w → CallsKeep code k marks (Some a.function) fs w →
        Goes marks code k m (force code (look code a.function a.place) z a.function a.frame fs w)
    force_goes a fs own rest =
        by_cover None a.function a.place a.frame fs own rest (forced_above code z fs w) (above_goes a.function fs rest) (look code a.function a.place) refl
