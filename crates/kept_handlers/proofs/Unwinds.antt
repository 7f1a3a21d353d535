-- An unwind leaves the handlers of the calls that it passes, and those of the call whose pad it enters stay in step.
use Rattle.std.proofs.Common.{◌≡◌, ℕ, ◌+◌, ◌≤◌, ℤ, pos, Bool, true, false, ◌==◌, List, [], ◌∷◌, length, Option, Some, None, is_some, refl, sym, ◌∙◌, if◌then◌else◌, arith}
use Rattle.std.specs.Prelude.{⊤}
use Rattle.meaning_forms.specs.Outcome.{aborted}
use Rattle.region_forms.specs.World.{Word, nothing, number_word, flying, unwinding, Frame, World, Exception, building, native, foreign, with_slot, exception_at, type_at}
use Rattle.region_forms.specs.Effect.{entered_doomed, flies}
use Rattle.linear_forms.specs.Linear.{plain, label, jump, jump_zero, pad, jump_filter, free, resume, unexpected, return}
use Rattle.linear_forms.specs.Tables.{Cover, bare, unpadded, padded}
use Rattle.linear_forms.specs.Verdict.{Verdict, target, no_way, clean, nothing_here, pad_verdict, has_cleanup}
use Rattle.linear_forms.specs.Stub.{Function, terminating, CodeOp, linear, runtime}
use Rattle.linear_forms.specs.Activation.{Code, Activation, Next, goes_to, finishes, by_program, fault, next_if, fetch, look, sense, at, stub_frame, function_word, terminated}
use Rattle.linear_forms.specs.Search.{found}
use Rattle.linear_forms.specs.Unwinding.{pad_entered, terminated_in, unwound_by, unwound_at, unwound_above, unwind, doomed_by, raised_to, raise}
use Rattle.linear_forms.specs.Forced.{forced_by, forced_at, forced_above, force}
use Rattle.flight_homes.specs.Keeps.{Carrying}
use Rattle.flight_homes.specs.Nest.{is_terminate}
use Rattle.linear_invariant.specs.Handled.{open_handlers}
use Rattle.linear_invariant.specs.Calls.{Marks, CallsKeep}
use Rattle.linear_invariant.proofs.Lists.{few_flown}
use Rattle.kept_handlers.specs.Depths.{Depths, depth_at, CodeOpens}
use Rattle.kept_handlers.specs.Handlers.{depth_below, CallOpens, HandlersStand, StateOpens}
use Rattle.kept_handlers.proofs.Kept.{called, Keeps, flies_keeps, unless_not, call_kept, calls_kept}
use Rattle.kept_handlers.proofs.Rows.{not_ending, Lands, below_lands, stopped_behind}

-- what comes next
abbrev pub Goes : Depths → Next → Type 0
Goes d (goes_to st) = StateOpens d st
Goes d (finishes f w) = ⊤

-- a call that runs, in a world
abbrev pub Stands : Depths → Activation → List Activation → World → Type 0
Stands d a fs w = StateOpens d (record { top = a; frames = fs; world = w })

pub either : (d : Depths) (b : Bool) (x y : Next) → Goes d x → Goes d y → Goes d (if b then x else y)
either d true x y h i = h
either d false x y h i = i

pub defined : (d : Depths) (b : Bool) (w : World) (x : Next) → (b ≡ true → Goes d x) → Goes d (next_if b w x)
defined d true w x h = h refl
defined d false w x h = tt

ending_stands : (d : Depths) (fs : List Activation) (most : ℕ) (w : World) → HandlersStand d terminating fs most w
ending_stands d [] most w = tt
ending_stands d (a ∷ fs) most w = tt

-- nothing is said below terminate
pub terminated_goes : (d : Depths) (h : Option ℕ) (fs : List Activation) (w : World) → Goes d (terminated h fs w)
terminated_goes d h fs w =
    either d w.ending (finishes (by_program aborted) w) (at terminating 0 (stub_frame (function_word h) nothing nothing) fs (record w { ending = is_some h })) tt
    (0, record { few = omega arith; stopped = tt; waits = tt; goes_on = tt }, ending_stands d fs 0 (record w { ending = is_some h }))

-- a change of the world leaves a call that runs as it is
pub moved : (d : Depths) (a : Activation) (fs : List Activation) (w v : World) → Keeps (open_handlers w.caught) w v → open_handlers w.caught ≤ open_handlers v.caught → Stands d a fs w → Stands d a fs v
moved d a fs w v keeps le h =
    let few = h.1.few in
    let own = call_kept d (open_handlers w.caught) w v keeps None a (open_handlers w.caught) h.0 (omega arith) h.1 in
    (h.0, record { few = omega (arith, few, le); stopped = own.stopped; waits = own.waits; goes_on = own.goes_on }, calls_kept d (open_handlers w.caught) w v keeps a.function fs h.0 (omega (arith, few)) h.2)

pad_goes : (d : Depths) (op : Option CodeOp) (word : Word) (z : ℤ) (f : Function) (q : ℕ) (x : Frame) (fs : List Activation) (w : World) →
    ((a b : ℕ) → op ≡ Some (linear (pad a b)) → Goes d (at f (q + 1) (with_slot b (number_word z) (with_slot a word x)) fs w)) → Goes d (pad_entered op word z f q x fs w)
pad_goes d None word z f q x fs w h = tt
pad_goes d (Some (runtime o)) word z f q x fs w h = tt
pad_goes d (Some (linear (pad a b))) word z f q x fs w h = h a b refl
pad_goes d (Some (linear (plain o))) word z f q x fs w h = tt
pad_goes d (Some (linear (label l))) word z f q x fs w h = tt
pad_goes d (Some (linear (jump l))) word z f q x fs w h = tt
pad_goes d (Some (linear (jump_zero v l))) word z f q x fs w h = tt
pad_goes d (Some (linear (jump_filter s n l))) word z f q x fs w h = tt
pad_goes d (Some (linear (free s))) word z f q x fs w h = tt
pad_goes d (Some (linear (resume s))) word z f q x fs w h = tt
pad_goes d (Some (linear (unexpected o s))) word z f q x fs w h = tt
pad_goes d (Some (linear (return r))) word z f q x fs w h = tt

module _ (code : Code) (d : Depths) (opened : CodeOpens code d) where
  -- one call is unwound, which no call of terminate is
  module _ (g : Option Function) (f : Function) (p : ℕ) (x : Frame) (fs : List Activation) (v : World) (most older : ℕ) (le : most ≤ open_handlers v.caught)
      (own : CallOpens d g (called f p x) most older v) (below : HandlersStand d f fs older v) (lands : Lands code d opened f p (depth_below d g (called f p x)))
      (rest : Next) (others : is_terminate f ≡ false → Goes d rest) where
    enters : (q : ℕ) (chain : List ℤ) (word : Word) (z : ℤ) → look code f p ≡ padded q chain → Goes d (pad_entered (fetch code f q) word z f q x fs v)
    enters q chain word z covers =
        let few = own.few in
        let behind = lands q chain covers in
        pad_goes d (fetch code f q) word z f q x fs v
        (λ a b pads. (older, record { few = omega (arith, few, behind, le); stopped = stopped_behind code d opened older p q x v a b word z f chain covers pads own.stopped; waits = tt; goes_on = tt }, below))

    barred : Goes d (terminated_in f x fs v)
    barred = terminated_goes d v.installed.terminate_handler (called f 0 x ∷ fs) v

    passes : (c : Cover) → (c ≡ bare → ⊥) → look code f p ≡ c → Goes d rest
    passes c other covers = others (not_ending code f p (λ none. other (sym covers ∙ none)))

    verdict_goes : (verdict : Verdict) (q t e : ℕ) (chain : List ℤ) → look code f p ≡ padded q chain → Goes d (unwound_by code verdict q t e f x fs v rest)
    verdict_goes (target n) q t e chain covers =
        either d (length fs == t) (pad_entered (fetch code f q) (flying e t) n f q x fs v) (finishes fault v) (enters q chain (flying e t) n covers) tt
    verdict_goes no_way q t e chain covers = barred
    verdict_goes clean q t e chain covers = enters q chain (flying e t) (pos 0) covers
    verdict_goes nothing_here q t e chain covers = passes (padded q chain) (λ i. cc i) covers

    pub unwound_goes : (c : Cover) (t e : ℕ) → look code f p ≡ c → Goes d (unwound_at code c t e f x fs v rest)
    unwound_goes bare t e covers = barred
    unwound_goes unpadded t e covers = passes unpadded (λ i. cc i) covers
    unwound_goes (padded q chain) t e covers = verdict_goes (pad_verdict code.rows (sense code f) chain (type_at v e)) q t e chain covers

    cleaned_goes : (b : Bool) (q : ℕ) (z : ℤ) (chain : List ℤ) → look code f p ≡ padded q chain → Goes d (forced_by code b q z f x fs v rest)
    cleaned_goes true q z chain covers = enters q chain (unwinding z) (pos 0) covers
    cleaned_goes false q z chain covers = passes (padded q chain) (λ i. cc i) covers

    pub forced_goes : (c : Cover) (z : ℤ) → look code f p ≡ c → Goes d (forced_at code c z f x fs v rest)
    forced_goes bare z covers = barred
    forced_goes unpadded z covers = passes unpadded (λ i. cc i) covers
    forced_goes (padded q chain) z covers = cleaned_goes (has_cleanup (sense code f) chain) q z chain covers

  -- where each waits is known by what they keep in some world
  module _ (k : Carrying) (marks : Marks) (known : World) where
    -- calls that wait are unwound
    module _ (v : World) where
      above_goes : (t e : ℕ) (g : Function) (fs : List Activation) (most : ℕ) → is_terminate g ≡ false → most ≤ open_handlers v.caught → HandlersStand d g fs most v → CallsKeep code k marks (Some g) fs known → Goes d (unwound_above code t e fs v)
      above_goes t e g [] most other le h i = tt
      above_goes t e g (a ∷ fs) most other le h i =
          let it = unless_not g _ other h in
          let few = it.1.few in
          unwound_goes (Some g) a.function a.place a.frame fs v most it.0 le it.1 it.2 (below_lands code d opened g a.function a.place a.frame other i.0.waits it.1.waits) (unwound_above code t e fs v)
          (λ not. above_goes t e a.function fs it.0 not (omega (arith, few, le)) it.2 i.1) (look code a.function a.place) t e refl

      forced_above_goes : (z : ℤ) (g : Function) (fs : List Activation) (most : ℕ) → is_terminate g ≡ false → most ≤ open_handlers v.caught → HandlersStand d g fs most v → CallsKeep code k marks (Some g) fs known → Goes d (forced_above code z fs v)
      forced_above_goes z g [] most other le h i = tt
      forced_above_goes z g (a ∷ fs) most other le h i =
          let it = unless_not g _ other h in
          let few = it.1.few in
          forced_goes (Some g) a.function a.place a.frame fs v most it.0 le it.1 it.2 (below_lands code d opened g a.function a.place a.frame other i.0.waits it.1.waits) (forced_above code z fs v)
          (λ not. forced_above_goes z a.function fs it.0 not (omega (arith, few, le)) it.2 i.1) (look code a.function a.place) z refl

    -- an unwind begins in the call that runs, or goes on from there
    module _ (f : Function) (p : ℕ) (x : Frame) (fs : List Activation) (lands : Lands code d opened f p (depth_at d f p)) (keeps : CallsKeep code k marks (Some f) fs known) where
      pub unwind_goes : (t e : ℕ) (v : World) → Stands d (called f p x) fs v → Goes d (unwind code (look code f p) t e f x fs v)
      unwind_goes t e v h =
          let few = h.1.few in
          unwound_goes None f p x fs v (open_handlers v.caught) h.0 (omega arith) h.1 h.2 lands (unwound_above code t e fs v)
          (λ not. above_goes v t e f fs h.0 not (omega (arith, few)) h.2 keeps) (look code f p) t e refl

      pub force_goes : (z : ℤ) (v : World) → Stands d (called f p x) fs v → Goes d (force code (look code f p) z f x fs v)
      force_goes z v h =
          let few = h.1.few in
          forced_goes None f p x fs v (open_handlers v.caught) h.0 (omega arith) h.1 h.2 lands (forced_above code z fs v)
          (λ not. forced_above_goes v z f fs h.0 not (omega (arith, few)) h.2 keeps) (look code f p) z refl

      doomed_goes : (e : ℕ) (y : Exception) (v : World) → Goes d (doomed_by e y (called f p x ∷ fs) v)
      doomed_goes e building v = terminated_goes d v.installed.terminate_handler (called f p x ∷ fs) v
      doomed_goes e (native t b handlers) v = terminated_goes d handlers.terminate_handler (called f p x ∷ fs) (entered_doomed e v)
      doomed_goes e (foreign m t) v = terminated_goes d v.installed.terminate_handler (called f p x ∷ fs) v

      pub raise_goes : (e : ℕ) (v : World) → Stands d (called f p x) fs v → Goes d (raise code e (called f p x) fs v)
      raise_goes e v h = go (found code f (look code f p) (type_at v e) fs)
        where
          flown : Stands d (called f p x) fs (flies e v)
          flown = let same = few_flown e v.caught in moved d (called f p x) fs v (flies e v) (flies_keeps (open_handlers v.caught) e v) (omega (arith, same)) h

          go : (o : Option ℕ) → Goes d (raised_to o e (called f p x ∷ fs) v (λ t. unwind code (look code f p) t e f x fs (flies e v)))
          go None = either d v.ending (finishes (by_program aborted) v) (doomed_by e (exception_at v e) (called f p x ∷ fs) v) tt (doomed_goes e (exception_at v e) v)
          go (Some t) = unwind_goes t e (flies e v) flown
