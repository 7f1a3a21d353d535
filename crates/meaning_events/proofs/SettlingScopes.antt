-- What cleanups and scopes settle.
use Rattle.std.proofs.Common.{ℕ}
use Rattle.meaning_forms.specs.Context.{Context, barrier, guarded_by, with_travelling}
use Rattle.meaning_forms.specs.Outcome.{Result, done, stopped, Stop, thrown, cancelled, ended, undefined, out_of_turns, deep, Action, stop, continued}
use Rattle.meaning_forms.specs.Running.{Running}
use Rattle.meaning_forms.specs.Scope.{unwound, after_scope, after_part}
use Rattle.meaning_forms.specs.Terminate.{after_barrier}
use Rattle.meaning_events.specs.Fates.{Story, story}
use Rattle.meaning_events.specs.Settles.{Nobody, Settles, AlwaysSettles, CallsSettle}
use Rattle.meaning_events.proofs.Settling.{settled_same, settles_on, settles_then, inside_then, thrown_settles, barrier_inside}

module _ (r : Running) (calls : CallsSettle r) (c : Context) (destruction : Context → Action (Unit {0})) (always : AlwaysSettles r.program destruction) where
  -- what a cleanup does where it is needed
  pub unwound_settles : (A : Type 0) (own : ℕ → Type 0) (s : Story) (w : _) (x : Stop) → Settles {A = A} r.program c.handled c.guards own s (stopped x w)
      → Settles {A = A} r.program c.handled c.guards own s (unwound r c destruction x w)
  unwound_settles A own s w (thrown e) h =
      let d = with_travelling e c in
      let x = destruction (guarded_by barrier d) w in
      thrown_settles r.program c.handled c.guards A s (story w) e (after_barrier r d x) h.0 h.1 (barrier_inside r calls Nobody d (story w) x (always (guarded_by barrier d) w h.0.tells))
  unwound_settles A own s w (cancelled n) h =
      let x = destruction (guarded_by barrier c) w in
      settles_on r.program c.handled c.guards s (story w) (continued (after_barrier r c x) (λ u. stop (cancelled n))) h
      (inside_then r.program c.handled c.guards Nobody (story w) (after_barrier r c x) (λ u. stop (cancelled n)) (barrier_inside r calls Nobody c (story w) x (always (guarded_by barrier c) w h.tells))
      (λ u w2 g. g))
  unwound_settles A own s w undefined h = h
  unwound_settles A own s w (ended e) h = h
  unwound_settles A own s w out_of_turns h = h
  unwound_settles A own s w deep h = h

  pub scope_settles : {A : Type 0} (own : ℕ → Type 0) (s : Story) (x : Result A) → Settles r.program c.handled c.guards own s x
      → Settles r.program c.handled c.guards own s (after_scope r c destruction x)
  scope_settles own s (done a w) h =
      settles_then r.program c.handled c.guards own s (destruction c w) (λ u w2. done a w2) (settles_on r.program c.handled c.guards s (story w) (destruction c w) h (always c w h.tells))
      (λ u w2 tells. settled_same c.handled (story w2) tells)
  scope_settles {A} own s (stopped x w) h = unwound_settles A own s w x h

  pub part_settles : {A : Type 0} (own : ℕ → Type 0) (s : Story) (x : Result A) → Settles r.program c.handled c.guards own s x
      → Settles r.program c.handled c.guards own s (after_part r c destruction x)
  part_settles own s (done a w) h = h
  part_settles {A} own s (stopped x w) h = unwound_settles A own s w x h
