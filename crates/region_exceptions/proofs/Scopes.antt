-- What is left ends alike: a cleanup comes after it, and behind a barrier where an exception or a forced unwind comes out.
use Rattle.std.proofs.Common.{◌≡◌, ℕ, ◌+◌, ℤ, Bool, Some, None, refl, sym, ap, ◌∙◌, subst, arith}
use Rattle.meaning_forms.specs.World.{World as SourceWorld}
use Rattle.meaning_forms.specs.Context.{Context as SourceContext, barrier, guarded_by, with_travelling}
use Rattle.meaning_forms.specs.Outcome.{normal as source_normal, breaks, continues, returns, Result as SourceResult, done as source_done, stopped as source_stopped, Stop, thrown, cancelled, ended, undefined, out_of_turns, deep, Action as SourceAction, pure as source_pure, stop as source_stop, continued as source_continued}
use Rattle.meaning_forms.specs.Running.{Running as SourceRunning}
use Rattle.meaning_forms.specs.Scope.{unwound as source_unwound, after_scope as source_after_scope, after_part as source_after_part}
use Rattle.meaning_forms.specs.Terminate.{after_barrier as source_after_barrier}
use Rattle.region_forms.specs.Layout.{Layout}
use Rattle.region_forms.specs.LowerExpression.{Lowering, result_slot}
use Rattle.region_forms.specs.Outcome.{State, Context, Result, stopped, Action, pure, stop, continued}
use Rattle.region_forms.specs.Ending.{Running, after_barrier, unwound, after_scope, after_part}
use Rattle.region_simulation.specs.Places.{Places}
use Rattle.region_simulation.specs.Stands.{context_of}
use Rattle.region_simulation.specs.Alike.{Keeps, Follows, Alike}
use Rattle.region_simulation.specs.Flows.{FlowAgrees}
use Rattle.region_simulation.proofs.Following.{Agreement, follows_now, alike_less, alike_then}
use Rattle.region_exceptions.specs.Same.{RunAlike}
use Rattle.region_exceptions.specs.Barred.{NotThrown, IsBarred}
use Rattle.region_exceptions.specs.Scopes.{Any, CleansAlike, ScopesEndAlike}
use Rattle.region_exceptions.proofs.Barriers.{follows_guarded, inside_then, barred_out}
use Rattle.region_exceptions.proofs.Since.{alike_older, alike_since}

-- answers agree as long as the frame's slots below the m-th are kept
abbrev pub IsSteady : {A B : Type 0} → Agreement A B → ℕ → Type 0
IsSteady {A} {B} agree m =
    (a : A) (b : B) (w w2 : SourceWorld) (at at2 : Places) (s s2 : State) → Keeps m s.frame s2.frame → agree a b w at s → agree a b w2 at2 s2

-- flows do as long as the result's slot is
pub flows_steady : (l : Lowering) (gives : Bool) (i d : ℕ) → IsSteady (FlowAgrees l gives i d) (result_slot l + 1)
flows_steady l gives i d source_normal flow w w2 at at2 s s2 keeps h = h
flows_steady l gives i d breaks flow w w2 at at2 s s2 keeps h = h
flows_steady l gives i d continues flow w w2 at at2 s s2 keeps h = h
flows_steady l gives i d (returns None) flow w w2 at at2 s s2 keeps h = h
flows_steady l gives i d (returns (Some x)) flow w w2 at at2 s s2 keeps h = (h.0, h.1, keeps.slots (result_slot l) (omega arith) ∙ h.2)

module _ (l : Layout) (a : SourceRunning) (b : Running) (same : RunAlike l a b) {A B : Type 0} (agree : Agreement A B) (at : Places) (k : ℕ) (c : SourceContext) (w : SourceWorld) (s : State)
    (destruction : SourceContext → SourceAction (Unit {0})) (cleanup : Context → Action (Unit {0})) where
  abbrev ctx : Context
  ctx = context_of w.open_calls c

  -- a cleanup behind a barrier in context d, then the stop
  behind : (d : SourceContext) (at2 : Places) (w2 : SourceWorld) (s2 : State) (x : Stop) → NotThrown (destruction (guarded_by barrier d) w2)
      → Alike l a.program at2 k (guarded_by barrier d) w s2 Any (destruction (guarded_by barrier d) w2) (cleanup (context_of w.open_calls (guarded_by barrier d)) s2)
      → ((w3 : SourceWorld) (s3 : State) (g : Follows l a.program at2 k w s2 d w3 s3) → Alike l a.program g.places k c w3 s3 agree (source_stopped x w3) (stopped x s3))
      → Alike l a.program at2 k c w s2 agree
      (source_continued (source_after_barrier a d (destruction (guarded_by barrier d) w2)) (λ u. source_stop x))
      (continued (after_barrier b (context_of w.open_calls d) (cleanup (context_of w.open_calls (guarded_by barrier d)) s2)) (λ u. stop x))
  behind d at2 w2 s2 x not h then =
      let x2 = destruction (guarded_by barrier d) w2 in
      let y2 = cleanup (context_of w.open_calls (guarded_by barrier d)) s2 in
      let r = barred_out l a b same Any at2 k d w s2 x2 y2 not h in
      inside_then l a.program Any agree at2 k d c w s2 (source_after_barrier a d x2) (after_barrier b (context_of w.open_calls d) y2) (λ u. source_stop x) (λ u. stop x) r.0 r.1
      (λ u v w3 s3 g any. then w3 s3 g)

  -- behind a barrier a cleanup does what a destruction does
  abbrev pub Barred : (d : SourceContext) (at2 : Places) (w2 : SourceWorld) (s2 : State) → Type 0
  Barred d at2 w2 s2 =
      NotThrown (destruction (guarded_by barrier d) w2) ×
      Alike l a.program at2 k (guarded_by barrier d) w s2 Any (destruction (guarded_by barrier d) w2) (cleanup (context_of w.open_calls (guarded_by barrier d)) s2)

  -- an exception comes out of what is done in context i
  pub thrown_out : (i : SourceContext) (e : ℕ) (w2 : SourceWorld) (y : Result B) → Alike l a.program at k i w s agree (source_stopped (thrown e) w2) y
      → ((s2 : State) (h : Follows l a.program at k w s (with_travelling e i) w2 s2) → Barred (with_travelling e c) h.places w2 s2)
      → (after : Result B → Result B) → ((t : State) → after (stopped (thrown e) t) ≡ unwound b ctx cleanup (thrown e) t)
      → Alike l a.program at k c w s agree (source_unwound a c destruction (thrown e) w2) (after y)
  thrown_out i e w2 y (s2, same_y, h) barred after is =
      let d = with_travelling e c in
      let (not, inner) = barred s2 h in
      subst (λ z. Alike l a.program at k c w s agree (source_unwound a c destruction (thrown e) w2) z) (sym (ap after same_y ∙ is s2))
      (alike_since l a.program agree at k c (with_travelling e i) w s w2 s2 h (source_unwound a c destruction (thrown e) w2) (unwound b ctx cleanup (thrown e) s2)
      (behind d h.places w2 s2 (thrown e) not inner (λ w3 s3 g. (s3, refl, follows_now l a.program g.places k d w3 s3 g.stands))))

  -- a forced unwind does
  pub cancelled_out : (i : SourceContext) (n : ℤ) (w2 : SourceWorld) (y : Result B) → Alike l a.program at k i w s agree (source_stopped (cancelled n) w2) y
      → ((s2 : State) (h : Follows l a.program at k w s i w2 s2) → Barred c h.places w2 s2)
      → (after : Result B → Result B) → ((t : State) → after (stopped (cancelled n) t) ≡ unwound b ctx cleanup (cancelled n) t)
      → Alike l a.program at k c w s agree (source_unwound a c destruction (cancelled n) w2) (after y)
  cancelled_out i n w2 y (s2, same_y, h) barred after is =
      let (not, inner) = barred s2 h in
      subst (λ z. Alike l a.program at k c w s agree (source_unwound a c destruction (cancelled n) w2) z) (sym (ap after same_y ∙ is s2))
      (alike_since l a.program agree at k c i w s w2 s2 h (source_unwound a c destruction (cancelled n) w2) (unwound b ctx cleanup (cancelled n) s2)
      (behind c h.places w2 s2 (cancelled n) not inner (λ w3 s3 g. (s3, refl, follows_now l a.program g.places k c w3 s3 g.stands))))

  -- where it is done, the cleanup comes next
  pub done_out : (m : ℕ) → IsSteady agree m → (i : SourceContext) (u : A) (w2 : SourceWorld) (y : Result B) → Alike l a.program at k i w s agree (source_done u w2) y
      → ((s2 : State) (h : Follows l a.program at k w s i w2 s2) → Alike l a.program h.places (k + m) c w s2 Any (destruction c w2) (cleanup ctx s2))
      → Alike l a.program at k c w s agree (source_after_scope a c destruction (source_done u w2)) (after_scope b ctx cleanup y)
  done_out m steady i u w2 y (v, s2, same_y, (h, agrees)) cleans =
      let next = source_continued (destruction c w2) (λ z. source_pure u) in
      subst (λ z. Alike l a.program at k c w s agree next z) (sym (ap (after_scope b ctx cleanup) same_y))
      (alike_since l a.program agree at k c i w s w2 s2 h next (continued (cleanup ctx s2) (λ z. pure v))
      (alike_less l a.program agree h.places k (k + m) c w s2 next (continued (cleanup ctx s2) (λ z. pure v)) (omega arith)
      (alike_then l a.program Any agree h.places (k + m) c w s2 (destruction c w2) (cleanup ctx s2) (λ z. source_pure u) (λ z. pure v) (cleans s2 h)
      (λ z z2 w3 s3 g any. (
        v,
        s3,
        refl,
        (
          follows_now l a.program g.places (k + m) c w3 s3 g.stands,
          steady u v w2 w3 h.places g.places s2 s3 (record { call = g.keeps.call; slots = λ q lt. g.keeps.slots q (omega (arith, lt)) }) agrees,
        ),
      )))))

  -- a scope, or a part of an object, in one context
  module _ (m : ℕ) (steady : IsSteady agree m) (bar : IsBarred destruction) (cleans : CleansAlike l a.program at k w s destruction cleanup) where
    -- said from the beginning of the scope on
    cleans_since : (d : SourceContext) (w2 : SourceWorld) (s2 : State) (h : Follows l a.program at k w s d w2 s2) (m : ℕ)
        → Alike l a.program h.places m d w s2 Any (destruction d w2) (cleanup (context_of w.open_calls d) s2)
    cleans_since d w2 s2 h m =
        subst (λ n. Alike l a.program h.places m d w s2 Any (destruction d w2) (cleanup (context_of n d) s2)) h.open_calls
        (alike_older l a.program Any h.places m d w w2 s2 (destruction d w2) (cleanup (context_of w2.open_calls d) s2) h.objects h.open_calls (cleans d w2 s2 h m))

    barred : (d : SourceContext) (w2 : SourceWorld) (s2 : State) (h : Follows l a.program at k w s d w2 s2) → Barred d h.places w2 s2
    barred d w2 s2 h = let g = follows_guarded l a.program barrier at k w s d w2 s2 h in
        (bar d w2 h.stands.sound, cleans_since (guarded_by barrier d) w2 s2 g k)

    stops : (x : Stop) (w2 : SourceWorld) (y : Result B) → Alike l a.program at k c w s agree (source_stopped x w2) y
        → (after : Result B → Result B) → ((z : Stop) (t : State) → after (stopped z t) ≡ unwound b ctx cleanup z t)
        → Alike l a.program at k c w s agree (source_unwound a c destruction x w2) (after y)
    stops (thrown e) w2 y h after is = thrown_out c e w2 y h (λ s2 g. barred (with_travelling e c) w2 s2 g) after (is (thrown e))
    stops (cancelled n) w2 y h after is = cancelled_out c n w2 y h (λ s2 g. barred c w2 s2 g) after (is (cancelled n))
    stops (ended e) w2 y (s2, i, h) after is = (s2, ap after i ∙ is (ended e) s2, h)
    stops undefined w2 y h after is = tt
    stops out_of_turns w2 y (s2, i, h) after is = (s2, ap after i ∙ is out_of_turns s2, h)
    stops deep w2 y (s2, i, h) after is = (s2, ap after i ∙ is deep s2, h)

    pub scope_ends : (x : SourceResult A) (y : Result B) → Alike l a.program at k c w s agree x y
        → Alike l a.program at k c w s agree (source_after_scope a c destruction x) (after_scope b ctx cleanup y)
    scope_ends (source_done u w2) y h = done_out m steady c u w2 y h (λ s2 g. cleans_since c w2 s2 g (k + m))
    scope_ends (source_stopped x w2) y h = stops x w2 y h (after_scope b ctx cleanup) (λ z t. refl)

    pub part_ends : (x : SourceResult A) (y : Result B) → Alike l a.program at k c w s agree x y
        → Alike l a.program at k c w s agree (source_after_part a c destruction x) (after_part b ctx cleanup y)
    part_ends (source_done u w2) y (v, s2, i, h) = (v, s2, ap (after_part b ctx cleanup) i, h)
    part_ends (source_stopped x w2) y h = stops x w2 y h (after_part b ctx cleanup) (λ z t. refl)

pub scopes_end_alike : ScopesEndAlike
scopes_end_alike l gives i d a b same at k c w s destruction cleanup bar cleans x y h =
    let agree = FlowAgrees l gives i d in
    let steady = flows_steady l gives i d in (
      scope_ends l.layout a b same agree at k c w s destruction cleanup (result_slot l + 1) steady bar cleans x y h,
      part_ends l.layout a b same agree at k c w s destruction cleanup (result_slot l + 1) steady bar cleans x y h,
    )
