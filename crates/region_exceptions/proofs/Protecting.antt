-- Objects are destroyed alike, and regions that are protected by a destruction do what scopes do.
use Rattle.std.proofs.Common.{◌≡◌, ℕ, ◌+◌, ◌<◌, [], ◌∷◌, None, refl, sym, subst, arith, length}
use Rattle.cxx_ast.specs.Plain.{Checked}
use Rattle.meaning_forms.specs.Class.{class_type}
use Rattle.meaning_forms.specs.World.{World as SourceWorld, Reference}
use Rattle.meaning_forms.specs.Context.{Context as SourceContext, barrier, guarded_by, with_travelling}
use Rattle.meaning_forms.specs.Outcome.{Result as SourceResult, done as source_done, stopped as source_stopped, thrown, cancelled, ended, undefined, out_of_turns, deep, Action as SourceAction, pure as source_pure, continued as source_continued}
use Rattle.meaning_forms.specs.Running.{Running as SourceRunning, destructor}
use Rattle.meaning_forms.specs.Construct.{destroy as source_destroy}
use Rattle.meaning_forms.specs.Scope.{after_scope as source_after_scope, after_part as source_after_part}
use Rattle.region_forms.specs.Form.{Kinds, Place, destroy, destroy_scope, destroy_part, Region, protect}
use Rattle.region_forms.specs.Layout.{Layout}
use Rattle.region_forms.specs.LowerExpression.{result_slot}
use Rattle.region_forms.specs.Numbering.{number_of}
use Rattle.region_forms.specs.World.{Address, address_word}
use Rattle.region_forms.specs.Effect.{if_some, calls}
use Rattle.region_forms.specs.Outcome.{State, Flow, Result, pure, continued}
use Rattle.region_forms.specs.Ending.{Running, perform, after_scope, after_part}
use Rattle.region_forms.specs.Meaning.{outwards, operation}
use Rattle.linear_simulation.specs.Watched.{kept_on, watched as region}
use Rattle.region_simulation.specs.Places.{Places, Refers}
use Rattle.region_simulation.specs.Stands.{Stands, context_of}
use Rattle.region_simulation.specs.Alike.{Follows, Alike}
use Rattle.region_simulation.proofs.Following.{Agreement, follows_now, keeps_all, keeps_on, alike_then, refers_kept}
use Rattle.region_simulation.specs.Flows.{FlowAgrees}
use Rattle.region_simulation.proofs.Flowing.{alike_after, outwards_agrees}
use Rattle.region_exceptions.specs.Fares.{CallsFare, Fares}
use Rattle.region_exceptions.proofs.Faring.{fares_pure, fares_then, faring_calls_are_barred, orderly_as, orderly_sound}
use Rattle.region_exceptions.proofs.Keeping.{kept_alike, part_keeps, scope_keeps}
use Rattle.region_exceptions.specs.Same.{RunAlike}
use Rattle.region_exceptions.specs.Barred.{NotThrown, IsBarred, CallsAreBarred}
use Rattle.region_exceptions.specs.Scopes.{Any, CleansAlike, LeadsTo, DestroysAlike, ProtectsAlike}
use Rattle.region_exceptions.proofs.Scopes.{IsSteady, flows_steady, scope_ends, part_ends}

-- what comes out of a call comes out of what is done with it
pub not_thrown_on : {A B : Type 0} (x : SourceResult A) (u : B) → NotThrown x → NotThrown (source_continued x (λ v. source_pure u))
not_thrown_on (source_done v w2) u h = tt
not_thrown_on (source_stopped (thrown e) w2) u h = h
not_thrown_on (source_stopped (cancelled n) w2) u h = tt
not_thrown_on (source_stopped undefined w2) u h = tt
not_thrown_on (source_stopped (ended e) w2) u h = tt
not_thrown_on (source_stopped out_of_turns w2) u h = tt
not_thrown_on (source_stopped deep w2) u h = tt

pub destruction_barred : (a : SourceRunning) → CallsAreBarred a → (j : ℕ) (target : Reference) → IsBarred (source_destroy a (class_type j) target)
destruction_barred a bar j target c w sound = not_thrown_on (a.call (destructor j) target [] (guarded_by barrier c) w) tt (bar (destructor j) target [] c w sound)

-- a place leads on where it led
pub leads_on : (l : Layout) (p : Checked) (at : Places) (k : ℕ) (kinds : Kinds) (c d : SourceContext) (w w2 : SourceWorld) (s s2 : State) (place : Place) (target : Reference) (j : ℕ)
    → Stands l p at c w s → (h : Follows l p at k w s d w2 s2) → LeadsTo l p at k kinds s.frame place target j → LeadsTo l p h.places k kinds s2.frame place target j
leads_on l p at k kinds c d w w2 s s2 place target j stands h x = record {
  there = x.there;
  address = x.address;
  refers = refers_kept l p at k w s c d w2 s2 stands h target (class_type j) x.address x.refers;
  stays = λ g keeps. x.stays g (keeps_on h.keeps keeps);
}

module _ (l : Layout) (a : SourceRunning) (b : Running) (same : RunAlike l a b) where
  -- a destructor is called with the address of the object
  pub destructor_called : (at : Places) (m : ℕ) (c : SourceContext) (w : SourceWorld) (s : State) (target : Reference) (j : ℕ) (address : Address) → j < length a.program.classes
      → Stands l a.program at c w s → Refers l a.program at target (class_type j) address
      → Alike l a.program at m c w s Any (source_destroy a (class_type j) target c w)
      (continued (b.call (number_of a.program (destructor j)) (address_word address ∷ []) (context_of w.open_calls c) s) (λ v. pure (tt {0})))
  destructor_called at m c w s target j address there stands refers =
      alike_then l a.program (λ x y w2 at2 s2. x ≡ y) Any at m c w s (a.call (destructor j) target [] c w)
      (b.call (number_of a.program (destructor j)) (address_word address ∷ []) (context_of w.open_calls c) s) (λ v. source_pure (tt {0})) (λ v. pure (tt {0}))
      (same.calls at (destructor j) target [] (address_word address ∷ []) m c w s there stands (address, refers, refl, tt))
      (λ v v2 w2 s2 h e. (tt, s2, refl, (follows_now l a.program h.places m c w2 s2 h.stands, tt)))

  pub destroys : (at : Places) (k m : ℕ) (c : SourceContext) (w : SourceWorld) (s : State) (place : Place) (target : Reference) (j : ℕ)
      → Stands l a.program at c w s → LeadsTo l a.program at k b.kinds s.frame place target j
      → Alike l a.program at m c w s Any (source_destroy a (class_type j) target c w)
      (operation b (destroy place (number_of a.program (destructor j))) (context_of w.open_calls c) s)
  destroys at k m c w s place target j stands x =
      subst (λ z. Alike l a.program at m c w s Any (source_destroy a (class_type j) target c w)
      (perform b (if_some z (λ q. calls None (number_of a.program (destructor j)) (address_word q ∷ []))) (context_of w.open_calls c) s))
      (sym (x.stays s.frame (keeps_all k s.frame)))
      (destructor_called at m c w s target j x.address x.there stands x.refers)

  module _ (fare : CallsFare a) {A : Type 0} (agree next : Agreement A Flow) (m : ℕ) (steady : IsSteady agree m)
      (out : (x : A) (flow : Flow) (w : SourceWorld) (at : Places) (s : State) → agree x flow w at s → next x (outwards flow) w at s)
      (at : Places) (k : ℕ) (c : SourceContext) (w : SourceWorld) (s : State) (place : Place) (target : Reference) (j : ℕ)
      (stands : Stands l a.program at c w s) (leads : LeadsTo l a.program at k b.kinds s.frame place target j) where
    cleans : CleansAlike l a.program at k w s (source_destroy a (class_type j) target) (operation b (destroy place (number_of a.program (destructor j))))
    cleans d w2 s2 h n = destroys h.places k n d w2 s2 place target j h.stands (leads_on l a.program at k b.kinds c d w w2 s s2 place target j stands h leads)

    -- what is known of the destruction in an exceptional exit
    cleans_fare : (x : SourceResult A) (y : Result Flow) → Alike l a.program at k c w s agree x y → (e : ℕ) (w2 : SourceWorld) → x ≡ source_stopped (thrown e) w2
        → (let d = guarded_by barrier (with_travelling e c) in Fares a.program 0 d w2 (source_destroy a (class_type j) target d w2))
    cleans_fare x y h e w2 is =
        let (s2, same, g) = subst (λ r. Alike l a.program at k c w s agree r y) is h in
        let d = guarded_by barrier (with_travelling e c) in
        let order = orderly_as (with_travelling e c) w2 (barrier ∷ c.guards) c.ending (orderly_sound (with_travelling e c) w2 g.stands.sound) in
        fares_then a.program 0 d w2 (a.call (destructor j) target [] d w2) (λ v. source_pure (tt {0})) (omega arith) order (fare (destructor j) target [] d 0 w2 (omega arith) order)
        (λ v. fares_pure a.program 0 d (tt {0}))

    pub scope_protects : (act : SourceAction A) (body : Region) → Alike l a.program at k c w s agree (act w) (region b body (context_of w.open_calls c) s)
        → Alike l a.program at k c w s next (source_after_scope a c (source_destroy a (class_type j) target) (act w))
        (region b (protect body (destroy_scope place (number_of a.program (destructor j)))) (context_of w.open_calls c) s)
    scope_protects act body h =
        let ctx = context_of w.open_calls c in
        let destruction = source_destroy a (class_type j) target in
        let cleanup = operation b (destroy place (number_of a.program (destructor j))) in
        let y = region b body ctx s in
        alike_after l a.program agree next at k c w s (source_after_scope a c destruction (act w)) (kept_on y (after_scope b ctx cleanup y)) outwards out
        (kept_alike l a.program at w s agree k c agree k c (act w) y (source_after_scope a c destruction (act w)) (after_scope b ctx cleanup y) h
        (scope_ends l a b same agree at k c w s destruction cleanup m steady (destruction_barred a (faring_calls_are_barred a fare) j target) cleans (act w) y h)
        (scope_keeps a c destruction (act w) (cleans_fare (act w) y h)))

    pub part_protects : (act : SourceAction A) (body : Region) → Alike l a.program at k c w s agree (act w) (region b body (context_of w.open_calls c) s)
        → Alike l a.program at k c w s next (source_after_part a c (source_destroy a (class_type j) target) (act w))
        (region b (protect body (destroy_part place (number_of a.program (destructor j)))) (context_of w.open_calls c) s)
    part_protects act body h =
        let ctx = context_of w.open_calls c in
        let destruction = source_destroy a (class_type j) target in
        let cleanup = operation b (destroy place (number_of a.program (destructor j))) in
        let y = region b body ctx s in
        alike_after l a.program agree next at k c w s (source_after_part a c destruction (act w)) (kept_on y (after_part b ctx cleanup y)) outwards out
        (kept_alike l a.program at w s agree k c agree k c (act w) y (source_after_part a c destruction (act w)) (after_part b ctx cleanup y) h
        (part_ends l a b same agree at k c w s destruction cleanup m steady (destruction_barred a (faring_calls_are_barred a fare) j target) cleans (act w) y h)
        (part_keeps a c destruction (act w) (cleans_fare (act w) y h)))

pub destroys_alike : DestroysAlike
destroys_alike l a b same at k m c w s place target j stands x = destroys l a b same at k m c w s place target j stands x

pub protects_alike : ProtectsAlike
protects_alike l gives i d lt a b same fare at k c w s place target j stands leads act body h =
    let agree = FlowAgrees l gives i (d + 1) in
    let next = FlowAgrees l gives i d in
    let steady = flows_steady l gives i (d + 1) in
    let out = outwards_agrees l gives i d lt in (
      scope_protects l.layout a b same fare agree next (result_slot l + 1) steady out at k c w s place target j stands leads act body h,
      part_protects l.layout a b same fare agree next (result_slot l + 1) steady out at k c w s place target j stands leads act body h,
    )
