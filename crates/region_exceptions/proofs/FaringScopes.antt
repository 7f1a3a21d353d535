-- What cleanups and scopes keep.
use Rattle.std.proofs.Common.{◌≡◌, ℕ, ◌≤◌, Bool, true, false, List, ◌∷◌, refl, ap, ◌∙◌, arith}
use Rattle.std.specs.Prelude.{◌==◌, ◌||◌}
use Rattle.std.proofs.lemmas.Bool.Decides.{nat_tests}
use Rattle.cxx_ast.specs.Plain.{Checked}
use Rattle.meaning_forms.specs.Class.{contains}
use Rattle.meaning_forms.specs.World.{World, exception_at, exception_type, type_at}
use Rattle.meaning_forms.specs.Context.{Context, barrier, guarded_by, with_travelling}
use Rattle.meaning_forms.specs.Guard.{is_doomed}
use Rattle.meaning_forms.specs.Outcome.{Result, done, stopped, Stop, thrown, cancelled, ended, undefined, out_of_turns, deep, Action, pure, stop, continued}
use Rattle.meaning_forms.specs.Running.{Running}
use Rattle.meaning_forms.specs.Scope.{unwound, after_scope, after_part}
use Rattle.meaning_forms.specs.Terminate.{terminate, after_barrier}
use Rattle.region_exceptions.specs.Barred.{NotThrown}
use Rattle.region_exceptions.specs.Fares.{IsOrderly, GoesOn, ComesOut, Fares, AlwaysFares}
use Rattle.region_exceptions.proofs.Faring.{barrier_fares, fares_on, fares_pure, fares_then, goes_on, goes_same, not_thrown_behind, orderly_as, orderly_on, orderly_travelling, terminate_fares}

-- what travels is of the same type
same_type : (w w2 : World) (e : ℕ) → exception_at w2 e ≡ exception_at w e → type_at w2 e ≡ type_at w e
same_type w w2 e is = ap exception_type is

pub contains_first : (e : ℕ) (es : List ℕ) → contains (e ∷ es) e ≡ true
contains_first e es = let same : (e == e) ≡ true = grind (arith, nat_tests) in ap (λ b. b || contains es e) same

pub contains_more : (e f : ℕ) (es : List ℕ) → contains es f ≡ true → contains (e ∷ es) f ≡ true
contains_more e f es h = go (e == f)
  where
    go : (b : Bool) → (b || contains es f) ≡ true
    go true = refl
    go false = h

-- fewer travel
pub goes_resting : (c : Context) (e : ℕ) (w w2 : World) → GoesOn (with_travelling e c) w w2 → GoesOn c w w2
goes_resting c e w w2 h = record { later = h.later; live = h.live; kept = λ f is. h.kept f (contains_more e f c.travelling is); held = h.held; unbuilt = h.unbuilt }

-- an exception that travels while a cleanup is done comes out as it was
comes_later : (p : Checked) (n : ℕ) (c : Context) (w w2 : World) (e : ℕ) → ComesOut p n c w e → GoesOn (with_travelling e c) w w2 → ComesOut p n c w2 e
comes_later p n c w w2 e h g =
    let made = h.raised.made in let later = g.later in
    record {
      raised = record { made = omega (arith, made, later); rests = h.raised.rests; front = h.raised.front };
      known = h.known;
      safe = ap (is_doomed p c.guards) (same_type w w2 e (g.kept e (contains_first e c.travelling))) ∙ h.safe;
    }

module _ (r : Running) (n : ℕ) (c : Context) where
  -- a cleanup of an exceptional exit, then the stop
  pub thrown_fares : (A : Type 0) (w w2 : World) (e : ℕ) (x : Result (Unit {0})) → GoesOn c w w2 → ComesOut r.program n c w2 e
      → Fares r.program n (with_travelling e c) w2 x → NotThrown x → Fares {A = A} r.program n c w (continued x (λ u. stop (thrown e)))
  thrown_fares A w w2 e (done u w3) h comes g barred = (goes_on c w w2 w3 h (goes_resting c e w2 w3 g), comes_later r.program n c w2 w3 e comes g)
  thrown_fares A w w2 e (stopped (thrown f) w3) h comes g barred = absurd barred
  thrown_fares A w w2 e (stopped (cancelled v) w3) h comes g barred = goes_on c w w2 w3 h (goes_resting c e w2 w3 g)
  thrown_fares A w w2 e (stopped undefined w3) h comes g barred = tt
  thrown_fares A w w2 e (stopped (ended f) w3) h comes g barred = tt
  thrown_fares A w w2 e (stopped out_of_turns w3) h comes g barred = tt
  thrown_fares A w w2 e (stopped deep w3) h comes g barred = tt

  pub behind_not_thrown : {A : Type 0} (d : Context) (x : Result A) → NotThrown x → NotThrown (after_barrier r d x)
  behind_not_thrown d (done u w3) h = tt
  behind_not_thrown d (stopped (thrown e) w3) h = h
  behind_not_thrown {A} d (stopped (cancelled v) w3) h = ended_only (terminate {A = A} r d w3) (terminate_fares A r r.program n d (guarded_by barrier d) w3 w3)
    where
      ended_only : (y : Result A) → Fares r.program n (guarded_by barrier d) w3 y → NotThrown y
      ended_only y h = not_thrown_behind r.program n d w3 y h
  behind_not_thrown d (stopped undefined w3) h = tt
  behind_not_thrown d (stopped (ended e) w3) h = tt
  behind_not_thrown d (stopped out_of_turns w3) h = tt
  behind_not_thrown d (stopped deep w3) h = tt

  module _ (destruction : Context → Action (Unit {0})) where
    -- what a cleanup does where it is needed
    pub unwound_fares : (A : Type 0) (w w2 : World) (x : Stop) → n ≤ w.last_number → IsOrderly c w → Fares {A = A} r.program n c w (stopped x w2)
        → ((d : Context) → n ≤ w2.last_number → IsOrderly d w2 → Fares r.program n (guarded_by barrier d) w2 (destruction (guarded_by barrier d) w2))
        → Fares {A = A} r.program n c w (unwound r c destruction x w2)
    unwound_fares A w w2 (thrown e) few order h cleans =
        let d = with_travelling e c in
        let x = destruction (guarded_by barrier d) w2 in
        let later = h.0.later in
        let inner = cleans d (omega (arith, few, later)) (orderly_travelling c w2 e h.1.raised.made (orderly_on c w w2 order h.0)) in
        thrown_fares A w w2 e (after_barrier r d x) h.0 h.1 (barrier_fares r n d w2 x inner) (behind_not_thrown d x (not_thrown_behind r.program n d w2 x inner))
    unwound_fares A w w2 (cancelled v) few order h cleans =
        let x = destruction (guarded_by barrier c) w2 in
        let later = h.later in
        let inner = cleans c (omega (arith, few, later)) (orderly_on c w w2 order h) in
        fares_then r.program n c w (after_barrier r c x) (λ u. stop (cancelled v)) few order (fares_on r.program n c w w2 (after_barrier r c x) h (barrier_fares r n c w2 x inner))
        (λ u m w3 few3 order3. goes_same c w3 order3)
    unwound_fares A w w2 undefined few order h cleans = tt
    unwound_fares A w w2 (ended e) few order h cleans = tt
    unwound_fares A w w2 out_of_turns few order h cleans = tt
    unwound_fares A w w2 deep few order h cleans = tt

  guarded_cleans : (destruction : Context → Action (Unit {0})) → AlwaysFares r.program destruction → (w2 : World) → n ≤ w2.last_number → (d : Context) → IsOrderly d w2
      → Fares r.program n (guarded_by barrier d) w2 (destruction (guarded_by barrier d) w2)
  guarded_cleans destruction fare w2 few d order = fare (guarded_by barrier d) n w2 few (orderly_as d w2 (barrier ∷ d.guards) d.ending order)

  pub scope_fares : {A : Type 0} (destruction : Context → Action (Unit {0})) → AlwaysFares r.program destruction → (w : World) (x : Result A) → n ≤ w.last_number → IsOrderly c w → Fares r.program n c w x
      → Fares r.program n c w (after_scope r c destruction x)
  scope_fares destruction fare w (done a w2) few order h =
      (let later = h.later in fares_then r.program n c w (destruction c w2) (λ u. pure a) few order (fares_on r.program n c w w2 (destruction c w2) h (fare c n w2 (omega (arith, few, later)) (orderly_on c w w2 order h)))
      (λ u. fares_pure r.program n c a))
  scope_fares {A} destruction fare w (stopped x w2) few order h =
      unwound_fares destruction A w w2 x few order h (λ d more o. guarded_cleans destruction fare w2 more d o)

  pub part_fares : {A : Type 0} (destruction : Context → Action (Unit {0})) → AlwaysFares r.program destruction → (w : World) (x : Result A) → n ≤ w.last_number → IsOrderly c w → Fares r.program n c w x
      → Fares r.program n c w (after_part r c destruction x)
  part_fares destruction fare w (done a w2) few order h = h
  part_fares {A} destruction fare w (stopped x w2) few order h =
      unwound_fares destruction A w w2 x few order h (λ d more o. guarded_cleans destruction fare w2 more d o)
