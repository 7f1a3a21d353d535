-- What is watched where a cleanup is left: an exception that comes out has kept its type.
use Rattle.std.proofs.Common.{◌≡◌, ℕ, true, false, Option, Some, None, refl, sym, ap, ap₂, ◌∙◌, subst, arith}
use Rattle.std.specs.Prelude.{◌==◌, not}
use Rattle.std.proofs.lemmas.Bool.Decides.{nat_tests}
use Rattle.cxx_ast.specs.Plain.{Checked}
use Rattle.meaning_forms.specs.World.{World as SourceWorld, exception_type, type_at as source_type_at}
use Rattle.meaning_forms.specs.Context.{Context as SourceContext, barrier, guarded_by, with_travelling}
use Rattle.meaning_forms.specs.Outcome.{Result as SourceResult, done as source_done, stopped as source_stopped, thrown, cancelled, ended, undefined, out_of_turns, deep, Action as SourceAction, stop as source_stop, continued as source_continued}
use Rattle.meaning_forms.specs.Running.{Running as SourceRunning}
use Rattle.meaning_forms.specs.Scope.{after_scope as source_after_scope, after_part as source_after_part}
use Rattle.meaning_forms.specs.Terminate.{after_barrier as source_after_barrier}
use Rattle.region_forms.specs.Layout.{Layout}
use Rattle.region_forms.specs.World.{type_at}
use Rattle.region_forms.specs.Outcome.{State, Result}
use Rattle.linear_simulation.specs.Watched.{same_type, still, kept_type, kept_on, not_its_own}
use Rattle.region_simulation.specs.Places.{Places}
use Rattle.region_simulation.specs.Stands.{Stands}
use Rattle.region_simulation.specs.Alike.{Alike}
use Rattle.region_simulation.proofs.Following.{Agreement}
use Rattle.region_exceptions.specs.Barred.{NotThrown}
use Rattle.region_exceptions.specs.Doomed.{numbered}
use Rattle.region_exceptions.specs.Fares.{Fares}
use Rattle.region_exceptions.proofs.Faring.{barrier_fares, not_thrown_behind}
use Rattle.region_exceptions.proofs.FaringScopes.{contains_first, behind_not_thrown}
use Rattle.region_exceptions.proofs.Raises.{type_same}

pub same_itself : (t : Option ℕ) → same_type t t ≡ true
same_itself None = refl
same_itself (Some t) = grind (arith, nat_tests)

-- an exception that comes out behind a cleanup has the type of that which came out before, and what is undefined before is so behind
abbrev pub KeepsType : {A B : Type 0} → SourceResult A → SourceResult B → Type 0
KeepsType (source_stopped (thrown e) w2) (source_stopped (thrown f) w3) = source_type_at w3 f ≡ source_type_at w2 e
KeepsType (source_stopped (thrown e) w2) y = Unit {0}
KeepsType (source_stopped undefined w2) (source_stopped undefined w3) = Unit {0}
KeepsType (source_stopped undefined w2) y = ⊥
KeepsType x y = Unit {0}

-- another exception comes out than this
abbrev pub IsOther : {A : Type 0} → ℕ → SourceResult A → Type 0
IsOther e (source_stopped (thrown f) w) = (f == e) ≡ false
IsOther e x = Unit {0}

module _ (l : Layout) (p : Checked) (at : Places) (w : SourceWorld) (s : State) where
  -- so what is watched comes out alike
  module _ {C D : Type 0} (next : Agreement C D) (k : ℕ) (c : SourceContext) where
    typed : (A : Type 0) (d : SourceContext) (e : ℕ) (w2 : SourceWorld) (s2 : State) (places : Places) → Stands l p places (with_travelling e d) w2 s2 → (x : SourceResult C) (z : Result D)
        → Alike l p at k c w s next x z → KeepsType {A = A} (source_stopped (thrown e) w2) x → Alike l p at k c w s next x (kept_type (type_at s2.world e) z)
    typed A d e w2 s2 places stands (source_done a w3) z (b, s3, is, h) keeps = (b, s3, ap (kept_type (type_at s2.world e)) is, h)
    typed A d e w2 s2 places stands (source_stopped (thrown f) w3) z (s3, is, h) keeps =
        let same = ap₂ same_type (type_same l p places (with_travelling e d) w2 s2 stands e) (type_same l p h.places (with_travelling f c) w3 s3 h.stands f ∙ ap numbered keeps) ∙
        same_itself (numbered (source_type_at w2 e)) in
        (s3, ap (kept_type (type_at s2.world e)) is ∙ ap (λ b. still b f s3) same, h)
    typed A d e w2 s2 places stands (source_stopped (cancelled n) w3) z (s3, is, h) keeps = (s3, ap (kept_type (type_at s2.world e)) is, h)
    typed A d e w2 s2 places stands (source_stopped undefined w3) z h keeps = tt
    typed A d e w2 s2 places stands (source_stopped (ended n) w3) z (s3, is, h) keeps = (s3, ap (kept_type (type_at s2.world e)) is, h)
    typed A d e w2 s2 places stands (source_stopped out_of_turns w3) z (s3, is, h) keeps = (s3, ap (kept_type (type_at s2.world e)) is, h)
    typed A d e w2 s2 places stands (source_stopped deep w3) z (s3, is, h) keeps = (s3, ap (kept_type (type_at s2.world e)) is, h)

    undefined_on : {B : Type 0} (A : Type 0) (w2 : SourceWorld) (y : Result B) (x : SourceResult C) (z : Result D) → Alike l p at k c w s next x z → KeepsType {A = A} (source_stopped undefined w2) x
        → Alike l p at k c w s next x (kept_on y z)
    undefined_on A w2 y (source_stopped undefined w3) z h keeps = tt
    undefined_on A w2 y (source_done a w3) z h keeps = absurd keeps
    undefined_on A w2 y (source_stopped (thrown f) w3) z h keeps = absurd keeps
    undefined_on A w2 y (source_stopped (cancelled n) w3) z h keeps = absurd keeps
    undefined_on A w2 y (source_stopped (ended n) w3) z h keeps = absurd keeps
    undefined_on A w2 y (source_stopped out_of_turns w3) z h keeps = absurd keeps
    undefined_on A w2 y (source_stopped deep w3) z h keeps = absurd keeps

    pub kept_alike : {A B : Type 0} (agree : Agreement A B) (m : ℕ) (d : SourceContext) (x : SourceResult A) (y : Result B) (x2 : SourceResult C) (z : Result D) → Alike l p at m d w s agree x y
        → Alike l p at k c w s next x2 z → KeepsType x x2 → Alike l p at k c w s next x2 (kept_on y z)
    kept_alike agree m d (source_done a w2) y x2 z (b, s2, is, h) g keeps = subst (Alike l p at k c w s next x2) (sym (ap (λ q. kept_on q z) is)) g
    kept_alike {A} agree m d (source_stopped (thrown e) w2) y x2 z (s2, is, h) g keeps =
        subst (Alike l p at k c w s next x2) (sym (ap (λ q. kept_on q z) is)) (typed A d e w2 s2 h.places h.stands x2 z g keeps)
    kept_alike agree m d (source_stopped (cancelled n) w2) y x2 z (s2, is, h) g keeps = subst (Alike l p at k c w s next x2) (sym (ap (λ q. kept_on q z) is)) g
    kept_alike {A} agree m d (source_stopped undefined w2) y x2 z h g keeps = undefined_on A w2 y x2 z g keeps
    kept_alike agree m d (source_stopped (ended n) w2) y x2 z (s2, is, h) g keeps = subst (Alike l p at k c w s next x2) (sym (ap (λ q. kept_on q z) is)) g
    kept_alike agree m d (source_stopped out_of_turns w2) y x2 z (s2, is, h) g keeps = subst (Alike l p at k c w s next x2) (sym (ap (λ q. kept_on q z) is)) g
    kept_alike agree m d (source_stopped deep w2) y x2 z (s2, is, h) g keeps = subst (Alike l p at k c w s next x2) (sym (ap (λ q. kept_on q z) is)) g

    pub own_alike : (e : ℕ) (x : SourceResult C) (y : Result D) → Alike l p at k c w s next x y → IsOther e x → Alike l p at k c w s next x (not_its_own e y)
    own_alike e (source_done a w2) y (b, s2, is, h) other = (b, s2, ap (not_its_own e) is, h)
    own_alike e (source_stopped (thrown f) w2) y (s2, is, h) other = (s2, ap (not_its_own e) is ∙ ap (λ b. still (not b) f s2) other, h)
    own_alike e (source_stopped (cancelled n) w2) y (s2, is, h) other = (s2, ap (not_its_own e) is, h)
    own_alike e (source_stopped undefined w2) y h other = tt
    own_alike e (source_stopped (ended n) w2) y (s2, is, h) other = (s2, ap (not_its_own e) is, h)
    own_alike e (source_stopped out_of_turns w2) y (s2, is, h) other = (s2, ap (not_its_own e) is, h)
    own_alike e (source_stopped deep w2) y (s2, is, h) other = (s2, ap (not_its_own e) is, h)

module _ (a : SourceRunning) (c : SourceContext) (destruction : SourceContext → SourceAction (Unit {0})) where
  -- a cleanup behind a barrier keeps the type of what travels
  unwound_keeps : (A B : Type 0) (e : ℕ) (w2 : SourceWorld) → (let d = guarded_by barrier (with_travelling e c) in Fares a.program 0 d w2 (destruction d w2))
      → KeepsType {A = A} {B = B} (source_stopped (thrown e) w2) (source_continued (source_after_barrier a (with_travelling e c) (destruction (guarded_by barrier (with_travelling e c)) w2)) (λ u. source_stop (thrown e)))
  unwound_keeps A B e w2 inner =
      let d = with_travelling e c in
      let x = destruction (guarded_by barrier d) w2 in
      go (source_after_barrier a d x) (barrier_fares a 0 d w2 x inner) (behind_not_thrown a 0 c d x (not_thrown_behind a.program 0 d w2 x inner))
    where
      go : (y : SourceResult (Unit {0})) → Fares a.program 0 (with_travelling e c) w2 y → NotThrown y
          → KeepsType {A = A} {B = B} (source_stopped (thrown e) w2) (source_continued y (λ u. source_stop (thrown e)))
      go (source_done u w3) g barred = ap exception_type (g.kept e (contains_first e c.travelling))
      go (source_stopped (thrown f) w3) g barred = absurd barred
      go (source_stopped (cancelled n) w3) g barred = tt
      go (source_stopped undefined w3) g barred = tt
      go (source_stopped (ended n) w3) g barred = tt
      go (source_stopped out_of_turns w3) g barred = tt
      go (source_stopped deep w3) g barred = tt

  -- so a scope does, and what is built between a part and its object
  pub scope_keeps : {A : Type 0} (x : SourceResult A)
      → ((e : ℕ) (w2 : SourceWorld) → x ≡ source_stopped (thrown e) w2 → (let d = guarded_by barrier (with_travelling e c) in Fares a.program 0 d w2 (destruction d w2)))
      → KeepsType x (source_after_scope a c destruction x)
  scope_keeps (source_done v w2) inner = tt
  scope_keeps {A} (source_stopped (thrown e) w2) inner = unwound_keeps A A e w2 (inner e w2 refl)
  scope_keeps (source_stopped (cancelled n) w2) inner = tt
  scope_keeps (source_stopped undefined w2) inner = tt
  scope_keeps (source_stopped (ended n) w2) inner = tt
  scope_keeps (source_stopped out_of_turns w2) inner = tt
  scope_keeps (source_stopped deep w2) inner = tt

  pub part_keeps : {A : Type 0} (x : SourceResult A)
      → ((e : ℕ) (w2 : SourceWorld) → x ≡ source_stopped (thrown e) w2 → (let d = guarded_by barrier (with_travelling e c) in Fares a.program 0 d w2 (destruction d w2)))
      → KeepsType x (source_after_part a c destruction x)
  part_keeps (source_done v w2) inner = tt
  part_keeps {A} (source_stopped (thrown e) w2) inner = unwound_keeps A A e w2 (inner e w2 refl)
  part_keeps (source_stopped (cancelled n) w2) inner = tt
  part_keeps (source_stopped undefined w2) inner = tt
  part_keeps (source_stopped (ended n) w2) inner = tt
  part_keeps (source_stopped out_of_turns w2) inner = tt
  part_keeps (source_stopped deep w2) inner = tt
