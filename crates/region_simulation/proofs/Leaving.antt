-- Variables of scopes that are left stand nowhere.
use Rattle.std.proofs.Common.{◌≡◌, ℕ, ◌<◌, Bool, true, false, Option, Some, None, refl, sym, ap, ◌∙◌, subst, arith, length}
use Rattle.std.specs.Prelude.{nat_lt, if◌then◌else◌}
use Rattle.std.proofs.lemmas.Bool.Decides.{nat_tests}
use Rattle.cxx_ast.specs.Plain.{Checked}
use Rattle.meaning_forms.specs.Class.{int_type}
use Rattle.meaning_forms.specs.World.{World as SourceWorld}
use Rattle.meaning_forms.specs.Context.{Context as SourceContext}
use Rattle.meaning_forms.specs.Frame.{Frame as SourceFrame}
use Rattle.region_forms.specs.Layout.{Layout}
use Rattle.region_forms.specs.World.{Base, of_global, of_variable, of_exception}
use Rattle.region_forms.specs.Outcome.{State}
use Rattle.region_forms.specs.LowerExpression.{Lowering, variable_type}
use Rattle.region_forms.specs.LowerStatement.{variable_slot}
use Rattle.region_simulation.specs.Places.{Places, Stood}
use Rattle.region_simulation.specs.Reach.{ThisStands, Reaches}
use Rattle.region_simulation.specs.Stands.{Stands}
use Rattle.region_simulation.specs.Alike.{Follows}
use Rattle.region_simulation.specs.Flows.{InScope}
use Rattle.region_simulation.proofs.Paths.{some_same}
use Rattle.region_simulation.proofs.Following.{reached_kept, refers_kept}

-- what stands at a variable of a call is forgotten
abbrev kept_at : Base → Stood → Option Stood
kept_at (of_variable c s) x = None
kept_at b x = Some x

abbrev lasting : Option Stood → Option Stood
lasting None = None
lasting (Some x) = kept_at x.base x

-- where the objects stand that were made before the o-th, and those made since that are no variables
abbrev pub forgetting : (made : ℕ) → Places → Places
forgetting made at o = if nat_lt o made then at o else lasting (at o)

kept_is : (b : Base) (x y : Stood) → kept_at b x ≡ Some y → x ≡ y
kept_is (of_global g) x y e = some_same e
kept_is (of_exception n) x y e = some_same e
kept_is (of_variable c s) x y e = absurd (cc e)

lasting_is : (z : Option Stood) (x : Stood) → lasting z ≡ Some x → z ≡ Some x
lasting_is None x e = absurd (cc e)
lasting_is (Some y) x e = ap (λ q. Some q) (kept_is y.base y x e)

kept_no_variable : (b : Base) (x : Stood) (c s : ℕ) → kept_at (of_variable c s) x ≡ Some x → ⊥
kept_no_variable b x c s e = cc e

lasting_no_variable : (z : Option Stood) (x : Stood) (c s : ℕ) → lasting z ≡ Some x → x.base ≡ of_variable c s → ⊥
lasting_no_variable z x c s e is =
    let there = lasting_is z x e in
    let kept : kept_at x.base x ≡ Some x = ap lasting (sym there) ∙ e in
    kept_no_variable x.base x c s (subst (λ b. kept_at b x ≡ Some x) is kept)

pub forgetting_is : (made : ℕ) (at : Places) (o : ℕ) (x : Stood) → forgetting made at o ≡ Some x → at o ≡ Some x
forgetting_is made at o x = go (nat_lt o made)
  where
    go : (z : Bool) → (if z then at o else lasting (at o)) ≡ Some x → at o ≡ Some x
    go true e = e
    go false e = lasting_is (at o) x e

pub forgetting_stays : (made : ℕ) (at : Places) (o : ℕ) → o < made → forgetting made at o ≡ at o
forgetting_stays made at o lt = ap (λ z. if z then at o else lasting (at o)) (there o made lt)
  where
    there : (o made : ℕ) → o < made → nat_lt o made ≡ true
    there o made lt = grind (arith, nat_tests, lt)

-- what is not at a variable stays
forgetting_keeps : (made : ℕ) (at : Places) (o : ℕ) (x : Stood) → at o ≡ Some x → kept_at x.base x ≡ Some x → forgetting made at o ≡ Some x
forgetting_keeps made at o x e kept = go (nat_lt o made)
  where
    go : (z : Bool) → (if z then at o else lasting (at o)) ≡ Some x
    go true = e
    go false = ap lasting e ∙ kept

forgetting_old : (made : ℕ) (at : Places) (o : ℕ) (x : Stood) (c s : ℕ) → forgetting made at o ≡ Some x → x.base ≡ of_variable c s → o < made
forgetting_old made at o x c s e is = go (nat_lt o made) refl e
  where
    less : (o made : ℕ) → nat_lt o made ≡ true → o < made
    less o made f = grind (arith, nat_tests, f)

    go : (z : Bool) → nat_lt o made ≡ z → (if z then at o else lasting (at o)) ≡ Some x → o < made
    go true f g = less o made f
    go false f g = absurd (lasting_no_variable (at o) x c s g is)

module _ (l : Layout) (p : Checked) where
  -- fewer objects stand
  pub stands_forgetting : (made : ℕ) (at : Places) (c : SourceContext) (w : SourceWorld) (s : State) → Stands l p at c w s → Stands l p (forgetting made at) c w s
  stands_forgetting made at c w s h = record {
    world = h.world;
    turns = h.turns;
    memory = record {
      made = λ o x e. h.memory.made o x (forgetting_is made at o x e);
      apart = λ o q x y e f same. h.memory.apart o q x y (forgetting_is made at o x e) (forgetting_is made at q y f) same;
      shaped = λ o x e. h.memory.shaped o x (forgetting_is made at o x e);
      holds = λ o x path v e is. h.memory.holds o x path v (forgetting_is made at o x e) is;
    };
    globals = λ g lt. forgetting_keeps made at g (record { base = of_global g; type = int_type }) (h.globals g lt) refl;
    exceptions = λ i e o t kept is. forgetting_keeps made at o (record { base = of_exception e; type = t }) (h.exceptions i e o t kept is) refl;
    made = λ o x e. h.made o x (forgetting_is made at o x e);
    sound = h.sound;
    handlers = h.handlers;
    kept = h.kept;
  }

  -- whatever was declared since stands nowhere
  abbrev pub follows_forgetting : (at : Places) (k : ℕ) (c : SourceContext) (w : SourceWorld) (s : State) (d : SourceContext) (w2 : SourceWorld) (s2 : State)
      → Follows l p at k w s d w2 s2 → Follows l p at k w s d w2 s2
  follows_forgetting at k c w s d w2 s2 h = record {
    places = forgetting (length w.objects) h.places;
    stay = λ o lt. forgetting_stays (length w.objects) h.places o lt ∙ h.stay o lt;
    objects = h.objects;
    calls = h.calls;
    open_calls = h.open_calls;
    keeps = h.keeps;
    stands = stands_forgetting (length w.objects) h.places d w2 s2 h.stands;
  }

module _ (l : Lowering) (own : Option ℕ) (v : SourceFrame) (n : ℕ) (at : Places) (w : SourceWorld) (s : State) (c d : SourceContext) (w2 : SourceWorld) (s2 : State)
    (stands : Stands l.layout l.program at c w s) (h : Follows l.layout l.program at (variable_slot l n) w s d w2 s2) (scope : InScope l own n at v s) where
  -- what was in reach still is
  pub reaches_on : Reaches l own h.places v s2.frame
  reaches_on = record {
    variables = λ m is. (let x = scope.reach.variables m is in let lt = scope.before m is in record {
      there = x.there;
      address = x.address;
      refers = refers_kept l.layout l.program at (variable_slot l n) w s c d w2 s2 stands h _ _ x.address x.refers;
      reached = reached_kept (variable_type l m) (variable_slot l n) (variable_slot l m) s.frame s2.frame x.address (omega (arith, lt)) h.keeps x.reached;
    });
    this = go own scope.reach.this;
  }
    where
      go : (own : Option ℕ) → ThisStands own l at v s.frame → ThisStands own l h.places v s2.frame
      go None x = tt
      go (Some k) x = let first = x.first in record {
        first = first;
        address = x.address;
        refers = refers_kept l.layout l.program at (variable_slot l n) w s c d w2 s2 stands h _ _ x.address x.refers;
        reached = h.keeps.slots 0 (omega (arith, first)) ∙ x.reached;
      }

-- behind what was done in a scope, with all forgotten that was declared in it, the scope is as it was before
pub scope_left : (l : Lowering) (own : Option ℕ) (v : SourceFrame) (n : ℕ) (at : Places) (w : SourceWorld) (s : State) (c d : SourceContext) (w2 : SourceWorld) (s2 : State)
    → Stands l.layout l.program at c w s → (h : Follows l.layout l.program at (variable_slot l n) w s d w2 s2) → InScope l own n at v s
    → InScope l own n (follows_forgetting l.layout l.program at (variable_slot l n) c w s d w2 s2 h).places v s2
scope_left l own v n at w s c d w2 s2 stands h scope =
    let g = follows_forgetting l.layout l.program at (variable_slot l n) c w s d w2 s2 h in
    let running = scope.running in let more = h.calls in let same = h.keeps.call in
    record {
      reach = reaches_on l own v n at w s c d w2 s2 stands g scope;
      before = scope.before;
      free = λ o m x e is.
          let old = forgetting_old (length w.objects) h.places o x s2.frame.call (variable_slot l m) e is in
          scope.free o m x (sym (h.stay o old) ∙ forgetting_is (length w.objects) h.places o x e) (is ∙ ap (λ q. of_variable q (variable_slot l m)) same);
      there = scope.there;
      running = omega (arith, running, more, same);
    }
