-- What objects begin at is there: where it is an exception, that is live.
use Rattle.std.proofs.Common.{◌≡◌, ℕ, true, List, [], ◌∷◌, refl, ap, ◌∙◌}
use Rattle.std.specs.Prelude.{◌==◌, ◌||◌, map}
use Rattle.cxx_ast.specs.Plain.{Checked}
use Rattle.meaning_forms.specs.Class.{ObjectType, some_of}
use Rattle.meaning_forms.specs.World.{World as SourceWorld, Live as SourceLive, Reference}
use Rattle.meaning_forms.specs.Context.{Context as SourceContext}
use Rattle.region_forms.specs.Layout.{Layout}
use Rattle.region_forms.specs.World.{Base, of_global, of_variable, of_exception, Address}
use Rattle.region_forms.specs.Lives.{is_live, is_there}
use Rattle.region_forms.specs.Outcome.{State}
use Rattle.region_simulation.specs.Lives.{is_live as source_is_live}
use Rattle.region_simulation.specs.Places.{Places, Refers}
use Rattle.region_simulation.specs.Stands.{live_of, IsMade, Stands}

live_same : (p : Checked) (xs : List SourceLive) (e : ℕ) → some_of (λ x. x.number == e) (map (live_of p) xs) ≡ source_is_live xs e
live_same p [] e = refl
live_same p (x ∷ xs) e = ap (λ b. x.number == e || b) (live_same p xs e)

module _ (l : Layout) (p : Checked) (at : Places) (c : SourceContext) (w : SourceWorld) (s : State) (stands : Stands l p at c w s) where
  -- the same exceptions are live
  pub live_alike : (e : ℕ) → is_live s.world e ≡ source_is_live w.live e
  live_alike e = ap (λ y. is_live y e) stands.world ∙ live_same p w.live e

  base_there : (b : Base) → IsMade s.world.calls w.last_number w.live b → is_there s.world b ≡ true
  base_there (of_global g) h = refl
  base_there (of_variable k t) h = refl
  base_there (of_exception e) h = live_alike e ∙ h.1

  -- so a part of an object that stands is there
  pub refers_there : (r : Reference) (t : ObjectType) (a : Address) → Refers l p at r t a → is_there s.world a.base ≡ true
  refers_there r t a x = ap (λ q. is_there s.world q.base) x.address ∙ base_there x.stood.base (stands.made r.object x.stood x.stands)
