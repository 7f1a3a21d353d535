-- What comes out alike, said from an earlier world on.
use Rattle.std.proofs.Common.{◌≡◌, ℕ, ◌<◌, ◌≤◌, ◌⊎◌, inl, inr, Bool, true, false, Some, sym, ap, ◌∙◌, subst, arith, length}
use Rattle.cxx_ast.specs.Plain.{Checked}
use Rattle.meaning_forms.specs.Class.{contains}
use Rattle.meaning_forms.specs.World.{World as SourceWorld}
use Rattle.meaning_forms.specs.Context.{Context as SourceContext}
use Rattle.meaning_forms.specs.Outcome.{Result as SourceResult, done as source_done, stopped as source_stopped, thrown, cancelled, ended, undefined, out_of_turns, deep, Action as SourceAction, continued as source_continued}
use Rattle.region_forms.specs.Layout.{Layout}
use Rattle.region_forms.specs.World.{of_exception}
use Rattle.region_forms.specs.Outcome.{State, Result, Action, continued}
use Rattle.region_simulation.specs.Places.{Places, Stood}
use Rattle.region_simulation.specs.Stands.{IsMade, Stands}
use Rattle.region_simulation.specs.Alike.{Follows, Alike}
use Rattle.region_simulation.proofs.Following.{Agreement, keeps_on}
use Rattle.region_exceptions.specs.Barred.{StaysInside}
use Rattle.region_exceptions.specs.Left.{CanBeLeft}

module _ (l : Layout) (p : Checked) where
  -- a world is followed that has fewer objects
  abbrev pub follows_older : (at : Places) (k : ℕ) (w0 w : SourceWorld) (s : State) (c : SourceContext) (w2 : SourceWorld) (s2 : State)
      → length w0.objects ≤ length w.objects → w.open_calls ≡ w0.open_calls → Follows l p at k w s c w2 s2 → Follows l p at k w0 s c w2 s2
  follows_older at k w0 w s c w2 s2 fewer opened h =
      let more = h.objects in
      record {
        places = h.places;
        stay = λ o lt. h.stay o (omega (arith, lt, fewer));
        objects = omega (arith, fewer, more);
        calls = h.calls;
        open_calls = h.open_calls ∙ opened;
        keeps = h.keeps;
        stands = h.stands;
      }

  pub alike_older : {A B : Type 0} (agree : Agreement A B) (at : Places) (k : ℕ) (c : SourceContext) (w0 w : SourceWorld) (s : State) (x : SourceResult A) (y : Result B)
      → length w0.objects ≤ length w.objects → w.open_calls ≡ w0.open_calls → Alike l p at k c w s agree x y → Alike l p at k c w0 s agree x y
  alike_older agree at k c w0 w s (source_done a w2) y fewer opened (b, s2, e, (h, same)) = (b, s2, e, (follows_older at k w0 w s c w2 s2 fewer opened h, same))
  alike_older agree at k c w0 w s (source_stopped (thrown x) w2) y fewer opened (s2, e, h) = (s2, e, follows_older at k w0 w s _ w2 s2 fewer opened h)
  alike_older agree at k c w0 w s (source_stopped (cancelled n) w2) y fewer opened (s2, e, h) = (s2, e, follows_older at k w0 w s _ w2 s2 fewer opened h)
  alike_older agree at k c w0 w s (source_stopped undefined w2) y fewer opened h = tt
  alike_older agree at k c w0 w s (source_stopped (ended x) w2) y fewer opened h = h
  alike_older agree at k c w0 w s (source_stopped out_of_turns w2) y fewer opened h = h
  alike_older agree at k c w0 w s (source_stopped deep w2) y fewer opened h = h

  -- one after the other, both from one world on
  abbrev pub follows_since : (at : Places) (k : ℕ) (w : SourceWorld) (s : State) (d : SourceContext) (w2 : SourceWorld) (s2 : State) (c : SourceContext) (w3 : SourceWorld) (s3 : State)
      (h : Follows l p at k w s d w2 s2) → Follows l p h.places k w s2 c w3 s3 → Follows l p at k w s c w3 s3
  follows_since at k w s d w2 s2 c w3 s3 h g =
      let m = h.calls in let n = g.calls in
      record {
        places = g.places;
        stay = λ o lt. g.stay o lt ∙ h.stay o lt;
        objects = g.objects;
        calls = omega (arith, m, n);
        open_calls = g.open_calls;
        keeps = keeps_on h.keeps g.keeps;
        stands = g.stands;
      }

  pub alike_since : {A B : Type 0} (agree : Agreement A B) (at : Places) (k : ℕ) (c d : SourceContext) (w : SourceWorld) (s : State) (w2 : SourceWorld) (s2 : State)
      (h : Follows l p at k w s d w2 s2) (x : SourceResult A) (y : Result B) → Alike l p h.places k c w s2 agree x y → Alike l p at k c w s agree x y
  alike_since agree at k c d w s w2 s2 h (source_done a w3) y (b, s3, e, (g, same)) = (b, s3, e, (follows_since at k w s d w2 s2 _ w3 s3 h g, same))
  alike_since agree at k c d w s w2 s2 h (source_stopped (thrown x) w3) y (s3, e, g) = (s3, e, follows_since at k w s d w2 s2 _ w3 s3 h g)
  alike_since agree at k c d w s w2 s2 h (source_stopped (cancelled n) w3) y (s3, e, g) = (s3, e, follows_since at k w s d w2 s2 _ w3 s3 h g)
  alike_since agree at k c d w s w2 s2 h (source_stopped undefined w3) y g = tt
  alike_since agree at k c d w s w2 s2 h (source_stopped (ended x) w3) y g = g
  alike_since agree at k c d w s w2 s2 h (source_stopped out_of_turns w3) y g = g
  alike_since agree at k c d w s w2 s2 h (source_stopped deep w3) y g = g

  -- what neither throws nor unwinds, then what is done in another context
  pub inside_since : {A B C D : Type 0} (agree : Agreement A B) (next : Agreement C D) (at : Places) (k : ℕ) (d c : SourceContext) (w : SourceWorld) (s : State)
      (x : SourceResult A) (y : Result B) (f : A → SourceAction C) (g : B → Action D)
      → StaysInside x → Alike l p at k d w s agree x y
      → ((a : A) (b : B) (w2 : SourceWorld) (s2 : State) (h : Follows l p at k w s d w2 s2) → agree a b w2 h.places s2 → Alike l p h.places k c w s2 next (f a w2) (g b s2))
      → Alike l p at k c w s next (source_continued x f) (continued y g)
  inside_since agree next at k d c w s (source_done a w2) y f g inside (b, s2, e, (h, same)) then =
      subst (λ z. Alike l p at k c w s next (f a w2) (continued z g)) (sym e)
      (alike_since next at k c d w s w2 s2 h (f a w2) (g b s2) (then a b w2 s2 h same))
  inside_since agree next at k d c w s (source_stopped (thrown x) w2) y f g inside h then = absurd inside
  inside_since agree next at k d c w s (source_stopped (cancelled n) w2) y f g inside h then = absurd inside
  inside_since agree next at k d c w s (source_stopped undefined w2) y f g inside h then = tt
  inside_since agree next at k d c w s (source_stopped (ended x) w2) y f g inside (s2, e, h) then = (s2, ap (λ z. continued z g) e, h)
  inside_since agree next at k d c w s (source_stopped out_of_turns w2) y f g inside (s2, e, h) then = (s2, ap (λ z. continued z g) e, h)
  inside_since agree next at k d c w s (source_stopped deep w2) y f g inside (s2, e, h) then = (s2, ap (λ z. continued z g) e, h)

  -- what can be left can be left later
  pub left_on : (kept : Bool) (e : ℕ) (at : Places) (k : ℕ) (w0 w : SourceWorld) (s : State) (d : SourceContext) (w2 : SourceWorld) (s2 : State)
      → CanBeLeft kept e at w0 w → (h : Follows l p at k w0 s d w2 s2) → CanBeLeft kept e h.places w0 w2
  left_on kept e at k w0 w s d w2 s2 can h = record {
    objects = h.objects;
    open_calls = h.open_calls;
    new = λ none o x lt is base. can.new none o x lt (sym (h.stay o lt) ∙ is) base;
  }

  -- what was made since can be left, or stays handled
  pub left_newly : (at : Places) (k : ℕ) (c : SourceContext) (w : SourceWorld) (s : State) → Stands l p at c w s → (e : ℕ) (d : SourceContext) (w2 : SourceWorld) (s2 : State)
      (h : Follows l p at k w s d w2 s2) → (contains c.handled e ≡ true) ⊎ (w.last_number < e) → CanBeLeft (contains c.handled e) e h.places w w2
  left_newly at k c w s stands e d w2 s2 h known = record {
    objects = h.objects;
    open_calls = h.open_calls;
    new = λ none o x lt is base. go known none o x (sym (h.stay o lt) ∙ is) base;
  }
    where
      go : (contains c.handled e ≡ true) ⊎ (w.last_number < e) → contains c.handled e ≡ false → (o : ℕ) (x : Stood) → at o ≡ Some x → x.base ≡ of_exception e → ⊥
      go (inl there) none o x is base = let same : true ≡ false = sym there ∙ none in cc same
      go (inr later) none o x is base = let made = (subst (IsMade s.world.calls w.last_number w.live) base (stands.made o x is)).0 in omega (arith, made, later)
