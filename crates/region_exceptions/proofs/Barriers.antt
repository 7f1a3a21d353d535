-- What is done behind a barrier comes out alike.
use Rattle.std.proofs.Common.{ℕ, sym, ap, subst}
use Rattle.cxx_ast.specs.Plain.{Checked}
use Rattle.meaning_forms.specs.World.{World as SourceWorld}
use Rattle.meaning_forms.specs.Context.{Context as SourceContext, Guard, barrier, guarded_by}
use Rattle.meaning_forms.specs.Outcome.{Result as SourceResult, done as source_done, stopped as source_stopped, thrown, cancelled, ended, undefined, out_of_turns, deep, Action as SourceAction, continued as source_continued}
use Rattle.meaning_forms.specs.Running.{Running as SourceRunning}
use Rattle.meaning_forms.specs.Terminate.{terminate as source_terminate, after_barrier as source_after_barrier}
use Rattle.region_forms.specs.Layout.{Layout}
use Rattle.region_forms.specs.Outcome.{State, Context, Result, Action, continued}
use Rattle.region_forms.specs.Ending.{Running, terminate, after_barrier}
use Rattle.region_simulation.specs.Places.{Places}
use Rattle.region_simulation.specs.Stands.{Stands, context_of}
use Rattle.region_simulation.specs.Alike.{Follows, Alike}
use Rattle.region_simulation.proofs.Following.{Agreement, alike_on}
use Rattle.region_exceptions.specs.Same.{RunAlike}
use Rattle.region_exceptions.specs.Ends.{EndsAlike}
use Rattle.region_exceptions.specs.Barred.{NotThrown, StaysInside}
use Rattle.region_exceptions.specs.Scopes.{Any, BarriersAlike}
use Rattle.region_exceptions.proofs.Standing.{stands_guarded, stands_outside}
use Rattle.region_exceptions.proofs.Ends.{ends_out, terminates}

module _ (l : Layout) (p : Checked) where
  -- only where it stands changes
  abbrev pub follows_as : (at : Places) (k : ℕ) (w : SourceWorld) (s : State) (c d : SourceContext) (w2 : SourceWorld) (s2 : State) (h : Follows l p at k w s c w2 s2)
      → Stands l p h.places d w2 s2 → Follows l p at k w s d w2 s2
  follows_as at k w s c d w2 s2 h stands = record {
    places = h.places;
    stay = h.stay;
    objects = h.objects;
    calls = h.calls;
    open_calls = h.open_calls;
    keeps = h.keeps;
    stands = stands;
  }

  abbrev pub follows_guarded : (g : Guard) (at : Places) (k : ℕ) (w : SourceWorld) (s : State) (c : SourceContext) (w2 : SourceWorld) (s2 : State)
      → Follows l p at k w s c w2 s2 → Follows l p at k w s (guarded_by g c) w2 s2
  follows_guarded g at k w s c w2 s2 h = follows_as at k w s c (guarded_by g c) w2 s2 h (stands_guarded l p h.places g c w2 s2 h.stands)

  abbrev pub follows_outside : (g : Guard) (at : Places) (k : ℕ) (w : SourceWorld) (s : State) (c : SourceContext) (w2 : SourceWorld) (s2 : State)
      → Follows l p at k w s (guarded_by g c) w2 s2 → Follows l p at k w s c w2 s2
  follows_outside g at k w s c w2 s2 h = follows_as at k w s (guarded_by g c) c w2 s2 h (stands_outside l p h.places g c w2 s2 h.stands)

  -- what neither throws nor unwinds, then what is done in another context
  pub inside_then : {A B C D : Type 0} (agree : Agreement A B) (next : Agreement C D) (at : Places) (k : ℕ) (d c : SourceContext) (w : SourceWorld) (s : State)
      (x : SourceResult A) (y : Result B) (f : A → SourceAction C) (g : B → Action D)
      → StaysInside x → Alike l p at k d w s agree x y
      → ((a : A) (b : B) (w2 : SourceWorld) (s2 : State) (h : Follows l p at k w s d w2 s2) → agree a b w2 h.places s2 → Alike l p h.places k c w2 s2 next (f a w2) (g b s2))
      → Alike l p at k c w s next (source_continued x f) (continued y g)
  inside_then agree next at k d c w s (source_done a w2) y f g inside (b, s2, e, (h, same)) then =
      subst (λ z. Alike l p at k c w s next (f a w2) (continued z g)) (sym e)
      (alike_on l p next at k c d w s w2 s2 h (f a w2) (g b s2) (then a b w2 s2 h same))
  inside_then agree next at k d c w s (source_stopped (thrown x) w2) y f g inside h then = absurd inside
  inside_then agree next at k d c w s (source_stopped (cancelled n) w2) y f g inside h then = absurd inside
  inside_then agree next at k d c w s (source_stopped undefined w2) y f g inside h then = tt
  inside_then agree next at k d c w s (source_stopped (ended x) w2) y f g inside (s2, e, h) then = (s2, ap (λ z. continued z g) e, h)
  inside_then agree next at k d c w s (source_stopped out_of_turns w2) y f g inside (s2, e, h) then = (s2, ap (λ z. continued z g) e, h)
  inside_then agree next at k d c w s (source_stopped deep w2) y f g inside (s2, e, h) then = (s2, ap (λ z. continued z g) e, h)

-- what ends stays inside
pub ends_inside : {A B : Type 0} (x : SourceResult A) (y : Result B) → EndsAlike x y → StaysInside x
ends_inside (source_done a w) y h = tt
ends_inside (source_stopped (thrown e) w) y h = h
ends_inside (source_stopped (cancelled n) w) y h = h
ends_inside (source_stopped (ended e) w) y h = tt
ends_inside (source_stopped undefined w) y h = tt
ends_inside (source_stopped out_of_turns w) y h = tt
ends_inside (source_stopped deep w) y h = tt

-- what is done behind a barrier, with whatever answer
pub barred_out : (l : Layout) (a : SourceRunning) (b : Running) → RunAlike l a b → {A B : Type 0} (agree : Agreement A B)
    (at : Places) (k : ℕ) (c : SourceContext) (w : SourceWorld) (s : State) (x : SourceResult A) (y : Result B)
    → NotThrown x → Alike l a.program at k (guarded_by barrier c) w s agree x y
    → StaysInside (source_after_barrier a c x) × Alike l a.program at k c w s agree (source_after_barrier a c x) (after_barrier b (context_of w.open_calls c) y)
barred_out l a b same {A} {B} agree at k c w s x y not h = go x not h
  where
    ctx : Context
    ctx = context_of w.open_calls c

    go : (x : SourceResult A) → NotThrown x → Alike l a.program at k (guarded_by barrier c) w s agree x y
        → StaysInside (source_after_barrier a c x) × Alike l a.program at k c w s agree (source_after_barrier a c x) (after_barrier b ctx y)
    go (source_done u w2) not (v, s2, e, (h, agrees)) = (tt, (v, s2, ap (after_barrier b ctx) e, (follows_outside l a.program barrier at k w s c w2 s2 h, agrees)))
    go (source_stopped (thrown e) w2) not h = absurd not
    go (source_stopped (cancelled n) w2) not (s2, e, h) =
        let standing = stands_outside l a.program h.places barrier c w2 s2 h.stands in
        let ends = subst (λ n. EndsAlike {A = A} {B = B} (source_terminate a c w2) (terminate b (context_of n c) s2)) h.open_calls
        (terminates l a b same A B h.places c w2 s2 standing) in (
          ends_inside (source_terminate {A = A} a c w2) (terminate b ctx s2) ends,
          subst (λ z. Alike l a.program at k c w s agree (source_terminate a c w2) z) (sym (ap (after_barrier b ctx) e))
              (ends_out l a b same agree at k c w s (source_terminate a c w2) (terminate b ctx s2) ends),
        )
    go (source_stopped (ended e) w2) not (s2, i, h) = (tt, (s2, ap (after_barrier b ctx) i, h))
    go (source_stopped undefined w2) not h = (tt, tt)
    go (source_stopped out_of_turns w2) not (s2, i, h) = (tt, (s2, ap (after_barrier b ctx) i, h))
    go (source_stopped deep w2) not (s2, i, h) = (tt, (s2, ap (after_barrier b ctx) i, h))

pub barriers_alike : BarriersAlike
barriers_alike l a b same at k c w s x y not h = barred_out l a b same Any at k c w s x y not h
