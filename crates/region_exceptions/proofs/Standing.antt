-- A state goes on standing for a world where neither memory nor an object is changed; what is handled and what travels may be.
use Rattle.std.proofs.Common.{◌≡◌, ℕ, ◌≤◌, ◌⊎◌, inl, inr, Bool, true, false, List, ◌∷◌, Some, refl, sym, ap, ◌∙◌, subst, arith, length}
use Rattle.std.specs.Prelude.{◌==◌, ◌||◌, slice_get}
use Rattle.std.proofs.lemmas.Bool.Decides.{nat_tests}
use Rattle.cxx_ast.specs.Plain.{Checked}
use Rattle.meaning_forms.specs.Class.{ObjectType, contains}
use Rattle.meaning_forms.specs.World.{World as SourceWorld, Live as SourceLive, Installed, native}
use Rattle.meaning_forms.specs.Context.{Context as SourceContext, Guard, guarded_by, handling, with_travelling}
use Rattle.region_forms.specs.Caught.{only_front}
use Rattle.region_forms.specs.Layout.{Layout}
use Rattle.region_forms.specs.World.{Base, of_global, of_variable, of_exception, Frame, World}
use Rattle.region_forms.specs.Outcome.{State}
use Rattle.region_simulation.specs.Lives.{is_live, CanBeThrown}
use Rattle.region_simulation.specs.Places.{Places}
use Rattle.region_simulation.specs.Stands.{world_of, IsMade, IsSound, AreHandlers, IsKept, Stands}
use Rattle.region_simulation.specs.Alike.{SameSeen, Follows}
use Rattle.region_simulation.proofs.Following.{keeps_all}
use Rattle.region_simulation.proofs.Builtins.{remembers_same}
use Rattle.region_exceptions.specs.Raises.{EntriesStaySound}

-- an exception is one of a list, or the one in front
pub held : (e f : ℕ) (es : List ℕ) → contains (e ∷ es) f ≡ true → (f ≡ e) ⊎ (contains es f ≡ true)
held e f es h = go (e == f) refl h
  where
    go : (b : Bool) → (e == f) ≡ b → (b || contains es f) ≡ true → (f ≡ e) ⊎ (contains es f ≡ true)
    go true same h = inl (grind (arith, nat_tests, same))
    go false same h = inr h

holds : (e f : ℕ) (es : List ℕ) → contains es f ≡ true → contains (e ∷ es) f ≡ true
holds e f es h = go (e == f)
  where
    go : (b : Bool) → (b || contains es f) ≡ true
    go true = refl
    go false = h

module _ {n : ℕ} {xs : List SourceLive} where
  pub sound_guarded : (g : Guard) (c : SourceContext) → IsSound c n xs → IsSound (guarded_by g c) n xs
  sound_guarded g c h = record { handled = h.handled; travelling = h.travelling; entered = h.entered; thrown = h.thrown; live = h.live; together = h.together }

  pub sound_outside : (g : Guard) (c : SourceContext) → IsSound (guarded_by g c) n xs → IsSound c n xs
  sound_outside g c h = record { handled = h.handled; travelling = h.travelling; entered = h.entered; thrown = h.thrown; live = h.live; together = h.together }

  pub sound_ending : (c : SourceContext) → IsSound c n xs → IsSound (record c { ending = true }) n xs
  sound_ending c h = record { handled = h.handled; travelling = h.travelling; entered = h.entered; thrown = h.thrown; live = h.live; together = h.together }

  pub sound_left : (e : ℕ) (c : SourceContext) → IsSound (handling e c) n xs → IsSound c n xs
  sound_left e c h = record {
    handled = λ f is. h.handled f (holds e f c.handled is);
    travelling = h.travelling;
    entered = λ f is. h.entered f (holds e f c.handled is);
    thrown = h.thrown;
    live = h.live;
    together = h.together.1;
  }

  pub sound_handled : (e : ℕ) (c : SourceContext) → e ≤ n → CanBeThrown xs e → only_front e c.handled ≡ true → IsSound c n xs → IsSound (handling e c) n xs
  sound_handled e c made can front h = record {
    handled = λ f is. go f (held e f c.handled is);
    travelling = h.travelling;
    entered = λ f is. also f (held e f c.handled is);
    thrown = h.thrown;
    live = h.live;
    together = (front, h.together);
  }
    where
      go : (f : ℕ) → (f ≡ e) ⊎ (contains c.handled f ≡ true) → f ≤ n
      go f (inl same) = omega (arith, same, made)
      go f (inr is) = h.handled f is

      also : (f : ℕ) → (f ≡ e) ⊎ (contains c.handled f ≡ true) → CanBeThrown xs f
      also f (inl same) = subst (CanBeThrown xs) (sym same) can
      also f (inr is) = h.entered f is

  pub sound_travelling : (e : ℕ) (c : SourceContext) → e ≤ n → CanBeThrown xs e → IsSound c n xs → IsSound (with_travelling e c) n xs
  sound_travelling e c made can h = record {
    handled = h.handled;
    travelling = λ f is. go f (held e f c.travelling is);
    entered = h.entered;
    thrown = λ f is. also f (held e f c.travelling is);
    live = h.live;
    together = h.together;
  }
    where
      go : (f : ℕ) → (f ≡ e) ⊎ (contains c.travelling f ≡ true) → f ≤ n
      go f (inl same) = omega (arith, same, made)
      go f (inr is) = h.travelling f is

      also : (f : ℕ) → (f ≡ e) ⊎ (contains c.travelling f ≡ true) → CanBeThrown xs f
      also f (inl same) = subst (CanBeThrown xs) (sym same) can
      also f (inr is) = h.thrown f is

  pub sound_resting : (e : ℕ) (c : SourceContext) → IsSound (with_travelling e c) n xs → IsSound c n xs
  sound_resting e c h = record {
    handled = h.handled;
    travelling = λ f is. h.travelling f (holds e f c.travelling is);
    entered = h.entered;
    thrown = λ f is. h.thrown f (holds e f c.travelling is);
    live = h.live;
    together = h.together;
  }

pub sound_later : (c : SourceContext) (m n : ℕ) (xs ys : List SourceLive) → m ≤ n → ((i : ℕ) (x : SourceLive) → slice_get ys i ≡ Some x → x.number ≤ n)
    → ((e : ℕ) → (contains c.handled e ≡ true) ⊎ (contains c.travelling e ≡ true) → CanBeThrown xs e → CanBeThrown ys e) → IsSound c m xs → IsSound c n ys
sound_later c m n xs ys le live keeps h = record {
  handled = λ e is. (let made = h.handled e is in omega (arith, made, le));
  travelling = λ e is. (let made = h.travelling e is in omega (arith, made, le));
  entered = λ e is. keeps e (inl is) (h.entered e is);
  thrown = λ e is. keeps e (inr is) (h.thrown e is);
  live = live;
  together = h.together;
}

-- each native exception was native before
abbrev pub AreOld : List SourceLive → List SourceLive → Type 0
AreOld old new = (i e o : ℕ) (t : ObjectType) (kept : Installed) → slice_get new i ≡ Some (record { number = e; exception = native t o kept })
    → (j : ℕ) × (slice_get old j ≡ Some (record { number = e; exception = native t o kept }))

-- and each that was live is
abbrev pub LiveOn : List SourceLive → List SourceLive → Type 0
LiveOn old new = AreOld old new × ((e : ℕ) → is_live old e ≡ true → is_live new e ≡ true)

pub all_old : (xs : List SourceLive) → LiveOn xs xs
all_old xs = (λ i e o t kept there. (i, there), λ e h. h)

made_later : (calls m n : ℕ) (xs ys : List SourceLive) (b : Base) → m ≤ n → ((e : ℕ) → is_live xs e ≡ true → is_live ys e ≡ true) → IsMade calls m xs b → IsMade calls n ys b
made_later calls m n xs ys (of_global g) le lives h = tt
made_later calls m n xs ys (of_variable c s) le lives h = h
made_later calls m n xs ys (of_exception e) le lives h = (let made = h.0 in omega (arith, made, le), lives e h.1)

module _ (l : Layout) (p : Checked) (at : Places) where
  -- where native exceptions are made too, it is said where their objects stand, and that what they are kept with can be called
  pub stands_with : (c d : SourceContext) (w w2 : SourceWorld) (s : State) (y : World) → y ≡ world_of p d w2 s.world.memory s.world.calls → w2.objects ≡ w.objects
      → w2.turns ≡ w.turns → w.last_number ≤ w2.last_number → IsSound d w2.last_number w2.live → AreHandlers p w2.installed
      → ((i e o : ℕ) (t : ObjectType) (kept : Installed) → slice_get w2.live i ≡ Some (record { number = e; exception = native t o kept })
      → (at o ≡ Some (record { base = of_exception e; type = t })) × IsKept p t kept)
      → ((e : ℕ) → is_live w.live e ≡ true → is_live w2.live e ≡ true)
      → Stands l p at c w s → Stands l p at d w2 (record s { world = y })
  stands_with c d w w2 s y is objects turns later sound handlers natives lives h =
      subst (λ z. Stands l p at d w2 (record s { world = z })) (sym is) (record {
        world = refl;
        turns = h.turns ∙ sym turns;
        memory = remembers_same l p at w w2 s.world.memory objects h.memory;
        globals = h.globals;
        exceptions = λ i e o t kept there. (natives i e o t kept there).0;
        made = λ o x there. made_later s.world.calls w.last_number w2.last_number w.live w2.live x.base later lives (h.made o x there);
        sound = sound;
        handlers = handlers;
        kept = λ i e o t kept there. (natives i e o t kept there).1;
      })

  pub stands_on : (c d : SourceContext) (w w2 : SourceWorld) (s : State) (y : World) → y ≡ world_of p d w2 s.world.memory s.world.calls → w2.objects ≡ w.objects
      → w2.turns ≡ w.turns → w.last_number ≤ w2.last_number → IsSound d w2.last_number w2.live → AreHandlers p w2.installed → LiveOn w.live w2.live
      → Stands l p at c w s → Stands l p at d w2 (record s { world = y })
  stands_on c d w w2 s y is objects turns later sound handlers old h =
      stands_with c d w w2 s y is objects turns later sound handlers
      (λ i e o t kept there. (let (j, before) = old.0 i e o t kept there in (h.exceptions j e o t kept before, h.kept j e o t kept before))) old.1 h

  -- nor is a frame
  pub stands_framed : (c : SourceContext) (w : SourceWorld) (s : State) (f : Frame) → Stands l p at c w s → Stands l p at c w (record s { frame = f })
  stands_framed c w s f h = record {
    world = h.world;
    turns = h.turns;
    memory = h.memory;
    globals = h.globals;
    exceptions = h.exceptions;
    made = h.made;
    sound = h.sound;
    handlers = h.handlers;
    kept = h.kept;
  }

  -- guards are no part of what both see
  pub stands_guarded : (g : Guard) (c : SourceContext) (w : SourceWorld) (s : State) → Stands l p at c w s → Stands l p at (guarded_by g c) w s
  stands_guarded g c w s h = stands_on c (guarded_by g c) w w s s.world h.world refl refl (omega arith) (sound_guarded g c h.sound) h.handlers (all_old w.live) h

  pub stands_outside : (g : Guard) (c : SourceContext) (w : SourceWorld) (s : State) → Stands l p at (guarded_by g c) w s → Stands l p at c w s
  stands_outside g c w s h = stands_on (guarded_by g c) c w w s s.world h.world refl refl (omega arith) (sound_outside g c h.sound) h.handlers (all_old w.live) h

  pub seen : (c : SourceContext) (w : SourceWorld) (s : State) → Stands l p at c w s → SameSeen w s
  seen c w s h = record { items = ap (λ y. y.items) h.world; replies = ap (λ y. y.replies) h.world; deepest = ap (λ y. y.deepest) h.world }

pub entries_stay_sound : EntriesStaySound
entries_stay_sound c e last lives made can front h = sound_handled e c made can front h

-- what follows where the world alone is changed, and no object
abbrev pub follows_changed : (l : Layout) (p : Checked) (at : Places) (k : ℕ) (d : SourceContext) (w w2 : SourceWorld) (s : State) (y : World) → w2.objects ≡ w.objects
    → w2.open_calls ≡ w.open_calls → y.calls ≡ s.world.calls → Stands l p at d w2 (record s { world = y }) → Follows l p at k w s d w2 (record s { world = y })
follows_changed l p at k d w w2 s y objects opened calls stands =
    let more = ap (λ os. length os) objects in
    record {
      places = at;
      stay = λ o lt. refl;
      objects = omega (arith, more);
      calls = omega (arith, calls);
      open_calls = opened;
      keeps = keeps_all k s.frame;
      stands = stands;
    }
