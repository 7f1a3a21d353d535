-- What the leaving of an exception settles.
use Rattle.std.proofs.Common.{◌≡◌, ℕ, inl, inr, Bool, true, false, [], ◌∷◌, ◌++◌, refl, sym, ap, ◌∙◌, subst, arith}
use Rattle.run_items.specs.declared.item.Item.TheVariants.{Leave, Destroy, Clean}
use Rattle.meaning_forms.specs.Class.{ObjectType, int_type, class_type, contains}
use Rattle.meaning_forms.specs.World.{World, Exception, building, native, foreign, Reference, whole, exception_in, exception_at}
use Rattle.meaning_forms.specs.Context.{Context}
use Rattle.meaning_forms.specs.Outcome.{Result, done, stopped, thrown, cancelled, ended, undefined, out_of_turns, deep, pure}
use Rattle.meaning_forms.specs.Running.{Running, destructor}
use Rattle.meaning_forms.specs.Construct.{destroy}
use Rattle.meaning_forms.specs.Handler.{after_destructor, give_back, let_go}
use Rattle.meaning_events.specs.Events.{is_make, is_raise, is_free}
use Rattle.meaning_events.specs.Fates.{Story, story, fate, IsWhole, IsBuilt, is_token, Tells}
use Rattle.meaning_events.specs.Settles.{Nobody, Unless, Spares, Settles, AlwaysSettles, CallsSettle}
use Rattle.meaning_events.proofs.Sparing.{never, spares_none, spares_same, spares_change, spares_more}
use Rattle.meaning_events.proofs.Told.{told_same}
use Rattle.meaning_events.proofs.Telling.{told, without, tacit_same, IsObject, held_first, tells_leave, destroyed_other, tells_destroy, cleaned_other, tells_clean, cleaned_is_over}
use Rattle.meaning_events.proofs.Freeing.{settled_freed, comes_freed}
use Rattle.meaning_events.proofs.Settling.{settled_same, settles_then}

-- a destructor, or nothing
pub destroy_settles : (r : Running) → CallsSettle r → (t : ObjectType) (target : Reference) → AlwaysSettles r.program (destroy r t target)
destroy_settles r calls int_type target c w tells = settled_same c.handled (story w) tells
destroy_settles r calls (class_type k) target c w tells =
    settles_then r.program c.handled c.guards Nobody (story w) (r.call (destructor k) target [] c w) (λ v. pure (tt {0})) (calls (destructor k) target [] c w tells)
    (λ v w2 more. settled_same c.handled (story w2) more)

-- an object that is whole can be freed
whole_object : (s : Story) (e o : ℕ) (t : ObjectType) (kept : _) → exception_in s.live e ≡ native t o kept → IsWhole (fate s e) → IsObject (fate s e)
whole_object s e o t kept is h = record { live = h.live; made = subst (λ x. IsBuilt x (fate s e).made) is h.built; given = h.given; unfreed = h.unfreed; native = λ k u. ap (is_token k u) is }

-- so it can while its destructor runs
destroyed_object : (s : Story) (e : ℕ) → IsObject (fate s e) → IsObject (fate (told (Destroy e) s) e)
destroyed_object s e h = record {
  live = h.live;
  made = told_same (is_make e) s.items (Destroy e) refl ∙ h.made;
  given = (let m = told_same (is_make e) s.items (Destroy e) refl in let n = told_same (is_raise e) s.items (Destroy e) refl in let x = h.given in omega (arith, m, n, x));
  unfreed = told_same (is_free e) s.items (Destroy e) refl ∙ h.unfreed;
  native = h.native;
}

module _ (r : Running) (calls : CallsSettle r) (d : Context) (w : World) (e : ℕ) (tells : Tells (e ∷ d.handled) (story w)) where
  abbrev after_leave : Story
  after_leave = told (Leave e) (story w)

  abbrev after_destroy : Story
  after_destroy = told (Destroy e) (told (Leave e) (story w))

  tells1 : Tells d.handled after_leave
  tells1 = tells_leave d.handled (story w) e tells

  left_same : (q : ℕ) → fate after_leave q ≡ fate (story w) q
  left_same q = tacit_same (Leave e) (story w) (λ n. (refl, refl, refl, refl)) q

  whole1 : IsWhole (fate after_leave e)
  whole1 = subst IsWhole (sym (left_same e)) (tells.whole e (held_first e d.handled))

  left_spares : (own : ℕ → Type 0) → Spares own (story w) after_leave own
  left_spares own = spares_same (story w) (story w) after_leave refl left_same (spares_none (e ∷ d.handled) (story w) tells)

  -- an object is destroyed and freed
  destroyed_settles : (t : ObjectType) (o : ℕ) (kept : _) → contains d.handled e ≡ false → exception_in w.live e ≡ native t o kept
      → Settles r.program d.handled d.guards (Unless false e) (story w) (give_back r e (native t o kept) d (record w { items = w.items ++ Leave e ∷ [] }))
  destroyed_settles t o kept none is = go (destroy r t (whole o) d w2) (destroy_settles r calls t (whole o) d w2 tells2)
    where
      w2 : World
      w2 = record w { items = (w.items ++ Leave e ∷ []) ++ Destroy e ∷ [] }

      object1 : IsObject (fate after_leave e)
      object1 = whole_object after_leave e o t kept is whole1

      tells2 : Tells d.handled after_destroy
      tells2 = tells_destroy d.handled after_leave e whole1 object1.made none tells1

      spares2 : Spares (Unless false e) (story w) after_destroy (λ q. q ≡ e)
      spares2 =
          spares_change (story w) after_leave after_destroy e (omega arith) (destroyed_other after_leave e) (inl (refl, refl))
          (inl refl) (λ q other out. out.0) (left_spares (Unless false e))

      object2 : IsObject (fate after_destroy e)
      object2 = destroyed_object after_leave e object1

      go : (x : Result (Unit {0})) → Settles r.program d.handled d.guards Nobody after_destroy x
          → Settles r.program d.handled d.guards (Unless false e) (story w) (after_destructor e x)
      go (done u w3) g = settled_freed d.handled (story w) after_destroy e tells2 spares2 (inl (refl, refl)) object2 none (story w3) g
      go (stopped (thrown f) w3) g = (
        settled_freed d.handled (story w) after_destroy e tells2 spares2 (inl (refl, refl)) object2 none (story w3) g.0,
        comes_freed d.handled (story w) after_destroy e tells2 spares2 (inl (refl, refl)) object2 none r.program d.guards (story w3) f g.0 g.1,
      )
      go (stopped (cancelled n) w3) g = settled_freed d.handled (story w) after_destroy e tells2 spares2 (inl (refl, refl)) object2 none (story w3) g
      go (stopped undefined w3) g = g
      go (stopped (ended x) w3) g = g
      go (stopped out_of_turns w3) g = g
      go (stopped deep w3) g = g

  -- an exception that does not stay is given back
  given_back_settles : contains d.handled e ≡ false → (x : Exception) → exception_in w.live e ≡ x
      → Settles r.program d.handled d.guards (Unless false e) (story w) (give_back r e x d (record w { items = w.items ++ Leave e ∷ [] }))
  given_back_settles none building is = absurd (subst (λ x. IsBuilt x (fate after_leave e).made) is whole1.built)
  given_back_settles none (foreign k t) is = record {
    tells = tells_clean d.handled after_leave e k t whole1.live is none tells1;
    spares = spares_change (story w) after_leave (without e (Clean k t) after_leave) e (omega arith) (cleaned_other after_leave e k t) (inl (refl, refl))
        (inr (cleaned_is_over after_leave e k t (subst (λ x. IsBuilt x (fate after_leave e).made) is whole1.built) whole1.unfreed))
        (λ q other out. absurd (other out.0)) (left_spares (Unless false e));
  }
  given_back_settles none (native t o kept) is = destroyed_settles t o kept none is

-- an exception is left, and settled unless it stays
pub let_go_settles : (r : Running) → CallsSettle r → (d : Context) (w : World) (e : ℕ) (kept : Bool) → Tells (e ∷ d.handled) (story w) → (kept ≡ false → contains d.handled e ≡ false)
    → Settles r.program d.handled d.guards (Unless kept e) (story w) (let_go r e kept d w)
let_go_settles r calls d w e true tells none = record {
  tells = tells1 r calls d w e tells;
  spares = spares_more (story w) (told (Leave e) (story w)) (λ q mine. never mine.1) (λ q out. out) (left_spares r calls d w e tells Nobody);
}
let_go_settles r calls d w e false tells none = given_back_settles r calls d w e tells (none refl) (exception_at w e) refl
