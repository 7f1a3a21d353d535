-- What throws and modules settle.
use Rattle.std.proofs.Common.{◌≡◌, ℕ, ◌+◌, inl, inr, ℤ, pos, negsuc, Bool, true, false, List, [], ◌∷◌, ◌++◌, Option, Some, None, refl, sym, ap, ◌∙◌, subst, arith}
use Rattle.std.specs.Prelude.{slice_get, slice_set, if◌then◌else◌}
use Rattle.eh_outer.specs.declared.module.Reply.{Reply}
use Rattle.eh_outer.specs.declared.module.Reply.TheVariants.{Value, Raise}
use Rattle.run_items.specs.declared.item.Item.TheVariants.{Make, Foreign}
use Rattle.meaning_forms.specs.Class.{contains}
use Rattle.meaning_forms.specs.Part.{part_type}
use Rattle.meaning_forms.specs.World.{World, building, native, foreign, object_at}
use Rattle.meaning_forms.specs.Context.{Context}
use Rattle.meaning_forms.specs.Outcome.{Result, done, stopped, thrown, cancelled, ended, undefined, out_of_turns, deep, Action, continued, ◌>>=◌, ◌>>◌}
use Rattle.meaning_forms.specs.Running.{Running}
use Rattle.meaning_forms.specs.Terminate.{terminate}
use Rattle.meaning_forms.specs.Throw.{is_full, new_exception, after_building, keep, raise_exception, throw_new, rethrow_newest, rethrow, raise_foreign, answered, take_reply, call_module}
use Rattle.meaning_events.specs.Fates.{Story, story, fate, Tells}
use Rattle.meaning_events.specs.Settles.{Nobody, IsOwn, Spares, Settled, Settles, SettlesIn, CallsSettle}
use Rattle.meaning_events.proofs.Sparing.{spares_none, spares_on, spares_change}
use Rattle.meaning_events.proofs.Telling.{newly, kept_as, IsObject, held_first, handled_old, made_other, tells_make, made_fate, raise_other, tells_raise, raised_whole, kept_other, tells_keep, kept_whole}
use Rattle.meaning_events.proofs.Freeing.{settled_freed, comes_freed}
use Rattle.meaning_events.proofs.Settling.{settled_same, settled_out, not_since, ends_settle, terminates, raise_settles}

-- a new number is not handled
new_unhandled : (hs : List ℕ) (s : Story) → Tells hs s → contains hs (s.last + 1) ≡ false
new_unhandled hs s h = go (contains hs (s.last + 1)) refl
  where
    go : (z : Bool) → contains hs (s.last + 1) ≡ z → z ≡ false
    go true is = absurd (let le = handled_old hs s (s.last + 1) h is in omega (arith, le))
    go false is = refl

module _ (r : Running) (calls : CallsSettle r) (c : Context) (s : Story) (tells : Tells c.handled s) where
  abbrev made : Story
  made = newly building (Make (s.last + 1)) s

  mine : IsOwn Nobody s (s.last + 1)
  mine = inr (omega arith)

  made_spares : Spares Nobody s made (λ q. q ≡ s.last + 1)
  made_spares = spares_change s s made (s.last + 1) (omega arith) (made_other s) mine (inl refl) (λ q other nobody. absurd nobody) (spares_none c.handled s tells)

  made_object : IsObject (fate made (s.last + 1))
  made_object = subst IsObject (sym (made_fate c.handled s tells)) (record { live = refl; made = refl; given = refl; unfreed = refl; native = λ k t. refl })

  -- it is raised once it is built
  kept_raises : (A : Type 0) (o : ℕ) (w : World) → Settled c.handled Nobody made (story w) Nobody
      → Settles {A = A} r.program c.handled c.guards Nobody s ((keep (s.last + 1) o >> raise_exception r (s.last + 1) c) w)
  kept_raises A o w g =
      let t = part_type (object_at w o) in
      let same : fate (story w) (s.last + 1) ≡ fate made (s.last + 1) = g.spares.spared (s.last + 1) (not_since made (s.last + 1) (omega arith)) in
      let object = subst IsObject (sym same) made_object in
      let whole : (fate (story w) (s.last + 1)).destroyed ≡ 0 = ap (λ f. f.destroyed) (same ∙ made_fate c.handled s tells) in
      let spares = spares_on s made (story w) made_spares g.spares (λ q out. out) (λ q nobody. absurd nobody) in
      raise_settles r calls A c s (record w { live = (kept_as (s.last + 1) (native t o w.installed) (story w)).live }) (s.last + 1)
      (record {
        tells = tells_keep c.handled (story w) (s.last + 1) t o w.installed object (new_unhandled c.handled s tells) g.tells;
        spares = spares_change s (story w) (kept_as (s.last + 1) (native t o w.installed) (story w)) (s.last + 1) (omega arith)
            (kept_other (story w) (s.last + 1) (native t o w.installed)) mine (inl refl) (λ q other out. out) spares;
      })
      (kept_whole (story w) (s.last + 1) t o w.installed object whole) (inr mine)

  -- however its building comes out
  pub built_settles : (A : Type 0) (x : Result ℕ) → Settles r.program c.handled c.guards Nobody made x
      → Settles {A = A} r.program c.handled c.guards Nobody s (continued (after_building (s.last + 1) x) (λ o. keep (s.last + 1) o >> raise_exception r (s.last + 1) c))
  built_settles A (done o w) g = kept_raises A o w g
  built_settles A (stopped (thrown f) w) g = (
    settled_freed c.handled s made (s.last + 1) (tells_make c.handled s tells) made_spares mine made_object (new_unhandled c.handled s tells) (story w) g.0,
    comes_freed c.handled s made (s.last + 1) (tells_make c.handled s tells) made_spares mine made_object (new_unhandled c.handled s tells) r.program c.guards (story w) f g.0 g.1,
  )
  built_settles A (stopped (cancelled n) w) g =
      settled_freed c.handled s made (s.last + 1) (tells_make c.handled s tells) made_spares mine made_object (new_unhandled c.handled s tells) (story w) g
  built_settles A (stopped undefined w) g = g
  built_settles A (stopped (ended f) w) g = g
  built_settles A (stopped out_of_turns w) g = g
  built_settles A (stopped deep w) g = g

module _ (r : Running) (calls : CallsSettle r) (c : Context) where
  -- an object is thrown
  pub throw_settles : (A : Type 0) (build : Action ℕ) → SettlesIn r.program c build → SettlesIn {A = A} r.program c (throw_new r c build)
  throw_settles A build settles w tells = go (is_full w)
    where
      go : (z : Bool) → Settles {A = A} r.program c.handled c.guards Nobody (story w)
          ((if z then terminate r c else (new_exception building Make >>= (λ e. (λ w. after_building e (build w)) >>= (λ o. keep e o >> raise_exception r e c)))) w)
      go true = ends_settle r.program c.handled c.guards Nobody (story w) (terminate r c w) (terminates r calls A c w tells)
      go false =
          let w1 : World = record w {
            last_number = w.last_number + 1;
            live = w.live ++ record { number = w.last_number + 1; exception = building } ∷ [];
            items = w.items ++ Make (w.last_number + 1) ∷ [];
          } in
          built_settles r calls c (story w) tells A (build w1) (settles w1 (tells_make c.handled (story w) tells))

  -- a module raises an exception
  pub foreign_settles : (A : Type 0) (k t : ℕ) → SettlesIn {A = A} r.program c (raise_foreign r k t c)
  foreign_settles A k t w tells = go (is_full w)
    where
      go : (z : Bool)
          → Settles {A = A} r.program c.handled c.guards Nobody (story w) ((if z then terminate r c else (new_exception (foreign k t) (λ m. Foreign m k t) >>= (λ e. raise_exception r e c))) w)
      go true = ends_settle r.program c.handled c.guards Nobody (story w) (terminate r c w) (terminates r calls A c w tells)
      go false =
          let w1 : World = record w {
            last_number = w.last_number + 1;
            live = w.live ++ record { number = w.last_number + 1; exception = foreign k t } ∷ [];
            items = w.items ++ Foreign (w.last_number + 1) k t ∷ [];
          } in
          let s = story w in
          raise_settles r calls A c s w1 (w.last_number + 1)
          (record {
            tells = tells_raise c.handled s k t tells;
            spares = spares_change s s (story w1) (w.last_number + 1) (omega arith) (raise_other s k t) (inr (omega arith)) (inl refl) (λ q other nobody. absurd nobody)
                (spares_none c.handled s tells);
          })
          (raised_whole c.handled s k t tells) (inr (inr (omega arith)))

  -- the newest handled exception is thrown again
  pub rethrow_settles : (A : Type 0) → SettlesIn {A = A} r.program c (rethrow r c)
  rethrow_settles A w tells = go c.handled refl
    where
      again : (f : ℕ) (es : List ℕ) → c.handled ≡ f ∷ es → (z : Bool) → Settles {A = A} r.program c.handled c.guards Nobody (story w) ((if z then terminate r c else raise_exception r f c) w)
      again f es is true = ends_settle r.program c.handled c.guards Nobody (story w) (terminate r c w) (terminates r calls A c w tells)
      again f es is false =
          let there : contains c.handled f ≡ true = ap (λ hs. contains hs f) is ∙ held_first f es in
          raise_settles r calls A c (story w) w f (settled_out c.handled (story w) f tells) (tells.whole f there) (inl there)

      go : (hs : List ℕ) → c.handled ≡ hs → Settles {A = A} r.program c.handled c.guards Nobody (story w) (rethrow_newest r hs c w)
      go [] is = ends_settle r.program c.handled c.guards Nobody (story w) (terminate r c w) (terminates r calls A c w tells)
      go (f ∷ es) is = again f es is (contains c.travelling f)

  -- a module is called
  pub module_settles : (v : ℤ) → SettlesIn r.program c (call_module r v c)
  module_settles (negsuc k) w tells = settled_same c.handled (story w) tells
  module_settles (pos k) w tells = go (slice_get w.replies k)
    where
      reply : (left : List Reply) (x : Reply) → Settles r.program c.handled c.guards Nobody (story w) (answered r k x c (record w { replies = slice_set w.replies k left }))
      reply left (Value v) = settled_same c.handled (story w) tells
      reply left (Raise t) = foreign_settles ℤ k t (record w { replies = slice_set w.replies k left }) tells

      go : (xs : Option (List Reply)) → Settles r.program c.handled c.guards Nobody (story w) (take_reply r k xs c w)
      go None = settled_same c.handled (story w) tells
      go (Some []) = settled_same c.handled (story w) tells
      go (Some (x ∷ left)) = reply left x
