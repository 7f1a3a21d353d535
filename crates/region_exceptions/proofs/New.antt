-- A new exception that is not native, and more of lists.
use Rattle.std.proofs.Common.{◌≡◌, ℕ, zero, suc, ◌+◌, ◌≤◌, ◌⊎◌, inl, inr, Bool, true, false, List, [], ◌∷◌, ◌++◌, Some, refl, sym, ap, ◌∙◌, subst, arith}
use Rattle.std.specs.Prelude.{nat_le, slice_get}
use Rattle.std.proofs.lemmas.List.{map-append, length-map}
use Rattle.cxx_ast.specs.Plain.{Checked}
use Rattle.run_items.specs.declared.item.Item.{Item}
use Rattle.meaning_forms.specs.Class.{ObjectType, contains}
use Rattle.meaning_forms.specs.World.{World as SourceWorld, Live as SourceLive, Exception as SourceException, Installed, native as source_native, building as source_building}
use Rattle.meaning_forms.specs.Context.{Context as SourceContext}
use Rattle.meaning_forms.specs.Throw.{is_full as source_is_full}
use Rattle.region_forms.specs.Layout.{Layout}
use Rattle.region_forms.specs.World.{Live, World, with_item}
use Rattle.region_forms.specs.Effect.{is_full, with_new}
use Rattle.region_forms.specs.Outcome.{State}
use Rattle.region_simulation.specs.Places.{Places}
use Rattle.region_simulation.specs.Stands.{exception_of, live_of, world_of, Stands}
use Rattle.region_exceptions.specs.Raises.{CanBeRaised}
use Rattle.region_exceptions.proofs.Caught.{front_unhandled}
use Rattle.region_exceptions.proofs.Standing.{sound_later, stands_on}
use Rattle.region_exceptions.specs.Unbuilt.{IsUnbuilt}
use Rattle.region_exceptions.proofs.Lives.{added_new, live_added, live_new, thrown_added}

-- an element of a list with one behind it
pub last_or_before : {A : Type 0} (xs : List A) (y z : A) (i : ℕ) → slice_get (xs ++ y ∷ []) i ≡ Some z → (slice_get xs i ≡ Some z) ⊎ (y ≡ z)
last_or_before [] y z zero e = inr (cc e)
last_or_before [] y z (suc i) e = absurd (cc e)
last_or_before (x ∷ xs) y z zero e = inl e
last_or_before (x ∷ xs) y z (suc i) e = last_or_before xs y z i e

-- an exception that is not native
abbrev pub IsPlain : SourceException → Type 0
IsPlain (source_native t o kept) = ⊥
IsPlain _ = Unit {0}

pub plain_only : (n e o : ℕ) (x : SourceException) (t : ObjectType) (kept : Installed) → IsPlain x
    → ◌≡◌ {A = SourceLive} (record { number = n; exception = x }) (record { number = e; exception = source_native t o kept }) → ⊥
plain_only n e o x t kept plain same = subst IsPlain (ap {A = SourceLive} (λ y. y.exception) same) plain

-- the world with a new exception, and an item for it
abbrev pub newly : SourceException → Item → SourceWorld → SourceWorld
newly x i w = record w { last_number = w.last_number + 1; live = w.live ++ record { number = w.last_number + 1; exception = x } ∷ []; items = w.items ++ i ∷ [] }

-- no exception of its number is native
pub new_plain : (w : SourceWorld) (n : ℕ) (x : SourceException) → IsPlain x → ((i : ℕ) (y : SourceLive) → slice_get w.live i ≡ Some y → y.number ≤ n) → (i o : ℕ) (t : ObjectType) (kept : Installed)
    → slice_get (w.live ++ record { number = n + 1; exception = x } ∷ []) i ≡ Some (record { number = n + 1; exception = source_native t o kept }) → ⊥
new_plain w n x plain made i o t kept there = go (last_or_before w.live (record { number = n + 1; exception = x }) (record { number = n + 1; exception = source_native t o kept }) i there)
  where
    go : ((slice_get w.live i ≡ Some (record { number = n + 1; exception = source_native t o kept })) ⊎
        (◌≡◌ {A = SourceLive} (record { number = n + 1; exception = x }) (record { number = n + 1; exception = source_native t o kept }))) → ⊥
    go (inl before) = let le = made i (record { number = n + 1; exception = source_native t o kept }) before in omega (arith, le)
    go (inr same) = plain_only (n + 1) (n + 1) o x t kept plain same

-- so an exception that is made to be built is unbuilt
pub new_unbuilt : (w : SourceWorld) (i : Item) → ((j : ℕ) (y : SourceLive) → slice_get w.live j ≡ Some y → y.number ≤ w.last_number)
    → IsUnbuilt (w.last_number + 1) (newly source_building i w)
new_unbuilt w i made = (
  live_new w.live (w.last_number + 1) source_building,
  added_new w.live w.last_number source_building made,
  λ j o t kept there. new_plain w w.last_number source_building tt made j o t kept there,
)

-- its number is not that of any that is made
pub new_number : (n : ℕ) (es : List ℕ) → ((e : ℕ) → contains es e ≡ true → e ≤ n) → contains es (n + 1) ≡ false
new_number n es made = go (contains es (n + 1)) refl
  where
    go : (b : Bool) → contains es (n + 1) ≡ b → b ≡ false
    go true is = absurd (let le = made (n + 1) is in omega (arith, le))
    go false is = refl

module _ (l : Layout) (p : Checked) (at : Places) (c : SourceContext) (w : SourceWorld) (s : State) (stands : Stands l p at c w s) where
  pub full_same : is_full s.world ≡ source_is_full w
  full_same = ap is_full stands.world ∙ ap (λ n. nat_le 1024 n) (length-map w.live (live_of p))

  pub new_on : (x : SourceException) (i : Item) → IsPlain x → Stands l p at c (newly x i w) (record s { world = with_item i (with_new (exception_of p x) s.world) })
  new_on x i plain =
      let w2 = newly x i w in
      let world = world_of p c w2 s.world.memory s.world.calls in
      let y : SourceLive = record { number = w.last_number + 1; exception = x } in
      stands_on l p at c c w w2 s (with_item i (with_new (exception_of p x) s.world))
      (ap (λ z. with_item i (with_new (exception_of p x) z)) stands.world ∙
      ap {A = List Live} {B = World} (λ xs. record world { live = xs }) (sym (map-append (live_of p) w.live (y ∷ []))))
      refl refl (omega arith)
      (sound_later c w.last_number (w.last_number + 1) w.live w2.live (omega arith)
      (λ j z there. made j z (last_or_before w.live y z j there)) (λ f in_reach can. thrown_added w.live y f can) stands.sound)
      stands.handlers
      (λ j e o t kept there. old e o t kept j (last_or_before w.live y (record { number = e; exception = source_native t o kept }) j there), λ f h. live_added w.live y f h)
      stands
    where
      made : (j : ℕ) (z : SourceLive) → ((slice_get w.live j ≡ Some z) ⊎ (◌≡◌ {A = SourceLive} (record { number = w.last_number + 1; exception = x }) z)) → z.number ≤ w.last_number + 1
      made j z (inl there) = (let le = stands.sound.live j z there in omega (arith, le))
      made j z (inr same) = (let e : w.last_number + 1 ≡ z.number = ap {A = SourceLive} (λ q. q.number) same in omega (arith, e))

      old : (e o : ℕ) (t : ObjectType) (kept : Installed) (j : ℕ)
          → ((slice_get w.live j ≡ Some (record { number = e; exception = source_native t o kept })) ⊎
          (◌≡◌ {A = SourceLive} (record { number = w.last_number + 1; exception = x }) (record { number = e; exception = source_native t o kept })))
          → (i : ℕ) × (slice_get w.live i ≡ Some (record { number = e; exception = source_native t o kept }))
      old e o t kept j (inl there) = (j, there)
      old e o t kept j (inr same) = absurd (plain_only (w.last_number + 1) e o x t kept plain same)

  -- a new exception can be raised
  pub new_can : (x : SourceException) (i : Item) → CanBeRaised c (newly x i w) (w.last_number + 1)
  new_can x i = record {
    made = omega arith;
    rests = new_number w.last_number c.travelling stands.sound.travelling;
    front = front_unhandled (w.last_number + 1) c.handled (new_number w.last_number c.handled stands.sound.handled);
  }
