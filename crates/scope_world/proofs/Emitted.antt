-- The world behind the item of a new exception.
use Rattle.std.proofs.Common.{◌≡◌, ◌+◌, ℕ, List, [], ◌∷◌, ◌++◌, sym, refl}
use Rattle.run_items.specs.declared.item.Item.{Item}
use Rattle.meaning_forms.specs.World.{World, Exception, Live}
use Rattle.meaning_forms.specs.Outcome.{emit, done}
use Rattle.meaning_forms.specs.Throw.{new_exception}

pub emitted_world : (item : Item) (w v : World) → emit item w ≡ done tt v → v ≡ record w { items = w.items ++ item ∷ [] }
emitted_world item w v e = sym (cc e)

pub made_world : (x : Exception) (item : ℕ → Item) (e : ℕ) (live : List Live) (w v : World)
    → e ≡ w.last_number + 1
    → live ≡ w.live ++ record { number = e; exception = x } ∷ []
    → emit (item e) (record w { live = live }) ≡ done tt v
    → new_exception x item w ≡ done e (record v { last_number = e })
made_world x item e live w v n l h =
    let behind : v ≡ record w { live = live; items = w.items ++ item e ∷ [] } = emitted_world (item e) (record w { live = live }) v h in
    rw (behind, l, n) refl
