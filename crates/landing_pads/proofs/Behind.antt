-- Operations that are put one after the other.
use Rattle.std.proofs.Common.{◌≡◌, ◌∙◌, ◌+◌, List, [], ◌∷◌, ◌++◌, map, length, ap, sym, append_assoc, rules}
use Rattle.std.proofs.lemmas.List.{map_push, length-append, length-map}
use Rattle.linear_forms.specs.Sites.{Placed}
use Rattle.landing_pads.specs.declared.placed.Placed.{Placed as PlacedValue}
use Rattle.landing_pads.specs.Emitted.{Emitted}
use Rattle.landing_pads.specs.View.{placed_of}

-- one operation more
pub one_put : (old now : List PlacedValue) (x : PlacedValue) (y : Placed) → now ≡ old ++ x ∷ [] → placed_of x ≡ y → Emitted old now (y ∷ [])
one_put old now x y e h = record { is = ap (map placed_of) e ∙ (map_push placed_of old x ∙ ap (λ z. map placed_of old ++ z ∷ []) h) }

-- some, and then others
pub both_emitted : {a b c : List PlacedValue} {xs ys : List Placed} → Emitted a b xs → Emitted b c ys → Emitted a c (xs ++ ys)
both_emitted {a} {b} {c} {xs} {ys} h k = record { is = k.is ∙ (ap (λ s. s ++ ys) h.is ∙ append_assoc (map placed_of a) xs ys) }

-- nothing
pub none_emitted : (a : List PlacedValue) → Emitted a a []
none_emitted a = search rules

-- how many operations there are then
pub places_emitted : {a b : List PlacedValue} {xs : List Placed} → Emitted a b xs → length b ≡ length a + length xs
places_emitted {a} {b} {xs} h =
    sym (length-map b placed_of) ∙ (ap length h.is ∙ (length-append (map placed_of a) xs ∙ ap (λ n. n + length xs) (length-map a placed_of)))

-- four parts
pub four_emitted : {a b c d f : List PlacedValue} {xs ys zs ws : List Placed} → Emitted a b xs → Emitted b c ys → Emitted c d zs → Emitted d f ws →
    Emitted a f (xs ++ (ys ++ (zs ++ ws)))
four_emitted h i j k = both_emitted h (both_emitted i (both_emitted j k))

-- five parts
pub five_emitted : {a b c d f g : List PlacedValue} {xs ys zs ws vs : List Placed} → Emitted a b xs → Emitted b c ys → Emitted c d zs → Emitted d f ws →
    Emitted f g vs → Emitted a g (xs ++ (ys ++ (zs ++ (ws ++ vs))))
five_emitted h i j k m = both_emitted h (four_emitted i j k m)

-- all that was put
pub all_emitted : {b : List PlacedValue} {xs : List Placed} → Emitted [] b xs → map placed_of b ≡ xs
all_emitted h = h.is
