-- The replies of modules: what is left when one is taken.
use Rattle.std.proofs.Common.{◌≡◌, ℕ, zero, suc, List, [], ◌∷◌, Option, Some, None, refl, ap, set}
use Rattle.std.specs.Prelude.{slice_get, pos}
use Rattle.eh_outer.specs.declared.module.Reply.{Reply}
use Rattle.eh_outer.specs.declared.module.Reply.TheVariants.{Value}
use Rattle.meaning_forms.specs.World.{World}
use Rattle.meaning_forms.specs.Context.{Context}
use Rattle.meaning_forms.specs.Running.{Running}
use Rattle.meaning_forms.specs.Throw.{take_reply, answered}
use Rattle.scope_world.specs.Outside.{reply_from, rests_after}

-- a module that gives the value 0 and stays as it is
abbrev Silent : ℕ → List (List Reply) → Type 0
Silent k rests = (reply_from k rests ≡ Value (pos 0)) × (rests_after k rests ≡ rests)

no_module : (rests : List (List Reply)) (k : ℕ) → slice_get rests k ≡ None → Silent k rests
no_module [] k e = (refl, refl)
no_module (x ∷ xs) zero e = absurd (cc e)
no_module (x ∷ xs) (suc k) e = let h = no_module xs k e in (h.0, ap (λ ys. x ∷ ys) h.1)

none_left : (rests : List (List Reply)) (k : ℕ) → slice_get rests k ≡ Some [] → Silent k rests
none_left [] k e = absurd (cc e)
none_left (x ∷ xs) zero e = let same : x ≡ [] = cc e in rw same (refl, refl)
none_left (x ∷ xs) (suc k) e = let h = none_left xs k e in (h.0, ap (λ ys. x ∷ ys) h.1)

one_left : (rests : List (List Reply)) (k : ℕ) (y : Reply) (left : List Reply) → slice_get rests k ≡ Some (y ∷ left) → (reply_from k rests ≡ y) × (rests_after k rests ≡ set rests k left)
one_left [] k y left e = absurd (cc e)
one_left (x ∷ xs) zero y left e = let same : x ≡ y ∷ left = cc e in rw same (refl, refl)
one_left (x ∷ xs) (suc k) y left e = let h = one_left xs k y left e in (h.0, ap (λ ys. x ∷ ys) h.1)

-- the reply of module k, and what is left
pub taken : (r : Running) (k : ℕ) (o : Option (List Reply)) (c : Context) (w : World) → slice_get w.replies k ≡ o
    → take_reply r k o c w ≡ answered r k (reply_from k w.replies) c (record w { replies = rests_after k w.replies })
taken r k None c w e = let h = no_module w.replies k e in rw (h.0, h.1) refl
taken r k (Some []) c w e = let h = none_left w.replies k e in rw (h.0, h.1) refl
taken r k (Some (y ∷ left)) c w e = let h = one_left w.replies k y left e in rw (h.0, h.1) refl
