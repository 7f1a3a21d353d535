-- One of a list changes, and with it what it tells of itself.
use Rattle.std.proofs.Common.{◌≡◌, ◌∙◌, ℕ, zero, suc, ◌<◌, ◌≤◌, List, [], ◌∷◌, length, map, set, get_or, None, refl, ap, arith}
use Rattle.eh_outer.specs.Module.{ModuleView}
use Rattle.foreign_host.specs.Host.{changed_at}

pub map_changed : {A : Type 0} (seen : A → ModuleView) (xs : List A) (k : ℕ) (x y : A) (f : ModuleView → ModuleView) → k < length xs → x ≡ get_or xs k x → seen y ≡ f (seen x)
    → map seen (set xs k y) ≡ changed_at k f (map seen xs)
map_changed seen [] k x y f low here is = absurd (omega arith)
map_changed seen (z ∷ xs) zero x y f low here is = ap (λ m. m ∷ map seen xs) (is ∙ ap (λ w. f (seen w)) here)
map_changed seen (z ∷ xs) (suc k) x y f low here is = ap (λ more. seen z ∷ more) (map_changed seen xs k x y f (omega arith) here is)

pub map_unchanged : {A : Type 0} (seen : A → ModuleView) (xs : List A) (k : ℕ) (f : ModuleView → ModuleView) → length xs ≤ k → map seen xs ≡ changed_at k f (map seen xs)
map_unchanged seen [] k f past = refl
map_unchanged seen (x ∷ xs) zero f past = absurd (omega arith)
map_unchanged seen (x ∷ xs) (suc k) f past = ap (λ more. seen x ∷ more) (map_unchanged seen xs k f (omega arith))
