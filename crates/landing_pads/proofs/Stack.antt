-- The regions that hold a part, kept with the innermost last.
use Rattle.std.proofs.Common.{◌≡◌, ◌∙◌, ℕ, ◌-◌, List, [], ◌∷◌, ◌++◌, map, length, take, reverse, ap, arith}
use Rattle.std.proofs.lemmas.List.{map-append, reverse-append, length-reverse, length-append, length-drop, length-map, take_at}
use Rattle.linear_forms.specs.Exits.{name_of}
use Rattle.landing_pads.specs.declared.exits.Exit.{Exit}
use Rattle.landing_pads.specs.Given.{exit_of, exits_of}

-- one more region inside the others
pub exits_pushed : (xs : List Exit) (x : Exit) → exits_of (xs ++ x ∷ []) ≡ exit_of x ∷ exits_of xs
exits_pushed xs x = ap reverse (map-append exit_of xs (x ∷ [])) ∙ reverse-append (map exit_of xs) (exit_of x ∷ [])

-- the innermost region and the others
pub exits_split : (xs outer : List Exit) (x : Exit) → xs ≡ outer ++ x ∷ [] → exits_of xs ≡ exit_of x ∷ exits_of outer
exits_split xs outer x e = ap exits_of e ∙ exits_pushed outer x

-- how many regions hold one, itself included
pub name_counted : (n : ℕ) (xs : List Exit) → name_of n (exits_of xs) ≡ length xs - n
name_counted n xs = length-drop n (exits_of xs) ∙ ap (λ k. k - n) (length-reverse (map exit_of xs) ∙ length-map xs exit_of)

-- a region is put inside the others, and leaves them
pub popped : (xs ys zs : List Exit) (n : ℕ) (x : Exit) → ys ≡ xs ++ x ∷ [] → n ≡ length ys → zs ≡ take (n - 1) ys → zs ≡ xs
popped xs ys zs n x e h f =
    let count : length xs ≡ n - 1 = omega (arith, h, ap length e, length-append xs (x ∷ [])) in
    f ∙ (ap (take (n - 1)) e ∙ take_at xs (x ∷ []) (n - 1) count)
