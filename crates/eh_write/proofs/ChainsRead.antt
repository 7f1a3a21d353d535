-- A chain of records that is written is read as its filters.
use Rattle.std.proofs.Common.{◌≡◌, ◌+◌, ◌<◌, ◌≤◌, ◌^◌, ℕ, ℤ, pos, zero, suc, false, nat_lt, List, [], ◌∷◌, ◌++◌, length, take, Ok, refl, ap, sym, ◌∙◌, arith, append_assoc}
use Rattle.std.specs.Prelude.{if◌then◌else◌}
use Rattle.std.specs.List.{AllByRecursion}
use Rattle.std.proofs.lemmas.Bool.Decides.{nat_tests}
use Rattle.eh_bytes.specs.Memory.{Part}
use Rattle.eh_bytes.specs.Field.{at, behind}
use Rattle.eh_bytes.specs.Leb128.{sleb}
use Rattle.eh_bytes.specs.Spelling.{sleb_spelling, sleb_spelling_within}
use Rattle.eh_bytes.proofs.ReadAgain.{sleb-sleb_spelling}
use Rattle.eh_bytes.proofs.Spelled.{magnitude}
use Rattle.table_forms.specs.declared.found.Action.TheVariants.{Record, Outside}
use Rattle.table_forms.specs.LsdaHead.{Head}
use Rattle.table_forms.specs.LsdaChain.{Link, ended, action_in, action_end, with_filter, with_displacement, next_of, links_from, links_within}
use Rattle.eh_write.specs.Written.{displacement, chain_bytes}
use Rattle.eh_write.proofs.Reading.{Stands, next_stands}

pub sleb_stands : (bytes : List ℕ) (p : ℕ) (z : ℤ) (rest : List ℕ) → magnitude z < 2 ^ 63 → Stands bytes p (sleb_spelling z) rest →
    at sleb bytes p ≡ Ok (z, p + length (sleb_spelling z))
sleb_stands bytes p z rest fits here = ap (λ xs. behind p (sleb xs)) here ∙ ap (behind p) (sleb-sleb_spelling z rest fits)

spelled : (fs : List ℤ) → sleb_spelling (pos (displacement fs)) ≡ displacement fs ∷ []
unfolding sleb_spelling sleb_spelling_within
spelled [] = refl
spelled (f ∷ fs) = refl

small : (fs : List ℤ) → magnitude (pos (displacement fs)) < 2 ^ 63
small [] = omega arith
small (f ∷ fs) = omega arith

-- the record of a filter, and where its chain goes on
pub record_read : (bytes : List ℕ) (actions_at p : ℕ) (f : ℤ) (fs : List ℤ) (rest : List ℕ) → actions_at ≤ p → magnitude f < 2 ^ 63 →
    Stands bytes p (chain_bytes (f ∷ fs)) rest →
    action_in bytes actions_at p ≡ Record f (next_of (p + length (sleb_spelling f)) (pos (displacement fs)))
unfolding action_in
record_read bytes actions_at p f fs rest from fits here =
    let x = sleb_spelling f in
    let q = p + length x in
    let d = pos (displacement fs) in
    let inside : nat_lt p actions_at ≡ false = grind (arith, nat_tests, from) in
    let first : Stands bytes p x (displacement fs ∷ (chain_bytes fs ++ rest)) = here ∙ append_assoc x (displacement fs ∷ chain_bytes fs) rest in
    let second : Stands bytes q (sleb_spelling d) (chain_bytes fs ++ rest) =
    next_stands bytes p x (displacement fs ∷ (chain_bytes fs ++ rest)) first ∙ ap (λ y. y ++ (chain_bytes fs ++ rest)) (sym (spelled fs)) in
    ap (λ b. if b then Outside else with_filter bytes p (at sleb bytes p)) inside ∙
    ap (with_filter bytes p) (sleb_stands bytes p f (displacement fs ∷ (chain_bytes fs ++ rest)) fits first) ∙
    ap (with_displacement f q) (sleb_stands bytes q d (chain_bytes fs ++ rest) (small fs) second)

abbrev pub links_of : ℕ → List ℤ → List Link
links_of p [] = []
links_of p (f ∷ fs) = record { at = p; filter = f } ∷ links_of (p + length (sleb_spelling f) + 1) fs

pub chain_read : (part : Part) (h : Head) (p n : ℕ) (f : ℤ) (fs : List ℤ) (rest : List ℕ) → h.actions_at ≤ p → AllByRecursion (λ z. magnitude z < 2 ^ 63) (f ∷ fs) →
    length fs < n → Stands (take (action_end part h.types) part.bytes) p (chain_bytes (f ∷ fs)) rest →
    links_within n part h p ≡ record { links = links_of p (f ∷ fs); ending = ended }
unfolding links_within
chain_read part h p zero f fs rest from fits enough here = absurd (omega (arith, enough))
chain_read part h p (suc n) f [] rest from fits enough here =
    ap (λ a. links_from p a (links_within n part h)) (record_read (take (action_end part h.types) part.bytes) h.actions_at p f [] rest from fits.0 here)
chain_read part h p (suc n) f (g ∷ gs) rest from fits enough here =
    let bytes = take (action_end part h.types) part.bytes in
    let x = sleb_spelling f in
    let q = p + length x in
    let first : Stands bytes p x (1 ∷ (chain_bytes (g ∷ gs) ++ rest)) = here ∙ append_assoc x (1 ∷ chain_bytes (g ∷ gs)) rest in
    let second : Stands bytes q (1 ∷ []) (chain_bytes (g ∷ gs) ++ rest) = next_stands bytes p x (1 ∷ (chain_bytes (g ∷ gs) ++ rest)) first in
    let third : Stands bytes (q + 1) (chain_bytes (g ∷ gs)) rest = next_stands bytes q (1 ∷ []) (chain_bytes (g ∷ gs) ++ rest) second in
    ap (λ a. links_from p a (links_within n part h)) (record_read bytes h.actions_at p f (g ∷ gs) rest from fits.0 here) ∙
    ap (λ r. record { links = record { at = p; filter = f } ∷ r.links; ending = r.ending })
    (chain_read part h (q + 1) n g gs rest (omega (arith, from)) fits.1 (omega (arith, enough)) third)
