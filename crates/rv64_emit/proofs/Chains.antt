-- The chains of a function's table.
use Rattle.std.proofs.Common.{◌≡◌, ◌∙◌, suc, ◌+◌, ◌<◌, ℤ, pos, negsuc, Bool, true, false, ◌&&◌, ◌||◌, List, [], ◌∷◌, ◌++◌, length, map, refl, ap, sym, subst, arith}
use Rattle.std.specs.Prelude.{if◌then◌else◌}
use Rattle.std.specs.List.{AllByRecursion}
use Rattle.std.proofs.lemmas.Bool.Decides.{nat_tests}
use Rattle.meaning_forms.specs.Arithmetic.{int_equal}
use Rattle.eh_bytes.specs.Listed.{ListedTable}
use Rattle.eh_write.specs.CanWrite.{ChainIsThere}
use Rattle.linear_forms.specs.Linear.{CodeSite}
use Rattle.linear_forms.specs.Sites.{same_chain}
use Rattle.machine_forms.specs.Routine.{Routine, chain_for, chain_number, chains_behind, has_chain, is_empty, listed_site}

int_same : (n : ℤ) → int_equal n n ≡ true
int_same (pos n) = grind (arith, nat_tests)
int_same (negsuc n) = grind (arith, nat_tests)

chain_same : (c : List ℤ) → same_chain c c ≡ true
chain_same [] = refl
chain_same (n ∷ c) = ap (λ b. b && same_chain c c) (int_same n) ∙ chain_same c

-- what is there is there with more behind
has_kept : (c : List ℤ) (chains more : List (List ℤ)) → has_chain c chains ≡ true → has_chain c (chains ++ more) ≡ true
has_kept c [] more h = absurd (cc h)
has_kept c (x ∷ chains) more h = go (same_chain c x) h (has_kept c chains more)
  where
    go : (b : Bool) → (if b then true else has_chain c chains) ≡ true → (has_chain c chains ≡ true → has_chain c (chains ++ more) ≡ true) →
        (if b then true else has_chain c (chains ++ more)) ≡ true
    go true h rest = refl
    go false h rest = rest h

has_added : (c : List ℤ) (chains : List (List ℤ)) → has_chain c (chains ++ c ∷ []) ≡ true
has_added c [] = ap (λ b. if b then true else false) (chain_same c)
has_added c (x ∷ chains) = go (same_chain c x) (has_added c chains)
  where
    go : (b : Bool) → has_chain c (chains ++ c ∷ []) ≡ true → (if b then true else has_chain c (chains ++ c ∷ [])) ≡ true
    go true rest = refl
    go false rest = rest

behind_keeps : (c : List ℤ) (chains : List (List ℤ)) (sites : List CodeSite) → has_chain c chains ≡ true → has_chain c (chains_behind chains sites) ≡ true
behind_keeps c chains [] h = h
behind_keeps c chains (s ∷ sites) h =
    go (is_empty s.filters || has_chain s.filters chains) (behind_keeps c chains sites h)
    (behind_keeps c (chains ++ s.filters ∷ []) sites (has_kept c chains (s.filters ∷ []) h))
  where
    go : (b : Bool) → has_chain c (chains_behind chains sites) ≡ true → has_chain c (chains_behind (chains ++ s.filters ∷ []) sites) ≡ true →
        has_chain c (if b then chains_behind chains sites else chains_behind (chains ++ s.filters ∷ []) sites) ≡ true
    go true same more = same
    go false same more = more

-- a site's chain is empty or there
abbrev Named : List (List ℤ) → List ℤ → Type 0
Named chains c = (is_empty c || has_chain c chains) ≡ true

named_behind : (c : List ℤ) (chains : List (List ℤ)) (sites : List CodeSite) → Named chains c → Named (chains_behind chains sites) c
named_behind [] chains sites h = refl
named_behind (n ∷ c) chains sites h = behind_keeps (n ∷ c) chains sites h

added_named : (c : List ℤ) (chains : List (List ℤ)) → Named (chains ++ c ∷ []) c
added_named [] chains = refl
added_named (n ∷ c) chains = has_added (n ∷ c) chains

all_named : (chains : List (List ℤ)) (sites : List CodeSite) → AllByRecursion (λ s. Named (chains_behind chains sites) s.filters) sites
all_named chains [] = tt
all_named chains (s ∷ sites) =
    go (is_empty s.filters || has_chain s.filters chains) refl (all_named chains sites) (all_named (chains ++ s.filters ∷ []) sites)
  where
    go : (b : Bool) → (is_empty s.filters || has_chain s.filters chains) ≡ b → AllByRecursion (λ x. Named (chains_behind chains sites) x.filters) sites →
        AllByRecursion (λ x. Named (chains_behind (chains ++ s.filters ∷ []) sites) x.filters) sites →
        AllByRecursion (λ x. Named (if b then chains_behind chains sites else chains_behind (chains ++ s.filters ∷ []) sites) x.filters) (s ∷ sites)
    go true e same more = (named_behind s.filters chains sites e, same)
    go false e same more = (named_behind s.filters (chains ++ s.filters ∷ []) sites (added_named s.filters chains), more)

number_there : (c : List ℤ) (chains : List (List ℤ)) → has_chain c chains ≡ true → chain_number c chains < length chains
number_there c [] h = absurd (cc h)
number_there c (x ∷ chains) h = go (same_chain c x) h (number_there c chains)
  where
    go : (b : Bool) → (if b then true else has_chain c chains) ≡ true → (has_chain c chains ≡ true → chain_number c chains < length chains) →
        (if b then 0 else chain_number c chains + 1) < suc (length chains)
    go true h rest = omega arith
    go false h rest = omega (arith, rest h)

chain_there : (table : ListedTable) (c : List ℤ) → Named table.chains c → ChainIsThere table (chain_for table.chains c)
chain_there table [] h = tt
chain_there table (n ∷ c) h = number_there (n ∷ c) table.chains h

all_there : (table : ListedTable) (r : Routine) (sites : List CodeSite) → table.chains ≡ chains_behind [] r.sites →
    AllByRecursion (λ s. Named table.chains s.filters) sites → AllByRecursion (λ s. ChainIsThere table s.chain) (map (listed_site r) sites)
all_there table r [] e h = tt
all_there table r (s ∷ sites) e h =
    (subst (λ chains. ChainIsThere table (chain_for chains s.filters)) e (chain_there table s.filters h.0), all_there table r sites e h.1)

-- the chains that sites name are there
pub chains_there : (table : ListedTable) (r : Routine) → table.chains ≡ chains_behind [] r.sites →
    AllByRecursion (λ s. ChainIsThere table s.chain) (map (listed_site r) r.sites)
chains_there table r e =
    all_there table r r.sites e (subst (λ chains. AllByRecursion (λ s. Named chains s.filters) r.sites) (sym e) (all_named [] r.sites))
