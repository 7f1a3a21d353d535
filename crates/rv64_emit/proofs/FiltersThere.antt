-- The filters of a function's chains name what is there, as a writer of tables counts it.
use Rattle.std.proofs.Common.{◌≡◌, ◌∙◌, ℕ, zero, suc, ◌+◌, ◌-◌, ◌<◌, ◌≤◌, inl, inr, ℤ, pos, negsuc, Bool, true, false, ◌||◌, List, [], ◌∷◌, ◌++◌, length, None, Some, refl, ap, sym, subst, arith}
use Rattle.std.specs.Prelude.{◌==◌, if◌then◌else◌, nat_lt, IsSome}
use Rattle.std.specs.List.{AllByRecursion}
use Rattle.std.proofs.lemmas.Bool.Decides.{nat_tests}
use Rattle.eh_bytes.specs.Listed.{ListedTable}
use Rattle.table_forms.specs.WrittenTable.{list_from, list_size}
use Rattle.eh_write.specs.CanWrite.{ChainIsGood, FilterIsThere}
use Rattle.linear_forms.specs.Linear.{CodeSite, FunctionCode}
use Rattle.linear_forms.specs.Tables.{list_bytes}
use Rattle.landing_pads.specs.Named.{FilterIsThere as FilterNames, ListBegins}
use Rattle.machine_forms.specs.Emitted.{function_routine}
use Rattle.machine_forms.specs.Routine.{chains_behind, has_chain, is_empty, routine_table}

same_byte : (at n : ℕ) → at ≡ n → n - at ≡ 0
same_byte at n e = omega arith

not_first : (size m : ℕ) → size + 1 ≤ m → (m == 0) ≡ false
not_first size m h = grind (arith, nat_tests)

not_inside : (size m : ℕ) → size ≤ m → nat_lt m size ≡ false
not_inside size m h = grind (arith, nat_tests)

-- from behind the first list on
passed : (l : List ℕ) (lists : List (List ℕ)) (m : ℕ) → list_size l ≤ m → list_from (l ∷ lists) m ≡ list_from lists (m - list_size l)
passed l lists m h =
    ap (λ b. if b then Some l else if nat_lt m (list_size l) then None else list_from lists (m - list_size l)) (not_first (list_size l - 1) m (omega (arith, h)))
    ∙ ap (λ b. if b then None else list_from lists (m - list_size l)) (not_inside (list_size l) m h)

-- a list begins at a byte
record Begins (lists : List (List ℕ)) (at n : ℕ) : Type 0 where
  no_less : at ≤ n
  found : IsSome (list_from lists (n - at))

list_there : (lists : List (List ℕ)) (at n : ℕ) → ListBegins lists at n → Begins lists at n
list_there [] at n h = absurd h
list_there (l ∷ lists) at n (inl e) = record {
  no_less = omega (arith, e);
  found = subst (λ m. IsSome (list_from (l ∷ lists) m)) (sym (same_byte at n e)) refl;
}
list_there (l ∷ lists) at n (inr h) =
    let later = list_there lists (at + list_bytes l) n h in
    let far : list_size l ≤ n - at = omega (arith, later.no_less) in
    let same : n - (at + list_bytes l) ≡ n - at - list_size l = omega arith in
    record {
      no_less = omega (arith, later.no_less);
      found = subst IsSome (sym (passed l lists (n - at) far)) (subst (λ m. IsSome (list_from lists m)) same later.found);
    }

filter_there : (g : FunctionCode) (n : ℤ) → FilterNames g n → FilterIsThere (routine_table (function_routine g)) n
filter_there g (pos zero) h = tt
filter_there g (pos (suc i)) h = (omega arith, omega (arith, h))
filter_there g (negsuc n) h =
    let whole : n - 0 ≡ n = omega arith in
    subst (λ m. IsSome (list_from g.lists m)) whole (list_there g.lists 0 n h).found

all_there : (g : FunctionCode) (chain : List ℤ) → AllByRecursion (FilterNames g) chain →
    AllByRecursion (FilterIsThere (routine_table (function_routine g))) chain
all_there g [] h = tt
all_there g (n ∷ chain) h = (filter_there g n h.0, all_there g chain h.1)

not_empty : (c : List ℤ) (b : Bool) → (is_empty c || b) ≡ false → 0 < length c
not_empty [] b e = absurd (cc e)
not_empty (n ∷ c) b e = omega arith

chain_more : (table : ListedTable) (chains : List (List ℤ)) (c : List ℤ) → AllByRecursion (ChainIsGood table) chains → ChainIsGood table c →
    AllByRecursion (ChainIsGood table) (chains ++ c ∷ [])
chain_more table [] c h g = (g, tt)
chain_more table (x ∷ chains) c h g = (h.0, chain_more table chains c h.1 g)

-- the chains of sites behind others
pub chains_are_good : (g : FunctionCode) (chains : List (List ℤ)) (sites : List CodeSite) →
    AllByRecursion (ChainIsGood (routine_table (function_routine g))) chains → AllByRecursion (λ s. AllByRecursion (FilterNames g) s.filters) sites →
    AllByRecursion (ChainIsGood (routine_table (function_routine g))) (chains_behind chains sites)
chains_are_good g chains [] h there = h
chains_are_good g chains (s ∷ sites) h there =
    go (is_empty s.filters || has_chain s.filters chains) refl (chains_are_good g chains sites h there.1)
    (λ more.
    chains_are_good g (chains ++ s.filters ∷ []) sites
    (chain_more (routine_table (function_routine g)) chains s.filters h (more, all_there g s.filters there.0)) there.1)
  where
    go : (b : Bool) → (is_empty s.filters || has_chain s.filters chains) ≡ b →
        AllByRecursion (ChainIsGood (routine_table (function_routine g))) (chains_behind chains sites) →
        (0 < length s.filters → AllByRecursion (ChainIsGood (routine_table (function_routine g))) (chains_behind (chains ++ s.filters ∷ []) sites)) →
        AllByRecursion (ChainIsGood (routine_table (function_routine g)))
        (if b then chains_behind chains sites else chains_behind (chains ++ s.filters ∷ []) sites)
    go true e same more = same
    go false e same more = more (not_empty s.filters (has_chain s.filters chains) e)
