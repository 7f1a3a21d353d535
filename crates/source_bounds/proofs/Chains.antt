-- The chains of a function are few: one for the cleanups that no filter guards, and two for each region that guards with filters.
use Rattle.std.proofs.Common.{◌≡◌, ◌∙◌, ℕ, ◌+◌, ◌*◌, ◌≤◌, ℤ, Bool, true, false, ◌&&◌, ◌||◌, List, [], ◌∷◌, ◌++◌, length, if◌then◌else◌, append_assoc, refl, sym, ap, subst, arith}
use Rattle.std.specs.Prelude.{pos, negsuc}
use Rattle.std.specs.List.{AllByRecursion}
use Rattle.std.proofs.lemmas.Bool.{and_parts}
use Rattle.std.proofs.lemmas.Bool.Decides.{nat_tests}
use Rattle.std.proofs.lemmas.List.{length-append}
use Rattle.meaning_forms.specs.Arithmetic.{int_equal}
use Rattle.meaning_forms.specs.Class.{some_of}
use Rattle.region_forms.specs.Form.{Region, seq, op, branch, loop, protect, catch, limit, barrier, leave_region, RegionList, no_regions, region_then, Clauses, no_clauses, clause_then, RegionFunction}
use Rattle.region_forms.specs.Guard.{types_of}
use Rattle.linear_forms.specs.Linear.{CodeSite, return}
use Rattle.linear_forms.specs.Tables.{Cover, bare, unpadded, cleanup, list_of}
use Rattle.linear_forms.specs.Sites.{same_chain, sites_of}
use Rattle.linear_forms.specs.Emission.{Emitting, quiet, chain_of, guarded, with_cleanup, cleaned, filters_of}
use Rattle.linear_forms.specs.Code.{region_code}
use Rattle.linear_forms.specs.Unit.{emitting, placed_code, function_code}
use Rattle.linear_forms.proofs.Integers.{equal_is_same}
use Rattle.landing_pads.proofs.Sited.{AllSites, both_covers, all_sited}
use Rattle.landing_pads.proofs.Covered.{Inside, AllInside, ClausesInside, region_covered}
use Rattle.machine_forms.specs.Routine.{is_empty, has_chain, chains_behind, chains_of}
use Rattle.source_bounds.proofs.Lists.{both_all, first_all, second_all}

-- when chains are the same

int_same : (n : ℤ) → int_equal n n ≡ true
int_same (pos n) = grind (arith, nat_tests)
int_same (negsuc n) = grind (arith, nat_tests)

chain_is : (a b : List ℤ) → same_chain a b ≡ true → a ≡ b
chain_is [] [] e = refl
chain_is [] (m ∷ b) e = absurd (cc e)
chain_is (n ∷ a) [] e = absurd (cc e)
chain_is (n ∷ a) (m ∷ b) e =
    let parts = and_parts (int_equal n m) (same_chain a b) e in
    ap (λ x. x ∷ a) (equal_is_same n m parts.0) ∙ ap (λ x. m ∷ x) (chain_is a b parts.1)

chain_same : (c : List ℤ) → same_chain c c ≡ true
chain_same [] = refl
chain_same (n ∷ c) = ap (λ b. b && same_chain c c) (int_same n) ∙ chain_same c

-- chains that are among others are no more than those

-- 1 where a test fails
abbrev absent : Bool → ℕ
absent true = 0
absent false = 1

no_more_absent : (c : List ℤ) (xs : List (List ℤ)) (y : List ℤ) → absent (has_chain c (xs ++ y ∷ [])) ≤ absent (has_chain c xs)
no_more_absent c [] y = go (same_chain c y)
  where
    go : (b : Bool) → absent (if b then true else false) ≤ 1
    go true = omega arith
    go false = omega arith
no_more_absent c (x ∷ xs) y = go (same_chain c x) (no_more_absent c xs y)
  where
    go : (b : Bool) → absent (has_chain c (xs ++ y ∷ [])) ≤ absent (has_chain c xs) →
        absent (if b then true else has_chain c (xs ++ y ∷ [])) ≤ absent (if b then true else has_chain c xs)
    go true h = omega arith
    go false h = h

found_last : (c : List ℤ) (xs : List (List ℤ)) → absent (has_chain c (xs ++ c ∷ [])) ≡ 0
found_last c [] = ap (λ b. absent (if b then true else false)) (chain_same c)
found_last c (x ∷ xs) = go (same_chain c x) (found_last c xs)
  where
    go : (b : Bool) → absent (has_chain c (xs ++ c ∷ [])) ≡ 0 → absent (if b then true else has_chain c (xs ++ c ∷ [])) ≡ 0
    go true h = refl
    go false h = h

-- how many of some chains are not among others
abbrev left : List (List ℤ) → List (List ℤ) → ℕ
left [] xs = 0
left (c ∷ all) xs = absent (has_chain c xs) + left all xs

fewer_left : (all xs : List (List ℤ)) (y : List ℤ) → left all (xs ++ y ∷ []) ≤ left all xs
fewer_left [] xs y = omega arith
fewer_left (c ∷ all) xs y = omega (arith, no_more_absent c xs y, fewer_left all xs y)

one_less : (all xs : List (List ℤ)) (y : List ℤ) → has_chain y all ≡ true → has_chain y xs ≡ false → left all (xs ++ y ∷ []) + 1 ≤ left all xs
one_less [] xs y h e = absurd (cc h)
one_less (c ∷ all) xs y h e = go (same_chain y c) refl h (λ k. one_less all xs y k e)
  where
    go : (b : Bool) → same_chain y c ≡ b → (if b then true else has_chain y all) ≡ true → (has_chain y all ≡ true → left all (xs ++ y ∷ []) + 1 ≤ left all xs) →
        left (c ∷ all) (xs ++ y ∷ []) + 1 ≤ left (c ∷ all) xs
    go true q h rest =
        let is : y ≡ c = chain_is y c q in
        let now : absent (has_chain c (xs ++ y ∷ [])) ≡ 0 = subst (λ z. absent (has_chain z (xs ++ y ∷ [])) ≡ 0) is (found_last y xs) in
        let was : absent (has_chain c xs) ≡ 1 = subst (λ z. absent (has_chain z xs) ≡ 1) is (ap absent e) in
        omega (arith, now, was, fewer_left all xs y)
    go false q h rest = omega (arith, no_more_absent c xs y, rest h)

-- a chain is empty or there
abbrev Named : List (List ℤ) → List ℤ → Type 0
Named all c = (is_empty c || has_chain c all) ≡ true

named_there : (all : List (List ℤ)) (c : List ℤ) → Named all c → is_empty c ≡ false → has_chain c all ≡ true
named_there all c h e = sym (ap (λ b. b || has_chain c all) e) ∙ h

both_false : (a b : Bool) → (a || b) ≡ false → (a ≡ false) × (b ≡ false)
both_false true b e = absurd (cc e)
both_false false b e = (refl, e)

chains_few : (all xs : List (List ℤ)) (sites : List CodeSite) → AllByRecursion (λ s. Named all s.filters) sites → length (chains_behind xs sites) ≤ length xs + left all xs
chains_few all xs [] h = omega arith
chains_few all xs (s ∷ sites) h =
    go (is_empty s.filters || has_chain s.filters xs) refl (chains_few all xs sites h.1) (chains_few all (xs ++ s.filters ∷ []) sites h.1)
  where
    go : (b : Bool) → (is_empty s.filters || has_chain s.filters xs) ≡ b → length (chains_behind xs sites) ≤ length xs + left all xs →
        length (chains_behind (xs ++ s.filters ∷ []) sites) ≤ length (xs ++ s.filters ∷ []) + left all (xs ++ s.filters ∷ []) →
        length (if b then chains_behind xs sites else chains_behind (xs ++ s.filters ∷ []) sites) ≤ length xs + left all xs
    go true e same more = same
    go false e same more =
        let parts = both_false (is_empty s.filters) (has_chain s.filters xs) e in
        omega (arith, more, length-append xs (s.filters ∷ []), one_less all xs s.filters (named_there all s.filters h.0 parts.0) parts.1)

left_all : (all : List (List ℤ)) → left all [] ≡ length all
left_all [] = refl
left_all (c ∷ all) = omega (arith, left_all all)

-- what holds of the filters of sites holds of chains
pub behind_all : (Q : List ℤ → Type 0) (xs : List (List ℤ)) (sites : List CodeSite) → AllByRecursion Q xs → AllByRecursion (λ s. Q s.filters) sites →
    AllByRecursion Q (chains_behind xs sites)
behind_all Q xs [] h k = h
behind_all Q xs (s ∷ sites) h k =
    go (is_empty s.filters || has_chain s.filters xs) (behind_all Q xs sites h k.1) (behind_all Q (xs ++ s.filters ∷ []) sites (both_all Q xs (s.filters ∷ []) h (k.0, tt)) k.1)
  where
    go : (b : Bool) → AllByRecursion Q (chains_behind xs sites) → AllByRecursion Q (chains_behind (xs ++ s.filters ∷ []) sites) →
        AllByRecursion Q (if b then chains_behind xs sites else chains_behind (xs ++ s.filters ∷ []) sites)
    go true same more = same
    go false same more = more

-- the chains of a region's code, in a cover with a chain

module _ (em : Emitting) where
  abbrev clean : List ℤ → List ℤ
  clean chain = with_cleanup (em.filter cleanup) chain

  abbrev mutual
    chains_in : Region → List ℤ → List (List ℤ)
    chains_in (seq rs) chain = chains_in_all rs chain
    chains_in (op o) chain = []
    chains_in (branch v a b) chain = chains_in a chain ++ chains_in b chain
    chains_in (loop v r) chain = chains_in r chain
    chains_in (protect r c) chain = chains_in r (clean chain)
    chains_in (catch r cs) chain =
        let inside = filters_of em (types_of cs) ++ chain in inside ∷ clean inside ∷ (chains_in_clauses cs chain ++ chains_in r inside)
    chains_in (limit r types) chain = let inside = em.filter (list_of types) ∷ chain in inside ∷ clean inside ∷ chains_in r inside
    chains_in (barrier r) chain = chains_in r []
    chains_in (leave_region n) chain = []

    chains_in_all : RegionList → List ℤ → List (List ℤ)
    chains_in_all no_regions chain = []
    chains_in_all (region_then r rs) chain = chains_in r chain ++ chains_in_all rs chain

    chains_in_clauses : Clauses → List ℤ → List (List ℤ)
    chains_in_clauses no_clauses chain = []
    chains_in_clauses (clause_then t x r cs) chain = chains_in r chain ++ chains_in_clauses cs chain

  clean_again : (chain : List ℤ) → clean (clean chain) ≡ clean chain
  clean_again chain = go (some_of (int_equal (em.filter cleanup)) chain) refl
    where
      n : ℤ
      n = em.filter cleanup

      go : (b : Bool) → some_of (int_equal (em.filter cleanup)) chain ≡ b → clean (if b then chain else em.filter cleanup ∷ chain) ≡ (if b then chain else em.filter cleanup ∷ chain)
      go true e = ap (λ b. if b then chain else em.filter cleanup ∷ chain) e
      go false e = ap (λ b. if b || some_of (int_equal (em.filter cleanup)) chain then em.filter cleanup ∷ chain else em.filter cleanup ∷ em.filter cleanup ∷ chain) (int_same (em.filter cleanup))

  module _ (all : List (List ℤ)) (alone : Named all (clean [])) where
    abbrev P : Cover → Type 0
    P c = Named all (chain_of c)

    abbrev AreNamed : List (List ℤ) → Type 0
    AreNamed cs = AllByRecursion (λ c. has_chain c all ≡ true) cs

    there : (c : List ℤ) → has_chain c all ≡ true → Named all c
    there c h = go (is_empty c)
      where
        go : (b : Bool) → (b || has_chain c all) ≡ true
        go true = refl
        go false = h

    mutual
      region_inside : (r : Region) (c : Cover) → Named all (chain_of c) → Named all (clean (chain_of c)) → AreNamed (chains_in r (chain_of c)) → Inside em P r c
      region_inside (seq rs) c h k g = regions_inside rs c h k g
      region_inside (op o) c h k g = h
      region_inside (branch v a b) c h k g =
          let one = chains_in a (chain_of c) in
          let two = chains_in b (chain_of c) in
          (region_inside a c h k (first_all (λ x. has_chain x all ≡ true) one two g), region_inside b c h k (second_all (λ x. has_chain x all ≡ true) one two g))
      region_inside (loop v r) c h k g = region_inside r c h k g
      region_inside (protect r cl) c h k g =
          (h, λ p. region_inside r (cleaned em p c) k (subst (Named all) (sym (clean_again (chain_of c))) k) g)
      region_inside (catch r cs) c h k g =
          let inside = filters_of em (types_of cs) ++ chain_of c in
          let one = chains_in_clauses cs (chain_of c) in
          let two = chains_in r inside in (
            h,
            clauses_inside cs c h k (first_all (λ x. has_chain x all ≡ true) one two g.1.1),
            λ p. region_inside r (guarded p (filters_of em (types_of cs)) c) (there inside g.0) (there (clean inside) g.1.0) (second_all (λ x. has_chain x all ≡ true) one two g.1.1),
          )
      region_inside (limit r types) c h k g =
          let inside = em.filter (list_of types) ∷ chain_of c in
          (h, λ p. region_inside r (guarded p (em.filter (list_of types) ∷ []) c) (there inside g.0) (there (clean inside) g.1.0) g.1.1)
      region_inside (barrier r) c h k g = region_inside r bare refl alone g
      region_inside (leave_region n) c h k g = tt

      regions_inside : (rs : RegionList) (c : Cover) → Named all (chain_of c) → Named all (clean (chain_of c)) → AreNamed (chains_in_all rs (chain_of c)) → AllInside em P rs c
      regions_inside no_regions c h k g = tt
      regions_inside (region_then r rs) c h k g =
          let one = chains_in r (chain_of c) in
          let two = chains_in_all rs (chain_of c) in
          (region_inside r c h k (first_all (λ x. has_chain x all ≡ true) one two g), regions_inside rs c h k (second_all (λ x. has_chain x all ≡ true) one two g))

      clauses_inside : (cs : Clauses) (c : Cover) → Named all (chain_of c) → Named all (clean (chain_of c)) → AreNamed (chains_in_clauses cs (chain_of c)) → ClausesInside em P cs c
      clauses_inside no_clauses c h k g = tt
      clauses_inside (clause_then t x r cs) c h k g =
          let one = chains_in r (chain_of c) in
          let two = chains_in_clauses cs (chain_of c) in
          (region_inside r c h k (first_all (λ x. has_chain x all ≡ true) one two g), clauses_inside cs c h k (second_all (λ x. has_chain x all ≡ true) one two g))

  -- regions that guard with filters
  abbrev mutual
    pub pads_in : Region → ℕ
    pads_in (seq rs) = pads_in_all rs
    pads_in (op o) = 0
    pads_in (branch v a b) = pads_in a + pads_in b
    pads_in (loop v r) = pads_in r
    pads_in (protect r c) = pads_in r
    pads_in (catch r cs) = pads_in r + pads_in_clauses cs + 1
    pads_in (limit r types) = pads_in r + 1
    pads_in (barrier r) = pads_in r
    pads_in (leave_region n) = 0

    pub pads_in_all : RegionList → ℕ
    pads_in_all no_regions = 0
    pads_in_all (region_then r rs) = pads_in r + pads_in_all rs

    pub pads_in_clauses : Clauses → ℕ
    pads_in_clauses no_clauses = 0
    pads_in_clauses (clause_then t x r cs) = pads_in r + pads_in_clauses cs

  mutual
    region_counted : (r : Region) (chain : List ℤ) → length (chains_in r chain) ≡ 2 * pads_in r
    region_counted (seq rs) chain = regions_counted rs chain
    region_counted (op o) chain = refl
    region_counted (branch v a b) chain = omega (arith, length-append (chains_in a chain) (chains_in b chain), region_counted a chain, region_counted b chain)
    region_counted (loop v r) chain = region_counted r chain
    region_counted (protect r c) chain = region_counted r (clean chain)
    region_counted (catch r cs) chain =
        let inside = filters_of em (types_of cs) ++ chain in
        omega (arith, length-append (chains_in_clauses cs chain) (chains_in r inside), clauses_counted cs chain, region_counted r inside)
    region_counted (limit r types) chain = omega (arith, region_counted r (em.filter (list_of types) ∷ chain))
    region_counted (barrier r) chain = region_counted r []
    region_counted (leave_region n) chain = refl

    regions_counted : (rs : RegionList) (chain : List ℤ) → length (chains_in_all rs chain) ≡ 2 * pads_in_all rs
    regions_counted no_regions chain = refl
    regions_counted (region_then r rs) chain = omega (arith, length-append (chains_in r chain) (chains_in_all rs chain), region_counted r chain, regions_counted rs chain)

    clauses_counted : (cs : Clauses) (chain : List ℤ) → length (chains_in_clauses cs chain) ≡ 2 * pads_in_clauses cs
    clauses_counted no_clauses chain = refl
    clauses_counted (clause_then t x r cs) chain =
        omega (arith, length-append (chains_in r chain) (chains_in_clauses cs chain), region_counted r chain, clauses_counted cs chain)

-- chains are among themselves
self_named : (front cs : List (List ℤ)) → AllByRecursion (λ c. has_chain c (front ++ cs) ≡ true) cs
self_named front [] = tt
self_named front (c ∷ cs) =
    let same : (front ++ c ∷ []) ++ cs ≡ front ++ c ∷ cs = append_assoc front (c ∷ []) cs in
    (behind_front front, subst (λ all. AllByRecursion (λ x. has_chain x all ≡ true) cs) same (self_named (front ++ c ∷ []) cs))
  where
    behind_front : (xs : List (List ℤ)) → has_chain c (xs ++ c ∷ cs) ≡ true
    behind_front [] = ap (λ b. if b then true else has_chain c cs) (chain_same c)
    behind_front (x ∷ xs) = go (same_chain c x) (behind_front xs)
      where
        go : (b : Bool) → has_chain c (xs ++ c ∷ cs) ≡ true → (if b then true else has_chain c (xs ++ c ∷ cs)) ≡ true
        go true h = refl
        go false h = h

sites_named : (all : List (List ℤ)) (sites : List CodeSite) → AllSites (λ c. Named all (chain_of c)) sites → AllByRecursion (λ s. Named all s.filters) sites
sites_named all [] h = tt
sites_named all (s ∷ sites) h = (subst (Named all) (sym h.1) h.0, sites_named all sites h.2)

-- the chains of a function
pub few_chains : (f : RegionFunction) → length (chains_of (function_code f).sites) ≤ 2 * pads_in (emitting f) f.body + 1
few_chains f =
    let em = emitting f in
    let own = chains_in em f.body [] in
    let all = clean em [] ∷ own in
    let alone : Named all (clean em []) = refl in
    let Q : Cover → Type 0 = λ c. Named all (chain_of c) in
    let covers = both_covers Q (region_code em unpadded [] 0 0 f.body) (quiet (return f.result) ∷ [])
    (region_covered em Q refl f.body unpadded [] 0 0 (region_inside em all alone f.body unpadded refl alone (self_named (clean em [] ∷ []) own))) (refl, tt) in
    omega (arith, chains_few all [] (sites_of (placed_code f)) (sites_named all (sites_of (placed_code f)) (all_sited Q (placed_code f) covers)), left_all all, region_counted em f.body [])
