-- Chains are no longer than is said, and neither are types and lists.
use Rattle.std.proofs.Common.{◌≡◌, ℕ, ◌+◌, ◌≤◌, Bool, true, false, List, [], ◌∷◌, ◌++◌, map, length, refl, ap, arith}
use Rattle.std.proofs.lemmas.Bool.Decides.{nat_tests}
use Rattle.std.proofs.lemmas.List.{length-append, length-map}
use Rattle.std.specs.Prelude.{ℤ, pos, negsuc, ◌||◌, if◌then◌else◌}
use Rattle.std.specs.List.{AllByRecursion}
use Rattle.meaning_forms.specs.Arithmetic.{int_equal}
use Rattle.meaning_forms.specs.Class.{some_of}
use Rattle.region_forms.specs.Form.{Region, seq, op, branch, loop, protect, catch, limit, barrier, leave_region, RegionList, no_regions, region_then, Clauses, no_clauses, clause_then, RegionFunction}
use Rattle.region_forms.specs.Guard.{types_of}
use Rattle.linear_forms.specs.Linear.{return, CodeSite}
use Rattle.linear_forms.specs.Tables.{Cover, bare, unpadded, cleanup, clause, list_of, cover_of}
use Rattle.linear_forms.specs.Distinct.{among, added, added_all, same_number, same_list}
use Rattle.linear_forms.specs.Sites.{sites_of}
use Rattle.linear_forms.specs.Emission.{Emitting, quiet, chain_of, with_cleanup, guarded, cleaned, filters_of}
use Rattle.linear_forms.specs.Filters.{type_uses, list_uses, indices_of, types_in}
use Rattle.linear_forms.specs.Code.{region_code}
use Rattle.linear_forms.specs.Unit.{emitting, placed_code}
use Rattle.landing_pads.specs.Size.{longest, longest_of_all, longest_of_clauses}
use Rattle.landing_pads.specs.Laws.{TablesAreShort, AllTablesAreShort}
use Rattle.landing_pads.proofs.Sited.{AllSites, both_covers, all_sited}
use Rattle.landing_pads.proofs.Covered.{Inside, AllInside, ClausesInside, region_covered}

int_same : (n : ℤ) → int_equal n n ≡ true
int_same (pos n) = grind (arith, nat_tests)
int_same (negsuc n) = grind (arith, nat_tests)

-- 1 where a test holds
abbrev flag : Bool → ℕ
flag true = 1
flag false = 0

flag_more : (a b : Bool) → flag b ≤ flag (a || b)
flag_more true b = go b
  where
    go : (b : Bool) → flag b ≤ 1
    go true = omega arith
    go false = omega arith
flag_more false b = omega arith

flag_one : (b : Bool) → flag b ≤ 1
flag_one true = omega arith
flag_one false = omega arith

module _ (em : Emitting) (most : ℕ) where
  -- 1 where a chain has the filter of a cleanup
  abbrev cleans : List ℤ → ℕ
  cleans chain = flag (some_of (int_equal (em.filter cleanup)) chain)

  -- a cover's chain has at most so many filters beside that of a cleanup
  abbrev Short : Cover → Type 0
  Short c = length (chain_of c) ≤ most + cleans (chain_of c)

  more_filters : (a b : List ℤ) → cleans b ≤ cleans (a ++ b)
  more_filters [] b = omega arith
  more_filters (n ∷ a) b = omega (arith, more_filters a b, flag_more (int_equal (em.filter cleanup) n) (some_of (int_equal (em.filter cleanup)) (a ++ b)))

  no_more : (chain : List ℤ) → cleans chain ≤ length chain
  no_more [] = omega arith
  no_more (n ∷ chain) = omega (arith, flag_one (some_of (int_equal (em.filter cleanup)) (n ∷ chain)))

  cleaned_length : (chain : List ℤ) (n : ℕ) → length chain + n ≤ most + cleans chain
      → length (with_cleanup (em.filter cleanup) chain) + n ≤ most + cleans (with_cleanup (em.filter cleanup) chain)
  cleaned_length chain n h = go (some_of (int_equal (em.filter cleanup)) chain) refl
    where
      go : (b : Bool) → some_of (int_equal (em.filter cleanup)) chain ≡ b
          → length (if b then chain else em.filter cleanup ∷ chain) + n ≤ most + cleans (if b then chain else em.filter cleanup ∷ chain)
      go true e = h
      go false e =
          let none = ap flag e in
          let one = ap (λ b. flag (b || some_of (int_equal (em.filter cleanup)) chain)) (int_same (em.filter cleanup)) in
          omega (arith, h, none, one)

  guarded_length : (filters chain : List ℤ) (n : ℕ) → length filters + (length chain + n) ≤ most + cleans chain
      → length (filters ++ chain) + n ≤ most + cleans (filters ++ chain)
  guarded_length filters chain n h = omega (arith, h, length-append filters chain, more_filters filters chain)

  mutual
    region_short : (r : Region) (c : Cover) → length (chain_of c) + longest r ≤ most + cleans (chain_of c) → Inside em Short r c
    region_short (seq rs) c h = all_short rs c h
    region_short (op o) c h = omega (arith, h)
    region_short (branch v a b) c h = (region_short a c (omega (arith, h)), region_short b c (omega (arith, h)))
    region_short (loop v r) c h = region_short r c h
    region_short (protect r cl) c h = (omega (arith, h), λ p. region_short r (cleaned em p c) (cleaned_length (chain_of c) (longest r) h))
    region_short (catch r cs) c h = (
      omega (arith, h),
      handlers_short cs c (omega (arith, h)),
      λ p. region_short r (guarded p (filters_of em (types_of cs)) c)
          (guarded_length (filters_of em (types_of cs)) (chain_of c) (longest r) (omega (arith, h, length-map (types_of cs) (λ t. em.filter (clause t))))),
    )
    region_short (limit r types) c h =
        (omega (arith, h), λ p. region_short r (guarded p (em.filter (list_of types) ∷ []) c) (guarded_length (em.filter (list_of types) ∷ []) (chain_of c) (longest r) (omega (arith, h))))
    region_short (barrier r) c h = region_short r bare (omega (arith, h, no_more (chain_of c)))
    region_short (leave_region n) c h = tt

    all_short : (rs : RegionList) (c : Cover) → length (chain_of c) + longest_of_all rs ≤ most + cleans (chain_of c) → AllInside em Short rs c
    all_short no_regions c h = tt
    all_short (region_then r rs) c h = (region_short r c (omega (arith, h)), all_short rs c (omega (arith, h)))

    handlers_short : (cs : Clauses) (c : Cover) → length (chain_of c) + longest_of_clauses cs ≤ most + cleans (chain_of c) → ClausesInside em Short cs c
    handlers_short no_clauses c h = tt
    handlers_short (clause_then t x r cs) c h = (region_short r c (omega (arith, h)), handlers_short cs c (omega (arith, h)))

-- so are the chains of sites
sites_short : (em : Emitting) (most : ℕ) (sites : List CodeSite) → AllSites (Short em most) sites → AllByRecursion (λ s. length s.filters ≤ most + 1) sites
sites_short em most [] h = tt
sites_short em most (s ∷ sites) h =
    let chain = chain_of (cover_of s) in
    (omega (arith, h.0, ap length h.1, flag_one (some_of (int_equal (em.filter cleanup)) chain)), sites_short em most sites h.2)

-- where each item stands once there are no more
module _ {A : Type 0} (same : A → A → Bool) where
  one_added : (xs : List A) (y : A) → length (added same xs y) ≤ length xs + 1
  one_added xs y = go (among same xs y)
    where
      go : (b : Bool) → length (if b then xs else xs ++ y ∷ []) ≤ length xs + 1
      go true = omega arith
      go false = omega (arith, length-append xs (y ∷ []))

  all_added : (ys xs : List A) → length (added_all same xs ys) ≤ length xs + length ys
  all_added [] xs = omega arith
  all_added (y ∷ ys) xs = omega (arith, all_added ys (added same xs y), one_added xs y)

tables_short : (f : RegionFunction) → TablesAreShort f
tables_short f =
    let em = emitting f in
    let most = longest f.body in
    let P = Short em most in
    let covers = both_covers P (region_code em unpadded [] 0 0 f.body) (quiet (return f.result) ∷ [])
    (region_covered em P (omega arith) f.body unpadded [] 0 0 (region_short em most f.body unpadded (omega arith))) (omega arith, tt) in
    record {
      chains = sites_short em most (sites_of (placed_code f)) (all_sited P (placed_code f) covers);
      types = omega (arith, all_added same_number (type_uses f.body) []);
      lists = omega (arith, all_added same_list (map (indices_of (types_in f.body)) (list_uses f.body)) [], length-map (list_uses f.body) (indices_of (types_in f.body)));
    }

pub all_tables_short : AllTablesAreShort
all_tables_short = tables_short
