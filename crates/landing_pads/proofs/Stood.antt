-- What the tables of a function name is there.
use Rattle.std.proofs.Common.{◌≡◌, ℕ, zero, suc, ◌+◌, ◌<◌, Bool, true, false, List, [], ◌∷◌, map, length, Option, Some, None, refl, sym, subst, arith, inl, inr}
use Rattle.std.proofs.lemmas.Bool.Decides.{nat_tests}
use Rattle.std.proofs.lemmas.List.{length-map}
use Rattle.std.specs.Prelude.{ℤ, pos, negsuc, ◌==◌, slice_get, if◌then◌else◌}
use Rattle.std.specs.List.{AllByRecursion}
use Rattle.region_forms.specs.Form.{RegionFunction}
use Rattle.linear_forms.specs.Linear.{CodeSite, FunctionCode}
use Rattle.linear_forms.specs.Tables.{Cover, bare, unpadded, padded, list_of, clause_sense, list_sense, sense_in, list_bytes, type_at_index, cover_of}
use Rattle.linear_forms.specs.Sites.{Placed, cover_in, sites_of}
use Rattle.linear_forms.specs.Emission.{chain_of}
use Rattle.linear_forms.specs.Filters.{types_in, lists_in}
use Rattle.linear_forms.specs.Laws.{AreInOrder}
use Rattle.linear_forms.specs.Unit.{function_code, placed_code}
use Rattle.linear_forms.proofs.Merging.{sites_are_right}
use Rattle.linear_forms.proofs.Pads.{pads_stand}
use Rattle.landing_pads.specs.Named.{ListBegins, FilterIsThere, PadIsThere}
use Rattle.landing_pads.specs.Laws.{TablesStand, AllTablesStand}
use Rattle.landing_pads.proofs.Sited.{AllCovers, AllSites, all_sited, sites_few}
use Rattle.landing_pads.proofs.Sensed.{IsSense, AllSensed, function_sensed}
use Rattle.landing_pads.proofs.Indexed.{lists_named}

-- a filter with a sense names what is there

entry_there : (types : List ℕ) (i : ℕ) → IsSense (clause_sense (slice_get types i)) → i < length types
entry_there [] i h = absurd h
entry_there (t ∷ types) zero h = omega arith
entry_there (t ∷ types) (suc i) h = omega (arith, entry_there types i h)

same_place : (at n : ℕ) → (at == n) ≡ true → at ≡ n
same_place at n e = grind (arith, nat_tests)

list_there : (types : List ℕ) (lists : List (List ℕ)) (at n : ℕ) → IsSense (list_sense types lists at n) → ListBegins lists at n
list_there types [] at n h = absurd h
list_there types (l ∷ lists) at n h = go (at == n) refl h (list_there types lists (at + list_bytes l) n)
  where
    go : (b : Bool) → (at == n) ≡ b → IsSense (if b then list_of (map (type_at_index types) l) else list_sense types lists (at + list_bytes l) n)
        → (IsSense (list_sense types lists (at + list_bytes l) n) → ListBegins lists (at + list_bytes l) n) → ListBegins (l ∷ lists) at n
    go true e k rest = inl (same_place at n e)
    go false e k rest = inr (rest k)

filter_there : (f : FunctionCode) (n : ℤ) → IsSense (sense_in f.types f.lists n) → FilterIsThere f n
filter_there f (pos zero) h = tt
filter_there f (pos (suc i)) h = entry_there f.types i h
filter_there f (negsuc n) h = list_there f.types f.lists 0 n h

filters_there : (f : FunctionCode) (chain : List ℤ) → AllByRecursion (λ n. IsSense (sense_in f.types f.lists n)) chain → AllByRecursion (FilterIsThere f) chain
filters_there f [] h = tt
filters_there f (n ∷ chain) h = (filter_there f n h.0, filters_there f chain h.1)

-- the place of the pad of a cover, if it has one
abbrev pad_of : Cover → Option ℕ
pad_of bare = None
pad_of unpadded = None
pad_of (padded q chain) = Some q

-- the pad of a cover is there
abbrev PadOf : RegionFunction → Cover → Type 0
PadOf f c = PadIsThere (function_code f) (length f.slots) (length f.slots + 1) (pad_of c)

all_from : (P : Cover → Type 0) (code : List Placed) → ((p : ℕ) → P (cover_in code p)) → AllCovers P code
all_from P [] h = tt
all_from P (x ∷ xs) h = (h 0, all_from P xs (λ p. h (suc p)))

cover_there : (f : RegionFunction) (p : ℕ) → PadOf f (cover_in (placed_code f) p)
cover_there f p = go (cover_in (placed_code f) p) refl
  where
    go : (c : Cover) → cover_in (placed_code f) p ≡ c → PadOf f c
    go bare e = tt
    go unpadded e = tt
    go (padded q chain) e = pads_stand f p q chain e

same_pad : (s : CodeSite) → pad_of (cover_of s) ≡ s.pad
same_pad s = go s.pad
  where
    go : (o : Option ℕ) → pad_of (elim o [ None ↦ unpadded | Some p ↦ padded p s.filters ]) ≡ o
    go None = refl
    go (Some p) = refl

pads_there : (f : RegionFunction) (sites : List CodeSite) → AllSites (PadOf f) sites
    → AllByRecursion (λ s. PadIsThere (function_code f) (length f.slots) (length f.slots + 1) s.pad) sites
pads_there f [] h = tt
pads_there f (s ∷ sites) h =
    (subst (PadIsThere (function_code f) (length f.slots) (length f.slots + 1)) (same_pad s) h.0, pads_there f sites h.2)

chains_there : (f : FunctionCode) (sites : List CodeSite) → AllSites (AllSensed (sense_in f.types f.lists)) sites
    → AllByRecursion (λ s. AllByRecursion (FilterIsThere f) s.filters) sites
chains_there f [] h = tt
chains_there f (s ∷ sites) h = (subst (AllByRecursion (FilterIsThere f)) (sym h.1) (filters_there f (chain_of (cover_of s)) h.0), chains_there f sites h.2)

tables_stand : (f : RegionFunction) → TablesStand f
tables_stand f =
    let code = placed_code f in
    let count : length code ≡ length (function_code f).ops = sym (length-map code (λ x. x.op)) in
    let order = subst (λ n. AreInOrder 0 n (sites_of code)) count (sites_are_right.ordered code) in
    record {
      order = order;
      few = omega (arith, sites_few (sites_of code) 0 (length (function_code f).ops) order);
      pads = pads_there f (sites_of code) (all_sited (PadOf f) code (all_from (PadOf f) code (cover_there f)));
      filters = chains_there (function_code f) (sites_of code) (all_sited (AllSensed (sense_in (types_in f.body) (lists_in f.body))) code (function_sensed f));
      lists = lists_named f;
    }

pub all_tables_stand : AllTablesStand
all_tables_stand = tables_stand
