-- The packed lists of a table that may be packed are such that their bytes stand for them.
use Rattle.std.proofs.Common.{◌≡◌, ◌+◌, ◌-◌, ◌<◌, ◌≤◌, ◌^◌, ◌==◌, ◌&&◌, ℕ, ℤ, pos, negsuc, zero, suc, Bool, true, false, nat_lt, nat_le, List, [], ◌∷◌, length, map, Ok, refl, ap, sym, subst, ◌∙◌, arith, ◌⊎◌, inl, inr}
use Rattle.std.specs.Prelude.{Option, Some, None, IsSome, flat_map, ◌||◌}
use Rattle.std.specs.List.{AllByRecursion}
use Rattle.std.proofs.lemmas.Bool.Decides.{nat_tests}
use Rattle.eh_bytes.specs.Listed.{ListedTable}
use Rattle.eh_bytes.specs.Memory.{Part, Memory, part_with}
use Rattle.table_forms.specs.Keys.{value_at}
use Rattle.table_forms.specs.LsdaHead.{Types, head_at}
use Rattle.table_forms.specs.Lsda.{Table, lists_named, lsda_from, lsda_in, lsda}
use Rattle.table_forms.specs.WrittenTable.{SiteFits, list_from}
use Rattle.table_forms.proofs.Alls.{all_more, all_members}
use Rattle.table_forms.proofs.Kept.{IsIn}
use Rattle.eh_write.specs.CanWrite.{ChainIsThere, TypeIsThere, FilterIsThere, ChainIsGood, TypesAreNear}
use Rattle.eh_write.proofs.Alls.{all_map}
use Rattle.lsda_read.specs.Shapes.{encoding_of}
use Rattle.lsda_pack.specs.Chains.{chains_of, distinct, numbered}
use Rattle.lsda_pack.specs.Joined.{joined}
use Rattle.lsda_pack.specs.KeptTypes.{greatest, indices_reached, kept_types}
use Rattle.lsda_pack.specs.Laws.{CanPack}
use Rattle.lsda_pack.specs.PackedBytes.{packed_bytes, base_for}
use Rattle.lsda_pack.specs.PackedLists.{packed_lists}
use Rattle.lsda_pack.specs.Placed.{Placed}
use Rattle.lsda_pack.specs.ReadLists.{lists_read}
use Rattle.lsda_pack.specs.Rule.{is_in_file, is_plain, pads_count, are_near, lists_stand, lists_for, bytes_for, may_pack, is_packed}
use Rattle.lsda_pack.proofs.ChainsKept.{all_kept}
use Rattle.lsda_pack.proofs.ListsRead.{is_read, reads_its_lists}
use Rattle.lsda_pack.proofs.NamesPacked.{at_member, type_there, values_long, all_distinct, actions_reached, FilterReached, filters_reached, ListReached, lists_reached}
use Rattle.lsda_pack.proofs.NamesStay.{NamedIn, numbers}
use Rattle.lsda_pack.proofs.SitesJoined.{left_true, right_true}
use Rattle.lsda_pack.proofs.SitesPacked.{ChainThere, listed_order, numbered_order, joined_order, all_joined, all_numbered_there, fits_listed, fits_numbered, fits_joined}
use Rattle.lsda_pack.proofs.Sizes.{in_row}
use Rattle.lsda_pack.proofs.TableEnds.{all_each, all_of}
use Rattle.lsda_pack.proofs.TableHas.{table_has}
use Rattle.lsda_pack.proofs.TableVerdict.{IsPositive}
use Rattle.lsda_pack.proofs.TypesKept.{below}

-- a table as it is placed in a memory
pub record PlacedIn (memory : Memory) (t : Placed) : Type 0 where
  pub here : part_with memory t.first ≡ Some t.part
  pub head : head_at t.part t.region (t.first - t.part.address) ≡ Ok t.head
  pub read : lsda memory t.first t.region ≡ Ok t.table
  pub formed : t.shape.ttype ≡ encoding_of t.head.types

pub read_in : (memory : Memory) (t : Placed) → PlacedIn memory t → lsda_in memory t.region (t.first - t.part.address) t.part ≡ Ok t.table
unfolding lsda
read_in memory t in' = sym (ap (lsda_from memory t.first t.region) in'.here) ∙ in'.read

-- the five conditions
pub record Allowed (t : Placed) : Type 0 where
  pub file : is_in_file t ≡ true
  pub plain : is_plain t.shape ≡ true
  pub pads : pads_count t.region.start t.table.sites ≡ true
  pub near : are_near t.first t.end (base_for (lists_for t) t.first) (lists_for t).types ≡ true
  pub lists : lists_stand t.part t.head.types t.table.lists ≡ true

pub allowed : (t : Placed) → may_pack t ≡ true → Allowed t
unfolding may_pack
allowed t e =
    let a = is_in_file t in
    let b = is_plain t.shape in
    let c = pads_count t.region.start t.table.sites in
    let d = are_near t.first t.end (base_for (lists_for t) t.first) (lists_for t).types in
    let f = lists_stand t.part t.head.types t.table.lists in
    let four = left_true (a && b && c && d) f e in
    let three = left_true (a && b && c) d four in
    let two = left_true (a && b) c three in
    record { file = left_true a b two; plain = right_true a b two; pads = right_true (a && b) c three; near = right_true (a && b && c) d four; lists = right_true (a && b && c && d) f e }

-- and the new bytes are fewer
pub fewer : (t : Placed) → is_packed t ≡ true → (may_pack t ≡ true) × (length (bytes_for t) < t.end - t.first)
unfolding is_packed
fewer t e =
    let test = nat_lt (length (bytes_for t)) (t.end - t.first) in
    (left_true (may_pack t) test e, less (length (bytes_for t)) (t.end - t.first) (right_true (may_pack t) test e))
  where
    less : (m n : ℕ) → nat_lt m n ≡ true → m < n
    less m n e' = grind (arith, nat_tests, e')

-- types that lie outside of the table lie outside of a shorter one
one_near : (first end end' base t : ℕ) → end' ≤ end →
    (t == 0 || nat_lt t (base - 4 + 2 ^ 31) && nat_lt (base - 4) (t + 2 ^ 31) && (nat_lt t first || nat_le end t)) ≡ true →
    (t ≡ 0) ⊎ ((t < base - 4 + 2 ^ 31) × (base - 4 < t + 2 ^ 31)) × ((t < first) ⊎ (end' ≤ t))
one_near first end end' base t less e =
    step (t == 0) (nat_lt t (base - 4 + 2 ^ 31)) (nat_lt (base - 4) (t + 2 ^ 31)) (nat_lt t first) (nat_le end t) refl refl refl refl refl e
  where
    step : (a b c d f : Bool) → (t == 0) ≡ a → nat_lt t (base - 4 + 2 ^ 31) ≡ b → nat_lt (base - 4) (t + 2 ^ 31) ≡ c → nat_lt t first ≡ d → nat_le end t ≡ f →
        (a || b && c && (d || f)) ≡ true → (t ≡ 0) ⊎ ((t < base - 4 + 2 ^ 31) × (base - 4 < t + 2 ^ 31)) × ((t < first) ⊎ (end' ≤ t))
    step true b c d f la lb lc ld lf e' = inl (grind (arith, nat_tests, la))
    step false false c d f la lb lc ld lf e' = absurd cc
    step false true false d f la lb lc ld lf e' = absurd cc
    step false true true false false la lb lc ld lf e' = absurd cc
    step false true true true f la lb lc ld lf e' = inr ((grind (arith, nat_tests, lb), grind (arith, nat_tests, lc)), inl (grind (arith, nat_tests, ld)))
    step false true true false true la lb lc ld lf e' = inr ((grind (arith, nat_tests, lb), grind (arith, nat_tests, lc)), inr (grind (arith, nat_tests, lf, less)))

types_near : (first end end' base : ℕ) (ts : List ℕ) → end' ≤ end → are_near first end base ts ≡ true → TypesAreNear first end' base ts
types_near first end end' base [] less e = tt
types_near first end end' base (t ∷ ts) less e =
    let own = t == 0 || nat_lt t (base - 4 + 2 ^ 31) && nat_lt (base - 4) (t + 2 ^ 31) && (nat_lt t first || nat_le end t) in
    let rest = are_near first end (base - 4) ts in
    (one_near first end end' base t less (left_true own rest e), types_near first end end' (base - 4) ts less (right_true own rest e))

all_both : {X : Type 0} (P Q : X → Type 0) (xs : List X) → AllByRecursion P xs → AllByRecursion Q xs → AllByRecursion (λ x. P x × Q x) xs
all_both P Q [] one two = tt
all_both P Q (x ∷ xs) one two = ((one.0, two.0), all_both P Q xs one.1 two.1)

positive_member : (Q : ℕ × ℕ → Type 0) (es : List (ℕ × ℕ)) → AllByRecursion (λ e. IsPositive e.0 × Q e) es → (i : ℕ) → IsIn i (numbers es) → 0 < i
positive_member Q [] all i is = absurd is
positive_member Q (e ∷ es) all i (inl same) = subst IsPositive same all.0.0
positive_member Q (e ∷ es) all i (inr is) = positive_member Q es all.1 i is

list_is : (lists : List (List ℕ)) (ls : List (ℕ × List ℕ)) → AllByRecursion (λ l. list_from lists (l.0 - 1) ≡ Some l.1) ls → (j : ℕ) → IsIn j (numbers ls) → IsSome (list_from lists (j - 1))
list_is lists [] all j is = absurd is
list_is lists (l ∷ ls) all j (inl same) = subst (λ k. IsSome (list_from lists (k - 1))) same (subst IsSome (sym all.0) refl)
list_is lists (l ∷ ls) all j (inr is) = list_is lists ls all.1 j is

there_is : (list : ListedTable) (o : Option ℕ) → ChainThere list.chains o → ChainIsThere list o
there_is list None is = tt
there_is list (Some c) is = is

-- the lists that are read of a table, and the packed ones
module _ (t : Table) (list packed : ListedTable) (reached : List ℕ) (types_are : packed.types ≡ kept_types reached list.types) (lists_are : packed.lists ≡ list.lists)
    (long : length list.types ≡ greatest (numbers t.types)) (positive : (i : ℕ) → IsIn i (numbers t.types) → 0 < i)
    (stands : AllByRecursion (λ l. list_from list.lists (l.0 - 1) ≡ Some l.1) t.lists) where
  type_is : (i : ℕ) → IsIn i (numbers t.types) → IsIn i reached → TypeIsThere packed i
  type_is i named at =
      let some = positive i named in
      let bound = below i (numbers t.types) named in
      (some, subst (λ ts. i ≤ length ts) (sym types_are) (type_there reached list.types i at some (omega (arith, bound, long))))

  filter_there : (part : Part) (types : Option Types) (f : ℤ) → NamedIn part types (numbers t.types) (numbers t.lists) f → FilterReached list.lists reached f → FilterIsThere packed f
  filter_there part types (pos zero) named all = tt
  filter_there part types (pos (suc i)) named all = type_is (suc i) named all.0
  filter_there part types (negsuc n) named all =
      let place : suc n - 1 ≡ n = omega arith in
      subst IsSome (ap (list_from list.lists) place ∙ ap (λ ls. list_from ls n) (sym lists_are)) (list_is list.lists t.lists stands (suc n) named.0)

  filters_there : (part : Part) (types : Option Types) (fs : List ℤ) → AllByRecursion (NamedIn part types (numbers t.types) (numbers t.lists)) fs →
      AllByRecursion (FilterReached list.lists reached) fs → AllByRecursion (FilterIsThere packed) fs
  filters_there part types [] named all = tt
  filters_there part types (f ∷ fs) named all = (filter_there part types f named.0 all.0, filters_there part types fs named.1 all.1)

  indices_there : (is : List ℕ) → AllByRecursion (λ i. IsIn i (numbers t.types)) is → AllByRecursion (λ i. IsIn i reached) is → AllByRecursion (TypeIsThere packed) is
  indices_there [] named all = tt
  indices_there (i ∷ is) named all = (type_is i named.0 all.0, indices_there is named.1 all.1)

  lists_there : (js : List ℕ) → AllByRecursion (ListReached list.lists reached) js → (ls : List (ℕ × List ℕ)) → AllByRecursion (λ l. list_from list.lists (l.0 - 1) ≡ Some l.1) ls →
      AllByRecursion (λ l. IsIn l.0 js) ls → AllByRecursion (λ l. AllByRecursion (λ i. IsIn i (numbers t.types)) l.1) ls → AllByRecursion (λ l. AllByRecursion (TypeIsThere packed) l.1) ls
  lists_there js all [] found named indices = tt
  lists_there js all (l ∷ ls) found named indices = (
    indices_there l.1 indices.0 (at_member (ListReached list.lists reached) js all l.0 named.0 l.1 found.0),
    lists_there js all ls found.1 named.1 indices.1,
  )

pub can_pack : (memory : Memory) (t : Placed) → PlacedIn memory t → is_packed t ≡ true → CanPack (lists_for t) t.first
unfolding packed_lists lists_read bytes_for
can_pack memory t in' is_shorter =
    let short = fewer t is_shorter in
    let rule = allowed t short.0 in
    let less = short.1 in
    let table = t.table in
    let types = t.head.types in
    let start = t.region.start in
    let L = lists_read start table in
    let P = lists_for t in
    let kept = distinct (chains_of L) in
    let reached = indices_reached L.lists kept in
    let is = is_read memory t.first t.region table in'.read in
    let has = table_has memory t.part t.region (t.first - t.part.address) t.head table in'.head (read_in memory t in') in
    let found = (reads_its_lists memory t.first t.region table in'.read rule.pads (in_row t.part types table.lists rule.lists)).lists in
    let long : length L.types ≡ greatest (numbers table.types) = values_long (greatest (numbers table.types)) 1 table.types in
    let positive = positive_member (λ (e : ℕ × ℕ). value_at 0 table.types e.0 ≡ e.1) table.types is.types in
    let keeps = all_kept L in
    let es = table.actions in
    let second = λ (e : ℕ × List ℤ). e.1 in
    let own = all_of (λ a. IsIn a (map (λ (e : ℕ × List ℤ). e.0) es)) (λ (e : ℕ × List ℤ). e.0) es (all_members (map (λ (e : ℕ × List ℤ). e.0) es)) in
    let chains = actions_reached L.lists L.chains kept start es refl table.sites keeps es has.sited
    (all_both (λ (e : ℕ × List ℤ). IsIn e.0 (map (λ (e : ℕ × List ℤ). e.0) es)) (λ (e : ℕ × List ℤ). value_at [] es e.0 ≡ e.1) es own has.values) in
    let fs = flat_map second es in
    let named = filters_reached L.lists reached es chains in
    let numbered_sites = map (numbered L.chains kept) L.sites in
    let filters = filters_there table L P reached refl refl long positive found t.part types fs has.named named in
    record {
      order = joined_order numbered_sites 0 (numbered_order L.chains kept 0 L.sites (listed_order start es 0 0 table.sites is.sites has.rises (omega arith)));
      sites = all_more (λ s. ChainThere kept s.chain) (λ s. ChainIsThere P s.chain) (λ s there. there_is P s.chain there) (joined numbered_sites)
          (all_joined (λ s. ChainThere kept s.chain) (λ s u e one two. one) numbered_sites (all_numbered_there L.chains kept L.sites keeps));
      chains = all_distinct (ChainIsGood P) L.chains L.sites (all_map (ChainIsGood P) second es
          (all_both (λ (e : ℕ × List ℤ). 0 < length e.1) (λ (e : ℕ × List ℤ). AllByRecursion (FilterIsThere P) e.1) es has.chains (all_each (FilterIsThere P) second es filters)));
      lists = all_map (AllByRecursion (TypeIsThere P)) (λ (l : ℕ × List ℕ). l.1) table.lists
          (lists_there table L P reached refl refl long positive found (flat_map lists_named fs) (lists_reached L.lists reached fs named) table.lists found has.lists has.indices);
      types = types_near t.first t.end (t.first + length (packed_bytes P t.first)) (base_for P t.first) P.types (omega (arith, less)) rule.near;
    }

-- the packed sites lie in their function
pub packed_fit : (memory : Memory) (t : Placed) → PlacedIn memory t → is_packed t ≡ true → AllByRecursion (SiteFits memory t.region) (lists_for t).sites
unfolding packed_lists lists_read
packed_fit memory t in' is_shorter =
    let rule = allowed t (fewer t is_shorter).0 in
    let table = t.table in
    let L = lists_read t.region.start table in
    let kept = distinct (chains_of L) in
    let is = is_read memory t.first t.region table in'.read in
    let has = table_has memory t.part t.region (t.first - t.part.address) t.head table in'.head (read_in memory t in') in
    fits_joined memory t.region (map (numbered L.chains kept) L.sites)
    (fits_numbered memory t.region L.chains kept L.sites (fits_listed memory t.region table.actions table.sites is.sites has.lie rule.pads))
