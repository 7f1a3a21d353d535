-- The site of an address is the one that holds its operation.
use Rattle.std.proofs.Common.{◌≡◌, ◌≢◌, ◌∙◌, refl, sym, ap, subst, arith, ℕ, zero, suc, ◌+◌, ◌-◌, ◌<◌, ◌≤◌, ◌==◌, ◌&&◌, nat_le, nat_lt, ℤ, pos, Bool, true, false, List, [], ◌∷◌, map, Option, Some, None, if◌then◌else◌}
use Rattle.std.specs.Prelude.{find, slice_get}
use Rattle.std.specs.List.{AllByRecursion, AllZip}
use Rattle.std.proofs.lemmas.Bool.Decides.{nat_tests}
use Rattle.meaning_forms.specs.Arithmetic.{int_equal}
use Rattle.eh_bytes.specs.declared.frames.Region64.{Region64}
use Rattle.eh_bytes.specs.Listed.{ListedTable}
use Rattle.table_forms.specs.declared.found.Verdict.{Verdict}
use Rattle.table_forms.specs.declared.found.Verdict.TheVariants.{Nothing}
use Rattle.table_forms.specs.declared.found.Site.{Site}
use Rattle.table_forms.specs.Keys.{value_at}
use Rattle.table_forms.specs.Lsda.{Table}
use Rattle.table_forms.specs.Verdict.{Thrown, stops, decided, filters_at, verdict_at}
use Rattle.table_forms.specs.WrittenTable.{ChainStands, SiteStands}
use Rattle.linear_forms.specs.Linear.{CodeSite}
use Rattle.linear_forms.specs.Sites.{same_chain}
use Rattle.linear_forms.specs.Tables.{Cover, unpadded, padded, cover_of, holds, look_up}
use Rattle.linear_forms.specs.Verdict as linear
use Rattle.linear_forms.proofs.Integers.{equal_is_same, both_hold}
use Rattle.machine_forms.specs.Routine.{Routine, op_byte, pad_byte, chain_number, chain_for, chains_of, listed_site}
use Rattle.machine_forms.proofs.Words.{words_stand}
use Rattle.personality.specs.Named.{FilterIsNamed}
use Rattle.personality.proofs.NamedBy.{filters_named}
use Rattle.table_verdicts.specs.Verdicts.{in_words, told_of}
use Rattle.table_verdicts.specs.Asked.{PadIsInside}

-- ---- operations stand in their order
from_first : (r : Routine) (a p k : ℕ) → op_byte r a ≤ k → k < op_byte r (p + 1) → a ≤ p
from_first r a p k low high = by (nat_le a p) refl
  where
    by : (b : Bool) → nat_le a p ≡ b → a ≤ p
    by true e = grind (arith, nat_tests, e)
    by false e =
        let behind : p + 1 ≤ a = grind (arith, nat_tests, e) in
        absurd (omega (arith, low, high, words_stand.order r (p + 1) a behind))

up_to_end : (r : Routine) (b p k : ℕ) → op_byte r p ≤ k → k < op_byte r b → p < b
up_to_end r b p k low high = by (nat_lt p b) refl
  where
    by : (t : Bool) → nat_lt p b ≡ t → p < b
    by true e = grind (arith, nat_tests, e)
    by false e =
        let before : b ≤ p = grind (arith, nat_tests, e) in
        absurd (omega (arith, low, high, words_stand.order r b p before))

both_ways : (x y : Bool) → (x ≡ true → y ≡ true) → (y ≡ true → x ≡ true) → x ≡ y
both_ways true true f g = refl
both_ways false false f g = refl
both_ways true false f g = sym (f refl)
both_ways false true f g = g refl

site_test : (r : Routine) (first : ℕ) (s : CodeSite) (p k : ℕ) → op_byte r p ≤ k → k < op_byte r (p + 1) →
    (nat_le (first + op_byte r s.start) (first + k) && nat_lt (first + k) (first + op_byte r s.start + (op_byte r s.end - op_byte r s.start))) ≡ holds s p
site_test r first s p k low high = both_ways tested held there back
  where
    tested : Bool
    tested = nat_le (first + op_byte r s.start) (first + k) && nat_lt (first + k) (first + op_byte r s.start + (op_byte r s.end - op_byte r s.start))

    held : Bool
    held = holds s p

    there : tested ≡ true → held ≡ true
    there e =
        let begun : op_byte r s.start ≤ k = grind (arith, nat_tests, e) in
        let open_yet : k < op_byte r s.end = grind (arith, nat_tests, e) in
        let a = from_first r s.start p k begun high in
        let b = up_to_end r s.end p k low open_yet in
        grind (arith, nat_tests, a, b)

    back : held ≡ true → tested ≡ true
    back e =
        let a : s.start ≤ p = grind (arith, nat_tests, e) in
        let b : p + 1 ≤ s.end = grind (arith, nat_tests, e) in
        let begun : op_byte r s.start ≤ k = omega (arith, low, words_stand.order r s.start p a) in
        let open_yet : k < op_byte r s.end = omega (arith, high, words_stand.order r (p + 1) s.end b) in
        let inside : first + k < first + op_byte r s.start + (op_byte r s.end - op_byte r s.start) = omega (arith, begun, open_yet) in
        grind (arith, nat_tests, begun, inside)

-- ---- chains
chain_same : (a b : List ℤ) → same_chain a b ≡ true → a ≡ b
chain_same [] [] e = refl
chain_same [] (m ∷ ms) e = absurd (cc e)
chain_same (n ∷ ns) [] e = absurd (cc e)
chain_same (n ∷ ns) (m ∷ ms) e =
    let both = both_hold (int_equal n m) (same_chain ns ms) e in
    ap (λ x. x ∷ ns) (equal_is_same n m both.0) ∙ ap (λ xs. m ∷ xs) (chain_same ns ms both.1)

-- a chain that stands under its number is that chain
chain_found : (c : List ℤ) (chains : List (List ℤ)) (x : List ℤ) → slice_get chains (chain_number c chains) ≡ Some x → x ≡ c
chain_found c [] x e = absurd (cc e)
chain_found c (y ∷ ys) x e = by (same_chain c y) refl e (chain_found c ys x)
  where
    same : (a b : List ℤ) → Some a ≡ Some b → a ≡ b
    same a b e = cc

    by : (b : Bool) → same_chain c y ≡ b → slice_get (y ∷ ys) (if b then 0 else chain_number c ys + 1) ≡ Some x → (slice_get ys (chain_number c ys) ≡ Some x → x ≡ c) → x ≡ c
    by true is e later = sym (same y x e) ∙ sym (chain_same c y is)
    by false is e later =
        let next : chain_number c ys + 1 ≡ suc (chain_number c ys) = omega arith in
        later (ap (slice_get (y ∷ ys)) (sym next) ∙ e)

-- ---- one site
-- what is decided of the filters of each pad, by a judge of chains
pub record Decides (table : Table) (thrown : Thrown) (judge : List ℤ → linear.Verdict) : Type 0 where
  pub alone : (pad : ℕ) → decided thrown pad (pos 0 ∷ []) (find (stops table thrown) (pos 0 ∷ [])) ≡ in_words pad (judge [])
  pub filters : (pad : ℕ) (n : ℤ) (ns : List ℤ) → AllByRecursion (FilterIsNamed table) (n ∷ ns) → decided thrown pad (n ∷ ns) (find (stops table thrown) (n ∷ ns)) ≡ in_words pad (judge (n ∷ ns))

abbrev by_filters : Table → Thrown → ℕ → List ℤ → Verdict
by_filters table thrown pad fs = decided thrown pad fs (find (stops table thrown) fs)

abbrev by_pad : Table → Thrown → ℕ → List ℤ → Verdict
by_pad table thrown pad fs = if pad == 0 then Nothing else by_filters table thrown pad fs

chain_told : (list : ListedTable) (table : Table) (thrown : Thrown) (judge : List ℤ → linear.Verdict) (pad action : ℕ) (chain : List ℤ) → Decides table thrown judge →
    ChainStands list table (chain_for list.chains chain) action → by_filters table thrown pad (filters_at table action) ≡ in_words pad (judge chain)
chain_told list table thrown judge pad action [] decides stands = ap (λ a. by_filters table thrown pad (filters_at table a)) stands ∙ decides.alone pad
chain_told list table thrown judge pad action (n ∷ ns) decides (some, there) =
    let chain = n ∷ ns in
    let is : value_at [] table.actions action ≡ chain = chain_found chain list.chains (value_at [] table.actions action) there in
    let test : (action == 0) ≡ false = not_zero action some in
    ap (λ b. by_filters table thrown pad (if b then pos 0 ∷ [] else value_at [] table.actions action)) test
    ∙ (ap (by_filters table thrown pad) is ∙ decides.filters pad n ns (subst (AllByRecursion (FilterIsNamed table)) is (filters_named table action)))
  where
    not_zero : (a : ℕ) → a ≢ 0 → (a == 0) ≡ false
    not_zero zero some = absurd (some refl)
    not_zero (suc a) some = grind (arith, nat_tests)

site_told : (r : Routine) (list : ListedTable) (region : Region64) (table : Table) (thrown : Thrown) (judge : List ℤ → linear.Verdict) (s : CodeSite) (site : Site) → list.chains ≡ chains_of r.sites →
    Decides table thrown judge → PadIsInside r s.pad → SiteStands list region table (listed_site r s) site →
    verdict_at table thrown (Some site) ≡ told_of (λ q. region.start + op_byte r q) (cover_of s) judge
site_told r list region table thrown judge s site chains decides inside stands = by s.pad refl inside
  where
    at : ℕ → ℕ
    at q = region.start + op_byte r q

    covered : Option ℕ → Cover
    covered o = elim o [ None ↦ unpadded | Some p ↦ padded p s.filters ]

    pad_is : Option ℕ → ℕ
    pad_is o = if pad_byte r o == 0 then 0 else region.start + pad_byte r o

    fs : List ℤ
    fs = filters_at table site.action

    by : (o : Option ℕ) → s.pad ≡ o → PadIsInside r o → by_pad table thrown site.pad fs ≡ told_of at (cover_of s) judge
    by None e inside =
        let none : site.pad ≡ 0 = stands.pad ∙ ap pad_is e in
        ap (λ n. by_pad table thrown n fs) none ∙ ap (λ o. told_of at (covered o) judge) (sym e)
    by (Some q) e inside =
        let some : (op_byte r q == 0) ≡ false = grind (arith, nat_tests, inside) in
        let pad : site.pad ≡ at q = stands.pad ∙ (ap pad_is e ∙ ap (λ b. if b then 0 else at q) some) in
        let far : (at q == 0) ≡ false = grind (arith, nat_tests, inside) in
        let stood : ChainStands list table (chain_for list.chains s.filters) site.action = subst (λ cs. ChainStands list table (chain_for cs s.filters) site.action) (sym chains) stands.chain in
        ap (λ n. by_pad table thrown n fs) pad ∙ (ap (λ b. if b then Nothing else by_filters table thrown (at q) fs) far
        ∙ (chain_told list table thrown judge (at q) site.action s.filters decides stood ∙ ap (λ o. told_of at (covered o) judge) (sym e)))

-- ---- all sites
abbrev has_place : ℕ → Site → Bool
has_place place s = nat_le s.start place && nat_lt place s.end

pub sites_told : (r : Routine) (list : ListedTable) (region : Region64) (table : Table) (thrown : Thrown) (judge : List ℤ → linear.Verdict) (p k : ℕ) (ss : List CodeSite) (sites : List Site) →
    list.chains ≡ chains_of r.sites → Decides table thrown judge → op_byte r p ≤ k → k < op_byte r (p + 1) → AllByRecursion (λ s. PadIsInside r s.pad) ss →
    AllZip (SiteStands list region table) (map (listed_site r) ss) sites →
    verdict_at table thrown (find (λ s. nat_le s.start (region.start + k) && nat_lt (region.start + k) s.end) sites) ≡ told_of (λ q. region.start + op_byte r q) (look_up ss p) judge
sites_told r list region table thrown judge p k [] [] chains decides low high inside stand = refl
sites_told r list region table thrown judge p k [] (x ∷ xs) chains decides low high inside stand = absurd stand
sites_told r list region table thrown judge p k (s ∷ ss) [] chains decides low high inside stand = absurd stand
sites_told r list region table thrown judge p k (s ∷ ss) (site ∷ sites) chains decides low high inside (stands, stand) =
    by (holds s p) refl (has_place place site) (tested ∙ site_test r region.start s p k low high)
    (site_told r list region table thrown judge s site chains decides inside.0 stands) (sites_told r list region table thrown judge p k ss sites chains decides low high inside.1 stand)
  where
    place : ℕ
    place = region.start + k

    at : ℕ → ℕ
    at q = region.start + op_byte r q

    tested : has_place place site ≡ (nat_le (region.start + op_byte r s.start) place && nat_lt place (region.start + op_byte r s.start + (op_byte r s.end - op_byte r s.start)))
    tested = ap (λ a. nat_le a place && nat_lt place site.end) stands.start ∙ ap (λ b. nat_le (region.start + op_byte r s.start) place && nat_lt place b) stands.end

    by : (b : Bool) → holds s p ≡ b → (x : Bool) → x ≡ holds s p → verdict_at table thrown (Some site) ≡ told_of at (cover_of s) judge →
        verdict_at table thrown (find (has_place place) sites) ≡ told_of at (look_up ss p) judge →
        verdict_at table thrown (if x then Some site else find (has_place place) sites) ≡ told_of at (if holds s p then cover_of s else look_up ss p) judge
    by true e x same one more =
        ap (λ c. verdict_at table thrown (if c then Some site else find (has_place place) sites)) (same ∙ e) ∙ (one ∙ ap (λ c. told_of at (if c then cover_of s else look_up ss p) judge) (sym e))
    by false e x same one more =
        ap (λ c. verdict_at table thrown (if c then Some site else find (has_place place) sites)) (same ∙ e) ∙ (more ∙ ap (λ c. told_of at (if c then cover_of s else look_up ss p) judge) (sym e))
