-- The numbers of packed lists are those of 64 bits.
use Rattle.std.proofs.Common.{◌≡◌, ◌≢◌, ◌+◌, ◌-◌, ◌*◌, ◌<◌, ◌^◌, ◌==◌, ℕ, ℤ, zero, suc, Bool, true, false, nat_lt, List, [], ◌∷◌, drop, map, reverse, Result, Ok, Err, refl, ap, sym, subst, ◌∙◌, arith}
use Rattle.std.specs.Prelude.{Option, Some, None, flat_map, filter, not, if◌then◌else◌}
use Rattle.std.specs.List.{AllByRecursion}
use Rattle.std.proofs.lemmas.Bool.{cond_both}
use Rattle.std.proofs.lemmas.Bool.Decides.{nat_tests}
use Rattle.std.proofs.lemmas.List.{reverse-append}
use Rattle.eh_bytes.specs.declared.error.ByteError.{ByteError}
use Rattle.eh_bytes.specs.declared.error.ByteError.TheVariants.{Truncated, LebRange, Encoding}
use Rattle.eh_bytes.specs.declared.frames.Region64.{Region64}
use Rattle.eh_bytes.specs.declared.table.ListSite.{ListSite}
use Rattle.eh_bytes.specs.Field.{Reading, at, behind}
use Rattle.eh_bytes.specs.Leb128.{grouped, in_u64, uleb, sign_extended, is_i64, ranged, and_taken, in_i64, sleb}
use Rattle.eh_bytes.specs.Memory.{Part, Memory, is_code}
use Rattle.table_forms.specs.declared.found.Next.{Next}
use Rattle.table_forms.specs.declared.found.Next.TheVariants.{Ends, Leaves, Goes}
use Rattle.table_forms.specs.declared.found.Action.{Action}
use Rattle.table_forms.specs.declared.found.Action.TheVariants.{Record, Outside, Ranged}
use Rattle.table_forms.specs.Fault.{◌>>=◌, least}
use Rattle.table_forms.specs.Keys.{keys, value_at}
use Rattle.table_forms.specs.LsdaHead.{Head, Types, head_at}
use Rattle.table_forms.specs.LsdaSites.{site_of, site_records}
use Rattle.table_forms.specs.LsdaChain.{Link, with_displacement, with_filter, action_in, action_at, next_links, links_from, links_within}
use Rattle.table_forms.specs.LsdaTypes.{index_at, indices_from, indices_within}
use Rattle.table_forms.specs.Lsda.{Table, table_faults, filters_of, lists_named, list_value, table_of, lsda_in}
use Rattle.table_forms.specs.WrittenTable.{SiteFits}
use Rattle.eh_write.specs.Fits.{IsWord, IsSignedWord, HasWords, NumbersFit}
use Rattle.eh_write.proofs.Alls.{all_append, all_map}
use Rattle.lsda_pack.specs.Chains.{chains_of, distinct, numbered}
use Rattle.lsda_pack.specs.Joined.{joined}
use Rattle.lsda_pack.specs.KeptTypes.{is_among, greatest, kept_from, kept_types, indices_reached}
use Rattle.lsda_pack.specs.PackedLists.{packed_lists}
use Rattle.lsda_pack.specs.Placed.{Placed}
use Rattle.lsda_pack.specs.ReadLists.{values_from, lists_read}
use Rattle.lsda_pack.specs.Rule.{lists_for, is_packed}
use Rattle.lsda_pack.proofs.CanPacks.{PlacedIn, read_in, packed_fit}
use Rattle.lsda_pack.proofs.FieldFrame.{taking, ok_same}
use Rattle.lsda_pack.proofs.LsdaFrame.{answer_ok, answered, in_steps}
use Rattle.lsda_pack.proofs.NamesPacked.{all_distinct}

-- a number that is read
sleb_signed : (xs : List ℕ) (v : ℤ) (n : ℕ) → sleb xs ≡ Ok (v, n) → is_i64 v ≡ true
unfolding sleb ranged
sleb_signed xs v n read = by (grouped xs) read
  where
    by : (r : Reading ℕ) → in_i64 r ≡ Ok (v, n) → is_i64 v ≡ true
    by (Err cause) e = absurd cc
    by (Ok (w, m)) e = step (is_i64 (sign_extended w (7 * m))) refl e
      where
        step : (b : Bool) → is_i64 (sign_extended w (7 * m)) ≡ b → and_taken m (if b then Ok (sign_extended w (7 * m)) else Err LebRange) ≡ Ok (v, n) → is_i64 v ≡ true
        step false is r = absurd cc
        step true is r = ap is_i64 (sym (ap (λ x. x.0) (ok_same (sign_extended w (7 * m), m) (v, n) r))) ∙ is

uleb_word : (xs : List ℕ) (v n : ℕ) → uleb xs ≡ Ok (v, n) → v < 2 ^ 64
unfolding uleb
uleb_word xs v n read = by (grouped xs) read
  where
    by : (r : Reading ℕ) → in_u64 r ≡ Ok (v, n) → v < 2 ^ 64
    by (Err cause) e = absurd cc
    by (Ok (w, m)) e = step (nat_lt w (2 ^ 64)) refl e
      where
        step : (b : Bool) → nat_lt w (2 ^ 64) ≡ b → (if b then taking w m else Err LebRange) ≡ Ok (v, n) → v < 2 ^ 64
        step false is r = absurd cc
        step true is r = let same : w ≡ v = ap (λ x. x.0) (ok_same (w, m) (v, n) r) in subst (λ x. x < 2 ^ 64) same (grind (arith, nat_tests, is))

at_signed : (xs : List ℕ) (p : ℕ) (v : ℤ) (q : ℕ) → at sleb xs p ≡ Ok (v, q) → is_i64 v ≡ true
at_signed xs p v q read = by (sleb (drop p xs)) refl read
  where
    by : (r : Reading ℤ) → sleb (drop p xs) ≡ r → behind p r ≡ Ok (v, q) → is_i64 v ≡ true
    by (Err cause) is e = absurd cc
    by (Ok (w, n)) is e = ap is_i64 (sym (ap (λ x. x.0) (ok_same (w, p + n) (v, q) e))) ∙ sleb_signed (drop p xs) w n is

at_word : (xs : List ℕ) (p v q : ℕ) → at uleb xs p ≡ Ok (v, q) → v < 2 ^ 64
at_word xs p v q read = by (uleb (drop p xs)) refl read
  where
    by : (r : Reading ℕ) → uleb (drop p xs) ≡ r → behind p r ≡ Ok (v, q) → v < 2 ^ 64
    by (Err cause) is e = absurd cc
    by (Ok (w, n)) is e = subst (λ x. x < 2 ^ 64) (ap (λ x. x.0) (ok_same (w, p + n) (v, q) e)) (uleb_word (drop p xs) w n is)

-- the filters of chains
second_same : (f filter : ℤ) (q : ℕ) (next : Next) (r : Result (ℤ × ℕ) ByteError) → with_displacement f q r ≡ Record filter next → f ≡ filter
second_same f filter q next (Err LebRange) e = absurd cc
second_same f filter q next (Err Truncated) e = absurd cc
second_same f filter q next (Err Encoding) e = absurd cc
second_same f filter q next (Ok (d, s)) e = cc

record_signed : (xs : List ℕ) (first p : ℕ) (filter : ℤ) (next : Next) → action_in xs first p ≡ Record filter next → IsSignedWord filter
unfolding action_in
record_signed xs first p filter next e = step (nat_lt p first) e
  where
    by : (r : Result (ℤ × ℕ) ByteError) → at sleb xs p ≡ r → with_filter xs p r ≡ Record filter next → IsSignedWord filter
    by (Err LebRange) is e' = absurd cc
    by (Err Truncated) is e' = absurd cc
    by (Err Encoding) is e' = absurd cc
    by (Ok (f, q)) is e' = ap is_i64 (sym (second_same f filter q next (at sleb xs q) e')) ∙ at_signed xs p f q is

    step : (b : Bool) → (if b then Outside else with_filter xs p (at sleb xs p)) ≡ Record filter next → IsSignedWord filter
    step true e' = absurd cc
    step false e' = by (at sleb xs p) refl e'

links_signed : (n : ℕ) (part : Part) (h : Head) (p : ℕ) → AllByRecursion IsSignedWord (map (λ l. l.filter) (links_within n part h p).links)
unfolding links_within
links_signed zero part h p = tt
links_signed (suc n) part h p = by_action (action_at part h p) refl (λ q. links_signed n part h q)
  where
    Signed : List Link → Type 0
    Signed links = AllByRecursion IsSignedWord (map (λ l. l.filter) links)

    by_next : (next : Next) → ((q : ℕ) → Signed (links_within n part h q).links) → Signed (next_links next (links_within n part h)).links
    by_next Ends later = tt
    by_next Leaves later = tt
    by_next (Goes q) later = later q

    by_action : (a : Action) → action_at part h p ≡ a → ((q : ℕ) → Signed (links_within n part h q).links) → Signed (links_from p a (links_within n part h)).links
    by_action Outside is later = tt
    by_action (Ranged q) is later = tt
    by_action (Record filter next) is later = (record_signed _ h.actions_at p filter next is, by_next next later)

-- the indices of lists
indices_words : (n : ℕ) (part : Part) (first p : ℕ) → AllByRecursion IsWord (indices_within n part first p).indices
unfolding indices_within
indices_words zero part first p = tt
indices_words (suc n) part first p = by (at uleb part.bytes p) refl (λ q. indices_words n part first q)
  where
    by : (r : Reading ℕ) → at uleb part.bytes p ≡ r → ((q : ℕ) → AllByRecursion IsWord (indices_within n part first q).indices) →
        AllByRecursion IsWord (indices_from (index_at part first p) (indices_within n part first)).indices
    by (Err cause) is later = rw is tt
    by (Ok (zero, next)) is later = rw is tt
    by (Ok (suc k, next)) is later = rw is (at_word part.bytes p (suc k) next is, later next)

list_words : (part : Part) (types : Option Types) (j : ℕ) → AllByRecursion IsWord (list_value part types j)
list_words part None j = tt
list_words part (Some types) j = indices_words _ part _ _

pub all_true : {X : Type 0} (P : X → Type 0) → ((x : X) → P x) → (xs : List X) → AllByRecursion P xs
all_true P each [] = tt
all_true P each (x ∷ xs) = (each x, all_true P each xs)

-- all of a table
pub record HasNumbers (t : Table) : Type 0 where
  pub chains : AllByRecursion (λ e. AllByRecursion IsSignedWord e.1) t.actions
  pub lists : AllByRecursion (λ l. AllByRecursion IsWord l.1) t.lists

made_numbers : (memory : Memory) (part : Part) (region : Region64) (h : Head) → HasNumbers (table_of memory part region h)
unfolding table_of
made_numbers memory part region h =
    let F = filters_of part h in
    let ks = keys (filter (λ a. not (a == 0)) (map (λ s. s.action) (map (site_of h region) (site_records part h).records))) in
    let fs = flat_map (λ (e : ℕ × List ℤ). e.1) (map (λ a. (a, F a)) ks) in
    let js = keys (flat_map lists_named fs) in
    record {
      chains = all_map (λ (e : ℕ × List ℤ). AllByRecursion IsSignedWord e.1) (λ a. (a, F a)) ks (all_true (λ a. AllByRecursion IsSignedWord (F a)) (λ a. links_signed _ part h _) ks);
      lists = all_map (λ (l : ℕ × List ℕ). AllByRecursion IsWord l.1) (λ j. (j, list_value part h.types j)) js
          (all_true (λ j. AllByRecursion IsWord (list_value part h.types j)) (list_words part h.types) js);
    }

pub has_numbers : (memory : Memory) (part : Part) (region : Region64) (p : ℕ) (h : Head) (t : Table) → head_at part region p ≡ Ok h → lsda_in memory region p part ≡ Ok t → HasNumbers t
has_numbers memory part region p h t head read =
    let given = answer_ok (least (table_faults memory part region h)) (table_of memory part region h) t
    (sym (ap (λ x. x >>= answered memory region part) head) ∙ sym (in_steps memory region p part) ∙ read) in
    subst HasNumbers given.1 (made_numbers memory part region h)

-- of sites that lie in a function
site_words : (memory : Memory) (region : Region64) (s : ListSite) → region.start + region.length < 2 ^ 64 → ((a : ℕ) → is_code memory a ≡ true → a < 2 ^ 64) → SiteFits memory region s → HasWords s
site_words memory region s short code fits =
    let inside = fits.inside in
    record { start = omega (arith, inside, short); length = omega (arith, inside, short); pad = by (s.pad == 0) refl }
  where
    by : (b : Bool) → (s.pad == 0) ≡ b → s.pad < 2 ^ 64
    by true e = grind (arith, nat_tests, e)
    by false e =
        let some : s.pad ≢ 0 = λ z. let yes : (s.pad == 0) ≡ true = grind (arith, nat_tests, z) in let f : true ≡ false = sym yes ∙ e in absurd cc in
        let below = code (region.start + s.pad) (fits.code some) in
        omega (arith, below)

sites_words : (memory : Memory) (region : Region64) (ss : List ListSite) → region.start + region.length < 2 ^ 64 → ((a : ℕ) → is_code memory a ≡ true → a < 2 ^ 64) →
    AllByRecursion (SiteFits memory region) ss → AllByRecursion HasWords ss
sites_words memory region [] short code all = tt
sites_words memory region (s ∷ ss) short code all = (site_words memory region s short code all.0, sites_words memory region ss short code all.1)

-- of types
value_word : (es : List (ℕ × ℕ)) (i : ℕ) → AllByRecursion (λ e. IsWord e.1) es → IsWord (value_at 0 es i)
value_word [] i all = omega arith
value_word ((n, v) ∷ es) i all = cond_both (n == i) v (value_at 0 es i) IsWord (λ _. all.0) (λ _. value_word es i all.1)

values_words : (n i : ℕ) (es : List (ℕ × ℕ)) → AllByRecursion (λ e. IsWord e.1) es → AllByRecursion IsWord (values_from n i es)
values_words zero i es all = tt
values_words (suc n) i es all = (value_word es i all, values_words n (i + 1) es all)

kept_words : (ns ts : List ℕ) (n : ℕ) → AllByRecursion IsWord ts → AllByRecursion IsWord (kept_from ns n ts)
kept_words ns [] n all = tt
kept_words ns (t ∷ ts) n all =
    cond_both (nat_lt (greatest ns) n) [] ((if is_among ns n then t else 0) ∷ kept_from ns (n + 1) ts) (AllByRecursion IsWord) (λ _. tt)
    (λ _. (cond_both (is_among ns n) t 0 IsWord (λ _. all.0) (λ _. omega arith), kept_words ns ts (n + 1) all.1))

reversed : (P : ℕ → Type 0) (xs : List ℕ) → AllByRecursion P xs → AllByRecursion P (reverse xs)
reversed P [] all = tt
reversed P (x ∷ xs) all = subst (AllByRecursion P) (sym (reverse-append (x ∷ []) xs)) (all_append P (reverse xs) (x ∷ []) (reversed P xs all.1) (all.0, tt))

pub numbers_fit : (memory : Memory) (t : Placed) → PlacedIn memory t → is_packed t ≡ true → t.region.start + t.region.length < 2 ^ 64 → ((a : ℕ) → is_code memory a ≡ true → a < 2 ^ 64) →
    AllByRecursion (λ e. IsWord e.1) t.table.types → NumbersFit (lists_for t)
unfolding packed_lists lists_read
numbers_fit memory t in' is_shorter short code words =
    let table = t.table in
    let L = lists_read t.region.start table in
    let kept = distinct (chains_of L) in
    let has = has_numbers memory t.part t.region (t.first - t.part.address) t.head table in'.head (read_in memory t in') in
    record {
      sites = sites_words memory t.region (joined (map (numbered L.chains kept) L.sites)) short code (packed_fit memory t in' is_shorter);
      chains = all_distinct (AllByRecursion IsSignedWord) L.chains L.sites (all_map (AllByRecursion IsSignedWord) (λ (e : ℕ × List ℤ). e.1) table.actions has.chains);
      types = reversed IsWord (kept_types (indices_reached L.lists kept) L.types)
          (kept_words (indices_reached L.lists kept) L.types 1 (values_words (greatest (map (λ e. e.0) table.types)) 1 table.types words));
      lists = all_map (AllByRecursion IsWord) (λ (l : ℕ × List ℕ). l.1) table.lists has.lists;
    }
