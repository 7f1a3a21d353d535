-- A table that is read of packed bytes ends with them at the latest.
use Rattle.std.proofs.Common.{◌≡◌, ◌+◌, ◌-◌, ◌==◌, ◌≤◌, ◌<◌, ◌^◌, ℕ, zero, suc, Bool, true, false, nat_lt, List, [], ◌∷◌, ◌++◌, length, drop, map, Result, Ok, refl, ap, sym, subst, ◌∙◌, arith, inl, inr, append_assoc, length-append, if◌then◌else◌}
use Rattle.std.specs.Prelude.{Some, None, flat_map, fold, max}
use Rattle.std.specs.List.{AllByRecursion}
use Rattle.std.proofs.lemmas.Bool.Decides.{nat_tests}
use Rattle.eh_bytes.specs.declared.frames.Region64.{Region64}
use Rattle.eh_bytes.specs.Field.{at}
use Rattle.eh_bytes.specs.Leb128.{uleb}
use Rattle.eh_bytes.specs.Listed.{ListedTable}
use Rattle.eh_bytes.specs.Memory.{Part}
use Rattle.eh_bytes.specs.Spelling.{uleb_spelling, uleb_spelling_within}
use Rattle.table_forms.specs.Lsda.{Table}
use Rattle.table_forms.specs.LsdaHead.{Head, head_at}
use Rattle.table_forms.specs.LsdaSites.{SiteRecord, SiteRecords}
use Rattle.table_forms.specs.Fault.{Fault}
use Rattle.table_forms.specs.LsdaTypes.{cut_by, index_at}
use Rattle.table_forms.specs.WrittenTable.{list_from, list_size}
use Rattle.table_forms.proofs.Alls.{all_more}
use Rattle.eh_write.specs.CanWrite.{TypeIsThere}
use Rattle.eh_write.specs.Fits.{IsWord, NumbersFit}
use Rattle.eh_write.specs.Written.{lists_bytes}
use Rattle.eh_write.proofs.Alls.{all_append}
use Rattle.eh_write.proofs.Lengths.{inside, no_more_items, some_uleb}
use Rattle.eh_write.proofs.ListsFound.{all_from, index_fits, list_stands}
use Rattle.eh_write.proofs.Reading.{uleb_stands}
use Rattle.lsda_pack.specs.Laws.{CanPack}
use Rattle.lsda_pack.specs.PackedBytes.{body_bytes, no_names, packed_bytes}
use Rattle.lsda_pack.specs.TableEnd.{action_ends, chain_ends, end_from, list_end, list_end_within, name_ends, table_end}
use Rattle.lsda_pack.proofs.BodyRead.{actions_place, body_is, body_length, head_with, records_in, sites_are}
use Rattle.lsda_pack.proofs.BytesRead.{by_kind, ends, named_bytes, plain_bytes, plain_head}
use Rattle.lsda_pack.proofs.NamesLaid.{AreLaid, are_laid, base_is, base_place, behind_body, encoding_place, front_is, table_length}
use Rattle.lsda_pack.proofs.NamesRead.{head_of, head_read, room, types_of}
use Rattle.lsda_pack.proofs.RecordsEnd.{site_end, sites_end}
use Rattle.lsda_pack.proofs.SuffixesRead.{Stands, next_stands}
use Rattle.lsda_pack.proofs.TypesWords.{TypesPlain}

-- ---- lists
zero_spelled : uleb_spelling 0 ≡ 0 ∷ []
unfolding uleb_spelling uleb_spelling_within
zero_spelled = refl

index_read : (part : Part) (first p k next : ℕ) → at uleb part.bytes p ≡ Ok (k, next) → index_at part first p ≡ Ok (k, next)
index_read part first p k next read = ap (cut_by part first p) read

list_end_read : (part : Part) (first p n : ℕ) (ks : List ℕ) (rest : List ℕ) → AllByRecursion (λ k. (0 < k) × (k < 2 ^ 64)) ks → length ks < n →
    Stands part.bytes p (flat_map uleb_spelling ks) (0 ∷ rest) → list_end_within n part first p ≡ p + list_size ks
unfolding list_end_within
list_end_read part first p zero ks rest fits enough here = absurd (omega (arith, enough))
list_end_read part first p (suc n) [] rest fits enough here =
    let zero_here : Stands part.bytes p (uleb_spelling 0) rest = here ∙ ap (λ x. x ++ rest) (sym zero_spelled) in
    let size : p + length (uleb_spelling 0) ≡ p + 1 = ap (λ x. p + length x) zero_spelled in
    ap (λ r. end_from r p (list_end_within n part first)) (index_read part first p 0 (p + length (uleb_spelling 0)) (uleb_stands part.bytes p 0 rest (omega arith) zero_here)) ∙ size
list_end_read part first p (suc n) (zero ∷ ks) rest fits enough here = let some = fits.0.0 in absurd (omega (arith, some))
list_end_read part first p (suc n) (suc k ∷ ks) rest fits enough here =
    let x = uleb_spelling (suc k) in
    let xs = flat_map uleb_spelling ks in
    let one : Stands part.bytes p x (xs ++ 0 ∷ rest) = here ∙ append_assoc x xs (0 ∷ rest) in
    let sizes : p + length x + (length xs + 1) ≡ p + (length (x ++ xs) + 1) = omega (arith, length-append x xs) in
    ap (λ r. end_from r p (list_end_within n part first)) (index_read part first p (suc k) (p + length x) (uleb_stands part.bytes p (suc k) (xs ++ 0 ∷ rest) fits.0.1 one)) ∙
    list_end_read part first (p + length x) n ks rest fits.1 (omega (arith, enough)) (next_stands part.bytes p x (xs ++ 0 ∷ rest) one) ∙ sizes

-- a list that is there ends with the lists at the latest
list_room : (lists : List (List ℕ)) (n : ℕ) (l : List ℕ) → list_from lists n ≡ Some l → n + list_size l ≤ length (lists_bytes lists)
list_room [] n l found = absurd cc
list_room (m ∷ lists) n l found = by (n == 0) (nat_lt n (list_size m)) refl refl found (λ k f. list_room lists k l f)
  where
    sizes : length (lists_bytes (m ∷ lists)) ≡ list_size m + length (lists_bytes lists)
    sizes = omega (arith, length-append (flat_map uleb_spelling m ++ 0 ∷ []) (lists_bytes lists), length-append (flat_map uleb_spelling m) (0 ∷ []))

    some_same : (a b : List ℕ) → Some a ≡ Some b → a ≡ b
    some_same a b e = cc

    by : (b c : Bool) → (n == 0) ≡ b → nat_lt n (list_size m) ≡ c → (if b then Some m else (if c then None else list_from lists (n - list_size m))) ≡ Some l →
        ((k : ℕ) → list_from lists k ≡ Some l → k + list_size l ≤ length (lists_bytes lists)) → n + list_size l ≤ length (lists_bytes (m ∷ lists))
    by true c e f is later =
        let none : n ≡ 0 = grind (arith, nat_tests, e) in
        let same = ap list_size (some_same m l is) in
        omega (arith, none, same, sizes)
    by false true e f is later = absurd cc
    by false false e f is later =
        let over : list_size m ≤ n = grind (arith, nat_tests, f) in
        let more = later (n - list_size m) is in
        omega (arith, over, more, sizes)

list_by : (list : ListedTable) (address : ℕ) (part : Part) (p : ℕ) (rest : List ℕ) (j : ℕ) (l : List ℕ) → AreLaid list address part.bytes p rest →
    AllByRecursion (AllByRecursion (TypeIsThere list)) list.lists → AllByRecursion (AllByRecursion IsWord) list.lists → 0 < j → list_from list.lists (j - 1) ≡ Some l →
    list_end part (types_of list address p) j ≤ base_place list address p + length (lists_bytes list.lists)
list_by list address part p rest j l laid there words some found =
    let base = base_place list address p in
    let n = j - 1 in
    let stands = list_stands part.bytes base list.lists rest n l laid.lists found in
    let fits = index_fits list l (all_from (AllByRecursion (TypeIsThere list)) list.lists n l there found) (all_from (AllByRecursion IsWord) list.lists n l words found) in
    let enough : length l < 1 + length part.bytes =
    omega (arith, no_more_items uleb_spelling some_uleb l, inside part.bytes (base + n) (flat_map uleb_spelling l) (0 ∷ stands.0) stands.1) in
    let first : base + j - 1 ≡ base + n = omega (arith, some) in
    let end : list_end part (types_of list address p) j ≡ base + n + list_size l =
    ap (λ q. list_end_within (1 + length part.bytes) part q q) first ∙ list_end_read part (base + n) (base + n) (1 + length part.bytes) l stands.0 fits enough stands.1 in
    let room = list_room list.lists n l found in
    omega (arith, end, room)

lists_by : (list : ListedTable) (address : ℕ) (part : Part) (p : ℕ) (rest : List ℕ) (ls : List (ℕ × List ℕ)) → AreLaid list address part.bytes p rest →
    AllByRecursion (AllByRecursion (TypeIsThere list)) list.lists → AllByRecursion (AllByRecursion IsWord) list.lists → AllByRecursion (λ l. 0 < l.0) ls →
    AllByRecursion (λ l. list_from list.lists (l.0 - 1) ≡ Some l.1) ls →
    AllByRecursion (λ n. n ≤ base_place list address p + length (lists_bytes list.lists)) (map (λ l. list_end part (types_of list address p) l.0) ls)
lists_by list address part p rest [] laid there words some found = tt
lists_by list address part p rest (l ∷ ls) laid there words some found =
    (list_by list address part p rest l.0 l.1 laid there words some.0 found.0, lists_by list address part p rest ls laid there words some.1 found.1)

-- ---- the table
greatest_by : (a stop : ℕ) (ns : List ℕ) → a ≤ stop → AllByRecursion (λ n. n ≤ stop) ns → fold max a ns ≤ stop
greatest_by a stop [] low all = low
greatest_by a stop (n ∷ ns) low all = let own = all.0 in greatest_by (max a n) stop ns (omega (arith, low, own)) all.1

table_by : (part : Part) (h : Head) (u : Table) (stop : ℕ) → h.actions_at ≤ stop → AllByRecursion (λ n. n ≤ stop) (action_ends part h) → AllByRecursion (λ n. n ≤ stop) (name_ends part h.types u) →
    table_end part h u ≤ stop
unfolding table_end
table_by part h u stop low actions names = greatest_by h.actions_at stop (action_ends part h ++ name_ends part h.types u) low (all_append (λ n. n ≤ stop) (action_ends part h) (name_ends part h.types u) actions names)

abbrev head_ok : Head → Result Head Fault
head_ok h = Ok h

head_same : (x y : Head) → head_ok x ≡ head_ok y → x ≡ y
head_same x y e = cc

some_base : (base stop : ℕ) (es : List (ℕ × ℕ)) → base ≤ stop → AllByRecursion (λ n. n ≤ stop) (if length es == 0 then [] else base ∷ [])
some_base base stop es low = by (length es == 0)
  where
    by : (b : Bool) → AllByRecursion (λ n. n ≤ stop) (if b then [] else base ∷ [])
    by true = tt
    by false = (low, tt)

more_room : (m n : ℕ) (ns : List ℕ) → m ≤ n → AllByRecursion (λ k. k ≤ m) ns → AllByRecursion (λ k. k ≤ n) ns
more_room m n ns less all = all_more (λ k. k ≤ m) (λ k. k ≤ n) (λ k low. omega (arith, less, low)) ns all

-- it ends at or before a place, and its types are relative to themselves, or omitted
abbrev pub EndsPlain : Part → Head → Table → ℕ → Type 0
EndsPlain part h u stop = (table_end part h u ≤ stop) × TypesPlain h.types

named_end : (list : ListedTable) (address : ℕ) (part : Part) (region : Region64) (p : ℕ) (rest : List ℕ) (h : Head) (u : Table) → NumbersFit list → CanPack list address →
    length (named_bytes list address) < 2 ^ 63 → drop p part.bytes ≡ named_bytes list address ++ rest → head_at part region p ≡ Ok h → AllByRecursion (λ l. 0 < l.0) u.lists →
    AllByRecursion (λ l. list_from list.lists (l.0 - 1) ≡ Some l.1) u.lists → EndsPlain part h u (p + length (named_bytes list address))
named_end list address part region p rest h u numbers can short here head some found =
    let laid = are_laid list address part.bytes p rest here in
    let e = encoding_place list address p in
    let behind = behind_body list address rest in
    let body = body_is list part.bytes e behind laid.body in
    let whole = table_length list address in
    let front = front_is list address p in
    let first = front_is list address 0 in
    let base = base_is list address p in
    let own = base_is list address 0 in
    let parts = body_length list in
    let records : length (records_in list) < 2 ^ 63 = omega (arith, short, whole, first, parts) in
    let types = types_of list address p in
    let own_head = head_of list address region p in
    let fits = room list address p in
    let stop = p + length (named_bytes list address) in
    let last = actions_place list e + length (records_in list) in
    let less : last ≤ stop = omega (arith, fits, base, front, whole) in
    let sites = sites_are list part region (Some types) e behind body numbers.sites can.order can.sites records in
    let actions : AllByRecursion (λ n. n ≤ last) (action_ends part own_head) =
    subst (λ (x : SiteRecords). AllByRecursion (λ n. n ≤ last) (flat_map (λ (r : SiteRecord). if r.action == 0 then [] else chain_ends part own_head r.action) x.records)) (sym sites.records)
    (sites_end list part own_head last sites.first list.sites can.sites
    (site_end list part region (Some types) e behind body can.chains numbers.chains records (omega (arith, fits, base)))) in
    let lists = lists_by list address part p rest u.lists laid can.lists numbers.lists some found in
    let base_low : base_place list address p ≤ stop = omega (arith, base, front, whole) in
    let names = all_append (λ n. n ≤ stop) (if length u.types == 0 then [] else types.base ∷ []) (map (λ (l : ℕ × List ℕ). list_end part types l.0) u.lists) (some_base types.base stop u.types base_low)
    (more_room (base_place list address p + length (lists_bytes list.lists)) stop (map (λ (l : ℕ × List ℕ). list_end part types l.0) u.lists) (omega (arith, base, front, whole)) lists) in
    let reads = head_read list address part region p rest laid (omega (arith, short, whole, first, own)) (omega (arith, short, whole, first, parts)) in
    subst (λ x. EndsPlain part x u stop) (head_same own_head h (sym reads ∙ head))
    (table_by part own_head u stop (omega (arith, less)) (more_room last stop (action_ends part own_head) less actions) names, inl refl)

plain_end : (list : ListedTable) (address : ℕ) (part : Part) (region : Region64) (p : ℕ) (rest : List ℕ) (h : Head) (u : Table) → NumbersFit list → CanPack list address →
    length (plain_bytes list) < 2 ^ 63 → drop p part.bytes ≡ plain_bytes list ++ rest → head_at part region p ≡ Ok h → EndsPlain part h u (p + length (plain_bytes list))
plain_end list address part region p rest h u numbers can short here head =
    let e = p + 1 + 1 in
    let at_body = next_stands part.bytes (p + 1) (255 ∷ []) (body_bytes list ++ rest) (next_stands part.bytes p (255 ∷ []) (255 ∷ (body_bytes list ++ rest)) here) in
    let body = body_is list part.bytes e rest at_body in
    let parts = body_length list in
    let records : length (records_in list) < 2 ^ 63 = omega (arith, short, parts) in
    let own_head = head_with list region None e in
    let stop = p + length (plain_bytes list) in
    let last = actions_place list e + length (records_in list) in
    let less : last ≤ stop = omega (arith, parts) in
    let sites = sites_are list part region None e rest body numbers.sites can.order can.sites records in
    let actions : AllByRecursion (λ n. n ≤ last) (action_ends part own_head) =
    subst (λ (x : SiteRecords). AllByRecursion (λ n. n ≤ last) (flat_map (λ (r : SiteRecord). if r.action == 0 then [] else chain_ends part own_head r.action) x.records)) (sym sites.records)
    (sites_end list part own_head last sites.first list.sites can.sites
    (site_end list part region None e rest body can.chains numbers.chains records
    (omega (arith, parts, ends part.bytes e (body_bytes list) rest (omega (arith, parts)) at_body)))) in
    let reads = plain_head list part region p rest here (omega (arith, short, parts)) in
    subst (λ x. EndsPlain part x u stop) (head_same own_head h (sym reads ∙ head))
    (table_by part own_head u stop (omega (arith, less)) (more_room last stop (action_ends part own_head) less actions) tt, inr refl)

pub packed_end : (list : ListedTable) (address : ℕ) (part : Part) (region : Region64) (p : ℕ) (rest : List ℕ) (h : Head) (u : Table) → NumbersFit list → CanPack list address →
    length (packed_bytes list address) < 2 ^ 63 → drop p part.bytes ≡ packed_bytes list address ++ rest → head_at part region p ≡ Ok h → AllByRecursion (λ l. 0 < l.0) u.lists →
    AllByRecursion (λ l. list_from list.lists (l.0 - 1) ≡ Some l.1) u.lists → EndsPlain part h u (p + length (packed_bytes list address))
packed_end list address part region p rest h u numbers can short here head some found = by_names (no_names list) refl
  where
    whole : packed_bytes list address ≡ (if no_names list then plain_bytes list else named_bytes list address)
    whole = by_kind list address

    by_names : (b : Bool) → no_names list ≡ b → EndsPlain part h u (p + length (packed_bytes list address))
    by_names true e =
        let is : packed_bytes list address ≡ plain_bytes list = whole ∙ ap (λ b. if b then plain_bytes list else named_bytes list address) e in
        subst (λ bytes. EndsPlain part h u (p + length bytes)) (sym is)
        (plain_end list address part region p rest h u numbers can (subst (λ bytes. length bytes < 2 ^ 63) is short) (here ∙ ap (λ bytes. bytes ++ rest) is) head)
    by_names false e =
        let is : packed_bytes list address ≡ named_bytes list address = whole ∙ ap (λ b. if b then plain_bytes list else named_bytes list address) e in
        subst (λ bytes. EndsPlain part h u (p + length bytes)) (sym is)
        (named_end list address part region p rest h u numbers can (subst (λ bytes. length bytes < 2 ^ 63) is short) (here ∙ ap (λ bytes. bytes ++ rest) is) head some found)
