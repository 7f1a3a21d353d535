-- A table that is read stays as it is where its own bytes stay, and the words that its entries name.
use Rattle.std.proofs.Common.{◌≡◌, ◌≢◌, ◌+◌, ◌-◌, ◌*◌, ◌==◌, ◌<◌, ◌≤◌, ℕ, ℤ, pos, negsuc, zero, suc, Bool, true, false, List, [], ◌∷◌, ◌++◌, length, map, Ok, refl, ap, sym, subst, ◌∙◌, arith, inl, inr}
use Rattle.std.specs.Prelude.{Option, Some, None, ⊤, flat_map, filter, not, if◌then◌else◌}
use Rattle.std.specs.List.{AllByRecursion}
use Rattle.std.proofs.lemmas.Bool.Decides.{nat_tests}
use Rattle.eh_bytes.specs.declared.frames.Region64.{Region64}
use Rattle.eh_bytes.specs.Encoded.{encoding_format, format_size, encoded}
use Rattle.eh_bytes.specs.Field.{at}
use Rattle.eh_bytes.specs.Memory.{Part, Memory, is_code}
use Rattle.table_forms.specs.Fault.{◌>>=◌, table_reason, refusal_of, least}
use Rattle.table_forms.specs.Keys.{keys}
use Rattle.table_forms.specs.LsdaHead.{Head, Types, head_at}
use Rattle.table_forms.specs.LsdaSites.{SiteRecord, site_of, site_records, site_faults}
use Rattle.table_forms.specs.LsdaChain.{Link, Chain, chain_of, ending_faults}
use Rattle.table_forms.specs.LsdaTypes.{entry_at, list_at, filter_faults}
use Rattle.table_forms.specs.Lsda.{Table, chain_faults, action_faults, records_faults, table_faults, filters_of, entries_named, lists_named, entry_value, list_value, table_of, lsda_in}
use Rattle.table_forms.proofs.Alls.{all_more, all_members}
use Rattle.table_forms.proofs.Kept.{IsIn, in_keys}
use Rattle.personality.proofs.Members.{in_left, in_right, all_front, all_back}
use Rattle.lsda_pack.specs.TableEnd.{list_end_within, list_end, name_ends, table_end}
use Rattle.lsda_pack.proofs.Fronts.{Same, same_inside}
use Rattle.lsda_pack.proofs.FieldFrame.{sized_at}
use Rattle.lsda_pack.proofs.HeadFrame.{with_bytes, reason_ok, TypesFound, head_types, head_reads}
use Rattle.lsda_pack.proofs.NamesFrame.{SameWord, entry_field, field_end, entry_lies}
use Rattle.lsda_pack.proofs.LsdaFrame.{EntryKept, FilterKept, TableKept, none_refused, both_none, refusal_none, answer_ok, answered, faults_are, in_steps, table_in_same}
use Rattle.lsda_pack.proofs.TableEnds.{ends_before}
use Rattle.lsda_pack.proofs.TableStays.{NamesKept, table_kept}
use Rattle.lsda_pack.proofs.TableVerdict.{IsPositive, positive_list}
use Rattle.lsda_pack.proofs.ListsRead.{first_names, in_filter}

-- what a filter names, among the entries and the lists of a table
abbrev pub NamedIn : Part → Option Types → List ℕ → List ℕ → ℤ → Type 0
NamedIn part types entries lists (pos zero) = ⊤
NamedIn part types entries lists (pos (suc i)) = IsIn (suc i) entries
NamedIn part types entries lists (negsuc n) = IsIn (suc n) lists × AllByRecursion (λ i. IsIn i entries) (list_value part types (suc n))

all_named : (part : Part) (types : Option Types) (entries lists : List ℕ) (fs : List ℤ) → ((i : ℕ) → IsIn i (flat_map entries_named fs) → IsIn i entries) →
    ((j : ℕ) → IsIn j (flat_map lists_named fs) → IsIn j lists) → ((j : ℕ) → IsIn j lists → AllByRecursion (λ i. IsIn i entries) (list_value part types j)) →
    AllByRecursion (NamedIn part types entries lists) fs
all_named part types entries lists [] of_entries of_lists within = tt
all_named part types entries lists (pos zero ∷ fs) of_entries of_lists within = (tt, all_named part types entries lists fs of_entries of_lists within)
all_named part types entries lists (pos (suc i) ∷ fs) of_entries of_lists within =
    (of_entries (suc i) (inl refl), all_named part types entries lists fs (λ k is. of_entries k (inr is)) of_lists within)
all_named part types entries lists (negsuc n ∷ fs) of_entries of_lists within =
    let here = of_lists (suc n) (inl refl) in
    ((here, within (suc n) here), all_named part types entries lists fs of_entries (λ k is. of_lists k (inr is)) within)

-- the values under numbers
abbrev pub under : {A : Type 0} → (ℕ → A) → List ℕ → List (ℕ × A)
under f ns = map (λ n. (n, f n)) ns

in_values : (f : ℕ → List ℕ) (ns : List ℕ) (n i : ℕ) → IsIn n ns → IsIn i (f n) → IsIn i (flat_map (λ (e : ℕ × List ℕ). e.1) (under f ns))
in_values f [] n i is at = absurd is
in_values f (m ∷ ms) n i (inl e) at = in_left i (f m) (flat_map (λ (e : ℕ × List ℕ). e.1) (under f ms)) (subst (λ k. IsIn i (f k)) (sym e) at)
in_values f (m ∷ ms) n i (inr is) at = in_right i (f m) (flat_map (λ (e : ℕ × List ℕ). e.1) (under f ms)) (in_values f ms n i is at)

-- what holds of all values holds of those under one number
all_under : (P : ℤ → Type 0) (f : ℕ → List ℤ) (ns : List ℕ) (n : ℕ) → IsIn n ns → AllByRecursion P (flat_map (λ (e : ℕ × List ℤ). e.1) (under f ns)) → AllByRecursion P (f n)
all_under P f [] n is all = absurd is
all_under P f (m ∷ ms) n (inl e) all = subst (λ k. AllByRecursion P (f k)) e (all_front P (f m) (flat_map (λ (e : ℕ × List ℤ). e.1) (under f ms)) all)
all_under P f (m ∷ ms) n (inr is) all = all_under P f ms n is (all_back P (f m) (flat_map (λ (e : ℕ × List ℤ). e.1) (under f ms)) all)

all_of_members : (P : ℕ → Type 0) (ns : List ℕ) → ((n : ℕ) → IsIn n ns → P n) → AllByRecursion P ns
all_of_members P ns each = all_more (λ n. IsIn n ns) P each ns (all_members ns)

-- the filters of the records of a table name entries and lists that it has
abbrev RecordNamed : Part → Option Types → Head → List ℕ → List ℕ → SiteRecord → Type 0
RecordNamed part types h entries lists r = r.action ≢ 0 → AllByRecursion (NamedIn part types entries lists) (filters_of part h r.action)

records_named : (part : Part) (types : Option Types) (region : Region64) (h : Head) (entries lists : List ℕ) (rs : List SiteRecord) →
    ((a : ℕ) → IsIn a (map (λ s. s.action) (map (site_of h region) rs)) → a ≢ 0 → AllByRecursion (NamedIn part types entries lists) (filters_of part h a)) →
    AllByRecursion (RecordNamed part types h entries lists) rs
records_named part types region h entries lists [] each = tt
records_named part types region h entries lists (r ∷ rs) each =
    ((λ some. each r.action (inl refl) some), records_named part types region h entries lists rs (λ a is some. each a (inr is) some))

abbrev pub numbers : {A : Type 0} → List (ℕ × A) → List ℕ
numbers es = map (λ e. e.0) es

-- the filters under some actions, the lists that these name, and the entries that both name
abbrev filters_in : (ℕ → List ℤ) → List ℕ → List ℤ
filters_in filters actions = flat_map (λ (e : ℕ × List ℤ). e.1) (under filters actions)

abbrev lists_in : (ℕ → List ℤ) → List ℕ → List ℕ
lists_in filters actions = keys (flat_map lists_named (filters_in filters actions))

abbrev entries_in : Part → Option Types → (ℕ → List ℤ) → List ℕ → List ℕ
entries_in part types filters actions =
    keys (flat_map entries_named (filters_in filters actions) ++ flat_map (λ (e : ℕ × List ℕ). e.1) (under (list_value part types) (lists_in filters actions)))

filters_are_named : (part : Part) (types : Option Types) (filters : ℕ → List ℤ) (actions : List ℕ) →
    AllByRecursion (NamedIn part types (entries_in part types filters actions) (lists_in filters actions)) (filters_in filters actions)
filters_are_named part types filters actions =
    let fs = filters_in filters actions in
    let js = lists_in filters actions in
    let own = flat_map entries_named fs in
    let others = flat_map (λ (e : ℕ × List ℕ). e.1) (under (list_value part types) js) in
    let is = keys (own ++ others) in
    all_named part types is js fs (λ i at. in_keys i (own ++ others) (in_left i own others at)) (λ j at. in_keys j (flat_map lists_named fs) at)
    (λ j at. all_of_members (λ i. IsIn i is) (list_value part types j)
    (λ i here. in_keys i (own ++ others) (in_right i own others (in_values (list_value part types) js j i at here))))

pub made_all : (memory : Memory) (part : Part) (region : Region64) (h : Head) →
    AllByRecursion (NamedIn part h.types (numbers (table_of memory part region h).types) (numbers (table_of memory part region h).lists))
    (flat_map (λ (e : ℕ × List ℤ). e.1) (table_of memory part region h).actions)
unfolding table_of
made_all memory part region h =
    let named = map (λ s. s.action) (map (site_of h region) (site_records part h).records) in
    let actions = keys (filter (λ a. not (a == 0)) named) in
    let F = filters_of part h in
    let js = lists_in F actions in
    let is = entries_in part h.types F actions in
    let P : List ℕ → List ℕ → Type 0 = λ entries lists. AllByRecursion (NamedIn part h.types entries lists) (filters_in F actions) in
    subst (λ ns. P ns (numbers (under (list_value part h.types) js))) (sym (first_names (entry_value memory part h h.types) is))
    (subst (λ ns. P is ns) (sym (first_names (list_value part h.types) js)) (filters_are_named part h.types F actions))

made_named : (memory : Memory) (part : Part) (region : Region64) (h : Head) →
    AllByRecursion (RecordNamed part h.types h (numbers (table_of memory part region h).types) (numbers (table_of memory part region h).lists)) (site_records part h).records
unfolding table_of
made_named memory part region h =
    let rs = (site_records part h).records in
    let named = map (λ s. s.action) (map (site_of h region) rs) in
    let some = filter (λ a. not (a == 0)) named in
    let T = table_of memory part region h in
    records_named part h.types region h (numbers T.types) (numbers T.lists) rs
    (λ a at other. all_under (NamedIn part h.types (numbers T.types) (numbers T.lists)) (filters_of part h) (keys some) a (in_keys a some (in_filter a named (zero_not a other) at))
    (made_all memory part region h))
  where
    zero_not : (a : ℕ) → a ≢ 0 → (a == 0) ≡ false
    zero_not a other = grind (arith, nat_tests, other)

-- a table from a place up to a stop, where all that it names stays
pub record Around (memory other : Memory) (part : Part) (ys : List ℕ) (h : Head) (types : Types) (p stop : ℕ) (entries lists : List ℕ) : Type 0 where
  pub sized : format_size (encoding_format types.encoding) ≡ Some types.size
  pub behind : p ≤ types.base
  pub same : Same p stop part.bytes ys
  pub from : p ≤ h.actions_at
  pub base : (i : ℕ) → IsIn i entries → types.base ≤ stop
  pub ends : (j : ℕ) → IsIn j lists → list_end part types j ≤ stop
  pub words : (i : ℕ) → IsIn i entries → SameWord memory other (entry_field part types i)

one_less : (i n : ℕ) → 0 < i → n ≤ i * n
one_less zero n some = absurd (omega (arith, some))
one_less (suc i) n some = omega arith

between : (p first m base stop size end : ℕ) → p ≤ first → first + m ≤ base → size ≤ m → base ≤ stop → end ≡ base - m + size → (p ≤ base - m) × (end ≤ stop)
between p first m base stop size end from room less last is = (omega (arith, from, room), omega (arith, room, less, last, is))

pub entry_kept : (memory other : Memory) (part : Part) (ys : List ℕ) (h : Head) (types : Types) (p stop : ℕ) (entries lists : List ℕ) (named_at i v : ℕ) →
    Around memory other part ys h types p stop entries lists → 0 < i → IsIn i entries → entry_at memory part h types named_at i ≡ Ok v → EntryKept memory other part ys types i
entry_kept memory other part ys h types p stop entries lists named_at i v all some at' read =
    let lies = entry_lies memory part h types named_at i v read in
    let place = types.base - i * types.size in
    let address = part.address + place in
    let size = sized_at types.encoding address types.size all.sized part.bytes place lies.0.0 lies.0.1
    (reason_ok table_reason (part.file_at + place) (at (encoded types.encoding address) part.bytes place) lies.0 lies.1) in
    let ends : field_end place (entry_field part types i) ≡ lies.0.1 = ap (field_end place) lies.1 in
    let inside = between p h.actions_at (i * types.size) types.base stop types.size (field_end place (entry_field part types i)) all.from lies.2 (one_less i types.size some) (all.base i at') (ends ∙ size) in
    (same_inside p stop place (field_end place (entry_field part types i)) part.bytes ys inside.0 inside.1 all.same, all.words i at')

entries_kept : (memory other : Memory) (part : Part) (ys : List ℕ) (h : Head) (types : Types) (p stop : ℕ) (entries lists : List ℕ) (named_at : ℕ) (is : List ℕ) →
    Around memory other part ys h types p stop entries lists → AllByRecursion IsPositive is → AllByRecursion (λ i. IsIn i entries) is →
    flat_map (λ i. refusal_of (entry_at memory part h types named_at i)) is ≡ [] → AllByRecursion (EntryKept memory other part ys types) is
entries_kept memory other part ys h types p stop entries lists named_at [] all some at' none = tt
entries_kept memory other part ys h types p stop entries lists named_at (i ∷ is) all some at' none =
    let two = both_none (refusal_of (entry_at memory part h types named_at i)) (flat_map (λ k. refusal_of (entry_at memory part h types named_at k)) is) none in
    let v = refusal_none (entry_at memory part h types named_at i) two.0 in (
      entry_kept memory other part ys h types p stop entries lists named_at i v.0 all some.0 at'.0 v.1,
      entries_kept memory other part ys h types p stop entries lists named_at is all some.1 at'.1 two.1,
    )

filter_kept : (memory other : Memory) (part : Part) (ys : List ℕ) (h : Head) (types : Types) (p stop : ℕ) (entries lists : List ℕ) (named_at : ℕ) (f : ℤ) →
    Around memory other part ys h types p stop entries lists → NamedIn part (Some types) entries lists f → filter_faults memory part h (Some types) named_at f ≡ [] →
    FilterKept memory other part ys (Some types) f
filter_kept memory other part ys h types p stop entries lists named_at (pos zero) all named none = tt
filter_kept memory other part ys h types p stop entries lists named_at (pos (suc i)) all named none =
    let v = refusal_none (entry_at memory part h types named_at (suc i)) none in
    entry_kept memory other part ys h types p stop entries lists named_at (suc i) v.0 all (omega arith) named v.1
filter_kept memory other part ys h types p stop entries lists named_at (negsuc n) all named none =
    let list = list_at part types n in
    let two = both_none (flat_map (λ i. refusal_of (entry_at memory part h types named_at i)) list.indices) list.cut none in
    let place : suc n - 1 ≡ n = omega arith in
    let first : types.base + suc n - 1 ≡ types.base + n = omega arith in
    let value : list_value part (Some types) (suc n) ≡ list.indices = ap (λ m. (list_at part types m).indices) place in
    let end : list_end part types (suc n) ≡ list_end_within (1 + length part.bytes) part (types.base + n) (types.base + n) =
    ap (λ q. list_end_within (1 + length part.bytes) part q q) first in
    let before = all.ends (suc n) named.0 in
    let from = all.behind in (
      same_inside p stop (types.base + n) (list_end_within (1 + length part.bytes) part (types.base + n) (types.base + n)) part.bytes ys (omega (arith, from)) (omega (arith, before, end)) all.same,
      entries_kept memory other part ys h types p stop entries lists named_at list.indices all
          (subst (AllByRecursion IsPositive) value (positive_list part (Some types) (suc n))) (subst (AllByRecursion (λ i. IsIn i entries)) value named.1) two.0,
    )

links_kept : (memory other : Memory) (part : Part) (ys : List ℕ) (h : Head) (types : Types) (p stop : ℕ) (entries lists : List ℕ) (ls : List Link) →
    Around memory other part ys h types p stop entries lists → AllByRecursion (NamedIn part (Some types) entries lists) (map (λ l. l.filter) ls) →
    flat_map (λ l. filter_faults memory part h (Some types) l.at l.filter) ls ≡ [] → AllByRecursion (λ l. FilterKept memory other part ys (Some types) l.filter) ls
links_kept memory other part ys h types p stop entries lists [] all named none = tt
links_kept memory other part ys h types p stop entries lists (l ∷ ls) all named none =
    let two = both_none (filter_faults memory part h (Some types) l.at l.filter) (flat_map (λ k. filter_faults memory part h (Some types) k.at k.filter) ls) none in (
      filter_kept memory other part ys h types p stop entries lists l.at l.filter all named.0 two.0,
      links_kept memory other part ys h types p stop entries lists ls all named.1 two.1,
    )

-- with a base, or without one
abbrev pub AllAround : Memory → Memory → Part → List ℕ → Head → Option Types → ℕ → ℕ → List ℕ → List ℕ → Type 0
AllAround memory other part ys h None p stop entries lists = ⊤
AllAround memory other part ys h (Some types) p stop entries lists = Around memory other part ys h types p stop entries lists

any_kept : (memory other : Memory) (part : Part) (ys : List ℕ) (h : Head) (types : Option Types) (p stop : ℕ) (entries lists : List ℕ) (ls : List Link) →
    AllAround memory other part ys h types p stop entries lists → AllByRecursion (NamedIn part types entries lists) (map (λ l. l.filter) ls) →
    flat_map (λ l. filter_faults memory part h types l.at l.filter) ls ≡ [] → AllByRecursion (λ l. FilterKept memory other part ys types l.filter) ls
any_kept memory other part ys h None p stop entries lists [] all named none = tt
any_kept memory other part ys h None p stop entries lists (l ∷ ls) all named none =
    (tt, any_kept memory other part ys h None p stop entries lists ls all named.1 (both_none (filter_faults memory part h None l.at l.filter) (flat_map (λ k. filter_faults memory part h None k.at k.filter) ls) none).1)
any_kept memory other part ys h (Some types) p stop entries lists ls all named none = links_kept memory other part ys h types p stop entries lists ls all named none

record_kept : (memory other : Memory) (part : Part) (ys : List ℕ) (h : Head) (p stop : ℕ) (entries lists : List ℕ) (r : SiteRecord) → AllAround memory other part ys h h.types p stop entries lists →
    RecordNamed part h.types h entries lists r → action_faults memory part h r ≡ [] → NamesKept memory other part ys h r
record_kept memory other part ys h p stop entries lists r all named none some = step (r.action == 0) refl none
  where
    C : Chain
    C = chain_of part h r.action

    step : (b : Bool) → (r.action == 0) ≡ b → (if b then [] else chain_faults memory part h r C) ≡ [] → AllByRecursion (λ l. FilterKept memory other part ys h.types l.filter) C.links
    step true is e = let zero_is : r.action ≡ 0 = grind (arith, nat_tests, is) in absurd (some zero_is)
    step false is e =
        any_kept memory other part ys h h.types p stop entries lists C.links all (named some)
        (both_none (flat_map (λ l. filter_faults memory part h h.types l.at l.filter) C.links) (ending_faults part h r.at r.action C.ending) e).0

records_kept : (memory other : Memory) (part : Part) (ys : List ℕ) (region : Region64) (h : Head) (p stop : ℕ) (entries lists : List ℕ) (before : ℕ) (rs : List SiteRecord) →
    AllAround memory other part ys h h.types p stop entries lists → AllByRecursion (RecordNamed part h.types h entries lists) rs → records_faults memory part region h before rs ≡ [] →
    AllByRecursion (NamesKept memory other part ys h) rs
records_kept memory other part ys region h p stop entries lists before [] all named none = tt
records_kept memory other part ys region h p stop entries lists before (r ∷ rs) all named none =
    let s = site_of h region r in
    let A = site_faults memory (part.file_at + r.at) region before s in
    let B = action_faults memory part h r in
    let outer = both_none (A ++ B) (records_faults memory part region h s.end rs) none in (
      record_kept memory other part ys h p stop entries lists r all named.0 (both_none A B outer.0).1,
      records_kept memory other part ys region h p stop entries lists s.end rs all named.1 outer.1,
    )

-- the words that a table's entries name are the same
abbrev pub WordsKept : Memory → Memory → Part → Option Types → Table → Type 0
WordsKept memory other part None t = ⊤
WordsKept memory other part (Some types) t = (i : ℕ) → IsIn i (map (λ e. e.0) t.types) → SameWord memory other (entry_field part types i)

list_ends : (part : Part) (types : Types) (stop : ℕ) (ls : List (ℕ × List ℕ)) → AllByRecursion (λ n. n ≤ stop) (map (λ l. list_end part types l.0) ls) →
    (j : ℕ) → IsIn j (numbers ls) → list_end part types j ≤ stop
list_ends part types stop [] all j is = absurd is
list_ends part types stop (l ∷ ls) all j (inl e) = subst (λ k. list_end part types k ≤ stop) e all.0
list_ends part types stop (l ∷ ls) all j (inr is) = list_ends part types stop ls all.1 j is

base_ends : (part : Part) (types : Types) (stop : ℕ) (es : List (ℕ × ℕ)) (more : List ℕ) → AllByRecursion (λ n. n ≤ stop) ((if length es == 0 then [] else types.base ∷ []) ++ more) →
    (i : ℕ) → IsIn i (numbers es) → types.base ≤ stop
base_ends part types stop [] more all i is = absurd is
base_ends part types stop (e ∷ es) more all i is = step (length (e ∷ es) == 0) refl all
  where
    step : (b : Bool) → (length (e ∷ es) == 0) ≡ b → AllByRecursion (λ n. n ≤ stop) ((if b then [] else types.base ∷ []) ++ more) → types.base ≤ stop
    step true none a = absurd (grind (arith, nat_tests, none))
    step false some a = a.0

pub around : (memory other : Memory) (part : Part) (ys : List ℕ) (h : Head) (types : Option Types) (p stop : ℕ) (t : Table) → TypesFound p types → Same p stop part.bytes ys →
    p ≤ h.actions_at → AllByRecursion (λ n. n ≤ stop) (name_ends part types t) → WordsKept memory other part types t →
    AllAround memory other part ys h types p stop (numbers t.types) (numbers t.lists)
around memory other part ys h None p stop t found same from ends words = tt
around memory other part ys h (Some types) p stop t found same from ends words =
    let own : List ℕ = if length t.types == 0 then [] else types.base ∷ [] in
    let others = map (λ l. list_end part types l.0) t.lists in
    record {
      sized = found.0;
      behind = found.1;
      same = same;
      from = from;
      base = base_ends part types stop t.types others ends;
      ends = list_ends part types stop t.lists (all_back (λ n. n ≤ stop) own others ends);
      words = words;
    }

pub table_keeps : (memory other : Memory) (part : Part) (ys : List ℕ) (region : Region64) (p : ℕ) (h : Head) (t : Table) → head_at part region p ≡ Ok h →
    lsda_in memory region p part ≡ Ok t → length ys ≡ length part.bytes → ((a : ℕ) → is_code other a ≡ is_code memory a) → Same p (table_end part h t) part.bytes ys →
    WordsKept memory other part h.types t → TableKept memory other part ys p h
table_keeps memory other part ys region p h t head read long code same words =
    let r = head_reads part region p h head in
    let order = r.order in
    let forward = r.forward in
    let stop = table_end part h t in
    let given = answer_ok (least (table_faults memory part region h)) (table_of memory part region h) t
    (sym (ap (λ x. x >>= answered memory region part) head) ∙ sym (in_steps memory region p part) ∙ read) in
    let S = site_records part h in
    let none = both_none (records_faults memory part region h 0 S.records) S.cut (sym (faults_are memory part region h) ∙ none_refused (table_faults memory part region h) given.0) in
    let named = subst (λ x. AllByRecursion (RecordNamed part h.types h (numbers x.types) (numbers x.lists)) S.records) given.1 (made_named memory part region h) in
    let all = around memory other part ys h h.types p stop t (head_types part region p h head) same (omega (arith, order, forward)) (ends_before part h t).names words in
    table_kept memory other part ys region p h t head read long code same
    (records_kept memory other part ys region h p stop (numbers t.types) (numbers t.lists) 0 S.records all named none.0)

pub table_stays : (memory other : Memory) (part : Part) (ys : List ℕ) (region : Region64) (p : ℕ) (h : Head) (t : Table) → head_at part region p ≡ Ok h →
    lsda_in memory region p part ≡ Ok t → length ys ≡ length part.bytes → ((a : ℕ) → is_code other a ≡ is_code memory a) → Same p (table_end part h t) part.bytes ys →
    WordsKept memory other part h.types t → lsda_in other region p (with_bytes part ys) ≡ Ok t
table_stays memory other part ys region p h t head read long code same words =
    table_in_same memory other part ys region p h t head (table_keeps memory other part ys region p h t head read long code same words) read
