-- The words that a table's entries name depend on its own bytes alone, and entries that are relative to themselves name none.
use Rattle.std.proofs.Common.{◌≡◌, ◌+◌, ◌-◌, ◌*◌, ℕ, ℤ, pos, negsuc, zero, suc, List, [], ◌∷◌, ◌++◌, drop, Result, Ok, Err, refl, ap, sym, subst, ◌∙◌, arith, if◌then◌else◌}
use Rattle.std.specs.Prelude.{⊤, Option, Some, None, flat_map}
use Rattle.std.specs.List.{AllByRecursion}
use Rattle.eh_bytes.specs.declared.encoded.Pointer.{Pointer}
use Rattle.eh_bytes.specs.declared.frames.Region64.{Region64}
use Rattle.eh_bytes.specs.Encoded.{encoded}
use Rattle.eh_bytes.specs.Field.{Reading, behind}
use Rattle.eh_bytes.specs.Memory.{Part, Memory}
use Rattle.table_forms.specs.Fault.{Fault, ◌>>=◌, least, refusal_of, table_reason, with_reason}
use Rattle.table_forms.specs.Keys.{keys}
use Rattle.table_forms.specs.Lsda.{Table, entries_named, lists_named, list_value, entry_value, table_faults, records_faults, table_of, lsda_in}
use Rattle.table_forms.specs.LsdaHead.{Head, Types, head_at, in_table}
use Rattle.table_forms.specs.LsdaSites.{site_records}
use Rattle.table_forms.specs.LsdaTypes.{entry_at, filter_faults, list_at}
use Rattle.table_forms.proofs.Alls.{all_more, all_members}
use Rattle.table_forms.proofs.Kept.{IsIn}
use Rattle.eh_write.proofs.Alls.{all_append, all_flat_map, all_keys, all_map}
use Rattle.lsda_pack.specs.SharedTables.{extent_at, word_of, words_of}
use Rattle.lsda_pack.specs.TableEnd.{table_end}
use Rattle.lsda_pack.proofs.FieldFrame.{front_encoded}
use Rattle.lsda_pack.proofs.FiltersRead.{filters_good}
use Rattle.lsda_pack.proofs.Fronts.{Same, same_inside}
use Rattle.lsda_pack.proofs.HeadFrame.{field_reads, head_reads, head_types, with_bytes}
use Rattle.lsda_pack.proofs.ListsRead.{first_names}
use Rattle.lsda_pack.proofs.LsdaFrame.{answer_ok, answered, both_none, faults_are, in_steps, none_refused, refusal_none}
use Rattle.lsda_pack.proofs.NamesFrame.{entry_elsewhere, entry_field, entry_lies, field_end}
use Rattle.lsda_pack.proofs.NamesStay.{AllAround, WordsKept, around, entry_kept, numbers, under}
use Rattle.lsda_pack.proofs.TableEnds.{ends_before}
use Rattle.lsda_pack.proofs.TableVerdict.{IsPositive}
use Rattle.lsda_pack.proofs.TypesWords.{IsPlain, TypesPlain, plain_direct}

-- ---- each entry that is named is read
abbrev EntryRead : Memory → Part → Head → Types → ℕ → Type 0
EntryRead memory part h types i = (v : ℕ) × (entry_at memory part h types 0 i ≡ Ok v)

abbrev FilterRead : Memory → Part → Head → Option Types → ℤ → Type 0
FilterRead memory part h None f = ⊤
FilterRead memory part h (Some types) f =
    AllByRecursion (EntryRead memory part h types) (entries_named f) × AllByRecursion (λ j. AllByRecursion (EntryRead memory part h types) (list_value part (Some types) j)) (lists_named f)

indices_read : (memory : Memory) (part : Part) (h : Head) (types : Types) (named_at : ℕ) (is : List ℕ) → flat_map (λ i. refusal_of (entry_at memory part h types named_at i)) is ≡ [] →
    AllByRecursion (EntryRead memory part h types) is
indices_read memory part h types named_at [] none = tt
indices_read memory part h types named_at (i ∷ is) none =
    let two = both_none (refusal_of (entry_at memory part h types named_at i)) (flat_map (λ k. refusal_of (entry_at memory part h types named_at k)) is) none in
    let v = refusal_none (entry_at memory part h types named_at i) two.0 in
    ((v.0, entry_elsewhere memory part h types named_at 0 i v.0 v.1), indices_read memory part h types named_at is two.1)

filter_read : (memory : Memory) (part : Part) (h : Head) (o : Option Types) (named_at : ℕ) (f : ℤ) → filter_faults memory part h o named_at f ≡ [] → FilterRead memory part h o f
filter_read memory part h None named_at f none = tt
filter_read memory part h (Some types) named_at (pos zero) none = (tt, tt)
filter_read memory part h (Some types) named_at (pos (suc i)) none =
    let v = refusal_none (entry_at memory part h types named_at (suc i)) none in
    (((v.0, entry_elsewhere memory part h types named_at 0 (suc i) v.0 v.1), tt), tt)
filter_read memory part h (Some types) named_at (negsuc n) none =
    let list = list_at part types n in
    let two = both_none (flat_map (λ i. refusal_of (entry_at memory part h types named_at i)) list.indices) list.cut none in
    let place : suc n - 1 ≡ n = omega arith in
    let value : list_value part (Some types) (suc n) ≡ list.indices = ap (λ m. (list_at part types m).indices) place in
    (tt, (subst (AllByRecursion (EntryRead memory part h types)) (sym value) (indices_read memory part h types named_at list.indices two.0), tt))

abbrev AllRead : Memory → Part → Head → Option Types → List ℕ → Type 0
AllRead memory part h None is = ⊤
AllRead memory part h (Some types) is = AllByRecursion (EntryRead memory part h types) is

entries_of : (memory : Memory) (part : Part) (h : Head) (o : Option Types) (fs : List ℤ) → AllByRecursion (FilterRead memory part h o) fs →
    AllRead memory part h o (keys (flat_map entries_named fs ++ flat_map (λ (l : ℕ × List ℕ). l.1) (under (list_value part o) (keys (flat_map lists_named fs)))))
entries_of memory part h None fs all = tt
entries_of memory part h (Some types) fs all =
    let E = EntryRead memory part h types in
    let L = list_value part (Some types) in
    let js = flat_map lists_named fs in
    let own = all_flat_map E entries_named fs (all_more (FilterRead memory part h (Some types)) (λ f. AllByRecursion E (entries_named f)) (λ f r. r.0) fs all) in
    let named = all_flat_map (λ j. AllByRecursion E (L j)) lists_named fs
    (all_more (FilterRead memory part h (Some types)) (λ f. AllByRecursion (λ j. AllByRecursion E (L j)) (lists_named f)) (λ f r. r.1) fs all) in
    let others = all_flat_map E (λ (l : ℕ × List ℕ). l.1) (under L (keys js)) (all_map (λ (l : ℕ × List ℕ). AllByRecursion E l.1) (λ j. (j, L j)) (keys js) (all_keys (λ j. AllByRecursion E (L j)) js named)) in
    all_keys E (flat_map entries_named fs ++ flat_map (λ (l : ℕ × List ℕ). l.1) (under L (keys js)))
    (all_append E (flat_map entries_named fs) (flat_map (λ (l : ℕ × List ℕ). l.1) (under L (keys js))) own others)

made_read : (memory : Memory) (part : Part) (region : Region64) (h : Head) → records_faults memory part region h 0 (site_records part h).records ≡ [] →
    AllRead memory part h h.types (numbers (table_of memory part region h).types)
unfolding table_of
made_read memory part region h none =
    let fs = flat_map (λ (e : ℕ × List ℤ). e.1) (table_of memory part region h).actions in
    let is = keys (flat_map entries_named fs ++ flat_map (λ (l : ℕ × List ℕ). l.1) (under (list_value part h.types) (keys (flat_map lists_named fs)))) in
    let all = filters_good memory part region h (FilterRead memory part h h.types) (λ at f clean. filter_read memory part h h.types at f clean) none in
    subst (AllRead memory part h h.types) (sym (first_names (entry_value memory part h h.types) is)) (entries_of memory part h h.types fs all)

-- ---- and its field is the same where the table's bytes are
abbrev pub FieldsSame : Part → List ℕ → Option Types → List ℕ → Type 0
FieldsSame part ys None is = ⊤
FieldsSame part ys (Some types) is = AllByRecursion (λ i. entry_field (with_bytes part ys) types i ≡ entry_field part types i) is

fields_by : (memory other : Memory) (part : Part) (ys : List ℕ) (h : Head) (o : Option Types) (p stop : ℕ) (entries lists : List ℕ) (is : List ℕ) →
    AllAround memory other part ys h o p stop entries lists → AllRead memory part h o is → AllByRecursion (λ i. IsIn i entries) is → AllByRecursion IsPositive is → FieldsSame part ys o is
fields_by memory other part ys h None p stop entries lists is all read within some = tt
fields_by memory other part ys h (Some types) p stop entries lists [] all read within some = tt
fields_by memory other part ys h (Some types) p stop entries lists (i ∷ is) all read within some =
    let place = types.base - i * types.size in
    let kept = entry_kept memory other part ys h types p stop entries lists 0 i read.0.0 all some.0 within.0 read.0.1 in
    let lies = entry_lies memory part h types 0 i read.0.0 read.0.1 in
    let r = field_reads (encoded types.encoding (part.address + place)) (front_encoded types.encoding (part.address + place)) part place lies.0 lies.1 in
    let ends : field_end place (entry_field part types i) ≡ lies.0.1 = ap (field_end place) lies.1 in (
      r.same ys (same_inside place (field_end place (entry_field part types i)) place lies.0.1 part.bytes ys (omega arith) (omega (arith, ends)) kept.0) ∙ sym lies.1,
      fields_by memory other part ys h (Some types) p stop entries lists is all read.1 within.1 some.1,
    )

pub fields_same : (memory other : Memory) (part : Part) (ys : List ℕ) (region : Region64) (p : ℕ) (h : Head) (t : Table) → head_at part region p ≡ Ok h →
    lsda_in memory region p part ≡ Ok t → Same p (table_end part h t) part.bytes ys → WordsKept memory other part h.types t → AllByRecursion IsPositive (numbers t.types) →
    FieldsSame part ys h.types (numbers t.types)
fields_same memory other part ys region p h t head read same words some =
    let r = head_reads part region p h head in
    let order = r.order in
    let forward = r.forward in
    let given = answer_ok (least (table_faults memory part region h)) (table_of memory part region h) t
    (sym (ap (λ x. x >>= answered memory region part) head) ∙ sym (in_steps memory region p part) ∙ read) in
    let S = site_records part h in
    let none = both_none (records_faults memory part region h 0 S.records) S.cut (sym (faults_are memory part region h) ∙ none_refused (table_faults memory part region h) given.0) in
    let all = around memory other part ys h h.types p (table_end part h t) t (head_types part region p h head) same (omega (arith, order, forward)) (ends_before part h t).names words in
    let entries = subst (λ x. AllRead memory part h h.types (numbers x.types)) given.1 (made_read memory part region h none.0) in
    fields_by memory other part ys h h.types p (table_end part h t) (numbers t.types) (numbers t.lists) (numbers t.types) all entries (all_members (numbers t.types)) some

-- ---- so the words are the same
word_same : (memory other : Memory) → ((v end : ℕ) → extent_at other v end ≡ extent_at memory v end) → (r : Result (Pointer × ℕ) Fault) → word_of other r ≡ word_of memory r
word_same memory other same (Err f) = refl
word_same memory other same (Ok (pointer, next)) = ap (λ xs. if pointer.indirect then xs else []) (same pointer.value (pointer.value + 8))

pub words_same : (memory other : Memory) (part : Part) (ys : List ℕ) (o : Option Types) (es : List (ℕ × ℕ)) → ((v end : ℕ) → extent_at other v end ≡ extent_at memory v end) →
    FieldsSame part ys o (numbers es) → words_of other (with_bytes part ys) o es ≡ words_of memory part o es
words_same memory other part ys None es same fields = refl
words_same memory other part ys (Some types) [] same fields = refl
words_same memory other part ys (Some types) (e ∷ es) same fields =
    ap (λ r. word_of other r ++ words_of other (with_bytes part ys) (Some types) es) fields.0 ∙
    ap (λ xs. xs ++ words_of other (with_bytes part ys) (Some types) es) (word_same memory other same (entry_field part types e.0)) ∙
    ap (λ xs. word_of memory (entry_field part types e.0) ++ xs) (words_same memory other part ys (Some types) es same fields.1)

-- ---- without words
plain_word : (memory : Memory) (part : Part) (e a p : ℕ) → IsPlain e → word_of memory (in_table (encoded e a) part p) ≡ []
plain_word memory part e a p plain = by (encoded e a (drop p part.bytes)) refl
  where
    by : (r : Reading Pointer) → encoded e a (drop p part.bytes) ≡ r → word_of memory (with_reason table_reason (part.file_at + p) (behind p r)) ≡ []
    by (Err cause) is = refl
    by (Ok (pointer, n)) is =
        let direct = plain_direct e a (drop p part.bytes) pointer n plain is in ap (λ b. if b then extent_at memory pointer.value (pointer.value + 8) else []) direct.0

pub no_words : (memory : Memory) (part : Part) (o : Option Types) (es : List (ℕ × ℕ)) → TypesPlain o → words_of memory part o es ≡ []
no_words memory part None es plain = refl
no_words memory part (Some types) [] plain = refl
no_words memory part (Some types) (e ∷ es) plain =
    ap (λ xs. xs ++ words_of memory part (Some types) es)
    (plain_word memory part types.encoding (part.address + (types.base - e.0 * types.size)) (types.base - e.0 * types.size) plain) ∙ no_words memory part (Some types) es plain
