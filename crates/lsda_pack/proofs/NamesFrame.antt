-- Type entries and lists depend only on their own bytes, and on the words that entries name.
use Rattle.std.proofs.Common.{◌≡◌, ◌+◌, ◌-◌, ◌*◌, ◌≤◌, ℕ, zero, suc, Bool, true, false, nat_le, List, [], Result, Ok, Err, refl, ap, sym, subst, ◌∙◌, arith}
use Rattle.std.specs.Prelude.{⊤}
use Rattle.std.proofs.lemmas.Bool.Decides.{nat_tests}
use Rattle.eh_bytes.specs.declared.error.ByteError.{ByteError}
use Rattle.eh_bytes.specs.declared.encoded.Pointer.{Pointer}
use Rattle.eh_bytes.specs.Field.{at}
use Rattle.eh_bytes.specs.Leb128.{uleb}
use Rattle.eh_bytes.specs.Encoded.{encoded}
use Rattle.eh_bytes.specs.Memory.{Part, Memory, word_at}
use Rattle.table_forms.specs.declared.reason.Reason.TheVariants.{FilterOutside}
use Rattle.table_forms.specs.Fault.{Fault, ◌>>=◌, demand}
use Rattle.table_forms.specs.LsdaHead.{Head, Types, in_table}
use Rattle.table_forms.specs.LsdaTypes.{stored, followed, entry_at, and_indices, cut_by, index_at, indices_from, indices_within}
use Rattle.lsda_pack.specs.TableEnd.{end_from, list_end_within}
use Rattle.lsda_pack.proofs.Fronts.{Same, same_inside}
use Rattle.lsda_pack.proofs.FieldFrame.{reads_at, front_uleb, front_encoded}
use Rattle.lsda_pack.proofs.HeadFrame.{with_bytes, bind_ok, demand_ok, field_reads}

-- the indices of a list, up to its 0
pub index_ok : (part : Part) (first p : ℕ) (r : Result (ℕ × ℕ) ByteError) (a : ℕ × ℕ) → cut_by part first p r ≡ Ok a → r ≡ Ok a
index_ok part first p (Ok x) a e = let same : x ≡ a = cc in ap Ok same
index_ok part first p (Err cause) a e = absurd cc

pub indices_same : (n : ℕ) (part : Part) (ys : List ℕ) (first p : ℕ) → (indices_within n part first p).cut ≡ [] → Same p (list_end_within n part first p) part.bytes ys →
    (p ≤ list_end_within n part first p) × (indices_within n (with_bytes part ys) first p ≡ indices_within n part first p)
unfolding indices_within list_end_within
indices_same zero part ys first p cut same = (omega arith, refl)
indices_same (suc n) part ys first p cut same = by_index (index_at part first p) refl cut same (λ q c s. indices_same n part ys first q c s)
  where
    other : Part
    other = with_bytes part ys

    Later : Type 0
    Later = (q : ℕ) → (indices_within n part first q).cut ≡ [] → Same q (list_end_within n part first q) part.bytes ys →
        (q ≤ list_end_within n part first q) × (indices_within n other first q ≡ indices_within n part first q)

    read : (k next : ℕ) → index_at part first p ≡ Ok (k, next) → (p ≤ next) × (Same p next part.bytes ys → index_at other first p ≡ Ok (k, next))
    read k next is =
        let r = reads_at uleb front_uleb part.bytes p k next (index_ok part first p (at uleb part.bytes p) (k, next) is) in
        (r.forward, (λ s. ap (cut_by other first p) (r.same ys s)))

    by_index : (r : Result (ℕ × ℕ) Fault) → index_at part first p ≡ r → (indices_from r (indices_within n part first)).cut ≡ [] →
        Same p (end_from r p (list_end_within n part first)) part.bytes ys → Later →
        (p ≤ end_from r p (list_end_within n part first)) × (indices_from (index_at other first p) (indices_within n other first) ≡ indices_from r (indices_within n part first))
    by_index (Err f) is c s later = absurd cc
    by_index (Ok (zero, next)) is c s later =
        let r = read zero next is in
        (r.0, ap (λ x. indices_from x (indices_within n other first)) (r.1 s))
    by_index (Ok (suc k, next)) is c s later =
        let r = read (suc k) next is in
        let end = list_end_within n part first next in
        by_end r.0 r.1 (nat_le next end) refl
      where
        by_end : p ≤ next → (Same p next part.bytes ys → index_at other first p ≡ Ok (suc k, next)) → (b : Bool) → nat_le next (list_end_within n part first next) ≡ b →
            (p ≤ list_end_within n part first next) ×
            (indices_from (index_at other first p) (indices_within n other first) ≡ and_indices (suc k) (indices_within n part first next))
        by_end from reads b e =
            let end = list_end_within n part first next in
            let more = later next c (same_inside p end next end part.bytes ys from (omega arith) s) in
            let forward = more.0 in (
              omega (arith, from, forward),
              ap (λ x. indices_from x (indices_within n other first)) (reads (same_inside p end p next part.bytes ys (omega arith) forward s)) ∙
                  ap (and_indices (suc k)) more.1,
            )

-- an entry, with the word that it names
abbrev follow : Memory → Part → ℕ → Pointer × ℕ → Result ℕ Fault
follow memory part p entry = followed memory (part.file_at + p) entry.0.indirect entry.0.value

abbrev entry_read : Memory → Part → Types → ℕ → Bool → Result ℕ Fault
entry_read memory part types p inside = in_table (encoded types.encoding (part.address + p)) part p >>= follow memory part p

in_steps : (memory : Memory) (part : Part) (h : Head) (types : Types) (named_at i : ℕ) →
    entry_at memory part h types named_at i ≡
    (demand (nat_le (h.actions_at + i * types.size) types.base) FilterOutside (part.file_at + named_at) >>= entry_read memory part types (types.base - i * types.size))
unfolding entry_at
in_steps memory part h types named_at i = refl

-- the words that an entry names are the same
abbrev pub SameWord : Memory → Memory → Result (Pointer × ℕ) Fault → Type 0
SameWord memory other (Ok (pointer, next)) = pointer.indirect ≡ true → word_at other pointer.value ≡ word_at memory pointer.value
SameWord memory other (Err f) = ⊤

abbrev pub entry_field : Part → Types → ℕ → Result (Pointer × ℕ) Fault
entry_field part types i = in_table (encoded types.encoding (part.address + (types.base - i * types.size))) part (types.base - i * types.size)

abbrev pub field_end : ℕ → Result (Pointer × ℕ) Fault → ℕ
field_end p (Ok (pointer, next)) = next
field_end p (Err f) = p

follow_same : (memory other : Memory) (part : Part) (p : ℕ) (pointer : Pointer) (next : ℕ) → (pointer.indirect ≡ true → word_at other pointer.value ≡ word_at memory pointer.value) →
    follow other part p (pointer, next) ≡ follow memory part p (pointer, next)
follow_same memory other part p pointer next same = step pointer.indirect refl
  where
    step : (b : Bool) → pointer.indirect ≡ b → followed other (part.file_at + p) b pointer.value ≡ followed memory (part.file_at + p) b pointer.value
    step false e = refl
    step true e = ap (stored (part.file_at + p)) (same e)

pub entry_same : (memory other : Memory) (part : Part) (ys : List ℕ) (h : Head) (types : Types) (named_at i v : ℕ) → entry_at memory part h types named_at i ≡ Ok v →
    Same (types.base - i * types.size) (field_end (types.base - i * types.size) (entry_field part types i)) part.bytes ys → SameWord memory other (entry_field part types i) →
    entry_at other (with_bytes part ys) h types named_at i ≡ Ok v
entry_same memory other part ys h types named_at i v read same word =
    let p = types.base - i * types.size in
    let room = demand (nat_le (h.actions_at + i * types.size) types.base) FilterOutside (part.file_at + named_at) in
    let inside = bind_ok room (entry_read memory part types p) v (sym (in_steps memory part h types named_at i) ∙ read) in
    let field = bind_ok (entry_field part types i) (follow memory part p) v inside.2 in
    let r = field_reads (encoded types.encoding (part.address + p)) (front_encoded types.encoding (part.address + p)) part p field.0 field.1 in
    let ends : field_end p (entry_field part types i) ≡ field.0.1 = ap (field_end p) field.1 in
    in_steps other (with_bytes part ys) h types named_at i ∙
    ap (λ x. x >>= entry_read other (with_bytes part ys) types p) inside.1 ∙
    ap (λ x. x >>= follow other part p) (r.same ys (same_inside p (field_end p (entry_field part types i)) p field.0.1 part.bytes ys (omega arith) (omega (arith, ends)) same)) ∙
    follow_same memory other part p field.0.0 field.0.1 (by_field field.0 field.1) ∙ field.2
  where
    by_field : (a : Pointer × ℕ) → entry_field part types i ≡ Ok a → a.0.indirect ≡ true → word_at other a.0.value ≡ word_at memory a.0.value
    by_field a is = subst (SameWord memory other) is word

-- an entry that is read is read the same from each record
pub entry_elsewhere : (memory : Memory) (part : Part) (h : Head) (types : Types) (named_at place i v : ℕ) → entry_at memory part h types named_at i ≡ Ok v → entry_at memory part h types place i ≡ Ok v
entry_elsewhere memory part h types named_at place i v read =
    let p = types.base - i * types.size in
    let test = nat_le (h.actions_at + i * types.size) types.base in
    let inside = bind_ok (demand test FilterOutside (part.file_at + named_at)) (entry_read memory part types p) v (sym (in_steps memory part h types named_at i) ∙ read) in
    let holds = demand_ok test FilterOutside (part.file_at + named_at) inside.0 inside.1 in
    in_steps memory part h types place i ∙ ap (λ b. demand b FilterOutside (part.file_at + place) >>= entry_read memory part types p) holds ∙
    ap (λ b. demand b FilterOutside (part.file_at + named_at) >>= entry_read memory part types p) (sym holds) ∙ sym (in_steps memory part h types named_at i) ∙ read

le_true : (a b : ℕ) → nat_le a b ≡ true → a ≤ b
le_true a b e = grind (arith, nat_tests, e)

-- an entry that is read has its field, and lies behind the start of the actions
pub entry_lies : (memory : Memory) (part : Part) (h : Head) (types : Types) (named_at i v : ℕ) → entry_at memory part h types named_at i ≡ Ok v →
    (a : Pointer × ℕ) × (entry_field part types i ≡ Ok a) × (h.actions_at + i * types.size ≤ types.base)
entry_lies memory part h types named_at i v read =
    let p = types.base - i * types.size in
    let test = nat_le (h.actions_at + i * types.size) types.base in
    let inside = bind_ok (demand test FilterOutside (part.file_at + named_at)) (entry_read memory part types p) v (sym (in_steps memory part h types named_at i) ∙ read) in
    let field = bind_ok (entry_field part types i) (follow memory part p) v inside.2 in
    (field.0, field.1, le_true (h.actions_at + i * types.size) types.base (demand_ok test FilterOutside (part.file_at + named_at) inside.0 inside.1))
