-- The types of a table that may be packed are words.
use Rattle.std.proofs.Common.{◌≡◌, ◌+◌, ◌-◌, ◌*◌, ◌%◌, ◌^◌, ◌<◌, ◌==◌, ℕ, ℤ, Bool, true, false, not, nat_le, List, ◌++◌, drop, map, Result, Ok, Err, refl, ap, sym, subst, ◌∙◌, arith, ◌⊎◌, inl, inr}
use Rattle.std.specs.Prelude.{Option, Some, None, filter, flat_map, ◌||◌}
use Rattle.std.specs.List.{AllByRecursion}
use Rattle.std.proofs.lemmas.Bool.{cond_both}
use Rattle.std.proofs.lemmas.Bool.Decides.{nat_tests}
use Rattle.eh_bytes.specs.declared.encoded.Pointer.{Pointer}
use Rattle.eh_bytes.specs.declared.frames.Region64.{Region64}
use Rattle.eh_bytes.specs.Field.{Reading, behind}
use Rattle.eh_bytes.specs.Encoded.{encoding_format, raw, applied, applies, encoded}
use Rattle.eh_bytes.specs.Memory.{Part, Memory}
use Rattle.table_forms.specs.declared.reason.Reason.TheVariants.{FilterOutside}
use Rattle.table_forms.specs.Fault.{Fault, ◌>>=◌, demand, with_reason, table_reason, least}
use Rattle.table_forms.specs.Keys.{keys}
use Rattle.table_forms.specs.LsdaHead.{Head, Types, head_at, in_table}
use Rattle.table_forms.specs.LsdaSites.{site_of, site_records}
use Rattle.table_forms.specs.LsdaTypes.{followed, entry_at}
use Rattle.table_forms.specs.Lsda.{Table, table_faults, filters_of, entries_named, lists_named, value_of, entry_value, list_value, table_of, lsda_in}
use Rattle.eh_write.specs.Fits.{IsWord}
use Rattle.eh_write.proofs.Alls.{all_map}
use Rattle.lsda_read.specs.declared.shape.Shape.{Shape}
use Rattle.lsda_read.specs.Shapes.{encoding_of}
use Rattle.lsda_pack.specs.Rule.{is_plain}
use Rattle.lsda_pack.proofs.FieldFrame.{ok_same}
use Rattle.lsda_pack.proofs.FitsPacked.{all_true}
use Rattle.lsda_pack.proofs.LsdaFrame.{answer_ok, answered, in_steps}
use Rattle.lsda_pack.proofs.SitesJoined.{right_true}

-- relative to themselves in four bytes, or not at all
abbrev pub IsPlain : ℕ → Type 0
IsPlain e = (e ≡ 27) ⊎ (e ≡ 255)

abbrev pub IsDirect : Pointer → Type 0
IsDirect pointer = (pointer.indirect ≡ false) × (pointer.value < 2 ^ 64)

applied_direct : (a m : ℕ) → IsDirect (applied 27 a m)
applied_direct a m = cond_both (m == 0) (record { value = 0; indirect = false }) (record { value = (m + a) % 2 ^ 64; indirect = false }) IsDirect (λ _. (refl, omega arith)) (λ _. (refl, omega arith))

relative_direct : (a : ℕ) (xs : List ℕ) (pointer : Pointer) (n : ℕ) → encoded 27 a xs ≡ Ok (pointer, n) → IsDirect pointer
unfolding encoded
relative_direct a xs pointer n read = by (raw (encoding_format 27) xs) read
  where
    by : (r : Reading ℕ) → applies 27 a r ≡ Ok (pointer, n) → IsDirect pointer
    by (Err cause) e = absurd cc
    by (Ok (m, k)) e = subst IsDirect (ap (λ x. x.0) (ok_same (applied 27 a m, k) (pointer, n) e)) (applied_direct a m)

omitted_none : (a : ℕ) (xs : List ℕ) (pointer : Pointer) (n : ℕ) → encoded 255 a xs ≡ Ok (pointer, n) → ⊥
unfolding encoded raw
omitted_none a xs pointer n read = cc

pub plain_direct : (e a : ℕ) (xs : List ℕ) (pointer : Pointer) (n : ℕ) → IsPlain e → encoded e a xs ≡ Ok (pointer, n) → IsDirect pointer
plain_direct e a xs pointer n (inl is) read = relative_direct a xs pointer n (ap (λ k. encoded k a xs) (sym is) ∙ read)
plain_direct e a xs pointer n (inr is) read = absurd (omitted_none a xs pointer n (ap (λ k. encoded k a xs) (sym is) ∙ read))

abbrev entry_of : Memory → Part → ℕ → Pointer × ℕ → Result ℕ Fault
entry_of memory part p entry = followed memory (part.file_at + p) entry.0.indirect entry.0.value

entry_word : (memory : Memory) (part : Part) (h : Head) (types : Types) (i : ℕ) → IsPlain types.encoding → IsWord (value_of (entry_at memory part h types 0 i))
unfolding entry_at
entry_word memory part h types i plain = by_room (nat_le (h.actions_at + i * types.size) types.base)
  where
    by_field : (r : Reading Pointer) → encoded types.encoding (part.address + (types.base - i * types.size)) (drop (types.base - i * types.size) part.bytes) ≡ r →
        IsWord (value_of (with_reason table_reason (part.file_at + (types.base - i * types.size)) (behind (types.base - i * types.size) r) >>= entry_of memory part (types.base - i * types.size)))
    by_field (Err cause) is = omega arith
    by_field (Ok (pointer, n)) is =
        let direct = plain_direct types.encoding (part.address + (types.base - i * types.size)) (drop (types.base - i * types.size) part.bytes) pointer n plain is in
        subst (λ b. IsWord (value_of (followed memory (part.file_at + (types.base - i * types.size)) b pointer.value))) (sym direct.0) direct.1

    by_room : (b : Bool) → IsWord (value_of (demand b FilterOutside (part.file_at + 0) >>= λ inside.
        in_table (encoded types.encoding (part.address + (types.base - i * types.size))) part (types.base - i * types.size) >>= entry_of memory part (types.base - i * types.size)))
    by_room false = omega arith
    by_room true = by_field (encoded types.encoding (part.address + (types.base - i * types.size)) (drop (types.base - i * types.size) part.bytes)) refl

abbrev pub TypesPlain : Option Types → Type 0
TypesPlain types = IsPlain (encoding_of types)

value_word : (memory : Memory) (part : Part) (h : Head) (types : Option Types) (i : ℕ) → TypesPlain types → IsWord (entry_value memory part h types i)
value_word memory part h None i plain = omega arith
value_word memory part h (Some types) i plain = entry_word memory part h types i plain

made_words : (memory : Memory) (part : Part) (region : Region64) (h : Head) → TypesPlain h.types → AllByRecursion (λ e. IsWord e.1) (table_of memory part region h).types
unfolding table_of
made_words memory part region h plain =
    let F = filters_of part h in
    let ks = keys (filter (λ a. not (a == 0)) (map (λ s. s.action) (map (site_of h region) (site_records part h).records))) in
    let fs = flat_map (λ (e : ℕ × List ℤ). e.1) (map (λ a. (a, F a)) ks) in
    let ls = map (λ j. (j, list_value part h.types j)) (keys (flat_map lists_named fs)) in
    let is = keys (flat_map entries_named fs ++ flat_map (λ (e : ℕ × List ℕ). e.1) ls) in
    all_map (λ (e : ℕ × ℕ). IsWord e.1) (λ i. (i, entry_value memory part h h.types i)) is (all_true (λ i. IsWord (entry_value memory part h h.types i)) (λ i. value_word memory part h h.types i plain) is)

pub types_words : (memory : Memory) (part : Part) (region : Region64) (p : ℕ) (h : Head) (t : Table) → head_at part region p ≡ Ok h → lsda_in memory region p part ≡ Ok t → TypesPlain h.types →
    AllByRecursion (λ e. IsWord e.1) t.types
types_words memory part region p h t head read plain =
    let given = answer_ok (least (table_faults memory part region h)) (table_of memory part region h) t
    (sym (ap (λ x. x >>= answered memory region part) head) ∙ sym (in_steps memory region p part) ∙ read) in
    subst (λ x. AllByRecursion (λ e. IsWord e.1) x.types) given.1 (made_words memory part region h plain)

-- as the shape of a table says
pub shape_plain : (s : Shape) (types : Option Types) → s.ttype ≡ encoding_of types → is_plain s ≡ true → TypesPlain types
shape_plain s types is plain =
    by (s.ttype == 27) (s.ttype == 255) refl refl (right_true (s.lp_start == 255) (s.ttype == 27 || s.ttype == 255) plain)
  where
    by : (b c : Bool) → (s.ttype == 27) ≡ b → (s.ttype == 255) ≡ c → (b || c) ≡ true → TypesPlain types
    by true c e f g = inl (let n : s.ttype ≡ 27 = grind (arith, nat_tests, e) in sym is ∙ n)
    by false true e f g = inr (let n : s.ttype ≡ 255 = grind (arith, nat_tests, f) in sym is ∙ n)
    by false false e f g = absurd cc
