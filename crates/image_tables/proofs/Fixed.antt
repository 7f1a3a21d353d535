-- An exception table whose type entries are addresses themselves is read the same, whatever is written elsewhere.
use Rattle.std.proofs.Common.{◌≡◌, ◌∙◌, refl, sym, ap, subst, ℕ, ◌&&◌, nat_lt, ◌%◌, ◌^◌, ◌+◌, ◌-◌, ◌*◌, ◌==◌, nat_le, Bool, true, false, List, [], ◌∷◌, map, drop, Option, Some, None, Result, Ok, Err, if◌then◌else◌}
use Rattle.std.specs.Prelude.{IfOk, IsSomeAnd, is_ok, is_some}
use Rattle.std.proofs.lemmas.List.{drop-drop}
use Rattle.eh_bytes.specs.declared.encoded.Pointer.{Pointer}
use Rattle.eh_bytes.specs.declared.frames.Region64.{Region64}
use Rattle.eh_bytes.specs.Encoded.{raw, encoding_format, is_relative, applied, applies, encoded}
use Rattle.eh_bytes.specs.Field.{Reading, byte, behind}
use Rattle.eh_bytes.specs.Leb128.{uleb}
use Rattle.eh_bytes.specs.Memory.{Part, Memory, part_with}
use Rattle.table_forms.specs.declared.reason.Reason.TheVariants.{Encoding, FilterOutside}
use Rattle.table_forms.specs.Fault.{Fault, ◌>>=◌, demand, with_reason, table_reason, least, answer}
use Rattle.table_forms.specs.LsdaHead.{Head, Types, in_table, pads_start, type_table, head_at}
use Rattle.table_forms.specs.LsdaTypes.{followed, entry_at}
use Rattle.table_forms.specs.Lsda.{Table, value_of, entry_value, table_faults, table_of, lsda_in, lsda_from, lsda}
use Rattle.eh_run.proofs.Alike.{AreAlike, IsFixed, same_found}
use Rattle.eh_run.proofs.SameTables.{same_readable}

-- what is read in two steps
record Steps {A B : Type 0} (r : Result A Fault) (f : A → Result B Fault) (y : B) : Type 0 where
  value : A
  first : r ≡ Ok value
  second : f value ≡ Ok y

both_steps : {A B : Type 0} (r : Result A Fault) (f : A → Result B Fault) (y : B) → (r >>= f) ≡ Ok y → Steps r f y
both_steps (Ok x) f y e = record { value = x; first = refl; second = e }
both_steps (Err g) f y e = absurd cc

ok_same : {A : Type 0} (x y : A) (r : Result A Fault) → r ≡ Ok x → r ≡ Ok y → x ≡ y
ok_same x y r e f = cc

-- ---- the head
byte_read : (part : Part) (p b : ℕ) (rest : List ℕ) → drop p part.bytes ≡ b ∷ rest → in_table byte part p ≡ Ok (b, p + 1)
byte_read part p b rest here = ap (λ bytes. with_reason table_reason (part.file_at + p) (behind p (byte bytes))) here

-- type entries that are relative to themselves
abbrev pub AreNear : Option Types → Type 0
AreNear None = Unit {0}
AreNear (Some types) = types.encoding ≡ 0x1b

sized_near : (part : Part) (p : ℕ) (x : Option Types × ℕ) → type_table part 0x1b p ≡ Ok x → AreNear x.0
unfolding type_table
sized_near part p x e =
    let s = both_steps (in_table uleb part (p + 1)) _ x e in
    subst (λ y. AreNear y.0) (ok_same _ x _ refl s.second) refl

-- a head from the encoding of its sites on
abbrev rest_of_head : Part → ℕ → Option Types × ℕ → Result Head Fault
rest_of_head part pads table = in_table byte part table.1 >>= λ sites. demand (nat_lt sites.0 16 && is_some (encoding_format sites.0)) Encoding (part.file_at + table.1) >>= λ plain.
    in_table uleb part sites.1 >>= λ size. Ok (record { pads_from = pads; types = table.0; site_encoding = sites.0; sites_at = size.1; actions_at = size.1 + size.0 })

-- from the encoding of its types on
abbrev types_of_head : Part → ℕ × ℕ → Result (ℕ × ℕ) Fault → Result Head Fault
types_of_head part pads r = r >>= λ types. type_table part types.0 pads.1 >>= λ table. rest_of_head part pads.0 table

abbrev whole_head : Part → Region64 → ℕ → Result (ℕ × ℕ) Fault → Result Head Fault
whole_head part region p r = r >>= λ start. pads_start part region start.0 p >>= λ pads. types_of_head part pads (in_table byte part pads.1)

rest_types : (part : Part) (pads : ℕ) (table : Option Types × ℕ) (h : Head) → rest_of_head part pads table ≡ Ok h → table.0 ≡ h.types
rest_types part pads table h e = by_sites (in_table byte part table.1) e
  where
    by_size : (sites : ℕ × ℕ) (r : Result (ℕ × ℕ) Fault) →
        (r >>= λ size. Ok (record { pads_from = pads; types = table.0; site_encoding = sites.0; sites_at = size.1; actions_at = size.1 + size.0 })) ≡ Ok h → table.0 ≡ h.types
    by_size sites (Err f) e = absurd cc
    by_size sites (Ok size) e =
        let made : Head = record { pads_from = pads; types = table.0; site_encoding = sites.0; sites_at = size.1; actions_at = size.1 + size.0 } in
        ap (λ x. x.types) (ok_same made h (Ok made) refl e)

    by_plain : (sites : ℕ × ℕ) (r : Result Bool Fault) →
        (r >>= λ plain. in_table uleb part sites.1 >>= λ size. Ok (record { pads_from = pads; types = table.0; site_encoding = sites.0; sites_at = size.1; actions_at = size.1 + size.0 })) ≡ Ok h →
        table.0 ≡ h.types
    by_plain sites (Err f) e = absurd cc
    by_plain sites (Ok b) e = by_size sites (in_table uleb part sites.1) e

    by_sites : (r : Result (ℕ × ℕ) Fault) → (r >>= λ sites. demand (nat_lt sites.0 16 && is_some (encoding_format sites.0)) Encoding (part.file_at + table.1) >>= λ plain.
        in_table uleb part sites.1 >>= λ size. Ok (record { pads_from = pads; types = table.0; site_encoding = sites.0; sites_at = size.1; actions_at = size.1 + size.0 })) ≡ Ok h → table.0 ≡ h.types
    by_sites (Err f) e = absurd cc
    by_sites (Ok sites) e = by_plain sites (demand (nat_lt sites.0 16 && is_some (encoding_format sites.0)) Encoding (part.file_at + table.1)) e

near_types : (part : Part) (region : Region64) (p : ℕ) (rest : List ℕ) (h : Head) → drop p part.bytes ≡ 255 ∷ 0x1b ∷ rest → head_at part region p ≡ Ok h → AreNear h.types
unfolding head_at pads_start
near_types part region p rest h here e = by (type_table part 0x1b (p + 1)) refl (sym shape ∙ e)
  where
    behind_first : drop (p + 1) part.bytes ≡ 0x1b ∷ rest
    behind_first = sym (drop-drop 1 p part.bytes) ∙ ap (drop 1) here

    shape : head_at part region p ≡ (type_table part 0x1b (p + 1) >>= λ table. rest_of_head part region.start table)
    shape = ap (whole_head part region p) (byte_read part p 255 (0x1b ∷ rest) here) ∙ ap (types_of_head part (region.start, p + 1)) (byte_read part (p + 1) 0x1b rest behind_first)

    by : (r : Result (Option Types × ℕ) Fault) → type_table part 0x1b (p + 1) ≡ r → (r >>= λ table. rest_of_head part region.start table) ≡ Ok h → AreNear h.types
    by (Err f) is e = absurd cc
    by (Ok x) is e = subst AreNear (rest_types part region.start x h e) (sized_near part (p + 1) x is)

-- ---- entries
IsDirect : Pointer × ℕ → Type 0
IsDirect e = e.0.indirect ≡ false

number_direct : (address n : ℕ) (b : Bool) → (n == 0) ≡ b → (applied 0x1b address n).indirect ≡ false
number_direct address n true e = ap (λ (b : Bool). (if b then (let x : Pointer = record { value = 0; indirect = false } in x) else record { value = (if is_relative 0x1b then (n + address) % 2 ^ 64 else n); indirect = false }).indirect) e
number_direct address n false e = ap (λ (b : Bool). (if b then (let x : Pointer = record { value = 0; indirect = false } in x) else record { value = (if is_relative 0x1b then (n + address) % 2 ^ 64 else n); indirect = false }).indirect) e

entry_direct : (address : ℕ) (part : Part) (p : ℕ) → IfOk (in_table (encoded 0x1b address) part p) (λ e. e.0.indirect ≡ false)
unfolding encoded
entry_direct address part p = by (raw (encoding_format 0x1b) (drop p part.bytes))
  where
    by : (r : Reading ℕ) → IfOk (with_reason table_reason (part.file_at + p) (behind p (applies 0x1b address r))) (λ e. e.0.indirect ≡ false)
    by (Ok (n, taken)) = number_direct address n (n == 0) refl
    by (Err cause) = tt

same_entry : (ms ns : Memory) (part : Part) (h : Head) (types : Option Types) (i : ℕ) → AreNear types → entry_value ms part h types i ≡ entry_value ns part h types i
unfolding entry_at
same_entry ms ns part h None i near = refl
same_entry ms ns part h (Some types) i near = by_demand (demand (nat_le (h.actions_at + i * types.size) types.base) FilterOutside (part.file_at + 0))
  where
    place : ℕ
    place = types.base - i * types.size

    after : Memory → Result (Pointer × ℕ) Fault → Result ℕ Fault
    after m r = r >>= λ (e : Pointer × ℕ). followed m (part.file_at + place) e.0.indirect e.0.value

    direct : IfOk (in_table (encoded types.encoding (part.address + place)) part place) (λ e. e.0.indirect ≡ false)
    direct = subst (λ n. IfOk (in_table (encoded n (part.address + place)) part place) (λ e. e.0.indirect ≡ false)) (sym near) (entry_direct (part.address + place) part place)

    by_entry : (r : Result (Pointer × ℕ) Fault) → IfOk r (λ e. e.0.indirect ≡ false) → after ms r ≡ after ns r
    by_entry (Err f) e = refl
    by_entry (Ok x) e =
        ap (λ b. followed ms (part.file_at + place) b x.0.value) e ∙ ap (λ b. followed ns (part.file_at + place) b x.0.value) (sym e)

    by_demand : (r : Result Bool Fault) → value_of (r >>= λ (b : Bool). after ms (in_table (encoded types.encoding (part.address + place)) part place)) ≡
        value_of (r >>= λ (b : Bool). after ns (in_table (encoded types.encoding (part.address + place)) part place))
    by_demand (Err f) = refl
    by_demand (Ok b) = ap value_of (by_entry (in_table (encoded types.encoding (part.address + place)) part place) direct)

same_values : (f g : ℕ → ℕ) → ((i : ℕ) → f i ≡ g i) → (ns : List ℕ) → map {B = ℕ × ℕ} (λ i. (i, f i)) ns ≡ map (λ i. (i, g i)) ns
same_values f g same [] = refl
same_values f g same (n ∷ ns) = ap (λ v. (n, v) ∷ map {B = ℕ × ℕ} (λ i. (i, f i)) ns) (same n) ∙ ap (λ vs. (n, g n) ∷ vs) (same_values f g same ns)

same_table_of : (ms ns : Memory) (part : Part) (region : Region64) (h : Head) → AreNear h.types → table_of ms part region h ≡ table_of ns part region h
unfolding table_of
same_table_of ms ns part region h near =
    let made = table_of ns part region h in
    ap (λ ts. record { sites = made.sites; actions = made.actions; types = ts; lists = made.lists })
    (same_values (entry_value ms part h h.types) (entry_value ns part h h.types) (λ i. same_entry ms ns part h h.types i near) _)

-- ---- tables
pub same_table : (ms ns : Memory) (address : ℕ) (region : Region64) (t : Table) → AreAlike ms ns → IsFixed (part_with ns address) →
    IsSomeAnd (part_with ns address) (λ part. (rest : List ℕ) × (drop (address - part.address) part.bytes ≡ 255 ∷ 0x1b ∷ rest)) → lsda ns address region ≡ Ok t → lsda ms address region ≡ Ok t
unfolding lsda lsda_in
same_table ms ns address region t alike fixed begins read =
    ap (lsda_from ms address region) (same_found ms ns address alike fixed)
    ∙ by_part (part_with ns address) begins read (ap (λ o. is_ok (lsda_from ms address region o)) (sym (same_found ms ns address alike fixed)) ∙ (same_readable ms ns address region alike fixed ∙ ap is_ok read))
  where
    by_answer : (part : Part) (h : Head) (o q : Option Fault) → AreNear h.types → answer o (table_of ns part region h) ≡ Ok t → is_ok (answer q (table_of ms part region h)) ≡ true →
        answer q (table_of ms part region h) ≡ Ok t
    by_answer part h None None near e good = ap Ok (same_table_of ms ns part region h near) ∙ e
    by_answer part h (Some f) q near e good = absurd cc
    by_answer part h None (Some g) near e good = absurd cc

    by_head : (part : Part) (p : ℕ) (r : Result Head Fault) → ((h : Head) → r ≡ Ok h → AreNear h.types) → (r >>= λ h. answer (least (table_faults ns part region h)) (table_of ns part region h)) ≡ Ok t →
        is_ok (r >>= λ h. answer (least (table_faults ms part region h)) (table_of ms part region h)) ≡ true → (r >>= λ h. answer (least (table_faults ms part region h)) (table_of ms part region h)) ≡ Ok t
    by_head part p (Err f) near e good = absurd cc
    by_head part p (Ok h) near e good = by_answer part h (least (table_faults ns part region h)) (least (table_faults ms part region h)) (near h refl) e good

    by_part : (o : Option Part) → IsSomeAnd o (λ part. (rest : List ℕ) × (drop (address - part.address) part.bytes ≡ 255 ∷ 0x1b ∷ rest)) → lsda_from ns address region o ≡ Ok t →
        is_ok (lsda_from ms address region o) ≡ true → lsda_from ms address region o ≡ Ok t
    by_part None begins e good = absurd begins
    by_part (Some part) (rest, here) e good =
        by_head part (address - part.address) (head_at part region (address - part.address)) (λ h is. near_types part region (address - part.address) rest h here is) e good
