-- The head of an exception table depends only on its own bytes.
use Rattle.std.proofs.Common.{◌≡◌, ◌<◌, ◌+◌, ◌==◌, ◌≤◌, ℕ, Bool, true, false, nat_lt, List, [], ◌∷◌, drop, Result, Ok, Err, refl, ap, sym, subst, ◌∙◌, arith}
use Rattle.std.specs.Prelude.{⊤, Option, Some, None, is_some, ◌&&◌, if◌then◌else◌}
use Rattle.eh_bytes.specs.declared.error.ByteError.{ByteError}
use Rattle.eh_bytes.specs.declared.encoded.Pointer.{Pointer}
use Rattle.eh_bytes.specs.declared.frames.Region64.{Region64}
use Rattle.eh_bytes.specs.Field.{Field, at, behind, byte}
use Rattle.eh_bytes.specs.Leb128.{uleb}
use Rattle.eh_bytes.specs.Encoded.{encoded, encoding_format, format_size, is_direct}
use Rattle.eh_bytes.specs.Memory.{Part}
use Rattle.table_forms.specs.declared.reason.Reason.{Reason}
use Rattle.table_forms.specs.declared.reason.Reason.TheVariants.{Encoding}
use Rattle.table_forms.specs.Fault.{Fault, ◌>>=◌, demand, with_reason, table_reason}
use Rattle.table_forms.specs.LsdaHead.{Head, Types, in_table, pads_start, sized_types, type_table, head_at}
use Rattle.lsda_pack.proofs.Fronts.{Same, same_inside}
use Rattle.lsda_pack.proofs.FieldFrame.{Front, reads_at, front_byte, front_uleb, front_encoded}

-- the part with other bytes
abbrev pub with_bytes : Part → List ℕ → Part
with_bytes part ys = record part { bytes = ys }

pub reason_ok : {A : Type 0} (reason : ByteError → Reason) (place : ℕ) (r : Result A ByteError) (x : A) → with_reason reason place r ≡ Ok x → r ≡ Ok x
reason_ok reason place (Ok y) x e = let same : y ≡ x = cc in ap Ok same
reason_ok reason place (Err cause) x e = absurd cc

pub bind_ok : {A B : Type 0} (r : Result A Fault) (f : A → Result B Fault) (x : B) → (r >>= f) ≡ Ok x → (a : A) × (r ≡ Ok a) × (f a ≡ Ok x)
bind_ok (Ok a) f x e = (a, refl, e)
bind_ok (Err g) f x e = absurd cc

pub demand_ok : (b : Bool) (reason : Reason) (place : ℕ) (x : Bool) → demand b reason place ≡ Ok x → b ≡ true
demand_ok true reason place x e = refl
demand_ok false reason place x e = absurd cc

-- what reads a part from a place on, up to the place behind what it read
pub record PartReads {A : Type 0} (g : Part → Result (A × ℕ) Fault) (part : Part) (p : ℕ) (a : A × ℕ) : Type 0 where
  pub forward : p ≤ a.1
  pub same : (ys : List ℕ) → Same p a.1 part.bytes ys → g (with_bytes part ys) ≡ Ok a

pub field_reads : {A : Type 0} (f : Field A) → Front f → (part : Part) (p : ℕ) (a : A × ℕ) → in_table f part p ≡ Ok a → PartReads (λ x. in_table f x p) part p a
field_reads f front part p a read =
    let r = reads_at f front part.bytes p a.0 a.1 (reason_ok table_reason (part.file_at + p) (at f part.bytes p) a read) in
    record { forward = r.forward; same = λ ys same. ap (with_reason table_reason (part.file_at + p)) (r.same ys same) }

pub byte_ends : (part : Part) (p : ℕ) (a : ℕ × ℕ) → in_table byte part p ≡ Ok a → a.1 ≡ p + 1
byte_ends part p a read = step (drop p part.bytes) (reason_ok table_reason (part.file_at + p) (at byte part.bytes p) a read)
  where
    step : (xs : List ℕ) → behind p (byte xs) ≡ Ok a → a.1 ≡ p + 1
    step [] e = absurd cc
    step (x ∷ xs) e = cc

-- where pads count from
abbrev value_read : Pointer × ℕ → Result (ℕ × ℕ) Fault
value_read value = Ok (value.0.value, value.1)

abbrev spelled_start : Part → ℕ → ℕ → Bool → Result (ℕ × ℕ) Fault
spelled_start part e p direct = in_table (encoded e (part.address + p + 1)) part (p + 1) >>= value_read

pads_reads : (part : Part) (region : Region64) (e p : ℕ) (a : ℕ × ℕ) → pads_start part region e p ≡ Ok a → PartReads (λ x. pads_start x region e p) part (p + 1) a
unfolding pads_start
pads_reads part region e p a read = step (e == 255) refl read
  where
    step : (b : Bool) → (e == 255) ≡ b → (if b then Ok (region.start, p + 1) else demand (is_direct e) Encoding (part.file_at + p) >>= spelled_start part e p) ≡ Ok a →
        PartReads (λ x. pads_start x region e p) part (p + 1) a
    step true is r =
        let place : p + 1 ≡ a.1 = cc in
        record {
          forward = omega (arith, place);
          same = λ ys same. ap (λ b. if b then Ok (region.start, p + 1) else demand (is_direct e) Encoding (part.file_at + p) >>= spelled_start (with_bytes part ys) e p) is ∙ r;
        }
    step false is r =
        let direct = bind_ok (demand (is_direct e) Encoding (part.file_at + p)) (spelled_start part e p) a r in
        let value = bind_ok (in_table (encoded e (part.address + p + 1)) part (p + 1)) value_read a direct.2 in
        let reads = field_reads (encoded e (part.address + p + 1)) (front_encoded e (part.address + p + 1)) part (p + 1) value.0 value.1 in
        let place : value.0.1 ≡ a.1 = cc in
        let forward = reads.forward in
        record {
          forward = omega (arith, place, forward);
          same = λ ys same.
              ap (λ b. if b then Ok (region.start, p + 1) else demand (is_direct e) Encoding (part.file_at + p) >>= spelled_start (with_bytes part ys) e p) is ∙
              ap (λ d. d >>= spelled_start (with_bytes part ys) e p) direct.1 ∙
              ap (λ v. v >>= value_read) (reads.same ys (same_inside (p + 1) a.1 (p + 1) value.0.1 part.bytes ys (omega arith) (omega (arith, place)) same)) ∙ value.2;
        }

-- where types lie
abbrev types_from : ℕ → ℕ → ℕ × ℕ → Result (Option Types × ℕ) Fault
types_from e size offset = Ok (Some (record { base = offset.1 + offset.0; encoding = e; size = size }), offset.1)

sized_reads : (part : Part) (size : Option ℕ) (e p : ℕ) (a : Option Types × ℕ) → sized_types size part e p ≡ Ok a → PartReads (λ x. sized_types size x e p) part (p + 1) a
sized_reads part None e p a read = absurd cc
sized_reads part (Some size) e p a read =
    let offset = bind_ok (in_table uleb part (p + 1)) (types_from e size) a read in
    let reads = field_reads uleb front_uleb part (p + 1) offset.0 offset.1 in
    let place : offset.0.1 ≡ a.1 = cc in
    let forward = reads.forward in
    record {
      forward = omega (arith, place, forward);
      same = λ ys same. ap (λ o. o >>= types_from e size) (reads.same ys (same_inside (p + 1) a.1 (p + 1) offset.0.1 part.bytes ys (omega arith) (omega (arith, place)) same)) ∙ offset.2;
    }

types_read : (part : Part) (e p : ℕ) (a : Option Types × ℕ) → type_table part e p ≡ Ok a → PartReads (λ x. type_table x e p) part (p + 1) a
unfolding type_table
types_read part e p a read = step (e == 255) refl read
  where
    step : (b : Bool) → (e == 255) ≡ b → (if b then Ok (None, p + 1) else sized_types (format_size (encoding_format e)) part e p) ≡ Ok a → PartReads (λ x. type_table x e p) part (p + 1) a
    step true is r =
        let place : p + 1 ≡ a.1 = cc in
        record {
          forward = omega (arith, place);
          same = λ ys same. ap (λ b. if b then Ok (None, p + 1) else sized_types (format_size (encoding_format e)) (with_bytes part ys) e p) is ∙ r;
        }
    step false is r =
        let reads = sized_reads part (format_size (encoding_format e)) e p a r in
        record {
          forward = reads.forward;
          same = λ ys same. ap (λ b. if b then Ok (None, p + 1) else sized_types (format_size (encoding_format e)) (with_bytes part ys) e p) is ∙ reads.same ys same;
        }

-- the head, field by field
abbrev head_for : ℕ × ℕ → Option Types × ℕ → ℕ × ℕ → ℕ × ℕ → Head
head_for pads table sites size = record { pads_from = pads.0; types = table.0; site_encoding = sites.0; sites_at = size.1; actions_at = size.1 + size.0 }

abbrev found : Head → Result Head Fault
found h = Ok h

head_same : (x y : Head) → found x ≡ found y → x ≡ y
head_same x y e = cc

abbrev after_size : ℕ × ℕ → Option Types × ℕ → ℕ × ℕ → ℕ × ℕ → Result Head Fault
after_size pads table sites size = Ok (head_for pads table sites size)

abbrev after_plain : Part → ℕ × ℕ → Option Types × ℕ → ℕ × ℕ → Bool → Result Head Fault
after_plain part pads table sites plain = in_table uleb part sites.1 >>= after_size pads table sites

abbrev is_plain_encoding : ℕ → Bool
is_plain_encoding e = nat_lt e 16 && is_some (encoding_format e)

abbrev after_sites : Part → ℕ × ℕ → Option Types × ℕ → ℕ × ℕ → Result Head Fault
after_sites part pads table sites = demand (is_plain_encoding sites.0) Encoding (part.file_at + table.1) >>= after_plain part pads table sites

abbrev after_table : Part → ℕ × ℕ → Option Types × ℕ → Result Head Fault
after_table part pads table = in_table byte part table.1 >>= after_sites part pads table

abbrev after_types : Part → ℕ × ℕ → ℕ × ℕ → Result Head Fault
after_types part pads types = type_table part types.0 pads.1 >>= after_table part pads

abbrev after_pads : Part → ℕ × ℕ → Result Head Fault
after_pads part pads = in_table byte part pads.1 >>= after_types part pads

abbrev pub after_start : Part → Region64 → ℕ → ℕ × ℕ → Result Head Fault
after_start part region p start = pads_start part region start.0 p >>= after_pads part

pub in_steps : (part : Part) (region : Region64) (p : ℕ) → head_at part region p ≡ (in_table byte part p >>= after_start part region p)
unfolding head_at
in_steps part region p = refl

pub record HeadReads (part : Part) (region : Region64) (p : ℕ) (h : Head) : Type 0 where
  pub forward : p ≤ h.sites_at
  pub some : p < h.sites_at
  pub order : h.sites_at ≤ h.actions_at
  pub same : (ys : List ℕ) → Same p h.sites_at part.bytes ys → head_at (with_bytes part ys) region p ≡ Ok h

pub head_reads : (part : Part) (region : Region64) (p : ℕ) (h : Head) → head_at part region p ≡ Ok h → HeadReads part region p h
head_reads part region p h read =
    let start = bind_ok (in_table byte part p) (after_start part region p) h (sym (in_steps part region p) ∙ read) in
    let pads = bind_ok (pads_start part region start.0.0 p) (after_pads part) h start.2 in
    let types = bind_ok (in_table byte part pads.0.1) (after_types part pads.0) h pads.2 in
    let table = bind_ok (type_table part types.0.0 pads.0.1) (after_table part pads.0) h types.2 in
    let sites = bind_ok (in_table byte part table.0.1) (after_sites part pads.0 table.0) h table.2 in
    let plain = bind_ok (demand (is_plain_encoding sites.0.0) Encoding (part.file_at + table.0.1)) (after_plain part pads.0 table.0 sites.0) h sites.2 in
    let size = bind_ok (in_table uleb part sites.0.1) (after_size pads.0 table.0 sites.0) h plain.2 in
    let r1 = field_reads byte front_byte part p start.0 start.1 in
    let r2 = pads_reads part region start.0.0 p pads.0 pads.1 in
    let r3 = field_reads byte front_byte part pads.0.1 types.0 types.1 in
    let r4 = types_read part types.0.0 pads.0.1 table.0 table.1 in
    let r5 = field_reads byte front_byte part table.0.1 sites.0 sites.1 in
    let r6 = field_reads uleb front_uleb part sites.0.1 size.0 size.1 in
    let b1 = byte_ends part p start.0 start.1 in
    let b3 = byte_ends part pads.0.1 types.0 types.1 in
    let f2 = r2.forward in let f4 = r4.forward in let f5 = r5.forward in let f6 = r6.forward in
    let last : size.0.1 ≡ h.sites_at = ap (λ x. x.sites_at) (head_same (head_for pads.0 table.0 sites.0 size.0) h size.2) in
    let ends : size.0.1 + size.0.0 ≡ h.actions_at = ap (λ x. x.actions_at) (head_same (head_for pads.0 table.0 sites.0 size.0) h size.2) in
    record {
      forward = omega (arith, f2, f4, f5, f6, last);
      some = omega (arith, f2, f4, f5, f6, last);
      order = omega (arith, last, ends);
      same = λ ys same.
          let other = with_bytes part ys in
          in_steps other region p ∙
          ap (λ r. r >>= after_start other region p) (r1.same ys (same_inside p h.sites_at p start.0.1 part.bytes ys (omega arith) (omega (arith, b1, f2, b3, f4, f5, f6, last)) same)) ∙
          ap (λ r. r >>= after_pads other) (r2.same ys (same_inside p h.sites_at (p + 1) pads.0.1 part.bytes ys (omega arith) (omega (arith, f4, f5, f6, last)) same)) ∙
          ap (λ r. r >>= after_types other pads.0) (r3.same ys (same_inside p h.sites_at pads.0.1 types.0.1 part.bytes ys (omega (arith, f2)) (omega (arith, b3, f4, f5, f6, last)) same)) ∙
          ap (λ r. r >>= after_table other pads.0) (r4.same ys (same_inside p h.sites_at (pads.0.1 + 1) table.0.1 part.bytes ys (omega (arith, f2)) (omega (arith, f5, f6, last)) same)) ∙
          ap (λ r. r >>= after_sites other pads.0 table.0) (r5.same ys (same_inside p h.sites_at table.0.1 sites.0.1 part.bytes ys (omega (arith, f2, f4)) (omega (arith, f6, last)) same)) ∙
          ap (λ r. r >>= after_plain other pads.0 table.0 sites.0) plain.1 ∙
          ap (λ r. r >>= after_size pads.0 table.0 sites.0) (r6.same ys (same_inside p h.sites_at sites.0.1 size.0.1 part.bytes ys (omega (arith, f2, f4, f5)) (omega (arith, last)) same)) ∙
          size.2;
    }

-- entries have the size of their encoding, and the base lies behind the field that says where it is
abbrev pub TypesFound : ℕ → Option Types → Type 0
TypesFound p None = ⊤
TypesFound p (Some types) = (format_size (encoding_format types.encoding) ≡ Some types.size) × (p ≤ types.base)

abbrev typed : Option Types × ℕ → Result (Option Types × ℕ) Fault
typed x = Ok x

typed_same : (x y : Option Types × ℕ) → typed x ≡ typed y → x ≡ y
typed_same x y e = cc

sized_found : (part : Part) (size : Option ℕ) (e p : ℕ) (a : Option Types × ℕ) → format_size (encoding_format e) ≡ size → sized_types size part e p ≡ Ok a → TypesFound p a.0
sized_found part None e p a is read = absurd cc
sized_found part (Some size) e p a is read =
    let offset = bind_ok (in_table uleb part (p + 1)) (types_from e size) a read in
    let forward = (field_reads uleb front_uleb part (p + 1) offset.0 offset.1).forward in
    let types : Types = record { base = offset.0.1 + offset.0.0; encoding = e; size = size } in
    subst (λ x. TypesFound p x.0) (typed_same (Some types, offset.0.1) a offset.2) (is, omega (arith, forward))

types_found : (part : Part) (e p : ℕ) (a : Option Types × ℕ) → type_table part e p ≡ Ok a → TypesFound p a.0
unfolding type_table
types_found part e p a read = step (e == 255) read
  where
    step : (b : Bool) → (if b then Ok (None, p + 1) else sized_types (format_size (encoding_format e)) part e p) ≡ Ok a → TypesFound p a.0
    step true r = subst (λ x. TypesFound p x.0) (typed_same (None, p + 1) a r) tt
    step false r = sized_found part (format_size (encoding_format e)) e p a refl r

less_found : (p q : ℕ) (types : Option Types) → p ≤ q → TypesFound q types → TypesFound p types
less_found p q None less found = tt
less_found p q (Some types) less found = let at = found.1 in (found.0, omega (arith, less, at))

pub head_types : (part : Part) (region : Region64) (p : ℕ) (h : Head) → head_at part region p ≡ Ok h → TypesFound p h.types
head_types part region p h read =
    let start = bind_ok (in_table byte part p) (after_start part region p) h (sym (in_steps part region p) ∙ read) in
    let pads = bind_ok (pads_start part region start.0.0 p) (after_pads part) h start.2 in
    let types = bind_ok (in_table byte part pads.0.1) (after_types part pads.0) h pads.2 in
    let table = bind_ok (type_table part types.0.0 pads.0.1) (after_table part pads.0) h types.2 in
    let sites = bind_ok (in_table byte part table.0.1) (after_sites part pads.0 table.0) h table.2 in
    let plain = bind_ok (demand (is_plain_encoding sites.0.0) Encoding (part.file_at + table.0.1)) (after_plain part pads.0 table.0 sites.0) h sites.2 in
    let size = bind_ok (in_table uleb part sites.0.1) (after_size pads.0 table.0 sites.0) h plain.2 in
    let forward = (pads_reads part region start.0.0 p pads.0 pads.1).forward in
    let made = head_same (head_for pads.0 table.0 sites.0 size.0) h size.2 in
    subst (λ x. TypesFound p x.types) made
    (less_found p pads.0.1 table.0.0 (omega (arith, forward)) (types_found part types.0.0 pads.0.1 table.0 table.1))
