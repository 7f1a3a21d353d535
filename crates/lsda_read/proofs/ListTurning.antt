-- What one index adds to what is refused of its list.
use Rattle.std.proofs.Common.{◌≡◌, ◌+◌, ◌*◌, ◌-◌, ℕ, zero, Bool, true, false, nat_le, nat_lt, Option, Some, None, Ok, Err, refl, ap, sym, subst, ◌∙◌, arith}
use Rattle.std.proofs.lemmas.Bool.Decides.{nat_tests}
use Rattle.eh_bytes.specs.Memory.{Part, Memory}
use Rattle.eh_bytes.specs.Field.{Field, Reading, at}
use Rattle.eh_bytes.specs.Cursor.{Cursor}
use Rattle.eh_bytes.specs.Encoded.{encoded}
use Rattle.table_forms.specs.declared.reason.Reason.TheVariants.{LebRange, FilterOutside, SpecificationOpen}
use Rattle.table_forms.specs.Fault.{Fault, fault, joined, least, refusal_of, demand, ◌>>=◌}
use Rattle.table_forms.specs.LsdaHead.{Head, Types, in_table}
use Rattle.table_forms.specs.LsdaTypes.{entry_at, index_at, followed}
use Rattle.table_forms.proofs.Least.{joined_none}
use Rattle.lsda_read.specs.declared.known.ListEnd.{ListEnd}
use Rattle.lsda_read.specs.KnownLists.{IsEntryJudged, IsListOver}
use Rattle.lsda_read.proofs.Indices.{list_ends, list_fails}

-- what a cursor reads at its position
pub cursor_reads : {A : Type 0} (field : Field A) (c d : Cursor) (r : Reading A) → c ≡ d → at field c.bytes c.position ≡ r → at field d.bytes d.position ≡ r
cursor_reads field c d r same reads = let P : Cursor → Type 0 = λ x. at field x.bytes x.position ≡ r in subst P same reads

pub over_zero : (memory : Memory) (part : Part) (h : Head) (types : Types) (stands : Option Fault) (p next : ℕ) (e : ListEnd) → e ≡ record { outside = false; cut = false } →
    ((first : ℕ) → index_at part first p ≡ Ok (zero, next)) → IsListOver memory part h types stands stands p e
over_zero memory part h types stands p next e is read =
    let P : ListEnd → Type 0 = λ x. IsListOver memory part h types stands stands p x in
    subst P (sym is) (record { more = None; stands = joined_none stands; rest = λ named_at first n. list_ends memory part h types named_at first p next n (read first) })

pub over_ranged : (memory : Memory) (part : Part) (h : Head) (types : Types) (stands now : Option Fault) (p : ℕ) (e : ListEnd) → e ≡ record { outside = false; cut = false } →
    ((first : ℕ) → index_at part first p ≡ Err (fault LebRange (part.file_at + p))) → now ≡ joined stands (Some (fault LebRange (part.file_at + p))) →
    IsListOver memory part h types stands now p e
over_ranged memory part h types stands now p e is read stood =
    let f = fault LebRange (part.file_at + p) in
    let P : ListEnd → Type 0 = λ x. IsListOver memory part h types stands now p x in
    subst P (sym is) (record { more = Some f; stands = stood; rest = λ named_at first n. list_fails memory part h types named_at first p n f (read first) })

pub over_cut : (memory : Memory) (part : Part) (h : Head) (types : Types) (stands : Option Fault) (p : ℕ) (e : ListEnd) → e ≡ record { outside = false; cut = true } →
    ((first : ℕ) → index_at part first p ≡ Err (fault SpecificationOpen (part.file_at + first))) → IsListOver memory part h types stands stands p e
over_cut memory part h types stands p e is read =
    let P : ListEnd → Type 0 = λ x. IsListOver memory part h types stands stands p x in
    subst P (sym is) (record {
      more = None;
      stands = joined_none stands;
      rest = λ named_at first n. list_fails memory part h types named_at first p n (fault SpecificationOpen (part.file_at + first)) (read first);
    })

-- ---- entries
pub entry_outside : (memory : Memory) (part : Part) (h : Head) (types : Types) (stands now : Option Fault) (named_at i : ℕ) → nat_le (h.actions_at + i * types.size) types.base ≡ false →
    now ≡ joined stands (least (refusal_of (entry_at memory part h types named_at i))) → IsEntryJudged memory part h types stands now named_at i true
unfolding entry_at least
entry_outside memory part h types stands now named_at i out stood =
    record {
      more = None;
      stands = stood;
      entry = λ place. ap (λ b. least (refusal_of (demand b FilterOutside (part.file_at + place) >>= (λ inside.
          in_table (encoded types.encoding (part.address + (types.base - i * types.size))) part (types.base - i * types.size) >>= (λ entry.
          followed memory (part.file_at + (types.base - i * types.size)) entry.0.indirect entry.0.value))))) out;
    }

pub entry_inside : (memory : Memory) (part : Part) (h : Head) (types : Types) (stands now : Option Fault) (named_at i : ℕ) → nat_le (h.actions_at + i * types.size) types.base ≡ true →
    now ≡ joined stands (least (refusal_of (entry_at memory part h types named_at i))) → IsEntryJudged memory part h types stands now named_at i false
unfolding entry_at
entry_inside memory part h types stands now named_at i within stood =
    let read = in_table (encoded types.encoding (part.address + (types.base - i * types.size))) part (types.base - i * types.size) >>= (λ entry.
    followed memory (part.file_at + (types.base - i * types.size)) entry.0.indirect entry.0.value) in
    record {
      more = least (refusal_of (entry_at memory part h types named_at i));
      stands = stood;
      entry = λ place.
          ap (λ b. least (refusal_of (demand b FilterOutside (part.file_at + place) >>= (λ inside. read)))) within ∙
          sym (ap (λ b. least (refusal_of (demand b FilterOutside (part.file_at + named_at) >>= (λ inside. read)))) within) ∙
          joined_none (least (refusal_of (entry_at memory part h types named_at i)));
    }

pub end_is : (e : ListEnd) (cut : Bool) → e.outside ≡ false → e.cut ≡ cut → e ≡ record { outside = false; cut = cut }
end_is e cut outside is = let f : Bool → ListEnd = λ o. record { outside = o; cut = e.cut } in let g : Bool → ListEnd = λ k. record { outside = false; cut = k } in ap f outside ∙ ap g is

pub entry_judged : (memory : Memory) (part : Part) (h : Head) (types : Types) (stands now : Option Fault) (named_at i : ℕ) →
    now ≡ joined stands (least (refusal_of (entry_at memory part h types named_at i))) →
    IsEntryJudged memory part h types stands now named_at i (nat_lt types.base (h.actions_at + i * types.size))
entry_judged memory part h types stands now named_at i stood = by (nat_lt types.base (h.actions_at + i * types.size)) refl
  where
    by : (b : Bool) → nat_lt types.base (h.actions_at + i * types.size) ≡ b → IsEntryJudged memory part h types stands now named_at i b
    by true out = let e : nat_le (h.actions_at + i * types.size) types.base ≡ false = grind (arith, nat_tests, out) in entry_outside memory part h types stands now named_at i e stood
    by false within = let e : nat_le (h.actions_at + i * types.size) types.base ≡ true = grind (arith, nat_tests, within) in entry_inside memory part h types stands now named_at i e stood
