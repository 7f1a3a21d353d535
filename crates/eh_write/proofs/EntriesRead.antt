-- The entry of a type is read as the type.
use Rattle.std.proofs.Common.{◌≡◌, ◌≢◌, ◌+◌, ◌-◌, ◌*◌, ◌<◌, ◌≤◌, ◌^◌, ◌==◌, ℕ, zero, suc, Bool, true, false, nat_le, List, [], ◌∷◌, ◌++◌, length, drop, Ok, refl, ap, sym, subst, ◌∙◌, arith, append_assoc, ◌⊎◌, inl, inr, if◌then◌else◌}
use Rattle.std.specs.Prelude.{Some, slice_get, reverse, get_or}
use Rattle.std.specs.Int.{w32, to_le_bytes}
use Rattle.std.proofs.lemmas.Bool.Decides.{nat_tests}
use Rattle.std.proofs.lemmas.List.{get_or-reverse, length-reverse}
use Rattle.std.proofs.lemmas.Option.{slice_get-get_or, slice_get_within, get_or_from_slice_get}
use Rattle.eh_bytes.specs.declared.frames.Region64.{Region64}
use Rattle.eh_bytes.specs.Memory.{Part, Memory}
use Rattle.eh_bytes.specs.Field.{at, behind}
use Rattle.eh_bytes.specs.Encoded.{encoded}
use Rattle.eh_bytes.specs.Listed.{ListedTable}
use Rattle.table_forms.specs.Fault.{with_reason, table_reason}
use Rattle.table_forms.specs.LsdaHead.{in_table}
use Rattle.table_forms.specs.LsdaTypes.{entry_at}
use Rattle.eh_write.specs.Written.{entry_bytes, entries_from, front_bytes, table_bytes}
use Rattle.eh_write.specs.CanWrite.{TypesAreNear}
use Rattle.eh_write.specs.Distance.{distance_bytes, IsNear}
use Rattle.eh_write.proofs.DistanceRead.{zero_read, relative_read}
use Rattle.eh_write.proofs.Reading.{Stands, next_stands}
use Rattle.eh_write.proofs.Shape.{IsLaid, entries_address, actions_place, entries_place, base_place, from_lists}
use Rattle.eh_write.proofs.HeadRead.{types_of, head_of}
use Rattle.eh_write.proofs.Lengths.{base_is, front_is, table_length, four_bytes}

-- a type that the four bytes at a place lead to
abbrev pub IsReached : ℕ → ℕ → Type 0
IsReached place t = (t ≡ 0) ⊎ (IsNear place t × (t ≢ place))

type_read : (place t : ℕ) (rest : List ℕ) → t < 2 ^ 64 → IsReached place t → encoded 27 place (entry_bytes place t ++ rest) ≡ Ok (record { value = t; indirect = false }, 4)
type_read place t rest fits (inl none) =
    let is : (t == 0) ≡ true = grind (arith, nat_tests, none) in
    ap (λ b. encoded 27 place ((if b then to_le_bytes w32 0 else distance_bytes place t) ++ rest)) is ∙ zero_read place rest ∙
    ap (λ v. Ok (record { value = v; indirect = false }, 4)) (sym none)
type_read place t rest fits (inr (near, other)) = by_zero (t == 0) refl
  where
    by_zero : (b : Bool) → (t == 0) ≡ b → encoded 27 place ((if b then to_le_bytes w32 0 else distance_bytes place t) ++ rest) ≡ Ok (record { value = t; indirect = false }, 4)
    by_zero true e = let none : t ≡ 0 = grind (arith, nat_tests, e) in zero_read place rest ∙ ap (λ v. Ok (record { value = v; indirect = false }, 4)) (sym none)
    by_zero false e = relative_read place t rest fits near other

-- what stands behind a type's entry
pub entry_stands : (bytes : List ℕ) (p place : ℕ) (ts rest : List ℕ) (k t : ℕ) → Stands bytes p (entries_from place ts) rest → slice_get ts k ≡ Some t →
    (more : List ℕ) × (drop (p + 4 * k) bytes ≡ entry_bytes (place + 4 * k) t ++ more)
entry_stands bytes p place [] rest k t here at = absurd cc
entry_stands bytes p place (u ∷ ts) rest zero t here at =
    let same : u ≡ t = some_same u t at in
    let first : p + 4 * 0 ≡ p = omega arith in
    let where_it_is : place + 4 * 0 ≡ place = omega arith in (
      entries_from (place + 4) ts ++ rest,
      ap (λ q. drop q bytes) first ∙ here ∙ append_assoc (entry_bytes place u) (entries_from (place + 4) ts) rest ∙
          ap (λ v. entry_bytes place v ++ (entries_from (place + 4) ts ++ rest)) same ∙
          ap (λ q. entry_bytes q t ++ (entries_from (place + 4) ts ++ rest)) (sym where_it_is),
    )
  where
    some_same : (x y : ℕ) → Some x ≡ Some y → x ≡ y
    some_same x y e = cc
entry_stands bytes p place (u ∷ ts) rest (suc k) t here at =
    let first : Stands bytes p (entry_bytes place u) (entries_from (place + 4) ts ++ rest) = here ∙ append_assoc (entry_bytes place u) (entries_from (place + 4) ts) rest in
    let second : Stands bytes (p + 4) (entries_from (place + 4) ts) rest =
    ap (λ n. drop (p + n) bytes) (sym (four_bytes place u)) ∙ next_stands bytes p (entry_bytes place u) (entries_from (place + 4) ts ++ rest) first in
    let later = entry_stands bytes (p + 4) (place + 4) ts rest k t second at in
    let there : p + 4 * suc k ≡ p + 4 + 4 * k = omega arith in
    let address : place + 4 * suc k ≡ place + 4 + 4 * k = omega arith in
    (later.0, ap (λ q. drop q bytes) there ∙ later.1 ∙ ap (λ q. entry_bytes q t ++ later.0) (sym address))

pub field_read : (part : Part) (p place t : ℕ) (more : List ℕ) → t < 2 ^ 64 → IsReached place t → drop p part.bytes ≡ entry_bytes place t ++ more →
    in_table (encoded 27 place) part p ≡ Ok (record { value = t; indirect = false }, p + 4)
field_read part p place t more fits reached here =
    ap (λ xs. with_reason table_reason (part.file_at + p) (behind p (encoded 27 place xs))) here ∙
    ap (λ r. with_reason table_reason (part.file_at + p) (behind p r)) (type_read place t more fits reached)

-- the types are reached from their entries
pub reached_at : (first end base : ℕ) (ts : List ℕ) (j t : ℕ) → TypesAreNear first end base ts → slice_get ts j ≡ Some t → first ≤ base - 4 - 4 * j → base - 4 - 4 * j < end →
    IsReached (base - 4 - 4 * j) t
reached_at first end base [] j t near at above below = absurd cc
reached_at first end base (u ∷ ts) zero t near at above below =
    let here : base - 4 - 4 * 0 ≡ base - 4 = omega arith in
    subst (IsReached (base - 4 - 4 * 0)) (some_same u t at) (subst (λ q. IsReached q u) (sym here) (reached near.0))
  where
    some_same : (x y : ℕ) → Some x ≡ Some y → x ≡ y
    some_same x y e = cc

    apart : (u < first) ⊎ (end ≤ u) → u ≡ base - 4 → ⊥
    apart (inl before) same = absurd (omega (arith, before, same, above))
    apart (inr behind) same = absurd (omega (arith, behind, same, below))

    reached : (u ≡ 0) ⊎ (IsNear (base - 4) u × ((u < first) ⊎ (end ≤ u))) → IsReached (base - 4) u
    reached (inl none) = inl none
    reached (inr n) = inr (n.0, apart n.1)
reached_at first end base (u ∷ ts) (suc j) t near at above below =
    let there : base - 4 - 4 * suc j ≡ base - 4 - 4 - 4 * j = omega arith in
    subst (λ q. IsReached q t) (sym there) (reached_at first end (base - 4) ts j t near.1 at (omega (arith, above)) (omega (arith, below)))

-- the last of the types stands first
pub turned : (ts : List ℕ) (j t : ℕ) → slice_get ts j ≡ Some t → slice_get (reverse ts) (length ts - 1 - j) ≡ Some t
turned ts j t at =
    let inside = slice_get_within ts j t at in
    let k = length ts - 1 - j in
    let short : k < length (reverse ts) = omega (arith, inside, length-reverse ts) in
    let same : length ts - 1 - k ≡ j = omega (arith, inside) in
    slice_get-get_or (reverse ts) k 0 short ∙ ap Some (get_or-reverse ts k 0 (omega (arith, inside)) ∙ ap (λ i. get_or ts i 0) same ∙ get_or_from_slice_get ts j t 0 at)

-- the conditions on the types of a table that stands at a place of a part
pub record TypesFit (list : ListedTable) (address : ℕ) (part : Part) (p : ℕ) (rest : List ℕ) : Type 0 where
  pub laid : IsLaid list (entries_address list address) part.bytes p rest
  pub here : part.address + p ≡ address
  pub words : (i t : ℕ) → slice_get list.types i ≡ Some t → t < 2 ^ 64
  pub near : TypesAreNear address (address + length (table_bytes list address)) (address + length (front_bytes list) + 4 * length list.types) list.types

pub entry_read : (list : ListedTable) (address : ℕ) (memory : Memory) (part : Part) (region : Region64) (p named_at i t : ℕ) (rest : List ℕ) →
    TypesFit list address part p rest → 0 < i → slice_get list.types (i - 1) ≡ Some t →
    entry_at memory part (head_of list region p) (types_of list p) named_at i ≡ Ok t
unfolding entry_at
entry_read list address memory part region p named_at i t rest fit some at =
    let n = length list.types in
    let few = slice_get_within list.types (i - 1) t at in
    let base = base_place list p in
    let e = entries_address list address in
    let k = n - 1 - (i - 1) in
    let q = base - i * 4 in
    let inside : nat_le (actions_place list p + i * 4) base ≡ true = grind (arith, nat_tests, base_is list p, few, some) in
    let there : entries_place list p + 4 * k ≡ q = omega (arith, base_is list p, few, some) in
    let address_of : e + 4 * k ≡ part.address + q = omega (arith, base_is list p, front_is list p, few, some, fit.here) in
    let stands = entry_stands part.bytes (entries_place list p) e (reverse list.types) (from_lists list rest) k t fit.laid.entries (turned list.types (i - 1) t at) in
    let here : drop q part.bytes ≡ entry_bytes (part.address + q) t ++ stands.0 =
    ap (λ x. drop x part.bytes) (sym there) ∙ stands.1 ∙ ap (λ x. entry_bytes x t ++ stands.0) address_of in
    let last = address + length (front_bytes list) + 4 * n in
    let place : last - 4 - 4 * (i - 1) ≡ part.address + q = omega (arith, base_is list p, front_is list p, few, some, fit.here) in
    let reached : IsReached (part.address + q) t =
    subst (λ x. IsReached x t) place
    (reached_at address (address + length (table_bytes list address)) last list.types (i - 1) t fit.near at
    (omega (arith, few, some)) (omega (arith, few, some, table_length list address))) in
    rw inside (rw (field_read part q (part.address + q) t stands.0 (fit.words (i - 1) t at) reached here) refl)
