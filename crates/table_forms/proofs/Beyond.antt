-- Behind the end of the bytes a field of fixed size is cut.
use Rattle.std.proofs.Common.{◌≡◌, ◌≤◌, ◌+◌, ℕ, suc, List, [], length, Option, Some, None, Err, refl, ap, ◌∙◌, arith}
use Rattle.std.proofs.lemmas.List.{drop_all}
use mir.Syntax.{w8, w16, w32, w64, w128}
use Rattle.eh_bytes.specs.declared.error.ByteError.TheVariants.{Truncated}
use Rattle.eh_bytes.specs.Field.{at, behind}
use Rattle.eh_bytes.specs.Encoded.{Format, unsigned, signed, uleb128, sleb128, encoding_format, format_size, raw, encoded, applies}
use Rattle.eh_bytes.specs.Memory.{Part, Memory}
use Rattle.eh_bytes.specs.Leb128.{spelled_within, grouped, uleb, sleb}
use Rattle.table_forms.specs.declared.reason.Reason.TheVariants.{SpecificationOpen}
use Rattle.table_forms.specs.Fault.{fault, least}
use Rattle.table_forms.specs.LsdaHead.{Head, Types}
use Rattle.table_forms.specs.declared.found.Action.TheVariants.{Outside}
use Rattle.table_forms.specs.LsdaChain.{action_in, with_filter}
use Rattle.std.specs.Prelude.{Bool, true, false, nat_lt, if◌then◌else◌}
use Rattle.table_forms.specs.LsdaTypes.{cut_by, indices_from, indices_within, list_at, list_faults}

raw_of_none : (f : Option Format) (size : ℕ) → format_size f ≡ Some size → raw f [] ≡ Err Truncated
unfolding raw
raw_of_none None size sized = cc
raw_of_none (Some uleb128) size sized = cc
raw_of_none (Some sleb128) size sized = cc
raw_of_none (Some (unsigned w8)) size sized = refl
raw_of_none (Some (unsigned w16)) size sized = refl
raw_of_none (Some (unsigned w32)) size sized = refl
raw_of_none (Some (unsigned w64)) size sized = refl
raw_of_none (Some (unsigned w128)) size sized = refl
raw_of_none (Some (signed w8)) size sized = refl
raw_of_none (Some (signed w16)) size sized = refl
raw_of_none (Some (signed w32)) size sized = refl
raw_of_none (Some (signed w64)) size sized = refl
raw_of_none (Some (signed w128)) size sized = refl

pub cut_behind : (encoding address p size : ℕ) (bytes : List ℕ) → length bytes ≤ p → format_size (encoding_format encoding) ≡ Some size →
    at (encoded encoding address) bytes p ≡ Err Truncated
unfolding encoded
cut_behind encoding address p size bytes short sized =
    ap (λ xs. behind p (encoded encoding address xs)) (drop_all p bytes short) ∙
    ap (λ r. behind p (applies encoding address r)) (raw_of_none (encoding_format encoding) size sized)

pub uleb_behind : (p : ℕ) (bytes : List ℕ) → length bytes ≤ p → at uleb bytes p ≡ Err Truncated
unfolding uleb grouped spelled_within
uleb_behind p bytes short = ap (λ xs. behind p (uleb xs)) (drop_all p bytes short)

pub sleb_behind : (p : ℕ) (bytes : List ℕ) → length bytes ≤ p → at sleb bytes p ≡ Err Truncated
unfolding sleb grouped spelled_within
sleb_behind p bytes short = ap (λ xs. behind p (sleb xs)) (drop_all p bytes short)

-- no record lies behind the end of the bytes
pub action_behind : (bytes : List ℕ) (actions_at p : ℕ) → length bytes ≤ p → action_in bytes actions_at p ≡ Outside
unfolding action_in
action_behind bytes actions_at p short =
    ap (λ r. if nat_lt p actions_at then Outside else with_filter bytes p r) (sleb_behind p bytes short) ∙ same (nat_lt p actions_at)
  where
    same : (b : Bool) → (if b then Outside else Outside) ≡ Outside
    same true = refl
    same false = refl

-- a list behind the end of the bytes is open
pub list_behind : (memory : Memory) (part : Part) (h : Head) (types : Types) (named_at n : ℕ) → length part.bytes ≤ types.base + n →
    least (list_faults memory part h types named_at (list_at part types n)) ≡ Some (fault SpecificationOpen (part.file_at + (types.base + n)))
unfolding indices_within least
list_behind memory part h types named_at n short =
    let first = types.base + n in
    ap (λ m. least (list_faults memory part h types named_at (indices_within m part first first))) (let e : 1 + length part.bytes ≡ suc (length part.bytes) = omega arith in e) ∙
    ap (λ r. least (list_faults memory part h types named_at (indices_from (cut_by part first first r) (indices_within (length part.bytes) part first)))) (uleb_behind first part.bytes short)
