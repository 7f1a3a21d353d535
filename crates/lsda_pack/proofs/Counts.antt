-- What is counted of tables one after the other is what packing counts.
use Rattle.std.proofs.Common.{◌≡◌, ◌+◌, ◌-◌, ◌≤◌, ℕ, suc, Global, Bool, true, false, List, [], ◌∷◌, length, refl, ap, sym, subst, ◌∙◌, arith}
use Rattle.std.specs.Prelude.{cond, filter, fold, option_map, Option, Some, None, IfSome, Vec, if◌then◌else◌}
use Rattle.std.specs.List.{AllByRecursion}
use Rattle.eh_bytes.specs.Memory.{Memory}
use Rattle.lsda_pack.specs.declared.placing.Placing.{Placing}
use Rattle.lsda_pack.specs.declared.reach.TableTaken.{TableTaken}
use Rattle.lsda_pack.specs.Counted.{HasRoom, not_packed, put_bytes, put_placing}
use Rattle.lsda_pack.specs.MayPack.{packed_for}
use Rattle.lsda_pack.specs.PackedImage.{Packing, packing_of, rewritten, spare}
use Rattle.lsda_pack.specs.Placed.{Placed}
use Rattle.lsda_pack.specs.Placings.{IsPlacing, ArePlacings}
use Rattle.lsda_pack.specs.Reaches.{table_taken}
use Rattle.lsda_pack.specs.Rule.{bytes_for, is_packed}
use Rattle.lsda_pack.proofs.Sizes.{FitsIn}

-- ---- a table at a time
abbrev with_table : Packing → Placed → Packing
with_table p t =
    if is_packed t then record { bytes = rewritten p.bytes t; tables = p.tables + 1; packed = p.packed + 1; saved = p.saved + spare t }
    else record { bytes = p.bytes; tables = p.tables + 1; packed = p.packed; saved = p.saved }

one_put : (p : Packing) (t : Placed) → put_bytes p (table_taken t).memory (packed_for t) ≡ with_table p t
unfolding rewritten
one_put p t = by (is_packed t)
  where
    by : (b : Bool) → put_bytes p (table_taken t).memory (if b then Some (bytes_for t) else None) ≡
        (if b then record { bytes = rewritten p.bytes t; tables = p.tables + 1; packed = p.packed + 1; saved = p.saved + spare t }
        else record { bytes = p.bytes; tables = p.tables + 1; packed = p.packed; saved = p.saved })
    by true = refl
    by false = refl

one_placed : (memory : Memory) (p : Packing) (x : Placing) (t : Placed) → IsPlacing memory x t → put_placing p x ≡ with_table p t
one_placed memory p x t is =
    ap (λ k. put_bytes p k.memory (option_map (λ b. b.items) x.packed)) is.taken ∙ ap (put_bytes p (table_taken t).memory) is.packed ∙ one_put p t

placed_counted : (memory : Memory) (xs : List Placing) (ts : List Placed) (p : Packing) → ArePlacings memory xs ts → fold put_placing p xs ≡ fold with_table p ts
placed_counted memory [] [] p are = refl
placed_counted memory [] (t ∷ ts) p are = absurd are
placed_counted memory (x ∷ xs) [] p are = absurd are
placed_counted memory (x ∷ xs) (t ∷ ts) p are =
    ap (λ q. fold put_placing q xs) (one_placed memory p x t are.0) ∙ placed_counted memory xs ts (with_table p t) are.1

-- ---- all of them
abbrev counted : Packing → ℕ → List Placed → Packing
counted p n chosen = record {
  bytes = fold rewritten p.bytes chosen;
  tables = p.tables + n;
  packed = p.packed + length chosen;
  saved = fold (λ a t. a + spare t) p.saved chosen;
}

abbrev one_counted : Bool → Packing → Placed → Packing
one_counted b p t =
    if b then record { bytes = rewritten p.bytes t; tables = p.tables + 1; packed = p.packed + 1; saved = p.saved + spare t }
    else record { bytes = p.bytes; tables = p.tables + 1; packed = p.packed; saved = p.saved }

one_more : (b : Bool) (p : Packing) (t : Placed) (n : ℕ) (chosen : List Placed) → counted (one_counted b p t) n chosen ≡ counted p (suc n) (cond b (t ∷ chosen) chosen)
one_more true p t n chosen =
    let bytes = fold rewritten (rewritten p.bytes t) chosen in
    let saved = fold (λ a t. a + spare t) (p.saved + spare t) chosen in
    let tables : p.tables + 1 + n ≡ p.tables + suc n = omega arith in
    let packed : p.packed + 1 + length chosen ≡ p.packed + suc (length chosen) = omega arith in
    ap (λ (x : ℕ). record { bytes = bytes; tables = x; packed = p.packed + 1 + length chosen; saved = saved }) tables ∙
    ap (λ (x : ℕ). record { bytes = bytes; tables = p.tables + suc n; packed = x; saved = saved }) packed
one_more false p t n chosen =
    let bytes = fold rewritten p.bytes chosen in
    let saved = fold (λ a t. a + spare t) p.saved chosen in
    let tables : p.tables + 1 + n ≡ p.tables + suc n = omega arith in
    ap (λ (x : ℕ). record { bytes = bytes; tables = x; packed = p.packed + length chosen; saved = saved }) tables

all_counted : (p : Packing) (ts : List Placed) → fold with_table p ts ≡ counted p (length ts) (filter is_packed ts)
all_counted p [] =
    let tables : p.tables ≡ p.tables + 0 = omega arith in
    let packed : p.packed ≡ p.packed + 0 = omega arith in
    ap (λ (x : ℕ). record { bytes = p.bytes; tables = x; packed = p.packed; saved = p.saved }) tables ∙
    ap (λ (x : ℕ). record { bytes = p.bytes; tables = p.tables + 0; packed = x; saved = p.saved }) packed
all_counted p (t ∷ ts) = all_counted (one_counted (is_packed t) p t) ts ∙ one_more (is_packed t) p t (length ts) (filter is_packed ts)

from_none : (file : List ℕ) (n : ℕ) (chosen : List Placed) → counted (not_packed file) n chosen ≡
    record { bytes = fold rewritten file chosen; tables = n; packed = length chosen; saved = fold (λ a t. a + spare t) 0 chosen }
from_none file n chosen =
    let bytes = fold rewritten file chosen in
    let saved = fold (λ a t. a + spare t) 0 chosen in
    let tables : 0 + n ≡ n = omega arith in
    let packed : 0 + length chosen ≡ length chosen = omega arith in
    ap (λ (x : ℕ). record { bytes = bytes; tables = x; packed = 0 + length chosen; saved = saved }) tables ∙
    ap (λ (x : ℕ). record { bytes = bytes; tables = n; packed = x; saved = saved }) packed

packing_is : (file : List ℕ) (ts : List Placed) → packing_of file ts ≡
    record { bytes = fold rewritten file (filter is_packed ts); tables = length ts; packed = length (filter is_packed ts); saved = fold (λ a t. a + spare t) 0 (filter is_packed ts) }
unfolding packing_of
packing_is file ts = refl

pub counts_are : (memory : Memory) (file : List ℕ) (xs : List Placing) (ts : List Placed) → ArePlacings memory xs ts → fold put_placing (not_packed file) xs ≡ packing_of file ts
counts_are memory file xs ts are =
    placed_counted memory xs ts (not_packed file) are ∙ all_counted (not_packed file) ts ∙ from_none file (length ts) (filter is_packed ts) ∙ sym (packing_is file ts)

-- ---- there is room for what fits
some_room : (size : ℕ) (x : Placing) (t : Placed) → x.taken ≡ table_taken t → option_map (λ b. b.items) x.packed ≡ Some (bytes_for t) → FitsIn size t → HasRoom size x
some_room size x t taken packed fits = by x.packed packed
  where
    some_same : (a b : List ℕ) → Some a ≡ Some b → a ≡ b
    some_same a b e = cc

    by : (o : Option (Vec ℕ Global)) → option_map (λ b. b.items) o ≡ Some (bytes_for t) →
        IfSome o (λ b. (length b.items ≤ x.taken.memory.end - x.taken.memory.first) × (x.taken.memory.place + (x.taken.memory.end - x.taken.memory.first) ≤ size))
    by None e = absurd cc
    by (Some b) e =
        subst (λ (k : TableTaken). (length b.items ≤ k.memory.end - k.memory.first) × (k.memory.place + (k.memory.end - k.memory.first) ≤ size)) (sym taken)
        (subst (λ bs. length bs ≤ t.end - t.first) (sym (some_same b.items (bytes_for t) e)) fits.fewer, fits.inside)

no_room : (size : ℕ) (x : Placing) → option_map (λ b. b.items) x.packed ≡ None → HasRoom size x
no_room size x packed = by x.packed packed
  where
    by : (o : Option (Vec ℕ Global)) → option_map (λ b. b.items) o ≡ None →
        IfSome o (λ b. (length b.items ≤ x.taken.memory.end - x.taken.memory.first) × (x.taken.memory.place + (x.taken.memory.end - x.taken.memory.first) ≤ size))
    by None e = tt
    by (Some b) e = absurd cc

pub have_room : (memory : Memory) (size : ℕ) (xs : List Placing) (ts : List Placed) → ArePlacings memory xs ts → AllByRecursion (FitsIn size) (filter is_packed ts) → AllByRecursion (HasRoom size) xs
have_room memory size [] [] are fits = tt
have_room memory size [] (t ∷ ts) are fits = absurd are
have_room memory size (x ∷ xs) [] are fits = absurd are
have_room memory size (x ∷ xs) (t ∷ ts) are fits = by (is_packed t) refl (λ f. have_room memory size xs ts are.1 f) fits
  where
    by : (b : Bool) → is_packed t ≡ b → (AllByRecursion (FitsIn size) (filter is_packed ts) → AllByRecursion (HasRoom size) xs) →
        AllByRecursion (FitsIn size) (cond b (t ∷ filter is_packed ts) (filter is_packed ts)) → AllByRecursion (HasRoom size) (x ∷ xs)
    by true e more f = (some_room size x t are.0.taken (are.0.packed ∙ ap (λ b. if b then Some (bytes_for t) else None) e) f.0, more f.1)
    by false e more f = (no_room size x (are.0.packed ∙ ap (λ b. if b then Some (bytes_for t) else None) e), more f)
