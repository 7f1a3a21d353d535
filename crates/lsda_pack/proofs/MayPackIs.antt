-- What is judged of a table by what is read of it is when it is packed.
use Rattle.std.proofs.Common.{◌≡◌, ◌+◌, ◌-◌, ◌==◌, ℕ, Bool, true, false, List, [], ◌∷◌, length, map, Option, Some, None, refl, ap, sym, subst, ◌∙◌}
use Rattle.std.proofs.lemmas.List.{length-map}
use Rattle.std.specs.Prelude.{◌&&◌, nat_le, option_map}
use Rattle.eh_bytes.specs.declared.frames.Region64.{Region64}
use Rattle.eh_bytes.specs.Listed.{ListedTable}
use Rattle.eh_bytes.specs.Memory.{Part}
use Rattle.table_forms.specs.Keys.{keys}
use Rattle.table_forms.specs.Lsda.{Table}
use Rattle.table_forms.specs.LsdaHead.{Head, Types}
use Rattle.table_forms.specs.WrittenTable.{list_size}
use Rattle.lsda_read.specs.declared.shape.Shape.{Shape}
use Rattle.lsda_read.specs.Names.{types_named, lists_named}
use Rattle.lsda_pack.specs.Ends.{list_stop, stop_of}
use Rattle.lsda_pack.specs.MayPack.{stand_from, names_stand, packed_for, may_be, shorter_bytes, placed_as, IsHead}
use Rattle.lsda_pack.specs.PackedBytes.{packed_bytes, base_for}
use Rattle.lsda_pack.specs.PackedLists.{packed_lists}
use Rattle.lsda_pack.specs.ReadLists.{lists_read}
use Rattle.lsda_pack.specs.Rule.{is_plain, pads_count, are_near, are_listed, lists_stand, may_pack, is_packed, bytes_for}
use Rattle.lsda_pack.specs.TableEnd.{table_end}
use Rattle.lsda_read.specs.WholeTable.{indices_at, IsWhole}
use Rattle.lsda_pack.proofs.StopsAre.{list_is, stop_is}

abbrev pairs : {A : Type 0} → (ℕ → A) → List ℕ → List (ℕ × A)
pairs {A} f ks = map {B = ℕ × A} (λ k. (k, f k)) ks

listed_is : (part : Part) (types : Types) (f : ℕ → List ℕ) (n : ℕ) (js : List ℕ) → are_listed part types n (pairs f js) ≡ stand_from part.bytes types.base f n js
listed_is part types f n [] = refl
listed_is part types f n (j ∷ js) =
    ap (λ e. j == n + 1 && e == types.base + n + list_size (f j) && are_listed part types (n + list_size (f j)) (pairs f js))
    (list_is part (types.base + j - 1) (1 + length part.bytes) (types.base + j - 1)) ∙
    ap (λ b. j == n + 1 && list_stop part.bytes types.base j == types.base + n + list_size (f j) && b) (listed_is part types f (n + list_size (f j)) js)

names_is : (part : Part) (o : Option Types) (f : ℕ → List ℕ) (js : List ℕ) → lists_stand part o (pairs f js) ≡ names_stand part.bytes (option_map (λ (x : Types). x.base) o) f js
names_is part None f js = ap (λ n. n == 0) (length-map js (λ j. (j, f j)))
names_is part (Some types) f js = listed_is part types f 0 js

one_by_one : (a b c d e : Bool) → (a && (b && c && d && e)) ≡ (a && b && c && d && e)
one_by_one true b c d e = refl
one_by_one false b c d e = refl

-- a table that ends here
abbrev by_end : ℕ → Region64 → ℕ → ℕ → Part → Shape → Option ℕ → Table → ListedTable → ℕ → Option (List ℕ)
by_end first region place file_end part shape base t list end =
    shorter_bytes (nat_le (place + (end - first)) file_end && may_be part.bytes base t (keys (lists_named t)) shape region.start first end list) (packed_bytes list first) (end - first)

named_is : (first : ℕ) (region : Region64) (place file_end : ℕ) (part : Part) (shape : Shape) (h : Head) (t : Table) (end : ℕ) → IsWhole t →
    by_end first region place file_end part shape (option_map (λ (x : Types). x.base) h.types) t (packed_lists (lists_read region.start t)) end ≡
    shorter_bytes (nat_le (place + (end - first)) file_end && is_plain shape && pads_count region.start t.sites &&
    are_near first end (base_for (packed_lists (lists_read region.start t)) first) (packed_lists (lists_read region.start t)).types && lists_stand part h.types t.lists)
    (packed_bytes (packed_lists (lists_read region.start t)) first) (end - first)
named_is first region place file_end part shape h t end w =
    let list = packed_lists (lists_read region.start t) in
    let stand = ap (lists_stand part h.types) w.lists ∙ names_is part h.types (indices_at t) (keys (lists_named t)) in
    let near = are_near first end (base_for list first) list.types in
    let names = names_stand part.bytes (option_map (λ (x : Types). x.base) h.types) (indices_at t) (keys (lists_named t)) in
    ap (λ b. shorter_bytes b (packed_bytes list first) (end - first))
    (one_by_one (nat_le (place + (end - first)) file_end) (is_plain shape) (pads_count region.start t.sites) near names) ∙
    ap (λ b. shorter_bytes (nat_le (place + (end - first)) file_end && is_plain shape && pads_count region.start t.sites && are_near first end (base_for list first) list.types && b)
    (packed_bytes list first) (end - first)) (sym stand)

placed_is : (first : ℕ) (region : Region64) (place file_end : ℕ) (part : Part) (shape : Shape) (h : Head) (t : Table) → IsWhole t →
    by_end first region place file_end part shape (option_map (λ (x : Types). x.base) h.types) t (packed_lists (lists_read region.start t)) (part.address + table_end part h t) ≡
    packed_for (placed_as first region place file_end part shape h t)
unfolding is_packed may_pack bytes_for
placed_is first region place file_end part shape h t w = named_is first region place file_end part shape h t (part.address + table_end part h t) w

abbrev stop_at : Part → Table → ℕ → Option ℕ → ℕ
stop_at part t actions_at base = part.address + stop_of part.bytes actions_at base t.sites (keys (types_named t)) (keys (lists_named t))

pub packed_is : (first : ℕ) (region : Region64) (place file_end : ℕ) (part : Part) (shape : Shape) (h : Head) (t : Table) (actions_at : ℕ) (base : Option ℕ) →
    IsHead part region t actions_at base h → IsWhole t →
    by_end first region place file_end part shape base t (packed_lists (lists_read region.start t)) (stop_at part t actions_at base) ≡
    packed_for (placed_as first region place file_end part shape h t)
packed_is first region place file_end part shape h t actions_at base is w =
    let list = packed_lists (lists_read region.start t) in
    let own : Option ℕ = option_map (λ (x : Types). x.base) h.types in
    let goal : ℕ → Option ℕ → Type 0 = λ a b. by_end first region place file_end part shape b t list (stop_at part t a b) ≡ packed_for (placed_as first region place file_end part shape h t) in
    let here : goal h.actions_at own =
    ap (λ n. by_end first region place file_end part shape own t list (part.address + n)) (stop_is part h region t is.listed w) ∙
    placed_is first region place file_end part shape h t w in
    subst (goal actions_at) is.stands (subst (λ a. goal a own) is.begins here)

-- with the bytes, the numbers and the end as they were found
pub packed_by : (first : ℕ) (region : Region64) (place file_end : ℕ) (part : Part) (shape : Shape) (h : Head) (t : Table) (actions_at : ℕ) (base : Option ℕ)
    (bytes types lists : List ℕ) (stop : ℕ) → bytes ≡ part.bytes → types ≡ keys (types_named t) → lists ≡ keys (lists_named t) →
    stop ≡ stop_of bytes actions_at base t.sites types lists → IsHead part region t actions_at base h → IsWhole t →
    shorter_bytes (nat_le (place + (part.address + stop - first)) file_end &&
    may_be bytes base t lists shape region.start first (part.address + stop) (packed_lists (lists_read region.start t)))
    (packed_bytes (packed_lists (lists_read region.start t)) first) (part.address + stop - first) ≡
    packed_for (placed_as first region place file_end part shape h t)
packed_by first region place file_end part shape h t actions_at base bytes types lists stop eb et el es is w =
    let list = packed_lists (lists_read region.start t) in
    let goal : List ℕ → List ℕ → ℕ → Type 0 =
    λ bs ls end. shorter_bytes (nat_le (place + (end - first)) file_end && may_be bs base t ls shape region.start first end list) (packed_bytes list first) (end - first) ≡
    packed_for (placed_as first region place file_end part shape h t) in
    let end : part.address + stop ≡ stop_at part t actions_at base =
    ap (λ n. part.address + n) (es ∙ ap (λ bs. stop_of bs actions_at base t.sites types lists) eb ∙ ap (λ ts. stop_of part.bytes actions_at base t.sites ts lists) et ∙
    ap (stop_of part.bytes actions_at base t.sites (keys (types_named t))) el) in
    let here : goal part.bytes (keys (lists_named t)) (stop_at part t actions_at base) = packed_is first region place file_end part shape h t actions_at base is w in
    subst (λ bs. goal bs lists (part.address + stop)) (sym eb)
    (subst (λ ls. goal part.bytes ls (part.address + stop)) (sym el) (subst (goal part.bytes (keys (lists_named t))) (sym end) here))

-- so is the end
pub end_by : (part : Part) (region : Region64) (h : Head) (t : Table) (actions_at : ℕ) (base : Option ℕ) (bytes types lists : List ℕ) (stop : ℕ) →
    bytes ≡ part.bytes → types ≡ keys (types_named t) → lists ≡ keys (lists_named t) → stop ≡ stop_of bytes actions_at base t.sites types lists →
    IsHead part region t actions_at base h → IsWhole t → stop ≡ table_end part h t
end_by part region h t actions_at base bytes types lists stop eb et el es is w =
    let ts = keys (types_named t) in
    let ls = keys (lists_named t) in
    es ∙ ap (λ bs. stop_of bs actions_at base t.sites types lists) eb ∙ ap (λ xs. stop_of part.bytes actions_at base t.sites xs lists) et ∙
    ap (stop_of part.bytes actions_at base t.sites ts) el ∙ ap (λ a. stop_of part.bytes a base t.sites ts ls) (sym is.begins) ∙
    ap (λ b. stop_of part.bytes h.actions_at b t.sites ts ls) (sym is.stands) ∙ stop_is part h region t is.listed w
