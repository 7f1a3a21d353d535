-- Where the parts of a written table stand.
use Rattle.std.proofs.Common.{◌≡◌, ◌+◌, ◌-◌, ℕ, List, [], ◌∷◌, ◌++◌, length, drop, ap, ◌∙◌, append_assoc}
use Rattle.std.specs.Prelude.{replicate, reverse}
use Rattle.eh_bytes.specs.Spelling.{uleb_spelling}
use Rattle.eh_bytes.specs.Listed.{ListedTable}
use Rattle.eh_write.specs.Written.{sites_bytes, action_bytes, entries_from, lists_bytes, front_bytes, table_bytes, base_offset, least_offset}
use Rattle.eh_write.proofs.Reading.{next_stands}

abbrev pub offset_of : ListedTable → ℕ
offset_of list = base_offset (least_offset list)

abbrev pub offset_bytes : ListedTable → List ℕ
offset_bytes list = uleb_spelling (offset_of list)

abbrev pub size_bytes : ListedTable → List ℕ
size_bytes list = uleb_spelling (length (sites_bytes list))

abbrev pub padding : ListedTable → List ℕ
padding list = replicate (offset_of list - least_offset list) 0

-- what stands from a part of the table on, where the first entry has an address
abbrev pub from_lists : ListedTable → List ℕ → List ℕ
from_lists list rest = lists_bytes list.lists ++ rest

abbrev pub from_entries : ListedTable → ℕ → List ℕ → List ℕ
from_entries list entries_at rest = entries_from entries_at (reverse list.types) ++ from_lists list rest

abbrev pub from_actions : ListedTable → ℕ → List ℕ → List ℕ
from_actions list entries_at rest = action_bytes list.chains ++ (padding list ++ from_entries list entries_at rest)

abbrev pub from_sites : ListedTable → ℕ → List ℕ → List ℕ
from_sites list entries_at rest = sites_bytes list ++ from_actions list entries_at rest

abbrev pub from_encoding : ListedTable → ℕ → List ℕ → List ℕ
from_encoding list entries_at rest = 1 ∷ (size_bytes list ++ from_sites list entries_at rest)

-- the places of the parts of a table that begins at a place
abbrev pub encoding_place : ListedTable → ℕ → ℕ
encoding_place list p = p + 1 + 1 + length (offset_bytes list)

abbrev pub sites_place : ListedTable → ℕ → ℕ
sites_place list p = encoding_place list p + 1 + length (size_bytes list)

abbrev pub actions_place : ListedTable → ℕ → ℕ
actions_place list p = sites_place list p + length (sites_bytes list)

abbrev pub entries_place : ListedTable → ℕ → ℕ
entries_place list p = actions_place list p + length (action_bytes list.chains) + length (padding list)

abbrev pub base_place : ListedTable → ℕ → ℕ
base_place list p = encoding_place list p + offset_of list

-- the parts of the table stand at their places
pub record IsLaid (list : ListedTable) (entries_at : ℕ) (bytes : List ℕ) (p : ℕ) (rest : List ℕ) : Type 0 where
  pub omitted : drop p bytes ≡ 255 ∷ 27 ∷ (offset_bytes list ++ from_encoding list entries_at rest)
  pub relative : drop (p + 1) bytes ≡ 27 ∷ (offset_bytes list ++ from_encoding list entries_at rest)
  pub offset : drop (p + 1 + 1) bytes ≡ offset_bytes list ++ from_encoding list entries_at rest
  pub encoding : drop (encoding_place list p) bytes ≡ from_encoding list entries_at rest
  pub size : drop (encoding_place list p + 1) bytes ≡ size_bytes list ++ from_sites list entries_at rest
  pub sites : drop (sites_place list p) bytes ≡ from_sites list entries_at rest
  pub actions : drop (actions_place list p) bytes ≡ from_actions list entries_at rest
  pub entries : drop (entries_place list p) bytes ≡ from_entries list entries_at rest
  pub lists : drop (entries_place list p + length (entries_from entries_at (reverse list.types))) bytes ≡ from_lists list rest

abbrev pub entries_address : ListedTable → ℕ → ℕ
entries_address list address = address + length (front_bytes list)

-- the whole table, part by part
shaped : (list : ListedTable) (address : ℕ) (rest : List ℕ) →
    table_bytes list address ++ rest ≡ 255 ∷ 27 ∷ (offset_bytes list ++ from_encoding list (entries_address list address) rest)
unfolding table_bytes
shaped list address rest =
    let o = offset_bytes list in let s = size_bytes list in let x = sites_bytes list in let a = action_bytes list.chains in let z = padding list in
    let e = entries_from (entries_address list address) (reverse list.types) in let l = lists_bytes list.lists in
    append_assoc (front_bytes list ++ e) l rest ∙ append_assoc (front_bytes list) e (l ++ rest) ∙
    ap (λ y. 255 ∷ 27 ∷ y)
    (append_assoc (o ++ (1 ∷ (s ++ x ++ a))) z (e ++ (l ++ rest)) ∙ append_assoc o (1 ∷ (s ++ x ++ a)) (z ++ (e ++ (l ++ rest))) ∙
    ap (λ y. o ++ 1 ∷ y) (append_assoc (s ++ x) a (z ++ (e ++ (l ++ rest))) ∙ append_assoc s x (a ++ (z ++ (e ++ (l ++ rest))))))

pub laid : (list : ListedTable) (address : ℕ) (bytes : List ℕ) (p : ℕ) (rest : List ℕ) → drop p bytes ≡ table_bytes list address ++ rest →
    IsLaid list (entries_address list address) bytes p rest
laid list address bytes p rest here =
    let at = entries_address list address in
    let omitted = here ∙ shaped list address rest in
    let relative = next_stands bytes p (255 ∷ []) (27 ∷ (offset_bytes list ++ from_encoding list at rest)) omitted in
    let offset = next_stands bytes (p + 1) (27 ∷ []) (offset_bytes list ++ from_encoding list at rest) relative in
    let encoding = next_stands bytes (p + 1 + 1) (offset_bytes list) (from_encoding list at rest) offset in
    let size = next_stands bytes (encoding_place list p) (1 ∷ []) (size_bytes list ++ from_sites list at rest) encoding in
    let sites = next_stands bytes (encoding_place list p + 1) (size_bytes list) (from_sites list at rest) size in
    let actions = next_stands bytes (sites_place list p) (sites_bytes list) (from_actions list at rest) sites in
    let padded = next_stands bytes (actions_place list p) (action_bytes list.chains) (padding list ++ from_entries list at rest) actions in
    let entries = next_stands bytes (actions_place list p + length (action_bytes list.chains)) (padding list) (from_entries list at rest) padded in
    let lists = next_stands bytes (entries_place list p) (entries_from at (reverse list.types)) (from_lists list rest) entries in
    record { omitted = omitted; relative = relative; offset = offset; encoding = encoding; size = size; sites = sites; actions = actions; entries = entries; lists = lists }
