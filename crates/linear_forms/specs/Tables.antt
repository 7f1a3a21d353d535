-- What a function's tables say: what covers a place, and what a filter means (Itanium C++ ABI, "Exception Handling Tables").
use Rattle.std.specs.Prelude.{ℕ, zero, suc, ◌+◌, ℤ, pos, negsuc, Bool, ◌&&◌, ◌==◌, nat_le, nat_lt, List, [], ◌∷◌, map, flat_map, length, Option, Some, None, slice_get, if◌then◌else◌}
use Rattle.eh_bytes.specs.Spelling.{uleb_spelling}
use Rattle.linear_forms.specs.Linear.{CodeSite, LinearOp, label}

-- a place has no site, so nothing comes out of it; a site without a pad; or a pad and its chain of filters
pub data Cover : Type 0 where
  bare : Cover
  unpadded : Cover
  padded : ℕ → List ℤ → Cover

-- what a site says of its places
abbrev pub cover_of : CodeSite → Cover
cover_of s = elim s.pad [ None ↦ unpadded | Some p ↦ padded p s.filters ]

-- a site holds a place
abbrev pub holds : CodeSite → ℕ → Bool
holds s p = nat_le s.start p && nat_lt p s.end

-- the first site that holds a place
abbrev pub look_up : List CodeSite → ℕ → Cover
look_up [] p = bare
look_up (s ∷ sites) p = if holds s p then cover_of s else look_up sites p

-- what a filter means: a cleanup, a clause with its type or none for `...`, a specification's list, or nothing
pub data Sense : Type 0 where
  cleanup : Sense
  clause : Option ℕ → Sense
  list_of : List ℕ → Sense
  no_sense : Sense

-- what an entry of the type table means
abbrev pub clause_sense : Option ℕ → Sense
clause_sense None = no_sense
clause_sense (Some zero) = clause None
clause_sense (Some (suc t)) = clause (Some t)

-- the bytes of a list: each index in its shortest LEB128, then a 0
abbrev pub list_bytes : List ℕ → ℕ
list_bytes l = length (flat_map uleb_spelling l) + 1

-- the type of an entry; the entry of `catch (...)` stands in no list
abbrev pub entry_type : Option ℕ → ℕ
entry_type None = 0
entry_type (Some zero) = 0
entry_type (Some (suc t)) = t

-- the type at an index, which counts from 1
abbrev pub type_at_index : List ℕ → ℕ → ℕ
type_at_index types zero = 0
type_at_index types (suc i) = entry_type (slice_get types i)

-- the list that begins at byte n, where these lists begin at byte `at`
abbrev pub list_sense : List ℕ → List (List ℕ) → (at n : ℕ) → Sense
list_sense types [] at n = no_sense
list_sense types (l ∷ lists) at n =
    if at == n then list_of (map (type_at_index types) l) else list_sense types lists (at + list_bytes l) n

-- what a filter means by a function's types and lists: 0, an index, or one less than the negated place of a list's first byte
abbrev pub sense_in : List ℕ → List (List ℕ) → ℤ → Sense
sense_in types lists (pos zero) = cleanup
sense_in types lists (pos (suc i)) = clause_sense (slice_get types i)
sense_in types lists (negsuc n) = list_sense types lists 0 n

-- the place of a label in operations that stand from place p on
abbrev pub label_place : List LinearOp → ℕ → ℕ → ℕ
label_place [] l p = p
label_place (label m ∷ ops) l p = if m == l then p else label_place ops l (p + 1)
label_place (o ∷ ops) l p = label_place ops l (p + 1)
