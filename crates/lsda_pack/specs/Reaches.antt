-- What is read of an image, from a first address up to an end: tables, and what else there is.
use Rattle.std.specs.Prelude.{◌≡◌, ⊤, ℕ, ◌+◌, ◌-◌, flat_map, not, ◌&&◌, ◌||◌, nat_lt, nat_le, max, min, Bool, true, false, List, [], ◌∷◌, ◌++◌, map, if◌then◌else◌}
use Rattle.std.specs.List.{AllByRecursion, list_any}
use Rattle.elf_image.specs.declared.program.ProgramHeader.{ProgramHeader}
use Rattle.lsda_pack.specs.declared.reach.Reach.{Reach}
use Rattle.lsda_pack.specs.Placed.{Placed}
use Rattle.lsda_pack.specs.SharedTables.{Extent, InFile}
use Rattle.lsda_pack.specs.declared.reach.Taken.{Taken}
use Rattle.lsda_pack.specs.declared.reach.TableTaken.{TableTaken}
use Rattle.table_forms.specs.declared.reason.Reason.TheVariants.{TableShared, FileShared}
use Rattle.table_forms.specs.Fault.{Fault, fault, unless}

-- a table shares bytes with another table or with anything else
abbrev pub meet : Reach → Reach → Bool
meet x y = (x.table || y.table) && nat_lt (max x.first y.first) (min x.end y.end)

-- none with one behind it
abbrev pub AreApart : List Reach → Type 0
AreApart [] = ⊤
AreApart (x ∷ xs) = AllByRecursion (λ y. meet x y ≡ false) xs × AreApart xs

-- each begins at or behind the ends of those before it that it may not meet
abbrev pub swept_apart : ℕ → ℕ → List Reach → Bool
swept_apart tables others [] = true
swept_apart tables others (x ∷ xs) =
    if nat_le x.end x.first then swept_apart tables others xs
    else if x.table then nat_le tables x.first && nat_le others x.first && swept_apart (max tables x.end) others xs
    else nat_le tables x.first && swept_apart tables (max others x.end) xs

-- of two that share bytes the later place
abbrev pub with_taken : Taken → Taken → List Fault
with_taken t u = if nat_lt (max t.first u.first) (min t.end u.end) then fault TableShared (max t.place u.place) ∷ [] else []

abbrev pub among_taken : List TableTaken → List Fault
among_taken [] = []
among_taken (t ∷ ts) = flat_map (λ u. with_taken t.memory u.memory) ts ++ among_taken ts

abbrev pub beside_taken : List Taken → List Taken → TableTaken → List Fault
beside_taken others parts t = flat_map (with_taken t.memory) others ++ flat_map (with_taken t.file) parts

unfoldable pub shared_taken : List TableTaken → List Taken → List Taken → List Fault
shared_taken tables others parts = among_taken tables ++ flat_map (beside_taken others parts) tables

abbrev pub table_reach : TableTaken → Reach
table_reach t = record { table = true; first = t.memory.first; end = t.memory.end }

abbrev pub taken_reach : Taken → Reach
taken_reach e = record { table = false; first = e.first; end = e.end }

abbrev pub reaches_of : List TableTaken → List Taken → List Reach
reaches_of tables others = map table_reach tables ++ map taken_reach others

-- what a table takes of memory and of the file
abbrev pub table_taken : Placed → TableTaken
table_taken t = record {
  memory = record { first = t.first; end = t.end; place = t.place };
  file = record { first = t.place; end = min (t.place + (t.end - t.first)) t.file_end; place = t.place };
}

abbrev pub extent_taken : Extent → Taken
extent_taken e = record { first = e.first; end = e.end; place = e.place }

abbrev pub part_taken : InFile → Taken
part_taken (first, end) = record { first = first; end = end; place = first }

-- some byte is in both
abbrev pub meet_taken : Taken → Taken → Bool
meet_taken t u = nat_lt t.first t.end && nat_lt u.first u.end && nat_lt t.first u.end && nat_lt u.first t.end

-- one with those before it, at its place
abbrev pub file_taken : List Taken → List Taken → List Fault
file_taken before [] = []
file_taken before (t ∷ rest) = unless (not (list_any (meet_taken t) before)) FileShared t.place ++ file_taken (before ++ t ∷ []) rest

-- the bytes of the file of a segment
abbrev pub header_taken : ProgramHeader → Taken
header_taken h = record { first = h.offset; end = h.offset + h.file_size; place = h.place }

abbrev pub part_reach : Taken → Reach
part_reach t = record { table = true; first = t.first; end = t.end }
