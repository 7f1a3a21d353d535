-- The lines of a call site and of each filter of its action.
use Rattle.std.specs.Prelude.{ℕ, zero, suc, ℤ, pos, negsuc, ◌==◌, List, [], ◌++◌, codes, flat_map, Option, Some, None, if◌then◌else◌}
use Rattle.std.specs.Fmt.{signed_decimal}
use Rattle.table_forms.specs.declared.found.Site.{Site}
use Rattle.table_forms.specs.Keys.{value_at}
use Rattle.table_forms.specs.Lsda.{Table}
use Rattle.table_forms.specs.Verdict.{Thrown, stops, is_cleanup, filters_at, site_at}
use Rattle.table_dump.specs.Texts.{hex}
use Rattle.table_dump.specs.Tables.{site_line}

-- a type entry, as it is printed in a list
abbrev pub entry_text : Table → ℕ → List ℕ
entry_text table i = codes " " ++ hex (value_at 0 table.types i)

-- the type that a filter above 0 names, or the types of the list of a specification
abbrev pub types_text : Table → ℤ → List ℕ
types_text table (pos zero) = []
types_text table (pos (suc i)) = codes " type" ++ entry_text table (suc i)
types_text table (negsuc n) = codes " types" ++ flat_map (entry_text table) (value_at [] table.lists (suc n))

-- the filter 0 is a cleanup; another stops what is thrown, or it passes
abbrev pub filter_word : Table → Thrown → ℤ → List ℕ
filter_word table thrown f = if is_cleanup f then codes "cleanup" else if stops table thrown f then codes "stops" else codes "passes"

abbrev pub filter_line : Table → Thrown → ℤ → List ℕ
filter_line table thrown f =
    codes "  filter " ++ signed_decimal f ++ types_text table f ++ codes ": " ++ filter_word table thrown f ++ codes "\n"

-- a site without a pad has no filters
abbrev pub filters_text : Table → Thrown → Site → List ℕ
filters_text table thrown s = if s.pad == 0 then [] else flat_map (filter_line table thrown) (filters_at table s.action)

abbrev pub site_text : Table → Thrown → Option Site → List ℕ
site_text table thrown None = codes "  no site\n"
site_text table thrown (Some s) = site_line s ++ filters_text table thrown s

-- the site of a place in a table, and its filters
abbrev pub sites_text : Option Table → Thrown → ℕ → List ℕ
sites_text None thrown place = codes "  no table\n"
sites_text (Some table) thrown place = site_text table thrown (site_at table place)
