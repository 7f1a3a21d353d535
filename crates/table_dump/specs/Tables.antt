-- The lines of an exception table.
use Rattle.std.specs.Prelude.{ℕ, ℤ, List, ◌++◌, codes, map, flat_map}
use Rattle.std.specs.Fmt.{decimal, signed_decimal}
use Rattle.table_forms.specs.declared.found.Site.{Site}
use Rattle.table_forms.specs.Lsda.{Table}
use Rattle.table_dump.specs.Texts.{hex, joined}

abbrev pub lsda_line : ℕ → List ℕ
lsda_line address = codes "  lsda " ++ hex address ++ codes "\n"

abbrev pub site_line : Site → List ℕ
site_line s =
    codes "  site " ++ hex s.start ++ codes " " ++ hex s.end ++ codes " pad " ++ hex s.pad ++ codes " action " ++ decimal s.action ++ codes "\n"

abbrev pub action_line : ℕ × List ℤ → List ℕ
action_line (action, filters) = codes "  action " ++ decimal action ++ codes ": " ++ joined (map signed_decimal filters) ++ codes "\n"

abbrev pub type_line : ℕ × ℕ → List ℕ
type_line (index, value) = codes "  type " ++ decimal index ++ codes ": " ++ hex value ++ codes "\n"

abbrev pub list_line : ℕ × List ℕ → List ℕ
list_line (list, indices) = codes "  list -" ++ decimal list ++ codes ": " ++ joined (map decimal indices) ++ codes "\n"

-- the actions that sites name, and the types and lists that are reached, in rising order
abbrev pub table_text : Table → List ℕ
table_text t = flat_map site_line t.sites ++ flat_map action_line t.actions ++ flat_map type_line t.types ++ flat_map list_line t.lists
