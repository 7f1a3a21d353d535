-- What the sites, chains and lists of a table name.
use Rattle.std.specs.Prelude.{ℕ, ◌==◌, ◌++◌, ◌&&◌, ◌^◌, nat_lt, not, Bool, List, map, filter, flat_map}
use Rattle.table_forms.specs.declared.found.Site.{Site}
use Rattle.table_forms.specs.Lsda as forms

-- the actions that sites name
abbrev pub actions_named : forms.Table → List ℕ
actions_named table = filter (λ a. not (a == 0)) (map (λ s. s.action) table.sites)

-- the type entries that chains and lists name
abbrev pub types_named : forms.Table → List ℕ
types_named table = flat_map forms.entries_named (flat_map (λ a. a.1) table.actions) ++ flat_map (λ l. l.1) table.lists

-- the lists that chains name: j for a filter -j
abbrev pub lists_named : forms.Table → List ℕ
lists_named table = flat_map forms.lists_named (flat_map (λ a. a.1) table.actions)

-- its addresses are those of 64 bits
abbrev pub site_fits : Site → Bool
site_fits s = nat_lt s.end (2 ^ 64) && nat_lt s.pad (2 ^ 64)
