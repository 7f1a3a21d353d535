-- What a site and a filter name in their table.
use Rattle.std.specs.Prelude.{ℤ, pos, negsuc, zero, suc, ◌≢◌, Option, Some, None, Contains, ⊤}
use Rattle.lsda_read.specs.Names.{actions_named, types_named, lists_named}
use Rattle.table_forms.specs.declared.found.Site.{Site}
use Rattle.table_forms.specs.Lsda.{Table}

-- a type entry above 0, and a list below
abbrev pub FilterIsNamed : Table → ℤ → Type 0
FilterIsNamed table (pos zero) = ⊤
FilterIsNamed table (pos (suc i)) = Contains (types_named table) (suc i)
FilterIsNamed table (negsuc n) = Contains (lists_named table) (suc n)

-- the chain of an action that is not 0
abbrev pub SiteIsNamed : Table → Option Site → Type 0
SiteIsNamed table None = ⊤
SiteIsNamed table (Some s) = s.action ≢ 0 → Contains (actions_named table) s.action
