-- Sites behind one that is not put behind the others yet.
use Rattle.std.specs.Prelude.{List, Option, Some, None}
use Rattle.linear_forms.specs.Linear.{CodeSite}
use Rattle.linear_forms.specs.Sites.{joined_from, merged}
use Rattle.landing_pads.specs.declared.unit.CodeSite.{CodeSite as CodeSiteValue}
use Rattle.landing_pads.specs.View.{site_of}

-- sites, the first of them joined with the one before them, if there is one
abbrev pub joined_behind : Option CodeSiteValue → List CodeSite → List CodeSite
joined_behind None sites = merged sites
joined_behind (Some s) sites = joined_from (site_of s) sites
