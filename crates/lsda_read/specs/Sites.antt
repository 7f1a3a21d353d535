-- Records of sites as the definition has them.
use Rattle.std.specs.Prelude.{ℕ, Option, option_map}
use Rattle.table_forms.specs.LsdaSites as forms
use Rattle.lsda_read.specs.declared.site.SiteRecord.{SiteRecord}

abbrev pub record_of : SiteRecord → forms.SiteRecord
record_of r = record { at = r.at; start = r.start; length = r.length; pad = r.pad; action = r.action }

abbrev pub record_seen : SiteRecord × ℕ → forms.SiteRecord × ℕ
record_seen x = (record_of x.0, x.1)

abbrev pub found : Option (SiteRecord × ℕ) → Option (forms.SiteRecord × ℕ)
found x = option_map record_seen x
