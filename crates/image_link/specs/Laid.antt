-- A layout is that of a unit's image.
use Rattle.std.specs.Prelude.{◌≡◌}
use Rattle.eh_bytes.specs.Listed.{ListedUnit}
use Rattle.image_forms.specs.Placed.{globals_at, records_at, code_at, unit_at, names_at}
use Rattle.image_link.specs.declared.layout.Layout.{Layout}

pub record IsLaid (u : ListedUnit) (l : Layout) : Type 0 where
  pub globals : l.globals ≡ globals_at u
  pub records : l.records ≡ records_at u
  pub code : l.code ≡ code_at u
  pub unit : l.unit ≡ unit_at u
  pub names : l.names ≡ names_at u
