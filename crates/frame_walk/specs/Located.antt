-- An FDE with its row at a place.
use Rattle.table_forms.specs.declared.found.Row.{Row}
use Rattle.frame_read.specs.declared.listed.Fde as shown
use Rattle.frame_walk.specs.declared.located.Located.{Located}

abbrev pub located_seen : Located → shown.Fde × Row
located_seen l = (l.fde, l.row)
