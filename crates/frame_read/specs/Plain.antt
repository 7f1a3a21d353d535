-- A fold that remembers no row, as the definitions have it.
use Rattle.std.specs.Prelude.{Bool, []}
use Rattle.table_forms.specs.Row as forms
use Rattle.frame_read.specs.SeenRow.{state_seen}
use Rattle.frame_read.specs.declared.plain.Plain.{Plain}

-- whether it has stopped is told beside it
abbrev pub plain_seen : Bool → Plain → forms.Folding
plain_seen stopped p = record {
  location = p.location;
  row = state_seen p.row;
  states = [];
  initial = p.initial;
  stopped = stopped;
}
