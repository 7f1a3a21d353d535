-- A refusal as the definitions see it.
use Rattle.table_forms.specs.Fault.{Fault}
use Rattle.table_forms.specs.declared.refusal.Refusal.{Refusal}

abbrev pub fault_of : Refusal → Fault
fault_of r = record { reason = r.reason; place = r.place; location = r.location; other = r.other }
