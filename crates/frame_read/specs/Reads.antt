-- What a reader returned, against what the definition reads.
use Rattle.std.specs.Prelude.{◌≡◌, Result, Ok, Err}
use Rattle.table_forms.specs.Fault.{Fault}
use Rattle.table_forms.specs.declared.refusal.Refusal.{Refusal}
use Rattle.table_forms.specs.Seen.{fault_of}

-- it gives what is read, seen by view, or its refusal
abbrev pub Reads : {X Y : Type 0} → (X → Y) → Result X Refusal → Result Y Fault → Type 0
Reads view (Ok x) read = read ≡ Ok (view x)
Reads view (Err e) read = read ≡ Err (fault_of e)

-- what was returned, as the definition has it
abbrev pub result_seen : {X Y : Type 0} → (X → Y) → Result X Refusal → Result Y Fault
result_seen view (Ok x) = Ok (view x)
result_seen view (Err e) = Err (fault_of e)
