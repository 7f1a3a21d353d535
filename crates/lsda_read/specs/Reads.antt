-- What a reader returned, against what the definition reads.
use Rattle.std.specs.Prelude.{◌≡◌, ◌-◌, ◌^◌, min, Result, Ok, Err, IsErrAnd}
use Rattle.table_forms.specs.Fault.{Fault}
use Rattle.table_forms.specs.Lsda.{Table}
use Rattle.table_forms.specs.declared.refusal.Refusal.{Refusal}
use Rattle.table_forms.specs.Seen.{fault_of}
use Rattle.lsda_read.specs.declared.error.TableError.{TableError}

-- it gives what is read, seen by view, or its first refusal
abbrev pub Reads : {X Y : Type 0} → (X → Y) → Result X Refusal → Result Y Fault → Type 0
Reads view (Ok x) read = read ≡ Ok (view x)
Reads view (Err e) read = read ≡ Err (fault_of e)

-- a refusal as it is reported; a place that passes the numbers of 64 bits becomes the last of them
abbrev pub reported : Fault → TableError
reported f = record { reason = f.reason; place = min f.place (2 ^ 64 - 1); other = f.other }

-- the lists are what is read, or the error is the refusal that answers
abbrev pub ReadsTable : Result Table TableError → Result Table Fault → Type 0
ReadsTable (Ok table) read = read ≡ Ok table
ReadsTable (Err e) read = IsErrAnd read (λ f. e ≡ reported f)
