-- Exception specifications (ISO/IEC 14882:2003, 15.5.2; Itanium C++ ABI: Exception Handling, __cxa_call_unexpected).
use Rattle.std.specs.Prelude.{ℕ, ◌+◌, ◌-◌, ◌^◌, ◌==◌, nat_le, Bool, false, ℤ, pos, negsuc, List, [], ◌∷◌, find, filter, filter_map, Option, Some, None, option_map, option_and_then, if◌then◌else◌}
use Rattle.std.specs.List.{list_any}
use Rattle.eh_bytes.specs.declared.unit.RuntimeRecord.{RuntimeRecord}
use Rattle.eh_bytes.specs.Memory.{Memory}
use Rattle.table_forms.specs.Keys.{value_at}
use Rattle.table_forms.specs.Lsda.{Table}
use Rattle.table_forms.specs.Fde.{Fde}
use Rattle.table_forms.specs.Verdict.{Thrown, allows, filters_at}
use Rattle.frame_walk.specs.Outward.{tables_of}
use Rattle.frame_read.specs.declared.listed.Fde as shown
use Rattle.raise_core.specs.Asked.{table_named, table_of}
use Rattle.cxa_runtime.specs.declared.object.Object.{Object}
use Rattle.cxa_runtime.specs.Objects.{object_where, is_native}
use Rattle.cxa_runtime.specs.World.{World, Outcome, goes, argument, gives, gives_both, a0, a1, a2, needs, refused}
use Rattle.cxa_runtime.specs.Terminate.{terminates}
use Rattle.cxa_runtime.specs.MayBegin.{may_begin}
use Rattle.cxa_runtime.specs.Catch.{entered}
use Rattle.cxa_runtime.specs.Raising.{Image, thrown_of}

abbrev pub begins_unexpected : World → Object → Outcome
begins_unexpected w o =
    if may_begin w.exceptions o.slot then goes (gives_both o.header.handlers.1 o.header.lsda (entered o w)) else refused w

-- call 18: a native exception is entered; the unexpected handler kept with it, and the LSDA of the frame that was its target
abbrev pub unexpected_begin : World → Outcome
unexpected_begin w = needs w (object_where is_native w.exceptions.live (argument w a0)) (begins_unexpected w)

-- a filter is that of list j + 1
abbrev pub is_list : ℕ → ℤ → Bool
is_list j (pos n) = false
is_list j (negsuc n) = n == j

-- the chain of one of the sites has the filter
abbrev pub has_list : ℕ → Table → Bool
has_list j table = list_any (λ site. list_any (is_list j) (filters_at table site.action)) table.sites

-- the readings of an LSDA, one for each FDE that names it
abbrev pub readings : Memory → List Fde → ℕ → List Table
readings memory fdes a = filter_map (table_of memory) (filter (λ fde. fde.lsda == a) fdes)

-- the table of one FDE, where it stands at the address and has the list
abbrev pub with_list : ℕ → Option Table → Option Table
with_list j None = None
with_list j (Some table) = if has_list j table then Some table else None

abbrev pub reading_of : Memory → ℕ → ℕ → shown.Fde → Option Table
reading_of memory a j fde = if fde.lsda == a then with_list j (table_named memory fde.lsda fde.region) else None

-- the first of some FDEs that has such a table
abbrev pub or_else : Option Table → Option Table → Option Table
or_else None more = more
or_else (Some table) more = Some table

abbrev pub first_reading : Memory → ℕ → ℕ → List shown.Fde → Option Table
first_reading memory a j [] = None
first_reading memory a j (fde ∷ more) = or_else (reading_of memory a j fde) (first_reading memory a j more)

-- the list that a negative selector of 64 bits names, counted from 0
abbrev pub list_of : ℕ → Option ℕ
list_of selector = if nat_le (2 ^ 63) selector then Some (2 ^ 64 - selector - 1) else None

-- bad_exception stands in the list
abbrev pub lists_bad : Table → ℕ → ℕ → Bool
lists_bad table j bad = list_any (λ i. value_at 0 table.types i == bad) (value_at [] table.lists j)

-- 0: the list allows the exception; 1: it has bad_exception; 2: else
abbrev pub checked : Table → Thrown → ℕ → ℕ → ℕ
checked table thrown j bad = if allows table thrown j then 0 else if lists_bad table j bad then 1 else 2

-- the same of a native exception; none where its type records can't be read
abbrev pub answer_for : World → ℕ → ℕ → Table → Object → Option ℕ
answer_for w bad j table o = option_map (λ thrown. checked table thrown (j + 1) bad) (thrown_of w.hart o.header.kind)

-- the same of the native exception that is asked about, if there is one
abbrev pub answer_in : World → ℕ → ℕ → Table → Option ℕ
answer_in w bad j table = option_and_then (answer_for w bad j table) (object_where is_native w.exceptions.live (argument w a2))

-- the same of the first reading of the table that has the list, if there is one
abbrev pub answer_with : Image → World → ℕ → Option ℕ
answer_with image w j =
    option_and_then (answer_in w image.places.bad_exception j)
    (find (has_list j) (readings (tables_of w.hart) image.fdes (argument w a0)))

-- the same of the list that the selector names, if it names one
abbrev pub answer_of : Image → World → Option ℕ
answer_of image w = option_and_then (answer_with image w) (list_of (argument w a1))

-- call 19: what the list that the selector names in the LSDA says of a native exception
abbrev pub unexpected_check : Image → World → Outcome
unexpected_check image w = needs w (answer_of image w) (λ n. goes (gives a0 n w))

-- call 20: terminate with the handler kept with a native exception, which is not entered
abbrev pub terminate_for : RuntimeRecord → World → Outcome
terminate_for places w =
    needs w (object_where is_native w.exceptions.live (argument w a0)) (λ o. terminates places o.header.handlers.0 w)
