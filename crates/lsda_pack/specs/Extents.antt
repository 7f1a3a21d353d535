-- What else is read of memory besides tables, as code gathers it.
use Rattle.std.specs.Prelude.{ℕ, ◌+◌, ◌-◌, ◌*◌, ◌==◌, max, List, [], flat_map, fold, Option, Some, None, Result, Ok, Err, if◌then◌else◌}
use Rattle.std.specs.Int.{w32}
use Rattle.eh_bytes.specs.Encoded.{encoded}
use Rattle.eh_bytes.specs.Field.{fixed}
use Rattle.eh_bytes.specs.Memory.{Part, Memory}
use Rattle.table_forms.specs.Fault.{Fault}
use Rattle.table_forms.specs.Header.{in_header}
use Rattle.table_forms.specs.LsdaHead.{Types, in_table}
use Rattle.table_forms.specs.Spans.{spans_within}
use Rattle.lsda_pack.specs.SharedTables.{Extent, word_of}

-- the word that the entry at a place of a part names
abbrev pub word_at : Memory → Part → ℕ → ℕ → List Extent
word_at memory part encoding place = word_of memory (in_table (encoded encoding (part.address + place)) part place)

-- those of the entries with these indices, which go down from a base
abbrev pub words_by : Memory → Part → ℕ → ℕ → ℕ → List ℕ → List Extent
words_by memory part encoding base size types = flat_map (λ i. word_at memory part encoding (base - i * size)) types

-- those of the entries of a table, if it has any
abbrev pub words_for : Memory → Part → Option Types → List ℕ → List Extent
words_for memory part None indices = []
words_for memory part (Some types) indices = words_by memory part types.encoding types.base types.size indices

-- behind the last of at most so many parts from a place on
abbrev pub stop_within : Part → ℕ → ℕ → ℕ
stop_within part n p = fold (λ e s. max e s.stop) p (spans_within n part p).list

-- the bytes of a header by its count, and by the encoding of its count
abbrev pub size_counted : Result (ℕ × ℕ) Fault → ℕ
size_counted (Ok (n, next)) = 12 + 8 * n
size_counted (Err f) = 8

abbrev pub size_by : Part → ℕ → Result (ℕ × ℕ) Fault → ℕ
size_by part p (Ok (e, next)) = if e == 3 then size_counted (in_header (fixed w32) part (p + 8)) else 8
size_by part p (Err f) = 8
