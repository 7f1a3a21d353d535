-- One step through the rows of a table.
use Rattle.std.proofs.Common.{◌≡◌, ◌+◌, ℕ, suc, List, [], ◌∷◌, ◌++◌, Ok, Err, ap, sym, append_assoc, append-nil}
use Rattle.eh_bytes.specs.declared.frames.HdrRow.{HdrRow}
use Rattle.eh_bytes.specs.Memory.{Part}
use Rattle.table_forms.specs.Fault.{Fault}
use Rattle.table_forms.specs.Header.{Rows, row_in, rows_within}
use Rattle.frame_read.specs.SeenHeader.{behind_rows, row_rest}

abbrev pub rows_end : List HdrRow → List Fault → Rows
rows_end read cut = record { rows = read; cut = cut }

nothing : (read : List HdrRow) (cut : List Fault) → behind_rows read (rows_end [] cut) ≡ rows_end read cut
nothing read cut = ap (λ xs. rows_end xs cut) (append-nil read)

pub row_cut : (part : Part) (start : ℕ) (read : List HdrRow) (n p : ℕ) (f : Fault) → row_in part start p ≡ Err f →
    row_rest part start read (suc n) p ≡ rows_end read (f ∷ [])
unfolding rows_within
row_cut part start read n p f here = rw here (nothing read (f ∷ []))

pub row_more : (part : Part) (start : ℕ) (read : List HdrRow) (n p : ℕ) (r : HdrRow) → row_in part start p ≡ Ok r →
    row_rest part start read (suc n) p ≡ row_rest part start (read ++ r ∷ []) n (p + 8)
unfolding rows_within
row_more part start read n p r here =
    let rest = rows_within n part start (p + 8) in
    rw here (ap (λ xs. rows_end xs rest.cut) (sym (append_assoc read (r ∷ []) rest.rows)))

pub row_none : (part : Part) (start : ℕ) (read : List HdrRow) (p : ℕ) → row_rest part start read 0 p ≡ rows_end read []
unfolding rows_within
row_none part start read p = nothing read []
