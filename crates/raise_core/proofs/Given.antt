-- The tables of a machine, by what was read of them.
use Rattle.std.proofs.Common.{◌≡◌, ◌≢◌, ◌<◌, ◌+◌, ◌^◌, ◌==◌, ◌&&◌, nat_lt, ℕ, Bool, true, false, List, Result, Ok, Err, sym, subst, refl, ap, ◌∙◌, arith, Contains}
use Rattle.std.specs.Prelude.{◌||◌, is_ok, IsOkAnd, IsErrAnd}
use Rattle.std.specs.List.{list_all}
use Rattle.std.proofs.lemmas.Bool.Decides.{nat_tests}
use Rattle.std.proofs.lemmas.List.Sums.{AllPass-from_list_all}
use Rattle.eh_bytes.specs.Memory.{Memory}
use Rattle.table_forms.specs.Fault.{Fault}
use Rattle.table_forms.specs.Frames as forms
use Rattle.table_forms.specs.Lsda.{Table, lsda}
use Rattle.frame_read.specs.declared.listed.Fde as shown
use Rattle.frame_read.specs.ReadsFrames.{Listing, listing, ReadsFrames}
use Rattle.rv64_isa.specs.State.{State}
use Rattle.frame_walk.specs.Outward.{tables_of}
use Rattle.raise_core.specs.Reads.{AreTables, is_readable, are_readable}

-- they are those that a reader of frames gives
pub reads_them : (s : State) (frames : Listing) → AreTables s frames → (header : ℕ) × ReadsFrames (Ok frames) (forms.frames (tables_of s) header)
reads_them s frames t = (t.header, subst (λ r. ReadsFrames (Ok frames) r) (sym t.reads) t.lists)

-- and those that it gives, where each exception table can be read
pub are_tables : (s : State) (frames : Listing) (header : ℕ) → ReadsFrames (Ok frames) (forms.frames (tables_of s) header) → are_readable s frames ≡ true → AreTables s frames
are_tables s frames header reads passes = by (forms.frames (tables_of s) header) refl reads
  where
    by : (r : Result forms.Frames Fault) → forms.frames (tables_of s) header ≡ r → IsOkAnd r (λ d. frames ≡ listing d) → AreTables s frames
    by (Ok d) is lists = record { header = header; read = d; reads = is; lists = lists; tables = passes }
    by (Err e) is lists = absurd lists

-- what is read is not refused
pub not_refused : (r : Result Table Fault) (P : Fault → Type 0) → is_ok r ≡ true → IsErrAnd r P → ⊥
not_refused (Ok table) P reads refused = refused
not_refused (Err e) P reads refused = absurd cc

-- a table that an FDE names, by the test that it can be read
pub named : (memory : Memory) (f : shown.Fde) → is_readable memory f ≡ true → f.lsda ≢ 0 → (f.region.start + f.region.length < 2 ^ 64) × (is_ok (lsda memory f.lsda f.region) ≡ true)
named memory f passes some = by (f.lsda == 0) (nat_lt (f.region.start + f.region.length) (2 ^ 64)) refl refl passes
  where
    by : (none ends : Bool) → (f.lsda == 0) ≡ none → nat_lt (f.region.start + f.region.length) (2 ^ 64) ≡ ends → none || (ends && is_ok (lsda memory f.lsda f.region)) ≡ true →
        (f.region.start + f.region.length < 2 ^ 64) × (is_ok (lsda memory f.lsda f.region) ≡ true)
    by true ends is below passes = absurd (some (grind (arith, nat_tests, is)))
    by false true is below passes = (grind (arith, nat_tests, below), passes)
    by false false is below passes = absurd cc

-- what a test says of all, of one of them
pub passes_all : (test : shown.Fde → Bool) (fs : List shown.Fde) (f : shown.Fde) → list_all test fs ≡ true → Contains fs f → test f ≡ true
passes_all test fs f all (k, below, e) = ap test (sym e) ∙ AllPass-from_list_all test fs all k f below
