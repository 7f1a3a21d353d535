-- The verdict of filters in a row.
use Rattle.std.specs.Prelude.{ℕ, ℤ, pos, negsuc, Bool, List, find, Option, Some, None, ◌||◌, if◌then◌else◌}
use Rattle.std.specs.List.{list_any}
use Rattle.table_forms.specs.declared.found.Verdict.{Verdict}
use Rattle.table_forms.specs.declared.found.Verdict.TheVariants.{Nothing, Cleanup, Handler, Spec, Terminate}
use Rattle.table_forms.specs.Lsda.{Table}
use Rattle.table_forms.specs.Verdict.{Thrown, foreign, stops, is_cleanup}

-- of a filter that stops it
abbrev pub stopped : Thrown → ℕ → ℤ → Verdict
stopped thrown pad (pos i) = Handler pad (pos i)
stopped foreign pad (negsuc n) = Terminate
stopped thrown pad (negsuc n) = Spec pad (negsuc n)

abbrev pub first_stops : Thrown → ℕ → Bool → List ℤ → Option ℤ → Verdict
first_stops thrown pad cleanup filters None = if cleanup || list_any is_cleanup filters then Cleanup pad else Nothing
first_stops thrown pad cleanup filters (Some f) = stopped thrown pad f

-- of filters, where a cleanup stands before them or not
abbrev pub decided_by : Table → Thrown → ℕ → Bool → List ℤ → Verdict
decided_by table thrown pad cleanup filters = first_stops thrown pad cleanup filters (find (stops table thrown) filters)
