-- The table of a routine says of each operation what its sites say.
use Rattle.std.proofs.Common.{◌≡◌, ◌∙◌, refl, ap, arith, ℕ, ◌+◌, ◌<◌, ◌≤◌, ◌^◌, ℤ, false, List, [], ◌∷◌, length, Option, Some}
use Rattle.std.specs.List.{AllByRecursion}
use Rattle.eh_bytes.specs.declared.frames.Region64.{Region64}
use Rattle.eh_bytes.specs.Listed.{ListedTable}
use Rattle.table_forms.specs.Lsda.{Table}
use Rattle.table_forms.specs.Verdict.{Thrown, forced, look_up_place, verdict_at, site_at, verdict}
use Rattle.table_forms.specs.WrittenTable.{TableStands}
use Rattle.region_forms.specs.Form.{TypeRow}
use Rattle.linear_forms.specs.Tables.{look_up, sense_in}
use Rattle.linear_forms.specs.Verdict as linear
use Rattle.linear_forms.specs.Verdict.{pad_verdict}
use Rattle.machine_forms.specs.Routine.{Routine, op_byte, routine_table}
use Rattle.image_forms.specs.Linkable.{BaseIsThere}
use Rattle.image_forms.specs.Tables.{linked_table}
use Rattle.personality.specs.Named.{FilterIsNamed}
use Rattle.table_verdicts.specs.Verdicts.{told_of, forced_judge}
use Rattle.table_verdicts.specs.Types.{thrown_as}
use Rattle.table_verdicts.specs.Asked.{TableIsAsked, TypesAreAsked}
use Rattle.table_verdicts.specs.Laws.{TablesDecide}
use Rattle.table_verdicts.proofs.Looked.{Looked, looked}
use Rattle.table_verdicts.proofs.Filters.{FilterMeans, filter_means}
use Rattle.table_verdicts.proofs.Deciding.{raised_decides, alone_decides, forced_decides}
use Rattle.table_verdicts.proofs.Sites.{Decides, sites_told}

all_mean : (end : ℕ) (rows : List TypeRow) (r : Routine) (table : Table) (t : Option ℕ) (fs : List ℤ) → TableIsAsked (length rows) r → TypesAreAsked end rows → BaseIsThere (length rows) t →
    Looked (linked_table end (routine_table r)) table → AllByRecursion (FilterIsNamed table) fs → AllByRecursion (FilterMeans table (thrown_as end rows t) rows t (sense_in r.types r.lists)) fs
all_mean end rows r table t [] fits asked there seen named = tt
all_mean end rows r table t (f ∷ fs) fits asked there seen named =
    (filter_means end rows r table t f fits asked there seen named.0, all_mean end rows r table t fs fits asked there seen named.1)

raised_by : (end : ℕ) (rows : List TypeRow) (r : Routine) (table : Table) (t : Option ℕ) → TableIsAsked (length rows) r → TypesAreAsked end rows → BaseIsThere (length rows) t →
    Looked (linked_table end (routine_table r)) table → Decides table (thrown_as end rows t) (λ chain. pad_verdict rows (sense_in r.types r.lists) chain t)
raised_by end rows r table t fits asked there seen = record {
  alone = λ pad. alone_decides table rows end t pad;
  filters = λ pad n ns named. raised_decides table rows end t (sense_in r.types r.lists) pad (n ∷ ns) (all_mean end rows r table t (n ∷ ns) fits asked there seen named);
}

forced_by : (r : Routine) (table : Table) → Decides table forced (forced_judge (sense_in r.types r.lists))
forced_by r table = record { alone = λ pad. refl; filters = λ pad n ns named. forced_decides table r.types r.lists pad n ns }

-- behind an operation the place is that of its last byte
place_before : (n : ℕ) → n + 1 < 2 ^ 64 → look_up_place (n + 1) false ≡ n
place_before n below = omega (arith, below)

told : (r : Routine) (end : ℕ) (region : Region64) (table : Table) (thrown : Thrown) (judge : List ℤ → linear.Verdict) (rows p k : ℕ) → TableIsAsked rows r → TableStands (linked_table end (routine_table r)) region table →
    Decides table thrown judge → op_byte r p ≤ k → k < op_byte r (p + 1) → region.start + k + 1 < 2 ^ 64 →
    verdict (Some table) (region.start + k + 1) false thrown ≡ told_of (λ q. region.start + op_byte r q) (look_up r.sites p) judge
unfolding verdict
told r end region table thrown judge rows p k fits stands decides low high below =
    ap (λ n. verdict_at table thrown (site_at table n)) (place_before (region.start + k) below)
    ∙ sites_told r (linked_table end (routine_table r)) region table thrown judge p k r.sites table.sites refl decides low high fits.pads stands.sites

pub tables_decide : TablesDecide
tables_decide r rows end address memory region table p k fits asked read stands low high below =
    let list : ListedTable = linked_table end (routine_table r) in
    let seen = looked memory address region list table read stands in
    record {
      raised = λ t there. told r end region table (thrown_as end rows t) (λ chain. pad_verdict rows (sense_in r.types r.lists) chain t) (length rows) p k fits stands (raised_by end rows r table t fits asked there seen) low high below;
      unwound = told r end region table forced (forced_judge (sense_in r.types r.lists)) (length rows) p k fits stands (forced_by r table) low high below;
    }
