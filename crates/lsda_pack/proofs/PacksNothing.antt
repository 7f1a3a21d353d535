-- A packed image that is packed again stays as it is.
use Rattle.std.proofs.Common.{◌≡◌, ℕ, true, false, List, [], ◌∷◌, length, Result, Ok, Err, refl, ap, ◌∙◌}
use Rattle.std.specs.Prelude.{IsOkAnd, cond, filter, fold}
use Rattle.std.specs.List.{AllByRecursion, sum_by}
use Rattle.table_forms.specs.Fault.{Fault, ◌>>=◌, least, answer}
use Rattle.elf_image.specs.Clean.{CleanImage, clean}
use Rattle.elf_image.specs.Programs.{headers_of, loaded}
use Rattle.lsda_pack.specs.Laws.{PacksNoMore}
use Rattle.lsda_pack.specs.PackedImage.{Packing, packing, packing_of, rewritten, spare}
use Rattle.lsda_pack.specs.Placed.{Placed, tables_placed}
use Rattle.lsda_pack.specs.Rule.{is_packed}
use Rattle.lsda_pack.specs.SharedFile.{file_faults}
use Rattle.lsda_pack.specs.SharedTables.{shared_faults}
use Rattle.lsda_pack.proofs.PackingKept.{StaysOnce, image_kept, packing_steps, when_alone, when_apart, when_clean}

none_chosen : (ts : List Placed) → AllByRecursion (λ t. is_packed t ≡ false) ts → filter is_packed ts ≡ []
none_chosen [] all = refl
none_chosen (t ∷ ts) all = ap (λ b. cond b (t ∷ filter is_packed ts) (filter is_packed ts)) all.0 ∙ none_chosen ts all.1

abbrev unchanged : List ℕ → ℕ → Packing
unchanged bytes tables = record { bytes = bytes; tables = tables; packed = 0; saved = 0 }

nothing_packed : (bytes : List ℕ) (ts : List Placed) → AllByRecursion (λ t. is_packed t ≡ false) ts → packing_of bytes ts ≡ unchanged bytes (length ts)
unfolding packing_of
nothing_packed bytes ts all =
    ap (λ (chosen : List Placed). record { bytes = fold rewritten bytes chosen; tables = length ts; packed = length chosen; saved = sum_by spare chosen }) (none_chosen ts all)

not_refused : (bytes : List ℕ) (i : CleanImage) → clean bytes ≡ Ok i → file_faults [] (loaded (headers_of bytes)) ≡ [] → shared_faults bytes i (tables_placed bytes i) ≡ [] →
    packing bytes ≡ Ok (packing_of bytes (tables_placed bytes i))
unfolding least
not_refused bytes i read apart alone =
    packing_steps bytes ∙ ap (λ r. r >>= when_clean bytes) read ∙ ap (λ fs. answer (least fs) true >>= when_apart bytes i) apart ∙
    ap (λ fs. answer (least fs) true >>= when_alone bytes i) alone

pub packing_twice : PacksNoMore
packing_twice file i p read packed = by (clean p.bytes) refl (image_kept file i p read packed).1
  where
    by : (r : Result CleanImage Fault) → clean p.bytes ≡ r → IsOkAnd r (StaysOnce i p.bytes p.tables) → packing p.bytes ≡ Ok (unchanged p.bytes p.tables)
    by (Err f) at once = absurd once
    by (Ok j) at once =
        not_refused p.bytes j at once.apart once.alone ∙ ap (λ (q : Packing). Ok q) (nothing_packed p.bytes (tables_placed p.bytes j) once.short ∙ ap (unchanged p.bytes) once.count)
