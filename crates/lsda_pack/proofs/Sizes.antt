-- A packed file has as many bytes as before, and lists that stand are in a row.
use Rattle.std.proofs.Common.{◌≡◌, ◌≤◌, ℕ, Bool, true, false, List, [], ◌∷◌, ◌++◌, length, take, drop, replicate, refl, sym, ◌∙◌, arith, subst, ◌+◌, ◌-◌, ◌==◌}
use Rattle.std.specs.Prelude.{Option, Some, None, fold, ◌&&◌}
use Rattle.std.specs.List.{AllByRecursion}
use Rattle.std.proofs.lemmas.Bool.Decides.{nat_tests}
use Rattle.std.proofs.lemmas.List.{length-drop, length-take, length-replicate, length-append}
use Rattle.eh_bytes.specs.Memory.{Part}
use Rattle.table_forms.specs.LsdaHead.{Types}
use Rattle.table_forms.specs.WrittenTable.{list_size}
use Rattle.lsda_pack.specs.PackedImage.{put_at, spare, rewritten}
use Rattle.lsda_pack.specs.Placed.{Placed}
use Rattle.lsda_pack.specs.ReadLists.{AreInRow}
use Rattle.lsda_pack.specs.Rule.{are_listed, lists_stand, bytes_for}
use Rattle.lsda_pack.specs.TableEnd.{list_end}

put_size : (place : ℕ) (bytes file : List ℕ) → place + length bytes ≤ length file → length (put_at place bytes file) ≡ length file
put_size place bytes file inside =
    let one = length-append (take place file ++ bytes) (drop (place + length bytes) file) in
    let two = length-append (take place file) bytes in
    let three = length-drop (place + length bytes) file in
    let four = length-take place file in
    omega (arith, one, two, three, four, inside)

-- its bytes stand in the file, and the new ones are not more
pub record FitsIn (file_size : ℕ) (t : Placed) : Type 0 where
  pub inside : t.place + (t.end - t.first) ≤ file_size
  pub fewer : length (bytes_for t) ≤ t.end - t.first

pub one_size : (file : List ℕ) (t : Placed) → FitsIn (length file) t → length (rewritten file t) ≡ length file
unfolding rewritten
one_size file t fits =
    let inside = fits.inside in
    let fewer = fits.fewer in
    let sizes = length-append (bytes_for t) (replicate (spare t) 0) in
    let zeros = length-replicate {A = ℕ} (spare t) 0 in
    put_size t.place (bytes_for t ++ replicate (spare t) 0) file (omega (arith, inside, fewer, sizes, zeros))

pub all_size : (ts : List Placed) (file : List ℕ) → AllByRecursion (FitsIn (length file)) ts → length (fold rewritten file ts) ≡ length file
all_size [] file fits = refl
all_size (t ∷ ts) file fits =
    let one = one_size file t fits.0 in
    all_size ts (rewritten file t) (subst (λ n. AllByRecursion (FitsIn n) ts) (sym one) fits.1) ∙ one

pub listed_row : (part : Part) (types : Types) (ls : List (ℕ × List ℕ)) (n : ℕ) → are_listed part types n ls ≡ true → AreInRow n ls
listed_row part types [] n all = tt
listed_row part types ((j, l) ∷ ls) n all =
    step (j == n + 1) (list_end part types j == types.base + n + list_size l) refl all (λ e. listed_row part types ls (n + list_size l) e)
  where
    step : (b c : Bool) → (j == n + 1) ≡ b → (b && c && are_listed part types (n + list_size l) ls) ≡ true →
        (are_listed part types (n + list_size l) ls ≡ true → AreInRow (n + list_size l) ls) → (j ≡ n + 1) × AreInRow (n + list_size l) ls
    step true true e rest more = (grind (arith, nat_tests, e), more rest)
    step true false e rest more = cc
    step false c e rest more = cc

pub in_row : (part : Part) (types : Option Types) (ls : List (ℕ × List ℕ)) → lists_stand part types ls ≡ true → AreInRow 0 ls
in_row part None [] all = tt
in_row part None (l ∷ ls) all = absurd (grind (arith, nat_tests, all))
in_row part (Some types) ls all = listed_row part types ls 0 all
