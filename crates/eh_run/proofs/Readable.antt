-- The exception tables of an image can be read whatever is written where it may be.
use Rattle.std.proofs.Common.{◌≡◌, ◌∙◌, refl, sym, ap, subst, ◌+◌, ◌^◌, ◌==◌, ◌&&◌, ◌||◌, nat_lt, Bool, true, false, cond, List, [], ◌∷◌, map, Option, None, Result, Ok, Err, arith}
use Rattle.std.specs.Prelude.{is_ok, flat_map}
use Rattle.std.specs.List.{list_all, AllByRecursion}
use Rattle.std.proofs.lemmas.Bool.Decides.{nat_tests}
use Rattle.eh_bytes.specs.Memory.{Memory}
use Rattle.table_forms.specs.Fault.{Fault, least, ◌>>=◌}
use Rattle.table_forms.specs.Fde.{Fde}
use Rattle.table_forms.specs.Frames.{is_earlier, put_in, sorted}
use Rattle.table_forms.specs.Lsda.{Table, lsda}
use Rattle.table_forms.proofs.Least.{none_first, none_second}
use Rattle.frame_read.specs.Listed.{fde_listed}
use Rattle.frame_read.specs.declared.listed.Fde as shown
use Rattle.elf_image.specs.Clean.{Function, table_named, table_read, functions_of}
use Rattle.elf_image.specs.Runnable.{table_written, written_at}
use Rattle.raise_core.specs.Reads.{is_readable}
use Rattle.table_check.proofs.Bounds.{Ends}
use Rattle.eh_run.proofs.Alike.{AreAlike, unwritten}
use Rattle.eh_run.proofs.SameTables.{same_readable}

-- ---- one function
was_read : (r : Result Table Fault) (t : Option Table) → table_read r ≡ Ok t → is_ok r ≡ true
was_read (Ok x) t e = refl
was_read (Err f) t e = absurd cc

or_right : (a b : Bool) → b ≡ true → (a || b) ≡ true
or_right true b e = refl
or_right false b e = e

readable_one : (ms ns : Memory) (f : Fde) (t : Option Table) → AreAlike ms ns → Ends f → table_named ns f.lsda f.region ≡ Ok t →
    least (cond (f.lsda == 0) [] (written_at ns f.lsda)) ≡ None → is_readable ms (fde_listed f) ≡ true
readable_one ms ns f t h ends named none = by (f.lsda == 0) named none
  where
    fits : nat_lt (f.region.start + f.region.length) (2 ^ 64) ≡ true
    fits = grind (arith, nat_tests, ends)

    there : (r : Bool) → r ≡ true → (nat_lt (f.region.start + f.region.length) (2 ^ 64) && r) ≡ true
    there r e = ap (λ b. b && r) fits ∙ e

    by : (b : Bool) → cond b (Ok None) (table_read (lsda ns f.lsda f.region)) ≡ Ok t → least (cond b [] (written_at ns f.lsda)) ≡ None →
        (b || (nat_lt (f.region.start + f.region.length) (2 ^ 64) && is_ok (lsda ms f.lsda f.region))) ≡ true
    by true named none = refl
    by false named none =
        there (is_ok (lsda ms f.lsda f.region))
        (same_readable ms ns f.lsda f.region h (unwritten ns f.lsda none) ∙ was_read (lsda ns f.lsda f.region) t named)

-- ---- all of them
all_readable : (ms ns : Memory) (fs : List Fde) (gs : List Function) → AreAlike ms ns → AllByRecursion Ends fs → functions_of ns fs ≡ Ok gs →
    least (flat_map (table_written ns) gs) ≡ None → AllByRecursion (λ f. is_readable ms (fde_listed f) ≡ true) fs
all_readable ms ns [] gs h ends read none = tt
all_readable ms ns (f ∷ fs) gs h ends read none = by (λ more is all. all_readable ms ns fs more h ends.1 is all) (table_named ns f.lsda f.region) refl read
  where
    same : (xs ys : List Function) (r : Result (List Function) Fault) → Ok xs ≡ r → r ≡ Ok ys → xs ≡ ys
    same xs ys r e f = cc

    rest : ((more : List Function) → functions_of ns fs ≡ Ok more → least (flat_map (table_written ns) more) ≡ None → AllByRecursion (λ x. is_readable ms (fde_listed x) ≡ true) fs) →
        (t : Option Table) → table_named ns f.lsda f.region ≡ Ok t → (r : Result (List Function) Fault) → functions_of ns fs ≡ r →
        (r >>= λ more. Ok (record { fde = f; table = t } ∷ more)) ≡ Ok gs → (is_readable ms (fde_listed f) ≡ true) × AllByRecursion (λ x. is_readable ms (fde_listed x) ≡ true) fs
    rest later t named (Err e) is read = absurd cc
    rest later t named (Ok more) is read =
        let first : Function = record { fde = f; table = t } in
        let all = subst (λ (xs : List Function). least (flat_map (table_written ns) xs) ≡ None) (sym (same (first ∷ more) gs (Ok (first ∷ more)) refl read)) none in (
          readable_one ms ns f t h ends.0 named (none_first (table_written ns first) (flat_map (table_written ns) more) all),
          later more is (none_second (table_written ns first) (flat_map (table_written ns) more) all),
        )

    by : ((more : List Function) → functions_of ns fs ≡ Ok more → least (flat_map (table_written ns) more) ≡ None → AllByRecursion (λ x. is_readable ms (fde_listed x) ≡ true) fs) →
        (r : Result (Option Table) Fault) → table_named ns f.lsda f.region ≡ r →
        ((r >>= λ t. Ok (record { fde = f; table = t })) >>= λ first. functions_of ns fs >>= λ more. Ok (first ∷ more)) ≡ Ok gs →
        (is_readable ms (fde_listed f) ≡ true) × AllByRecursion (λ x. is_readable ms (fde_listed x) ≡ true) fs
    by later (Err e) named read = absurd cc
    by later (Ok t) named read = rest later t named (functions_of ns fs) refl read

-- ---- in the order of their places
not_put : (P : Fde → Type 0) (f : Fde) (fs : List Fde) → AllByRecursion P (put_in f fs) → P f × AllByRecursion P fs
not_put P f [] all = (all.0, tt)
not_put P f (g ∷ fs) all = by (not_put P f fs) (is_earlier f g) all
  where
    by : (AllByRecursion P (put_in f fs) → P f × AllByRecursion P fs) → (b : Bool) → AllByRecursion P (cond b (f ∷ g ∷ fs) (g ∷ put_in f fs)) → P f × AllByRecursion P (g ∷ fs)
    by more true all = (all.0, all.1)
    by more false all = let later = more all.1 in (later.0, (all.0, later.1))

unsorted : (P : Fde → Type 0) (fs : List Fde) → AllByRecursion P (sorted fs) → AllByRecursion P fs
unsorted P [] all = tt
unsorted P (f ∷ fs) all = let both = not_put P f (sorted fs) all in (both.0, unsorted P fs both.1)

listed_all : (test : shown.Fde → Bool) (fs : List Fde) → AllByRecursion (λ f. test (fde_listed f) ≡ true) fs → list_all test (map fde_listed fs) ≡ true
listed_all test [] all = refl
listed_all test (f ∷ fs) all = ap (λ b. b && list_all test (map fde_listed fs)) all.0 ∙ listed_all test fs all.1

pub all_listed_readable : (ms ns : Memory) (fs : List Fde) (gs : List Function) → AreAlike ms ns → AllByRecursion Ends (sorted fs) → functions_of ns (sorted fs) ≡ Ok gs →
    least (flat_map (table_written ns) gs) ≡ None → list_all (is_readable ms) (map fde_listed fs) ≡ true
all_listed_readable ms ns fs gs h ends read none =
    listed_all (is_readable ms) fs (unsorted (λ f. is_readable ms (fde_listed f) ≡ true) fs (all_readable ms ns (sorted fs) gs h ends read none))
