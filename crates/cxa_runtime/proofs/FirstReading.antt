-- The readings of an exception table, one after the other.
use Rattle.std.proofs.Common.{◌≡◌, ◌∙◌, refl, sym, ap, subst, ℕ, ◌==◌, Bool, true, false, cond, List, [], ◌∷◌, map, find, Option, Some, None, IfSome, ◌+◌}
use Rattle.std.specs.Prelude.{Contains, filter, filter_map}
use Rattle.eh_bytes.specs.Memory.{Memory}
use Rattle.table_forms.specs.Fde.{Fde}
use Rattle.table_forms.specs.Lsda.{Table}
use Rattle.frame_read.specs.Listed.{fde_listed}
use Rattle.frame_read.specs.declared.listed.Fde as shown
use Rattle.lsda_read.specs.Names.{lists_named}
use Rattle.raise_core.specs.Asked.{table_named, table_of}
use Rattle.cxa_runtime.proofs.Listed.{list_named}
use Rattle.cxa_runtime.specs.Unexpected.{first_reading, has_list, or_else, readings, with_list}

kept_or : (b : Bool) (t : Table) (more : Option Table) → or_else (cond b (Some t) None) more ≡ cond b (Some t) more
kept_or true t more = refl
kept_or false t more = refl

by_table : (j : ℕ) (memory : Memory) (fde : Fde) (fdes : List Fde) (o : Option Table) → table_of memory fde ≡ o →
    or_else (with_list j (table_of memory fde)) (find (has_list j) (filter_map (table_of memory) fdes)) ≡ find (has_list j) (filter_map (table_of memory) (fde ∷ fdes))
by_table j memory fde fdes None e = rw e refl
by_table j memory fde fdes (Some t) e = rw e (kept_or (has_list j t) t (find (has_list j) (filter_map (table_of memory) fdes)))

pub first_is : (memory : Memory) (a j : ℕ) (fdes : List Fde) → first_reading memory a j (map fde_listed fdes) ≡ find (has_list j) (readings memory fdes a)
first_is memory a j [] = refl
first_is memory a j (fde ∷ fdes) = ap (or_else (cond (fde.lsda == a) (with_list j (table_of memory fde)) None)) (first_is memory a j fdes) ∙ by_address (fde.lsda == a)
  where
    by_address : (b : Bool) → or_else (cond b (with_list j (table_of memory fde)) None) (find (has_list j) (readings memory fdes a)) ≡
        find (has_list j) (filter_map (table_of memory) (cond b (fde ∷ filter (λ f. f.lsda == a) fdes) (filter (λ f. f.lsda == a) fdes)))
    by_address true = by_table j memory fde (filter (λ f. f.lsda == a) fdes) (table_of memory fde) refl
    by_address false = refl

-- what is found has the list
kept_named : (j : ℕ) (t : Table) (b : Bool) → has_list j t ≡ b → IfSome (cond b (Some t) None) (λ x. Contains (lists_named x) (j + 1))
kept_named j t true h = list_named t j h
kept_named j t false h = tt

with_list_named : (j : ℕ) (o : Option Table) → IfSome (with_list j o) (λ x. Contains (lists_named x) (j + 1))
with_list_named j None = tt
with_list_named j (Some t) = kept_named j t (has_list j t) refl

or_named : (j : ℕ) (x y : Option Table) → IfSome x (λ t. Contains (lists_named t) (j + 1)) → IfSome y (λ t. Contains (lists_named t) (j + 1)) → IfSome (or_else x y) (λ t. Contains (lists_named t) (j + 1))
or_named j None y h k = k
or_named j (Some t) y h k = h

reading_named : (j : ℕ) (o : Option Table) (b : Bool) → IfSome (cond b (with_list j o) None) (λ x. Contains (lists_named x) (j + 1))
reading_named j o true = with_list_named j o
reading_named j o false = tt

all_readings_named : (memory : Memory) (a j : ℕ) (fdes : List shown.Fde) → IfSome (first_reading memory a j fdes) (λ t. Contains (lists_named t) (j + 1))
all_readings_named memory a j [] = tt
all_readings_named memory a j (fde ∷ fdes) =
    or_named j (cond (fde.lsda == a) (with_list j (table_named memory fde.lsda fde.region)) None) (first_reading memory a j fdes)
    (reading_named j (table_named memory fde.lsda fde.region) (fde.lsda == a)) (all_readings_named memory a j fdes)

pub first_named : (memory : Memory) (a j : ℕ) (fdes : List shown.Fde) (o : Option Table) → o ≡ first_reading memory a j fdes → IfSome o (λ t. Contains (lists_named t) (j + 1))
first_named memory a j fdes o h = subst (λ x. IfSome x (λ t. Contains (lists_named t) (j + 1))) (sym h) (all_readings_named memory a j fdes)
