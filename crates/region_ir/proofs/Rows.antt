-- The rows of arguments, regions and clauses in a tree, as the lists that they stand for.
use Rattle.std.proofs.Common.{◌≡◌, refl, ap, map}
use Rattle.region_ir.specs.declared.value.Value.{Row_of-Arg, end_of-Arg, more_of-Arg, items-the_row-Arg, the_lemmas}
use Rattle.region_ir.specs.declared.region.Region.{Row_of-Region, end_of-Region, more_of-Region, items-the_row-Region, Row_of-Clause, end_of-Clause, more_of-Clause, items-the_row-Clause, the_lemmas as region_lemmas}
use Rattle.region_forms.specs.Form.{argument_then, region_then, regions_from}
use Rattle.region_ir.specs.View.{argument_of, arguments_of, row_of_arguments, region_of, row_of_regions, row_of_clauses, clauses_of}

pub row_of_arguments-items : (n : _) (row : Row_of-Arg n) → row_of_arguments row ≡ arguments_of (items-the_row-Arg n row)
row_of_arguments-items _ end_of-Arg = refl
row_of_arguments-items _ (more_of-Arg a rest) = ap (argument_then (argument_of a)) (row_of_arguments-items _ rest)

-- a row of arguments read as a list
pub ruleset rows = (the_lemmas, row_of_arguments-items)

pub row_of_regions-items : (n : _) (row : Row_of-Region n) → row_of_regions row ≡ regions_from (map region_of (items-the_row-Region n row))
row_of_regions-items _ end_of-Region = refl
row_of_regions-items _ (more_of-Region r rest) = ap (region_then (region_of r)) (row_of_regions-items _ rest)

pub row_of_clauses-items : (n : _) (row : Row_of-Clause n) → row_of_clauses row ≡ clauses_of (items-the_row-Clause n row)
row_of_clauses-items _ end_of-Clause = refl
row_of_clauses-items _ (more_of-Clause ty object body rest) = search (region_lemmas, row_of_clauses-items _ rest)

-- rows of regions and clauses read as lists
pub ruleset region_rows = (region_lemmas, row_of_regions-items, row_of_clauses-items)
