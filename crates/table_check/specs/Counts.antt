-- How much a clean image has.
use Rattle.std.specs.Prelude.{ℕ, length, Option, Some, None}
use Rattle.std.specs.List.{sum_by}
use Rattle.table_forms.specs.Lsda.{Table}
use Rattle.elf_image.specs.Clean.{CleanImage}
use Rattle.table_check.specs.declared.summary.Summary.{Summary}

abbrev pub tables_in : Option Table → ℕ
tables_in None = 0
tables_in (Some table) = 1

abbrev pub sites_in : Option Table → ℕ
sites_in None = 0
sites_in (Some table) = length table.sites

-- a table counts once for each FDE that names it
unfoldable pub counts : CleanImage → Summary
counts i = record {
  cies = length i.cies;
  frames = length i.functions;
  tables = sum_by (λ f. tables_in f.table) i.functions;
  sites = sum_by (λ f. sites_in f.table) i.functions;
}
