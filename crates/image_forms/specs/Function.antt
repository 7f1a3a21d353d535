-- What a linker needs of a function: whatever the writers of tables and frames ask that does not speak of addresses. Places count in
-- bytes from the function's first word.
use Rattle.std.specs.Prelude.{◌≤◌, ◌<◌, ℕ, ◌+◌, ◌*◌, List, [], ◌∷◌}
use Rattle.std.specs.List.{AllByRecursion}
use Rattle.eh_bytes.specs.declared.table.ListSite.{ListSite}
use Rattle.eh_bytes.specs.Listed.{ListedTable, ListedFunction}
use Rattle.eh_write.specs.CanWrite.{AreInOrder, ChainIsThere, ChainIsGood, TypeIsThere}
use Rattle.eh_write.specs.CanWriteFrames.{MovesAreGood}

-- a site and its pad lie in a function of so many bytes
abbrev pub SiteIsInside : ℕ → ListSite → Type 0
SiteIsInside size s = (s.start + s.length ≤ size) × (s.pad < size)

-- the table of a function of so many bytes, in a unit with so many types
pub record TableFits (size rows : ℕ) (table : ListedTable) : Type 0 where
  pub order : AreInOrder 0 table.sites
  pub inside : AllByRecursion (SiteIsInside size) table.sites
  pub sites : AllByRecursion (λ s. ChainIsThere table s.chain) table.sites
  pub chains : AllByRecursion (ChainIsGood table) table.chains
  pub lists : AllByRecursion (AllByRecursion (TypeIsThere table)) table.lists
  pub types : AllByRecursion (λ t. t ≤ rows) table.types

-- a function of a unit with so many types
pub record FunctionFits (types : ℕ) (f : ListedFunction) : Type 0 where
  pub some : 0 < f.words
  pub table : TableFits (4 * f.words) types f.table
  pub moves : MovesAreGood (record { start = 0; length = 4 * f.words }) 0 f.moves

-- functions in the order of their words, of which no two share one, and all of which lie before an end
abbrev pub StandInRow : (before end : ℕ) → List ListedFunction → Type 0
StandInRow before end [] = before ≤ end
StandInRow before end (f ∷ fs) = (before ≤ f.first) × StandInRow (f.first + f.words) end fs
