-- Where the parts of a linked image stand. Between the globals and the records of types is a boundary of a page, since only the globals
-- are written:
--     0x10000    ...        the globals, from the last one up to the first
--     a page's first byte   the records of types, from the last one up to the first
--                           the runtime's own functions, then the unit's code
--     a page's first byte   names of types, exception tables, frames, and their header
use Rattle.std.specs.Prelude.{ℕ, ◌+◌, ◌-◌, ◌*◌, ◌/◌, ◌==◌, List, ◌++◌, length, map, Option, Some, None, if◌then◌else◌}
use Rattle.eh_bytes.specs.Listed.{ListedFunction, ListedUnit}
use Rattle.machine_forms.specs.Emitted.{emitted_stubs}

-- the first address of a page at or behind a number
abbrev pub page_from : ℕ → ℕ
page_from n = (n + 0xfff) / 0x1000 * 0x1000

abbrev pub first_page : ℕ
first_page = 0x10000

-- the first byte of the records
abbrev pub records_at : ListedUnit → ℕ
records_at u = first_page + page_from (4 * length u.globals)

-- the first byte of the globals
abbrev pub globals_at : ListedUnit → ℕ
globals_at u = records_at u - 4 * length u.globals

-- the first word of the runtime's own functions
abbrev pub code_at : ListedUnit → ℕ
code_at u = records_at u + 24 * length u.types

-- the words of the image
abbrev pub all_code : ListedUnit → List ℕ
all_code u = emitted_stubs.code ++ u.code

-- the first word of the unit
abbrev pub unit_at : ListedUnit → ℕ
unit_at u = code_at u + 4 * length emitted_stubs.code

-- the first byte of the names
abbrev pub names_at : ListedUnit → ℕ
names_at u = page_from (code_at u + 4 * length (all_code u))

-- the address of a type's record, where the records end at an address
abbrev pub record_at : (end type : ℕ) → ℕ
record_at end type = end - 24 * (type + 1)

-- the address of a base's record; 0 is none
abbrev pub base_at : ℕ → Option ℕ → ℕ
base_at end None = 0
base_at end (Some type) = record_at end type

-- the address that a table has for a type of a unit's; 0 is `catch (...)`
abbrev pub type_at : (end type : ℕ) → ℕ
type_at end type = if type == 0 then 0 else end - 24 * type

-- a function with the address of its first word
pub record PlacedFunction : Type 0 where
  pub address : ℕ
  pub function : ListedFunction

-- a function whose unit's words begin at an address
abbrev pub placed_at : ℕ → ListedFunction → PlacedFunction
placed_at code f = record { address = code + 4 * f.first; function = f }

abbrev pub placed_from : ℕ → List ListedFunction → List PlacedFunction
placed_from code functions = map (placed_at code) functions

-- the functions of an image in the order of their addresses
abbrev pub all_functions : ListedUnit → List PlacedFunction
all_functions u = placed_from (code_at u) emitted_stubs.functions ++ placed_from (unit_at u) u.functions
