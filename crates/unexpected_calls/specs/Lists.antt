-- What the list of a specification says of an exception that comes out of the unexpected handler (ISO/IEC 14882:2003, 15.5.2; Itanium C++ ABI:
-- Exception Handling, "Exception Handling Tables").
use Rattle.std.specs.Prelude.{◌≡◌, ℕ, ◌^◌, ◌<◌, ℤ, pos, negsuc, length, slice_get, Some}
use Rattle.caught_stack.specs.declared.header.HeaderKind.TheVariants.{Native}
use Rattle.rv64_isa.specs.State.{State}
use Rattle.elf_image.specs.Clean.{CleanImage}
use Rattle.cxa_runtime.specs.declared.object.Object.{Object}
use Rattle.cxa_runtime.specs.Objects.{object_where, is_native}
use Rattle.cxa_runtime.specs.World as abi
use Rattle.cxa_runtime.specs.World.{argument, a0, a1, a2}
use Rattle.cxa_runtime.specs.Unexpected.{answer_of}
use Rattle.eh_run.specs.Program.{program_of}
use Rattle.region_forms.specs.Ending.{bad_row}
use Rattle.linear_forms.specs.Linear.{CodeSite, UnitCode}
use Rattle.linear_forms.specs.StubOperation.{checked}
use Rattle.linear_forms.specs.UnitRun.{code_at, code_of}
use Rattle.machine_pieces.specs.Numbers.{IsInt, extended}
use Rattle.machine_stubs.specs.CallUnexpected.{bad_record}
use Rattle.table_verdicts.specs.Types.{ChainEnds}
use Rattle.machine_simulation.specs.Plan.{Plan}
use Rattle.machine_simulation.specs.Exceptions.{record_address}
use Rattle.machine_raises.specs.Stacks.{IsRunning}

-- a filter stands in the chain of a site of a function
pub record HasFilter (u : UnitCode) (n : ℕ) (filter : ℤ) : Type 0 where
  pub place : ℕ
  pub site : CodeSite
  pub there : slice_get (code_at u n).sites place ≡ Some site
  pub index : ℕ
  pub is : slice_get site.filters index ≡ Some filter

-- the runtime is asked about a native exception of a type: it has the address of a function's exception table, and the filter of one of its lists
pub record AsksList (i : CleanImage) (p : Plan) (n j t : ℕ) (w : abi.World) : Type 0 where
  pub running : IsRunning p i w.hart
  pub known : n < length p.unit.functions
  pub filter : HasFilter p.unit n (negsuc j)
  pub int : IsInt (negsuc j)
  pub table : argument w a0 ≡ p.tables n
  pub selector : argument w a1 ≡ extended (negsuc j)
  pub object : Object
  pub destructor : ℕ
  pub found : object_where is_native w.exceptions.live (argument w a2) ≡ Some object
  pub kind : object.header.kind ≡ Native (record_address p.base t) destructor
  pub type : t < length p.unit.types
  pub bases : ChainEnds p.unit.types t
  pub bad : bad_row < length p.unit.types
  pub named : (program_of i).image.places.bad_exception ≡ bad_record p.base

-- The answer is what the machine for linear code decides by what the filter means there: 0, 1 or 2.
abbrev pub ListsAnswer : Type 0
ListsAnswer = (i : CleanImage) (p : Plan) (n j t : ℕ) (w : abi.World) → AsksList i p n j t w → (k : ℕ) × (k < 3) × (answer_of (program_of i).image w ≡ Some k) × (checked p.unit.types ((code_of p.unit).sense_at n (negsuc j)) (Some t) ≡ pos k)

-- The address of a function's exception table has 64 bits.
abbrev pub TablesAreLow : Type 0
TablesAreLow = (i : CleanImage) (p : Plan) (n : ℕ) (s : State) → IsRunning p i s → n < length p.unit.functions → p.tables n < 2 ^ 64
