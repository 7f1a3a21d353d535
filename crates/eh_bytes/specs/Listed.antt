-- The lists that compiler, stubs and writers share, as plain data: what a contract sees of each Rust type.
use Rattle.std.specs.Prelude.{ℕ, ℤ, Bool, List, map}
use Rattle.eh_bytes.specs.declared.frames.Region64.{Region64}
use Rattle.eh_bytes.specs.declared.frames.FrameMove.{FrameMove}
use Rattle.eh_bytes.specs.declared.frames.ListFde.{ListFde}
use Rattle.eh_bytes.specs.declared.frames.FrameList.{FrameList}
use Rattle.eh_bytes.specs.declared.table.ListSite.{ListSite}
use Rattle.eh_bytes.specs.declared.table.LsdaList.{LsdaList}
use Rattle.eh_bytes.specs.declared.unit.TypeRow.{TypeRow}
use Rattle.eh_bytes.specs.declared.unit.EmittedFunc.{EmittedFunc}
use Rattle.eh_bytes.specs.declared.unit.Emitted.{Emitted}

-- an exception table: sites, chains of filters, types, and the index lists of specifications
pub record ListedTable : Type 0 where
  pub sites : List ListSite
  pub chains : List (List ℤ)
  pub types : List ℕ
  pub lists : List (List ℕ)

abbrev pub listed_table : LsdaList → ListedTable
listed_table table = record {
  sites = table.sites.items;
  chains = map (λ chain. chain.items) table.chains.items;
  types = table.types.items;
  lists = map (λ indices. indices.items) table.lists.items;
}

-- the frame of a function
pub record ListedFrame : Type 0 where
  pub region : Region64
  pub lsda : ℕ
  pub moves : List FrameMove

abbrev pub listed_frame : ListFde → ListedFrame
listed_frame frame = record { region = frame.region; lsda = frame.lsda; moves = frame.moves.items }

-- the frames of some functions
pub record ListedFrames : Type 0 where
  pub lsda : Bool
  pub frames : List ListedFrame

abbrev pub listed_frames : FrameList → ListedFrames
listed_frames list = record { lsda = list.lsda; frames = map listed_frame list.fdes.items }

-- a function's words, table and frame
pub record ListedFunction : Type 0 where
  pub name : List ℕ
  pub first : ℕ
  pub words : ℕ
  pub table : ListedTable
  pub moves : List FrameMove

abbrev pub listed_function : EmittedFunc → ListedFunction
listed_function f = record { name = f.name; first = f.first; words = f.words; table = listed_table f.table; moves = f.moves.items }

-- a unit's code with what belongs to it
pub record ListedUnit : Type 0 where
  pub code : List ℕ
  pub functions : List ListedFunction
  pub types : List TypeRow
  pub globals : List ℤ
  pub tokens : ℕ

abbrev pub listed_unit : Emitted → ListedUnit
listed_unit unit = record {
  code = unit.code.items;
  functions = map listed_function unit.functions.items;
  types = unit.types.items;
  globals = unit.globals.items;
  tokens = unit.tokens;
}
