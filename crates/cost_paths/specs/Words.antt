-- The order in which the words of a function run.
use Rattle.std.specs.Prelude.{◌≡◌, ◌⊎◌, ℕ, ◌+◌, ◌<◌, ℤ, true, List, length, Some, slice_get}
use Rattle.std.specs.List.{AllByRecursion}
use Rattle.region_forms.specs.Form.{Regions}
use Rattle.linear_forms.specs.Linear.{LinearOp, FunctionCode}
use Rattle.linear_forms.specs.Tables.{padded, look_up}
use Rattle.linear_forms.specs.Unit.{unit_of}
use Rattle.machine_forms.specs.Piece.{Piece, jump_to}
use Rattle.machine_forms.specs.LinearCode.{linear_code}
use Rattle.machine_forms.specs.Routine.{routine_words, op_word}
use Rattle.machine_forms.specs.Emitted.{shape_of, function_front, function_routine}
use Rattle.cost_paths.specs.Control.{goes_on, place_of, TurnsBack}
use Rattle.cost_paths.specs.Ahead.{LeadsTo}

-- the first word of the operation at a place, from the function's first word on
abbrev pub word_of : FunctionCode → ℕ → ℕ
word_of g p = op_word (function_routine g) p

-- a word of a function's beginning
pub record InFront (g : FunctionCode) (n : ℕ) : Type 0 where
  pub piece : Piece
  pub there : slice_get (function_front (shape_of g) g.parameters) n ≡ Some piece

-- a word of the operation at a place
pub record InOperation (g : FunctionCode) (n : ℕ) : Type 0 where
  pub place : ℕ
  pub operation : LinearOp
  pub there : slice_get g.ops place ≡ Some operation
  pub index : ℕ
  pub piece : Piece
  pub word : slice_get (linear_code (shape_of g) operation) index ≡ Some piece
  pub is : n ≡ word_of g place + index

-- From a word of an operation control can go to where its piece leads: inside the operation, or to the word behind it, if control can come to
-- the next operation; to the first word at the label of a jump; or to the landing pad of the site that covers the operation.
abbrev pub OperationLeads : (g : FunctionCode) (n : ℕ) → InOperation g n → ℕ → Type 0
OperationLeads g n w m =
    ((j : ℕ) × LeadsTo w.piece w.index j × ((j < length (linear_code (shape_of g) w.operation)) ⊎ (goes_on w.operation ≡ true)) × (m ≡ word_of g w.place + j)) ⊎
    ((l : ℕ) × (w.piece ≡ jump_to l) × (m ≡ word_of g (place_of g l))) ⊎
    ((q : ℕ) × (chain : List ℤ) × (look_up g.sites w.place ≡ padded q chain) × (m ≡ word_of g q))

-- a step of control from a word of a function to another, inside one call
abbrev pub Leads : FunctionCode → (n m : ℕ) → Type 0
Leads g n m = ((w : InFront g n) × LeadsTo w.piece n m) ⊎ ((w : InOperation g n) × OperationLeads g n w m)

-- it is the jump of a loop's end to its test
pub record LoopTurns (g : FunctionCode) (n m : ℕ) : Type 0 where
  pub end : ℕ
  pub begin : ℕ
  pub turns : TurnsBack g end begin
  pub from : n ≡ word_of g end
  pub to : m ≡ word_of g begin

-- Ranks of the words of a function, which rise along every step of control unless a loop turns. There are no more ranks than words, so from
-- one turn of a loop to the next a call runs no word twice. Each turn runs a word of the loop's test.
pub record AreWordRanks (g : FunctionCode) (rank : ℕ → ℕ) : Type 0 where
  pub rises : (n m : ℕ) → Leads g n m → (rank n < rank m) ⊎ LoopTurns g n m
  pub inside : (n : ℕ) → n < routine_words (function_routine g) → rank n < routine_words (function_routine g)

abbrev pub HasWordRanks : FunctionCode → Type 0
HasWordRanks g = (rank : ℕ → ℕ) × AreWordRanks g rank

-- so have the words of each function of a program
abbrev pub WordsAreInOrder : Type 0
WordsAreInOrder = (r : Regions) → AllByRecursion HasWordRanks (unit_of r).functions
