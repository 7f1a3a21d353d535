-- Code before its places are known. Each piece becomes one word, so a place is a number of pieces, and no piece's length depends on a
-- place. What lies outside a function is reached in two pieces, which go any distance below 2^31 bytes: the first adds the upper part of
-- the distance to the pc, the next one has the rest.
use Rattle.std.specs.Prelude.{ℕ, ℤ, ◌+◌, ◌-◌, ◌*◌, pos, ◌-ℤ◌, List, [], ◌∷◌}
use Rattle.rv64_isa.specs.declared.instr.Instr.{Instr}
use Rattle.rv64_isa.specs.declared.instr.Instr.TheVariants.{Auipc, Jal, Jalr, Lw, Sw, Addi}
use Rattle.rv64_isa.specs.Listing.{word_of}
use Rattle.linear_forms.specs.Stub.{Function}
use Rattle.machine_forms.specs.Immediate.{upper, lower, jump_field}
use Rattle.machine_forms.specs.Registers.{zero_register}

-- what code reaches outside its function: the first word of a function, the first word of a unit, the record of a type, or so many bytes
-- behind the beginning of a global
pub data Target : Type 0 where
  entry : Function → Target
  unit_entry : Target
  type_record : ℕ → Target
  global_at : (global offset : ℕ) → Target

-- one word to be
pub data Piece : Type 0 where
  instruction : Instr → Piece
  jump_to : (label : ℕ) → Piece
  upper_part : (rd : ℕ) → Target → Piece
  add_rest : (rd : ℕ) → Target → Piece
  load_rest : (rd : ℕ) → Target → Piece
  store_rest : (value base : ℕ) → Target → Piece
  jump_rest : (link base : ℕ) → Target → Piece

-- Where things stand: targets in bytes and the labels of a function in words, both from the first word of the runtime's own functions
-- on.
pub record Places : Type 0 where
  pub target : Target → ℤ
  pub label : ℕ → ℕ

-- the distance in bytes from a word to a target
abbrev pub distance : Places → ℕ → Target → ℤ
distance places here t = places.target t -ℤ pos (4 * here)

-- the lower part of the distance from the word before
abbrev pub rest : Places → ℕ → Target → ℕ
rest places here t = lower (distance places (here - 1) t)

-- the instruction of the piece that stands at a word
abbrev pub placed : Places → ℕ → Piece → Instr
placed places here (instruction i) = i
placed places here (jump_to l) = Jal zero_register (jump_field (pos (places.label l) -ℤ pos here))
placed places here (upper_part rd t) = Auipc rd (upper (distance places here t))
placed places here (add_rest rd t) = Addi rd rd (rest places here t)
placed places here (load_rest rd t) = Lw rd rd (rest places here t)
placed places here (store_rest value base t) = Sw base value (rest places here t)
placed places here (jump_rest link base t) = Jalr link base (rest places here t)

-- the words of pieces, the first of which stands at a word
abbrev pub words_from : Places → ℕ → List Piece → List ℕ
words_from places here [] = []
words_from places here (x ∷ xs) = word_of (placed places here x) ∷ words_from places (here + 1) xs
