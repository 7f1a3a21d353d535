-- A function as code without places: the pieces of each operation, what stands in front of them, and its tables by operations. Words and
-- bytes count from the function's first one.
use Rattle.std.specs.Prelude.{ℕ, ℤ, ◌+◌, ◌-◌, ◌*◌, Bool, true, false, ◌||◌, List, [], ◌∷◌, ◌++◌, map, take, length, flat_map, Option, Some, None, if◌then◌else◌}
use Rattle.eh_bytes.specs.declared.frames.FrameMove.{FrameMove}
use Rattle.eh_bytes.specs.declared.table.ListSite.{ListSite}
use Rattle.eh_bytes.specs.Listed.{ListedTable, ListedFunction}
use Rattle.linear_forms.specs.Linear.{CodeSite}
use Rattle.linear_forms.specs.Sites.{same_chain}
use Rattle.machine_forms.specs.Piece.{Target, Piece, Places, words_from}

pub record Routine : Type 0 where
  pub name : List ℕ
  pub front : List Piece
  pub blocks : List (List Piece)
  pub label_at : ℕ → ℕ
  pub sites : List CodeSite
  pub types : List ℕ
  pub lists : List (List ℕ)
  pub moves : List FrameMove

-- how many words operations have
abbrev pub block_words : List (List Piece) → ℕ
block_words [] = 0
block_words (b ∷ bs) = length b + block_words bs

-- how many words a routine has
abbrev pub routine_words : Routine → ℕ
routine_words r = length r.front + block_words r.blocks

-- the first word of an operation
abbrev pub op_word : Routine → ℕ → ℕ
op_word r p = length r.front + block_words (take p r.blocks)

-- the first byte of an operation
abbrev pub op_byte : Routine → ℕ → ℕ
op_byte r p = 4 * op_word r p

-- where things stand for a routine whose first word is this
abbrev pub routine_places : (Target → ℤ) → ℕ → Routine → Places
routine_places target first r = record { target = target; label = λ l. first + op_word r (r.label_at l) }

-- the words of a routine whose first word is this
abbrev pub routine_code : (Target → ℤ) → ℕ → Routine → List ℕ
routine_code target first r = words_from (routine_places target first r) first (r.front ++ flat_map (λ b. b) r.blocks)

-- a chain without filters
abbrev pub is_empty : List ℤ → Bool
is_empty [] = true
is_empty (n ∷ chain) = false

-- a chain is there already
abbrev pub has_chain : List ℤ → List (List ℤ) → Bool
has_chain chain [] = false
has_chain chain (c ∷ cs) = if same_chain chain c then true else has_chain chain cs

-- the chains of sites are put behind others, each that is neither empty nor there already
abbrev pub chains_behind : List (List ℤ) → List CodeSite → List (List ℤ)
chains_behind chains [] = chains
chains_behind chains (s ∷ sites) =
    if is_empty s.filters || has_chain s.filters chains then chains_behind chains sites
    else chains_behind (chains ++ s.filters ∷ []) sites

-- the chains of sites, each once, in the order of the sites
abbrev pub chains_of : List CodeSite → List (List ℤ)
chains_of sites = chains_behind [] sites

-- the number of a chain
abbrev pub chain_number : List ℤ → List (List ℤ) → ℕ
chain_number chain [] = 0
chain_number chain (c ∷ cs) = if same_chain chain c then 0 else chain_number chain cs + 1

-- a site without filters is a cleanup, or has no pad
abbrev pub chain_for : List (List ℤ) → List ℤ → Option ℕ
chain_for chains [] = None
chain_for chains filters = Some (chain_number filters chains)

-- the pad of a site in bytes; 0 is none
abbrev pub pad_byte : Routine → Option ℕ → ℕ
pad_byte r None = 0
pad_byte r (Some p) = op_byte r p

-- a site in bytes
abbrev pub listed_site : Routine → CodeSite → ListSite
listed_site r s = record {
  start = op_byte r s.start;
  length = op_byte r s.end - op_byte r s.start;
  pad = pad_byte r s.pad;
  chain = chain_for (chains_of r.sites) s.filters;
}

-- the exception table of a routine
abbrev pub routine_table : Routine → ListedTable
routine_table r = record { sites = map (listed_site r) r.sites; chains = chains_of r.sites; types = r.types; lists = r.lists }

-- a routine with its first word, its tables and its frame
abbrev pub listed_routine : ℕ → Routine → ListedFunction
listed_routine first r = record { name = r.name; first = first; words = routine_words r; table = routine_table r; moves = r.moves }

-- routines one behind the other, from a word on
abbrev pub listed_routines : ℕ → List Routine → List ListedFunction
listed_routines first [] = []
listed_routines first (r ∷ rs) = listed_routine first r ∷ listed_routines (first + routine_words r) rs

-- how many words routines have
abbrev pub all_words : List Routine → ℕ
all_words [] = 0
all_words (r ∷ rs) = routine_words r + all_words rs

-- the words of routines one behind the other
abbrev pub routines_code : (Target → ℤ) → ℕ → List Routine → List ℕ
routines_code target first [] = []
routines_code target first (r ∷ rs) = routine_code target first r ++ routines_code target (first + routine_words r) rs
