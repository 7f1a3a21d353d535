-- Which guard stops an exception (ISO/IEC 14882:2003, 15.3/3, 15.4/9, 15.5.1). Types are numbers of rows; a foreign exception has none.
use Rattle.std.specs.Prelude.{ℕ, zero, suc, Bool, true, false, not, ◌||◌, ◌==◌, List, [], ◌∷◌, length, Option, Some, None, find, is_none, slice_get}
use Rattle.meaning_forms.specs.Class.{some_of}
use Rattle.region_forms.specs.Form.{TypeRow, Clauses, no_clauses, clause_then}

-- what may stop an exception on its way outwards: clauses, each with its type or none for `...`; a specification's list; a barrier
pub data Guard : Type 0 where
  clauses : List (Option ℕ) → Guard
  listed : List ℕ → Guard
  everything : Guard

-- the base of a type
abbrev pub base_row : Option TypeRow → Option ℕ
base_row None = None
base_row (Some x) = x.base

-- type u stands in the chain of bases that begins at type t and is at most n long
abbrev pub in_chain : ℕ → List TypeRow → Option ℕ → ℕ → Bool
in_chain zero rows t u = false
in_chain (suc n) rows None u = false
in_chain (suc n) rows (Some t) u = t == u || in_chain n rows (base_row (slice_get rows t)) u

-- type t is type u, or derived from it
abbrev pub derives : List TypeRow → ℕ → ℕ → Bool
derives rows t u = in_chain (suc (length rows)) rows (Some t) u

-- a clause matches an exception of its type or of one derived from it; `...` matches all, and alone a foreign one
abbrev pub matches : List TypeRow → Option ℕ → Option ℕ → Bool
matches rows t None = true
matches rows None (Some u) = false
matches rows (Some t) (Some u) = derives rows t u

-- a list allows an exception of a type in it or of one derived from that, and no foreign one
abbrev pub allows : List TypeRow → List ℕ → Option ℕ → Bool
allows rows types None = false
allows rows types (Some t) = some_of (derives rows t) types

-- a guard stops an exception of a type
abbrev pub stops : List TypeRow → Option ℕ → Guard → Bool
stops rows t (clauses cs) = some_of (matches rows t) cs
stops rows t (listed types) = not (allows rows types t)
stops rows t everything = true

-- an exception is doomed where nothing stops it or a barrier does, and a foreign one also where a specification does
abbrev pub dooms : Option ℕ → Option Guard → Bool
dooms t None = true
dooms t (Some (clauses cs)) = false
dooms t (Some (listed types)) = is_none t
dooms t (Some everything) = true

-- the doomed test: the first guard that stops the exception decides
abbrev pub is_doomed : List TypeRow → List Guard → Option ℕ → Bool
is_doomed rows guards t = dooms t (find (stops rows t) guards)

-- the types of clauses in order of appearance
abbrev pub types_of : Clauses → List (Option ℕ)
types_of no_clauses = []
types_of (clause_then t s r cs) = t ∷ types_of cs
