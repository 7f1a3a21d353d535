-- Which guard stops an exception. An exception is given here by its type, or by none if it is foreign.
use Rattle.std.specs.Prelude.{Bool, true, false, not, List, Option, Some, None, find, is_none}
use Rattle.cxx_ast.specs.Plain.{Checked}
use Rattle.meaning_forms.specs.Class.{ObjectType, some_of, derives}
use Rattle.meaning_forms.specs.Context.{Clause, catch_all, catch_type, Guard, try_block, specification, barrier}

-- a clause matches an exception of its type or of a class derived from it; `...` matches all, and alone a foreign one
abbrev pub matches : Checked → Option ObjectType → Clause → Bool
matches p t catch_all = true
matches p None (catch_type u) = false
matches p (Some t) (catch_type u) = derives p t u

-- a specification allows an exception of a listed type or of a class derived from one, and no foreign one
abbrev pub allows : Checked → List ObjectType → Option ObjectType → Bool
allows p types None = false
allows p types (Some t) = some_of (derives p t) types

-- a try block stops what one of its clauses matches, a specification what it does not allow, and a barrier everything
abbrev pub stops : Checked → Option ObjectType → Guard → Bool
stops p t (try_block clauses) = some_of (matches p t) clauses
stops p t (specification types) = not (allows p types t)
stops p t barrier = true

-- an exception is doomed where nothing stops it or a barrier does, and a foreign one also where a specification does
abbrev pub dooms : Option ObjectType → Option Guard → Bool
dooms t None = true
dooms t (Some (try_block clauses)) = false
dooms t (Some (specification types)) = is_none t
dooms t (Some barrier) = true

-- the doomed test: the first guard that stops the exception decides
abbrev pub is_doomed : Checked → List Guard → Option ObjectType → Bool
is_doomed p guards t = dooms t (find (stops p t) guards)
