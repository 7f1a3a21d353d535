-- Which exceptions of a source are live, and which of them are built.
use Rattle.std.specs.Prelude.{◌≡◌, ℕ, Bool, true, false, ◌==◌, List}
use Rattle.meaning_forms.specs.Class.{some_of}
use Rattle.meaning_forms.specs.World.{Live, Exception, building, native, foreign, exception_in}

-- an exception is live
abbrev pub is_live : List Live → ℕ → Bool
is_live xs e = some_of (λ x. x.number == e) xs

-- an exception is built: it is native or foreign
abbrev pub is_built : Exception → Bool
is_built building = false
is_built (native t o kept) = true
is_built (foreign k t) = true

-- an exception that can be thrown is live and built
abbrev pub CanBeThrown : List Live → ℕ → Type 0
CanBeThrown xs e = is_built (exception_in xs e) ≡ true
