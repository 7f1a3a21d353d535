-- What must hold of an exception where an operation is about it: that it is live, is being built, can travel, or may be entered or left.
use Rattle.std.specs.Prelude.{ℕ, not, ◌==◌, ◌&&◌, ◌||◌, Bool, true, false, List, [], ◌∷◌}
use Rattle.meaning_forms.specs.Class.{some_of}
use Rattle.region_forms.specs.Caught.{Entry}
use Rattle.region_forms.specs.World.{Base, of_global, of_variable, of_exception, Exception, building, native, foreign, World, exception_at}

-- an exception is live
abbrev pub is_live : World → ℕ → Bool
is_live w e = some_of (λ x. x.number == e) w.live

-- what begins at an exception is there as long as that is live
abbrev pub is_there : World → Base → Bool
is_there w (of_global g) = true
is_there w (of_variable c s) = true
is_there w (of_exception e) = is_live w e

-- an exception is built: it is native or foreign
abbrev pub is_built : Exception → Bool
is_built building = false
is_built (native t d kept) = true
is_built (foreign k t) = true

-- an exception is native
abbrev pub is_native : Exception → Bool
is_native (native t d kept) = true
is_native _ = false

-- an exception is live and being built
abbrev pub is_being_built : World → ℕ → Bool
is_being_built w e = is_live w e && not (is_built (exception_at w e))

-- an exception can travel: it is live and built
abbrev pub can_travel : World → ℕ → Bool
can_travel w e = is_built (exception_at w e)

-- an exception has the newest entry of a caught list, or none
abbrev pub is_on_top : ℕ → List Entry → Bool
is_on_top e [] = true
is_on_top e (x ∷ xs) = x.number == e || not (some_of (λ y. y.number == e) xs)

-- an exception may be entered: it can travel, some exception travels, and its handlers, if any, are the newest
abbrev pub may_enter : World → ℕ → Bool
may_enter w e = can_travel w e && (not (w.uncaught == 0) && is_on_top e w.caught)

-- the newest handler of a caught list may be left: there is one, and its exception is live and built
abbrev pub may_leave : World → List Entry → Bool
may_leave w [] = false
may_leave w (x ∷ xs) = can_travel w x.number
