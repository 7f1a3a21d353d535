-- Headers of exceptions on their way (Itanium C++ ABI: Exception Handling, section 2.2.1, and 2.4.3: what a raise keeps for its second phase).
use Rattle.std.specs.Prelude.{⊤, ◌≡◌, ℕ, ◌==◌, ◌||◌, ℤ, pos, negsuc, Bool, true, false, List, [], ◌∷◌, Some}
use Rattle.run_items.specs.declared.item.Item.{Item}
use Rattle.run_items.specs.declared.item.Item.TheVariants as items
use Rattle.caught_stack.specs.declared.header.Header.{Header}
use Rattle.caught_stack.specs.Caught.{Caught}
use Rattle.caught_stack.specs.Exceptions.{Exceptions}
use Rattle.caught_stack.specs.Live.{header_of}
use Rattle.cxa_runtime.specs.Objects.{is_thrown}
use Rattle.cxa_runtime.specs.Raising.{Image}
use Rattle.cxa_runtime.specs.Run.{run}
use Rattle.cxa_runtime.specs.World.{World}
use Rattle.machine_pieces.specs.Turning.{ForcedTurns, Turns}
use Rattle.machine_exceptions.specs.Picks.{TurnsFor}

-- the handlerCount of an exception that was thrown again, and not caught since
abbrev pub is_again : ℤ → Bool
is_again (pos n) = false
is_again (negsuc n) = true

-- where handlers have the exception of a slot, it was thrown again since
abbrev pub TravelsFrom : ℕ → Caught → Type 0
TravelsFrom slot [] = ⊤
TravelsFrom slot ((s, n) ∷ more) = (s ≡ slot → is_again n ≡ true) × TravelsFrom slot more

-- the exception of a slot was thrown, has this header, and no handler has it that could leave it
pub record IsOnItsWay (slot : ℕ) (h : Header) (e : Exceptions) : Type 0 where
  pub there : header_of e.live slot ≡ Some h
  pub thrown : is_thrown h.kind ≡ true
  pub travels : TravelsFrom slot e.caught

-- an exception is entered, by what was shown
abbrev pub is_entered : ℕ → List Item → Bool
is_entered number [] = false
is_entered number (items.Enter n ∷ more) = (n == number) || is_entered number more
is_entered number (item ∷ more) = is_entered number more

-- Behind a run, and behind turns, that show no entering of an exception on its way, it is on its way still, with the same header.
pub record HeadersStayAimed : Type 0 where
  pub runs : (image : Image) (pick : ℕ → ℕ) (n : ℕ) (w : World) (slot : ℕ) (h : Header) → IsOnItsWay slot h w.exceptions → is_entered h.number (run image pick n w).items ≡ false →
      IsOnItsWay slot h (run image pick n w).world.exceptions
  pub turns : (image : Image) (n : ℕ) (w v : World) (items : List Item) (slot : ℕ) (h : Header) → Turns image n w v items → IsOnItsWay slot h w.exceptions → is_entered h.number items ≡ false → IsOnItsWay slot h v.exceptions
  pub forced : (image : Image) (n : ℕ) (w v : World) (items : List Item) (slot : ℕ) (h : Header) → ForcedTurns image n w v items → IsOnItsWay slot h w.exceptions → is_entered h.number items ≡ false →
      IsOnItsWay slot h v.exceptions
  pub picked : (image : Image) (pick : ℕ → ℕ) (n : ℕ) (w v : World) (items : List Item) (slot : ℕ) (h : Header) → TurnsFor image pick n w v items → IsOnItsWay slot h w.exceptions → is_entered h.number items ≡ false →
      IsOnItsWay slot h v.exceptions
