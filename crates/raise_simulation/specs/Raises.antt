-- A raise on the machine's stack (Itanium C++ ABI: Exception Handling, level I, "Throwing an Exception" and "Forced unwinding").
use Rattle.std.specs.Prelude.{◌≡◌, ◌⊎◌, ℕ, ℤ, List, ◌∷◌, ◌++◌, length, Option, Some, None}
use Rattle.table_forms.specs.Fde.{Fde}
use Rattle.table_forms.specs.Verdict.{Thrown}
use Rattle.rv64_isa.specs.State.{State, reg_of}
use Rattle.raise_core.specs.declared.raised.Raised.{Raised}
use Rattle.raise_core.specs.declared.raised.Raised.TheVariants as answers
use Rattle.raise_core.specs.Raise.{raise}
use Rattle.region_forms.specs.World.{Word, flying, World, type_at}
use Rattle.linear_forms.specs.Tables.{padded}
use Rattle.linear_forms.specs.Stub.{Function}
use Rattle.linear_forms.specs.Activation.{Code, Activation, Next, fetch}
use Rattle.linear_forms.specs.Search.{found_above}
use Rattle.linear_forms.specs.Unwinding.{pad_entered, terminated_in, unwound_above}
use Rattle.machine_pieces.specs.Keeping.{saved_of}
use Rattle.raise_simulation.specs.OpenCalls.{outer_sp, regs_at}
use Rattle.raise_simulation.specs.Verdicts.{cover_of, judged_by}
use Rattle.raise_simulation.specs.Opens.{Open, activations, calls, StackStands, cfa_with, table_with}

-- a state in which control has entered a pad of the frame at sp, with these numbers in the registers of kept variables
pub record InFrame (pad sp : ℕ) (regs : List ℕ) (old new : State) : Type 0 where
  pub pc : new.pc ≡ pad
  pub pointer : reg_of new.regs 2 ≡ sp
  pub saved : saved_of new ≡ regs
  pub registers : length new.regs ≡ 32
  pub memory : new.memory ≡ old.memory

-- Control comes to a landing pad of one of the open calls: linear code enters it with a word and a selector, and the unwinder installs it, with the
-- canonical frame address and the exception table of its target. The registers of kept variables hold what the calls that it passes have saved.
pub record Lands (code : Code) (at : Function → ℕ → ℕ) (word : Word) (w : World) (s : State) (sp : ℕ) (opens : List Open) (tail : List Activation) (cfa table : ℕ) (next : Next) (result : Raised × State) : Type 0 where
  pub inner : List Open
  pub landing : Open
  pub outer : List Open
  pub split : opens ≡ inner ++ landing ∷ outer
  pub pad : ℕ
  pub chain : List ℤ
  pub covers : cover_of code landing.activation ≡ padded pad chain
  pub selector : ℤ
  pub enters : next ≡ pad_entered (fetch code landing.activation.function pad) word selector landing.activation.function pad landing.activation.frame (activations outer ++ tail) w
  pub after : State
  pub installs : result ≡ (answers.Install (at landing.activation.function pad) selector cfa table, after)
  pub in_frame : InFrame (at landing.activation.function pad) (outer_sp sp (calls inner)) (regs_at (calls inner) (saved_of s)) s after

-- the call of an open call where nothing may come out calls terminate
pub record IsTerminated (w : World) (opens : List Open) (tail : List Activation) (next : Next) : Type 0 where
  pub inner : List Activation
  pub barring : Activation
  pub outer : List Activation
  pub split : activations opens ++ tail ≡ inner ++ barring ∷ outer
  pub terminates : next ≡ terminated_in barring.function barring.frame outer w

-- A raise finds the target that the search of linear code finds, and comes to the pad that its unwind enters first. Without one nothing changes,
-- and the unwinder says so.
pub record RaisesAgree : Type 0 where
  pub found : (code : Code) (at : Function → ℕ → ℕ) (fdes : List Fde) (thrown : Thrown) (t : Option ℕ) (e d : ℕ) (w : World) (s : State) (sp : ℕ) (opens : List Open) (tail : List Activation) →
      StackStands code at (λ a. judged_by code a t) fdes thrown s sp opens tail → type_at w e ≡ t → found_above code t (activations opens ++ tail) ≡ Some d →
      Lands code at (flying e d) w s sp opens tail (cfa_with d (length tail) sp opens) (table_with fdes d (length tail) s.pc opens) (unwound_above code d e (activations opens ++ tail) w) (raise fdes thrown s)
  pub lost : (code : Code) (at : Function → ℕ → ℕ) (fdes : List Fde) (thrown : Thrown) (t : Option ℕ) (s : State) (sp : ℕ) (opens : List Open) (tail : List Activation) →
      StackStands code at (λ a. judged_by code a t) fdes thrown s sp opens tail → found_above code t (activations opens ++ tail) ≡ None →
      (raise fdes thrown s ≡ (answers.Terminate, s)) ⊎ (raise fdes thrown s ≡ (answers.NoHandler, s))
