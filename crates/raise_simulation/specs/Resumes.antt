-- A raise that goes on, and a forced unwind, on the machine's stack.
use Rattle.std.specs.Prelude.{◌≡◌, ◌⊎◌, ℕ, ◌+◌, ℤ, List, ◌∷◌, ◌++◌, length, Option}
use Rattle.table_forms.specs.Fde.{Fde}
use Rattle.table_forms.specs.Verdict.{Thrown, forced}
use Rattle.rv64_isa.specs.State.{State}
use Rattle.raise_core.specs.declared.raised.Raised.TheVariants as answers
use Rattle.raise_core.specs.Raise.{resume, forced_unwind}
use Rattle.meaning_forms.specs.Outcome.{exit}
use Rattle.region_forms.specs.World.{flying, unwinding, World, type_at}
use Rattle.linear_forms.specs.Tables.{padded}
use Rattle.linear_forms.specs.Verdict.{target}
use Rattle.linear_forms.specs.Stub.{Function}
use Rattle.linear_forms.specs.Activation.{Code, Activation, finishes, by_program, fault}
use Rattle.linear_forms.specs.Unwinding.{unwound_above}
use Rattle.linear_forms.specs.Forced.{forced_above}
use Rattle.raise_simulation.specs.Verdicts.{cover_of, judged_by, forced_by_table}
use Rattle.raise_simulation.specs.Opens.{Open, activations, StackStands, cfa_with}
use Rattle.raise_simulation.specs.Raises.{Lands, IsTerminated}

-- the open call below which d calls wait stops the exception
pub record IsTarget (code : Code) (t : Option ℕ) (d many : ℕ) (opens : List Open) : Type 0 where
  pub inner : List Open
  pub stopping : Open
  pub outer : List Open
  pub split : opens ≡ inner ++ stopping ∷ outer
  pub depth : length outer + many ≡ d
  pub pad : ℕ
  pub chain : List ℤ
  pub covers : cover_of code stopping.activation ≡ padded pad chain
  pub selector : ℤ
  pub stops : judged_by code stopping.activation t chain ≡ target selector

-- Where a raise goes on towards its target, which still stops the exception, it comes to the pad that the unwind of linear code enters next, or
-- to the call out of which nothing may come. Nothing is said where linear code has no defined way.
abbrev pub ResumesAgree : Type 0
ResumesAgree = (code : Code) (at : Function → ℕ → ℕ) (fdes : List Fde) (thrown : Thrown) (t : Option ℕ) (e d : ℕ) (w : World) (s : State) (sp : ℕ) (opens : List Open) (tail : List Activation) →
    StackStands code at (λ a. judged_by code a t) fdes thrown s sp opens tail → type_at w e ≡ t → IsTarget code t d (length tail) opens →
    let next = unwound_above code d e (activations opens ++ tail) w in let cfa = cfa_with d (length tail) sp opens in let result = resume fdes thrown cfa s in
    Lands code at (flying e d) w s sp opens tail cfa 0 next result ⊎ (IsTerminated w opens tail next × (result ≡ (answers.Terminate, s))) ⊎ (next ≡ finishes fault w)

-- A forced unwind comes to the pad that the one of linear code enters next, or to the call out of which nothing may come, or to the end of the stack.
abbrev pub ForcedAgree : Type 0
ForcedAgree = (code : Code) (at : Function → ℕ → ℕ) (fdes : List Fde) (n : ℤ) (w : World) (s : State) (sp : ℕ) (opens : List Open) (tail : List Activation) →
    StackStands code at (forced_by_table code) fdes forced s sp opens tail →
    let next = forced_above code n (activations opens ++ tail) w in let result = forced_unwind fdes s in
    Lands code at (unwinding n) w s sp opens tail 0 0 next result ⊎ (IsTerminated w opens tail next × (result ≡ (answers.Terminate, s)))
    ⊎ ((next ≡ finishes (by_program (exit n)) w) × (result ≡ (answers.NoHandler, s)))
