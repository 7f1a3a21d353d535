-- Open calls of linear code on the machine's stack, and what is outward of them.
use Rattle.std.specs.Prelude.{⊤, ◌≡◌, ◌⊎◌, ℕ, ◌+◌, ◌==◌, ℤ, false, List, [], ◌∷◌, map, length, Option, Some, None, if◌then◌else◌}
use Rattle.table_forms.specs.declared.found.Verdict as abi
use Rattle.table_forms.specs.declared.found.Verdict.TheVariants as abi_verdicts
use Rattle.table_forms.specs.Fde.{Fde, fde_for}
use Rattle.table_forms.specs.Verdict.{Thrown, look_up_place}
use Rattle.rv64_isa.specs.State.{State, reg_of}
use Rattle.linear_forms.specs.Tables.{bare}
use Rattle.linear_forms.specs.Verdict.{Verdict}
use Rattle.linear_forms.specs.Stub.{Function}
use Rattle.linear_forms.specs.Activation.{Code, Activation}
use Rattle.raise_simulation.specs.OpenCalls.{OpenCall, CallsStand, IsOutermost, outer_ip}
use Rattle.raise_simulation.specs.Tables.{said}
use Rattle.raise_simulation.specs.Verdicts.{told_of, cover_of}

-- an open call, as linear code and as the machine's stack have it
pub record Open : Type 0 where
  pub activation : Activation
  pub call : OpenCall

abbrev pub activations : List Open → List Activation
activations os = map (λ o. o.activation) os

abbrev pub calls : List Open → List OpenCall
calls os = map (λ o. o.call) os

-- How a phase judges chains of filters in an open call.
abbrev pub Judge : Type 0
Judge = Activation → List ℤ → Verdict

-- what the tables of linear code say of an open call, with operations at these addresses
abbrev pub told : Code → (Function → ℕ → ℕ) → Judge → Activation → abi.Verdict
told code at judge a = told_of (at a.function) (cover_of code a) (judge a)

-- the exception tables say the same of each open call, where it goes on
abbrev pub TablesAgree : Code → (Function → ℕ → ℕ) → Judge → (ℕ → abi.Verdict) → ℕ → List Open → Type 0
TablesAgree code at judge say ip [] = ⊤
TablesAgree code at judge say ip (o ∷ os) = (say ip ≡ told code at judge o.activation) × TablesAgree code at judge say o.call.back os

-- What is outward of open calls: nothing but the first function of the run; or terminate, out of whose call of a handler nothing comes.
pub record IsFirst (fdes : List Fde) (say : ℕ → abi.Verdict) (ip : ℕ) (tail : List Activation) : Type 0 where
  pub none : tail ≡ []
  pub outermost : IsOutermost fdes (look_up_place ip false)
  pub says : say ip ≡ abi_verdicts.Nothing

pub record IsBarred (code : Code) (say : ℕ → abi.Verdict) (ip : ℕ) (tail : List Activation) : Type 0 where
  pub first : Activation
  pub others : List Activation
  pub is : tail ≡ first ∷ others
  pub bars : cover_of code first ≡ bare
  pub says : say ip ≡ abi_verdicts.Terminate

-- The stack of a state: sp, the calls that are open on it, innermost first, and those of linear code behind them.
pub record StackStands (code : Code) (at : Function → ℕ → ℕ) (judge : Judge) (fdes : List Fde) (thrown : Thrown) (s : State) (sp : ℕ) (opens : List Open) (tail : List Activation) : Type 0 where
  pub pointer : reg_of s.regs 2 ≡ sp
  pub registers : length s.regs ≡ 32
  pub stand : CallsStand s fdes s.pc sp (calls opens)
  pub agree : TablesAgree code at judge (said s fdes thrown) s.pc opens
  pub ends : IsFirst fdes (said s fdes thrown) (outer_ip s.pc (calls opens)) tail ⊎ IsBarred code (said s fdes thrown) (outer_ip s.pc (calls opens)) tail

-- the canonical frame address of the open call below which so many calls wait, where `many` are behind these
abbrev pub cfa_with : (depth many sp : ℕ) → List Open → ℕ
cfa_with d many sp [] = 0
cfa_with d many sp (o ∷ os) = if length os + many == d then sp + o.call.size else cfa_with d many (sp + o.call.size) os

-- the address of the exception table that the frame information names for a place where a call goes on; 0 where it names none
abbrev pub table_in : Option Fde → ℕ
table_in None = 0
table_in (Some fde) = fde.lsda

abbrev pub table_at : List Fde → ℕ → ℕ
table_at fdes ip = table_in (fde_for fdes (look_up_place ip false))

-- that of the open call below which so many calls wait, where `many` are behind these, of which the first goes on at ip
abbrev pub table_with : List Fde → (depth many ip : ℕ) → List Open → ℕ
table_with fdes d many ip [] = 0
table_with fdes d many ip (o ∷ os) = if length os + many == d then table_at fdes ip else table_with fdes d many o.call.back os
