-- The state of the ABI machine, and what a runtime call makes of it.
use Rattle.std.specs.Prelude.{ℕ, ℤ, Bool, false, List, [], ◌∷◌, ◌++◌, Option, Some, None}
use Rattle.eh_outer.specs.declared.module.Reply.{Reply}
use Rattle.run_items.specs.declared.item.Item.{Item}
use Rattle.rv64_isa.specs.declared.step.FaultKind.{FaultKind}
use Rattle.rv64_isa.specs.declared.step.FaultKind.TheVariants as faults
use Rattle.rv64_isa.specs.State.{State, reg_of, with_reg}
use Rattle.caught_stack.specs.Exceptions.{Exceptions, no_exceptions}
use Rattle.cxa_runtime.specs.declared.effect.Effect.{Effect}
use Rattle.cxa_runtime.specs.declared.effect.Effect.TheVariants.{Goes, Exits, Aborts, Overflows, Fails}

-- The hart; what the runtime keeps (Itanium C++ ABI: Exception Handling, section 2.2.2, __cxa_eh_globals): the exceptions, the handlers
-- in effect, the last number that an exception got, and the exit number of the forced unwind that is on; the input and the replies of
-- modules that are left; what the step has shown; how many steps were counted; whether terminate is running.
pub record World : Type 0 where
  pub hart : State
  pub exceptions : Exceptions
  pub terminate_handler : ℕ
  pub unexpected_handler : ℕ
  pub last_number : ℕ
  pub unwinding : Option ℤ
  pub input : List ℕ
  pub replies : List (List Reply)
  pub shown : List Item
  pub count : ℕ
  pub terminating : Bool

-- a run begins
abbrev pub begins : State → List ℕ → List (List Reply) → World
begins s input replies = record {
  hart = s;
  exceptions = no_exceptions;
  terminate_handler = 0;
  unexpected_handler = 0;
  last_number = 0;
  unwinding = None;
  input = input;
  replies = replies;
  shown = [];
  count = 0;
  terminating = false;
}

-- what comes of a call, and the state behind it: the run goes on, it ends, or the call can't be done
abbrev pub Outcome : Type 0
Outcome = Effect × World

abbrev pub goes : World → Outcome
goes w = (Goes, w)

abbrev pub exits : ℤ → World → Outcome
exits n w = (Exits n, w)

abbrev pub aborts : World → Outcome
aborts w = (Aborts, w)

abbrev pub overflows : World → Outcome
overflows w = (Overflows, w)

abbrev pub fails : FaultKind → World → Outcome
fails kind w = (Fails kind, w)

-- an argument is no object in the state that the call needs, or the call is no call
abbrev pub refused : World → Outcome
refused w = fails faults.Call w

-- a call on what it needs
abbrev pub needs : {A : Type 0} → World → Option A → (A → Outcome) → Outcome
needs w None call = refused w
needs w (Some x) call = call x

abbrev pub a0 : ℕ
a0 = 10

abbrev pub a1 : ℕ
a1 = 11

abbrev pub a2 : ℕ
a2 = 12

abbrev pub a7 : ℕ
a7 = 17

-- an argument of a call
abbrev pub argument : World → ℕ → ℕ
argument w n = reg_of w.hart.regs n

-- a register gets a result
abbrev pub gives : ℕ → ℕ → World → World
gives n value w = record w { hart = record w.hart { regs = with_reg w.hart.regs n value } }

-- a0 and a1
abbrev pub gives_both : ℕ → ℕ → World → World
gives_both x y w = gives a1 y (gives a0 x w)

abbrev pub at_hart : State → World → World
at_hart s w = record w { hart = s }

abbrev pub shows : Item → World → World
shows item w = record w { shown = w.shown ++ item ∷ [] }

abbrev pub with_exceptions : Exceptions → World → World
with_exceptions e w = record w { exceptions = e }
