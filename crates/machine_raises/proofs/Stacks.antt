-- The stack of a hart inside an open call.
use Rattle.std.proofs.Common.{◌≡◌, refl, ap, subst, ℕ, ◌+◌, List, ◌∷◌, ◌++◌, length, Option}
use Rattle.table_forms.specs.Verdict.{Thrown, forced}
use Rattle.rv64_isa.specs.State.{State}
use Rattle.rv64_isa.specs.Step.{x}
use Rattle.elf_image.specs.Clean.{CleanImage}
use Rattle.eh_run.specs.Program.{program_of}
use Rattle.region_forms.specs.World.{World}
use Rattle.linear_forms.specs.Activation.{Activation}
use Rattle.linear_forms.specs.UnitRun.{code_of}
use Rattle.machine_forms.specs.Registers.{sp}
use Rattle.image_tables.specs.Functions.{saved_places, operation_at}
use Rattle.machine_pieces.specs.Keeping.{saved_of}
use Rattle.raise_simulation.specs.OpenCalls.{AreSaved}
use Rattle.raise_simulation.specs.Tables.{said}
use Rattle.image_forms.specs.Linkable.{BaseIsThere}
use Rattle.raise_simulation.specs.Opens.{Open, activations, Judge, StackStands}
use Rattle.machine_simulation.specs.Plan.{Plan}
use Rattle.machine_raises.specs.Stacks.{IsRunning, InCall, StackFound, StacksStand}
use Rattle.machine_raises.proofs.OnStack.{own_saved, OnStack, call_on_stack, own_words}
use Rattle.machine_raises.proofs.Saying.{SaysAll, raises_say, forced_says}
use Rattle.machine_raises.proofs.Waiting.{opens_of, tail_of, all_are, one_more, waiting_stack}
use Rattle.raise_simulation.specs.Verdicts.{judged_by, forced_by_table}
use Rattle.table_verdicts.specs.Types.{thrown_as}
use Rattle.image_tables.specs.Functions.{records_end}

-- ---- of any call
module _ (p : Plan) (a : Activation) (fs : List Activation) (v : World) (s : State) (h : OnStack p a fs v s) where
  -- the call that runs, and those that wait
  abbrev pub top_open : Open
  top_open = record { activation = a; call = record { size = h.size; back = h.back; places = saved_places p.unit a.function; saved = own_saved p a.function a v s.memory (x s sp) (saved_of s) h.before h.keeps } }

  unfoldable pub top_opens : List Open
  top_opens = top_open ∷ opens_of p fs v s.memory (x s sp + h.size) h.back h.limit h.before h.waiting h.kept

  unfoldable pub top_tail : List Activation
  top_tail = tail_of p fs v s.memory (x s sp + h.size) h.back h.limit h.waiting

  pub top_are : activations top_opens ++ top_tail ≡ a ∷ fs
  unfolding top_opens top_tail
  top_are = ap (λ xs. a ∷ xs) (all_are p fs v s.memory (x s sp + h.size) h.back h.limit h.before h.waiting h.kept)

module _ (p : Plan) (i : CleanImage) (a : Activation) (fs : List Activation) (v : World) (s : State) (running : IsRunning p i s) (h : OnStack p a fs v s) where
  stack_for : (judge : Judge) (thrown : Thrown) → SaysAll p.unit (said s (program_of i).image.fdes thrown) judge →
      StackStands (code_of p.unit) (operation_at p.unit) judge (program_of i).image.fdes thrown s (x s sp) (top_opens p a fs v s h) (top_tail p a fs v s h)
  unfolding top_opens top_tail
  stack_for judge thrown says =
      let values = own_saved p a.function a v s.memory (x s sp) (saved_of s) h.before h.keeps in
      let words = own_words p a.function a v s (x s sp) (saved_of s) h.before h.keeps in
      let whole = one_more p i judge thrown s a h.size s.pc (x s sp) h.back (saved_places p.unit a.function) values (opens_of p fs v s.memory (x s sp + h.size) h.back h.limit h.before h.waiting h.kept)
      (tail_of p fs v s.memory (x s sp + h.size) h.back h.limit h.waiting) running says h.goes_on h.frame refl h.big h.low h.high h.saved
      (subst (λ k. AreSaved s (x s sp) k (saved_places p.unit a.function) values) h.frame words.0) words.1
      (waiting_stack p i judge thrown s fs v (x s sp + h.size) h.back h.limit h.before running says h.around.unit h.waiting h.kept) in
      record { pointer = refl; registers = h.registers; stand = whole.stand; agree = whole.agree; ends = whole.ends }

  pub top_raised : (t : Option ℕ) → BaseIsThere (length p.unit.types) t → StackStands (code_of p.unit) (operation_at p.unit) (λ b. judged_by (code_of p.unit) b t) (program_of i).image.fdes (thrown_as (records_end p.unit) p.unit.types t) s
      (x s sp) (top_opens p a fs v s h) (top_tail p a fs v s h)
  top_raised t known = stack_for (λ b. judged_by (code_of p.unit) b t) (thrown_as (records_end p.unit) p.unit.types t) (raises_say p i s t running known)

  pub top_unwound : StackStands (code_of p.unit) (operation_at p.unit) (forced_by_table (code_of p.unit)) (program_of i).image.fdes forced s (x s sp) (top_opens p a fs v s h) (top_tail p a fs v s h)
  top_unwound = stack_for (forced_by_table (code_of p.unit)) forced (forced_says p i s running)

  pub top_found : StackFound p i a fs s
  top_found = record {
    opens = top_opens p a fs v s h;
    tail = top_tail p a fs v s h;
    are = top_are p a fs v s h;
    raised = top_raised;
    unwound = top_unwound;
  }

-- ---- of a call of a compiled function
module _ (p : Plan) (i : CleanImage) (n back : ℕ) (a : Activation) (fs : List Activation) (v : World) (s : State) (running : IsRunning p i s) (h : InCall p n back a fs v s) where
  abbrev pub all_opens : List Open
  all_opens = top_opens p a fs v s (call_on_stack p n back a fs v s running.base h)

  abbrev pub all_tail : List Activation
  all_tail = top_tail p a fs v s (call_on_stack p n back a fs v s running.base h)

  pub stack_raised : (t : Option ℕ) → BaseIsThere (length p.unit.types) t → StackStands (code_of p.unit) (operation_at p.unit) (λ b. judged_by (code_of p.unit) b t) (program_of i).image.fdes (thrown_as (records_end p.unit) p.unit.types t) s
      (x s sp) all_opens all_tail
  stack_raised t known = top_raised p i a fs v s running (call_on_stack p n back a fs v s running.base h) t known

  pub stack_unwound : StackStands (code_of p.unit) (operation_at p.unit) (forced_by_table (code_of p.unit)) (program_of i).image.fdes forced s (x s sp) all_opens all_tail
  stack_unwound = top_unwound p i a fs v s running (call_on_stack p n back a fs v s running.base h)

  pub opens_are : activations all_opens ++ all_tail ≡ a ∷ fs
  opens_are = top_are p a fs v s (call_on_stack p n back a fs v s running.base h)

pub stacks_stand : StacksStand
stacks_stand p i n back a fs v s running h = top_found p i a fs v s running (call_on_stack p n back a fs v s running.base h)
