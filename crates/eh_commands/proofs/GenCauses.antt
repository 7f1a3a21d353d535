-- From what the parts of `gen` say to the cause of a status.
use Rattle.std.proofs.Common.{◌≡◌, ◌∙◌, ℕ, true, zero, suc, ◌+◌, List, [], Result, Ok, Err, Some, refl, sym, ap, subst}
use Rattle.std.specs.Prelude.{⊤}
use Rattle.eh_outer.specs.Store.{StoreView}
use Rattle.eh_outer.specs.Sink.{SinkView}
use Rattle.eh_outer.specs.declared.sink.SinkError.{SinkError}
use Rattle.eh_outer.specs.declared.sink.SinkError.TheVariants.{Failed}
use Rattle.run_items.specs.Output.{TakesAll, FailsAmong, PutsAll}
use Rattle.cxx_ast.specs.declared.standard.Std.TheVariants.{Cxx03}
use Rattle.cxx_ast.specs.Plain.{Program, Checked}
use Rattle.cxx_ast.specs.Checked.{checked}
use Rattle.cxx_front.specs.Fate.{HasOnly, valid}
use Rattle.cxx_image.specs.Image.{image_for}
use Rattle.gen_source.specs.Source.{generated}
use Rattle.rv64_isa.specs.declared.step.Step.{Step}
use Rattle.rv64_isa.specs.declared.step.Step.TheVariants as steps
use Rattle.rv64_isa.specs.State.{State, reg_of}
use Rattle.rv64_isa.specs.Step.{step_of}
use Rattle.table_forms.specs.Fault.{Fault}
use Rattle.elf_image.specs.Clean.{CleanImage}
use Rattle.elf_image.specs.Runnable.{runnable}
use Rattle.cxa_runtime.specs.declared.effect.Effect.TheVariants.{Goes, Exits, Aborts, Overflows, Fails}
use Rattle.cxa_runtime.specs.declared.effect.End.{End}
use Rattle.cxa_runtime.specs.declared.effect.End.TheVariants as ends
use Rattle.cxa_runtime.specs.declared.effect.Turn.TheVariants.{On, Ended}
use Rattle.cxa_runtime.specs.Call.{call_effect}
use Rattle.cxa_runtime.specs.Kept.{replies_of}
use Rattle.cxa_runtime.specs.Raising.{Image}
use Rattle.cxa_runtime.specs.World.{World, Outcome, a7, at_hart, begins}
use Rattle.cxa_runtime.specs.Run.{Ran, Turned, and_more, called, run, stepped, turn}
use Rattle.eh_run.specs.declared.counting.Counted.{Counted}
use Rattle.eh_run.specs.Counts.{CountsTo}
use Rattle.eh_run.specs.Loads.{Loads}
use Rattle.eh_run.specs.Program.{Program as ReadyProgram}
use Rattle.eh_run.specs.Runs.{IsRun}
use Rattle.command_line.specs.declared.command.Verb.{Verb}
use Rattle.command_line.specs.declared.command.Verb.TheVariants.{Compile, Run, Exec, Harts, Mean, Check, Dump, Frames, At, Doubts, Pack, Gen}
use Rattle.command_line.specs.Command.{CommandView, is_size, source_size}
use Rattle.command_line.proofs.Sizes.{AreSized}
use Rattle.eh_commands.specs.declared.status.Status.{Status}
use Rattle.eh_commands.specs.declared.status.Status.TheVariants.{Done, Usage, SourceRefused, ImageRefused, ScheduleRefused, ReadFault, TooLong, WriteFault, NoMemory, Aborted, Budget, Stack, MachineFault, Undefined, Differs}
use Rattle.eh_commands.specs.File.{Asked, NamesRefusal}
use Rattle.eh_commands.specs.Generate.{counted_lines, gen_lines, CountEnds, GenEnds, ReadyRuns, RunsAlone, CheckedRuns, SizeRuns, GeneratedRuns, IsSized}
use Rattle.eh_commands.specs.RunEnd.{status_of_run}
use Rattle.eh_commands.specs.RunSource.{IsReady}
use Rattle.eh_commands.specs.Words.{file_of, first_of}
use Rattle.eh_commands.proofs.ExecCauses.{no_memory, no_run_fault, no_run_length}
use Rattle.eh_commands.proofs.RunCauses.{no_run_refusal}

-- ---- no run of the machine ends as one whose lines failed
abbrev IsOwn : Turned → Type 0
IsOwn (On, w) = ⊤
IsOwn (Ended ends.WriteFault, w) = ⊥
IsOwn (Ended end, w) = ⊤

called_own : (place : ℕ) (o : Outcome) → IsOwn (called place o)
called_own place (Goes, w) = tt
called_own place (Exits n, w) = tt
called_own place (Aborts, w) = tt
called_own place (Overflows, w) = tt
called_own place (Fails kind, w) = tt

stepped_own : (image : Image) (wish : ℕ) (w : World) (s : Step × State) → IsOwn (stepped image wish w s)
stepped_own image wish w (steps.Done, s) = tt
stepped_own image wish w (steps.Ecall, s) = called_own w.hart.pc (call_effect (reg_of s.regs a7) image wish (at_hart s w))
stepped_own image wish w (steps.Fault kind, s) = tt

turn_own : (image : Image) (wish : ℕ) (w : World) → IsOwn (turn image wish w)
unfolding turn
turn_own image wish w = stepped_own image wish (record w { shown = [] }) (step_of w.hart)

no_write_fault : (image : Image) (pick : ℕ → ℕ) (n : ℕ) (w : World) → (run image pick n w).end ≡ ends.WriteFault → ⊥
unfolding run
no_write_fault image pick zero w e = cc
no_write_fault image pick (suc n) w e = go (turn image (pick (w.last_number + 1)) w) (turn_own image (pick (w.last_number + 1)) w) (λ v. no_write_fault image pick n v) e
  where
    go : (t : Turned) → IsOwn t → ((v : World) → (run image pick n v).end ≡ ends.WriteFault → ⊥) → (and_more (run image pick n) t).end ≡ ends.WriteFault → ⊥
    go (On, v) own more e = more v e
    go (Ended (ends.Exit m), v) own more e = cc
    go (Ended ends.Aborted, v) own more e = cc
    go (Ended ends.Budget, v) own more e = cc
    go (Ended ends.Stack, v) own more e = cc
    go (Ended (ends.Fault kind place), v) own more e = cc
    go (Ended ends.WriteFault, v) own more e = own

-- ---- what was counted
module _ (turns : ℕ) (program : ReadyProgram) (counted : Counted) (counts : CountsTo program [] [] turns counted) where
  not_failed : counted.ran.end ≡ ends.WriteFault → ⊥
  not_failed e = let (pick, is) = counts.runs in no_write_fault program.image pick turns (begins program.hart [] (replies_of [])) (ap (λ (r : Ran). r.end) is ∙ counts.end ∙ e)

  -- the printed lines are those of the run
  lines_counted : (tokens : ℕ) → counted_lines tokens counted.lines counted.makes counted.ran.end ≡ gen_lines tokens counts.whole
  lines_counted tokens = rw (counts.lines, counts.makes, counts.end) refl

  module _ (tokens : ℕ) (old new : SinkView) where
    counted_ends : (end : End) → counted.ran.end ≡ end → TakesAll (counted_lines tokens counted.lines counted.makes counted.ran.end) old new → CountEnds (ReadyRuns turns program tokens) old new (status_of_run end)
    counted_ends (ends.Exit m) is took = (tokens, counts.whole, (refl, counts.runs), sym (ap status_of_run (counts.end ∙ is)), subst (λ lines. TakesAll lines old new) (lines_counted tokens) took)
    counted_ends ends.Aborted is took = (tokens, counts.whole, (refl, counts.runs), sym (ap status_of_run (counts.end ∙ is)), subst (λ lines. TakesAll lines old new) (lines_counted tokens) took)
    counted_ends ends.Budget is took = (tokens, counts.whole, (refl, counts.runs), sym (ap status_of_run (counts.end ∙ is)), subst (λ lines. TakesAll lines old new) (lines_counted tokens) took)
    counted_ends ends.Stack is took = (tokens, counts.whole, (refl, counts.runs), sym (ap status_of_run (counts.end ∙ is)), subst (λ lines. TakesAll lines old new) (lines_counted tokens) took)
    counted_ends (ends.Fault kind place) is took = (tokens, counts.whole, (refl, counts.runs), sym (ap status_of_run (counts.end ∙ is)), subst (λ lines. TakesAll lines old new) (lines_counted tokens) took)
    counted_ends ends.WriteFault is took = absurd (not_failed is)

    pub counts_end : TakesAll (counted_lines tokens counted.lines counted.makes counted.ran.end) old new → CountEnds (ReadyRuns turns program tokens) old new (status_of_run counted.ran.end)
    counts_end took = counted_ends counted.ran.end refl took

    pub counts_fail : (e : SinkError) → PutsAll (counted_lines tokens counted.lines counted.makes counted.ran.end) old new (Err e) → CountEnds (ReadyRuns turns program tokens) old new WriteFault
    counts_fail Failed fails = (tokens, counts.whole, (refl, counts.runs), subst (λ lines. FailsAmong lines old new) (lines_counted tokens) fails)

-- ---- what holds of a run holds of it in other words
pub gen_more : (P Q : ℕ → Ran → Type 0) → ((tokens : ℕ) (r : Ran) → P tokens r → Q tokens r) → (old new : SinkView) (status : Status) → GenEnds P old new status → GenEnds Q old new status
gen_more P Q says old new Done (tokens, r, holds, is, took) = (tokens, r, says tokens r holds, is, took)
gen_more P Q says old new Usage (tokens, r, holds, is, took) = (tokens, r, says tokens r holds, is, took)
gen_more P Q says old new (SourceRefused number place) h = h
gen_more P Q says old new (ImageRefused number place location other) h = h
gen_more P Q says old new ReadFault (tokens, r, holds, is, took) = (tokens, r, says tokens r holds, is, took)
gen_more P Q says old new TooLong (tokens, r, holds, is, took) = (tokens, r, says tokens r holds, is, took)
gen_more P Q says old new WriteFault (tokens, r, holds, h) = (tokens, r, says tokens r holds, h)
gen_more P Q says old new NoMemory h = h
gen_more P Q says old new Aborted (tokens, r, holds, is, took) = (tokens, r, says tokens r holds, is, took)
gen_more P Q says old new Budget (tokens, r, holds, is, took) = (tokens, r, says tokens r holds, is, took)
gen_more P Q says old new Stack (tokens, r, holds, is, took) = (tokens, r, says tokens r holds, is, took)
gen_more P Q says old new (MachineFault kind place) (tokens, r, holds, is, took) = (tokens, r, says tokens r holds, is, took)
gen_more P Q says old new (ScheduleRefused number place) (tokens, r, holds, is, took) = (tokens, r, says tokens r holds, is, took)
gen_more P Q says old new Undefined (tokens, r, holds, is, took) = (tokens, r, says tokens r holds, is, took)
gen_more P Q says old new Differs (tokens, r, holds, is, took) = (tokens, r, says tokens r holds, is, took)

no_image_refusal : (end : End) (number place location other : ℕ) → ImageRefused number place location other ≡ status_of_run end → ⊥
no_image_refusal (ends.Exit m) number place location other e = cc
no_image_refusal ends.Aborted number place location other e = cc
no_image_refusal ends.Budget number place location other e = cc
no_image_refusal ends.Stack number place location other e = cc
no_image_refusal (ends.Fault kind at) number place location other e = cc
no_image_refusal ends.WriteFault number place location other e = cc

-- so of one that is not refused, and for which memory sufficed
pub counts_gen : (P Q : ℕ → Ran → Type 0) → ((tokens : ℕ) (r : Ran) → P tokens r → Q tokens r) → (old new : SinkView) (status : Status) → CountEnds P old new status → GenEnds Q old new status
counts_gen P Q says old new Done (tokens, r, holds, is, took) = (tokens, r, says tokens r holds, is, took)
counts_gen P Q says old new Usage (tokens, r, holds, is, took) = (tokens, r, says tokens r holds, is, took)
counts_gen P Q says old new (SourceRefused number place) (tokens, r, holds, is, took) = absurd (no_run_refusal r.end number place is)
counts_gen P Q says old new (ImageRefused number place location other) (tokens, r, holds, is, took) = absurd (no_image_refusal r.end number place location other is)
counts_gen P Q says old new ReadFault (tokens, r, holds, is, took) = (tokens, r, says tokens r holds, is, took)
counts_gen P Q says old new TooLong (tokens, r, holds, is, took) = (tokens, r, says tokens r holds, is, took)
counts_gen P Q says old new WriteFault (tokens, r, holds, h) = (tokens, r, says tokens r holds, h)
counts_gen P Q says old new NoMemory (tokens, r, holds, is, took) = absurd (no_memory r.end is)
counts_gen P Q says old new Aborted (tokens, r, holds, is, took) = (tokens, r, says tokens r holds, is, took)
counts_gen P Q says old new Budget (tokens, r, holds, is, took) = (tokens, r, says tokens r holds, is, took)
counts_gen P Q says old new Stack (tokens, r, holds, is, took) = (tokens, r, says tokens r holds, is, took)
counts_gen P Q says old new (MachineFault kind place) (tokens, r, holds, is, took) = (tokens, r, says tokens r holds, is, took)
counts_gen P Q says old new (ScheduleRefused number place) (tokens, r, holds, is, took) = (tokens, r, says tokens r holds, is, took)
counts_gen P Q says old new Undefined (tokens, r, holds, is, took) = (tokens, r, says tokens r holds, is, took)
counts_gen P Q says old new Differs (tokens, r, holds, is, took) = (tokens, r, says tokens r holds, is, took)

-- a run of what is ready is one of the program's image
pub ready_runs : (turns : ℕ) (p : Checked) (program : ReadyProgram) → IsReady p program → (tokens : ℕ) (r : Ran) → ReadyRuns turns program p.program.tokens tokens r → CheckedRuns turns p tokens r
ready_runs turns p program is_ready tokens r (same, runs) = (same, by (runnable (image_for p)) refl is_ready.1)
  where
    by : (read : Result CleanImage Fault) → runnable (image_for p) ≡ read → Loads (Ok program) read → RunsAlone turns p r
    by (Ok i) is loaded = (is_ready.0, i, is, subst (λ q. IsRun q [] [] turns r) loaded runs)
    by (Err fault) is loaded = absurd loaded

tokens_kept : (p : Program) → (checked Cxx03 p).program.tokens ≡ p.tokens
unfolding checked
tokens_kept p = refl

-- a run of the program of a source is one of the source
pub program_runs : (turns n : ℕ) (source : List ℕ) (c : Checked) (p : Program) → source ≡ generated n → HasOnly Cxx03 source (valid p) → c ≡ checked Cxx03 p → (tokens : ℕ) (r : Ran) → CheckedRuns turns c tokens r →
    SizeRuns turns n tokens r
program_runs turns n source c p is only resolved tokens r runs =
    let (same, alone) = subst (λ x. CheckedRuns turns x tokens r) resolved runs in (p, subst (λ s. HasOnly Cxx03 s (valid p)) is only, same ∙ tokens_kept p, alone)

-- a run of the source of a size is one of what the operand asks for
pub size_runs : (a : Asked) (n : ℕ) → Some n ≡ source_size a.source → (tokens : ℕ) (r : Ran) → SizeRuns a.turns n tokens r → GeneratedRuns a tokens r
size_runs a n is tokens r runs = (n, sym is, runs)

-- ---- no file is named
pub gen_named : (P : ℕ → Ran → Type 0) (old new : SinkView) (name : List ℕ) (store : StoreView) (status : Status) → GenEnds P old new status → NamesRefusal status name store
gen_named P old new name store ReadFault (tokens, r, holds, is, took) = absurd (no_run_fault r.end is)
gen_named P old new name store TooLong (tokens, r, holds, is, took) = absurd (no_run_length r.end is)
gen_named P old new name store Done h = tt
gen_named P old new name store Usage h = tt
gen_named P old new name store (SourceRefused number place) h = tt
gen_named P old new name store (ImageRefused number place location other) h = tt
gen_named P old new name store WriteFault h = tt
gen_named P old new name store NoMemory h = tt
gen_named P old new name store Aborted h = tt
gen_named P old new name store Budget h = tt
gen_named P old new name store Stack h = tt
gen_named P old new name store (MachineFault kind place) h = tt
gen_named P old new name store (ScheduleRefused number place) h = tt
gen_named P old new name store Undefined h = tt
gen_named P old new name store Differs h = tt

-- ---- the operand is a size
pub is_sized : (c : CommandView) → AreSized c.verb c.operands → IsSized c.verb (file_of c)
is_sized c are = by c.verb are
  where
    by : (verb : Verb) → AreSized verb c.operands → IsSized verb (file_of c)
    by Gen (text, is, sized) = subst (λ operands. is_size (first_of operands) ≡ true) (sym is) sized
    by Compile are = tt
    by Run are = tt
    by Exec are = tt
    by Harts are = tt
    by Mean are = tt
    by Check are = tt
    by Dump are = tt
    by Frames are = tt
    by At are = tt
    by Doubts are = tt
    by Pack are = tt
