-- The words of start.
use Rattle.std.proofs.Common.{◌≡◌, ◌∙◌, refl, sym, ap, arith, ℕ, suc, ◌+◌, ◌-◌, ◌*◌, ◌^◌, ◌<◌, pos}
use Rattle.std.specs.Prelude.{◌+ℤ◌}
use Rattle.rv64_isa.specs.State.{State}
use Rattle.rv64_isa.specs.Step.{step_of, x}
use Rattle.cxa_runtime.specs.Run.{Ran, run}
use Rattle.linear_forms.specs.Linear.{UnitCode}
use Rattle.machine_forms.specs.Piece.{Target, unit_entry}
use Rattle.machine_forms.specs.StubCode.{start_routine, stub_words}
use Rattle.machine_forms.specs.Emitted.{stub_target}
use Rattle.machine_pieces.specs.Standing.{Ground, address}
use Rattle.machine_pieces.specs.Frames.{Reached}
use Rattle.machine_pieces.specs.UnitAt.{routine_ground}
use Rattle.machine_pieces.proofs.Keeping.{same_saved}
use Rattle.machine_pieces.proofs.Framing.{function_calls}
use Rattle.machine_pieces.proofs.Turning.{executes_turns, exit_ends}
use Rattle.machine_stubs.specs.Start.{StartRuns}
use Rattle.machine_stubs.proofs.Walking.{Path, Walks, update, beside_none, walk_begins, walk_addi, small_number, no_room}
use Rattle.machine_stubs.proofs.Jumping.{walk_out}
use Rattle.machine_stubs.proofs.Ending.{ends_at}

-- a word of the code is near to each
code_near : (base words k here : ℕ) → words < 2 ^ 28 → k < words → here < words → (base + 4 * k < base + 4 * here + 2 ^ 30) × (base + 4 * here < base + 4 * k + 2 ^ 30)
code_near base words k here few inside at = (omega (arith, few, inside, at), omega (arith, few, inside, at))

pub reached_word : (g : Ground) (u : Target) (k : ℕ) → g.words < 2 ^ 28 → k < g.words → g.places.target u ≡ pos (4 * k) → Reached g u (address g k)
reached_word g u k few inside is = record {
  is = ap pos (omega arith) ∙ ap (λ d. pos g.base +ℤ d) (sym is);
  near = λ here at. code_near g.base g.words k here few inside at;
}

abbrev start_ground : UnitCode → ℕ → Ground
start_ground u base = routine_ground u base stub_target 0 start_routine

abbrev start_path : UnitCode → ℕ → State → Path
start_path u base s = record { ground = start_ground u base; first = s; low = 0; size = 0; room = no_room s.memory }

pub start_runs : StartRuns
start_runs = record {
  calls_the_unit = λ image u base w at regs code few below.
      let s : State = w.hart in
      let g : Ground = start_ground u base in
      let call = function_calls g 0 (address g stub_words) unit_entry s (code.0, (code.1.0, tt)) (at ∙ omega arith) regs (reached_word g unit_entry stub_words few (omega arith) refl)
      (omega (arith, code.0.word.aligned)) below in
      let file : ℕ → ℕ = λ r. x call.after r in
      let walk : Walks (start_path u base s) 2 (address g stub_words) file s.memory = record {
        after = call.after;
        runs = call.runs;
        hart = record { pc = call.pc; all = call.registers; regs = λ r. refl; memory = call.memory };
        beside = beside_none 0 0 s.memory;
      } in
      ends_at image (start_path u base s) w 2 2 (address g stub_words) (x s 2) file s.memory (λ t. (t.memory ≡ s.memory) × (x t 1 ≡ base + 8)) refl (omega arith) walk (call.kept 2 (λ e. absurd (omega (arith, e))))
      (same_saved s call.after (λ r saved. call.kept r (λ e. omega (arith, saved.above, e)))) (call.memory, call.back);
  exits = λ image pick n u base z w at regs code value int many.
      let s : State = w.hart in
      let p = start_path u base s in
      let file : ℕ → ℕ = update 17 0 (λ r. x s r) in
      let w0 = walk_begins p 2 at regs in
      let w1 = walk_addi p 0 2 17 0 0 0 (λ r. x s r) s.memory (omega arith) (omega arith) w0 code.1.1.0 (small_number 0 (omega arith)) in
      let out = walk_out p 1 3 file s.memory w1 code.1.1.1.0 in
      let ran = executes_turns image 1 w s out.at refl out.runs in
      let left : ℕ = n - 2 in
      let count : n ≡ 1 + suc left = omega (arith, many) in
      let whole = ap (λ i. run image pick i w) count ∙ ran.turns.run pick (suc left) in
      let last = exit_ends image pick left ran.after out.behind z (ap step_of ran.hart ∙ out.asks) (out.hart.regs 17) (out.hart.regs 10 ∙ value) int in
      (ap (λ (r : Ran). r.items) whole ∙ ap (λ (r : Ran). r.items) last, ap (λ (r : Ran). r.end) whole ∙ ap (λ (r : Ran). r.end) last);
}
