-- Steps and runtime calls as turns of the ABI machine.
use Rattle.std.proofs.Common.{◌≡◌, ◌∙◌, refl, sym, ap, subst, arith, ℕ, zero, suc, ◌+◌, ℤ, pos, negsuc, List, [], ◌∷◌, ◌++◌, append_assoc, Option, Some}
use Rattle.std.specs.Int.{w32, cast_signed}
use Rattle.std.proofs.lemmas.Int.{to_z-of_z}
use Rattle.std.specs.Int.RustNames.{FitsSigned}
use Rattle.run_items.specs.declared.item.Item.{Item}
use Rattle.run_items.specs.declared.item.Item.TheVariants.{Line}
use Rattle.rv64_isa.specs.declared.step.Step.{Step}
use Rattle.rv64_isa.specs.declared.step.Step.TheVariants as steps
use Rattle.rv64_isa.specs.State.{State, reg_of}
use Rattle.rv64_isa.specs.Step.{step_of}
use Rattle.cxa_runtime.specs.declared.effect.End.TheVariants as end_kinds
use Rattle.cxa_runtime.specs.declared.effect.Turn.TheVariants.{On, Ended}
use Rattle.cxa_runtime.specs.Number.{as_int}
use Rattle.cxa_runtime.specs.World.{World, at_hart, gives, a0, a7, shows}
use Rattle.cxa_runtime.specs.Raising.{Image}
use Rattle.cxa_runtime.specs.Plain.{read_from}
use Rattle.cxa_runtime.specs.Call.{numbered, call_effect}
use Rattle.cxa_runtime.specs.Run.{Ran, counted, called, stepped, turn, and_more, run}
use Rattle.machine_pieces.specs.Executes.{when_done, steps as after_steps, Executes}
use Rattle.machine_pieces.specs.Numbers.{IsInt, extended}
use Rattle.machine_pieces.specs.Turning.{with_items, ForcedTurns, Turns, SameRuntime, Stepped, after_step, after_line, after_byte}
use Rattle.machine_pieces.proofs.Numbers.{int_stored, small_pos, small_neg}

-- ---- turns one after another

same_shown : (r : Ran) → r ≡ with_items [] r
same_shown r = refl

pub no_turns : (image : Image) (w : World) → Turns image 0 w w []
no_turns image w = record { run = λ pick k. let count : 0 + k ≡ k = omega arith in ap (λ n. run image pick n w) count; unwinding = refl }

pub as_forced : (image : Image) (n : ℕ) (w v : World) (items : List Item) → Turns image n w v items → ForcedTurns image n w v items
as_forced image n w v items h = record { run = h.run }

pub forced_then : (image : Image) (m n : ℕ) (w v u : World) (first second : List Item) → ForcedTurns image m w v first → ForcedTurns image n v u second → ForcedTurns image (m + n) w u (first ++ second)
forced_then image m n w v u first second one two = record {
  run = λ pick k.
      let count : m + n + k ≡ m + (n + k) = omega arith in
      ap (λ i. run image pick i w) count ∙ one.run pick (n + k) ∙ ap (with_items first) (two.run pick k)
      ∙ ap (λ items. record (run image pick k u) { items = items }) (sym (append_assoc first second (run image pick k u).items));
}

pub turns_then : (image : Image) (m n : ℕ) (w v u : World) (first second : List Item) → Turns image m w v first → Turns image n v u second → Turns image (m + n) w u (first ++ second)
turns_then image m n w v u first second one two =
    record { run = (forced_then image m n w v u first second (as_forced image m w v first one) (as_forced image n v u second two)).run; unwinding = two.unwinding ∙ one.unwinding }

-- one turn that goes on
pub forced_turn : (image : Image) (w v : World) → ((wish : ℕ) → turn image wish w ≡ (On, v)) → ForcedTurns image 1 w v v.shown
unfolding run
forced_turn image w v e = record {
  run = λ pick k.
      let count : 1 + k ≡ suc k = omega arith in
      ap (λ i. run image pick i w) count ∙ ap (and_more (run image pick k)) (e (pick (w.last_number + 1)));
}

pub turn_on : (image : Image) (w v : World) → ((wish : ℕ) → turn image wish w ≡ (On, v)) → v.unwinding ≡ w.unwinding → Turns image 1 w v v.shown
turn_on image w v e kept = record { run = (forced_turn image w v e).run; unwinding = kept }

-- the last turn
pub turn_ends : (image : Image) (pick : ℕ → ℕ) (k : ℕ) (w v : World) (n : ℤ) → ((wish : ℕ) → turn image wish w ≡ (Ended (end_kinds.Exit n), v)) →
    run image pick (suc k) w ≡ record { items = v.shown; end = end_kinds.Exit n; world = v }
unfolding run
turn_ends image pick k w v n e = ap (and_more (run image pick k)) (e (pick (w.last_number + 1)))

-- ---- a step

step_turns : (image : Image) (w : World) (s : State) → step_of w.hart ≡ (steps.Done, s) → Turns image 1 w (after_step s w) []
unfolding turn
step_turns image w s e = turn_on image w (after_step s w) (λ wish. ap (stepped image wish (record w { shown = [] })) e) refl

pub same_runtime : (w : World) → SameRuntime w w
same_runtime w = record { exceptions = refl; terminate_handler = refl; unexpected_handler = refl; last_number = refl; unwinding = refl; input = refl; replies = refl; terminating = refl }

pub same_then : (w v u : World) → SameRuntime w v → SameRuntime v u → SameRuntime w u
same_then w v u a b = record {
  exceptions = b.exceptions ∙ a.exceptions;
  terminate_handler = b.terminate_handler ∙ a.terminate_handler;
  unexpected_handler = b.unexpected_handler ∙ a.unexpected_handler;
  last_number = b.last_number ∙ a.last_number;
  unwinding = b.unwinding ∙ a.unwinding;
  input = b.input ∙ a.input;
  replies = b.replies ∙ a.replies;
  terminating = b.terminating ∙ a.terminating;
}

same_step : (w : World) (s : State) → SameRuntime w (after_step s w)
same_step w s = record { exceptions = refl; terminate_handler = refl; unexpected_handler = refl; last_number = refl; unwinding = refl; input = refl; replies = refl; terminating = refl }

done_first : (step : Step) (first : Option State) (m : State) → when_done step first ≡ Some m → step ≡ steps.Done
done_first steps.Done first m h = refl
done_first steps.Ecall first m h = absurd (cc h)
done_first (steps.Fault kind) first m h = absurd (cc h)

pub executes_turns : (image : Image) (n : ℕ) (w : World) (s t : State) → w.hart ≡ s → Executes n s t → Stepped image n w t
unfolding after_steps
executes_turns image zero w s t at h =
    let same : s ≡ t = cc h in
    record { after = w; hart = at ∙ same; turns = no_turns image w; runtime = same_runtime w }
executes_turns image (suc n) w s t at h =
    let went : (step_of s).0 ≡ steps.Done = done_first (step_of s).0 (after_steps n (step_of s).1) t h in
    let m : State = (step_of s).1 in
    let rest : after_steps n m ≡ Some t = sym (ap (λ d. when_done d (after_steps n m)) went) ∙ h in
    let step : step_of w.hart ≡ (steps.Done, m) = ap step_of at ∙ ap (λ d. (d, m)) went in
    let one = step_turns image w m step in
    let more = executes_turns image n (after_step m w) m t refl rest in
    let count : 1 + n ≡ suc n = omega arith in
    record {
      after = more.after;
      hart = more.hart;
      turns = subst (λ i. Turns image i w more.after []) count (turns_then image 1 n w (after_step m w) more.after [] [] one more.turns);
      runtime = same_then w (after_step m w) more.after (same_step w m) more.runtime;
    }

-- ---- runtime calls

pub as_int_extended : (z : ℤ) → IsInt z → as_int (extended z) ≡ z
as_int_extended z h = ap (cast_signed w32) (int_stored z h) ∙ to_z-of_z w32 z (fits z h)
  where
    fits : (z : ℤ) → IsInt z → FitsSigned w32 z
    fits (pos n) h = let small = small_pos n h in record { sfits = omega (arith, small) }
    fits (negsuc n) h = let small = small_neg n h in record { sfits = omega (arith, small) }

-- write_int
pub write_turns : (image : Image) (w : World) (s : State) (z : ℤ) → step_of w.hart ≡ (steps.Ecall, s) → reg_of s.regs a7 ≡ 1 → reg_of s.regs a0 ≡ extended z → IsInt z → Turns image 1 w (after_line z s w) (Line z ∷ [])
unfolding turn call_effect numbered
write_turns image w s z e call value int =
    turn_on image w (after_line z s w)
    (λ wish. ap (stepped image wish (record w { shown = [] })) e ∙ ap (λ n. called w.hart.pc (call_effect n image wish (at_hart s (record w { shown = [] })))) call
    ∙ ap (λ v. (On, counted (shows (Line v) (at_hart s (record w { shown = [] }))))) (ap as_int value ∙ as_int_extended z int)) refl

-- exit
pub exit_ends : (image : Image) (pick : ℕ → ℕ) (k : ℕ) (w : World) (s : State) (z : ℤ) → step_of w.hart ≡ (steps.Ecall, s) → reg_of s.regs a7 ≡ 0 → reg_of s.regs a0 ≡ extended z → IsInt z →
    run image pick (suc k) w ≡ record { items = []; end = end_kinds.Exit z; world = after_step s w }
unfolding turn call_effect numbered
exit_ends image pick k w s z e call value int =
    turn_ends image pick k w (after_step s w) z
    (λ wish. ap (stepped image wish (record w { shown = [] })) e ∙ ap (λ n. called w.hart.pc (call_effect n image wish (at_hart s (record w { shown = [] })))) call
    ∙ ap (λ v. (Ended (end_kinds.Exit v), after_step s w)) (ap as_int value ∙ as_int_extended z int))

-- read_byte
pub read_turns : (image : Image) (w : World) (s : State) (b : ℕ) (bytes : List ℕ) → step_of w.hart ≡ (steps.Ecall, s) → reg_of s.regs a7 ≡ 2 → w.input ≡ b ∷ bytes → Turns image 1 w (after_byte b bytes s w) []
unfolding turn call_effect numbered
read_turns image w s b bytes e call input =
    let v : World = at_hart s (record w { shown = [] }) in
    turn_on image w (after_byte b bytes s w)
    (λ wish. ap (stepped image wish (record w { shown = [] })) e ∙ ap (λ n. called w.hart.pc (call_effect n image wish v)) call ∙ ap (λ given. called w.hart.pc (read_from v given)) input) refl

pub end_turns : (image : Image) (w : World) (s : State) → step_of w.hart ≡ (steps.Ecall, s) → reg_of s.regs a7 ≡ 2 → w.input ≡ [] → Turns image 1 w (counted (gives a0 (extended (negsuc 0)) (at_hart s (record w { shown = [] })))) []
unfolding turn call_effect numbered
end_turns image w s e call input =
    let v : World = at_hart s (record w { shown = [] }) in
    turn_on image w (counted (gives a0 (extended (negsuc 0)) v))
    (λ wish. ap (stepped image wish (record w { shown = [] })) e ∙ ap (λ n. called w.hart.pc (call_effect n image wish v)) call ∙ ap (λ given. called w.hart.pc (read_from v given)) input) refl
