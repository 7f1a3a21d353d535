-- A forced unwind goes on from the last operation of one of the runtime's own functions, to the end of the stack or to a call without a site.
use Rattle.std.proofs.Common.{◌≡◌, ◌∙◌, refl, sym, ap, subst, arith, ℕ, suc, ◌+◌, ◌-◌, ◌%◌, ◌≤◌, true, ℤ, List, [], ◌∷◌, ◌++◌, append-nil, Some, None, inl, inr}
use Rattle.std.specs.Prelude.{if◌then◌else◌}
use Rattle.meaning_forms.specs.Outcome.{exit, aborted}
use Rattle.run_items.specs.declared.item.Item.{Item}
use Rattle.rv64_isa.specs.Step.{x}
use Rattle.elf_image.specs.Clean.{CleanImage}
use Rattle.raise_core.specs.declared.raised.Raised.TheVariants.{Terminate}
use Rattle.raise_core.specs.Raise as unwinder
use Rattle.caught_stack.specs.Exceptions.{Exceptions}
use Rattle.cxa_runtime.specs.declared.effect.End.TheVariants.{Exit, Aborted, Stack}
use Rattle.cxa_runtime.specs.World as abi
use Rattle.cxa_runtime.specs.World.{a0, argument, needs}
use Rattle.cxa_runtime.specs.Raising.{Image}
use Rattle.cxa_runtime.specs.Cancel.{forced_as}
use Rattle.cxa_runtime.specs.Terminate.{at_stub, terminates}
use Rattle.cxa_runtime.specs.Call.{call_effect}
use Rattle.eh_run.specs.Program.{program_of}
use Rattle.region_forms.specs.World.{unwinding, World}
use Rattle.linear_forms.specs.Stub.{Function, terminating}
use Rattle.linear_forms.specs.Activation.{Activation, State, goes_to, finishes, by_program}
use Rattle.linear_forms.specs.Machine.{step}
use Rattle.linear_forms.specs.Forced.{forced_above}
use Rattle.linear_forms.specs.UnitRun.{code_of}
use Rattle.machine_forms.specs.Registers.{sp}
use Rattle.machine_pieces.specs.Standing.{address}
use Rattle.machine_pieces.specs.Turning.{Turns}
use Rattle.machine_pieces.proofs.Turning.{no_turns, turns_then}
use Rattle.machine_stubs.specs.Calls.{asked, CallsAreMade}
use Rattle.machine_stubs.specs.Stretches.{stub_word, frame_size}
use Rattle.machine_stubs.specs.Terminate.{TerminateRuns}
use Rattle.machine_stubs.specs.Terminates.{MayTerminate, sent}
use Rattle.raise_simulation.specs.Resumes.{ForcedAgree}
use Rattle.machine_simulation.specs.Plan.{Plan, first_word, setting}
use Rattle.machine_simulation.specs.Calls.{open_bytes, frame_of, frames_bytes}
use Rattle.machine_simulation.specs.Exceptions.{addresses_of, exceptions_in, kept_by, IsFunction, ExceptionsMatch}
use Rattle.machine_simulation.specs.Matches.{RuntimeMatches}
use Rattle.machine_simulation.specs.Entering.{entry_turns}
use Rattle.machine_simulation.proofs.Floors.{stub_floor}
use Rattle.machine_exceptions.specs.Terminates.{waiting_terminate}
use Rattle.machine_exceptions.proofs.EndCatching.{room_below}
use Rattle.flight_homes.specs.Nest.{waits_terminate}
use Rattle.flight_homes.specs.OpenCalls.{CallsStand}
use Rattle.machine_raises.proofs.Resuming.{resume_is}
use Rattle.stack_bounds.specs.Overflow.{FunctionsOverflow}
use Rattle.raise_ends.specs.Ends.{RunEnds, LinearEnds, HandlerFits}
use Rattle.raise_ends.specs.Barriers.{barred_state}
use Rattle.raise_ends.proofs.Steps.{over_at_once, handler_in_two}
use Rattle.raise_ends.proofs.Sent.{handler_sent}
use Rattle.raise_ends.proofs.Comes.{aborts_again, few_all}
use Rattle.raise_ends.proofs.Aborting.{aborts_both}
use Rattle.raise_ends.proofs.Barring.{pad_no_end, pad_lives, IsBarred, barred_at, passed_calls, bytes_alike, bytes_split, waits_rest}
use Rattle.stub_landings.specs.OwnRaises.{ResumesAt}
use Rattle.stub_landings.proofs.Own.{own_on_stack}
use Rattle.own_ends.specs.Callers.{CalledBelow}
use Rattle.own_ends.specs.Overflow.{LacksRoom}
use Rattle.own_ends.specs.Unwinds.{OwnBarred, OwnOverflows}
use Rattle.own_ends.proofs.Bytes.{waiting_end}
use Rattle.own_ends.proofs.Running.{ComesToResume}
use Rattle.own_ends.proofs.Unwinding.{unwinds_from, Answers, unwound}
use Rattle.own_ends.proofs.Newest.{newest_found}
use Rattle.own_ends.proofs.Sent.{handler_overflows}
use Rattle.own_ends.proofs.Finishing.{unwinds_so, ends_behind, exit_turn, no_exit, one_exit, not_both, no_abort, quiet_of, running_of, none_waits}

module _ (made : CallsAreMade) (runs : TerminateRuns) (agree : ForcedAgree) (i : CleanImage) (q : Plan) (f : Function) (place slot : ℕ) (k : ℤ) (last : State) (w : abi.World) (most : ℕ) (items : List Item) (kept : Exceptions)
    (c : ComesToResume i q f last w 0 most items kept) (resumes : ResumesAt f place slot) (there : last.top.place ≡ place) (is : last.top.frame.slots slot ≡ unwinding k) (on : c.at.unwinding ≡ Some k) where
  abbrev image : Image
  image = (program_of i).image

  abbrev v : World
  v = last.world

  -- the world in which the unwinder is called
  abbrev y : abi.World
  y = asked c.behind c.at

  steps : (step (code_of q.unit) last ≡ forced_above (code_of q.unit) k (last.top ∷ last.frames) v) × (forced_above (code_of q.unit) k (last.top ∷ last.frames) v ≡ forced_above (code_of q.unit) k last.frames v)
  steps = unwinds_from q f place slot k last resumes c.call.inside.runs there is

  answers : Answers i q k last.top last.frames v c.behind
  answers = unwound agree i q k last.top last.frames v c.behind c.call.running (own_on_stack q f c.call.back last.top last.frames v c.behind c.call.running.base c.call.inside)

  effect : (wish : ℕ) → call_effect 9 image wish y ≡ forced_as image.places k y (unwinder.forced_unwind image.fdes c.behind)
  effect wish = resume_is image wish y ∙ unwinds_so image y k c.given on

  pub exits_there : (pick : ℕ → ℕ) (j : ℕ) (z : ℤ) (u : World) → step (code_of q.unit) last ≡ finishes (by_program (exit z)) u → most + 1 ≤ j → (z ≡ k) × (u ≡ v) × RunEnds image pick j w items (Exit k)
  exits_there pick j z u ends many = by answers
    where
      came : forced_above (code_of q.unit) k (last.top ∷ last.frames) v ≡ finishes (by_program (exit z)) u
      came = sym steps.0 ∙ ends

      by : Answers i q k last.top last.frames v c.behind → (z ≡ k) × (u ≡ v) × RunEnds image pick j w items (Exit k)
      by (inl pad) = absurd (pad_no_end _ pad.word pad.selector pad.activation.function pad.pad pad.activation.frame pad.rest v (exit z) u (sym pad.enters ∙ came))
      by (inr (inl (barred, answer))) = absurd (no_exit v.installed.terminate_handler _ v u z (sym barred.terminates ∙ came))
      by (inr (inr (out, answer))) =
          let same = one_exit k z v u (sym out ∙ came) in
          let few = c.few in
          let left : ℕ = j - c.turns - 1 in
          let count : suc left ≡ j - c.turns = omega (arith, many, few) in
          let to : call_effect 9 image (pick (c.at.last_number + 1)) (asked c.behind c.at) ≡ abi.exits k y = effect (pick (c.at.last_number + 1)) ∙ ap (forced_as image.places k y) answer in
          let ended : RunEnds image pick (j - c.turns) c.at [] (Exit k) = subst (λ l. RunEnds image pick l c.at [] (Exit k)) count (exit_turn made image pick 9 k c.at y c.behind c.call.calls c.call.asks to left) in
          (same.0, same.1, ends_behind image pick j c.turns w c.at items (Exit k) c.runs (omega (arith, many, few)) ended)

  -- what is barred
  abbrev Barred : Type 0
  Barred = IsBarred v (forced_above (code_of q.unit) k (last.top ∷ last.frames) v) × (unwinder.forced_unwind image.fdes c.behind ≡ (Terminate, c.behind))

  barred_if_begins : (next : State) → step (code_of q.unit) last ≡ goes_to next → next.top.function ≡ terminating → Barred
  barred_if_begins next goes begins = by answers
    where
      came : forced_above (code_of q.unit) k (last.top ∷ last.frames) v ≡ goes_to next
      came = sym steps.0 ∙ goes

      by : Answers i q k last.top last.frames v c.behind → Barred
      by (inl pad) = absurd (pad_lives (code_of q.unit) pad.activation pad.pad pad.chain pad.word pad.selector pad.rest v next pad.covers (sym pad.enters ∙ came) begins)
      by (inr (inl b)) = b
      by (inr (inr (out, answer))) = absurd (not_both k v next (sym out ∙ came))

  barred_if_aborts : (u : World) → step (code_of q.unit) last ≡ finishes (by_program aborted) u → Barred
  barred_if_aborts u ends = by answers
    where
      came : forced_above (code_of q.unit) k (last.top ∷ last.frames) v ≡ finishes (by_program aborted) u
      came = sym steps.0 ∙ ends

      by : Answers i q k last.top last.frames v c.behind → Barred
      by (inl pad) = absurd (pad_no_end _ pad.word pad.selector pad.activation.function pad.pad pad.activation.frame pad.rest v aborted u (sym pad.enters ∙ came))
      by (inr (inl b)) = b
      by (inr (inr (out, answer))) = absurd (no_abort k v u (sym out ∙ came))

  terminates_there : Barred → (wish : ℕ) → call_effect 9 image wish y ≡ terminates image.places y.terminate_handler y
  terminates_there b wish = effect wish ∙ ap (forced_as image.places k y) b.1

  pub aborts_there_again : (pick : ℕ → ℕ) (j : ℕ) (u : World) → step (code_of q.unit) last ≡ finishes (by_program aborted) u → most + 1 ≤ j → LinearEnds q 3 last [] aborted × RunEnds image pick j w items Aborted
  aborts_there_again pick j u ends many =
      let b = barred_if_aborts u ends in
      let few = c.few in
      let went = running_of v.installed.terminate_handler (record { function = b.0.barring.function; place = 0; frame = b.0.barring.frame } ∷ b.0.outer) v u (sym b.0.terminates ∙ (sym steps.0 ∙ ends)) in
      let last_one : RunEnds image pick (j - c.turns) c.at [] Aborted
      = aborts_again made image pick (j - c.turns) 0 9 y.terminate_handler c.at c.at y c.behind [] (no_turns image c.at) c.call.calls c.call.asks (terminates_there b (pick (c.at.last_number + 1))) (c.call.runtime.terminating ∙ went.0) refl
      (omega (arith, many, few)) in
      (over_at_once q last u [] ends (ap (λ (n : World). n.items) went.1 ∙ sym (append-nil v.items)), ends_behind image pick j c.turns w c.at items Aborted c.runs (omega (arith, many, few)) last_one)

  -- ---- terminate's frame has room

  own_bytes : ResumesAt f place slot → frame_of q.unit q.hidden f ≡ frame_size f
  own_bytes (inl (is, at, with_slot)) = ap (frame_of q.unit q.hidden) is ∙ sym (ap frame_size is)
  own_bytes (inr (is, at, with_slot)) = ap (frame_of q.unit q.hidden) is ∙ sym (ap frame_size is)

  module _ (called : CalledBelow last.frames) (named : image.places.terminate ≡ stub_word q.base terminating 0) where
    low : (0x7000_0d00 ≤ x c.behind sp) × (x c.behind sp ≤ 0x7100_0000) × (x c.behind sp % 8 ≡ 0)
    low = let m = c.call.inside.memory in (stub_floor f (x c.behind sp) m.stands.above, omega (arith, m.stands.below), omega (arith, m.stands.saved.aligned))

    may : MayTerminate q.unit q.base image y
    may =
        let m = c.call.inside.memory in
        let b = low in
        let deep = b.0 in
        record {
          named = named;
          registers = c.call.inside.registers;
          code = m.unit.stubs.terminate;
          deep = omega (arith, deep);
          room = room_below c.behind.memory (x c.behind sp) 32 m.may (omega (arith, deep)) b.1 b.2 refl;
        }

    pub aborts_there : (pick : ℕ → ℕ) (j : ℕ) (next : State) → step (code_of q.unit) last ≡ goes_to next → next.top.function ≡ terminating → v.installed.terminate_handler ≡ None → most + 8 ≤ j →
        LinearEnds q 3 last [] aborted × RunEnds image pick j w items Aborted
    aborts_there pick j next goes begins none many =
        let b = barred_if_begins next goes begins in
        let few = c.few in
        let both = aborts_both made runs image pick (j - c.turns) q last (record { function = b.0.barring.function; place = 0; frame = b.0.barring.frame } ∷ b.0.outer) v c.at 0 9 y.terminate_handler c.at y c.behind [] v.installed.terminate_handler
        (no_turns image c.at) c.call.calls c.call.asks (terminates_there b (pick (c.at.last_number + 1))) c.call.runtime.terminating may refl (steps.0 ∙ b.0.terminates) refl (sym (append-nil v.items)) (inr none)
        c.call.runtime.exceptions.terminate_handler (omega (arith, many, few)) in
        (both.0, ends_behind image pick j c.turns w c.at items Aborted c.runs (omega (arith, many, few)) both.1)

    -- ---- its handler begins

    pub begins_there : (m : ℕ) (next : State) → step (code_of q.unit) last ≡ goes_to next → next.top.function ≡ terminating → CallsStand last → v.installed.terminate_handler ≡ Some m → HandlerFits q m last → OwnBarred q i m last w (most + 7 + entry_turns q m) items
    begins_there m next goes begins stand installed fits =
        let barred = barred_if_begins next goes begins in
        let b = barred_at (code_of q.unit) k last.frames v next (sym (steps.0 ∙ steps.1) ∙ goes) begins in
        let waiting : State = barred_state b.barring b.outer v in
        let below : List Activation = waiting.top ∷ b.outer in
        let quiet = quiet_of v.installed.terminate_handler below v next (sym (steps.0 ∙ (steps.1 ∙ b.terminates)) ∙ goes) in
        let hidden : ℕ = open_bytes q (last.top ∷ b.inner) in
        let none = none_waits last stand quiet in
        let rest = waits_rest q.unit b.inner (b.barring ∷ b.outer) (sym (ap waits_terminate b.split) ∙ none) in
        let alike = bytes_alike q.unit q.hidden hidden (b.barring ∷ b.outer) rest in
        let memory = c.call.inside.memory in
        let own_frame = own_bytes resumes in
        let frame_is : frame_of q.unit q.hidden last.top.function ≡ frame_size f = ap (frame_of q.unit q.hidden) c.call.inside.runs ∙ own_frame in
        let sum : open_bytes q last.frames ≡ open_bytes q b.inner + frames_bytes q.unit q.hidden (b.barring ∷ b.outer) = ap (open_bytes q) b.split ∙ bytes_split q.unit q.hidden b.inner (b.barring ∷ b.outer) in
        let end_at = waiting_end q last.frames v c.behind.memory (x c.behind sp + frame_size f) c.call.back v.calls memory.waiting in
        let gone = passed_calls q last.frames v c.behind.memory (x c.behind sp + frame_size f) c.call.back v.calls memory.waiting b.inner (b.barring ∷ b.outer) b.split b.passed in
        let r = c.call.runtime in
        let runtime : RuntimeMatches q below v y = record {
          input = r.input;
          replies = r.replies;
          last_number = r.last_number;
          terminating = r.terminating;
          exceptions = subst (λ ds. ExceptionsMatch (addresses_of q) ds (exceptions_in v) (kept_by y)) gone.0 r.exceptions;
          plan = r.plan;
        } in
        let n = newest_found q f last.frames v c.behind.memory (x c.behind sp) c.call.back memory called in
        let bounds = low in
        let deep = bounds.0 in
        let above = n.above in
        let known : IsFunction (addresses_of q) (Some m) y.terminate_handler = subst (λ o. IsFunction (addresses_of q) o y.terminate_handler) installed r.exceptions.terminate_handler in
        let first : ℕ = address (setting q m).ground (first_word q m) in
        let next_world : abi.World = record y { hart = at_stub image.places first y.hart; terminating = true } in
        let begun : abi.World = sent image.places first y in
        let goes_there : (wish : ℕ) → call_effect 9 image wish y ≡ abi.goes next_world = λ wish.
        terminates_there barred wish ∙ ap (λ h. terminates image.places h y) known.0 ∙ ap (λ z. if z then abi.aborts y else abi.goes next_world) (r.terminating ∙ quiet) in
        let one : Turns image 1 c.at begun [] = made.goes_on image 9 c.at next_world c.behind c.call.calls c.call.asks goes_there refl in
        let reached = handler_sent runs image q n.number m n.frame n.others waiting y n.high n.back hidden (record {
          may = may;
          memory = n.matches;
          above = omega (arith, above);
          even = bounds.2;
          small = c.call.inside.kept.small;
          runtime = runtime;
          end = omega (arith, end_at, sum, alike, frame_is);
        }) known.1 (record { taken = fits.taken; room = omega (arith, fits.room, sum, alike, frame_is) }) in
        let few = c.few in
        let all : Turns image (c.turns + 1 + reached.turns) w reached.after items = subst (Turns image (c.turns + 1 + reached.turns) w reached.after) (append-nil (items ++ []) ∙ append-nil items)
        (turns_then image (c.turns + 1) reached.turns w begun reached.after (items ++ []) [] (turns_then image c.turns 1 w c.at begun items [] c.runs one) reached.runs) in
        record {
          left = record { calls = b.inner; own = gone.1; barring = b.barring; outer = b.outer; split = b.split };
          begins = handler_in_two q m last waiting v.installed.terminate_handler [] (steps.0 ∙ (steps.1 ∙ b.terminates)) quiet installed (sym (append-nil v.items));
          ran = record { turns = c.turns + 1 + reached.turns; few = few_all c.turns reached.turns most (entry_turns q m) few reached.few; after = reached.after; runs = all; holds = reached.holds.0 };
        }

    -- it finds no room
    pub overflows_there : FunctionsOverflow → (pick : ℕ → ℕ) (j m : ℕ) (next : State) → step (code_of q.unit) last ≡ goes_to next → next.top.function ≡ terminating → v.installed.terminate_handler ≡ Some m → q.hidden ≡ 0 →
        LacksRoom q m (waiting_terminate m ∷ last.top ∷ last.frames) → most + 13 ≤ j → OwnOverflows q i pick j m last w items
    overflows_there overflow pick j m next goes begins installed hidden lacks many =
        let barred = barred_if_begins next goes begins in
        let b = barred_at (code_of q.unit) k last.frames v next (sym (steps.0 ∙ steps.1) ∙ goes) begins in
        let waiting : State = barred_state b.barring b.outer v in
        let below : List Activation = waiting.top ∷ b.outer in
        let quiet = quiet_of v.installed.terminate_handler below v next (sym (steps.0 ∙ (steps.1 ∙ b.terminates)) ∙ goes) in
        let memory = c.call.inside.memory in
        let own_frame = own_bytes resumes in
        let frame_is : frame_of q.unit q.hidden last.top.function ≡ frame_size f = ap (frame_of q.unit q.hidden) c.call.inside.runs ∙ own_frame in
        let end_at = waiting_end q last.frames v c.behind.memory (x c.behind sp + frame_size f) c.call.back v.calls memory.waiting in
        let gone = passed_calls q last.frames v c.behind.memory (x c.behind sp + frame_size f) c.call.back v.calls memory.waiting b.inner (b.barring ∷ b.outer) b.split b.passed in
        let r = c.call.runtime in
        let bounds = low in
        let deep = bounds.0 in
        let known : IsFunction (addresses_of q) (Some m) y.terminate_handler = subst (λ o. IsFunction (addresses_of q) o y.terminate_handler) installed r.exceptions.terminate_handler in
        let first : ℕ = address (setting q m).ground (first_word q m) in
        let next_world : abi.World = record y { hart = at_stub image.places first y.hart; terminating = true } in
        let begun : abi.World = sent image.places first y in
        let goes_there : (wish : ℕ) → call_effect 9 image wish y ≡ abi.goes next_world = λ wish.
        terminates_there barred wish ∙ ap (λ h. terminates image.places h y) known.0 ∙ ap (λ z. if z then abi.aborts y else abi.goes next_world) (r.terminating ∙ quiet) in
        let one : Turns image 1 c.at begun [] = made.goes_on image 9 c.at next_world c.behind c.call.calls c.call.asks goes_there refl in
        let few = c.few in
        let front : Turns image (c.turns + 1) w begun items = subst (Turns image (c.turns + 1) w begun) (append-nil items) (turns_then image c.turns 1 w c.at begun items [] c.runs one) in
        let over = handler_overflows overflow runs image pick (j - (c.turns + 1)) q m y may memory.unit memory.may (omega (arith, deep)) bounds.1 bounds.2 known.1 lacks.looks (omega (arith, end_at, frame_is, hidden, lacks.lacks)) (omega (arith, few, many)) in
        record {
          left = record { calls = b.inner; own = gone.1; barring = b.barring; outer = b.outer; split = b.split };
          begins = handler_in_two q m last waiting v.installed.terminate_handler [] (steps.0 ∙ (steps.1 ∙ b.terminates)) quiet installed (sym (append-nil v.items));
          ran = ends_behind image pick j (c.turns + 1) w begun items Stack front (omega (arith, few, many)) over;
        }
