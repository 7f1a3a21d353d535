-- A module raises while as many exceptions are live as can be, on both machines.
use Rattle.std.proofs.Common.{◌≡◌, ◌∙◌, refl, sym, ap, subst, arith, ℕ, ◌+◌, ◌<◌, ◌≤◌, Bool, true, false, List, [], ◌∷◌, append-nil, length, slice_set, length-set, Some, None}
use Rattle.std.specs.Prelude.{if◌then◌else◌}
use Rattle.std.proofs.lemmas.Bool.Decides.{nat_tests}
use Rattle.eh_outer.specs.declared.module.Reply.{Reply}
use Rattle.elf_image.specs.Clean.{CleanImage}
use Rattle.caught_stack.specs.declared.header.HeaderKind.TheVariants.{Building}
use Rattle.caught_stack.specs.Live.{slots, is_vacant, live_count}
use Rattle.caught_stack.specs.Exceptions.{Exceptions, IsSound}
use Rattle.caught_stack.proofs.Headers.{vacant_below, vacant_not_live, both_counts}
use Rattle.cxa_runtime.specs.Objects.{slot_for, first_vacant_from}
use Rattle.cxa_runtime.specs.Allocate.{new_header}
use Rattle.cxa_runtime.specs.Terminate.{terminates}
use Rattle.cxa_runtime.specs.World as abi
use Rattle.cxa_runtime.specs.Raising.{Image}
use Rattle.cxa_runtime.specs.Foreign.{raised_in}
use Rattle.cxa_runtime.specs.Call.{call_effect}
use Rattle.cxa_runtime.proofs.Changes.{full_gives_none}
use Rattle.eh_run.specs.Program.{program_of}
use Rattle.region_forms.specs.World.{World}
use Rattle.region_forms.specs.Effect.{is_full, terminates as terminates_effect, raises}
use Rattle.linear_forms.specs.Activation.{Activation, State as LinearState, terminated}
use Rattle.linear_forms.specs.Machine.{step}
use Rattle.linear_forms.specs.Operation.{performed}
use Rattle.linear_forms.specs.UnitRun.{code_of}
use Rattle.machine_forms.specs.LinearCode.{linear_code}
use Rattle.machine_pieces.specs.Laws.{CallsAreTurns}
use Rattle.machine_stubs.specs.Calls.{asked, CallsAreMade}
use Rattle.machine_stubs.specs.Terminate.{TerminateRuns}
use Rattle.machine_simulation.specs.Plan.{Plan, shape}
use Rattle.machine_simulation.specs.Exceptions.{addresses_of, IsFunction}
use Rattle.machine_simulation.specs.Matches.{RuntimeMatches, Matches}
use Rattle.machine_simulation.proofs.Holding.{same_number}
use Rattle.machine_simulation.proofs.Matching.{stands_by}
use Rattle.machine_simulation.proofs.Calling.{runtime_pushed}
use Rattle.machine_exceptions.proofs.Headers.{count_more}
use Rattle.raise_ends.specs.Ends.{HandlerBegins}
use Rattle.raise_ends.specs.Modules.{AtRaise, raising_world}
use Rattle.raise_ends.specs.Full.{refused_state, ModulesAreRefusedWhenFull}
use Rattle.raise_ends.proofs.Steps.{handler_in_two}
use Rattle.raise_ends.proofs.Comes.{Sends, any_wish, handler_called}
use Rattle.raise_ends.proofs.Asking.{may_terminate, may_from, comes, all_open}
use Rattle.raise_ends.proofs.ForeignMade.{left_in}
use Rattle.raise_ends.proofs.Raising.{raise_step, RaiseAsked, raise_asked}
use Rattle.raise_ends.proofs.Aborting.{aborts_both}

-- where all slots are live, none is given, whichever is wished for
none_given : (e : Exceptions) (wish : ℕ) → IsSound e → live_count e.live ≡ slots → slot_for e.live wish ≡ None
none_given e wish sound full = by (is_vacant e.live wish) refl
  where
    by : (b : Bool) → is_vacant e.live wish ≡ b → slot_for e.live wish ≡ None
    by false is = ap (λ b. if b then Some wish else first_vacant_from 0 e.live) is ∙ full_gives_none e sound full
    by true is =
        let low : wish < length e.live = omega (arith, vacant_below e.live wish is, sound.slots) in
        let more = count_more e.live wish (new_header 0 Building) low (vacant_not_live e.live wish is) in
        let all = both_counts (slice_set e.live wish (Some (new_header 0 Building))) in
        absurd (omega (arith, more, all, full, sound.slots, length-set e.live wish (Some (new_header 0 Building))))

-- the exceptions that are live take all slots
all_live : (p : Plan) (fs : List Activation) (v : World) (y : abi.World) → RuntimeMatches p fs v y → is_full v ≡ true → live_count y.exceptions.live ≡ slots
all_live p fs v y r full =
    let many : 1024 ≤ length v.live = grind (arith, nat_tests, full) in
    omega (arith, many, r.exceptions.count, r.exceptions.sound.slots, both_counts y.exceptions.live)

-- ---- both machines

full_step : (i : CleanImage) (p : Plan) (n k token : ℕ) (left : List Reply) (st : LinearState) → AtRaise i p n k token left st → is_full st.world ≡ true →
    step (code_of p.unit) st ≡ terminated st.world.installed.terminate_handler (st.top ∷ st.frames) (refused_state k left st).world
full_step i p n k token left st at full =
    let v : World = st.world in
    raise_step i p n k token left st at
    ∙ ap (λ c. performed (code_of p.unit) (if c then terminates_effect v.installed.terminate_handler (refused_state k left st).world else raises (v.last_number + 1) (raising_world v k token left)) st.top st.frames v) full

-- no slot is given, and the runtime terminates
full_effect : (i : CleanImage) (p : Plan) (n k token : ℕ) (left : List Reply) (st : LinearState) (w : abi.World) (back words : ℕ) (r : RaiseAsked i p n k token left st w back words) → is_full st.world ≡ true → (wish : ℕ) →
    let y = asked r.call.behind r.call.at in call_effect 14 (program_of i).image wish y ≡ terminates (program_of i).image.places y.terminate_handler (left_in y k left)
full_effect i p n k token left st w back words r full wish =
    let y : abi.World = asked r.call.behind r.call.at in
    r.effect wish ∙ ap (raised_in (program_of i).image (left_in y k left) k token) (none_given y.exceptions wish r.call.runtime.exceptions.sound (all_live p st.frames st.world y r.call.runtime full))

refused_runtime : (p : Plan) (fs : List Activation) (v : World) (y : abi.World) (k : ℕ) (left : List Reply) → RuntimeMatches p fs v y → RuntimeMatches p fs (record v { replies = slice_set v.replies k left }) (left_in y k left)
refused_runtime p fs v y k left r = record {
  input = r.input;
  replies = ap (λ replies. slice_set replies k left) r.replies;
  last_number = r.last_number;
  terminating = r.terminating;
  exceptions = r.exceptions;
  plan = r.plan;
}

-- the handler is called
pub full_sends : CallsAreTurns → (i : CleanImage) (p : Plan) (n m k token : ℕ) (left : List Reply) (st : LinearState) (w : abi.World) (h : Matches p st w) → (at : AtRaise i p n k token left st) → is_full st.world ≡ true →
    st.world.ending ≡ false → st.world.installed.terminate_handler ≡ Some m → p.hidden ≡ 0 → let waiting = refused_state k left st in HandlerBegins p m st waiting []
    × (s : Sends (program_of i).image p n m st.top.frame st.frames (st.top ∷ st.frames) waiting.world w h.back p.hidden (length (linear_code (shape p n) at.operation)) [] any_wish) × (s.comes.to.unwinding ≡ s.comes.at.unwinding)
full_sends turns i p n m k token left st w h at full quiet installed hidden =
    let image : Image = (program_of i).image in
    let v : World = st.world in
    let waiting : LinearState = refused_state k left st in
    let most : ℕ = length (linear_code (shape p n) at.operation) in
    let stood = stands_by p n st w h at.runs in
    let r = raise_asked turns i p n k token left st w h.back stood at in
    let c = r.call in
    let y : abi.World = asked c.behind c.at in
    let may = may_terminate image p n st w h.back 14 most stood at.named c in
    let runtime = runtime_pushed p n st.top st.frames waiting.world (left_in y k left) at.runs (refused_runtime p st.frames v y k left c.runtime) in (
      handler_in_two p m st waiting v.installed.terminate_handler [] (full_step i p n k token left st at full) quiet installed (sym (append-nil v.items)),
      record {
        comes = comes image p n st w h.back 14 most c may (st.top ∷ st.frames) waiting.world p.hidden y.terminate_handler (left_in y k left) [] refl refl refl (same_number v) runtime (all_open image p n st w h.back 14 most c hidden) refl;
        quiet = quiet;
        known = subst (λ o. IsFunction (addresses_of p) o y.terminate_handler) installed c.runtime.exceptions.terminate_handler;
        effect = λ wish any. full_effect i p n k token left st w h.back most r full wish;
      },
      refl,
    )

pub modules_are_refused_when_full : CallsAreTurns → CallsAreMade → TerminateRuns → ModulesAreRefusedWhenFull
modules_are_refused_when_full turns made runs = record {
  calls_the_handler = λ i p n m k token left st w h at full quiet installed hidden fits.
      let all = full_sends turns i p n m k token left st w h at full quiet installed hidden in
      let s = all.1 in (
        all.0,
        handler_called made runs (program_of i).image p n m st.top.frame st.frames (refused_state k left st) w h.back p.hidden (length (linear_code (shape p n) at.operation)) [] s.comes s.quiet s.known fits (λ wish. s.effect wish tt) all.2,
      );
  aborts = λ i pick j p n k token left st w h at full none many.
      let image : Image = (program_of i).image in
      let v : World = st.world in
      let waiting : LinearState = refused_state k left st in
      let most : ℕ = length (linear_code (shape p n) at.operation) in
      let stood = stands_by p n st w h at.runs in
      let r = raise_asked turns i p n k token left st w h.back stood at in
      let c = r.call in
      let y : abi.World = asked c.behind c.at in
      let may = may_from image p y (left_in y k left) refl (may_terminate image p n st w h.back 14 most stood at.named c) in
      aborts_both made runs image pick j p st (st.top ∷ st.frames) waiting.world w c.turns 14 y.terminate_handler c.at (left_in y k left) c.behind [] v.installed.terminate_handler c.runs c.calls c.asks
      (full_effect i p n k token left st w h.back most r full (pick (c.at.last_number + 1))) c.runtime.terminating may refl (full_step i p n k token left st at full) refl (sym (append-nil v.items)) none
      c.runtime.exceptions.terminate_handler (omega (arith, c.few, many));
}
