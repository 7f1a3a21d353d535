-- A forced unwind goes on from end_catch or from call_unexpected, and comes to no landing pad.
use Rattle.std.proofs.Common.{◌≡◌, ◌∙◌, refl, ap, subst, ℕ, ◌+◌, ◌≤◌, ℤ, List, [], ◌∷◌, Some, None, inl, inr}
use Rattle.meaning_forms.specs.Outcome.{exit, aborted}
use Rattle.run_items.specs.declared.item.Item.{Item}
use Rattle.run_items.specs.declared.item.Item.TheVariants.{Free}
use Rattle.rv64_isa.specs.Step.{x}
use Rattle.elf_image.specs.Clean.{CleanImage}
use Rattle.caught_stack.specs.Allocate.{freed as slot_freed}
use Rattle.caught_stack.specs.Exceptions.{Exceptions}
use Rattle.cxa_runtime.specs.declared.effect.End.TheVariants.{Exit, Aborted}
use Rattle.cxa_runtime.specs.World as abi
use Rattle.cxa_runtime.specs.World.{a0, argument, needs}
use Rattle.cxa_runtime.specs.Run.{called}
use Rattle.eh_run.specs.Program.{program_of}
use Rattle.region_forms.specs.World.{World}
use Rattle.linear_forms.specs.Stub.{Function, compiled, end_catch, terminating, call_unexpected}
use Rattle.linear_forms.specs.Activation.{State, goes_to, finishes, by_program}
use Rattle.linear_forms.specs.Machine.{step}
use Rattle.linear_forms.specs.UnitRun.{code_of}
use Rattle.machine_forms.specs.Registers.{sp}
use Rattle.machine_stubs.specs.Calls.{CallsAreMade}
use Rattle.machine_stubs.specs.CallUnexpected.{UnexpectedEnds, thrown_slot}
use Rattle.machine_stubs.specs.EndCatch.{EndCatchRuns}
use Rattle.machine_stubs.specs.Stretches.{stub_word}
use Rattle.machine_stubs.specs.Terminate.{TerminateRuns}
use Rattle.raise_simulation.specs.Resumes.{ForcedAgree}
use Rattle.machine_simulation.specs.Plan.{Plan}
use Rattle.machine_simulation.specs.Entering.{entry_turns}
use Rattle.machine_simulation.specs.Objects.{without_object}
use Rattle.machine_exceptions.specs.Terminates.{waiting_terminate}
use Rattle.flight_homes.specs.OpenCalls.{CallsStand}
use Rattle.machine_raises.specs.Stacks.{IsRunning}
use Rattle.stack_bounds.specs.Overflow.{FunctionsOverflow}
use Rattle.raise_ends.specs.Ends.{RunEnds, LinearEnds, HandlerFits}
use Rattle.runtime_invariant.specs.Memory.{RunsKeepMemory}
use Rattle.own_ends.specs.Callers.{CalledBelow}
use Rattle.own_ends.specs.Overflow.{LacksRoom}
use Rattle.own_ends.specs.Resumes.{held_back, freed_on_the_way}
use Rattle.own_ends.specs.Unwinds.{OwnUnwind, last_state, last_plan, last_items, last_turns, OwnBarred, OwnOverflows, OwnUnwindsEnd}
use Rattle.own_ends.proofs.Running.{ComesToResume, unexpected_comes}
use Rattle.own_ends.proofs.Freeing.{catch_comes}
use Rattle.own_ends.proofs.Resuming.{zero_is, gets_zero}
use Rattle.own_ends.proofs.LastUnwinds.{exits_there, aborts_there_again, aborts_there, begins_there, overflows_there}

-- with 0 in a0
zero_given : (i : CleanImage) (q : Plan) (f : Function) (st : State) (w : abi.World) (value most : ℕ) (items : List Item) (e : Exceptions) → value ≡ 0 → ComesToResume i q f st w value most items e → ComesToResume i q f st w 0 most items e
zero_given i q f st w value most items e none c = subst (λ n. ComesToResume i q f st w n most items e) none c

module _ (ends : UnexpectedEnds) (catches : EndCatchRuns) (made : CallsAreMade) (keeps : RunsKeepMemory) (runs : TerminateRuns) (agree : ForcedAgree) (overflow : FunctionsOverflow) where
  -- call_unexpected comes to its last runtime call, and end_catch to its own
  unexpected_at : (i : CleanImage) (p : Plan) (k : ℤ) (st : State) (w : abi.World) → OwnUnwind call_unexpected p st w k → IsRunning p i w.hart → ComesToResume i p call_unexpected st w 0 2 [] w.exceptions
  unexpected_at i p k st w h running = unexpected_comes ends keeps i p 0 st w h.0 running (zero_is p (st.top.frame.slots 4) st.world w.hart.memory (x w.hart sp + thrown_slot) k h.1.is h.0.thrown)

  catch_at : (i : CleanImage) (p : Plan) (k : ℤ) (st : State) (w : abi.World) (h : OwnUnwind end_catch p st w k) (running : IsRunning p i w.hart) →
      ComesToResume i (without_object p (held_back st)) end_catch (freed_on_the_way st) w 0 7 (Free (held_back st) ∷ []) (slot_freed (catch_comes catches made keeps i p st w h.0 running).held.slot w.exceptions)
  catch_at i p k st w h running =
      let all = catch_comes catches made keeps i p st w h.0 running in
      zero_given i (without_object p (held_back st)) end_catch (freed_on_the_way st) w (x w.hart a0) 7 (Free (held_back st) ∷ []) (slot_freed all.held.slot w.exceptions) (gets_zero p st.world (st.top.frame.slots 2) (x w.hart a0) k h.1.is h.0.gets)
      all.comes

  exits : (i : CleanImage) (pick : ℕ → ℕ) (j : ℕ) (p : Plan) (f : Function) (k z : ℤ) (st : State) (v : World) (w : abi.World) → OwnUnwind f p st w k → IsRunning p i w.hart → let last = last_state f st in
      step (code_of p.unit) last ≡ finishes (by_program (exit z)) v → last_turns f ≤ j → (z ≡ k) × (v ≡ last.world) × RunEnds (program_of i).image pick j w (last_items f st) (Exit k)
  exits i pick j p (compiled n) k z st v w h running goes many = absurd h
  exits i pick j p terminating k z st v w h running goes many = absurd h
  exits i pick j p end_catch k z st v w h running goes many =
      let c = catch_at i p k st w h running in
      exits_there made runs agree i (without_object p (held_back st)) end_catch 6 2 k (freed_on_the_way st) w 7 (Free (held_back st) ∷ []) _ c (inl (refl, refl, refl)) (ap (λ n. n + 1) h.0.place) h.1.is (c.runs.unwinding ∙ h.1.on) pick j z v goes many
  exits i pick j p call_unexpected k z st v w h running goes many =
      let c = unexpected_at i p k st w h running in
      exits_there made runs agree i p call_unexpected 17 4 k st w 2 [] _ c (inr (refl, refl, refl)) h.0.there h.1.is (c.runs.unwinding ∙ h.1.on) pick j z v goes many

  begins : (i : CleanImage) (p : Plan) (f : Function) (m : ℕ) (k : ℤ) (st next : State) (w : abi.World) → OwnUnwind f p st w k → IsRunning p i w.hart → CalledBelow st.frames → let last = last_state f st in let q = last_plan f p st in
      step (code_of p.unit) last ≡ goes_to next → next.top.function ≡ terminating → CallsStand last → (program_of i).image.places.terminate ≡ stub_word p.base terminating 0 → last.world.installed.terminate_handler ≡ Some m → HandlerFits q m last →
      OwnBarred q i m last w (last_turns f + 6 + entry_turns q m) (last_items f st)
  begins i p (compiled n) m k st next w h running called goes is stand named installed fits = absurd h
  begins i p terminating m k st next w h running called goes is stand named installed fits = absurd h
  begins i p end_catch m k st next w h running called goes is stand named installed fits =
      let c = catch_at i p k st w h running in
      begins_there made runs agree i (without_object p (held_back st)) end_catch 6 2 k (freed_on_the_way st) w 7 (Free (held_back st) ∷ []) _ c (inl (refl, refl, refl)) (ap (λ n. n + 1) h.0.place) h.1.is (c.runs.unwinding ∙ h.1.on) called named m next goes
      is stand installed fits
  begins i p call_unexpected m k st next w h running called goes is stand named installed fits =
      let c = unexpected_at i p k st w h running in
      begins_there made runs agree i p call_unexpected 17 4 k st w 2 [] _ c (inr (refl, refl, refl)) h.0.there h.1.is (c.runs.unwinding ∙ h.1.on) called named m next goes is stand installed fits

  without : (i : CleanImage) (pick : ℕ → ℕ) (j : ℕ) (p : Plan) (f : Function) (k : ℤ) (st next : State) (w : abi.World) → OwnUnwind f p st w k → IsRunning p i w.hart → CalledBelow st.frames → let last = last_state f st in
      step (code_of p.unit) last ≡ goes_to next → next.top.function ≡ terminating → (program_of i).image.places.terminate ≡ stub_word p.base terminating 0 → last.world.installed.terminate_handler ≡ None → last_turns f + 7 ≤ j →
      LinearEnds p 3 last [] aborted × RunEnds (program_of i).image pick j w (last_items f st) Aborted
  without i pick j p (compiled n) k st next w h running called goes is named none many = absurd h
  without i pick j p terminating k st next w h running called goes is named none many = absurd h
  without i pick j p end_catch k st next w h running called goes is named none many =
      let c = catch_at i p k st w h running in
      aborts_there made runs agree i (without_object p (held_back st)) end_catch 6 2 k (freed_on_the_way st) w 7 (Free (held_back st) ∷ []) _ c (inl (refl, refl, refl)) (ap (λ n. n + 1) h.0.place) h.1.is (c.runs.unwinding ∙ h.1.on) called named pick j next
      goes is none many
  without i pick j p call_unexpected k st next w h running called goes is named none many =
      let c = unexpected_at i p k st w h running in
      aborts_there made runs agree i p call_unexpected 17 4 k st w 2 [] _ c (inr (refl, refl, refl)) h.0.there h.1.is (c.runs.unwinding ∙ h.1.on) called named pick j next goes is none many

  overflows : (i : CleanImage) (pick : ℕ → ℕ) (j : ℕ) (p : Plan) (f : Function) (m : ℕ) (k : ℤ) (st next : State) (w : abi.World) → OwnUnwind f p st w k → IsRunning p i w.hart → CalledBelow st.frames → let last = last_state f st in
      let q = last_plan f p st in step (code_of p.unit) last ≡ goes_to next → next.top.function ≡ terminating → (program_of i).image.places.terminate ≡ stub_word p.base terminating 0 → last.world.installed.terminate_handler ≡ Some m → q.hidden ≡ 0 →
      LacksRoom q m (waiting_terminate m ∷ last.top ∷ last.frames) → last_turns f + 12 ≤ j → OwnOverflows q i pick j m last w (last_items f st)
  overflows i pick j p (compiled n) m k st next w h running called goes is named installed hidden lacks many = absurd h
  overflows i pick j p terminating m k st next w h running called goes is named installed hidden lacks many = absurd h
  overflows i pick j p end_catch m k st next w h running called goes is named installed hidden lacks many =
      let c = catch_at i p k st w h running in
      overflows_there made runs agree i (without_object p (held_back st)) end_catch 6 2 k (freed_on_the_way st) w 7 (Free (held_back st) ∷ []) _ c (inl (refl, refl, refl)) (ap (λ n. n + 1) h.0.place) h.1.is (c.runs.unwinding ∙ h.1.on) called named overflow
      pick j m next goes is installed hidden lacks many
  overflows i pick j p call_unexpected m k st next w h running called goes is named installed hidden lacks many =
      let c = unexpected_at i p k st w h running in
      overflows_there made runs agree i p call_unexpected 17 4 k st w 2 [] _ c (inr (refl, refl, refl)) h.0.there h.1.is (c.runs.unwinding ∙ h.1.on) called named overflow pick j m next goes is installed hidden lacks many

  again : (i : CleanImage) (pick : ℕ → ℕ) (j : ℕ) (p : Plan) (f : Function) (k : ℤ) (st : State) (v : World) (w : abi.World) → OwnUnwind f p st w k → IsRunning p i w.hart → let last = last_state f st in
      step (code_of p.unit) last ≡ finishes (by_program aborted) v → last_turns f ≤ j → LinearEnds p 3 last [] aborted × RunEnds (program_of i).image pick j w (last_items f st) Aborted
  again i pick j p (compiled n) k st v w h running goes many = absurd h
  again i pick j p terminating k st v w h running goes many = absurd h
  again i pick j p end_catch k st v w h running goes many =
      let c = catch_at i p k st w h running in
      aborts_there_again made runs agree i (without_object p (held_back st)) end_catch 6 2 k (freed_on_the_way st) w 7 (Free (held_back st) ∷ []) _ c (inl (refl, refl, refl)) (ap (λ n. n + 1) h.0.place) h.1.is (c.runs.unwinding ∙ h.1.on) pick j v goes many
  again i pick j p call_unexpected k st v w h running goes many =
      let c = unexpected_at i p k st w h running in
      aborts_there_again made runs agree i p call_unexpected 17 4 k st w 2 [] _ c (inr (refl, refl, refl)) h.0.there h.1.is (c.runs.unwinding ∙ h.1.on) pick j v goes many

  pub own_unwinds_end : OwnUnwindsEnd
  own_unwinds_end = record { exits = exits; calls_the_handler = begins; handlers_overflow = overflows; aborts_without = without; aborts_again = again }
