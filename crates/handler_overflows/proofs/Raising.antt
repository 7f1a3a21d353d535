-- What is thrown again, or raised by a module, and nothing stops; and a module's raise where as many exceptions are live as can be.
use Rattle.std.proofs.Common.{refl, arith, ℕ, ◌+◌, [], ◌∷◌, length}
use Rattle.run_items.specs.declared.item.Item.TheVariants.{Foreign}
use Rattle.eh_run.specs.Program.{program_of}
use Rattle.region_forms.specs.Form.{rethrow}
use Rattle.region_forms.specs.World.{exception_at}
use Rattle.linear_forms.specs.Linear.{plain}
use Rattle.linear_forms.specs.Activation.{State}
use Rattle.machine_forms.specs.LinearCode.{linear_code}
use Rattle.machine_pieces.specs.Laws.{CallsAreTurns}
use Rattle.machine_stubs.specs.Calls.{CallsAreMade}
use Rattle.machine_stubs.specs.Terminate.{TerminateRuns}
use Rattle.raise_simulation.specs.Raises.{RaisesAgree}
use Rattle.machine_simulation.specs.Plan.{shape}
use Rattle.machine_simulation.proofs.Matching.{stands_by}
use Rattle.machine_simulation.specs.Objects.{with_object}
use Rattle.stack_bounds.specs.Overflow.{FunctionsOverflow}
use Rattle.raise_ends.specs.Full.{refused_state}
use Rattle.raise_ends.specs.Modules.{raising_state}
use Rattle.raise_ends.specs.Rethrows.{entering, rethrown_state}
use Rattle.raise_ends.proofs.Comes.{any_wish, picked_wish}
use Rattle.raise_ends.proofs.Rethrows.{rethrow_sends}
use Rattle.raise_ends.proofs.Modules.{raise_sends}
use Rattle.raise_ends.proofs.Full.{full_sends}
use Rattle.handler_overflows.proofs.Above.{module_leaves, page_free}
use Rattle.handler_overflows.specs.Modules.{ModulesOverflow}
use Rattle.handler_overflows.specs.Rethrows.{RethrowsOverflow}
use Rattle.handler_overflows.proofs.Called.{sends_overflow}

pub rethrows_overflow : CallsAreTurns → CallsAreMade → TerminateRuns → RaisesAgree → FunctionsOverflow → RethrowsOverflow
rethrows_overflow turns made runs agree over i pick k p n m x others st w h running at quiet used hidden lacks many =
    let waiting : State = rethrown_state x st in
    let all = rethrow_sends turns agree i p n m x others st w h running at quiet used hidden in (
      all.0,
      sends_overflow made runs over (program_of i).image pick k p n m st.top.frame st.frames (st.top ∷ st.frames) waiting.world w h.back p.hidden (length (linear_code (shape p n) (plain rethrow)))
          (entering (exception_at st.world x.number) x.number) any_wish all.1 tt
          (omega (arith, page_free p n st w h.back (plain rethrow) (stands_by p n st w h at.runs) at.there refl, hidden)) lacks.looks (omega (arith, lacks.lacks)) many,
    )

pub modules_overflow : CallsAreTurns → CallsAreMade → TerminateRuns → RaisesAgree → FunctionsOverflow → ModulesOverflow
modules_overflow turns made runs agree over = record {
  nothing_stops = λ i pick j p n m k token left st w h running at free lost quiet installed hidden lacks many.
      let e : ℕ = st.world.last_number + 1 in
      let waiting : State = raising_state k token left st in
      let all = raise_sends turns agree i pick p n m k token left st w h running at free lost quiet installed hidden in (
        all.0,
        sends_overflow made runs over (program_of i).image pick j (with_object p e all.1) n m st.top.frame st.frames (st.top ∷ st.frames) waiting.world w h.back p.hidden (length (linear_code (shape p n) at.operation))
            (Foreign e k token ∷ []) (picked_wish pick) all.3 refl
            (omega (arith, page_free p n st w h.back at.operation (stands_by p n st w h at.runs) at.there (module_leaves i p n k token left st at), hidden)) lacks.looks (omega (arith, lacks.lacks)) many,
      );
  full = λ i pick j p n m k token left st w h at full quiet installed hidden lacks many.
      let waiting : State = refused_state k left st in
      let all = full_sends turns i p n m k token left st w h at full quiet installed hidden in (
        all.0,
        sends_overflow made runs over (program_of i).image pick j p n m st.top.frame st.frames (st.top ∷ st.frames) waiting.world w h.back p.hidden (length (linear_code (shape p n) at.operation)) [] any_wish all.1 tt
            (omega (arith, page_free p n st w h.back at.operation (stands_by p n st w h at.runs) at.there (module_leaves i p n k token left st at), hidden)) lacks.looks (omega (arith, lacks.lacks)) many,
      );
}
