-- Where a specification of a compiled function has stopped an exception, in a whole run.
use Rattle.std.proofs.Common.{◌≡◌, ◌∙◌, refl, ap, ℕ, ◌&&◌, inr, Bool, true, false, ◌∷◌}
use Rattle.cxa_runtime.specs.World as abi
use Rattle.region_forms.specs.Effect.{entered}
use Rattle.region_forms.specs.Lives.{is_native, may_enter}
use Rattle.region_forms.specs.Unexpected.{kept_with}
use Rattle.region_forms.specs.World.{exception_in_slot, exception_at, with_slot}
use Rattle.linear_forms.specs.Linear.{unexpected}
use Rattle.linear_forms.specs.Stub.{call_unexpected}
use Rattle.linear_forms.specs.Activation.{State, Code, goes_to, finishes, not_defined, at, on, next_if, function_word, stub_frame}
use Rattle.linear_forms.specs.Machine.{step}
use Rattle.linear_forms.specs.Operation.{number_of}
use Rattle.linear_forms.specs.Pace.{pays, pays_at, one_if}
use Rattle.machine_simulation.specs.Plan.{Plan}
use Rattle.machine_exceptions.specs.Unexpected.{in_unexpected}
use Rattle.step_law.specs.Facts.{code_for}
use Rattle.step_law.specs.Rows.{Run, IsAt, FollowsIn}
use Rattle.step_law.specs.Unexpected.{UnexpectedBreaks}
use Rattle.step_law.proofs.At.{fetches, step_acts}
use Rattle.step_law.proofs.Several.{breaks_behind}

module _ (x : Run) (q : Plan) (before n o s : ℕ) (st : State) (w : abi.World) (here : IsAt x q before n (unexpected o s) st w) where
  abbrev code : Code
  code = code_for x.program

  -- call_unexpected is called
  pub calls_unexpected : step code st ≡ goes_to (in_unexpected n o s st)
  calls_unexpected =
      step_acts x q before n (unexpected o s) st w here
      ∙ ap (λ f. at call_unexpected 0 (stub_frame (st.top.frame.slots o) (st.top.frame.slots s) (function_word (number_of f))) (st.top ∷ st.frames) st.world) here.runs

  pub unpaid_first : one_if (pays_at code st) ≡ 0
  unpaid_first = ap one_if (ap pays (fetches x q before n (unexpected o s) st w here))

  breaks : (b : Bool) → (is_native (exception_at st.world (exception_in_slot st.top.frame o)) && may_enter st.world (exception_in_slot st.top.frame o)) ≡ b → b ≡ false → FollowsIn x before st w
  breaks true is none = absurd (cc none)
  breaks false is none =
      let e = exception_in_slot st.top.frame o in
      let middle = in_unexpected n o s st in
      let stops : step code middle ≡ finishes not_defined st.world =
      ap (λ b. next_if b st.world (on middle.top (with_slot 3 (function_word (kept_with (exception_at st.world e)).unexpected_handler) middle.top.frame) (st.top ∷ st.frames) (entered e st.world))) is in
      inr (inr (inr (breaks_behind x st middle w not_defined st.world calls_unexpected stops unpaid_first refl (λ why by. cc by))))

pub unexpected_breaks : UnexpectedBreaks
unexpected_breaks x q before n o s st w here none = breaks x q before n o s st w here false none refl
