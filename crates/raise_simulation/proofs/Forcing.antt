-- The pad that control comes to next in a forced unwind.
use Rattle.std.proofs.Common.{◌≡◌, ◌∙◌, refl, ap, ℕ, ◌+◌, ◌≤◌, ℤ, pos, Bool, true, false, List, [], ◌∷◌, ◌++◌, length, inl, inr}
use Rattle.std.specs.Prelude.{◌⊎◌, Some}
use Rattle.table_forms.specs.declared.found.Verdict.TheVariants as abi_verdicts
use Rattle.table_forms.specs.Fde.{Fde}
use Rattle.table_forms.specs.Verdict.{forced}
use Rattle.rv64_isa.specs.State.{State}
use Rattle.frame_walk.specs.declared.frame.Frame.{Frame}
use Rattle.raise_core.specs.declared.goal.Goal.TheVariants as goals
use Rattle.raise_core.specs.Asked.{verdict_of}
use Rattle.raise_core.specs.First.{first_in}
use Rattle.region_forms.specs.World.{unwinding, World}
use Rattle.linear_forms.specs.Tables.{Cover, bare, unpadded, padded}
use Rattle.linear_forms.specs.Verdict.{clean, has_cleanup}
use Rattle.linear_forms.specs.Stub.{Function}
use Rattle.linear_forms.specs.Activation.{Code, Activation, Next, sense}
use Rattle.linear_forms.specs.Unwinding.{terminated_in}
use Rattle.linear_forms.specs.Forced.{forced_by, forced_at, forced_above}
use Rattle.raise_simulation.specs.OpenCalls.{CallsStand, outward, frames_of}
use Rattle.raise_simulation.specs.Tables.{said}
use Rattle.raise_simulation.specs.Verdicts.{in_words, told_of, forced_verdict, forced_by_table, cover_of}
use Rattle.raise_simulation.specs.Opens.{Open, activations, calls, TablesAgree}
use Rattle.raise_simulation.specs.Raises.{IsTerminated}
use Rattle.raise_simulation.proofs.Outward.{IsFrame, outward_frame}
use Rattle.raise_simulation.proofs.Asking.{verdict_is, stops_here, passes_here}
use Rattle.raise_simulation.proofs.Landing.{Any, Comes, comes_here, comes_behind}

module _ (code : Code) (at : Function → ℕ → ℕ) (fdes : List Fde) (s : State) (tail : List Activation) (rest : List Frame) (n : ℤ) (w : World) where
  -- the phase stops at a frame out of which nothing may come
  pub record Stopped (next : Next) (f : Frame) (sp : ℕ) (opens : List Open) : Type 0 where
    pub terminated : IsTerminated w opens tail next
    pub frame : Frame
    pub first : first_in s fdes forced goals.Cleanup (frames_of f sp (calls opens) ++ rest) ≡ Some frame
    pub says : verdict_of s fdes forced frame ≡ abi_verdicts.Terminate

  -- or at none of these
  pub record Passed (next : Next) (f : Frame) (sp : ℕ) (opens : List Open) : Type 0 where
    pub goes : next ≡ forced_above code n tail w
    pub first : first_in s fdes forced goals.Cleanup (frames_of f sp (calls opens) ++ rest) ≡ first_in s fdes forced goals.Cleanup rest

  abbrev pub Forced : Next → Frame → ℕ → List Open → Type 0
  Forced next f sp opens = Comes code at fdes forced s tail rest goals.Cleanup Any (unwinding n) w next f sp opens ⊎ Stopped next f sp opens ⊎ Passed next f sp opens

  stopped_here : (next : Next) (f : Frame) (sp : ℕ) (o : Open) (os : List Open) → verdict_of s fdes forced f ≡ abi_verdicts.Terminate →
      next ≡ terminated_in o.activation.function o.activation.frame (activations os ++ tail) w → Stopped next f sp (o ∷ os)
  stopped_here next f sp o os says is = record {
    terminated = record { inner = []; barring = o.activation; outer = activations os ++ tail; split = refl; terminates = is };
    frame = f;
    first = stops_here s fdes forced goals.Cleanup f (frames_of (outward f sp o.call) (sp + o.call.size) (calls os) ++ rest) abi_verdicts.Terminate says refl;
    says = says;
  }

  behind : (next : Next) (f : Frame) (sp : ℕ) (o : Open) (os : List Open) → length o.call.saved ≤ 10 → verdict_of s fdes forced f ≡ abi_verdicts.Nothing →
      Forced next (outward f sp o.call) (sp + o.call.size) os → Forced next f sp (o ∷ os)
  behind next f sp o os few says (inl comes) = inl (comes_behind code at fdes forced s tail rest goals.Cleanup Any (unwinding n) w next f sp o os abi_verdicts.Nothing few says refl comes)
  behind next f sp o os few says (inr (inl stopped)) =
      let t = stopped.terminated in
      inr (inl (record {
        terminated = record { inner = o.activation ∷ t.inner; barring = t.barring; outer = t.outer; split = ap (λ l. o.activation ∷ l) t.split; terminates = t.terminates };
        frame = stopped.frame;
        first = passes_here s fdes forced goals.Cleanup f (frames_of (outward f sp o.call) (sp + o.call.size) (calls os) ++ rest) abi_verdicts.Nothing says refl ∙ stopped.first;
        says = stopped.says;
      }))
  behind next f sp o os few says (inr (inr passed)) =
      inr (inr (record {
        goes = passed.goes;
        first = passes_here s fdes forced goals.Cleanup f (frames_of (outward f sp o.call) (sp + o.call.size) (calls os) ++ rest) abi_verdicts.Nothing says refl ∙ passed.first;
      }))

  past : (f : Frame) (sp : ℕ) (o : Open) (os : List Open) → IsFrame f sp → length o.call.saved ≤ 10 → said s fdes forced f.pc ≡ told_of (at o.activation.function) (cover_of code o.activation) (forced_by_table code o.activation) →
      Forced (forced_above code n (activations os ++ tail) w) (outward f sp o.call) (sp + o.call.size) os → Forced (forced_above code n (activations (o ∷ os) ++ tail) w) f sp (o ∷ os)
  past f sp o os h few agree next = by (cover_of code a) refl
    where
      a : Activation
      a = o.activation

      v_is : (c : Cover) → cover_of code a ≡ c → verdict_of s fdes forced f ≡ told_of (at a.function) c (forced_by_table code a)
      v_is c is = verdict_is s fdes forced f h.plain ∙ agree ∙ ap (λ x. told_of (at a.function) x (forced_by_table code a)) is

      by_test : (p : ℕ) (chain : List ℤ) (b : Bool) → cover_of code a ≡ padded p chain → verdict_of s fdes forced f ≡ in_words (at a.function p) (forced_verdict b) →
          Forced (forced_by code b p n a.function a.frame (activations os ++ tail) w (forced_above code n (activations os ++ tail) w)) f sp (o ∷ os)
      by_test p chain true covers says =
          inl (comes_here code at fdes forced s tail rest goals.Cleanup Any (unwinding n) w _ f sp o os p chain clean (pos 0) h covers says refl refl tt refl)
      by_test p chain false covers says = behind _ f sp o os few says next

      by : (c : Cover) → cover_of code a ≡ c → Forced (forced_at code c n a.function a.frame (activations os ++ tail) w (forced_above code n (activations os ++ tail) w)) f sp (o ∷ os)
      by bare is = inr (inl (stopped_here _ f sp o os (v_is bare is) refl))
      by unpadded is = behind _ f sp o os few (v_is unpadded is) next
      by (padded p chain) is = by_test p chain (has_cleanup (sense code a.function) chain) is (v_is (padded p chain) is)

  pub forces : (opens : List Open) (f : Frame) (sp : ℕ) → IsFrame f sp → CallsStand s fdes f.pc sp (calls opens) → TablesAgree code at (forced_by_table code) (said s fdes forced) f.pc opens →
      Forced (forced_above code n (activations opens ++ tail) w) f sp opens
  forces [] f sp h stand agree = inr (inr (record { goes = refl; first = refl }))
  forces (o ∷ os) f sp h stand agree =
      past f sp o os h stand.0.few agree.0 (forces os (outward f sp o.call) (sp + o.call.size) (outward_frame s fdes f.pc f sp o.call stand.0) stand.1 agree.1)
