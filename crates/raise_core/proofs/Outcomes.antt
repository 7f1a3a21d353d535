-- What a phase does, by the frame that a search has found.
use Rattle.std.proofs.Common.{◌≡◌, ℕ, true, false, List, Option, Some, None, refl, ap, sym, ◌∙◌}
use Rattle.table_forms.specs.declared.found.Verdict.{Verdict}
use Rattle.table_forms.specs.declared.found.Verdict.TheVariants as verdicts
use Rattle.table_forms.specs.Fde.{Fde}
use Rattle.table_forms.specs.Verdict.{Thrown, forced}
use Rattle.rv64_isa.specs.State.{State}
use Rattle.frame_read.proofs.Members.{find_in}
use Rattle.raise_core.specs.declared.asked.Target.{Target}
use Rattle.raise_core.specs.declared.found.Found.{Found}
use Rattle.raise_core.specs.declared.found.Found.TheVariants as founds
use Rattle.raise_core.specs.declared.found.Stop.{Stop}
use Rattle.raise_core.specs.declared.goal.Goal.TheVariants as goals
use Rattle.raise_core.specs.Stack.{end_of_stack, broken, frames}
use Rattle.raise_core.specs.Asked.{verdict_of, target_at}
use Rattle.raise_core.specs.First.{is_target, has_pad, is_with_cfa, stops}
use Rattle.raise_core.specs.Finds.{FindsFrame, IsFirstPad, KeepsFirstPad, landing_of}
use Rattle.raise_core.specs.Landings.{lands, cleaned}
use Rattle.raise_core.specs.Raise.{Outcome, lost, ended, enters, entered, entered_by, towards, raised_to, raise, at_cfa, stops_at, goes_on, resumed_at, resumed_to, resume, forced_to, forced_unwind}

-- phase two towards a frame with a pad: what the search has kept is the first frame with a pad
headed : (s : State) (fdes : List Fde) (thrown : Thrown) (stop : Stop) → stop.target ≡ target_at fdes stop.frame → IsFirstPad s fdes thrown (landing_of stop) →
    entered s fdes thrown (target_at fdes stop.frame) ≡ lands s (landing_of stop) stop.target
headed s fdes thrown stop target first = ap (entered s fdes thrown) (sym target) ∙ by stop.target
  where
    by : (o : Option Target) → entered s fdes thrown o ≡ lands s (landing_of stop) o
    by None = refl
    by (Some target) = ap (entered_by s fdes thrown target) first.0 ∙ ap (λ v. enters s (landing_of stop).frame target v) (sym first.1)

-- a raise
abbrev pub raised_as : State → Found → Outcome
raised_as s (founds.At stop) = cleaned s stop stop.verdict
raised_as s founds.EndOfStack = ended end_of_stack s
raised_as s (founds.Broken kind) = ended (broken kind) s

-- the target has a pad, or ends the program
by_target : (s : State) (fdes : List Fde) (thrown : Thrown) (stop : Stop) (v : Verdict) → stop.target ≡ target_at fdes stop.frame → is_target v ≡ true →
    (has_pad v ≡ true → IsFirstPad s fdes thrown (landing_of stop)) → towards s fdes thrown stop.frame v ≡ cleaned s stop v
by_target s fdes thrown stop verdicts.Terminate target is first = refl
by_target s fdes thrown stop (verdicts.Handler pad n) target is first = headed s fdes thrown stop target (first refl)
by_target s fdes thrown stop (verdicts.Spec pad n) target is first = headed s fdes thrown stop target (first refl)
by_target s fdes thrown stop (verdicts.Cleanup pad) target is first = absurd (let wrong : false ≡ true = is in cc)
by_target s fdes thrown stop verdicts.Nothing target is first = absurd (let wrong : false ≡ true = is in cc)

pub raises_as : (s : State) (fdes : List Fde) (thrown : Thrown) (found : Found) → FindsFrame s fdes thrown goals.Target found → KeepsFirstPad s fdes thrown found →
    raise fdes thrown s ≡ raised_as s found
unfolding raise
raises_as s fdes thrown (founds.At stop) finds keeps =
    ap (raised_to s fdes thrown) finds.0 ∙ ap (towards s fdes thrown stop.frame) (sym finds.1) ∙
    by_target s fdes thrown stop stop.verdict finds.2
    (ap is_target finds.1 ∙ (find_in (λ g. stops fdes goals.Target g (verdict_of s fdes thrown g)) (frames s fdes).frames stop.frame finds.0).1) keeps
raises_as s fdes thrown founds.EndOfStack finds keeps = ap (raised_to s fdes thrown) finds.0 ∙ ap (λ e. ended e s) finds.1
raises_as s fdes thrown (founds.Broken kind) finds keeps = ap (raised_to s fdes thrown) finds.0 ∙ ap (λ e. ended e s) finds.1

-- a raise that goes on
abbrev pub resumed_as : State → List Fde → ℕ → Found → Outcome
resumed_as s fdes cfa (founds.At stop) = goes_on s stop.frame (is_with_cfa cfa stop.target) (at_cfa cfa) stop.verdict
resumed_as s fdes cfa founds.EndOfStack = lost s
resumed_as s fdes cfa (founds.Broken kind) = lost s

pub resumes_as : (s : State) (fdes : List Fde) (thrown : Thrown) (cfa : ℕ) (found : Found) → FindsFrame s fdes thrown (goals.UpTo cfa) found → resume fdes thrown cfa s ≡ resumed_as s fdes cfa found
unfolding resume
resumes_as s fdes thrown cfa (founds.At stop) finds =
    ap (resumed_to s fdes thrown cfa) finds.0 ∙ ap (resumed_at s fdes cfa stop.frame) (sym finds.1) ∙
    ap (λ o. goes_on s stop.frame (is_with_cfa cfa o) (at_cfa cfa) stop.verdict) (sym finds.2)
resumes_as s fdes thrown cfa founds.EndOfStack finds = ap (resumed_to s fdes thrown cfa) finds.0
resumes_as s fdes thrown cfa (founds.Broken kind) finds = ap (resumed_to s fdes thrown cfa) finds.0

-- a forced unwind
abbrev pub forced_as : State → Found → Outcome
forced_as s (founds.At stop) = stops_at s stop.frame (at_cfa 0) stop.verdict
forced_as s founds.EndOfStack = ended end_of_stack s
forced_as s (founds.Broken kind) = ended (broken kind) s

pub forces_as : (s : State) (fdes : List Fde) (found : Found) → FindsFrame s fdes forced goals.Cleanup found → forced_unwind fdes s ≡ forced_as s found
unfolding forced_unwind
forces_as s fdes (founds.At stop) finds = ap (forced_to s fdes) finds.0 ∙ ap (stops_at s stop.frame (at_cfa 0)) (sym finds.1)
forces_as s fdes founds.EndOfStack finds = ap (forced_to s fdes) finds.0 ∙ ap (λ e. ended e s) finds.1
forces_as s fdes (founds.Broken kind) finds = ap (forced_to s fdes) finds.0 ∙ ap (λ e. ended e s) finds.1
