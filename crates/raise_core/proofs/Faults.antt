-- A raise and a forced unwind fault only where the stack can't be walked to its end.
use Rattle.std.proofs.Common.{◌≡◌, ◌≢◌, true, false, List, Option, Some, None, refl, ap, sym, subst, ◌∙◌}
use Rattle.std.specs.Prelude.{option_and_then, option_map}
use Rattle.table_forms.specs.declared.found.Verdict.{Verdict}
use Rattle.table_forms.specs.declared.found.Verdict.TheVariants as verdicts
use Rattle.table_forms.specs.Fde.{Fde}
use Rattle.table_forms.specs.Verdict.{Thrown, forced, verdict}
use Rattle.rv64_isa.specs.State.{State}
use Rattle.rv64_isa.specs.declared.step.FaultKind.{FaultKind}
use Rattle.frame_read.proofs.Members.{find_in, find_none, all_in}
use Rattle.frame_walk.specs.declared.frame.Frame.{Frame}
use Rattle.frame_walk.specs.Outward.{tables_of, with_row}
use Rattle.raise_core.specs.declared.raised.Raised.TheVariants as answers
use Rattle.raise_core.specs.declared.asked.Target.{Target}
use Rattle.raise_core.specs.declared.goal.Goal.TheVariants as goals
use Rattle.raise_core.specs.Stack.{Ending, end_of_stack, broken, frames}
use Rattle.raise_core.specs.Asked.{table_of, fde_of, verdict_of, as_target, target_at}
use Rattle.raise_core.specs.First.{is_target, has_pad, is_unpassable, stops, first_of}
use Rattle.raise_core.specs.Raise.{ended, enters, entered_by, entered, towards, raised_to, raise, at_cfa, stops_at, forced_to, forced_unwind}

by_ending : (s : State) (e : Ending) (kind : FaultKind) → (ended e s).0 ≡ answers.Fault kind → e ≡ broken kind
by_ending s end_of_stack kind is = absurd cc
by_ending s (broken k) kind is = ap broken (same k kind is)
  where
    same : (a b : FaultKind) → answers.Fault a ≡ answers.Fault b → a ≡ b
    same a b e = cc

-- a frame that stops an exception has an FDE
known : (s : State) (fdes : List Fde) (thrown : Thrown) (f : Frame) → verdict_of s fdes thrown f ≢ verdicts.Nothing → (t : Target) × (target_at fdes f ≡ Some t)
unfolding verdict_of verdict target_at
known s fdes thrown f stops_it = by (fde_of fdes f) refl stops_it
  where
    by : (o : Option Fde) → fde_of fdes f ≡ o → verdict (option_and_then (table_of (tables_of s)) o) f.pc f.signal thrown ≢ verdicts.Nothing → (t : Target) × (option_map (as_target f) (option_map (with_row f) o) ≡ Some t)
    by None is some = absurd (some refl)
    by (Some fde) is some = (as_target f (with_row f fde), refl)

-- where a frame has a pad, the first one with a pad is entered
by_first : (s : State) (fdes : List Fde) (thrown : Thrown) (target : Target) (f : Frame) (kind : FaultKind) → first_of s fdes thrown goals.Target ≡ Some f → has_pad (verdict_of s fdes thrown f) ≡ true →
    (entered_by s fdes thrown target (first_of s fdes thrown goals.Pad)).0 ≢ answers.Fault kind
by_first s fdes thrown target f kind found pad = by (first_of s fdes thrown goals.Pad) refl
  where
    entering : (g : Frame) (v : Verdict) → has_pad v ≡ true → (enters s g target v).0 ≢ answers.Fault kind
    entering g (verdicts.Cleanup p) with_pad = λ is. absurd cc
    entering g (verdicts.Handler p n) with_pad = λ is. absurd cc
    entering g (verdicts.Spec p n) with_pad = λ is. absurd cc
    entering g verdicts.Nothing with_pad = λ is. absurd (let wrong : false ≡ true = with_pad in cc)
    entering g verdicts.Terminate with_pad = λ is. absurd (let wrong : false ≡ true = with_pad in cc)

    by : (o : Option Frame) → first_of s fdes thrown goals.Pad ≡ o → (entered_by s fdes thrown target o).0 ≢ answers.Fault kind
    by None none = λ is.
        let here = find_in (λ g. stops fdes goals.Target g (verdict_of s fdes thrown g)) (frames s fdes).frames f found in
        let wrong : true ≡ false = sym pad ∙ all_in (λ g. has_pad (verdict_of s fdes thrown g) ≡ false) (frames s fdes).frames (find_none (λ g. has_pad (verdict_of s fdes thrown g)) (frames s fdes).frames none) f here.0 in absurd cc
    by (Some g) some = entering g (verdict_of s fdes thrown g) (find_in (λ h. stops fdes goals.Pad h (verdict_of s fdes thrown h)) (frames s fdes).frames g some).1

headed : (s : State) (fdes : List Fde) (thrown : Thrown) (f : Frame) (kind : FaultKind) → first_of s fdes thrown goals.Target ≡ Some f → has_pad (verdict_of s fdes thrown f) ≡ true →
    verdict_of s fdes thrown f ≢ verdicts.Nothing → (entered s fdes thrown (target_at fdes f)).0 ≢ answers.Fault kind
headed s fdes thrown f kind found pad some =
    let t = known s fdes thrown f some in
    subst (λ o. (entered s fdes thrown o).0 ≢ answers.Fault kind) (sym t.1) (by_first s fdes thrown t.0 f kind found pad)

by_verdict : (s : State) (fdes : List Fde) (thrown : Thrown) (f : Frame) (kind : FaultKind) (v : Verdict) → first_of s fdes thrown goals.Target ≡ Some f → verdict_of s fdes thrown f ≡ v → is_target v ≡ true →
    (towards s fdes thrown f v).0 ≢ answers.Fault kind
by_verdict s fdes thrown f kind verdicts.Terminate found is target = λ e. absurd cc
by_verdict s fdes thrown f kind (verdicts.Handler pad n) found is target = headed s fdes thrown f kind found (ap has_pad is) (λ e. let wrong : verdicts.Handler pad n ≡ verdicts.Nothing = sym is ∙ e in cc)
by_verdict s fdes thrown f kind (verdicts.Spec pad n) found is target = headed s fdes thrown f kind found (ap has_pad is) (λ e. let wrong : verdicts.Spec pad n ≡ verdicts.Nothing = sym is ∙ e in cc)
by_verdict s fdes thrown f kind (verdicts.Cleanup pad) found is target = λ e. absurd (let wrong : false ≡ true = target in cc)
by_verdict s fdes thrown f kind verdicts.Nothing found is target = λ e. absurd (let wrong : false ≡ true = target in cc)

pub raise_faults : (s : State) (fdes : List Fde) (thrown : Thrown) (kind : FaultKind) → (raise fdes thrown s).0 ≡ answers.Fault kind →
    (first_of s fdes thrown goals.Target ≡ None) × ((frames s fdes).ending ≡ broken kind)
unfolding raise
raise_faults s fdes thrown kind is = by (first_of s fdes thrown goals.Target) refl is
  where
    by : (o : Option Frame) → first_of s fdes thrown goals.Target ≡ o → (raised_to s fdes thrown o).0 ≡ answers.Fault kind → (o ≡ None) × ((frames s fdes).ending ≡ broken kind)
    by None found is = (refl, by_ending s (frames s fdes).ending kind is)
    by (Some f) found is =
        absurd (by_verdict s fdes thrown f kind (verdict_of s fdes thrown f) found refl (find_in (λ g. stops fdes goals.Target g (verdict_of s fdes thrown g)) (frames s fdes).frames f found).1 is)

pub forced_faults : (s : State) (fdes : List Fde) (kind : FaultKind) → (forced_unwind fdes s).0 ≡ answers.Fault kind →
    (first_of s fdes forced goals.Cleanup ≡ None) × ((frames s fdes).ending ≡ broken kind)
unfolding forced_unwind
forced_faults s fdes kind is = by (first_of s fdes forced goals.Cleanup) refl is
  where
    stopping : (f : Frame) (v : Verdict) → is_unpassable v ≡ true → (stops_at s f (at_cfa 0) v).0 ≢ answers.Fault kind
    stopping f (verdicts.Cleanup pad) stopped = λ e. absurd cc
    stopping f verdicts.Terminate stopped = λ e. absurd cc
    stopping f (verdicts.Handler pad n) stopped = λ e. absurd cc
    stopping f (verdicts.Spec pad n) stopped = λ e. absurd cc
    stopping f verdicts.Nothing stopped = λ e. absurd (let wrong : false ≡ true = stopped in cc)

    by : (o : Option Frame) → first_of s fdes forced goals.Cleanup ≡ o → (forced_to s fdes o).0 ≡ answers.Fault kind → (o ≡ None) × ((frames s fdes).ending ≡ broken kind)
    by None found is = (refl, by_ending s (frames s fdes).ending kind is)
    by (Some f) found is = absurd (stopping f (verdict_of s fdes forced f) (find_in (λ g. stops fdes goals.Cleanup g (verdict_of s fdes forced g)) (frames s fdes).frames f found).1 is)
