-- Where a raise goes on, and a forced unwind.
use Rattle.std.proofs.Common.{◌≡◌, ◌∙◌, refl, ap, sym, subst, ℕ, ◌+◌, ℤ, pos, negsuc, Bool, true, false, List, [], ◌++◌, length, inl, inr}
use Rattle.std.specs.Prelude.{◌⊎◌, Option, Some, None}
use Rattle.table_forms.specs.declared.found.Verdict.TheVariants as abi_verdicts
use Rattle.table_forms.specs.Fde.{Fde}
use Rattle.table_forms.specs.Verdict.{Thrown, forced}
use Rattle.rv64_isa.specs.State.{State}
use Rattle.frame_walk.specs.declared.frame.Frame.{Frame}
use Rattle.raise_core.specs.declared.raised.Raised.TheVariants as answers
use Rattle.raise_core.specs.declared.goal.Goal.TheVariants as goals
use Rattle.raise_core.specs.Stack.{first_frame}
use Rattle.raise_core.specs.Asked.{verdict_of}
use Rattle.raise_core.specs.First.{first_in, first_of, is_at}
use Rattle.raise_core.specs.Raise.{raise, resume, forced_unwind, installs, installed, at_cfa, goes_on, stops_at, resumed_at, resumed_to, forced_to, ended}
use Rattle.meaning_forms.specs.Outcome.{exit}
use Rattle.region_forms.specs.World.{flying, unwinding, World, type_at}
use Rattle.linear_forms.specs.Verdict.{Verdict, target, no_way, clean, nothing_here}
use Rattle.linear_forms.specs.Stub.{Function}
use Rattle.linear_forms.specs.Activation.{Code, Activation, finishes, by_program, fault}
use Rattle.linear_forms.specs.Search.{found_above}
use Rattle.linear_forms.specs.Unwinding.{unwound_above}
use Rattle.linear_forms.specs.Forced.{forced_at, forced_above}
use Rattle.machine_pieces.specs.Keeping.{saved_of}
use Rattle.raise_simulation.specs.OpenCalls.{regs_at, outer_ip, outer_sp, frames_of, frame_behind}
use Rattle.raise_simulation.specs.Tables.{said}
use Rattle.raise_simulation.specs.Verdicts.{in_words, judged_by, forced_by_table}
use Rattle.raise_simulation.specs.Opens.{Open, Judge, activations, calls, IsFirst, IsBarred, StackStands, cfa_with, table_with}
use Rattle.raise_simulation.specs.Raises.{Lands, IsTerminated, RaisesAgree}
use Rattle.raise_simulation.specs.Resumes.{IsTarget, ResumesAgree, ForcedAgree}
use Rattle.raise_simulation.proofs.Walking.{first_is}
use Rattle.raise_simulation.proofs.Asking.{stops_here, passes_here}
use Rattle.raise_simulation.proofs.Keeping.{first_saved}
use Rattle.raise_simulation.proofs.Landing.{IsGiven, enters_words, in_frame}
use Rattle.raise_simulation.proofs.Resuming.{Resumed, resumes}
use Rattle.raise_simulation.proofs.Forcing.{Forced, forces}
use Rattle.raise_simulation.proofs.Agreeing.{Walked, walked_all, rest_of, first_is_in, last_says, ends_first, barred_rest, found, lost}

pub raises_agree : RaisesAgree
raises_agree = record {
  found = λ code at fdes thrown t e d w s sp opens tail st is.
      subst (λ u. StackStands code at (λ a. judged_by code a u) fdes thrown s sp opens tail → (found_above code u (activations opens ++ tail) ≡ Some d →
      Lands code at (flying e d) w s sp opens tail (cfa_with d (length tail) sp opens) (table_with fdes d (length tail) s.pc opens) (unwound_above code d e (activations opens ++ tail) w) (raise fdes thrown s))) is
      (λ st. found code at fdes thrown e d w s sp opens tail st) st;
  lost = lost;
}

-- ---- phase two of a raise that goes on

resume_goes : (fdes : List Fde) (thrown : Thrown) (cfa : ℕ) (s : State) (g : Frame) → first_of s fdes thrown (goals.UpTo cfa) ≡ Some g → resume fdes thrown cfa s ≡ resumed_at s fdes cfa g (verdict_of s fdes thrown g)
unfolding resume
resume_goes fdes thrown cfa s g is = ap (resumed_to s fdes thrown cfa) is

goes_on_words : (s : State) (g : Frame) (b : Bool) (cfa pad : ℕ) (v : Verdict) (k : ℤ) → IsGiven v k → (v ≡ clean → b ≡ false) → goes_on s g b (at_cfa cfa) (in_words pad v) ≡ installs s g (at_cfa cfa) pad k
goes_on_words s g true cfa pad (target (pos n)) k given before = enters_words s g (at_cfa cfa) pad (target (pos n)) k given
goes_on_words s g false cfa pad (target (pos n)) k given before = enters_words s g (at_cfa cfa) pad (target (pos n)) k given
goes_on_words s g true cfa pad (target (negsuc n)) k given before = enters_words s g (at_cfa cfa) pad (target (negsuc n)) k given
goes_on_words s g false cfa pad (target (negsuc n)) k given before = enters_words s g (at_cfa cfa) pad (target (negsuc n)) k given
goes_on_words s g b cfa pad no_way k given before = absurd given
goes_on_words s g true cfa pad clean k given before = absurd (let wrong : true ≡ false = before refl in cc wrong)
goes_on_words s g false cfa pad clean k given before = enters_words s g (at_cfa cfa) pad clean k given
goes_on_words s g b cfa pad nothing_here k given before = absurd given

goes_on_barred : (s : State) (g : Frame) (b : Bool) (cfa : ℕ) → goes_on s g b (at_cfa cfa) abi_verdicts.Terminate ≡ (answers.Terminate, s)
goes_on_barred s g true cfa = refl
goes_on_barred s g false cfa = refl

abbrev Outcomes : (code : Code) (at : Function → ℕ → ℕ) (fdes : List Fde) (thrown : Thrown) (e d cfa : ℕ) (w : World) (s : State) (sp : ℕ) (opens : List Open) (tail : List Activation) → Type 0
Outcomes code at fdes thrown e d cfa w s sp opens tail =
    Lands code at (flying e d) w s sp opens tail cfa 0 (unwound_above code d e (activations opens ++ tail) w) (resume fdes thrown cfa s)
    ⊎ (IsTerminated w opens tail (unwound_above code d e (activations opens ++ tail) w) × (resume fdes thrown cfa s ≡ (answers.Terminate, s))) ⊎ (unwound_above code d e (activations opens ++ tail) w ≡ finishes fault w)

as_outcomes : (code : Code) (at : Function → ℕ → ℕ) (fdes : List Fde) (thrown : Thrown) (e d cfa : ℕ) (w : World) (s : State) (sp : ℕ) (opens : List Open) (tail : List Activation) →
    (st : StackStands code at (λ a. judged_by code a (type_at w e)) fdes thrown s sp opens tail) (k : Walked code at (λ a. judged_by code a (type_at w e)) fdes thrown s sp opens tail) →
    Resumed code at fdes thrown s tail (rest_of code at (λ a. judged_by code a (type_at w e)) fdes thrown s sp opens tail k) e cfa w d (unwound_above code d e (activations opens ++ tail) w) (first_frame s) sp opens →
    Outcomes code at fdes thrown e d cfa w s sp opens tail
as_outcomes code at fdes thrown e d cfa w s sp opens tail st k (inl c) =
    let pad : ℕ = at c.landing.activation.function c.pad in
    inl (record {
      inner = c.inner;
      landing = c.landing;
      outer = c.outer;
      split = c.split;
      pad = c.pad;
      chain = c.chain;
      covers = c.covers;
      selector = c.selector;
      enters = c.enters;
      after = installed c.frame pad s;
      installs = resume_goes fdes thrown cfa s c.frame (first_is_in code at (λ a. judged_by code a (type_at w e)) fdes thrown s sp opens tail k (goals.UpTo cfa) (Some c.frame) c.first)
          ∙ ap (resumed_at s fdes cfa c.frame) c.says ∙ goes_on_words s c.frame (is_at fdes cfa c.frame) cfa pad c.verdict c.selector c.given c.ready;
      in_frame = in_frame s c.frame pad (outer_sp sp (calls c.inner)) (regs_at (calls c.inner) (saved_of s)) st.registers c.is_frame (c.saved ∙ ap (regs_at (calls c.inner)) (first_saved s));
    })
as_outcomes code at fdes thrown e d cfa w s sp opens tail st k (inr (inl b)) =
    inr (inl (
      b.terminated,
      resume_goes fdes thrown cfa s b.frame (first_is_in code at (λ a. judged_by code a (type_at w e)) fdes thrown s sp opens tail k (goals.UpTo cfa) (Some b.frame) b.first)
          ∙ ap (resumed_at s fdes cfa b.frame) b.says ∙ goes_on_barred s b.frame (is_at fdes cfa b.frame) cfa,
    ))
as_outcomes code at fdes thrown e d cfa w s sp opens tail st k (inr (inr no_way_on)) = inr (inr no_way_on)

resumed : (code : Code) (at : Function → ℕ → ℕ) (fdes : List Fde) (thrown : Thrown) (e d : ℕ) (w : World) (s : State) (sp : ℕ) (opens : List Open) (tail : List Activation) →
    StackStands code at (λ a. judged_by code a (type_at w e)) fdes thrown s sp opens tail → IsTarget code (type_at w e) d (length tail) opens →
    Outcomes code at fdes thrown e d (cfa_with d (length tail) sp opens) w s sp opens tail
resumed code at fdes thrown e d w s sp opens tail st t =
    let judge : Judge = λ a. judged_by code a (type_at w e) in
    let k = walked_all code at judge fdes thrown s sp opens tail st in
    let rest = rest_of code at judge fdes thrown s sp opens tail k in
    let cfa : ℕ = cfa_with d (length tail) sp opens in
    let walk = subst (λ os. StackStands code at judge fdes thrown s sp os tail → cfa ≡ cfa_with (length t.outer + length tail) (length tail) sp os →
    Resumed code at fdes thrown s tail rest e cfa w (length t.outer + length tail) (unwound_above code (length t.outer + length tail) e (activations os ++ tail) w) (first_frame s) sp os) (sym t.split)
    (λ st to. resumes code at fdes thrown s tail rest e cfa w t.inner t.stopping t.outer t.pad t.chain t.selector t.covers t.stops (first_frame s) sp (first_is s sp st.pointer) st.stand st.agree to) in
    let there : cfa ≡ cfa_with (length t.outer + length tail) (length tail) sp opens = ap (λ n. cfa_with n (length tail) sp opens) (sym t.depth) in
    as_outcomes code at fdes thrown e d cfa w s sp opens tail st k
    (subst (λ n. Resumed code at fdes thrown s tail rest e cfa w n (unwound_above code n e (activations opens ++ tail) w) (first_frame s) sp opens) t.depth (walk st there))

pub resumes_agree : ResumesAgree
resumes_agree code at fdes thrown t e d w s sp opens tail st is stopping =
    subst (λ u. StackStands code at (λ a. judged_by code a u) fdes thrown s sp opens tail → IsTarget code u d (length tail) opens → Outcomes code at fdes thrown e d (cfa_with d (length tail) sp opens) w s sp opens tail) is
    (λ st stopping. resumed code at fdes thrown e d w s sp opens tail st stopping) st stopping

-- ---- a forced unwind

forced_goes : (fdes : List Fde) (s : State) (o : Option Frame) → first_of s fdes forced goals.Cleanup ≡ o → forced_unwind fdes s ≡ forced_to s fdes o
unfolding forced_unwind
forced_goes fdes s o is = ap (forced_to s fdes) is

stops_words : (s : State) (g : Frame) (pad : ℕ) (v : Verdict) (k : ℤ) → IsGiven v k → stops_at s g (at_cfa 0) (in_words pad v) ≡ installs s g (at_cfa 0) pad k
stops_words s g pad (target (pos n)) k given = enters_words s g (at_cfa 0) pad (target (pos n)) k given
stops_words s g pad (target (negsuc n)) k given = enters_words s g (at_cfa 0) pad (target (negsuc n)) k given
stops_words s g pad no_way k given = absurd given
stops_words s g pad clean k given = enters_words s g (at_cfa 0) pad clean k given
stops_words s g pad nothing_here k given = absurd given

pub forced_agree : ForcedAgree
forced_agree code at fdes n w s sp opens tail st =
    by (forces code at fdes s tail rest n w opens (first_frame s) sp (first_is s sp st.pointer) st.stand st.agree) st.ends
  where
    k : Walked code at (forced_by_table code) fdes forced s sp opens tail
    k = walked_all code at (forced_by_table code) fdes forced s sp opens tail st

    rest : List Frame
    rest = rest_of code at (forced_by_table code) fdes forced s sp opens tail k

    g : Frame
    g = frame_behind (first_frame s) sp (calls opens)

    ends_at : (x : Frame) → first_of s fdes forced goals.Cleanup ≡ Some x → verdict_of s fdes forced x ≡ abi_verdicts.Terminate → forced_unwind fdes s ≡ (answers.Terminate, s)
    ends_at x first says = forced_goes fdes s (Some x) first ∙ ap (stops_at s x (at_cfa 0)) says

    first_in_all : (r : Option Frame) → first_in s fdes forced goals.Cleanup (frames_of (first_frame s) sp (calls opens) ++ rest) ≡ r → first_of s fdes forced goals.Cleanup ≡ r
    first_in_all r = first_is_in code at (forced_by_table code) fdes forced s sp opens tail k goals.Cleanup r

    by : Forced code at fdes s tail rest n w (forced_above code n (activations opens ++ tail) w) (first_frame s) sp opens →
        IsFirst fdes (said s fdes forced) (outer_ip s.pc (calls opens)) tail ⊎ IsBarred code (said s fdes forced) (outer_ip s.pc (calls opens)) tail →
        Lands code at (unwinding n) w s sp opens tail 0 0 (forced_above code n (activations opens ++ tail) w) (forced_unwind fdes s)
        ⊎ (IsTerminated w opens tail (forced_above code n (activations opens ++ tail) w) × (forced_unwind fdes s ≡ (answers.Terminate, s)))
        ⊎ ((forced_above code n (activations opens ++ tail) w ≡ finishes (by_program (exit n)) w) × (forced_unwind fdes s ≡ (answers.NoHandler, s)))
    by (inl c) ends =
        let pad : ℕ = at c.landing.activation.function c.pad in
        inl (record {
          inner = c.inner;
          landing = c.landing;
          outer = c.outer;
          split = c.split;
          pad = c.pad;
          chain = c.chain;
          covers = c.covers;
          selector = c.selector;
          enters = c.enters;
          after = installed c.frame pad s;
          installs = forced_goes fdes s (Some c.frame) (first_in_all (Some c.frame) c.first) ∙ ap (stops_at s c.frame (at_cfa 0)) c.says ∙ stops_words s c.frame pad c.verdict c.selector c.given;
          in_frame = in_frame s c.frame pad (outer_sp sp (calls c.inner)) (regs_at (calls c.inner) (saved_of s)) st.registers c.is_frame (c.saved ∙ ap (regs_at (calls c.inner)) (first_saved s));
        })
    by (inr (inl x)) ends = inr (inl (x.terminated, ends_at x.frame (first_in_all (Some x.frame) x.first) x.says))
    by (inr (inr passed)) (inl first) =
        let e = ends_first code at (forced_by_table code) fdes forced s sp opens tail k first in
        let out = passes_here s fdes forced goals.Cleanup g [] abi_verdicts.Nothing (last_says code at (forced_by_table code) fdes forced s sp opens tail k abi_verdicts.Nothing first.says) refl in
        inr (inr (
          passed.goes ∙ ap (λ fs. forced_above code n fs w) first.none,
          forced_goes fdes s None (first_in_all None (passed.first ∙ ap (first_in s fdes forced goals.Cleanup) e.0 ∙ out)) ∙ ap (λ end. ended end s) e.1,
        ))
    by (inr (inr passed)) (inr barred) =
        let r = barred_rest code at (forced_by_table code) fdes forced s sp opens tail k in
        let says = last_says code at (forced_by_table code) fdes forced s sp opens tail k abi_verdicts.Terminate barred.says in
        inr (inl (
          record {
            inner = activations opens;
            barring = barred.first;
            outer = barred.others;
            split = ap (λ fs. activations opens ++ fs) barred.is;
            terminates = passed.goes ∙ ap (λ fs. forced_above code n fs w) barred.is
                ∙ ap (λ c. forced_at code c n barred.first.function barred.first.frame barred.others w (forced_above code n barred.others w)) barred.bars;
          },
          ends_at g (first_in_all (Some g) (passed.first ∙ ap (first_in s fdes forced goals.Cleanup) r.1 ∙ stops_here s fdes forced goals.Cleanup g r.0 abi_verdicts.Terminate says refl)) says,
        ))
