-- What the unwinder does is what linear code does.
use Rattle.std.proofs.Common.{◌≡◌, ◌∙◌, refl, ap, sym, subst, ℕ, suc, false, List, [], ◌∷◌, ◌++◌, length, inl, inr}
use Rattle.std.specs.Prelude.{◌⊎◌, Option, Some, None}
use Rattle.table_forms.specs.declared.found.Verdict as abi
use Rattle.table_forms.specs.declared.found.Verdict.TheVariants as abi_verdicts
use Rattle.table_forms.specs.Fde.{Fde}
use Rattle.table_forms.specs.Verdict.{Thrown, look_up_place}
use Rattle.rv64_isa.specs.State.{State}
use Rattle.frame_walk.specs.declared.frame.Frame.{Frame}
use Rattle.frame_walk.specs.Outward.{next_frame}
use Rattle.raise_core.specs.declared.raised.Raised.TheVariants as answers
use Rattle.raise_core.specs.declared.goal.Goal.{Goal}
use Rattle.raise_core.specs.declared.goal.Goal.TheVariants as goals
use Rattle.raise_core.specs.declared.asked.Target.{Target}
use Rattle.raise_core.specs.Stack.{Stack, end_of_stack, first_frame, frames, frames_within, walked, inside}
use Rattle.raise_core.specs.Asked.{verdict_of, target_at}
use Rattle.raise_core.specs.First.{first_in, first_of}
use Rattle.raise_core.specs.Raise.{raise, raised_to, towards, entered, entered_by, enters, installed, ended}
use Rattle.region_forms.specs.World.{flying, World, type_at}
use Rattle.linear_forms.specs.Stub.{Function}
use Rattle.linear_forms.specs.Activation.{Code, Activation, sense}
use Rattle.linear_forms.specs.Search.{found_at, found_above}
use Rattle.linear_forms.specs.Unwinding.{unwound_above}
use Rattle.machine_pieces.specs.Keeping.{saved_of}
use Rattle.raise_simulation.specs.OpenCalls.{IsOutermost, regs_at, outer_ip, outer_sp, frames_of, frame_behind}
use Rattle.raise_simulation.specs.Tables.{said}
use Rattle.raise_simulation.specs.Verdicts.{judged_by}
use Rattle.raise_simulation.specs.Opens.{Open, Judge, activations, calls, IsFirst, IsBarred, StackStands, cfa_with, table_with}
use Rattle.raise_simulation.specs.Raises.{Lands}
use Rattle.raise_simulation.proofs.Outward.{IsFrame, end_of}
use Rattle.raise_simulation.proofs.Walking.{all, first_is, stack_step}
use Rattle.raise_simulation.proofs.Asking.{verdict_is, stops_here, passes_here}
use Rattle.raise_simulation.proofs.Searching.{IsHandling, search, NoneFound, search_none}
use Rattle.raise_simulation.proofs.Keeping.{first_saved}
use Rattle.raise_simulation.proofs.Landing.{enters_words, in_frame, lands}

module _ (code : Code) (at : Function → ℕ → ℕ) (judge : Judge) (fdes : List Fde) (thrown : Thrown) (s : State) (sp : ℕ) (opens : List Open) (tail : List Activation) where
  -- the frames are those of the open calls, and more
  pub record Walked : Type 0 where
    pub count : ℕ
    pub all_frames : (frames s fdes) ≡ record {
      frames = frames_of (first_frame s) sp (calls opens) ++ (frames_within (suc count) s fdes (frame_behind (first_frame s) sp (calls opens))).frames;
      ending = (frames_within (suc count) s fdes (frame_behind (first_frame s) sp (calls opens))).ending;
    }
    pub last : IsFrame (frame_behind (first_frame s) sp (calls opens)) (outer_sp sp (calls opens))
    pub last_ip : (frame_behind (first_frame s) sp (calls opens)).pc ≡ outer_ip s.pc (calls opens)

  pub walked_all : StackStands code at judge fdes thrown s sp opens tail → Walked
  walked_all st =
      let a = all s fdes sp (calls opens) st.pointer st.stand in
      record { count = a.0; all_frames = a.1; last = a.2; last_ip = a.3 }

  abbrev pub rest_of : Walked → List Frame
  rest_of k = (frames_within (suc k.count) s fdes (frame_behind (first_frame s) sp (calls opens))).frames

  -- a search over all frames, as one over those of the open calls and the rest
  pub first_is_in : (k : Walked) (goal : Goal) (r : Option Frame) → first_in s fdes thrown goal (frames_of (first_frame s) sp (calls opens) ++ rest_of k) ≡ r → first_of s fdes thrown goal ≡ r
  first_is_in k goal r is = ap (λ (x : Stack). first_in s fdes thrown goal x.frames) k.all_frames ∙ is

  -- the frame behind them
  pub last_says : (k : Walked) (v : abi.Verdict) → said s fdes thrown (outer_ip s.pc (calls opens)) ≡ v → verdict_of s fdes thrown (frame_behind (first_frame s) sp (calls opens)) ≡ v
  last_says k v is = verdict_is s fdes thrown (frame_behind (first_frame s) sp (calls opens)) k.last.plain ∙ ap (said s fdes thrown) k.last_ip ∙ is

  -- where it is the last one, no phase stops at it
  pub ends_first : (k : Walked) → IsFirst fdes (said s fdes thrown) (outer_ip s.pc (calls opens)) tail →
      (rest_of k ≡ frame_behind (first_frame s) sp (calls opens) ∷ []) × ((frames s fdes).ending ≡ end_of_stack)
  ends_first k first =
      let g : Frame = frame_behind (first_frame s) sp (calls opens) in
      let out = end_of s fdes g k.last.plain (subst (λ p. IsOutermost fdes (look_up_place p false)) (sym k.last_ip) first.outermost) in
      let one = stack_step k.count s fdes g ∙ ap (λ w. inside g (walked (frames_within k.count s fdes) w)) out in
      (ap (λ (x : Stack). x.frames) one, ap (λ (x : Stack). x.ending) k.all_frames ∙ ap (λ (x : Stack). x.ending) one)

  -- where it is barred, each phase stops at it
  pub barred_rest : (k : Walked) → (more : List Frame) × (rest_of k ≡ frame_behind (first_frame s) sp (calls opens) ∷ more)
  barred_rest k =
      let g : Frame = frame_behind (first_frame s) sp (calls opens) in
      ((walked (frames_within k.count s fdes) (next_frame s fdes g)).frames, ap (λ (x : Stack). x.frames) (stack_step k.count s fdes g))

-- nothing farther out stops an exception
none_beyond : (code : Code) (t : Option ℕ) (fdes : List Fde) (say : ℕ → abi.Verdict) (ip : ℕ) (tail : List Activation) → IsFirst fdes say ip tail ⊎ IsBarred code say ip tail → found_above code t tail ≡ None
none_beyond code t fdes say ip tail (inl first) = ap (found_above code t) first.none
none_beyond code t fdes say ip tail (inr barred) =
    ap (found_above code t) barred.is ∙ ap (λ c. found_at code.rows (sense code barred.first.function) c t (length barred.others) (found_above code t barred.others)) barred.bars

-- ---- a raise

raise_goes : (fdes : List Fde) (thrown : Thrown) (s : State) (o : Option Frame) → first_of s fdes thrown goals.Target ≡ o → raise fdes thrown s ≡ raised_to s fdes thrown o
unfolding raise
raise_goes fdes thrown s o is = ap (raised_to s fdes thrown) is

towards_target : (s : State) (fdes : List Fde) (thrown : Thrown) (g : Frame) (v : abi.Verdict) → IsHandling v → towards s fdes thrown g v ≡ entered s fdes thrown (target_at fdes g)
towards_target s fdes thrown g (abi_verdicts.Handler pad n) handles = refl
towards_target s fdes thrown g (abi_verdicts.Spec pad n) handles = refl
towards_target s fdes thrown g abi_verdicts.Nothing handles = absurd handles
towards_target s fdes thrown g (abi_verdicts.Cleanup pad) handles = absurd handles
towards_target s fdes thrown g abi_verdicts.Terminate handles = absurd handles

pub found : (code : Code) (at : Function → ℕ → ℕ) (fdes : List Fde) (thrown : Thrown) (e d : ℕ) (w : World) (s : State) (sp : ℕ) (opens : List Open) (tail : List Activation) →
    StackStands code at (λ a. judged_by code a (type_at w e)) fdes thrown s sp opens tail → found_above code (type_at w e) (activations opens ++ tail) ≡ Some d →
    Lands code at (flying e d) w s sp opens tail (cfa_with d (length tail) sp opens) (table_with fdes d (length tail) s.pc opens) (unwound_above code d e (activations opens ++ tail) w) (raise fdes thrown s)
found code at fdes thrown e d w s sp opens tail st is =
    let judge : Judge = λ a. judged_by code a (type_at w e) in
    let k = walked_all code at judge fdes thrown s sp opens tail st in
    let rest = rest_of code at judge fdes thrown s sp opens tail k in
    let none = none_beyond code (type_at w e) fdes (said s fdes thrown) (outer_ip s.pc (calls opens)) tail st.ends in
    let h = first_is s sp st.pointer in
    let f = search code at fdes thrown (type_at w e) s tail rest d opens (first_frame s) sp h st.stand st.agree none is in
    let c = lands code at fdes thrown s tail rest e d w opens (first_frame s) sp h st.stand st.agree none is in
    let to : Target = record { cfa = cfa_with d (length tail) sp opens; lsda = table_with fdes d (length tail) s.pc opens } in
    let pad : ℕ = at c.landing.activation.function c.pad in
    record {
      inner = c.inner;
      landing = c.landing;
      outer = c.outer;
      split = c.split;
      pad = c.pad;
      chain = c.chain;
      covers = c.covers;
      selector = c.selector;
      enters = c.enters;
      after = installed c.frame pad s;
      installs = raise_goes fdes thrown s (Some f.frame) (first_is_in code at judge fdes thrown s sp opens tail k goals.Target (Some f.frame) f.first)
          ∙ ap (towards s fdes thrown f.frame) f.says ∙ towards_target s fdes thrown f.frame f.verdict f.handles ∙ ap (entered s fdes thrown) f.target
          ∙ ap (entered_by s fdes thrown to) (first_is_in code at judge fdes thrown s sp opens tail k goals.Pad (Some c.frame) c.first)
          ∙ ap (enters s c.frame to) c.says ∙ enters_words s c.frame to pad c.verdict c.selector c.given;
      in_frame = in_frame s c.frame pad (outer_sp sp (calls c.inner)) (regs_at (calls c.inner) (saved_of s)) st.registers c.is_frame (c.saved ∙ ap (regs_at (calls c.inner)) (first_saved s));
    }

pub lost : (code : Code) (at : Function → ℕ → ℕ) (fdes : List Fde) (thrown : Thrown) (t : Option ℕ) (s : State) (sp : ℕ) (opens : List Open) (tail : List Activation) →
    StackStands code at (λ a. judged_by code a t) fdes thrown s sp opens tail → found_above code t (activations opens ++ tail) ≡ None →
    (raise fdes thrown s ≡ (answers.Terminate, s)) ⊎ (raise fdes thrown s ≡ (answers.NoHandler, s))
lost code at fdes thrown t s sp opens tail st none = by (search_none code at fdes thrown t s tail rest opens (first_frame s) sp (first_is s sp st.pointer) st.stand st.agree none) st.ends
  where
    judge : Judge
    judge = λ a. judged_by code a t

    k : Walked code at judge fdes thrown s sp opens tail
    k = walked_all code at judge fdes thrown s sp opens tail st

    rest : List Frame
    rest = rest_of code at judge fdes thrown s sp opens tail k

    g : Frame
    g = frame_behind (first_frame s) sp (calls opens)

    ends_at : (x : Frame) → first_in s fdes thrown goals.Target (frames_of (first_frame s) sp (calls opens) ++ rest) ≡ Some x → verdict_of s fdes thrown x ≡ abi_verdicts.Terminate → raise fdes thrown s ≡ (answers.Terminate, s)
    ends_at x first says =
        raise_goes fdes thrown s (Some x) (first_is_in code at judge fdes thrown s sp opens tail k goals.Target (Some x) first) ∙ ap (towards s fdes thrown x) says

    by : NoneFound code at fdes thrown t s tail rest (first_frame s) sp opens → IsFirst fdes (said s fdes thrown) (outer_ip s.pc (calls opens)) tail ⊎ IsBarred code (said s fdes thrown) (outer_ip s.pc (calls opens)) tail →
        (raise fdes thrown s ≡ (answers.Terminate, s)) ⊎ (raise fdes thrown s ≡ (answers.NoHandler, s))
    by (inl (x, first, says)) ends = inl (ends_at x first says)
    by (inr passed) (inl first) =
        let e = ends_first code at judge fdes thrown s sp opens tail k first in
        let out : first_in s fdes thrown goals.Target (g ∷ []) ≡ None = passes_here s fdes thrown goals.Target g [] abi_verdicts.Nothing (last_says code at judge fdes thrown s sp opens tail k abi_verdicts.Nothing first.says) refl in
        inr (raise_goes fdes thrown s None (first_is_in code at judge fdes thrown s sp opens tail k goals.Target None (passed ∙ ap (first_in s fdes thrown goals.Target) e.0 ∙ out))
        ∙ ap (λ end. ended end s) e.1)
    by (inr passed) (inr barred) =
        let r = barred_rest code at judge fdes thrown s sp opens tail k in
        let says = last_says code at judge fdes thrown s sp opens tail k abi_verdicts.Terminate barred.says in
        inl (ends_at g (passed ∙ ap (first_in s fdes thrown goals.Target) r.1 ∙ stops_here s fdes thrown goals.Target g r.0 abi_verdicts.Terminate says refl) says)
