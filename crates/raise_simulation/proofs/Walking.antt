-- A walk over open calls gives their frames.
use Rattle.std.proofs.Common.{◌≡◌, ◌∙◌, refl, ap, sym, subst, arith, ℕ, suc, ◌+◌, ◌-◌, ◌*◌, ◌≤◌, false, List, [], ◌∷◌, ◌++◌, length}
use Rattle.table_forms.specs.Fde.{Fde}
use Rattle.table_forms.specs.Verdict.{look_up_place}
use Rattle.rv64_isa.specs.State.{State, reg_of}
use Rattle.frame_walk.specs.declared.frame.Frame.{Frame}
use Rattle.frame_walk.specs.Outward.{next_frame}
use Rattle.raise_core.specs.Stack.{Stack, inside, walked, frames_within, most_frames, first_frame, frames, registers_at}
use Rattle.raise_simulation.specs.OpenCalls.{OpenCall, CallsStand, IsOutermost, outer_ip, outer_sp, outward, frames_of, frame_behind}
use Rattle.raise_simulation.specs.Walks.{CallsAreWalked}
use Rattle.raise_simulation.proofs.Outward.{IsFrame, next_of, outward_frame, end_of}

pub stack_step : (n : ℕ) (s : State) (fdes : List Fde) (f : Frame) → frames_within (suc n) s fdes f ≡ inside f (walked (frames_within n s fdes) (next_frame s fdes f))
unfolding frames_within
stack_step n s fdes f = refl

-- frames in front of a stack
abbrev pub behind_frames : List Frame → Stack → Stack
behind_frames fs stack = record { frames = fs ++ stack.frames; ending = stack.ending }

-- the walk over open calls, which leaves as many frames fewer
pub walk : (n : ℕ) (s : State) (fdes : List Fde) (f : Frame) (sp : ℕ) (cs : List OpenCall) → IsFrame f sp → CallsStand s fdes f.pc sp cs →
    (frames_within (length cs + n) s fdes f ≡ behind_frames (frames_of f sp cs) (frames_within n s fdes (frame_behind f sp cs))) × IsFrame (frame_behind f sp cs) (outer_sp sp cs) × ((frame_behind f sp cs).pc ≡ outer_ip f.pc cs)
walk n s fdes f sp [] h stands = (ap (λ k. frames_within k s fdes f) (let e : 0 + n ≡ n = omega arith in e), h, refl)
walk n s fdes f sp (c ∷ cs) h stands =
    let more = walk n s fdes (outward f sp c) (sp + c.size) cs (outward_frame s fdes f.pc f sp c stands.0) stands.1 in
    let one : suc (length cs) + n ≡ suc (length cs + n) = omega arith in
    (ap (λ k. frames_within k s fdes f) one ∙ stack_step (length cs + n) s fdes f ∙ ap (λ w. inside f (walked (frames_within (length cs + n) s fdes) w)) (next_of s fdes f sp c h stands.0) ∙ ap (inside f) more.0, more.1, more.2)

-- open calls are fewer than the frames that are walked
few : (s : State) (fdes : List Fde) (ip sp : ℕ) (cs : List OpenCall) → CallsStand s fdes ip sp cs → sp ≤ 0x7100_0000 → 16 * length cs + sp ≤ 0x7100_0000
few s fdes ip sp [] stands high = omega (arith, high)
few s fdes ip sp (c ∷ cs) stands high =
    let some = stands.0.some in let top = stands.0.high in
    let more = few s fdes c.back (sp + c.size) cs stands.1 top in
    omega (arith, some, more)

fewer : (s : State) (fdes : List Fde) (ip sp : ℕ) (cs : List OpenCall) → CallsStand s fdes ip sp cs → length cs ≤ 0x100_0000
fewer s fdes ip sp [] stands = omega arith
fewer s fdes ip sp (c ∷ cs) stands =
    let low = stands.0.low in let high = stands.0.high in
    let all = few s fdes ip sp (c ∷ cs) stands (omega (arith, high)) in
    omega (arith, all, low)

pub first_is : (s : State) (sp : ℕ) → reg_of s.regs 2 ≡ sp → IsFrame (first_frame s) sp
unfolding registers_at
first_is s sp at = record { plain = refl; pointer = at; inner = λ a more. refl }

-- all frames, as those of the calls and then more
pub all : (s : State) (fdes : List Fde) (sp : ℕ) (cs : List OpenCall) → reg_of s.regs 2 ≡ sp → CallsStand s fdes s.pc sp cs →
    (k : ℕ) × (frames s fdes ≡ behind_frames (frames_of (first_frame s) sp cs) (frames_within (suc k) s fdes (frame_behind (first_frame s) sp cs)))
    × IsFrame (frame_behind (first_frame s) sp cs) (outer_sp sp cs) × ((frame_behind (first_frame s) sp cs).pc ≡ outer_ip s.pc cs)
all s fdes sp cs at stands =
    let small = fewer s fdes s.pc sp cs stands in
    let k : ℕ = most_frames - (length cs + 1) in
    let e : most_frames ≡ length cs + suc k = omega (arith, small) in
    let w = walk (suc k) s fdes (first_frame s) sp cs (first_is s sp at) stands in
    (k, ap (λ n. frames_within n s fdes (first_frame s)) e ∙ w.0, w.1, w.2)

pub calls_are_walked : CallsAreWalked
calls_are_walked = record {
  front = λ s fdes sp cs at stands.
      let a = all s fdes sp cs at stands in (
        (walked (frames_within a.0 s fdes) (next_frame s fdes (frame_behind (first_frame s) sp cs))).frames,
        ap (λ (x : Stack). x.frames) (a.1 ∙ ap (behind_frames (frames_of (first_frame s) sp cs)) (stack_step a.0 s fdes (frame_behind (first_frame s) sp cs))),
      );
  whole = λ s fdes sp cs at stands last.
      let a = all s fdes sp cs at stands in
      let g : Frame = frame_behind (first_frame s) sp cs in
      let out = end_of s fdes g a.2.plain (subst (λ p. IsOutermost fdes (look_up_place p false)) (sym a.3) last) in
      a.1 ∙ ap (behind_frames (frames_of (first_frame s) sp cs)) (stack_step a.0 s fdes g ∙ ap (λ w. inside g (walked (frames_within a.0 s fdes) w)) out);
}
