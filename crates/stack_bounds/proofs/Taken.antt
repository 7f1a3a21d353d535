-- What open calls take of the stack.
use Rattle.std.proofs.Common.{◌≡◌, refl, sym, subst, arith, ℕ, zero, suc, ◌+◌, ◌*◌, ◌≤◌, true, List, [], ◌∷◌, slice_get, unwrap_or}
use Rattle.std.specs.List.{AllByRecursion}
use Rattle.linear_forms.specs.Linear.{FunctionCode}
use Rattle.linear_forms.specs.Stub.{Function, compiled, end_catch, terminating, call_unexpected}
use Rattle.linear_forms.specs.Activation.{Activation, depth_of, counts}
use Rattle.linear_forms.specs.UnitRun.{no_code}
use Rattle.landing_pads.specs.Frames.{AllCheckedFramesFit}
use Rattle.flight_homes.specs.Nest.{is_called_by, CallsNest}
use Rattle.machine_simulation.specs.Plan.{Plan}
use Rattle.machine_simulation.specs.Calls.{frame_of, open_bytes}
use Rattle.stack_bounds.specs.Taken.{FramesAreSmall, CheckedFramesAreSmall, is_terminate_call, terminate_calls, OpenCallsTake, StacksHoldCalls}

-- the bytes of the runtime's own functions that wait above the newest compiled call
abbrev spare : Function → ℕ
spare (compiled n) = 0
spare end_catch = 128
spare terminating = 128
spare call_unexpected = 80

-- what one call takes beside those below it
takes : (p : Plan) (f g : Function) → FramesAreSmall p → is_called_by f g ≡ true → frame_of p.unit p.hidden f + spare g ≤ 1728 * counts f + (32 + p.hidden) * is_terminate_call f + spare f
takes p (compiled n) (compiled m) small nest = omega (arith, small n)
takes p (compiled n) end_catch small nest = omega (arith, small n)
takes p (compiled n) terminating small nest = omega (arith, small n)
takes p (compiled n) call_unexpected small nest = omega (arith, small n)
takes p end_catch (compiled m) small nest = omega arith
takes p end_catch call_unexpected small nest = omega arith
takes p end_catch end_catch small nest = absurd (cc nest)
takes p end_catch terminating small nest = absurd (cc nest)
takes p call_unexpected (compiled m) small nest = omega arith
takes p call_unexpected end_catch small nest = absurd (cc nest)
takes p call_unexpected terminating small nest = absurd (cc nest)
takes p call_unexpected call_unexpected small nest = absurd (cc nest)
takes p terminating (compiled m) small nest = omega arith
takes p terminating end_catch small nest = omega arith
takes p terminating terminating small nest = omega arith
takes p terminating call_unexpected small nest = omega arith

alone : (p : Plan) (f : Function) → FramesAreSmall p → frame_of p.unit p.hidden f ≤ 1728 * counts f + (32 + p.hidden) * is_terminate_call f + spare f
alone p (compiled n) small = omega (arith, small n)
alone p end_catch small = omega arith
alone p terminating small = omega arith
alone p call_unexpected small = omega arith

all_take : (p : Plan) (a : Activation) (fs : List Activation) → FramesAreSmall p → CallsNest (a ∷ fs) → open_bytes p (a ∷ fs) ≤ 1728 * depth_of (a ∷ fs) + (32 + p.hidden) * terminate_calls (a ∷ fs) + spare a.function
all_take p a [] small nest = omega (arith, alone p a.function small)
all_take p a (b ∷ fs) small nest =
    let here = takes p a.function b.function small nest.0 in
    let rest = all_take p b fs small nest.1 in
    let calls : ℕ = terminate_calls (b ∷ fs) in
    let sum : (32 + p.hidden) * (is_terminate_call a.function + calls) ≡ (32 + p.hidden) * is_terminate_call a.function + (32 + p.hidden) * calls = grind arith in
    omega (arith, here, rest, sum)

spare_most : (f : Function) → spare f ≤ 128
spare_most (compiled n) = omega arith
spare_most end_catch = omega arith
spare_most terminating = omega arith
spare_most call_unexpected = omega arith

pub open_calls_take : OpenCallsTake
open_calls_take p [] small nest = omega arith
open_calls_take p (a ∷ fs) small nest = omega (arith, all_take p a fs small nest, spare_most a.function)

pub stacks_hold_calls : OpenCallsTake → StacksHoldCalls
stacks_hold_calls takes p fs m deepest small nest once hidden depth lacks = by (terminate_calls fs) refl once
  where
    by : (k : ℕ) → terminate_calls fs ≡ k → k ≤ 1 → 4096 ≤ deepest
    by zero is few =
        let all : open_bytes p fs ≤ 1728 * depth_of fs + (32 + p.hidden) * 0 + 128 = subst (λ k. open_bytes p fs ≤ 1728 * depth_of fs + (32 + p.hidden) * k + 128) is (takes p fs small nest) in
        omega (arith, all, small m, depth, lacks)
    by (suc zero) is few =
        let all : open_bytes p fs ≤ 1728 * depth_of fs + (32 + p.hidden) * 1 + 128 = subst (λ k. open_bytes p fs ≤ 1728 * depth_of fs + (32 + p.hidden) * k + 128) is (takes p fs small nest) in
        omega (arith, all, small m, hidden, depth, lacks)
    by (suc (suc k)) is few = absurd (omega (arith, few))

-- ---- checked programs

each_small : (xs : List FunctionCode) (n : ℕ) → AllByRecursion (λ g. g.frame ≤ 1600) xs → (unwrap_or (slice_get xs n) no_code).frame ≤ 1600
each_small [] n all = omega arith
each_small (x ∷ xs) zero all = all.0
each_small (x ∷ xs) (suc n) all = each_small xs n all.1

pub checked_frames_are_small : AllCheckedFramesFit → CheckedFramesAreSmall
checked_frames_are_small fits p is q unit n = subst (λ u. (unwrap_or (slice_get u.functions n) no_code).frame ≤ 1600) (sym unit) (each_small _ n (fits p is).small)
