-- Calls that an unwind has left, and those among which terminate does not wait.
use Rattle.std.proofs.Common.{◌≡◌, ◌∙◌, refl, ap, arith, ℕ, ◌+◌, ◌*◌, ◌-◌, ◌≤◌, ◌==◌, Bool, true, false, List, [], ◌∷◌, ◌++◌, length, Some, None, if◌then◌else◌}
use Rattle.std.specs.List.{AllByRecursion}
use Rattle.region_forms.specs.World.{Word, Frame, World}
use Rattle.linear_forms.specs.Linear.{UnitCode}
use Rattle.linear_forms.specs.Stub.{Function, compiled, end_catch, terminating, call_unexpected}
use Rattle.linear_forms.specs.Activation.{Activation, State, Code, counts, depth_of}
use Rattle.flight_homes.specs.Keeps.{Carrying, Carried}
use Rattle.flight_homes.specs.Lives.{Known}
use Rattle.linear_invariant.specs.Calls.{Marks, FlightGoes}
use Rattle.linear_invariant.specs.Stands.{StandsIn}
use Rattle.machine_stubs.specs.Stretches.{frame_size}
use Rattle.machine_simulation.specs.Calls.{stack_end, frame_of, frames_bytes, open_bytes}
use Rattle.machine_simulation.specs.Plan.{Plan, shape}
use Rattle.raise_ends.specs.Barriers.{IsCompiled}
use Rattle.stack_bounds.specs.Taken.{FramesAreSmall, is_terminate_call, terminate_calls}
use Rattle.step_law.specs.Standing.{call_end}
use Rattle.step_law.proofs.Bounded.{bounded, calls_bounded}

-- what is hidden does not count there
same_without : (u : UnitCode) (h i : ℕ) (fs : List Activation) → terminate_calls fs ≡ 0 → frames_bytes u h fs ≡ frames_bytes u i fs
same_without u h i [] none = refl
same_without u h i (a ∷ fs) none = by a.function none (λ rest. same_without u h i fs rest)
  where
    by : (f : Function) → is_terminate_call f + terminate_calls fs ≡ 0 → (terminate_calls fs ≡ 0 → frames_bytes u h fs ≡ frames_bytes u i fs) → frame_of u h f + frames_bytes u h fs ≡ frame_of u i f + frames_bytes u i fs
    by (compiled m) none rest = ap (λ k. frame_of u h (compiled m) + k) (rest (omega (arith, none)))
    by end_catch none rest = ap (λ k. frame_size end_catch + k) (rest (omega (arith, none)))
    by terminating none rest = absurd (omega (arith, none))
    by call_unexpected none rest = ap (λ k. frame_size call_unexpected + k) (rest (omega (arith, none)))

pub ends_without : (q r : Plan) → r.unit ≡ q.unit → (d : ℕ) (fs : List Activation) → terminate_calls fs ≡ 0 → call_end r d fs ≡ call_end q d fs
ends_without q r unit d [] none = refl
ends_without q r unit d (a ∷ fs) none =
    let fewer : terminate_calls fs ≡ 0 = omega (arith, none) in
    let here : open_bytes r fs ≡ open_bytes q fs = ap (λ u. frames_bytes u r.hidden fs) unit ∙ same_without q.unit r.hidden q.hidden fs fewer in
    let rest = ends_without q r unit d fs fewer in
    ap (λ n. if length fs == d then stack_end - n else call_end r d fs) here ∙ ap (λ n. if length fs == d then stack_end - open_bytes q fs else n) rest

-- calls of compiled functions take few bytes, and are counted
pub own_bytes : (q : Plan) → FramesAreSmall q → (calls : List Activation) → AllByRecursion IsCompiled calls → open_bytes q calls ≤ 1600 * length calls
own_bytes q small [] own = omega arith
own_bytes q small (a ∷ calls) own =
    let size : frame_of q.unit q.hidden a.function ≡ (shape q own.0.0).size = ap (frame_of q.unit q.hidden) own.0.1 in
    let less = small own.0.0 in
    let rest = own_bytes q small calls own.1 in
    omega (arith, size, less, rest)

pub own_depth : (calls gs : List Activation) → AllByRecursion IsCompiled calls → length calls ≤ depth_of (calls ++ gs)
own_depth [] gs own = omega arith
own_depth (a ∷ calls) gs own = let one = ap counts own.0.1 in let rest = own_depth calls gs own.1 in omega (arith, one, rest)

-- Where terminate waits for a handler that begins, neither carries anything: what is carried aims at one of the calls below them.
module _ (known : Known) (words : Word → Type 0) (code : Code) (k : Carrying) (steps m p : ℕ) (x y : Frame) (fs : List Activation) (v : World) (none : k.carries m 0 ≡ false) where
  abbrev old : Marks
  old = record { known = known; words = words }

  abbrev new : Marks
  new = record { known = known; words = bounded (length fs) words }

  abbrev handler : Activation
  handler = record { function = compiled m; place = 0; frame = x }

  abbrev waiting : Activation
  waiting = record { function = terminating; place = p; frame = y }

  abbrev here : State
  here = record { top = handler; frames = waiting ∷ fs; world = v }

  none_goes : (b : Bool) (c : Carried) → b ≡ false → FlightGoes new code handler (waiting ∷ fs) (if b then Some c else None) v
  none_goes true c is = absurd (cc is)
  none_goes false c is = tt

  pub stands_below : StandsIn old code k steps here → StandsIn new code k steps here
  stands_below h = record {
    stand = h.stand;
    lives = h.lives;
    whole = h.whole;
    calls = (
      record {
        forgets = h.calls.0.forgets;
        carries = none_goes (k.carries m 0) (record { word = x.slots (k.object m); home = k.home m 0; number = x.slots (k.selector m); left = k.left m 0 }) none;
        gone = h.calls.0.gone;
        slots = tt;
        waits = h.calls.0.waits;
      },
      (
        record { forgets = h.calls.1.0.forgets; carries = tt; gone = h.calls.1.0.gone; slots = tt; waits = h.calls.1.0.waits },
        calls_bounded known words code k v (length fs) (Some terminating) fs (omega arith) h.calls.1.1,
      ),
    );
    world = h.world;
  }
