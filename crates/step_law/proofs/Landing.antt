-- Where an exception comes to a landing pad: that call goes on, those newer than it are over, and targets stay where they are.
use Rattle.std.proofs.Common.{◌≡◌, ◌∙◌, refl, sym, ap, subst, arith, ℕ, ◌+◌, ◌≤◌, ℤ, List, [], ◌∷◌, ◌++◌, length-append, Option, Some}
use Rattle.region_forms.specs.World.{Word, number_word, with_slot, flying, Frame, World}
use Rattle.linear_forms.specs.Linear.{UnitCode, pad}
use Rattle.linear_forms.specs.Stub.{Function, CodeOp, terminating, linear}
use Rattle.linear_forms.specs.Activation.{Code, Activation, State, goes_to, fetch, look}
use Rattle.linear_forms.specs.Unwinding.{pad_entered}
use Rattle.exceptions_in_flight.specs.Aims.{ComesToPad}
use Rattle.linear_invariant.proofs.Landing.{no_pads}
use Rattle.machine_simulation.specs.Plan.{Plan}
use Rattle.address_bounds.specs.Reaches.{Needs}
use Rattle.address_invariant.specs.Extents.{Extents}
use Rattle.address_invariant.specs.Reaching.{IsBegunCall, CallsReach}
use Rattle.stack_bounds.specs.Taken.{is_terminate_call, terminate_calls}
use Rattle.step_law.proofs.Aligned.{SameFrames, CallsAlign, align_same, align_pop, align_then, itself}

-- one of the open calls goes on, and those that waited below it
pub record LandsIn (fs : List Activation) (w : World) (next : State) : Type 0 where
  pub inner : List Activation
  pub call : Activation
  pub outer : List Activation
  pub split : fs ≡ inner ++ call ∷ outer
  pub function : next.top.function ≡ call.function
  pub frames : next.frames ≡ outer
  pub number : next.top.frame.call ≡ call.frame.call
  pub world : next.world ≡ w

pub record EntersPad (f : Function) (frame : Frame) (outer : List Activation) (w : World) (next : State) : Type 0 where
  pub function : next.top.function ≡ f
  pub frames : next.frames ≡ outer
  pub number : next.top.frame.call ≡ frame.call
  pub world : next.world ≡ w

pub enters_pad : (op : Option CodeOp) (x : Word) (n : ℤ) (f : Function) (p : ℕ) (frame : Frame) (outer : List Activation) (w : World) (next : State) → pad_entered op x n f p frame outer w ≡ goes_to next → EntersPad f frame outer w next
enters_pad (Some (linear (pad o s))) x n f p frame outer w next e =
    let went : record { top = record { function = f; place = p + 1; frame = with_slot s (number_word n) (with_slot o x frame) }; frames = outer; world = w } ≡ next = cc e in
    subst (EntersPad f frame outer w) went (record { function = refl; frames = refl; number = refl; world = refl })
enters_pad op x n f p frame outer w next e = absurd (cc e)

pub lands_in : (code : Code) (t : Option ℕ) (d e : ℕ) (fs : List Activation) (w : World) (next : State) → ComesToPad code t d e fs w (goes_to next) → LandsIn fs w next
lands_in code t d e fs w next h =
    let pad = enters_pad (fetch code h.call.function h.pad) (flying e d) h.number h.call.function h.pad h.call.frame h.outer w next (sym h.comes) in
    record { inner = h.inner; call = h.call; outer = h.outer; split = h.split; function = pad.function; frames = pad.frames; number = pad.number; world = pad.world }

-- nothing comes to a pad in terminate, which has none
pub lands_outside : (code : Code) (t : Option ℕ) (d e : ℕ) (fs : List Activation) (w : World) (next : State) → ComesToPad code t d e fs w (goes_to next) → next.top.function ≡ terminating → ⊥
lands_outside code t d e fs w next h ends =
    let pad = enters_pad (fetch code h.call.function h.pad) (flying e d) h.number h.call.function h.pad h.call.frame h.outer w next (sym h.comes) in
    no_pads h.call.place h.pad h.chain (ap (λ g. look code g h.call.place) (sym (sym pad.function ∙ ends)) ∙ h.covers)

-- calls that are over
pub align_drop : (q : Plan) (inner gs : List Activation) → CallsAlign q q (inner ++ gs) gs
align_drop q [] gs = record { targets = λ d less also. refl; calls = λ d less also. refl }
align_drop q (b ∷ inner) gs = align_then q q q (b ∷ (inner ++ gs)) (inner ++ gs) gs (omega (arith, length-append inner gs)) (align_pop q q (itself q) b (inner ++ gs)) (align_drop q inner gs)

pub lands_aligned : (q r : Plan) → SameFrames q r → (fs : List Activation) (w : World) (next : State) → LandsIn fs w next → CallsAlign q r fs (next.top ∷ next.frames)
lands_aligned q r same fs w next h =
    subst (λ gs. CallsAlign q r gs (next.top ∷ next.frames)) (sym h.split)
    (subst (λ gs. CallsAlign q r (h.inner ++ h.call ∷ h.outer) (next.top ∷ gs)) (sym h.frames)
    (align_then q q r (h.inner ++ h.call ∷ h.outer) (h.call ∷ h.outer) (next.top ∷ h.outer) (omega arith) (align_drop q h.inner (h.call ∷ h.outer)) (align_same q r same h.call next.top h.outer h.function)))

-- terminate waits no more often
pub terminate_dropped : (inner gs : List Activation) → terminate_calls gs ≤ terminate_calls (inner ++ gs)
terminate_dropped [] gs = omega arith
terminate_dropped (b ∷ inner) gs = let rest = terminate_dropped inner gs in omega (arith, rest)

pub lands_once : (fs : List Activation) (w : World) (next : State) → LandsIn fs w next → terminate_calls (next.top ∷ next.frames) ≤ terminate_calls fs
lands_once fs w next h =
    let tops = ap is_terminate_call h.function in
    let others = ap terminate_calls h.frames in
    let whole = ap terminate_calls h.split in
    let fewer = terminate_dropped h.inner (h.call ∷ h.outer) in
    omega (arith, tops, others, whole, fewer)

-- a call that is open has begun
pub begun_in : (y : Extents) (u : UnitCode) (needs : Needs) (v : World) (inner : List Activation) (a : Activation) (outer : List Activation) → CallsReach y u needs v (inner ++ a ∷ outer) → IsBegunCall v a.function a.frame.call
begun_in y u needs v [] a outer h = h.0.begun
begun_in y u needs v (b ∷ inner) a outer h = begun_in y u needs v inner a outer h.1
