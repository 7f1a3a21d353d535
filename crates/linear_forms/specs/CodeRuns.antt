-- What it means that a piece of code does at the machine what a computation of regions does.
use Rattle.std.specs.Prelude.{◌≡◌, ℕ, ◌+◌, ◌<◌, pos, true, List, [], ◌∷◌, length, Some}
use Rattle.meaning_forms.specs.Class.{contains}
use Rattle.meaning_forms.specs.Outcome.{thrown, cancelled, ended, undefined, out_of_turns, deep}
use Rattle.region_forms.specs.Form.{help_slot}
use Rattle.region_forms.specs.World.{Word, number_word, Frame, World, type_at}
use Rattle.region_forms.specs.Guard.{Guard}
use Rattle.region_forms.specs.Outcome.{State as RegionState, Context, Flow, normal, leaves, Result, done, stopped}
use Rattle.region_forms.specs.Effect.{new_frame, new_world}
use Rattle.region_forms.specs.Ending.{Running}
use Rattle.linear_forms.specs.Linear.{LinearOp, label}
use Rattle.linear_forms.specs.Tables.{Cover}
use Rattle.linear_forms.specs.Stub.{compiled}
use Rattle.linear_forms.specs.Activation.{Code, Activation, State, Next, goes_to, finishes, by_program, not_defined, at, depth_of}
use Rattle.linear_forms.specs.Search.{found}
use Rattle.linear_forms.specs.Unwinding.{unwind}
use Rattle.linear_forms.specs.Forced.{force}
use Rattle.linear_forms.specs.Pace.{Paced, MustPay}
use Rattle.linear_forms.specs.Sites.{Placed}
use Rattle.linear_forms.specs.Exits.{Exit, inner, first_label, crosses, name_of}
use Rattle.linear_forms.specs.Emission.{Emitting}

-- a label stands at its place
abbrev pub LabelAt : Code → ℕ → ℕ → LinearOp → Type 0
LabelAt code f p (label l) = code.label_at f l ≡ p
LabelAt code f p _ = Unit {0}

-- the operations stand in a function's code from this place on, the tables cover them so, and labels stand where they are named
abbrev pub HasAt : Code → ℕ → ℕ → List Placed → Type 0
HasAt code f p [] = Unit {0}
HasAt code f p (i ∷ is) = (code.op_at f p ≡ Some i.op) × (code.cover_at f p ≡ i.cover) × LabelAt code f p i.op × HasAt code f (p + 1) is

-- the slots that the code uses itself stand behind the function's n
pub record SlotsBehind (code : Code) (f n : ℕ) (em : Emitting) : Type 0 where
  pub object : em.object ≡ n
  pub selector : em.selector ≡ n + 1
  pub way : em.way ≡ n + 2
  pub object_kind : code.kinds_at f n ≡ help_slot
  pub selector_kind : code.kinds_at f (n + 1) ≡ help_slot
  pub way_kind : code.kinds_at f (n + 2) ≡ help_slot

-- where a part of a function stands: the function, the frames below, what covers the part, and what guards it
pub record Site : Type 0 where
  pub func : ℕ
  pub cover : Cover
  pub frames : List Activation
  pub guards : List Guard

-- the context of a site: the function that runs is the last open call
abbrev pub context_at : Site → Context
context_at s = record { guards = s.guards; depth = depth_of s.frames + 1 }

-- a frame of the machine has the slots that a frame of regions has, which are the first n; those behind are the pads'
pub record SameBelow (n : ℕ) (f g : Frame) : Type 0 where
  pub call : g.call ≡ f.call
  pub slots : (s : ℕ) → s < n → g.slots s ≡ f.slots s

-- an exit that goes on is one of those that the region is known to have; it stands at its first label, and says where it goes if a
-- cleanup is on the way
pub record LeftAt (code : Code) (em : Emitting) (n : ℕ) (s : Site) (xs : List Exit) (outs : List ℕ) (k : ℕ) (st : RegionState) (x : Next) : Type 0 where
  pub frame : Frame
  pub same : SameBelow n st.frame frame
  pub is : x ≡ at (compiled s.func) (code.label_at s.func (first_label k xs)) frame s.frames st.world
  pub way : crosses k xs ≡ true → frame.slots em.way ≡ number_word (pos (name_of k xs))
  pub known : contains outs k ≡ true
  pub inside : k < length xs

-- what is said of an exit that goes on
abbrev pub ExitsAt : Type 1
ExitsAt = ℕ → RegionState → Next → Type 0

-- nothing leaves a call or an operation
abbrev pub Never : ExitsAt
Never k st x = ⊥

-- nothing is said of a frame
abbrev pub Any : Frame → Type 0
Any f = Unit {0}

-- What the machine comes to where a region comes out so: behind the region's code; on the way out; in the middle of an unwind from the
-- region's own cover, with its target; in the middle of a forced unwind; at an end; at an operation that would pay for a turn where the turns are used
-- up; or still running.
abbrev pub Meets : Code → ℕ → (Frame → Type 0) → ExitsAt → Site → ℕ → Result Flow → Next → Type 0
Meets code n P L s p' (done normal st) x =
    (f : Frame) × SameBelow n st.frame f × P f × (x ≡ at (compiled s.func) p' f s.frames st.world)
Meets code n P L s p' (done (leaves k) st) x = L (inner k) st x
Meets code n P L s p' (stopped (thrown e) st) x =
    (t : ℕ) × (f : Frame) × (found code (compiled s.func) s.cover (type_at st.world e) s.frames ≡ Some t) × SameBelow n st.frame f ×
    (x ≡ unwind code s.cover t e (compiled s.func) f s.frames st.world)
Meets code n P L s p' (stopped (cancelled k) st) x =
    (f : Frame) × SameBelow n st.frame f × (x ≡ force code s.cover k (compiled s.func) f s.frames st.world)
Meets code n P L s p' (stopped (ended e) st) x = x ≡ finishes (by_program e) st.world
Meets code n P L s p' (stopped undefined st) x = x ≡ finishes not_defined st.world
Meets code n P L s p' (stopped out_of_turns st) x = MustPay code st.world x
Meets code n P L s p' (stopped deep st) x = (m : State) × (x ≡ goes_to m) × (m.world ≡ st.world)

-- the turns left behind a result; where they are used up, or a call is too deep, none counts
abbrev pub turns_after : Result Flow → ℕ
turns_after (done a st) = st.turns
turns_after (stopped out_of_turns st) = 0
turns_after (stopped x st) = st.turns

-- from a state with t turns the machine comes to what a result says, at the pace of `Paced`
pub record Runs (code : Code) (most n c : ℕ) (P : Frame → Type 0) (L : ExitsAt) (s : Site) (p' : ℕ) (st : State) (t : ℕ) (r : Result Flow) : Type 0 where
  pub next : Next
  pub reaches : Paced code most st t next (turns_after r) c
  pub meets : Meets code n P L s p' r next

-- the state at a place of a site
abbrev pub here : Site → ℕ → Frame → World → State
here s p f w = record { top = record { function = compiled s.func; place = p; frame = f }; frames = s.frames; world = w }

-- the context of a call by an activation
abbrev pub context_of : List Guard → Activation → List Activation → Context
context_of gs a fs = record { guards = gs; depth = depth_of (a ∷ fs) }

-- the state in which function g begins, called by an activation
abbrev pub called_from : Code → ℕ → List Word → Activation → List Activation → World → State
called_from code g words a fs w = record {
  top = record { function = compiled g; place = 0; frame = new_frame (code.kinds_at g) words w };
  frames = a ∷ fs;
  world = new_world (code.kinds_at g) words (depth_of (a ∷ fs) + 1) w;
}

-- the kinds of a function's own slots are the same at both levels
abbrev pub SameKinds : Code → ℕ → ℕ → Running → Type 0
SameKinds code f n run = (s : ℕ) → s < n → code.kinds_at f s ≡ run.kinds s
