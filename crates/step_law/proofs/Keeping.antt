-- What turns keep of the runtime, and what a round must show for all to stand behind it.
use Rattle.std.proofs.Common.{◌≡◌, ◌∙◌, sym, ap, subst, arith, ℕ, ◌+◌, ◌≤◌, ◌<◌, inl, inr, ℤ, false, List, ◌∷◌, length, Some, None}
use Rattle.run_items.specs.declared.item.Item.{Item}
use Rattle.caught_stack.specs.declared.header.Header.{Header}
use Rattle.cxx_ast.specs.Plain.{Checked}
use Rattle.elf_image.specs.Clean.{CleanImage}
use Rattle.cxa_runtime.specs.World as abi
use Rattle.cxa_runtime.specs.Raising.{Image}
use Rattle.region_forms.specs.Form.{Op}
use Rattle.region_forms.specs.World.{unwinding}
use Rattle.region_forms.specs.Effect.{Effect, raises, cancels, effect}
use Rattle.linear_forms.specs.Linear.{plain}
use Rattle.linear_forms.specs.Stub.{linear}
use Rattle.linear_forms.specs.Defined.{RunsAt}
use Rattle.linear_forms.specs.Activation.{Activation, State, Code, goes_to, kinds}
use Rattle.linear_forms.specs.Machine.{step}
use Rattle.linear_forms.specs.Pace.{Leads}
use Rattle.flight_homes.specs.Keeps.{Carrying}
use Rattle.flight_homes.specs.Lives.{known_in}
use Rattle.linear_invariant.specs.Calls.{Marks, unmarked}
use Rattle.linear_invariant.specs.Forced.{newest_forced, ForcedStays}
use Rattle.linear_invariant.specs.Handled.{open_handlers}
use Rattle.linear_invariant.specs.Stands.{NewMarked, StandsIn}
use Rattle.linear_invariant.proofs.Calls.{Spared, all_spared}
use Rattle.linear_invariant.proofs.ForcedRuns.{steps_keep_forced}
use Rattle.linear_invariant.proofs.Marks.{marks_change}
use Rattle.linear_invariant.proofs.Steps.{run_stands}
use Rattle.kept_selectors.proofs.Runs.{leads_keep}
use Rattle.source_bounds.specs.Compiled.{unit_for}
use Rattle.machine_pieces.specs.Turning.{ForcedTurns, Turns}
use Rattle.machine_simulation.specs.Plan.{Plan}
use Rattle.machine_exceptions.specs.Picks.{TurnsFor}
use Rattle.runtime_invariant.specs.Aims.{IsOnItsWay, is_entered}
use Rattle.runtime_invariant.specs.Memory.{KeepsMemory}
use Rattle.runtime_invariant.proofs.Aims.{headers_stay_aimed}
use Rattle.runtime_invariant.proofs.Memory.{runs_keep_memory}
use Rattle.stack_bounds.specs.Taken.{terminate_calls}
use Rattle.address_invariant.specs.Extents.{extents_of}
use Rattle.address_invariant.specs.Reaching.{Reaches}
use Rattle.stub_landings.specs.Rests.{Rests}
use Rattle.whole_runs.proofs.Staying.{deepest_grows}
use Rattle.step_law.specs.Facts.{regions_for, needs_for, code_for, Facts}
use Rattle.step_law.specs.Standing.{HeaderAims, IsAimed, aims, StandsBy}
use Rattle.step_law.proofs.Handled.{leads_handled}
use Rattle.step_law.proofs.Founded.{leads_founded}
use Rattle.step_law.proofs.Bounded.{bounded, stands_bounded}
use Rattle.step_law.proofs.Aligned.{CallsAlign, SameFrames}

-- memory that may not be written, the headers of what is on its way, and the forced unwind that is on, where items are shown
pub record RuntimeKept (w u : abi.World) (items : List Item) : Type 0 where
  pub memory : KeepsMemory w u
  pub headers : (slot : ℕ) (h : Header) → IsOnItsWay slot h w.exceptions → is_entered h.number items ≡ false → IsOnItsWay slot h u.exceptions
  pub unwinding : u.unwinding ≡ w.unwinding

pub kept_by_turns : (image : Image) (n : ℕ) (w u : abi.World) (items : List Item) → Turns image n w u items → RuntimeKept w u items
kept_by_turns image n w u items t = record {
  memory = runs_keep_memory.turns image n w u items t;
  headers = λ slot h way none. headers_stay_aimed.turns image n w u items slot h t way none;
  unwinding = t.unwinding;
}

pub kept_by_picked : (image : Image) (pick : ℕ → ℕ) (n : ℕ) (w u : abi.World) (items : List Item) → TurnsFor image pick n w u items → RuntimeKept w u items
kept_by_picked image pick n w u items t = record {
  memory = runs_keep_memory.picked image pick n w u items t;
  headers = λ slot h way none. headers_stay_aimed.picked image pick n w u items slot h t way none;
  unwinding = t.unwinding;
}

-- an exception that was not entered
abbrev pub NotEntered : List Item → ℕ → Type 0
NotEntered items e = is_entered e items ≡ false

-- ---- an operation that raises nothing, and begins no forced unwind

abbrev pub IsCalm : Effect → Type 0
IsCalm (raises e v) = ⊥
IsCalm (cancels z v) = ⊥
IsCalm x = Unit {0}

abbrev pub CalmAt : Code → State → Type 0
CalmAt code st = (o : Op) → RunsAt code st (linear (plain o)) → IsCalm (effect (kinds code st.top.function) o st.top.frame st.world)

pub calm_marked : (marks : Marks) (code : Code) (st : State) → ((z : ℤ) → marks.words (unwinding z)) → CalmAt code st → NewMarked marks code st
calm_marked marks code st free calm = record {
  raised = λ o e v d runs is found. absurd (subst IsCalm is (calm o runs));
  cancelled = λ o z v runs is. free z;
}

-- what linear_invariant says, of words nothing
pub unmarked_stands : (p : Checked) (i : CleanImage) (k : Carrying) (tables : ℕ → ℕ) (q : Plan) (before : ℕ) (st : State) (w : abi.World) → (h : StandsBy p i k tables q before st w) →
    StandsIn (unmarked (known_in (regions_for p))) (code_for p) k h.steps st
unmarked_stands p i k tables q before st w h =
    marks_change (known_in (regions_for p)) (IsAimed q (st.top ∷ st.frames) w) (λ word. Unit {0}) (code_for p) k h.steps st (λ e. Unit {0}) (all_spared k (λ e. Unit {0}) (λ e. tt) None (st.top ∷ st.frames))
    (λ e d own can m. tt) (λ z m. tt) h.stands

-- the forced unwind that goes on next is that which was, or none
pub calm_forced : (p : Checked) (i : CleanImage) (k : Carrying) (tables : ℕ → ℕ) (q : Plan) (before : ℕ) (st next : State) (w u : abi.World) → Facts p i k tables → StandsBy p i k tables q before st w → step (code_for p) st ≡ goes_to next →
    CalmAt (code_for p) st → u.unwinding ≡ w.unwinding → (z : ℤ) → newest_forced k None (next.top ∷ next.frames) ≡ Some z → u.unwinding ≡ Some z
calm_forced p i k tables q before st next w u f h e calm same z now = by (steps_keep_forced (regions_for p) k h.steps st next f.fits (unmarked_stands p i k tables q before st w h) e)
  where
    by : ForcedStays (code_for p) k st next → u.unwinding ≡ Some z
    by (inl none) = let no : None ≡ Some z = sym none ∙ now in absurd (cc no)
    by (inr (inl stays)) = same ∙ h.forced z (sym stays ∙ now)
    by (inr (inr (y, begins, is))) = absurd (subst IsCalm begins.begins (calm begins.op begins.runs))

-- ---- all stands behind steps

-- what the next plan has of the one before
pub record PlanGoes (q r : Plan) : Type 0 where
  pub frames : SameFrames q r
  pub base : r.base ≡ q.base
  pub tables : r.tables ≡ q.tables

-- what must be shown of a state behind steps, beside that turns keep the runtime
pub record ShownBehind (p : Checked) (k : Carrying) (q r : Plan) (turns : ℕ) (st next : State) (w u : abi.World) (items : List Item) : Type 0 where
  pub plan : PlanGoes q r
  pub aligned : CallsAlign q r (st.top ∷ st.frames) (next.top ∷ next.frames)
  pub spared : Spared k (NotEntered items) None (next.top ∷ next.frames)
  pub rests : Rests r next u
  pub few : open_handlers next.world.caught ≤ open_handlers st.world.caught + turns
  pub reaches : Reaches (extents_of r) (unit_for p) (needs_for p) next
  pub ending : next.world.ending ≡ false → st.world.ending ≡ false
  pub once : terminate_calls (next.top ∷ next.frames) ≤ 1
  pub forced : (z : ℤ) → newest_forced k None (next.top ∷ next.frames) ≡ Some z → u.unwinding ≡ Some z

-- what turns must keep of the runtime for that: memory that may not be written, and the headers of what is on its way
pub record WayKept (w u : abi.World) (items : List Item) : Type 0 where
  pub memory : KeepsMemory w u
  pub headers : (slot : ℕ) (h : Header) → IsOnItsWay slot h w.exceptions → is_entered h.number items ≡ false → IsOnItsWay slot h u.exceptions

pub way_kept : (w u : abi.World) (items : List Item) → RuntimeKept w u items → WayKept w u items
way_kept w u items kept = record { memory = kept.memory; headers = kept.headers }

-- so they do where a forced unwind may begin
pub kept_by_forced : (image : Image) (n : ℕ) (w u : abi.World) (items : List Item) → ForcedTurns image n w u items → WayKept w u items
kept_by_forced image n w u items t = record {
  memory = runs_keep_memory.forced image n w u items t;
  headers = λ slot h way none. headers_stay_aimed.forced image n w u items slot h t way none;
}

module _ (p : Checked) (i : CleanImage) (k : Carrying) (tables : ℕ → ℕ) (f : Facts p i k tables) (q r : Plan) (before turns n : ℕ) (st next : State) (w u : abi.World) (items : List Item) (h : StandsBy p i k tables q before st w)
    (leads : Leads (code_for p) n st (goes_to next)) (news : (j : ℕ) (middle : State) → j < n → Leads (code_for p) j st (goes_to middle) → NewMarked (aims p q (st.top ∷ st.frames) w) (code_for p) middle) (kept : WayKept w u items)
    (s : ShownBehind p k q r turns st next w u items) where
  abbrev here : List Activation
  here = st.top ∷ st.frames

  abbrev there : List Activation
  there = next.top ∷ next.frames

  aimed_still : (e d : ℕ) → NotEntered items e → HeaderAims q here w e d → d < length there → HeaderAims r there u e d
  aimed_still e d none a below = record {
    inside = below;
    slot = a.slot;
    header = a.header;
    way = kept.headers a.slot a.header a.way (subst (λ x. is_entered x items ≡ false) (sym a.number) none);
    number = a.number;
    target = a.target ∙ sym (s.aligned.targets d a.inside below);
    table = λ m is. a.table m (sym (s.aligned.calls d a.inside below) ∙ is) ∙ ap (λ t. t m) (sym s.plan.tables);
  }

  stands_there : StandsIn (aims p r there u) (code_for p) k (h.steps + n) next
  stands_there =
      let known = known_in (regions_for p) in
      let led = run_stands (aims p q here w) (code_for p) k f.fits n h.steps st next news h.stands leads in
      marks_change known (bounded (length there) (IsAimed q here w)) (IsAimed r there u) (code_for p) k (h.steps + n) next (NotEntered items) s.spared (λ e d none can m. aimed_still e d none m.0 m.1) (λ z m. tt)
      (stands_bounded known (IsAimed q here w) (code_for p) k (h.steps + n) next led)

  -- where each step marks what it puts into a pad
  pub marked_behind : StandsBy p i k tables r (before + turns) next u
  marked_behind = record {
    unit = s.plan.frames.unit ∙ h.unit;
    base = s.plan.base ∙ h.base;
    tables_are = s.plan.tables ∙ h.tables_are;
    rests = s.rests;
    frozen = kept.memory ∙ h.frozen;
    steps = h.steps + n;
    stands = stands_there;
    founded = leads_founded (code_for p) n st next h.founded leads;
    selectors = leads_keep (regions_for p) k f.fits f.stops n h.steps st next (unmarked_stands p i k tables q before st w h) h.selectors leads;
    handlers = leads_handled p k n h.steps st next f.fits (unmarked_stands p i k tables q before st w h) h.handlers leads;
    few = omega (arith, s.few, h.few);
    reaches = s.reaches;
    hides = λ none. s.plan.frames.hidden ∙ h.hides (s.ending none);
    hidden = let more = deepest_grows (code_for p) n st next leads in omega (arith, h.hidden, s.plan.frames.hidden, more);
    once = s.once;
    forced = s.forced;
  }

-- where no step raises an exception or begins a forced unwind
pub stands_behind : (p : Checked) (i : CleanImage) (k : Carrying) (tables : ℕ → ℕ) → Facts p i k tables → (q r : Plan) (before turns n : ℕ) (st next : State) (w u : abi.World) (items : List Item) → StandsBy p i k tables q before st w →
    Leads (code_for p) n st (goes_to next) → ((j : ℕ) (middle : State) → j < n → Leads (code_for p) j st (goes_to middle) → CalmAt (code_for p) middle) → RuntimeKept w u items → ShownBehind p k q r turns st next w u items →
    StandsBy p i k tables r (before + turns) next u
stands_behind p i k tables f q r before turns n st next w u items h leads calm kept s =
    marked_behind p i k tables f q r before turns n st next w u items h leads
    (λ j middle less l. calm_marked (aims p q (st.top ∷ st.frames) w) (code_for p) middle (λ z. tt) (calm j middle less l)) (way_kept w u items kept) s
