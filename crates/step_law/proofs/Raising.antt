-- What must be shown of a state that a raise comes to, for all to stand there.
use Rattle.std.proofs.Common.{◌≡◌, ◌∙◌, sym, ap, subst, arith, ℕ, ◌+◌, ◌<◌, ◌⊎◌, inl, inr, false, List, ◌∷◌, length, None}
use Rattle.run_items.specs.declared.item.Item.{Item}
use Rattle.cxx_ast.specs.Plain.{Checked}
use Rattle.elf_image.specs.Clean.{CleanImage}
use Rattle.cxa_runtime.specs.World as abi
use Rattle.region_forms.specs.World.{Word, flying}
use Rattle.linear_forms.specs.Activation.{Activation, State, goes_to}
use Rattle.linear_forms.specs.Machine.{step}
use Rattle.linear_forms.proofs.Paces
use Rattle.flight_homes.specs.Keeps.{Carrying}
use Rattle.flight_homes.specs.Lives.{known_in}
use Rattle.linear_invariant.specs.Calls.{Marks}
use Rattle.linear_invariant.specs.Stands.{NewMarked, StandsIn}
use Rattle.linear_invariant.proofs.Calls.{all_spared}
use Rattle.linear_invariant.proofs.Marks.{marks_change}
use Rattle.linear_invariant.proofs.Steps.{step_stands}
use Rattle.kept_selectors.proofs.Stubs.{steps_keep_selectors}
use Rattle.machine_simulation.specs.Plan.{Plan}
use Rattle.runtime_invariant.specs.Aims.{is_entered}
use Rattle.whole_runs.proofs.Staying.{deepest_grows}
use Rattle.step_law.specs.Facts.{regions_for, code_for, Facts}
use Rattle.step_law.specs.Standing.{HeaderAims, IsAimed, aims, StandsBy}
use Rattle.step_law.proofs.Handled.{leads_handled}
use Rattle.step_law.proofs.Founded.{step_founded}
use Rattle.step_law.proofs.Bounded.{bounded, stands_bounded}
use Rattle.step_law.proofs.Keeping.{RuntimeKept, NotEntered, unmarked_stands, ShownBehind}

-- words that were aimed, and the one that is raised with its target
abbrev pub aimed_or : Plan → List Activation → abi.World → (e d : ℕ) → Word → Type 0
aimed_or q fs w e d word = IsAimed q fs w word ⊎ (word ≡ flying e d)

abbrev pub raised_marks : Checked → Plan → List Activation → abi.World → (e d : ℕ) → Marks
raised_marks p q fs w e d = record { known = known_in (regions_for p); words = aimed_or q fs w e d }

module _ (p : Checked) (i : CleanImage) (k : Carrying) (tables : ℕ → ℕ) (f : Facts p i k tables) (q r : Plan) (before turns : ℕ) (st next : State) (w u : abi.World) (items : List Item) (h : StandsBy p i k tables q before st w)
    (e d : ℕ) (goes : step (code_for p) st ≡ goes_to next) (news : NewMarked (raised_marks p q (st.top ∷ st.frames) w e d) (code_for p) st) (kept : RuntimeKept w u items) (s : ShownBehind p k q r turns st next w u items)
    (aimed : HeaderAims r (next.top ∷ next.frames) u e d) where
  abbrev here : List Activation
  here = st.top ∷ st.frames

  abbrev there : List Activation
  there = next.top ∷ next.frames

  still : (y b : ℕ) → NotEntered items y → HeaderAims q here w y b → b < length there → HeaderAims r there u y b
  still y b none a below = record {
    inside = below;
    slot = a.slot;
    header = a.header;
    way = kept.headers a.slot a.header a.way (subst (λ x. is_entered x items ≡ false) (sym a.number) none);
    number = a.number;
    target = a.target ∙ sym (s.aligned.targets b a.inside below);
    table = λ m is. a.table m (sym (s.aligned.calls b a.inside below) ∙ is) ∙ ap (λ t. t m) (sym s.plan.tables);
  }

  now : (y b : ℕ) → NotEntered items y → aimed_or q here w e d (flying y b) → b < length there → HeaderAims r there u y b
  now y b none (inl a) below = still y b none a below
  now y b none (inr same) below =
      let one : e ≡ y = cc same in let two : d ≡ b = cc same in subst (λ n. HeaderAims r there u n b) one (subst (λ n. HeaderAims r there u e n) two aimed)

  stands_there : StandsIn (aims p r there u) (code_for p) k (h.steps + 1) next
  stands_there =
      let known = known_in (regions_for p) in
      let first = marks_change known (IsAimed q here w) (aimed_or q here w e d) (code_for p) k h.steps st (λ y. Unit {0}) (all_spared k (λ y. Unit {0}) (λ y. tt) None here) (λ y b own can m. inl m) (λ z m. inl m) h.stands in
      let led = step_stands (raised_marks p q here w e d) (code_for p) k h.steps st next f.fits news first goes in
      marks_change known (bounded (length there) (aimed_or q here w e d)) (IsAimed r there u) (code_for p) k (h.steps + 1) next (NotEntered items) s.spared (λ y b none can m. now y b none m.0 m.1) (λ z m. tt)
      (stands_bounded known (aimed_or q here w e d) (code_for p) k (h.steps + 1) next led)

  pub raised_behind : StandsBy p i k tables r (before + turns) next u
  raised_behind = record {
    unit = s.plan.frames.unit ∙ h.unit;
    base = s.plan.base ∙ h.base;
    tables_are = s.plan.tables ∙ h.tables_are;
    rests = s.rests;
    frozen = kept.memory ∙ h.frozen;
    steps = h.steps + 1;
    stands = stands_there;
    founded = step_founded (code_for p) st next h.founded goes;
    selectors = steps_keep_selectors (regions_for p) k h.steps st next f.fits f.stops (unmarked_stands p i k tables q before st w h) h.selectors goes;
    handlers = leads_handled p k 1 h.steps st next f.fits (unmarked_stands p i k tables q before st w h) h.handlers (Paces.one_step (code_for p) st (goes_to next) goes);
    few = omega (arith, s.few, h.few);
    reaches = s.reaches;
    hides = λ none. s.plan.frames.hidden ∙ h.hides (s.ending none);
    hidden = let more = deepest_grows (code_for p) 1 st next (Paces.one_step (code_for p) st (goes_to next) goes) in omega (arith, h.hidden, s.plan.frames.hidden, more);
    once = s.once;
    forced = s.forced;
  }
