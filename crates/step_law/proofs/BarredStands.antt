-- What must be shown where an unwind has left calls, and terminate's handler begins in front of those below them.
use Rattle.std.proofs.Common.{◌≡◌, ◌∙◌, refl, sym, ap, subst, arith, ℕ, ◌+◌, ◌*◌, ◌≤◌, ◌<◌, inl, true, false, List, ◌∷◌, ◌++◌, length, length-append, Some, None}
use Rattle.run_items.specs.declared.item.Item.{Item}
use Rattle.cxa_runtime.specs.World as abi
use Rattle.region_forms.specs.World.{World}
use Rattle.linear_forms.specs.Activation.{Activation, State, Code, goes_to}
use Rattle.linear_forms.specs.Pace.{Leads}
use Rattle.flight_homes.specs.Lives.{known_in}
use Rattle.kept_selectors.proofs.Runs.{leads_keep}
use Rattle.linear_invariant.specs.Forced.{newest_forced, or_else}
use Rattle.linear_invariant.specs.Handled.{open_handlers}
use Rattle.linear_invariant.specs.Stands.{NewMarked, StandsIn}
use Rattle.linear_invariant.proofs.Calls.{all_spared}
use Rattle.linear_invariant.proofs.Forced.{none_carried, at_place}
use Rattle.linear_invariant.proofs.Marks.{marks_change}
use Rattle.linear_invariant.proofs.Steps.{run_stands}
use Rattle.source_bounds.specs.Compiled.{unit_for}
use Rattle.machine_simulation.specs.Matches.{Matches}
use Rattle.machine_simulation.specs.Plan.{Plan}
use Rattle.machine_exceptions.specs.Terminates.{waiting_terminate, in_handler}
use Rattle.machine_raises.specs.Targets.{target_call}
use Rattle.raise_ends.specs.Barriers.{barred_state}
use Rattle.stack_bounds.specs.Taken.{terminate_calls}
use Rattle.address_invariant.specs.Extents.{extents_of}
use Rattle.address_invariant.specs.Reaching.{Reaches}
use Rattle.step_law.specs.Facts.{regions_for, needs_for, code_for, Facts}
use Rattle.step_law.specs.Standing.{call_end, HeaderAims, IsAimed, aims, StandsBy}
use Rattle.step_law.specs.Rows.{Run}
use Rattle.step_law.proofs.Handled.{leads_handled}
use Rattle.step_law.proofs.Aligned.{CallsAlign, align_same, align_push_two, itself}
use Rattle.step_law.proofs.Barring.{ends_without, stands_below}
use Rattle.step_law.proofs.Bounded.{bounded}
use Rattle.step_law.proofs.Founded.{leads_founded}
use Rattle.step_law.proofs.Keeping.{NotEntered, unmarked_stands, WayKept}
use Rattle.step_law.proofs.Landing.{align_drop, terminate_dropped}

-- the call that stops the unwind and those below it
abbrev pub kept_below : Activation → List Activation → World → List Activation
kept_below barring outer v = (barred_state barring outer v).top ∷ outer

-- the state in which the handler begins
abbrev pub handler_begun : Plan → ℕ → Activation → List Activation → World → State
handler_begun q m barring outer v = in_handler q m (barred_state barring outer v)

-- The calls that were left, with the plan behind it, which hides their frames; steps that lead there, each of which marks what it puts into a pad; and
-- terminate did not run before.
pub record IsBarred (x : Run) (q r : Plan) (turns m total : ℕ) (left : List Activation) (barring : Activation) (outer : List Activation) (v : World) (st : State) (w u : abi.World) (items : List Item) : Type 0 where
  pub split : st.top ∷ st.frames ≡ left ++ barring ∷ outer
  pub unit : r.unit ≡ q.unit
  pub base : r.base ≡ q.base
  pub tables : r.tables ≡ q.tables
  pub hidden : r.hidden ≤ 1728 * (handler_begun q m barring outer v).world.deepest + 128
  pub leads : Leads (code_for x.program) total st (goes_to (handler_begun q m barring outer v))
  pub news : (j : ℕ) (s : State) → j < total → Leads (code_for x.program) j st (goes_to s) → NewMarked (aims x.program q (st.top ∷ st.frames) w) (code_for x.program) s
  pub none_open : terminate_calls (st.top ∷ st.frames) ≡ 0
  pub few : open_handlers v.caught ≤ open_handlers st.world.caught + turns
  pub reaches : Reaches (extents_of r) (unit_for x.program) (needs_for x.program) (handler_begun q m barring outer v)
  pub entered : (e : ℕ) → NotEntered items e
  pub kept : WayKept w u items
  pub matches : Matches r (handler_begun q m barring outer v) u

module _ (x : Run) (q r : Plan) (before turns m total : ℕ) (left : List Activation) (barring : Activation) (outer : List Activation) (v : World) (st : State) (w u : abi.World) (items : List Item) (facts : Facts x.program x.image x.carrying x.tables)
    (stands : StandsBy x.program x.image x.carrying x.tables q before st w) (b : IsBarred x q r turns m total left barring outer v st w u items) where
  abbrev code : Code
  code = code_for x.program

  abbrev here : List Activation
  here = st.top ∷ st.frames

  abbrev rest : List Activation
  rest = kept_below barring outer v

  abbrev go : State
  go = handler_begun q m barring outer v

  none_kept : terminate_calls rest ≡ 0
  none_kept =
      let whole = ap terminate_calls b.split in
      let fewer = terminate_dropped left (barring ∷ outer) in
      let none = b.none_open in omega (arith, whole, fewer, none)

  -- each of the calls below stands where it stood
  below_aligned : CallsAlign q q here (barring ∷ outer)
  below_aligned = subst (λ fs. CallsAlign q q fs (barring ∷ outer)) (sym b.split) (align_drop q left (barring ∷ outer))

  here_more : length rest ≤ length here
  here_more = let whole = ap length b.split in let parts = length-append left (barring ∷ outer) in omega (arith, whole, parts)

  ends_meet : (d : ℕ) → d < length rest → call_end r d (go.top ∷ go.frames) ≡ call_end q d here
  ends_meet d less =
      let more = here_more in
      let begun = align_push_two r r (itself r) go.top (waiting_terminate m) rest in
      let same = align_same q q (itself q) barring (barred_state barring outer v).top outer refl in
      begun.targets d less (omega (arith, less)) ∙ ends_without q r b.unit d rest none_kept ∙ same.targets d less less ∙ below_aligned.targets d (omega (arith, less, more)) less

  calls_meet : (d : ℕ) → d < length rest → target_call d (go.top ∷ go.frames) ≡ target_call d here
  calls_meet d less =
      let more = here_more in
      let begun = align_push_two r r (itself r) go.top (waiting_terminate m) rest in
      let same = align_same q q (itself q) barring (barred_state barring outer v).top outer refl in
      begun.calls d less (omega (arith, less)) ∙ same.calls d less less ∙ below_aligned.calls d (omega (arith, less, more)) less

  none_forced : newest_forced x.carrying None (go.top ∷ go.frames) ≡ None
  none_forced = ap (λ c. or_else c None) (none_carried code x.carrying facts.fits.carries (x.carrying.carries m 0) (at_place code x.carrying facts.fits.carries m 0 go.top.frame) (facts.fits.carries.first m))

  aimed_still : (e d : ℕ) → NotEntered items e → HeaderAims q here w e d → d < length rest → HeaderAims r (go.top ∷ go.frames) u e d
  aimed_still e d none a below = record {
    inside = omega (arith, below);
    slot = a.slot;
    header = a.header;
    way = b.kept.headers a.slot a.header a.way (b.entered a.header.number);
    number = a.number;
    target = a.target ∙ sym (ends_meet d below);
    table = λ k is. a.table k (sym (calls_meet d below) ∙ is) ∙ ap (λ t. t k) (sym b.tables);
  }

  stands_there : StandsIn (aims x.program r (go.top ∷ go.frames) u) code x.carrying (stands.steps + total) go
  stands_there =
      let known = known_in (regions_for x.program) in
      let led = run_stands (aims x.program q here w) code x.carrying facts.fits total stands.steps st go b.news stands.stands b.leads in
      marks_change known (bounded (length rest) (IsAimed q here w)) (IsAimed r (go.top ∷ go.frames) u) code x.carrying (stands.steps + total) go (NotEntered items)
      (all_spared x.carrying (NotEntered items) b.entered None (go.top ∷ go.frames)) (λ e d none can h. aimed_still e d none h.0 h.1) (λ z h. tt)
      (stands_below known (IsAimed q here w) code x.carrying (stands.steps + total) m 0 go.top.frame (waiting_terminate m).frame rest go.world (facts.fits.carries.first m) led)

  pub barred_stands : StandsBy x.program x.image x.carrying x.tables r (before + turns) go u
  barred_stands = record {
    unit = b.unit ∙ stands.unit;
    base = b.base ∙ stands.base;
    tables_are = b.tables ∙ stands.tables_are;
    rests = inl b.matches;
    frozen = b.kept.memory ∙ stands.frozen;
    steps = stands.steps + total;
    stands = stands_there;
    founded = leads_founded code total st go stands.founded b.leads;
    selectors = leads_keep (regions_for x.program) x.carrying facts.fits facts.stops total stands.steps st go (unmarked_stands x.program x.image x.carrying x.tables q before st w stands) stands.selectors b.leads;
    handlers = leads_handled x.program x.carrying total stands.steps st go facts.fits (unmarked_stands x.program x.image x.carrying x.tables q before st w stands) stands.handlers b.leads;
    few = let few = stands.few in let less = b.few in omega (arith, few, less);
    reaches = b.reaches;
    hides = λ none. let no : true ≡ false = none in absurd (cc no);
    hidden = b.hidden;
    once = let none = none_kept in omega (arith, none);
    forced = λ z now. let no : None ≡ Some z = sym none_forced ∙ now in absurd (cc no);
  }
