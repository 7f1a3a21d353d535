-- An exception that is raised comes to a pad.
use Rattle.std.proofs.Common.{◌≡◌, ◌∙◌, refl, ap, subst, ℕ, ◌≤◌, ℤ, List, [], ◌∷◌, ◌++◌, length, Option, Some}
use Rattle.rv64_isa.specs.State.{State}
use Rattle.rv64_isa.specs.Step.{x}
use Rattle.elf_image.specs.Clean.{CleanImage}
use Rattle.caught_stack.specs.Allocate.{with_header}
use Rattle.caught_stack.specs.Exceptions.{Exceptions}
use Rattle.raise_core.specs.Raise as unwinder
use Rattle.cxa_runtime.specs.declared.object.Object.{Object}
use Rattle.cxa_runtime.specs.Objects.{object_of}
use Rattle.cxa_runtime.specs.World as abi
use Rattle.cxa_runtime.specs.World.{at_hart, with_exceptions}
use Rattle.cxa_runtime.specs.Raising.{at_pad, raised_as, raises}
use Rattle.cxa_runtime.specs.Flying.{aimed}
use Rattle.cxa_runtime.specs.Run.{counted}
use Rattle.eh_run.specs.Program.{program_of}
use Rattle.region_forms.specs.World.{flying, World, type_at}
use Rattle.linear_forms.specs.Search.{found_above}
use Rattle.linear_forms.specs.Unwinding.{unwound_above}
use Rattle.linear_forms.specs.Stub.{compiled, terminating}
use Rattle.linear_forms.specs.Activation.{Activation, State as LinearState, goes_to}
use Rattle.linear_forms.specs.UnitRun.{code_of}
use Rattle.machine_forms.specs.Registers.{sp}
use Rattle.image_forms.specs.Linkable.{BaseIsThere}
use Rattle.machine_pieces.specs.Numbers.{IsInt}
use Rattle.machine_pieces.specs.Turning.{SameRuntime}
use Rattle.table_verdicts.specs.Types.{thrown_as}
use Rattle.image_tables.specs.Functions.{records_end, operation_at}
use Rattle.raise_simulation.specs.Opens.{activations, calls, cfa_with, table_with}
use Rattle.raise_simulation.specs.OpenCalls.{outer_ip}
use Rattle.raise_simulation.specs.Tables.{said}
use Rattle.raise_simulation.specs.Raises.{Lands, RaisesAgree}
use Rattle.raise_simulation.specs.Verdicts.{judged_by}
use Rattle.machine_simulation.specs.Plan.{Plan}
use Rattle.machine_simulation.specs.Matches.{RuntimeMatches}
use Rattle.machine_simulation.specs.Operations.{Matched}
use Rattle.machine_raises.specs.Stacks.{IsRunning}
use Rattle.machine_raises.specs.Pads.{PadGets, PadsArePlain, FiltersAreInts}
use Rattle.machine_raises.specs.Targets.{target_end, target_call}
use Rattle.machine_raises.proofs.Aiming.{tail_below, whole_end}
use Rattle.machine_raises.proofs.OnStack.{OnStack}
use Rattle.machine_raises.proofs.Stacks.{top_opens, top_tail, top_are, top_raised}
use Rattle.machine_raises.proofs.Tables.{whole_table}
use Rattle.machine_raises.proofs.Passing.{raise_goes, raise_stops}
use Rattle.machine_raises.proofs.Selectors.{raise_selects}
use Rattle.machine_raises.proofs.Entered.{EntersPad}
use Rattle.machine_raises.proofs.Arriving.{lands_to}

-- The world behind the call, and the turns from there. The target is the call below which d calls wait.
pub record RaiseLands (p : Plan) (i : CleanImage) (words : ℕ) (R : abi.World → Type 0) (st : LinearState) (u : World) (before : Exceptions) (o : Object) (t : Option ℕ) (d : ℕ) (frames : List Activation) (w : abi.World) (cfa : ℕ) : Type 0 where
  pub next : abi.World
  pub effect : raises (program_of i).image before o (thrown_as (records_end p.unit) p.unit.types t) w ≡ abi.goes next
  pub shown : next.shown ≡ w.shown
  pub world : st.world ≡ u
  pub table : ℕ
  pub owned : (n : ℕ) → target_call d frames ≡ Some (compiled n) → table ≡ p.tables n
  pub exceptions : next.exceptions ≡ with_header o.slot (aimed cfa table o.header) w.exceptions
  pub unwinding : next.unwinding ≡ w.unwinding
  pub ran : Matched (program_of i).image words (counted next) [] (λ u. R u × SameRuntime next u)

same_kept : (k t : abi.World) (object : ℕ) (selector : ℤ) (y : State) → SameRuntime k t → SameRuntime (at_pad object selector (at_hart y k)) t
same_kept k t object selector y h = record {
  exceptions = h.exceptions;
  terminate_handler = h.terminate_handler;
  unexpected_handler = h.unexpected_handler;
  last_number = h.last_number;
  unwinding = h.unwinding;
  input = h.input;
  replies = h.replies;
  terminating = h.terminating;
}

module _ (p : Plan) (i : CleanImage) (a : Activation) (fs : List Activation) (v : World) (s : State) (running : IsRunning p i s) (h : OnStack p a fs v s) where
  abbrev pub raised_cfa : ℕ → ℕ
  raised_cfa d = cfa_with d (length (top_tail p a fs v s h)) (x s sp) (top_opens p a fs v s h)

  abbrev pub raised_table : ℕ → ℕ
  raised_table d = table_with (program_of i).image.fdes d (length (top_tail p a fs v s h)) s.pc (top_opens p a fs v s h)

  with_lands : (words : ℕ) (R : Plan → abi.World → Type 0) (st : LinearState) → EntersPad i a st words R → (st.top.function ≡ terminating → ⊥) → (u : World) (w : abi.World) (e d : ℕ) (t : Option ℕ) (before : Exceptions) (o : Object) → w.hart ≡ s → type_at u e ≡ t →
      Lands (code_of p.unit) (operation_at p.unit) (flying e d) u s (x s sp) (top_opens p a fs v s h) (top_tail p a fs v s h) (raised_cfa d) (raised_table d)
      (unwound_above (code_of p.unit) d e (activations (top_opens p a fs v s h) ++ top_tail p a fs v s h) u) (unwinder.raise (program_of i).image.fdes (thrown_as (records_end p.unit) p.unit.types t) s) →
      length (top_tail p a fs v s h) ≤ d → unwound_above (code_of p.unit) d e (a ∷ fs) u ≡ goes_to st → PadsArePlain p → FiltersAreInts p → u.memory ≡ v.memory → u.calls ≡ v.calls → v.last_number ≤ u.last_number →
      RuntimeMatches p fs u (with_exceptions (with_header o.slot (aimed (raised_cfa d) (raised_table d) o.header) w.exceptions) w) → PadGets p u (flying e d) (object_of o.slot) →
      RaiseLands p i words (R p) st u before o t d (a ∷ fs) w (raised_cfa d)
  with_lands words R st enters live u w e d t before o hart type lands low unwound plain ints memory count later runtime gets =
      let code = code_of p.unit in
      let image = (program_of i).image in
      let raised = unwinder.raise image.fdes (thrown_as (records_end p.unit) p.unit.types t) in
      let cfa = raised_cfa d in
      let table = raised_table d in
      let kept : abi.World = with_exceptions (with_header o.slot (aimed cfa table o.header) w.exceptions) w in
      let goes = raise_goes code d e u in
      let selects = raise_selects code d e u goes in
      let to = lands_to p i a fs v s running h words R st enters live (λ b. judged_by code b (type_at u e)) (λ xs. unwound_above code d e xs u) u kept (flying e d) (object_of o.slot) cfa table IsInt (raised s) lands goes
      (raise_stops code (type_at u e)) selects selects unwound plain ints memory count later runtime gets in
      record {
        next = at_pad (object_of o.slot) to.selector (at_hart to.after kept);
        effect = ap (λ y. raised_as image.places before o w (raised y)) hart ∙ ap (raised_as image.places before o w) to.installs;
        shown = refl;
        world = to.world;
        table = table;
        owned = λ n is. whole_table p i a fs v s running h d n low is;
        exceptions = refl;
        unwinding = refl;
        ran = record { turns = to.ran.turns; few = to.ran.few; some = to.ran.some; after = to.ran.after; runs = to.ran.runs; holds = (to.ran.holds.0, same_kept kept to.ran.after (object_of o.slot) to.selector to.after to.ran.holds.1) };
      }

  pub raise_lands : RaisesAgree → (words : ℕ) (R : Plan → abi.World → Type 0) (st : LinearState) → EntersPad i a st words R → (st.top.function ≡ terminating → ⊥) → (u : World) (w : abi.World) (e d : ℕ) (t : Option ℕ) (before : Exceptions) (o : Object) → w.hart ≡ s →
      BaseIsThere (length p.unit.types) t → type_at u e ≡ t → found_above (code_of p.unit) t (a ∷ fs) ≡ Some d → unwound_above (code_of p.unit) d e (a ∷ fs) u ≡ goes_to st → PadsArePlain p → FiltersAreInts p →
      u.memory ≡ v.memory → u.calls ≡ v.calls → v.last_number ≤ u.last_number →
      ((cfa table : ℕ) → RuntimeMatches p fs u (with_exceptions (with_header o.slot (aimed cfa table o.header) w.exceptions) w)) → PadGets p u (flying e d) (object_of o.slot) →
      RaiseLands p i words (R p) st u before o t d (a ∷ fs) w (target_end p d (x s sp) (a ∷ fs))
  raise_lands agree words R st enters live u w e d t before o hart known type found unwound plain ints memory count later runtime gets =
      let code = code_of p.unit in
      let opens = top_opens p a fs v s h in
      let tail = top_tail p a fs v s h in
      let stands = top_raised p i a fs v s running h t known in
      let there = ap (found_above code t) (top_are p a fs v s h) ∙ found in
      let lands = agree.found code (operation_at p.unit) (program_of i).image.fdes (thrown_as (records_end p.unit) p.unit.types t) t e d u s (x s sp) opens tail stands type there in
      let low = tail_below code t (program_of i).image.fdes (said s (program_of i).image.fdes (thrown_as (records_end p.unit) p.unit.types t)) (outer_ip s.pc (calls opens)) d (activations opens) tail there stands.ends in
      subst (RaiseLands p i words (R p) st u before o t d (a ∷ fs) w) (whole_end p a fs v s h d low)
      (with_lands words R st enters live u w e d t before o hart type lands low unwound plain ints memory count later (runtime (raised_cfa d) (raised_table d)) gets)
