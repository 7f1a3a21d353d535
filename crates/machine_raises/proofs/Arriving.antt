-- A pad that is installed is entered, and so much is done as becomes of the hart there.
use Rattle.std.proofs.Common.{◌≡◌, ◌∙◌, sym, ap, ℕ, ◌≤◌, ℤ, List, [], ◌∷◌, ◌++◌}
use Rattle.rv64_isa.specs.State.{State}
use Rattle.rv64_isa.specs.Step.{x}
use Rattle.elf_image.specs.Clean.{CleanImage}
use Rattle.eh_run.specs.Program.{program_of}
use Rattle.raise_core.specs.declared.raised.Raised.{Raised}
use Rattle.raise_core.specs.declared.raised.Raised.TheVariants.{Install}
use Rattle.cxa_runtime.specs.World as abi
use Rattle.cxa_runtime.specs.World.{at_hart}
use Rattle.cxa_runtime.specs.Raising.{Image, at_pad}
use Rattle.cxa_runtime.specs.Run.{counted}
use Rattle.region_forms.specs.World.{Word, World}
use Rattle.linear_forms.specs.Stub.{terminating}
use Rattle.linear_forms.specs.Activation.{Activation, State as LinearState, Next, goes_to, fetch}
use Rattle.linear_forms.specs.UnitRun.{code_of}
use Rattle.machine_forms.specs.Registers.{sp}
use Rattle.machine_pieces.specs.Turning.{SameRuntime}
use Rattle.image_tables.specs.Functions.{operation_at}
use Rattle.raise_simulation.specs.Opens.{activations, Judge}
use Rattle.raise_simulation.specs.Raises.{Lands}
use Rattle.machine_simulation.specs.Plan.{Plan}
use Rattle.machine_simulation.specs.Matches.{RuntimeMatches}
use Rattle.machine_simulation.specs.Operations.{Matched}
use Rattle.machine_raises.specs.Stacks.{IsRunning}
use Rattle.machine_raises.specs.Pads.{PadGets, PadsArePlain, FiltersAreInts}
use Rattle.machine_raises.proofs.OnStack.{OnStack}
use Rattle.machine_raises.proofs.Stacks.{top_opens, top_tail, top_are}
use Rattle.machine_raises.proofs.Passing.{Passed, pad_is, GoesByCalls, StopsStubs, inner_passed}
use Rattle.machine_raises.proofs.Selectors.{SelectsWhere, SelectsInts, inner_gone}
use Rattle.machine_raises.proofs.Filters.{filters_are_ints}
use Rattle.machine_raises.proofs.Entered.{split_activations, all_of, EntersPad}

-- what is installed, and the turns from there, where the runtime keeps as much
pub record LandsTo (image : Image) (st : LinearState) (words : ℕ) (R : abi.World → Type 0) (u : World) (k : abi.World) (value cfa table : ℕ) (P : ℤ → Type 0) (result : Raised × State) : Type 0 where
  pub pad : ℕ
  pub selector : ℤ
  pub after : State
  pub installs : result ≡ (Install pad selector cfa table, after)
  pub chosen : P selector
  pub world : st.world ≡ u
  pub ran : Matched image words (counted (at_pad value selector (at_hart after k))) [] (λ t. R t × SameRuntime k t)

same_kept : (k t : abi.World) → SameRuntime (counted k) t → SameRuntime k t
same_kept k t h = record {
  exceptions = h.exceptions;
  terminate_handler = h.terminate_handler;
  unexpected_handler = h.unexpected_handler;
  last_number = h.last_number;
  unwinding = h.unwinding;
  input = h.input;
  replies = h.replies;
  terminating = h.terminating;
}

module _ (p : Plan) (i : CleanImage) (a : Activation) (fs : List Activation) (v : World) (s : State) (running : IsRunning p i s) (h : OnStack p a fs v s) where
  pub lands_to : (words : ℕ) (R : Plan → abi.World → Type 0) (st : LinearState) → EntersPad i a st words R → (st.top.function ≡ terminating → ⊥) → (judge : Judge) (go : List Activation → Next) (u : World) (k : abi.World) (word : Word)
      (value cfa table : ℕ) (P : ℤ → Type 0) (result : Raised × State)
      (lands : Lands (code_of p.unit) (operation_at p.unit) word u s (x s sp) (top_opens p a fs v s h) (top_tail p a fs v s h) cfa table
      (go (activations (top_opens p a fs v s h) ++ top_tail p a fs v s h)) result) → GoesByCalls (code_of p.unit) judge go → StopsStubs judge → SelectsInts (code_of p.unit) go → SelectsWhere (code_of p.unit) go P →
      go (a ∷ fs) ≡ goes_to st → PadsArePlain p → FiltersAreInts p → u.memory ≡ v.memory → u.calls ≡ v.calls → v.last_number ≤ u.last_number → RuntimeMatches p fs u k → PadGets p u word value →
      LandsTo (program_of i).image st words (R p) u k value cfa table P result
  lands_to words R st enters live judge go u k word value cfa table P result lands goes stops selects chooses to plain ints memory count later runtime gets =
      let code = code_of p.unit in
      let opens = top_opens p a fs v s h in
      let tail = top_tail p a fs v s h in
      let landing = lands.landing in
      let rest = activations lands.outer ++ tail in
      let came : go (activations opens ++ tail) ≡ goes_to st = ap go (top_are p a fs v s h) ∙ to in
      let entered = pad_is (fetch code landing.activation.function lands.pad) word lands.selector landing.activation.function lands.pad landing.activation.frame rest u st (sym lands.enters ∙ came) in
      let frames : st.frames ≡ rest = ap (λ y. y.frames) entered.is in
      let whole : a ∷ fs ≡ activations lands.inner ++ landing.activation ∷ rest = sym (top_are p a fs v s h) ∙ (ap (λ os. activations os ++ tail) lands.split ∙ split_activations lands.inner landing lands.outer tail) in
      let split : go (activations lands.inner ++ landing.activation ∷ rest) ≡ goes_to st = ap go (sym whole) ∙ to in
      let passed = all_of (Passed code judge) lands.inner (inner_passed code judge go (activations lands.inner) landing.activation rest st goes split frames live) in
      let here = inner_gone code judge go (activations lands.inner) landing.activation rest st goes split frames live in
      let chain = filters_are_ints p landing.activation.function landing.activation.place lands.pad lands.chain ints lands.covers in
      let int = selects landing.activation rest st lands.pad lands.chain word lands.selector u here frames live lands.covers (sym lands.enters ∙ came) chain in
      let chosen = chooses landing.activation rest st lands.pad lands.chain word lands.selector u here frames live lands.covers (sym lands.enters ∙ came) chain in
      let kept : RuntimeMatches p fs u (counted k)
      = record { input = runtime.input; replies = runtime.replies; last_number = runtime.last_number; terminating = runtime.terminating; exceptions = runtime.exceptions; plan = runtime.plan } in
      let ran = enters p fs v s running h judge u (counted k) word value cfa table (go (activations opens ++ tail)) result lands passed stops came int plain memory count later kept gets in
      record {
        pad = operation_at p.unit landing.activation.function lands.pad;
        selector = lands.selector;
        after = lands.after;
        installs = lands.installs;
        chosen = chosen;
        world = ap (λ y. y.world) entered.is;
        ran = record { turns = ran.turns; few = ran.few; some = ran.some; after = ran.after; runs = ran.runs; holds = (ran.holds.0, same_kept k ran.after ran.holds.1) };
      }
