-- The pad that control comes to, over the frames of open calls and in linear code.
use Rattle.std.proofs.Common.{◌≡◌, ◌∙◌, refl, ap, sym, arith, ℕ, ◌+◌, ◌≤◌, ◌==◌, ℤ, pos, negsuc, true, false, List, [], ◌∷◌, ◌++◌, length, if◌then◌else◌}
use Rattle.std.specs.Prelude.{⊤, Some, None}
use Rattle.std.proofs.lemmas.Bool.Decides.{nat_tests}
use Rattle.table_forms.specs.declared.found.Verdict as abi
use Rattle.table_forms.specs.declared.found.Verdict.TheVariants as abi_verdicts
use Rattle.table_forms.specs.Fde.{Fde}
use Rattle.table_forms.specs.Verdict.{Thrown}
use Rattle.rv64_isa.specs.State.{State}
use Rattle.frame_walk.specs.declared.frame.Frame.{Frame}
use Rattle.raise_core.specs.declared.goal.Goal.{Goal}
use Rattle.raise_core.specs.declared.goal.Goal.TheVariants as goals
use Rattle.raise_core.specs.declared.asked.Target.{Target}
use Rattle.raise_core.specs.Asked.{verdict_of}
use Rattle.raise_core.specs.First.{stops, first_in}
use Rattle.raise_core.specs.Raise.{installed, installs, enters}
use Rattle.region_forms.specs.World.{Word, flying, World, type_at}
use Rattle.linear_forms.specs.Tables.{Cover, bare, unpadded, padded}
use Rattle.linear_forms.specs.Verdict.{Verdict, target, no_way, clean, nothing_here}
use Rattle.linear_forms.specs.Stub.{Function}
use Rattle.linear_forms.specs.Activation.{Code, Activation, Next, finishes, fault, fetch, sense}
use Rattle.linear_forms.specs.Search.{found_by, found_at, found_above}
use Rattle.linear_forms.specs.Unwinding.{pad_entered, unwound_by, unwound_at, unwound_above}
use Rattle.raise_simulation.specs.OpenCalls.{CallsStand, regs_at, outward, frames_of, outer_sp}
use Rattle.raise_simulation.specs.Tables.{said}
use Rattle.raise_simulation.specs.Verdicts.{in_words, told_of, judged_by, cover_of}
use Rattle.raise_simulation.specs.Opens.{Open, activations, calls, TablesAgree}
use Rattle.raise_simulation.specs.Raises.{InFrame}
use Rattle.raise_simulation.proofs.Outward.{IsFrame, outward_frame}
use Rattle.raise_simulation.proofs.Asking.{verdict_is, stops_here, passes_here}
use Rattle.raise_simulation.proofs.Registers.{all_length, pointer_set}
use Rattle.raise_simulation.proofs.Keeping.{saved_in, outward_saved, installed_saved}
use Rattle.raise_simulation.proofs.Searching.{none_and_some}

-- the selector that a pad is given by a verdict
abbrev pub IsGiven : Verdict → ℤ → Type 0
IsGiven (target n) k = k ≡ n
IsGiven clean k = k ≡ pos 0
IsGiven v k = ⊥

-- a frame with such a verdict is entered at its pad
pub enters_words : (s : State) (g : Frame) (to : Target) (pad : ℕ) (v : Verdict) (k : ℤ) → IsGiven v k → enters s g to (in_words pad v) ≡ installs s g to pad k
enters_words s g to pad (target (pos n)) k is = ap (installs s g to pad) (sym is)
enters_words s g to pad (target (negsuc n)) k is = ap (installs s g to pad) (sym is)
enters_words s g to pad no_way k is = absurd is
enters_words s g to pad clean k is = ap (installs s g to pad) (sym is)
enters_words s g to pad nothing_here k is = absurd is

-- and the hart is then in that frame
pub in_frame : (s : State) (g : Frame) (pad sp : ℕ) (regs : List ℕ) → length s.regs ≡ 32 → IsFrame g sp → saved_in g ≡ regs → InFrame pad sp regs s (installed g pad s)
in_frame s g pad sp regs many h saved = record {
  pc = refl;
  pointer = pointer_set g.regs s.regs many ∙ h.pointer;
  saved = installed_saved s g pad many ∙ saved;
  registers = all_length 32 0 g.regs s.regs ∙ many;
  memory = refl;
}

module _ (code : Code) (at : Function → ℕ → ℕ) (fdes : List Fde) (thrown : Thrown) (s : State) (tail : List Activation) (rest : List Frame) (goal : Goal) (Ready : Frame → Verdict → Type 0) (word : Word) (w : World) where
  -- the first frame at which a phase stops is that of the call whose pad linear code enters
  pub record Comes (next : Next) (f : Frame) (sp : ℕ) (opens : List Open) : Type 0 where
    pub inner : List Open
    pub landing : Open
    pub outer : List Open
    pub split : opens ≡ inner ++ landing ∷ outer
    pub pad : ℕ
    pub chain : List ℤ
    pub covers : cover_of code landing.activation ≡ padded pad chain
    pub selector : ℤ
    pub enters : next ≡ pad_entered (fetch code landing.activation.function pad) word selector landing.activation.function pad landing.activation.frame (activations outer ++ tail) w
    pub frame : Frame
    pub is_frame : IsFrame frame (outer_sp sp (calls inner))
    pub saved : saved_in frame ≡ regs_at (calls inner) (saved_in f)
    pub first : first_in s fdes thrown goal (frames_of f sp (calls opens) ++ rest) ≡ Some frame
    pub verdict : Verdict
    pub says : verdict_of s fdes thrown frame ≡ in_words (at landing.activation.function pad) verdict
    pub given : IsGiven verdict selector
    pub ready : Ready frame verdict

  -- it is that of the first call
  pub comes_here : (next : Next) (f : Frame) (sp : ℕ) (o : Open) (os : List Open) (p : ℕ) (chain : List ℤ) (v : Verdict) (k : ℤ) → IsFrame f sp → cover_of code o.activation ≡ padded p chain →
      verdict_of s fdes thrown f ≡ in_words (at o.activation.function p) v → IsGiven v k → stops fdes goal f (in_words (at o.activation.function p) v) ≡ true → Ready f v →
      next ≡ pad_entered (fetch code o.activation.function p) word k o.activation.function p o.activation.frame (activations os ++ tail) w → Comes next f sp (o ∷ os)
  comes_here next f sp o os p chain v k h covers says given here ready e = record {
    inner = [];
    landing = o;
    outer = os;
    split = refl;
    pad = p;
    chain = chain;
    covers = covers;
    selector = k;
    enters = e;
    frame = f;
    is_frame = h;
    saved = refl;
    first = stops_here s fdes thrown goal f (frames_of (outward f sp o.call) (sp + o.call.size) (calls os) ++ rest) (in_words (at o.activation.function p) v) says here;
    verdict = v;
    says = says;
    given = given;
    ready = ready;
  }

  -- or that of one behind it
  pub comes_behind : (next : Next) (f : Frame) (sp : ℕ) (o : Open) (os : List Open) (v : abi.Verdict) → length o.call.saved ≤ 10 → verdict_of s fdes thrown f ≡ v → stops fdes goal f v ≡ false →
      Comes next (outward f sp o.call) (sp + o.call.size) os → Comes next f sp (o ∷ os)
  comes_behind next f sp o os v few says passes more = record {
    inner = o ∷ more.inner;
    landing = more.landing;
    outer = more.outer;
    split = ap (λ l. o ∷ l) more.split;
    pad = more.pad;
    chain = more.chain;
    covers = more.covers;
    selector = more.selector;
    enters = more.enters;
    frame = more.frame;
    is_frame = more.is_frame;
    saved = more.saved ∙ ap (regs_at (calls more.inner)) (outward_saved f sp o.call few);
    first = passes_here s fdes thrown goal f (frames_of (outward f sp o.call) (sp + o.call.size) (calls os) ++ rest) v says passes ∙ more.first;
    verdict = more.verdict;
    says = more.says;
    given = more.given;
    ready = more.ready;
  }

-- ---- phase two of a raise that has a target

abbrev pub Any : Frame → Verdict → Type 0
Any g v = ⊤

has_pad_words : (fdes : List Fde) (f : Frame) (pad : ℕ) (n : ℤ) → stops fdes goals.Pad f (in_words pad (target n)) ≡ true
has_pad_words fdes f pad (pos n) = refl
has_pad_words fdes f pad (negsuc n) = refl

module _ (code : Code) (at : Function → ℕ → ℕ) (fdes : List Fde) (thrown : Thrown) (s : State) (tail : List Activation) (rest : List Frame) (e d : ℕ) (w : World) where
  abbrev Landed : Next → Frame → ℕ → List Open → Type 0
  Landed next f sp opens = Comes code at fdes thrown s tail rest goals.Pad Any (flying e d) w next f sp opens

  pub lands : (opens : List Open) (f : Frame) (sp : ℕ) → IsFrame f sp → CallsStand s fdes f.pc sp (calls opens) → TablesAgree code at (λ a. judged_by code a (type_at w e)) (said s fdes thrown) f.pc opens →
      found_above code (type_at w e) tail ≡ None → found_above code (type_at w e) (activations opens ++ tail) ≡ Some d → Landed (unwound_above code d e (activations opens ++ tail) w) f sp opens
  lands [] f sp h stand agree none found = absurd (none_and_some (found_above code (type_at w e) tail) d none found)
  lands (o ∷ os) f sp h stand agree none found =
      by (λ found. lands os (outward f sp o.call) (sp + o.call.size) (outward_frame s fdes f.pc f sp o.call stand.0) stand.1 agree.1 none found) (cover_of code o.activation) refl found
    where
      a : Activation
      a = o.activation

      few : length o.call.saved ≤ 10
      few = stand.0.few

      v_is : (c : Cover) → cover_of code a ≡ c → verdict_of s fdes thrown f ≡ told_of (at a.function) c (judged_by code a (type_at w e))
      v_is c is = verdict_is s fdes thrown f h.plain ∙ agree.0 ∙ ap (λ x. told_of (at a.function) x (judged_by code a (type_at w e))) is

      by_verdict : (found_above code (type_at w e) (activations os ++ tail) ≡ Some d → Landed (unwound_above code d e (activations os ++ tail) w) (outward f sp o.call) (sp + o.call.size) os) →
          (p : ℕ) (chain : List ℤ) (v : Verdict) → cover_of code a ≡ padded p chain → verdict_of s fdes thrown f ≡ in_words (at a.function p) v →
          found_by v (length (activations os ++ tail)) (found_above code (type_at w e) (activations os ++ tail)) ≡ Some d →
          Landed (unwound_by code v p d e a.function a.frame (activations os ++ tail) w (unwound_above code d e (activations os ++ tail) w)) f sp (o ∷ os)
      by_verdict next p chain (target n) covers says found =
          let depth : length (activations os ++ tail) ≡ d = cc found in
          let same : (length (activations os ++ tail) == d) ≡ true = grind (arith, nat_tests, depth) in
          comes_here code at fdes thrown s tail rest goals.Pad Any (flying e d) w _ f sp o os p chain (target n) n h covers says refl (has_pad_words fdes f (at a.function p) n) tt
          (ap (λ b. if b then pad_entered (fetch code a.function p) (flying e d) n a.function p a.frame (activations os ++ tail) w else finishes fault w) same)
      by_verdict next p chain no_way covers says found = absurd (cc found)
      by_verdict next p chain clean covers says found =
          comes_here code at fdes thrown s tail rest goals.Pad Any (flying e d) w _ f sp o os p chain clean (pos 0) h covers says refl refl tt refl
      by_verdict next p chain nothing_here covers says found =
          comes_behind code at fdes thrown s tail rest goals.Pad Any (flying e d) w _ f sp o os abi_verdicts.Nothing few says refl (next found)

      by : (found_above code (type_at w e) (activations os ++ tail) ≡ Some d → Landed (unwound_above code d e (activations os ++ tail) w) (outward f sp o.call) (sp + o.call.size) os) →
          (c : Cover) → cover_of code a ≡ c → found_at code.rows (sense code a.function) c (type_at w e) (length (activations os ++ tail)) (found_above code (type_at w e) (activations os ++ tail)) ≡ Some d →
          Landed (unwound_at code c d e a.function a.frame (activations os ++ tail) w (unwound_above code d e (activations os ++ tail) w)) f sp (o ∷ os)
      by next bare is found = absurd (cc found)
      by next unpadded is found = comes_behind code at fdes thrown s tail rest goals.Pad Any (flying e d) w _ f sp o os abi_verdicts.Nothing few (v_is unpadded is) refl (next found)
      by next (padded p chain) is found = by_verdict next p chain (judged_by code a (type_at w e) chain) is (v_is (padded p chain) is) found
