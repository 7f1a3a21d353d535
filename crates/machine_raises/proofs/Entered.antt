-- A pad that the unwinder has installed is entered.
use Rattle.std.proofs.Common.{◌≡◌, ◌∙◌, refl, sym, ap, subst, arith, ℕ, ◌+◌, ◌≤◌, List, [], ◌∷◌, ◌++◌, length, append_assoc, Option, Some, None}
use Rattle.std.specs.Prelude.{slice_get}
use Rattle.std.specs.List.{AllByRecursion}
use Rattle.std.proofs.lemmas.List.{map-append}
use Rattle.rv64_isa.specs.State.{State, reg_of, with_reg}
use Rattle.rv64_isa.specs.Step.{x}
use Rattle.raise_core.specs.declared.raised.Raised.{Raised}
use Rattle.elf_image.specs.Clean.{CleanImage}
use Rattle.eh_run.specs.Program.{program_of}
use Rattle.cxa_runtime.specs.World as abi
use Rattle.cxa_runtime.specs.Raising.{at_pad}
use Rattle.region_forms.specs.World.{Word, nothing, number_word, address_word, flying, unwinding, World}
use Rattle.linear_forms.specs.Linear.{LinearOp, pad}
use Rattle.linear_forms.specs.Stub.{compiled, terminating, linear}
use Rattle.linear_forms.specs.Activation.{Activation, State as LinearState, Next, goes_to, compiled_op, fetch}
use Rattle.linear_forms.specs.UnitRun.{code_of}
use Rattle.machine_forms.specs.Registers.{sp}
use Rattle.machine_forms.specs.Routine.{op_word}
use Rattle.machine_pieces.specs.Numbers.{IsInt, extended}
use Rattle.machine_pieces.specs.Standing.{address}
use Rattle.machine_pieces.specs.Turning.{SameRuntime}
use Rattle.machine_pieces.proofs.Registers.{set_length, read_same, read_other}
use Rattle.image_tables.specs.Functions.{records_end, operation_at}
use Rattle.machine_pieces.specs.Keeping.{saved_of, outward}
use Rattle.machine_pieces.proofs.Keeping.{given_saved}
use Rattle.raise_simulation.specs.OpenCalls.{outer_sp, regs_at}
use Rattle.raise_simulation.specs.Opens.{Open, activations, calls, Judge}
use Rattle.raise_simulation.specs.Raises.{Lands}
use Rattle.machine_simulation.specs.Plan.{Plan, function, shape, routine, first_word, setting}
use Rattle.machine_simulation.specs.Calls.{CallsWait}
use Rattle.machine_simulation.specs.Exceptions.{destroyed}
use Rattle.machine_simulation.specs.Matches.{RuntimeMatches, MemoryMatches, Matches}
use Rattle.machine_simulation.specs.Operations.{Matched}
use Rattle.machine_simulation.specs.Returns.{closed}
use Rattle.machine_simulation.specs.KeptCalls.{KeptCall, KeptCalls, RegistersMatch}
use Rattle.machine_simulation.proofs.KeptClosed.{registers_popped}
use Rattle.machine_simulation.proofs.Lines.{matches_alike, registers_alike}
use Rattle.machine_raises.specs.Stacks.{IsRunning}
use Rattle.machine_raises.specs.Pads.{PadGets, PadsArePlain, AtPad, behind_pad}
use Rattle.machine_raises.specs.Targets.{call_size}
use Rattle.machine_raises.proofs.Waiting.{opens_of, tail_of, all_are}
use Rattle.machine_raises.proofs.OnStack.{OwnFrame, OwnKept, OnStack, own_outward, own_small}
use Rattle.machine_raises.proofs.Stacks.{top_open, top_opens, top_tail}
use Rattle.machine_raises.proofs.Pads.{pads_run}
use Rattle.machine_raises.proofs.Passing.{Passed, StopsStubs, pad_is}
use Rattle.machine_raises.proofs.Landing.{same_first, same_others, landed, newest_again, runtime_to}

-- ---- the landing among open calls
pub split_activations : (inner : List Open) (landing : Open) (outer : List Open) (tail : List Activation) →
    activations (inner ++ landing ∷ outer) ++ tail ≡ activations inner ++ landing.activation ∷ (activations outer ++ tail)
split_activations inner landing outer tail =
    ap (λ xs. xs ++ tail) (map-append (λ o. o.activation) inner (landing ∷ outer)) ∙ append_assoc (activations inner) (landing.activation ∷ activations outer) tail

pub all_of : (P : Activation → Type 0) (os : List Open) → AllByRecursion P (activations os) → AllByRecursion (λ o. P o.activation) os
all_of P [] all = tt
all_of P (o ∷ os) all = (all.0, all_of P os all.1)

-- memory where the landing's call is the newest, and registers that hold what the calls inside it have saved
pub record HasLanded (p : Plan) (m : ℕ) (a : Activation) (fs rest : List Activation) (v : World) (s : State) (stack : ℕ) (regs : List ℕ) : Type 0 where
  pub back : ℕ
  pub memory : MemoryMatches (closed p a.frame.call) m a.frame rest v s.memory stack back
  pub none : destroyed fs ≡ destroyed rest
  pub kept : RegistersMatch (closed p a.frame.call) m a.frame rest v s.memory stack regs

module _ (p : Plan) (a : Activation) (fs : List Activation) (v : World) (s : State) (h : OnStack p a fs v s) where
  has_landed : (judge : Judge) (m : ℕ) (inner : List Open) (landing : Open) (outer : List Open) → top_opens p a fs v s h ≡ inner ++ landing ∷ outer →
      AllByRecursion (λ o. Passed (code_of p.unit) judge o.activation) inner → StopsStubs judge → landing.activation.function ≡ compiled m →
      HasLanded p m landing.activation fs (activations outer ++ top_tail p a fs v s h) v s (outer_sp (x s sp) (calls inner)) (regs_at (calls inner) (saved_of s))
  unfolding top_opens top_tail
  has_landed judge m [] landing outer is passed stops callee =
      let here : Open = top_open p a fs v s h in
      let opens = opens_of p fs v s.memory (x s sp + h.size) h.back h.limit h.before h.waiting h.kept in
      let tail = tail_of p fs v s.memory (x s sp + h.size) h.back h.limit h.waiting in
      let same : here ≡ landing = same_first here landing opens outer is in
      let others : fs ≡ activations outer ++ tail
      = sym (all_are p fs v s.memory (x s sp + h.size) h.back h.limit h.before h.waiting h.kept) ∙ ap (λ os. activations os ++ tail) (same_others here landing opens outer is) in
      let function : a.function ≡ compiled m = ap (λ o. o.activation.function) same ∙ callee in
      let size : h.size ≡ (shape p m).size = sym h.called ∙ ap (call_size p) function in
      let own : OwnFrame p (compiled m) a v s.memory (x s sp) h.back h.limit = subst (λ f. OwnFrame p f a v s.memory (x s sp) h.back h.limit) function h.own in
      let waiting : CallsWait p (activations outer ++ tail) v s.memory (x s sp + (shape p m).size) h.back a.frame.call
      = subst (λ c. CallsWait p (activations outer ++ tail) v s.memory (x s sp + (shape p m).size) h.back c) (sym own.0)
      (subst (λ k. CallsWait p (activations outer ++ tail) v s.memory (x s sp + k) h.back h.limit) size (subst (λ xs. CallsWait p xs v s.memory (x s sp + h.size) h.back h.limit) others h.waiting)) in
      let memory = newest_again p m h.limit (activations outer ++ tail) a v s.memory (x s sp) h.back h.around (omega (arith, own.0, own.1)) own.2 waiting in
      let keeps : KeptCall p m a.frame v s.memory (x s sp) (saved_of s) h.before = subst (λ f. OwnKept p f a v s.memory (x s sp) (saved_of s) h.before) function h.keeps in
      let kept : KeptCalls p (activations outer ++ tail) v s.memory (x s sp + (shape p m).size) h.before
      = subst (λ k. KeptCalls p (activations outer ++ tail) v s.memory (x s sp + k) h.before) size (subst (λ xs. KeptCalls p xs v s.memory (x s sp + h.size) h.before) others h.kept) in
      let registers = registers_popped p m a.frame (activations outer ++ tail) v s.memory (x s sp) h.back (saved_of s) h.before h.small keeps waiting kept in
      subst (λ o. HasLanded p m o.activation fs (activations outer ++ tail) v s (x s sp) (saved_of s)) same (record { back = h.back; memory = memory; none = ap destroyed others; kept = registers })
  has_landed judge m (o ∷ inner) landing outer is passed stops callee =
      let here : Open = top_open p a fs v s h in
      let opens = opens_of p fs v s.memory (x s sp + h.size) h.back h.limit h.before h.waiting h.kept in
      let tail = tail_of p fs v s.memory (x s sp + h.size) h.back h.limit h.waiting in
      let same : here ≡ o = same_first here o opens (inner ++ landing ∷ outer) is in
      let behind = own_small p a.function a v s.memory (x s sp) (saved_of s) h.before h.keeps h.small refl in
      let there = landed p judge m fs v s.memory (x s sp + h.size) h.back h.limit h.before h.waiting h.kept behind.0 behind.1 inner landing outer (same_others here o opens (inner ++ landing ∷ outer) is) passed.1 stops callee in
      let less = there.less in
      let newest = h.around.newest in
      let low : ℕ = outer_sp (x s sp + h.size) (calls inner) in
      let whole : HasLanded p m landing.activation fs (activations outer ++ tail) v s low (regs_at (calls inner) h.before) = record {
        back = there.back;
        memory = newest_again p m h.limit (activations outer ++ tail) landing.activation v s.memory low there.back h.around (omega (arith, less, newest)) there.stands there.waiting;
        none = there.none;
        kept = registers_popped p m landing.activation.frame (activations outer ++ tail) v s.memory low there.back (regs_at (calls inner) h.before) there.before there.small there.keeps there.waiting there.kept;
      } in
      subst (λ y. HasLanded p m landing.activation fs (activations outer ++ tail) v s (outer_sp (x s sp + y.call.size) (calls inner)) (regs_at (calls inner) (outward y.call.saved (saved_of s)))) same
      (subst (λ rs. HasLanded p m landing.activation fs (activations outer ++ tail) v s low (regs_at (calls inner) rs)) (own_outward p a.function a v s.memory (x s sp) (saved_of s) h.before h.keeps) whole)

-- ---- the operation that is fetched
pub fetched_there : (p : Plan) (m place object selector : ℕ) (o : Option LinearOp) → compiled_op o ≡ Some (linear (pad object selector)) → o ≡ Some (pad object selector)
fetched_there p m place object selector None e = absurd (cc e)
fetched_there p m place object selector (Some q) e = let same : q ≡ pad object selector = cc e in ap Some same

-- ---- the hart in the pad
pub pad_hart : (s : State) (value selector : ℕ) → length s.regs ≡ 32 → (length (with_reg (with_reg s.regs 10 value) 11 selector) ≡ 32) × (reg_of (with_reg (with_reg s.regs 10 value) 11 selector) 10 ≡ value) ×
    (reg_of (with_reg (with_reg s.regs 10 value) 11 selector) 11 ≡ selector) × (reg_of (with_reg (with_reg s.regs 10 value) 11 selector) 2 ≡ reg_of s.regs 2)
pad_hart s value selector all =
    let one = set_length s.regs 10 value in
    let two = set_length (with_reg s.regs 10 value) 11 selector in (
      two ∙ (one ∙ all),
      read_other (with_reg s.regs 10 value) 11 10 selector (λ e. absurd (omega (arith, e))) ∙ read_same s.regs 10 value (λ e. absurd (omega (arith, e))) (omega (arith, all)),
      read_same (with_reg s.regs 10 value) 11 selector (λ e. absurd (omega (arith, e))) (omega (arith, one, all)),
      read_other (with_reg s.regs 10 value) 11 2 selector (λ e. absurd (omega (arith, e))) ∙ read_other s.regs 10 2 value (λ e. absurd (omega (arith, e))),
    )

word_of_pad : (p : Plan) (m place : ℕ) → p.base ≡ records_end p.unit → operation_at p.unit (compiled m) place ≡ address (setting p m).ground (first_word p m + op_word (routine p m) place)
word_of_pad p m place base = omega (arith, base)

-- ---- a hart in a pad
-- What becomes of a hart that the unwinder, called from an open call, has put into the pad that linear code's next state has entered: so many
-- turns on at most, this holds by the plan. The calls inside the landing are passed, and the runtime keeps as much.
abbrev pub EntersPad : (i : CleanImage) (a : Activation) (st : LinearState) (words : ℕ) (R : Plan → abi.World → Type 0) → Type 0
EntersPad i a st words R = (p : Plan) (fs : List Activation) (v : World) (s : State) → IsRunning p i s → (h : OnStack p a fs v s) (judge : Judge) (u : World) (w : abi.World) (word : Word) (value cfa table : ℕ) (next : Next) (result : Raised × State)
    (lands : Lands (code_of p.unit) (operation_at p.unit) word u s (x s sp) (top_opens p a fs v s h) (top_tail p a fs v s h) cfa table next result) → AllByRecursion (λ o. Passed (code_of p.unit) judge o.activation) lands.inner → StopsStubs judge →
    next ≡ goes_to st → IsInt lands.selector → PadsArePlain p → u.memory ≡ v.memory → u.calls ≡ v.calls → v.last_number ≤ u.last_number → RuntimeMatches p fs u w → PadGets p u word value →
    Matched (program_of i).image words (at_pad value lands.selector (abi.at_hart lands.after w)) [] (λ t. R p t × SameRuntime w t)

pub kept_in_pad : (w t : abi.World) (value selector : ℕ) (s : State) → SameRuntime (abi.gives_both value selector (abi.at_hart s w)) t → SameRuntime w t
kept_in_pad w t value selector s h = record {
  exceptions = h.exceptions;
  terminate_handler = h.terminate_handler;
  unexpected_handler = h.unexpected_handler;
  last_number = h.last_number;
  unwinding = h.unwinding;
  input = h.input;
  replies = h.replies;
  terminating = h.terminating;
}

pub gets_closed : (p : Plan) (u : World) (c : ℕ) (word : Word) (value : ℕ) → PadGets p u word value → PadGets (closed p c) u word value
gets_closed p u c nothing value gets = gets
gets_closed p u c (number_word z) value gets = gets
gets_closed p u c (address_word b) value gets = gets
gets_closed p u c (flying e d) value gets = gets
gets_closed p u c (unwinding k) value gets = gets

-- what a compiled function's landing comes to, behind the pad's two words
abbrev pub Arrived : LinearState → Plan → abi.World → Type 0
Arrived st p t = Matches (closed p st.top.frame.call) st t

-- a compiled function is not terminate
pub compiled_lives : (st : LinearState) (m : ℕ) → st.top.function ≡ compiled m → st.top.function ≡ terminating → ⊥
compiled_lives st m callee ends = let both : compiled m ≡ terminating = sym callee ∙ ends in absurd (cc both)

pub pad_entered_runs : (i : CleanImage) (a : Activation) (st : LinearState) (m : ℕ) → st.top.function ≡ compiled m → EntersPad i a st 2 (Arrived st)
pad_entered_runs i a st m callee p fs v s running h judge u w word value cfa table next result lands passed stops to int plain ints count later runtime gets =
    let code = code_of p.unit in
    let image = (program_of i).image in
    let tail = top_tail p a fs v s h in
    let landing = lands.landing in
    let rest = activations lands.outer ++ tail in
    let frame = landing.activation.frame in
    let entered = pad_is (fetch code landing.activation.function lands.pad) word lands.selector landing.activation.function lands.pad frame rest u st (sym lands.enters ∙ to) in
    let function_is : landing.activation.function ≡ compiled m = sym (ap (λ y. y.top.function) entered.is) ∙ callee in
    let there = has_landed p a fs v s h judge m lands.inner landing lands.outer lands.split passed stops function_is in
    let q = closed p frame.call in
    let op = fetched_there p m lands.pad entered.object entered.selector (slice_get (function p m).ops lands.pad) (ap (λ f. fetch code f lands.pad) (sym function_is) ∙ entered.fetched) in
    let slots = plain m lands.pad entered.object entered.selector op in
    let hart = pad_hart lands.after value (extended lands.selector) lands.in_frame.registers in
    let memory = matches_alike q m frame rest v u s.memory (outer_sp (x s sp) (calls lands.inner)) there.back ints count later there.memory in
    let low : ℕ = outer_sp (x s sp) (calls lands.inner) in
    let regs : List ℕ = regs_at (calls lands.inner) (saved_of s) in
    let kept = registers_alike q m frame rest v u s.memory low there.back regs ints there.memory there.kept in
    let matching = runtime_to p frame.call fs rest u w runtime there.none in
    let hart_in : State = (at_pad value lands.selector (abi.at_hart lands.after w)).hart in
    let saved : saved_of hart_in ≡ regs = given_saved lands.after hart_in value (extended lands.selector) refl ∙ lands.in_frame.saved in
    let stack : outer_sp (x s sp) (calls lands.inner) ≡ reg_of (with_reg (with_reg lands.after.regs 10 value) 11 (extended lands.selector)) 2 = sym (hart.3 ∙ lands.in_frame.pointer) in
    let at : AtPad q m lands.pad entered.object entered.selector there.back landing.activation rest u word lands.selector (at_pad value lands.selector (abi.at_hart lands.after w)) = record {
      runs = function_is;
      there = op;
      object_slot = record { inside = slots.0.inside; plain = slots.0.plain };
      selector_slot = record { inside = slots.1.inside; plain = slots.1.plain };
      pc = lands.in_frame.pc ∙ (ap (λ f. operation_at p.unit f lands.pad) function_is ∙ word_of_pad p m lands.pad running.base);
      registers = hart.0;
      gets = subst (PadGets q u word) (sym hart.1) (gets_closed p u frame.call word value gets);
      filter_is = hart.2;
      int = int;
      memory = subst (λ ps. MemoryMatches q m frame rest u ps (reg_of (with_reg (with_reg lands.after.regs 10 value) 11 (extended lands.selector)) 2) there.back) (sym lands.in_frame.memory)
          (subst (λ k. MemoryMatches q m frame rest u s.memory k there.back) stack memory);
      kept = subst (λ ps. RegistersMatch q m frame rest u ps (x hart_in sp) (saved_of hart_in)) (sym lands.in_frame.memory)
          (subst (λ k. RegistersMatch q m frame rest u s.memory k (saved_of hart_in)) stack (subst (λ rs. RegistersMatch q m frame rest u s.memory low rs) (sym saved) kept));
      runtime = record {
        input = matching.input;
        replies = matching.replies;
        last_number = matching.last_number;
        terminating = matching.terminating;
        exceptions = matching.exceptions;
        plan = matching.plan;
      };
    } in
    let ran = pads_run image q m lands.pad entered.object entered.selector there.back landing.activation rest u word lands.selector (at_pad value lands.selector (abi.at_hart lands.after w)) at in
    let to : LinearState = behind_pad lands.pad entered.object entered.selector landing.activation rest u word lands.selector in
    let whole : Matched image 2 (at_pad value lands.selector (abi.at_hart lands.after w)) [] (λ t. Matches (closed p to.top.frame.call) to t × SameRuntime w t) = record {
      turns = ran.turns;
      few = ran.few;
      some = ran.some;
      after = ran.after;
      runs = ran.runs;
      holds = (ran.holds.0, kept_in_pad w ran.after value (extended lands.selector) lands.after ran.holds.1);
    } in
    subst (λ y. Matched image 2 (at_pad value lands.selector (abi.at_hart lands.after w)) [] (λ t. Matches (closed p y.top.frame.call) y t × SameRuntime w t)) (sym entered.is) whole
