-- The exception table of a raise's target is that of its function.
use Rattle.std.proofs.Common.{◌≡◌, ◌∙◌, refl, sym, ap, subst, arith, ℕ, ◌+◌, ◌*◌, ◌<◌, ◌≤◌, ◌==◌, Bool, true, false, List, [], ◌∷◌, length, Some, None, find, inl, inr}
use Rattle.std.specs.Prelude.{if◌then◌else◌}
use Rattle.std.proofs.lemmas.Bool.Decides.{nat_tests}
use Rattle.table_forms.specs.Fde.{Fde, is_in, fde_for}
use Rattle.table_forms.specs.Verdict.{look_up_place}
use Rattle.rv64_isa.specs.State.{State}
use Rattle.rv64_isa.specs.Step.{x}
use Rattle.elf_image.specs.Clean.{CleanImage}
use Rattle.eh_run.specs.Program.{program_of}
use Rattle.region_forms.specs.World.{World}
use Rattle.linear_forms.specs.Stub.{Function, compiled}
use Rattle.linear_forms.specs.Activation.{Activation}
use Rattle.machine_forms.specs.Registers.{sp}
use Rattle.machine_forms.specs.Routine.{routine_words}
use Rattle.machine_forms.proofs.Words.{words_stand}
use Rattle.machine_stubs.specs.Stretches.{frame_size}
use Rattle.image_tables.specs.Functions.{IsThere, routine_of, first_byte}
use Rattle.image_tables.specs.TableLaws.{IsByteOf}
use Rattle.image_tables.proofs.Framed.{frames_say}
use Rattle.image_tables.proofs.Placed.{function_stands}
use Rattle.image_tables.proofs.Told.{code_low}
use Rattle.raise_simulation.specs.OpenCalls.{OpenCall}
use Rattle.raise_simulation.specs.Opens.{Open, table_in, table_at, table_with}
use Rattle.machine_simulation.specs.Plan.{Plan, shape}
use Rattle.machine_simulation.specs.Calls.{CallsWait}
use Rattle.machine_simulation.specs.KeptCalls.{KeptCalls}
use Rattle.machine_simulation.specs.Matches.{UnitStands}
use Rattle.machine_raises.specs.Stacks.{IsRunning}
use Rattle.machine_raises.specs.Targets.{target_call}
use Rattle.machine_raises.proofs.Aiming.{counted}
use Rattle.machine_raises.proofs.KeptBehind.{kept_call, kept_stub}
use Rattle.machine_raises.proofs.Landing.{not_compiled}
use Rattle.machine_raises.proofs.OnStack.{OnStack}
use Rattle.machine_raises.proofs.Saying.{place_of}
use Rattle.machine_raises.proofs.Stacks.{top_open, top_opens, top_tail}
use Rattle.machine_raises.proofs.Waiting.{call_open, stub_open, opens_of, tail_of, all_are, GoesOnAt, waiting_goes_on}

-- ---- one frame has all bytes of a function
-- the first that passes one test, and the first that passes another, where each passes both
first_alike : (P Q : Fde → Bool) (fs : List Fde) (f g : Fde) → find P fs ≡ Some f → find Q fs ≡ Some g → P g ≡ true → Q f ≡ true → f ≡ g
first_alike P Q [] f g one two first second = absurd (cc one)
first_alike P Q (h ∷ fs) f g one two first second = by (P h) (Q h) refl refl (λ a b. first_alike P Q fs f g a b first second) one two
  where
    none : (b : Bool) → b ≡ true → b ≡ false → ⊥
    none true one two = cc two
    none false one two = cc one

    by : (b c : Bool) → P h ≡ b → Q h ≡ c → (find P fs ≡ Some f → find Q fs ≡ Some g → f ≡ g) → (if b then Some h else find P fs) ≡ Some f → (if c then Some h else find Q fs) ≡ Some g → f ≡ g
    by true true p q more one two = let both : h ≡ f = cc one in let other : h ≡ g = cc two in sym both ∙ other
    by true false p q more one two = let same : h ≡ f = cc one in absurd (none (Q h) (ap Q same ∙ second) q)
    by false true p q more one two = let same : h ≡ g = cc two in absurd (none (P h) (ap P same ∙ first) p)
    by false false p q more one two = more one two

in_region : (start size place : ℕ) (g : Fde) → g.region ≡ record { start = start; length = size } → start ≤ place → place < start + size → is_in g.region place ≡ true
in_region start size place g is low high =
    let inside : is_in (record { start = start; length = size }) place ≡ true = grind (arith, nat_tests, low, high) in
    ap (λ r. is_in r place) is ∙ inside

-- a place where a call of a compiled function goes on has the table that the plan has for the function
pub table_here : (p : Plan) (i : CleanImage) (s : State) (n ip : ℕ) (a : Activation) → IsRunning p i s → GoesOnAt p a ip → a.function ≡ compiled n → table_at (program_of i).image.fdes ip ≡ p.tables n
table_here p i s n ip a running on callee =
    let u = p.unit in
    let f : Function = compiled n in
    let fdes = (program_of i).image.fdes in
    let first = first_byte u f in
    let size = 4 * routine_words (routine_of u f) in
    let known : IsThere u f = subst (IsThere u) callee on.there in
    let byte : IsByteOf u f a.place on.byte = subst (λ g. IsByteOf u g a.place on.byte) callee on.inside in
    let within : on.byte < size = omega (arith, byte.last, words_stand.inside (routine_of u f) (a.place + 1)) in
    let is : ip ≡ first + on.byte + 1 = on.is ∙ ap (λ g. first_byte u g + on.byte + 1) callee in
    let place : look_up_place ip false ≡ first + on.byte = place_of first on.byte ip (omega (arith, within, code_low u i first (routine_of u f) running.image (function_stands u f known))) is in
    let there = frames_say u i f on.byte running.image known within in
    let begin = frames_say u i f 0 running.image known (omega (arith, within)) in
    let zero : first + 0 ≡ first = omega arith in
    let begun : fde_for fdes first ≡ Some begin.fde = ap (fde_for fdes) (sym zero) ∙ begin.found in
    let same : there.fde ≡ begin.fde = first_alike (λ g. is_in g.region (first + on.byte)) (λ g. is_in g.region first) fdes there.fde begin.fde there.found begun
    (in_region first size (first + on.byte) begin.fde begin.region (omega arith) (omega (arith, within))) (in_region first size first there.fde there.region (omega arith) (omega (arith, within))) in
    ap (λ a. table_in (fde_for fdes a)) place ∙ ap table_in there.found ∙ ap (λ (g : Fde). g.lsda) same ∙ sym (ap table_in begun) ∙ sym (running.tables n known)

-- ---- of the target
none_deep : (d : ℕ) (fs : List Activation) → length fs ≤ d → target_call d fs ≡ None
none_deep d [] le = refl
none_deep d (a ∷ fs) le =
    let other : (length fs == d) ≡ false = grind (arith, nat_tests, le) in
    ap (λ b. if b then Some a.function else target_call d fs) other ∙ none_deep d fs (omega (arith, le))

-- the target is the first call, or one farther out
next_table : (p : Plan) (fdes : List Fde) (d many n ip : ℕ) (a : Activation) (c : OpenCall) (os : List Open) (fs : List Activation) → length os + many ≡ length fs → (a.function ≡ compiled n → table_at fdes ip ≡ p.tables n) →
    (target_call d fs ≡ Some (compiled n) → table_with fdes d many c.back os ≡ p.tables n) → target_call d (a ∷ fs) ≡ Some (compiled n) →
    table_with fdes d many ip (record { activation = a; call = c } ∷ os) ≡ p.tables n
next_table p fdes d many n ip a c os fs count here more is =
    ap (λ k. if k == d then table_at fdes ip else table_with fdes d many c.back os) count ∙ by (length fs == d) is
  where
    by : (b : Bool) → (if b then Some a.function else target_call d fs) ≡ Some (compiled n) → (if b then table_at fdes ip else table_with fdes d many c.back os) ≡ p.tables n
    by true is = here (cc is)
    by false is = more is

waiting_table : (p : Plan) (i : CleanImage) (s : State) (d n : ℕ) (fs : List Activation) (v : World) (stack back limit : ℕ) (regs : List ℕ) → IsRunning p i s → UnitStands p s.memory → (w : CallsWait p fs v s.memory stack back limit)
    (h : KeptCalls p fs v s.memory stack regs) → length (tail_of p fs v s.memory stack back limit w) ≤ d → target_call d fs ≡ Some (compiled n) →
    table_with (program_of i).image.fdes d (length (tail_of p fs v s.memory stack back limit w)) back (opens_of p fs v s.memory stack back limit regs w h) ≡ p.tables n
unfolding opens_of tail_of
waiting_table p i s d n [] v stack back limit regs running unit w h le is = absurd (cc is)
waiting_table p i s d n (a ∷ fs) v stack back limit regs running unit (inl (less, m, outer, waits, more)) h le is =
    let k = kept_call p m a fs v s.memory stack regs waits.callee h in
    let os = opens_of p fs v s.memory (stack + (shape p m).size) outer a.frame.call k.before more k.others in
    let tail = tail_of p fs v s.memory (stack + (shape p m).size) outer a.frame.call more in
    next_table p (program_of i).image.fdes d (length tail) n back a (call_open p m a fs v s.memory stack outer regs k).call os fs (counted os tail fs (all_are p fs v s.memory (stack + (shape p m).size) outer a.frame.call k.before more k.others))
    (table_here p i s n back a running (waiting_goes_on p m a v s.memory stack back outer running.base unit waits))
    (waiting_table p i s d n fs v (stack + (shape p m).size) outer a.frame.call k.before running unit more k.others le) is
waiting_table p i s d n (a ∷ fs) v stack back limit regs running unit (inr (inl (outer, waits, more))) h le is =
    let others = kept_stub p a fs v s.memory stack back outer regs waits h in
    let os = opens_of p fs v s.memory (stack + frame_size a.function) outer limit regs more others in
    let tail = tail_of p fs v s.memory (stack + frame_size a.function) outer limit more in
    next_table p (program_of i).image.fdes d (length tail) n back a (stub_open a outer).call os fs (counted os tail fs (all_are p fs v s.memory (stack + frame_size a.function) outer limit regs more others))
    (λ callee. absurd (not_compiled p a v s.memory stack back outer n waits callee)) (waiting_table p i s d n fs v (stack + frame_size a.function) outer limit regs running unit more others le) is
waiting_table p i s d n (a ∷ fs) v stack back limit regs running unit (inr (inr w)) h le is = absurd (let both : None ≡ Some (compiled n) = sym (none_deep d (a ∷ fs) le) ∙ is in cc both)

module _ (p : Plan) (i : CleanImage) (a : Activation) (fs : List Activation) (v : World) (s : State) (running : IsRunning p i s) (h : OnStack p a fs v s) where
  pub whole_table : (d n : ℕ) → length (top_tail p a fs v s h) ≤ d → target_call d (a ∷ fs) ≡ Some (compiled n) →
      table_with (program_of i).image.fdes d (length (top_tail p a fs v s h)) s.pc (top_opens p a fs v s h) ≡ p.tables n
  unfolding top_opens top_tail
  whole_table d n le is =
      let stack = x s sp + h.size in
      let os = opens_of p fs v s.memory stack h.back h.limit h.before h.waiting h.kept in
      let tail = tail_of p fs v s.memory stack h.back h.limit h.waiting in
      next_table p (program_of i).image.fdes d (length tail) n s.pc a (top_open p a fs v s h).call os fs (counted os tail fs (all_are p fs v s.memory stack h.back h.limit h.before h.waiting h.kept))
      (table_here p i s n s.pc a running h.goes_on) (waiting_table p i s d n fs v stack h.back h.limit h.before running h.around.unit h.waiting h.kept le) is
