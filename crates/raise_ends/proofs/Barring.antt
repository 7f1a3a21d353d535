-- Where a forced unwind comes to: a pad, a call out of which nothing may come, or the end of the stack.
use Rattle.std.proofs.Common.{◌≡◌, ◌∙◌, refl, sym, ap, subst, arith, ℕ, zero, suc, ◌+◌, Bool, true, false, ℤ, pos, List, [], ◌∷◌, ◌++◌, Option, Some, None, inl, inr}
use Rattle.std.specs.Prelude.{◌⊎◌, if◌then◌else◌}
use Rattle.std.specs.List.{AllByRecursion}
use Rattle.meaning_forms.specs.Outcome.{End, exit}
use Rattle.rv64_isa.specs.State.{State, Part}
use Rattle.rv64_isa.specs.Step.{x}
use Rattle.elf_image.specs.Clean.{CleanImage}
use Rattle.raise_core.specs.declared.raised.Raised.{Raised}
use Rattle.raise_core.specs.declared.raised.Raised.TheVariants.{Terminate, NoHandler}
use Rattle.raise_core.specs.Raise as unwinder
use Rattle.eh_run.specs.Program.{program_of}
use Rattle.region_forms.specs.World.{Word, unwinding, Frame, World}
use Rattle.linear_forms.specs.Linear.{UnitCode, plain, label, jump, jump_zero, pad, jump_filter, free, resume, unexpected, return}
use Rattle.linear_forms.specs.Tables.{Cover, bare, unpadded, padded}
use Rattle.linear_forms.specs.Verdict.{has_cleanup}
use Rattle.linear_forms.specs.Stub.{Function, compiled, end_catch, call_unexpected, terminating, CodeOp, linear, runtime, stub_cover}
use Rattle.linear_forms.specs.Activation.{Code, Activation, State as LinearState, Next, goes_to, finishes, by_program, fetch, look, sense}
use Rattle.linear_forms.specs.Unwinding.{pad_entered, terminated_in}
use Rattle.linear_forms.specs.Forced.{forced_by, forced_at, forced_above}
use Rattle.linear_forms.specs.UnitRun.{code_of}
use Rattle.machine_forms.specs.Registers.{sp}
use Rattle.image_tables.specs.Functions.{operation_at as operation_byte}
use Rattle.raise_simulation.specs.Verdicts.{forced_verdict, forced_by_table, cover_of}
use Rattle.raise_simulation.specs.Opens.{activations}
use Rattle.raise_simulation.specs.Raises.{Lands, IsTerminated}
use Rattle.raise_simulation.specs.Resumes.{ForcedAgree}
use Rattle.machine_simulation.specs.Plan.{Plan}
use Rattle.machine_simulation.specs.Calls.{CallsWait, frame_of, frames_bytes}
use Rattle.machine_simulation.specs.Exceptions.{destroyed}
use Rattle.machine_simulation.proofs.Closing.{destroyed_nothing}
use Rattle.flight_homes.specs.Nest.{is_terminate, waits_terminate}
use Rattle.machine_raises.specs.Stacks.{IsRunning, InCall}
use Rattle.machine_raises.proofs.Stacks.{all_opens, all_tail, opens_are, stack_unwound}
use Rattle.machine_raises.proofs.Passing.{Passed, through, by_pad, pad_is, forced_stops, stub_not_passed}
use Rattle.raise_ends.specs.Barriers.{IsCompiled}

-- ---- the kinds of ends tell each other apart

pub pad_no_end : (o : Option CodeOp) (word : Word) (n : ℤ) (f : Function) (p : ℕ) (frame : Frame) (fs : List Activation) (w : World) (e : End) (v : World) → pad_entered o word n f p frame fs w ≡ finishes (by_program e) v → ⊥
pad_no_end (Some (linear (pad x y))) word n f p frame fs w e v is = cc is
pad_no_end None word n f p frame fs w e v is = cc is
pad_no_end (Some (runtime x)) word n f p frame fs w e v is = cc is
pad_no_end (Some (linear (plain x))) word n f p frame fs w e v is = cc is
pad_no_end (Some (linear (label x))) word n f p frame fs w e v is = cc is
pad_no_end (Some (linear (jump x))) word n f p frame fs w e v is = cc is
pad_no_end (Some (linear (jump_zero x y))) word n f p frame fs w e v is = cc is
pad_no_end (Some (linear (jump_filter x y z))) word n f p frame fs w e v is = cc is
pad_no_end (Some (linear (free x))) word n f p frame fs w e v is = cc is
pad_no_end (Some (linear (resume x))) word n f p frame fs w e v is = cc is
pad_no_end (Some (linear (unexpected x y))) word n f p frame fs w e v is = cc is
pad_no_end (Some (linear (return x))) word n f p frame fs w e v is = cc is

-- terminate has no pads
bare_place : (q : ℕ) → stub_cover terminating q ≡ bare
bare_place zero = refl
bare_place (suc zero) = refl
bare_place (suc (suc q)) = refl

pub bare_terminating : (code : Code) (a : Activation) → a.function ≡ terminating → cover_of code a ≡ bare
bare_terminating code a is = ap (λ f. look code f a.place) is ∙ bare_place a.place

no_pad : (code : Code) (a : Activation) (q : ℕ) (chain : List ℤ) → cover_of code a ≡ padded q chain → a.function ≡ terminating → ⊥
no_pad code a q chain covers is = let both : padded q chain ≡ bare = sym covers ∙ bare_terminating code a is in cc both

-- a pad that is entered is no terminate
pub pad_lives : (code : Code) (a : Activation) (q : ℕ) (chain : List ℤ) (word : Word) (n : ℤ) (rest : List Activation) (v : World) (next : LinearState) → cover_of code a ≡ padded q chain →
    pad_entered (fetch code a.function q) word n a.function q a.frame rest v ≡ goes_to next → next.top.function ≡ terminating → ⊥
pad_lives code a q chain word n rest v next covers e is =
    let entered = pad_is (fetch code a.function q) word n a.function q a.frame rest v next e in
    no_pad code a q chain covers (sym (ap (λ (s : LinearState). s.top.function) entered.is) ∙ is)

-- ---- the unwinder's answer is that of linear code

-- nothing may come out of some call
pub record IsBarred (v : World) (next : Next) : Type 0 where
  pub barring : Activation
  pub outer : List Activation
  pub terminates : next ≡ terminated_in barring.function barring.frame outer v

-- a pad is entered
pub record EntersPad (code : Code) (v : World) (next : Next) : Type 0 where
  pub activation : Activation
  pub pad : ℕ
  pub chain : List ℤ
  pub covers : cover_of code activation ≡ padded pad chain
  pub word : Word
  pub selector : ℤ
  pub rest : List Activation
  pub enters : next ≡ pad_entered (fetch code activation.function pad) word selector activation.function pad activation.frame rest v

module _ (p : Plan) (i : CleanImage) (n back : ℕ) (a : Activation) (fs : List Activation) (v : World) (s : State) (running : IsRunning p i s) (h : InCall p n back a fs v s) where
  pub unwound : ForcedAgree → (k : ℤ) → let next = forced_above (code_of p.unit) k (a ∷ fs) v in let result = unwinder.forced_unwind (program_of i).image.fdes s in
      EntersPad (code_of p.unit) v next ⊎ (IsBarred v next × (result ≡ (Terminate, s))) ⊎ ((next ≡ finishes (by_program (exit k)) v) × (result ≡ (NoHandler, s)))
  unwound agree k =
      by (agree (code_of p.unit) (operation_byte p.unit) (program_of i).image.fdes k v s (x s sp) (all_opens p i n back a fs v s running h) (all_tail p i n back a fs v s running h) (stack_unwound p i n back a fs v s running h))
    where
      result : Raised × State
      result = unwinder.forced_unwind (program_of i).image.fdes s

      next : Next
      next = forced_above (code_of p.unit) k (a ∷ fs) v

      whole : Next
      whole = forced_above (code_of p.unit) k (activations (all_opens p i n back a fs v s running h) ++ all_tail p i n back a fs v s running h) v

      same : next ≡ whole
      same = ap (λ xs. forced_above (code_of p.unit) k xs v) (sym (opens_are p i n back a fs v s running h))

      by : Lands (code_of p.unit) (operation_byte p.unit) (unwinding k) v s (x s sp) (all_opens p i n back a fs v s running h) (all_tail p i n back a fs v s running h) 0 0 whole result
          ⊎ (IsTerminated v (all_opens p i n back a fs v s running h) (all_tail p i n back a fs v s running h) whole × (result ≡ (Terminate, s))) ⊎ ((whole ≡ finishes (by_program (exit k)) v) × (result ≡ (NoHandler, s))) →
          EntersPad (code_of p.unit) v next ⊎ (IsBarred v next × (result ≡ (Terminate, s))) ⊎ ((next ≡ finishes (by_program (exit k)) v) × (result ≡ (NoHandler, s)))
      by (inl l) = inl (record {
        activation = l.landing.activation;
        pad = l.pad;
        chain = l.chain;
        covers = l.covers;
        word = unwinding k;
        selector = l.selector;
        rest = activations l.outer ++ all_tail p i n back a fs v s running h;
        enters = same ∙ l.enters;
      })
      by (inr (inl (t, is))) = inr (inl (record { barring = t.barring; outer = t.outer; terminates = same ∙ t.terminates }, is))
      by (inr (inr (e, is))) = inr (inr (same ∙ e, is))

-- ---- the calls that a forced unwind passes, up to one out of which nothing may come

pub record BarredAt (code : Code) (k : ℤ) (fs : List Activation) (v : World) : Type 0 where
  pub inner : List Activation
  pub barring : Activation
  pub outer : List Activation
  pub split : fs ≡ inner ++ barring ∷ outer
  pub passed : AllByRecursion (Passed code (forced_by_table code)) inner
  pub terminates : forced_above code k fs v ≡ terminated_in barring.function barring.frame outer v

pub barred_at : (code : Code) (k : ℤ) (fs : List Activation) (v : World) (next : LinearState) → forced_above code k fs v ≡ goes_to next → next.top.function ≡ terminating → BarredAt code k fs v
barred_at code k [] v next e is = absurd (cc e)
barred_at code k (a ∷ fs) v next e is = by_cover (cover_of code a) refl (barred_at code k fs v next)
  where
    rest : Next
    rest = forced_above code k fs v

    here : Cover → Next
    here c = forced_at code c k a.function a.frame fs v rest

    passes : Passed code (forced_by_table code) a → here (cover_of code a) ≡ rest → (rest ≡ goes_to next → next.top.function ≡ terminating → BarredAt code k fs v) → BarredAt code k (a ∷ fs) v
    passes passed same later =
        let more = later (sym same ∙ e) is in
        record { inner = a ∷ more.inner; barring = more.barring; outer = more.outer; split = ap (λ xs. a ∷ xs) more.split; passed = (passed, more.passed); terminates = same ∙ more.terminates }

    by_test : (q : ℕ) (chain : List ℤ) → cover_of code a ≡ padded q chain → (b : Bool) → has_cleanup (sense code a.function) chain ≡ b → (rest ≡ goes_to next → next.top.function ≡ terminating → BarredAt code k fs v) → BarredAt code k (a ∷ fs) v
    by_test q chain covers true said later =
        let enters : pad_entered (fetch code a.function q) (unwinding k) (pos 0) a.function q a.frame fs v ≡ goes_to next
        = sym (ap here covers ∙ ap (λ b. forced_by code b q k a.function a.frame fs v rest) said) ∙ e in
        absurd (pad_lives code a q chain (unwinding k) (pos 0) fs v next covers enters is)
    by_test q chain covers false said later =
        passes (by_pad q chain covers (ap forced_verdict said)) (ap here covers ∙ ap (λ b. forced_by code b q k a.function a.frame fs v rest) said) later

    by_cover : (c : Cover) → cover_of code a ≡ c → (rest ≡ goes_to next → next.top.function ≡ terminating → BarredAt code k fs v) → BarredAt code k (a ∷ fs) v
    by_cover bare covers later = record { inner = []; barring = a; outer = fs; split = refl; passed = tt; terminates = ap here covers }
    by_cover unpadded covers later = passes (through covers) (ap here covers) later
    by_cover (padded q chain) covers later = by_test q chain covers (has_cleanup (sense code a.function) chain) refl later

-- a call that is passed is of a compiled function, so no destructor of an exception's object runs in it
not_bare : (code : Code) (a : Activation) → Passed code (forced_by_table code) a → cover_of code a ≡ bare → ⊥
not_bare code a (through is) covers = let both : bare ≡ unpadded = sym covers ∙ is in cc both
not_bare code a (by_pad q chain is said) covers = let both : bare ≡ padded q chain = sym covers ∙ is in cc both

pub passed_calls : (p : Plan) (fs : List Activation) (v : World) (memory : List Part) (stack back limit : ℕ) → CallsWait p fs v memory stack back limit → (inner rest : List Activation) → fs ≡ inner ++ rest →
    AllByRecursion (Passed (code_of p.unit) (forced_by_table (code_of p.unit))) inner → (destroyed fs ≡ destroyed rest) × AllByRecursion IsCompiled inner
passed_calls p fs v memory stack back limit w [] rest split passed = (ap destroyed split, tt)
passed_calls p [] v memory stack back limit w (b ∷ inner) rest split passed = absurd (cc split)
passed_calls p (a ∷ fs) v memory stack back limit (inl (less, n, out, waits, more)) (b ∷ inner) rest split passed =
    let others : fs ≡ inner ++ rest = cc split in
    let same : a ≡ b = cc split in
    let later = passed_calls p fs v memory _ out a.frame.call more inner rest others passed.1 in
    (ap (λ ds. ds ++ destroyed fs) (destroyed_nothing p n a waits.callee) ∙ later.0, ((n, sym (ap (λ (c : Activation). c.function) same) ∙ waits.callee), later.1))
passed_calls p (a ∷ fs) v memory stack back limit (inr (inl (out, waits, more))) (b ∷ inner) rest split passed =
    let same : b ≡ a = cc split in
    absurd (stub_not_passed p (forced_by_table (code_of p.unit)) a v memory stack back out waits (forced_stops (code_of p.unit)) (subst (Passed (code_of p.unit) (forced_by_table (code_of p.unit))) same passed.0))
passed_calls p (a ∷ fs) v memory stack back limit (inr (inr (waits, ends))) (b ∷ inner) rest split passed =
    let same : b ≡ a = cc split in
    absurd (not_bare (code_of p.unit) a (subst (Passed (code_of p.unit) (forced_by_table (code_of p.unit))) same passed.0) (bare_terminating (code_of p.unit) a waits.callee))

-- ---- bytes of frames, where terminate does not wait

-- what is hidden does not count then
no_terminate : (u : UnitCode) (h k : ℕ) (f : Function) (b : Bool) → (if is_terminate f then true else b) ≡ false → (frame_of u h f ≡ frame_of u k f) × (b ≡ false)
no_terminate u h k (compiled n) b e = (refl, e)
no_terminate u h k end_catch b e = (refl, e)
no_terminate u h k call_unexpected b e = (refl, e)
no_terminate u h k terminating b e = absurd (cc e)

pub bytes_alike : (u : UnitCode) (h k : ℕ) (fs : List Activation) → waits_terminate fs ≡ false → frames_bytes u h fs ≡ frames_bytes u k fs
bytes_alike u h k [] e = refl
bytes_alike u h k (a ∷ fs) e =
    let both = no_terminate u h k a.function (waits_terminate fs) e in
    let first = both.0 in
    let more = bytes_alike u h k fs both.1 in
    omega (arith, first, more)

pub bytes_split : (u : UnitCode) (h : ℕ) (xs ys : List Activation) → frames_bytes u h (xs ++ ys) ≡ frames_bytes u h xs + frames_bytes u h ys
bytes_split u h [] ys = omega arith
bytes_split u h (a ∷ xs) ys = omega (arith, bytes_split u h xs ys)

pub waits_rest : (u : UnitCode) (xs ys : List Activation) → waits_terminate (xs ++ ys) ≡ false → waits_terminate ys ≡ false
waits_rest u [] ys e = e
waits_rest u (a ∷ xs) ys e = waits_rest u xs ys (no_terminate u 0 0 a.function (waits_terminate (xs ++ ys)) e).1
