-- Where an operation of a compiled function raises an exception: the step begins terminate, or comes to a landing pad.
use Rattle.std.proofs.Common.{◌≡◌, ◌∙◌, refl, sym, ap, subst, arith, ℕ, ◌<◌, ◌⊎◌, inl, inr, ℤ, pos, Bool, true, false, List, [], ◌∷◌, ◌++◌, length, Option, Some, is_some, if◌then◌else◌}
use Rattle.meaning_forms.specs.Class.{contains}
use Rattle.meaning_forms.specs.Outcome.{aborted}
use Rattle.cxa_runtime.specs.World as abi
use Rattle.eh_run.specs.Program.{program_of}
use Rattle.region_forms.specs.Form.{Op}
use Rattle.region_forms.specs.World.{Word, nothing, number_word, flying, with_slot, Frame, World, Exception, building, native, foreign, exception_at, type_at}
use Rattle.region_forms.specs.Effect.{raises, entered_doomed, flies, effect}
use Rattle.linear_forms.specs.Linear.{LinearOp, plain}
use Rattle.linear_forms.specs.Stub.{Function, compiled, end_catch, terminating, call_unexpected}
use Rattle.linear_forms.specs.Tables.{padded}
use Rattle.linear_forms.specs.Activation.{Activation, State, Code, Next, goes_to, finishes, by_program, fault, fetch, look, kinds, at, stub_frame, function_word, terminated}
use Rattle.linear_forms.specs.Machine.{step}
use Rattle.linear_forms.specs.Operation.{act, performed}
use Rattle.linear_forms.specs.Search.{found_above}
use Rattle.linear_forms.specs.Unwinding.{pad_entered, doomed_by, doomed, raise}
use Rattle.linear_forms.specs.Verdict.{target, clean}
use Rattle.exceptions_in_flight.specs.Targets.{judged_by, AimsAt}
use Rattle.exceptions_in_flight.specs.Aims.{ComesToPad}
use Rattle.exceptions_in_flight.proofs.Targets.{flights_come_to_pads}
use Rattle.flight_homes.specs.Keeps.{destroyed_in, gone}
use Rattle.linear_invariant.proofs.Landing.{catch_pads}
use Rattle.machine_simulation.specs.Plan.{Plan}
use Rattle.stub_landings.specs.Landings.{GoesOn as NotDoomed}
use Rattle.whole_runs.proofs.Single.{breaks_one}
use Rattle.step_law.specs.Facts.{code_for}
use Rattle.step_law.specs.Rows.{Run, IsAt, FollowsIn}
use Rattle.step_law.proofs.At.{step_acts}
use Rattle.step_law.proofs.Bounded.{aims_below}
use Rattle.step_law.proofs.Landing.{enters_pad, lands_outside}
use Rattle.step_law.proofs.Raised.{in_neither}
use Rattle.step_law.proofs.Several.{no_pad_faults}

-- ---- where nothing stops it, terminate begins

pub terminated_there : (h : Option ℕ) (fs : List Activation) (w : World) (next : State) → terminated h fs w ≡ goes_to next → next.top.function ≡ terminating
terminated_there h fs w next e = by w.ending (record w { ending = is_some h }) e
  where
    by : (b : Bool) (v : World) → (if b then finishes (by_program aborted) w else at terminating 0 (stub_frame (function_word h) nothing nothing) fs v) ≡ goes_to next → next.top.function ≡ terminating
    by true v e = absurd (cc e)
    by false v e =
        let went : record { top = record { function = terminating; place = 0; frame = stub_frame (function_word h) nothing nothing }; frames = fs; world = v } ≡ next = cc e in
        ap (λ (s : State). s.top.function) (sym went)

pub doomed_there : (e : ℕ) (fs : List Activation) (w : World) (next : State) → doomed e fs w ≡ goes_to next → next.top.function ≡ terminating
doomed_there e fs w next h = by w.ending (exception_at w e) h
  where
    kept_by : (y : Exception) → doomed_by e y fs w ≡ goes_to next → next.top.function ≡ terminating
    kept_by building h = terminated_there w.installed.terminate_handler fs w next h
    kept_by (native t d handlers) h = terminated_there handlers.terminate_handler fs (entered_doomed e w) next h
    kept_by (foreign k token) h = terminated_there w.installed.terminate_handler fs w next h

    by : (b : Bool) (y : Exception) → (if b then finishes (by_program aborted) w else doomed_by e y fs w) ≡ goes_to next → next.top.function ≡ terminating
    by true y h = absurd (cc h)
    by false y h = kept_by y h

-- ---- what calls wait for stays where it was

-- a pad of end_catch leaves the slot of what it destroys
pad_spares : (code : Code) (f : Function) (place p : ℕ) (chain : List ℤ) (word : Word) (z : ℤ) (frame : Frame) (outer : List Activation) (w : World) (next : State) → look code f place ≡ padded p chain →
    pad_entered (fetch code f p) word z f p frame outer w ≡ goes_to next → destroyed_in next.top.function next.top.frame ≡ destroyed_in f frame
pad_spares code (compiled n) place p chain word z frame outer w next covers h =
    ap (λ g. destroyed_in g next.top.frame) (enters_pad (fetch code (compiled n) p) word z (compiled n) p frame outer w next h).function
pad_spares code terminating place p chain word z frame outer w next covers h =
    ap (λ g. destroyed_in g next.top.frame) (enters_pad (fetch code terminating p) word z terminating p frame outer w next h).function
pad_spares code call_unexpected place p chain word z frame outer w next covers h =
    ap (λ g. destroyed_in g next.top.frame) (enters_pad (fetch code call_unexpected p) word z call_unexpected p frame outer w next h).function
pad_spares code end_catch place p chain word z frame outer w next covers h =
    by (subst (λ i. pad_entered (fetch code end_catch i) word z end_catch i frame outer w ≡ goes_to next) (sym (catch_pads place p chain covers).0) h)
  where
    behind : Frame
    behind = with_slot 3 (number_word z) (with_slot 2 word frame)

    by : at end_catch 5 behind outer w ≡ goes_to next → destroyed_in next.top.function next.top.frame ≡ destroyed_in end_catch frame
    by e =
        let went : record { top = record { function = end_catch; place = 5; frame = behind }; frames = outer; world = w } ≡ next = cc e in
        subst (λ (s : State). destroyed_in s.top.function s.top.frame ≡ destroyed_in end_catch frame) went refl

gone_outside : (inner gs : List Activation) (e : ℕ) → contains (gone (inner ++ gs)) e ≡ false → contains (gone gs) e ≡ false
gone_outside [] gs e h = h
gone_outside (b ∷ inner) gs e h = gone_outside inner gs e (in_neither (destroyed_in b.function b.frame) (gone (inner ++ gs)) e h)

-- what no open call waits for, none waits for behind a pad
pub still_whole : (code : Code) (t : Option ℕ) (d e : ℕ) (fs : List Activation) (w : World) (next : State) → ComesToPad code t d e fs w (goes_to next) → contains (gone fs) e ≡ false → contains (gone (next.top ∷ next.frames)) e ≡ false
still_whole code t d e fs w next h whole =
    let entered = sym h.comes in
    let pad = enters_pad (fetch code h.call.function h.pad) (flying e d) h.number h.call.function h.pad h.call.frame h.outer w next entered in
    let spares = pad_spares code h.call.function h.call.place h.pad h.chain (flying e d) h.number h.call.frame h.outer w next h.covers entered in
    let same : gone (next.top ∷ next.frames) ≡ gone (h.call ∷ h.outer) = ap (λ es. es ++ gone next.frames) spares ∙ ap (λ gs. destroyed_in h.call.function h.call.frame ++ gone gs) pad.frames in
    ap (λ es. contains es e) same ∙ gone_outside h.inner (h.call ∷ h.outer) e (subst (λ gs. contains (gone gs) e ≡ false) h.split whole)

-- the target is an open call behind a pad
pub target_open : (code : Code) (t : Option ℕ) (d e : ℕ) (fs : List Activation) (w : World) (next : State) → ComesToPad code t d e fs w (goes_to next) → d < length (next.top ∷ next.frames)
target_open code t d e fs w next h =
    let pad = enters_pad (fetch code h.call.function h.pad) (flying e d) h.number h.call.function h.pad h.call.frame h.outer w next (sym h.comes) in
    let same : length next.frames ≡ length h.outer = ap length pad.frames in
    by same h.why
  where
    by : length next.frames ≡ length h.outer → ((length h.outer ≡ d) × (judged_by code h.call t h.chain ≡ target h.number)) ⊎ ((judged_by code h.call t h.chain ≡ clean) × (h.number ≡ pos 0) × AimsAt code t d h.outer) → d < length (next.top ∷ next.frames)
    by same (inl here) = let first = here.0 in omega (arith, same, first)
    by same (inr on) = let below = aims_below code t d h.outer on.2 in omega (arith, same, below)

-- ---- the step

-- where the search finds what stops it, the step comes to a pad; where that is none, to a fault
pub raise_follows : (x : Run) (q : Plan) (before n : ℕ) (o : LinearOp) (st : State) (w : abi.World) → IsAt x q before n o st w → (op : Op) → o ≡ plain op → (e : ℕ) (v : World) →
    effect (kinds (code_for x.program) st.top.function) op st.top.frame st.world ≡ raises e v → (d : ℕ) → found_above (code_for x.program) (type_at v e) (st.top ∷ st.frames) ≡ Some d →
    ((next : State) → step (code_for x.program) st ≡ goes_to next → NotDoomed next → FollowsIn x before st w) → FollowsIn x before st w
raise_follows x q before n o st w at_op op is e v does d found_it goes = by (step (code_for x.program) st) refl comes
  where
    comes : ComesToPad (code_for x.program) (type_at v e) d e (st.top ∷ st.frames) (flies e v) (step (code_for x.program) st)
    comes =
        let acts : step (code_for x.program) st ≡ raise (code_for x.program) e st.top st.frames v =
        step_acts x q before n o st w at_op ∙ ap (λ y. act (code_for x.program) y st.top st.frames st.world) is ∙ ap (λ y. performed (code_for x.program) y st.top st.frames st.world) does in
        subst (ComesToPad (code_for x.program) (type_at v e) d e (st.top ∷ st.frames) (flies e v)) (sym acts) ((flights_come_to_pads (code_for x.program) e st.top st.frames v).raised d found_it)

    by : (y : Next) → step (code_for x.program) st ≡ y → ComesToPad (code_for x.program) (type_at v e) d e (st.top ∷ st.frames) (flies e v) y → FollowsIn x before st w
    by (goes_to next) h c = goes next h (λ ends. lands_outside (code_for x.program) (type_at v e) d e (st.top ∷ st.frames) (flies e v) next c ends)
    by (finishes f u) h c =
        let faulty = no_pad_faults (fetch (code_for x.program) c.call.function c.pad) (flying e d) c.number c.call.function c.pad c.call.frame c.outer (flies e v) u f (sym c.comes) in
        inr (inr (inr (breaks_one (program_of x.image).image x.pick (code_for x.program) st w f u h (λ why ends. let no : fault ≡ by_program why = sym faulty ∙ ends in absurd (cc no)))))
