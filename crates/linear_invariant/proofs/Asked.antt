-- What single operations ask of the state.
use Rattle.std.proofs.Common.{◌≡◌, ◌⊎◌, inl, inr, ℕ, ◌≤◌, ℤ, pos, Bool, true, false, ◌==◌, List, [], ◌∷◌, ◌++◌, length, Option, Some, None, refl, sym, ap, ◌∙◌, subst, if◌then◌else◌, arith}
use Rattle.std.specs.Prelude.{not, ◌&&◌, ◌||◌}
use Rattle.std.specs.List.{AllByRecursion}
use Rattle.std.proofs.lemmas.Bool.{and_parts}
use Rattle.meaning_forms.specs.Class.{contains}
use Rattle.region_forms.specs.Form.{Kinds, help_slot, Op, throw, enter}
use Rattle.region_forms.specs.Caught.{Entry}
use Rattle.region_forms.specs.Lives.{is_built, is_live, can_travel, is_on_top}
use Rattle.region_forms.specs.World.{Word, nothing, number_word, address_word, flying, unwinding, exception_in_slot, Live, exception_in, exception_at, type_at, address_in, Frame, World, exception_of}
use Rattle.linear_forms.specs.Linear.{LinearOp, plain, jump_filter, free, resume, unexpected}
use Rattle.linear_forms.specs.Stub.{Function, compiled, end_catch, terminating, call_unexpected, CodeOp, linear, end_catch_rows, terminating_rows, call_unexpected_rows}
use Rattle.linear_forms.specs.Activation.{Code, Activation, State, fetch}
use Rattle.linear_forms.specs.Operation.{may_free}
use Rattle.linear_forms.specs.Machine.{step}
use Rattle.linear_forms.specs.Defined.{IsDefined, RunsAt}
use Rattle.linear_forms.specs.Unit.{unit_of}
use Rattle.linear_forms.specs.UnitRun.{code_of}
use Rattle.linear_forms.proofs.Defined.{defined_where_live}
use Rattle.exceptions_in_flight.specs.Targets.{AimsAt}
use Rattle.exceptions_in_flight.proofs.Targets.{aims_have_targets}
use Rattle.flight_homes.specs.Homes.{is_one_of}
use Rattle.flight_homes.specs.Keeps.{Carrying, Carried, destroyed_in, gone, is_help_in}
use Rattle.flight_homes.specs.Lives.{Known, ExceptionKnown, LiveKnown, OpKnown, known_in}
use Rattle.flight_homes.specs.Whole.{IsCaught}
use Rattle.linear_invariant.specs.Held.{NoneHolds}
use Rattle.linear_invariant.specs.Handled.{Unhandled, EachOnce, AllBuilt, IsGone}
use Rattle.linear_invariant.specs.Calls.{IsOther, Marks, unmarked, OnItsWay, WordGoes, FlightGoes, IsStopped, CallKeeps, CallsKeep}
use Rattle.linear_invariant.specs.Code.{NamesHelp, CodeFits}
use Rattle.linear_invariant.specs.Stands.{StandsIn}
use Rattle.linear_invariant.specs.Asked.{HasWhole, ThrowAsked, EnterAsked, FreeAsked, NewestAsked, FlightAsked, GoesOut, PassAsked, ThrowsAreAsked, EntersAreAsked, FreesAreAsked, LeavesAreAsked, ResumesAreAsked, PassesAreAsked, TestsAreAsked}
use Rattle.linear_invariant.proofs.Lists.{other_way}
use Rattle.linear_invariant.proofs.Rows.{NoPass, NoResume, NoUnexpected, Without, all_end_catch, all_terminating, catch_resumes, none_passing, none_terminating, op_there, passing_resumes, passing_tests, row_has}
use Rattle.linear_invariant.proofs.Worlds.{But, unhandled_building, building_waits}
use Rattle.linear_invariant.proofs.Calls.{none_of, newest_held}
use Rattle.linear_invariant.proofs.Tops.{called}
use Rattle.linear_invariant.proofs.Effects.{has_object, slot_free}
use Rattle.linear_invariant.proofs.Given.{built_number, live_number}
use Rattle.linear_invariant.proofs.Returns.{helps_whole}

-- lists of numbers

pub both_none : (xs ys : List ℕ) (e : ℕ) → contains xs e ≡ false → contains ys e ≡ false → contains (xs ++ ys) e ≡ false
both_none [] ys e h i = i
both_none (x ∷ xs) ys e h i = go (x == e) h (λ j. both_none xs ys e j i)
  where
    go : (b : Bool) → (b || contains xs e) ≡ false → (contains xs e ≡ false → contains (xs ++ ys) e ≡ false) → (b || contains (xs ++ ys) e) ≡ false
    go true h rest = absurd (cc h)
    go false h rest = rest h

pub none_gone : (k : Carrying) (f : Option Function) (fs : List Activation) (e : ℕ) → NoneHolds k f fs e → contains (gone fs) e ≡ false
none_gone k f [] e h = refl
none_gone k f (a ∷ fs) e h = both_none (destroyed_in a.function a.frame) (gone fs) e h.1 (none_gone k (Some a.function) fs e h.2)

pub exception_known : (known : Known) (n : ℕ) (xs : List Live) (e : ℕ) → AllByRecursion (LiveKnown known n) xs → ExceptionKnown known (exception_in xs e)
exception_known known n [] e h = tt
exception_known known n (y ∷ ys) e h = go (y.number == e) (exception_known known n ys e h.1)
  where
    go : (b : Bool) → ExceptionKnown known (exception_in ys e) → ExceptionKnown known (if b then y.exception else exception_in ys e)
    go true rest = h.0.exception
    go false rest = rest

pub caught_word : (marks : Marks) (code : Code) (a : Activation) (fs : List Activation) (c : Carried) (w : World) (word : Word) → WordGoes marks code a fs c word w → IsCaught word
caught_word marks code a fs c w (flying e d) h = tt
caught_word marks code a fs c w (unwinding z) h = tt
caught_word marks code a fs c w nothing h = h
caught_word marks code a fs c w (number_word z) h = h
caught_word marks code a fs c w (address_word q) h = h

-- the number of what is carried
abbrev HasNumber : Word → Type 0
HasNumber x = (z : ℤ) × (x ≡ number_word z)

carried_number : (marks : Marks) (code : Code) (a : Activation) (fs : List Activation) (c : Carried) (w : World) (word : Word) → WordGoes marks code a fs c word w → HasNumber c.number
carried_number marks code a fs c w (flying e d) h = (h.0.selector, h.0.number)
carried_number marks code a fs c w (unwinding z) h = (pos 0, h.0)
carried_number marks code a fs c w nothing h = absurd h
carried_number marks code a fs c w (number_word z) h = absurd h
carried_number marks code a fs c w (address_word q) h = absurd h

stopped_number : (marks : Marks) (word x : Word) → IsStopped marks word x → HasNumber x
stopped_number marks (flying e d) x h = (pos 1, h)
stopped_number marks (unwinding z) x h = (pos 0, h.0)
stopped_number marks nothing x h = absurd h
stopped_number marks (number_word z) x h = absurd h
stopped_number marks (address_word q) x h = absurd h

module _ (marks : Marks) (code : Code) (k : Carrying) (fits : CodeFits marks.known code k) (steps : ℕ) (st : State) (h : StandsIn marks code k steps st) where
  -- a slot of the newest call with an exception that is there
  has_whole : (s : ℕ) → is_help_in code st.top.function s → 1 ≤ exception_in_slot st.top.frame s → HasWhole k st s (exception_in_slot st.top.frame s)
  has_whole s help first =
      let whole = helps_whole code st.top.function st.top.frame h.whole.0 in
      let held = slot_free marks code k fits.carries steps st.top.function st.top.place st.top.frame st.frames st.world h.calls.0 h.calls.1 h.world h.lives whole s help first in
      record {
        object = has_object marks code k fits.carries steps st.top.function st.top.place st.top.frame st.frames st.world h.calls.0 h.calls.1 h.world h.lives whole s help first;
        whole = none_gone k (Some st.top.function) st.frames (exception_in_slot st.top.frame s) held;
        unheld = held;
      }

  helps_at : (f : Function) (p s : ℕ) (o : LinearOp) → fetch code f p ≡ Some (linear o) → ((kinds : Kinds) → NamesHelp kinds o → kinds s ≡ help_slot) → is_help_in code f s
  helps_at (compiled n) p s o e names = names (code.kinds_at n) (fits.carries.helps n p o (op_there (code.op_at n p) o e))
  helps_at end_catch p s o e names = tt
  helps_at terminating p s o e names = tt
  helps_at call_unexpected p s o e names = tt

  -- what an operation names is known
  abbrev Named : CodeOp → Type 0
  Named (linear (plain o)) = OpKnown marks.known o
  Named o = Unit {0}

  named_catch : Without Named end_catch_rows
  named_catch = (tt, (tt, (tt, (tt, (tt, (tt, (tt, tt)))))))

  named_ending : Without Named terminating_rows
  named_ending = (tt, (tt, tt))

  named_passing : Without Named call_unexpected_rows
  named_passing = (tt, (tt, (tt, (tt, (tt, (tt, (tt, (tt, (tt, (tt, (tt, (tt, (tt, ((fits.names.bad, fits.names.none), (tt, (tt, (tt, (tt, tt))))))))))))))))))

  named_at : (f : Function) (p : ℕ) (o : Op) → fetch code f p ≡ Some (linear (plain o)) → OpKnown marks.known o
  named_at (compiled n) p o e = fits.names.operations n p o (op_there (code.op_at n p) (plain o) e)
  named_at end_catch p o e = row_has Named end_catch_rows named_catch p (linear (plain o)) e
  named_at terminating p o e = row_has Named terminating_rows named_ending p (linear (plain o)) e
  named_at call_unexpected p o e = row_has Named call_unexpected_rows named_passing p (linear (plain o)) e

  pub throw_asked : (s t : ℕ) (d : Option ℕ) → RunsAt code st (linear (plain (throw s t d))) → IsDefined (step code st) → ThrowAsked marks.known k st s t d
  throw_asked s t d runs defined =
      let e = exception_in_slot st.top.frame s in
      let building = defined_where_live.throws code st s t d runs defined in
      let live = (and_parts (is_live st.world e) (not (is_built (exception_at st.world e))) building).0 in
      let first = (live_number marks.known st.world.last_number st.world.live e h.lives.lives live).0 in
      let named = named_at st.top.function st.top.place (throw s t d) runs in
      record {
        has = has_whole s (helps_at st.top.function st.top.place s (plain (throw s t d)) runs (λ kinds names. names)) first;
        building = building;
        unhandled = unhandled_building st.world e st.world.caught (building_waits st.world e building) h.world.built;
        type = named.0;
        destructor = named.1;
      }

  pub enter_asked : (s : ℕ) → RunsAt code st (linear (plain (enter s))) → IsDefined (step code st) → EnterAsked marks.known k steps st s
  enter_asked s runs defined =
      let e = exception_in_slot st.top.frame s in
      let may = defined_where_live.enters code st s runs defined in
      let can = (and_parts (can_travel st.world e) (not (st.world.uncaught == 0) && is_on_top e st.world.caught) may).0 in
      let first = (built_number marks.known st.world.last_number st.world.live e h.lives.lives can).0 in
      record {
        has = has_whole s (helps_at st.top.function st.top.place s (plain (enter s)) runs (λ kinds names. names)) first;
        may = may;
        few = h.world.few;
        exception = exception_known marks.known st.world.last_number st.world.live e h.lives.lives;
      }

  live_there : (f : Function) (e : ℕ) → may_free f st.world e ≡ true → is_live st.world e ≡ true
  live_there (compiled n) e may = (and_parts (is_live st.world e) (not (is_built (exception_at st.world e))) may).0
  live_there end_catch e may = may
  live_there terminating e may = may
  live_there call_unexpected e may = may

  pub free_asked : (s : ℕ) → RunsAt code st (linear (free s)) → IsDefined (step code st) → FreeAsked k st s
  free_asked s runs defined =
      let e = exception_in_slot st.top.frame s in
      let live = live_there st.top.function e (defined_where_live.frees code st s runs defined) in
      record {
        has = has_whole s (helps_at st.top.function st.top.place s (free s) runs (λ kinds names. names)) (live_number marks.known st.world.last_number st.world.live e h.lives.lives live).0;
        live = live;
      }

  -- no call waits for the destructor of what is handled
  all_apart : (x : ℕ) (xs : List ℕ) → ((i : ℕ) → IsGone st.world i → (i == x) ≡ false) → AllByRecursion (IsGone st.world) xs → AllByRecursion (But x) xs
  all_apart x [] other i = tt
  all_apart x (y ∷ ys) other i = (other y i.0, all_apart x ys other i.1)

  handled_apart : (x : ℕ) (f : Option Function) (fs : List Activation) → ((i : ℕ) → IsGone st.world i → (i == x) ≡ false) → CallsKeep code k marks f fs st.world → contains (gone fs) x ≡ false
  handled_apart x f [] other i = refl
  handled_apart x f (a ∷ fs) other i =
      both_none (destroyed_in a.function a.frame) (gone fs) x (none_of x (destroyed_in a.function a.frame) (all_apart x (destroyed_in a.function a.frame) other i.0.gone)) (handled_apart x (Some a.function) fs other i.1)

  pub newest_asked : (x : Entry) (xs : List Entry) → st.world.caught ≡ x ∷ xs → NewestAsked marks.known k st x xs
  newest_asked x xs e =
      let built = subst (AllBuilt st.world) e h.world.built in
      let once = subst EachOnce e h.world.once in
      record {
        can = built.0;
        whole = handled_apart x.number None (st.top ∷ st.frames) (λ i g. other_way x.number i (apart i g).0) h.calls;
        once = once.0;
        exception = exception_known marks.known st.world.last_number st.world.live x.number h.lives.lives;
        unheld = λ stays. newest_held code k marks st.world None (st.top ∷ st.frames) h.calls x xs e stays;
      }
    where
      apart : (i : ℕ) → IsGone st.world i → Unhandled i (x ∷ xs)
      apart i g = subst (Unhandled i) e g.unhandled

  -- an exception that the newest call carries, whose object is in a slot for help
  pub flight_asked : (c : Carried) (s e d : ℕ) → is_help_in code st.top.function s → st.top.frame.slots s ≡ flying e d → OnItsWay code st.top st.frames c e d st.world → FlightAsked marks.known k st e d
  flight_asked c s e d help is o =
      let held = h.calls.0.forgets s e help (ap address_in is) in
      record {
        can = o.can;
        whole = none_gone k (Some st.top.function) st.frames e held;
        apart = o.apart;
        unheld = held;
        again = o.again;
        exception = exception_known marks.known st.world.last_number st.world.live e h.lives.lives;
      }

  -- what goes on outwards
  record Out (f : Function) (p : ℕ) (x : Frame) (fs : List Activation) (w : World) (s : ℕ) : Type 0 where
    what : Carried
    goes : WordGoes marks code (called f p x) fs what (x.slots s) w
    aims : (e d : ℕ) → OnItsWay code (called f p x) fs what e d w → AimsAt code (type_at w e) d (called f p x ∷ fs)
    help : is_help_in code f s

  out_of_catch : (x : Frame) (fs : List Activation) (w : World) → CallKeeps code k marks None (called end_catch 6 x) fs w → Out end_catch 6 x fs w 2
  out_of_catch x fs w own = record { what = record { word = x.slots 2; home = 6; number = x.slots 3; left = [] }; goes = own.carries; aims = λ e d o. by e d o.selector o.goes; help = tt }
    where
      by : (e d : ℕ) (z : ℤ) → ((false ≡ true) × (d ≡ length fs)) ⊎ (IsOther z [] × AimsAt code (type_at w e) d (called end_catch 6 x ∷ fs)) → AimsAt code (type_at w e) d (called end_catch 6 x ∷ fs)
      by e d z (inl i) = absurd (cc i.0)
      by e d z (inr i) = i.1

  out_of_handler : (x : Frame) (fs : List Activation) (w : World) → CallKeeps code k marks None (called call_unexpected 17 x) fs w → Out call_unexpected 17 x fs w 4
  out_of_handler x fs w own = record { what = record { word = x.slots 4; home = 17; number = x.slots 5; left = [] }; goes = own.carries; aims = λ e d o. by e d o.selector o.goes; help = tt }
    where
      by : (e d : ℕ) (z : ℤ) → ((false ≡ true) × (d ≡ length fs)) ⊎ (IsOther z [] × AimsAt code (type_at w e) d (called call_unexpected 17 x ∷ fs)) → AimsAt code (type_at w e) d (called call_unexpected 17 x ∷ fs)
      by e d z (inl i) = absurd (cc i.0)
      by e d z (inr i) = i.1

  abbrev carried_at : ℕ → ℕ → Frame → Carried
  carried_at n p x = record { word = x.slots (k.object n); home = k.home n p; number = x.slots (k.selector n); left = k.left n p }

  carried_word : (n p : ℕ) (x : Frame) (fs : List Activation) (w : World) → k.carries n p ≡ true → FlightGoes marks code (called (compiled n) p x) fs (if k.carries n p then Some (carried_at n p x) else None) w →
      WordGoes marks code (called (compiled n) p x) fs (carried_at n p x) (x.slots (k.object n)) w
  carried_word n p x fs w here g = go (k.carries n p) here g
    where
      go : (b : Bool) → b ≡ true → FlightGoes marks code (called (compiled n) p x) fs (if b then Some (carried_at n p x) else None) w → WordGoes marks code (called (compiled n) p x) fs (carried_at n p x) (x.slots (k.object n)) w
      go true e g = g
      go false e g = absurd (cc e)

  out_of_compiled : (n p s : ℕ) (x : Frame) (fs : List Activation) (w : World) → CallKeeps code k marks None (called (compiled n) p x) fs w → code.op_at n p ≡ Some (resume s) → Out (compiled n) p x fs w s
  out_of_compiled n p s x fs w own there =
      let is = fits.carries.resumes n p s there in
      let word = carried_word n p x fs w is.0 own.carries in
      record {
        what = carried_at n p x;
        goes = subst (λ o. WordGoes marks code (called (compiled n) p x) fs (carried_at n p x) (x.slots o) w) (sym is.1) word;
        aims = λ e d o. by e d o.selector o.goes;
        help = ap (code.kinds_at n) is.1 ∙ fits.carries.object n;
      }
    where
      by : (e d : ℕ) (z : ℤ) → ((is_one_of z (k.left n p) ≡ true) × (d ≡ length fs)) ⊎ (IsOther z (k.left n p) × AimsAt code (type_at w e) d (called (compiled n) (k.home n p) x ∷ fs)) → AimsAt code (type_at w e) d (called (compiled n) p x ∷ fs)
      by e d z (inl i) = let never : false ≡ true = sym (ap (is_one_of z) (fits.carries.ends n p s there).1) ∙ i.0 in absurd (cc never)
      by e d z (inr i) = subst (λ q. AimsAt code (type_at w e) d (called (compiled n) q x ∷ fs)) (fits.carries.ends n p s there).0 i.1

  out_at : (f : Function) (p s : ℕ) (x : Frame) (fs : List Activation) (w : World) → CallKeeps code k marks None (called f p x) fs w → fetch code f p ≡ Some (linear (resume s)) → Out f p x fs w s
  out_at (compiled n) p s x fs w own e = out_of_compiled n p s x fs w own (op_there (code.op_at n p) (resume s) e)
  out_at end_catch p s x fs w own e =
      let is = catch_resumes p s e in
      subst (λ q. Out end_catch q x fs w s) is.0
      (subst (Out end_catch 6 x fs w) is.1 (out_of_catch x fs w (subst (λ q. CallKeeps code k marks None (called end_catch q x) fs w) (sym is.0) own)))
  out_at terminating p s x fs w own e = absurd (row_has NoResume terminating_rows none_terminating p (linear (resume s)) e)
  out_at call_unexpected p s x fs w own e =
      let is = passing_resumes p s e in
      subst (λ q. Out call_unexpected q x fs w s) is.0
      (subst (Out call_unexpected 17 x fs w) is.1 (out_of_handler x fs w (subst (λ q. CallKeeps code k marks None (called call_unexpected q x) fs w) (sym is.0) own)))

  pub resume_asked : (s : ℕ) → RunsAt code st (linear (resume s)) → GoesOut marks.known code k st s
  resume_asked s runs =
      let out = out_at st.top.function st.top.place s st.top.frame st.frames st.world h.calls.0 runs in
      record {
        caught = caught_word marks code st.top st.frames out.what st.world (st.top.frame.slots s) out.goes;
        asked = λ e d is.
            let o = subst (λ y. WordGoes marks code st.top st.frames out.what y st.world) is out.goes in
            record {
              flight = flight_asked out.what s e d out.help is o.0;
              aims = out.aims e d o.0;
              target = aims_have_targets code (type_at st.world e) d (st.top ∷ st.frames) (out.aims e d o.0);
            };
      }

  -- what a specification stopped
  record Passed (f : Function) (p : ℕ) (x : Frame) (fs : List Activation) (w : World) (o s : ℕ) : Type 0 where
    what : Carried
    goes : WordGoes marks code (called f p x) fs what (x.slots o) w
    number : HasNumber (x.slots s)
    help : is_help_in code f o

  passed_at : (f : Function) (p o s : ℕ) (x : Frame) (fs : List Activation) (w : World) → CallKeeps code k marks None (called f p x) fs w → fetch code f p ≡ Some (linear (unexpected o s)) → Passed f p x fs w o s
  passed_at (compiled n) p o s x fs w own e =
      let is = fits.carries.passes n p o s (op_there (code.op_at n p) (unexpected o s) e) in
      let word = carried_word n p x fs w is.0 own.carries in
      record {
        what = carried_at n p x;
        goes = subst (λ i. WordGoes marks code (called (compiled n) p x) fs (carried_at n p x) (x.slots i) w) (sym is.1) word;
        number = subst (λ i. HasNumber (x.slots i)) (sym is.2) (carried_number marks code (called (compiled n) p x) fs (carried_at n p x) w (x.slots (k.object n)) word);
        help = ap (code.kinds_at n) is.1 ∙ fits.carries.object n;
      }
  passed_at end_catch p o s x fs w own e = absurd (row_has NoPass end_catch_rows all_end_catch p (linear (unexpected o s)) e)
  passed_at terminating p o s x fs w own e = absurd (row_has NoPass terminating_rows all_terminating p (linear (unexpected o s)) e)
  passed_at call_unexpected p o s x fs w own e = absurd (row_has NoUnexpected call_unexpected_rows none_passing p (linear (unexpected o s)) e)

  -- what may be entered is no forced unwind
  flies_there : (word : Word) → IsCaught word → 1 ≤ exception_of (address_in word) → (e : ℕ) × (d : ℕ) × (word ≡ flying e d)
  flies_there (flying e d) i le = (e, d, refl)
  flies_there (unwinding z) i le = absurd (omega (arith, le))
  flies_there nothing i le = absurd i
  flies_there (number_word z) i le = absurd i
  flies_there (address_word q) i le = absurd i

  pub pass_asked : (o s : ℕ) → RunsAt code st (linear (unexpected o s)) → PassAsked marks.known k st o s
  pass_asked o s runs =
      let passed = passed_at st.top.function st.top.place o s st.top.frame st.frames st.world h.calls.0 runs in
      let caught = caught_word marks code st.top st.frames passed.what st.world (st.top.frame.slots o) passed.goes in
      record {
        caught = caught;
        selector = passed.number.0;
        number = passed.number.1;
        asked = λ e d is. flight_asked passed.what o e d passed.help is (subst (λ y. WordGoes marks code st.top st.frames passed.what y st.world) is passed.goes).0;
        enters = λ may.
            let can = (and_parts (can_travel st.world (exception_in_slot st.top.frame o)) (not (st.world.uncaught == 0) && is_on_top (exception_in_slot st.top.frame o) st.world.caught) may).0 in
            flies_there (st.top.frame.slots o) caught (built_number marks.known st.world.last_number st.world.live (exception_in_slot st.top.frame o) h.lives.lives can).0;
      }

  -- where a filter is tested
  tested_at : (f : Function) (p s l : ℕ) (z : ℤ) (x : Frame) (fs : List Activation) (w : World) → CallKeeps code k marks None (called f p x) fs w → fetch code f p ≡ Some (linear (jump_filter s z l)) → HasNumber (x.slots s)
  tested_at (compiled n) p s l z x fs w own e =
      let there = op_there (code.op_at n p) (jump_filter s z l) e in
      let here = fits.carries.filters n p s l z there in
      let word = carried_word n p x fs w here own.carries in
      subst (λ i. HasNumber (x.slots i)) (sym (fits.carries.tests n p s l z there here).0) (carried_number marks code (called (compiled n) p x) fs (carried_at n p x) w (x.slots (k.object n)) word)
  tested_at end_catch p s l z x fs w own e = absurd (row_has NoPass end_catch_rows all_end_catch p (linear (jump_filter s z l)) e)
  tested_at terminating p s l z x fs w own e = absurd (row_has NoPass terminating_rows all_terminating p (linear (jump_filter s z l)) e)
  tested_at call_unexpected p s l z x fs w own e =
      let is = passing_tests p s l z e in
      let there = subst (λ q. CallKeeps code k marks None (called call_unexpected q x) fs w) (sym is.0) own in
      subst (λ i. HasNumber (x.slots i)) is.1 (stopped_number marks (x.slots 4) (x.slots 5) there.slots)

  pub test_asked : (s l : ℕ) (z : ℤ) → RunsAt code st (linear (jump_filter s z l)) → HasNumber (st.top.frame.slots s)
  test_asked s l z runs = tested_at st.top.function st.top.place s l z st.top.frame st.frames st.world h.calls.0 runs

pub throws_are_asked : ThrowsAreAsked
throws_are_asked r k steps s t d st fits h runs defined = throw_asked (unmarked (known_in r)) (code_of (unit_of r)) k fits steps st h s t d runs defined

pub enters_are_asked : EntersAreAsked
enters_are_asked r k steps s st fits h runs defined = enter_asked (unmarked (known_in r)) (code_of (unit_of r)) k fits steps st h s runs defined

pub frees_are_asked : FreesAreAsked
frees_are_asked r k steps s st fits h runs defined = free_asked (unmarked (known_in r)) (code_of (unit_of r)) k fits steps st h s runs defined

pub leaves_are_asked : LeavesAreAsked
leaves_are_asked r k steps st x xs fits h e = newest_asked (unmarked (known_in r)) (code_of (unit_of r)) k fits steps st h x xs e

pub resumes_are_asked : ResumesAreAsked
resumes_are_asked r k steps s st fits h runs = resume_asked (unmarked (known_in r)) (code_of (unit_of r)) k fits steps st h s runs

pub passes_are_asked : PassesAreAsked
passes_are_asked r k steps o s st fits h runs = pass_asked (unmarked (known_in r)) (code_of (unit_of r)) k fits steps st h o s runs

pub tests_are_asked : TestsAreAsked
tests_are_asked r k steps s l z st fits h runs = test_asked (unmarked (known_in r)) (code_of (unit_of r)) k fits steps st h s l z runs
