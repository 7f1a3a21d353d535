-- Call_unexpected behind its first pad, whatever came out of the unexpected handler, in a whole run.
use Rattle.std.proofs.Common.{◌≡◌, ◌∙◌, refl, sym, ap, subst, arith, ℕ, ◌<◌, ◌^◌, ◌==◌, ◌&&◌, ◌||◌, ◌⊎◌, inl, inr, pos, Bool, true, false, List, [], ◌∷◌, Option, Some, None, if◌then◌else◌}
use Rattle.std.specs.Prelude.{not}
use Rattle.std.proofs.lemmas.Bool.Decides.{nat_tests}
use Rattle.meaning_forms.specs.Class.{some_of, contains}
use Rattle.meaning_forms.specs.World.{Installed}
use Rattle.cxa_runtime.specs.World as abi
use Rattle.region_forms.specs.Caught.{Entry, holds_other}
use Rattle.region_forms.specs.Effect.{is_foreign}
use Rattle.region_forms.specs.Ending.{bad_row}
use Rattle.region_forms.specs.Form.{TypeRow}
use Rattle.region_forms.specs.Guard.{allows}
use Rattle.region_forms.specs.Lives.{is_built, is_on_top, may_enter}
use Rattle.region_forms.specs.World.{Word, nothing, number_word, address_word, flying, unwinding, Exception, building, native, foreign, exception_in_slot, exception_at}
use Rattle.linear_forms.specs.Stub.{compiled, call_unexpected}
use Rattle.linear_forms.specs.StubOperation.{checked}
use Rattle.linear_forms.specs.Tables.{Sense, cleanup, clause, list_of, no_sense}
use Rattle.linear_forms.specs.Activation.{Activation, State, Code}
use Rattle.linear_forms.specs.UnitRun.{code_of}
use Rattle.flight_homes.specs.Lives.{known_in}
use Rattle.flight_homes.specs.Nest.{CallsNest, is_called_by}
use Rattle.linear_invariant.specs.Calls.{unmarked, IsStopped, StubHolds}
use Rattle.linear_invariant.specs.Stands.{StandsIn}
use Rattle.machine_simulation.specs.Plan.{Plan}
use Rattle.stub_landings.specs.Rests.{ChecksThrown}
use Rattle.unexpected_calls.specs.Leaves.{CalledByCompiled}
use Rattle.step_law.specs.Facts.{regions_for, code_for}
use Rattle.step_law.specs.Standing.{IsFounded}
use Rattle.step_law.specs.Handled.{HandlesStopped, ChecksFollow}
use Rattle.step_law.specs.Leaves.{destructor_due}
use Rattle.step_law.specs.Own.{StandsAt}
use Rattle.step_law.specs.OwnLeaves.{OwnLeavesFollow, OwnDestructorsBeginFollow}
use Rattle.step_law.specs.Rows.{Run, FollowsIn}
use Rattle.step_law.specs.Thrown.{ComesOut, OutOfHandlerBreaks, OutOfHandlerIsCrowded, UnlistedFollows, AllowedFollows, BadFollows}
use Rattle.step_law.proofs.ComesBack.{caller_compiled}
use Rattle.step_law.proofs.Keeping.{unmarked_stands}

-- the list answers 0, 1 or 2
one_of_three : (rows : List TypeRow) (s : Sense) (t : Option ℕ) → (checked rows s t ≡ pos 0) ⊎ (checked rows s t ≡ pos 1) ⊎ (checked rows s t ≡ pos 2)
one_of_three rows (list_of types) t = by (allows rows types t) (contains types bad_row)
  where
    by : (a b : Bool) → ((if a then pos 0 else if b then pos 1 else pos 2) ≡ pos 0) ⊎ ((if a then pos 0 else if b then pos 1 else pos 2) ≡ pos 1) ⊎ ((if a then pos 0 else if b then pos 1 else pos 2) ≡ pos 2)
    by true b = inl refl
    by false true = inr (inl refl)
    by false false = inr (inr refl)
one_of_three rows cleanup t = inr (inr refl)
one_of_three rows (clause c) t = inr (inr refl)
one_of_three rows no_sense t = inr (inr refl)

-- where one that is handled is another, some entry is of another
other_handled : (xs : List Entry) (s e : ℕ) → (s ≡ e → ⊥) → some_of (λ y. y.number == s) xs ≡ true → holds_other e xs ≡ true
other_handled [] s e other some = absurd (cc some)
other_handled (y ∷ ys) s e other some = by (y.number == s) refl some (other_handled ys s e other)
  where
    differs : (n : ℕ) → (n == s) ≡ true → (n == e) ≡ false
    differs n is = grind (arith, nat_tests, is, other)

    by : (b : Bool) → (y.number == s) ≡ b → (b || some_of (λ z. z.number == s) ys) ≡ true → (some_of (λ z. z.number == s) ys ≡ true → holds_other e ys ≡ true) → (not (y.number == e) || holds_other e ys) ≡ true
    by true is some rest = ap (λ b. not b || holds_other e ys) (differs y.number is)
    by false is some rest = second (not (y.number == e)) (holds_other e ys) (rest some)
      where
        second : (a b : Bool) → b ≡ true → (a || b) ≡ true
        second true b h = refl
        second false b h = h

-- a compiled function called call_unexpected
called_by : (st : State) (frames : List Activation) → st.frames ≡ frames → st.top.function ≡ call_unexpected → CallsNest (st.top ∷ st.frames) → IsFounded st.top.function st.frames → CalledByCompiled st
called_by st [] is runs nest founded =
    let h : IsFounded st.top.function [] = subst (IsFounded st.top.function) is founded in
    let no : call_unexpected ≡ compiled h.0 = sym runs ∙ h.1 in absurd (cc no)
called_by st (a ∷ fs) is runs nest founded =
    let both : CallsNest (st.top ∷ a ∷ fs) = subst (λ gs. CallsNest (st.top ∷ gs)) is nest in
    let c = caller_compiled a.function (subst (λ f. is_called_by f a.function ≡ true) runs both.0) in
    record { number = c.number; caller = a; others = fs; frames = is; compiled = c.is }

module _ (breaks : OutOfHandlerBreaks) (crowded : OutOfHandlerIsCrowded) (unlisted : UnlistedFollows) (allowed : AllowedFollows) (bad : BadFollows) (leaves : OwnLeavesFollow) (begins : OwnDestructorsBeginFollow) where
  module _ (x : Run) (q : Plan) (before : ℕ) (st : State) (w : abi.World) (here : StandsAt x q before st w) (few : before < 2 ^ 40) (h : ChecksThrown q st w) (handles : HandlesStopped st.top.frame st.world) where
    abbrev code : Code
    code = code_for x.program

    inv : StandsIn (unmarked (known_in (regions_for x.program))) code x.carrying here.stands.steps st
    inv = unmarked_stands x.program x.image x.carrying x.tables q before st w here.stands

    stopped : IsStopped (unmarked (known_in (regions_for x.program))) (st.top.frame.slots 4) (st.top.frame.slots 5)
    stopped =
        let first : StubHolds (unmarked (known_in (regions_for x.program))) call_unexpected st.top.place st.top.frame = subst (λ f. StubHolds (unmarked (known_in (regions_for x.program))) f st.top.place st.top.frame) h.rests.runs inv.calls.0.slots in
        subst (λ k. StubHolds (unmarked (known_in (regions_for x.program))) call_unexpected k st.top.frame) h.place first

    called : CalledByCompiled st
    called = called_by st st.frames refl h.rests.runs here.stands.stands.stand.nest here.stands.founded

    -- an exception
    flies_out : (e d : ℕ) → st.top.frame.slots 4 ≡ flying e d → FollowsIn x before st w
    flies_out e d is = by (may_enter st.world e) refl
      where
        out : ComesOut x q before st w e d
        out = record { here = here; rests = h; called = called; flies = is }

        answers : (type : ℕ) (destructor : Option ℕ) (kept : Installed) → exception_at st.world e ≡ native type destructor kept → may_enter st.world e ≡ true →
            (checked q.unit.types ((code_of q.unit).sense_at h.kept.owner h.kept.selector) (Some type) ≡ pos 0) ⊎ (checked q.unit.types ((code_of q.unit).sense_at h.kept.owner h.kept.selector) (Some type) ≡ pos 1)
            ⊎ (checked q.unit.types ((code_of q.unit).sense_at h.kept.owner h.kept.selector) (Some type) ≡ pos 2) → FollowsIn x before st w
        answers type destructor kept kind may (inl says) = allowed x q before e d type destructor kept st w (record { out = out; few = few; native = kind; may = may; says = says })
        answers type destructor kept kind may (inr (inl says)) = bad x q before e d type destructor kept st w (record { out = out; few = few; native = kind; may = may; says = says })
        answers type destructor kept kind may (inr (inr says)) =
            unlisted x q before e d type handles.type destructor handles.destructor kept handles.kept st w (record { out = out; few = few; native = kind; may = may; says = says }) handles.native

        by_kind : (y : Exception) → exception_at st.world e ≡ y → may_enter st.world e ≡ true → FollowsIn x before st w
        by_kind building kind may = absurd (never kind may)
          where
            never : exception_at st.world e ≡ building → may_enter st.world e ≡ true → ⊥
            never kind may = let no : false ≡ true = sym (ap (λ y. is_built y && (not (st.world.uncaught == 0) && is_on_top e st.world.caught)) kind) ∙ may in cc no
        by_kind (native type destructor kept) kind may = answers type destructor kept kind may (one_of_three q.unit.types ((code_of q.unit).sense_at h.kept.owner h.kept.selector) (Some type))
        by_kind (foreign k token) kind may =
            let other : exception_in_slot st.top.frame 0 ≡ e → ⊥ = λ same.
            (let no : native handles.type handles.destructor handles.kept ≡ foreign k token = sym handles.native ∙ ap (exception_at st.world) same ∙ kind in cc no) in
            crowded x q before e d st w out few may (ap (λ y. is_foreign y && holds_other e st.world.caught) kind ∙ other_handled st.world.caught (exception_in_slot st.top.frame 0) e other handles.handled)

        by : (b : Bool) → may_enter st.world e ≡ b → FollowsIn x before st w
        by true may = by_kind (exception_at st.world e) refl may
        by false none = breaks x q before e d st w out none

    -- a forced unwind
    unwinds_out : st.top.frame.slots 5 ≡ number_word (pos 0) → FollowsIn x before st w
    unwinds_out is = by (destructor_due st.world st.world.caught) refl
      where
        zero_filter : h.filter ≡ pos 0
        zero_filter = let same : number_word h.filter ≡ number_word (pos 0) = sym h.filter_is.0 ∙ is in cc same

        by : (y : Option ℕ) → destructor_due st.world st.world.caught ≡ y → FollowsIn x before st w
        by None none = leaves x q before st w here (inr (inr (h, zero_filter))) none
        by (Some m) some = begins x q before m st w here (inr (inr (h, zero_filter))) some

    follows : FollowsIn x before st w
    follows = by (st.top.frame.slots 4) refl stopped
      where
        by : (word : Word) → st.top.frame.slots 4 ≡ word → IsStopped (unmarked (known_in (regions_for x.program))) word (st.top.frame.slots 5) → FollowsIn x before st w
        by (flying e d) is s = flies_out e d is
        by (unwinding z) is s = unwinds_out s.0
        by nothing is s = absurd s
        by (number_word z) is s = absurd s
        by (address_word b) is s = absurd s

  pub checks_follow : ChecksFollow
  checks_follow x q before st w here few h handles = follows x q before st w here few h handles
