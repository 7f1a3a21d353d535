-- Statements one behind another, in blocks, branches and loops, and the ways out of them, over whatever the parts do.
use Rattle.std.specs.Prelude.{◌≡◌, ℕ, suc, ◌+◌, ◌-◌, ◌<◌, ℤ, Bool, true, false, List, [], ◌∷◌, ◌++◌, Option, Some, None, if◌then◌else◌}
use Rattle.cxx_ast.specs.Plain.{Expression}
use Rattle.meaning_forms.specs.Arithmetic.{is_zero}
use Rattle.meaning_forms.specs.Context.{Context as SourceContext}
use Rattle.meaning_forms.specs.Frame.{Frame as SourceFrame}
use Rattle.meaning_forms.specs.Statement.{loop as source_loop, ◌then◌}
use Rattle.meaning_forms.specs.Outcome.{Action as SourceAction, Flow as SourceFlow, breaks, continues, returns, pure as source_pure, world, ◌>>=◌, ◌>>◌}
use Rattle.region_forms.specs.Form.{Region, branch, leave_region, in_order, regions_from}
use Rattle.region_forms.specs.Outcome.{normal}
use Rattle.region_forms.specs.Ending.{Running}
use Rattle.linear_simulation.specs.Watched.{watched_all}
use Rattle.region_forms.specs.LowerExpression.{Lowering, result_slot, first_temporary, slot_place, Lowered, lower, dropped, lower_store}
use Rattle.region_forms.specs.LowerStatement.{with_value, looping}
use Rattle.region_simulation.specs.Reach.{KindsFit}
use Rattle.region_simulation.specs.Stands.{context_of}
use Rattle.region_simulation.specs.Alike.{Alike}
use Rattle.region_simulation.specs.Evaluates.{Everywhere, Evaluates, IsMeant}
use Rattle.region_simulation.specs.Flows.{DoesAlike}

-- regions come out as an action, and go on normally
abbrev pub GoesOn : {A : Type 0} → Lowering → (own : Option ℕ) → Running → SourceFrame → SourceContext → SourceAction A → List Region → Type 0
GoesOn {A} l own b v c act rs = Everywhere l own v c (λ at w s.
    Alike l.layout l.program at (first_temporary l) c w s (λ a flow w2 at2 s2. flow ≡ normal) (act w) (watched_all b (regions_from rs) (context_of w.open_calls c) s))

-- a test without calls is a value, and any other is evaluated
abbrev pub IsTested : Lowering → (own : Option ℕ) → Running → SourceFrame → SourceContext → Bool → SourceAction ℤ → Lowered → Type 0
IsTested l own b v c false test x = IsMeant l own b v c test x.value
IsTested l own b v c true test x = Evaluates l own b v c (first_temporary l) test x

-- what is said in each call of each function, in every context
abbrev pub InEachCall : (Lowering → (own : Option ℕ) → (gives : Bool) → Running → SourceFrame → SourceContext → Type 0) → Type 0
InEachCall said = (l : Lowering) (own : Option ℕ) (gives : Bool) (b : Running) (v : SourceFrame) (c : SourceContext) → said l own gives b v c

-- one statement, then the rest
abbrev pub SequencesFollow : Type 0
SequencesFollow = InEachCall (λ l own gives b v c.
    (n i d : ℕ) (first rest : SourceAction SourceFlow) (xs ys : List Region)
    → DoesAlike l own gives b v c n i d first xs → DoesAlike l own gives b v c n i d rest ys → DoesAlike l own gives b v c n i d (first then rest) (xs ++ ys))

-- a block is one region
abbrev pub BlocksAreHeld : Type 0
BlocksAreHeld = InEachCall (λ l own gives b v c.
    (n i d : ℕ) (act : SourceAction SourceFlow) (rs : List Region) → i < d → DoesAlike l own gives b v c n i (d + 1) act rs
    → DoesAlike l own gives b v c n i d act (in_order rs ∷ []))

-- what goes on normally, then the rest
abbrev pub EffectsGoOn : Type 0
EffectsGoOn = InEachCall (λ l own gives b v c.
    (n i d : ℕ) (act : SourceAction (Unit {0})) (rest : SourceAction SourceFlow) (xs ys : List Region) → GoesOn l own b v c act xs
    → DoesAlike l own gives b v c n i d rest ys → DoesAlike l own gives b v c n i d (act >> rest) (xs ++ ys))

-- an expression that is evaluated for its effects, then the rest
abbrev pub DroppedValuesGoOn : Type 0
DroppedValuesGoOn = InEachCall (λ l own gives b v c.
    KindsFit l b.kinds → (n i d : ℕ) (e : Expression) (act : SourceAction ℤ) (rest : SourceAction SourceFlow) (ys : List Region)
    → Evaluates l own b v c (first_temporary l) act (lower l e (first_temporary l)) → DoesAlike l own gives b v c n i d rest ys
    → DoesAlike l own gives b v c n i d (act >> rest) (dropped l e (first_temporary l) ++ ys))

-- one of two regions is done, by the value of a test
abbrev pub BranchesDecide : Type 0
BranchesDecide = InEachCall (λ l own gives b v c.
    (n i d : ℕ) (test : SourceAction ℤ) (x : Lowered) (first other : SourceAction SourceFlow) (chosen left_out : Region) → i < d
    → Evaluates l own b v c (first_temporary l) test x
    → DoesAlike l own gives b v c n i (d + 1) first (chosen ∷ []) → DoesAlike l own gives b v c n i (d + 1) other (left_out ∷ [])
    → DoesAlike l own gives b v c n i d (test >>= (λ z. if is_zero z then other else first)) (with_value x (λ y. branch y chosen left_out)))

-- a loop, whose body is in the region behind the loop's own
abbrev pub LoopsTurn : Type 0
LoopsTurn = InEachCall (λ l own gives b v c.
    (calls : Bool) (n i d : ℕ) (test : SourceAction ℤ) (x : Lowered) (body : SourceAction SourceFlow) (bs : ℕ → List Region) → i < d
    → IsTested l own b v c calls test x → ((e : ℕ) → d + 1 < e → DoesAlike l own gives b v c n (d + 1) e body (bs e))
    → DoesAlike l own gives b v c n i d (world >>= (λ w. source_loop (suc w.turns) test body)) (looping calls x (λ e. in_order (bs e)) d ∷ []))

-- `break`
abbrev pub BreaksLeave : Type 0
BreaksLeave = InEachCall (λ l own gives b v c.
    (n i d : ℕ) → DoesAlike l own gives b v c n i d (source_pure breaks) (leave_region (d - i + 1) ∷ []))

-- `continue`
abbrev pub ContinuesLeave : Type 0
ContinuesLeave = InEachCall (λ l own gives b v c.
    (n i d : ℕ) → DoesAlike l own gives b v c n i d (source_pure continues) (leave_region (d - i) ∷ []))

-- `return;`
abbrev pub ReturnsLeave : Type 0
ReturnsLeave = InEachCall (λ l own gives b v c.
    (n i d : ℕ) → gives ≡ false → DoesAlike l own gives b v c n i d (source_pure (returns None)) (leave_region d ∷ []))

-- `return` with a value
abbrev pub ValuesReturn : Type 0
ValuesReturn = InEachCall (λ l own gives b v c.
    KindsFit l b.kinds → (n i d : ℕ) (act : SourceAction ℤ) (e : Expression) → gives ≡ true
    → Evaluates l own b v c (first_temporary l) act (lower l e (first_temporary l))
    → DoesAlike l own gives b v c n i d (act >>= (λ z. source_pure (returns (Some z))))
    (lower_store l e (slot_place (result_slot l)) (first_temporary l) ++ leave_region d ∷ []))
