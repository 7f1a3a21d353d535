-- That a write to an object of the source is a write to memory.
use Rattle.std.specs.Prelude.{◌≡◌, ℕ, ◌≤◌, ℤ, List, Option}
use Rattle.cxx_ast.specs.declared.name.Name.{Name}
use Rattle.cxx_ast.specs.Plain.{Checked, Expression}
use Rattle.class_layout.specs.StandApart.{StandApart}
use Rattle.meaning_forms.specs.Class.{int_type}
use Rattle.meaning_forms.specs.World.{Reference, World as SourceWorld, written as source_written}
use Rattle.meaning_forms.specs.Context.{Context as SourceContext}
use Rattle.meaning_forms.specs.Frame.{Frame as SourceFrame, lvalue}
use Rattle.meaning_forms.specs.Outcome.{Action as SourceAction, write, ◌>>=◌}
use Rattle.region_forms.specs.Form.{Region, regions_from}
use Rattle.region_forms.specs.Layout.{Layout}
use Rattle.region_forms.specs.World.{Address, written}
use Rattle.region_forms.specs.Outcome.{State, normal}
use Rattle.region_forms.specs.Ending.{Running}
use Rattle.linear_simulation.specs.Watched.{watched_all}
use Rattle.region_forms.specs.LowerExpression.{Lowering, first_temporary, place_of, lower, lower_store}
use Rattle.region_simulation.specs.Places.{Places, Refers}
use Rattle.region_simulation.specs.Reach.{KindsFit}
use Rattle.region_simulation.specs.Names.{AreNamed}
use Rattle.region_simulation.specs.Stands.{Stands, context_of}
use Rattle.region_simulation.specs.Alike.{Alike}
use Rattle.region_simulation.specs.Evaluates.{Everywhere, Evaluates}

-- where the parts of objects do not overlap, a state after a write to memory stands for the world after the write to the object
abbrev pub WritesStand : Type 0
WritesStand =
    (l : Layout) (p : Checked) → StandApart l.classes p.classes → (at : Places) (c : SourceContext) (w : SourceWorld) (s : State) (r : Reference) (a : Address) (v : ℤ)
    → Stands l p at c w s → Refers l p at r int_type a → Stands l p at c (source_written w r v) (record s { world = written a v s.world })

-- regions do what an action does, and then go on normally; slots below the k-th are kept
abbrev pub Does : Lowering → (own : Option ℕ) → Running → SourceFrame → SourceContext → ℕ → SourceAction (Unit {0}) → List Region → Type 0
Does l own b v c k act rs = Everywhere l own v c (λ at w s.
    Alike l.layout l.program at k c w s (λ u flow w2 at2 s2. flow ≡ normal) (act w) (watched_all b (regions_from rs) (context_of w.open_calls c) s))

-- what names stand for is set to the value of a computation
abbrev pub assigned : Lowering → SourceFrame → List Name → SourceAction ℤ → SourceAction (Unit {0})
assigned l v names act = act >>= (λ n w. write (lvalue l.program w v names) n w)

-- an assignment to what names stand for is a store of the assigned value in their place
abbrev pub AssignmentsStore : Type 0
AssignmentsStore =
    (l : Lowering) (own : Option ℕ) (b : Running) (v : SourceFrame) (c : SourceContext) → KindsFit l b.kinds → StandApart l.layout.classes l.program.classes
    → (t : ℕ) (act : SourceAction ℤ) (e : Expression) (names : List Name) → first_temporary l ≤ t → AreNamed l own v.variables names int_type
    → Evaluates l own b v c t act (lower l e t) → Does l own b v c t (assigned l v names act) (lower_store l e (place_of l names) t)
