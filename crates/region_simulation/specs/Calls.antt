-- That calls of a source and calls of regions do the same.
use Rattle.std.specs.Prelude.{◌≡◌, ℕ, zero, suc, ◌<◌, true, false, List, [], ◌∷◌, length, Some, slice_get}
use Rattle.cxx_ast.specs.declared.types.Ty.{Ty}
use Rattle.cxx_ast.specs.declared.types.Ty.TheVariants.{Int}
use Rattle.cxx_ast.specs.declared.declaration.FuncKind.TheVariants.{Method}
use Rattle.cxx_ast.specs.Plain.{Checked}
use Rattle.meaning_forms.specs.Class.{class_type, object_type, class_at, function_at, method_at, parts_of}
use Rattle.meaning_forms.specs.Construct.{is_constructor, constructor_for}
use Rattle.meaning_forms.specs.World.{World as SourceWorld, Reference}
use Rattle.meaning_forms.specs.Context.{Context as SourceContext}
use Rattle.meaning_forms.specs.Running.{Running as SourceRunning, Argument, by_value, by_reference, Callee, function, method, constructor, destructor, declared, implicit_default, implicit_copy}
use Rattle.meaning_forms.specs.Expression.{types_of, constructor_types, is_reference}
use Rattle.region_forms.specs.Layout.{Layout}
use Rattle.region_forms.specs.World.{Address, Word, number_word, address_word}
use Rattle.region_forms.specs.Outcome.{State}
use Rattle.region_forms.specs.Ending.{Running}
use Rattle.region_forms.specs.LowerProgram.{some_constructor}
use Rattle.region_forms.specs.Numbering.{number_of}
use Rattle.region_simulation.specs.Places.{Places, Refers}
use Rattle.region_simulation.specs.Stands.{Stands, context_of}
use Rattle.region_simulation.specs.Alike.{Alike}

-- an argument and the word that is passed for it: an int for an int, and for a reference what it names
abbrev pub SameArgument : Layout → Checked → Places → Ty → Argument → Word → Type 0
SameArgument l p at t (by_value v) x = (t ≡ Int) × (x ≡ number_word v)
SameArgument l p at t (by_reference r) x = (is_reference t ≡ true) × (a : Address) × Refers l p at r (object_type t) a × (x ≡ address_word a)

-- one for each parameter
abbrev pub SameArguments : Layout → Checked → Places → List Ty → List Argument → List Word → Type 0
SameArguments l p at [] [] [] = Unit {0}
SameArguments l p at (t ∷ types) (a ∷ given) (x ∷ words) = SameArgument l p at t a x × SameArguments l p at types given words
SameArguments l p at _ _ _ = ⊥

-- the address of the object of class k that a function works on is passed before its arguments
abbrev pub SameOwn : Layout → Checked → Places → ℕ → Reference → List Ty → List Argument → List Word → Type 0
SameOwn l p at k this types given [] = ⊥
SameOwn l p at k this types given (x ∷ words) =
    (a : Address) × Refers l p at this (class_type k) a × (x ≡ address_word a) × SameArguments l p at types given words

-- Class k, which declares no constructor, can be built by default, where classes stand at most n deep in one another: each part of a class
-- has a constructor for no arguments, which is declared, or implicit and can itself be called.
abbrev pub BuildsByDefault : ℕ → Checked → ℕ → Type 0
BuildsByDefault zero p k = ⊥
BuildsByDefault (suc n) p k =
    (i j : ℕ) → slice_get (parts_of p k) i ≡ Some (class_type j) → (j < length p.classes) × elim (constructor_for p j 0) [
      | declared m ↦ Unit {0}
      | implicit_default ↦ (some_constructor (class_at p j).functions ≡ false) × BuildsByDefault n p j
      | implicit_copy ↦ ⊥
    ]

-- What can be called: a function that is there, by what it is; an implicit default constructor is there where no constructor is declared and
-- each part can be built by default.
abbrev pub IsCallable : Checked → Callee → Type 0
IsCallable p (function n) = n < length p.functions
IsCallable p (method k i) = (k < length p.classes) × (i < length (class_at p k).functions) × ((method_at p k i).kind ≡ Method)
IsCallable p (constructor k (declared i)) = (k < length p.classes) × (i < length (class_at p k).functions) × (is_constructor (method_at p k i).kind ≡ true)
IsCallable p (constructor k implicit_default) =
    (k < length p.classes) × (some_constructor (class_at p k).functions ≡ false) × BuildsByDefault (length p.classes) p k
IsCallable p (constructor k implicit_copy) = k < length p.classes
IsCallable p (destructor k) = k < length p.classes

-- what is passed in a call
abbrev pub SamePassed : Layout → Checked → Places → Callee → Reference → List Argument → List Word → Type 0
SamePassed l p at (function n) this given words = SameArguments l p at (types_of (function_at p n).parameters) given words
SamePassed l p at (method k i) this given words = SameOwn l p at k this (types_of (method_at p k i).parameters) given words
SamePassed l p at (constructor k which) this given words = SameOwn l p at k this (constructor_types p k which) given words
SamePassed l p at (destructor k) this given words = SameOwn l p at k this [] given words

-- The same values come out of calls, from any call of the program, and the whole frame of the caller is kept.
abbrev pub SameCalls : Layout → SourceRunning → Running → Type 0
SameCalls l a b =
    (at : Places) (callee : Callee) (this : Reference) (given : List Argument) (words : List Word) (k : ℕ) (c : SourceContext) (w : SourceWorld) (s : State)
    → IsCallable a.program callee → Stands l a.program at c w s → SamePassed l a.program at callee this given words
    → Alike l a.program at k c w s (λ x y w2 at2 s2. x ≡ y) (a.call callee this given c w) (b.call (number_of a.program callee) words (context_of w.open_calls c) s)
