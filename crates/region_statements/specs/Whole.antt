-- Whole programs: what is asked of a checked program, of its regions, and of the forms that raise exceptions, so that both mean the same.
use Rattle.std.specs.Prelude.{◌≡◌, ℕ, ◌<◌, Bool, true, false, ◌==◌, List, [], length, Option, Some, None, slice_get, if◌then◌else◌}
use Rattle.class_layout.specs.StandApart.{StandApart}
use Rattle.cxx_ast.specs.declared.declaration.FuncKind.TheVariants.{Plain, Constructor as ConstructorKind, Destructor as DestructorKind}
use Rattle.cxx_ast.specs.declared.types.Ty.{Ty}
use Rattle.cxx_ast.specs.declared.types.Ty.TheVariants.{Int, Void}
use Rattle.cxx_ast.specs.Plain.{Checked}
use Rattle.eh_outer.specs.declared.module.Reply.{Reply}
use Rattle.meaning_forms.specs.Call.{statements_in}
use Rattle.meaning_forms.specs.Class.{class_type, class_at, class_named, function_at as source_function_at, method_at, parts_of}
use Rattle.meaning_forms.specs.Construct.{destructor_place}
use Rattle.meaning_forms.specs.Meaning.{program_meaning}
use Rattle.meaning_forms.specs.Running.{Callee, function, method, constructor, destructor, declared, implicit_default, implicit_copy}
use Rattle.region_forms.specs.Form.{help_slot, RegionFunction, Regions}
use Rattle.region_forms.specs.Layout.{Layout}
use Rattle.linear_simulation.specs.Watched.{watched_meaning}
use Rattle.region_forms.specs.Numbering.{number_of, variables_of}
use Rattle.region_forms.specs.LowerProgram.{lowering, declared_function, implicit_default_function, implicit_copy_function, implicit_destructor_function}
use Rattle.region_simulation.specs.Calls.{IsCallable, SameCalls}
use Rattle.region_statements.specs.Fueled.{fueled}
use Rattle.region_statements.specs.Functions.{IsTypedBody}
use Rattle.region_statements.specs.Calls.{regions_running, RunsAlike}
use Rattle.region_statements.specs.Main.{main_function}
use Rattle.region_statements.specs.Jumps.{HaveNoJump}
use Rattle.region_statements.specs.Members.{CanInitialiseParts, MemberRunsAlike}
use Rattle.region_statements.specs.Programs.{MeansTheSame}

-- a function of the program; main stores 0 behind its body
abbrev pub lowered_function : Checked → Layout → ℕ → RegionFunction
lowered_function p layout n =
    if n == p.main then main_function p layout (source_function_at p n) else declared_function p layout false false 0 (source_function_at p n)

-- the destructor of class k
abbrev pub lowered_destructor : Checked → Layout → ℕ → Option ℕ → RegionFunction
lowered_destructor p layout k None = implicit_destructor_function p layout k
lowered_destructor p layout k (Some i) = declared_function p layout true false k (method_at p k i)

-- what is called
abbrev pub lowered_callee : Checked → Layout → Callee → RegionFunction
lowered_callee p layout (function n) = lowered_function p layout n
lowered_callee p layout (method k i) = declared_function p layout true false k (method_at p k i)
lowered_callee p layout (constructor k (declared i)) = declared_function p layout true false k (method_at p k i)
lowered_callee p layout (constructor k implicit_default) = implicit_default_function p layout k
lowered_callee p layout (constructor k implicit_copy) = implicit_copy_function p layout k
lowered_callee p layout (destructor k) = lowered_destructor p layout k (destructor_place p k)

-- regions of a program: each callee has its number
pub record AreLowered (p : Checked) (layout : Layout) (q : Regions) : Type 0 where
  pub globals : q.globals ≡ p.globals
  pub main : q.main ≡ p.main
  pub numbered : (callee : Callee) → IsCallable p callee → slice_get q.functions (number_of p callee) ≡ Some (lowered_callee p layout callee)

-- what is asked of a program, as its checker sees to it
pub record IsTypedProgram (p : Checked) (layout : Layout) : Type 0 where
  pub apart : StandApart layout.classes p.classes
  pub main_there : p.main < length p.functions
  pub main_result : (source_function_at p p.main).result ≡ Int
  pub main_parameters : (source_function_at p p.main).parameters ≡ []
  pub main_jumps : HaveNoJump (statements_in (source_function_at p p.main).body)
  pub plain : (n : ℕ) → n < length p.functions → (source_function_at p n).kind ≡ Plain
  pub functions : (n : ℕ) → n < length p.functions → IsTypedBody (lowering p layout false (variables_of (source_function_at p n))) None (source_function_at p n)
  pub methods : (k i : ℕ) → k < length p.classes → i < length (class_at p k).functions
      → IsTypedBody (lowering p layout true (variables_of (method_at p k i))) (Some k) (method_at p k i)
  pub constructors : (k i : ℕ) → k < length p.classes → i < length (class_at p k).functions → (method_at p k i).kind ≡ ConstructorKind
      → ((method_at p k i).result ≡ Void) × CanInitialiseParts (lowering p layout true (variables_of (method_at p k i))) k (method_at p k i)
  pub destructors : (k i : ℕ) → k < length p.classes → i < length (class_at p k).functions → (method_at p k i).kind ≡ DestructorKind
      → ((method_at p k i).result ≡ Void) × ((method_at p k i).parameters ≡ [])
  pub named : (k : ℕ) → k < length p.classes → class_named (class_at p k).name ≡ k
  pub parts : (k i j : ℕ) → k < length p.classes → slice_get (parts_of p k) i ≡ Some (class_type j) → j < length p.classes

-- the forms that raise exceptions, or clean up behind them, do the same in each function, where calls do
pub record SameForms (p : Checked) (layout : Layout) (q : Regions) (limit : ℕ) : Type 0 where
  pub functions : (fuel n : ℕ) → SameCalls layout (fueled p limit fuel) (regions_running q limit fuel (λ s. help_slot)) → n < length p.functions
      → RunsAlike p layout q limit fuel None false (source_function_at p n)
  pub methods : (fuel k i : ℕ) → SameCalls layout (fueled p limit fuel) (regions_running q limit fuel (λ s. help_slot)) → k < length p.classes
      → i < length (class_at p k).functions → RunsAlike p layout q limit fuel (Some k) true (method_at p k i)
  pub members : (fuel k : ℕ) (gives : Bool) (types : List Ty) → SameCalls layout (fueled p limit fuel) (regions_running q limit fuel (λ s. help_slot)) → k < length p.classes
      → MemberRunsAlike p layout q limit fuel k gives types

-- every call of a typed program does what the call of its regions does
abbrev pub AllCallsDoAlike : Type 0
AllCallsDoAlike =
    (p : Checked) (layout : Layout) (q : Regions) (limit : ℕ) → IsTypedProgram p layout → AreLowered p layout q → SameForms p layout q limit
    → (fuel : ℕ) → SameCalls layout (fueled p limit fuel) (regions_running q limit fuel (λ s. help_slot))

-- so the regions of a typed program mean what the program means
abbrev pub RegionsMeanTheSame : Type 0
RegionsMeanTheSame =
    (p : Checked) (layout : Layout) (q : Regions) (input : List ℕ) (replies : List (List Reply)) (turns limit : ℕ)
    → IsTypedProgram p layout → AreLowered p layout q → SameForms p layout q limit
    → MeansTheSame (program_meaning p input replies turns limit) (watched_meaning q input replies turns limit)
