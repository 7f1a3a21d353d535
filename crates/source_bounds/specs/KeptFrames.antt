-- How small the frame of a function is that keeps variables in registers: so small that a kept variable has no second place in memory.
use Rattle.std.specs.Prelude.{◌≡◌, ◌+◌, ◌*◌, ◌≤◌, ℕ, pos, Bool, true, false, List, [], ◌∷◌, length, map, ⊤, Option, Some, None, is_some, if◌then◌else◌}
use Rattle.std.specs.List.{AllByRecursion}
use Rattle.cxx_ast.specs.declared.declaration.FuncKind.{FuncKind}
use Rattle.cxx_ast.specs.declared.declaration.FuncKind.TheVariants.{Constructor, Destructor}
use Rattle.cxx_ast.specs.Checked.{IsChecked}
use Rattle.cxx_ast.specs.Plain.{Checked, Statement, block, if_else, while, throw, try, local_object, Else, no_else, else_do, Statements, no_statements, statement_then, Function}
use Rattle.eh_bytes.specs.declared.frames.FrameChange.{FrameChange}
use Rattle.eh_bytes.specs.declared.frames.FrameChange.TheVariants.{Cfa}
use Rattle.region_forms.specs.Form.{Slot}
use Rattle.region_forms.specs.Layout.{Layout, layout_of}
use Rattle.region_forms.specs.LowerProgram.{own_slots, slot_for, declared_function}
use Rattle.region_forms.specs.Numbering.{variables_of}
use Rattle.linear_forms.specs.Frame.{slot_bytes}
use Rattle.linear_forms.specs.Linear.{FunctionCode}
use Rattle.linear_forms.specs.Unit.{function_code}
use Rattle.landing_pads.specs.Frames.{most_of}
use Rattle.machine_forms.specs.Emitted.{function_routine}
use Rattle.machine_forms.specs.Kept.{kept_slots}
use Rattle.machine_forms.specs.KeptCode.{register_of}

-- a statement declares no object, throws nothing and tries nothing
abbrev mutual
  pub IsCalm : Statement → Type 0
  IsCalm (block ss) = AreCalm ss
  IsCalm (if_else e s t) = IsCalm s × ElseIsCalm t
  IsCalm (while e s) = IsCalm s
  IsCalm (throw place e) = ⊥
  IsCalm (try ss hs) = ⊥
  IsCalm (local_object k x es) = ⊥
  IsCalm s = ⊤

  pub ElseIsCalm : Else → Type 0
  ElseIsCalm no_else = ⊤
  ElseIsCalm (else_do s) = IsCalm s

  pub AreCalm : Statements → Type 0
  AreCalm no_statements = ⊤
  AreCalm (statement_then s ss) = IsCalm s × AreCalm ss

abbrev pub BodyIsCalm : Option Statements → Type 0
BodyIsCalm None = ⊤
BodyIsCalm (Some ss) = AreCalm ss

-- a function of no class, or a member function that neither builds nor destroys its object
abbrev pub IsOrdinary : FuncKind → Type 0
IsOrdinary Constructor = ⊥
IsOrdinary Destructor = ⊥
IsOrdinary k = ⊤

-- such a function without an exception specification, whose body is calm
pub record IsPlain (f : Function) : Type 0 where
  pub kind : IsOrdinary f.kind
  pub unspecified : f.specification ≡ None
  pub body : BodyIsCalm f.body

-- the bytes of slots, the first of which has a number, without those of kept variables
abbrev pub unkept_bytes : (kept : List ℕ) → ℕ → List Slot → ℕ
unkept_bytes kept s [] = 0
unkept_bytes kept s (x ∷ slots) = (if is_some (register_of kept s) then 0 else slot_bytes (x ∷ [])) + unkept_bytes kept (s + 1) slots

-- the bytes of a function as the limit on its variables counts them, without its kept variables: those of the others, and 8 for each level of
-- its deepest expression and for each argument of the statement or initialiser that has the most
abbrev pub other_bytes : Layout → (is_member : Bool) → (kept : List ℕ) → Function → ℕ
other_bytes l is_member kept f =
    unkept_bytes kept (length (own_slots is_member)) (map (slot_for l) (variables_of f)) + 8 * (most_of f).levels + 8 * (most_of f).arguments

-- where a change says how far the canonical frame address is from sp, it is no more than so many bytes
abbrev pub CfaIsWithin : ℕ → FrameChange → Type 0
CfaIsWithin most (Cfa z) = (n : ℕ) × (z ≡ pos n) × (n ≤ most)
CfaIsWithin most change = ⊤

-- A function's canonical frame address is never further from sp than 48 bytes, 8 for each kept variable and the bytes of the rest.
abbrev pub FrameIsSmall : Layout → (is_member : Bool) → Function → FunctionCode → Type 0
FrameIsSmall l is_member f g =
    AllByRecursion (λ m. CfaIsWithin (48 + 8 * length (kept_slots g) + other_bytes l is_member (kept_slots g) f) m.change) (function_routine g).moves

-- so it is in a checked program for each plain function, and for each member function that is plain
pub record PlainFramesAreSmall (p : Checked) : Type 0 where
  pub functions : AllByRecursion (λ f. IsPlain f → (is_main : Bool) → FrameIsSmall (layout_of p) false f (function_code (declared_function p (layout_of p) false is_main 0 f))) p.functions
  pub methods : AllByRecursion (λ c. AllByRecursion (λ f. IsPlain f → (k : ℕ) → FrameIsSmall (layout_of p) true f (function_code (declared_function p (layout_of p) true false k f))) c.functions) p.classes

abbrev pub KeptFramesAreSmall : Type 0
KeptFramesAreSmall = (p : Checked) → IsChecked p → PlainFramesAreSmall p
