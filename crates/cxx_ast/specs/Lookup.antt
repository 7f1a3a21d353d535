-- What a name means (ISO/IEC 14882:2003, 3.4.1, 10.2): it is sought among the variables of the function, then in the class and its bases, then among
-- globals, functions and classes, which share one scope.
use Rattle.std.specs.Prelude.{ℕ, zero, suc, ◌+◌, Bool, true, false, ◌&&◌, ◌||◌, ◌==◌, nat_lt, List, [], ◌∷◌, length, bytes_eq, codes, Option, Some, None, slice_get, find, if◌then◌else◌}
use Rattle.cxx_ast.specs.declared.name.Name.{Name}
use Rattle.cxx_ast.specs.declared.name.Builtin.TheVariants.{WriteInt, ReadByte, Exit, Module, Cancel}
use Rattle.cxx_ast.specs.declared.declaration.FuncKind.{FuncKind}
use Rattle.cxx_ast.specs.declared.declaration.FuncKind.TheVariants.{Method}
use Rattle.cxx_ast.specs.Environment.{Kind, int_kind, no_kind, Signature, Field, global_thing, class_thing, function_thing, Entry, Environment, Variable, Scope, Meaning, unknown, a_local, a_field, a_method, a_global, a_function, a_class, a_builtin}

-- the variable of a name in the innermost scope that has one
abbrev pub variable_named : List ℕ → List (List Variable) → Option Variable
variable_named text [] = None
variable_named text (scope ∷ scopes) = elim (find (λ v. bytes_eq v.text text) scope) [ Some v ↦ Some v | None ↦ variable_named text scopes ]

-- a member is in reach
abbrev pub in_reach : Option ℕ → Name → Bool
in_reach None n = true
in_reach (Some place) n = nat_lt n.place place

-- what a name means, with the place where that is declared
pub record Found : Type 0 where
  pub place : ℕ
  pub meaning : Meaning

-- the data member of class k with a name, where they are numbered from i on
abbrev pub field_named : Option ℕ → List ℕ → ℕ → ℕ → List Field → Option Found
field_named limit text k i [] = None
field_named limit text k i (f ∷ fs) =
    if in_reach limit f.name && bytes_eq f.name.text text then Some (record { place = f.name.place; meaning = a_field k i f.kind })
    else field_named limit text k (i + 1) fs

-- a function is neither a constructor nor a destructor
abbrev pub is_method : FuncKind → Bool
is_method Method = true
is_method _ = false

-- the member function of class k with a name, where its functions are numbered from i on
abbrev pub method_named : Option ℕ → List ℕ → ℕ → ℕ → List Signature → Option Found
method_named limit text k i [] = None
method_named limit text k i (f ∷ fs) =
    if is_method f.form && in_reach limit f.name && bytes_eq f.name.text text then Some (record { place = f.name.place; meaning = a_method k i f })
    else method_named limit text k (i + 1) fs

-- what is declared first
abbrev pub first_of_two : Option Found → Option Found → Option Found
first_of_two None b = b
first_of_two (Some a) None = Some a
first_of_two (Some a) (Some b) = if nat_lt b.place a.place then Some b else Some a

-- what a name means as a member of class k or of its bases, of which there are at most n
abbrev pub member_of : ℕ → Environment → ℕ → Option ℕ → List ℕ → Meaning
member_of zero env k limit text = unknown
member_of (suc n) env k limit text = elim (slice_get env.classes k) [
  | None ↦ unknown
  | Some c ↦ elim (first_of_two (field_named limit text k 0 c.fields) (method_named limit text k 0 c.functions)) [
    | Some found ↦ found.meaning
    | None ↦ elim c.base [ None ↦ unknown | Some b ↦ member_of n env b limit text ]
  ]
]

-- what a name means as a member of class k
abbrev pub member_meaning : Environment → ℕ → List ℕ → Meaning
member_meaning env k text = member_of (length env.classes) env k None text

-- what a name means in the class of the function
abbrev pub own_meaning : Environment → Scope → List ℕ → Meaning
own_meaning env sc text = elim sc.own [ None ↦ unknown | Some k ↦ member_of (length env.classes) env k sc.limit text ]

-- the built-in functions that are in reach everywhere
abbrev pub builtin_named : List ℕ → Meaning
builtin_named text =
    if bytes_eq text (codes "write_int") then a_builtin WriteInt
    else if bytes_eq text (codes "read_byte") then a_builtin ReadByte
    else if bytes_eq text (codes "exit") then a_builtin Exit
    else if bytes_eq text (codes "__module") then a_builtin Module
    else if bytes_eq text (codes "__cancel") then a_builtin Cancel
    else unknown

-- the first declaration of a function
abbrev pub function_meaning : Option Signature → Meaning
function_meaning None = unknown
function_meaning (Some s) = a_function s

-- what a name of the one scope means
abbrev pub thing_meaning : Environment → List ℕ → Option Entry → Meaning
thing_meaning env text None = builtin_named text
thing_meaning env text (Some e) = elim e.thing [
  | global_thing n ↦ a_global n
  | class_thing k ↦ a_class k
  | function_thing ↦ function_meaning (find (λ s. bytes_eq s.name.text text) env.signatures)
]

-- the entry of a name in the scope of globals, functions and classes
abbrev pub entry_of : Environment → List ℕ → Option Entry
entry_of env text = find (λ e. bytes_eq e.text text) env.names

-- what a name means where it is not one of the variables
abbrev pub outer_meaning : Environment → Scope → List ℕ → Meaning → Meaning
outer_meaning env sc text unknown = thing_meaning env text (entry_of env text)
outer_meaning env sc text m = m

-- what a name means where it stands
abbrev pub look : Environment → Scope → Name → Meaning
look env sc n = elim (variable_named n.text sc.locals) [ Some v ↦ a_local v | None ↦ outer_meaning env sc n.text (own_meaning env sc n.text) ]

-- class k is class b or is derived from it, in a chain of at most n classes
abbrev pub derives_within : ℕ → Environment → ℕ → ℕ → Bool
derives_within zero env k b = false
derives_within (suc n) env k b = k == b || elim (slice_get env.classes k) [ None ↦ false | Some c ↦ elim c.base [ None ↦ false | Some j ↦ derives_within n env j b ] ]

-- class k is class b or is derived from it
abbrev pub derives : Environment → ℕ → ℕ → Bool
derives env k b = derives_within (length env.classes) env k b

-- the type of what a name means, where it is a variable or a data member
abbrev pub meaning_kind : Meaning → Kind
meaning_kind (a_local v) = v.kind
meaning_kind (a_field k i kind) = kind
meaning_kind (a_global n) = int_kind
meaning_kind _ = no_kind
