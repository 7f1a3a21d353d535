-- What is known of the names that a program declared so far, and what a name may mean.
use Rattle.std.specs.Prelude.{ℕ, Bool, true, false, ◌==◌, List, Option}
use Rattle.cxx_ast.specs.declared.name.Name.{Name}
use Rattle.cxx_ast.specs.declared.name.Builtin.{Builtin}
use Rattle.cxx_ast.specs.declared.declaration.FuncKind.{FuncKind}

-- the type of a value, an object or a variable: a truth value comes of a comparison, and what broke a rule has none
pub data Kind : Type 0 where
  int_kind : Kind
  truth_kind : Kind
  void_kind : Kind
  class_kind : ℕ → Kind
  no_kind : Kind

-- two types are the same
abbrev pub same_kind : Kind → Kind → Bool
same_kind int_kind int_kind = true
same_kind truth_kind truth_kind = true
same_kind void_kind void_kind = true
same_kind (class_kind j) (class_kind k) = j == k
same_kind no_kind no_kind = true
same_kind _ _ = false

-- how a parameter takes its argument
pub record Passing : Type 0 where
  pub kind : Kind
  pub is_reference : Bool
  pub is_const : Bool

-- a declaration of a function: what it may throw, where that is said, and whether it has a body
pub record Signature : Type 0 where
  pub name : Name
  pub form : FuncKind
  pub result : Kind
  pub parameters : List Passing
  pub allowed : Option (List Kind)
  pub is_defined : Bool

-- a data member
pub record Field : Type 0 where
  pub name : Name
  pub kind : Kind

-- a class, with its size and the number of classes in its chain of bases, and whether an object of it needs no arguments
pub record ClassEntry : Type 0 where
  pub name : List ℕ
  pub base : Option ℕ
  pub fields : List Field
  pub functions : List Signature
  pub size : ℕ
  pub chain : ℕ
  pub has_default : Bool

-- what a name of the scope of globals, functions and classes stands for
pub data Thing : Type 0 where
  global_thing : ℕ → Thing
  class_thing : ℕ → Thing
  function_thing : Thing

-- a name of that scope
pub record Entry : Type 0 where
  pub text : List ℕ
  pub thing : Thing

-- the classes by number, the names in order, how many globals there are, each declaration of a function, and the names of all functions that
-- the program defines, by number
pub record Environment : Type 0 where
  pub classes : List ClassEntry
  pub names : List Entry
  pub globals : ℕ
  pub signatures : List Signature
  pub definitions : List (List ℕ)

-- a parameter or a local variable, with its number in the function
pub record Variable : Type 0 where
  pub text : List ℕ
  pub kind : Kind
  pub is_const : Bool
  pub number : ℕ

-- where a name stands: the variables in reach, innermost scope first, and how many the function has declared; the class of the function, of
-- which only the members before a place are in reach, where one is given; whether the function gives a value; whether a loop is round it
pub record Scope : Type 0 where
  pub locals : List (List Variable)
  pub next : ℕ
  pub own : Option ℕ
  pub limit : Option ℕ
  pub gives_value : Bool
  pub in_loop : Bool

-- what a name means where it stands: a member by its class and its number there
pub data Meaning : Type 0 where
  unknown : Meaning
  a_local : Variable → Meaning
  a_field : ℕ → ℕ → Kind → Meaning
  a_method : ℕ → ℕ → Signature → Meaning
  a_global : ℕ → Meaning
  a_function : Signature → Meaning
  a_class : ℕ → Meaning
  a_builtin : Builtin → Meaning
