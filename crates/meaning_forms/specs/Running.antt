-- A program that runs, and how it makes calls.
use Rattle.std.specs.Prelude.{ℕ, ℤ, List}
use Rattle.cxx_ast.specs.Plain.{Checked}
use Rattle.meaning_forms.specs.World.{Reference}
use Rattle.meaning_forms.specs.Context.{Context}
use Rattle.meaning_forms.specs.Outcome.{Action}

-- an argument of a call
pub data Argument : Type 0 where
  by_value : ℤ → Argument
  by_reference : Reference → Argument

-- a constructor that a class declares, by its place among the class's functions, or one that it has without declaring it
pub data Constructor : Type 0 where
  declared : ℕ → Constructor
  implicit_default : Constructor
  implicit_copy : Constructor

-- what can be called; a class is given by its number
pub data Callee : Type 0 where
  function : ℕ → Callee
  method : (class place : ℕ) → Callee
  constructor : (class : ℕ) → Constructor → Callee
  destructor : (class : ℕ) → Callee

-- the program, and what a call does, given the callee, the object that it works on and its arguments
pub record Running : Type 0 where
  pub program : Checked
  pub call : Callee → Reference → List Argument → Context → Action ℤ
