-- What is known at a place of a checked program that is walked, besides what its regions need.
use Rattle.std.specs.Prelude.{◌≡◌, ℕ, ◌+◌, ◌<◌, ◌≤◌, Bool, true, List, length, Option, Some, bytes_eq, find, slice_get}
use Rattle.cxx_ast.specs.declared.types.Ty.{Ty}
use Rattle.cxx_ast.specs.Plain.{Checked}
use Rattle.cxx_ast.specs.Environment.{Signature, ClassEntry, Entry, Environment, Variable, Scope}
use Rattle.cxx_ast.specs.FunctionRules.{has_text}
use Rattle.cxx_ast.specs.Grammatical.{Each}
use Rattle.meaning_forms.specs.Class.{function_at}
use Rattle.meaning_forms.specs.Frame.{Variable as FrameVariable}
use Rattle.class_layout.proofs.Named.{ThingBelow}
use Rattle.region_simulation.specs.Reach.{is_in_reach}
use Rattle.region_statements.specs.Members.{CanDefault}
use Rattle.region_formed.proofs.Meant.{ParamsMeant, numbered, Given, Reach}
use Rattle.region_formed.proofs.Types.{From}

-- each class that a name stands for is known
abbrev pub ClassesKnown : Environment → Type 0
ClassesKnown env = Each (λ (e : Entry). ThingBelow (length env.classes) e.thing) env.names

-- Names stand for classes that are known, an object that needs no arguments has a constructor for none, and a function that is defined has the
-- parameters of its first declaration.
pub record Settled (p : Checked) (defined : List (List ℕ)) (env : Environment) : Type 0 where
  pub some : 0 < length env.classes
  pub classes : ClassesKnown env
  pub defaults : (k : ℕ) (c : ClassEntry) → slice_get env.classes k ≡ Some c → c.has_default ≡ true → CanDefault p k
  pub functions : (text : List ℕ) (s : Signature) → find (λ s. bytes_eq s.name.text text) env.signatures ≡ Some s → has_text s.name.text defined ≡ true →
      ParamsMeant (length p.classes) s.parameters (function_at p (numbered defined s.name.text)).parameters

abbrev pub SettledIn : Given → Type 0
SettledIn g = Settled g.program g.defined g.env

-- each variable of a scope is in reach
abbrev pub InReach : List FrameVariable → Scope → Type 0
InReach xs sc = Each (Each (λ (v : Variable). is_in_reach xs v.number ≡ true)) sc.locals

-- where statements stand: a scope of a function of a class or of none, which gives a value or none, with these variables in reach
pub record Here (g : Given) (own_class : Option ℕ) (gives_value : Bool) (xs : List FrameVariable) (sc : Scope) : Type 0 where
  pub reach : Reach g sc
  pub in_reach : InReach xs sc
  pub own : sc.own ≡ own_class
  pub gives : sc.gives_value ≡ gives_value

-- the types of a function's variables from the n-th on are these, and there are so many
pub record Stretch (g : Given) (n : ℕ) (types : List Ty) : Type 0 where
  pub from : From g n types
  pub enough : n + length types ≤ length g.variables
