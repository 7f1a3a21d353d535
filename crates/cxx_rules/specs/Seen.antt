-- What of paths, expressions and calls the code keeps: of what is broken in them, the refusal that answers.
use Rattle.std.specs.Prelude.{ℕ, Bool, List, Option, map}
use Rattle.cxx_ast.specs.Environment.{Kind, Environment}
use Rattle.cxx_ast.specs.Lvalue as lvalue
use Rattle.cxx_ast.specs.Reference.{Target, Judgement}
use Rattle.cxx_ast.specs.Calls as calls
use Rattle.cxx_rules.specs.declared.found.Found.{Found}
use Rattle.cxx_rules.specs.Summary.{seen}

-- what a path reaches
pub record SeenReached : Type 0 where
  pub kind : Kind
  pub is_const : Bool
  pub found : Found

abbrev pub reached_seen : Environment → lvalue.Reached → SeenReached
reached_seen env r = record { kind = r.kind; is_const = r.is_const; found = seen env r.found }

-- an expression
pub record SeenJudgement : Type 0 where
  pub kind : Kind
  pub found : Found
  pub place : ℕ
  pub target : Option Target

abbrev pub judgement_seen : Environment → Judgement → SeenJudgement
judgement_seen env j = record { kind = j.kind; found = seen env j.found; place = j.place; target = j.target }

abbrev pub judgements_seen : Environment → List Judgement → List SeenJudgement
judgements_seen env js = map (judgement_seen env) js

-- a call
pub record SeenValue : Type 0 where
  pub kind : Kind
  pub found : Found

abbrev pub value_seen : Environment → calls.Valued → SeenValue
value_seen env v = record { kind = v.kind; found = seen env v.found }
