-- Jumps stand in loops (ISO/IEC 14882:2003, 6.6.1, 6.6.2), so none comes out of a function's body.
use Rattle.cxx_ast.specs.Plain.{Function, Statement, block, if_else, break, continue, try, Else, no_else, else_do, Statements, no_statements, statement_then, Handlers, no_handlers, handler_then}
use Rattle.meaning_forms.specs.Call.{statements_in}
use Rattle.meaning_forms.specs.Running.{Running}
use Rattle.region_statements.specs.Main.{StaysInBody}

-- no `break` and no `continue` stands outside of loops
abbrev mutual
  pub HasNoJump : Statement → Type 0
  HasNoJump (block ss) = HaveNoJump ss
  HasNoJump (if_else e s t) = HasNoJump s × ElseHasNoJump t
  HasNoJump (break place) = ⊥
  HasNoJump (continue place) = ⊥
  HasNoJump (try ss hs) = HaveNoJump ss × HandlersHaveNoJump hs
  HasNoJump _ = Unit {0}

  pub ElseHasNoJump : Else → Type 0
  ElseHasNoJump no_else = Unit {0}
  ElseHasNoJump (else_do s) = HasNoJump s

  pub HaveNoJump : Statements → Type 0
  HaveNoJump no_statements = Unit {0}
  HaveNoJump (statement_then s ss) = HasNoJump s × HaveNoJump ss

  pub HandlersHaveNoJump : Handlers → Type 0
  HandlersHaveNoJump no_handlers = Unit {0}
  HandlersHaveNoJump (handler_then t x ss place hs) = HaveNoJump ss × HandlersHaveNoJump hs

-- no jump comes out of such a body, whatever calls do
abbrev pub JumpsStayInLoops : Type 0
JumpsStayInLoops = (r : Running) (f : Function) → HaveNoJump (statements_in f.body) → StaysInBody r f
