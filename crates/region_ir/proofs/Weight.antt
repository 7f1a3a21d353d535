-- How much statements hold: what is given to each function of their lowering holds less than what it was given for.
use Rattle.std.proofs.Common.{ℕ, ◌+◌}
use Rattle.cxx_ast.specs.Plain.{Statement, block, if_else, while, try, Else, no_else, else_do, Statements, no_statements, statement_then, Handlers, no_handlers, handler_then}

abbrev mutual
  pub weight : Statement → ℕ
  weight (block ss) = weight_all ss + 8
  weight (if_else e s t) = weight s + weight_else t + 8
  weight (while e s) = weight s + 8
  weight (try ss hs) = weight_all ss + weight_handlers hs + 8
  weight _ = 8

  pub weight_else : Else → ℕ
  weight_else no_else = 0
  weight_else (else_do s) = weight s

  pub weight_all : Statements → ℕ
  weight_all no_statements = 0
  weight_all (statement_then s ss) = weight s + weight_all ss + 8

  pub weight_handlers : Handlers → ℕ
  weight_handlers no_handlers = 0
  weight_handlers (handler_then t n ss place hs) = weight_all ss + weight_handlers hs + 8
