-- The types of expressions, and what is broken in them (ISO/IEC 14882:2003, 4, 5, 15.1). A truth value converts to int, but not as the operand of
-- throw (profile). What breaks a rule has no type, and its use breaks no other.
use Rattle.std.specs.Prelude.{ℕ, Bool, true, false, ◌&&◌, List, [], ◌∷◌, ◌++◌, Some, None, if◌then◌else◌}
use Rattle.cxx_ast.specs.declared.expression.UnaryOp.{UnaryOp}
use Rattle.cxx_ast.specs.declared.expression.UnaryOp.TheVariants.{Minus, Not}
use Rattle.cxx_ast.specs.declared.expression.BinaryOp.{BinaryOp}
use Rattle.cxx_ast.specs.declared.expression.BinaryOp.TheVariants.{Add, Subtract, Multiply, Divide, Remainder}
use Rattle.cxx_ast.specs.Plain.{Expression, number, path, paren, unary, binary, call, std_call, Expressions, no_expressions, expression_then}
use Rattle.cxx_ast.specs.Environment.{Kind, int_kind, truth_kind, class_kind, no_kind, Environment, Scope}
use Rattle.cxx_ast.specs.Rule.{type_mismatch}
use Rattle.cxx_ast.specs.Finding.{Finding, breaks}
use Rattle.cxx_ast.specs.Lvalue.{reached, first_place}
use Rattle.cxx_ast.specs.Reference.{Judgement, int_found}
use Rattle.cxx_ast.specs.Calls.{Valued, names_valued, std_valued}

-- the place of an expression's first token
abbrev pub place_of : Expression → ℕ
place_of (number n place) = place
place_of (path names) = first_place names
place_of (paren e place) = place
place_of (unary op e place) = place
place_of (binary op a b) = place_of a
place_of (call names es) = first_place names
place_of (std_call n es place) = place

-- an int or a truth value
abbrev pub is_int : Kind → Bool
is_int int_kind = true
is_int truth_kind = true
is_int _ = false

-- the type of a unary expression
abbrev pub unary_kind : UnaryOp → Kind
unary_kind Minus = int_kind
unary_kind Not = truth_kind

-- the type of a binary expression
abbrev pub binary_kind : BinaryOp → Kind
binary_kind Add = int_kind
binary_kind Subtract = int_kind
binary_kind Multiply = int_kind
binary_kind Divide = int_kind
binary_kind Remainder = int_kind
binary_kind _ = truth_kind

-- what is no lvalue
abbrev pub no_lvalue : ℕ → Valued → Judgement
no_lvalue place v = record { kind = v.kind; found = v.found; place = place; target = None }

-- an expression, and a list of them; a call that is the whole operand of throw is judged below
abbrev mutual
  pub judged : Environment → Scope → Expression → Judgement
  judged env sc (number n place) = record { kind = int_kind; found = []; place = place; target = None }
  judged env sc (path names) =
      let r = reached env sc names in
      record { kind = r.kind; found = r.found; place = first_place names; target = Some (record { names = names; is_const = r.is_const }) }
  judged env sc (paren e place) =
      let a = judged env sc e in record { kind = a.kind; found = a.found; place = place; target = None }
  judged env sc (unary op e place) =
      let a = judged env sc e in record { kind = if is_int a.kind then unary_kind op else no_kind; found = int_found a; place = place; target = None }
  judged env sc (binary op x y) =
      let a = judged env sc x in let b = judged env sc y in
      record { kind = if is_int a.kind && is_int b.kind then binary_kind op else no_kind; found = int_found a ++ int_found b; place = a.place; target = None }
  judged env sc (call names es) = no_lvalue (first_place names) (names_valued env sc false names (all_judged env sc es))
  judged env sc (std_call n es place) = no_lvalue place (std_valued env sc false place n (all_judged env sc es))

  pub all_judged : Environment → Scope → Expressions → List Judgement
  all_judged env sc no_expressions = []
  all_judged env sc (expression_then e es) = judged env sc e ∷ all_judged env sc es

-- the operand of throw: a value of type int, an object's lvalue, or a construction
abbrev pub thrown_kind_found : Bool → Judgement → Kind → List Finding
thrown_kind_found built a int_kind = []
thrown_kind_found built a no_kind = []
thrown_kind_found built a (class_kind k) = if built then [] else elim a.target [ Some t ↦ [] | None ↦ breaks type_mismatch a.place ∷ [] ]
thrown_kind_found built a _ = breaks type_mismatch a.place ∷ []

-- what is broken in an operand of throw
abbrev pub operand_found : Bool → Judgement → List Finding
operand_found built a = a.found ++ thrown_kind_found built a a.kind

-- the operand of throw, which alone may be a construction
abbrev pub thrown_found : Environment → Scope → Expression → List Finding
thrown_found env sc (call names es) = operand_found true (no_lvalue (first_place names) (names_valued env sc true names (all_judged env sc es)))
thrown_found env sc (std_call n es place) = operand_found true (no_lvalue place (std_valued env sc true place n (all_judged env sc es)))
thrown_found env sc e = operand_found false (judged env sc e)
