-- States that the tokens to come tell apart no more.
use Rattle.std.specs.Prelude.{ℕ, ◌+◌, ◌≡◌, true, false, List, [], ◌∷◌, ◌++◌, Option, Some, None, Err, nat_lt, nat_le, refl, if◌then◌else◌}
use Rattle.std.proofs.Common.{ap, sym, ◌∙◌, arith}
use Rattle.std.proofs.lemmas.Bool.Decides.{nat_tests}
use Rattle.cxx_ast.specs.declared.expression.UnaryOp.{UnaryOp}
use Rattle.cxx_ast.specs.declared.expression.BinaryOp.{BinaryOp}
use Rattle.cxx_ast.specs.declared.expression.BinaryOp.TheVariants.{Add, Subtract, Multiply, Divide, Remainder, Less, Greater, LessEqual, GreaterEqual, Equal, NotEqual, And, Or}
use Rattle.cxx_ast.specs.declared.mark.Mark.TheVariants as sign
use Rattle.cxx_ast.specs.declared.name.Name.{Name}
use Rattle.cxx_ast.specs.declared.token.Token.{Token}
use Rattle.cxx_ast.specs.declared.token.TokenKind.TheVariants as kind
use Rattle.cxx_ast.specs.Depth.{below_expression}
use Rattle.cxx_ast.specs.Limits.{most_depth}
use Rattle.cxx_ast.specs.Operator.{binary_level}
use Rattle.cxx_ast.specs.Plain.{Expression, path, unary, binary}
use Rattle.cxx_parser.specs.Contexts.{Pending, before_operand, behind_operand, InExpression, InCall, InPath, in_argument, of_operand}
use Rattle.cxx_parser.specs.Expressions.{feed_operand, feed_operator, feed_expression, feed_path, feed_names, begin_operand, feed_open}
use Rattle.cxx_parser.specs.Gives.{begins, place_at}
use Rattle.cxx_parser.specs.Operators.{Operand, gathered, with_operator, bind_below}
use Rattle.cxx_parser.specs.Reading.{Answer, unexpected, too_deep, feed, read}
use Rattle.cxx_parser.specs.Signs.{is_mark, operator_of, level_of, first_level}
use Rattle.cxx_parser.specs.States.{want_operand, have_operand, have_expression, after_path, have_path, after_open, have_argument, Step, stops, leads, within}

-- what a step leads to
abbrev pub stepped : ℕ → ℕ → Token → List Token → Step → Answer
stepped total end t ts step = elim step [
  | stops ↦ Err (unexpected t.place)
  | leads next ↦ read total end ts next
  | within depth next ↦ if nat_lt most_depth depth then Err (too_deep t.place) else read total end ts next
]

-- an argument was read
pub argument_settles : (total end : ℕ) (tokens : List Token) (e : Expression) (depth : ℕ) (es : List Expression) (K : InCall) → read total end tokens (have_expression e (in_argument depth es K)) ≡ read total end tokens (have_argument depth (es ++ (e ∷ [])) K)
unfolding read feed
argument_settles total end [] e depth es K = refl
argument_settles total end (t ∷ ts) e depth es K = refl

-- an operand behind its operator
pub prefix_settles : (total end : ℕ) (tokens : List Token) (depth : ℕ) (e : Expression) (d : ℕ) (op : UnaryOp) (place : ℕ) (ps : List Pending) (E : InExpression) → read total end tokens (have_operand depth e (before_operand d op place ∷ ps) E) ≡ read total end tokens (have_operand d (unary op e place) ps E)
unfolding read feed
prefix_settles total end [] depth e d op place ps E = refl
prefix_settles total end (t ∷ ts) depth e d op place ps E = ap (stepped total end t ts) (settles (operator_of t.kind))
  where
    settles : (o : Option BinaryOp) → feed_operator o t depth e (before_operand d op place ∷ ps) E ≡ feed_operator o t d (unary op e place) ps E
    settles None = refl
    settles (Some other) = refl

-- no further name
pub names_end : (total end : ℕ) (tokens : List Token) (names : List Name) (P : InPath) → begins tokens (kind.Mark sign.Dot) ≡ false → read total end tokens (after_path names P) ≡ read total end tokens (have_path names P)
unfolding read feed
names_end total end [] names P h = refl
names_end total end (t ∷ ts) names P h = ap (stepped total end t ts) (ends h)
  where
    ends : is_mark sign.Dot t.kind ≡ false → feed_names t names P ≡ feed_path t names P
    ends h = rw h refl

-- a path that is no call
pub path_ends : (total end : ℕ) (tokens : List Token) (names : List Name) (depth : ℕ) (ps : List Pending) (E : InExpression) → begins tokens (kind.Mark sign.OpenParen) ≡ false → read total end tokens (have_path names (of_operand depth ps E)) ≡ read total end tokens (have_operand depth (path names) ps E)
unfolding read feed
path_ends total end [] names depth ps E h = refl
path_ends total end (t ∷ ts) names depth ps E h = ap (stepped total end t ts) (ends h)
  where
    ends : is_mark sign.OpenParen t.kind ≡ false → feed_path t names (of_operand depth ps E) ≡ feed_operand t depth (path names) ps E
    ends h = rw h refl

-- no further operator
pub operand_ends : (total end : ℕ) (tokens : List Token) (depth : ℕ) (e : Expression) (E : InExpression) → nat_lt (first_level tokens) 1 ≡ true → read total end tokens (have_operand depth e [] E) ≡ read total end tokens (have_expression e E)
unfolding read feed
operand_ends total end [] depth e E h = refl
operand_ends total end (t ∷ ts) depth e E h = ap (stepped total end t ts) (ends (operator_of t.kind) h)
  where
    ends : (o : Option BinaryOp) → nat_lt (level_of o) 1 ≡ true → feed_operator o t depth e [] E ≡ feed_expression t e E
    ends None h = refl
    ends (Some Add) h = cc
    ends (Some Subtract) h = cc
    ends (Some Multiply) h = cc
    ends (Some Divide) h = cc
    ends (Some Remainder) h = cc
    ends (Some Less) h = cc
    ends (Some Greater) h = cc
    ends (Some LessEqual) h = cc
    ends (Some GreaterEqual) h = cc
    ends (Some Equal) h = cc
    ends (Some NotEqual) h = cc
    ends (Some And) h = cc
    ends (Some Or) h = cc

-- an operator's right operand, where what comes binds no tighter
pub operator_settles : (total end : ℕ) (tokens : List Token) (depth : ℕ) (e : Expression) (d : ℕ) (op : BinaryOp) (a : Expression) (ps : List Pending) (E : InExpression) → nat_lt (first_level tokens) (binary_level op + 1) ≡ true → read total end tokens (have_operand depth e (behind_operand d op a ∷ ps) E) ≡ read total end tokens (have_operand d (binary op a e) ps E)
unfolding read feed
operator_settles total end [] depth e d op a ps E h = refl
operator_settles total end (t ∷ ts) depth e d op a ps E h = ap (stepped total end t ts) (settles (operator_of t.kind) h)
  where
    settles : (o : Option BinaryOp) → nat_lt (level_of o) (binary_level op + 1) ≡ true → feed_operator o t depth e (behind_operand d op a ∷ ps) E ≡ feed_operator o t d (binary op a e) ps E
    settles None h = let le : nat_le 0 (binary_level op) ≡ true = grind (arith, nat_tests) in rw le refl
    settles (Some other) h = let le : nat_le (binary_level other) (binary_level op) ≡ true = grind (arith, nat_tests) in rw le refl

-- the first of some arguments
pub first_argument : (total end : ℕ) (tokens : List Token) (depth : ℕ) (K : InCall) → begins tokens (kind.Mark sign.CloseParen) ≡ false → read total end tokens (after_open depth K) ≡ read total end tokens (want_operand depth [] (in_argument depth [] K))
unfolding read feed
first_argument total end [] depth K h = refl
first_argument total end (t ∷ ts) depth K h = ap (stepped total end t ts) (opens h)
  where
    opens : is_mark sign.CloseParen t.kind ≡ false → feed_open t depth K ≡ begin_operand t depth [] (in_argument depth [] K)
    opens h = rw h refl

-- an operator takes what stands before it, where those that wait bind less tightly
pub gathered_below : (op : BinaryOp) (level depth : ℕ) (e : Expression) (ps : List Pending) → bind_below level ps ≡ true → nat_lt (binary_level op) level ≡ false → gathered (binary_level op) depth e ps ≡ record { depth = depth; value = e; pending = ps }
gathered_below op level depth e [] b h = refl
gathered_below op level depth e (before_operand d o place ∷ ps) b h = cc
gathered_below op level depth e (behind_operand d o a ∷ ps) b h = let no : nat_le (binary_level op) (binary_level o) ≡ false = grind (arith, nat_tests) in rw no refl

-- a further operator
pub operator_read : (total end : ℕ) (tokens after : List Token) (t : Token) (op : BinaryOp) (level depth : ℕ) (e : Expression) (ps : List Pending) (E : InExpression) → tokens ≡ t ∷ after → operator_of t.kind ≡ Some op → bind_below level ps ≡ true → nat_lt (binary_level op) level ≡ false → read total end tokens (have_operand depth e ps E) ≡ stepped total end t after (within (depth + 1 + below_expression e) (want_operand (depth + 1) (behind_operand depth op e ∷ ps) E))
unfolding read feed
operator_read total end tokens after t op level depth e ps E i j b h =
    ap (λ x. read total end x (have_operand depth e ps E)) i
    ∙ ap (λ o. stepped total end t after (feed_operator o t depth e ps E)) j
    ∙ ap (λ (o : Operand). stepped total end t after (with_operator op o E)) (gathered_below op level depth e ps b h)

pub operator_taken : (total end : ℕ) (tokens after : List Token) (t : Token) (op : BinaryOp) (level depth : ℕ) (e : Expression) (ps : List Pending) (E : InExpression) → tokens ≡ t ∷ after → operator_of t.kind ≡ Some op → bind_below level ps ≡ true → nat_lt (binary_level op) level ≡ false → nat_lt most_depth (depth + 1 + below_expression e) ≡ false → read total end tokens (have_operand depth e ps E) ≡ read total end after (want_operand (depth + 1) (behind_operand depth op e ∷ ps) E)
operator_taken total end tokens after t op level depth e ps E i j b h w =
    operator_read total end tokens after t op level depth e ps E i j b h ∙ ap (λ x. if x then Err (too_deep t.place) else read total end after (want_operand (depth + 1) (behind_operand depth op e ∷ ps) E)) w

pub operator_deepens : (total end : ℕ) (tokens after : List Token) (t : Token) (op : BinaryOp) (level depth : ℕ) (e : Expression) (ps : List Pending) (E : InExpression) → tokens ≡ t ∷ after → operator_of t.kind ≡ Some op → bind_below level ps ≡ true → nat_lt (binary_level op) level ≡ false → nat_lt most_depth (depth + 1 + below_expression e) ≡ true → read total end tokens (have_operand depth e ps E) ≡ Err (too_deep (place_at tokens end))
operator_deepens total end tokens after t op level depth e ps E i j b h w =
    operator_read total end tokens after t op level depth e ps E i j b h ∙ ap (λ x. if x then Err (too_deep t.place) else read total end after (want_operand (depth + 1) (behind_operand depth op e ∷ ps) E)) w
    ∙ ap (λ x. deep_at (place_at x end)) (sym i)
  where
    deep_at : ℕ → Answer
    deep_at place = Err (too_deep place)
