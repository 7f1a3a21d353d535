-- What is read of expressions is grammatical and not too deep, with a token more.
use Rattle.std.specs.Prelude.{ℕ, ◌+◌, ◌≡◌, ◌≤◌, Bool, true, false, List, [], ◌∷◌, ◌++◌, Option, Some, None, max, nat_le, refl, if◌then◌else◌}
use Rattle.std.proofs.Common.{ap, sym, ◌∙◌, subst, arith}
use Rattle.std.proofs.lemmas.Bool.Decides.{nat_tests}
use Rattle.cxx_ast.specs.declared.expression.UnaryOp.{UnaryOp}
use Rattle.cxx_ast.specs.declared.expression.BinaryOp.{BinaryOp}
use Rattle.cxx_ast.specs.declared.expression.BinaryOp.TheVariants.{Add, Subtract, Multiply, Divide, Remainder, Less, Greater, LessEqual, GreaterEqual, Equal, NotEqual, And, Or}
use Rattle.cxx_ast.specs.Depth.{below_expressions}
use Rattle.cxx_ast.specs.Grammatical.{is_local, NotEmpty, Each, AreExpressions}
use Rattle.cxx_ast.specs.Operator.{binary_level, level}
use Rattle.cxx_ast.specs.Plain.{Expression, Statement, Initialiser, number, path, unary, binary}
use Rattle.cxx_ast.specs.declared.keyword.Keyword.TheVariants as keyword
use Rattle.cxx_ast.specs.declared.mark.Mark.TheVariants as sign
use Rattle.cxx_ast.specs.declared.name.Name.{Name}
use Rattle.cxx_ast.specs.declared.token.Token.{Token}
use Rattle.cxx_parser.specs.Contexts.{InJump, of_return, of_throw, Pending, before_operand, behind_operand, InExpression, in_paren, in_argument, in_if_test, in_while_test, in_jump, in_assign, in_local_int, InCall, of_call, of_std_call, of_call_statement, of_std_call_statement, of_object, of_initialiser, InPath, of_operand, of_statement, of_reference, InStatement, in_then, in_else, in_while, in_block}
use Rattle.cxx_parser.specs.Expressions.{with_initialiser, have_jump, have_arguments, feed_argument, feed_expression, feed_operator, feed_operand, feed_path, feed_names, begin_bracket, begin_rest, begin_operand, feed_open}
use Rattle.cxx_parser.specs.Signs.{is_mark, is_word, name_of, operator_of, prefix_of}
use Rattle.cxx_parser.specs.States.{want_operand, have_operand, have_expression, after_path, after_open, have_argument, within}
use Rattle.cxx_parser.specs.Operators.{Operand, gathered}
use Rattle.cxx_parser.specs.Stored.{expressions_from}
use Rattle.cxx_parser.proofs.Sound.{ExpressionAt, call_depth, expression_depth, operand_depth, Stacked, SoundPending, SoundCall, SoundPath, SoundWanted, IsAllowed, Sound, InitialiserFits, HasParts}
use Rattle.cxx_parser.proofs.SoundSteps.{Wherever, on_mark_sound, if_sound, on_name_sound, on_literal_sound}
use Rattle.cxx_parser.specs.Statements.{takes_locals}

-- each operator binds at 1 to 6
pub levels : (op : BinaryOp) → (1 ≤ binary_level op) × (binary_level op ≤ 6)
levels Add = (omega arith, omega arith)
levels Subtract = (omega arith, omega arith)
levels Multiply = (omega arith, omega arith)
levels Divide = (omega arith, omega arith)
levels Remainder = (omega arith, omega arith)
levels Less = (omega arith, omega arith)
levels Greater = (omega arith, omega arith)
levels LessEqual = (omega arith, omega arith)
levels GreaterEqual = (omega arith, omega arith)
levels Equal = (omega arith, omega arith)
levels NotEqual = (omega arith, omega arith)
levels And = (omega arith, omega arith)
levels Or = (omega arith, omega arith)

-- what is no operation between operands stands on any operators that wait
pub stacked_tight : (ps : List Pending) → Stacked ps 7
stacked_tight [] = tt
stacked_tight (before_operand c op place ∷ ps) = refl
stacked_tight (behind_operand c op a ∷ ps) = let l = (levels op).1 in omega (arith, l)

-- an operand at its depth, on the operators that wait for it
pub record SoundOperand (limit : ℕ) (E : InExpression) (o : Operand) : Type 0 where
  pub stands : o.depth ≡ operand_depth o.pending E
  pub fits : ExpressionAt limit o.depth o.value
  pub stacked : Stacked o.pending (level o.value)
  pub pending : SoundPending limit o.pending E

-- the same where an operator of a level comes behind it
pub record SoundLeft (limit : ℕ) (E : InExpression) (l : ℕ) (o : Operand) : Type 0 where
  pub operand : SoundOperand limit E o
  pub tight : l ≤ level o.value
  pub loose : Stacked o.pending l

abbrev pub operand : ℕ → Expression → List Pending → Operand
operand d e ps = record { depth = d; value = e; pending = ps }

pub gathered_sound : (limit : ℕ) → (ps : List Pending) (l d : ℕ) (e : Expression) (E : InExpression) → l ≤ 6 → l ≤ level e → SoundOperand limit E (operand d e ps) → SoundLeft limit E l (gathered l d e ps)
gathered_sound limit [] l d e E h t s = record { operand = s; tight = t; loose = tt }
gathered_sound limit (before_operand c op place ∷ ps) l d e E h t s =
    gathered_sound limit ps l c (unary op e place) E h (omega (arith, h)) (record {
      stands = s.pending.0;
      fits = ((s.fits.0, s.stacked), omega (arith, s.stands, s.fits.1));
      stacked = stacked_tight ps;
      pending = s.pending.1;
    })
gathered_sound limit (behind_operand c op a ∷ ps) l d e E h t s =
    go (nat_le l (binary_level op)) refl (λ i. gathered_sound limit ps l c (binary op a e) E h i (record {
      stands = s.pending.0;
      fits = ((s.pending.1.0, s.fits.0, s.pending.2, s.stacked), omega (arith, s.stands, s.fits.1, s.pending.1.1));
      stacked = s.pending.3;
      pending = s.pending.4;
    }))
  where
    picked : Bool → Operand
    picked b = if b then gathered l c (binary op a e) ps else operand d e (behind_operand c op a ∷ ps)

    go : (b : Bool) → nat_le l (binary_level op) ≡ b → (l ≤ binary_level op → SoundLeft limit E l (gathered l c (binary op a e) ps)) → SoundLeft limit E l (picked b)
    go true i f = f (grind (arith, nat_tests))
    go false i f = record { operand = s; tight = t; loose = grind (arith, nat_tests) }

-- arguments at a depth are those of a call
pub arguments_fit : (limit : ℕ) → (es : List Expression) (d : ℕ) → Each (ExpressionAt limit d) es → AreExpressions (expressions_from es) × (d + below_expressions (expressions_from es) ≤ max (limit + 1) d)
arguments_fit limit [] d h = (tt, omega arith)
arguments_fit limit (e ∷ es) d h = let r = arguments_fit limit es d h.1 in ((h.0.0, r.0), omega (arith, h.0.1, r.1))

-- a statement that declares nothing may stand anywhere
pub allowed_always : (C : InStatement) (s : Statement) → is_local s ≡ false → IsAllowed C s
allowed_always (in_then e c C) s h = h
allowed_always (in_else e r C) s h = h
allowed_always (in_while e C) s h = h
allowed_always (in_block d ss B) s h = tt

-- one item more
pub each_last : {A : Type 0} (P : A → Type 0) (xs : List A) (x : A) → Each P xs → P x → Each P (xs ++ (x ∷ []))
each_last P [] x e p = (p, tt)
each_last P (y ∷ ys) x e p = (e.0, each_last P ys x e.1 p)

-- a value at a depth is that of a `return` or a `throw`
jump_sound : (limit : ℕ) → (e : Expression) (jump : InJump) → Sound limit (have_expression e (in_jump jump)) → Sound limit (have_jump (Some e) jump)
jump_sound limit e (of_return place C) s = ((s.0.0, omega (arith, s.0.1)), allowed_always C _ refl, refl, s.1.1)
jump_sound limit e (of_throw place C) s = ((s.0.0, omega (arith, s.0.1)), allowed_always C _ refl, refl, s.1.1)

pub allowed_local : (C : InStatement) (s : Statement) → takes_locals C ≡ true → IsAllowed C s
allowed_local (in_then e c C) s h = cc
allowed_local (in_else e r C) s h = cc
allowed_local (in_while e C) s h = cc
allowed_local (in_block d ss B) s h = tt

-- the arguments of a call
pub arguments_sound : (limit : ℕ) → 2 ≤ limit → (es : List Expression) (d : ℕ) (K : InCall) → d ≡ call_depth K → Each (ExpressionAt limit d) es → SoundCall limit K → Sound limit (have_arguments es K)
arguments_sound limit big es d (of_call names c ps E) i h s = let r = arguments_fit limit es d h in (s.1, ((s.0, r.0), omega (arith, r.1, i, s.2)), refl, s.3, s.4)
arguments_sound limit big es d (of_std_call m place c ps E) i h s = let r = arguments_fit limit es d h in (s.0, (r.0, omega (arith, r.1, i, s.1)), refl, s.2, s.3)
arguments_sound limit big es d (of_call_statement names C) i h s = let r = arguments_fit limit es d h in (refl, ((((s.0, r.0), tt), omega (arith, r.1, i, s.1)), allowed_always C _ refl, refl, s.2))
arguments_sound limit big es d (of_std_call_statement m place C) i h s = let r = arguments_fit limit es d h in (refl, (((r.0, tt), omega (arith, r.1, i, s.0)), allowed_always C _ refl, refl, s.1))
arguments_sound limit big es d (of_object c m C) i h s = let r = arguments_fit limit es d h in (refl, ((r.0, omega (arith, r.1, i, s.1)), allowed_local C _ s.0, refl, s.2))
arguments_sound limit big es d (of_initialiser m sig) i h s =
    let r = arguments_fit limit es d h in
    let init : Initialiser = record { name = m; arguments = expressions_from es } in (
      record {
        heading = s.0.heading;
        parameters = s.0.parameters;
        specification = s.0.specification;
        initialisers = each_last (InitialiserFits limit) sig.initialisers init s.0.initialisers (r.0, omega (arith, r.1, i));
        parts = subst (λ k. HasParts k (with_initialiser sig init)) (sym s.1) tt;
      },
      s.1,
    )

pub feed_argument-sound : (limit : ℕ) → 2 ≤ limit → (t : Token) (d : ℕ) (es : List Expression) (K : InCall) → Sound limit (have_argument d es K) → Wherever limit (Sound limit) (feed_argument t d es K)
feed_argument-sound limit big t d es K s = if_sound limit (Sound limit) (is_mark sign.Comma t.kind) _ _ (s.0, (refl, tt, (s.1, s.2, s.3))) (on_mark_sound limit (Sound limit) (is_mark sign.CloseParen t.kind) _ (arguments_sound limit big es d K s.1 s.2 s.3))

pub feed_expression-sound : (limit : ℕ) → 2 ≤ limit → (t : Token) (e : Expression) (E : InExpression) → Sound limit (have_expression e E) → Wherever limit (Sound limit) (feed_expression t e E)
feed_expression-sound limit big t e (in_paren place c ps E) s = on_mark_sound limit (Sound limit) (is_mark sign.CloseParen t.kind) _ (s.1.0, (s.0.0, omega (arith, s.0.1)), refl, s.1.1, s.1.2)
feed_expression-sound limit big t e (in_argument d es K) s = feed_argument-sound limit big t d (es ++ (e ∷ [])) K (omega (arith, s.0.1), s.1.0, each_last (ExpressionAt limit d) es e s.1.1 s.0, s.1.2)
feed_expression-sound limit big t e (in_if_test c C) s = on_mark_sound limit (Sound limit) (is_mark sign.CloseParen t.kind) _ (omega (arith, s.0.1), (refl, (s.1.0, s.0, s.1.1)))
feed_expression-sound limit big t e (in_while_test c C) s = on_mark_sound limit (Sound limit) (is_mark sign.CloseParen t.kind) _ (omega (arith, s.0.1), (ap (λ n. n + 1) s.1.0, ((s.0.0, omega (arith, s.0.1, s.1.0)), s.1.1)))
feed_expression-sound limit big t e (in_jump jump) s = on_mark_sound limit (Sound limit) (is_mark sign.Semicolon t.kind) _ (jump_sound limit e jump s)
feed_expression-sound limit big t e (in_assign names C) s = on_mark_sound limit (Sound limit) (is_mark sign.Semicolon t.kind) _ (((s.1.0, s.0.0), omega (arith, s.0.1)), allowed_always C _ refl, refl, s.1.1)
feed_expression-sound limit big t e (in_local_int m C) s = on_mark_sound limit (Sound limit) (is_mark sign.Semicolon t.kind) _ ((s.0.0, omega (arith, s.0.1)), allowed_local C _ s.1.0, refl, s.1.1)

-- a whole expression
whole_pending : (d : ℕ) (e : Expression) (ps : List Pending) → (gathered 0 d e ps).pending ≡ []
whole_pending d e [] = refl
whole_pending d e (before_operand c op place ∷ ps) = whole_pending c (unary op e place) ps
whole_pending d e (behind_operand c op a ∷ ps) = let le : nat_le 0 (binary_level op) ≡ true = grind (arith, nat_tests) in rw le (whole_pending c (binary op a e) ps)

started : (limit : ℕ) → (d : ℕ) (e : Expression) (ps : List Pending) (E : InExpression) → Sound limit (have_operand d e ps E) → SoundOperand limit E (operand d e ps)
started limit d e ps E s = record { stands = s.0; fits = s.1; stacked = subst (Stacked ps) (sym s.2) (stacked_tight ps); pending = s.3 }

-- a token behind an operand
feed_operator-sound : (limit : ℕ) → 2 ≤ limit → (t : Token) (o : Option BinaryOp) (d : ℕ) (e : Expression) (ps : List Pending) (E : InExpression) → Sound limit (have_operand d e ps E) → Wherever limit (Sound limit) (feed_operator o t d e ps E)
feed_operator-sound limit big t None d e ps E s =
    let g = gathered_sound limit ps 0 d e E (omega arith) (omega arith) (started limit d e ps E s) in
    let at : (gathered 0 d e ps).depth ≡ expression_depth E = g.operand.stands ∙ ap (λ q. operand_depth q E) (whole_pending d e ps) in
    feed_expression-sound limit big t (gathered 0 d e ps).value E ((g.operand.fits.0, omega (arith, at, g.operand.fits.1)), s.4)
feed_operator-sound limit big t (Some op) d e ps E s =
    let o = gathered (binary_level op) d e ps in
    let l = (levels op).1 in
    let g : SoundLeft limit E (binary_level op) o = gathered_sound limit ps (binary_level op) d e E l (omega (arith, l, s.2)) (started limit d e ps E s) in
    (λ w. (omega (arith, w), (refl, (g.operand.stands, (g.operand.fits.0, w), g.tight, g.loose, g.operand.pending), s.4)))

pub feed_operand-sound : (limit : ℕ) → 2 ≤ limit → (t : Token) (d : ℕ) (e : Expression) (ps : List Pending) (E : InExpression) → Sound limit (have_operand d e ps E) → Wherever limit (Sound limit) (feed_operand t d e ps E)
feed_operand-sound limit big t d e ps E s = feed_operator-sound limit big t (operator_of t.kind) d e ps E s

-- a token behind a path
pub feed_path-sound : (limit : ℕ) → 2 ≤ limit → (t : Token) (names : List Name) (P : InPath) → NotEmpty names × SoundPath limit P → Wherever limit (Sound limit) (feed_path t names P)
feed_path-sound limit big t names (of_operand d ps E) s =
    if_sound limit (Sound limit) (is_mark sign.OpenParen t.kind) _ _ (refl, (s.0, s.1.0, s.1.1, s.1.2, s.1.3)) (feed_operand-sound limit big t d (path names) ps E (s.1.0, (s.0, omega (arith, s.1.1)), refl, s.1.2, s.1.3))
feed_path-sound limit big t names (of_statement d C) s =
    if_sound limit (Sound limit) (is_mark sign.OpenParen t.kind) _ _ (ap (λ n. n + 2) s.1.0, (s.0, omega (arith, s.1.0, s.1.1), s.1.2))
    (on_mark_sound limit (Sound limit) (is_mark sign.Assign t.kind) _ (s.1.1, (ap (λ n. n + 1) s.1.0, tt, (s.0, s.1.2))))
feed_path-sound limit big t names (of_reference p C) s =
    on_mark_sound limit (Sound limit) (is_mark sign.Semicolon t.kind) _ (((s.1.0, s.1.1, s.0), omega (arith, s.1.3)), allowed_local C _ s.1.2, refl, s.1.4)

pub feed_names-sound : (limit : ℕ) → 2 ≤ limit → (t : Token) (names : List Name) (P : InPath) → Sound limit (after_path names P) → Wherever limit (Sound limit) (feed_names t names P)
feed_names-sound limit big t names P s = if_sound limit (Sound limit) (is_mark sign.Dot t.kind) _ _ s (feed_path-sound limit big t names P s)

-- the first token of an operand
begin_bracket-sound : (limit : ℕ) → (t : Token) (d : ℕ) (ps : List Pending) (E : InExpression) → SoundWanted limit d ps E → Wherever limit (Sound limit) (begin_bracket t d ps E)
begin_bracket-sound limit t d ps E s =
    if_sound limit (Sound limit) (is_mark sign.OpenParen t.kind) _ _ (λ w. (w, (refl, tt, s)))
    (if_sound limit (Sound limit) (is_word keyword.Std t.kind) _ _ (λ w. (refl, (s.0, w, s.1, s.2))) tt)

begin_rest-sound : (limit : ℕ) → (t : Token) (d : ℕ) (ps : List Pending) (E : InExpression) → SoundWanted limit d ps E → Wherever limit (Sound limit) (begin_rest t d ps E)
begin_rest-sound limit t d ps E s =
    on_literal_sound limit (Sound limit) t.kind (λ v. within d (have_operand d (number v t.place) ps E)) _ (λ v l. (λ w. (s.0, (l, omega (arith, w)), refl, s.1, s.2)))
    (on_name_sound limit (Sound limit) (name_of t) (λ m. within d (after_path (m ∷ []) (of_operand d ps E))) _ (λ m. (λ w. (tt, (s.0, w, s.1, s.2)))) (begin_bracket-sound limit t d ps E s))

pub begin_operand-sound : (limit : ℕ) → (t : Token) (d : ℕ) (ps : List Pending) (E : InExpression) → SoundWanted limit d ps E → Wherever limit (Sound limit) (begin_operand t d ps E)
begin_operand-sound limit t d ps E s = go (prefix_of t.kind) (begin_rest-sound limit t d ps E s)
  where
    go : (o : Option UnaryOp) → Wherever limit (Sound limit) (begin_rest t d ps E) → Wherever limit (Sound limit) (elim o [ Some op ↦ within (d + 1) (want_operand (d + 1) (before_operand d op t.place ∷ ps) E) | None ↦ begin_rest t d ps E ])
    go (Some op) r = λ w. (w, (refl, (s.0, s.1), s.2))
    go None r = r

-- a token behind the `(` of arguments
pub feed_open-sound : (limit : ℕ) → 2 ≤ limit → (t : Token) (d : ℕ) (K : InCall) → Sound limit (after_open d K) → Wherever limit (Sound limit) (feed_open t d K)
feed_open-sound limit big t d K s = if_sound limit (Sound limit) (is_mark sign.CloseParen t.kind) _ _ (arguments_sound limit big [] d K s.0 tt s.1) (begin_operand-sound limit t d [] (in_argument d [] K) (refl, tt, (s.0, tt, s.1)))
