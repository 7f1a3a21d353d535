-- What holds of a statement's state holds with a token more.
use Rattle.std.specs.Prelude.{ℕ, ◌+◌, ◌≡◌, Bool, true, false, List, [], ◌∷◌, ◌++◌, refl, if◌then◌else◌}
use Rattle.std.proofs.Common.{ap}
use Rattle.cxx_ast.specs.declared.keyword.Keyword.TheVariants as keyword
use Rattle.cxx_ast.specs.declared.mark.Mark.TheVariants as sign
use Rattle.cxx_ast.specs.declared.name.Name.{Name}
use Rattle.cxx_ast.specs.declared.token.Token.{Token}
use Rattle.cxx_ast.specs.declared.token.TokenKind.TheVariants as kind
use Rattle.cxx_ast.specs.declared.types.Ty.TheVariants.{ObjectRef}
use Rattle.cxx_ast.specs.Piece.{Piece, named, word, mark, word_at}
use Rattle.cxx_ast.specs.Plain.{Statement, Statements, if_else, while, try, no_else, else_do}
use Rattle.cxx_ast.specs.Spelling.{is_bad_exception, spell_type, spell_statement, spell_statements, spell_handlers, spell_caught}
use Rattle.cxx_parser.specs.Contexts.{InStatement, in_then, in_else, in_while, in_block, InBlock, of_block, of_try, of_handler, of_function, InTry, in_try, InJump, of_return, of_throw, Caught, Signature, in_jump, of_statement, of_local}
use Rattle.cxx_parser.specs.Expressions.{feed_names}
use Rattle.cxx_parser.specs.Functions.{have_body}
use Rattle.cxx_parser.specs.States.{State, after_jump, after_first_name, after_only_name, after_int, after_int_name, after_object_name, after_handler, have_statement, have_type, in_statements, want_statement, want_simple, want_plain, want_named, Step, stops, leads, unless, within, within_step}
use Rattle.cxx_parser.specs.Statements.{have_block, takes_locals, begin_local, named_depth, begin_named, begin_plain, begin_simple, begin_statement, feed_block, feed_statement, feed_handler, feed_jump, feed_only_name, feed_class, feed_first_name, feed_int, feed_int_name, feed_object_name}
use Rattle.cxx_parser.specs.Stored.{statements_from, handlers_from}
use Rattle.cxx_parser.proofs.Before.{before_statement, before_block, before_try, site_of, block_heading, spell_signature}
use Rattle.cxx_parser.proofs.Held.{Fits, after, Within, Holds}
use Rattle.cxx_parser.proofs.KeepsExpressions.{begin_operand-holds, feed_names-holds}
use Rattle.cxx_parser.proofs.KeepsTypes.{plain_class}
use Rattle.cxx_parser.proofs.Steps.{Where, step, restate, on_mark_holds, if_mark, if_word, placed_is, on_name}

-- the last of some statements, and of some handlers
pub statements_last : (ss : List Statement) (s : Statement) (x : List Piece) → spell_statements (statements_from ss) (spell_statement s x) ≡ spell_statements (statements_from (ss ++ (s ∷ []))) x
statements_last [] s x = refl
statements_last (r ∷ ss) s x = ap (spell_statement r) (statements_last ss s x)

pub handlers_last : (cs : List Caught) (c : Caught) (x : List Piece) → spell_handlers (handlers_from cs) (word keyword.Catch ∷ mark sign.OpenParen ∷ spell_caught c.place c.type c.name (mark sign.CloseParen ∷ mark sign.OpenBrace ∷ spell_statements c.body (mark sign.CloseBrace ∷ x))) ≡ spell_handlers (handlers_from (cs ++ (c ∷ []))) x
handlers_last [] c x = refl
handlers_last (d ∷ cs) c x =
    ap (λ y. word keyword.Catch ∷ mark sign.OpenParen ∷ spell_caught d.place d.type d.name (mark sign.CloseParen ∷ mark sign.OpenBrace ∷ spell_statements d.body (mark sign.CloseBrace ∷ y))) (handlers_last cs c x)

-- a body ends a function
abbrev pub BodyHolds : Type 1
BodyHolds = (n : ℕ) (F : Fits) (t : Token) (ss : Statements) (s : Signature) → t.kind ≡ kind.Mark sign.CloseBrace → Within n F (site_of s.heading) (λ x. spell_signature s (mark sign.OpenBrace ∷ spell_statements ss x)) (Unit {0}) → Holds (n + 1) (after t F) (have_body n ss s)

module _ (bodies : BodyHolds) where
  -- `}` behind the statements of a block
  block_holds : (n : ℕ) (F : Fits) (t : Token) (ss : Statements) (B : InBlock) → t.kind ≡ kind.Mark sign.CloseBrace → Within n F (site_of (block_heading B)) (λ x. before_block B (spell_statements ss x)) (Unit {0}) → Holds (n + 1) (after t F) (have_block n ss B)
  block_holds n F t ss (of_block C) is w = step t (mark sign.CloseBrace) _ is tt w
  block_holds n F t ss (of_try depth C) is w = λ u i v j. step v (mark sign.OpenParen) _ j tt (step u (word keyword.Catch) (Unit {0}) i tt (step t (mark sign.CloseBrace) (Unit {0}) is tt w))
  block_holds n F t ss (of_handler ty name place (in_try body cs depth C)) is w =
      let c : Caught = record { type = ty; name = name; body = ss; place = place } in
      restate (before_try (in_try body (cs ++ (c ∷ [])) depth C)) _ (λ x. ap (λ y. before_statement C (word keyword.Try ∷ mark sign.OpenBrace ∷ spell_statements body (mark sign.CloseBrace ∷ y))) (handlers_last cs c x)) tt
      (step t (mark sign.CloseBrace) (Unit {0}) is tt w)
  block_holds n F t ss (of_function s) is w = bodies n F t ss s is w

  -- the first token of a statement
  begin_local-holds : (n : ℕ) (F : Fits) (t : Token) (depth : ℕ) (C : InStatement) → Holds n F (want_named depth C) → Where (Holds (n + 1) (after t F)) (begin_local t depth C)
  begin_local-holds n F t depth C w =
      if_word (Holds (n + 1) (after t F)) keyword.Int t _ _ (λ is. (step t (word keyword.Int) _ is tt w))
      (if_word (Holds (n + 1) (after t F)) keyword.Const t _ _ (λ is. (step t (word keyword.Const) _ is tt w)) tt)

  either : (Q : State → Type 1) (b : Bool) (x y : Step) → Where Q x → Where Q y → Where Q (if b then x else y)
  either Q true x y f g = f
  either Q false x y f g = g

  pub begin_named-holds : (n : ℕ) (F : Fits) (t : Token) (depth : ℕ) (C : InStatement) → Holds n F (want_named depth C) → Where (Holds (n + 1) (after t F)) (begin_named t depth C)
  begin_named-holds n F t depth C w =
      on_name (Holds (n + 1) (after t F)) t (λ m. within (named_depth depth (takes_locals C)) (after_first_name m depth C)) _
      (λ m is. (step t (named m) _ is tt w))
      (either (Holds (n + 1) (after t F)) (takes_locals C) _ _ (begin_local-holds n F t depth C w) tt)

  pub begin_plain-holds : (n : ℕ) (F : Fits) (t : Token) (depth : ℕ) (C : InStatement) → Holds n F (want_plain depth C) → Where (Holds (n + 1) (after t F)) (begin_plain t depth C)
  begin_plain-holds n F t depth C w =
      if_word (Holds (n + 1) (after t F)) keyword.Break t _ _
      (λ is. (λ u i. step u (mark sign.Semicolon) _ i tt (step t (word_at keyword.Break t.place) (Unit {0}) (placed_is t (kind.Word keyword.Break) is) tt w)))
      (if_word (Holds (n + 1) (after t F)) keyword.Continue t _ _
      (λ is. (λ u i. step u (mark sign.Semicolon) _ i tt (step t (word_at keyword.Continue t.place) (Unit {0}) (placed_is t (kind.Word keyword.Continue) is) tt w)))
      (if_word (Holds (n + 1) (after t F)) keyword.Std t _ _
      (λ is. (λ u i. step u (mark sign.ColonColon) _ i tt (step t (word_at keyword.Std t.place) (Unit {0}) (placed_is t (kind.Word keyword.Std) is) tt w)))
      (begin_named-holds n F t depth C w)))

  pub begin_simple-holds : (n : ℕ) (F : Fits) (t : Token) (depth : ℕ) (C : InStatement) → Holds n F (want_simple depth C) → Where (Holds (n + 1) (after t F)) (begin_simple t depth C)
  begin_simple-holds n F t depth C w =
      if_mark (Holds (n + 1) (after t F)) sign.Semicolon t _ _ (λ is. (step t (mark sign.Semicolon) _ is tt w))
      (if_word (Holds (n + 1) (after t F)) keyword.Return t _ _ (λ is. (step t (word_at keyword.Return t.place) _ (placed_is t (kind.Word keyword.Return) is) tt w))
      (if_word (Holds (n + 1) (after t F)) keyword.Throw t _ _ (λ is. (step t (word_at keyword.Throw t.place) _ (placed_is t (kind.Word keyword.Throw) is) tt w))
      (begin_plain-holds n F t depth C w)))

  pub begin_statement-holds : (n : ℕ) (F : Fits) (t : Token) (depth : ℕ) (C : InStatement) → Holds n F (want_statement depth C) → Where (Holds (n + 1) (after t F)) (begin_statement t depth C)
  begin_statement-holds n F t depth C w =
      if_mark (Holds (n + 1) (after t F)) sign.OpenBrace t _ _ (λ is. (step t (mark sign.OpenBrace) _ is tt w))
      (if_word (Holds (n + 1) (after t F)) keyword.If t _ _
      (λ is. (λ u i. step u (mark sign.OpenParen) _ i tt (step t (word keyword.If) (Unit {0}) is tt w)))
      (if_word (Holds (n + 1) (after t F)) keyword.While t _ _
      (λ is. (λ u i. step u (mark sign.OpenParen) _ i tt (step t (word keyword.While) (Unit {0}) is tt w)))
      (if_word (Holds (n + 1) (after t F)) keyword.Try t _ _
      (λ is. (λ u i. step u (mark sign.OpenBrace) _ i tt (step t (word keyword.Try) (Unit {0}) is tt w)))
      (begin_simple-holds n F t depth C w))))

  -- a token behind statements of a block
  pub feed_block-holds : (n : ℕ) (F : Fits) (t : Token) (depth : ℕ) (ss : List Statement) (B : InBlock) → Holds n F (in_statements depth ss B) → Where (Holds (n + 1) (after t F)) (feed_block n t depth ss B)
  feed_block-holds n F t depth ss B w =
      if_mark (Holds (n + 1) (after t F)) sign.CloseBrace t _ _ (λ is. block_holds n F t (statements_from ss) B is w) (begin_statement-holds n F t depth (in_block depth ss B) w)

  -- a token behind a statement
  pub feed_statement-holds : (C : InStatement) (n : ℕ) (F : Fits) (t : Token) (s : Statement) → Holds n F (have_statement s C) → Where (Holds (n + 1) (after t F)) (feed_statement n t s C)
  feed_statement-holds (in_then e depth C) n F t s w =
      if_word (Holds (n + 1) (after t F)) keyword.Else t _ _ (λ is. step t (word keyword.Else) _ is tt w) (feed_statement-holds C n F t (if_else e s no_else) w)
  feed_statement-holds (in_else e first C) n F t s w = feed_statement-holds C n F t (if_else e first (else_do s)) w
  feed_statement-holds (in_while e C) n F t s w = feed_statement-holds C n F t (while e s) w
  feed_statement-holds (in_block depth ss B) n F t s w =
      feed_block-holds n F t depth (ss ++ (s ∷ [])) B (restate (λ x. before_block B (spell_statements (statements_from (ss ++ (s ∷ []))) x)) _ (λ x. ap (before_block B) (statements_last ss s x)) tt w)

  -- a token behind a handler
  pub feed_handler-holds : (n : ℕ) (F : Fits) (t : Token) (T : InTry) → Holds n F (after_handler T) → Where (Holds (n + 1) (after t F)) (feed_handler n t T)
  feed_handler-holds n F t (in_try ss cs depth C) w =
      if_word (Holds (n + 1) (after t F)) keyword.Catch t _ _ (λ is. λ u i. step u (mark sign.OpenParen) _ i tt (step t (word keyword.Catch) (Unit {0}) is tt w))
      (feed_statement-holds C n F t (try ss (handlers_from cs)) w)

-- a token behind `return` or `throw`
pub feed_jump-holds : (n : ℕ) (F : Fits) (t : Token) (depth : ℕ) (jump : InJump) → Holds n F (after_jump depth jump) → Where (Holds (n + 1) (after t F)) (feed_jump t depth jump)
feed_jump-holds n F t depth (of_return place C) w =
    if_mark (Holds (n + 1) (after t F)) sign.Semicolon t _ _ (λ is. step t (mark sign.Semicolon) _ is tt w) (begin_operand-holds n F t (depth + 1) [] (in_jump (of_return place C)) w)
feed_jump-holds n F t depth (of_throw place C) w =
    if_mark (Holds (n + 1) (after t F)) sign.Semicolon t _ _ (λ is. step t (mark sign.Semicolon) _ is tt w) (begin_operand-holds n F t (depth + 1) [] (in_jump (of_throw place C)) w)

-- a token behind a first name
within_step_holds : (Q : State → Type 1) (d : ℕ) (x : Step) → Where Q x → Where Q (within_step d x)
within_step_holds Q d stops h = tt
within_step_holds Q d (leads s) h = h
within_step_holds Q d (within other s) h = h

pub feed_only_name-holds : (n : ℕ) (F : Fits) (t : Token) (m : Name) (depth : ℕ) (C : InStatement) → Holds n F (after_only_name m depth C) → Where (Holds (n + 1) (after t F)) (feed_only_name t m depth C)
feed_only_name-holds n F t m depth C w =
    within_step_holds (Holds (n + 1) (after t F)) (depth + 1) (feed_names t (m ∷ []) (of_statement depth C)) (feed_names-holds n F t (m ∷ []) (of_statement depth C) (restate _ _ (λ x. refl) tt w))

feed_class-holds : (n : ℕ) (F : Fits) (t : Token) (m : Name) (depth : ℕ) (C : InStatement) → Holds n F (after_first_name m depth C) → Where (Holds (n + 1) (after t F)) (feed_class t m depth C)
feed_class-holds n F t m depth C w =
    if_mark (Holds (n + 1) (after t F)) sign.Amp t _ _ (λ is. go (is_bad_exception m) refl is)
    (on_name (Holds (n + 1) (after t F)) t (λ o. leads (after_object_name m o depth C)) _ (λ o is. step t (named o) _ is tt w) (feed_only_name-holds n F t m depth C w))
  where
    go : (b : Bool) → is_bad_exception m ≡ b → t.kind ≡ kind.Mark sign.Amp → Where (Holds (n + 1) (after t F)) (unless b (leads (have_type (ObjectRef false m) (of_local C))))
    go true e is = tt
    go false e is = restate (λ x. before_statement C (spell_type (ObjectRef false m) x)) _ (λ x. ap (before_statement C) (plain_class m e (mark sign.Amp ∷ x))) tt (step t (mark sign.Amp) (Unit {0}) is tt w)

pub feed_first_name-holds : (n : ℕ) (F : Fits) (t : Token) (m : Name) (depth : ℕ) (C : InStatement) → Holds n F (after_first_name m depth C) → Where (Holds (n + 1) (after t F)) (feed_first_name t m depth C)
feed_first_name-holds n F t m depth C w = go (takes_locals C) (feed_class-holds n F t m depth C w) (feed_only_name-holds n F t m depth C w)
  where
    go : (b : Bool) → Where (Holds (n + 1) (after t F)) (feed_class t m depth C) → Where (Holds (n + 1) (after t F)) (feed_only_name t m depth C) → Where (Holds (n + 1) (after t F)) (if b then feed_class t m depth C else feed_only_name t m depth C)
    go true x y = x
    go false x y = y

-- a token in the declaration of a local variable
pub feed_int-holds : (n : ℕ) (F : Fits) (t : Token) (depth : ℕ) (C : InStatement) → Holds n F (after_int depth C) → Where (Holds (n + 1) (after t F)) (feed_int t depth C)
feed_int-holds n F t depth C w =
    if_mark (Holds (n + 1) (after t F)) sign.Amp t _ _ (λ is. step t (mark sign.Amp) _ is tt w)
    (on_name (Holds (n + 1) (after t F)) t (λ m. leads (after_int_name m depth C)) _ (λ m is. step t (named m) _ is tt w) tt)

pub feed_int_name-holds : (n : ℕ) (F : Fits) (t : Token) (m : Name) (depth : ℕ) (C : InStatement) → Holds n F (after_int_name m depth C) → Where (Holds (n + 1) (after t F)) (feed_int_name t m depth C)
feed_int_name-holds n F t m depth C w =
    if_mark (Holds (n + 1) (after t F)) sign.Assign t _ _ (λ is. (step t (mark sign.Assign) _ is tt w))
    (on_mark_holds (Holds (n + 1) (after t F)) sign.Semicolon t _ (λ is. step t (mark sign.Semicolon) _ is tt w))

pub feed_object_name-holds : (n : ℕ) (F : Fits) (t : Token) (c m : Name) (depth : ℕ) (C : InStatement) → Holds n F (after_object_name c m depth C) → Where (Holds (n + 1) (after t F)) (feed_object_name t c m depth C)
feed_object_name-holds n F t c m depth C w =
    if_mark (Holds (n + 1) (after t F)) sign.OpenParen t _ _ (λ is. (step t (mark sign.OpenParen) _ is tt w))
    (on_mark_holds (Holds (n + 1) (after t F)) sign.Semicolon t _ (λ is. step t (mark sign.Semicolon) _ is tt w))
