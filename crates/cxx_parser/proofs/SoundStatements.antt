-- What is read of statements is grammatical and not too deep, with a token more.
use Rattle.std.specs.Prelude.{ℕ, ◌+◌, ◌≡◌, ◌≤◌, Bool, true, false, List, [], ◌∷◌, ◌++◌, max, refl, if◌then◌else◌}
use Rattle.std.proofs.Common.{ap, subst, arith}
use Rattle.cxx_ast.specs.declared.keyword.Keyword.TheVariants as keyword
use Rattle.cxx_ast.specs.declared.mark.Mark.TheVariants as sign
use Rattle.cxx_ast.specs.declared.name.Name.{Name}
use Rattle.cxx_ast.specs.declared.token.Token.{Token}
use Rattle.cxx_ast.specs.declared.types.Ty.TheVariants.{ObjectRef}
use Rattle.cxx_ast.specs.Depth.{below_statements, below_handlers}
use Rattle.cxx_ast.specs.Grammatical.{Each, NotEmpty, SomeHandler, AreStatements, AreHandlers, ends_open}
use Rattle.cxx_ast.specs.Plain.{Statement, if_else, while, try, no_else, else_do}
use Rattle.cxx_ast.specs.Spelling.{is_bad_exception}
use Rattle.cxx_parser.specs.Contexts.{InStatement, in_then, in_else, in_while, in_block, InBlock, of_block, of_try, of_handler, of_function, InTry, in_try, InJump, of_return, of_throw, Caught, Signature, in_jump, of_statement, of_local}
use Rattle.cxx_parser.specs.Functions.{have_body}
use Rattle.cxx_parser.specs.Signs.{is_mark, is_word, name_of}
use Rattle.cxx_parser.specs.States.{after_jump, after_first_name, after_int, after_int_name, after_object_name, after_handler, have_statement, have_type, in_statements, want_statement, Step, stops, leads, unless, within, within_step}
use Rattle.cxx_parser.specs.Statements.{have_block, takes_locals, begin_local, named_depth, begin_named, begin_plain, begin_simple, begin_statement, feed_block, feed_statement, feed_handler, feed_jump, feed_only_name, feed_class, feed_first_name, feed_int, feed_int_name, feed_object_name}
use Rattle.cxx_parser.specs.Expressions.{feed_names}
use Rattle.cxx_parser.specs.Stored.{statements_from, handlers_from}
use Rattle.cxx_parser.proofs.Sound.{StatementAt, CaughtAt, statement_depth, block_depth, IsAllowed, SoundStatement, SoundBlock, SoundSignature, SoundStanding, SoundNamed, Sound}
use Rattle.cxx_parser.proofs.SoundExpressions.{allowed_always, allowed_local, each_last, begin_operand-sound, feed_names-sound}
use Rattle.cxx_parser.proofs.SoundSteps.{Wherever, on_mark_sound, if_sound, on_name_sound}

-- statements at a depth are those of a block
pub statements_fit : (limit : ℕ) → (ss : List Statement) (d : ℕ) → Each (StatementAt limit d) ss → AreStatements (statements_from ss) × (d + below_statements (statements_from ss) ≤ max (limit + 1) d)
statements_fit limit [] d h = (tt, omega arith)
statements_fit limit (s ∷ ss) d h = let r = statements_fit limit ss d h.1 in ((h.0.0, r.0), omega (arith, h.0.1, r.1))

-- handlers of a try at a depth
pub handlers_fit : (limit : ℕ) → (cs : List Caught) (c : ℕ) → Each (CaughtAt limit c) cs → AreHandlers (handlers_from cs) × (c + below_handlers (handlers_from cs) ≤ max limit c)
handlers_fit limit [] c h = (tt, omega arith)
handlers_fit limit (k ∷ cs) c h = let r = handlers_fit limit cs c h.1 in ((h.0.0, h.0.1, r.0), omega (arith, h.0.2, r.1))

pub some_handlers : (cs : List Caught) → NotEmpty cs → SomeHandler (handlers_from cs)
some_handlers [] h = absurd h
some_handlers (c ∷ cs) h = tt

pub some_last : {A : Type 0} (xs : List A) (x : A) → NotEmpty (xs ++ (x ∷ []))
some_last [] x = tt
some_last (y ∷ ys) x = tt

-- a body ends a function soundly
abbrev pub BodySound : ℕ → Type 0
BodySound limit = (n : ℕ) (ss : List Statement) (s : Signature) → Each (StatementAt limit 3) ss → SoundSignature limit s → Sound limit (have_body n (statements_from ss) s)

module _ (limit : ℕ) (bodies : BodySound limit) where
  block_sound : (n : ℕ) (d : ℕ) (ss : List Statement) (B : InBlock) → d ≡ block_depth B → Each (StatementAt limit d) ss → SoundBlock limit B → Sound limit (have_block n (statements_from ss) B)
  block_sound n d ss (of_block C) i h s = let r = statements_fit limit ss d h in ((r.0, omega (arith, r.1, i, s.0)), allowed_always C _ refl, refl, s.1)
  block_sound n d ss (of_try c C) i h s = let r = statements_fit limit ss d h in (refl, (refl, (s.0, s.1, (r.0, omega (arith, r.1, i, s.1)), tt, s.2)))
  block_sound n d ss (of_handler ty name place (in_try body cs c C)) i h s =
      let r = statements_fit limit ss d h in
      let k : Caught = record { type = ty; name = name; body = statements_from ss; place = place } in
      ((s.1.0, s.1.1, s.1.2, each_last (CaughtAt limit c) cs k s.1.3 (s.0, r.0, omega (arith, r.1, i, s.1.1)), s.1.4), some_last cs k)
  block_sound n d ss (of_function sig) i h s = bodies n ss sig (subst (λ m. Each (StatementAt limit m) ss) i h) s

  begin_local-sound : (t : Token) (d : ℕ) (C : InStatement) → takes_locals C ≡ true → SoundStanding limit d C → Wherever limit (Sound limit) (begin_local t d C)
  begin_local-sound t d C l s =
      if_sound limit (Sound limit) (is_word keyword.Int t.kind) _ _ ((λ w. (s.0, w, l, s.1)))
      (if_sound limit (Sound limit) (is_word keyword.Const t.kind) _ _ ((λ w. (l, omega (arith, w, s.0), s.1))) tt)

  pub begin_named-sound : (t : Token) (d : ℕ) (C : InStatement) → SoundStanding limit d C → Wherever limit (Sound limit) (begin_named t d C)
  begin_named-sound t d C s =
      on_name_sound limit (Sound limit) (name_of t) (λ m. within (named_depth d (takes_locals C)) (after_first_name m d C)) _
      (λ m w. (s.0, w, s.1))
      (go (takes_locals C) refl)
    where
      go : (b : Bool) → takes_locals C ≡ b → Wherever limit (Sound limit) (if b then begin_local t d C else stops)
      go true e = begin_local-sound t d C e s
      go false e = tt

  pub begin_plain-sound : (t : Token) (d : ℕ) (C : InStatement) → SoundStanding limit d C → Wherever limit (Sound limit) (begin_plain t d C)
  begin_plain-sound t d C s =
      if_sound limit (Sound limit) (is_word keyword.Break t.kind) _ _ (λ w. (refl, ((tt, omega (arith, w, s.0)), allowed_always C _ refl, refl, s.1)))
      (if_sound limit (Sound limit) (is_word keyword.Continue t.kind) _ _ (λ w. (refl, ((tt, omega (arith, w, s.0)), allowed_always C _ refl, refl, s.1)))
      (if_sound limit (Sound limit) (is_word keyword.Std t.kind) _ _ (λ w. (refl, (s.0, w, s.1))) (begin_named-sound t d C s)))

  pub begin_simple-sound : (t : Token) (d : ℕ) (C : InStatement) → SoundStanding limit d C → Wherever limit (Sound limit) (begin_simple t d C)
  begin_simple-sound t d C s =
      if_sound limit (Sound limit) (is_mark sign.Semicolon t.kind) _ _ ((λ w. ((tt, omega (arith, w, s.0)), allowed_always C _ refl, refl, s.1)))
      (if_sound limit (Sound limit) (is_word keyword.Return t.kind) _ _ ((λ w. (s.0, (omega (arith, w, s.0), s.1))))
      (if_sound limit (Sound limit) (is_word keyword.Throw t.kind) _ _ ((λ w. (s.0, (omega (arith, w, s.0), s.1)))) (begin_plain-sound t d C s)))

  pub begin_statement-sound : (t : Token) (d : ℕ) (C : InStatement) → SoundStanding limit d C → Wherever limit (Sound limit) (begin_statement t d C)
  begin_statement-sound t d C s =
      if_sound limit (Sound limit) (is_mark sign.OpenBrace t.kind) _ _ ((λ w. (ap (λ n. n + 1) s.0, tt, (omega (arith, w, s.0), s.1))))
      (if_sound limit (Sound limit) (is_word keyword.If t.kind) _ _ (λ w. (refl, (w, (refl, tt, (s.0, s.1)))))
      (if_sound limit (Sound limit) (is_word keyword.While t.kind) _ _ (λ w. (refl, (w, (refl, tt, (s.0, s.1)))))
      (if_sound limit (Sound limit) (is_word keyword.Try t.kind) _ _ (λ w. (refl, (refl, tt, (s.0, w, s.1)))) (begin_simple-sound t d C s))))

  pub feed_block-sound : (n : ℕ) (t : Token) (d : ℕ) (ss : List Statement) (B : InBlock) → Sound limit (in_statements d ss B) → Wherever limit (Sound limit) (feed_block n t d ss B)
  feed_block-sound n t d ss B s =
      if_sound limit (Sound limit) (is_mark sign.CloseBrace t.kind) _ _ (block_sound n d ss B s.0 s.1 s.2) (begin_statement-sound t d (in_block d ss B) (refl, s))

  -- an `else` that comes does not belong to what stands before it
  feed_statement-sound : (C : InStatement) (n : ℕ) (t : Token) (s : Statement) → StatementAt limit (statement_depth C) s → IsAllowed C s → (is_word keyword.Else t.kind ≡ true → ends_open s ≡ false) → SoundStatement limit C → Wherever limit (Sound limit) (feed_statement n t s C)
  feed_statement-sound (in_then e c C) n t s a l f g = go (is_word keyword.Else t.kind) refl
      (λ i. feed_statement-sound C n t (if_else e s no_else) (((g.1.0, a.0, l, tt, tt), omega (arith, g.0, g.1.1, a.1))) (allowed_always C _ refl) (λ j. absurd (apart i j)) g.2)
    where
      apart : is_word keyword.Else t.kind ≡ false → is_word keyword.Else t.kind ≡ true → ⊥
      apart i j = cc

      go : (b : Bool) → is_word keyword.Else t.kind ≡ b → (is_word keyword.Else t.kind ≡ false → Wherever limit (Sound limit) (feed_statement n t (if_else e s no_else) C)) → Wherever limit (Sound limit) (if b then leads (want_statement (c + 1) (in_else e s C)) else feed_statement n t (if_else e s no_else) C)
      go true i k = (omega (arith, g.1.1), (ap (λ m. m + 1) g.0, ((g.1.0, omega (arith, g.0, g.1.1)), (a.0, omega (arith, g.0, a.1)), l, f i, g.2)))
      go false i k = k i
  feed_statement-sound (in_else e first C) n t s a l f g =
      feed_statement-sound C n t (if_else e first (else_do s)) (((g.0.0, g.1.0, g.2, (a.0, l), g.3), omega (arith, g.0.1, g.1.1, a.1))) (allowed_always C _ refl) f g.4
  feed_statement-sound (in_while e C) n t s a l f g = feed_statement-sound C n t (while e s) (((g.0.0, a.0, l), omega (arith, g.0.1, a.1))) (allowed_always C _ refl) f g.1
  feed_statement-sound (in_block d ss B) n t s a l f g = feed_block-sound n t d (ss ++ (s ∷ [])) B (g.0, each_last (StatementAt limit d) ss s g.1 a, g.2)

  pub have_statement-sound : (n : ℕ) (t : Token) (s : Statement) (C : InStatement) → Sound limit (have_statement s C) → Wherever limit (Sound limit) (feed_statement n t s C)
  have_statement-sound n t s C h = feed_statement-sound C n t s h.0 h.1 (λ i. h.2) h.3

  -- a token behind a handler
  pub feed_handler-sound : (n : ℕ) (t : Token) (T : InTry) → Sound limit (after_handler T) → Wherever limit (Sound limit) (feed_handler n t T)
  feed_handler-sound n t (in_try ss cs c C) s =
      let r = handlers_fit limit cs c s.0.3 in
      if_sound limit (Sound limit) (is_word keyword.Catch t.kind) _ _ (refl, s.0)
      (feed_statement-sound C n t (try ss (handlers_from cs)) (((s.0.2.0, some_handlers cs s.1, r.0), omega (arith, s.0.0, s.0.1, s.0.2.1, r.1))) (allowed_always C _ refl) (λ i. refl) s.0.4)

-- a token behind `return` or `throw`
pub feed_jump-sound : (limit : ℕ) → (t : Token) (d : ℕ) (jump : InJump) → Sound limit (after_jump d jump) → Wherever limit (Sound limit) (feed_jump t d jump)
feed_jump-sound limit t d (of_return place C) s =
    if_sound limit (Sound limit) (is_mark sign.Semicolon t.kind) _ _ ((tt, omega (arith, s.1.0)), allowed_always C _ refl, refl, s.1.1) (begin_operand-sound limit t (d + 1) [] (in_jump (of_return place C)) (ap (λ n. n + 1) s.0, tt, s.1))
feed_jump-sound limit t d (of_throw place C) s =
    if_sound limit (Sound limit) (is_mark sign.Semicolon t.kind) _ _ ((tt, omega (arith, s.1.0)), allowed_always C _ refl, refl, s.1.1) (begin_operand-sound limit t (d + 1) [] (in_jump (of_throw place C)) (ap (λ n. n + 1) s.0, tt, s.1))

-- a token behind a first name
within_step_sound : (limit : ℕ) → (d : ℕ) (x : Step) → (d ≤ limit → Wherever limit (Sound limit) x) → Wherever limit (Sound limit) (within_step d x)
within_step_sound limit d stops h = tt
within_step_sound limit d (leads s) h = h
within_step_sound limit d (within other s) h = λ w. h (omega (arith, w)) (omega (arith, w))

pub feed_only_name-sound : (limit : ℕ) → 2 ≤ limit → (t : Token) (m : Name) (d : ℕ) (C : InStatement) → SoundNamed limit d C → Wherever limit (Sound limit) (feed_only_name t m d C)
feed_only_name-sound limit big t m d C s = within_step_sound limit (d + 1) (feed_names t (m ∷ []) (of_statement d C)) (λ w. feed_names-sound limit big t (m ∷ []) (of_statement d C) (tt, (s.0, w, s.2)))

feed_class-sound : (limit : ℕ) → 2 ≤ limit → (t : Token) (m : Name) (d : ℕ) (C : InStatement) → takes_locals C ≡ true → Sound limit (after_first_name m d C) → Wherever limit (Sound limit) (feed_class t m d C)
feed_class-sound limit big t m d C l s =
    if_sound limit (Sound limit) (is_mark sign.Amp t.kind) _ _ (go (is_bad_exception m) refl)
    (on_name_sound limit (Sound limit) (name_of t) (λ o. leads (after_object_name m o d C)) _ (λ o. (s.0, subst (λ b. named_depth d b ≤ limit) l s.1, l, s.2)) (feed_only_name-sound limit big t m d C s))
  where
    go : (b : Bool) → is_bad_exception m ≡ b → Wherever limit (Sound limit) (unless b (leads (have_type (ObjectRef false m) (of_local C))))
    go true e = tt
    go false e = let w : d ≤ limit = subst (λ b. named_depth d b ≤ limit) l s.1 in (e, (l, omega (arith, s.0, w), s.2))

pub feed_first_name-sound : (limit : ℕ) → 2 ≤ limit → (t : Token) (m : Name) (d : ℕ) (C : InStatement) → Sound limit (after_first_name m d C) → Wherever limit (Sound limit) (feed_first_name t m d C)
feed_first_name-sound limit big t m d C s = go (takes_locals C) refl (feed_only_name-sound limit big t m d C s)
  where
    go : (b : Bool) → takes_locals C ≡ b → Wherever limit (Sound limit) (feed_only_name t m d C) → Wherever limit (Sound limit) (if b then feed_class t m d C else feed_only_name t m d C)
    go true e y = feed_class-sound limit big t m d C e s
    go false e y = y

-- a token in the declaration of a local variable
pub feed_int-sound : (limit : ℕ) → (t : Token) (d : ℕ) (C : InStatement) → Sound limit (after_int d C) → Wherever limit (Sound limit) (feed_int t d C)
feed_int-sound limit t d C s =
    if_sound limit (Sound limit) (is_mark sign.Amp t.kind) _ _ (tt, (s.2, omega (arith, s.0, s.1), s.3)) (on_name_sound limit (Sound limit) (name_of t) (λ m. leads (after_int_name m d C)) _ (λ m. s) tt)

pub feed_int_name-sound : (limit : ℕ) → (t : Token) (m : Name) (d : ℕ) (C : InStatement) → Sound limit (after_int_name m d C) → Wherever limit (Sound limit) (feed_int_name t m d C)
feed_int_name-sound limit t m d C s =
    if_sound limit (Sound limit) (is_mark sign.Assign t.kind) _ _ (λ w. (w, (ap (λ n. n + 1) s.0, tt, (s.2, s.3))))
    (on_mark_sound limit (Sound limit) (is_mark sign.Semicolon t.kind) _ ((tt, omega (arith, s.0, s.1)), allowed_local C _ s.2, refl, s.3))

pub feed_object_name-sound : (limit : ℕ) → (t : Token) (c m : Name) (d : ℕ) (C : InStatement) → Sound limit (after_object_name c m d C) → Wherever limit (Sound limit) (feed_object_name t c m d C)
feed_object_name-sound limit t c m d C s =
    if_sound limit (Sound limit) (is_mark sign.OpenParen t.kind) _ _ (λ w. (w, (refl, tt, (ap (λ n. n + 1) s.0, tt, (s.2, omega (arith, s.0, s.1), s.3)))))
    (on_mark_sound limit (Sound limit) (is_mark sign.Semicolon t.kind) _ ((tt, omega (arith, s.0, s.1)), allowed_local C _ s.2, refl, s.3))
