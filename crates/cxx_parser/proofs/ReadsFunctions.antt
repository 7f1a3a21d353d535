-- Functions that are spelled are read.
use Rattle.cxx_ast.specs.Plain.{Specification, listed, noexcept}
use Rattle.cxx_ast.specs.Written.{in_full, spell_truth, spell_in_parentheses}
use Rattle.cxx_ast.specs.Grammatical.{IsSpecification}
use Rattle.std.specs.Prelude.{Bool, true, false, codes}
use Rattle.std.specs.Prelude.{ℕ, suc, ◌+◌, ◌-◌, ◌≡◌, ◌≤◌, ◌⊎◌, true, false, List, [], ◌∷◌, ◌++◌, Option, Some, None, length, refl}
use Rattle.std.proofs.Common.{ap, sym, arith, append_assoc, inl, inr}
use Rattle.std.proofs.lemmas.List.{append-nil}
use Rattle.cxx_ast.specs.declared.declaration.FuncKind.{FuncKind}
use Rattle.cxx_ast.specs.declared.declaration.FuncKind.TheVariants.{Plain, Method, Constructor, Destructor}
use Rattle.cxx_ast.specs.declared.keyword.Keyword.TheVariants as keyword
use Rattle.cxx_ast.specs.declared.mark.Mark.TheVariants as sign
use Rattle.cxx_ast.specs.declared.token.Token.{Token}
use Rattle.cxx_ast.specs.declared.token.TokenKind.{TokenKind}
use Rattle.cxx_ast.specs.declared.token.TokenKind.TheVariants as kind
use Rattle.cxx_ast.specs.declared.types.Param.{Param}
use Rattle.cxx_ast.specs.Depth.{below_expressions, below_statements, below_initialisers, below_body, below_function}
use Rattle.cxx_ast.specs.Grammatical.{Each, Where, There, IsInitialiser, AreStatements, IsFunction, HasForm}
use Rattle.cxx_ast.specs.Piece.{Piece, mark}
use Rattle.cxx_ast.specs.Plain.{Statements, Initialiser, Function}
use Rattle.cxx_ast.specs.Spelling.{spell_statements}
use Rattle.cxx_ast.specs.Written.{spell_specification, spell_initialiser, spell_more_initialisers, spell_initialisers, spell_body, spell_function}
use Rattle.cxx_parser.specs.Contexts.{Holder, Heading, Signature, of_function, of_initialised, of_initialiser}
use Rattle.cxx_parser.specs.Expressions.{with_initialiser}
use Rattle.cxx_parser.specs.Functions.{function_from, with_initialisers, have_function, may_end, takes_initialisers, open_body, quiet}
use Rattle.cxx_parser.specs.Reading.{feed}
use Rattle.cxx_parser.specs.Signs.{is_mark, is_name, is_word}
use Rattle.cxx_parser.specs.States.{State, expect, want_name, after_open, after_params_open, after_params, after_throw_open, after_noexcept, after_noexcept_open, have_signature, have_initialiser}
use Rattle.cxx_parser.proofs.BehindStatements.{from_statement_list}
use Rattle.cxx_parser.proofs.Lengths.{rest_of, function_adds, function_some}
use Rattle.cxx_parser.proofs.Past.{placed_leads, Leads, next, ends_as, kind_leads, name_leads, Opening, opens, alike}
use Rattle.cxx_parser.proofs.ReadsExpressions.{from_listed, reads_arguments}
use Rattle.cxx_parser.proofs.ReadsStatements.{reads_statements}
use Rattle.cxx_parser.proofs.ReadsTypes.{reads_params, reads_types}
use Rattle.cxx_parser.proofs.Runs.{passed}

-- a token that is no `throw` and no `noexcept`
abbrev pub NoThrow : TokenKind → Type 0
NoThrow k = (is_word keyword.Throw k ≡ false) × (is_name (codes "noexcept") k ≡ false)

tail_opens : (is : List Initialiser) (body : Option Statements) (x : List Piece) → Opening NoThrow (spell_initialisers is (spell_body body x))
tail_opens [] None x = opens NoThrow (mark sign.Semicolon) x (refl, refl)
tail_opens [] (Some ss) x = opens NoThrow (mark sign.OpenBrace) (spell_statements ss (mark sign.CloseBrace ∷ x)) (refl, refl)
tail_opens (i ∷ is) body x = opens NoThrow (mark sign.Colon) (spell_initialiser i (spell_more_initialisers is (spell_body body x))) (refl, refl)

-- what stands before a body
abbrev pub signature : Heading → List Param → Bool → Option Specification → List Initialiser → Signature
signature h ps b spec is = record { heading = h; parameters = ps; specification = spec; in_full = b; initialisers = is }

params_alike : (limit n : ℕ) (t : Token) (ps : List Param) (h : Heading) → NoThrow t.kind → passed limit (feed n t (after_params ps h)) ≡ passed limit (feed n t (have_signature (signature h ps false None [])))
unfolding feed
params_alike limit n t ps h q = rw (q.0, q.1) refl

-- a token that is no `(`
abbrev pub NoOpen : TokenKind → Type 0
NoOpen k = is_mark sign.OpenParen k ≡ false

quiet_opens : (is : List Initialiser) (body : Option Statements) (x : List Piece) → Opening NoOpen (spell_initialisers is (spell_body body x))
quiet_opens [] None x = opens NoOpen (mark sign.Semicolon) x refl
quiet_opens [] (Some ss) x = opens NoOpen (mark sign.OpenBrace) (spell_statements ss (mark sign.CloseBrace ∷ x)) refl
quiet_opens (i ∷ is) body x = opens NoOpen (mark sign.Colon) (spell_initialiser i (spell_more_initialisers is (spell_body body x))) refl

quiet_alike : (limit n : ℕ) (t : Token) (place : ℕ) (ps : List Param) (h : Heading) → NoOpen t.kind → passed limit (feed n t (after_noexcept place ps h)) ≡ passed limit (feed n t (have_signature (signature h ps false (Some (noexcept place true)) [])))
unfolding feed
quiet_alike limit n t place ps h q = rw q refl

-- initialisers whose arguments stand at 2 and are not too deep
initialiser_fits : (limit : ℕ) (i : Initialiser) (is : List Initialiser) → below_initialisers (i ∷ is) + 1 ≤ limit → 2 + below_expressions i.arguments ≤ limit + 1
initialiser_fits limit i is l = omega (arith, l)

module _ (limit total : ℕ) where
  -- a body
  reads_block_body : (ss : Statements) → AreStatements ss → (s : Signature) (x : List Piece) → 2 + below_statements ss ≤ limit → Leads limit total (spell_statements ss (mark sign.CloseBrace ∷ x)) (open_body s) x (have_function (function_from (total - suc (length x)) (Some ss) s) s.heading.holder)
  reads_block_body ss g s x l =
      ends_as (have_function (function_from (total - suc (length x)) (Some ss) s) s.heading.holder)
      (ap (λ q. have_function (function_from (total - suc (length x)) (Some q) s) s.heading.holder) (from_statement_list ss))
      (reads_statements limit total ss g 3 [] (of_function s) x (omega (arith, l)))

  -- an initialiser
  reads_initialiser : (i : Initialiser) → IsInitialiser i → (s : Signature) (x : List Piece) → 2 + below_expressions i.arguments ≤ limit + 1 → Leads limit total (spell_initialiser i x) (want_name (of_initialised s)) x (have_initialiser (with_initialiser s i))
  unfolding feed
  reads_initialiser i g s x l =
      next (name_leads i.name (want_name (of_initialised s)) (λ o. expect (kind.Mark sign.OpenParen) (after_open 2 (of_initialiser o s))) (λ n j. refl))
      (next (kind_leads (kind.Mark sign.OpenParen) (expect (kind.Mark sign.OpenParen) (after_open 2 (of_initialiser i.name s))) (after_open 2 (of_initialiser i.name s)) (λ n place j. refl))
      (ends_as (have_initialiser (with_initialiser s i)) (ap (λ q. have_initialiser (with_initialiser s (record { name = i.name; arguments = q }))) (from_listed i.arguments))
      (reads_arguments limit total i.arguments g 2 (of_initialiser i.name s) x l)))

  -- further initialisers, and the body's brace
  reads_more_initialisers : (is : List Initialiser) → Each IsInitialiser is → (s : Signature) (x : List Piece) → below_initialisers is + 1 ≤ limit → Leads limit total (spell_more_initialisers is (mark sign.OpenBrace ∷ x)) (have_initialiser s) x (open_body (with_initialisers s (s.initialisers ++ is)))
  unfolding feed
  reads_more_initialisers [] g s x l =
      ends_as (open_body (with_initialisers s (s.initialisers ++ []))) (ap (λ q. open_body (with_initialisers s q)) (sym (append-nil s.initialisers)))
      (kind_leads (kind.Mark sign.OpenBrace) (have_initialiser s) (open_body s) (λ n place j. refl))
  reads_more_initialisers (i ∷ is) g s x l =
      next (kind_leads (kind.Mark sign.Comma) (have_initialiser s) (want_name (of_initialised s)) (λ n place j. refl))
      (next (reads_initialiser i g.0 s (spell_more_initialisers is (mark sign.OpenBrace ∷ x)) (omega (arith, l)))
      (ends_as (open_body (with_initialisers s (s.initialisers ++ (i ∷ is)))) (ap (λ q. open_body (with_initialisers s q)) (append_assoc s.initialisers (i ∷ []) is))
      (reads_more_initialisers is g.1 (with_initialiser s i) x (omega (arith, l)))))

  -- a declaration without a body ends
  ends_here : (s : Signature) (x : List Piece) → s.heading.kind ≡ Plain → Leads limit total (mark sign.Semicolon ∷ x) (have_signature s) x (have_function (function_from (total - suc (length x)) None s) s.heading.holder)
  unfolding feed
  ends_here s x e =
      let takes : takes_initialisers s.heading.kind ≡ false = ap takes_initialisers e in
      let ends : may_end s.heading.kind ≡ true = ap may_end e in
      kind_leads (kind.Mark sign.Semicolon) (have_signature s) (have_function (function_from (total - suc (length x)) None s) s.heading.holder)
      (λ n place i. rw (takes, ends) (ap (λ (q : ℕ). have_function (function_from q None s) s.heading.holder) (omega (arith, i))))

  -- initialisers begin
  begins_initialisers : (s : Signature) (x : List Piece) → s.heading.kind ≡ Constructor → Leads limit total (mark sign.Colon ∷ x) (have_signature s) x (want_name (of_initialised s))
  unfolding feed
  begins_initialisers s x e =
      let takes : takes_initialisers s.heading.kind ≡ true = ap takes_initialisers e in
      kind_leads (kind.Mark sign.Colon) (have_signature s) (want_name (of_initialised s)) (λ n place i. rw takes refl)

  -- what stands behind the exception specification
  reads_tail : (h : Heading) (ps : List Param) (c : Bool) (spec : Option Specification) (is : List Initialiser) (body : Option Statements) → (is ≡ []) ⊎ (h.kind ≡ Constructor) → There body ⊎ (h.kind ≡ Plain) → Each IsInitialiser is → Where AreStatements body → (x : List Piece) → below_initialisers is + 1 ≤ limit → below_body body + 1 ≤ limit → Leads limit total (spell_initialisers is (spell_body body x)) (have_signature (signature h ps c spec [])) x (have_function (function_from (total - suc (length x)) body (signature h ps c spec is)) h.holder)
  unfolding feed
  reads_tail h ps c spec [] None a (inl b) g f x l m = absurd b
  reads_tail h ps c spec [] None a (inr b) g f x l m = ends_here (signature h ps c spec []) x b
  reads_tail h ps c spec [] (Some ss) a b g f x l m =
      next (kind_leads (kind.Mark sign.OpenBrace) (have_signature (signature h ps c spec [])) (open_body (signature h ps c spec [])) (λ n place i. refl)) (reads_block_body ss f (signature h ps c spec []) x (omega (arith, m)))
  reads_tail h ps c spec (i ∷ is) body (inl a) b g f x l m = cc
  reads_tail h ps c spec (i ∷ is) None (inr a) (inl b) g f x l m = absurd b
  reads_tail h ps c spec (i ∷ is) None (inr a) (inr b) g f x l m = cc
  reads_tail h ps c spec (i ∷ is) (Some ss) (inr a) b g f x l m =
      next (begins_initialisers (signature h ps c spec []) (spell_initialiser i (spell_more_initialisers is (spell_body (Some ss) x))) a)
      (next (reads_initialiser i g.0 (signature h ps c spec []) (spell_more_initialisers is (spell_body (Some ss) x)) (omega (arith, l)))
      (next (reads_more_initialisers is g.1 (signature h ps c spec (i ∷ [])) (spell_statements ss (mark sign.CloseBrace ∷ x)) (omega (arith, l))) (reads_block_body ss f (signature h ps c spec (i ∷ is)) x (omega (arith, m)))))

  -- `true` or `false` in parentheses
  reads_true : (place : ℕ) (ps : List Param) (h : Heading) (x : List Piece) → Leads limit total (spell_in_parentheses keyword.True x) (after_noexcept place ps h) x (have_signature (quiet place true true ps h))
  unfolding feed
  reads_true place ps h x =
      next (kind_leads (kind.Mark sign.OpenParen) (after_noexcept place ps h) (after_noexcept_open place ps h) (λ n at i. refl))
      (next (kind_leads (kind.Word keyword.True) (after_noexcept_open place ps h) (expect (kind.Mark sign.CloseParen) (have_signature (quiet place true true ps h))) (λ n at i. refl))
      (kind_leads (kind.Mark sign.CloseParen) (expect (kind.Mark sign.CloseParen) (have_signature (quiet place true true ps h))) (have_signature (quiet place true true ps h)) (λ n at i. refl)))

  reads_false : (place : ℕ) (ps : List Param) (h : Heading) (x : List Piece) → Leads limit total (spell_in_parentheses keyword.False x) (after_noexcept place ps h) x (have_signature (quiet place false false ps h))
  unfolding feed
  reads_false place ps h x =
      next (kind_leads (kind.Mark sign.OpenParen) (after_noexcept place ps h) (after_noexcept_open place ps h) (λ n at i. refl))
      (next (kind_leads (kind.Word keyword.False) (after_noexcept_open place ps h) (expect (kind.Mark sign.CloseParen) (have_signature (quiet place false false ps h))) (λ n at i. refl))
      (kind_leads (kind.Mark sign.CloseParen) (expect (kind.Mark sign.CloseParen) (have_signature (quiet place false false ps h))) (have_signature (quiet place false false ps h)) (λ n at i. refl)))

  -- what stands behind `noexcept`, written in full or not
  reads_quiet : (h : Heading) (ps : List Param) (b is_true : Bool) (place : ℕ) (is : List Initialiser) (body : Option Statements) (x : List Piece) {last : State} → ((c : Bool) → Leads limit total (spell_initialisers is (spell_body body x)) (have_signature (signature h ps c (Some (noexcept place is_true)) [])) x last) → Leads limit total (spell_truth b is_true (spell_initialisers is (spell_body body x))) (after_noexcept place ps h) x last
  unfolding feed
  reads_quiet h ps b false place is body x l = next (reads_false place ps h (spell_initialisers is (spell_body body x))) (l false)
  reads_quiet h ps true true place is body x l = next (reads_true place ps h (spell_initialisers is (spell_body body x))) (l true)
  reads_quiet h ps false true place is body x l =
      alike NoOpen (after_noexcept place ps h) (have_signature (signature h ps false (Some (noexcept place true)) [])) (quiet_opens is body x) (λ n t q. quiet_alike limit n t place ps h q) (l false)

  -- an exception specification, where there is one, and what comes behind it
  reads_specification : (h : Heading) (ps : List Param) (b : Bool) (spec : Option Specification) → Where IsSpecification spec → (is : List Initialiser) (body : Option Statements) (x : List Piece) {last : State} → ((c : Bool) → Leads limit total (spell_initialisers is (spell_body body x)) (have_signature (signature h ps c spec [])) x last) → Leads limit total (spell_specification b spec (spell_initialisers is (spell_body body x))) (after_params ps h) x last
  unfolding feed
  reads_specification h ps b None g is body x l = alike NoThrow (after_params ps h) (have_signature (signature h ps false None [])) (tail_opens is body x) (λ n t q. params_alike limit n t ps h q) (l false)
  reads_specification h ps b (Some (listed tys)) g is body x l =
      next (kind_leads (kind.Word keyword.Throw) (after_params ps h) (expect (kind.Mark sign.OpenParen) (after_throw_open ps h)) (λ n place i. refl))
      (next (kind_leads (kind.Mark sign.OpenParen) (expect (kind.Mark sign.OpenParen) (after_throw_open ps h)) (after_throw_open ps h) (λ n place i. refl))
      (next (reads_types limit total tys g ps h (spell_initialisers is (spell_body body x))) (l false)))
  reads_specification h ps b (Some (noexcept place is_true)) g is body x l =
      next (placed_leads (kind.Name (codes "noexcept")) place (after_params ps h) (after_noexcept place ps h) (λ n i. refl)) (reads_quiet h ps b is_true place is body x l)

  -- the heading of a function that is spelled
  abbrev pub heading_of : Function → Holder → List Piece → Heading
  heading_of f H x = record { kind = f.kind; result = f.result; name = f.name; start = total - length (spell_function f x); holder = H }

  -- a function with as many tokens as were read
  counted_same : (c : Bool) (f : Function) → IsFunction f → (H : Holder) (x : List Piece) → length (spell_function f x) ≤ total → function_from (total - suc (length x)) f.body (signature (heading_of f H x) f.parameters c f.specification f.initialisers) ≡ f
  counted_same c f g H x r =
      let t = g.tokens in
      ap (λ q. counted q) (omega (arith, t, r, function_adds f x, function_some f))
    where
      counted : ℕ → Function
      counted q = record { name = f.name; kind = f.kind; result = f.result; parameters = f.parameters; specification = f.specification; initialisers = f.initialisers; body = f.body; tokens = q }

  -- what a kind of function may have
  initialisers_of : (k : FuncKind) (f : Function) → HasForm k f → (f.initialisers ≡ []) ⊎ (k ≡ Constructor)
  initialisers_of Plain f g = inl g.1
  initialisers_of Method f g = inl g.1
  initialisers_of Constructor f g = inr refl
  initialisers_of Destructor f g = inl g.1

  body_of : (k : FuncKind) (f : Function) → HasForm k f → There f.body ⊎ (k ≡ Plain)
  body_of Plain f g = inr refl
  body_of Method f g = inl g.2
  body_of Constructor f g = inl g.1
  body_of Destructor f g = inl g.3

  -- a function behind its parameters
  pub reads_behind_params : (f : Function) → IsFunction f → (H : Holder) (x : List Piece) → below_function f + 1 ≤ limit → length (spell_function f x) ≤ total → Leads limit total (spell_specification (in_full f) f.specification (spell_initialisers f.initialisers (spell_body f.body x))) (after_params f.parameters (heading_of f H x)) x (have_function f H)
  reads_behind_params f g H x l r =
      reads_specification (heading_of f H x) f.parameters (in_full f) f.specification g.specification f.initialisers f.body x
      (λ c. ends_as (have_function f H) (ap (λ q. have_function q H) (counted_same c f g H x r))
      (reads_tail (heading_of f H x) f.parameters c f.specification f.initialisers f.body (initialisers_of f.kind f g.form) (body_of f.kind f g.form) g.initialisers g.body x (omega (arith, l)) (omega (arith, l))))

  -- a function behind the parenthesis of its parameters
  pub reads_rest : (f : Function) → IsFunction f → (H : Holder) (x : List Piece) → below_function f + 1 ≤ limit → length (spell_function f x) ≤ total → Leads limit total (rest_of f x) (after_params_open (heading_of f H x)) x (have_function f H)
  reads_rest f g H x l r =
      next (reads_params limit total f.parameters g.parameters (heading_of f H x) (spell_specification (in_full f) f.specification (spell_initialisers f.initialisers (spell_body f.body x)))) (reads_behind_params f g H x l r)
