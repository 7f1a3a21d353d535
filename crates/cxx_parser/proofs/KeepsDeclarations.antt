-- What holds of the state of a signature, a member or a declaration holds with a token more.
use Rattle.std.specs.Prelude.{ℕ, suc, ◌+◌, ◌≡◌, neg_ℤ, Bool, true, false, codes, List, [], ◌∷◌, ◌++◌, Some, None, length, refl, if◌then◌else◌}
use Rattle.std.proofs.Common.{ap, sym, ◌∙◌, subst, arith}
use Rattle.cxx_ast.specs.declared.keyword.Keyword.TheVariants as keyword
use Rattle.cxx_ast.specs.declared.mark.Mark.TheVariants as sign
use Rattle.cxx_ast.specs.declared.name.Name.{Name}
use Rattle.cxx_ast.specs.declared.token.Token.{Token}
use Rattle.cxx_ast.specs.declared.token.TokenKind.TheVariants as kind
use Rattle.cxx_ast.specs.declared.types.Ty.TheVariants.{Int, Object}
use Rattle.cxx_ast.specs.declared.types.Param.{Param}
use Rattle.cxx_ast.specs.Grammatical.{Each, NotEmpty}
use Rattle.cxx_ast.specs.Piece.{Piece, Is, Fit, placed, named, word, mark, anywhere}
use Rattle.cxx_ast.specs.Plain.{Initialiser, Declaration, class_declaration}
use Rattle.cxx_ast.specs.Spelling.{is_bad_exception}
use Rattle.cxx_ast.specs.Written.{data_member, Written, written_class, written_global, declared, functions, spell_members, spell_declaration}
use Rattle.cxx_ast.specs.Written.{no_start, start as started}
use Rattle.cxx_parser.specs.Classes.{kind_in, with_member, closed_class, have_name, feed_name, feed_variable, feed_declared, have_value, feed_minus, feed_assign, feed_class_name, feed_class_colon, feed_member_name, begin_member, feed_member, begin_declaration}
use Rattle.cxx_parser.specs.Contexts.{OpenClass, Holder, of_program, of_class, Heading, Signature, of_specification, InName, of_path, of_std_operand, of_std_statement, of_referred, of_int, of_void, of_destructor, of_class_name, of_base, of_initialised}
use Rattle.cxx_parser.specs.Functions.{function_from, may_end, takes_initialisers, feed_signature, feed_initialiser, feed_params_open, feed_params, quiet, feed_noexcept, feed_noexcept_open, feed_throw_open}
use Rattle.cxx_parser.proofs.Spelled.{IsCounted, AreCounted}
use Rattle.cxx_parser.specs.States.{State, expect, want_name, after_params_open, after_params, after_throw_open, after_noexcept, after_noexcept_open, have_signature, have_initialiser, after_declared, after_class_name, after_class_colon, in_class, want_member, after_member_name, after_assign, after_minus, want_declaration, Step, leads, unless}
use Rattle.cxx_parser.proofs.Before.{before_path, separator, spell_signature}
use Rattle.cxx_parser.proofs.Held.{Fits, after, before_holder, AtHolder, MayTilde, Within, Holds}
use Rattle.cxx_parser.proofs.KeepsExpressions.{path_last, not_empty}
use Rattle.cxx_parser.proofs.KeepsFunctions.{data_last, members_of_data, functions_of_data, declaration_more, function_holds}
use Rattle.cxx_parser.proofs.KeepsTypes.{plain_class, begin_param-holds, begin_listed-holds}
use Rattle.cxx_parser.proofs.Steps.{Where, step, restate, on_mark_holds, if_mark, if_word, if_name, placed_is, on_name, on_literal}

-- tokens and the pieces that they fit are as many
pub fit_length : (ts : List Token) (x : List Piece) → Fit ts x → length x ≡ length ts
fit_length [] [] f = refl
fit_length [] (p ∷ ps) f = absurd f
fit_length (t ∷ ts) [] f = absurd f
fit_length (t ∷ ts) (p ∷ ps) f = ap suc (fit_length ts ps f.1)

-- a function or a global begins
pub begins : (n : ℕ) (F : Fits) (t : Token) (p : Piece) (H : Holder) → MayTilde H false → Is t p → AtHolder F H → Within (n + 1) (after t F) (record { holder = H; start = n; tilde = false }) (λ x. p ∷ x) (Unit {0})
begins n F t p H may is a = record {
  own = after t Fit;
  outer = record {
    front = a.front;
    matches = a.matches;
    may_tilde = may;
    carried = λ ts x g. a.said (t ∷ ts) x g;
    counted = λ ts x g. let k = fit_length (t ∷ ts) x g in omega (arith, k);
  };
  said = λ ts x g. (is, g);
  fine = tt;
}

-- a destructor begins behind `~`
tilde_begins : (n : ℕ) (F : Fits) (t : Token) (c : OpenClass) → t.kind ≡ kind.Mark sign.Tilde → AtHolder F (of_class c) → Within (n + 1) (after t F) (record { holder = of_class c; start = n + 1; tilde = true }) (λ x. x) (Unit {0})
tilde_begins n F t c is a = record {
  own = Fit;
  outer = record {
    front = a.front;
    matches = a.matches;
    may_tilde = tt;
    carried = λ ts x g. a.said (t ∷ ts) (mark sign.Tilde ∷ x) (is, g);
    counted = λ ts x g. let k = fit_length ts x g in omega (arith, k);
  };
  said = λ ts x g. g;
  fine = tt;
}

-- a token behind what stands before a body
no_separator : (is : List Initialiser) → is ≡ [] → separator is ≡ mark sign.Colon
no_separator is e = ap separator e

some_separator : (is : List Initialiser) → NotEmpty is → separator is ≡ mark sign.Comma
some_separator [] h = absurd h
some_separator (i ∷ is) h = refl

either : (Q : State → Type 1) (b : Bool) (x y : Step) → Where Q x → Where Q y → Where Q (if b then x else y)
either Q true x y f g = f
either Q false x y f g = g

pub feed_signature-holds : (n : ℕ) (F : Fits) (t : Token) (s : Signature) → Holds n F (have_signature s) → Where (Holds (n + 1) (after t F)) (feed_signature n t s)
feed_signature-holds n F t s w =
    if_mark (Holds (n + 1) (after t F)) sign.OpenBrace t _ _ (λ is. step t (mark sign.OpenBrace) _ is tt w)
    (either (Holds (n + 1) (after t F)) (takes_initialisers s.heading.kind) _ _
    (on_mark_holds (Holds (n + 1) (after t F)) sign.Colon t _ (λ is. restate (λ x. spell_signature s (separator s.initialisers ∷ x)) _ (λ x. ap (λ p. spell_signature s (p ∷ x)) (sym (no_separator s.initialisers w.fine))) tt (step t (mark sign.Colon) (Unit {0}) is tt w)))
    (either (Holds (n + 1) (after t F)) (may_end s.heading.kind) _ _
    (on_mark_holds (Holds (n + 1) (after t F)) sign.Semicolon t _ (λ is. function_holds (n + 1) (after t F) s.in_full (function_from n None s) s.heading.holder s.heading.start (step t (mark sign.Semicolon) (Unit {0}) is tt w) refl)) tt))

pub feed_initialiser-holds : (n : ℕ) (F : Fits) (t : Token) (s : Signature) → Holds n F (have_initialiser s) → Where (Holds (n + 1) (after t F)) (feed_initialiser t s)
feed_initialiser-holds n F t s w =
    if_mark (Holds (n + 1) (after t F)) sign.Comma t _ _ (λ is. restate (λ x. spell_signature s (separator s.initialisers ∷ x)) _ (λ x. ap (λ p. spell_signature s (p ∷ x)) (sym (some_separator s.initialisers w.fine))) tt (step t (mark sign.Comma) (Unit {0}) is tt w))
    (on_mark_holds (Holds (n + 1) (after t F)) sign.OpenBrace t _ (λ is. step t (mark sign.OpenBrace) _ is tt w))

pub feed_params_open-holds : (n : ℕ) (F : Fits) (t : Token) (h : Heading) → Holds n F (after_params_open h) → Where (Holds (n + 1) (after t F)) (feed_params_open t h)
feed_params_open-holds n F t h w = if_mark (Holds (n + 1) (after t F)) sign.CloseParen t _ _ (λ is. step t (mark sign.CloseParen) _ is tt w) (begin_param-holds n F t [] h w)

pub feed_params-holds : (n : ℕ) (F : Fits) (t : Token) (ps : List Param) (h : Heading) → Holds n F (after_params ps h) → Where (Holds (n + 1) (after t F)) (feed_params n t ps h)
feed_params-holds n F t ps h w =
    if_word (Holds (n + 1) (after t F)) keyword.Throw t _ _ (λ is. λ u i. step u (mark sign.OpenParen) _ i tt (step t (word keyword.Throw) (Unit {0}) is tt w))
    (if_name (Holds (n + 1) (after t F)) (codes "noexcept") t _ _ (λ is. step t (placed (kind.Name (codes "noexcept")) t.place) (Unit {0}) (placed_is t (kind.Name (codes "noexcept")) is) tt w)
    (feed_signature-holds n F t (record { heading = h; parameters = ps; specification = None; in_full = false; initialisers = [] }) (restate _ _ (λ x. refl) refl w)))

pub feed_noexcept-holds : (n : ℕ) (F : Fits) (t : Token) (place : ℕ) (ps : List Param) (h : Heading) → Holds n F (after_noexcept place ps h) → Where (Holds (n + 1) (after t F)) (feed_noexcept n t place ps h)
feed_noexcept-holds n F t place ps h w =
    if_mark (Holds (n + 1) (after t F)) sign.OpenParen t _ _ (λ is. step t (mark sign.OpenParen) _ is tt w)
    (feed_signature-holds n F t (quiet place false true ps h) (restate _ _ (λ x. refl) refl w))

pub feed_noexcept_open-holds : (n : ℕ) (F : Fits) (t : Token) (place : ℕ) (ps : List Param) (h : Heading) → Holds n F (after_noexcept_open place ps h) → Where (Holds (n + 1) (after t F)) (feed_noexcept_open t place ps h)
feed_noexcept_open-holds n F t place ps h w =
    if_word (Holds (n + 1) (after t F)) keyword.True t _ _ (λ is. λ u i. step u (mark sign.CloseParen) _ i refl (step t (word keyword.True) (Unit {0}) is tt w))
    (if_word (Holds (n + 1) (after t F)) keyword.False t _ _ (λ is. λ u i. step u (mark sign.CloseParen) _ i refl (step t (word keyword.False) (Unit {0}) is tt w)) tt)

pub feed_throw_open-holds : (n : ℕ) (F : Fits) (t : Token) (ps : List Param) (h : Heading) → Holds n F (after_throw_open ps h) → Where (Holds (n + 1) (after t F)) (feed_throw_open t ps h)
feed_throw_open-holds n F t ps h w = if_mark (Holds (n + 1) (after t F)) sign.CloseParen t _ _ (λ is. step t (mark sign.CloseParen) _ is refl w) (begin_listed-holds n F t (of_specification [] ps h) tt w)

-- a name that must come
have_name-holds : (n : ℕ) (F : Fits) (t : Token) (m : Name) (N : InName) → Is t (named m) → Holds n F (want_name N) → Holds (n + 1) (after t F) (have_name m N)
have_name-holds n F t m (of_path names P) is w =
    restate _ _ (λ x. ap (before_path P) (path_last names m w.fine x)) (not_empty names m) (step t (named m) (Unit {0}) is tt w)
have_name-holds n F t m (of_std_operand place depth ps E) is w = λ u i. step u (mark sign.OpenParen) _ i tt (step t (named m) (Unit {0}) is tt w)
have_name-holds n F t m (of_std_statement place depth C) is w = λ u i. step u (mark sign.OpenParen) _ i tt (step t (named m) (Unit {0}) is tt w)
have_name-holds n F t m (of_referred p C) is w = step t (named m) _ is tt w
have_name-holds n F t m (of_int start h) is w = step t (named m) _ is tt w
have_name-holds n F t m (of_void start (of_program ds)) is w = λ u i. step u (mark sign.OpenParen) _ i tt (step t (named m) (Unit {0}) is tt w)
have_name-holds n F t m (of_void start (of_class c)) is w = λ u i. step u (mark sign.OpenParen) _ i tt (step t (named m) (Unit {0}) is tt w)
have_name-holds n F t m (of_destructor start c) is w = λ u i v j. step v (mark sign.CloseParen) _ j tt (step u (mark sign.OpenParen) (Unit {0}) i tt (step t (named m) (Unit {0}) is tt w))
have_name-holds n F t m (of_class_name ds) is w = record { front = w.front; matches = w.matches; said = λ ts x g. w.said (t ∷ ts) (named m ∷ x) (is, g) }
have_name-holds n F t m (of_base c ds) is w = λ u i. record {
  front = record { written = w.begun.front.written; is_public = w.is_public; members = [] };
  matches = (w.begun.matches.0, w.begun.matches.1, refl, refl, tt);
  said = λ ts x g. w.begun.said (t ∷ u ∷ ts) (named m ∷ mark sign.OpenBrace ∷ x) (is, (i, g));
}
have_name-holds n F t m (of_initialised s) is w = λ u i. step u (mark sign.OpenParen) _ i tt (step t (named m) (Unit {0}) is tt w)

pub feed_name-holds : (n : ℕ) (F : Fits) (t : Token) (N : InName) → Holds n F (want_name N) → Where (Holds (n + 1) (after t F)) (feed_name t N)
feed_name-holds n F t N w = on_name (Holds (n + 1) (after t F)) t (λ m. leads (have_name m N)) _ (λ m is. have_name-holds n F t m N is w) tt

-- a global ends
global_holds : (n : ℕ) (F : Fits) (m : Name) (v : Written) (ds : List Declaration) (start : ℕ) → AreCounted v → Within n F (record { holder = of_program ds; start = start; tilde = false }) (spell_declaration v) (Unit {0}) → AtHolder F (of_program (ds ++ (declared v ∷ [])))
global_holds n F m v ds start c w = declaration_more F ds w.outer.front v w.outer.matches c (λ ts x g. w.outer.carried ts (spell_declaration v x) (w.said ts x g))

-- a data member ends
member_holds : (n : ℕ) (F : Fits) (c : OpenClass) (start : ℕ) (p : Param) → Within n F (record { holder = of_class c; start = start; tilde = false }) (λ x. spell_members (data_member p ∷ []) x) (Unit {0}) → AtHolder F (of_class (with_member c p))
member_holds n F c start p w =
    let o = w.outer in
    record {
      front = record { written = o.front.written; is_public = o.front.is_public; members = o.front.members ++ (data_member p ∷ []) };
      matches = (
        o.matches.0,
        o.matches.1,
        members_of_data o.front.members p ∙ ap (λ ps. ps ++ (p ∷ [])) o.matches.2,
        functions_of_data o.front.members p ∙ o.matches.3,
        subst (Each IsCounted) (sym (functions_of_data o.front.members p)) o.matches.4,
      );
      said = λ ts x g.
          subst (λ y. F ts (before_holder (record { written = o.front.written; is_public = o.front.is_public; members = [] }) (of_class c) y))
          (data_last o.front.members p x) (o.carried ts (spell_members (data_member p ∷ []) x) (w.said ts x g));
    }

feed_variable-holds : (n : ℕ) (F : Fits) (t : Token) (m : Name) (start : ℕ) (h : Holder) → Holds n F (after_declared m start h) → Where (Holds (n + 1) (after t F)) (feed_variable t m h)
feed_variable-holds n F t m start (of_program ds) w =
    if_mark (Holds (n + 1) (after t F)) sign.Assign t _ _ (λ is. record { start = start; within = step t (mark sign.Assign) (Unit {0}) is tt w })
    (on_mark_holds (Holds (n + 1) (after t F)) sign.Semicolon t _ (λ is. global_holds (n + 1) (after t F) m (written_global m no_start) ds start tt (step t (mark sign.Semicolon) (Unit {0}) is tt w)))
feed_variable-holds n F t m start (of_class c) w =
    on_mark_holds (Holds (n + 1) (after t F)) sign.Semicolon t _ (λ is. member_holds (n + 1) (after t F) c start (record { ty = Int; name = Some m }) (step t (mark sign.Semicolon) (Unit {0}) is tt w))

open_holds : (n : ℕ) (F : Fits) (t : Token) (m : Name) (start : ℕ) (h : Holder) → t.kind ≡ kind.Mark sign.OpenParen → Holds n F (after_declared m start h) → Holds (n + 1) (after t F) (after_params_open (record { kind = kind_in h; result = Int; name = m; start = start; holder = h }))
open_holds n F t m start (of_program ds) is w = step t (mark sign.OpenParen) _ is tt w
open_holds n F t m start (of_class c) is w = step t (mark sign.OpenParen) _ is tt w

pub feed_declared-holds : (n : ℕ) (F : Fits) (t : Token) (m : Name) (start : ℕ) (h : Holder) → Holds n F (after_declared m start h) → Where (Holds (n + 1) (after t F)) (feed_declared t m start h)
feed_declared-holds n F t m start h w = if_mark (Holds (n + 1) (after t F)) sign.OpenParen t _ _ (λ is. open_holds n F t m start h is w) (feed_variable-holds n F t m start h w)

-- a token in the first value of a global
pub feed_minus-holds : (n : ℕ) (F : Fits) (t : Token) (m : Name) (ds : List Declaration) → Holds n F (after_minus m ds) → Where (Holds (n + 1) (after t F)) (feed_minus t m ds)
feed_minus-holds n F t m ds w =
    on_literal (Holds (n + 1) (after t F)) t (λ v. leads (have_value m (neg_ℤ v) ds)) _
    (λ v is l. λ u i. global_holds (n + 1 + 1) (after u (after t F)) m (written_global m (started true v)) ds w.start l (step u (mark sign.Semicolon) (Unit {0}) i tt (step t (anywhere (kind.Number v)) (Unit {0}) is tt w.within))) tt

pub feed_assign-holds : (n : ℕ) (F : Fits) (t : Token) (m : Name) (ds : List Declaration) → Holds n F (after_assign m ds) → Where (Holds (n + 1) (after t F)) (feed_assign t m ds)
feed_assign-holds n F t m ds w =
    if_mark (Holds (n + 1) (after t F)) sign.Minus t _ _ (λ is. record { start = w.start; within = step t (mark sign.Minus) (Unit {0}) is tt w.within })
    (on_literal (Holds (n + 1) (after t F)) t (λ v. leads (have_value m v ds)) _
    (λ v is l. λ u i. global_holds (n + 1 + 1) (after u (after t F)) m (written_global m (started false v)) ds w.start l (step u (mark sign.Semicolon) (Unit {0}) i tt (step t (anywhere (kind.Number v)) (Unit {0}) is tt w.within))) tt)

-- a token before the members of a class
pub feed_class_name-holds : (n : ℕ) (F : Fits) (t : Token) (m : Name) (ds : List Declaration) → Holds n F (after_class_name m ds) → Where (Holds (n + 1) (after t F)) (feed_class_name t m ds)
feed_class_name-holds n F t m ds w =
    if_mark (Holds (n + 1) (after t F)) sign.Colon t _ _ (λ is. record { front = w.front; matches = w.matches; said = λ ts x g. w.said (t ∷ ts) (mark sign.Colon ∷ x) (is, g) })
    (on_mark_holds (Holds (n + 1) (after t F)) sign.OpenBrace t _ (λ is. record {
      front = record { written = w.front.written; is_public = false; members = [] };
      matches = (w.matches.0, w.matches.1, refl, refl, tt);
      said = λ ts x g. w.said (t ∷ ts) (mark sign.OpenBrace ∷ x) (is, g);
    }))

pub feed_class_colon-holds : (n : ℕ) (F : Fits) (t : Token) (m : Name) (ds : List Declaration) → Holds n F (after_class_colon m ds) → Where (Holds (n + 1) (after t F)) (feed_class_colon t m ds)
feed_class_colon-holds n F t m ds w =
    if_word (Holds (n + 1) (after t F)) keyword.Public t _ _
    (λ is. record { is_public = true; begun = record { front = w.front; matches = w.matches; said = λ ts x g. w.said (t ∷ ts) (word keyword.Public ∷ x) (is, g) } })
    (feed_name-holds n F t (of_base m ds) (record { is_public = false; begun = record { front = w.front; matches = w.matches; said = w.said } }))

-- a token among the members of a class
pub feed_member_name-holds : (n : ℕ) (F : Fits) (t : Token) (m : Name) (start : ℕ) (c : OpenClass) → Holds n F (after_member_name m start c) → Where (Holds (n + 1) (after t F)) (feed_member_name t m start c)
feed_member_name-holds n F t m start c w =
    if_mark (Holds (n + 1) (after t F)) sign.OpenParen t _ _ (λ is. step t (mark sign.OpenParen) _ is tt w)
    (on_name (Holds (n + 1) (after t F)) t (λ o. unless (is_bad_exception m) (leads (expect (kind.Mark sign.Semicolon) (in_class (with_member c (record { ty = Object m; name = Some o })))))) _ (λ o is. go (is_bad_exception m) refl o is) tt)
  where
    go : (b : Bool) → is_bad_exception m ≡ b → (o : Name) → Is t (named o) → Where (Holds (n + 1) (after t F)) (unless b (leads (expect (kind.Mark sign.Semicolon) (in_class (with_member c (record { ty = Object m; name = Some o }))))))
    go true e o is = tt
    go false e o is = λ u i. member_holds (n + 1 + 1) (after u (after t F)) c start (record { ty = Object m; name = Some o })
        (restate (λ x. spell_members (data_member (record { ty = Object m; name = Some o }) ∷ []) x) (Unit {0}) (λ x. plain_class m e (named o ∷ mark sign.Semicolon ∷ x)) tt (step u (mark sign.Semicolon) (Unit {0}) i tt (step t (named o) (Unit {0}) is tt w)))

pub begin_member-holds : (n : ℕ) (F : Fits) (t : Token) (c : OpenClass) → Holds n F (want_member c) → Where (Holds (n + 1) (after t F)) (begin_member n t c)
begin_member-holds n F t c w =
    if_word (Holds (n + 1) (after t F)) keyword.Int t _ _ (λ is. begins n F t (word keyword.Int) (of_class c) tt is w)
    (if_word (Holds (n + 1) (after t F)) keyword.Void t _ _ (λ is. begins n F t (word keyword.Void) (of_class c) tt is w)
    (if_mark (Holds (n + 1) (after t F)) sign.Tilde t _ _ (λ is. tilde_begins n F t c is w)
    (on_name (Holds (n + 1) (after t F)) t (λ m. leads (after_member_name m n c)) _ (λ m is. begins n F t (named m) (of_class c) tt is w) tt)))

pub feed_member-holds : (n : ℕ) (F : Fits) (t : Token) (c : OpenClass) → Holds n F (in_class c) → Where (Holds (n + 1) (after t F)) (feed_member n t c)
feed_member-holds n F t c w =
    if_mark (Holds (n + 1) (after t F)) sign.CloseBrace t _ _ (λ is. λ u i.
    let v = written_class c.name w.front.is_public c.base w.front.members in
    let same : declared v ≡ closed_class c =
    ap (λ ps. class_declaration (record { name = c.name; base = c.base; members = ps; functions = functions w.front.members })) w.matches.2
    ∙ ap (λ fs. class_declaration (record { name = c.name; base = c.base; members = c.members; functions = fs })) w.matches.3 in
    subst (λ d. AtHolder (after u (after t F)) (of_program (c.before ++ (d ∷ [])))) same
    (declaration_more (after u (after t F)) c.before w.front v (w.matches.0, w.matches.1) w.matches.4 (λ ts x g. w.said (t ∷ u ∷ ts) (mark sign.CloseBrace ∷ mark sign.Semicolon ∷ x) (is, (i, g)))))
    (begin_member-holds n F t c w)

-- the first token of a declaration
pub begin_declaration-holds : (n : ℕ) (F : Fits) (t : Token) (ds : List Declaration) → Holds n F (want_declaration ds) → Where (Holds (n + 1) (after t F)) (begin_declaration n t ds)
begin_declaration-holds n F t ds w =
    if_word (Holds (n + 1) (after t F)) keyword.Struct t _ _ (λ is. record { front = w.front; matches = w.matches; said = λ ts x g. w.said (t ∷ ts) (word keyword.Struct ∷ x) (is, g) })
    (if_word (Holds (n + 1) (after t F)) keyword.Int t _ _ (λ is. begins n F t (word keyword.Int) (of_program ds) refl is w)
    (if_word (Holds (n + 1) (after t F)) keyword.Void t _ _ (λ is. begins n F t (word keyword.Void) (of_program ds) refl is w) tt))
