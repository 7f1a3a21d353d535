-- What a state says of the tokens that led to it.
use Rattle.std.specs.Prelude.{ℕ, ◌+◌, ◌≡◌, Bool, true, false, codes, List, [], ◌∷◌, length, map}
use Rattle.cxx_ast.specs.declared.token.TokenKind.TheVariants as kind
use Rattle.cxx_ast.specs.declared.keyword.Keyword.TheVariants as keyword
use Rattle.cxx_ast.specs.declared.mark.Mark.TheVariants as sign
use Rattle.cxx_ast.specs.declared.name.Name.{Name}
use Rattle.cxx_ast.specs.declared.token.Token.{Token}
use Rattle.cxx_ast.specs.declared.types.Ty.{Ty}
use Rattle.cxx_ast.specs.declared.types.Ty.TheVariants.{Int}
use Rattle.cxx_ast.specs.Grammatical.{Each, NotEmpty, IsListedType}
use Rattle.cxx_ast.specs.Piece.{placed, Piece, Fit, named, word, mark, word_at}
use Rattle.cxx_ast.specs.Plain.{Expression, Declaration}
use Rattle.cxx_ast.specs.Spelling.{Spelling, spell_type, spell_param, spell_path, spell_expression, spell_arguments, spell_statement, spell_statements, first_at}
use Rattle.cxx_ast.specs.Written.{Member, Written, data_members, functions, declared, spell_params, spell_types, spell_base, spell_public, spell_members, spell_declarations}
use Rattle.cxx_parser.specs.Contexts.{Holder, of_program, of_class, InCall, of_object, InListed, of_specification, of_caught, of_const_caught, InName, of_path, of_std_operand, of_std_statement, of_referred, of_int, of_void, of_destructor, of_class_name, of_base, of_initialised}
use Rattle.cxx_parser.specs.States.{State, expect, want_name, want_operand, have_operand, have_expression, after_path, have_path, after_open, have_argument, after_const, after_value_type, have_type, want_listed, have_listed, have_types, want_caught, have_caught, want_statement, want_simple, want_plain, want_named, in_statements, have_statement, after_jump, after_first_name, after_only_name, after_int, after_int_name, after_object_name, after_handler, after_params_open, want_param, have_param, after_params, after_throw_open, after_noexcept, after_noexcept_open, have_signature, have_initialiser, after_declared, after_class_name, after_class_colon, in_class, want_member, after_member_name, after_assign, after_minus, want_declaration}
use Rattle.cxx_parser.proofs.Spelled.{IsCounted, AreCounted}
use Rattle.cxx_parser.specs.Stored.{expressions_from, statements_from}
use Rattle.cxx_parser.proofs.Before.{spell_heading, spell_signature, separator, spell_given_params, before_statement, before_block, before_try, before_jump, pending, before_expression, before_call, before_path, before_type, before_listed, Site, site_of, statement_heading, block_heading, try_heading, jump_heading, expression_heading, call_heading, path_heading, type_heading, listed_heading}

-- which pieces fit the tokens so far with others behind them
abbrev pub Fits : Type 1
Fits = List Token → List Piece → Type 0

-- the same with a token more
abbrev pub after : Token → Fits → Fits
after t F ts x = F (t ∷ ts) x

-- the tokens so far spell what stands before others
abbrev pub Said : Fits → Spelling → Type 0
Said F P = (ts : List Token) (x : List Piece) → Fit ts x → F ts (P x)

-- declarations and members as they were written
pub record Front : Type 0 where
  pub written : List Written
  pub is_public : Bool
  pub members : List Member

-- what stands before a declaration or a member
abbrev pub before_holder : Front → Holder → Spelling
before_holder w (of_program ds) x = spell_declarations w.written x
before_holder w (of_class c) x = spell_declarations w.written (word keyword.Struct ∷ named c.name ∷ spell_base w.is_public c.base (mark sign.OpenBrace ∷ spell_members w.members x))

-- they are those that were read
abbrev pub Matches : Front → Holder → Type 0
Matches w (of_program ds) = (map declared w.written ≡ ds) × Each AreCounted w.written
Matches w (of_class c) = (map declared w.written ≡ c.before) × Each AreCounted w.written × (data_members w.members ≡ c.members) × (functions w.members ≡ c.functions) × Each IsCounted (functions w.members)

-- a declaration or a member may begin
pub record AtHolder (F : Fits) (holder : Holder) : Type 1 where
  pub front : Front
  pub matches : Matches front holder
  pub said : Said F (before_holder front holder)

-- a class began, of which so much was read
pub record ClassBegins (F : Fits) (ds : List Declaration) (P : Spelling) : Type 1 where
  pub front : Front
  pub matches : Matches front (of_program ds)
  pub said : Said F (λ x. spell_declarations front.written (P x))

-- its base began
pub record BaseBegins (F : Fits) (n : Name) (ds : List Declaration) : Type 1 where
  pub is_public : Bool
  pub begun : ClassBegins F ds (λ x. word keyword.Struct ∷ named n ∷ mark sign.Colon ∷ spell_public is_public x)

-- `~` stands in a class alone
abbrev pub MayTilde : Holder → Bool → Type 0
MayTilde (of_program ds) tilde = tilde ≡ false
MayTilde (of_class c) tilde = Unit {0}

-- `~`, or nothing
abbrev pub tilded : Bool → Spelling
tilded true x = mark sign.Tilde ∷ x
tilded false x = x

-- a function or a global began behind what is written before it; `n` is the number of tokens so far
pub record Outer (n : ℕ) (F G : Fits) (site : Site) : Type 0 where
  pub front : Front
  pub matches : Matches front site.holder
  pub may_tilde : MayTilde site.holder site.tilde
  pub carried : (ts : List Token) (x : List Piece) → G ts x → F ts (before_holder front site.holder (tilded site.tilde x))
  pub counted : (ts : List Token) (x : List Piece) → G ts x → length x + site.start ≡ n + length ts

-- the pieces before what a state waits for, from its function's or global's first on
abbrev pub before_name : InName → Spelling
before_name (of_path names P) x = before_path P (spell_path names (mark sign.Dot ∷ x))
before_name (of_std_operand place d ps E) x = before_expression E (pending ps (word_at keyword.Std place ∷ mark sign.ColonColon ∷ x))
before_name (of_std_statement place d C) x = before_statement C (word_at keyword.Std place ∷ mark sign.ColonColon ∷ x)
before_name (of_referred p C) x = before_statement C (spell_param p (mark sign.Assign ∷ x))
before_name (of_int start h) x = word keyword.Int ∷ x
before_name (of_void start h) x = word keyword.Void ∷ x
before_name (of_destructor start c) x = x
before_name (of_class_name ds) x = x
before_name (of_base n ds) x = x
before_name (of_initialised s) x = spell_signature s (separator s.initialisers ∷ x)

abbrev pub name_site : InName → Site
name_site (of_path names P) = site_of (path_heading P)
name_site (of_std_operand place d ps E) = site_of (expression_heading E)
name_site (of_std_statement place d C) = site_of (statement_heading C)
name_site (of_referred p C) = site_of (statement_heading C)
name_site (of_int start h) = record { holder = h; start = start; tilde = false }
name_site (of_void start h) = record { holder = h; start = start; tilde = false }
name_site (of_destructor start c) = record { holder = of_class c; start = start; tilde = true }
name_site (of_class_name ds) = record { holder = of_program ds; start = 0; tilde = false }
name_site (of_base n ds) = record { holder = of_program ds; start = 0; tilde = false }
name_site (of_initialised s) = site_of s.heading

-- what the names of a path need
abbrev pub FineName : InName → Type 0
FineName (of_path names P) = NotEmpty names
FineName _ = Unit {0}

-- a type is awaited behind a token that belongs to it: a handler's type without `const` begins what it catches
abbrev pub IsAwaited : InListed → Type 0
IsAwaited (of_caught place T) = ⊥
IsAwaited _ = Unit {0}

-- arguments may end here: an object has some in its parentheses
abbrev pub IsReady : List Expression → InCall → Type 0
IsReady es (of_object c n C) = NotEmpty es
IsReady es _ = Unit {0}

-- in a function or a global
pub record Within (n : ℕ) (F : Fits) (site : Site) (P : Spelling) (Fine : Type 0) : Type 1 where
  pub own : Fits
  pub outer : Outer n F own site
  pub said : Said own P
  pub fine : Fine

-- a global began
pub record GlobalBegins (n : ℕ) (F : Fits) (ds : List Declaration) (P : Spelling) : Type 1 where
  pub start : ℕ
  pub within : Within n F (record { holder = of_program ds; start = start; tilde = false }) P (Unit {0})

-- what a listed type was read behind
abbrev pub before_listed_type : InListed → Ty → Spelling
before_listed_type (of_specification tys ps h) ty x = before_listed (of_specification tys ps h) (spell_type ty x)
before_listed_type (of_caught place T) ty x = before_listed (of_caught place T) (first_at place (spell_type ty x))
before_listed_type (of_const_caught place T) ty x = before_listed (of_const_caught place T) (spell_type ty x)

-- a state holds of the tokens so far, of which there are `n`
abbrev pub Holds : ℕ → Fits → State → Type 1
Holds n F (expect k s) = (t : Token) → t.kind ≡ k → Holds (n + 1) (after t F) s
Holds n F (want_name (of_class_name ds)) = ClassBegins F ds (λ x. word keyword.Struct ∷ x)
Holds n F (want_name (of_base c ds)) = BaseBegins F c ds
Holds n F (want_name N) = Within n F (name_site N) (before_name N) (FineName N)
Holds n F (want_operand d ps E) = Within n F (site_of (expression_heading E)) (λ x. before_expression E (pending ps x)) (Unit {0})
Holds n F (have_operand d e ps E) = Within n F (site_of (expression_heading E)) (λ x. before_expression E (pending ps (spell_expression e x))) (Unit {0})
Holds n F (have_expression e E) = Within n F (site_of (expression_heading E)) (λ x. before_expression E (spell_expression e x)) (Unit {0})
Holds n F (after_path names P) = Within n F (site_of (path_heading P)) (λ x. before_path P (spell_path names x)) (NotEmpty names)
Holds n F (have_path names P) = Within n F (site_of (path_heading P)) (λ x. before_path P (spell_path names x)) (NotEmpty names)
Holds n F (after_open d K) = Within n F (site_of (call_heading K)) (before_call K) (IsReady [] K)
Holds n F (have_argument d es K) = Within n F (site_of (call_heading K)) (λ x. before_call K (spell_arguments (expressions_from es) x)) (NotEmpty es)
Holds n F (after_const W) = Within n F (site_of (type_heading W)) (λ x. before_type W (word keyword.Const ∷ x)) (Unit {0})
Holds n F (after_value_type ty W) = Within n F (site_of (type_heading W)) (λ x. before_type W (spell_type ty x)) (ty ≡ Int)
Holds n F (have_type ty W) = Within n F (site_of (type_heading W)) (λ x. before_type W (spell_type ty x)) (Unit {0})
Holds n F (want_listed L) = Within n F (site_of (listed_heading L)) (before_listed L) (IsAwaited L)
Holds n F (have_listed ty L) = Within n F (site_of (listed_heading L)) (before_listed_type L ty) (IsListedType ty)
Holds n F (have_types tys ps h) = Within n F (site_of h) (λ x. spell_heading h (spell_params ps (mark sign.CloseParen ∷ word keyword.Throw ∷ mark sign.OpenParen ∷ spell_types tys x))) (NotEmpty tys)
Holds n F (want_caught T) = Within n F (site_of (try_heading T)) (λ x. before_try T (word keyword.Catch ∷ mark sign.OpenParen ∷ x)) (Unit {0})
Holds n F (have_caught ty place T) = Within n F (site_of (try_heading T)) (λ x. before_try T (word keyword.Catch ∷ mark sign.OpenParen ∷ first_at place (spell_type ty x))) (Unit {0})
Holds n F (want_statement d C) = Within n F (site_of (statement_heading C)) (before_statement C) (Unit {0})
Holds n F (want_simple d C) = Within n F (site_of (statement_heading C)) (before_statement C) (Unit {0})
Holds n F (want_plain d C) = Within n F (site_of (statement_heading C)) (before_statement C) (Unit {0})
Holds n F (want_named d C) = Within n F (site_of (statement_heading C)) (before_statement C) (Unit {0})
Holds n F (in_statements d ss B) = Within n F (site_of (block_heading B)) (λ x. before_block B (spell_statements (statements_from ss) x)) (Unit {0})
Holds n F (have_statement s C) = Within n F (site_of (statement_heading C)) (λ x. before_statement C (spell_statement s x)) (Unit {0})
Holds n F (after_jump d J) = Within n F (site_of (jump_heading J)) (before_jump J) (Unit {0})
Holds n F (after_first_name m d C) = Within n F (site_of (statement_heading C)) (λ x. before_statement C (named m ∷ x)) (Unit {0})
Holds n F (after_only_name m d C) = Within n F (site_of (statement_heading C)) (λ x. before_statement C (named m ∷ x)) (Unit {0})
Holds n F (after_int d C) = Within n F (site_of (statement_heading C)) (λ x. before_statement C (word keyword.Int ∷ x)) (Unit {0})
Holds n F (after_int_name m d C) = Within n F (site_of (statement_heading C)) (λ x. before_statement C (word keyword.Int ∷ named m ∷ x)) (Unit {0})
Holds n F (after_object_name c m d C) = Within n F (site_of (statement_heading C)) (λ x. before_statement C (named c ∷ named m ∷ x)) (Unit {0})
Holds n F (after_handler T) = Within n F (site_of (try_heading T)) (before_try T) (Unit {0})
Holds n F (after_params_open h) = Within n F (site_of h) (spell_heading h) (Unit {0})
Holds n F (want_param ps h) = Within n F (site_of h) (λ x. spell_heading h (spell_given_params ps x)) (Unit {0})
Holds n F (have_param ps h) = Within n F (site_of h) (λ x. spell_heading h (spell_params ps x)) (NotEmpty ps)
Holds n F (after_params ps h) = Within n F (site_of h) (λ x. spell_heading h (spell_params ps (mark sign.CloseParen ∷ x))) (Unit {0})
Holds n F (after_throw_open ps h) = Within n F (site_of h) (λ x. spell_heading h (spell_params ps (mark sign.CloseParen ∷ word keyword.Throw ∷ mark sign.OpenParen ∷ x))) (Unit {0})
Holds n F (after_noexcept place ps h) = Within n F (site_of h) (λ x. spell_heading h (spell_params ps (mark sign.CloseParen ∷ placed (kind.Name (codes "noexcept")) place ∷ x))) (Unit {0})
Holds n F (after_noexcept_open place ps h) = Within n F (site_of h) (λ x. spell_heading h (spell_params ps (mark sign.CloseParen ∷ placed (kind.Name (codes "noexcept")) place ∷ mark sign.OpenParen ∷ x))) (Unit {0})
Holds n F (have_signature s) = Within n F (site_of s.heading) (spell_signature s) (s.initialisers ≡ [])
Holds n F (have_initialiser s) = Within n F (site_of s.heading) (spell_signature s) (NotEmpty s.initialisers)
Holds n F (after_declared m start h) = Within n F (record { holder = h; start = start; tilde = false }) (λ x. word keyword.Int ∷ named m ∷ x) (Unit {0})
Holds n F (after_member_name m start c) = Within n F (record { holder = of_class c; start = start; tilde = false }) (λ x. named m ∷ x) (Unit {0})
Holds n F (after_assign m ds) = GlobalBegins n F ds (λ x. word keyword.Int ∷ named m ∷ mark sign.Assign ∷ x)
Holds n F (after_minus m ds) = GlobalBegins n F ds (λ x. word keyword.Int ∷ named m ∷ mark sign.Assign ∷ mark sign.Minus ∷ x)
Holds n F (after_class_name m ds) = ClassBegins F ds (λ x. word keyword.Struct ∷ named m ∷ x)
Holds n F (after_class_colon m ds) = ClassBegins F ds (λ x. word keyword.Struct ∷ named m ∷ mark sign.Colon ∷ x)
Holds n F (in_class c) = AtHolder F (of_class c)
Holds n F (want_member c) = AtHolder F (of_class c)
Holds n F (want_declaration ds) = AtHolder F (of_program ds)
