-- What is read of functions, classes and declarations is grammatical and not too deep, with a token more.
use Rattle.cxx_ast.specs.Plain.{listed}
use Rattle.std.specs.Prelude.{ℕ, ◌+◌, ◌≡◌, ◌≤◌, ◌⊎◌, ℤ, neg_ℤ, Bool, true, false, codes, List, [], ◌∷◌, ◌++◌, Some, None, refl, if◌then◌else◌}
use Rattle.std.proofs.Common.{inl, inr, ap, sym, ◌∙◌, subst, arith}
use Rattle.cxx_ast.specs.declared.declaration.FuncKind.{FuncKind}
use Rattle.cxx_ast.specs.declared.declaration.FuncKind.TheVariants.{Plain, Method, Constructor, Destructor}
use Rattle.cxx_ast.specs.declared.keyword.Keyword.TheVariants as keyword
use Rattle.cxx_ast.specs.declared.mark.Mark.TheVariants as sign
use Rattle.cxx_ast.specs.declared.name.Name.{Name}
use Rattle.cxx_ast.specs.declared.token.Token.{Token}
use Rattle.cxx_ast.specs.declared.token.TokenKind.TheVariants as kind
use Rattle.cxx_ast.specs.declared.types.Ty.{Ty}
use Rattle.cxx_ast.specs.declared.types.Ty.TheVariants.{Int, Void, Object}
use Rattle.cxx_ast.specs.declared.types.Param.{Param}
use Rattle.cxx_ast.specs.Depth.{below_initialisers}
use Rattle.cxx_ast.specs.Grammatical.{Each, There, IsResult, HasForm, IsInitialiser, IsDataMember}
use Rattle.cxx_ast.specs.Plain.{Statement, Initialiser, Function, Declaration, function_declaration, global_declaration}
use Rattle.cxx_ast.specs.Spelling.{is_bad_exception}
use Rattle.cxx_parser.specs.Classes.{kind_in, with_member, closed_class, have_name, feed_name, feed_variable, feed_declared, have_value, feed_minus, feed_assign, feed_class_name, feed_class_colon, feed_member_name, begin_member, feed_member, begin_declaration}
use Rattle.cxx_parser.specs.Contexts.{OpenClass, Holder, of_program, of_class, Heading, Signature, of_specification, InName, of_path, of_std_operand, of_std_statement, of_referred, of_int, of_void, of_destructor, of_class_name, of_base, of_initialised}
use Rattle.cxx_parser.specs.Expressions.{on_mark}
use Rattle.cxx_parser.specs.Functions.{function_from, may_end, takes_initialisers, have_function, have_body, feed_signature, feed_initialiser, feed_params_open, feed_params, quiet, feed_noexcept, feed_noexcept_open, feed_throw_open}
use Rattle.cxx_parser.specs.Signs.{is_mark, is_name, is_word, name_of}
use Rattle.cxx_parser.specs.States.{expect, after_params_open, after_params, after_throw_open, after_noexcept, after_noexcept_open, have_signature, have_initialiser, after_declared, after_class_name, after_class_colon, in_class, after_member_name, after_assign, after_minus, want_declaration, want_name, stops, leads, unless}
use Rattle.cxx_parser.specs.Stored.{statements_from}
use Rattle.cxx_parser.proofs.Sound.{StatementAt, HasBeginning, BelongsTo, IsSoundFunction, IsSoundMember, IsSoundDeclaration, SoundHolder, InitialiserFits, HasParts, SoundSignature, SoundParams, Sound}
use Rattle.cxx_parser.proofs.SoundExpressions.{each_last}
use Rattle.cxx_parser.proofs.SoundStatements.{statements_fit, some_last}
use Rattle.cxx_parser.proofs.SoundSteps.{Wherever, on_mark_sound, if_sound, on_name_sound, on_literal_sound}
use Rattle.cxx_parser.proofs.SoundTypes.{parts_of, begin_param-sound, begin_listed-sound}

-- initialisers at their depth
initialisers_fit : (limit : ℕ) → 2 ≤ limit → (is : List Initialiser) → Each (InitialiserFits limit) is → Each IsInitialiser is × (2 + below_initialisers is ≤ limit + 1)
initialisers_fit limit big [] h = (tt, omega arith)
initialisers_fit limit big (i ∷ is) h = let r = initialisers_fit limit big is h.1 in ((h.0.0, r.0), omega (arith, h.0.1, r.1))

-- a function that was read has the form of its kind
form_of : (k : FuncKind) (f : Function) (s : Signature) → f.result ≡ s.heading.result → f.initialisers ≡ s.initialisers → f.parameters ≡ s.parameters → HasBeginning k s.heading → HasParts k s → (k ≡ Plain ⊎ There f.body) → HasForm k f
form_of Plain f s r i p b h t = (subst IsResult (sym r) b, i ∙ h)
form_of Method f s r i p b h (inl e) = cc
form_of Method f s r i p b h (inr t) = (subst IsResult (sym r) b, i ∙ h, t)
form_of Constructor f s r i p b h (inl e) = cc
form_of Constructor f s r i p b h (inr t) = (r ∙ b, t)
form_of Destructor f s r i p b h (inl e) = cc
form_of Destructor f s r i p b h (inr t) = (r ∙ b, i ∙ h.0, p ∙ h.1, t)

-- a function ends
function_sound : (limit : ℕ) → (f : Function) (H : Holder) → IsSoundFunction limit f → BelongsTo f.kind H → SoundHolder limit H → Sound limit (have_function f H)
function_sound limit f (of_program ds) s b h = each_last (IsSoundDeclaration limit) ds (function_declaration f) h (s, b)
function_sound limit f (of_class c) s b h = (h.0, each_last (IsSoundMember limit) c.functions f h.1 (s, b), h.2)

pub body_sound : (limit : ℕ) → 2 ≤ limit → (n : ℕ) (ss : List Statement) (s : Signature) → Each (StatementAt limit 3) ss → SoundSignature limit s → Sound limit (have_body n (statements_from ss) s)
body_sound limit big n ss s h g =
    let r = statements_fit limit ss 3 h in
    let i = initialisers_fit limit big s.initialisers g.initialisers in
    function_sound limit (function_from n (Some (statements_from ss)) s) s.heading.holder
    (record {
      form = form_of s.heading.kind (function_from n (Some (statements_from ss)) s) s refl refl refl g.heading.0 g.parts (inr tt);
      parameters = g.parameters;
      specification = g.specification;
      initialisers = i.0;
      body = r.0;
      shallow = omega (arith, r.1, i.1);
    }) g.heading.1 g.heading.2

plain_ends : (k : FuncKind) → may_end k ≡ true → k ≡ Plain
plain_ends Plain e = refl
plain_ends Method e = cc
plain_ends Constructor e = cc
plain_ends Destructor e = cc

constructor_takes : (k : FuncKind) → takes_initialisers k ≡ true → k ≡ Constructor
constructor_takes Constructor e = refl
constructor_takes Plain e = cc
constructor_takes Method e = cc
constructor_takes Destructor e = cc

-- a token behind what stands before a body
end_sound : (limit : ℕ) → 2 ≤ limit → (n : ℕ) (s : Signature) → may_end s.heading.kind ≡ true → SoundSignature limit s → Sound limit (have_function (function_from n None s) s.heading.holder)
end_sound limit big n s m g =
    let i = initialisers_fit limit big s.initialisers g.initialisers in
    function_sound limit (function_from n None s) s.heading.holder
    (record {
      form = form_of s.heading.kind (function_from n None s) s refl refl refl g.heading.0 g.parts (inl (plain_ends s.heading.kind m));
      parameters = g.parameters;
      specification = g.specification;
      initialisers = i.0;
      body = tt;
      shallow = omega (arith, i.1);
    }) g.heading.1 g.heading.2

pub feed_signature-sound : (limit : ℕ) → 2 ≤ limit → (n : ℕ) (t : Token) (s : Signature) → Sound limit (have_signature s) → Wherever limit (Sound limit) (feed_signature n t s)
feed_signature-sound limit big n t s g =
    if_sound limit (Sound limit) (is_mark sign.OpenBrace t.kind) _ _ (refl, tt, g.0) (go (takes_initialisers s.heading.kind) refl (may (may_end s.heading.kind) refl))
  where
    may : (b : Bool) → may_end s.heading.kind ≡ b → Wherever limit (Sound limit) (if b then on_mark (is_mark sign.Semicolon t.kind) (have_function (function_from n None s) s.heading.holder) else stops)
    may true e = on_mark_sound limit (Sound limit) (is_mark sign.Semicolon t.kind) _ (end_sound limit big n s e g.0)
    may false e = tt

    go : (b : Bool) → takes_initialisers s.heading.kind ≡ b → Wherever limit (Sound limit) (if may_end s.heading.kind then on_mark (is_mark sign.Semicolon t.kind) (have_function (function_from n None s) s.heading.holder) else stops) → Wherever limit (Sound limit) (if b then on_mark (is_mark sign.Colon t.kind) (want_name (of_initialised s)) else (if may_end s.heading.kind then on_mark (is_mark sign.Semicolon t.kind) (have_function (function_from n None s) s.heading.holder) else stops))
    go true e r = on_mark_sound limit (Sound limit) (is_mark sign.Colon t.kind) _ (g.0, constructor_takes s.heading.kind e)
    go false e r = r

pub feed_initialiser-sound : (limit : ℕ) → (t : Token) (s : Signature) → Sound limit (have_initialiser s) → Wherever limit (Sound limit) (feed_initialiser t s)
feed_initialiser-sound limit t s g = if_sound limit (Sound limit) (is_mark sign.Comma t.kind) _ _ g (on_mark_sound limit (Sound limit) (is_mark sign.OpenBrace t.kind) _ (refl, tt, g.0))

pub feed_params_open-sound : (limit : ℕ) → (t : Token) (h : Heading) → Sound limit (after_params_open h) → Wherever limit (Sound limit) (feed_params_open t h)
feed_params_open-sound limit t h s = if_sound limit (Sound limit) (is_mark sign.CloseParen t.kind) _ _ (tt, s.0, λ d. refl) (begin_param-sound limit t [] h (tt, s.0, s.1))

plain_signature : (limit : ℕ) → (ps : List Param) (h : Heading) → SoundParams limit ps h → Sound limit (have_signature (record { heading = h; parameters = ps; specification = None; in_full = false; initialisers = [] }))
plain_signature limit ps h s =
    (record { heading = s.1; parameters = s.0; specification = tt; initialisers = tt; parts = parts_of h.kind (record { heading = h; parameters = ps; specification = None; in_full = false; initialisers = [] }) refl s.2 }, refl)

pub feed_params-sound : (limit : ℕ) → 2 ≤ limit → (n : ℕ) (t : Token) (ps : List Param) (h : Heading) → Sound limit (after_params ps h) → Wherever limit (Sound limit) (feed_params n t ps h)
feed_params-sound limit big n t ps h s =
    if_sound limit (Sound limit) (is_word keyword.Throw t.kind) _ _ (refl, s) (if_sound limit (Sound limit) (is_name (codes "noexcept") t.kind) _ _ s
    (feed_signature-sound limit big n t (record { heading = h; parameters = ps; specification = None; in_full = false; initialisers = [] }) (plain_signature limit ps h s)))

quiet_signature : (limit place : ℕ) (b is_true : Bool) (ps : List Param) (h : Heading) → SoundParams limit ps h → Sound limit (have_signature (quiet place b is_true ps h))
quiet_signature limit place b is_true ps h s =
    (record { heading = s.1; parameters = s.0; specification = tt; initialisers = tt; parts = parts_of h.kind (quiet place b is_true ps h) refl s.2 }, refl)

pub feed_noexcept-sound : (limit : ℕ) → 2 ≤ limit → (n : ℕ) (t : Token) (place : ℕ) (ps : List Param) (h : Heading) → Sound limit (after_noexcept place ps h) → Wherever limit (Sound limit) (feed_noexcept n t place ps h)
feed_noexcept-sound limit big n t place ps h s =
    if_sound limit (Sound limit) (is_mark sign.OpenParen t.kind) _ _ s (feed_signature-sound limit big n t (quiet place false true ps h) (quiet_signature limit place false true ps h s))

pub feed_noexcept_open-sound : (limit : ℕ) → (t : Token) (place : ℕ) (ps : List Param) (h : Heading) → Sound limit (after_noexcept_open place ps h) → Wherever limit (Sound limit) (feed_noexcept_open t place ps h)
feed_noexcept_open-sound limit t place ps h s =
    if_sound limit (Sound limit) (is_word keyword.True t.kind) _ _ (refl, quiet_signature limit place true true ps h s)
    (if_sound limit (Sound limit) (is_word keyword.False t.kind) _ _ (refl, quiet_signature limit place false false ps h s) tt)

pub feed_throw_open-sound : (limit : ℕ) → (t : Token) (ps : List Param) (h : Heading) → Sound limit (after_throw_open ps h) → Wherever limit (Sound limit) (feed_throw_open t ps h)
feed_throw_open-sound limit t ps h s =
    if_sound limit (Sound limit) (is_mark sign.CloseParen t.kind) _ _
    (record { heading = s.1; parameters = s.0; specification = tt; initialisers = tt; parts = parts_of h.kind (record { heading = h; parameters = ps; specification = Some (listed []); in_full = false; initialisers = [] }) refl s.2 }, refl)
    (begin_listed-sound limit t (of_specification [] ps h) tt (tt, s.0, s.1, s.2))

-- a name that must come
no_destructor : (H : Holder) → kind_in H ≡ Destructor → ⊥
no_destructor (of_program ds) e = cc
no_destructor (of_class c) e = cc

heading_sound : (limit : ℕ) → (H : Holder) (result : Ty) (n : Name) (start : ℕ) → IsResult result → SoundHolder limit H → Sound limit (after_params_open (record { kind = kind_in H; result = result; name = n; start = start; holder = H }))
heading_sound limit (of_program ds) result n start r s = ((r, refl, s), λ e. no_destructor (of_program ds) e)
heading_sound limit (of_class c) result n start r s = ((r, tt, s), λ e. no_destructor (of_class c) e)

have_name-sound : (limit : ℕ) → (m : Name) (N : InName) → Sound limit (want_name N) → Sound limit (have_name m N)
have_name-sound limit m (of_path names P) s = (some_last names m, s.1)
have_name-sound limit m (of_std_operand place d ps E) s = (refl, (refl, s))
have_name-sound limit m (of_std_statement place d C) s = (refl, (ap (λ n. n + 2) s.0, (omega (arith, s.0, s.1), s.2)))
have_name-sound limit m (of_referred p C) s = (tt, s)
have_name-sound limit m (of_int start h) s = s
have_name-sound limit m (of_void start h) s = (refl, heading_sound limit h Void m start tt s)
have_name-sound limit m (of_destructor start c) s = (refl, (refl, (tt, (refl, tt, s), λ e. refl)))
have_name-sound limit m (of_class_name ds) s = s
have_name-sound limit m (of_base c ds) s = (refl, (tt, tt, s))
have_name-sound limit m (of_initialised sig) s = (refl, (refl, s))

pub feed_name-sound : (limit : ℕ) → (t : Token) (N : InName) → Sound limit (want_name N) → Wherever limit (Sound limit) (feed_name t N)
feed_name-sound limit t N s = on_name_sound limit (Sound limit) (name_of t) (λ m. leads (have_name m N)) _ (λ m. have_name-sound limit m N s) tt

-- a token of a declaration or a member
global_sound : (limit : ℕ) → (ds : List Declaration) (m : Name) (v : ℤ) → SoundHolder limit (of_program ds) → Sound limit (want_declaration (ds ++ (global_declaration m v ∷ [])))
global_sound limit ds m v s = each_last (IsSoundDeclaration limit) ds (global_declaration m v) s tt

member_sound : (limit : ℕ) → (c : OpenClass) (p : Param) → IsDataMember p → SoundHolder limit (of_class c) → Sound limit (in_class (with_member c p))
member_sound limit c p i s = (each_last IsDataMember c.members p s.0 i, s.1, s.2)

feed_variable-sound : (limit : ℕ) → (t : Token) (m : Name) (h : Holder) → SoundHolder limit h → Wherever limit (Sound limit) (feed_variable t m h)
feed_variable-sound limit t m (of_program ds) s = if_sound limit (Sound limit) (is_mark sign.Assign t.kind) _ _ s (on_mark_sound limit (Sound limit) (is_mark sign.Semicolon t.kind) _ (global_sound limit ds m _ s))
feed_variable-sound limit t m (of_class c) s = on_mark_sound limit (Sound limit) (is_mark sign.Semicolon t.kind) _ (member_sound limit c (record { ty = Int; name = Some m }) (tt, tt) s)

pub feed_declared-sound : (limit : ℕ) → (t : Token) (m : Name) (start : ℕ) (h : Holder) → Sound limit (after_declared m start h) → Wherever limit (Sound limit) (feed_declared t m start h)
feed_declared-sound limit t m start h s = if_sound limit (Sound limit) (is_mark sign.OpenParen t.kind) _ _ (heading_sound limit h Int m start tt s) (feed_variable-sound limit t m h s)

pub feed_minus-sound : (limit : ℕ) → (t : Token) (m : Name) (ds : List Declaration) → Sound limit (after_minus m ds) → Wherever limit (Sound limit) (feed_minus t m ds)
feed_minus-sound limit t m ds s = on_literal_sound limit (Sound limit) t.kind (λ v. leads (have_value m (neg_ℤ v) ds)) _ (λ v l. (refl, global_sound limit ds m (neg_ℤ v) s)) tt

pub feed_assign-sound : (limit : ℕ) → (t : Token) (m : Name) (ds : List Declaration) → Sound limit (after_assign m ds) → Wherever limit (Sound limit) (feed_assign t m ds)
feed_assign-sound limit t m ds s = if_sound limit (Sound limit) (is_mark sign.Minus t.kind) _ _ s (on_literal_sound limit (Sound limit) t.kind (λ v. leads (have_value m v ds)) _ (λ v l. (refl, global_sound limit ds m v s)) tt)

pub feed_class_name-sound : (limit : ℕ) → (t : Token) (m : Name) (ds : List Declaration) → Sound limit (after_class_name m ds) → Wherever limit (Sound limit) (feed_class_name t m ds)
feed_class_name-sound limit t m ds s = if_sound limit (Sound limit) (is_mark sign.Colon t.kind) _ _ s (on_mark_sound limit (Sound limit) (is_mark sign.OpenBrace t.kind) _ (tt, tt, s))

pub feed_class_colon-sound : (limit : ℕ) → (t : Token) (m : Name) (ds : List Declaration) → Sound limit (after_class_colon m ds) → Wherever limit (Sound limit) (feed_class_colon t m ds)
feed_class_colon-sound limit t m ds s = if_sound limit (Sound limit) (is_word keyword.Public t.kind) _ _ s (feed_name-sound limit t (of_base m ds) s)

pub feed_member_name-sound : (limit : ℕ) → (t : Token) (m : Name) (start : ℕ) (c : OpenClass) → Sound limit (after_member_name m start c) → Wherever limit (Sound limit) (feed_member_name t m start c)
feed_member_name-sound limit t m start c s =
    if_sound limit (Sound limit) (is_mark sign.OpenParen t.kind) _ _ ((refl, tt, s), λ e. cc)
    (on_name_sound limit (Sound limit) (name_of t) (λ o. unless (is_bad_exception m) (leads (expect (kind.Mark sign.Semicolon) (in_class (with_member c (record { ty = Object m; name = Some o })))))) _ (λ o. go (is_bad_exception m) refl o) tt)
  where
    go : (b : Bool) → is_bad_exception m ≡ b → (o : Name) → Wherever limit (Sound limit) (unless b (leads (expect (kind.Mark sign.Semicolon) (in_class (with_member c (record { ty = Object m; name = Some o }))))))
    go true e o = tt
    go false e o = (refl, member_sound limit c (record { ty = Object m; name = Some o }) (e, tt) s)

pub begin_member-sound : (limit : ℕ) → (n : ℕ) (t : Token) (c : OpenClass) → SoundHolder limit (of_class c) → Wherever limit (Sound limit) (begin_member n t c)
begin_member-sound limit n t c s =
    if_sound limit (Sound limit) (is_word keyword.Int t.kind) _ _ s (if_sound limit (Sound limit) (is_word keyword.Void t.kind) _ _ s (if_sound limit (Sound limit) (is_mark sign.Tilde t.kind) _ _ s (on_name_sound limit (Sound limit) (name_of t) (λ m. leads (after_member_name m n c)) _ (λ m. s) tt)))

pub feed_member-sound : (limit : ℕ) → (n : ℕ) (t : Token) (c : OpenClass) → Sound limit (in_class c) → Wherever limit (Sound limit) (feed_member n t c)
feed_member-sound limit n t c s =
    if_sound limit (Sound limit) (is_mark sign.CloseBrace t.kind) _ _ (refl, each_last (IsSoundDeclaration limit) c.before (closed_class c) s.2 (s.0, s.1)) (begin_member-sound limit n t c s)

pub begin_declaration-sound : (limit : ℕ) → (n : ℕ) (t : Token) (ds : List Declaration) → Sound limit (want_declaration ds) → Wherever limit (Sound limit) (begin_declaration n t ds)
begin_declaration-sound limit n t ds s = if_sound limit (Sound limit) (is_word keyword.Struct t.kind) _ _ s (if_sound limit (Sound limit) (is_word keyword.Int t.kind) _ _ s (if_sound limit (Sound limit) (is_word keyword.Void t.kind) _ _ s tt))
