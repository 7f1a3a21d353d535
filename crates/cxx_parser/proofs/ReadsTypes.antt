-- Types, parameters and what handlers catch are read where they are spelled.
use Rattle.cxx_ast.specs.Plain.{listed}
use Rattle.std.specs.Prelude.{ℕ, ◌≡◌, Bool, true, false, List, [], ◌∷◌, ◌++◌, codes, bytes_eq, Option, Some, None, refl}
use Rattle.std.proofs.Common.{ap, sym, ◌∙◌, subst, arith, append_assoc}
use Rattle.std.proofs.lemmas.List.{append-nil}
use Rattle.std.proofs.lemmas.Slice.Eq.{bytes_eq-Decides}
use Rattle.cxx_ast.specs.declared.keyword.Keyword.TheVariants as keyword
use Rattle.cxx_ast.specs.declared.mark.Mark.TheVariants as sign
use Rattle.cxx_ast.specs.declared.name.Bound.{Bound}
use Rattle.cxx_ast.specs.declared.name.Bound.TheVariants.{Free}
use Rattle.cxx_ast.specs.declared.name.Name.{Name}
use Rattle.cxx_ast.specs.declared.token.Token.{Token}
use Rattle.cxx_ast.specs.declared.token.TokenKind.{TokenKind}
use Rattle.cxx_ast.specs.declared.token.TokenKind.TheVariants as kind
use Rattle.cxx_ast.specs.declared.types.Param.{Param}
use Rattle.cxx_ast.specs.declared.types.Ty.{Ty}
use Rattle.cxx_ast.specs.declared.types.Ty.TheVariants.{Int, Void, Object, IntRef, ObjectRef}
use Rattle.cxx_ast.specs.Grammatical.{Each, IsParamType, IsParam, IsPlainName, IsListedType}
use Rattle.cxx_ast.specs.Piece.{Piece, anywhere, named, word, mark, word_at}
use Rattle.cxx_ast.specs.Spelling.{is_bad_exception, spell_class, spell_type, spell_name, spell_param}
use Rattle.cxx_ast.specs.Written.{spell_params, spell_more_params, spell_types, spell_more_types}
use Rattle.cxx_parser.specs.Contexts.{Heading, InType, of_param, InListed, of_specification}
use Rattle.cxx_parser.specs.Reading.{feed}
use Rattle.cxx_parser.specs.Signs.{is_mark, name_at, class_of}
use Rattle.cxx_parser.specs.States.{State, expect, after_const, after_value_type, have_type, want_listed, have_listed, after_params_open, want_param, have_param, after_params, after_throw_open, have_signature}
use Rattle.cxx_parser.specs.Types.{bad_exception, feed_type}
use Rattle.cxx_parser.proofs.Past.{Leads, stays, next, ends_as, token, free, kind_leads, placed_leads, name_leads, Opening, opens, alike}
use Rattle.cxx_parser.proofs.Runs.{passed}

-- the name of a class is one token
class_read : (m : Name) → IsPlainName m → class_of (token (kind.Name m.text) m.place) ≡ Some (free m)
class_read m g = rw g refl

text_same : (a b : List ℕ) → bytes_eq a b ≡ true → a ≡ b
text_same a b h = grind (arith, bytes_eq-Decides)

-- the name of `std::bad_exception` is the one that is read at its place
pub bad_same : (m : Name) → is_bad_exception m ≡ true → m.bound ≡ Free → bad_exception m.place ≡ m
bad_same m h b =
    let t : codes "std::bad_exception" ≡ m.text = sym (text_same m.text (codes "std::bad_exception") h) in
    ap (λ x. with_text x) t ∙ ap (λ x. with_bound x) (sym b)
  where
    with_text : List ℕ → Name
    with_text x = record { text = x; place = m.place; bound = Free }

    with_bound : Bound → Name
    with_bound x = record { text = m.text; place = m.place; bound = x }

-- a token that ends a parameter
abbrev pub EndsParam : TokenKind → Type 0
EndsParam k = (is_mark sign.Amp k ≡ false) × ((place : ℕ) → name_at k place ≡ None)

-- a token that is no `)`
abbrev pub NoClose : TokenKind → Type 0
NoClose k = is_mark sign.CloseParen k ≡ false

-- the state behind a parameter, where a name may still come
abbrev pub behind_param : Ty → Option Name → List Param → Heading → State
behind_param ty (Some m) ps h = have_param (ps ++ (record { ty = ty; name = Some m } ∷ [])) h
behind_param Int None ps h = after_value_type Int (of_param ps h)
behind_param ty None ps h = have_type ty (of_param ps h)

param_ends : (limit n : ℕ) (t : Token) (ty : Ty) (name : Option Name) (ps : List Param) (h : Heading) → EndsParam t.kind → passed limit (feed n t (behind_param ty name ps h)) ≡ passed limit (feed n t (have_param (ps ++ (record { ty = ty; name = name } ∷ [])) h))
unfolding feed
param_ends limit n t ty (Some m) ps h q = refl
param_ends limit n t Int None ps h q = rw (q.0, q.1 t.place, feed_type) refl
param_ends limit n t Void None ps h q = rw (q.1 t.place, feed_type) refl
param_ends limit n t (Object m) None ps h q = rw (q.1 t.place, feed_type) refl
param_ends limit n t (IntRef const) None ps h q = rw (q.1 t.place, feed_type) refl
param_ends limit n t (ObjectRef const m) None ps h q = rw (q.1 t.place, feed_type) refl

params_open_alike : (limit n : ℕ) (t : Token) (h : Heading) → NoClose t.kind → passed limit (feed n t (after_params_open h)) ≡ passed limit (feed n t (want_param [] h))
unfolding feed
params_open_alike limit n t h q = rw q refl

throw_open_alike : (limit n : ℕ) (t : Token) (ps : List Param) (h : Heading) → NoClose t.kind → passed limit (feed n t (after_throw_open ps h)) ≡ passed limit (feed n t (want_listed (of_specification [] ps h)))
unfolding feed
throw_open_alike limit n t ps h q = rw q refl

-- a type does not begin with `)`
class_opening : (m : Name) (x : List Piece) → Opening NoClose (spell_class m x)
class_opening m x = go (is_bad_exception m) refl
  where
    go : (b : Bool) → is_bad_exception m ≡ b → Opening NoClose (spell_class m x)
    go true e = rw e (opens NoClose (word_at keyword.Std m.place) (mark sign.ColonColon ∷ anywhere (kind.Name (codes "bad_exception")) ∷ x) refl)
    go false e = rw e (opens NoClose (named m) x refl)

type_opening : (ty : Ty) (x : List Piece) → Opening NoClose (spell_type ty x)
type_opening Int x = opens NoClose (word keyword.Int) x refl
type_opening Void x = opens NoClose (word keyword.Void) x refl
type_opening (Object m) x = class_opening m x
type_opening (IntRef true) x = opens NoClose (word keyword.Const) (word keyword.Int ∷ mark sign.Amp ∷ x) refl
type_opening (IntRef false) x = opens NoClose (word keyword.Int) (mark sign.Amp ∷ x) refl
type_opening (ObjectRef true m) x = opens NoClose (word keyword.Const) (spell_class m (mark sign.Amp ∷ x)) refl
type_opening (ObjectRef false m) x = class_opening m (mark sign.Amp ∷ x)

pub plain_spelled : (m : Name) (x : List Piece) → IsPlainName m → spell_class m x ≡ named m ∷ x
plain_spelled m x g = rw g refl

-- pieces that are the same
pub begins_as : {limit total : ℕ} {x : List Piece} {s last : State} (P Q : List Piece) → P ≡ Q → Leads limit total Q s x last → Leads limit total P s x last
begins_as {limit} {total} {x} {s} {last} P Q e l = subst (λ (R : List Piece). Leads limit total R s x last) (sym e) l

further_params : (ps : List Param) (x : List Piece) → Opening EndsParam (spell_more_params ps (mark sign.CloseParen ∷ x))
further_params [] x = opens EndsParam (mark sign.CloseParen) x (refl, λ place. refl)
further_params (p ∷ ps) x = opens EndsParam (mark sign.Comma) (spell_param p (spell_more_params ps (mark sign.CloseParen ∷ x))) (refl, λ place. refl)

module _ (limit total : ℕ) where
  -- a name of a parameter, where there is one
  reads_param_name : (ty : Ty) (name : Option Name) (ps : List Param) (h : Heading) (x : List Piece) → Leads limit total (spell_name name x) (behind_param ty None ps h) x (behind_param ty name ps h)
  unfolding feed
  reads_param_name ty None ps h x = stays
  reads_param_name Int (Some m) ps h x = name_leads m (after_value_type Int (of_param ps h)) (λ o. have_param (ps ++ (record { ty = Int; name = Some o } ∷ [])) h) (λ n i. refl)
  reads_param_name Void (Some m) ps h x = name_leads m (have_type Void (of_param ps h)) (λ o. have_param (ps ++ (record { ty = Void; name = Some o } ∷ [])) h) (λ n i. refl)
  reads_param_name (Object c) (Some m) ps h x = name_leads m (have_type (Object c) (of_param ps h)) (λ o. have_param (ps ++ (record { ty = Object c; name = Some o } ∷ [])) h) (λ n i. refl)
  reads_param_name (IntRef const) (Some m) ps h x = name_leads m (have_type (IntRef const) (of_param ps h)) (λ o. have_param (ps ++ (record { ty = IntRef const; name = Some o } ∷ [])) h) (λ n i. refl)
  reads_param_name (ObjectRef const c) (Some m) ps h x = name_leads m (have_type (ObjectRef const c) (of_param ps h)) (λ o. have_param (ps ++ (record { ty = ObjectRef const c; name = Some o } ∷ [])) h) (λ n i. refl)

  -- a reference behind `const`
  pub reads_const_int : (W : InType) (x : List Piece) → Leads limit total (word keyword.Int ∷ mark sign.Amp ∷ x) (after_const W) x (have_type (IntRef true) W)
  unfolding feed
  reads_const_int W x =
      next (kind_leads (kind.Word keyword.Int) (after_const W) (expect (kind.Mark sign.Amp) (have_type (IntRef true) W)) (λ n place i. refl))
      (kind_leads (kind.Mark sign.Amp) (expect (kind.Mark sign.Amp) (have_type (IntRef true) W)) (have_type (IntRef true) W) (λ n place i. refl))

  pub reads_const_class : (m : Name) → IsPlainName m → (W : InType) (x : List Piece) → Leads limit total (spell_class m (mark sign.Amp ∷ x)) (after_const W) x (have_type (ObjectRef true m) W)
  unfolding feed
  reads_const_class m g W x =
      begins_as (spell_class m (mark sign.Amp ∷ x)) (named m ∷ mark sign.Amp ∷ x) (plain_spelled m (mark sign.Amp ∷ x) g)
      (next (name_leads m (after_const W) (λ o. expect (kind.Mark sign.Amp) (have_type (ObjectRef true o) W)) (λ n i. rw g refl))
      (kind_leads (kind.Mark sign.Amp) (expect (kind.Mark sign.Amp) (have_type (ObjectRef true m) W)) (have_type (ObjectRef true m) W) (λ n place i. refl)))

  -- the type of a parameter
  reads_param_type : (ty : Ty) → IsParamType ty → (ps : List Param) (h : Heading) (x : List Piece) → Leads limit total (spell_type ty x) (want_param ps h) x (behind_param ty None ps h)
  unfolding feed
  reads_param_type Int g ps h x = kind_leads (kind.Word keyword.Int) (want_param ps h) (after_value_type Int (of_param ps h)) (λ n place i. refl)
  reads_param_type Void g ps h x = absurd g
  reads_param_type (Object m) g ps h x = absurd g
  reads_param_type (IntRef true) g ps h x = next (kind_leads (kind.Word keyword.Const) (want_param ps h) (after_const (of_param ps h)) (λ n place i. refl)) (reads_const_int (of_param ps h) x)
  reads_param_type (IntRef false) g ps h x =
      next (kind_leads (kind.Word keyword.Int) (want_param ps h) (after_value_type Int (of_param ps h)) (λ n place i. refl))
      (kind_leads (kind.Mark sign.Amp) (after_value_type Int (of_param ps h)) (have_type (IntRef false) (of_param ps h)) (λ n place i. refl))
  reads_param_type (ObjectRef true m) g ps h x = next (kind_leads (kind.Word keyword.Const) (want_param ps h) (after_const (of_param ps h)) (λ n place i. refl)) (reads_const_class m g (of_param ps h) x)
  reads_param_type (ObjectRef false m) g ps h x =
      begins_as (spell_class m (mark sign.Amp ∷ x)) (named m ∷ mark sign.Amp ∷ x) (plain_spelled m (mark sign.Amp ∷ x) g)
      (next (name_leads m (want_param ps h) (λ o. expect (kind.Mark sign.Amp) (have_type (ObjectRef false o) (of_param ps h))) (λ n i. rw g refl))
      (kind_leads (kind.Mark sign.Amp) (expect (kind.Mark sign.Amp) (have_type (ObjectRef false m) (of_param ps h))) (have_type (ObjectRef false m) (of_param ps h)) (λ n place i. refl)))

  -- a parameter, where what comes ends it
  reads_param : (ty : Ty) (name : Option Name) → IsParamType ty → (ps : List Param) (h : Heading) (x : List Piece) {y : List Piece} {last : State} → Opening EndsParam x → Leads limit total x (have_param (ps ++ (record { ty = ty; name = name } ∷ [])) h) y last → Leads limit total (spell_type ty (spell_name name x)) (want_param ps h) y last
  reads_param ty name g ps h x o l =
      next (reads_param_type ty g ps h (spell_name name x))
      (next (reads_param_name ty name ps h x) (alike EndsParam (behind_param ty name ps h) (have_param (ps ++ (record { ty = ty; name = name } ∷ [])) h) o (λ n t q. param_ends limit n t ty name ps h q) l))

  -- further parameters
  reads_more_params : (ps : List Param) → Each IsParam ps → (given : List Param) (h : Heading) (x : List Piece) → Leads limit total (spell_more_params ps (mark sign.CloseParen ∷ x)) (have_param given h) x (after_params (given ++ ps) h)
  unfolding feed
  reads_more_params [] g given h x =
      ends_as (after_params (given ++ []) h) (ap (λ q. after_params q h) (sym (append-nil given))) (kind_leads (kind.Mark sign.CloseParen) (have_param given h) (after_params given h) (λ n place i. refl))
  reads_more_params (p ∷ ps) g given h x =
      next (kind_leads (kind.Mark sign.Comma) (have_param given h) (want_param given h) (λ n place i. refl))
      (reads_param p.ty p.name g.0 given h (spell_more_params ps (mark sign.CloseParen ∷ x)) (further_params ps x)
      (ends_as (after_params (given ++ (p ∷ ps)) h) (ap (λ q. after_params q h) (append_assoc given (p ∷ []) ps)) (reads_more_params ps g.1 (given ++ (p ∷ [])) h x)))

  -- the parameters of a function
  pub reads_params : (ps : List Param) → Each IsParam ps → (h : Heading) (x : List Piece) → Leads limit total (spell_params ps (mark sign.CloseParen ∷ x)) (after_params_open h) x (after_params ps h)
  unfolding feed
  reads_params [] g h x = kind_leads (kind.Mark sign.CloseParen) (after_params_open h) (after_params [] h) (λ n place i. refl)
  reads_params (p ∷ ps) g h x =
      alike NoClose (after_params_open h) (want_param [] h) (type_opening p.ty (spell_name p.name (spell_more_params ps (mark sign.CloseParen ∷ x)))) (λ n t q. params_open_alike limit n t h q)
      (reads_param p.ty p.name g.0 [] h (spell_more_params ps (mark sign.CloseParen ∷ x)) (further_params ps x) (reads_more_params ps g.1 (p ∷ []) h x))

  -- the rest of `std::bad_exception`
  pub reads_bad : (s : State) (x : List Piece) → Leads limit total (mark sign.ColonColon ∷ anywhere (kind.Name (codes "bad_exception")) ∷ x) (expect (kind.Mark sign.ColonColon) (expect (kind.Name (codes "bad_exception")) s)) x s
  unfolding feed
  reads_bad s x =
      next (kind_leads (kind.Mark sign.ColonColon) (expect (kind.Mark sign.ColonColon) (expect (kind.Name (codes "bad_exception")) s)) (expect (kind.Name (codes "bad_exception")) s) (λ n place i. refl))
      (kind_leads (kind.Name (codes "bad_exception")) (expect (kind.Name (codes "bad_exception")) s) s (λ n place i. refl))

  -- a class in a list, behind a state that a type of a list may begin in
  pub reads_class : (m : Name) → m.bound ≡ Free → (L : InListed) (x : List Piece) → Leads limit total (spell_class m x) (want_listed L) x (have_listed (Object m) L)
  unfolding feed
  reads_class m f L x = go (is_bad_exception m) refl
    where
      go : (b : Bool) → is_bad_exception m ≡ b → Leads limit total (spell_class m x) (want_listed L) x (have_listed (Object m) L)
      go true e =
          begins_as (spell_class m x) (word_at keyword.Std m.place ∷ mark sign.ColonColon ∷ anywhere (kind.Name (codes "bad_exception")) ∷ x) (rw e refl)
          (next (placed_leads (kind.Word keyword.Std) m.place (want_listed L) (expect (kind.Mark sign.ColonColon) (expect (kind.Name (codes "bad_exception")) (have_listed (Object (bad_exception m.place)) L))) (λ n i. refl))
          (ends_as (have_listed (Object m) L) (ap (λ q. have_listed (Object q) L) (bad_same m e f)) (reads_bad (have_listed (Object (bad_exception m.place)) L) x)))
      go false e = begins_as (spell_class m x) (named m ∷ x) (rw e refl) (name_leads m (want_listed L) (λ o. have_listed (Object o) L) (λ n i. rw e refl))

  reads_listed : (ty : Ty) → IsListedType ty → (L : InListed) (x : List Piece) → Leads limit total (spell_type ty x) (want_listed L) x (have_listed ty L)
  unfolding feed
  reads_listed Int g L x = kind_leads (kind.Word keyword.Int) (want_listed L) (have_listed Int L) (λ n place i. refl)
  reads_listed (Object m) g L x = reads_class m g L x
  reads_listed Void g L x = absurd g
  reads_listed (IntRef const) g L x = absurd g
  reads_listed (ObjectRef const m) g L x = absurd g

  -- further types of a specification
  reads_more_types : (tys : List Ty) → Each IsListedType tys → (ty : Ty) (given : List Ty) (ps : List Param) (h : Heading) (x : List Piece) → Leads limit total (spell_more_types tys (mark sign.CloseParen ∷ x)) (have_listed ty (of_specification given ps h)) x (have_signature (record { heading = h; parameters = ps; specification = Some (listed (given ++ (ty ∷ tys))); in_full = false; initialisers = [] }))
  unfolding feed
  reads_more_types [] g ty given ps h x =
      kind_leads (kind.Mark sign.CloseParen) (have_listed ty (of_specification given ps h)) (have_signature (record { heading = h; parameters = ps; specification = Some (listed (given ++ (ty ∷ []))); in_full = false; initialisers = [] })) (λ n place i. refl)
  reads_more_types (u ∷ tys) g ty given ps h x =
      next (kind_leads (kind.Mark sign.Comma) (have_listed ty (of_specification given ps h)) (want_listed (of_specification (given ++ (ty ∷ [])) ps h)) (λ n place i. refl))
      (next (reads_listed u g.0 (of_specification (given ++ (ty ∷ [])) ps h) (spell_more_types tys (mark sign.CloseParen ∷ x)))
      (ends_as (have_signature (record { heading = h; parameters = ps; specification = Some (listed (given ++ (ty ∷ u ∷ tys))); in_full = false; initialisers = [] }))
      (ap (λ q. have_signature (record { heading = h; parameters = ps; specification = Some (listed q); in_full = false; initialisers = [] })) (append_assoc given (ty ∷ []) (u ∷ tys)))
      (reads_more_types tys g.1 u (given ++ (ty ∷ [])) ps h x)))

  -- the types of a specification
  pub reads_types : (tys : List Ty) → Each IsListedType tys → (ps : List Param) (h : Heading) (x : List Piece) → Leads limit total (spell_types tys (mark sign.CloseParen ∷ x)) (after_throw_open ps h) x (have_signature (record { heading = h; parameters = ps; specification = Some (listed tys); in_full = false; initialisers = [] }))
  unfolding feed
  reads_types [] g ps h x = kind_leads (kind.Mark sign.CloseParen) (after_throw_open ps h) (have_signature (record { heading = h; parameters = ps; specification = Some (listed []); in_full = false; initialisers = [] })) (λ n place i. refl)
  reads_types (ty ∷ tys) g ps h x =
      alike NoClose (after_throw_open ps h) (want_listed (of_specification [] ps h)) (type_opening ty (spell_more_types tys (mark sign.CloseParen ∷ x))) (λ n t q. throw_open_alike limit n t ps h q)
      (next (reads_listed ty g.0 (of_specification [] ps h) (spell_more_types tys (mark sign.CloseParen ∷ x))) (reads_more_types tys g.1 ty [] ps h x))
