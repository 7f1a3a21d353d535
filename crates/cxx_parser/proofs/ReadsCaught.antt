-- What a handler catches is read where it is spelled.
use Rattle.std.specs.Prelude.{ℕ, ◌+◌, ◌≡◌, Bool, true, false, List, [], ◌∷◌, codes, Option, Some, None, refl}
use Rattle.std.proofs.Common.{ap, sym, ◌∙◌}
use Rattle.cxx_ast.specs.declared.keyword.Keyword.TheVariants as keyword
use Rattle.cxx_ast.specs.declared.mark.Mark.TheVariants as sign
use Rattle.cxx_ast.specs.declared.name.Bound.TheVariants.{Free}
use Rattle.cxx_ast.specs.declared.name.Name.{Name}
use Rattle.cxx_ast.specs.declared.token.TokenKind.TheVariants as kind
use Rattle.cxx_ast.specs.declared.types.Ty.{Ty}
use Rattle.cxx_ast.specs.declared.types.Ty.TheVariants.{Int, Void, Object, IntRef, ObjectRef}
use Rattle.cxx_ast.specs.Grammatical.{IsCaught}
use Rattle.cxx_ast.specs.Piece.{Piece, anywhere, named, mark, word_at}
use Rattle.cxx_ast.specs.Spelling.{is_bad_exception, spell_class, spell_type, spell_name, first_at, spell_caught}
use Rattle.cxx_parser.specs.Contexts.{InTry, in_try, of_handler, of_caught, of_const_caught}
use Rattle.cxx_parser.specs.Reading.{feed}
use Rattle.cxx_parser.specs.States.{State, expect, want_listed, have_listed, want_caught, have_caught, in_statements}
use Rattle.cxx_parser.specs.Types.{bad_exception, handler_body}
use Rattle.cxx_parser.proofs.Past.{Leads, next, ends_as, kind_leads, placed_leads, name_leads}
use Rattle.cxx_parser.proofs.ReadsTypes.{begins_as, bad_same, reads_bad, reads_class}

-- the body of a handler of a try at a depth
abbrev pub caught_in : ℕ → Option Ty → Option Name → ℕ → InTry → State
caught_in d ty name place T = in_statements (d + 3) [] (of_handler ty name place T)

abbrev pub try_at : InTry → ℕ
try_at (in_try ss cs c C) = c

module _ (limit total : ℕ) where
  -- the body opens
  opens_body : (ty : Option Ty) (name : Option Name) (place : ℕ) (T : InTry) (x : List Piece) → Leads limit total (mark sign.OpenBrace ∷ x) (handler_body ty name place T) x (caught_in (try_at T) ty name place T)
  unfolding feed
  opens_body ty name place (in_try ss cs c C) x =
      kind_leads (kind.Mark sign.OpenBrace) (handler_body ty name place (in_try ss cs c C)) (caught_in c ty name place (in_try ss cs c C)) (λ n p i. refl)

  closes : (ty : Option Ty) (name : Option Name) (place : ℕ) (T : InTry) (x : List Piece) → Leads limit total (mark sign.CloseParen ∷ mark sign.OpenBrace ∷ x) (expect (kind.Mark sign.CloseParen) (handler_body ty name place T)) x (caught_in (try_at T) ty name place T)
  unfolding feed
  closes ty name place T x = next (kind_leads (kind.Mark sign.CloseParen) (expect (kind.Mark sign.CloseParen) (handler_body ty name place T)) (handler_body ty name place T) (λ n p i. refl)) (opens_body ty name place T x)

  -- a name behind a type, where there is one
  reads_name : (ty : Ty) (name : Option Name) (place : ℕ) (T : InTry) (x : List Piece) → Leads limit total (spell_name name (mark sign.CloseParen ∷ mark sign.OpenBrace ∷ x)) (have_caught ty place T) x (caught_in (try_at T) (Some ty) name place T)
  unfolding feed
  reads_name ty None place T x = next (kind_leads (kind.Mark sign.CloseParen) (have_caught ty place T) (handler_body (Some ty) None place T) (λ n p i. refl)) (opens_body (Some ty) None place T x)
  reads_name ty (Some m) place T x =
      next (name_leads m (have_caught ty place T) (λ o. expect (kind.Mark sign.CloseParen) (handler_body (Some ty) (Some o) place T)) (λ n i. refl)) (closes (Some ty) (Some m) place T x)

  -- the same behind a type that is no reference
  reads_value_name : (ty : Ty) (name : Option Name) (place : ℕ) (T : InTry) (x : List Piece) → Leads limit total (spell_name name (mark sign.CloseParen ∷ mark sign.OpenBrace ∷ x)) (have_listed ty (of_caught place T)) x (caught_in (try_at T) (Some ty) name place T)
  unfolding feed
  reads_value_name ty None place T x =
      next (kind_leads (kind.Mark sign.CloseParen) (have_listed ty (of_caught place T)) (handler_body (Some ty) None place T) (λ n p i. refl)) (opens_body (Some ty) None place T x)
  reads_value_name ty (Some m) place T x =
      next (name_leads m (have_listed ty (of_caught place T)) (λ o. expect (kind.Mark sign.CloseParen) (handler_body (Some ty) (Some o) place T)) (λ n i. refl)) (closes (Some ty) (Some m) place T x)

  -- a class that begins what is caught
  reads_first_class : (m : Name) (place : ℕ) → m.bound ≡ Free → m.place ≡ place → (T : InTry) (x : List Piece) → Leads limit total (first_at place (spell_class m x)) (want_caught T) x (have_listed (Object m) (of_caught place T))
  unfolding feed
  reads_first_class m place f p T x = go (is_bad_exception m) refl
    where
      go : (b : Bool) → is_bad_exception m ≡ b → Leads limit total (first_at place (spell_class m x)) (want_caught T) x (have_listed (Object m) (of_caught place T))
      go true e =
          begins_as (first_at place (spell_class m x)) (word_at keyword.Std m.place ∷ mark sign.ColonColon ∷ anywhere (kind.Name (codes "bad_exception")) ∷ x) (rw e refl)
          (ends_as (have_listed (Object m) (of_caught place T)) (ap (λ q. have_listed (Object q) (of_caught m.place T)) (bad_same m e f) ∙ ap (λ q. have_listed (Object m) (of_caught q T)) p)
          (next (placed_leads (kind.Word keyword.Std) m.place (want_caught T) (expect (kind.Mark sign.ColonColon) (expect (kind.Name (codes "bad_exception")) (have_listed (Object (bad_exception m.place)) (of_caught m.place T)))) (λ n i. refl))
          (reads_bad limit total (have_listed (Object (bad_exception m.place)) (of_caught m.place T)) x)))
      go false e =
          begins_as (first_at place (spell_class m x)) (named m ∷ x) (rw e refl)
          (ends_as (have_listed (Object m) (of_caught place T)) (ap (λ q. have_listed (Object m) (of_caught q T)) p) (name_leads m (want_caught T) (λ o. have_listed (Object o) (of_caught o.place T)) (λ n i. rw e refl)))

  -- a type that is caught
  reads_caught_type : (ty : Ty) (name : Option Name) (place : ℕ) → IsCaught place (Some ty) name → (T : InTry) (x : List Piece) → Leads limit total (first_at place (spell_type ty (spell_name name (mark sign.CloseParen ∷ mark sign.OpenBrace ∷ x)))) (want_caught T) x (caught_in (try_at T) (Some ty) name place T)
  unfolding feed
  reads_caught_type Int name place g T x =
      next (placed_leads (kind.Word keyword.Int) place (want_caught T) (have_listed Int (of_caught place T)) (λ n i. refl)) (reads_value_name Int name place T x)
  reads_caught_type Void name place g T x = absurd g
  reads_caught_type (Object m) name place g T x = next (reads_first_class m place g.0 g.1 T (spell_name name (mark sign.CloseParen ∷ mark sign.OpenBrace ∷ x))) (reads_value_name (Object m) name place T x)
  reads_caught_type (IntRef false) name place g T x =
      next (placed_leads (kind.Word keyword.Int) place (want_caught T) (have_listed Int (of_caught place T)) (λ n i. refl))
      (next (kind_leads (kind.Mark sign.Amp) (have_listed Int (of_caught place T)) (have_caught (IntRef false) place T) (λ n p i. refl)) (reads_name (IntRef false) name place T x))
  reads_caught_type (IntRef true) name place g T x =
      next (placed_leads (kind.Word keyword.Const) place (want_caught T) (want_listed (of_const_caught place T)) (λ n i. refl))
      (next (kind_leads (kind.Word keyword.Int) (want_listed (of_const_caught place T)) (have_listed Int (of_const_caught place T)) (λ n p i. refl))
      (next (kind_leads (kind.Mark sign.Amp) (have_listed Int (of_const_caught place T)) (have_caught (IntRef true) place T) (λ n p i. refl)) (reads_name (IntRef true) name place T x)))
  reads_caught_type (ObjectRef false m) name place g T x =
      next (reads_first_class m place g.0 g.1 T (mark sign.Amp ∷ spell_name name (mark sign.CloseParen ∷ mark sign.OpenBrace ∷ x)))
      (next (kind_leads (kind.Mark sign.Amp) (have_listed (Object m) (of_caught place T)) (have_caught (ObjectRef false m) place T) (λ n p i. refl)) (reads_name (ObjectRef false m) name place T x))
  reads_caught_type (ObjectRef true m) name place g T x =
      next (placed_leads (kind.Word keyword.Const) place (want_caught T) (want_listed (of_const_caught place T)) (λ n i. refl))
      (next (reads_class limit total m g (of_const_caught place T) (mark sign.Amp ∷ spell_name name (mark sign.CloseParen ∷ mark sign.OpenBrace ∷ x)))
      (next (kind_leads (kind.Mark sign.Amp) (have_listed (Object m) (of_const_caught place T)) (have_caught (ObjectRef true m) place T) (λ n p i. refl)) (reads_name (ObjectRef true m) name place T x)))

  -- what a handler catches, up to its body
  pub reads_caught : (ty : Option Ty) (name : Option Name) (place : ℕ) → IsCaught place ty name → (T : InTry) (x : List Piece) → Leads limit total (spell_caught place ty name (mark sign.CloseParen ∷ mark sign.OpenBrace ∷ x)) (want_caught T) x (caught_in (try_at T) ty name place T)
  unfolding feed
  reads_caught (Some ty) name place g T x = reads_caught_type ty name place g T x
  reads_caught None name place g T x =
      ends_as (caught_in (try_at T) None name place T) (ap (λ q. caught_in (try_at T) None q place T) (sym g))
      (next (placed_leads (kind.Mark sign.Ellipsis) place (want_caught T) (expect (kind.Mark sign.CloseParen) (handler_body None None place T)) (λ n i. refl)) (closes None None place T x))
