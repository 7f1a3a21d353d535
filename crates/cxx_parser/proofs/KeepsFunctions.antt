-- What holds of the state of a function, a class or a declaration holds with a token more.
use Rattle.cxx_ast.specs.Written.{spell_function_as}
use Rattle.cxx_parser.proofs.Lengths.{as_written}
use Rattle.std.specs.Prelude.{ℕ, ◌+◌, ◌-◌, ◌≡◌, Bool, false, List, [], ◌∷◌, ◌++◌, Some, refl}
use Rattle.std.proofs.Common.{ap, sym, ◌∙◌, subst, arith}
use Rattle.std.proofs.lemmas.List.{map-append}
use Rattle.cxx_ast.specs.declared.declaration.FuncKind.{FuncKind}
use Rattle.cxx_ast.specs.declared.declaration.FuncKind.TheVariants.{Plain, Method, Constructor, Destructor}
use Rattle.cxx_ast.specs.declared.mark.Mark.TheVariants as sign
use Rattle.cxx_ast.specs.declared.token.Token.{Token}
use Rattle.cxx_ast.specs.declared.token.TokenKind.TheVariants as kind
use Rattle.cxx_ast.specs.declared.types.Param.{Param}
use Rattle.cxx_ast.specs.Grammatical.{Each}
use Rattle.cxx_ast.specs.Piece.{Piece, mark}
use Rattle.cxx_ast.specs.Plain.{Statements, Function, Declaration}
use Rattle.cxx_ast.specs.Spelling.{spell_statements}
use Rattle.cxx_ast.specs.Written.{Member, data_member, function_member, Written, written_function, data_members, functions, declared, spell_function, spell_tilde, spell_members, spell_declaration, spell_declarations}
use Rattle.cxx_parser.specs.Contexts.{Holder, of_program, of_class, Signature}
use Rattle.cxx_parser.specs.Functions.{function_from, have_function, have_body}
use Rattle.cxx_parser.proofs.Spelled.{IsCounted, AreCounted}
use Rattle.cxx_parser.proofs.Before.{Site, site_of, is_destructor, spell_signature}
use Rattle.cxx_parser.proofs.Held.{Fits, after, Said, Front, Matches, before_holder, AtHolder, tilded, Within, Holds}
use Rattle.cxx_parser.proofs.Steps.{step, restate}

-- a declaration more, and a member more
pub declarations_last : (ws : List Written) (w : Written) (x : List Piece) → spell_declarations ws (spell_declaration w x) ≡ spell_declarations (ws ++ (w ∷ [])) x
declarations_last [] w x = refl
declarations_last (v ∷ ws) w x = ap (spell_declaration v) (declarations_last ws w x)

pub data_last : (ms : List Member) (p : Param) (x : List Piece) → spell_members ms (spell_members (data_member p ∷ []) x) ≡ spell_members (ms ++ (data_member p ∷ [])) x
data_last [] p x = refl
data_last (data_member q ∷ ms) p x = ap (λ y. spell_members (data_member q ∷ []) y) (data_last ms p x)
data_last (function_member f ∷ ms) p x = ap (λ y. spell_tilde f.kind (spell_function f y)) (data_last ms p x)

pub function_last : (ms : List Member) (g : Function) (x : List Piece) → spell_members ms (spell_tilde g.kind (spell_function g x)) ≡ spell_members (ms ++ (function_member g ∷ [])) x
function_last [] g x = refl
function_last (data_member q ∷ ms) g x = ap (λ y. spell_members (data_member q ∷ []) y) (function_last ms g x)
function_last (function_member f ∷ ms) g x = ap (λ y. spell_tilde f.kind (spell_function f y)) (function_last ms g x)

pub each_last : {A : Type 0} (P : A → Type 0) (xs : List A) (x : A) → Each P xs → P x → Each P (xs ++ (x ∷ []))
each_last P [] x e p = (p, tt)
each_last P (y ∷ ys) x e p = (e.0, each_last P ys x e.1 p)

members_of_function : (ms : List Member) (g : Function) → data_members (ms ++ (function_member g ∷ [])) ≡ data_members ms
members_of_function [] g = refl
members_of_function (data_member q ∷ ms) g = ap (λ y. q ∷ y) (members_of_function ms g)
members_of_function (function_member f ∷ ms) g = members_of_function ms g

functions_of_function : (ms : List Member) (g : Function) → functions (ms ++ (function_member g ∷ [])) ≡ functions ms ++ (g ∷ [])
functions_of_function [] g = refl
functions_of_function (data_member q ∷ ms) g = functions_of_function ms g
functions_of_function (function_member f ∷ ms) g = ap (λ y. f ∷ y) (functions_of_function ms g)

pub members_of_data : (ms : List Member) (p : Param) → data_members (ms ++ (data_member p ∷ [])) ≡ data_members ms ++ (p ∷ [])
members_of_data [] p = refl
members_of_data (data_member q ∷ ms) p = ap (λ y. q ∷ y) (members_of_data ms p)
members_of_data (function_member f ∷ ms) p = members_of_data ms p

pub functions_of_data : (ms : List Member) (p : Param) → functions (ms ++ (data_member p ∷ [])) ≡ functions ms
functions_of_data [] p = refl
functions_of_data (data_member q ∷ ms) p = functions_of_data ms p
functions_of_data (function_member f ∷ ms) p = ap (λ y. f ∷ y) (functions_of_data ms p)

tilde_spelled : (k : FuncKind) (x : List Piece) → tilded (is_destructor k) x ≡ spell_tilde k x
tilde_spelled Plain x = refl
tilde_spelled Method x = refl
tilde_spelled Constructor x = refl
tilde_spelled Destructor x = refl

-- a declaration more stands behind others
pub declaration_more : (F : Fits) (ds : List Declaration) (w : Front) (v : Written) → Matches w (of_program ds) → AreCounted v → Said F (λ x. spell_declarations w.written (spell_declaration v x)) → AtHolder F (of_program (ds ++ (declared v ∷ [])))
declaration_more F ds w v m c said = record {
  front = record { written = w.written ++ (v ∷ []); is_public = false; members = [] };
  matches = (map-append declared w.written (v ∷ []) ∙ ap (λ es. es ++ (declared v ∷ [])) m.0, each_last AreCounted w.written v m.1 c);
  said = λ ts x g. subst (λ y. F ts y) (declarations_last w.written v x) (said ts x g);
}

-- a function that was read has its number of tokens
counted_function : (n : ℕ) (F : Fits) (site : Site) (f : Function) → Within n F site (spell_function f) (Unit {0}) → f.tokens ≡ n - site.start → IsCounted f
counted_function n F site f w e = let k = w.outer.counted [] (spell_function f []) (w.said [] [] tt) in omega (arith, k, e)

-- a function ends that is written so
function_ends : (n : ℕ) (F : Fits) (f : Function) (H : Holder) (start : ℕ) → Within n F (record { holder = H; start = start; tilde = is_destructor f.kind }) (spell_function f) (Unit {0}) → f.tokens ≡ n - start → Holds n F (have_function f H)
function_ends n F f (of_program ds) start w e =
    let o = w.outer in
    let c = counted_function n F (record { holder = of_program ds; start = start; tilde = is_destructor f.kind }) f w e in
    declaration_more F ds o.front (written_function f) o.matches c
    (λ ts x g. subst (λ b. F ts (spell_declarations o.front.written (tilded b (spell_function f x)))) o.may_tilde (o.carried ts (spell_function f x) (w.said ts x g)))
function_ends n F f (of_class c) start w e =
    let o = w.outer in
    let k = counted_function n F (record { holder = of_class c; start = start; tilde = is_destructor f.kind }) f w e in
    record {
      front = record { written = o.front.written; is_public = o.front.is_public; members = o.front.members ++ (function_member f ∷ []) };
      matches = (
        o.matches.0,
        o.matches.1,
        members_of_function o.front.members f ∙ o.matches.2,
        functions_of_function o.front.members f ∙ ap (λ fs. fs ++ (f ∷ [])) o.matches.3,
        subst (Each IsCounted) (sym (functions_of_function o.front.members f)) (each_last IsCounted (functions o.front.members) f o.matches.4 k),
      );
      said = λ ts x g.
          subst (λ y. F ts (before_holder (record { written = o.front.written; is_public = o.front.is_public; members = [] }) (of_class c) y))
          (ap (spell_members o.front.members) (tilde_spelled f.kind (spell_function f x)) ∙ function_last o.front.members f x) (o.carried ts (spell_function f x) (w.said ts x g));
    }

-- a function ends, whose `noexcept` was read in full or not
pub function_holds : (n : ℕ) (F : Fits) (b : Bool) (f : Function) (H : Holder) (start : ℕ) → Within n F (record { holder = H; start = start; tilde = is_destructor f.kind }) (spell_function_as b f) (Unit {0}) → f.tokens ≡ n - start → Holds n F (have_function f H)
function_holds n F b f H start w e =
    let k = w.outer.counted [] (spell_function_as b f []) (w.said [] [] tt) in
    function_ends n F f H start (restate (spell_function f) (Unit {0}) (as_written b f (omega (arith, k, e))) tt w) e

-- the body of a function ends
pub body_holds : (n : ℕ) (F : Fits) (t : Token) (ss : Statements) (s : Signature) → t.kind ≡ kind.Mark sign.CloseBrace → Within n F (site_of s.heading) (λ x. spell_signature s (mark sign.OpenBrace ∷ spell_statements ss x)) (Unit {0}) → Holds (n + 1) (after t F) (have_body n ss s)
body_holds n F t ss s is w = function_holds (n + 1) (after t F) s.in_full (function_from n (Some ss) s) s.heading.holder s.heading.start (step t (mark sign.CloseBrace) (Unit {0}) is tt w) refl
