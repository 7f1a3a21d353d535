-- What is read is spelled so.
use Rattle.std.specs.Prelude.{ℕ, ◌+◌, ◌≡◌, false, List, [], ◌∷◌, ◌++◌, Some, length, refl}
use Rattle.std.proofs.Common.{sym, subst, arith}
use Rattle.std.proofs.lemmas.List.{append-nil}
use Rattle.cxx_ast.specs.declared.token.Token.{Token}
use Rattle.cxx_ast.specs.declared.types.Ty.{Ty}
use Rattle.cxx_ast.specs.declared.types.Ty.TheVariants.{Int}
use Rattle.cxx_ast.specs.Piece.{Fit}
use Rattle.cxx_ast.specs.Plain.{Declaration}
use Rattle.cxx_ast.specs.Written.{spell_declarations}
use Rattle.cxx_parser.specs.Contexts.{InType, of_program, of_specification, of_caught, of_const_caught}
use Rattle.cxx_parser.specs.Reading.{feed}
use Rattle.cxx_parser.proofs.Runs.{passed, runs, goes, state_same, passed_on}
use Rattle.cxx_parser.proofs.Spelled.{IsSpelled}
use Rattle.cxx_parser.specs.States.{State, expect, want_name, want_operand, have_operand, have_expression, after_path, have_path, after_open, have_argument, after_const, after_value_type, have_type, want_listed, have_listed, have_types, want_caught, have_caught, want_statement, want_simple, want_plain, want_named, in_statements, have_statement, after_jump, after_first_name, after_only_name, after_int, after_int_name, after_object_name, after_handler, after_params_open, want_param, have_param, after_params, after_throw_open, after_noexcept, after_noexcept_open, have_signature, have_initialiser, after_declared, after_class_name, after_class_colon, in_class, want_member, after_member_name, after_assign, after_minus, want_declaration, Step, stops, leads, within}
use Rattle.cxx_parser.specs.Types.{feed_value_type}
use Rattle.cxx_parser.proofs.Held.{Fits, after, AtHolder, Holds}
use Rattle.cxx_parser.proofs.KeepsDeclarations.{feed_signature-holds, feed_initialiser-holds, feed_params_open-holds, feed_params-holds, feed_throw_open-holds, feed_noexcept-holds, feed_noexcept_open-holds, feed_name-holds, feed_declared-holds, feed_minus-holds, feed_assign-holds, feed_class_name-holds, feed_class_colon-holds, feed_member_name-holds, begin_member-holds, feed_member-holds, begin_declaration-holds}
use Rattle.cxx_parser.proofs.KeepsExpressions.{feed_argument-holds, feed_expression-holds, feed_operand-holds, feed_path-holds, feed_names-holds, begin_operand-holds, feed_open-holds}
use Rattle.cxx_parser.proofs.KeepsFunctions.{body_holds}
use Rattle.cxx_parser.proofs.KeepsStatements.{begin_statement-holds, begin_simple-holds, begin_plain-holds, begin_named-holds, feed_block-holds, feed_statement-holds, feed_handler-holds, feed_jump-holds, feed_only_name-holds, feed_first_name-holds, feed_int-holds, feed_int_name-holds, feed_object_name-holds}
use Rattle.cxx_parser.proofs.KeepsTypes.{feed_param-holds, feed_type-holds, feed_value_type-holds, feed_const-holds, begin_param-holds, begin_listed-holds, feed_caught-holds, feed_types-holds, feed_listed-holds, begin_caught-holds}
use Rattle.cxx_parser.proofs.Steps.{Where, on_kind_holds}

value_type-holds : (n : ℕ) (F : Fits) (t : Token) (ty : Ty) (W : InType) → ty ≡ Int → Holds n F (after_value_type ty W) → Where (Holds (n + 1) (after t F)) (feed_value_type t ty W)
value_type-holds n F t ty W e w =
    let P : Ty → Type 1 = λ ty. Holds n F (after_value_type ty W) → Where (Holds (n + 1) (after t F)) (feed_value_type t ty W) in
    subst P (sym e) (feed_value_type-holds n F t W) w

-- what holds of a state holds with a token more
pub feed-holds : (n : ℕ) (F : Fits) (t : Token) (s : State) → Holds n F s → Where (Holds (n + 1) (after t F)) (feed n t s)
unfolding feed
feed-holds n F t (expect k s) w = on_kind_holds (Holds (n + 1) (after t F)) k t s (λ is. w t is)
feed-holds n F t (want_name N) w = feed_name-holds n F t N w
feed-holds n F t (want_operand depth ps E) w = begin_operand-holds n F t depth ps E w
feed-holds n F t (have_operand depth e ps E) w = feed_operand-holds n F t depth e ps E w
feed-holds n F t (have_expression e E) w = feed_expression-holds n F t e E w
feed-holds n F t (after_path names P) w = feed_names-holds n F t names P w
feed-holds n F t (have_path names P) w = feed_path-holds n F t names P w
feed-holds n F t (after_open depth K) w = feed_open-holds n F t depth K w
feed-holds n F t (have_argument depth es K) w = feed_argument-holds n F t depth es K w
feed-holds n F t (after_const W) w = feed_const-holds n F t W w
feed-holds n F t (after_value_type ty W) w = value_type-holds n F t ty W w.fine w
feed-holds n F t (have_type ty W) w = feed_type-holds n F t ty W w
feed-holds n F t (want_listed (of_specification tys ps h)) w = begin_listed-holds n F t (of_specification tys ps h) tt w
feed-holds n F t (want_listed (of_const_caught place T)) w = begin_listed-holds n F t (of_const_caught place T) tt w
feed-holds n F t (want_listed (of_caught place T)) w = absurd w.fine
feed-holds n F t (have_listed ty L) w = feed_listed-holds n F t ty L w
feed-holds n F t (have_types tys ps h) w = feed_types-holds n F t tys ps h w
feed-holds n F t (want_caught T) w = begin_caught-holds n F t T w
feed-holds n F t (have_caught ty place T) w = feed_caught-holds n F t ty place T w
feed-holds n F t (want_statement depth C) w = begin_statement-holds body_holds n F t depth C w
feed-holds n F t (want_simple depth C) w = begin_simple-holds body_holds n F t depth C w
feed-holds n F t (want_plain depth C) w = begin_plain-holds body_holds n F t depth C w
feed-holds n F t (want_named depth C) w = begin_named-holds body_holds n F t depth C w
feed-holds n F t (in_statements depth ss B) w = feed_block-holds body_holds n F t depth ss B w
feed-holds n F t (have_statement s C) w = feed_statement-holds body_holds C n F t s w
feed-holds n F t (after_jump depth jump) w = feed_jump-holds n F t depth jump w
feed-holds n F t (after_first_name m depth C) w = feed_first_name-holds n F t m depth C w
feed-holds n F t (after_only_name m depth C) w = feed_only_name-holds n F t m depth C w
feed-holds n F t (after_int depth C) w = feed_int-holds n F t depth C w
feed-holds n F t (after_int_name m depth C) w = feed_int_name-holds n F t m depth C w
feed-holds n F t (after_object_name c m depth C) w = feed_object_name-holds n F t c m depth C w
feed-holds n F t (after_handler T) w = feed_handler-holds body_holds n F t T w
feed-holds n F t (after_params_open h) w = feed_params_open-holds n F t h w
feed-holds n F t (want_param ps h) w = begin_param-holds n F t ps h w
feed-holds n F t (have_param ps h) w = feed_param-holds n F t ps h w
feed-holds n F t (after_params ps h) w = feed_params-holds n F t ps h w
feed-holds n F t (after_throw_open ps h) w = feed_throw_open-holds n F t ps h w
feed-holds n F t (after_noexcept place ps h) w = feed_noexcept-holds n F t place ps h w
feed-holds n F t (after_noexcept_open place ps h) w = feed_noexcept_open-holds n F t place ps h w
feed-holds n F t (have_signature s) w = feed_signature-holds n F t s w
feed-holds n F t (have_initialiser s) w = feed_initialiser-holds n F t s w
feed-holds n F t (after_declared m start h) w = feed_declared-holds n F t m start h w
feed-holds n F t (after_class_name m ds) w = feed_class_name-holds n F t m ds w
feed-holds n F t (after_class_colon m ds) w = feed_class_colon-holds n F t m ds w
feed-holds n F t (in_class c) w = feed_member-holds n F t c w
feed-holds n F t (want_member c) w = begin_member-holds n F t c w
feed-holds n F t (after_member_name m start c) w = feed_member_name-holds n F t m start c w
feed-holds n F t (after_assign m ds) w = feed_assign-holds n F t m ds w
feed-holds n F t (after_minus m ds) w = feed_minus-holds n F t m ds w
feed-holds n F t (want_declaration ds) w = begin_declaration-holds n F t ds w

-- tokens before others
abbrev pub ahead : List Token → Fits → Fits
ahead ts F us x = F (ts ++ us) x

-- what holds of a state holds with tokens more
pub runs_holds : (limit : ℕ) (ts : List Token) (n : ℕ) (F : Fits) (s last : State) → Holds n F s → runs limit n ts s ≡ Some last → Holds (n + length ts) (ahead ts F) last
runs_holds limit [] n F s last w e = subst (λ (m : ℕ). Holds m F last) (omega arith) (subst (Holds n F) (state_same s last e) w)
runs_holds limit (t ∷ ts) n F s last w e =
    go (feed n t s) (feed-holds n F t s w) e (λ next v f. subst (λ (m : ℕ). Holds m (ahead (t ∷ ts) F) last) (omega arith) (runs_holds limit ts (n + 1) (after t F) next last v f))
  where
    go : (x : Step) → Where (Holds (n + 1) (after t F)) x → goes limit (n + 1) ts (passed limit x) ≡ Some last → ((next : State) → Holds (n + 1) (after t F) next → runs limit (n + 1) ts next ≡ Some last → Holds (n + length (t ∷ ts)) (ahead (t ∷ ts) F) last) → Holds (n + length (t ∷ ts)) (ahead (t ∷ ts) F) last
    go stops h f k = cc
    go (leads next) h f k = k next h f
    go (within d next) h f k = k next h (passed_on limit (n + 1) ts d next last f).1

-- nothing was read
pub nothing_read : AtHolder Fit (of_program [])
nothing_read = record { front = record { written = []; is_public = false; members = [] }; matches = (refl, tt); said = λ ts x g. g }

-- declarations that are read are spelled by the tokens, and functions have their numbers of tokens
pub runs_spelled : (limit : ℕ) (ts : List Token) (ds : List Declaration) → runs limit 0 ts (want_declaration []) ≡ Some (want_declaration ds) → IsSpelled ts ds
runs_spelled limit ts ds e =
    let w = runs_holds limit ts 0 Fit (want_declaration []) (want_declaration ds) nothing_read e in
    record {
      written = w.front.written;
      declarations = w.matches.0;
      spelled = subst (λ (us : List Token). Fit us (spell_declarations w.front.written [])) (append-nil ts) (w.said [] [] tt);
      counted = w.matches.1;
    }
