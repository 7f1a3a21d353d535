-- What is read is a tree of the tokens.
use Rattle.std.specs.Prelude.{ℕ, ◌+◌, ◌≡◌, ◌≤◌, List, [], ◌∷◌, Some, map}
use Rattle.std.proofs.Common.{sym, subst, arith}
use Rattle.cxx_ast.specs.declared.token.Token.{Token}
use Rattle.cxx_ast.specs.declared.types.Param.{Param}
use Rattle.cxx_ast.specs.Depth.{below_members, below_functions, declaration_depth, depth}
use Rattle.cxx_ast.specs.Grammatical.{Each, IsDataMember, IsMember, IsFunction, IsGrammatical}
use Rattle.cxx_ast.specs.Piece.{Fit}
use Rattle.cxx_ast.specs.Plain.{Declaration, Function, class_declaration, global_declaration, function_declaration}
use Rattle.cxx_ast.specs.Written.{Member, data_member, function_member, Written, written_class, written_global, written_function, data_members, functions, declared, spell_declarations}
use Rattle.cxx_parser.specs.Contexts.{of_specification, of_caught, of_const_caught}
use Rattle.cxx_parser.specs.Reading.{feed}
use Rattle.cxx_parser.specs.Signs.{is_kind}
use Rattle.cxx_parser.proofs.Spelled.{IsCounted, AreCounted}
use Rattle.cxx_parser.specs.States.{State, expect, want_name, want_operand, have_operand, have_expression, after_path, have_path, after_open, have_argument, after_const, after_value_type, have_type, want_listed, have_listed, have_types, want_caught, have_caught, want_statement, want_simple, want_plain, want_named, in_statements, have_statement, after_jump, after_first_name, after_only_name, after_int, after_int_name, after_object_name, after_handler, after_params_open, want_param, have_param, after_params, after_throw_open, after_noexcept, after_noexcept_open, have_signature, have_initialiser, after_declared, after_class_name, after_class_colon, in_class, want_member, after_member_name, after_assign, after_minus, want_declaration, Step, stops, leads, within}
use Rattle.cxx_parser.proofs.ReadSpelled.{runs_spelled}
use Rattle.cxx_parser.proofs.Runs.{passed, runs, goes, state_same, passed_on}
use Rattle.cxx_parser.proofs.Sound.{IsSoundFunction, IsSoundMember, IsSoundDeclaration, Sound}
use Rattle.cxx_parser.proofs.SoundDeclarations.{body_sound, feed_signature-sound, feed_initialiser-sound, feed_params_open-sound, feed_params-sound, feed_throw_open-sound, feed_noexcept-sound, feed_noexcept_open-sound, feed_name-sound, feed_declared-sound, feed_minus-sound, feed_assign-sound, feed_class_name-sound, feed_class_colon-sound, feed_member_name-sound, feed_member-sound, begin_declaration-sound}
use Rattle.cxx_parser.proofs.SoundExpressions.{feed_argument-sound, feed_expression-sound, feed_operand-sound, feed_names-sound, begin_operand-sound, feed_open-sound}
use Rattle.cxx_parser.proofs.SoundStatements.{begin_statement-sound, feed_block-sound, have_statement-sound, feed_handler-sound, feed_jump-sound, feed_first_name-sound, feed_int-sound, feed_int_name-sound, feed_object_name-sound}
use Rattle.cxx_parser.proofs.SoundSteps.{Wherever, on_mark_sound}
use Rattle.cxx_parser.proofs.SoundTypes.{feed_param-sound, feed_type-sound, feed_value_type-sound, feed_const-sound, begin_param-sound, begin_listed-sound, feed_caught-sound, feed_listed-sound, begin_caught-sound}

-- what is sound is so with a token more
pub feed-sound : (limit : ℕ) → 2 ≤ limit → (n : ℕ) (t : Token) (s : State) → Sound limit s → Wherever limit (Sound limit) (feed n t s)
unfolding feed
feed-sound limit big n t (expect k s) w = on_mark_sound limit (Sound limit) (is_kind k t.kind) s w.1
feed-sound limit big n t (want_name N) w = feed_name-sound limit t N w
feed-sound limit big n t (want_operand d ps E) w = begin_operand-sound limit t d ps E w.1
feed-sound limit big n t (have_operand d e ps E) w = feed_operand-sound limit big t d e ps E w
feed-sound limit big n t (have_expression e E) w = feed_expression-sound limit big t e E w
feed-sound limit big n t (after_path names P) w = feed_names-sound limit big t names P w
feed-sound limit big n t (have_path names P) w = absurd w
feed-sound limit big n t (after_open d K) w = feed_open-sound limit big t d K w
feed-sound limit big n t (have_argument d es K) w = feed_argument-sound limit big t d es K w
feed-sound limit big n t (after_const W) w = feed_const-sound limit t W w
feed-sound limit big n t (after_value_type ty W) w = feed_value_type-sound limit t ty W w
feed-sound limit big n t (have_type ty W) w = feed_type-sound limit t ty W w
feed-sound limit big n t (want_listed (of_specification tys ps h)) w = begin_listed-sound limit t (of_specification tys ps h) tt w.1
feed-sound limit big n t (want_listed (of_const_caught place T)) w = begin_listed-sound limit t (of_const_caught place T) tt w.1
feed-sound limit big n t (want_listed (of_caught place T)) w = absurd w.0
feed-sound limit big n t (have_listed ty L) w = feed_listed-sound limit t ty L w
feed-sound limit big n t (have_types tys ps h) w = absurd w
feed-sound limit big n t (want_caught T) w = begin_caught-sound limit t T w
feed-sound limit big n t (have_caught ty place T) w = feed_caught-sound limit t ty place T w
feed-sound limit big n t (want_statement d C) w = begin_statement-sound limit (body_sound limit big) t d C w.1
feed-sound limit big n t (want_simple d C) w = absurd w
feed-sound limit big n t (want_plain d C) w = absurd w
feed-sound limit big n t (want_named d C) w = absurd w
feed-sound limit big n t (in_statements d ss B) w = feed_block-sound limit (body_sound limit big) n t d ss B w
feed-sound limit big n t (have_statement s C) w = have_statement-sound limit (body_sound limit big) n t s C w
feed-sound limit big n t (after_jump d jump) w = feed_jump-sound limit t d jump w
feed-sound limit big n t (after_first_name m d C) w = feed_first_name-sound limit big t m d C w
feed-sound limit big n t (after_only_name m d C) w = absurd w
feed-sound limit big n t (after_int d C) w = feed_int-sound limit t d C w
feed-sound limit big n t (after_int_name m d C) w = feed_int_name-sound limit t m d C w
feed-sound limit big n t (after_object_name c m d C) w = feed_object_name-sound limit t c m d C w
feed-sound limit big n t (after_handler T) w = feed_handler-sound limit (body_sound limit big) n t T w
feed-sound limit big n t (after_params_open h) w = feed_params_open-sound limit t h w
feed-sound limit big n t (want_param ps h) w = begin_param-sound limit t ps h w
feed-sound limit big n t (have_param ps h) w = feed_param-sound limit t ps h w
feed-sound limit big n t (after_params ps h) w = feed_params-sound limit big n t ps h w
feed-sound limit big n t (after_throw_open ps h) w = feed_throw_open-sound limit t ps h w
feed-sound limit big n t (after_noexcept place ps h) w = feed_noexcept-sound limit big n t place ps h w
feed-sound limit big n t (after_noexcept_open place ps h) w = feed_noexcept_open-sound limit t place ps h w
feed-sound limit big n t (have_signature s) w = feed_signature-sound limit big n t s w
feed-sound limit big n t (have_initialiser s) w = feed_initialiser-sound limit t s w
feed-sound limit big n t (after_declared m start h) w = feed_declared-sound limit t m start h w
feed-sound limit big n t (after_class_name m ds) w = feed_class_name-sound limit t m ds w
feed-sound limit big n t (after_class_colon m ds) w = feed_class_colon-sound limit t m ds w
feed-sound limit big n t (in_class c) w = feed_member-sound limit n t c w
feed-sound limit big n t (want_member c) w = absurd w
feed-sound limit big n t (after_member_name m start c) w = feed_member_name-sound limit t m start c w
feed-sound limit big n t (after_assign m ds) w = feed_assign-sound limit t m ds w
feed-sound limit big n t (after_minus m ds) w = feed_minus-sound limit t m ds w
feed-sound limit big n t (want_declaration ds) w = begin_declaration-sound limit n t ds w

-- what is read from a sound state is so
pub runs_sound : (limit : ℕ) → 2 ≤ limit → (ts : List Token) (n : ℕ) (s last : State) → Sound limit s → runs limit n ts s ≡ Some last → Sound limit last
runs_sound limit big [] n s last w e = subst (Sound limit) (state_same s last e) w
runs_sound limit big (t ∷ ts) n s last w e = go (feed n t s) (feed-sound limit big n t s w) e (λ next v f. runs_sound limit big ts (n + 1) next last v f)
  where
    go : (x : Step) → Wherever limit (Sound limit) x → goes limit (n + 1) ts (passed limit x) ≡ Some last → ((next : State) → Sound limit next → runs limit (n + 1) ts next ≡ Some last → Sound limit last) → Sound limit last
    go stops h f k = cc
    go (leads next) h f k = k next h f
    go (within d next) h f k = let p = passed_on limit (n + 1) ts d next last f in k next (h p.0) p.1

-- with their numbers of tokens they are grammatical
function_grammatical : (limit : ℕ) → (f : Function) → IsSoundFunction limit f → IsCounted f → IsFunction f
function_grammatical limit f s c = record { form = s.form; parameters = s.parameters; specification = s.specification; initialisers = s.initialisers; body = s.body; tokens = c }

members_grammatical : (limit : ℕ) → (ms : List Member) → Each IsDataMember (data_members ms) → Each (IsSoundMember limit) (functions ms) → Each IsCounted (functions ms) → Each IsMember ms
members_grammatical limit [] d s c = tt
members_grammatical limit (data_member p ∷ ms) d s c = (d.0, members_grammatical limit ms d.1 s c)
members_grammatical limit (function_member f ∷ ms) d s c = ((function_grammatical limit f s.0.0 c.0, s.0.1), members_grammatical limit ms d s.1 c.1)

declaration_grammatical : (limit : ℕ) → (w : Written) → IsSoundDeclaration limit (declared w) → AreCounted w → IsGrammatical w
declaration_grammatical limit (written_class n is_public base ms) s c = members_grammatical limit ms s.0 s.1 c
declaration_grammatical limit (written_global n v) s c = c
declaration_grammatical limit (written_function f) s c = (function_grammatical limit f s.0 c, s.1)

all_grammatical : (limit : ℕ) → (ws : List Written) → Each (IsSoundDeclaration limit) (map declared ws) → Each AreCounted ws → Each IsGrammatical ws
all_grammatical limit [] s c = tt
all_grammatical limit (w ∷ ws) s c = (declaration_grammatical limit w s.0 c.0, all_grammatical limit ws s.1 c.1)

-- and not too deep
functions_shallow : (limit : ℕ) → (fs : List Function) → Each (IsSoundMember limit) fs → below_functions fs ≤ limit
functions_shallow limit [] s = omega arith
functions_shallow limit (f ∷ fs) s = let r = functions_shallow limit fs s.1 in let k = s.0.0.shallow in omega (arith, r, k)

members_shallow : (limit : ℕ) → 2 ≤ limit → (ps : List Param) → below_members ps ≤ limit
members_shallow limit big [] = omega arith
members_shallow limit big (p ∷ ps) = omega arith

declaration_shallow : (limit : ℕ) → 2 ≤ limit → (d : Declaration) → IsSoundDeclaration limit d → declaration_depth d ≤ limit
declaration_shallow limit big (class_declaration c) s = let m = members_shallow limit big c.members in let f = functions_shallow limit c.functions s.1 in omega (arith, m, f)
declaration_shallow limit big (global_declaration n v) s = omega arith
declaration_shallow limit big (function_declaration f) s = s.0.shallow

all_shallow : (limit : ℕ) → 2 ≤ limit → (ds : List Declaration) → Each (IsSoundDeclaration limit) ds → depth ds ≤ limit
all_shallow limit big [] s = omega arith
all_shallow limit big (d ∷ ds) s = let h = declaration_shallow limit big d s.0 in let r = all_shallow limit big ds s.1 in omega (arith, h, r)

-- what tokens are that were read as declarations
pub record ReadAs (limit : ℕ) (tokens : List Token) (ds : List Declaration) : Type 0 where
  pub written : List Written
  pub declarations : map declared written ≡ ds
  pub grammatical : Each IsGrammatical written
  pub spelled : Fit tokens (spell_declarations written [])
  pub shallow : depth ds ≤ limit

pub runs_read_as : (limit : ℕ) → 2 ≤ limit → (tokens : List Token) (ds : List Declaration) → runs limit 0 tokens (want_declaration []) ≡ Some (want_declaration ds) → ReadAs limit tokens ds
runs_read_as limit big tokens ds e =
    let s = runs_spelled limit tokens ds e in
    let g = runs_sound limit big tokens 0 (want_declaration []) (want_declaration ds) tt e in
    record {
      written = s.written;
      declarations = s.declarations;
      grammatical = all_grammatical limit s.written (subst (Each (IsSoundDeclaration limit)) (sym s.declarations) g) s.counted;
      spelled = s.spelled;
      shallow = all_shallow limit big ds g;
    }
