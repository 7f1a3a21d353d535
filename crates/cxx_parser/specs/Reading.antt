-- Reading, a token at a time.
use Rattle.std.specs.Prelude.{ℕ, ◌-◌, List, [], ◌∷◌, length, Result, Ok, Err, nat_lt, if◌then◌else◌}
use Rattle.cxx_ast.specs.declared.token.Token.{Token}
use Rattle.cxx_ast.specs.Limits.{most_depth}
use Rattle.cxx_ast.specs.Plain.{Program}
use Rattle.cxx_parser.specs.Signs.{is_kind}
use Rattle.cxx_parser.specs.States.{State, expect, want_name, want_operand, have_operand, have_expression, after_path, have_path, after_open, have_argument, after_const, after_value_type, have_type, want_listed, have_listed, have_types, want_caught, have_caught, want_statement, want_simple, want_plain, want_named, in_statements, have_statement, after_jump, after_first_name, after_only_name, after_int, after_int_name, after_object_name, after_handler, after_params_open, want_param, have_param, after_params, after_throw_open, after_noexcept, after_noexcept_open, have_signature, have_initialiser, after_declared, after_class_name, after_class_colon, in_class, want_member, after_member_name, after_assign, after_minus, want_declaration, Step, stops, leads, within}
use Rattle.cxx_parser.specs.Expressions.{on_mark, feed_expression, feed_operand, feed_path, feed_names, begin_operand, feed_open, feed_argument}
use Rattle.cxx_parser.specs.Types.{feed_param, feed_type, feed_value_type, feed_const, begin_param, begin_listed, feed_caught, feed_listed, feed_types, begin_caught}
use Rattle.cxx_parser.specs.Statements.{begin_statement, begin_simple, begin_plain, begin_named, feed_block, feed_statement, feed_handler, feed_jump, feed_only_name, feed_first_name, feed_int, feed_int_name, feed_object_name}
use Rattle.cxx_parser.specs.Functions.{feed_signature, feed_initialiser, feed_params_open, feed_params, feed_throw_open, feed_noexcept, feed_noexcept_open}
use Rattle.cxx_parser.specs.Classes.{feed_name, feed_declared, feed_minus, feed_assign, feed_class_name, feed_class_colon, feed_member_name, feed_member, begin_member, begin_declaration}

-- what a token does in a state, with so many tokens before it
unfoldable pub feed : ℕ → Token → State → Step
feed at t (expect k s) = on_mark (is_kind k t.kind) s
feed at t (want_name N) = feed_name t N
feed at t (want_operand depth ps E) = begin_operand t depth ps E
feed at t (have_operand depth e ps E) = feed_operand t depth e ps E
feed at t (have_expression e E) = feed_expression t e E
feed at t (after_path names P) = feed_names t names P
feed at t (have_path names P) = feed_path t names P
feed at t (after_open depth K) = feed_open t depth K
feed at t (have_argument depth es K) = feed_argument t depth es K
feed at t (after_const W) = feed_const t W
feed at t (after_value_type ty W) = feed_value_type t ty W
feed at t (have_type ty W) = feed_type t ty W
feed at t (want_listed L) = begin_listed t L
feed at t (have_listed ty L) = feed_listed t ty L
feed at t (have_types tys ps h) = feed_types t tys ps h
feed at t (want_caught T) = begin_caught t T
feed at t (have_caught ty place T) = feed_caught t ty place T
feed at t (want_statement depth C) = begin_statement t depth C
feed at t (want_simple depth C) = begin_simple t depth C
feed at t (want_plain depth C) = begin_plain t depth C
feed at t (want_named depth C) = begin_named t depth C
feed at t (in_statements depth ss B) = feed_block at t depth ss B
feed at t (have_statement s C) = feed_statement at t s C
feed at t (after_jump depth J) = feed_jump t depth J
feed at t (after_first_name n depth C) = feed_first_name t n depth C
feed at t (after_only_name n depth C) = feed_only_name t n depth C
feed at t (after_int depth C) = feed_int t depth C
feed at t (after_int_name n depth C) = feed_int_name t n depth C
feed at t (after_object_name c n depth C) = feed_object_name t c n depth C
feed at t (after_handler T) = feed_handler at t T
feed at t (after_params_open h) = feed_params_open t h
feed at t (want_param ps h) = begin_param t ps h
feed at t (have_param ps h) = feed_param t ps h
feed at t (after_params ps h) = feed_params at t ps h
feed at t (after_throw_open ps h) = feed_throw_open t ps h
feed at t (after_noexcept place ps h) = feed_noexcept at t place ps h
feed at t (after_noexcept_open place ps h) = feed_noexcept_open t place ps h
feed at t (have_signature s) = feed_signature at t s
feed at t (have_initialiser s) = feed_initialiser t s
feed at t (after_declared n start h) = feed_declared t n start h
feed at t (after_class_name n ds) = feed_class_name t n ds
feed at t (after_class_colon n ds) = feed_class_colon t n ds
feed at t (in_class c) = feed_member at t c
feed at t (want_member c) = begin_member at t c
feed at t (after_member_name n start c) = feed_member_name t n start c
feed at t (after_assign n ds) = feed_assign t n ds
feed at t (after_minus n ds) = feed_minus t n ds
feed at t (want_declaration ds) = begin_declaration at t ds

-- why there is no tree, with the place
pub data Fault : Type 0 where
  unexpected : ℕ → Fault
  too_deep : ℕ → Fault

-- what reading gives
abbrev pub Answer : Type 0
Answer = Result Program Fault

-- the program that is read of so many tokens, or the end where something is missing
abbrev pub finished : ℕ → ℕ → State → Answer
finished total end (want_declaration ds) = Ok (record { declarations = ds; tokens = total; length = end })
finished total end _ = Err (unexpected end)

-- the program that is read from a state of the last tokens of so many, or the first fault
unfoldable pub read : ℕ → ℕ → List Token → State → Answer
read total end [] s = finished total end s
read total end (t ∷ ts) s = elim (feed (total - length (t ∷ ts)) t s) [
  | stops ↦ Err (unexpected t.place)
  | leads next ↦ read total end ts next
  | within depth next ↦ if nat_lt most_depth depth then Err (too_deep t.place) else read total end ts next
]

-- the program that tokens are, in a source of a length, or their first fault
abbrev pub reading : List Token → ℕ → Answer
reading tokens end = read (length tokens) end tokens (want_declaration [])
