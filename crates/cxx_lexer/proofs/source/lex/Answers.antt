use Rattle.cxx_ast.specs.LexFault.{bad_byte, literal_range, open_comment, too_many_tokens}
use Rattle.cxx_lexer.proofs.Exactness.{tokens_exact, fault_exact}
use Rattle.cxx_lexer.proofs.source.lex.Goals as goal

pub returns-clause-tokens : goal.returns-clause-tokens
returns-clause-tokens c = tokens_exact c.args.source.now c.read_all.result c.read_all.ensures

pub returns-clause-bad_byte : goal.returns-clause-bad_byte
returns-clause-bad_byte c = fault_exact c.args.source.now c.read_all.result c.read_all.ensures bad_byte

pub returns-clause-literal_range : goal.returns-clause-literal_range
returns-clause-literal_range c = fault_exact c.args.source.now c.read_all.result c.read_all.ensures literal_range

pub returns-clause-open_comment : goal.returns-clause-open_comment
returns-clause-open_comment c = fault_exact c.args.source.now c.read_all.result c.read_all.ensures open_comment

pub returns-clause-too_many_tokens : goal.returns-clause-too_many_tokens
returns-clause-too_many_tokens c = fault_exact c.args.source.now c.read_all.result c.read_all.ensures too_many_tokens
