use Rattle.std.proofs.Common.{sym, ◌∙◌}
use Rattle.cxx_lexer.proofs.Numbers.{decimal_is_digits}
use Rattle.cxx_lexer.proofs.literal.literal_value.Goals as goal

pub int_of-requires-clause-digits : goal.int_of-requires-clause-digits
int_of-requires-clause-digits c = (decimal_is_digits c.args.bytes.now (sym c.is_decimal.ensures ∙ c.if-is_decimal.true)).digits

pub int_of-requires-clause-some : goal.int_of-requires-clause-some
int_of-requires-clause-some c = (decimal_is_digits c.args.bytes.now (sym c.is_decimal.ensures ∙ c.if-is_decimal.true)).some
