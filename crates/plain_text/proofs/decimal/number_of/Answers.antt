use Rattle.std.proofs.Common.{sym, ◌∙◌}
use Rattle.plain_text.proofs.Decimals.{decimal_is_digits}
use Rattle.plain_text.proofs.decimal.number_of.Goals as goal

pub up_to-requires-clause-digits : goal.up_to-requires-clause-digits
up_to-requires-clause-digits c = (decimal_is_digits c.args.text.now (sym c.is_decimal.ensures ∙ c.if-is_decimal.true)).digits

pub up_to-requires-clause-some : goal.up_to-requires-clause-some
up_to-requires-clause-some c = (decimal_is_digits c.args.text.now (sym c.is_decimal.ensures ∙ c.if-is_decimal.true)).some
