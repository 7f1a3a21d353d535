use Rattle.std.proofs.Common.{sym, ◌∙◌}
use Rattle.plain_text.proofs.Decimals.{decimal_is_digits}
use Rattle.hart_sched.proofs.number.number_in.Goals as goal

pub value_of-requires-clause-digits : goal.value_of-requires-clause-digits
value_of-requires-clause-digits c = (decimal_is_digits c.args.text.now (sym c.is_decimal.ensures ∙ c.if-is_decimal.true)).digits

pub value_of-requires-clause-some : goal.value_of-requires-clause-some
value_of-requires-clause-some c = (decimal_is_digits c.args.text.now (sym c.is_decimal.ensures ∙ c.if-is_decimal.true)).some
