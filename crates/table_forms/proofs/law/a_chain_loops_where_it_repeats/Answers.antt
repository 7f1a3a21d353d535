use Rattle.table_forms.proofs.Loops.{loop_exact}
use Rattle.table_forms.proofs.law.a_chain_loops_where_it_repeats.Goals as goal

pub returns : goal.returns
returns c = λ part h a. loop_exact part h a
