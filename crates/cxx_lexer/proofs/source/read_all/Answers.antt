use Rattle.cxx_lexer.proofs.Cuts.{step_on}
use Rattle.cxx_lexer.proofs.source.read_all.Goals as goal

pub loop-place-preserved : goal.loop-place-preserved
loop-place-preserved c = (
  step_on c.args.source.now c.loop-place.place c.loop-place.tokens.items c.read_part.new.tokens.items c.in_ok-place.place c.loop-place.invariant.0 c.in_ok-place.ensures.steps,
  c.in_ok-place.ensures.few,
  c.in_ok-place.ensures.within,
)
