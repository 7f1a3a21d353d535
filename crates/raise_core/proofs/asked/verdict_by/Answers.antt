use Rattle.std.proofs.Common.{Option, ap, ◌∙◌}
use Rattle.std.specs.Prelude.{option_map}
use Rattle.frame_walk.specs.Located.{located_seen}
use Rattle.table_forms.specs.Lsda.{Table}
use Rattle.table_forms.specs.Verdict.{verdict}
use Rattle.personality.specs.Seen.{thrown_of}
use Rattle.raise_core.proofs.Lookups.{verdict_same}
use Rattle.raise_core.proofs.asked.verdict_by.Goals as goal

pub returns : goal.returns
returns c = λ fdes is.
    c.personality.ensures ∙
    ap (λ (o : Option Table). verdict o c.args.frame.now.pc c.args.frame.now.signal (thrown_of c.args.thrown.now)) c.table_by.ensures ∙
    verdict_same c.args.machine.now fdes (thrown_of c.args.thrown.now) c.args.frame.now (option_map located_seen c.args.entry.now) is
