use Rattle.eh_commands.specs.Image.{summary_line}
use Rattle.eh_commands.proofs.ImageCauses.{failed_put, summary_failed}
use Rattle.eh_commands.proofs.image.check_bytes.Goals as goal

pub returns-in-Err-Failed : goal.returns-in-Err-Failed
returns-in-Err-Failed g c =
    let failed = failed_put (summary_line c.in-Ok.summary) (g.Out.Sink.view c.args.out.now) (g.Out.Sink.view c.put_summary.new.out) c.in-Err-Failed.field-0 c.in-Err-Failed.ensures in
    summary_failed c.args.image.now c.in-Ok.summary (g.Out.Sink.view c.args.out.now) (g.Out.Sink.view c.put_summary.new.out) c.in-Ok.ensures failed
