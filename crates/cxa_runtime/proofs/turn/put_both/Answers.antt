use Rattle.cxa_runtime.proofs.Written.{put_failed, put_more}
use Rattle.cxa_runtime.proofs.turn.put_both.Goals as goal

pub returns-in-Err : goal.returns-in-Err
returns-in-Err g c = put_failed c.args.trace c.args.first c.args.second (g.S.Sink.view c.args.sink.now) (g.S.Sink.view c.put_item.new.out) c.in-Err.e (c.in-Err.ensures {u = tt})

pub returns-in-Ok : goal.returns-in-Ok
returns-in-Ok g c = put_more c.args.trace c.args.first c.args.second (g.S.Sink.view c.args.sink.now) (g.S.Sink.view c.put_item.new.out) (g.S.Sink.view c.put_item-in-Ok.new.out) c.put_item-in-Ok.result (c.in-Ok.ensures {u = tt}) c.put_item-in-Ok.ensures
