use Rattle.std.proofs.Common.{rules, ◌≡◌, ◌∷◌}
use Rattle.eh_commands.proofs.Meanings.{one_gone, one_cut}
use Rattle.eh_commands.proofs.mean.put_items.Goals as goal

pub returns-in_err-put_item : goal.returns-in_err-put_item
returns-in_err-put_item g c =
    let e : c.loop-first.rest.now ≡ c.in-Some.first.now ∷ c.in-Some.others.now = search rules in
    let cut = one_cut c.args.trace c.args.items.now c.loop-first.rest.now c.in-Some.first.now c.in-Some.others.now (g.Out.Sink.view c.args.out.now) (g.Out.Sink.view c.loop-first.out) (g.Out.Sink.view c.put_item.new.out)
    c.in_err-put_item.field-0.0 c.loop-first.invariant e c.in_err-put_item.ensures in
    search (rules, cut)

pub loop-first-preserved : goal.loop-first-preserved
loop-first-preserved g c =
    let e : c.loop-first.rest.now ≡ c.in-Some.first.now ∷ c.in-Some.others.now = search rules in
    one_gone c.args.trace c.args.items.now c.loop-first.rest.now c.in-Some.first.now c.in-Some.others.now (g.Out.Sink.view c.args.out.now) (g.Out.Sink.view c.loop-first.out) (g.Out.Sink.view c.put_item.new.out)
    c.loop-first.invariant e c.in_ok-put_item.ensures
