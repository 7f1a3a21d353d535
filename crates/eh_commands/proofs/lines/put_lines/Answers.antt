use Rattle.std.proofs.Common.{◌≡◌, length, rules, arith}
use Rattle.plain_text.proofs.Texts.{empty}
use Rattle.eh_commands.proofs.TextLines.{all_lines, one_more}
use Rattle.eh_commands.proofs.lines.put_lines.Goals as goal

pub loop-rest-smaller : goal.loop-rest-smaller
loop-rest-smaller g c =
    let some = c.line_length.ensures.some in
    let inside = c.line_length.ensures.inside in
    let back = c.split_at.ensures.back_len in
    omega (arith, some, inside, back)

pub loop-rest-preserved : goal.loop-rest-preserved
loop-rest-preserved g c =
    let took = rw c.split_at.ensures.front at c.in_ok-put.ensures in
    rw c.split_at.ensures.back (one_more c.args.text.now c.loop-rest.rest.now c.line_length.result (g.Out.Sink.view c.args.out.now) (g.Out.Sink.view c.loop-rest.out) (g.Out.Sink.view c.put.new.self) c.loop-rest.invariant c.line_length.ensures took)

pub returns : goal.returns
returns g c =
    let none : length c.loop-rest.rest.now ≡ 0 = search rules in
    all_lines c.args.text.now c.loop-rest.rest.now (g.Out.Sink.view c.args.out.now) (g.Out.Sink.view c.loop-rest.out) c.loop-rest.invariant (empty c.loop-rest.rest.now none)
