use Rattle.std.proofs.Common.{rules, map, ◌≡◌, List, ◌∷◌, ℕ, Vec, Global, subst}
use Rattle.eh_commands.proofs.EachLine.{EachSoFar, one_further}
use Rattle.eh_commands.proofs.lines.put_each.Goals as goal

pub loop-line-preserved : goal.loop-line-preserved
loop-line-preserved g c =
    let texts : List (Vec ℕ Global) → List (List ℕ) = λ lines. map (λ line. line.items) lines in
    let line = c.in-Some.line.now.items in let others = texts c.in-Some.others.now in
    let old = g.Out.Sink.view c.args.out.now in let mid = g.Out.Sink.view c.loop-line.out in let new = g.Out.Sink.view c.put.new.self in
    let parted : texts c.loop-line.rest.now ≡ line ∷ others = search rules in
    let so_far = subst (λ rest. EachSoFar (texts c.args.lines.now) rest old mid) parted c.loop-line.invariant in
    let took = rw c.as_slice.ensures.value at c.in_ok-put.ensures in
    one_further (texts c.args.lines.now) line others old mid new so_far took
