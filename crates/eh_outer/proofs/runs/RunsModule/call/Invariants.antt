use Rattle.std.proofs.Common.{◌≡◌, ◌-◌, ◌++◌, drop, replicate, length}
use Rattle.eh_outer.specs.Replies.{replies_of}
use Rattle.eh_outer.proofs.runs.RunsModule.call.Given as goal

abbrev pub invariant-loop-self : goal.invariant-loop-self
invariant-loop-self l =
    (replicate l.self-inside.left l.self-inside.reply ++ replies_of (drop l.self-inside.begun l.self-inside.runs.items) ≡ l.fn.self.seen.rest)
    × (l.self-inside.tokens ≡ l.initial.self-inside.tokens)

abbrev pub decreases-loop-self : goal.decreases-loop-self
decreases-loop-self l = length l.self-inside.runs.items - l.self-inside.begun
