use Rattle.std.proofs.Common.{◌≡◌, take}
use Rattle.eh_outer.specs.Domain.{RunsAreInts}
use Rattle.eh_outer.specs.Replies.{room_of}
use Rattle.eh_outer.proofs.runs.room_for.Given as goal

abbrev pub invariant-loop-reply : goal.invariant-loop-reply
invariant-loop-reply l = (l.room ≡ room_of (take l.reply-index l.runs)) × RunsAreInts (take l.reply-index l.runs)
