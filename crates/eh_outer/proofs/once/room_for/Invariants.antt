use Rattle.std.proofs.Common.{◌≡◌, take}
use Rattle.eh_outer.specs.Domain.{RepliesAreInts}
use Rattle.eh_outer.specs.Replies.{raise_count}
use Rattle.eh_outer.proofs.once.room_for.Given as goal

abbrev pub invariant-loop-reply : goal.invariant-loop-reply
invariant-loop-reply l = (l.room ≡ raise_count (take l.reply-index l.replies)) × RepliesAreInts (take l.reply-index l.replies)
