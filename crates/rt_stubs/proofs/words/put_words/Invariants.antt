use Rattle.std.proofs.Common.{◌≡◌, ◌++◌, take}
use Rattle.rt_stubs.specs.Listing.{words_of}
use Rattle.rt_stubs.proofs.words.put_words.Given as goal

abbrev pub invariant-loop-line : goal.invariant-loop-line
invariant-loop-line l = l.words.items ≡ l.initial.words.items ++ words_of (take l.line-index l.code)
