use native.Mathlib.Omega.{arith}
use Rattle.std.proofs.Common.{◌≡◌, ◌≤◌, ◌<◌, ◌++◌, length, subst, IfSome}
use Rattle.std.specs.Io.Take.{take_limit, take_remaining}
use Rattle.eh_host.proofs.Reading.{all_read}
use Rattle.eh_host.proofs.whole.read_whole.Goals as goal

pub returns : goal.returns
returns g c =
    let reader = c.args.reader in
    let bytes = c.read_to_end-read.new.buf.items in
    let count = c.read_to_end-read.new.buf.ok.0 in
    let small = c.read_to_end-read.new.buf.small in
    let seen = c.len-seen.ensures in
    let within = c.if-seen-limit.false in
    let sum = c.saturating_add.ensures in
    let most = c.take.ensures.limit in
    let few : length bytes ≤ c.args.limit = omega (arith, count, seen, within) in
    let asked : length bytes < take_limit c.take.result = omega (arith, count, small, most, sum, few) in
    let front = subst (λ old. IfSome (take_remaining g.R.Read.remaining c.take.result) (λ xs. bytes ≡ old ++ xs)) c.new-bytes.ensures.items c.in-Ok-2.ensures.bytes in
    (few, all_read g.R.Read.remaining c.take.result reader bytes c.take.ensures.inner front asked)
