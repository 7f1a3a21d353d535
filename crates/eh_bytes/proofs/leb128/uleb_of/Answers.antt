use Rattle.std.proofs.Common.{◌≡◌, ◌≤◌, ◌<◌, ◌+◌, ◌*◌, ◌^◌, ℕ, List, length, Ok, Err, drop, get_or, length-drop, ◌%◌, true, refl, sym, ◌∙◌, ap, arith}
use Rattle.std.specs.Prelude.{nat_lt}
use Rattle.std.proofs.lemmas.Bool.Decides.{nat_tests}
use Rattle.eh_bytes.specs.Cursor.{unread}
use Rattle.eh_bytes.specs.Leb128.{grouped, uleb, in_u64}
use Rattle.eh_bytes.proofs.Grouped.{within, grouped-within, group_last, continued_none}
use Rattle.eh_bytes.proofs.leb128.uleb_of.Goals as goal

-- a byte that does not go on is a number by itself
single : (bytes : List ℕ) → 0 < length bytes → get_or bytes 0 0 < 128 → uleb bytes ≡ Ok (get_or bytes 0 0, 1)
unfolding uleb
single bytes inside last =
    let begins = grouped-within bytes ∙ continued_none (within 10 bytes) in
    let value : 0 + get_or bytes 0 0 % 128 * 1 ≡ get_or bytes 0 0 = omega arith in
    let small : nat_lt (get_or bytes 0 0) (2 ^ 64) ≡ true = grind (arith, nat_tests) in
    ap in_u64 (group_last (grouped bytes) bytes 0 1 0 (omega arith) inside last begins) ∙ rw (value, small) refl

pub returns-then-first-lt128-clause-gives : goal.returns-then-first-lt128-clause-gives
returns-then-first-lt128-clause-gives c =
    let bytes = unread c.args.cursor.now in
    let inside : 0 < length bytes = omega (arith, length-drop c.args.cursor.now.position c.args.cursor.now.bytes, c.left.ensures, c.if-left-gt0.true) in
    let is = c.ahead-first.ensures in
    let last : get_or bytes 0 0 < 128 = omega (arith, c.if-first-lt128.true, is) in
    ap (λ n. Ok (n, 1)) is ∙ sym (single bytes inside last)
