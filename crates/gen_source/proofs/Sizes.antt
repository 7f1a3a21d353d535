-- The source is short.
use Rattle.std.proofs.Common.{ℕ, zero, suc, ◌+◌, ◌*◌, ◌^◌, ◌≤◌, ◌++◌, length, length-append, arith}
use Rattle.std.specs.Prelude.{codes}
use Rattle.std.specs.Fmt.{decimal}
use Rattle.std.proofs.lemmas.Fmt.{length-decimal-le}
use Rattle.gen_source.specs.Source.{level_line, main_line, levels_behind, generated}
use Rattle.gen_source.specs.Laws.{most}

digits : (n : ℕ) → n ≤ 2000 → length (decimal n) ≤ 4
digits n few = length-decimal-le 4 n (omega arith) (omega (arith, few)) (omega (arith, few))

level_short : (i j : ℕ) → i ≤ 2000 → j ≤ 2000 → length (level_line i j) ≤ 100
level_short i j a b =
    let x = digits i a in
    let y = digits j b in
    let end = codes "(); } catch (int e) { throw e + 1; } }\n" in
    let s = length-append (decimal j) end in
    let t = length-append (decimal i) (codes "); try { f" ++ (decimal j ++ end)) in
    let u = length-append (decimal i) (codes "() { A a(" ++ (decimal i ++ (codes "); try { f" ++ (decimal j ++ end)))) in
    omega (arith, x, y, s, t, u)

levels_short : (j count : ℕ) → j + count ≤ 2000 → length (levels_behind j count) ≤ 100 * count
unfolding levels_behind
levels_short j zero few = omega arith
levels_short j (suc count) few =
    let a = level_short (j + 1) j (omega (arith, few)) (omega (arith, few)) in
    let b = levels_short (j + 1) count (omega (arith, few)) in
    let c = length-append (level_line (j + 1) j) (levels_behind (j + 1) count) in omega (arith, a, b, c)

pub is_short : (n : ℕ) → n ≤ most → length (generated n) ≤ 2 ^ 20
unfolding generated
is_short n few =
    let a = levels_short 0 n (omega (arith, few)) in
    let d = digits n few in
    let b = length-append (levels_behind 0 n) (main_line n) in
    let c = length-append (decimal n) (codes "(); } catch (int e) { write_int(e); } return 0; }\n") in omega (arith, a, b, c, d)
