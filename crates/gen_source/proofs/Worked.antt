-- The sources of sizes 1 and 2, byte by byte.
use Rattle.std.proofs.Common.{◌≡◌, refl, arith}
use Rattle.std.specs.Prelude.{codes}
use Rattle.std.specs.Fmt.{decimal}
use Rattle.std.proofs.lemmas.Fmt.{decimal_digit}
use Rattle.gen_source.specs.Source.{generated, levels_behind}

zero : decimal 0 ≡ codes "0"
zero = decimal_digit 0 (omega arith)

one : decimal 1 ≡ codes "1"
one = decimal_digit 1 (omega arith)

two : decimal 2 ≡ codes "2"
two = decimal_digit 2 (omega arith)

size_1 : generated 1 ≡ codes "struct A { int n; A(int k) { n = k; } ~A() { write_int(n); } };\nvoid f0() { A a(0); throw 0; }\nvoid f1() { A a(1); try { f0(); } catch (int e) { throw e + 1; } }\nint main() { try { f1(); } catch (int e) { write_int(e); } return 0; }\n"
unfolding generated levels_behind
size_1 = rw (zero, one) refl

size_2 : generated 2 ≡ codes "struct A { int n; A(int k) { n = k; } ~A() { write_int(n); } };\nvoid f0() { A a(0); throw 0; }\nvoid f1() { A a(1); try { f0(); } catch (int e) { throw e + 1; } }\nvoid f2() { A a(2); try { f1(); } catch (int e) { throw e + 1; } }\nint main() { try { f2(); } catch (int e) { write_int(e); } return 0; }\n"
unfolding generated levels_behind
size_2 = rw (zero, one, two) refl
