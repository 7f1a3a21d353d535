-- Tests and kinds that are found the same are one.
use Rattle.std.proofs.Common.{◌≡◌, ℕ, Bool, true, false, refl, ap, arith}
use Rattle.std.proofs.lemmas.Bool.Decides.{nat_tests}
use Rattle.cxx_ast.specs.Environment.{Kind, int_kind, truth_kind, void_kind, class_kind, no_kind, same_kind}
use Rattle.cxx_ast.specs.ClassRules.{same_test}

pub same_test_is : (a b : Bool) → same_test a b ≡ true → a ≡ b
same_test_is true true h = refl
same_test_is true false h = absurd (cc h)
same_test_is false true h = absurd (cc h)
same_test_is false false h = refl

pub same_kind_is : (a b : Kind) → same_kind a b ≡ true → a ≡ b
same_kind_is int_kind int_kind h = refl
same_kind_is truth_kind truth_kind h = refl
same_kind_is void_kind void_kind h = refl
same_kind_is no_kind no_kind h = refl
same_kind_is (class_kind j) (class_kind k) h = let same : j ≡ k = grind (arith, nat_tests, h) in ap class_kind same
same_kind_is int_kind truth_kind h = absurd (cc h)
same_kind_is int_kind void_kind h = absurd (cc h)
same_kind_is int_kind (class_kind k) h = absurd (cc h)
same_kind_is int_kind no_kind h = absurd (cc h)
same_kind_is truth_kind int_kind h = absurd (cc h)
same_kind_is truth_kind void_kind h = absurd (cc h)
same_kind_is truth_kind (class_kind k) h = absurd (cc h)
same_kind_is truth_kind no_kind h = absurd (cc h)
same_kind_is void_kind int_kind h = absurd (cc h)
same_kind_is void_kind truth_kind h = absurd (cc h)
same_kind_is void_kind (class_kind k) h = absurd (cc h)
same_kind_is void_kind no_kind h = absurd (cc h)
same_kind_is (class_kind j) int_kind h = absurd (cc h)
same_kind_is (class_kind j) truth_kind h = absurd (cc h)
same_kind_is (class_kind j) void_kind h = absurd (cc h)
same_kind_is (class_kind j) no_kind h = absurd (cc h)
same_kind_is no_kind int_kind h = absurd (cc h)
same_kind_is no_kind truth_kind h = absurd (cc h)
same_kind_is no_kind void_kind h = absurd (cc h)
same_kind_is no_kind (class_kind k) h = absurd (cc h)
