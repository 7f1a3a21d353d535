-- Where the operations of the runtime's own functions stand.
use Rattle.std.proofs.Common.{◌≡◌, ℕ, zero, suc, ℤ, List, [], ◌∷◌, Option, Some, None, refl, ap, subst}
use Rattle.std.specs.Prelude.{⊤, slice_get}
use Rattle.linear_forms.specs.Linear.{LinearOp, jump_filter, resume, unexpected}
use Rattle.linear_forms.specs.Stub.{end_catch, call_unexpected, CodeOp, linear, StubRow, end_catch_rows, terminating_rows, call_unexpected_rows, stub_op}
use Rattle.linear_forms.specs.Activation.{compiled_op}

-- the runtime's own functions go on outwards, and test a filter, at one place

pub catch_resumes : (p s : ℕ) → stub_op end_catch p ≡ Some (linear (resume s)) → (6 ≡ p) × (2 ≡ s)
catch_resumes zero s e = absurd (cc e)
catch_resumes (suc zero) s e = absurd (cc e)
catch_resumes (suc (suc zero)) s e = absurd (cc e)
catch_resumes (suc (suc (suc zero))) s e = absurd (cc e)
catch_resumes (suc (suc (suc (suc zero)))) s e = absurd (cc e)
catch_resumes (suc (suc (suc (suc (suc zero))))) s e = absurd (cc e)
catch_resumes (suc (suc (suc (suc (suc (suc zero)))))) s e = (refl, cc e)
catch_resumes (suc (suc (suc (suc (suc (suc (suc p))))))) s e = absurd (cc e)

pub passing_resumes : (p s : ℕ) → stub_op call_unexpected p ≡ Some (linear (resume s)) → (17 ≡ p) × (4 ≡ s)
passing_resumes zero s e = absurd (cc e)
passing_resumes (suc zero) s e = absurd (cc e)
passing_resumes (suc (suc zero)) s e = absurd (cc e)
passing_resumes (suc (suc (suc zero))) s e = absurd (cc e)
passing_resumes (suc (suc (suc (suc zero)))) s e = absurd (cc e)
passing_resumes (suc (suc (suc (suc (suc zero))))) s e = absurd (cc e)
passing_resumes (suc (suc (suc (suc (suc (suc zero)))))) s e = absurd (cc e)
passing_resumes (suc (suc (suc (suc (suc (suc (suc zero))))))) s e = absurd (cc e)
passing_resumes (suc (suc (suc (suc (suc (suc (suc (suc zero)))))))) s e = absurd (cc e)
passing_resumes (suc (suc (suc (suc (suc (suc (suc (suc (suc zero))))))))) s e = absurd (cc e)
passing_resumes (suc (suc (suc (suc (suc (suc (suc (suc (suc (suc zero)))))))))) s e = absurd (cc e)
passing_resumes (suc (suc (suc (suc (suc (suc (suc (suc (suc (suc (suc zero))))))))))) s e = absurd (cc e)
passing_resumes (suc (suc (suc (suc (suc (suc (suc (suc (suc (suc (suc (suc zero)))))))))))) s e = absurd (cc e)
passing_resumes (suc (suc (suc (suc (suc (suc (suc (suc (suc (suc (suc (suc (suc zero))))))))))))) s e = absurd (cc e)
passing_resumes (suc (suc (suc (suc (suc (suc (suc (suc (suc (suc (suc (suc (suc (suc zero)))))))))))))) s e = absurd (cc e)
passing_resumes (suc (suc (suc (suc (suc (suc (suc (suc (suc (suc (suc (suc (suc (suc (suc zero))))))))))))))) s e = absurd (cc e)
passing_resumes (suc (suc (suc (suc (suc (suc (suc (suc (suc (suc (suc (suc (suc (suc (suc (suc zero)))))))))))))))) s e = absurd (cc e)
passing_resumes (suc (suc (suc (suc (suc (suc (suc (suc (suc (suc (suc (suc (suc (suc (suc (suc (suc zero))))))))))))))))) s e = (refl, cc e)
passing_resumes (suc (suc (suc (suc (suc (suc (suc (suc (suc (suc (suc (suc (suc (suc (suc (suc (suc (suc p)))))))))))))))))) s e = absurd (cc e)

pub passing_tests : (p s l : ℕ) (z : ℤ) → stub_op call_unexpected p ≡ Some (linear (jump_filter s z l)) → (4 ≡ p) × (5 ≡ s)
passing_tests zero s l z e = absurd (cc e)
passing_tests (suc zero) s l z e = absurd (cc e)
passing_tests (suc (suc zero)) s l z e = absurd (cc e)
passing_tests (suc (suc (suc zero))) s l z e = absurd (cc e)
passing_tests (suc (suc (suc (suc zero)))) s l z e = (refl, cc e)
passing_tests (suc (suc (suc (suc (suc zero))))) s l z e = absurd (cc e)
passing_tests (suc (suc (suc (suc (suc (suc zero)))))) s l z e = absurd (cc e)
passing_tests (suc (suc (suc (suc (suc (suc (suc zero))))))) s l z e = absurd (cc e)
passing_tests (suc (suc (suc (suc (suc (suc (suc (suc zero)))))))) s l z e = absurd (cc e)
passing_tests (suc (suc (suc (suc (suc (suc (suc (suc (suc zero))))))))) s l z e = absurd (cc e)
passing_tests (suc (suc (suc (suc (suc (suc (suc (suc (suc (suc zero)))))))))) s l z e = absurd (cc e)
passing_tests (suc (suc (suc (suc (suc (suc (suc (suc (suc (suc (suc zero))))))))))) s l z e = absurd (cc e)
passing_tests (suc (suc (suc (suc (suc (suc (suc (suc (suc (suc (suc (suc zero)))))))))))) s l z e = absurd (cc e)
passing_tests (suc (suc (suc (suc (suc (suc (suc (suc (suc (suc (suc (suc (suc zero))))))))))))) s l z e = absurd (cc e)
passing_tests (suc (suc (suc (suc (suc (suc (suc (suc (suc (suc (suc (suc (suc (suc zero)))))))))))))) s l z e = absurd (cc e)
passing_tests (suc (suc (suc (suc (suc (suc (suc (suc (suc (suc (suc (suc (suc (suc (suc zero))))))))))))))) s l z e = absurd (cc e)
passing_tests (suc (suc (suc (suc (suc (suc (suc (suc (suc (suc (suc (suc (suc (suc (suc (suc zero)))))))))))))))) s l z e = absurd (cc e)
passing_tests (suc (suc (suc (suc (suc (suc (suc (suc (suc (suc (suc (suc (suc (suc (suc (suc (suc zero))))))))))))))))) s l z e = absurd (cc e)
passing_tests (suc (suc (suc (suc (suc (suc (suc (suc (suc (suc (suc (suc (suc (suc (suc (suc (suc (suc p)))))))))))))))))) s l z e = absurd (cc e)

-- no row of these functions has such an operation
abbrev pub Without : (CodeOp → Type 0) → List StubRow → Type 0
Without P [] = ⊤
Without P (x ∷ xs) = P x.op × Without P xs

pub row_has : (P : CodeOp → Type 0) (rows : List StubRow) → Without P rows → (p : ℕ) (o : CodeOp) → (elim (slice_get rows p) [ None ↦ None | Some x ↦ Some x.op ]) ≡ Some o → P o
row_has P [] h p o e = absurd (cc e)
row_has P (x ∷ xs) h zero o e = let same : x.op ≡ o = cc e in subst P same h.0
row_has P (x ∷ xs) h (suc p) o e = row_has P xs h.1 p o e

abbrev pub NoPass : CodeOp → Type 0
NoPass (linear (unexpected o s)) = ⊥
NoPass (linear (jump_filter s z l)) = ⊥
NoPass o = ⊤

abbrev pub NoUnexpected : CodeOp → Type 0
NoUnexpected (linear (unexpected o s)) = ⊥
NoUnexpected o = ⊤

abbrev pub NoResume : CodeOp → Type 0
NoResume (linear (resume s)) = ⊥
NoResume o = ⊤

pub all_end_catch : Without NoPass end_catch_rows
all_end_catch = (tt, (tt, (tt, (tt, (tt, (tt, (tt, tt)))))))

pub all_terminating : Without NoPass terminating_rows
all_terminating = (tt, (tt, tt))

pub none_terminating : Without NoResume terminating_rows
none_terminating = (tt, (tt, tt))

pub none_passing : Without NoUnexpected call_unexpected_rows
none_passing = (tt, (tt, (tt, (tt, (tt, (tt, (tt, (tt, (tt, (tt, (tt, (tt, (tt, (tt, (tt, (tt, (tt, (tt, tt))))))))))))))))))

-- the operation of a compiled function
pub op_there : (x : Option LinearOp) (o : LinearOp) → compiled_op x ≡ Some (linear o) → x ≡ Some o
op_there None o e = absurd (cc e)
op_there (Some y) o e = let same : y ≡ o = cc e in ap (λ z. Some z) same
