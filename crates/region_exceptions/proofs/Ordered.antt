-- The classes of a checked program stand in order.
use Rattle.std.proofs.Common.{◌≡◌, ℕ, zero, suc, ◌+◌, ◌<◌, List, [], ◌∷◌, ◌++◌, sym, subst, arith, length, length-append}
use Rattle.std.specs.Prelude.{slice_get, unwrap_or}
use Rattle.cxx_ast.specs.Plain.{Class, Program}
use Rattle.cxx_ast.specs.Checked.{checked}
use Rattle.meaning_forms.specs.Class.{no_class, parts_of}
use Rattle.region_forms.specs.Layout.{ClassLayout, class_layout, class_parts}
use Rattle.class_layout.specs.Fit.{AreBefore, FitBehind}
use Rattle.class_layout.proofs.Program.{classes_fit}
use Rattle.region_exceptions.specs.Doomed.{CheckedClassesAreOrdered}
use Rattle.cxx_ast.specs.declared.standard.Std.{Std}

parts_before : (laid : List ClassLayout) (cs : List Class) (k : ℕ) → FitBehind laid cs → AreBefore (length laid + k) (class_parts (unwrap_or (slice_get cs k) no_class))
parts_before laid [] k fit = tt
parts_before laid (c ∷ cs) zero fit = let e : length laid ≡ length laid + 0 = omega arith in subst (λ n. AreBefore n (class_parts c)) e fit.0.before
parts_before laid (c ∷ cs) (suc k) fit =
    let more = length-append laid (class_layout laid c ∷ []) in
    let e : length (laid ++ class_layout laid c ∷ []) + k ≡ length laid + suc k = omega (arith, more) in
    subst (λ n. AreBefore n (class_parts (unwrap_or (slice_get cs k) no_class))) e (parts_before (laid ++ class_layout laid c ∷ []) cs k fit.1)

some_class : (std : Std) (p : Program) → 0 < length (checked std p).classes
unfolding checked
some_class std p = omega arith

pub classes_ordered : CheckedClassesAreOrdered
classes_ordered p h = record {
  some = subst (λ q. 0 < length q.classes) (sym h.resolved) (some_class h.std h.program);
  before = λ k. (let e : 0 + k ≡ k = omega arith in subst (λ n. AreBefore n (parts_of p k)) e (parts_before [] p.classes k (classes_fit p h)));
}
