-- Where what is named after dots lies.
use Rattle.std.proofs.Common.{◌≡◌, ◌≢◌, ◌∙◌, ◌+◌, ◌-◌, ℕ, zero, suc, List, ◌∷◌, Option, Some, None, refl, ap, sym, arith}
use Rattle.std.specs.Prelude.{slice_get, unwrap_or}
use Rattle.cxx_ast.specs.Plain.{Checked}
use Rattle.cxx_ast.specs.View.{option_of}
use Rattle.cxx_ast.specs.declared.name.Name.{Name}
use Rattle.cxx_ast.specs.declared.name.Bound.{Bound}
use Rattle.cxx_ast.specs.declared.name.Bound.TheVariants.{Free, Global, Local, Field, Class, Func, Method, Builtin}
use Rattle.meaning_forms.specs.Class.{class_at, class_named}
use Rattle.region_forms.specs.Layout.{Layout, laid_member, laid_part, layout_at, offset_of_part}
use Rattle.region_forms.specs.LowerExpression.{Lowering, members_offset}
use Rattle.region_ir.specs.Given.{offset_named}

-- nothing added
none_added : (m : ℕ) → m ≡ 0 + m
none_added m = omega arith

by_bound : (l : Lowering) (m : ℕ) (b : Bound) → elim b [ Field k i ↦ laid_member l.layout k i + m | _ ↦ m ] ≡ offset_named l b + m
by_bound l m Free = none_added m
by_bound l m (Global g) = none_added m
by_bound l m (Local n) = none_added m
by_bound l m (Field k i) = refl
by_bound l m (Class k) = none_added m
by_bound l m (Func n) = none_added m
by_bound l m (Method k i) = none_added m
by_bound l m (Builtin b) = none_added m

-- one name, then the others
pub one_named : (l : Lowering) (n : Name) (ns : List Name) → members_offset l (n ∷ ns) ≡ offset_named l n.bound + members_offset l ns
one_named l n ns = by_bound l (members_offset l ns) n.bound

members_alone : (base : Option Name) (members : List ℕ) (i : ℕ) → option_of class_named base ≡ None → unwrap_or (slice_get members i) 0 ≡ offset_of_part base members i
members_alone None members i e = refl
members_alone (Some b) members i e = absurd (cc e)

-- without a base the parts are the members
pub without_base : (l : Layout) (p : Checked) (k i n : ℕ) → option_of class_named (class_at p k).base ≡ None → n ≡ laid_member l k i → n ≡ laid_part l p k i
without_base l p k i n e f = f ∙ members_alone (class_at p k).base (layout_at l.classes k).members i e

first_of_all : (base : Option Name) (members : List ℕ) (k : ℕ) → option_of class_named base ≡ Some k → 0 ≡ offset_of_part base members 0
first_of_all None members k e = absurd (cc e)
first_of_all (Some b) members k e = refl

-- a base is the first part
pub base_first : (l : Layout) (p : Checked) (k i b : ℕ) → option_of class_named (class_at p k).base ≡ Some b → i ≡ 0 → 0 ≡ laid_part l p k i
base_first l p k i b e z = first_of_all (class_at p k).base (layout_at l.classes k).members b e ∙ sym (ap (laid_part l p k) z)

one_before : (base : Option Name) (members : List ℕ) (i k : ℕ) → option_of class_named base ≡ Some k → i ≢ 0 →
    unwrap_or (slice_get members (i - 1)) 0 ≡ offset_of_part base members i
one_before None members i k e other = absurd (cc e)
one_before (Some b) members zero k e other = absurd (other refl)
one_before (Some b) members (suc i) k e other = let same : suc i - 1 ≡ i = omega arith in rw same refl

-- the members follow it
pub behind_base : (l : Layout) (p : Checked) (k i b n : ℕ) → option_of class_named (class_at p k).base ≡ Some b → i ≢ 0 → n ≡ laid_member l k (i - 1) → n ≡ laid_part l p k i
behind_base l p k i b n e other f = f ∙ one_before (class_at p k).base (layout_at l.classes k).members i b e other
