-- The names of a checked program are short, and so are those of types whose records have names.
use Rattle.std.proofs.Common.{◌≡◌, ◌+◌, ◌*◌, ◌≤◌, ◌==◌, ℕ, zero, suc, Bool, true, false, nat_le, List, [], ◌∷◌, ◌++◌, length, map, Option, Some, None, refl, sym, subst, ap, ◌∙◌, arith, length-append, if◌then◌else◌}
use Rattle.std.specs.Prelude.{⊤, codes, is_some}
use Rattle.std.specs.Fmt.{decimal}
use Rattle.std.specs.List.{AllByRecursion}
use Rattle.std.proofs.lemmas.Bool.Decides.{nat_tests}
use Rattle.cxx_ast.specs.declared.standard.Std.{Std}
use Rattle.cxx_ast.specs.Checked.{IsChecked, checked}
use Rattle.cxx_ast.specs.Plain.{Function, Class, Checked, Program, Declaration, class_declaration, global_declaration, function_declaration}
use Rattle.eh_bytes.specs.declared.unit.TypeRow.{TypeRow as ListedType}
use Rattle.cxx_ast.specs.declared.declaration.FuncKind.TheVariants as kinds
use Rattle.meaning_forms.specs.Class.{class_at}
use Rattle.meaning_forms.specs.Construct.{place_from, is_copy_constructor, destructor_place}
use Rattle.region_forms.specs.LowerProgram.{some_constructor}
use Rattle.region_forms.specs.Numbering.{class_row, class_rows, int_row, type_rows}
use Rattle.machine_forms.specs.Emitted.{listed_type}
use Rattle.image_link.specs.Laws.{NamedImagesAreSmall}
use Rattle.image_link.specs.Names.{IsShort, HaveShort, AreShort}
use Rattle.source_bounds.specs.Compiled.{emitted_for}
use Rattle.source_bounds.specs.Laws.{CheckedIsLinkable}
use Rattle.symbol_names.specs.Mangled.{Mangled, put, put_source_name}
use Rattle.symbol_names.specs.Names.{kept, begun, member_name, copy_name, function_name, own_names, declared_names, unless_declared, class_names, classes_names, functions_names, record_name, records_from, types_names, globals_names}
use Rattle.cxx_image.specs.Image.{names_for, CheckedImagesAreSmall}

kept_short : (name : List ℕ) → IsShort (kept name)
kept_short name = by (nat_le (length name) 96) refl
  where
    by : (b : Bool) → nat_le (length name) 96 ≡ b → IsShort (if b then Some name else None)
    by true e = grind (arith, nat_tests, e)
    by false e = tt

both_short : (xs ys : List (Option (List ℕ))) → AllByRecursion IsShort xs → AllByRecursion IsShort ys → AllByRecursion IsShort (xs ++ ys)
both_short [] ys h g = g
both_short (x ∷ xs) ys h g = (h.0, both_short xs ys h.1 g)

own_short : (main n : ℕ) (fs : List Function) → AllByRecursion IsShort (own_names main n fs)
own_short main n [] = tt
own_short main n (f ∷ fs) = (by (n == main), own_short main (n + 1) fs)
  where
    by : (b : Bool) → IsShort (function_name b f)
    by true = omega arith
    by false = kept_short _

declared_short : (k : ℕ) (class : List ℕ) (fs : List Function) → AllByRecursion IsShort (declared_names k class fs)
declared_short k class [] = tt
declared_short k class (f ∷ fs) = (kept_short _, declared_short k class fs)

unless_short : (b : Bool) (name : List ℕ) → IsShort (unless_declared b name)
unless_short true name = tt
unless_short false name = kept_short name

-- the functions of a class
class_short : (p : Checked) (k : ℕ) → AllByRecursion IsShort (class_names p k)
class_short p k =
    let c = class_at p k in
    let name = c.name.text in
    let built = unless_declared (some_constructor c.functions) (member_name k name kinds.Constructor name []) in
    let copied = unless_declared (is_some (place_from 0 (is_copy_constructor k) c.functions)) (copy_name k name) in
    let destroyed = unless_declared (is_some (destructor_place p k)) (member_name k name kinds.Destructor name []) in
    let last : AllByRecursion IsShort (destroyed ∷ []) = (unless_short (is_some (destructor_place p k)) (member_name k name kinds.Destructor name []), tt) in
    let later : AllByRecursion IsShort (copied ∷ destroyed ∷ []) = (unless_short (is_some (place_from 0 (is_copy_constructor k) c.functions)) (copy_name k name), last) in
    let implicit : AllByRecursion IsShort (built ∷ copied ∷ destroyed ∷ []) = (unless_short (some_constructor c.functions) (member_name k name kinds.Constructor name []), later) in
    both_short (declared_names k name c.functions) (built ∷ copied ∷ destroyed ∷ []) (declared_short k name c.functions) implicit

classes_short : (p : Checked) (k n : ℕ) → AllByRecursion IsShort (classes_names p k n)
classes_short p k zero = tt
classes_short p k (suc n) = both_short (class_names p k) (classes_names p (k + 1) n) (class_short p k) (classes_short p (k + 1) n)

globals_short : (ds : List Declaration) → AllByRecursion IsShort (globals_names ds)
globals_short [] = tt
globals_short (class_declaration c ∷ ds) = globals_short ds
globals_short (global_declaration n value ∷ ds) = (kept_short n.text, globals_short ds)
globals_short (function_declaration f ∷ ds) = globals_short ds

-- the record of a class but the first has a name that is longer than the class's
record_long : (number : ℕ) (text : List ℕ) → 2 ≤ number → length text ≤ length (record_name number text)
record_long zero text h = absurd (omega (arith, h))
record_long (suc k) text h = by (suc k == 1) refl
  where
    by : (b : Bool) → (suc k == 1) ≡ b → length text ≤ length (if b then put (codes "St13bad_exception") (begun (codes "_ZTI")) else put_source_name text (begun (codes "_ZTI"))).text
    by true e = absurd (let one : suc k ≡ 1 = grind (arith, nat_tests, e) in omega (arith, one, h))
    by false e = omega (arith, length-append (codes "_ZTI") (decimal (length text) ++ text), length-append (decimal (length text)) text)

-- a type with a record's name in front of others
one_have : (name : List ℕ) (t : ListedType) (ns : List (Option (List ℕ))) (ts : List ListedType) → (length name ≤ 96 → length t.name ≤ 96) → HaveShort ns ts → HaveShort (kept name ∷ ns) (t ∷ ts)
one_have name t ns ts short rest = by (nat_le (length name) 96) refl
  where
    by : (b : Bool) → nat_le (length name) 96 ≡ b → HaveShort ((if b then Some name else None) ∷ ns) (t ∷ ts)
    by true e = let le : length name ≤ 96 = grind (arith, nat_tests, e) in (le, short le, rest)
    by false e = rest

rest_have : (number : ℕ) (cs : List Class) → 2 ≤ number → HaveShort (records_from number cs) (map listed_type (map (class_row 2) cs))
rest_have number [] h = tt
rest_have number (c ∷ cs) h =
    one_have (record_name number c.name.text) (listed_type (class_row 2 c)) (records_from (number + 1) cs) (map listed_type (map (class_row 2) cs))
    (λ short. omega (arith, short, record_long number c.name.text h)) (rest_have (number + 1) cs (omega (arith, h)))

-- the first class has a short name
abbrev BeginsShort : List Class → Type 0
BeginsShort [] = ⊤
BeginsShort (c ∷ cs) = length c.name.text ≤ 96

classes_have : (cs : List Class) → BeginsShort cs → HaveShort (records_from 1 cs) (map listed_type (class_rows cs))
classes_have [] h = tt
classes_have (c ∷ cs) h =
    one_have (record_name 1 c.name.text) (listed_type (class_row 3 c)) (records_from 2 cs) (map listed_type (map (class_row 2) cs)) (λ short. h) (rest_have 2 cs (omega arith))

begins_short : (std : Std) (p : Program) → BeginsShort (checked std p).classes
unfolding checked
begins_short std p = omega arith

types_have : (p : Checked) → BeginsShort p.classes → HaveShort (types_names p) (map listed_type (type_rows p))
types_have p h = one_have (record_name 0 []) (listed_type int_row) (records_from 1 p.classes) (map listed_type (class_rows p.classes)) (λ short. omega arith) (classes_have p.classes h)

names_short : (p : Checked) → IsChecked p → AreShort (names_for p) (emitted_for p)
names_short p h = record {
  functions = both_short (own_names p.main 0 p.functions) (classes_names p 0 (length p.classes)) (own_short p.main 0 p.functions) (classes_short p 0 (length p.classes));
  types = types_have p (subst (λ q. BeginsShort q.classes) (sym h.resolved) (begins_short h.std h.program));
  globals = globals_short p.program.declarations;
}

pub checked_images_are_small : NamedImagesAreSmall → CheckedIsLinkable → CheckedImagesAreSmall
checked_images_are_small small linkable p h = small (names_for p) (emitted_for p) (linkable p h) (names_short p h)
