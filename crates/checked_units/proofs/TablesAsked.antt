-- What is asked of tables is so of checked programs.
use Rattle.std.proofs.Common.{◌≡◌, refl, sym, ap, subst, arith, ℕ, zero, suc, ◌<◌, not, List, [], ◌∷◌, ◌++◌, map, length, Some, None}
use Rattle.std.specs.Prelude.{codes, true}
use Rattle.std.proofs.lemmas.List.{length-map}
use Rattle.cxx_ast.specs.declared.standard.Std.{Std}
use Rattle.cxx_ast.specs.Plain.{Class, Program}
use Rattle.cxx_ast.specs.Environment.{ClassEntry}
use Rattle.cxx_ast.specs.Broken.{Valid, broken, has_main, declarations_found}
use Rattle.cxx_ast.specs.Checked.{checked, bad_exception, resolve_declarations, classes_of}
use Rattle.cxx_ast.specs.Settled.{Allowed, allowed_by, destructor_of, given, settle_classes}
use Rattle.cxx_ast.specs.Standards.{standard_found}
use Rattle.cxx_ast.proofs.Settled.{settled_length}
use Rattle.cxx_ast.specs.DeclaredNames.{once_only_found}
use Rattle.cxx_ast.specs.Finding.{breaks_if}
use Rattle.cxx_ast.specs.Rule.{no_main}
use Rattle.cxx_ast.specs.Declare.{at_the_start, definitions}
use Rattle.region_forms.specs.Layout.{class_layout}
use Rattle.region_forms.specs.Numbering.{class_row, class_rows, int_row}
use Rattle.class_layout.proofs.Sound.{front_sound, nothing_refused}
use Rattle.table_verdicts.specs.Types.{ChainEnds}
use Rattle.checked_units.specs.Tables.{CheckedTablesAreAsked}
use Rattle.checked_units.proofs.Lists.{lists_name_types}
use Rattle.checked_units.proofs.Chains.{rows_of, longer, IsChained, AreChained, Ends, all_end}

rows_count : (cs : List Class) → length (class_rows cs) ≡ length cs
rows_count [] = refl
rows_count (c ∷ cs) = ap suc (length-map cs (class_row 2))

-- `std::bad_exception` has no base
first_chained : (rest : List Class) (es : List ClassEntry) → es ≡ (at_the_start []).classes → AreChained (rows_of (bad_exception ∷ rest)) es
first_chained rest es is = subst (AreChained (rows_of (bad_exception ∷ rest))) (sym is) one
  where
    entry : ClassEntry
    entry = record { name = codes "std::bad_exception"; base = None; fields = []; functions = []; size = 4; chain = 1; has_default = true }

    one : AreChained (rows_of (bad_exception ∷ rest)) (entry ∷ [])
    one zero e h = subst (IsChained (rows_of (bad_exception ∷ rest)) 0) (same entry e h) (record { few = omega arith; early = omega arith; ends = tt })
      where
        same : (a b : ClassEntry) → Some a ≡ Some b → a ≡ b
        same a b e = cc
    one (suc k) e h = absurd (cc h)

-- specifications have no part in rows
later_rows : (std : Std) (before : List Allowed) (cs : List Class) → map (class_row 2) (settle_classes std before cs) ≡ map (class_row 2) cs
later_rows std before [] = refl
later_rows std before (c ∷ cs) =
    ap (λ rows. class_row 2 c ∷ rows) (later_rows std (before ++ allowed_by (destructor_of (given std before c) c.functions) ∷ []) cs)

rows_settled : (std : Std) (cs : List Class) → class_rows (settle_classes std [] cs) ≡ class_rows cs
rows_settled std [] = refl
rows_settled std (c ∷ cs) = ap (λ rows. class_row 3 c ∷ rows) (later_rows std (allowed_by (destructor_of (given std [] c) c.functions) ∷ []) cs)

classes_end : (std : Std) (p : Program) → Valid std p → (k : ℕ) → k < length (checked std p).classes → Ends (rows_of (checked std p).classes) k
unfolding broken checked
classes_end std p valid k inside =
    let env = at_the_start p.declarations in
    let rest = classes_of (resolve_declarations env p.declarations) in
    let walked = declarations_found env p.declarations in
    let once = once_only_found p.declarations in
    let main = breaks_if (not (has_main p.declarations)) no_main p.length in
    let own = standard_found std p.declarations in
    let all = front_sound (walked ++ once ++ main) own (nothing_refused (definitions p.declarations) (walked ++ once ++ main ++ own) valid) in
    let sound = front_sound walked once (front_sound (walked ++ once) main all) in
    subst (λ rows. Ends (int_row ∷ rows) k) (sym (rows_settled std (bad_exception ∷ rest)))
    (all_end p.declarations env (class_layout [] bad_exception ∷ []) (bad_exception ∷ []) (bad_exception ∷ rest) (record { sizes = refl; count = refl; known = tt; some = omega arith }) refl refl
    (first_chained rest env.classes refl) sound k (subst (λ n. k < n) (settled_length std [] (bad_exception ∷ rest)) inside))

chain_ends : (all : List Class) (t : ℕ) → ((k : ℕ) → k < length all → Ends (rows_of all) k) → t < length (rows_of all) → ChainEnds (rows_of all) t
chain_ends all zero ends inside = record { read = tt; all = tt }
chain_ends all (suc k) ends inside =
    let below : k < length all = omega (arith, inside, rows_count all) in
    let e = ends k below in
    let few = e.few in
    let early = e.early in
    record {
      read = longer e.chain 64 (rows_of all) (Some (suc k)) few e.ends;
      all = longer e.chain (suc (length (rows_of all))) (rows_of all) (Some (suc k)) (omega (arith, early, inside)) e.ends;
    }

pub checked_tables_are_asked : CheckedTablesAreAsked
checked_tables_are_asked = record {
  lists = lists_name_types;
  chains = λ p l t h inside. chain_ends p.classes t (subst (λ q. (k : ℕ) → k < length q.classes → Ends (rows_of q.classes) k) (sym h.resolved) (classes_end h.std h.program h.valid)) inside;
}
