-- Regions are well-formed where they have the shape, their exits lead inside, and their operations and values are as they have to be.
use Rattle.std.proofs.Common.{◌≡◌, ◌+◌, ◌&&◌, ℕ, true, List, [], ◌∷◌, length, ◌==◌, refl}
use Rattle.std.specs.Prelude.{nat_lt, nat_le}
use Rattle.std.proofs.lemmas.Bool.{and_parts}
use Rattle.std.specs.Cmp.Derive.{both_true}
use Rattle.cxx_ast.specs.Plain.{Checked}
use Rattle.cxx_ast.specs.Checked.{IsChecked}
use Rattle.region_forms.specs.Layout.{layout_of}
use Rattle.region_forms.specs.LowerProgram.{regions_of}
use Rattle.region_forms.specs.Form.{Slot, Region, seq, op, branch, loop, protect, catch, limit, barrier, leave_region, RegionList, no_regions, region_then, Clauses, no_clauses, clause_then, RegionFunction, Regions, function_at}
use Rattle.region_forms.specs.Mentioned.{slots_of}
use Rattle.region_forms.specs.WellFormed.{every, slot_test, is_help, pure_value, cleanup_test, clause_type_test, is_op, region_test, regions_test, clauses_test, result_test, function_test, rows_test, is_well_formed}
use Rattle.region_ir.specs.Shape.{is_pure, is_lone_op, has_shape, is_row, all_have_shape, clauses_have_shape, functions_have_shape, all_shaped}
use Rattle.region_ir.specs.Exits.{exits_inside, all_exits_inside, clause_exits_inside, program_exits_inside}
use Rattle.region_ir.specs.SlotsSuffice.{slots_suffice}
use Rattle.region_ir.specs.Leaves.{leaves_test, all_leaves_test, clause_leaves_test, program_leaves_test, main_test}
use Rattle.region_ir.proofs.ShapedFunctions.{regions_shaped}
use Rattle.region_ir.proofs.ExitFunctions.{exits_inside_checked}
use Rattle.region_ir.proofs.SlotCounts.{regions_suffice}
use Rattle.region_ir.proofs.BasesBefore.{bases_before}
use Rattle.region_ir.proofs.MainThere.{checked_main}
use Rattle.region_ir.specs.Implicit.{body_passes, DeclaredPass}
use Rattle.region_ir.proofs.ImplicitLeaves.{implicit_pass}
use Rattle.region_ir.proofs.EachFunction.{each_passes}

-- regions in order have the shape
row_shape : (a : Region) → is_row a ≡ true → has_shape a ≡ true
row_shape (seq rs) h = h
row_shape (op o) h = absurd (cc h)
row_shape (branch v a b) h = absurd (cc h)
row_shape (loop v a) h = absurd (cc h)
row_shape (protect a c) h = absurd (cc h)
row_shape (catch a cs) h = absurd (cc h)
row_shape (limit a types) h = absurd (cc h)
row_shape (barrier a) h = absurd (cc h)
row_shape (leave_region n) h = absurd (cc h)

-- one operation has it too
lone_shape : (a : Region) → is_lone_op a ≡ true → (is_op a ≡ true) × (has_shape a ≡ true)
lone_shape (op o) h = (refl, h)
lone_shape (seq rs) h = absurd (cc h)
lone_shape (branch v a b) h = absurd (cc h)
lone_shape (loop v a) h = absurd (cc h)
lone_shape (protect a c) h = absurd (cc h)
lone_shape (catch a cs) h = absurd (cc h)
lone_shape (limit a types) h = absurd (cc h)
lone_shape (barrier a) h = absurd (cc h)
lone_shape (leave_region n) h = absurd (cc h)

module _ (r : Regions) (slots : List Slot) where
  mutual
    joined : (d : ℕ) (a : Region) → has_shape a ≡ true → exits_inside d a ≡ true → leaves_test r slots a ≡ true → region_test r slots d a ≡ true
    joined d (seq rs) s e h = all_joined (d + 1) rs s e h
    joined d (op o) s e h = h
    joined d (branch v a b) s e h =
        let shape = and_parts (has_shape a) (has_shape b) (and_parts (is_pure v) (has_shape a && has_shape b) s).1 in
        let exits = and_parts (exits_inside (d + 1) a) (exits_inside (d + 1) b) e in
        let leaves = and_parts (pure_value r slots v) (leaves_test r slots a && leaves_test r slots b) h in
        let both = and_parts (leaves_test r slots a) (leaves_test r slots b) leaves.1 in
        both_true leaves.0 (both_true (joined (d + 1) a shape.0 exits.0 both.0) (joined (d + 1) b shape.1 exits.1 both.1))
    joined d (loop v a) s e h =
        let leaves = and_parts (pure_value r slots v) (leaves_test r slots a) h in
        both_true leaves.0 (joined (d + 1) a (row_shape a (and_parts (is_pure v) (is_row a) s).1) e leaves.1)
    joined d (protect a c) s e h =
        let leaves = and_parts (cleanup_test r slots c) (leaves_test r slots a) h in
        both_true leaves.0 (joined (d + 1) a (row_shape a s) e leaves.1)
    joined d (catch a cs) s e h =
        let shape = and_parts (is_row a) (clauses_have_shape cs) s in
        let exits = and_parts (exits_inside (d + 1) a) (clause_exits_inside (d + 1) cs) e in
        let leaves = and_parts (leaves_test r slots a) (clause_leaves_test r slots cs) h in
        both_true (joined (d + 1) a (row_shape a shape.0) exits.0 leaves.0) (clauses_joined (d + 1) cs shape.1 exits.1 leaves.1)
    joined d (limit a types) s e h =
        let leaves = and_parts (every (λ t. nat_lt t (length r.types)) types) (leaves_test r slots a) h in
        both_true leaves.0 (joined (d + 1) a (row_shape a s) e leaves.1)
    joined d (barrier a) s e h = let lone = lone_shape a s in both_true lone.0 (joined (d + 1) a lone.1 e h)
    joined d (leave_region n) s e h = e

    all_joined : (d : ℕ) (rs : RegionList) → all_have_shape rs ≡ true → all_exits_inside d rs ≡ true → all_leaves_test r slots rs ≡ true →
        regions_test r slots d rs ≡ true
    all_joined d no_regions s e h = refl
    all_joined d (region_then a rs) s e h =
        let shape = and_parts (has_shape a) (all_have_shape rs) s in
        let exits = and_parts (exits_inside d a) (all_exits_inside d rs) e in
        let leaves = and_parts (leaves_test r slots a) (all_leaves_test r slots rs) h in
        both_true (joined d a shape.0 exits.0 leaves.0) (all_joined d rs shape.1 exits.1 leaves.1)

    clauses_joined : (d : ℕ) (cs : Clauses) → clauses_have_shape cs ≡ true → clause_exits_inside d cs ≡ true → clause_leaves_test r slots cs ≡ true →
        clauses_test r slots d cs ≡ true
    clauses_joined d no_clauses s e h = refl
    clauses_joined d (clause_then t o a cs) s e h =
        let shape = and_parts (is_row a) (clauses_have_shape cs) s in
        let exits = and_parts (exits_inside d a) (clause_exits_inside d cs) e in
        let typed = and_parts (clause_type_test r t) (slot_test is_help slots o && (leaves_test r slots a && clause_leaves_test r slots cs)) h in
        let slot = and_parts (slot_test is_help slots o) (leaves_test r slots a && clause_leaves_test r slots cs) typed.1 in
        let leaves = and_parts (leaves_test r slots a) (clause_leaves_test r slots cs) slot.1 in
        both_true typed.0 (both_true slot.0 (both_true (joined d a (row_shape a shape.0) exits.0 leaves.0) (clauses_joined d cs shape.1 exits.1 leaves.1)))

-- functions, each of them
functions_joined : (r : Regions) (fs : List RegionFunction) → functions_have_shape fs ≡ true → every (λ f. exits_inside 0 f.body) fs ≡ true →
    every slots_suffice fs ≡ true → every (λ f. leaves_test r f.slots f.body) fs ≡ true → every (function_test r) fs ≡ true
functions_joined r [] s e n h = refl
functions_joined r (f ∷ fs) s e n h =
    let shape = and_parts (is_row f.body) (functions_have_shape fs) s in
    let exits = and_parts (exits_inside 0 f.body) (every (λ f. exits_inside 0 f.body) fs) e in
    let slots = and_parts (slots_suffice f) (every slots_suffice fs) n in
    let leaves = and_parts (leaves_test r f.slots f.body) (every (λ f. leaves_test r f.slots f.body) fs) h in
    let named = (and_parts (nat_le (slots_of f.body) (length f.slots)) (nat_le f.parameters (length f.slots) && result_test f.slots f.result) slots.0).1 in
    let passed = and_parts (nat_le f.parameters (length f.slots)) (result_test f.slots f.result) named in
    both_true (both_true passed.0 (both_true passed.1 (joined r f.slots 0 f.body (row_shape f.body shape.0) exits.0 leaves.0)))
    (functions_joined r fs shape.1 exits.1 slots.1 leaves.1)

-- a program of regions
pub all_joined_well : (r : Regions) → all_shaped r ≡ true → program_exits_inside r ≡ true → every slots_suffice r.functions ≡ true →
    rows_test 0 r.types ≡ true → main_test r ≡ true →
    program_leaves_test r ≡ true → is_well_formed r ≡ true
all_joined_well r s e n rows main h =
    let parts = and_parts (nat_lt r.main (length r.functions)) ((function_at r r.main).parameters == 0) main in
    both_true parts.0 (both_true parts.1 (both_true rows (functions_joined r r.functions s e n h)))

-- the functions of a checked program
leaves_pass : (p : Checked) → IsChecked p → DeclaredPass p (layout_of p) → program_leaves_test (regions_of p (layout_of p)) ≡ true
leaves_pass p c h = each_passes p (layout_of p) (body_passes (regions_of p (layout_of p))) (record {
  own = h.own;
  method = h.method;
  default = λ k below. (implicit_pass p c k below).default;
  copy = λ k below. (implicit_pass p c k below).copy;
  destructor = λ k below. (implicit_pass p c k below).destructor;
})

-- the regions of a checked program
pub checked_joined : (p : Checked) → IsChecked p → DeclaredPass p (layout_of p) → is_well_formed (regions_of p (layout_of p)) ≡ true
checked_joined p c h =
    let l = layout_of p in
    all_joined_well (regions_of p l) (regions_shaped p l) (exits_inside_checked p l c) (regions_suffice p l) (bases_before p c) (checked_main p l c)
    (leaves_pass p c h)
