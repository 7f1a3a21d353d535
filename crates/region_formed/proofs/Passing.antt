-- Regions that pass their tests where a function's slots are as many as its body mentions.
use Rattle.std.proofs.Common.{◌≡◌, ◌∙◌, ◌≤◌, ℕ, ℤ, max, true, List, [], ◌∷◌, ◌++◌, refl, ap, subst, arith}
use Rattle.std.proofs.lemmas.Bool.{and_parts}
use Rattle.std.specs.Cmp.Derive.{both_true}
use Rattle.cxx_ast.specs.declared.expression.BinaryOp.{BinaryOp}
use Rattle.region_forms.specs.Form.{Place, Value, number, load, unary, binary, call_value, int_argument, address_argument, Argument, arguments_from, Op, store, Region, op, branch, regions_from, in_order}
use Rattle.region_forms.specs.LowerExpression.{Lowered, LoweredArguments, LoweredCall, slot_place, stored_in, in_temporary}
use Rattle.region_forms.specs.Mentioned.{slots_of_root, slots_of, slots_of_all, slots_of_value, slots_of_arguments}
use Rattle.region_forms.specs.WellFormed.{int_place, address_place, op_test, pure_value, arguments_test, callee_test, value_test}
use Rattle.region_ir.specs.Leaves.{leaves_test, all_leaves_test}
use Rattle.region_ir.proofs.SlotCounts.{named_slots}
use Rattle.region_formed.proofs.Meant.{Given, slots_in, regions_in}
use Rattle.region_formed.proofs.Slots.{temporary_at, int_in}

-- so many slots are there
abbrev pub Few : Given → ℕ → Type 0
Few g n = n ≤ slots_of g.body

-- a region, some regions, a value and arguments pass where the slots that they mention are there
pub record OnePasses (g : Given) (a : Region) : Type 0 where
  pub holds : Few g (slots_of a) → leaves_test (regions_in g) (slots_in g) a ≡ true

pub record Pass (g : Given) (rs : List Region) : Type 0 where
  pub holds : Few g (slots_of_all (regions_from rs)) → all_leaves_test (regions_in g) (slots_in g) (regions_from rs) ≡ true

pub record ValuePasses (g : Given) (v : Value) : Type 0 where
  pub holds : Few g (slots_of_value v) → pure_value (regions_in g) (slots_in g) v ≡ true

pub record ArgumentsPass (g : Given) (args : List Argument) : Type 0 where
  pub holds : Few g (slots_of_arguments (arguments_from args)) → arguments_test (regions_in g) (slots_in g) (arguments_from args) ≡ true

-- a slot stands behind the variables
abbrev pub Behind : Given → ℕ → Type 0
Behind g t = named_slots g.is_member g.variables ≤ t

pub of_max : (a b n : ℕ) → max a b ≤ n → (a ≤ n) × (b ≤ n)
of_max a b n h = (omega (arith, h), omega (arith, h))

max_first : (b : ℕ) → b ≡ max 0 b
max_first b = omega arith

max_max : (a b c : ℕ) → max a (max b c) ≡ max (max a b) c
max_max a b c = omega arith

slots_append : (xs ys : List Region) → slots_of_all (regions_from (xs ++ ys)) ≡ max (slots_of_all (regions_from xs)) (slots_of_all (regions_from ys))
slots_append [] ys = max_first (slots_of_all (regions_from ys))
slots_append (x ∷ xs) ys =
    ap (λ n. max (slots_of x) n) (slots_append xs ys) ∙ max_max (slots_of x) (slots_of_all (regions_from xs)) (slots_of_all (regions_from ys))

test_append : (g : Given) (xs ys : List Region) → all_leaves_test (regions_in g) (slots_in g) (regions_from xs) ≡ true →
    all_leaves_test (regions_in g) (slots_in g) (regions_from ys) ≡ true → all_leaves_test (regions_in g) (slots_in g) (regions_from (xs ++ ys)) ≡ true
test_append g [] ys h k = k
test_append g (x ∷ xs) ys h k =
    let parts = and_parts (leaves_test (regions_in g) (slots_in g) x) (all_leaves_test (regions_in g) (slots_in g) (regions_from xs)) h in
    both_true parts.0 (test_append g xs ys parts.1 k)

-- some regions behind others
pub then_pass : {g : Given} {xs ys : List Region} → Pass g xs → Pass g ys → Pass g (xs ++ ys)
then_pass {g = g} {xs = xs} {ys = ys} h k = record {
  holds = λ few. let parts = of_max (slots_of_all (regions_from xs)) (slots_of_all (regions_from ys)) (slots_of g.body)
      (subst (λ n. n ≤ slots_of g.body) (slots_append xs ys) few) in
      test_append g xs ys (h.holds parts.0) (k.holds parts.1);
}

pub one_then : {g : Given} {x : Region} {xs : List Region} → OnePasses g x → Pass g xs → Pass g (x ∷ xs)
one_then {g = g} {x = x} {xs = xs} h k = record {
  holds = λ few. let parts = of_max (slots_of x) (slots_of_all (regions_from xs)) (slots_of g.body) few in both_true (h.holds parts.0) (k.holds parts.1);
}

pub none_pass : {g : Given} → Pass g []
none_pass = record { holds = λ few. refl }

pub one_pass : {g : Given} {x : Region} → OnePasses g x → Pass g (x ∷ [])
one_pass h = one_then h none_pass

pub with_last : {g : Given} {xs : List Region} {x : Region} → Pass g xs → OnePasses g x → Pass g (xs ++ x ∷ [])
with_last h k = then_pass h (one_pass k)

-- regions in order are one
pub in_order_passes : {g : Given} {xs : List Region} → Pass g xs → OnePasses g (in_order xs)
in_order_passes h = record { holds = h.holds }

-- an operation that passes whatever slots are there
pub op_passes : {g : Given} {o : Op} → op_test (regions_in g) (slots_in g) o ≡ true → OnePasses g (op o)
op_passes h = record { holds = λ few. h }

-- a value without calls is one that may be stored
pub valued : (g : Given) (v : Value) → pure_value (regions_in g) (slots_in g) v ≡ true → value_test (regions_in g) (slots_in g) v ≡ true
valued g (number n) h = h
valued g (load p) h = h
valued g (unary o v) h = h
valued g (binary o a b) h = h
valued g (call_value c args) h = absurd (cc h)

-- it is stored in a place
pub put_passes : {g : Given} {p : Place} {v : Value} → (Few g (slots_of_root p.root) → int_place (regions_in g) (slots_in g) p ≡ true) → ValuePasses g v →
    OnePasses g (op (store p v))
put_passes {g = g} {p = p} {v = v} h k = record {
  holds = λ few. let parts = of_max (slots_of_root p.root) (slots_of_value v) (slots_of g.body) few in both_true (h parts.0) (valued g v (k.holds parts.1));
}

-- or in a slot behind the variables
pub stored_passes : {g : Given} {v : Value} → (t : ℕ) → Behind g t → ValuePasses g v → OnePasses g (stored_in t v)
stored_passes {g = g} t h k = put_passes (λ few. int_in g t (temporary_at g t h few)) k

pub branch_passes : {g : Given} {v : Value} {xs ys : List Region} → ValuePasses g v → Pass g xs → Pass g ys → OnePasses g (branch v (in_order xs) (in_order ys))
branch_passes {g = g} {v = v} {xs = xs} {ys = ys} h k m = record {
  holds = λ few. let parts = of_max (slots_of_value v) (max (slots_of_all (regions_from xs)) (slots_of_all (regions_from ys))) (slots_of g.body) few in
      let sides = of_max (slots_of_all (regions_from xs)) (slots_of_all (regions_from ys)) (slots_of g.body) parts.1 in
      both_true (h.holds parts.0) (both_true (k.holds sides.0) (m.holds sides.1));
}

-- values
pub number_passes : {g : Given} → (v : ℤ) → ValuePasses g (number v)
number_passes v = record { holds = λ few. refl }

pub binary_passes : {g : Given} {a b : Value} → (o : BinaryOp) → ValuePasses g a → ValuePasses g b → ValuePasses g (binary o a b)
binary_passes {g = g} {a = a} {b = b} o h k = record {
  holds = λ few. let parts = of_max (slots_of_value a) (slots_of_value b) (slots_of g.body) few in both_true (h.holds parts.0) (k.holds parts.1);
}

pub loaded_passes : {g : Given} → (t : ℕ) → Behind g t → ValuePasses g (load (slot_place t))
loaded_passes {g = g} t h = record { holds = λ few. int_in g t (temporary_at g t h few) }

-- arguments
pub no_arguments_pass : {g : Given} → ArgumentsPass g []
no_arguments_pass = record { holds = λ few. refl }

pub int_first : {g : Given} {v : Value} {args : List Argument} → ValuePasses g v → ArgumentsPass g args → ArgumentsPass g (int_argument v ∷ args)
int_first {g = g} {v = v} {args = args} h k = record {
  holds = λ few. let parts = of_max (slots_of_value v) (slots_of_arguments (arguments_from args)) (slots_of g.body) few in
      both_true (h.holds parts.0) (k.holds parts.1);
}

pub address_first : {g : Given} {p : Place} {args : List Argument} → address_place (regions_in g) (slots_in g) p ≡ true → ArgumentsPass g args →
    ArgumentsPass g (address_argument p ∷ args)
address_first {g = g} {p = p} {args = args} h k = record {
  holds = λ few. both_true h (k.holds (of_max (slots_of_root p.root) (slots_of_arguments (arguments_from args)) (slots_of g.body) few).1);
}

-- what comes before a value, the value, and the next slot
pub record LoweredPasses (g : Given) (x : Lowered) : Type 0 where
  pub before : Pass g x.before
  pub value : ValuePasses g x.value
  pub next : Behind g x.next

-- what comes before arguments, the arguments, and the next slot
pub record GivenPass (g : Given) (x : LoweredArguments) : Type 0 where
  pub before : Pass g x.before
  pub given : ArgumentsPass g x.arguments
  pub next : Behind g x.next

-- what comes before a call, its arguments, and that they fit what is called
pub record CallPasses (g : Given) (x : LoweredCall) : Type 0 where
  pub before : Pass g x.before
  pub given : ArgumentsPass g x.arguments
  pub callee : callee_test (regions_in g) x.callee (arguments_from x.arguments) ≡ true

pub temporary_passes : {g : Given} {before : List Region} → (t : ℕ) → Pass g before → Behind g t → LoweredPasses g (in_temporary before t)
temporary_passes t h free = record { before = h; value = loaded_passes t free; next = omega (arith, free) }
