-- The slots without a mark are those whose address no operation takes.
use Rattle.std.proofs.Common.{◌≡◌, ◌∙◌, ℕ, ◌+◌, ◌<◌, ◌≤◌, ◌||◌, ◌&&◌, not, Bool, true, false, List, [], ◌∷◌, length, get_or, replicate, set, take, refl, ap, sym, arith, ⊎_elim}
use Rattle.std.specs.Prelude.{◌==◌, if◌then◌else◌}
use Rattle.std.proofs.lemmas.Bool.{cases_eq}
use Rattle.std.proofs.lemmas.Bool.Decides.{nat_tests}
use Rattle.std.proofs.lemmas.List.{get_or-set_same, get_or-set_other, get_or-replicate, length-set, length-replicate}
use Rattle.region_forms.specs.Form.{Slot, Root, in_slot, through, in_global, Value, number, load, unary, binary, call_value, Argument, int_argument, address_argument, handler_argument, Arguments, no_arguments, argument_then, Op, evaluate, store, bind, call, construct, destroy, make, throw, rethrow, enter, leave}
use Rattle.linear_forms.specs.Linear.{LinearOp, plain, label, jump, jump_zero, pad, jump_filter, free, resume, unexpected, return}
use Rattle.machine_forms.specs.Kept.{root_is, argument_takes, arguments_take, value_takes, op_takes, linear_takes, is_taken, is_one_int, untaken}
use Rattle.rv64_emit.specs.Marks.{root_marked, argument_marked, arguments_marked, value_marked, op_marked, linear_marked, all_marked, unmarked}

or_false : (a : Bool) → a ≡ (a || false)
or_false true = refl
or_false false = refl

or_true : (a : Bool) → true ≡ (a || true)
or_true true = refl
or_true false = refl

or_groups : (a b c : Bool) → ((a || b) || c) ≡ (a || (b || c))
or_groups true b c = refl
or_groups false b c = refl

-- beside the slots marked before those are marked of which a test holds
record Marks (test : ℕ → Bool) (old new : List Bool) : Type 0 where
  length_is : length new ≡ length old
  each : (s : ℕ) → s < length old → get_or new s false ≡ (get_or old s false || test s)

none : (marks : List Bool) → Marks (λ s. false) marks marks
none marks = record { length_is = refl; each = λ s h. or_false (get_or marks s false) }

both : (first second : ℕ → Bool) (a b c : List Bool) → Marks first a b → Marks second b c → Marks (λ s. first s || second s) a c
both first second a b c h g = record {
  length_is = g.length_is ∙ h.length_is;
  each = λ s within.
      g.each s (omega (arith, within, h.length_is)) ∙ (ap (λ x. x || second s) (h.each s within) ∙ or_groups (get_or a s false) (first s) (second s));
}

slot_marks : (t : ℕ) (marks : List Bool) → Marks (λ s. t == s) marks (set marks t true)
slot_marks t marks = record {
  length_is = length-set marks t true;
  each = λ s within. ⊎_elim (same s within) (other s within) (cases_eq t s);
}
  where
    same : (s : ℕ) → s < length marks → t ≡ s → get_or (set marks t true) s false ≡ (get_or marks s false || (t == s))
    same s within e =
        let test : (t == s) ≡ true = grind (arith, nat_tests, e) in
        ap (λ k. get_or (set marks t true) k false) (sym e) ∙ (get_or-set_same marks t true false (omega (arith, within, e)) ∙ (or_true (get_or marks s false) ∙ ap (λ b. get_or marks s false || b) (sym test)))

    other : (s : ℕ) → s < length marks → (t ≡ s → ⊥) → get_or (set marks t true) s false ≡ (get_or marks s false || (t == s))
    other s within ne =
        let test : (t == s) ≡ false = grind (arith, nat_tests, ne) in
        get_or-set_other marks t s true false (λ e. ne (sym e)) ∙ (or_false (get_or marks s false) ∙ ap (λ b. get_or marks s false || b) (sym test))

root_marks : (r : Root) (marks : List Bool) → Marks (λ s. root_is s r) marks (root_marked r marks)
root_marks (in_slot t) marks = slot_marks t marks
root_marks (through t) marks = none marks
root_marks (in_global g) marks = none marks

argument_marks : (a : Argument) (marks : List Bool) → Marks (λ s. argument_takes s a) marks (argument_marked a marks)
argument_marks (int_argument v) marks = none marks
argument_marks (address_argument p) marks = root_marks p.root marks
argument_marks (handler_argument n) marks = none marks

arguments_mark : (args : Arguments) (marks : List Bool) → Marks (λ s. arguments_take s args) marks (arguments_marked args marks)
arguments_mark no_arguments marks = none marks
arguments_mark (argument_then a args) marks =
    both (λ s. argument_takes s a) (λ s. arguments_take s args) marks (argument_marked a marks) (arguments_marked args (argument_marked a marks)) (argument_marks a marks)
    (arguments_mark args (argument_marked a marks))

value_marks : (v : Value) (marks : List Bool) → Marks (λ s. value_takes s v) marks (value_marked v marks)
value_marks (number z) marks = none marks
value_marks (load p) marks = none marks
value_marks (unary o v) marks = none marks
value_marks (binary o v w) marks = none marks
value_marks (call_value c args) marks = arguments_mark args marks

op_marks : (o : Op) (marks : List Bool) → Marks (λ s. op_takes s o) marks (op_marked o marks)
op_marks (evaluate v) marks = value_marks v marks
op_marks (store p v) marks = value_marks v marks
op_marks (bind t p) marks = root_marks p.root marks
op_marks (call c args) marks = arguments_mark args marks
op_marks (construct p n args) marks =
    both (λ s. root_is s p.root) (λ s. arguments_take s args) marks (root_marked p.root marks) (arguments_marked args (root_marked p.root marks)) (root_marks p.root marks)
    (arguments_mark args (root_marked p.root marks))
op_marks (destroy p n) marks = root_marks p.root marks
op_marks (make t) marks = none marks
op_marks (throw t u d) marks = none marks
op_marks rethrow marks = none marks
op_marks (enter t) marks = none marks
op_marks leave marks = none marks

linear_marks : (o : LinearOp) (marks : List Bool) → Marks (λ s. linear_takes s o) marks (linear_marked o marks)
linear_marks (plain o) marks = op_marks o marks
linear_marks (label l) marks = none marks
linear_marks (jump l) marks = none marks
linear_marks (jump_zero v l) marks = none marks
linear_marks (pad o t) marks = none marks
linear_marks (jump_filter t n l) marks = none marks
linear_marks (free t) marks = none marks
linear_marks (resume t) marks = none marks
linear_marks (unexpected o t) marks = none marks
linear_marks (return r) marks = none marks

all_mark : (ops : List LinearOp) (marks : List Bool) → Marks (λ s. is_taken s ops) marks (all_marked ops marks)
all_mark [] marks = none marks
all_mark (o ∷ ops) marks =
    both (λ s. linear_takes s o) (λ s. is_taken s ops) marks (linear_marked o marks) (all_marked ops (linear_marked o marks)) (linear_marks o marks) (all_mark ops (linear_marked o marks))

-- the slots from one on, as far as there are marks
left : (ops : List LinearOp) (marks : List Bool) (s n : ℕ) (slots : List Slot) → ((t : ℕ) → t < n → get_or marks t false ≡ is_taken t ops) → s + length slots ≤ n →
    unmarked marks s slots ≡ untaken ops s slots
left ops marks s n [] h le = refl
left ops marks s n (slot ∷ slots) h le =
    let here = h s (omega (arith, le)) in
    let rest = left ops marks (s + 1) n slots h (omega (arith, le)) in
    ap (λ b. if is_one_int slot && not b then s ∷ unmarked marks (s + 1) slots else unmarked marks (s + 1) slots) here
    ∙ ap (λ l. if is_one_int slot && not (is_taken s ops) then s ∷ l else l) rest

-- where nothing was marked before
pub unmarked_untaken : (ops : List LinearOp) (slots : List Slot) → unmarked (all_marked ops (replicate (length slots) false)) 0 slots ≡ untaken ops 0 slots
unmarked_untaken ops slots =
    let n = length slots in
    let blank : List Bool = replicate n false in
    let marks = all_mark ops blank in
    left ops (all_marked ops blank) 0 n slots (λ t within. marks.each t (omega (arith, within, length-replicate {A = Bool} n false)) ∙ ap (λ b. b || is_taken t ops) (get_or-replicate n t false false within)) (omega arith)

-- the first ten of them
pub kept_are : (cut kept : List ℕ) (marks marked : List Bool) (ops all : List LinearOp) (slots whole : List Slot) (n : ℕ) → cut ≡ take 10 kept → kept ≡ unmarked marks 0 slots → marks ≡ marked →
    marked ≡ all_marked ops (replicate n false) → ops ≡ all → slots ≡ whole → n ≡ length slots → cut ≡ take 10 (untaken all 0 whole)
kept_are cut kept marks marked ops all slots whole n ec ek em ea eo es en =
    ec ∙ ap (take 10) (ek ∙ (ap (λ m. unmarked m 0 slots) (em ∙ (ea ∙ ap (λ k. all_marked ops (replicate k false)) en)) ∙ (unmarked_untaken ops slots ∙ (ap (λ os. untaken os 0 slots) eo ∙ ap (untaken all 0) es))))
