-- What builds a part of the object that a constructor works on.
use Rattle.std.proofs.Common.{◌≡◌, ℕ, ◌+◌, pos, true, Option, Some, None, ap, ◌∙◌, subst, arith}
use Rattle.std.specs.Prelude.{slice_get}
use Rattle.class_layout.specs.StandApart.{StandApart}
use Rattle.cxx_ast.specs.declared.types.Ty.{Ty}
use Rattle.cxx_ast.specs.declared.types.Ty.TheVariants.{Int, Void, Object, IntRef, ObjectRef}
use Rattle.cxx_ast.specs.Plain.{Expressions, no_expressions, expression_then}
use Rattle.meaning_forms.specs.Call.{default_part as source_default_part, copy_part as source_copy_part, initial_part as source_initial_part}
use Rattle.meaning_forms.specs.Class.{ObjectType, int_type, class_type, object_type, parts_of}
use Rattle.meaning_forms.specs.Context.{Context as SourceContext}
use Rattle.meaning_forms.specs.Expression.{is_reference, value_of}
use Rattle.meaning_forms.specs.Frame.{Frame as SourceFrame, variable_in}
use Rattle.meaning_forms.specs.World.{part}
use Rattle.region_forms.specs.World.{Frame, Address, address_word, address_in, behind}
use Rattle.region_forms.specs.Evaluation.{location_behind}
use Rattle.region_forms.specs.Layout.{laid_part}
use Rattle.region_forms.specs.Ending.{Running}
use Rattle.region_forms.specs.LowerExpression.{Lowering, first_temporary, variable_type, lower}
use Rattle.region_forms.specs.LowerProgram.{part_place, default_part, copy_part, initial_part}
use Rattle.region_simulation.specs.Places.{Refers}
use Rattle.region_simulation.specs.Reach.{is_in_reach, IsReachedBy, KindsFit}
use Rattle.region_simulation.specs.Calls.{SameCalls}
use Rattle.region_simulation.specs.Expressions.{source_running, SameBuiltins}
use Rattle.region_simulation.proofs.Expressions.{expression_evaluates}
use Rattle.region_statements.specs.Sequences.{GoesOn}
use Rattle.region_statements.specs.Statements.{SourceCalls}
use Rattle.region_statements.specs.Members.{CanInitialise, CanDefaultPart, CanCopyPart}
use Rattle.region_statements.proofs.OwnParts.{refers_part, part_leads, AlwaysLeads, nothing_goes, store_goes}
use Rattle.region_statements.proofs.Building.{arguments_construct, default_constructs, copy_constructs, int_copies, int_set_to}

module _ (l : Lowering) (k : ℕ) (call : SourceCalls) (b : Running) (v : SourceFrame) (c : SourceContext) (fit : KindsFit l b.kinds)
    (apart : StandApart l.layout.classes l.program.classes) (same : SameCalls l.layout (source_running l call) b) (builtins : SameBuiltins l (Some k) call b v c) where
  own_leads : (i : ℕ) (t : ObjectType) → slice_get (parts_of l.program k) i ≡ Some t
      → AlwaysLeads l (Some k) b v c (part_place l.layout l.program k 0 i) (part i v.this) t
  own_leads i t is at w s stands reach = part_leads l k b.kinds v at s.frame reach (first_temporary l) i t (omega arith) is

  -- by an initialiser, or without one
  pub initial_goes : (i : ℕ) (t : ObjectType) → slice_get (parts_of l.program k) i ≡ Some t → (o : Option Expressions) → CanInitialise l (Some k) v.variables o t
      → GoesOn l (Some k) b v c (source_initial_part (source_running l call) v c i o t) (initial_part l k i o t)
  initial_goes i int_type is None can = nothing_goes l (Some k) b v c
  initial_goes i (class_type j) is None can =
      default_constructs l (Some k) call b v c fit same builtins (part_place l.layout l.program k 0 i) (part i v.this) j (own_leads i (class_type j) is) can
  initial_goes i int_type is (Some no_expressions) can =
      int_set_to l (Some k) call b v c fit same builtins apart (part_place l.layout l.program k 0 i) (part i v.this) (own_leads i int_type is) (pos 0)
  initial_goes i int_type is (Some (expression_then e es)) can =
      store_goes l (Some k) b v c apart (part_place l.layout l.program k 0 i) (part i v.this) (own_leads i int_type is) (value_of (source_running l call) v e c)
      (lower l e (first_temporary l)) (expression_evaluates l (Some k) call b v c fit same builtins e (first_temporary l) (omega arith) can)
  initial_goes i (class_type j) is (Some es) can =
      arguments_construct l (Some k) call b v c fit same builtins (part_place l.layout l.program k 0 i) (part i v.this) j es (own_leads i (class_type j) is) can

  -- by default
  pub default_goes : (i : ℕ) (t : ObjectType) → slice_get (parts_of l.program k) i ≡ Some t → CanDefaultPart l.program t
      → GoesOn l (Some k) b v c (source_default_part (source_running l call) v.this c i t) (default_part l k i t)
  default_goes i int_type is can =
      int_set_to l (Some k) call b v c fit same builtins apart (part_place l.layout l.program k 0 i) (part i v.this) (own_leads i int_type is) (pos 0)
  default_goes i (class_type j) is can =
      default_constructs l (Some k) call b v c fit same builtins (part_place l.layout l.program k 0 i) (part i v.this) j (own_leads i (class_type j) is) can

  -- what the first variable refers to, whose address is in the second slot
  module _ (first : l.first_variable ≡ 1) (there : is_in_reach v.variables 0 ≡ true) (reference : is_reference (variable_type l 0) ≡ true)
      (named : object_type (variable_type l 0) ≡ class_type k) where
    holds_address : (t : Ty) (s : ℕ) (f : Frame) (a : Address) → is_reference t ≡ true → IsReachedBy t s f a → f.slots s ≡ address_word a
    holds_address (IntRef m) s f a e h = h
    holds_address (ObjectRef m n) s f a e h = h
    holds_address Int s f a e h = absurd (cc e)
    holds_address Void s f a e h = absurd h
    holds_address (Object n) s f a e h = absurd (cc e)

    source_leads : (i : ℕ) (t : ObjectType) → slice_get (parts_of l.program k) i ≡ Some t
        → AlwaysLeads l (Some k) b v c (part_place l.layout l.program k 1 i) (part i (variable_in v.variables 0)) t
    source_leads i t is at w s stands reach =
        let x = reach.variables 0 there in
        let slot : l.first_variable + 0 ≡ 1 = omega (arith, first) in
        let held : s.frame.slots 1 ≡ address_word x.address =
        subst (λ n. s.frame.slots n ≡ address_word x.address) slot (holds_address (variable_type l 0) (l.first_variable + 0) s.frame x.address reference x.reached) in
        record {
          address = behind x.address (laid_part l.layout l.program k i);
          refers = refers_part (variable_in v.variables 0) k i t x.address
              (subst (λ u. Refers l.layout l.program at (variable_in v.variables 0) u x.address) named x.refers) is;
          located = λ g keeps. ap (λ q. location_behind (laid_part l.layout l.program k i) (address_in q)) (keeps.slots 1 (omega (arith, first)) ∙ held);
        }

    -- as a copy of the same part of that
    pub copy_goes : (i : ℕ) (t : ObjectType) → slice_get (parts_of l.program k) i ≡ Some t → CanCopyPart l.program t
        → GoesOn l (Some k) b v c (source_copy_part (source_running l call) v.this (variable_in v.variables 0) c i t) (copy_part l k i t)
    copy_goes i int_type is can =
        int_copies l (Some k) call b v c fit same builtins apart (part_place l.layout l.program k 0 i) (part_place l.layout l.program k 1 i) (part i v.this)
        (part i (variable_in v.variables 0)) (own_leads i int_type is) (source_leads i int_type is)
    copy_goes i (class_type j) is can =
        copy_constructs l (Some k) call b v c fit same builtins (part_place l.layout l.program k 0 i) (part_place l.layout l.program k 1 i) (part i v.this)
        (part i (variable_in v.variables 0)) j (own_leads i (class_type j) is) (source_leads i (class_type j) is) can
