-- Local objects are built in their slots.
use Rattle.std.proofs.Common.{◌≡◌, ℕ, ◌+◌, ◌<◌, Some, refl, sym, ap, ◌∙◌, subst, arith, length}
use Rattle.cxx_ast.specs.declared.types.Ty.TheVariants.{Object}
use Rattle.cxx_ast.specs.Plain.{local_object}
use Rattle.meaning_forms.specs.Class.{class_type, class_named}
use Rattle.meaning_forms.specs.Construct.{destroy}
use Rattle.meaning_forms.specs.Expression.{construct}
use Rattle.meaning_forms.specs.Frame.{with_variable, local_number}
use Rattle.meaning_forms.specs.Part.{unset}
use Rattle.meaning_forms.specs.Scope.{scope}
use Rattle.meaning_forms.specs.Statement.{statement as source_statement}
use Rattle.meaning_forms.specs.World.{whole}
use Rattle.region_forms.specs.Form.{regions_from}
use Rattle.region_forms.specs.World.{of_variable}
use Rattle.region_forms.specs.Evaluation.{slot_location}
use Rattle.region_forms.specs.Outcome.{Flow, normal}
use Rattle.region_forms.specs.Meaning.{followed}
use Rattle.linear_simulation.specs.Watched.{watched_all as regions}
use Rattle.region_forms.specs.LowerExpression.{first_temporary, variable_type, slot_place, lower_construct}
use Rattle.region_forms.specs.LowerStatement.{variable_slot, scoped, statement}
use Rattle.region_simulation.specs.Reach.{slot_address, kind_for}
use Rattle.region_simulation.specs.Stands.{context_of}
use Rattle.region_simulation.specs.Alike.{Alike}
use Rattle.region_simulation.specs.Expressions.{source_running}
use Rattle.region_simulation.specs.Flows.{FlowAgrees, InScope, DoesAlike}
use Rattle.region_simulation.proofs.Following.{Agreement, alike_less, alike_on}
use Rattle.region_simulation.proofs.Joining.{joined}
use Rattle.region_simulation.proofs.Standard.{builtins_same}
use Rattle.region_simulation.proofs.Leaving.{follows_forgetting, scope_left}
use Rattle.region_simulation.proofs.Standing.{with_object}
use Rattle.region_simulation.proofs.Flowing.{alike_seq}
use Rattle.region_statements.specs.Objects.{ObjectsDoAlike}
use Rattle.region_statements.proofs.Variables.{object_declared}
use Rattle.region_statements.proofs.OwnParts.{Leads}
use Rattle.region_statements.proofs.Building.{arguments_here}

pub objects_do_alike : ObjectsDoAlike
objects_do_alike l own gives call b fit same terminates modules shaped scopes v c n i d k x es rest ys lt declares can next at w s stands in_scope =
    go n declares.numbered declares.there declares.typed in_scope
    (λ o. scopes v c n i d k x o (rest (with_variable x (whole o) v)) ys lt declares can.there (next o (d + 2) (omega (arith, lt))))
  where
    go : (m : ℕ) → local_number x.bound ≡ m → m < length l.variables → variable_type l m ≡ Object k → InScope l own m at v s
        → ((o : ℕ) → DoesAlike l own gives b (with_variable x (whole o) v) c (m + 1) i d
        (scope (source_running l call) c (destroy (source_running l call) (class_type (class_named k)) (whole o)) (rest (with_variable x (whole o) v)))
        (scoped l (class_type (class_named k)) (slot_place (variable_slot l (local_number x.bound))) ys d))
        → Alike l.layout l.program at (variable_slot l m) c w s (FlowAgrees l gives i d) (source_statement (source_running l call) (local_object k x es) rest v c w)
        (regions b (regions_from (statement l (local_object k x es) ys i n d)) (context_of w.open_calls c) s)
    go m e = subst (λ m. m < length l.variables → variable_type l m ≡ Object k → InScope l own m at v s
        → ((o : ℕ) → DoesAlike l own gives b (with_variable x (whole o) v) c (m + 1) i d
        (scope (source_running l call) c (destroy (source_running l call) (class_type (class_named k)) (whole o)) (rest (with_variable x (whole o) v)))
        (scoped l (class_type (class_named k)) (slot_place (variable_slot l (local_number x.bound))) ys d))
        → Alike l.layout l.program at (variable_slot l m) c w s (FlowAgrees l gives i d) (source_statement (source_running l call) (local_object k x es) rest v c w)
        (regions b (regions_from (statement l (local_object k x es) ys i n d)) (context_of w.open_calls c) s)) e
        (λ there typed in_scope behind.
        let r = source_running l call in
        let m = local_number x.bound in
        let j = class_named k in
        let o = length w.objects in
        let w1 = with_object (unset l.program (class_type j)) w in
        let agree = FlowAgrees l gives i d in
        let ctx = context_of w.open_calls c in
        let slot = variable_slot l m in
        let more = variable_slot l (m + 1) in
        let (newly, placed) = object_declared l own v c m there at w s stands in_scope k typed (shaped j can.there) in
        let g = newly.follows in
        let first : Leads l.layout l.program g.places (first_temporary l) b.kinds s.frame (slot_place slot) (whole o) (class_type j) = record {
          address = slot_address s.frame.call slot;
          refers = record {
            stood = record { base = of_variable s.frame.call slot; type = class_type j };
            stands = placed;
            typed = refl;
            address = refl;
          };
          located = λ f keeps. ap (λ q. Some (slot_location q f.call slot 0)) (fit.variables m there ∙ ap kind_for typed) ∙ ap (λ q. Some (slot_location (kind_for (Object k)) q slot 0)) keeps.call;
        } in
        let on : Agreement (Unit {0}) Flow = (λ u flow w2 at2 s2. flow ≡ normal) in
        let before = lower_construct l j es (slot_place slot) (first_temporary l) in
        let after = regions b (regions_from (scoped l (class_type j) (slot_place slot) ys d)) in
        let built : Alike l.layout l.program g.places (first_temporary l) c w1 s on (construct r v j es (whole o) c w1) (regions b (regions_from before) ctx s) =
        arguments_here l own call b v c fit same (builtins_same l own call b v c fit (terminates v c) (modules v c)) (slot_place slot) (whole o) j es can g.places w1 s g.stands
        newly.unnamed.reach first in
        subst (λ q. Alike l.layout l.program at slot c w s agree (source_statement r (local_object k x es) rest v c w) q) (sym (joined b ctx before _ s))
        (alike_on l.layout l.program agree at slot c c w s w1 s g _ _
        (alike_less l.layout l.program agree g.places slot more c w1 s _ _ (omega arith)
        (alike_seq l.layout l.program on agree g.places more c w1 s (construct r v j es (whole o) c w1) (regions b (regions_from before) ctx s)
        (λ u. scope r c (destroy r (class_type j) (whole o)) (rest (with_variable x (whole o) v))) (followed (after ctx))
        (alike_less l.layout l.program on g.places more (first_temporary l) c w1 s _ _ (omega (arith, there)) built)
        (λ u flow w2 s2 h is.
        let f = follows_forgetting l.layout l.program g.places more c w1 s c w2 s2 h in
        subst (λ q. Alike l.layout l.program g.places more c w1 s agree (scope r c (destroy r (class_type j) (whole o)) (rest (with_variable x (whole o) v)) w2) (followed (after ctx) q s2))
        (sym is)
        (alike_on l.layout l.program agree g.places more c c w1 s w2 s2 f _ _
        (subst (λ q. Alike l.layout l.program f.places more c w2 s2 agree (scope r c (destroy r (class_type j) (whole o)) (rest (with_variable x (whole o) v)) w2) (after (context_of q c) s2))
        h.open_calls
        (behind o f.places w2 s2 f.stands (scope_left l own (with_variable x (whole o) v) (m + 1) g.places w1 s c c w2 s2 g.stands h newly.named)))))))))
