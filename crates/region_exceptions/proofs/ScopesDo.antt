-- Scopes of objects, and parts of objects, do the same wherever their places lead to them.
use Rattle.std.proofs.Common.{◌≡◌, ◌+◌, sym, subst, arith}
use Rattle.meaning_forms.specs.Class.{class_type}
use Rattle.meaning_forms.specs.Construct.{destroy as source_destroy}
use Rattle.meaning_forms.specs.Running.{destructor}
use Rattle.meaning_forms.specs.Scope.{scope, until_complete}
use Rattle.region_forms.specs.Form.{destroy_scope, destroy_part, protect, in_order, regions_from}
use Rattle.region_forms.specs.Meaning.{outwards}
use Rattle.linear_simulation.specs.Watched.{watched_all as regions}
use Rattle.region_forms.specs.LowerExpression.{result_slot}
use Rattle.region_forms.specs.LowerStatement.{variable_slot}
use Rattle.region_forms.specs.Numbering.{number_of}
use Rattle.region_simulation.specs.Stands.{context_of}
use Rattle.region_simulation.specs.Alike.{Alike}
use Rattle.region_simulation.specs.Flows.{FlowAgrees}
use Rattle.region_simulation.specs.Expressions.{source_running}
use Rattle.region_simulation.proofs.Flowing.{alike_after, outwards_agrees, single}
use Rattle.region_exceptions.specs.Exceptions.{ScopesDoAlike}
use Rattle.region_exceptions.proofs.Scopes.{flows_steady}
use Rattle.region_exceptions.proofs.Protecting.{scope_protects, part_protects}

pub scopes_do_alike : ScopesDoAlike
scopes_do_alike l own gives call b v c same fare n i d place target j lt leads act rs does =
    let a = source_running l call in
    let k = variable_slot l n in
    let number = number_of l.program (destructor j) in
    let more : d + 2 ≡ d + 1 + 1 = omega arith in (
      (λ at w s stands inside.
          let ctx = context_of w.open_calls c in
          let body = alike_after l.layout l.program (FlowAgrees l gives i (d + 1 + 1)) (FlowAgrees l gives i (d + 1)) at k c w s (act w) (regions b (regions_from rs) ctx s) outwards
          (outwards_agrees l gives i (d + 1) (omega (arith, lt)))
          (subst (λ m. Alike l.layout l.program at k c w s (FlowAgrees l gives i m) (act w) (regions b (regions_from rs) ctx s)) more (does at w s stands inside)) in
          subst (λ z. Alike l.layout l.program at k c w s (FlowAgrees l gives i d) (scope a c (source_destroy a (class_type j) target) act w) z)
          (sym (single b (protect (in_order rs) (destroy_scope place number)) ctx s))
          (scope_protects l.layout a b same fare (FlowAgrees l gives i (d + 1)) (FlowAgrees l gives i d) (result_slot l + 1) (flows_steady l gives i (d + 1)) (outwards_agrees l gives i d lt)
          at k c w s place target j stands (leads at w s stands inside) act (in_order rs) body)),
      (λ at w s stands inside.
          let ctx = context_of w.open_calls c in
          let body = alike_after l.layout l.program (FlowAgrees l gives i (d + 1 + 1)) (FlowAgrees l gives i (d + 1)) at k c w s (act w) (regions b (regions_from rs) ctx s) outwards
          (outwards_agrees l gives i (d + 1) (omega (arith, lt)))
          (subst (λ m. Alike l.layout l.program at k c w s (FlowAgrees l gives i m) (act w) (regions b (regions_from rs) ctx s)) more (does at w s stands inside)) in
          subst (λ z. Alike l.layout l.program at k c w s (FlowAgrees l gives i d) (until_complete a c (source_destroy a (class_type j) target) act w) z)
          (sym (single b (protect (in_order rs) (destroy_part place number)) ctx s))
          (part_protects l.layout a b same fare (FlowAgrees l gives i (d + 1)) (FlowAgrees l gives i d) (result_slot l + 1) (flows_steady l gives i (d + 1)) (outwards_agrees l gives i d lt)
          at k c w s place target j stands (leads at w s stands inside) act (in_order rs) body)),
    )
