-- The forms that raise exceptions, or clean up behind them, do the same in each function of a program.
use Rattle.std.proofs.Common.{◌≡◌, ℕ, ◌<◌, Bool, true, false, ◌++◌, List, [], map, Option, Some, None, ap, length}
use Rattle.cxx_ast.specs.declared.types.Ty.{Ty}
use Rattle.cxx_ast.specs.Plain.{Checked, Class, Handlers, no_handlers, handler_then}
use Rattle.meaning_forms.specs.Class.{base_part, member_part, parts_of}
use Rattle.meaning_forms.specs.Construct.{is_constructor_with, is_destructor, place_from, declared_or}
use Rattle.meaning_forms.specs.Running.{implicit_default}
use Rattle.region_forms.specs.Form.{Kinds, help_slot, Regions}
use Rattle.region_forms.specs.Laws.{CaughtListFollows}
use Rattle.region_forms.specs.Layout.{Layout}
use Rattle.region_forms.specs.LowerExpression.{Lowering}
use Rattle.region_forms.specs.LowerProgram.{lowering}
use Rattle.region_forms.specs.Ending.{Running}
use Rattle.region_forms.specs.Numbering.{type_rows}
use Rattle.region_simulation.specs.Calls.{SameCalls}
use Rattle.region_simulation.specs.Reach.{KindsFit}
use Rattle.region_statements.specs.Calls.{regions_running, SameExtents}
use Rattle.region_statements.specs.Fueled.{fueled, fueled_call}
use Rattle.region_statements.specs.Members.{SameMemberExtents}
use Rattle.region_statements.specs.Parts.{SameParts}
use Rattle.region_statements.specs.Statements.{SourceCalls, SameExceptions, HandlersDo}
use Rattle.region_statements.proofs.Objects.{objects_do_alike}
use Rattle.region_exceptions.specs.Catches.{BlocksDo}
use Rattle.region_exceptions.specs.Extents.{EmptyConstructor}
use Rattle.region_exceptions.specs.Handlers.{EmptyDestructor}
use Rattle.region_exceptions.specs.Same.{RunAlike}
use Rattle.region_exceptions.proofs.Exceptions.{all_throws_do_alike, all_tries_do_alike}
use Rattle.region_exceptions.proofs.Modules.{modules_answer_alike}
use Rattle.region_exceptions.proofs.Unset.{unset_is_shaped}
use Rattle.region_meaning.specs.Forms.{IsOrderedProgram, FormsAreSame}
use Rattle.region_meaning.proofs.Destructors.{empty_constructors_are_same, empty_destructors_are_same}
use Rattle.region_meaning.proofs.Extents.{extents, member_extents}
use Rattle.region_meaning.proofs.Fueled.{fueled_fares}
use Rattle.region_meaning.proofs.Scopes.{object_scopes_are_same, parts_are_same}

-- statements of handlers do, as throws and as statements say it
blocks_do : (l : Lowering) (own : Option ℕ) (gives : Bool) (call : SourceCalls) (b : Running) (hs : Handlers) → HandlersDo l own gives call b hs → BlocksDo l own gives call b hs
blocks_do l own gives call b no_handlers h = tt
blocks_do l own gives call b (handler_then t x ss place hs) h = (h.0, blocks_do l own gives call b hs h.1)

module _ (laws : CaughtListFollows) (p : Checked) (layout : Layout) (q : Regions) (limit fuel : ℕ) (ordered : IsOrderedProgram p) (types : q.types ≡ type_rows p)
    (same : SameCalls layout (fueled p limit fuel) (regions_running q limit fuel (λ s. help_slot))) (kinds : Kinds) where
  alike : RunAlike layout (fueled p limit fuel) (regions_running q limit fuel kinds)
  alike = record { types = types; ordered = ordered.ordered; calls = same }

  no_parts : parts_of p 0 ≡ []
  no_parts = ap (λ (k : Class). base_part k.base ++ map member_part k.members) ordered.first

  destroyed : EmptyDestructor layout (fueled p limit fuel) (regions_running q limit fuel kinds)
  destroyed = empty_destructors_are_same p layout q limit fuel kinds (ap (λ (k : Class). place_from 0 (λ f. is_destructor f.kind) k.functions) ordered.first) no_parts

  built : EmptyConstructor layout (fueled p limit fuel) (regions_running q limit fuel kinds)
  built =
      empty_constructors_are_same p layout q limit fuel kinds
      (ap (λ (k : Class). declared_or implicit_default (place_from 0 (is_constructor_with 0 0) k.functions)) ordered.first) no_parts

  exceptions : (is_member : Bool) (variables : List Ty) (own : Option ℕ) (gives : Bool) → KindsFit (lowering p layout is_member variables) kinds
      → SameExceptions (lowering p layout is_member variables) own gives (fueled_call p limit fuel) (regions_running q limit fuel kinds)
  exceptions is_member variables own gives fit =
      let l = lowering p layout is_member variables in
      let call = fueled_call p limit fuel in
      let b = regions_running q limit fuel kinds in
      let fare = fueled_fares p limit fuel in
      record {
        terminates = λ v c. (modules_answer_alike laws l own call b v c fit alike).0;
        modules = λ v c. (modules_answer_alike laws l own call b v c fit alike).1;
        throws = λ v c n i d e lt can. all_throws_do_alike laws l own gives call b v c alike fit fare n i d e can;
        objects = λ v c n i d k x es rest ys lt declares can next.
            objects_do_alike l own gives call b fit same (λ v c. (modules_answer_alike laws l own call b v c fit alike).0)
            (λ v c. (modules_answer_alike laws l own call b v c fit alike).1) (unset_is_shaped p ordered.ordered)
            (object_scopes_are_same l own gives call b alike fare fit) v c n i d k x es rest ys lt declares can next;
        tries = λ v c n i d ss hs lt block handlers typed caught.
            all_tries_do_alike laws l own gives call b v c alike fit fare destroyed n i d ss hs lt block (blocks_do l own gives call b hs handlers) typed caught;
      }

  specified : (is_member : Bool) (variables : List Ty) (own : Option ℕ) (gives : Bool)
      → SameExtents (lowering p layout is_member variables) own gives (fueled_call p limit fuel) (regions_running q limit fuel kinds)
  specified is_member variables own gives =
      extents laws (lowering p layout is_member variables) (fueled_call p limit fuel) (regions_running q limit fuel kinds) alike (fueled_fares p limit fuel) destroyed built own gives

  in_function : (is_member : Bool) (variables : List Ty) (own : Option ℕ) (gives : Bool) → KindsFit (lowering p layout is_member variables) kinds
      → SameExceptions (lowering p layout is_member variables) own gives (fueled_call p limit fuel) (regions_running q limit fuel kinds) ×
      SameExtents (lowering p layout is_member variables) own gives (fueled_call p limit fuel) (regions_running q limit fuel kinds)
  in_function is_member variables own gives fit = (exceptions is_member variables own gives fit, specified is_member variables own gives)

  in_member : (variables : List Ty) (k : ℕ) (gives : Bool) → k < length p.classes → KindsFit (lowering p layout true variables) kinds
      → SameExceptions (lowering p layout true variables) (Some k) gives (fueled_call p limit fuel) (regions_running q limit fuel kinds) ×
      SameParts (lowering p layout true variables) k gives (fueled_call p limit fuel) (regions_running q limit fuel kinds) ×
      SameMemberExtents (lowering p layout true variables) k gives (fueled_call p limit fuel) (regions_running q limit fuel kinds)
  in_member variables k gives lt fit =
      let l = lowering p layout true variables in
      let call = fueled_call p limit fuel in
      let b = regions_running q limit fuel kinds in
      let fare = fueled_fares p limit fuel in (
        exceptions true variables (Some k) gives fit,
        parts_are_same l k gives call b alike fare lt,
        member_extents laws l call b alike fare destroyed built k gives,
      )

pub forms_are_same : CaughtListFollows → FormsAreSame
forms_are_same laws p layout q limit ordered types = record {
  functions = λ fuel n same lt kinds fit. in_function laws p layout q limit fuel ordered types same kinds false _ None _ fit;
  methods = λ fuel k i same lt within kinds fit. in_function laws p layout q limit fuel ordered types same kinds true _ (Some k) _ fit;
  members = λ fuel k gives variables same lt kinds fit. in_member laws p layout q limit fuel ordered types same kinds variables k gives lt fit;
}
