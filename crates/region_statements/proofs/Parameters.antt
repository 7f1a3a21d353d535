-- Parameters by value are new objects at their slots, and those by reference name what stands at the addresses that are passed.
use Rattle.std.proofs.Common.{◌≡◌, ℕ, suc, ◌+◌, true, List, [], ◌∷◌, ◌++◌, Option, Some, None, refl, sym, ap, ◌∙◌, subst, arith, length}
use Rattle.cxx_ast.specs.Plain.{Checked}
use Rattle.cxx_ast.specs.declared.name.Name.{Name}
use Rattle.cxx_ast.specs.declared.types.Ty.{Ty}
use Rattle.cxx_ast.specs.declared.types.Ty.TheVariants.{Int, Void, Object, IntRef, ObjectRef}
use Rattle.cxx_ast.specs.declared.types.Param.{Param}
use Rattle.meaning_forms.specs.Class.{object_type}
use Rattle.meaning_forms.specs.Part.{cell}
use Rattle.meaning_forms.specs.World.{World as SourceWorld, Reference, whole}
use Rattle.meaning_forms.specs.Context.{Context as SourceContext}
use Rattle.meaning_forms.specs.Expression.{types_of, is_reference}
use Rattle.meaning_forms.specs.Frame.{Frame as SourceFrame, Variable, with_parameter, with_argument, with_arguments}
use Rattle.meaning_forms.specs.Outcome.{Action as SourceAction, Result as SourceResult, done as source_done, continued as source_continued}
use Rattle.meaning_forms.specs.Running.{Argument, by_value, by_reference}
use Rattle.region_forms.specs.Form.{Kinds, SlotKind, int_slot, address_slot, object_slot, help_slot}
use Rattle.region_forms.specs.Layout.{Layout}
use Rattle.region_forms.specs.World.{Word}
use Rattle.region_forms.specs.Effect.{passed_to, int_passed_to, frame_passed, world_passed}
use Rattle.region_forms.specs.Outcome.{State}
use Rattle.region_forms.specs.LowerExpression.{Lowering}
use Rattle.region_forms.specs.LowerStatement.{variable_slot}
use Rattle.region_simulation.specs.Places.{Places, Refers}
use Rattle.region_simulation.specs.Reach.{KindsFit, kind_for}
use Rattle.region_simulation.specs.Stands.{Stands}
use Rattle.region_simulation.specs.Alike.{Follows}
use Rattle.region_simulation.specs.Calls.{SameArgument, SameArguments}
use Rattle.region_simulation.specs.Flows.{InScope}
use Rattle.region_simulation.specs.Statements.{HasNumber, DeclaresNext, declared_to}
use Rattle.region_simulation.proofs.Following.{follows_now, follows_on, follows_less}
use Rattle.region_simulation.proofs.Passing.{same_kept}
use Rattle.region_statements.specs.Functions.{AreDeclared, all_declared_to}
use Rattle.region_statements.proofs.Variables.{IsReference, Declared, int_set, reference_declared}

-- the state with what is passed for the variables from a slot on
abbrev pub passed_state : Kinds → ℕ → List Word → State → State
passed_state kinds s words st = record st {
  frame = frame_passed kinds s words st.frame;
  world = world_passed kinds st.frame.call s words st.world;
}

-- what is passed still is
pub arguments_kept : (l : Layout) (p : Checked) (at : Places) (k : ℕ) (w : SourceWorld) (s : State) (c d : SourceContext) (w2 : SourceWorld) (s2 : State) → Stands l p at c w s
    → (h : Follows l p at k w s d w2 s2) (types : List Ty) (given : List Argument) (words : List Word) → SameArguments l p at types given words → SameArguments l p h.places types given words
arguments_kept l p at k w s c d w2 s2 stands h [] [] [] same = tt
arguments_kept l p at k w s c d w2 s2 stands h [] [] (x ∷ words) same = absurd same
arguments_kept l p at k w s c d w2 s2 stands h [] (a ∷ given) words same = absurd same
arguments_kept l p at k w s c d w2 s2 stands h (t ∷ types) [] words same = absurd same
arguments_kept l p at k w s c d w2 s2 stands h (t ∷ types) (a ∷ given) [] same = absurd same
arguments_kept l p at k w s c d w2 s2 stands h (t ∷ types) (a ∷ given) (x ∷ words) same =
    (same_kept l p at k w s c d w2 s2 stands h t a x same.0, arguments_kept l p at k w s c d w2 s2 stands h types given words same.1)

in_reach_behind : (x : Option Name) (r : Reference) (v : SourceFrame) → (with_parameter x r v).variables ≡ declared_to x r v.variables
in_reach_behind None r v = refl
in_reach_behind (Some x) r v = refl

reference_type : (t : Ty) → is_reference t ≡ true → IsReference t
reference_type (IntRef k) e = tt
reference_type (ObjectRef k n) e = tt
reference_type Int e = absurd (cc e)
reference_type Void e = absurd (cc e)
reference_type (Object n) e = absurd (cc e)

reference_kind : (t : Ty) → is_reference t ≡ true → kind_for t ≡ address_slot
reference_kind (IntRef k) e = refl
reference_kind (ObjectRef k n) e = refl
reference_kind Int e = absurd (cc e)
reference_kind Void e = absurd (cc e)
reference_kind (Object n) e = absurd (cc e)

-- the variables of a call where parameters were passed
pub record Entered (l : Lowering) (own : Option ℕ) (c : SourceContext) (at : Places) (w : SourceWorld) (s : State) (params : List Param) (before : List Variable) (n : ℕ)
    (r : SourceResult SourceFrame) (s2 : State) : Type 0 where
  pub frame : SourceFrame
  pub world : SourceWorld
  pub is : r ≡ source_done frame world
  pub follows : Follows l.layout l.program at 0 w s c world s2
  pub scope : InScope l own n follows.places frame s2
  pub references : List Reference
  pub counted : length references ≡ length params
  pub variables : frame.variables ≡ all_declared_to params references before

module _ (l : Lowering) (own : Option ℕ) (kinds : Kinds) (fit : KindsFit l kinds) (c : SourceContext) where
  -- one parameter
  record Passed (at : Places) (v : SourceFrame) (w : SourceWorld) (s : State) (n : ℕ) (x : Param) (r : SourceResult SourceFrame) (s2 : State) : Type 0 where
    frame : SourceFrame
    world : SourceWorld
    is : r ≡ source_done frame world
    follows : Follows l.layout l.program at (variable_slot l n) w s c world s2
    scope : InScope l own (n + 1) follows.places frame s2
    reference : Reference
    variables : frame.variables ≡ declared_to x.name reference v.variables

  in_scope : (at : Places) (v : SourceFrame) (w : SourceWorld) (s : State) (n : ℕ) (x : Option Name) (r : Reference) (w2 : SourceWorld) (s2 : State) → HasNumber x n
      → (d : Declared l own v n at c w s r w2 s2) → InScope l own (n + 1) d.follows.places (with_parameter x r v) s2
  in_scope at v w s n None r w2 s2 numbered d = d.unnamed
  in_scope at v w s n (Some y) r w2 s2 numbered d =
      subst (λ q. InScope l own (n + 1) d.follows.places (record v { variables = record { number = q; reference = r } ∷ v.variables }) s2) (sym numbered) d.named

  one_passed : (at : Places) (v : SourceFrame) (w : SourceWorld) (s : State) (n : ℕ) (x : Param) (a : Argument) (q : Word) → DeclaresNext l n x.name x.ty
      → Stands l.layout l.program at c w s → InScope l own n at v s → SameArgument l.layout l.program at x.ty a q
      → Passed at v w s n x (with_argument x a v w)
      (record s { frame = passed_to (kinds (variable_slot l n)) (variable_slot l n) q s.frame; world = int_passed_to (kinds (variable_slot l n)) s.frame.call (variable_slot l n) q s.world })
  one_passed at v w s n x (by_value z) q declares stands scope (int, is) =
      let k = variable_slot l n in
      let d = int_set l own v c n declares.there at w s stands scope (declares.typed ∙ int) z in
      subst (λ kind. Passed at v w s n x (with_argument x (by_value z) v w) (record s { frame = passed_to kind k q s.frame; world = int_passed_to kind s.frame.call k q s.world }))
      (sym (fit.variables n declares.there ∙ ap kind_for (declares.typed ∙ int)))
      (subst (λ y. Passed at v w s n x (with_argument x (by_value z) v w) (record s { frame = passed_to int_slot k y s.frame; world = int_passed_to int_slot s.frame.call k y s.world }))
      (sym is) (record {
        frame = with_parameter x.name (whole (length w.objects)) v;
        world = record w { objects = w.objects ++ cell (Some z) ∷ [] };
        is = refl;
        follows = d.follows;
        scope = in_scope at v w s n x.name (whole (length w.objects)) _ _ declares.numbered d;
        reference = whole (length w.objects);
        variables = in_reach_behind x.name (whole (length w.objects)) v;
      }))
  one_passed at v w s n x (by_reference r) q declares stands scope (reference, a, refers, is) =
      let k = variable_slot l n in
      let is_reference = subst IsReference (sym declares.typed) (reference_type x.ty reference) in
      let named = subst (λ t. Refers l.layout l.program at r (object_type t) a) (sym declares.typed) refers in
      let d = reference_declared l own v c n declares.there at w s stands scope is_reference r a named in
      subst (λ kind. Passed at v w s n x (with_argument x (by_reference r) v w) (record s { frame = passed_to kind k q s.frame; world = int_passed_to kind s.frame.call k q s.world }))
      (sym (fit.variables n declares.there ∙ ap kind_for declares.typed ∙ reference_kind x.ty reference))
      (subst (λ y. Passed at v w s n x (with_argument x (by_reference r) v w) (record s { frame = passed_to address_slot k y s.frame; world = int_passed_to address_slot s.frame.call k y s.world }))
      (sym is) (record {
        frame = with_parameter x.name r v;
        world = w;
        is = refl;
        follows = d.follows;
        scope = in_scope at v w s n x.name r _ _ declares.numbered d;
        reference = r;
        variables = in_reach_behind x.name r v;
      }))

  -- the frame is still that of the call
  passed_call : (kind : SlotKind) (s : ℕ) (q : Word) (st : State) → (passed_to kind s q st.frame).call ≡ st.frame.call
  passed_call int_slot s q st = refl
  passed_call address_slot s q st = refl
  passed_call object_slot s q st = refl
  passed_call help_slot s q st = refl

  -- one, then the others
  next_passed : (at : Places) (v : SourceFrame) (w : SourceWorld) (st : State) (n : ℕ) (x : Param) (r : SourceResult SourceFrame) (st2 : State) (first : Passed at v w st n x r st2)
      (params : List Param) (m : ℕ) (y : SourceFrame → SourceAction SourceFrame) (st3 : State)
      → Entered l own c first.follows.places first.world st2 params first.frame.variables m (y first.frame first.world) st3
      → Entered l own c at w st (x ∷ params) v.variables m (source_continued r y) st3
  next_passed at v w st n x r st2 first params m y st3 rest = record {
    frame = rest.frame;
    world = rest.world;
    is = ap (λ q. source_continued q y) first.is ∙ rest.is;
    follows = follows_on l.layout l.program at 0 w st c first.world st2 c rest.world st3
        (follows_less l.layout l.program at 0 (variable_slot l n) w st c first.world st2 (omega arith) first.follows) rest.follows;
    scope = rest.scope;
    references = first.reference ∷ rest.references;
    counted = ap suc rest.counted;
    variables = rest.variables ∙ ap (λ xs. all_declared_to params rest.references xs) first.variables;
  }

  -- all of them
  pub all_passed : (params : List Param) (given : List Argument) (words : List Word) (n s : ℕ) → s ≡ variable_slot l n → AreDeclared l n params
      → (at : Places) (v : SourceFrame) (w : SourceWorld) (st : State) → Stands l.layout l.program at c w st → InScope l own n at v st
      → SameArguments l.layout l.program at (types_of params) given words
      → Entered l own c at w st params v.variables (n + length params) (with_arguments params given v w) (passed_state kinds s words st)
  all_passed [] [] [] n s e declares at v w st stands scope same =
      let none : n ≡ n + 0 = omega arith in
      record {
        frame = v;
        world = w;
        is = refl;
        follows = follows_now l.layout l.program at 0 c w st stands;
        scope = subst (λ q. InScope l own q at v st) none scope;
        references = [];
        counted = refl;
        variables = refl;
      }
  all_passed [] [] (q ∷ words) n s e declares at v w st stands scope same = absurd same
  all_passed [] (a ∷ given) words n s e declares at v w st stands scope same = absurd same
  all_passed (x ∷ params) [] words n s e declares at v w st stands scope same = absurd same
  all_passed (x ∷ params) (a ∷ given) [] n s e declares at v w st stands scope same = absurd same
  all_passed (x ∷ params) (a ∷ given) (q ∷ words) n s e declares at v w st stands scope same =
      let st2 = record st { frame = passed_to (kinds s) s q st.frame; world = int_passed_to (kinds s) st.frame.call s q st.world } in
      let first : Passed at v w st n x (with_argument x a v w) st2 =
      subst (λ k. Passed at v w st n x (with_argument x a v w) (record st { frame = passed_to (kinds k) k q st.frame; world = int_passed_to (kinds k) st.frame.call k q st.world })) (sym e)
      (one_passed at v w st n x a q declares.0 stands scope same.0) in
      let h = first.follows in
      let more : s + 1 ≡ variable_slot l (n + 1) = omega (arith, e) in
      let sum : n + 1 + length params ≡ n + suc (length params) = omega arith in
      let rest = all_passed params given words (n + 1) (s + 1) more declares.1 h.places first.frame first.world st2 h.stands first.scope
      (arguments_kept l.layout l.program at (variable_slot l n) w st c c first.world st2 stands h (types_of params) given words same.1) in
      let whole = next_passed at v w st n x (with_argument x a v w) st2 first params (n + 1 + length params) (λ f. with_arguments params given f) (passed_state kinds (s + 1) words st2) rest in
      subst (λ m. Entered l own c at w st (x ∷ params) v.variables m (with_arguments (x ∷ params) (a ∷ given) v w) (passed_state kinds s (q ∷ words) st)) sum
      (subst (λ call. Entered l own c at w st (x ∷ params) v.variables (n + 1 + length params) (with_arguments (x ∷ params) (a ∷ given) v w)
      (record st2 { frame = frame_passed kinds (s + 1) words st2.frame; world = world_passed kinds call (s + 1) words st2.world })) (passed_call (kinds s) s q st) whole)
