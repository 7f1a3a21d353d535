-- Local variables: an int gets a place at its slot, set or not, and a reference's slot gets an address.
use Rattle.std.proofs.Common.{◌≡◌, ℕ, ◌+◌, ◌<◌, ℤ, Bool, List, ◌∷◌, ◌++◌, Option, Some, None, refl, sym, ap, ◌∙◌, subst, arith, length}
use Rattle.cxx_ast.specs.Plain.{Expression}
use Rattle.cxx_ast.specs.declared.name.Name.{Name}
use Rattle.cxx_ast.specs.declared.types.Ty.TheVariants.{Int}
use Rattle.meaning_forms.specs.Class.{object_type}
use Rattle.meaning_forms.specs.Part.{cell}
use Rattle.meaning_forms.specs.World.{World as SourceWorld, Reference, whole}
use Rattle.meaning_forms.specs.Context.{Context as SourceContext}
use Rattle.meaning_forms.specs.Frame.{Frame as SourceFrame}
use Rattle.meaning_forms.specs.Outcome.{Result as SourceResult, done as source_done, stopped as source_stopped, Action as SourceAction, continued as source_continued, Flow as SourceFlow, new_object, ◌>>=◌}
use Rattle.region_forms.specs.Form.{Region, op, bind, regions_from}
use Rattle.region_forms.specs.World.{written, address_word, with_slot}
use Rattle.region_forms.specs.Evaluation.{slot_location}
use Rattle.region_forms.specs.Effect.{if_some, goes, stored_at}
use Rattle.region_forms.specs.Outcome.{State, normal, continued, pure}
use Rattle.region_forms.specs.Ending.{Running, perform, settled}
use Rattle.region_forms.specs.Meaning.{followed}
use Rattle.linear_simulation.specs.Watched.{watched_all as regions}
use Rattle.region_forms.specs.LowerExpression.{Lowering, first_temporary, variable_type, slot_place, place_of, lower, lower_store}
use Rattle.region_forms.specs.LowerStatement.{variable_slot}
use Rattle.region_simulation.specs.Places.{Places}
use Rattle.region_simulation.specs.Reach.{slot_address, KindsFit, kind_for}
use Rattle.region_simulation.specs.Stands.{context_of}
use Rattle.region_simulation.specs.Alike.{Alike}
use Rattle.region_simulation.specs.Evaluates.{Everywhere, Evaluates}
use Rattle.region_simulation.specs.Flows.{FlowAgrees, DoesAlike}
use Rattle.region_simulation.proofs.Following.{keeps_all, alike_less, alike_on}
use Rattle.region_simulation.proofs.Keeping.{Addressed}
use Rattle.region_simulation.proofs.Leaving.{follows_forgetting, scope_left}
use Rattle.region_simulation.proofs.Placing.{stored_then}
use Rattle.region_simulation.proofs.Standing.{with_object}
use Rattle.region_simulation.proofs.Declaring.{declaring}
use Rattle.region_statements.proofs.Variables.{unset_nowhere, IsReference, Declared, int_declared, int_set, reference_declared}

-- actions in another grouping
pub regrouped : {A B C : Type 0} (r : SourceResult A) (f : A → SourceAction B) (g : B → SourceAction C)
    → source_continued r (λ a. f a >>= g) ≡ source_continued (source_continued r f) g
regrouped (source_done a w) f g = refl
regrouped (source_stopped x w) f g = refl

-- an action that is the same everywhere
pub does_same : (l : Lowering) (own : Option ℕ) (gives : Bool) (b : Running) (v : SourceFrame) (c : SourceContext) (n i d : ℕ) (act more : SourceAction SourceFlow) (rs : List Region)
    → ((w : SourceWorld) → act w ≡ more w) → DoesAlike l own gives b v c n i d act rs → DoesAlike l own gives b v c n i d more rs
does_same l own gives b v c n i d act more rs same does at w s stands scope =
    subst (λ q. Alike l.layout l.program at (variable_slot l n) c w s (FlowAgrees l gives i d) q (regions b (regions_from rs) (context_of w.open_calls c) s)) (same w)
    (does at w s stands scope)

module _ (l : Lowering) (own : Option ℕ) (gives : Bool) (b : Running) (v : SourceFrame) (c : SourceContext) (fit : KindsFit l b.kinds) (n i d : ℕ)
    (there : n < length l.variables) where
  -- what follows a declaration
  declared_then : (r : Reference) (rest : SourceAction SourceFlow) (ys : List Region) → DoesAlike l own gives b (declaring n r v) c (n + 1) i d rest ys
      → (at : Places) (w : SourceWorld) (s : State) (w2 : SourceWorld) (s2 : State) → Declared l own v n at c w s r w2 s2
      → Alike l.layout l.program at (variable_slot l n) c w s (FlowAgrees l gives i d) (rest w2) (regions b (regions_from ys) (context_of w.open_calls c) s2)
  declared_then r rest ys next at w s w2 s2 newly =
      let k = variable_slot l n in
      let g = newly.follows in
      let ctx = context_of w.open_calls c in
      alike_on l.layout l.program (FlowAgrees l gives i d) at k c c w s w2 s2 g (rest w2) (regions b (regions_from ys) ctx s2)
      (alike_less l.layout l.program (FlowAgrees l gives i d) g.places k (variable_slot l (n + 1)) c w2 s2 (rest w2) (regions b (regions_from ys) ctx s2) (omega arith)
      (subst (λ m. Alike l.layout l.program g.places (variable_slot l (n + 1)) c w2 s2 (FlowAgrees l gives i d) (rest w2) (regions b (regions_from ys) (context_of m c) s2)) g.open_calls
      (next g.places w2 s2 g.stands newly.named)))

  module _ (is_int : variable_type l n ≡ Int) where
    -- without an initial value
    pub does_int : (rest : ℕ → SourceAction SourceFlow) (ys : List Region) → ((o : ℕ) → DoesAlike l own gives b (declaring n (whole o) v) c (n + 1) i d (rest o) ys)
        → DoesAlike l own gives b v c n i d (new_object (cell None) >>= rest) ys
    does_int rest ys next at w s stands scope =
        declared_then (whole (length w.objects)) (rest (length w.objects)) ys (next (length w.objects)) at w s (with_object (cell None) w) s
        (int_declared l own v c n there at w s stands scope is_int None s.world.memory (λ q ne. refl) (λ path x e. absurd (unset_nowhere path x e)))

    -- with one
    pub does_int_value : (act : SourceAction ℤ) (e : Expression) (rest : ℕ → SourceAction SourceFlow) (ys : List Region)
        → Evaluates l own b v c (first_temporary l) act (lower l e (first_temporary l))
        → ((o : ℕ) → DoesAlike l own gives b (declaring n (whole o) v) c (n + 1) i d (rest o) ys)
        → DoesAlike l own gives b v c n i d ((act >>= (λ z. new_object (cell (Some z)))) >>= rest) (lower_store l e (slot_place (variable_slot l n)) (first_temporary l) ++ ys)
    does_int_value act e rest ys evaluates next =
        let k = variable_slot l n in
        let agree = FlowAgrees l gives i d in
        let f : ℤ → SourceAction SourceFlow = (λ z. new_object (cell (Some z)) >>= rest) in
        does_same l own gives b v c n i d (act >>= f) ((act >>= (λ z. new_object (cell (Some z)))) >>= rest)
        (lower_store l e (slot_place k) (first_temporary l) ++ ys) (λ w. regrouped (act w) (λ z. new_object (cell (Some z))) rest)
        (λ at w s stands scope.
        stored_then l own b v c fit (first_temporary l) (omega arith) k (omega (arith, there)) (slot_place k) ys agree f e act evaluates at w s stands scope.reach
        (λ z w2 s2 h.
        let g = follows_forgetting l.layout l.program at k c w s c w2 s2 h in
        let s3 = record s2 { world = written (slot_address s2.frame.call k) z s2.world } in
        let w3 = with_object (cell (Some z)) w2 in
        let o = length w2.objects in (
          s3,
          ap (λ q. settled (stored_at (slot_location q s2.frame.call k 0) z s2.frame s2.world) s2) (fit.variables n there ∙ ap kind_for is_int),
          alike_on l.layout l.program agree at k c c w s w2 s2 g (rest o w3) (regions b (regions_from ys) (context_of w.open_calls c) s3)
              (subst (λ m. Alike l.layout l.program g.places k c w2 s2 agree (rest o w3) (regions b (regions_from ys) (context_of m c) s3)) h.open_calls
              (declared_then (whole o) (rest o) ys (next o) g.places w2 s2 w3 s3
              (int_set l own v c n there g.places w2 s2 g.stands (scope_left l own v n at w s c c w2 s2 stands h scope) is_int z))),
        )))

  pub does_reference : (r : SourceWorld → Reference) (names : List Name) (rest : Reference → SourceAction SourceFlow) (ys : List Region) → IsReference (variable_type l n)
      → Everywhere l own v c (λ at w s. Addressed l b.kinds at (first_temporary l) s.frame (r w) (object_type (variable_type l n)) names)
      → ((q : Reference) → DoesAlike l own gives b (declaring n q v) c (n + 1) i d (rest q) ys)
      → DoesAlike l own gives b v c n i d (λ w. rest (r w) w) (op (bind (variable_slot l n) (place_of l names)) ∷ ys)
  does_reference r names rest ys is_reference addressed next at w s stands scope =
      let ctx = context_of w.open_calls c in
      let k = variable_slot l n in
      let x = addressed at w s stands scope.reach in
      let s2 = record s { frame = with_slot k (address_word x.address) s.frame } in
      subst (λ q. Alike l.layout l.program at k c w s (FlowAgrees l gives i d) (rest (r w) w) q)
      (sym (ap (λ q. continued (continued (perform b (if_some q (λ a. goes (with_slot k (address_word a) s.frame) s.world)) ctx s) (λ u. pure normal)) (followed (regions b (regions_from ys) ctx)))
      (x.stays s.frame (keeps_all (first_temporary l) s.frame))))
      (declared_then (r w) (rest (r w)) ys (next (r w)) at w s w s2 (reference_declared l own v c n there at w s stands scope is_reference (r w) x.address x.refers))
