-- The parts of the object that a function works on: where they stand, and operations on them.
use Rattle.std.proofs.Common.{◌≡◌, ℕ, ◌<◌, ℤ, List, [], ◌∷◌, Option, Some, None, refl, sym, ap, ◌∙◌, subst, arith}
use Rattle.std.specs.Prelude.{slice_get}
use Rattle.class_layout.specs.StandApart.{StandApart}
use Rattle.cxx_ast.specs.Plain.{Checked}
use Rattle.meaning_forms.specs.Class.{ObjectType, int_type, class_type, parts_of}
use Rattle.meaning_forms.specs.Context.{Context as SourceContext}
use Rattle.meaning_forms.specs.Expression.{constructor_types}
use Rattle.meaning_forms.specs.Frame.{Frame as SourceFrame}
use Rattle.meaning_forms.specs.Outcome.{Action as SourceAction, Result as SourceResult, done as source_done, stopped as source_stopped, thrown, cancelled, ended, undefined, out_of_turns, deep, continued as source_continued, pure as source_pure, write, ◌>>=◌, ◌>>◌}
use Rattle.meaning_forms.specs.Part.{cell, with_part_at}
use Rattle.meaning_forms.specs.Running.{Argument as SourceArgument, Constructor, constructor}
use Rattle.meaning_forms.specs.World.{World as SourceWorld, Reference, part, object_at, written as source_written}
use Rattle.region_forms.specs.Form.{Kinds, Place, arguments_from, op, store, construct, regions_from}
use Rattle.region_forms.specs.Layout.{Layout, laid_part}
use Rattle.region_forms.specs.World.{Address, address_word, address_in, behind, Frame, written}
use Rattle.region_forms.specs.Evaluation.{in_memory, location_behind, location_address, with_some, locate, words_in}
use Rattle.region_forms.specs.Effect.{if_some, calls, stored_at, finished, only_where, goes}
use Rattle.region_forms.specs.Numbering.{number_of}
use Rattle.region_forms.specs.Outcome.{State, Flow, normal, Result, continued, pure}
use Rattle.region_forms.specs.Ending.{Running, perform, settled}
use Rattle.region_forms.specs.Meaning.{followed}
use Rattle.linear_simulation.specs.Watched.{watched_all as regions}
use Rattle.region_forms.specs.LowerExpression.{Lowering, first_temporary, Lowered, LoweredArguments, constructed}
use Rattle.region_forms.specs.LowerProgram.{part_place}
use Rattle.region_forms.specs.LowerStatement.{with_value}
use Rattle.region_simulation.specs.Places.{Places, Refers}
use Rattle.region_simulation.specs.Reach.{Reaches}
use Rattle.region_simulation.specs.Stands.{Stands, context_of}
use Rattle.region_simulation.specs.Alike.{Keeps, Follows, Alike}
use Rattle.region_simulation.specs.Calls.{IsCallable, SameCalls}
use Rattle.region_simulation.specs.Evaluates.{IsComputed, Everywhere, Evaluates}
use Rattle.region_simulation.specs.Expressions.{source_running}
use Rattle.region_simulation.specs.Passes.{IsGiven, Passes}
use Rattle.region_simulation.proofs.Following.{Agreement, refers_kept, keeps_all, follows_now, alike_then, reaches_kept}
use Rattle.region_simulation.proofs.Joining.{joined}
use Rattle.region_simulation.proofs.Members.{refers_on}
use Rattle.region_simulation.proofs.Storing.{valued_as}
use Rattle.region_simulation.proofs.Writing.{set_length, stands_written}
use Rattle.region_statements.specs.Sequences.{GoesOn}
use Rattle.region_statements.specs.Statements.{SourceCalls}
use Rattle.region_simulation.proofs.There.{refers_there}

-- something of type t stands where a place leads, as long as the frame's slots below the k-th are kept
pub record Leads (l : Layout) (p : Checked) (at : Places) (k : ℕ) (kinds : Kinds) (f : Frame) (place : Place) (r : Reference) (t : ObjectType) : Type 0 where
  pub address : Address
  pub refers : Refers l p at r t address
  pub located : (g : Frame) → Keeps k f g → locate kinds g place ≡ Some (in_memory address)

-- a part of what a reference names
pub refers_part : {l : Layout} {p : Checked} {at : Places} (r : Reference) (k i : ℕ) (t : ObjectType) (a : Address) → Refers l p at r (class_type k) a
    → slice_get (parts_of p k) i ≡ Some t → Refers l p at (part i r) t (behind a (laid_part l p k i))
refers_part {l} {p} {at} r k i t a h is =
    refers_on t (i ∷ []) (laid_part l p k i) h (ap (λ x. elim x [ None ↦ None | Some u ↦ Some u ]) is)
    (let none = ap {B = ℕ} (λ x. elim x [ None ↦ 0 | Some u ↦ 0 ]) is in omega (arith, none))

module _ (l : Lowering) (k : ℕ) (kinds : Kinds) (v : SourceFrame) (at : Places) (f : Frame) (reach : Reaches l (Some k) at v f) where
  -- a part of the own object, through the first slot
  pub part_leads : (m i : ℕ) (t : ObjectType) → 0 < m → slice_get (parts_of l.program k) i ≡ Some t
      → Leads l.layout l.program at m kinds f (part_place l.layout l.program k 0 i) (part i v.this) t
  part_leads m i t lt is =
      let own = reach.this in
      record {
        address = behind own.address (laid_part l.layout l.program k i);
        refers = refers_part v.this k i t own.address own.refers is;
        located = λ g keeps. ap (λ x. location_behind (laid_part l.layout l.program k i) (address_in x)) (keeps.slots 0 lt ∙ own.reached);
      }

module _ (l : Lowering) (own : Option ℕ) (b : Running) (v : SourceFrame) (c : SourceContext) where
  -- in any world and state, a place leads to what a reference names
  abbrev pub AlwaysLeads : Place → Reference → ObjectType → Type 0
  AlwaysLeads place r t = Everywhere l own v c (λ at w s. Leads l.layout l.program at (first_temporary l) b.kinds s.frame place r t)

  -- nothing is done
  pub nothing_goes : GoesOn l own b v c (source_pure (tt {0})) []
  nothing_goes at w s stands reach = (normal, s, refl, (follows_now l.layout l.program at (first_temporary l) c w s stands, refl))

  -- an int of an object is set
  pub store_goes : StandApart l.layout.classes l.program.classes → (place : Place) (r : Reference) → AlwaysLeads place r int_type → (act : SourceAction ℤ) (x : Lowered)
      → Evaluates l own b v c (first_temporary l) act x → GoesOn l own b v c (act >>= (λ z. write r z)) (with_value x (λ y. op (store place y)))
  store_goes apart place r leads act x evaluates at w s stands reach =
      let k = first_temporary l in
      let ctx = context_of w.open_calls c in
      let last = op (store place x.value) in
      let next : Agreement (Unit {0}) Flow = (λ u flow w2 at2 s2. flow ≡ normal) in
      subst (λ q. Alike l.layout l.program at k c w s next ((act >>= (λ z. write r z)) w) q) (sym (joined b ctx x.before (last ∷ []) s))
      (alike_then l.layout l.program (IsComputed b.kinds x.value) next at k c w s (act w) (regions b (regions_from x.before) ctx s) (λ z. write r z)
      (followed (regions b (regions_from (last ∷ [])) ctx)) (evaluates at w s stands reach)
      (λ z flow w2 s2 h same.
      let to = leads h.places w2 s2 h.stands (reaches_kept l own v at k w s c c w2 s2 stands h (omega arith) reach) in
      let s3 = record s2 { world = written to.address z s2.world } in
      let longer = set_length w2.objects r.object (with_part_at (object_at w2 r.object) r.path (cell (Some z))) in
      let g : Follows l.layout l.program h.places k w2 s2 c (source_written w2 r z) s3 = record {
        places = h.places;
        stay = λ o lt. refl;
        objects = omega (arith, longer);
        calls = omega arith;
        open_calls = refl;
        keeps = keeps_all k s2.frame;
        stands = stands_written l.layout l.program apart h.places c w2 s2 r to.address z h.stands to.refers;
      } in (
        normal,
        s3,
        ap (λ q. followed (regions b (regions_from (last ∷ [])) ctx) q s2) same.0 ∙
            ap (λ q. continued (continued (perform b q ctx s2) (λ u. pure normal)) (followed (pure normal)))
            (valued_as b.kinds x.value (Some place) s2.frame s2.world z same.1 ∙
            ap (λ q. if_some q (λ m. stored_at m z s2.frame s2.world)) (to.located s2.frame (keeps_all k s2.frame)) ∙
            ap (λ q. only_where q (goes s2.frame (written to.address z s2.world))) (refers_there l.layout l.program h.places c w2 s2 h.stands r int_type to.address to.refers)),
        (g, refl),
      )))

  -- an object is built where a place leads
  pub construct_here : (call : SourceCalls) → SameCalls l.layout (source_running l call) b → (place : Place) (r : Reference) (j : ℕ)
      → (which : Constructor) → IsCallable l.program (constructor j which) → (act : SourceAction (List SourceArgument)) (y : LoweredArguments)
      → Passes l own b v c (first_temporary l) (constructor_types l.program j which) act y
      → (at : Places) (w : SourceWorld) (s : State) → Stands l.layout l.program at c w s → Reaches l own at v s.frame
      → Leads l.layout l.program at (first_temporary l) b.kinds s.frame place r (class_type j)
      → Alike l.layout l.program at (first_temporary l) c w s (λ u flow w2 at2 s2. flow ≡ normal)
      ((act >>= (λ given. call (constructor j which) r given c >> source_pure (tt {0}))) w)
      (regions b (regions_from (constructed (number_of l.program (constructor j which)) place y)) (context_of w.open_calls c) s)
  construct_here call same place r j which there act y passes at w s stands reach leads =
      let k = first_temporary l in
      let ctx = context_of w.open_calls c in
      let m = number_of l.program (constructor j which) in
      let o = construct place m (arguments_from y.arguments) in
      let next : Agreement (Unit {0}) Flow = (λ u flow w2 at2 s2. flow ≡ normal) in
      let f : List SourceArgument → SourceAction (Unit {0}) = (λ given. call (constructor j which) r given c >> source_pure (tt {0})) in
      subst (λ q. Alike l.layout l.program at k c w s next ((act >>= f) w) q) (sym (joined b ctx y.before (op o ∷ []) s))
      (alike_then l.layout l.program (IsGiven l.layout l.program b.kinds (constructor_types l.program j which) y.arguments) next at k c w s (act w)
      (regions b (regions_from y.before) ctx s) f (followed (regions b (regions_from (op o ∷ [])) ctx)) (passes at w s stands reach)
      (λ given flow w2 s2 h (fl, (words, i, ok)).
      let refers = refers_kept l.layout l.program at k w s c c w2 s2 stands h r (class_type j) leads.address leads.refers in
      let address = ap (λ q. with_some q location_address) (leads.located s2.frame h.keeps) in
      let made : Alike l.layout l.program h.places k c w2 s2 (λ a z w3 at3 s3. a ≡ z) (call (constructor j which) r given c w2) (b.call m (address_word leads.address ∷ words) ctx s2) =
      subst (λ n. Alike l.layout l.program h.places k c w2 s2 (λ a z w3 at3 s3. a ≡ z) (call (constructor j which) r given c w2)
      (b.call m (address_word leads.address ∷ words) (context_of n c) s2)) h.open_calls
      (same h.places (constructor j which) r given (address_word leads.address ∷ words) k c w2 s2 there h.stands (leads.address, refers, refl, ok)) in
      subst (λ q. Alike l.layout l.program h.places k c w2 s2 next (f given w2) (followed (regions b (regions_from (op o ∷ [])) ctx) q s2)) (sym fl)
      (subst (λ q. Alike l.layout l.program h.places k c w2 s2 next (f given w2)
      (continued (continued (perform b (if_some q (λ a. if_some (words_in b.kinds s2.frame s2.world (arguments_from y.arguments)) (λ ws. calls None m (address_word a ∷ ws)))) ctx s2)
      (λ u. pure normal)) (followed (pure normal)))) (sym address)
      (subst (λ q. Alike l.layout l.program h.places k c w2 s2 next (f given w2)
      (continued (continued (perform b (if_some q (λ ws. calls None m (address_word leads.address ∷ ws))) ctx s2) (λ u. pure normal)) (followed (pure normal)))) (sym i)
      (built_alike h.places k w2 s2 (call (constructor j which) r given c w2) (b.call m (address_word leads.address ∷ words) ctx s2) made)))))
    where
      built_alike : (at : Places) (k : ℕ) (w : SourceWorld) (s : State) (x : SourceResult ℤ) (y : Result ℤ) → Alike l.layout l.program at k c w s (λ a z w3 at3 s3. a ≡ z) x y
          → Alike l.layout l.program at k c w s (λ u flow w2 at2 s2. flow ≡ normal) (source_continued x (λ a. source_pure (tt {0})))
          (continued (continued (continued y (λ n t. settled (finished b.kinds None n t.frame t.world) t)) (λ u. pure normal)) (followed (pure normal)))
      built_alike at k w s (source_done a w2) y (n, s2, e, (h, same)) = (
        normal,
        s2,
        ap (λ q. continued (continued (continued q (λ n t. settled (finished b.kinds None n t.frame t.world) t)) (λ u. pure normal)) (followed (pure normal))) e,
        (h, refl),
      )
      built_alike at k w s (source_stopped (thrown e) w2) y (s2, is, h) =
          (s2, ap (λ q. continued (continued (continued q (λ n t. settled (finished b.kinds None n t.frame t.world) t)) (λ u. pure normal)) (followed (pure normal))) is, h)
      built_alike at k w s (source_stopped (cancelled e) w2) y (s2, is, h) =
          (s2, ap (λ q. continued (continued (continued q (λ n t. settled (finished b.kinds None n t.frame t.world) t)) (λ u. pure normal)) (followed (pure normal))) is, h)
      built_alike at k w s (source_stopped undefined w2) y h = tt
      built_alike at k w s (source_stopped (ended e) w2) y (s2, is, h) =
          (s2, ap (λ q. continued (continued (continued q (λ n t. settled (finished b.kinds None n t.frame t.world) t)) (λ u. pure normal)) (followed (pure normal))) is, h)
      built_alike at k w s (source_stopped out_of_turns w2) y (s2, is, h) =
          (s2, ap (λ q. continued (continued (continued q (λ n t. settled (finished b.kinds None n t.frame t.world) t)) (λ u. pure normal)) (followed (pure normal))) is, h)
      built_alike at k w s (source_stopped deep w2) y (s2, is, h) =
          (s2, ap (λ q. continued (continued (continued q (λ n t. settled (finished b.kinds None n t.frame t.world) t)) (λ u. pure normal)) (followed (pure normal))) is, h)

  -- wherever it does
  pub construct_goes : (call : SourceCalls) → SameCalls l.layout (source_running l call) b → (place : Place) (r : Reference) (j : ℕ) → AlwaysLeads place r (class_type j)
      → (which : Constructor) → IsCallable l.program (constructor j which) → (act : SourceAction (List SourceArgument)) (y : LoweredArguments)
      → Passes l own b v c (first_temporary l) (constructor_types l.program j which) act y
      → GoesOn l own b v c (act >>= (λ given. call (constructor j which) r given c >> source_pure (tt {0}))) (constructed (number_of l.program (constructor j which)) place y)
  construct_goes call same place r j leads which there act y passes at w s stands reach =
      construct_here call same place r j which there act y passes at w s stands reach (leads at w s stands reach)
