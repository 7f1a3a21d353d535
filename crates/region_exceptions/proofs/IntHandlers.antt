-- Handlers that catch an int by value.
use Rattle.std.proofs.Common.{◌≡◌, ℕ, ◌+◌, ◌<◌, ℤ, Bool, true, false, List, [], ◌∷◌, Option, Some, None, refl, sym, ap, ◌∙◌, arith, length}
use Rattle.std.specs.Prelude.{◌==◌, if◌then◌else◌}
use Rattle.cxx_ast.specs.declared.name.Name.{Name}
use Rattle.cxx_ast.specs.declared.types.Ty.TheVariants.{Int}
use Rattle.meaning_forms.specs.Class.{int_type, contains}
use Rattle.meaning_forms.specs.Part.{Part, cell, object, part_at}
use Rattle.meaning_forms.specs.World.{World as SourceWorld, Reference, whole, object_at}
use Rattle.meaning_forms.specs.Context.{Context as SourceContext, handling, with_travelling}
use Rattle.meaning_forms.specs.Frame.{Frame as SourceFrame, with_parameter}
use Rattle.meaning_forms.specs.Outcome.{Result as SourceResult, Action as SourceAction, Flow as SourceFlow, continued as source_continued, pure as source_pure, new_object, read_part, ◌>>=◌}
use Rattle.meaning_forms.specs.Running.{Running as SourceRunning, Argument as SourceArgument, Callee}
use Rattle.meaning_forms.specs.Handler.{exception_object, handle}
use Rattle.region_forms.specs.Form.{load, Region, op, store, regions_from}
use Rattle.region_forms.specs.Laws.{CaughtListFollows}
use Rattle.region_forms.specs.World.{Base, of_variable, Address, address_word, object_address, address_in, same_base, same_address, written}
use Rattle.region_forms.specs.Evaluation.{location_behind, read_location, slot_location, with_some, value_in}
use Rattle.region_forms.specs.Effect.{stored_at}
use Rattle.region_forms.specs.Outcome.{State, Context, normal, done, continued, pure}
use Rattle.region_forms.specs.Ending.{Running, perform}
use Rattle.region_forms.specs.Meaning.{followed}
use Rattle.linear_simulation.specs.Watched.{watched_all as regions}
use Rattle.region_forms.specs.LowerExpression.{Lowering, exception_slot, variable_type, slot_place}
use Rattle.region_forms.specs.LowerStatement.{variable_slot, thrown_place}
use Rattle.region_simulation.specs.Places.{Places, Stood, Refers, address_along}
use Rattle.region_simulation.specs.Stands.{Stands, context_of}
use Rattle.region_simulation.specs.Alike.{Follows, Alike}
use Rattle.region_simulation.specs.Reach.{KindsFit, slot_address, kind_for}
use Rattle.region_simulation.specs.Flows.{FlowAgrees, InScope, DoesAlike}
use Rattle.region_simulation.specs.Statements.{HasNumber}
use Rattle.region_simulation.specs.Expressions.{source_running}
use Rattle.region_simulation.proofs.Parts.{nothing_there}
use Rattle.region_simulation.proofs.Storing.{valued_as}
use Rattle.region_simulation.proofs.Writing.{both_true, base_is, address_itself}
use Rattle.region_simulation.proofs.Standing.{with_place, with_object, placed_new, follows_new}
use Rattle.region_simulation.proofs.Declaring.{free_placed, variable_empty}
use Rattle.region_exceptions.specs.Fares.{CallsFare}
use Rattle.region_exceptions.specs.Same.{RunAlike}
use Rattle.region_exceptions.specs.Barred.{StaysInside}
use Rattle.region_exceptions.specs.Handlers.{CanBeEntered, EmptyDestructor}
use Rattle.region_exceptions.proofs.Parameters.{Passed, parameter_then, body_alike}
use Rattle.region_exceptions.proofs.Catching.{CaughtAs, caught_int, variable_newly, scope_parameter}
use Rattle.region_exceptions.proofs.Handlers.{last}
use Rattle.region_exceptions.specs.Left.{CanBeLeft}
use Rattle.region_simulation.proofs.There.{refers_there}

int_of : (m n : ℤ) → cell (Some m) ≡ cell (Some n) → Some m ≡ Some n
int_of m n e = cc e

no_int : (path : List ℕ) (n : ℤ) → part_at (cell None) path ≡ cell (Some n) → ⊥
no_int path n e = let f : cell None ≡ cell (Some n) = sym (nothing_there path) ∙ e in cc f

-- a write where an object begins changes no other
elsewhere : (base : Base) (n : ℤ) (q : Address) (old : Option ℤ) → (q.base ≡ base → ⊥) → (if same_address (record { base = base; offset = 0 }) q then Some n else old) ≡ old
elsewhere base n q old other = go (same_address (record { base = base; offset = 0 }) q) refl
  where
    go : (z : Bool) → same_address (record { base = base; offset = 0 }) q ≡ z → (if z then Some n else old) ≡ old
    go true is = absurd (other (sym (base_is base q.base (both_true (0 == q.offset) (same_base base q.base) is).1)))
    go false is = refl

module _ (laws : CaughtListFollows) (l : Lowering) (own : Option ℕ) (gives : Bool) (n i d : ℕ) (lt : i < d) (call : Callee → Reference → List SourceArgument → SourceContext → SourceAction ℤ) (b : Running)
    (same : RunAlike l.layout (source_running l call) b) (fare : CallsFare (source_running l call)) (empty : EmptyDestructor l.layout (source_running l call) b)
    (v : SourceFrame) (c : SourceContext) (e : ℕ) (fresh : CanBeEntered c e)
    (body : SourceFrame → SourceContext → SourceAction SourceFlow) (rs : List Region) (at : Places) (w : SourceWorld) (s : State)
    (stands : Stands l.layout l.program at (with_travelling e c) w s) (inside : InScope l own n at v s) (slot : s.frame.slots (exception_slot l) ≡ address_word (object_address e))
    (fit : KindsFit l b.kinds) (x : Option Name) (numbered : HasNumber x n) (there : n < length l.variables) (typed : variable_type l n ≡ Int)
    (does : (r : Reference) → DoesAlike l own gives b (with_parameter x r v) (handling e c) (n + 1) i (d + 2) (body (with_parameter x r v) (handling e c)) rs)
    (y : CaughtAs l.program w e int_type) where
  abbrev a : SourceRunning
  a = source_running l call

  abbrev k : ℕ
  k = variable_slot l n

  abbrev ctx : Context
  ctx = context_of w.open_calls c

  abbrev P : List Region
  P = op (store (slot_place k) (load (thrown_place l))) ∷ []

  abbrev base : Base
  base = of_variable s.frame.call k

  refers : Refers l.layout l.program at (whole y.object) int_type (object_address e)
  refers = caught_int l.layout l.program at (with_travelling e c) w s stands e y

  -- the int is read in the exception's object
  loaded : (z : ℤ) → s.world.memory (object_address e) ≡ Some z → value_in b.kinds s.frame s.world (load (thrown_place l)) ≡ Some z
  loaded z is = ap (λ q. with_some (location_behind 0 (address_in q)) (read_location s.frame s.world)) slot ∙
      ap (λ b. if b then s.world.memory (object_address e) else None)
      (refers_there l.layout l.program at (with_travelling e c) w s stands (whole y.object) int_type (object_address e) refers) ∙ is

  stored : (z : ℤ) → s.world.memory (object_address e) ≡ Some z → regions b (regions_from P) ctx s ≡ done normal (record s { world = written (slot_address s.frame.call k) z s.world })
  stored z is =
      ap (λ q. continued (continued (perform b q ctx s) (λ u. pure normal)) (followed (pure normal)))
      (valued_as b.kinds (load (thrown_place l)) (Some (slot_place k)) s.frame s.world z (loaded z is)) ∙
      ap (λ q. continued (continued (perform b (stored_at (slot_location q s.frame.call k 0) z s.frame s.world) ctx s) (λ u. pure normal)) (followed (pure normal)))
      (fit.variables n there ∙ ap kind_for typed)

  holds : (z : ℤ) (path : List ℕ) (m : ℤ) → part_at (cell (Some z)) path ≡ cell (Some m)
      → (if same_address (slot_address s.frame.call k) (address_along l.layout l.program (record { base = base; type = int_type }) path) then Some z
      else s.world.memory (address_along l.layout l.program (record { base = base; type = int_type }) path)) ≡ Some m
  holds z [] m is = ap (λ q. if q then Some z else s.world.memory (slot_address s.frame.call k)) (address_itself (slot_address s.frame.call k)) ∙ int_of z m is
  holds z (j ∷ path) m is = absurd (no_int path m is)

  abbrev read_then : Part → SourceResult Reference
  read_then q = source_continued (read_part q w) (λ z. new_object (cell (Some z)) >>= (λ o. source_pure (whole o)))

  parameter_read : (q : Part) → object_at w y.object ≡ q
      → StaysInside (read_then q) × Alike l.layout l.program at k (with_travelling e c) w s
      (Passed laws l own gives n i d lt call b same fare empty v c e fresh (Some Int) x body rs) (read_then q) (regions b (regions_from P) ctx s)
  parameter_read (object m parts) is = (tt, tt)
  parameter_read (cell None) is = (tt, tt)
  parameter_read (cell (Some z)) is =
      let held = stands.memory.holds y.object refers.stood [] z refers.stands is in
      let memory : s.world.memory (object_address e) ≡ Some z = ap s.world.memory refers.address ∙ held in
      let stood : Stood = record { base = base; type = int_type } in
      let o = length w.objects in
      let w1 = with_object (cell (Some z)) w in
      let s1 = record s { world = written (slot_address s.frame.call k) z s.world } in
      let h : Follows l.layout l.program at k w s (with_travelling e c) w1 s1 =
      follows_new l.layout l.program at (with_travelling e c) w s stands base int_type (cell (Some z)) s1.world.memory (λ q u f g. variable_empty l own v n at s inside q u f g) inside.running tt
      (λ q other. elsewhere base z q (s.world.memory q) other) (λ path m f. holds z path m f) k in
      let newly = variable_newly l (with_place at o stood) v s1.frame n Int (whole o) (slot_address s.frame.call k) there typed
      (record { stood = stood; stands = placed_new at o stood; typed = refl; address = refl }) refl in
      let inside1 = scope_parameter l own v n at w s (with_travelling e c) (with_travelling e c) w1 s1 stands h inside x numbered (whole o) there newly
      (λ q m u f g. free_placed l own v n at s inside o q m stood u refl f g) in (
        tt,
        (
          normal,
          s1,
          stored z memory,
          (
            h,
            (
              refl,
              slot,
              body_alike laws l own gives n i d lt call b same fare empty v c e fresh (Some Int) x body (with_place at o stood) w1 s1 (whole o) (n + 1) rs tt (omega arith) h.stands inside1 (does (whole o)),
            ),
          ),
        ),
      )

  pub int_handled : (w0 : SourceWorld) → CanBeLeft (contains c.handled e) e at w0 w
      → Alike l.layout l.program at k c w0 s (FlowAgrees l gives i d) (handle a e (Some Int) x body v c w)
      (regions b (regions_from (op (store (slot_place k) (load (thrown_place l))) ∷
      last laws l own gives n i d lt call b same fare empty v c e fresh body rs at w s stands inside slot)) ctx s)
  int_handled w0 can =
      let h = parameter_read (object_at w y.object) refl in
      parameter_then laws l own gives n i d lt call b same fare empty v c e fresh (Some Int) x body at w0 w s can P rs (whole y.object) (sym (ap exception_object y.is)) h.0 h.1
