-- The clauses of try blocks do what the handlers of the source do.
use Rattle.std.proofs.Common.{◌≡◌, ℕ, ◌+◌, ◌<◌, ◌≤◌, ℤ, Bool, true, false, List, [], ◌∷◌, ◌++◌, Option, Some, None, refl, sym, ap, ◌∙◌, subst, arith, length}
use Rattle.std.specs.Prelude.{map, if◌then◌else◌}
use Rattle.cxx_ast.specs.declared.name.Name.{Name}
use Rattle.cxx_ast.specs.declared.types.Ty.{Ty}
use Rattle.cxx_ast.specs.declared.types.Ty.TheVariants.{Int, Void, Object, IntRef, ObjectRef}
use Rattle.cxx_ast.specs.Plain.{Statements, no_statements, statement_then, Handlers, no_handlers, handler_then}
use Rattle.meaning_forms.specs.Class.{object_type, contains}
use Rattle.meaning_forms.specs.World.{World as SourceWorld, Reference, type_at as source_type_at}
use Rattle.meaning_forms.specs.Context.{Context as SourceContext, try_block, guarded_by, handling, with_travelling}
use Rattle.meaning_forms.specs.Frame.{Frame as SourceFrame, Variable, with_parameter}
use Rattle.meaning_forms.specs.Guard.{matches as source_matches}
use Rattle.meaning_forms.specs.Outcome.{Action as SourceAction, Flow as SourceFlow}
use Rattle.meaning_forms.specs.Running.{Running as SourceRunning, Argument as SourceArgument, Callee}
use Rattle.meaning_forms.specs.Handler.{clause_of as source_clause_of, clauses_of, handle}
use Rattle.meaning_forms.specs.Statement.{statements as source_statements, caught as source_caught}
use Rattle.region_forms.specs.Form.{Region, op, enter, protect, leave_handler, in_order, Clauses, regions_from}
use Rattle.region_forms.specs.Guard.{matches, types_of}
use Rattle.region_forms.specs.Laws.{CaughtListFollows}
use Rattle.region_forms.specs.World.{address_word, object_address, with_slot, type_at}
use Rattle.region_forms.specs.Outcome.{State, Context}
use Rattle.region_forms.specs.Ending.{Running}
use Rattle.region_forms.specs.Meaning.{outwards, with_object}
use Rattle.linear_simulation.specs.Watched.{watched_caught as caught, watched as region, watched_all as regions}
use Rattle.region_forms.specs.LowerExpression.{Lowering, exception_slot}
use Rattle.region_forms.specs.LowerStatement.{variable_slot, caught_parameter, with_caught, statements, clauses}
use Rattle.region_forms.specs.Numbering.{type_rows, all_declared_in}
use Rattle.region_simulation.specs.Places.{Places}
use Rattle.region_simulation.specs.Stands.{clause_of, context_of, Stands}
use Rattle.region_simulation.specs.Alike.{Alike}
use Rattle.region_simulation.specs.Reach.{KindsFit}
use Rattle.region_simulation.specs.Flows.{FlowAgrees, InScope, DoesAlike}
use Rattle.region_simulation.specs.Statements.{DeclaresNext, CanCatch, AreTypedStatements, AreTypedHandlers, declared_to}
use Rattle.region_simulation.specs.Expressions.{source_running}
use Rattle.region_simulation.proofs.Following.{follows_now, alike_less}
use Rattle.region_simulation.proofs.Flowing.{alike_after, outwards_agrees}
use Rattle.region_simulation.proofs.Storing.{same_number}
use Rattle.region_exceptions.specs.Fares.{CallsFare}
use Rattle.region_exceptions.specs.Same.{RunAlike}
use Rattle.region_exceptions.specs.Handlers.{CanBeEntered, EmptyDestructor}
use Rattle.region_exceptions.specs.Tries.{CatchesAlike}
use Rattle.region_exceptions.specs.Catches.{BlockDoes, BlocksDo, HandlersCatchAlike, TryBlocksDoAlike}
use Rattle.region_exceptions.proofs.Doomed.{doomed_alike}
use Rattle.region_exceptions.proofs.Standing.{stands_framed}
use Rattle.region_exceptions.proofs.Raises.{type_same}
use Rattle.region_exceptions.proofs.Catching.{caught_as, follows_framed, slot_keeps, scope_framed}
use Rattle.region_exceptions.proofs.Handlers.{all_handled, reference_handled}
use Rattle.region_exceptions.proofs.IntHandlers.{int_handled}
use Rattle.region_exceptions.proofs.ObjectHandlers.{object_handled}
use Rattle.region_exceptions.proofs.Tries.{tries_alike}
use Rattle.region_exceptions.specs.Left.{CanBeLeft}
use Rattle.region_exceptions.proofs.Since.{follows_older, alike_since}

-- typed statements have room for their variables
room : (l : Lowering) (own : Option ℕ) (gives : Bool) (ss : Statements) (xs : List Variable) (n : ℕ) → AreTypedStatements l own gives ss xs n → n ≤ length l.variables
room l own gives no_statements xs n h = h
room l own gives (statement_then s ss) xs n h = h.0

-- what is in scope before variables are declared that are left is in scope behind them
later_scope : (l : Lowering) (own : Option ℕ) (n m : ℕ) (at : Places) (v : SourceFrame) (s : State) → n ≤ m → m ≤ length l.variables → InScope l own n at v s → InScope l own m at v s
later_scope l own n m at v s le fits h = record {
  reach = h.reach;
  before = λ q is. (let lt = h.before q is in omega (arith, lt, le));
  free = λ o q x is base. (let lt = h.free o q x is base in omega (arith, lt, le));
  there = fits;
  running = h.running;
}

-- the types of clauses are those of the handlers
pub clause_types : (l : Lowering) (hs : Handlers) (i n d : ℕ) → types_of (clauses l hs i n d) ≡ map clause_of (clauses_of hs)
clause_types l no_handlers i n d = refl
clause_types l (handler_then None x ss place hs) i n d = ap (λ ts. None ∷ ts) (clause_types l hs i (n + length (all_declared_in ss)) d)
clause_types l (handler_then (Some t) x ss place hs) i n d =
    ap (λ ts. clause_of (source_clause_of (Some t)) ∷ ts) (clause_types l hs i (n + 1 + length (all_declared_in ss)) d)

module _ (laws : CaughtListFollows) (l : Lowering) (own : Option ℕ) (gives : Bool) (call : Callee → Reference → List SourceArgument → SourceContext → SourceAction ℤ) (b : Running)
    (v : SourceFrame) (c : SourceContext) (same : RunAlike l.layout (source_running l call) b) (fit : KindsFit l b.kinds) (fare : CallsFare (source_running l call))
    (empty : EmptyDestructor l.layout (source_running l call) b) (n i d : ℕ) (lt : i < d) where
  abbrev a : SourceRunning
  a = source_running l call

  module _ (e : ℕ) (at : Places) (w0 w : SourceWorld) (s : State) (stands : Stands l.layout l.program at (with_travelling e c) w s) (inside : InScope l own n at v s)
      (fresh : CanBeEntered c e) (can_leave : CanBeLeft (contains c.handled e) e at w0 w) where
    abbrev ctx : Context
    ctx = context_of w.open_calls c

    abbrev X : ℕ
    X = exception_slot l

    abbrev s1 : State
    s1 = with_object X e s

    slot1 : s1.frame.slots X ≡ address_word (object_address e)
    slot1 = ap (λ z. if z then address_word (object_address e) else s.frame.slots X) (same_number X)

    stands1 : Stands l.layout l.program at (with_travelling e c) w s1
    stands1 = stands_framed l.layout l.program at (with_travelling e c) w s s1.frame stands

    inside1 : (m : ℕ) → n ≤ m → m ≤ length l.variables → InScope l own m at v s1
    inside1 m le fits =
        scope_framed l own v m at w s (with_travelling e c) s1.frame stands (slot_keeps (variable_slot l m) X (address_word (object_address e)) s.frame (omega (arith, fits)))
        (later_scope l own n m at v s le fits inside)

    -- a handler is one region
    handler_out : (m : ℕ) → n ≤ m → m ≤ length l.variables → (act : SourceAction SourceFlow) (rs : List Region)
        → Alike l.layout l.program at (variable_slot l m) c w0 s1 (FlowAgrees l gives i (d + 1)) (act w) (regions b (regions_from rs) ctx s1)
        → Alike l.layout l.program at (variable_slot l n) c w0 s (FlowAgrees l gives i d) (act w) (region b (in_order rs) ctx s1)
    handler_out m le fits act rs h =
        let there = inside.there in
        let g = follows_older l.layout l.program at (variable_slot l n) w0 w s (with_travelling e c) w s1 can_leave.objects can_leave.open_calls
        (follows_framed l.layout l.program at (variable_slot l n) (with_travelling e c) w s s1.frame
        (slot_keeps (variable_slot l n) X (address_word (object_address e)) s.frame (omega (arith, there))) stands) in
        alike_since l.layout l.program (FlowAgrees l gives i d) at (variable_slot l n) c (with_travelling e c) w0 s w s1 g (act w) (region b (in_order rs) ctx s1)
        (alike_less l.layout l.program (FlowAgrees l gives i d) at (variable_slot l n) (variable_slot l m) c w0 s1 (act w) (region b (in_order rs) ctx s1) (omega (arith, le))
        (alike_after l.layout l.program (FlowAgrees l gives i (d + 1)) (FlowAgrees l gives i d) at (variable_slot l m) c w0 s1 (act w) (regions b (regions_from rs) ctx s1) outwards
        (outwards_agrees l gives i d lt) h))

    module _ (m : ℕ) (le : n ≤ m) (ss : Statements) (block : BlockDoes l own gives call b ss) where
      abbrev body : SourceFrame → SourceContext → SourceAction SourceFlow
      body g f = source_statements a ss g f

      variables : (x : Option Name) (r : Reference) → (with_parameter x r v).variables ≡ declared_to x r v.variables
      variables None r = refl
      variables (Some q) r = refl

      bound_here : (p : ℕ) → (with_slot p (address_word (object_address e)) s1.frame).slots p ≡ address_word (object_address e)
      bound_here p = ap (λ z. if z then address_word (object_address e) else s1.frame.slots p) (same_number p)

      module _ (x : Option Name) (typed : (r : Reference) → AreTypedStatements l own gives ss (declared_to x r v.variables) (m + 1)) (there : m < length l.variables) where
        does : (f : ℕ) → i < f → (r : Reference) → DoesAlike l own gives b (with_parameter x r v) (handling e c) (m + 1) i f (body (with_parameter x r v) (handling e c)) (statements l ss i (m + 1) f)
        does f more r = block (with_parameter x r v) (handling e c) (m + 1) i f more (subst (λ ys. AreTypedStatements l own gives ss ys (m + 1)) (sym (variables x r)) (typed r))

        fits : m ≤ length l.variables
        fits = omega (arith, there)

        -- a handler of a type, by its parameter
        by_type : (t : Ty) → DeclaresNext l m x t → CanCatch l.program t → source_matches l.program (source_type_at w e) (source_clause_of (Some t)) ≡ true
            → Alike l.layout l.program at (variable_slot l m) c w0 s1 (FlowAgrees l gives i (d + 1)) (handle a e (Some t) x body v c w)
            (regions b (regions_from (caught_parameter l t (variable_slot l m) ++ op (enter X) ∷
            protect (in_order (with_caught l t (variable_slot l m) (λ f. statements l ss i (m + 1) f) (d + 1 + 2))) leave_handler ∷ [])) ctx s1)
        by_type Int declares can matched =
            int_handled laws l own gives m i (d + 1) (omega (arith, lt)) call b same fare empty v c e fresh body (statements l ss i (m + 1) (d + 1 + 2)) at w s1 stands1
            (inside1 m le fits) slot1 fit x declares.numbered there declares.typed (does (d + 1 + 2) (omega (arith, lt))) (caught_as l.program w e (object_type Int) matched) w0 can_leave
        by_type Void declares can matched = absurd can
        by_type (Object q) declares can matched =
            let more : d + 1 + 2 + 2 ≡ d + 1 + 4 = omega arith in
            object_handled laws l own gives m i (d + 1) (omega (arith, lt)) call b same fare empty v c e fresh body (statements l ss i (m + 1) (d + 1 + 2 + 2)) fit x declares.numbered there
            q declares.typed can.0
            (λ r. subst (λ f. DoesAlike l own gives b (with_parameter x r v) (handling e c) (m + 1) i f (body (with_parameter x r v) (handling e c)) (statements l ss i (m + 1) (d + 1 + 2 + 2))) more
            (does (d + 1 + 2 + 2) (omega (arith, lt)) r))
            at w s1 stands1 (inside1 m le fits) slot1 (caught_as l.program w e (object_type (Object q)) matched) can.1 w0 can_leave
        by_type (IntRef k) declares can matched =
            reference_handled laws l own gives m i (d + 1) (omega (arith, lt)) call b same fare empty v c e fresh body (statements l ss i (m + 1) (d + 1 + 2)) at w s1 stands1
            (inside1 m le fits) slot1 w0 can_leave x declares.numbered there (does (d + 1 + 2) (omega (arith, lt))) (IntRef k) tt tt declares.typed (caught_as l.program w e (object_type (IntRef k)) matched)
            (bound_here (variable_slot l m)) (λ q f. refl)
        by_type (ObjectRef k q) declares can matched =
            reference_handled laws l own gives m i (d + 1) (omega (arith, lt)) call b same fare empty v c e fresh body (statements l ss i (m + 1) (d + 1 + 2)) at w s1 stands1
            (inside1 m le fits) slot1 w0 can_leave x declares.numbered there (does (d + 1 + 2) (omega (arith, lt))) (ObjectRef k q) tt tt declares.typed (caught_as l.program w e (object_type (ObjectRef k q)) matched)
            (bound_here (variable_slot l m)) (λ q f. refl)

    -- a clause is tried, and then the others
    tried : (t : Option Ty) (this others : SourceAction SourceFlow) (r : Region) (cs : Clauses)
        → (source_matches l.program (source_type_at w e) (source_clause_of t) ≡ true → Alike l.layout l.program at (variable_slot l n) c w0 s (FlowAgrees l gives i d) (this w) (region b r ctx s1))
        → Alike l.layout l.program at (variable_slot l n) c w0 s (FlowAgrees l gives i d) (others w) (caught b cs ctx e s)
        → Alike l.layout l.program at (variable_slot l n) c w0 s (FlowAgrees l gives i d)
        ((if source_matches l.program (source_type_at w e) (source_clause_of t) then this else others) w)
        ((if matches b.types (type_at s.world e) (clause_of (source_clause_of t)) then (λ u. region b r ctx (with_object X e u)) else caught b cs ctx e) s)
    tried t this others r cs chosen passed_on =
        subst (λ z. Alike l.layout l.program at (variable_slot l n) c w0 s (FlowAgrees l gives i d)
        ((if source_matches l.program (source_type_at w e) (source_clause_of t) then this else others) w)
        ((if z then (λ u. region b r ctx (with_object X e u)) else caught b cs ctx e) s)) (sym test) (go (source_matches l.program (source_type_at w e) (source_clause_of t)) chosen)
      where
        test : matches b.types (type_at s.world e) (clause_of (source_clause_of t)) ≡ source_matches l.program (source_type_at w e) (source_clause_of t)
        test =
            ap (λ rows. matches rows (type_at s.world e) (clause_of (source_clause_of t))) same.types ∙
            ap (λ u. matches (type_rows l.program) u (clause_of (source_clause_of t))) (type_same l.layout l.program at (with_travelling e c) w s stands e) ∙
            (doomed_alike l.program same.ordered (source_type_at w e)).matched (source_clause_of t)

        go : (z : Bool) → (z ≡ true → Alike l.layout l.program at (variable_slot l n) c w0 s (FlowAgrees l gives i d) (this w) (region b r ctx s1))
            → Alike l.layout l.program at (variable_slot l n) c w0 s (FlowAgrees l gives i d) ((if z then this else others) w)
            ((if z then (λ u. region b r ctx (with_object X e u)) else caught b cs ctx e) s)
        go true chosen = chosen refl
        go false chosen = passed_on

    pub all_tried : (hs : Handlers) (m : ℕ) → n ≤ m → BlocksDo l own gives call b hs → AreTypedHandlers l own gives hs v.variables m
        → Alike l.layout l.program at (variable_slot l n) c w0 s (FlowAgrees l gives i d) (source_caught a hs v c e w) (caught b (clauses l hs i m (d + 1)) ctx e s)
    all_tried no_handlers m le blocks typed = (
      s,
      refl,
      follows_older l.layout l.program at (variable_slot l n) w0 w s (with_travelling e c) w s can_leave.objects can_leave.open_calls
          (follows_now l.layout l.program at (variable_slot l n) (with_travelling e c) w s stands),
    )
    all_tried (handler_then None x ss place hs) m le blocks typed =
        let fits = room l own gives ss v.variables m typed.1 in
        let last = op (enter X) ∷ protect (in_order (statements l ss i m (d + 1 + 2))) leave_handler ∷ [] in
        subst (λ q. Alike l.layout l.program at (variable_slot l n) c w0 s (FlowAgrees l gives i d) (source_caught a (handler_then None q ss place hs) v c e w)
        (caught b (clauses l (handler_then None x ss place hs) i m (d + 1)) ctx e s)) (sym typed.0)
        (tried None (handle a e None None (λ g f. source_statements a ss g f) v c) (source_caught a hs v c e) (in_order last) (clauses l hs i (m + length (all_declared_in ss)) (d + 1))
        (λ matched. handler_out m le fits (handle a e None None (λ g f. source_statements a ss g f) v c) last
        (all_handled laws l own gives m i (d + 1) (omega (arith, lt)) call b same fare empty v c e fresh (λ g f. source_statements a ss g f) (statements l ss i m (d + 1 + 2)) at w s1 stands1
        (inside1 m le fits) slot1 w0 can_leave (blocks.0 v (handling e c) m i (d + 1 + 2) (omega (arith, lt)) typed.1)))
        (all_tried hs (m + length (all_declared_in ss)) (omega (arith, le)) blocks.1 typed.2))
    all_tried (handler_then (Some t) x ss place hs) m le blocks typed =
        let there = typed.0.there in
        let act = handle a e (Some t) x (λ g f. source_statements a ss g f) v c in
        let rs = caught_parameter l t (variable_slot l m) ++ op (enter X) ∷
        protect (in_order (with_caught l t (variable_slot l m) (λ f. statements l ss i (m + 1) f) (d + 1 + 2))) leave_handler ∷ [] in
        tried (Some t) act (source_caught a hs v c e) (in_order rs) (clauses l hs i (m + 1 + length (all_declared_in ss)) (d + 1))
        (λ matched. handler_out m le (omega (arith, there)) act rs (by_type m le ss blocks.0 x typed.2 there t typed.0 typed.1 matched))
        (all_tried hs (m + 1 + length (all_declared_in ss)) (omega (arith, le)) blocks.1 typed.3)

pub handlers_catch_alike : CaughtListFollows → HandlersCatchAlike
handlers_catch_alike laws l own gives call b v c same fit fare empty n m i d hs lt le blocks typed e at w0 w s stands inside fresh can =
    all_tried laws l own gives call b v c same fit fare empty n i d lt e at w0 w s stands inside fresh can hs m le blocks typed

pub try_blocks_do_alike : CaughtListFollows → TryBlocksDoAlike
try_blocks_do_alike laws l own gives call b v c same fit fare empty n i d ss hs lt block blocks typed handlers fresh =
    let m = n + length (all_declared_in ss) in
    let more : d + 1 + 1 ≡ d + 2 = omega arith in
    tries_alike l own gives b v c n i d lt (clauses_of hs) (clauses l hs i m (d + 2)) (clause_types l hs i m (d + 2))
    (source_statements (source_running l call) ss v (guarded_by (try_block (clauses_of hs)) c)) (statements l ss i n (d + 2)) (source_caught (source_running l call) hs v c) fresh
    (block v (guarded_by (try_block (clauses_of hs)) c) n i (d + 2) (omega (arith, lt)) typed)
    (subst (λ q. CatchesAlike l own gives b v c n i (d + 1) (source_caught (source_running l call) hs v c) (clauses l hs i m q)) more
    (handlers_catch_alike laws l own gives call b v c same fit fare empty n m i (d + 1) hs (omega (arith, lt)) (omega arith) blocks handlers))
