-- The beginning of a call: its number is new, and what is passed stands at its slots.
use Rattle.std.proofs.Common.{◌≡◌, ℕ, ◌+◌, ◌<◌, ◌≤◌, List, [], ◌∷◌, Option, Some, None, refl, sym, ap, ◌∙◌, subst, arith, length}
use Rattle.std.specs.Prelude.{max}
use Rattle.cxx_ast.specs.Plain.{Checked}
use Rattle.cxx_ast.specs.declared.types.Param.{Param}
use Rattle.meaning_forms.specs.World.{World as SourceWorld, Reference}
use Rattle.meaning_forms.specs.Context.{Context as SourceContext}
use Rattle.meaning_forms.specs.Call.{opened}
use Rattle.meaning_forms.specs.Expression.{types_of}
use Rattle.meaning_forms.specs.Frame.{Frame as SourceFrame, with_arguments}
use Rattle.meaning_forms.specs.Outcome.{Result as SourceResult, done as source_done}
use Rattle.meaning_forms.specs.Running.{Argument}
use Rattle.region_forms.specs.Form.{Kinds, SlotKind, int_slot, address_slot, object_slot, help_slot}
use Rattle.region_forms.specs.Layout.{Layout}
use Rattle.region_forms.specs.World.{Base, of_global, of_variable, of_exception, Word, nothing, number_word, address_word, flying, unwinding, World, with_slot}
use Rattle.region_forms.specs.Effect.{call_begun, int_passed_to, passed_to, frame_passed, world_passed}
use Rattle.region_forms.specs.Outcome.{State}
use Rattle.region_forms.specs.Meaning.{called_state}
use Rattle.region_forms.specs.LowerExpression.{Lowering}
use Rattle.region_forms.specs.LowerStatement.{variable_slot}
use Rattle.region_simulation.specs.Places.{Places, Stood}
use Rattle.region_simulation.specs.Reach.{ThisStands, KindsFit}
use Rattle.region_simulation.specs.Stands.{IsMade, Stands}
use Rattle.region_simulation.specs.Calls.{SameArguments, SameOwn}
use Rattle.region_simulation.specs.Flows.{InScope}
use Rattle.region_statements.specs.Functions.{AreDeclared, all_declared_to}
use Rattle.region_statements.proofs.Variables.{follows_slot}
use Rattle.region_statements.proofs.Parameters.{passed_state, Entered, all_passed}

-- a call has begun, and nothing is passed yet
abbrev pub begun_state : ℕ → State → State
begun_state depth s = record s { frame = record { call = s.world.calls; slots = λ t. nothing }; world = call_begun depth s.world }

-- it makes no difference when the call is counted
passed_begun : (k : SlotKind) (c s depth : ℕ) (x : Word) (w : World) → call_begun depth (int_passed_to k c s x w) ≡ int_passed_to k c s x (call_begun depth w)
passed_begun int_slot c s depth (number_word v) w = refl
passed_begun int_slot c s depth nothing w = refl
passed_begun int_slot c s depth (address_word a) w = refl
passed_begun int_slot c s depth (flying e t) w = refl
passed_begun int_slot c s depth (unwinding v) w = refl
passed_begun address_slot c s depth x w = refl
passed_begun object_slot c s depth x w = refl
passed_begun help_slot c s depth x w = refl

all_begun : (kinds : Kinds) (c s depth : ℕ) (words : List Word) (w : World) → call_begun depth (world_passed kinds c s words w) ≡ world_passed kinds c s words (call_begun depth w)
all_begun kinds c s depth [] w = refl
all_begun kinds c s depth (x ∷ words) w =
    all_begun kinds c (s + 1) depth words (int_passed_to (kinds s) c s x w) ∙ ap (λ y. world_passed kinds c (s + 1) words y) (passed_begun (kinds s) c s depth x w)

pub called_passed : (kinds : Kinds) (depth : ℕ) (words : List Word) (s : State) → called_state kinds words depth s ≡ passed_state kinds 0 words (begun_state depth s)
called_passed kinds depth words s =
    ap (λ y. record s { frame = frame_passed kinds 0 words (record { call = s.world.calls; slots = λ t. nothing }); world = y })
    (all_begun kinds s.world.calls 0 depth words s.world)

module _ (l : Layout) (p : Checked) (at : Places) (c : SourceContext) (w : SourceWorld) (s : State) (stands : Stands l p at c w s) where
  still_made : (b : Base) → IsMade s.world.calls w.last_number w.live b → IsMade (s.world.calls + 1) w.last_number w.live b
  still_made (of_global g) h = tt
  still_made (of_variable k t) h = omega (arith, h)
  still_made (of_exception e) h = h

  -- one call more is open
  pub stands_begun : Stands l p at c (opened w) (begun_state (w.open_calls + 1) s)
  stands_begun = record {
    world = ap {A = World} (λ y. record y { calls = s.world.calls + 1; deepest = max y.deepest (w.open_calls + 1) }) stands.world;
    turns = stands.turns;
    memory = record { made = stands.memory.made; apart = stands.memory.apart; shaped = stands.memory.shaped; holds = stands.memory.holds };
    globals = stands.globals;
    exceptions = stands.exceptions;
    made = λ o x is. still_made x.base (stands.made o x is);
    sound = stands.sound;
    handlers = stands.handlers;
    kept = stands.kept;
  }

  -- nothing stands at a slot of a call to come
  nothing_there : (o t : ℕ) (x : Stood) → at o ≡ Some x → x.base ≡ of_variable s.world.calls t → ⊥
  nothing_there o t x is it =
      let made : s.world.calls < s.world.calls = subst (λ q. IsMade s.world.calls w.last_number w.live q) it (stands.made o x is) in omega (arith, made)

-- What stands where a function's body begins: what stood before still does, and what was passed stands as variables of the call.
pub record Begun (l : Lowering) (own : Option ℕ) (c : SourceContext) (at : Places) (w : SourceWorld) (s : State) (params : List Param)
    (r : SourceResult SourceFrame) (s2 : State) : Type 0 where
  pub frame : SourceFrame
  pub world : SourceWorld
  pub is : r ≡ source_done frame world
  pub places : Places
  pub stay : (o : ℕ) → o < length w.objects → places o ≡ at o
  pub objects : length w.objects ≤ length world.objects
  pub calls : s.world.calls ≤ s2.world.calls
  pub open_calls : world.open_calls ≡ w.open_calls + 1
  pub stands : Stands l.layout l.program places c world s2
  pub scope : InScope l own (length params) places frame s2
  pub references : List Reference
  pub counted : length references ≡ length params
  pub variables : frame.variables ≡ all_declared_to params references []

module _ (l : Lowering) (kinds : Kinds) (fit : KindsFit l kinds) (c : SourceContext) (params : List Param) (declares : AreDeclared l 0 params)
    (at : Places) (w : SourceWorld) (s : State) (stands : Stands l.layout l.program at c w s) (given : List Argument) where
  abbrev begun : State
  begun = begun_state (w.open_calls + 1) s

  first_scope : (own : Option ℕ) (this : Reference) (st : State) → st.frame.call ≡ s.world.calls → st.world.calls ≡ s.world.calls + 1
      → ThisStands own l at (record { this = this; variables = [] }) st.frame → InScope l own 0 at (record { this = this; variables = [] }) st
  first_scope own this st call calls stood = record {
    reach = record { variables = λ n is. absurd (cc is); this = stood };
    before = λ m is. absurd (cc is);
    free = λ o m x is it. absurd (nothing_there l.layout l.program at c w s stands o (variable_slot l m) x is (it ∙ ap (λ q. of_variable q (variable_slot l m)) call));
    there = omega arith;
    running = omega (arith, call, calls);
  }

  begins : (own : Option ℕ) (this : Reference) (st s2 : State) (r : SourceResult SourceFrame) → st.world.calls ≡ s.world.calls + 1
      → Entered l own c at (opened w) st params [] (0 + length params) r s2 → Begun l own c at w s params r s2
  begins own this st s2 r calls h =
      let more = h.follows.calls in
      let none : 0 + length params ≡ length params = omega arith in
      record {
        frame = h.frame;
        world = h.world;
        is = h.is;
        places = h.follows.places;
        stay = h.follows.stay;
        objects = h.follows.objects;
        calls = omega (arith, more, calls);
        open_calls = h.follows.open_calls;
        stands = h.follows.stands;
        scope = subst (λ q. InScope l own q h.follows.places h.frame s2) none h.scope;
        references = h.references;
        counted = h.counted;
        variables = h.variables;
      }

  -- a function of the program
  pub function_begins : (this : Reference) (words : List Word) → l.first_variable ≡ 0 → SameArguments l.layout l.program at (types_of params) given words
      → Begun l None c at w s params (with_arguments params given (record { this = this; variables = [] }) (opened w)) (called_state kinds words (w.open_calls + 1) s)
  function_begins this words first same =
      let r = with_arguments params given (record { this = this; variables = [] }) (opened w) in
      subst (λ q. Begun l None c at w s params r q) (sym (called_passed kinds (w.open_calls + 1) words s))
      (begins None this begun (passed_state kinds 0 words begun) r refl
      (all_passed l None kinds fit c params given words 0 0 (omega (arith, first)) declares at (record { this = this; variables = [] }) (opened w) begun
      (stands_begun l.layout l.program at c w s stands) (first_scope None this begun refl refl tt) same))

  -- a function of class k, which gets the address of its object first
  pub method_begins : (k : ℕ) (this : Reference) (words : List Word) → l.first_variable ≡ 1 → kinds 0 ≡ address_slot
      → SameOwn l.layout l.program at k this (types_of params) given words
      → Begun l (Some k) c at w s params (with_arguments params given (record { this = this; variables = [] }) (opened w)) (called_state kinds words (w.open_calls + 1) s)
  method_begins k this [] first kind same = absurd same
  method_begins k this (x ∷ words) first kind (a, refers, is, same) =
      let r = with_arguments params given (record { this = this; variables = [] }) (opened w) in
      let own_state = record begun { frame = with_slot 0 (address_word a) begun.frame } in
      let standing = follows_slot l.layout l.program at 0 c (opened w) begun 0 (address_word a) (omega arith) (stands_begun l.layout l.program at c w s stands) in
      subst (λ q. Begun l (Some k) c at w s params r q) (sym (called_passed kinds (w.open_calls + 1) (x ∷ words) s))
      (subst (λ q. Begun l (Some k) c at w s params r (record begun {
        frame = frame_passed kinds 1 words (passed_to q 0 x begun.frame);
        world = world_passed kinds s.world.calls 1 words (int_passed_to q s.world.calls 0 x begun.world);
      })) (sym kind)
      (subst (λ q. Begun l (Some k) c at w s params r (passed_state kinds 1 words (record begun { frame = with_slot 0 q begun.frame }))) (sym is)
      (begins (Some k) this own_state (passed_state kinds 1 words own_state) r refl
      (all_passed l (Some k) kinds fit c params given words 0 1 (omega (arith, first)) declares at (record { this = this; variables = [] }) (opened w) own_state
      standing.stands (first_scope (Some k) this own_state refl refl (record { first = first; address = a; refers = refers; reached = refl })) same))))
