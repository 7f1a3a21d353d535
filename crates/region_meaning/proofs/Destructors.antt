-- A call that does nothing but open and close.
use Rattle.std.proofs.Common.{◌≡◌, ℕ, zero, suc, ◌+◌, pos, Bool, true, false, List, [], Option, None, refl, sym, ap, ◌∙◌, subst, arith}
use Rattle.std.specs.Prelude.{max, nat_le, if◌then◌else◌}
use Rattle.cxx_ast.specs.Plain.{Checked}
use Rattle.meaning_forms.specs.Call.{opened, closed, after_call, run_callee, build_parts, default_part, run_constructor, run_destructor, destroy_parts}
use Rattle.meaning_forms.specs.Class.{ObjectType, parts_of}
use Rattle.meaning_forms.specs.Construct.{constructor_for, destructor_place}
use Rattle.meaning_forms.specs.Context.{Context as SourceContext}
use Rattle.meaning_forms.specs.Outcome.{done as source_done, stop as source_stop, deep, pure as source_pure, normal, ◌>>=◌, ◌>>◌}
use Rattle.meaning_forms.specs.Running.{Running as SourceRunning, Callee, Constructor, constructor, implicit_default, destructor}
use Rattle.meaning_forms.specs.Statement.{spend as source_spend}
use Rattle.meaning_forms.specs.World.{World as SourceWorld, Reference}
use Rattle.region_forms.specs.Form.{Kinds, Regions}
use Rattle.region_forms.specs.Layout.{Layout}
use Rattle.region_forms.specs.World.{World}
use Rattle.region_forms.specs.Outcome.{State, continued, change, stop}
use Rattle.region_forms.specs.Ending.{spend, empty_call}
use Rattle.region_simulation.specs.Places.{Places}
use Rattle.region_simulation.specs.Stands.{Stands, world_of, context_of}
use Rattle.region_simulation.specs.Alike.{Follows, Alike}
use Rattle.region_simulation.proofs.Flowing.{alike_seq}
use Rattle.region_statements.specs.Fueled.{fueled, fueled_call}
use Rattle.region_statements.specs.Calls.{regions_running}
use Rattle.region_statements.proofs.Looping.{seen, spends}
use Rattle.region_exceptions.specs.Scopes.{Any}
use Rattle.region_meaning.specs.Destructors.{EmptyConstructorsAreSame, EmptyDestructorsAreSame}

-- the world after it
follows_empty : (l : Layout) (p : Checked) (at : Places) (k : ℕ) (c : SourceContext) (w : SourceWorld) (s : State) (w2 : SourceWorld) (s2 : State) (h : Follows l p at k w s c w2 s2)
    → Follows l p at k w s c (closed (opened w2)) (record s2 { world = record (s2.world) { deepest = max s2.world.deepest (w.open_calls + 1) } })
follows_empty l p at k c w s w2 s2 h =
    let same = h.open_calls in
    record {
      places = h.places;
      stay = h.stay;
      objects = h.objects;
      calls = h.calls;
      open_calls = omega (arith, same);
      keeps = h.keeps;
      stands = record {
        world = ap {A = World} (λ y. record y { deepest = max y.deepest (w.open_calls + 1) }) h.stands.world ∙
            ap {B = World} (λ n. record (world_of p c w2 s2.world.memory s2.world.calls) { deepest = max w2.deepest (n + 1) }) (sym same);
        turns = h.stands.turns;
        memory = record { made = h.stands.memory.made; apart = h.stands.memory.apart; shaped = h.stands.memory.shaped; holds = h.stands.memory.holds };
        globals = h.stands.globals;
        exceptions = h.stands.exceptions;
        made = h.stands.made;
        sound = h.stands.sound;
        handlers = h.stands.handlers;
        kept = h.stands.kept;
      };
    }

module _ (p : Checked) (layout : Layout) (q : Regions) (limit : ℕ) (kinds : Kinds) (callee : Callee)
    (nothing : (fuel : ℕ) (this : Reference) (c : SourceContext) (w : SourceWorld) → run_callee (fueled p limit fuel) callee this [] c w ≡ source_done (pos 0) w) where
  -- a call of what does nothing, with any fuel
  pub empty_call_is_same : (fuel : ℕ) (this : Reference) (at : Places) (k : ℕ) (c : SourceContext) (w : SourceWorld) (s : State) → Stands layout p at c w s
      → Alike layout p at k c w s Any (fueled_call p limit fuel callee this [] c w) (empty_call (regions_running q limit fuel kinds) (context_of w.open_calls c) s)
  empty_call_is_same zero this at k c w s stands = tt
  empty_call_is_same (suc fuel) this at k c w s stands = go (nat_le limit w.open_calls)
    where
      go : (z : Bool) → Alike layout p at k c w s Any
          ((if z then source_stop deep else ((λ v. source_spend v.turns v) >>= (λ u v. after_call (run_callee (fueled p limit fuel) callee this [] c (opened v))))) w)
          (continued ((if z then stop deep else (λ t. spend t.turns t)) s) (λ u. change (λ y. record y { deepest = max y.deepest (w.open_calls + 1) })))
      go true = (s, refl, seen layout p at c w s stands)
      go false =
          alike_seq layout p (λ x y w2 at2 s2. Unit {0}) Any at k c w s (source_spend w.turns w) (spend s.turns s)
          (λ u v. after_call (run_callee (fueled p limit fuel) callee this [] c (opened v)))
          (λ u. change (λ y. record y { deepest = max y.deepest (w.open_calls + 1) })) (spends layout p at k c w s stands)
          (λ x y w2 s2 h same.
          subst (λ r. Alike layout p at k c w s Any (after_call r) (change (λ y. record y { deepest = max y.deepest (w.open_calls + 1) }) s2)) (sym (nothing fuel this c (opened w2)))
          (tt, record s2 { world = record (s2.world) { deepest = max s2.world.deepest (w.open_calls + 1) } }, refl, (follows_empty layout p at k c w s w2 s2 h, tt)))

-- a destructor that is not declared, of a class without parts
no_destruction : (r : SourceRunning) (k : ℕ) (o : Option ℕ) (types : List ObjectType) (this : Reference) (c : SourceContext) (w : SourceWorld) → o ≡ None → types ≡ parts_of r.program k → types ≡ []
    → (run_destructor r k o this c >> source_pure (pos 0)) w ≡ source_done (pos 0) w
no_destruction r k o types this c w place e none =
    ap (λ q. (run_destructor r k q this c >> source_pure (pos 0)) w) place ∙
    ap (λ ts. (destroy_parts r this 0 ts c (source_pure normal) >> source_pure (pos 0)) w) (sym e ∙ none)

pub empty_destructors_are_same : EmptyDestructorsAreSame
empty_destructors_are_same p layout q limit fuel kinds place none =
    empty_call_is_same p layout q limit kinds (destructor 0)
    (λ fuel this c w. no_destruction (fueled p limit fuel) 0 (destructor_place p 0) (parts_of p 0) this c w place refl none) fuel

-- a default constructor that is not declared, of a class without parts
no_construction : (r : SourceRunning) (k : ℕ) (which : Constructor) (types : List ObjectType) (this : Reference) (c : SourceContext) (w : SourceWorld) → which ≡ implicit_default
    → types ≡ parts_of r.program k → types ≡ [] → (run_constructor r k which this [] c >> source_pure (pos 0)) w ≡ source_done (pos 0) w
no_construction r k which types this c w implicit e none =
    ap (λ x. (run_constructor r k x this [] c >> source_pure (pos 0)) w) implicit ∙
    ap (λ ts. (build_parts r (default_part r this c) this 0 ts c (source_pure normal) >> source_pure (pos 0)) w) (sym e ∙ none)

pub empty_constructors_are_same : EmptyConstructorsAreSame
empty_constructors_are_same p layout q limit fuel kinds implicit none =
    empty_call_is_same p layout q limit kinds (constructor 0 (constructor_for p 0 0))
    (λ fuel this c w. no_construction (fueled p limit fuel) 0 (constructor_for p 0 0) (parts_of p 0) this c w implicit refl none) fuel
