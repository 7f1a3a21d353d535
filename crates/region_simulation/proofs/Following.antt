-- How actions that come out alike follow one another.
use Rattle.std.proofs.Common.{ℕ, ◌+◌, ◌<◌, ◌≤◌, Option, Some, None, refl, sym, ap, ◌∙◌, subst, arith}
use Rattle.cxx_ast.specs.declared.types.Ty.{Ty}
use Rattle.cxx_ast.specs.declared.types.Ty.TheVariants.{Int, Void, Object, IntRef, ObjectRef}
use Rattle.cxx_ast.specs.Plain.{Checked}
use Rattle.meaning_forms.specs.Class.{ObjectType}
use Rattle.meaning_forms.specs.World.{Reference, World as SourceWorld}
use Rattle.meaning_forms.specs.Context.{Context as SourceContext}
use Rattle.meaning_forms.specs.Frame.{Frame as SourceFrame}
use Rattle.meaning_forms.specs.Outcome.{Result as SourceResult, done as source_done, stopped as source_stopped, thrown, cancelled, ended, undefined, out_of_turns, deep, Action as SourceAction, continued as source_continued}
use Rattle.region_forms.specs.Layout.{Layout}
use Rattle.region_forms.specs.LowerExpression.{Lowering, variable_type, result_slot}
use Rattle.region_forms.specs.World.{Address, Frame}
use Rattle.region_forms.specs.Outcome.{State, Result, Action, continued}
use Rattle.region_simulation.specs.Places.{Places, Refers}
use Rattle.region_simulation.specs.Reach.{slot_address, IsReachedBy, ThisStands, Reaches}
use Rattle.region_simulation.specs.Stands.{Stands}
use Rattle.region_simulation.specs.Alike.{Keeps, Follows, Alike}

abbrev pub Agreement : Type 0 → Type 0 → Type 1
Agreement A B = A → B → SourceWorld → Places → State → Type 0

pub keeps_all : (k : ℕ) (f : Frame) → Keeps k f f
keeps_all k f = record { call = refl; slots = λ s lt. refl }

pub keeps_on : {k : ℕ} {f g h : Frame} → Keeps k f g → Keeps k g h → Keeps k f h
keeps_on a b = record { call = b.call ∙ a.call; slots = λ s lt. b.slots s lt ∙ a.slots s lt }

module _ (l : Layout) (p : Checked) where
  abbrev pub follows_now : (at : Places) (k : ℕ) (c : SourceContext) (w : SourceWorld) (s : State) → Stands l p at c w s → Follows l p at k w s c w s
  follows_now at k c w s stands = record {
    places = at;
    stay = λ o lt. refl;
    objects = omega arith;
    calls = omega arith;
    open_calls = refl;
    keeps = keeps_all k s.frame;
    stands = stands;
  }

  abbrev pub follows_on : (at : Places) (k : ℕ) (w : SourceWorld) (s : State) (c : SourceContext) (w2 : SourceWorld) (s2 : State) (d : SourceContext) (w3 : SourceWorld) (s3 : State)
      (h : Follows l p at k w s c w2 s2) → Follows l p h.places k w2 s2 d w3 s3 → Follows l p at k w s d w3 s3
  follows_on at k w s c w2 s2 d w3 s3 h g =
      let a = h.objects in let b = g.objects in let m = h.calls in let n = g.calls in
      record {
        places = g.places;
        stay = λ o lt. g.stay o (omega (arith, lt, a)) ∙ h.stay o lt;
        objects = omega (arith, a, b);
        calls = omega (arith, m, n);
        open_calls = g.open_calls ∙ h.open_calls;
        keeps = keeps_on h.keeps g.keeps;
        stands = g.stands;
      }

  abbrev pub follows_less : (at : Places) (j k : ℕ) (w : SourceWorld) (s : State) (c : SourceContext) (w2 : SourceWorld) (s2 : State) → j ≤ k
      → Follows l p at k w s c w2 s2 → Follows l p at j w s c w2 s2
  follows_less at j k w s c w2 s2 le h = record {
    places = h.places;
    stay = h.stay;
    objects = h.objects;
    calls = h.calls;
    open_calls = h.open_calls;
    keeps = record { call = h.keeps.call; slots = λ s lt. h.keeps.slots s (omega (arith, lt, le)) };
    stands = h.stands;
  }

  -- fewer slots are kept
  pub alike_less : {A B : Type 0} (agree : Agreement A B) (at : Places) (j k : ℕ) (c : SourceContext) (w : SourceWorld) (s : State) (x : SourceResult A) (y : Result B)
      → j ≤ k → Alike l p at k c w s agree x y → Alike l p at j c w s agree x y
  alike_less agree at j k c w s (source_done a w2) y le (b, s2, e, (h, same)) = (b, s2, e, (follows_less at j k w s _ w2 s2 le h, same))
  alike_less agree at j k c w s (source_stopped (thrown x) w2) y le (s2, e, h) = (s2, e, follows_less at j k w s _ w2 s2 le h)
  alike_less agree at j k c w s (source_stopped (cancelled n) w2) y le (s2, e, h) = (s2, e, follows_less at j k w s _ w2 s2 le h)
  alike_less agree at j k c w s (source_stopped undefined w2) y le h = tt
  alike_less agree at j k c w s (source_stopped (ended x) w2) y le h = h
  alike_less agree at j k c w s (source_stopped out_of_turns w2) y le h = h
  alike_less agree at j k c w s (source_stopped deep w2) y le h = h

  -- what comes out alike of a later world and state comes out alike of an earlier one
  pub alike_on : {A B : Type 0} (agree : Agreement A B) (at : Places) (k : ℕ) (c d : SourceContext) (w : SourceWorld) (s : State) (w2 : SourceWorld) (s2 : State)
      (h : Follows l p at k w s d w2 s2) (x : SourceResult A) (y : Result B)
      → Alike l p h.places k c w2 s2 agree x y → Alike l p at k c w s agree x y
  alike_on agree at k c d w s w2 s2 h (source_done a w3) y (b, s3, e, (g, same)) = (b, s3, e, (follows_on at k w s d w2 s2 _ w3 s3 h g, same))
  alike_on agree at k c d w s w2 s2 h (source_stopped (thrown x) w3) y (s3, e, g) = (s3, e, follows_on at k w s d w2 s2 _ w3 s3 h g)
  alike_on agree at k c d w s w2 s2 h (source_stopped (cancelled n) w3) y (s3, e, g) = (s3, e, follows_on at k w s d w2 s2 _ w3 s3 h g)
  alike_on agree at k c d w s w2 s2 h (source_stopped undefined w3) y g = tt
  alike_on agree at k c d w s w2 s2 h (source_stopped (ended x) w3) y g = g
  alike_on agree at k c d w s w2 s2 h (source_stopped out_of_turns w3) y g = g
  alike_on agree at k c d w s w2 s2 h (source_stopped deep w3) y g = g

  -- one after the other
  pub alike_then : {A B C D : Type 0} (agree : Agreement A B) (next : Agreement C D) (at : Places) (k : ℕ) (c : SourceContext) (w : SourceWorld) (s : State)
      (x : SourceResult A) (y : Result B) (f : A → SourceAction C) (g : B → Action D)
      → Alike l p at k c w s agree x y
      → ((a : A) (b : B) (w2 : SourceWorld) (s2 : State) (h : Follows l p at k w s c w2 s2) → agree a b w2 h.places s2 → Alike l p h.places k c w2 s2 next (f a w2) (g b s2))
      → Alike l p at k c w s next (source_continued x f) (continued y g)
  alike_then agree next at k c w s (source_done a w2) y f g (b, s2, e, (h, same)) then =
      subst (λ z. Alike l p at k c w s next (f a w2) (continued z g)) (sym e)
      (alike_on next at k c c w s w2 s2 h (f a w2) (g b s2) (then a b w2 s2 h same))
  alike_then agree next at k c w s (source_stopped (thrown x) w2) y f g (s2, e, h) then = (s2, ap (λ z. continued z g) e, h)
  alike_then agree next at k c w s (source_stopped (cancelled n) w2) y f g (s2, e, h) then = (s2, ap (λ z. continued z g) e, h)
  alike_then agree next at k c w s (source_stopped undefined w2) y f g h then = tt
  alike_then agree next at k c w s (source_stopped (ended x) w2) y f g (s2, e, h) then = (s2, ap (λ z. continued z g) e, h)
  alike_then agree next at k c w s (source_stopped out_of_turns w2) y f g (s2, e, h) then = (s2, ap (λ z. continued z g) e, h)
  alike_then agree next at k c w s (source_stopped deep w2) y f g (s2, e, h) then = (s2, ap (λ z. continued z g) e, h)

  -- what was named is still named
  pub refers_kept : (at : Places) (k : ℕ) (w : SourceWorld) (s : State) (c d : SourceContext) (w2 : SourceWorld) (s2 : State) → Stands l p at c w s
      → (h : Follows l p at k w s d w2 s2) (r : Reference) (t : ObjectType) (a : Address) → Refers l p at r t a → Refers l p h.places r t a
  refers_kept at k w s c d w2 s2 stands h r t a x = record {
    stood = x.stood;
    stands = h.stay r.object (stands.memory.made r.object x.stood x.stands) ∙ x.stands;
    typed = x.typed;
    address = x.address;
  }

pub reached_kept : (t : Ty) (k s : ℕ) (f g : Frame) (a : Address) → s < k → Keeps k f g → IsReachedBy t s f a → IsReachedBy t s g a
reached_kept Void k s f g a lt h x = x
reached_kept (IntRef c) k s f g a lt h x = h.slots s lt ∙ x
reached_kept (ObjectRef c n) k s f g a lt h x = h.slots s lt ∙ x
reached_kept Int k s f g a lt h x = x ∙ ap (λ n. slot_address n s) (sym h.call)
reached_kept (Object n) k s f g a lt h x = x ∙ ap (λ n. slot_address n s) (sym h.call)

-- what was in reach still is
pub reaches_kept : (l : Lowering) (own : Option ℕ) (v : SourceFrame) (at : Places) (k : ℕ) (w : SourceWorld) (s : State) (c d : SourceContext) (w2 : SourceWorld) (s2 : State)
    → Stands l.layout l.program at c w s → (h : Follows l.layout l.program at k w s d w2 s2) → result_slot l ≤ k
    → Reaches l own at v s.frame → Reaches l own h.places v s2.frame
reaches_kept l own v at k w s c d w2 s2 stands h le reach = record {
  variables = λ n is. (let x = reach.variables n is in let there = x.there in record {
    there = there;
    address = x.address;
    refers = refers_kept l.layout l.program at k w s c d w2 s2 stands h _ _ x.address x.refers;
    reached = reached_kept (variable_type l n) k (l.first_variable + n) s.frame s2.frame x.address (omega (arith, le, there)) h.keeps x.reached;
  });
  this = go own reach.this;
}
  where
    go : (own : Option ℕ) → ThisStands own l at v s.frame → ThisStands own l h.places v s2.frame
    go None x = tt
    go (Some k) x = let first = x.first in record {
      first = first;
      address = x.address;
      refers = refers_kept l.layout l.program at _ w s c d w2 s2 stands h _ _ x.address x.refers;
      reached = h.keeps.slots 0 (omega (arith, le, first)) ∙ x.reached;
    }
