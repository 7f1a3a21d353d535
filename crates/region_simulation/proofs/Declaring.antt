-- A variable that is declared comes in reach.
use Rattle.std.proofs.Common.{◌≡◌, ℕ, ◌+◌, ◌<◌, ◌⊎◌, inl, inr, Bool, true, false, ◌∷◌, Option, Some, None, refl, sym, ap, ◌∙◌, subst, arith}
use Rattle.std.specs.Prelude.{◌==◌, ◌||◌, if◌then◌else◌}
use Rattle.std.proofs.lemmas.Bool.Decides.{nat_tests}
use Rattle.meaning_forms.specs.Class.{object_type}
use Rattle.meaning_forms.specs.World.{World as SourceWorld, Reference}
use Rattle.meaning_forms.specs.Context.{Context as SourceContext}
use Rattle.meaning_forms.specs.Frame.{Frame as SourceFrame, variable_in}
use Rattle.region_forms.specs.World.{of_variable}
use Rattle.region_forms.specs.Outcome.{State}
use Rattle.region_forms.specs.LowerExpression.{Lowering, variable_type}
use Rattle.region_forms.specs.LowerStatement.{variable_slot}
use Rattle.region_simulation.specs.Places.{Places, Stood, Refers}
use Rattle.region_simulation.specs.Reach.{is_in_reach, VariableStands, ThisStands, Reaches}
use Rattle.region_simulation.specs.Stands.{Stands}
use Rattle.region_simulation.specs.Alike.{Follows}
use Rattle.region_simulation.specs.Flows.{InScope}
use Rattle.region_simulation.proofs.Leaving.{reaches_on}
use Rattle.region_simulation.proofs.Standing.{with_place, placed}

-- the variable with a number comes in reach
abbrev pub declaring : ℕ → Reference → SourceFrame → SourceFrame
declaring n r f = record f { variables = record { number = n; reference = r } ∷ f.variables }

number_is : (m n : ℕ) → (m == n) ≡ true → m ≡ n
number_is m n e = grind (arith, nat_tests, e)

number_itself : (n : ℕ) → (n == n) ≡ true
number_itself n = grind (arith, nat_tests)

module _ (l : Lowering) (own : Option ℕ) (v : SourceFrame) (n : ℕ) (at : Places) (w : SourceWorld) (s : State) (c d : SourceContext) (w2 : SourceWorld) (s2 : State)
    (stands : Stands l.layout l.program at c w s) (h : Follows l.layout l.program at (variable_slot l n) w s d w2 s2) (scope : InScope l own n at v s) where
  -- its reference stands where its slot says, and no object at the slots of variables behind it
  pub scope_declared : (r : Reference) → VariableStands l h.places (declaring n r v) s2.frame n
      → ((o m : ℕ) (x : Stood) → h.places o ≡ Some x → x.base ≡ of_variable s2.frame.call (variable_slot l m) → m < n + 1)
      → InScope l own (n + 1) h.places (declaring n r v) s2
  scope_declared r newly free =
      let there = newly.there in let running = scope.running in let more = h.calls in let same = h.keeps.call in
      record {
        reach = record { variables = λ m is. reached m (n == m) refl is; this = this own reach.this };
        before = λ m is. number m (n == m) refl is;
        free = free;
        there = omega (arith, there);
        running = omega (arith, running, more, same);
      }
    where
      reach : Reaches l own h.places v s2.frame
      reach = reaches_on l own v n at w s c d w2 s2 stands h scope

      this : (own : Option ℕ) → ThisStands own l h.places v s2.frame → ThisStands own l h.places (declaring n r v) s2.frame
      this None x = tt
      this (Some k) x = record { first = x.first; address = x.address; refers = x.refers; reached = x.reached }

      reached : (m : ℕ) (z : Bool) → (n == m) ≡ z → (z || is_in_reach v.variables m) ≡ true → VariableStands l h.places (declaring n r v) s2.frame m
      reached m true e is = subst (λ q. VariableStands l h.places (declaring n r v) s2.frame q) (number_is n m e) newly
      reached m false e is =
          let x = reach.variables m is in record {
            there = x.there;
            address = x.address;
            refers = subst (λ q. Refers l.layout l.program h.places q (object_type (variable_type l m)) x.address)
                (sym (ap (λ z. if z then r else variable_in v.variables m) e)) x.refers;
            reached = x.reached;
          }

      number : (m : ℕ) (z : Bool) → (n == m) ≡ z → (z || is_in_reach v.variables m) ≡ true → m < n + 1
      number m true e is = let same = number_is n m e in omega (arith, same)
      number m false e is = let lt = scope.before m is in omega (arith, lt)

-- no object stands behind one that is newly at a variable
pub free_placed : (l : Lowering) (own : Option ℕ) (v : SourceFrame) (n : ℕ) (at : Places) (s : State) (scope : InScope l own n at v s) (o q m : ℕ) (x y : Stood)
    → x.base ≡ of_variable s.frame.call (variable_slot l n) → with_place at o x q ≡ Some y → y.base ≡ of_variable s.frame.call (variable_slot l m) → m < n + 1
free_placed l own v n at s scope o q m x y base is it = go (placed at o q x y is)
  where
    slots : (c a b : ℕ) → of_variable c a ≡ of_variable c b → a ≡ b
    slots c a b e = cc e

    go : ((q ≡ o) × (x ≡ y)) ⊎ ((q ≡ o → ⊥) × (at q ≡ Some y)) → m < n + 1
    go (inl (e, f)) =
        let same = slots s.frame.call (variable_slot l n) (variable_slot l m) (sym base ∙ ap (λ z. z.base) f ∙ it) in omega (arith, same)
    go (inr (ne, old)) = let lt = scope.free q m y old it in omega (arith, lt)

-- an object of a variable stands newly where nothing stood
pub variable_empty : (l : Lowering) (own : Option ℕ) (v : SourceFrame) (n : ℕ) (at : Places) (s : State) → InScope l own n at v s → (o : ℕ) (x : Stood) → at o ≡ Some x
    → x.base ≡ of_variable s.frame.call (variable_slot l n) → ⊥
variable_empty l own v n at s scope o x is it = let lt = scope.free o n x is it in omega (arith, lt)
