-- The operations of each function have ranks.
use Rattle.std.proofs.Common.{◌≡◌, ◌⊎◌, ℕ, zero, suc, ◌+◌, ◌<◌, ◌≤◌, Bool, true, false, List, [], ◌∷◌, ◌++◌, map, length, length-append, Some, None, inl, inr, refl, sym, ap, ◌∙◌, subst, arith}
use Rattle.std.specs.Prelude.{slice_get}
use Rattle.region_forms.specs.Form.{RegionFunction}
use Rattle.linear_forms.specs.Linear.{FunctionCode, LinearOp, plain, label, jump, jump_zero, pad, jump_filter, free, resume, unexpected, return}
use Rattle.linear_forms.specs.Tables.{unpadded, look_up}
use Rattle.linear_forms.specs.Sites.{Placed}
use Rattle.linear_forms.specs.CodeRuns.{HasAt}
use Rattle.linear_forms.specs.Emission.{quiet}
use Rattle.linear_forms.specs.Code.{region_code}
use Rattle.linear_forms.specs.Unit.{emitting, placed_code, function_code}
use Rattle.cost_paths.specs.Control.{goes_on, label_of, place_of, CanGo, TurnsBack}
use Rattle.cost_paths.specs.Order.{weight as spec_weight, AreRanks, OperationsAreInOrder}
use Rattle.cost_paths.proofs.Ranks.{weight, alone, weight_both, has_front, Ranked, ranked_front, ranked_back, at_place, NextRises, JumpRises, CoverAbove, Rises, AllRise, both_rise}
use Rattle.cost_paths.proofs.Pieces.{RegionOrdered}
use Rattle.cost_paths.proofs.Listed.{rank_in, all_listed, behind_all}
use Rattle.cost_paths.proofs.Missing.{missing, both_without, no_labels, op_inside, function_has}
use Rattle.cost_paths.proofs.Regions.{has_end, region_ordered}

-- the operation at a place is one of those that rise
record Found (g : FunctionCode) (weigh : LinearOp → ℕ) (top : ℕ) (rank : ℕ → ℕ) (p : ℕ) (o : LinearOp) : Type 0 where
  it : Placed
  is : it.op ≡ o
  covers : look_up g.sites p ≡ it.cover
  rises : Rises g weigh top rank p it

module _ (g : FunctionCode) (weigh : LinearOp → ℕ) (top : ℕ) (rank : ℕ → ℕ) where
  some_same : (a b : LinearOp) → Some a ≡ Some b → a ≡ b
  some_same a b e = cc e

  found : (is : List Placed) (q k p : ℕ) (o : LinearOp) → p ≡ q + k → k < length is → HasAt (alone g) 0 q is → AllRise g weigh top rank q is → slice_get g.ops p ≡ Some o → Found g weigh top rank p o
  found [] q k p o e lt has all there = absurd (omega (arith, lt))
  found (x ∷ is) q zero p o e lt has all there =
      let same : q ≡ p = omega (arith, e) in
      subst (λ n. slice_get g.ops n ≡ Some o → Found g weigh top rank n o) same
      (λ at. record { it = x; is = some_same x.op o (sym has.0 ∙ at); covers = has.1; rises = all.0 }) there
  found (x ∷ is) q (suc k) p o e lt has all there = found is (q + 1) k p o (omega (arith, e)) (omega (arith, lt)) has.3 all.1 there

  -- a step of an operation that rises
  stepped : (p q : ℕ) (x : Placed) → Rises g weigh top rank p x → look_up g.sites p ≡ x.cover → CanGo g p x.op q → (rank p + weigh x.op ≤ rank q) ⊎ TurnsBack g p q
  stepped p q x r covers (inl go) = inl (to_next x.op r.next go.0)
    where
      to_next : (o : LinearOp) → NextRises g weigh top rank p o → goes_on o ≡ true → rank p + weigh o ≤ rank q
      to_next (plain o) h e = at_place rank q (p + 1) (rank p + weigh (plain o)) go.1 h
      to_next (label l) h e = at_place rank q (p + 1) (rank p + weigh (label l)) go.1 h
      to_next (jump l) h e = absurd (cc e)
      to_next (jump_zero v l) h e = at_place rank q (p + 1) (rank p + weigh (jump_zero v l)) go.1 h
      to_next (pad o s) h e = at_place rank q (p + 1) (rank p + weigh (pad o s)) go.1 h
      to_next (jump_filter s n l) h e = at_place rank q (p + 1) (rank p + weigh (jump_filter s n l)) go.1 h
      to_next (free s) h e = at_place rank q (p + 1) (rank p + weigh (free s)) go.1 h
      to_next (resume s) h e = absurd (cc e)
      to_next (unexpected o s) h e = absurd (cc e)
      to_next (return result) h e = absurd (cc e)
  stepped p q x r covers (inr (inl go)) = to_label x.op r.jump go.1
    where
      same_label : (l : ℕ) → Some l ≡ Some go.0 → q ≡ place_of g l
      same_label l e = let same : l ≡ go.0 = cc e in go.2 ∙ ap (place_of g) (sym same)

      to_label : (o : LinearOp) → JumpRises g weigh top rank p o → label_of o ≡ Some go.0 → (rank p + weigh o ≤ rank q) ⊎ TurnsBack g p q
      to_label (plain o) h e = absurd (cc e)
      to_label (label l) h e = absurd (cc e)
      to_label (jump l) (inl h) e = inl (at_place rank q (place_of g l) (rank p + weigh (jump l)) (same_label l e) h)
      to_label (jump l) (inr h) e = inr (subst (TurnsBack g p) (sym (same_label l e)) h)
      to_label (jump_zero v l) h e = inl (at_place rank q (place_of g l) (rank p + weigh (jump_zero v l)) (same_label l e) h)
      to_label (pad o s) h e = absurd (cc e)
      to_label (jump_filter s n l) h e = inl (at_place rank q (place_of g l) (rank p + weigh (jump_filter s n l)) (same_label l e) h)
      to_label (free s) h e = absurd (cc e)
      to_label (resume s) h e = absurd (cc e)
      to_label (unexpected o s) h e = absurd (cc e)
      to_label (return result) h e = absurd (cc e)
  stepped p q x r covers (inr (inr go)) = inl (subst (CoverAbove g weigh top rank (rank p + weigh x.op)) (sym covers ∙ go.1) r.pad)

none_behind : (is : List Placed) (p : ℕ) → slice_get (map (λ x. x.op) is) p ≡ None → length is ≤ p
none_behind [] p e = omega arith
none_behind (x ∷ is) zero e = absurd (cc e)
none_behind (x ∷ is) (suc p) e = omega (arith, none_behind is p e)

weighed : (weigh : LinearOp → ℕ) (is : List Placed) → spec_weight weigh (map (λ x. x.op) is) ≡ weight weigh is
weighed weigh [] = refl
weighed weigh (x ∷ is) = omega (arith, weighed weigh is)

-- a function
module _ (f : RegionFunction) (weigh : LinearOp → ℕ) (light : (l : ℕ) → weigh (label l) ≡ 0) where
  abbrev code : FunctionCode
  code = function_code f

  abbrev body : List Placed
  body = region_code (emitting f) unpadded [] 0 0 f.body

  abbrev top : ℕ
  top = spec_weight weigh code.ops

  abbrev last : List Placed
  last = quiet (return f.result) ∷ []

  whole : top ≡ weight weigh body + weigh (return f.result)
  whole = let both = weight_both weigh body last in omega (arith, both, weighed weigh (placed_code f))

  parts : RegionOrdered code weigh top light 0 0 unpadded [] 0 (has_end f.body) body
  parts = region_ordered code weigh top light (emitting f) f.body unpadded [] 0 0 0 0 refl

  abbrev ranks : List ℕ
  ranks = parts.all.ranks ++ weight weigh body ∷ []

  abbrev rank : ℕ → ℕ
  rank = rank_in ranks top

  as_many : length ranks ≡ length (placed_code f)
  as_many = omega (arith, length-append parts.all.ranks (weight weigh body ∷ []), length-append body last, parts.all.same)

  in_body : HasAt (alone code) 0 0 body
  in_body = has_front code 0 body last (function_has f)

  body_ranks : Ranked rank 0 parts.all.ranks
  body_ranks = ranked_front rank 0 parts.all.ranks (weight weigh body ∷ []) (all_listed top ranks)

  return_rank : rank (0 + length body) ≡ weight weigh body
  return_rank = (ranked_back rank 0 (0 + length body) parts.all.ranks (weight weigh body ∷ []) (omega (arith, parts.all.same)) (all_listed top ranks)).0

  -- an exit out of everything goes behind all that weighs something
  outermost : weight weigh body ≤ rank (place_of code 0)
  outermost = go (has_end f.body) refl
    where
      go : (b : Bool) → has_end f.body ≡ b → weight weigh body ≤ rank (place_of code 0)
      go true e = let above = parts.label e rank in_body body_ranks in omega (arith, above)
      go false e =
          let without = both_without body last (no_labels (emitting f) f.body unpadded [] 0 0 e) (tt, tt) in
          let same = ap rank (missing (placed_code f) 0 0 without) in
          let behind = behind_all top ranks (0 + length (placed_code f)) (omega (arith, as_many)) in
          omega (arith, same, behind, whole)

  all_rise : AllRise code weigh top rank 0 (placed_code f)
  all_rise =
      both_rise code weigh top rank 0 (0 + length body) body last refl
      (parts.all.rise rank (0 + length body) (weight weigh body) in_body body_ranks refl (omega arith)
      (record { behind = omega (arith, return_rank); exits = λ k. outermost; cover = tt; inside = omega (arith, whole) }))
      (record { next = tt; jump = tt; pad = tt; inside = omega (arith, return_rank, whole) }, tt)

  found_at : (p : ℕ) (o : LinearOp) → slice_get code.ops p ≡ Some o → Found code weigh top rank p o
  found_at p o e = found code weigh top rank (placed_code f) 0 p p o (omega arith) (op_inside (placed_code f) p o e) (function_has f) all_rise e

  are_ranks : AreRanks code weigh rank
  are_ranks = record {
    rises = λ p q o e go.
        let h = found_at p o e in
        subst (λ x. (rank p + weigh x ≤ rank q) ⊎ TurnsBack code p q) h.is (stepped code weigh top rank p q h.it h.rises h.covers (subst (λ x. CanGo code p x q) (sym h.is) go));
    inside = λ p o e. let h = found_at p o e in let same = ap weigh h.is in omega (arith, h.rises.inside, same);
    behind = λ p e. behind_all top ranks p (omega (arith, as_many, none_behind (placed_code f) p e));
  }

pub operations_are_in_order : OperationsAreInOrder
operations_are_in_order f weigh light = (rank f weigh light, are_ranks f weigh light)
