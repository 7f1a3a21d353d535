-- Tests and loops have ranks, as they stand.
use Rattle.std.proofs.Common.{◌≡◌, ℕ, ◌+◌, ◌≤◌, true, List, [], ◌∷◌, ◌++◌, length, length-append, Some, slice_get, inl, inr, refl, sym, ap, subst, arith}
use Rattle.region_forms.specs.Form.{Value}
use Rattle.linear_forms.specs.Linear.{FunctionCode, LinearOp, label, jump, jump_zero}
use Rattle.linear_forms.specs.Tables.{Cover}
use Rattle.linear_forms.specs.Sites.{Placed}
use Rattle.linear_forms.specs.CodeRuns.{HasAt}
use Rattle.linear_forms.specs.Exits.{Exit, exit_to}
use Rattle.linear_forms.specs.Emission.{quiet, branch_code, loop_code}
use Rattle.cost_paths.specs.Control.{place_of, TurnsBack}
use Rattle.cost_paths.proofs.Ranks.{weight, alone, weight_both, has_front, has_back, Ranked, ranked_front, ranked_back, at_place, both_rise, Around, lower_cover, lower_exits, exits_inside, label_rises}
use Rattle.cost_paths.proofs.Pieces.{Ordered, RegionOrdered}

module _ (g : FunctionCode) (weigh : LinearOp → ℕ) (top : ℕ) (light : (l : ℕ) → weigh (label l) ≡ 0) (q b : ℕ) (c : Cover) (xs : List Exit) (l : ℕ) (v : Value) where
  -- what is around a part whose region ends at a label
  around_part : (rank : ℕ → ℕ) (d e place end : ℕ) → d ≤ e → d ≤ rank place → d ≤ rank (place_of g l) → Around g weigh top rank e end c xs → Around g weigh top rank d place c (exit_to l ∷ xs)
  around_part rank d e place end lower behind own around = record {
    behind = behind;
    exits = exits_inside g weigh top rank d l xs own (lower_exits g weigh top rank d e xs lower around.exits);
    cover = lower_cover g weigh top rank d e c lower around.cover;
    inside = omega (arith, lower, around.inside);
  }

  -- the first side begins behind the test, and the second behind the first one's jump
  pub branch_ordered : (r d : ℕ) (first second : List Placed) → r ≡ q + 1 + length first + 2 → d ≡ b + weigh (jump_zero v (l + 1)) + weight weigh first + weigh (jump l) →
      Ordered g weigh top light (q + 1) (b + weigh (jump_zero v (l + 1))) c (exit_to l ∷ xs) first → Ordered g weigh top light r d c (exit_to l ∷ xs) second →
      RegionOrdered g weigh top light q b c xs l true (branch_code v l first second)
  branch_ordered r d first second place base x y =
      let o = jump_zero v (l + 1) in
      let last = quiet (label l) ∷ [] in
      let tail = quiet (jump l) ∷ quiet (label (l + 1)) ∷ (second ++ last) in
      let j = q + 1 + length first in
      let m = b + weigh o + weight weigh first in
      let z = r + length second in
      let n = d + weight weigh second in
      let later = m ∷ d ∷ (y.ranks ++ n ∷ []) in
      let lengths = length-append first tail in
      let lengths' = length-append second last in
      let weights = weight_both weigh first tail in
      let weights' = weight_both weigh second last in
      let second_place : r ≡ j + 1 + 1 = omega (arith, place) in
      let behind : (rank : ℕ → ℕ) → Ranked rank (q + 1) (x.ranks ++ later) → Ranked rank j later = λ rank rk. ranked_back rank (q + 1) j x.ranks later (omega (arith, x.same)) rk in
      let middle : (rank : ℕ → ℕ) → Ranked rank (q + 1) (x.ranks ++ later) → Ranked rank r (y.ranks ++ n ∷ []) =
      λ rank rk. ranked_back rank j r (m ∷ d ∷ []) (y.ranks ++ n ∷ []) (omega (arith, second_place)) (behind rank rk) in
      let end_rank : (rank : ℕ → ℕ) → Ranked rank (q + 1) (x.ranks ++ later) → Ranked rank z (n ∷ []) = λ rank rk. ranked_back rank r z y.ranks (n ∷ []) (omega (arith, y.same)) (middle rank rk) in
      let stands : HasAt (alone g) 0 (q + 1) (first ++ tail) → HasAt (alone g) 0 j tail = λ has. has_back g (q + 1) j first tail refl has in
      let stands' : HasAt (alone g) 0 (q + 1) (first ++ tail) → HasAt (alone g) 0 r (second ++ last) =
      λ has. has_back g j r (quiet (jump l) ∷ quiet (label (l + 1)) ∷ []) (second ++ last) (omega (arith, second_place)) (stands has) in
      let ending : HasAt (alone g) 0 (q + 1) (first ++ tail) → HasAt (alone g) 0 z last = λ has. has_back g r z second last refl (stands' has) in
      record {
        all = record {
          ranks = b ∷ (x.ranks ++ later);
          same = omega (arith, length-append x.ranks later, length-append y.ranks (n ∷ []), x.same, y.same, lengths, lengths');
          start = λ rank end e rk same le above. omega (arith, rk.0);
          rise = λ rank end e has rk same le around.
              let at_jump = (behind rank rk.1).0 in
              let at_label = (behind rank rk.1).1.0 in
              let at_end = (end_rank rank rk.1).0 in
              let other = ap rank (stands has.3).3.2 in
              let own = ap rank (ending has.3).2 in
              let small : n ≤ e = omega (arith, le, weights, weights', base, light l, light (l + 1)) in
              let small' : m ≤ e = omega (arith, small, base) in
              let next = x.start rank j m (ranked_front rank (q + 1) x.ranks later rk.1) refl (omega arith) (omega (arith, at_jump)) in
              let next' = y.start rank z n (ranked_front rank r y.ranks (n ∷ []) (middle rank rk.1)) refl (omega arith) (omega (arith, at_end)) in
              let next_label : d ≤ rank (j + 1 + 1) = at_place rank (j + 1 + 1) r d (omega (arith, second_place)) next' in
              let after : e ≤ rank (z + 1) = at_place rank (z + 1) end e (omega (arith, same, place, lengths, lengths')) around.behind in (
                record { next = omega (arith, rk.0, next); jump = omega (arith, rk.0, other, at_label, base); pad = tt; inside = omega (arith, rk.0, small', around.inside) },
                both_rise g weigh top rank (q + 1) j first tail refl
                    (x.rise rank j m (has_front g (q + 1) first tail has.3) (ranked_front rank (q + 1) x.ranks later rk.1) refl (omega arith)
                    (around_part rank m e j end small' (omega (arith, at_jump)) (omega (arith, own, at_end, base)) around)) (
                      record { next = tt; jump = inl (omega (arith, at_jump, own, at_end, base)); pad = tt; inside = omega (arith, at_jump, small, base, around.inside) },
                      (
                        label_rises g weigh top rank (j + 1) (l + 1) (light (l + 1)) (omega (arith, at_label, next_label)) (omega (arith, at_label, small, around.inside)),
                        both_rise g weigh top rank (j + 1 + 1) r [] (second ++ last) (omega (arith, second_place)) tt
                            (both_rise g weigh top rank r z second last refl
                            (y.rise rank z n (has_front g r second last (stands' has.3)) (ranked_front rank r y.ranks (n ∷ []) (middle rank rk.1)) refl (omega arith)
                            (around_part rank n e z end small (omega (arith, at_end)) (omega (arith, own, at_end)) around))
                            (label_rises g weigh top rank z l (light l) (omega (arith, at_end, small, after)) (omega (arith, at_end, small, around.inside)), tt)),
                      ),
                    ),
              );
        };
        label = λ yes rank has rk.
            let at_end = (end_rank rank rk.1).0 in
            let own = ap rank (ending has.3).2 in
            omega (arith, own, at_end, weights, weights', base, light l, light (l + 1));
      }

  -- a loop's body begins behind its test; the jump at its end turns back
  pub loop_ordered : (body : List Placed) → Ordered g weigh top light (q + 1 + 1) (b + weigh (jump_zero v l)) c (exit_to l ∷ xs) body →
      RegionOrdered g weigh top light q b c xs l true (loop_code v l body)
  loop_ordered body x =
      let o = jump_zero v l in
      let last = quiet (label l) ∷ [] in
      let tail = quiet (jump (l + 1)) ∷ last in
      let j = q + 1 + 1 + length body in
      let m = b + weigh o + weight weigh body in
      let n = m + weigh (jump (l + 1)) in
      let later = m ∷ n ∷ [] in
      let lengths = length-append body tail in
      let weights = weight_both weigh body tail in
      let behind : (rank : ℕ → ℕ) → Ranked rank (q + 1 + 1) (x.ranks ++ later) → Ranked rank j later = λ rank rk. ranked_back rank (q + 1 + 1) j x.ranks later (omega (arith, x.same)) rk in
      let stands : HasAt (alone g) 0 (q + 1 + 1) (body ++ tail) → HasAt (alone g) 0 j tail = λ has. has_back g (q + 1 + 1) j body tail refl has in
      record {
        all = record {
          ranks = b ∷ b ∷ (x.ranks ++ later);
          same = omega (arith, length-append x.ranks later, x.same, lengths);
          start = λ rank end e rk same le above. omega (arith, rk.0);
          rise = λ rank end e has rk same le around.
              let at_jump = (behind rank rk.1.1).0 in
              let at_end = (behind rank rk.1.1).1.0 in
              let back = stands has.3.3 in
              let own = ap rank back.3.2 in
              let small : n ≤ e = omega (arith, le, weights, light l, light (l + 1)) in
              let small' : m ≤ e = omega (arith, small) in
              let next = x.start rank j m (ranked_front rank (q + 1 + 1) x.ranks later rk.1.1) refl (omega arith) (omega (arith, at_jump)) in
              let after : e ≤ rank (j + 1 + 1) = at_place rank (j + 1 + 1) end e (omega (arith, same, lengths)) around.behind in
              let turn : TurnsBack g j (place_of g (l + 1)) = record {
                first = l + 1;
                last = l;
                value = v;
                before = omega (arith, has.2);
                back = back.0;
                end = back.3.0;
                begin = subst (λ p. slice_get g.ops p ≡ Some (label (l + 1))) (sym has.2) has.0;
                test = subst (λ p. slice_get g.ops (p + 1) ≡ Some (jump_zero v l)) (sym has.2) has.3.0;
              } in (
                label_rises g weigh top rank q (l + 1) (light (l + 1)) (omega (arith, rk.0, rk.1.0)) (omega (arith, rk.0, small', around.inside)),
                (
                  record { next = omega (arith, rk.1.0, next); jump = omega (arith, rk.1.0, own, at_end); pad = tt; inside = omega (arith, rk.1.0, small', around.inside) },
                  both_rise g weigh top rank (q + 1 + 1) j body tail refl
                      (x.rise rank j m (has_front g (q + 1 + 1) body tail has.3.3) (ranked_front rank (q + 1 + 1) x.ranks later rk.1.1) refl (omega arith)
                      (around_part rank m e j end small' (omega (arith, at_jump)) (omega (arith, own, at_end)) around)) (
                        record { next = tt; jump = inr turn; pad = tt; inside = omega (arith, at_jump, small, around.inside) },
                        (label_rises g weigh top rank (j + 1) l (light l) (omega (arith, at_end, small, after)) (omega (arith, at_end, small, around.inside)), tt),
                      ),
                ),
              );
        };
        label = λ yes rank has rk.
            let at_end = (behind rank rk.1.1).1.0 in
            let own = ap rank (stands has.3.3).3.2 in
            omega (arith, own, at_end, weights, light l, light (l + 1));
      }
