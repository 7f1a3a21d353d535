-- Handlers and specifications have ranks: their landing pads stand in front of what they guard, and come behind it.
use Rattle.std.proofs.Common.{◌≡◌, ℤ, ℕ, ◌+◌, ◌≤◌, true, List, [], ◌∷◌, ◌++◌, length, length-append, inl, refl, ap, arith}
use Rattle.region_forms.specs.Form.{Clauses}
use Rattle.linear_forms.specs.Linear.{FunctionCode, LinearOp, label, jump, pad, jump_filter, resume, unexpected}
use Rattle.linear_forms.specs.Tables.{Cover}
use Rattle.linear_forms.specs.Sites.{Placed}
use Rattle.linear_forms.specs.CodeRuns.{HasAt}
use Rattle.linear_forms.specs.Exits.{Exit, exit_to}
use Rattle.linear_forms.specs.Emission.{Emitting, quiet, outward, guarded, catch_code, limit_code}
use Rattle.linear_forms.specs.Code.{clause_tests}
use Rattle.cost_paths.specs.Control.{place_of}
use Rattle.cost_paths.proofs.Ranks.{weight, alone, weight_both, has_front, has_back, Ranked, ranked_front, ranked_back, at_place, both_rise, Around, lower_cover, lower_exits, exits_inside, label_rises}
use Rattle.cost_paths.proofs.Pieces.{Ordered, RegionOrdered}
use Rattle.cost_paths.proofs.Handlers.{in_a_row, row_same, row_start, tests_rise, HandlersOrdered}

module _ (g : FunctionCode) (weigh : LinearOp → ℕ) (top : ℕ) (light : (l : ℕ) → weigh (label l) ≡ 0) (em : Emitting) (q b p : ℕ) (place : q ≡ p) (c : Cover) (xs : List Exit) (l : ℕ) where
  -- what is around a body whose pad begins behind the first jump
  around_body : (chain : List ℤ) (rank : ℕ → ℕ) (d e here end : ℕ) → d ≤ e → d ≤ rank here → d ≤ rank (place_of g l) → d ≤ rank (q + 1) → Around g weigh top rank e end c xs →
      Around g weigh top rank d here (guarded (p + 1) chain c) (exit_to l ∷ xs)
  around_body chain rank d e here end lower behind own at_pad around =
      let same = ap rank (ap (λ k. k + 1) place) in
      record {
        behind = behind;
        exits = exits_inside g weigh top rank d l xs own (lower_exits g weigh top rank d e xs lower around.exits);
        cover = omega (arith, at_pad, same);
        inside = omega (arith, lower, around.inside);
      }

  -- handlers stand behind the tests, and the body behind the handlers
  pub catch_ordered : (cs : Clauses) (chain : List ℤ) (handlers body : List Placed) (r s d : ℕ) → r ≡ q + 3 + length (clause_tests em (l + 2) cs) → s ≡ r + length handlers + 1 →
      d ≡ b + weigh (jump (l + 1)) + weight weigh body + weigh (pad em.object em.selector) + weight weigh (clause_tests em (l + 2) cs) + weigh (resume em.object) →
      HandlersOrdered g weigh top light r d c (exit_to l ∷ xs) l (l + 2) cs handlers → Ordered g weigh top light s (b + weigh (jump (l + 1))) (guarded (p + 1) chain c) (exit_to l ∷ xs) body →
      RegionOrdered g weigh top light q b c xs l true (catch_code em c l (clause_tests em (l + 2) cs) handlers body)
  catch_ordered cs chain handlers body r s d at_handlers at_body base y x =
      let tests = clause_tests em (l + 2) cs in
      let last = quiet (label l) ∷ [] in
      let guarded_part = quiet (label (l + 1)) ∷ (body ++ last) in
      let passing = outward (resume em.object) c ∷ [] in
      let after_tests = outward (resume em.object) c ∷ (handlers ++ guarded_part) in
      let t = q + 1 + 1 in
      let u = t + length tests in
      let v = r + length handlers in
      let z = s + length body in
      let b1 = b + weigh (jump (l + 1)) in
      let b2 = b1 + weight weigh body in
      let b3 = b2 + weigh (pad em.object em.selector) in
      let b4 = b3 + weight weigh tests in
      let n = d + weight weigh handlers in
      let row = in_a_row g weigh top light b3 tests in
      let later = x.ranks ++ n ∷ [] in
      let middle = y.ranks ++ b1 ∷ later in
      let row_length = row_same g weigh top light b3 tests in
      let lengths = length-append tests after_tests in
      let lengths' = length-append handlers guarded_part in
      let lengths'' = length-append body last in
      let weights = weight_both weigh tests after_tests in
      let weights' = weight_both weigh handlers guarded_part in
      let weights'' = weight_both weigh body last in
      let first_place : r ≡ u + 1 = omega (arith, at_handlers) in
      let body_place : s ≡ v + 1 = omega (arith, at_body) in
      let rank_u : (rank : ℕ → ℕ) → Ranked rank t (row ++ b4 ∷ middle) → Ranked rank u (b4 ∷ middle) = λ rank rk. ranked_back rank t u row (b4 ∷ middle) (omega (arith, row_length)) rk in
      let rank_r : (rank : ℕ → ℕ) → Ranked rank t (row ++ b4 ∷ middle) → Ranked rank r middle = λ rank rk. ranked_back rank u r (b4 ∷ []) middle first_place (rank_u rank rk) in
      let rank_v : (rank : ℕ → ℕ) → Ranked rank t (row ++ b4 ∷ middle) → Ranked rank v (b1 ∷ later) = λ rank rk. ranked_back rank r v y.ranks (b1 ∷ later) (omega (arith, y.same)) (rank_r rank rk) in
      let rank_s : (rank : ℕ → ℕ) → Ranked rank t (row ++ b4 ∷ middle) → Ranked rank s later = λ rank rk. ranked_back rank v s (b1 ∷ []) later body_place (rank_v rank rk) in
      let rank_z : (rank : ℕ → ℕ) → Ranked rank t (row ++ b4 ∷ middle) → Ranked rank z (n ∷ []) = λ rank rk. ranked_back rank s z x.ranks (n ∷ []) (omega (arith, x.same)) (rank_s rank rk) in
      let has_u : HasAt (alone g) 0 t (tests ++ after_tests) → HasAt (alone g) 0 u after_tests = λ has. has_back g t u tests after_tests refl has in
      let has_r : HasAt (alone g) 0 t (tests ++ after_tests) → HasAt (alone g) 0 r (handlers ++ guarded_part) = λ has. has_back g u r passing (handlers ++ guarded_part) first_place (has_u has) in
      let has_v : HasAt (alone g) 0 t (tests ++ after_tests) → HasAt (alone g) 0 v guarded_part = λ has. has_back g r v handlers guarded_part refl (has_r has) in
      let has_s : HasAt (alone g) 0 t (tests ++ after_tests) → HasAt (alone g) 0 s (body ++ last) = λ has. has_back g v s (quiet (label (l + 1)) ∷ []) (body ++ last) body_place (has_v has) in
      let has_z : HasAt (alone g) 0 t (tests ++ after_tests) → HasAt (alone g) 0 z last = λ has. has_back g s z body last refl (has_s has) in
      record {
        all = record {
          ranks = b ∷ b2 ∷ (row ++ b4 ∷ middle);
          same = omega (arith, row_length, length-append row (b4 ∷ middle), length-append y.ranks (b1 ∷ later), length-append x.ranks (n ∷ []), x.same, y.same, lengths, lengths', lengths'');
          start = λ rank end e rk same le above. omega (arith, rk.0);
          rise = λ rank end e has rk same le around.
              let tests_there = has.3.3 in
              let ranks_there = rk.1.1 in
              let jumped = ap rank (has_v tests_there).2 in
              let at_resume = (rank_u rank ranks_there).0 in
              let at_label = (rank_v rank ranks_there).0 in
              let at_end = (rank_z rank ranks_there).0 in
              let own = ap rank (has_z tests_there).2 in
              let small : n ≤ e = omega (arith, le, base, weights, weights', weights'', light l, light (l + 1)) in
              let small5 : d ≤ e = omega (arith, small) in
              let small2 : b2 ≤ e = omega (arith, small5, base) in
              let test_ranks = ranked_front rank t row (b4 ∷ middle) ranks_there in
              let handler_ranks = ranked_front rank r y.ranks (b1 ∷ later) (rank_r rank ranks_there) in
              let handler_code = has_front g r handlers guarded_part (has_r tests_there) in
              let heads = y.heads rank handler_code handler_ranks in
              let next_test = row_start g weigh top light rank t b3 u tests test_ranks refl (omega (arith, at_resume)) in
              let next = x.start rank z b2 (ranked_front rank s x.ranks (n ∷ []) (rank_s rank ranks_there)) refl (omega arith) (omega (arith, at_end, base)) in
              let next_label : b1 ≤ rank (v + 1) = at_place rank (v + 1) s b1 (omega (arith, body_place)) next in
              let after : e ≤ rank (z + 1) = at_place rank (z + 1) end e (omega (arith, same, at_handlers, at_body, lengths, lengths', lengths'')) around.behind in (
                record { next = tt; jump = inl (omega (arith, rk.0, jumped, at_label)); pad = tt; inside = omega (arith, rk.0, small2, around.inside) },
                (
                  record { next = omega (arith, rk.1.0, next_test); jump = tt; pad = tt; inside = omega (arith, rk.1.0, small5, base, around.inside) },
                  both_rise g weigh top rank t u tests after_tests refl
                      (tests_rise g weigh top light em rank cs (l + 2) t b3 u d test_ranks refl (omega (arith, base)) (omega (arith, at_resume)) heads (omega (arith, small5, around.inside))) (
                        record {
                          next = tt;
                          jump = tt;
                          pad = lower_cover g weigh top rank (rank u + weigh (resume em.object)) e c (omega (arith, at_resume, small5, base)) around.cover;
                          inside = omega (arith, at_resume, small5, base, around.inside);
                        },
                        both_rise g weigh top rank (u + 1) r [] (handlers ++ guarded_part) (omega (arith, first_place)) tt
                            (both_rise g weigh top rank r v handlers guarded_part refl
                            (y.rise rank n handler_code handler_ranks (omega arith) (omega (arith, own, at_end))
                            (exits_inside g weigh top rank n l xs (omega (arith, own, at_end)) (lower_exits g weigh top rank n e xs small around.exits))
                            (lower_cover g weigh top rank n e c small around.cover) (omega (arith, small, around.inside))) (
                              label_rises g weigh top rank v (l + 1) (light (l + 1)) (omega (arith, at_label, next_label)) (omega (arith, at_label, small2, around.inside)),
                              both_rise g weigh top rank (v + 1) s [] (body ++ last) (omega (arith, body_place)) tt
                                  (both_rise g weigh top rank s z body last refl
                                  (x.rise rank z b2 (has_front g s body last (has_s tests_there)) (ranked_front rank s x.ranks (n ∷ []) (rank_s rank ranks_there)) refl (omega arith)
                                  (around_body chain rank b2 e z end small2 (omega (arith, at_end, base)) (omega (arith, own, at_end, base)) (omega (arith, rk.1.0)) around))
                                  (label_rises g weigh top rank z l (light l) (omega (arith, at_end, small, after)) (omega (arith, at_end, small, around.inside)), tt)),
                            )),
                      ),
                ),
              );
        };
        label = λ yes rank has rk.
            let at_end = (rank_z rank rk.1.1).0 in
            let own = ap rank (has_z has.3.3).2 in
            omega (arith, own, at_end, base, weights, weights', weights'', light l, light (l + 1));
      }

  pub limit_ordered : (m : ℤ) (chain : List ℤ) (body : List Placed) →
      Ordered g weigh top light (q + 1 + 1 + 1 + 1 + 1 + 1 + 1) (b + weigh (jump (l + 1))) (guarded (p + 1) chain c) (exit_to l ∷ xs) body →
      RegionOrdered g weigh top light q b c xs l true (limit_code em m c l body)
  limit_ordered m chain body x =
      let last = quiet (label l) ∷ [] in
      let s = q + 1 + 1 + 1 + 1 + 1 + 1 + 1 in
      let z = s + length body in
      let b1 = b + weigh (jump (l + 1)) in
      let b2 = b1 + weight weigh body in
      let b3 = b2 + weigh (pad em.object em.selector) in
      let b4 = b3 + weigh (jump_filter em.selector m (l + 2)) in
      let b5 = b4 + weigh (resume em.object) in
      let n = b5 + weigh (unexpected em.object em.selector) in
      let lengths = length-append body last in
      let weights = weight_both weigh body last in
      let end_rank : (rank : ℕ → ℕ) → Ranked rank s (x.ranks ++ n ∷ []) → Ranked rank z (n ∷ []) = λ rank rk. ranked_back rank s z x.ranks (n ∷ []) (omega (arith, x.same)) rk in
      let ending : HasAt (alone g) 0 s (body ++ last) → HasAt (alone g) 0 z last = λ has. has_back g s z body last refl has in
      record {
        all = record {
          ranks = b ∷ b2 ∷ b3 ∷ b4 ∷ b5 ∷ b5 ∷ b1 ∷ (x.ranks ++ n ∷ []);
          same = omega (arith, length-append x.ranks (n ∷ []), x.same, lengths);
          start = λ rank end e rk same le above. omega (arith, rk.0);
          rise = λ rank end e has rk same le around.
              let r1 = rk.1 in
              let r2 = r1.1 in
              let r3 = r2.1 in
              let r4 = r3.1 in
              let r5 = r4.1 in
              let r6 = r5.1 in
              let in_body = has.3.3.3.3.3.3.3 in
              let jumped = ap rank has.3.3.3.3.3.3.2 in
              let stopped = ap rank has.3.3.3.3.2 in
              let at_end = (end_rank rank r6.1).0 in
              let own = ap rank (ending in_body).2 in
              let small : n ≤ e = omega (arith, le, weights, light l, light (l + 1), light (l + 2)) in
              let small2 : b2 ≤ e = omega (arith, small) in
              let next = x.start rank z b2 (ranked_front rank s x.ranks (n ∷ []) r6.1) refl (omega arith) (omega (arith, at_end)) in
              let after : e ≤ rank (z + 1) = at_place rank (z + 1) end e (omega (arith, same, lengths)) around.behind in (
                record { next = tt; jump = inl (omega (arith, rk.0, jumped, r6.0)); pad = tt; inside = omega (arith, rk.0, small2, around.inside) },
                (
                  record { next = omega (arith, r1.0, r2.0); jump = tt; pad = tt; inside = omega (arith, r1.0, small, around.inside) },
                  (
                    record { next = omega (arith, r2.0, r3.0); jump = omega (arith, r2.0, stopped, r4.0); pad = tt; inside = omega (arith, r2.0, small, around.inside) },
                    (
                      record {
                        next = tt;
                        jump = tt;
                        pad = lower_cover g weigh top rank (rank (q + 1 + 1 + 1) + weigh (resume em.object)) e c (omega (arith, r3.0, small)) around.cover;
                        inside = omega (arith, r3.0, small, around.inside);
                      },
                      (
                        label_rises g weigh top rank (q + 1 + 1 + 1 + 1) (l + 2) (light (l + 2)) (omega (arith, r4.0, r5.0)) (omega (arith, r4.0, small, around.inside)),
                        (
                          record {
                            next = tt;
                            jump = tt;
                            pad = lower_cover g weigh top rank (rank (q + 1 + 1 + 1 + 1 + 1) + weigh (unexpected em.object em.selector)) e c (omega (arith, r5.0, small)) around.cover;
                            inside = omega (arith, r5.0, small, around.inside);
                          },
                          (
                            label_rises g weigh top rank (q + 1 + 1 + 1 + 1 + 1 + 1) (l + 1) (light (l + 1)) (omega (arith, r6.0, next)) (omega (arith, r6.0, small2, around.inside)),
                            both_rise g weigh top rank s z body last refl
                                (x.rise rank z b2 (has_front g s body last in_body) (ranked_front rank s x.ranks (n ∷ []) r6.1) refl (omega arith)
                                (around_body chain rank b2 e z end small2 (omega (arith, at_end)) (omega (arith, own, at_end)) (omega (arith, r1.0)) around))
                                (label_rises g weigh top rank z l (light l) (omega (arith, at_end, small, after)) (omega (arith, at_end, small, around.inside)), tt),
                          ),
                        ),
                      ),
                    ),
                  ),
                ),
              );
        };
        label = λ yes rank has rk.
            let at_end = (end_rank rank rk.1.1.1.1.1.1.1).0 in
            let own = ap rank (ending has.3.3.3.3.3.3.3).2 in
            omega (arith, own, at_end, weights, light l, light (l + 1), light (l + 2));
      }
