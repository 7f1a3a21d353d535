-- A scope has ranks: its landing pad stands in front of what it guards, and comes behind it.
use Rattle.std.proofs.Common.{◌≡◌, ℕ, zero, suc, ◌+◌, ◌≤◌, true, List, [], ◌∷◌, ◌++◌, length, length-append, Option, Some, None, inl, refl, ap, arith}
use Rattle.region_forms.specs.Form.{Op, Cleanup, destroy_scope, destroy_part, free_object, leave_handler}
use Rattle.linear_forms.specs.Linear.{FunctionCode, LinearOp, label, jump, pad, resume}
use Rattle.linear_forms.specs.Tables.{Cover}
use Rattle.linear_forms.specs.Sites.{Placed}
use Rattle.linear_forms.specs.CodeRuns.{HasAt}
use Rattle.linear_forms.specs.Exits.{Exit}
use Rattle.linear_forms.specs.Emission.{Emitting, quiet, cleaned, pad_cleanup, exit_cleanup, exit_code, protect_exit, protect_code}
use Rattle.cost_paths.specs.Control.{place_of}
use Rattle.cost_paths.proofs.Ranks.{weight, alone, weight_both, has_front, has_back, Ranked, ranked_front, ranked_back, at_place, Rises, both_rise, ExitsAbove, lower_cover, lower_exits, label_rises}
use Rattle.cost_paths.proofs.Pieces.{Ordered, CleanupAbove, exits_ordered, RegionOrdered}

module _ (g : FunctionCode) (weigh : LinearOp → ℕ) (top : ℕ) (light : (l : ℕ) → weigh (label l) ≡ 0) where
  cleanup_rises : (rank : ℕ → ℕ) (p : ℕ) (cl : Cleanup) → rank p + weigh (pad_cleanup cl).op ≤ rank (p + 1) → rank p + weigh (pad_cleanup cl).op ≤ top →
      Rises g weigh top rank p (pad_cleanup cl)
  cleanup_rises rank p (destroy_scope o d) next inside = record { next = next; jump = tt; pad = tt; inside = inside }
  cleanup_rises rank p (destroy_part o d) next inside = record { next = next; jump = tt; pad = tt; inside = inside }
  cleanup_rises rank p (free_object s) next inside = record { next = next; jump = tt; pad = tt; inside = inside }
  cleanup_rises rank p leave_handler next inside = record { next = next; jump = tt; pad = tt; inside = inside }

  lower_cleanup : (rank : ℕ → ℕ) (d e l : ℕ) (o : Option Op) → d ≤ e → CleanupAbove g weigh top light rank e l o → CleanupAbove g weigh top light rank d l o
  lower_cleanup rank d e l None le h = tt
  lower_cleanup rank d e l (Some o) le h = omega (arith, le, h)

  -- the exits of what a scope holds go to its cleanup, or farther out if it has none
  exits_guarded : (rank : ℕ → ℕ) (e l : ℕ) (xs : List Exit) (cl : Cleanup) → CleanupAbove g weigh top light rank e l (exit_cleanup cl) → e ≤ rank (place_of g l) →
      ExitsAbove g weigh top rank e xs → ExitsAbove g weigh top rank e (protect_exit cl l ∷ xs)
  exits_guarded rank e l xs (destroy_scope o d) clean own h zero = clean
  exits_guarded rank e l xs (destroy_scope o d) clean own h (suc n) = clean
  exits_guarded rank e l xs (destroy_part o d) clean own h zero = own
  exits_guarded rank e l xs (destroy_part o d) clean own h (suc n) = h n
  exits_guarded rank e l xs (free_object s) clean own h zero = own
  exits_guarded rank e l xs (free_object s) clean own h (suc n) = h n
  exits_guarded rank e l xs leave_handler clean own h zero = clean
  exits_guarded rank e l xs leave_handler clean own h (suc n) = clean

  -- p is the place of the code, as the cover of its body names it
  pub protect_ordered : (em : Emitting) (q b p : ℕ) (c : Cover) (xs : List Exit) (l : ℕ) (cl : Cleanup) (outs : List ℕ) (body : List Placed) → q ≡ p →
      Ordered g weigh top light (q + 1 + 1 + 1 + 1 + 1) (b + weigh (jump (l + 1))) (cleaned em (p + 1) c) (protect_exit cl l ∷ xs) body →
      RegionOrdered g weigh top light q b c xs l true (protect_code em cl c xs l outs body)
  protect_ordered em q b p c xs l cl outs body place x =
      let o = exit_cleanup cl in
      let exits = exit_code em o c xs l outs in
      let last = quiet (label l) ∷ [] in
      let tail = exits ++ last in
      let s = q + 1 + 1 + 1 + 1 + 1 in
      let j = s + length body in
      let z = j + length exits in
      let b1 = b + weigh (jump (l + 1)) in
      let b2 = b1 + weight weigh body in
      let b3 = b2 + weigh (pad em.object em.selector) in
      let b4 = b3 + weigh (pad_cleanup cl).op in
      let b5 = b4 + weigh (resume em.object) in
      let n = b5 + weight weigh exits in
      let y = exits_ordered g weigh top light em j b5 c xs l outs o in
      let later = y.all.ranks ++ n ∷ [] in
      let lengths = length-append body tail in
      let lengths' = length-append exits last in
      let weights = weight_both weigh body tail in
      let weights' = weight_both weigh exits last in
      let behind : (rank : ℕ → ℕ) → Ranked rank s (x.ranks ++ later) → Ranked rank j later = λ rank rk. ranked_back rank s j x.ranks later (omega (arith, x.same)) rk in
      let end_rank : (rank : ℕ → ℕ) → Ranked rank s (x.ranks ++ later) → Ranked rank z (n ∷ []) = λ rank rk. ranked_back rank j z y.all.ranks (n ∷ []) (omega (arith, y.all.same)) (behind rank rk) in
      let stands : HasAt (alone g) 0 s (body ++ tail) → HasAt (alone g) 0 j tail = λ has. has_back g s j body tail refl has in
      let ending : HasAt (alone g) 0 s (body ++ tail) → HasAt (alone g) 0 z last = λ has. has_back g j z exits last refl (stands has) in
      record {
        all = record {
          ranks = b ∷ b2 ∷ b3 ∷ b4 ∷ b1 ∷ (x.ranks ++ later);
          same = omega (arith, length-append x.ranks later, length-append y.all.ranks (n ∷ []), x.same, y.all.same, lengths, lengths');
          start = λ rank end e rk same le above. omega (arith, rk.0);
          rise = λ rank end e has rk same le around.
              let r1 = rk.1 in
              let r2 = r1.1 in
              let r3 = r2.1 in
              let r4 = r3.1 in
              let in_body = has.3.3.3.3.3 in
              let jumped = ap rank has.3.3.3.3.2 in
              let at_exits = behind rank r4.1 in
              let at_end = (end_rank rank r4.1).0 in
              let own = ap rank (ending in_body).2 in
              let small : n ≤ e = omega (arith, le, weights, weights', light l, light (l + 1)) in
              let small5 : b5 ≤ e = omega (arith, small) in
              let small2 : b2 ≤ e = omega (arith, small5) in
              let exit_ranks = ranked_front rank j y.all.ranks (n ∷ []) at_exits in
              let exit_code = has_front g j exits last (stands in_body) in
              let next' = y.all.start rank z n exit_ranks refl (omega arith) (omega (arith, at_end)) in
              let clean = y.label rank z n exit_code exit_ranks refl (omega arith) (omega (arith, at_end)) in
              let next = x.start rank j b2 (ranked_front rank s x.ranks later r4.1) refl (omega arith) (omega (arith, next')) in
              let pad_place = ap rank (ap (λ k. k + 1) place) in
              let after : e ≤ rank (z + 1) = at_place rank (z + 1) end e (omega (arith, same, lengths, lengths')) around.behind in (
                record { next = tt; jump = inl (omega (arith, rk.0, jumped, r4.0)); pad = tt; inside = omega (arith, rk.0, small2, around.inside) },
                (
                  record { next = omega (arith, r1.0, r2.0); jump = tt; pad = tt; inside = omega (arith, r1.0, small5, around.inside) },
                  (
                    cleanup_rises rank (q + 1 + 1) cl (omega (arith, r2.0, r3.0)) (omega (arith, r2.0, small5, around.inside)),
                    (
                      record {
                        next = tt;
                        jump = tt;
                        pad = lower_cover g weigh top rank (rank (q + 1 + 1 + 1) + weigh (resume em.object)) e c (omega (arith, r3.0, small5)) around.cover;
                        inside = omega (arith, r3.0, small5, around.inside);
                      },
                      (
                        label_rises g weigh top rank (q + 1 + 1 + 1 + 1) (l + 1) (light (l + 1)) (omega (arith, r4.0, next)) (omega (arith, r4.0, small2, around.inside)),
                        both_rise g weigh top rank s j body tail refl
                            (x.rise rank j b2 (has_front g s body tail in_body) (ranked_front rank s x.ranks later r4.1) refl (omega arith)
                            (record {
                              behind = omega (arith, next');
                              exits = exits_guarded rank b2 l xs cl (lower_cleanup rank b2 b5 l o (omega arith) clean) (omega (arith, own, at_end)) (lower_exits g weigh top rank b2 e xs small2 around.exits);
                              cover = omega (arith, r1.0, pad_place);
                              inside = omega (arith, small2, around.inside);
                            }))
                            (both_rise g weigh top rank j z exits last refl
                            (y.all.rise rank z n exit_code exit_ranks refl (omega arith)
                            (record {
                              behind = omega (arith, at_end);
                              exits = lower_exits g weigh top rank n e xs small around.exits;
                              cover = lower_cover g weigh top rank n e c small around.cover;
                              inside = omega (arith, small, around.inside);
                            }))
                            (label_rises g weigh top rank z l (light l) (omega (arith, at_end, small, after)) (omega (arith, at_end, small, around.inside)), tt)),
                      ),
                    ),
                  ),
                ),
              );
        };
        label = λ yes rank has rk.
            let at_end = (end_rank rank rk.1.1.1.1.1).0 in
            let own = ap rank (ending has.3.3.3.3.3).2 in
            omega (arith, own, at_end, weights, weights', light l, light (l + 1));
      }
