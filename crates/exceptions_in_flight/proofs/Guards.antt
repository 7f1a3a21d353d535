-- Behind a landing pad its cleanup, its tests and what goes on outwards are marked.
use Rattle.std.proofs.Common.{◌≡◌, ℤ, ℕ, zero, suc, ◌+◌, Bool, true, false, List, [], ◌∷◌, ◌++◌, length, length-append, refl, ap, ◌∙◌, arith}
use Rattle.region_forms.specs.Form.{Cleanup, destroy_scope, destroy_part, free_object, leave_handler, Clauses, no_clauses, clause_then}
use Rattle.linear_forms.specs.Linear.{FunctionCode, label, pad, jump_filter, resume}
use Rattle.linear_forms.specs.Tables.{Cover, clause}
use Rattle.linear_forms.specs.Sites.{Placed}
use Rattle.linear_forms.specs.CodeRuns.{HasAt}
use Rattle.linear_forms.specs.Exits.{Exit, exit_to}
use Rattle.linear_forms.specs.Emission.{Emitting, quiet, outward, pad_cleanup, exit_cleanup, exit_code, protect_exit, protect_code, catch_code, limit_code}
use Rattle.linear_forms.specs.Code.{clause_tests}
use Rattle.cost_paths.specs.Control.{place_of}
use Rattle.cost_paths.proofs.Ranks.{alone, has_front, has_back, Ranked, ranked_front, ranked_back}
use Rattle.exceptions_in_flight.proofs.Marks.{unmarked, IsMarked, AllMarked, both_marked, ExitsFree, exits_inside, free_at}
use Rattle.exceptions_in_flight.proofs.Parts.{Marked, CleanupFree, exits_marked, RegionMarked, label_right}
use Rattle.exceptions_in_flight.proofs.Forms.{jump_free, HandlersMarked}

module _ (g : FunctionCode) (em : Emitting) where
  pad_right : (carries : ℕ → Bool) (p : ℕ) → carries p ≡ false → IsMarked g em carries p (quiet (pad em.object em.selector))
  pad_right carries p here = record { form = λ yes. unmarked (carries p) here yes; ends = (refl, refl); next = tt; jump = tt }

  cleanup_right : (carries : ℕ → Bool) (p : ℕ) (cl : Cleanup) → carries p ≡ true → IsMarked g em carries p (pad_cleanup cl)
  cleanup_right carries p (destroy_scope o d) here = record { form = λ yes. tt; ends = tt; next = λ yes. here; jump = tt }
  cleanup_right carries p (destroy_part o d) here = record { form = λ yes. tt; ends = tt; next = λ yes. here; jump = tt }
  cleanup_right carries p (free_object s) here = record { form = λ yes. tt; ends = tt; next = λ yes. here; jump = tt }
  cleanup_right carries p leave_handler here = record { form = λ yes. tt; ends = tt; next = λ yes. here; jump = tt }

  resume_right : (carries : ℕ → Bool) (p : ℕ) (c : Cover) → carries p ≡ true → IsMarked g em carries p (outward (resume em.object) c)
  resume_right carries p c here = record { form = λ yes. refl; ends = (here, refl); next = tt; jump = tt }

  filter_right : (carries : ℕ → Bool) (p : ℕ) (n : ℤ) (l : ℕ) → carries p ≡ true → IsMarked g em carries p (quiet (jump_filter em.selector n l))
  filter_right carries p n l here = record { form = λ yes. refl; ends = tt; next = λ yes. here; jump = λ yes. here }

  -- the exits of what a scope holds go to its cleanup, or farther out if it has none
  exits_guarded : (carries : ℕ → Bool) (l : ℕ) (xs : List Exit) (cl : Cleanup) → CleanupFree g em carries l (exit_cleanup cl) → carries (place_of g l) ≡ false → ExitsFree g em carries xs →
      ExitsFree g em carries (protect_exit cl l ∷ xs)
  exits_guarded carries l xs (destroy_scope o d) clean own h zero = clean
  exits_guarded carries l xs (destroy_scope o d) clean own h (suc n) = clean
  exits_guarded carries l xs (destroy_part o d) clean own h zero = own
  exits_guarded carries l xs (destroy_part o d) clean own h (suc n) = h n
  exits_guarded carries l xs (free_object s) clean own h zero = own
  exits_guarded carries l xs (free_object s) clean own h (suc n) = h n
  exits_guarded carries l xs leave_handler clean own h zero = clean
  exits_guarded carries l xs leave_handler clean own h (suc n) = clean

  pub protect_marked : (q : ℕ) (c : Cover) (xs : List Exit) (l : ℕ) (cl : Cleanup) (outs : List ℕ) (body : List Placed) →
      Marked g em (q + 1 + 1 + 1 + 1 + 1) (protect_exit cl l ∷ xs) body → RegionMarked g em q xs l true (protect_code em cl c xs l outs body)
  protect_marked q c xs l cl outs body x =
      let o = exit_cleanup cl in
      let exits = exit_code em o c xs l outs in
      let last = quiet (label l) ∷ [] in
      let tail = exits ++ last in
      let s = q + 1 + 1 + 1 + 1 + 1 in
      let j = s + length body in
      let z = j + length exits in
      let y = exits_marked g em j c xs l outs o in
      let later = y.all.marks ++ false ∷ [] in
      let lengths = length-append body tail in
      let lengths' = length-append exits last in
      let behind : (carries : ℕ → Bool) → Ranked carries s (x.marks ++ later) → Ranked carries j later = λ carries rk. ranked_back carries s j x.marks later (omega (arith, x.same)) rk in
      let ending : (carries : ℕ → Bool) → Ranked carries s (x.marks ++ later) → Ranked carries z (false ∷ []) = λ carries rk. ranked_back carries j z y.all.marks (false ∷ []) (omega (arith, y.all.same)) (behind carries rk) in
      let stands : HasAt (alone g) 0 s (body ++ tail) → HasAt (alone g) 0 j tail = λ has. has_back g s j body tail refl has in
      let stands' : HasAt (alone g) 0 s (body ++ tail) → HasAt (alone g) 0 z last = λ has. has_back g j z exits last refl (stands has) in
      record {
        all = record {
          marks = false ∷ false ∷ true ∷ true ∷ false ∷ (x.marks ++ later);
          same = omega (arith, length-append x.marks later, length-append y.all.marks (false ∷ []), x.same, y.all.same, lengths, lengths');
          start = λ carries end rk same free. rk.0;
          right = λ carries end has rk same free outer.
              let r3 = rk.1.1.1 in
              let r4 = r3.1 in
              let in_body = has.3.3.3.3.3 in
              let at_end = (ending carries r4.1).0 in
              let jumped = ap carries has.3.3.3.3.2 ∙ r4.0 in
              let own = ap carries (stands' in_body).2 ∙ at_end in
              let exit_marks = ranked_front carries j y.all.marks (false ∷ []) (behind carries r4.1) in
              let exit_code = has_front g j exits last (stands in_body) in
              let at_exits = y.all.start carries z exit_marks refl at_end in
              let clean = y.label carries exit_code exit_marks in
              let body_marks = ranked_front carries s x.marks later r4.1 in
              let next = x.start carries j body_marks refl at_exits in
              let after = free_at g em carries (z + 1) end (omega (arith, same, lengths, lengths')) free in (
                jump_free g em carries q (l + 1) rk.0 jumped,
                (
                  pad_right carries (q + 1) rk.1.0,
                  (
                    cleanup_right carries (q + 1 + 1) cl rk.1.1.0,
                    (
                      resume_right carries (q + 1 + 1 + 1) c r3.0,
                      (
                        label_right g em (q + 1 + 1 + 1 + 1) xs (l + 1) carries r4.0 next outer,
                        both_marked g em carries s j body tail refl (x.right carries j (has_front g s body tail in_body) body_marks refl at_exits (exits_guarded carries l xs cl clean own outer))
                            (both_marked g em carries j z exits last refl (y.all.right carries z exit_code exit_marks refl at_end outer) (label_right g em z xs l carries at_end after outer, tt)),
                      ),
                    ),
                  ),
                ),
              );
        };
        label = λ yes carries has rk. ap carries (stands' has.3.3.3.3.3).2 ∙ (ending carries rk.1.1.1.1.1).0;
      }

  -- all tests of a pad are marked
  abbrev pub test_marks : Clauses → List Bool
  test_marks no_clauses = []
  test_marks (clause_then t s r cs) = true ∷ test_marks cs

  test_length : (l : ℕ) (cs : Clauses) → length (test_marks cs) ≡ length (clause_tests em l cs)
  test_length l no_clauses = refl
  test_length l (clause_then t s r cs) = omega (arith, test_length (l + 1) cs)

  tests_right : (carries : ℕ → Bool) (cs : Clauses) (l q : ℕ) → Ranked carries q (test_marks cs) → AllMarked g em carries q (clause_tests em l cs)
  tests_right carries no_clauses l q rk = tt
  tests_right carries (clause_then t s r cs) l q rk = (filter_right carries q (em.filter (clause t)) l rk.0, tests_right carries cs (l + 1) (q + 1) rk.1)

  -- what goes on behind the tests is marked, as they are
  tests_first : (carries : ℕ → Bool) (cs : Clauses) (q r : ℕ) → r ≡ q + length (test_marks cs) → Ranked carries q (test_marks cs) → carries r ≡ true → carries q ≡ true
  tests_first carries no_clauses q r e rk there = let same : q ≡ r = omega (arith, e) in ap carries same ∙ there
  tests_first carries (clause_then t s x cs) q r e rk there = rk.0

  pub catch_marked : (q r s : ℕ) (c : Cover) (xs : List Exit) (l : ℕ) (cs : Clauses) (handlers body : List Placed) → r ≡ q + 3 + length (clause_tests em (l + 2) cs) → s ≡ r + length handlers + 1 →
      HandlersMarked g em r (exit_to l ∷ xs) l handlers → Marked g em s (exit_to l ∷ xs) body → RegionMarked g em q xs l true (catch_code em c l (clause_tests em (l + 2) cs) handlers body)
  catch_marked q r s c xs l cs handlers body at_handlers at_body y x =
      let tests = clause_tests em (l + 2) cs in
      let last = quiet (label l) ∷ [] in
      let guarded_part = quiet (label (l + 1)) ∷ (body ++ last) in
      let passing = outward (resume em.object) c ∷ [] in
      let after_tests = outward (resume em.object) c ∷ (handlers ++ guarded_part) in
      let t = q + 1 + 1 in
      let u = t + length tests in
      let v = r + length handlers in
      let z = s + length body in
      let row = test_marks cs in
      let later = x.marks ++ false ∷ [] in
      let middle = y.marks ++ false ∷ later in
      let row_length = test_length (l + 2) cs in
      let lengths = length-append tests after_tests in
      let lengths' = length-append handlers guarded_part in
      let lengths'' = length-append body last in
      let first_place : r ≡ u + 1 = omega (arith, at_handlers) in
      let body_place : s ≡ v + 1 = omega (arith, at_body) in
      let mark_u : (carries : ℕ → Bool) → Ranked carries t (row ++ true ∷ middle) → Ranked carries u (true ∷ middle) = λ carries rk. ranked_back carries t u row (true ∷ middle) (omega (arith, row_length)) rk in
      let mark_r : (carries : ℕ → Bool) → Ranked carries t (row ++ true ∷ middle) → Ranked carries r middle = λ carries rk. ranked_back carries u r (true ∷ []) middle first_place (mark_u carries rk) in
      let mark_v : (carries : ℕ → Bool) → Ranked carries t (row ++ true ∷ middle) → Ranked carries v (false ∷ later) = λ carries rk. ranked_back carries r v y.marks (false ∷ later) (omega (arith, y.same)) (mark_r carries rk) in
      let mark_s : (carries : ℕ → Bool) → Ranked carries t (row ++ true ∷ middle) → Ranked carries s later = λ carries rk. ranked_back carries v s (false ∷ []) later body_place (mark_v carries rk) in
      let mark_z : (carries : ℕ → Bool) → Ranked carries t (row ++ true ∷ middle) → Ranked carries z (false ∷ []) = λ carries rk. ranked_back carries s z x.marks (false ∷ []) (omega (arith, x.same)) (mark_s carries rk) in
      let has_u : HasAt (alone g) 0 t (tests ++ after_tests) → HasAt (alone g) 0 u after_tests = λ has. has_back g t u tests after_tests refl has in
      let has_r : HasAt (alone g) 0 t (tests ++ after_tests) → HasAt (alone g) 0 r (handlers ++ guarded_part) = λ has. has_back g u r passing (handlers ++ guarded_part) first_place (has_u has) in
      let has_v : HasAt (alone g) 0 t (tests ++ after_tests) → HasAt (alone g) 0 v guarded_part = λ has. has_back g r v handlers guarded_part refl (has_r has) in
      let has_s : HasAt (alone g) 0 t (tests ++ after_tests) → HasAt (alone g) 0 s (body ++ last) = λ has. has_back g v s (quiet (label (l + 1)) ∷ []) (body ++ last) body_place (has_v has) in
      let has_z : HasAt (alone g) 0 t (tests ++ after_tests) → HasAt (alone g) 0 z last = λ has. has_back g s z body last refl (has_s has) in
      record {
        all = record {
          marks = false ∷ false ∷ (row ++ true ∷ middle);
          same = omega (arith, row_length, length-append row (true ∷ middle), length-append y.marks (false ∷ later), length-append x.marks (false ∷ []), x.same, y.same, lengths, lengths', lengths'');
          start = λ carries end rk same free. rk.0;
          right = λ carries end has rk same free outer.
              let tests_there = has.3.3 in
              let marks_there = rk.1.1 in
              let at_label = (mark_v carries marks_there).0 in
              let at_end = (mark_z carries marks_there).0 in
              let jumped = ap carries (has_v tests_there).2 ∙ at_label in
              let own = ap carries (has_z tests_there).2 ∙ at_end in
              let inside = exits_inside g em carries l xs own outer in
              let body_marks = ranked_front carries s x.marks (false ∷ []) (mark_s carries marks_there) in
              let next_label = free_at g em carries (v + 1) s (omega (arith, body_place)) (x.start carries z body_marks refl at_end) in
              let after = free_at g em carries (z + 1) end (omega (arith, same, at_handlers, at_body, lengths, lengths', lengths'')) free in (
                jump_free g em carries q (l + 1) rk.0 jumped,
                (
                  pad_right carries (q + 1) rk.1.0,
                  both_marked g em carries t u tests after_tests refl (tests_right carries cs (l + 2) t (ranked_front carries t row (true ∷ middle) marks_there)) (
                    resume_right carries u c (mark_u carries marks_there).0,
                    both_marked g em carries (u + 1) r [] (handlers ++ guarded_part) (omega (arith, first_place)) tt
                        (both_marked g em carries r v handlers guarded_part refl
                        (y.right carries (has_front g r handlers guarded_part (has_r tests_there)) (ranked_front carries r y.marks (false ∷ later) (mark_r carries marks_there)) own inside) (
                          label_right g em v xs (l + 1) carries at_label next_label outer,
                          both_marked g em carries (v + 1) s [] (body ++ last) (omega (arith, body_place)) tt
                              (both_marked g em carries s z body last refl (x.right carries z (has_front g s body last (has_s tests_there)) body_marks refl at_end inside)
                              (label_right g em z xs l carries at_end after outer, tt)),
                        )),
                  ),
                ),
              );
        };
        label = λ yes carries has rk. ap carries (has_z has.3.3).2 ∙ (mark_z carries rk.1.1).0;
      }

  pub limit_marked : (q : ℕ) (c : Cover) (xs : List Exit) (l : ℕ) (m : ℤ) (body : List Placed) → Marked g em (q + 1 + 1 + 1 + 1 + 1 + 1 + 1) (exit_to l ∷ xs) body →
      RegionMarked g em q xs l true (limit_code em m c l body)
  limit_marked q c xs l m body x =
      let last = quiet (label l) ∷ [] in
      let s = q + 1 + 1 + 1 + 1 + 1 + 1 + 1 in
      let z = s + length body in
      let lengths = length-append body last in
      let ending : (carries : ℕ → Bool) → Ranked carries s (x.marks ++ false ∷ []) → Ranked carries z (false ∷ []) = λ carries rk. ranked_back carries s z x.marks (false ∷ []) (omega (arith, x.same)) rk in
      let stands : HasAt (alone g) 0 s (body ++ last) → HasAt (alone g) 0 z last = λ has. has_back g s z body last refl has in
      record {
        all = record {
          marks = false ∷ false ∷ true ∷ true ∷ true ∷ true ∷ false ∷ (x.marks ++ false ∷ []);
          same = omega (arith, length-append x.marks (false ∷ []), x.same, lengths);
          start = λ carries end rk same free. rk.0;
          right = λ carries end has rk same free outer.
              let r2 = rk.1.1 in
              let r4 = r2.1.1 in
              let r6 = r4.1.1 in
              let in_body = has.3.3.3.3.3.3.3 in
              let at_end = (ending carries r6.1).0 in
              let jumped = ap carries has.3.3.3.3.3.3.2 ∙ r6.0 in
              let own = ap carries (stands in_body).2 ∙ at_end in
              let body_marks = ranked_front carries s x.marks (false ∷ []) r6.1 in
              let next = x.start carries z body_marks refl at_end in
              let after = free_at g em carries (z + 1) end (omega (arith, same, lengths)) free in (
                jump_free g em carries q (l + 1) rk.0 jumped,
                (
                  pad_right carries (q + 1) rk.1.0,
                  (
                    filter_right carries (q + 1 + 1) m (l + 2) r2.0,
                    (
                      resume_right carries (q + 1 + 1 + 1) c r2.1.0,
                      (
                        record { form = λ yes. tt; ends = tt; next = λ yes. r4.0; jump = tt },
                        (
                          record { form = λ yes. (refl, refl); ends = (r4.1.0, refl, refl); next = tt; jump = tt },
                          (
                            label_right g em (q + 1 + 1 + 1 + 1 + 1 + 1) xs (l + 1) carries r6.0 next outer,
                            both_marked g em carries s z body last refl (x.right carries z (has_front g s body last in_body) body_marks refl at_end (exits_inside g em carries l xs own outer))
                                (label_right g em z xs l carries at_end after outer, tt),
                          ),
                        ),
                      ),
                    ),
                  ),
                ),
              );
        };
        label = λ yes carries has rk. ap carries (stands has.3.3.3.3.3.3.3).2 ∙ (ending carries rk.1.1.1.1.1.1.1).0;
      }
