-- Tests, loops and handlers have no places that are marked but those of their parts.
use Rattle.std.proofs.Common.{◌≡◌, ℕ, ◌+◌, Bool, true, false, List, [], ◌∷◌, ◌++◌, length, length-append, refl, ap, ◌∙◌, arith}
use Rattle.region_forms.specs.Form.{Value, through, bind}
use Rattle.linear_forms.specs.Linear.{FunctionCode, label, jump, jump_zero}
use Rattle.linear_forms.specs.Sites.{Placed}
use Rattle.linear_forms.specs.CodeRuns.{HasAt}
use Rattle.linear_forms.specs.Exits.{Exit, exit_to}
use Rattle.linear_forms.specs.Emission.{Emitting, quiet, branch_code, loop_code, handler_code}
use Rattle.cost_paths.specs.Control.{place_of}
use Rattle.cost_paths.proofs.Ranks.{alone, has_front, has_back, Ranked, ranked_front, ranked_back}
use Rattle.exceptions_in_flight.proofs.Marks.{unmarked, IsMarked, AllMarked, both_marked, ExitsFree, exits_inside, free_at}
use Rattle.exceptions_in_flight.proofs.Parts.{Marked, RegionMarked, label_right, plain_right}

module _ (g : FunctionCode) (em : Emitting) where
  -- a jump between two places that are not marked
  pub jump_free : (carries : ℕ → Bool) (p l : ℕ) → carries p ≡ false → carries (place_of g l) ≡ false → IsMarked g em carries p (quiet (jump l))
  jump_free carries p l here there =
      record { form = λ yes. unmarked (carries p) here yes; ends = tt; next = tt; jump = λ yes. unmarked (carries (place_of g l)) there yes }

  zero_free : (carries : ℕ → Bool) (p : ℕ) (v : Value) (l : ℕ) → carries p ≡ false → carries (p + 1) ≡ false → carries (place_of g l) ≡ false → IsMarked g em carries p (quiet (jump_zero v l))
  zero_free carries p v l here next there = record {
    form = λ yes. unmarked (carries p) here yes;
    ends = tt;
    next = λ yes. unmarked (carries (p + 1)) next yes;
    jump = λ yes. unmarked (carries (place_of g l)) there yes;
  }

  pub branch_marked : (q r : ℕ) (xs : List Exit) (l : ℕ) (v : Value) (first second : List Placed) → r ≡ q + 1 + length first + 2 → Marked g em (q + 1) (exit_to l ∷ xs) first →
      Marked g em r (exit_to l ∷ xs) second → RegionMarked g em q xs l true (branch_code v l first second)
  branch_marked q r xs l v first second place x y =
      let last = quiet (label l) ∷ [] in
      let tail = quiet (jump l) ∷ quiet (label (l + 1)) ∷ (second ++ last) in
      let j = q + 1 + length first in
      let z = r + length second in
      let later = false ∷ false ∷ (y.marks ++ false ∷ []) in
      let lengths = length-append first tail in
      let lengths' = length-append second last in
      let second_place : r ≡ j + 1 + 1 = omega (arith, place) in
      let behind : (carries : ℕ → Bool) → Ranked carries (q + 1) (x.marks ++ later) → Ranked carries j later = λ carries rk. ranked_back carries (q + 1) j x.marks later (omega (arith, x.same)) rk in
      let middle : (carries : ℕ → Bool) → Ranked carries (q + 1) (x.marks ++ later) → Ranked carries r (y.marks ++ false ∷ []) =
      λ carries rk. ranked_back carries j r (false ∷ false ∷ []) (y.marks ++ false ∷ []) (omega (arith, second_place)) (behind carries rk) in
      let ending : (carries : ℕ → Bool) → Ranked carries (q + 1) (x.marks ++ later) → Ranked carries z (false ∷ []) = λ carries rk. ranked_back carries r z y.marks (false ∷ []) (omega (arith, y.same)) (middle carries rk) in
      let stands : HasAt (alone g) 0 (q + 1) (first ++ tail) → HasAt (alone g) 0 j tail = λ has. has_back g (q + 1) j first tail refl has in
      let stands' : HasAt (alone g) 0 (q + 1) (first ++ tail) → HasAt (alone g) 0 r (second ++ last) =
      λ has. has_back g j r (quiet (jump l) ∷ quiet (label (l + 1)) ∷ []) (second ++ last) (omega (arith, second_place)) (stands has) in
      let stands'' : HasAt (alone g) 0 (q + 1) (first ++ tail) → HasAt (alone g) 0 z last = λ has. has_back g r z second last refl (stands' has) in
      record {
        all = record {
          marks = false ∷ (x.marks ++ later);
          same = omega (arith, length-append x.marks later, length-append y.marks (false ∷ []), x.same, y.same, lengths, lengths');
          start = λ carries end rk same free. rk.0;
          right = λ carries end has rk same free exits.
              let at_jump = (behind carries rk.1).0 in
              let at_label = (behind carries rk.1).1.0 in
              let at_end = (ending carries rk.1).0 in
              let other = ap carries (stands has.3).3.2 ∙ at_label in
              let own = ap carries (stands'' has.3).2 ∙ at_end in
              let inside = exits_inside g em carries l xs own exits in
              let second_marks = ranked_front carries r y.marks (false ∷ []) (middle carries rk.1) in
              let first_marks = ranked_front carries (q + 1) x.marks later rk.1 in
              let next_label = free_at g em carries (j + 1 + 1) r (omega (arith, second_place)) (y.start carries z second_marks refl at_end) in
              let after = free_at g em carries (z + 1) end (omega (arith, same, place, lengths, lengths')) free in (
                zero_free carries q v (l + 1) rk.0 (x.start carries j first_marks refl at_jump) other,
                both_marked g em carries (q + 1) j first tail refl (x.right carries j (has_front g (q + 1) first tail has.3) first_marks refl at_jump inside) (
                  jump_free carries j l at_jump own,
                  (
                    label_right g em (j + 1) xs (l + 1) carries at_label next_label exits,
                    both_marked g em carries (j + 1 + 1) r [] (second ++ last) (omega (arith, second_place)) tt
                        (both_marked g em carries r z second last refl (y.right carries z (has_front g r second last (stands' has.3)) second_marks refl at_end inside)
                        (label_right g em z xs l carries at_end after exits, tt)),
                  ),
                ),
              );
        };
        label = λ yes carries has rk. ap carries (stands'' has.3).2 ∙ (ending carries rk.1).0;
      }

  pub loop_marked : (q : ℕ) (xs : List Exit) (l : ℕ) (v : Value) (body : List Placed) → Marked g em (q + 1 + 1) (exit_to l ∷ xs) body → RegionMarked g em q xs l true (loop_code v l body)
  loop_marked q xs l v body x =
      let last = quiet (label l) ∷ [] in
      let tail = quiet (jump (l + 1)) ∷ last in
      let j = q + 1 + 1 + length body in
      let later = false ∷ false ∷ [] in
      let lengths = length-append body tail in
      let behind : (carries : ℕ → Bool) → Ranked carries (q + 1 + 1) (x.marks ++ later) → Ranked carries j later = λ carries rk. ranked_back carries (q + 1 + 1) j x.marks later (omega (arith, x.same)) rk in
      let stands : HasAt (alone g) 0 (q + 1 + 1) (body ++ tail) → HasAt (alone g) 0 j tail = λ has. has_back g (q + 1 + 1) j body tail refl has in
      record {
        all = record {
          marks = false ∷ false ∷ (x.marks ++ later);
          same = omega (arith, length-append x.marks later, x.same, lengths);
          start = λ carries end rk same free. rk.0;
          right = λ carries end has rk same free exits.
              let at_jump = (behind carries rk.1.1).0 in
              let at_end = (behind carries rk.1.1).1.0 in
              let own = ap carries (stands has.3.3).3.2 ∙ at_end in
              let back = ap carries has.2 ∙ rk.0 in
              let marks = ranked_front carries (q + 1 + 1) x.marks later rk.1.1 in
              let after = free_at g em carries (j + 1 + 1) end (omega (arith, same, lengths)) free in (
                label_right g em q xs (l + 1) carries rk.0 rk.1.0 exits,
                (
                  zero_free carries (q + 1) v l rk.1.0 (x.start carries j marks refl at_jump) own,
                  both_marked g em carries (q + 1 + 1) j body tail refl
                      (x.right carries j (has_front g (q + 1 + 1) body tail has.3.3) marks refl at_jump (exits_inside g em carries l xs own exits))
                      (jump_free carries j (l + 1) at_jump back, (label_right g em (j + 1) xs l carries at_end after exits, tt)),
                ),
              );
        };
        label = λ yes carries has rk. ap carries (stands has.3.3).3.2 ∙ (behind carries rk.1.1).1.0;
      }

  -- handlers from place q on, which jump to the end
  pub record HandlersMarked (q : ℕ) (xs : List Exit) (last : ℕ) (is : List Placed) : Type 0 where
    pub marks : List Bool
    pub same : length marks ≡ length is
    pub right : (carries : ℕ → Bool) → HasAt (alone g) 0 q is → Ranked carries q marks → carries (place_of g last) ≡ false → ExitsFree g em carries xs → AllMarked g em carries q is

  pub no_handlers : (q : ℕ) (xs : List Exit) (last : ℕ) → HandlersMarked q xs last []
  no_handlers q xs last = record { marks = []; same = refl; right = λ carries has rk end exits. tt }

  pub one_handler : (q r : ℕ) (xs : List Exit) (last first x : ℕ) (body rest : List Placed) → r ≡ q + length body + 3 → Marked g em (q + 1 + 1) xs body → HandlersMarked r xs last rest →
      HandlersMarked q xs last (handler_code em x last first body rest)
  one_handler q r xs last first x body rest place a others =
      let tail = quiet (jump last) ∷ rest in
      let j = q + 1 + 1 + length body in
      let lengths = length-append body tail in
      let later = false ∷ others.marks in
      let next_place : r ≡ j + 1 = omega (arith, place) in
      record {
        marks = false ∷ false ∷ (a.marks ++ later);
        same = omega (arith, length-append a.marks later, a.same, others.same, lengths);
        right = λ carries has rk end exits.
            let after = ranked_back carries (q + 1 + 1) j a.marks later (omega (arith, a.same)) rk.1.1 in
            let stands = has_back g (q + 1 + 1) j body tail refl has.3.3 in
            let marks = ranked_front carries (q + 1 + 1) a.marks later rk.1.1 in
            let next = a.start carries j marks refl after.0 in (
              label_right g em q xs first carries rk.0 rk.1.0 exits,
              (
                plain_right g em (q + 1) xs (bind x (record { root = through em.object; offset = 0 })) carries rk.1.0 next exits,
                both_marked g em carries (q + 1 + 1) j body tail refl (a.right carries j (has_front g (q + 1 + 1) body tail has.3.3) marks refl after.0 exits) (
                  jump_free carries j last after.0 end,
                  both_marked g em carries (j + 1) r [] rest (omega (arith, next_place)) tt
                      (others.right carries (has_back g j r (quiet (jump last) ∷ []) rest next_place stands) (ranked_back carries j r (false ∷ []) others.marks next_place after) end exits),
                ),
              ),
            );
      }
