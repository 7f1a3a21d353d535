-- Code whose places can be marked, and how it is put together. What is not marked begins and ends each part.
use Rattle.std.proofs.Common.{◌≡◌, ℕ, ◌+◌, Bool, true, false, List, [], ◌∷◌, ◌++◌, length, length-append, Option, Some, None, refl, ap, ◌∙◌, arith}
use Rattle.std.specs.Prelude.{if◌then◌else◌}
use Rattle.region_forms.specs.Form.{Op}
use Rattle.linear_forms.specs.Linear.{FunctionCode, plain, label, jump}
use Rattle.linear_forms.specs.Sites.{Placed}
use Rattle.linear_forms.specs.Tables.{Cover}
use Rattle.linear_forms.specs.CodeRuns.{HasAt}
use Rattle.linear_forms.specs.Exits.{Exit, exit_to, first_label, crosses, name_of}
use Rattle.linear_forms.specs.Emission.{Emitting, quiet, put, set_way, leave_code, way_test, way_tests, no_way_out, exit_code}
use Rattle.cost_paths.specs.Control.{place_of}
use Rattle.cost_paths.proofs.Ranks.{alone, has_front, has_back, Ranked, ranked_front, ranked_back}
use Rattle.exceptions_in_flight.proofs.Marks.{unmarked, IsMarked, AllMarked, both_marked, ExitsFree, exits_inside, free_at}

module _ (g : FunctionCode) (em : Emitting) where
  -- Code from place q on has marks, of which each is right wherever the place behind and the labels of exits are not marked.
  pub record Marked (q : ℕ) (xs : List Exit) (is : List Placed) : Type 0 where
    pub marks : List Bool
    pub same : length marks ≡ length is
    pub start : (carries : ℕ → Bool) (end : ℕ) → Ranked carries q marks → end ≡ q + length is → carries end ≡ false → carries q ≡ false
    pub right : (carries : ℕ → Bool) (end : ℕ) → HasAt (alone g) 0 q is → Ranked carries q marks → end ≡ q + length is → carries end ≡ false → ExitsFree g em carries xs → AllMarked g em carries q is

  pub nothing_marked : (q : ℕ) (xs : List Exit) → Marked q xs []
  nothing_marked q xs = record {
    marks = [];
    same = refl;
    start = λ carries end rk same free. free_at g em carries q end (omega (arith, same)) free;
    right = λ carries end has rk same free exits. tt;
  }

  -- an operation whose place is not marked
  abbrev pub OneRight : ℕ → List Exit → Placed → Type 0
  OneRight q xs x = (carries : ℕ → Bool) → carries q ≡ false → carries (q + 1) ≡ false → ExitsFree g em carries xs → IsMarked g em carries q x

  pub one_first : (q : ℕ) (xs : List Exit) (x : Placed) (is : List Placed) → OneRight q xs x → Marked (q + 1) xs is → Marked q xs (x ∷ is)
  one_first q xs x is one rest = record {
    marks = false ∷ rest.marks;
    same = omega (arith, rest.same);
    start = λ carries end rk same free. rk.0;
    right = λ carries end has rk same free exits. (
      one carries rk.0 (rest.start carries end rk.1 (omega (arith, same)) free) exits,
      rest.right carries end has.3 rk.1 (omega (arith, same)) free exits,
    );
  }

  pub both_parts : (q r : ℕ) (xs : List Exit) (is js : List Placed) → r ≡ q + length is → Marked q xs is → Marked r xs js → Marked q xs (is ++ js)
  both_parts q r xs is js place first rest =
      let lengths = length-append is js in
      record {
        marks = first.marks ++ rest.marks;
        same = omega (arith, length-append first.marks rest.marks, lengths, first.same, rest.same);
        start = λ carries end rk same free.
            let later = rest.start carries end (ranked_back carries q r first.marks rest.marks (omega (arith, place, first.same)) rk) (omega (arith, same, place, lengths)) free in
            first.start carries r (ranked_front carries q first.marks rest.marks rk) place later;
        right = λ carries end has rk same free exits.
            let behind = ranked_back carries q r first.marks rest.marks (omega (arith, place, first.same)) rk in
            let ends : end ≡ r + length js = omega (arith, same, place, lengths) in
            both_marked g em carries q r is js place
            (first.right carries r (has_front g q is js has) (ranked_front carries q first.marks rest.marks rk) place (rest.start carries end behind ends free) exits)
            (rest.right carries end (has_back g q r is js place has) behind ends free exits);
      }

  -- operations of one kind

  pub label_right : (q : ℕ) (xs : List Exit) (l : ℕ) → OneRight q xs (quiet (label l))
  label_right q xs l carries here next exits =
      record { form = λ yes. unmarked (carries q) here yes; ends = tt; next = λ yes. unmarked (carries (q + 1)) next yes; jump = tt }

  pub plain_right : (q : ℕ) (xs : List Exit) (o : Op) → OneRight q xs (quiet (plain o))
  plain_right q xs o carries here next exits =
      record { form = λ yes. unmarked (carries q) here yes; ends = tt; next = λ yes. unmarked (carries (q + 1)) next yes; jump = tt }

  pub put_right : (q : ℕ) (xs : List Exit) (o : Op) (c : Cover) → OneRight q xs (put o c)
  put_right q xs o c carries here next exits =
      record { form = λ yes. unmarked (carries q) here yes; ends = tt; next = λ yes. unmarked (carries (q + 1)) next yes; jump = tt }

  pub exit_right : (q : ℕ) (xs : List Exit) (n : ℕ) → OneRight q xs (quiet (jump (first_label n xs)))
  exit_right q xs n carries here next exits =
      record { form = λ yes. unmarked (carries q) here yes; ends = tt; next = tt; jump = λ yes. unmarked (carries (place_of g (first_label n xs))) (exits n) yes }

  pub test_right : (q : ℕ) (xs : List Exit) (n : ℕ) → OneRight q xs (way_test em xs n)
  test_right q xs n carries here next exits = record {
    form = λ yes. unmarked (carries q) here yes;
    ends = tt;
    next = λ yes. unmarked (carries (q + 1)) next yes;
    jump = λ yes. unmarked (carries (place_of g (first_label n xs))) (exits n) yes;
  }

  -- exits

  pub leave_marked : (q n : ℕ) (xs : List Exit) → Marked q xs (leave_code em n xs)
  leave_marked q n xs = go (crosses n xs)
    where
      jumping : (r : ℕ) → Marked r xs (quiet (jump (first_label n xs)) ∷ [])
      jumping r = one_first r xs (quiet (jump (first_label n xs))) [] (exit_right r xs n) (nothing_marked (r + 1) xs)

      go : (s : Bool) → Marked q xs (if s then set_way em (name_of n xs) ∷ quiet (jump (first_label n xs)) ∷ [] else quiet (jump (first_label n xs)) ∷ [])
      go true = one_first q xs (set_way em (name_of n xs)) _ (plain_right q xs _) (jumping (q + 1))
      go false = jumping q

  tests_marked : (q : ℕ) (xs : List Exit) (outs : List ℕ) → Marked q xs (way_tests em xs outs)
  tests_marked q xs [] = nothing_marked q xs
  tests_marked q xs (n ∷ outs) = one_first q xs (way_test em xs n) (way_tests em xs outs) (test_right q xs n) (tests_marked (q + 1) xs outs)

  no_way_marked : (q : ℕ) (xs : List Exit) (outs : List ℕ) → Marked q xs (no_way_out em outs)
  no_way_marked q xs [] = nothing_marked q xs
  no_way_marked q xs (n ∷ outs) = one_first q xs (set_way em 0) [] (plain_right q xs _) (nothing_marked (q + 1) xs)

  -- the label of a cleanup at normal exits is not marked
  abbrev pub CleanupFree : (ℕ → Bool) → ℕ → Option Op → Type 0
  CleanupFree carries l None = Unit {0}
  CleanupFree carries l (Some o) = carries (place_of g (l + 2)) ≡ false

  pub record ExitsMarked (q : ℕ) (xs : List Exit) (l : ℕ) (o : Option Op) (is : List Placed) : Type 0 where
    pub all : Marked q xs is
    pub label : (carries : ℕ → Bool) → HasAt (alone g) 0 q is → Ranked carries q all.marks → CleanupFree carries l o

  pub exits_marked : (q : ℕ) (c : Cover) (xs : List Exit) (l : ℕ) (outs : List ℕ) (o : Option Op) → ExitsMarked q xs l o (exit_code em o c xs l outs)
  unfolding no_way_marked both_parts one_first
  exits_marked q c xs l outs None = record { all = nothing_marked q xs; label = λ carries has rk. tt }
  exits_marked q c xs l outs (Some o) =
      let front = no_way_out em outs in
      let tests = way_tests em xs outs in
      let rest = quiet (label (l + 2)) ∷ put o c ∷ tests in
      let r = q + length front in
      let cleaning = one_first (r + 1) xs (put o c) tests (put_right (r + 1) xs o c) (tests_marked (r + 1 + 1) xs outs) in
      let labelled = one_first r xs (quiet (label (l + 2))) (put o c ∷ tests) (label_right r xs (l + 2)) cleaning in
      let first = no_way_marked q xs outs in
      record {
        all = both_parts q r xs front rest refl first labelled;
        label = λ carries has rk.
            let behind = ranked_back carries q r first.marks labelled.marks (omega (arith, first.same)) rk in
            let place = (has_back g q r front rest refl has).2 in
            ap carries place ∙ behind.0;
      }

  -- a region, with the label of its end
  pub record RegionMarked (q : ℕ) (xs : List Exit) (l : ℕ) (own : Bool) (is : List Placed) : Type 0 where
    pub all : Marked q xs is
    pub label : own ≡ true → (carries : ℕ → Bool) → HasAt (alone g) 0 q is → Ranked carries q all.marks → carries (place_of g l) ≡ false

  pub ended : (q : ℕ) (xs : List Exit) (l : ℕ) (is : List Placed) → Marked q (exit_to l ∷ xs) is → RegionMarked q xs l true (is ++ quiet (label l) ∷ [])
  ended q xs l is body =
      let last = quiet (label l) ∷ [] in
      let r = q + length is in
      let lengths = length-append is last in
      let back : (carries : ℕ → Bool) → Ranked carries q (body.marks ++ false ∷ []) → Ranked carries r (false ∷ []) = λ carries rk. ranked_back carries q r body.marks (false ∷ []) (omega (arith, body.same)) rk in
      record {
        all = record {
          marks = body.marks ++ false ∷ [];
          same = omega (arith, length-append body.marks (false ∷ []), lengths, body.same);
          start = λ carries end rk same free. body.start carries r (ranked_front carries q body.marks (false ∷ []) rk) refl (back carries rk).0;
          right = λ carries end has rk same free exits.
              let here = (back carries rk).0 in
              let own = ap carries (has_back g q r is last refl has).2 ∙ here in
              let next = free_at g em carries (r + 1) end (omega (arith, same, lengths)) free in
              both_marked g em carries q r is last refl
              (body.right carries r (has_front g q is last has) (ranked_front carries q body.marks (false ∷ []) rk) refl here (exits_inside g em carries l xs own exits)) (label_right r xs l carries here next exits, tt);
        };
        label = λ yes carries has rk. ap carries (has_back g q r is last refl has).2 ∙ (back carries rk).0;
      }
