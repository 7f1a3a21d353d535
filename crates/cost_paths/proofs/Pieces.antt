-- Code whose ranks can be given, from any rank on, and how it is put together. What is written in order has its ranks in order.
use Rattle.std.proofs.Common.{◌≡◌, ℕ, ◌+◌, ◌≤◌, Bool, true, false, List, [], ◌∷◌, ◌++◌, length, length-append, Option, Some, None, inl, refl, ap, arith}
use Rattle.std.specs.Prelude.{if◌then◌else◌}
use Rattle.region_forms.specs.Form.{Op}
use Rattle.linear_forms.specs.Linear.{FunctionCode, LinearOp, plain, label, jump}
use Rattle.linear_forms.specs.Tables.{Cover}
use Rattle.linear_forms.specs.Sites.{Placed}
use Rattle.linear_forms.specs.CodeRuns.{HasAt}
use Rattle.linear_forms.specs.Exits.{Exit, exit_to, first_label, crosses, name_of}
use Rattle.linear_forms.specs.Emission.{Emitting, quiet, put, set_way, leave_code, way_test, way_tests, no_way_out, exit_code}
use Rattle.cost_paths.specs.Control.{place_of}
use Rattle.cost_paths.proofs.Ranks.{weight, alone, weight_both, has_front, has_back, Ranked, ranked_front, ranked_back, at_place, CoverAbove, Rises, AllRise, both_rise, Around, lower_cover, lower_exits, exits_inside, label_rises, put_rises}

module _ (g : FunctionCode) (weigh : LinearOp → ℕ) (top : ℕ) (light : (l : ℕ) → weigh (label l) ≡ 0) where
  -- Code from place q on has ranks from b on, which rise wherever what is around it has ranks that are higher by its weight.
  pub record Ordered (q b : ℕ) (c : Cover) (xs : List Exit) (is : List Placed) : Type 0 where
    pub ranks : List ℕ
    pub same : length ranks ≡ length is
    pub start : (rank : ℕ → ℕ) (end e : ℕ) → Ranked rank q ranks → end ≡ q + length is → b + weight weigh is ≤ e → e ≤ rank end → b ≤ rank q
    pub rise : (rank : ℕ → ℕ) (end e : ℕ) → HasAt (alone g) 0 q is → Ranked rank q ranks → end ≡ q + length is → b + weight weigh is ≤ e → Around g weigh top rank e end c xs →
        AllRise g weigh top rank q is

  pub nothing_ordered : (q b : ℕ) (c : Cover) (xs : List Exit) → Ordered q b c xs []
  nothing_ordered q b c xs = record {
    ranks = [];
    same = refl;
    start = λ rank end e rk same le above. at_place rank q end b (omega (arith, same)) (omega (arith, le, above));
    rise = λ rank end e has rk same le around. tt;
  }

  -- an operation rises wherever the next place and what is around are high enough
  abbrev pub OneRises : ℕ → ℕ → Cover → List Exit → Placed → Type 0
  OneRises q b c xs x =
      (rank : ℕ → ℕ) (end e : ℕ) → rank q ≡ b → b + weigh x.op ≤ rank (q + 1) → b + weigh x.op ≤ e → Around g weigh top rank e end c xs → Rises g weigh top rank q x

  -- an operation in front of others
  pub one_first : (q b : ℕ) (c : Cover) (xs : List Exit) (x : Placed) (is : List Placed) → OneRises q b c xs x → Ordered (q + 1) (b + weigh x.op) c xs is → Ordered q b c xs (x ∷ is)
  one_first q b c xs x is one rest = record {
    ranks = b ∷ rest.ranks;
    same = omega (arith, rest.same);
    start = λ rank end e rk same le above. omega (arith, rk.0);
    rise = λ rank end e has rk same le around. (
      one rank end e rk.0 (rest.start rank end e rk.1 (omega (arith, same)) (omega (arith, le)) around.behind) (omega (arith, le)) around,
      rest.rise rank end e has.3 rk.1 (omega (arith, same)) (omega (arith, le)) around,
    );
  }

  -- code in front of other code
  pub both_ordered : (q r b d : ℕ) (c : Cover) (xs : List Exit) (is js : List Placed) → r ≡ q + length is → d ≡ b + weight weigh is → Ordered q b c xs is → Ordered r d c xs js →
      Ordered q b c xs (is ++ js)
  both_ordered q r b d c xs is js place base first rest =
      let lengths = length-append is js in
      let weights = weight_both weigh is js in
      record {
        ranks = first.ranks ++ rest.ranks;
        same = omega (arith, length-append first.ranks rest.ranks, lengths, first.same, rest.same);
        start = λ rank end e rk same le above.
            let later = rest.start rank end e (ranked_back rank q r first.ranks rest.ranks (omega (arith, place, first.same)) rk) (omega (arith, same, place, lengths)) (omega (arith, le, base, weights)) above in
            first.start rank r d (ranked_front rank q first.ranks rest.ranks rk) place (omega (arith, base)) later;
        rise = λ rank end e has rk same le around.
            let behind = ranked_back rank q r first.ranks rest.ranks (omega (arith, place, first.same)) rk in
            let ends : end ≡ r + length js = omega (arith, same, place, lengths) in
            let room : d + weight weigh js ≤ e = omega (arith, le, base, weights) in
            let later = rest.start rank end e behind ends room around.behind in
            let lower : d ≤ e = omega (arith, room) in
            both_rise g weigh top rank q r is js place
            (first.rise rank r d (has_front g q is js has) (ranked_front rank q first.ranks rest.ranks rk) place (omega (arith, base))
            (record { behind = later; exits = lower_exits g weigh top rank d e xs lower around.exits; cover = lower_cover g weigh top rank d e c lower around.cover; inside = omega (arith, lower, around.inside) }))
            (rest.rise rank end e (has_back g q r is js place has) behind ends room around);
      }

  -- pieces of one operation

  pub label_first : (q b : ℕ) (c : Cover) (xs : List Exit) (l : ℕ) → OneRises q b c xs (quiet (label l))
  label_first q b c xs l rank end e at next le around =
      label_rises g weigh top rank q l (light l) (omega (arith, at, next, light l)) (omega (arith, at, le, around.inside))

  pub put_first : (q b : ℕ) (c : Cover) (xs : List Exit) (o : Op) → OneRises q b c xs (put o c)
  put_first q b c xs o rank end e at next le around =
      put_rises g weigh top rank q (b + weigh (plain o)) o c (omega (arith, at)) next
      (lower_cover g weigh top rank (b + weigh (plain o)) e c le around.cover) (omega (arith, le, around.inside))

  pub plain_first : (q b : ℕ) (c : Cover) (xs : List Exit) (o : Op) → OneRises q b c xs (quiet (plain o))
  plain_first q b c xs o rank end e at next le around =
      record { next = omega (arith, at, next); jump = tt; pad = tt; inside = omega (arith, at, le, around.inside) }

  exit_first : (q b : ℕ) (c : Cover) (xs : List Exit) (n : ℕ) → OneRises q b c xs (quiet (jump (first_label n xs)))
  exit_first q b c xs n rank end e at next le around =
      let above = around.exits n in
      record { next = tt; jump = inl (omega (arith, at, le, above)); pad = tt; inside = omega (arith, at, le, around.inside) }

  test_first : (em : Emitting) (q b : ℕ) (c : Cover) (xs : List Exit) (n : ℕ) → OneRises q b c xs (way_test em xs n)
  test_first em q b c xs n rank end e at next le around =
      let above = around.exits n in
      record { next = omega (arith, at, next); jump = omega (arith, at, le, above); pad = tt; inside = omega (arith, at, le, around.inside) }

  -- exits

  pub leave_ordered : (em : Emitting) (q b : ℕ) (c : Cover) (n : ℕ) (xs : List Exit) → Ordered q b c xs (leave_code em n xs)
  leave_ordered em q b c n xs = go (crosses n xs)
    where
      jumping : (r d : ℕ) → Ordered r d c xs (quiet (jump (first_label n xs)) ∷ [])
      jumping r d = one_first r d c xs (quiet (jump (first_label n xs))) [] (exit_first r d c xs n) (nothing_ordered (r + 1) (d + weigh (jump (first_label n xs))) c xs)

      go : (s : Bool) → Ordered q b c xs (if s then set_way em (name_of n xs) ∷ quiet (jump (first_label n xs)) ∷ [] else quiet (jump (first_label n xs)) ∷ [])
      go true = one_first q b c xs (set_way em (name_of n xs)) _ (plain_first q b c xs _) (jumping (q + 1) (b + weigh (set_way em (name_of n xs)).op))
      go false = jumping q b

  tests_ordered : (em : Emitting) (q b : ℕ) (c : Cover) (xs : List Exit) (outs : List ℕ) → Ordered q b c xs (way_tests em xs outs)
  tests_ordered em q b c xs [] = nothing_ordered q b c xs
  tests_ordered em q b c xs (n ∷ outs) =
      one_first q b c xs (way_test em xs n) (way_tests em xs outs) (test_first em q b c xs n) (tests_ordered em (q + 1) (b + weigh (way_test em xs n).op) c xs outs)

  no_way_ordered : (em : Emitting) (q b : ℕ) (c : Cover) (xs : List Exit) (outs : List ℕ) → Ordered q b c xs (no_way_out em outs)
  no_way_ordered em q b c xs [] = nothing_ordered q b c xs
  no_way_ordered em q b c xs (n ∷ outs) =
      one_first q b c xs (set_way em 0) [] (plain_first q b c xs _) (nothing_ordered (q + 1) (b + weigh (set_way em 0).op) c xs)

  -- the label of a cleanup at normal exits has so high a rank
  abbrev pub CleanupAbove : (ℕ → ℕ) → ℕ → ℕ → Option Op → Type 0
  CleanupAbove rank b l None = Unit {0}
  CleanupAbove rank b l (Some o) = b ≤ rank (place_of g (l + 2))

  -- the cleanup of normal exits, with its label
  pub record ExitsOrdered (q b : ℕ) (c : Cover) (xs : List Exit) (l : ℕ) (o : Option Op) (is : List Placed) : Type 0 where
    pub all : Ordered q b c xs is
    pub label : (rank : ℕ → ℕ) (end e : ℕ) → HasAt (alone g) 0 q is → Ranked rank q all.ranks → end ≡ q + length is → b + weight weigh is ≤ e → e ≤ rank end → CleanupAbove rank b l o

  pub exits_ordered : (em : Emitting) (q b : ℕ) (c : Cover) (xs : List Exit) (l : ℕ) (outs : List ℕ) (o : Option Op) → ExitsOrdered q b c xs l o (exit_code em o c xs l outs)
  unfolding no_way_ordered both_ordered one_first
  exits_ordered em q b c xs l outs None = record { all = nothing_ordered q b c xs; label = λ rank end e has rk same le above. tt }
  exits_ordered em q b c xs l outs (Some o) =
      let front = no_way_out em outs in
      let tests = way_tests em xs outs in
      let rest = quiet (label (l + 2)) ∷ put o c ∷ tests in
      let r = q + length front in
      let d = b + weight weigh front in
      let last = tests_ordered em (r + 1 + 1) (d + weigh (label (l + 2)) + weigh (plain o)) c xs outs in
      let cleaning = one_first (r + 1) (d + weigh (label (l + 2))) c xs (put o c) tests (put_first (r + 1) (d + weigh (label (l + 2))) c xs o) last in
      let labelled = one_first r d c xs (quiet (label (l + 2))) (put o c ∷ tests) (label_first r d c xs (l + 2)) cleaning in
      let first = no_way_ordered em q b c xs outs in
      record {
        all = both_ordered q r b d c xs front rest refl refl first labelled;
        label = λ rank end e has rk same le above.
            let behind = ranked_back rank q r first.ranks labelled.ranks (omega (arith, first.same)) rk in
            let place = (has_back g q r front rest refl has).2 in
            let same_rank = ap rank place in
            omega (arith, same_rank, behind.0);
      }

  -- the exits of what has a cleanup
  pub record RegionOrdered (q b : ℕ) (c : Cover) (xs : List Exit) (l : ℕ) (own : Bool) (is : List Placed) : Type 0 where
    pub all : Ordered q b c xs is
    pub label : own ≡ true → (rank : ℕ → ℕ) → HasAt (alone g) 0 q is → Ranked rank q all.ranks → b + weight weigh is ≤ rank (place_of g l)

  -- code with the label of a region's end behind it, by way of which some of its exits go
  pub ended : (q b : ℕ) (c inside : Cover) (xs : List Exit) (l : ℕ) (is : List Placed) →
      ((rank : ℕ → ℕ) (d e : ℕ) → d ≤ e → (end : ℕ) → Around g weigh top rank e end c xs → CoverAbove g weigh top rank d inside) →
      Ordered q b inside (exit_to l ∷ xs) is → RegionOrdered q b c xs l true (is ++ quiet (label l) ∷ [])
  ended q b c inside xs l is covered body =
      let last = quiet (label l) ∷ [] in
      let r = q + length is in
      let d = b + weight weigh is in
      let lengths = length-append is last in
      let weights = weight_both weigh is last in
      let back : (rank : ℕ → ℕ) → Ranked rank q (body.ranks ++ d ∷ []) → Ranked rank r (d ∷ []) = λ rank rk. ranked_back rank q r body.ranks (d ∷ []) (omega (arith, body.same)) rk in
      record {
        all = record {
          ranks = body.ranks ++ d ∷ [];
          same = omega (arith, length-append body.ranks (d ∷ []), lengths, body.same);
          start = λ rank end e rk same le above.
              let here = (back rank rk).0 in
              body.start rank r d (ranked_front rank q body.ranks (d ∷ []) rk) refl (omega arith) (omega (arith, here));
          rise = λ rank end e has rk same le around.
              let here = (back rank rk).0 in
              let stands = has_back g q r is last refl has in
              let own = ap rank stands.2 in
              let lower : d ≤ e = omega (arith, le, weights) in
              let next : e ≤ rank (r + 1) = at_place rank (r + 1) end e (omega (arith, same, lengths)) around.behind in
              both_rise g weigh top rank q r is last refl
              (body.rise rank r d (has_front g q is last has) (ranked_front rank q body.ranks (d ∷ []) rk) refl (omega arith)
              (record {
                behind = omega (arith, here);
                exits = exits_inside g weigh top rank d l xs (omega (arith, own, here)) (lower_exits g weigh top rank d e xs lower around.exits);
                cover = covered rank d e lower end around;
                inside = omega (arith, lower, around.inside);
              }))
              (label_rises g weigh top rank r l (light l) (omega (arith, here, lower, next)) (omega (arith, here, lower, around.inside)), tt);
        };
        label = λ yes rank has rk.
            let here = (back rank rk).0 in
            let own = ap rank (has_back g q r is last refl has).2 in
            omega (arith, own, here, weights, light l);
      }
