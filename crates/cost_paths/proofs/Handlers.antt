-- The tests of a handler's pad, and handlers.
use Rattle.std.proofs.Common.{◌≡◌, ℕ, ◌+◌, ◌≤◌, List, [], ◌∷◌, ◌++◌, length, length-append, inl, refl, ap, arith}
use Rattle.region_forms.specs.Form.{through, bind, Clauses, no_clauses, clause_then}
use Rattle.linear_forms.specs.Linear.{FunctionCode, LinearOp, plain, label, jump, jump_filter}
use Rattle.linear_forms.specs.Tables.{Cover, clause}
use Rattle.linear_forms.specs.Sites.{Placed}
use Rattle.linear_forms.specs.CodeRuns.{HasAt}
use Rattle.linear_forms.specs.Exits.{Exit}
use Rattle.linear_forms.specs.Emission.{Emitting, quiet, handler_code}
use Rattle.linear_forms.specs.Code.{clause_tests}
use Rattle.cost_paths.specs.Control.{place_of}
use Rattle.cost_paths.proofs.Ranks.{weight, alone, weight_both, has_front, has_back, Ranked, ranked_front, ranked_back, at_place, CoverAbove, AllRise, both_rise, ExitsAbove, lower_cover, lower_exits, label_rises}
use Rattle.cost_paths.proofs.Pieces.{Ordered}

module _ (g : FunctionCode) (weigh : LinearOp → ℕ) (top : ℕ) (light : (l : ℕ) → weigh (label l) ≡ 0) where
  -- ranks from b on, in order
  abbrev pub in_a_row : ℕ → List Placed → List ℕ
  in_a_row b [] = []
  in_a_row b (x ∷ xs) = b ∷ in_a_row (b + weigh x.op) xs

  pub row_same : (b : ℕ) (is : List Placed) → length (in_a_row b is) ≡ length is
  row_same b [] = refl
  row_same b (x ∷ is) = omega (arith, row_same (b + weigh x.op) is)

  pub row_start : (rank : ℕ → ℕ) (q b end : ℕ) (is : List Placed) → Ranked rank q (in_a_row b is) → end ≡ q + length is → b + weight weigh is ≤ rank end → b ≤ rank q
  row_start rank q b end [] rk same above = at_place rank q end b (omega (arith, same)) (omega (arith, above))
  row_start rank q b end (x ∷ is) rk same above = omega (arith, rk.0)

  -- the labels at which handlers begin have so high a rank
  abbrev pub HeadsAbove : (ℕ → ℕ) → ℕ → ℕ → Clauses → Type 0
  HeadsAbove rank e l no_clauses = Unit {0}
  HeadsAbove rank e l (clause_then t s r cs) = (e ≤ rank (place_of g l)) × HeadsAbove rank e (l + 1) cs

  pub lower_heads : (rank : ℕ → ℕ) (d e l : ℕ) (cs : Clauses) → d ≤ e → HeadsAbove rank e l cs → HeadsAbove rank d l cs
  lower_heads rank d e l no_clauses le h = tt
  lower_heads rank d e l (clause_then t s r cs) le h = (omega (arith, le, h.0), lower_heads rank d e (l + 1) cs le h.1)

  pub tests_rise : (em : Emitting) (rank : ℕ → ℕ) (cs : Clauses) (l q b end e : ℕ) → Ranked rank q (in_a_row b (clause_tests em l cs)) → end ≡ q + length (clause_tests em l cs) →
      b + weight weigh (clause_tests em l cs) ≤ e → b + weight weigh (clause_tests em l cs) ≤ rank end → HeadsAbove rank e l cs → e ≤ top → AllRise g weigh top rank q (clause_tests em l cs)
  tests_rise em rank no_clauses l q b end e rk same le above heads inside = tt
  tests_rise em rank (clause_then t s r cs) l q b end e rk same le above heads inside =
      let here = weigh (jump_filter em.selector (em.filter (clause t)) l) in
      let next = row_start rank (q + 1) (b + here) end (clause_tests em (l + 1) cs) rk.1 (omega (arith, same)) (omega (arith, above)) in (
        record { next = omega (arith, rk.0, next); jump = omega (arith, rk.0, le, heads.0); pad = tt; inside = omega (arith, rk.0, le, inside) },
        tests_rise em rank cs (l + 1) (q + 1) (b + here) end e rk.1 (omega (arith, same)) (omega (arith, le)) (omega (arith, above)) heads.1 inside,
      )

  -- handlers from place q on, which begin at labels from `first` on and jump to the end
  pub record HandlersOrdered (q b : ℕ) (c : Cover) (xs : List Exit) (last first : ℕ) (cs : Clauses) (is : List Placed) : Type 0 where
    pub ranks : List ℕ
    pub same : length ranks ≡ length is
    pub heads : (rank : ℕ → ℕ) → HasAt (alone g) 0 q is → Ranked rank q ranks → HeadsAbove rank b first cs
    pub rise : (rank : ℕ → ℕ) (e : ℕ) → HasAt (alone g) 0 q is → Ranked rank q ranks → b + weight weigh is ≤ e → e ≤ rank (place_of g last) → ExitsAbove g weigh top rank e xs →
        CoverAbove g weigh top rank e c → e ≤ top → AllRise g weigh top rank q is

  pub no_handlers : (q b : ℕ) (c : Cover) (xs : List Exit) (last first : ℕ) → HandlersOrdered q b c xs last first no_clauses []
  no_handlers q b c xs last first = record { ranks = []; same = refl; heads = λ rank has rk. tt; rise = λ rank e has rk le end exits cover inside. tt }

  module _ (em : Emitting) (c : Cover) (xs : List Exit) (last : ℕ) where
    pub one_handler : (q r b d : ℕ) (first x : ℕ) (t : _) (s : _) (region : _) (cs : Clauses) (body rest : List Placed) → r ≡ q + length body + 3 →
        d ≡ b + weigh (plain (bind x (record { root = through em.object; offset = 0 }))) + weight weigh body + weigh (jump last) →
        Ordered g weigh top light (q + 1 + 1) (b + weigh (plain (bind x (record { root = through em.object; offset = 0 })))) c xs body →
        HandlersOrdered r d c xs last (first + 1) cs rest → HandlersOrdered q b c xs last first (clause_then t s region cs) (handler_code em x last first body rest)
    one_handler q r b d first x t s region cs body rest place base a others =
        let o = plain (bind x (record { root = through em.object; offset = 0 })) in
        let tail = quiet (jump last) ∷ rest in
        let j = q + 1 + 1 + length body in
        let m = b + weigh o + weight weigh body in
        let lengths = length-append body tail in
        let weights = weight_both weigh body tail in
        let behind : (rank : ℕ → ℕ) → Ranked rank (q + 1 + 1) (a.ranks ++ m ∷ others.ranks) → Ranked rank j (m ∷ others.ranks) =
        λ rank rk. ranked_back rank (q + 1 + 1) j a.ranks (m ∷ others.ranks) (omega (arith, a.same)) rk in
        let next_place : r ≡ j + 1 = omega (arith, place) in
        record {
          ranks = b ∷ b ∷ (a.ranks ++ m ∷ others.ranks);
          same = omega (arith, length-append a.ranks (m ∷ others.ranks), a.same, others.same, lengths);
          heads = λ rank has rk.
              let own = ap rank has.2 in
              let stands = has_back g (q + 1 + 1) j body tail refl has.3.3 in
              let later = others.heads rank (has_back g j r (quiet (jump last) ∷ []) rest next_place stands) (ranked_back rank j r (m ∷ []) others.ranks next_place (behind rank rk.1.1)) in
              (omega (arith, own, rk.0), lower_heads rank b d (first + 1) cs (omega (arith, base)) later);
          rise = λ rank e has rk le end exits cover inside.
              let after = behind rank rk.1.1 in
              let stands = has_back g (q + 1 + 1) j body tail refl has.3.3 in
              let lower : m ≤ e = omega (arith, le, weights) in
              let room : d + weight weigh rest ≤ e = omega (arith, le, weights, base, light first) in
              let next = a.start rank j m (ranked_front rank (q + 1 + 1) a.ranks (m ∷ others.ranks) rk.1.1) refl (omega arith) (omega (arith, after.0)) in (
                label_rises g weigh top rank q first (light first) (omega (arith, rk.0, rk.1.0)) (omega (arith, rk.0, lower, inside)),
                (
                  record { next = omega (arith, rk.1.0, next); jump = tt; pad = tt; inside = omega (arith, rk.1.0, lower, inside) },
                  both_rise g weigh top rank (q + 1 + 1) j body tail refl
                      (a.rise rank j m (has_front g (q + 1 + 1) body tail has.3.3) (ranked_front rank (q + 1 + 1) a.ranks (m ∷ others.ranks) rk.1.1) refl (omega arith)
                      (record {
                        behind = omega (arith, after.0);
                        exits = lower_exits g weigh top rank m e xs lower exits;
                        cover = lower_cover g weigh top rank m e c lower cover;
                        inside = omega (arith, lower, inside);
                      })) (
                        record { next = tt; jump = inl (omega (arith, after.0, room, base, end)); pad = tt; inside = omega (arith, after.0, room, base, inside) },
                        both_rise g weigh top rank (j + 1) r [] rest (omega (arith, next_place)) tt
                            (others.rise rank e (has_back g j r (quiet (jump last) ∷ []) rest next_place stands) (ranked_back rank j r (m ∷ []) others.ranks next_place after) room end exits cover inside),
                      ),
                ),
              );
        }
