-- The chains that are kept are found under the numbers of their filters.
use Rattle.std.proofs.Common.{◌≡◌, ◌==◌, ◌++◌, ◌+◌, ℕ, ℤ, Bool, true, false, List, [], ◌∷◌, length, Option, Some, None, refl, ap, sym, ◌∙◌, arith, if◌then◌else◌}
use Rattle.std.specs.Prelude.{is_some}
use Rattle.std.specs.List.{position_from}
use Rattle.std.specs.BTreeMap.{get, is_at}
use Rattle.std.specs.Ordering.{nat_cmp}
use Rattle.std.proofs.lemmas.Bool.Decides.{nat_tests}
use Rattle.lsda_pack.specs.Chains.{add_chain, is_chain}
use Rattle.lsda_pack.specs.EndNumbers.{TellsApart, end_number}
use Rattle.lsda_pack.specs.KeptChains.{AreKept, chains_kept}
use Rattle.lsda_pack.specs.declared.chains.KeptChains.{KeptChains}
use Rattle.lsda_pack.proofs.ChainsKept.{itself, same_chain}
use Rattle.lsda_pack.proofs.EndNumbers.{ends_apart}
use Rattle.lsda_pack.proofs.MapKeys.{at_key}
use Rattle.lsda_pack.proofs.PositionsFound.{has_place, or_last, place_push}

-- a chain that is there is not added
pub kept_already : (known : ℤ × ℕ → Option ℕ) (kept : KeptChains) (c : List ℤ) (n : ℕ) → AreKept known kept → end_number known c ≡ Some n → is_some (get nat_cmp kept.numbers n) ≡ true →
    chains_kept kept ≡ add_chain (chains_kept kept) c
kept_already known kept c n are is there = ap (λ b. if b then chains_kept kept else chains_kept kept ++ c ∷ []) (sym (sym (has_place (is_chain c) 0 (chains_kept kept)) ∙ ap is_some (sym (are c n is)) ∙ there))

none_there : (o : Option ℕ) → is_some o ≡ false → o ≡ None
none_there (Some p) is = absurd cc
none_there None is = refl

-- one that is not there stands behind the others
pub kept_more : (known : ℤ × ℕ → Option ℕ) (kept more : KeptChains) (c : List ℤ) (n place : ℕ) → TellsApart known → AreKept known kept → end_number known c ≡ Some n → is_some (get nat_cmp kept.numbers n) ≡ false →
    chains_kept more ≡ chains_kept kept ++ c ∷ [] → place ≡ length (chains_kept kept) →
    ((q : ℕ) → get nat_cmp more.numbers q ≡ (if is_at (nat_cmp n) q then Some place else get nat_cmp kept.numbers q)) → (chains_kept more ≡ add_chain (chains_kept kept) c) × AreKept known more
kept_more known kept more c n place tells are is free pushed here says = (
  pushed ∙ ap (λ b. if b then chains_kept kept else chains_kept kept ++ c ∷ []) (sym (sym (has_place (is_chain c) 0 (chains_kept kept)) ∙ ap is_some (sym (are c n is)) ∙ free)),
  λ d m at. says m ∙ ap (λ b. if b then Some place else get nat_cmp kept.numbers m) (at_key n m) ∙ by d m at (n == m) refl ∙ ap (position_from (is_chain d) 0) (sym pushed),
)
  where
    some_same : (x y : ℕ) → (λ (w : Option ℕ). w) (Some x) ≡ Some y → x ≡ y
    some_same x y e = cc

    at_end : (d : List ℤ) → position_from (is_chain d) 0 (chains_kept kept ++ c ∷ []) ≡ or_last (position_from (is_chain d) 0 (chains_kept kept)) (is_chain d c) (length (chains_kept kept))
    at_end d = place_push (is_chain d) 0 (chains_kept kept) c ∙ ap (or_last (position_from (is_chain d) 0 (chains_kept kept)) (is_chain d c)) (omega arith)

    none : position_from (is_chain c) 0 (chains_kept kept) ≡ None
    none = sym (are c n is) ∙ none_there (get nat_cmp kept.numbers n) free

    other : (d : List ℤ) (m : ℕ) → end_number known d ≡ Some m → (n == m) ≡ false → (b : Bool) → is_chain d c ≡ b →
        or_last (position_from (is_chain d) 0 (chains_kept kept)) b (length (chains_kept kept)) ≡ position_from (is_chain d) 0 (chains_kept kept)
    other d m at apart true e = let same = some_same m n (sym at ∙ ap (end_number known) (same_chain d c e) ∙ is) in absurd (grind (arith, nat_tests, apart, same))
    other d m at apart false e = stays (position_from (is_chain d) 0 (chains_kept kept))
      where
        stays : (o : Option ℕ) → or_last o false (length (chains_kept kept)) ≡ o
        stays (Some p) = refl
        stays None = refl

    by : (d : List ℤ) (m : ℕ) → end_number known d ≡ Some m → (b : Bool) → (n == m) ≡ b → (if b then Some place else get nat_cmp kept.numbers m) ≡ position_from (is_chain d) 0 (chains_kept kept ++ c ∷ [])
    by d m at true e =
        let nm : n ≡ m = grind (arith, nat_tests, e) in
        let same = ends_apart known c d n tells is (at ∙ ap (λ k. Some k) (sym nm)) in
        sym (ap (λ x. position_from (is_chain x) 0 (chains_kept kept ++ c ∷ [])) (sym same) ∙ at_end c ∙
        ap (λ o. or_last o (is_chain c c) (length (chains_kept kept))) none ∙ ap (λ b. or_last None b (length (chains_kept kept))) (itself c) ∙ ap (λ k. Some k) (sym here))
    by d m at false e = are d m at ∙ sym (at_end d ∙ other d m at e (is_chain d c) refl)
