-- The records of an action table are found under the numbers of the ends of chains.
use Rattle.std.proofs.Common.{◌≡◌, ◌==◌, ◌++◌, ℕ, ℤ, Bool, true, false, List, [], ◌∷◌, length, Option, Some, None, refl, ap, sym, subst, ◌∙◌, arith, if◌then◌else◌}
use Rattle.std.specs.Prelude.{find, is_some, option_map}
use Rattle.std.specs.BTreeMap.{get, is_at}
use Rattle.std.specs.Ordering.{nat_cmp}
use Rattle.std.proofs.lemmas.Bool.Decides.{nat_tests}
use Rattle.lsda_pack.specs.Chains.{is_chain}
use Rattle.lsda_pack.specs.EndNumbers.{HaveNumbers, TellsApart, end_number}
use Rattle.lsda_pack.specs.Records.{ArePlaces, AreRecords}
use Rattle.lsda_pack.specs.Suffixes.{Actions, Suffix, add_records, place_of, record_bytes, with_record, written_from}
use Rattle.lsda_pack.specs.declared.actions.Records.{Records}
use Rattle.lsda_pack.proofs.ChainsKept.{itself, same_chain}
use Rattle.lsda_pack.proofs.MapKeys.{at_key}
use Rattle.lsda_pack.proofs.EndNumbers.{both_same, ends_apart, whole_number}

-- where the records stand with one more behind them
abbrev or_here : Option ℕ → Bool → ℕ → Option ℕ
or_here (Some p) b at = Some p
or_here None b at = if b then Some at else None

place_push : (ss : List Suffix) (s : Suffix) (fs : List ℤ) → place_of (ss ++ s ∷ []) fs ≡ or_here (place_of ss fs) (is_chain fs s.filters) s.at
place_push [] s fs = by (is_chain fs s.filters)
  where
    by : (b : Bool) → option_map (λ x. x.at) (if b then Some s else None) ≡ or_here None b s.at
    by true = refl
    by false = refl
place_push (x ∷ ss) s fs = by (is_chain fs x.filters) (place_push ss s fs)
  where
    by : (b : Bool) → place_of (ss ++ s ∷ []) fs ≡ or_here (place_of ss fs) (is_chain fs s.filters) s.at →
        option_map (λ y. y.at) (if b then Some x else find (λ y. is_chain fs y.filters) (ss ++ s ∷ [])) ≡
        or_here (option_map (λ y. y.at) (if b then Some x else find (λ y. is_chain fs y.filters) ss)) (is_chain fs s.filters) s.at
    by true rest = refl
    by false rest = rest

-- the records of one more end
pub places_more : (known : ℤ × ℕ → Option ℕ) (ss : List Suffix) (places places' : ℕ → Option ℕ) (f : ℤ) (fs : List ℤ) (n at : ℕ) → TellsApart known → ArePlaces known ss places →
    end_number known (f ∷ fs) ≡ Some n → place_of ss (f ∷ fs) ≡ None → ((q : ℕ) → places' q ≡ (if is_at (nat_cmp n) q then Some at else places q)) →
    ArePlaces known (ss ++ record { filters = f ∷ fs; at = at } ∷ []) places'
places_more known ss places places' f fs n at tells are number new says = record {
  none = place_push ss s [] ∙ ap (λ o. or_here o false at) are.none;
  each = λ g gs m is. says m ∙ ap (λ b. if b then Some at else places m) (at_key n m) ∙ by g gs m is (n == m) refl;
}
  where
    s : Suffix
    s = record { filters = f ∷ fs; at = at }

    some_same : (x y : ℕ) → (λ (w : Option ℕ). w) (Some x) ≡ Some y → x ≡ y
    some_same x y e = cc

    other : (g : ℤ) (gs : List ℤ) (m : ℕ) → end_number known (g ∷ gs) ≡ Some m → (n == m) ≡ false → (b : Bool) → is_chain (g ∷ gs) (f ∷ fs) ≡ b → or_here (place_of ss (g ∷ gs)) b at ≡ place_of ss (g ∷ gs)
    other g gs m is apart true e =
        let same = some_same m n (sym is ∙ ap (end_number known) (same_chain (g ∷ gs) (f ∷ fs) e) ∙ number) in absurd (grind (arith, nat_tests, apart, same))
    other g gs m is apart false e = kept (place_of ss (g ∷ gs))
      where
        kept : (o : Option ℕ) → or_here o false at ≡ o
        kept (Some p) = refl
        kept None = refl

    by : (g : ℤ) (gs : List ℤ) (m : ℕ) → end_number known (g ∷ gs) ≡ Some m → (b : Bool) → (n == m) ≡ b → (if b then Some at else places m) ≡ place_of (ss ++ s ∷ []) (g ∷ gs)
    by g gs m is true e =
        let nm : n ≡ m = grind (arith, nat_tests, e) in
        let same = ends_apart known (f ∷ fs) (g ∷ gs) n tells number (is ∙ ap (λ k. Some k) (sym nm)) in
        sym (ap (place_of (ss ++ s ∷ [])) (sym same) ∙ place_push ss s (f ∷ fs) ∙ ap (λ o. or_here o (is_chain (f ∷ fs) (f ∷ fs)) at) new ∙ ap (λ b. or_here None b at) (itself (f ∷ fs)))
    by g gs m is false e = are.each g gs m is ∙ sym (place_push ss s (g ∷ gs) ∙ other g gs m is e (is_chain (g ∷ gs) (f ∷ fs)) refl)

-- ---- chains whose records stand, and those that get them
pub stands_already : (a : Actions) (f : ℤ) (fs : List ℤ) → is_some (place_of a.suffixes (f ∷ fs)) ≡ true → add_records (f ∷ fs) a ≡ a
stands_already a f fs is = by (place_of a.suffixes (f ∷ fs)) is
  where
    by : (o : Option ℕ) → is_some o ≡ true → written_from o a f fs (add_records fs (with_record a f fs)) ≡ a
    by (Some p) is = refl
    by None is = absurd cc

pub none_there : (o : Option ℕ) → is_some o ≡ false → o ≡ None
none_there (Some p) is = absurd cc
none_there None is = refl

pub none_left : (known : ℤ × ℕ → Option ℕ) (fs : List ℤ) (ns : List ℕ) → ns ≡ [] → HaveNumbers known fs ns → fs ≡ []
none_left known [] ns is have = refl
none_left known (f ∷ fs) ns is have = absurd (no_last have.0 have.1 (sym have.2 ∙ is))
  where
    no_last : (xs : List ℕ) (x : ℕ) → xs ++ x ∷ [] ≡ [] → ⊥
    no_last [] x e = cc
    no_last (y ∷ xs) x e = cc

pub numbers_behind : (known : ℤ × ℕ → Option ℕ) (f : ℤ) (fs : List ℤ) (ns shorter : List ℕ) (n : ℕ) → ns ≡ shorter ++ n ∷ [] → HaveNumbers known (f ∷ fs) ns → HaveNumbers known fs shorter
numbers_behind known f fs ns shorter n is have = subst (HaveNumbers known fs) (both_same have.0 shorter have.1 n (sym have.2 ∙ is)).0 have.4

-- the records that stand under a number are those of its end
pub place_found : (known : ℤ × ℕ → Option ℕ) (ss : List Suffix) (places : ℕ → Option ℕ) (fs : List ℤ) (ns shorter : List ℕ) (n : ℕ) → ns ≡ shorter ++ n ∷ [] → ArePlaces known ss places → HaveNumbers known fs ns →
    places n ≡ place_of ss fs
place_found known ss places [] ns shorter n is are have = absurd (no_last shorter n (sym is ∙ have))
  where
    no_last : (xs : List ℕ) (x : ℕ) → xs ++ x ∷ [] ≡ [] → ⊥
    no_last [] x e = cc
    no_last (y ∷ xs) x e = cc
place_found known ss places (f ∷ fs) ns shorter n is are have = are.each f fs n (whole_number known (f ∷ fs) ns shorter n is have)

pub no_place : (known : ℤ × ℕ → Option ℕ) (ss : List Suffix) (places : ℕ → Option ℕ) (fs : List ℤ) (ns : List ℕ) → ns ≡ [] → ArePlaces known ss places → HaveNumbers known fs ns → place_of ss fs ≡ None
no_place known ss places fs ns is are have = ap (place_of ss) (none_left known fs ns is have) ∙ are.none

-- what has been put when the record of a filter is
pub record Put (known : ℤ × ℕ → Option ℕ) (b : Actions) (f : ℤ) (fs : List ℤ) (shorter : List ℕ) (new : Records) : Type 0 where
  pub actions : Actions
  pub rest : add_records (f ∷ fs) b ≡ add_records fs actions
  pub are : AreRecords known new actions
  pub have : HaveNumbers known fs shorter

pub record_put : (known : ℤ × ℕ → Option ℕ) (b : Actions) (f : ℤ) (fs : List ℤ) (ns shorter : List ℕ) (n at : ℕ) (place : Option ℕ) (old new : Records) → TellsApart known → AreRecords known old b →
    HaveNumbers known (f ∷ fs) ns → ns ≡ shorter ++ n ∷ [] → is_some (get nat_cmp old.places n) ≡ false → place ≡ place_of b.suffixes fs → at ≡ length old.bytes.items →
    new.bytes.items ≡ old.bytes.items ++ record_bytes (length old.bytes.items) f fs place →
    ((q : ℕ) → get nat_cmp new.places q ≡ (if is_at (nat_cmp n) q then Some at else get nat_cmp old.places q)) → Put known b f fs shorter new
record_put known b f fs ns shorter n at place old new tells are have is free led here bytes says = record {
  actions = with_record b f fs;
  rest = ap (λ o. written_from o b f fs (add_records fs (with_record b f fs))) none;
  are = record {
    bytes = bytes ∙ ap (λ xs. xs ++ record_bytes (length xs) f fs place) are.bytes ∙ ap (λ o. b.bytes ++ record_bytes (length b.bytes) f fs o) led;
    places = subst (λ k. ArePlaces known (b.suffixes ++ record { filters = f ∷ fs; at = k } ∷ []) (get nat_cmp new.places)) (here ∙ ap (λ xs. length xs) are.bytes)
        (places_more known b.suffixes (get nat_cmp old.places) (get nat_cmp new.places) f fs n at tells are.places (whole_number known (f ∷ fs) ns shorter n is have) none says);
  };
  have = numbers_behind known f fs ns shorter n is have;
}
  where
    none : place_of b.suffixes (f ∷ fs) ≡ None
    none = sym (place_found known b.suffixes (get nat_cmp old.places) (f ∷ fs) ns shorter n is are.places have) ∙ none_there (get nat_cmp old.places n) free

-- no record stands yet
pub nothing_put : (known : ℤ × ℕ → Option ℕ) (places : ℕ → Option ℕ) → ((n : ℕ) → places n ≡ None) → ArePlaces known [] places
nothing_put known places none = record { none = refl; each = λ f fs n is. none n }
