-- Tables that end no later and name no more words than others share no more bytes.
use Rattle.std.proofs.Common.{◌≡◌, ◌+◌, ◌-◌, ◌≤◌, ℕ, Bool, false, nat_lt, List, [], ◌∷◌, ◌++◌, refl, ap, sym, subst, ◌∙◌, arith, ◌⊎◌, inl, inr, if◌then◌else◌}
use Rattle.std.specs.Prelude.{flat_map, max, min}
use Rattle.std.specs.List.{AllByRecursion, AllZip}
use Rattle.std.proofs.lemmas.Bool.Decides.{nat_tests}
use Rattle.eh_bytes.specs.Memory.{Memory}
use Rattle.table_forms.specs.declared.reason.Reason.TheVariants.{TableShared}
use Rattle.table_forms.specs.Fault.{fault}
use Rattle.table_forms.proofs.Alls.{all_more}
use Rattle.eh_write.proofs.Alls.{all_append}
use Rattle.personality.proofs.Members.{all_back, all_front}
use Rattle.lsda_pack.specs.Placed.{Placed}
use Rattle.lsda_pack.specs.SharedTables.{Extent, InFile, among_tables, with_extent, with_file, with_table, words_of}
use Rattle.lsda_pack.proofs.Apart.{flat_none, none_shared}
use Rattle.lsda_pack.proofs.ImageKept.{NoneShared}
use Rattle.lsda_pack.proofs.LsdaFrame.{both_none}
use Rattle.lsda_pack.proofs.PackedAgain.{Shrinks}

flat_all : {X Y : Type 0} (f : X → List Y) (xs : List X) → AllByRecursion (λ x. f x ≡ []) xs → flat_map f xs ≡ []
flat_all f [] all = refl
flat_all f (x ∷ xs) all = ap (λ ys. ys ++ flat_map f xs) all.0 ∙ flat_all f xs all.1

-- ranges that end no later meet no more
less_met : (f g e d e' d' : ℕ) → e' ≤ e → d' ≤ d → nat_lt (max f g) (min e d) ≡ false → nat_lt (max f g) (min e' d') ≡ false
less_met f g e d e' d' one two apart = grind (arith, nat_tests, one, two, apart)

none_told : (b : Bool) (place : ℕ) → b ≡ false → (if b then fault TableShared place ∷ [] else []) ≡ []
none_told b place none = ap (λ c. if c then fault TableShared place ∷ [] else []) none

module _ (memory other : Memory) where
  table_less : (t u t' u' : Placed) → Shrinks memory other t t' → Shrinks memory other u u' → with_table t u ≡ [] → with_table t' u' ≡ []
  table_less t u t' u' one two none =
      let apart = less_met t.first u.first t.end u.end t'.end u'.end one.end two.end (none_shared (nat_lt (max t.first u.first) (min t.end u.end)) (max t.place u.place) none) in
      none_told (nat_lt (max t'.first u'.first) (min t'.end u'.end)) (max t'.place u'.place)
      (ap (λ n. nat_lt (max n u'.first) (min t'.end u'.end)) one.first ∙ ap (λ n. nat_lt (max t.first n) (min t'.end u'.end)) two.first ∙ apart)

  extent_less : (t t' : Placed) (e : Extent) → Shrinks memory other t t' → with_extent t e ≡ [] → with_extent t' e ≡ []
  extent_less t t' e one none =
      let apart = less_met t.first e.first t.end e.end t'.end e.end one.end (omega arith) (none_shared (nat_lt (max t.first e.first) (min t.end e.end)) (max t.place e.place) none) in
      none_told (nat_lt (max t'.first e.first) (min t'.end e.end)) (max t'.place e.place) (ap (λ n. nat_lt (max n e.first) (min t'.end e.end)) one.first ∙ apart)

  file_less : (t t' : Placed) (x : InFile) → Shrinks memory other t t' → with_file t x ≡ [] → with_file t' x ≡ []
  file_less t t' (first, end) one none =
      let low = one.end in
      let from = one.first in
      let at = one.place in
      let stop = one.file_end in
      let before = min (t.place + (t.end - t.first)) t.file_end in
      let after = min (t'.place + (t'.end - t'.first)) t'.file_end in
      let less : after ≤ before = omega (arith, low, from, at, stop) in
      let apart = less_met t.place first before end after end less (omega arith) (none_shared (nat_lt (max t.place first) (min before end)) (max t.place first) none) in
      none_told (nat_lt (max t'.place first) (min after end)) (max t'.place first) (ap (λ n. nat_lt (max n first) (min after end)) at ∙ apart)

  -- ---- among tables
  with_rest : (t u : Placed) (ts us : List Placed) → Shrinks memory other t u → AllZip (Shrinks memory other) ts us → AllByRecursion (λ x. with_table t x ≡ []) ts → AllByRecursion (λ x. with_table u x ≡ []) us
  with_rest t u [] [] one all none = tt
  with_rest t u [] (y ∷ us) one all none = absurd all
  with_rest t u (x ∷ ts) [] one all none = absurd all
  with_rest t u (x ∷ ts) (y ∷ us) one all none = (table_less t x u y one all.0 none.0, with_rest t u ts us one all.1 none.1)

  among_less : (ts us : List Placed) → AllZip (Shrinks memory other) ts us → among_tables ts ≡ [] → among_tables us ≡ []
  among_less [] [] all none = refl
  among_less [] (u ∷ us) all none = absurd all
  among_less (t ∷ ts) [] all none = absurd all
  among_less (t ∷ ts) (u ∷ us) all none =
      let two = both_none (flat_map (with_table t) ts) (among_tables ts) none in
      ap (λ xs. xs ++ among_tables us) (flat_all (with_table u) us (with_rest t u ts us all.0 all.1 (flat_none (with_table t) ts two.0))) ∙ among_less ts us all.1 two.1

  -- ---- with what else is read
  pub words_within : (P : Extent → Type 0) (ts us : List Placed) → AllZip (Shrinks memory other) ts us → AllByRecursion P (flat_map (λ t. words_of memory t.part t.head.types t.table.types) ts) →
      AllByRecursion P (flat_map (λ t. words_of other t.part t.head.types t.table.types) us)
  words_within P [] [] all own = tt
  words_within P [] (u ∷ us) all own = absurd all
  words_within P (t ∷ ts) [] all own = absurd all
  words_within P (t ∷ ts) (u ∷ us) all own =
      let old = words_of memory t.part t.head.types t.table.types in
      let rest = flat_map (λ (x : Placed). words_of memory x.part x.head.types x.table.types) ts in
      all_append P (words_of other u.part u.head.types u.table.types) (flat_map (λ (x : Placed). words_of other x.part x.head.types x.table.types) us) (by all.0.words (all_front P old rest own))
      (words_within P ts us all.1 (all_back P old rest own))
    where
      by : (words_of other u.part u.head.types u.table.types ≡ words_of memory t.part t.head.types t.table.types) ⊎ (words_of other u.part u.head.types u.table.types ≡ []) →
          AllByRecursion P (words_of memory t.part t.head.types t.table.types) → AllByRecursion P (words_of other u.part u.head.types u.table.types)
      by (inl same) own' = subst (AllByRecursion P) (sym same) own'
      by (inr none) own' = subst (AllByRecursion P) (sym none) tt

  beside_less : (others others' : List Extent) (parts : List InFile) (ts us : List Placed) → AllZip (Shrinks memory other) ts us →
      ((P : Extent → Type 0) → AllByRecursion P others → AllByRecursion P others') → AllByRecursion (NoneShared others parts) ts →
      AllByRecursion (λ u. flat_map (with_extent u) others' ++ flat_map (with_file u) parts ≡ []) us
  beside_less others others' parts [] [] all within none = tt
  beside_less others others' parts [] (u ∷ us) all within none = absurd all
  beside_less others others' parts (t ∷ ts) [] all within none = absurd all
  beside_less others others' parts (t ∷ ts) (u ∷ us) all within none =
      let extents = within (λ e. with_extent u e ≡ []) (all_more (λ e. with_extent t e ≡ []) (λ e. with_extent u e ≡ []) (λ e n. extent_less t u e all.0 n) others none.0.0) in
      let files = all_more (λ x. with_file t x ≡ []) (λ x. with_file u x ≡ []) (λ x n. file_less t u x all.0 n) parts none.0.1 in (
        ap (λ xs. xs ++ flat_map (with_file u) parts) (flat_all (with_extent u) others' extents) ∙ flat_all (with_file u) parts files,
        beside_less others others' parts ts us all.1 within none.1,
      )

  pub none_shared_now : (others others' : List Extent) (parts : List InFile) (ts us : List Placed) → AllZip (Shrinks memory other) ts us →
      ((P : Extent → Type 0) → AllByRecursion P others → AllByRecursion P others') → among_tables ts ≡ [] → AllByRecursion (NoneShared others parts) ts →
      among_tables us ++ flat_map (λ u. flat_map (with_extent u) others' ++ flat_map (with_file u) parts) us ≡ []
  none_shared_now others others' parts ts us all within alone none =
      ap (λ xs. xs ++ flat_map (λ (u : Placed). flat_map (with_extent u) others' ++ flat_map (with_file u) parts) us) (among_less ts us all alone) ∙
      flat_all (λ (u : Placed). flat_map (with_extent u) others' ++ flat_map (with_file u) parts) us (beside_less others others' parts ts us all within none)
