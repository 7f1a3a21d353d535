-- Where the record of a type stands among the records of an image.
use Rattle.std.proofs.Common.{◌≡◌, ◌∙◌, ap, subst, arith, ℕ, zero, suc, ◌+◌, ◌-◌, ◌*◌, ◌≤◌, List, [], ◌∷◌, ◌++◌, drop, length, reverse, flat_map, Some}
use Rattle.std.specs.Prelude.{slice_get}
use Rattle.std.proofs.lemmas.List.{append_assoc, reverse-append, drop-append-le}
use Rattle.std.proofs.lemmas.List.Concat.{flat_map-append}
use Rattle.std.proofs.Math.Seq.{drop-append_seam}
use Rattle.eh_bytes.specs.declared.unit.TypeRow.{TypeRow}
use Rattle.image_forms.specs.Records.{name_bytes, record_words, records_words, words_bytes, records_bytes}
use Rattle.image_link.proofs.Bounds.{records_length}

-- the words of a type's record stand at a place of some bytes
pub record RecordAt (end : ℕ) (bytes : List ℕ) (offset : ℕ) (t : TypeRow) : Type 0 where
  pub name : ℕ
  pub rest : List ℕ
  pub here : drop offset bytes ≡ words_bytes (record_words end name t) ++ rest

turned : (end name : ℕ) (t : TypeRow) (types : List TypeRow) →
    records_bytes end name (t ∷ types) ≡ records_bytes end (name + length (name_bytes t)) types ++ (words_bytes (record_words end name t) ++ [])
turned end name t types =
    let first = record_words end name t in
    let others = records_words end (name + length (name_bytes t)) types in
    ap (flat_map words_bytes) (reverse-append (first ∷ []) others) ∙ flat_map-append words_bytes (reverse others) (first ∷ [])

pub record_found : (end name : ℕ) (types : List TypeRow) (n : ℕ) (t : TypeRow) → slice_get types n ≡ Some t → RecordAt end (records_bytes end name types) (24 * (length types - (n + 1))) t
record_found end name [] n t e = absurd (cc e)
record_found end name (x ∷ types) zero t e =
    let next = name + length (name_bytes x) in
    let before = records_bytes end next types in
    let words = words_bytes (record_words end name x) in
    let at : 24 * (length (x ∷ types) - (0 + 1)) ≡ length before = omega (arith, records_length end next types) in
    let here : drop (24 * (length (x ∷ types) - (0 + 1))) (records_bytes end name (x ∷ types)) ≡ words ++ []
    = ap (λ k. drop k (records_bytes end name (x ∷ types))) at ∙ (ap (drop (length before)) (turned end name x types) ∙ drop-append_seam before (words ++ [])) in
    subst (λ y. RecordAt end (records_bytes end name (x ∷ types)) (24 * (length (x ∷ types) - (0 + 1))) y) (same x t e) (record { name = name; rest = []; here = here })
  where
    same : (a b : TypeRow) → Some a ≡ Some b → a ≡ b
    same a b e = cc
record_found end name (x ∷ types) (suc n) t e =
    let next = name + length (name_bytes x) in
    let before = records_bytes end next types in
    let words = words_bytes (record_words end name x) ++ [] in
    let later = record_found end next types n t e in
    let k = 24 * (length types - (n + 1)) in
    let at : 24 * (length (x ∷ types) - (suc n + 1)) ≡ k = omega arith in
    let inside : k ≤ length before = omega (arith, records_length end next types) in
    record {
      name = later.name;
      rest = later.rest ++ words;
      here = ap (λ j. drop j (records_bytes end name (x ∷ types))) at ∙ (ap (drop k) (turned end name x types) ∙ (drop-append-le k before words inside
          ∙ (ap (λ bytes. bytes ++ words) later.here ∙ append_assoc (words_bytes (record_words end later.name t)) later.rest words)));
    }
