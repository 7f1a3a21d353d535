-- The call-site table depends only on its own bytes.
use Rattle.std.proofs.Common.{◌≡◌, ◌+◌, ◌≤◌, ◌<◌, ℕ, zero, suc, Bool, true, false, nat_lt, List, [], length, Result, Ok, Err, refl, ap, sym, ◌∙◌, arith, ◌⊎◌, inl, inr}
use Rattle.std.proofs.lemmas.Bool.Decides.{nat_tests}
use Rattle.eh_bytes.specs.declared.encoded.Pointer.{Pointer}
use Rattle.eh_bytes.specs.Field.{Field, at}
use Rattle.eh_bytes.specs.Leb128.{uleb}
use Rattle.eh_bytes.specs.Encoded.{encoded}
use Rattle.table_forms.specs.Fault.{Fault, ◌>>=◌, with_reason, table_reason}
use Rattle.table_forms.specs.LsdaHead.{Head}
use Rattle.table_forms.specs.LsdaSites.{SiteRecord, number_at, record_at, and_more, records_from, records_within}
use Rattle.lsda_pack.proofs.Fronts.{Same, same_inside}
use Rattle.lsda_pack.proofs.FieldFrame.{Front, reads_at, front_uleb, front_encoded}
use Rattle.lsda_pack.proofs.HeadFrame.{reason_ok, bind_ok}

-- what reads a list from a place on, up to the place behind what it read
pub record ListReads {A : Type 0} (g : List ℕ → Result (A × ℕ) Fault) (xs : List ℕ) (p : ℕ) (a : A × ℕ) : Type 0 where
  pub forward : p ≤ a.1
  pub own : a.1 ≤ length xs ⊎ (a.1 ≡ p)
  pub same : (ys : List ℕ) → Same p a.1 xs ys → g ys ≡ Ok a

field_reads : {A : Type 0} (f : Field A) → Front f → (place : ℕ) (xs : List ℕ) (p : ℕ) (a : A × ℕ) → with_reason table_reason place (at f xs p) ≡ Ok a →
    ListReads (λ zs. with_reason table_reason place (at f zs p)) xs p a
field_reads f front place xs p a read =
    let r = reads_at f front xs p a.0 a.1 (reason_ok table_reason place (at f xs p) a read) in
    record { forward = r.forward; own = r.own; same = λ ys same. ap (with_reason table_reason place) (r.same ys same) }

abbrev value_read : Pointer × ℕ → Result (ℕ × ℕ) Fault
value_read n = Ok (n.0.value, n.1)

number_reads : (xs : List ℕ) (file_at e p : ℕ) (a : ℕ × ℕ) → number_at xs file_at e p ≡ Ok a → ListReads (λ zs. number_at zs file_at e p) xs p a
number_reads xs file_at e p a read =
    let n = bind_ok (with_reason table_reason (file_at + p) (at (encoded e (0 + p)) xs p)) value_read a read in
    let r = field_reads (encoded e (0 + p)) (front_encoded e (0 + p)) (file_at + p) xs p n.0 n.1 in
    let place : n.0.1 ≡ a.1 = cc in
    record {
      forward = let f = r.forward in omega (arith, place, f);
      own = moved n.0.1 place r.own;
      same = λ ys same. ap (λ v. v >>= value_read) (r.same ys (same_inside p a.1 p n.0.1 xs ys (omega arith) (omega (arith, place)) same)) ∙ n.2;
    }
  where
    moved : (q : ℕ) → q ≡ a.1 → q ≤ length xs ⊎ (q ≡ p) → a.1 ≤ length xs ⊎ (a.1 ≡ p)
    moved q is (inl le) = inl (omega (arith, is, le))
    moved q is (inr e) = inr (sym is ∙ e)

abbrev after_action : ℕ → ℕ × ℕ → ℕ × ℕ → ℕ × ℕ → ℕ × ℕ → Result (SiteRecord × ℕ) Fault
after_action p start len pad action = Ok (record { at = p; start = start.0; length = len.0; pad = pad.0; action = action.0 }, action.1)

last_ends : (p : ℕ) (start len pad action : ℕ × ℕ) (a : SiteRecord × ℕ) → after_action p start len pad action ≡ Ok a → action.1 ≡ a.1
last_ends p start len pad action a e = cc

abbrev after_pad : List ℕ → ℕ → ℕ → ℕ × ℕ → ℕ × ℕ → ℕ × ℕ → Result (SiteRecord × ℕ) Fault
after_pad xs file_at p start len pad = with_reason table_reason (file_at + pad.1) (at uleb xs pad.1) >>= after_action p start len pad

abbrev after_length : List ℕ → ℕ → ℕ → ℕ → ℕ × ℕ → ℕ × ℕ → Result (SiteRecord × ℕ) Fault
after_length xs file_at e p start len = number_at xs file_at e len.1 >>= after_pad xs file_at p start len

abbrev after_start : List ℕ → ℕ → ℕ → ℕ → ℕ × ℕ → Result (SiteRecord × ℕ) Fault
after_start xs file_at e p start = number_at xs file_at e start.1 >>= after_length xs file_at e p start

in_steps : (xs : List ℕ) (file_at : ℕ) (h : Head) (p : ℕ) → record_at xs file_at h p ≡ (number_at xs file_at h.site_encoding p >>= after_start xs file_at h.site_encoding p)
unfolding record_at
in_steps xs file_at h p = refl

chained : (n p q s : ℕ) → q ≤ n ⊎ (q ≡ p) → s ≤ n ⊎ (s ≡ q) → s ≤ n ⊎ (s ≡ p)
chained n p q s first (inl le) = inl le
chained n p q s (inl le) (inr e) = inl (omega (arith, le, e))
chained n p q s (inr f) (inr e) = inr (e ∙ f)

record_reads : (xs : List ℕ) (file_at : ℕ) (h : Head) (p : ℕ) (a : SiteRecord × ℕ) → record_at xs file_at h p ≡ Ok a → ListReads (λ zs. record_at zs file_at h p) xs p a
record_reads xs file_at h p a read =
    let e = h.site_encoding in
    let start = bind_ok (number_at xs file_at e p) (after_start xs file_at e p) a (sym (in_steps xs file_at h p) ∙ read) in
    let len = bind_ok (number_at xs file_at e start.0.1) (after_length xs file_at e p start.0) a start.2 in
    let pad = bind_ok (number_at xs file_at e len.0.1) (after_pad xs file_at p start.0 len.0) a len.2 in
    let action = bind_ok (with_reason table_reason (file_at + pad.0.1) (at uleb xs pad.0.1)) (after_action p start.0 len.0 pad.0) a pad.2 in
    let r1 = number_reads xs file_at e p start.0 start.1 in
    let r2 = number_reads xs file_at e start.0.1 len.0 len.1 in
    let r3 = number_reads xs file_at e len.0.1 pad.0 pad.1 in
    let r4 = field_reads uleb front_uleb (file_at + pad.0.1) xs pad.0.1 action.0 action.1 in
    let f1 = r1.forward in let f2 = r2.forward in let f3 = r3.forward in let f4 = r4.forward in
    let last = last_ends p start.0 len.0 pad.0 action.0 a action.2 in
    record {
      forward = omega (arith, f1, f2, f3, f4, last);
      own = ended last (chained (length xs) p pad.0.1 action.0.1 (chained (length xs) p len.0.1 pad.0.1 (chained (length xs) p start.0.1 len.0.1 r1.own r2.own) r3.own) r4.own);
      same = λ ys same.
          in_steps ys file_at h p ∙
          ap (λ r. r >>= after_start ys file_at e p) (r1.same ys (same_inside p a.1 p start.0.1 xs ys (omega arith) (omega (arith, f2, f3, f4, last)) same)) ∙
          ap (λ r. r >>= after_length ys file_at e p start.0) (r2.same ys (same_inside p a.1 start.0.1 len.0.1 xs ys (omega (arith, f1)) (omega (arith, f3, f4, last)) same)) ∙
          ap (λ r. r >>= after_pad ys file_at p start.0 len.0) (r3.same ys (same_inside p a.1 len.0.1 pad.0.1 xs ys (omega (arith, f1, f2)) (omega (arith, f4, last)) same)) ∙
          ap (λ r. r >>= after_action p start.0 len.0 pad.0) (r4.same ys (same_inside p a.1 pad.0.1 action.0.1 xs ys (omega (arith, f1, f2, f3)) (omega (arith, last)) same)) ∙
          action.2;
    }
  where
    ended : {q : ℕ} → q ≡ a.1 → q ≤ length xs ⊎ (q ≡ p) → a.1 ≤ length xs ⊎ (a.1 ≡ p)
    ended is (inl le) = inl (omega (arith, is, le))
    ended is (inr e) = inr (sym is ∙ e)

-- the records of a table whose bytes end with the list, where none is refused
pub records_same : (n : ℕ) (xs ys : List ℕ) (file_at : ℕ) (h : Head) (p : ℕ) → length xs ≤ h.actions_at → (records_within n xs file_at h p).cut ≡ [] →
    Same p h.actions_at xs ys → records_within n ys file_at h p ≡ records_within n xs file_at h p
unfolding records_within
records_same zero xs ys file_at h p short cut same = refl
records_same (suc n) xs ys file_at h p short cut same = by_end (nat_lt p h.actions_at) refl cut (λ q c s. records_same n xs ys file_at h q short c s)
  where
    Later : Type 0
    Later = (q : ℕ) → (records_within n xs file_at h q).cut ≡ [] → Same q h.actions_at xs ys → records_within n ys file_at h q ≡ records_within n xs file_at h q

    by_record : nat_lt p h.actions_at ≡ true → (r : Result (SiteRecord × ℕ) Fault) → record_at xs file_at h p ≡ r →
        (records_from true r (records_within n xs file_at h)).cut ≡ [] → Later →
        records_from true (record_at ys file_at h p) (records_within n ys file_at h) ≡ records_from true r (records_within n xs file_at h)
    by_record lt (Err f) is c later = absurd cc
    by_record lt (Ok (r, next)) is c later =
        let reads = record_reads xs file_at h p (r, next) is in
        let before : p < h.actions_at = grind (arith, nat_tests, lt) in
        let forward = reads.forward in
        let inside : next ≤ h.actions_at = bounded before reads.own in
        ap (λ o. records_from true o (records_within n ys file_at h)) (reads.same ys (same_inside p h.actions_at p next xs ys (omega arith) inside same)) ∙
        ap (and_more r) (later next c (same_inside p h.actions_at next h.actions_at xs ys forward (omega arith) same))
      where
        bounded : p < h.actions_at → next ≤ length xs ⊎ (next ≡ p) → next ≤ h.actions_at
        bounded lt (inl le) = omega (arith, le, short)
        bounded lt (inr e) = omega (arith, e, lt)

    by_end : (b : Bool) → nat_lt p h.actions_at ≡ b → (records_from b (record_at xs file_at h p) (records_within n xs file_at h)).cut ≡ [] → Later →
        records_from b (record_at ys file_at h p) (records_within n ys file_at h) ≡ records_from b (record_at xs file_at h p) (records_within n xs file_at h)
    by_end false e c later = refl
    by_end true e c later = by_record e (record_at xs file_at h p) refl c later
