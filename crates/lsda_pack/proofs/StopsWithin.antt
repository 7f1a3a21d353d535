-- One step to where the frames end, and an entry behind the end of its segment.
use Rattle.std.proofs.Common.{◌≡◌, ◌+◌, ◌<◌, ◌≤◌, ℕ, zero, suc, true, false, List, ◌++◌, length, map, Ok, Err, refl, ap, sym, ◌∙◌, append-nil, nat_lt, nat_le, arith}
use Rattle.std.specs.Prelude.{Some, max, fold}
use Rattle.eh_bytes.specs.Encoded.{encoding_format, format_size}
use Rattle.eh_bytes.specs.Memory.{Part, Memory}
use Rattle.table_forms.specs.Fault.{Fault, with_reason, table_reason}
use Rattle.table_forms.specs.Spans.{Span, spans_within}
use Rattle.table_forms.proofs.Beyond.{cut_behind}
use Rattle.frame_read.proofs.Spanned.{length_read}
use Rattle.lsda_pack.specs.Extents.{stop_within, word_at}
use Rattle.lsda_pack.specs.Reaches.{extent_taken}
use Rattle.lsda_pack.specs.SharedTables.{word_of}
use Rattle.lsda_pack.specs.declared.reach.Taken.{Taken}

abbrev stops : ℕ → List Span → ℕ
stops p ss = fold (λ e s. max e s.stop) p ss

pub stop_fails : (part : Part) (p n : ℕ) (f : Fault) → nat_lt p (length part.bytes) ≡ true → length_read part p ≡ Err f → stop_within part (suc n) p ≡ p
unfolding spans_within
stop_fails part p n f inside here = rw (inside, here) refl

pub stop_zero : (part : Part) (p n next : ℕ) → nat_lt p (length part.bytes) ≡ true → length_read part p ≡ Ok (zero, next) → stop_within part (suc n) p ≡ p
unfolding spans_within
stop_zero part p n next inside here = rw (inside, here) refl

pub stop_out : (part : Part) (p n k next : ℕ) → nat_lt p (length part.bytes) ≡ true → length_read part p ≡ Ok (suc k, next) →
    nat_le (next + suc k) (length part.bytes) ≡ false → stop_within part (suc n) p ≡ p
unfolding spans_within
stop_out part p n k next inside here out = rw (inside, here, out) refl

pub stop_more : (part : Part) (p n k next : ℕ) → nat_lt p (length part.bytes) ≡ true → length_read part p ≡ Ok (suc k, next) →
    nat_le (next + suc k) (length part.bytes) ≡ true → p < next → stop_within part (suc n) p ≡ stop_within part n (next + suc k)
unfolding spans_within
stop_more part p n k next inside here fits on =
    let last : max p (next + suc k) ≡ next + suc k = omega (arith, on) in
    rw (inside, here, fits) (ap (λ e. stops e (spans_within n part (next + suc k)).list) last)

pub stop_end : (part : Part) (p : ℕ) → nat_lt p (length part.bytes) ≡ false → (n : ℕ) → stop_within part n p ≡ p
unfolding spans_within
stop_end part p outside zero = refl
stop_end part p outside (suc n) = rw outside refl

-- an entry behind the end of its segment names no word
pub no_word : (memory : Memory) (part : Part) (encoding place size : ℕ) (taken : List Taken) → length part.bytes ≤ place → format_size (encoding_format encoding) ≡ Some size →
    taken ≡ taken ++ map extent_taken (word_at memory part encoding place)
no_word memory part encoding place size taken beyond sized =
    let cut = cut_behind encoding (part.address + place) place size part.bytes beyond sized in
    sym (append-nil taken) ∙ ap (λ r. taken ++ map extent_taken (word_of memory (with_reason table_reason (part.file_at + place) r))) (sym cut)
