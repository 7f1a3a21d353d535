-- What is written at a place is read there, and the next thing stands behind it.
use Rattle.std.proofs.Common.{◌≡◌, ◌+◌, ◌<◌, ◌^◌, ◌==◌, ℕ, false, List, [], ◌∷◌, ◌++◌, length, drop, Ok, refl, ap, sym, ◌∙◌, arith}
use Rattle.std.proofs.lemmas.List.{drop-drop, drop_at}
use Rattle.std.proofs.lemmas.Bool.{cond_both}
use Rattle.std.proofs.lemmas.Bool.Decides.{nat_tests}
use Rattle.eh_bytes.specs.Field.{at, byte, behind}
use Rattle.eh_bytes.specs.Leb128.{uleb}
use Rattle.eh_bytes.specs.declared.encoded.Pointer.{Pointer}
use Rattle.eh_bytes.specs.Encoded.{encoded, raw, applied, applies}
use Rattle.eh_bytes.specs.Spelling.{uleb_spelling}
use Rattle.eh_bytes.proofs.ReadAgain.{uleb-uleb_spelling}
use Rattle.table_forms.specs.Fault.{◌>>=◌, with_reason, table_reason}
use Rattle.table_forms.specs.LsdaHead.{Head}
use Rattle.table_forms.specs.LsdaSites.{number_at, record_at}

-- the bytes have x at p, and then rest
abbrev pub Stands : List ℕ → ℕ → List ℕ → List ℕ → Type 0
Stands bytes p x rest = drop p bytes ≡ x ++ rest

pub next_stands : (bytes : List ℕ) (p : ℕ) (x rest : List ℕ) → Stands bytes p x rest → drop (p + length x) bytes ≡ rest
next_stands bytes p x rest here = sym (drop-drop (length x) p bytes) ∙ ap (drop (length x)) here ∙ drop_at x rest (length x) refl

pub byte_stands : (bytes : List ℕ) (p b : ℕ) (rest : List ℕ) → Stands bytes p (b ∷ []) rest → at byte bytes p ≡ Ok (b, p + 1)
byte_stands bytes p b rest here = ap (λ xs. behind p (byte xs)) here

pub uleb_stands : (bytes : List ℕ) (p n : ℕ) (rest : List ℕ) → n < 2 ^ 64 → Stands bytes p (uleb_spelling n) rest →
    at uleb bytes p ≡ Ok (n, p + length (uleb_spelling n))
uleb_stands bytes p n rest fits here = ap (λ xs. behind p (uleb xs)) here ∙ ap (behind p) (uleb-uleb_spelling n rest fits)

-- in the format ULEB128 a number is its own value
plain : (address n : ℕ) → applied 1 address n ≡ record { value = n; indirect = false }
plain address n =
    let Q : Pointer → Type 0 = λ x. x ≡ record { value = n; indirect = false } in
    cond_both (n == 0) (record { value = 0; indirect = false }) (record { value = n; indirect = false }) Q
    (λ e. let zero_is : 0 ≡ n = grind (arith, nat_tests, e) in ap (λ v. record { value = v; indirect = false }) zero_is) (λ _. refl)

uleb_plain : (address : ℕ) (bytes : List ℕ) → encoded 1 address bytes ≡ applies 1 address (uleb bytes)
unfolding encoded raw
uleb_plain address bytes = refl

pub number_stands : (bytes : List ℕ) (file_at p n : ℕ) (rest : List ℕ) → n < 2 ^ 64 → Stands bytes p (uleb_spelling n) rest →
    number_at bytes file_at 1 p ≡ Ok (n, p + length (uleb_spelling n))
number_stands bytes file_at p n rest fits here =
    let read : at (encoded 1 (0 + p)) bytes p ≡ Ok (record { value = n; indirect = false }, p + length (uleb_spelling n)) =
    ap (behind p) (uleb_plain (0 + p) (drop p bytes)) ∙ ap (λ xs. behind p (applies 1 (0 + p) (uleb xs))) here ∙
    ap (λ r. behind p (applies 1 (0 + p) r)) (uleb-uleb_spelling n rest fits) ∙ ap (λ v. Ok (v, p + length (uleb_spelling n))) (plain (0 + p) n) in
    ap (λ r. with_reason table_reason (file_at + p) r >>= (λ x. Ok (x.0.value, x.1))) read

-- the numbers of a site one after the other are its record
pub record_stands : (bytes : List ℕ) (file_at : ℕ) (h : Head) (p start len pad action : ℕ) (rest : List ℕ) → h.site_encoding ≡ 1 →
    start < 2 ^ 64 → len < 2 ^ 64 → pad < 2 ^ 64 → action < 2 ^ 64 →
    Stands bytes p (uleb_spelling start) (uleb_spelling len ++ (uleb_spelling pad ++ (uleb_spelling action ++ rest))) →
    record_at bytes file_at h p ≡
    Ok (
      record { at = p; start = start; length = len; pad = pad; action = action },
      p + length (uleb_spelling start) + length (uleb_spelling len) + length (uleb_spelling pad) + length (uleb_spelling action),
    )
unfolding record_at
record_stands bytes file_at h p start len pad action rest plain_sites s l d a here =
    let p1 = p + length (uleb_spelling start) in
    let p2 = p1 + length (uleb_spelling len) in
    let p3 = p2 + length (uleb_spelling pad) in
    let here1 = next_stands bytes p (uleb_spelling start) (uleb_spelling len ++ (uleb_spelling pad ++ (uleb_spelling action ++ rest))) here in
    let here2 = next_stands bytes p1 (uleb_spelling len) (uleb_spelling pad ++ (uleb_spelling action ++ rest)) here1 in
    let here3 = next_stands bytes p2 (uleb_spelling pad) (uleb_spelling action ++ rest) here2 in
    rw plain_sites
    (rw (number_stands bytes file_at p start (uleb_spelling len ++ (uleb_spelling pad ++ (uleb_spelling action ++ rest))) s here)
    (rw (number_stands bytes file_at p1 len (uleb_spelling pad ++ (uleb_spelling action ++ rest)) l here1)
    (rw (number_stands bytes file_at p2 pad (uleb_spelling action ++ rest) d here2)
    (rw (uleb_stands bytes p3 action rest a here3) refl))))
