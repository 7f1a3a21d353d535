-- A number whose encoding is not relative says the same at each address.
use Rattle.std.proofs.Common.{◌≡◌, ◌+◌, ◌/◌, ◌%◌, ◌==◌, ℕ, false, List, Ok, Err, refl, ap, arith, drop, take}
use Rattle.std.proofs.lemmas.Bool.Decides.{nat_tests}
use Rattle.eh_bytes.specs.Field.{Reading, behind}
use Rattle.eh_bytes.specs.Encoded.{is_relative, encoding_format, raw, encoded, applied, applies}
use Rattle.eh_bytes.specs.Memory.{Part}
use Rattle.table_forms.specs.Fault.{with_reason, frame_reason}
use Rattle.table_forms.specs.Instruction.{in_frames}

applied_same : (f a b n : ℕ) → is_relative f ≡ false → applied f a n ≡ applied f b n
applied_same f a b n e = rw e refl

applies_same : (f a b : ℕ) (r : Reading ℕ) → is_relative f ≡ false → applies f a r ≡ applies f b r
applies_same f a b (Ok (n, taken)) e = ap (λ x. Ok (x, taken)) (applied_same f a b n e)
applies_same f a b (Err cause) e = refl

unmoved : (f a b : ℕ) (bytes : List ℕ) → is_relative f ≡ false → encoded f a bytes ≡ encoded f b bytes
unfolding encoded
unmoved f a b bytes e = applies_same f a b (raw (encoding_format f) bytes) e

pub unmoved_at : (e a : ℕ) (part : Part) (stop p : ℕ) → in_frames (encoded (e % 16) a) part stop p ≡ in_frames (encoded (e % 16) 0) part stop p
unmoved_at e a part stop p =
    ap (λ r. with_reason frame_reason (part.file_at + p) (behind p r)) (unmoved (e % 16) a 0 (drop p (take stop part.bytes)) (let no : (e % 16 / 16 % 8 == 1) ≡ false = grind (arith, nat_tests) in no))
