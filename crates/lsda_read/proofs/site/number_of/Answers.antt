use Rattle.std.proofs.Common.{◌≡◌, ℕ, ◌+◌, ◌==◌, Bool, true, false, List, Ok, Err, drop, refl, sym, ap, ◌∙◌, subst, if◌then◌else◌, arith}
use Rattle.std.proofs.lemmas.Bool.Decides.{nat_tests}
use Rattle.eh_bytes.specs.declared.encoded.Pointer.{Pointer}
use Rattle.eh_bytes.specs.Field.{Reading, at, behind}
use Rattle.eh_bytes.specs.Leb128.{uleb}
use Rattle.eh_bytes.specs.Encoded.{raw, applied, applies, encoded}
use Rattle.table_forms.specs.Fault.{◌>>=◌, with_reason, table_reason}
use Rattle.table_forms.specs.LsdaSites.{number_at}
use Rattle.lsda_read.specs.Reads.{Reads}
use Rattle.lsda_read.proofs.site.number_of.Goals as goal

-- a ULEB128 number says itself
itself : (address n : ℕ) → (applied 1 address n).value ≡ n
itself address n = go (n == 0) refl
  where
    none : Pointer
    none = record { value = 0; indirect = false }

    go : (b : Bool) → (n == 0) ≡ b → (if b then none else record { value = n; indirect = false }).value ≡ n
    go true e = grind (arith, nat_tests, e)
    go false e = refl

plain : (file_at p address : ℕ) (read : Reading ℕ) →
    (with_reason table_reason (file_at + p) (behind p (applies 1 address read)) >>= λ n. Ok (n.0.value, n.1)) ≡ with_reason table_reason (file_at + p) (behind p read)
plain file_at p address (Err cause) = refl
plain file_at p address (Ok (n, taken)) = rw (itself address n) refl

number_is : (bytes : List ℕ) (file_at p : ℕ) → number_at bytes file_at 1 p ≡ with_reason table_reason (file_at + p) (at uleb bytes p)
unfolding encoded raw
number_is bytes file_at p = plain file_at p (0 + p) (uleb (drop p bytes))

pub returns-then-encoding-eq-ULEB128-clause-reads : goal.returns-then-encoding-eq-ULEB128-clause-reads
returns-then-encoding-eq-ULEB128-clause-reads c =
    let same = sym (ap (λ e. number_at c.args.bytes.now c.args.file_at e c.args.place) c.if-encoding-eq-ULEB128.true ∙ number_is c.args.bytes.now c.args.file_at c.args.place) in
    subst (Reads (λ x. x) c.uleb_at.result) same c.uleb_at.ensures.reads
