use Rattle.std.proofs.Common.{rules, ◌≡◌, ◌++◌, ◌+◌, ◌-◌, ◌<◌, [], ◌∷◌, ap, sym, ◌∙◌, arith, append_assoc, length, length-append}
use Rattle.elf_image.specs.Programs.{header_at, headers_from}
use Rattle.elf_image.proofs.Turns.{headers_step}
use Rattle.elf_image.proofs.program.headers_of.Goals as goal

pub headers-preserved : goal.headers-preserved
headers-preserved c =
    let some : 0 < c.headers.left = search rules in
    let pushed : c.push.new.self.items ≡ c.headers.headers.items ++ header_at c.args.file.now c.headers.place ∷ [] = search rules in
    let rest = headers_from (c.headers.left - 1) c.args.file.now (c.headers.place + 56) in (
      c.headers.invariant.0 ∙ ap (λ x. c.headers.headers.items ++ x) (headers_step c.headers.left c.args.file.now c.headers.place some) ∙
          sym (append_assoc c.headers.headers.items (header_at c.args.file.now c.headers.place ∷ []) rest) ∙ ap (λ x. x ++ rest) (sym pushed),
      omega (arith, c.headers.invariant.1, some),
      omega (arith, c.headers.invariant.2, some, ap length pushed, length-append c.headers.headers.items (header_at c.args.file.now c.headers.place ∷ [])),
    )
