use Rattle.std.proofs.Common.{◌≡◌, ℕ, ◌+◌, length, drop, List, Some, None, refl, sym, ap, subst, ◌∙◌, arith}
use Rattle.std.proofs.lemmas.List.{length-drop}
use Rattle.cxx_ast.specs.declared.token.TokenKind.TheVariants as kind
use Rattle.cxx_lexer.specs.Close.{close_from}
use Rattle.cxx_lexer.specs.FrontOf.{IsGap, IsToken}
use Rattle.cxx_lexer.proofs.Slices.{rest_slice}
use Rattle.cxx_lexer.proofs.Fronts.{blank_front, line_front, block_front, close_within, open_front, mark_front, bad_front, IsOther}
use Rattle.cxx_lexer.proofs.front.front_of.Goals as goal

pub returns-then-is_blank : goal.returns-then-is_blank
returns-then-is_blank c = blank_front c.args.text.now c.requires (sym c.is_blank.ensures ∙ c.if-is_blank.true)

pub returns-then-starts_with : goal.returns-then-starts_with
returns-then-starts_with c =
    subst (λ n. IsGap c.args.text.now n) (sym c.line_length.ensures) (line_front c.args.text.now (sym c.starts_with.ensures.value ∙ c.if-starts_with.true))

pub overflow_add-result : goal.overflow_add-result
overflow_add-result c =
    let close : close_from 0 (drop 2 c.args.text.now) ≡ Some c.in-Some.length =
    ap (close_from 0) (sym (rest_slice c.args.text.now 2)) ∙ sym c.close_at.ensures ∙ c.in-Some.is in
    omega (arith, close_within (drop 2 c.args.text.now) c.in-Some.length close, length-drop 2 c.args.text.now)

pub returns-in-Some : goal.returns-in-Some
returns-in-Some c =
    let close : close_from 0 (drop 2 c.args.text.now) ≡ Some c.in-Some.length =
    ap (close_from 0) (sym (rest_slice c.args.text.now 2)) ∙ sym c.close_at.ensures ∙ c.in-Some.is in
    block_front c.args.text.now c.in-Some.length (c.in-Some.length + 4) (sym c.starts_with-2.ensures.value ∙ c.if-starts_with-2.true) close refl

pub returns-in-None : goal.returns-in-None
returns-in-None c =
    let close : close_from 0 (drop 2 c.args.text.now) ≡ None =
    ap (close_from 0) (sym (rest_slice c.args.text.now 2)) ∙ sym c.close_at.ensures ∙ c.in-None.is in
    (refl, open_front c.args.text.now (sym c.starts_with-2.ensures.value ∙ c.if-starts_with-2.true) close)

pub returns-in-Some-mark_at : goal.returns-in-Some-mark_at
returns-in-Some-mark_at c =
    let other : IsOther c.args.text.now = record {
      some = c.requires;
      no_blank = sym c.is_blank.ensures ∙ c.if-is_blank.false;
      no_line = sym c.starts_with.ensures.value ∙ c.if-starts_with.false;
      no_block = sym c.starts_with-2.ensures.value ∙ c.if-starts_with-2.false;
      no_word = sym c.is_word_byte.ensures ∙ c.if-is_word_byte.false;
    } in
    subst (λ (xs : List ℕ). IsToken c.args.text.now (kind.Mark c.in-Some-mark_at.mark) (length xs)) (sym c.spelling.ensures)
    (mark_front c.args.text.now c.in-Some-mark_at.mark other (sym c.mark_at.ensures ∙ c.in-Some-mark_at.is))

pub returns-in-None-mark_at : goal.returns-in-None-mark_at
returns-in-None-mark_at c =
    let other : IsOther c.args.text.now = record {
      some = c.requires;
      no_blank = sym c.is_blank.ensures ∙ c.if-is_blank.false;
      no_line = sym c.starts_with.ensures.value ∙ c.if-starts_with.false;
      no_block = sym c.starts_with-2.ensures.value ∙ c.if-starts_with-2.false;
      no_word = sym c.is_word_byte.ensures ∙ c.if-is_word_byte.false;
    } in
    (refl, bad_front c.args.text.now other (sym c.mark_at.ensures ∙ c.in-None-mark_at.is))
