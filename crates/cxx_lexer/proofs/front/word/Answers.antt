use Rattle.std.proofs.Common.{◌≡◌, refl, sym, subst, ◌∙◌, w32, rules}
use Rattle.std.proofs.lemmas.Int.{to_z-of_z}
use mir.Val.{SFits, to_z, of_z}
use Rattle.cxx_ast.specs.declared.token.TokenKind.TheVariants as kind
use Rattle.cxx_lexer.specs.FrontOf.{IsToken}
use Rattle.cxx_lexer.proofs.Fronts.{keyword_front, name_front, number_front, range_front}
use Rattle.cxx_lexer.proofs.front.word.Goals as goal

pub returns-in-Some : goal.returns-in-Some
returns-in-Some c =
    keyword_front c.args.text.now c.word_length-length.result c.in-Some.word c.requires.some c.requires.word c.word_length-length.ensures
    (sym c.is_ascii_digit.ensures.value ∙ c.if-not-is_ascii_digit.true) (sym c.keyword_of.ensures ∙ c.in-Some.is)

pub returns-in-None : goal.returns-in-None
returns-in-None c =
    name_front c.args.text.now c.word_length-length.result c.requires.some c.requires.word c.word_length-length.ensures
    (sym c.is_ascii_digit.ensures.value ∙ c.if-not-is_ascii_digit.true) (sym c.keyword_of.ensures ∙ c.in-None.is)

pub returns-in-Some-literal_value : goal.returns-in-Some-literal_value
returns-in-Some-literal_value c =
    let fits : SFits w32 c.in-Some-literal_value.value = search rules in
    let same : to_z w32 (of_z w32 c.in-Some-literal_value.value) ≡ c.in-Some-literal_value.value = to_z-of_z w32 c.in-Some-literal_value.value fits in
    subst (λ v. IsToken c.args.text.now (kind.Number v) c.word_length-length.result) (sym same)
    (number_front c.args.text.now c.word_length-length.result c.in-Some-literal_value.value c.requires.some c.requires.word c.word_length-length.ensures
    (sym c.is_ascii_digit.ensures.value ∙ c.if-not-is_ascii_digit.false) (sym c.literal_value.ensures ∙ c.in-Some-literal_value.is))

pub returns-in-None-literal_value : goal.returns-in-None-literal_value
returns-in-None-literal_value c = (
  refl,
  range_front c.args.text.now c.word_length-length.result c.requires.some c.requires.word c.word_length-length.ensures
      (sym c.is_ascii_digit.ensures.value ∙ c.if-not-is_ascii_digit.false) (sym c.literal_value.ensures ∙ c.in-None-literal_value.is),
)
