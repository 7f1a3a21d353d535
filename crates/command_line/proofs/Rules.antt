-- What clap builds of the options and the operands, and what it finds among them.
use Rattle.std.proofs.Common.{◌≡◌, ◌∙◌, ℕ, Bool, true, false, ◌&&◌, ◌||◌, not, cond, List, [], ◌∷◌, ◌++◌, map, Some, None, refl, sym, ap, subst, bytes_eq}
use Rattle.std.specs.Prelude.{count_by, is_some}
use Rattle.std.specs.List.{fold, list_all, list_any}
use Rattle.std.specs.Option.{option_map}
use Rattle.std.proofs.lemmas.Bool.{and_from}
use Rattle.clap.specs.Faults.{check_fault, defaults_fault, is_free_app, is_simple_and_free}
use Rattle.clap.specs.Kinds.{Kinds, or_else}
use Rattle.clap.specs.Simple.{App, Shape, built, filled, filled_from, is_buildable, is_in_order, is_ready, is_ready_leaf, is_simple, with_index}
use Rattle.clap.specs.Takes.{is_given}
use Rattle.clap.specs.Walk.{Row, Rule, arg_by_id, arg_by_index, arg_by_long, arg_by_short, has_row, is_early_multiple, with_default}
use Rattle.command_line.specs.declared.setting.Setting.{Setting}
use Rattle.command_line.specs.declared.setting.Setting.TheVariants.{Input, Max, Trace, Count, Standard, Foreign, Thrown}
use Rattle.command_line.specs.Matches.{app_of_settings, operand_name, operand_rule, rule_of_setting}
use Rattle.command_line.specs.Pieces.{setting_of}
use Rattle.command_line.specs.Setting.{name_of}
use Rattle.plain_text.proofs.Texts.{same_text}

abbrev pub option_built : Setting → Rule
option_built s = with_index 1 (filled (rule_of_setting s))

abbrev pub operand_built : Rule
operand_built = with_index 1 (filled operand_rule)

abbrev pub rules : List Setting → List Rule
rules ss = map option_built ss ++ operand_built ∷ []

-- the shape of the command without options, and with them
abbrev pub shape : List Setting → Shape
shape ss = record (built (app_of_settings [])).top { rules = rules ss }

abbrev pub app_built : List Setting → App
app_built ss = record { top = shape ss; subs = [] }

filled_rules : (ss : List Setting) → filled_from 1 (map rule_of_setting ss ++ operand_rule ∷ []) ≡ rules ss
filled_rules [] = refl
filled_rules (s ∷ ss) = ap (λ (rs : List Rule). option_built s ∷ rs) (filled_rules ss)

pub built_is : (ss : List Setting) → built (app_of_settings ss) ≡ app_built ss
built_is ss = ap (λ (rs : List Rule). record { top = record (built (app_of_settings [])).top { rules = rs }; subs = [] }) (filled_rules ss)

-- ---- what is found

pub by_long : (ss : List Setting) (name : List ℕ) → arg_by_long (rules ss) name ≡ option_map option_built (setting_of ss name)
by_long [] name = refl
by_long (s ∷ ss) name = go (bytes_eq (name_of s) name) (by_long ss name)
  where
    go : (b : Bool) → arg_by_long (rules ss) name ≡ option_map option_built (setting_of ss name)
        → cond (b || false) (Some (option_built s)) (arg_by_long (rules ss) name) ≡ option_map option_built (cond b (Some s) (setting_of ss name))
    go true e = refl
    go false e = e

pub operand_apart : (s : Setting) → bytes_eq operand_name (name_of s) ≡ false
operand_apart Input = refl
operand_apart Max = refl
operand_apart Trace = refl
operand_apart Count = refl
operand_apart Standard = refl
operand_apart Foreign = refl
operand_apart Thrown = refl

pub option_apart : (s : Setting) → bytes_eq (name_of s) operand_name ≡ false
option_apart Input = refl
option_apart Max = refl
option_apart Trace = refl
option_apart Count = refl
option_apart Standard = refl
option_apart Foreign = refl
option_apart Thrown = refl

by_name : (ss : List Setting) (t : Setting) → arg_by_id (rules ss) (name_of t) ≡ option_map option_built (setting_of ss (name_of t))
by_name [] t = let apart : bytes_eq operand_name (name_of t) ≡ false = operand_apart t in rw apart refl
by_name (s ∷ ss) t = go (bytes_eq (name_of s) (name_of t)) (by_name ss t)
  where
    go : (b : Bool) → arg_by_id (rules ss) (name_of t) ≡ option_map option_built (setting_of ss (name_of t))
        → cond b (Some (option_built s)) (arg_by_id (rules ss) (name_of t)) ≡ option_map option_built (cond b (Some s) (setting_of ss (name_of t)))
    go true e = refl
    go false e = e

-- an option that is found has the name
found_name : (ss : List Setting) (name : List ℕ) (s : Setting) → setting_of ss name ≡ Some s → name ≡ name_of s
found_name [] name s e = absurd (cc)
found_name (t ∷ ss) name s e = go (bytes_eq (name_of t) name) refl e (found_name ss name s)
  where
    go : (b : Bool) → bytes_eq (name_of t) name ≡ b → cond b (Some t) (setting_of ss name) ≡ Some s → (setting_of ss name ≡ Some s → name ≡ name_of s) → name ≡ name_of s
    go true hit same others = let at : t ≡ s = cc in sym (same_text (name_of t) name hit) ∙ ap name_of at
    go false miss same others = others same

-- it is found by its own name, and by its id
pub found_again : (ss : List Setting) (name : List ℕ) (s : Setting) → setting_of ss name ≡ Some s → setting_of ss (name_of s) ≡ Some s
found_again ss name s e = ap (setting_of ss) (sym (found_name ss name s e)) ∙ e

pub option_by_id : (ss : List Setting) (s : Setting) → setting_of ss (name_of s) ≡ Some s → arg_by_id (rules ss) (name_of s) ≡ Some (option_built s)
option_by_id ss s e = by_name ss s ∙ ap (option_map option_built) e

pub operand_by_id : (ss : List Setting) → arg_by_id (rules ss) operand_name ≡ Some operand_built
operand_by_id [] = refl
operand_by_id (s ∷ ss) = let apart : bytes_eq (name_of s) operand_name ≡ false = option_apart s in rw apart (operand_by_id ss)

pub by_short : (ss : List Setting) (c : ℕ) → arg_by_short (rules ss) c ≡ None
by_short [] c = refl
by_short (s ∷ ss) c = by_short ss c

pub by_index : (ss : List Setting) → arg_by_index (rules ss) 1 ≡ Some operand_built
by_index [] = refl
by_index (s ∷ ss) = by_index ss

-- ---- clap gives the matches and the faults of such a command exactly

simple_given : (ss : List Setting) → list_all (λ (a : Rule). a.is_simple) (map rule_of_setting ss ++ operand_rule ∷ []) ≡ true
simple_given [] = refl
simple_given (s ∷ ss) = simple_given ss

simple_built : (ss : List Setting) → list_all (λ (a : Rule). a.is_simple) (rules ss) ≡ true
simple_built [] = refl
simple_built (s ∷ ss) = simple_built ss

free_built : (ss : List Setting) → list_all (λ (a : Rule). a.is_free) (rules ss) ≡ true
free_built [] = refl
free_built (s ∷ ss) = free_built ss

one_positional : (ss : List Setting) → count_by (λ (a : Rule). is_some a.index) (rules ss) ≡ 1
one_positional [] = refl
one_positional (s ∷ ss) = one_positional ss

none_early : (ss : List Setting) → list_any (is_early_multiple 1) (rules ss) ≡ false
none_early [] = refl
none_early (s ∷ ss) = none_early ss

in_order : (ss : List Setting) → is_in_order (rules ss) ≡ true
in_order ss = ap (λ n. not (list_any (is_early_multiple n) (rules ss))) (one_positional ss) ∙ ap not (none_early ss)

buildable : (ss : List Setting) → is_buildable (app_of_settings ss) ≡ true
buildable ss = and_from (list_all (λ (a : Rule). a.is_simple) (map rule_of_setting ss ++ operand_rule ∷ [])) true (simple_given ss) refl

ready : (ss : List Setting) → is_ready (shape ss) ≡ true
ready ss = and_from (list_all (λ (a : Rule). a.is_simple) (rules ss)) (is_in_order (rules ss)) (simple_built ss) (in_order ss)

pub is_simple_app : (ss : List Setting) → is_simple (app_of_settings ss) ≡ true
is_simple_app ss =
    let a = app_of_settings ss in
    let all : (is_ready (built a).top && list_all is_ready_leaf (built a).subs) ≡ true =
    subst (λ (b : App). (is_ready b.top && list_all is_ready_leaf b.subs) ≡ true) (sym (built_is ss)) (and_from (is_ready (shape ss)) true (ready ss) refl) in
    and_from (is_buildable a) (is_ready (built a).top && list_all is_ready_leaf (built a).subs) (buildable ss) all

pub exact_app : (ss : List Setting) → is_simple_and_free (app_of_settings ss) ≡ true
exact_app ss =
    let a = app_of_settings ss in
    let free : is_free_app (built a) ≡ true =
    subst (λ (b : App). is_free_app b ≡ true) (sym (built_is ss)) (and_from (list_all (λ (r : Rule). r.is_free) (rules ss)) true (free_built ss) refl) in
    and_from (is_simple a) (is_free_app (built a)) (is_simple_app ss) free

-- ---- after the walk nothing is missing, and nothing has a default

none_required : (ss : List Setting) (rows : List Row) → list_any (λ (a : Rule). a.required && not (is_given a.id rows)) (rules ss) ≡ false
none_required [] rows = refl
none_required (s ∷ ss) rows = none_required ss rows

pub nothing_missing : (ss : List Setting) (rows : List Row) → check_fault (shape ss) rows false ≡ []
nothing_missing ss rows = rw (none_required ss rows) refl

either_way : {X : Type 0} (b : Bool) (x : X) → cond b x x ≡ x
either_way true x = refl
either_way false x = refl

pub no_defaults : (ss : List Setting) (rows : List Row) → fold with_default rows (rules ss) ≡ rows
no_defaults [] rows = either_way (has_row operand_name rows) rows
no_defaults (s ∷ ss) rows = ap (λ (rs : List Row). fold with_default rs (rules ss)) (either_way (has_row (name_of s) rows) rows) ∙ no_defaults ss rows

pub no_default_faults : (ss : List Setting) (rows : List Row) → defaults_fault rows (rules ss) ≡ []
unfolding defaults_fault
no_default_faults [] rows = ap (λ (k : Kinds). or_else k []) (either_way (has_row operand_name rows || true) [])
no_default_faults (s ∷ ss) rows =
    ap (λ (k : Kinds). or_else k (defaults_fault (with_default rows (option_built s)) (rules ss))) (either_way (has_row (name_of s) rows || true) [])
    ∙ (ap (λ (rs : List Row). defaults_fault rs (rules ss)) (either_way (has_row (name_of s) rows) rows) ∙ no_default_faults ss rows)
